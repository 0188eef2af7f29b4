-- The latches of a state (Sound's clauses latches_match and placed): what leaves those of all parties right, and what a party that moves must show of its own.
use Rattle.std.specs.Prelude.{◌≡◌, refl, List, [], ◌∷◌, length}
use Rattle.std.proofs.Math.Path.{sym, subst, ap}
use Rattle.std.proofs.Common.{◌∙◌, inl, inr, arith}
use Rattle.std.proofs.Math.Option.{Option, none, some}
use Prim.Native.Nat.{zero, suc, ◌-◌, ◌<◌, ℕ}
use Rattle.std.proofs.Math.Decide.{ℕ_discrete}
use Rattle.machine.specs.Holders.{latch_word}
use Rattle.machine.specs.Tree.{sum_e}
use Rattle.machine.specs.State.{Desc, Tree, Stage, start, enter, change, take, Request, State, session_of, on_session, on_tree, on_leaf, on_leaves, on_desc, pin_desc, set_hand, at}
use Rattle.machine.specs.Descent.{Sons, on_latch, unlatched, node}
use Rattle.machine.specs.Steps.{pinned, unpin, unlatch, ended}
use Rattle.machine.specs.Sound.{of_hand, stands, Latched, latch_count, Room, Latches}
use Rattle.machine.specs.Context.{Ctx, hole, down, plug, Focus, Focused}
use Rattle.machine.specs.Table.{hand_put, hand-other, hand-seat}
use Rattle.machine.specs.Focus.{focused, latches_around, latches-plug}
use Rattle.machine.specs.Latched.{bit-yes, bit-no, latched-map, Others, others-trans, others-plug, framed-others, framed-count, framed-latched, framed-leaf, framed-leaves, Framed}
use Rattle.machine.specs.Parts.{Fits, free_other, relatched-others}

-- One for a request that stands at a node.
abbrev pub hand_stands : Option Request → ℕ
hand_stands h = of_hand 0 (λ r. stands r.stage) h

-- ---- all parties but p

-- Their requests in hand are the same, and their latches are where they were.
pub record Spared (p : ℕ) (s t : State) : Type 1 where
  pub others : Others p (suc s.root.height) s.root.node (suc t.root.height) t.root.node
  pub root_kept : (q : ℕ) → ¬ (p ≡ q) → s.root.node.latch ≡ latch_word q → t.root.node.latch ≡ latch_word q
  pub hands : (q : ℕ) → ¬ (p ≡ q) → (session_of q t).hand ≡ (session_of q s).hand

-- The housekeeper's room speaks of the root's latch.
room-kept : (s t : State) (q h n : ℕ) → (s.root.node.latch ≡ latch_word q → t.root.node.latch ≡ latch_word q) → Room s q h n → Room t q h n
room-kept s t zero h n f (inl r) = inl r
room-kept s t zero h n f (inr r) = inr (f r.0, r.1)
room-kept s t (suc q) h n f r = r

pub fits-room : (s : State) (p h n : ℕ) → Fits p n → Room s p h n
fits-room s zero h n f = inl f
fits-room s (suc p) h n f = f

-- With its own latch, as its request in hand says, all are right.
spared-latches : (p : ℕ) (s t : State) → Latches s → Spared p s t
    → latch_count (latch_word p) (suc t.root.height) t.root.node ≡ hand_stands (session_of p t).hand
    → ((r : Request) (x : ℕ) → (session_of p t).hand ≡ some r → r.stage ≡ at x → Latched (latch_word p) x (Room t p) (suc t.root.height) t.root.node) → Latches t
spared-latches p s t L S once there = record {
  latches_match = λ q. match q (ℕ_discrete p q);
  placed = λ q. place q (ℕ_discrete p q);
}
  where
    match : (q : ℕ) → Dec (p ≡ q) → latch_count (latch_word q) (suc t.root.height) t.root.node ≡ hand_stands (session_of q t).hand
    match q (yes e) = subst (λ q. latch_count (latch_word q) (suc t.root.height) t.root.node ≡ hand_stands (session_of q t).hand) e once
    match q (no n) = S.others.counts q n ∙ L.latches_match q ∙ ap hand_stands (sym (S.hands q n))

    place : (q : ℕ) → Dec (p ≡ q) → (r : Request) (x : ℕ) → (session_of q t).hand ≡ some r → r.stage ≡ at x
        → Latched (latch_word q) x (Room t q) (suc t.root.height) t.root.node
    place q (yes e) = subst (λ q. (r : Request) (x : ℕ) → (session_of q t).hand ≡ some r → r.stage ≡ at x → Latched (latch_word q) x (Room t q) (suc t.root.height) t.root.node) e there
    place q (no n) = λ r x e g. latched-map (latch_word q) x (Room s q) (Room t q) (λ h m. room-kept s t q h m (S.root_kept q n)) (suc t.root.height) t.root.node
        (S.others.paths q x (Room s q) n (L.placed q r x (sym (S.hands q n) ∙ e) g))

-- ---- the request of p afterwards

abbrev target : Stage → ℕ
target start = 0
target (enter x) = 0
target (at x) = x
target change = 0
target (take x) = 0

module _ (p : ℕ) (s t : State) (L : Latches s) (S : Spared p s t) (seat : p < length t.table) where
  spared-hand : (h : Option Request) → Spared p s (set_hand p h t)
  unfolding set_hand on_session
  spared-hand h = record { others = S.others; root_kept = S.root_kept; hands = λ q n. ap (λ z. z.hand) (hand-other p q h t n) ∙ S.hands q n }

  own-hand : (h : Option Request) → (session_of p (set_hand p h t)).hand ≡ h
  own-hand h = ap (λ z. z.hand) (hand_put p h t seat)

  -- It stands at a node, on its path.
  pub arrive-latches : (r : Request) (x : ℕ) → r.stage ≡ at x → latch_count (latch_word p) (suc t.root.height) t.root.node ≡ 1
      → Latched (latch_word p) x (Room t p) (suc t.root.height) t.root.node → Latches (set_hand p (some r) t)
  unfolding set_hand on_session
  arrive-latches r x e c l = spared-latches p s (set_hand p (some r) t) L (spared-hand (some r))
      (c ∙ sym (ap hand_stands (own-hand (some r)) ∙ ap stands e))
      (λ r' x' e' g. let z : x ≡ x' = ap target (sym e ∙ ap (of_hand start (λ r. r.stage)) (sym (own-hand (some r)) ∙ e') ∙ g) in
      latched-map (latch_word p) x' (Room t p) (Room (set_hand p (some r) t) p) (λ h n. room-kept t (set_hand p (some r) t) p h n (λ w. w)) (suc t.root.height) t.root.node
      (subst (λ y. Latched (latch_word p) y (Room t p) (suc t.root.height) t.root.node) z l))

  -- It stands nowhere.
  pub leave-latches : (h : Option Request) → hand_stands h ≡ 0 → latch_count (latch_word p) (suc t.root.height) t.root.node ≡ 0 → Latches (set_hand p h t)
  unfolding set_hand on_session
  leave-latches h e c = spared-latches p s (set_hand p h t) L (spared-hand h)
      (c ∙ sym (ap hand_stands (own-hand h) ∙ e))
      (λ r x e' g. absurd (omega (arith, sym e ∙ ap hand_stands (sym (own-hand h) ∙ e') ∙ ap stands g)))

-- ---- changes of the tree in place

module _ (f : (h : ℕ) → Tree h → Tree h) (s : State) where
  -- At the node where p stands.
  pub focus-spared : (p x k : ℕ) (u v : Tree (suc k)) (F : Focus p x s k u) → f (suc s.root.height) s.root.node ≡ plug F.around v → Others p (suc k) u (suc k) v → Spared p s (on_tree f s)
  unfolding on_tree session_of
  focus-spared p x k u v F e O = record {
    others = subst (λ n. Others p (suc s.root.height) s.root.node (suc s.root.height) n) (sym e)
        (subst (λ n. Others p (suc s.root.height) n (suc s.root.height) (plug F.around v)) (sym F.is) (others-plug p F.around u v O));
    root_kept = λ q n g. ap (λ t. t.latch) e ∙ go F.around u v (free_other p q u.latch n (inr F.latch)) (sym (ap (λ t. t.latch) F.is) ∙ g);
    hands = λ q n. refl;
  }
    where
      go : {i j w : ℕ} (c : Ctx (suc i) (suc j)) (u v : Tree (suc i)) → ¬ (u.latch ≡ w) → (plug c u).latch ≡ w → (plug c v).latch ≡ w
      go hole u v n e = absurd (n e)
      go (down w pre c b post) u v n e = e

  -- In descriptors alone.
  module _ (g : Framed (suc s.root.height) s.root.node (f (suc s.root.height) s.root.node)) where
    pub framed-spared : (p : ℕ) → Spared p s (on_tree f s)
    unfolding on_tree session_of Framed
    framed-spared p = record {
      others = framed-others p (suc s.root.height) s.root.node (f (suc s.root.height) s.root.node) g;
      root_kept = λ q n e. g.0 ∙ e;
      hands = λ q n. refl;
    }

    pub framed-latches : Latches s → Latches (on_tree f s)
    unfolding on_tree session_of Framed
    framed-latches L =
        let h = suc s.root.height in
        let t = s.root.node in
        record {
          latches_match = λ q. framed-count (latch_word q) h t (f h t) g ∙ L.latches_match q;
          placed = λ q r x e k. latched-map (latch_word q) x (Room s q) (Room (on_tree f s) q) (λ j n. room-kept s (on_tree f s) q j n (λ w. g.0 ∙ w)) h (f h t)
              (framed-latched (latch_word q) x (Room s q) h t (f h t) g (L.placed q r x e k));
        }

pub desc-latches : (k : ℕ) (f : Desc → Desc) (s : State) → Latches s → Latches (on_desc k f s)
desc-latches k f s = framed-latches (on_leaf k f) s (framed-leaf k f (suc s.root.height) s.root.node)

pub leaves-latches : (f : Desc → Desc) (s : State) → Latches s → Latches (on_tree (on_leaves f) s)
leaves-latches f s = framed-latches (on_leaves f) s (framed-leaves f (suc s.root.height) s.root.node)

-- ---- requests in hand that stand where they stood

pub hand-latches : (s t : State) → t.root ≡ s.root → ((q : ℕ) → hand_stands (session_of q t).hand ≡ hand_stands (session_of q s).hand)
    → ((q : ℕ) (r : Request) (x : ℕ) → (session_of q t).hand ≡ some r → r.stage ≡ at x → (k : Request) × ((session_of q s).hand ≡ some k) × (k.stage ≡ at x)) → Latches s → Latches t
hand-latches s t e m k L = record {
  latches_match = λ q. subst (λ z. latch_count (latch_word q) (suc z.height) z.node ≡ hand_stands (session_of q t).hand) (sym e) (L.latches_match q ∙ sym (m q));
  placed = λ q r x g w. let z = k q r x g w in
      latched-map (latch_word q) x (Room s q) (Room t q) (λ h n. room-kept s t q h n (λ l. ap (λ z. z.node.latch) e ∙ l)) (suc t.root.height) t.root.node
      (subst (λ y. Latched (latch_word q) x (Room s q) (suc y.height) y.node) (sym e) (L.placed q z.0 x z.1 z.2));
}

pub kept-latches : (s t : State) → t.root ≡ s.root → ((q : ℕ) → (session_of q t).hand ≡ (session_of q s).hand) → Latches s → Latches t
kept-latches s t e k = hand-latches s t e (λ q. ap hand_stands (k q)) (λ q r x g w. (r, sym (k q) ∙ g, w))

-- ---- p has no latch any more

pub record Released (p : ℕ) (s t : State) : Type 1 where
  pub spared : Spared p s t
  pub gone : latch_count (latch_word p) (suc t.root.height) t.root.node ≡ 0
  pub table_same : t.table ≡ s.table

-- Its request ends, or goes on where it stands at no node.
pub released-latches : (p : ℕ) (s t : State) → Latches s → Released p s t → (h : Option Request) → hand_stands h ≡ 0 → p < length s.table → Latches (set_hand p h t)
released-latches p s t L R h e seat = leave-latches p s t L R.spared (subst (λ l. p < length l) (sym R.table_same) seat) h e R.gone

pub released-desc : (p : ℕ) (s t : State) (k : ℕ) (f : Desc → Desc) → Released p s t → Released p s (on_desc k f t)
unfolding on_tree
released-desc p s t k f R =
    let h = suc t.root.height in
    let u = t.root.node in
    let g = framed-leaf k f h u in
    let A = framed-spared (on_leaf k f) t g p in
    record {
      spared = record {
        others = others-trans p (suc s.root.height) s.root.node h u h (on_leaf k f h u) R.spared.others A.others;
        root_kept = λ q n e. A.root_kept q n (R.spared.root_kept q n e);
        hands = λ q n. A.hands q n ∙ R.spared.hands q n;
      };
      gone = framed-count (latch_word p) h u (on_leaf k f h u) g ∙ R.gone;
      table_same = R.table_same;
    }

pub released-unpin : (p : ℕ) (s : State) (ks : List ℕ) (t : State) → Released p s t → Released p s (unpin ks t)
unfolding unpin
released-unpin p s [] t R = R
released-unpin p s (k ∷ ks) t R = released-unpin p s ks (on_desc k (pin_desc (λ n. n - 1)) t) (released-desc p s t k (pin_desc (λ n. n - 1)) R)

-- ---- the latch where p stands

pub own-once : (p : ℕ) (r : Request) (x : ℕ) (s : State) → Latches s → (session_of p s).hand ≡ some r → r.stage ≡ at x → latch_count (latch_word p) (suc s.root.height) s.root.node ≡ 1
own-once p r x s L e g = L.latches_match p ∙ ap hand_stands e ∙ ap stands g

-- It is at the focus and nowhere else.
pub focus-once : (p x : ℕ) (s : State) (k : ℕ) (u : Tree (suc k)) (F : Focus p x s k u) → latch_count (latch_word p) (suc s.root.height) s.root.node ≡ 1
    → (latches_around (latch_word p) F.around ≡ 0) × (latch_count (latch_word p) (suc k) u ≡ 1) × (sum_e (latch_count (latch_word p) k) u.sons ≡ 0)
unfolding latch_count
focus-once p x s k u F c =
    let z = sym c ∙ ap (latch_count (latch_word p) (suc s.root.height)) F.is ∙ latches-plug (latch_word p) F.around u in
    let b = bit-yes u.latch (latch_word p) F.latch in
    (omega (arith, z, b), omega (arith, z, b), omega (arith, z, b))

-- The node's latch is taken away, and its sons become es, in which p has no latch.
pub focus-released : (f : (h : ℕ) → Tree h → Tree h) (s : State) (p x k : ℕ) (u : Tree (suc k)) (es : Sons k) (F : Focus p x s k u) → f (suc s.root.height) s.root.node ≡ plug F.around (node 0 es)
    → Others p (suc k) u (suc k) (node 0 es) → latch_count (latch_word p) (suc s.root.height) s.root.node ≡ 1 → sum_e (latch_count (latch_word p) k) es ≡ 0 → Released p s (on_tree f s)
unfolding on_tree latch_count
focus-released f s p x k u es F e O c z = record {
  spared = focus-spared f s p x k u (node 0 es) F e O;
  gone = ap (latch_count (latch_word p) (suc s.root.height)) e ∙ latches-plug (latch_word p) F.around (node 0 es)
      ∙ omega (arith, (focus-once p x s k u F c).0, bit-no 0 (latch_word p) (omega arith), z);
  table_same = refl;
}

unlatch-released : (p : ℕ) (r : Request) (x : ℕ) (s : State) → Latches s → (session_of p s).hand ≡ some r → r.stage ≡ at x → Released p s (unlatch p (at x) s)
unfolding unlatch unlatched
unlatch-released p r x s L e g = go (focused p x s (L.placed p r x e g))
  where
    go : Focused p x s → Released p s (on_tree (on_latch (latch_word p) x unlatched) s)
    go Z =
        let c = own-once p r x s L e g in
        let F = Z.focus in
        focus-released (on_latch (latch_word p) x unlatched) s p x Z.level Z.node Z.node.sons F (F.changes unlatched)
        (relatched-others p Z.level 0 Z.node (inr F.latch) (inl refl)) c (focus-once p x s Z.level Z.node F c).2

stay-released : (p : ℕ) (s : State) → latch_count (latch_word p) (suc s.root.height) s.root.node ≡ 0 → Released p s s
stay-released p s c = record {
  spared = record { others = record { counts = λ q n. refl; paths = λ q y F n l. l }; root_kept = λ q n e. e; hands = λ q n. refl };
  gone = c;
  table_same = refl;
}

pub stage-released : (p : ℕ) (r : Request) (s : State) → Latches s → (session_of p s).hand ≡ some r → Released p s (unlatch p r.stage s)
unfolding unlatch
stage-released p r s L e = go r.stage refl
  where
    none-stands : (g : Stage) → r.stage ≡ g → stands g ≡ 0 → Released p s s
    none-stands g w z = stay-released p s (L.latches_match p ∙ ap hand_stands e ∙ ap stands w ∙ z)

    go : (g : Stage) → r.stage ≡ g → Released p s (unlatch p g s)
    go start w = none-stands start w refl
    go (enter x) w = none-stands (enter x) w refl
    go (at x) w = unlatch-released p r x s L e w
    go change w = none-stands change w refl
    go (take x) w = none-stands (take x) w refl

-- ---- what steps share

-- The latch ends, and the request ends or stands at no node.
pub unlatch-latches : (p : ℕ) (r : Request) (x : ℕ) (s : State) → Latches s → (session_of p s).hand ≡ some r → r.stage ≡ at x → (h : Option Request) → hand_stands h ≡ 0
    → Latches (set_hand p h (unlatch p (at x) s))
unlatch-latches p r x s L e g h z = released-latches p s (unlatch p (at x) s) L (unlatch-released p r x s L e g) h z (hand-seat p r s e)

pub ended-latches : (p : ℕ) (r : Request) (s : State) → Latches s → (session_of p s).hand ≡ some r → Latches (ended p r s)
unfolding ended
ended-latches p r s L e =
    let u = unlatch p r.stage s in
    let ks = pinned r r.stage in
    released-latches p s (unpin ks u) L (released-unpin p s ks u (stage-released p r s L e)) none refl (hand-seat p r s e)
