-- Where a party stands in a layout's tree, where the descriptor of a key is, and what a layout means where one of its parts or a session record is another.
use Rattle.std.specs.Prelude.{◌≡◌, refl, false, not, List, [], ◌∷◌, ◌++◌, ◌⊎◌, ℕ, zero, suc, ◌+◌, ◌≤◌, ◌<◌, eqb, length, get_or, set}
use Rattle.std.proofs.Common.{sym, ap, subst, ◌∙◌, inl, inr, arith, eq-eqb, ne_eqb}
use Rattle.std.proofs.Math.Option.{some}
use Rattle.sessions.specs.declared.Session.{Session}
use Rattle.sessions.specs.Sessions.{session_at, tenure}
use Rattle.machine.specs.Tree.{leaves, map_e, map_e-append, sum_e, sum_e-append, Seg, Hit, hit}
use Rattle.machine.specs.Holders.{width, latch_word}
use Rattle.machine.specs.State.{Desc, Tree, idle, session_of, set_hand, on_session, on_tree, on_leaf, on_desc, with_root, with_table, top}
use Rattle.machine.specs.Sound as S
use Rattle.machine.specs.Sound.{latch_count, OnPath, Latched, Room, stands, of_hand}
use Rattle.machine.specs.Context.{Focus, plug}
use Rattle.machine.specs.Focus.{Parted, parted, latches-plug}
use Rattle.machine.specs.Housekeeping.{Ordered}
use Rattle.machine.specs.Order.{Ord, In, ord-in}
use Rattle.machine.specs.Looks.{sound-ordered}
use Rattle.meaning.specs.Reading.{Leaf, Mark, Numbered, erase, hand_of}
use Rattle.meaning.specs.Numbers.{one-is}
use Rattle.meaning.specs.Around.{NCtx, here, under, fill, erase_ctx, erase-fill, Way, way-erase, leaves-fill}
use Rattle.meaning.specs.Lens.{descs, leaves_before, leaves_behind, leaves-erase, keys-around, leaf-plug}
use Rattle.meaning.specs.Latched.{focus-here, at_request}
use Rattle.layout.specs.Layout.{Lay, Undone, leaves_in, Has, SomeSon, Marked, HandFits, means, session_in, sessions_in}

-- ---- session records

module _ (u : ℕ → List Undone) where
  sessions-get : (q p : ℕ) (t : List Session) → p < length t → get_or (sessions_in u q t) p idle ≡ session_in u (q + p) (session_at t p)
  sessions-get q p [] l = absurd (omega (arith, l))
  sessions-get q zero (x ∷ t) l = let e : q ≡ q + 0 = omega arith in ap (λ n. session_in u n x) e
  sessions-get q (suc p) (x ∷ t) l =
      let e : suc q + p ≡ q + suc p = omega arith in
      sessions-get (suc q) p t (omega (arith, l)) ∙ ap (λ n. session_in u n (session_at t p)) e

  sessions-set : (q p : ℕ) (t : List Session) (x : Session) → sessions_in u q (set t p x) ≡ set (sessions_in u q t) p (session_in u (q + p) x)
  sessions-set q zero [] x = refl
  sessions-set q (suc p) [] x = refl
  sessions-set q zero (y ∷ t) x = let e : q ≡ q + 0 = omega arith in ap (λ n. session_in u n x ∷ sessions_in u (suc q) t) e
  sessions-set q (suc p) (y ∷ t) x =
      let e : suc q + p ≡ q + suc p = omega arith in
      ap (λ l. session_in u q y ∷ l) (sessions-set (suc q) p t x ∙ ap (λ n. set (sessions_in u (suc q) t) p (session_in u n x)) e)

  hand-is : (p : ℕ) (x : Session) → (session_in u p x).hand ≡ hand_of x
  hand-is zero x = refl
  hand-is (suc p) x = refl

  -- A session record with the same marks and number differs in its request alone.
  hand_put : (p : ℕ) (x x' : Session) → tenure x' ≡ tenure x
      → session_in u p x' ≡ record { begun = (session_in u p x).begun; order = (session_in u p x).order; hand = hand_of x'; undos = (session_in u p x).undos; asked = (session_in u p x).asked }
  hand_put zero x x' e = ap (λ (b : ℕ × ℕ × ℕ). record { begun = false; order = 0; hand = hand_of x'; undos = []; asked = not (eqb b.2 0) }) e
  hand_put (suc p) x x' e = ap (λ (b : ℕ × ℕ × ℕ). record { begun = not (eqb b.0 0); order = b.1; hand = hand_of x'; undos = (session_in u (suc p) x).undos; asked = not (eqb b.2 0) }) e

pub session-means : (L : Lay) (t : List Session) (p : ℕ) → p < length t → session_of p (means L t) ≡ session_in L.undos p (session_at t p)
unfolding session_of means
session-means L t p l =
    let e : 0 + p ≡ p = omega arith in
    sessions-get L.undos 0 p t l ∙ ap (λ n. session_in L.undos n (session_at t p)) e

pub means-session : (L : Lay) (t : List Session) (p : ℕ) (x' : Session) → means L (set t p x') ≡ on_session p (λ _. session_in L.undos p x') (means L t)
unfolding means on_session
means-session L t p x' =
    let e : 0 + p ≡ p = omega arith in
    ap (λ l. with_table l (means L t)) (sessions-set L.undos 0 p t x' ∙ ap (λ n. set (sessions_in L.undos 0 t) p (session_in L.undos n x')) e)

-- Another request in hand.
pub means-hand : (L : Lay) (t : List Session) (p : ℕ) (x' : Session) → p < length t → tenure x' ≡ tenure (session_at t p) → means L (set t p x') ≡ set_hand p (hand_of x') (means L t)
unfolding set_hand on_session
means-hand L t p x' l e =
    means-session L t p x'
    ∙ ap (λ z. with_table (set (means L t).table p z) (means L t))
    (hand_put L.undos p (session_at t p) x' e ∙ ap (λ y. record { begun = y.begun; order = y.order; hand = hand_of x'; undos = y.undos; asked = y.asked }) (sym (session-means L t p l)))

-- ---- the node where a party stands

-- What lies around the machine's node is read from what lies around the numbered one.
unfoldable pub Erased : (L : Lay) (t : List Session) (p x k : ℕ) (u : Tree (suc k)) → Focus p x (means L t) k u → NCtx (suc k) (suc L.height) → Type 0
unfolding means
Erased L t p x k u F c = F.around ≡ erase_ctx c

pub record AtMark (L : Lay) (t : List Session) (p : ℕ) : Type 0 where
  pub k : ℕ
  pub node : Numbered (suc k)
  pub around : NCtx (suc k) (suc L.height)
  pub is : L.tree ≡ fill around node
  pub way : Way (session_at t p).target around
  pub level : (session_at t p).level ≡ suc k
  pub num : node.latch.num ≡ (session_at t p).at
  pub word : node.latch.word ≡ latch_word p
  pub focus : Focus p (session_at t p).target (means L t) k (erase (suc k) node)
  pub erased : Erased L t p (session_at t p).target k (erase (suc k) node) focus around

-- The numbered node on the path to x that has the latch word w.
record Placed (w x h : ℕ) (t : Numbered h) : Type 0 where
  k : ℕ
  node : Numbered (suc k)
  around : NCtx (suc k) h
  is : t ≡ fill around node
  way : Way x around
  word : node.latch.word ≡ w

path-erase : {A B : Type 0} (f : A → B) (x : ℕ) (P : B → Type 0) (es : List (A × ℕ)) → OnPath x P (map_e f es) → OnPath x (λ a. P (f a)) es
path-erase f x P [] o = o
path-erase f x P (p ∷ es) (inl o) = inl o
path-erase f x P (p ∷ es) (inr o) = inr (o.0, path-erase f x P es o.1)

placed_at : (w x : ℕ) (F : ℕ → ℕ → Type 0) (h : ℕ) (t : Numbered h) → Latched w x F h (erase h t) → Placed w x h t
unfolding Latched erase
placed_at w x F zero t l = absurd l
placed_at w x F (suc h) t (inl l) = record { k = h; node = t; around = here; is = refl; way = tt; word = l.0 }
placed_at w x F (suc h) t (inr l) =
    let c = parted x (λ a. Latched w x F h (erase h a)) t.sons (path-erase (erase h) x (Latched w x F h) t.sons l.1) in
    go c (placed_at w x F h c.a c.holds)
  where
    go : (c : Parted x (λ a. Latched w x F h (erase h a)) t.sons) → Placed w x h c.a → Placed w x (suc h) t
    go c r = record {
      k = r.k;
      node = r.node;
      around = under t.latch c.pre r.around c.b c.post;
      is = ap (λ l. record { latch = t.latch; sons = l }) (c.is ∙ ap (λ a. c.pre ++ (a, c.b) ∷ c.post) r.is);
      way = (c.below, c.upto, r.way);
      word = r.word;
    }

-- How often a latch word stands in some sons.
abbrev latches_in : (w h : ℕ) → List (Numbered h × ℕ) → ℕ
latches_in w h es = sum_e (latch_count w h) (map_e (erase h) es)

latches-append : (w h : ℕ) (a b : List (Numbered h × ℕ)) → latches_in w h (a ++ b) ≡ latches_in w h a + latches_in w h b
latches-append w h a b = ap (sum_e (latch_count w h)) (map_e-append (erase h) a b) ∙ sum_e-append (latch_count w h) (map_e (erase h) a) (map_e (erase h) b)

some-count : (w h : ℕ) (P : Numbered h → Type 0) → ((t : Numbered h) → P t → 1 ≤ latch_count w h (erase h t)) → (es : List (Numbered h × ℕ)) → SomeSon P es → 1 ≤ latches_in w h es
some-count w h P f [] m = absurd m
some-count w h P f (p ∷ es) (inl m) = omega (arith, f p.0 m)
some-count w h P f (p ∷ es) (inr m) = omega (arith, some-count w h P f es m)

marked-count : (j n w h : ℕ) (t : Numbered h) → Marked j n w h t → 1 ≤ latch_count w h (erase h t)
unfolding Marked latch_count erase
marked-count j n w zero t m = absurd m
marked-count j n w (suc h) t (inl m) = omega (arith, one-is t.latch.word w m.2)
marked-count j n w (suc h) t (inr m) = omega (arith, some-count w h (Marked j n w h) (marked-count j n w h) t.sons m)

fill-count : (w : ℕ) {k h : ℕ} (c : NCtx (suc k) h) (u : Numbered (suc k)) → u.latch.word ≡ w → 1 ≤ latch_count w h (erase h (fill c u))
unfolding latch_count erase
fill-count w {k} {h} c u e =
    let z : latch_count w h (erase h (fill c u)) ≡ latch_count w h (plug (erase_ctx c) (erase (suc k) u)) = ap (latch_count w h) (erase-fill c u) in
    omega (arith, z, latches-plug w (erase_ctx c) (erase (suc k) u), one-is u.latch.word w e)

some-parts : {A : Type 0} (P : A → Type 0) (pre : List (A × ℕ)) (a : A) (b : ℕ) (post : List (A × ℕ)) → SomeSon P (pre ++ (a, b) ∷ post) → SomeSon P pre ⊎ (P a ⊎ SomeSon P post)
some-parts P [] a b post m = inr m
some-parts P (p ∷ pre) a b post (inl m) = inl (inl m)
some-parts P (p ∷ pre) a b post (inr m) = go (some-parts P pre a b post m)
  where
    go : SomeSon P pre ⊎ (P a ⊎ SomeSon P post) → (P p.0 ⊎ SomeSon P pre) ⊎ (P a ⊎ SomeSon P post)
    go (inl q) = inl (inr q)
    go (inr q) = inr q

-- A latch word that stands once, at the node in the hole: the marked node is that one.
marked-here : (j n w : ℕ) {k h : ℕ} (c : NCtx (suc k) h) (u : Numbered (suc k)) → u.latch.word ≡ w → latch_count w h (erase h (fill c u)) ≤ 1 → Marked j n w h (fill c u)
    → (suc k ≡ j) × (u.latch.num ≡ n)
unfolding Marked latch_count erase
marked-here j n w here u e l (inl m) = (m.0, m.1)
marked-here j n w {k} here u e l (inr m) =
    absurd (omega (arith, l, one-is u.latch.word w e, some-count w k (Marked j n w k) (marked-count j n w k) u.sons m))
marked-here j n w (under {h = h} v pre c b post) u e l (inl m) =
    absurd (omega (arith, l, one-is v.word w m.2, fill-count w c u e, latches-append w h pre ((fill c u, b) ∷ post)))
marked-here j n w {k} (under {h = h} v pre c b post) u e l (inr m) =
    let s = latches-append w h pre ((fill c u, b) ∷ post) in
    go s (marked-here j n w c u e (omega (arith, l, s))) (some-parts (Marked j n w h) pre (fill c u) b post m)
  where
    go : latches_in w h (pre ++ (fill c u, b) ∷ post) ≡ latches_in w h pre + latches_in w h ((fill c u, b) ∷ post) → (Marked j n w h (fill c u) → (suc k ≡ j) × (u.latch.num ≡ n))
        → SomeSon (Marked j n w h) pre ⊎ (Marked j n w h (fill c u) ⊎ SomeSon (Marked j n w h) post) → (suc k ≡ j) × (u.latch.num ≡ n)
    go s ih (inl q) = absurd (omega (arith, l, s, fill-count w c u e, some-count w h (Marked j n w h) (marked-count j n w h) pre q))
    go s ih (inr (inl q)) = ih q
    go s ih (inr (inr q)) = absurd (omega (arith, l, s, fill-count w c u e, some-count w h (Marked j n w h) (marked-count j n w h) post q))

at-hand : (x : Session) → x.stage ≡ 3 → hand_of x ≡ some (at_request x)
at-hand x e =
    let n : (k : ℕ) → (3 ≡ k → ⊥) → eqb x.stage k ≡ false = λ k f. ne_eqb x.stage k (λ q. f (sym e ∙ q)) in
    rw (n 0 (λ q. omega arith), n 1 (λ q. omega arith), n 2 (λ q. omega arith), eq-eqb x.stage 3 e) refl

at_place : (L : Lay) (t : List Session) → length t ≡ suc width → S.Sound (means L t) → (p : ℕ) → p ≤ width → (session_at t p).stage ≡ 3
    → (latch_count (latch_word p) (suc (means L t).root.height) (means L t).root.node ≤ 1)
    × Latched (latch_word p) (session_at t p).target (Room (means L t) p) (suc (means L t).root.height) (means L t).root.node
at_place L t n A p l e =
    let x = session_at t p in
    let h : (session_of p (means L t)).hand ≡ some (at_request x) = ap (λ z. z.hand) (session-means L t p (omega (arith, n, l))) ∙ hand-is L.undos p x ∙ at-hand x e in
    let m = A.latches_match p ∙ ap (of_hand 0 (λ r. stands r.stage)) h in
    (omega (arith, m), A.placed p (at_request x) x.target h refl)

mark-at : (L : Lay) (t : List Session) (p : ℕ) → latch_count (latch_word p) (suc (means L t).root.height) (means L t).root.node ≤ 1
    → Latched (latch_word p) (session_at t p).target (Room (means L t) p) (suc (means L t).root.height) (means L t).root.node
    → Marked (session_at t p).level (session_at t p).at (latch_word p) (suc L.height) L.tree → AtMark L t p
unfolding means erase Erased
mark-at L t p one there m = go (placed_at (latch_word p) (session_at t p).target (Room (means L t) p) (suc L.height) L.tree there)
  where
    go : Placed (latch_word p) (session_at t p).target (suc L.height) L.tree → AtMark L t p
    go P =
        let w = latch_word p in
        let x = (session_at t p).target in
        let h = suc L.height in
        let q =
        marked-here (session_at t p).level (session_at t p).at w P.around P.node P.word (subst (λ z. latch_count w h (erase h z) ≤ 1) P.is one)
        (subst (λ z. Marked (session_at t p).level (session_at t p).at w h z) P.is m)
        in
        let F =
        focus-here p x (means L t) P.k (erase_ctx P.around) (erase (suc P.k) P.node) (ap (erase h) P.is ∙ erase-fill P.around P.node)
        (way-erase x P.around P.way) P.word one there
        in
        record { k = P.k; node = P.node; around = P.around; is = P.is; way = P.way; level = sym q.0; num = q.1; word = P.word; focus = F.0; erased = F.1 }

pub at_mark : (L : Lay) (t : List Session) → length t ≡ suc width → S.Sound (means L t) → (p : ℕ) → p ≤ width → (session_at t p).stage ≡ 3 → HandFits L p (session_at t p) → AtMark L t p
at_mark L t n A p l e H = let B = at_place L t n A p l e in mark-at L t p B.0 B.1 (H.at-node e)

-- ---- the descriptor of a key

pub record AtKey (L : Lay) (k d : ℕ) : Type 0 where
  pub leaf : Leaf
  pub around : NCtx 0 (suc L.height)
  pub is : L.tree ≡ fill around leaf
  pub way : Way k around
  pub num : leaf.num ≡ d
  pub key : leaf.desc.key ≡ k
  pub was : leaves_in L ≡ leaves_before around ++ leaf ∷ leaves_behind around
  pub below : In 0 k (descs (leaves_before around))
  pub above : In (suc k) (suc top) (descs (leaves_behind around))

-- The leaf on the path to x.
pub record LeafOn (x h : ℕ) (t : Numbered h) : Type 0 where
  pub leaf : Leaf
  pub around : NCtx 0 h
  pub is : t ≡ fill around leaf
  pub way : Way x around

seg-erase : (h lo e : ℕ) (es : List (Numbered h × ℕ)) → Seg (Ord h) lo e (map_e (erase h) es) → Seg (λ l u a. Ord h l u (erase h a)) lo e es
seg-erase h lo e [] q = q
seg-erase h lo e (p ∷ es) q = (q.0, seg-erase h (suc p.1) e es q.1)

pub leaf-on : (x h lo hi : ℕ) (t : Numbered h) → Ord h lo hi (erase h t) → lo ≤ x → x ≤ hi → LeafOn x h t
unfolding Ord erase
leaf-on x zero lo hi t o a b = record { leaf = t; around = here; is = refl; way = tt }
leaf-on x (suc h) lo hi t o a b =
    let H = hit (λ l u z. Ord h l u (erase h z)) x lo (suc hi) t.sons (seg-erase h lo (suc hi) t.sons o) a (omega (arith, b)) in
    go H (leaf-on x h H.m H.u H.a H.here H.from H.upto)
  where
    go : (H : Hit (λ l u z. Ord h l u (erase h z)) x lo (suc hi) t.sons) → LeafOn x h H.a → LeafOn x (suc h) t
    go H r = record {
      leaf = r.leaf;
      around = under t.latch H.pre r.around H.u H.post;
      is = ap (λ l. record { latch = t.latch; sons = l }) (H.eq ∙ ap (λ z. H.pre ++ (z, H.u) ∷ H.post) r.is);
      way = (H.below, H.upto, r.way);
    }

pub has_in : (k d lo e : ℕ) (l : List Leaf) → In lo e (descs l) → Has k d l → (lo ≤ k) × (k < e)
has_in k d lo e [] i h = absurd h
has_in k d lo e (x ∷ l) i (inl h) = let z = h.0 in (omega (arith, z, i.0.0), omega (arith, z, i.0.1))
has_in k d lo e (x ∷ l) i (inr h) = has_in k d lo e l i.1 h

-- Between lower and higher keys it is the descriptor of the key.
pub has-mid : (k d lo hi : ℕ) (A : List Leaf) (l : Leaf) (B : List Leaf) → In lo k (descs A) → In (suc k) hi (descs B) → Has k d (A ++ l ∷ B) → (l.desc.key ≡ k) × (l.num ≡ d)
has-mid k d lo hi [] l B a b (inl h) = h
has-mid k d lo hi [] l B a b (inr h) = absurd (omega (arith, (has_in k d (suc k) hi B b h).0))
has-mid k d lo hi (x ∷ A) l B a b (inl h) = absurd (omega (arith, h.0, a.0.1))
has-mid k d lo hi (x ∷ A) l B a b (inr h) = has-mid k d lo hi A l B a.1 b h

pub key_at : (L : Lay) (k d : ℕ) → Ord (suc L.height) 0 top (erase (suc L.height) L.tree) → Has k d (leaves_in L) → k ≤ top → AtKey L k d
unfolding leaves
key_at L k d o has most = go (leaf-on k (suc L.height) 0 top L.tree o (omega arith) most)
  where
    go : LeafOn k (suc L.height) L.tree → AtKey L k d
    go P =
        let c = P.around in
        let w = ap (leaves Leaf Mark (suc L.height)) P.is ∙ leaves-fill c P.leaf in
        let K = keys-around c P.leaf k 0 top (subst (λ z. Ord (suc L.height) 0 top (erase (suc L.height) z)) P.is o) (omega arith) most P.way in
        let q = has-mid k d 0 (suc top) (leaves_before c) P.leaf (leaves_behind c) K.0 K.1 (subst (Has k d) w has) in
        record { leaf = P.leaf; around = c; is = P.is; way = P.way; num = q.1; key = q.0; was = w; below = K.0; above = K.1 }

pub ordered_of : (L : Lay) (t : List Session) → S.Sound (means L t) → Ord (suc L.height) 0 top (erase (suc L.height) L.tree)
unfolding means Ordered
ordered_of L t A = sound-ordered A

pub at_key : (L : Lay) (t : List Session) → S.Sound (means L t) → (k d : ℕ) → Has k d (leaves_in L) → AtKey L k d
at_key L t A k d has =
    let h = suc L.height in
    let o = ordered_of L t A in
    let i = subst (In 0 (suc top)) (leaves-erase h L.tree) (ord-in h 0 top (erase h L.tree) o) in
    key_at L k d o has (omega (arith, (has_in k d 0 (suc top) (leaves_in L) i has).1))

-- What is done to the descriptor of a key is done to the leaf in the hole.
pub means-desc : (L : Lay) (t : List Session) (k d : ℕ) (A : AtKey L k d) (f : Desc → Desc) (l' : Leaf) → l'.desc ≡ f A.leaf.desc
    → means (record { entries = L.entries; height = L.height; tree = fill A.around l'; members = L.members; undos = L.undos; free = L.free; records = L.records }) t ≡ on_desc k f (means L t)
unfolding means on_tree erase
means-desc L t k d A f l' e =
    let h = suc L.height in
    let c = A.around in
    ap (λ n. with_root (record { height = L.height; node = n }) (means L t))
    (erase-fill c l'
    ∙ ap (plug (erase_ctx c)) e
    ∙ sym (leaf-plug k f (erase_ctx c) A.leaf.desc (way-erase k c A.way))
    ∙ sym (ap (on_leaf k f h) (ap (erase h) A.is ∙ erase-fill c A.leaf)))
