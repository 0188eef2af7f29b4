-- Changes in place: a descriptor's words, latches, requests in hand. The tree keeps its shape, and every record its place.
use Rattle.std.specs.Prelude.{◌≡◌, refl, List, [], ◌∷◌, ◌++◌, leb, eqb, length}
use Rattle.std.proofs.Common.{ap₂, sym, ◌∙◌, subst, ap, arith, length-append}
use Rattle.std.proofs.Math.Option.{Option, none, some}
use Prim.Native.Nat.{zero, suc, ◌+◌, ◌-◌, ◌≤◌, ℕ}
use Rattle.machine.specs.Logic.{either}
use Rattle.machine.specs.Holders.{latch_word}
use Rattle.machine.specs.Tree.{onp, flat, map_e, sum_e, Seg, leaves}
use Rattle.machine.specs.State.{Entry, Desc, Tree, Stage, start, enter, change, take, Request, State, top, on_entry, on_session, on_tree, on_leaf, on_leaves, on_desc, pin_desc, set_hand, in_stage, at}
use Rattle.machine.specs.Descent.{Sons, sons_of, on_latch, unlatched, node}
use Rattle.machine.specs.Steps.{unpin, unlatch, pinned, ended, goes_on, finished}
use Rattle.machine.specs.Sound.{nodes, members_many, records_used, LowestEnds, EndsWell, Shaped, Formed}
use Rattle.machine.specs.Keeps.{under, under-on-latch, under-unlatched, under-on-leaf}
use Rattle.machine.specs.Order.{lv}
use Rattle.machine.specs.Housekeeping.{lvs}
use Rattle.machine.specs.Keys.{Kept}
use Rattle.machine.specs.Totals.{total-append, hand-undos}
use Rattle.machine.specs.Looks.{put-members}

-- ---- sons, one for one

-- The same bounds, and sons related by R.
abbrev pub Each : {A : Type 0} → (A → A → Type 0) → List (A × ℕ) → List (A × ℕ) → Type 0
Each R [] [] = Unit {0}
Each R [] (q ∷ fs) = ⊥
Each R (p ∷ es) [] = ⊥
Each R (p ∷ es) (q ∷ fs) = (q.1 ≡ p.1) × R p.0 q.0 × Each R es fs

module _ {A : Type 0} (R : A → A → Type 0) where
  pub each-refl : ((a : A) → R a a) → (es : List (A × ℕ)) → Each R es es
  each-refl r [] = tt
  each-refl r (p ∷ es) = (refl, r p.0, each-refl r es)

  pub each-onp : (x : ℕ) (g : A → A) → ((a : A) → R a a) → ((a : A) → R a (g a)) → (es : List (A × ℕ)) → Each R es (onp x (λ a b. (g a, b) ∷ []) es)
  each-onp x g r k [] = tt
  each-onp x g r k (p ∷ es) = either (λ l. Each R (p ∷ es) l) (leb x p.1) ((g p.0, p.1) ∷ es) (p ∷ onp x (λ a b. (g a, b) ∷ []) es)
      (refl, k p.0, each-refl r es) (refl, r p.0, each-onp x g r k es)

  pub each_map : (g : A → A) → ((a : A) → R a (g a)) → (es : List (A × ℕ)) → Each R es (map_e g es)
  each_map g k [] = tt
  each_map g k (p ∷ es) = (refl, k p.0, each_map g k es)

  pub each-length : (es fs : List (A × ℕ)) → Each R es fs → length fs ≡ length es
  each-length [] [] r = refl
  each-length [] (q ∷ fs) r = absurd r
  each-length (p ∷ es) [] r = absurd r
  each-length (p ∷ es) (q ∷ fs) r = ap suc (each-length es fs r.2)

  pub each-sum : (f : A → ℕ) → ((a b : A) → R a b → f b ≡ f a) → (es fs : List (A × ℕ)) → Each R es fs → sum_e f fs ≡ sum_e f es
  each-sum f k [] [] r = refl
  each-sum f k [] (q ∷ fs) r = absurd r
  each-sum f k (p ∷ es) [] r = absurd r
  each-sum f k (p ∷ es) (q ∷ fs) r = ap₂ (λ m n. m + n) (k p.0 q.0 r.1) (each-sum f k es fs r.2)

  pub each-seg : (Q : ℕ → ℕ → A → Type 0) → ((a b : A) → R a b → (lo u : ℕ) → Q lo u a → Q lo u b)
      → (es fs : List (A × ℕ)) → Each R es fs → (lo e : ℕ) → Seg Q lo e es → Seg Q lo e fs
  each-seg Q k [] [] r lo e s = s
  each-seg Q k [] (q ∷ fs) r lo e s = absurd r
  each-seg Q k (p ∷ es) [] r lo e s = absurd r
  each-seg Q k (p ∷ es) (q ∷ fs) r lo e s = (
    k p.0 q.0 r.1 lo q.1 (subst (λ n. Q lo n p.0) (sym r.0) s.0),
    each-seg Q k es fs r.2 (suc q.1) e (subst (λ n. Seg Q (suc n) e es) (sym r.0) s.1),
  )

each-ends : (R : Desc → Desc → Type 0) → ((a b : Desc) → R a b → b.key ≡ a.key) → (es fs : Sons 0) → Each R es fs → LowestEnds es → LowestEnds fs
each-ends R k [] [] r l = tt
each-ends R k [] (q ∷ fs) r l = absurd r
each-ends R k (p ∷ es) [] r l = absurd r
each-ends R k (p ∷ []) (q ∷ []) r l = tt
each-ends R k (p ∷ []) (q ∷ q' ∷ fs) r l = absurd r.2
each-ends R k (p ∷ p' ∷ es) (q ∷ []) r l = absurd r.2
each-ends R k (p ∷ p' ∷ es) (q ∷ q' ∷ fs) r l = (k p.0 q.0 r.1 ∙ l.0 ∙ sym r.0, each-ends R k (p' ∷ es) (q' ∷ fs) r.2 l.1)

pub length-flat : {A B : Type 0} (g : A → List B) (es : List (A × ℕ)) → length (flat g es) ≡ sum_e (λ a. length (g a)) es
length-flat g [] = refl
length-flat g (p ∷ es) = length-append (g p.0) (flat g es) ∙ ap (λ n. length (g p.0) + n) (length-flat g es)

-- ---- trees

-- A leaf's key; nothing of a node.
abbrev key-of : (h : ℕ) → Tree h → ℕ
key-of zero d = d.key
key-of (suc h) t = 0

-- A tree of the same shape, with as many nodes and leaves.
pub record Alike (h : ℕ) (t t' : Tree h) : Type 0 where
  pub shape : (least lo hi : ℕ) → Shaped h least lo hi t → Shaped h least lo hi t'
  pub nodes_same : nodes h t' ≡ nodes h t
  pub many : length (lv h t') ≡ length (lv h t)
  pub key_same : key-of h t' ≡ key-of h t

pub alike_refl : (h : ℕ) (t : Tree h) → Alike h t t
alike_refl h t = record { shape = λ least lo hi S. S; nodes_same = refl; many = refl; key_same = refl }

-- Whatever the latch words.
pub alike-node : (h : ℕ) (t t' : Tree (suc h)) → Each (Alike h) t.sons t'.sons → Alike (suc h) t t'
unfolding Shaped nodes leaves
alike-node h t t' r = record {
  shape = λ least lo hi S. (
    subst (λ n. least ≤ n) (sym same) S.0,
    subst (λ n. n ≤ 8) (sym same) S.1,
    ends h t.sons t'.sons r S.2,
    each-seg (Alike h) (Shaped h 3) (λ a b k l u. k.shape 3 l u) t.sons t'.sons r lo (suc hi) S.3,
  );
  nodes_same = ap suc (each-sum (Alike h) (nodes h) (λ a b k. k.nodes_same) t.sons t'.sons r);
  many = length-flat (lv h) t'.sons ∙ each-sum (Alike h) (λ a. length (lv h a)) (λ a b k. k.many) t.sons t'.sons r ∙ sym (length-flat (lv h) t.sons);
  key_same = refl;
}
  where
    same : sons_of t' ≡ sons_of t
    same = each-length (Alike h) t.sons t'.sons r

    ends : (j : ℕ) (es fs : Sons j) → Each (Alike j) es fs → EndsWell j es → EndsWell j fs
    ends zero es fs q l = each-ends (Alike 0) (λ a b k. k.key_same) es fs q l
    ends (suc j) es fs q l = tt

pub alike-latch : (h w : ℕ) (t : Tree (suc h)) → Alike (suc h) t (node w t.sons)
alike-latch h w t = alike-node h t (node w t.sons) (each-refl (Alike h) (alike_refl h) t.sons)

-- One son of a node changed.
pub alike-son : (h w x : ℕ) (g : Tree h → Tree h) → ((a : Tree h) → Alike h a (g a)) → (t : Tree (suc h)) → Alike (suc h) t (node w (onp x (λ a b. (g a, b) ∷ []) t.sons))
alike-son h w x g k t = alike-node h t (node w (onp x (λ a b. (g a, b) ∷ []) t.sons)) (each-onp (Alike h) x g (alike_refl h) k t.sons)

-- A descriptor that keeps its key; leaves have no ends to keep.
pub alike-desc : (d e : Desc) → e.key ≡ d.key → Alike 0 d e
unfolding Shaped nodes leaves
alike-desc d e k = record {
  shape = λ least lo hi S. (subst (λ n. lo ≤ n) (sym k) S.0, subst (λ n. n ≤ hi) (sym k) S.1);
  nodes_same = refl;
  many = refl;
  key_same = k;
}

module _ (f : Desc → Desc) (k : (d : Desc) → (f d).key ≡ d.key) where
  pub leaf-alike : (x h : ℕ) (t : Tree h) → Alike h t (on_leaf x f h t)
  unfolding on_leaf
  leaf-alike x zero t = alike-desc t (f t) (k t)
  leaf-alike x (suc h) t = alike-son h t.latch x (on_leaf x f h) (leaf-alike x h) t

  pub leaves_alike : (h : ℕ) (t : Tree h) → Alike h t (on_leaves f h t)
  unfolding on_leaves
  leaves_alike zero t = alike-desc t (f t) (k t)
  leaves_alike (suc h) t = alike-node h t (on_leaves f (suc h) t) (each_map (Alike h) (on_leaves f h) (leaves_alike h) t.sons)

pub latch-alike : (w x : ℕ) (f : (h : ℕ) → Tree (suc h) → Tree (suc h)) → ((h : ℕ) (t : Tree (suc h)) → Alike (suc h) t (f h t)) → (h : ℕ) (t : Tree h) → Alike h t (on_latch w x f h t)
unfolding on_latch
latch-alike w x f k zero t = alike_refl 0 t
latch-alike w x f k (suc h) t =
    let below : Tree (suc h) = record { latch = t.latch; sons = onp x (λ a b. (on_latch w x f h a, b) ∷ []) t.sons } in
    either (λ u. Alike (suc h) t u) (eqb t.latch w) (f h t) below (k h t)
    (alike-son h t.latch x (on_latch w x f h) (latch-alike w x f k h) t)

pub unlatched-alike : (h : ℕ) (t : Tree (suc h)) → Alike (suc h) t (unlatched h t)
unfolding unlatched
unlatched-alike h t = alike-latch h 0 t

-- ---- members

-- They are read from left to right.
pub members-under : (h : ℕ) (t : Tree h) → members_many (lv h t) ≡ length (under (λ d. d.members) h t)
unfolding leaves under
members-under zero t = omega arith
members-under (suc h) t = go (members-under h) t.sons
  where
    go : ((a : Tree h) → members_many (lv h a) ≡ length (under (λ d. d.members) h a)) → (es : Sons h) → members_many (flat (leaves Desc ℕ h) es) ≡ length (flat (under (λ d. d.members) h) es)
    go k [] = refl
    go k (p ∷ es) = total-append (λ d. length d.members) (lv h p.0) (flat (leaves Desc ℕ h) es) ∙ ap₂ (λ m n. m + n) (k p.0) (go k es)
        ∙ sym (length-append (under (λ d. d.members) h p.0) (flat (under (λ d. d.members) h) es))

under-on-leaves : {B : Type 0} (f : Desc → List B) (k : Desc → Desc) → ((d : Desc) → f (k d) ≡ f d) → (h : ℕ) (t : Tree h) → under f h (on_leaves k h t) ≡ under f h t
unfolding under on_leaves
under-on-leaves f k e zero t = e t
under-on-leaves f k e (suc h) t = go (under-on-leaves f k e h) t.sons
  where
    go : ((a : Tree h) → under f h (on_leaves k h a) ≡ under f h a) → (es : Sons h) → flat (under f h) (map_e (on_leaves k h) es) ≡ flat (under f h) es
    go r [] = refl
    go r (p ∷ es) = ap₂ (λ a b. a ++ b) (r p.0) (go r es)

pub members-same : (h : ℕ) (t t' : Tree h) → under (λ d. d.members) h t' ≡ under (λ d. d.members) h t → members_many (lv h t') ≡ members_many (lv h t)
members-same h t t' e = members-under h t' ∙ ap (length {A = ℕ}) e ∙ sym (members-under h t)

-- ---- the state

-- The tree changed in place.
pub tree-formed : (f : (h : ℕ) → Tree h → Tree h) (s : State) → Alike (suc s.root.height) s.root.node (f (suc s.root.height) s.root.node)
    → members_many (lvs (on_tree f s)) ≡ members_many (lvs s) → Formed s → Formed (on_tree f s)
unfolding on_tree
tree-formed f s A m F = record { shaped = A.shape 1 0 top F.shaped; counted = omega (arith, F.counted, A.nodes_same, A.many, m) }

-- One descriptor, or each, changed in all but key and members.
module _ (f : Desc → Desc) (k : (d : Desc) → (f d).key ≡ d.key) where
  pub on-desc-formed : ((d : Desc) → (f d).members ≡ d.members) → (x : ℕ) (s : State) → Formed s → Formed (on_desc x f s)
  unfolding on_tree
  on-desc-formed m x s F =
      let h = suc s.root.height in
      let t = s.root.node in
      tree-formed (on_leaf x f) s (leaf-alike f k x h t) (members-same h t (on_leaf x f h t) (under-on-leaf (λ d. d.members) x f m h t)) F

  pub on-leaves-formed : ((d : Desc) → (f d).members ≡ d.members) → (s : State) → Formed s → Formed (on_tree (on_leaves f) s)
  unfolding on_tree
  on-leaves-formed m s F =
      let h = suc s.root.height in
      let t = s.root.node in
      tree-formed (on_leaves f) s (leaves_alike f k h t) (members-same h t (on_leaves f h t) (under-on-leaves (λ d. d.members) f m h t)) F

  -- Members changed too, at a stored key: the shape stays, and the records in use change by the members.
  pub on-desc-shaped : (x : ℕ) (s : State) → Formed s → Shaped (suc (on_desc x f s).root.height) 1 0 top (on_desc x f s).root.node
  unfolding on_tree
  on-desc-shaped x s F = (leaf-alike f k x (suc s.root.height) s.root.node).shape 1 0 top F.shaped

  pub on-desc-used : (x : ℕ) (s : State) (K : Kept x s) → records_used (on_desc x f s) + length K.d.members ≡ records_used s + length (f K.d).members
  unfolding on_tree
  on-desc-used x s K =
      let A = leaf-alike f k x (suc s.root.height) s.root.node in
      omega (arith, A.nodes_same, A.many, put-members x s K f)

pub unlatch-formed : (p : ℕ) (g : Stage) (s : State) → Formed s → Formed (unlatch p g s)
unfolding unlatch on_tree
unlatch-formed p start s F = F
unlatch-formed p (enter x) s F = F
unlatch-formed p (at x) s F =
    let h = suc s.root.height in
    let t = s.root.node in
    let f = on_latch (latch_word p) x unlatched in
    tree-formed f s (latch-alike (latch_word p) x unlatched unlatched-alike h t)
    (members-same h t (f h t) (under-on-latch (λ d. d.members) (latch_word p) x unlatched (under-unlatched (λ d. d.members)) h t)) F
unlatch-formed p change s F = F
unlatch-formed p (take x) s F = F

pub unpin-formed : (ks : List ℕ) (s : State) → Formed s → Formed (unpin ks s)
unfolding unpin
unpin-formed [] s F = F
unpin-formed (k ∷ ks) s F =
    let f = pin_desc (λ n. n - 1) in
    unpin-formed ks (on_desc k f s) (on-desc-formed f (λ d. refl) (λ d. refl) k s F)

-- ---- the session table

pub hand-formed : (p : ℕ) (r : Option Request) (s : State) → Formed s → Formed (set_hand p r s)
unfolding set_hand on_session
hand-formed p r s F = record { shaped = F.shaped; counted = omega (arith, F.counted, hand-undos p r s) }

pub on-entry-formed : (e : ℕ) (f : Entry → Entry) (s : State) → Formed s → Formed (on_entry e f s)
unfolding on_entry
on-entry-formed zero f s F = F
on-entry-formed (suc i) f s F = record { shaped = F.shaped; counted = F.counted }

-- ---- how every step ends

pub ended-formed : (p : ℕ) (r : Request) (s : State) → Formed s → Formed (ended p r s)
unfolding ended
ended-formed p r s F =
    let l = unlatch p r.stage s in
    let ks = pinned r r.stage in
    hand-formed p none (unpin ks l) (unpin-formed ks l (unlatch-formed p r.stage s F))

pub goes-formed : (p : ℕ) (r : Request) (g : Stage) (s : State) → Formed s → Formed (goes_on p r g s).next
unfolding goes_on
goes-formed p r g s F = hand-formed p (some (in_stage g r)) s F

pub finished-formed : (p : ℕ) (r : Request) (ns : List ℕ) (s : State) → Formed s → Formed (finished p r ns s).next
unfolding finished
finished-formed p r ns s F = ended-formed p r s F
