-- Every step of a descent keeps the tree's shape and the count of records.
use Rattle.std.specs.Prelude.{◌≡◌, Bool, not, ◌⊎◌, eqb}
use Rattle.std.proofs.Math.Path.{refl, sym, subst, ap}
use Rattle.std.proofs.Common.{◌∙◌, inl, inr}
use Rattle.std.proofs.Math.Bool.{true, false, cond, and-eq-true_iff}
use Rattle.std.proofs.lemmas.Bool.{false≢true}
use mathlib.Core.List.{List, [], ◌∷◌, ◌++◌, append-nil}
use Prim.Native.Nat.{zero, suc, ◌+◌, ◌-◌, ◌≤◌, ℕ}
use native.Mathlib.Omega.{arith}
use Rattle.std.proofs.Math.ListN.{length, length-append}
use Rattle.machine.specs.Logic.{leb_yes, eqb_yes, eqb_no, eqb_is}
use Rattle.machine.specs.Holders.{latch_word}
use Rattle.machine.specs.Tree.{onp, pick, flat, sum_e, sum_e-append, Seg, seg-append, leaves}
use Rattle.machine.specs.State.{Desc, Tree, Root, Stage, Request, State, top, no_desc, same, stored, gap_below, with_root, with_free, on_tree, on_desc, pin_desc, at}
use Rattle.machine.specs.Descent.{Sons, sons_of, on_pair, pick_pair, joins, mended, put_in, taken_out, on_latch, lone, lone_son, drop_lone, entered, node}
use Rattle.machine.specs.Steps.{goes_on, finished, small, fills, root_left, root_gain, whole_root, son-at, pinned_state, made, on_lowest, made_state, tidied_state}
use Rattle.machine.specs.Sound.{stored_in, nodes, members_many, Shaped, Sound, Formed, formed-of}
use Rattle.machine.specs.Context.{Ctx, hole, down, plug, Focus}
use Rattle.machine.specs.Order.{lv}
use Rattle.machine.specs.Housekeeping.{lvs}
use Rattle.machine.specs.Totals.{total-append}
use Rattle.machine.specs.Looks.{shaped-le}
use Rattle.machine.specs.Focus.{least_in, Whole, whole-least, Lens, shaped-plug, nodes_around, nodes-plug, before, behind, leaves-plug, keeper-room, least-in-hole}
use Rattle.machine.specs.Alike.{alike-latch, alike-son, on-desc-formed, unlatch-formed, goes-formed, finished-formed}
use Rattle.machine.specs.Fanout.{mended-seg, mended-many, mended-nodes, pair-hit, put-shaped, put-many, put-sum, taken-shaped, taken-many, taken-sum}

-- ---- the records of a tree

-- Nodes, descriptors and memberships.
abbrev pub weight : (h : ℕ) → Tree h → ℕ
weight h t = nodes h t + length (lv h t) + members_many (lv h t)

abbrev weight_around : {k h : ℕ} → Ctx k h → ℕ
weight_around c = nodes_around c + (length (before c) + length (behind c)) + (members_many (before c) + members_many (behind c))

pub weight-plug : {k h : ℕ} (c : Ctx k h) (u : Tree k) → weight h (plug c u) ≡ weight_around c + weight k u
weight-plug {k} {h} c u =
    let m : Desc → ℕ = λ d. length d.members in
    let l = lv k u in
    omega (
      arith,
      nodes-plug c u,
      ap (length {A = Desc}) (leaves-plug c u) ∙ length-append (before c) (l ++ behind c),
      length-append l (behind c),
      ap members_many (leaves-plug c u) ∙ total-append m (before c) (l ++ behind c),
      total-append m l (behind c),
    )

pub weight-same : (h : ℕ) (t : Tree h) (j : ℕ) (u : Tree j) (m n : ℕ) → lv j u ≡ lv h t → m + nodes j u ≡ n + nodes h t → m + weight j u ≡ n + weight h t
weight-same h t j u m n e k = omega (arith, k, ap (length {A = Desc}) e, ap members_many e)

-- A lowest node's records.
weight-lowest : (u : Tree 1) → weight 1 u ≡ suc (sons_of u) + sum_e (λ d. length d.members) u.sons
unfolding nodes leaves
weight-lowest u = omega (arith, none u.sons, many u.sons, members u.sons)
  where
    none : (es : Sons 0) → sum_e (nodes 0) es ≡ 0
    none [] = refl
    none (p ∷ es) = omega (arith, none es)

    many : (es : Sons 0) → length (flat (leaves Desc ℕ 0) es) ≡ length es
    many [] = refl
    many (p ∷ es) = ap suc (many es)

    members : (es : Sons 0) → members_many (flat (leaves Desc ℕ 0) es) ≡ sum_e (λ d. length d.members) es
    members [] = refl
    members (p ∷ es) = ap (λ n. length p.0.members + n) (members es)

-- ---- another tree in the state

abbrev pub root_weight : Root → ℕ
root_weight r = weight (suc r.height) r.node

abbrev pub RootShaped : Root → Type 0
RootShaped r = Shaped (suc r.height) 1 0 top r.node

-- What the tree gains in records, the free ones lose.
pub root-formed : (r : Root) (n : ℕ) (s : State) → Formed s → RootShaped r → n + root_weight r ≡ s.free + root_weight s.root → Formed (with_free n (with_root r s))
root-formed r n s F S e = record { shaped = S; counted = omega (arith, F.counted, e) }

-- A change where a party stands.
pub focus-formed : (p x : ℕ) (s : State) (k : ℕ) (u : Tree (suc k)) (F : Focus p x s k u) → Formed s → x ≤ top → (f : (h : ℕ) → Tree (suc h) → Tree (suc h)) (n : ℕ)
    → ((lo hi : ℕ) → lo ≤ x → x ≤ hi → Shaped (suc k) (least_in F.around 1) lo hi u
    → Shaped (suc k) (least_in F.around 1) lo hi (f k u) × (n + weight (suc k) (f k u) ≡ s.free + weight (suc k) u))
    → Formed (with_free n (on_tree (on_latch (latch_word p) x f) s))
unfolding on_tree
focus-formed p x s k u F G le f n g =
    let h = suc s.root.height in
    let c = F.around in
    let L : Lens c 1 0 top u = shaped-plug c 1 0 top u (subst (Shaped h 1 0 top) F.is G.shaped) in
    let i = L.inside x F.way (omega arith) le in
    let r = g L.lo' L.hi' i.0 i.1 L.sub in
    root-formed (record { height = s.root.height; node = on_latch (latch_word p) x f h s.root.node }) n s G
    (subst (Shaped h 1 0 top) (sym (F.changes f)) (L.back (f k u) r.0))
    (omega (arith, r.1, ap (weight h) (F.changes f) ∙ weight-plug c (f k u), ap (weight h) F.is ∙ weight-plug c u))

-- ---- who mends, who splits

pub small_is : (p h : ℕ) (t : Tree (suc h)) → small p h t ≡ true → (p ≡ 0) × (sons_of t ≡ 3)
small_is p h t e = let k = (and-eq-true_iff (eqb p 0) (eqb (sons_of t) 3)).0 e in (eqb_is p 0 k.0, eqb_is (sons_of t) 3 k.1)

pub fills-is : (p h : ℕ) (t : Tree (suc h)) → fills p h t ≡ true → ¬ (p ≡ 0) × (sons_of t ≡ 8)
fills-is p h t e =
    let k = (and-eq-true_iff (not (eqb p 0)) (eqb (sons_of t) 8)).0 e in
    ((λ z. false≢true (sym (ap not (eqb_yes p 0 z)) ∙ k.0)), eqb_is (sons_of t) 8 k.1)

-- ---- entering the root

-- The root without a lone son that is a node.
lone-shaped : (h : ℕ) (t : Tree (suc (suc h))) (es : Sons (suc h)) → t.sons ≡ es → Shaped (suc (suc h)) 1 0 top t
    → RootShaped (lone_son h es t) × (cond (eqb (length es) 1) 1 0 + root_weight (lone_son h es t) ≡ weight (suc (suc h)) t)
unfolding Shaped nodes leaves
lone-shaped h t [] e S = (S, omega arith)
lone-shaped h t (p ∷ []) e S =
    let s = subst (Seg (Shaped (suc h) 3) 0 (suc top)) e S.3 in
    let b : p.1 ≡ top = omega (arith, s.1) in
    let R = subst (λ n. Shaped (suc h) 3 0 n p.0) b s.0 in
    let l : lv (suc h) p.0 ≡ lv (suc (suc h)) t = sym (ap (flat (leaves Desc ℕ (suc h))) e ∙ append-nil (lv (suc h) p.0)) in
    ((omega (arith, R.0), R.1, R.2, R.3), omega (arith, weight-same (suc (suc h)) t (suc h) p.0 1 0 l (omega (arith, ap (sum_e (nodes (suc h))) e))))
lone-shaped h t (p ∷ q ∷ es) e S = (S, omega (arith, ap {B = ℕ} (λ b. cond b 1 0) (eqb_no (suc (suc (length es))) 1 (λ z. omega (arith, z)))))

pub left-shaped : (s : State) → Formed s → RootShaped (root_left s) × (root_gain s + root_weight (root_left s) ≡ root_weight s.root)
left-shaped s F = go s.root.height s.root.node F.shaped
  where
    go : (h : ℕ) (t : Tree (suc h)) → Shaped (suc h) 1 0 top t → RootShaped (drop_lone h t) × (cond (lone h t) 1 0 + root_weight (drop_lone h t) ≡ weight (suc h) t)
    go zero t S = (S, omega arith)
    go (suc h) t S = lone-shaped h t t.sons refl S

pub whole-formed : (p : ℕ) (s : State) → Formed s → Formed (whole_root p s)
unfolding leaves
whole-formed p s F =
    let L = left-shaped s F in
    let r = root_left s in
    let A = alike-latch r.height (latch_word p) r.node in
    root-formed (entered (latch_word p) r) (s.free + root_gain s) s F (A.shape 1 0 top L.0) (omega (arith, L.1, A.nodes_same))

-- ---- one level down

-- The parent's sons after the step: the shape, and the nodes gained and given back.
pub record Fine (h least lo hi : ℕ) (es fs : Sons (suc h)) (gain need : ℕ) : Type 0 where
  pub shaped : Shaped (suc (suc h)) least lo hi (node 0 fs)
  pub counted : sum_e (nodes (suc h)) fs + gain ≡ sum_e (nodes (suc h)) es + need

module _ (p x h : ℕ) (u : Tree (suc (suc h))) (least lo hi : ℕ) (S : Shaped (suc (suc h)) least lo hi u) (from : lo ≤ x) (upto : x ≤ hi) where
  abbrev pub Q : ℕ → ℕ → Tree (suc h) → Type 0
  Q = Shaped (suc h) 3

  abbrev pub w : ℕ
  w = latch_word p

  pub plain-fine : Fine h least lo hi u.sons (onp x (λ a b. (node w a.sons, b) ∷ []) u.sons) 0 0
  unfolding nodes
  plain-fine = let A = alike-son (suc h) 0 x (λ a. node w a.sons) (alike-latch h w) u in
      record { shaped = A.shape least lo hi S; counted = omega (arith, A.nodes_same) }

  -- The sons between pre and post become fresh.
  pub sons-shaped : (pre old fresh post : Sons (suc h)) (m n : ℕ) → u.sons ≡ pre ++ (old ++ post) → Seg Q lo m pre → Seg Q m n fresh → Seg Q n (suc hi) post
      → least + length old ≤ sons_of u + length fresh → sons_of u + length fresh ≤ 8 + length old → Shaped (suc (suc h)) least lo hi (node 0 (pre ++ (fresh ++ post)))
  unfolding Shaped
  sons-shaped pre old fresh post m n e a b c le ge =
      let was = ap (length {A = Tree (suc h) × ℕ}) e ∙ length-append pre (old ++ post) in
      let both = length-append old post in
      let now = length-append pre (fresh ++ post) in
      let both' = length-append fresh post in (
        omega (arith, was, both, now, both', le),
        omega (arith, was, both, now, both', ge),
        tt,
        seg-append Q lo m (suc hi) pre (fresh ++ post) a (seg-append Q m n (suc hi) fresh post b c),
      )

  pub sons-sum : (pre old fresh post : Sons (suc h)) → u.sons ≡ pre ++ (old ++ post)
      → sum_e (nodes (suc h)) (pre ++ (fresh ++ post)) + sum_e (nodes (suc h)) old ≡ sum_e (nodes (suc h)) u.sons + sum_e (nodes (suc h)) fresh
  sons-sum pre old fresh post e =
      let f = nodes (suc h) in
      omega (arith, ap (sum_e f) e, sum_e-append f pre (old ++ post), sum_e-append f old post, sum_e-append f pre (fresh ++ post), sum_e-append f fresh post)

  pub pair-fine : suc least ≤ sons_of u → 2 ≤ sons_of u → sons_of (son-at x h u.sons) ≡ 3
      → Fine h least lo hi u.sons (on_pair x (mended w x h) u.sons) (cond (pick_pair x false (joins x h) u.sons) 1 0) 0
  unfolding Shaped
  pair-fine enough two three =
      let H = pair-hit Q (shaped-le (suc h) 3) x lo (suc hi) u.sons two S.3 from (omega (arith, upto)) in
      let old : Sons (suc h) = H.p ∷ H.q ∷ [] in
      let fresh = mended w x h H.p H.q in
      let is : on_pair x (mended w x h) u.sons ≡ H.pre ++ (fresh ++ H.post) = H.done (mended w x h) in
      let j : ℕ = cond (joins x h H.p H.q) 1 0 in
      let g : cond (pick_pair x false (joins x h) u.sons) 1 0 ≡ j = ap {B = ℕ} (λ b. cond b 1 0) (H.asked false (joins x h)) in
      let many : length fresh + j ≡ 2 = mended-many w x h H.p H.q in
      let one : j ≤ 1 = at_most (joins x h H.p H.q) in
      record {
        shaped = subst (λ l. Shaped (suc (suc h)) least lo hi (node 0 l)) (sym is)
            (sons-shaped H.pre old fresh H.post H.m (suc H.q.1) H.eq H.spre
            (mended-seg w x h H.p H.q H.m H.left H.right (sym (ap (λ t. sons_of t) (H.one (node 0 []))) ∙ three)) H.spost
            (omega (arith, enough, many, one)) (omega (arith, S.1, many)));
        counted = omega (arith, g, ap (sum_e (nodes (suc h))) is, sons-sum H.pre old fresh H.post H.eq, mended-nodes w x h H.p H.q);
      }
    where
      at_most : (b : Bool) → cond b 1 0 ≤ 1
      at_most true = omega arith
      at_most false = omega arith

-- ---- the room of a node

pub session-room : (p x : ℕ) (s : State) (k : ℕ) (u : Tree (suc k)) → Focus p x s k u → ¬ (p ≡ 0) → sons_of u ≤ 7
session-room zero x s k u F n = absurd (n refl)
session-room (suc p) x s k u F n = F.room

-- The housekeeper's node can lose a son; the root, where it is the lowest node, if it has two.
pub housekeeper-room : (x : ℕ) (s : State) (k : ℕ) (u : Tree (suc k)) (F : Focus 0 x s k u) → least_in F.around 1 ≤ sons_of u → (k ≡ 0 → Whole F.around → 2 ≤ sons_of u)
    → (suc (least_in F.around 1) ≤ sons_of u) × (2 ≤ sons_of u)
housekeeper-room x s k u F least two = go (keeper-room x s k u F)
  where
    at-root : Whole F.around → 2 ≤ sons_of u → (suc (least_in F.around 1) ≤ sons_of u) × (2 ≤ sons_of u)
    at-root w n = (omega (arith, n, whole-least F.around 1 w), n)

    go : (4 ≤ sons_of u) ⊎ (Whole F.around × ((k ≡ 0) ⊎ ¬ (sons_of u ≡ 1))) → (suc (least_in F.around 1) ≤ sons_of u) × (2 ≤ sons_of u)
    go (inl four) = (omega (arith, four, (least-in-hole F.around).1), omega (arith, four))
    go (inr (w, inl z)) = at-root w (two z w)
    go (inr (w, inr ne)) = at-root w (omega (arith, ne, least, (least-in-hole F.around).0))

-- ---- the steps below the root

pub pin-formed : (p : ℕ) (r : Request) (g : Stage) (x : ℕ) (s : State) → Sound s → Formed (goes_on p r g (pinned_state p x s)).next
pin-formed p r g x s S =
    goes-formed p r g (pinned_state p x s) (unlatch-formed p (at x) (on_desc x (pin_desc suc) s) (on-desc-formed (pin_desc suc) (λ d. refl) (λ d. refl) x s (formed-of S)))

pub make-formed : (p : ℕ) (r : Request) (g : Stage) (x : ℕ) (s : State) → Sound s → x ≤ top → ¬ (p ≡ 0) → (u : Tree 1) → Focus p x s 0 u
    → ¬ ((pick x no_desc same u.sons).key ≡ x) → 1 ≤ s.free → Formed (goes_on p r g (made_state p x s)).next
make-formed p r g x s S le ns u F new one =
    let n : Desc = made x (gap_below x 0 (stored s)) in
    let t = with_free (s.free - 1) (on_tree (on_latch (latch_word p) x (on_lowest (put_in n))) s) in
    goes-formed p r g (made_state p x s) (unlatch-formed p (at x) t
    (focus-formed p x s 0 u F (formed-of S) le (on_lowest (put_in n)) (s.free - 1) (λ lo hi from upto R.
    let l = least_in F.around 1 in
    let u' : Tree 1 = node u.latch (put_in n u.sons) in (
      put-shaped x l lo hi u R from upto n refl u.latch new (session-room p x s 0 u F ns),
      omega (arith, one, weight-lowest u, weight-lowest u', put-many x l lo hi u R from upto n refl, put-sum x l lo hi u R from upto n refl (λ d. length d.members)),
    ))))

-- A lone descriptor of key 0 is not on the path to another stored key.
two-sons : (x lo hi : ℕ) (es : Sons 0) → 1 ≤ length es → Seg (Shaped 0 3) lo (suc hi) es → x ≤ hi → ¬ (x ≡ 0) → stored_in 0 (flat (leaves Desc ℕ 0) es) ≡ true
    → (pick x no_desc same es).key ≡ x → 2 ≤ length es
unfolding leaves stored_in
two-sons x lo hi [] one s le nz z k = absurd (omega (arith, one))
two-sons x lo hi (p ∷ []) one s le nz z k =
    let here : p.0.key ≡ x = sym (ap (λ b. (cond b p.0 no_desc).key) (leb_yes x p.1 (omega (arith, le, s.1)))) ∙ k in
    absurd (nz (sym here ∙ go (eqb p.0.key 0) refl z))
  where
    go : (c : Bool) → eqb p.0.key 0 ≡ c → cond c true false ≡ true → p.0.key ≡ 0
    go true e q = eqb_is p.0.key 0 e
    go false e q = absurd (false≢true q)
two-sons x lo hi (p ∷ q ∷ es) one s le nz z k = omega arith

whole-leaves : {k h : ℕ} (c : Ctx k h) (u : Tree k) → Whole c → lv h (plug c u) ≡ lv k u
whole-leaves hole u w = refl
whole-leaves (down v pre c b post) u w = absurd w

pub tidy-formed : (r : Request) (ns : List ℕ) (x : ℕ) (s : State) → Sound s → x ≤ top → ¬ (x ≡ 0) → (u : Tree 1) → Focus 0 x s 0 u
    → (pick x no_desc same u.sons).key ≡ x → (pick x no_desc same u.sons).members ≡ [] → r.stage ≡ at x → Formed (finished 0 r ns (tidied_state 0 x s)).next
unfolding Shaped leaves
tidy-formed r ns x s S le nz u F key none stands =
    finished-formed 0 r ns (tidied_state 0 x s)
    (focus-formed 0 x s 0 u F (formed-of S) le (on_lowest (taken_out x)) (s.free + 1) (λ lo hi from upto R.
    let l = least_in F.around 1 in
    let u' : Tree 1 = node u.latch (taken_out x u.sons) in
    let m : Desc → ℕ = λ d. length d.members in
    let all : Whole F.around → lvs s ≡ lv 1 u = λ w. ap (lv (suc s.root.height)) F.is ∙ whole-leaves F.around u w in
    let room = housekeeper-room x s 0 u F R.0 (λ z w. two-sons x lo hi u.sons (omega (arith, R.0, (least-in-hole F.around).0)) R.3 upto nz
    (subst (λ a. stored_in 0 a ≡ true) (all w) S.zero_stored) key) in (
      taken-shaped x l lo hi u R from upto u.latch room.0 room.1,
      omega (arith, weight-lowest u, weight-lowest u', taken-many x l lo hi u R from upto, taken-sum x l lo hi u R from upto m, ap (length {A = ℕ}) none),
    )))
