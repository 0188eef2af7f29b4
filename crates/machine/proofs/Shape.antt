-- Theorems that rest on theorems of specs/: the rest of specs/Shape.antt.
use Rattle.std.specs.Prelude.{◌≡◌, Bool, ◌&&◌}
use Rattle.std.proofs.Math.Path.{refl, sym, subst, ap}
use Rattle.std.proofs.Common.{◌∙◌}
use Rattle.std.proofs.Math.Bool.{true, false, cond}
use mathlib.Core.List.{[], ◌∷◌, ◌++◌}
use Prim.Native.Nat.{zero, suc, ◌+◌, ◌-◌, ◌≤◌, ℕ}
use native.Mathlib.Omega.{arith}
use Rattle.machine.specs.Holders.{latch_word}
use Rattle.machine.specs.Tree.{onp, pick, sum_e, hit, onp-hit, pick-hit}
use Rattle.machine.specs.State.{Tree, Request, State, top, same, at}
use Rattle.machine.specs.Descent.{Sons, halves, sons_of, on_pair, pick_pair, joins, mended, split_root, node}
use Rattle.machine.specs.Steps.{goes_on, small, fills, root_left, root_gain, root_splits, root_need, whole_root, halved_root, stepped, son-at, descended, level_need, level_gain, level_state}
use Rattle.machine.specs.Sound.{nodes, Shaped, Sound, Formed, formed-of}
use Rattle.machine.specs.Context.{Focus}
use Rattle.machine.specs.Keeps.{under-descended, under-split-root, leaves_kept}
use Rattle.machine.specs.Focus.{least_in}
use Rattle.machine.specs.Alike.{goes-formed}
use Rattle.machine.specs.Fanout.{halves-seg, halves-nodes}
use Rattle.machine.specs.Shape.{weight-same, root-formed, focus-formed, small_is, fills-is, left-shaped, whole-formed, Fine, plain-fine, sons-shaped, sons-sum, pair-fine, session-room, housekeeper-room}

-- ---- entering the root

halved-formed : (p x : ℕ) (s : State) → Formed s → root_splits p s ≡ true → 2 ≤ s.free + root_gain s → Formed (halved_root p x s)
unfolding Shaped nodes halves
halved-formed p x s F full enough =
    let L = left-shaped s F in
    let r = root_left s in
    let h = r.height in
    let w = latch_word p in
    let r' = split_root w x r in
    let eight = (fills-is p h r.node full).1 in
    root-formed r' (s.free + root_gain s - 2) s F
    (omega arith, omega arith, tt, halves-seg w x h 1 0 top r.node eight L.0)
    (omega (
      arith,
      L.1,
      enough,
      weight-same (suc h) r.node (suc (suc h)) r'.node 0 2
          (leaves_kept (suc h) r.node (suc (suc h)) r'.node (under-split-root (λ d. d ∷ []) w x r)) (omega (arith, halves-nodes w x h top r.node)),
    ))

pub enter-formed : (p : ℕ) (r : Request) (x : ℕ) (s : State) → Sound s → root_need p s ≤ s.free → x ≤ top
    → Formed (goes_on p r (at x) (cond (root_splits p s) (halved_root p x s) (whole_root p s))).next
enter-formed p r x s S need le = go (root_splits p s) refl
  where
    go : (c : Bool) → root_splits p s ≡ c → Formed (goes_on p r (at x) (cond c (halved_root p x s) (whole_root p s))).next
    go true e = goes-formed p r (at x) (halved_root p x s) (halved-formed p x s (formed-of S) e (omega (arith, rw e at need)))
    go false e = goes-formed p r (at x) (whole_root p s) (whole-formed p s (formed-of S))

-- ---- one level down

module _ (p x h : ℕ) (u : Tree (suc (suc h))) (least lo hi : ℕ) (S : Shaped (suc (suc h)) least lo hi u) (from : lo ≤ x) (upto : x ≤ hi) where
  abbrev Q : ℕ → ℕ → Tree (suc h) → Type 0
  Q = Shaped (suc h) 3

  abbrev w : ℕ
  w = latch_word p

  split-fine : sons_of u ≤ 7 → sons_of (son-at x h u.sons) ≡ 8 → Fine h least lo hi u.sons (onp x (halves w x h) u.sons) 0 1
  unfolding Shaped halves
  split-fine fit eight =
      let H = hit Q x lo (suc hi) u.sons S.3 from (omega (arith, upto)) in
      let old : Sons (suc h) = (H.a, H.u) ∷ [] in
      let fresh = halves w x h H.a H.u in
      let is : onp x (halves w x h) u.sons ≡ H.pre ++ (fresh ++ H.post) = ap (onp x (halves w x h)) H.eq ∙ onp-hit x (halves w x h) H.pre H.a H.u H.post H.below H.upto in
      let son : son-at x h u.sons ≡ H.a = ap (pick x (node 0 []) same) H.eq ∙ pick-hit x (node 0 []) same H.pre H.a H.u H.post H.below H.upto in
      let eight' : sons_of H.a ≡ 8 = sym (ap (λ t. sons_of t) son) ∙ eight in
      record {
        shaped = subst (λ l. Shaped (suc (suc h)) least lo hi (node 0 l)) (sym is)
            (sons-shaped p x h u least lo hi S from upto H.pre old fresh H.post H.m (suc H.u) H.eq H.spre (halves-seg w x h 3 H.m H.u H.a eight' H.here) H.spost
            (omega (arith, S.0)) (omega (arith, fit)));
        counted = omega (arith, ap (sum_e (nodes (suc h))) is, sons-sum p x h u least lo hi S from upto H.pre old fresh H.post H.eq, halves-nodes w x h H.u H.a);
      }

  -- A session's node has room for one son more, the housekeeper's can do with one less.
  stepped-fine : (¬ (p ≡ 0) → sons_of u ≤ 7) → (p ≡ 0 → (suc least ≤ sons_of u) × (2 ≤ sons_of u))
      → Fine h least lo hi u.sons (stepped p x h (son-at x h u.sons) u.sons) (level_gain p x h u.sons (son-at x h u.sons)) (level_need p h (son-at x h u.sons))
  unfolding stepped
  stepped-fine fit enough = go (small p h (son-at x h u.sons)) refl (fills p h (son-at x h u.sons)) refl
    where
      go : (a : Bool) → small p h (son-at x h u.sons) ≡ a → (b : Bool) → fills p h (son-at x h u.sons) ≡ b
          → Fine h least lo hi u.sons (cond a (on_pair x (mended (suc p) x h) u.sons) (cond b (onp x (halves (suc p) x h) u.sons) (onp x (λ a u. (node (suc p) a.sons, u) ∷ []) u.sons)))
          (cond (a && pick_pair x false (joins x h) u.sons) 1 0) (cond b 1 0)
      go true e true e' = absurd ((fills-is p h (son-at x h u.sons) e').0 (small_is p h (son-at x h u.sons) e).0)
      go true e false e' = let k = small_is p h (son-at x h u.sons) e in let r = enough k.0 in pair-fine p x h u least lo hi S from upto r.0 r.1 k.1
      go false e true e' = let k = fills-is p h (son-at x h u.sons) e' in split-fine (fit k.0) k.1
      go false e false e' = plain-fine p x h u least lo hi S from upto

-- ---- the steps below the root

pub level-formed : (p : ℕ) (r : Request) (x : ℕ) (s : State) → Sound s → x ≤ top → (h : ℕ) (u : Tree (suc (suc h))) → Focus p x s (suc h) u
    → level_need p h (son-at x h u.sons) ≤ s.free → Formed (goes_on p r (at x) (level_state p x s h u.sons (son-at x h u.sons))).next
unfolding descended nodes
level-formed p r x s S le h u F need =
    let es = u.sons in
    let t = son-at x h es in
    let n = s.free + level_gain p x h es t - level_need p h t in
    goes-formed p r (at x) (level_state p x s h es t)
    (focus-formed p x s (suc h) u F (formed-of S) le (descended p x) n (λ lo hi from upto R.
    let fine = stepped-fine p x h u (least_in F.around 1) lo hi R from upto (session-room p x s (suc h) u F) (room p F (least (least_in F.around 1) lo hi R)) in
    let u' = descended p x (suc h) u in (
      fine.shaped,
      weight-same (suc (suc h)) u (suc (suc h)) u' n s.free (leaves_kept (suc (suc h)) u (suc (suc h)) u' (under-descended (λ d. d ∷ []) p x (suc h) u)) (omega (arith, fine.counted, need)),
    )))
  where
    least : (l lo hi : ℕ) → Shaped (suc (suc h)) l lo hi u → l ≤ sons_of u
    least l lo hi R = unfold Shaped in R.0

    room : (q : ℕ) (G : Focus q x s (suc h) u) → least_in G.around 1 ≤ sons_of u → q ≡ 0 → (suc (least_in G.around 1) ≤ sons_of u) × (2 ≤ sons_of u)
    room zero G l e = housekeeper-room x s (suc h) u G l (λ z. absurd (omega (arith, z)))
    room (suc q) G l e = absurd (omega (arith, e))
