-- Theorems that rest on theorems of specs/: the rest of specs/LatchSteps.antt.
use Rattle.std.specs.Prelude.{◌≡◌, Bool, true, false, cond, [], ◌∷◌, suc, ◌≤◌, ◌<◌, ℕ, length}
use Rattle.std.proofs.Math.Path.{refl}
use Rattle.std.proofs.Common.{sym, ◌∙◌, subst, ap, inl}
use Rattle.std.proofs.Math.Option.{some}
use native.Mathlib.Omega.{arith}
use Rattle.machine.specs.Holders.{latch_word}
use Rattle.machine.specs.State.{Tree, Root, enter, Request, State, top, session_of, on_tree, in_stage, at}
use Rattle.machine.specs.Descent.{Sons, halves, on_latch, node}
use Rattle.machine.specs.Steps.{goes_on, root_left, root_splits, whole_root, halved_root, root_blockers, son-at, descended, level_state, level_blockers}
use Rattle.machine.specs.Sound.{stands, Shaped, Latched, latch_count, Room, Sound, Latches, latches-of}
use Rattle.machine.specs.Context.{Focus}
use Rattle.machine.specs.Focus.{least_in, Lens, shaped-plug, latches-plug}
use Rattle.machine.specs.Shape.{fills-is}
use Rattle.machine.specs.Paths.{path-map}
use Rattle.machine.specs.Latched.{bit-no, latched-under, latched-map, latched-in, others-trans}
use Rattle.machine.specs.Regroup.{grouped-of}
use Rattle.machine.specs.Parts.{free-words, Fits, halves-swap, swap-own, Lowered}
use Rattle.machine.proofs.Parts.{lowered}
use Rattle.machine.specs.Latch.{hand_stands, Spared, fits-room, arrive-latches, focus-spared, own-once, focus-once}
use Rattle.machine.specs.LatchSteps.{two-sons, Left, left, free-zero, four-fits, no-root, shape, whole-latches, halved-others}

-- ---- one level down

pub level-latches : (p : ℕ) (r : Request) (x : ℕ) (s : State) → Sound s → (session_of p s).hand ≡ some r → r.stage ≡ at x → x ≤ top → p < length s.table
    → (h : ℕ) (u : Tree (suc (suc h))) → Focus p x s (suc h) u → level_blockers p x h u.sons (son-at x h u.sons) ≡ []
    → Latches (goes_on p r (at x) (level_state p x s h u.sons (son-at x h u.sons))).next
unfolding goes_on on_tree session_of
level-latches p r x s S e w xt seat h u F b = go (shaped-plug F.around 1 0 top u (subst (Shaped (suc s.root.height) 1 0 top) F.is S.shaped))
  where
    t : State
    t = level_state p x s h u.sons (son-at x h u.sons)

    v : Tree (suc (suc h))
    v = descended p x (suc h) u

    c : latch_count (latch_word p) (suc s.root.height) s.root.node ≡ 1
    c = own-once p r x s (latches-of S) e w

    low : Lowered p x (suc h) u v → Latches (goes_on p r (at x) t).next
    low W =
        let f = on_latch (latch_word p) x (descended p x) in
        let A = focus-spared f s p x (suc h) u v F (F.changes (descended p x)) W.others in
        let B : Spared p s t = record { others = A.others; root_kept = A.root_kept; hands = A.hands } in
        let z = focus-once p x s (suc h) u F c in
        arrive-latches p s t (latches-of S) B seat (in_stage (at x) r) x refl
        (ap (latch_count (latch_word p) (suc s.root.height)) (F.changes (descended p x)) ∙ latches-plug (latch_word p) F.around v
        ∙ omega (arith, z.0, W.once z.1))
        (subst (Latched (latch_word p) x (Room t p) (suc s.root.height)) (sym (F.changes (descended p x)))
        (latched-in (latch_word p) x (Room t p) F.around v F.way F.clear
        (latched-map (latch_word p) x (λ _ n. Fits p n) (Room t p) (fits-room t p) (suc (suc h)) v W.there)))

    go : Lens F.around 1 0 top u → Latches (goes_on p r (at x) t).next
    go N = let i = N.inside x F.way (omega arith) xt in
        low (lowered p x h (least_in F.around 1) N.lo' N.hi' u N.sub i.0 i.1 (two-sons p x s h N.lo' N.hi' u F N.sub) F.latch b)

-- ---- enter the root

module _ (p : ℕ) (r : Request) (x : ℕ) (s : State) (S : Sound s) (xt : x ≤ top) (seat : p < length s.table) (l : s.root.node.latch ≡ 0)
    (N : Left p s.root.height s.root.node (root_left s)) (m : (root_left s).node.latch ≡ 0) where
  abbrev R : Root
  R = root_left s

  abbrev old : Sons (suc R.height)
  old = (R.node, top) ∷ []

  abbrev new : Sons (suc R.height)
  new = halves (latch_word p) x R.height R.node top

  halved-latches : root_splits p s ≡ true → Latches (goes_on p r (at x) (halved_root p x s)).next
  unfolding goes_on latch_count session_of
  halved-latches e =
      let h = R.height in
      let t = halved_root p x s in
      let z = fills-is p h R.node e in
      let W = halves-swap p x h 0 top R.node xt 1 (shape p r x s S xt seat l N m) z.1 (four-fits p z.0) in
      arrive-latches p s t (latches-of S)
      (record {
        others = others-trans p (suc s.root.height) s.root.node (suc h) R.node (suc (suc h)) (node 0 new) N.others (halved-others p r x s S xt seat l N m W);
        root_kept = no-root p r x s S xt seat l N m t;
        hands = λ q n. refl;
      })
      seat (in_stage (at x) r) x refl
      (omega (
        arith,
        bit-no 0 (latch_word p) (omega arith),
        swap-own p x h 0 (suc top) old new (grouped-of h 1 0 top R.node (omega arith) (shape p r x s S xt seat l N m), refl) (inl m, tt) W (omega (arith, N.none_own)),
      ))
      (latched-under (latch_word p) x (Room t p) (suc h) (node 0 new) (omega arith)
      (path-map x (Latched (latch_word p) x (λ _ n. Fits p n) (suc h)) (Latched (latch_word p) x (Room t p) (suc h))
      (latched-map (latch_word p) x (λ _ n. Fits p n) (Room t p) (fits-room t p) (suc h)) new W.there))

pub enter-latches : (p : ℕ) (r : Request) (x : ℕ) (s : State) → Sound s → (session_of p s).hand ≡ some r → r.stage ≡ enter x → x ≤ top → p < length s.table → root_blockers p s ≡ []
    → Latches (goes_on p r (at x) (cond (root_splits p s) (halved_root p x s) (whole_root p s))).next
enter-latches p r x s S e w xt seat b =
    let h = s.root.height in
    let c : latch_count (latch_word p) (suc h) s.root.node ≡ 0 = (latches-of S).latches_match p ∙ ap hand_stands e ∙ ap stands w in
    let f = free-words p (s.root.node.latch ∷ (root_left s).node.latch ∷ []) b in
    let l = free-zero p h s.root.node c f.0 in
    let N = left p h s.root.node S.shaped c l in
    let m = free-zero p (root_left s).height (root_left s).node N.none_own f.1.0 in
    go (root_splits p s) refl (halved-latches p r x s S xt seat l N m) (whole-latches p r x s S xt seat l N m)
  where
    go : (k : Bool) → root_splits p s ≡ k → (root_splits p s ≡ true → Latches (goes_on p r (at x) (halved_root p x s)).next)
        → (root_splits p s ≡ false → Latches (goes_on p r (at x) (whole_root p s)).next) → Latches (goes_on p r (at x) (cond k (halved_root p x s) (whole_root p s))).next
    go true q f g = f q
    go false q f g = g q
