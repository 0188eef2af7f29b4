-- Theorems that rest on theorems of specs/: the rest of specs/Keeping.antt.
use Rattle.std.specs.Prelude.{◌≡◌, Bool}
use Rattle.std.proofs.Math.Path.{refl, sym, ap}
use Rattle.std.proofs.Common.{◌∙◌, subst, arith}
use Rattle.std.proofs.Math.Bool.{true, false, cond}
use mathlib.Core.List.{List, [], ◌∷◌}
use Rattle.std.proofs.Math.Option.{Option, none, some}
use Prim.Native.Nat.{zero, suc, ◌*◌, ◌≤◌, ◌<◌, ℕ}
use Rattle.std.proofs.Math.Dec.{leb, ltb, eqb, eqb-suc-zero}
use Rattle.std.proofs.Math.ListN.{length}
use Rattle.serial.specs.Locks.{strong, weak}
use Rattle.machine.specs.Logic.{leb_no, eqb_no, eqb_is, leb-is, either, eqb-not}
use Rattle.machine.specs.Holders.{held_by, elem}
use Rattle.machine.specs.Tree.{pick}
use Rattle.machine.specs.State.{Desc, Tree, Stage, start, enter, change, take, Request, State, more, done, refused, top, no_desc, same, or_none, session_of, stored, desc_of, lowest_from, gap_below, hold_desc, at}
use Rattle.machine.specs.Steps.{pinned, ended, goes_on, finished, guarded, share_by, exclude_by, group_blockers, shared_state, read-step, write_step, excluded_state, entry-step, updating_state, inserted_state, removed_state, insert-step, remove-step, change-step, memberships, passed_state, located_state, last_take, take_desc, take_step, arrived, root_splits, root_need, whole_root, halved_root, root_blockers, enter_step, son-at, level_need, level_state, level_blockers, level-step, pin-step, made_state, make-step, removable, tidied_state, tidy-step, lowest_step, stand_step, at_step, first_step, next_step, answer, written}
use Rattle.machine.specs.Calls.{Call, format, begin, put, step, commit, abort, ask, recover, call, steps, step_checks}
use Rattle.machine.specs.Sound.{stored_in, times, stands, to-change, Sound, sound-from}
use Rattle.machine.specs.Context.{Focus}
use Rattle.machine.specs.Table.{hand-seat}
use Rattle.machine.specs.Housekeeping.{lvs}
use Rattle.machine.proofs.Housekeeping.{removable-goes}
use Rattle.machine.specs.Keys.{Kept}
use Rattle.machine.specs.Checks.{refusing-cases, session-code, keeper-code}
use Rattle.machine.specs.Looks.{sound-ordered, kept_of, stored-most}
use Rattle.machine.specs.Focus.{focused}
use Rattle.machine.specs.Shape.{make-formed, tidy-formed}
use Rattle.machine.proofs.Shape.{enter-formed, level-formed}
use Rattle.machine.specs.LatchSteps.{make-latches, tidy-latches}
use Rattle.machine.proofs.LatchSteps.{enter-latches, level-latches}
use Rattle.machine.specs.Unmoved.{unmoved-entry, unmoved-written, unmoved-desc, unmoved-inserted, unmoved-removed}
use Rattle.machine.specs.Descending.{enter-keyed, level-keyed, keeper-stored}
use Rattle.machine.proofs.Descending.{make-keyed, tidy-keyed}
use Rattle.machine.specs.EntryLocks.{shared-formed, written-formed, excluded-holds, excluded-formed}
use Rattle.machine.proofs.EntryLocks.{shared-keyed, written-keyed, excluded-keyed}
use Rattle.machine.specs.GroupLocks.{updating-formed, inserted-formed, removed-formed, located-formed}
use Rattle.machine.proofs.GroupLocks.{passed-formed, updating-keyed, inserted-keyed, removed-keyed, passed-keyed, passed-passing, located-keyed}
use Rattle.machine.specs.Ending.{ended-sound, begin-keeps, ask-keeps, format-keeps}
use Rattle.machine.proofs.Ending.{put_keeps}
use Rattle.machine.specs.Leaving.{abort-keeps}
use Rattle.machine.proofs.Leaving.{commit-keeps}
use Rattle.machine.specs.Recover.{recover-keeps}
use Rattle.machine.specs.Safety.{descent-most}
use Rattle.machine.specs.Waits.{settled-step}
use Rattle.machine.specs.Keeping.{focus-desc, guard-sound, finish-sound, stands_at, arrived-stands, pin-sound, locked-ends, locked-goes, enter-pins}

-- ---- descents

enter-sound : (p : ℕ) (r : Request) (x : ℕ) (s : State) → Sound s → (session_of p s).hand ≡ some r → r.stage ≡ enter x → Sound (enter_step p r x s).next
unfolding enter_step
enter-sound p r x s S e q =
    let le = descent-most s S p r x e (stands_at p r (enter x) s S e q) in
    guard-sound (root_blockers p s) (root_need p s) p r s (goes_on p r (at x) (cond (root_splits p s) (halved_root p x s) (whole_root p s))) S e λ b n.
    sound-from (enter-formed p r x s S n le) (enter-latches p r x s S e q le (hand-seat p r s e) b) (enter-keyed p r x s S e q)

module _ (p : ℕ) (r : Request) (x : ℕ) (s : State) (S : Sound s) (e : (session_of p s).hand ≡ some r) (q : r.stage ≡ at x) (le : x ≤ top) where
  level-sound : (h : ℕ) (u : Tree (suc (suc h))) → Focus p x s (suc h) u → Sound (level-step p r x s h u.sons (son-at x h u.sons)).next
  unfolding level-step
  level-sound h u F =
      let t = son-at x h u.sons in
      guard-sound (level_blockers p x h u.sons t) (level_need p h t) p r s (goes_on p r (at x) (level_state p x s h u.sons t)) S e λ b n.
      sound-from (level-formed p r x s S le h u F n) (level-latches p r x s S e q le (hand-seat p r s e) h u F b) (level-keyed p r x s S e q h u.sons t)

-- At the lowest node: a session's descent pins the descriptor, or makes it.
module _ (m : ℕ) (r : Request) (x : ℕ) (s : State) (S : Sound s) (e : (session_of (suc m) s).hand ≡ some r) (q : r.stage ≡ at x) (le : x ≤ top)
    (u : Tree 1) (F : Focus (suc m) x s 0 u) where
  make-sound : ¬ ((pick x no_desc same u.sons).key ≡ x) → Sound (make-step (suc m) r x s).next
  unfolding make-step
  make-sound k = guard-sound [] 1 (suc m) r s (goes_on (suc m) r (arrived r x) (made_state (suc m) x s)) S e λ b n.
      sound-from (make-formed (suc m) r (arrived r x) x s S le (λ z. omega (arith, z)) u F k n) (make-latches (suc m) r (arrived r x) x s S e q le (hand-seat (suc m) r s e) (arrived-stands r x) u F) (make-keyed m r x s S e q u F k)

  arrive-sound : Sound (lowest_step (suc m) r x s (pick x no_desc same u.sons)).next
  unfolding lowest_step
  arrive-sound = rw (eqb-suc-zero m) (go (eqb (pick x no_desc same u.sons).key x) refl)
    where
      go : (o : Bool) → eqb (pick x no_desc same u.sons).key x ≡ o → Sound (cond o (pin-step (suc m) r x s) (make-step (suc m) r x s)).next
      go true w = pin-sound m r x s S e q le u F (eqb_is (pick x no_desc same u.sons).key x w)
      go false w = make-sound (eqb-not (pick x no_desc same u.sons).key x w)

-- The housekeeper's removes its choice, or leaves it.
module _ (r : Request) (x : ℕ) (s : State) (S : Sound s) (e : (session_of 0 s).hand ≡ some r) (q : r.stage ≡ at x) (u : Tree 1) (F : Focus 0 x s 0 u) where
  abbrev chosen : Desc
  chosen = pick x no_desc same u.sons

  tidy-sound : Sound (tidy-step 0 r x chosen s).next
  unfolding tidy-step
  tidy-sound = go (removable (gap_below x 0 (stored s)) chosen) refl
    where
      there : stored_in x (lvs s) ≡ true
      there = keeper-stored s r x (keeper-code r.code (S.checked 0 r e).0) (stands_at 0 r (at x) s S e q)

      K : Kept x s
      K = kept_of x s S there

      key : chosen.key ≡ x
      key = ap (λ d. d.key) (sym (focus-desc 0 x s S (stored-most s (sound-ordered S) x there) u F) ∙ K.desc) ∙ K.key

      go : (o : Bool) → removable (gap_below x 0 (stored s)) chosen ≡ o
          → Sound (cond o (finished 0 r (x ∷ 1 ∷ []) (tidied_state 0 x s)) (finished 0 r (x ∷ 0 ∷ []) s)).next
      go true w =
          let G = removable-goes (gap_below x 0 (stored s)) chosen w in
          let n : ¬ (x ≡ 0) = λ z. G.not_zero (key ∙ z) in
          sound-from (tidy-formed r (x ∷ 1 ∷ []) x s S (stored-most s (sound-ordered S) x there) n u F key G.no_members q)
          (tidy-latches r (x ∷ 1 ∷ []) x s S e q (stored-most s (sound-ordered S) x there) u F) (tidy-keyed r (x ∷ 1 ∷ []) x s S e q u F key w)
      go false w = finish-sound 0 r (x ∷ 0 ∷ []) s S e

  end-sound : Sound (lowest_step 0 r x s chosen).next
  unfolding lowest_step
  end-sound = tidy-sound

stand-sound : (p : ℕ) (r : Request) (x : ℕ) (s : State) → Sound s → (session_of p s).hand ≡ some r → r.stage ≡ at x → x ≤ top
    → (k : ℕ) (u : Tree (suc k)) → Focus p x s k u → Sound (stand_step p r x s k u).next
unfolding stand_step
stand-sound zero r x s S e q le zero u F = end-sound r x s S e q u F
stand-sound (suc m) r x s S e q le zero u F = arrive-sound m r x s S e q le u F
stand-sound p r x s S e q le (suc h) u F = level-sound p r x s S e q le h u F

at-sound : (p : ℕ) (r : Request) (x : ℕ) (s : State) → Sound s → (session_of p s).hand ≡ some r → r.stage ≡ at x → Sound (at_step p r x s).next
unfolding at_step
at-sound p r x s S e q =
    let f = focused p x s (S.placed p r x e q) in
    let le = descent-most s S p r x e (stands_at p r (at x) s S e q) in
    subst (λ o. Sound o.next) (sym (f.focus.answers (answer more s) (stand_step p r x s))) (stand-sound p r x s S e q le f.level f.node f.focus)

-- ---- locks

module _ (m : ℕ) (r : Request) (s : State) (S : Sound s) (e : (session_of (suc m) s).hand ≡ some r) where
  read-sound : r.code ≡ 1 → Sound (read-step (suc m) r s).next
  unfolding read-step finished
  read-sound c = guard-sound _ _ (suc m) r s _ S e λ b n.
      locked-ends (suc m) r s (shared_state (suc m) r s) S e (unmoved-entry r.entry (share_by (suc m)) s) (shared-formed m r s S e) (shared-keyed m r s S e c b)

  write-sound : r.code ≡ 2 → Sound (write_step (suc m) r s).next
  unfolding write_step finished
  write-sound c = guard-sound _ _ (suc m) r s _ S e λ b n.
      locked-ends (suc m) r s (written (suc m) r s) S e (unmoved-written (suc m) r s) (written-formed m r s S e n) (written-keyed m r s S e c b)

  entry-sound : r.stage ≡ start → 3 ≤ r.code → r.code ≤ 4 → Sound (entry-step (suc m) r s).next
  unfolding entry-step
  entry-sound q lo hi = guard-sound _ _ (suc m) r s _ S e λ b n.
      locked-goes (suc m) r s (excluded_state (suc m) r s) S e (unmoved-entry r.entry (λ x. exclude_by (suc m) x.value x) s) (excluded-formed m r s S e) (excluded-keyed m r s S e lo hi b)
      (enter r.first) (ap stands q) refl (λ k. ap (times k) (enter-pins m r s S e q hi))
      (to-change (record { code_3_4 = (lo, hi); excludes = excluded-holds m r s S e hi }) refl)

  first-sound : r.stage ≡ start → Sound (first_step (suc m) r s).next
  unfolding first_step
  first-sound q = go (eqb r.code 1) refl (eqb r.code 2) refl (leb r.code 4) refl
    where
      go : (a : Bool) → eqb r.code 1 ≡ a → (b : Bool) → eqb r.code 2 ≡ b → (c : Bool) → leb r.code 4 ≡ c
          → Sound (cond a (read-step (suc m) r s) (cond b (write_step (suc m) r s) (cond c (entry-step (suc m) r s) (finished (suc m) r (0 ∷ 0 ∷ []) s)))).next
      go true x b y c z = read-sound (eqb_is r.code 1 x)
      go false x true y c z = write-sound (eqb_is r.code 2 y)
      go false x false y true z =
          let k = session-code m r.code (S.checked (suc m) r e).0 in
          let u = eqb-not r.code 1 x in
          let v = eqb-not r.code 2 y in
          entry-sound q (omega (arith, k.0, u, v)) (leb-is r.code 4 z)
      go false x false y false z = finish-sound (suc m) r (0 ∷ 0 ∷ []) s S e

  -- ---- insert, remove

  abbrev group : Desc
  group = desc_of r.first s

  module _ (q : r.stage ≡ change) where
    updating-ends : group_blockers strong (suc m) group ≡ [] → Sound (ended (suc m) r (updating_state (suc m) r s))
    updating-ends b = locked-ends (suc m) r s (updating_state (suc m) r s) S e (unmoved-desc r.first (hold_desc same (held_by (suc m)) same) s) (updating-formed m r s S e q b) (updating-keyed m r s S e q b)

    inserted-ends : group_blockers strong (suc m) group ≡ [] → elem r.entry group.members ≡ false → 2 ≤ s.free → Sound (ended (suc m) r (inserted_state (suc m) r s))
    inserted-ends b w n = locked-ends (suc m) r s (inserted_state (suc m) r s) S e (unmoved-inserted (suc m) r s) (inserted-formed m r s S e q b w n) (inserted-keyed m r s S e q b w)

    removed-ends : group_blockers strong (suc m) group ≡ [] → elem r.entry group.members ≡ true → Sound (ended (suc m) r (removed_state (suc m) r s))
    removed-ends b w = locked-ends (suc m) r s (removed_state (suc m) r s) S e (unmoved-removed (suc m) r s) (removed-formed m r s S e q b w) (removed-keyed m r s S e q b w)

    insert-sound : Sound (insert-step (suc m) r group s).next
    unfolding insert-step finished
    insert-sound = go (elem r.entry group.members) refl
      where
        go : (o : Bool) → elem r.entry group.members ≡ o
            → Sound (cond o (guarded (group_blockers strong (suc m) group) 0 (suc m) r s (finished (suc m) r (0 ∷ []) (updating_state (suc m) r s)))
            (guarded (group_blockers strong (suc m) group) 2 (suc m) r s (finished (suc m) r (1 ∷ []) (inserted_state (suc m) r s)))).next
        go true w = guard-sound _ _ (suc m) r s _ S e λ b n. updating-ends b
        go false w = guard-sound _ _ (suc m) r s _ S e λ b n. inserted-ends b w n

    remove-sound : Sound (remove-step (suc m) r group s).next
    unfolding remove-step finished
    remove-sound = guard-sound _ _ (suc m) r s _ S e λ b n. go b (elem r.entry group.members) refl
      where
        go : group_blockers strong (suc m) group ≡ [] → (o : Bool) → elem r.entry group.members ≡ o
            → Sound (cond o (finished (suc m) r (1 ∷ []) (removed_state (suc m) r s)) (finished (suc m) r (0 ∷ []) (updating_state (suc m) r s))).next
        go b true w = removed-ends b w
        go b false w = updating-ends b

    change-sound : Sound (change-step (suc m) r s).next
    unfolding change-step
    change-sound = either (λ o. Sound o.next) (eqb r.code 3) (insert-step (suc m) r group s) (remove-step (suc m) r group s) insert-sound remove-sound

  -- ---- locate

  module _ (n x : ℕ) (q : r.stage ≡ take x) where
    abbrev next : Desc
    next = or_none (lowest_from x (stored s))

    pass-sound : group_blockers weak (suc m) next ≡ [] → next.key < r.second → Sound (goes_on (suc m) r (take (suc next.key)) (passed_state (suc m) next s)).next
    unfolding pinned
    pass-sound b lt = locked-goes (suc m) r s (passed_state (suc m) next s) S e (unmoved-desc next.key (hold_desc (held_by (suc m)) same (held_by (suc m))) s)
        (passed-formed m r s S e x q) (passed-keyed m r s S e x q b) (take (suc next.key)) (ap stands q) refl (λ k. ap (times k) (sym (ap (pinned r) q))) (passed-passing m r s S e x q lt)

    last-sound : group_blockers weak (suc m) next ≡ [] → (l : List (ℕ × ℕ)) → Sound (last_take n (suc m) r l next s).next
    unfolding last_take
    last-sound b l = go (leb (2 * length l) n)
      where
        go : (o : Bool) → Sound (cond o (record { answer = done (length l ∷ []); next = ended (suc m) r (located_state (suc m) next s); written = l })
            (answer (refused 12 (length l)) (ended (suc m) r s))).next
        go true = locked-ends (suc m) r s (located_state (suc m) next s) S e (unmoved-desc next.key (hold_desc (held_by (suc m)) same same) s) (located-formed m r s S e x q) (located-keyed m r s S e x q b)
        go false = ended-sound (suc m) r s S e

    take-sound : Sound (take_step n (suc m) r x s).next
    unfolding take_step take_desc
    take-sound = guard-sound _ _ (suc m) r s _ S e λ b k. go b (ltb next.key r.second) refl
      where
        go : group_blockers weak (suc m) next ≡ [] → (o : Bool) → ltb next.key r.second ≡ o
            → Sound (cond o (goes_on (suc m) r (take (suc next.key)) (passed_state (suc m) next s)) (last_take n (suc m) r (memberships r.first r.second (stored s)) next s)).next
        go b true w = pass-sound b (leb-is (suc next.key) r.second w)
        go b false w = last-sound b (memberships r.first r.second (stored s))

-- ---- every step

module _ (n : ℕ) (s : State) (S : Sound s) where
  -- The housekeeper's tidy takes no lock.
  keeper-sound : (r : Request) → (session_of 0 s).hand ≡ some r → (g : Stage) → r.stage ≡ g → Sound (next_step n 0 r s g).next
  unfolding next_step first_step
  keeper-sound r e start q =
      let c = keeper-code r.code (S.checked 0 r e).0 in
      rw (eqb_no r.code 1 (λ z. omega (arith, c, z)), eqb_no r.code 2 (λ z. omega (arith, c, z)), leb_no r.code 4 (omega (arith, c))) (finish-sound 0 r (0 ∷ 0 ∷ []) s S e)
  keeper-sound r e (enter x) q = enter-sound 0 r x s S e q
  keeper-sound r e (at x) q = at-sound 0 r x s S e q
  keeper-sound r e change q = let C = stands_at 0 r change s S e q in absurd (omega (arith, keeper-code r.code (S.checked 0 r e).0, C.code_3_4.1))
  keeper-sound r e (take x) q = let P = stands_at 0 r (take x) s S e q in absurd (omega (arith, keeper-code r.code (S.checked 0 r e).0, P.code_5))

  session-sound : (m : ℕ) (r : Request) → (session_of (suc m) s).hand ≡ some r → (g : Stage) → r.stage ≡ g → Sound (next_step n (suc m) r s g).next
  unfolding next_step
  session-sound m r e start q = first-sound m r s S e q
  session-sound m r e (enter x) q = enter-sound (suc m) r x s S e q
  session-sound m r e (at x) q = at-sound (suc m) r x s S e q
  session-sound m r e change q = change-sound m r s S e q
  session-sound m r e (take x) q = take-sound m r s S e n x q

  steps-sound : (p : ℕ) (h : Option Request) → (session_of p s).hand ≡ h → Sound (steps p n h s).next
  unfolding steps
  steps-sound p none e = S
  steps-sound zero (some r) e = settled-step (λ o. Sound o.next) n 0 r s (keeper-sound r e r.stage refl) (λ b _. S)
  steps-sound (suc m) (some r) e = settled-step (λ o. Sound o.next) n (suc m) r s (session-sound m r e r.stage refl) (λ b _. S)

-- ---- every call

step_keeps : (p n : ℕ) (s : State) → Sound s → Sound (call (step p n) s).next
unfolding call
step_keeps p n s S = refusing-cases (λ o. Sound o.next) (step_checks p s) s (steps p n (session_of p s).hand s) (λ k. S) λ c. steps-sound n s S p (session_of p s).hand refl

pub keeps : (c : Call) (s : State) → Sound s → Sound (call c s).next
keeps (format m w) s S = format-keeps m w s S
keeps (begin p) s S = begin-keeps p s S
keeps (put p c e f g) s S = put_keeps p c e f g s S
keeps (step p n) s S = step_keeps p n s S
keeps (commit p) s S = commit-keeps p s S
keeps (abort p) s S = abort-keeps p s S
keeps (ask p) s S = ask-keeps p s S
keeps recover s S = recover-keeps s S
