-- Theorems of specs/Rows: what it defines is there.
use Rattle.std.specs.Prelude.{◌≡◌, Bool, cond, eqb, leb, set}
use Rattle.std.proofs.Math.Path.{refl, sym, ap, ap₂, subst}
use Rattle.std.proofs.Common.{◌∙◌, arith}
use Rattle.std.proofs.Math.Bool.{true, false}
use mathlib.Core.List.{List, [], ◌∷◌}
use Rattle.std.proofs.Math.Option.{none}
use Prim.Native.Nat.{ℕ, zero, suc, ◌-◌, ◌≤◌}
use Rattle.std.proofs.Math.Decide.{ℕ_discrete}
use Rattle.std.proofs.Math.ListN.{length}
use borrow.Author.Tests.{eq-eqb, ne_eqb}
use Rattle.words.specs.Header.{header_word, free_place}
use Rattle.chain.specs.Free.{pop_free}
use Rattle.locks.specs.Holders as W
use Rattle.locks.specs.Holders.{word_bits, first_of}
use Rattle.sessions.specs.declared.Session.{Session}
use Rattle.sessions.specs.Sessions.{session_at}
use Rattle.serial.specs.Serial.{true≢false}
use Rattle.serial.specs.Locks.{strong}
use Rattle.serial.specs.Locks as K
use Rattle.serial.specs.Calls as C
use Rattle.outcomes.specs.Said.{Stepped, said}
use Rattle.machine.specs.Logic.{leb_yes, leb_no}
use Rattle.machine.specs.Holders.{width, elem}
use Rattle.machine.specs.State.{Desc, Request, State, Outcome, refused, added, taken, on_tree, on_desc, with_free, group_desc, with_member, without_member, set_hand, add_undo}
use Rattle.machine.specs.Steps.{answer, ended, finished, guarded, group_blockers, updating_state, inserted_state, removed_state, insert-step, remove-step, change-step}
use Rattle.meaning.specs.Reading.{Chained, M-of, R-of}
use Rattle.meaning.specs.Sound.{All}
use Rattle.meaning.specs.Numbers.{all-as}
use Rattle.meaning.specs.Lens.{leaves_before, leaves_behind}
use Rattle.layout.specs.Layout.{Lay, leaves_in, firsts, Has, member_of, means}
use Rattle.layout.specs.Row.{Stands, Becomes, Moves}
use Rattle.layout.specs.Asked.{request_in, wait-moves}
use Rattle.layout.specs.Puts.{desc-locate, desc-update}
use Rattle.members.specs.Members.{put_member, take_member, unpin_at}
use Rattle.undo_log.specs.Undoing.{log_added, log_taken}
use Rattle.endings.specs.Table.{logged_by, idled}
use Rattle.long_locks.specs.LongLocks.{NarrowDesc, lowest_in, lowest-same, lowest-none, key-narrow}
use Rattle.grouping.specs.GroupWords.{Within}
use Rattle.changing.specs.Changing.{hold_and_end, change_blocker, keep_step, added_words, add_step, taken_words, take_step_of, refuse_step, wait_step, has_two, room_step, insert_step, remove_step, code_step, change_at, change_step}
use Rattle.changing.specs.Logs.{key-desc}
use Rattle.changing.specs.Naming.{split_at, found-elem, lost-elem, has-mid}
use Rattle.changing.specs.Logged.{within-members}
use Rattle.changing.specs.Adding.{adds, second}
use Rattle.changing.specs.TakingOut.{takes}
use Rattle.changing.specs.Ends.{lets_go, updates, ended-change, logged-last, lets-become, keeps-become, logs-become}
use Rattle.changing.specs.Rows.{two-free, in-change, is-session, x, L, m, k, e, P, l, c, Z, o, G, D, off, found}

free_same : (L : Lay) (t : List Session) (k : ℕ) (F : Desc → Desc) → with_free (length L.free) (on_desc k F (means L t)) ≡ on_desc k F (means L t)
unfolding means on_tree
free_same L t k F = refl

free-many : (L : Lay) (t : List Session) → (means L t).free ≡ length L.free
unfolding means
free-many L t = refl

-- ---- the rows of session p + 1

module _ (s : List ℕ) (t : List Session) (A : Stands s t) (p : ℕ) (party : suc p ≤ width) (stage : (session_at t (suc p)).stage ≡ 4) where
  abbrev σ : State
  σ = means A.lay t

  abbrev r : Request
  r = request_in (x s t A p party stage)

  there : Has (k s t A p party stage) (l s t A p party stage).num (leaves_in (L s t A p party stage))
  there = subst (Has (k s t A p party stage) (l s t A p party stage).num) (sym (P s t A p party stage).was)
      (has-mid (k s t A p party stage) (leaves_before (P s t A p party stage).around) (l s t A p party stage) (leaves_behind (P s t A p party stage).around)
      (P s t A p party stage).key)

  some-members : All (λ j. ¬ (j ≡ 0)) (firsts (c s t A p party stage))
  some-members = all-as {P = Within s (m s t A p party stage) (R-of s)} {Q = λ j. ¬ (j ≡ 0)} (λ j w z. omega (arith, z, w.has.first))
      (firsts (c s t A p party stage)) (within-members s t (L s t A p party stage) A.holds (Z s t A p party stage) (o s t A p party stage)
      (k s t A p party stage) (x s t A p party stage).low (P s t A p party stage) p party)

  elem-yes : ¬ (member_of (e s t A p party stage) (c s t A p party stage) ≡ 0) → elem (e s t A p party stage) (l s t A p party stage).desc.members ≡ true
  elem-yes n = ap (elem (e s t A p party stage)) (sym (G s t A p party stage).gathered) ∙ found-elem (e s t A p party stage) (c s t A p party stage) n

  elem-no : member_of (e s t A p party stage) (c s t A p party stage) ≡ 0 → elem (e s t A p party stage) (l s t A p party stage).desc.members ≡ false
  elem-no z = ap (elem (e s t A p party stage)) (sym (G s t A p party stage).gathered) ∙ lost-elem (e s t A p party stage)
      (c s t A p party stage) some-members z

  -- Who is in the way.
  narrow : NarrowDesc (l s t A p party stage).desc
  narrow = key-narrow (L s t A p party stage) t A.sound (k s t A p party stage) (x s t A p party stage).low (P s t A p party stage)

  same-blocker : change_blocker s (m s t A p party stage) (l s t A p party stage).num (suc p) ≡ lowest_in K.group strong (suc p)
      (l s t A p party stage).desc.locate (l s t A p party stage).desc.update
  unfolding change_blocker lowest_in
  same-blocker = ap₂ (λ a b. first_of (W.blockers word_bits 1 1 (suc p) a b))
      (desc-locate s (m s t A p party stage) (l s t A p party stage).num ∙ (D s t A p party stage).locate)
      (desc-update s (m s t A p party stage) (l s t A p party stage).num ∙ (D s t A p party stage).update)

  nobody : change_blocker s (m s t A p party stage) (l s t A p party stage).num (suc p) ≡ 0 → group_blockers strong (suc p) (l s t A p party stage).desc ≡ []
  unfolding group_blockers
  nobody z = lowest-none K.group strong (suc p) (l s t A p party stage).desc.locate (l s t A p party stage).desc.update narrow.locate narrow.update
      (sym same-blocker ∙ z)

  somebody : change_blocker s (m s t A p party stage) (l s t A p party stage).num (suc p) ≡ first_of
      (group_blockers strong (suc p) (l s t A p party stage).desc)
  unfolding group_blockers
  somebody = same-blocker ∙ lowest-same K.group strong (suc p) (l s t A p party stage).desc.locate
      (l s t A p party stage).desc.update narrow.locate narrow.update

  -- What a step is to the machine.
  abbrev To : Stepped → Outcome → Type 0
  To z out = Moves s t (suc p) z.words z.session (said z.answer) out

  wait-to : (q : ℕ) (bs : List ℕ) → ¬ (q ≡ 0) → q ≡ first_of bs → (need : ℕ) (out : Outcome) → To (wait_step s (x s t A p party stage) q)
      (guarded bs need (suc p) r σ out)
  unfolding wait_step guarded
  wait-to q [] n z need out = absurd (n z)
  wait-to q (b ∷ bs) n z need out = wait-moves s t A (suc p) q b bs z

  keep-to : To (keep_step s (m s t A p party stage) (suc p) (x s t A p party stage) (l s t A p party stage).num)
      (finished (suc p) r (0 ∷ []) (updating_state (suc p) r σ))
  unfolding keep_step finished request_in
  keep-to = record {
    becomes = subst (λ z. Becomes s (hold_and_end s (m s t A p party stage) (l s t A p party stage).num (suc p))
        (set t (suc p) (idled (x s t A p party stage))) z) (sym (ended-change (suc p) r (updating_state (suc p) r σ) (in-change s t A (suc p) party stage)))
        (keeps-become s t (L s t A p party stage) A.holds (Z s t A p party stage) (o s t A p party stage) (k s t A p party stage)
        (l s t A p party stage).num there (suc p) party);
    tells = refl;
  }

  refuse-to : To (refuse_step s (m s t A p party stage) (x s t A p party stage) (l s t A p party stage).num) (answer (refused 11 0) (ended (suc p) r σ))
  unfolding refuse_step request_in
  refuse-to = record {
    becomes = subst (λ z. Becomes s (unpin_at s (m s t A p party stage) (l s t A p party stage).num) (set t (suc p) (idled (x s t A p party stage))) z)
        (sym (ended-change (suc p) r σ (in-change s t A (suc p) party stage)))
        (lets-become s t (L s t A p party stage) A.holds (Z s t A p party stage) (o s t A p party stage) (k s t A p party stage)
        (l s t A p party stage).num there (suc p) party);
    tells = refl;
  }

  -- An entry added, from its records in the free chain.
  added-as : (a b : ℕ) (f : List ℕ) → (L s t A p party stage).free ≡ a ∷ b ∷ f → member_of (e s t A p party stage) (c s t A p party stage) ≡ 0
      → Moves s t (suc p) (hold_and_end (log_added
      (put_member (pop_free s (m s t A p party stage)) (m s t A p party stage) (l s t A p party stage).num a (e s t A p party stage))
      (m s t A p party stage) (e s t A p party stage) a (l s t A p party stage).num (x s t A p party stage).undo) (m s t A p party stage)
      (l s t A p party stage).num (suc p)) (logged_by (x s t A p party stage) b) (C.done (1 ∷ []))
      (finished (suc p) r (1 ∷ []) (inserted_state (suc p) r σ))
  unfolding logged_by finished request_in
  added-as a b f fr z =
      let u = adds s t (L s t A p party stage) A.holds (Z s t A p party stage) (o s t A p party stage) (k s t A p party stage) (x s t A p party stage).low
      (P s t A p party stage) p party (e s t A p party stage) (off s t A p party stage) (logged_by (x s t A p party stage) b) refl refl a b f fr z refl in
      let n : length f ≡ σ.free - 2 = omega (arith, free-many (L s t A p party stage) t, ap length fr) in
      record {
        becomes = subst (λ w. Becomes s (hold_and_end
            (log_added (put_member (pop_free s (m s t A p party stage)) (m s t A p party stage) (l s t A p party stage).num a (e s t A p party stage))
            (m s t A p party stage) (e s t A p party stage) a (l s t A p party stage).num (x s t A p party stage).undo) (m s t A p party stage)
            (l s t A p party stage).num (suc p)) (set t (suc p) (logged_by (x s t A p party stage) b)) w)
            (logged-last (suc p) (k s t A p party stage) (length f) (added (e s t A p party stage) (k s t A p party stage)) lets_go (updates (suc p))
            (group_desc (with_member (e s t A p party stage))) σ
            ∙ ap (λ i. set_hand (suc p) none (on_desc (k s t A p party stage) lets_go
            (add_undo (suc p) (added (e s t A p party stage) (k s t A p party stage))
            (with_free i (on_desc (k s t A p party stage) (λ d. updates (suc p) (group_desc (with_member (e s t A p party stage)) d)) σ))))) n
            ∙ sym (ended-change (suc p) r (inserted_state (suc p) r σ) (in-change s t A (suc p) party stage)))
            (logs-become s t (L s t A p party stage) (suc p) (logged_by (x s t A p party stage) b)
            (log_added (put_member (pop_free s (m s t A p party stage)) (m s t A p party stage) (l s t A p party stage).num a (e s t A p party stage))
            (m s t A p party stage) (e s t A p party stage) a (l s t A p party stage).num (x s t A p party stage).undo)
            (set_hand (suc p) none (add_undo (suc p) (added (e s t A p party stage) (k s t A p party stage))
            (with_free (length f) (on_desc (k s t A p party stage) (group_desc (with_member (e s t A p party stage))) σ)))) u (k s t A p party stage)
            (l s t A p party stage).num there);
        tells = refl;
      }

  add-to : (a b : ℕ) (f : List ℕ) → (L s t A p party stage).free ≡ a ∷ b ∷ f → member_of (e s t A p party stage) (c s t A p party stage) ≡ 0 → To
      (add_step s (m s t A p party stage) (suc p) (x s t A p party stage) (l s t A p party stage).num)
      (finished (suc p) r (1 ∷ []) (inserted_state (suc p) r σ))
  unfolding add_step added_words logged_by
  add-to a b f fr z =
      let out = finished (suc p) r (1 ∷ []) (inserted_state (suc p) r σ) in
      let head : a ≡ header_word s free_place = sym (subst (Chained s (m s t A p party stage) (header_word s free_place)) fr A.holds.fits.free).0 in
      let next : header_word (put_member (pop_free s (m s t A p party stage)) (m s t A p party stage) (l s t A p party stage).num a
      (e s t A p party stage)) free_place ≡ b = second s t (L s t A p party stage) A.holds (Z s t A p party stage) (o s t A p party stage)
      (k s t A p party stage) (x s t A p party stage).low (P s t A p party stage) p party (e s t A p party stage) (off s t A p party stage)
      (logged_by (x s t A p party stage) b) refl refl a b f fr z refl in
      subst (λ i. Moves s t (suc p) (hold_and_end
      (log_added (put_member (pop_free s (m s t A p party stage)) (m s t A p party stage) (l s t A p party stage).num i (e s t A p party stage))
      (m s t A p party stage) (e s t A p party stage) i (l s t A p party stage).num (x s t A p party stage).undo) (m s t A p party stage)
      (l s t A p party stage).num (suc p))
      (logged_by (x s t A p party stage) (header_word
      (put_member (pop_free s (m s t A p party stage)) (m s t A p party stage) (l s t A p party stage).num i (e s t A p party stage)) free_place))
      (C.done (1 ∷ [])) out) head
      (subst (λ j. Moves s t (suc p) (hold_and_end
      (log_added (put_member (pop_free s (m s t A p party stage)) (m s t A p party stage) (l s t A p party stage).num a (e s t A p party stage))
      (m s t A p party stage) (e s t A p party stage) a (l s t A p party stage).num (x s t A p party stage).undo) (m s t A p party stage)
      (l s t A p party stage).num (suc p)) (logged_by (x s t A p party stage) j) (C.done (1 ∷ [])) out) (sym next) (added-as a b f fr z))

  take-to : ¬ (member_of (e s t A p party stage) (c s t A p party stage) ≡ 0) → To
      (take_step_of s (m s t A p party stage) (suc p) (x s t A p party stage) (l s t A p party stage).num
      (member_of (e s t A p party stage) (c s t A p party stage))) (finished (suc p) r (1 ∷ []) (removed_state (suc p) r σ))
  unfolding take_step_of taken_words logged_by finished request_in
  take-to n =
      let i = member_of (e s t A p party stage) (c s t A p party stage) in
      let y = logged_by (x s t A p party stage) i in
      let u = takes s t (L s t A p party stage) A.holds (Z s t A p party stage) (o s t A p party stage) (k s t A p party stage) (x s t A p party stage).low
      (P s t A p party stage) p party (e s t A p party stage) (off s t A p party stage) y refl refl i
      (split_at (e s t A p party stage) (c s t A p party stage) n) refl refl in
      let F = group_desc (without_member (e s t A p party stage)) in
      record {
        becomes = subst (λ w. Becomes s (hold_and_end
            (log_taken (take_member s (m s t A p party stage) (l s t A p party stage).num i) (m s t A p party stage) i (e s t A p party stage)
            (l s t A p party stage).num (x s t A p party stage).undo) (m s t A p party stage) (l s t A p party stage).num (suc p)) (set t (suc p) y) w)
            (logged-last (suc p) (k s t A p party stage) (length (L s t A p party stage).free) (taken (e s t A p party stage) (k s t A p party stage)) lets_go
            (updates (suc p)) F σ
            ∙ ap (λ z. set_hand (suc p) none (on_desc (k s t A p party stage) lets_go
            (add_undo (suc p) (taken (e s t A p party stage) (k s t A p party stage)) z)))
            (free_same (L s t A p party stage) t (k s t A p party stage) (λ d. updates (suc p) (F d)))
            ∙ sym (ended-change (suc p) r (removed_state (suc p) r σ) (in-change s t A (suc p) party stage)))
            (logs-become s t (L s t A p party stage) (suc p) y
            (log_taken (take_member s (m s t A p party stage) (l s t A p party stage).num i) (m s t A p party stage) i (e s t A p party stage)
            (l s t A p party stage).num (x s t A p party stage).undo)
            (set_hand (suc p) none (add_undo (suc p) (taken (e s t A p party stage) (k s t A p party stage))
            (with_free (length (L s t A p party stage).free) (on_desc (k s t A p party stage) F σ)))) u (k s t A p party stage)
            (l s t A p party stage).num there);
        tells = refl;
      }

  -- ---- with the tests

  to-either : (b : Bool) (y z : Stepped) (v w : Outcome) → (b ≡ true → To y v) → (b ≡ false → To z w) → To (cond b y z) (cond b v w)
  to-either true y z v w f g = f refl
  to-either false y z v w f g = g refl

  room-to : member_of (e s t A p party stage) (c s t A p party stage) ≡ 0
      → To (room_step s (m s t A p party stage) (suc p) (x s t A p party stage) (l s t A p party stage).num)
      (cond (leb 2 σ.free) (finished (suc p) r (1 ∷ []) (inserted_state (suc p) r σ)) (answer (refused 11 0) (ended (suc p) r σ)))
  unfolding room_step
  room-to z =
      let fin = finished (suc p) r (1 ∷ []) (inserted_state (suc p) r σ) in
      let no_room = answer (refused 11 0) (ended (suc p) r σ) in
      subst (λ n. To (cond (has_two s (m s t A p party stage)) (add_step s (m s t A p party stage) (suc p) (x s t A p party stage) (l s t A p party stage).num)
      (refuse_step s (m s t A p party stage) (x s t A p party stage) (l s t A p party stage).num)) (cond (leb 2 n) fin no_room))
      (sym (free-many (L s t A p party stage) t))
      (subst (λ b. To (cond b (add_step s (m s t A p party stage) (suc p) (x s t A p party stage) (l s t A p party stage).num)
      (refuse_step s (m s t A p party stage) (x s t A p party stage) (l s t A p party stage).num))
      (cond (leb 2 (length (L s t A p party stage).free)) fin no_room))
      (sym (two-free s (m s t A p party stage) (L s t A p party stage).free A.holds.fits.free))
      (go (L s t A p party stage).free refl))
    where
      go : (f : List ℕ) → (L s t A p party stage).free ≡ f
          → To (cond (leb 2 (length f)) (add_step s (m s t A p party stage) (suc p) (x s t A p party stage) (l s t A p party stage).num)
          (refuse_step s (m s t A p party stage) (x s t A p party stage) (l s t A p party stage).num))
          (cond (leb 2 (length f)) (finished (suc p) r (1 ∷ []) (inserted_state (suc p) r σ)) (answer (refused 11 0) (ended (suc p) r σ)))
      go [] q = to-either (leb 2 0) (add_step s (m s t A p party stage) (suc p) (x s t A p party stage) (l s t A p party stage).num)
          (refuse_step s (m s t A p party stage) (x s t A p party stage) (l s t A p party stage).num) (finished (suc p) r (1 ∷ []) (inserted_state (suc p) r σ))
          (answer (refused 11 0) (ended (suc p) r σ)) (λ w. absurd (true≢false w (leb_no 2 0 (omega arith)))) (λ w. refuse-to)
      go (a ∷ []) q = to-either (leb 2 1) (add_step s (m s t A p party stage) (suc p) (x s t A p party stage) (l s t A p party stage).num)
          (refuse_step s (m s t A p party stage) (x s t A p party stage) (l s t A p party stage).num) (finished (suc p) r (1 ∷ []) (inserted_state (suc p) r σ))
          (answer (refused 11 0) (ended (suc p) r σ)) (λ w. absurd (true≢false w (leb_no 2 1 (omega arith)))) (λ w. refuse-to)
      go (a ∷ b ∷ f) q = to-either (leb 2 (suc (suc (length f))))
          (add_step s (m s t A p party stage) (suc p) (x s t A p party stage) (l s t A p party stage).num)
          (refuse_step s (m s t A p party stage) (x s t A p party stage) (l s t A p party stage).num) (finished (suc p) r (1 ∷ []) (inserted_state (suc p) r σ))
          (answer (refused 11 0) (ended (suc p) r σ)) (λ w. add-to a b f q z) (λ w. absurd (true≢false (leb_yes 2 (suc (suc (length f))) (omega arith)) w))

  insert-to : group_blockers strong (suc p) (l s t A p party stage).desc ≡ [] → To
      (insert_step s (m s t A p party stage) (suc p) (x s t A p party stage) (l s t A p party stage).num
      (member_of (e s t A p party stage) (c s t A p party stage))) (insert-step (suc p) r (l s t A p party stage).desc σ)
  unfolding insert_step insert-step guarded request_in
  insert-to free = go (ℕ_discrete (member_of (e s t A p party stage) (c s t A p party stage)) 0)
    where
      go : Dec (member_of (e s t A p party stage) (c s t A p party stage) ≡ 0) → To
          (insert_step s (m s t A p party stage) (suc p) (x s t A p party stage) (l s t A p party stage).num
          (member_of (e s t A p party stage) (c s t A p party stage))) (insert-step (suc p) r (l s t A p party stage).desc σ)
      go (yes z) = rw (eq-eqb (member_of (e s t A p party stage) (c s t A p party stage)) 0 z, elem-no z, free) (room-to z)
      go (no n) = rw (ne_eqb (member_of (e s t A p party stage) (c s t A p party stage)) 0 n, elem-yes n, free, leb_yes 0 σ.free (omega arith)) keep-to

  remove-to : group_blockers strong (suc p) (l s t A p party stage).desc ≡ [] → To
      (remove_step s (m s t A p party stage) (suc p) (x s t A p party stage) (l s t A p party stage).num
      (member_of (e s t A p party stage) (c s t A p party stage))) (remove-step (suc p) r (l s t A p party stage).desc σ)
  unfolding remove_step remove-step guarded request_in
  remove-to free = go (ℕ_discrete (member_of (e s t A p party stage) (c s t A p party stage)) 0)
    where
      go : Dec (member_of (e s t A p party stage) (c s t A p party stage) ≡ 0) → To
          (remove_step s (m s t A p party stage) (suc p) (x s t A p party stage) (l s t A p party stage).num
          (member_of (e s t A p party stage) (c s t A p party stage))) (remove-step (suc p) r (l s t A p party stage).desc σ)
      go (yes z) = rw (eq-eqb (member_of (e s t A p party stage) (c s t A p party stage)) 0 z, elem-no z, free, leb_yes 0 σ.free (omega arith)) keep-to
      go (no n) = rw (ne_eqb (member_of (e s t A p party stage) (c s t A p party stage)) 0 n, elem-yes n, free, leb_yes 0 σ.free (omega arith)) (take-to n)

  code-to : group_blockers strong (suc p) (l s t A p party stage).desc ≡ []
      → To (code_step s (m s t A p party stage) (suc p) (x s t A p party stage) (l s t A p party stage).num
      (member_of (e s t A p party stage) (c s t A p party stage)))
      (cond (eqb (x s t A p party stage).code 3) (insert-step (suc p) r (l s t A p party stage).desc σ)
      (remove-step (suc p) r (l s t A p party stage).desc σ))
  unfolding code_step
  code-to free = go (eqb (x s t A p party stage).code 3)
    where
      go : (b : Bool) → To (cond b (insert_step s (m s t A p party stage) (suc p) (x s t A p party stage) (l s t A p party stage).num
          (member_of (e s t A p party stage) (c s t A p party stage)))
          (remove_step s (m s t A p party stage) (suc p) (x s t A p party stage) (l s t A p party stage).num
          (member_of (e s t A p party stage) (c s t A p party stage))))
          (cond b (insert-step (suc p) r (l s t A p party stage).desc σ) (remove-step (suc p) r (l s t A p party stage).desc σ))
      go true = insert-to free
      go false = remove-to free

  wait-any : (q : ℕ) → ¬ (q ≡ 0) → q ≡ first_of (group_blockers strong (suc p) (l s t A p party stage).desc)
      → To (wait_step s (x s t A p party stage) q)
      (cond (eqb (x s t A p party stage).code 3) (insert-step (suc p) r (l s t A p party stage).desc σ)
      (remove-step (suc p) r (l s t A p party stage).desc σ))
  unfolding insert-step remove-step
  wait-any q n h = go (eqb (x s t A p party stage).code 3) (elem r.entry (l s t A p party stage).desc.members)
    where
      bs : List ℕ
      bs = group_blockers strong (suc p) (l s t A p party stage).desc

      go : (b i : Bool) → To (wait_step s (x s t A p party stage) q)
          (cond b (cond i (guarded bs 0 (suc p) r σ (finished (suc p) r (0 ∷ []) (updating_state (suc p) r σ))) (guarded bs 2 (suc p) r σ (finished (suc p) r (1 ∷ []) (inserted_state (suc p) r σ))))
          (guarded bs 0 (suc p) r σ (cond i (finished (suc p) r (1 ∷ []) (removed_state (suc p) r σ)) (finished (suc p) r (0 ∷ []) (updating_state (suc p) r σ)))))
      go true true = wait-to q bs n h 0 (finished (suc p) r (0 ∷ []) (updating_state (suc p) r σ))
      go true false = wait-to q bs n h 2 (finished (suc p) r (1 ∷ []) (inserted_state (suc p) r σ))
      go false i = wait-to q bs n h 0 (cond i (finished (suc p) r (1 ∷ []) (removed_state (suc p) r σ)) (finished (suc p) r (0 ∷ []) (updating_state (suc p) r σ)))

  at-to : To (change_at s (m s t A p party stage) (R-of s) (suc p) (x s t A p party stage) (l s t A p party stage).num)
      (cond (eqb (x s t A p party stage).code 3) (insert-step (suc p) r (l s t A p party stage).desc σ) (remove-step (suc p) r (l s t A p party stage).desc σ))
  unfolding change_at
  at-to =
      subst (λ i. To (cond (eqb q 0) (code_step s (m s t A p party stage) (suc p) (x s t A p party stage) (l s t A p party stage).num i)
      (wait_step s (x s t A p party stage) q)) out) (sym (found s t A p party stage)) (go (ℕ_discrete q 0))
    where
      q : ℕ
      q = change_blocker s (m s t A p party stage) (l s t A p party stage).num (suc p)

      out : Outcome
      out = cond (eqb (x s t A p party stage).code 3) (insert-step (suc p) r (l s t A p party stage).desc σ)
          (remove-step (suc p) r (l s t A p party stage).desc σ)

      go : Dec (q ≡ 0) → To (cond (eqb q 0) (code_step s (m s t A p party stage) (suc p) (x s t A p party stage) (l s t A p party stage).num
          (member_of (e s t A p party stage) (c s t A p party stage))) (wait_step s (x s t A p party stage) q)) out
      go (yes z) = rw (eq-eqb q 0 z) (code-to (nobody z))
      go (no n) = rw (ne_eqb q 0 n) (wait-any q n somebody)

  all-to : To (change_step s (m s t A p party stage) (R-of s) (suc p) (x s t A p party stage)) (change-step (suc p) r σ)
  unfolding change_step change-step request_in
  all-to =
      subst (λ d. To (change_at s (m s t A p party stage) (R-of s) (suc p) (x s t A p party stage) d) (change-step (suc p) r σ)) (P s t A p party stage).num
      (subst (λ d. To (change_at s (m s t A p party stage) (R-of s) (suc p) (x s t A p party stage) (l s t A p party stage).num)
      (cond (eqb (x s t A p party stage).code 3) (insert-step (suc p) r d σ) (remove-step (suc p) r d σ)))
      (sym (key-desc (L s t A p party stage) t (k s t A p party stage) (x s t A p party stage).low (P s t A p party stage))) at-to)

-- The step of a party that stands before its change.
pub change-moves : (s : List ℕ) (t : List Session) (A : Stands s t) (p : ℕ) → p ≤ width → (session_at t p).stage ≡ 4
    → Moves s t p (change_step s (M-of s) (R-of s) p (session_at t p)).words (change_step s (M-of s) (R-of s) p (session_at t p)).session
    (said (change_step s (M-of s) (R-of s) p (session_at t p)).answer) (change-step p (request_in (session_at t p)) (means A.lay t))
change-moves s t A zero party stage = absurd (omega (arith, is-session s t A zero party stage))
change-moves s t A (suc p) party stage = all-to s t A p party stage
