-- The rows of a request's first step that leave every record: read, the entry lock of insert and remove, and a tidy that chose nothing.
use Rattle.std.specs.Prelude.{◌≡◌, true, false, cond, List, [], ◌∷◌, ℕ, ◌≤◌, eqb, leb, set}
use Rattle.std.proofs.Math.Path.{refl, ap, subst}
use Rattle.std.proofs.Common.{sym, arith, lit<, ne_eqb}
use Rattle.std.proofs.Math.Option.{some}
use Rattle.words.specs.Entries.{HasEntry, entry_word}
use Rattle.sessions.specs.declared.Session.{Session}
use Rattle.sessions.specs.Sessions.{session_at, tenure}
use Rattle.serial.specs.Serial.{true≢false}
use Rattle.serial.specs.Locks.{weak, strong}
use Rattle.serial.specs.Calls as C
use Rattle.machine.specs.Logic.{leb_yes}
use Rattle.machine.specs.Holders.{width, held_by}
use Rattle.machine.specs.State.{Entry, Request, enter, State, Outcome, refused, entry_of, on_entry, set_hand, in_stage}
use Rattle.machine.specs.Steps.{answer, ended, finished, goes_on, share_by, exclude_by, entry_blockers, read-step, entry-step}
use Rattle.meaning.specs.Reading.{hand_of}
use Rattle.meaning.specs.Sound.{pins_first}
use Rattle.meaning.specs.Writes.{with_field, entry-others, entry-put}
use Rattle.layout.specs.Layout.{Lay, HandFits, means}
use Rattle.layout.specs.Row.{Stands, Becomes, Moves}
use Rattle.layout.specs.Written.{entry-written, entry-head}
use Rattle.layout.specs.Left.{idle-fits}
use Rattle.layout.specs.Asked.{request_in}
use Rattle.endings.specs.Table.{idled}
use Rattle.starting.specs.Starting.{entry_blocker, shared_words, read_done_of, read_step, excluded_words, to_first, entry_done_of, entry_step, tidied_none}
use Rattle.starting.specs.Start.{Steps, start-finished, start-stage, idle-hand, idle-stage, idle-undo, idle-tenure, entry_words, OnEntry, entry-least, entry-most, entry-there, blocker-none, blocker-first, guard-moves, entry-becomes, idle-becomes}

-- ---- the words of an entry

pub on-shared : (s : List ℕ) (p e : ℕ) → HasEntry s e → OnEntry s (shared_words s p e) e (share_by p)
unfolding shared_words with_field
on-shared s p e has = record { others = λ d x y n. entry-others s e 1 (held_by p (entry_word s e 1)) has (lit< tt) d x n; here = entry-put s e 1 (held_by p (entry_word s e 1)) has (lit< tt) }

pub on-excluded : (s : List ℕ) (p e : ℕ) → HasEntry s e → OnEntry s (excluded_words s p e) e (λ x. exclude_by p x.value x)
unfolding excluded_words with_field
on-excluded s p e has = record { others = λ d x y n. entry-others s e 2 (held_by p (entry_word s e 2)) has (lit< tt) d x n; here = entry-put s e 2 (held_by p (entry_word s e 2)) has (lit< tt) }

-- ---- session records

first_stage : (x : Session) → (to_first x).stage ≡ 2
unfolding to_first
first_stage x = refl

first-undo : (x : Session) → (to_first x).undo ≡ x.undo
unfolding to_first
first-undo x = refl

first-tenure : (x : Session) → tenure (to_first x) ≡ tenure x
unfolding to_first
first-tenure x = refl

first-hand : (x : Session) → hand_of (to_first x) ≡ some (in_stage (enter (request_in x).first) (request_in x))
unfolding to_first request_in
first-hand x = refl

first-pins : (x : Session) → ¬ (x.code ≡ 5) → pins_first (to_first x) ≡ false
unfolding to_first
first-pins x n = ap (λ b. cond b (cond (eqb x.first x.first) false true) false) (ne_eqb x.code 5 n)

first_fits : (L : Lay) (p : ℕ) (x : Session) → x.code ≤ 4 → HandFits L p (to_first x)
first_fits L p x l =
    let e = first_stage x in
    record {
      stage = omega (arith, e);
      at-node = λ f. absurd (omega (arith, e, f));
      low = λ n f. absurd (true≢false f (first-pins x (λ q. omega (arith, l, q))));
      high = λ f n. absurd (omega (arith, e, f));
      last = λ f. absurd (omega (arith, e, f));
    }

-- ---- rows

module _ (s : List ℕ) (t : List Session) (A : Stands s t) (p : ℕ) (party : p ≤ width) (at-start : (session_at t p).stage ≡ 1) where
  abbrev own : Session
  own = session_at t p

  abbrev state : State
  state = means A.lay t

  -- A step that needs no record.
  no-need : (o : Outcome) (r : Request) → cond (leb 0 state.free) o (answer (refused 11 0) (ended p r state)) ≡ o
  no-need o r = ap (λ b. cond b o (answer (refused 11 0) (ended p r state))) (leb_yes 0 state.free (omega arith))

  -- Read: the entry's value, and its share lock.
  pub read_done : own.code ≤ 4 → Steps s t p (read_done_of s p own) (finished p (request_in own) ((entry_of own.entry state).value ∷ []) (on_entry own.entry (share_by p) state))
  unfolding read_done_of
  read_done l =
      let e = own.entry in
      let has = entry-there s t A p party at-start l in
      let most = entry-most s t A p party at-start l in
      let σ = on_entry e (share_by p) state in
      let s' = shared_words s p e in
      let row = entry-becomes s t A p party at-start s' (unfold shared_words in (entry-written s e 1 (held_by p (entry_word s e 1)) has (lit< tt) most))
      (unfold shared_words in (entry-head s e 1 (held_by p (entry_word s e 1)) has (lit< tt) most)) (share_by p) l (on-shared s p e has) (idled own) (idle-undo own) (idle-tenure own)
      (idle-fits A.lay p (idled own) (idle-stage own)) in
      subst (Moves s t p s' (idled own) (C.done (entry_word s e 0 ∷ []))) (sym (start-finished p (request_in own) ((entry_of e state).value ∷ []) σ (start-stage own at-start)))
      (record {
        becomes = subst (λ h. Becomes s s' (set t p (idled own)) (set_hand p h σ)) (idle-hand own) row;
        tells = ap (λ x. C.done (x.value ∷ [])) (sym (entry_words s t A.lay A.holds e (entry-least s t A p party at-start l) most));
      })

  pub read-moves : own.code ≤ 4 → Steps s t p (read_step s p own) (read-step p (request_in own) state)
  unfolding read_step read-step
  read-moves l =
      let o = finished p (request_in own) ((entry_of own.entry state).value ∷ []) (on_entry own.entry (share_by p) state) in
      unfold request_in in
      (guard-moves s t A p party at-start (entry_blocker s own.entry 0 p) (entry_blockers weak p (request_in own) state) 0 (request_in own) o (read_done_of s p own)
      (blocker-none s t A p party at-start l weak) (blocker-first s t A p party at-start l weak) (subst (Steps s t p (read_done_of s p own)) (sym (no-need o (request_in own))) (read_done l)))

  -- Insert, remove: the entry's exclusive lock, and the descent to first begins.
  pub entry_done : own.code ≤ 4
      → Steps s t p (entry_done_of s p own) (goes_on p (request_in own) (enter (request_in own).first) (on_entry own.entry (λ x. exclude_by p x.value x) state))
  unfolding entry_done_of goes_on
  entry_done l =
      let e = own.entry in
      let has = entry-there s t A p party at-start l in
      let most = entry-most s t A p party at-start l in
      let f : Entry → Entry = λ x. exclude_by p x.value x in
      let s' = excluded_words s p e in
      let row = entry-becomes s t A p party at-start s' (unfold excluded_words in (entry-written s e 2 (held_by p (entry_word s e 2)) has (lit< tt) most))
      (unfold excluded_words in (entry-head s e 2 (held_by p (entry_word s e 2)) has (lit< tt) most)) f l (on-excluded s p e has) (to_first own) (first-undo own) (first-tenure own)
      (first_fits A.lay p own l) in
      record { becomes = subst (λ h. Becomes s s' (set t p (to_first own)) (set_hand p h (on_entry e f state))) (first-hand own) row; tells = refl }

  pub entry-moves : own.code ≤ 4 → Steps s t p (entry_step s p own) (entry-step p (request_in own) state)
  unfolding entry_step entry-step
  entry-moves l =
      let o = goes_on p (request_in own) (enter (request_in own).first) (on_entry own.entry (λ x. exclude_by p x.value x) state) in
      unfold request_in in
      (guard-moves s t A p party at-start (entry_blocker s own.entry 1 p) (entry_blockers strong p (request_in own) state) 0 (request_in own) o (entry_done_of s p own)
      (blocker-none s t A p party at-start l strong) (blocker-first s t A p party at-start l strong) (subst (Steps s t p (entry_done_of s p own)) (sym (no-need o (request_in own))) (entry_done l)))

  -- A tidy that chose nothing.
  pub tidied-moves : Steps s t p (tidied_none s own) (finished p (request_in own) (0 ∷ 0 ∷ []) state)
  unfolding tidied_none
  tidied-moves =
      subst (Moves s t p s (idled own) (C.done (0 ∷ 0 ∷ []))) (sym (start-finished p (request_in own) (0 ∷ 0 ∷ []) state (start-stage own at-start)))
      (record { becomes = idle-becomes s t A p party at-start; tells = refl })
