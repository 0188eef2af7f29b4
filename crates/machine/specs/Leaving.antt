-- Soundness is kept by commit and abort: a session leaves, after its undo records, newest first, are undone, or are dropped.
use Rattle.std.specs.Prelude.{◌≡◌, true, false, cond, List, [], ◌∷◌, map, ◌+◌, ◌<◌, ℕ, eqb, get_or, set}
use Rattle.std.proofs.Math.Path.{refl, sym, subst, ap}
use Rattle.std.proofs.Common.{◌∙◌, arith, get_or-set_same, set-set}
use Rattle.std.proofs.Math.Logic.{inl}
use Rattle.std.proofs.Math.Option.{Option, none, some, none-ne-some}
use Rattle.std.proofs.Math.Decide.{ℕ_discrete}
use Rattle.std.proofs.Math.ListN.{length, length-set, length-map}
use Rattle.serial.specs.Serial.{true≢false}
use Rattle.serial.specs.Locks.{Kind, Mode}
use Rattle.serial.specs.LockMachine.{Ended}
use Rattle.machine.specs.Logic.{not-false}
use Rattle.machine.specs.Holders.{holds, left_by, elem}
use Rattle.machine.specs.State.{Desc, Request, Undo, Session, State, top, idle, session_of, with_free, with_table, on_session, on_tree, on_leaves, ok}
use Rattle.machine.specs.Steps.{answer, pinned}
use Rattle.machine.specs.Calls.{call, abort, abort_checks, no_session, has_begun, in_hand, entry_left, leave, undo-all, end_hand, commits, aborts}
use Rattle.machine.specs.Calls as C
use Rattle.machine.specs.Gaps.{reads-gap}
use Rattle.machine.specs.View.{holders, group_in, seen, view, Same, same_refl, ended_same, frame-holders}
use Rattle.machine.specs.Sound.{gap_word, stored_in, pins_in, total, ListedTo, of_hand, times, pins_by, Undoable, cells, Sound, Formed, Latches, latches-of, keyed-of, sound-from, formed-of}
use Rattle.machine.specs.Effect.{Effect, Own}
use Rattle.machine.specs.Bits.{left-same, left_other}
use Rattle.machine.specs.Table.{begun-seat, leave_own, leave-other, session-same}
use Rattle.machine.specs.Groups.{words}
use Rattle.machine.specs.Housekeeping.{lvs, seen-group}
use Rattle.machine.specs.Totals.{total-set}
use Rattle.machine.specs.Checks.{refusing-cases, session-begun, empty_hand, session-number}
use Rattle.machine.specs.Looks.{stored-map, listed-map}
use Rattle.machine.specs.Alike.{on-leaves-formed}
use Rattle.machine.specs.Latch.{leaves-latches, kept-latches}
use Rattle.machine.specs.Effects.{keyed-after}
use Rattle.machine.specs.Ending.{ended-sound, ended-hand}
use Rattle.machine.specs.Undoing.{with_undos, next_table, link-sound, link-undone}
use Rattle.machine.specs.Ends.{off, leave-ended, leave-lvs, leave-reads, leave-group}
use Rattle.machine.specs.Abort.{Chain, stop, chain-undone, next}

-- ---- lists whose descriptors all lose a holder

pins-off : (p k : ℕ) (l : List Desc) → pins_in k (map (off p) l) ≡ pins_in k l
unfolding pins_in
pins-off p k [] = refl
pins-off p k (d ∷ l) = ap (λ n. cond (eqb d.key k) d.pins n) (pins-off p k l)

-- ---- a session leaves

-- The session p of s leaves; n records are free then.
module _ (p : ℕ) (s : State) (n : ℕ) (S : Sound s) (h : p < length s.table) (b : (session_of p s).begun ≡ true) (free : (session_of p s).hand ≡ none) where
  abbrev gone : State
  gone = leave p (with_free n s)

  gone-leaves : lvs gone ≡ map (off p) (lvs s)
  gone-leaves = leave-lvs p (with_free n s)

  gone-mine : session_of p gone ≡ idle
  gone-mine = leave_own p (with_free n s) h

  gone-theirs : (q : ℕ) → ¬ (p ≡ q) → session_of q gone ≡ session_of q s
  gone-theirs q i = leave-other p q (with_free n s) i ∙ session-same s (with_free n s) refl q

  ends : Ended p (view (with_free n s)) (view gone)
  unfolding session_of
  ends = leave-ended p (with_free n s) h b

  gone-off : (k : Kind) (m : Mode) (z : ℕ) → holders gone k m p z ≡ false
  gone-off = ends.holds_off

  gone_held : (k : Kind) (m : Mode) (q z : ℕ) → ¬ (p ≡ q) → holders gone k m q z ≡ holders s k m q z
  gone_held k m q z i = (ends.others q i).holds_kept k m z ∙ frame-holders s (with_free n s) refl refl k m q z

  gone-gap : (z : ℕ) → gap_word z (seen gone) ≡ left_by p (gap_word z (seen s))
  unfolding gap_word
  gone-gap z = reads-gap 0 (words (seen gone)) z ∙ leave-reads p (with_free n s) (λ x. x.gap) (λ w. w) (λ d. refl) (λ g. refl) z ∙ sym (ap (left_by p) (reads-gap 0 (words (seen s)) z))

  gone-stored : (z : ℕ) → stored_in z (lvs gone) ≡ stored_in z (lvs s)
  gone-stored z = ap (stored_in z) gone-leaves ∙ stored-map (off p) (λ d. refl) z (lvs s)

  gone-group : (z : ℕ) → group_in z (lvs gone) ≡ group_in z (lvs s)
  gone-group z = leave-group p (with_free n s) z

  gone-many : length gone.entries ≡ length s.entries
  unfolding leave on_session on_tree
  gone-many = length-map s.entries (entry_left p)

  gone-effect : Effect p s gone
  unfolding leave on_session on_tree
  gone-effect = record {
    many = gone-many;
    records_same = refl;
    seats_same = length-set s.table p idle;
    others = gone-theirs;
    held_others = gone_held;
    gaps_others = λ q z i. ap (λ w. holds w q) (gone-gap z) ∙ left_other p q (gap_word z (seen s)) i;
    stays = λ z e. inl (gone-stored z ∙ e);
    cells_others = λ q k e i u. ap (elem e) (seen-group k gone ∙ gone-group k ∙ sym (seen-group k s));
  }

  -- Who holds after it is another, and held before.
  gone-was : (k : Kind) (m : Mode) (q z : ℕ) → holders gone k m q z ≡ true → holders s k m q z ≡ true
  gone-was k m q z e = go (ℕ_discrete p q)
    where
      go : Dec (p ≡ q) → holders s k m q z ≡ true
      go (yes i) = absurd (true≢false e (subst (λ x. holders gone k m x z ≡ false) i (gone-off k m z)))
      go (no i) = sym (gone_held k m q z i) ∙ e

  gone-pins : (k : ℕ) → pins_in k (lvs gone) ≡ total (pins_by k) gone.table
  unfolding leave on_session on_tree session_of
  gone-pins k =
      let none-by : pins_by k (session_of p s) ≡ 0 = ap (of_hand 0 (λ r. times k (pinned r r.stage))) free in
      omega (arith, ap (pins_in k) gone-leaves ∙ pins-off p k (lvs s), S.pins_match k, none-by, total-set (pins_by k) s.table p idle idle h)

  nothing : (r : Request) → (session_of p gone).hand ≡ some r → ⊥
  nothing r e = none-ne-some r (sym (ap (λ x. x.hand) gone-mine) ∙ e)

  gone-own : Own p gone
  gone-own = record {
    zero_stored = gone-stored 0 ∙ S.zero_stored;
    zero_empty = gone-group 0 ∙ S.zero_empty;
    top_free = gone-stored top ∙ S.top_free;
    listed = subst (λ m. ListedTo m (lvs gone)) (sym gone-many) (subst (ListedTo (length s.entries)) (sym gone-leaves) (listed-map (off p) (λ d. refl) (length s.entries) (lvs s) S.listed));
    agree = λ k m o x y z u v. S.agree k m o x y z (gone-was k m x z u) (gone-was k o y z v);
    pins_match = gone-pins;
    holds_begun = λ k m z e. absurd (true≢false e (gone-off k m z));
    gaps_begun = λ z e. absurd (true≢false e (ap (λ w. holds w p) (gone-gap z) ∙ left-same p (gap_word z (seen s))));
    hand_begun = λ i e. ap (λ x. x.hand) gone-mine;
    undos_begun = λ e. ap (λ x. x.undos) gone-mine;
    zero_unmarked = λ e. ap (λ x. x.begun) gone-mine;
    apart = λ q i b. absurd (true≢false b (ap (λ x. x.begun) gone-mine));
    asked_idle = λ e. absurd (true≢false e (ap (λ x. x.asked) gone-mine));
    checked = λ r e. absurd (nothing r e);
    standing = λ r e. absurd (nothing r e);
    undoable = subst (λ x. Undoable p gone x.undos (cells gone)) (sym gone-mine) tt;
  }

  gone-formed : n ≡ s.free + length (session_of p s).undos → Formed gone
  unfolding leave on_session on_tree session_of
  gone-formed e =
      let F = on-leaves-formed (off p) (λ d. refl) (λ d. refl) s (formed-of S) in
      record { shaped = F.shaped; counted = omega (arith, e, F.counted, total-set (λ y. length y.undos) s.table p idle idle h) }

  gone-latches : Latches gone
  unfolding leave on_session on_tree session_of
  gone-latches = kept-latches (on_tree (on_leaves (off p)) s) gone refl (λ q. hands q (ℕ_discrete p q)) (leaves-latches (off p) s (latches-of S))
    where
      hands : (q : ℕ) → Dec (p ≡ q) → (session_of q gone).hand ≡ (session_of q s).hand
      hands q (yes i) = subst (λ x. (session_of x gone).hand ≡ (session_of x s).hand) i (ap (λ x. x.hand) gone-mine ∙ sym free)
      hands q (no i) = ap (λ x. x.hand) (gone-theirs q i)

  leave-sound : n ≡ s.free + length (session_of p s).undos → Sound gone
  leave-sound e = sound-from (gone-formed e) gone-latches (keyed-after p s gone (keyed-of S) gone-effect gone-own)

-- ---- commit

pub commit-sound : (p : ℕ) (s : State) → Sound s → no_session p ≡ false → has_begun p s ≡ true → in_hand p s ≡ false → Sound (commits p s)
unfolding commits
commit-sound p s S a b free =
    let begun = session-begun p s (session-number p a).0 b in
    leave-sound p s (s.free + length (session_of p s).undos) S (begun-seat p s begun) begun (empty_hand p s free) refl

-- ---- abort

-- The request in hand ended, if there is one.
pub record Stopped (p : ℕ) (s t : State) : Type 0 where
  pub sound : Sound t
  pub same : Same s t
  pub empty : (session_of p t).hand ≡ none

pub stopped : (p : ℕ) (s : State) → Sound s → (o : Option Request) → (session_of p s).hand ≡ o → Stopped p s (end_hand p o s)
unfolding end_hand
stopped p s S none e = record { sound = S; same = same_refl s; empty = e }
stopped p s S (some r) e = record { sound = ended-sound p r s S e; same = ended_same p r s; empty = ended-hand p r s e }

-- Every undo record of the chain can be undone in its turn; l is the session table.
chain_from : (p : ℕ) (us : List Undo) (l : List Session) (s : State) → Sound (with_table l s) → p < length l → (get_or l p idle).undos ≡ us → Chain us s
chain_from p [] l s S h e = stop
chain_from p (b ∷ us) l s S h e = next (link-undone p b us l s S e)
    (chain_from p us (next_table p b us l s S e) (C.undo b s) (link-sound p b us l s S e) (subst (λ n. p < n) (sym (length-set l p (with_undos us (get_or l p idle)))) h)
    (ap (λ x. x.undos) (get_or-set_same l p (with_undos us (get_or l p idle)) idle h)))

pub chain-of : (p : ℕ) (s : State) → Sound s → (session_of p s).begun ≡ true → Chain (session_of p s).undos (end_hand p (session_of p s).hand s)
unfolding session_of
chain-of p s S b =
    let t = end_hand p (session_of p s).hand s in
    let E = stopped p s S (session_of p s).hand refl in
    chain_from p (session_of p s).undos t.table t E.sound (begun-seat p t (E.same.begun_same p ∙ b)) (E.same.undos_same p)

-- Whatever the record of p was, it is idle then.
leave-twice : (p : ℕ) (x : Session) (l : List Session) (s : State) → leave p (with_table (set l p x) s) ≡ leave p (with_table l s)
unfolding leave on_session on_tree
leave-twice p x l s = ap (λ m. with_table m (leave p s)) (set-set l p x idle)

abort-from : (p : ℕ) (us : List Undo) (l : List Session) (s : State) → Sound (with_table l s) → p < length l → (get_or l p idle).begun ≡ true → (get_or l p idle).hand ≡ none
    → (get_or l p idle).undos ≡ us → Sound (leave p (with_table l (undo-all us s)))
unfolding undo-all session_of
abort-from p [] l s S h b free e = leave-sound p (with_table l s) s.free S h b free (omega (arith, ap length e))
abort-from p (u ∷ us) l s S h b free e =
    let x = with_undos us (get_or l p idle) in
    let g = get_or-set_same l p x idle h in
    subst Sound (leave-twice p x l (undo-all us (C.undo u s)))
    (abort-from p us (set l p x) (C.undo u s) (link-sound p u us l s S e) (subst (λ n. p < n) (sym (length-set l p x)) h)
    (ap (λ y. y.begun) g ∙ b) (ap (λ y. y.hand) g ∙ free) (ap (λ y. y.undos) g))

pub abort-sound : (p : ℕ) (s : State) → Sound s → no_session p ≡ false → has_begun p s ≡ true → Sound (aborts p s)
unfolding aborts session_of
abort-sound p s S a b =
    let us = (session_of p s).undos in
    let t = end_hand p (session_of p s).hand s in
    let begun = session-begun p s (session-number p a).0 b in
    let E = stopped p s S (session_of p s).hand refl in
    let now = E.same.begun_same p ∙ begun in
    subst (λ l. Sound (leave p (with_table l (undo-all us t)))) (sym (chain-undone us t (chain-of p s S begun)).table_same)
    (abort-from p us t.table t E.sound (begun-seat p t now) now E.empty (E.same.undos_same p))

-- ---- the calls

pub abort-keeps : (p : ℕ) (s : State) → Sound s → Sound (call (abort p) s).next
unfolding call
abort-keeps p s S = refusing-cases (λ o. Sound o.next) (abort_checks p s) s (answer ok (aborts p s)) (λ n. S) (λ k. abort-sound p s S k.0 (not-false (has_begun p s) k.1.0))
