-- A change of words that leaves the session table, and then the party's session record is another.
use Rattle.std.specs.Prelude.{◌≡◌, List, ℕ, suc, ◌≤◌, length, set}
use Rattle.std.proofs.Common.{sym, ap, subst, ◌∙◌, arith, set-set}
use Rattle.sessions.specs.declared.Session.{Session}
use Rattle.sessions.specs.Sessions.{session_at, tenure}
use Rattle.machine.specs.Holders.{width}
use Rattle.machine.specs.State.{State, set_hand}
use Rattle.meaning.specs.Reading.{hand_of}
use Rattle.layout.specs.Layout.{Lay, HandFits, Holds, means}
use Rattle.layout.specs.Row.{Becomes}
use Rattle.layout.specs.Keep.{table_here, table-row}
use Rattle.layout.specs.Places.{means-hand}
use Rattle.layout.specs.Left.{Left}

-- The request in hand is another.
pub left-hand : (s : List ℕ) (t : List Session) (L : Lay) (s' : List ℕ) (f : State → State) (p : ℕ) (y x' : Session) (A : Left s (set t p y) L s' f) → length t ≡ suc width → p ≤ width
    → x'.undo ≡ y.undo → tenure x' ≡ tenure (session_at t p) → HandFits A.lay p x' → Becomes s s' (set t p x') (set_hand p (hand_of x') (f (means L t)))
left-hand s t L s' f p y x' A n l undo kept own = record {
  lay = A.lay;
  holds = subst (λ z. Holds s' z A.lay) (set-set t p y x') (table-row s' (set t p y) A.lay A.holds p x' l (undo ∙ sym (ap (λ z. z.undo) (table_here t p y n l))) own);
  means_next = means-hand A.lay t p x' (omega (arith, n, l)) kept ∙ ap (set_hand p (hand_of x')) (A.is t);
  long = A.written.long;
  entries = A.written.entries;
  records = A.written.records;
  rest = A.written.rest;
}
