-- What a call of one party leaves of the others, and what it owes of its own: together they keep the part of soundness that is read at keys, entries and
-- the session table.
use Rattle.std.specs.Prelude.{◌≡◌, true, false, [], ◌⊎◌, ℕ, length}
use Rattle.std.proofs.Math.Option.{none, some}
use Rattle.serial.specs.Locks.{Kind, Mode, strong, Agree}
use Rattle.serial.specs.Locks as L
use Rattle.machine.specs.Holders.{holds}
use Rattle.machine.specs.State.{Request, State, top, session_of}
use Rattle.machine.specs.Steps.{rule}
use Rattle.machine.specs.Calls.{request_checks}
use Rattle.machine.specs.View.{holders, group_in, update_word, seen}
use Rattle.machine.specs.Sound.{gap_word, stored_in, pins_in, ListedTo, total, pins_by, Passes, Stands, Undoable, cells}
use Rattle.machine.specs.Housekeeping.{lvs}

pub record Effect (p : ℕ) (s t : State) : Type 0 where
  pub many : length t.entries ≡ length s.entries
  pub records_same : t.records ≡ s.records
  pub seats_same : length t.table ≡ length s.table
  pub others : (q : ℕ) → ¬ (p ≡ q) → session_of q t ≡ session_of q s
  pub held_others : (k : Kind) (m : Mode) (q z : ℕ) → ¬ (p ≡ q) → holders t k m q z ≡ holders s k m q z
  pub gaps_others : (q z : ℕ) → ¬ (p ≡ q) → holds (gap_word z (seen t)) q ≡ holds (gap_word z (seen s)) q
  -- A stored key stays, unless the housekeeper takes it out, and that one nobody updates.
  pub stays : (z : ℕ) → stored_in z (lvs s) ≡ true → (stored_in z (lvs t) ≡ true) ⊎ ((p ≡ 0) × (update_word z (seen s) ≡ 0))
  -- An entry that another session excludes stays in just the groups where it was.
  pub cells_others : (q k e : ℕ) → ¬ (p ≡ q) → holders s L.entry strong q e ≡ true → cells t k e ≡ cells s k e

-- The rest of Keyed: what concerns the state as a whole, and the party itself.
pub record Own (p : ℕ) (t : State) : Type 0 where
  pub zero_stored : stored_in 0 (lvs t) ≡ true
  pub zero_empty : group_in 0 (lvs t) ≡ []
  pub top_free : stored_in top (lvs t) ≡ false
  pub listed : ListedTo (length t.entries) (lvs t)
  pub agree : Agree rule (holders t)
  pub pins_match : (k : ℕ) → pins_in k (lvs t) ≡ total (pins_by k) t.table
  pub holds_begun : (k : Kind) (m : Mode) (z : ℕ) → holders t k m p z ≡ true → (session_of p t).begun ≡ true
  pub gaps_begun : (z : ℕ) → holds (gap_word z (seen t)) p ≡ true → (session_of p t).begun ≡ true
  pub hand_begun : ¬ (p ≡ 0) → (session_of p t).begun ≡ false → (session_of p t).hand ≡ none
  pub undos_begun : (session_of p t).begun ≡ false → (session_of p t).undos ≡ []
  pub zero_unmarked : p ≡ 0 → (session_of p t).begun ≡ false
  -- No other begun session has its number in the order of begins.
  pub apart : (q : ℕ) → ¬ (p ≡ q) → (session_of p t).begun ≡ true → (session_of q t).begun ≡ true → ¬ ((session_of p t).order ≡ (session_of q t).order)
  pub asked_idle : (session_of p t).asked ≡ true → ((session_of p t).begun ≡ true) × ((session_of p t).hand ≡ none)
  pub checked : (r : Request) → (session_of p t).hand ≡ some r → Passes (request_checks p r.code r.entry r.first r.second t)
  pub standing : (r : Request) → (session_of p t).hand ≡ some r → Stands p t r r.stage
  pub undoable : Undoable p t (session_of p t).undos (cells t)
