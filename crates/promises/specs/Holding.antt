-- Demand 2 of the words over every list of calls: for every entry and every key, empty ones too, the holders read from the store are the sessions that were
-- granted it since format; and a locate that is done holds every key of its range until its session ends.
use Rattle.std.specs.Prelude.{◌≡◌, refl, true, List, ◌∷◌, ◌++◌, ℕ, ◌≤◌, length}
use Rattle.std.proofs.Common.{sym, ap, subst, ◌∙◌}
use Rattle.sessions.specs.declared.Session.{Session}
use Rattle.serial.specs.Locks.{Kind, Mode, weak}
use Rattle.serial.specs.Locks as L
use Rattle.serial.specs.Calls.{Turn, Run, nothing, tell, told}
use Rattle.serial.specs.Calls as C
use Rattle.machine.specs.State.{State, fresh}
use Rattle.machine.specs.Calls.{records_for}
use Rattle.machine.specs.Sound as S
use Rattle.machine.specs.View.{holders}
use Rattle.machine.specs.Ledger.{Ledger, no_locks, ledger_after}
use Rattle.machine.specs.Held.{calls_on, Lasts, LocateDone}
use Rattle.machine.proofs.Held.{ledger-run, located-held}
use Rattle.machine.specs.Demand.{machine, fresh-formatted}
use Rattle.meaning.specs.Reading.{meaning}
use Rattle.meaning.specs.Sound.{Sound}
use Rattle.promises.specs.Relations.{Formats}
use Rattle.promises.specs.Demands.{Lending, words, lent, runs-performed}

-- The holders read from what the host lends.
abbrev pub holders_in : Lending → Ledger
holders_in x = holders (meaning x.store x.table)

-- ---- of the words, from a store as an accepted format leaves it

module _ (m : ℕ) (s s' : List ℕ) (t t' : List Session) (F : Formats m s t C.ok s' t') where
  abbrev start : Lending
  start = record { store = s'; table = t' }

  abbrev first : State
  first = fresh m (records_for m (length s))

  sound : Sound s' t'
  sound = (F.accepts refl).0

  means : meaning s' t' ≡ first
  means = (F.accepts refl).1

  -- The holders are the ledger's, which knows what each call granted. It reads the request in hand, its stage, the answer and which keys were stored, and of the store nothing else.
  pub holders-run : (ks : List Turn) (y : Lending) → Run words start ks y → (k : Kind) (i : Mode) (q z : ℕ)
      → holders_in y k i q z ≡ ledger_after no_locks (calls_on (length s) ks) first k i q z
  holders-run ks y run k i q z =
      ledger-run (runs-performed sound run) sound.state no_locks (λ k i q z. ap (λ v. holders v k i q z) means ∙ (fresh-formatted m (records_for m (length s))).no_holds k i q z) k i q z
      ∙ ap (λ v. ledger_after no_locks (calls_on (length s') ks) v k i q z) means ∙ ap (λ n. ledger_after no_locks (calls_on n ks) first k i q z) F.long

  -- By calls and answers alone: once a locate of session p is done, it holds every key of its range, stored or not, until its end.
  pub located-run : (before : List Turn) (k : Turn) (after : List Turn) (y : Lending) → Run words start (before ++ k ∷ after) y
      → (p lo hi : ℕ) → LocateDone before k p lo hi → Lasts p (tell k (told nothing before)) after → (z : ℕ) → lo ≤ z → z ≤ hi → holders_in y L.group weak p z ≡ true
  located-run before k after y run p lo hi D w z a b =
      located-held m (records_for m (length s)) (length s') (subst S.Sound means sound.state) before k after (lent y)
      (subst (λ v. Run machine (record { state = v; words = length s' }) (before ++ k ∷ after) (lent y)) means (runs-performed sound run)) p lo hi D w z a b
