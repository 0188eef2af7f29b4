-- Theorems of specs/Words: what it defines is there.
use Rattle.std.specs.Prelude.{◌≡◌, refl, List, ℕ, length}
use Rattle.std.proofs.Math.Decide.{ℕ_discrete}
use Rattle.sessions.specs.declared.Session.{Session}
use Rattle.sessions.specs.Sessions.{session_at}
use Rattle.serial.specs.Locks.{lock_rule}
use Rattle.serial.specs.LockMachine.{Formatted}
use Rattle.serial.specs.Calls.{Turn, nothing, told, Run, Demand3, Made, Knows, Laws}
use Rattle.serial.specs.Calls as C
use Rattle.outcomes.specs.declared.Answer.{Answer}
use Rattle.outcomes.specs.declared.Answer.TheVariants.{Ok, Refused}
use Rattle.machine.specs.State.{fresh}
use Rattle.machine.specs.Calls.{format_checks, records_for}
use Rattle.meaning.specs.Reading.{M-of, R-of, meaning}
use Rattle.meaning.specs.Sound.{Sound}
use Rattle.refusals.specs.Refusing.{first_of, begin_list, put_list, step_list, commit_list, abort_list, ask_list}
use Rattle.promises.specs.Relations.{Formats}
use Rattle.promises.specs.Demands.{Lending, Returns, words, words-laws, words-demand-3, words-made, fresh-known, fresh-new}
use Rattle.promises.specs.Ways.{begin-done, begin-refuses, put-done, put-refuses, commit-done, commit-refuses, abort-done, abort-refuses, ask-done, ask-refuses, recover-done, format-done, format-refuses}
use Rattle.promises.specs.Stepping.{stage_step, settled_answer}
use Rattle.promises.specs.Steps.{step-done, step-refuses}
use Rattle.promises.specs.Words.{Can, serving, served, can-turn, start}

-- Every call has a return, on every sound store and table.
pub can : (c : C.Call) (s : List ℕ) (t : List Session) → Sound s t → Can c s t
can (C.format m) s t A = go (ℕ_discrete (first_of (format_checks m (length s))) 0)
  where
    go : Dec (first_of (format_checks m (length s)) ≡ 0) → Can (C.format m) s t
    go (yes z) = (Ok, _, _, format-done s t m z)
    go (no n) = (Refused (first_of (format_checks m (length s))) 0, s, t, format-refuses s t m (first_of (format_checks m (length s))) refl n)
can (C.begin p) s t A = go (ℕ_discrete (first_of (begin_list t p)) 0)
  where
    go : Dec (first_of (begin_list t p) ≡ 0) → Can (C.begin p) s t
    go (yes z) = served (C.begin p) s t Ok _ _ A (begin-done s t p z A)
    go (no n) = served (C.begin p) s t (Refused (first_of (begin_list t p)) 0) s t A (begin-refuses s t p _ A refl n)
can (C.put p c e f g) s t A = go (ℕ_discrete (first_of (put_list (M-of s) t p c e f g)) 0)
  where
    go : Dec (first_of (put_list (M-of s) t p c e f g) ≡ 0) → Can (C.put p c e f g) s t
    go (yes z) = served (C.put p c e f g) s t Ok _ _ A (put-done s t p c e f g z A)
    go (no n) = served (C.put p c e f g) s t (Refused (first_of (put_list (M-of s) t p c e f g)) 0) s t A (put-refuses s t p c e f g _ _ A refl refl n)
can (C.step p l) s t A = go (ℕ_discrete (first_of (step_list t p)) 0)
  where
    go : Dec (first_of (step_list t p) ≡ 0) → Can (C.step p l) s t
    go (yes z) =
        let x = session_at t p in
        (settled_answer s (M-of s) (R-of s) t p x (stage_step s (M-of s) (R-of s) (length l) p x).answer, _, _, _, serving (C.step p l) s t _ _ _ _ A (step-done s t p l A z))
    go (no n) = (Refused (first_of (step_list t p)) 0, s, t, l, serving (C.step p l) s t _ l s t A (step-refuses s t p l _ A refl n))
can (C.commit p) s t A = go (ℕ_discrete (first_of (commit_list t p)) 0)
  where
    go : Dec (first_of (commit_list t p) ≡ 0) → Can (C.commit p) s t
    go (yes z) = served (C.commit p) s t Ok _ _ A (commit-done s t p z A)
    go (no n) = served (C.commit p) s t (Refused (first_of (commit_list t p)) 0) s t A (commit-refuses s t p _ A refl n)
can (C.abort p) s t A = go (ℕ_discrete (first_of (abort_list t p)) 0)
  where
    go : Dec (first_of (abort_list t p) ≡ 0) → Can (C.abort p) s t
    go (yes z) = served (C.abort p) s t Ok _ _ A (abort-done s t p z A)
    go (no n) = served (C.abort p) s t (Refused (first_of (abort_list t p)) 0) s t A (abort-refuses s t p _ A refl n)
can (C.ask p) s t A = go (ℕ_discrete (first_of (ask_list t p)) 0)
  where
    go : Dec (first_of (ask_list t p) ≡ 0) → Can (C.ask p) s t
    go (yes z) = served (C.ask p) s t Ok _ _ A (ask-done s t p z A)
    go (no n) = served (C.ask p) s t (Refused (first_of (ask_list t p)) 0) s t A (ask-refuses s t p _ A refl n)
can C.recover s t A = served C.recover s t Ok _ _ A (recover-done s t A)

pub words-returns : (c : C.Call) (x : Lending) → Sound x.store x.table → (a : C.Answer) × (l : List ℕ) × (y : Lending) × Returns x (record { call = c; answer = a; list = l }) y
words-returns c x A = can-turn c x (can c x.store x.table A)

-- The words meet the laws that a store owes for demand 3.
pub words-meet : Laws words lock_rule
words-meet = words-laws words-returns

-- Any list of calls, whoever's turn each is, from a store and table as an accepted format leaves them.
pub all-calls : (m r : ℕ) (x : Lending) → Sound x.store x.table → meaning x.store x.table ≡ fresh m r → (ks : List Turn) (y : Lending) → Run words x ks y → Demand3 words (told nothing ks) y
all-calls m r x S e ks y run = words-demand-3 words-returns m r x S e ks y run

module _ (m : ℕ) (s s' : List ℕ) (t t' : List Session) (F : Formats m s t C.ok s' t') where
  pub formatted-calls : (ks : List Turn) (y : Lending) → Run words (start m s s' t t' F) ks y → Demand3 words (told nothing ks) y
  formatted-calls ks y run = let a = F.accepts refl in all-calls m (records_for m (length s)) (start m s s' t t' F) a.0 a.1 ks y run

  -- Every list of calls has a run from there.
  pub formatted-made : (cs : List C.Call) → Made words (start m s s' t t' F) cs
  formatted-made cs = let a = F.accepts refl in words-made words-returns m (records_for m (length s)) (start m s s' t t' F) a.0 a.1 cs

  -- Nothing is begun, in hand or held there, and every item is as the model has it at first.
  pub formatted-known : Knows words nothing (start m s s' t t' F)
  formatted-known = let a = F.accepts refl in fresh-known words-returns m (records_for m (length s)) (start m s s' t t' F) a.0 a.1

  pub formatted-new : Formatted (words.meaning (start m s s' t t' F))
  formatted-new = fresh-new words-returns m (records_for m (length s)) (start m s s' t t' F) (F.accepts refl).1
