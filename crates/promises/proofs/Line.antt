-- Theorems of specs/Line: what it defines is there.
use Rattle.std.specs.Prelude.{◌≡◌, refl, List, [], ℕ, length}
use Rattle.std.proofs.Common.{sym, subst}
use Rattle.sessions.specs.declared.Session.{Session}
use Rattle.sessions.specs.Sessions.{session_at}
use Rattle.serial.specs.Calls.{Turn, Run, nothing}
use Rattle.serial.specs.Calls as C
use Rattle.serial.specs.Line.{line, Before}
use Rattle.machine.specs.Calls.{records_for}
use Rattle.machine.specs.InTheWay.{LongLock}
use Rattle.machine.specs.Line.{Lined, fresh-lined}
use Rattle.machine.proofs.Line.{line-run}
use Rattle.meaning.specs.Reading.{meaning}
use Rattle.layout.specs.Asked.{request_in}
use Rattle.promises.specs.Relations.{Formats, Calls}
use Rattle.promises.specs.Demand1.{refusal_of}
use Rattle.promises.specs.Demand2.{demand-2}
use Rattle.promises.specs.Demands.{Lending, words, known, runs-performed}
use Rattle.promises.proofs.Words.{formatted-known}
use Rattle.promises.specs.Line.{InLine, lined-table, run_sound, long-asked, long-begun}

-- ---- lists of calls, from a store as an accepted format leaves it

format-lined : (m : ℕ) (s s' : List ℕ) (t t' : List Session) → Formats m s t C.ok s' t' → (ks : List Turn) (y : Lending) → Run words (record { store = s'; table = t' }) ks y
    → Lined (line nothing [] ks) (meaning y.store y.table)
format-lined m s s' t t' F ks y run =
    let S = (F.accepts refl).0 in
    line-run (runs-performed S run) nothing (known nothing (record { store = s'; table = t' }) (formatted-known m s s' t t' F))
    [] (subst (Lined []) (sym (F.accepts refl).1) (fresh-lined m (records_for m (length s))))

pub words-line : (m : ℕ) (s s' : List ℕ) (t t' : List Session) → Formats m s t C.ok s' t' → (ks : List Turn) (y : Lending) → Run words (record { store = s'; table = t' }) ks y
    → InLine (line nothing [] ks) y.table
words-line m s s' t t' F ks y run =
    lined-table y.store y.table (run_sound (F.accepts refl).0 run) (line nothing [] ks) (format-lined m s s' t t' F ks y run)

-- ---- whom a wait names, over lists of calls

-- After an accepted format and any list of calls: of the sessions whose long locks are in the way of a step, a wait names the one that stands first in the line.
pub wait-in-line : (m : ℕ) (s s' : List ℕ) (t t' : List Session) → Formats m s t C.ok s' t' → (ks : List Turn) (y : Lending) → Run words (record { store = s'; table = t' }) ks y
    → (p q : ℕ) (l l' s'' : List ℕ) (t'' : List Session) → Calls (C.step p l) y.store y.table (C.wait q) l' s'' t'' → refusal_of (C.step p l) y.store y.table ≡ 0
    → let r = request_in (session_at y.table p) in (o : ℕ) → ¬ (o ≡ p) → ¬ (o ≡ q) → LongLock r (meaning y.store y.table) r.stage o → Before q o (line nothing [] ks)
wait-in-line m s s' t t' F ks y run p q l l' s'' t'' P z o np nq L =
    let S = run_sound (F.accepts refl).0 run in
    let r = request_in (session_at y.table p) in
    let N = (demand-2 p l y.store y.table (C.wait q) l' s'' t'' P S z).longest q refl in
    let I = long-asked p r (meaning y.store y.table) r.stage o q L N.in_the_way.lock in
    (format-lined m s s' t t' F ks y run).before q o (long-begun S.state r r.stage q I) (long-begun S.state r r.stage o L) (N.began_first o np L nq)
