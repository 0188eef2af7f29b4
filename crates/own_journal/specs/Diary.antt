-- The journal of a list of calls, as a host writes it down: a line for each finished request of a session and for each accepted commit. It is read off calls
-- and answers alone, along with the history that demand 3 speaks of (serial, specs/Calls).
use Rattle.std.specs.Prelude.{List, [], ◌∷◌, ◌++◌, ℕ, zero, suc}
use Rattle.std.proofs.Math.Option.{Option, none, some}
use Rattle.serial.specs.Serial as S
use Rattle.serial.specs.Model.{Req, request_of}
use Rattle.serial.specs.Calls.{Call, Answer, Turn, Asked, Told, nothing, tell, number_of, answer_of}
use Rattle.serial.specs.Calls as C
use Rattle.serial.specs.Codes.{two_by_two}
use Rattle.journal_lines.specs.Journal.{Line}

-- The lines so far, how many begins were accepted, and each session's run: how many they were when it began.
pub record Diary : Type 0 where
  pub lines : List Line
  pub begins : ℕ
  pub runs : ℕ → ℕ

abbrev pub blank : Diary
blank = record { lines = []; begins = 0; runs = λ s. 0 }

-- ---- what a line says

-- A request as it was put, the first number beside done and, for a locate, so many pairs from the lent list as it was then.
abbrev pub request_line : ℕ → Asked → List ℕ → List ℕ → Line
request_line run a ns l = record {
  run = run;
  code = a.code;
  entry = a.entry;
  first = a.first;
  second = a.second;
  answer = number_of ns;
  pairs = two_by_two (answer_of a.code ns l).words;
}

abbrev pub commit_line : ℕ → Line
commit_line run = record { run = run; code = 255; entry = 0; first = 0; second = 0; answer = 0; pairs = [] }

-- ---- what is written, and when

abbrev pub write : Line → Diary → Diary
write l d = record { lines = d.lines ++ (l ∷ []); begins = d.begins; runs = d.runs }

-- An accepted format starts anew. An accepted begin is one more, and their count is the session's run. An accepted commit is written.
abbrev pub note_ok : Call → Diary → Diary
note_ok (C.format m) d = blank
note_ok (C.begin s) d = record { lines = d.lines; begins = suc d.begins; runs = S.put d.runs s (suc d.begins) }
note_ok (C.put p code entry first second) d = d
note_ok (C.step p l) d = d
note_ok (C.commit s) d = write (commit_line (d.runs s)) d
note_ok (C.abort s) d = d
note_ok (C.ask s) d = d
note_ok C.recover d = d

-- Codes 1 to 5 are written.
abbrev pub note_request : ℕ → Asked → Option Req → List ℕ → List ℕ → Diary → Diary
note_request s a none ns l d = d
note_request s a (some r) ns l d = write (request_line (d.runs s) a ns l) d

-- The request in hand of a session is finished; the housekeeper's, party 0, is not written.
abbrev pub note_finished : ℕ → Option Asked → List ℕ → List ℕ → Diary → Diary
note_finished zero h ns l d = d
note_finished (suc k) none ns l d = d
note_finished (suc k) (some a) ns l d = note_request (suc k) a (request_of a.code a.entry a.first a.second) ns l d

abbrev pub note_done : Call → List ℕ → List ℕ → Told → Diary → Diary
note_done (C.format m) ns l t d = d
note_done (C.begin s) ns l t d = d
note_done (C.put p code entry first second) ns l t d = d
note_done (C.step p l₀) ns l t d = note_finished p (t.hands p) ns l d
note_done (C.commit s) ns l t d = d
note_done (C.abort s) ns l t d = d
note_done (C.ask s) ns l t d = d
note_done C.recover ns l t d = d

-- Nothing else is written.
abbrev pub note_answer : Call → Answer → List ℕ → Told → Diary → Diary
note_answer c C.ok l t d = note_ok c d
note_answer c C.more l t d = d
note_answer c (C.wait p) l t d = d
note_answer c (C.done ns) l t d = note_done c ns l t d
note_answer c (C.refused n k) l t d = d

abbrev pub note : Turn → Told → Diary → Diary
note k t d = note_answer k.call k.answer k.list t d

-- The diary after a list of calls.
abbrev pub kept : Told → Diary → List Turn → Diary
kept t d [] = d
kept t d (k ∷ ks) = kept (tell k t) (note k t d) ks

-- The journal of a list of calls from a fresh store.
abbrev pub journal_of : List Turn → List Line
journal_of ks = (kept nothing blank ks).lines
