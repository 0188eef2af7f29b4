-- Document 02's journal: what its bytes say, and the verdict on it, as three tests in order.
use Rattle.std.specs.Prelude.{◌≡◌, Bool, true, false, cond, not, ◌&&◌, ◌||◌, ℕ, zero, suc, ◌%◌, eqb, leb, length}
use mathlib.Core.List.{List, [], ◌∷◌, ◌++◌, map, List-discrete}
use mathlib.Core.HLevel.{Discrete}
use Rattle.std.proofs.Math.Option.{Option, none, some}
use Rattle.std.proofs.Math.Decide.{ℕ_discrete}
use Rattle.serial.specs.Serial.{pick, Done, requests, results, serial_answers}
use Rattle.serial.specs.Model.{Pair, Req, Ans, empty, two_words, request_of}
use Rattle.serial.specs.Footprints.{store}
use Rattle.journal_reader.specs.declared.Record.{Record}
use Rattle.journal_reader.specs.Record.{records, in_file, record_at}

-- ---- chains

abbrev pub consed : {A : Type 0} → A → Option (List A) → Option (List A)
consed x none = none
consed x (some l) = some (x ∷ l)

-- The records of the chain that starts at an index, in order; zero ends it. None if it leaves the file, or has more records than so many.
unfoldable pub chain : List ℕ → ℕ → ℕ → Option (List Record)
chain bs zero at = cond (eqb at 0) (some []) none
chain bs (suc many) at =
    let r = record_at bs at in
    cond (eqb at 0) (some []) (cond (in_file bs at) (consed r (chain bs many r.next)) none)

-- A chain with more records than the file meets one of its own twice.
abbrev pub chain_from : List ℕ → ℕ → Option (List Record)
chain_from bs at = chain bs (records bs) at

-- ---- what a journal says

-- A record of the main chain, with the list that it names.
pub record Line : Type 0 where
  pub run : ℕ
  pub code : ℕ
  pub entry : ℕ
  pub first : ℕ
  pub second : ℕ
  pub answer : ℕ
  pub pairs : List Pair

-- A list record: key and entry follow the next index.
abbrev pub pair_of : Record → Pair
pair_of r = (r.run, r.code)

abbrev pub line_of : Record → List Pair → Line
line_of r ps = record
    { run = r.run; code = r.code; entry = r.entry; first = r.first; second = r.second; answer = r.answer; pairs = ps }

-- Only a locate has a list.
abbrev pub listed : Option (List Record) → Option (List Pair)
listed none = none
listed (some rs) = some (map pair_of rs)

unfoldable pub list_of : List ℕ → Record → Option (List Pair)
list_of bs r = cond (eqb r.code 5) (listed (chain_from bs r.list)) (some [])

abbrev pub with_list : Record → Option (List Pair) → Option (List Line) → Option (List Line)
with_list r none ls = none
with_list r (some ps) ls = consed (line_of r ps) ls

unfoldable pub lines_of : List ℕ → List Record → Option (List Line)
lines_of bs [] = some []
lines_of bs (r ∷ rs) = with_list r (list_of bs r) (lines_of bs rs)

-- 1 to 2,048 whole records.
unfoldable pub whole : List ℕ → Bool
whole bs = eqb (length bs % 32) 0 && (leb 1 (records bs) && leb (records bs) 2048)

abbrev pub lines_after : List ℕ → Option (List Record) → Option (List Line)
lines_after bs none = none
lines_after bs (some rs) = lines_of bs rs

-- The main chain starts at 1. None where the length is wrong, or a chain does not end inside the file.
unfoldable pub lines : List ℕ → Option (List Line)
lines bs = cond (whole bs) (lines_after bs (chain_from bs 1)) none

abbrev pub is_some : {A : Type 0} → Option A → Bool
is_some none = false
is_some (some x) = true

abbrev pub or_empty : {A : Type 0} → Option (List A) → List A
or_empty none = []
or_empty (some l) = l

-- The lines of a journal that can be read.
abbrev pub said : List ℕ → List Line
said bs = or_empty (lines bs)

-- ---- codes and numbers

abbrev pub is_commit : Line → Bool
is_commit l = eqb l.code 255

abbrev pub proper_entry : ℕ → Bool
proper_entry e = leb 1 e && leb e 1024

abbrev pub proper_key : ℕ → Bool
proper_key k = leb 1 k && leb k 4294967294

-- Codes 1 to 5 with the numbers that document 01 accepts, and 255.
unfoldable pub proper : Line → Bool
proper l =
    cond (eqb l.code 1 || eqb l.code 2) (proper_entry l.entry)
    (cond (eqb l.code 3 || eqb l.code 4) (proper_entry l.entry && proper_key l.first)
    (cond (eqb l.code 5) (proper_key l.first && (proper_key l.second && leb l.first l.second)) (is_commit l)))

unfoldable pub all_proper : List Line → Bool
all_proper [] = true
all_proper (l ∷ ls) = proper l && all_proper ls

unfoldable pub none_of : ℕ → List Line → Bool
none_of x [] = true
none_of x (l ∷ ls) = not (eqb l.run x) && none_of x ls

-- No run goes on after its commit.
unfoldable pub all_end : List Line → Bool
all_end [] = true
all_end (l ∷ ls) = (not (is_commit l) || none_of l.run ls) && all_end ls

-- ---- answers and lists

abbrev pub stored_answer : Line → Ans
stored_answer l = record { numbers = l.answer ∷ []; words = two_words l.pairs }

abbrev pub fed : Option Req → Ans → List (Done store)
fed none a = []
fed (some r) a = (r, a) ∷ []

-- The request of a record with its stored answer; a commit has none.
abbrev pub feeds : Line → List (Done store)
feeds l = fed (request_of l.code l.entry l.first l.second) (stored_answer l)

-- The requests of a run, in order.
unfoldable pub of_run : ℕ → List Line → List (Done store)
of_run x [] = []
of_run x (l ∷ ls) = cond (eqb l.run x) (feeds l ++ of_run x ls) (of_run x ls)

-- The runs that commit in ls, in order of commit, each with all its requests.
unfoldable pub committed_in : List Line → List Line → List (List (Done store))
committed_in all [] = []
committed_in all (l ∷ ls) = cond (is_commit l) (of_run l.run all ∷ committed_in all ls) (committed_in all ls)

abbrev pub committed : List Line → List (List (Done store))
committed ls = committed_in ls ls

-- The stored answers are those of the logical model, fed run by run: what demand 3 asks of a store.
abbrev pub Answered : List (List (Done store)) → Type 0
Answered rs = map (results store) rs ≡ serial_answers store (map (requests store) rs) empty

unfoldable pub ans_discrete : Discrete Ans
ans_discrete a b = at (List-discrete ℕ_discrete a.numbers b.numbers) (List-discrete ℕ_discrete a.words b.words)
  where
    at : Dec (a.numbers ≡ b.numbers) → Dec (a.words ≡ b.words) → Dec (a ≡ b)
    at (yes e) (yes f) = yes (λ i. record { numbers = e i; words = f i })
    at (yes e) (no n) = no (λ g. n (λ i. (g i).words))
    at (no n) d = no (λ g. n (λ i. (g i).numbers))

unfoldable pub answered? : (rs : List (List (Done store))) → Dec (Answered rs)
answered? rs = List-discrete (List-discrete ans_discrete) (map (results store) rs) (serial_answers store (map (requests store) rs) empty)

-- ---- the verdict

-- 16 when a code or number is not document 01's or a run goes on after its commit; 17 when an answer or list differs; else 0.
unfoldable pub judged : List Line → ℕ
judged ls = cond (all_proper ls && all_end ls) (pick (answered? (committed ls)) 0 17) 16

-- 15 when the length is wrong or a chain does not end inside the file.
abbrev pub verdict_on : Option (List Line) → ℕ
verdict_on none = 15
verdict_on (some ls) = judged ls

unfoldable pub verdict_of : List ℕ → ℕ
verdict_of bs = verdict_on (lines bs)
