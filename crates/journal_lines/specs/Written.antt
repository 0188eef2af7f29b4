-- Any lines can be written as a journal that says them: the main chain first, then the lists of the locates, each in the order of its records.
use Rattle.std.specs.Prelude.{◌≡◌, List, [], ◌∷◌, ◌++◌, map, ℕ, zero, suc, ◌+◌, ◌*◌, ◌-◌, ◌/◌, ◌%◌, ◌≤◌, ◌<◌, length, get_or}
use Rattle.std.proofs.Math.Path.{refl}
use Rattle.std.proofs.Common.{sym, ◌∙◌, ap, subst, arith, length-append, get_or-append-add}
use Rattle.std.proofs.Math.Option.{some}
use Rattle.serial.specs.Lists.{All, all_append}
use Rattle.serial.specs.Model.{Pair}
use Rattle.journal_reader.specs.declared.Record.{Record}
use Rattle.journal_reader.specs.Record.{word_at, records, record_from, no_record, record_at, inside_is}
use Rattle.journal_lines.specs.Journal.{Line, pair_of, line_of, lines, judged, verdict_of}
use Rattle.journal_lines.specs.Walks.{is_whole}
use Rattle.journal_lines.specs.Paths.{Follows, FinitePath, follows-once}
use Rattle.journal_lines.specs.Accepts.{Listed, SaysLine, Says, say-lines}

-- ---- bytes

unfoldable pub word_bytes : ℕ → List ℕ
word_bytes w = w % 256 ∷ w / 256 % 256 ∷ w / 256 / 256 % 256 ∷ w / 256 / 256 / 256 % 256 ∷ []

unfoldable pub words_bytes : List ℕ → List ℕ
words_bytes [] = []
words_bytes (w ∷ ws) = word_bytes w ++ words_bytes ws

unfoldable pub record_bytes : Record → List ℕ
record_bytes r = words_bytes (r.next ∷ r.run ∷ r.code ∷ r.entry ∷ r.first ∷ r.second ∷ r.answer ∷ r.list ∷ [])

unfoldable pub bytes_of : List Record → List ℕ
bytes_of [] = []
bytes_of (r ∷ rs) = record_bytes r ++ bytes_of rs

-- ---- records

-- An index for what is left, if anything is.
abbrev pub place : {A : Type 0} → ℕ → List A → ℕ
place at [] = 0
place at (x ∷ xs) = at

unfoldable pub list_records : ℕ → List Pair → List Record
list_records at [] = []
list_records at (p ∷ ps) =
    record { next = place (suc at) ps; run = p.0; code = p.1; entry = 0; first = 0; second = 0; answer = 0; list = 0 } ∷ list_records (suc at) ps

-- The records of lines from the index `at` on, whose lists stand from the index `free` on.
unfoldable pub main_records : ℕ → ℕ → List Line → List Record
main_records at free [] = []
main_records at free (l ∷ ls) = record {
  next = place (suc at) ls;
  run = l.run;
  code = l.code;
  entry = l.entry;
  first = l.first;
  second = l.second;
  answer = l.answer;
  list = place free l.pairs;
} ∷ main_records (suc at) (free + length l.pairs) ls

unfoldable pub all_lists : ℕ → List Line → List Record
all_lists free [] = []
all_lists free (l ∷ ls) = list_records free l.pairs ++ all_lists (free + length l.pairs) ls

unfoldable pub written : List Line → List ℕ
written ls = bytes_of (main_records 1 (suc (length ls)) ls ++ all_lists (suc (length ls)) ls)

-- ---- what can be written

abbrev pub Word : ℕ → Type 0
Word w = w < 4294967296

-- Every number of a line is a word.
pub record LineWords (l : Line) : Type 0 where
  pub run : Word l.run
  pub code : Word l.code
  pub entry : Word l.entry
  pub first : Word l.first
  pub second : Word l.second
  pub answer : Word l.answer
  pub pairs : All (λ p. Word p.0 × Word p.1) l.pairs

-- So of all lines, and only locates have lists.
abbrev pub Words : List Line → Type 0
Words ls = All LineWords ls × All Listed ls

-- How many list records there are.
unfoldable pub listed_in : List Line → ℕ
listed_in [] = 0
listed_in (l ∷ ls) = length l.pairs + listed_in ls

-- ---- bytes read back

word_back : (w : ℕ) → Word w → w % 256 + w / 256 % 256 * 256 + w / 256 / 256 % 256 * 65536 + w / 256 / 256 / 256 % 256 * 16777216 ≡ w
word_back w h = omega arith

pub record Sized (r : Record) : Type 0 where
  pub next : Word r.next
  pub run : Word r.run
  pub code : Word r.code
  pub entry : Word r.entry
  pub first : Word r.first
  pub second : Word r.second
  pub answer : Word r.answer
  pub list : Word r.list

record-back : (r : Record) (bs : List ℕ) → Sized r → record_from (record_bytes r ++ bs) 0 ≡ r
unfolding record_from word_at record_bytes words_bytes word_bytes
record-back r bs s = λ i. record {
  next = word_back r.next s.next i;
  run = word_back r.run s.run i;
  code = word_back r.code s.code i;
  entry = word_back r.entry s.entry i;
  first = word_back r.first s.first i;
  second = word_back r.second s.second i;
  answer = word_back r.answer s.answer i;
  list = word_back r.list s.list i;
}

word-further : (cs bs : List ℕ) (k : ℕ) → word_at (cs ++ bs) (length cs + k) ≡ word_at bs k
unfolding word_at
word-further cs bs k =
    let at : (j : ℕ) → get_or (cs ++ bs) (length cs + k + j) 0 ≡ get_or bs (k + j) 0
    = λ j. ap (λ n. get_or (cs ++ bs) n 0) (omega arith) ∙ get_or-append-add cs bs (k + j) 0 in
    rw (get_or-append-add cs bs k 0, at 1, at 2, at 3) refl

record-further : (cs bs : List ℕ) (k : ℕ) → record_from (cs ++ bs) (length cs + k) ≡ record_from bs k
unfolding record_from
record-further cs bs k =
    let at : (j : ℕ) → word_at (cs ++ bs) (length cs + k + j) ≡ word_at bs (k + j)
    = λ j. ap (word_at (cs ++ bs)) (omega arith) ∙ word-further cs bs (k + j) in
    rw (word-further cs bs k, at 4, at 8, at 12, at 16, at 20, at 24, at 28) refl

length-bytes : (rs : List Record) → length (bytes_of rs) ≡ 32 * length rs
unfolding bytes_of record_bytes words_bytes word_bytes
length-bytes [] = refl
length-bytes (r ∷ rs) = omega (arith, length-bytes rs)

from_bytes : (rs : List Record) → All Sized rs → (i : ℕ) → i < length rs → record_from (bytes_of rs) (32 * i) ≡ get_or rs i no_record
unfolding bytes_of
from_bytes [] s i h = absurd (omega arith)
from_bytes (r ∷ rs) s zero h = record-back r (bytes_of rs) s.0
from_bytes (r ∷ rs) s (suc i) h =
    ap (record_from (record_bytes r ++ bytes_of rs)) further ∙ record-further (record_bytes r) (bytes_of rs) (32 * i) ∙ from_bytes rs s.1 i (omega arith)
  where
    length-is : length (record_bytes r) ≡ 32
    length-is = unfold record_bytes words_bytes word_bytes in refl

    further : 32 * suc i ≡ length (record_bytes r) + 32 * i
    further = omega (arith, length-is)

-- ---- records that stand in a file

-- From the index `at` on, the file has these records.
abbrev pub Stands : List ℕ → ℕ → List Record → Type 0
Stands bs at [] = Unit {0}
Stands bs at (r ∷ rs) = (1 ≤ at) × (at ≤ records bs) × (record_at bs at ≡ r) × Stands bs (suc at) rs

stands_by : (bs : List ℕ) (at : ℕ) (rs : List Record)
    → ((i : ℕ) → i < length rs → (1 ≤ at + i) × (at + i ≤ records bs) × (record_at bs (at + i) ≡ get_or rs i no_record)) → Stands bs at rs
stands_by bs at [] h = tt
stands_by bs at (r ∷ rs) h =
    let here = h 0 (omega arith) in (
      omega (arith, here.0),
      omega (arith, here.1),
      ap (record_at bs) (omega arith) ∙ here.2,
      stands_by bs (suc at) rs λ i k.
          let there = h (suc i) (omega arith) in
          (omega (arith, there.0), omega (arith, there.1), ap (record_at bs) (omega arith) ∙ there.2),
    )

bytes-stand : (rs : List Record) → All Sized rs → Stands (bytes_of rs) 1 rs
bytes-stand rs s = stands_by (bytes_of rs) 1 rs λ i h. (
  omega arith,
  omega (arith, length-bytes rs),
  sym (inside_is (bytes_of rs) (1 + i) (get_or rs i no_record) (omega arith) (omega (arith, length-bytes rs)) (sym (there i h))),
)
  where
    there : (i : ℕ) → i < length rs → record_from (bytes_of rs) (32 * (1 + i - 1)) ≡ get_or rs i no_record
    there i h = ap (λ k. record_from (bytes_of rs) (32 * k)) (omega arith) ∙ from_bytes rs s i h

stands-split : (bs : List ℕ) (at : ℕ) (rs ss : List Record) → Stands bs at (rs ++ ss) → Stands bs at rs × Stands bs (at + length rs) ss
stands-split bs at [] ss s = (tt, subst (λ n. Stands bs n ss) (omega arith) s)
stands-split bs at (r ∷ rs) ss s =
    let t = stands-split bs (suc at) rs ss s.3 in
    ((s.0, s.1, s.2, t.0), subst (λ n. Stands bs n ss) (omega arith) t.1)

-- ---- chains that are written

-- The indices from `at` on.
unfoldable pub count : ℕ → ℕ → List ℕ
count at zero = []
count at (suc n) = at ∷ count (suc at) n

list_written : (bs : List ℕ) (at : ℕ) (ps : List Pair) → Stands bs at (list_records at ps)
    → Follows bs (place at ps) (count at (length ps)) × (ps ≡ map pair_of (map (record_at bs) (count at (length ps))))
unfolding count list_records
list_written bs at [] s = (refl, refl)
list_written bs at (p ∷ ps) s =
    let t = list_written bs (suc at) ps s.3 in (
      (refl, s.0, s.1, subst (λ n. Follows bs n (count (suc at) (length ps))) (ap (λ r. r.next) (sym s.2)) t.0),
      λ i. pair_of (sym s.2 i) ∷ t.1 i,
    )

length-list : (at : ℕ) (ps : List Pair) → length (list_records at ps) ≡ length ps
unfolding list_records
length-list at [] = refl
length-list at (p ∷ ps) = ap suc (length-list (suc at) ps)

length-main : (at free : ℕ) (ls : List Line) → length (main_records at free ls) ≡ length ls
unfolding main_records
length-main at free [] = refl
length-main at free (l ∷ ls) = ap suc (length-main (suc at) (free + length l.pairs) ls)

length-lists : (free : ℕ) (ls : List Line) → length (all_lists free ls) ≡ listed_in ls
unfolding all_lists listed_in
length-lists free [] = refl
length-lists free (l ∷ ls) = length-append (list_records free l.pairs) (all_lists (free + length l.pairs) ls)
    ∙ ap (λ n. n + length (all_lists (free + length l.pairs) ls)) (length-list free l.pairs)
    ∙ ap (λ n. length l.pairs + n) (length-lists (free + length l.pairs) ls)

main-written : (bs : List ℕ) (at free : ℕ) (ls : List Line) → All Listed ls → Stands bs at (main_records at free ls) → Stands bs free (all_lists free ls)
    → Follows bs (place at ls) (count at (length ls)) × Says bs (count at (length ls)) ls
unfolding count main_records all_lists
main-written bs at free [] w s t = (refl, tt)
main-written bs at free (l ∷ ls) w s t =
    let parts = stands-split bs free (list_records free l.pairs) (all_lists (free + length l.pairs) ls) t in
    let lists : Stands bs (free + length l.pairs) (all_lists (free + length l.pairs) ls)
    = subst (λ n. Stands bs (free + n) (all_lists (free + length l.pairs) ls)) (length-list free l.pairs) parts.1 in
    let rest = main-written bs (suc at) (free + length l.pairs) ls w.1 s.3 lists in
    let own = list_written bs free l.pairs parts.0 in (
      (refl, s.0, s.1, subst (λ n. Follows bs n (count (suc at) (length ls))) (ap (λ r. r.next) (sym s.2)) rest.0),
      (line own, rest.1),
    )
  where
    code : (record_at bs at).code ≡ l.code
    code = ap (λ r. r.code) s.2

    line : Follows bs (place free l.pairs) (count free (length l.pairs)) × (l.pairs ≡ map pair_of (map (record_at bs) (count free (length l.pairs))))
        → SaysLine bs at l
    line own = record {
      words = ap (λ r. line_of r l.pairs) (sym s.2);
      list = λ c. (
        count free (length l.pairs),
        subst (λ n. FinitePath bs n (count free (length l.pairs))) (ap (λ r. r.list) (sym s.2))
            record { follows = own.0; once = follows-once bs (place free l.pairs) (count free (length l.pairs)) own.0 },
        own.1,
      );
      no_list = λ n. w.0 (λ c. n (code ∙ c));
    }

-- ---- every word fits

place-least : {A : Type 0} (at : ℕ) (xs : List A) → place at xs ≤ at
place-least at [] = omega arith
place-least at (x ∷ xs) = omega arith

list-sized : (at : ℕ) (ps : List Pair) → All (λ p. Word p.0 × Word p.1) ps → at + length ps < 4294967296 → All Sized (list_records at ps)
unfolding list_records
list-sized at [] w h = tt
list-sized at (p ∷ ps) w h = (
  record {
    next = omega (arith, place-least (suc at) ps);
    run = w.0.0;
    code = w.0.1;
    entry = omega arith;
    first = omega arith;
    second = omega arith;
    answer = omega arith;
    list = omega arith;
  },
  list-sized (suc at) ps w.1 (omega arith),
)

main-sized : (at free : ℕ) (ls : List Line) → All LineWords ls → at + length ls < 4294967296 → free + listed_in ls < 4294967296 → All Sized (main_records at free ls)
unfolding main_records listed_in
main-sized at free [] w h k = tt
main-sized at free (l ∷ ls) w h k = (
  record {
    next = omega (arith, place-least (suc at) ls);
    run = w.0.run;
    code = w.0.code;
    entry = w.0.entry;
    first = w.0.first;
    second = w.0.second;
    answer = w.0.answer;
    list = omega (arith, place-least free l.pairs);
  },
  main-sized (suc at) (free + length l.pairs) ls w.1 (omega arith) (omega arith),
)

lists-sized : (free : ℕ) (ls : List Line) → All LineWords ls → free + listed_in ls < 4294967296 → All Sized (all_lists free ls)
unfolding all_lists listed_in
lists-sized free [] w k = tt
lists-sized free (l ∷ ls) w k =
    all_append Sized (list_records free l.pairs) (all_lists (free + length l.pairs) ls) (list-sized free l.pairs w.0.pairs (omega arith))
    (lists-sized (free + length l.pairs) ls w.1 (omega arith))

-- ---- the journal

-- The lines that are written are the lines that are read.
pub written-lines : (ls : List Line) → Words ls → 1 ≤ length ls → length ls + listed_in ls ≤ 2048 → lines (written ls) ≡ some ls
unfolding written
written-lines ls w h k = say-lines (written ls) (count 1 (length ls)) ls
    (is_whole (written ls) (length ls + listed_in ls) size (omega arith) k)
    record { follows = first-is both.0; once = follows-once (written ls) 1 (count 1 (length ls)) (first-is both.0) }
    both.1
  where
    main : List Record
    main = main_records 1 (suc (length ls)) ls

    rest : List Record
    rest = all_lists (suc (length ls)) ls

    size : length (bytes_of (main ++ rest)) ≡ 32 * (length ls + listed_in ls)
    size = omega (arith, length-bytes (main ++ rest), length-append main rest, length-main 1 (suc (length ls)) ls, length-lists (suc (length ls)) ls)

    parts : Stands (bytes_of (main ++ rest)) 1 main × Stands (bytes_of (main ++ rest)) (1 + length main) rest
    parts = stands-split (bytes_of (main ++ rest)) 1 main rest (bytes-stand (main ++ rest)
        (all_append Sized main rest (main-sized 1 (suc (length ls)) ls w.0 (omega arith) (omega arith)) (lists-sized (suc (length ls)) ls w.0 (omega arith))))

    both : Follows (bytes_of (main ++ rest)) (place 1 ls) (count 1 (length ls)) × Says (bytes_of (main ++ rest)) (count 1 (length ls)) ls
    both = main-written (bytes_of (main ++ rest)) 1 (suc (length ls)) ls w.1 parts.0
        (subst (λ n. Stands (bytes_of (main ++ rest)) n rest) (omega (arith, length-main 1 (suc (length ls)) ls)) parts.1)

    some-place : (ms : List Line) → 1 ≤ length ms → place 1 ms ≡ 1
    some-place [] q = absurd (omega arith)
    some-place (m ∷ ms) q = refl

    first-is : Follows (bytes_of (main ++ rest)) (place 1 ls) (count 1 (length ls)) → Follows (bytes_of (main ++ rest)) 1 (count 1 (length ls))
    first-is f = subst (λ n. Follows (bytes_of (main ++ rest)) n (count 1 (length ls))) (some-place ls h) f

-- The journal has the verdict of its lines.
pub written-verdict : (ls : List Line) → Words ls → 1 ≤ length ls → length ls + listed_in ls ≤ 2048 → verdict_of (written ls) ≡ judged ls
unfolding verdict_of
written-verdict ls w h k = rw (written-lines ls w h k) refl

abbrev pub Bytes : List ℕ → Type 0
Bytes bs = All (λ b. b < 256) bs

words-are-bytes : (ws : List ℕ) → Bytes (words_bytes ws)
unfolding words_bytes word_bytes
words-are-bytes [] = tt
words-are-bytes (w ∷ ws) = (omega arith, (omega arith, (omega arith, (omega arith, words-are-bytes ws))))

records-are-bytes : (rs : List Record) → Bytes (bytes_of rs)
unfolding bytes_of record_bytes
records-are-bytes [] = tt
records-are-bytes (r ∷ rs) = all_append (λ b. b < 256) (record_bytes r) (bytes_of rs) (words-are-bytes _) (records-are-bytes rs)

-- It is a list of bytes.
pub written-bytes : (ls : List Line) → Bytes (written ls)
unfolding written
written-bytes ls = records-are-bytes (main_records 1 (suc (length ls)) ls ++ all_lists (suc (length ls)) ls)
