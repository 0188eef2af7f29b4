-- A journal's file: bytes, words and records.
use Rattle.std.specs.Prelude.{◌≡◌, refl, Bool, true, false, cond, ◌&&◌, List, ℕ, ◌+◌, ◌*◌, ◌-◌, ◌/◌, ◌≤◌, ◌<◌, leb, length, get_or}
use Rattle.std.proofs.Math.Bool.{and-eq-true_iff, and-false}
use Rattle.std.proofs.Common.{arith, leb-true, le-leb}
use Rattle.std.proofs.lemmas.Bool.{lt-leb}
use Rattle.journal_reader.specs.declared.Record.{Record}

-- The word from byte i on: four bytes, the lowest first.
unfoldable pub word_at : List ℕ → ℕ → ℕ
word_at bs i = get_or bs i 0 + get_or bs (i + 1) 0 * 256 + get_or bs (i + 2) 0 * 65536 + get_or bs (i + 3) 0 * 16777216

-- How many whole records there are.
abbrev pub records : List ℕ → ℕ
records bs = length bs / 32

-- Records count from 1.
unfoldable pub in_file : List ℕ → ℕ → Bool
in_file bs at = leb 1 at && leb at (records bs)

-- The eight words from byte i on.
unfoldable pub record_from : List ℕ → ℕ → Record
record_from bs i = record {
  next = word_at bs i;
  run = word_at bs (i + 4);
  code = word_at bs (i + 8);
  entry = word_at bs (i + 12);
  first = word_at bs (i + 16);
  second = word_at bs (i + 20);
  answer = word_at bs (i + 24);
  list = word_at bs (i + 28);
}

-- Outside the file there is none: all its words are 0.
abbrev pub no_record : Record
no_record = record { next = 0; run = 0; code = 0; entry = 0; first = 0; second = 0; answer = 0; list = 0 }

-- The record of an index.
unfoldable pub record_at : List ℕ → ℕ → Record
record_at bs at = cond (in_file bs at) (record_from bs (32 * (at - 1))) no_record

-- ---- inside and outside

pub in-file-yes : (bs : List ℕ) (at : ℕ) → 1 ≤ at → at ≤ records bs → in_file bs at ≡ true
unfolding in_file
in-file-yes bs at h k = rw (le-leb 1 at h, le-leb at (records bs) k) refl

pub in-file-is : (bs : List ℕ) (at : ℕ) → in_file bs at ≡ true → (1 ≤ at) × (at ≤ records bs)
unfolding in_file
in-file-is bs at h = let p = (and-eq-true_iff (leb 1 at) (leb at (records bs))).0 h in (leb-true 1 at p.0, leb-true at (records bs) p.1)

pub in-file-no : (bs : List ℕ) (at : ℕ) → records bs < at → in_file bs at ≡ false
unfolding in_file
in-file-no bs at h = rw (lt-leb at (records bs) h) (and-false (leb 1 at))

pub inside_is : (bs : List ℕ) (at : ℕ) (r : Record) → 1 ≤ at → at ≤ records bs → r ≡ record_from bs (32 * (at - 1)) → r ≡ record_at bs at
unfolding record_at
inside_is bs at r h k e = rw (in-file-yes bs at h k) e

pub before-none : (bs : List ℕ) (at : ℕ) (r : Record) → at ≡ 0 → r ≡ no_record → r ≡ record_at bs at
unfolding record_at in_file
before-none bs at r h e = rw (lt-leb 1 at (omega arith)) e

pub behind-none : (bs : List ℕ) (at : ℕ) (r : Record) → records bs < at → r ≡ no_record → r ≡ record_at bs at
unfolding record_at
behind-none bs at r h e = rw (in-file-no bs at h) e
