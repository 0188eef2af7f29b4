-- The sizes of the header: the test on them is true exactly if they are those that format gives.
use Rattle.std.specs.Prelude.{◌≡◌, true, List, ℕ, ◌≤◌, eqb, leb, length}
use Rattle.std.proofs.Common.{arith, eq-eqb, le-leb, eqb-true, leb-true}
use Rattle.words.specs.Header.{header_word, entries_place, records_place}
use Rattle.machine.specs.Calls.{records_for}
use Rattle.meaning.specs.Reading.{M-of, R-of}
use Rattle.marks.specs.Steps.{both}
use Rattle.sound.specs.Sizes.{sizes_ok}

pub record Sizes (s : List ℕ) : Type 0 where
  pub header : 16 ≤ length s
  pub entries : (1 ≤ M-of s) × (M-of s ≤ 1024)
  pub records : (8 ≤ R-of s) × (R-of s ≤ 4096)
  pub sized : R-of s ≡ records_for (M-of s) (length s)

pub sizes-found : (s : List ℕ) → sizes_ok s ≡ true → Sizes s
unfolding sizes_ok
sizes-found s o =
    let a = both _ (eqb (header_word s records_place) (records_for (header_word s entries_place) (length s))) o in
    let b = both _ (leb 8 (records_for (header_word s entries_place) (length s))) a.0 in
    let d = both _ (leb (header_word s entries_place) 1024) b.0 in
    let e = both (leb 16 (length s)) (leb 1 (header_word s entries_place)) d.0 in
    let q : R-of s ≡ records_for (M-of s) (length s) = eqb-true (header_word s records_place) (records_for (header_word s entries_place) (length s)) a.1 in
    let v = leb-true 8 (records_for (M-of s) (length s)) b.1 in
    record {
      header = leb-true 16 (length s) e.0;
      entries = (leb-true 1 (M-of s) e.1, leb-true (M-of s) 1024 d.1);
      records = (omega arith, omega arith);
      sized = q;
    }

pub sizes-pass : (s : List ℕ) → Sizes s → sizes_ok s ≡ true
unfolding sizes_ok
sizes-pass s z =
    let q = z.sized in
    let a = z.records in
    simp (le-leb 16 (length s) z.header, le-leb 1 (M-of s) z.entries.0, le-leb (M-of s) 1024 z.entries.1, le-leb 8 (records_for (M-of s) (length s)) (omega arith))
    (eq-eqb (R-of s) (records_for (M-of s) (length s)) q)
