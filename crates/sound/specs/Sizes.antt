-- The sizes of a store: M and R as format gives them for a length.
use Rattle.std.specs.Prelude.{◌≡◌, List, Bool, true, ◌&&◌, ℕ, eqb, leb, length}
use Rattle.std.proofs.Common.{arith, leb-true, eqb-true}
use Rattle.words.specs.Sizes.{records_for, records-inside}
use Rattle.words.specs.Header.{header_word, entries_place, records_place}
use Rattle.marks.specs.Marks.{HasRecords}
use Rattle.marks.specs.Steps.{both}

-- the header's M and R are those that format gives for this length
unfoldable pub sizes_ok : List ℕ → Bool
sizes_ok s =
    leb 16 (length s) && leb 1 (header_word s entries_place) && leb (header_word s entries_place) 1024
    && leb 8 (records_for (header_word s entries_place) (length s))
    && eqb (header_word s records_place) (records_for (header_word s entries_place) (length s))

-- a store of these sizes has its records
pub sizes-has : (s : List ℕ) → sizes_ok s ≡ true → HasRecords s (header_word s entries_place) (header_word s records_place)
unfolding sizes_ok
sizes-has s e =
    let m = header_word s entries_place in
    let n = records_for m (length s) in
    let t1 : Bool = leb 16 (length s) && leb 1 m in
    let t2 : Bool = t1 && leb m 1024 in
    let t3 : Bool = t2 && leb 8 n in
    let p3 = both t3 (eqb (header_word s records_place) n) e in
    let p2 = both t2 (leb 8 n) p3.0 in
    let p1 = both t1 (leb m 1024) p2.0 in
    let q : header_word s records_place ≡ n = eqb-true (header_word s records_place) n p3.1 in
    let b = leb-true 8 n p2.1 in
    let c = records-inside m (length s) (omega arith) in
    record { entries = leb-true m 1024 p1.1; records = omega arith; inside = omega arith }
