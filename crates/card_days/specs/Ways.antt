-- The ways through the functions with tests: what each test says gives the definition's result.
use Rattle.std.specs.Prelude.{◌≡◌, Bool, cond, ◌&&◌, List, ◌++◌, ℕ, ◌+◌, ◌*◌, ◌/◌, ◌%◌, ◌≤◌, ◌<◌, eqb, drop}
use Rattle.std.proofs.Math.Path.{refl, ap}
use Rattle.std.proofs.Common.{sym, ◌∙◌, arith}
use Rattle.std.proofs.Math.Bool.{true, false}
use Rattle.std.proofs.Math.Dec.{leb, ltb}
use Rattle.std.proofs.Math.ListN.{length}
use borrow.Author.Tests.{leb-true, ne_eqb, eq-eqb, le-leb, lt-leb, lt-ltb, le-ltb}
use Rattle.card_days.specs.declared.Stretch.{Stretch}
use Rattle.card_days.specs.declared.DayRequest.{DayRequest}
use Rattle.card_days.specs.declared.Surveyed.{Surveyed}
use Rattle.card_days.specs.declared.Walk.{Walk}
use Rattle.card_days.specs.Day.{minute, stretch, day_key, write_of, insert_of, request_from, written_out, valued, of_day, all_of_day, writable, WritesDay}
use Rattle.card_days.specs.Laws.{true≢false}
use Rattle.card_days.specs.Loops.{still, ended, stands, passed, RequestFrom}

-- One false test is enough.
no_second : (a b c : Bool) → b ≡ false → false ≡ (a && (b && c))
no_second true b c e = ap (λ x. x && c) (sym e)
no_second false b c e = refl

no_third : (a b c : Bool) → c ≡ false → false ≡ (a && (b && c))
no_third true true c e = sym e
no_third true false c e = refl
no_third false b c e = refl

all_three : (a b c : Bool) → a ≡ true → b ≡ true → true ≡ c → true ≡ (a && (b && c))
all_three true true c p q r = r
all_three true false c p q r = sym q
all_three false b c p q r = sym p

-- ---- the walk

module _ (b : Bool) (w v : ℕ) where
  pub still-not : b ≡ false → false ≡ still b w v
  unfolding still
  still-not e = ap (λ x. x && (leb (minute w) (minute v) && ltb (minute v) 1440)) (sym e)

  pub still-falls : v % 2048 < w % 2048 → false ≡ still b w v
  unfolding still
  still-falls h = no_second b (leb (minute w) (minute v)) (ltb (minute v) 1440) (lt-leb (minute w) (minute v) h)

  pub still-late : 1440 ≤ v % 2048 → false ≡ still b w v
  unfolding still
  still-late h = no_third b (leb (minute w) (minute v)) (ltb (minute v) 1440) (le-ltb (minute v) 1440 h)

  pub still-so : b ≡ true → w % 2048 ≤ v % 2048 → v % 2048 < 1440 → true ≡ still b w v
  unfolding still
  still-so e h l = all_three b (leb (minute w) (minute v)) (ltb (minute v) 1440) e (le-leb (minute w) (minute v) h) (sym (lt-ltb (minute v) 1440 l))

module _ (k : ℕ) (s : Surveyed) (w end : ℕ) where
  pub ended-asked : (found : Stretch) → s.count ≡ k → found ≡ stretch w end → record { is_proper = s.is_proper; count = s.count + 1; stretch = found } ≡ ended k s w end
  unfolding ended
  ended-asked found e f = rw (eq-eqb s.count k e) (ap (λ (x : Stretch). record { is_proper = s.is_proper; count = s.count + 1; stretch = x }) f)

  pub ended-other : (s.count ≡ k → ⊥) → record { is_proper = s.is_proper; count = s.count + 1; stretch = s.stretch } ≡ ended k s w end
  unfolding ended
  ended-other n = rw (ne_eqb s.count k n)

module _ (k : ℕ) (x : Walk) (v : ℕ) (b : Bool) (r : Walk) (e : b ≡ still x.told.is_proper x.word v) where
  -- The word that the walk goes on with is the later one.
  pub passed-equal : (u : ℕ) → x.word % 2048 ≡ v % 2048 → r ≡ record { word = u; told = stands x.told b } → u ≡ v → r ≡ passed k x v
  unfolding passed
  passed-equal u q h g = rw (eq-eqb (minute x.word) (minute v) q) (rw (← e) (rw (← g) h))

  pub passed_later : (u : ℕ) (m : Surveyed) → (x.word % 2048 ≡ v % 2048 → ⊥) → m ≡ ended k (stands x.told b) x.word (v % 2048) → r ≡ record { word = u; told = m } → u ≡ v
      → r ≡ passed k x v
  unfolding passed
  passed_later u m n q h g = rw (ne_eqb (minute x.word) (minute v) n) (rw (← e) (rw (← q) (rw (← g) h)))

-- ---- requests

module _ (st : Stretch) (driver start entry j : ℕ) where
  pub write-from : j % 2 ≡ 0 → st.value < 4294967296 → RequestFrom st driver start entry j (write_of (entry + j / 2) st)
  write-from e h = record { is = rw (eq-eqb (j % 2) 0 e); fits = λ c. h }

  pub insert-from : (j % 2 ≡ 0 → ⊥) → RequestFrom st driver start entry j (insert_of (day_key driver start) (entry + j / 2) st)
  insert-from n = record { is = rw (ne_eqb (j % 2) 0 n); fits = λ c. absurd (omega (arith, c)) }

-- ---- written out

module _ (k0 key value : ℕ) where
  pub of-below : key < k0 → false ≡ of_day k0 key value
  unfolding of_day
  of-below h = ap (λ x. x && (leb key (k0 + 1439) && ltb value 65536)) (sym (lt-leb k0 key h))

  pub of-above : k0 + 1440 ≤ key → false ≡ of_day k0 key value
  unfolding of_day
  of-above h = no_second (leb k0 key) (leb key (k0 + 1439)) (ltb value 65536) (lt-leb key (k0 + 1439) (omega arith))

  pub of-wide : 65536 ≤ value → false ≡ of_day k0 key value
  unfolding of_day
  of-wide h = no_third (leb k0 key) (leb key (k0 + 1439)) (ltb value 65536) (le-ltb value 65536 h)

  pub of-so : k0 ≤ key → key < k0 + 1440 → value < 65536 → true ≡ of_day k0 key value
  unfolding of_day
  of-so h l w = all_three (leb k0 key) (leb key (k0 + 1439)) (ltb value 65536) (le-leb k0 key h) (le-leb key (k0 + 1439) (omega arith)) (sym (lt-ltb value 65536 w))

module _ (k0 : ℕ) (pairs values : List ℕ) (room : ℕ) where
  pub many-values : 1440 < length values → false ≡ writable k0 pairs values room
  unfolding writable
  many-values h = rw (lt-leb (length values) 1440 h)

  pub few-pairs : length pairs < 2 * length values → false ≡ writable k0 pairs values room
  unfolding writable
  few-pairs h = no_second (leb (length values) 1440) (leb (2 * length values) (length pairs)) (leb (2 * length values) room && all_of_day k0 (valued pairs values)) (lt-leb (2 * length values) (length pairs) h)

  pub no_room : room < 2 * length values → false ≡ writable k0 pairs values room
  unfolding writable
  no_room h =
      no_third (leb (length values) 1440) (leb (2 * length values) (length pairs)) (leb (2 * length values) room && all_of_day k0 (valued pairs values))
      (ap (λ x. x && all_of_day k0 (valued pairs values)) (lt-leb (2 * length values) room h))

  pub room_for : (r : Bool) → length values ≤ 1440 → 2 * length values ≤ length pairs → 2 * length values ≤ room → r ≡ all_of_day k0 (valued pairs values) → r ≡ writable k0 pairs values room
  unfolding writable
  room_for r a b c e = rw (le-leb (length values) 1440 a) (rw (le-leb (2 * length values) (length pairs) b) (rw (le-leb (2 * length values) room c) e))

  -- What is writable has a pair for each value, and room.
  pub has_room : (good : Bool) → good ≡ writable k0 pairs values room → good ≡ true → (2 * length values ≤ length pairs) × (2 * length values ≤ room)
  unfolding writable
  has_room good e t = go (leb (length values) 1440) (leb (2 * length values) (length pairs)) (leb (2 * length values) room) refl refl (sym t ∙ e)
    where
      go : (a b c : Bool) → leb (2 * length values) (length pairs) ≡ b → leb (2 * length values) room ≡ c → true ≡ (a && (b && (c && all_of_day k0 (valued pairs values))))
          → (2 * length values ≤ length pairs) × (2 * length values ≤ room)
      go true true true p q h = (leb-true (2 * length values) (length pairs) p, leb-true (2 * length values) room q)
      go true true false p q h = absurd (true≢false h)
      go true false c p q h = absurd (true≢false h)
      go false b c p q h = absurd (true≢false h)

module _ (k0 : ℕ) (pairs values out : List ℕ) (good : Bool) (e : good ≡ writable k0 pairs values (length out)) where
  pub writes_nothing : good ≡ false → WritesDay k0 pairs values out false out
  writes_nothing f = record { is = sym f ∙ e; bytes = refl }

  pub writes-it : (out' : List ℕ) → good ≡ true → out' ≡ written_out k0 (valued pairs values) ++ drop (2 * length values) out → WritesDay k0 pairs values out true out'
  writes-it out' t b = record { is = sym t ∙ e; bytes = b }
