-- The requests of a day fed to the logical model, and the day written out again from a locate and reads.
use Rattle.std.specs.Prelude.{◌≡◌, refl, true, cond, List, [], ◌∷◌, ◌++◌, map, ℕ, zero, suc, ◌+◌, ◌-◌, ◌%◌, ◌≤◌, ◌<◌, eqb, length}
use Rattle.std.proofs.Common.{sym, ap, ◌∙◌, inl, arith}
use Rattle.std.proofs.Math.Option.{some}
use Rattle.std.proofs.Math.Decide.{ℕ_discrete}
use Rattle.serial.specs.Serial.{pick_yes, pick_no, run_db, run_answers}
use Rattle.serial.specs.Rising.{Rising, Above, has, has-only, has-only-out, rising-only, rising-ext, same?}
use Rattle.serial.specs.Model.{Db, Pair, by_key, Req, read, write, insert, locate, Ans, just, InRange, in_range, located, two_words, ans, eff, Item, value, cell, get, request_of}
use Rattle.serial.specs.Footprints.{Good, store, eff_good, frame, cell-inserted}
use Rattle.serial.specs.Calls.{number_of}
use Rattle.card_days.specs.declared.Stretch.{Stretch}
use Rattle.card_days.specs.declared.DayRequest.{DayRequest}
use Rattle.card_days.specs.Day.{words, stretches, requests_of, written_out, valued, stored, proper}
use Rattle.card_days.specs.Laws.{Up, Bytes, Unrepeated, round_trip, day-up}

-- ---- the day's requests

-- A day has writes, code 2, and inserts, code 3.
abbrev pub as_request : DayRequest → Req
as_request r = cond (eqb r.code 2) (write r.entry r.first) (insert r.entry r.first)

abbrev pub fed_by : ℕ → ℕ → List Stretch → List Req
fed_by k0 e ss = map as_request (requests_of k0 e ss)

-- They are what the codes ask, whatever stands as second.
abbrev pub Asks : List DayRequest → Type 0
Asks [] = Unit {0}
Asks (r ∷ rs) = ((second : ℕ) → request_of r.code r.entry r.first second ≡ some (as_request r)) × Asks rs

pub day-asks : (k0 e : ℕ) (ss : List Stretch) → Asks (requests_of k0 e ss)
unfolding requests_of
day-asks k0 e [] = tt
day-asks k0 e (st ∷ ss) = ((λ g. refl), ((λ g. refl), day-asks k0 (e + 1) ss))

-- ---- what they leave

-- The memberships of a day.
abbrev pub day_pairs : ℕ → ℕ → List Stretch → List Pair
day_pairs k0 e [] = []
day_pairs k0 e (st ∷ ss) = (k0 + st.minute, e) ∷ day_pairs k0 (e + 1) ss

-- Entries counted up from e have the values of the stretches.
abbrev pub Valued : Db → ℕ → List Stretch → Type 0
Valued d e [] = Unit {0}
Valued d e (st ∷ ss) = (d.values e ≡ st.value) × Valued d (e + 1) ss

abbrev one_stretch : ℕ → ℕ → Stretch → Db → Db
one_stretch k0 e st d = eff (insert e (k0 + st.minute)) (eff (write e st.value) d)

-- Entries below e are left alone.
value-below : (k0 e : ℕ) (ss : List Stretch) (d : Db) (y : ℕ) → y < e → (run_db store (fed_by k0 e ss) d).values y ≡ d.values y
unfolding requests_of
value-below k0 e [] d y l = refl
value-below k0 e (st ∷ ss) d y l =
    value-below k0 (e + 1) ss (one_stretch k0 e st d) y (omega arith) ∙ pick_no (ℕ_discrete e y) st.value (d.values y) (λ q. omega (arith, q, l))

pub values_are : (k0 e : ℕ) (ss : List Stretch) (d : Db) → Valued (run_db store (fed_by k0 e ss) d) e ss
unfolding requests_of
values_are k0 e [] d = tt
values_are k0 e (st ∷ ss) d = (
  value-below k0 (e + 1) ss (one_stretch k0 e st d) e (omega arith) ∙ pick_yes (ℕ_discrete e e) st.value (d.values e) refl,
  values_are k0 (e + 1) ss (one_stretch k0 e st d),
)

pub run-append : (l m : List Req) (d : Db) → run_db store (l ++ m) d ≡ run_db store m (run_db store l d)
run-append [] m d = refl
run-append (r ∷ l) m d = run-append l m (eff r d)

pub run-good : (rs : List Req) (d : Db) → Good d → Good (run_db store rs d)
run-good [] d g = g
run-good (r ∷ rs) d g = run-good rs (eff r d) (eff_good r d g)

-- A stretch stored leaves its cell 1 and every other as it was.
cell-kept : (k0 e : ℕ) (st : Stretch) (d : Db) → Good d → (k x : ℕ) → ¬ (◌≡◌ {A = Pair} (k, x) (k0 + st.minute, e)) → get (one_stretch k0 e st d) (cell k x) ≡ get d (cell k x)
cell-kept k0 e st d g k x n = frame (insert e (k0 + st.minute)) (eff (write e st.value) d) g (cell k x) (λ q. n (ap pair_of q))
  where
    pair_of : Item → Pair
    pair_of (value y) = (0, 0)
    pair_of (cell k x) = (k, x)

cell-one : (k0 e : ℕ) (ss : List Stretch) (d : Db) → Good d → (k x : ℕ) → get d (cell k x) ≡ 1 → get (run_db store (fed_by k0 e ss) d) (cell k x) ≡ 1
unfolding requests_of
cell-one k0 e [] d g k x o = o
cell-one k0 e (st ∷ ss) d g k x o =
    cell-one k0 (e + 1) ss (one_stretch k0 e st d) (run-good (write e st.value ∷ insert e (k0 + st.minute) ∷ []) d g) k x (go (same? by_key (k, x) (k0 + st.minute, e)))
  where
    go : Dec (◌≡◌ {A = Pair} (k, x) (k0 + st.minute, e)) → get (one_stretch k0 e st d) (cell k x) ≡ 1
    go (yes q) = ap (λ z. get (one_stretch k0 e st d) (cell z.0 z.1)) q ∙ cell-inserted e (k0 + st.minute) (eff (write e st.value) d)
    go (no n) = cell-kept k0 e st d g k x n ∙ o

cells_are : (k0 e : ℕ) (ss : List Stretch) (d : Db) → Good d → (k x : ℕ) → get d (cell k x) ≡ 0
    → get (run_db store (fed_by k0 e ss) d) (cell k x) ≡ has by_key (k, x) (day_pairs k0 e ss)
unfolding requests_of
cells_are k0 e [] d g k x z = z
cells_are k0 e (st ∷ ss) d g k x z =
    let d₁ = one_stretch k0 e st d in
    let g₁ = run-good (write e st.value ∷ insert e (k0 + st.minute) ∷ []) d g in
    go (same? by_key (k, x) (k0 + st.minute, e)) (λ o. cell-one k0 (e + 1) ss d₁ g₁ k x o) (λ o. cells_are k0 (e + 1) ss d₁ g₁ k x o)
  where
    go : Dec (◌≡◌ {A = Pair} (k, x) (k0 + st.minute, e))
        → (get (one_stretch k0 e st d) (cell k x) ≡ 1 → get (run_db store (fed_by k0 (e + 1) ss) (one_stretch k0 e st d)) (cell k x) ≡ 1)
        → (get (one_stretch k0 e st d) (cell k x) ≡ 0 → get (run_db store (fed_by k0 (e + 1) ss) (one_stretch k0 e st d)) (cell k x) ≡ has by_key (k, x) (day_pairs k0 (e + 1) ss))
        → get (run_db store (fed_by k0 (e + 1) ss) (one_stretch k0 e st d)) (cell k x) ≡ has by_key (k, x) (day_pairs k0 e (st ∷ ss))
    go (yes q) one free =
        one (ap (λ z. get (one_stretch k0 e st d) (cell z.0 z.1)) q ∙ cell-inserted e (k0 + st.minute) (eff (write e st.value) d))
        ∙ sym (pick_yes (same? by_key (k, x) (k0 + st.minute, e)) 1 (has by_key (k, x) (day_pairs k0 (e + 1) ss)) q)
    go (no n) one free =
        free (cell-kept k0 e st d g k x n ∙ z)
        ∙ sym (pick_no (same? by_key (k, x) (k0 + st.minute, e)) 1 (has by_key (k, x) (day_pairs k0 (e + 1) ss)) n)

-- ---- the memberships of a day rise, and lie in its minutes

pairs-above : (k0 k x lo e : ℕ) (ss : List Stretch) → Up lo ss → k < k0 + lo → Above by_key (k, x) (day_pairs k0 e ss)
pairs-above k0 k x lo e [] u l = tt
pairs-above k0 k x lo e (st ∷ ss) u l = (inl (omega (arith, l, u.0)), pairs-above k0 k x (suc st.minute) (e + 1) ss u.2 (omega (arith, l, u.0)))

pairs-rise : (k0 lo e : ℕ) (ss : List Stretch) → Up lo ss → Rising by_key (day_pairs k0 e ss)
pairs-rise k0 lo e [] u = tt
pairs-rise k0 lo e (st ∷ ss) u = (pairs-above k0 (k0 + st.minute) e (suc st.minute) (e + 1) ss u.2 (omega arith), pairs-rise k0 (suc st.minute) (e + 1) ss u.2)

pairs-inside : (k0 k x lo e : ℕ) (ss : List Stretch) → Up lo ss → ¬ InRange k0 (k0 + 1439) (k, x) → has by_key (k, x) (day_pairs k0 e ss) ≡ 0
pairs-inside k0 k x lo e [] u n = refl
pairs-inside k0 k x lo e (st ∷ ss) u n =
    pick_no (same? by_key (k, x) (k0 + st.minute, e)) 1 (has by_key (k, x) (day_pairs k0 (e + 1) ss))
    (λ q. n (omega (arith, ap (λ z. z.0) q, u.1), omega (arith, ap (λ z. z.0) q, u.1)))
    ∙ pairs-inside k0 k x (suc st.minute) (e + 1) ss u.2 n

-- ---- the day written out

-- What a day's minutes and entries are: the memberships of its 1,440 keys, the values of its entries.
abbrev pub OfDay : ℕ → ℕ → ℕ → Item → Type 0
OfDay k0 e n (value y) = (e ≤ y) × (y < e + n)
OfDay k0 e n (cell k x) = InRange k0 (k0 + 1439) (k, x)

-- They are the same in both.
abbrev pub SameDay : ℕ → ℕ → ℕ → Db → Db → Type 0
SameDay k0 e n d d' = (i : Item) → OfDay k0 e n i → get d' i ≡ get d i

-- The day's minutes hold no entry.
abbrev pub NoEntry : ℕ → Db → Type 0
NoEntry k0 d = (k x : ℕ) → InRange k0 (k0 + 1439) (k, x) → get d (cell k x) ≡ 0

-- The requests that read a day back: the locate of its minutes, and a read of each of its n entries.
abbrev pub reads : ℕ → ℕ → List Req
reads e zero = []
reads e (suc n) = read e ∷ reads (e + 1) n

abbrev pub read_back : ℕ → ℕ → ℕ → List Req
read_back k0 e n = locate k0 (k0 + 1439) ∷ reads e n

-- The bytes, from their answers: the locate's written words and the numbers beside done of the reads.
abbrev pub bytes_from : ℕ → List Ans → List ℕ
bytes_from k0 [] = []
bytes_from k0 (a ∷ bs) = written_out k0 (valued a.words (map (λ b. number_of b.numbers) bs))

abbrev pub located_day : ℕ → ℕ → List Stretch → Ans
located_day k0 e ss = record { numbers = length ss ∷ []; words = two_words (day_pairs k0 e ss) }

pub pairs-many : (k0 e : ℕ) (ss : List Stretch) → length (day_pairs k0 e ss) ≡ length ss
pairs-many k0 e [] = refl
pairs-many k0 e (st ∷ ss) = omega (arith, pairs-many k0 (e + 1) ss)

module _ (k0 e : ℕ) (ss : List Stretch) (u : Up 0 ss) (d d' : Db) (g : Good d) (g' : Good d') (none-there : NoEntry k0 d)
    (same : SameDay k0 e (length ss) (run_db store (fed_by k0 e ss) d) d') where
  -- The session's locate finds exactly the day's memberships,
  pub day-located : located k0 (k0 + 1439) d' ≡ day_pairs k0 e ss
  day-located = rising-ext by_key (located k0 (k0 + 1439) d') (day_pairs k0 e ss) (rising-only by_key (in_range k0 (k0 + 1439)) d'.members g') (pairs-rise k0 0 e ss u)
      (λ p. at p (in_range k0 (k0 + 1439) p))
    where
      at : (p : Pair) → Dec (InRange k0 (k0 + 1439) p) → has by_key p (located k0 (k0 + 1439) d') ≡ has by_key p (day_pairs k0 e ss)
      at p (yes q) = has-only by_key (in_range k0 (k0 + 1439)) p d'.members q ∙ same (cell p.0 p.1) q ∙ cells_are k0 e ss d g p.0 p.1 (none-there p.0 p.1 q)
      at p (no n) = has-only-out by_key (in_range k0 (k0 + 1439)) p d'.members n ∙ sym (pairs-inside k0 p.0 p.1 0 e ss u n)

  pub day-found : ans (locate k0 (k0 + 1439)) d' ≡ located_day k0 e ss
  day-found = ap (λ l. record { numbers = length l ∷ []; words = two_words l }) day-located ∙ ap (λ n. record { numbers = n ∷ []; words = two_words (day_pairs k0 e ss) }) (pairs-many k0 e ss)

-- and its reads the values.
reads-are : (e lo n : ℕ) (ss : List Stretch) (d d' : Db) → Valued d lo ss → e ≤ lo → lo + length ss ≤ e + n → ((y : ℕ) → e ≤ y → y < e + n → d'.values y ≡ d.values y)
    → run_answers store (reads lo (length ss)) d' ≡ map (λ st. just st.value) ss
reads-are e lo n [] d d' v l h same = refl
reads-are e lo n (st ∷ ss) d d' v l h same =
    let x : d'.values lo ≡ st.value = same lo l (omega (arith, h)) ∙ v.0 in
    let y = reads-are e (lo + 1) n ss d d' v.1 (omega arith) (omega (arith, h)) same in
    ap (λ z. just z ∷ run_answers store (reads (lo + 1) (length ss)) d') x ∙ ap (λ z. just st.value ∷ z) y

valued-stored : (k0 e : ℕ) (ss : List Stretch) → valued (two_words (day_pairs k0 e ss)) (map (λ b. number_of b.numbers) (map (λ st. just st.value) ss)) ≡ stored k0 ss
unfolding valued stored
valued-stored k0 e [] = refl
valued-stored k0 e (st ∷ ss) = ap (λ z. (k0 + st.minute, st.value) ∷ z) (valued-stored k0 (e + 1) ss)

-- A day without repeats, in minutes that held no entry: while its minutes and entries see no other change, the locate and the reads give back its bytes.
pub read-back-is : (bs : List ℕ) (k0 e : ℕ) (d d' : Db) → Bytes bs → length bs % 2 ≡ 0 → proper (words bs) ≡ true → Unrepeated (words bs) → Good d → Good d' → NoEntry k0 d
    → SameDay k0 e (length (stretches (words bs))) (run_db store (fed_by k0 e (stretches (words bs))) d) d'
    → bytes_from k0 (run_answers store (read_back k0 e (length (stretches (words bs)))) d') ≡ bs
read-back-is bs k0 e d d' b h p r g g' none-there same =
    let ss = stretches (words bs) in
    let u = day-up (words bs) p in
    let f : ans (locate k0 (k0 + 1439)) d' ≡ located_day k0 e ss = day-found k0 e ss u d d' g g' none-there same in
    let v = reads-are e e (length ss) ss (run_db store (fed_by k0 e ss) d) d' (values_are k0 e ss d) (omega arith) (omega arith) (λ y l m. same (value y) (l, m)) in
    ap (λ a. bytes_from k0 (a ∷ run_answers store (reads e (length ss)) d')) f
    ∙ ap (λ z. bytes_from k0 (located_day k0 e ss ∷ z)) v
    ∙ ap (written_out k0) (valued-stored k0 e ss)
    ∙ round_trip k0 bs b h r
