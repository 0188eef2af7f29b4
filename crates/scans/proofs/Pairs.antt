-- The turns of the loops that write pairs: one pair put in, one group, the range.
use mathlib.Core.Path.{◌≡◌, refl, sym, ap, subst, ◌∙◌}
use mathlib.Core.List.{List, [], ◌∷◌, ◌++◌, append_assoc, append-nil}
use mathlib.Core.Bool.{Bool, true, false, cond}
use Prim.Native.Nat.{ℕ, zero, suc, ◌+◌, ◌-◌, ◌*◌, ◌≤◌, ◌<◌}
use native.Mathlib.Omega.{arith}
use lib.Dec.{eqb, leb}
use lib.ListN.{length, take, drop, get_or, set, take-append-drop, length-drop, length-append, drop_of_length-le}
use lib.Seq.{take-suc, drop-cons, append_snoc, set_split, drop-set-lt, take-suc-set, drop-drop, length-take-le, take_at, drop_at, take_all}
use borrow.Author.Tests.{eq-eqb, ne_eqb, le-leb, lt-leb}
use borrow.Rule.Slice.PartMut.{put_mid}
use Rattle.words.specs.Store.{word_of}
use Rattle.chain.specs.Walk.{Walk}
use Rattle.scans.specs.Scans.{entries_in, raise, rising, pair_words, range_words, range_count, WalkRange, over, earlier, later, Settled, insert_pair, GroupWritten}
use Rattle.scans.specs.Rising.{Least, Rising, raise-raise, raise-rising, length-raise, length-rising, length_pairs}
use Rattle.scans.proofs.Turns.{Onward, walk-one, OnwardRange, range-one, none_in, more-in, more_of}

-- ---- one pair put in

-- what is left of the insertion, done, gives the whole
pub record Inserting (whole : List ℕ) (n key : ℕ) (list : List ℕ) (carry i : ℕ) : Type 0 where
  pub is : take (2 * i) list ++ insert_pair (n - i) key carry (drop (2 * i) list) ≡ whole

pub insert-start : (n key : ℕ) (list : List ℕ) (e : ℕ) → Inserting (insert_pair n key e list) n key list e 0
insert-start n key list e = record { is = ap (λ (k : ℕ). insert_pair k key e list) (let z : n - 0 ≡ n = omega arith in z) }

two-on : (list : List ℕ) (a : ℕ) → suc a < length list → drop a list ≡ get_or list a 0 ∷ get_or list (suc a) 0 ∷ drop (suc (suc a)) list
two-on list a h = drop-cons list a 0 (omega arith) ∙ ap (λ (l : List ℕ). get_or list a 0 ∷ l) (drop-cons list (suc a) 0 h)

pub insert-more : {whole : List ℕ} {n key : ℕ} {list : List ℕ} {carry i at x : ℕ} {list' : List ℕ} → Inserting whole n key list carry i → i < n
    → 2 * n + 2 ≤ length list → at ≡ 2 * i + 1 → Settled list at carry x list' → Inserting whole n key list' x (i + 1)
unfolding insert_pair
insert-more {whole} {n} {key} {list} {carry} {i} {at} {x} {list'} f h room e t =
    let a : ℕ = 2 * i in
    let w : ℕ = get_or list (suc a) 0 in
    let q : List ℕ = drop (suc (suc a)) list in
    let place : at ≡ suc a = omega arith in
    let twice : 2 * (i + 1) ≡ suc (suc a) = omega arith in
    let l : list' ≡ set list (suc a) (earlier carry w) = t.list ∙ ap (λ (k : ℕ). set list k (earlier carry (get_or list k 0))) place in
    let front : take (2 * (i + 1)) list' ≡ (take a list ++ (get_or list a 0 ∷ [])) ++ (earlier carry w ∷ []) =
    ap (λ (k : ℕ). take k list') twice ∙ ap (take (suc (suc a))) l ∙ take-suc-set list (suc a) (earlier carry w) (omega arith)
    ∙ ap (λ (p : List ℕ). p ++ (earlier carry w ∷ [])) (take-suc list a 0 (omega arith)) in
    let back : drop (2 * (i + 1)) list' ≡ q =
    ap (λ (k : ℕ). drop k list') twice ∙ ap (drop (suc (suc a))) l ∙ drop-set-lt (suc (suc a)) list (suc a) (earlier carry w) (omega arith) in
    let rest : List ℕ = insert_pair (n - (i + 1)) key (later carry w) q in
    let goes : x ≡ later carry w = t.answer ∙ ap (λ (k : ℕ). later carry (get_or list k 0)) place in
    let one : n - i ≡ suc (n - (i + 1)) = omega arith in
    let step : insert_pair (n - i) key carry (drop a list) ≡ get_or list a 0 ∷ earlier carry w ∷ rest =
    ap (λ (k : ℕ). insert_pair k key carry (drop a list)) one ∙ ap (insert_pair (suc (n - (i + 1))) key carry) (two-on list a (omega arith)) in
    record {
      is =
          ap (λ (p : List ℕ). p ++ insert_pair (n - (i + 1)) key x (drop (2 * (i + 1)) list')) front
          ∙ ap (λ (k : ℕ). ((take a list ++ (get_or list a 0 ∷ [])) ++ (earlier carry w ∷ [])) ++ insert_pair (n - (i + 1)) key k (drop (2 * (i + 1)) list')) goes
          ∙ ap (λ (p : List ℕ). ((take a list ++ (get_or list a 0 ∷ [])) ++ (earlier carry w ∷ [])) ++ insert_pair (n - (i + 1)) key (later carry w) p) back
          ∙ append_snoc (take a list ++ (get_or list a 0 ∷ [])) (earlier carry w) rest
          ∙ append_snoc (take a list) (get_or list a 0) (earlier carry w ∷ rest)
          ∙ ap (λ (p : List ℕ). take a list ++ p) (sym step)
          ∙ f.is;
    }

pub insert-end : {whole : List ℕ} {n key : ℕ} {list : List ℕ} {carry i : ℕ} → Inserting whole n key list carry i → i ≡ n → 2 * n + 2 ≤ length list
    → set (set list (2 * n) key) (2 * n + 1) carry ≡ whole
unfolding insert_pair
insert-end {whole} {n} {key} {list} {carry} {i} f e room =
    let a : ℕ = 2 * n in
    let z : n - i ≡ 0 = omega arith in
    let s : set (set list a key) (a + 1) carry ≡ set (set list a key) (suc a) carry = ap (λ (k : ℕ). set (set list a key) k carry) (let y : a + 1 ≡ suc a = omega arith in y) in
    let inside : suc a < length (set list a key) = let y = lib.ListN.length-set list a key in omega arith in
    let done : take (2 * i) list ++ insert_pair (n - i) key carry (drop (2 * i) list) ≡ take a list ++ (key ∷ carry ∷ drop (suc (suc a)) list) =
    ap (λ (k : ℕ). take (2 * i) list ++ insert_pair k key carry (drop (2 * i) list)) z
    ∙ ap (λ (k : ℕ). take (2 * k) list ++ (key ∷ carry ∷ drop 2 (drop (2 * k) list))) e
    ∙ ap (λ (p : List ℕ). take a list ++ (key ∷ carry ∷ p)) (drop-drop 2 a list ∙ ap (λ (k : ℕ). drop k list) (let y : a + 2 ≡ suc (suc a) = omega arith in y)) in
    s ∙ set_split (set list a key) (suc a) carry inside
    ∙ ap (λ (p : List ℕ). p ++ (carry ∷ drop (suc (suc a)) (set list a key))) (take-suc-set list a key (omega arith))
    ∙ ap (λ (p : List ℕ). (take a list ++ (key ∷ [])) ++ (carry ∷ p)) (drop-set-lt (suc (suc a)) list a key (omega arith))
    ∙ append_snoc (take a list) key (carry ∷ drop (suc (suc a)) list)
    ∙ sym done ∙ f.is

-- ---- the order

-- entry e passed along the list, the earlier one staying at each place
unfoldable pass : ℕ → List ℕ → List ℕ
pass e [] = e ∷ []
pass e (x ∷ l) = earlier e x ∷ pass (later e x) l

insert-pass : (k e : ℕ) (l rest : List ℕ) → insert_pair (length l) k e (pair_words k l ++ rest) ≡ pair_words k (pass e l) ++ drop 2 rest
unfolding insert_pair pair_words pass
insert-pass k e [] rest = refl
insert-pass k e (x ∷ l) rest = ap (λ (p : List ℕ). k ∷ earlier e x ∷ p) (insert-pass k (later e x) l rest)

pass-least : (x : ℕ) (l : List ℕ) → Least x l → pass x l ≡ x ∷ l
unfolding pass Least earlier later
pass-least x [] h = refl
pass-least x (y ∷ l) (h, k) = simp (le-leb x y h) (ap (λ (p : List ℕ). x ∷ p) (pass-least y l k))

pass-raise : (e : ℕ) (l : List ℕ) → Rising l → pass e l ≡ raise e l
unfolding pass raise Least Rising earlier later
pass-raise e [] r = refl
pass-raise e (x ∷ l) r = go (leb e x) (pass-least x l r) (pass-raise e l (less l r))
  where
    less : (p : List ℕ) → Least x p → Rising p
    less [] h = tt
    less (y ∷ p) (h, k) = k

    go : (b : Bool) → pass x l ≡ x ∷ l → pass e l ≡ raise e l
        → ◌≡◌ {A = List ℕ} (cond b e x ∷ pass (cond b x e) l) (cond b (e ∷ x ∷ l) (x ∷ raise e l))
    go true p q = ap (λ (w : List ℕ). e ∷ w) p
    go false p q = ap (λ (w : List ℕ). x ∷ w) q

-- entries put in one after the other, in the order of the chain
unfoldable rising_on : List ℕ → List ℕ → List ℕ
rising_on done [] = done
rising_on done (e ∷ l) = rising_on (raise e done) l

on-raise : (e : ℕ) (done l : List ℕ) → rising_on (raise e done) l ≡ raise e (rising_on done l)
unfolding rising_on
on-raise e done [] = refl
on-raise e done (f ∷ l) = ap (λ (p : List ℕ). rising_on p l) (raise-raise f e done) ∙ on-raise e (raise f done) l

on-rising : (l : List ℕ) → rising_on [] l ≡ rising l
unfolding rising_on rising
on-rising [] = refl
on-rising (e ∷ l) = on-raise e [] l ∙ ap (raise e) (on-rising l)

-- ---- one group

-- the entries of the members from record i on put among n pairs
unfoldable pub group_on : List ℕ → ℕ → ℕ → ℕ → ℕ → ℕ → List ℕ → List ℕ
group_on s m k zero i n l = l
group_on s m k (suc f) i n l = cond (eqb i 0) l (group_on s m k f (word_of s m i 0) (n + 1) (insert_pair n k (word_of s m i 2) l))

group-is : (s : List ℕ) (m k f i : ℕ) (es : List ℕ) → Rising es → (rest : List ℕ)
    → group_on s m k f i (length es) (pair_words k es ++ rest) ≡ pair_words k (rising_on es (entries_in s m f i)) ++ drop (2 * length (entries_in s m f i)) rest
unfolding group_on entries_in rising_on
group-is s m k zero i es r rest = refl
group-is s m k (suc f) i es r rest = go (eqb i 0) (group-is s m k f j (raise e es) (raise-rising e es r) (drop 2 rest))
  where
    j : ℕ
    j = word_of s m i 0

    e : ℕ
    e = word_of s m i 2

    l : List ℕ
    l = entries_in s m f j

    put : insert_pair (length es) k e (pair_words k es ++ rest) ≡ pair_words k (raise e es) ++ drop 2 rest
    put = insert-pass k e es rest ∙ ap (λ (p : List ℕ). pair_words k p ++ drop 2 rest) (pass-raise e es r)

    one : length es + 1 ≡ length (raise e es)
    one = let h = length-raise e es in omega arith

    go : (b : Bool)
        → group_on s m k f j (length (raise e es)) (pair_words k (raise e es) ++ drop 2 rest) ≡ pair_words k (rising_on (raise e es) l) ++ drop (2 * length l) (drop 2 rest)
        → cond b (pair_words k es ++ rest) (group_on s m k f j (length es + 1) (insert_pair (length es) k e (pair_words k es ++ rest)))
        ≡ pair_words k (rising_on es (cond b [] (e ∷ l))) ++ drop (2 * length (cond b [] (e ∷ l))) rest
    go true on = refl
    go false on =
        ap (group_on s m k f j (length es + 1)) put
        ∙ ap (λ (n : ℕ). group_on s m k f j n (pair_words k (raise e es) ++ drop 2 rest)) one
        ∙ on
        ∙ ap (λ (p : List ℕ). pair_words k (rising_on (raise e es) l) ++ p)
        (drop-drop (2 * length l) 2 rest ∙ ap (λ (n : ℕ). drop n rest) (let y : 2 + 2 * length l ≡ 2 * suc (length l) = omega arith in y))

pub group-whole : (s : List ℕ) (m k f i : ℕ) (l : List ℕ) → group_on s m k f i 0 l ≡ over (pair_words k (rising (entries_in s m f i))) l
unfolding over pair_words Rising
group-whole s m k f i l =
    let es : List ℕ = entries_in s m f i in
    let n : 2 * length es ≡ length (pair_words k (rising es)) = let a = length_pairs k (rising es) in let b = length-rising es in omega arith in
    group-is s m k f i [] tt l ∙ ap (λ (p : List ℕ). pair_words k p ++ drop (2 * length es) l) (on-rising es)
    ∙ ap (λ (x : ℕ). pair_words k (rising es) ++ drop x l) n

-- what is left of the group, done, gives the whole
pub record Grouping (whole : List ℕ) (count : ℕ) (s : List ℕ) (m k : ℕ) (list : List ℕ) (at more n : ℕ) : Type 0 where
  pub walk : Walk s m more at
  pub is : group_on s m k more at n list ≡ whole
  pub sum : n + length (entries_in s m more at) ≡ count

pub group-start : (s : List ℕ) (m k r i : ℕ) (l : List ℕ) → Walk s m r i
    → Grouping (over (pair_words k (rising (entries_in s m r i))) l) (length (entries_in s m r i)) s m k l i r 0
group-start s m k r i l w = record { walk = w; is = group-whole s m k r i l; sum = omega arith }

module _ {whole : List ℕ} {count : ℕ} {s : List ℕ} {m k : ℕ} {list : List ℕ} {at more n : ℕ} (f : Grouping whole count s m k list at more n) where
  pub group-end : at ≡ 0 → list ≡ whole
  unfolding group_on
  group-end z = sym (at-end more) ∙ f.is
    where
      at-end : (j : ℕ) → group_on s m k j at n list ≡ list
      at-end zero = refl
      at-end (suc j) = simp (eq-eqb at 0 z)

  pub group-count : at ≡ 0 → n ≡ count
  group-count z = let e = f.sum in let w : length (entries_in s m more at) ≡ 0 = ap length (none_in s m more at z) in omega arith

  module _ (ne : at ≡ 0 → ⊥) where
    group-on : Onward s m more at
    group-on = walk-one more f.walk ne

    group-sum : n + 1 + length (entries_in s m (more - 1) (word_of s m at 0)) ≡ count
    group-sum =
        let w : length (entries_in s m more at) ≡ suc (length (entries_in s m (more - 1) (word_of s m at 0))) = ap length (more-in s m ne group-on.some) in
        let e = f.sum in
        omega arith

    pub group-fits : n + 1 ≤ count
    group-fits = let e = group-sum in omega arith

    pub group-more : {e next : ℕ} {list' : List ℕ} → e ≡ word_of s m at 2 → list' ≡ insert_pair n k e list → next ≡ word_of s m at 0
        → Grouping whole count s m k list' next (more - 1) (n + 1)
    unfolding group_on
    group-more {e} {next} {list'} named put q =
        let some : more ≡ suc (more - 1) = let h = group-on.some in omega arith in
        let v : length (entries_in s m (more - 1) next) ≡ length (entries_in s m (more - 1) (word_of s m at 0)) = ap (λ (j : ℕ). length (entries_in s m (more - 1) j)) q in
        let z = group-sum in
        record {
          walk = subst (λ (j : ℕ). Walk s m (more - 1) j) (sym q) group-on.walk;
          is =
              ap (λ (j : ℕ). group_on s m k (more - 1) j (n + 1) list') q
              ∙ ap (group_on s m k (more - 1) (word_of s m at 0) (n + 1)) (put ∙ ap (λ (j : ℕ). insert_pair n k j list) named)
              ∙ (simp (ne_eqb at 0 ne) at (ap (λ (j : ℕ). group_on s m k j at n list) (sym some)))
              ∙ f.is;
          sum = omega arith;
        }

-- ---- the range

none-words : (s : List ℕ) (m r n i hi : ℕ) → i ≡ 0 → range_words s m r n i hi ≡ []
unfolding range_words
none-words s m r zero i hi z = refl
none-words s m r (suc n) i hi z = simp (eq-eqb i 0 z)

past_words : (s : List ℕ) (m r n i hi : ℕ) → hi < word_of s m i 1 → range_words s m r n i hi ≡ []
unfolding range_words
past_words s m r zero i hi h = refl
past_words s m r (suc n) i hi h = go (eqb i 0)
  where
    rest : List ℕ
    rest = range_words s m r n (word_of s m i 0) hi

    go : (b : Bool) → ◌≡◌ {A = List ℕ} (cond b [] (cond (leb (word_of s m i 1) hi) (pair_words (word_of s m i 1) (rising (entries_in s m r (word_of s m i 6))) ++ rest) [])) []
    go true = refl
    go false = simp (lt-leb (word_of s m i 1) hi h)

more-words : (s : List ℕ) (m r : ℕ) {n i hi : ℕ} → (i ≡ 0 → ⊥) → 1 ≤ n → word_of s m i 1 ≤ hi
    → range_words s m r n i hi ≡ pair_words (word_of s m i 1) (rising (entries_in s m r (word_of s m i 6))) ++ range_words s m r (n - 1) (word_of s m i 0) hi
unfolding range_words
more-words s m r {n} {i} {hi} ne h k =
    sym (simp (ne_eqb i 0 ne, le-leb (word_of s m i 1) hi k) at (ap (λ (j : ℕ). range_words s m r j i hi) (let e : suc (n - 1) ≡ n = omega arith in e)))

-- the words of a part that reaches to the end of the list, written over its start: the list as two, the second not yet written
module _ (list : List ℕ) (at : ℕ) (w : List ℕ) (fits : at + length w ≤ length list) where
  pub start : List ℕ
  start = take at list ++ w

  pub lent-over : {p : List ℕ} → p ≡ over w (take (length list - at) (drop at list)) → put_mid at (length list - at) list p ≡ start ++ drop (length w) (drop at list)
  unfolding over start
  lent-over {p} e =
      let n : length (drop at list) ≡ length list - at = length-drop at list in
      let whole : take (length list - at) (drop at list) ≡ drop at list = take_all (length list - at) (drop at list) (omega arith) in
      let none : drop (length list - at) (drop at list) ≡ [] = drop_of_length-le (drop at list) {i = length list - at} (omega arith) in
      ap (λ (q : List ℕ). take at list ++ (p ++ q)) none
      ∙ ap (λ (q : List ℕ). take at list ++ q) (append-nil p ∙ e ∙ ap (over w) whole)
      ∙ sym (append_assoc (take at list) w (drop (length w) (drop at list)))

  start-length : length start ≡ at + length w
  unfolding start
  start-length = let a = length-append (take at list) w in let b = length-take-le at list (omega arith) in omega arith

  pub over-length : length (start ++ drop (length w) (drop at list)) ≡ length list
  over-length =
      let a = length-append start (drop (length w) (drop at list)) in
      let b = start-length in
      let d = length-drop (length w) (drop at list) in
      let e = length-drop at list in
      omega arith

  -- what is written behind it
  pub over-on : (k : ℕ) → k ≡ at + length w → (rest : List ℕ)
      → take k (start ++ drop (length w) (drop at list)) ++ over rest (drop k (start ++ drop (length w) (drop at list))) ≡ take at list ++ over (w ++ rest) (drop at list)
  unfolding over start
  over-on k e rest =
      let q : List ℕ = drop (length w) (drop at list) in
      let n : length start ≡ k = start-length ∙ sym e in
      ap (λ (p : List ℕ). p ++ over rest (drop k (start ++ q))) (take_at start q k n)
      ∙ ap (λ (p : List ℕ). start ++ over rest p) (drop_at start q k n)
      ∙ ap (λ (p : List ℕ). start ++ (rest ++ p)) (drop-drop (length rest) (length w) (drop at list) ∙ ap (λ (j : ℕ). drop j (drop at list)) (sym (length-append w rest)))
      ∙ append_assoc (take at list) w (rest ++ drop (length (w ++ rest)) (drop at list))
      ∙ ap (λ (p : List ℕ). take at list ++ p) (sym (append_assoc w rest (drop (length (w ++ rest)) (drop at list))))

-- what is left of the range, done, gives the whole
pub record Writing (whole s : List ℕ) (m r hi : ℕ) (list : List ℕ) (d more at : ℕ) : Type 0 where
  pub walk : WalkRange s m r more d
  pub room : at + 2 * range_count s m r more d hi ≤ length list
  pub is : take at list ++ over (range_words s m r more d hi) (drop at list) ≡ whole

pub write-start : (s : List ℕ) (m r hi : ℕ) (list : List ℕ) (i : ℕ) → WalkRange s m r r i → 2 * range_count s m r r i hi ≤ length list
    → Writing (range_words s m r r i hi ++ drop (length (range_words s m r r i hi)) list) s m r hi list i r 0
unfolding over
write-start s m r hi list i w h = record { walk = w; room = omega arith; is = refl }

module _ {whole s : List ℕ} {m r hi : ℕ} {list : List ℕ} {d more at : ℕ} (f : Writing whole s m r hi list d more at) where
  all-written : range_words s m r more d hi ≡ [] → list ≡ whole
  unfolding over
  all-written e = sym (take-append-drop at list) ∙ ap (λ (w : List ℕ). take at list ++ over w (drop at list)) (sym e) ∙ f.is

  pub write-end : d ≡ 0 → list ≡ whole
  write-end z = all-written (none-words s m r more d hi z)

  pub write-stop : {key : ℕ} → key ≡ word_of s m d 1 → hi < key → list ≡ whole
  write-stop {key} e h = all-written (past_words s m r more d hi (subst (λ (x : ℕ). hi < x) e h))

  module _ (ne : d ≡ 0 → ⊥) {key first : ℕ} (named : key ≡ word_of s m d 1) (h : key ≤ hi) (to : first ≡ word_of s m d 6) where
    write-on : OnwardRange s m r more d
    write-on = range-one more f.walk ne

    below : word_of s m d 1 ≤ hi
    below = subst (λ (x : ℕ). x ≤ hi) named h

    write-sum : at + 2 * length (entries_in s m r first) + 2 * range_count s m r (more - 1) (word_of s m d 0) hi ≤ length list
    write-sum =
        let w = more_of s m r {hi = hi} ne write-on.some below in
        let e : length (entries_in s m r first) ≡ length (entries_in s m r (word_of s m d 6)) = ap (λ (j : ℕ). length (entries_in s m r j)) to in
        let z = f.room in
        omega arith

    pub write_fits : at + 2 * length (entries_in s m r first) ≤ length list
    write_fits = let z = write-sum in omega arith

    pub write-room : 2 * length (entries_in s m r first) ≤ length (take (length list - at) (drop at list))
    write-room =
        let z = write_fits in
        let a = length-drop at list in
        let b = length-take-le (length list - at) (drop at list) (omega arith) in
        omega arith

    pub write-more : {p : List ℕ} {n next : ℕ} → GroupWritten s m r first key (take (length list - at) (drop at list)) n p → next ≡ word_of s m d 0
        → Writing whole s m r hi (put_mid at (length list - at) list p) next (more - 1) (at + 2 * n)
    write-more {p} {n} {next} g q =
        let w : List ℕ = pair_words key (rising (entries_in s m r first)) in
        let lw : length w ≡ 2 * n = let a = length_pairs key (rising (entries_in s m r first)) in let b = length-rising (entries_in s m r first) in let e = g.count in omega arith in
        let fits : at + length w ≤ length list = let z = write_fits in let e = g.count in omega arith in
        let list' : List ℕ = put_mid at (length list - at) list p in
        let rest : List ℕ = range_words s m r (more - 1) (word_of s m d 0) hi in
        let e : list' ≡ start list at w fits ++ drop (length w) (drop at list) = lent-over list at w fits g.words in
        let n' : length list' ≡ length list = ap length e ∙ over-length list at w fits in
        let c : range_count s m r (more - 1) next hi ≡ range_count s m r (more - 1) (word_of s m d 0) hi = ap (λ (j : ℕ). range_count s m r (more - 1) j hi) q in
        let whole_words : range_words s m r more d hi ≡ w ++ rest =
        more-words s m r ne write-on.some below
        ∙ ap (λ (k : ℕ). pair_words k (rising (entries_in s m r (word_of s m d 6))) ++ rest) (sym named)
        ∙ ap (λ (j : ℕ). pair_words key (rising (entries_in s m r j)) ++ rest) (sym to) in
        record {
          walk = subst (λ (j : ℕ). WalkRange s m r (more - 1) j) (sym q) write-on.walk;
          room = let z = write-sum in let y = g.count in omega arith;
          is =
              ap (λ (l : List ℕ). take (at + 2 * n) l ++ over (range_words s m r (more - 1) next hi) (drop (at + 2 * n) l)) e
              ∙ over-on list at w fits (at + 2 * n) (omega arith) (range_words s m r (more - 1) next hi)
              ∙ ap (λ (j : ℕ). take at list ++ over (w ++ range_words s m r (more - 1) j hi) (drop at list)) q
              ∙ ap (λ (l : List ℕ). take at list ++ over l (drop at list)) (sym whole_words)
              ∙ f.is;
        }
