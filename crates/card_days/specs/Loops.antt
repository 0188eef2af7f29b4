-- What the loops keep: what is left of the words, done, gives the whole.
use Rattle.std.specs.Prelude.{◌≡◌, refl, Bool, true, false, cond, ◌&&◌, List, [], ◌∷◌, ◌++◌, ℕ, suc, ◌+◌, ◌*◌, ◌-◌, ◌/◌, ◌%◌, ◌≤◌, ◌<◌, eqb, leb, ltb, length, get_or, take, drop, set}
use Rattle.std.proofs.Math.Path.{sym, ap}
use Rattle.std.proofs.Common.{subst, ◌∙◌, append_assoc, arith, length-set, length-drop, drop_of_length-le, take-append-drop, drop-cons, drop-drop, take-suc-set, drop-set-lt, get_or-drop, eqb-true, ne_eqb, ltb-true, ltb-false}
use Rattle.std.proofs.lemmas.Bool.{eqb-false}
use Rattle.card_days.specs.declared.Stretch.{Stretch}
use Rattle.card_days.specs.declared.DayRequest.{DayRequest}
use Rattle.card_days.specs.declared.Surveyed.{Surveyed}
use Rattle.card_days.specs.declared.Walk.{Walk}
use Rattle.card_days.specs.Day.{words, word_of, minute, steady, proper, stretch, stretches_from, stretches, no_stretch, day_key, request_from, request_at, word_out, high_byte, low_byte, written_out, valued, of_day, all_of_day}

-- The word of 16 bits whose high byte stands at a place.
pub record WordAt (bs : List ℕ) (at r : ℕ) : Type 0 where
  pub is : r ≡ word_of (get_or bs at 0) (get_or bs (at + 1) 0)
  pub small : r < 65536

drop-two : (bs : List ℕ) (at : ℕ) → at + 2 ≤ length bs → drop at bs ≡ get_or bs at 0 ∷ get_or bs (at + 1) 0 ∷ drop (at + 2) bs
drop-two bs at h =
    drop-cons bs at 0 (omega arith)
    ∙ ap (λ l. get_or bs at 0 ∷ l) (ap (λ n. drop n bs) {x = suc at} {y = at + 1} (omega arith) ∙ drop-cons bs (at + 1) 0 (omega arith)
    ∙ ap (λ n. get_or bs (at + 1) 0 ∷ drop n bs) {x = suc (at + 1)} {y = at + 2} (omega arith))

pub words-next : (bs : List ℕ) (at w : ℕ) → at + 2 ≤ length bs → WordAt bs at w → words (drop at bs) ≡ w ∷ words (drop (at + 2) bs)
unfolding words
words-next bs at w h r = ap words (drop-two bs at h) ∙ ap (λ x. x ∷ words (drop (at + 2) bs)) (sym r.is)

words-short : (bs : List ℕ) → length bs < 2 → words bs ≡ []
unfolding words
words-short [] h = refl
words-short (x ∷ []) h = refl
words-short (x ∷ y ∷ bs) h = absurd (omega (arith, h))

pub words-end : (bs : List ℕ) (at : ℕ) → length bs - at < 2 → words (drop at bs) ≡ []
words-end bs at h = words-short (drop at bs) (omega (arith, length-drop at bs))

-- ---- one walk of the words

-- A day that is proper to the word w is so to the word v after it.
unfoldable pub still : Bool → ℕ → ℕ → Bool
still b w v = b && (leb (minute w) (minute v) && ltb (minute v) 1440)

-- The stretch of w ends: one more, and the one that is asked for if its number is k.
unfoldable pub ended : ℕ → Surveyed → ℕ → ℕ → Surveyed
ended k s w end = record { is_proper = s.is_proper; count = s.count + 1; stretch = cond (eqb s.count k) (stretch w end) s.stretch }

abbrev pub stands : Surveyed → Bool → Surveyed
stands s b = record { is_proper = b; count = s.count; stretch = s.stretch }

unfoldable pub started : ℕ → Walk
started w = record { word = w; told = record { is_proper = eqb (minute w) 0; count = 0; stretch = no_stretch } }

-- On to the word v: where the minutes are equal the later word counts.
abbrev pub passed_to : Bool → ℕ → Surveyed → ℕ → ℕ → Surveyed
passed_to b k s w v = cond b s (ended k s w (minute v))

unfoldable pub passed : ℕ → Walk → ℕ → Walk
passed k x v = record {
  word = v;
  told = passed_to (eqb (minute x.word) (minute v)) k (stands x.told (still x.told.is_proper x.word v)) x.word v;
}

-- The stretches counted so far and those ahead are all: stretch k was found, or stands ahead.
pub record Counted (k : ℕ) (s : Surveyed) (ahead all : List Stretch) : Type 0 where
  pub many : s.count + length ahead ≡ length all
  pub found : k < s.count → s.stretch ≡ get_or all k no_stretch
  pub later : s.count ≤ k → get_or ahead (k - s.count) no_stretch ≡ get_or all k no_stretch
  pub none : s.count ≤ k → s.stretch ≡ no_stretch

ended-counted : (k : ℕ) (s : Surveyed) (w end : ℕ) (ss all : List Stretch) → Counted k s (stretch w end ∷ ss) all → Counted k (ended k s w end) ss all
unfolding ended
ended-counted k s w end ss all c = record {
  many = omega (arith, c.many);
  found = λ h. found (eqb s.count k) refl h;
  later = λ h. ap (λ i. get_or (stretch w end ∷ ss) i no_stretch) {x = suc (k - (s.count + 1))} {y = k - s.count} (omega arith) ∙ c.later (omega arith);
  none = λ h. ap (λ b. cond b (stretch w end) s.stretch) (ne_eqb s.count k (λ e. omega arith)) ∙ c.none (omega arith);
}
  where
    found : (b : Bool) → eqb s.count k ≡ b → k < s.count + 1 → cond b (stretch w end) s.stretch ≡ get_or all k no_stretch
    found true e h =
        let n : s.count ≡ k = eqb-true s.count k e in
        ap (λ i. get_or (stretch w end ∷ ss) i no_stretch) {x = 0} {y = k - s.count} (omega arith) ∙ c.later (omega arith)
    found false e h = c.found (omega (arith, eqb-false s.count k e))

counted-all : (k : ℕ) (s : Surveyed) (all : List Stretch) → Counted k s [] all → (s.count ≡ length all) × (s.stretch ≡ get_or all k no_stretch)
counted-all k s all c = (omega (arith, c.many), go (ltb k s.count) refl)
  where
    go : (b : Bool) → ltb k s.count ≡ b → s.stretch ≡ get_or all k no_stretch
    go true e = c.found (ltb-true k s.count e)
    go false e = c.none (ltb-false k s.count e) ∙ c.later (ltb-false k s.count e)

-- The walk stands at a word of a day, with the words ws ahead.
pub record Surveying (k : ℕ) (x : Walk) (ws day : List ℕ) : Type 0 where
  pub properly : (x.told.is_proper && steady (minute x.word) ws) ≡ proper day
  pub counted : Counted k x.told (stretches_from x.word ws) (stretches day)

start : (k w : ℕ) (ws : List ℕ) → Surveying k (started w) ws (w ∷ ws)
unfolding started proper stretches
start k w ws = record {
  properly = go (eqb (minute w) 0) refl;
  counted = record {
    many = omega arith;
    found = λ h. absurd (omega arith);
    later = λ h. ap (λ i. get_or (stretches_from w ws) i no_stretch) {x = k - 0} {y = k} (omega arith);
    none = λ h. refl;
  };
}
  where
    go : (b : Bool) → eqb (minute w) 0 ≡ b → (b && steady (minute w) ws) ≡ (b && steady 0 ws)
    go true e = ap (λ m. steady m ws) (eqb-true (minute w) 0 e)
    go false e = refl

still-on : (a b c d : Bool) → ((a && (b && c)) && d) ≡ (a && (b && (c && d)))
still-on true true c d = refl
still-on true false c d = refl
still-on false b c d = refl

next-proper : (b : Bool) (w v : ℕ) (ws : List ℕ) → (still b w v && steady (minute v) ws) ≡ (b && steady (minute w) (v ∷ ws))
unfolding still steady
next-proper b w v ws = still-on b (leb (minute w) (minute v)) (ltb (minute v) 1440) (steady (minute v) ws)

next-kept : (b c : Bool) (k : ℕ) (s : Surveyed) (w v : ℕ) → (passed_to b k (stands s c) w v).is_proper ≡ c
unfolding ended
next-kept true c k s w v = refl
next-kept false c k s w v = refl

next-counted : (b c : Bool) (k : ℕ) (s : Surveyed) (w v : ℕ) (ss all : List Stretch) → Counted k s (cond b ss (stretch w (minute v) ∷ ss)) all
    → Counted k (passed_to b k (stands s c) w v) ss all
next-counted true c k s w v ss all z = record { many = z.many; found = z.found; later = z.later; none = z.none }
next-counted false c k s w v ss all z =
    ended-counted k (stands s c) w (minute v) ss all (record { many = z.many; found = z.found; later = z.later; none = z.none })

next : (k : ℕ) (x : Walk) (v : ℕ) (ws day : List ℕ) → Surveying k x (v ∷ ws) day → Surveying k (passed k x v) ws day
unfolding passed stretches_from
next k x v ws day z =
    let b = eqb (minute x.word) (minute v) in
    let c = still x.told.is_proper x.word v in
    record {
      properly = ap (λ a. a && steady (minute v) ws) (next-kept b c k x.told x.word v) ∙ next-proper x.told.is_proper x.word v ws ∙ z.properly;
      counted = next-counted b c k x.told x.word v (stretches_from v ws) (stretches day) z.counted;
    }

pub survey-short : (bs : List ℕ) (k : ℕ) (r : Stretch) → length bs < 2 → r ≡ no_stretch
    → (false ≡ proper (words bs)) × (0 ≡ length (stretches (words bs))) × (r ≡ get_or (stretches (words bs)) k no_stretch)
unfolding proper stretches
survey-short bs k r h e = rw (words-short bs h) (refl, refl, e)

-- The walk stands at the word before the byte `at`.
pub record Walking (bs : List ℕ) (k : ℕ) (x : Walk) (at : ℕ) : Type 0 where
  pub few : x.told.count + 2 ≤ at
  pub small : x.word < 65536
  pub is : Surveying k x (words (drop at bs)) (words bs)

pub survey-start : (bs : List ℕ) (k w : ℕ) (x : Walk) → 2 ≤ length bs → WordAt bs 0 w → x ≡ started w → Walking bs k x 2
unfolding started
survey-start bs k w x h r e =
    rw e
    (record {
      few = omega arith;
      small = r.small;
      is = subst (Surveying k (started w) (words (drop 2 bs))) (sym (words-next bs 0 w (omega arith) r)) (start k w (words (drop 2 bs)));
    })

-- One stretch more at a word, at the most.
passed-count : (k : ℕ) (x : Walk) (v : ℕ) → (passed k x v).told.count ≤ x.told.count + 1
unfolding passed ended
passed-count k x v = go (eqb (minute x.word) (minute v)) (stands x.told (still x.told.is_proper x.word v))
  where
    go : (b : Bool) (s : Surveyed) → (passed_to b k s x.word v).count ≤ s.count + 1
    go true s = omega arith
    go false s = omega arith

passed-word : (k : ℕ) (x : Walk) (v : ℕ) → (passed k x v).word ≡ v
unfolding passed
passed-word k x v = refl

pub survey-more : (bs : List ℕ) (k : ℕ) (x : Walk) (at v : ℕ) (y : Walk) → at + 2 ≤ length bs → WordAt bs at v → Walking bs k x at → y ≡ passed k x v → Walking bs k y (at + 2)
survey-more bs k x at v y h r z e =
    rw e
    (record {
      few = omega (arith, passed-count k x v, z.few);
      small = omega (arith, passed-word k x v, r.small);
      is = next k x v (words (drop (at + 2) bs)) (words bs) (subst (λ ws. Surveying k x ws (words bs)) (words-next bs at v h r) z.is);
    })

and-true : (b : Bool) → b ≡ (b && true)
and-true true = refl
and-true false = refl

ended-all : (k : ℕ) (x : Walk) (day : List ℕ) → Surveying k x [] day
    → ((ended k x.told x.word 1440).is_proper ≡ proper day) × ((ended k x.told x.word 1440).count ≡ length (stretches day))
    × ((ended k x.told x.word 1440).stretch ≡ get_or (stretches day) k no_stretch)
unfolding ended steady stretches_from
ended-all k x day z =
    let c = counted-all k (ended k x.told x.word 1440) (stretches day) (ended-counted k x.told x.word 1440 [] (stretches day) z.counted) in
    (and-true x.told.is_proper ∙ z.properly, c.0, c.1)

pub survey-end : (bs : List ℕ) (k : ℕ) (x : Walk) (at : ℕ) (r : Surveyed) → length bs - at < 2 → Walking bs k x at → r ≡ ended k x.told x.word 1440
    → (r.is_proper ≡ proper (words bs)) × (r.count ≡ length (stretches (words bs))) × (r.stretch ≡ get_or (stretches (words bs)) k no_stretch)
survey-end bs k x at r h z e = rw e (ended-all k x (words bs) (subst (λ ws. Surveying k x ws (words bs)) (words-end bs at h) z.is))

-- ---- a request of a stretch

-- Request j of the stretch. A write's value is one word.
pub record RequestFrom (st : Stretch) (driver start entry j : ℕ) (r : DayRequest) : Type 0 where
  pub is : r ≡ request_from st (day_key driver start) entry j
  pub fits : r.code ≡ 2 → r.first < 4294967296

-- Request j of the day.
pub record RequestOf (bs : List ℕ) (driver start entry j : ℕ) (r : DayRequest) : Type 0 where
  pub is : r ≡ request_at bs driver start entry j
  pub fits : r.code ≡ 2 → r.first < 4294967296

pub request_of : (bs : List ℕ) (st : Stretch) (driver start entry j : ℕ) (r : DayRequest) → st ≡ get_or (stretches (words bs)) (j / 2) no_stretch
    → RequestFrom st driver start entry j r → RequestOf bs driver start entry j r
unfolding request_at
request_of bs st driver start entry j r e z = record { is = z.is ∙ ap (λ x. request_from x (day_key driver start) entry j) e; fits = z.fits }

-- ---- keys and values of a day

valued-next : (pairs values : List ℕ) (i : ℕ) → i < length values
    → valued (drop (2 * i) pairs) (drop i values) ≡ (get_or pairs (2 * i) 0, get_or values i 0) ∷ valued (drop (2 * (i + 1)) pairs) (drop (i + 1) values)
unfolding valued
valued-next pairs values i l =
    ap (valued (drop (2 * i) pairs)) (drop-cons values i 0 l)
    ∙ ap (λ k. (k, get_or values i 0) ∷ valued (drop 2 (drop (2 * i) pairs)) (drop (suc i) values)) (get_or-drop (2 * i) pairs 0 0 ∙ ap (λ n. get_or pairs n 0) {x = 2 * i + 0} {y = 2 * i} (omega arith))
    ∙ ap (λ p. (get_or pairs (2 * i) 0, get_or values i 0) ∷ valued p (drop (suc i) values)) (drop-drop 2 (2 * i) pairs ∙ ap (λ n. drop n pairs) {x = 2 * i + 2} {y = 2 * (i + 1)} (omega arith))
    ∙ ap (λ n. (get_or pairs (2 * i) 0, get_or values i 0) ∷ valued (drop (2 * (i + 1)) pairs) (drop n values)) {x = suc i} {y = i + 1} (omega arith)

-- Whether all are of the day is told by those that are left.
pub record Checking (k0 : ℕ) (pairs values : List ℕ) (i : ℕ) : Type 0 where
  pub is : all_of_day k0 (valued (drop (2 * i) pairs) (drop i values)) ≡ all_of_day k0 (valued pairs values)

module _ (k0 : ℕ) (pairs values : List ℕ) (i : ℕ) (c : Checking k0 pairs values i) where
  check-next : i < length values
      → (of_day k0 (get_or pairs (2 * i) 0) (get_or values i 0) && all_of_day k0 (valued (drop (2 * (i + 1)) pairs) (drop (i + 1) values))) ≡ all_of_day k0 (valued pairs values)
  unfolding all_of_day
  check-next l = sym (ap (all_of_day k0) (valued-next pairs values i l)) ∙ c.is

  pub check-no : i < length values → false ≡ of_day k0 (get_or pairs (2 * i) 0) (get_or values i 0) → false ≡ all_of_day k0 (valued pairs values)
  check-no l e = ap (λ b. b && all_of_day k0 (valued (drop (2 * (i + 1)) pairs) (drop (i + 1) values))) e ∙ check-next l

  pub check-more : i < length values → true ≡ of_day k0 (get_or pairs (2 * i) 0) (get_or values i 0) → Checking k0 pairs values (i + 1)
  check-more l e = record { is = ap (λ b. b && all_of_day k0 (valued (drop (2 * (i + 1)) pairs) (drop (i + 1) values))) e ∙ check-next l }

  pub check-end : i ≡ length values → true ≡ all_of_day k0 (valued pairs values)
  unfolding all_of_day valued
  check-end e = ap (λ l. all_of_day k0 (valued (drop (2 * i) pairs) l)) (sym (drop_of_length-le values {i = i} (omega arith))) ∙ c.is

-- ---- written out

pub record Writing (k0 : ℕ) (pairs values out₀ out : List ℕ) (i : ℕ) : Type 0 where
  pub done : take (2 * i) out ++ (written_out k0 (valued (drop (2 * i) pairs) (drop i values)) ++ drop (2 * length values) out₀)
      ≡ written_out k0 (valued pairs values) ++ drop (2 * length values) out₀
  pub rest : drop (2 * i) out ≡ drop (2 * i) out₀

pub write-start : (k0 : ℕ) (pairs values out : List ℕ) → Writing k0 pairs values out out 0
write-start k0 pairs values out = record { done = refl; rest = refl }

pub write-end : (k0 : ℕ) (pairs values out₀ out : List ℕ) (i : ℕ) → i ≡ length values → Writing k0 pairs values out₀ out i
    → out ≡ written_out k0 (valued pairs values) ++ drop (2 * length values) out₀
unfolding written_out valued
write-end k0 pairs values out₀ out i e w =
    sym (take-append-drop (2 * i) out) ∙ ap (λ l. take (2 * i) out ++ l) (w.rest ∙ ap (λ j. drop (2 * j) out₀) e)
    ∙ ap (λ l. take (2 * i) out ++ (written_out k0 (valued (drop (2 * i) pairs) l) ++ drop (2 * length values) out₀)) (sym (drop_of_length-le values {i = i} (omega arith)))
    ∙ w.done

module _ (k0 : ℕ) (pairs values out₀ out : List ℕ) (i : ℕ) (l : i < length values) (room : 2 * length values ≤ length out) where
  abbrev x : ℕ
  x = word_out k0 (get_or pairs (2 * i) 0) (get_or values i 0)

  abbrev out' : List ℕ
  out' = set (set out (2 * i) (high_byte x)) (2 * i + 1) (low_byte x)

  written_next : written_out k0 (valued (drop (2 * i) pairs) (drop i values))
      ≡ high_byte x ∷ low_byte x ∷ written_out k0 (valued (drop (2 * (i + 1)) pairs) (drop (i + 1) values))
  unfolding written_out
  written_next = ap (written_out k0) (valued-next pairs values i l)

  taken : take (2 * (i + 1)) out' ≡ take (2 * i) out ++ (high_byte x ∷ low_byte x ∷ [])
  taken =
      ap (λ n. take n out') {x = 2 * (i + 1)} {y = suc (2 * i + 1)} (omega arith)
      ∙ take-suc-set (set out (2 * i) (high_byte x)) (2 * i + 1) (low_byte x) (simp length-set (omega arith))
      ∙ ap (λ t. t ++ (low_byte x ∷ [])) (ap (λ n. take n (set out (2 * i) (high_byte x))) {x = 2 * i + 1} {y = suc (2 * i)} (omega arith) ∙ take-suc-set out (2 * i) (high_byte x) (omega arith))
      ∙ append_assoc (take (2 * i) out) (high_byte x ∷ []) (low_byte x ∷ [])

  dropped : drop (2 * (i + 1)) out' ≡ drop (2 * (i + 1)) out
  dropped = drop-set-lt (2 * (i + 1)) (set out (2 * i) (high_byte x)) (2 * i + 1) (low_byte x) (omega arith) ∙ drop-set-lt (2 * (i + 1)) out (2 * i) (high_byte x) (omega arith)

  two-more : (a : List ℕ) → drop (2 * i) out ≡ drop (2 * i) a → drop (2 * (i + 1)) out ≡ drop (2 * (i + 1)) a
  two-more a e =
      ap (λ n. drop n out) {x = 2 * (i + 1)} {y = 2 * i + 2} (omega arith) ∙ sym (drop-drop 2 (2 * i) out) ∙ ap (drop 2) e ∙ drop-drop 2 (2 * i) a
      ∙ ap (λ n. drop n a) {x = 2 * i + 2} {y = 2 * (i + 1)} (omega arith)

  pub write-more : Writing k0 pairs values out₀ out i → Writing k0 pairs values out₀ out' (i + 1)
  write-more w = record {
    done = ap (λ t. t ++ (written_out k0 (valued (drop (2 * (i + 1)) pairs) (drop (i + 1) values)) ++ drop (2 * length values) out₀)) taken
        ∙ append_assoc (take (2 * i) out) (high_byte x ∷ low_byte x ∷ []) (written_out k0 (valued (drop (2 * (i + 1)) pairs) (drop (i + 1) values)) ++ drop (2 * length values) out₀)
        ∙ ap (λ z. take (2 * i) out ++ (z ++ drop (2 * length values) out₀)) (sym written_next) ∙ w.done;
    rest = dropped ∙ two-more out₀ w.rest;
  }

  pub write_step : (w h b : ℕ) → w ≡ word_out k0 (get_or pairs (2 * i) 0) (get_or values i 0) → h ≡ w / 256 % 256 → b ≡ w % 256 → Writing k0 pairs values out₀ out i
      → Writing k0 pairs values out₀ (set (set out (2 * i) h) (2 * i + 1) b) (i + 1)
  write_step w h b p q r z =
      subst (λ y. Writing k0 pairs values out₀ (set (set out (2 * i) y) (2 * i + 1) b) (i + 1)) (sym (q ∙ ap high_byte p))
      (subst (λ y. Writing k0 pairs values out₀ (set (set out (2 * i) (high_byte x)) (2 * i + 1) y) (i + 1)) (sym (r ∙ ap low_byte p)) (write-more z))
