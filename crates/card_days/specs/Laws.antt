-- Laws of the definitions: the round trip byte for byte, lengths that sum to 1,440, keys that rise, how many stretches there are, no request twice, and
-- that a stored day is writable.
use Rattle.std.specs.Prelude.{◌≡◌, refl, Bool, true, false, cond, ◌&&◌, List, [], ◌∷◌, ℕ, zero, suc, ◌+◌, ◌*◌, ◌-◌, ◌/◌, ◌%◌, ◌≤◌, ◌<◌, eqb, leb, ltb, length, get_or, drop}
use Rattle.std.proofs.Common.{sym, ap, subst, ◌∙◌, arith, mod-lt, div-add-mod', eqb-true, leb-true, ltb-true, ne_eqb, eq-eqb, le-leb, lt-ltb}
use Rattle.std.proofs.Math.Arith.{digits_div, digits_mod}
use Rattle.std.proofs.lemmas.Bool.{eqb-false}
use Rattle.card_days.specs.declared.Stretch.{Stretch}
use Rattle.card_days.specs.declared.DayRequest.{DayRequest}
use Rattle.card_days.specs.Day.{words, word_of, minute, flags, steady, proper, stretch, stretches_from, stretches, no_stretch, day_key, write_of, insert_of, requests_of, day_requests, request_from, request_at, written_out, stored, valued, of_day, all_of_day, writable, word_out, high_byte, low_byte}

pub true≢false : true ≡ false → ⊥
true≢false e = subst code e tt
  where
    code : Bool → Type 0
    code true = Unit {0}
    code false = ⊥

-- ---- days without repeats

-- Minutes rise from above lo, below 1,440.
abbrev pub Rises : ℕ → List ℕ → Type 0
Rises lo [] = Unit {0}
Rises lo (w ∷ ws) = (lo < minute w) × (minute w < 1440) × Rises (minute w) ws

-- The bytes of words.
unfoldable pub bytes_of : List ℕ → List ℕ
bytes_of [] = []
bytes_of (w ∷ ws) = high_byte w ∷ low_byte w ∷ bytes_of ws

-- The word comes back from its minute as a key and the value.
word_back : (k0 w end : ℕ) → minute w < 1440 → end ≤ 1440 → word_out k0 (k0 + minute w) (flags w * 2048 + (end - minute w)) ≡ w
word_back k0 w end m e =
    let d : (flags w * 2048 + (end - minute w)) / 2048 ≡ flags w = digits_div (flags w) (omega arith) in
    ap (λ q. q * 2048 + (k0 + minute w - k0)) d ∙ omega (arith, div-add-mod' w 2048)

round-from : (k0 w : ℕ) (ws : List ℕ) → minute w < 1440 → Rises (minute w) ws → written_out k0 (stored k0 (stretches_from w ws)) ≡ bytes_of (w ∷ ws)
unfolding written_out stored stretches_from bytes_of
round-from k0 w [] m r = ap (λ x. high_byte x ∷ low_byte x ∷ []) (word_back k0 w 1440 m (omega arith))
round-from k0 w (v ∷ ws) m r =
    rw (ne_eqb (minute w) (minute v) (λ e. omega (arith, e, r.0)))
    (ap (λ x. high_byte x ∷ low_byte x ∷ written_out k0 (stored k0 (stretches_from v ws))) (word_back k0 w (minute v) m (omega (arith, r.1)))
    ∙ ap (λ l. high_byte w ∷ low_byte w ∷ l) (round-from k0 v ws r.1 r.2))

-- ---- bytes and words

abbrev pub Bytes : List ℕ → Type 0
Bytes [] = Unit {0}
Bytes (b ∷ bs) = (b < 256) × Bytes bs

-- The bytes of the words of an even number of bytes.
pub bytes-words : (bs : List ℕ) → Bytes bs → length bs % 2 ≡ 0 → bytes_of (words bs) ≡ bs
unfolding words bytes_of
bytes-words [] b e = refl
bytes-words (h ∷ []) b e = absurd (omega (arith, e))
bytes-words (h ∷ l ∷ bs) b e =
    let x : word_of h l / 256 ≡ h = digits_div h b.1.0 in
    let y : word_of h l % 256 ≡ l = digits_mod h b.1.0 in
    let z : word_of h l / 256 % 256 ≡ h = ap (λ q. q % 256) x ∙ omega (arith, b.0) in
    let w : length bs % 2 ≡ 0 = omega (arith, e) in
    ap (λ q. q ∷ low_byte (word_of h l) ∷ bytes_of (words bs)) z ∙ ap (λ q. h ∷ q ∷ bytes_of (words bs)) y ∙ ap (λ q. h ∷ l ∷ q) (bytes-words bs b.1.1 w)

-- A proper day without repeats: the first minute is 0 and each is later than the one before.
abbrev pub Unrepeated : List ℕ → Type 0
Unrepeated [] = ⊥
Unrepeated (w ∷ ws) = (minute w ≡ 0) × Rises 0 ws

-- The round trip, byte for byte.
pub round_trip : (k0 : ℕ) (bs : List ℕ) → Bytes bs → length bs % 2 ≡ 0 → Unrepeated (words bs) → written_out k0 (stored k0 (stretches (words bs))) ≡ bs
unfolding stretches
round_trip k0 bs b e u = go (words bs) u ∙ bytes-words bs b e
  where
    go : (ws : List ℕ) → Unrepeated ws → written_out k0 (stored k0 (stretches ws)) ≡ bytes_of ws
    go [] u = absurd u
    go (w ∷ ws) u = round-from k0 w ws (omega (arith, u.0)) (rw u.0 u.1)

-- ---- lengths

abbrev pub length_of : Stretch → ℕ
length_of st = st.value % 2048

unfoldable pub total : List Stretch → ℕ
total [] = 0
total (st ∷ ss) = length_of st + total ss

stretch-length : (w end : ℕ) → end ≤ 1440 → length_of (stretch w end) ≡ end - minute w
stretch-length w end e = digits_mod (flags w) (omega arith)

-- Words of which the minutes don't fall.
abbrev pub Steady : ℕ → List ℕ → Type 0
Steady lo [] = Unit {0}
Steady lo (w ∷ ws) = (lo ≤ minute w) × (minute w < 1440) × Steady (minute w) ws

pub steady-is : (lo : ℕ) (ws : List ℕ) → steady lo ws ≡ true → Steady lo ws
unfolding steady
steady-is lo [] e = tt
steady-is lo (w ∷ ws) e = go (leb lo (minute w)) (ltb (minute w) 1440) (steady (minute w) ws) refl refl refl e (steady-is (minute w) ws)
  where
    go : (a b c : Bool) → leb lo (minute w) ≡ a → ltb (minute w) 1440 ≡ b → steady (minute w) ws ≡ c → (a && (b && c)) ≡ true
        → (steady (minute w) ws ≡ true → Steady (minute w) ws) → (lo ≤ minute w) × (minute w < 1440) × Steady (minute w) ws
    go true true true p q r e f = (leb-true lo (minute w) p, ltb-true (minute w) 1440 q, f r)
    go true true false p q r e f = absurd (true≢false (sym e))
    go true false c p q r e f = absurd (true≢false (sym e))
    go false b c p q r e f = absurd (true≢false (sym e))

total-from : (w : ℕ) (ws : List ℕ) → minute w < 1440 → Steady (minute w) ws → total (stretches_from w ws) ≡ 1440 - minute w
unfolding total stretches_from
total-from w [] m r = omega (arith, stretch-length w 1440 (omega arith))
total-from w (v ∷ ws) m r = go (eqb (minute w) (minute v)) refl (total-from v ws r.1 r.2)
  where
    go : (b : Bool) → eqb (minute w) (minute v) ≡ b → total (stretches_from v ws) ≡ 1440 - minute v
        → total (cond b (stretches_from v ws) (stretch w (minute v) ∷ stretches_from v ws)) ≡ 1440 - minute w
    go true e ih = omega (arith, ih, eqb-true (minute w) (minute v) e)
    go false e ih = omega (arith, ih, stretch-length w (minute v) (omega (arith, r.1)), r.0, r.1)

abbrev pub ProperDay : List ℕ → Type 0
ProperDay [] = ⊥
ProperDay (w ∷ ws) = (minute w ≡ 0) × Steady 0 ws

pub proper_is : (ws : List ℕ) → proper ws ≡ true → ProperDay ws
unfolding proper
proper_is [] e = absurd (true≢false (sym e))
proper_is (w ∷ ws) e = go (eqb (minute w) 0) (steady 0 ws) refl refl e
  where
    go : (a b : Bool) → eqb (minute w) 0 ≡ a → steady 0 ws ≡ b → (a && b) ≡ true → (minute w ≡ 0) × Steady 0 ws
    go true true p q e = (eqb-true (minute w) 0 p, steady-is 0 ws q)
    go true false p q e = absurd (true≢false (sym e))
    go false b p q e = absurd (true≢false (sym e))

-- The lengths of a proper day sum to 1,440.
pub day-total : (ws : List ℕ) → proper ws ≡ true → total (stretches ws) ≡ 1440
unfolding stretches
day-total ws p = go ws (proper_is ws p)
  where
    go : (ws : List ℕ) → ProperDay ws → total (stretches ws) ≡ 1440
    go [] p = absurd p
    go (w ∷ ws) p = omega (arith, total-from w ws (omega (arith, p.0)) (rw p.0 p.1), p.0)

-- ---- minutes rise, and so do keys; there are at most 1,440 stretches

-- Minutes from lo on, rising.
abbrev pub Up : ℕ → List Stretch → Type 0
Up lo [] = Unit {0}
Up lo (st ∷ ss) = (lo ≤ st.minute) × (st.minute < 1440) × Up (suc st.minute) ss

up_from : (lo w : ℕ) (ws : List ℕ) → lo ≤ minute w → minute w < 1440 → Steady (minute w) ws → Up lo (stretches_from w ws)
unfolding stretches_from
up_from lo w [] a m r = (a, m, tt)
up_from lo w (v ∷ ws) a m r = go (eqb (minute w) (minute v)) refl (λ b. up_from lo v ws b r.1 r.2) (λ b. up_from (suc (minute w)) v ws b r.1 r.2)
  where
    go : (b : Bool) → eqb (minute w) (minute v) ≡ b → (lo ≤ minute v → Up lo (stretches_from v ws)) → (suc (minute w) ≤ minute v → Up (suc (minute w)) (stretches_from v ws))
        → Up lo (cond b (stretches_from v ws) (stretch w (minute v) ∷ stretches_from v ws))
    go true e f g = f (omega (arith, eqb-true (minute w) (minute v) e))
    go false e f g = (a, m, g (omega (arith, eqb-false (minute w) (minute v) e, r.0)))

pub day-up : (ws : List ℕ) → proper ws ≡ true → Up 0 (stretches ws)
unfolding stretches
day-up ws p = go ws (proper_is ws p)
  where
    go : (ws : List ℕ) → ProperDay ws → Up 0 (stretches ws)
    go [] p = absurd p
    go (w ∷ ws) p = up_from 0 w ws (omega arith) (omega (arith, p.0)) (rw p.0 p.1)

pub up-few : (lo : ℕ) (ss : List Stretch) → Up lo ss → length ss ≤ 1440 - lo
up-few lo [] u = omega arith
up-few lo (st ∷ ss) u = omega (arith, up-few (suc st.minute) ss u.2, u.0, u.1)

-- n is 1 to 1,440.
pub day-few : (ws : List ℕ) → proper ws ≡ true → length (stretches ws) ≤ 1440
day-few ws p = omega (arith, up-few 0 (stretches ws) (day-up ws p))

from_some : (w : ℕ) (ws : List ℕ) → 1 ≤ length (stretches_from w ws)
unfolding stretches_from
from_some w [] = omega arith
from_some w (v ∷ ws) = go (eqb (minute w) (minute v)) (from_some v ws)
  where
    go : (b : Bool) → 1 ≤ length (stretches_from v ws) → 1 ≤ length (cond b (stretches_from v ws) (stretch w (minute v) ∷ stretches_from v ws))
    go true h = h
    go false h = omega arith

pub day-some : (ws : List ℕ) → proper ws ≡ true → 1 ≤ length (stretches ws)
unfolding stretches proper
day-some [] p = absurd (true≢false (sym p))
day-some (w ∷ ws) p = from_some w ws

-- Every length is 1 to 1,440, so a value is never 0.
abbrev pub Lasting : List Stretch → Type 0
Lasting [] = Unit {0}
Lasting (st ∷ ss) = (1 ≤ length_of st) × (length_of st ≤ 1440) × Lasting ss

lasting-from : (w : ℕ) (ws : List ℕ) → minute w < 1440 → Steady (minute w) ws → Lasting (stretches_from w ws)
unfolding stretches_from
lasting-from w [] m r = (omega (arith, stretch-length w 1440 (omega arith)), omega (arith, stretch-length w 1440 (omega arith)), tt)
lasting-from w (v ∷ ws) m r = go (eqb (minute w) (minute v)) refl (lasting-from v ws r.1 r.2)
  where
    go : (b : Bool) → eqb (minute w) (minute v) ≡ b → Lasting (stretches_from v ws) → Lasting (cond b (stretches_from v ws) (stretch w (minute v) ∷ stretches_from v ws))
    go true e ih = ih
    go false e ih =
        let x = stretch-length w (minute v) (omega (arith, r.1)) in
        (omega (arith, x, eqb-false (minute w) (minute v) e, r.0), omega (arith, x, r.1), ih)

pub day-lasting : (ws : List ℕ) → proper ws ≡ true → Lasting (stretches ws)
unfolding stretches
day-lasting ws p = go ws (proper_is ws p)
  where
    go : (ws : List ℕ) → ProperDay ws → Lasting (stretches ws)
    go [] p = absurd p
    go (w ∷ ws) p = lasting-from w ws (omega (arith, p.0)) (rw p.0 p.1)

-- ---- a request by its place is that of the list

pub requests-many : (k0 e : ℕ) (ss : List Stretch) → length (requests_of k0 e ss) ≡ 2 * length ss
unfolding requests_of
requests-many k0 e [] = refl
requests-many k0 e (st ∷ ss) = omega (arith, requests-many k0 (e + 1) ss)

nth-request : (k0 e : ℕ) (ss : List Stretch) (j : ℕ) (d : DayRequest) → j < 2 * length ss → request_from (get_or ss (j / 2) no_stretch) k0 e j ≡ get_or (requests_of k0 e ss) j d
unfolding requests_of
nth-request k0 e [] j d h = absurd (omega (arith, h))
nth-request k0 e (st ∷ ss) zero d h = ap (λ x. write_of x st) {x = e + 0} {y = e} (omega arith)
nth-request k0 e (st ∷ ss) (suc zero) d h = ap (λ x. insert_of k0 x st) {x = e + 0} {y = e} (omega arith)
nth-request k0 e (st ∷ ss) (suc (suc j)) d h =
    let a : suc (suc j) % 2 ≡ j % 2 = omega arith in
    let b : suc (suc j) / 2 ≡ suc (j / 2) = omega arith in
    ap (λ m. cond (eqb m 0) (write_of (e + suc (suc j) / 2) (get_or (st ∷ ss) (suc (suc j) / 2) no_stretch)) (insert_of k0 (e + suc (suc j) / 2) (get_or (st ∷ ss) (suc (suc j) / 2) no_stretch))) a
    ∙ ap (λ m. cond (eqb (j % 2) 0) (write_of (e + m) (get_or (st ∷ ss) m no_stretch)) (insert_of k0 (e + m) (get_or (st ∷ ss) m no_stretch))) b
    ∙ ap (λ m. cond (eqb (j % 2) 0) (write_of m (get_or ss (j / 2) no_stretch)) (insert_of k0 m (get_or ss (j / 2) no_stretch))) {x = e + suc (j / 2)} {y = e + 1 + j / 2} (omega arith)
    ∙ nth-request k0 (e + 1) ss j d (omega (arith, h))

pub request_is : (bs : List ℕ) (driver start e j : ℕ) (d : DayRequest) → j < 2 * length (stretches (words bs)) → request_at bs driver start e j ≡ get_or (day_requests bs driver start e) j d
unfolding request_at
request_is bs driver start e j d h = nth-request (day_key driver start) e (stretches (words bs)) j d h

-- ---- no request of a day comes twice

-- A request tells its place, so at most one place names the one in hand.
pub places-differ : (bs : List ℕ) (driver start e i j : ℕ) → request_at bs driver start e i ≡ request_at bs driver start e j → i ≡ j
unfolding request_at
places-differ bs driver start e i j q =
    let ss = stretches (words bs) in
    let k0 = day_key driver start in
    let a = code_is k0 e ss i in
    let b = code_is k0 e ss j in
    omega (arith, a.0, a.1, b.0, b.1, ap (λ r. r.code) q, ap (λ r. r.entry) q)
  where
    code_is : (k0 e : ℕ) (ss : List Stretch) (i : ℕ) → ((request_from (get_or ss (i / 2) no_stretch) k0 e i).code ≡ 2 + i % 2) × ((request_from (get_or ss (i / 2) no_stretch) k0 e i).entry ≡ e + i / 2)
    code_is k0 e ss i = go (eqb (i % 2) 0) refl
      where
        go : (b : Bool) → eqb (i % 2) 0 ≡ b
            → ((cond b (write_of (e + i / 2) (get_or ss (i / 2) no_stretch)) (insert_of k0 (e + i / 2) (get_or ss (i / 2) no_stretch))).code ≡ 2 + i % 2)
            × ((cond b (write_of (e + i / 2) (get_or ss (i / 2) no_stretch)) (insert_of k0 (e + i / 2) (get_or ss (i / 2) no_stretch))).entry ≡ e + i / 2)
        go true q = (omega (arith, eqb-true (i % 2) 0 q), refl)
        go false q = (omega (arith, eqb-false (i % 2) 0 q), refl)

-- ---- a stored day is writable

-- Words of 16 bits.
abbrev pub Sixteen : List ℕ → Type 0
Sixteen [] = Unit {0}
Sixteen (w ∷ ws) = (w < 65536) × Sixteen ws

words-sixteen : (bs : List ℕ) → Bytes bs → Sixteen (words bs)
unfolding words
words-sixteen [] b = tt
words-sixteen (h ∷ []) b = tt
words-sixteen (h ∷ l ∷ bs) b = (omega (arith, b.0, b.1.0), words-sixteen bs b.1.1)

-- Minutes of the day, and values of 16 bits.
abbrev Fits : List Stretch → Type 0
Fits [] = Unit {0}
Fits (st ∷ ss) = (st.minute < 1440) × (st.value < 65536) × Fits ss

value-small : (w end : ℕ) → w < 65536 → end ≤ 1440 → (stretch w end).value < 65536
value-small w end h e = omega arith

fits-from : (w : ℕ) (ws : List ℕ) → w < 65536 → minute w < 1440 → Sixteen ws → Steady (minute w) ws → Fits (stretches_from w ws)
unfolding stretches_from
fits-from w [] h m s r = (m, value-small w 1440 h (omega arith), tt)
fits-from w (v ∷ ws) h m s r = go (eqb (minute w) (minute v)) (fits-from v ws s.0 r.1 s.1 r.2)
  where
    go : (b : Bool) → Fits (stretches_from v ws) → Fits (cond b (stretches_from v ws) (stretch w (minute v) ∷ stretches_from v ws))
    go true ih = ih
    go false ih = (m, value-small w (minute v) h (omega (arith, r.1)), ih)

day-fits : (ws : List ℕ) → Sixteen ws → ProperDay ws → Fits (stretches ws)
unfolding stretches
day-fits [] s p = absurd p
day-fits (w ∷ ws) s p = fits-from w ws s.0 (omega (arith, p.0)) s.1 (rw p.0 p.1)

stored-of-day : (k0 : ℕ) (ss : List Stretch) → Fits ss → all_of_day k0 (stored k0 ss) ≡ true
unfolding all_of_day of_day stored
stored-of-day k0 [] f = refl
stored-of-day k0 (st ∷ ss) f =
    rw (le-leb k0 (k0 + st.minute) (omega arith))
    (rw (le-leb (k0 + st.minute) (k0 + 1439) (omega (arith, f.0))) (rw (lt-ltb st.value 65536 f.1) (stored-of-day k0 ss f.2)))

stored-length : (k0 : ℕ) (ss : List Stretch) → length (stored k0 ss) ≡ length ss
unfolding stored
stored-length k0 [] = refl
stored-length k0 (st ∷ ss) = ap suc (stored-length k0 ss)

valued-length : (ps vs : List ℕ) → length (valued ps vs) ≡ length vs
unfolding valued
valued-length ps [] = refl
valued-length ps (v ∷ vs) = ap suc (valued-length (drop 2 ps) vs)

-- What a day's stretches are stored as can be written out, wherever there is room.
pub stored-writable : (k0 : ℕ) (bs pairs values : List ℕ) (room : ℕ) → Bytes bs → proper (words bs) ≡ true → valued pairs values ≡ stored k0 (stretches (words bs))
    → 2 * length values ≤ length pairs → 2 * length values ≤ room → writable k0 pairs values room ≡ true
unfolding writable
stored-writable k0 bs pairs values room b p e l h =
    let few : length values ≤ 1440 = omega (arith, valued-length pairs values, ap length e, stored-length k0 (stretches (words bs)), day-few (words bs) p) in
    rw (le-leb (length values) 1440 few)
    (rw (le-leb (2 * length values) (length pairs) l)
    (rw (le-leb (2 * length values) room h) (ap (all_of_day k0) e ∙ stored-of-day k0 (stretches (words bs)) (day-fits (words bs) (words-sixteen bs b) (proper_is (words bs) p)))))
