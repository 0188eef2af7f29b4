-- A card's day: big-endian words, proper days, stretches, the ordinary requests of a day, and a day written out again.
use Rattle.std.specs.Prelude.{◌≡◌, Bool, true, false, cond, ◌&&◌, List, [], ◌∷◌, ◌++◌, ℕ, ◌+◌, ◌*◌, ◌-◌, ◌/◌, ◌%◌, eqb, leb, ltb, length, get_or, drop}
use Rattle.card_days.specs.declared.Stretch.{Stretch}
use Rattle.card_days.specs.declared.DayRequest.{DayRequest}

-- ---- words

abbrev pub word_of : ℕ → ℕ → ℕ
word_of high low = high * 256 + low

-- The words of the bytes, high byte first. A byte left over counts for nothing.
unfoldable pub words : List ℕ → List ℕ
words [] = []
words (h ∷ []) = []
words (h ∷ l ∷ bs) = word_of h l ∷ words bs

-- The last 11 bits.
abbrev pub minute : ℕ → ℕ
minute w = w % 2048

-- Slot, driving status, card status, activity: the five bits above the minute.
abbrev pub flags : ℕ → ℕ
flags w = w / 2048

-- ---- proper days

-- Minutes that don't fall, from lo, each below 1,440.
unfoldable pub steady : ℕ → List ℕ → Bool
steady lo [] = true
steady lo (w ∷ ws) = leb lo (minute w) && (ltb (minute w) 1440 && steady (minute w) ws)

-- Not empty, the first minute is 0.
unfoldable pub proper : List ℕ → Bool
proper [] = false
proper (w ∷ ws) = eqb (minute w) 0 && steady 0 ws

-- ---- stretches

-- From a word's minute to end: its value is the word with the minute replaced by the length.
abbrev pub stretch : ℕ → ℕ → Stretch
stretch w end = record { minute = minute w; value = flags w * 2048 + (end - minute w) }

-- Of equal minutes the later word counts; each stretch runs to the next word's minute, the last to 1,440.
unfoldable pub stretches_from : ℕ → List ℕ → List Stretch
stretches_from w [] = stretch w 1440 ∷ []
stretches_from w (v ∷ ws) = cond (eqb (minute w) (minute v)) (stretches_from v ws) (stretch w (minute v) ∷ stretches_from v ws)

unfoldable pub stretches : List ℕ → List Stretch
stretches [] = []
stretches (w ∷ ws) = stretches_from w ws

abbrev pub no_stretch : Stretch
no_stretch = record { minute = 0; value = 0 }

-- ---- requests

-- The first key of a driver's day.
abbrev pub day_key : ℕ → ℕ → ℕ
day_key driver start = driver * 1048576 + start

abbrev pub write_of : ℕ → Stretch → DayRequest
write_of entry st = record { code = 2; entry = entry; first = st.value }

abbrev pub insert_of : ℕ → ℕ → Stretch → DayRequest
insert_of k0 entry st = record { code = 3; entry = entry; first = k0 + st.minute }

-- The write first, stretch by stretch, entries counted up.
unfoldable pub requests_of : ℕ → ℕ → List Stretch → List DayRequest
requests_of k0 entry [] = []
requests_of k0 entry (st ∷ ss) = write_of entry st ∷ insert_of k0 entry st ∷ requests_of k0 (entry + 1) ss

abbrev pub day_requests : List ℕ → ℕ → ℕ → ℕ → List DayRequest
day_requests bytes driver start entry = requests_of (day_key driver start) entry (stretches (words bytes))

-- Request j, of the stretch j / 2: writes at even places, inserts at odd ones.
abbrev pub request_from : Stretch → ℕ → ℕ → ℕ → DayRequest
request_from st k0 entry j = cond (eqb (j % 2) 0) (write_of (entry + j / 2) st) (insert_of k0 (entry + j / 2) st)

unfoldable pub request_at : List ℕ → ℕ → ℕ → ℕ → ℕ → DayRequest
request_at bytes driver start entry j = request_from (get_or (stretches (words bytes)) (j / 2) no_stretch) (day_key driver start) entry j

-- ---- written out

-- The word of a membership's key and its entry's value.
abbrev pub word_out : ℕ → ℕ → ℕ → ℕ
word_out k0 key value = value / 2048 * 2048 + (key - k0)

abbrev pub high_byte : ℕ → ℕ
high_byte w = w / 256 % 256

abbrev pub low_byte : ℕ → ℕ
low_byte w = w % 256

-- Keys with their entries' values, written out.
unfoldable pub written_out : ℕ → List (ℕ × ℕ) → List ℕ
written_out k0 [] = []
written_out k0 (p ∷ ps) = let w = word_out k0 p.0 p.1 in high_byte w ∷ low_byte w ∷ written_out k0 ps

-- What a day's stretches are stored as: key and value.
unfoldable pub stored : ℕ → List Stretch → List (ℕ × ℕ)
stored k0 [] = []
stored k0 (st ∷ ss) = (k0 + st.minute, st.value) ∷ stored k0 ss

-- A locate's pairs, key and entry in turn, with the values of these entries.
unfoldable pub valued : List ℕ → List ℕ → List (ℕ × ℕ)
valued ps [] = []
valued ps (v ∷ vs) = (get_or ps 0 0, v) ∷ valued (drop 2 ps) vs

-- A key of the day that starts at k0, and a value of 16 bits.
unfoldable pub of_day : ℕ → ℕ → ℕ → Bool
of_day k0 key value = leb k0 key && (leb key (k0 + 1439) && ltb value 65536)

unfoldable pub all_of_day : ℕ → List (ℕ × ℕ) → Bool
all_of_day k0 [] = true
all_of_day k0 (p ∷ ps) = of_day k0 p.0 p.1 && all_of_day k0 ps

-- At most 1,440 values, a pair for each, room for the bytes, and all of the day.
unfoldable pub writable : ℕ → List ℕ → List ℕ → ℕ → Bool
writable k0 pairs values room =
    leb (length values) 1440 && (leb (2 * length values) (length pairs) && (leb (2 * length values) room && all_of_day k0 (valued pairs values)))

-- What is writable is written, later bytes stay; else all bytes stay.
pub record WritesDay (k0 : ℕ) (pairs values out : List ℕ) (r : Bool) (out' : List ℕ) : Type 0 where
  pub is : r ≡ writable k0 pairs values (length out)
  pub bytes : out' ≡ cond r (written_out k0 (valued pairs values) ++ drop (2 * length values) out) out
