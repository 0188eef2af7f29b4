-- What a day call reads of its bytes, and what its checks leave: the put that it is passes put's checks, the step passes step's.
use Rattle.std.specs.Prelude.{◌≡◌, refl, Bool, true, false, cond, not, ◌||◌, List, [], ◌∷◌, ◌⊎◌, Result, Ok, Err, ℕ, zero, suc, ◌+◌, ◌*◌, ◌/◌, ◌%◌, ◌≤◌, ◌<◌, eqb, leb, ltb, length, get_or}
use Rattle.std.proofs.Common.{sym, ◌∙◌, inl, inr, arith, ne_eqb, le-ltb, ltb-false, leb-false}
use Rattle.std.proofs.lemmas.Bool.{lt-leb, eqb-false}
use Rattle.card_days.specs.declared.DayRequest.{DayRequest}
use Rattle.card_days.specs.declared.Stretch.{Stretch}
use Rattle.card_days.specs.Day.{words, proper, stretches, request_at, no_stretch, write_of, insert_of, day_key}
use Rattle.card_days.specs.Laws.{Up, day-up}
use Rattle.card_days.specs.Loops.{RequestFrom, request_of}
use Rattle.sessions.specs.declared.Session.{Session}
use Rattle.sessions.specs.Sessions.{session_at}
use Rattle.serial.specs.Serial.{true≢false}
use Rattle.machine.specs.Calls.{no_party}
use Rattle.meaning.specs.Reading.{M-of}
use Rattle.meaning.specs.Sound.{Sound}
use Rattle.refusals.specs.Refusing.{first_of, is_begun_in, asked_in, hand_in, step_list, put_list, request_list}
use Rattle.refusals.specs.Coded.{value_list, change_list, value-first, change-first}
use Rattle.promises.specs.Ways.{none_true}
use Rattle.outcomes.specs.declared.Refusal.{Refusal}
use Rattle.outcomes.specs.declared.Refusal.TheVariants as R
use Rattle.outcomes.specs.Refused.{number}
use Rattle.day_calls.specs.declared.Reading.{Reading}
use Rattle.day_calls.specs.Calling.{Handed, handed, day_count, named, other_in_hand, bad_day, day_list}

-- What was read of the bytes is the day's: whether it is a proper one, its stretches' number, and the request that the place names.
pub record Reads (h : Handed) (good : Bool) (n : ℕ) (r : DayRequest) : Type 0 where
  pub proper_is : good ≡ proper (words h.bytes)
  pub count_is : n ≡ day_count h
  pub request_is : r ≡ named h
  -- A write's value is one word.
  pub value_word : r.code ≡ 2 → r.first < 4294967296

pub reads-day : (bs : List ℕ) (driver start entry j : ℕ) (g : Bool) (n : ℕ) (st : Stretch) (r : DayRequest)
    → g ≡ proper (words bs) → n ≡ length (stretches (words bs)) → st ≡ get_or (stretches (words bs)) (j / 2) no_stretch → RequestFrom st driver start entry j r
    → Reads (handed bs driver start entry j) g n r
reads-day bs driver start entry j g n st r a b c z =
    let q = request_of bs st driver start entry j r c z in
    record { proper_is = a; count_is = b; request_is = q.is; value_word = q.fits }

-- Refused 14 where the bytes are no proper day.
abbrev pub ReadsDay : Handed → Result Reading Refusal → Type 0
ReadsDay h (Ok d) = Reads h true d.count d.request
ReadsDay h (Err refusal) = (refusal ≡ R.Day) × (proper (words h.bytes) ≡ false)

-- The first check that holds, else what was read of a proper day.
abbrev pub ChecksDay : ℕ → List Session → ℕ → Handed → Result Reading Refusal → Type 0
ChecksDay m t p h (Ok d) = (0 ≡ first_of (day_list m t p h)) × Reads h true d.count d.request
ChecksDay m t p h (Err refusal) = number refusal ≡ first_of (day_list m t p h)

-- A put of r that passes, at place j of n stretches.
pub record CanPut (s : List ℕ) (t : List Session) (p n : ℕ) (r : DayRequest) (j : ℕ) : Type 0 where
  pub sound : Sound s t
  pub passes : first_of (put_list (M-of s) t p r.code r.entry r.first 0) ≡ 0
  pub entry_word : r.entry < 4294967296
  pub first_word : r.first < 4294967296
  pub few : n ≤ 1440
  pub inside : j < 2 * n

-- No check holds.
pub record Passed (m : ℕ) (t : List Session) (p : ℕ) (h : Handed) : Type 0 where
  pub party : no_party p ≡ false
  pub begun : not (is_begun_in t p) ≡ false
  pub unasked : asked_in t p ≡ false
  pub session : ¬ (p ≡ 0)
  pub whole : ¬ (length h.bytes % 2 ≡ 1)
  pub is_proper : proper (words h.bytes) ≡ true
  pub inside : h.place < 2 * day_count h
  pub in_hand : other_in_hand (session_at t p) (named h) ≡ false
  pub entry_low : 1 ≤ h.entry
  pub entry_high : h.entry + day_count h ≤ m + 1
  pub driver_low : 1 ≤ h.driver
  pub driver_high : h.driver ≤ 4094
  pub start_high : h.start ≤ 1047136

pub or_no : (a b : Bool) → (a || b) ≡ false → (a ≡ false) × (b ≡ false)
or_no false b e = (refl, e)
or_no true b e = absurd (true≢false {b = true} refl e)

pub not-no : (a : Bool) → not a ≡ false → a ≡ true
not-no true e = refl
not-no false e = absurd (true≢false {b = true} refl e)

pub passed : (m : ℕ) (t : List Session) (p : ℕ) (h : Handed) → first_of (day_list m t p h) ≡ 0 → Passed m t p h
unfolding bad_day
passed m t p h z =
    let a = none_true 4 (no_party p) _ (λ q. omega (arith, q)) z in
    let b = none_true 5 (not (is_begun_in t p)) _ (λ q. omega (arith, q)) a.1 in
    let k = none_true 21 (asked_in t p) _ (λ q. omega (arith, q)) b.1 in
    let c = none_true 6 (eqb p 0) _ (λ q. omega (arith, q)) k.1 in
    let d = none_true 13 (eqb (length h.bytes % 2) 1) _ (λ q. omega (arith, q)) c.1 in
    let e = none_true 14 (bad_day (session_at t p) h) _ (λ q. omega (arith, q)) d.1 in
    let f = none_true 8 (eqb h.entry 0 || ltb (m + 1) (h.entry + day_count h)) _ (λ q. omega (arith, q)) e.1 in
    let g = none_true 9 (eqb h.driver 0 || (ltb 4094 h.driver || ltb 1047136 h.start)) [] (λ q. omega (arith, q)) f.1 in
    let e₁ = or_no (not (proper (words h.bytes))) _ e.0 in
    let e₂ = or_no (leb (2 * day_count h) h.place) _ e₁.1 in
    let f₁ = or_no (eqb h.entry 0) _ f.0 in
    let g₁ = or_no (eqb h.driver 0) _ g.0 in
    let g₂ = or_no (ltb 4094 h.driver) _ g₁.1 in
    record {
      party = a.0;
      begun = b.0;
      unasked = k.0;
      session = eqb-false p 0 c.0;
      whole = eqb-false (length h.bytes % 2) 1 d.0;
      is_proper = not-no (proper (words h.bytes)) e₁.0;
      inside = leb-false (2 * day_count h) h.place e₂.0;
      in_hand = e₂.1;
      entry_low = omega (arith, eqb-false h.entry 0 f₁.0);
      entry_high = ltb-false (m + 1) (h.entry + day_count h) f₁.1;
      driver_low = omega (arith, eqb-false h.driver 0 g₁.0);
      driver_high = ltb-false 4094 h.driver g₂.0;
      start_high = ltb-false 1047136 h.start g₂.1;
    }

-- ---- the request named

pub minute-small : (lo : ℕ) (ss : List Stretch) (k : ℕ) → Up lo ss → (get_or ss k no_stretch).minute < 1440
minute-small lo [] zero u = omega arith
minute-small lo [] (suc k) u = omega arith
minute-small lo (st ∷ ss) zero u = u.1
minute-small lo (st ∷ ss) (suc k) u = minute-small (suc st.minute) ss k u.2

-- A write or an insert of one of the M entries, the insert at a key that is no infinity.
pub record Fitting (m : ℕ) (r : DayRequest) : Type 0 where
  pub low : 1 ≤ r.entry
  pub high : r.entry ≤ m
  pub kind : (r.code ≡ 2) ⊎ ((r.code ≡ 3) × (1 ≤ r.first) × (r.first ≤ 4293918719))

pub named-fits : (m : ℕ) (t : List Session) (p : ℕ) (h : Handed) → Passed m t p h → Fitting m (named h)
unfolding request_at
named-fits m t p h P = go (eqb (h.place % 2) 0)
  where
    st : Stretch
    st = get_or (stretches (words h.bytes)) (h.place / 2) no_stretch

    go : (b : Bool) → Fitting m (cond b (write_of (h.entry + h.place / 2) (get_or (stretches (words h.bytes)) (h.place / 2) no_stretch)) (insert_of (day_key h.driver h.start) (h.entry + h.place / 2) (get_or (stretches (words h.bytes)) (h.place / 2) no_stretch)))
    go true = record { low = omega (arith, P.entry_low); high = omega (arith, P.entry_high, P.inside); kind = inl refl }
    go false =
        let l = minute-small 0 (stretches (words h.bytes)) (h.place / 2) (day-up (words h.bytes) P.is_proper) in
        record {
          low = omega (arith, P.entry_low);
          high = omega (arith, P.entry_high, P.inside);
          kind = inr (refl, omega (arith, P.driver_low), omega (arith, l, P.driver_high, P.start_high));
        }

-- ---- the step passes

pub step-passes : (m : ℕ) (t : List Session) (p : ℕ) (h : Handed) → Passed m t p h → hand_in t p ≡ true → first_of (step_list t p) ≡ 0
unfolding first_of
step-passes m t p h P e = rw (P.party, P.begun, e) refl

-- ---- the put passes

value_passes : (m p e : ℕ) → ¬ (p ≡ 0) → 1 ≤ e → e ≤ m → first_of (value_list m p e) ≡ 0
unfolding first_of
value_passes m p e n l h = rw (ne_eqb p 0 n, ne_eqb e 0 (λ q. omega (arith, q, l)), le-ltb m e h) refl

change-passes : (m p e f : ℕ) → ¬ (p ≡ 0) → 1 ≤ e → e ≤ m → 1 ≤ f → f ≤ 4293918719 → first_of (change_list m p e f) ≡ 0
unfolding first_of
change-passes m p e f n l h i j = rw (ne_eqb p 0 n, ne_eqb e 0 (λ q. omega (arith, q, l)), le-ltb m e h, ne_eqb f 0 (λ q. omega (arith, q, i)), lt-leb 4294967295 f (omega (arith, j))) refl

pub put-passes : (m : ℕ) (t : List Session) (p : ℕ) (h : Handed) → Passed m t p h → hand_in t p ≡ false → (g : ℕ)
    → first_of (put_list m t p (named h).code (named h).entry (named h).first g) ≡ 0
unfolding first_of
put-passes m t p h P e g = rw (P.party, P.begun, P.unasked, e) (go (named h) (named-fits m t p h P))
  where
    go : (r : DayRequest) → Fitting m r → first_of (request_list m p r.code r.entry r.first g) ≡ 0
    go r F = by F.kind
      where
        by : (r.code ≡ 2) ⊎ ((r.code ≡ 3) × (1 ≤ r.first) × (r.first ≤ 4293918719)) → first_of (request_list m p r.code r.entry r.first g) ≡ 0
        by (inl c) = sym (value-first m p r.code r.entry r.first g (λ q. omega (arith, q, c)) (omega (arith, c))) ∙ value_passes m p r.entry P.session F.low F.high
        by (inr c) = sym (change-first m p r.code r.entry r.first g (omega (arith, c.0)) (omega (arith, c.0))) ∙ change-passes m p r.entry r.first P.session F.low F.high c.1 c.2
