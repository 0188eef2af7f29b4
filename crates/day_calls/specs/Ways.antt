-- The ways out of the functions of a day call, as equations.
use Rattle.std.specs.Prelude.{◌≡◌, Bool, true, false, cond, not, ◌||◌, List, [], ◌∷◌, ◌⊎◌, ◌↔◌, ℕ, ◌+◌, ◌*◌, ◌/◌, ◌%◌, ◌≤◌, ◌<◌, eqb, leb, length}
use Rattle.std.proofs.Math.Path.{refl}
use Rattle.std.proofs.Common.{sym, ap, subst, ◌∙◌, inl, inr, arith}
use borrow.Author.Tests.{eq-eqb, ne_eqb, le-leb, lt-leb, le-ltb, lt-ltb, not-true, not-false}
use Rattle.card_days.specs.declared.DayRequest.{DayRequest}
use Rattle.card_days.specs.Day.{words, proper}
use Rattle.card_days.specs.Laws.{day-few}
use Rattle.sessions.specs.declared.Session.{Session}
use Rattle.sessions.specs.Sessions.{session_at}
use Rattle.serial.specs.Serial.{true≢false}
use Rattle.serial.specs.Calls as C
use Rattle.machine.specs.Holders.{width}
use Rattle.meaning.specs.Reading.{M-of}
use Rattle.meaning.specs.Sound.{Sound}
use Rattle.meaning.specs.Parts.{entries-are, entries-many}
use Rattle.refusals.specs.Refusing.{first_of, hand_in, put_list, step_list, party_list, party-refused, party-passed, check-holds, check-passed}
use Rattle.promises.specs.Ways.{Serves}
use Rattle.outcomes.specs.declared.DayAnswer.{DayAnswer}
use Rattle.outcomes.specs.declared.DayAnswer.TheVariants.{Refused}
use Rattle.day_calls.specs.Calling.{Handed, day_count, named, other_in_hand, bad_day, number_list, day_list, day_refusal, ordinary, renamed, Renames, DayServes, Days}
use Rattle.day_calls.specs.Accepting.{Reads, CanPut, Passed, passed, or_no, not-no, Fitting, named-fits, put-passes, step-passes}

-- ---- the request in hand

module _ (x : Session) (r : DayRequest) where
  pub hand-none : x.stage ≡ 0 → false ≡ other_in_hand x r
  unfolding other_in_hand
  hand-none e = rw (eq-eqb x.stage 0 e) refl

  pub hand-code : ¬ (x.stage ≡ 0) → ¬ (x.code ≡ r.code) → true ≡ other_in_hand x r
  unfolding other_in_hand
  hand-code n a = rw (ne_eqb x.stage 0 n, ne_eqb x.code r.code a) refl

  pub hand-entry : ¬ (x.stage ≡ 0) → x.code ≡ r.code → ¬ (x.entry ≡ r.entry) → true ≡ other_in_hand x r
  unfolding other_in_hand
  hand-entry n a b = rw (ne_eqb x.stage 0 n, eq-eqb x.code r.code a, ne_eqb x.entry r.entry b) refl

  pub hand_first : ¬ (x.stage ≡ 0) → x.code ≡ r.code → x.entry ≡ r.entry → ¬ (x.first ≡ r.first) → true ≡ other_in_hand x r
  unfolding other_in_hand
  hand_first n a b c = rw (ne_eqb x.stage 0 n, eq-eqb x.code r.code a, eq-eqb x.entry r.entry b, ne_eqb x.first r.first c) refl

  pub hand_same : ¬ (x.stage ≡ 0) → x.code ≡ r.code → x.entry ≡ r.entry → x.first ≡ r.first → false ≡ other_in_hand x r
  unfolding other_in_hand
  hand_same n a b c = rw (ne_eqb x.stage 0 n, eq-eqb x.code r.code a, eq-eqb x.entry r.entry b, eq-eqb x.first r.first c) refl

-- ---- 14

module _ (x : Session) (g : Bool) (n : ℕ) (r : DayRequest) (j : ℕ) where
  abbrev pub bad : Bool
  bad = not g || (leb (2 * n) j || other_in_hand x r)

  pub bad-words : not g ≡ true → true ≡ bad
  bad-words e = rw (not-true g e) refl

  pub bad-past : not g ≡ false → n ≤ j / 2 → true ≡ bad
  bad-past e l = rw (not-false g e, le-leb (2 * n) j (omega (arith, l))) refl

  pub bad-hand : (b : Bool) → not g ≡ false → j / 2 < n → b ≡ other_in_hand x r → b ≡ bad
  bad-hand b e l o = rw (not-false g e, lt-leb (2 * n) j (omega (arith, l))) o

-- What was read is handed in.
bad-is : (h : Handed) (x : Session) (g : Bool) (n : ℕ) (r : DayRequest) → Reads h g n r → bad x g n r h.place ≡ bad_day x h
unfolding bad_day
bad-is h x g n r R =
    ap (λ z. not z || (leb (2 * n) h.place || other_in_hand x r)) R.proper_is
    ∙ ap (λ z. not (proper (words h.bytes)) || (leb (2 * z) h.place || other_in_hand x r)) R.count_is
    ∙ ap (λ z. not (proper (words h.bytes)) || (leb (2 * day_count h) h.place || other_in_hand x z)) R.request_is

-- Bytes that are no proper day.
no-day-bad : (h : Handed) (x : Session) → proper (words h.bytes) ≡ false → bad_day x h ≡ true
unfolding bad_day
no-day-bad h x e = rw e refl

-- ---- 8 and 9

module _ (m n driver start entry : ℕ) where
  pub number-entry : entry ≡ 0 → 8 ≡ first_of (number_list m n driver start entry)
  unfolding first_of
  number-entry e = rw (eq-eqb entry 0 e) refl

  pub number-many : ¬ (entry ≡ 0) → m + 1 < entry + n → 8 ≡ first_of (number_list m n driver start entry)
  unfolding first_of
  number-many z l = rw (ne_eqb entry 0 z, lt-ltb (m + 1) (entry + n) l) refl

  pub number-driver : ¬ (entry ≡ 0) → entry + n ≤ m + 1 → driver ≡ 0 → 9 ≡ first_of (number_list m n driver start entry)
  unfolding first_of
  number-driver z l d = rw (ne_eqb entry 0 z, le-ltb (m + 1) (entry + n) l, eq-eqb driver 0 d) refl

  pub number-high : ¬ (entry ≡ 0) → entry + n ≤ m + 1 → ¬ (driver ≡ 0) → 4094 < driver → 9 ≡ first_of (number_list m n driver start entry)
  unfolding first_of
  number-high z l d g = rw (ne_eqb entry 0 z, le-ltb (m + 1) (entry + n) l, ne_eqb driver 0 d, lt-ltb 4094 driver g) refl

  pub number-start : ¬ (entry ≡ 0) → entry + n ≤ m + 1 → ¬ (driver ≡ 0) → driver ≤ 4094 → 1047136 < start → 9 ≡ first_of (number_list m n driver start entry)
  unfolding first_of
  number-start z l d g s = rw (ne_eqb entry 0 z, le-ltb (m + 1) (entry + n) l, ne_eqb driver 0 d, le-ltb 4094 driver g, lt-ltb 1047136 start s) refl

  pub number-none : ¬ (entry ≡ 0) → entry + n ≤ m + 1 → ¬ (driver ≡ 0) → driver ≤ 4094 → start ≤ 1047136 → 0 ≡ first_of (number_list m n driver start entry)
  unfolding first_of
  number-none z l d g s = rw (ne_eqb entry 0 z, le-ltb (m + 1) (entry + n) l, ne_eqb driver 0 d, le-ltb 4094 driver g, le-ltb 1047136 start s) refl

-- ---- the list

module _ (m : ℕ) (t : List Session) (p : ℕ) (h : Handed) where
  abbrev from_14 : List (ℕ × Bool)
  from_14 = (14, bad_day (session_at t p) h) ∷ number_list m (day_count h) h.driver h.start h.entry

  abbrev from_13 : List (ℕ × Bool)
  from_13 = (13, eqb (length h.bytes % 2) 1) ∷ from_14

  abbrev from_6 : List (ℕ × Bool)
  from_6 = (6, eqb p 0) ∷ from_13

  -- What refuses any request,
  pub list-party : {i : ℕ} → i ≡ first_of (party_list t p) → ¬ (i ≡ 0) → i ≡ first_of (day_list m t p h)
  list-party e z = party-refused t p from_6 e z

  -- and the rest where nothing of that does.
  module _ {i : ℕ} (e : i ≡ first_of (party_list t p)) (z : i ≡ 0) where
    late : first_of from_6 ≡ first_of (day_list m t p h)
    late = party-passed t p from_6 e z

    pub list-6 : p ≡ 0 → 6 ≡ first_of (day_list m t p h)
    list-6 n = check-holds 6 (eqb p 0) from_13 (eq-eqb p 0 n) ∙ late

    later : {k : ℕ} → ¬ (p ≡ 0) → k ≡ first_of from_13 → k ≡ first_of (day_list m t p h)
    later n q = check-passed 6 (eqb p 0) from_13 (ne_eqb p 0 n) q ∙ late

    pub list-13 : ¬ (p ≡ 0) → length h.bytes % 2 ≡ 1 → 13 ≡ first_of (day_list m t p h)
    list-13 n o = later n (check-holds 13 (eqb (length h.bytes % 2) 1) from_14 (eq-eqb (length h.bytes % 2) 1 o))

    last : {k : ℕ} → ¬ (p ≡ 0) → ¬ (length h.bytes % 2 ≡ 1) → k ≡ first_of from_14 → k ≡ first_of (day_list m t p h)
    last n o q = later n (check-passed 13 (eqb (length h.bytes % 2) 1) from_14 (ne_eqb (length h.bytes % 2) 1 o) q)

    pub list-no-day : ¬ (p ≡ 0) → ¬ (length h.bytes % 2 ≡ 1) → proper (words h.bytes) ≡ false → 14 ≡ first_of (day_list m t p h)
    list-no-day k o f = last k o (check-holds 14 (bad_day (session_at t p) h) (number_list m (day_count h) h.driver h.start h.entry) (no-day-bad h (session_at t p) f))

    module _ (x : Session) (g : Bool) (n : ℕ) (r : DayRequest) (y : Bool) (u : x ≡ session_at t p) (R : Reads h g n r) (q : y ≡ bad x g n r h.place) where
      seat-bad : y ≡ bad_day (session_at t p) h
      seat-bad = q ∙ bad-is h x g n r R ∙ ap (λ v. bad_day v h) u

      pub list-14 : ¬ (p ≡ 0) → ¬ (length h.bytes % 2 ≡ 1) → y ≡ true → 14 ≡ first_of (day_list m t p h)
      list-14 k o f = last k o (check-holds 14 (bad_day (session_at t p) h) (number_list m (day_count h) h.driver h.start h.entry) (sym seat-bad ∙ f))

      pub list-rest : ¬ (p ≡ 0) → ¬ (length h.bytes % 2 ≡ 1) → y ≡ false → (v : ℕ) → v ≡ first_of (number_list m n h.driver h.start h.entry)
          → v ≡ first_of (day_list m t p h)
      list-rest k o f v w = last k o (check-passed 14 (bad_day (session_at t p) h) (number_list m (day_count h) h.driver h.start h.entry) (sym seat-bad ∙ f)
          (w ∙ ap (λ a. first_of (number_list m a h.driver h.start h.entry)) R.count_is))

  -- Where 14 does not hold the stretches are few.
  pub few-there : (x : Session) (g : Bool) (n : ℕ) (r : DayRequest) (z : Bool) → Reads h g n r → z ≡ bad x g n r h.place → z ≡ false → n ≤ 1440
  few-there x g n r z R q y = omega (arith, R.count_is, day-few (words h.bytes) (sym R.proper_is ∙ not-no g (or_no (not g) (leb (2 * n) h.place || other_in_hand x r) (sym q ∙ y)).0))

  -- A proper day's stretches are few.
  pub few-stretches : {n : ℕ} {r : DayRequest} → Reads h true n r → n ≤ 1440
  few-stretches R = omega (arith, R.count_is, day-few (words h.bytes) (sym R.proper_is))

-- ---- the put and the step

few-entries : (s : List ℕ) (t : List Session) → Sound s t → M-of s ≤ 1024
few-entries s t S = omega (arith, S.state.sizes.1, ap length (entries-are s t) ∙ entries-many s 1 (M-of s))

module _ (s : List ℕ) (t : List Session) (p : ℕ) (h : Handed) (S : Sound s t) (P : Passed (M-of s) t p h) where
  pub entry_word : (r : DayRequest) → r ≡ named h → r.entry < 4294967296
  entry_word r e = omega (arith, (subst (λ z. Fitting (M-of s) z) (sym e) (named-fits (M-of s) t p h P)).high, few-entries s t S)

  pub first_word : (r : DayRequest) → r ≡ named h → (r.code ≡ 2 → r.first < 4294967296) → r.first < 4294967296
  first_word r e f = go (subst (λ z. Fitting (M-of s) z) (sym e) (named-fits (M-of s) t p h P)).kind
    where
      go : (r.code ≡ 2) ⊎ ((r.code ≡ 3) × (1 ≤ r.first) × (r.first ≤ 4293918719)) → r.first < 4294967296
      go (inl c) = f c
      go (inr c) = omega (arith, c.2)

  pub can-put : (g : Bool) (n : ℕ) (r : DayRequest) → Reads h g n r → hand_in t p ≡ false → CanPut s t p n r h.place
  can-put g n r R b = record {
    sound = S;
    passes = subst (λ z. first_of (put_list (M-of s) t p z.code z.entry z.first 0) ≡ 0) (sym R.request_is) (put-passes (M-of s) t p h P b 0);
    entry_word = entry_word r R.request_is;
    first_word = first_word r R.request_is R.value_word;
    few = omega (arith, R.count_is, day-few (words h.bytes) P.is_proper);
    inside = omega (arith, R.count_is, P.inside);
  }

  pub can-step : (g : Bool) (n : ℕ) (r : DayRequest) → Reads h g n r → hand_in t p ≡ true → Sound s t × (first_of (step_list t p) ≡ 0) × (n ≤ 1440) × (h.place < 2 * n)
  can-step g n r R b = (
    S,
    step-passes (M-of s) t p h P b,
    omega (arith, R.count_is, day-few (words h.bytes) P.is_proper),
    omega (arith, R.count_is, P.inside),
  )

nil-of : (l : List ℕ) → length l ≡ 0 → l ≡ []
nil-of [] e = refl
nil-of (x ∷ l) e = absurd (omega (arith, e))

pub step-way : (s : List ℕ) (t : List Session) (p n j : ℕ) (l' : List ℕ) (a : C.Answer) (z : DayAnswer) (s' : List ℕ) (t' : List Session) → length l' ≡ 0
    → Serves (C.step p []) s t a l' s' t' → z ≡ renamed n j a → Renames (C.step p []) n j s t z s' t'
step-way s t p n j l' a z s' t' l sv q = record { inner = a; serves = subst (λ w. Serves (C.step p []) s t a w s' t') (nil-of l' l) sv; answer = q }

-- ---- the call

module _ (s : List ℕ) (t : List Session) (p : ℕ) (h : Handed) (m n : ℕ) (i : m ≡ M-of s) (e : n ≡ first_of (day_list m t p h)) where
  is_number : n ≡ day_refusal s t p h
  is_number = e ∙ ap (λ k. first_of (day_list k t p h)) i

  pub way-refused : ¬ (n ≡ 0) → DayServes p h s t (Refused n 0) s t
  way-refused z = record {
    refuses = λ _. record { answer = ap (λ k. Refused k 0) is_number; store_same = refl; table_same = refl };
    accepts = λ k. absurd (z (is_number ∙ k));
  }

  pub way-passed : n ≡ 0 → Passed (M-of s) t p h
  way-passed z = passed (M-of s) t p h (sym is_number ∙ z)

  way-accepted : n ≡ 0 → (a : DayAnswer) (s' : List ℕ) (t' : List Session) → Renames (ordinary t p h) (day_count h) h.place s t a s' t' → DayServes p h s t a s' t'
  way-accepted z a s' t' R = record { refuses = λ k. absurd (k (sym is_number ∙ z)); accepts = λ _. R }

  pub way_step : n ≡ 0 → (g : Bool) (c : ℕ) (r : DayRequest) → Reads h g c r → hand_in t p ≡ true → (a : DayAnswer) (s' : List ℕ) (t' : List Session)
      → Renames (C.step p []) c h.place s t a s' t' → DayServes p h s t a s' t'
  way_step z g c r R b a s' t' N = way-accepted z a s' t'
      (subst (λ k. Renames k (day_count h) h.place s t a s' t') (sym (ap (λ k. cond k (C.step p []) (C.put p (named h).code (named h).entry (named h).first 0)) b))
      (subst (λ k. Renames (C.step p []) k h.place s t a s' t') R.count_is N))

  pub way-put : n ≡ 0 → (g : Bool) (c : ℕ) (r : DayRequest) → Reads h g c r → hand_in t p ≡ false → (a : DayAnswer) (t' : List Session)
      → Renames (C.put p r.code r.entry r.first 0) c h.place s t a s t' → DayServes p h s t a s t'
  way-put z g c r R b a t' N = way-accepted z a s t'
      (subst (λ k. Renames k (day_count h) h.place s t a s t') (sym (ap (λ k. cond k (C.step p []) (C.put p (named h).code (named h).entry (named h).first 0)) b))
      (subst (λ k. Renames (C.put p k.code k.entry k.first 0) (day_count h) h.place s t a s t') R.request_is
      (subst (λ k. Renames (C.put p r.code r.entry r.first 0) k h.place s t a s t') R.count_is N)))

-- After the test of soundness, which answered b.
pub way-sound : (p : ℕ) (h : Handed) (s : List ℕ) (t : List Session) (b : Bool) (a : DayAnswer) (s' : List ℕ) (t' : List Session) → ((b ≡ true) ↔ Sound s t) → b ≡ true
    → DayServes p h s t a s' t' → Days p h s t a s' t'
way-sound p h s t b a s' t' i e f = record { answers = λ _. f; unsound = λ n. absurd (n (i.0 e)) }

pub way-unsound : (p : ℕ) (h : Handed) (s : List ℕ) (t : List Session) (b : Bool) → ((b ≡ true) ↔ Sound s t) → b ≡ false → Days p h s t (Refused 2 0) s t
way-unsound p h s t b i e = record {
  answers = λ A. absurd (true≢false (i.1 A) e);
  unsound = λ n. record { answer = refl; store_same = refl; table_same = refl };
}
