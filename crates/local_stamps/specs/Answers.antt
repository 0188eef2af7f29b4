-- What the planner may take from the two calls: when each number is answered, and what the lent bytes stand for then.
use Rattle.std.specs.Prelude.{◌≡◌, Bool, cond, ◌||◌, ◌&&◌, List, [], ◌∷◌, ◌⊎◌, ◌↔◌, ℕ, ◌+◌, ◌*◌, ◌/◌, ◌%◌, ◌≤◌, ◌<◌, eqb, length, get_or, Ok, Err}
use Rattle.std.proofs.Math.Path.{refl}
use Rattle.std.proofs.Common.{sym, ap, subst, ◌∙◌, true≢false, arith, eqb-true, eq-eqb}
use Rattle.std.proofs.Math.Bool.{true, false}
use Rattle.std.proofs.Math.Logic.{inl, inr}
use Rattle.calendar.specs.Tests.{and_left, and_right, and_yes}
use Rattle.calendar.specs.Dates.{month-most}
use Rattle.switches.specs.Switches.{spring, autumn}
use Rattle.stamps.specs.declared.Stamp.{Stamp}
use Rattle.stamps.specs.Stamps.{Reading, first_minute, end_minute, covered, stamp, local, reading, number, marked}
use Rattle.stamps.specs.Minutes.{covered-is, covered-yes}
use Rattle.stamps.specs.Laws.{Proper, LocalHour, Stamps, reads-back, read-covered, one-mark}
use Rattle.stamps.specs.Numbers.{reading_of, Accepted, accepted-late, reading-of, number-back}
use Rattle.stamps.specs.Refused.{Listed, outside-exactly, skipped-any, doubled-any}
use Rattle.local_stamps.specs.Exported.{served, to_utc, bytes_of, accepts, Filled}
use Rattle.stamps.specs.declared.Refusal.TheVariants.{Outside}

-- the base offsets served
pub served-exactly : (b : ℕ) → (served b ≡ true) ↔ ((b ≡ 0) ⊎ ((b ≡ 60) ⊎ (b ≡ 120)))
unfolding served
served-exactly b = (there (eqb b 0) (eqb b 60) (eqb b 120) refl refl refl, back)
  where
    there : (x y z : Bool) → eqb b 0 ≡ x → eqb b 60 ≡ y → eqb b 120 ≡ z → (x || y || z) ≡ true → (b ≡ 0) ⊎ ((b ≡ 60) ⊎ (b ≡ 120))
    there true y z p q r e = inl (eqb-true b 0 p)
    there false true z p q r e = inr (inl (eqb-true b 60 q))
    there false false true p q r e = inr (inr (eqb-true b 120 r))
    there false false false p q r e = absurd (true≢false (sym e))

    back : (b ≡ 0) ⊎ ((b ≡ 60) ⊎ (b ≡ 120)) → (eqb b 0 || eqb b 60 || eqb b 120) ≡ true
    back (inl e) = rw e refl
    back (inr (inl e)) = rw e refl
    back (inr (inr e)) = rw e refl

-- each is one for which the laws are shown
pub served-small : (b : ℕ) → served b ≡ true → b ≤ 180
served-small b e = go ((served-exactly b).0 e)
  where
    go : (b ≡ 0) ⊎ ((b ≡ 60) ⊎ (b ≡ 120)) → b ≤ 180
    go (inl p) = omega arith
    go (inr (inl p)) = omega arith
    go (inr (inr p)) = omega arith

-- ---- from a stamp

-- with a base offset served the answer is the reading's number, else 18
pub by-reading : (b : ℕ) (s : Stamp) {r : Reading} → served b ≡ true → reading b s ≡ r → to_utc b s ≡ number r
unfolding to_utc
by-reading b s e q = ap {A = Bool} (λ c. cond c (number (reading b s)) 18) e ∙ ap number q

pub by-base : (b : ℕ) (s : Stamp) → served b ≡ false → to_utc b s ≡ 18
unfolding to_utc
by-base b s e = ap {A = Bool} (λ c. cond c (number (reading b s)) 18) e

-- with one of the two marks t is answered, the other is refused
pub data OneMark (b : ℕ) (s : Stamp) (t : ℕ) : Type 0 where
  with_summer : to_utc b (marked 1 s) ≡ t → to_utc b (marked 2 s) ≡ 18 → OneMark b s t
  with_winter : to_utc b (marked 1 s) ≡ 18 → to_utc b (marked 2 s) ≡ t → OneMark b s t

module _ (b : ℕ) (s : Stamp) where
  -- with a base offset served each number tells the reading
  tells : {n : ℕ} → to_utc b s ≡ n → served b ≡ true → reading b s ≡ reading_of n
  tells e h = number-back b s ∙ ap reading_of (sym (by-reading b s h refl) ∙ e)

  exactly : (n : ℕ) → (n ≡ 18 → ⊥) → number (reading_of n) ≡ n → (to_utc b s ≡ n) ↔ ((served b ≡ true) × (reading b s ≡ reading_of n))
  exactly n ne same = (there (served b) refl, λ q. by-reading b s q.0 q.1 ∙ same)
    where
      there : (c : Bool) → served b ≡ c → to_utc b s ≡ n → (served b ≡ true) × (reading b s ≡ reading_of n)
      there true h e = (h, tells e h)
      there false h e = absurd (ne (sym e ∙ by-base b s h))

  -- an answer that is no refusal is the UTC minute that the stamp reads as
  pub answers-minute : (t : ℕ) → ((to_utc b s ≡ t) × Accepted t) ↔ ((served b ≡ true) × (reading b s ≡ Ok t) × (first_minute ≤ t) × (t < end_minute))
  answers-minute t = (λ q. there q.0 q.1, λ q. (by-reading b s q.0 q.1, accepted-late q.2))
    where
      there : to_utc b s ≡ t → Accepted t → (served b ≡ true) × (reading b s ≡ Ok t) × (first_minute ≤ t) × (t < end_minute)
      there e a =
          let p = reading-of t a in
          let q = (exactly t a.0 (ap number p)).0 e in
          let k = read-covered b s t (q.1 ∙ p) in
          (q.0, q.1 ∙ p, k.0, k.1)

  -- 18 as document 02 lists it
  pub refused-18 : (to_utc b s ≡ 18) ↔ ((served b ≡ false) ⊎ Listed b s)
  unfolding reading_of
  refused-18 = (there (served b) refl, back (served b) refl)
    where
      there : (c : Bool) → served b ≡ c → to_utc b s ≡ 18 → (served b ≡ false) ⊎ Listed b s
      there true h e = inr ((outside-exactly b s).0 (tells e h))
      there false h e = inl h

      back : (c : Bool) → served b ≡ c → (served b ≡ false) ⊎ Listed b s → to_utc b s ≡ 18
      back c h (inl q) = by-base b s q
      back true h (inr q) = by-reading b s h ((outside-exactly b s).1 q)
      back false h (inr q) = by-base b s h

  in-hour : (n : ℕ) (switch : ℕ → ℕ) → (n ≡ 18 → ⊥) → number (reading_of n) ≡ n → (reading b s ≡ reading_of n) ↔ ((s.mark ≡ 0) × Proper s × LocalHour b switch (local s))
      → (to_utc b s ≡ n) ↔ ((served b ≡ true) × (s.mark ≡ 0) × Proper s × LocalHour b switch (local s))
  in-hour n switch ne same h =
      (λ e. let q = (exactly n ne same).0 e in let k = h.0 q.1 in (q.0, k.0, k.1, k.2), λ q. (exactly n ne same).1 (q.0, h.1 (q.1, q.2, q.3)))

  -- 19 exactly for a stamp with no mark in the skipped hour, 20 exactly for one in the doubled hour
  pub refused-19 : (to_utc b s ≡ 19) ↔ ((served b ≡ true) × (s.mark ≡ 0) × Proper s × LocalHour b spring (local s))
  unfolding reading_of
  refused-19 = in-hour 19 spring (λ e. omega arith) refl (skipped-any b s)

  pub refused-20 : (to_utc b s ≡ 20) ↔ ((served b ≡ true) × (s.mark ≡ 0) × Proper s × LocalHour b autumn (local s))
  unfolding reading_of
  refused-20 = in-hour 20 autumn (λ e. omega arith) refl (doubled-any b s)

  -- an accepted stamp with no mark reads as with the one mark that is accepted
  pub unmarked-one : s.mark ≡ 0 → Accepted (to_utc b s) → OneMark b s (to_utc b s)
  unmarked-one m a = let q = (answers-minute (to_utc b s)).0 (refl, a) in go q.0 (one-mark b s (to_utc b s) m q.1)
    where
      go : {t : ℕ} → served b ≡ true
          → ((reading b (marked 1 s) ≡ Ok t) × (reading b (marked 2 s) ≡ Err Outside)) ⊎ ((reading b (marked 1 s) ≡ Err Outside) × (reading b (marked 2 s) ≡ Ok t)) → OneMark b s t
      go e (inl q) = with_summer (by-reading b _ e q.0) (by-reading b _ e q.1)
      go e (inr q) = with_winter (by-reading b _ e q.0) (by-reading b _ e q.1)

-- the stamp of a minute converts back to it
pub back : (b t : ℕ) → served b ≡ true → first_minute ≤ t → t < end_minute → to_utc b (stamp b t) ≡ t
back b t e l h = by-reading b (stamp b t) e (reads-back b t (served-small b e) l h).reads

-- ---- to a stamp

-- the six numbers that seven bytes stand for
unfoldable pub stamp_from : List ℕ → Stamp
stamp_from l =
    record { year = get_or l 0 0 * 256 + get_or l 1 0; month = get_or l 2 0; day = get_or l 3 0; hour = get_or l 4 0; minute = get_or l 5 0; mark = get_or l 6 0 }

pub stamp-from : (s : Stamp) → stamp_from (bytes_of s) ≡ s
unfolding stamp_from bytes_of
stamp-from s = ap (λ (y : ℕ). record { year = y; month = s.month; day = s.day; hour = s.hour; minute = s.minute; mark = s.mark }) whole
  where
    whole : s.year / 256 * 256 + s.year % 256 ≡ s.year
    whole = omega arith

abbrev pub Bytes : List ℕ → Type 0
Bytes [] = Unit {0}
Bytes (x ∷ l) = (x < 256) × Bytes l

-- seven bytes that stand for a stamp with a mark, and the stamp converts to the minute t
pub record ReadsBack (b t : ℕ) (l : List ℕ) : Type 0 where
  pub seven : length l ≡ 7
  pub bytes : Bytes l
  pub marks : ((stamp_from l).mark ≡ 1) ⊎ ((stamp_from l).mark ≡ 2)
  pub converts : to_utc b (stamp_from l) ≡ t

are-bytes : {s : Stamp} → Proper s → (length (bytes_of s) ≡ 7) × Bytes (bytes_of s)
unfolding bytes_of
are-bytes {s} p = (refl, (omega arith, (omega arith, (omega arith, (omega (arith, month-most s.year s.month), (omega arith, (omega arith, (omega arith, tt))))))))

bytes_back : (b t : ℕ) → served b ≡ true → first_minute ≤ t → t < end_minute → ReadsBack b t (bytes_of (stamp b t))
bytes_back b t e l h =
    record {
      seven = (are-bytes k.proper).0;
      bytes = (are-bytes k.proper).1;
      marks = subst (λ (s : Stamp). (s.mark ≡ 1) ⊎ (s.mark ≡ 2)) (sym (stamp-from (stamp b t))) k.marks;
      converts = ap (to_utc b) (stamp-from (stamp b t)) ∙ back b t e l h;
    }
  where
    k : Stamps b t (stamp b t)
    k = reads-back b t (served-small b e) l h

-- what the second call tests
accepts-exactly : (b t n : ℕ) → (accepts b t n ≡ true) ↔ ((served b ≡ true) × (first_minute ≤ t) × (t < end_minute) × (n ≡ 7))
unfolding accepts
accepts-exactly b t n = (λ e. there (and_left (served b) _ e) (and_right (served b) _ e), λ q. and_yes q.0 (and_yes (covered-yes q.1 q.2) (eq-eqb n 7 q.3)))
  where
    there : served b ≡ true → (covered t && eqb n 7) ≡ true → (served b ≡ true) × (first_minute ≤ t) × (t < end_minute) × (n ≡ 7)
    there e f = let c = covered-is t (and_left (covered t) _ f) in (e, c.0, c.1, eqb-true n 7 (and_right (covered t) _ f))

module _ {b t r : ℕ} {old new : List ℕ} (f : Filled b t old r new) where
  -- 0 is answered exactly for a base offset served, a UTC minute of the years covered and seven bytes
  pub accepted-exactly : (r ≡ 0) ↔ ((served b ≡ true) × (first_minute ≤ t) × (t < end_minute) × (length old ≡ 7))
  accepted-exactly = (there (accepts b t (length old)) refl f.answers, λ q. f.answers ∙ ap {A = Bool} (λ c. cond c 0 18) ((accepts-exactly b t (length old)).1 q))
    where
      there : (c : Bool) → accepts b t (length old) ≡ c → r ≡ cond c 0 18 → r ≡ 0 → (served b ≡ true) × (first_minute ≤ t) × (t < end_minute) × (length old ≡ 7)
      there true e a z = (accepts-exactly b t (length old)).0 e
      there false e a z = absurd (omega arith)

  -- a refusal is 18 and writes nothing
  pub refused-nothing : (r ≡ 0 → ⊥) → (r ≡ 18) × (new ≡ old)
  refused-nothing n = go (accepts b t (length old)) f.answers f.leaves
    where
      go : (c : Bool) → r ≡ cond c 0 18 → new ≡ cond c (bytes_of (stamp b t)) old → (r ≡ 18) × (new ≡ old)
      go true z l = absurd (n z)
      go false z l = (z, l)

  -- else the bytes are those of the minute's stamp, and it converts back
  pub holds-stamp : r ≡ 0 → new ≡ bytes_of (stamp b t)
  holds-stamp z = f.leaves ∙ ap {A = Bool} (λ c. cond c (bytes_of (stamp b t)) old) ((accepts-exactly b t (length old)).1 (accepted-exactly.0 z))

  pub read_back : r ≡ 0 → ReadsBack b t new
  read_back z = let q = accepted-exactly.0 z in subst (ReadsBack b t) (sym (holds-stamp z)) (bytes_back b t q.0 q.1 q.2)
