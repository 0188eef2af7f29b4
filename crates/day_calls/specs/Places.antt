-- The place beside a day call's answer is at most 2,880, twice as many as a day has minutes.
use Rattle.std.specs.Prelude.{◌≡◌, refl, Bool, true, false, cond, List, ℕ, ◌+◌, ◌*◌, ◌≤◌, ◌<◌, leb, ltb}
use Rattle.std.proofs.Common.{sym, subst, arith, leb-true, leb-false}
use Rattle.std.proofs.Math.Decide.{ℕ_discrete}
use Rattle.card_days.specs.Day.{words}
use Rattle.card_days.specs.Laws.{day-few}
use Rattle.sessions.specs.declared.Session.{Session}
use Rattle.serial.specs.Calls as C
use Rattle.outcomes.specs.declared.DayAnswer.{DayAnswer}
use Rattle.outcomes.specs.declared.DayAnswer.TheVariants.{More, Done}
use Rattle.outcomes.specs.Said.{day_place}
use Rattle.meaning.specs.Reading.{M-of}
use Rattle.meaning.specs.Sound.{Sound}
use Rattle.day_calls.specs.Calling.{Handed, day_count, day_refusal, renamed, DayServes, Days}
use Rattle.day_calls.specs.Accepting.{passed}

renamed-few : (n j : ℕ) (a : C.Answer) → n ≤ 1440 → j < 2 * n → day_place (renamed n j a) ≤ 2880
renamed-few n j C.ok f l = omega (arith, f, l)
renamed-few n j C.more f l = omega (arith, f, l)
renamed-few n j (C.wait q) f l = omega (arith, f, l)
renamed-few n j (C.done ns) f l = go (ltb (j + 1) (2 * n))
  where
    go : (b : Bool) → day_place (cond b (More (j + 1)) (Done n (j + 1))) ≤ 2880
    go true = omega (arith, f, l)
    go false = omega (arith, f, l)
renamed-few n j (C.refused i k) f l = omega arith

module _ (p : ℕ) (h : Handed) (s : List ℕ) (t : List Session) (a : DayAnswer) (s' : List ℕ) (t' : List Session) where
  pub served-few-place : DayServes p h s t a s' t' → day_place a ≤ 2880
  served-few-place d = go (ℕ_discrete (day_refusal s t p h) 0)
    where
      go : Dec (day_refusal s t p h ≡ 0) → day_place a ≤ 2880
      go (yes z) =
          let R = d.accepts z in
          let P = passed (M-of s) t p h z in
          subst (λ w. day_place w ≤ 2880) (sym R.answer) (renamed-few (day_count h) h.place R.inner (day-few (words h.bytes) P.is_proper) P.inside)
      go (no n) = subst (λ w. day_place w ≤ 2880) (sym (d.refuses n).answer) (omega arith)

  pub day-few-place : Days p h s t a s' t' → day_place a ≤ 2880
  day-few-place d = go (leb (day_place a) 2880) refl
    where
      go : (b : Bool) → leb (day_place a) 2880 ≡ b → day_place a ≤ 2880
      go true e = leb-true (day_place a) 2880 e
      go false e =
          let n : ¬ Sound s t = λ S. omega (arith, served-few-place (d.answers S), leb-false (day_place a) 2880 e) in
          subst (λ w. day_place w ≤ 2880) (sym (d.unsound n).answer) (omega arith)
