-- The verdict, test by test.
use Rattle.std.specs.Prelude.{⊤, Result, Ok, Err, ◌≡◌, refl, true, false, cond, ◌&&◌, List, ℕ}
use Rattle.std.proofs.Common.{sym, ◌∙◌, ap}
use Rattle.std.proofs.Math.Option.{Option, none, some}
use Rattle.serial.specs.Serial.{pick, true≢false}
use Rattle.serial.specs.Model.{empty}
use Rattle.journal_lines.specs.Journal.{Line, is_some, lines, or_empty, said, all_proper, all_end, committed, answered?, judged, verdict_on, verdict_of}
use Rattle.journal.specs.declared.Refusal.{Refusal}
use Rattle.journal.specs.declared.Refusal.TheVariants.{Unreadable, Disorderly, Unanswered}
use Rattle.journal.specs.Fits.{fits_all, test-17}
use Rattle.journal.specs.Loops.{Past16}

judged-of : (o : Option (List Line)) → is_some o ≡ true → judged (or_empty o) ≡ verdict_on o
judged-of none h = absurd (true≢false h refl)
judged-of (some ls) h = refl

fifteen : (o : Option (List Line)) → is_some o ≡ false → 15 ≡ verdict_on o
fifteen none h = refl
fifteen (some ls) h = absurd (true≢false refl h)

pub verdict-15 : (bs : List ℕ) → is_some (lines bs) ≡ false → 15 ≡ verdict_of bs
unfolding verdict_of
verdict-15 bs h = fifteen (lines bs) h

pub verdict-16 : (bs : List ℕ) → is_some (lines bs) ≡ true → (all_proper (said bs) && all_end (said bs)) ≡ false → 16 ≡ verdict_of bs
unfolding verdict_of judged
verdict-16 bs h k = sym (ap (λ b. cond b (pick (answered? (committed (said bs))) 0 17) 16) k) ∙ judged-of (lines bs) h

verdict-past : (bs : List ℕ) → Past16 bs → cond (fits_all (committed (said bs)) empty) 0 17 ≡ verdict_of bs
unfolding verdict_of judged
verdict-past bs o = sym (test-17 (committed (said bs))) ∙ sym (ap (λ b. cond b (pick (answered? (committed (said bs))) 0 17) 16) o.orderly) ∙ judged-of (lines bs) o.readable

pub verdict-17 : (bs : List ℕ) → Past16 bs → fits_all (committed (said bs)) empty ≡ false → 17 ≡ verdict_of bs
verdict-17 bs o h = sym (ap (λ b. cond b 0 17) h) ∙ verdict-past bs o

pub verdict-0 : (bs : List ℕ) → Past16 bs → fits_all (committed (said bs)) empty ≡ true → 0 ≡ verdict_of bs
verdict-0 bs o h = sym (ap (λ b. cond b 0 17) h) ∙ verdict-past bs o

-- ---- a Result and its number

abbrev pub refusal_number : Refusal → ℕ
refusal_number Unreadable = 15
refusal_number Disorderly = 16
refusal_number Unanswered = 17

abbrev pub number_of : Result ⊤ Refusal → ℕ
number_of (Ok x) = 0
number_of (Err r) = refusal_number r
