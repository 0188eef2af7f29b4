use Rattle.std.proofs.Common.{arith, ◌∙◌}
use Rattle.calendar.specs.Calendar.{year_days, first_day, year_of}
use Rattle.calendar.proofs.Loops.{find-from}
use Rattle.calendar.proofs.year_of.Goals as goal

pub returns : goal.returns
unfolding year_of first_day
returns c =
    let h = c.near_year-near.ensures in
    c.find.ensures.found year_days (λ k x l p. p) ∙ (find-from h.from h.upto c.first_day.ensures.0 (omega (arith, h.begun))).finds
