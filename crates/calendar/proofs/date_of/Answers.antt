use Rattle.calendar.specs.declared.Place.{Place}
use mathlib.Core.Path.{ap}
use Rattle.calendar.specs.Calendar.{year_of}
use native.Mathlib.Omega.{arith}
use Rattle.calendar.specs.Dates.{year-most, year-found}
use borrow.Author.Rules.{rules}
use Rattle.calendar.proofs.date_of.Goals as goal

pub date_in-requires : goal.date_in-requires
date_in-requires c =
    let n = c.args.n in let f = year-found n (search rules) in omega (arith, f.short, year-most (year_of n).at, ap (λ (p : Place). p.rest) c.year_of-p.ensures)
