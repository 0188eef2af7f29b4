use Rattle.calendar.specs.declared.Place.{Place}
use mathlib.Core.Path.{ap}
use native.Mathlib.Omega.{arith}
use Rattle.stamps.proofs.Cases.{lies}
use Rattle.stamps.proofs.switches_at.Goals as goal

pub switches_of-requires : goal.switches_of-requires
switches_of-requires c = let i = lies c.args.t c.requires in let e = ap (λ (p : Place). p.at) c.year_of-p.ensures in let a = i.from in let b = i.upto in (omega arith, omega arith)
