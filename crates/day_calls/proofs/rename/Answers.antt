use Rattle.day_calls.specs.Calling.{renamed}
use Rattle.outcomes.specs.Said.{said}
use Rattle.outcomes.specs.declared.Answer.TheVariants as A
use mathlib.Core.Path.{◌≡◌, sym, ap, ◌∙◌}
use borrow.Author.Rules.{rules}
use Rattle.day_calls.proofs.rename.Goals as goal

pub returns-in-Ok : goal.returns-in-Ok
returns-in-Ok c = let e : c.args.a ≡ A.Ok = search rules in ap (λ z. renamed c.args.n c.args.j (said z)) (sym e)

pub returns-in-More : goal.returns-in-More
returns-in-More c = let e : c.args.a ≡ A.More = search rules in ap (λ z. renamed c.args.n c.args.j (said z)) (sym e)
