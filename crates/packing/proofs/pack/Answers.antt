use mathlib.Core.Path.{◌≡◌, sym, subst}
use borrow.Author.Rules.{rules}
use Rattle.outcomes.specs.declared.Answer.TheVariants.{Ok, More}
use Rattle.outcomes.specs.Said.{said}
use Rattle.packing.specs.Packed.{Packs}
use Rattle.packing.proofs.pack.Goals as goal

pub returns-in-Ok : goal.returns-in-Ok
returns-in-Ok c =
    let e : c.args.a ≡ Ok = search rules in
    subst (λ z. Packs (said z) c.boxed.result) (sym e) (record { is = c.boxed.ensures.0; words = tt })

pub returns-in-More : goal.returns-in-More
returns-in-More c =
    let e : c.args.a ≡ More = search rules in
    subst (λ z. Packs (said z) c.boxed-in-More.result) (sym e) (record { is = c.boxed-in-More.ensures.0; words = tt })
