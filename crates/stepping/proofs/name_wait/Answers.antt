use mathlib.Core.Path.{◌≡◌, refl}
use Rattle.outcomes.specs.declared.Answer.TheVariants.{Ok, More}
use Rattle.promises.specs.Naming.{kept_answer, named-answer}
use borrow.Author.Rules.{rules}
use Rattle.stepping.proofs.name_wait.Goals as goal

pub returns-in-Ok : goal.returns-in-Ok
returns-in-Ok c = let e : c.args.a ≡ Ok = search rules in kept_answer _ _ _ _ _ _ e refl

pub returns-in-More : goal.returns-in-More
returns-in-More c = let e : c.args.a ≡ More = search rules in kept_answer _ _ _ _ _ _ e refl
