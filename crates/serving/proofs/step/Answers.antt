use Rattle.std.proofs.Common.{rules, sym, ap, ◌∙◌}
use Rattle.outcomes.specs.Refused.{number, refused_by, number_some}
use Rattle.promises.specs.Steps.{step-refuses}
use Rattle.serial.specs.Calls as C
use Rattle.serving.proofs.Refused.{served-refused}
use Rattle.serving.proofs.step.Goals as goal

pub returns-in-Err : goal.returns-in-Err
returns-in-Err c =
    let refusal = c.in-Err.refusal in
    let is = ap refused_by (sym c.in-Err.is) ∙ c.check_step.ensures in
    served-refused (C.step c.args.p c.args.list.now) refusal c.refused.ensures (step-refuses _ _ _ _ (number refusal) c.requires is (number_some refusal))
