use Rattle.std.proofs.Common.{rules, sym, ap, ◌∙◌}
use Rattle.outcomes.specs.Refused.{number, refused_by, number_some}
use Rattle.promises.specs.Ways.{abort-refuses}
use Rattle.serial.specs.Calls as C
use Rattle.serving.proofs.Refused.{served-refused}
use Rattle.serving.proofs.abort.Goals as goal

pub returns-in-Err : goal.returns-in-Err
returns-in-Err c =
    let refusal = c.in-Err.refusal in
    let is = ap refused_by (sym c.in-Err.is) ∙ c.check_abort.ensures in
    served-refused (C.abort c.args.p) refusal c.refused.ensures (abort-refuses _ _ _ (number refusal) c.requires is (number_some refusal))
