use Rattle.std.proofs.Common.{rules, sym, ap, ◌∙◌}
use Rattle.outcomes.specs.Refused.{number, refused_by, number_some}
use Rattle.promises.specs.Ways.{commit-refuses}
use Rattle.serial.specs.Calls as C
use Rattle.serving.proofs.Refused.{served-refused}
use Rattle.serving.proofs.commit.Goals as goal

pub returns-in-Err : goal.returns-in-Err
returns-in-Err c =
    let refusal = c.in-Err.refusal in
    let is = ap refused_by (sym c.in-Err.is) ∙ c.check_commit.ensures in
    served-refused (C.commit c.args.p) refusal c.refused.ensures (commit-refuses _ _ _ (number refusal) c.requires is (number_some refusal))
