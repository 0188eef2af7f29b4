use Rattle.std.proofs.Common.{rules, sym, ap, ◌∙◌}
use Rattle.outcomes.specs.Refused.{number, refused_by, number_some}
use Rattle.promises.specs.Ways.{put-refuses}
use Rattle.serial.specs.Calls as C
use Rattle.serving.proofs.Refused.{served-refused}
use Rattle.serving.proofs.put.Goals as goal

pub returns-in-Err : goal.returns-in-Err
returns-in-Err c =
    let refusal = c.in-Err.refusal in
    let is = ap refused_by (sym c.in-Err.is) ∙ c.check_put.ensures in
    served-refused (C.put c.args.p c.args.code c.args.entry c.args.first c.args.second) refusal c.refused.ensures (put-refuses _ _ _ _ _ _ _ _ (number refusal) c.requires c.entries-m.ensures is (number_some refusal))
