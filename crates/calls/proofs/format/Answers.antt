use Rattle.std.proofs.Common.{rules, sym, ap, ◌∙◌}
use Rattle.outcomes.specs.Refused.{number, refused_by, number_some}
use Rattle.promises.specs.Relations.{Formats}
use Rattle.promises.specs.Ways.{format-refuses}
use Rattle.calls.proofs.Refused.{refused-keeps}
use Rattle.calls.proofs.format.Goals as goal

pub returns-in-Err : goal.returns-in-Err
returns-in-Err c =
    let refusal = c.in-Err.refusal in
    let is = ap refused_by (sym c.in-Err.is) ∙ c.check_format.ensures in
    refused-keeps refusal (λ a u. Formats c.args.m c.args.store.now c.args.t a c.args.store.now u) c.refused.ensures (format-refuses _ _ _ (number refusal) is (number_some refusal))
