use Rattle.std.proofs.Common.{rules, sym, ap, subst, ◌∙◌}
use Rattle.outcomes.specs.declared.Ran.{Ran}
use Rattle.outcomes.specs.Said.{said}
use Rattle.outcomes.specs.Refused.{number, refused_by, number_some}
use Rattle.promises.specs.Runs.{Runs}
use Rattle.promises.specs.Steps.{step-refuses}
use Rattle.promises.specs.Ways.{any-party}
use Rattle.promises.specs.Making.{serves-makes, run-refused}
use Rattle.running.proofs.run.Goals as goal

pub returns-in-Err : goal.returns-in-Err
returns-in-Err c =
    let refusal = c.in-Err.refusal in
    let is = ap refused_by (sym c.in-Err.is) ∙ c.check_step.ensures in
    subst (λ (r : Ran). Runs c.args.p c.args.bound c.args.store.now c.args.t c.args.list.now (said r.answer) r.steps c.args.list.now c.args.store.now r.table) (sym c.refused.ensures)
    (run-refused _ _ _ _ _ _ _ (serves-makes _ _ _ _ _ _ _ c.requires (step-refuses _ _ _ _ (number refusal) c.requires is (number_some refusal))))

pub settle-after-requires : goal.settle-after-requires
settle-after-requires c = any-party _ _ (sym c.check_step.ensures ∙ ap refused_by c.in_default.is)
