use Rattle.std.proofs.Common.{rules, sym, subst}
use Rattle.outcomes.specs.declared.Ran.{Ran}
use Rattle.outcomes.specs.Said.{said}
use Rattle.promises.specs.Runs.{Requests}
use Rattle.batches.specs.Making.{ask-goes, ask-stops}
use Rattle.batches.proofs.request.Goals as goal

pub returns-then-is_ok : goal.returns-then-is_ok
returns-then-is_ok c = ask-goes _ c.put-served.result.answer c.requires c.put-served.ensures c.is_ok.ensures c.if-is_ok.true c.run.ensures

pub returns : goal.returns
returns c =
    subst (λ (r : Ran). Requests c.args.p c.args.code c.args.entry c.args.first c.args.second c.args.bound c.args.store.now c.args.t c.args.list.now (said r.answer) r.steps c.args.list.now c.args.store.now r.table) (sym c.counted.ensures)
    (ask-stops c.put-served.result.answer c.requires c.put-served.ensures c.is_ok.ensures c.if-is_ok.false)
