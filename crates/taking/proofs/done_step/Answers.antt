use Rattle.taking.specs.Runs.{done-run, held-ends}
use Rattle.taking.proofs.done_step.Goals as goal

pub end_request-y-requires : goal.end_request-y-requires
end_request-y-requires c = held-ends _ _ _ _ _ c.requires c.hold_locate.ensures

pub returns : goal.returns
returns c = done-run _ _ _ _ _ _ c.hold_locate.ensures c.end_request-y.ensures
