use Rattle.finishing.specs.Finishing.{end-run, low-kept, high-kept}
use Rattle.finishing.proofs.end_request.Goals as goal

-- The proof of end_request.
pub end_latch-requires : goal.end_latch-requires
end_latch-requires c = c.requires.node

pub end_low-requires : goal.end_low-requires
end_low-requires c = low-kept c.requires c.end_latch.ensures

pub end_high-requires : goal.end_high-requires
end_high-requires c = high-kept c.requires c.end_latch.ensures c.end_low.ensures

pub returns : goal.returns
returns c = (end-run _ _ _ c.end_latch.ensures c.end_low.ensures c.end_high.ensures, c.idle_session.ensures)
