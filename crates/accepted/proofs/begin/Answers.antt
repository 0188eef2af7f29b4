use native.Mathlib.Omega.{arith}
use Rattle.seniority.specs.Laws.{begun-few}
use Rattle.promises.specs.Ways.{session-party, begin-run}
use borrow.Author.Rules.{rules}
use Rattle.accepted.proofs.begin.Goals as goal

pub overflow_add-count : goal.overflow_add-count
overflow_add-count c = omega (arith, c.begun_count-count.ensures, begun-few c.args.t)

pub settle-after-requires : goal.settle-after-requires
settle-after-requires c = session-party _ _ c.requires.1

pub returns : goal.returns
returns c = begin-run _ _ _ c.requires.0 c.requires.1 c.seat-x.ensures c.renumbered-ranked.ensures c.begun_count-count.ensures c.begun_session-y.ensures c.settle-after.ensures
