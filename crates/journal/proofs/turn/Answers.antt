use Rattle.std.proofs.Common.{rules, ne_eqb}
use Rattle.journal.specs.Loops.{turn-other, turn-feedable, turn-line}
use Rattle.journal.proofs.turn.Goals as goal

pub returns-then-r-run : goal.returns-then-r-run
returns-then-r-run c = rw (ne_eqb c.args.r.run c.args.run c.if-r-run.true) (turn-other _ _ _ _ _ _ _ c.if-r-run.true c.requires.ready)

pub feed_line-requires : goal.feed_line-requires
feed_line-requires c = turn-feedable _ _ _ _ _ _ _ (search rules) c.requires

pub returns-else-r-run : goal.returns-else-r-run
returns-else-r-run c = turn-line _ _ _ (search rules) c.feed_line.ensures
