use Rattle.joins.specs.Runs.{moved-left-run}
use Rattle.joins.proofs.moved_left.Goals as goal

pub move_from_right-requires : goal.move_from_right-requires
move_from_right-requires c =
    rw (c.load-left.ensures, c.load-right.ensures) (c.requires.least, c.requires.room, c.requires.some)

pub returns : goal.returns
returns c = moved-left-run _ _ _ _ _ c.load-left.ensures c.load-right.ensures c.move_from_right.ensures
