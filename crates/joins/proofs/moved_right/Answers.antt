use Rattle.joins.specs.Runs.{moved-right-run}
use Rattle.joins.proofs.moved_right.Goals as goal

pub move_from_left-requires : goal.move_from_left-requires
move_from_left-requires c =
    rw (c.load-left.ensures, c.load-right.ensures) (c.requires.two, c.requires.most, c.requires.room)

pub returns : goal.returns
returns c = moved-right-run _ _ _ _ _ c.load-left.ensures c.load-right.ensures c.move_from_left.ensures
