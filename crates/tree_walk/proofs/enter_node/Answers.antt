use Rattle.tree_walk.proofs.Turns.{entered, entered-not}
use Rattle.tree_walk.proofs.enter_node.Goals as goal

pub returns-in-Ok : goal.returns-in-Ok
returns-in-Ok c = entered _ _ _ _ c.meet.ensures _ c.in-Ok.is

pub returns-in-Err : goal.returns-in-Err
returns-in-Err c = entered-not _ _ _ _ c.meet.ensures _ c.in-Err.is
