use native.Mathlib.Omega.{arith}
use lib.Dec.{lit<}
use Rattle.nodes.specs.Paths.{has-at}
use Rattle.arriving.specs.Runs.{pin-ready, make-ready, session-pins, session-makes}
use Rattle.arriving.proofs.session_step.Goals as goal

pub word-key-requires : goal.word-key-requires
word-key-requires c = (has-at c.requires.toward.son (omega arith) c.son_toward-d.ensures, lit< tt)

pub pin_step-requires : goal.pin_step-requires
pin_step-requires c = pin-ready _ _ _ _ c.son_toward-d.ensures c.word-key.ensures c.requires c.if-key-x.true

pub returns-then-key-x : goal.returns-then-key-x
returns-then-key-x c = session-pins _ _ _ _ c.son_toward-d.ensures c.word-key.ensures _ _ c.if-key-x.true c.pin_step.ensures

pub make_step-requires : goal.make_step-requires
make_step-requires c = make-ready _ _ _ _ c.son_toward-d.ensures c.word-key.ensures c.requires c.if-key-x.false

pub returns : goal.returns
returns c = session-makes _ _ _ _ c.son_toward-d.ensures c.word-key.ensures _ _ c.if-key-x.false c.make_step.ensures
