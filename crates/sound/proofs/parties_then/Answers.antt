use mathlib.Core.Path.{refl}
use Rattle.sound.proofs.Turns.{parties-bad, parties-more, parties-go}
use Rattle.sound.proofs.parties_then.Goals as goal

pub returns-then-not-parties_ok : goal.returns-then-not-parties_ok
returns-then-not-parties_ok c = parties-bad _ _ _ _ _ _ _ _ c.parties_ok.ensures c.if-not-parties_ok.true refl

pub returns-then-standing_at_nodes-latches : goal.returns-then-standing_at_nodes-latches
returns-then-standing_at_nodes-latches c = parties-more _ _ _ _ _ _ _ _ c.parties_ok.ensures c.if-not-parties_ok.false c.standing_at_nodes.ensures c.if-standing_at_nodes-latches.true refl

pub returns : goal.returns
returns c = parties-go _ _ _ _ _ _ _ _ c.parties_ok.ensures c.if-not-parties_ok.false c.standing_at_nodes.ensures c.if-standing_at_nodes-latches.false c.undos_then.ensures
