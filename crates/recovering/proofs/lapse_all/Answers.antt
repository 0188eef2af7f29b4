use mathlib.Core.Path.{refl}
use native.Mathlib.Omega.{arith}
use Rattle.recovering.specs.Recovering.{lapsed_all, going-ready, going_more, going_end}
use Rattle.recovering.proofs.lapse_all.Goals as goal

pub loop-p-init : goal.loop-p-init
unfolding lapsed_all
loop-p-init c = record { ready = c.requires; is = refl }

pub lapse_words-requires : goal.lapse_words-requires
lapse_words-requires c = going-ready _ c.loop-p.invariant (omega arith) (omega arith)

pub loop-p-preserved : goal.loop-p-preserved
loop-p-preserved c = going_more _ c.loop-p.invariant (omega arith) (omega arith) (omega arith) c.lapse_words.ensures c.lapse_session.ensures (omega arith)

pub returns : goal.returns
returns c = going_end c.loop-p.invariant (omega arith)
