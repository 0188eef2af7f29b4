use mathlib.Core.Path.{◌≡◌, refl}
use native.Mathlib.Omega.{arith}
use borrow.Author.Rules.{rules}
use lib.ListN.{length}
use Rattle.sessions.specs.Sessions.{parties}
use Rattle.seniority.proofs.Turns.{rank-start, rank-more, rank-end}
use Rattle.seniority.proofs.renumbered.Goals as goal

pub loop-p-init : goal.loop-p-init
loop-p-init c = rank-start _

pub loop-p-preserved : goal.loop-p-preserved
loop-p-preserved c = rank-more c.loop-p.invariant (omega arith) (let z : length c.args.t ≡ parties = search rules in omega arith) c.ranked.ensures refl

pub returns : goal.returns
returns c = rank-end c.loop-p.invariant (let z : length c.args.t ≡ parties = search rules in omega arith)
