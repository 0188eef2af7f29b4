use mathlib.Core.Path.{refl}
use Prim.Native.Nat.{◌-◌, ◌≤◌}
use native.Mathlib.Omega.{arith}
use borrow.Author.Rules.{rules}
use Rattle.sessions.specs.Sessions.{parties}
use Rattle.holders.specs.Holders.{sessions_with}
use Rattle.passing.specs.Asked.{needs_gap}
use Rattle.holders.proofs.Turns.{Masking, mask-more, mask_end}
use Rattle.passing.proofs.needing_gap.Goals as goal

pub loop-p-init : goal.loop-p-init
unfolding sessions_with
loop-p-init c = record { is = refl }

pub loop-p-preserved : goal.loop-p-preserved
loop-p-preserved c = mask-more c.loop-p.invariant (omega arith) c.needs_gap.ensures c.with_if-mask.ensures (omega arith)

pub returns : goal.returns
returns c = mask_end c.loop-p.invariant (omega arith)
