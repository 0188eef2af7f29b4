use mathlib.Core.Path.{refl}
use Prim.Native.Nat.{◌-◌, ◌≤◌}
use native.Mathlib.Omega.{arith}
use borrow.Author.Rules.{rules}
use Rattle.sessions.specs.Sessions.{parties, is_begun}
use Rattle.holders.specs.Holders.{begun_mask, sessions_with}
use Rattle.holders.proofs.Turns.{Masking, mask-more, mask_end}
use Rattle.holders.proofs.begun_mask.Goals as goal

pub loop-p-init : goal.loop-p-init
unfolding begun_mask sessions_with
loop-p-init c = record { is = refl }

pub loop-p-preserved : goal.loop-p-preserved
loop-p-preserved c = mask-more c.loop-p.invariant (omega arith) c.is_begun.ensures c.with_if-mask.ensures (omega arith)

pub returns : goal.returns
returns c = mask_end c.loop-p.invariant (omega arith)
