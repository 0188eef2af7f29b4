use mathlib.Core.Path.{refl}
use Prim.Native.Nat.{◌-◌, ◌≤◌}
use native.Mathlib.Omega.{arith}
use borrow.Author.Rules.{rules}
use Rattle.sessions.specs.Sessions.{parties, is_begun}
use Rattle.holders.specs.Holders.{begun_mask, sessions_with}
use Rattle.holders.proofs.Turns.{Masking, mask-more, mask_end}
use Rattle.holders.proofs.begun_mask.Given as goal

abbrev pub invariant-loop-p : goal.invariant-loop-p
invariant-loop-p l = Masking (begun_mask l.t) is_begun l.t l.mask l.p (parties - l.p)
