use mathlib.Core.Path.{refl}
use Prim.Native.Nat.{◌-◌, ◌≤◌}
use native.Mathlib.Omega.{arith}
use borrow.Author.Rules.{rules}
use Rattle.sessions.specs.Sessions.{parties}
use Rattle.holders.specs.Holders.{sessions_with}
use Rattle.passing.specs.Asked.{needs_gap}
use Rattle.holders.proofs.Turns.{Masking, mask-more, mask_end}
use Rattle.passing.proofs.needing_gap.Given as goal

abbrev pub invariant-loop-p : goal.invariant-loop-p
invariant-loop-p l = Masking (sessions_with (needs_gap l.key l.next) l.t) (needs_gap l.key l.next) l.t l.mask l.p (parties - l.p)
