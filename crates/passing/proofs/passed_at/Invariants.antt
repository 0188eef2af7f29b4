use mathlib.Core.Path.{refl}
use Prim.Native.Nat.{◌-◌, ◌≤◌}
use native.Mathlib.Omega.{arith}
use borrow.Author.Rules.{rules}
use Rattle.sessions.specs.Sessions.{parties}
use Rattle.passing.specs.Passed.{changes_at, lowest_from, passed_at}
use Rattle.holders.specs.Holders.{sessions_with}
use Rattle.passing.specs.Asked.{has_passed}
use Rattle.holders.proofs.Turns.{Masking, mask-more, mask_end}
use Rattle.passing.proofs.Turns.{Lowering, low-more, low_end}
use Rattle.passing.proofs.passed_at.Given as goal

abbrev pub invariant-loop-p : goal.invariant-loop-p
invariant-loop-p l = Masking (sessions_with (has_passed l.key) l.t) (has_passed l.key) l.t l.mask l.p (parties - l.p) × Lowering (lowest_from (changes_at l.key) l.t 4294967296 1 (parties - 1)) (changes_at l.key) l.t l.until l.p (parties - l.p)
