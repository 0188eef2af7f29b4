use mathlib.Core.Path.{refl}
use Prim.Native.Nat.{◌-◌, ◌≤◌}
use native.Mathlib.Omega.{arith}
use borrow.Author.Tests.{not-true, not-false}
use borrow.Author.Rules.{rules}
use Rattle.sessions.specs.Sessions.{parties}
use Rattle.parties.specs.Parties.{marks_ok}
use Rattle.parties.proofs.Turns.{Marking, mark-bad, mark-more, mark-end}
use Rattle.parties.proofs.marks_ok.Given as goal

abbrev pub invariant-loop-p : goal.invariant-loop-p
invariant-loop-p l = Marking (marks_ok l.t) l.t l.p (parties - l.p)
