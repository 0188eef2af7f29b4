use Prim.Native.Nat.{◌-◌, ◌≤◌}
use native.Mathlib.Omega.{arith}
use borrow.Author.Rules.{rules}
use Rattle.sessions.specs.Sessions.{parties}
use Rattle.parties.specs.Parties.{standing_at_nodes}
use Rattle.parties.proofs.Turns.{Counting, count-more, count-end, one-le}
use Rattle.parties.proofs.standing_at_nodes.Given as goal

abbrev pub invariant-loop-p : goal.invariant-loop-p
invariant-loop-p l = (l.n ≤ l.p) × Counting (standing_at_nodes l.t) l.t l.n l.p (parties - l.p)
