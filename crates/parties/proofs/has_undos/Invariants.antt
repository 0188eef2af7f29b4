use mathlib.Core.Path.{refl}
use Prim.Native.Nat.{◌+◌, ◌-◌, ◌≤◌}
use native.Mathlib.Omega.{arith}
use borrow.Author.Rules.{rules}
use Rattle.sessions.specs.Sessions.{parties}
use Rattle.parties.specs.Parties.{has_undos}
use Rattle.parties.proofs.Turns.{Seeking, seek_found, seek-more, seek-end}
use Rattle.parties.proofs.has_undos.Given as goal

abbrev pub invariant-loop-s : goal.invariant-loop-s
invariant-loop-s l = Seeking (has_undos l.fn.t) l.fn.t (1 + l.s-index) (parties - (1 + l.s-index))
