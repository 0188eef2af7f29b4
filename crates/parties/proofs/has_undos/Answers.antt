use mathlib.Core.Path.{refl}
use Prim.Native.Nat.{◌-◌, ◌≤◌}
use native.Mathlib.Omega.{arith}
use borrow.Author.Rules.{rules}
use Rattle.sessions.specs.Sessions.{parties}
use Rattle.parties.specs.Parties.{has_undos}
use Rattle.parties.proofs.Turns.{Seeking, behind, seek_found, seek-more, seek-end}
use Rattle.parties.proofs.has_undos.Goals as goal

pub loop-s-init : goal.loop-s-init
unfolding has_undos
loop-s-init c = record { is = refl }

pub returns-then-s-ne0 : goal.returns-then-s-ne0
returns-then-s-ne0 c = seek_found c.loop-s.invariant (omega arith) (behind c.args.t (parties - 1) c.loop-s.s-index (omega arith)) c.if-s-ne0.true

pub loop-s-preserved : goal.loop-s-preserved
loop-s-preserved c = seek-more c.loop-s.invariant (omega arith) (behind c.args.t (parties - 1) c.loop-s.s-index (omega arith)) c.if-s-ne0.false (omega arith) (omega arith)

pub returns : goal.returns
returns c = seek-end c.loop-s.invariant (omega arith)
