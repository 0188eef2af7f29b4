use mathlib.Core.Path.{refl}
use Prim.Native.Nat.{◌-◌, ◌≤◌}
use native.Mathlib.Omega.{arith}
use borrow.Author.Tests.{not-true, not-false}
use borrow.Author.Rules.{rules}
use Rattle.sessions.specs.Sessions.{parties}
use Rattle.parties.specs.Parties.{marks_ok}
use Rattle.parties.proofs.Turns.{Marking, mark-bad, mark-more, mark-end}
use Rattle.parties.proofs.marks_ok.Goals as goal

pub loop-p-init : goal.loop-p-init
unfolding marks_ok
loop-p-init c = record { is = refl }

pub returns-then-not-mark_ok : goal.returns-then-not-mark_ok
returns-then-not-mark_ok c = mark-bad c.loop-p.invariant (omega arith) c.mark_ok.ensures c.if-not-mark_ok.true

pub loop-p-preserved : goal.loop-p-preserved
loop-p-preserved c = mark-more c.loop-p.invariant (omega arith) c.mark_ok.ensures c.if-not-mark_ok.false (omega arith)

pub returns : goal.returns
returns c = mark-end c.loop-p.invariant (omega arith)
