use mathlib.Core.Path.{◌≡◌, refl}
use Prim.Native.Nat.{◌-◌, ◌≤◌}
use native.Mathlib.Omega.{arith}
use lib.ListN.{length}
use borrow.Author.Tests.{not-true, not-false}
use borrow.Author.Rules.{rules}
use Rattle.sessions.specs.Sessions.{parties}
use Rattle.parties.specs.Parties.{parties_ok}
use Rattle.parties.proofs.Turns.{Standing, stand-bad, stand-more, stand-end}
use Rattle.parties.proofs.parties_ok.Goals as goal

pub loop-p-init : goal.loop-p-init
unfolding parties_ok
loop-p-init c = (refl, record { is = refl })

pub returns-then-not-party_ok : goal.returns-then-not-party_ok
returns-then-not-party_ok c = stand-bad c.loop-p.invariant.1 (omega arith) c.party_ok.ensures c.if-not-party_ok.true

pub loop-p-preserved : goal.loop-p-preserved
loop-p-preserved c = (search rules, stand-more c.loop-p.invariant.1 (omega arith) c.party_ok.ensures c.if-not-party_ok.false (omega arith))

pub returns : goal.returns
returns c = stand-end c.loop-p.invariant.1 (omega arith)
