use mathlib.Core.Path.{◌≡◌, refl}
use Prim.Native.Nat.{◌-◌, ◌≤◌}
use native.Mathlib.Omega.{arith}
use lib.ListN.{length}
use borrow.Author.Tests.{not-true, not-false}
use borrow.Author.Rules.{rules}
use Rattle.sessions.specs.Sessions.{parties}
use Rattle.parties.specs.Parties.{parties_ok}
use Rattle.parties.proofs.Turns.{Standing, stand-bad, stand-more, stand-end}
use Rattle.parties.proofs.parties_ok.Given as goal

abbrev pub invariant-loop-p : goal.invariant-loop-p
invariant-loop-p l = (length l.tally ≡ length l.initial.tally) × Standing (parties_ok l.records.store.now l.seen l.records.m l.records.r l.t l.initial.tally) l.records.store.now l.seen l.records.m l.records.r l.t l.tally l.p (parties - l.p)
