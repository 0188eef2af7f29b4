use mathlib.Core.Path.{◌≡◌, refl}
use Prim.Native.Nat.{◌-◌, ◌≤◌}
use native.Mathlib.Omega.{arith}
use lib.ListN.{length}
use borrow.Author.Tests.{not-true, not-false}
use borrow.Author.Rules.{rules}
use Rattle.sessions.specs.Sessions.{parties}
use Rattle.parties.specs.Parties.{all_undos}
use Rattle.parties.proofs.Turns.{Taking, take-bad, take_more, take-end}
use Rattle.parties.proofs.all_undos.Given as goal

abbrev pub invariant-loop-p : goal.invariant-loop-p
invariant-loop-p l = (length l.seen ≡ length l.initial.seen) × (length l.files ≡ length l.initial.files) × Taking (all_undos l.records.store.now l.records.m l.records.r l.t l.initial.seen l.initial.files l.left) l.records.store.now l.records.m l.records.r l.t l.seen l.files l.more l.p (parties - l.p)
