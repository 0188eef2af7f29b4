use Prim.Native.Nat.{◌+◌, ◌-◌, ◌≤◌}
use native.Mathlib.Omega.{arith}
use borrow.Author.Tests.{not-true, not-false}
use borrow.Author.Rules.{rules}
use Rattle.marks.specs.Steps.{has-entry}
use Rattle.holders.specs.Holders.{entries_from}
use Rattle.holders.proofs.Turns.{Entering, entry-start, entry-bad, entry_more, entry-end}
use Rattle.holders.proofs.entries_ok.Given as goal

abbrev pub invariant-loop-e : goal.invariant-loop-e
invariant-loop-e l = Entering (entries_from l.records.store.now l.begun 1 l.records.m) l.records.store.now l.begun l.e (l.records.m + 1 - l.e)
