use Prim.Native.Nat.{◌+◌, ◌-◌, ◌≤◌}
use native.Mathlib.Omega.{arith}
use borrow.Author.Tests.{not-true, not-false}
use borrow.Author.Rules.{rules}
use Rattle.marks.specs.Steps.{has-entry}
use Rattle.holders.specs.Holders.{entries_from}
use Rattle.holders.proofs.Turns.{Entering, entry-start, entry-bad, entry_more, entry-end}
use Rattle.holders.proofs.entries_ok.Goals as goal

pub loop-e-init : goal.loop-e-init
loop-e-init c = entry-start (omega arith)

pub entry_word-share-requires : goal.entry_word-share-requires
entry_word-share-requires c = has-entry c.args.records.inside (c.loop-e.auto.e, omega arith)

pub entry_word-exclusive-requires : goal.entry_word-exclusive-requires
entry_word-exclusive-requires c = has-entry c.args.records.inside (c.loop-e.auto.e, omega arith)

pub returns-then-not-holders_ok : goal.returns-then-not-holders_ok
returns-then-not-holders_ok c = entry-bad c.loop-e.invariant (omega arith) c.entry_word-share.ensures c.entry_word-exclusive.ensures c.holders_ok.ensures c.if-not-holders_ok.true

pub loop-e-preserved : goal.loop-e-preserved
loop-e-preserved c = entry_more c.loop-e.invariant (omega arith) c.entry_word-share.ensures c.entry_word-exclusive.ensures c.holders_ok.ensures c.if-not-holders_ok.false (omega arith)

pub returns : goal.returns
returns c = entry-end c.loop-e.invariant (omega arith)
