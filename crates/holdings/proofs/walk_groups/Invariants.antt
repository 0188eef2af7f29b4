use mathlib.Core.Path.{◌≡◌, refl, ◌∙◌}
use Prim.Native.Nat.{◌-◌, ◌≤◌}
use native.Mathlib.Omega.{arith}
use lib.ListN.{length}
use borrow.Author.Tests.{not-true, not-false}
use borrow.Author.Rules.{rules}
use Rattle.passing.specs.Passed.{Knows}
use Rattle.holdings.specs.Holdings.{all_groups}
use Rattle.passing.proofs.Passing.{covers_at}
use Rattle.holdings.proofs.Turns.{Grouping, group-start, group-bad, group-more, group-end}
use Rattle.holdings.proofs.walk_groups.Given as goal

abbrev pub invariant-loop-k : goal.invariant-loop-k
invariant-loop-k l = (length l.seen ≡ length l.initial.seen) × (length l.lists ≡ length l.initial.lists) × Knows l.t l.so × Grouping (all_groups l.records.store.now l.order l.tally l.files l.records.m l.records.r l.begun l.t l.count l.initial.seen l.initial.lists l.left) l.records.store.now l.order l.tally l.files l.records.m l.records.r l.begun l.t l.count l.seen l.lists l.more l.k (l.count - l.k)
