use mathlib.Core.Path.{◌≡◌, refl, ◌∙◌}
use Prim.Native.Nat.{◌-◌, ◌≤◌}
use native.Mathlib.Omega.{arith}
use lib.ListN.{length}
use Rattle.std.proofs.lemmas.Result.{err_from_is_err_and}
use borrow.Author.Tests.{not-true, not-false}
use borrow.Author.Rules.{rules}
use Rattle.passing.specs.Passed.{Knows}
use Rattle.holdings.specs.Holdings.{all_groups}
use Rattle.passing.proofs.Passing.{covers_at}
use Rattle.holdings.proofs.Turns.{Grouping, group-start, group-bad, group-more, group-end}
use Rattle.holdings.proofs.walk_groups.Goals as goal

pub loop-k-init : goal.loop-k-init
loop-k-init c = (refl, refl, (covers_at _ _ (omega arith) c.passed_at-so.ensures).knows, group-start (omega arith))

pub overflow_cast-d : goal.overflow_cast-d
overflow_cast-d c = omega (arith, c.shared_slice_known-in-loop-k-1.given c.loop-k.k)

pub passed_next-so-requires : goal.passed_next-so-requires
passed_next-so-requires c = c.loop-k.invariant.2

pub asked_at-ask-requires : goal.asked_at-ask-requires
asked_at-ask-requires c = c.passed_next-so.ensures

pub group_one-requires : goal.group_one-requires
group_one-requires c = (omega (arith, c.requires.0, c.loop-k.invariant.0), c.requires.1, record { size = c.loop-k.invariant.1 ∙ c.requires.2.size })

pub returns-in_err-more : goal.returns-in_err-more
returns-in_err-more c =
    let p = err_from_is_err_and c.from_residual.result c.from_residual.ensures.1 in
    rw (p.1, p.2) (group-bad c.loop-k.invariant.3 (omega arith) c.key_of-key.ensures c.key_at-next.ensures c.asked_at-ask.ensures c.group_one.ensures c.in_err-more.was)

pub loop-k-preserved : goal.loop-k-preserved
loop-k-preserved c = (search rules, search rules, c.passed_next-so.ensures.knows, group-more c.loop-k.invariant.3 (omega arith) c.key_of-key.ensures c.key_at-next.ensures c.asked_at-ask.ensures c.group_one.ensures c.in_ok-more.was (omega arith))

pub returns : goal.returns
returns c = group-end c.loop-k.invariant.3 (omega arith)
