use mathlib.Core.Path.{◌≡◌, refl}
use Prim.Native.Nat.{◌-◌, ◌≤◌}
use native.Mathlib.Omega.{arith}
use lib.ListN.{length}
use Rattle.std.proofs.lemmas.Result.{err_from_is_err_and}
use borrow.Author.Tests.{not-true, not-false}
use borrow.Author.Rules.{rules}
use Rattle.sessions.specs.Sessions.{parties}
use Rattle.parties.specs.Parties.{all_undos}
use Rattle.parties.proofs.Turns.{Taking, take-bad, take_more, take-end}
use Rattle.parties.proofs.all_undos.Goals as goal

pub loop-p-init : goal.loop-p-init
unfolding all_undos
loop-p-init c = (refl, refl, record { is = refl })

pub returns-in_err-more : goal.returns-in_err-more
returns-in_err-more c =
    let p = err_from_is_err_and c.from_residual.result c.from_residual.ensures.1 in
    rw (p.1, p.2) (take-bad c.loop-p.invariant.2 (omega arith) c.walk_undos.ensures c.in_err-more.was)

pub loop-p-preserved : goal.loop-p-preserved
loop-p-preserved c = (search rules, search rules, take_more c.loop-p.invariant.2 (omega arith) c.walk_undos.ensures c.in_ok-more.was (omega arith))

pub returns : goal.returns
returns c = take-end c.loop-p.invariant.2 (omega arith)
