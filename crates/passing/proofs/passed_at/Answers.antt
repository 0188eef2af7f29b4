use mathlib.Core.Path.{◌≡◌, refl}
use Prim.Native.Nat.{◌-◌, ◌≤◌, min}
use native.Mathlib.Omega.{arith}
use borrow.Author.Rules.{rules}
use Rattle.std.proofs.lemmas.Grind.{common_steps}
use Rattle.sessions.specs.Sessions.{parties}
use Rattle.passing.specs.Passed.{changes_at, lowest_from, passed_at}
use Rattle.holders.specs.Holders.{sessions_with}
use Rattle.passing.specs.Asked.{has_passed}
use Rattle.holders.proofs.Turns.{Masking, mask-more, mask_end}
use Rattle.passing.proofs.Turns.{Lowering, low-more, low_end}
use Rattle.passing.proofs.passed_at.Goals as goal

pub loop-p-init : goal.loop-p-init
unfolding sessions_with
loop-p-init c = (record { is = refl }, record { is = refl })

pub loop-p-preserved : goal.loop-p-preserved
loop-p-preserved c =
    let low : c.min-until.result ≡ min c.loop-p.until c.changes_at.result = grind (arith, common_steps) in
    (mask-more c.loop-p.invariant.0 (omega arith) c.has_passed.ensures c.with_if-mask.ensures (omega arith), low-more c.loop-p.invariant.1 (omega arith) c.changes_at.ensures low (omega arith))

pub returns : goal.returns
unfolding passed_at
returns c = rw (mask_end c.loop-p.invariant.0 (omega arith), low_end c.loop-p.invariant.1 (omega arith)) refl
