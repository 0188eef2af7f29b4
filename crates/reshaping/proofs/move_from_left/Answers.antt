use mathlib.Core.Path.{◌≡◌, ap, ◌∙◌}
use Prim.Native.Nat.{ℕ, ◌-◌}
use native.Mathlib.Omega.{arith}
use lib.ListN.{get_or}
use Rattle.reshaping.specs.Ops.{remove_behind, move_from_left}
use Rattle.reshaping.proofs.Laws.{neighbours-same}
use Rattle.reshaping.proofs.move_from_left.Goals as goal

pub returns : goal.returns
unfolding move_from_left
returns c =
    let l = c.args.l in
    let e : l.count - 1 - 1 ≡ l.count - 2 = omega arith in
    neighbours-same
    (c.remove_behind.ensures ∙ ap (λ (i : ℕ). remove_behind l i) e)
    (ap (λ (i : ℕ). get_or l.bounds i 0) e)
    c.insert_before.ensures
