use Rattle.std.proofs.Common.{◌≡◌, length}
use Rattle.card_days.specs.Loops.{Writing}
use Rattle.card_days.proofs.write_out.Given as goal

abbrev pub invariant-loop-i : goal.invariant-loop-i
invariant-loop-i l = (length l.out ≡ length l.initial.out) × Writing l.k0 l.pairs l.values l.initial.out l.out l.i
