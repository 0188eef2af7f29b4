use Rattle.running.specs.Scans.{Hint}
use Rattle.running.specs.Seats.{SeatRunning}
use Rattle.running.proofs.run_seat.Given as goal

abbrev pub invariant-loop-steps : goal.invariant-loop-steps
invariant-loop-steps l =
    SeatRunning l.m l.r l.p l.initial.sat.session l.initial.store l.initial.list l.sat.answer l.steps l.list l.store l.sat.session × Hint l.store l.m l.r l.sat.session l.sat.next
