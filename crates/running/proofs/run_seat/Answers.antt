use mathlib.Core.Path.{◌≡◌, ap as by_ap, refl}
use Rattle.std.proofs.Common.{subst}
use mathlib.Core.Bool.{not as negated}
use native.Mathlib.Omega.{arith}
use Rattle.running.specs.Seats.{SeatRunning, seat-none, seat-seated, seat-again, seat-stops, seat-over}
use Rattle.running.proofs.run_seat.Goals as goal

pub loop-steps-init : goal.loop-steps-init
loop-steps-init c = (seat-none _ _ _ _ _ _, λ e. absurd (e refl))

pub returns-then-not-is_more : goal.returns-then-not-is_more
returns-then-not-is_more c = seat-stops _ c.loop-steps.sat.answer c.limit_of-limit.ensures (omega arith) c.loop-steps.invariant.0 c.is_more.ensures (by_ap negated c.if-not-is_more.true)

pub seat_step-sat-requires : goal.seat_step-sat-requires
seat_step-sat-requires c = (seat-seated c.loop-steps.sat.answer c.requires c.loop-steps.invariant.0 c.is_more.ensures (by_ap negated c.if-not-is_more.false), c.loop-steps.invariant.1)

pub loop-steps-preserved : goal.loop-steps-preserved
loop-steps-preserved c = (seat-again _ c.loop-steps.sat.answer c.requires c.loop-steps.invariant.0 c.is_more.ensures (by_ap negated c.if-not-is_more.false) c.seat_step-sat.ensures.serves, c.seat_step-sat.ensures.hint)

pub returns : goal.returns
returns c =
    let e : c.loop-steps.steps ≡ c.limit_of-limit.result = omega arith in
    seat-over c.limit_of-limit.ensures (omega arith)
    (subst (λ n. SeatRunning c.args.m c.args.r c.args.p c.args.x c.args.store.now c.args.list.now c.loop-steps.sat.answer n c.loop-steps.list c.loop-steps.store c.loop-steps.sat.session) e c.loop-steps.invariant.0)
    (omega (arith, c.limit_of-limit.ensures.some)) (omega arith)
