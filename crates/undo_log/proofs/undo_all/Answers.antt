use native.Mathlib.Omega.{arith}
use mathlib.Core.Path.{◌≡◌, refl}
use Prim.Native.Nat.{◌-◌, ◌+◌}
use lib.Dec.{lit<}
use Rattle.undo_log.specs.Undoing.{undone-stop, undone-end, undone-turn, undone-more}
use Rattle.undo_log.proofs.undo_all.Goals as goal

pub loop-turn-init : goal.loop-turn-init
loop-turn-init c = let e : c.args.r - 0 ≡ c.args.r = omega arith in rw e (record { is = refl; rest = c.requires })

pub returns-then-at-eq0 : goal.returns-then-at-eq0
returns-then-at-eq0 c = undone-stop c.loop-turn.invariant c.if-at-eq0.true

pub word-next-requires : goal.word-next-requires
word-next-requires c = ((undone-turn c.loop-turn.invariant (omega arith) c.if-at-eq0.false).own, lit< tt)

pub undo_one-requires : goal.undo_one-requires
undo_one-requires c = undone-turn c.loop-turn.invariant (omega arith) c.if-at-eq0.false

pub loop-turn-preserved : goal.loop-turn-preserved
loop-turn-preserved c =
    let e : c.args.r - (c.loop-turn._turn + 1) ≡ c.args.r - c.loop-turn._turn - 1 = omega arith in
    rw e (undone-more c.loop-turn.invariant (omega arith) c.if-at-eq0.false c.word-next.ensures c.undo_one.ensures)

pub returns : goal.returns
returns c = undone-end c.loop-turn.invariant (omega arith)
