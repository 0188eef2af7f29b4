use native.Mathlib.Omega.{arith}
use mathlib.Core.Path.{◌≡◌, refl}
use Prim.Native.Nat.{◌-◌, ◌+◌}
use lib.Dec.{lit<}
use Rattle.undo_log.specs.Freeing.{freed-stop, freed-end, freed-has, freed-more}
use Rattle.undo_log.proofs.free_chain.Goals as goal

pub loop-turn-init : goal.loop-turn-init
loop-turn-init c = let e : c.args.r - 0 ≡ c.args.r = omega arith in rw e (record { is = refl; rest = c.requires })

pub returns-then-at-eq0 : goal.returns-then-at-eq0
returns-then-at-eq0 c = freed-stop c.loop-turn.invariant c.if-at-eq0.true

pub word-next-requires : goal.word-next-requires
word-next-requires c = (freed-has c.loop-turn.invariant (omega arith) c.if-at-eq0.false, lit< tt)

pub push_free-requires : goal.push_free-requires
push_free-requires c = freed-has c.loop-turn.invariant (omega arith) c.if-at-eq0.false

pub loop-turn-preserved : goal.loop-turn-preserved
loop-turn-preserved c =
    let e : c.args.r - (c.loop-turn._turn + 1) ≡ c.args.r - c.loop-turn._turn - 1 = omega arith in
    rw e (freed-more c.loop-turn.invariant (omega arith) c.if-at-eq0.false c.word-next.ensures c.push_free.ensures)

pub returns : goal.returns
returns c = freed-end c.loop-turn.invariant (omega arith)
