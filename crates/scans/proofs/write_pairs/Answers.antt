use Rattle.scans.proofs.Pairs.{write-start, write-end, write-stop, write_fits, write-room, write-more}
use native.Mathlib.Omega.{arith}
use Rattle.groups.specs.Descriptor.{decode_descriptor}
use Rattle.scans.proofs.Turns.{all_turns, one_turn, range-none, range-one, members_of}
use Rattle.scans.proofs.write_pairs.Goals as goal

pub loop-turn-init : goal.loop-turn-init
loop-turn-init c = rw (all_turns c.args.r) (write-start _ _ _ _ _ _ c.requires.walk c.requires.room)

pub returns-then-d-eq0 : goal.returns-then-d-eq0
returns-then-d-eq0 c = write-end c.loop-turn.invariant c.if-d-eq0.true

pub descriptor_key-key-requires : goal.descriptor_key-key-requires
descriptor_key-key-requires c = (range-one _ c.loop-turn.invariant.walk c.if-d-eq0.false).has

pub returns-then-hi-key : goal.returns-then-hi-key
unfolding decode_descriptor
returns-then-hi-key c = write-stop c.loop-turn.invariant c.descriptor_key-key.ensures c.if-hi-key.true

pub descriptor_first-first-requires : goal.descriptor_first-first-requires
descriptor_first-first-requires c = (range-one _ c.loop-turn.invariant.walk c.if-d-eq0.false).has

pub write_group-n-requires : goal.write_group-n-requires
unfolding decode_descriptor
write_group-n-requires c = record { walk = members_of (range-one _ c.loop-turn.invariant.walk c.if-d-eq0.false) c.descriptor_first-first.ensures; room = write-room c.loop-turn.invariant c.if-d-eq0.false c.descriptor_key-key.ensures c.if-hi-key.false c.descriptor_first-first.ensures }

pub overflow_mul-at : goal.overflow_mul-at
unfolding decode_descriptor
overflow_mul-at c = let z = write_fits c.loop-turn.invariant c.if-d-eq0.false c.descriptor_key-key.ensures c.if-hi-key.false c.descriptor_first-first.ensures in let e = c.write_group-n.ensures.count in omega arith

pub overflow_add-at : goal.overflow_add-at
unfolding decode_descriptor
overflow_add-at c = let z = write_fits c.loop-turn.invariant c.if-d-eq0.false c.descriptor_key-key.ensures c.if-hi-key.false c.descriptor_first-first.ensures in let e = c.write_group-n.ensures.count in omega arith

pub descriptor_next-d-requires : goal.descriptor_next-d-requires
descriptor_next-d-requires c = (range-one _ c.loop-turn.invariant.walk c.if-d-eq0.false).has

pub loop-turn-preserved : goal.loop-turn-preserved
unfolding decode_descriptor
loop-turn-preserved c =
    rw (one_turn c.args.r c.loop-turn._turn)
    (write-more c.loop-turn.invariant c.if-d-eq0.false c.descriptor_key-key.ensures c.if-hi-key.false c.descriptor_first-first.ensures c.write_group-n.ensures c.descriptor_next-d.ensures)

pub returns : goal.returns
returns c = write-end c.loop-turn.invariant (range-none _ _ _ _ _ c.loop-turn.invariant.walk (omega arith))
