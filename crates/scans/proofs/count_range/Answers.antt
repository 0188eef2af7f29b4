use native.Mathlib.Omega.{arith}
use Rattle.groups.specs.Descriptor.{decode_descriptor}
use Rattle.scans.proofs.Turns.{all_turns, one_turn, range-none, range-end, range-stop, range-fits, range-more, range-few, range-one, members_of}
use Rattle.scans.proofs.count_range.Goals as goal
use Rattle.scans.proofs.count_range.Goals.{then-at-eq0-via-then-at-eq0, then-at-eq0-via-else-at-eq0+then-hi-descriptor_key}

pub loop-turn-init : goal.loop-turn-init
loop-turn-init c = rw (all_turns c.args.r) (record { walk = c.requires.walk; is = omega arith })

pub descriptor_key-requires : goal.descriptor_key-requires
descriptor_key-requires c = (range-one _ c.loop-turn.invariant.walk c.if-at-eq0.false).has

pub returns-then-at-eq0 : goal.returns-then-at-eq0
unfolding decode_descriptor
returns-then-at-eq0 c =
    elim c.then-at-eq0.branch [
      | then-at-eq0-via-then-at-eq0 w ↦ range-end c.loop-turn.invariant w.if-at-eq0.true
      | then-at-eq0-via-else-at-eq0+then-hi-descriptor_key w ↦ range-stop c.loop-turn.invariant w.descriptor_key.ensures w.if-hi-descriptor_key.true
    ]

pub descriptor_first-first-requires : goal.descriptor_first-first-requires
descriptor_first-first-requires c = (range-one _ c.loop-turn.invariant.walk c.if-at-eq0.false).has

pub count_members-n-requires : goal.count_members-n-requires
unfolding decode_descriptor
count_members-n-requires c = members_of (range-one _ c.loop-turn.invariant.walk c.if-at-eq0.false) c.descriptor_first-first.ensures

pub overflow_add-n : goal.overflow_add-n
unfolding decode_descriptor
overflow_add-n c = let e = range-fits c.loop-turn.invariant c.if-at-eq0.false c.descriptor_key.ensures c.if-hi-descriptor_key.false c.descriptor_first-first.ensures c.count_members-n.ensures in let h = c.requires.few in let f = range-few c.args.store.now c.args.m c.args.r c.args.r c.args.i c.args.hi h in omega arith

pub descriptor_next-at-requires : goal.descriptor_next-at-requires
descriptor_next-at-requires c = (range-one _ c.loop-turn.invariant.walk c.if-at-eq0.false).has

pub loop-turn-preserved : goal.loop-turn-preserved
unfolding decode_descriptor
loop-turn-preserved c =
    rw (one_turn c.args.r c.loop-turn._turn)
    (range-more c.loop-turn.invariant c.if-at-eq0.false c.descriptor_key.ensures c.if-hi-descriptor_key.false c.descriptor_first-first.ensures c.count_members-n.ensures c.descriptor_next-at.ensures)

pub returns : goal.returns
returns c = range-end c.loop-turn.invariant (range-none _ _ _ _ _ c.loop-turn.invariant.walk (omega arith))
