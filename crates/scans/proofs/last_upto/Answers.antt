use mathlib.Core.Path.{refl}
use native.Mathlib.Omega.{arith}
use Rattle.groups.specs.Descriptor.{decode_descriptor}
use Rattle.scans.proofs.Turns.{all_turns, one_turn, follow-over, follow-end, follow-on, follow-stop, follow-more}
use Rattle.scans.proofs.last_upto.Goals as goal
use Rattle.scans.proofs.last_upto.Goals.{then-next-eq0-via-then-next-eq0, then-next-eq0-via-else-next-eq0+then-k-descriptor_key}

pub loop-turn-init : goal.loop-turn-init
loop-turn-init c = rw (all_turns c.args.r) (record { has = c.requires.has; walk = c.requires.walk; is = refl })

pub descriptor_next-next-requires : goal.descriptor_next-next-requires
descriptor_next-next-requires c = c.loop-turn.invariant.has

pub descriptor_key-requires : goal.descriptor_key-requires
unfolding decode_descriptor
descriptor_key-requires c = (follow-on c.loop-turn.invariant c.descriptor_next-next.ensures c.if-next-eq0.false).has

pub returns-then-next-eq0 : goal.returns-then-next-eq0
unfolding decode_descriptor
returns-then-next-eq0 c =
    let f = c.loop-turn.invariant in
    let link = c.descriptor_next-next.ensures in
    elim c.then-next-eq0.branch [
      | then-next-eq0-via-then-next-eq0 w ↦ follow-end f link w.if-next-eq0.true
      | then-next-eq0-via-else-next-eq0+then-k-descriptor_key w ↦ follow-stop f link w.if-next-eq0.false w.descriptor_key.ensures w.if-k-descriptor_key.true
    ]

pub loop-turn-preserved : goal.loop-turn-preserved
unfolding decode_descriptor
loop-turn-preserved c =
    rw (one_turn c.args.r c.loop-turn._turn)
    (follow-more c.loop-turn.invariant c.descriptor_next-next.ensures c.if-next-eq0.false c.descriptor_key.ensures c.if-k-descriptor_key.false)

pub returns : goal.returns
returns c = follow-over c.loop-turn.invariant (omega arith)
