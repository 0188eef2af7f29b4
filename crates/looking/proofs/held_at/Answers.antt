use Rattle.groups.specs.Descriptor.{decode_descriptor}
use Rattle.looking.specs.Looking.{own-run, gap-run}
use borrow.Author.Rules.{rules}
use Rattle.looking.proofs.held_at.Goals as goal

pub returns-then-descriptor_key-key : goal.returns-then-descriptor_key-key
unfolding decode_descriptor
returns-then-descriptor_key-key c = own-run _ _ _ _ c.descriptor_key.ensures c.if-descriptor_key-key.true c.descriptor_locate-locate.ensures c.descriptor_update-update.ensures c.both.ensures

pub returns : goal.returns
unfolding decode_descriptor
returns c = gap-run _ _ _ _ c.descriptor_key.ensures c.if-descriptor_key-key.false c.descriptor_gap-gap.ensures c.both-2.ensures
