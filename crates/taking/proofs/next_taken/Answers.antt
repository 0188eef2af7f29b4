use Rattle.taking.specs.Runs.{next-none, next-some, behind-has}
use Rattle.taking.proofs.next_taken.Goals as goal

pub returns-then-x-eq0 : goal.returns-then-x-eq0
returns-then-x-eq0 c = next-none _ _ _ _ c.if-x-eq0.true

pub last_upto-at-requires : goal.last_upto-at-requires
last_upto-at-requires c = c.requires.follow c.if-x-eq0.false

pub descriptor_next-requires : goal.descriptor_next-requires
descriptor_next-requires c = behind-has _ _ _ _ c.requires c.if-x-eq0.false c.last_upto-at.ensures

pub returns : goal.returns
returns c = next-some _ _ _ _ c.if-x-eq0.false c.last_upto-at.ensures c.descriptor_next.ensures
