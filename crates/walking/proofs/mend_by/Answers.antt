use borrow.Author.Tests.{le-leb, lt-leb}
use Rattle.walking.proofs.mend_by.Goals as goal

-- The proof of `mend_by`.
pub join_step-requires : goal.join_step-requires
join_step-requires c =
    (c.requires.join (le-leb _ _ c.if-other-le5.true), c.requires.party, c.requires.level)

pub returns-then-other-le5 : goal.returns-then-other-le5
returns-then-other-le5 c = rw (le-leb _ _ c.if-other-le5.true) c.join_step.ensures

pub left_step-requires : goal.left_step-requires
left_step-requires c =
    (c.requires.left (lt-leb _ _ c.if-other-le5.false) c.if-first.true, c.requires.party, c.requires.level)

pub returns-then-first : goal.returns-then-first
returns-then-first c =
    rw (lt-leb _ _ c.if-other-le5.false, c.if-first.true) c.left_step.ensures

pub right_step-requires : goal.right_step-requires
right_step-requires c =
    (c.requires.right (lt-leb _ _ c.if-other-le5.false) c.if-first.false, c.requires.party, c.requires.level)

pub returns : goal.returns
returns c =
    rw (lt-leb _ _ c.if-other-le5.false, c.if-first.false) c.right_step.ensures
