use native.Mathlib.Omega.{arith}
use Rattle.members.specs.Members.{take_next, take-before, take-run, link-kept}
use borrow.Author.Rules.{rules}
use Rattle.members.proofs.take_member.Goals as goal

pub member_or-after-requires : goal.member_or-after-requires
member_or-after-requires c = take_next c.requires c.load-b.ensures

pub set_next-requires : goal.set_next-requires
set_next-requires c = take-before c.requires c.load-b.ensures

pub set_before-requires : goal.set_before-requires
set_before-requires c = link-kept (take_next c.requires c.load-b.ensures) (omega arith)

pub returns : goal.returns
returns c = take-run _ _ _ _ c.load-b.ensures c.member_or-after.ensures c.set_next.ensures c.set_before.ensures
