use Rattle.words.specs.Store.{has_kept}
use native.Mathlib.Omega.{arith}
use Rattle.members.specs.Members.{put_first, put-run, link-kept, first_member}
use borrow.Author.Rules.{rules}
use Rattle.members.proofs.put_member.Goals as goal

pub member_or-after-requires : goal.member_or-after-requires
member_or-after-requires c = put_first c.requires c.load-v.ensures

pub set_before-requires : goal.set_before-requires
set_before-requires c = link-kept (put_first c.requires c.load-v.ensures) (omega arith)

pub write-requires-2 : goal.write-requires-2
write-requires-2 c = has_kept c.requires.descriptor (omega arith)

pub returns : goal.returns
unfolding first_member
returns c = put-run _ _ _ _ _ c.load-v.ensures c.member_or-after.ensures c.write.ensures c.set_before.ensures c.with_first_member.ensures c.write-2.ensures
