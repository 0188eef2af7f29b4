use Rattle.changing.specs.Runs.{put-ready, log-ready, entry-run}
use Rattle.changing.proofs.add_entry.Goals as goal

pub put_member-requires : goal.put_member-requires
put_member-requires c = put-ready _ _ _ c.pop_free-a.ensures c.requires.put

pub log_added-requires : goal.log_added-requires
log_added-requires c = log-ready _ _ _ _ c.pop_free-a.ensures c.put_member.ensures c.requires.log

pub returns : goal.returns
returns c = entry-run _ _ _ _ c.pop_free-a.ensures c.put_member.ensures c.log_added.ensures
