use Rattle.root_entry.specs.Runs.{full-run, whole_run, whole_ready}
use Rattle.root_entry.proofs.enter_free.Goals as goal

pub returns-then-splits : goal.returns-then-splits
returns-then-splits c = full-run _ _ _ _ _ _ c.splits_root-splits.ensures c.if-splits.true c.enter_full.ensures

pub enter_whole-requires : goal.enter_whole-requires
enter_whole-requires c = (whole_ready c.requires c.drop_lone.ensures, c.requires.reads.party)

pub returns : goal.returns
returns c = whole_run _ _ _ _ _ _ c.splits_root-splits.ensures c.if-splits.false c.drop_lone.ensures c.enter_whole.ensures
