use native.Mathlib.Omega.{arith}
use Rattle.words.specs.Store.{has_kept}
use Rattle.arriving.specs.Runs.{tidy-run, remove-able}
use Rattle.arriving.proofs.tidy_at.Goals as goal

pub remove_leaf-requires : goal.remove_leaf-requires
remove_leaf-requires c = remove-able _ _ _ _ _ c.requires c.load-before.ensures c.descriptor_next-next.ensures c.with_next_descriptor.ensures c.write.ensures

pub push_free-requires : goal.push_free-requires
push_free-requires c = has_kept c.requires.choice (omega arith)

pub returns : goal.returns
returns c = tidy-run _ _ _ _ _ _ c.load-before.ensures c.descriptor_next-next.ensures c.with_next_descriptor.ensures c.write.ensures c.remove_leaf.ensures c.push_free.ensures
