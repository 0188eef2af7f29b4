use native.Mathlib.Omega.{arith}
use Rattle.words.specs.Store.{has_kept}
use Rattle.arriving.specs.Runs.{make-run, insert-able, pop-has}
use Rattle.arriving.proofs.make_at.Goals as goal

pub write-requires : goal.write-requires
write-requires c = pop-has c.requires c.pop_free-a.ensures.0 (omega arith)

pub overflow_cast-a : goal.overflow_cast-a
overflow_cast-a c = omega (arith, c.pop_free-a.ensures.0, (c.requires.free.first c.requires.some).last)

pub write-requires-2 : goal.write-requires-2
write-requires-2 c = has_kept c.requires.before (omega arith)

pub overflow_cast-a-2 : goal.overflow_cast-a-2
overflow_cast-a-2 c = omega (arith, c.pop_free-a.ensures.0, (c.requires.free.first c.requires.some).last)

pub insert_leaf-requires : goal.insert_leaf-requires
insert_leaf-requires c = insert-able _ _ _ _ _ c.requires c.load-d.ensures c.pop_free-a.ensures.0 c.pop_free-a.ensures.1 c.made_in-new.ensures c.write.ensures c.with_next_descriptor.ensures c.write-2.ensures

pub returns : goal.returns
returns c = make-run _ _ _ _ _ c.load-d.ensures c.pop_free-a.ensures.0 c.pop_free-a.ensures.1 c.made_in-new.ensures c.write.ensures c.with_next_descriptor.ensures c.write-2.ensures c.insert_leaf.ensures
