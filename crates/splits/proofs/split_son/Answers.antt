use mathlib.Core.Path.{refl}
use native.Mathlib.Omega.{arith}
use Rattle.nodes.specs.Paths.{has-at, path-place, son-same}
use Rattle.splits.specs.Runs.{split-son-run}
use Rattle.splits.proofs.split_son.Goals as goal

pub find_son-i-requires : goal.find_son-i-requires
find_son-i-requires c = rw c.load-p.ensures (c.requires.least, omega (arith, c.requires.room))

pub node_son-son-requires : goal.node_son-son-requires
node_son-son-requires c = (c.requires.node, path-place _ _ c.load-p.ensures c.find_son-i.ensures c.requires.least (omega (arith, c.requires.room)))

pub halves-n-requires : goal.halves-n-requires
halves-n-requires c = has-at c.requires.son (omega arith) (son-same _ _ _ _ c.load-p.ensures c.find_son-i.ensures c.node_son-son.ensures)

pub put_halves-requires : goal.put_halves-requires
put_halves-requires c = (has-at c.requires.son (omega arith) (son-same _ _ _ _ c.load-p.ensures c.find_son-i.ensures c.node_son-son.ensures), has-at (c.requires.free.first c.requires.some) (omega arith) c.pop_free-a.ensures.0)

pub overflow_cast-a : goal.overflow_cast-a
overflow_cast-a c = let h = c.requires.free.first c.requires.some in omega (arith, h.last, c.pop_free-a.ensures.0)

pub insert_behind-wider-requires : goal.insert_behind-wider-requires
insert_behind-wider-requires c = (rw c.load-p.ensures c.requires.room, omega (arith, path-place _ _ c.load-p.ensures c.find_son-i.ensures c.requires.least (omega (arith, c.requires.room))))

pub write-requires : goal.write-requires
write-requires c = has-at c.requires.node (omega arith) refl

pub returns : goal.returns
returns c =
    split-son-run _ _ _ _ _ c.load-p.ensures c.find_son-i.ensures c.node_son-son.ensures c.halves-n.ensures
    c.pop_free-a.ensures.0 c.pop_free-a.ensures.1 c.put_halves.ensures c.insert_behind-wider.ensures c.with_latch.ensures
    c.write.ensures c.half_of.ensures
