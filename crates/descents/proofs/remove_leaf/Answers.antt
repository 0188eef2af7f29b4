use native.Mathlib.Omega.{arith}
use Rattle.nodes.specs.Paths.{son-place}
use Rattle.descents.specs.Runs.{remove-leaf-run}
use Rattle.descents.proofs.remove_leaf.Goals as goal

pub find_son-i-requires : goal.find_son-i-requires
find_son-i-requires c = rw c.load-p.ensures (omega (arith, c.requires.two), c.requires.most)

pub remove_son-fewer-requires : goal.remove_son-fewer-requires
remove_son-fewer-requires c = rw (c.find_son-i.ensures, c.load-p.ensures) (c.requires.two, c.requires.most, son-place _ _ (omega (arith, c.requires.two)))

pub returns : goal.returns
returns c =
    remove-leaf-run _ _ _ _ c.load-p.ensures c.find_son-i.ensures c.remove_son-fewer.ensures c.with_latch.ensures
    c.write.ensures
