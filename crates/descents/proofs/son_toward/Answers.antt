use Rattle.nodes.specs.Paths.{path-place, son-same}
use Rattle.descents.proofs.son_toward.Goals as goal

pub find_son-i-requires : goal.find_son-i-requires
find_son-i-requires c = rw c.load-p.ensures (c.requires.least, c.requires.most)

pub node_son-requires : goal.node_son-requires
node_son-requires c =
    (c.requires.node, path-place _ _ c.load-p.ensures c.find_son-i.ensures c.requires.least c.requires.most)

pub returns : goal.returns
returns c = son-same _ _ _ _ c.load-p.ensures c.find_son-i.ensures c.node_son.ensures
