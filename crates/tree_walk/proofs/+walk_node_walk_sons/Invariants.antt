-- The functions call each other: the depth falls at each call of `walk_node`.
use Rattle.std.proofs.Common.{◌≡◌, ℕ, ◌+◌, ◌-◌, length}
use Rattle.tree_walk.specs.TreeWalk.{sons_from, tree_from, going, tour}
use Rattle.tree_walk.proofs.Turns.{node_of, Sonning}
use Rattle.tree_walk.proofs.+walk_node_walk_sons.Given as goal

abbrev pub decreases-walk_node : goal.decreases-walk_node
decreases-walk_node l = l.depth + l.depth + 1

abbrev pub decreases-walk_sons : goal.decreases-walk_sons
decreases-walk_sons l = l.depth + l.depth + 2

-- the loop sees the node's words but its latch, so it holds of any
abbrev pub invariant-walk_sons-loop-k : goal.invariant-walk_sons-loop-k
invariant-walk_sons-loop-k l =
    (length l.seen ≡ length l.initial.seen) × (length l.order ≡ length l.initial.order)
    × ((latch : ℕ) → Sonning
    (sons_from (tree_from l.records.store.now l.records.m l.records.r l.depth 3) (node_of latch l.count l.b l.s) l.hi 0 l.count (tour (going l.initial.v) l.initial.seen l.initial.order))
    (tree_from l.records.store.now l.records.m l.records.r l.depth 3)
    (node_of latch l.count l.b l.s)
    l.hi
    l.k
    (l.count - l.k)
    (tour (going l.v) l.seen l.order))
