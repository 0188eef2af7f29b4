use Rattle.std.proofs.Common.{◌≡◌, ℕ, ◌-◌, length}
use Rattle.tree_walk.specs.TreeWalk.{leaves_from, going, tour}
use Rattle.tree_walk.proofs.Turns.{node_of, Touring}
use Rattle.tree_walk.proofs.walk_leaves.Given as goal

-- the loop sees the node's words but its latch, so it holds of any
abbrev pub invariant-loop-k : goal.invariant-loop-k
invariant-loop-k l =
    (length l.seen ≡ length l.initial.seen) × (length l.order ≡ length l.initial.order)
    × ((latch : ℕ) → Touring
    (leaves_from l.records.store.now l.records.m l.records.r (node_of latch l.count l.b l.s) l.hi 0 l.count (tour (going l.initial.v) l.initial.seen l.initial.order))
    l.records.store.now
    l.records.m
    l.records.r
    (node_of latch l.count l.b l.s)
    l.hi
    l.k
    (l.count - l.k)
    (tour (going l.v) l.seen l.order))
