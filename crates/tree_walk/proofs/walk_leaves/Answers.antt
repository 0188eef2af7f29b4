use Rattle.std.proofs.Common.{◌≡◌, refl, ℕ, arith, rules}
use Rattle.std.proofs.lemmas.Result.{err_from_is_err_and}
use Rattle.tree_walk.specs.TreeWalk.{top_of, least_of}
use Rattle.tree_walk.proofs.Turns.{node_of, top-inner, top-last, least-as, leaf-stop, leaf-more, leaf-end}
use Rattle.tree_walk.proofs.walk_leaves.Goals as goal
use Rattle.tree_walk.proofs.walk_leaves.Goals.{then-k-count, else-k-count}

pub returns-in_err-v : goal.returns-in_err-v
returns-in_err-v c =
    let p = err_from_is_err_and c.from_residual.result c.from_residual.ensures.1 in
    let n = node_of c.args.n.latch c.args.n.count c.args.n.bounds c.args.n.sons in
    let least : c.if-k-count.least ≡ least_of n c.loop-k.k =
    least-as _ _ (elim c.if-k-count.branch [
      | then-k-count w ↦ top-inner _ _ _ w.if-k-count.true w.least-is
      | else-k-count w ↦ top-last _ _ _ w.if-k-count.false w.least-is
    ]) in
    let top : c.if-k-count.top ≡ top_of n c.loop-k.k c.args.hi =
    elim c.if-k-count.branch [
      | then-k-count w ↦ top-inner _ _ _ w.if-k-count.true w.top-is
      | else-k-count w ↦ top-last _ _ _ w.if-k-count.false w.top-is
    ] in
    rw (p.1, p.2) (leaf-stop _ (c.loop-k.invariant.2 c.args.n.latch) (omega arith) refl least top c.walk_leaf.ensures c.in_err-v.was)

pub loop-k-preserved : goal.loop-k-preserved
loop-k-preserved c =
    let least : (latch : ℕ) → c.if-k-count.least ≡ least_of (node_of latch c.args.n.count c.args.n.bounds c.args.n.sons) c.loop-k.k =
    λ latch. least-as _ _ (elim c.if-k-count.branch [
      | then-k-count w ↦ top-inner _ _ _ w.if-k-count.true w.least-is
      | else-k-count w ↦ top-last _ _ _ w.if-k-count.false w.least-is
    ]) in
    let top : (latch : ℕ) → c.if-k-count.top ≡ top_of (node_of latch c.args.n.count c.args.n.bounds c.args.n.sons) c.loop-k.k c.args.hi =
    λ latch. elim c.if-k-count.branch [
      | then-k-count w ↦ top-inner _ _ _ w.if-k-count.true w.top-is
      | else-k-count w ↦ top-last _ _ _ w.if-k-count.false w.top-is
    ] in (
      search rules,
      search rules,
      λ latch.
          leaf-more _ (c.loop-k.invariant.2 latch) (omega arith) refl (least latch) (top latch) c.walk_leaf.ensures c.in_ok-v.was (omega arith),
    )

pub returns : goal.returns
returns c = leaf-end (c.loop-k.invariant.2 c.args.n.latch) refl (omega arith)
