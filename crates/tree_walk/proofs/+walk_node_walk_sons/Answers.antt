use Rattle.std.proofs.Common.{◌≡◌, refl, sym, ◌∙◌, ℕ, arith, rules}
use Rattle.std.proofs.lemmas.Result.{err_from_is_err_and}
use Rattle.tree_walk.specs.TreeWalk.{top_of}
use Rattle.tree_walk.proofs.Turns.{node_of, top-inner, top-last, son-stop, son-more, son-end}
use Rattle.tree_walk.proofs.Turns.{node-twice, node-fanout, node-lowest, node-inner, fan-count, kept-lt}
use Rattle.tree_walk.proofs.+walk_node_walk_sons.Goals as goal
use Rattle.tree_walk.proofs.+walk_node_walk_sons.Goals.{walk_sons-then-k-count, walk_sons-else-k-count}

pub walk_node-returns-in_err-v : goal.walk_node-returns-in_err-v
walk_node-returns-in_err-v t c =
    let p = err_from_is_err_and c.from_residual.result c.from_residual.ensures.1 in
    rw (p.1, p.2) (node-twice _ _ _ _ _ _ _ _ _ c.enter_node.ensures _ _ c.in_err-v.was)

pub walk_node-returns-then-not-fanout_ok : goal.walk_node-returns-then-not-fanout_ok
walk_node-returns-then-not-fanout_ok t c =
    let bad = sym c.fanout_ok.ensures ∙ c.if-not-fanout_ok.true in
    node-fanout _ _ _ _ _ _ _ _ _ c.enter_node.ensures _ c.in_ok-v.was c.load-n.ensures _ bad

pub walk_node-walk_leaves-requires : goal.walk_node-walk_leaves-requires
walk_node-walk_leaves-requires t c =
    let good = sym c.fanout_ok.ensures ∙ c.if-not-fanout_ok.false in
    (kept-lt c.requires.0 c.enter_node.auto.seen, c.requires.1, c.requires.2, fan-count _ _ good)

pub walk_node-returns-then-depth-eq0 : goal.walk_node-returns-then-depth-eq0
walk_node-returns-then-depth-eq0 t c =
    let good = sym c.fanout_ok.ensures ∙ c.if-not-fanout_ok.false in
    node-lowest _ _ _ _ _ _ _ _ _ c.enter_node.ensures _ c.in_ok-v.was c.load-n.ensures good c.count_latch-u.ensures c.if-depth-eq0.true c.walk_leaves.ensures

pub walk_node-walk_sons-requires : goal.walk_node-walk_sons-requires
walk_node-walk_sons-requires t c =
    let good = sym c.fanout_ok.ensures ∙ c.if-not-fanout_ok.false in
    (omega arith, (kept-lt c.requires.0 c.enter_node.auto.seen, c.requires.1, c.requires.2, fan-count _ _ good))

pub walk_node-returns : goal.walk_node-returns
walk_node-returns t c =
    let good = sym c.fanout_ok.ensures ∙ c.if-not-fanout_ok.false in
    node-inner _ _ _ _ _ _ _ _ _ c.enter_node.ensures _ c.in_ok-v.was c.load-n.ensures good c.count_latch-u.ensures c.if-depth-eq0.false c.walk_sons.ensures

pub walk_sons-returns-in_err-u : goal.walk_sons-returns-in_err-u
walk_sons-returns-in_err-u t c =
    let p = err_from_is_err_and c.from_residual.result c.from_residual.ensures.1 in
    let top : c.if-k-count.top ≡ top_of (node_of c.args.n.latch c.args.n.count c.args.n.bounds c.args.n.sons) c.loop-k.k c.args.hi =
    elim c.if-k-count.branch [
      | walk_sons-then-k-count w ↦ top-inner _ _ _ w.if-k-count.true w.top-is
      | walk_sons-else-k-count w ↦ top-last _ _ _ w.if-k-count.false w.top-is
    ] in
    rw (p.1, p.2) (son-stop _ (c.loop-k.invariant.2 c.args.n.latch) (omega arith) refl top c.walk_node.ensures c.in_err-u.was)

pub walk_sons-loop-k-preserved : goal.walk_sons-loop-k-preserved
walk_sons-loop-k-preserved t c =
    let top : (latch : ℕ) → c.if-k-count.top ≡ top_of (node_of latch c.args.n.count c.args.n.bounds c.args.n.sons) c.loop-k.k c.args.hi =
    λ latch. elim c.if-k-count.branch [
      | walk_sons-then-k-count w ↦ top-inner _ _ _ w.if-k-count.true w.top-is
      | walk_sons-else-k-count w ↦ top-last _ _ _ w.if-k-count.false w.top-is
    ] in (
      search rules,
      search rules,
      λ latch.
          son-more _ (c.loop-k.invariant.2 latch) (omega arith) refl (top latch) c.walk_node.ensures c.in_ok-u.was (omega arith) c.raised-v.ensures,
    )

pub walk_sons-returns : goal.walk_sons-returns
walk_sons-returns t c = son-end (c.loop-k.invariant.2 c.args.n.latch) refl (omega arith)
