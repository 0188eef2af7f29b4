use Rattle.std.proofs.lemmas.Result.{err_from_is_err_and}
use Rattle.tree_walk.proofs.Turns.{root_none, root-high, root-broken, root-open, root-done}
use Rattle.tree_walk.proofs.walk_root.Goals as goal

pub returns-then-height-eq0 : goal.returns-then-height-eq0
returns-then-height-eq0 c = root_none _ _ _ _ _ c.root-root.ensures c.height-height.ensures c.first-first.ensures c.starting-w.ensures c.if-height-eq0.true

pub returns-then-height-gt8 : goal.returns-then-height-gt8
returns-then-height-gt8 c = root-high _ _ _ _ _ c.root-root.ensures c.height-height.ensures c.first-first.ensures c.starting-w.ensures c.if-height-eq0.false c.if-height-gt8.true

pub returns-in_err-v : goal.returns-in_err-v
returns-in_err-v c =
    let p = err_from_is_err_and c.from_residual.result c.from_residual.ensures.1 in
    rw (p.1, p.2) (root-broken _ _ _ _ _ c.root-root.ensures c.height-height.ensures c.first-first.ensures c.starting-w.ensures c.if-height-eq0.false c.if-height-gt8.false c.walk_node.ensures _ c.in_err-v.was)

pub returns-then-v-ne0 : goal.returns-then-v-ne0
returns-then-v-ne0 c = root-open _ _ _ _ _ c.root-root.ensures c.height-height.ensures c.first-first.ensures c.starting-w.ensures c.if-height-eq0.false c.if-height-gt8.false c.walk_node.ensures _ c.in_ok-v.was c.if-v-ne0.true

pub returns : goal.returns
returns c = root-done _ _ _ _ _ c.root-root.ensures c.height-height.ensures c.first-first.ensures c.starting-w.ensures c.if-height-eq0.false c.if-height-gt8.false c.walk_node.ensures _ c.in_ok-v.was c.if-v-ne0.false
