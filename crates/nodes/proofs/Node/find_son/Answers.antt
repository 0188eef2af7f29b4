use Rattle.std.proofs.Common.{rules, ◌≡◌, ◌≤◌, length, ℕ, ◌-◌, take, leb, ◌∙◌, arith, ap, length-take-le}
use Rattle.std.specs.List.{position}
use Rattle.std.specs.Option.{unwrap_or}
use Rattle.std.proofs.lemmas.Iterator.{YieldsList-from_slice}
use Rattle.std.proofs.lemmas.Iterator.Search.{position_from_yields_List}
use borrow.Author.Tests.{tests}
use Rattle.nodes.specs.Ops.{son_for}
use Rattle.nodes.proofs.Laws.{below-place}
use Rattle.nodes.proofs.Node.find_son.Goals as goal

pub returns : goal.returns
unfolding son_for
returns c =
    let n : length c.args.self.bounds ≡ 7 = search rules in
    let z : c.args.self.count - 1 ≤ length c.args.self.bounds = omega arith in
    let p : c.position.result ≡ position (λ (b : ℕ). leb c.args.key b) (take (c.args.self.count - 1) c.args.self.bounds) = position_from_yields_List (λ (b : ℕ). leb c.args.key b) _ _ c.position.result c.position.ensures.ran (YieldsList-from_slice _ c.iter.ensures.rest) (λ x b q k. search (rules, tests)) in
    c.unwrap_or.ensures ∙ ap (λ o. unwrap_or o (c.args.self.count - 1)) p ∙ below-place _ _ _ (length-take-le (c.args.self.count - 1) c.args.self.bounds z)
