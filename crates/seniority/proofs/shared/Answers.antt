use Rattle.std.proofs.Common.{◌∙◌, ◌≡◌, ◌-◌, length, arith, rules, tests}
use Rattle.std.proofs.lemmas.Iterator.{YieldsList-from_slice}
use Rattle.std.proofs.lemmas.Iterator.Search.{any_from_yields_List}
use Rattle.sessions.specs.Sessions.{parties}
use Rattle.seniority.specs.Seniority.{is_numbered}
use Rattle.seniority.proofs.Turns.{behind, any-shared}
use Rattle.seniority.proofs.shared.Goals as goal

pub returns : goal.returns
returns c =
    let z : length c.args.t ≡ parties = search rules in
    any_from_yields_List (is_numbered c.args.n) _ _ _ c.any.ensures.ran
    (YieldsList-from_slice _ (c.iter.ensures.rest ∙ behind c.args.t c.args.from (parties - c.args.from) (omega arith))) (λ x b q k. search (rules, tests))
    ∙ any-shared _ _ _ _ (omega arith)
