use Rattle.std.proofs.Common.{◌∙◌, not, refl, rules, tests}
use Rattle.std.proofs.lemmas.Iterator.{YieldsList-from_range}
use Rattle.std.proofs.lemmas.Iterator.Search.{all_from_yields_List}
use Rattle.locks.specs.Holders.{width}
use Rattle.sessions.specs.Sessions.{parties}
use Rattle.seniority.specs.Seniority.{distinct_in}
use Rattle.seniority.proofs.Turns.{clashes, none-distinct}
use Rattle.seniority.proofs.distinct.Goals as goal

pub returns : goal.returns
unfolding distinct_in
returns c =
    all_from_yields_List (λ p. not (clashes c.args.t p)) _ _ _ c.all.ensures.ran (YieldsList-from_range 1 parties width refl refl) (λ x b q k. search (rules, tests))
    ∙ none-distinct c.args.t 1 width refl
