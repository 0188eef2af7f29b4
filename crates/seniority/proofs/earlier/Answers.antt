use Rattle.std.proofs.Common.{◌∙◌, rules, tests}
use Rattle.std.proofs.lemmas.Iterator.{YieldsList-from_slice}
use Rattle.std.proofs.lemmas.Iterator.Consumers.{count_from_yields_List, YieldsList-from_filter, YieldsList-at}
use Rattle.locks.specs.Holders.{width}
use Rattle.seniority.specs.Seniority.{is_earlier, earlier_in}
use Rattle.seniority.proofs.Turns.{behind, many_kept}
use Rattle.seniority.proofs.earlier.Goals as goal

pub returns : goal.returns
unfolding earlier_in
returns c =
    count_from_yields_List c.filter.result _ c.count.ensures.ran
    (YieldsList-from_filter _ (is_earlier c.args.n) (YieldsList-at c.filter.ensures.source (YieldsList-from_slice _ (c.iter.ensures.rest ∙ behind c.args.t 1 width (search rules))))
    c.filter.ensures.closure (λ x r q k. search (rules, tests)))
    ∙ many_kept _ _ (search rules)
