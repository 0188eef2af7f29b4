use Rattle.std.proofs.Common.{true, rules, refl, ap, ◌∙◌}
use Rattle.std.proofs.lemmas.Result.{err_from_is_err_and}
use Rattle.outcomes.specs.Refused.{number, number_some}
use Rattle.day_calls.specs.Calling.{handed}
use Rattle.day_calls.specs.Ways.{list-party, list-6, list-13, list-no-day, list-14, list-rest, few-stretches}
use Rattle.day_calls.proofs.check_day.Goals as goal

pub returns-in_err-check_party : goal.returns-in_err-check_party
returns-in_err-check_party c =
    let h = handed c.args.bytes.now c.args.driver c.args.start c.args.entry c.args.place in
    let r = err_from_is_err_and c.from_residual.result c.from_residual.ensures.1 in
    rw (r.1, r.2) (list-party c.args.m c.args.t c.args.p h c.in_err-check_party.ensures (number_some _))

pub returns-then-p-eq0 : goal.returns-then-p-eq0
returns-then-p-eq0 c =
    let h = handed c.args.bytes.now c.args.driver c.args.start c.args.entry c.args.place in
    list-6 c.args.m c.args.t c.args.p h c.in_ok-check_party.ensures refl (search rules)

pub returns-then-bytes-eq1 : goal.returns-then-bytes-eq1
returns-then-bytes-eq1 c =
    let h = handed c.args.bytes.now c.args.driver c.args.start c.args.entry c.args.place in
    list-13 c.args.m c.args.t c.args.p h c.in_ok-check_party.ensures refl (search rules) (search rules)

pub returns-in_err-d : goal.returns-in_err-d
returns-in_err-d c =
    let h = handed c.args.bytes.now c.args.driver c.args.start c.args.entry c.args.place in
    let r = err_from_is_err_and c.from_residual-in_err-d.result c.from_residual-in_err-d.ensures.1 in
    rw (r.1, r.2) (ap number c.in_err-d.ensures.0 ∙ list-no-day c.args.m c.args.t c.args.p h c.in_ok-check_party.ensures refl (search rules) (search rules) c.in_err-d.ensures.1)

pub returns-then-is_bad : goal.returns-then-is_bad
returns-then-is_bad c =
    let h = handed c.args.bytes.now c.args.driver c.args.start c.args.entry c.args.place in
    list-14 c.args.m c.args.t c.args.p h c.in_ok-check_party.ensures refl _ true _ _ _ c.seat-x.ensures c.in_ok-d.ensures c.is_bad.ensures (search rules) (search rules) c.if-is_bad.true

pub check_numbers-requires : goal.check_numbers-requires
check_numbers-requires c =
    let h = handed c.args.bytes.now c.args.driver c.args.start c.args.entry c.args.place in
    few-stretches c.args.m c.args.t c.args.p h c.in_ok-d.ensures

pub returns-in_err-check_numbers : goal.returns-in_err-check_numbers
returns-in_err-check_numbers c =
    let h = handed c.args.bytes.now c.args.driver c.args.start c.args.entry c.args.place in
    let r = err_from_is_err_and c.from_residual-in_err-check_numbers.result c.from_residual-in_err-check_numbers.ensures.1 in
    rw (r.1, r.2) (list-rest c.args.m c.args.t c.args.p h c.in_ok-check_party.ensures refl _ true _ _ _ c.seat-x.ensures c.in_ok-d.ensures c.is_bad.ensures (search rules) (search rules) c.if-is_bad.false _ c.in_err-check_numbers.ensures)

pub returns : goal.returns
returns c =
    let h = handed c.args.bytes.now c.args.driver c.args.start c.args.entry c.args.place in
    (list-rest c.args.m c.args.t c.args.p h c.in_ok-check_party.ensures refl _ true _ _ _ c.seat-x.ensures c.in_ok-d.ensures c.is_bad.ensures (search rules) (search rules) c.if-is_bad.false _ c.in_ok-check_numbers.ensures, c.in_ok-d.ensures)
