use Rattle.std.proofs.Common.{refl, sym, ◌∙◌}
use Rattle.day_calls.specs.Calling.{handed}
use Rattle.day_calls.specs.Ways.{can-put, can-step, way-passed}
use Rattle.day_calls.proofs.day.Goals as goal

pub day_step-requires : goal.day_step-requires
day_step-requires c =
    let h = handed c.args.bytes.now c.args.driver c.args.start c.args.entry c.args.place in
    can-step c.args.store.now c.args.t c.args.p h c.requires (way-passed c.args.store.now c.args.t c.args.p h _ _ c.entries-m.ensures c.in-Ok.ensures.0 refl)
    _ _ _ c.in-Ok.ensures.1 (sym c.has_request.ensures ∙ c.if-has_request.true)

pub day_put-requires : goal.day_put-requires
day_put-requires c =
    let h = handed c.args.bytes.now c.args.driver c.args.start c.args.entry c.args.place in
    can-put c.args.store.now c.args.t c.args.p h c.requires (way-passed c.args.store.now c.args.t c.args.p h _ _ c.entries-m.ensures c.in-Ok.ensures.0 refl)
    _ _ _ c.in-Ok.ensures.1 (sym c.has_request.ensures ∙ c.if-has_request.false)
