use Rattle.card_days.specs.Ways.{has_room}
use Rattle.card_days.proofs.write_day.Goals as goal

pub write_out-requires : goal.write_out-requires
write_out-requires c = has_room _ _ _ _ _ c.is_writable-writable.ensures c.if-writable.true
