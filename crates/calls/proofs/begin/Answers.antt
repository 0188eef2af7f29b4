use Rattle.std.proofs.Common.{rules}
use Rattle.serial.specs.Calls as C
use Rattle.promises.specs.Seats.{table_of}
use Rattle.promises.specs.Ways.{way-sound}
use Rattle.calls.proofs.Refused.{unsound-refused}
use Rattle.calls.proofs.begin.Goals as goal

pub returns-then-not-is_sound : goal.returns-then-not-is_sound
returns-then-not-is_sound c = unsound-refused (C.begin c.args.p) (c.is_sound.ensures (table_of _ _ c.well_formed.1.0)) c.if-not-is_sound.true c.refused.ensures

pub begin-requires : goal.begin-requires
begin-requires c = (c.is_sound.ensures (table_of _ _ c.well_formed.1.0)).0 c.if-not-is_sound.false

pub returns : goal.returns
returns c = way-sound _ _ _ _ _ _ _ _ (c.is_sound.ensures (table_of _ _ c.well_formed.1.0)) c.if-not-is_sound.false (λ A. c.begin.ensures)
