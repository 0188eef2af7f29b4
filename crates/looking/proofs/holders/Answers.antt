use Rattle.std.proofs.Common.{rules, sym, subst}
use Rattle.outcomes.specs.declared.Answer.{Answer}
use Rattle.outcomes.specs.Said.{said}
use Rattle.promises.specs.Seats.{table_of}
use Rattle.looking.specs.Told.{HoldersTold, holders-sound, holders-unsound}
use Rattle.looking.proofs.holders.Goals as goal

pub returns-then-not-is_sound : goal.returns-then-not-is_sound
returns-then-not-is_sound c = subst (λ (a : Answer). HoldersTold c.args.key c.args.store.now c.args.t (said a)) (sym c.from.ensures) (holders-unsound _ _ _ (c.is_sound.ensures (table_of _ _ c.well_formed.1.0)) _ c.if-not-is_sound.true)

pub holders_checked-requires : goal.holders_checked-requires
holders_checked-requires c = (c.is_sound.ensures (table_of _ _ c.well_formed.1.0)).0 c.if-not-is_sound.false

pub returns : goal.returns
returns c = holders-sound _ _ _ (c.is_sound.ensures (table_of _ _ c.well_formed.1.0)) _ c.if-not-is_sound.false c.holders_checked.ensures
