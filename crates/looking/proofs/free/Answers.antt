use Rattle.std.proofs.Common.{rules, sym, subst}
use Rattle.outcomes.specs.declared.Answer.{Answer}
use Rattle.outcomes.specs.Said.{said}
use Rattle.promises.specs.Seats.{table_of}
use Rattle.looking.specs.Told.{FreeTold, free-unsound}
use Rattle.looking.specs.Read.{free-can, free-told}
use Rattle.looking.proofs.free.Goals as goal

pub returns-then-not-is_sound : goal.returns-then-not-is_sound
returns-then-not-is_sound c = subst (λ (a : Answer). FreeTold c.args.store.now c.args.t (said a)) (sym c.from.ensures) (free-unsound _ _ _ (c.is_sound.ensures (table_of _ _ c.well_formed.1.0)) c.if-not-is_sound.true)

pub free_count-requires : goal.free_count-requires
free_count-requires c = free-can _ _ ((c.is_sound.ensures (table_of _ _ c.well_formed.1.0)).0 c.if-not-is_sound.false)

pub returns : goal.returns
returns c = free-told _ _ _ ((c.is_sound.ensures (table_of _ _ c.well_formed.1.0)).0 c.if-not-is_sound.false) c.free_count.ensures
