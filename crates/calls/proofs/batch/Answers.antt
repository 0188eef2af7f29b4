use Rattle.std.specs.Prelude.{not}
use Rattle.std.proofs.Common.{rules, ap}
use Rattle.outcomes.specs.declared.Refusal.TheVariants.{Unsound, Answers}
use Rattle.promises.specs.Seats.{table_of}
use Rattle.batches.specs.Batches.{Batches}
use Rattle.batches.specs.Making.{batch-unsound, batch-misfit, batch-served}
use Rattle.calls.proofs.Refused.{refused-keeps}
use Rattle.calls.proofs.batch.Goals as goal

pub returns-then-not-is_sound : goal.returns-then-not-is_sound
returns-then-not-is_sound c =
    refused-keeps Unsound (λ a u. Batches c.args.asks.now c.args.store.now c.args.t c.args.list.now c.args.answers.now a c.args.answers.now c.args.list.now c.args.store.now u) c.refused.ensures
    (batch-unsound _ _ _ _ _ (c.is_sound.ensures (table_of _ _ c.well_formed.1.1.0)) (ap not c.if-not-is_sound.true))

pub returns-then-not-fits : goal.returns-then-not-fits
returns-then-not-fits c =
    refused-keeps Answers (λ a u. Batches c.args.asks.now c.args.store.now c.args.t c.args.list.now c.args.answers.now a c.args.answers.now c.args.list.now c.args.store.now u) c.refused-then-not-fits.ensures
    (batch-misfit _ _ _ _ _ ((c.is_sound.ensures (table_of _ _ c.well_formed.1.1.0)).0 c.if-not-is_sound.false) c.fits.ensures c.if-not-fits.true)

pub batch-requires : goal.batch-requires
batch-requires c = ((c.is_sound.ensures (table_of _ _ c.well_formed.1.1.0)).0 c.if-not-is_sound.false, c.fits.ensures.0 c.if-not-fits.false)

pub returns : goal.returns
returns c = batch-served _ _ _ _ _ ((c.is_sound.ensures (table_of _ _ c.well_formed.1.1.0)).0 c.if-not-is_sound.false) (c.fits.ensures.0 c.if-not-fits.false) c.batch.ensures
