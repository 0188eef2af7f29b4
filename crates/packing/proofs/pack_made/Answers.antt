use Rattle.packing.specs.Packed.{made-fits}
use Rattle.std.proofs.Common.{refl}
use Rattle.packing.proofs.pack_made.Goals as goal

pub overflow_add-result : goal.overflow_add-result
overflow_add-result c = record { fits = made-fits _ _ c.requires refl c.pack.ensures }
