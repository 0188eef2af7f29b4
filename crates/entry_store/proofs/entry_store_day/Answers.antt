use Rattle.std.proofs.Common.{arith}
use Rattle.store.specs.Days.{places-few}
use Rattle.entry_store.proofs.entry_store_day.Goals as goal

pub pack_day-requires : goal.pack_day-requires
pack_day-requires c = let few = places-few _ _ _ _ _ _ _ c.day-a.ensures in omega (arith, few)
