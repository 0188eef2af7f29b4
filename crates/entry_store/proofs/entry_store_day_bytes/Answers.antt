use mathlib.Core.Path.{refl, sym, ◌∙◌}
use Rattle.std.proofs.Common.{subst}
use native.Mathlib.Omega.{arith}
use borrow.Author.Rules.{rules}
use Rattle.outcomes.specs.declared.Answer.{Answer}
use Rattle.outcomes.specs.Said.{said}
use Rattle.packing.specs.Packed.{Packs}
use Rattle.entry_store.specs.Exported.{writable-few, written-way, unwritten-way}
use Rattle.entry_store.proofs.entry_store_day_bytes.Goals as goal

pub overflow_cast-done : goal.overflow_cast-done
overflow_cast-done c = omega (arith, writable-few _ _ _ _ (sym c.write_day-written.ensures.is ∙ c.if-written.true))

pub returns-then-written : goal.returns-then-written
returns-then-written c = written-way _ _ _ _ _ _ _ _ _ c.write_day-written.ensures c.if-written.true refl c.pack.ensures

pub returns : goal.returns
returns c = unwritten-way _ _ _ _ _ _ _ _ c.write_day-written.ensures c.if-written.false (subst (λ (a : Answer). Packs (said a) c.pack-2.result) c.from-refused.ensures c.pack-2.ensures)
