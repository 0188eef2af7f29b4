-- Theorems of specs/Unfinished: what it defines is there.
use Rattle.std.specs.Prelude.{List, map, ℕ}
use Rattle.serial.specs.Locks.{Table, Strict}
use Rattle.serial.specs.LockMachine.{Formatted}
use Rattle.serial.specs.Calls.{abort, Turn, nothing, told, Machine, Run, Unfinished, Made, Knows, Laws}
use Rattle.serial.proofs.Calls.{demand-3}
use Rattle.serial.specs.Unfinished.{unfinished-told}

-- From a fresh store: after any list of calls the unfinished sessions can be listed, and aborted in that sequence.
pub aborts-made : (𝓢 : Machine) (table : Table) → Strict table → Laws 𝓢 table → (x y : 𝓢.X) (ks : List Turn) → Knows 𝓢 nothing x → Formatted (𝓢.meaning x) → Run 𝓢 x ks y
    → (ss : List ℕ) × Unfinished (told nothing ks) ss × Made 𝓢 y (map abort ss)
aborts-made 𝓢 table σ L x y ks w f r = let u = unfinished-told ks in (u.0, u.1, (demand-3 𝓢 table σ L x y ks w f r).can_abort u.0 u.1)
