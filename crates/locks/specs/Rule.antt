-- The lock rule (document 01, "Long locks"; document 02, M-104), by kind (0 entries, 1 groups), held mode and asked mode (0 share or locate, 1 exclusive or
-- update).
use Rattle.std.specs.Prelude.{Bool, ◌&&◌, ℕ, zero, suc, eqb}

unfoldable pub agrees_of : ℕ → ℕ → ℕ → Bool
-- entries: share with share agrees, all else conflicts
agrees_of zero held asked = eqb held 0 && eqb asked 0
-- groups: locate with locate and update with update agree, all else conflicts
agrees_of (suc kind) held asked = eqb held asked
