-- The keys that a locate has passed, and whose locates must hold a stored key and the gap behind it.
use Rattle.std.specs.Prelude.{List, Bool, not, ◌&&◌, ℕ, ◌+◌, eqb, leb}
use Rattle.sessions.specs.declared.Session.{Session}
use Rattle.holders.specs.Holders.{sessions_with}
use Rattle.passing.specs.declared.Asked.{Asked}

-- a locate that takes, and has taken a key, has passed the keys from first to the last one taken
unfoldable pub has_passed : ℕ → Session → Bool
has_passed key s = eqb s.stage 5 && not (eqb s.last 0) && leb s.first key && leb key s.last

-- one that has passed a stored key needs the gap behind it too, but for a gap that has no key where the next stored key is passed as well
unfoldable pub needs_gap : ℕ → ℕ → Session → Bool
needs_gap key next s = has_passed key s && not (eqb next (key + 1) && has_passed next s)

-- whose locates must hold a stored key, and its gap up to the next stored key, 0 for none
unfoldable pub asked_at : List Session → ℕ → ℕ → Asked
asked_at t key next = record { locate = sessions_with (has_passed key) t; gap = sessions_with (needs_gap key next) t }
