-- What the walk of the groups keeps from one key to the next: which locates have passed, and up to which key that stays so. The definition
-- of the test, in Asked, does not use it.
use Rattle.std.specs.Prelude.{◌≡◌, List, cond, not, ◌&&◌, ℕ, zero, suc, ◌+◌, ◌-◌, ◌≤◌, ◌<◌, min, eqb, ltb, leb}
use Rattle.sessions.specs.declared.Session.{Session}
use Rattle.sessions.specs.Sessions.{parties, session_at}
use Rattle.holders.specs.Holders.{sessions_with}
use Rattle.passing.specs.declared.Passed.{Passed}
use Rattle.passing.specs.Asked.{has_passed}

-- the key, above the given one, from which on it may be otherwise whether s has passed; one above all keys for none
unfoldable pub changes_at : ℕ → Session → ℕ
changes_at key s =
    cond (eqb s.stage 5 && not (eqb s.last 0) && leb key s.last) (cond (ltb key s.first) s.first (s.last + 1)) 4294967296

-- the lowest of a number and those of the sessions from p on, n of them
unfoldable pub lowest_from : (Session → ℕ) → List Session → ℕ → ℕ → ℕ → ℕ
lowest_from f t low p zero = low
lowest_from f t low p (suc n) = lowest_from f t (min low (f (session_at t p))) (p + 1) n

unfoldable pub passed_at : List Session → ℕ → Passed
passed_at t key =
    record {
      mask = sessions_with (has_passed key) t;
      from = key;
      until = lowest_from (changes_at key) t 4294967296 1 (parties - 1);
    }

-- the mask is right at the first key, and each session has passed the others exactly if it has passed the first
pub record Knows (t : List Session) (so : Passed) : Type 0 where
  pub mask : so.mask ≡ sessions_with (has_passed so.from) t
  pub same : (p key : ℕ) → 1 ≤ p → p < parties → so.from ≤ key → key < so.until → has_passed key (session_at t p) ≡ has_passed so.from (session_at t p)

-- the same, for a range that has a key
pub record Covers (t : List Session) (key : ℕ) (so : Passed) : Type 0 where
  pub knows : Knows t so
  pub from : so.from ≤ key
  pub until : key < so.until
