-- Holders words of entries and groups, the begun sessions as a holders word, and the holders of every entry.
use Rattle.std.specs.Prelude.{List, Bool, true, cond, ◌&&◌, ◌||◌, ℕ, zero, suc, ◌+◌, ◌-◌, eqb, leb, length}
use Rattle.std.specs.Int.Bits.{bit_and, bit_or}
use Rattle.words.specs.Entries.{entry_word}
use Rattle.locks.specs.Rule.{agrees_of}
use Rattle.locks.specs.Holders.{word_bits, held_by, holders}
use Rattle.sessions.specs.declared.Session.{Session}
use Rattle.sessions.specs.Sessions.{parties, session_at, is_begun}

-- ---- two words

-- all of `some` are among `all`
unfoldable pub within : ℕ → ℕ → Bool
within some all = eqb (bit_and some all) some

-- at most one holds
unfoldable pub lone : ℕ → Bool
lone w = leb (length (holders word_bits w)) 1

-- no session is in one word and another in the other
unfoldable pub alone : ℕ → ℕ → Bool
alone a b = eqb a 0 || eqb b 0 || lone (bit_or a b)

-- no two different sessions hold in modes that do not agree by the lock table, of those that hold in the weak mode (share, locate) and in
-- the strong one (exclusive, update)
unfoldable pub agree : ℕ → ℕ → ℕ → Bool
agree kind weak strong =
    (agrees_of kind 0 0 || lone weak) && (agrees_of kind 1 1 || lone strong)
    && ((agrees_of kind 0 1 && agrees_of kind 1 0) || alone weak strong)

-- only begun sessions hold, and no two conflict
unfoldable pub holders_ok : ℕ → ℕ → ℕ → ℕ → Bool
holders_ok kind weak strong begun = within weak begun && within strong begun && agree kind weak strong

-- ---- the sessions of a table that have a property, as a holders word

-- with those of the sessions from p on, n of them, that have it
unfoldable pub with_from : (Session → Bool) → List Session → ℕ → ℕ → ℕ → ℕ
with_from f t word p zero = word
with_from f t word p (suc n) = with_from f t (cond (f (session_at t p)) (held_by p word) word) (p + 1) n

unfoldable pub sessions_with : (Session → Bool) → List Session → ℕ
sessions_with f t = with_from f t 0 1 (parties - 1)

unfoldable pub begun_mask : List Session → ℕ
begun_mask t = sessions_with is_begun t

-- ---- entries, of kind 0

-- the entries from e on, n of them
unfoldable pub entries_from : List ℕ → ℕ → ℕ → ℕ → Bool
entries_from s begun e zero = true
entries_from s begun e (suc n) = holders_ok 0 (entry_word s e 1) (entry_word s e 2) begun && entries_from s begun (e + 1) n
