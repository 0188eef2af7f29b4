-- The logical model in arrays: a value for each entry, and the memberships as keys and entries, so many of them in use.
use Rattle.std.specs.Prelude.{◌≡◌, List, [], ◌∷◌, ℕ, ◌+◌, ◌≤◌, length, get_or, take}
use Rattle.std.proofs.Math.Option.{some}
use Rattle.serial.specs.Rising.{Rising}
use Rattle.serial.specs.Model.{Pair, by_key, Db, Req, just, ans, eff, request_of}
use Rattle.replay.specs.declared.Fed.{Fed}

unfoldable pub paired : List ℕ → List ℕ → List Pair
paired [] es = []
paired (k ∷ ks) [] = []
paired (k ∷ ks) (e ∷ es) = (k, e) ∷ paired ks es

-- The memberships that n words of keys and entries stand for.
abbrev pub members_in : List ℕ → List ℕ → ℕ → List Pair
members_in ks es n = paired (take n ks) (take n es)

-- The database that values, keys and entries hold.
abbrev pub held : List ℕ → List ℕ → List ℕ → ℕ → Db
held vs ks es n = record { values = λ e. get_or vs e 0; members = members_in ks es n }

pub record Ready (vs ks es : List ℕ) (n : ℕ) : Type 0 where
  pub values : length vs ≡ 1025
  pub keys : length ks ≡ 2048
  pub entries : length es ≡ 2048
  pub count : n ≤ 2048
  pub rising : Rising by_key (members_in ks es n)

-- A request of code 1 to 4, fed: its answer and the database after it are the model's.
pub record Feeds (code entry first : ℕ) (vs ks es : List ℕ) (n : ℕ) (r : Fed) (vs' ks' es' : List ℕ) : Type 0 where
  pub ready : Ready vs' ks' es' r.count
  pub few : r.count ≤ n + 1
  pub is : (second : ℕ) (q : Req) → request_of code entry first second ≡ some q
      → (ans q (held vs ks es n) ≡ just r.answer) × (held vs' ks' es' r.count ≡ eff q (held vs ks es n))
