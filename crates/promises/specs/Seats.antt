-- Every array of session records, one for each party, is a table of words.
use Rattle.std.specs.Prelude.{List, [], ◌∷◌, ℕ, zero, suc, ◌<◌, length}
use Rattle.std.proofs.Common.{arith}
use mir.Val.{Val}
use denote.Laws.{Is}
use denote.Shadow.{shadow}
use denote.Array.{Array, each}
use denote.Struct.Declared.{row}
use Rattle.sessions.specs.contracts.Session.{the_type}
use Rattle.sessions.specs.declared.Session.{Session}
use Rattle.sessions.specs.Sessions.{session_at, parties}
use Rattle.soundness.specs.PartyPass.{Worded}
use Rattle.soundness.specs.Parts.{Table}

one-worded : (x : Session) (v : List Val) → Is (row the_type) x v → Worded x
one-worded x v g =
    let first : x.first < 4294967296 = g.1.1.1.1.1.0.1 in
    let second : x.second < 4294967296 = g.1.1.1.1.1.1.0.1 in
    let target : x.target < 4294967296 = g.1.1.1.1.1.1.1.1.0.1 in
    record { first = omega (arith, first); second = omega (arith, second); target = omega (arith, target) }

all-worded : (xs : List Session) (us : List Val) → shadow (each Session (row the_type).own_val xs us) → (p : ℕ) → p < length xs → Worded (session_at xs p)
all-worded [] us g p l = absurd (omega (arith, l))
all-worded (x ∷ xs) [] g p l = absurd g
all-worded (x ∷ xs) (u ∷ us) g zero l = one-worded x (u ∷ []) g.0
all-worded (x ∷ xs) (u ∷ us) g (suc p) l = all-worded xs us g.1 p (omega (arith, l))

pub table_of : (t : List Session) (v : List Val) → Is (Array (row the_type) parties) t v → Table t
table_of t v g = record { seats = g.1.0.1; words = λ p l. all-worded t g.0 g.1.1 p (omega (arith, l, g.1.0.1)) }
