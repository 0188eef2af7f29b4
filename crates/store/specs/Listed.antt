-- What a run and a request promise over a lent table: a table that is not of 17 records is refused, no step is made and nothing is changed; else what they
-- promise by value.
use Rattle.std.specs.Prelude.{◌≡◌, List, ℕ, ◌≤◌, length}
use Rattle.std.proofs.Math.Decide.{ℕ_discrete}
use Rattle.std.proofs.Common.{arith}
use Rattle.sessions.specs.declared.Session.{Session}
use Rattle.sessions.specs.Sessions.{parties}
use Rattle.outcomes.specs.declared.Answer.{Answer}
use Rattle.outcomes.specs.declared.Answer.TheVariants.{Refused}
use Rattle.outcomes.specs.Said.{said}
use Rattle.promises.specs.Runs.{Runs, Requests, most_steps}
use Rattle.store.specs.declared.Go.{Go}
use Rattle.store.specs.declared.Wish.{Wish}

-- What is done with an argument: store, table and list as they were, the argument, the answer, how many steps, store, table and list as they are left.
abbrev pub Listed : Type 0 → Type 1
Listed D = List ℕ → List Session → List ℕ → D → Answer → ℕ → List ℕ → List Session → List ℕ → Type 0

abbrev pub RanBy : Listed Go
RanBy s t l k a n s' t' l' = Runs k.party k.most s t l (said a) n l' s' t'

abbrev pub AskedBy : Listed Wish
AskedBy s t l k a n s' t' l' = Requests k.party k.code k.entry k.first k.second k.most s t l (said a) n l' s' t'

-- Over a table of any length.
abbrev pub ListedOnTable : {D : Type 0} → Listed D → Listed D
ListedOnTable E s t l k a n s' t' l' =
    (length t ≡ parties → E s t l k a n s' t' l') × (¬ (length t ≡ parties) → (a ≡ Refused 1 0) × (n ≡ 0) × (s' ≡ s) × (t' ≡ t) × (l' ≡ l))

-- ---- how many steps cross to C

abbrev pub Few : {D : Type 0} → Listed D → Type 0
Few {D} E =
    (s : List ℕ) (t : List Session) (l : List ℕ) (k : D) (a : Answer) (n : ℕ) (s' : List ℕ) (t' : List Session) (l' : List ℕ) → E s t l k a n s' t' l' → n ≤ most_steps

pub ran-few : Few RanBy
ran-few s t l k a n s' t' l' r = r.within.few

pub asked-few : Few AskedBy
asked-few s t l k a n s' t' l' r = go (ℕ_discrete n 0)
  where
    go : Dec (n ≡ 0) → n ≤ most_steps
    go (yes e) = omega (arith, e)
    go (no z) = (r.within z).few

pub few-on-table : {D : Type 0} (E : Listed D) → Few E → Few (ListedOnTable E)
few-on-table E f s t l k a n s' t' l' r = go (ℕ_discrete (length t) parties)
  where
    go : Dec (length t ≡ parties) → n ≤ most_steps
    go (yes e) = f s t l k a n s' t' l' (r.0 e)
    go (no z) = omega (arith, (r.1 z).1)
