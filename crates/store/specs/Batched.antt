-- What a batch promises over a lent table: a table that is not of 17 records is refused, and nothing is changed; else what the batch by value promises.
use Rattle.std.specs.Prelude.{◌≡◌, List, ℕ, length}
use Rattle.sessions.specs.declared.Session.{Session}
use Rattle.sessions.specs.Sessions.{parties}
use Rattle.outcomes.specs.declared.Answer.{Answer}
use Rattle.outcomes.specs.declared.Answer.TheVariants.{Refused}
use Rattle.outcomes.specs.Said.{said}
use Rattle.batches.specs.Batches.{Batches}

-- What a batch does: the words of the asks; store, table, list and answers as they were; the batch's own answer; answers, list, store and table as they are left.
abbrev pub BatchEffect : Type 1
BatchEffect = List ℕ → List ℕ → List Session → List ℕ → List ℕ → Answer → List ℕ → List ℕ → List ℕ → List Session → Type 0

abbrev pub Batched : BatchEffect
Batched w s t l v a v' l' s' t' = Batches w s t l v (said a) v' l' s' t'

-- Over a table of any length.
abbrev pub BatchedOnTable : BatchEffect → BatchEffect
BatchedOnTable E w s t l v a v' l' s' t' =
    (length t ≡ parties → E w s t l v a v' l' s' t') × (¬ (length t ≡ parties) → (a ≡ Refused 1 0) × (s' ≡ s) × (t' ≡ t) × (l' ≡ l) × (v' ≡ v))
