-- From record i on, at most n records follow one another by word 0, all of them in the store, and then the chain ends: it can be walked.
use Rattle.std.specs.Prelude.{◌≡◌, List, ℕ, zero, suc}
use Rattle.words.specs.Store.{HasRecord, word_of}

unfoldable pub Walk : List ℕ → ℕ → ℕ → ℕ → Type 0
Walk s m zero i = i ≡ 0
Walk s m (suc n) i = ¬ (i ≡ 0) → HasRecord s m i × Walk s m n (word_of s m i 0)
