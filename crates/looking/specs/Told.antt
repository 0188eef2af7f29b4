-- What the two looks promise, of every store and table: the answer as it is told.
use Rattle.std.specs.Prelude.{◌≡◌, refl, Bool, true, false, List, [], ◌∷◌, ◌⊎◌, ◌↔◌, ℕ, ◌+◌, ◌≤◌}
use Rattle.locks.specs.Holders.{width, holds}
use Rattle.sessions.specs.declared.Session.{Session}
use Rattle.serial.specs.Serial.{true≢false}
use Rattle.serial.specs.Locks.{weak, strong}
use Rattle.serial.specs.Locks as L
use Rattle.serial.specs.Calls as C
use Rattle.machine.specs.State.{top}
use Rattle.machine.specs.View.{seen, locate_word, update_word}
use Rattle.meaning.specs.Reading.{meaning}
use Rattle.meaning.specs.Sound.{Sound}
use Rattle.promises.specs.Demands.{Lending}
use Rattle.promises.specs.Runs.{lending}
use Rattle.promises.specs.Holding.{holders_in}
use Rattle.looking.specs.Halves.{halves, half-low, half_high}

-- The free records: as many as the machine counts.
pub record FreeTold (s : List ℕ) (t : List Session) (a : C.Answer) : Type 0 where
  pub counts : Sound s t → a ≡ C.done ((meaning s t).free ∷ [])
  pub refuses : ¬ Sound s t → a ≡ C.refused 2 0

-- The holders of a key in one word: of the sessions, those in locate mode in its lower half, those in update mode in its upper one.
unfoldable pub holders_word : Lending → ℕ → ℕ
holders_word x k = halves (locate_word k (seen (meaning x.store x.table))) (update_word k (seen (meaning x.store x.table)))

-- They are the holders of demand 2 (promises, specs/Holding), session by session.
pub record Holding (x : Lending) (k : ℕ) (w : ℕ) : Type 0 where
  pub locate : (q : ℕ) → 1 ≤ q → q ≤ width → holds w q ≡ holders_in x L.group weak q k
  pub update : (q : ℕ) → 1 ≤ q → q ≤ width → holds w (width + q) ≡ holders_in x L.group strong q k

pub holding : (x : Lending) (k : ℕ) → Holding x k (holders_word x k)
unfolding holders_word
holding x k =
    let low = locate_word k (seen (meaning x.store x.table)) in
    let high = update_word k (seen (meaning x.store x.table)) in
    record { locate = half-low low high; update = half_high low high }

-- Of a sound store and table: 9 for an infinity, else the holders.
pub record KeyTold (k : ℕ) (s : List ℕ) (t : List Session) (a : C.Answer) : Type 0 where
  pub infinite : (k ≡ 0) ⊎ (k ≡ top) → a ≡ C.refused 9 0
  pub holds : ¬ (k ≡ 0) → ¬ (k ≡ top) → (a ≡ C.done (holders_word (lending s t) k ∷ [])) × Holding (lending s t) k (holders_word (lending s t) k)

-- The holders of a key.
pub record HoldersTold (k : ℕ) (s : List ℕ) (t : List Session) (a : C.Answer) : Type 0 where
  pub shows : Sound s t → KeyTold k s t a
  pub refuses : ¬ Sound s t → a ≡ C.refused 2 0

-- ---- the ways out; b is what the test of soundness answered

module _ (s : List ℕ) (t : List Session) (b : Bool) (i : (b ≡ true) ↔ Sound s t) where
  pub free-unsound : b ≡ false → FreeTold s t (C.refused 2 0)
  free-unsound e = record { counts = λ A. absurd (true≢false (i.1 A) e); refuses = λ n. refl }

  pub holders-unsound : (k : ℕ) → b ≡ false → HoldersTold k s t (C.refused 2 0)
  holders-unsound k e = record { shows = λ A. absurd (true≢false (i.1 A) e); refuses = λ n. refl }

  pub holders-sound : (k : ℕ) {a : C.Answer} → b ≡ true → KeyTold k s t a → HoldersTold k s t a
  holders-sound k e K = record { shows = λ A. K; refuses = λ n. absurd (n (i.0 e)) }
