-- What an ask and a batch promise: lists of ordinary calls, each related by the ordinary contract, from store, table and list as they were to those as they
-- are left.
use Rattle.std.specs.Prelude.{◌≡◌, Bool, true, false, cond, List, [], ◌∷◌, ◌++◌, ℕ, suc, ◌*◌, ◌≤◌, ◌<◌, eqb, length, take, drop}
use Rattle.sessions.specs.declared.Session.{Session}
use Rattle.sessions.specs.Sessions.{session_at}
use Rattle.serial.specs.Calls as C
use Rattle.meaning.specs.Sound.{Sound}
use Rattle.promises.specs.Relations.{Calls}
use Rattle.promises.specs.Runs.{Runs, Requests}
use Rattle.packing.specs.Packed.{PacksMade}
use Rattle.asking.specs.declared.Asking.{Asking}
use Rattle.asking.specs.declared.Asking.TheVariants.{Begin, Put, Step, Commit, Abort, Run, Request, Ask, Other}
use Rattle.asking.specs.Asks.{asking_at}

-- ---- one ask

-- From store, table and list as they were: the answer, how many steps were made, and list, store and table as they are left.
abbrev pub Effect : Type 1
Effect = List ℕ → List Session → List ℕ → C.Answer → ℕ → List ℕ → List ℕ → List Session → Type 0

-- A call that has no list: no step, and the list stays.
abbrev pub Once : C.Call → Effect
Once c s t l a n l' s' t' = Calls c s t a [] s' t' × (n ≡ 0) × (l' ≡ l)

abbrev pub Asks : Asking → Effect
Asks (Begin p) s t l a n l' s' t' = Once (C.begin p) s t l a n l' s' t'
Asks (Put p c e f g) s t l a n l' s' t' = Once (C.put p c e f g) s t l a n l' s' t'
Asks (Step p) s t l a n l' s' t' = Calls (C.step p l) s t a l' s' t' × (n ≡ 1)
Asks (Commit p) s t l a n l' s' t' = Once (C.commit p) s t l a n l' s' t'
Asks (Abort p) s t l a n l' s' t' = Once (C.abort p) s t l a n l' s' t'
Asks (Run p b) s t l a n l' s' t' = Runs p b s t l a n l' s' t'
Asks (Request p c e f g b) s t l a n l' s' t' = Requests p c e f g b s t l a n l' s' t'
Asks (Ask p) s t l a n l' s' t' = Once (C.ask p) s t l a n l' s' t'
Asks Other s t l a n l' s' t' = (a ≡ C.refused 101 0) × (n ≡ 0) × (l' ≡ l) × (s' ≡ s) × (t' ≡ t)

-- ---- one after another

-- Only a step's answer of more lets a batch go on; of a run or a request it says that the bound is used up.
abbrev pub is_step : Asking → Bool
is_step (Begin p) = false
is_step (Put p c e f g) = false
is_step (Step p) = true
is_step (Commit p) = false
is_step (Abort p) = false
is_step (Run p b) = false
is_step (Request p c e f g b) = false
is_step (Ask p) = false
is_step Other = false

abbrev pub goes_on : Asking → C.Answer → Bool
goes_on k C.ok = true
goes_on k C.more = is_step k
goes_on k (C.wait p) = false
goes_on k (C.done ns) = true
goes_on k (C.refused n m) = false

-- The code of the request that an ask steps, of a table t.
abbrev pub code_of : Asking → List Session → ℕ
code_of (Begin p) t = 0
code_of (Put p c e f g) t = 0
code_of (Step p) t = (session_at t p).code
code_of (Commit p) t = 0
code_of (Abort p) t = 0
code_of (Run p b) t = (session_at t p).code
code_of (Request p c e f g b) t = c
code_of (Ask p) t = 0
code_of Other t = 0

-- How many words of the list an answer says are written: two a pair of a locate that is done.
abbrev pub pairs_of : ℕ → ℕ → ℕ
pairs_of code n = cond (eqb code 5) (2 * n) 0

abbrev pub used : ℕ → C.Answer → ℕ
used code C.ok = 0
used code C.more = 0
used code (C.wait p) = 0
used code (C.done []) = 0
used code (C.done (n ∷ [])) = pairs_of code n
used code (C.done (n ∷ m ∷ ns)) = 0
used code (C.refused n m) = 0

module _ (w : List ℕ) where
  -- Ask i of the words w, made; r is the number that its answer and its steps are packed in.
  pub record MadeAt (i : ℕ) (s : List ℕ) (t : List Session) (l : List ℕ) (a : C.Answer) (r : ℕ) (l' s' : List ℕ) (t' : List Session) : Type 0 where
    pub there : 7 * i < length w
    pub steps : ℕ
    pub made : Asks (asking_at w i) s t l a steps l' s' t'
    pub packs : PacksMade steps a r

  -- The asks from i on, and the numbers of the answers. Each is lent what the ones before it left of the list: their pairs stay as they are.
  pub data Batched : ℕ → List ℕ → List Session → List ℕ → List ℕ → List ℕ → List ℕ → List Session → Type 0 where
    none : {i : ℕ} {s l : List ℕ} {t : List Session} → length w ≤ 7 * i → Batched i s t l [] l s t
    last : {i r : ℕ} {a : C.Answer} {s l l' s' : List ℕ} {t t' : List Session} → MadeAt i s t l a r l' s' t' → goes_on (asking_at w i) a ≡ false
        → Batched i s t l (r ∷ []) l' s' t'
    goes : {i r : ℕ} {a : C.Answer} {s l l₁ s₁ l' s' rs : List ℕ} {t t₁ t' : List Session} → MadeAt i s t l a r l₁ s₁ t₁ → goes_on (asking_at w i) a ≡ true
        → Batched (suc i) s₁ t₁ (drop (used (code_of (asking_at w i) t) a) l₁) rs l' s' t'
        → Batched i s t l (r ∷ rs) (take (used (code_of (asking_at w i) t) a) l₁ ++ l') s' t'

-- ---- a batch

-- There is a place for the answer of each ask, a rest of fewer than seven words being one; and there are at most 65,535 asks.
abbrev pub Fits : ℕ → ℕ → Type 0
Fits words answers = (words ≤ 7 * answers) × (words ≤ 458745)

-- On a sound store, where the answers fit: as many answers as the batch says were made, the places behind them as they were.
abbrev pub MadeAll : List ℕ → List ℕ → List Session → List ℕ → List ℕ → C.Answer → List ℕ → List ℕ → List ℕ → List Session → Type 0
MadeAll w s t l vs a vs' l' s' t' = (rs : List ℕ) × (a ≡ C.done (length rs ∷ [])) × (vs' ≡ rs ++ drop (length rs) vs) × Batched w 0 s t l rs l' s' t'

-- The words w of the asks; store, table, list and answers as they were; the batch's own answer; answers, list, store and table as they are left.
pub record Batches (w s : List ℕ) (t : List Session) (l vs : List ℕ) (a : C.Answer) (vs' l' s' : List ℕ) (t' : List Session) : Type 0 where
  pub unsound : ¬ Sound s t → (a ≡ C.refused 2 0) × (vs' ≡ vs) × (l' ≡ l) × (s' ≡ s) × (t' ≡ t)
  pub misfit : Sound s t → ¬ Fits (length w) (length vs) → (a ≡ C.refused 102 0) × (vs' ≡ vs) × (l' ≡ l) × (s' ≡ s) × (t' ≡ t)
  pub made : Sound s t → Fits (length w) (length vs) → MadeAll w s t l vs a vs' l' s' t'
