-- What only reads, as a C program sees it: the answer read off the number (`unpacked`) is the whole answer.
use Rattle.std.specs.Prelude.{◌≡◌, refl, Bool, true, false, List, ℕ, length}
use Rattle.std.proofs.Common.{ap, subst, sym, ◌∙◌, inl, inr}
use Rattle.std.proofs.Math.Decide.{ℕ_discrete}
use Rattle.sessions.specs.declared.Session.{Session}
use Rattle.sessions.specs.Sessions.{parties}
use Rattle.serial.specs.Calls as C
use Rattle.serial.specs.Serial.{true≢false}
use Rattle.machine.specs.State.{top}
use Rattle.outcomes.specs.Said.{said}
use Rattle.meaning.specs.Sound.{Sound}
use Rattle.looking.specs.Told.{FreeTold, KeyTold, HoldersTold}
use Rattle.packing.specs.Packed.{unpacked}
use Rattle.entry_store.specs.Brief.{brief}
use Rattle.entry_store.specs.Turns.{reads}
use Rattle.entry_store.specs.Exported.{Look, Looked}

-- Brief where store and table are sound and where they are not: in neither case can it be other than brief.
either-brief : (P : Type 0) (a : C.Answer) → (P → brief a ≡ true) → (¬ P → brief a ≡ true) → brief a ≡ true
either-brief P a f g = go (brief a) refl
  where
    go : (b : Bool) → brief a ≡ b → brief a ≡ true
    go true e = e
    go false e = absurd (true≢false (g (λ p. true≢false (f p) e)) e)

free-brief : (s : List ℕ) (t : List Session) (a : C.Answer) → FreeTold s t a → brief a ≡ true
free-brief s t a T = either-brief (Sound s t) a (λ S. ap brief (T.counts S)) (λ n. ap brief (T.refuses n))

key-brief : (k : ℕ) (s : List ℕ) (t : List Session) (a : C.Answer) → KeyTold k s t a → brief a ≡ true
key-brief k s t a K = go (ℕ_discrete k 0) (ℕ_discrete k top)
  where
    go : Dec (k ≡ 0) → Dec (k ≡ top) → brief a ≡ true
    go (yes e) d = ap brief (K.infinite (inl e))
    go (no n) (yes e) = ap brief (K.infinite (inr e))
    go (no n) (no m) = ap brief (K.holds n m).0

holders-brief : (k : ℕ) (s : List ℕ) (t : List Session) (a : C.Answer) → HoldersTold k s t a → brief a ≡ true
holders-brief k s t a T = either-brief (Sound s t) a (λ S. key-brief k s t a (T.shows S)) (λ n. ap brief (T.refuses n))

-- Of a table of any length.
abbrev pub Reads : Look → List ℕ → List Session → C.Answer → Type 0
Reads E s t a = (length t ≡ parties → E s t a) × (¬ (length t ≡ parties) → a ≡ C.refused 1 0)

looked-read : (E : Look) (s : List ℕ) (t : List Session) (r : ℕ) → ((a : C.Answer) → E s t a → brief a ≡ true) → Looked E s t r → Reads E s t (unpacked r)
looked-read E s t r b K = (λ e. subst (E s t) (sym (is e)) (K.does.0 e), λ n. reads (said K.answer) r K.packs (ap (λ a. brief (said a)) (K.does.1 n)) ∙ ap said (K.does.1 n))
  where
    is : length t ≡ parties → unpacked r ≡ said K.answer
    is e = reads (said K.answer) r K.packs (b (said K.answer) (K.does.0 e))

pub free-read : (s : List ℕ) (t : List Session) (r : ℕ) → Looked FreeTold s t r → Reads FreeTold s t (unpacked r)
free-read s t r K = looked-read FreeTold s t r (free-brief s t) K

pub holders-read : (k : ℕ) (s : List ℕ) (t : List Session) (r : ℕ) → Looked (HoldersTold k) s t r → Reads (HoldersTold k) s t (unpacked r)
holders-read k s t r K = looked-read (HoldersTold k) s t r (holders-brief k s t) K
