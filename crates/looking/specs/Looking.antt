-- What is read of the words: how many records the free chain has, and the holders of a key.
use Rattle.std.specs.Prelude.{◌≡◌, cond, List, ℕ, ◌≤◌, eqb}
use Rattle.std.proofs.Math.Path.{sym, ap}
use Rattle.std.proofs.Common.{subst, ◌∙◌, arith, eq-eqb, ne_eqb}
use Rattle.std.proofs.Math.ListN.{length}
use Rattle.words.specs.Store.{HasRecord, word_of}
use Rattle.words.specs.Header.{header_word, first_place, free_place}
use Rattle.chain.specs.Walk.{Walk}
use Rattle.scans.specs.Scans.{last_upto, entries_in, CanFollow}
use Rattle.scans.proofs.Turns.{entries-few}
use Rattle.meaning.specs.Reading.{M-of, R-of}
use Rattle.looking.specs.Halves.{halves}

-- The records of the free chain, counted as members are.
unfoldable pub free_count : List ℕ → ℕ
free_count s = length (entries_in s (M-of s) (R-of s) (header_word s free_place))

-- The holders of key k, where the descriptor at record d is the last one whose key is at most k: its locate and its update holders, or its gap's.
unfoldable pub held_at : List ℕ → ℕ → ℕ → ℕ → ℕ
held_at s m d k = cond (eqb (word_of s m d 1) k) (halves (word_of s m d 2) (word_of s m d 3)) (halves (word_of s m d 4) 0)

-- The record of that descriptor.
abbrev pub last_of : List ℕ → ℕ → ℕ
last_of s k = last_upto s (M-of s) (R-of s) (header_word s first_place) k

unfoldable pub held_of : List ℕ → ℕ → ℕ
held_of s k = held_at s (M-of s) (last_of s k) k

-- ---- what the code asks

-- The free chain can be walked.
pub record FreeReady (s : List ℕ) : Type 0 where
  pub header : 16 ≤ length s
  pub few : R-of s ≤ 4096
  pub walk : Walk s (M-of s) (R-of s) (header_word s free_place)

-- The descriptors can be walked, and the one found is there.
pub record KeyReady (s : List ℕ) (k : ℕ) : Type 0 where
  pub header : 16 ≤ length s
  pub follow : CanFollow s (M-of s) (R-of s) (header_word s first_place)
  pub found : HasRecord s (M-of s) (last_of s k)

-- ---- the runs of the code, as equations

module _ (s : List ℕ) {m r i : ℕ} (em : m ≡ M-of s) (er : r ≡ R-of s) where
  pub free_walk : FreeReady s → i ≡ header_word s free_place → Walk s m r i
  free_walk F e = subst (λ x. Walk s x r i) (sym em) (subst (λ x. Walk s (M-of s) x i) (sym er) (subst (Walk s (M-of s) (R-of s)) (sym e) F.walk))

  pub count-run : {n : ℕ} → i ≡ header_word s free_place → n ≡ length (entries_in s m r i) → n ≡ free_count s
  unfolding free_count
  count-run e q =
      q ∙ ap (λ x. length (entries_in s x r i)) em ∙ ap (λ x. length (entries_in s (M-of s) x i)) er ∙ ap (λ x. length (entries_in s (M-of s) (R-of s) x)) e

  pub count-few : {n : ℕ} → FreeReady s → i ≡ header_word s free_place → n ≡ length (entries_in s m r i) → n ≤ 4096
  count-few F e q = omega (arith, q, er, F.few, entries-few s m r i)

  pub key-follow : {k : ℕ} → KeyReady s k → i ≡ header_word s first_place → CanFollow s m r i
  key-follow K e = subst (λ x. CanFollow s x r i) (sym em) (subst (λ x. CanFollow s (M-of s) x i) (sym er) (subst (CanFollow s (M-of s) (R-of s)) (sym e) K.follow))

  last-is : (k : ℕ) → i ≡ header_word s first_place → last_upto s m r i k ≡ last_of s k
  last-is k e = ap (λ x. last_upto s x r i k) em ∙ ap (λ x. last_upto s (M-of s) x i k) er ∙ ap (λ x. last_upto s (M-of s) (R-of s) x k) e

  pub key-found : (k : ℕ) {d : ℕ} → KeyReady s k → i ≡ header_word s first_place → d ≡ last_upto s m r i k → HasRecord s m d
  key-found k {d} K e q = subst (λ x. HasRecord s x d) (sym em) (subst (HasRecord s (M-of s)) (sym (q ∙ last-is k e)) K.found)

  pub held-run : (k : ℕ) {d w : ℕ} → i ≡ header_word s first_place → d ≡ last_upto s m r i k → w ≡ held_at s m d k → w ≡ held_of s k
  unfolding held_of
  held-run k {d} e q z = z ∙ ap (λ x. held_at s x d k) em ∙ ap (λ x. held_at s (M-of s) x k) (q ∙ last-is k e)

module _ (s : List ℕ) (m d k : ℕ) {key : ℕ} (named : key ≡ word_of s m d 1) where
  pub own-run : {l u w : ℕ} → key ≡ k → l ≡ word_of s m d 2 → u ≡ word_of s m d 3 → w ≡ halves l u → w ≡ held_at s m d k
  unfolding held_at
  own-run e a b z = simp (eq-eqb (word_of s m d 1) k (sym named ∙ e), sym a, sym b) z

  pub gap-run : {g w : ℕ} → ¬ (key ≡ k) → g ≡ word_of s m d 4 → w ≡ halves g 0 → w ≡ held_at s m d k
  unfolding held_at
  gap-run n a z = simp (ne_eqb (word_of s m d 1) k (λ e. n (named ∙ e)), sym a) z
