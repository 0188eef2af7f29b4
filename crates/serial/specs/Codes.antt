-- The codes of requests one by one, and what the number beside done and the written words tell of an answer.
use Rattle.std.specs.Prelude.{◌≡◌, refl, false, List, [], ◌∷◌, ◌++◌, ℕ, ◌*◌, ◌≤◌, eqb, length, take}
use Rattle.std.proofs.Common.{sym, ◌∙◌, ap, subst, arith, eqb-true}
use Rattle.std.proofs.Math.Option.{some, some-injective, none-ne-some}
use Rattle.std.proofs.Math.Seq.{take-append_seam}
use Rattle.std.proofs.lemmas.Bool.{eqb-false}
use Rattle.serial.specs.Serial.{by_bool}
use Rattle.serial.specs.Model.{Pair, two_words, located, Db, Req, read, write, insert, remove, locate, ans, request_of}
use Rattle.serial.specs.Calls.{answer_of}

-- By cases on a code, with the equation: 1 to 5, or another number.
pub by_code : {Q : Type 0} (c : ℕ) → (c ≡ 1 → Q) → (c ≡ 2 → Q) → (c ≡ 3 → Q) → (c ≡ 4 → Q) → (c ≡ 5 → Q)
    → (eqb c 1 ≡ false → eqb c 2 ≡ false → eqb c 3 ≡ false → eqb c 4 ≡ false → eqb c 5 ≡ false → Q) → Q
by_code {Q} c p₁ p₂ p₃ p₄ p₅ other = is 1 p₁ λ n₁. is 2 p₂ λ n₂. is 3 p₃ λ n₃. is 4 p₄ λ n₄. is 5 p₅ λ n₅. other n₁ n₂ n₃ n₄ n₅
  where
    is : (k : ℕ) → (c ≡ k → Q) → (eqb c k ≡ false → Q) → Q
    is k p later = by_bool (eqb c k) (λ e. p (eqb-true c k e)) later

pub by-code-upto-5 : {Q : Type 0} (c : ℕ) → 1 ≤ c → c ≤ 5 → (c ≡ 1 → Q) → (c ≡ 2 → Q) → (c ≡ 3 → Q) → (c ≡ 4 → Q) → (c ≡ 5 → Q) → Q
by-code-upto-5 c lo hi p₁ p₂ p₃ p₄ p₅ = by_code c p₁ p₂ p₃ p₄ p₅
    (λ n₁ n₂ n₃ n₄ n₅. absurd (omega (arith, eqb-false c 1 n₁, eqb-false c 2 n₂, eqb-false c 3 n₃, eqb-false c 4 n₄, eqb-false c 5 n₅)))

pub length-two-words : (l : List Pair) → length (two_words l) ≡ 2 * length l
length-two-words [] = refl
length-two-words (p ∷ l) = omega (arith, length-two-words l)

-- Words two by two, key and entry.
abbrev pub two_by_two : List ℕ → List Pair
two_by_two [] = []
two_by_two (k ∷ []) = []
two_by_two (k ∷ (e ∷ l)) = (k, e) ∷ two_by_two l

pub two-by-two-words : (ps : List Pair) → two_by_two (two_words ps) ≡ ps
two-by-two-words [] = refl
two-by-two-words (p ∷ ps) = ap (λ l. p ∷ l) (two-by-two-words ps)

-- A locate's list may go on behind the words that were written.
abbrev TellsAnswer : ℕ → Db → List ℕ → Req → Type 0
TellsAnswer c d l r = answer_of c (ans r d).numbers ((ans r d).words ++ l) ≡ ans r d

tells-located : (f g : ℕ) (d : Db) (l : List ℕ) → TellsAnswer 5 d l (locate f g)
tells-located f g d l =
    let ps = located f g d in
    ap (λ ws. record { numbers = length ps ∷ []; words = ws }) (ap (λ n. take n (two_words ps ++ l)) (sym (length-two-words ps)) ∙ take-append_seam (two_words ps) l)

-- The model's answer is what is told of it.
pub tells-answer : (c e f g : ℕ) (r : Req) (d : Db) (l : List ℕ) → request_of c e f g ≡ some r → answer_of c (ans r d).numbers ((ans r d).words ++ l) ≡ ans r d
tells-answer c e f g r d l q = by_code c
    (λ k. rw k (asked 1 (read e) refl (rw k at q)))
    (λ k. rw k (asked 2 (write e f) refl (rw k at q)))
    (λ k. rw k (asked 3 (insert e f) refl (rw k at q)))
    (λ k. rw k (asked 4 (remove e f) refl (rw k at q)))
    (λ k. rw k (asked 5 (locate f g) (tells-located f g d l) (rw k at q)))
    (λ n₁ n₂ n₃ n₄ n₅. absurd (none-ne-some r (rw (n₁, n₂, n₃, n₄, n₅) at q)))
  where
    asked : (k : ℕ) (s : Req) → TellsAnswer k d l s → some s ≡ some r → TellsAnswer k d l r
    asked k s t e = subst (TellsAnswer k d l) (some-injective s r e) t
