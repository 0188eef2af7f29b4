-- Whether stored answers are the logical model's, as tests: for a run, for runs one after another, and for a locate's list.
use Rattle.std.specs.Prelude.{◌≡◌, refl, Bool, true, false, cond, ◌&&◌, ℕ, eqb}
use Rattle.std.proofs.Common.{sym, ◌∙◌, ap}
use Rattle.std.proofs.Math.Bool.{and_assoc}
use Rattle.std.proofs.lemmas.Bool.{false≢true}
use mathlib.Core.List.{List, [], ◌∷◌, ◌++◌, nil≢cons, head-eq_of_cons-eq, tail-eq_of_cons-eq}
use Rattle.serial.specs.Serial.{pick, pick_yes, pick_no, true≢false, by_bool, Done, Fits, FitsAll, after, fitsall-run, run-fitsall}
use Rattle.serial.specs.Model.{Pair, Db, Ans, just, ans, eff, empty, two_words}
use Rattle.serial.specs.Footprints.{store}
use Rattle.serial.specs.Codes.{two_by_two, two-by-two-words}
use Rattle.journal_lines.specs.Journal.{ans_discrete, answered?}
use Rattle.journal_lines.specs.Tests.{Means, eqb-means, both-mean, same-meaning}

-- ---- one answer

unfoldable pub same_ans : Ans → Ans → Bool
same_ans a b = pick (ans_discrete a b) true false

pub same-ans-means : (a b : Ans) → Means (same_ans a b) (a ≡ b)
unfolding same_ans
same-ans-means a b = (go (ans_discrete a b), pick_yes (ans_discrete a b) true false)
  where
    go : (x : Dec (a ≡ b)) → pick x true false ≡ true → a ≡ b
    go (yes e) k = e
    go (no n) k = absurd (false≢true k)

-- ---- a run

unfoldable pub fits : List (Done store) → Db → Bool
fits [] d = true
fits (x ∷ l) d = same_ans x.1 (ans x.0 d) && fits l (eff x.0 d)

-- The test is true exactly if the answers are the model's.
pub fits-means : (l : List (Done store)) (d : Db) → Means (fits l d) (Fits store l d)
unfolding fits
fits-means [] d = (λ h. tt, λ h. refl)
fits-means (x ∷ l) d = both-mean (same-ans-means x.1 (ans x.0 d)) (fits-means l (eff x.0 d))

pub fits-append : (a b : List (Done store)) (d : Db) → fits (a ++ b) d ≡ (fits a d && fits b (after store a d))
unfolding fits
fits-append [] b d = refl
fits-append (x ∷ a) b d =
    ap (λ z. same_ans x.1 (ans x.0 d) && z) (fits-append a b (eff x.0 d))
    ∙ sym (and_assoc (same_ans x.1 (ans x.0 d)) (fits a (eff x.0 d)) (fits b (after store a (eff x.0 d))))

-- ---- runs one after another

unfoldable pub fits_all : List (List (Done store)) → Db → Bool
fits_all [] d = true
fits_all (l ∷ ls) d = fits l d && fits_all ls (after store l d)

pub fits-all-means : (ls : List (List (Done store))) (d : Db) → Means (fits_all ls d) (FitsAll store ls d)
unfolding fits_all
fits-all-means [] d = (λ h. tt, λ h. refl)
fits-all-means (l ∷ ls) d = both-mean (fits-means l d) (fits-all-means ls (after store l d))

-- Test 17 as a test.
pub test-17 : (rs : List (List (Done store))) → ◌≡◌ {A = ℕ} (pick (answered? rs) 0 17) (cond (fits_all rs empty) 0 17)
test-17 rs = by_bool (fits_all rs empty)
    (λ h. pick_yes (answered? rs) 0 17 (fitsall-run store rs empty ((fits-all-means rs empty).0 h)) ∙ rw h refl)
    (λ h. pick_no (answered? rs) 0 17 (λ e. true≢false ((fits-all-means rs empty).1 (run-fitsall store rs empty e)) h) ∙ rw h refl)

-- ---- a locate's list

-- The same pairs in the same order, and no more of them.
unfoldable pub same_pairs : List Pair → List Pair → Bool
same_pairs [] [] = true
same_pairs [] (q ∷ qs) = false
same_pairs (p ∷ ps) [] = false
same_pairs (p ∷ ps) (q ∷ qs) = (eqb p.0 q.0 && eqb p.1 q.1) && same_pairs ps qs

pub same-pairs-means : (ps qs : List Pair) → Means (same_pairs ps qs) (ps ≡ qs)
unfolding same_pairs
same-pairs-means [] [] = (λ h. refl, λ e. refl)
same-pairs-means [] (q ∷ qs) = (λ h. absurd (false≢true h), λ e. absurd (nil≢cons e))
same-pairs-means (p ∷ ps) [] = (λ h. absurd (false≢true h), λ e. absurd (nil≢cons (sym e)))
same-pairs-means (p ∷ ps) (q ∷ qs) =
    let i = both-mean (both-mean (eqb-means p.0 q.0) (eqb-means p.1 q.1)) (same-pairs-means ps qs) in (
      λ h. let t = i.0 h in λ k. (t.0.0 k, t.0.1 k) ∷ t.1 k,
      λ e. let f = head-eq_of_cons-eq e in i.1 ((ap (λ x. x.0) f, ap (λ x. x.1) f), tail-eq_of_cons-eq e),
    )

-- A locate's answer: how many pairs, and the pairs.
abbrev pub list_answer : ℕ → List Pair → Ans
list_answer n ps = record { numbers = n ∷ []; words = two_words ps }

pub same_lists : (n m : ℕ) (ps qs : List Pair) → same_ans (list_answer n ps) (list_answer m qs) ≡ (same_pairs ps qs && eqb n m)
same_lists n m ps qs = same-meaning (same_ans (list_answer n ps) (list_answer m qs)) (same_pairs ps qs && eqb n m) (same-ans-means (list_answer n ps) (list_answer m qs)) (there, back)
  where
    both : Means (same_pairs ps qs && eqb n m) ((ps ≡ qs) × (n ≡ m))
    both = both-mean (same-pairs-means ps qs) (eqb-means n m)

    there : (same_pairs ps qs && eqb n m) ≡ true → list_answer n ps ≡ list_answer m qs
    there h = let t = both.0 h in λ k. list_answer (t.1 k) (t.0 k)

    back : list_answer n ps ≡ list_answer m qs → (same_pairs ps qs && eqb n m) ≡ true
    back e = both.1 (
      sym (two-by-two-words ps) ∙ ap (λ a. two_by_two a.words) e ∙ two-by-two-words qs,
      head-eq_of_cons-eq (ap (λ a. a.numbers) e),
    )

-- An answer without a list.
pub same_number : (n m : ℕ) → same_ans (list_answer n []) (just m) ≡ eqb n m
unfolding same_pairs
same_number n m = same_lists n m [] []
