-- Keys and entries side by side: the memberships that they stand for, and one more or one less of them.
use Rattle.std.specs.Prelude.{◌≡◌, refl, List, [], ◌∷◌, ℕ, zero, suc, ◌+◌, ◌-◌, ◌≤◌, ◌<◌, length, get_or, take, drop}
use Rattle.std.proofs.Common.{sym, ap, ◌∙◌, arith, length-take-le, get_or-take, drop-cons}
use Rattle.serial.specs.Model.{Pair}
use Rattle.reshaping.specs.Ops.{insert_in, remove_in}
use Rattle.reshaping.specs.Live.{insert_at, remove_at, used-insert, used-remove}
use Rattle.replay.specs.Held.{paired, members_in}

length-paired : (ks es : List ℕ) → length ks ≡ length es → length (paired ks es) ≡ length ks
unfolding paired
length-paired [] es h = refl
length-paired (k ∷ ks) [] h = absurd (omega arith)
length-paired (k ∷ ks) (e ∷ es) h = ap suc (length-paired ks es (omega arith))

pair-at : (ks es : List ℕ) (i : ℕ) → length ks ≡ length es → get_or (paired ks es) i (0, 0) ≡ (get_or ks i 0, get_or es i 0)
unfolding paired
pair-at [] [] i h = refl
pair-at [] (e ∷ es) i h = absurd (omega arith)
pair-at (k ∷ ks) [] i h = absurd (omega arith)
pair-at (k ∷ ks) (e ∷ es) zero h = refl
pair-at (k ∷ ks) (e ∷ es) (suc i) h = pair-at ks es i (omega arith)

paired-insert : (ks es : List ℕ) (i k e : ℕ) → length ks ≡ length es → paired (insert_at ks i k) (insert_at es i e) ≡ insert_at (paired ks es) i (k, e)
unfolding paired
paired-insert ks es zero k e h = refl
paired-insert [] [] (suc i) k e h = refl
paired-insert [] (e₀ ∷ es) (suc i) k e h = absurd (omega arith)
paired-insert (k₀ ∷ ks) [] (suc i) k e h = absurd (omega arith)
paired-insert (k₀ ∷ ks) (e₀ ∷ es) (suc i) k e h = ap (λ (l : List Pair). (k₀, e₀) ∷ l) (paired-insert ks es i k e (omega arith))

paired-remove : (ks es : List ℕ) (i : ℕ) → length ks ≡ length es → paired (remove_at ks i) (remove_at es i) ≡ remove_at (paired ks es) i
unfolding paired
paired-remove [] [] zero h = refl
paired-remove [] [] (suc i) h = refl
paired-remove [] (e ∷ es) i h = absurd (omega arith)
paired-remove (k ∷ ks) [] i h = absurd (omega arith)
paired-remove (k ∷ ks) (e ∷ es) zero h = refl
paired-remove (k ∷ ks) (e ∷ es) (suc i) h = ap (λ (l : List Pair). (k, e) ∷ l) (paired-remove ks es i (omega arith))

-- ---- those in use

module _ (ks es : List ℕ) (n : ℕ) (in-ks : n ≤ length ks) (in-es : n ≤ length es) where
  as_many : length (take n ks) ≡ length (take n es)
  as_many = length-take-le n ks in-ks ∙ sym (length-take-le n es in-es)

  pub length-members : length (members_in ks es n) ≡ n
  length-members = length-paired (take n ks) (take n es) as_many ∙ length-take-le n ks in-ks

  pub member-at : (i : ℕ) → i < n → get_or (members_in ks es n) i (0, 0) ≡ (get_or ks i 0, get_or es i 0)
  member-at i h = pair-at (take n ks) (take n es) i as_many ∙ λ j. (get_or-take n ks i 0 h j, get_or-take n es i 0 h j)

  pub members-from : (i : ℕ) → i < n → drop i (members_in ks es n) ≡ (get_or ks i 0, get_or es i 0) ∷ drop (suc i) (members_in ks es n)
  members-from i h =
      drop-cons (members_in ks es n) i (0, 0) (omega (arith, length-members)) ∙ ap (λ (p : Pair). p ∷ drop (suc i) (members_in ks es n)) (member-at i h)

  pub members-less : (i : ℕ) → i < n → members_in (remove_in ks i) (remove_in es i) (n - 1) ≡ remove_at (members_in ks es n) i
  members-less i h = rw (used-remove ks n i h in-ks, used-remove es n i h in-es) (paired-remove (take n ks) (take n es) i as_many)

pub members-more : (ks es : List ℕ) (n i k e : ℕ) → i ≤ n → n < length ks → n < length es
    → members_in (insert_in ks i k) (insert_in es i e) (n + 1) ≡ insert_at (members_in ks es n) i (k, e)
members-more ks es n i k e h in-ks in-es =
    rw (used-insert ks n i k h in-ks, used-insert es n i e h in-es) (paired-insert (take n ks) (take n es) i k e (as_many ks es n (omega arith) (omega arith)))
