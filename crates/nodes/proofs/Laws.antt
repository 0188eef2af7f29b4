-- The search for a son, in the library's words.
use Rattle.std.specs.Prelude.{◌≡◌, refl, List, Bool, true, false, cond, ℕ, ◌≤◌, leb, nat_lt, length, Some, None}
use Rattle.std.specs.List.{position, position_or_len}
use Rattle.std.specs.Option.{unwrap_or}
use Rattle.std.proofs.Common.{sym, ap, arith, ltb-false}
use Rattle.std.proofs.lemmas.List.Sums.{prefix_len-le-length}
use Rattle.std.proofs.lemmas.List.Recursion.{is_position_or_len}
use Rattle.nodes.specs.Ops.{below}

-- how many boundaries come before the first that is at least k, as the place of that one
pub below-first : (bs : List ℕ) (k : ℕ) → below bs k ≡ position_or_len (λ (b : ℕ). leb k b) bs
below-first bs k =
    is_position_or_len (λ xs. below xs k) (λ (b : ℕ). leb k b) refl (λ x xs. ap (cond (leb k x) 0) (omega arith)) bs

-- and where there is none, they all do
pub below-place : (bs : List ℕ) (k n : ℕ) → length bs ≡ n → unwrap_or (position (λ (b : ℕ). leb k b) bs) n ≡ below bs k
below-place bs k n e = by (nat_lt (position_or_len (λ (b : ℕ). leb k b) bs) (length bs)) refl
  where
    by : (b : Bool) → nat_lt (position_or_len (λ (b : ℕ). leb k b) bs) (length bs) ≡ b
        → unwrap_or (cond b (Some (position_or_len (λ (b : ℕ). leb k b) bs)) None) n ≡ below bs k
    by true q = sym (below-first bs k)
    by false q =
        let m : position_or_len (λ (b : ℕ). leb k b) bs ≤ length bs = prefix_len-le-length _ bs in
        let l : length bs ≤ position_or_len (λ (b : ℕ). leb k b) bs = ltb-false _ _ q in
        omega (arith, below-first bs k)
