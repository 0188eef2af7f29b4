-- The ways through the two calls, each with what its definition gives there.
use mathlib.Core.Path.{◌≡◌, sym, ap, ◌∙◌}
use mathlib.Core.Bool.{Bool, true, false, cond}
use mathlib.Core.List.{List}
use Prim.Native.Nat.{ℕ}
use lib.ListN.{length}
use borrow.Author.Tests.{eq-eqb, ne_eqb}
use Rattle.stamps.specs.declared.Stamp.{Stamp}
use Rattle.stamps.specs.Stamps.{covered, stamp}
use Rattle.stamps.specs.Minutes.{covered-is}
use Rattle.stamps.specs.Laws.{Proper, reads-back}
use Rattle.local_stamps.specs.Exported.{served, bytes_of, accepts, Filled}
use Rattle.local_stamps.specs.Answers.{served-small}

module _ (b t : ℕ) (old : List ℕ) where
  refused : accepts b t (length old) ≡ false → Filled b t old 18 old
  refused e =
      record {
        answers = ap {A = Bool} (λ c. cond c 0 18) (sym e);
        leaves = ap {A = Bool} (λ c. cond c (bytes_of (stamp b t)) old) (sym e);
      }

  pub filled-1 : served b ≡ false → Filled b t old 18 old
  unfolding accepts
  filled-1 e = refused cc

  pub filled-2 : served b ≡ true → covered t ≡ false → Filled b t old 18 old
  unfolding accepts
  filled-2 e c = refused cc

  pub filled-3 : served b ≡ true → covered t ≡ true → (length old ≡ 7 → ⊥) → Filled b t old 18 old
  unfolding accepts
  filled-3 e c n = refused (cc (ne_eqb (length old) 7 n))

  pub filled-4 : {s : Stamp} {new : List ℕ} → served b ≡ true → covered t ≡ true → length old ≡ 7 → s ≡ stamp b t → new ≡ bytes_of s → Filled b t old 0 new
  unfolding accepts
  filled-4 {s} e c n p q =
      record {
        answers = ap {A = Bool} (λ x. cond x 0 18) (sym yes);
        leaves = q ∙ ap bytes_of p ∙ ap {A = Bool} (λ x. cond x (bytes_of (stamp b t)) old) (sym yes);
      }
    where
      yes : accepts b t (length old) ≡ true
      yes = cc (eq-eqb (length old) 7 n)

pub stamp-fits : (b t : ℕ) {s : Stamp} → served b ≡ true → covered t ≡ true → s ≡ stamp b t → Proper s
stamp-fits b t e c p = rw p (reads-back b t (served-small b e) (covered-is t c).0 (covered-is t c).1).proper
