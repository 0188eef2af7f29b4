-- The turns of the loop for the lowest number over the sessions.
use mathlib.Core.Path.{◌≡◌, sym, ap, ◌∙◌}
use mathlib.Core.List.{List}
use Prim.Native.Nat.{ℕ, ◌+◌, ◌-◌, ◌<◌, min}
use Rattle.sessions.specs.declared.Session.{Session}
use Rattle.sessions.specs.Sessions.{session_at}
use Rattle.holders.proofs.Turns.{one_less}
use Rattle.passing.specs.Passed.{lowest_from}

-- what is left of the sessions, done, gives the whole lowest number
pub record Lowering (whole : ℕ) (f : Session → ℕ) (t : List Session) (low p rest : ℕ) : Type 0 where
  pub is : lowest_from f t low p rest ≡ whole

pub low-more : {whole : ℕ} {f : Session → ℕ} {t : List Session} {low p rest rest' low' x : ℕ} → Lowering whole f t low p rest → 0 < rest
    → x ≡ f (session_at t p) → low' ≡ min low x → rest' ≡ rest - 1 → Lowering whole f t low' (p + 1) rest'
unfolding lowest_from
low-more {whole} {f} {t} {low} {p} {rest} {rest'} {low'} {x} g h ex e z =
    record {
      is = ap (lowest_from f t low' (p + 1)) z
          ∙ ap (λ (y : ℕ). lowest_from f t y (p + 1) (rest - 1)) (e ∙ ap (min low) ex)
          ∙ ap (lowest_from f t low p) (sym (one_less rest h))
          ∙ g.is;
    }

pub low_end : {whole : ℕ} {f : Session → ℕ} {t : List Session} {low p rest : ℕ} → Lowering whole f t low p rest → rest ≡ 0 → low ≡ whole
unfolding lowest_from
low_end {whole} {f} {t} {low} {p} {rest} g e = ap (lowest_from f t low p) (sym e) ∙ g.is
