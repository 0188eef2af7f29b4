-- The turns of the loops over sessions and entries.
use mathlib.Core.Path.{◌≡◌, sym, ap, ◌∙◌}
use mathlib.Core.List.{List}
use mathlib.Core.Bool.{Bool, true, false, cond, ◌&&◌}
use Prim.Native.Nat.{ℕ, suc, ◌+◌, ◌-◌, ◌<◌}
use native.Mathlib.Omega.{arith}
use Rattle.words.specs.Entries.{entry_word}
use Rattle.locks.specs.Holders.{held_by}
use Rattle.sessions.specs.declared.Session.{Session}
use Rattle.sessions.specs.Sessions.{session_at}
use Rattle.holders.specs.Holders.{with_from, holders_ok, entries_from}

pub one_less : (k : ℕ) → 0 < k → k ≡ suc (k - 1)
one_less k h = omega arith

-- ---- sessions

-- what is left of the sessions, done, gives the whole holders word
pub record Masking (whole : ℕ) (f : Session → Bool) (t : List Session) (mask p rest : ℕ) : Type 0 where
  pub is : with_from f t mask p rest ≡ whole

pub mask-more : {whole : ℕ} {f : Session → Bool} {t : List Session} {mask p rest rest' mask' : ℕ} {b : Bool} → Masking whole f t mask p rest → 0 < rest
    → b ≡ f (session_at t p) → mask' ≡ cond b (held_by p mask) mask → rest' ≡ rest - 1 → Masking whole f t mask' (p + 1) rest'
unfolding with_from
mask-more {whole} {f} {t} {mask} {p} {rest} {rest'} {mask'} {b} g h eb e z =
    record {
      is = ap (with_from f t mask' (p + 1)) z
          ∙ ap (λ (x : ℕ). with_from f t x (p + 1) (rest - 1)) (e ∙ ap (λ (x : Bool). cond x (held_by p mask) mask) eb)
          ∙ ap (with_from f t mask p) (sym (one_less rest h))
          ∙ g.is;
    }

pub mask_end : {whole : ℕ} {f : Session → Bool} {t : List Session} {mask p rest : ℕ} → Masking whole f t mask p rest → rest ≡ 0 → mask ≡ whole
unfolding with_from
mask_end {whole} {f} {t} {mask} {p} {rest} g e = ap (with_from f t mask p) (sym e) ∙ g.is

-- ---- entries

-- what is left of the entries, done, gives the whole
pub record Entering (whole : Bool) (s : List ℕ) (begun e rest : ℕ) : Type 0 where
  pub is : entries_from s begun e rest ≡ whole

pub entry-start : {s : List ℕ} {begun m rest : ℕ} → rest ≡ m → Entering (entries_from s begun 1 m) s begun 1 rest
entry-start {s} {begun} e = record { is = ap (entries_from s begun 1) e }

module _ {whole : Bool} {s : List ℕ} {begun e rest : ℕ} (g : Entering whole s begun e rest) where
  pub entry-end : rest ≡ 0 → true ≡ whole
  unfolding entries_from
  entry-end z = ap (entries_from s begun e) (sym z) ∙ g.is

  module _ {x y : ℕ} {b : Bool} (h : 0 < rest) (ex : x ≡ entry_word s e 1) (ey : y ≡ entry_word s e 2) (eb : b ≡ holders_ok 0 x y begun) where
    entry-as : (b && entries_from s begun (e + 1) (rest - 1)) ≡ whole
    unfolding entries_from
    entry-as =
        let q : b ≡ holders_ok 0 (entry_word s e 1) (entry_word s e 2) begun = rw (← ex, ← ey) eb in
        ap (λ (o : Bool). o && entries_from s begun (e + 1) (rest - 1)) q
        ∙ ap (entries_from s begun e) (sym (one_less rest h))
        ∙ g.is

    pub entry-bad : b ≡ false → false ≡ whole
    entry-bad o = (simp o at entry-as)

    pub entry_more : {rest' : ℕ} → b ≡ true → rest' ≡ rest - 1 → Entering whole s begun (e + 1) rest'
    entry_more o z = record { is = ap (entries_from s begun (e + 1)) z ∙ (simp o at entry-as) }
