-- Theorems of specs/Moves: what it defines is there.
use Rattle.std.specs.Prelude.{◌≡◌, Bool, ℕ, suc, ◌*◌, ◌≤◌, leb, ltb}
use Rattle.std.proofs.Math.Path.{refl, sym, ap, ap₂}
use Rattle.std.proofs.Common.{◌∙◌, arith, eq-eqb, ne_eqb}
use Rattle.std.proofs.Math.Bool.{true, false, cond}
use mathlib.Core.List.{List, [], ◌∷◌}
use Rattle.std.proofs.Math.ListN.{length}
use Rattle.locks.specs.Holders.{first_of}
use Rattle.sessions.specs.declared.Session.{Session}
use Rattle.sessions.specs.Sessions.{session_at}
use Rattle.serial.specs.Locks.{weak}
use Rattle.serial.specs.Model.{two_words}
use Rattle.machine.specs.Logic.{leb_yes}
use Rattle.machine.specs.Holders.{width}
use Rattle.machine.specs.State.{take}
use Rattle.machine.specs.Steps.{group_blockers, guarded, goes_on, passed_state, last_take, take_desc, take_step}
use Rattle.meaning.specs.Reading.{M-of, R-of}
use Rattle.layout.specs.Row.{Stands}
use Rattle.layout.specs.Asked.{request_in}
use Rattle.taking.specs.Found.{next_key}
use Rattle.taking.specs.Last.{last-words, last-count}
use Rattle.taking.specs.Blocked.{blocker-proper}
use Rattle.taking.specs.Taking.{in_way_of, found_in, last_written, free_written, take_written}
use Rattle.taking.specs.Moves.{x, r, σ, d, D, word-key, in-way, l, done_out, short_out, free_out}

module _ (s : List ℕ) (t : List Session) (A : Stands s t) (p : ℕ) (party : p ≤ width) (stage : (session_at t p).stage ≡ 5) where
  -- ---- what is done when nobody is in the way

  module _ (n : ℕ) where
    -- ---- the lent list

    written-by : (b : Bool) → cond b (two_words (l s t A p party stage)) [] ≡ two_words
        (cond b (done_out s t A p party stage n) (short_out s t A p party stage n)).written
    written-by true = refl
    written-by false = refl

    last-list : last_written s (M-of s) (R-of s) n (x s t A p party stage) ≡ two_words
        (last_take n p (r s t A p party stage) (l s t A p party stage) (D s t A p party stage) (σ s t A p party stage)).written
    unfolding last_written found_in last_take
    last-list =
        ap₂ (λ c w. cond (leb (2 * c) n) w []) (last-count s t A p party stage) (last-words s t A p party stage) ∙ written-by
        (leb (2 * length (l s t A p party stage)) n)

    free-list : (c : Bool) → cond c [] (last_written s (M-of s) (R-of s) n (x s t A p party stage)) ≡ two_words
        (cond c (goes_on p (r s t A p party stage) (take (suc (D s t A p party stage).key)) (passed_state p (D s t A p party stage) (σ s t A p party stage)))
        (last_take n p (r s t A p party stage) (l s t A p party stage) (D s t A p party stage) (σ s t A p party stage))).written
    unfolding goes_on
    free-list true = refl
    free-list false = last-list

    guard-list : (bs : List ℕ) → group_blockers weak p (D s t A p party stage) ≡ bs → take_written s (M-of s) (R-of s) n p (x s t A p party stage) ≡ two_words
        (guarded bs 0 p (r s t A p party stage) (σ s t A p party stage) (free_out s t A p party stage n)).written
    unfolding take_written free_written guarded
    guard-list [] e =
        rw (
          eq-eqb (in_way_of s (M-of s) (d s t A p party stage) p) 0 (in-way s t A p party stage ∙ ap first_of e),
          leb_yes 0 (σ s t A p party stage).free
              (omega arith),
        )
        (ap (λ k. cond (ltb k (x s t A p party stage).second) [] (last_written s (M-of s) (R-of s) n (x s t A p party stage))) (word-key s t A p party stage)
        ∙ free-list (ltb (D s t A p party stage).key (x s t A p party stage).second))
    guard-list (b ∷ bs) e = rw (ne_eqb (in_way_of s (M-of s) (d s t A p party stage) p) 0
        (λ z. blocker-proper p (D s t A p party stage) b bs e (sym (in-way s t A p party stage ∙ ap first_of e) ∙ z))) refl

    -- The words written at the start of the list are the machine's pairs.
    pub take-list : take_written s (M-of s) (R-of s) n p (x s t A p party stage) ≡ two_words
        (take_step n p (r s t A p party stage) (next_key (x s t A p party stage)) (σ s t A p party stage)).written
    unfolding take_step take_desc request_in
    take-list = guard-list (group_blockers weak p (D s t A p party stage)) refl
