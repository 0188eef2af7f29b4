-- Theorems that rest on theorems of specs/: the rest of specs/Ending.antt.
use Rattle.std.specs.Prelude.{◌≡◌, Bool, suc, ℕ}
use Rattle.std.proofs.Math.Path.{refl, sym, ap}
use Rattle.std.proofs.Common.{◌∙◌}
use Rattle.std.proofs.Math.Bool.{true, false, cond}
use Rattle.std.proofs.Math.Option.{Option, none, some}
use Rattle.std.proofs.Math.Dec.{eqb}
use Rattle.machine.specs.Logic.{eqb_yes, not-false, eqb-not, eqb_is}
use Rattle.machine.specs.State.{Desc, start, enter, State, lowest_from, stored, ok}
use Rattle.machine.specs.Steps.{answer, pinned}
use Rattle.machine.specs.Calls.{call, put, put_checks, request_checks, has_begun, is_asked, in_hand, no_party, first_stage, tidy_from, accepted}
use Rattle.machine.specs.Sound.{of_hand, times, Passes, to_first, to_choice, Sound}
use Rattle.machine.specs.Housekeeping.{lvs}
use Rattle.machine.specs.Checks.{refusing-cases, party-number, party-seat, session-begun, empty_hand}
use Rattle.machine.specs.Nearest.{lowest-stored}
use Rattle.machine.specs.Latch.{hand_stands}
use Rattle.machine.specs.Ending.{hand-sound, first_request, First, free}

-- ---- put

module _ (p c e f g : ℕ) (s : State) where
  first_fits : (First p c e f g s) (first_stage c f s)
  unfolding first_stage pinned stored
  first_fits = go (eqb c 5) refl (eqb c 6) refl
    where
      chosen : eqb c 5 ≡ false → c ≡ 6 → (o : Option Desc) → lowest_from (suc f) (lvs s) ≡ o → (First p c e f g s) (tidy_from o)
      chosen q z none w = record { unlatched = refl; unpinned = λ k. refl; standing = eqb-not c 5 q }
      chosen q z (some d) w =
          let m = lowest-stored (suc f) (lvs s) d w in
          record { unlatched = refl; unpinned = λ k. rw q refl; standing = to_choice (record { code_6 = z; above = m.0; stored = m.1 }) }

      go : (a : Bool) → eqb c 5 ≡ a → (b : Bool) → eqb c 6 ≡ b → (First p c e f g s) (cond a (enter f) (cond b (tidy_from (lowest_from (suc f) (lvs s))) start))
      go true q b w = record { unlatched = refl; unpinned = λ k. rw (q, eqb_yes f f refl) refl; standing = to_first (eqb_is c 5 q) refl }
      go false q true w = chosen q (eqb_is c 6 w) (lowest_from (suc f) (lvs s)) refl
      go false q false w = record { unlatched = refl; unpinned = λ k. refl; standing = eqb-not c 5 q }

pub put-sound : (p c e f g : ℕ) (s : State) → Sound s → no_party p ≡ false → has_begun p s ≡ true → is_asked p s ≡ false → in_hand p s ≡ false → Passes (request_checks p c e f g s)
    → Sound (accepted p c e f g s)
unfolding accepted
put-sound p c e f g s S party b unasked free checks =
    let F = first_fits p c e f g s in
    let o = empty_hand p s free in
    hand-sound p (first_request p c e f g s (first_stage c f s)) s S (party-seat p s S.seats (party-number p party)) (ap hand_stands o) (record {
      begun = λ n. session-begun p s n b;
      unasked = unasked;
      unlatched = F.unlatched;
      pins_same = λ k. ap (of_hand 0 (λ r. times k (pinned r r.stage))) o ∙ sym (F.unpinned k);
      checked = checks;
      standing = F.standing;
    })

-- ---- the calls

pub put_keeps : (p c e f g : ℕ) (s : State) → Sound s → Sound (call (put p c e f g) s).next
unfolding call
put_keeps p c e f g s S = refusing-cases (λ o. Sound o.next) (put_checks p c e f g s) s (answer ok (accepted p c e f g s)) (λ n. S)
    (λ k. put-sound p c e f g s S k.0 (not-false (has_begun p s) k.1.0) k.1.1.0 k.1.1.1.0 k.1.1.1.1)
