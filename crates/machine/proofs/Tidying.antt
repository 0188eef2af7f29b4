-- Theorems that rest on theorems of specs/: the rest of specs/Tidying.antt.
use Rattle.std.specs.Prelude.{◌≡◌, Bool, true, cond, [], ◌∷◌, ◌++◌}
use Rattle.std.proofs.Math.Path.{refl, sym, subst, ap}
use Rattle.std.proofs.Common.{◌∙◌, append_assoc, arith}
use Rattle.std.proofs.Math.Bool.{false}
use Rattle.std.proofs.Math.Option.{Option, none, some, some-injective, none-ne-some}
use Prim.Native.Nat.{suc, ◌≤◌, ℕ}
use Rattle.std.proofs.Math.Decide.{dec_le}
use Rattle.serial.specs.Serial.{true≢false}
use Rattle.machine.specs.Tree.{pick}
use Rattle.machine.specs.State.{Desc, Tree, Request, State, Answer, ok, more, wait, refused, done, Outcome, Stage, no_desc, same, session_of, stored, lowest_from, gap_below, at}
use Rattle.machine.specs.Steps.{finished, removable, tidied_state, tidy-step, next_step, answer, settled}
use Rattle.machine.specs.Calls.{call, put, put_checks, accepted, first_stage, tidy_from}
use Rattle.machine.specs.Sound.{Sound, stored_in}
use Rattle.machine.specs.InTheWay.{At}
use Rattle.machine.specs.Order.{In}
use Rattle.machine.specs.Groups.{Rises}
use Rattle.machine.specs.Housekeeping.{lvs, Goes, removable-is}
use Rattle.machine.specs.Keys.{Kept}
use Rattle.machine.specs.Table.{hand_put}
use Rattle.machine.specs.Checks.{refusing-cases}
use Rattle.machine.specs.Looks.{sound-ordered, ordered-rises}
use Rattle.machine.specs.Nearest.{Nearest, lowest-stored}
use Rattle.machine.proofs.Nearest.{nearest, lowest-here}
use Rattle.machine.specs.Waits.{settled_says, settled-next}
use Rattle.machine.specs.Tidying.{MayGo, Chooses, chosen, none_above, Tidies, Rests, Tidy, tidy-said, prior-gap, rises-low, d-is, goes-may, after-stored, removed, declined, step_is, first_done, first-rests, done-only}
use Rattle.machine.specs.Tidying as Specs

-- ---- the step

module _ (n : ℕ) (r : Request) (x : ℕ) (s : State) (S : Sound s) (e : (session_of 0 s).hand ≡ some r) (q : r.stage ≡ at x) (u : Tree 1) (A : At 0 x s 0 u) where
  abbrev d : Desc
  d = pick x no_desc same u.sons

  abbrev g : ℕ
  g = gap_below x 0 (lvs s)

  abbrev K : Kept x s
  K = Specs.K n r x s S e q u A

  may-goes : MayGo x (lvs s) → Goes g d
  may-goes M =
      let split : lvs s ≡ (M.before ++ M.prior ∷ []) ++ M.chosen ∷ M.behind = M.are ∙ sym (append_assoc M.before (M.prior ∷ []) (M.chosen ∷ M.behind)) in
      let below : In 0 x (M.before ++ M.prior ∷ []) =
      subst (λ k. In 0 k (M.before ++ M.prior ∷ [])) M.key_is
      (rises-low 0 4294967296 (M.before ++ M.prior ∷ []) M.chosen M.behind (subst (Rises 0 4294967296) split (ordered-rises s (sound-ordered S)))) in
      let same-one : M.chosen ≡ d = some-injective M.chosen d
      (sym (lowest-here x 0 M.chosen M.key_is (M.before ++ M.prior ∷ []) M.behind below) ∙ sym (ap (lowest_from x) split) ∙ ap (lowest_from x) K.was
      ∙ lowest-here x 0 K.d K.key K.A K.B K.low ∙ ap some (sym (d-is n r x s S e q u A))) in
      let w : M.prior.gap ≡ g = sym (ap (gap_below x 0) M.are ∙ prior-gap x 0 0 M.before M.prior M.chosen M.behind below M.key_is) in
      subst (Goes g) same-one (record {
        not_zero = M.not_zero;
        not_pinned = M.not_pinned;
        no_members = M.no_members;
        no_update = M.no_update;
        same_locate = M.same_locate ∙ w;
        same_gap = M.same_gap ∙ w;
      })

  abbrev By : Outcome → Type 0
  By o = Tidies x u s (λ ns. o.answer ≡ done ns) o.next

  tidies : By (next_step n 0 r s (at x))
  unfolding tidy-step finished stored
  tidies = subst By (sym (step_is n r x s S e q u A)) (go (removable g d) refl)
    where
      second : (i j : ℕ) → done (x ∷ i ∷ []) ≡ done (x ∷ j ∷ []) → i ≡ j
      second i j h = cc

      go : (c : Bool) → removable g d ≡ c → By (cond c (finished 0 r (x ∷ 1 ∷ []) (tidied_state 0 x s)) (finished 0 r (x ∷ 0 ∷ []) s))
      go true i = let M = goes-may n r x s S e q u A ((removable-is g d).0 i) in record {
        removes = ((λ _. M), λ _. refl);
        declines = ((λ h. absurd (omega (arith, second 1 0 h))), λ h. absurd (h M));
        gone = removed n r x s S e q u A;
        stored_are = λ _. after-stored n r x s S e q u A;
        stays = λ h. absurd (h M);
      }
      go false i = let N : ¬ MayGo x (lvs s) = λ M. true≢false ((removable-is g d).1 (may-goes M)) i in record {
        removes = ((λ h. absurd (omega (arith, second 0 1 h))), λ M. absurd (N M));
        declines = ((λ _. N), λ _. refl);
        gone = λ M. absurd (N M);
        stored_are = λ M. absurd (N M);
        stays = λ _. declined n r x s S e q u A;
      }

-- ---- every step of the housekeeper

module _ (n : ℕ) (r : Request) (s : State) (S : Sound s) (e : (session_of 0 s).hand ≡ some r) where
  abbrev out : Outcome
  out = next_step n 0 r s r.stage

  done-tidy : Tidy r s (λ ns. out.answer ≡ done ns) out.next
  unfolding next_step
  done-tidy = record {
    none_chosen = λ i. (ap (λ g. (next_step n 0 r s g).answer) i ∙ first_done n r s S e, subst (λ g. Rests s (next_step n 0 r s g).next) (sym i) (first-rests n r s S e i));
    last_step = λ x i u A. subst (λ g. Tidies x u s (λ ns. (next_step n 0 r s g).answer ≡ done ns) (next_step n 0 r s g).next) (sym i) (tidies n r x s S e i u A);
    no_other = λ ns h. done-only n r s S e r.stage refl ns h;
  }

  pub tidy : Tidy r s (λ ns. (settled s r.stage out).answer ≡ done ns) (settled s r.stage out).next
  tidy = tidy-said (λ ns. let z = settled_says s r.stage out (done ns) refl in (z.1, z.0))
      (subst (Tidy r s (λ ns. out.answer ≡ done ns)) (sym (settled-next s r.stage out)) done-tidy)

-- ---- the put of a tidy

chooses : (f : ℕ) (s : State) → Sound s → Chooses f s (first_stage 6 f s)
unfolding first_stage stored
chooses f s S = go (lowest_from (suc f) (lvs s)) refl
  where
    from : (k : ℕ) → stored_in k (lvs s) ≡ true → suc f ≤ k → Nearest (suc f) (lvs s)
    from = nearest (suc f) 0 4294967296 (lvs s) (ordered-rises s (sound-ordered S))

    go : (o : Option Desc) → lowest_from (suc f) (lvs s) ≡ o → Chooses f s (tidy_from o)
    go none i = none_above refl (λ y h. at_most y h (dec_le y f))
      where
        at_most : (y : ℕ) → stored_in y (lvs s) ≡ true → Dec (y ≤ f) → y ≤ f
        at_most y h (yes l) = l
        at_most y h (no n) = let N = from y h (omega (arith, n)) in absurd (none-ne-some N.d (sym i ∙ N.is))
    go (some d) i =
        let z = lowest-stored (suc f) (lvs s) d i in
        let N = from d.key z.1 z.0 in
        let k : N.d.key ≡ d.key = ap (λ c. c.key) (some-injective N.d d (sym N.is ∙ i)) in
        chosen d.key refl (record { is_stored = z.1; from = z.0; lowest = λ y h l. omega (arith, k, N.least y h l) })

-- A tidy that is put is in hand, and has made its choice.
pub put-chooses : (e f g : ℕ) (s : State) → Sound s → (call (put 0 6 e f g) s).answer ≡ ok
    → (h : Stage) × ((session_of 0 (call (put 0 6 e f g) s).next).hand ≡ some (record { code = 6; entry = e; first = f; second = g; stage = h })) × Chooses f s h
unfolding call accepted
put-chooses e f g s S = refusing-cases
    (λ o. o.answer ≡ ok → (h : Stage) × ((session_of 0 o.next).hand ≡ some (record { code = 6; entry = e; first = f; second = g; stage = h })) × Chooses f s h)
    (put_checks 0 6 e f g s) s (answer ok (accepted 0 6 e f g s)) (λ n i. absurd (true≢false {b = true} refl (sym (ap is_ok i))))
    (λ k i. (first_stage 6 f s, ap (λ x. x.hand) (hand_put 0 (some (record { code = 6; entry = e; first = f; second = g; stage = first_stage 6 f s })) s (omega (arith, S.seats))), chooses f s S))
  where
    is_ok : Answer → Bool
    is_ok ok = true
    is_ok more = false
    is_ok (wait ps) = false
    is_ok (done ns) = false
    is_ok (refused n b) = false
