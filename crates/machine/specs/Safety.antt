-- A sound state is safe: what is read off it as events is meant, every request in hand stands ready for its next step, and every session can abort.
use Rattle.std.specs.Prelude.{◌≡◌, refl, true, zero, suc, ◌≤◌, ℕ, length}
use Rattle.std.proofs.Common.{sym, ◌∙◌, subst, ap, arith}
use Rattle.std.proofs.Math.Option.{some}
use Rattle.std.proofs.Math.Decide.{ℕ_discrete}
use Rattle.serial.specs.Locks.{strong}
use Rattle.serial.specs.Locks as L
use Rattle.machine.specs.State.{Stage, start, enter, change, take, Request, State, top, or_none, session_of, stored, lowest_from, at}
use Rattle.machine.specs.View.{holders}
use Rattle.machine.specs.Sound.{Descends, Stands, Sound}
use Rattle.machine.specs.Keys.{Kept}
use Rattle.machine.specs.Checks.{keeper-code}
use Rattle.machine.specs.Looks.{sound-ordered, kept_of, stored-most}
use Rattle.machine.specs.Nearest.{Takes}
use Rattle.machine.specs.Descending.{proper_key, keeper-stored}
use Rattle.machine.specs.Events.{asked}
use Rattle.machine.specs.Session.{Ready, reads, writes, to_insert, to_remove, inserts, removes, takes}
use Rattle.machine.specs.Moves.{Tidying, nothing_above, entering, descending}

-- ---- a sound state

module _ (s : State) (S : Sound s) where
  -- A descent's key is no higher than the upper infinity.
  pub descent-most : (p : ℕ) (r : Request) (x : ℕ) → (session_of p s).hand ≡ some r → Descends p s r x → x ≤ top
  descent-most zero r x e D = stored-most s (sound-ordered S) x (keeper-stored s r x (keeper-code r.code (S.checked 0 r e).0) D)
  descent-most (suc m) r x e D = let w = (proper_key m r s (S.checked (suc m) r e) x D).1 in omega (arith, w)

  -- ---- a session's request

  pub start-ready : (p c e f g : ℕ) → 1 ≤ c → c ≤ 4 → 1 ≤ e → e ≤ length s.entries → Ready p s (asked c e f g start)
  start-ready p c zero f g a b i j = absurd (omega (arith, i))
  start-ready p zero (suc e) f g a b i j = absurd (omega (arith, a))
  start-ready p (suc zero) (suc e) f g a b i j = reads e f g j
  start-ready p (suc (suc zero)) (suc e) f g a b i j = writes e f g j
  start-ready p (suc (suc (suc zero))) (suc e) f g a b i j = to_insert e f g j
  start-ready p (suc (suc (suc (suc zero)))) (suc e) f g a b i j = to_remove e f g j
  start-ready p (suc (suc (suc (suc (suc c))))) (suc e) f g a b i j = absurd (omega (arith, b))

  pub change-ready : (p c e f g : ℕ) → 3 ≤ c → c ≤ 4 → Kept f s → holders s L.entry strong p e ≡ true → Ready p s (asked c e f g change)
  change-ready p c e f g a b K h = go (ℕ_discrete c 3)
    where
      go : Dec (c ≡ 3) → Ready p s (asked c e f g change)
      go (yes q) = subst (λ x. Ready p s (asked x e f g change)) (sym q) (inserts e f g K h)
      go (no n) = subst (λ x. Ready p s (asked x e f g change)) (omega (arith, a, b, n)) (removes e f g K h)

  pub take-ready : (p c e f g x : ℕ) → c ≡ 5 → Takes p s (asked c e f g (take x)) x (or_none (lowest_from x (stored s))) → Ready p s (asked c e f g (take x))
  take-ready p c e f g x q T = subst (λ y. Ready p s (asked y e f g (take x))) (sym q) (takes e f g x T.next.K T.next.same T.to-second T.below)

  -- ---- the housekeeper's

  tidying-six : (e f g : ℕ) (st : Stage) → Stands 0 s (asked 6 e f g st) st → Tidying s (asked 6 e f g st)
  tidying-six e f g start h = nothing_above e f g
  tidying-six e f g (enter x) h = entering e f g x
  tidying-six e f g (at x) h =
      let w = keeper-stored s (asked 6 e f g (at x)) x refl h in
      let K = kept_of x s S w in
      descending e f g x (stored-most s (sound-ordered S) x w) (ap (λ d. d.key) K.desc ∙ K.key)
  tidying-six e f g change h = absurd (omega (arith, h.code_3_4.1))
  tidying-six e f g (take x) h = absurd (omega (arith, h.code_5))

  pub keeper-tidying : (r : Request) → (session_of 0 s).hand ≡ some r → Tidying s r
  keeper-tidying r h = subst (λ c. Stands 0 s (asked c r.entry r.first r.second r.stage) r.stage → Tidying s (asked c r.entry r.first r.second r.stage))
      (sym (keeper-code r.code (S.checked 0 r h).0)) (tidying-six r.entry r.first r.second r.stage) (S.standing 0 r h)
