-- How the code makes a run: one step, then one step after another while they answer more.
use Rattle.std.specs.Prelude.{◌≡◌, refl, Bool, true, false, not, List, ◌⊎◌, ℕ, suc, ◌+◌, ◌≤◌, ◌<◌}
use Rattle.std.proofs.Common.{sym, ap, subst, ◌∙◌, inl, inr, arith, add-one}
use Rattle.std.proofs.lemmas.Bool.{not-true, not-false}
use Rattle.sessions.specs.declared.Session.{Session}
use Rattle.serial.specs.Calls.{Run, stop}
use Rattle.serial.specs.Calls as C
use Rattle.meaning.specs.Sound.{Sound}
use Rattle.outcomes.specs.declared.Answer as D
use Rattle.outcomes.specs.Said.{said}
use Rattle.refusals.specs.Refusing.{first_of, step_list}
use Rattle.promises.specs.Ways.{Serves}
use Rattle.promises.specs.Runs.{lending, calling, steps, most_steps, Runs}
use Rattle.promises.specs.Making.{serves-makes, steps-more, more_same, more-goes}
use Rattle.running.specs.Answers.{is_more, is-more, not_more}

-- ---- the most steps that are made

pub record Limit (bound r : ℕ) : Type 0 where
  pub some : 1 ≤ r
  pub most : 1 < r → r ≤ bound
  pub few : r ≤ most_steps
  pub all : (bound ≤ r) ⊎ (r ≡ most_steps)

pub limit-one : (bound : ℕ) → bound ≡ 0 → Limit bound 1
limit-one bound e = record { some = omega arith; most = λ h. absurd (omega (arith, h)); few = omega arith; all = inl (omega arith) }

pub limit-bound : (bound : ℕ) → ¬ (bound ≡ 0) → bound < most_steps → Limit bound bound
limit-bound bound n h = record { some = omega (arith, n); most = λ q. omega arith; few = omega (arith, h); all = inl (omega arith) }

pub limit-most : (bound : ℕ) → most_steps ≤ bound → Limit bound most_steps
limit-most bound h = record { some = omega arith; most = λ q. h; few = omega arith; all = inr refl }

-- ---- the run so far

-- n steps made so far; before the first of them the answer stands at more. After more the list is as it was, and the party may step.
pub record Running (p : ℕ) (s : List ℕ) (t : List Session) (l : List ℕ) (a : C.Answer) (n : ℕ) (l' s' : List ℕ) (t' : List Session) : Type 0 where
  pub none : n ≡ 0 → a ≡ C.more
  pub made : Run calling (lending s t) (steps n p l a l') (lending s' t')
  pub sound : Sound s' t'
  pub quiet : a ≡ C.more → l' ≡ l
  pub goes : a ≡ C.more → first_of (step_list t' p) ≡ 0

pub run_none : {p : ℕ} {s : List ℕ} {t : List Session} {l : List ℕ} → Sound s t → first_of (step_list t p) ≡ 0 → Running p s t l C.more 0 l s t
run_none S z = record { none = λ e. refl; made = stop; sound = S; quiet = λ e. refl; goes = λ e. z }

pub run-next : {p : ℕ} (n : ℕ) {s : List ℕ} {t : List Session} {l : List ℕ} {a : C.Answer} {l₁ s₁ : List ℕ} {t₁ : List Session} {b : C.Answer} {l₂ s₂ : List ℕ} {t₂ : List Session}
    → Running p s t l a n l₁ s₁ t₁ → a ≡ C.more → Serves (C.step p l₁) s₁ t₁ b l₂ s₂ t₂ → Running p s t l b (suc n) l₂ s₂ t₂
run-next {p} n {s} {t} {l} {a} {l₁} {s₁} {t₁} {b} {l₂} {s₂} {t₂} R e h = record {
  none = λ z. absurd (omega (arith, z));
  made = steps-more n (subst (λ v. Run calling (lending s t) (steps n p l C.more v) (lending s₁ t₁)) q (subst (λ v. Run calling (lending s t) (steps n p l v l₁) (lending s₁ t₁)) e R.made))
      (serves-makes (C.step p l) s₁ t₁ b l₂ s₂ t₂ R.sound g);
  sound = h.0.sound;
  quiet = more_same p s₁ t₁ b l l₂ s₂ t₂ R.sound g.0;
  goes = more-goes p l s₁ t₁ b l₂ s₂ t₂ R.sound (R.goes e) g;
}
  where
    q : l₁ ≡ l
    q = R.quiet e

    g : Serves (C.step p l) s₁ t₁ b l₂ s₂ t₂
    g = subst (λ v. Serves (C.step p v) s₁ t₁ b l₂ s₂ t₂) q h

pub run-again : {p : ℕ} (n : ℕ) (a : D.Answer) {s : List ℕ} {t : List Session} {l : List ℕ} {l₁ s₁ : List ℕ} {t₁ : List Session} {b : C.Answer} {l₂ s₂ : List ℕ} {t₂ : List Session} {v : Bool}
    → Running p s t l (said a) n l₁ s₁ t₁ → v ≡ is_more a → not v ≡ false → Serves (C.step p l₁) s₁ t₁ b l₂ s₂ t₂ → Running p s t l b (n + 1) l₂ s₂ t₂
run-again {p} n a {s} {t} {l} {l₁} {s₁} {t₁} {b} {l₂} {s₂} {t₂} {v} R i j h =
    subst (λ z. Running p s t l b z l₂ s₂ t₂) (sym (add-one n)) (run-next n R (ap said (is-more a (sym i ∙ not-false v j))) h)

-- ---- over

all_made : {bound limit n : ℕ} → Limit bound limit → n ≤ limit → limit ≤ n → (bound ≤ n) ⊎ (n ≡ most_steps)
all_made {bound} {limit} {n} B m w = go B.all
  where
    go : (bound ≤ limit) ⊎ (limit ≡ most_steps) → (bound ≤ n) ⊎ (n ≡ most_steps)
    go (inl h) = inl (omega (arith, h, w))
    go (inr e) = inr (omega (arith, e, m, w))

pub run-over : {p bound limit n : ℕ} {s : List ℕ} {t : List Session} {l : List ℕ} {a : C.Answer} {l' s' : List ℕ} {t' : List Session} → Limit bound limit → n ≤ limit
    → Running p s t l a n l' s' t' → ¬ (n ≡ 0) → (a ≡ C.more → limit ≤ n) → Runs p bound s t l a n l' s' t'
run-over {p} {bound} {limit} {n} B m R z w = record {
  within = record {
    some = omega (arith, z);
    most = λ h. let i : 1 < limit = omega arith in omega (arith, B.most i);
    few = omega (arith, m, B.few);
    whole = λ e. all_made B m (w e);
  };
  made = R.made;
}

-- Before the limit is reached: the last answer is not more.
pub run-stops : {p bound limit : ℕ} (n : ℕ) (a : D.Answer) {s : List ℕ} {t : List Session} {l : List ℕ} {l' s' : List ℕ} {t' : List Session} {v : Bool} → Limit bound limit → n ≤ limit
    → Running p s t l (said a) n l' s' t' → v ≡ is_more a → not v ≡ true → Runs p bound s t l (said a) n l' s' t'
run-stops n a {v = v} B m R i j =
    let z = not_more a (sym i ∙ not-true v j) in
    run-over B m R (λ e. z (R.none e)) (λ e. absurd (z e))
