-- Theorems of specs/Recovery: what it defines is there.
use Rattle.std.specs.Prelude.{◌≡◌, refl, Bool, true, false, cond, not, ◌&&◌, List, [], ◌∷◌, map, ◌⊎◌, ℕ, ◌≤◌, T}
use Rattle.std.proofs.Common.{sym, ◌∙◌, ap, inl, inr}
use Rattle.serial.specs.Serial.{put, put_same, put_other, true≢false, In, hstep, hist, Hist}
use Rattle.serial.specs.Serial as S
use Rattle.serial.specs.Footprints.{store}
use Rattle.serial.specs.Locks.{Table}
use Rattle.serial.specs.LockMachine.{Store}
use Rattle.serial.specs.Calls.{abort, Told, given_up, without, recovered}
use Rattle.serial.specs.Recovery.{in?, lapses, Lapsed, lapsed-listed}

-- ---- the history

-- After aborts of ss each session of ss has finished nothing, and the others what they had.
aborted-current : (h : Hist store) (ss : List ℕ) (s : ℕ) → (In s ss → (hist store h (map S.abort ss)).current s ≡ []) × ((¬ In s ss) → (hist store h (map S.abort ss)).current s ≡ h.current s)
aborted-current h [] s = (λ i. absurd i, λ n. refl)
aborted-current h (x ∷ ss) s =
    let q = aborted-current (hstep store (S.abort x) h) ss s in
    (λ i. gone (in? s ss) q i, λ n. q.1 (λ j. n (inr j)) ∙ put_other h.current x [] s (λ e. n (inl (sym e))))
  where
    gone : In s ss ⊎ (¬ In s ss) → (In s ss → (hist store (hstep store (S.abort x) h) (map S.abort ss)).current s ≡ []) × ((¬ In s ss) → (hist store (hstep store (S.abort x) h) (map S.abort ss)).current s ≡ (hstep store (S.abort x) h).current s)
        → In s (x ∷ ss) → (hist store (hstep store (S.abort x) h) (map S.abort ss)).current s ≡ []
    gone (inl i) q z = q.0 i
    gone (inr n) q (inl e) = q.1 n ∙ ap (put h.current x []) e ∙ put_same h.current x []
    gone (inr n) q (inr i) = absurd (n i)

aborted-closed : (h : Hist store) (ss : List ℕ) → (hist store h (map S.abort ss)).closed ≡ h.closed
aborted-closed h [] = refl
aborted-closed h (x ∷ ss) = aborted-closed (hstep store (S.abort x) h) ss

-- Recover tells what an abort of each session that it aborts tells.
pub recover-told : (h : Hist store) (f : ℕ → Bool) (ss : List ℕ) → ((s : ℕ) → In s ss → f s ≡ true) → ((s : ℕ) → f s ≡ true → In s ss)
    → without f h ≡ hist store h (map S.abort ss)
recover-told h f ss a b = λ i. record { closed = sym (aborted-closed h ss) i; current = λ s. at s (f s) refl (in? s ss) i }
  where
    at : (s : ℕ) (c : Bool) → f s ≡ c → In s ss ⊎ (¬ In s ss) → cond (f s) [] (h.current s) ≡ (hist store h (map S.abort ss)).current s
    at s true e (inl i) = ap (λ z. cond z [] (h.current s)) e ∙ sym ((aborted-current h ss s).0 i)
    at s true e (inr n) = absurd (n (b s e))
    at s false e (inl i) = absurd (true≢false (a s i) e)
    at s false e (inr n) = ap (λ z. cond z [] (h.current s)) e ∙ sym ((aborted-current h ss s).1 n)

module _ (T : Table) where
  -- ---- recover's aborts, one after another

  module _ {X : Type 0} (Sound : X → Type 0) (meaning : X → Store) (marked : X → ℕ → Bool) (f : ℕ → X → X) where
    -- When all sessions of x are among 1 to n.
    module _ (n : ℕ) (x y : X) (in_range : (s : ℕ) → (meaning x).begun s ≡ true → (1 ≤ s) × (s ≤ n)) (r : Lapsed T Sound meaning marked f 1 n x y) where
      -- Told by t, whose sessions are those of x.
      module _ (t : Told) (begun_told : (s : ℕ) → (meaning x).begun s ≡ t.unfinished s) (asked_told : (s : ℕ) → marked x s ≡ t.asked s) where
        given : (s : ℕ) → lapses T Sound meaning marked f x s ≡ given_up t s
        given s = ap (λ b. b && not (marked x s)) (begun_told s) ∙ ap (λ b. t.unfinished s && not b) (asked_told s)

        pub lapsed-past : (recovered t).past ≡ hist store t.past (map S.abort r.who)
        lapsed-past = recover-told t.past (given_up t) r.who (λ s i. sym (given s) ∙ r.lapse s i)
            (λ s e. lapsed-listed T Sound meaning marked f n x y in_range r s (given s ∙ e))
