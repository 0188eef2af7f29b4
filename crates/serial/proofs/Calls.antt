-- Theorems of specs/Calls: what it defines is there.
use Rattle.std.specs.Prelude.{◌≡◌, refl, true, false, List, [], ◌∷◌, map, ◌⊎◌, ℕ}
use Rattle.std.proofs.Common.{sym, ◌∙◌, ap, subst, inl, inr}
use Rattle.std.proofs.Math.Decide.{ℕ_discrete}
use Rattle.serial.specs.Serial.{put_same, put_other, true≢false, not-true, In, Inv, inv-fresh, inv-idle, serial-run}
use Rattle.serial.proofs.Serial.{inv-run, inv-demand}
use Rattle.serial.specs.Serial as S
use Rattle.serial.specs.Model.{Item, get, empty}
use Rattle.serial.specs.Footprints.{store}
use Rattle.serial.specs.Locks.{Table, Strict}
use Rattle.serial.specs.LockMachine.{view, Formatted, formatted-fresh}
use Rattle.serial.proofs.LockMachine.{acts-run}
use Rattle.serial.specs.Calls.{Call, Turn, Told, nothing, tell_ok, tell_answer, tell, told, Machine, committed_db, Unfinished, calls_of, Accepted, Run, Demand3, Knows, Serial, Anew, Moves, Laws, calls-made, abort, put, ok, stop, next}

-- ---- a store

module _ (𝓢 : Machine) where
  open 𝓢 use {X, meaning, Does}

  -- ---- what a store owes

  module _ (T : Table) where
    -- ---- the theorem

    module _ (strict : Strict T) (𝓛 : Laws 𝓢 T) where
      pub keeps : (k : Turn) (x y : X) (t : Told) → Does x k y → Knows 𝓢 t x → Serial 𝓢 t x → Serial 𝓢 (tell k t) y
      keeps k x y t d w v = go (𝓛.moves k x y t d w)
        where
          go : Moves 𝓢 T t (tell k t) x y ⊎ Anew 𝓢 (tell k t) y → Serial 𝓢 (tell k t) y
          go (inl m) = subst (λ h. Inv store empty h (view (meaning y))) (sym m.as_told) (inv-run store empty t.past (acts-run T strict m.moved) v)
          go (inr a) = subst (λ h. Inv store empty h (view (meaning y))) (sym a.nothing_told)
              (inv-fresh store empty tt (view (meaning y)) (formatted-fresh (meaning y) a.as_new))

      run-keeps : {x y : X} {ks : List Turn} (t : Told) → Run 𝓢 x ks y → Knows 𝓢 t x → Serial 𝓢 t x → Knows 𝓢 (told t ks) y × Serial 𝓢 (told t ks) y
      run-keeps t stop w v = (w, v)
      run-keeps t (next {x} {y} {z} {k} {ks} d r) w v = run-keeps (tell k t) r (𝓛.knows k x y t d w) (keeps k x y t d w v)

      -- An accepted abort leaves one unfinished session less.
      abort-next : (s : ℕ) (ss : List ℕ) (t : Told) → Unfinished t (s ∷ ss) → Unfinished (tell_ok (abort s) t) ss
      abort-next s ss t u = record {
        once = u.once.1;
        each = λ v j. put_other t.unfinished s false v (λ w. u.once.0 (subst (λ z. In z ss) (sym w) j)) ∙ u.each v (inr j);
        all = λ v b. left v b (ℕ_discrete s v);
      }
        where
          tail_of : (v : ℕ) → ¬ (s ≡ v) → In v (s ∷ ss) → In v ss
          tail_of v n (inl w) = absurd (n (sym w))
          tail_of v n (inr j) = j

          left : (v : ℕ) → S.put t.unfinished s false v ≡ true → Dec (s ≡ v) → In v ss
          left v b (yes w) = absurd (true≢false b (subst (λ z. S.put t.unfinished s false z ≡ false) w (put_same t.unfinished s false)))
          left v b (no n) = tail_of v n (u.all v (sym (put_other t.unfinished s false v n) ∙ b))

      -- An abort of the first of the unfinished sessions is accepted, and told so.
      abort-told : (s : ℕ) (ss : List ℕ) (k : Turn) (x y : X) (t : Told) → k.call ≡ abort s → Does x k y → Knows 𝓢 t x → Unfinished t (s ∷ ss)
          → (k.answer ≡ ok) × (tell k t ≡ tell_ok (abort s) t)
      abort-told s ss k x y t c d w u =
          let e : k.answer ≡ ok = 𝓛.abort_ok s k x y c d w.sound (w.begun_told s ∙ u.each s (inl refl)) in
          (e, ap (λ a. tell_answer k.call a k.list t) e ∙ ap (λ z. tell_ok z t) c)

      head-call : {c d : Call} {cs ds : List Call} → (c ∷ cs) ≡ (d ∷ ds) → c ≡ d
      head-call {c} e = ap first_of e
        where
          first_of : List Call → Call
          first_of [] = c
          first_of (z ∷ zs) = z

      tail-calls : {c d : Call} {cs ds : List Call} → (c ∷ cs) ≡ (d ∷ ds) → cs ≡ ds
      tail-calls e = ap rest_of e
        where
          rest_of : List Call → List Call
          rest_of [] = []
          rest_of (z ∷ zs) = zs

      no_call : {c : Call} {cs : List Call} → (c ∷ cs) ≡ [] → ⊥
      no_call e = subst some-call e tt
        where
          some-call : List Call → Type 0
          some-call [] = ⊥
          some-call (z ∷ zs) = Unit {0}

      -- After aborts of all unfinished sessions every item is as the committed sessions left it.
      all-aborted : (ss : List ℕ) (t : Told) {x y : X} {ks : List Turn} → Knows 𝓢 t x → Serial 𝓢 t x → Unfinished t ss → calls_of ks ≡ map abort ss
          → Run 𝓢 x ks y
          → Accepted ks × ((i : Item) → (meaning y).db i ≡ get (committed_db t) i)
      all-aborted [] t w v u e (stop {x}) = (
        tt,
        λ i. inv-idle store empty t.past (view (meaning x)) v (λ s. w.begun_told s ∙ not-true (t.unfinished s) (u.all s)) i
            ∙ ap (λ d. get d i) (serial-run store t.past.closed empty),
      )
      all-aborted [] t w v u e (next d r) = absurd (no_call e)
      all-aborted (s ∷ ss) t w v u e stop = absurd (no_call (sym e))
      all-aborted (s ∷ ss) t w v u e (next {x} {y} {z} {k} {ks} d r) =
          let q = abort-told s ss k x y t (head-call e) d w u in
          let m = all-aborted ss (tell_ok (abort s) t)
          (subst (λ z. Knows 𝓢 z y) q.1 (𝓛.knows k x y t d w)) (subst (λ z. Serial 𝓢 z y) q.1 (keeps k x y t d w v)) (abort-next s ss t u) (tail-calls e) r in
          ((q.0, m.0), m.1)

      pub serial-demand : (t : Told) (x : X) → Knows 𝓢 t x → Serial 𝓢 t x → Demand3 𝓢 t x
      serial-demand t x w v =
          let q = inv-demand store empty t.past (view (meaning x)) v in
          record {
            committed = q.committed;
            unfinished = q.unfinished;
            can_abort = λ ss u. calls-made 𝓢 T strict 𝓛 (map abort ss) t x w;
            aborted = λ ss u ks y e r. all-aborted ss t w v u e r;
          }

      -- Demand 3: any list of calls from a fresh store, as an accepted format leaves it.
      pub demand-3 : (x y : X) (ks : List Turn) → Knows 𝓢 nothing x → Formatted (meaning x) → Run 𝓢 x ks y → Demand3 𝓢 (told nothing ks) y
      demand-3 x y ks w f r =
          let q = run-keeps nothing r w (inv-fresh store empty tt (view (meaning x)) (formatted-fresh (meaning x) f)) in
          serial-demand (told nothing ks) y q.0 q.1
