-- Theorems that rest on theorems of specs/: the rest of specs/Conflicts.antt.
use Rattle.std.specs.Prelude.{◌≡◌, Bool, false, cond, ◌↔◌, ◌⊎◌, leb, eqb}
use Rattle.std.proofs.Math.Path.{refl, ap}
use Rattle.std.proofs.Common.{sym, ◌∙◌, inl, arith}
use Rattle.std.proofs.Math.Bool.{true}
use mathlib.Core.List.{List, [], ◌∷◌}
use Rattle.std.proofs.Math.Logic.{inr}
use Rattle.std.proofs.Math.Option.{some}
use Prim.Native.Nat.{zero, suc, ◌≤◌, ℕ}
use Rattle.serial.specs.Serial.{true≢false}
use Rattle.serial.specs.Locks.{Kind, Mode, weak, strong}
use Rattle.serial.specs.Locks as L
use Rattle.machine.specs.Logic.{eqb_is, eqb-not, leb-is, leb-not}
use Rattle.machine.specs.Holders.{holds, latch_word, elem}
use Rattle.machine.specs.State.{Desc, Tree, Stage, start, enter, change, take, Request, State, or_none, session_of, stored, entry_of, lowest_from, desc_of, at}
use Rattle.machine.specs.Descent.{at_latch}
use Rattle.machine.specs.Steps.{entry_blockers, group_blockers, level_blockers, son-at, next_step}
use Rattle.machine.specs.View.{holders}
use Rattle.machine.specs.Sound.{Sound, Shaped, stored_in}
use Rattle.machine.specs.Context.{Focused}
use Rattle.machine.specs.InTheWay.{Asks, LongLock, Involved, At, ShortLock, InTheWay}
use Rattle.machine.specs.Blocking.{Blocks, root-blocks, level-blocks}
use Rattle.machine.proofs.Blocking.{entry-blocks, group-blocks}
use Rattle.machine.specs.Checks.{code-range}
use Rattle.machine.specs.Housekeeping.{lvs}
use Rattle.machine.specs.Keys.{was-locate, was-update}
use Rattle.machine.specs.Looks.{kept_of, kept-stored, change-stored, shaped-le}
use Rattle.machine.proofs.Nearest.{takes_of}
use Rattle.machine.specs.Waits.{step_blockers, stand_blockers, step_waits, elem-first}
use Rattle.machine.specs.Conflicts.{nobody, stands_at, found, not_lone, sons-follow, WaitsExactly, exactly-from}
use Rattle.machine.specs.Conflicts as Specs

-- ---- the node where a party stands

module _ {s : State} (S : Sound s) (p : ℕ) (r : Request) (e : (session_of p s).hand ≡ some r) where
  abbrev Exactly : Stage → List ℕ → ℕ → Type 0
  Exactly g bs q = (elem q bs ≡ true) ↔ InTheWay p r s g q

  -- ---- long locks

  abbrev asking : (g : Stage) (k : Kind) (m : Mode) (z hw hs : ℕ) (bs : List ℕ) (q : ℕ) → (elem q bs ≡ true) ↔ Blocks k m p hw hs q → holders s k weak q z ≡ holds hw q → holders s k strong q z ≡ holds hs q
      → Asks r s g k m z → ((k' : Kind) (m' : Mode) (z' : ℕ) → Asks r s g k' m' z' → (k' ≡ k) × (m' ≡ m) × (z' ≡ z)) → (ShortLock p s g q → ⊥) → Exactly g bs q
  asking = Specs.asking {s = s} S p r e

  at-start : (q : ℕ) → Exactly start (step_blockers p r s start) q
  unfolding step_blockers
  at-start q = go (eqb r.code 1) refl (leb r.code 4) refl
    where
      one : 1 ≤ r.code
      one = (code-range p r.code (S.checked p r e).0).0

      go : (a : Bool) → eqb r.code 1 ≡ a → (b : Bool) → leb r.code 4 ≡ b → Exactly start (cond a (entry_blockers weak p r s) (cond b (entry_blockers strong p r s) [])) q
      go true i b j = asking start L.entry weak r.entry (entry_of r.entry s).share (entry_of r.entry s).exclusive (entry_blockers weak p r s) q (entry-blocks weak p r s q) refl refl
          (refl, refl, inl (eqb_is r.code 1 i, refl)) (λ k m z A. (A.0, mode m A.2, A.1)) (λ f. f)
        where
          mode : (m : Mode) → ((r.code ≡ 1) × (m ≡ weak)) ⊎ ((2 ≤ r.code) × (r.code ≤ 4) × (m ≡ strong)) → m ≡ weak
          mode m (inl A) = A.1
          mode m (inr A) = absurd (omega (arith, A.0, eqb_is r.code 1 i))
      go false i true j = asking start L.entry strong r.entry (entry_of r.entry s).share (entry_of r.entry s).exclusive (entry_blockers strong p r s) q (entry-blocks strong p r s q) refl refl
          (refl, refl, inr ((let z = eqb-not r.code 1 i in omega (arith, one, z)), leb-is r.code 4 j, refl)) (λ k m z A. (A.0, mode m A.2, A.1)) (λ f. f)
        where
          mode : (m : Mode) → ((r.code ≡ 1) × (m ≡ weak)) ⊎ ((2 ≤ r.code) × (r.code ≤ 4) × (m ≡ strong)) → m ≡ strong
          mode m (inl A) = absurd (eqb-not r.code 1 i A.0)
          mode m (inr A) = A.2
      go false i false j = nobody {s = s} S p r e start q (λ l. no_code l.asked l.asks.2) (λ f. f)
        where
          no_code : (m : Mode) → ((r.code ≡ 1) × (m ≡ weak)) ⊎ ((2 ≤ r.code) × (r.code ≤ 4) × (m ≡ strong)) → ⊥
          no_code m (inl A) = eqb-not r.code 1 i A.0
          no_code m (inr A) = omega (arith, A.1, leb-not r.code 4 j)

  at-change : r.stage ≡ change → (q : ℕ) → Exactly change (step_blockers p r s change) q
  unfolding step_blockers
  at-change g q =
      let K = kept_of r.first s S (change-stored S p r e g) in
      let d = desc_of r.first s in
      asking change L.group strong r.first d.locate d.update (group_blockers strong p d) q (group-blocks strong p d q)
      (ap (λ w. holds w q) (was-locate r.first s K ∙ ap (λ c. c.locate) (sym K.desc))) (ap (λ w. holds w q) (was-update r.first s K ∙ ap (λ c. c.update) (sym K.desc)))
      (refl, refl, refl) (λ k m z A. (A.0, A.2, A.1)) (λ f. f)

  at_take : (x : ℕ) → r.stage ≡ take x → (q : ℕ) → Exactly (take x) (step_blockers p r s (take x)) q
  unfolding step_blockers
  at_take x g q =
      let T = takes_of S p r x e g in
      let d : Desc = or_none (lowest_from x (stored s)) in
      let N = T.next in
      let here : stored_in d.key (lvs s) ≡ true = kept-stored d.key s N.K in
      asking (take x) L.group weak d.key d.locate d.update (group_blockers weak p d) q (group-blocks weak p d q)
      (ap (λ w. holds w q) (was-locate d.key s N.K ∙ ap (λ c. c.locate) N.same)) (ap (λ w. holds w q) (was-update d.key s N.K ∙ ap (λ c. c.update) N.same))
      (refl, record { is_stored = here; from = N.from; lowest = N.least }, refl)
      (λ k m z A. (A.0, A.2, (let l = A.1 in omega (arith, l.lowest d.key here N.from, N.least z l.is_stored l.from)))) (λ f. f)

  -- ---- latches

  at-enter : (x q : ℕ) → Exactly (enter x) (step_blockers p r s (enter x)) q
  unfolding step_blockers
  at-enter x q = let b = root-blocks p s q in ((λ i. let z = b.0 i in record { another = z.0; lock = inr z.1 }), λ W. b.1 (W.another, short W.lock))
    where
      short : LongLock r s (enter x) q ⊎ ShortLock p s (enter x) q → ShortLock p s (enter x) q
      short (inl l) = absurd l.asks
      short (inr l) = l

  module _ (x : ℕ) (g : r.stage ≡ at x) where
    abbrev focus : Focused p x s
    focus = Specs.focus {s = s} S p r e x g

    level : (h : ℕ) (u : Tree (suc (suc h))) → At p x s (suc h) u → (q : ℕ)
        → (elem q (level_blockers p x h u.sons (son-at x h u.sons)) ≡ true) ↔ (¬ (q ≡ p) × ((t : Tree (suc h)) × Involved p x h u.sons t × (t.latch ≡ latch_word q)))
    level h u A q = let Z = sons-follow {s = s} S p r e x g h u A in
        level-blocks (λ h. Shaped (suc h) 3) (λ h. shaped-le (suc h) 3) p x h Z.0 Z.1 u.sons Z.2 (not_lone {s = s} S p r e x g h u A) q

    at-node : (q : ℕ) → Exactly (at x) (step_blockers p r s (at x)) q
    unfolding step_blockers
    at-node q = ((λ i. into focus.level focus.node (stands_at {s = s} S p r e x g) (ap (elem q) (sym (found {s = s} S p r e x g [] (stand_blockers p x) focus.level focus.node (stands_at {s = s} S p r e x g))) ∙ i)), λ W. back W.another W.lock)
      where
        into : (k : ℕ) (u : Tree (suc k)) → At p x s k u → elem q (stand_blockers p x k u) ≡ true → InTheWay p r s (at x) q
        into zero u A i = absurd (true≢false i (unfold stand_blockers in refl))
        into (suc h) u A i = let z = (level h u A q).0 (unfold stand_blockers in i) in record { another = z.0; lock = inr (h, u, A, z.1) }

        back : ¬ (q ≡ p) → LongLock r s (at x) q ⊎ ShortLock p s (at x) q → elem q (at_latch (latch_word p) x [] (stand_blockers p x) (suc s.root.height) s.root.node) ≡ true
        back n (inl l) = absurd l.asks
        back n (inr l) = ap (elem q) (found {s = s} S p r e x g [] (stand_blockers p x) (suc l.0) l.1 l.2) ∙ (unfold stand_blockers in ((level l.0 l.1 l.2 q).1 (n, l.3)))

  -- ---- every step

  by-stage : (g : Stage) → r.stage ≡ g → (q : ℕ) → Exactly g (step_blockers p r s g) q
  by-stage start i q = at-start q
  by-stage (enter x) i q = at-enter x q
  by-stage (at x) i q = at-node x i q
  by-stage change i q = at-change i q
  by-stage (take x) i q = at_take x i q

  -- The parties that the guards find are the parties in the way.
  pub blockers-exactly : (q : ℕ) → (elem q (step_blockers p r s r.stage) ≡ true) ↔ InTheWay p r s r.stage q
  blockers-exactly q = by-stage r.stage refl q

  pub nobody-in-the-way : (step_blockers p r s r.stage ≡ []) ↔ ((q : ℕ) → ¬ InTheWay p r s r.stage q)
  nobody-in-the-way = go (step_blockers p r s r.stage) blockers-exactly
    where
      go : (bs : List ℕ) → ((q : ℕ) → Exactly r.stage bs q) → (bs ≡ []) ↔ ((q : ℕ) → ¬ InTheWay p r s r.stage q)
      go [] f = ((λ _ q W. true≢false ((f q).1 W) refl), λ _. refl)
      go (b ∷ bs) f = ((λ i. absurd (true≢false (elem-first b bs) (ap (elem b) i))), λ h. absurd (h b ((f b).0 (elem-first b bs))))

-- Every step of every party, from every sound state.
pub waits-exactly : (n p : ℕ) (r : Request) (s : State) → Sound s → (session_of p s).hand ≡ some r → WaitsExactly p r s r.stage (next_step n p r s r.stage)
waits-exactly n p r s S e = exactly-from p r s r.stage (step_blockers p r s r.stage) (next_step n p r s r.stage) (step_waits n p r s r.stage) (blockers-exactly S p r e)
