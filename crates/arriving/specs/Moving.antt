-- The rows at a lowest node are the machine's.
use Rattle.std.specs.Prelude.{◌≡◌, Bool, List, [], ◌∷◌, ◌⊎◌}
use Rattle.std.proofs.Math.Path.{refl, ap, subst}
use Rattle.std.proofs.Common.{sym, ap₂, ◌∙◌, inl, inr, arith, eq-eqb, ne_eqb}
use Rattle.std.proofs.Math.Bool.{true, false}
use Prim.Native.Nat.{ℕ, suc, ◌≤◌}
use Rattle.std.proofs.Math.Dec.{eqb}
use Rattle.words.specs.Store.{word_of}
use Rattle.groups.specs.Descriptor.{descriptor_at}
use Rattle.groups.specs.Descriptor as GD
use Rattle.sessions.specs.declared.Session.{Session}
use Rattle.sessions.specs.Sessions.{session_at}
use Rattle.machine.specs.Holders.{width}
use Rattle.machine.specs.State.{Desc, Request, State, Outcome, stored, gap_below, top}
use Rattle.machine.specs.Sound.{Descends, to-change, to_first, to-second, to_choice, stored_in}
use Rattle.machine.specs.Steps.{goes_on, finished, pin-step, tidy-step, removable, tidied_state}
use Rattle.machine.specs.Descending.{keeper-stored}
use Rattle.machine.specs.Looks.{stored-parts, stored-range}
use Rattle.machine.specs.Housekeeping.{lvs}
use Rattle.meaning.specs.Reading.{M-of, R-of}
use Rattle.meaning.specs.Lens.{descs}
use Rattle.meaning.specs.Latched.{at_request}
use Rattle.layout.specs.Layout.{means}
use Rattle.layout.specs.Row.{Stands, Moves}
use Rattle.layout.specs.Asked.{request_in}
use Rattle.outcomes.specs.Said.{Stepped, said}
use Rattle.outcomes.specs.declared.Answer.TheVariants.{Tidied}
use Rattle.endings.specs.Table.{idled}
use Rattle.nodes.specs.Paths.{son_toward}
use Rattle.nodes.specs.Ops.{latch_at}
use Rattle.arriving.specs.Arriving.{pin_step, gone_step, left_step, tidy_step, pred_of}
use Rattle.arriving.specs.Lowest.{Lowest, at-lowest}
use Rattle.arriving.specs.Site.{site_low, site_high, site-leaves, site_son}
use Rattle.arriving.specs.Standing.{descends-at, target-most, keeper-is}
use Rattle.arriving.specs.Before.{pred-at}
use Rattle.arriving.specs.Unnamed.{lvs-are}
use Rattle.arriving.specs.Declined.{declined-becomes}
use Rattle.arriving.specs.Pinning.{pin-becomes}
use Rattle.arriving.specs.Tidied.{removable-same, site-group, site-desc, tidied-becomes}

-- A step's words, session record and answer are the machine's outcome.
abbrev pub Steps : (s : List ℕ) (t : List Session) (p : ℕ) → Stepped → Outcome → Type 0
Steps s t p z o = Moves s t p z.words z.session (said z.answer) o

pub request_at : (x : Session) → x.stage ≡ 3 → request_in x ≡ at_request x
unfolding request_in
request_at x e =
    let n : (k : ℕ) → (3 ≡ k → ⊥) → eqb x.stage k ≡ false = λ k f. ne_eqb x.stage k (λ q. f (sym e ∙ q)) in
    rw (n 1 (λ q. omega arith), n 2 (λ q. omega arith), eq-eqb x.stage 3 e) refl

-- ---- each step's cases, and the machine's

tidy-goes : (s : List ℕ) (m r : ℕ) (x : Session) → GD.removable (descriptor_at s m (son_toward s m x.at x.target)) (descriptor_at s m (pred_of s m r x.target)).gap ≡ true
    → tidy_step s m r x ≡ gone_step s m (pred_of s m r x.target) (son_toward s m x.at x.target) x
unfolding tidy_step
tidy-goes s m r x e = rw e refl

tidy-stays : (s : List ℕ) (m r : ℕ) (x : Session) → GD.removable (descriptor_at s m (son_toward s m x.at x.target)) (descriptor_at s m (pred_of s m r x.target)).gap ≡ false
    → tidy_step s m r x ≡ record { words = latch_at s m x.at 0; session = idled x; answer = Tidied x.target 0 }
unfolding tidy_step left_step
tidy-stays s m r x e = rw e refl

step-goes : (p : ℕ) (r : Request) (x : ℕ) (d : Desc) (σ : State) → removable (gap_below x 0 (stored σ)) d ≡ true → tidy-step p r x d σ ≡ finished p r (x ∷ 1 ∷ []) (tidied_state p x σ)
unfolding tidy-step
step-goes p r x d σ e = rw e refl

step_stays : (p : ℕ) (r : Request) (x : ℕ) (d : Desc) (σ : State) → removable (gap_below x 0 (stored σ)) d ≡ false → tidy-step p r x d σ ≡ finished p r (x ∷ 0 ∷ []) σ
unfolding tidy-step
step_stays p r x d σ e = rw e refl

module _ (s : List ℕ) (t : List Session) (A : Stands s t) where
  -- ---- a session

  pub pin-moves : (p : ℕ) → p ≤ width → ¬ (p ≡ 0) → (session_at t p).stage ≡ 3 → (N : Lowest A.lay t p) → N.leaf.desc.key ≡ (session_at t p).target
      → Steps s t p (pin_step s (M-of s) (session_at t p)) (pin-step p (at_request (session_at t p)) (session_at t p).target (means A.lay t))
  unfolding pin_step pin-step goes_on
  pin-moves p l nz e N k = record { becomes = pin-becomes s t A p l nz e N k; tells = refl }

  -- ---- the housekeeper

  -- Its choice is stored, so it is the descriptor on the path; and it is above first.
  choice : (session_at t 0).stage ≡ 3 → stored_in (session_at t 0).target (lvs (means A.lay t)) ≡ true
  choice e = keeper-stored (means A.lay t) (at_request (session_at t 0)) (session_at t 0).target (keeper-is A.lay t A.holds.seats A.sound e) (descends-at A.lay t A.holds.seats A.sound 0 (omega arith) e)

  pub choice-proper : (session_at t 0).stage ≡ 3 → 1 ≤ (session_at t 0).target
  choice-proper e = go (keeper-is A.lay t A.holds.seats A.sound e) (descends-at A.lay t A.holds.seats A.sound 0 (omega arith) e)
    where
      go : (session_at t 0).code ≡ 6 → Descends 0 (means A.lay t) (at_request (session_at t 0)) (session_at t 0).target → 1 ≤ (session_at t 0).target
      go c (to-change C q) = absurd (omega (arith, c, C.code_3_4.1))
      go c (to_first k q) = absurd (omega (arith, c, k))
      go c (to-second k q) = absurd (omega (arith, c, k))
      go c (to_choice C) = omega (arith, C.above)

  pub choice-key : (session_at t 0).stage ≡ 3 → (N : Lowest A.lay t 0) → N.leaf.desc.key ≡ (session_at t 0).target
  choice-key e N =
      let x = (session_at t 0).target in
      let X = site_low s t A.lay A.holds 0 N in
      let Y = site_high s t A.lay A.holds 0 N in
      go (stored-parts x (descs X) N.leaf.desc (descs Y) (subst (λ l. stored_in x l ≡ true) (lvs-are A.lay t X N.leaf Y (site-leaves s t A.lay A.holds 0 N)) (choice e)))
    where
      go : (stored_in (session_at t 0).target (descs (site_low s t A.lay A.holds 0 N)) ≡ true) ⊎ ((N.leaf.desc.key ≡ (session_at t 0).target) ⊎ (stored_in (session_at t 0).target (descs (site_high s t A.lay A.holds 0 N)) ≡ true))
          → N.leaf.desc.key ≡ (session_at t 0).target
      go (inl q) = absurd (omega (arith, (stored-range (session_at t 0).target 0 (session_at t 0).target (descs (site_low s t A.lay A.holds 0 N)) N.keys_low q).1))
      go (inr (inl q)) = q
      go (inr (inr q)) = absurd (omega (arith, (stored-range (session_at t 0).target (suc (session_at t 0).target) (suc top) (descs (site_high s t A.lay A.holds 0 N)) N.keys_high q).0))

  -- The words' test is the machine's.
  goes_same : (session_at t 0).stage ≡ 3 → (N : Lowest A.lay t 0)
      → GD.removable (descriptor_at s (M-of s) (son_toward s (M-of s) (session_at t 0).at (session_at t 0).target)) (descriptor_at s (M-of s) (pred_of s (M-of s) (R-of s) (session_at t 0).target)).gap
      ≡ removable (gap_below (session_at t 0).target 0 (stored (means A.lay t))) N.leaf.desc
  goes_same e N =
      let x = session_at t 0 in
      let L = A.lay in
      let m = M-of s in
      let Q = pred-at s t L A.holds A.sound x.target (choice-proper e) in
      let g : (descriptor_at s m (pred_of s m (R-of s) x.target)).gap ≡ gap_below x.target 0 (stored (means L t)) = ap (λ i. (descriptor_at s m i).gap) Q.found ∙ Q.gap_word ∙ sym Q.gap in
      ap₂ (λ i k. GD.removable (descriptor_at s m i) k) (site_son s t L A.holds 0 N) g
      ∙ removable-same s m (L.members N.leaf.num) N.leaf (gap_below x.target 0 (stored (means L t))) (site-desc s t A 0 N) (site-group s t A 0 N)

  not_five : (session_at t 0).stage ≡ 3 → ¬ ((session_at t 0).code ≡ 5)
  not_five e q = omega (arith, keeper-is A.lay t A.holds.seats A.sound e, q)

  goes-moves : (session_at t 0).stage ≡ 3 → (N : Lowest A.lay t 0) → removable (gap_below (session_at t 0).target 0 (stored (means A.lay t))) N.leaf.desc ≡ true
      → Steps s t 0 (tidy_step s (M-of s) (R-of s) (session_at t 0)) (tidy-step 0 (at_request (session_at t 0)) (session_at t 0).target N.leaf.desc (means A.lay t))
  unfolding finished gone_step
  goes-moves e N q =
      let x = session_at t 0 in
      let σ = means A.lay t in
      subst (λ y. Steps s t 0 y (tidy-step 0 (at_request x) x.target N.leaf.desc σ)) (sym (tidy-goes s (M-of s) (R-of s) x (goes_same e N ∙ q)))
      (subst (λ o. Steps s t 0 (gone_step s (M-of s) (pred_of s (M-of s) (R-of s) x.target) (son_toward s (M-of s) x.at x.target) x) o) (sym (step-goes 0 (at_request x) x.target N.leaf.desc σ q))
      (record { becomes = tidied-becomes s t A N (choice-key e N) (choice-proper e) (not_five e) q; tells = refl }))

  stays-moves : (session_at t 0).stage ≡ 3 → (N : Lowest A.lay t 0) → removable (gap_below (session_at t 0).target 0 (stored (means A.lay t))) N.leaf.desc ≡ false
      → Steps s t 0 (tidy_step s (M-of s) (R-of s) (session_at t 0)) (tidy-step 0 (at_request (session_at t 0)) (session_at t 0).target N.leaf.desc (means A.lay t))
  unfolding finished
  stays-moves e N q =
      let x = session_at t 0 in
      let σ = means A.lay t in
      subst (λ y. Steps s t 0 y (tidy-step 0 (at_request x) x.target N.leaf.desc σ)) (sym (tidy-stays s (M-of s) (R-of s) x (goes_same e N ∙ q)))
      (subst (λ o. Steps s t 0 (record { words = latch_at s (M-of s) x.at 0; session = idled x; answer = Tidied x.target 0 }) o) (sym (step_stays 0 (at_request x) x.target N.leaf.desc σ q))
      (record { becomes = declined-becomes s t A 0 (omega arith) e (not_five e); tells = refl }))

  pub tidy-moves : (session_at t 0).stage ≡ 3 → (N : Lowest A.lay t 0)
      → Steps s t 0 (tidy_step s (M-of s) (R-of s) (session_at t 0)) (tidy-step 0 (at_request (session_at t 0)) (session_at t 0).target N.leaf.desc (means A.lay t))
  tidy-moves e N = go (removable (gap_below (session_at t 0).target 0 (stored (means A.lay t))) N.leaf.desc) refl
    where
      go : (c : Bool) → removable (gap_below (session_at t 0).target 0 (stored (means A.lay t))) N.leaf.desc ≡ c
          → Steps s t 0 (tidy_step s (M-of s) (R-of s) (session_at t 0)) (tidy-step 0 (at_request (session_at t 0)) (session_at t 0).target N.leaf.desc (means A.lay t))
      go true q = goes-moves e N q
      go false q = stays-moves e N q

  -- ---- both

  -- The word that says whether the key is stored.
  pub key_word : (p : ℕ) (N : Lowest A.lay t p) → word_of s (M-of s) (son_toward s (M-of s) (session_at t p).at (session_at t p).target) 1 ≡ N.leaf.desc.key
  key_word p N = ap (λ i. word_of s (M-of s) i 1) (site_son s t A.lay A.holds p N) ∙ (site-desc s t A p N).key

  -- The lowest node of a party's descent.
  pub lowest-of : (p : ℕ) → p ≤ width → (session_at t p).stage ≡ 3 → (session_at t p).level ≡ 1 → Lowest A.lay t p
  lowest-of p l e one = at-lowest A.lay t A.holds.seats A.sound p l e one (A.holds.hands p l) (target-most A.lay t A.holds.seats A.sound p l e)
