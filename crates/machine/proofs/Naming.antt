-- Theorems that rest on theorems of specs/: the rest of specs/Naming.antt.
use Rattle.std.specs.Prelude.{◌≡◌, ◌↔◌, ◌⊎◌, suc, ◌≤◌, ℕ}
use Rattle.std.proofs.Math.Path.{refl, sym, ap}
use Rattle.std.proofs.Common.{◌∙◌, subst, arith}
use Rattle.std.proofs.Math.Bool.{true, cond}
use mathlib.Core.List.{List, [], ◌∷◌}
use Rattle.std.proofs.Math.Logic.{inl, inr}
use Rattle.std.proofs.Math.Option.{some}
use Rattle.std.proofs.Math.ListN.{length}
use Rattle.serial.specs.Serial.{true≢false}
use Rattle.machine.specs.Holders.{elem, latch_blockers}
use Rattle.machine.specs.Tree.{Seg}
use Rattle.machine.specs.State.{Tree, Stage, start, enter, change, take, Request, State, Outcome, session_of, at}
use Rattle.machine.specs.Descent.{Sons, pick_pair}
use Rattle.machine.specs.Steps.{taking_part, son-at, next_step, oldest, named, settled}
use Rattle.machine.specs.Sound.{Sound, Shaped}
use Rattle.machine.specs.InTheWay.{LongLock, LeftOf, RightOf, ShortLock, InTheWay, LevelWords, Latching, FirstOf, Named}
use Rattle.machine.specs.Blocking.{words_of, son-hit}
use Rattle.machine.specs.Waits.{WaitsFor, waiting, step_blockers, step_waits, elem-first, named-member, only_named, named_of, whom, settled-waits, settled-whom}
use Rattle.machine.specs.Conflicts.{sons-follow, level-guard}
use Rattle.machine.proofs.Conflicts.{blockers-exactly}
use Rattle.machine.specs.Naming.{least, first_short, root-first, mends-is, mends-not, pair_is, holder-begun, WaitsNamed}

-- The root.

-- One level down: the guard looks at these words, in this order.
module _ (p x h lo hi : ℕ) (es : Sons (suc h)) (G : Seg (Shaped (suc h) 3) lo hi es) where
  abbrev u : Tree (suc h)
  u = son-at x h es

  abbrev pair_words : Sons (suc h) → List ℕ
  pair_words l = pick_pair x [] (words_of h) l

  words-taken : (ws : List ℕ) → LevelWords p x h es ws → (taking_part p x h u es ≡ ws) × (length ws ≤ 2)
  unfolding taking_part
  words-taken ws (S, inl (n, i)) = (
    ap (λ c. cond c (pair_words es) (u.latch ∷ [])) (mends-not p x h lo hi es G S n) ∙ ap (λ t. t.latch ∷ []) (son-hit x h es S) ∙ sym i,
    let z = ap length i in omega (arith, z),
  )
  words-taken ws (S, inr (m, (t, k))) = (ap (λ c. cond c (pair_words es) (u.latch ∷ [])) (mends-is p x h lo hi es G S m) ∙ pair_is p x h lo hi es G S t ws k, two k)
    where
      two : (LeftOf S t × (ws ≡ t.latch ∷ S.son.latch ∷ [])) ⊎ (RightOf S t × (ws ≡ S.son.latch ∷ t.latch ∷ [])) → length ws ≤ 2
      two (inl (c, i)) = let z = ap length i in omega (arith, z)
      two (inr (c, i)) = let z = ap length i in omega (arith, z)

  level-first : (ws : List ℕ) → LevelWords p x h es ws → (b : ℕ) (bs : List ℕ) → latch_blockers p (taking_part p x h u es) ≡ b ∷ bs → FirstOf p ws b
  level-first ws L b bs e = let z = words-taken ws L in first_short p ws z.1 b bs (sym (ap (latch_blockers p) z.0) ∙ e)

-- ---- every step

module _ {s : State} (S : Sound s) (p : ℕ) (r : Request) (e : (session_of p s).hand ≡ some r) where
  abbrev Exactly : Stage → ℕ → List ℕ → Type 0
  Exactly g b bs = (q : ℕ) → (elem q (b ∷ bs) ≡ true) ↔ InTheWay p r s g q

  -- A step that asks for a long lock.
  by-begin : (g : Stage) → ((q : ℕ) → ShortLock p s g q → ⊥) → ((ws : List ℕ) → Latching p s g ws → ⊥) → (b : ℕ) (bs : List ℕ) → Exactly g b bs → elem (oldest s b bs) (b ∷ bs) ≡ true
      → Named p r s g (oldest s b bs)
  by-begin g short words b bs f i = record {
    in_the_way = W;
    began_first = λ q n l d. let o = S.orders (oldest s b bs) q (own W.lock) (holder-begun {s = s} S p r e g q l) in
        let w = least s b bs q ((f q).1 (record { another = n; lock = inl l })) in
        let z : ¬ ((session_of (oldest s b bs) s).order ≡ (session_of q s).order) = λ k. d (sym (o k)) in
        omega (arith, w, z);
    first_latch = λ ws k. absurd (words ws k);
  }
    where
      W : InTheWay p r s g (oldest s b bs)
      W = (f (oldest s b bs)).0 i

      own : LongLock r s g (oldest s b bs) ⊎ ShortLock p s g (oldest s b bs) → (session_of (oldest s b bs) s).begun ≡ true
      own (inl l) = holder-begun {s = s} S p r e g (oldest s b bs) l
      own (inr l) = absurd (short (oldest s b bs) l)

  by-stage : (g : Stage) → r.stage ≡ g → (b : ℕ) (bs : List ℕ) → step_blockers p r s g ≡ b ∷ bs → Exactly g b bs → Named p r s g (named s g b bs)
  by-stage start i b bs k f = by-begin start (λ q l. l) (λ ws l. l) b bs f (named-member s start b bs)
  by-stage (enter x) i b bs k f = record {
    in_the_way = (f b).0 (elem-first b bs);
    began_first = λ q n l. absurd l.asks;
    first_latch = λ ws L. root-first p s.root.height s.root.node ws L b bs (unfold step_blockers in k);
  }
  by-stage (at x) i b bs k f = record {
    in_the_way = (f b).0 (elem-first b bs);
    began_first = λ q n l. absurd l.asks;
    first_latch = λ ws L. let Z = sons-follow S p r e x i L.0 L.1 L.2 in
        level-first p x L.0 Z.0 Z.1 L.1.sons Z.2 ws L.3 b bs (sym (level-guard S p r e x i L.0 L.1 L.2) ∙ k);
  }
  by-stage change i b bs k f = by-begin change (λ q l. l) (λ ws l. l) b bs f (named-member s change b bs)
  by-stage (take x) i b bs k f = by-begin (take x) (λ q l. l) (λ ws l. l) b bs f (named-member s (take x) b bs)

  -- The one that a wait names, of those whom the guards find.
  pub whom-named : (b : ℕ) (bs : List ℕ) → step_blockers p r s r.stage ≡ b ∷ bs → Named p r s r.stage (named s r.stage b bs)
  whom-named b bs k = by-stage r.stage refl b bs k (λ q. subst (λ l. (elem q l ≡ true) ↔ InTheWay p r s r.stage q) k (blockers-exactly S p r e q))

  pub way-named : (q : ℕ) → InTheWay p r s r.stage q → Named p r s r.stage (whom p r s)
  unfolding whom
  way-named q W = go (step_blockers p r s r.stage) refl ((blockers-exactly S p r e q).1 W)
    where
      go : (bs : List ℕ) → step_blockers p r s r.stage ≡ bs → elem q (step_blockers p r s r.stage) ≡ true → Named p r s r.stage (named_of s r.stage bs)
      go [] k i = absurd (true≢false i (ap (elem q) k))
      go (b ∷ bs) k i = whom-named b bs k

-- Every step of every party, from every sound state.
pub waits-named : (n p : ℕ) (r : Request) (s : State) → Sound s → (session_of p s).hand ≡ some r → WaitsNamed p r s (settled s r.stage (next_step n p r s r.stage))
waits-named n p r s S e = go (step_blockers p r s r.stage) (blockers-exactly S p r e)
    (settled-waits s r.stage (step_blockers p r s r.stage) (next_step n p r s r.stage) (step_waits n p r s r.stage))
  where
    o : Outcome
    o = settled s r.stage (next_step n p r s r.stage)

    go : (bs : List ℕ) → ((q : ℕ) → (elem q bs ≡ true) ↔ InTheWay p r s r.stage q) → WaitsFor s (only_named s r.stage bs) o → WaitsNamed p r s o
    go [] f w = record {
      waits = ((λ h. absurd (true≢false (ap waiting h.1) w)), λ h. absurd (true≢false ((f h.0).1 h.1) refl));
      names = λ ps h. absurd (true≢false (ap waiting h) w);
      longest = λ ps h. absurd (true≢false (ap waiting h) w);
      unchanged = λ ps h. absurd (true≢false (ap waiting h) w);
    }
    go (b ∷ bs) f w = let W = (f b).0 (elem-first b bs) in record {
      waits = ((λ _. (b, W)), λ _. (named s r.stage b bs ∷ [], ap (λ z. z.answer) w));
      names = λ ps h. settled-whom n p r s ps h;
      longest = λ ps h. way-named S p r e b W;
      unchanged = λ ps h. ap (λ z. z.next) w;
    }
