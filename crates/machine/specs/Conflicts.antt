-- Demand 2, waiting, in document 01's own words: from a sound state a step waits exactly if another party's lock conflicts with it (InTheWay), for exactly those parties, and then changes nothing.
use Rattle.std.specs.Prelude.{◌≡◌, false, ◌↔◌, ◌⊎◌}
use Rattle.std.proofs.Math.Path.{refl, ap}
use Rattle.std.proofs.Common.{sym, ◌∙◌, subst, inl, arith}
use Rattle.std.proofs.Math.Bool.{true}
use mathlib.Core.List.{List, [], ◌∷◌}
use Rattle.std.proofs.Math.Logic.{inr}
use Rattle.std.proofs.Math.Option.{some}
use Prim.Native.Nat.{suc, ◌≤◌, ℕ}
use Rattle.serial.specs.Serial.{true≢false}
use Rattle.serial.specs.Locks.{Kind, Mode, weak, strong, lock_rule}
use Rattle.serial.specs.Locks as L
use Rattle.machine.specs.Logic.{eqb_yes, eqb_no}
use Rattle.machine.specs.Holders.{holds, latch_word, elem}
use Rattle.machine.specs.Tree.{Seg, pick-hit}
use Rattle.machine.specs.State.{Tree, Stage, start, change, take, Request, State, wait, Outcome, session_of, top, at}
use Rattle.machine.specs.Descent.{at_latch, on_latch, sons_of}
use Rattle.machine.specs.Steps.{level_blockers, son-at}
use Rattle.machine.specs.View.{holders}
use Rattle.machine.specs.Sound.{Sound, Shaped, Room}
use Rattle.machine.specs.Context.{Ctx, hole, down, plug, OnWay, Clear, Focus, Focused}
use Rattle.machine.specs.InTheWay.{LowestFrom, Asks, LongLock, At, ShortLock, InTheWay}
use Rattle.machine.specs.Blocking.{Clash, Blocks}
use Rattle.machine.specs.Looks.{fit_of}
use Rattle.machine.specs.Focus.{focused, shaped-plug}
use Rattle.machine.specs.Latched.{on-latch-plug}
use Rattle.machine.specs.Waits.{WaitsFor, step_blockers, stand_blockers, waiting, elem-first}

-- ---- the node where a party stands

at-plug : {B : Type 0} {k h : ℕ} (w x : ℕ) (z : B) (g : (h : ℕ) → Tree (suc h) → B) (c : Ctx (suc k) h) (u : Tree (suc k)) → OnWay x c → Clear w c → u.latch ≡ w
    → at_latch w x z g h (plug c u) ≡ g k u
unfolding at_latch
at-plug w x z g hole u o cl l = rw (eqb_yes u.latch w l) refl
at-plug w x z g (down {h = h} v pre c b post) u o cl l =
    rw (eqb_no v w cl.0) (pick-hit x z (at_latch w x z g h) pre (plug c u) b post o.0 o.1 ∙ at-plug w x z g c u o.2 cl.1 l)

module _ {s : State} (S : Sound s) (p : ℕ) (r : Request) (e : (session_of p s).hand ≡ some r) where
  abbrev pub Exactly : Stage → List ℕ → ℕ → Type 0
  Exactly g bs q = (elem q bs ≡ true) ↔ InTheWay p r s g q

  -- ---- long locks

  -- The step asks for one lock, and bs are who blocks it.
  pub asking : (g : Stage) (k : Kind) (m : Mode) (z hw hs : ℕ) (bs : List ℕ) (q : ℕ) → (elem q bs ≡ true) ↔ Blocks k m p hw hs q → holders s k weak q z ≡ holds hw q → holders s k strong q z ≡ holds hs q
      → Asks r s g k m z → ((k' : Kind) (m' : Mode) (z' : ℕ) → Asks r s g k' m' z' → (k' ≡ k) × (m' ≡ m) × (z' ≡ z)) → (ShortLock p s g q → ⊥) → Exactly g bs q
  asking g k m z hw hs bs q iff ew es A only short = (into, back)
    where
      into : elem q bs ≡ true → InTheWay p r s g q
      into i = let b = iff.0 i in record { another = b.2; lock = inl (held b.3) }
        where
          held : Clash k m hw hs q → LongLock r s g q
          held (inl c) = record { kind = k; asked = m; held = weak; what = z; asks = A; holding = ew ∙ c.0; conflict = c.1 }
          held (inr c) = record { kind = k; asked = m; held = strong; what = z; asks = A; holding = es ∙ c.0; conflict = c.1 }

      back : InTheWay p r s g q → elem q bs ≡ true
      back W = by W.lock
        where
          clash : (n : Mode) → holders s k n q z ≡ true → lock_rule k n m ≡ false → Clash k m hw hs q
          clash weak h c = inl (sym ew ∙ h, c)
          clash strong h c = inr (sym es ∙ h, c)

          by : LongLock r s g q ⊎ ShortLock p s g q → elem q bs ≡ true
          by (inl l) =
              let u = only l.kind l.asked l.what l.asks in
              let h : holders s k l.held q z ≡ true = subst (λ y. holders s y l.held q z ≡ true) u.0 (subst (λ y. holders s l.kind l.held q y ≡ true) u.2 l.holding) in
              let c : lock_rule k l.held m ≡ false = subst (λ y. lock_rule y l.held m ≡ false) u.0 (subst (λ y. lock_rule l.kind l.held y ≡ false) u.1 l.conflict) in
              let b = (fit_of S).few k l.held q z h in
              iff.1 (b.0, b.1, W.another, clash l.held h c)
          by (inr l) = absurd (short l)

  pub nobody : (g : Stage) (q : ℕ) → (LongLock r s g q → ⊥) → (ShortLock p s g q → ⊥) → Exactly g [] q
  nobody g q f h = ((λ i. absurd (true≢false i refl)), λ W. absurd (neither W.lock))
    where
      neither : LongLock r s g q ⊎ ShortLock p s g q → ⊥
      neither (inl l) = f l
      neither (inr l) = h l

  -- ---- latches

  module _ (x : ℕ) (g : r.stage ≡ at x) where
    pub focus : Focused p x s
    focus = focused p x s (S.placed p r x e g)

    pub stands_at : At p x s focus.level focus.node
    stands_at = let F = focus.focus in record { around = F.around; is = F.is; way = F.way; clear = F.clear; latch = F.latch }

    pub stood-at : (k : ℕ) × (u : Tree (suc k)) × At p x s k u
    stood-at = (focus.level, focus.node, stands_at)

    pub found : {B : Type 0} (z : B) (f : (h : ℕ) → Tree (suc h) → B) (k : ℕ) (u : Tree (suc k)) → At p x s k u → at_latch (latch_word p) x z f (suc s.root.height) s.root.node ≡ f k u
    found z f k u A = ap (at_latch (latch_word p) x z f (suc s.root.height)) A.is ∙ at-plug (latch_word p) x z f A.around u A.way A.clear A.latch

    room : (k : ℕ) (u : Tree (suc k)) → At p x s k u → Room s p k (sons_of u)
    room k u A = let f : (h : ℕ) → Tree (suc h) → ℕ × ℕ = λ h t. (h, sons_of t) in
        subst (λ y. Room s p y.0 y.1) (sym (found (0, 0) f focus.level focus.node stands_at) ∙ found (0, 0) f k u A) focus.focus.room

    pub focus_at : (k : ℕ) (u : Tree (suc k)) → At p x s k u → Focus p x s k u
    focus_at k u A = record {
      around = A.around;
      is = A.is;
      way = A.way;
      clear = A.clear;
      latch = A.latch;
      room = room k u A;
      answers = λ z f. found z f k u A;
      changes = λ f. ap (on_latch (latch_word p) x f (suc s.root.height)) A.is ∙ on-latch-plug (latch_word p) x f A.around u A.way A.clear A.latch;
    }

    -- The housekeeper's parent has no lone son.
    pub not_lone : (h : ℕ) (u : Tree (suc (suc h))) → At p x s (suc h) u → p ≡ 0 → ¬ (sons_of u ≡ 1)
    not_lone h u A z = go (subst (λ y. Room s y (suc h) (sons_of u)) z (room (suc h) u A))
      where
        go : Room s 0 (suc h) (sons_of u) → ¬ (sons_of u ≡ 1)
        go (inl a) b = omega (arith, a, b)
        go (inr (a, inl c)) b = omega (arith, c)
        go (inr (a, inr c)) b = c b

    pub sons-follow : (h : ℕ) (u : Tree (suc (suc h))) → At p x s (suc h) u → (lo : ℕ) × (hi : ℕ) × Seg (Shaped (suc h) 3) lo hi u.sons
    unfolding Shaped
    sons-follow h u A = let Z = shaped-plug A.around 1 0 top u (subst (Shaped (suc s.root.height) 1 0 top) A.is S.shaped) in (Z.lo', suc Z.hi', Z.sub.3)

    -- Above the lowest node the guard is that of the level.
    pub level-guard : (h : ℕ) (u : Tree (suc (suc h))) → At p x s (suc h) u → step_blockers p r s (at x) ≡ level_blockers p x h u.sons (son-at x h u.sons)
    unfolding step_blockers stand_blockers
    level-guard h u A = found [] (stand_blockers p x) (suc h) u A

-- An outcome of a step of party p at stage g: it waits exactly if some party is in the way, for exactly these, and then nothing is changed.
pub record WaitsExactly (p : ℕ) (r : Request) (s : State) (g : Stage) (o : Outcome) : Type 0 where
  pub waits : ((ps : List ℕ) × (o.answer ≡ wait ps)) ↔ ((q : ℕ) × InTheWay p r s g q)
  pub lists : (ps : List ℕ) → o.answer ≡ wait ps → (q : ℕ) → (elem q ps ≡ true) ↔ InTheWay p r s g q
  pub unchanged : (ps : List ℕ) → o.answer ≡ wait ps → o.next ≡ s

pub exactly-from : (p : ℕ) (r : Request) (s : State) (g : Stage) (bs : List ℕ) (o : Outcome) → WaitsFor s bs o → ((q : ℕ) → (elem q bs ≡ true) ↔ InTheWay p r s g q) → WaitsExactly p r s g o
exactly-from p r s g [] o w f = record {
  waits = ((λ h. absurd (true≢false (ap waiting h.1) w)), λ h. absurd (true≢false ((f h.0).1 h.1) refl));
  lists = λ ps h. absurd (true≢false (ap waiting h) w);
  unchanged = λ ps h. absurd (true≢false (ap waiting h) w);
}
exactly-from p r s g (b ∷ bs) o w f = record {
  waits = ((λ _. (b, (f b).0 (elem-first b bs))), λ _. (b ∷ bs, ap (λ x. x.answer) w));
  lists = λ ps h q. subst (λ l. (elem q l ≡ true) ↔ InTheWay p r s g q) (listed (b ∷ bs) ps (sym (ap (λ x. x.answer) w) ∙ h)) (f q);
  unchanged = λ ps h. ap (λ x. x.next) w;
}
  where
    listed : (l m : List ℕ) → wait l ≡ wait m → l ≡ m
    listed l m e = cc

-- ---- who that is, by the kind of step: an entry's exclusive lock is alone, update locks of one key agree, locate and update conflict (document 02, M-104)

-- In the way of the first step of an insert or remove are exactly the others that hold its entry.
pub entry-meets : (p : ℕ) (r : Request) (s : State) (q : ℕ) → 3 ≤ r.code → r.code ≤ 4 → InTheWay p r s start q ↔ ((¬ (q ≡ p)) × ((m : Mode) × (holders s L.entry m q r.entry ≡ true)))
entry-meets p r s q lo hi = ((λ W. (W.another, by W.lock)), λ h. record { another = h.0; lock = inl (lock h.1.0 h.1.1) })
  where
    by : LongLock r s start q ⊎ ShortLock p s start q → (m : Mode) × (holders s L.entry m q r.entry ≡ true)
    by (inl l) = (l.held, subst (λ z. holders s L.entry l.held q z ≡ true) l.asks.1 (subst (λ k. holders s k l.held q l.what ≡ true) l.asks.0 l.holding))
    by (inr l) = absurd l

    lock : (m : Mode) → holders s L.entry m q r.entry ≡ true → LongLock r s start q
    lock m h = record { kind = L.entry; asked = strong; held = m; what = r.entry; asks = (refl, refl, inr (omega (arith, lo), hi, refl)); holding = h; conflict = apart_from m }
      where
        apart_from : (m : Mode) → lock_rule L.entry m strong ≡ false
        apart_from weak = refl
        apart_from strong = refl

-- In the way of its change are exactly the others that hold its key to locate.
pub change-meets : (p : ℕ) (r : Request) (s : State) (q : ℕ) → InTheWay p r s change q ↔ ((¬ (q ≡ p)) × (holders s L.group weak q r.first ≡ true))
change-meets p r s q = ((λ W. (W.another, by W.lock)), λ h. record { another = h.0; lock = inl (lock h.1) })
  where
    located : (m : Mode) → lock_rule L.group m strong ≡ false → holders s L.group m q r.first ≡ true → holders s L.group weak q r.first ≡ true
    located weak c h = h
    located strong c h = absurd (true≢false refl c)

    by : LongLock r s change q ⊎ ShortLock p s change q → holders s L.group weak q r.first ≡ true
    by (inl l) = located l.held
        (subst (λ m. lock_rule L.group l.held m ≡ false) l.asks.2 (subst (λ k. lock_rule k l.held l.asked ≡ false) l.asks.0 l.conflict))
        (subst (λ z. holders s L.group l.held q z ≡ true) l.asks.1 (subst (λ k. holders s k l.held q l.what ≡ true) l.asks.0 l.holding))
    by (inr l) = absurd l

    lock : holders s L.group weak q r.first ≡ true → LongLock r s change q
    lock h = record { kind = L.group; asked = strong; held = weak; what = r.first; asks = (refl, refl, refl); holding = h; conflict = refl }

-- In the way of a locate that takes are exactly the others that hold the next key to update.
pub take_meets : (p : ℕ) (r : Request) (s : State) (x q : ℕ) → InTheWay p r s (take x) q ↔ ((¬ (q ≡ p)) × ((z : ℕ) × LowestFrom x s z × (holders s L.group strong q z ≡ true)))
take_meets p r s x q = ((λ W. (W.another, by W.lock)), λ h. record { another = h.0; lock = inl (lock h.1.0 h.1.1 h.1.2) })
  where
    updated : (m : Mode) (z : ℕ) → lock_rule L.group m weak ≡ false → holders s L.group m q z ≡ true → holders s L.group strong q z ≡ true
    updated weak z c h = absurd (true≢false refl c)
    updated strong z c h = h

    by : LongLock r s (take x) q ⊎ ShortLock p s (take x) q → (z : ℕ) × LowestFrom x s z × (holders s L.group strong q z ≡ true)
    by (inl l) = (
      l.what,
      l.asks.1,
      updated l.held l.what (subst (λ m. lock_rule L.group l.held m ≡ false) l.asks.2 (subst (λ k. lock_rule k l.held l.asked ≡ false) l.asks.0 l.conflict))
          (subst (λ k. holders s k l.held q l.what ≡ true) l.asks.0 l.holding),
    )
    by (inr l) = absurd l

    lock : (z : ℕ) → LowestFrom x s z → holders s L.group strong q z ≡ true → LongLock r s (take x) q
    lock z f h = record { kind = L.group; asked = weak; held = strong; what = z; asks = (refl, f, refl); holding = h; conflict = refl }
