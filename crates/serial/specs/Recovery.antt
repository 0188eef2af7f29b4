-- Recover as many events (M-105): an abort of each unfinished session that was not asked; and that a session which is not unfinished has finished nothing.
use Rattle.std.specs.Prelude.{◌≡◌, refl, Bool, true, false, cond, not, ◌&&◌, List, [], ◌∷◌, ◌++◌, map, ◌⊎◌, ℕ, zero, suc, ◌+◌, ◌≤◌, ◌<◌, eqb, T}
use Rattle.std.proofs.Common.{sym, ◌∙◌, ap, subst, inl, inr, arith}
use Rattle.std.proofs.Math.Option.{none}
use Rattle.std.proofs.Math.Decide.{ℕ_discrete}
use Rattle.std.proofs.Math.Dec.{eqb_refl}
use Rattle.serial.specs.Serial.{put, put_same, put_other, put-cases, true≢false, In, Log, undo, undo-cong, undo-append, Event, hstep, hist, Hist, none_yet}
use Rattle.serial.specs.Serial as S
use Rattle.serial.specs.Model.{Item}
use Rattle.serial.specs.Footprints.{store}
use Rattle.serial.specs.Locks.{Kind, Mode, Table}
use Rattle.serial.specs.LockMachine.{Store, Stays, Act, Acts, still, Aborted}
use Rattle.serial.specs.LockMachine as M
use Rattle.serial.specs.Calls.{Call, format, begin, commit, abort, ask, recover, step, Answer, ok, more, wait, done, refused, Turn, Told, nothing, take_in_hand, ends_request, tell_ok, tell_done, tell_refused, tell_answer, tell, told, recovered, Machine, Run, stop, next, Knows, Moves, Anew, Laws}
use Rattle.serial.specs.Calls as C

-- f at p, then at each of the n - 1 numbers after it.
abbrev pub each : {X : Type 0} → (ℕ → X → X) → ℕ → ℕ → X → X
each f zero p x = x
each f (suc n) p x = each f n (suc p) (f p x)

pub in? : (s : ℕ) (l : List ℕ) → In s l ⊎ (¬ In s l)
in? s [] = inr (λ i. i)
in? s (y ∷ l) = at (ℕ_discrete s y) (in? s l)
  where
    at : Dec (s ≡ y) → In s l ⊎ (¬ In s l) → In s (y ∷ l) ⊎ (¬ In s (y ∷ l))
    at (yes e) r = inl (inl e)
    at (no n) (inl i) = inl (inr i)
    at (no n) (inr j) = inr (λ z. neither z)
      where
        neither : In s (y ∷ l) → ⊥
        neither (inl e) = n e
        neither (inr i) = j i

-- ---- the history

module _ (T : Table) where
  -- ---- a session that is not unfinished has finished nothing

  abbrev pub Idle : Hist store → Store → Type 0
  Idle h x = (s : ℕ) → x.begun s ≡ false → h.current s ≡ []

  -- Session s ends, or begins: it has finished nothing; the others are as they were.
  idle-put : (h : Hist store) (x y : Store) (s : ℕ) → ((t : ℕ) → ¬ (s ≡ t) → y.begun t ≡ x.begun t) → Idle h x → (t : ℕ) → y.begun t ≡ false → put h.current s [] t ≡ []
  idle-put h x y s e i = put-cases (λ t l. y.begun t ≡ false → l ≡ []) h.current s [] (λ b. refl) (λ t n b. i t (sym (e t n) ∙ b))

  act-idle : (e : Event store) (h : Hist store) (x y : Store) → Act T e x y → Idle h x → Idle (hstep store e h) y
  act-idle (S.begin s) h x y a i = idle-put h x y s a.begun_others i
  act-idle (S.grow s) h x y a i = λ t b. i t (sym (a.begun_same t) ∙ b)
  act-idle (S.commit s) h x y a i = idle-put h x y s a.ended.begun_others i
  act-idle (S.abort s) h x y a i = idle-put h x y s a.ended.begun_others i
  act-idle (S.finish s r b) h x y a i = put-cases (λ t l. y.begun t ≡ false → l ≡ []) h.current s (h.current s ++ ((r, b) ∷ []))
      (λ q. absurd (true≢false a.was (sym (a.begun_same s) ∙ q))) (λ t n q. i t (sym (a.begun_same t) ∙ q))
  act-idle S.quiet h x y a i = λ t b. i t (sym (a.begun_same t) ∙ b)

  pub acts-idle : {x y : Store} {es : List (Event store)} (h : Hist store) → Acts T x es y → Idle h x → Idle (hist store h es) y
  acts-idle h still i = i
  acts-idle h (M.more {x} {y} {z} {e} {es} a q) i = acts-idle (hstep store e h) q (act-idle e h x y a i)

  module _ (𝓢 : Machine) (𝓛 : Laws 𝓢 T) where
    open 𝓢 use {X, meaning}

    turn-idle : (t t' : Told) (x y : X) → Moves 𝓢 T t t' x y ⊎ Anew 𝓢 t' y → Idle t.past (meaning x) → Idle t'.past (meaning y)
    turn-idle t t' x y (inl m) i = subst (λ h. Idle h (meaning y)) (sym m.as_told) (acts-idle t.past m.moved i)
    turn-idle t t' x y (inr a) i = subst (λ h. Idle h (meaning y)) (sym a.nothing_told) (λ s b. refl)

    run-idle : {x y : X} {ks : List Turn} (t : Told) → Run 𝓢 x ks y → Knows 𝓢 t x → Idle t.past (meaning x) → Knows 𝓢 (told t ks) y × Idle (told t ks).past (meaning y)
    run-idle t stop w i = (w, i)
    run-idle t (next {x} {y} {z} {k} {ks} d r) w i = run-idle (tell k t) r (𝓛.knows k x y t d w) (turn-idle t (tell k t) x y (𝓛.moves k x y t d w) i)

    -- Of any list of calls from a store of which nothing is told: a session that is not unfinished has finished nothing.
    pub idle-told : (x y : X) (ks : List Turn) → Knows 𝓢 nothing x → Run 𝓢 x ks y → (s : ℕ) → (told nothing ks).unfinished s ≡ false → (told nothing ks).past.current s ≡ []
    idle-told x y ks w r s e = let q = run-idle nothing r w (λ s b. refl) in q.1 s (q.0.begun_told s ∙ e)

  -- ---- recover's aborts, one after another

  module _ {X : Type 0} (Sound : X → Type 0) (meaning : X → Store) (marked : X → ℕ → Bool) (f : ℕ → X → X) where
    -- The sessions that recover aborts: unfinished, and not asked.
    abbrev pub lapses : X → ℕ → Bool
    lapses x s = (meaning x).begun s && not (marked x s)

    -- The undo logs of sessions, one after another.
    abbrev pub logs : List ℕ → X → Log store
    logs [] x = []
    logs (s ∷ ss) x = (meaning x).log s ++ logs ss x

    -- f aborts a session that lapses, and does nothing to any other.
    pub record Lapse : Type 0 where
      pub sound : (p : ℕ) (x : X) → Sound x → lapses x p ≡ true → Sound (f p x)
      pub aborted : (p : ℕ) (x : X) → Sound x → lapses x p ≡ true → Aborted p (meaning x) (meaning (f p x))
      pub marks : (p : ℕ) (x : X) → Sound x → lapses x p ≡ true → (q : ℕ) → marked (f p x) q ≡ marked x q
      pub spares : (p : ℕ) (x : X) → lapses x p ≡ false → f p x ≡ x

    -- What is left of x when all of its sessions from p to below p + n that lapse have been aborted.
    pub record Lapsed (p n : ℕ) (x y : X) : Type 0 where
      pub who : List ℕ
      pub moved : Acts T (meaning x) (map S.abort who) (meaning y)
      pub lapse : (s : ℕ) → In s who → lapses x s ≡ true
      pub all : (s : ℕ) → p ≤ s → s < p + n → lapses x s ≡ true → In s who
      pub above : (s : ℕ) → In s who → p ≤ s
      pub off : (s : ℕ) → In s who → (meaning y).begun s ≡ false
      pub others : (s : ℕ) → (¬ In s who) → (meaning y).begun s ≡ (meaning x).begun s
      pub marks : (s : ℕ) → marked y s ≡ marked x s
      pub released : (s : ℕ) → In s who → (k : Kind) (m : Mode) (z : ℕ) → (meaning y).holds k m s z ≡ false
      pub stays : (s : ℕ) → (¬ In s who) → Stays s (meaning x) (meaning y)
      -- Every item is put back, session after session.
      pub put_back : (i : Item) → (meaning y).db i ≡ undo store (logs who x) (meaning x).db i
      pub sound : Sound y

    pub each-lapsed : Lapse → (n p : ℕ) (x : X) → Sound x → Lapsed p n x (each f n p x)
    each-lapsed L zero p x S = record {
      who = [];
      moved = still;
      lapse = λ s i. absurd i;
      all = λ s lo hi e. absurd (omega (arith, lo, hi));
      above = λ s i. absurd i;
      off = λ s i. absurd i;
      others = λ s n. refl;
      marks = λ s. refl;
      released = λ s i. absurd i;
      stays = λ s n. record { holds_kept = λ k m z. refl; log_kept = refl };
      put_back = λ i. refl;
      sound = S;
    }
    each-lapsed L (suc n) p x S = go (lapses x p) refl (λ y S. each-lapsed L n (suc p) y S)
      where
        go : (b : Bool) → lapses x p ≡ b → ((y : X) → Sound y → Lapsed (suc p) n y (each f n (suc p) y)) → Lapsed p (suc n) x (each f n (suc p) (f p x))
        go false e ih = subst (λ z. Lapsed p (suc n) x (each f n (suc p) z)) (sym (L.spares p x e)) (skip (ih x S))
          where
            skip : {y : X} → Lapsed (suc p) n x y → Lapsed p (suc n) x y
            skip r = record {
              who = r.who;
              moved = r.moved;
              lapse = r.lapse;
              all = λ s lo hi q. later s lo hi q (ℕ_discrete p s);
              above = λ s i. let h = r.above s i in omega (arith, h);
              off = r.off;
              others = r.others;
              marks = r.marks;
              released = r.released;
              stays = r.stays;
              put_back = r.put_back;
              sound = r.sound;
            }
              where
                later : (s : ℕ) → p ≤ s → s < p + suc n → lapses x s ≡ true → Dec (p ≡ s) → In s r.who
                later s lo hi q (yes w) = absurd (true≢false (ap (lapses x) w ∙ q) e)
                later s lo hi q (no w) = r.all s (omega (arith, lo, w)) (omega (arith, hi)) q
        go true e ih = record {
          who = p ∷ r.who;
          moved = M.more a r.moved;
          lapse = λ s i. was s i;
          all = λ s lo hi q. later s lo hi q (ℕ_discrete p s);
          above = λ s i. least s i;
          off = λ s i. gone s i (in? s r.who);
          others = λ s m. r.others s (λ i. m (inr i)) ∙ a.ended.begun_others s (λ w. m (inl (sym w)));
          marks = λ s. r.marks s ∙ L.marks p x S e s;
          released = λ s i. freed s i (in? s r.who);
          stays = λ s m.
              let u = r.stays s (λ i. m (inr i)) in
              let v = a.ended.others s (λ w. m (inl (sym w))) in
              record { holds_kept = λ k l z. u.holds_kept k l z ∙ v.holds_kept k l z; log_kept = u.log_kept ∙ v.log_kept };
          put_back = λ i. r.put_back i ∙ undo-cong store (logs r.who (f p x)) (meaning (f p x)).db (undo store ((meaning x).log p) (meaning x).db) i (a.db_undone i)
              ∙ ap (λ l. undo store l (undo store ((meaning x).log p) (meaning x).db) i) (same-logs r.who (λ s j. other s j))
              ∙ sym (undo-append store ((meaning x).log p) (logs r.who x) (meaning x).db i);
          sound = r.sound;
        }
          where
            a : Aborted p (meaning x) (meaning (f p x))
            a = L.aborted p x S e

            r : Lapsed (suc p) n (f p x) (each f n (suc p) (f p x))
            r = ih (f p x) (L.sound p x S e)

            other : (s : ℕ) → In s r.who → ¬ (p ≡ s)
            other s i w = let h = r.above s i in omega (arith, h, w)

            same-logs : (ss : List ℕ) → ((s : ℕ) → In s ss → ¬ (p ≡ s)) → logs ss (f p x) ≡ logs ss x
            same-logs [] h = refl
            same-logs (s ∷ ss) h = ap (λ l. l ++ logs ss (f p x)) (a.ended.others s (h s (inl refl))).log_kept ∙ ap (λ l. (meaning x).log s ++ l) (same-logs ss (λ q j. h q (inr j)))

            least : (s : ℕ) → In s (p ∷ r.who) → p ≤ s
            least s (inl w) = omega (arith, w)
            least s (inr i) = let h = r.above s i in omega (arith, h)

            freed : (s : ℕ) → In s (p ∷ r.who) → In s r.who ⊎ (¬ In s r.who) → (k : Kind) (m : Mode) (z : ℕ) → (meaning (each f n (suc p) (f p x))).holds k m s z ≡ false
            freed s z (inl i) = r.released s i
            freed s (inl w) (inr m) = λ k l z. (r.stays s m).holds_kept k l z ∙ ap (λ q. (meaning (f p x)).holds k l q z) w ∙ a.ended.holds_off k l z
            freed s (inr i) (inr m) = absurd (m i)

            same : (s : ℕ) → ¬ (p ≡ s) → lapses (f p x) s ≡ lapses x s
            same s m = ap (λ b. b && not (marked (f p x) s)) (a.ended.begun_others s m) ∙ ap (λ b. (meaning x).begun s && not b) (L.marks p x S e s)

            own : lapses (f p x) p ≡ false
            own = ap (λ b. b && not (marked (f p x) p)) a.ended.now

            was : (s : ℕ) → In s (p ∷ r.who) → lapses x s ≡ true
            was s (inl w) = ap (lapses x) w ∙ e
            was s (inr i) = at (ℕ_discrete p s)
              where
                at : Dec (p ≡ s) → lapses x s ≡ true
                at (yes w) = ap (lapses x) (sym w) ∙ e
                at (no m) = sym (same s m) ∙ r.lapse s i

            later : (s : ℕ) → p ≤ s → s < p + suc n → lapses x s ≡ true → Dec (p ≡ s) → In s (p ∷ r.who)
            later s lo hi q (yes w) = inl (sym w)
            later s lo hi q (no m) = inr (r.all s (omega (arith, lo, m)) (omega (arith, hi)) (same s m ∙ q))

            gone : (s : ℕ) → In s (p ∷ r.who) → In s r.who ⊎ (¬ In s r.who) → (meaning (each f n (suc p) (f p x))).begun s ≡ false
            gone s z (inl i) = r.off s i
            gone s (inl w) (inr m) = r.others s m ∙ ap (λ q. (meaning (f p x)).begun q) w ∙ a.ended.now
            gone s (inr i) (inr m) = absurd (m i)

    -- When all sessions of x are among 1 to n.
    module _ (n : ℕ) (x y : X) (in_range : (s : ℕ) → (meaning x).begun s ≡ true → (1 ≤ s) × (s ≤ n)) (r : Lapsed 1 n x y) where
      begun-of : (s : ℕ) → lapses x s ≡ true → (meaning x).begun s ≡ true
      begun-of s e = go ((meaning x).begun s) e
        where
          go : (b : Bool) → (b && not (marked x s)) ≡ true → b ≡ true
          go true q = refl
          go false q = q

      pub lapsed-listed : (s : ℕ) → lapses x s ≡ true → In s r.who
      lapsed-listed s e = let k = in_range s (begun-of s e) in r.all s k.0 (omega (arith, k.1)) e

      -- Exactly the sessions that are asked are left.
      pub lapsed-left : (s : ℕ) → (meaning y).begun s ≡ ((meaning x).begun s && marked x s)
      lapsed-left s = at (in? s r.who)
        where
          kept : (b m : Bool) → (b && not m) ≡ true → (b && m) ≡ false
          kept true true e = sym e
          kept true false e = refl
          kept false m e = refl

          stays : (b m : Bool) → ((b && not m) ≡ true → ⊥) → b ≡ (b && m)
          stays true true n = refl
          stays true false n = absurd (n refl)
          stays false m n = refl

          at : In s r.who ⊎ (¬ In s r.who) → (meaning y).begun s ≡ ((meaning x).begun s && marked x s)
          at (inl i) = r.off s i ∙ sym (kept ((meaning x).begun s) (marked x s) (r.lapse s i))
          at (inr m) = r.others s m ∙ stays ((meaning x).begun s) (marked x s) (λ e. m (lapsed-listed s e))

      -- A session that is asked is not aborted.
      pub lapsed-spared : (s : ℕ) → marked x s ≡ true → ¬ In s r.who
      lapsed-spared s e i = go ((meaning x).begun s) (marked x s) (r.lapse s i) e
        where
          go : (b m : Bool) → (b && not m) ≡ true → m ≡ true → ⊥
          go true m q z = true≢false q (ap not z)
          go false m q z = true≢false q refl

      -- Told by t, whose sessions are those of x.
      module _ (t : Told) (begun_told : (s : ℕ) → (meaning x).begun s ≡ t.unfinished s) (asked_told : (s : ℕ) → marked x s ≡ t.asked s) where
        pub lapsed-begun : (s : ℕ) → (meaning y).begun s ≡ (recovered t).unfinished s
        lapsed-begun s = lapsed-left s ∙ ap (λ b. b && marked x s) (begun_told s) ∙ ap (λ b. t.unfinished s && b) (asked_told s)

-- ---- the promise of ask

abbrev pub told_ok : Answer → Bool
told_ok ok = true
told_ok more = false
told_ok (wait p) = false
told_ok (done ns) = false
told_ok (refused n b) = false

-- A commit or abort of session p, or a format.
abbrev pub closes : ℕ → Call → Bool
closes p (format m) = true
closes p (begin s) = false
closes p (commit s) = eqb s p
closes p (abort s) = eqb s p
closes p (ask s) = false
closes p recover = false
closes p (C.put q code e f g) = false
closes p (step q l) = false

-- None of these turns is an accepted commit or abort of session p, or an accepted format.
abbrev pub Unclosed : ℕ → List Turn → Type 0
Unclosed p [] = Unit {0}
Unclosed p (k ∷ ks) = ((told_ok k.answer && closes p k.call) ≡ false) × Unclosed p ks

eqb_apart : (s p : ℕ) → eqb s p ≡ false → ¬ (s ≡ p)
eqb_apart s p n e = true≢false (subst (λ q. eqb s q ≡ true) e (T_true (eqb s s) (eqb_refl s))) n
  where
    T_true : (b : Bool) → T b → b ≡ true
    T_true true h = refl
    T_true false h = absurd h

-- What is told of an accepted call that does not close p: p is asked still.
asked-stays : (p : ℕ) (c : Call) (t : Told) → closes p c ≡ false → t.asked p ≡ true → (tell_ok c t).asked p ≡ true
asked-stays p (format m) t n e = absurd (true≢false refl n)
asked-stays p (begin s) t n e = e
asked-stays p (commit s) t n e = put_other t.asked s false p (eqb_apart s p n) ∙ e
asked-stays p (abort s) t n e = put_other t.asked s false p (eqb_apart s p n) ∙ e
asked-stays p (ask s) t n e = put-cases (λ q b. t.asked q ≡ true → b ≡ true) t.asked s true (λ z. refl) (λ q m z. z) p e
asked-stays p recover t n e = e
asked-stays p (C.put q code a f g) t n e = e
asked-stays p (step q l) t n e = e

tell-stays : (p : ℕ) (c : Call) (a : Answer) (l : List ℕ) (t : Told) → (told_ok a && closes p c) ≡ false → t.asked p ≡ true → (tell_answer c a l t).asked p ≡ true
tell-stays p c ok l t n e = asked-stays p c t n e
tell-stays p c more l t n e = e
tell-stays p c (wait q) l t n e = e
tell-stays p c (done ns) l t n e = done-stays c
  where
    done-stays : (c : Call) → (tell_done c ns l t).asked p ≡ true
    done-stays (format m) = e
    done-stays (begin s) = e
    done-stays (commit s) = e
    done-stays (abort s) = e
    done-stays (ask s) = e
    done-stays recover = e
    done-stays (C.put q code a f g) = e
    done-stays (step q l₀) = e
tell-stays p c (refused i b) l t n e = refused-stays c
  where
    dropped : (b : Bool) (q : ℕ) → (cond b (take_in_hand q none t) t).asked p ≡ true
    dropped true q = e
    dropped false q = e

    refused-stays : (c : Call) → (tell_refused c i t).asked p ≡ true
    refused-stays (format m) = e
    refused-stays (begin s) = e
    refused-stays (commit s) = e
    refused-stays (abort s) = e
    refused-stays (ask s) = e
    refused-stays recover = e
    refused-stays (C.put q code a f g) = e
    refused-stays (step q l₀) = dropped (ends_request i) q

pub told-stays : (p : ℕ) (ks : List Turn) (t : Told) → Unclosed p ks → t.asked p ≡ true → (told t ks).asked p ≡ true
told-stays p [] t u e = e
told-stays p (k ∷ ks) t u e = told-stays p ks (tell k t) u.1 (tell-stays p k.call k.answer k.list t u.0 e)

-- By calls and answers alone: an ask of session p was accepted, and since then no commit or abort of p, and no format.
pub record AskedSince (p : ℕ) (ks : List Turn) : Type 0 where
  pub before : List Turn
  pub asking : Turn
  pub after : List Turn
  pub in_turn : ks ≡ before ++ asking ∷ after
  pub called : asking.call ≡ ask p
  pub accepted : asking.answer ≡ ok
  pub unclosed : Unclosed p after

told-cut : (t : Told) (ks js : List Turn) → told t (ks ++ js) ≡ told (told t ks) js
told-cut t [] js = refl
told-cut t (k ∷ ks) js = told-cut (tell k t) ks js

pub asked-since : (p : ℕ) (ks : List Turn) (t : Told) → AskedSince p ks → (told t ks).asked p ≡ true
asked-since p ks t A =
    let u = told t A.before in
    ap (λ js. (told t js).asked p) A.in_turn ∙ ap (λ v. v.asked p) (told-cut t A.before (A.asking ∷ A.after))
    ∙ told-stays p A.after (tell A.asking u) A.unclosed
    (ap (λ q. (tell_answer A.asking.call q A.asking.list u).asked p) A.accepted ∙ ap (λ q. (tell_ok q u).asked p) A.called ∙ put_same u.asked p true)

module _ (T : Table) (𝓢 : Machine) (𝓛 : Laws 𝓢 T) where
  open 𝓢 use {X, Does}

  pub run-knows : {x y : X} {ks : List Turn} (t : Told) → Run 𝓢 x ks y → Knows 𝓢 t x → Knows 𝓢 (told t ks) y
  run-knows t stop w = w
  run-knows t (next {x} {y} {z} {k} {ks} d r) w = run-knows (tell k t) r (𝓛.knows k x y t d w)

  -- From an accepted ask of session p on, whatever is called, recover too, until an accepted commit or abort of p (or a format): a commit of p is accepted.
  pub ask-promise : (p : ℕ) (t : Told) (x y z : X) (ks : List Turn) (j : Turn) → Knows 𝓢 t x → Run 𝓢 x ks y → AskedSince p ks → j.call ≡ commit p → Does y j z → j.answer ≡ ok
  ask-promise p t x y z ks j w r A e d = let v = run-knows t r w in 𝓛.commit_ok p j y z e d v.sound (v.asked_told p ∙ asked-since p ks t A)
