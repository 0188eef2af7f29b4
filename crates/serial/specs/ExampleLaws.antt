-- The small machine of Example meets the laws of Calls, and so Demand 3: its locks agree, its undo of a database is the undo item by item, and its
-- answers tell the model's.
use Rattle.std.specs.Prelude.{◌≡◌, refl, Bool, true, false, cond, not, ◌&&◌, List, [], ◌∷◌, ◌++◌, ◌⊎◌, ℕ, zero, suc, ◌≤◌, min, max, leb, T}
use Rattle.std.proofs.Common.{sym, ◌∙◌, ap, subst, inl, inr, arith, leb→le}
use Rattle.std.proofs.Math.Option.{Option, none, some, some-injective, none-ne-some, some-ne-none}
use Rattle.std.proofs.Math.Decide.{ℕ_discrete}
use Rattle.serial.specs.Serial.{pick, pick_yes, pick_no, put, put_same, put_other, put-cases, true≢false, not-true, Log, set, undo, undo-cong, Event, Hist, hstep}
use Rattle.serial.specs.Serial as S
use Rattle.serial.specs.Model.{Db, Req, read, write, insert, remove, locate, request_of, Item, value, cell, Item-discrete, get}
use Rattle.serial.specs.Footprints.{Good, eff_good, frame, store, cell-inserted, cell-removed}
use Rattle.serial.specs.Locks.{Kind, entry, group, Mode, weak, strong, lock_rule, Agree, Needs, undo_of}
use Rattle.serial.specs.LockMachine as M
use Rattle.serial.specs.Calls.{ok, Asked, Told, nothing, tell_answer, tell_refused, tell_ok, fed, finished, ends_request, take_in_hand, answer_of, Knows, Moves, Anew}
use Rattle.serial.specs.Calls as C
use Rattle.serial.specs.Recovery.{each}
use Rattle.serial.specs.Example.{Span, Lock, kind?, Covers, covers?, holds, meet?, conflicts, blocker, lock, taken, released, on, wanted, put_back, undone, State, meaning, blank, opened, handed, ended, fixed, lapse, session, active, empty_hand, Check, checks, first_failed, call, Bit, Bits, Sound, Result, example}

-- ---- the locks agree

pub pick_true : {A : Type 0} {b : Bool} (d : Dec A) → pick d true b ≡ true → A ⊎ (b ≡ true)
pick_true (yes a) h = inl a
pick_true (no n) h = inr h

pub lock-rule-sym : (k : Kind) (m n : Mode) → lock_rule k m n ≡ true → lock_rule k n m ≡ true
lock-rule-sym entry weak weak h = h
lock-rule-sym entry weak strong h = h
lock-rule-sym entry strong weak h = h
lock-rule-sym entry strong strong h = h
lock-rule-sym group weak weak h = h
lock-rule-sym group weak strong h = h
lock-rule-sym group strong weak h = h
lock-rule-sym group strong strong h = h

pub not-flip : (b c : Bool) → not b ≡ c → b ≡ not c
not-flip true true h = sym h
not-flip true false h = refl
not-flip false true h = refl
not-flip false false h = sym h

-- No lock of the list is in the way of s.
abbrev pub Clear : ℕ → Span → List Lock → Type 0
Clear s w ls = (k : Kind) (n m : Mode) (t x : ℕ) → holds ls k n t x ≡ true → Covers (lock s w) k m s x → (t ≡ s) ⊎ (lock_rule k n m ≡ true)

clear-one : (s : ℕ) (w : Span) (h : Lock) → conflicts h s w ≡ false → (k : Kind) (n m : Mode) (t x : ℕ)
    → Covers h k n t x → Covers (lock s w) k m s x → (t ≡ s) ⊎ (lock_rule k n m ≡ true)
clear-one s w h f k n m t x c d = at (ℕ_discrete h.holder s) (kind? h.span.kind w.kind) (meet? h.span w) f
  where
    at : (p : Dec (h.holder ≡ s)) (q : Dec (h.span.kind ≡ w.kind)) (r : Dec (max h.span.lo w.lo ≤ min h.span.hi w.hi))
        → pick p false (pick q (pick r (not (lock_rule w.kind h.span.mode w.mode)) false) false) ≡ false → (t ≡ s) ⊎ (lock_rule k n m ≡ true)
    at (yes e) q r z = inl (sym c.1.0 ∙ e)
    at (no a) (yes e) (yes b) z = inr (let y : lock_rule w.kind h.span.mode w.mode ≡ true = not-flip (lock_rule w.kind h.span.mode w.mode) false z in cc)
    at (no a) (yes e) (no b) z = absurd (b (omega arith))
    at (no a) (no b) r z = absurd (b (c.0.0 ∙ sym d.0.0))

pub clear_none : (s : ℕ) (w : Span) (ls : List Lock) → blocker s w ls ≡ none → Clear s w ls
clear_none s w [] e k n m t x h c = absurd (true≢false h refl)
clear_none s w (l ∷ ls) e k n m t x h c = at (conflicts l s w) refl e (λ q. clear_none s w ls q k n m t x)
  where
    at : (b : Bool) → conflicts l s w ≡ b → cond b (some l.holder) (blocker s w ls) ≡ none
        → (blocker s w ls ≡ none → holds ls k n t x ≡ true → Covers (lock s w) k m s x → (t ≡ s) ⊎ (lock_rule k n m ≡ true))
        → (t ≡ s) ⊎ (lock_rule k n m ≡ true)
    at true f q rest = absurd (some-ne-none l.holder q)
    at false f q rest = by (pick_true (covers? l k n t x) h)
      where
        by : Covers l k n t x ⊎ (holds ls k n t x ≡ true) → (t ≡ s) ⊎ (lock_rule k n m ≡ true)
        by (inl d) = clear-one s w l f k n m t x d c
        by (inr d) = rest q d c

-- The other locks that s takes are its own.
taken-cases : (s : ℕ) (ws : List Span) (ls : List Lock) (k : Kind) (n : Mode) (t x : ℕ) → holds (taken s ws ls) k n t x ≡ true → (t ≡ s) ⊎ (holds ls k n t x ≡ true)
taken-cases s [] ls k n t x h = inr h
taken-cases s (w ∷ ws) ls k n t x h = at (pick_true (covers? (lock s w) k n t x) h) (taken-cases s ws ls k n t x)
  where
    at : Covers (lock s w) k n t x ⊎ (holds (taken s ws ls) k n t x ≡ true) → (holds (taken s ws ls) k n t x ≡ true → (t ≡ s) ⊎ (holds ls k n t x ≡ true))
        → (t ≡ s) ⊎ (holds ls k n t x ≡ true)
    at (inl c) rest = inl (sym c.1.0)
    at (inr q) rest = rest q

pub clear-taken : (s : ℕ) (w : Span) (ws : List Span) (ls : List Lock) → Clear s w ls → Clear s w (taken s ws ls)
clear-taken s w ws ls f k n m t x h c = at (taken-cases s ws ls k n t x h)
  where
    at : (t ≡ s) ⊎ (holds ls k n t x ≡ true) → (t ≡ s) ⊎ (lock_rule k n m ≡ true)
    at (inl e) = inl e
    at (inr q) = f k n m t x q c

-- Others keep what they hold, and a session's own grow.
pub taken-other : (s : ℕ) (ws : List Span) (ls : List Lock) (k : Kind) (m : Mode) (t x : ℕ) → ¬ (s ≡ t) → holds (taken s ws ls) k m t x ≡ holds ls k m t x
taken-other s [] ls k m t x n = refl
taken-other s (w ∷ ws) ls k m t x n = pick_no (covers? (lock s w) k m t x) true (holds (taken s ws ls) k m t x) (λ c. n c.1.0) ∙ taken-other s ws ls k m t x n

holds_more : (l : Lock) (ls : List Lock) (k : Kind) (m : Mode) (s x : ℕ) → holds ls k m s x ≡ true → holds (l ∷ ls) k m s x ≡ true
holds_more l ls k m s x h = at (covers? l k m s x)
  where
    at : (d : Dec (Covers l k m s x)) → pick d true (holds ls k m s x) ≡ true
    at (yes c) = refl
    at (no n) = h

pub taken_more : (s : ℕ) (ws : List Span) (ls : List Lock) (k : Kind) (m : Mode) (t x : ℕ) → holds ls k m t x ≡ true → holds (taken s ws ls) k m t x ≡ true
taken_more s [] ls k m t x h = h
taken_more s (w ∷ ws) ls k m t x h = holds_more (lock s w) (taken s ws ls) k m t x (taken_more s ws ls k m t x h)

pub holds-first : (s : ℕ) (w : Span) (ls : List Lock) (x : ℕ) → w.lo ≤ x → x ≤ w.hi → holds (lock s w ∷ ls) w.kind w.mode s x ≡ true
holds-first s w ls x p q = pick_yes (covers? (lock s w) w.kind w.mode s x) true (holds ls w.kind w.mode s x) ((refl, refl), (refl, (p, q)))

pub strong-pair : (s e k : ℕ) (ls : List Lock) → Needs (holds (taken s (wanted (insert e k)) ls)) s (insert e k)
strong-pair s e k ls = (
  holds-first s (on group strong k k) (lock s (on entry strong e e) ∷ ls) k (omega arith) (omega arith),
  holds_more (lock s (on group strong k k)) (lock s (on entry strong e e) ∷ ls) entry strong s e (holds-first s (on entry strong e e) ls e (omega arith) (omega arith)),
)

released-off : (s : ℕ) (ls : List Lock) (k : Kind) (m : Mode) (x : ℕ) → holds (released s ls) k m s x ≡ false
released-off s [] k m x = refl
released-off s (l ∷ ls) k m x = at (ℕ_discrete l.holder s) (released-off s ls k m x)
  where
    at : (d : Dec (l.holder ≡ s)) → holds (released s ls) k m s x ≡ false → holds (pick d (released s ls) (l ∷ released s ls)) k m s x ≡ false
    at (yes e) h = h
    at (no n) h = pick_no (covers? l k m s x) true (holds (released s ls) k m s x) (λ c. n c.1.0) ∙ h

released-other : (s : ℕ) (ls : List Lock) (k : Kind) (m : Mode) (t x : ℕ) → ¬ (s ≡ t) → holds (released s ls) k m t x ≡ holds ls k m t x
released-other s [] k m t x n = refl
released-other s (l ∷ ls) k m t x n = at (ℕ_discrete l.holder s) (released-other s ls k m t x n)
  where
    at : (d : Dec (l.holder ≡ s)) → holds (released s ls) k m t x ≡ holds ls k m t x → holds (pick d (released s ls) (l ∷ released s ls)) k m t x ≡ holds (l ∷ ls) k m t x
    at (yes e) h = h ∙ sym (pick_no (covers? l k m t x) true (holds ls k m t x) (λ c. n (sym e ∙ c.1.0)))
    at (no a) h = rw h refl

agree-released : (s : ℕ) (ls : List Lock) → Agree lock_rule (holds ls) → Agree lock_rule (holds (released s ls))
agree-released s ls A k m n u v x p q = A k m n u v x (was m u p (ℕ_discrete s u)) (was n v q (ℕ_discrete s v))
  where
    was : (a : Mode) (t : ℕ) → holds (released s ls) k a t x ≡ true → Dec (s ≡ t) → holds ls k a t x ≡ true
    was a t h (yes e) = absurd (true≢false h (subst (λ z. holds (released s ls) k a z x ≡ false) e (released-off s ls k a x)))
    was a t h (no d) = sym (released-other s ls k a t x d) ∙ h

-- ---- the undo log on a database is the undo log item by item

put-back-good : (i : Item) (v : ℕ) (d : Db) → Good d → Good (put_back i v d)
put-back-good (value e) v d g = eff_good (write e v) d g
put-back-good (cell k e) zero d g = eff_good (remove e k) d g
put-back-good (cell k e) (suc n) d g = eff_good (insert e k) d g

put-back-get : (i : Item) (v : ℕ) (d : Db) → Good d → Bit i v → (j : Item) → get (put_back i v d) j ≡ set store (get d) i v j
put-back-get i v d g b j = at (Item-discrete ℕ_discrete i j)
  where
    same : (h : Item) (a : ℕ) → Bit h a → get (put_back h a d) h ≡ a
    same (value e) a c = pick_yes (ℕ_discrete e e) a (d.values e) refl
    same (cell k e) zero c = cell-removed e k d
    same (cell k e) (suc n) c = cell-inserted e k d ∙ omega arith

    other : (h : Item) (a : ℕ) → ¬ (h ≡ j) → get (put_back h a d) j ≡ get d j
    other (value e) a n = frame (write e a) d g j (λ q. n (sym q))
    other (cell k e) zero n = frame (remove e k) d g j (λ q. n (sym q))
    other (cell k e) (suc m) n = frame (insert e k) d g j (λ q. n (sym q))

    at : (c : Dec (i ≡ j)) → get (put_back i v d) j ≡ pick c v (get d j)
    at (yes e) = ap (get (put_back i v d)) (sym e) ∙ same i v b
    at (no n) = other i v n

pub undone-good : (l : Log store) (d : Db) → Good d → Good (undone l d)
undone-good [] d g = g
undone-good (u ∷ l) d g = undone-good l (put_back u.0 u.1 d) (put-back-good u.0 u.1 d g)

undone-get : (l : Log store) (d : Db) → Good d → Bits l → (i : Item) → get (undone l d) i ≡ undo store l (get d) i
undone-get [] d g b i = refl
undone-get (u ∷ l) d g b i = undone-get l (put_back u.0 u.1 d) (put-back-good u.0 u.1 d g) b.1 i
    ∙ undo-cong store l (get (put_back u.0 u.1 d)) (set store (get d) u.0 u.1) i (put-back-get u.0 u.1 d g b.0 i)

pub bits-append : (a b : Log store) → Bits a → Bits b → Bits (a ++ b)
bits-append [] b p q = q
bits-append (u ∷ a) b p q = (p.0, bits-append a b p.1 q)

bits-pick : {A : Type 0} (c : Dec A) (a b : Log store) → Bits a → Bits b → Bits (pick c a b)
bits-pick (yes h) a b p q = p
bits-pick (no h) a b p q = q

pub bits-undo : (r : Req) (d : Db) → Bits (undo_of r d)
bits-undo (read e) d = tt
bits-undo (write e v) d = (tt, tt)
bits-undo (insert e k) d = bits-pick (ℕ_discrete (get d (cell k e)) 0) ((cell k e, 0) ∷ []) [] (omega arith, tt) tt
bits-undo (remove e k) d = bits-pick (ℕ_discrete (get d (cell k e)) 0) [] ((cell k e, 1) ∷ []) tt (omega arith, tt)
bits-undo (locate lo hi) d = tt

-- ---- the laws

abbrev pub Kept : Told → Told → State → State → Type 0
Kept t t' x y = Knows example t' y × (Moves example lock_rule t t' x y ⊎ Anew example t' y)

pub put_map : {B : Type 0} (f g : ℕ → B) (s : ℕ) (b : B) → ((u : ℕ) → f u ≡ g u) → (u : ℕ) → put f s b u ≡ put g s b u
put_map f g s b h u = ap (λ z. pick (ℕ_discrete s u) b z) (h u)

abbrev pub Passed : List Check → Type 0
Passed [] = Unit {0}
Passed (c ∷ cs) = (c.0 ≡ true) × Passed cs

pub all-passed : (cs : List Check) → first_failed cs ≡ none → Passed cs
all-passed [] e = tt
all-passed (c ∷ cs) e = at c.0 refl e (all-passed cs)
  where
    at : (b : Bool) → c.0 ≡ b → cond b (first_failed cs) (some c.1) ≡ none → (first_failed cs ≡ none → Passed cs) → Passed (c ∷ cs)
    at true f q rest = (f, rest q)
    at false f q rest = absurd (some-ne-none c.1 q)

-- No check's refusal ends a request.
pub refused-told : (c : C.Call) (x : State) (t : Told) (n : ℕ) → first_failed (checks c x) ≡ some n → tell_refused c n t ≡ t
refused-told (C.format m) x t n e = refl
refused-told (C.begin s) x t n e = refl
refused-told (C.put p code a f g) x t n e = refl
refused-told (C.commit s) x t n e = refl
refused-told (C.abort s) x t n e = refl
refused-told (C.ask s) x t n e = refl
refused-told C.recover x t n e = refl
refused-told (C.step p l) x t n e = at (leb p 16) (active x p) e
  where
    at : (a b : Bool) → cond a (cond b none (some 5)) (some 4) ≡ some n → cond (ends_request n) (take_in_hand p none t) t ≡ t
    at true true q = absurd (none-ne-some n q)
    at true false q = subst (λ z. cond (ends_request z) (take_in_hand p none t) t ≡ t) (some-injective 5 n q) refl
    at false b q = subst (λ z. cond (ends_request z) (take_in_hand p none t) t ≡ t) (some-injective 4 n q) refl

pub blank-knows : Knows example nothing blank
blank-knows = record {
  sound = record { good = tt; sessions = λ s h. absurd (true≢false h refl); agree = λ k m n s u z p q. absurd (true≢false p refl); bits = λ s. tt; only_asked = λ s h. absurd (true≢false h refl) };
  hand_told = λ p. refl;
  begun_told = λ s. refl;
  asked_told = λ s. refl;
}

pub blank-formatted : M.Formatted (meaning blank)
blank-formatted = record { no_values = M.get-empty; no_holds = λ k m s z. refl; no_log = λ s. refl }

-- One event of the lock machine.
pub by-event : (t t' : Told) (x y : State) (e : Event store) → M.Act lock_rule e (meaning x) (meaning y) → t'.past ≡ hstep store e t.past
    → Moves example lock_rule t t' x y ⊎ Anew example t' y
by-event t t' x y e a h = inl (record { events = e ∷ []; moved = M.more a M.still; as_told = h })

-- The end of a session.
module _ (x : State) (S : Sound x) where
  pub ended-sound : (s : ℕ) (d : Db) → Good d → Sound (ended s d x)
  ended-sound s d g = record {
    good = g;
    sessions = put-cases (λ u b. b ≡ true → session u ≡ true) x.begun s false (λ q. absurd (true≢false q refl)) (λ u m. S.sessions u);
    agree = agree-released s x.locks S.agree;
    bits = put-cases (λ u l. Bits l) x.log s [] tt (λ u m. S.bits u);
    only_asked = λ u h. other u h (ℕ_discrete s u);
  }
    where
      other : (u : ℕ) → put x.asked s false u ≡ true → Dec (s ≡ u) → (put x.begun s false u ≡ true) × (put x.hands s none u ≡ none)
      other u h (yes e) = absurd (true≢false h (subst (λ z. put x.asked s false z ≡ false) e (put_same x.asked s false)))
      other u h (no n) =
          let q = S.only_asked u (sym (put_other x.asked s false u n) ∙ h) in
          (put_other x.begun s false u n ∙ q.0, put_other x.hands s none u n ∙ q.1)

  ended-acts : (s : ℕ) (d : Db) → x.begun s ≡ true → M.Ended s (meaning x) (meaning (ended s d x))
  ended-acts s d e = record {
    was = e;
    now = put_same x.begun s false;
    holds_off = λ k m z. released-off s x.locks k m z;
    log_off = put_same x.log s [];
    others = λ u n. record { holds_kept = λ k m z. released-other s x.locks k m u z n; log_kept = put_other x.log s [] u n };
    begun_others = λ u n. put_other x.begun s false u n;
  }

  pub abort-acts : (s : ℕ) → x.begun s ≡ true → M.Aborted s (meaning x) (meaning (ended s (undone (x.log s) x.now) x))
  abort-acts s e = record {
    ended = ended-acts s (undone (x.log s) x.now) e;
    db_undone = λ i. undone-get (x.log s) x.now S.good (S.bits s) i;
  }

-- ---- recover

pub lapses-begun : (s : ℕ) (x : State) → (x.begun s && not (x.asked s)) ≡ true → (x.begun s ≡ true) × (x.asked s ≡ false)
lapses-begun s x e = at (x.begun s) (x.asked s) e
  where
    at : (a b : Bool) → (a && not b) ≡ true → (a ≡ true) × (b ≡ false)
    at true true q = (refl, sym q)
    at true false q = (refl, refl)
    at false b q = (q, not-true b (λ z. true≢false q refl))

pub lapse-is : (s : ℕ) (x : State) → (x.begun s && not (x.asked s)) ≡ true → lapse s x ≡ ended s (undone (x.log s) x.now) x
lapse-is s x e = ap (λ b. cond b (ended s (undone (x.log s) x.now) x) x) e

no-hand : (o : Option Asked) → empty_hand o ≡ true → o ≡ none
no-hand none e = refl
no-hand (some a) e = absurd (true≢false e refl)

-- No lapse puts a request in hand.
pub each-empty : (n p : ℕ) (x : State) → ((q : ℕ) → x.hands q ≡ none) → (q : ℕ) → (each lapse n p x).hands q ≡ none
each-empty zero p x h q = h q
each-empty (suc n) p x h q = each-empty n (suc p) (lapse p x) (λ u. at (x.begun p && not (x.asked p)) u) q
  where
    at : (b : Bool) (u : ℕ) → (cond b (ended p (undone (x.log p) x.now) x) x).hands u ≡ none
    at true u = put-cases (λ v a. a ≡ none) x.hands p none refl (λ v n. h v) u
    at false u = h u

pub session-range : (s : ℕ) → session s ≡ true → (1 ≤ s) × (s ≤ 16)
session-range s e = at (leb 1 s) refl (leb s 16) refl e
  where
    at : (a : Bool) → leb 1 s ≡ a → (b : Bool) → leb s 16 ≡ b → (a && b) ≡ true → (1 ≤ s) × (s ≤ 16)
    at true p true q z = (leb→le 1 s (subst T (sym p) tt), leb→le s 16 (subst T (sym q) tt))
    at true p false q z = absurd (true≢false z refl)
    at false p b q z = absurd (true≢false z refl)

module _ (t : Told) (x : State) (w : Knows example t x) where
  pub unchanged : Kept t t x x
  unchanged = (w, inl (record { events = []; moved = M.still; as_told = refl }))

  pub handed-kept : (p : ℕ) (a : Option Asked) → (x.asked p ≡ true → a ≡ none) → (h : Hist store) → h ≡ t.past
      → Kept t (record { past = h; unfinished = t.unfinished; hands = put t.hands p a; asked = t.asked }) x (handed p a x)
  handed-kept p a z h e = (
    record {
      sound = record {
        good = w.sound.good;
        sessions = w.sound.sessions;
        agree = w.sound.agree;
        bits = w.sound.bits;
        only_asked = λ u q. ((w.sound.only_asked u q).0, put-cases (λ v o. x.asked v ≡ true → o ≡ none) x.hands p a z (λ v n i. (w.sound.only_asked v i).1) u q);
      };
      hand_told = put_map x.hands t.hands p a w.hand_told;
      begun_told = w.begun_told;
      asked_told = w.asked_told;
    },
    by-event t (record { past = h; unfinished = t.unfinished; hands = put t.hands p a; asked = t.asked }) x (handed p a x) S.quiet
        (record { stays = λ u. record { holds_kept = λ k m z. refl; log_kept = refl }; begun_same = λ u. refl; db_kept = λ i. refl }) e,
  )

  pub begin-kept : (s : ℕ) → session s ≡ true → not (x.begun s) ≡ true → Kept t (tell_ok (C.begin s) t) x (opened s x)
  begin-kept s e n = (
    record {
      sound = record {
        good = w.sound.good;
        sessions = put-cases (λ u b. b ≡ true → session u ≡ true) x.begun s true (λ q. e) (λ u m. w.sound.sessions u);
        agree = w.sound.agree;
        bits = w.sound.bits;
        only_asked = λ u q. (
          put-cases (λ v b. x.asked v ≡ true → b ≡ true) x.begun s true (λ i. refl) (λ v n i. (w.sound.only_asked v i).0) u q,
          put-cases (λ v o. x.asked v ≡ true → o ≡ none) x.hands s none (λ i. refl) (λ v n i. (w.sound.only_asked v i).1) u q,
        );
      };
      hand_told = put_map x.hands t.hands s none w.hand_told;
      begun_told = put_map x.begun t.unfinished s true w.begun_told;
      asked_told = w.asked_told;
    },
    by-event t (tell_ok (C.begin s) t) x (opened s x) (S.begin s)
        (record {
          was = not-flip (x.begun s) true n;
          now = put_same x.begun s true;
          begun_others = λ u m. put_other x.begun s true u m;
          stays = λ u. record { holds_kept = λ k m z. refl; log_kept = refl };
          db_kept = λ i. refl;
        }) refl,
  )

  -- Commit and abort.
  pub ended-knows : (s : ℕ) (d : Db) → Good d → (h : Hist store)
      → Knows example (record { past = h; unfinished = put t.unfinished s false; hands = put t.hands s none; asked = put t.asked s false }) (ended s d x)
  ended-knows s d g h = record {
    sound = ended-sound x w.sound s d g;
    hand_told = put_map x.hands t.hands s none w.hand_told;
    begun_told = put_map x.begun t.unfinished s false w.begun_told;
    asked_told = put_map x.asked t.asked s false w.asked_told;
  }

  pub commit-kept : (s : ℕ) → x.begun s ≡ true → Kept t (tell_ok (C.commit s) t) x (ended s x.now x)
  commit-kept s e = (
    ended-knows s x.now w.sound.good (hstep store (S.commit s) t.past),
    by-event t (tell_ok (C.commit s) t) x (ended s x.now x) (S.commit s) (record { ended = ended-acts x w.sound s x.now e; db_kept = λ i. refl }) refl,
  )

  pub ask-kept : (s : ℕ) → x.begun s ≡ true → empty_hand (x.hands s) ≡ true → Kept t (tell_ok (C.ask s) t) x (fixed s x)
  ask-kept s b o = (
    record {
      sound = record {
        good = w.sound.good;
        sessions = w.sound.sessions;
        agree = w.sound.agree;
        bits = w.sound.bits;
        only_asked = put-cases (λ u m. m ≡ true → (x.begun u ≡ true) × (x.hands u ≡ none)) x.asked s true (λ i. (b, no-hand (x.hands s) o)) (λ u n. w.sound.only_asked u);
      };
      hand_told = w.hand_told;
      begun_told = w.begun_told;
      asked_told = put_map x.asked t.asked s true w.asked_told;
    },
    by-event t (tell_ok (C.ask s) t) x (fixed s x) S.quiet
        (record { stays = λ u. record { holds_kept = λ k m z. refl; log_kept = refl }; begun_same = λ u. refl; db_kept = λ i. refl }) refl,
  )

  module _ (k : ℕ) (l : List ℕ) (q : Asked) (e : x.hands (suc k) ≡ some q) (b : x.begun (suc k) ≡ true) where
    abbrev pub After : Result → Type 0
    After r = Kept t (tell_answer (C.step (suc k) l) r.0 r.1 t) x r.2

    -- What a done step of the session feeds.
    pub done-told : (o : Option Req) → request_of q.code q.entry q.first q.second ≡ o → (ns ws : List ℕ)
        → finished (suc k) (t.hands (suc k)) ns ws t.past ≡ fed (suc k) o (answer_of q.code ns ws) t.past
    done-told o f ns ws =
        ap (λ z. finished (suc k) z ns ws t.past) (sym (w.hand_told (suc k)) ∙ e)
        ∙ ap (λ z. fed (suc k) z (answer_of q.code ns ws) t.past) f

pub abort-accepted : (s : ℕ) (x : State) → session s ≡ true → x.begun s ≡ true → (call (C.abort s) x).0 ≡ ok
abort-accepted s x p q = rw (p, q) refl

pub commit-accepted : (s : ℕ) (x : State) → Sound x → x.asked s ≡ true → (call (C.commit s) x).0 ≡ ok
commit-accepted s x S e = let q = S.only_asked s e in rw (S.sessions s q.0, q.0, q.1) refl
