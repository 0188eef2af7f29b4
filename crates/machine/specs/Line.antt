-- The order of begins over lists of calls: read off calls and answers alone, the begun sessions stand in a line, the one that began first in front; and by
-- their numbers they stand in the same line.
use Rattle.std.specs.Prelude.{◌≡◌, Bool, cond, not, ◌&&◌, ◌⊎◌, ◌<◌, ℕ, eqb}
use Rattle.std.proofs.Math.Path.{refl, subst, ap}
use Rattle.std.proofs.Common.{sym, ◌∙◌, arith}
use Rattle.std.proofs.Math.Bool.{true, false}
use mathlib.Core.List.{List, [], ◌∷◌, ◌++◌}
use Rattle.std.proofs.Math.Logic.{inl, inr}
use Rattle.std.proofs.Math.Option.{Option, none, some}
use Rattle.std.proofs.Math.Decide.{ℕ_discrete}
use Rattle.serial.specs.Serial.{true≢false, by_bool, In, Distinct}
use Rattle.serial.specs.Calls.{Told}
use Rattle.serial.specs.Calls as C
use Rattle.serial.specs.Line.{those, out_of, line_ok, line_answer, Before}
use Rattle.machine.specs.Logic.{not-false, eqb_is, eqb-not}
use Rattle.machine.specs.State.{Request, Session, State, Answer, ok, more, wait, done, refused, session_of, fresh}
use Rattle.machine.specs.Calls.{steps, commit_checks, abort_checks, commits, aborts, asks, recovers, is_asked}
use Rattle.machine.specs.Sound.{Sound, Passes}
use Rattle.machine.specs.Table.{tenure, as_asked, hand-seat, session-kept, session-same, leave_own, leave-other}
use Rattle.machine.specs.Checks.{session-number, party-seat}
use Rattle.machine.specs.Fresh.{fresh-session}
use Rattle.machine.specs.Hands.{step-handed}
use Rattle.machine.specs.Recover.{recovered, recovered-begun, recover-kept, abort-own, abort-other}
use Rattle.machine.specs.Begins.{Begun}
use Rattle.machine.specs.Demand.{Tells}

-- ---- the line and the numbers

pub record Lined (l : List ℕ) (s : State) : Type 0 where
  -- A session is begun exactly if it stands in the line,
  pub stands : (p : ℕ) → (session_of p s).begun ≡ true → In p l
  pub begun : (p : ℕ) → In p l → (session_of p s).begun ≡ true
  -- and of two begun sessions one has the lower number exactly if it stands before the other.
  pub before : (p q : ℕ) → (session_of p s).begun ≡ true → (session_of q s).begun ≡ true → (session_of p s).order < (session_of q s).order → Before p q l
  pub lower : (p q : ℕ) → Before p q l → (session_of p s).order < (session_of q s).order

-- Nobody stands in the line twice.
pub stands-once : (s : State) (l : List ℕ) → Lined l s → Distinct l
stands-once s l L = go l (λ p b. omega (arith, L.lower p p b))
  where
    go : (l : List ℕ) → ((p : ℕ) → ¬ Before p p l) → Distinct l
    go [] n = tt
    go (x ∷ l) n = ((λ i. n x (inl (refl, i))), go l (λ p b. n p (inr b)))

pub fresh-lined : (m r : ℕ) → Lined [] (fresh m r)
fresh-lined m r = record {
  stands = λ p b. absurd (true≢false b (ap (λ x. x.begun) (fresh-session m r p)));
  begun = λ p i. absurd i;
  before = λ p q b. absurd (true≢false b (ap (λ x. x.begun) (fresh-session m r p)));
  lower = λ p q b. absurd b;
}

-- ---- a line with one more at its end

in-front : (q p : ℕ) (l : List ℕ) → In q l → In q (l ++ p ∷ [])
in-front q p [] i = absurd i
in-front q p (x ∷ l) (inl e) = inl e
in-front q p (x ∷ l) (inr i) = inr (in-front q p l i)

at-end : (p : ℕ) (l : List ℕ) → In p (l ++ p ∷ [])
at-end p [] = inl refl
at-end p (x ∷ l) = inr (at-end p l)

in-longer : (q p : ℕ) (l : List ℕ) → In q (l ++ p ∷ []) → In q l ⊎ (q ≡ p)
in-longer q p [] (inl e) = inr e
in-longer q p [] (inr i) = absurd i
in-longer q p (x ∷ l) (inl e) = inl (inl e)
in-longer q p (x ∷ l) (inr i) = go (in-longer q p l i)
  where
    go : In q l ⊎ (q ≡ p) → In q (x ∷ l) ⊎ (q ≡ p)
    go (inl j) = inl (inr j)
    go (inr e) = inr e

before-in : (a b : ℕ) (l : List ℕ) → Before a b l → In a l × In b l
before-in a b [] h = absurd h
before-in a b (x ∷ l) (inl h) = (inl h.0, inr h.1)
before-in a b (x ∷ l) (inr h) = let i = before-in a b l h in (inr i.0, inr i.1)

before-front : (a b p : ℕ) (l : List ℕ) → Before a b l → Before a b (l ++ p ∷ [])
before-front a b p [] h = absurd h
before-front a b p (x ∷ l) (inl h) = inl (h.0, in-front b p l h.1)
before-front a b p (x ∷ l) (inr h) = inr (before-front a b p l h)

before-end : (a p : ℕ) (l : List ℕ) → In a l → Before a p (l ++ p ∷ [])
before-end a p [] i = absurd i
before-end a p (x ∷ l) (inl e) = inl (e, at-end p l)
before-end a p (x ∷ l) (inr i) = inr (before-end a p l i)

before-longer : (a b p : ℕ) (l : List ℕ) → Before a b (l ++ p ∷ []) → Before a b l ⊎ (In a l × (b ≡ p))
before-longer a b p [] (inl h) = absurd h.1
before-longer a b p [] (inr h) = absurd h
before-longer a b p (x ∷ l) (inl h) = go (in-longer b p l h.1)
  where
    go : In b l ⊎ (b ≡ p) → Before a b (x ∷ l) ⊎ (In a (x ∷ l) × (b ≡ p))
    go (inl i) = inl (inl (h.0, i))
    go (inr e) = inr (inl h.0, e)
before-longer a b p (x ∷ l) (inr h) = go (before-longer a b p l h)
  where
    go : Before a b l ⊎ (In a l × (b ≡ p)) → Before a b (x ∷ l) ⊎ (In a (x ∷ l) × (b ≡ p))
    go (inl i) = inl (inr i)
    go (inr e) = inr (inr e.0, e.1)

-- Session p begins, and stands at the end.
module _ (p : ℕ) (s t : State) (l : List ℕ) (L : Lined l s) (B : Begun p s t) where
  -- Who stood in the line is another, and begun as before.
  other : (q : ℕ) → In q l → ¬ (p ≡ q)
  other q i e = true≢false (L.begun q i) (subst (λ x. (session_of x s).begun ≡ false) e B.was)

  still : (q : ℕ) → In q l → (session_of q t).begun ≡ true
  still q i = B.marks_same q (other q i) ∙ L.begun q i

  -- Who is begun after it stood in the line, or is p.
  known : (q : ℕ) → (session_of q t).begun ≡ true → Dec (p ≡ q) → In q l ⊎ (q ≡ p)
  known q b (yes e) = inr (sym e)
  known q b (no n) = inl (L.stands q (sym (B.marks_same q n) ∙ b))

  pub begun-line : Lined (l ++ p ∷ []) t
  begun-line = record {
    stands = λ q b. stood q (known q b (ℕ_discrete p q));
    begun = λ q i. marked q (in-longer q p l i);
    before = λ a b u v. first a b (known a u (ℕ_discrete p a)) (known b v (ℕ_discrete p b));
    lower = λ a b h. less a b (before-longer a b p l h);
  }
    where
      stood : (q : ℕ) → In q l ⊎ (q ≡ p) → In q (l ++ p ∷ [])
      stood q (inl i) = in-front q p l i
      stood q (inr e) = subst (λ x. In x (l ++ p ∷ [])) (sym e) (at-end p l)

      marked : (q : ℕ) → In q l ⊎ (q ≡ p) → (session_of q t).begun ≡ true
      marked q (inl i) = still q i
      marked q (inr e) = subst (λ x. (session_of x t).begun ≡ true) (sym e) B.is

      last : (a : ℕ) → In a l → (session_of a t).order < (session_of p t).order
      last a i = B.last a (other a i) (still a i)

      first : (a b : ℕ) → In a l ⊎ (a ≡ p) → In b l ⊎ (b ≡ p) → (session_of a t).order < (session_of b t).order → Before a b (l ++ p ∷ [])
      first a b (inl i) (inl j) h = before-front a b p l (L.before a b (L.begun a i) (L.begun b j) (B.was_first a b (other a i) (other b j) (L.begun a i) (L.begun b j) h))
      first a b (inl i) (inr e) h = subst (λ x. Before a x (l ++ p ∷ [])) (sym e) (before-end a p l i)
      first a b (inr e) (inl j) h = absurd (omega (arith, subst (λ x. (session_of x t).order < (session_of b t).order) e h, last b j))
      first a b (inr e) (inr f) h = absurd (omega (arith, subst (λ x. (session_of x t).order < (session_of p t).order) e (subst (λ x. (session_of a t).order < (session_of x t).order) f h)))

      less : (a b : ℕ) → Before a b l ⊎ (In a l × (b ≡ p)) → (session_of a t).order < (session_of b t).order
      less a b (inl h) =
          let i = before-in a b l h in
          B.still_first a b (other a i.0) (other b i.1) (L.begun a i.0) (L.begun b i.1) (L.lower a b h)
      less a b (inr h) = subst (λ x. (session_of a t).order < (session_of x t).order) (sym h.1) (last a h.0)

-- ---- a line with fewer

module _ (f : ℕ → Bool) where
  those-in : (q : ℕ) (l : List ℕ) → In q (those f l) → In q l × (f q ≡ true)
  unfolding those
  those-in q [] i = absurd i
  those-in q (x ∷ l) i = go (those-in q l) (f x) refl i
    where
      go : (In q (those f l) → In q l × (f q ≡ true)) → (b : Bool) → f x ≡ b → In q (cond b (x ∷ those f l) (those f l)) → In q (x ∷ l) × (f q ≡ true)
      go rest true e (inl h) = (inl h, ap f h ∙ e)
      go rest true e (inr i) = let j = rest i in (inr j.0, j.1)
      go rest false e i = let j = rest i in (inr j.0, j.1)

  in-those : (q : ℕ) (l : List ℕ) → f q ≡ true → In q l → In q (those f l)
  unfolding those
  in-those q [] n i = absurd i
  in-those q (x ∷ l) n i = go (in-those q l n) (f x) refl i
    where
      go : (In q l → In q (those f l)) → (b : Bool) → f x ≡ b → In q (x ∷ l) → In q (cond b (x ∷ those f l) (those f l))
      go rest true e (inl h) = inl h
      go rest true e (inr i) = inr (rest i)
      go rest false e (inl h) = absurd (true≢false n (ap f h ∙ e))
      go rest false e (inr i) = rest i

  those-before : (a b : ℕ) (l : List ℕ) → Before a b (those f l) → Before a b l
  unfolding those
  those-before a b [] h = absurd h
  those-before a b (x ∷ l) h = go (those-before a b l) (f x) h
    where
      go : (Before a b (those f l) → Before a b l) → (o : Bool) → Before a b (cond o (x ∷ those f l) (those f l)) → Before a b (x ∷ l)
      go rest true (inl h) = inl (h.0, (those-in b l h.1).0)
      go rest true (inr h) = inr (rest h)
      go rest false h = inr (rest h)

  before-those : (a b : ℕ) (l : List ℕ) → f a ≡ true → f b ≡ true → Before a b l → Before a b (those f l)
  unfolding those
  before-those a b [] m n h = absurd h
  before-those a b (x ∷ l) m n h = go (before-those a b l m n) (f x) refl h
    where
      go : (Before a b l → Before a b (those f l)) → (o : Bool) → f x ≡ o → Before a b (x ∷ l) → Before a b (cond o (x ∷ those f l) (those f l))
      go rest true e (inl h) = inl (h.0, in-those b l n h.1)
      go rest true e (inr h) = inr (rest h)
      go rest false e (inl h) = absurd (true≢false m (ap f h.0 ∙ e))
      go rest false e (inr h) = rest h

-- Whether a session is begun, and its place in the order of begins.
abbrev pub place : Session → Bool × ℕ
place x = (x.begun, x.order)

-- Sessions end, and step out; the others, of whom f says so, stand as they stood.
module _ (f : ℕ → Bool) (s t : State) (l : List ℕ) (L : Lined l s) (ended : (q : ℕ) → f q ≡ false → (session_of q t).begun ≡ false)
    (others : (q : ℕ) → f q ≡ true → place (session_of q t) ≡ place (session_of q s)) where
  mark : (q : ℕ) → f q ≡ true → (session_of q t).begun ≡ (session_of q s).begun
  mark q n = ap (λ x. x.0) (others q n)

  number : (q : ℕ) → f q ≡ true → (session_of q t).order ≡ (session_of q s).order
  number q n = ap (λ x. x.1) (others q n)

  stays : (q : ℕ) → (session_of q t).begun ≡ true → f q ≡ true
  stays q b = by_bool (f q) (λ e. e) (λ e. absurd (true≢false b (ended q e)))

  was-begun : (q : ℕ) → (session_of q t).begun ≡ true → (session_of q s).begun ≡ true
  was-begun q b = sym (mark q (stays q b)) ∙ b

  fewer-line : Lined (those f l) t
  fewer-line = record {
    stands = λ q b. in-those f q l (stays q b) (L.stands q (was-begun q b));
    begun = λ q i. let j = those-in f q l i in mark q j.1 ∙ L.begun q j.0;
    before = λ a b u v h. before-those f a b l (stays a u) (stays b v)
        (L.before a b (was-begun a u) (was-begun b v) (omega (arith, h, number a (stays a u), number b (stays b v))));
    lower = λ a b h.
        let i = before-in a b (those f l) h in
        omega (arith, L.lower a b (those-before f a b l h), number a (those-in f a l i.0).1, number b (those-in f b l i.1).1);
  }

-- Session p ends, and steps out.
ended-line : (p : ℕ) (s t : State) (l : List ℕ) → Lined l s → (session_of p t).begun ≡ false → ((q : ℕ) → ¬ (p ≡ q) → session_of q t ≡ session_of q s) → Lined (out_of p l) t
ended-line p s t l L ended others = fewer-line (λ q. not (eqb p q)) s t l L
    (λ q e. subst (λ x. (session_of x t).begun ≡ false) (eqb_is p q (not-false (eqb p q) e)) ended)
    (λ q e. ap place (others q (eqb-not p q (not_so (eqb p q) e))))
  where
    not_so : (b : Bool) → not b ≡ true → b ≡ false
    not_so true e = sym e
    not_so false e = refl

-- ---- a line that stays

pub kept_line : (s t : State) (l : List ℕ) → ((q : ℕ) → place (session_of q t) ≡ place (session_of q s)) → Lined l s → Lined l t
kept_line s t l e L = record {
  stands = λ q b. L.stands q (sym (mark q) ∙ b);
  begun = λ q i. mark q ∙ L.begun q i;
  before = λ a b u v h. L.before a b (sym (mark a) ∙ u) (sym (mark b) ∙ v) (omega (arith, h, number a, number b));
  lower = λ a b h. omega (arith, L.lower a b h, number a, number b);
}
  where
    mark : (q : ℕ) → (session_of q t).begun ≡ (session_of q s).begun
    mark q = ap (λ x. x.0) (e q)

    number : (q : ℕ) → (session_of q t).order ≡ (session_of q s).order
    number q = ap (λ x. x.1) (e q)

-- ---- each call

-- The line after an answer of the machine.
abbrev pub line_of : Told → C.Call → Answer → List ℕ → List ℕ
line_of t c ok l = line_ok t c l
line_of t c more l = l
line_of t c (wait ps) l = l
line_of t c (done ns) l = l
line_of t c (refused n k) l = l

pub tells-line : (t : Told) (c : C.Call) (a : Answer) (b : C.Answer) (l : List ℕ) → Tells a b → line_answer t c b l ≡ line_of t c a l
tells-line t c ok b l e = ap (λ z. line_answer t c z l) e
tells-line t c more b l e = ap (λ z. line_answer t c z l) e
tells-line t c (wait ps) b l e = ap (λ z. line_answer t c z l) e.2
tells-line t c (done ns) b l e = ap (λ z. line_answer t c z l) e
tells-line t c (refused n k) b l e = ap (λ z. line_answer t c z l) e

pub step_line : (t : Told) (p : ℕ) (v : List ℕ) (a : Answer) (l : List ℕ) → line_of t (C.step p v) a l ≡ l
step_line t p v ok l = refl
step_line t p v more l = refl
step_line t p v (wait ps) l = refl
step_line t p v (done ns) l = refl
step_line t p v (refused n k) l = refl

-- A step keeps every session's mark and number.
pub steps-tenure : (p n : ℕ) (s : State) (h : Option Request) → (session_of p s).hand ≡ h → (q : ℕ) → tenure (session_of q (steps p n h s).next) ≡ tenure (session_of q s)
unfolding steps
steps-tenure p n s none e q = refl
steps-tenure p n s (some r) e q = (step-handed p r s (hand-seat p r s e) e n).tenures q

-- Of a tenure the place.
pub placed : {x y : Bool × ℕ × Bool} → x ≡ y → ◌≡◌ {A = Bool × ℕ} (x.0, x.1) (y.0, y.1)
placed e = ap (λ z. (z.0, z.1)) e

module _ (s : State) (S : Sound s) (l : List ℕ) (L : Lined l s) (t : Told) (asked : (q : ℕ) → is_asked q s ≡ t.asked q) where
  pub commit_line : (p : ℕ) → Passes (commit_checks p s) → Lined (out_of p l) (commits p s)
  unfolding commits
  commit_line p k = ended-line p s (commits p s) l L
      (ap (λ x. x.begun) (leave_own p _ (party-seat p s S.seats (session-number p k.0).1)))
      (λ q n. leave-other p q _ n ∙ session-same s _ refl q)

  pub abort-line : (p : ℕ) → Passes (abort_checks p s) → Lined (out_of p l) (aborts p s)
  abort-line p k = ended-line p s (aborts p s) l L (ap (λ x. x.begun) (abort-own p s (party-seat p s S.seats (session-number p k.0).1))) (λ q n. abort-other p q s n)

  pub ask-line : (p : ℕ) → Lined l (asks p s)
  unfolding asks
  ask-line p = kept_line s (asks p s) l (session-kept place p as_asked s (λ x. refl)) L

  -- Those that were asked stay where they stood.
  pub recover-line : Lined (those t.asked l) (recovers s)
  recover-line = fewer-line t.asked s (recovers s) l L
      (λ q e. recovered-begun s (recovers s) (recovered s S) q ∙ ap (λ b. (session_of q s).begun && b) (asked q ∙ e) ∙ and-false (session_of q s).begun)
      (λ q e. ap place (recover-kept s S q (asked q ∙ e)))
    where
      and-false : (b : Bool) → (b && false) ≡ false
      and-false true = refl
      and-false false = refl
