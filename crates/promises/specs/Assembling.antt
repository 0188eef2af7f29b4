-- From a row on words to the promise of a call.
use Rattle.std.specs.Prelude.{◌≡◌, refl, Bool, true, false, cond, List, [], ◌∷◌, ℕ, length, set}
use Rattle.std.proofs.Common.{sym, ap, subst, ◌∙◌, inl, get_or-set_other}
use Rattle.sessions.specs.declared.Session.{Session}
use Rattle.sessions.specs.Sessions.{session_at, idle_session}
use Rattle.serial.specs.Serial.{true≢false}
use Rattle.serial.specs.Calls as C
use Rattle.machine.specs.State.{Outcome, refused}
use Rattle.machine.specs.Steps.{answer}
use Rattle.machine.specs.Calls.{call}
use Rattle.machine.proofs.Keeping.{keeps}
use Rattle.machine.specs.Demand.{call_of, Tells, list_after}
use Rattle.machine.specs.Sound as S
use Rattle.meaning.specs.Reading.{meaning}
use Rattle.meaning.specs.Sound.{Sound}
use Rattle.layout.specs.Layout.{means}
use Rattle.layout.specs.Row.{Stands, Becomes}
use Rattle.layout.specs.Back.{holds-means, becomes-sound}
use Rattle.refusals.specs.Refusing.{first_of}
use Rattle.promises.specs.Relations.{outcome, stays, Others, Kept, Ended, Answered, Around, list_of}

-- ---- which answers end the request

abbrev pub is_refused : C.Answer → Bool
is_refused C.ok = false
is_refused C.more = false
is_refused (C.wait p) = false
is_refused (C.done ns) = false
is_refused (C.refused n k) = true

abbrev pub number_of : C.Answer → ℕ
number_of C.ok = 0
number_of C.more = 0
number_of (C.wait p) = 0
number_of (C.done ns) = 0
number_of (C.refused n k) = n

-- No answer but a refusal.
pub no-refusal : {X : Type 0} (a : C.Answer) → is_refused a ≡ false → (n k : ℕ) → a ≡ C.refused n k → C.ends_request n ≡ true → X
no-refusal a q n k e y = absurd (true≢false (ap is_refused e) q)

-- No refusal by another number.
pub not-ending : {X : Type 0} (i : ℕ) → C.ends_request i ≡ false → (n k : ℕ) → C.refused i 0 ≡ C.refused n k → C.ends_request n ≡ true → X
not-ending i q n k e y = absurd (true≢false y (ap C.ends_request (sym (ap number_of e)) ∙ q))

abbrev pub Each : (ℕ → Type 0) → List (ℕ × Bool) → Type 0
Each P [] = Unit {0}
Each P (c ∷ cs) = P c.0 × Each P cs

pub first-is : (P : ℕ → Type 0) (cs : List (ℕ × Bool)) → P 0 → Each P cs → P (first_of cs)
unfolding first_of
first-is P [] z h = z
first-is P (c ∷ cs) z h = go c.1 (first-is P cs z h.1)
  where
    go : (b : Bool) → P (first_of cs) → P (cond b c.0 (first_of cs))
    go true r = h.0
    go false r = r

abbrev pub NotEnding : ℕ → Type 0
NotEnding n = C.ends_request n ≡ false

pub first-not-ending : (cs : List (ℕ × Bool)) → Each NotEnding cs → C.ends_request (first_of cs) ≡ false
first-not-ending cs h = first-is NotEnding cs refl h

-- ---- from a row to the promise

-- The words of a sound store hold a layout that means what they mean.
pub stands-means : (s : List ℕ) (t : List Session) (A : Stands s t) → means A.lay t ≡ meaning s t
stands-means s t A = sym (holds-means s t A.lay A.holds)

pub answered-by : (c : C.Call) (s : List ℕ) (t : List Session) → Sound s t → (o : Outcome) → outcome c s t ≡ o → (a : C.Answer) (l' s' : List ℕ) (t' : List Session) → Tells o.answer a
    → l' ≡ list_after c o.written → Becomes s s' t' o.next → (stays a ≡ true → (s' ≡ s) × (t' ≡ t))
    → ((n k : ℕ) → a ≡ C.refused n k → C.ends_request n ≡ true → Ended c s t s' t') → Others c t t' → Kept c s s' → Answered c s t a l' s' t' × Around s s'
answered-by c s t A o e a l' s' t' tells list B still ended others kept =
    let sound = subst (λ z. S.Sound z.next) e (keeps (call_of c (length s)) (meaning s t) A.state) in
    let R = becomes-sound s s' t' o.next B sound in (
      record {
        tells = subst (λ z. Tells z.answer a) (sym e) tells;
        list_is = list ∙ ap (λ z. list_after c z.written) (sym e);
        sound = R.0;
        means = R.1 ∙ ap (λ z. z.next) (sym e);
        long = B.long;
        still = still;
        ended = ended;
        others = others;
        kept = kept;
      },
      record { entries = B.entries; records = B.records; rest = B.rest },
    )

-- A refusal of the checks changes nothing.
others_same : (c : C.Call) (t : List Session) → Others c t t
others_same (C.format m) t = tt
others_same (C.begin p) t = λ q n. inl refl
others_same (C.put p c e f g) t = λ q n. refl
others_same (C.step p l) t = λ q n. refl
others_same (C.commit p) t = λ q n. refl
others_same (C.abort p) t = λ q n. refl
others_same (C.ask p) t = λ q n. refl
others_same C.recover t = λ q n a. refl

kept_same : (c : C.Call) (s : List ℕ) → Kept c s s
kept_same (C.format m) s = tt
kept_same (C.begin p) s = refl
kept_same (C.put p c e f g) s = refl
kept_same (C.step p l) s = tt
kept_same (C.commit p) s = tt
kept_same (C.abort p) s = tt
kept_same (C.ask p) s = refl
kept_same C.recover s = tt

pub list_same : (c : C.Call) → list_of c ≡ list_after c []
list_same (C.format m) = refl
list_same (C.begin p) = refl
list_same (C.put p c e f g) = refl
list_same (C.step p l) = refl
list_same (C.commit p) = refl
list_same (C.abort p) = refl
list_same (C.ask p) = refl
list_same C.recover = refl

pub answered-refused : (c : C.Call) (s : List ℕ) (t : List Session) → Sound s t → (n : ℕ) → C.ends_request n ≡ false → outcome c s t ≡ answer (refused n 0) (meaning s t)
    → Answered c s t (C.refused n 0) (list_of c) s t × Around s s
answered-refused c s t A n y e = (
  record {
    tells = subst (λ z. Tells z.answer (C.refused n 0)) (sym e) refl;
    list_is = list_same c ∙ ap (λ z. list_after c z.written) (sym e);
    sound = A;
    means = ap (λ z. z.next) (sym e);
    long = refl;
    still = λ z. (refl, refl);
    ended = not-ending n y;
    others = others_same c t;
    kept = kept_same c s;
  },
  record { entries = refl; records = refl; rest = refl },
)

-- Only the party's record is another.
pub set-others : (t : List Session) (p : ℕ) (x : Session) (q : ℕ) → ¬ (q ≡ p) → session_at (set t p x) q ≡ session_at t q
set-others t p x q n = get_or-set_other t p q x idle_session n
