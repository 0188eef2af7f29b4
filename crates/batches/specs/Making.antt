-- How the code makes a batch: ask after ask, each lent the list from where the pairs before it end.
use Rattle.std.specs.Prelude.{◌≡◌, Bool, not, ◌↔◌, List, [], ◌∷◌, ◌++◌, ℕ, suc, ◌+◌, ◌*◌, ◌-◌, ◌/◌, ◌≤◌, ◌<◌, leb, set}
use Rattle.std.proofs.Math.Path.{refl, sym}
use Rattle.std.proofs.Common.{ap, subst, ◌∙◌, append_assoc, append-nil, add-one, length-append, drop_of_length-le, take_all, length-take-le, drop-drop, drop-cons, drop_at}
use Rattle.std.proofs.Math.Bool.{true, false, cond}
use native.Mathlib.Omega.{arith}
use Rattle.std.proofs.Math.Decide.{ℕ_discrete}
use Rattle.std.proofs.Math.Dec.{ltb}
use Rattle.std.proofs.Math.ListN.{length, take, drop, length-drop, take-append-drop}
use Rattle.std.proofs.Math.Seq.{take-length, drop-length, take-add}
use Rattle.std.proofs.lemmas.List.{set_at}
use borrow.Rule.Slice.PartMut.{put_mid, take_put}
use borrow.Author.Tests.{ltb-true, ltb-false, lt-ltb, le-ltb, leb-true, le-leb, eq-eqb, ne_eqb, not-true}
use Rattle.sessions.specs.declared.Session.{Session}
use Rattle.serial.specs.Calls.{Turn, Run, stop, next}
use Rattle.serial.specs.Calls as C
use Rattle.serial.specs.Serial.{true≢false}
use Rattle.outcomes.specs.declared.Answer.{Answer}
use Rattle.outcomes.specs.declared.Answer.TheVariants.{Done}
use Rattle.outcomes.specs.declared.Ran.{Ran}
use Rattle.outcomes.specs.declared.Served.{Served}
use Rattle.outcomes.specs.Said.{said}
use Rattle.meaning.specs.Sound.{Sound}
use Rattle.promises.specs.Demands.{Lending}
use Rattle.promises.specs.Relations.{Calls}
use Rattle.promises.specs.Ways.{Serves}
use Rattle.promises.specs.Runs.{calling, most_steps, Runs, Requests}
use Rattle.promises.specs.Making.{serves-makes, ask-refused, ask-run}
use Rattle.running.specs.Answers.{is_ok_of, is_ok, not-ok}
use Rattle.asking.specs.declared.Asking.{Asking}
use Rattle.asking.specs.declared.Asking.TheVariants as K
use Rattle.asking.specs.Asks.{asking_at}
use Rattle.packing.specs.Packed.{PacksMade}
use Rattle.batches.specs.Batches.{Once, Asks, goes_on, code_of, pairs_of, used, MadeAt, Batched, none, last, goes, Fits, MadeAll, Batches}

-- ---- a request

pub ask-goes : {p c e f g bound : ℕ} (n : ℕ) (a : Answer) {s : List ℕ} {t : List Session} {l : List ℕ} {b : C.Answer} {t₁ : List Session} {l' s' : List ℕ} {t' : List Session} {v : Bool}
    → Sound s t → Serves (C.put p c e f g) s t (said a) [] s t₁ → v ≡ is_ok_of a → v ≡ true → Runs p bound s t₁ l b n l' s' t' → Requests p c e f g bound s t l b n l' s' t'
ask-goes {p} {c} {e} {f} {g} n a {s} {t} {t₁ = t₁} S h i j R =
    ask-run n (serves-makes (C.put p c e f g) s t C.ok [] s t₁ S (subst (λ z. Serves (C.put p c e f g) s t (said z) [] s t₁) (is_ok a (sym i ∙ j)) h)) R

pub ask-stops : {p c e f g bound : ℕ} (a : Answer) {s : List ℕ} {t : List Session} {l : List ℕ} {t₁ : List Session} {v : Bool}
    → Sound s t → Serves (C.put p c e f g) s t (said a) [] s t₁ → v ≡ is_ok_of a → v ≡ false → Requests p c e f g bound s t l (said a) 0 l s t₁
ask-stops {p} {c} {e} {f} {g} {bound} a {s} {t} {l} {t₁} S h i j =
    ask-refused p c e f g bound s t l (said a) s t₁ (serves-makes (C.put p c e f g) s t (said a) [] s t₁ S h) (not-ok a (sym i ∙ j))

pub ask-unsound : (p c e f g bound : ℕ) (s : List ℕ) (t : List Session) (l : List ℕ) → Calls (C.put p c e f g) s t (C.refused 2 0) [] s t → Requests p c e f g bound s t l (C.refused 2 0) 0 l s t
ask-unsound p c e f g bound s t l d = ask-refused p c e f g bound s t l (C.refused 2 0) s t d (λ q. let z : ◌≡◌ {A = ℕ} 0 1 = cc in absurd (omega arith))

-- ---- one ask

pub once-made : (c : C.Call) {s : List ℕ} {t : List Session} {l : List ℕ} (a : Answer) {s' : List ℕ} {t₁ : List Session} {r : Ran} → Sound s t → Serves c s t (said a) [] s' t₁
    → r ≡ record { table = t₁; answer = a; steps = 0 } → Once c s t l (said r.answer) r.steps l s' r.table
once-made c {s} {t} {l} a {s'} {t₁} S h e =
    subst (λ (r : Ran). Once c s t l (said r.answer) r.steps l s' r.table) (sym e) (serves-makes c s t (said a) [] s' t₁ S h, refl, refl)

pub step-made : (p : ℕ) {s : List ℕ} {t : List Session} {l : List ℕ} (a : Answer) {l' s' : List ℕ} {t₁ : List Session} {r : Ran} → Sound s t → Serves (C.step p l) s t (said a) l' s' t₁
    → r ≡ record { table = t₁; answer = a; steps = 1 } → Asks (K.Step p) s t l (said r.answer) r.steps l' s' r.table
step-made p {s} {t} {l} a {l'} {s'} {t₁} S h e =
    subst (λ (r : Ran). Asks (K.Step p) s t l (said r.answer) r.steps l' s' r.table) (sym e) (serves-makes (C.step p l) s t (said a) l' s' t₁ S h, refl)

pub none_made : {s : List ℕ} {t : List Session} {l : List ℕ} {r : Ran} → r ≡ record { table = t; answer = Answer.Refused 101 0; steps = 0 } → Asks K.Other s t l (said r.answer) r.steps l s r.table
none_made {s} {t} {l} e = subst (λ (r : Ran). Asks K.Other s t l (said r.answer) r.steps l s r.table) (sym e) (refl, refl, refl, refl, refl)

-- By what an ask is.
pub asked_by : (s : List ℕ) (t : List Session) (l : List ℕ) (a : C.Answer) (n : ℕ) (l' s' : List ℕ) (t' : List Session) {k j : Asking} → k ≡ j → Asks j s t l a n l' s' t' → Asks k s t l a n l' s' t'
asked_by s t l a n l' s' t' e h = subst (λ z. Asks z s t l a n l' s' t') (sym e) h

run_sound : {x y : Lending} {ks : List Turn} → Run calling x ks y → Sound x.store x.table → Sound y.store y.table
run_sound stop S = S
run_sound (next d r) S = run_sound r (d.answers S).0.sound

module _ (s : List ℕ) (t : List Session) (l : List ℕ) (a : C.Answer) (n : ℕ) (l' s' : List ℕ) (t' : List Session) where
  -- Store and table are sound again,
  pub asks-sound : (k : Asking) → Asks k s t l a n l' s' t' → Sound s t → Sound s' t'
  asks-sound (K.Begin p) h S = (h.0.answers S).0.sound
  asks-sound (K.Put p c e f g) h S = (h.0.answers S).0.sound
  asks-sound (K.Step p) h S = (h.0.answers S).0.sound
  asks-sound (K.Commit p) h S = (h.0.answers S).0.sound
  asks-sound (K.Abort p) h S = (h.0.answers S).0.sound
  asks-sound (K.Ask p) h S = (h.0.answers S).0.sound
  asks-sound (K.Run p b) h S = run_sound h.made S
  asks-sound (K.Request p c e f g b) h S = run_sound h.made S
  asks-sound K.Other h S = subst (λ z. Sound s' z) (sym h.4) (subst (λ z. Sound z t) (sym h.3) S)

  -- and the steps are as many as can be packed.
  pub asks-few : (k : Asking) → Asks k s t l a n l' s' t' → n ≤ most_steps
  asks-few (K.Begin p) h = omega (arith, h.1)
  asks-few (K.Put p c e f g) h = omega (arith, h.1)
  asks-few (K.Step p) h = omega (arith, h.1)
  asks-few (K.Commit p) h = omega (arith, h.1)
  asks-few (K.Abort p) h = omega (arith, h.1)
  asks-few (K.Ask p) h = omega (arith, h.1)
  asks-few (K.Run p b) h = h.within.few
  asks-few (K.Request p c e f g b) h = go (ℕ_discrete n 0)
    where
      go : Dec (n ≡ 0) → n ≤ most_steps
      go (yes e) = omega (arith, e)
      go (no z) = (h.within z).few
  asks-few K.Other h = omega (arith, h.1)

-- ---- the list that is left

unfoldable pub behind : ℕ → ℕ → ℕ → ℕ
behind from len n = cond (ltb (len - from) n) len (from + n)

pub behind-end : (from len n : ℕ) → len - from < n → len ≡ behind from len n
unfolding behind
behind-end from len n h = rw (lt-ltb (len - from) n h) refl

pub behind-place : (from len n : ℕ) → n ≤ len - from → from + n ≡ behind from len n
unfolding behind
behind-place from len n h = rw (le-ltb (len - from) n h) refl

pub pairs-located : (code n : ℕ) → code ≡ 5 → 2 * n ≡ pairs_of code n
pairs-located code n e = rw (eq-eqb code 5 e) refl

pub located : {code code' n : ℕ} {a : Answer} → code ≡ code' → a ≡ Done n → pairs_of code n ≡ used code' (said a)
located {code} {code'} {n} e f = ap (λ z. pairs_of z n) e ∙ ap (λ z. used code' (said z)) (sym f)

pub pairs-other : (code n : ℕ) → ¬ (code ≡ 5) → 0 ≡ pairs_of code n
pairs-other code n e = rw (ne_eqb code 5 e) refl

module _ (l : List ℕ) (from n : ℕ) (h : from ≤ length l) where
  pub behind-most : behind from (length l) n ≤ length l
  unfolding behind
  behind-most = go (ltb (length l - from) n) refl
    where
      go : (b : Bool) → ltb (length l - from) n ≡ b → cond b (length l) (from + n) ≤ length l
      go true e = omega arith
      go false e = omega (arith, ltb-false (length l - from) n e, h)

  pub behind-drop : drop (behind from (length l) n) l ≡ drop n (drop from l)
  unfolding behind
  behind-drop = go (ltb (length l - from) n) refl
    where
      go : (b : Bool) → ltb (length l - from) n ≡ b → drop (cond b (length l) (from + n)) l ≡ drop n (drop from l)
      go true e = drop-length l ∙ sym (drop_of_length-le (drop from l) {i = n} (omega (arith, ltb-true (length l - from) n e, length-drop from l)))
      go false e = sym (drop-drop n from l)

  pub behind-take : take (behind from (length l) n) l ≡ take from l ++ take n (drop from l)
  unfolding behind
  behind-take = go (ltb (length l - from) n) refl
    where
      go : (b : Bool) → ltb (length l - from) n ≡ b → take (cond b (length l) (from + n)) l ≡ take from l ++ take n (drop from l)
      go true e =
          take-length l ∙ sym (ap (λ z. take from l ++ z) (take_all n (drop from l) (omega (arith, ltb-true (length l - from) n e, length-drop from l))) ∙ take-append-drop from l)
      go false e = take-add from n l

-- What an ask is lent is the list from a place on, and what it leaves goes back there.
pub part-asked : (k : Asking) (s : List ℕ) (t : List Session) (l : List ℕ) (from : ℕ) (a : C.Answer) (n : ℕ) (z s' : List ℕ) (t' : List Session) → from ≤ length l
    → Asks k s t (take (length l - from) (drop from l)) a n z s' t'
    → Asks k s t (drop from l) a n (drop from (put_mid from (length l - from) l z)) s' t' × (take from (put_mid from (length l - from) l z) ≡ take from l)
part-asked k s t l from a n z s' t' h d =
    (subst (λ v. Asks k s t (drop from l) a n v s' t') (sym back) (subst (λ v. Asks k s t v a n z s' t') part d), take_put from (length l - from) l z h)
  where
    part : take (length l - from) (drop from l) ≡ drop from l
    part = take_all (length l - from) (drop from l) (omega (arith, length-drop from l))

    rest : drop (length l - from) (drop from l) ≡ []
    rest = drop_of_length-le (drop from l) {i = length l - from} (omega (arith, length-drop from l))

    back : drop from (put_mid from (length l - from) l z) ≡ z
    back = drop_at (take from l) (z ++ drop (length l - from) (drop from l)) from (length-take-le from l h) ∙ ap (λ v. z ++ v) rest ∙ append-nil z

-- ---- whether the answers fit

pub fits_not : (len places : ℕ) → 458745 < len → (false ≡ true) ↔ Fits len places
fits_not len places h = ((λ e. absurd (true≢false {b = false} e refl)), λ f. absurd (omega (arith, h, f.1)))

pub fits-exactly : (len places : ℕ) → len ≤ 458745 → (leb ((len + 6) / 7) places ≡ true) ↔ Fits len places
fits-exactly len places h = ((λ e. (omega (arith, leb-true ((len + 6) / 7) places e), h)), λ f. le-leb ((len + 6) / 7) places (omega (arith, f.0)))

-- ---- the batch's own answers

module _ (w s : List ℕ) (t : List Session) (l vs : List ℕ) where
  pub batch-unsound : {b : Bool} → ((b ≡ true) ↔ Sound s t) → not b ≡ true → Batches w s t l vs (C.refused 2 0) vs l s t
  batch-unsound {b} i e = record {
    unsound = λ n. (refl, refl, refl, refl, refl);
    misfit = λ S. absurd (true≢false (i.1 S) (not-true b e));
    made = λ S. absurd (true≢false (i.1 S) (not-true b e));
  }

  pub batch-misfit : {b : Bool} → Sound s t → ((b ≡ true) ↔ Fits (length w) (length vs)) → b ≡ false → Batches w s t l vs (C.refused 102 0) vs l s t
  batch-misfit {b} S i e = record {
    unsound = λ n. absurd (n S);
    misfit = λ S n. (refl, refl, refl, refl, refl);
    made = λ S F. absurd (true≢false (i.1 F) e);
  }

  pub batch-served : {a : C.Answer} {vs' l' s' : List ℕ} {t' : List Session} → Sound s t → Fits (length w) (length vs) → MadeAll w s t l vs a vs' l' s' t' → Batches w s t l vs a vs' l' s' t'
  batch-served S F m = record { unsound = λ n. absurd (n S); misfit = λ S n. absurd (n F); made = λ S F. m }

-- ---- one turn of the batch

abbrev pub Ready : List ℕ → List ℕ → List ℕ → List ℕ → List Session → ℕ → ℕ → Type 0
Ready s l w vs t from i = Sound s t × (from ≤ length l) × (7 * i < length w) × (i < length vs)

-- Ask i is made, lent the list from a place on; its answer is packed into its place; and where the next one stands.
pub record Turned (w : List ℕ) (i from : ℕ) (s : List ℕ) (t : List Session) (l vs : List ℕ) (i' from' : ℕ) (on : Bool) (vs' l' s' : List ℕ) (t' : List Session) : Type 0 where
  pub answer : C.Answer
  pub number : ℕ
  pub made : MadeAt w i s t (drop from l) answer number (drop from l') s' t'
  pub kept : take from l' ≡ take from l
  pub long : length l' ≡ length l
  pub put : vs' ≡ set vs i number
  pub count : i' ≡ i + 1
  pub place : from' ≡ behind from (length l') (used (code_of (asking_at w i) t) answer)
  pub goes : on ≡ goes_on (asking_at w i) answer

pub turn-made : (w : List ℕ) (i from : ℕ) (s : List ℕ) (t : List Session) (l vs : List ℕ) (k : Asking) (a : Answer) (n : ℕ) (l' s' : List ℕ) (t' : List Session) {number u place : ℕ} {on : Bool}
    → 7 * i < length w → length l' ≡ length l → k ≡ asking_at w i → Asks k s t (drop from l) (said a) n (drop from l') s' t' × (take from l' ≡ take from l) → PacksMade n (said a) number
    → u ≡ used (code_of k t) (said a) → place ≡ behind from (length l') u → on ≡ goes_on k (said a) → Turned w i from s t l vs (i + 1) place on (set vs i number) l' s' t'
turn-made w i from s t l vs k a n l' s' t' {number} there long e d packs f g h = record {
  answer = said a;
  number = number;
  made = record { there = there; steps = n; made = asked_by s t (drop from l) (said a) n (drop from l') s' t' (sym e) d.0; packs = packs };
  kept = d.1;
  long = long;
  put = refl;
  count = refl;
  place = g ∙ ap (behind from (length l')) (f ∙ ap (λ z. used (code_of z t) (said a)) e);
  goes = h ∙ ap (λ z. goes_on z (said a)) e;
}

-- ---- the batch so far

module _ (w s₀ : List ℕ) (t₀ : List Session) (l₀ vs₀ : List ℕ) where
  pub record Batching (s : List ℕ) (t : List Session) (l vs : List ℕ) (from i : ℕ) (on : Bool) : Type 0 where
    pub sound : Sound s t
    pub within : from ≤ length l
    pub answers : List ℕ
    pub many : length answers ≡ i
    pub put : vs ≡ answers ++ drop i vs₀
    -- While it goes on, the asks from i on complete it; else it is complete.
    pub rest : on ≡ true → {rs l' s' : List ℕ} {t' : List Session} → Batched w i s t (drop from l) rs l' s' t' → Batched w 0 s₀ t₀ l₀ (answers ++ rs) (take from l ++ l') s' t'
    pub whole : on ≡ false → Batched w 0 s₀ t₀ l₀ answers l s t

  pub batch-none : Sound s₀ t₀ → Batching s₀ t₀ l₀ vs₀ 0 0 true
  batch-none S = record { sound = S; within = omega arith; answers = []; many = refl; put = refl; rest = λ e B. B; whole = λ e. absurd (true≢false {b = true} refl e) }

  module _ {s : List ℕ} {t : List Session} {l vs : List ℕ} {from i : ℕ} {on : Bool} {i' from' : ℕ} {on' : Bool} {vs' l' s' : List ℕ} {t' : List Session}
      (B : Batching s t l vs from i on) (going : on ≡ true) (room : i < length vs₀) (T : Turned w i from s t l vs i' from' on' vs' l' s' t') where
    abbrev n : ℕ
    n = used (code_of (asking_at w i) t) T.answer

    within' : from ≤ length l'
    within' = omega (arith, B.within, T.long)

    put_next : vs' ≡ (B.answers ++ T.number ∷ []) ++ drop i' vs₀
    put_next =
        T.put ∙ ap (λ z. set z i T.number) (B.put ∙ ap (λ z. B.answers ++ z) (drop-cons vs₀ i 0 room))
        ∙ set_at B.answers _ (drop (suc i) vs₀) T.number i B.many
        ∙ sym (append_assoc B.answers (T.number ∷ []) (drop i' vs₀) ∙ ap (λ z. B.answers ++ T.number ∷ drop z vs₀) (T.count ∙ add-one i))

    joined : (z : List ℕ) → take from l ++ (take n (drop from l') ++ z) ≡ take from' l' ++ z
    joined z =
        sym (append_assoc (take from l) (take n (drop from l')) z)
        ∙ ap (λ v. (v ++ take n (drop from l')) ++ z) (sym T.kept)
        ∙ ap (λ v. v ++ z) (sym (ap (λ v. take v l') T.place ∙ behind-take l' from n within'))

    pub batch-next : Batching s' t' l' vs' from' i' on'
    batch-next = record {
      sound = asks-sound s t (drop from l) T.answer T.made.steps (drop from l') s' t' (asking_at w i) T.made.made B.sound;
      within = subst (λ v. v ≤ length l') (sym T.place) (behind-most l' from n within');
      answers = B.answers ++ T.number ∷ [];
      many = length-append B.answers (T.number ∷ []) ∙ ap (λ v. v + 1) B.many ∙ sym T.count;
      put = put_next;
      rest = λ e {rs} {l' = l₂} {s' = s₂} {t' = t₂} R.
          let R₁ : Batched w (suc i) s' t' (drop n (drop from l')) rs l₂ s₂ t₂
          = subst (λ v. Batched w v s' t' (drop n (drop from l')) rs l₂ s₂ t₂) (T.count ∙ add-one i)
          (subst (λ v. Batched w i' s' t' v rs l₂ s₂ t₂) (ap (λ v. drop v l') T.place ∙ behind-drop l' from n within') R) in
          let R₂ = B.rest going (goes T.made (sym T.goes ∙ e) R₁) in
          subst (λ v. Batched w 0 s₀ t₀ l₀ v (take from' l' ++ l₂) s₂ t₂) (sym (append_assoc B.answers (T.number ∷ []) rs))
          (subst (λ v. Batched w 0 s₀ t₀ l₀ (B.answers ++ T.number ∷ rs) v s₂ t₂) (joined l₂) R₂);
      whole = λ e.
          subst (λ v. Batched w 0 s₀ t₀ l₀ (B.answers ++ T.number ∷ []) v s' t') (ap (λ v. v ++ drop from l') (sym T.kept) ∙ take-append-drop from l')
          (B.rest going (last T.made (sym T.goes ∙ e)));
    }

  -- The end: no ask is left, or the last one ended the batch.
  module _ {s : List ℕ} {t : List Session} {l vs : List ℕ} {from i : ℕ} (on : Bool) (B : Batching s t l vs from i on) where
    made_all : Batched w 0 s₀ t₀ l₀ B.answers l s t → MadeAll w s₀ t₀ l₀ vs₀ (C.done (i ∷ [])) vs l s t
    made_all R = (B.answers, ap (λ v. C.done (v ∷ [])) (sym B.many), B.put ∙ ap (λ v. B.answers ++ drop v vs₀) (sym B.many), R)

    rest-none : on ≡ true → length w ≤ 7 * i → Batched w 0 s₀ t₀ l₀ B.answers l s t
    rest-none e h =
        subst (λ v. Batched w 0 s₀ t₀ l₀ v l s t) (append-nil B.answers)
        (subst (λ v. Batched w 0 s₀ t₀ l₀ (B.answers ++ []) v s t) (take-append-drop from l) (B.rest e (none h)))

    -- In what the code hands back.
    pub in-served : {r : Served} → r ≡ record { table = t; answer = Done i } → MadeAll w s₀ t₀ l₀ vs₀ (C.done (i ∷ [])) vs l s t → MadeAll w s₀ t₀ l₀ vs₀ (said r.answer) vs l s r.table
    in-served e m = subst (λ (r : Served). MadeAll w s₀ t₀ l₀ vs₀ (said r.answer) vs l s r.table) (sym e) m

    pub batch-ends : on ≡ false → MadeAll w s₀ t₀ l₀ vs₀ (C.done (i ∷ [])) vs l s t
    batch-ends e = made_all (B.whole e)

    pub batch-over : length w ≤ 7 * i → MadeAll w s₀ t₀ l₀ vs₀ (C.done (i ∷ [])) vs l s t
    batch-over h = go on refl
      where
        go : (b : Bool) → on ≡ b → MadeAll w s₀ t₀ l₀ vs₀ (C.done (i ∷ [])) vs l s t
        go true e = made_all (rest-none e h)
        go false e = batch-ends e
