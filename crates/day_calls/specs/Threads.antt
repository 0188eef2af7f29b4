-- A session that makes only day calls of one day, each with the place that the one before returned, whoever else calls between: it finishes exactly the day's requests, in order.
use Rattle.std.specs.Prelude.{◌≡◌, refl, Bool, true, false, cond, not, ◌&&◌, ◌⊎◌, eqb, ltb, get_or, drop}
use Rattle.std.proofs.Math.Path.{sym, ap, subst}
use Rattle.std.proofs.Common.{◌∙◌, inl, inr, arith, drop_of_length-le, drop-cons, eqb-true, ltb-false}
use mathlib.Core.List.{List, [], ◌∷◌, ◌++◌, map, map-append, append-nil, append_assoc}
use Rattle.std.proofs.Math.Option.{Option, none, some}
use Prim.Native.Nat.{ℕ, zero, suc, ◌+◌, ◌*◌, ◌-◌, ◌≤◌, ◌<◌}
use Rattle.std.proofs.Math.Decide.{ℕ_discrete}
use Rattle.card_days.specs.declared.DayRequest.{DayRequest}
use Rattle.card_days.specs.Day.{words, stretches, day_requests, day_key}
use Rattle.card_days.specs.Laws.{request_is, requests-many}
use Rattle.day_model.specs.Written.{as_request, fed_by}
use Rattle.sessions.specs.declared.Session.{Session}
use Rattle.sessions.specs.Sessions.{session_at}
use Rattle.serial.specs.Serial.{true≢false, put_same, put_other, requests}
use Rattle.serial.specs.Model.{Req, Ans, request_of}
use Rattle.serial.specs.Footprints.{store}
use Rattle.serial.specs.Calls.{Turn, Told, Asked, tell, told, tell_answer, finished, fed, Knows, answer_of}
use Rattle.serial.specs.Calls as C
use Rattle.machine.specs.Demand.{hand_put, as_put}
use Rattle.meaning.specs.Reading.{M-of}
use Rattle.meaning.specs.Sound.{Sound}
use Rattle.layout.specs.Asked.{request_in}
use Rattle.refusals.specs.Refusing.{hand_in}
use Rattle.promises.specs.Relations.{Formats}
use Rattle.promises.specs.Ways.{Serves}
use Rattle.promises.specs.Demand1.{demand-1}
use Rattle.promises.specs.Steps.{hand-is}
use Rattle.promises.proofs.Words.{words-meet, formatted-known}
use Rattle.promises.specs.Demands.{Lending}
use Rattle.promises.specs.Demands as D
use Rattle.outcomes.specs.declared.DayAnswer.{DayAnswer}
use Rattle.outcomes.specs.declared.DayAnswer.TheVariants.{Ok, More, Wait, Done, Refused}
use Rattle.day_calls.specs.Calling.{Handed, day_count, named, other_in_hand, day_refusal, ordinary, renamed, Days}
use Rattle.day_calls.specs.Accepting.{Passed, passed, Fitting, named-fits, step-passes, put-passes}
use Rattle.day_calls.specs.Lists.{Mixed, plain, day, Is, itself, refused, served, Are, more, ordinary_turn, served-returns}
use Rattle.day_calls.specs.Lists as L

-- The same day at another place.
abbrev pub at_place : Handed → ℕ → Handed
at_place h j = record { bytes = h.bytes; driver = h.driver; start = h.start; entry = h.entry; place = j }

-- The place that the next call is handed. A refusal returns none: the same again.
abbrev pub next_place : ℕ → DayAnswer → ℕ
next_place j (Ok i) = i
next_place j (More i) = i
next_place j (Wait q i) = i
next_place j (Done n i) = i
next_place j (Refused n k) = j

-- A call of another party than p that is no format and no recover, which may end p's session.
abbrev pub Off : ℕ → C.Call → Type 0
Off p (C.format m) = ⊥
Off p (C.begin q) = ¬ (q ≡ p)
Off p (C.put q c e f g) = ¬ (q ≡ p)
Off p (C.step q l) = ¬ (q ≡ p)
Off p (C.commit q) = ¬ (q ≡ p)
Off p (C.abort q) = ¬ (q ≡ p)
Off p (C.ask q) = ¬ (q ≡ p)
Off p C.recover = ⊥

abbrev pub Other : ℕ → Mixed → Type 0
Other p (plain k) = Off p k.call
Other p (day q h a) = ¬ (q ≡ p)

-- Party p's calls in the list are day calls of this day, from place j to place i; the others are of other parties.
pub data Thread (p : ℕ) (h : Handed) : ℕ → List Mixed → ℕ → Type 0 where
  end : {j : ℕ} → Thread p h j [] j
  other : {j i : ℕ} {m : Mixed} {ms : List Mixed} → Other p m → Thread p h j ms i → Thread p h j (m ∷ ms) i
  mine : {j i : ℕ} {a : DayAnswer} {ms : List Mixed} → Thread p h (next_place j a) ms i → Thread p h j (day p (at_place h j) a ∷ ms) i

-- Requests j to j + c - 1 of the day.
abbrev pub from_place : Handed → ℕ → ℕ → List DayRequest
from_place h j zero = []
from_place h j (suc c) = named (at_place h j) ∷ from_place h (j + 1) c

-- The finished requests that were told of party p.
abbrev pub finished_of : ℕ → Told → List Req
finished_of p t = requests store (t.past.current p)

-- ---- knowing, over one call

pub knows-is : {x y : Lending} {m : Mixed} {ks : List Turn} (t : Told) → Is x m ks y → Knows D.words t x → Knows D.words (told t ks) y
knows-is {x} {y} t (itself {k} d) w = words-meet.knows k x y t d w
knows-is t (refused e) w = w
knows-is {x} {y} t (served {p} {h} inner z e sv) w = words-meet.knows (ordinary_turn x p h inner) x y t (served-returns x y p h inner sv) w

-- ---- calls of others tell nothing of p

fed-off : (p s : ℕ) (r : Option Req) (a : _) (z : _) → ¬ (s ≡ p) → (fed s r a z).current p ≡ z.current p
fed-off p s none a z n = refl
fed-off p s (some r) a z n = put_other z.current s (z.current s ++ ((r, a) ∷ [])) p n

finished-off : (p q : ℕ) (a : Option Asked) (ns l : List ℕ) (z : _) → ¬ (q ≡ p) → (finished q a ns l z).current p ≡ z.current p
finished-off p zero a ns l z n = refl
finished-off p (suc k) none ns l z n = refl
finished-off p (suc k) (some a) ns l z n = fed-off p (suc k) (request_of a.code a.entry a.first a.second) (answer_of a.code ns l) z n

ended-off : (b : Bool) (t u : Told) → u.past ≡ t.past → (cond b u t).past ≡ t.past
ended-off true t u e = e
ended-off false t u e = refl

pub off-tells : (p : ℕ) (c : C.Call) (a : C.Answer) (l : List ℕ) (t : Told) → Off p c → (tell_answer c a l t).past.current p ≡ t.past.current p
off-tells p (C.format m) a l t n = absurd n
off-tells p (C.begin q) C.ok l t n = put_other t.past.current q [] p n
off-tells p (C.begin q) C.more l t n = refl
off-tells p (C.begin q) (C.wait w) l t n = refl
off-tells p (C.begin q) (C.done ns) l t n = refl
off-tells p (C.begin q) (C.refused i k) l t n = refl
off-tells p (C.put q c e f g) C.ok l t n = refl
off-tells p (C.put q c e f g) C.more l t n = refl
off-tells p (C.put q c e f g) (C.wait w) l t n = refl
off-tells p (C.put q c e f g) (C.done ns) l t n = refl
off-tells p (C.put q c e f g) (C.refused i k) l t n = refl
off-tells p (C.step q m) C.ok l t n = refl
off-tells p (C.step q m) C.more l t n = refl
off-tells p (C.step q m) (C.wait w) l t n = refl
off-tells p (C.step q m) (C.done ns) l t n = finished-off p q (t.hands q) ns l t.past n
off-tells p (C.step q m) (C.refused i k) l t n = ap (λ z. z.current p) (ended-off (C.ends_request i) t (C.take_in_hand q none t) refl)
off-tells p (C.commit q) C.ok l t n = put_other t.past.current q [] p n
off-tells p (C.commit q) C.more l t n = refl
off-tells p (C.commit q) (C.wait w) l t n = refl
off-tells p (C.commit q) (C.done ns) l t n = refl
off-tells p (C.commit q) (C.refused i k) l t n = refl
off-tells p (C.abort q) C.ok l t n = put_other t.past.current q [] p n
off-tells p (C.abort q) C.more l t n = refl
off-tells p (C.abort q) (C.wait w) l t n = refl
off-tells p (C.abort q) (C.done ns) l t n = refl
off-tells p (C.abort q) (C.refused i k) l t n = refl
off-tells p (C.ask q) C.ok l t n = refl
off-tells p (C.ask q) C.more l t n = refl
off-tells p (C.ask q) (C.wait w) l t n = refl
off-tells p (C.ask q) (C.done ns) l t n = refl
off-tells p (C.ask q) (C.refused i k) l t n = refl
off-tells p C.recover a l t n = absurd n

ordinary-off : (p q : ℕ) (h : Handed) (t : List Session) → ¬ (q ≡ p) → Off p (ordinary t q h)
ordinary-off p q h t n = go (hand_in t q)
  where
    go : (b : Bool) → Off p (cond b (C.step q []) (C.put q (named h).code (named h).entry (named h).first 0))
    go true = n
    go false = n

pub other-tells : {x y : Lending} {m : Mixed} {ks : List Turn} (p : ℕ) (t : Told) → Other p m → Is x m ks y → (told t ks).past.current p ≡ t.past.current p
other-tells p t n (itself {k} d) = off-tells p k.call k.answer k.list t n
other-tells p t n (refused e) = refl
other-tells {x} p t n (served {p = q} {h} inner z e sv) = off-tells p (ordinary x.table q h) inner [] t (ordinary-off p q h x.table n)

-- ---- a day call of p

-- What was told from t to u is requests j to i - 1 of the day, finished by p.
pub record Onward (p : ℕ) (h : Handed) (t u : Told) (j i : ℕ) : Type 0 where
  pub many : ℕ
  pub to : i ≡ j + many
  pub asked : finished_of p u ≡ finished_of p t ++ map as_request (from_place h j many)

onward-none : (p : ℕ) (h : Handed) (t u : Told) (j i : ℕ) → i ≡ j → u.past.current p ≡ t.past.current p → Onward p h t u j i
onward-none p h t u j i e q = record { many = 0; to = omega (arith, e); asked = ap (requests store) q ∙ sym (append-nil (finished_of p t)) }

-- The request in hand is the one named.
pub same-request : (x : Session) (r : DayRequest) → not (eqb x.stage 0) ≡ true → other_in_hand x r ≡ false → (x.code ≡ r.code) × (x.entry ≡ r.entry) × (x.first ≡ r.first)
unfolding other_in_hand
same-request x r e o = go (eqb x.code r.code) (eqb x.entry r.entry) (eqb x.first r.first) refl refl refl (sym (ap (λ b. b && not (eqb x.code r.code && (eqb x.entry r.entry && eqb x.first r.first))) e) ∙ o)
  where
    go : (a b c : Bool) → eqb x.code r.code ≡ a → eqb x.entry r.entry ≡ b → eqb x.first r.first ≡ c → not (a && (b && c)) ≡ false
        → (x.code ≡ r.code) × (x.entry ≡ r.entry) × (x.first ≡ r.first)
    go true true true p q s e = (eqb-true x.code r.code p, eqb-true x.entry r.entry q, eqb-true x.first r.first s)
    go true true false p q s e = absurd (true≢false {b = true} refl e)
    go true false c p q s e = absurd (true≢false {b = true} refl e)
    go false b c p q s e = absurd (true≢false {b = true} refl e)

request-named : (m : ℕ) (r : DayRequest) (g : ℕ) → Fitting m r → request_of r.code r.entry r.first g ≡ some (as_request r)
request-named m r g F = go F.kind
  where
    go : (r.code ≡ 2) ⊎ ((r.code ≡ 3) × (1 ≤ r.first) × (r.first ≤ 4293918719)) → request_of r.code r.entry r.first g ≡ some (as_request r)
    go (inl c) = rw c refl
    go (inr c) = rw c.0 refl

one_more : (m l : List (Req × Ans)) (d : Req × Ans) → m ≡ l ++ (d ∷ []) → requests store m ≡ requests store l ++ (d.0 ∷ [])
one_more m l d e = ap (requests store) e ∙ map-append (λ v. v.0) l (d ∷ [])

module _ (x y : Lending) (p : ℕ) (h : Handed) (t : Told) (w : Knows D.words t x) (z : day_refusal x.store x.table p h ≡ 0) where
  S : Sound x.store x.table
  S = w.sound

  P : Passed (M-of x.store) x.table p h
  P = passed (M-of x.store) x.table p h z

  -- The request that a step ends with done is told as the one named.
  done-tells : (q : ℕ) → q ≡ p → hand_in x.table p ≡ true → (ns : List ℕ)
      → finished_of p (tell_answer (C.step q []) (C.done ns) [] t) ≡ finished_of p t ++ (as_request (named h) ∷ [])
  unfolding request_in hand_in
  done-tells zero e b ns = absurd (P.session (sym e))
  done-tells (suc k) e b ns =
      let u = session_at x.table p in
      let same = same-request u (named h) b P.in_hand in
      let a : Asked = as_put (request_in u) in
      let hand : t.hands (suc k) ≡ some a = ap (λ v. t.hands v) e ∙ sym (w.hand_told p) ∙ ap hand_put (hand-is x.store x.table p [] S (step-passes (M-of x.store) x.table p h P b)) in
      let r : request_of u.code u.entry u.first u.second ≡ some (as_request (named h))
      = ap (λ v. request_of v u.entry u.first u.second) same.0 ∙ ap (λ v. request_of (named h).code v u.first u.second) same.1
      ∙ ap (λ v. request_of (named h).code (named h).entry v u.second) same.2 ∙ request-named (M-of x.store) (named h) u.second (named-fits (M-of x.store) x.table p h P) in
      let f : finished (suc k) (t.hands (suc k)) ns [] t.past ≡ fed (suc k) (some (as_request (named h))) (answer_of u.code ns []) t.past
      = ap (λ v. finished (suc k) v ns [] t.past) hand ∙ ap (λ v. fed (suc k) v (answer_of u.code ns []) t.past) r in
      let c : (finished (suc k) (t.hands (suc k)) ns [] t.past).current p ≡ t.past.current p ++ ((as_request (named h), answer_of u.code ns []) ∷ [])
      = ap (λ v. v.current p) f
      ∙ subst (λ v. (fed (suc k) (some (as_request (named h))) (answer_of u.code ns []) t.past).current v ≡ t.past.current v ++ ((as_request (named h), answer_of u.code ns []) ∷ [])) e
      (put_same t.past.current (suc k) (t.past.current (suc k) ++ ((as_request (named h), answer_of u.code ns []) ∷ []))) in
      one_more ((finished (suc k) (t.hands (suc k)) ns [] t.past).current p) (t.past.current p) (as_request (named h), answer_of u.code ns []) c

  -- The place after done is the next.
  pub done-place : (ns : List ℕ) → next_place h.place (renamed (day_count h) h.place (C.done ns)) ≡ h.place + 1
  done-place ns = go (ltb (h.place + 1) (2 * day_count h))
    where
      go : (b : Bool) → next_place h.place (cond b (More (h.place + 1)) (Done (day_count h) (h.place + 1))) ≡ h.place + 1
      go true = refl
      go false = refl

  step-onward : hand_in x.table p ≡ true → (inner : C.Answer) → Onward p h t (tell_answer (C.step p []) inner [] t) h.place (next_place h.place (renamed (day_count h) h.place inner))
  step-onward b C.ok = onward-none p h t t h.place h.place refl refl
  step-onward b C.more = onward-none p h t t h.place h.place refl refl
  step-onward b (C.wait q) = onward-none p h t t h.place h.place refl refl
  step-onward b (C.done ns) = record { many = 1; to = done-place ns; asked = done-tells p refl b ns }
  step-onward b (C.refused i k) =
      onward-none p h t (tell_answer (C.step p []) (C.refused i k) [] t) h.place h.place refl (ap (λ v. v.current p) (ended-off (C.ends_request i) t (C.take_in_hand p none t) refl))

  put-onward : (inner : C.Answer) → inner ≡ C.ok → (c e f g : ℕ)
      → Onward p h t (tell_answer (C.put p c e f g) inner [] t) h.place (next_place h.place (renamed (day_count h) h.place inner))
  put-onward inner e c i f g = subst (λ a. Onward p h t (tell_answer (C.put p c i f g) a [] t) h.place (next_place h.place (renamed (day_count h) h.place a))) (sym e)
      (onward-none p h t (tell_answer (C.put p c i f g) C.ok [] t) h.place h.place refl refl)

  pub put-ok : (inner : C.Answer) → hand_in x.table p ≡ false → Serves (C.put p (named h).code (named h).entry (named h).first 0) x.store x.table inner [] y.store y.table → inner ≡ C.ok
  put-ok inner b sv =
      (demand-1 (C.put p (named h).code (named h).entry (named h).first 0) x.store x.table inner [] y.store y.table (record { answers = λ _. sv; refuses = λ n. absurd (n S) })
      ).accepted_then S (put-passes (M-of x.store) x.table p h P b 0)

  -- An accepted day call: none or one more of the day's requests is finished, and the place says so.
  pub served-onward : (inner : C.Answer) → Serves (ordinary x.table p h) x.store x.table inner [] y.store y.table
      → Onward p h t (tell (ordinary_turn x p h inner) t) h.place (next_place h.place (renamed (day_count h) h.place inner))
  served-onward inner sv = go (hand_in x.table p) refl sv
    where
      go : (b : Bool) → hand_in x.table p ≡ b → Serves (cond b (C.step p []) (C.put p (named h).code (named h).entry (named h).first 0)) x.store x.table inner [] y.store y.table
          → Onward p h t (tell_answer (cond b (C.step p []) (C.put p (named h).code (named h).entry (named h).first 0)) inner [] t) h.place (next_place h.place (renamed (day_count h) h.place inner))
      go true b sv = step-onward b inner
      go false b sv = put-onward inner (put-ok inner b sv) (named h).code (named h).entry (named h).first 0

pub from-append : (h : Handed) (j a b : ℕ) → from_place h j (a + b) ≡ from_place h j a ++ from_place h (j + a) b
from-append h j zero b = ap (λ n. from_place h j n) {x = 0 + b} {y = b} (omega arith) ∙ ap (λ n. from_place h n b) {x = j} {y = j + 0} (omega arith)
from-append h j (suc a) b =
    ap (λ n. from_place h j n) {x = suc a + b} {y = suc (a + b)} (omega arith)
    ∙ ap (λ l. named (at_place h j) ∷ l) (from-append h (j + 1) a b ∙ ap (λ n. from_place h (j + 1) a ++ from_place h n b) {x = j + 1 + a} {y = j + suc a} (omega arith))

onward-both : (p : ℕ) (h : Handed) (t u v : Told) (j i l : ℕ) → Onward p h t u j i → Onward p h u v i l → Onward p h t v j l
onward-both p h t u v j i l a b = record {
  many = a.many + b.many;
  to = omega (arith, a.to, b.to);
  asked =
      b.asked
      ∙ ap (λ z. z ++ map as_request (from_place h i b.many)) a.asked
      ∙ append_assoc (finished_of p t) (map as_request (from_place h j a.many)) (map as_request (from_place h i b.many))
      ∙ ap (λ z. finished_of p t ++ z)
      (ap (λ n. map as_request (from_place h j a.many) ++ map as_request (from_place h n b.many)) a.to
      ∙ sym (map-append as_request (from_place h j a.many) (from_place h (j + a.many) b.many)) ∙ ap (map as_request) (sym (from-append h j a.many b.many)));
}

-- The place handed in does not matter for what from_place gives.
onward-place : (p : ℕ) (h : Handed) (j : ℕ) (t u : Told) (a b : ℕ) → Onward p (at_place h j) t u a b → Onward p h t u a b
onward-place p h j t u a b o = record { many = o.many; to = o.to; asked = o.asked ∙ ap (λ l. finished_of p t ++ map as_request l) (same a o.many) }
  where
    same : (a c : ℕ) → from_place (at_place h j) a c ≡ from_place h a c
    same a zero = refl
    same a (suc c) = ap (λ l. named (at_place h a) ∷ l) (same (a + 1) c)

mine-onward : {x y : Lending} (p : ℕ) (h : Handed) (j : ℕ) {ks : List Turn} (a : DayAnswer) (t : Told) → Knows D.words t x → Is x (day p (at_place h j) a) ks y
    → Onward p h t (told t ks) j (next_place j a)
mine-onward p h j a t w (refused {n} e) = onward-none p h t t j (next_place j a) (ap (next_place j) e) refl
mine-onward {x} {y} p h j a t w (served inner z e sv) =
    onward-place p h j t (tell (ordinary_turn x p (at_place h j) inner) t) j (next_place j a)
    (subst (λ v. Onward p (at_place h j) t (tell (ordinary_turn x p (at_place h j) inner) t) j (next_place j v)) (sym e)
    (served-onward x y p (at_place h j) t w z inner sv))

told-append : (t : Told) (ks ls : List Turn) → told t (ks ++ ls) ≡ told (told t ks) ls
told-append t [] ls = refl
told-append t (k ∷ ks) ls = told-append (tell k t) ks ls

-- From place j to place i: requests j to i - 1 of the day are finished, in this order, and no others of p.
pub thread-finishes : {x y : Lending} {ms : List Mixed} {ks : List Turn} {j i : ℕ} (p : ℕ) (h : Handed) (t : Told) → Knows D.words t x → Are x ms ks y → Thread p h j ms i
    → Onward p h t (told t ks) j i
thread-finishes {j} p h t w L.none end = onward-none p h t t j j refl refl
thread-finishes {j} {i} p h t w (more {ks} {ls} S b r) (other n th) =
    let u = told t ks in
    let o = onward-both p h t u (told u ls) j j i (onward-none p h t u j j refl (other-tells p t n b)) (thread-finishes p h u (knows-is t b w) r th) in
    subst (λ v. Onward p h t v j i) (sym (told-append t ks ls)) o
thread-finishes {j} {i} p h t w (more {ks} {ls} S b r) (mine {a} th) =
    let u = told t ks in
    let o = onward-both p h t u (told u ls) j (next_place j a) i (mine-onward p h j a t w b) (thread-finishes p h u (knows-is t b w) r th) in
    subst (λ v. Onward p h t v j i) (sym (told-append t ks ls)) o

-- The day's requests by their places are the day's requests.
pub places-from : (h : Handed) (j c : ℕ) (d : DayRequest) → j + c ≡ 2 * day_count h
    → from_place h j c ≡ drop j (day_requests h.bytes h.driver h.start h.entry)
places-from h j zero d e = sym (drop_of_length-le (day_requests h.bytes h.driver h.start h.entry) {i = j}
    (omega (arith, e, requests-many (day_key h.driver h.start) h.entry (stretches (words h.bytes)))))
places-from h j (suc c) d e =
    let rs = day_requests h.bytes h.driver h.start h.entry in
    let l : j < 2 * day_count h = omega (arith, e) in
    ap (λ r. r ∷ from_place h (j + 1) c) (request_is h.bytes h.driver h.start h.entry j d l)
    ∙ ap (λ z. get_or rs j d ∷ z) (places-from h (j + 1) c d (omega (arith, e)) ∙ ap (λ n. drop n rs) {x = j + 1} {y = suc j} (omega arith))
    ∙ sym (drop-cons rs j d (omega (arith, l, requests-many (day_key h.driver h.start) h.entry (stretches (words h.bytes)))))

-- A run of a day, from place 0 to the place past it: exactly the day's 2n requests are finished, in order.
pub day-finishes : {x y : Lending} {ms : List Mixed} {ks : List Turn} (p : ℕ) (h : Handed) (t : Told) → Knows D.words t x → Are x ms ks y → Thread p h 0 ms (2 * day_count h)
    → finished_of p (told t ks) ≡ finished_of p t ++ fed_by (day_key h.driver h.start) h.entry (stretches (words h.bytes))
day-finishes {ks} p h t w r th =
    let o = thread-finishes p h t w r th in
    o.asked ∙ ap (λ l. finished_of p t ++ map as_request l) (places-from h 0 o.many (record { code = 0; entry = 0; first = 0 }) (omega (arith, o.to)))

-- The place beside done is the one past the day.
pub done-past : (p n i : ℕ) (h : Handed) (s : List ℕ) (t : List Session) (s' : List ℕ) (t' : List Session) → Sound s t → Days p h s t (Done n i) s' t'
    → (n ≡ day_count h) × (i ≡ 2 * day_count h)
done-past p n i h s t s' t' S d = go (ℕ_discrete (day_refusal s t p h) 0)
  where
    by : (a : C.Answer) → h.place < 2 * day_count h → Done n i ≡ renamed (day_count h) h.place a → (n ≡ day_count h) × (i ≡ 2 * day_count h)
    by C.ok l e = let z : ◌≡◌ {A = ℕ} 0 1 = cc in absurd (omega arith)
    by C.more l e = let z : ◌≡◌ {A = ℕ} 0 1 = cc in absurd (omega arith)
    by (C.wait q) l e = let z : ◌≡◌ {A = ℕ} 0 1 = cc in absurd (omega arith)
    by (C.refused m k) l e = let z : ◌≡◌ {A = ℕ} 0 1 = cc in absurd (omega arith)
    by (C.done ns) l e = last (ltb (h.place + 1) (2 * day_count h)) refl e
      where
        last : (b : Bool) → ltb (h.place + 1) (2 * day_count h) ≡ b → Done n i ≡ cond b (More (h.place + 1)) (Done (day_count h) (h.place + 1)) → (n ≡ day_count h) × (i ≡ 2 * day_count h)
        last true b e = let z : ◌≡◌ {A = ℕ} 0 1 = cc in absurd (omega arith)
        last false b e =
            let k : i ≡ h.place + 1 = cc in
            (cc, omega (arith, k, l, ltb-false (h.place + 1) (2 * day_count h) b))

    go : Dec (day_refusal s t p h ≡ 0) → (n ≡ day_count h) × (i ≡ 2 * day_count h)
    go (yes z) = let R = (d.answers S).accepts z in by R.inner (passed (M-of s) t p h z).inside R.answer
    go (no m) = let e = ((d.answers S).refuses m).answer in let z : ◌≡◌ {A = ℕ} 0 1 = cc in absurd (omega arith)

-- ---- from a fresh store

knows-are : {x y : Lending} {ms : List Mixed} {ks : List Turn} (t : Told) → Are x ms ks y → Knows D.words t x → Knows D.words (told t ks) y
knows-are t L.none w = w
knows-are {y} t (more {ks} {ls} S i r) w = subst (λ u. Knows D.words u y) (sym (told-append t ks ls)) (knows-are (told t ks) r (knows-is t i w))

-- Any calls from a fresh store, then a run of a day: party p's finished requests are those before it and then exactly the day's.
pub fresh-day-finishes : (m : ℕ) (s s' : List ℕ) (t t' : List Session) → Formats m s t C.ok s' t' → (y z : Lending) (ms ns : List Mixed) (ks ls : List Turn) (p : ℕ) (h : Handed)
    → Are (record { store = s'; table = t' }) ms ks y → Are y ns ls z → Thread p h 0 ns (2 * day_count h)
    → finished_of p (told C.nothing (ks ++ ls)) ≡ finished_of p (told C.nothing ks) ++ fed_by (day_key h.driver h.start) h.entry (stretches (words h.bytes))
fresh-day-finishes m s s' t t' F y z ms ns ks ls p h a b th =
    let w = knows-are C.nothing a (formatted-known m s s' t t' F) in
    ap (finished_of p) (told-append C.nothing ks ls) ∙ day-finishes p h (told C.nothing ks) w b th
