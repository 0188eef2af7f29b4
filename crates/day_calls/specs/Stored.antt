-- A day stored in the words: while its minutes and entries see no other change, what a locate and reads give back are its bytes.
use Rattle.std.specs.Prelude.{◌≡◌, Bool, true, false, cond, not, List, [], ◌∷◌, ◌++◌, map, ◌⊎◌, ℕ, zero, suc, ◌+◌, ◌*◌, ◌/◌, ◌%◌, ◌≤◌, ◌<◌, eqb, ltb, length, get_or, drop}
use Rattle.std.proofs.Math.Path.{refl}
use Rattle.std.proofs.Common.{sym, ap, subst, ◌∙◌, inl, inr, arith, length-append, ext_get_or, eq-eqb, le-leb, lt-ltb}
use Rattle.std.proofs.lemmas.List.{map-append, length-map}
use Rattle.std.proofs.Math.Option.{Option, some}
use Rattle.std.proofs.Math.Decide.{ℕ_discrete}
use Rattle.std.proofs.Math.ListN.{get_or-map}
use Rattle.card_days.specs.declared.Stretch.{Stretch}
use Rattle.card_days.specs.Day.{words, minute, steady, proper, stretches, day_key, request_at, requests_of, write_of, insert_of, no_stretch, written_out, valued, stored, writable}
use Rattle.card_days.specs.Laws.{Bytes, Rises, Unrepeated, day-up, day-some, round_trip, stored-writable}
use Rattle.day_model.specs.Written.{as_request, fed_by, OfDay, SameDay, Valued, values_are, day_pairs, pairs-many, day-found, read_back, bytes_from, run-append, run-good, read-back-is}
use Rattle.sessions.specs.declared.Session.{Session}
use Rattle.sessions.specs.Sessions.{session_at}
use Rattle.serial.specs.Serial.{run_db, run_answers}
use Rattle.serial.specs.Model.{Db, Req, read, locate, Item, value, cell, get, eff, two_words}
use Rattle.serial.specs.Footprints.{Good, store, eff-local, Rd}
use Rattle.serial.specs.Calls as C
use Rattle.serial.specs.Codes.{length-two-words}
use Rattle.machine.specs.State.{State, Request, Answer, ok, more, wait, done, refused, session_of}
use Rattle.machine.specs.Calls as K
use Rattle.machine.specs.Events.{unfinished}
use Rattle.machine.specs.Looks.{fit_of}
use Rattle.machine.specs.Model.{model, model_is, model_good}
use Rattle.machine.specs.View.{items}
use Rattle.machine.specs.Session.{req_of}
use Rattle.machine.specs.Answers.{may_change}
use Rattle.machine.specs.Demand.{Tells}
use Rattle.meaning.specs.Reading.{M-of, meaning}
use Rattle.meaning.specs.Sound.{Sound}
use Rattle.layout.specs.Asked.{request_in}
use Rattle.refusals.specs.Refusing.{first_of, hand_in, step_list}
use Rattle.promises.specs.Relations.{outcome, Calls}
use Rattle.promises.specs.Ways.{Serves}
use Rattle.promises.specs.Demand2.{Modelled, demand-2, holders-2}
use Rattle.promises.specs.Demand1.{demand-1}
use Rattle.promises.specs.Steps.{hand-is}
use Rattle.promises.specs.Demands.{Lending}
use Rattle.outcomes.specs.declared.DayAnswer.{DayAnswer}
use Rattle.outcomes.specs.declared.DayAnswer.TheVariants.{More, Done}
use Rattle.day_calls.specs.Calling.{Handed, day_count, named, day_refusal, ordinary, renamed, Days}
use Rattle.day_calls.specs.Accepting.{Passed, passed, named-fits, step-passes, put-passes, minute-small}
use Rattle.day_calls.specs.Lists.{Mixed, Runs, one-is}
use Rattle.day_calls.specs.Lists as L
use Rattle.day_calls.specs.Threads.{at_place, next_place, Other, Thread, from_place, same-request, places-from, from-append}
use Rattle.day_calls.specs.Threads as T

abbrev pub state : Lending → State
state x = meaning x.store x.table

-- The first key of the day.
abbrev pub key-of : Handed → ℕ
key-of h = day_key h.driver h.start

-- The day's minutes hold no entry.
abbrev pub Bare : Handed → Lending → Type 0
Bare h x = (k e : ℕ) → key-of h ≤ k → k ≤ key-of h + 1439 → items (state x) (cell k e) ≡ 0

-- Its minutes and entries are as they were.
abbrev pub Same : Handed → Lending → Lending → Type 0
Same h x y = (i : Item) → OfDay (key-of h) h.entry (day_count h) i → items (state y) i ≡ items (state x) i

-- Party p stores the day, from place j at x to place i at y: day calls, each with the place that the one before returned, and between them anything,
-- whoever does it, that leaves the day's minutes and entries as they were.
pub data Stores (p : ℕ) (h : Handed) : ℕ → Lending → ℕ → Lending → Type 0 where
  end : {j : ℕ} {x : Lending} → Stores p h j x j x
  other : {j i : ℕ} {x y z : Lending} → Same h x y → Stores p h j y i z → Stores p h j x i z
  mine : {j i : ℕ} {x y z : Lending} {a : DayAnswer} → Sound x.store x.table → Days p (at_place h j) x.store x.table a y.store y.table
      → Stores p h (next_place j a) y i z → Stores p h j x i z

-- A database that has the day as the words have it.
abbrev pub Agrees : Handed → Lending → Db → Type 0
Agrees h x d = (i : Item) → OfDay (key-of h) h.entry (day_count h) i → items (state x) i ≡ get d i

-- ---- what a day call does to the day

-- The items of the day's requests are the day's.
named-reads : (m : ℕ) (t : List Session) (p : ℕ) (h : Handed) → Passed m t p h → (i : Item) → Rd (as_request (named h)) i → OfDay (key-of h) h.entry (day_count h) i
unfolding request_at
named-reads m t p h P i = go (eqb (h.place % 2) 0) i
  where
    go : (b : Bool) (i : Item)
        → Rd (as_request (cond b (write_of (h.entry + h.place / 2) (get_or (stretches (words h.bytes)) (h.place / 2) no_stretch))
        (insert_of (key-of h) (h.entry + h.place / 2) (get_or (stretches (words h.bytes)) (h.place / 2) no_stretch)))) i → OfDay (key-of h) h.entry (day_count h) i
    go true i r = absurd r
    go false i r =
        let l = minute-small 0 (stretches (words h.bytes)) (h.place / 2) (day-up (words h.bytes) P.is_proper) in
        subst (OfDay (key-of h) h.entry (day_count h)) (sym r) (omega arith, omega (arith, l))

-- Only a step that is done changes an item.
unless-done : (z : Answer) (a : C.Answer) → Tells z a → ((ns : List ℕ) → a ≡ C.done ns → ⊥) → unfinished z ≡ true
unless-done ok a e n = refl
unless-done more a e n = refl
unless-done (wait ps) a e n = refl
unless-done (done ns) a e n = absurd (n ns e)
unless-done (refused i k) a e n = refl

module _ (x y : Lending) (p : ℕ) (h : Handed) (S : Sound x.store x.table) (P : Passed (M-of x.store) x.table p h) where
  model-has : (i : Item) → get (model (state x)) i ≡ items (state x) i
  model-has i = model_is 0 4294967296 (state x) (fit_of S.state).rises i

  good-model : Good (model (state x))
  good-model = model_good 0 4294967296 (state x) (fit_of S.state).rises (fit_of S.state).listed

  kept_put : (c e f g : ℕ) (a : C.Answer) → Serves (C.put p c e f g) x.store x.table a [] y.store y.table → (i : Item) → items (state y) i ≡ items (state x) i
  kept_put c e f g a sv i =
      ((holders-2 (C.put p c e f g) x.store x.table a [] y.store y.table (record { answers = λ _. sv; refuses = λ n. absurd (n S) }) S).logical_kept refl).items_same i

  kept_step : (a : C.Answer) → Serves (C.step p []) x.store x.table a [] y.store y.table → ((ns : List ℕ) → a ≡ C.done ns → ⊥) → (i : Item) → items (state y) i ≡ items (state x) i
  kept_step a sv n i =
      ((holders-2 (C.step p []) x.store x.table a [] y.store y.table (record { answers = λ _. sv; refuses = λ k. absurd (k S) }) S
      ).logical_kept (go p)).items_same i
    where
      go : (q : ℕ) → may_change (K.step q 0) (outcome (C.step p []) x.store x.table).answer ≡ false
      go zero = refl
      go (suc k) = ap not (unless-done (outcome (C.step p []) x.store x.table).answer a sv.0.tells n)

  -- The request in hand is the one named.
  named-request : hand_in x.table p ≡ true → req_of (request_in (session_at x.table p)) ≡ as_request (named h)
  unfolding req_of request_in hand_in
  named-request b =
      let u = session_at x.table p in
      let same = same-request u (named h) b P.in_hand in
      go (named-fits (M-of x.store) x.table p h P).kind same
    where
      go : ((named h).code ≡ 2) ⊎ (((named h).code ≡ 3) × (1 ≤ (named h).first) × ((named h).first ≤ 4293918719))
          → ((session_at x.table p).code ≡ (named h).code) × ((session_at x.table p).entry ≡ (named h).entry) × ((session_at x.table p).first ≡ (named h).first)
          → req_of (request_in (session_at x.table p)) ≡ as_request (named h)
      go (inl c) s = rw (s.0, s.1, s.2, c) refl
      go (inr c) s = rw (s.0, s.1, s.2, c.0) refl

  -- Done: the day is changed as the model changes it.
  done_step : (d : Db) → Good d → Agrees h x d → hand_in x.table p ≡ true → (ns : List ℕ) → Serves (C.step p []) x.store x.table (C.done ns) [] y.store y.table
      → Agrees h y (eff (as_request (named h)) d)
  done_step d g A b ns sv i o =
      let z = step-passes (M-of x.store) x.table p h P b in
      let D = demand-2 p [] x.store x.table (C.done ns) [] y.store y.table (record { answers = λ _. sv; refuses = λ n. absurd (n S) }) S z in
      let M = D.answers P.session ns refl in
      M.after.items_are i
      ∙ ap (λ q. get (eff q (model (state x))) i) (named-request b)
      ∙ eff-local (as_request (named h)) (model (state x)) d good-model g (λ j r. model-has j ∙ A j (named-reads (M-of x.store) x.table p h P j r)) i (model-has i ∙ A i o)

-- A day call, accepted: the day is as before and so is the place, or the request named is done to the day and the place is the next.
pub record Turned (h : Handed) (x y : Lending) (j i : ℕ) : Type 0 where
  pub many : ℕ
  pub to : i ≡ j + many
  pub does : (d : Db) → Good d → Agrees h x d → Agrees h y (run_db store (map as_request (from_place h j many)) d)

turned_none : (h : Handed) (x y : Lending) (j i : ℕ) → i ≡ j → Same h x y → Turned h x y j i
turned_none h x y j i e s = record { many = 0; to = omega (arith, e); does = λ d g A k o. s k o ∙ A k o }

module _ (x y : Lending) (p : ℕ) (h : Handed) (j : ℕ) (S : Sound x.store x.table) (z : day_refusal x.store x.table p (at_place h j) ≡ 0) where
  P : Passed (M-of x.store) x.table p (at_place h j)
  P = passed (M-of x.store) x.table p (at_place h j) z

  abbrev after : C.Answer → ℕ
  after a = next_place j (renamed (day_count h) j a)

  step-turned : (a : C.Answer) → hand_in x.table p ≡ true → Serves (C.step p []) x.store x.table a [] y.store y.table → Turned h x y j (after a)
  step-turned C.ok b sv = turned_none h x y j j refl (λ i o. kept_step x y p (at_place h j) S P C.ok sv (λ ns e. let z : ◌≡◌ {A = ℕ} 0 1 = cc in omega arith) i)
  step-turned C.more b sv = turned_none h x y j j refl (λ i o. kept_step x y p (at_place h j) S P C.more sv (λ ns e. let z : ◌≡◌ {A = ℕ} 0 1 = cc in omega arith) i)
  step-turned (C.wait q) b sv = turned_none h x y j j refl (λ i o. kept_step x y p (at_place h j) S P (C.wait q) sv (λ ns e. let z : ◌≡◌ {A = ℕ} 0 1 = cc in omega arith) i)
  step-turned (C.refused n k) b sv = turned_none h x y j j refl (λ i o. kept_step x y p (at_place h j) S P (C.refused n k) sv (λ ns e. let z : ◌≡◌ {A = ℕ} 0 1 = cc in omega arith) i)
  step-turned (C.done ns) b sv = record {
    many = 1;
    to = place-next (ltb (j + 1) (2 * day_count h));
    does = λ d g A. done_step x y p (at_place h j) S P d g A b ns sv;
  }
    where
      place-next : (b : Bool) → next_place j (cond b (More (j + 1)) (Done (day_count h) (j + 1))) ≡ j + 1
      place-next true = refl
      place-next false = refl

  put-turned : (a : C.Answer) → hand_in x.table p ≡ false
      → Serves (C.put p (named (at_place h j)).code (named (at_place h j)).entry (named (at_place h j)).first 0) x.store x.table a [] y.store y.table → Turned h x y j (after a)
  put-turned a b sv =
      let e : a ≡ C.ok = (demand-1 (C.put p (named (at_place h j)).code (named (at_place h j)).entry (named (at_place h j)).first 0) x.store x.table a [] y.store y.table
      (record { answers = λ _. sv; refuses = λ n. absurd (n S) })).accepted_then S (put-passes (M-of x.store) x.table p (at_place h j) P b 0) in
      turned_none h x y j (after a) (ap after e) (λ i o. kept_put x y p (at_place h j) S P (named (at_place h j)).code (named (at_place h j)).entry (named (at_place h j)).first 0 a sv i)

  served-turned : (a : C.Answer) → Serves (ordinary x.table p (at_place h j)) x.store x.table a [] y.store y.table → Turned h x y j (after a)
  served-turned a sv = go (hand_in x.table p) refl sv
    where
      go : (b : Bool) → hand_in x.table p ≡ b
          → Serves (cond b (C.step p []) (C.put p (named (at_place h j)).code (named (at_place h j)).entry (named (at_place h j)).first 0)) x.store x.table a [] y.store y.table
          → Turned h x y j (after a)
      go true b sv = step-turned a b sv
      go false b sv = put-turned a b sv

day-turned : (x y : Lending) (p : ℕ) (h : Handed) (j : ℕ) (a : DayAnswer) → Sound x.store x.table → Days p (at_place h j) x.store x.table a y.store y.table
    → Turned h x y j (next_place j a)
day-turned x y p h j a S d = go (ℕ_discrete (day_refusal x.store x.table p (at_place h j)) 0)
  where
    go : Dec (day_refusal x.store x.table p (at_place h j) ≡ 0) → Turned h x y j (next_place j a)
    go (yes z) = let R = (d.answers S).accepts z in subst (λ w. Turned h x y j (next_place j w)) (sym R.answer) (served-turned x y p h j S z R.inner R.serves)
    go (no n) =
        let R = (d.answers S).refuses n in
        turned_none h x y j (next_place j a) (ap (next_place j) R.answer) (λ i o. ap (λ s. items (meaning s y.table) i) R.store_same ∙ ap (λ t. items (meaning x.store t) i) R.table_same)

-- ---- the whole day

pub stores-turned : (p : ℕ) (h : Handed) {j i : ℕ} {x y : Lending} → Stores p h j x i y → Turned h x y j i
stores-turned p h {j} {x} end = turned_none h x x j j refl (λ i o. refl)
stores-turned p h {j} {i} (other {x} {y} {z} s r) =
    let T = stores-turned p h r in
    record { many = T.many; to = T.to; does = λ d g A. T.does d g (λ k o. s k o ∙ A k o) }
stores-turned p h {j} {i} (mine {x} {y} {z} {a} S d r) =
    let T = day-turned x y p h j a S d in
    let U = stores-turned p h r in
    record {
      many = T.many + U.many;
      to = omega (arith, T.to, U.to);
      does = λ e g A k o.
          U.does (run_db store (map as_request (from_place h j T.many)) e) (run-good (map as_request (from_place h j T.many)) e g) (T.does e g A) k o
          ∙ ap (λ w. get w k)
          (ap (λ n. run_db store (map as_request (from_place h n U.many)) (run_db store (map as_request (from_place h j T.many)) e)) T.to
          ∙ sym (run-append (map as_request (from_place h j T.many)) (map as_request (from_place h (j + T.many) U.many)) e)
          ∙ ap (λ l. run_db store l e) (sym (map-append as_request (from_place h j T.many) (from_place h (j + T.many) U.many)))
          ∙ ap (λ l. run_db store (map as_request l) e) (sym (from-append h j T.many U.many)));
    }

-- Stored from place 0 to the place past the day, in minutes that held no entry, a day without repeats comes back byte for byte: from the locate and the
-- reads as the logical model of the words answers them, and by Demand2 (Modelled) so does a session's every finished request.
pub day-comes-back : (p : ℕ) (h : Handed) (x y : Lending) → Sound x.store x.table → Sound y.store y.table
    → Bytes h.bytes → length h.bytes % 2 ≡ 0 → proper (words h.bytes) ≡ true → Unrepeated (words h.bytes)
    → Bare h x
    → Stores p h 0 x (2 * day_count h) y
    → bytes_from (key-of h) (run_answers store (read_back (key-of h) h.entry (day_count h)) (model (state y))) ≡ h.bytes
day-comes-back p h x y S T b v q u free r =
    let has-x : (i : Item) → get (model (state x)) i ≡ items (state x) i = λ i. model_is 0 4294967296 (state x) (fit_of S.state).rises i in
    let has-y : (i : Item) → get (model (state y)) i ≡ items (state y) i = λ i. model_is 0 4294967296 (state y) (fit_of T.state).rises i in
    let gx : Good (model (state x)) = model_good 0 4294967296 (state x) (fit_of S.state).rises (fit_of S.state).listed in
    let gy : Good (model (state y)) = model_good 0 4294967296 (state y) (fit_of T.state).rises (fit_of T.state).listed in
    let W = stores-turned p h r in
    let l : from_place h 0 W.many ≡ requests_of (key-of h) h.entry (stretches (words h.bytes))
    = places-from h 0 W.many (record { code = 0; entry = 0; first = 0 }) (omega (arith, W.to)) in
    read-back-is h.bytes (key-of h) h.entry (model (state x)) (model (state y)) b v q u gx gy (λ k e i. has-x (cell k e) ∙ free k e i.0 i.1)
    (λ i o. has-y i ∙ W.does (model (state x)) gx (λ k m. sym (has-x k)) i o ∙ ap (λ z. get (run_db store (map as_request z) (model (state x))) i) l)

-- ---- the session's own locate and reads

nth-valued : (d : Db) (e : ℕ) (ss : List Stretch) (i : ℕ) → Valued d e ss → i < length ss → d.values (e + i) ≡ (get_or ss i no_stretch).value
nth-valued d e [] i v l = absurd (omega (arith, l))
nth-valued d e (st ∷ ss) zero v l = ap d.values {x = e + 0} {y = e} (omega arith) ∙ v.0
nth-valued d e (st ∷ ss) (suc i) v l = ap d.values {x = e + suc i} {y = e + 1 + i} (omega arith) ∙ nth-valued d (e + 1) ss i v.1 (omega (arith, l))

module _ (p : ℕ) (h : Handed) (x y : Lending) (S : Sound x.store x.table) (T : Sound y.store y.table) (r : Stores p h 0 x (2 * day_count h) y) where
  -- The day in the words, as the model has it after the day's requests.
  pub same-day : SameDay (key-of h) h.entry (day_count h) (run_db store (fed_by (key-of h) h.entry (stretches (words h.bytes))) (model (state x))) (model (state y))
  same-day i o =
      let W = stores-turned p h r in
      let gx : Good (model (state x)) = model_good 0 4294967296 (state x) (fit_of S.state).rises (fit_of S.state).listed in
      model_is 0 4294967296 (state y) (fit_of T.state).rises i
      ∙ W.does (model (state x)) gx (λ k m. sym (model_is 0 4294967296 (state x) (fit_of S.state).rises k)) i o
      ∙ ap (λ z. get (run_db store (map as_request z) (model (state x))) i) (places-from h 0 W.many (record { code = 0; entry = 0; first = 0 }) (omega (arith, W.to)))

  -- A locate of the day's minutes that is done answers the number of stretches and writes the pairs (key, entry) of the day.
  pub locate-writes : proper (words h.bytes) ≡ true → Bare h x
      → (l ns l' s' : List ℕ) (t' : List Session) → Modelled (locate (key-of h) (key-of h + 1439)) y.store y.table l ns l' s' t'
      → (ns ≡ day_count h ∷ []) × (l' ≡ two_words (day_pairs (key-of h) h.entry (stretches (words h.bytes))) ++ drop (length (two_words (day_pairs (key-of h) h.entry (stretches (words h.bytes))))) l)
  locate-writes q free l ns l' s' t' M =
      let gx : Good (model (state x)) = model_good 0 4294967296 (state x) (fit_of S.state).rises (fit_of S.state).listed in
      let gy : Good (model (state y)) = model_good 0 4294967296 (state y) (fit_of T.state).rises (fit_of T.state).listed in
      let f = day-found (key-of h) h.entry (stretches (words h.bytes)) (day-up (words h.bytes) q) (model (state x)) (model (state y)) gx gy
      (λ k e i. model_is 0 4294967296 (state x) (fit_of S.state).rises (cell k e) ∙ free k e i.0 i.1) same-day in
      (M.number_is ∙ ap (λ a. a.numbers) f, M.list_is ∙ ap (λ a. a.words ++ drop (length a.words) l) f)

  -- A read of entry i of the day that is done answers the value of stretch i.
  pub read-says : (i : ℕ) → i < day_count h → (l ns l' s' : List ℕ) (t' : List Session) → Modelled (read (h.entry + i)) y.store y.table l ns l' s' t'
      → ns ≡ (get_or (stretches (words h.bytes)) i no_stretch).value ∷ []
  read-says i b l ns l' s' t' M =
      let k0 = key-of h in
      let ss = stretches (words h.bytes) in
      M.number_is ∙ ap (λ v. v ∷ []) (same-day (value (h.entry + i)) (omega arith, omega (arith, b))
      ∙ nth-valued (run_db store (fed_by k0 h.entry ss) (model (state x))) h.entry ss i (values_are k0 h.entry ss (model (state x))) b)

-- ---- together

-- At some state that the stored day leads to, a read of entry i of the day is done and answers v.
pub record ReadAt (p : ℕ) (h : Handed) (x : Lending) (i v : ℕ) : Type 0 where
  pub at : Lending
  pub sound : Sound at.store at.table
  pub stores : Stores p h 0 x (2 * day_count h) at
  pub list : List ℕ
  pub list' : List ℕ
  pub store' : List ℕ
  pub table' : List Session
  pub modelled : Modelled (read (h.entry + i)) at.store at.table list (v ∷ []) list' store' table'

head-same : (a b : ℕ) → ◌≡◌ {A = List ℕ} (a ∷ []) (b ∷ []) → a ≡ b
head-same a b e = cc

valued-over : (k0 e : ℕ) (ss : List Stretch) (rest : List ℕ) → valued (two_words (day_pairs k0 e ss) ++ rest) (map (λ st. st.value) ss) ≡ stored k0 ss
unfolding valued stored
valued-over k0 e [] rest = refl
valued-over k0 e (st ∷ ss) rest = ap (λ z. (k0 + st.minute, st.value) ∷ z) (valued-over k0 (e + 1) ss rest)

-- The session's own locate, and its own reads of the entries, each at a state that the stored day leads to: the list at exit and the numbers are what the day is stored as.
session-finds : (p : ℕ) (h : Handed) (x y : Lending) → Sound x.store x.table → Sound y.store y.table → proper (words h.bytes) ≡ true → Bare h x
    → Stores p h 0 x (2 * day_count h) y
    → (l ns l' s' : List ℕ) (t' : List Session) → Modelled (locate (key-of h) (key-of h + 1439)) y.store y.table l ns l' s' t'
    → (vs : List ℕ) → length vs ≡ day_count h → ((i : ℕ) → i < day_count h → ReadAt p h x i (get_or vs i 0))
    → (valued l' vs ≡ stored (key-of h) (stretches (words h.bytes))) × (2 * length vs ≤ length l')
session-finds p h x y S T q free r l ns l' s' t' M vs n reads =
    let k0 = key-of h in
    let ss = stretches (words h.bytes) in
    let ps = two_words (day_pairs k0 h.entry ss) in
    let found = (locate-writes p h x y S T r q free l ns l' s' t' M).1 in
    let same : vs ≡ map (λ st. st.value) ss
    = ext_get_or 0 vs (map (λ st. st.value) ss) (n ∙ sym (length-map ss (λ st. st.value))) (λ i c.
    let R = reads i (omega (arith, n, c)) in
    head-same (get_or vs i 0) (get_or ss i no_stretch).value
    (read-says p h x R.at S R.sound R.stores i (omega (arith, n, c)) R.list (get_or vs i 0 ∷ []) R.list' R.store' R.table' R.modelled)
    ∙ sym (get_or-map (λ st. st.value) ss i no_stretch)) in (
      ap (λ z. valued z vs) found ∙ ap (valued (ps ++ drop (length ps) l)) same ∙ valued-over k0 h.entry ss (drop (length ps) l),
      omega (arith, n, ap length found, length-append ps (drop (length ps) l), length-two-words (day_pairs k0 h.entry ss), pairs-many k0 h.entry ss),
    )

-- ---- a list of calls

-- No call of another party changes an item of the day,
abbrev pub OthersKeep : {x y : Lending} {ms : List Mixed} → ℕ → Handed → Runs x ms y → Type 0
OthersKeep p h L.stop = Unit {0}
OthersKeep p h (L.next {x} {y} {z} {m} d r) = (Other p m → Same h x y) × OthersKeep p h r

-- or no call does.
abbrev pub AllKeep : {x y : Lending} {ms : List Mixed} → Handed → Runs x ms y → Type 0
AllKeep h L.stop = Unit {0}
AllKeep h (L.next {x} {y} d r) = Same h x y × AllKeep h r

pub runs-sound : {x y : Lending} {ms : List Mixed} → Sound x.store x.table → Runs x ms y → Sound y.store y.table
runs-sound S L.stop = S
runs-sound S (L.next {x} {y} {z} {m} d r) = runs-sound (one-is x y m S d).2 r

-- A run of a day, while its minutes and entries see no other change.
pub runs-store : {x y : Lending} {ms : List Mixed} {j i : ℕ} (p : ℕ) (h : Handed) → Sound x.store x.table → (r : Runs x ms y) → Thread p h j ms i → OthersKeep p h r
    → Stores p h j x i y
runs-store p h S L.stop T.end k = end
runs-store p h S (L.next {x} {y} {z} {m} d r) (T.other n th) k = other (k.0 n) (runs-store p h (one-is x y m S d).2 r th k.1)
runs-store p h S (L.next {x} {y} {z} {m} d r) (T.mine th) k = mine S d (runs-store p h (one-is x y m S d).2 r th k.1)

runs_same : {x y : Lending} {ms : List Mixed} (h : Handed) (r : Runs x ms y) → AllKeep h r → Same h x y
runs_same h L.stop k = λ i o. refl
runs_same h (L.next d r) k = λ i o. runs_same h r k.1 i o ∙ k.0 i o

then_same : (p : ℕ) (h : Handed) {j i : ℕ} {x y z : Lending} → Stores p h j x i y → Same h y z → Stores p h j x i z
then_same p h end k = other k end
then_same p h (other s r) k = other s (then_same p h r k)
then_same p h (mine S d r) k = mine S d (then_same p h r k)

-- ---- what a day call that is accepted tells

abbrev Whole : ℕ → Handed → Type 0
Whole p h = (length h.bytes % 2 ≡ 0) × ¬ (p ≡ 0)

moved-whole : (p : ℕ) (h : Handed) (j i : ℕ) (a : DayAnswer) (x y : Lending) → Sound x.store x.table → Days p (at_place h j) x.store x.table a y.store y.table
    → (i ≡ next_place j a) ⊎ Whole p h → (i ≡ j) ⊎ Whole p h
moved-whole p h j i a x y S d w = go (ℕ_discrete (day_refusal x.store x.table p (at_place h j)) 0)
  where
    go : Dec (day_refusal x.store x.table p (at_place h j) ≡ 0) → (i ≡ j) ⊎ Whole p h
    go (yes e) = let P = passed (M-of x.store) x.table p (at_place h j) e in inr (omega (arith, P.whole), P.session)
    go (no n) = subst (λ k. (i ≡ k) ⊎ Whole p h) (ap (next_place j) ((d.answers S).refuses n).answer) w

stores-whole : (p : ℕ) (h : Handed) {j i : ℕ} {x y : Lending} → Stores p h j x i y → (i ≡ j) ⊎ Whole p h
stores-whole p h end = inl refl
stores-whole p h (other s r) = stores-whole p h r
stores-whole p h {j} {i} (mine {x} {y} {z} {a} S d r) = moved-whole p h j i a x y S d (stores-whole p h r)

rises-steady : (lo : ℕ) (ws : List ℕ) → Rises lo ws → steady lo ws ≡ true
unfolding steady
rises-steady lo [] r = refl
rises-steady lo (w ∷ ws) r = rw (le-leb lo (minute w) (omega (arith, r.0)), lt-ltb (minute w) 1440 r.1) (rises-steady (minute w) ws r.2)

unrepeated-proper : (ws : List ℕ) → Unrepeated ws → proper ws ≡ true
unfolding proper
unrepeated-proper [] u = absurd u
unrepeated-proper (w ∷ ws) u = rw (eq-eqb (minute w) 0 u.0) (rises-steady 0 ws u.1)

stored-whole : {x y : Lending} (p : ℕ) (h : Handed) → proper (words h.bytes) ≡ true → Stores p h 0 x (2 * day_count h) y → Whole p h
stored-whole p h q r = go (stores-whole p h r)
  where
    go : (2 * day_count h ≡ 0) ⊎ Whole p h → Whole p h
    go (inl e) = absurd (omega (arith, e, day-some (words h.bytes) q))
    go (inr w) = w

-- ---- written out again

-- From y on, any calls, by anyone, that leave the day's minutes and entries as they were; then party p, which has the request q in hand, makes a step that is
-- done, with the list l lent and l' at exit.
pub record Finishes (p : ℕ) (h : Handed) (y : Lending) (q : Req) (l ns l' : List ℕ) : Type 0 where
  pub calls : List Mixed
  pub at : Lending
  pub run : Runs y calls at
  pub kept : AllKeep h run
  pub hand : Request
  pub in_hand : (session_of p (state at)).hand ≡ some hand
  pub asks : req_of hand ≡ q
  pub after : Lending
  pub steps : Calls (C.step p l) at.store at.table (C.done ns) l' after.store after.table

some_same : (r q : Request) → ◌≡◌ {A = Option Request} (some r) (some q) → r ≡ q
some_same r q e = cc

done-passes : (p : ℕ) (l ns l' : List ℕ) (x y : Lending) → Sound x.store x.table → Calls (C.step p l) x.store x.table (C.done ns) l' y.store y.table
    → first_of (step_list x.table p) ≡ 0
done-passes p l ns l' x y S d = go (ℕ_discrete (first_of (step_list x.table p)) 0)
  where
    go : Dec (first_of (step_list x.table p) ≡ 0) → first_of (step_list x.table p) ≡ 0
    go (yes z) = z
    go (no n) =
        let e = (demand-1 (C.step p l) x.store x.table (C.done ns) l' y.store y.table d).refused_first S n in
        let z : ◌≡◌ {A = ℕ} 0 1 = cc in
        absurd (omega arith)

done-modelled : (p : ℕ) (h : Handed) (y : Lending) (q : Req) (l ns l' : List ℕ) → Sound y.store y.table → ¬ (p ≡ 0) → (F : Finishes p h y q l ns l')
    → Modelled q F.at.store F.at.table l ns l' F.after.store F.after.table
done-modelled p h y q l ns l' S n F =
    let x = F.at in
    let T = runs-sound S F.run in
    let z = done-passes p l ns l' x F.after T F.steps in
    let D = demand-2 p l x.store x.table (C.done ns) l' F.after.store F.after.table F.steps T z in
    let e = some_same (request_in (session_at x.table p)) F.hand (sym (hand-is x.store x.table p l T z) ∙ F.in_hand) in
    subst (λ r. Modelled r x.store x.table l ns l' F.after.store F.after.table) (ap req_of e ∙ F.asks) (D.answers n ns refl)

-- The session reads the day back: its locate of the day's minutes, with l' the list at exit, and its read of each of the day's entries, with vs the numbers beside done.
pub record ReadsBack (p : ℕ) (h : Handed) (y : Lending) (l' vs : List ℕ) : Type 0 where
  pub list : List ℕ
  pub numbers : List ℕ
  pub locates : Finishes p h y (locate (key-of h) (key-of h + 1439)) list numbers l'
  pub many : length vs ≡ day_count h
  pub reads : (i : ℕ) → i < day_count h → (k : List ℕ) × (k' : List ℕ) × Finishes p h y (read (h.entry + i)) k (get_or vs i 0 ∷ []) k'

found-again : {x y : Lending} {ms : List Mixed} (p : ℕ) (h : Handed) (l' vs : List ℕ) → proper (words h.bytes) ≡ true → Sound x.store x.table → Bare h x
    → (run : Runs x ms y) → Thread p h 0 ms (2 * day_count h) → OthersKeep p h run → ReadsBack p h y l' vs
    → (valued l' vs ≡ stored (key-of h) (stretches (words h.bytes))) × (2 * length vs ≤ length l') × (length h.bytes % 2 ≡ 0)
found-again {x} {y} p h l' vs q S free run th keep B =
    let D = runs-store p h S run th keep in
    let Y = runs-sound S run in
    let w = stored-whole p h q D in
    let F = B.locates in
    let f = session-finds p h x F.at S (runs-sound Y F.run) q free (then_same p h D (runs_same h F.run F.kept))
    B.list B.numbers l' F.after.store F.after.table (done-modelled p h y (locate (key-of h) (key-of h + 1439)) B.list B.numbers l' Y w.1 F)
    vs B.many (λ i c. let R = B.reads i c in record {
      at = R.2.at;
      sound = runs-sound Y R.2.run;
      stores = then_same p h D (runs_same h R.2.run R.2.kept);
      list = R.0;
      list' = R.1;
      store' = R.2.after.store;
      table' = R.2.after.table;
      modelled = done-modelled p h y (read (h.entry + i)) R.0 (get_or vs i 0 ∷ []) R.1 Y w.1 R.2;
    }) in
    (f.0, f.1, w.0)

pub written-out-again : {x y : Lending} {ms : List Mixed} (p : ℕ) (h : Handed) (l' vs : List ℕ)
    -- A day stored without repeats,
    → Bytes h.bytes → Unrepeated (words h.bytes)
    -- in minutes that held no entry before,
    → Sound x.store x.table → Bare h x
    -- by a session whose calls are the day's, from the first place to the one past the day, each with the place that the one before returned,
    → (run : Runs x ms y) → Thread p h 0 ms (2 * day_count h)
    -- while its minutes and entries see no other change,
    → OthersKeep p h run
    -- is written out again from what that session locates and reads, while they see none,
    → ReadsBack p h y l' vs
    -- byte for byte.
    → written_out (key-of h) (valued l' vs) ≡ h.bytes
written-out-again p h l' vs b u S free run th keep B =
    let f = found-again p h l' vs (unrepeated-proper (words h.bytes) u) S free run th keep B in
    ap (written_out (key-of h)) f.0 ∙ round_trip (key-of h) h.bytes b f.2 u

-- With room for the bytes they can be written (card_days, write_day); also where minutes are repeated.
pub writable-again : {x y : Lending} {ms : List Mixed} (p : ℕ) (h : Handed) (l' vs : List ℕ) → Bytes h.bytes → proper (words h.bytes) ≡ true
    → Sound x.store x.table → Bare h x → (run : Runs x ms y) → Thread p h 0 ms (2 * day_count h) → OthersKeep p h run → ReadsBack p h y l' vs
    → (room : ℕ) → 2 * length vs ≤ room → writable (key-of h) l' vs room ≡ true
writable-again p h l' vs b q S free run th keep B room r =
    let f = found-again p h l' vs q S free run th keep B in
    stored-writable (key-of h) h.bytes l' vs room b q f.0 f.1 r
