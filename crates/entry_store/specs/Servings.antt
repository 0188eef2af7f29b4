-- Lists of calls with runs, requests, batches and day calls among them, as a C program sees them: answers, steps and places are read off the numbers. Demand 3
-- of them, and the order of begins.
use Rattle.std.specs.Prelude.{◌≡◌, Bool, true, false, cond, List, [], ◌∷◌, ◌++◌, ℕ, zero, suc, ◌+◌, ◌*◌, ◌/◌, ◌%◌, ltb, length, replicate}
use Rattle.std.proofs.Math.Path.{refl, ap}
use Rattle.std.proofs.Common.{sym, subst, ◌∙◌, arith}
use Rattle.std.proofs.Math.Decide.{ℕ_discrete}
use Rattle.sessions.specs.declared.Session.{Session}
use Rattle.sessions.specs.Sessions.{parties}
use Rattle.serial.specs.Calls.{Turn, nothing, told, Run, stop, next, Demand3}
use Rattle.serial.specs.Calls as C
use Rattle.serial.specs.Locks.{Kind, Mode}
use Rattle.serial.specs.Line.{line}
use Rattle.serial.specs.Recovery.{AskedSince}
use Rattle.machine.specs.State.{fresh}
use Rattle.machine.specs.Calls.{records_for}
use Rattle.machine.specs.Ledger.{no_locks, ledger_after}
use Rattle.machine.specs.Held.{calls_on}
use Rattle.outcomes.specs.declared.Answer.{Answer}
use Rattle.outcomes.specs.declared.Answer.TheVariants.{Refused}
use Rattle.outcomes.specs.declared.DayAnswer.{DayAnswer}
use Rattle.outcomes.specs.declared.DayAnswer.TheVariants as Day
use Rattle.outcomes.specs.Said.{said, day_said, day_place}
use Rattle.promises.specs.Demands.{Lending, words}
use Rattle.promises.specs.Holding.{holders_in}
use Rattle.promises.specs.Line.{InLine}
use Rattle.promises.specs.Runs.{calling, put_turn, step_turn, steps}
use Rattle.promises.specs.Runs as R
use Rattle.asking.specs.declared.Asking.{Asking}
use Rattle.asking.specs.declared.Asking.TheVariants as K
use Rattle.asking.specs.Asks.{asking_at}
use Rattle.batches.specs.Batches.{Asks, MadeAt, Batched, none, last, goes, Fits}
use Rattle.batches.specs.Demand3.{seen, batch_seen}
use Rattle.serial.specs.Serial.{true≢false}
use Rattle.refusals.specs.Refusing.{first_of}
use Rattle.meaning.specs.Sound.{Sound}
use Rattle.day_calls.specs.Calling.{Handed, day_count, day_refusal, ordinary, renamed, DayServes, Days}
use Rattle.day_calls.specs.Lists.{day, Is, one-is}
use Rattle.store.specs.declared.DayAsk.{DayAsk}
use Rattle.store.specs.declared.Go.{Go}
use Rattle.store.specs.declared.Wish.{Wish}
use Rattle.store.specs.Lent.{Formatted}
use Rattle.store.specs.Listed.{Listed, RanBy, AskedBy}
use Rattle.store.specs.Batched as SB
use Rattle.store.specs.Days.{handed_by, DayBy, served-calls}
use Rattle.store.specs.Turns.{SoundLent, sound-long, Loan, TurnedAway}
use Rattle.store.specs.Servings.{SeenOf, Returned, LoanRefused, Away, Returneds, returneds-demand-3, returneds-holders, returneds-line, returneds-ask}
use Rattle.store.specs.Servings as L
use Rattle.packing.specs.Packed.{unpacked, unpacked_day, PacksMade, made-steps, made-answer, day-unpacked, day-place-read}
use Rattle.entry_store.specs.Brief.{brief, calls-brief}
use Rattle.entry_store.specs.Exported.{Told, ToldMade, ToldBatch, ToldDay}
use Rattle.entry_store.specs.Turns.{small_of, Exchange, turn_of, Exported, lends, format-ok}

-- ---- the answer and the steps read off the number

abbrev pub answer_in : ℕ → C.Answer
answer_in r = unpacked (r % 1125899906842624)

abbrev pub steps_in : ℕ → ℕ
steps_in r = r / 1125899906842624

pub reads_made : (n : ℕ) (a : C.Answer) (r : ℕ) → PacksMade n a r → brief a ≡ true → (answer_in r ≡ a) × (steps_in r ≡ n)
reads_made n a r P e = (made-answer n a r P (small_of a P.words e), made-steps n a r P)

-- The last answer of a list of ordinary calls is brief, and so is that of any ask.
last-brief : (ks : List Turn) (k : Turn) {x y : Lending} → Run calling x (ks ++ k ∷ []) y → brief k.answer ≡ true
last-brief [] k (next {x} {y} d r) = calls-brief k.call x.store x.table k.answer k.list y.store y.table d
last-brief (j ∷ ks) k (next d r) = last-brief ks k r

steps-brief : (n p : ℕ) (l l' : List ℕ) (a : C.Answer) {x y : Lending} → ¬ (n ≡ 0) → Run calling x (steps n p l a l') y → brief a ≡ true
steps-brief zero p l l' a z r = absurd (z refl)
steps-brief (suc i) p l l' a z r = last-brief (replicate i (step_turn p l C.more l)) (step_turn p l a l') r

asked-brief : (n p c e f g : ℕ) (l l' : List ℕ) (a : C.Answer) {x y : Lending} → Run calling x (R.asks n p c e f g l a l') y → brief a ≡ true
asked-brief zero p c e f g l l' a r = last-brief [] (put_turn p c e f g a) r
asked-brief (suc i) p c e f g l l' a (next d r) = steps-brief (suc i) p l l' a (λ z. omega (arith, z)) r

pub asks-brief : (k : Asking) (s : List ℕ) (t : List Session) (l : List ℕ) (a : C.Answer) (n : ℕ) (l' s' : List ℕ) (t' : List Session) → Asks k s t l a n l' s' t' → brief a ≡ true
asks-brief (K.Begin p) s t l a n l' s' t' h = calls-brief (C.begin p) s t a [] s' t' h.0
asks-brief (K.Put p c e f g) s t l a n l' s' t' h = calls-brief (C.put p c e f g) s t a [] s' t' h.0
asks-brief (K.Step p) s t l a n l' s' t' h = calls-brief (C.step p l) s t a l' s' t' h.0
asks-brief (K.Commit p) s t l a n l' s' t' h = calls-brief (C.commit p) s t a [] s' t' h.0
asks-brief (K.Abort p) s t l a n l' s' t' h = calls-brief (C.abort p) s t a [] s' t' h.0
asks-brief (K.Ask p) s t l a n l' s' t' h = calls-brief (C.ask p) s t a [] s' t' h.0
asks-brief (K.Run p b) s t l a n l' s' t' h = steps-brief n p l l' a (λ z. omega (arith, z, h.within.some)) h.made
asks-brief (K.Request p c e f g b) s t l a n l' s' t' h = asked-brief n p c e f g l l' a h.made
asks-brief K.Other s t l a n l' s' t' h = ap brief h.0

-- ---- a batch's answers, read off its numbers

module _ {w : List ℕ} where
  -- What C sees: ask after ask, with the answer and the steps that its number has.
  pub batch-read : {i : ℕ} {s : List ℕ} {t : List Session} {l rs l' s' : List ℕ} {t' : List Session} → Batched w i s t l rs l' s' t' → List Turn
  batch-read (none h) = []
  batch-read (last {i} {r} {l = l} {l' = l'} m e) = seen (asking_at w i) l (answer_in r) (steps_in r) l'
  batch-read (goes {i} {r} {l = l} {l₁ = l₁} m e b) = seen (asking_at w i) l (answer_in r) (steps_in r) l₁ ++ batch-read b

  seen_read : {i : ℕ} {s : List ℕ} {t : List Session} {l : List ℕ} {a : C.Answer} {r : ℕ} {l' s' : List ℕ} {t' : List Session} (m : MadeAt w i s t l a r l' s' t')
      → seen (asking_at w i) l (answer_in r) (steps_in r) l' ≡ seen (asking_at w i) l a m.steps l'
  seen_read {i} {s} {t} {l} {a} {r} {l'} {s'} {t'} m =
      let q = reads_made m.steps a r m.packs (asks-brief (asking_at w i) s t l a m.steps l' s' t' m.made) in
      ap (λ z. seen (asking_at w i) l z (steps_in r) l') q.0 ∙ ap (λ z. seen (asking_at w i) l a z l') q.1

  pub batch-reads : {i : ℕ} {s : List ℕ} {t : List Session} {l rs l' s' : List ℕ} {t' : List Session} (b : Batched w i s t l rs l' s' t') → batch-read b ≡ batch_seen b
  unfolding batch-read batch_seen
  batch-reads (none h) = refl
  batch-reads (last m e) = seen_read m
  batch-reads (goes {i} {r} {a = a} {l = l} {l₁ = l₁} m e b) =
      ap (λ z. z ++ batch-read b) (seen_read m) ∙ ap (λ z. seen (asking_at w i) l a m.steps l₁ ++ z) (batch-reads b)

-- ---- a day call's answer, read off its number

brief-renamed : (n j : ℕ) (i : C.Answer) → brief i ≡ true → brief (day_said (renamed n j i)) ≡ true
brief-renamed n j C.ok e = refl
brief-renamed n j C.more e = refl
brief-renamed n j (C.wait q) e = refl
brief-renamed n j (C.done ns) e = go (ltb (j + 1) (2 * n))
  where
    go : (b : Bool) → brief (day_said (cond b (Day.More (j + 1)) (Day.Done n (j + 1)))) ≡ true
    go true = refl
    go false = refl
brief-renamed n j (C.refused m k) e = e

-- Its own refusals have small numbers,
small-first : (a b k c d e f g : Bool) → ltb (first_of ((4, a) ∷ (5, b) ∷ (21, k) ∷ (6, c) ∷ (13, d) ∷ (14, e) ∷ (8, f) ∷ (9, g) ∷ [])) 256 ≡ true
unfolding first_of
small-first true b k c d e f g = refl
small-first false true k c d e f g = refl
small-first false false true c d e f g = refl
small-first false false false true d e f g = refl
small-first false false false false true e f g = refl
small-first false false false false false true f g = refl
small-first false false false false false false true g = refl
small-first false false false false false false false true = refl
small-first false false false false false false false false = refl

-- and the call that it is has a brief answer.
serves-brief : (p : ℕ) (h : Handed) (s : List ℕ) (t : List Session) (a : DayAnswer) (s' : List ℕ) (t' : List Session) → Sound s t → DayServes p h s t a s' t' → brief (day_said a) ≡ true
serves-brief p h s t a s' t' S d = go (ℕ_discrete (day_refusal s t p h) 0)
  where
    go : Dec (day_refusal s t p h ≡ 0) → brief (day_said a) ≡ true
    go (yes z) =
        let R = d.accepts z in
        let c = calls-brief (ordinary t p h) s t R.inner [] s' t' (served-calls (ordinary t p h) s t R.inner [] s' t' S R.serves) in
        ap (λ (b : DayAnswer). brief (day_said b)) R.answer ∙ brief-renamed (day_count h) h.place R.inner c
    go (no n) = ap (λ (b : DayAnswer). brief (day_said b)) (d.refuses n).answer ∙ small-first _ _ _ _ _ _ _ _

days-brief : (p : ℕ) (h : Handed) (s : List ℕ) (t : List Session) (a : DayAnswer) (s' : List ℕ) (t' : List Session) → Days p h s t a s' t' → brief (day_said a) ≡ true
days-brief p h s t a s' t' d = go (brief (day_said a)) refl
  where
    go : (b : Bool) → brief (day_said a) ≡ b → brief (day_said a) ≡ true
    go true e = e
    go false e = absurd (true≢false (ap (λ (b : DayAnswer). brief (day_said b)) (d.unsound (λ S. true≢false (serves-brief p h s t a s' t' S (d.answers S)) e)).answer) e)

-- So the number has the answer, whole, and the place.
pub day-reads : {s : List ℕ} {t : List Session} {bytes : List ℕ} {k : DayAsk} {r : ℕ} {s' : List ℕ} {t' : List Session} (d : ToldDay DayBy s t bytes k r s' t')
    → (unpacked_day r ≡ d.answer) × (r / 281474976710656 ≡ day_place d.answer)
day-reads {s} {t} {bytes} {k} {r} {s'} {t'} d = (day-unpacked d.answer r d.packs (small_of (day_said d.answer) d.packs.words whole), day-place-read d.answer r d.packs)
  where
    go : Dec (length t ≡ parties) → brief (day_said d.answer) ≡ true
    go (yes n) = days-brief k.party (handed_by bytes k) s t d.answer s' t' (d.does.0 n)
    go (no z) = ap (λ (b : DayAnswer). brief (day_said b)) (d.does.1 z).0

    whole : brief (day_said d.answer) ≡ true
    whole = go (ℕ_discrete (length t) parties)

-- ---- lists of calls

-- One return of one of the ten exported functions, and what C sees of it.
pub data Gives : Lending → List Turn → Lending → Type 0 where
  calls : {x y : Lending} (k : Exchange) → Exported x k.call k.number k.list y → Gives x (turn_of k ∷ []) y
  runs : {x y : Lending} {k : Go} {l l' : List ℕ} {r : ℕ} → ToldMade RanBy x.store x.table l k r y.store y.table l'
      → Gives x (seen (K.Run k.party k.most) l (answer_in r) (steps_in r) l') y
  requests : {x y : Lending} {k : Wish} {l l' : List ℕ} {r : ℕ} → ToldMade AskedBy x.store x.table l k r y.store y.table l'
      → Gives x (seen (K.Request k.party k.code k.entry k.first k.second k.most) l (answer_in r) (steps_in r) l') y
  batches : {x y : Lending} {w l vs vs' l' : List ℕ} {r : ℕ} {js : List Turn} (d : ToldBatch SB.Batched w x.store x.table l vs r vs' l' y.store y.table)
      → ((n : length x.table ≡ parties) → ((S : _) (F : Fits (length w) (length vs)) → js ≡ batch-read ((d.does.0 n).made S F).3) × (¬ Fits (length w) (length vs) → js ≡ []))
      → Gives x js y
  days : {x y : Lending} {bytes : List ℕ} {k : DayAsk} {r : ℕ} {js : List Turn} → ToldDay DayBy x.store x.table bytes k r y.store y.table
      → Is x (day k.party (handed_by bytes k) (unpacked_day r)) js y → Gives x js y

-- One that was lent something else and turned away.
pub data GivesAway : Lending → List Turn → Lending → Type 0 where
  calls_away : {u u' : Lending} (k : Exchange) → TurnedAway (unpacked k.number) → Exported u k.call k.number k.list u' → GivesAway u (turn_of k ∷ []) u'
  runs_away : {u u' : Lending} {k : Go} {l l' : List ℕ} {r : ℕ} → LoanRefused (answer_in r) → ToldMade RanBy u.store u.table l k r u'.store u'.table l'
      → GivesAway u (step_turn k.party l (answer_in r) l' ∷ []) u'
  requests_away : {u u' : Lending} {k : Wish} {l l' : List ℕ} {r : ℕ} → LoanRefused (answer_in r) → ToldMade AskedBy u.store u.table l k r u'.store u'.table l'
      → GivesAway u (put_turn k.party k.code k.entry k.first k.second (answer_in r) ∷ []) u'
  batches_away : {u u' : Lending} {w l vs vs' l' : List ℕ} {r n k : ℕ} (d : ToldBatch SB.Batched w u.store u.table l vs r vs' l' u'.store u'.table) → said d.answer ≡ C.refused n k
      → GivesAway u [] u'
  days_away : {u u' : Lending} {bytes : List ℕ} {k : DayAsk} {r : ℕ} → LoanRefused (day_said (unpacked_day r)) → ToldDay DayBy u.store u.table bytes k r u'.store u'.table → GivesAway u [] u'

pub data Givings : Lending → List Turn → Lending → Type 0 where
  over : {x : Lending} → Givings x [] x
  then : {x y z : Lending} {js ls : List Turn} → Gives x js y → Givings y ls z → Givings x (js ++ ls) z
  wrong : {x y z u u' : Lending} {js ls : List Turn} → GivesAway u js u' → Loan x.store u.store u'.store y.store → Loan x.table u.table u'.table y.table
      → Givings y ls z → Givings x (js ++ ls) z

-- Whatever the table's length, the answer of a run or a request is brief.
table-brief : (t : List Session) (a : Answer) → (length t ≡ parties → brief (said a) ≡ true) → (¬ (length t ≡ parties) → a ≡ Refused 1 0) → brief (said a) ≡ true
table-brief t a f g = go (ℕ_discrete (length t) parties)
  where
    go : Dec (length t ≡ parties) → brief (said a) ≡ true
    go (yes n) = f n
    go (no z) = ap (λ b. brief (said b)) (g z)

run-reads : {x y : Lending} {k : Go} {l l' : List ℕ} {r : ℕ} (d : ToldMade RanBy x.store x.table l k r y.store y.table l') → (answer_in r ≡ said d.answer) × (steps_in r ≡ d.steps)
run-reads {x} {y} {k} {l} {l'} {r} d =
    reads_made d.steps (said d.answer) r d.packs
    (table-brief x.table d.answer (λ n. asks-brief (K.Run k.party k.most) x.store x.table l (said d.answer) d.steps l' y.store y.table (d.does.0 n)) (λ z. (d.does.1 z).0))

request-reads : {x y : Lending} {k : Wish} {l l' : List ℕ} {r : ℕ} (d : ToldMade AskedBy x.store x.table l k r y.store y.table l') → (answer_in r ≡ said d.answer) × (steps_in r ≡ d.steps)
request-reads {x} {y} {k} {l} {l'} {r} d =
    reads_made d.steps (said d.answer) r d.packs
    (table-brief x.table d.answer
    (λ n. asks-brief (K.Request k.party k.code k.entry k.first k.second k.most) x.store x.table l (said d.answer) d.steps l' y.store y.table (d.does.0 n)) (λ z. (d.does.1 z).0))

-- Each is a return of the store's function (store, specs/Servings).
returned : {x y : Lending} {js : List Turn} → Gives x js y → Returned x js y
returned (calls {x} {y} k d) = L.calls (lends x y k.number k.call k.list d)
returned (runs {x} {y} {k} {l} {l'} {r} d) =
    let q = run-reads {x = x} {y = y} d in
    subst (λ z. Returned x (seen (K.Run k.party k.most) l z (steps_in r) l') y) (sym q.0)
    (subst (λ z. Returned x (seen (K.Run k.party k.most) l (said d.answer) z l') y) (sym q.1) (L.runs {k = k} {a = d.answer} {n = d.steps} d.does))
returned (requests {x} {y} {k} {l} {l'} {r} d) =
    let q = request-reads {x = x} {y = y} d in
    subst (λ z. Returned x (seen (K.Request k.party k.code k.entry k.first k.second k.most) l z (steps_in r) l') y) (sym q.0)
    (subst (λ z. Returned x (seen (K.Request k.party k.code k.entry k.first k.second k.most) l (said d.answer) z l') y) (sym q.1)
    (L.requests {k = k} {a = d.answer} {n = d.steps} d.does))
returned (batches {x} d f) = L.batches {a = d.answer} d.does (λ n. ((λ S F. (f n).0 S F ∙ batch-reads ((d.does.0 n).made S F).3), (f n).1))
returned (days {x} {y} {bytes} {k} {r} {js} d i) =
    L.days {k = k} {a = d.answer} d.does (subst (λ (a : DayAnswer). Is x (day k.party (handed_by bytes k) a) js y) (day-reads {s = x.store} {t = x.table} {s' = y.store} {t' = y.table} d).0 i)

returned-away : {u u' : Lending} {js : List Turn} → GivesAway u js u' → Away u js u'
returned-away (calls_away {u} {u'} k v d) = L.calls_away v (lends u u' k.number k.call k.list d)
returned-away (runs_away {u} {u'} {k} {l} {l'} {r} v d) =
    let q = run-reads {x = u} {y = u'} d in
    subst (λ z. Away u (step_turn k.party l z l' ∷ []) u') (sym q.0) (L.runs_away {k = k} {a = d.answer} {n = d.steps} (subst LoanRefused q.0 v) d.does)
returned-away (requests_away {u} {u'} {k} {l} {l'} {r} v d) =
    let q = request-reads {x = u} {y = u'} d in
    subst (λ z. Away u (put_turn k.party k.code k.entry k.first k.second z ∷ []) u') (sym q.0)
    (L.requests_away {k = k} {a = d.answer} {n = d.steps} (subst LoanRefused q.0 v) d.does)
returned-away (batches_away d e) = L.batches_away {a = d.answer} e d.does
returned-away (days_away {u} {u'} {k = k} v d) =
    L.days_away {k = k} {a = d.answer} (subst (λ (a : DayAnswer). LoanRefused (day_said a)) (day-reads {s = u.store} {t = u.table} {s' = u'.store} {t' = u'.table} d).0 v) d.does

-- Every day call on a sound store has the turns that are asked for here.
pub day-given : {x y : Lending} {bytes : List ℕ} {k : DayAsk} {r : ℕ} → SoundLent x → ToldDay DayBy x.store x.table bytes k r y.store y.table → (js : List Turn) × Gives x js y
day-given {x} {y} {bytes} {k} {r} S d =
    let q = one-is x y (day k.party (handed_by bytes k) d.answer) S (d.does.0 (sound-long x S)) in
    let e = (day-reads {s = x.store} {t = x.table} {s' = y.store} {t' = y.table} d).0 in
    (q.0, days {k = k} d (subst (λ (a : DayAnswer). Is x (day k.party (handed_by bytes k) a) q.0 y) (sym e) q.1))

pub givings : {x y : Lending} {js : List Turn} → Givings x js y → Returneds x js y
givings over = L.over
givings (then d r) = L.then (returned d) (givings r)
givings (wrong d a b r) = L.wrong (returned-away d) a b (givings r)

-- After a format that returned 0 any list of the twelve keeps demand 3.
pub givings-demand-3 : (m : ℕ) (x x' : Lending) (h : Told Formatted x.store x.table m 0 x'.store x'.table) → (js : List Turn) (y : Lending) → Givings x' js y
    → Demand3 words (told nothing js) y
givings-demand-3 m x x' h js y r = returneds-demand-3 m h.answer x x' h.does (format-ok m x x' h) js y (givings r)

-- And the holders read from the store are those that the ordinary calls were granted which it is.
pub givings-holders : (m : ℕ) (x x' : Lending) (h : Told Formatted x.store x.table m 0 x'.store x'.table) → (js : List Turn) (y : Lending) → Givings x' js y
    → (ks : List Turn) × ((t : C.Told) → told t ks ≡ told t js)
    × ((k : Kind) (i : Mode) (q z : ℕ) → holders_in y k i q z ≡ ledger_after no_locks (calls_on (length x.store) ks) (fresh m (records_for m (length x.store))) k i q z)
givings-holders m x x' h js y r = returneds-holders m h.answer x x' h.does (format-ok m x x' h) js y (givings r)

-- And by calls and numbers alone the begun sessions stand in their line.
pub givings-line : (m : ℕ) (x x' : Lending) (h : Told Formatted x.store x.table m 0 x'.store x'.table) → (js : List Turn) (y : Lending) → Givings x' js y
    → InLine (line nothing [] js) y.table
givings-line m x x' h js y r = returneds-line m h.answer x x' h.does (format-ok m x x' h) js y (givings r)

-- And from an accepted ask of session p on, until an accepted commit or abort of p or a format, a commit of p is accepted.
pub givings-ask : (m : ℕ) (x x' : Lending) (h : Told Formatted x.store x.table m 0 x'.store x'.table) → (js : List Turn) (y z : Lending) (p r : ℕ) (l : List ℕ) → Givings x' js y
    → AskedSince p js → Exported y (C.commit p) r l z → unpacked r ≡ C.ok
givings-ask m x x' h js y z p r l g A d =
    returneds-ask m h.answer x x' h.does (format-ok m x x' h) js y z p (record { call = C.commit p; answer = unpacked r; list = [] }) (givings g) A refl (lends y z r (C.commit p) l d)
