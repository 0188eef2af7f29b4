-- Lists of calls with runs, requests, batches and day calls among them: what each return of the twelve functions says, that any list of them is a list of ordinary
-- calls which tells what the host sees, and so demand 3.
use Rattle.std.specs.Prelude.{◌≡◌, refl, Bool, true, false, cond, List, [], ◌∷◌, ◌++◌, ◌⊎◌, ℕ, zero, suc, ◌+◌, ◌*◌, ◌≤◌, leb, ltb, length, replicate}
use Rattle.std.proofs.Common.{sym, ap, subst, ◌∙◌, inl, inr, arith, leb-true, leb-false}
use Rattle.std.proofs.Math.Decide.{ℕ_discrete}
use Rattle.sessions.specs.declared.Session.{Session}
use Rattle.sessions.specs.Sessions.{parties}
use Rattle.serial.specs.Model.{both}
use Rattle.serial.specs.Locks.{Kind, Mode, lock_rule}
use Rattle.serial.specs.Calls.{Turn, Told, nothing, told, Run, stop, next, Demand3}
use Rattle.serial.specs.Calls as C
use Rattle.serial.specs.Line.{line}
use Rattle.serial.specs.Recovery.{AskedSince, asked-since, run-knows}
use Rattle.machine.specs.State.{fresh}
use Rattle.machine.specs.Calls.{records_for}
use Rattle.machine.specs.Ledger.{no_locks, ledger_after}
use Rattle.machine.specs.Held.{calls_on}
use Rattle.outcomes.specs.declared.Answer.{Answer}
use Rattle.outcomes.specs.declared.DayAnswer.{DayAnswer}
use Rattle.outcomes.specs.declared.DayAnswer.TheVariants as Day
use Rattle.outcomes.specs.Said.{said, day_said}
use Rattle.promises.specs.Relations.{Calls}
use Rattle.promises.specs.Demand1.{demand-1, calls-not-1}
use Rattle.promises.specs.Demands.{Lending, words}
use Rattle.promises.specs.Holding.{holders_in, holders-run}
use Rattle.promises.specs.Line.{InLine, run_sound}
use Rattle.promises.proofs.Line.{words-line}
use Rattle.promises.proofs.Words.{words-meet, formatted-known, formatted-calls}
use Rattle.promises.specs.Runs.{lending, calling, put_turn, step_turn, steps}
use Rattle.promises.specs.Runs as R
use Rattle.asking.specs.declared.Asking.TheVariants as K
use Rattle.batches.specs.Batches.{Fits, Batches}
use Rattle.batches.specs.Demand3.{Alike, alike, alike-append, seen, batch_turns, batch_seen, Serving, once, asks_one, away, serving-run, serving-told, words_append}
use Rattle.batches.specs.Demand3 as B
use Rattle.day_calls.specs.Calling.{Handed, day_count, day_refusal, renamed, Days}
use Rattle.day_calls.specs.Lists.{Mixed, day, ordinary_turn, Is, itself, refused, served, served-returns, one-is}
use Rattle.store.specs.declared.DayAsk.{DayAsk}
use Rattle.store.specs.declared.Go.{Go}
use Rattle.store.specs.declared.Wish.{Wish}
use Rattle.store.specs.Lent.{Formatted, OnTable}
use Rattle.store.specs.Listed.{RanBy, AskedBy, ListedOnTable}
use Rattle.store.specs.Stints.{unsound-still}
use Rattle.store.specs.Batched.{Batched, BatchedOnTable}
use Rattle.store.specs.Days.{handed_by, DayBy, DayOnTable, served-calls}
use Rattle.store.specs.Turns.{Lends, lends-return, SoundLent, sound-long, Loan, loan-same, TurnedAway, Same, same-either, away-same, away-quiet, away-line, away-unwritten, accepted-format}

-- ---- what the host sees of one return

-- Of a batch: ask after ask, if it was made; nothing, if the answers did not fit.
abbrev pub SeenOf : (w s : List ℕ) (t : List Session) (l vs : List ℕ) (a : C.Answer) (vs' l' s' : List ℕ) (t' : List Session) → Batches w s t l vs a vs' l' s' t' → List Turn → Type 0
SeenOf w s t l vs a vs' l' s' t' d js = ((S : _) (F : Fits (length w) (length vs)) → js ≡ batch_seen (d.made S F).3) × (¬ Fits (length w) (length vs) → js ≡ [])

-- One return of one of the ten functions, as its contract says. The six calls; a run, seen as one step; a request, seen as a put and one step; a batch; a day
-- call, seen as the put or step that it is, with the answer that this had, or as nothing where it was refused before.
pub data Returned : Lending → List Turn → Lending → Type 0 where
  calls : {x y : Lending} {k : Turn} → Lends x k y → Returned x (k ∷ []) y
  runs : {x y : Lending} {k : Go} {l l' : List ℕ} {a : Answer} {n : ℕ} → ListedOnTable RanBy x.store x.table l k a n y.store y.table l'
      → Returned x (seen (K.Run k.party k.most) l (said a) n l') y
  requests : {x y : Lending} {k : Wish} {l l' : List ℕ} {a : Answer} {n : ℕ} → ListedOnTable AskedBy x.store x.table l k a n y.store y.table l'
      → Returned x (seen (K.Request k.party k.code k.entry k.first k.second k.most) l (said a) n l') y
  batches : {x y : Lending} {w l vs vs' l' : List ℕ} {a : Answer} {js : List Turn} (d : BatchedOnTable Batched w x.store x.table l vs a vs' l' y.store y.table)
      → ((n : length x.table ≡ parties) → SeenOf w x.store x.table l vs (said a) vs' l' y.store y.table (d.0 n) js) → Returned x js y
  days : {x y : Lending} {bytes : List ℕ} {k : DayAsk} {a : DayAnswer} {js : List Turn} → DayOnTable DayBy x.store x.table bytes k a y.store y.table
      → Is x (day k.party (handed_by bytes k) a) js y → Returned x js y

-- ---- lent something else, and turned away

-- Refused for what was lent. (A batch may also be refused 102.)
abbrev pub LoanRefused : C.Answer → Type 0
LoanRefused a = (a ≡ C.refused 1 0) ⊎ (a ≡ C.refused 2 0)

pub data Away : Lending → List Turn → Lending → Type 0 where
  calls_away : {u u' : Lending} {k : Turn} → TurnedAway k.answer → Lends u k u' → Away u (k ∷ []) u'
  runs_away : {u u' : Lending} {k : Go} {l l' : List ℕ} {a : Answer} {n : ℕ} → LoanRefused (said a) → ListedOnTable RanBy u.store u.table l k a n u'.store u'.table l'
      → Away u (step_turn k.party l (said a) l' ∷ []) u'
  requests_away : {u u' : Lending} {k : Wish} {l l' : List ℕ} {a : Answer} {n : ℕ} → LoanRefused (said a) → ListedOnTable AskedBy u.store u.table l k a n u'.store u'.table l'
      → Away u (put_turn k.party k.code k.entry k.first k.second (said a) ∷ []) u'
  batches_away : {u u' : Lending} {w l vs vs' l' : List ℕ} {a : Answer} {n k : ℕ} → said a ≡ C.refused n k → BatchedOnTable Batched w u.store u.table l vs a vs' l' u'.store u'.table
      → Away u [] u'
  days_away : {u u' : Lending} {bytes : List ℕ} {k : DayAsk} {a : DayAnswer} → LoanRefused (day_said a) → DayOnTable DayBy u.store u.table bytes k a u'.store u'.table → Away u [] u'

-- From a sound store no call is refused 1 or 2,
not-refused : (ks : List Turn) (k : Turn) {x y : Lending} → SoundLent x → Run calling x (ks ++ k ∷ []) y → LoanRefused k.answer → ⊥
not-refused [] k S (next {x} {y} d r) (inl e) = calls-not-1 k.call x.store x.table k.answer k.list y.store y.table d 0 e
not-refused [] k S (next {x} {y} d r) (inr e) = (demand-1 k.call x.store x.table k.answer k.list y.store y.table d).damaged.0 e S
not-refused (j ∷ ks) k S (next d r) v = not-refused ks k (d.answers S).0.sound r v

-- and on one that is not sound none changes anything (`unsound-still`).
made-same : (ks : List Turn) (k : Turn) (x y : Lending) → Run calling x (ks ++ k ∷ []) y → LoanRefused k.answer → Same x y
made-same ks k x y r v = same-either {D = SoundLent x} (λ S. absurd (not-refused ks k S r v)) (λ n. unsound-still n r)

ran-same : (p : ℕ) (l l' : List ℕ) (a : C.Answer) (x y : Lending) (n : ℕ) → 1 ≤ n → LoanRefused a → Run calling x (steps n p l a l') y → Same x y
ran-same p l l' a x y zero h v r = absurd (omega (arith, h))
ran-same p l l' a x y (suc i) h v r = made-same (replicate i (step_turn p l C.more l)) (step_turn p l a l') x y r v

asked-same : (p c e f g : ℕ) (l l' : List ℕ) (a : C.Answer) (x y : Lending) (n : ℕ) → LoanRefused a → Run calling x (R.asks n p c e f g l a l') y → Same x y
asked-same p c e f g l l' a x y zero v r = made-same [] (put_turn p c e f g a) x y r v
asked-same p c e f g l l' a x y (suc i) v r = made-same (put_turn p c e f g C.ok ∷ replicate i (step_turn p l C.more l)) (step_turn p l a l') x y r v

batch-same : (w l vs vs' l' : List ℕ) (a : C.Answer) (n k : ℕ) (x y : Lending) → a ≡ C.refused n k → Batches w x.store x.table l vs a vs' l' y.store y.table → Same x y
batch-same w l vs vs' l' a n k x y e d =
    same-either {D = SoundLent x}
    (λ S. same-either {D = Fits (length w) (length vs)} (λ F. let z : C.refused n k ≡ C.done (length (d.made S F).0 ∷ []) = sym e ∙ (d.made S F).1 in
    absurd (let q : ◌≡◌ {A = ℕ} 0 1 = cc in omega (arith, q))) (λ z. let m = d.misfit S z in (m.3, m.4)))
    (λ z. let m = d.unsound z in (m.3, m.4))

-- A day call's answer is such a refusal only if the call that it is was refused so.
abbrev loan_word : C.Answer → ℕ
loan_word C.ok = 0
loan_word C.more = 0
loan_word (C.wait p) = 0
loan_word (C.done ns) = 0
loan_word (C.refused n k) = 1

not-loan : (a : C.Answer) → loan_word a ≡ 0 → LoanRefused a → ⊥
not-loan a z (inl e) = omega (arith, z, ap loan_word e)
not-loan a z (inr e) = omega (arith, z, ap loan_word e)

loan-inner : (n j : ℕ) (i : C.Answer) → LoanRefused (day_said (renamed n j i)) → LoanRefused i
loan-inner n j C.ok v = v
loan-inner n j C.more v = v
loan-inner n j (C.wait q) v = v
loan-inner n j (C.done ns) v = absurd (go (ltb (j + 1) (2 * n)) v)
  where
    go : (b : Bool) → LoanRefused (day_said (cond b (Day.More (j + 1)) (Day.Done n (j + 1)))) → ⊥
    go true w = not-loan C.more refl w
    go false w = not-loan (C.done (n ∷ [])) refl w
loan-inner n j (C.refused m k) v = v

day-same : (p : ℕ) (h : Handed) (a : DayAnswer) (x y : Lending) → LoanRefused (day_said a) → Days p h x.store x.table a y.store y.table → Same x y
day-same p h a x y v d =
    same-either {D = SoundLent x} (λ S. go S (ℕ_discrete (day_refusal x.store x.table p h) 0)) (λ n. ((d.unsound n).store_same, (d.unsound n).table_same))
  where
    go : SoundLent x → Dec (day_refusal x.store x.table p h ≡ 0) → Same x y
    go S (yes z) =
        let R = (d.answers S).accepts z in
        let k = ordinary_turn x p h R.inner in
        let made = served-calls k.call x.store x.table R.inner [] y.store y.table S R.serves in
        absurd (not-refused [] k S (next made stop) (loan-inner (day_count h) h.place R.inner (subst (λ (b : DayAnswer). LoanRefused (day_said b)) R.answer v)))
    go S (no n) = let R = (d.answers S).refuses n in (R.store_same, R.table_same)

pub away-keeps : {u u' : Lending} {js : List Turn} → Away u js u' → Same u u'
away-keeps (calls_away v d) = away-same v d
away-keeps (runs_away {u} {u'} {k} {l} {l'} {a} {n} v d) =
    same-either {D = length u.table ≡ parties} (λ e. ran-same k.party l l' (said a) u u' n (d.0 e).within.some v (d.0 e).made) (λ z. ((d.1 z).2, (d.1 z).3))
away-keeps (requests_away {u} {u'} {k} {l} {l'} {a} {n} v d) =
    same-either {D = length u.table ≡ parties} (λ e. asked-same k.party k.code k.entry k.first k.second l l' (said a) u u' n v (d.0 e).made) (λ z. ((d.1 z).2, (d.1 z).3))
away-keeps (batches_away {u} {u'} {w} {l} {vs} {vs'} {l'} {a} {n} {k} v d) =
    same-either {D = length u.table ≡ parties} (λ e. batch-same w l vs vs' l' (said a) n k u u' v (d.0 e)) (λ z. ((d.1 z).1, (d.1 z).2))
away-keeps (days_away {u} {u'} {bytes} {k} {a} v d) =
    same-either {D = length u.table ≡ parties} (λ e. day-same k.party (handed_by bytes k) a u u' v (d.0 e)) (λ z. ((d.1 z).1, (d.1 z).2))

loan-away : (a : C.Answer) → LoanRefused a → TurnedAway a
loan-away a (inl e) = subst TurnedAway (sym e) refl
loan-away a (inr e) = subst TurnedAway (sym e) refl

-- It tells nothing.
away-alike : (k : Turn) → TurnedAway k.answer → Alike [] (k ∷ [])
away-alike k v = record {
  tells = λ h. sym (away-quiet k.call k.answer k.list v h);
  lines = λ h l. sym (away-line k v h l);
  writes = λ h d. sym (away-unwritten k.call k.answer k.list v h d);
}

pub away-told : {u u' : Lending} {js : List Turn} → Away u js u' → Alike [] js
away-told (calls_away {k = k} v d) = away-alike k v
away-told (runs_away {k = k} {l} {l'} {a} v d) = away-alike (step_turn k.party l (said a) l') (loan-away (said a) v)
away-told (requests_away {k = k} {a = a} v d) = away-alike (put_turn k.party k.code k.entry k.first k.second (said a)) (loan-away (said a) v)
away-told (batches_away v d) = alike []
away-told (days_away v d) = alike []

-- ---- lists of calls

-- Whoever's turn each is. The host lends its store and its table as the call before left them; or something else for one of them or for both, parts of its
-- own among them, is turned away, and goes on with what the call left it.
pub data Returneds : Lending → List Turn → Lending → Type 0 where
  over : {x : Lending} → Returneds x [] x
  then : {x y z : Lending} {js ls : List Turn} → Returned x js y → Returneds y ls z → Returneds x (js ++ ls) z
  wrong : {x y z u u' : Lending} {js ls : List Turn} → Away u js u' → Loan x.store u.store u'.store y.store → Loan x.table u.table u'.table y.table
      → Returneds y ls z → Returneds x (js ++ ls) z

same-lending : {x y : Lending} → Same x y → y ≡ x
same-lending e = λ i. record { store = e.0 i; table = e.1 i }

at_most : (a b : ℕ) → Dec (a ≤ b)
at_most a b = go (leb a b) refl
  where
    go : (v : Bool) → leb a b ≡ v → Dec (a ≤ b)
    go true e = yes (leb-true a b e)
    go false e = no (λ h. absurd (omega (arith, h, leb-false a b e)))

fits-or-not : (len places : ℕ) → Dec (Fits len places)
fits-or-not len places = both (at_most len (7 * places)) (at_most len 458745)

-- Every day call on a sound store has such turns.
pub day-returned : {x y : Lending} {bytes : List ℕ} {k : DayAsk} {a : DayAnswer} → SoundLent x → DayOnTable DayBy x.store x.table bytes k a y.store y.table
    → (js : List Turn) × Returned x js y
day-returned {x} {y} {bytes} {k} {a} S d =
    let q = one-is x y (day k.party (handed_by bytes k) a) S (d.0 (sound-long x S)) in
    (q.0, days {k = k} {a = a} d q.1)

is-serving : {x y : Lending} {m : Mixed} {js : List Turn} → Is x m js y → Serving x js js y
is-serving (itself d) = once d
is-serving (refused e) = away
is-serving {x} {y} (served {p} {h} inner z e v) = once (served-returns x y p h inner v)

serves : {x y : Lending} {js : List Turn} → SoundLent x → Returned x js y → (ks : List Turn) × Serving x ks js y
serves S (calls {x} d) = (_, once (lends-return (sound-long x S) d))
serves S (runs {x} {k = k} {l} {l'} {a} {n} d) = (_, asks_one (K.Run k.party k.most) l (said a) n l' (d.0 (sound-long x S)))
serves S (requests {x} {k = k} {l} {l'} {a} {n} d) = (_, asks_one (K.Request k.party k.code k.entry k.first k.second k.most) l (said a) n l' (d.0 (sound-long x S)))
serves S (days d i) = (_, is-serving i)
serves S (batches {x} {y} {w} {l} {vs} {vs'} {l'} {a} {js} d f) = go (fits-or-not (length w) (length vs))
  where
    D : Batches w x.store x.table l vs (said a) vs' l' y.store y.table
    D = d.0 (sound-long x S)

    go : Dec (Fits (length w) (length vs)) → (ks : List Turn) × Serving x ks js y
    go (yes F) =
        let b = (D.made S F).3 in
        (batch_turns b, subst (λ z. Serving x (batch_turns b) z y) (sym ((f (sound-long x S)).0 S F)) (B.batches b))
    go (no z) =
        let m = D.misfit S z in
        ([], subst (λ v. Serving x [] v y) (sym ((f (sound-long x S)).1 z)) (subst (Serving x [] []) (sym (same-lending {x = x} {y = y} (m.3, m.4))) away))

-- They are ordinary calls, which tell what the host sees.
pub returneds-run : {x y : Lending} {js : List Turn} → SoundLent x → Returneds x js y → (ks : List Turn) × Run words x ks y × Alike ks js
returneds-run S over = ([], stop, alike [])
returneds-run S (then {x} {y} {z} {js} {ls} c r) =
    let q = serves S c in
    let g = serving-run q.1 in
    let v = returneds-run (run_sound S g) r in
    (q.0 ++ v.0, words_append g v.1, alike-append (serving-told q.1) v.2)
returneds-run S (wrong {x} {y} {z} {u} {u'} {js} {ls} c a b r) =
    let e = away-keeps c in
    let i : y ≡ x = same-lending (loan-same e.0 a, loan-same e.1 b) in
    let v = returneds-run (subst SoundLent (sym i) S) r in
    (v.0, subst (λ p. Run words p v.0 z) i v.1, alike-append (away-told c) v.2)

-- So after an accepted format any list of the twelve keeps demand 3.
pub returneds-demand-3 : (m : ℕ) (a : Answer) (x x' : Lending) → OnTable Formatted x.store x.table m a x'.store x'.table → said a ≡ C.ok
    → (js : List Turn) (y : Lending) → Returneds x' js y → Demand3 words (told nothing js) y
returneds-demand-3 m a x x' h e js y r =
    let F = accepted-format m a x x' h e in
    let q = returneds-run (F.accepts refl).0 r in
    subst (λ t. Demand3 words t y) (q.2.tells nothing) (formatted-calls m x.store x'.store x.table x'.table F q.0 y q.1)

-- And the holders read from the store are those that these ordinary calls were granted.
pub returneds-holders : (m : ℕ) (a : Answer) (x x' : Lending) → OnTable Formatted x.store x.table m a x'.store x'.table → said a ≡ C.ok
    → (js : List Turn) (y : Lending) → Returneds x' js y
    → (ks : List Turn) × ((h : Told) → told h ks ≡ told h js)
    × ((k : Kind) (i : Mode) (q z : ℕ) → holders_in y k i q z ≡ ledger_after no_locks (calls_on (length x.store) ks) (fresh m (records_for m (length x.store))) k i q z)
returneds-holders m a x x' h e js y r =
    let F = accepted-format m a x x' h e in
    let q = returneds-run (F.accepts refl).0 r in
    (q.0, q.2.tells, holders-run m x.store x'.store x.table x'.table F q.0 y q.1)

-- And by what the host sees alone the begun sessions stand in their line: a record is begun exactly if its session stands in it, and the lower number stands
-- earlier.
pub returneds-line : (m : ℕ) (a : Answer) (x x' : Lending) → OnTable Formatted x.store x.table m a x'.store x'.table → said a ≡ C.ok
    → (js : List Turn) (y : Lending) → Returneds x' js y → InLine (line nothing [] js) y.table
returneds-line m a x x' h e js y r =
    let F = accepted-format m a x x' h e in
    let q = returneds-run (F.accepts refl).0 r in
    subst (λ l. InLine l y.table) (q.2.lines nothing []) (words-line m x.store x'.store x.table x'.table F q.0 y q.1)

-- And after an accepted ask of session p, until the host sees an accepted commit or abort of p or a format, a commit of p is accepted.
pub returneds-ask : (m : ℕ) (a : Answer) (x x' : Lending) → OnTable Formatted x.store x.table m a x'.store x'.table → said a ≡ C.ok
    → (js : List Turn) (y z : Lending) (p : ℕ) (j : Turn) → Returneds x' js y → AskedSince p js → j.call ≡ C.commit p → Lends y j z → j.answer ≡ C.ok
returneds-ask m a x x' h e js y z p j r A c d =
    let F = accepted-format m a x x' h e in
    let q = returneds-run (F.accepts refl).0 r in
    let w = run-knows lock_rule words words-meet nothing q.1 (formatted-known m x.store x'.store x.table x'.table F) in
    words-meet.commit_ok p j y z c (lends-return (sound-long y w.sound) d) w.sound (w.asked_told p ∙ ap (λ t. t.asked p) (q.2.tells nothing) ∙ asked-since p js nothing A)
