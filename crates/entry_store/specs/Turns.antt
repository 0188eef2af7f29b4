-- Lists of calls as a C program sees them: its calls, the numbers that they returned and its lists, with the answers read off the numbers (`unpacked`). Demand 3
-- of them, demand 2's holders and the order of begins over them.
use Rattle.std.specs.Prelude.{◌≡◌, refl, true, List, [], ◌∷◌, ◌++◌, map, ℕ, ◌≤◌, ◌<◌, T, ltb, length}
use Rattle.std.proofs.Math.Path.{sym}
use Rattle.std.proofs.Common.{ap, subst, ◌∙◌, ltb→lt}
use Rattle.std.proofs.Math.Decide.{ℕ_discrete}
use Rattle.sessions.specs.declared.Session.{Session}
use Rattle.sessions.specs.Sessions.{parties}
use Rattle.serial.specs.Calls.{Turn, nothing, tell, told, Demand3}
use Rattle.serial.specs.Calls as C
use Rattle.serial.specs.Serial.{true≢false}
use Rattle.serial.specs.Locks.{Kind, Mode, weak}
use Rattle.serial.specs.Locks as Locks
use Rattle.serial.specs.Line.{line}
use Rattle.serial.specs.Recovery.{AskedSince}
use Rattle.machine.specs.State.{fresh}
use Rattle.machine.specs.Calls.{records_for}
use Rattle.machine.specs.Ledger.{no_locks, ledger_after}
use Rattle.machine.specs.Held.{calls_on, Lasts, LocateDone}
use Rattle.outcomes.specs.declared.Answer.{Answer}
use Rattle.outcomes.specs.declared.Answer.TheVariants.{Refused}
use Rattle.outcomes.specs.Said.{said}
use Rattle.promises.specs.Relations.{Calls}
use Rattle.promises.specs.Demands.{Lending, words}
use Rattle.promises.specs.Holding.{holders_in}
use Rattle.promises.specs.Line.{InLine}
use Rattle.store.specs.declared.PutArgs.{PutArgs}
use Rattle.store.specs.Lent.{Formatted, Begun, Put, Committed, Aborted, Asked, Recovered}
use Rattle.store.specs.Turns.{turn, Lends, formats, begins, puts, steps, commits, aborts, asks, recovers, Loan, TurnedAway, Lendings, lent-demand-3}
use Rattle.store.specs.Turns as L
use Rattle.store.specs.Demand3.{functions-ask}
use Rattle.store.specs.Holding.{lent-holders-run, lent-located-run, lent-line}
use Rattle.packing.specs.Packed.{unpacked, unpacked-packed, Small, Worded, Packs}
use Rattle.entry_store.specs.Brief.{brief, calls-brief, formats-brief}
use Rattle.entry_store.specs.Exported.{Told, Stepped}

-- ---- the answer read off the number

below : (n : ℕ) → ltb n 256 ≡ true → n < 256
below n e = ltb→lt n 256 (subst T (sym e) tt)

pub small_of : (a : C.Answer) → Worded a → brief a ≡ true → Small a
small_of C.ok w e = tt
small_of C.more w e = tt
small_of (C.wait p) w e = w
small_of (C.done []) w e = tt
small_of (C.done (n ∷ [])) w e = w
small_of (C.done (k ∷ b ∷ [])) w e = (w, below b e)
small_of (C.done (k ∷ b ∷ n ∷ ns)) w e = absurd (true≢false refl (sym e))
small_of (C.refused n k) w e = (below n e, w)

-- The number that a call returns has its answer, whole.
pub reads : (a : C.Answer) (r : ℕ) → Packs a r → brief a ≡ true → unpacked r ≡ a
reads a r P e = ap unpacked P.is ∙ unpacked-packed a (small_of a P.words e)

-- ---- calls in turn

-- One call, the number that it returned, and the words of the lent list then.
pub record Exchange : Type 0 where
  pub call : C.Call
  pub number : ℕ
  pub list : List ℕ

-- What it tells: the answer read off the number. Calls but step have no list.
abbrev pub list_told : C.Call → List ℕ → List ℕ
list_told (C.format m) l = []
list_told (C.begin p) l = []
list_told (C.put p c e f g) l = []
list_told (C.step p w) l = l
list_told (C.commit p) l = []
list_told (C.abort p) l = []
list_told (C.ask p) l = []
list_told C.recover l = []

abbrev pub turn_of : Exchange → Turn
turn_of k = record { call = k.call; answer = unpacked k.number; list = list_told k.call k.list }

-- The exported function of the call may return so.
abbrev pub Exported : Lending → C.Call → ℕ → List ℕ → Lending → Type 0
Exported x (C.format m) r l y = Told Formatted x.store x.table m r y.store y.table
Exported x (C.begin p) r l y = Told Begun x.store x.table p r y.store y.table
Exported x (C.put p c e f g) r l y = Told Put x.store x.table (record { party = p; code = c; entry = e; first = f; second = g }) r y.store y.table
Exported x (C.step p w) r l y = Stepped x.store x.table w p r y.store y.table l
Exported x (C.commit p) r l y = Told Committed x.store x.table p r y.store y.table
Exported x (C.abort p) r l y = Told Aborted x.store x.table p r y.store y.table
Exported x (C.ask p) r l y = Told Asked x.store x.table p r y.store y.table
Exported x C.recover r l y = Told Recovered x.store x.table tt r y.store y.table

-- A list of calls: the host lends its store and its table as the call before left them; or something else for one of them or for both, parts of its own among
-- them, is turned away, and goes on with what the call left it (store, specs/Turns).
pub data Exchanges : Lending → List Exchange → Lending → Type 0 where
  over : {x : Lending} → Exchanges x [] x
  then : {x y z : Lending} {k : Exchange} {ks : List Exchange} → Exported x k.call k.number k.list y → Exchanges y ks z → Exchanges x (k ∷ ks) z
  wrong : {x y z u u' : Lending} {k : Exchange} {ks : List Exchange} → TurnedAway (unpacked k.number) → Exported u k.call k.number k.list u'
      → Loan x.store u.store u'.store y.store → Loan x.table u.table u'.table y.table → Exchanges y ks z → Exchanges x (k ∷ ks) z

-- The host's own calls: all but those that were lent something else.
abbrev pub own : {x z : Lending} {ks : List Exchange} → Exchanges x ks z → List Exchange
own over = []
own (then {k = k} d r) = k ∷ own r
own (wrong v d a b r) = own r

-- It is a return of the store's function (store, specs/Turns), with the answer read off the number.
module _ (x y : Lending) (r : ℕ) where
  abbrev s : List ℕ
  s = x.store

  abbrev t : List Session
  t = x.table

  abbrev s' : List ℕ
  s' = y.store

  abbrev t' : List Session
  t' = y.table

  -- Whatever the table's length, the answer fits the number.
  fits : (a : Answer) → (length t ≡ parties → brief (said a) ≡ true) → (¬ (length t ≡ parties) → a ≡ Refused 1 0) → brief (said a) ≡ true
  fits a f g = go (ℕ_discrete (length t) parties)
    where
      go : Dec (length t ≡ parties) → brief (said a) ≡ true
      go (yes n) = f n
      go (no z) = ap (λ b. brief (said b)) (g z)

  read_off : (c : C.Call) (a : Answer) (l : List ℕ) → Packs (said a) r → brief (said a) ≡ true → Lends x (turn c a l) y → Lends x (record { call = c; answer = unpacked r; list = l }) y
  read_off c a l P e h = subst (λ z. Lends x (record { call = c; answer = z; list = l }) y) (sym (reads (said a) r P e)) h

  fits-call : (c : C.Call) (a : Answer) (l : List ℕ) → (length t ≡ parties → Calls c s t (said a) l s' t') → (¬ (length t ≡ parties) → a ≡ Refused 1 0) → brief (said a) ≡ true
  fits-call c a l f g = fits a (λ n. calls-brief c s t (said a) l s' t' (f n)) g

  pub lends : (c : C.Call) (l : List ℕ) → Exported x c r l y → Lends x (record { call = c; answer = unpacked r; list = list_told c l }) y
  lends (C.format m) l h =
      let a = h.answer in
      read_off (C.format m) a [] h.packs (fits a (λ n. formats-brief m s t (said a) s' t' (h.does.0 n)) (λ z. (h.does.1 z).0)) (formats {a = a} h.does)
  lends (C.begin p) l h = let a = h.answer in read_off (C.begin p) a [] h.packs (fits-call (C.begin p) a [] h.does.0 (λ z. (h.does.1 z).0)) (begins {a = a} h.does)
  lends (C.put p c e f g) l h =
      let a = h.answer in
      let k : PutArgs = record { party = p; code = c; entry = e; first = f; second = g } in
      read_off (C.put p c e f g) a [] h.packs (fits-call (C.put p c e f g) a [] h.does.0 (λ z. (h.does.1 z).0)) (puts {k = k} {a = a} h.does)
  lends (C.step p w) l h = let a = h.answer in read_off (C.step p w) a l h.packs (fits-call (C.step p w) a l h.does.0 (λ z. (h.does.1 z).0)) (steps {a = a} h.does)
  lends (C.commit p) l h = let a = h.answer in read_off (C.commit p) a [] h.packs (fits-call (C.commit p) a [] h.does.0 (λ z. (h.does.1 z).0)) (commits {a = a} h.does)
  lends (C.abort p) l h = let a = h.answer in read_off (C.abort p) a [] h.packs (fits-call (C.abort p) a [] h.does.0 (λ z. (h.does.1 z).0)) (aborts {a = a} h.does)
  lends (C.ask p) l h = let a = h.answer in read_off (C.ask p) a [] h.packs (fits-call (C.ask p) a [] h.does.0 (λ z. (h.does.1 z).0)) (asks {a = a} h.does)
  lends C.recover l h = let a = h.answer in read_off C.recover a [] h.packs (fits-call C.recover a [] h.does.0 (λ z. (h.does.1 z).0)) (recovers {a = a} h.does)

pub lendings : {x y : Lending} {ks : List Exchange} → Exchanges x ks y → Lendings x (map turn_of ks) y
lendings over = L.over
lendings (then {x} {y} {z} {k} {ks} d r) = L.then (lends x y k.number k.call k.list d) (lendings r)
lendings (wrong {x} {y} {z} {u} {u'} {k} {ks} v d a b r) = L.wrong v (lends u u' k.number k.call k.list d) a b (lendings r)

pub own-told : {x y : Lending} {ks : List Exchange} (r : Exchanges x ks y) → L.own (lendings r) ≡ map turn_of (own r)
unfolding lendings
own-told over = refl
own-told (then {k = k} d r) = ap (λ l. turn_of k ∷ l) (own-told r)
own-told (wrong v d a b r) = own-told r

told-append : (ks js : List Exchange) → map turn_of (ks ++ js) ≡ map turn_of ks ++ map turn_of js
told-append [] js = refl
told-append (k ∷ ks) js = ap (λ l. turn_of k ∷ l) (told-append ks js)

-- ---- after a format that returned 0, ok

module _ (m : ℕ) (x x' : Lending) (h : Told Formatted x.store x.table m 0 x'.store x'.table) where
  pub format-ok : said h.answer ≡ C.ok
  unfolding unpacked
  format-ok =
      let a = h.answer in
      sym (reads (said a) 0 h.packs (fits x x' 0 a (λ n. formats-brief m x.store x.table (said a) x'.store x'.table (h.does.0 n)) (λ z. (h.does.1 z).0)))

  -- Any list of calls, by any parties, keeps demand 3.
  pub exported-demand-3 : (ks : List Exchange) (y : Lending) → Exchanges x' ks y → Demand3 words (told nothing (map turn_of ks)) y
  exported-demand-3 ks y r = lent-demand-3 m h.answer x x' h.does format-ok (map turn_of ks) y (lendings r)

  -- The holders are the ledger's of the host's own calls.
  pub exported-holders-run : (ks : List Exchange) (y : Lending) (r : Exchanges x' ks y) (k : Kind) (i : Mode) (q z : ℕ)
      → holders_in y k i q z ≡ ledger_after no_locks (calls_on (length x.store) (map turn_of (own r))) (fresh m (records_for m (length x.store))) k i q z
  exported-holders-run ks y r k i q z =
      lent-holders-run m h.answer x x' h.does format-ok (map turn_of ks) y (lendings r) k i q z
      ∙ ap (λ l. ledger_after no_locks (calls_on (length x.store) l) (fresh m (records_for m (length x.store))) k i q z) (own-told r)

  -- By all calls and numbers alone: once a locate of session p is done, it holds every key of its range, stored or not, until its end.
  pub exported-located-run : (before : List Exchange) (k : Exchange) (after : List Exchange) (y : Lending) → Exchanges x' (before ++ k ∷ after) y
      → (p lo hi : ℕ) → LocateDone (map turn_of before) (turn_of k) p lo hi → Lasts p (tell (turn_of k) (told nothing (map turn_of before))) (map turn_of after) → (z : ℕ) → lo ≤ z → z ≤ hi → holders_in y Locks.group weak p z ≡ true
  exported-located-run before k after y r =
      lent-located-run m h.answer x x' h.does format-ok (map turn_of before) (turn_of k) (map turn_of after) y
      (subst (λ l. Lendings x' l y) (told-append before (k ∷ after)) (lendings r))

  -- By all calls and numbers alone the begun sessions stand in their line: a record is begun exactly if its session stands in it, and of two begun sessions the
  -- one with the lower number stands earlier.
  pub exported-line : (ks : List Exchange) (y : Lending) → Exchanges x' ks y → InLine (line nothing [] (map turn_of ks)) y.table
  exported-line ks y r = lent-line m h.answer x x' h.does format-ok (map turn_of ks) y (lendings r)

  -- By all calls and numbers alone: from an accepted ask of session p on, until an accepted commit or abort of p or a format, a commit of p is accepted, whatever
  -- the others called, and across recovers.
  pub exported-ask : (ks : List Exchange) (y z : Lending) (p r : ℕ) (l : List ℕ) → Exchanges x' ks y → AskedSince p (map turn_of ks) → Exported y (C.commit p) r l z → unpacked r ≡ C.ok
  exported-ask ks y z p r l e A d =
      functions-ask m h.answer x x' h.does format-ok (map turn_of ks) y z p (record { call = C.commit p; answer = unpacked r; list = [] }) (lendings e) A refl (lends y z r (C.commit p) l d)
