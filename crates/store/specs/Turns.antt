-- Demand 3 over the eight functions of this crate: any list of their returns, each as its contract says, after a format that was accepted.
use Rattle.std.specs.Prelude.{◌≡◌, refl, true, false, cond, not, ◌↔◌, ℕ, length, get_or, take, drop}
use Rattle.std.proofs.Common.{sym, ap, subst, ◌∙◌, arith, length-append, take_all, take_at, drop_at}
use mathlib.Core.List.{List, [], ◌∷◌, ◌++◌, List-discrete}
use Rattle.std.proofs.Math.Option.{none}
use Rattle.std.proofs.Math.Decide.{ℕ_discrete}
use Rattle.std.proofs.Math.Seq.{take-length, take-append_seam, drop-append_seam}
use Rattle.sessions.specs.declared.Session.{Session}
use Rattle.sessions.specs.Sessions.{parties}
use Rattle.serial.specs.Model.{both}
use Rattle.serial.specs.Calls.{Turn, Told, nothing, tell, told, Machine, Run, stop, next, Demand3}
use Rattle.serial.specs.Calls as C
use Rattle.serial.specs.Line.{line_answer, in_line, line}
use Rattle.outcomes.specs.declared.Answer.{Answer}
use Rattle.outcomes.specs.declared.Answer.TheVariants.{Refused}
use Rattle.outcomes.specs.Said.{said}
use Rattle.meaning.specs.Sound.{Sound}
use Rattle.meaning.specs.Table.{table-many}
use Rattle.own_journal.specs.Diary.{Diary, note_answer}
use Rattle.promises.specs.Relations.{stays, Calls, Formats, list_of}
use Rattle.promises.specs.Demand1.{calls-not-1, format-not-1}
use Rattle.promises.specs.Demands.{Lending, Returns, words}
use Rattle.promises.specs.Promised.{calls-return, formats-return}
use Rattle.promises.specs.Runs.{lending}
use Rattle.promises.proofs.Words.{formatted-calls}
use Rattle.store.specs.declared.PutArgs.{PutArgs}
use Rattle.store.specs.Lent.{Formatted, Begun, Put, Committed, Aborted, Asked, Recovered, OnTable, SteppedOnTable}

-- A call, its answer as document 01 says it, and the words of the lent list when it returned.
abbrev pub turn : C.Call → Answer → List ℕ → Turn
turn c a l = record { call = c; answer = said a; list = l }

-- One return of one of the eight functions: what its contract says of store, table and list as they were lent and as they were left. Only step has a list.
pub data Lends : Lending → Turn → Lending → Type 0 where
  formats : {x y : Lending} {m : ℕ} {a : Answer} → OnTable Formatted x.store x.table m a y.store y.table → Lends x (turn (C.format m) a []) y
  begins : {x y : Lending} {p : ℕ} {a : Answer} → OnTable Begun x.store x.table p a y.store y.table → Lends x (turn (C.begin p) a []) y
  puts : {x y : Lending} {k : PutArgs} {a : Answer} → OnTable Put x.store x.table k a y.store y.table
      → Lends x (turn (C.put k.party k.code k.entry k.first k.second) a []) y
  steps : {x y : Lending} {p : ℕ} {l l' : List ℕ} {a : Answer} → SteppedOnTable x.store x.table l p a y.store y.table l' → Lends x (turn (C.step p l) a l') y
  commits : {x y : Lending} {p : ℕ} {a : Answer} → OnTable Committed x.store x.table p a y.store y.table → Lends x (turn (C.commit p) a []) y
  aborts : {x y : Lending} {p : ℕ} {a : Answer} → OnTable Aborted x.store x.table p a y.store y.table → Lends x (turn (C.abort p) a []) y
  asks : {x y : Lending} {p : ℕ} {a : Answer} → OnTable Asked x.store x.table p a y.store y.table → Lends x (turn (C.ask p) a []) y
  recovers : {x y : Lending} {a : Answer} → OnTable Recovered x.store x.table tt a y.store y.table → Lends x (turn C.recover a []) y

-- On a table of 17 records it is a turn of the machine of words (promises, specs/Demands).
pub lends-return : {x y : Lending} {k : Turn} → length x.table ≡ parties → Lends x k y → Returns x k y
lends-return n (formats {x} {y} {m} {a} h) = formats-return m x.store x.table (said a) y.store y.table (h.0 n)
lends-return n (begins {x} {y} {p} {a} h) = calls-return (C.begin p) x.store x.table (said a) [] y.store y.table (h.0 n)
lends-return n (puts {x} {y} {k} {a} h) = calls-return (C.put k.party k.code k.entry k.first k.second) x.store x.table (said a) [] y.store y.table (h.0 n)
lends-return n (steps {x} {y} {p} {l} {l'} {a} h) = calls-return (C.step p l) x.store x.table (said a) l' y.store y.table (h.0 n)
lends-return n (commits {x} {y} {p} {a} h) = calls-return (C.commit p) x.store x.table (said a) [] y.store y.table (h.0 n)
lends-return n (aborts {x} {y} {p} {a} h) = calls-return (C.abort p) x.store x.table (said a) [] y.store y.table (h.0 n)
lends-return n (asks {x} {y} {p} {a} h) = calls-return (C.ask p) x.store x.table (said a) [] y.store y.table (h.0 n)
lends-return n (recovers {x} {y} {a} h) = calls-return C.recover x.store x.table (said a) [] y.store y.table (h.0 n)

abbrev pub SoundLent : Lending → Type 0
SoundLent x = Sound x.store x.table

-- A sound store has a table of 17 records, and a call leaves it sound.
pub sound-long : (x : Lending) → SoundLent x → length x.table ≡ parties
sound-long x S = table-many x.store x.table S.state

pub lends-sound : {x y : Lending} {k : Turn} → SoundLent x → Lends x k y → SoundLent y
unfolding Returns
lends-sound {x} S d = (lends-return (sound-long x S) d S).sound

-- Refusal 1 exactly: of a table that is not of 17 records.
pub refused-1 : {x y : Lending} {k : Turn} → Lends x k y → (k.answer ≡ C.refused 1 0) ↔ ¬ (length x.table ≡ parties)
refused-1 (formats {x} {y} {m} {a} h) = ((λ e n. format-not-1 m x.store x.table (said a) y.store y.table (h.0 n) 0 e), λ z. ap said (h.1 z).0)
refused-1 (begins {x} {y} {p} {a} h) = ((λ e n. calls-not-1 (C.begin p) x.store x.table (said a) [] y.store y.table (h.0 n) 0 e), λ z. ap said (h.1 z).0)
refused-1 (puts {x} {y} {k} {a} h) =
    ((λ e n. calls-not-1 (C.put k.party k.code k.entry k.first k.second) x.store x.table (said a) [] y.store y.table (h.0 n) 0 e), λ z. ap said (h.1 z).0)
refused-1 (steps {x} {y} {p} {l} {l'} {a} h) = ((λ e n. calls-not-1 (C.step p l) x.store x.table (said a) l' y.store y.table (h.0 n) 0 e), λ z. ap said (h.1 z).0)
refused-1 (commits {x} {y} {p} {a} h) = ((λ e n. calls-not-1 (C.commit p) x.store x.table (said a) [] y.store y.table (h.0 n) 0 e), λ z. ap said (h.1 z).0)
refused-1 (aborts {x} {y} {p} {a} h) = ((λ e n. calls-not-1 (C.abort p) x.store x.table (said a) [] y.store y.table (h.0 n) 0 e), λ z. ap said (h.1 z).0)
refused-1 (asks {x} {y} {p} {a} h) = ((λ e n. calls-not-1 (C.ask p) x.store x.table (said a) [] y.store y.table (h.0 n) 0 e), λ z. ap said (h.1 z).0)
refused-1 (recovers {x} {y} {a} h) = ((λ e n. calls-not-1 C.recover x.store x.table (said a) [] y.store y.table (h.0 n) 0 e), λ z. ap said (h.1 z).0)

-- The eight functions as a machine, each as its contract says.
abbrev pub functions : Machine
functions = record { X = Lending; Sound = SoundLent; meaning = words.meaning; hand = words.hand; marked = words.marked; Does = Lends }

pub functions-sound : {x z : Lending} {ks : List Turn} → SoundLent x → Run functions x ks z → SoundLent z
functions-sound S stop = S
functions-sound S (next d r) = functions-sound (lends-sound S d) r

-- Their turns are turns of the machine of words.
pub functions-words : {x z : Lending} {ks : List Turn} → SoundLent x → Run functions x ks z → Run words x ks z
functions-words S stop = stop
functions-words S (next {x} d r) = next (lends-return (sound-long x S) d) (functions-words (lends-sound S d) r)

-- ---- a call that was lent something else

-- What the host has lies in memory, from place `from` on. A call is lent a part of that memory, wherever it lies: elsewhere, inside, around it or across an
-- end; and leaves part' in its place. own and own' are what the host has before and after.
pub record Loan {A : Type 0} (own part part' own' : List A) : Type 0 where
  pub before : List A
  pub behind : List A
  pub from : ℕ
  pub lies : own ≡ take (length own) (drop from (before ++ part ++ behind))
  pub left : own' ≡ take (length own) (drop from (before ++ part' ++ behind))

module _ {A : Type 0} where
  -- A part elsewhere, the whole, and a slice of what the host has are cases.
  pub elsewhere : (own part part' : List A) → length part' ≡ length part → Loan own part part' own
  elsewhere own part part' e = record {
    before = [];
    behind = own;
    from = length part;
    lies = sym (ap (take (length own)) (drop-append_seam part own) ∙ take-length own);
    left = sym (ap (take (length own)) (drop_at part' own (length part) e) ∙ take-length own);
  }

  pub whole : (own own' : List A) → length own' ≡ length own → Loan own own own' own'
  whole own own' e = record { before = []; behind = []; from = 0; lies = sym (take-append_seam own []); left = sym (take_at own' [] (length own) e) }

  pub slice : (before part part' behind : List A) → length part' ≡ length part → Loan (before ++ part ++ behind) part part' (before ++ part' ++ behind)
  slice before part part' behind e = record {
    before = before;
    behind = behind;
    from = 0;
    lies = sym (take-length (before ++ part ++ behind));
    left = sym (take_all (length (before ++ part ++ behind)) (before ++ part' ++ behind)
        (omega (arith, e, length-append (before ++ part) behind, length-append before part, length-append (before ++ part') behind, length-append before part')));
  }

  -- A part left as it was leaves what the host has.
  pub loan-same : {own part part' own' : List A} → part' ≡ part → Loan own part part' own' → own' ≡ own
  loan-same {own} e L = L.left ∙ ap (λ z. take (length own) (drop L.from (L.before ++ z ++ L.behind))) e ∙ sym L.lies

-- Refused by a number that ends no request: any but 11 and 12. For what was lent: 1 and 2, and 3 of a format.
abbrev pub TurnedAway : C.Answer → Type 0
TurnedAway C.ok = ⊥
TurnedAway C.more = ⊥
TurnedAway (C.wait p) = ⊥
TurnedAway (C.done ns) = ⊥
TurnedAway (C.refused n k) = C.ends_request n ≡ false

-- Such a call tells nothing,
quiet : (c : C.Call) (n : ℕ) → C.ends_request n ≡ false → (t : Told) → C.tell_refused c n t ≡ t
quiet (C.format m) n e t = refl
quiet (C.begin p) n e t = refl
quiet (C.put p c i f g) n e t = refl
quiet (C.step p l) n e t = ap (λ b. cond b (C.take_in_hand p none t) t) e
quiet (C.commit p) n e t = refl
quiet (C.abort p) n e t = refl
quiet (C.ask p) n e t = refl
quiet C.recover n e t = refl

pub away-quiet : (c : C.Call) (a : C.Answer) (l : List ℕ) → TurnedAway a → (t : Told) → C.tell_answer c a l t ≡ t
away-quiet c C.ok l v t = absurd v
away-quiet c C.more l v t = absurd v
away-quiet c (C.wait p) l v t = absurd v
away-quiet c (C.done ns) l v t = absurd v
away-quiet c (C.refused n k) l v t = quiet c n v t

-- Of a call that was turned away nothing is written.
pub away-unwritten : (c : C.Call) (a : C.Answer) (l : List ℕ) → TurnedAway a → (t : Told) (d : Diary) → note_answer c a l t d ≡ d
away-unwritten c C.ok l v t d = absurd v
away-unwritten c C.more l v t d = absurd v
away-unwritten c (C.wait p) l v t d = absurd v
away-unwritten c (C.done ns) l v t d = absurd v
away-unwritten c (C.refused n k) l v t d = refl

pub away-line : (k : Turn) → TurnedAway k.answer → (t : Told) (l : List ℕ) → in_line t l k ≡ l
away-line k v t l = go k.answer v
  where
    go : (a : C.Answer) → TurnedAway a → line_answer t k.call a l ≡ l
    go C.ok w = absurd w
    go C.more w = absurd w
    go (C.wait p) w = absurd w
    go (C.done ns) w = absurd w
    go (C.refused n i) w = refl

-- and leaves store and table as they were lent, whatever they are.
away-stays : (a : C.Answer) → TurnedAway a → stays a ≡ true
away-stays C.ok v = absurd v
away-stays C.more v = absurd v
away-stays (C.wait p) v = absurd v
away-stays (C.done ns) v = absurd v
away-stays (C.refused n k) v = ap not v

abbrev pub Same : Lending → Lending → Type 0
Same x y = (y.store ≡ x.store) × (y.table ≡ x.table)

numbers_of : Session → List ℕ
numbers_of s = s.begun ∷ s.code ∷ s.entry ∷ s.first ∷ s.second ∷ s.stage ∷ s.target ∷ s.at ∷ s.level ∷ s.low ∷ s.high ∷ s.last ∷ s.undo ∷ s.order ∷ s.asked ∷ []

same-session : (s u : Session) → Dec (s ≡ u)
unfolding numbers_of
same-session s u = go (List-discrete ℕ_discrete (numbers_of s) (numbers_of u))
  where
    back : List ℕ → Session
    back l =
        record {
          begun = get_or l 0 0;
          code = get_or l 1 0;
          entry = get_or l 2 0;
          first = get_or l 3 0;
          second = get_or l 4 0;
          stage = get_or l 5 0;
          target = get_or l 6 0;
          at = get_or l 7 0;
          level = get_or l 8 0;
          low = get_or l 9 0;
          high = get_or l 10 0;
          last = get_or l 11 0;
          undo = get_or l 12 0;
          order = get_or l 13 0;
          asked = get_or l 14 0;
        }

    go : Dec (numbers_of s ≡ numbers_of u) → Dec (s ≡ u)
    go (yes e) = yes (ap back e)
    go (no n) = no (λ e. n (ap numbers_of e))

same-lent : (x y : Lending) → Dec (Same x y)
same-lent x y = both (List-discrete ℕ_discrete y.store x.store) (List-discrete same-session y.table x.table)

-- The same whether a fact holds or not.
pub same-either : {x y : Lending} {D : Type 0} → (D → Same x y) → (¬ D → Same x y) → Same x y
same-either {x} {y} {D} f g = go (same-lent x y)
  where
    go : Dec (Same x y) → Same x y
    go (yes e) = e
    go (no n) = g (λ d. n (f d))

calls-stay : (c : C.Call) (x : Lending) (a : C.Answer) (l' : List ℕ) (y : Lending) → TurnedAway a → Calls c x.store x.table a l' y.store y.table → Same x y
calls-stay c x a l' y v P = same-either {D = SoundLent x} (λ S. (P.answers S).0.still (away-stays a v)) (λ n. ((P.refuses n).store_same, (P.refuses n).table_same))

pub away-same : {x y : Lending} {k : Turn} → TurnedAway k.answer → Lends x k y → Same x y
away-same v (formats {x} {y} {m} {a} h) = same-either {D = length x.table ≡ parties} (λ n. (h.0 n).refuses (away-stays (said a) v)) (λ z. ((h.1 z).1, (h.1 z).2))
away-same v (begins {x} {y} {p} {a} h) = same-either {D = length x.table ≡ parties} (λ n. calls-stay (C.begin p) x (said a) [] y v (h.0 n)) (λ z. ((h.1 z).1, (h.1 z).2))
away-same v (puts {x} {y} {k} {a} h) =
    same-either {D = length x.table ≡ parties} (λ n. calls-stay (C.put k.party k.code k.entry k.first k.second) x (said a) [] y v (h.0 n)) (λ z. ((h.1 z).1, (h.1 z).2))
away-same v (steps {x} {y} {p} {l} {l'} {a} h) = same-either {D = length x.table ≡ parties} (λ n. calls-stay (C.step p l) x (said a) l' y v (h.0 n)) (λ z. ((h.1 z).1, (h.1 z).2))
away-same v (commits {x} {y} {p} {a} h) = same-either {D = length x.table ≡ parties} (λ n. calls-stay (C.commit p) x (said a) [] y v (h.0 n)) (λ z. ((h.1 z).1, (h.1 z).2))
away-same v (aborts {x} {y} {p} {a} h) = same-either {D = length x.table ≡ parties} (λ n. calls-stay (C.abort p) x (said a) [] y v (h.0 n)) (λ z. ((h.1 z).1, (h.1 z).2))
away-same v (asks {x} {y} {p} {a} h) = same-either {D = length x.table ≡ parties} (λ n. calls-stay (C.ask p) x (said a) [] y v (h.0 n)) (λ z. ((h.1 z).1, (h.1 z).2))
away-same v (recovers {x} {y} {a} h) = same-either {D = length x.table ≡ parties} (λ n. calls-stay C.recover x (said a) [] y v (h.0 n)) (λ z. ((h.1 z).1, (h.1 z).2))

-- ---- lists of calls

-- A list of calls, whoever's turn each is. The host lends its store and its table as the call before left them; or something else for one of them or for
-- both, other words u .store or other records u .table, parts of its own among them, is turned away, and goes on with what the call left it.
pub data Lendings : Lending → List Turn → Lending → Type 0 where
  over : {x : Lending} → Lendings x [] x
  then : {x y z : Lending} {k : Turn} {ks : List Turn} → Lends x k y → Lendings y ks z → Lendings x (k ∷ ks) z
  wrong : {x y z u u' : Lending} {k : Turn} {ks : List Turn} → TurnedAway k.answer → Lends u k u'
      → Loan x.store u.store u'.store y.store → Loan x.table u.table u'.table y.table → Lendings y ks z → Lendings x (k ∷ ks) z

-- What the host has is then as it was.
pub wrong-keeps : {x y u u' : Lending} {k : Turn} → TurnedAway k.answer → Lends u k u'
    → Loan x.store u.store u'.store y.store → Loan x.table u.table u'.table y.table → y ≡ x
wrong-keeps {x} {y} v d a b =
    let e = away-same v d in
    let s = loan-same e.0 a in
    let t = loan-same e.1 b in
    λ i. record { store = s i; table = t i }

-- The host's own calls: all but those that were lent something else.
abbrev pub own : {x z : Lending} {ks : List Turn} → Lendings x ks z → List Turn
own over = []
own (then {k = k} d r) = k ∷ own r
own (wrong v d a b r) = own r

-- They are a run of the eight functions, and tell what all the calls tell.
pub own-run : {x z : Lending} {ks : List Turn} (r : Lendings x ks z) → Run functions x (own r) z
own-run over = stop
own-run (then d r) = next d (own-run r)
own-run {x} {z} (wrong v d a b r) = subst (λ y. Run functions y (own r) z) (wrong-keeps v d a b) (own-run r)

pub own-told : {x z : Lending} {ks : List Turn} (r : Lendings x ks z) (t : Told) → told t (own r) ≡ told t ks
own-told over t = refl
own-told (then {k = k} d r) t = own-told r (tell k t)
own-told (wrong {k = k} {ks = ks} v d a b r) t = own-told r t ∙ sym (ap (λ w. told w ks) (away-quiet k.call k.answer k.list v t))

pub own_line : {x z : Lending} {ks : List Turn} (r : Lendings x ks z) (t : Told) (l : List ℕ) → line t l (own r) ≡ line t l ks
own_line over t l = refl
own_line (then {k = k} d r) t l = own_line r (tell k t) (in_line t l k)
own_line (wrong {k = k} {ks = ks} v d a b r) t l =
    own_line r t l ∙ sym (ap (λ w. line w (in_line t l k) ks) (away-quiet k.call k.answer k.list v t) ∙ ap (λ w. line t w ks) (away-line k v t l))

pub lendings-sound : {x z : Lending} {ks : List Turn} → SoundLent x → Lendings x ks z → SoundLent z
lendings-sound S r = functions-sound S (own-run r)

-- A run of the eight functions is such a list.
pub run-lendings : {x z : Lending} {ks : List Turn} → Run functions x ks z → Lendings x ks z
run-lendings stop = over
run-lendings (next d r) = then d (run-lendings r)

-- ---- such calls there are

-- Every call but format looks whether what it was lent is sound.
abbrev pub Looks : C.Call → Type 0
Looks (C.format m) = ⊥
Looks (C.begin p) = Unit {0}
Looks (C.put p c e f g) = Unit {0}
Looks (C.step p l) = Unit {0}
Looks (C.commit p) = Unit {0}
Looks (C.abort p) = Unit {0}
Looks (C.ask p) = Unit {0}
Looks C.recover = Unit {0}

module _ (u : Lending) (n : ¬ SoundLent u) where
  unsound-call : (c : C.Call) → Calls c u.store u.table (C.refused 2 0) (list_of c) u.store u.table
  unsound-call c = record { answers = λ S. absurd (n S); refuses = λ _. record { answer = refl; list_same = refl; store_same = refl; table_same = refl } }

  pub unsound-lends : (c : C.Call) → Looks c → length u.table ≡ parties → Lends u (turn c (Refused 2 0) (list_of c)) u
  unsound-lends (C.format m) w e = absurd w
  unsound-lends (C.begin p) w e = begins {a = Refused 2 0} (λ _. unsound-call (C.begin p), λ z. absurd (z e))
  unsound-lends (C.put p c i f g) w e =
      puts {k = record { party = p; code = c; entry = i; first = f; second = g }} {a = Refused 2 0} (λ _. unsound-call (C.put p c i f g), λ z. absurd (z e))
  unsound-lends (C.step p l) w e = steps {a = Refused 2 0} (λ _. unsound-call (C.step p l), λ z. absurd (z e))
  unsound-lends (C.commit p) w e = commits {a = Refused 2 0} (λ _. unsound-call (C.commit p), λ z. absurd (z e))
  unsound-lends (C.abort p) w e = aborts {a = Refused 2 0} (λ _. unsound-call (C.abort p), λ z. absurd (z e))
  unsound-lends (C.ask p) w e = asks {a = Refused 2 0} (λ _. unsound-call (C.ask p), λ z. absurd (z e))
  unsound-lends C.recover w e = recovers {a = Refused 2 0} (λ _. unsound-call C.recover, λ z. absurd (z e))

-- Between any two calls a slice of the store, not sound by itself, can be lent with the table: it is refused 2, and the list goes on.
pub slice-refused : (c : C.Call) → Looks c → {x z : Lending} {ks : List Turn} (before part behind : List ℕ) → x.store ≡ before ++ part ++ behind → ¬ Sound part x.table
    → SoundLent x → Lendings x ks z → Lendings x (turn c (Refused 2 0) (list_of c) ∷ ks) z
slice-refused c w {x} before part behind e n S r =
    wrong {u = lending part x.table} {u' = lending part x.table} refl (unsound-lends (lending part x.table) n c w (sound-long x S))
    (subst (λ s. Loan s part part s) (sym e) (slice before part part behind refl)) (whole x.table x.table refl) r

-- A table that is not of 17 records can be lent with the store, by every call: it is refused 1, and the list goes on.
pub misfit-lends : (u : Lending) → ¬ (length u.table ≡ parties) → (c : C.Call) → Lends u (turn c (Refused 1 0) (list_of c)) u
misfit-lends u n (C.format m) = formats {a = Refused 1 0} ((λ e. absurd (n e)), λ _. (refl, refl, refl))
misfit-lends u n (C.begin p) = begins {a = Refused 1 0} ((λ e. absurd (n e)), λ _. (refl, refl, refl))
misfit-lends u n (C.put p c i f g) = puts {k = record { party = p; code = c; entry = i; first = f; second = g }} {a = Refused 1 0} ((λ e. absurd (n e)), λ _. (refl, refl, refl))
misfit-lends u n (C.step p l) = steps {a = Refused 1 0} ((λ e. absurd (n e)), λ _. (refl, refl, refl, refl))
misfit-lends u n (C.commit p) = commits {a = Refused 1 0} ((λ e. absurd (n e)), λ _. (refl, refl, refl))
misfit-lends u n (C.abort p) = aborts {a = Refused 1 0} ((λ e. absurd (n e)), λ _. (refl, refl, refl))
misfit-lends u n (C.ask p) = asks {a = Refused 1 0} ((λ e. absurd (n e)), λ _. (refl, refl, refl))
misfit-lends u n C.recover = recovers {a = Refused 1 0} ((λ e. absurd (n e)), λ _. (refl, refl, refl))

pub table-refused : (c : C.Call) {x z : Lending} {ks : List Turn} (t : List Session) → ¬ (length t ≡ parties) → Lendings x ks z → Lendings x (turn c (Refused 1 0) (list_of c) ∷ ks) z
table-refused c {x} t n r =
    wrong {u = lending x.store t} {u' = lending x.store t} refl (misfit-lends (lending x.store t) n c) (whole x.store x.store refl) (elsewhere x.table t t refl) r

-- ---- demand 3

-- A format that was accepted has a table of 17 records.
pub accepted-format : (m : ℕ) (a : Answer) (x x' : Lending) → OnTable Formatted x.store x.table m a x'.store x'.table → said a ≡ C.ok
    → Formats m x.store x.table C.ok x'.store x'.table
accepted-format m a x x' h e = go (ℕ_discrete (length x.table) parties)
  where
    not-ok : {n k : ℕ} → C.refused n k ≡ C.ok → ⊥
    not-ok r = subst refusal r tt
      where
        refusal : C.Answer → Type 0
        refusal C.ok = ⊥
        refusal C.more = ⊥
        refusal (C.wait p) = ⊥
        refusal (C.done ns) = ⊥
        refusal (C.refused n k) = Unit {0}

    go : Dec (length x.table ≡ parties) → Formats m x.store x.table C.ok x'.store x'.table
    go (yes n) = subst (λ z. Formats m x.store x.table z x'.store x'.table) e (h.0 n)
    go (no z) = absurd (not-ok (sym (ap said (h.1 z).0) ∙ e))

pub format-sound : (m : ℕ) (a : Answer) (x x' : Lending) → OnTable Formatted x.store x.table m a x'.store x'.table → said a ≡ C.ok → SoundLent x'
format-sound m a x x' h e = ((accepted-format m a x x' h e).accepts refl).0

-- A format that was accepted; then any list of calls: it keeps demand 3.
pub lent-demand-3 : (m : ℕ) (a : Answer) (x x' : Lending) → OnTable Formatted x.store x.table m a x'.store x'.table → said a ≡ C.ok
    → (ks : List Turn) (y : Lending) → Lendings x' ks y → Demand3 words (told nothing ks) y
lent-demand-3 m a x x' h e ks y r =
    let F = accepted-format m a x x' h e in
    subst (λ t. Demand3 words t y) (own-told r nothing)
    (formatted-calls m x.store x'.store x.table x'.table F (own r) y (functions-words (F.accepts refl).0 (own-run r)))
