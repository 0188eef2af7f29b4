-- Lists of calls with day calls in them are lists of ordinary calls, and keep demand 3.
use Rattle.std.specs.Prelude.{◌≡◌, refl, List, [], ◌∷◌, ◌++◌, ℕ}
use Rattle.std.proofs.Common.{sym, ap, subst, ◌∙◌}
use Rattle.std.proofs.Math.Decide.{ℕ_discrete}
use Rattle.sessions.specs.declared.Session.{Session}
use Rattle.serial.specs.Calls.{Turn, nothing, told, Run, Demand3}
use Rattle.serial.specs.Calls as C
use Rattle.meaning.specs.Sound.{Sound}
use Rattle.promises.specs.Relations.{Formats}
use Rattle.promises.specs.Ways.{Serves}
use Rattle.promises.specs.Demands.{Lending, Returns, words}
use Rattle.promises.proofs.Words.{formatted-calls}
use Rattle.outcomes.specs.declared.DayAnswer.{DayAnswer}
use Rattle.outcomes.specs.declared.DayAnswer.TheVariants.{Refused}
use Rattle.day_calls.specs.Calling.{Handed, day_count, day_refusal, ordinary, renamed, Days}

-- One of the six calls with its answer and list, or a day call of a party with what is handed in and its answer.
pub data Mixed : Type 0 where
  plain : Turn → Mixed
  day : ℕ → Handed → DayAnswer → Mixed

-- It may return so, by its promise.
abbrev pub Does : Lending → Mixed → Lending → Type 0
Does x (plain k) y = Returns x k y
Does x (day p h a) y = Days p h x.store x.table a y.store y.table

pub data Runs : Lending → List Mixed → Lending → Type 0 where
  stop : {x : Lending} → Runs x [] x
  next : {x y z : Lending} {m : Mixed} {ms : List Mixed} → Does x m y → Runs y ms z → Runs x (m ∷ ms) z

-- The ordinary turn that an accepted day call is.
abbrev pub ordinary_turn : Lending → ℕ → Handed → C.Answer → Turn
ordinary_turn x p h a = record { call = ordinary x.table p h; answer = a; list = [] }

-- What a call is in ordinary ones: itself; nothing, if it is a day call that is refused before it puts or steps; else one put or step with its answer renamed.
pub data Is (x : Lending) : Mixed → List Turn → Lending → Type 0 where
  itself : {k : Turn} {y : Lending} → Returns x k y → Is x (plain k) (k ∷ []) y
  refused : {p n : ℕ} {h : Handed} {a : DayAnswer} → a ≡ Refused n 0 → Is x (day p h a) [] x
  served : {p : ℕ} {h : Handed} {a : DayAnswer} {y : Lending} (inner : C.Answer) → day_refusal x.store x.table p h ≡ 0 → a ≡ renamed (day_count h) h.place inner
      → Serves (ordinary x.table p h) x.store x.table inner [] y.store y.table → Is x (day p h a) (ordinary_turn x p h inner ∷ []) y

-- So for each call of a list, in turn; each state on the way is sound.
pub data Are : Lending → List Mixed → List Turn → Lending → Type 0 where
  none : {x : Lending} → Are x [] [] x
  more : {x y z : Lending} {m : Mixed} {ms : List Mixed} {ks ls : List Turn} → Sound x.store x.table → Is x m ks y → Are y ms ls z → Are x (m ∷ ms) (ks ++ ls) z

same-lending : (x y : Lending) → y.store ≡ x.store → y.table ≡ x.table → y ≡ x
same-lending x y a b = ap (λ s. record { store = s; table = y.table }) a ∙ ap (λ t. record { store = x.store; table = t }) b

pub one-is : (x y : Lending) (m : Mixed) → Sound x.store x.table → Does x m y → (ks : List Turn) × Is x m ks y × Sound y.store y.table
unfolding Returns
one-is x y (plain k) S d = (k ∷ [], itself d, (d S).sound)
one-is x y (day p h a) S d = go (ℕ_discrete (day_refusal x.store x.table p h) 0)
  where
    go : Dec (day_refusal x.store x.table p h ≡ 0) → (ks : List Turn) × Is x (day p h a) ks y × Sound y.store y.table
    go (yes z) =
        let R = (d.answers S).accepts z in
        (ordinary_turn x p h R.inner ∷ [], served R.inner z R.answer R.serves, R.serves.0.sound)
    go (no n) =
        let R = (d.answers S).refuses n in
        let e : y ≡ x = same-lending x y R.store_same R.table_same in
        ([], subst (λ w. Is x (day p h a) [] w) (sym e) (refused R.answer), subst (λ w. Sound w.store w.table) (sym e) S)

-- Each list with day calls in it is a list of ordinary calls,
pub all_are : {x y : Lending} {ms : List Mixed} → Sound x.store x.table → Runs x ms y → (ks : List Turn) × Are x ms ks y
all_are S stop = ([], none)
all_are S (next {x} {y} {z} {m} {ms} d r) =
    let a = one-is x y m S d in
    let b = all_are a.2 r in
    (a.0 ++ b.0, more S a.1 b.1)

run-append : {x y z : Lending} {ks ls : List Turn} → Run words x ks y → Run words y ls z → Run words x (ks ++ ls) z
run-append C.stop s = s
run-append (C.next d r) s = C.next d (run-append r s)

pub served-returns : (x y : Lending) (p : ℕ) (h : Handed) (inner : C.Answer) → Serves (ordinary x.table p h) x.store x.table inner [] y.store y.table
    → Returns x (ordinary_turn x p h inner) y
unfolding Returns
served-returns x y p h inner sv = λ _. sv.0

pub is-run : {x y : Lending} {m : Mixed} {ks : List Turn} → Is x m ks y → Run words x ks y
is-run (itself d) = C.next d C.stop
is-run (refused e) = C.stop
is-run {x} {y} (served {p} {h} inner z e sv) = C.next (served-returns x y p h inner sv) C.stop

-- which run as such:
pub are-run : {x y : Lending} {ms : List Mixed} {ks : List Turn} → Are x ms ks y → Run words x ks y
are-run none = C.stop
are-run (more S i r) = run-append (is-run i) (are-run r)

-- Demand 3 over lists with day calls in them, from a store and table as an accepted format leaves them: of the ordinary calls that they are.
pub mixed-calls : (m : ℕ) (s s' : List ℕ) (t t' : List Session) → Formats m s t C.ok s' t' → (ms : List Mixed) (y : Lending) → Runs (record { store = s'; table = t' }) ms y
    → (ks : List Turn) × Are (record { store = s'; table = t' }) ms ks y × Demand3 words (told nothing ks) y
mixed-calls m s s' t t' F ms y run =
    let a = all_are (F.accepts refl).0 run in
    (a.0, a.1, formatted-calls m s s' t t' F a.0 y (are-run a.1))
