-- Demand 3 of the words: calls that keep their promises keep it, whatever the list of calls.
use Rattle.std.specs.Prelude.{◌≡◌, List, ◌⊎◌, ℕ, length}
use Rattle.std.proofs.Common.{sym, ap, subst, ◌∙◌}
use Rattle.std.proofs.Math.Logic.{inl, inr}
use Rattle.sessions.specs.declared.Session.{Session}
use Rattle.serial.specs.Locks.{lock_rule, lock-rule-strict}
use Rattle.serial.specs.LockMachine.{Formatted}
use Rattle.serial.specs.Calls.{Turn, Told, nothing, tell, told, Machine, Run, Demand3, Knows, Made, Anew, Laws, calls-made}
use Rattle.serial.proofs.Calls.{demand-3}
use Rattle.serial.specs.Calls as C
use Rattle.machine.specs.State.{session_of, fresh}
use Rattle.machine.specs.View.{view}
use Rattle.machine.specs.Demand.{Lent, Performs, machine, hand_put, fresh-formatted}
use Rattle.machine.proofs.Demand3.{machine-laws}
use Rattle.machine.specs.Fresh.{fresh-session}
use Rattle.machine.specs.Sound as S
use Rattle.meaning.specs.Reading.{meaning}
use Rattle.meaning.specs.Sound.{Sound}
use Rattle.promises.specs.Relations.{Answered}

-- What the host lends: the words of a store, and a table of session records.
pub record Lending : Type 0 where
  pub store : List ℕ
  pub table : List Session

-- A call may return with this answer and list and leave these words, by the promises of the eight calls.
unfoldable pub Returns : Lending → Turn → Lending → Type 0
Returns x k y = Sound x.store x.table → Answered k.call x.store x.table k.answer k.list y.store y.table

abbrev pub words : Machine
words = record {
  X = Lending;
  Sound = λ x. Sound x.store x.table;
  meaning = λ x. view (meaning x.store x.table);
  hand = λ x p. hand_put (session_of p (meaning x.store x.table)).hand;
  marked = λ x p. (session_of p (meaning x.store x.table)).asked;
  Does = Returns;
}

-- As the machine sees it.
abbrev pub lent : Lending → Lent
lent x = record { state = meaning x.store x.table; words = length x.store }

pub performs : (k : Turn) (x y : Lending) → Answered k.call x.store x.table k.answer k.list y.store y.table → Performs (lent x) k (lent y)
performs k x y A = record { tells = A.tells; list_is = A.list_is; state_is = A.means; words_same = A.long }

pub runs-performed : {x y : Lending} {ks : List Turn} → Sound x.store x.table → Run words x ks y → Run machine (lent x) ks (lent y)
unfolding Returns
runs-performed S C.stop = C.stop
runs-performed S (C.next {x} {y} {z} {k} {ks} d r) = let A = d S in C.next (performs k x y A) (runs-performed A.sound r)

pub known : (t : Told) (x : Lending) → Knows words t x → Knows machine t (lent x)
known t x w = record { sound = w.sound.state; hand_told = w.hand_told; begun_told = w.begun_told; asked_told = w.asked_told }

module _ (returns : (c : C.Call) (x : Lending) → Sound x.store x.table → (a : C.Answer) × (l : List ℕ) × (y : Lending) × Returns x (record { call = c; answer = a; list = l }) y) where
  pub words-laws : Laws words lock_rule
  unfolding Returns
  words-laws = record {
    returns = returns;
    knows = λ k x y t d w. let A = d w.sound in
        let K = machine-laws.knows k (lent x) (lent y) t (performs k x y A) (known t x w) in
        record { sound = A.sound; hand_told = K.hand_told; begun_told = K.begun_told; asked_told = K.asked_told };
    moves = λ k x y t d w. go k x y t (machine-laws.moves k (lent x) (lent y) t (performs k x y (d w.sound)) (known t x w));
    abort_ok = λ s k x y e d S b. machine-laws.abort_ok s k (lent x) (lent y) e (performs k x y (d S)) S.state b;
    commit_ok = λ s k x y e d S b. machine-laws.commit_ok s k (lent x) (lent y) e (performs k x y (d S)) S.state b;
  }
    where
      go : (k : Turn) (x y : Lending) (t : Told) → C.Moves machine lock_rule t (tell k t) (lent x) (lent y) ⊎ Anew machine (tell k t) (lent y) → C.Moves words lock_rule t (tell k t) x y ⊎ Anew words (tell k t) y
      go k x y t (inl m) = inl (record { events = m.events; moved = m.moved; as_told = m.as_told })
      go k x y t (inr a) = inr (record { nothing_told = a.nothing_told; as_new = a.as_new })

  pub fresh-known : (m r : ℕ) (x : Lending) → Sound x.store x.table → meaning x.store x.table ≡ fresh m r → Knows words nothing x
  fresh-known m r x S e = record {
    sound = S;
    hand_told = λ p. ap (λ z. hand_put (session_of p z).hand) e ∙ ap (λ z. hand_put z.hand) (fresh-session m r p);
    begun_told = λ p. ap (λ z. (session_of p z).begun) e ∙ ap (λ z. z.begun) (fresh-session m r p);
    asked_told = λ p. ap (λ z. (session_of p z).asked) e ∙ ap (λ z. z.asked) (fresh-session m r p);
  }

  pub fresh-new : (m r : ℕ) (x : Lending) → meaning x.store x.table ≡ fresh m r → Formatted (words.meaning x)
  fresh-new m r x e = subst (λ z. Formatted (view z)) (sym e) (fresh-formatted m r)

  -- Every list of calls has a run from there.
  pub words-made : (m r : ℕ) (x : Lending) → Sound x.store x.table → meaning x.store x.table ≡ fresh m r → (cs : List C.Call) → Made words x cs
  words-made m r x S e cs = calls-made words lock_rule lock-rule-strict words-laws cs nothing x (fresh-known m r x S e)

  -- Any list of calls, whoever's turn each is, from a store as an accepted format leaves it.
  pub words-demand-3 : (m r : ℕ) (x : Lending) → Sound x.store x.table → meaning x.store x.table ≡ fresh m r → (ks : List Turn) (y : Lending) → Run words x ks y → Demand3 words (told nothing ks) y
  words-demand-3 m r x S e ks y run = demand-3 words lock_rule lock-rule-strict words-laws x y ks (fresh-known m r x S e) (fresh-new m r x e) run
