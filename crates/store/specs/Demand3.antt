-- Demand 3 of the eight functions of this crate as a machine of their own: the aborts that it speaks of are calls of `abort` too. Every list of calls has a run.
use Rattle.std.specs.Prelude.{◌≡◌, List, [], map, ◌⊎◌, ℕ, length}
use Rattle.std.proofs.Common.{subst, ap, ◌∙◌, inl, inr}
use Rattle.sessions.specs.Sessions.{parties}
use Rattle.serial.specs.Locks.{lock_rule, lock-rule-strict}
use Rattle.serial.specs.Calls.{Turn, Told, nothing, tell, told, Unfinished, Made, Knows, Moves, Anew, Laws, Demand3, calls-made}
use Rattle.serial.proofs.Calls.{demand-3}
use Rattle.serial.proofs.Unfinished.{aborts-made}
use Rattle.serial.specs.Calls as C
use Rattle.serial.specs.Recovery.{AskedSince, asked-since, run-knows}
use Rattle.outcomes.specs.declared.Answer.{Answer}
use Rattle.outcomes.specs.Said.{said}
use Rattle.promises.specs.Demands.{Lending, words}
use Rattle.promises.specs.Runs.{lending}
use Rattle.promises.specs.Words.{Can}
use Rattle.promises.proofs.Words.{can, words-meet, formatted-known, formatted-new}
use Rattle.store.specs.Lent.{Formatted, OnTable}
use Rattle.store.specs.Turns.{turn, Lends, formats, begins, puts, steps, commits, aborts, asks, recovers, SoundLent, sound-long, lends-return, functions, Lendings, own, own-run, own-told, accepted-format}

-- ---- the laws

-- Some return of the function of a call.
abbrev pub Returned : C.Call → Lending → Type 0
Returned c x = (a : Answer) × (l : List ℕ) × (y : Lending) × Lends x (turn c a l) y

-- A sound store has a table of 17 records.
no_other : {P : Type 0} (x : Lending) → SoundLent x → ¬ (length x.table ≡ parties) → P
no_other x S z = absurd (z (sound-long x S))

can-return : (c : C.Call) (x : Lending) → SoundLent x → Can c x.store x.table → Returned c x
can-return (C.format m) x S k = (k.0, [], lending k.1 k.2, formats {a = k.0} (λ n. k.3, no_other x S))
can-return (C.begin p) x S k = (k.0, [], lending k.1 k.2, begins {a = k.0} (λ n. k.3, no_other x S))
can-return (C.put p c e f g) x S k =
    (k.0, [], lending k.1 k.2, puts {k = record { party = p; code = c; entry = e; first = f; second = g }} {a = k.0} (λ n. k.3, no_other x S))
can-return (C.step p l) x S k = (k.0, k.3, lending k.1 k.2, steps {a = k.0} (λ n. k.4, no_other x S))
can-return (C.commit p) x S k = (k.0, [], lending k.1 k.2, commits {a = k.0} (λ n. k.3, no_other x S))
can-return (C.abort p) x S k = (k.0, [], lending k.1 k.2, aborts {a = k.0} (λ n. k.3, no_other x S))
can-return (C.ask p) x S k = (k.0, [], lending k.1 k.2, asks {a = k.0} (λ n. k.3, no_other x S))
can-return C.recover x S k = (k.0, [], lending k.1 k.2, recovers {a = k.0} (λ n. k.3, no_other x S))

-- Every call returns, on every sound store.
pub functions-return : (c : C.Call) (x : Lending) → SoundLent x → Returned c x
functions-return c x S = can-return c x S (can c x.store x.table S)

known : (t : Told) (x : Lending) → Knows functions t x → Knows words t x
known t x w = record { sound = w.sound; hand_told = w.hand_told; begun_told = w.begun_told; asked_told = w.asked_told }

known-back : (t : Told) (x : Lending) → Knows words t x → Knows functions t x
known-back t x w = record { sound = w.sound; hand_told = w.hand_told; begun_told = w.begun_told; asked_told = w.asked_told }

moved : (t u : Told) (x y : Lending) → Moves words lock_rule t u x y ⊎ Anew words u y → Moves functions lock_rule t u x y ⊎ Anew functions u y
moved t u x y (inl m) = inl (record { events = m.events; moved = m.moved; as_told = m.as_told })
moved t u x y (inr a) = inr (record { nothing_told = a.nothing_told; as_new = a.as_new })

-- The eight functions meet the laws that a store owes for demand 3.
pub functions-laws : Laws functions lock_rule
functions-laws = record {
  returns = λ c x S. let o = functions-return c x S in (said o.0, o.1, o.2, o.3);
  knows = λ k x y t d w. known-back (tell k t) y (words-meet.knows k x y t (lends-return (sound-long x w.sound) d) (known t x w));
  moves = λ k x y t d w. moved t (tell k t) x y (words-meet.moves k x y t (lends-return (sound-long x w.sound) d) (known t x w));
  abort_ok = λ s k x y e d S b. words-meet.abort_ok s k x y e (lends-return (sound-long x S) d) S b;
  commit_ok = λ s k x y e d S b. words-meet.commit_ok s k x y e (lends-return (sound-long x S) d) S b;
}

-- ---- after a format that was accepted

module _ (m : ℕ) (a : Answer) (x x' : Lending) (h : OnTable Formatted x.store x.table m a x'.store x'.table) (e : said a ≡ C.ok) where
  pub start-known : Knows functions nothing x'
  start-known = known-back nothing x' (formatted-known m x.store x'.store x.table x'.table (accepted-format m a x x' h e))

  -- Any list of calls keeps demand 3.
  pub functions-demand-3 : (ks : List Turn) (y : Lending) → Lendings x' ks y → Demand3 functions (told nothing ks) y
  functions-demand-3 ks y r =
      subst (λ t. Demand3 functions t y) (own-told r nothing)
      (demand-3 functions lock_rule lock-rule-strict functions-laws x' y (own r) start-known
      (formatted-new m x.store x'.store x.table x'.table (accepted-format m a x x' h e)) (own-run r))

  -- Every list of calls has a run, whatever numbers their arguments are.
  pub functions-made : (cs : List C.Call) → Made functions x' cs
  functions-made cs = calls-made functions lock_rule lock-rule-strict functions-laws cs nothing x' start-known

  -- After any list of calls the unfinished sessions can be listed, and aborted in that sequence.
  pub functions-aborts : (ks : List Turn) (y : Lending) → Lendings x' ks y → (ss : List ℕ) × Unfinished (told nothing ks) ss × Made functions y (map C.abort ss)
  functions-aborts ks y r =
      subst (λ t. (ss : List ℕ) × Unfinished t ss × Made functions y (map C.abort ss)) (own-told r nothing)
      (aborts-made functions lock_rule lock-rule-strict functions-laws x' y (own r) start-known
      (formatted-new m x.store x'.store x.table x'.table (accepted-format m a x x' h e)) (own-run r))

  -- After any list of calls in which an ask of session p was accepted, and since then no commit or abort of p and no format: a commit of p is accepted, whatever
  -- the others called, and across recovers.
  pub functions-ask : (ks : List Turn) (y z : Lending) (p : ℕ) (j : Turn) → Lendings x' ks y → AskedSince p ks → j.call ≡ C.commit p → Lends y j z → j.answer ≡ C.ok
  functions-ask ks y z p j r A c d =
      let w = run-knows lock_rule functions functions-laws nothing (own-run r) start-known in
      functions-laws.commit_ok p j y z c d w.sound (w.asked_told p ∙ ap (λ t. t.asked p) (own-told r nothing) ∙ asked-since p ks nothing A)
