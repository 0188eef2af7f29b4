-- Demand 2 of the eight functions over every list of calls: the holders read from the store are the sessions that were granted it by the host's own calls, and a
-- locate that is done holds every key of its range until its session ends. And the order of begins over every list of calls.
use Rattle.std.specs.Prelude.{◌≡◌, true, List, [], ◌∷◌, ◌++◌, ℕ, ◌≤◌, length}
use Rattle.std.proofs.Common.{sym, ap, subst, ◌∙◌}
use Rattle.serial.specs.Locks.{Kind, Mode, weak}
use Rattle.serial.specs.Locks as L
use Rattle.serial.specs.Calls.{Turn, Told, nothing, tell, told, Run, stop, next}
use Rattle.serial.specs.Calls as C
use Rattle.serial.specs.Line.{line}
use Rattle.machine.specs.State.{fresh}
use Rattle.machine.specs.Calls.{records_for}
use Rattle.machine.specs.Ledger.{no_locks, ledger_after}
use Rattle.machine.specs.Held.{calls_on, Lasts, LocateDone}
use Rattle.outcomes.specs.declared.Answer.{Answer}
use Rattle.outcomes.specs.Said.{said}
use Rattle.promises.specs.Demands.{Lending}
use Rattle.promises.specs.Holding.{holders_in, holders-run, located-run}
use Rattle.promises.specs.Line.{InLine}
use Rattle.promises.proofs.Line.{words-line}
use Rattle.store.specs.Lent.{Formatted, OnTable}
use Rattle.store.specs.Turns.{Lends, TurnedAway, away-quiet, functions, functions-words, Lendings, over, then, wrong, own, own-run, own-told, own_line, format-sound, accepted-format}

-- ---- a list of calls in two

-- Two runs one after the other.
runs-join : {x y z : Lending} {ks js : List Turn} → Run functions x ks y → Run functions y js z → Run functions x (ks ++ js) z
runs-join stop q = q
runs-join (next d r) q = next d (runs-join r q)

lendings-cut : (ks js : List Turn) {x z : Lending} → Lendings x (ks ++ js) z → (y : Lending) × Lendings x ks y × Lendings y js z
lendings-cut [] js {x} r = (x, over, r)
lendings-cut (k ∷ ks) js (then d r) = let q = lendings-cut ks js r in (q.0, then d q.1, q.2)
lendings-cut (k ∷ ks) js (wrong v d a b r) = let q = lendings-cut ks js r in (q.0, wrong v d a b q.1, q.2)

-- A session that lasts through all calls lasts through the host's own.
own-lasts : {x z : Lending} {ks : List Turn} (p : ℕ) (t : Told) (r : Lendings x ks z) → Lasts p t ks → Lasts p t (own r)
own-lasts p t over w = tt
own-lasts p t (then {k = k} d r) w = (w.0, own-lasts p (tell k t) r w.1)
own-lasts p t (wrong {k = k} {ks = ks} v d a b r) w = own-lasts p t r (subst (λ u. Lasts p u ks) (away-quiet k.call k.answer k.list v t) w.1)

-- A call that is done was lent what the host has.
own-done : {k : Turn} {ks : List Turn} {x z : Lending} (ns : List ℕ) → k.answer ≡ C.done ns → Lendings x (k ∷ ks) z → (y : Lending) × Lends x k y × Lendings y ks z
own-done ns e (then {y = y} d r) = (y, d, r)
own-done ns e (wrong v d a b r) = absurd (subst TurnedAway e v)

-- ---- after a format that was accepted

module _ (m : ℕ) (a : Answer) (x x' : Lending) (h : OnTable Formatted x.store x.table m a x'.store x'.table) (e : said a ≡ C.ok) where
  -- The holders are the ledger's of the host's own calls: those that were turned away granted nothing.
  pub lent-holders-run : (ks : List Turn) (y : Lending) (r : Lendings x' ks y) (k : Kind) (i : Mode) (q z : ℕ)
      → holders_in y k i q z ≡ ledger_after no_locks (calls_on (length x.store) (own r)) (fresh m (records_for m (length x.store))) k i q z
  lent-holders-run ks y r =
      holders-run m x.store x'.store x.table x'.table (accepted-format m a x x' h e) (own r) y (functions-words (format-sound m a x x' h e) (own-run r))

  -- By all calls and answers alone, those that were turned away among them: once a locate of session p is done, it holds every key of its range, stored or
  -- not, until its end.
  pub lent-located-run : (before : List Turn) (k : Turn) (after : List Turn) (y : Lending) → Lendings x' (before ++ k ∷ after) y
      → (p lo hi : ℕ) → LocateDone before k p lo hi → Lasts p (tell k (told nothing before)) after → (z : ℕ) → lo ≤ z → z ≤ hi → holders_in y L.group weak p z ≡ true
  lent-located-run before k after y r p lo hi D w =
      let cut = lendings-cut before (k ∷ after) r in
      let here = own-done D.numbers D.answered cut.2 in
      let done : LocateDone (own cut.1) k p lo hi = record {
        list = D.list;
        numbers = D.numbers;
        entry = D.entry;
        in_hand = ap (λ t. t.hands p) (own-told cut.1 nothing) ∙ D.in_hand;
        called = D.called;
        answered = D.answered;
      } in
      located-run m x.store x'.store x.table x'.table (accepted-format m a x x' h e) (own cut.1) k (own here.2) y
      (functions-words (format-sound m a x x' h e) (runs-join (own-run cut.1) (next here.1 (own-run here.2))))
      p lo hi done (own-lasts p (tell k (told nothing (own cut.1))) here.2 (subst (λ t. Lasts p (tell k t) after) (sym (own-told cut.1 nothing)) w))

  -- By all calls and answers alone, those that were turned away among them, the begun sessions stand in their line: a record is begun exactly if its session
  -- stands in it, and of two begun sessions the one with the lower number stands earlier.
  pub lent-line : (ks : List Turn) (y : Lending) → Lendings x' ks y → InLine (line nothing [] ks) y.table
  lent-line ks y r =
      subst (λ l. InLine l y.table) (own_line r nothing [])
      (words-line m x.store x'.store x.table x'.table (accepted-format m a x x' h e) (own r) y (functions-words (format-sound m a x x' h e) (own-run r)))
