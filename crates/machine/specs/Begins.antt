-- An accepted begin in the documents' words: the begun sessions are renumbered in the order of their begins, and the one that begins is the last of them.
use Rattle.std.specs.Prelude.{◌≡◌, true, false, length}
use Rattle.std.proofs.Math.Path.{refl, sym, ap}
use Rattle.std.proofs.Common.{◌∙◌, subst, arith}
use Prim.Native.Nat.{suc, ◌-◌, ◌≤◌, ◌<◌, ℕ}
use Rattle.std.proofs.Math.Decide.{ℕ_discrete}
use Rattle.serial.specs.Serial.{true≢false}
use Rattle.machine.specs.State.{State, ok, session_of, on_session}
use Rattle.machine.specs.Steps.{answer}
use Rattle.machine.specs.Calls.{begin, call, begin_checks, begun_many, last_rank, ranked, renumbered, begins}
use Rattle.machine.specs.Sound.{Sound, Passes}
use Rattle.machine.specs.Table.{as_begun, ranked-kept, renumbered-kept, renumbered-unbegun, renumbered-order, renumbered-many, begins-own, begins-other, begins-kept, begins-many}
use Rattle.machine.specs.Ranks.{Ranked, rank-met, begun-map, begun-set}
use Rattle.machine.specs.Checks.{refusing-cases, session-number, party-seat, session-unbegun}
use Rattle.machine.specs.Renumbering.{rank_less, less-rank, number-most}
use Rattle.machine.specs.Ending.{begin-sound}
use Rattle.machine.specs.Ledger.{is_ok}

-- Session p begins in s, which leaves t.
pub record Begun (p : ℕ) (s t : State) : Type 0 where
  pub was : (session_of p s).begun ≡ false
  pub is : (session_of p t).begun ≡ true
  -- Where n sessions were begun, n + 1 are, and their numbers are exactly 1 to n + 1, each one's.
  pub one_more : begun_many t.table ≡ suc (begun_many s.table)
  pub numbers : (q : ℕ) → (session_of q t).begun ≡ true → (1 ≤ (session_of q t).order) × ((session_of q t).order ≤ suc (begun_many s.table))
  pub met : (n : ℕ) → 1 ≤ n → n ≤ suc (begun_many s.table) → (q : ℕ) × ((session_of q t).begun ≡ true) × ((session_of q t).order ≡ n)
  pub once : (q o : ℕ) → (session_of q t).begun ≡ true → (session_of o t).begun ≡ true → (session_of q t).order ≡ (session_of o t).order → q ≡ o
  -- Of two other sessions the one that began first is the one that did so before.
  pub still_first : (q o : ℕ) → ¬ (p ≡ q) → ¬ (p ≡ o) → (session_of q s).begun ≡ true → (session_of o s).begun ≡ true
      → (session_of q s).order < (session_of o s).order → (session_of q t).order < (session_of o t).order
  pub was_first : (q o : ℕ) → ¬ (p ≡ q) → ¬ (p ≡ o) → (session_of q s).begun ≡ true → (session_of o s).begun ≡ true
      → (session_of q t).order < (session_of o t).order → (session_of q s).order < (session_of o s).order
  -- Session p began last.
  pub last : (q : ℕ) → ¬ (p ≡ q) → (session_of q t).begun ≡ true → (session_of q t).order < (session_of p t).order
  -- Nothing else changes: neither entries, tree and records, nor the requests in hand, nor the undo records, nor the mark of another session, nor
  -- anything of one that is not begun.
  pub entries_same : t.entries ≡ s.entries
  pub root_same : t.root ≡ s.root
  pub free_same : t.free ≡ s.free
  pub records_same : t.records ≡ s.records
  pub seats_same : length t.table ≡ length s.table
  pub hands_same : (q : ℕ) → (session_of q t).hand ≡ (session_of q s).hand
  pub undos_same : (q : ℕ) → (session_of q t).undos ≡ (session_of q s).undos
  pub marks_same : (q : ℕ) → ¬ (p ≡ q) → (session_of q t).begun ≡ (session_of q s).begun
  pub others_same : (q : ℕ) → ¬ (p ≡ q) → (session_of q s).begun ≡ false → session_of q t ≡ session_of q s

module _ (p : ℕ) (s : State) (S : Sound s) (k : Passes (begin_checks p s)) where
  unbegun : (session_of p s).begun ≡ false
  unbegun = session-unbegun p s k.1.0

  seat : p < length s.table
  seat = party-seat p s S.seats (session-number p k.0).1

  mine : (session_of p (begins p s)).order ≡ last_rank s.table
  mine = ap (λ x. x.order) (begins-own p s seat)

  -- Who was begun is another.
  apart : (q : ℕ) → (session_of q s).begun ≡ true → ¬ (p ≡ q)
  apart q b e = true≢false b (subst (λ x. (session_of x s).begun ≡ false) e unbegun)

  mark : (q : ℕ) → ¬ (p ≡ q) → (session_of q (begins p s)).begun ≡ (session_of q s).begun
  mark q n = ap (λ x. x.begun) (begins-other p q s n) ∙ renumbered-kept (λ x. x.begun) (λ i x. refl) q s

  number : (q : ℕ) → ¬ (p ≡ q) → (session_of q (begins p s)).order ≡ (session_of q (renumbered s)).order
  number q n = ap (λ x. x.order) (begins-other p q s n)

  -- Another's number is from 1 to n.
  other-number : (q : ℕ) → ¬ (p ≡ q) → (session_of q (begins p s)).begun ≡ true → (1 ≤ (session_of q (begins p s)).order) × ((session_of q (begins p s)).order ≤ begun_many s.table)
  other-number q n b =
      let w = sym (mark q n) ∙ b in
      let o = number q n in
      (omega (arith, o, renumbered-order q s w), omega (arith, o, number-most q s w))

  numbers-to : (q : ℕ) → Dec (p ≡ q) → (session_of q (begins p s)).begun ≡ true
      → (1 ≤ (session_of q (begins p s)).order) × ((session_of q (begins p s)).order ≤ suc (begun_many s.table))
  numbers-to q (yes e) b = let i : (session_of q (begins p s)).order ≡ last_rank s.table = subst (λ x. (session_of x (begins p s)).order ≡ last_rank s.table) e mine in (omega arith, omega arith)
  numbers-to q (no n) b = let i = other-number q n b in (i.0, omega (arith, i.1))

  ranked-met : (n : ℕ) → 1 ≤ n → Ranked (n - 1) s.table → (q : ℕ) × ((session_of q (begins p s)).begun ≡ true) × ((session_of q (begins p s)).order ≡ n)
  unfolding session_of
  ranked-met n lo R =
      let q = R.who in
      let a = apart q R.begun in
      (q, mark q a ∙ R.begun, number q a ∙ renumbered-order q s R.begun ∙ (let i = R.rank in omega (arith, lo, i)))

  number-met : (n : ℕ) → 1 ≤ n → Dec (n ≡ suc (begun_many s.table)) → n ≤ suc (begun_many s.table) → (q : ℕ) × ((session_of q (begins p s)).begun ≡ true) × ((session_of q (begins p s)).order ≡ n)
  unfolding session_of
  number-met n lo (yes e) hi = (p, ap (λ x. x.begun) (begins-own p s seat), mine ∙ sym e)
  number-met n lo (no m) hi = ranked-met n lo (rank-met (n - 1) s.table S.orders (omega (arith, lo, hi, m)))

  one-begun : begun_many (begins p s).table ≡ suc (begun_many s.table)
  unfolding begins renumbered on_session session_of
  one-begun = begun-set (renumbered s).table p (as_begun (last_rank s.table) (session_of p (renumbered s))) (let n = renumbered-many s in omega (arith, seat))
      (renumbered-kept (λ x. x.begun) (λ i x. refl) p s ∙ unbegun) refl
      ∙ ap suc (begun-map (ranked s.table) (ranked-kept (λ x. x.begun) (λ i x. refl) s.table) s.table)

  pub begins-begun : Begun p s (begins p s)
  begins-begun = record {
    was = unbegun;
    is = ap (λ x. x.begun) (begins-own p s seat);
    one_more = one-begun;
    numbers = λ q. numbers-to q (ℕ_discrete p q);
    met = λ n lo hi. number-met n lo (ℕ_discrete n (suc (begun_many s.table))) hi;
    once = (begin-sound p s S k.0 k.1.0).orders;
    still_first = λ q o i j u v h. omega (arith, number q i, number o j, renumbered-order q s u, renumbered-order o s v, rank_less q o s u h);
    was_first = λ q o i j u v h. less-rank q o s (omega (arith, number q i, number o j, renumbered-order q s u, renumbered-order o s v, h));
    last = λ q n b. let i = (other-number q n b).1 in omega (arith, i, mine);
    entries_same = unfold begins renumbered on_session in refl;
    root_same = unfold begins renumbered on_session in refl;
    free_same = unfold begins renumbered on_session in refl;
    records_same = unfold begins renumbered on_session in refl;
    seats_same = begins-many p s;
    hands_same = λ q. begins-kept (λ x. x.hand) (λ i x. refl) (λ i x. refl) p q s;
    undos_same = λ q. begins-kept (λ x. x.undos) (λ i x. refl) (λ i x. refl) p q s;
    marks_same = mark;
    others_same = λ q n e. begins-other p q s n ∙ renumbered-unbegun q s e;
  }

pub begin-begun : (p : ℕ) (s : State) → Sound s → (call (begin p) s).answer ≡ ok → Begun p s (call (begin p) s).next
unfolding call
begin-begun p s S = refusing-cases (λ o. o.answer ≡ ok → Begun p s o.next) (begin_checks p s) s (answer ok (begins p s))
    (λ n e. absurd (true≢false (ap is_ok e) refl)) (λ k e. begins-begun p s S k)

-- A refused begin changes nothing, no number either.
pub begin-refused : (p : ℕ) (s : State) → ¬ ((call (begin p) s).answer ≡ ok) → (call (begin p) s).next ≡ s
unfolding call
begin-refused p s = refusing-cases (λ o. ¬ (o.answer ≡ ok) → o.next ≡ s) (begin_checks p s) s (answer ok (begins p s)) (λ n e. refl) (λ k e. absurd (e refl))
