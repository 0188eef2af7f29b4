-- Theorems that rest on theorems of specs/: the rest of specs/Demand3.antt.
use Rattle.std.specs.Prelude.{◌≡◌, List, ◌⊎◌, ◌≤◌, ℕ}
use Rattle.std.proofs.Common.{sym, ◌∙◌, subst, ap, inl, inr}
use Rattle.serial.specs.Locks.{lock_rule, lock-rule-strict}
use Rattle.serial.specs.LockMachine.{Acts, Formatted}
use Rattle.serial.specs.Calls.{Turn, Told, nothing, tell, told, Run, Demand3, Knows, Made, Anew, Laws, calls-made}
use Rattle.serial.proofs.Calls.{demand-3}
use Rattle.serial.specs.Calls as C
use Rattle.machine.specs.State.{Outcome, session_of}
use Rattle.machine.specs.Calls.{call, Call}
use Rattle.machine.specs.View.{view}
use Rattle.machine.specs.Sound.{Sound}
use Rattle.machine.proofs.Keeping.{keeps}
use Rattle.machine.proofs.Moves.{moves}
use Rattle.machine.proofs.Safety.{safe-of}
use Rattle.machine.specs.Demand.{Lent, call_of, Performs, machine, tell_of, ToldSo, ToldNew, call-told, fresh-formatted, hand_put, as_told}
use Rattle.machine.proofs.Told.{call-hands, call-marks}
use Rattle.machine.specs.Demand3.{call_returns, list_of, begun-after, abort_ok, commit_ok, fresh_lent, fresh-known}
use Rattle.machine.specs.Demand3 as Specs

-- ---- the laws

module _ (k : Turn) (x y : Lent) (t : Told) (d : Performs x k y) (w : Knows machine t x) where
  abbrev c : Call
  c = call_of k.call x.words

  abbrev o : Outcome
  o = call c x.state

  abbrev u : Told
  u = tell_of (as_told c) o.answer k.list t

  abbrev telling : tell k t ≡ u
  telling = Specs.telling k x y t d w

  events-told : ToldSo x.state o.next t u ⊎ ToldNew o.next u
  events-told = call-told c x.state o k.list t w.sound w.hand_told w.begun_told w.asked_told (list_of k.call x.words k.list o d.list_is) (moves c x.state (safe-of x.state w.sound))

  knows-next : Knows machine (tell k t) y
  knows-next = subst (λ z. Knows machine z y) (sym telling) (record {
    sound = subst Sound (sym d.state_is) (keeps c x.state w.sound);
    hand_told = λ p. ap (λ z. hand_put (session_of p z).hand) d.state_is ∙ call-hands x.state w.sound t k.list w.hand_told c p;
    begun_told = λ p. ap (λ z. (session_of p z).begun) d.state_is ∙ begun-after k x y t d w events-told p;
    asked_told = λ p. ap (λ z. (session_of p z).asked) d.state_is ∙ call-marks x.state w.sound t k.list w.asked_told c p;
  })

  moves_next : C.Moves machine lock_rule t (tell k t) x y ⊎ Anew machine (tell k t) y
  moves_next = go events-told
    where
      go : ToldSo x.state o.next t u ⊎ ToldNew o.next u → C.Moves machine lock_rule t (tell k t) x y ⊎ Anew machine (tell k t) y
      go (inl m) = inl (record {
        events = m.events;
        moved = subst (λ z. Acts lock_rule (view x.state) m.events (view z)) (sym d.state_is) m.moved;
        as_told = ap (λ z. z.past) telling ∙ m.past_is;
      })
      go (inr m) = inr (record {
        nothing_told = ap (λ z. z.past) (telling ∙ m.nothing_told);
        as_new = subst (λ z. Formatted (view z)) (sym d.state_is) m.as_new;
      })

pub machine-laws : Laws machine lock_rule
machine-laws = record {
  returns = λ c x S. call_returns c x;
  knows = λ k x y t d w. knows-next k x y t d w;
  moves = λ k x y t d w. moves_next k x y t d w;
  abort_ok = abort_ok;
  commit_ok = commit_ok;
}

-- Any list of calls, whoever's turn each is, from a fresh store.
pub machine-demand-3 : (m r words : ℕ) → 1 ≤ m → m ≤ 1024 → 8 ≤ r → r ≤ 4096 → (ks : List Turn) (y : Lent) → Run machine (fresh_lent m r words) ks y
    → Demand3 machine (told nothing ks) y
machine-demand-3 m r words a b c d ks y run = demand-3 machine lock_rule lock-rule-strict machine-laws (fresh_lent m r words) y ks (fresh-known m r words a b c d) (fresh-formatted m r) run

-- Every list of calls from a fresh store has a run.
pub machine-made : (m r words : ℕ) → 1 ≤ m → m ≤ 1024 → 8 ≤ r → r ≤ 4096 → (cs : List C.Call) → Made machine (fresh_lent m r words) cs
machine-made m r words a b c d cs = calls-made machine lock_rule lock-rule-strict machine-laws cs nothing (fresh_lent m r words) (fresh-known m r words a b c d)
