-- Theorems that rest on theorems of specs/: the rest of specs/Line.antt.
use Rattle.std.specs.Prelude.{◌≡◌, ◌≤◌, ℕ, length}
use Rattle.std.proofs.Math.Path.{refl, subst}
use Rattle.std.proofs.Common.{sym}
use mathlib.Core.List.{List, []}
use Rattle.serial.specs.Calls.{Turn, Run, Told, nothing, tell, Knows}
use Rattle.serial.specs.Calls as C
use Rattle.serial.specs.Line.{in_line, line}
use Rattle.machine.specs.State.{State, ok, session_of, fresh}
use Rattle.machine.specs.Steps.{answer}
use Rattle.machine.specs.Calls.{call, steps, put_checks, step_checks, begin_checks, commit_checks, abort_checks, ask_checks, format_checks, records_for, accepted, begins, commits, aborts, asks, is_asked}
use Rattle.machine.specs.Sound.{Sound}
use Rattle.machine.specs.Table.{hand-tenure}
use Rattle.machine.specs.Checks.{refusing-cases}
use Rattle.machine.specs.Begins.{begins-begun}
use Rattle.machine.specs.Demand.{Lent, call_of, Performs, machine}
use Rattle.machine.specs.Demand3.{fresh_lent, fresh-known}
use Rattle.machine.proofs.Demand3.{machine-laws}
use Rattle.machine.specs.Line.{Lined, fresh-lined, begun-line, kept_line, line_of, tells-line, step_line, steps-tenure, placed, commit_line, abort-line, ask-line, recover-line}

-- ---- each call

module _ (s : State) (S : Sound s) (l : List ℕ) (L : Lined l s) (t : Told) (asked : (q : ℕ) → is_asked q s ≡ t.asked q) where
  -- Every call, from every sound state.
  call_line : (c : C.Call) (w : ℕ) → Lined (line_of t c (call (call_of c w) s).answer l) (call (call_of c w) s).next
  unfolding call accepted
  call_line (C.format m) w = refusing-cases (λ o. Lined (line_of t (C.format m) o.answer l) o.next) (format_checks m w) s (answer ok (fresh m (records_for m w))) (λ n. L)
      (λ k. fresh-lined m (records_for m w))
  call_line (C.begin p) w = refusing-cases (λ o. Lined (line_of t (C.begin p) o.answer l) o.next) (begin_checks p s) s (answer ok (begins p s)) (λ n. L)
      (λ k. begun-line p s (begins p s) l L (begins-begun p s S k))
  call_line (C.put p c e f g) w = refusing-cases (λ o. Lined (line_of t (C.put p c e f g) o.answer l) o.next) (put_checks p c e f g s) s (answer ok (accepted p c e f g s)) (λ n. L)
      (λ k. kept_line s (accepted p c e f g s) l (λ q. placed (hand-tenure p q _ s)) L)
  call_line (C.step p v) w = refusing-cases (λ o. Lined (line_of t (C.step p v) o.answer l) o.next) (step_checks p s) s (steps p (length v) (session_of p s).hand s) (λ n. L)
      (λ k. let o = steps p (length v) (session_of p s).hand s in
      subst (λ l. Lined l o.next) (sym (step_line t p v o.answer l)) (kept_line s o.next l (λ q. placed (steps-tenure p (length v) s (session_of p s).hand refl q)) L))
  call_line (C.commit p) w = refusing-cases (λ o. Lined (line_of t (C.commit p) o.answer l) o.next) (commit_checks p s) s (answer ok (commits p s)) (λ n. L) (commit_line s S l L t asked p)
  call_line (C.abort p) w = refusing-cases (λ o. Lined (line_of t (C.abort p) o.answer l) o.next) (abort_checks p s) s (answer ok (aborts p s)) (λ n. L) (abort-line s S l L t asked p)
  call_line (C.ask p) w = refusing-cases (λ o. Lined (line_of t (C.ask p) o.answer l) o.next) (ask_checks p s) s (answer ok (asks p s)) (λ n. L) (λ k. ask-line s S l L t asked p)
  call_line C.recover w = recover-line s S l L t asked

-- ---- the theorem

turn-line : (k : Turn) (x y : Lent) (l : List ℕ) (t : Told) → Performs x k y → Knows machine t x → Lined l x.state → Lined (in_line t l k) y.state
turn-line k x y l t d w L =
    let o = call (call_of k.call x.words) x.state in
    subst (Lined (in_line t l k)) (sym d.state_is)
    (subst (λ l. Lined l o.next) (sym (tells-line t k.call o.answer k.answer l d.tells)) (call_line x.state w.sound l L t w.asked_told k.call x.words))

-- Any list of turns from a sound state whose begun sessions stand in a line.
pub line-run : {x y : Lent} {ks : List Turn} → Run machine x ks y → (t : Told) → Knows machine t x → (l : List ℕ) → Lined l x.state → Lined (line t l ks) y.state
line-run C.stop t w l L = L
line-run (C.next {x} {y} {z} {k} {ks} d r) t w l L = line-run r (tell k t) (machine-laws.knows k x y t d w) (in_line t l k) (turn-line k x y l t d w L)

-- Any list of turns from a fresh store: a session is begun exactly if its last accepted begin was followed by no accepted commit or abort of it, recover while
-- it was not asked, or format, and of two begun ones the one whose begin was accepted first has the lower number.
pub fresh-line-run : (entries records words : ℕ) → 1 ≤ entries → entries ≤ 1024 → 8 ≤ records → records ≤ 4096 → (ks : List Turn) (y : Lent)
    → Run machine (fresh_lent entries records words) ks y → Lined (line nothing [] ks) y.state
fresh-line-run m r words a b c d ks y run = line-run run nothing (fresh-known m r words a b c d) [] (fresh-lined m r)
