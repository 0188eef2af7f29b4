use Rattle.std.proofs.Common.{ℕ, ◌-◌, ◌≤◌}
use Rattle.calendar.specs.Spans.{find, Gives}
use Rattle.calendar.proofs.Loops.{Finding}
use Rattle.calendar.proofs.find.Given as goal

abbrev pub invariant-loop-at : goal.invariant-loop-at
invariant-loop-at g l =
    (l.rest ≤ l.n) × ((len : ℕ → ℕ) → Gives (goal.F-post g l.length) l.last len → Finding len l.last (find len (l.last - l.first) l.first l.n) l.at l.rest)
