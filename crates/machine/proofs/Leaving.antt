-- Theorems that rest on theorems of specs/: the rest of specs/Leaving.antt.
use Rattle.std.specs.Prelude.{ℕ}
use Rattle.machine.specs.Logic.{not-false}
use Rattle.machine.specs.State.{State, ok}
use Rattle.machine.specs.Steps.{answer}
use Rattle.machine.specs.Calls.{call, commit, commit_checks, has_begun, commits}
use Rattle.machine.specs.Sound.{Sound}
use Rattle.machine.specs.Checks.{refusing-cases}
use Rattle.machine.specs.Leaving.{commit-sound}

-- ---- the calls

pub commit-keeps : (p : ℕ) (s : State) → Sound s → Sound (call (commit p) s).next
unfolding call
commit-keeps p s S = refusing-cases (λ o. Sound o.next) (commit_checks p s) s (answer ok (commits p s)) (λ n. S) (λ k. commit-sound p s S k.0 (not-false (has_begun p s) k.1.0) k.1.1.0)
