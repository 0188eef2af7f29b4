-- Theorems that rest on theorems of specs/: the rest of specs/Told.antt.
use Rattle.std.specs.Prelude.{◌≡◌, List, ℕ}
use Rattle.serial.specs.Calls.{Told}
use Rattle.machine.specs.State.{State, session_of}
use Rattle.machine.specs.Calls.{Call, format, begin, commit, abort, ask, recover, call, put, step}
use Rattle.machine.specs.Sound.{Sound}
use Rattle.machine.specs.Demand as D
use Rattle.machine.specs.Told.{HandsTold, format-hands, begin-hands, put-hands, commit-hands, abort-hands, ask-hands, recover-hands, step-hands, MarksTold, format-marks, begin-marks, put-marks, commit-marks, abort-marks, ask-marks, step-marks, recover-marks}

-- ---- hands

module _ (s : State) (S : Sound s) (t : Told) (l : List ℕ) (h : (q : ℕ) → D.hand_put (session_of q s).hand ≡ t.hands q) where
  pub call-hands : (c : Call) → HandsTold c l t (call c s)
  call-hands (format m w) = format-hands s S t l h m w
  call-hands (begin p) = begin-hands s S t l h p
  call-hands (put p c e f g) = put-hands s S t l h p c e f g
  call-hands (step p n) = step-hands s S t l h p n
  call-hands (commit p) = commit-hands s S t l h p
  call-hands (abort p) = abort-hands s S t l h p
  call-hands (ask p) = ask-hands s S t l h p
  call-hands recover = recover-hands s S t l h

-- ---- who is asked

module _ (s : State) (S : Sound s) (t : Told) (l : List ℕ) (h : (q : ℕ) → (session_of q s).asked ≡ t.asked q) where
  pub call-marks : (c : Call) → MarksTold c l t (call c s)
  call-marks (format m w) = format-marks s S t l h m w
  call-marks (begin p) = begin-marks s S t l h p
  call-marks (put p c e f g) = put-marks s S t l h p c e f g
  call-marks (step p n) = step-marks s S t l h p n
  call-marks (commit p) = commit-marks s S t l h p
  call-marks (abort p) = abort-marks s S t l h p
  call-marks (ask p) = ask-marks s S t l h p
  call-marks recover = recover-marks s S t l h
