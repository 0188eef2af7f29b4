-- The first step of a request, whatever its code, is the machine's; and the words have what the code asks for.
use Rattle.std.specs.Prelude.{◌≡◌, Bool, cond, List, [], ◌∷◌, ℕ, ◌≤◌, eqb}
use Rattle.std.proofs.Math.Path.{refl}
use Rattle.std.proofs.Math.Bool.{true, false}
use Rattle.std.proofs.Common.{arith, eqb-true}
use Rattle.std.proofs.Math.Dec.{leb}
use Rattle.sessions.specs.declared.Session.{Session}
use Rattle.sessions.specs.Sessions.{session_at}
use Rattle.machine.specs.Logic.{leb-is}
use Rattle.machine.specs.Holders.{width}
use Rattle.machine.specs.State.{State}
use Rattle.machine.specs.Steps.{finished, read-step, write_step, entry-step, first_step}
use Rattle.meaning.specs.Reading.{M-of}
use Rattle.layout.specs.Layout.{means}
use Rattle.layout.specs.Row.{Stands}
use Rattle.layout.specs.Asked.{request_in}
use Rattle.starting.specs.Starting.{read_step, write_step_of, entry_step, tidied_none, first_step_of, FirstReady}
use Rattle.starting.specs.Start.{Steps, code-least, entry_ready}
use Rattle.starting.specs.Rows.{read-moves, entry-moves, tidied-moves}
use Rattle.starting.specs.Writing.{first-has, write_moves}

module _ (s : List ℕ) (t : List Session) (A : Stands s t) (p : ℕ) (party : p ≤ width) (at-start : (session_at t p).stage ≡ 1) where
  abbrev own : Session
  own = session_at t p

  abbrev state : State
  state = means A.lay t

  pub first-ready : FirstReady s (M-of s) p own
  first-ready = record { least = code-least s t A p party at-start; held = entry_ready s t A p party at-start; header = A.holds.fits.header; free = first-has s t A p party at-start }

  pub first-moves : Steps s t p (first_step_of s (M-of s) p own) (first_step p (request_in own) state)
  unfolding first_step_of first_step request_in
  first-moves = one (eqb own.code 1) refl
    where
      four : (c : Bool) → leb own.code 4 ≡ c → Steps s t p (cond c (entry_step s p own) (tidied_none s own)) (cond c (entry-step p (request_in own) state) (finished p (request_in own) (0 ∷ 0 ∷ []) state))
      four true e = entry-moves s t A p party at-start (leb-is own.code 4 e)
      four false e = tidied-moves s t A p party at-start

      two : (c : Bool) → eqb own.code 2 ≡ c
          → Steps s t p (cond c (write_step_of s (M-of s) p own) (cond (leb own.code 4) (entry_step s p own) (tidied_none s own)))
          (cond c (write_step p (request_in own) state) (cond (leb own.code 4) (entry-step p (request_in own) state) (finished p (request_in own) (0 ∷ 0 ∷ []) state)))
      two true e = write_moves s t A p party at-start (omega (arith, eqb-true own.code 2 e))
      two false e = four (leb own.code 4) refl

      one : (c : Bool) → eqb own.code 1 ≡ c
          → Steps s t p (cond c (read_step s p own) (cond (eqb own.code 2) (write_step_of s (M-of s) p own) (cond (leb own.code 4) (entry_step s p own) (tidied_none s own))))
          (cond c (read-step p (request_in own) state) (cond (eqb own.code 2) (write_step p (request_in own) state) (cond (leb own.code 4) (entry-step p (request_in own) state) (finished p (request_in own) (0 ∷ 0 ∷ []) state))))
      one true e = read-moves s t A p party at-start (omega (arith, eqb-true own.code 1 e))
      one false e = two (eqb own.code 2) refl
