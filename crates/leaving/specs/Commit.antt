-- Commit on words: the session's undo records become free, and it leaves every entry and every descriptor.
use Rattle.std.specs.Prelude.{◌≡◌, refl, List, set}
use Rattle.std.proofs.Common.{subst, arith}
use Prim.Native.Nat.{ℕ, suc, ◌≤◌}
use Rattle.sessions.specs.declared.Session.{Session}
use Rattle.sessions.specs.Sessions.{session_at}
use Rattle.machine.specs.Holders.{width}
use Rattle.meaning.specs.Reading.{M-of, R-of}
use Rattle.layout.specs.Layout.{undo_numbers, Holds}
use Rattle.layout.specs.Row.{Stands}
use Rattle.layout.specs.Written.{Written}
use Rattle.layout.specs.Walks.{few-entries}
use Rattle.undo_log.specs.Freeing.{free_chain}
use Rattle.endings.specs.Table.{unbegun}
use Rattle.leaving.specs.Words.{LeaveReady, CommitReady}
use Rattle.leaving.specs.Begun.{idle-fits}
use Rattle.leaving.specs.LeaveRow.{leave-ready}
use Rattle.leaving.specs.FreedRow.{freed_lay, undo-walk, freed-written, freed-row}

unbegun-undo : (x : Session) → (unbegun x).undo ≡ 0
unfolding unbegun
unbegun-undo x = refl

unbegun-stage : (x : Session) → (unbegun x).stage ≡ 0
unfolding unbegun
unbegun-stage x = refl

module _ (s : List ℕ) (t : List Session) (A : Stands s t) (q : ℕ) (high : suc q ≤ width) where
  few : M-of s ≤ 1024
  few = few-entries s t A.lay A.holds A.sound

  abbrev pub rid : List ℕ
  rid = free_chain s (M-of s) (R-of s) (session_at t (suc q)).undo

  abbrev pub after : List Session
  after = set t (suc q) (unbegun (session_at t (suc q)))

  pub rid-written : Written s rid (undo_numbers (A.lay.undos (suc q)))
  rid-written = freed-written s t A.lay A.holds few q high

  pub rid-holds : Holds rid after (freed_lay A.lay (suc q))
  rid-holds =
      let x = session_at t (suc q) in
      freed-row s t A.lay A.holds few q high (unbegun x) (unbegun-undo x) (idle-fits (freed_lay A.lay (suc q)) (suc q) (unbegun x) (unbegun-stage x))

  pub rid-few : M-of rid ≤ 1024
  rid-few = omega (arith, few, rid-written.entries)

  pub commit-ready : CommitReady s (M-of s) (R-of s) (suc q) (session_at t (suc q)).undo
  commit-ready = record {
    undos = undo-walk s t A.lay A.holds few q high;
    leave = subst (λ m. LeaveReady rid m (R-of s) (suc q)) rid-written.entries
        (subst (λ r. LeaveReady rid (M-of rid) r (suc q)) rid-written.records (leave-ready rid after (freed_lay A.lay (suc q)) rid-holds rid-few q high));
  }
