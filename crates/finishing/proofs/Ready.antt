-- Theorems of specs/Ready: what it defines is there.
use Rattle.std.specs.Prelude.{◌≡◌, List, ℕ, ◌≤◌}
use Rattle.std.proofs.Math.Path.{refl, sym, ap}
use Rattle.std.proofs.Common.{subst, ◌∙◌, arith}
use Rattle.std.proofs.Math.ListN.{set}
use Rattle.words.specs.Store.{HasRecord}
use Rattle.sessions.specs.declared.Session.{Session}
use Rattle.sessions.specs.Sessions.{session_at}
use Rattle.machine.specs.Holders.{width}
use Rattle.machine.specs.Sound as S
use Rattle.machine.specs.Sound.{pins_in}
use Rattle.machine.specs.Housekeeping.{lvs, unlatch-leaves}
use Rattle.meaning.specs.Reading.{M-of, stage_of}
use Rattle.layout.specs.Layout.{Lay, Holds, means}
use Rattle.layout.specs.Places.{at_mark}
use Rattle.layout.specs.Room.{sizes-of}
use Rattle.layout.specs.LatchRows.{node-has}
use Rattle.endings.specs.Table.{idled}
use Rattle.finishing.specs.Finishing.{LatchEnds, Endable, end_latch}
use Rattle.finishing.specs.Ended.{stage_is, first-left}
use Rattle.finishing.specs.Ready.{pins_of, pins-mean, pins-kept, low-ready, high-ready, pins-in-hand}

-- ---- the pins of a request in hand

module _ (s : List ℕ) (t : List Session) (L : Lay) (H : Holds s t L) (sound : S.Sound (means L t)) (p : ℕ) (l : p ≤ width) (n : ¬ ((session_at t p).stage ≡ 0)) where
  abbrev x : Session
  x = session_at t p

  node-ready : LatchEnds s (M-of s) x
  node-ready e =
      let A = at_mark L t H.seats sound p l e (H.hands p l) in
      subst (HasRecord s (M-of s)) A.num (node-has s t L H A.around A.node A.is (sizes-of L t sound) 0)

  -- A request in hand can end.
  pub end-ready : Endable s (M-of s) x
  unfolding idled
  end-ready =
      let m = M-of s in
      let A = first-left s t L H sound p l (idled x) refl refl (stage_is x.stage n (H.hands p l).stage) in
      let u = set t p (idled x) in
      let same : (k : ℕ) → pins_of A.lay k ≡ pins_of L k =
      λ k. sym (pins-mean A.lay u k) ∙ ap (λ z. pins_in k (lvs z)) (A.is u) ∙ ap (pins_in k) (unlatch-leaves p (stage_of x) (means L u)) ∙ pins-mean L u k in
      let P = pins-kept L A.lay x A.has (λ k. omega (arith, same k)) (pins-in-hand s t L H sound p l n) in
      record {
        node = node-ready;
        low = low-ready (end_latch s m x) u A.lay A.holds A.sizes A.rising m A.written.entries x P;
        high = high-ready (end_latch s m x) u A.lay A.holds A.sizes A.rising m A.written.entries x P;
      }
