use Prim.Native.Nat.{◌-◌}
use Rattle.sessions.specs.Sessions.{parties}
use Rattle.aborting.specs.RecoverRow.{kept}
use Rattle.recovering.specs.Recovering.{lapsed_all, Going}
use Rattle.recovering.proofs.lapse_all.Given as goal

abbrev pub invariant-loop-p : goal.invariant-loop-p
invariant-loop-p l = Going (lapsed_all l.m l.r (kept l.initial.store l.initial.t)) l.m l.r l.store l.t l.p (parties - l.p)
