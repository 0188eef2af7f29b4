use native.Mathlib.Omega.{arith}
use Rattle.running.specs.Scans.{scan-ready, scan-has, scan-serves}
use borrow.Author.Rules.{rules}
use Rattle.running.proofs.scan_step.Goals as goal

pub place_of-d-requires : goal.place_of-d-requires
place_of-d-requires c = ((scan-ready c.requires).find, c.requires.hint)

pub take_at-z-requires : goal.take_at-z-requires
take_at-z-requires c = (scan-ready c.requires, c.place_of-d.ensures)

pub place_after-requires : goal.place_after-requires
place_after-requires c = scan-has c.requires c.place_of-d.ensures (omega arith)

pub returns : goal.returns
returns c = scan-serves _ _ _ _ _ _ c.requires c.place_of-d.ensures c.take_at-z.ensures c.place_after.ensures
