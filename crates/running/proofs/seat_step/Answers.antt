use Rattle.running.specs.Scans.{early-ready, early-serves}
use borrow.Author.Rules.{rules}
use Rattle.running.proofs.seat_step.Goals as goal

pub scan_step-requires : goal.scan_step-requires
scan_step-requires c = record { seated = c.requires.0; stage = c.if-x.true; hint = c.requires.1 }

pub returns-then-x : goal.returns-then-x
returns-then-x c = c.scan_step.ensures

pub early_step-z-requires : goal.early_step-z-requires
early_step-z-requires c = early-ready c.requires.0 c.if-x.false

pub returns : goal.returns
returns c = early-serves _ _ _ _ _ _ c.requires.0 c.if-x.false c.early_step-z.ensures
