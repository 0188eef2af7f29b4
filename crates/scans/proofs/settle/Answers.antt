use lib.Seq.{set-get_or}
use mathlib.Core.Path.{sym}
use borrow.Author.Tests.{le-leb, lt-leb}
use Rattle.scans.specs.Scans.{earlier, later}
use Rattle.scans.proofs.settle.Goals as goal

pub returns-then-e-x : goal.returns-then-e-x
unfolding earlier later
returns-then-e-x c = record { answer = simp (le-leb _ _ c.if-e-x.true); list = simp (le-leb _ _ c.if-e-x.true) }

pub returns : goal.returns
unfolding earlier later
returns c = record { answer = simp (lt-leb _ _ c.if-e-x.false); list = simp (lt-leb _ _ c.if-e-x.false) (sym (set-get_or _ _ _)) }
