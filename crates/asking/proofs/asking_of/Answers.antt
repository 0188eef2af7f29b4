use native.Mathlib.Omega.{arith}
use Rattle.asking.specs.Asks.{kind_1, kind_2, kind_3, kind-4, kind-5, kind-6, kind-7, kind-8, kind_0, kind-other}
use borrow.Author.Rules.{rules}
use Rattle.asking.proofs.asking_of.Goals as goal

pub returns-in-1 : goal.returns-in-1
returns-in-1 c = kind_1 _ _ _ _ _ _ _ c.in-1.is

pub returns-in-2 : goal.returns-in-2
returns-in-2 c = kind_2 _ _ _ _ _ _ _ c.in-2.is

pub returns-in-3 : goal.returns-in-3
returns-in-3 c = kind_3 _ _ _ _ _ _ _ c.in-3.is

pub returns-in-4 : goal.returns-in-4
returns-in-4 c = kind-4 _ _ _ _ _ _ _ c.in-4.is

pub returns-in-5 : goal.returns-in-5
returns-in-5 c = kind-5 _ _ _ _ _ _ _ c.in-5.is

pub returns-in-6 : goal.returns-in-6
returns-in-6 c = kind-6 _ _ _ _ _ _ _ c.in-6.is

pub returns-in-7 : goal.returns-in-7
returns-in-7 c = kind-7 _ _ _ _ _ _ _ c.in-7.is

pub returns-in-8 : goal.returns-in-8
returns-in-8 c = kind-8 _ _ _ _ _ _ _ c.in-8.is

pub returns-in-0-2 : goal.returns-in-0-2
returns-in-0-2 c = kind-other _ _ _ _ _ _ _ (omega arith) (omega arith) (omega arith) (omega arith) (omega arith) (omega arith) (omega arith) (omega arith)

pub returns-in-0 : goal.returns-in-0
returns-in-0 c = kind_0 _ _ _ _ _ _ _ (omega arith)
