use Rattle.day_calls.specs.Ways.{hand-none, hand-code, hand-entry, hand_first, hand_same}
use borrow.Author.Rules.{rules}
use Rattle.day_calls.proofs.other_in_hand.Goals as goal

pub returns-then-x : goal.returns-then-x
returns-then-x c = hand-none _ _ (search rules)

pub returns-then-x-r : goal.returns-then-x-r
returns-then-x-r c = hand-code _ _ (search rules) (search rules)

pub returns-then-entry-r : goal.returns-then-entry-r
returns-then-entry-r c = hand-entry _ _ (search rules) (search rules) (search rules)

pub returns-then-first-r : goal.returns-then-first-r
returns-then-first-r c = hand_first _ _ (search rules) (search rules) (search rules) (search rules)

pub returns : goal.returns
returns c = hand_same _ _ (search rules) (search rules) (search rules) (search rules)
