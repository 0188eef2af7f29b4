use Rattle.std.proofs.Common.{rules}
use Rattle.journal.specs.Verdict.{verdict-15, verdict-16, verdict-17, verdict-0}
use Rattle.journal.proofs.check.Goals as goal

pub returns-then-not-is_readable : goal.returns-then-not-is_readable
returns-then-not-is_readable c = verdict-15 _ (search rules)

pub is_orderly-requires : goal.is_orderly-requires
is_orderly-requires c = search rules

pub returns-then-not-is_orderly : goal.returns-then-not-is_orderly
returns-then-not-is_orderly c = verdict-16 _ (search rules) (search rules)

pub is_replayed-requires : goal.is_replayed-requires
is_replayed-requires c = record { readable = search rules; orderly = search rules }

pub returns-then-not-is_replayed : goal.returns-then-not-is_replayed
returns-then-not-is_replayed c = verdict-17 _ (record { readable = search rules; orderly = search rules }) (search rules)

pub returns : goal.returns
returns c = verdict-0 _ (record { readable = search rules; orderly = search rules }) (search rules)
