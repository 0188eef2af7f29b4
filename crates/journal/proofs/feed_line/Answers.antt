use Rattle.std.proofs.Common.{arith, rules}
use Rattle.journal.specs.Runs.{feeds-commit, feeds-locate, feedable-numbers, feeds-code, codes_of}
use Rattle.journal.proofs.feed_line.Goals as goal

pub read-requires : goal.read-requires
read-requires c =
    let z = feedable-numbers _ c.args.r 1 c.requires (search rules) (omega arith) in (z.1, z.2)

pub returns-in-Some-Read : goal.returns-in-Some-Read
returns-in-Some-Read c = feeds-code _ c.args.r 1 c.requires (search rules) (omega arith) _ _ _ _ (c.read.ensures c.args.r.first)

pub write-requires : goal.write-requires
write-requires c =
    let z = feedable-numbers _ c.args.r 2 c.requires (search rules) (omega arith) in (z.1, z.2)

pub returns-in-Some-Write : goal.returns-in-Some-Write
returns-in-Some-Write c = feeds-code _ c.args.r 2 c.requires (search rules) (omega arith) _ _ _ _ c.write.ensures

pub insert-requires : goal.insert-requires
insert-requires c =
    let z = feedable-numbers _ c.args.r 3 c.requires (search rules) (omega arith) in z

pub returns-in-Some-Insert : goal.returns-in-Some-Insert
returns-in-Some-Insert c = feeds-code _ c.args.r 3 c.requires (search rules) (omega arith) _ _ _ _ c.insert.ensures

pub remove-requires : goal.remove-requires
remove-requires c =
    let z = feedable-numbers _ c.args.r 4 c.requires (search rules) (omega arith) in (z.1, z.2)

pub returns-in-Some-Remove : goal.returns-in-Some-Remove
returns-in-Some-Remove c = feeds-code _ c.args.r 4 c.requires (search rules) (omega arith) _ _ _ _ c.remove.ensures

pub returns-in-Some-Locate : goal.returns-in-Some-Locate
returns-in-Some-Locate c = feeds-locate _ _ _ _ _ _ _ c.requires.ready (search rules) c.is_located.ensures

pub returns-in-Some-Commit : goal.returns-in-Some-Commit
returns-in-Some-Commit c = feeds-commit _ _ _ _ _ _ c.requires.ready (search rules)

pub returns-in-None : goal.returns-in-None
returns-in-None c = let z = codes_of _ c.args.r c.requires.proper (search rules) (search rules) in absurd (search rules)
