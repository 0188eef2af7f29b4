use Rattle.std.proofs.Common.{rules, sym, subst}
use Rattle.outcomes.specs.declared.Answer.{Answer}
use Rattle.outcomes.specs.Said.{said}
use Rattle.looking.specs.Told.{KeyTold}
use Rattle.looking.specs.Read.{key-can, key-told, key-refused}
use Rattle.looking.proofs.holders_checked.Goals as goal

pub returns-then-not-key_ok : goal.returns-then-not-key_ok
returns-then-not-key_ok c = subst (λ (a : Answer). KeyTold c.args.key c.args.store.now c.args.t (said a)) (sym c.from.ensures) (key-refused _ _ _ c.key_ok.ensures c.if-not-key_ok.true)

pub held_of-requires : goal.held_of-requires
held_of-requires c = key-can _ _ _ c.requires

pub returns : goal.returns
returns c = key-told _ _ _ c.requires c.key_ok.ensures c.if-not-key_ok.false c.held_of.ensures
