use mathlib.Core.Path.{sym, ◌∙◌}
use Rattle.sound.proofs.Turns.{undos-without}
use Rattle.sound.proofs.undos_then.Goals as goal

pub returns-then-has_undos : goal.returns-then-has_undos
returns-then-has_undos c = c.chains_then.ensures

pub returns : goal.returns
returns c = undos-without _ _ _ _ _ _ _ _ _ _ (sym c.has_undos.ensures ∙ c.if-has_undos.false) c.groups_then.ensures
