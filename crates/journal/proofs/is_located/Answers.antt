use Rattle.std.proofs.Common.{refl, sym, ◌∙◌, ne_eqb, rules}
use Rattle.journal.specs.Located.{locating-start, locating-outside, locating-inside, locating-lacks, ended_is, ended-not, locating-end}
use Rattle.journal.proofs.is_located.Goals as goal
use Rattle.journal.proofs.is_located.Goals.{then-contains+in-Some, else-contains}

pub loop-i-init : goal.loop-i-init
loop-i-init c = locating-start _ _ _ _ _ _ c.requires.locates c.requires.listed refl

pub returns-in_default : goal.returns-in_default
returns-in_default c =
    locating-lacks _ _ _ _ _ _ _ _ c.loop-i.invariant (search rules) c.requires.keys c.requires.entries (search rules) (search rules) (sym c.in_default.is ∙ c.next_in_list.ensures)

pub overflow_add-met : goal.overflow_add-met
overflow_add-met c = let m = c.loop-i.invariant.met in search rules

pub loop-i-preserved : goal.loop-i-preserved
loop-i-preserved c =
    elim c.if-contains.branch [
      | then-contains+in-Some w ↦ rw (w.at-is, w.met-is)
          (locating-inside _ _ _ _ _ _ _ _ c.loop-i.invariant (search rules) c.requires.keys c.requires.entries _ (search rules) (search rules) (sym w.in-Some.is ∙ w.next_in_list.ensures))
      | else-contains w ↦ rw (w.at-is, w.met-is) (locating-outside _ _ _ _ _ _ _ _ c.loop-i.invariant (search rules) c.requires.keys c.requires.entries (search rules))
    ]

pub returns-then-at-eq0 : goal.returns-then-at-eq0
returns-then-at-eq0 c = locating-end _ _ _ _ _ _ _ _ c.loop-i.invariant (search rules) c.requires.keys (ended_is _ _ _ c.if-at-eq0.true refl)

pub returns-else-at-eq0 : goal.returns-else-at-eq0
returns-else-at-eq0 c = locating-end _ _ _ _ _ _ _ _ c.loop-i.invariant (search rules) c.requires.keys (rw (ne_eqb c.loop-i.at 0 c.if-at-eq0.false) (ended-not _ _ c.if-at-eq0.false))
