-- What a record of the main chain is, by its code.
use Rattle.std.specs.Prelude.{cond, ℕ, Option, Some, None, eqb}
use Rattle.journal_reader.specs.declared.Kind.{Kind}
use Rattle.journal_reader.specs.declared.Kind.TheVariants.{Read, Write, Insert, Remove, Locate, Commit}

abbrev pub kind_of : ℕ → Option Kind
kind_of c =
    cond (eqb c 1) (Some Read)
    (cond (eqb c 2) (Some Write)
    (cond (eqb c 3) (Some Insert) (cond (eqb c 4) (Some Remove) (cond (eqb c 5) (Some Locate) (cond (eqb c 255) (Some Commit) None)))))
