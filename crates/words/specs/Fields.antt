-- The words of an entry by name, each with its number.
use Rattle.std.specs.Prelude.{ℕ}
use Rattle.words.specs.declared.Field.{Field}
use Rattle.words.specs.declared.Field.TheVariants.{Value, Share, Exclusive}

abbrev pub field_number : Field → ℕ
field_number Value = 0
field_number Share = 1
field_number Exclusive = 2
