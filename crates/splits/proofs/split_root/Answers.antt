use mathlib.Core.List.{List}
use mathlib.Core.Path.{ap, ◌∙◌}
use Prim.Native.Nat.{ℕ}
use native.Mathlib.Omega.{arith}
use lib.ListN.{length}
use Rattle.words.specs.Header.{header_word, free_place}
use Rattle.nodes.specs.Paths.{has-at}
use Rattle.splits.specs.Runs.{pop-second, split-root-run}
use Rattle.splits.proofs.split_root.Goals as goal

pub pop_free-b-requires : goal.pop_free-b-requires
pop_free-b-requires c =
    pop-second _ c.pop_free-a.ensures.1 c.requires.free₂

pub put_halves-requires : goal.put_halves-requires
put_halves-requires c = (has-at c.requires.root (omega arith) c.root-t.ensures, has-at (c.requires.free.first c.requires.some) (omega arith) c.pop_free-a.ensures.0)

pub overflow_cast-a : goal.overflow_cast-a
overflow_cast-a c = let h = c.requires.free.first c.requires.some in omega (arith, h.last, c.pop_free-a.ensures.0)

pub write-requires : goal.write-requires
write-requires c = has-at (c.requires.free₂.first c.requires.some₂) (omega (arith, ap (λ (t : List ℕ). length t) c.pop_free-a.ensures.1)) (c.pop_free-b.ensures.0 ∙ ap (λ (t : List ℕ). header_word t free_place) c.pop_free-a.ensures.1)

pub overflow_add-height : goal.overflow_add-height
overflow_add-height c = omega (arith, c.height-height.ensures, c.requires.height)

pub set_top-requires : goal.set_top-requires
set_top-requires c = let h = c.requires.free₂.first c.requires.some₂ in (omega (arith, c.requires.free.header), omega (arith, h.last, c.pop_free-b.ensures.0 ∙ ap (λ (t : List ℕ). header_word t free_place) c.pop_free-a.ensures.1))

pub overflow_cast-t-3 : goal.overflow_cast-t-3
overflow_cast-t-3 c = omega (arith, c.root-t.ensures, c.requires.root.last)

pub returns : goal.returns
returns c =
    split-root-run _ _ _ _ c.root-t.ensures c.height-height.ensures c.halves-n.ensures c.pop_free-a.ensures.0
    c.pop_free-a.ensures.1 c.pop_free-b.ensures.0 c.pop_free-b.ensures.1 c.put_halves.ensures c.node_over.ensures
    c.write.ensures c.set_top.ensures c.half_of.ensures
