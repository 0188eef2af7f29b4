-- A tree with a hole: the node at which a party stands, and what lies around it.
use Rattle.std.specs.Prelude.{◌≡◌, List, ◌∷◌, ◌++◌, suc, ◌≤◌, ℕ}
use Rattle.machine.specs.Holders.{latch_word}
use Rattle.machine.specs.Tree.{Below}
use Rattle.machine.specs.State.{Tree, State, Outcome}
use Rattle.machine.specs.Descent.{sons_of, at_latch, on_latch}
use Rattle.machine.specs.Sound.{Room}

-- Nodes on the way down: latch word, the sons before, the tree below with its bound, the sons behind.
pub data Ctx (k : ℕ) : ℕ → Type 0 where
  hole : Ctx k k
  down : {h : ℕ} → ℕ → List (Tree h × ℕ) → Ctx k h → ℕ → List (Tree h × ℕ) → Ctx k (suc h)

abbrev pub plug : {k h : ℕ} → Ctx k h → Tree k → Tree h
plug hole u = u
plug (down w pre c b post) u = record { latch = w; sons = pre ++ ((plug c u, b) ∷ post) }

-- The hole is on the path to x.
abbrev pub OnWay : {k h : ℕ} → ℕ → Ctx k h → Type 0
OnWay x hole = Unit {0}
OnWay x (down w pre c b post) = Below x pre × (x ≤ b) × OnWay x c

-- No node above the hole has the latch word w.
abbrev pub Clear : {k h : ℕ} → ℕ → Ctx k h → Type 0
Clear w hole = Unit {0}
Clear w (down v pre c b post) = ¬ (v ≡ w) × Clear w c

-- Party p stands at the node u, of height suc k, on its path to x in the tree of s.
pub record Focus (p x : ℕ) (s : State) (k : ℕ) (u : Tree (suc k)) : Type 0 where
  pub around : Ctx (suc k) (suc s.root.height)
  pub is : s.root.node ≡ plug around u
  pub way : OnWay x around
  pub clear : Clear (latch_word p) around
  pub latch : u.latch ≡ latch_word p
  pub room : Room s p k (sons_of u)
  -- What is done at the latch is done here.
  pub answers : (z : Outcome) (g : (h : ℕ) → Tree (suc h) → Outcome) → at_latch (latch_word p) x z g (suc s.root.height) s.root.node ≡ g k u
  pub changes : (f : (h : ℕ) → Tree (suc h) → Tree (suc h)) → on_latch (latch_word p) x f (suc s.root.height) s.root.node ≡ plug around (f k u)

-- A party whose request stands at a node has a focus there.
pub record Focused (p x : ℕ) (s : State) : Type 0 where
  pub level : ℕ
  pub node : Tree (suc level)
  pub focus : Focus p x s level node
