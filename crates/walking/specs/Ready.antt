-- What the words must have for each function of the code.
use Rattle.std.specs.Prelude.{◌≡◌, Bool, true, false, not, ◌&&◌, List, ℕ, ◌+◌, ◌-◌, ◌≤◌, ◌<◌, eqb, leb}
use Rattle.machine.specs.Holders.{width}
use Rattle.words.specs.Store.{HasRecord}
use Rattle.words.specs.Header.{header_word, free_place}
use Rattle.nodes.specs.Node.{node_at}
use Rattle.nodes.specs.Ops.{son_for}
use Rattle.chain.specs.Free.{Poppable}
use Rattle.sessions.specs.declared.Session.{Session}
use Rattle.finishing.specs.Finishing.{Endable}
use Rattle.nodes.specs.Paths.{son_at, son_toward}
use Rattle.descents.specs.Descents.{Toward}
use Rattle.splits.specs.Splits.{CanSplitSon}
use Rattle.joins.specs.Joins.{CanJoin, CanMoveLeft, CanMoveRight, HasDown, pair_place}
use Rattle.walking.specs.Walking.{other_count}

-- A party, at a node above the lowest.
pub record Walker (s : List ℕ) (m p : ℕ) (x : Session) : Type 0 where
  pub party : p ≤ width
  pub level : 2 ≤ x.level
  pub toward : Toward s m x.at x.target

pub record SplitReady (s : List ℕ) (m p : ℕ) (x : Session) : Type 0 where
  pub walker : Walker s m p x
  pub free : Poppable s m
  pub full : header_word s free_place ≡ 0 → Endable s m x
  pub split : ¬ (header_word s free_place ≡ 0) → CanSplitSon s m x.at x.target

pub record AloneReady (s : List ℕ) (m p : ℕ) (x : Session) : Type 0 where
  pub walker : Walker s m p x
  pub split : not (eqb p 0) && eqb (node_at s m (son_toward s m x.at x.target)).count 8 ≡ true → SplitReady s m p x

-- The sons at i and i + 1 of the party's node.
pub record Mendable (s : List ℕ) (m p : ℕ) (x : Session) (i : ℕ) (first : Bool) (other : ℕ) : Type 0 where
  pub party : p ≤ width
  pub level : 2 ≤ x.level
  pub join : leb other 5 ≡ true → CanJoin s m x.at i
  pub left : leb other 5 ≡ false → first ≡ true → CanMoveLeft s m x.at i
  pub right : leb other 5 ≡ false → first ≡ false → CanMoveRight s m x.at i

pub record PairReady (s : List ℕ) (m p : ℕ) (x : Session) : Type 0 where
  pub walker : Walker s m p x
  pub place : pair_place (node_at s m x.at) x.target < 7
  pub left : HasRecord s m (son_at s m x.at (pair_place (node_at s m x.at) x.target))
  pub right : HasRecord s m (son_at s m x.at (pair_place (node_at s m x.at) x.target + 1))
  pub down : HasDown s m (x.level - 1) x.at (pair_place (node_at s m x.at) x.target)
  pub mend : Mendable s m p x (pair_place (node_at s m x.at) x.target) (eqb (son_for (node_at s m x.at) x.target) 0)
      (other_count s m x.at (pair_place (node_at s m x.at) x.target) (eqb (son_for (node_at s m x.at) x.target) 0))

pub record LevelReady (s : List ℕ) (m p : ℕ) (x : Session) : Type 0 where
  pub walker : Walker s m p x
  pub pair : eqb p 0 && eqb (node_at s m (son_toward s m x.at x.target)).count 3 ≡ true → PairReady s m p x
  pub alone : eqb p 0 && eqb (node_at s m (son_toward s m x.at x.target)).count 3 ≡ false → AloneReady s m p x
