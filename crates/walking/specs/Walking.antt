-- What a step of a descent one level down leaves: the words, its party's session record, the answer.
use Rattle.std.specs.Prelude.{Bool, cond, not, ◌&&◌, List, ℕ, ◌+◌, ◌-◌, eqb, leb}
use Rattle.nodes.specs.Node.{node_at}
use Rattle.nodes.specs.Ops.{son_for}
use Rattle.sessions.specs.declared.Session.{Session}
use Rattle.outcomes.specs.Said.{Stepped}
use Rattle.outcomes.specs.declared.Answer.TheVariants.{More, Wait, Refused}
use Rattle.endings.specs.Table.{idled}
use Rattle.finishing.specs.Finishing.{end_request}
use Rattle.nodes.specs.Paths.{son_at, son_toward}
use Rattle.descents.specs.Descents.{plain_son, has_free, in_way, first_in_way}
use Rattle.splits.specs.Splits.{split_son, split_son_half}
use Rattle.joins.specs.Joins.{pair_place, join_sons, move_right, move_left, down_bound}
use Rattle.walking.specs.Hands.{standing_at}

-- The party whose latch word is b is in the way.
abbrev pub waits_for : List ℕ → Session → ℕ → Stepped
waits_for s x b = record { words = s; session = x; answer = Wait (b - 1) }

-- Too few records are free.
abbrev pub refused_full : List ℕ → ℕ → Session → Stepped
refused_full s m x = record { words = end_request s m x; session = idled x; answer = Refused 11 0 }

-- The descent stands at the node at record i, of level l.
abbrev pub stands_at : List ℕ → Session → ℕ → ℕ → Stepped
stands_at s x i l = record { words = s; session = standing_at x i l; answer = More }

-- ---- one level down

-- To the son on the path, which has its latch free: as it is, or in two.
unfoldable pub plain_step : List ℕ → ℕ → ℕ → Session → Stepped
plain_step s m p x = stands_at (plain_son s m x.at x.target (p + 1)) x (son_toward s m x.at x.target) (x.level - 1)

abbrev pub halved_step : List ℕ → ℕ → ℕ → Session → Stepped
halved_step s m p x = stands_at (split_son s m x.at x.target (p + 1)) x (split_son_half s m x.at x.target) (x.level - 1)

unfoldable pub split_step : List ℕ → ℕ → ℕ → Session → Stepped
split_step s m p x = cond (has_free s m 1) (halved_step s m p x) (refused_full s m x)

unfoldable pub down_step : List ℕ → ℕ → ℕ → Session → Stepped
down_step s m p x =
    cond (not (eqb p 0) && eqb (node_at s m (son_toward s m x.at x.target)).count 8) (split_step s m p x) (plain_step s m p x)

unfoldable pub alone_step : List ℕ → ℕ → ℕ → Session → Stepped
alone_step s m p x =
    let b = in_way p (node_at s m (son_toward s m x.at x.target)).latch in cond (eqb b 0) (down_step s m p x) (waits_for s x b)

-- The sons at i and i + 1 joined, a son moved to the left one, a son moved to the right one.
abbrev pub join_step : List ℕ → ℕ → ℕ → Session → ℕ → ℕ → Stepped
join_step s m p x i down = stands_at (join_sons s m x.at i down (p + 1)) x (son_at s m x.at i) (x.level - 1)

abbrev pub left_step : List ℕ → ℕ → ℕ → Session → ℕ → ℕ → Stepped
left_step s m p x i down = stands_at (move_left s m x.at i down (p + 1)) x (son_at s m x.at i) (x.level - 1)

abbrev pub right_step : List ℕ → ℕ → ℕ → Session → ℕ → ℕ → Stepped
right_step s m p x i down = stands_at (move_right s m x.at i down (p + 1)) x (son_at s m x.at (i + 1)) (x.level - 1)

-- How many sons the neighbour of the son on the path has, which is the first or not.
abbrev pub other_count : List ℕ → ℕ → ℕ → ℕ → Bool → ℕ
other_count s m at i first = cond first (node_at s m (son_at s m at (i + 1))).count (node_at s m (son_at s m at i)).count

abbrev pub mend_by : List ℕ → ℕ → ℕ → Session → ℕ → Bool → ℕ → ℕ → Stepped
mend_by s m p x i first other down = cond (leb other 5) (join_step s m p x i down) (cond first (left_step s m p x i down) (right_step s m p x i down))

-- The son on the path has 3 sons: it is mended with its neighbour.
unfoldable pub mend_step : List ℕ → ℕ → ℕ → Session → Stepped
mend_step s m p x =
    let n = node_at s m x.at in
    let i = pair_place n x.target in
    let first = eqb (son_for n x.target) 0 in
    mend_by s m p x i first (other_count s m x.at i first) (down_bound s m (x.level - 1) x.at i)

unfoldable pub pair_step : List ℕ → ℕ → ℕ → Session → Stepped
pair_step s m p x =
    let i = pair_place (node_at s m x.at) x.target in
    let b = first_in_way p (node_at s m (son_at s m x.at i)).latch (node_at s m (son_at s m x.at (i + 1))).latch in
    cond (eqb b 0) (mend_step s m p x) (waits_for s x b)

unfoldable pub level_step : List ℕ → ℕ → ℕ → Session → Stepped
level_step s m p x = cond (eqb p 0 && eqb (node_at s m (son_toward s m x.at x.target)).count 3) (pair_step s m p x) (alone_step s m p x)
