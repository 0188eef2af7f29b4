-- Who is in the way of a step (document 01, "Long locks", "Steps"): what the step asks for by code and stage, and the nodes that it locks, drops, joins or takes from, read off the tree.
-- Whom a wait names of them (document 02, M-101). Nothing here is read of the guards of the steps.
use Rattle.std.specs.Prelude.{◌≡◌, true, false, List, [], ◌∷◌, ◌++◌, ◌⊎◌, zero, suc, ◌≤◌, ◌<◌, ℕ}
use Rattle.serial.specs.Locks.{Kind, Mode, weak, strong, lock_rule}
use Rattle.serial.specs.Locks as L
use Rattle.machine.specs.Holders.{latch_word}
use Rattle.machine.specs.Tree.{Below}
use Rattle.machine.specs.State.{Tree, Stage, start, enter, change, take, Request, State, session_of, at}
use Rattle.machine.specs.Descent.{Sons, sons_of}
use Rattle.machine.specs.View.{holders}
use Rattle.machine.specs.Housekeeping.{lvs}
use Rattle.machine.specs.Sound.{stored_in}
use Rattle.machine.specs.Context.{Ctx, plug, OnWay, Clear}

-- ---- long locks

-- The lowest stored key from x on.
pub record LowestFrom (x : ℕ) (s : State) (z : ℕ) : Type 0 where
  pub is_stored : stored_in z (lvs s) ≡ true
  pub from : x ≤ z
  pub lowest : (y : ℕ) → stored_in y (lvs s) ≡ true → x ≤ y → z ≤ y

-- The next step asks for a lock of kind k and mode m on z, an entry or a key: a read share, a write and the first step of insert and remove exclusive, on the entry;
-- the change update on first; a locate the locate lock on the lowest stored key from its place on. No other step asks for any.
abbrev pub Asks : Request → State → Stage → Kind → Mode → ℕ → Type 0
Asks r s start k m z = (k ≡ L.entry) × (z ≡ r.entry) × (((r.code ≡ 1) × (m ≡ weak)) ⊎ ((2 ≤ r.code) × (r.code ≤ 4) × (m ≡ strong)))
Asks r s (enter x) k m z = ⊥
Asks r s (at x) k m z = ⊥
Asks r s change k m z = (k ≡ L.group) × (z ≡ r.first) × (m ≡ strong)
Asks r s (take x) k m z = (k ≡ L.group) × LowestFrom x s z × (m ≡ weak)

-- Session q holds what the step asks for, in a mode that conflicts with the one asked.
pub record LongLock (r : Request) (s : State) (g : Stage) (q : ℕ) : Type 0 where
  pub kind : Kind
  pub asked : Mode
  pub held : Mode
  pub what : ℕ
  pub asks : Asks r s g kind asked what
  pub holding : holders s kind held q what ≡ true
  pub conflict : lock_rule kind held asked ≡ false

-- ---- short locks

-- The son on the path to x, among its brothers: the bounds before it lie below x, its own does not.
pub record Son {A : Type 0} (x : ℕ) (es : List (A × ℕ)) : Type 0 where
  pub before : List (A × ℕ)
  pub son : A
  pub bound : ℕ
  pub behind : List (A × ℕ)
  pub among : es ≡ before ++ (son, bound) ∷ behind
  pub passed : Below x before
  pub reached : x ≤ bound

-- Its left neighbour; the right one, for the first son.
abbrev pub LeftOf : {A : Type 0} {x : ℕ} {es : List (A × ℕ)} → Son x es → A → Type 0
LeftOf {A} S t = (pre : List (A × ℕ)) × (v : ℕ) × (S.before ≡ pre ++ (t, v) ∷ [])

abbrev pub RightOf : {A : Type 0} {x : ℕ} {es : List (A × ℕ)} → Son x es → A → Type 0
RightOf {A} S t = (S.before ≡ []) × ((v : ℕ) × (post : List (A × ℕ)) × (S.behind ≡ (t, v) ∷ post))

abbrev pub Neighbour : {A : Type 0} {x : ℕ} {es : List (A × ℕ)} → Son x es → A → Type 0
Neighbour S t = LeftOf S t ⊎ RightOf S t

-- One level down, from a parent with sons es, a step of party p locks the son on the path to x; the housekeeper, at a son of 3 sons, joins it with its neighbour or takes one from that.
abbrev pub Involved : ℕ → ℕ → (h : ℕ) → Sons (suc h) → Tree (suc h) → Type 0
Involved p x h es t = (S : Son x es) × ((t ≡ S.son) ⊎ ((p ≡ 0) × (sons_of S.son ≡ 3) × Neighbour S t))

-- Party p's latch is on the node u, of height suc k, on its path to x.
pub record At (p x : ℕ) (s : State) (k : ℕ) (u : Tree (suc k)) : Type 0 where
  pub around : Ctx (suc k) (suc s.root.height)
  pub is : s.root.node ≡ plug around u
  pub way : OnWay x around
  pub clear : Clear (latch_word p) around
  pub latch : u.latch ≡ latch_word p

-- The root's lone son, where that is a node, has q's latch.
abbrev pub LoneLatched : (h : ℕ) → Tree (suc h) → ℕ → Type 0
LoneLatched zero t q = ⊥
LoneLatched (suc h) t q = (a : Tree (suc h)) × (b : ℕ) × (t.sons ≡ (a, b) ∷ []) × (a.latch ≡ latch_word q)

-- Party q's latch is on a node that the next step locks, drops, joins or takes from: entering, the root and its lone son; on a descent, the nodes involved one level down.
abbrev pub ShortLock : ℕ → State → Stage → ℕ → Type 0
ShortLock p s start q = ⊥
ShortLock p s (enter x) q = (s.root.node.latch ≡ latch_word q) ⊎ LoneLatched s.root.height s.root.node q
ShortLock p s (at x) q = (h : ℕ) × (u : Tree (suc (suc h))) × At p x s (suc h) u × ((t : Tree (suc h)) × Involved p x h u.sons t × (t.latch ≡ latch_word q))
ShortLock p s change q = ⊥
ShortLock p s (take x) q = ⊥

-- Another party's lock conflicts with the next step of party p.
pub record InTheWay (p : ℕ) (r : Request) (s : State) (g : Stage) (q : ℕ) : Type 0 where
  pub another : ¬ (q ≡ p)
  pub lock : LongLock r s g q ⊎ ShortLock p s g q

-- ---- whom a wait names

-- The latch words of the root and of its lone son, where that is a node.
abbrev pub RootWords : (h : ℕ) → Tree (suc h) → List ℕ → Type 0
RootWords zero t ws = ws ≡ t.latch ∷ []
RootWords (suc h) t ws = ((a : Tree (suc h)) × (b : ℕ) × (t.sons ≡ (a, b) ∷ []) × (ws ≡ t.latch ∷ a.latch ∷ [])) ⊎ (¬ (sons_of t ≡ 1) × (ws ≡ t.latch ∷ []))

-- At a son of 3 sons the housekeeper takes its neighbour to it.
abbrev pub Mends : (p x h : ℕ) {es : Sons (suc h)} → Son x es → Type 0
Mends p x h S = (p ≡ 0) × (sons_of S.son ≡ 3)

-- One level down, those of the son on the path; or of the son and its neighbour, the left one's first.
abbrev pub LevelWords : (p x h : ℕ) → Sons (suc h) → List ℕ → Type 0
LevelWords p x h es ws = (S : Son x es) × ((¬ Mends p x h S × (ws ≡ S.son.latch ∷ []))
    ⊎ (Mends p x h S × ((t : Tree (suc h)) × ((LeftOf S t × (ws ≡ t.latch ∷ S.son.latch ∷ [])) ⊎ (RightOf S t × (ws ≡ S.son.latch ∷ t.latch ∷ []))))))

-- The latch words of the nodes that the next step locks, drops, joins or takes from, the highest first, then from left to right.
abbrev pub Latching : ℕ → State → Stage → List ℕ → Type 0
Latching p s start ws = ⊥
Latching p s (enter x) ws = RootWords s.root.height s.root.node ws
Latching p s (at x) ws = (h : ℕ) × (u : Tree (suc (suc h))) × At p x s (suc h) u × LevelWords p x h u.sons ws
Latching p s change ws = ⊥
Latching p s (take x) ws = ⊥

-- The latch word is of no other party than p; none of these is.
abbrev pub Free : ℕ → ℕ → Type 0
Free p w = (w ≡ 0) ⊎ (w ≡ latch_word p)

abbrev pub AllFree : ℕ → List ℕ → Type 0
AllFree p [] = Unit {0}
AllFree p (w ∷ ws) = Free p w × AllFree p ws

-- Of these latch words q's is the first that another party than p has.
abbrev pub FirstOf : ℕ → List ℕ → ℕ → Type 0
FirstOf p ws q = (pre : List ℕ) × (post : List ℕ) × (ws ≡ pre ++ latch_word q ∷ post) × AllFree p pre

-- A wait of p's next step names q.
pub record Named (p : ℕ) (r : Request) (s : State) (g : Stage) (q : ℕ) : Type 0 where
  pub in_the_way : InTheWay p r s g q
  -- Of the sessions in the way by a long lock it began first.
  pub began_first : (q' : ℕ) → ¬ (q' ≡ p) → LongLock r s g q' → ¬ (q' ≡ q) → (session_of q s).order < (session_of q' s).order
  -- Of the latches it has the first that another party has.
  pub first_latch : (ws : List ℕ) → Latching p s g ws → FirstOf p ws q
