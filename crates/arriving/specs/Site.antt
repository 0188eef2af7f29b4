-- The lowest node in the words: its son on the path to the party's key, and where the leaves stand.
use Rattle.std.specs.Prelude.{◌≡◌, ℕ, zero, suc, ◌≤◌, length, take}
use Rattle.std.proofs.Common.{sym, ap, ◌∙◌, inl, inr, arith, length-append}
use Rattle.std.proofs.Math.Path.{subst}
use mathlib.Core.List.{List, [], ◌∷◌, ◌++◌, map-append, append_assoc, zip, zip_with}
use Rattle.words.specs.Store.{record_at}
use Rattle.nodes.specs.declared.Node.{Node}
use Rattle.nodes.specs.Node.{node_at, sized-decode}
use Rattle.nodes.specs.Ops.{son_for}
use Rattle.nodes.specs.Live.{Usable, bounds_of}
use Rattle.nodes.specs.Entries as N
use Rattle.sessions.specs.declared.Session.{Session}
use Rattle.sessions.specs.Sessions.{session_at}
use Rattle.machine.specs.Tree.{map_e, map_e-append, Below, leaves}
use Rattle.machine.specs.State.{top}
use Rattle.meaning.specs.Reading.{Leaf, Mark, M-of}
use Rattle.meaning.specs.Around.{NCtx, fill, num_of, bound_in, leaves-fill}
use Rattle.meaning.specs.Lens.{leaves_before, leaves_behind}
use Rattle.layout.specs.Layout.{Lay, leaves_in, NodeFits, TreeFits, Each, DescFits, Has, Holds}
use Rattle.layout.specs.Keep.{fits-open, CtxFits}
use Rattle.layout.specs.Puts.{node-count}
use Rattle.nodes.specs.Paths.{son_at, son_toward}
use Rattle.arriving.specs.Lowest.{Lowest, lowest, leaves_of, flat-leaves}

-- ---- sons by their records

abbrev pub nums_of : List (Leaf × ℕ) → List (ℕ × ℕ)
nums_of es = map_e (λ l. l.num) es

pub below-nums : (x : ℕ) (es : List (Leaf × ℕ)) → Below x es → N.Below x (nums_of es)
below-nums x [] b = tt
below-nums x (e ∷ es) b = (b.0, below-nums x es b.1)

-- A node with an entry has a son.
pub count-some : (n : Node) (u : ℕ) (pre : List (ℕ × ℕ)) (e : ℕ × ℕ) (post : List (ℕ × ℕ)) → N.entries n u ≡ pre ++ e ∷ post → 1 ≤ n.count
unfolding N.entries zip zip_with
count-some n u pre e post is = go n.count is
  where
    go : (k : ℕ) → zip (take k n.sons) (bounds_of n ++ (u ∷ [])) ≡ pre ++ e ∷ post → 1 ≤ k
    go zero is = absurd (omega (arith, ap length is, length-append pre (e ∷ post)))
    go (suc k) is = omega arith

-- ---- leaves

leaves-lowest : (w : Mark) (pre : List (Leaf × ℕ)) (l : Leaf) (b : ℕ) (post : List (Leaf × ℕ)) → leaves Leaf Mark 1 (lowest w pre l b post) ≡ leaves_of pre ++ l ∷ leaves_of post
unfolding leaves
leaves-lowest w pre l b post = flat-leaves (pre ++ (l, b) ∷ post) ∙ map-append (λ e. e.0) pre ((l, b) ∷ post)

four : {X : Type 0} (a b c d : List X) → a ++ ((b ++ c) ++ d) ≡ (a ++ b) ++ (c ++ d)
four a b c d = ap (λ l. a ++ l) (append_assoc b c d) ∙ sym (append_assoc a b (c ++ d))

pub leaves-whole : {h : ℕ} (c : NCtx 1 h) (w : Mark) (pre : List (Leaf × ℕ)) (l : Leaf) (b : ℕ) (post : List (Leaf × ℕ))
    → leaves Leaf Mark h (fill c (lowest w pre l b post)) ≡ (leaves_before c ++ leaves_of pre) ++ l ∷ (leaves_of post ++ leaves_behind c)
leaves-whole c w pre l b post =
    leaves-fill c (lowest w pre l b post)
    ∙ ap (λ k. leaves_before c ++ (k ++ leaves_behind c)) (leaves-lowest w pre l b post)
    ∙ four (leaves_before c) (leaves_of pre) (l ∷ leaves_of post) (leaves_behind c)

pub has-at : (k d : ℕ) (A : List Leaf) (l : Leaf) (B : List Leaf) → l.desc.key ≡ k → l.num ≡ d → Has k d (A ++ l ∷ B)
has-at k d [] l B e n = inl (e, n)
has-at k d (a ∷ A) l B e n = inr (has-at k d A l B e n)

-- ---- the node

module _ (s : List ℕ) (t : List Session) (L : Lay) (H : Holds s t L) (p : ℕ) (N₀ : Lowest L t p) where
  abbrev pub site_low : List Leaf
  site_low = leaves_before N₀.around ++ leaves_of N₀.pre

  abbrev pub site_high : List Leaf
  site_high = leaves_of N₀.post ++ leaves_behind N₀.around

  pub site-leaves : leaves_in L ≡ site_low ++ N₀.leaf ∷ site_high
  site-leaves = ap (leaves Leaf Mark (suc L.height)) N₀.is ∙ leaves-whole N₀.around N₀.mark N₀.pre N₀.leaf N₀.bound N₀.post

  pub site-open : CtxFits s (M-of s) N₀.around top N₀.mark.num × NodeFits s (M-of s) (bound_in N₀.around top) N₀.mark (nums_of N₀.pre ++ (N₀.leaf.num, N₀.bound) ∷ nums_of N₀.post)
      × Each (λ _ l. DescFits s (M-of s) l) (N₀.pre ++ (N₀.leaf, N₀.bound) ∷ N₀.post)
  unfolding TreeFits num_of
  site-open =
      let m = M-of s in
      let c = N₀.around in
      let o = fits-open s m c (lowest N₀.mark N₀.pre N₀.leaf N₀.bound N₀.post) top (subst (TreeFits s m (suc L.height) top) N₀.is H.fits.tree) in
      (o.0, subst (NodeFits s m (bound_in c top) N₀.mark) (map_e-append (λ z. z.num) N₀.pre ((N₀.leaf, N₀.bound) ∷ N₀.post)) o.1.0, o.1.1)

  pub site-entries : N.entries (node_at s (M-of s) (session_at t p).at) (bound_in N₀.around top) ≡ nums_of N₀.pre ++ (N₀.leaf.num, N₀.bound) ∷ nums_of N₀.post
  site-entries = subst (λ i. N.entries (node_at s (M-of s) i) (bound_in N₀.around top) ≡ nums_of N₀.pre ++ (N₀.leaf.num, N₀.bound) ∷ nums_of N₀.post) N₀.num site-open.1.sons

  pub site-usable : Usable (node_at s (M-of s) (session_at t p).at)
  site-usable = record {
    sized = sized-decode (record_at s (M-of s) (session_at t p).at);
    least = count-some (node_at s (M-of s) (session_at t p).at) (bound_in N₀.around top) (nums_of N₀.pre) (N₀.leaf.num, N₀.bound) (nums_of N₀.post) site-entries;
    most = subst (λ i. (node_at s (M-of s) i).count ≤ 8) N₀.num (subst (λ k. k ≤ 8) (sym (node-count s (M-of s) N₀.mark.num)) site-open.1.few);
  }

  pub site-place : son_for (node_at s (M-of s) (session_at t p).at) (session_at t p).target ≡ length (nums_of N₀.pre)
  site-place = N.find-here site-usable (bound_in N₀.around top) (nums_of N₀.pre) N₀.leaf.num N₀.bound (nums_of N₀.post) site-entries (session_at t p).target
      (below-nums (session_at t p).target N₀.pre N₀.below) (inl N₀.upto)

  pub site_son : son_toward s (M-of s) (session_at t p).at (session_at t p).target ≡ N₀.leaf.num
  site_son =
      ap (son_at s (M-of s) (session_at t p).at) site-place
      ∙ N.son-here site-usable (bound_in N₀.around top) (nums_of N₀.pre) N₀.leaf.num N₀.bound (nums_of N₀.post) site-entries

  -- A descriptor on the path with the key is the key's.
  pub site-has : N₀.leaf.desc.key ≡ (session_at t p).target → Has (session_at t p).target (son_toward s (M-of s) (session_at t p).at (session_at t p).target) (leaves_in L)
  site-has e = subst (Has (session_at t p).target (son_toward s (M-of s) (session_at t p).at (session_at t p).target)) (sym site-leaves)
      (has-at (session_at t p).target (son_toward s (M-of s) (session_at t p).at (session_at t p).target) site_low N₀.leaf site_high e (sym site_son))
