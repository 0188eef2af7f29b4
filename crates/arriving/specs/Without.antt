-- A lowest node without the descriptor on the path: the node keeps its own bound.
use Rattle.std.specs.Prelude.{◌≡◌, refl, ℕ, ◌+◌, ◌≤◌, ◌<◌, length}
use Rattle.std.proofs.Math.Path.{sym, ap}
use Rattle.std.proofs.Common.{subst, ◌∙◌, arith, length-append}
use mathlib.Core.List.{List, [], ◌∷◌, ◌++◌, map-append, append_assoc, append-nil}
use Rattle.nodes.specs.declared.Node.{Node}
use Rattle.reshaping.specs.Ops.{remove_son}
use Rattle.nodes.specs.Live.{Usable}
use Rattle.reshaping.specs.Live.{remove-usable}
use Rattle.nodes.specs.Entries as N
use Rattle.reshaping.specs.Entries.{out-inner, out-last}
use Rattle.machine.specs.Tree.{onp, onp-hit, map_e, map_e-append, Below}
use Rattle.machine.specs.State.{Desc}
use Rattle.machine.specs.Descent.{Sons, on_last, bound_of, taken_out}
use Rattle.meaning.specs.Reading.{Leaf, erase}
use Rattle.meaning.specs.Around.{below-erase}
use Rattle.arriving.specs.Lowest.{leaves_of}
use Rattle.arriving.specs.Site.{nums_of}

pub record Without (x : ℕ) (pre : List (Leaf × ℕ)) (l : Leaf) (b : ℕ) (post : List (Leaf × ℕ)) : Type 0 where
  pub sons : List (Leaf × ℕ)
  pub is : leaves_of sons ≡ leaves_of pre ++ leaves_of post
  pub erased : map_e (erase 0) sons ≡ taken_out x (map_e (erase 0) (pre ++ (l, b) ∷ post))
  pub entries : (q : Node) (u : ℕ) → Usable q → N.entries q u ≡ nums_of pre ++ (l.num, b) ∷ nums_of post → N.entries (remove_son q (length (nums_of pre))) u ≡ nums_of sons

-- ---- the last bound

bound-append : {A : Type 0} (u v : ℕ) (a : List (A × ℕ)) (z : A × ℕ) (b : List (A × ℕ)) → bound_of u (a ++ z ∷ b) ≡ bound_of v (z ∷ b)
bound-append u v [] z b = refl
bound-append u v (y ∷ a) z b = bound-append y.1 v a z b

last-same : {A : Type 0} (l : List (A × ℕ)) → on_last (λ _ _. bound_of 0 l) l ≡ l
last-same [] = refl
last-same (p ∷ []) = refl
last-same (p ∷ q ∷ es) = ap (λ k. p ∷ k) (last-same (q ∷ es))

last_snoc : {A : Type 0} (f : A → ℕ → ℕ) (a : List (A × ℕ)) (y : A) (v : ℕ) → on_last f (a ++ (y, v) ∷ []) ≡ a ++ (y, f y v) ∷ []
last_snoc f [] y v = refl
last_snoc f (p ∷ []) y v = refl
last_snoc f (p ∷ q ∷ a) y v = ap (λ k. p ∷ k) (last_snoc f (q ∷ a) y v)

-- ---- the two cases

module _ (x : ℕ) (pre : List (Leaf × ℕ)) (l : Leaf) (b : ℕ) (low : Below x pre) (up : x ≤ b) where
  abbrev bare : Leaf → Desc
  bare z = z.desc

  -- The sons without the one on the path, before the last bound is set.
  none_left : (post : List (Leaf × ℕ)) → onp x (λ (d : Desc) v. []) (map_e bare (pre ++ (l, b) ∷ post)) ≡ map_e bare pre ++ map_e bare post
  none_left post =
      let f : Desc → ℕ → Sons 0 = λ d v. [] in
      ap (onp x f) (map_e-append bare pre ((l, b) ∷ post)) ∙ onp-hit x f (map_e bare pre) l.desc b (map_e bare post) (below-erase bare x pre low) up

  inner : (y : Leaf × ℕ) (post : List (Leaf × ℕ)) → Without x pre l b (y ∷ post)
  unfolding taken_out erase
  inner y post =
      let es = map_e bare (pre ++ (l, b) ∷ y ∷ post) in
      let rest = map_e bare pre ++ map_e bare (y ∷ post) in
      let u : bound_of 0 es ≡ bound_of 0 rest =
      ap (bound_of 0) (map_e-append bare pre ((l, b) ∷ y ∷ post)) ∙ bound-append 0 0 (map_e bare pre) (l.desc, b) (map_e bare (y ∷ post)) ∙ sym (bound-append 0 b (map_e bare pre) (y.0.desc, y.1) (map_e bare post)) in
      record {
        sons = pre ++ y ∷ post;
        is = map-append (λ z. z.0) pre (y ∷ post);
        erased = map_e-append bare pre (y ∷ post)
            ∙ sym (ap (on_last (λ _ _. bound_of 0 es)) (none_left (y ∷ post)) ∙ ap (λ k. on_last (λ _ _. k) rest) u ∙ last-same rest);
        entries = λ q v ok is. out-inner ok v (nums_of pre) l.num b y.0.num y.1 (nums_of post) is ∙ sym (map_e-append (λ z. z.num) pre (y ∷ post));
      }

outer : (x : ℕ) (pre : List (Leaf × ℕ)) (y : Leaf) (v : ℕ) (l : Leaf) (b : ℕ) → Below x (pre ++ (y, v) ∷ []) → x ≤ b → Without x (pre ++ (y, v) ∷ []) l b []
unfolding taken_out erase
outer x pre y v l b low up =
    let all = pre ++ (y, v) ∷ [] in
    let desc : Leaf → Desc = λ z. z.desc in
    let es = map_e desc (all ++ (l, b) ∷ []) in
    let u : bound_of 0 es ≡ b = ap (bound_of 0) (map_e-append desc all ((l, b) ∷ [])) ∙ bound-append 0 0 (map_e desc all) (l.desc, b) [] in
    let n : length (nums_of all) ≡ length (nums_of pre) + 1 = ap length (map_e-append (λ z. z.num) pre ((y, v) ∷ [])) ∙ length-append (nums_of pre) ((y.num, v) ∷ []) in
    record {
      sons = pre ++ (y, b) ∷ [];
      is = map-append (λ z. z.0) pre ((y, b) ∷ []) ∙ sym (append-nil (leaves_of all) ∙ map-append (λ z. z.0) pre ((y, v) ∷ []));
      erased = map_e-append desc pre ((y, b) ∷ [])
          ∙ sym (ap (on_last (λ _ _. bound_of 0 es)) (none_left x all l b low up [] ∙ append-nil (map_e desc all) ∙ map_e-append desc pre ((y, v) ∷ []))
          ∙ ap (λ k. on_last (λ _ _. k) (map_e desc pre ++ (y.desc, v) ∷ [])) u
          ∙ last_snoc (λ _ _. b) (map_e desc pre) y.desc v);
      entries = λ q w ok is.
          ap (λ k. N.entries (remove_son q k) w) n
          ∙ out-last ok w (nums_of pre) y.num v l.num b []
          (is ∙ ap (λ k. k ++ (l.num, b) ∷ []) (map_e-append (λ z. z.num) pre ((y, v) ∷ [])) ∙ append_assoc (nums_of pre) ((y.num, v) ∷ []) ((l.num, b) ∷ [])) refl
          ∙ sym (map_e-append (λ z. z.num) pre ((y, b) ∷ []));
    }

-- A list that ends.
record Ends {A : Type 0} (l : List A) : Type 0 where
  init : List A
  last : A
  ends : l ≡ init ++ last ∷ []

ends_of : {A : Type 0} (x : A) (l : List A) → Ends (x ∷ l)
ends_of x [] = record { init = []; last = x; ends = refl }
ends_of x (y ∷ l) = let r = ends_of y l in record { init = x ∷ r.init; last = r.last; ends = ap (λ k. x ∷ k) r.ends }

-- Of a node with two sons or more.
pub without : (x : ℕ) (pre : List (Leaf × ℕ)) (l : Leaf) (b : ℕ) (post : List (Leaf × ℕ)) → Below x pre → x ≤ b → 1 ≤ length pre + length post → Without x pre l b post
without x pre l b (y ∷ post) low up n = inner x pre l b low up y post
without x [] l b [] low up n = absurd (omega (arith, n))
without x (z ∷ pre) l b [] low up n = go (ends_of z pre) low
  where
    go : Ends (z ∷ pre) → Below x (z ∷ pre) → Without x (z ∷ pre) l b []
    go E low = subst (λ k. Without x k l b []) (sym E.ends) (outer x E.init E.last.0 E.last.1 l b (subst (Below x) E.ends low) up)

pub without-usable : (q : Node) (ok : Usable q) (i : ℕ) → 2 ≤ q.count → i < q.count → Usable (remove_son q i)
without-usable q ok i two h = remove-usable ok i two h
