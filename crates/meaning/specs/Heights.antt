-- How high a tree is: below the root each node has three sons or more, so a tree of few records is low.
use Rattle.std.specs.Prelude.{◌≡◌, refl, Bool, true, false, List, [], ◌∷◌, ℕ, zero, suc, ◌+◌, ◌-◌, ◌≤◌, ◌<◌, leb, length}
use Rattle.std.proofs.Common.{sym, ap, subst, arith, length-append, leb-true, leb-false}
use Rattle.machine.specs.Tree.{flat, map_e, Seg}
use Rattle.machine.specs.Sound.{Shaped}
use Rattle.meaning.specs.Reading.{Numbered, erase, numbers}

pub length-map_e : {A B : Type 0} (f : A → B) (es : List (A × ℕ)) → length (map_e f es) ≡ length es
length-map_e f [] = refl
length-map_e f (e ∷ es) = ap suc (length-map_e f es)

-- The fewest records of a tree of height h below the root.
unfoldable fewest : ℕ → ℕ
fewest zero = 1
fewest (suc h) = suc (fewest h + fewest h + fewest h)

some-fewest : (h : ℕ) → 1 ≤ fewest h
unfolding fewest
some-fewest zero = omega arith
some-fewest (suc h) = omega arith

module _ (h : ℕ) (f : (lo hi : ℕ) (t : Numbered h) → Shaped h 3 lo hi (erase h t) → fewest h ≤ length (numbers h t)) where
  first-fewest : (lo e : ℕ) (es : List (Numbered h × ℕ)) → 1 ≤ length es → Seg (Shaped h 3) lo e (map_e (erase h) es) → fewest h ≤ length (flat (numbers h) es)
  first-fewest lo e [] n g = absurd (omega arith)
  first-fewest lo e (p ∷ es) n g = omega (arith, f lo p.1 p.0 g.0, length-append (numbers h p.0) (flat (numbers h) es))

  three-fewest : (lo e : ℕ) (es : List (Numbered h × ℕ)) → 3 ≤ length es → Seg (Shaped h 3) lo e (map_e (erase h) es) → fewest h + fewest h + fewest h ≤ length (flat (numbers h) es)
  three-fewest lo e [] n g = absurd (omega arith)
  three-fewest lo e (p ∷ []) n g = absurd (omega arith)
  three-fewest lo e (p ∷ q ∷ es) n g =
      omega (
        arith,
        f lo p.1 p.0 g.0,
        f (suc p.1) q.1 q.0 g.1.0,
        first-fewest (suc q.1) e es (omega arith) g.1.1,
        length-append (numbers h p.0) (flat (numbers h) (q ∷ es)),
        length-append (numbers h q.0) (flat (numbers h) es),
      )

many-records : (h lo hi : ℕ) (t : Numbered h) → Shaped h 3 lo hi (erase h t) → fewest h ≤ length (numbers h t)
unfolding fewest numbers Shaped erase
many-records zero lo hi t S = omega arith
many-records (suc h) lo hi t S = omega (arith, three-fewest h (many-records h) lo (suc hi) t.sons (omega (arith, S.0, length-map_e (erase h) t.sons)) S.3)

root-records : (d lo hi : ℕ) (t : Numbered (suc d)) → Shaped (suc d) 1 lo hi (erase (suc d) t) → fewest d < length (numbers (suc d) t)
unfolding numbers Shaped erase
root-records d lo hi t S = omega (arith, first-fewest d (many-records d) lo (suc hi) t.sons (omega (arith, S.0, length-map_e (erase d) t.sons)) S.3)

above-eight : (k : ℕ) → 9841 ≤ fewest (suc (suc (suc (suc (suc (suc (suc (suc k))))))))
unfolding fewest
above-eight k = omega (arith, some-fewest k)

-- A tree of at most 4096 records has at most 8 levels of nodes.
pub height-low : (d lo hi : ℕ) (t : Numbered (suc d)) → Shaped (suc d) 1 lo hi (erase (suc d) t) → length (numbers (suc d) t) ≤ 4096 → d ≤ 7
height-low d lo hi t S n = go (leb d 7) refl
  where
    go : (b : Bool) → leb d 7 ≡ b → d ≤ 7
    go true e = leb-true d 7 e
    go false e =
        let a = leb-false d 7 e in
        let k : d ≡ suc (suc (suc (suc (suc (suc (suc (suc (d - 8)))))))) = omega arith in
        let l : 9841 ≤ fewest d = subst (λ (x : ℕ). 9841 ≤ fewest x) (sym k) (above-eight (d - 8)) in
        absurd (omega (arith, root-records d lo hi t S))
