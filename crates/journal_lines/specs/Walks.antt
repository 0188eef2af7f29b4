-- Walks of a journal's chains: what stands at each place, and how many places there are.
use Rattle.std.specs.Prelude.{◌≡◌, Bool, ◌&&◌, List, [], ◌∷◌, map, ℕ, zero, suc, ◌*◌, ◌≤◌, ◌%◌, eqb, leb, length}
use Rattle.std.proofs.Math.Path.{refl}
use Rattle.std.proofs.Common.{sym, ap, subst, ◌∙◌, arith, eqb-true, leb-true, eq-eqb, ne_eqb, le-leb}
use Rattle.std.proofs.Math.Bool.{true, false, cond, and-eq-true_iff}
use Rattle.std.proofs.lemmas.Bool.{false≢true}
use Rattle.std.proofs.Math.Option.{Option, none, some, some-injective, none-ne-some}
use Rattle.std.proofs.lemmas.List.{length-map}
use Rattle.serial.specs.Model.{Pair}
use Rattle.journal_reader.specs.declared.Record.{Record}
use Rattle.journal_reader.specs.Record.{records, in_file, record_at, in-file-is}
use Rattle.journal_lines.specs.Journal.{chain, chain_from, consed, Line, pair_of, line_of, listed, list_of, with_list, lines_of, whole, lines_after, lines, is_some, or_empty}

-- From the place `at` the main chain says these lines.
abbrev pub Rest : List ℕ → ℕ → List Line → Type 0
Rest bs at [] = at ≡ 0
Rest bs at (l ∷ ls) =
    (1 ≤ at) × (at ≤ records bs) × (list_of bs (record_at bs at) ≡ some l.pairs) × (l ≡ line_of (record_at bs at) l.pairs) × Rest bs (record_at bs at).next ls

-- From the place `at` a list's chain says these pairs.
abbrev pub Pairs : List ℕ → ℕ → List Pair → Type 0
Pairs bs at [] = at ≡ 0
Pairs bs at (p ∷ ps) = (1 ≤ at) × (at ≤ records bs) × (p ≡ pair_of (record_at bs at)) × Pairs bs (record_at bs at).next ps

-- ---- records

-- From the place `at` a chain has these records.
abbrev pub Chained : List ℕ → ℕ → List Record → Type 0
Chained bs at [] = at ≡ 0
Chained bs at (r ∷ rs) = (1 ≤ at) × (at ≤ records bs) × (r ≡ record_at bs at) × Chained bs (record_at bs at).next rs

pub chain-is : (bs : List ℕ) (many at : ℕ) (rs : List Record) → chain bs many at ≡ some rs → Chained bs at rs × (length rs ≤ many)
unfolding chain
chain-is bs zero at rs h = go (eqb at 0) refl h
  where
    go : (b : Bool) → eqb at 0 ≡ b → cond b (some []) none ≡ some rs → Chained bs at rs × (length rs ≤ 0)
    go true e k = subst (λ l. Chained bs at l × (length l ≤ 0)) (some-injective [] rs k) (eqb-true at 0 e, omega arith)
    go false e k = absurd (none-ne-some rs k)
chain-is bs (suc many) at rs h = go (eqb at 0) (in_file bs at) refl refl (λ l. chain-is bs many (record_at bs at).next l) h
  where
    next : (o : Option (List Record)) → in_file bs at ≡ true → ((l : List Record) → o ≡ some l → Chained bs (record_at bs at).next l × (length l ≤ many))
        → consed (record_at bs at) o ≡ some rs → Chained bs at rs × (length rs ≤ suc many)
    next none f later k = absurd (none-ne-some rs k)
    next (some l) f later k =
        let c = later l refl in
        let i = in-file-is bs at f in
        subst (λ l. Chained bs at l × (length l ≤ suc many)) (some-injective (record_at bs at ∷ l) rs k) ((i.0, i.1, refl, c.0), omega (arith, c.1))

    go : (a b : Bool) → eqb at 0 ≡ a → in_file bs at ≡ b
        → ((l : List Record) → chain bs many (record_at bs at).next ≡ some l → Chained bs (record_at bs at).next l × (length l ≤ many))
        → cond a (some []) (cond b (consed (record_at bs at) (chain bs many (record_at bs at).next)) none) ≡ some rs → Chained bs at rs × (length rs ≤ suc many)
    go true b e f later k = subst (λ l. Chained bs at l × (length l ≤ suc many)) (some-injective [] rs k) (eqb-true at 0 e, omega arith)
    go false true e f later k = next (chain bs many (record_at bs at).next) f later k
    go false false e f later k = absurd (none-ne-some rs k)

-- ---- lines

pub some-or-empty : {A : Type 0} (o : Option (List A)) → is_some o ≡ true → o ≡ some (or_empty o)
some-or-empty none h = absurd (false≢true h)
some-or-empty (some l) h = refl

lines-of-rest : (bs : List ℕ) (at : ℕ) (rs : List Record) (ls : List Line) → Chained bs at rs → lines_of bs rs ≡ some ls → Rest bs at ls × (length ls ≡ length rs)
unfolding lines_of
lines-of-rest bs at [] ls c h = subst (λ l. Rest bs at l × (length l ≡ 0)) (some-injective [] ls h) (c, refl)
lines-of-rest bs at (r ∷ rs) ls c h = go (list_of bs r) (lines_of bs rs) refl (λ l e. lines-of-rest bs (record_at bs at).next rs l c.3 e) h
  where
    go : (o : Option (List Pair)) (p : Option (List Line)) → list_of bs r ≡ o → ((l : List Line) → p ≡ some l → Rest bs (record_at bs at).next l × (length l ≡ length rs))
        → with_list r o p ≡ some ls → Rest bs at ls × (length ls ≡ length (r ∷ rs))
    go none p e later k = absurd (none-ne-some ls k)
    go (some ps) none e later k = absurd (none-ne-some ls k)
    go (some ps) (some l) e later k =
        let t = later l refl in
        subst (λ l. Rest bs at l × (length l ≡ length (r ∷ rs))) (some-injective (line_of r ps ∷ l) ls k)
        ((c.0, c.1, ap (list_of bs) (sym c.2) ∙ e, ap (λ x. line_of x ps) c.2, t.0), ap suc t.1)

-- A journal that can be read has 1 to 2,048 records.
pub whole_is : (bs : List ℕ) → whole bs ≡ true → (length bs % 32 ≡ 0) × (1 ≤ records bs) × (records bs ≤ 2048)
unfolding whole
whole_is bs h =
    let p = (and-eq-true_iff (eqb (length bs % 32) 0) (leb 1 (records bs) && leb (records bs) 2048)).0 h in
    let q = (and-eq-true_iff (leb 1 (records bs)) (leb (records bs) 2048)).0 p.1 in
    (eqb-true (length bs % 32) 0 p.0, leb-true 1 (records bs) q.0, leb-true (records bs) 2048 q.1)

pub is_whole : (bs : List ℕ) (many : ℕ) → length bs ≡ 32 * many → 1 ≤ many → many ≤ 2048 → whole bs ≡ true
unfolding whole
is_whole bs many e h k = rw (eq-eqb (length bs % 32) 0 (omega arith), le-leb 1 (records bs) (omega arith), le-leb (records bs) 2048 (omega arith)) refl

module _ (bs : List ℕ) (ls : List Line) where
  both : lines bs ≡ some ls → (Rest bs 1 ls × (length ls ≤ records bs)) × (whole bs ≡ true)
  unfolding lines
  both h = go (whole bs) (chain_from bs 1) refl refl h
    where
      go : (w : Bool) (o : Option (List Record)) → whole bs ≡ w → chain_from bs 1 ≡ o → cond w (lines_after bs o) none ≡ some ls
          → (Rest bs 1 ls × (length ls ≤ records bs)) × (whole bs ≡ true)
      go false o e f k = absurd (none-ne-some ls k)
      go true none e f k = absurd (none-ne-some ls k)
      go true (some rs) e f k =
          let c = chain-is bs (records bs) 1 rs f in
          let t = lines-of-rest bs 1 rs ls c.0 k in
          ((t.0, omega (arith, c.1, t.1)), e)

  pub lines_rest : lines bs ≡ some ls → Rest bs 1 ls
  lines_rest h = (both h).0.0

  pub lines-few : lines bs ≡ some ls → (length ls ≤ records bs) × (records bs ≤ 2048) × (1 ≤ records bs)
  lines-few h = let w = whole_is bs (both h).1 in ((both h).0.1, w.2, w.1)

-- ---- lists

map-pairs : (bs : List ℕ) (at : ℕ) (rs : List Record) → Chained bs at rs → Pairs bs at (map pair_of rs)
map-pairs bs at [] c = c
map-pairs bs at (r ∷ rs) c = (c.0, c.1, ap pair_of c.2, map-pairs bs (record_at bs at).next rs c.3)

-- A locate's list.
pub list-pairs : (bs : List ℕ) (r : Record) (ps : List Pair) → r.code ≡ 5 → list_of bs r ≡ some ps → Pairs bs r.list ps × (length ps ≤ records bs)
unfolding list_of
list-pairs bs r ps five h = go (chain_from bs r.list) refl (ap (λ b. cond b (listed (chain_from bs r.list)) (some [])) (sym (eq-eqb r.code 5 five)) ∙ h)
  where
    go : (o : Option (List Record)) → chain_from bs r.list ≡ o → listed o ≡ some ps → Pairs bs r.list ps × (length ps ≤ records bs)
    go none e k = absurd (none-ne-some ps k)
    go (some rs) e k =
        let c = chain-is bs (records bs) r.list rs e in
        subst (λ l. Pairs bs r.list l × (length l ≤ records bs)) (some-injective (map pair_of rs) ps k)
        (map-pairs bs r.list rs c.0, omega (arith, c.1, length-map rs pair_of))

-- Any other request, and a commit, has none.
pub no_list : (bs : List ℕ) (r : Record) (ps : List Pair) → (r.code ≡ 5 → ⊥) → list_of bs r ≡ some ps → ps ≡ []
unfolding list_of
no_list bs r ps n h = sym (some-injective [] ps (ap (λ b. cond b (listed (chain_from bs r.list)) (some [])) (sym (ne_eqb r.code 5 n)) ∙ h))
