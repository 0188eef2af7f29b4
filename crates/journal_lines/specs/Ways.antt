-- The ways through the functions with tests: what each test says gives the definition's result.
use Rattle.std.specs.Prelude.{◌≡◌, Bool, true, false, ◌&&◌, ◌||◌, List, [], ◌⊎◌, ℕ, ◌+◌, ◌≤◌, ◌<◌, ◌%◌, eqb, length}
use Rattle.std.proofs.Math.Path.{refl, sym, ap}
use Rattle.std.proofs.Common.{◌∙◌, inl, inr, arith}
use Rattle.std.proofs.Math.Bool.{not, and-false, not-not}
use Rattle.std.proofs.Math.Option.{Option, none, some}
use Rattle.std.proofs.Math.Dec.{leb}
use borrow.Author.Tests.{eqb-true, eqb-false, eq-eqb, ne_eqb, le-leb, lt-leb}
use Rattle.journal_reader.specs.declared.Record.{Record}
use Rattle.journal_reader.specs.Record.{records}
use Rattle.journal_lines.specs.Journal.{chain_from, Line, line_of, listed, list_of, whole, lines_after, lines, is_some, proper_entry, proper_key, proper, none_of}
use Rattle.journal_lines.specs.Walks.{is_whole}
use Rattle.journal_lines.specs.Loops.{in_order}

-- ---- the length and the chains

module _ (bs : List ℕ) where
  pub whole_part : (length bs % 32 ≡ 0 → ⊥) → false ≡ whole bs
  unfolding whole
  whole_part n = rw (ne_eqb (length bs % 32) 0 n)

  pub whole-empty : length bs % 32 ≡ 0 → records bs ≡ 0 → false ≡ whole bs
  unfolding whole
  whole-empty e z = rw (eq-eqb (length bs % 32) 0 e) (rw (lt-leb 1 (records bs) (omega (arith, z))))

  pub whole_long : length bs % 32 ≡ 0 → 2048 < records bs → false ≡ whole bs
  unfolding whole
  whole_long e h = rw (eq-eqb (length bs % 32) 0 e, lt-leb (records bs) 2048 h) (sym (and-false (leb 1 (records bs))))

  pub whole-so : length bs % 32 ≡ 0 → (records bs ≡ 0 → ⊥) → records bs ≤ 2048 → true ≡ whole bs
  whole-so e n h = sym (is_whole bs (records bs) (omega (arith, e)) (omega (arith, n)) h)

  pub list-none : (r : Record) → (r.code ≡ 5 → ⊥) → true ≡ is_some (list_of bs r)
  unfolding list_of
  list-none r n = rw (ne_eqb r.code 5 n)

  pub list-some : (r : Record) (b : Bool) → r.code ≡ 5 → b ≡ is_some (chain_from bs r.list) → b ≡ is_some (list_of bs r)
  unfolding list_of
  list-some r b e t = rw (eq-eqb r.code 5 e) (t ∙ go (chain_from bs r.list))
    where
      go : (o : Option (List Record)) → is_some o ≡ is_some (listed o)
      go none = refl
      go (some rs) = refl

  pub readable-no : (b : Bool) → b ≡ whole bs → b ≡ false → false ≡ is_some (lines bs)
  unfolding lines
  readable-no b t f = rw (sym t ∙ f)

  pub readable-so : (b x : Bool) → b ≡ whole bs → b ≡ true → x ≡ is_some (lines_after bs (chain_from bs 1)) → x ≡ is_some (lines bs)
  unfolding lines
  readable-so b x t f e = rw (sym t ∙ f) e

-- ---- codes and numbers

-- An insert's or a remove's.
unfoldable pub change_numbers : ℕ → ℕ → Bool
change_numbers e k = proper_entry e && proper_key k

-- A locate's.
unfoldable pub locate_numbers : ℕ → ℕ → Bool
locate_numbers f s = proper_key f && (proper_key s && leb f s)

pub between-below : (top x : ℕ) → x < 1 → false ≡ (leb 1 x && leb x top)
between-below top x h = rw (lt-leb 1 x h)

pub between-above : (top x : ℕ) → top < x → false ≡ (leb 1 x && leb x top)
between-above top x h = rw (lt-leb x top h) (sym (and-false (leb 1 x)))

pub between-so : (top x : ℕ) → 1 ≤ x → x ≤ top → true ≡ (leb 1 x && leb x top)
between-so top x h l = rw (le-leb 1 x h) (rw (le-leb x top l))

module _ (e k : ℕ) (b : Bool) (t : b ≡ proper_entry e) where
  pub change-no : b ≡ false → false ≡ change_numbers e k
  unfolding change_numbers
  change-no f = ap (λ x. x && proper_key k) (sym f ∙ t)

  pub change-so : (x : Bool) → b ≡ true → x ≡ proper_key k → x ≡ change_numbers e k
  unfolding change_numbers
  change-so x f y = y ∙ ap (λ x. x && proper_key k) (sym f ∙ t)

module _ (f s : ℕ) (a : Bool) (p : a ≡ proper_key f) where
  pub locate-first : a ≡ false → false ≡ locate_numbers f s
  unfolding locate_numbers
  locate-first e = ap (λ x. x && (proper_key s && leb f s)) (sym e ∙ p)

  pub locate-second : (b : Bool) → b ≡ proper_key s → b ≡ false → false ≡ locate_numbers f s
  unfolding locate_numbers
  locate-second b q e = sym (and-false (proper_key f)) ∙ ap (λ x. proper_key f && (x && leb f s)) (sym e ∙ q)

  pub locate-so : (b : Bool) → a ≡ true → b ≡ proper_key s → b ≡ true → leb f s ≡ locate_numbers f s
  unfolding locate_numbers
  locate-so b d q e = rw (sym p ∙ d) (rw (sym q ∙ e) refl)

-- The request's tests by its code.
two-codes : (c k : ℕ) → k ≤ c → c < k + 2 → (c ≡ k) ⊎ (c ≡ k + 1)
two-codes c k h l = go (eqb c k) refl
  where
    go : (b : Bool) → eqb c k ≡ b → (c ≡ k) ⊎ (c ≡ k + 1)
    go true e = inl (eqb-true c k e)
    go false e = let n = eqb-false c k e in inr (omega (arith, n))

module _ (r : Record) where
  pub proper-value : (b : Bool) → (r.code ≡ 0 → ⊥) → r.code < 3 → b ≡ proper_entry r.entry → b ≡ proper (line_of r [])
  unfolding proper
  proper-value b n h t = go (two-codes r.code 1 (omega (arith, n)) h)
    where
      go : (r.code ≡ 1) ⊎ (r.code ≡ 2) → b ≡ proper (line_of r [])
      go (inl e) = rw e t
      go (inr e) = rw e t

  pub proper-change : (b : Bool) → 3 ≤ r.code → r.code < 5 → b ≡ change_numbers r.entry r.first → b ≡ proper (line_of r [])
  unfolding proper change_numbers
  proper-change b n h t = go (two-codes r.code 3 n h)
    where
      go : (r.code ≡ 3) ⊎ (r.code ≡ 4) → b ≡ proper (line_of r [])
      go (inl e) = rw e t
      go (inr e) = rw e t

  pub proper-locate : (b : Bool) → r.code ≡ 5 → b ≡ locate_numbers r.first r.second → b ≡ proper (line_of r [])
  unfolding proper locate_numbers
  proper-locate b e t = rw e t

  pub proper-commit : r.code ≡ 255 → true ≡ proper (line_of r [])
  unfolding proper
  proper-commit e = rw e refl

  pub proper-zero : r.code ≡ 0 → false ≡ proper (line_of r [])
  unfolding proper
  proper-zero e = rw e refl

  pub proper-other : 5 ≤ r.code → (r.code ≡ 5 → ⊥) → (r.code ≡ 255 → ⊥) → false ≡ proper (line_of r [])
  unfolding proper
  proper-other h m n =
      rw (ne_eqb r.code 1 (λ e. omega (arith, e)), ne_eqb r.code 2 (λ e. omega (arith, e)), ne_eqb r.code 3 (λ e. omega (arith, e)), ne_eqb r.code 4 (λ e. omega (arith, e)))
      (rw (ne_eqb r.code 5 m, ne_eqb r.code 255 n))

-- ---- a record and what is ahead

module _ (r : Record) (ls : List Line) (b : Bool) (t : b ≡ proper (line_of r [])) where
  pub order-no : b ≡ false → false ≡ in_order r ls
  unfolding in_order
  order-no f = ap (λ x. x && (not (eqb r.code 255) || none_of r.run ls)) (sym f ∙ t)

  pub order-request : b ≡ true → (r.code ≡ 255 → ⊥) → true ≡ in_order r ls
  unfolding in_order
  order-request f n = rw (sym t ∙ f) (rw (ne_eqb r.code 255 n))

  pub order-commit : (more : Bool) → b ≡ true → r.code ≡ 255 → more ≡ not (none_of r.run ls) → not more ≡ in_order r ls
  unfolding in_order
  order-commit more f e m = rw (sym t ∙ f) (rw (eq-eqb r.code 255 e) (ap not m ∙ not-not (none_of r.run ls)))
