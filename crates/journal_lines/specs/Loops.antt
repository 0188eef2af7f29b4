-- What the loops keep: what is left of a chain, tested, gives the whole test.
use Rattle.std.specs.Prelude.{◌≡◌, refl, Bool, true, false, cond, ◌&&◌, ◌||◌, List, [], ◌∷◌, eqb, leb}
use Rattle.std.proofs.Math.Path.{sym, ap}
use Rattle.std.proofs.Common.{◌∙◌, arith, eqb-true, leb-true, leb-false, eq-eqb, ne_eqb}
use Rattle.std.proofs.Math.Bool.{not, and-false}
use Rattle.std.proofs.lemmas.Bool.{false≢true, eqb-false}
use Rattle.std.proofs.Math.Option.{Option, none, some}
use Prim.Native.Nat.{ℕ, zero, suc, ◌-◌, ◌≤◌, ◌<◌}
use Rattle.serial.specs.Model.{Pair}
use Rattle.journal_reader.specs.declared.Record.{Record}
use Rattle.journal_reader.specs.Record.{records, record_at, in-file-yes, in-file-no}
use Rattle.journal_lines.specs.Journal.{chain, chain_from, consed, Line, line_of, list_of, with_list, lines_of, whole, lines_after, lines, is_some, or_empty, said, proper, all_proper, none_of, all_end}

-- ---- one step of a chain

module _ (bs : List ℕ) where
  pub chain-end : (left at : ℕ) → at ≡ 0 → chain bs left at ≡ some []
  unfolding chain
  chain-end zero at z = rw (eq-eqb at 0 z)
  chain-end (suc left) at z = rw (eq-eqb at 0 z)

  pub chain-out : (left at : ℕ) → (at ≡ 0 → ⊥) → records bs < at → chain bs left at ≡ none
  unfolding chain
  chain-out zero at n h = rw (ne_eqb at 0 n)
  chain-out (suc left) at n h = rw (ne_eqb at 0 n, in-file-no bs at h)

  pub chain-long : (left at : ℕ) → (at ≡ 0 → ⊥) → left ≡ 0 → chain bs left at ≡ none
  unfolding chain
  chain-long zero at n z = rw (ne_eqb at 0 n)
  chain-long (suc left) at n z = absurd (omega (arith, z))

  pub chain_next : (left at : ℕ) → (at ≡ 0 → ⊥) → at ≤ records bs → (left ≡ 0 → ⊥)
      → chain bs left at ≡ consed (record_at bs at) (chain bs (left - 1) (record_at bs at).next)
  unfolding chain
  chain_next zero at n h l = absurd (l refl)
  chain_next (suc left) at n h l = rw (ne_eqb at 0 n, in-file-yes bs at (omega (arith, n)) h) (ap (λ k. consed (record_at bs at) (chain bs k (record_at bs at).next)) {x = left} {y = suc left - 1} (omega arith))

-- ---- whether a chain ends

is-some-consed : (r : Record) (o : Option (List Record)) → is_some (consed r o) ≡ is_some o
is-some-consed r none = refl
is-some-consed r (some rs) = refl

pub record Chaining (bs : List ℕ) (start left at : ℕ) : Type 0 where
  pub is : is_some (chain bs left at) ≡ is_some (chain_from bs start)

module _ {bs : List ℕ} {start left at : ℕ} (c : Chaining bs start left at) where
  pub chaining-end : at ≡ 0 → true ≡ is_some (chain_from bs start)
  chaining-end z = sym (ap is_some (chain-end bs left at z)) ∙ c.is

  pub chaining-out : (at ≡ 0 → ⊥) → records bs < at → false ≡ is_some (chain_from bs start)
  chaining-out n h = sym (ap is_some (chain-out bs left at n h)) ∙ c.is

  pub chaining-long : (at ≡ 0 → ⊥) → left ≡ 0 → false ≡ is_some (chain_from bs start)
  chaining-long n z = sym (ap is_some (chain-long bs left at n z)) ∙ c.is

  pub chaining-more : (n : ℕ) → (at ≡ 0 → ⊥) → at ≤ records bs → (left ≡ 0 → ⊥) → n ≡ (record_at bs at).next → Chaining bs start (left - 1) n
  chaining-more n a h l e = record {
    is = ap (λ x. is_some (chain bs (left - 1) x)) e ∙ sym (is-some-consed (record_at bs at) (chain bs (left - 1) (record_at bs at).next))
        ∙ sym (ap is_some (chain_next bs left at a h l)) ∙ c.is;
  }

-- ---- whether every list ends

-- The lines of the main chain from a place on, so many at most.
unfoldable pub lines_from : List ℕ → ℕ → ℕ → Option (List Line)
lines_from bs many at = lines_after bs (chain bs many at)

unfoldable pub ahead : List ℕ → ℕ → ℕ → List Line
ahead bs many at = or_empty (lines_from bs many at)

lines-after-consed : (bs : List ℕ) (r : Record) (o : Option (List Record)) → is_some (lines_after bs (consed r o)) ≡ (is_some (list_of bs r) && is_some (lines_after bs o))
unfolding lines_of
lines-after-consed bs r none = sym (and-false (is_some (list_of bs r)))
lines-after-consed bs r (some rs) = both (list_of bs r) (lines_of bs rs)
  where
    both : (q : Option (List Pair)) (p : Option (List Line)) → is_some (with_list r q p) ≡ (is_some q && is_some p)
    both none p = refl
    both (some ps) none = refl
    both (some ps) (some ls) = refl

pub record Reading (bs : List ℕ) (left at : ℕ) : Type 0 where
  pub is : is_some (lines_from bs left at) ≡ is_some (lines_after bs (chain_from bs 1))

pub reading-start : (bs : List ℕ) → Reading bs (records bs) 1
unfolding lines_from
reading-start bs = record { is = refl }

module _ {bs : List ℕ} {left at : ℕ} (c : Reading bs left at) where
  pub reading-end : at ≡ 0 → true ≡ is_some (lines_after bs (chain_from bs 1))
  unfolding lines_from lines_of
  reading-end z = sym (ap (λ o. is_some (lines_after bs o)) (chain-end bs left at z)) ∙ c.is

  pub reading-out : (at ≡ 0 → ⊥) → records bs < at → false ≡ is_some (lines_after bs (chain_from bs 1))
  unfolding lines_from
  reading-out n h = sym (ap (λ o. is_some (lines_after bs o)) (chain-out bs left at n h)) ∙ c.is

  pub reading-long : (at ≡ 0 → ⊥) → left ≡ 0 → false ≡ is_some (lines_after bs (chain_from bs 1))
  unfolding lines_from
  reading-long n z = sym (ap (λ o. is_some (lines_after bs o)) (chain-long bs left at n z)) ∙ c.is

  module _ (r : Record) (b : Bool) (n : at ≡ 0 → ⊥) (h : at ≤ records bs) (l : left ≡ 0 → ⊥) (e : r ≡ record_at bs at) (t : b ≡ is_some (list_of bs r)) where
    reading-next : (b && is_some (lines_from bs (left - 1) r.next)) ≡ is_some (lines_after bs (chain_from bs 1))
    unfolding lines_from
    reading-next =
        ap (λ x. x && is_some (lines_from bs (left - 1) r.next)) t
        ∙ ap (λ (x : Record). is_some (list_of bs x) && is_some (lines_from bs (left - 1) x.next)) e
        ∙ sym (lines-after-consed bs (record_at bs at) (chain bs (left - 1) (record_at bs at).next))
        ∙ sym (ap (λ o. is_some (lines_after bs o)) (chain_next bs left at n h l)) ∙ c.is

    pub reading-no : b ≡ false → false ≡ is_some (lines_after bs (chain_from bs 1))
    reading-no f = ap (λ x. x && is_some (lines_from bs (left - 1) r.next)) (sym f) ∙ reading-next

    pub reading-more : b ≡ true → Reading bs (left - 1) r.next
    reading-more f = record { is = ap (λ x. x && is_some (lines_from bs (left - 1) r.next)) (sym f) ∙ reading-next }

-- ---- walks of a journal that can be read

-- The lines are that of the record r, with its list, and then the others.
pub record Headed (r : Record) (all others : Option (List Line)) : Type 0 where
  pub pairs : List Pair
  pub on : is_some others ≡ true
  pub there : or_empty all ≡ line_of r pairs ∷ or_empty others

headed : (bs : List ℕ) (r : Record) (o : Option (List Record)) → is_some (lines_after bs (consed r o)) ≡ true → Headed r (lines_after bs (consed r o)) (lines_after bs o)
unfolding lines_of
headed bs r none s = absurd (false≢true s)
headed bs r (some rs) s = go (list_of bs r) (lines_of bs rs) s
  where
    go : (q : Option (List Pair)) (p : Option (List Line)) → is_some (with_list r q p) ≡ true → Headed r (with_list r q p) p
    go none p e = absurd (false≢true e)
    go (some ps) none e = absurd (false≢true e)
    go (some ps) (some ls) e = record { pairs = ps; on = refl; there = refl }

-- At a place of the main chain a line stands, and the others are ahead.
pub record Step (bs : List ℕ) (left at : ℕ) : Type 0 where
  pub more : 1 ≤ left
  pub pairs : List Pair
  pub on : is_some (lines_from bs (left - 1) (record_at bs at).next) ≡ true
  pub there : ahead bs left at ≡ line_of (record_at bs at) pairs ∷ ahead bs (left - 1) (record_at bs at).next

pub ahead-end : (bs : List ℕ) (left at : ℕ) → at ≡ 0 → ahead bs left at ≡ []
unfolding ahead lines_from lines_of
ahead-end bs left at z = ap (λ o. or_empty (lines_after bs o)) (chain-end bs left at z)

pub ahead_step : (bs : List ℕ) (left at : ℕ) → (at ≡ 0 → ⊥) → is_some (lines_from bs left at) ≡ true → Step bs left at
unfolding ahead lines_from
ahead_step bs left at n s = go (leb at (records bs)) (eqb left 0) refl refl
  where
    found : (left ≡ 0 → ⊥) → chain bs left at ≡ consed (record_at bs at) (chain bs (left - 1) (record_at bs at).next) → Step bs left at
    found l e =
        let h = headed bs (record_at bs at) (chain bs (left - 1) (record_at bs at).next) (sym (ap (λ o. is_some (lines_after bs o)) e) ∙ s) in
        record { more = omega (arith, l); pairs = h.pairs; on = h.on; there = ap (λ o. or_empty (lines_after bs o)) e ∙ h.there }

    go : (a b : Bool) → leb at (records bs) ≡ a → eqb left 0 ≡ b → Step bs left at
    go false b e f = absurd (false≢true (sym (ap (λ o. is_some (lines_after bs o)) (chain-out bs left at n (leb-false at (records bs) e))) ∙ s))
    go true true e f = absurd (false≢true (sym (ap (λ o. is_some (lines_after bs o)) (chain-long bs left at n (eqb-true left 0 f))) ∙ s))
    go true false e f = found (eqb-false left 0 f) (chain_next bs left at n (leb-true at (records bs) e) (eqb-false left 0 f))

-- ---- whether a run goes on

pub record Seeking (bs : List ℕ) (many start run left at : ℕ) : Type 0 where
  pub readable : is_some (lines_from bs left at) ≡ true
  pub is : not (none_of run (ahead bs left at)) ≡ not (none_of run (ahead bs many start))

module _ {bs : List ℕ} {many start run left at : ℕ} (c : Seeking bs many start run left at) where
  pub seeking-left : (at ≡ 0 → ⊥) → 1 ≤ left
  seeking-left n = (ahead_step bs left at n c.readable).more

  pub seeking-end : at ≡ 0 → false ≡ not (none_of run (ahead bs many start))
  unfolding none_of
  seeking-end z = sym (ap (λ ls. not (none_of run ls)) (ahead-end bs left at z)) ∙ c.is

  module _ (r : Record) (n : at ≡ 0 → ⊥) (e : r ≡ record_at bs at) where
    seeking-next : not (not (eqb r.run run) && none_of run (ahead bs (left - 1) r.next)) ≡ not (none_of run (ahead bs many start))
    unfolding none_of
    seeking-next =
        ap (λ (x : Record). not (not (eqb x.run run) && none_of run (ahead bs (left - 1) x.next))) e
        ∙ sym (ap (λ ls. not (none_of run ls)) (ahead_step bs left at n c.readable).there) ∙ c.is

    pub seeking-found : r.run ≡ run → true ≡ not (none_of run (ahead bs many start))
    seeking-found f = ap (λ b. not (not b && none_of run (ahead bs (left - 1) r.next))) (sym (eq-eqb r.run run f)) ∙ seeking-next

    pub seeking-more : (r.run ≡ run → ⊥) → Seeking bs many start run (left - 1) r.next
    seeking-more f = record {
      readable = ap (λ (x : Record). is_some (lines_from bs (left - 1) x.next)) e ∙ (ahead_step bs left at n c.readable).on;
      is = ap (λ b. not (not b && none_of run (ahead bs (left - 1) r.next))) (sym (ne_eqb r.run run f)) ∙ seeking-next;
    }

-- ---- whether all is in order

-- A record is proper and, if it is a commit, no line after it is of its run.
unfoldable pub in_order : Record → List Line → Bool
in_order r ls = proper (line_of r []) && (not (eqb r.code 255) || none_of r.run ls)

unfoldable pub all_in_order : List Line → Bool
all_in_order ls = all_proper ls && all_end ls

regrouped : (a b c d : Bool) → ((a && b) && (c && d)) ≡ ((a && c) && (b && d))
regrouped true true c d = refl
regrouped true false true d = refl
regrouped true false false d = refl
regrouped false b c d = refl

-- Neither test looks at a line's list.
in-order-next : (r : Record) (ps : List Pair) (ls : List Line) → all_in_order (line_of r ps ∷ ls) ≡ (in_order r ls && all_in_order ls)
unfolding in_order all_in_order all_proper all_end proper
in-order-next r ps ls = regrouped (proper (line_of r ps)) (all_proper ls) (not (eqb r.code 255) || none_of r.run ls) (all_end ls)

pub record Going (bs : List ℕ) (left at : ℕ) : Type 0 where
  pub readable : is_some (lines_from bs left at) ≡ true
  pub is : all_in_order (ahead bs left at) ≡ (all_proper (said bs) && all_end (said bs))

pub going_start : (bs : List ℕ) → is_some (lines bs) ≡ true → Going bs (records bs) 1
unfolding lines lines_from ahead all_in_order
going_start bs s = go (whole bs) refl s
  where
    go : (b : Bool) → whole bs ≡ b → is_some (cond b (lines_from bs (records bs) 1) none) ≡ true → Going bs (records bs) 1
    go true e h = record { readable = h; is = ap (λ b. let ls = or_empty (cond b (lines_from bs (records bs) 1) none) in all_proper ls && all_end ls) (sym e) }
    go false e h = absurd (false≢true h)

module _ {bs : List ℕ} {left at : ℕ} (c : Going bs left at) where
  pub going-left : (at ≡ 0 → ⊥) → 1 ≤ left
  going-left n = (ahead_step bs left at n c.readable).more

  pub going_end : at ≡ 0 → true ≡ (all_proper (said bs) && all_end (said bs))
  unfolding all_in_order all_proper all_end
  going_end z = sym (ap all_in_order (ahead-end bs left at z)) ∙ c.is

  module _ (r : Record) (n : at ≡ 0 → ⊥) (e : r ≡ record_at bs at) where
    pub going_on : is_some (lines_from bs (left - 1) r.next) ≡ true
    going_on = ap (λ (x : Record). is_some (lines_from bs (left - 1) x.next)) e ∙ (ahead_step bs left at n c.readable).on

    module _ (b : Bool) (t : b ≡ in_order r (ahead bs (left - 1) r.next)) where
      going_next : (b && all_in_order (ahead bs (left - 1) r.next)) ≡ (all_proper (said bs) && all_end (said bs))
      going_next =
          let s = ahead_step bs left at n c.readable in
          ap (λ x. x && all_in_order (ahead bs (left - 1) r.next)) t
          ∙ ap (λ (x : Record). in_order x (ahead bs (left - 1) x.next) && all_in_order (ahead bs (left - 1) x.next)) e
          ∙ sym (in-order-next (record_at bs at) s.pairs (ahead bs (left - 1) (record_at bs at).next)) ∙ sym (ap all_in_order s.there) ∙ c.is

      pub going-no : b ≡ false → false ≡ (all_proper (said bs) && all_end (said bs))
      going-no f = ap (λ x. x && all_in_order (ahead bs (left - 1) r.next)) (sym f) ∙ going_next

      pub going_more : b ≡ true → Going bs (left - 1) r.next
      going_more f = record { readable = going_on; is = ap (λ x. x && all_in_order (ahead bs (left - 1) r.next)) (sym f) ∙ going_next }
