-- The turns of the loops over a group's members and undo records, and the two ways through a group.
use mathlib.Core.Path.{◌≡◌, sym, ap, ◌∙◌}
use mathlib.Core.List.{List}
use mathlib.Core.Bool.{Bool, true, false}
use Prim.Native.Nat.{ℕ, zero, suc, ◌+◌, ◌-◌, ◌≤◌, ◌<◌}
use native.Mathlib.Omega.{arith}
use lib.ListN.{get_or}
use borrow.Author.Tests.{eq-eqb, ne_eqb, le-leb, lt-leb}
use Rattle.std.specs.Prelude.{Result, Ok, Err}
use Rattle.groups.specs.Descriptor.{descriptor_at}
use Rattle.marks.specs.Marks.{left_if}
use Rattle.marks.specs.Trail.{Turn, Trail, turn, Ends, Turned, turned, turned_as, ok-of, err-of}
use Rattle.lists.specs.Lists.{member_one, Held, holding, member_turn, members_from, Listed, undo_one, undo_from, after_members, group_lists}

-- ---- members

pub member-turned : (s : List ℕ) (m d : ℕ) (seen l : List ℕ) (i before : ℕ) {b c : Bool} {l' : List ℕ} → Turned (member_one s l m d i before) b l' → b ≡ c
    → member_turn s m d seen (holding l before) i ≡ turn c (holding l' i)
unfolding member_turn
member-turned s m d seen l i before t o = ap (λ (x : Turn (List ℕ)). turn x.ok (holding x.held i)) (turned_as t o)

pub listed : {v : Trail Held} {w : Result ℕ ℕ} {seen l : List ℕ} {b : ℕ} → Ends Held v w seen (holding l b) → Listed v w seen l
listed e = record { left = e.left; marks = e.marks; list = ap (λ (h : Held). h.list) e.held }

-- ---- undoing

-- what is left of undoing, done, gives the whole
pub record Undoing (whole : Turn (List ℕ)) (s f : List ℕ) (m r d : ℕ) (l : List ℕ) (i more : ℕ) : Type 0 where
  pub is : undo_from s f m r d l i more ≡ whole

one_less : (k : ℕ) → (k ≡ 0 → ⊥) → k ≡ suc (k - 1)
one_less k h = omega arith

module _ {whole : Turn (List ℕ)} {s f : List ℕ} {m r d : ℕ} {l : List ℕ} {i : ℕ} where
  pub undo-end : {more : ℕ} → Undoing whole s f m r d l i more → i ≡ 0 → Turned whole true l
  unfolding undo_from
  undo-end {more} g e = turned (sym (at-end more) ∙ g.is)
    where
      at-end : (k : ℕ) → undo_from s f m r d l i k ≡ turn true l
      at-end zero = simp (eq-eqb i 0 e)
      at-end (suc k) = simp (eq-eqb i 0 e)

  pub undo-out : {more : ℕ} → Undoing whole s f m r d l i more → (i ≡ 0 → ⊥) → more ≡ 0 → Turned whole false l
  unfolding undo_from
  undo-out {more} g ne e = turned ((simp (ne_eqb i 0 ne) at (ap (undo_from s f m r d l i) (sym e))) ∙ g.is)

  pub undo-past : {more : ℕ} → Undoing whole s f m r d l i more → (i ≡ 0 → ⊥) → (more ≡ 0 → ⊥) → r < i → Turned whole false l
  unfolding undo_from
  undo-past {more} g ne nm h = turned ((simp (ne_eqb i 0 ne, lt-leb i r h) at (ap (undo_from s f m r d l i) (sym (one_less more nm)))) ∙ g.is)

  pub undo-bad : {more : ℕ} {b : Bool} {l' : List ℕ} → Undoing whole s f m r d l i more → (i ≡ 0 → ⊥) → (more ≡ 0 → ⊥) → i ≤ r
      → Turned (undo_one s l m d i) b l' → b ≡ false → Turned whole false l'
  unfolding undo_from
  undo-bad {more} g ne nm h t o =
      turned ((simp (ne_eqb i 0 ne, le-leb i r h, turned_as t o) at (ap (undo_from s f m r d l i) (sym (one_less more nm)))) ∙ g.is)

  pub undo-more : {more j : ℕ} {b : Bool} {l' : List ℕ} → Undoing whole s f m r d l i more → (i ≡ 0 → ⊥) → (more ≡ 0 → ⊥) → i ≤ r
      → Turned (undo_one s l m d i) b l' → b ≡ true → j ≡ get_or f (8194 + i) 0 → Undoing whole s f m r d l' j (more - 1)
  unfolding undo_from
  undo-more {more} {j} {b} {l'} g ne nm h t o e =
      record {
        is = ap (λ (x : ℕ). undo_from s f m r d l' x (more - 1)) e
            ∙ ((simp (ne_eqb i 0 ne, le-leb i r h, turned_as t o) at (ap (undo_from s f m r d l i) (sym (one_less more nm)))) ∙ g.is);
      }

-- ---- a group

module _ (s f : List ℕ) (m r d : ℕ) (seen₀ l₀ : List ℕ) (left : ℕ) {first : ℕ} {w : Result ℕ ℕ} {seen l : List ℕ} where
  pub lists-stop : {n : ℕ} → first ≡ (descriptor_at s m d).first → Listed (members_from s m r d seen₀ l₀ first left) w seen l → w ≡ Err n
      → Ends _ (group_lists s f m r seen₀ l₀ d left) (Err n) seen l
  unfolding group_lists after_members
  lists-stop {n} e k o =
      let p = err-of _ _ n k.left o in rw (← e, p.0) (record { left = ap (left_if false) (sym p.1); marks = k.marks; held = k.list })

  pub lists-run : {n : ℕ} {b : Bool} {l' : List ℕ} {undo : ℕ} {u : Result ℕ ℕ} → first ≡ (descriptor_at s m d).first → Listed (members_from s m r d seen₀ l₀ first left) w seen l
      → w ≡ Ok n → undo ≡ get_or f (4097 + d) 0 → Turned (undo_from s f m r d l undo r) b l' → u ≡ left_if b n → Ends _ (group_lists s f m r seen₀ l₀ d left) u seen l'
  unfolding group_lists after_members
  lists-run {n} {b} e k o q t z =
      let p = ok-of _ _ n k.left o in
      rw (← e, p.0, sym k.list, ← q)
      (record { left = z ∙ ap (λ (x : Bool). left_if x n) t.ok ∙ ap (left_if _) (sym p.1); marks = k.marks; held = t.held })
