-- The turns of the loops over the session table.
use mathlib.Core.Path.{◌≡◌, refl, sym, ap, ◌∙◌}
use mathlib.Core.List.{List}
use mathlib.Core.Bool.{Bool, true, false, cond, not, ◌||◌, true≢false}
use Prim.Native.Nat.{ℕ, zero, suc, ◌+◌, ◌-◌, ◌≤◌, ◌<◌}
use native.Mathlib.Omega.{arith}
use lib.Dec.{eqb}
use lib.ListN.{get_or, take, drop}
use Rattle.std.proofs.lemmas.List.{get_or-take}
use Rattle.std.proofs.lemmas.Grind.{get_or_after_one}
use borrow.Author.Tests.{eq-eqb, ne_eqb, eqb-true}
use Rattle.sessions.specs.declared.Session.{Session}
use Rattle.sessions.specs.Sessions.{session_at, idle_session}
use Rattle.std.specs.Prelude.{Result, Ok, Err}
use Rattle.marks.specs.Trail.{Turn, Trail, ends, then_trail, Ends, Turned, turned, turned_as, trail-as, trail-err, ended-as, go-end}
use Rattle.undo_chains.specs.UndoChains.{undos_from}
use Rattle.standing.specs.Standing.{party_ok}
use Rattle.parties.specs.Parties.{parties_from, mark_ok, marks_from, one_at_node, standing_from, some_undo, has_undos, undos_of, all_undos}

one_less : (k : ℕ) → 0 < k → k ≡ suc (k - 1)
one_less k h = omega arith

-- ---- the parties that stand right

-- what is left of the table, done, gives the whole
pub record Standing (whole : Turn (List ℕ)) (s seen : List ℕ) (m r : ℕ) (t : List Session) (tally : List ℕ) (p rest : ℕ) : Type 0 where
  pub is : parties_from s seen m r t tally p rest ≡ whole

module _ {whole : Turn (List ℕ)} {s seen : List ℕ} {m r : ℕ} {t : List Session} {tally : List ℕ} {p : ℕ} where
  pub stand-bad : {rest : ℕ} {b : Bool} {k : List ℕ} → Standing whole s seen m r t tally p rest → 0 < rest
      → Turned (party_ok s seen m r p (session_at t p) tally) b k → b ≡ false → Turned whole false k
  unfolding parties_from
  stand-bad {rest} g h q o = turned ((simp (turned_as q o) at (ap (parties_from s seen m r t tally p) (sym (one_less rest h)))) ∙ g.is)

  pub stand-more : {rest rest' : ℕ} {b : Bool} {k : List ℕ} → Standing whole s seen m r t tally p rest → 0 < rest
      → Turned (party_ok s seen m r p (session_at t p) tally) b k → b ≡ true → rest' ≡ rest - 1 → Standing whole s seen m r t k (p + 1) rest'
  unfolding parties_from
  stand-more {rest} {rest'} {b} {k} g h q o z =
      record {
        is = ap (parties_from s seen m r t k (p + 1)) z
            ∙ ((simp (turned_as q o) at (ap (parties_from s seen m r t tally p) (sym (one_less rest h)))) ∙ g.is);
      }

  pub stand-end : {rest : ℕ} → Standing whole s seen m r t tally p rest → rest ≡ 0 → Turned whole true tally
  unfolding parties_from
  stand-end {rest} g e = turned (ap (parties_from s seen m r t tally p) (sym e) ∙ g.is)

-- ---- the parties that may be asked

-- what is left of the table, done, gives the whole
pub record Marking (whole : Bool) (t : List Session) (p rest : ℕ) : Type 0 where
  pub is : marks_from t p rest ≡ whole

mark-turn : (t : List Session) (p rest : ℕ) → 0 < rest → marks_from t p rest ≡ cond (mark_ok p (session_at t p)) (marks_from t (p + 1) (rest - 1)) false
unfolding marks_from
mark-turn t p rest h = ap (marks_from t p) (one_less rest h)

module _ {whole : Bool} {t : List Session} {p : ℕ} where
  pub mark-bad : {rest : ℕ} {b : Bool} → Marking whole t p rest → 0 < rest → b ≡ mark_ok p (session_at t p) → b ≡ false → false ≡ whole
  mark-bad {rest} {b} g h q o = sym (mark-turn t p rest h ∙ ap (λ z. cond z (marks_from t (p + 1) (rest - 1)) false) (sym q ∙ o)) ∙ g.is

  pub mark-more : {rest rest' : ℕ} {b : Bool} → Marking whole t p rest → 0 < rest → b ≡ mark_ok p (session_at t p) → b ≡ true → rest' ≡ rest - 1 → Marking whole t (p + 1) rest'
  mark-more {rest} {rest'} {b} g h q o z = record { is = ap (marks_from t (p + 1)) z ∙ sym (mark-turn t p rest h ∙ ap (λ z. cond z (marks_from t (p + 1) (rest - 1)) false) (sym q ∙ o)) ∙ g.is }

  pub mark-end : {rest : ℕ} → Marking whole t p rest → rest ≡ 0 → true ≡ whole
  unfolding marks_from
  mark-end {rest} g e = ap (marks_from t p) (sym e) ∙ g.is

-- ---- the parties at a node

-- so many before p, and those from p on, are the whole
pub record Counting (whole : ℕ) (t : List Session) (n p rest : ℕ) : Type 0 where
  pub is : n + standing_from t p rest ≡ whole

pub one-le : (s : Session) {n : ℕ} → n ≡ one_at_node s → n ≤ 1
unfolding one_at_node
one-le s {n} e = go (eqb s.stage 3) e
  where
    go : (b : Bool) → n ≡ cond b 1 0 → n ≤ 1
    go true e = omega arith
    go false e = omega arith

module _ {whole : ℕ} {t : List Session} {n p rest : ℕ} where
  pub count-more : {j rest' : ℕ} → Counting whole t n p rest → 0 < rest → j ≡ one_at_node (session_at t p) → rest' ≡ rest - 1
      → Counting whole t (n + j) (p + 1) rest'
  unfolding standing_from
  count-more {j} {rest'} g h e z =
      let q : standing_from t p rest ≡ j + standing_from t (p + 1) rest' =
      ap (standing_from t p) (one_less rest h) ∙ rw (e, z) refl in
      let w = g.is in record { is = omega arith }

  pub count-end : Counting whole t n p rest → rest ≡ 0 → n ≡ whole
  unfolding standing_from
  count-end g e = let q : standing_from t p rest ≡ 0 = ap (standing_from t p) e in let w = g.is in omega arith

-- ---- whether some session has an undo record

-- what is left of the table says what the whole says
pub record Seeking (whole : Bool) (t : List Session) (p rest : ℕ) : Type 0 where
  pub is : some_undo t p rest ≡ whole

-- the sessions, without the housekeeper before them
pub behind : (t : List Session) (n k : ℕ) → k < n → get_or (take n (drop 1 t)) k idle_session ≡ session_at t (1 + k)
behind t n k h = get_or-take n (drop 1 t) k idle_session h ∙ get_or_after_one t k idle_session

module _ {whole : Bool} {t : List Session} {p rest : ℕ} (g : Seeking whole t p rest) where
  pub seek_found : {x : Session} → 0 < rest → x ≡ session_at t p → (x.undo ≡ 0 → ⊥) → true ≡ whole
  unfolding some_undo
  seek_found h e n =
      (simp (ne_eqb (session_at t p).undo 0 (λ z. n (ap (λ (y : Session). y.undo) e ∙ z))) at (ap (some_undo t p) (sym (one_less rest h)))) ∙ g.is

  pub seek-more : {x : Session} {p' rest' : ℕ} → 0 < rest → x ≡ session_at t p → x.undo ≡ 0 → p' ≡ p + 1 → rest' ≡ rest - 1 → Seeking whole t p' rest'
  unfolding some_undo
  seek-more {x} {p'} {rest'} h e n q z =
      record {
        is = ap (λ (k : ℕ). some_undo t k rest') q
            ∙ ap (some_undo t (p + 1)) z
            ∙ ((simp (eq-eqb (session_at t p).undo 0 (ap (λ (y : Session). y.undo) (sym e) ∙ n)) at (ap (some_undo t p) (sym (one_less rest h)))) ∙ g.is);
      }

  pub seek-end : rest ≡ 0 → false ≡ whole
  unfolding some_undo
  seek-end e = ap (some_undo t p) (sym e) ∙ g.is

-- ---- the chains of undo records

-- what is left of the chains, done, gives the whole
pub record Taking (whole : Trail (List ℕ)) (s : List ℕ) (m r : ℕ) (t : List Session) (seen f : List ℕ) (left p rest : ℕ) : Type 0 where
  pub is : undos_of s m r t seen f left p rest ≡ whole

module _ {whole : Trail (List ℕ)} {s : List ℕ} {m r : ℕ} {t : List Session} {seen f : List ℕ} {left p : ℕ} where
  take-as : {rest : ℕ} {v : Trail (List ℕ)} → Taking whole s m r t seen f left p rest → 0 < rest → undos_from s m r p seen f (session_at t p).undo left ≡ v
      → then_trail v (λ u. undos_of s m r t u.seen u.held u.left (p + 1) (rest - 1)) ≡ whole
  unfolding undos_of
  take-as {rest} g h e =
      ap (λ (x : Trail (List ℕ)). then_trail x (λ u. undos_of s m r t u.seen u.held u.left (p + 1) (rest - 1))) (sym e)
      ∙ ap (undos_of s m r t seen f left p) (sym (one_less rest h)) ∙ g.is

  pub take-bad : {rest n : ℕ} {w : Result ℕ ℕ} {seen' f' : List ℕ} → Taking whole s m r t seen f left p rest → 0 < rest
      → Ends _ (undos_from s m r p seen f (session_at t p).undo left) w seen' f' → w ≡ Err n → Ends _ whole (Err n) seen' f'
  take-bad g h k o = ended-as (take-as g h (trail-err k o))

  pub take_more : {rest rest' n : ℕ} {w : Result ℕ ℕ} {seen' f' : List ℕ} → Taking whole s m r t seen f left p rest → 0 < rest
      → Ends _ (undos_from s m r p seen f (session_at t p).undo left) w seen' f' → w ≡ Ok n → rest' ≡ rest - 1
      → Taking whole s m r t seen' f' n (p + 1) rest'
  take_more {rest} {rest'} {n} {w} {seen'} {f'} g h k o z =
      record { is = ap (undos_of s m r t seen' f' n (p + 1)) z ∙ take-as g h (trail-as k o) }

  pub take-end : {rest : ℕ} → Taking whole s m r t seen f left p rest → rest ≡ 0 → Ends _ whole (Ok left) seen f
  unfolding undos_of
  take-end {rest} g e = ended-as (ap (undos_of s m r t seen f left p) (sym e) ∙ g.is)

-- ---- no session has one

module _ (s : List ℕ) (m r : ℕ) (t : List Session) (seen f : List ℕ) (left : ℕ) where
  chain-none : (p : ℕ) → (session_at t p).undo ≡ 0 → undos_from s m r p seen f (session_at t p).undo left ≡ ends true left seen f
  unfolding undos_from
  chain-none p e = trail-as (go-end (record { is = refl }) e) refl

  chains-none : (n p : ℕ) → some_undo t p n ≡ false → undos_of s m r t seen f left p n ≡ ends true left seen f
  unfolding some_undo undos_of
  chains-none zero p e = refl
  chains-none (suc n) p e = go (eqb (session_at t p).undo 0) refl e (chains-none n (p + 1))
    where
      go : (b : Bool) → eqb (session_at t p).undo 0 ≡ b → not b || some_undo t (p + 1) n ≡ false
          → (some_undo t (p + 1) n ≡ false → undos_of s m r t seen f left (p + 1) n ≡ ends true left seen f) → undos_of s m r t seen f left p (suc n) ≡ ends true left seen f
      go true q e k = simp (chain-none p (eqb-true (session_at t p).undo 0 q)) (k e)
      go false q e k = absurd (true≢false e)

  pub undos-none : has_undos t ≡ false → all_undos s m r t seen f left ≡ ends true left seen f
  unfolding has_undos all_undos
  undos-none e = chains-none _ 1 e
