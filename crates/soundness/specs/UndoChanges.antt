-- One session's chain of undo records can be undone, newest first, exactly if the records of each cell can.
use Rattle.std.specs.Prelude.{◌≡◌, refl, Bool, true, false, cond, not, ◌&&◌, List, [], ◌∷◌, map, ℕ, eqb}
use Rattle.std.proofs.Common.{sym, ap, subst, ◌∙◌, arith, eq-eqb, ne_eqb, eqb-true}
use Rattle.std.proofs.Math.Decide.{ℕ_discrete}
use Rattle.std.proofs.lemmas.Bool.{eqb-false, not-true, not-false}
use Rattle.words.specs.Store.{word_of}
use Rattle.sessions.specs.declared.Session.{Session}
use Rattle.machine.specs.State.{Undo, State}
use Rattle.machine.specs.Holders.{elem}
use Rattle.machine.specs.Groups.{Rises}
use Rattle.machine.specs.Housekeeping.{lvs}
use Rattle.machine.specs.Sound.{Cells, cells, set_cell, Undoable}
use Rattle.meaning.specs.Reading.{Chained, member_chain, undo_at, M-of, R-of, meaning}
use Rattle.meaning.specs.Sound.{All, leaves_of, record_of, Lists, lists, set_list, UndoWords}
use Rattle.soundness.specs.MembersHeld.{member-listed}
use Rattle.soundness.specs.UndoLeaves.{key_at}
use Rattle.soundness.specs.UndoCells.{kind_of, entry-of, saved_of, group_of, changes, cell, Finds, puts, Fits, fit-one, one-fits, cell-of, own-cell}
use Rattle.soundness.specs.UndoNeeds.{Stored, Secured, Sort, writes, adds, takes, sort, range-meant, stored-named, group-meant, secured-holding}

module _ (s : List ℕ) where
  abbrev m : ℕ
  m = M-of s

  abbrev r : ℕ
  r = R-of s

  -- By key and by record the same entries are listed.
  abbrev pub Alike : Cells → Lists → Type 0
  Alike c g = (d : ℕ) → Stored s d → (e : ℕ) → c (key_at s m d) e ≡ not (eqb (g d e) 0)

  -- The records of each cell can be undone.
  abbrev pub EachFits : List ℕ → Lists → Type 0
  EachFits l g = (d : ℕ) → Stored s d → (e : ℕ) → Fits s m (cell s m d e l) (g d e)

  module _ (t : List Session) (lo hi : ℕ) (rises : Rises lo hi (lvs (meaning s t))) where
    abbrev σ : State
    σ = meaning s t

    -- ---- the cells while a chain is undone

    -- So it is in the meaning, where each chain of members ends.
    pub alike-meant : ((d : ℕ) → Stored s d → Chained s m (word_of s m d 6) (member_chain s m r d)) → Alike (cells σ) (lists s)
    alike-meant ends d w e = ap (elem e) (group-meant s t lo hi rises d w) ∙ member-listed s m r d e (ends d w)

    same_key : (c d : ℕ) → Stored s c → Stored s d → eqb (key_at s m c) (key_at s m d) ≡ eqb c d
    same_key c d v w = go (ℕ_discrete c d)
      where
        go : Dec (c ≡ d) → eqb (key_at s m c) (key_at s m d) ≡ eqb c d
        go (yes e) = eq-eqb (key_at s m c) (key_at s m d) (ap (key_at s m) e) ∙ sym (eq-eqb c d e)
        go (no n) =
            ne_eqb (key_at s m c) (key_at s m d) (λ z. n (sym (stored-named s t lo hi rises c v) ∙ ap (λ x. record_of x (leaves_of s)) z ∙ stored-named s t lo hi rises d w))
            ∙ sym (ne_eqb c d n)

    alike_set : (c : Cells) (g : Lists) → Alike c g → (d : ℕ) → Stored s d → (e v : ℕ) (b : Bool) → b ≡ not (eqb v 0) → Alike (set_cell (key_at s m d) e b c) (set_list d e v g)
    alike_set c g a d w e v b q x y f =
        ap (λ o. cond o (cond (eqb f e) b (c (key_at s m x) f)) (c (key_at s m x) f)) (same_key x d y w) ∙ go (eqb x d) (eqb f e)
      where
        go : (o u : Bool) → cond o (cond u b (c (key_at s m x) f)) (c (key_at s m x) f) ≡ not (eqb (cond o (cond u v (g x f)) (g x f)) 0)
        go true true = q
        go true false = a x y f
        go false u = a x y f

    -- Who is listed when record i is undone.
    abbrev next_lists : ℕ → Lists → Lists
    next_lists i g = cond (eqb (kind_of s m i) 1) g (set_list (group_of s m i) (entry-of s m i) (puts s m i) g)

    next-change : (i : ℕ) (g : Lists) → ¬ (kind_of s m i ≡ 1) → next_lists i g ≡ set_list (group_of s m i) (entry-of s m i) (puts s m i) g
    next-change i g n = ap (λ o. cond o g (set_list (group_of s m i) (entry-of s m i) (puts s m i) g)) (ne_eqb (kind_of s m i) 1 n)

    next-cell : (i : ℕ) (g : Lists) (d e : ℕ) → next_lists i g d e ≡ cond (changes s m d e i) (puts s m i) (g d e)
    next-cell i g d e = go (eqb (kind_of s m i) 1) (ℕ_discrete d (group_of s m i))
      where
        v : ℕ
        v = puts s m i

        go : (o : Bool) → Dec (d ≡ group_of s m i)
            → cond o g (set_list (group_of s m i) (entry-of s m i) v g) d e ≡ cond (not o && eqb (group_of s m i) d && eqb e (entry-of s m i)) v (g d e)
        go true q = refl
        go false (yes q) = rw (eq-eqb d (group_of s m i) q, eq-eqb (group_of s m i) d (sym q)) refl
        go false (no q) = rw (ne_eqb d (group_of s m i) q, ne_eqb (group_of s m i) d (λ z. q (sym z))) refl

    module _ (p i : ℕ) (nz : ¬ (i ≡ 0)) (S : Secured s p i) (us : List Undo) (g : Lists) (c : Cells) (a : Alike c g) where
      abbrev d : ℕ
      d = group_of s m i

      abbrev e : ℕ
      e = entry-of s m i

      alike_next : ¬ (kind_of s m i ≡ 1) → (b : Bool) → b ≡ not (eqb (puts s m i) 0) → Alike (set_cell (key_at s m d) e b c) (next_lists i g)
      alike_next n b q = subst (Alike (set_cell (key_at s m d) e b c)) (sym (next-change i g n)) (alike_set c g a d (S.group n).stored e (puts s m i) b q)

      added-left : kind_of s m i ≡ 2 → false ≡ not (eqb (puts s m i) 0)
      added-left k = sym (ap not (eq-eqb (puts s m i) 0 (ap (λ o. cond o 0 i) (eq-eqb (kind_of s m i) 2 k))))

      taken-left : ¬ (kind_of s m i ≡ 2) → true ≡ not (eqb (puts s m i) 0)
      taken-left k = sym (ap not (ne_eqb (puts s m i) 0 (λ z. nz (sym (ap (λ o. cond o 0 i) (ne_eqb (kind_of s m i) 2 k)) ∙ z))))

      listed : ¬ (kind_of s m i ≡ 1) → (b : Bool) → c (key_at s m d) e ≡ b → not (eqb (g d e) 0) ≡ b
      listed n b q = sym (a d (S.group n).stored e) ∙ q

      -- The first of a chain is undone, and the rest can be.
      record Opened : Type 0 where
        cells_then : Cells
        alike : Alike cells_then (next_lists i g)
        rest : Undoable p σ us cells_then
        back : ¬ (kind_of s m i ≡ 1) → Finds s m i (g d e)

      opened : (kind_of s m i ≡ 2 → g d e ≡ saved_of s m i) → Undoable p σ (undo_at s m i ∷ us) c → Opened
      opened f u = go (sort s t i)
        where
          go : Sort s t i → Opened
          go (writes k q) = record {
            cells_then = c;
            alike = subst (Alike c) (sym (ap (λ o. cond o g (set_list d e (puts s m i) g)) (eq-eqb (kind_of s m i) 1 k))) a;
            rest = (subst (λ x. Undoable p σ (x ∷ us) c) q u).2;
            back = λ n. absurd (n k);
          }
          go (adds n k q) =
              let v = subst (λ x. Undoable p σ (x ∷ us) c) q u in
              let some : ¬ (g d e ≡ 0) = eqb-false (g d e) 0 (not-true (eqb (g d e) 0) (listed n true v.1)) in
              record {
                cells_then = set_cell (key_at s m d) e false c;
                alike = alike_next n false (added-left k);
                rest = v.2;
                back = λ z. (λ y. (f k, λ x. some (f k ∙ x)), λ y. absurd (y k));
              }
          go (takes n k q) =
              let v = subst (λ x. Undoable p σ (x ∷ us) c) q u in
              record {
                cells_then = set_cell (key_at s m d) e true c;
                alike = alike_next n true (taken-left k);
                rest = v.2;
                back = λ z. (λ y. absurd (k y), λ y. eqb-true (g d e) 0 (not-false (eqb (g d e) 0) (listed n false v.1)));
              }

      closed : (¬ (kind_of s m i ≡ 1) → Finds s m i (g d e)) → ((b : Cells) → Alike b (next_lists i g) → Undoable p σ us b) → Undoable p σ (undo_at s m i ∷ us) c
      closed b f = go (sort s t i)
        where
          go : Sort s t i → Undoable p σ (undo_at s m i ∷ us) c
          go (writes k q) =
              let x = range-meant s t p e S.entry S.excluded in
              subst (λ x. Undoable p σ (x ∷ us) c) (sym q)
              (x.1, x.0, f c (subst (Alike c) (sym (ap (λ o. cond o g (set_list d e (puts s m i) g)) (eq-eqb (kind_of s m i) 1 k))) a))
          go (adds n k q) =
              let v = (b n).0 k in
              subst (λ x. Undoable p σ (x ∷ us) c) (sym q)
              (secured-holding s t lo hi rises p i S n, a d (S.group n).stored e ∙ ap not (ne_eqb (g d e) 0 (λ z. v.1 (sym v.0 ∙ z))), f _ (alike_next n false (added-left k)))
          go (takes n k q) =
              subst (λ x. Undoable p σ (x ∷ us) c) (sym q)
              (secured-holding s t lo hi rises p i S n, a d (S.group n).stored e ∙ ap not (eq-eqb (g d e) 0 ((b n).1 k)), f _ (alike_next n true (taken-left k)))

    -- ---- a chain

    pub words-fit : (p : ℕ) (l : List ℕ) (g : Lists) (c : Cells) → All (λ i. ¬ (i ≡ 0)) l → All (Secured s p) l → Alike c g
        → UndoWords s l g → Undoable p σ (map (undo_at s m) l) c → EachFits l g
    words-fit p [] g c nz a k w u d v e = tt
    words-fit p (i ∷ l) g c nz a k w u d v e =
        let o = opened p i nz.0 a.0 (map (undo_at s m) l) g c k w.2 u in
        let rest = words-fit p l (next_lists i g) o.cells_then nz.1 a.1 o.alike w.3 o.rest d v e in
        fit-one s m i (cell s m d e l) (g d e) (changes s m d e i) (λ z. here o (cell-of s m d e i z)) (subst (Fits s m (cell s m d e l)) (next-cell i g d e) rest)
      where
        here : Opened p i nz.0 a.0 (map (undo_at s m) l) g c k → ¬ (kind_of s m i ≡ 1) × (group_of s m i ≡ d) × (e ≡ entry-of s m i) → Finds s m i (g d e)
        here o q = subst (λ x. Finds s m i (g x e)) q.1 (subst (λ x. Finds s m i (g (group_of s m i) x)) (sym q.2) (o.back q.0))

    fits-first : (p i : ℕ) (l : List ℕ) (g : Lists) → Secured s p i → EachFits (i ∷ l) g → ¬ (kind_of s m i ≡ 1) → Finds s m i (g (group_of s m i) (entry-of s m i))
    fits-first p i l g S f n =
        (one-fits s m i (cell s m (group_of s m i) (entry-of s m i) l) (g (group_of s m i) (entry-of s m i)) (changes s m (group_of s m i) (entry-of s m i) i)
        (f (group_of s m i) (S.group n).stored (entry-of s m i))).0 (own-cell s m i n)

    fits-behind : (i : ℕ) (l : List ℕ) (g : Lists) → EachFits (i ∷ l) g → EachFits l (next_lists i g)
    fits-behind i l g f d w e =
        subst (Fits s m (cell s m d e l)) (sym (next-cell i g d e)) (one-fits s m i (cell s m d e l) (g d e) (changes s m d e i) (f d w e)).1

    pub fit_words : (p : ℕ) (l : List ℕ) (g : Lists) → All (Secured s p) l → EachFits l g → UndoWords s l g
    fit_words p [] g a f = tt
    fit_words p (i ∷ l) g a f = (
      a.0.kind,
      λ n. sym (stored-named s t lo hi rises (group_of s m i) (a.0.group n).stored),
      λ k. ((fits-first p i l g a.0 f (λ z. omega (arith, k, z))).0 k).0,
      fit_words p l (next_lists i g) a.1 (fits-behind i l g f),
    )

    pub fit-undoable : (p : ℕ) (l : List ℕ) (g : Lists) (c : Cells) → All (λ i. ¬ (i ≡ 0)) l → All (Secured s p) l → Alike c g → EachFits l g
        → Undoable p σ (map (undo_at s m) l) c
    fit-undoable p [] g c nz a k f = tt
    fit-undoable p (i ∷ l) g c nz a k f =
        closed p i nz.0 a.0 (map (undo_at s m) l) g c k (fits-first p i l g a.0 f)
        (λ b q. fit-undoable p l (next_lists i g) b nz.1 a.1 q (fits-behind i l g f))
