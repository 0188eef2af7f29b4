-- The sessions' chains of undo records: the pass over them is true exactly if each chain ends, its records were not yet met, and each record has what it
-- needs; then the records are filed by descriptor.
use Rattle.std.specs.Prelude.{◌≡◌, Bool, not, ◌&&◌, eqb, leb, get_or, set}
use Rattle.std.proofs.Math.Path.{refl, sym, ap, subst}
use Rattle.std.proofs.Common.{◌∙◌, inl, inr, arith, eq-eqb, ne_eqb, le-leb}
use Rattle.std.proofs.Math.Bool.{true, false, cond}
use mathlib.Core.List.{List, [], ◌∷◌, ◌++◌, append_assoc}
use Prim.Native.Nat.{ℕ, zero, suc, ◌+◌, ◌-◌, ◌≤◌, ◌<◌}
use Rattle.std.proofs.Math.Decide.{ℕ_discrete}
use Rattle.std.proofs.Math.ListN.{length, length-append}
use Rattle.words.specs.Store.{word_of}
use Rattle.undos.specs.Undo.{undo_at, decode_undo}
use Rattle.sessions.specs.declared.Session.{Session}
use Rattle.sessions.specs.Sessions.{session_at}
use Rattle.meaning.specs.Reading.{chain, Chained}
use Rattle.meaning.specs.Sound.{All, Apart, Once}
use Rattle.marks.specs.Marks.{undo_mark, descriptor_mark}
use Rattle.marks.specs.Steps.{no as never}
use Rattle.marks.specs.Trail.{turn, Trail, ends, then_trail, chain_of}
use Rattle.undo_chains.specs.UndoChains.{group_held, undo_ok, file_at, file_undo, undo_turn, undos_from}
use Rattle.parties.specs.Parties.{undos_of}
use Rattle.soundness.specs.Marking.{mark_all, Fresh, mark-append, mark-length, is-met-after, fresh-none, fresh-left, fresh-right, fresh-append, In, not_in, all-as, apart-append}
use Rattle.soundness.specs.Chains.{Along, Turns, Read, chained-found, chained-walks}
use Rattle.soundness.specs.Filing.{Lists, append_to, Record, Files, file-more}

-- ---- filing a list of records

unfoldable pub file_all : List ℕ → ℕ → List ℕ → List ℕ → List ℕ
file_all s m f [] = f
file_all s m f (i ∷ us) = file_all s m (file_undo s f m i) us

-- The records of a list that undo a change in the group of descriptor d.
abbrev pub concerns : List ℕ → ℕ → ℕ → ℕ → Bool
concerns s m d i = not (eqb (undo_at s m i).kind 1) && eqb (undo_at s m i).descriptor d

abbrev pub of_group : List ℕ → ℕ → ℕ → List ℕ → List ℕ
of_group s m d [] = []
of_group s m d (i ∷ us) = cond (concerns s m d i) (i ∷ of_group s m d us) (of_group s m d us)

pub of-append : (s : List ℕ) (m d : ℕ) (a b : List ℕ) → of_group s m d (a ++ b) ≡ of_group s m d a ++ of_group s m d b
of-append s m d [] b = refl
of-append s m d (i ∷ a) b = go (concerns s m d i) (of-append s m d a b)
  where
    go : (c : Bool) → of_group s m d (a ++ b) ≡ of_group s m d a ++ of_group s m d b
        → cond c (i ∷ of_group s m d (a ++ b)) (of_group s m d (a ++ b)) ≡ cond c (i ∷ of_group s m d a) (of_group s m d a) ++ of_group s m d b
    go true e = ap (λ x. i ∷ x) e
    go false e = e

pub files-same : (f : List ℕ) (L K : Lists) → ((d : ℕ) → L d ≡ K d) → Files f L → Files f K
files-same f L K e F = record {
  size = F.size;
  first = λ d r. subst (λ l. Along (λ j. get_or f (8194 + j) 0) (get_or f (4097 + d) 0) l) (e d) (F.first d r);
  last = λ d r. subst (λ l. get_or f d 0 ≡ Rattle.soundness.specs.Filing.last_of l) (e d) (F.last d r);
  small = λ d r. subst (All Record) (e d) (F.small d r);
  once = λ d r. subst Once (e d) (F.once d r);
  apart = λ d c j rd rc n w. subst (Apart j) (e c) (F.apart d c j rd rc n (subst (In j) (sym (e d)) w));
  open_end = λ j r a. F.open_end j r (λ d rd. subst (Apart j) (sym (e d)) (a d rd));
}

module _ (s : List ℕ) (m : ℕ) where
  -- A record names a descriptor, unless it undoes a write.
  abbrev pub Names : ℕ → Type 0
  Names i = ¬ ((undo_at s m i).kind ≡ 1) → Record (undo_at s m i).descriptor

  file-one : (f : List ℕ) (L : Lists) → Files f L → (i : ℕ) → Record i → Names i → ((c : ℕ) → Record c → Apart i (L c))
      → Files (file_undo s f m i) (λ d. L d ++ of_group s m d (i ∷ []))
  unfolding file_undo
  file-one f L F i ri ni new = go (ℕ_discrete (undo_at s m i).kind 1)
    where
      d : ℕ
      d = (undo_at s m i).descriptor

      go : Dec ((undo_at s m i).kind ≡ 1)
          → Files (cond (eqb (undo_at s m i).kind 1) f (cond (leb (undo_at s m i).descriptor 4096) (file_at f (undo_at s m i).descriptor i) f)) (λ c. L c ++ of_group s m c (i ∷ []))
      go (yes q) = subst (λ b. Files (cond b f (cond (leb (undo_at s m i).descriptor 4096) (file_at f (undo_at s m i).descriptor i) f)) (λ c. L c ++ of_group s m c (i ∷ []))) (sym (eq-eqb (undo_at s m i).kind 1 q))
          (files-same f L (λ c. L c ++ of_group s m c (i ∷ [])) (λ c. sym (rw (eq-eqb (undo_at s m i).kind 1 q) (append-none (L c)))) F)
        where
          append-none : (l : List ℕ) → l ++ [] ≡ l
          append-none [] = refl
          append-none (x ∷ l) = ap (λ y. x ∷ y) (append-none l)
      go (no q) =
          let rd = ni q in
          subst (λ b. Files (cond b f (cond (leb (undo_at s m i).descriptor 4096) (file_at f (undo_at s m i).descriptor i) f)) (λ c. L c ++ of_group s m c (i ∷ []))) (sym (ne_eqb (undo_at s m i).kind 1 q))
          (subst (λ b. Files (cond b (file_at f (undo_at s m i).descriptor i) f) (λ c. L c ++ of_group s m c (i ∷ []))) (sym (le-leb (undo_at s m i).descriptor 4096 rd.1))
          (files-same (file_at f (undo_at s m i).descriptor i) (append_to (undo_at s m i).descriptor i L) (λ c. L c ++ of_group s m c (i ∷ [])) (λ c. same c (ℕ_discrete c (undo_at s m i).descriptor))
          (file-more f L F (undo_at s m i).descriptor i rd ri new)))
        where
          append-none : (l : List ℕ) → l ++ [] ≡ l
          append-none [] = refl
          append-none (x ∷ l) = ap (λ y. x ∷ y) (append-none l)

          same : (c : ℕ) → Dec (c ≡ (undo_at s m i).descriptor) → append_to (undo_at s m i).descriptor i L c ≡ L c ++ of_group s m c (i ∷ [])
          same c (yes e) = rw (eq-eqb c (undo_at s m i).descriptor e, ne_eqb (undo_at s m i).kind 1 q, eq-eqb (undo_at s m i).descriptor c (sym e)) refl
          same c (no n) = rw (ne_eqb c (undo_at s m i).descriptor n, ne_eqb (undo_at s m i).kind 1 q, ne_eqb (undo_at s m i).descriptor c (λ e. n (sym e))) (sym (append-none (L c)))

  in_group : (d j : ℕ) (us : List ℕ) → Apart j us → Apart j (of_group s m d us)
  in_group d j [] a = tt
  in_group d j (i ∷ us) a = go (concerns s m d i) (in_group d j us a.1)
    where
      go : (b : Bool) → Apart j (of_group s m d us) → Apart j (cond b (i ∷ of_group s m d us) (of_group s m d us))
      go true w = (a.0, w)
      go false w = w

  -- A list of records, each once and none filed before.
  pub files-all : (us f : List ℕ) (L : Lists) → Files f L → All Record us → All Names us → Once us → ((c : ℕ) → Record c → (j : ℕ) → In j us → Apart j (L c))
      → Files (file_all s m f us) (λ d. L d ++ of_group s m d us)
  unfolding file_all
  files-all [] f L F a n o w = files-same f L (λ d. L d ++ []) (λ d. sym (none (L d))) F
    where
      none : (l : List ℕ) → l ++ [] ≡ l
      none [] = refl
      none (x ∷ l) = ap (λ y. x ∷ y) (none l)
  files-all (i ∷ us) f L F a n o w =
      files-same (file_all s m (file_undo s f m i) us) (λ d. (L d ++ of_group s m d (i ∷ [])) ++ of_group s m d us) (λ d. L d ++ of_group s m d (i ∷ us))
      (λ d. append_assoc (L d) (of_group s m d (i ∷ [])) (of_group s m d us) ∙ ap (λ x. L d ++ x) (sym (of-append s m d (i ∷ []) us)))
      (files-all us (file_undo s f m i) (λ d. L d ++ of_group s m d (i ∷ [])) (file-one f L F i a.0 n.0 (λ c rc. w c rc i (inl refl))) a.1 n.1 o.1
      (λ c rc j v. apart-append j (L c) (of_group s m c (i ∷ [])) (w c rc j (inr v)) (in_group c j (i ∷ []) ((λ e. not_in i us o.0 (subst (λ x. In x us) e v)), tt))))

-- ---- one session's chain

module _ (s : List ℕ) (m r p : ℕ) where
  abbrev pub Needed : List ℕ → ℕ → Type 0
  Needed seen i = undo_ok s seen m r p i ≡ true

  -- Marks of undo records make no descriptor.
  needed-same : (seen l : List ℕ) (i : ℕ) → r < length seen → Fresh seen r l → undo_ok s (mark_all seen l undo_mark) m r p i ≡ undo_ok s seen m r p i
  unfolding undo_ok group_held
  needed-same seen l i h f = rw (is-met-after seen r l undo_mark (undo_at s m i).descriptor descriptor_mark h f (λ e. omega (arith, e)) (λ e. omega (arith, e))) refl

  turned : (seen f : List ℕ) (i : ℕ) → (undo_turn s m r p seen f i).ok ≡ true → Needed seen i × ((undo_turn s m r p seen f i).held ≡ file_undo s f m i)
  unfolding undo_turn
  turned seen f i o = go (undo_ok s seen m r p i) refl o
    where
      go : (b : Bool) → undo_ok s seen m r p i ≡ b → (cond b (turn true (file_undo s f m i)) (turn false f)).ok ≡ true
          → (undo_ok s seen m r p i ≡ true) × ((cond (undo_ok s seen m r p i) (turn true (file_undo s f m i)) (turn false f)).held ≡ file_undo s f m i)
      go true e z = (e, ap (λ b. (cond b (turn true (file_undo s f m i)) (turn false f)).held) e)
      go false e z = never z

  turns : (seen f : List ℕ) (i : ℕ) → Needed seen i → undo_turn s m r p seen f i ≡ turn true (file_undo s f m i)
  unfolding undo_turn
  turns seen f i e = ap (λ b. cond b (turn true (file_undo s f m i)) (turn false f)) e

  pub undos-needed : (us seen f held : List ℕ) → r < length seen → Fresh seen r us → Turns (undo_turn s m r p) undo_mark seen f us held
      → All (Needed seen) us × (held ≡ file_all s m f us)
  unfolding file_all
  undos-needed [] seen f held h k t = (tt, sym t)
  undos-needed (i ∷ us) seen f held h k t =
      let one = fresh-left seen r (i ∷ []) us k in
      let w = turned (set seen i undo_mark) f i t.0 in
      let q = undos-needed us (set seen i undo_mark) (file_undo s f m i) held (omega (arith, mark-length seen (i ∷ []) undo_mark)) (fresh-right seen r (i ∷ []) us undo_mark k)
      (subst (λ x. Turns (undo_turn s m r p) undo_mark (set seen i undo_mark) x us held) w.1 t.1) in
      ((sym (needed-same seen (i ∷ []) i h one) ∙ w.0, all-as (λ j e. sym (needed-same seen (i ∷ []) j h one) ∙ e) us q.0), q.1)

  pub needed-undos : (us seen f : List ℕ) → r < length seen → Fresh seen r us → All (Needed seen) us → Turns (undo_turn s m r p) undo_mark seen f us (file_all s m f us)
  unfolding file_all
  needed-undos [] seen f h k a = refl
  needed-undos (i ∷ us) seen f h k a =
      let one = fresh-left seen r (i ∷ []) us k in
      let e = turns (set seen i undo_mark) f i (needed-same seen (i ∷ []) i h one ∙ a.0) in (
        ap (λ x. x.ok) e,
        subst (λ x. Turns (undo_turn s m r p) undo_mark (set seen i undo_mark) x.held us (file_all s m (file_undo s f m i) us)) (sym e)
            (needed-undos us (set seen i undo_mark) (file_undo s f m i) (omega (arith, mark-length seen (i ∷ []) undo_mark)) (fresh-right seen r (i ∷ []) us undo_mark k)
            (all-as (λ j w. needed-same seen (i ∷ []) j h one ∙ w) us a.1)),
      )

  -- What the walk of the chain from i on finds.
  pub record Session-undos (seen f : List ℕ) (i left : ℕ) (t : Trail (List ℕ)) : Type 0 where
    pub chained : Chained s m i (chain s m r i)
    pub fresh : Fresh seen r (chain s m r i)
    pub needed : All (Needed seen) (chain s m r i)
    pub seen_is : t.seen ≡ mark_all seen (chain s m r i) undo_mark
    pub left_is : t.left + length (chain s m r i) ≡ left
    pub filed_is : t.held ≡ file_all s m f (chain s m r i)

  pub session-found : (seen f : List ℕ) (i left : ℕ) → r < length seen → (undos_from s m r p seen f i left).ok ≡ true → Session-undos seen f i left (undos_from s m r p seen f i left)
  unfolding undos_from decode_undo
  session-found seen f i left h o =
      let d : Read (List ℕ) s m r undo_mark (undo_turn s m r p) seen f i left (chain_of (λ j. word_of s m j 0) r undo_mark (undo_turn s m r p) seen f i left)
      = chained-found s m r undo_mark (undo_turn s m r p) seen f i left (λ e. omega (arith, e)) h o in
      let q = undos-needed (chain s m r i) seen f _ h d.fresh d.turns in
      record { chained = d.chained; fresh = d.fresh; needed = q.0; seen_is = d.seen_is; left_is = d.left_is; filed_is = q.1 }

  pub session-walks : (seen f : List ℕ) (i left : ℕ) → r < length seen → Chained s m i (chain s m r i) → Fresh seen r (chain s m r i) → length (chain s m r i) ≤ left → All (Needed seen) (chain s m r i)
      → undos_from s m r p seen f i left ≡ ends true (left - length (chain s m r i)) (mark_all seen (chain s m r i) undo_mark) (file_all s m f (chain s m r i))
  unfolding undos_from decode_undo
  session-walks seen f i left h c k l a = chained-walks s m r undo_mark (undo_turn s m r p) seen f i left (chain s m r i) (file_all s m f (chain s m r i)) c k l (needed-undos (chain s m r i) seen f h k a)

-- ---- all sessions

module _ (s : List ℕ) (m r : ℕ) (t : List Session) where
  abbrev pub chain-of : ℕ → List ℕ
  chain-of q = chain s m r (session_at t q).undo

  -- The chains of n sessions from p on.
  abbrev pub chains_from : ℕ → ℕ → List ℕ
  chains_from p zero = []
  chains_from p (suc n) = chain-of p ++ chains_from (p + 1) n

  -- Each chain ends, and each of its records has what it needs.
  abbrev pub EachSession : List ℕ → ℕ → ℕ → Type 0
  EachSession seen p zero = Unit {0}
  EachSession seen p (suc n) = Chained s m (session_at t p).undo (chain-of p) × All (Needed s m r p seen) (chain-of p) × EachSession seen (p + 1) n

  pub record All-undos (seen f : List ℕ) (left p n : ℕ) (v : Trail (List ℕ)) : Type 0 where
    pub each : EachSession seen p n
    pub fresh : Fresh seen r (chains_from p n)
    pub seen_is : v.seen ≡ mark_all seen (chains_from p n) undo_mark
    pub left_is : v.left + length (chains_from p n) ≡ left
    pub filed_is : v.held ≡ file_all s m f (chains_from p n)

  file-append : (f a b : List ℕ) → file_all s m f (a ++ b) ≡ file_all s m (file_all s m f a) b
  unfolding file_all
  file-append f [] b = refl
  file-append f (i ∷ a) b = file-append (file_undo s f m i) a b

  each_same : (seen l : List ℕ) (p n : ℕ) → r < length seen → Fresh seen r l → EachSession (mark_all seen l undo_mark) p n → EachSession seen p n
  each_same seen l p zero h k e = tt
  each_same seen l p (suc n) h k e = (e.0, all-as (λ i w. sym (needed-same s m r p seen l i h k) ∙ w) (chain-of p) e.1, each_same seen l (p + 1) n h k e.2)

  same-each : (seen l : List ℕ) (p n : ℕ) → r < length seen → Fresh seen r l → EachSession seen p n → EachSession (mark_all seen l undo_mark) p n
  same-each seen l p zero h k e = tt
  same-each seen l p (suc n) h k e = (e.0, all-as (λ i w. needed-same s m r p seen l i h k ∙ w) (chain-of p) e.1, same-each seen l (p + 1) n h k e.2)

  then_ok : (x : Trail (List ℕ)) (k : Trail (List ℕ) → Trail (List ℕ)) → (then_trail x k).ok ≡ true → (x.ok ≡ true) × (then_trail x k ≡ k x)
  then_ok x k o = at x.ok refl o
    where
      at : (b : Bool) → x.ok ≡ b → (cond b (k x) x).ok ≡ true → (x.ok ≡ true) × (cond x.ok (k x) x ≡ k x)
      at true e z = (e, ap (λ b. cond b (k x) x) e)
      at false e z = never (sym e ∙ z)

  pub undos-found : (n p left : ℕ) (seen f : List ℕ) → r < length seen → (undos_of s m r t seen f left p n).ok ≡ true → All-undos seen f left p n (undos_of s m r t seen f left p n)
  unfolding undos_of file_all
  undos-found zero p left seen f h o = record { each = tt; fresh = fresh-none seen r; seen_is = refl; left_is = omega arith; filed_is = refl }
  undos-found (suc n) p left seen f h o =
      let x = undos_from s m r p seen f (session_at t p).undo left in
      let k : Trail (List ℕ) → Trail (List ℕ) = λ v. undos_of s m r t v.seen v.held v.left (p + 1) n in
      let w = then_ok x k o in
      let a = session-found s m r p seen f (session_at t p).undo left h w.0 in
      let long : r < length x.seen = let q = ap length a.seen_is ∙ mark-length seen (chain-of p) undo_mark in omega (arith, q) in
      let b = undos-found n (p + 1) x.left x.seen x.held long (subst (λ v. v.ok ≡ true) w.1 o) in
      subst (All-undos seen f left p (suc n)) (sym w.1) (join x a b h)
    where
      join : (x : Trail (List ℕ)) → Session-undos s m r p seen f (session_at t p).undo left x
          → All-undos x.seen x.held x.left (p + 1) n (undos_of s m r t x.seen x.held x.left (p + 1) n) → r < length seen
          → All-undos seen f left p (suc n) (undos_of s m r t x.seen x.held x.left (p + 1) n)
      join x a b h = record {
        each = (a.chained, a.needed, each_same seen (chain-of p) (p + 1) n h a.fresh (subst (λ v. EachSession v (p + 1) n) a.seen_is b.each));
        fresh = fresh-append seen r (chain-of p) (chains_from (p + 1) n) undo_mark (λ e. omega (arith, e)) h a.fresh (subst (λ v. Fresh v r (chains_from (p + 1) n)) a.seen_is b.fresh);
        seen_is = b.seen_is ∙ ap (λ v. mark_all v (chains_from (p + 1) n) undo_mark) a.seen_is ∙ sym (mark-append seen (chain-of p) (chains_from (p + 1) n) undo_mark);
        left_is = omega (arith, a.left_is, b.left_is, length-append (chain-of p) (chains_from (p + 1) n));
        filed_is = b.filed_is ∙ ap (λ v. file_all s m v (chains_from (p + 1) n)) a.filed_is ∙ sym (file-append f (chain-of p) (chains_from (p + 1) n));
      }

  pub undos-walks : (n p left : ℕ) (seen f : List ℕ) → r < length seen → EachSession seen p n → Fresh seen r (chains_from p n) → length (chains_from p n) ≤ left
      → undos_of s m r t seen f left p n ≡ ends true (left - length (chains_from p n)) (mark_all seen (chains_from p n) undo_mark) (file_all s m f (chains_from p n))
  unfolding undos_of file_all
  undos-walks zero p left seen f h e k l = ap (λ x. ends true x seen f) (omega arith)
  undos-walks (suc n) p left seen f h e k l =
      let c = chain-of p in
      let d = chains_from (p + 1) n in
      let la : length (c ++ d) ≡ length c + length d = length-append c d in
      let a = session-walks s m r p seen f (session_at t p).undo left h e.0 (fresh-left seen r c d k) (omega arith) e.1 in
      let b = undos-walks n (p + 1) (left - length c) (mark_all seen c undo_mark) (file_all s m f c) (let q = mark-length seen c undo_mark in omega arith)
      (same-each seen c (p + 1) n h (fresh-left seen r c d k) e.2) (fresh-right seen r c d undo_mark k) (omega arith) in
      ap (λ v. then_trail v (λ u. undos_of s m r t u.seen u.held u.left (p + 1) n)) a ∙ b
      ∙ ap (λ x. ends true x (mark_all (mark_all seen c undo_mark) d undo_mark) (file_all s m (file_all s m f c) d)) (omega arith)
      ∙ ap (λ x. ends true (left - length (c ++ d)) x (file_all s m (file_all s m f c) d)) (sym (mark-append seen c d undo_mark))
      ∙ ap (λ x. ends true (left - length (c ++ d)) (mark_all seen (c ++ d) undo_mark) x) (sym (file-append f c d))
