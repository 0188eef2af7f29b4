-- Undo records filed by their descriptor: for each descriptor the list of its records, in the order in which they were filed.
use Rattle.std.specs.Prelude.{◌≡◌, cond, ◌⊎◌, eqb, leb, length, set}
use Rattle.std.proofs.Math.Path.{refl, sym, ap, subst}
use Rattle.std.proofs.Common.{◌∙◌, inl, inr, arith, length-set, get_or-set_same, get_or-set_other, eq-eqb, ne_eqb, le-leb}
use mathlib.Core.List.{List, [], ◌∷◌, ◌++◌}
use Prim.Native.Nat.{ℕ, ◌+◌, ◌≤◌}
use Rattle.std.proofs.Math.Decide.{ℕ_discrete}
use Rattle.std.proofs.Math.ListN.{get_or}
use Rattle.meaning.specs.Sound.{All, Apart, Once}
use Rattle.undo_chains.specs.UndoChains.{file_at}
use Rattle.soundness.specs.Marking.{In, not_in, apart-append, all_append}
use Rattle.soundness.specs.Chains.{Along}

-- By descriptor, the records filed.
abbrev pub Lists : Type 0
Lists = ℕ → List ℕ

-- One more at the end of the list of d.
abbrev pub append_to : ℕ → ℕ → Lists → Lists
append_to d i L c = cond (eqb c d) (L c ++ i ∷ []) (L c)

abbrev pub next_in : List ℕ → ℕ → ℕ
next_in f j = get_or f (8194 + j) 0

abbrev pub last_of : List ℕ → ℕ
last_of [] = 0
last_of (j ∷ []) = j
last_of (j ∷ k ∷ l) = last_of (k ∷ l)

abbrev pub Record : ℕ → Type 0
Record j = (1 ≤ j) × (j ≤ 4096)

-- The files f hold the lists L.
pub record Files (f : List ℕ) (L : Lists) : Type 0 where
  pub size : length f ≡ 12291
  pub first : (d : ℕ) → Record d → Along (next_in f) (get_or f (4097 + d) 0) (L d)
  pub last : (d : ℕ) → Record d → get_or f d 0 ≡ last_of (L d)
  pub small : (d : ℕ) → Record d → All Record (L d)
  pub once : (d : ℕ) → Record d → Once (L d)
  pub apart : (d c j : ℕ) → Record d → Record c → ¬ (d ≡ c) → In j (L d) → Apart j (L c)
  pub open_end : (j : ℕ) → Record j → ((d : ℕ) → Record d → Apart j (L d)) → next_in f j ≡ 0

-- ---- chains that grow at their end

along-cong : (g h : ℕ → ℕ) (i : ℕ) (l : List ℕ) → ((j : ℕ) → In j l → g j ≡ h j) → Along g i l → Along h i l
along-cong g h i [] e a = a
along-cong g h i (j ∷ l) e a = (a.0, a.1, along-cong g h (h i) l (λ k q. e k (inr q)) (subst (λ x. Along g x l) (e i (inl a.0)) a.2))

-- The last of a chain leads on to one more.
along-snoc : (g h : ℕ → ℕ) (i n : ℕ) (l : List ℕ) → ¬ (l ≡ []) → Once l → ((j : ℕ) → In j l → ¬ (j ≡ last_of l) → g j ≡ h j) → h (last_of l) ≡ n → ¬ (n ≡ 0) → h n ≡ 0
    → Along g i l → Along h i (l ++ n ∷ [])
along-snoc g h i n [] ne o e q nz z a = absurd (ne refl)
along-snoc g h i n (j ∷ []) ne o e q nz z a =
    let s : h i ≡ n = ap h a.0 ∙ q in
    (a.0, a.1, (s, (λ x. nz (sym s ∙ x)), ap h s ∙ z))
along-snoc g h i n (j ∷ k ∷ l) ne o e q nz z a =
    (a.0, a.1, along-snoc g h (h i) n (k ∷ l) (λ x. cons-not x) o.1 (λ u w. e u (inr w)) q nz z (subst (λ x. Along g x (k ∷ l)) (e i (inl a.0) (λ w. not_in j (k ∷ l) o.0 (last-in (k ∷ l) (λ x. cons-not x) (sym a.0 ∙ w)))) a.2))
  where
    cons-not : {x : ℕ} {y : List ℕ} → (x ∷ y) ≡ [] → ⊥
    cons-not w = subst some w tt
      where
        some : List ℕ → Type 0
        some [] = ⊥
        some (u ∷ v) = Unit {0}

    last-in : {x : ℕ} (y : List ℕ) → ¬ (y ≡ []) → x ≡ last_of y → In x y
    last-in [] w u = absurd (w refl)
    last-in (b ∷ []) w u = inl u
    last-in (b ∷ c ∷ y) w u = inr (last-in (c ∷ y) (λ v. cons-not v) u)

-- ---- one more record filed

is_empty : (l : List ℕ) → All Record l → last_of l ≡ 0 → l ≡ []
is_empty [] a e = refl
is_empty (j ∷ []) a e = absurd (let b = a.0.0 in omega (arith, e))
is_empty (j ∷ k ∷ l) a e = absurd (nothing (is_empty (k ∷ l) a.1 e))
  where
    nothing : (k ∷ l) ≡ [] → ⊥
    nothing w = subst some w tt
      where
        some : List ℕ → Type 0
        some [] = ⊥
        some (u ∷ v) = Unit {0}

last-record : (l : List ℕ) → All Record l → ¬ (last_of l ≡ 0) → Record (last_of l)
last-record [] a n = absurd (n refl)
last-record (j ∷ []) a n = a.0
last-record (j ∷ k ∷ l) a n = last-record (k ∷ l) a.1 n

last-member : (l : List ℕ) → ¬ (last_of l ≡ 0) → In (last_of l) l
last-member [] n = absurd (n refl)
last-member (j ∷ []) n = inl refl
last-member (j ∷ k ∷ l) n = inr (last-member (k ∷ l) n)

last_snoc : (l : List ℕ) (i : ℕ) → last_of (l ++ i ∷ []) ≡ i
last_snoc [] i = refl
last_snoc (j ∷ []) i = refl
last_snoc (j ∷ k ∷ l) i = last_snoc (k ∷ l) i

once-snoc : (l : List ℕ) (i : ℕ) → Once l → Apart i l → Once (l ++ i ∷ [])
once-snoc [] i o a = (tt, tt)
once-snoc (j ∷ l) i o a = (apart-append j l (i ∷ []) o.0 ((λ e. a.0 (sym e)), tt), once-snoc l i o.1 a.1)

in-snoc : (j i : ℕ) (l : List ℕ) → In j (l ++ i ∷ []) → In j l ⊎ (j ≡ i)
in-snoc j i [] (inl e) = inr e
in-snoc j i [] (inr w) = absurd w
in-snoc j i (k ∷ l) (inl e) = inl (inl e)
in-snoc j i (k ∷ l) (inr w) = go (in-snoc j i l w)
  where
    go : In j l ⊎ (j ≡ i) → In j (k ∷ l) ⊎ (j ≡ i)
    go (inl v) = inl (inr v)
    go (inr e) = inr e

apart_snoc : (j i : ℕ) (l : List ℕ) → Apart j (l ++ i ∷ []) → Apart j l × ¬ (j ≡ i)
apart_snoc j i [] a = (tt, a.0)
apart_snoc j i (k ∷ l) a = let q = apart_snoc j i l a.1 in ((a.0, q.0), q.1)

module _ (f : List ℕ) (L : Lists) (F : Files f L) (d i : ℕ) (rd : Record d) (ri : Record i) (new : (c : ℕ) → Record c → Apart i (L c)) where
  more : Lists
  more = append_to d i L

  here : more d ≡ L d ++ i ∷ []
  unfolding more
  here = rw (eq-eqb d d refl) refl

  there : (c : ℕ) → ¬ (c ≡ d) → more c ≡ L c
  unfolding more
  there c n = rw (ne_eqb c d n) refl

  -- What is the same of the files, whatever was written, and what a list of one descriptor keeps.
  record Written (h : List ℕ) : Type 0 where
    pub size : length h ≡ 12291
    pub at_first : Along (next_in h) (get_or h (4097 + d) 0) (L d ++ i ∷ [])
    pub firsts : (c : ℕ) → Record c → ¬ (c ≡ d) → get_or h (4097 + c) 0 ≡ get_or f (4097 + c) 0
    pub at_last : get_or h d 0 ≡ i
    pub lasts : (c : ℕ) → Record c → ¬ (c ≡ d) → get_or h c 0 ≡ get_or f c 0
    pub nexts : (j : ℕ) → Record j → Apart j (L d) → next_in h j ≡ next_in f j

  all_in : (P : ℕ → Type 0) (l : List ℕ) → All P l → (j : ℕ) → In j l → P j
  all_in P [] a j w = absurd w
  all_in P (k ∷ l) a j (inl e) = subst P (sym e) a.0
  all_in P (k ∷ l) a j (inr w) = all_in P l a.1 j w

  written-files : (h : List ℕ) → Written h → Files h more
  unfolding more
  written-files h W = record {
    size = W.size;
    first = λ c rc. by_key c (λ l. Along (next_in h) (get_or h (4097 + c) 0) l) (λ e. subst (λ x. Along (next_in h) (get_or h (4097 + x) 0) (L x ++ i ∷ [])) (sym e) W.at_first)
        (λ n. subst (λ x. Along (next_in h) x (L c)) (sym (W.firsts c rc n)) (along-cong (next_in f) (next_in h) (get_or f (4097 + c) 0) (L c)
        (λ j w. sym (W.nexts j (all_in Record (L c) (F.small c rc) j w) (F.apart c d j rc rd n w))) (F.first c rc)));
    last = λ c rc. by_key c (λ l. get_or h c 0 ≡ last_of l) (λ e. ap (λ x. get_or h x 0) e ∙ W.at_last ∙ sym (last_snoc (L c) i)) (λ n. W.lasts c rc n ∙ F.last c rc);
    small = λ c rc. by_key c (All Record) (λ e. all_append Record (L c) (i ∷ []) (F.small c rc) (ri, tt)) (λ n. F.small c rc);
    once = λ c rc. by_key c Once (λ e. once-snoc (L c) i (F.once c rc) (new c rc)) (λ n. F.once c rc);
    apart = apart-all;
    open_end = λ j rj a. W.nexts j rj (not-d j a).0 ∙ F.open_end j rj (λ c rc. not-c j a c rc);
  }
    where
      by_key : (c : ℕ) (P : List ℕ → Type 0) → (c ≡ d → P (L c ++ i ∷ [])) → (¬ (c ≡ d) → P (L c)) → P (append_to d i L c)
      by_key c P y n = go (ℕ_discrete c d)
        where
          go : Dec (c ≡ d) → P (append_to d i L c)
          go (yes e) = subst (λ b. P (cond b (L c ++ i ∷ []) (L c))) (sym (eq-eqb c d e)) (y e)
          go (no m) = subst (λ b. P (cond b (L c ++ i ∷ []) (L c))) (sym (ne_eqb c d m)) (n m)

      not-d : (j : ℕ) → ((c : ℕ) → Record c → Apart j (append_to d i L c)) → Apart j (L d) × ¬ (j ≡ i)
      not-d j a = apart_snoc j i (L d) (subst (Apart j) here (a d rd))

      not-c : (j : ℕ) → ((c : ℕ) → Record c → Apart j (append_to d i L c)) → (c : ℕ) → Record c → Apart j (L c)
      not-c j a c rc = go (ℕ_discrete c d)
        where
          go : Dec (c ≡ d) → Apart j (L c)
          go (yes e) = subst (λ x. Apart j (L x)) (sym e) (not-d j a).0
          go (no n) = subst (Apart j) (there c n) (a c rc)

      apart-all : (b c j : ℕ) → Record b → Record c → ¬ (b ≡ c) → In j (append_to d i L b) → Apart j (append_to d i L c)
      apart-all b c j rb rc n w = by_key c (Apart j)
          (λ e. let w' = subst (In j) (there b (λ q. n (q ∙ sym e))) w in
          apart-append j (L c) (i ∷ []) (F.apart b c j rb rc n w') ((λ q. not_in j (L b) (subst (λ x. Apart x (L b)) (sym q) (new b rb)) w'), tt))
          (λ m. go (ℕ_discrete b d))
        where
          go : Dec (b ≡ d) → Apart j (L c)
          go (no k) = F.apart b c j rb rc n (subst (In j) (there b k) w)
          go (yes e) = at (in-snoc j i (L d) (subst (In j) (ap more e ∙ here) w))
            where
              at : In j (L d) ⊎ (j ≡ i) → Apart j (L c)
              at (inl v) = F.apart d c j rd rc (λ q. n (e ∙ q)) v
              at (inr q) = subst (λ x. Apart x (L c)) (sym q) (new c rc)

  -- The first record of a descriptor, and one behind others.
  first-written : get_or f d 0 ≡ 0 → Written (set (set f d i) (4097 + d) i)
  first-written z =
      let e : L d ≡ [] = is_empty (L d) (F.small d rd) (sym (F.last d rd) ∙ z) in
      let n : length (set f d i) ≡ 12291 = length-set f d i ∙ F.size in
      record {
        size = length-set (set f d i) (4097 + d) i ∙ n;
        at_first = subst (λ l. Along (next_in (set (set f d i) (4097 + d) i)) (get_or (set (set f d i) (4097 + d) i) (4097 + d) 0) (l ++ i ∷ [])) (sym e)
            (let q = get_or-set_same (set f d i) (4097 + d) i 0 (let a = rd.1 in omega (arith, n)) in
            (q, (λ x. let a = ri.0 in omega (arith, sym q ∙ x)), ap (next_in (set (set f d i) (4097 + d) i)) q ∙ same i ri ∙ F.open_end i ri new));
        firsts = λ c rc m. get_or-set_other (set f d i) (4097 + d) (4097 + c) i 0 (λ q. m (omega (arith, q))) ∙ get_or-set_other f d (4097 + c) i 0 (λ q. let a = rd.1 in omega (arith, q));
        at_last = get_or-set_other (set f d i) (4097 + d) d i 0 (λ q. omega (arith, q)) ∙ get_or-set_same f d i 0 (let a = rd.1 in omega (arith, F.size));
        lasts = λ c rc m. get_or-set_other (set f d i) (4097 + d) c i 0 (λ q. let a = rc.1 in omega (arith, q)) ∙ get_or-set_other f d c i 0 m;
        nexts = λ j rj a. same j rj;
      }
    where
      same : (j : ℕ) → Record j → next_in (set (set f d i) (4097 + d) i) j ≡ next_in f j
      same j rj = get_or-set_other (set f d i) (4097 + d) (8194 + j) i 0 (λ q. let a = rd.1 in omega (arith, q)) ∙ get_or-set_other f d (8194 + j) i 0 (λ q. let a = rd.1 in omega (arith, q))

  behind-written : ¬ (get_or f d 0 ≡ 0) → Written (set (set f d i) (8194 + get_or f d 0) i)
  behind-written nz =
      let n : length (set f d i) ≡ 12291 = length-set f d i ∙ F.size in
      let e : get_or f d 0 ≡ last_of (L d) = F.last d rd in
      let ne : ¬ (last_of (L d) ≡ 0) = λ z. nz (e ∙ z) in
      let rl = last-record (L d) (F.small d rd) ne in
      record {
        size = length-set (set f d i) (8194 + get_or f d 0) i ∙ n;
        at_first = subst (λ x. Along (next_in h) x (L d ++ i ∷ [])) (sym (far (4097 + d) (λ q. let a = rd.1 in omega (arith, q)) (λ q. let a = rd.1 in omega (arith, q))))
            (along-snoc (next_in f) (next_in h) (get_or f (4097 + d) 0) i (L d) (λ z. ne (ap last_of z)) (F.once d rd)
            (λ j w q. sym (same j (λ x. q (x ∙ e)))) (ap (λ x. next_in h x) (sym e) ∙ get_or-set_same (set f d i) (8194 + get_or f d 0) i 0 (let a = rl.1 in omega (arith, n, e)))
            (λ z. let a = ri.0 in omega (arith, z)) (same i (λ q. not_in i (L d) (new d rd) (subst (λ x. In x (L d)) (sym (q ∙ e)) (last-member (L d) ne))) ∙ F.open_end i ri new) (F.first d rd));
        firsts = λ c rc m. far (4097 + c) (λ q. let a = rc.1 in omega (arith, q)) (λ q. let a = rd.1 in omega (arith, q));
        at_last = get_or-set_other (set f d i) (8194 + get_or f d 0) d i 0 (λ q. let a = rd.1 in omega (arith, q)) ∙ get_or-set_same f d i 0 (let a = rd.1 in omega (arith, F.size));
        lasts = λ c rc m. far c (λ q. let a = rc.1 in omega (arith, q)) m;
        nexts = λ j rj a. same j (λ q. not_in j (L d) a (subst (λ x. In x (L d)) (sym (q ∙ e)) (last-member (L d) ne)));
      }
    where
      h : List ℕ
      h = set (set f d i) (8194 + get_or f d 0) i

      far : (k : ℕ) → ¬ (k ≡ 8194 + get_or f d 0) → ¬ (k ≡ d) → get_or (set (set f d i) (8194 + get_or f d 0) i) k 0 ≡ get_or f k 0
      far k a b = get_or-set_other (set f d i) (8194 + get_or f d 0) k i 0 a ∙ get_or-set_other f d k i 0 b

      same : (j : ℕ) → ¬ (j ≡ get_or f d 0) → next_in (set (set f d i) (8194 + get_or f d 0) i) j ≡ next_in f j
      same j n = far (8194 + j) (λ q. n (omega (arith, q))) (λ q. let a = rd.1 in omega (arith, q))

  -- A record that is in no list yet, filed at the end of one.
  pub file-more : Files (file_at f d i) (append_to d i L)
  unfolding file_at more
  file-more = go (ℕ_discrete (get_or f d 0) 0)
    where
      go : Dec (get_or f d 0 ≡ 0) → Files (cond (eqb (get_or f d 0) 0) (set (set f d i) (4097 + d) i) (cond (leb (get_or f d 0) 4096) (set (set f d i) (8194 + get_or f d 0) i) (set f d i))) (append_to d i L)
      go (yes z) = subst (λ b. Files (cond b (set (set f d i) (4097 + d) i) (cond (leb (get_or f d 0) 4096) (set (set f d i) (8194 + get_or f d 0) i) (set f d i))) (append_to d i L)) (sym (eq-eqb (get_or f d 0) 0 z))
          (written-files (set (set f d i) (4097 + d) i) (first-written z))
      go (no n) =
          let e : get_or f d 0 ≡ last_of (L d) = F.last d rd in
          let rl = last-record (L d) (F.small d rd) (λ z. n (e ∙ z)) in
          subst (λ b. Files (cond b (set (set f d i) (4097 + d) i) (cond (leb (get_or f d 0) 4096) (set (set f d i) (8194 + get_or f d 0) i) (set f d i))) (append_to d i L)) (sym (ne_eqb (get_or f d 0) 0 n))
          (subst (λ b. Files (cond b (set (set f d i) (8194 + get_or f d 0) i) (set f d i)) (append_to d i L)) (sym (le-leb (get_or f d 0) 4096 (let a = rl.1 in omega (arith, e))))
          (written-files (set (set f d i) (8194 + get_or f d 0) i) (behind-written n)))
