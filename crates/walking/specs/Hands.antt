-- The party's session record after a step of its descent, its mark and the others'; counts of records in a node; and what the machine's state then is.
use Rattle.std.specs.Prelude.{◌≡◌, refl, true, false, cond, List, [], ◌∷◌, ◌++◌, ◌⊎◌, ℕ, suc, ◌+◌, ◌<◌, eqb, length, set}
use Rattle.std.proofs.Common.{sym, ap, subst, ◌∙◌, inl, inr, arith}
use Rattle.sessions.specs.declared.Session.{Session}
use Rattle.sessions.specs.Sessions.{session_at}
use Rattle.machine.specs.Tree.{Node, flat, flat_append}
use Rattle.machine.specs.Holders.{latch_word}
use Rattle.machine.specs.State.{State, at, with_free, with_root, on_tree, set_hand}
use Rattle.machine.specs.Steps.{goes_on, descended}
use Rattle.machine.specs.Descent.{on_latch}
use Rattle.machine.specs.Context.{Focus, plug}
use Rattle.machine.specs.Sound.{times}
use Rattle.meaning.specs.Reading.{Mark, Numbered, erase, hand_of}
use Rattle.meaning.specs.Sound.{pins_first}
use Rattle.meaning.specs.Numbers.{one-is, times-append}
use Rattle.meaning.specs.Around.{NCtx, here, under, fill, erase-fill}
use Rattle.layout.specs.Layout.{Lay, leaves_in, Has, SomeSon, Marked, HandFits, Holds, means}
use Rattle.layout.specs.Row.{Becomes}
use Rattle.layout.specs.Written.{Written}
use Rattle.layout.specs.Keep.{with_tree}
use Rattle.layout.specs.Places.{Erased, means-hand}
use Rattle.layout.specs.Asked.{request_in}
use Rattle.walking.specs.Traces.{Trace}

abbrev pub nd : {A : Type 0} → Mark → List (A × ℕ) → Node Mark A
nd w es = record { latch = w; sons = es }

-- ---- session records

-- The request in hand stands at the node at record i, of level l.
abbrev pub standing_at : Session → ℕ → ℕ → Session
standing_at x i l = record {
  begun = x.begun;
  code = x.code;
  entry = x.entry;
  first = x.first;
  second = x.second;
  stage = 3;
  target = x.target;
  at = i;
  level = l;
  low = x.low;
  high = x.high;
  last = x.last;
  undo = x.undo;
  order = x.order;
  asked = x.asked;
}

pins_same : (x : Session) (i l : ℕ) → (x.stage ≡ 2) ⊎ (x.stage ≡ 3) → pins_first (standing_at x i l) ≡ true → pins_first x ≡ true
pins_same x i l (inl e) h = subst (λ n. cond (eqb n 4) true (cond (eqb n 5) true (cond (eqb x.code 5) (cond (eqb x.target x.first) false true) false)) ≡ true) (sym e) h
pins_same x i l (inr e) h = subst (λ n. cond (eqb n 4) true (cond (eqb n 5) true (cond (eqb x.code 5) (cond (eqb x.target x.first) false true) false)) ≡ true) (sym e) h

some-stage : (n : ℕ) → (n ≡ 2) ⊎ (n ≡ 3) → ¬ (n ≡ 0)
some-stage n (inl e) z = omega (arith, e, z)
some-stage n (inr e) z = omega (arith, e, z)

pub own-hand : (L L' : Lay) (p : ℕ) (x : Session) (i l : ℕ) → (x.stage ≡ 2) ⊎ (x.stage ≡ 3) → leaves_in L' ≡ leaves_in L → Marked l i (latch_word p) (suc L'.height) L'.tree → HandFits L p x
    → HandFits L' p (standing_at x i l)
own-hand L L' p x i l st e m f = record {
  stage = omega arith;
  at-node = λ _. m;
  low = λ n g. subst (Has x.first x.low) (sym e) (f.low (some-stage x.stage st) (pins_same x i l st g));
  high = λ g. absurd (omega (arith, g));
  last = λ g. absurd (omega (arith, g));
}

-- ---- marks

pub some_left : {A : Type 0} (P : A → Type 0) (es fs : List (A × ℕ)) → SomeSon P es → SomeSon P (es ++ fs)
some_left {A = A} P [] fs x' = elim x' [ ]
some_left P (e ∷ es) fs (inl x) = inl x
some_left P (e ∷ es) fs (inr x) = inr (some_left P es fs x)

pub some_right : {A : Type 0} (P : A → Type 0) (es fs : List (A × ℕ)) → SomeSon P fs → SomeSon P (es ++ fs)
some_right P [] fs x = x
some_right P (e ∷ es) fs x = inr (some_right P es fs x)

pub some-cut : {A : Type 0} (P : A → Type 0) (es fs : List (A × ℕ)) → SomeSon P (es ++ fs) → SomeSon P es ⊎ SomeSon P fs
some-cut P [] fs x = inr x
some-cut P (e ∷ es) fs (inl x) = inl (inl x)
some-cut P (e ∷ es) fs (inr x) = go (some-cut P es fs x)
  where
    go : SomeSon P es ⊎ SomeSon P fs → SomeSon P (e ∷ es) ⊎ SomeSon P fs
    go (inl y) = inl (inr y)
    go (inr y) = inr y

-- Some sons in the middle are others.
pub some-mid : {A : Type 0} (P : A → Type 0) (pre old new post : List (A × ℕ)) → (SomeSon P old → SomeSon P new) → SomeSon P (pre ++ (old ++ post)) → SomeSon P (pre ++ (new ++ post))
some-mid P pre old new post f x = go (some-cut P pre (old ++ post) x)
  where
    back : SomeSon P old ⊎ SomeSon P post → SomeSon P (pre ++ (new ++ post))
    back (inl y) = some_right P pre (new ++ post) (some_left P new post (f y))
    back (inr y) = some_right P pre (new ++ post) (some_right P new post y)

    go : SomeSon P pre ⊎ SomeSon P (old ++ post) → SomeSon P (pre ++ (new ++ post))
    go (inl y) = some_left P pre (new ++ post) y
    go (inr y) = back (some-cut P old post y)

pub marked-into : (j n w : ℕ) {k h : ℕ} (c : NCtx k h) (u : Numbered k) → Marked j n w k u → Marked j n w h (fill c u)
unfolding Marked
marked-into j n w here u m = m
marked-into j n w (under {h = h} v pre c b post) u m = inr (some_right (Marked j n w h) pre ((fill c u, b) ∷ post) (inl (marked-into j n w c u m)))

-- A node that has not the mark: one of its sons has.
pub marked-below : (j n w h : ℕ) (u : Numbered (suc h)) → ¬ (u.latch.word ≡ w) → Marked j n w (suc h) u → SomeSon (Marked j n w h) u.sons
unfolding Marked
marked-below j n w h u ne (inl m) = absurd (ne m.2)
marked-below j n w h u ne (inr m) = m

pub marked-under : (j n w h : ℕ) (u : Numbered (suc h)) → SomeSon (Marked j n w h) u.sons → Marked j n w (suc h) u
unfolding Marked
marked-under j n w h u m = inr m

pub marked-self : (n w h : ℕ) (es : List (Numbered h × ℕ)) → Marked (suc h) n w (suc h) (nd (record { num = n; word = w }) es)
unfolding Marked
marked-self n w h es = inl (refl, refl, refl)

-- ---- counts

module _ (f : (h : ℕ) → Numbered h → List ℕ) (law : (h : ℕ) (x : Numbered (suc h)) → f (suc h) x ≡ x.latch.num ∷ flat (f h) x.sons) where
  pub node-times : (h : ℕ) (x : Numbered (suc h)) (i : ℕ) → times i (f (suc h) x) ≡ times i (x.latch.num ∷ []) + times i (flat (f h) x.sons)
  node-times h x i = ap (times i) (law h x) ∙ omega arith

pub flat-times : {A : Type 0} (g : A → List ℕ) (es fs : List (A × ℕ)) (i : ℕ) → times i (flat g (es ++ fs)) ≡ times i (flat g es) + times i (flat g fs)
flat-times g es fs i = ap (times i) (flat_append g es fs) ∙ times-append i (flat g es) (flat g fs)

pub one-self : (x : ℕ) → times x (x ∷ []) ≡ 1
one-self x = omega (arith, one-is x x refl)

-- ---- what the state then is

pub means-level : (L : Lay) (t : List Session) (p x k : ℕ) (u u' : Numbered (suc k)) (c : NCtx (suc k) (suc L.height)) (F : Focus p x (means L t) k (erase (suc k) u)) → Erased L t p x k (erase (suc k) u) F c
    → (f' : List ℕ) → erase (suc k) u' ≡ descended p x k (erase (suc k) u)
    → means (with_tree L L.height (fill c u') f') t ≡ with_free (length f') (on_tree (on_latch (latch_word p) x (descended p x)) (means L t))
unfolding means on_tree Erased
means-level L t p x k u u' c F er f' e =
    ap (λ n. with_free (length f') (with_root (record { height = L.height; node = n }) (means L t)))
    (erase-fill c u' ∙ ap (λ d. plug d (erase (suc k) u')) (sym er) ∙ ap (plug F.around) e ∙ sym (F.changes (descended p x)))

-- The words hold a layout of the machine's state, and the party stands at a node.
pub becomes-by : (s s' : List ℕ) (t : List Session) (W : List ℕ) → Written s s' W → (p : ℕ) → p < length t → (i l : ℕ) (L' : Lay) (σ : State) → means L' t ≡ σ
    → Holds s' (set t p (standing_at (session_at t p) i l)) L'
    → Becomes s s' (set t p (standing_at (session_at t p) i l)) (goes_on p (request_in (session_at t p)) (at (session_at t p).target) σ).next
unfolding goes_on request_in
becomes-by s s' t W T p seat i l L' σ e H = record {
  lay = L';
  holds = H;
  means_next = means-hand L' t p (standing_at (session_at t p) i l) seat refl ∙ ap (set_hand p (hand_of (standing_at (session_at t p) i l))) e;
  long = T.long;
  entries = T.entries;
  records = T.records;
  rest = T.rest;
}

pub becomes-at : (s s' : List ℕ) (t : List Session) (W : List ℕ) (f : ℕ) → Trace s s' W f → (p : ℕ) → p < length t → (i l : ℕ) (L' : Lay) (σ : State) → means L' t ≡ σ
    → Holds s' (set t p (standing_at (session_at t p) i l)) L'
    → Becomes s s' (set t p (standing_at (session_at t p) i l)) (goes_on p (request_in (session_at t p)) (at (session_at t p).target) σ).next
becomes-at s s' t W f T p seat i l L' σ e H = becomes-by s s' t W T.written p seat i l L' σ e H
