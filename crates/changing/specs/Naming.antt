-- Undo records name memberships that stand where they stood, where only one entry's membership is another; and what a group's chain says of one entry.
use Rattle.std.specs.Prelude.{◌≡◌, refl, Bool, true, false, cond, List, [], ◌∷◌, ◌++◌, ◌⊎◌, ℕ, zero, suc, ◌≤◌, eqb, length}
use Rattle.std.proofs.Common.{sym, ap, ap₂, subst, ◌∙◌, inl, inr, arith, eq-eqb, ne_eqb}
use Rattle.std.proofs.lemmas.List.{map-append}
use Rattle.std.proofs.Math.Decide.{ℕ_discrete}
use Rattle.words.specs.Store.{word_of}
use Rattle.sessions.specs.declared.Session.{Session}
use Rattle.serial.specs.Serial.{true≢false}
use Rattle.serial.specs.Locks.{strong}
use Rattle.serial.specs.Locks as K
use Rattle.machine.specs.Logic.{eqb_is}
use Rattle.machine.specs.Holders.{width, elem}
use Rattle.machine.specs.State.{Undo, value, added, taken, State, session_of}
use Rattle.machine.specs.Steps.{rule}
use Rattle.machine.specs.View.{holders}
use Rattle.machine.specs.Sound as S
use Rattle.machine.specs.Sound.{Cells, Undoable, set_cell, cells}
use Rattle.machine.specs.Keys.{elem-with-same}
use Rattle.meaning.specs.Reading.{Chained, gather, Leaf}
use Rattle.meaning.specs.Sound.{All, Apart, Lists, set_list}
use Rattle.meaning.specs.Numbers.{In, all-as, all_map}
use Rattle.meaning.specs.Grouping.{gather-mid, gather-apart}
use Rattle.layout.specs.Layout.{Lay, Undone, firsts, seconds, Has, NamedAs, Named, member_of, means}
use Rattle.layout.specs.Groups.{put_at, put-here, put-there}
use Rattle.layout.specs.Places.{session-means}
use Rattle.scans.specs.Scans.{membership_of}

-- The entry of a change.
abbrev pub undo_entry : Undo → ℕ
undo_entry (value e v) = e
undo_entry (added e k) = e
undo_entry (taken e k) = e

set_on : (ok : ℕ → Type 0) (d e i : ℕ) (g g' : Lists) → ((c f : ℕ) → ok f → g c f ≡ g' c f) → (c f : ℕ) → ok f → set_list d e i g c f ≡ set_list d e i g' c f
set_on ok d e i g g' h c f o = ap (λ z. cond (eqb c d) (cond (eqb f e) i z) z) (h c f o)

-- Where the memberships of their entries are the same.
pub named-on : (ok : ℕ → Type 0) (ls : List Leaf) (us : List Undone) (g g' : Lists) → ((c f : ℕ) → ok f → g c f ≡ g' c f) → All (λ u. ok (undo_entry u.undo)) us
    → Named ls us g → Named ls us g'
named-on ok ls [] g g' h a n = tt
named-on ok ls (u ∷ us) g g' h a n = go u.undo a.0 (λ c c' k m. named-on ok ls us c c' k a.1 m) n
  where
    go : (x : Undo) → ok (undo_entry x) → ((c c' : Lists) → ((i f : ℕ) → ok f → c i f ≡ c' i f) → Named ls us c → Named ls us c')
        → NamedAs ls (Named ls us) g u.num u.saved u.descriptor x → NamedAs ls (Named ls us) g' u.num u.saved u.descriptor x
    go (value e v) o k m = k g g' h m
    go (added e i) o k m = (
      m.0,
      sym (h u.descriptor e o) ∙ m.1,
      k (set_list u.descriptor e 0 g) (set_list u.descriptor e 0 g') (set_on ok u.descriptor e 0 g g' h) m.2,
    )
    go (taken e i) o k m = (m.0, k (set_list u.descriptor e u.num g) (set_list u.descriptor e u.num g') (set_on ok u.descriptor e u.num g g' h) m.1)

-- ---- the entries of undo records are held

held-entries : (p : ℕ) (s : State) (us : List Undo) (c : Cells) → Undoable p s us c → All (λ u. holders s K.entry strong p (undo_entry u) ≡ true) us
held-entries p s [] c h = tt
held-entries p s (value e v ∷ us) c h = (h.0, held-entries p s us c h.2)
held-entries p s (added e k ∷ us) c h = (h.0.entry_held, held-entries p s us (set_cell k e false c) h.2)
held-entries p s (taken e k ∷ us) c h = (h.0.entry_held, held-entries p s us (set_cell k e true c) h.2)

-- An entry that session p holds exclusively is in no undo record of another session.
pub others-entries : (L : Lay) (t : List Session) → length t ≡ suc width → S.Sound (means L t) → (p e : ℕ) → holders (means L t) K.entry strong p e ≡ true
    → (q : ℕ) → suc q ≤ width → ¬ (suc q ≡ p) → All (λ u. ¬ (undo_entry u.undo ≡ e)) (L.undos (suc q))
others-entries L t seats A p e mine q l ne =
    let s = means L t in
    let was = ap (λ x. x.undos) (session-means L t (suc q) (omega (arith, seats, l))) in
    let held = subst (All (λ u. holders s K.entry strong (suc q) (undo_entry u) ≡ true)) was (held-entries (suc q) s (session_of (suc q) s).undos (cells s) (A.undoable (suc q))) in
    all-as {P = λ (u : Undone). holders s K.entry strong (suc q) (undo_entry u.undo) ≡ true} {Q = λ (u : Undone). ¬ (undo_entry u.undo ≡ e)}
    (λ u h z. alone (A.agree K.entry strong strong (suc q) p e (subst (λ f. holders s K.entry strong (suc q) f ≡ true) z h) mine)) (L.undos (suc q))
    (all_map (λ u. u.undo) (λ u. holders s K.entry strong (suc q) (undo_entry u) ≡ true) (L.undos (suc q)) held)
  where
    alone : (suc q ≡ p) ⊎ (rule K.entry strong strong ≡ true) → ⊥
    alone (inl z) = ne z
    alone (inr z) = true≢false z refl

-- ---- the membership of an entry in a chain

-- What the walk along the members finds.
pub member-walk : (s : List ℕ) (m e i : ℕ) (c : List (ℕ × ℕ)) (n : ℕ) → Chained s m i (firsts c) → All (λ q. word_of s m q.0 2 ≡ q.1) c → length c ≤ n
    → membership_of s m n i e ≡ member_of e c
unfolding membership_of member_of
member-walk s m e i [] zero h w l = refl
member-walk s m e i [] (suc n) h w l = ap (λ (b : Bool). cond b 0 (cond (eqb (word_of s m i 2) e) i (membership_of s m n (word_of s m i 0) e))) (eq-eqb i 0 h)
member-walk s m e i (q ∷ c) zero h w l = absurd (omega (arith, l))
member-walk s m e i (q ∷ c) (suc n) h w l =
    let x : word_of s m i 2 ≡ q.1 = ap (λ j. word_of s m j 2) h.0 ∙ w.0 in
    ap (λ (b : Bool). cond b 0 (cond (eqb (word_of s m i 2) e) i (membership_of s m n (word_of s m i 0) e))) (ne_eqb i 0 h.1)
    ∙ ap (λ z. cond (eqb z e) i (membership_of s m n (word_of s m i 0) e)) x
    ∙ ap₂ (λ y z. cond (eqb q.1 e) y z) h.0 (member-walk s m e (word_of s m i 0) c n h.2 w.1 (omega (arith, l)))

-- An entry that is not found is not there.
pub not_there : (e : ℕ) (c : List (ℕ × ℕ)) → All (λ j. ¬ (j ≡ 0)) (firsts c) → member_of e c ≡ 0 → Apart e (seconds c)
unfolding member_of
not_there e [] a h = tt
not_there e (q ∷ c) a h = go (eqb q.1 e) refl h (not_there e c a.1)
  where
    go : (b : Bool) → eqb q.1 e ≡ b → cond b q.0 (member_of e c) ≡ 0 → (member_of e c ≡ 0 → Apart e (seconds c)) → Apart e (seconds (q ∷ c))
    go true z h f = absurd (a.0 h)
    go false z h f = ((λ y. true≢false (eq-eqb q.1 e (sym y)) z), f h)

-- One that is found splits the chain.
pub record Split (e i : ℕ) (c : List (ℕ × ℕ)) : Type 0 where
  pub before : List (ℕ × ℕ)
  pub behind : List (ℕ × ℕ)
  pub is : c ≡ before ++ (i, e) ∷ behind

pub split_at : (e : ℕ) (c : List (ℕ × ℕ)) → ¬ (member_of e c ≡ 0) → Split e (member_of e c) c
unfolding member_of
split_at e [] n = absurd (n refl)
split_at e (q ∷ c) n = go (eqb q.1 e) refl n (split_at e c)
  where
    go : (b : Bool) → eqb q.1 e ≡ b → ¬ (cond b q.0 (member_of e c) ≡ 0) → (¬ (member_of e c ≡ 0) → Split e (member_of e c) c) → Split e (cond b q.0 (member_of e c)) (q ∷ c)
    go true z n f = record { before = []; behind = c; is = ap (λ x. (q.0, x) ∷ c) (eqb_is q.1 e z) }
    go false z n f = let r = f n in record { before = q ∷ r.before; behind = r.behind; is = ap (λ l. q ∷ l) r.is }

-- A membership of another entry does not matter.
pub member-other : (f i e : ℕ) (a b : List (ℕ × ℕ)) → ¬ (e ≡ f) → member_of f (a ++ (i, e) ∷ b) ≡ member_of f (a ++ b)
unfolding member_of
member-other f i e [] b n = ap (λ (z : Bool). cond z i (member_of f b)) (ne_eqb e f n)
member-other f i e (q ∷ a) b n = ap (λ x. cond (eqb q.1 f) q.0 x) (member-other f i e a b n)

-- The members that are read have the entry exactly if it is found.
pub found-elem : (e : ℕ) (c : List (ℕ × ℕ)) → ¬ (member_of e c ≡ 0) → elem e (gather (seconds c)) ≡ true
found-elem e c n = go (split_at e c n)
  where
    go : Split e (member_of e c) c → elem e (gather (seconds c)) ≡ true
    go r =
        let a = seconds r.before in
        let b = seconds r.behind in
        ap (λ l. elem e (gather l)) (ap seconds r.is ∙ map-append (λ q. q.1) r.before ((member_of e c, e) ∷ r.behind))
        ∙ ap (elem e) (gather-mid a e b) ∙ elem-with-same e (gather (a ++ b))

pub lost-elem : (e : ℕ) (c : List (ℕ × ℕ)) → All (λ j. ¬ (j ≡ 0)) (firsts c) → member_of e c ≡ 0 → elem e (gather (seconds c)) ≡ false
lost-elem e c a h = gather-apart e (seconds c) (not_there e c a h)

-- ---- the memberships of one descriptor are others, but for one entry

module _ (g : ℕ → List (ℕ × ℕ)) (d e : ℕ) (ms : List (ℕ × ℕ)) (same : (h : ℕ) → ¬ (h ≡ e) → member_of h (g d) ≡ member_of h ms) where
  pub lists-put : (i h : ℕ) → ¬ (h ≡ e) → member_of h (g i) ≡ member_of h (put_at d ms g i)
  lists-put i h n = go (ℕ_discrete i d)
    where
      go : Dec (i ≡ d) → member_of h (g i) ≡ member_of h (put_at d ms g i)
      go (yes z) = subst (λ j. member_of h (g j) ≡ member_of h (put_at d ms g j)) (sym z) (same h n ∙ sym (ap (member_of h) (put-here d ms g)))
      go (no z) = sym (ap (member_of h) (put-there d ms g i z))

  -- That entry's membership put back.
  pub lists_back : (v : ℕ) → member_of e (g d) ≡ v → (i h : ℕ) → member_of h (g i) ≡ set_list d e v (λ j f. member_of f (put_at d ms g j)) i h
  lists_back v was i h = go (ℕ_discrete i d) (ℕ_discrete h e)
    where
      G : Lists
      G = λ j f. member_of f (put_at d ms g j)

      at_other : ¬ (i ≡ d) → set_list d e v G i h ≡ G i h
      at_other n = ap (λ (b : Bool). cond b (cond (eqb h e) v (G i h)) (G i h)) (ne_eqb i d n)

      at-d : i ≡ d → set_list d e v G i h ≡ cond (eqb h e) v (G i h)
      at-d z = ap (λ (b : Bool). cond b (cond (eqb h e) v (G i h)) (G i h)) (eq-eqb i d z)

      go : Dec (i ≡ d) → Dec (h ≡ e) → member_of h (g i) ≡ set_list d e v G i h
      go (no n) _ = sym (ap (member_of h) (put-there d ms g i n)) ∙ sym (at_other n)
      go (yes z) (yes w) = ap (λ j. member_of h (g j)) z ∙ ap (λ f. member_of f (g d)) w ∙ was ∙ sym (ap (λ (b : Bool). cond b v (G i h)) (eq-eqb h e w)) ∙ sym (at-d z)
      go (yes z) (no n) = lists-put i h n ∙ sym (ap (λ (b : Bool). cond b v (G i h)) (ne_eqb h e n)) ∙ sym (at-d z)

pub has-mid : (k : ℕ) (A : List Leaf) (l : Leaf) (B : List Leaf) → l.desc.key ≡ k → Has k l.num (A ++ l ∷ B)
has-mid k [] l B e = inl (e, refl)
has-mid k (x ∷ A) l B e = inr (has-mid k A l B e)

pub in_left : (j : ℕ) (a b : List ℕ) → In j a → In j (a ++ b)
in_left j [] b x' = elim x' [ ]
in_left j (i ∷ a) b (inl e) = inl e
in_left j (i ∷ a) b (inr h) = inr (in_left j a b h)

pub in_right : (j : ℕ) (a b : List ℕ) → In j b → In j (a ++ b)
in_right j [] b h = h
in_right j (i ∷ a) b h = inr (in_right j a b h)
