-- A group's members by words and in the meaning: each comes in if it is not in yet exactly if the records are linked back, their entries are in 1 to M,
-- and no entry is listed twice.
use Rattle.std.specs.Prelude.{◌≡◌, Bool, true, not, ◌||◌, ◌⊎◌, ◌↔◌, ℕ, suc, ◌≤◌, eqb, length}
use Rattle.std.proofs.Math.Path.{refl, ap}
use Rattle.std.proofs.Common.{sym, subst, ◌∙◌, inl, inr, arith, eq-eqb, ne_eqb, eqb-true}
use Rattle.std.proofs.Math.Bool.{cond}
use Rattle.std.proofs.lemmas.Bool.{false≢true}
use mathlib.Core.List.{List, [], ◌∷◌, map}
use Rattle.std.proofs.Math.Decide.{ℕ_discrete}
use Rattle.words.specs.Store.{word_of}
use Rattle.groups.specs.Descriptor.{descriptor_at, decode_descriptor}
use Rattle.groups.specs.Membership.{decode_membership}
use Rattle.sessions.specs.declared.Session.{Session}
use Rattle.machine.specs.Holders.{elem}
use Rattle.machine.specs.Housekeeping.{lvs}
use Rattle.machine.specs.Sound.{UpTo, ListedTo}
use Rattle.machine.specs.Keys.{elem-with}
use Rattle.machine.specs.Looks.{with-upto}
use Rattle.meaning.specs.Reading.{Chained, gather, member_chain, member_entries, desc_at, Leaf, M-of, R-of, meaning}
use Rattle.meaning.specs.Sound.{All, Apart, Once, Linked, Members, member_record, leaves_of}
use Rattle.undos.specs.Undo.{undo_at}
use Rattle.soundness.specs.Marking.{In, all_from}
use Rattle.soundness.specs.HoldersTests.{or-either}
use Rattle.soundness.specs.ListsPass.{By, set_by, nobody, Comes, come, Undoes}
use Rattle.soundness.specs.Leaves.{stored_records, lvs-meaning, entries-meaning}

-- An entry of a store of m entries.
abbrev pub EntryOf : ℕ → ℕ → Type 0
EntryOf m e = (1 ≤ e) × (e ≤ m)

-- The members of a group: each names the one before it, and an entry of the store; none twice.
pub record Entered (s : List ℕ) (m : ℕ) (ms : List ℕ) : Type 0 where
  pub linked : Linked s m 0 ms
  pub inside : All (EntryOf m) (member_entries s m ms)
  pub once : Once (member_entries s m ms)

set_here : (e i : ℕ) (g : By) → set_by e i g e ≡ i
set_here e i g = rw (eq-eqb e e refl) refl

set_there : (e f i : ℕ) (g : By) → ¬ (f ≡ e) → set_by e i g f ≡ g f
set_there e f i g n = rw (ne_eqb f e n) refl

-- Where e is set to what is not 0, an entry with 0 is another, and had 0 before.
zero-before : (e i f : ℕ) (g : By) → ¬ (i ≡ 0) → set_by e i g f ≡ 0 → ¬ (e ≡ f) × (g f ≡ 0)
zero-before e i f g n z = go (ℕ_discrete f e)
  where
    go : Dec (f ≡ e) → ¬ (e ≡ f) × (g f ≡ 0)
    go (yes q) = absurd (n (sym (ap (set_by e i g) q ∙ set_here e i g) ∙ z))
    go (no q) = (λ w. q (sym w), sym (set_there e f i g q) ∙ z)

-- The records of a chain are not 0.
pub chained-some : (s : List ℕ) (m i : ℕ) (l : List ℕ) → Chained s m i l → All (λ j. ¬ (j ≡ 0)) l
chained-some s m i [] c = tt
chained-some s m i (j ∷ l) c = (λ z. c.1 (c.0 ∙ z), chained-some s m (word_of s m i 0) l c.2)

module _ (s : List ℕ) (m d : ℕ) (small : m ≤ 1024) (nd : ¬ (d ≡ 0)) where
  -- From any member on, and with some entries listed by now.
  come-words : (before : ℕ) (ms : List ℕ) (g : By) → All (λ j. ¬ (j ≡ 0)) ms → Comes s m d small nd before ms g
      → Linked s m before ms × All (EntryOf m) (member_entries s m ms) × Once (member_entries s m ms) × All (λ e. g e ≡ 0) (member_entries s m ms)
  unfolding decode_membership
  come-words before [] g nz c = (tt, tt, tt, tt)
  come-words before (i ∷ ms) g nz c =
      let w = come-words i ms (set_by (word_of s m i 2) i g) nz.1 c.3 in
      let q = split (member_entries s m ms) w.3 in
      ((c.0, w.0), (c.1, w.1), (q.0, w.2), (c.2, q.1))
    where
      split : (es : List ℕ) → All (λ f. set_by (word_of s m i 2) i g f ≡ 0) es → Apart (word_of s m i 2) es × All (λ f. g f ≡ 0) es
      split [] a = (tt, tt)
      split (f ∷ es) a =
          let b = zero-before (word_of s m i 2) i f g nz.0 a.0 in
          let t = split es a.1 in
          ((b.0, t.0), (b.1, t.1))

  words-come : (before : ℕ) (ms : List ℕ) (g : By) → Linked s m before ms → All (EntryOf m) (member_entries s m ms) → Once (member_entries s m ms)
      → All (λ e. g e ≡ 0) (member_entries s m ms) → Comes s m d small nd before ms g
  unfolding decode_membership
  words-come before [] g l a o z = tt
  words-come before (i ∷ ms) g l a o z = (l.0, a.0, z.0, words-come i ms (set_by (word_of s m i 2) i g) l.1 a.1 o.1 (join (member_entries s m ms) o.0 z.1))
    where
      join : (es : List ℕ) → Apart (word_of s m i 2) es → All (λ f. g f ≡ 0) es → All (λ f. set_by (word_of s m i 2) i g f ≡ 0) es
      join [] a b = tt
      join (f ∷ es) a b = (set_there (word_of s m i 2) f i g (λ q. a.0 (sym q)) ∙ b.0, join es a.1 b.1)

  none-listed : (es : List ℕ) → All (λ e. nobody e ≡ 0) es
  none-listed [] = tt
  none-listed (e ∷ es) = (refl, none-listed es)

  -- The members come in so exactly if their words say it.
  pub comes-is : (ms : List ℕ) → All (λ j. ¬ (j ≡ 0)) ms → Comes s m d small nd 0 ms nobody ↔ Entered s m ms
  comes-is ms nz = (
    λ c. let w = come-words 0 ms nobody nz c in record { linked = w.0; inside = w.1; once = w.2 },
    λ w. words-come 0 ms nobody w.linked w.inside w.once (none-listed (member_entries s m ms)),
  )

  -- ---- by which record an entry is listed

  come-apart : (ms : List ℕ) (g : By) (e : ℕ) → Apart e (member_entries s m ms) → come s m d small nd ms g e ≡ g e
  unfolding decode_membership
  come-apart [] g e a = refl
  come-apart (i ∷ ms) g e a = come-apart ms (set_by (word_of s m i 2) i g) e a.1 ∙ set_there (word_of s m i 2) e i g a.0

  come-by : (ms : List ℕ) (g : By) (e : ℕ) → g e ≡ 0 → Once (member_entries s m ms) → come s m d small nd ms g e ≡ member_record s m e ms
  unfolding decode_membership member_record
  come-by [] g e z o = z
  come-by (i ∷ ms) g e z o = go (ℕ_discrete (word_of s m i 2) e) (come-by ms (set_by (word_of s m i 2) i g) e)
    where
      go : Dec (word_of s m i 2 ≡ e) → (set_by (word_of s m i 2) i g e ≡ 0 → Once (member_entries s m ms) → come s m d small nd ms (set_by (word_of s m i 2) i g) e ≡ member_record s m e ms)
          → come s m d small nd ms (set_by (word_of s m i 2) i g) e ≡ cond (eqb (word_of s m i 2) e) i (member_record s m e ms)
      go (yes q) ih =
          come-apart ms (set_by (word_of s m i 2) i g) e (subst (λ x. Apart x (member_entries s m ms)) q o.0) ∙ ap (set_by (word_of s m i 2) i g) (sym q) ∙ set_here (word_of s m i 2) i g
          ∙ ap (λ (b : Bool). cond b i (member_record s m e ms)) (sym (eq-eqb (word_of s m i 2) e q))
      go (no n) ih = ih (set_there (word_of s m i 2) e i g (λ q. n (sym q)) ∙ z) o.1 ∙ ap (λ (b : Bool). cond b i (member_record s m e ms)) (sym (ne_eqb (word_of s m i 2) e n))

  pub come-is : (ms : List ℕ) → Once (member_entries s m ms) → (e : ℕ) → come s m d small nd ms nobody e ≡ member_record s m e ms
  come-is ms o e = come-by ms nobody e refl o

  -- Undoing looks only at the records by which entries are listed.
  pub undoes-same : (nc : ¬ (d ≡ 0)) (us : List ℕ) (g h : By) → ((e : ℕ) → g e ≡ h e) → Undoes s m d small nd us g → Undoes s m d small nc us h
  undoes-same nc [] g h q u = tt
  undoes-same nc (i ∷ us) g h q u = (
    u.0,
    λ k. (sym (q (undo_at s m i).entry) ∙ (u.1 k).0, (u.1 k).1),
    λ k. sym (q (undo_at s m i).entry) ∙ u.2 k,
    undoes-same nc us (set_by (undo_at s m i).entry (cond (eqb (undo_at s m i).kind 2) 0 i) g) (set_by (undo_at s m i).entry (cond (eqb (undo_at s m i).kind 2) 0 i) h)
        (λ e. ap (cond (eqb e (undo_at s m i).entry) (cond (eqb (undo_at s m i).kind 2) 0 i)) (q e)) u.3,
  )

-- ---- the members of the meaning

elem-gather : (e : ℕ) (es : List ℕ) → elem e (gather es) ≡ elem e es
elem-gather e [] = refl
elem-gather e (f ∷ es) = elem-with e f (gather es) ∙ ap (λ b. eqb e f || b) (elem-gather e es)

elem-record : (s : List ℕ) (m e : ℕ) (ms : List ℕ) → All (λ j. ¬ (j ≡ 0)) ms → elem e (member_entries s m ms) ≡ not (eqb (member_record s m e ms) 0)
unfolding member_record
elem-record s m e [] nz = refl
elem-record s m e (i ∷ ms) nz = go (ℕ_discrete (word_of s m i 2) e) (elem-record s m e ms nz.1)
  where
    go : Dec (word_of s m i 2 ≡ e) → elem e (member_entries s m ms) ≡ not (eqb (member_record s m e ms) 0)
        → (eqb e (word_of s m i 2) || elem e (member_entries s m ms)) ≡ not (eqb (cond (eqb (word_of s m i 2) e) i (member_record s m e ms)) 0)
    go (yes q) ih = rw (eq-eqb e (word_of s m i 2) (sym q), eq-eqb (word_of s m i 2) e q, ne_eqb i 0 nz.0) refl
    go (no n) ih = rw (ne_eqb e (word_of s m i 2) (λ q. n (sym q)), ne_eqb (word_of s m i 2) e n) ih

-- An entry is a member exactly if some record lists it.
pub member-listed : (s : List ℕ) (m r d e : ℕ) → Chained s m (word_of s m d 6) (member_chain s m r d)
    → elem e (desc_at s m r d).members ≡ not (eqb (member_record s m e (member_chain s m r d)) 0)
member-listed s m r d e c = elem-gather e (member_entries s m (member_chain s m r d)) ∙ elem-record s m e (member_chain s m r d) (chained-some s m (word_of s m d 6) (member_chain s m r d) c)

gather-upto : (m : ℕ) (es : List ℕ) → All (EntryOf m) es → UpTo 1 m (gather es)
gather-upto m [] a = tt
gather-upto m (e ∷ es) a = with-upto e 1 m (gather es) a.0.0 a.0.1 (gather-upto m es a.1)

upto-elem : (lo m e : ℕ) (es : List ℕ) → UpTo lo m es → elem e es ≡ true → (lo ≤ e) × (e ≤ m)
upto-elem lo m e [] u h = absurd (false≢true h)
upto-elem lo m e (f ∷ es) u h = go ((or-either (eqb e f) (elem e es)).0 h) (upto-elem (suc f) m e es u.2)
  where
    go : (eqb e f ≡ true) ⊎ (elem e es ≡ true) → (elem e es ≡ true → (suc f ≤ e) × (e ≤ m)) → (lo ≤ e) × (e ≤ m)
    go (inl q) ih = let z = eqb-true e f q in (omega (arith, z, u.0), omega (arith, z, u.1))
    go (inr q) ih = let w = ih q in (omega (arith, w.0, u.0), w.1)

in-elem : (e : ℕ) (es : List ℕ) → In e es → elem e es ≡ true
in-elem e [] x' = elim x' [ ]
in-elem e (f ∷ es) (inl q) = (or-either (eqb e f) (elem e es)).1 (inl (eq-eqb e f q))
in-elem e (f ∷ es) (inr h) = (or-either (eqb e f) (elem e es)).1 (inr (in-elem e es h))

upto-gather : (m : ℕ) (es : List ℕ) → UpTo 1 m (gather es) → All (EntryOf m) es
upto-gather m es u = all_from es (λ e h. upto-elem 1 m e (gather es) u (elem-gather e es ∙ in-elem e es h))

-- ---- all groups

pub all_map : {A B : Type 0} (P : B → Type 0) (f : A → B) (l : List A) → All P (map f l) ↔ All (λ x. P (f x)) l
all_map P f [] = (λ a. tt, λ a. tt)
all_map P f (x ∷ l) = let ih = all_map P f l in (λ a. (a.0, ih.0 a.1), λ a. (a.0, ih.1 a.1))

listed-is : (s : List ℕ) (m r : ℕ) (ds : List ℕ) → ListedTo m (map (desc_at s m r) ds) ↔ All (λ d. UpTo 1 m (desc_at s m r d).members) ds
listed-is s m r [] = (λ a. tt, λ a. tt)
listed-is s m r (d ∷ ds) = let ih = listed-is s m r ds in (λ a. (a.0, ih.0 a.1), λ a. (a.0, ih.1 a.1))

-- What soundness says of the members.
pub record MembersSound (s : List ℕ) (t : List Session) : Type 0 where
  pub listed : ListedTo (length (meaning s t).entries) (lvs (meaning s t))
  pub members : All (λ l. Members s l.num) (leaves_of s)

listed-meaning : (s : List ℕ) (t : List Session)
    → ListedTo (length (meaning s t).entries) (lvs (meaning s t)) ≡ ListedTo (M-of s) (map (desc_at s (M-of s) (R-of s)) (stored_records s))
listed-meaning s t = ap (λ n. ListedTo n (lvs (meaning s t))) (entries-meaning s t) ∙ ap (ListedTo (M-of s)) (lvs-meaning s t)

module _ (s : List ℕ) (small : M-of s ≤ 1024) where
  -- The members of descriptor d are a whole chain, and come in one after the other.
  pub record MembersCome (d : ℕ) : Type 0 where
    pub some : ¬ (d ≡ 0)
    pub chained : Chained s (M-of s) (descriptor_at s (M-of s) d).first (member_chain s (M-of s) (R-of s) d)
    pub comes : Comes s (M-of s) d small some 0 (member_chain s (M-of s) (R-of s) d) nobody

  come-members-of : (d : ℕ) → MembersCome d → Members s d × UpTo 1 (M-of s) (desc_at s (M-of s) (R-of s) d).members
  unfolding decode_descriptor
  come-members-of d C =
      let ms = member_chain s (M-of s) (R-of s) d in
      let w = (comes-is s (M-of s) d small C.some ms (chained-some s (M-of s) (word_of s (M-of s) d 6) ms C.chained)).0 C.comes in
      (record { ends = C.chained; once = w.once; linked = w.linked }, gather-upto (M-of s) (member_entries s (M-of s) ms) w.inside)

  members-come-of : (d : ℕ) → ¬ (d ≡ 0) → Members s d → UpTo 1 (M-of s) (desc_at s (M-of s) (R-of s) d).members → MembersCome d
  unfolding decode_descriptor
  members-come-of d nd W u =
      let ms = member_chain s (M-of s) (R-of s) d in
      record {
        some = nd;
        chained = W.ends;
        comes = (comes-is s (M-of s) d small nd ms (chained-some s (M-of s) (word_of s (M-of s) d 6) ms W.ends)).1
            (record { linked = W.linked; inside = upto-gather (M-of s) (member_entries s (M-of s) ms) u; once = W.once });
      }

  -- By which record an entry is listed.
  pub come-record : (d : ℕ) (C : MembersCome d) (e : ℕ)
      → come s (M-of s) d small C.some (member_chain s (M-of s) (R-of s) d) nobody e ≡ member_record s (M-of s) e (member_chain s (M-of s) (R-of s) d)
  come-record d C = come-is s (M-of s) d small C.some (member_chain s (M-of s) (R-of s) d) (come-members-of d C).0.once

  come-all : (ds : List ℕ) → All MembersCome ds → All (Members s) ds × All (λ d. UpTo 1 (M-of s) (desc_at s (M-of s) (R-of s) d).members) ds
  come-all [] a = (tt, tt)
  come-all (d ∷ ds) a = let w = come-members-of d a.0 in let v = come-all ds a.1 in ((w.0, v.0), (w.1, v.1))

  all_come : (ds : List ℕ) → All (λ d. ¬ (d ≡ 0)) ds → All (Members s) ds → All (λ d. UpTo 1 (M-of s) (desc_at s (M-of s) (R-of s) d).members) ds → All MembersCome ds
  all_come [] n a b = tt
  all_come (d ∷ ds) n a b = (members-come-of d n.0 a.0 b.0, all_come ds n.1 a.1 b.1)

  -- The members of all groups come in so exactly if they are sound.
  pub come-sound : (t : List Session) → All MembersCome (stored_records s) → MembersSound s t
  come-sound t a =
      let w = come-all (stored_records s) a in
      record {
        listed = subst (λ X. X) (sym (listed-meaning s t)) ((listed-is s (M-of s) (R-of s) (stored_records s)).1 w.1);
        members = (all_map (Members s) (λ (l : Leaf). l.num) (leaves_of s)).0 w.0;
      }

  pub sound-come : (t : List Session) → All (λ d. ¬ (d ≡ 0)) (stored_records s) → MembersSound s t → All MembersCome (stored_records s)
  sound-come t n S =
      all_come (stored_records s) n ((all_map (Members s) (λ (l : Leaf). l.num) (leaves_of s)).1 S.members)
      ((listed-is s (M-of s) (R-of s) (stored_records s)).0 (subst (λ X. X) (listed-meaning s t) S.listed))
