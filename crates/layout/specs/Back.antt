-- Words that hold a layout mean what the layout means; and they are sound if it means a sound state.
use Rattle.std.specs.Prelude.{◌≡◌, refl, Bool, false, cond, List, [], ◌∷◌, ◌++◌, map, eqb}
use Rattle.std.proofs.Math.Path.{sym, ap, subst}
use Rattle.std.proofs.Common.{ap₂, ◌∙◌, append_assoc, append-nil, inl, inr, arith, eq-eqb, ne_eqb}
use Rattle.std.proofs.Math.Option.{some}
use Prim.Native.Nat.{ℕ, zero, suc, ◌+◌, ◌≤◌, ◌<◌}
use Rattle.std.proofs.Math.ListN.{length}
use Rattle.words.specs.Store.{word_of}
use Rattle.words.specs.Header.{header_word, root_place, first_place, free_place}
use Rattle.sessions.specs.declared.Session.{Session}
use Rattle.sessions.specs.Sessions.{session_at}
use Rattle.machine.specs.Tree.{leaves}
use Rattle.machine.specs.Holders.{width, latch_word}
use Rattle.machine.specs.State.{Undo, value, added, taken, State, top, session_of}
use Rattle.machine.specs.Sound as M
use Rattle.machine.specs.Sound.{times, Room, stands, of_hand}
use Rattle.machine.specs.Groups.{Rises}
use Rattle.machine.specs.Looks.{sound-ordered, ordered-rises}
use Rattle.meaning.specs.Reading.{chain, Chained, member_chain, member_entries, Leaf, Mark, Numbered, read_tree, erase, numbers, node_numbers, undo_at, hand_of, session-of, sessions_of, M-of, R-of, height_of, tree_of, free_chain, meaning}
use Rattle.meaning.specs.Sound.{All, leaves_of, joined, undo_chains, owners, Once, Linked, Members, record_of, StandsAtNode, Hand, Lists, member_record, lists, set_list, UndoWords, Sound}
use Rattle.meaning.specs.Numbers.{In, all_in, all-as, all_both, map-all}
use Rattle.meaning.specs.Frame.{leaf_records, chain-is}
use Rattle.meaning.specs.Parts.{root_from, state_from, meaning-from}
use Rattle.meaning.specs.Around.{num_of}
use Rattle.meaning.specs.Table.{session_is}
use Rattle.meaning.specs.Lens.{descs, leaves-erase}
use Rattle.meaning.specs.Latched.{at_request}
use Rattle.layout.specs.Layout.{Undone, Lay, leaves_in, firsts, undo_numbers, session_in, sessions_in, means, DescFits, UndoFits, members_of, undos_from, all_records, Has, Marked, member_of, lists_in, NamedAs, Named, Holds}
use Rattle.layout.specs.Row.{Becomes}
use Rattle.layout.specs.Short.{free-short, members-short, undos-short}
use Rattle.layout.specs.Read.{tree-descs, tree-few, marked-word, entries-read, Grouped, members-read, tree-read}
use Rattle.layout.specs.Placed.{marked-place}

-- ---- the descriptor that is named

pub has_in : (k d : ℕ) (ls : List Leaf) → Has k d ls → In d (leaf_records ls)
has_in k d [] x' = elim x' [ ]
has_in k d (l ∷ ls) (inl q) = inl (sym q.1)
has_in k d (l ∷ ls) (inr h) = inr (has_in k d ls h)

pub has_key : (s : List ℕ) (m k d : ℕ) (ls : List Leaf) → All (DescFits s m) ls → Has k d ls → word_of s m d 1 ≡ k
has_key s m k d [] F x'' = elim x'' [ ]
has_key s m k d (l ∷ ls) F (inl q) = ap (λ j. word_of s m j 1) (sym q.1) ∙ F.0.key ∙ q.0
has_key s m k d (l ∷ ls) F (inr h) = has_key s m k d ls F.1 h

has-from : (k d lo e : ℕ) (ls : List Leaf) → Rises lo e (descs ls) → Has k d ls → lo ≤ k
has-from k d lo e [] r x'' = elim x'' [ ]
has-from k d lo e (l ∷ ls) r (inl q) = let z = q.0 in omega (arith, z, r.0.0)
has-from k d lo e (l ∷ ls) r (inr h) = omega (arith, r.0.0, has-from k d (suc l.desc.key) e ls r.1 h)

-- Keys rise: it is the one that is found.
pub has-record : (k d lo e : ℕ) (ls : List Leaf) → Rises lo e (descs ls) → Has k d ls → record_of k ls ≡ d
unfolding record_of
has-record k d lo e [] r x'' = elim x'' [ ]
has-record k d lo e (l ∷ ls) r (inl q) = rw (eq-eqb l.desc.key k q.0) q.1
has-record k d lo e (l ∷ ls) r (inr h) =
    let from = has-from k d (suc l.desc.key) e ls r.1 h in
    rw (ne_eqb l.desc.key k (λ z. omega (arith, z, from))) (has-record k d (suc l.desc.key) e ls r.1 h)

-- ---- undo records

-- What an undo record names.
abbrev Names : List Leaf → ℕ → Undo → Type 0
Names ls d (value e v) = Unit {0}
Names ls d (added e k) = Has k d ls
Names ls d (taken e k) = Has k d ls

named-cases : (ls : List Leaf) (older : Lists → Type 0) (g : Lists) (i saved d : ℕ) (y : Undo) → NamedAs ls older g i saved d y → Names ls d y × ((g' : Lists) × older g')
named-cases ls older g i saved d (value e v) n = (tt, (g, n))
named-cases ls older g i saved d (added e k) n = (n.0, (set_list d e 0 g, n.2))
named-cases ls older g i saved d (taken e k) n = (n.0, (set_list d e i g, n.1))

module _ (s : List ℕ) (m : ℕ) (ls : List Leaf) (D : All (DescFits s m) ls) where
  abbrev named_key : ℕ → ℕ
  named_key i = word_of s m (word_of s m i 4) 1

  key_is : (i k d : ℕ) → word_of s m i 4 ≡ d → Has k d ls → named_key i ≡ k
  key_is i k d e h = ap (λ j. word_of s m j 1) e ∙ has_key s m k d ls D h

  undo-is : (i saved d : ℕ) (y : Undo) → UndoFits s m i saved d y → Names ls d y → undo_at s m i ≡ y
  undo-is i saved d (value e v) F n = rw (eq-eqb (word_of s m i 1) 1 F.0) (ap₂ value F.1 F.2)
  undo-is i saved d (added e k) F n =
      let w = F.0 in
      rw (ne_eqb (word_of s m i 1) 1 (λ q. omega (arith, q, w)), eq-eqb (word_of s m i 1) 2 w) (ap₂ added F.1 (key_is i k d F.3 n))
  undo-is i saved d (taken e k) F n =
      let w = F.0 in
      rw (ne_eqb (word_of s m i 1) 1 (λ q. omega (arith, q, w)), ne_eqb (word_of s m i 1) 2 (λ q. omega (arith, q, w))) (ap₂ taken F.1 (key_is i k d F.2 n))

  undos-are : (us : List Undone) (g : Lists) → All (λ u. UndoFits s m u.num u.saved u.descriptor u.undo) us → Named ls us g
      → map (undo_at s m) (undo_numbers us) ≡ map (λ y. y.undo) us
  undos-are [] g F n = refl
  undos-are (u ∷ us) g F n =
      let c = named-cases ls (Named ls us) g u.num u.saved u.descriptor u.undo n in
      ap₂ (λ x l. x ∷ l) (undo-is u.num u.saved u.descriptor u.undo F.0 c.0) (undos-are us c.1.0 F.1 c.1.1)

-- ---- sessions

module _ (s : List ℕ) (m r : ℕ) (u : ℕ → List Undone) where
  sessions-are : (q : ℕ) (t : List Session) → ((p n : ℕ) → p < length t → n ≡ q + p → session-of s m r n (session_at t p) ≡ session_in u n (session_at t p))
      → sessions_of s m r q t ≡ sessions_in u q t
  sessions-are q [] f = refl
  sessions-are q (x ∷ t) f =
      ap₂ (λ y l. y ∷ l) (f 0 q (omega arith) (omega arith)) (sessions-are (suc q) t (λ p n l e. f (suc p) n (omega (arith, l)) (omega (arith, e))))

  session-read : (p : ℕ) (x : Session) → ((k : ℕ) → p ≡ suc k → map (undo_at s m) (chain s m r x.undo) ≡ map (λ y. y.undo) (u (suc k)))
      → session-of s m r p x ≡ session_in u p x
  session-read zero x f = refl
  session-read (suc p) x f = ap (λ l. record { begun = (session-of s m r (suc p) x).begun; order = (session-of s m r (suc p) x).order; hand = hand_of x; undos = l; asked = (session-of s m r (suc p) x).asked }) (f p refl)

-- ---- the meaning

module _ (s : List ℕ) (t : List Session) (L : Lay) (H : Holds s t L) where
  pub grouped : All (Grouped s (M-of s) (R-of s) L.members) (leaves_in L)
  grouped =
      all_both (λ l G b. (G, subst (λ n. length (firsts (L.members l.num)) ≤ n) (sym H.fits.records) b)) (leaves_in L) H.fits.groups (members-short L H.owned)

  pub tree_is : read_tree s (M-of s) (R-of s) (suc L.height) (num_of (suc L.height) L.tree) top ≡ L.tree
  tree_is = tree-read s (M-of s) (R-of s) L.members (suc L.height) top L.tree H.fits.tree grouped

  pub height-is : height_of s ≡ L.height
  height-is = omega (arith, H.fits.height)

  -- What is true of the layout's tree is true of the tree that is read.
  pub tree_over : (P : (h : ℕ) → Numbered (suc h) → Type 0) → P L.height L.tree → P (height_of s) (tree_of s)
  unfolding tree_of
  tree_over P p =
      let m = M-of s in
      let r = R-of s in
      let a = subst (P L.height) (sym tree_is) p in
      let b = subst (λ i. P L.height (read_tree s m r (suc L.height) i top)) (sym H.fits.root) a in
      subst (λ h. P h (read_tree s m r (suc h) (header_word s root_place) top)) (sym height-is) b

  pub leaves-are : leaves_of s ≡ leaves_in L
  leaves-are = tree_over (λ h x. leaves Leaf Mark (suc h) x ≡ leaves_in L) refl

  pub free_is : free_chain s ≡ L.free
  free_is =
      chain-is s (M-of s) (R-of s) (header_word s free_place) L.free H.fits.free (subst (λ n. length L.free ≤ n) (sym H.fits.records) (free-short L H.owned))

  pub undo-chain-is : (p : ℕ) → suc p ≤ width → chain s (M-of s) (R-of s) (session_at t (suc p)).undo ≡ undo_numbers (L.undos (suc p))
  undo-chain-is p l =
      let us = undo_numbers (L.undos (suc p)) in
      chain-is s (M-of s) (R-of s) (session_at t (suc p)).undo us (H.fits.undos p l).chained
      (subst (λ n. length us ≤ n) (sym H.fits.records) (undos-short L H.owned p l))

  pub descs-fit : All (DescFits s (M-of s)) (leaves_in L)
  descs-fit = tree-descs s (M-of s) (suc L.height) top L.tree H.fits.tree

  pub undos-read : (p : ℕ) → suc p ≤ width → map (undo_at s (M-of s)) (chain s (M-of s) (R-of s) (session_at t (suc p)).undo) ≡ map (λ y. y.undo) (L.undos (suc p))
  undos-read p l =
      ap (map (undo_at s (M-of s))) (undo-chain-is p l)
      ∙ undos-are s (M-of s) (leaves_in L) descs-fit (L.undos (suc p)) (lists_in L) (H.fits.undos p l).words (H.named p l)

  table_is : sessions_of s (M-of s) (R-of s) 0 t ≡ sessions_in L.undos 0 t
  table_is =
      sessions-are s (M-of s) (R-of s) L.undos 0 t
      (λ p n l e. session-read s (M-of s) (R-of s) L.undos n (session_at t p)
      (λ k q. subst (λ j. map (undo_at s (M-of s)) (chain s (M-of s) (R-of s) (session_at t j).undo) ≡ map (λ y. y.undo) (L.undos (suc k)))
      (let z : suc k ≡ p = omega (arith, e, q) in z) (undos-read k (omega (arith, l, e, q, H.seats)))))

  means_is : meaning s t ≡ means L t
  unfolding state_from root_from means
  means_is =
      let at : ℕ → ℕ → State = λ h i. state_from s t (M-of s) (R-of s) h i (header_word s free_place) in
      let f = ap length free_is in
      meaning-from s t
      ∙ (λ j. at (height-is j) (H.fits.root j))
      ∙ (λ j. record {
        entries = H.fits.entries j;
        root = record { height = L.height; node = erase (suc L.height) (tree_is j) };
        free = f j;
        table = table_is j;
        records = H.fits.records j;
      })

pub holds-means : (s : List ℕ) (t : List Session) (L : Lay) → Holds s t L → meaning s t ≡ means L t
holds-means s t L H = means_is s t L H

-- ---- owners

joined-append : (a b : List (List ℕ)) → joined (a ++ b) ≡ joined a ++ joined b
joined-append [] b = refl
joined-append (l ∷ a) b = ap (λ k. l ++ k) (joined-append a b) ∙ sym (append_assoc l (joined a) (joined b))

members-owned : (s : List ℕ) (m r : ℕ) (g : ℕ → List (ℕ × ℕ)) (ls : List Leaf) → All (Grouped s m r g) ls
    → joined (map (λ l. member_chain s m r l.num) ls) ≡ members_of g ls
members-owned s m r g [] G = refl
members-owned s m r g (l ∷ ls) G = ap₂ (λ a b. a ++ b) (members-read s m r g l G.0) (members-owned s m r g ls G.1)

module _ (s : List ℕ) (u : ℕ → List Undone) where
  abbrev undo_chain : Session → List ℕ
  undo_chain y = chain s (M-of s) (R-of s) y.undo

  chains-owned : (q : ℕ) (t : List Session) → ((p n : ℕ) → p < length t → n ≡ q + p → undo_chain (session_at t p) ≡ undo_numbers (u n))
      → joined (map undo_chain t) ≡ undos_from u q (length t)
  chains-owned q [] f = refl
  chains-owned q (x ∷ t) f =
      ap₂ (λ a b. a ++ b) (f 0 q (omega arith) (omega arith)) (chains-owned (suc q) t (λ p n l e. f (suc p) n (omega (arith, l)) (omega (arith, e))))

  undos-owned : (t : List Session) → length t ≡ suc width → ((p : ℕ) → suc p ≤ width → undo_chain (session_at t (suc p)) ≡ undo_numbers (u (suc p)))
      → joined (undo_chains s t) ≡ undos_from u 1 width
  undos-owned [] e f = absurd (omega (arith, e))
  undos-owned (x ∷ t) e f =
      let long : length t ≡ width = omega (arith, e) in
      chains-owned 1 t (λ p n l q. let z : suc p ≡ n = omega (arith, q) in f p (omega (arith, l, long)) ∙ ap (λ j. undo_numbers (u j)) z)
      ∙ ap (undos_from u 1) long

-- ---- members

member-found : (s : List ℕ) (m e : ℕ) (c : List (ℕ × ℕ)) → All (λ q. word_of s m q.0 2 ≡ q.1) c → member_record s m e (firsts c) ≡ member_of e c
unfolding member_record member_of
member-found s m e [] a = refl
member-found s m e (q ∷ c) a = ap₂ (λ x y. cond (eqb x e) q.0 y) a.0 (member-found s m e c a.1)

-- ---- what undo records name

module _ (s : List ℕ) (ls : List Leaf) (found : (k d : ℕ) → Has k d ls → record_of k (leaves_of s) ≡ d) (D : All (DescFits s (M-of s)) ls) where
  -- The same lists of members at each descriptor.
  abbrev Agree : Lists → Lists → Type 0
  Agree g g' = (c f : ℕ) → In c (leaf_records ls) → g' c f ≡ g c f

  abbrev w : ℕ → ℕ → ℕ
  w i k = word_of s (M-of s) i k

  -- The lists that an undo record of a kind leaves.
  abbrev left_by : ℕ → Lists → Lists
  left_by i g = cond (eqb (w i 1) 1) g (set_list (w i 4) (w i 2) (cond (eqb (w i 1) 2) 0 i) g)

  named-record : (i k d : ℕ) → w i 4 ≡ d → Has k d ls → w i 4 ≡ record_of (w (w i 4) 1) (leaves_of s)
  named-record i k d e h = e ∙ sym (ap (λ x. record_of x (leaves_of s)) (key_is s (M-of s) ls D i k d e h) ∙ found k d h)

  left-value : (i : ℕ) (g g' : Lists) → w i 1 ≡ 1 → Agree g g' → Agree g (left_by i g')
  left-value i g g' e a c f h = ap (λ b. cond b g' (set_list (w i 4) (w i 2) (cond (eqb (w i 1) 2) 0 i) g') c f) (eq-eqb (w i 1) 1 e) ∙ a c f h

  left_other : (i d e n : ℕ) (g g' : Lists) → (w i 1 ≡ 1 → ⊥) → w i 4 ≡ d → w i 2 ≡ e → ◌≡◌ {A = ℕ} (cond (eqb (w i 1) 2) 0 i) n → Agree g g' → Agree (set_list d e n g) (left_by i g')
  left_other i d e n g g' o x y z a c f h =
      let b = ne_eqb (w i 1) 1 o in
      (λ j. cond (b j) g' (set_list (x j) (y j) (z j) g') c f) ∙ ap (λ v. cond (eqb c d) (cond (eqb f e) n v) v) (a c f h)

  word-cases : (l : List ℕ) (older : Lists → Type 0) → ((g g' : Lists) → Agree g g' → older g → UndoWords s l g') → (i saved d : ℕ) (y : Undo) (g g' : Lists) → Agree g g'
      → UndoFits s (M-of s) i saved d y → NamedAs ls older g i saved d y → UndoWords s (i ∷ l) g'
  word-cases l older k i saved d (value e v) g g' a F n =
      let q = F.0 in
      ((omega (arith, q), omega (arith, q)), λ z. absurd (z q), λ z. absurd (omega (arith, q, z)), k g (left_by i g') (left-value i g g' q a) n)
  word-cases l older k i saved d (added e j) g g' a F n =
      let q = F.0 in (
        (omega (arith, q), omega (arith, q)),
        λ z. named-record i j d F.3 n.0,
        λ z. ap₂ g' F.3 F.1 ∙ a d e (has_in j d ls n.0) ∙ n.1 ∙ sym F.2,
        k (set_list d e 0 g) (left_by i g')
            (left_other i d e 0 g g' (λ z. omega (arith, q, z)) F.3 F.1 (ap (λ (b : Bool). cond {A = ℕ} b 0 i) (eq-eqb (w i 1) 2 q)) a) n.2,
      )
  word-cases l older k i saved d (taken e j) g g' a F n =
      let q = F.0 in (
        (omega (arith, q), omega (arith, q)),
        λ z. named-record i j d F.2 n.0,
        λ z. absurd (omega (arith, q, z)),
        k (set_list d e i g) (left_by i g')
            (left_other i d e i g g' (λ z. omega (arith, q, z)) F.2 F.1 (ap (λ (b : Bool). cond {A = ℕ} b 0 i) (ne_eqb (w i 1) 2 (λ z. omega (arith, q, z)))) a) n.1,
      )

  words-named : (us : List Undone) (g g' : Lists) → Agree g g' → All (λ u. UndoFits s (M-of s) u.num u.saved u.descriptor u.undo) us → Named ls us g
      → UndoWords s (undo_numbers us) g'
  words-named [] g g' a F n = tt
  words-named (u ∷ us) g g' a F n =
      word-cases (undo_numbers us) (Named ls us) (λ h h' b o. words-named us h h' b F.1 o) u.num u.saved u.descriptor u.undo g g' a F.0 n

-- ---- the request of a session that stands at a node

hand-read : (s : List ℕ) (m r p : ℕ) (x : Session) → (session-of s m r p x).hand ≡ hand_of x
hand-read s m r zero x = refl
hand-read s m r (suc p) x = refl

hand_at : (x : Session) → x.stage ≡ 3 → hand_of x ≡ some (at_request x)
hand_at x e =
    let n : (k : ℕ) → (3 ≡ k → ⊥) → eqb x.stage k ≡ false = λ k f. ne_eqb x.stage k (λ q. f (sym e ∙ q)) in
    rw (n 0 (λ q. omega arith), n 1 (λ q. omega arith), n 2 (λ q. omega arith), eq-eqb x.stage 3 e) refl

-- ---- soundness

module _ (s : List ℕ) (t : List Session) (L : Lay) (H : Holds s t L) (A : M.Sound (meaning s t)) where
  pub owners-are : joined (owners s t) ≡ all_records L
  owners-are =
      let m = M-of s in
      let r = R-of s in
      let each : Leaf → List ℕ = λ l. member_chain s m r l.num in
      let B = map each (leaves_of s) in
      let C = undo_chains s t in
      let D = free_chain s in
      let a = tree_over s t L H (λ h x. numbers (suc h) x ≡ numbers (suc L.height) L.tree) refl in
      let b = ap (λ ls. joined (map each ls)) (leaves-are s t L H) ∙ members-owned s m r L.members (leaves_in L) (grouped s t L H) in
      let c = undos-owned s L.undos t H.seats (undo-chain-is s t L H) in
      ap₂ (λ x y. x ++ y) a
      (joined-append B (C ++ (D ∷ [])) ∙ ap₂ (λ x y. x ++ y) b (joined-append C (D ∷ []) ∙ ap₂ (λ x y. x ++ y) c (append-nil D ∙ free_is s t L H)))

  members_are : All (λ l. Members s l.num) (leaves_of s)
  members_are = subst (All (λ l. Members s l.num)) (sym (leaves-are s t L H)) (all-as one (leaves_in L) (grouped s t L H))
    where
      one : (l : Leaf) → Grouped s (M-of s) (R-of s) L.members l → Members s l.num
      one l G =
          let m = M-of s in
          let e = members-read s m (R-of s) L.members l G in
          record {
            ends = subst (Chained s m (word_of s m l.num 6)) (sym e) G.0.chained;
            once = subst Once (sym (ap (member_entries s m) e ∙ entries-read s m (L.members l.num) G.0.entries)) G.0.once;
            linked = subst (Linked s m 0) (sym e) G.0.linked;
          }

  pub found-is : (k d : ℕ) → Has k d (leaves_in L) → record_of k (leaves_of s) ≡ d
  unfolding meaning
  found-is k d h =
      let rise = subst (Rises 0 4294967296) (leaves-erase (suc (height_of s)) (tree_of s) ∙ ap descs (leaves-are s t L H)) (ordered-rises (meaning s t) (sound-ordered A)) in
      ap (record_of k) (leaves-are s t L H) ∙ has-record k d 0 4294967296 (leaves_in L) rise h

  -- A party that stands at a node.
  stands_at : (p : ℕ) → p ≤ width → (session_at t p).stage ≡ 3 → Marked (session_at t p).level (session_at t p).at (latch_word p) (suc L.height) L.tree → StandsAtNode s p (session_at t p)
  unfolding meaning
  stands_at p l e q =
      let x = session_at t p in
      let h : (session_of p (meaning s t)).hand ≡ some (at_request x) =
      ap (λ z. z.hand) (session_is s t p (omega (arith, l, H.seats))) ∙ hand-read s (M-of s) (R-of s) p x ∙ hand_at x e in
      let n = A.latches_match p ∙ ap (of_hand 0 (λ r. stands r.stage)) h in
      let P = marked-place x.level x.at (latch_word p) x.target (Room (meaning s t) p) (suc (height_of s)) (tree_of s)
      (tree_over s t L H (λ k y. Marked x.level x.at (latch_word p) (suc k) y) q) (omega (arith, n)) (A.placed p (at_request x) x.target h refl) in
      record {
        lowest = P.lowest;
        highest = P.highest;
        node = sym P.node;
        latched = marked-word s (M-of s) x.level x.at (latch_word p) (suc L.height) top L.tree H.fits.tree q;
      }

  hand-named : (p : ℕ) → p ≤ width → Hand s p (session_at t p)
  hand-named p l =
      let F = H.hands p l in
      record {
        stage = F.stage;
        at-node = λ e. stands_at p l e (F.at-node e);
        low = λ n e. sym (found-is (session_at t p).first (session_at t p).low (F.low n e));
        high = λ e n. sym (found-is (session_at t p).second (session_at t p).high (F.high e n));
        last = F.last;
      }

  pub lists-are : (d e : ℕ) → In d (leaf_records (leaves_in L)) → lists s d e ≡ lists_in L d e
  lists-are d e h =
      let m = M-of s in
      let f : (l : Leaf) → Grouped s m (R-of s) L.members l → lists s l.num e ≡ lists_in L l.num e =
      λ l G. ap (member_record s m e) (members-read s m (R-of s) L.members l G) ∙ member-found s m e (L.members l.num) G.0.entries in
      let P : ℕ → Type 0 = λ j. lists s j e ≡ lists_in L j e in
      all_in P (leaf_records (leaves_in L)) (map-all (λ (l : Leaf). l.num) P (leaves_in L) (all-as f (leaves_in L) (grouped s t L H))) d h

  undo-named : (p : ℕ) → suc p ≤ width → UndoWords s (chain s (M-of s) (R-of s) (session_at t (suc p)).undo) (lists s)
  undo-named p l =
      subst (λ c. UndoWords s c (lists s)) (sym (undo-chain-is s t L H p l))
      (words-named s (leaves_in L) found-is (descs-fit s t L H) (L.undos (suc p)) (lists_in L) (lists s) lists-are (H.fits.undos p l).words (H.named p l))

  sound-is : Sound s t
  sound-is =
      let m = M-of s in
      let F = H.fits in
      record {
        header = F.header;
        sized = F.sized;
        rooted = omega (arith, F.height);
        once = λ i a b. ap (times i) owners-are ∙ H.owned.once i a (omega (arith, b, F.records));
        no_other = subst (All (λ i. (1 ≤ i) × (i ≤ R-of s))) (sym owners-are) (subst (λ n. All (λ i. (1 ≤ i) × (i ≤ n)) (all_records L)) (sym F.records) H.owned.no_other);
        free_ends = subst (Chained s m (header_word s free_place)) (sym (free_is s t L H)) F.free;
        undos_end = λ p l. subst (Chained s m (session_at t (suc p)).undo) (sym (undo-chain-is s t L H p l)) (F.undos p l).chained;
        few = tree_over s t L H (λ h x. All (λ i. word_of s m i 1 ≤ 8) (node_numbers (suc h) x)) (tree-few s m (suc L.height) top L.tree F.tree);
        chained = subst (λ ls. Chained s m (header_word s first_place) (map (λ l. l.num) ls)) (sym (leaves-are s t L H)) F.chained;
        members = members_are;
        state = A;
        hands = hand-named;
        undo_words = undo-named;
      }

pub holds-sound : (s : List ℕ) (t : List Session) (L : Lay) → Holds s t L → M.Sound (means L t) → Sound s t
holds-sound s t L H A = sound-is s t L H (subst M.Sound (sym (holds-means s t L H)) A)

pub becomes-sound : (s s' : List ℕ) (t' : List Session) (next : State) → Becomes s s' t' next → M.Sound next → Sound s' t' × (meaning s' t' ≡ next)
becomes-sound s s' t' next B A =
    (holds-sound s' t' B.lay B.holds (subst M.Sound (sym B.means_next) A), holds-means s' t' B.lay B.holds ∙ B.means_next)
