-- A descriptor's members, a session's undo records and the free records are others, by one undo record more: the words hold such a layout, and what it means.
use Rattle.std.specs.Prelude.{◌≡◌, List, [], ◌∷◌, ◌++◌, length, set}
use Rattle.std.proofs.Math.Path.{refl, ap}
use Rattle.std.proofs.Common.{sym, subst, ◌∙◌, arith, eq-eqb}
use Rattle.std.proofs.Math.Option.{none}
use Prim.Native.Nat.{ℕ, zero, suc, ◌+◌, ◌≤◌}
use Rattle.std.proofs.Math.Decide.{ℕ_discrete}
use Rattle.words.specs.Store.{word_of}
use Rattle.words.specs.Header.{header_word, free_place}
use Rattle.sessions.specs.declared.Session.{Session}
use Rattle.sessions.specs.Sessions.{session_at, tenure}
use Rattle.machine.specs.Tree.{leaves}
use Rattle.machine.specs.Holders.{width}
use Rattle.machine.specs.State.{State, top, on_desc, with_free, group_desc, set_hand, add_undo}
use Rattle.machine.specs.Order.{Ord}
use Rattle.machine.specs.Sound.{times}
use Rattle.meaning.specs.Reading.{Chained, Leaf, Mark, erase, hand_of, M-of, R-of}
use Rattle.meaning.specs.Sound.{All, Apart, Once}
use Rattle.meaning.specs.Numbers.{In, all_left, all_right, all_from, all_in, apart_from, times-append, times-in, one-is, apart-times}
use Rattle.meaning.specs.Frame.{SameAt, SameWords}
use Rattle.meaning.specs.Parts.{entries_same}
use Rattle.meaning.specs.Around.{fill}
use Rattle.meaning.specs.Lens.{leaves_before, leaves_behind}
use Rattle.layout.specs.Layout.{Lay, Undone, leaves_in, firsts, undo_numbers, members_of, all_records, DescFits, GroupFits, UndoFits, UndosFit, Has, Named, lists_in, Holds, means}
use Rattle.layout.specs.Written.{Written}
use Rattle.layout.specs.Keep.{undos-keep, records-times, owned-most, named-as, hole-has, hole-times}
use Rattle.layout.specs.Groups.{put_at, put-here, put-there, with_group, undos-split, group-row}
use Rattle.layout.specs.Places.{AtKey, means-desc}
use Rattle.layout.specs.Ordering.{Rising, ord-leaf}
use Rattle.layout.specs.Room.{Sizes, owned_in, owned-has}
use Rattle.layout.specs.Left.{idle-fits}
use Rattle.layout.specs.Back.{descs-fit}
use Rattle.grouping.specs.GroupWords.{Changed, Within, changed-written}
use Rattle.changing.specs.Logs.{logged-state}
use Rattle.changing.specs.Naming.{undo_entry, named-on}

-- What is left: a layout with the new undo record first, session p's table entry y with no request, and what it means.
pub record Logged (s : List ℕ) (t : List Session) (L : Lay) (p : ℕ) (y : Session) (s' : List ℕ) (next : State) : Type 0 where
  pub lay : Lay
  pub holds : Holds s' (set t p y) lay
  pub rising : Rising lay
  pub sizes : Sizes lay
  pub has : (k d : ℕ) → Has k d (leaves_in L) → Has k d (leaves_in lay)
  pub is : means lay (set t p y) ≡ next
  pub among : List ℕ
  pub written : Written s s' among

-- ---- the records of a descriptor, its members, a session's undo records and the free records are all different

members-times : (g : ℕ → List (ℕ × ℕ)) (i : ℕ) (A : List Leaf) (l : Leaf) (B : List Leaf)
    → times i (members_of g (A ++ l ∷ B)) ≡ times i (members_of g A) + (times i (firsts (g l.num)) + times i (members_of g B))
members-times g i [] l B = omega (arith, times-append i (firsts (g l.num)) (members_of g B))
members-times g i (x ∷ A) l B =
    omega (arith, members-times g i A l B, times-append i (firsts (g x.num)) (members_of g (A ++ l ∷ B)), times-append i (firsts (g x.num)) (members_of g A))

-- A list in which nothing stands twice.
pub times-once : (l : List ℕ) → ((i : ℕ) → times i l ≤ 1) → Once l
times-once [] h = tt
times-once (x ∷ l) h = (apart-times x l (omega (arith, h x, one-is x x refl)), times-once l (λ i. omega (arith, h i)))

module _ (s : List ℕ) (t : List Session) (L : Lay) (H : Holds s t L) (Z : Sizes L) (o : Rising L) (k d : ℕ) (P : AtKey L k d) (p : ℕ) (party : suc p ≤ width) where
  abbrev l : Leaf
  l = P.leaf

  abbrev c : List (ℕ × ℕ)
  c = L.members l.num

  abbrev mine : List ℕ
  mine = undo_numbers (L.undos (suc p))

  abbrev own : List ℕ
  own = l.num ∷ (firsts c ++ (mine ++ L.free))

  -- How often a record is one of them.
  pub own-parts : (i : ℕ) → times i (l.num ∷ []) + (times i (firsts c) + (times i mine + times i L.free)) ≤ times i (all_records L)
  own-parts i =
      let e = ap (λ z. times i (members_of L.members z)) P.was ∙ members-times L.members i (leaves_before P.around) l (leaves_behind P.around) in
      omega (arith, records-times L i, hole-times L H.owned P.around l P.is i, e, undos-split L.undos (suc p) i (omega arith) party)

  pub own-once : (i : ℕ) → times i (l.num ∷ []) + (times i (firsts c) + (times i mine + times i L.free)) ≤ 1
  own-once i = omega (arith, own-parts i, owned-most L H.owned i)

  own-times : (i : ℕ) → times i own ≡ times i (l.num ∷ []) + (times i (firsts c) + (times i mine + times i L.free))
  own-times i = omega (arith, times-append i (firsts c) (mine ++ L.free), times-append i mine L.free)

  pub own-within : All (Within s (M-of s) (R-of s)) own
  own-within = all_from own (λ j h.
      let n : 1 ≤ times j (all_records L) = omega (arith, own-parts j, own-times j, times-in j own h) in
      record { has = owned-has s t L H Z j n; among = omega (arith, (owned_in s t L H Z j n).1, H.fits.records) })

  pub within-members : All (Within s (M-of s) (R-of s)) (firsts c)
  within-members = all_left (Within s (M-of s) (R-of s)) (firsts c) (mine ++ L.free) own-within.1

  pub within-free : All (Within s (M-of s) (R-of s)) L.free
  within-free = all_right (Within s (M-of s) (R-of s)) mine L.free (all_right (Within s (M-of s) (R-of s)) (firsts c) (mine ++ L.free) own-within.1)

  pub members-once : Once (firsts c)
  members-once = times-once (firsts c) (λ i. omega (arith, own-once i))

  pub desc-out : Apart l.num (firsts c)
  desc-out = apart-times l.num (firsts c) (omega (arith, own-once l.num, one-is l.num l.num refl))

  -- The group and the descriptor, as they were.
  pub group-was : GroupFits s (M-of s) c l
  group-was = (all_right (λ z. GroupFits s (M-of s) (L.members z.num) z) (leaves_before P.around) (l ∷ leaves_behind P.around)
      (subst (All (λ z. GroupFits s (M-of s) (L.members z.num) z)) P.was H.fits.groups)).0

  pub desc-was : DescFits s (M-of s) l
  desc-was = (all_right (DescFits s (M-of s)) (leaves_before P.around) (l ∷ leaves_behind P.around) (subst (All (DescFits s (M-of s))) P.was (descs-fit s t L H))).0

  -- Records of session p or free ones that are not written.
  pub mine-same : (s' W : List ℕ) → Changed s s' (M-of s) (R-of s) (free_place ∷ []) W → ((j : ℕ) → In j W → times j mine ≡ 0) → All (SameAt s s' (M-of s)) mine
  mine-same s' W C off = all_from mine (λ j h. C.same j (all_in (Within s (M-of s) (R-of s)) mine (all_left (Within s (M-of s) (R-of s)) mine L.free
      (all_right (Within s (M-of s) (R-of s)) (firsts c) (mine ++ L.free) own-within.1)) j h).has.first (apart_from j W (λ i. omega (arith, off j i, times-in j mine h))))

  module _ (e : ℕ) (F : List ℕ → List ℕ) (ms : List (ℕ × ℕ)) (new : Undone) (f : List ℕ) (y : Session) (s' W : List ℕ) where
    abbrev l' : Leaf
    l' = record { num = l.num; desc = group_desc F l.desc }

    abbrev lay' : Lay
    lay' = with_group L (fill P.around l') l.num ms (suc p) (new ∷ L.undos (suc p)) f L.entries

    -- What the words after have.
    pub record Logs : Type 0 where
      pub changed : Changed s s' (M-of s) (R-of s) (free_place ∷ []) W
      pub inside : All (λ i. In i own) W
      pub desc : SameWords s s' (M-of s) (0 ∷ 1 ∷ 2 ∷ 3 ∷ 4 ∷ 5 ∷ []) l.num
      pub group : GroupFits s' (M-of s) ms l'
      pub undo : UndoFits s' (M-of s) new.num new.saved new.descriptor new.undo
      pub some : ¬ (new.num ≡ 0)
      pub link : word_of s' (M-of s) new.num 0 ≡ (session_at t (suc p)).undo
      pub older : All (SameAt s s' (M-of s)) mine
      pub free : Chained s' (M-of s) (header_word s' free_place) f
      pub count : (i : ℕ) → times i (firsts ms) + (times i (new.num ∷ []) + times i f) ≡ times i (firsts c) + times i L.free
      pub tenure_kept : tenure y ≡ tenure (session_at t (suc p))
      pub stage : y.stage ≡ 0
      pub head : y.undo ≡ new.num
      pub own_named : Named (leaves_in L) (new ∷ L.undos (suc p)) (lists_in lay')
      pub lists_same : (g h : ℕ) → ¬ (h ≡ e) → lists_in L g h ≡ lists_in lay' g h
      pub others : (q : ℕ) → suc q ≤ width → ¬ (suc q ≡ suc p) → All (λ u. ¬ (undo_entry u.undo ≡ e)) (L.undos (suc q))

    module _ (G : Logs) where
      has' : (i j : ℕ) → Has i j (leaves_in L) → Has i j (leaves_in lay')
      has' i j x = hole-has P.around l l' refl refl i j (subst (λ u. Has i j (leaves Leaf Mark (suc L.height) u)) P.is x)

      desc' : DescFits s' (M-of s) l'
      desc' = record {
        key = sym G.desc.1.0 ∙ desc-was.key;
        locate = sym G.desc.1.1.0 ∙ desc-was.locate;
        update = sym G.desc.1.1.1.0 ∙ desc-was.update;
        gap = sym G.desc.1.1.1.1.0 ∙ desc-was.gap;
        pins = sym G.desc.1.1.1.1.1.0 ∙ desc-was.pins;
      }

      undos' : UndosFit s' (M-of s) y.undo (new ∷ L.undos (suc p))
      undos' =
          let m = M-of s in
          let U = undos-keep s s' m (session_at t (suc p)).undo (L.undos (suc p)) G.older (H.fits.undos p party) in
          subst (λ i. UndosFit s' m i (new ∷ L.undos (suc p))) (sym G.head)
          (record { chained = (refl, G.some, subst (λ i. Chained s' m i mine) (sym G.link) U.chained); words = (G.undo, U.words) })

      named' : (q : ℕ) → 1 ≤ q → q ≤ width → Named (leaves_in lay') (put_at (suc p) (new ∷ L.undos (suc p)) L.undos q) (lists_in lay')
      named' zero a b = absurd (omega (arith, a))
      named' (suc q) a b = go (ℕ_discrete (suc q) (suc p))
        where
          us : List Undone
          us = new ∷ L.undos (suc p)

          go : Dec (suc q ≡ suc p) → Named (leaves_in lay') (put_at (suc p) us L.undos (suc q)) (lists_in lay')
          go (yes z) = subst (λ i. Named (leaves_in lay') (put_at (suc p) us L.undos i) (lists_in lay')) (sym z)
              (subst (λ v. Named (leaves_in lay') v (lists_in lay')) (sym (put-here (suc p) us L.undos)) (named-as (leaves_in L) (leaves_in lay') has' us (lists_in lay') G.own_named))
          go (no n) = subst (λ v. Named (leaves_in lay') v (lists_in lay')) (sym (put-there (suc p) us L.undos (suc q) n))
              (named-as (leaves_in L) (leaves_in lay') has' (L.undos (suc q)) (lists_in lay')
              (named-on (λ f. ¬ (f ≡ e)) (leaves_in L) (L.undos (suc q)) (lists_in L) (lists_in lay') G.lists_same (G.others q b n) (H.named q b)))

      holds' : Holds s' (set t (suc p) y) lay'
      holds' =
          let m = M-of s in
          let C = G.changed in
          group-row s t L H P.around l l' P.is refl refl (suc p) y (omega arith) party s' W (changed-written s s' W C) (λ i h n. C.head i h (n, tt)) G.inside ms
          (new ∷ L.undos (suc p)) f L.entries desc' G.desc.0 G.group undos' G.free
          (entries_same s s' 1 m (λ i a b. C.entries i a (omega (arith, b))) ∙ H.fits.entries)
          (λ i. omega (arith, G.count i)) (idle-fits lay' (suc p) y G.stage) named'

      pub logged : Logged s t L (suc p) y s' (set_hand (suc p) none (add_undo (suc p) new.undo (with_free (length f) (on_desc k (group_desc F) (means L t)))))
      unfolding means
      logged =
          let n = suc L.height in
          record {
            lay = lay';
            holds = holds';
            rising = ord-leaf P.around l l' refl 0 top (subst (λ u. Ord n 0 top (erase n u)) P.is o);
            sizes = record { some = Z.some; entries = Z.entries; least = Z.least; most = Z.most };
            has = has';
            is = logged-state L t (fill P.around l') l.num ms p new f L.entries y (omega (arith, party, H.seats)) G.tenure_kept (hand-none y G.stage)
                ∙ ap (λ σ. set_hand (suc p) none (add_undo (suc p) new.undo (with_free (length f) σ))) (means-desc L t k d P (group_desc F) l' refl);
            among = W;
            written = changed-written s s' W G.changed;
          }
        where
          hand-none : (y : Session) → y.stage ≡ 0 → hand_of y ≡ none
          hand-none y e = rw (eq-eqb y.stage 0 e) refl
