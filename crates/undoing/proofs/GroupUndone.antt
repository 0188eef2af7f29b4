-- An undo record of a membership undone: an added entry goes out of its group, and both records are free; a taken one comes in again, by the record that
-- undoes it.
use Rattle.std.specs.Prelude.{◌≡◌, refl, cond, List, [], ◌∷◌, ◌++◌, map, ℕ, suc, ◌+◌, ◌≤◌, eqb, get_or, set}
use Rattle.std.proofs.Math.Path.{sym, ap, ap₂, subst}
use Rattle.std.proofs.Common.{◌∙◌, inl, lit<}
use Rattle.std.proofs.lemmas.List.{map-append}
use native.Mathlib.Omega.{arith}
use Rattle.std.proofs.Math.ListN.{length}
use Rattle.words.specs.Store.{word_of}
use Rattle.words.specs.Header.{header_word, free_place}
use Rattle.undos.specs.Undo.{decode_undo}
use Rattle.chain.specs.Free.{push_free}
use Rattle.sessions.specs.declared.Session.{Session}
use Rattle.sessions.specs.Sessions.{session_at}
use Rattle.machine.specs.Tree.{leaves}
use Rattle.machine.specs.Holders.{width, latch_word}
use Rattle.machine.specs.State.{added, taken, top, on_tree, group_desc, with_member, without_member}
use Rattle.machine.specs.Calls as C
use Rattle.machine.specs.Sound.{times}
use Rattle.machine.specs.Order.{Ord}
use Rattle.meaning.specs.Reading.{Chained, Leaf, Mark, erase, M-of, R-of}
use Rattle.meaning.specs.Sound.{All, Apart, Once, Linked, set_list}
use Rattle.meaning.specs.Numbers.{In, all_from, all_both, all_right, times-in, in-times, times-append, apart-times}
use Rattle.meaning.specs.Frame.{SameAt, SameWords, same-words, chain_words, all_words, chained_same}
use Rattle.meaning.specs.Parts.{entries_same}
use Rattle.meaning.specs.Around.{NCtx, fill}
use Rattle.layout.specs.Layout.{Lay, Undone, leaves_in, firsts, seconds, undo_numbers, members_of, all_records, means, UndoFits, DescFits, TreeFits, GroupFits, Has, Marked, Holds, Named, NamedAs, lists_in, member_of}
use Rattle.layout.specs.Keep.{records-times, owned-most, fits-open, group-keep, hole-has, hole-times, hole-marked}
use Rattle.layout.specs.Groups.{put-here, put-there, undos-split, with_group, hole-leaves, left_leaves, right_leaves, group-row}
use Rattle.layout.specs.Ordering.{Rising, ord-leaf}
use Rattle.layout.specs.Places.{AtKey, means-desc}
use Rattle.layout.specs.Room.{Sizes, owned_in, owned-has}
use Rattle.layout.specs.Written.{Written}
use Rattle.members.specs.Members.{Puttable, Takeable, put_member, take_member}
use Rattle.undo_log.specs.Undoing.{Undoing, added_back, taken_back, undo_one, one-added, one-taken}
use Rattle.grouping.specs.GroupWords.{Changed, Within, within-kept, changed_then, changed-wide, changed-written, push-changed, push-chained, put-added, put-desc, put-member-changed, put-able, take_out, take_desc, take-member-changed, take-able, desc-words-fit, once-from, put-group, take-group, Found, found, not_found, member-put, member-out, lists-put}
use Rattle.undoing.specs.Rows.{with_undo, hand-undo, OthersOff, Onward, undone_state, table-undone, named_put, mine-fit, mine-named, rest-fit, mine-times}

-- How often a record stands among the members of one descriptor, at most.
members-least : (g : ℕ → List (ℕ × ℕ)) (j : ℕ) (A : List Leaf) (l : Leaf) (B : List Leaf) → times j (firsts (g l.num)) ≤ times j (members_of g (A ++ l ∷ B))
members-least g j [] l B = omega (arith, times-append j (firsts (g l.num)) (members_of g B))
members-least g j (x ∷ A) l B = omega (arith, times-append j (firsts (g x.num)) (members_of g (A ++ l ∷ B)), members-least g j A l B)

-- Session p's newest undo record u names the descriptor l, of key k.
module _ (s : List ℕ) (t : List Session) (L : Lay) (H : Holds s t L) (O : Rising L) (Z : Sizes L) (p : ℕ) (least : 1 ≤ p) (party : p ≤ width) (u : Undone) (us : List Undone) (chain : L.undos p ≡ u ∷ us)
    (k : ℕ) (A : AtKey L k u.descriptor) where
  abbrev m : ℕ
  m = M-of s

  abbrev i : ℕ
  i = u.num

  abbrev l : Leaf
  l = A.leaf

  abbrev d : ℕ
  d = A.leaf.num

  abbrev c : NCtx 0 (suc L.height)
  c = A.around

  abbrev G : List (ℕ × ℕ)
  G = L.members A.leaf.num

  abbrev x' : Session
  x' = with_undo (session_at t p) (word_of s (M-of s) u.num 0)

  -- Its records, its members' records, session p's undo records and the free ones.
  abbrev tally : ℕ → ℕ
  tally j = times j (d ∷ []) + (times j (firsts G) + (times j (i ∷ undo_numbers us) + times j L.free))

  tally-all : (j : ℕ) → tally j ≤ times j (all_records L)
  tally-all j =
      let e = ap (λ ls. times j (members_of L.members ls)) (hole-leaves L H.owned c l A.is) in
      omega (
        arith,
        records-times L j,
        hole-times L H.owned c l A.is j,
        e,
        members-least L.members j (left_leaves c) l (right_leaves c),
        undos-split L.undos p j least party,
        mine-times s t L H Z p least party u us chain j,
      )

  tally_one : (j : ℕ) → tally j ≤ 1
  tally_one j = omega (arith, tally-all j, owned-most L H.owned j)

  own : (j : ℕ) → 1 ≤ tally j → Within s m (R-of s) j
  own j h =
      let one : 1 ≤ times j (all_records L) = omega (arith, tally-all j, h) in
      record { has = owned-has s t L H Z j one; among = omega (arith, (owned_in s t L H Z j one).1, H.fits.records) }

  inside : (j : ℕ) → 1 ≤ tally j → In j (d ∷ (firsts G ++ (undo_numbers (L.undos p) ++ L.free)))
  inside j h =
      in-times j (d ∷ (firsts G ++ (undo_numbers (L.undos p) ++ L.free)))
      (omega (
        arith,
        h,
        times-append j (firsts G) (undo_numbers (L.undos p) ++ L.free),
        times-append j (undo_numbers (L.undos p)) L.free,
        mine-times s t L H Z p least party u us chain j,
      ))

  one-d : 1 ≤ times d (d ∷ [])
  one-d = times-in d (d ∷ []) (inl refl)

  one-i : 1 ≤ times i (i ∷ undo_numbers us)
  one-i = times-in i (i ∷ undo_numbers us) (inl refl)

  i-not-d : ¬ (i ≡ d)
  i-not-d q = omega (arith, tally_one d, one-d, times-in d (i ∷ undo_numbers us) (inl (sym q)))

  i-out : Apart i (firsts G)
  i-out = apart-times i (firsts G) (omega (arith, tally_one i, one-i))

  d-out : Apart d (firsts G)
  d-out = apart-times d (firsts G) (omega (arith, tally_one d, one-d))

  once-firsts : Once (firsts G)
  once-firsts = once-from (firsts G) (λ j. omega (arith, tally_one j))

  members-one : All (λ j. 1 ≤ j) (firsts G)
  members-one = all_from (firsts G) (λ j h. (own j (omega (arith, times-in j (firsts G) h))).has.first)

  free_one : All (λ j. 1 ≤ j) L.free
  free_one = all_from L.free (λ j h. (own j (omega (arith, times-in j L.free h))).has.first)

  i-some : ¬ (i ≡ 0)
  i-some q = omega (arith, q, (own i (omega (arith, one-i))).has.first)

  -- The group and the descriptor, as they are.
  group-was : GroupFits s m G l
  group-was =
      let Q : Leaf → Type 0 = λ y. GroupFits s m (L.members y.num) y in
      (all_right Q (left_leaves c) (l ∷ right_leaves c) (subst (All Q) (hole-leaves L H.owned c l A.is) H.fits.groups)).0

  desc-was : DescFits s m l
  unfolding TreeFits
  desc-was = (fits-open s m c l top (subst (TreeFits s m (suc L.height) top) A.is H.fits.tree)).1

  -- Words with W written, W in the tally, leave the older undo records and what is free.
  module _ (s' W : List ℕ) (only : Written s s' W) where
    rest-kept : All (λ j. times j (undo_numbers us) ≡ 0) W → All (SameAt s s' m) (undo_numbers us)
    rest-kept a = all_from (undo_numbers us) (λ j h.
        only.same j (own j (omega (arith, times-in j (undo_numbers us) h))).has.first
        (apart_of W a j h))
      where
        apart_of : (W : List ℕ) → All (λ j. times j (undo_numbers us) ≡ 0) W → (j : ℕ) → In j (undo_numbers us) → Apart j W
        apart_of [] a j h = tt
        apart_of (w ∷ W) a j h = ((λ q. omega (arith, a.0, times-in w (undo_numbers us) (subst (λ y. In y (undo_numbers us)) q h))), apart_of W a.1 j h)

    free-kept : All (λ j. times j L.free ≡ 0) W → All (SameAt s s' m) L.free
    free-kept a = all_from L.free (λ j h.
        only.same j (own j (omega (arith, times-in j L.free h))).has.first
        (apart_of W a j h))
      where
        apart_of : (W : List ℕ) → All (λ j. times j L.free ≡ 0) W → (j : ℕ) → In j L.free → Apart j W
        apart_of [] a j h = tt
        apart_of (w ∷ W) a j h = ((λ q. omega (arith, a.0, times-in w L.free (subst (λ y. In y L.free) q h))), apart_of W a.1 j h)

  abbrev new_leaf : (List ℕ → List ℕ) → Leaf
  new_leaf f = record { num = A.leaf.num; desc = group_desc f A.leaf.desc }

  abbrev next_lay : (List ℕ → List ℕ) → List (ℕ × ℕ) → List ℕ → Lay
  next_lay f ms free = with_group L (fill A.around (new_leaf f)) A.leaf.num ms p us free L.entries

  has-then : (f : List ℕ → List ℕ) (ms : List (ℕ × ℕ)) (free : List ℕ) (j y : ℕ) → Has j y (leaves_in L) → Has j y (leaves_in (next_lay f ms free))
  has-then f ms free j y h = hole-has c l (new_leaf f) refl refl j y (subst (λ T. Has j y (leaves Leaf Mark (suc L.height) T)) A.is h)

  -- The row: the members are ms, the free records free; the record of entry e is v.
  module _ (e v : ℕ) (f : List ℕ → List ℕ) (ms : List (ℕ × ℕ)) (free : List ℕ) (s' W : List ℕ) (C1 : Changed s s' m (R-of s) (free_place ∷ []) W) (within : (j : ℕ) → In j W → 1 ≤ tally j) where
    only : Written s s' W
    only = changed-written s s' W C1

    row-holds : SameWords s s' m (0 ∷ 1 ∷ 2 ∷ 3 ∷ 4 ∷ 5 ∷ []) d → GroupFits s' m ms (new_leaf f) → All (SameAt s s' m) (undo_numbers us) → Chained s' m (header_word s' free_place) free
        → ((j : ℕ) → times j (firsts ms) + (times j (undo_numbers us) + times j free) ≡ times j (firsts G) + (times j (i ∷ undo_numbers us) + times j L.free))
        → ((g : ℕ) → member_of g ms ≡ cond (eqb g e) v (member_of g G)) → Named (leaves_in L) us (set_list d e v (lists_in L)) → OthersOff L p e
        → Holds s' (set t p x') (next_lay f ms free)
    row-holds words group rest free-so count lists named off =
        group-row s t L H c l (new_leaf f) A.is refl refl p x' least party s' W only (λ k h n. C1.head k h (n, tt)) (all_from W (λ j h. inside j (within j h)))
        ms us free L.entries (desc-words-fit s s' m l (new_leaf f) refl refl refl refl refl refl words desc-was) words.0 group
        (rest-fit s t L H Z p least party u us chain s' rest) free-so
        (entries_same s s' 1 m (λ y a b. C1.entries y a (omega (arith, b))) ∙ H.fits.entries)
        (λ j. omega (arith, count j, mine-times s t L H Z p least party u us chain j))
        (hand-undo L (next_lay f ms free) p (session_at t p) (word_of s m i 0) (has-then f ms free)
        (λ g y. hole-marked (session_at t p).level (session_at t p).at (latch_word p) c l (new_leaf f)
        (subst (Marked (session_at t p).level (session_at t p).at (latch_word p) (suc L.height)) A.is y)) (H.hands p party))
        (named_put L (leaves_in (next_lay f ms free)) p us d e v (lists_in (next_lay f ms free)) (has-then f ms free) (lists-put L.members d e v ms lists) named off H.named)

    row-rising : Rising (next_lay f ms free)
    row-rising = ord-leaf c l (new_leaf f) refl 0 top (subst (λ T. Ord (suc L.height) 0 top (erase (suc L.height) T)) A.is O)

    row-sizes : Sizes (next_lay f ms free)
    row-sizes = record { some = Z.some; entries = Z.entries; least = Z.least; most = Z.most }

  -- ---- an entry that was taken out

  module _ (e : ℕ) (what : u.undo ≡ taken e k) (absent : member_of e (L.members u.descriptor) ≡ 0) (off : OthersOff L p e) where
    taken-fits : (word_of s m i 1 ≡ 3) × (word_of s m i 2 ≡ e) × (word_of s m i 4 ≡ u.descriptor)
    taken-fits = subst (UndoFits s m i u.saved u.descriptor) what (mine-fit s t L H Z p least party u us chain).words.0

    abbrev b1 : List ℕ
    b1 = put_member s m d i e

    taken_is : undo_one s m i ≡ b1
    unfolding taken_back decode_undo
    taken_is = one-taken s m i (λ q. omega (arith, taken-fits.0, q)) (λ q. omega (arith, taken-fits.0, q)) ∙ ap₂ (λ x y. put_member s m x i y) (taken-fits.2 ∙ sym A.num) taken-fits.1

    abbrev X : List ℕ
    X = d ∷ i ∷ firsts G

    X-in : (j : ℕ) → In j X → 1 ≤ tally j
    X-in j h = omega (arith, times-in j X h)

    X-store : All (Within s m (R-of s)) X
    X-store = all_from X (λ j h. own j (X-in j h))

    X-old : All (λ j. times j (undo_numbers us) ≡ 0) X
    X-old = all_from X (λ j h. omega (arith, times-in j X h, tally_one j))

    X-free : All (λ j. times j L.free ≡ 0) X
    X-free = all_from X (λ j h. omega (arith, times-in j X h, tally_one j))

    J : Changed s b1 m (R-of s) [] X
    J = put-member-changed s m (R-of s) d i e (firsts G) group-was.chained d-out i-out i-not-d X-store

    J1 : Changed s b1 m (R-of s) (free_place ∷ []) X
    J1 = changed-wide s b1 m (R-of s) [] (free_place ∷ []) X X J (λ y a. tt) (λ j h a. a)

    J-only : Written s b1 X
    J-only = changed-written s b1 X J1

    taken-group : GroupFits b1 m ((i, e) ∷ G) (new_leaf (with_member e))
    taken-group =
        put-group s b1 m d i e G l (new_leaf (with_member e)) refl refl refl group-was (put-added s m (R-of s) d i e (firsts G) group-was.chained d-out i-out i-not-d X-store) i-some once-firsts
        (not_found e G members-one (subst (λ y. member_of e (L.members y) ≡ 0) (sym A.num) absent))

    taken_free : Chained b1 m (header_word b1 free_place) L.free
    taken_free =
        subst (λ y. Chained b1 m y L.free) (sym (J.head free_place (lit< tt) tt))
        (chained_same s b1 m (header_word s free_place) L.free (all_words s b1 m chain_words L.free (free-kept b1 X J-only X-free)) H.fits.free)

    taken-named : Named (leaves_in L) us (set_list d e i (lists_in L))
    taken-named =
        let n = subst (NamedAs (leaves_in L) (Named (leaves_in L) us) (lists_in L) u.num u.saved u.descriptor) what (mine-named s t L H Z p least party u us chain) in
        subst (λ y. Named (leaves_in L) us (set_list y e i (lists_in L))) (sym A.num) n.1

    abbrev L1 : Lay
    L1 = next_lay (with_member e) ((i, e) ∷ G) L.free

    taken-holds : Holds b1 (set t p x') L1
    taken-holds =
        row-holds e i (with_member e) ((i, e) ∷ G) L.free b1 X J1 X-in (put-desc s m (R-of s) d i e (firsts G) group-was.chained d-out i-out i-not-d X-store) taken-group
        (rest-kept b1 X J-only X-old) taken_free (λ j. omega arith) (member-put i e G) taken-named off

    taken-means : means L1 (set t p x') ≡ undone_state p (map (λ y. y.undo) us) (taken e k) (means L t)
    unfolding means C.undo on_tree
    taken-means =
        let r = ap (λ σ. σ.root) (means-desc L t k u.descriptor A (group_desc (with_member e)) (new_leaf (with_member e)) refl) in
        let w = table-undone L t p us (word_of s m i 0) least (omega (arith, H.seats, party)) in
        λ z. record { entries = L.entries; root = r z; free = length L.free; table = w z; records = L.records }

    taken-ready : Undoing s m i
    unfolding decode_undo
    taken-ready = record {
      own = (own i (omega (arith, one-i))).has;
      value = λ q. absurd (omega (arith, taken-fits.0, q));
      added = λ q. absurd (omega (arith, taken-fits.0, q));
      taken = λ q r. subst (λ y. Puttable s m y i) (A.num ∙ sym taken-fits.2) (put-able s m (R-of s) d i e (firsts G) group-was.chained d-out i-out i-not-d X-store);
    }

    pub taken-row : Onward s t L p u us (undo_one s m i) x'
    taken-row = subst (λ z. Onward s t L p u us z x') (sym taken_is) (record {
      lay = L1;
      holds = taken-holds;
      mine = put-here p us L.undos;
      others = λ q n. put-there p us L.undos q n;
      means_next = subst (λ b. means L1 (set t p x') ≡ undone_state p (map (λ y. y.undo) us) b (means L t)) (sym what) taken-means;
      rising = row-rising e i (with_member e) ((i, e) ∷ G) L.free b1 X J1 X-in;
      sizes = row-sizes e i (with_member e) ((i, e) ∷ G) L.free b1 X J1 X-in;
      touched = X;
      written = J-only;
      ready = taken-ready;
    })

  -- ---- an entry that was added

  module _ (e : ℕ) (what : u.undo ≡ added e k) (some : ¬ (u.saved ≡ 0)) (off : OthersOff L p e) where
    added-fits : (word_of s m i 1 ≡ 2) × (word_of s m i 2 ≡ e) × (word_of s m i 3 ≡ u.saved) × (word_of s m i 4 ≡ u.descriptor)
    added-fits = subst (UndoFits s m i u.saved u.descriptor) what (mine-fit s t L H Z p least party u us chain).words.0

    added-names : Has k u.descriptor (leaves_in L) × (member_of e (L.members u.descriptor) ≡ u.saved) × Named (leaves_in L) us (set_list u.descriptor e 0 (lists_in L))
    added-names = subst (NamedAs (leaves_in L) (Named (leaves_in L) us) (lists_in L) u.num u.saved u.descriptor) what (mine-named s t L H Z p least party u us chain)

    abbrev o : ℕ
    o = u.saved

    F : Found e o G
    F = found e o G (subst (λ y. member_of e (L.members y) ≡ o) (sym A.num) added-names.1) some

    abbrev fa : List ℕ
    fa = firsts F.a

    abbrev fb : List ℕ
    fb = firsts F.b

    abbrev ms : List (ℕ × ℕ)
    ms = F.a ++ F.b

    parts : firsts G ≡ fa ++ o ∷ fb
    parts = ap firsts F.is ∙ map-append (λ q. q.0) F.a ((o, e) ∷ F.b)

    part-times : (j : ℕ) → times j (firsts G) ≡ times j fa + (times j (o ∷ []) + times j fb)
    part-times j = omega (arith, ap (times j) parts, times-append j fa (o ∷ fb))

    less-times : (j : ℕ) → times j (firsts ms) ≡ times j fa + times j fb
    less-times j = ap (times j) (map-append (λ q. q.0) F.a F.b) ∙ times-append j fa fb

    o-one : 1 ≤ times o (o ∷ [])
    o-one = times-in o (o ∷ []) (inl refl)

    was : Chained s m (word_of s m d 6) (fa ++ o ∷ fb)
    was = subst (Chained s m (word_of s m d 6)) parts group-was.chained

    links : Linked s m 0 (fa ++ o ∷ fb)
    links = subst (Linked s m 0) parts group-was.linked

    once-now : Once (fa ++ o ∷ fb)
    once-now = subst Once parts once-firsts

    out-now : Apart d (fa ++ o ∷ fb)
    out-now = subst (Apart d) parts d-out

    store-now : All (Within s m (R-of s)) (d ∷ (fa ++ o ∷ fb))
    store-now = (own d (omega (arith, one-d)), subst (All (Within s m (R-of s))) parts (all_from (firsts G) (λ j h. own j (omega (arith, times-in j (firsts G) h)))))

    abbrev a1 : List ℕ
    a1 = take_member s m d o

    abbrev a2 : List ℕ
    a2 = push_free a1 m o

    abbrev a3 : List ℕ
    a3 = push_free a2 m i

    added_is : undo_one s m i ≡ a3
    unfolding added_back decode_undo
    added_is =
        one-added s m i (λ q. omega (arith, added-fits.0, q)) added-fits.0
        ∙ ap₂ (λ x y. push_free (push_free (take_member s m x y) m y) m i) (added-fits.3 ∙ sym A.num) added-fits.2

    K : Changed s a1 m (R-of s) [] (d ∷ (fa ++ fb))
    K = take-member-changed s m (R-of s) d o fa fb was links once-now out-now store-now

    K1 : Changed s a1 m (R-of s) (free_place ∷ []) (d ∷ (fa ++ fb))
    K1 = changed-wide s a1 m (R-of s) [] (free_place ∷ []) (d ∷ (fa ++ fb)) (d ∷ (fa ++ fb)) K (λ y a. tt) (λ j h a. a)

    o-in : Within s m (R-of s) o
    o-in = own o (omega (arith, part-times o, o-one))

    o-in1 : Within a1 m (R-of s) o
    o-in1 = within-kept K1.long o-in

    K2 : Changed a1 a2 m (R-of s) (free_place ∷ []) (o ∷ [])
    K2 = push-changed a1 m (R-of s) o o-in1

    i-in2 : Within a2 m (R-of s) i
    i-in2 = within-kept {s = a1} K2.long (within-kept {s = s} K1.long (own i (omega (arith, one-i))))

    K3 : Changed a2 a3 m (R-of s) (free_place ∷ []) (i ∷ [])
    K3 = push-changed a2 m (R-of s) i i-in2

    abbrev Y : List ℕ
    Y = ((d ∷ (fa ++ fb)) ++ (o ∷ [])) ++ (i ∷ [])

    K123 : Changed s a3 m (R-of s) (free_place ∷ []) Y
    K123 = changed_then s a2 a3 m (R-of s) (free_place ∷ []) ((d ∷ (fa ++ fb)) ++ (o ∷ [])) (i ∷ []) (changed_then s a1 a2 m (R-of s) (free_place ∷ []) (d ∷ (fa ++ fb)) (o ∷ []) K1 K2) K3

    Y-times : (j : ℕ) → times j Y ≡ times j (d ∷ []) + (times j (firsts G) + times j (i ∷ []))
    Y-times j = omega (
      arith,
      times-append j ((d ∷ (fa ++ fb)) ++ (o ∷ [])) (i ∷ []),
      times-append j (d ∷ (fa ++ fb)) (o ∷ []),
      times-append j fa fb,
      part-times j,
    )

    Y-in : (j : ℕ) → In j Y → 1 ≤ tally j
    Y-in j h = omega (arith, times-in j Y h, Y-times j)

    Y-only : Written s a3 Y
    Y-only = changed-written s a3 Y K123

    Y-old : All (λ j. times j (undo_numbers us) ≡ 0) Y
    Y-old = all_from Y (λ j h. omega (arith, times-in j Y h, Y-times j, tally_one j))

    -- From the member taken out on, only its record and the undo record are written.
    after : (j : ℕ) → 1 ≤ j → ¬ (j ≡ o) → ¬ (j ≡ i) → SameAt a1 a3 m j
    after j h x y = K2.same j h (x, tt) ∙ K3.same j h (y, tt)

    d-not-o : ¬ (d ≡ o)
    d-not-o q = omega (arith, tally_one d, one-d, part-times d, times-in d (o ∷ []) (inl q))

    i-not-o : ¬ (i ≡ o)
    i-not-o q = omega (arith, tally_one i, one-i, part-times i, times-in i (o ∷ []) (inl q))

    d-after : SameAt a1 a3 m d
    d-after = after d (own d (omega (arith, one-d))).has.first d-not-o (λ q. i-not-d (sym q))

    added-desc : SameWords s a3 m (0 ∷ 1 ∷ 2 ∷ 3 ∷ 4 ∷ 5 ∷ []) d
    added-desc = all_both {P = λ y. word_of s m d y ≡ word_of a1 m d y} {Q = λ y. word_of a1 m d y ≡ word_of a3 m d y} {R = λ y. word_of s m d y ≡ word_of a3 m d y} (λ y x w. x ∙ w)
        (0 ∷ 1 ∷ 2 ∷ 3 ∷ 4 ∷ 5 ∷ []) (take_desc s m (R-of s) d o fa fb was links once-now out-now store-now) (same-words a1 a3 m (0 ∷ 1 ∷ 2 ∷ 3 ∷ 4 ∷ 5 ∷ []) d d-after)

    left_after : All (SameAt a1 a3 m) (firsts ms)
    left_after = all_from (firsts ms) (λ j h.
        let n = times-in j (firsts ms) h in
        after j (own j (omega (arith, n, less-times j, part-times j))).has.first
        (λ q. omega (arith, n, less-times j, part-times j, tally_one j, times-in j (o ∷ []) (inl q)))
        (λ q. omega (arith, n, less-times j, part-times j, tally_one j, times-in j (i ∷ undo_numbers us) (inl q))))

    added-group : GroupFits a3 m ms (new_leaf (without_member e))
    added-group =
        group-keep a1 a3 m ms (new_leaf (without_member e)) (ap (λ v. get_or v 6 0) d-after) left_after
        (take-group s a1 m d o e F.a F.b l (new_leaf (without_member e)) refl refl refl (subst (λ y. GroupFits s m y l) F.is group-was) once-now
        (take_out s m (R-of s) d o fa fb was links once-now out-now store-now))

    free-first : Chained a1 m (header_word a1 free_place) L.free
    free-first =
        subst (λ y. Chained a1 m y L.free) (sym (K.head free_place (lit< tt) tt))
        (chained_same s a1 m (header_word s free_place) L.free (all_words s a1 m chain_words L.free
        (free-kept a1 (d ∷ (fa ++ fb)) (changed-written s a1 (d ∷ (fa ++ fb)) K1)
        (all_from (d ∷ (fa ++ fb)) (λ j h. omega (arith, times-in j (d ∷ (fa ++ fb)) h, times-append j fa fb, part-times j, tally_one j))))) H.fits.free)

    added-free : Chained a3 m (header_word a3 free_place) (i ∷ o ∷ L.free)
    added-free =
        let h1 : 16 ≤ length a1 = subst (λ n. 16 ≤ n) (sym K1.long) H.fits.header in
        push-chained a2 m (R-of s) i i-in2 (subst (λ n. 16 ≤ n) (sym K2.long) h1) (o ∷ L.free)
        (push-chained a1 m (R-of s) o o-in1 h1 L.free free-first free_one (apart-times o L.free (omega (arith, tally_one o, part-times o, o-one))))
        (o-in.has.first, free_one) (i-not-o, apart-times i L.free (omega (arith, tally_one i, one-i)))

    abbrev L2 : Lay
    L2 = next_lay (without_member e) ms (i ∷ o ∷ L.free)

    added-lists : (g : ℕ) → member_of g ms ≡ cond (eqb g e) 0 (member_of g G)
    added-lists g = member-out o e F.a F.b (subst (λ y. Once (seconds y)) F.is group-was.once) g ∙ ap (λ y. cond (eqb g e) 0 (member_of g y)) (sym F.is)

    added-holds : Holds a3 (set t p x') L2
    added-holds =
        row-holds e 0 (without_member e) ms (i ∷ o ∷ L.free) a3 Y K123 Y-in added-desc added-group (rest-kept a3 Y Y-only Y-old) added-free
        (λ j. omega (arith, less-times j, part-times j)) added-lists (subst (λ y. Named (leaves_in L) us (set_list y e 0 (lists_in L))) (sym A.num) added-names.2) off

    added-means : means L2 (set t p x') ≡ undone_state p (map (λ y. y.undo) us) (added e k) (means L t)
    unfolding means C.undo on_tree
    added-means =
        let r = ap (λ σ. σ.root) (means-desc L t k u.descriptor A (group_desc (without_member e)) (new_leaf (without_member e)) refl) in
        let f : length (i ∷ o ∷ L.free) ≡ length L.free + 2 = omega arith in
        let w = table-undone L t p us (word_of s m i 0) least (omega (arith, H.seats, party)) in
        λ z. record { entries = L.entries; root = r z; free = f z; table = w z; records = L.records }

    added-ready : Undoing s m i
    unfolding decode_undo
    added-ready = record {
      own = (own i (omega (arith, one-i))).has;
      value = λ q. absurd (omega (arith, added-fits.0, q));
      added = λ q. subst (λ y. Takeable s m y (word_of s m i 3)) (A.num ∙ sym added-fits.3)
          (subst (λ y. Takeable s m d y) (sym added-fits.2) (take-able s m (R-of s) d o fa fb was links once-now out-now store-now));
      taken = λ q r. absurd (r added-fits.0);
    }

    pub added-row : Onward s t L p u us (undo_one s m i) x'
    added-row = subst (λ z. Onward s t L p u us z x') (sym added_is) (record {
      lay = L2;
      holds = added-holds;
      mine = put-here p us L.undos;
      others = λ q n. put-there p us L.undos q n;
      means_next = subst (λ b. means L2 (set t p x') ≡ undone_state p (map (λ y. y.undo) us) b (means L t)) (sym what) added-means;
      rising = row-rising e 0 (without_member e) ms (i ∷ o ∷ L.free) a3 Y K123 Y-in;
      sizes = row-sizes e 0 (without_member e) ms (i ∷ o ∷ L.free) a3 Y K123 Y-in;
      touched = Y;
      written = Y-only;
      ready = added-ready;
    })
