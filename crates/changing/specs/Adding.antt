-- An entry added: of two free records one becomes its membership, at the front of the group's chain, and the other the undo record.
use Rattle.std.specs.Prelude.{◌≡◌, Bool, List, [], ◌∷◌, ◌++◌, ℕ, suc, ◌+◌, ◌≤◌, length}
use Rattle.std.proofs.Math.Path.{refl, sym, ap, subst}
use Rattle.std.proofs.Common.{◌∙◌, inl, inr, arith, lit<, eq-eqb, ne_eqb}
use Rattle.std.proofs.Math.Bool.{cond}
use Rattle.std.proofs.Math.Option.{none}
use Rattle.std.proofs.Math.ListN.{get_or}
use Rattle.words.specs.Store.{HasRecord, put_record, word_of, has_kept}
use Rattle.words.specs.Header.{header_word, free_place}
use Rattle.undos.specs.Undo as U
use Rattle.undos.specs.Undo.{encode_undo, undo_added}
use Rattle.chain.specs.Free.{pop_free}
use Rattle.sessions.specs.declared.Session.{Session}
use Rattle.sessions.specs.Sessions.{session_at, tenure}
use Rattle.machine.specs.Holders.{width}
use Rattle.machine.specs.State.{added, on_desc, with_free, group_desc, with_member, set_hand, add_undo}
use Rattle.machine.specs.Sound.{times}
use Rattle.meaning.specs.Reading.{Chained, Leaf, M-of, R-of}
use Rattle.meaning.specs.Sound.{All, Apart, Once, set_list}
use Rattle.meaning.specs.Numbers.{In, all-as, all_of, all_both, all_from, all_in, apart_from, apart-times, not_in, times-in, one-is}
use Rattle.meaning.specs.Frame.{SameAt, SameWords, same-words}
use Rattle.meaning.specs.Lens.{leaves_before, leaves_behind}
use Rattle.layout.specs.Layout.{Lay, Undone, leaves_in, firsts, seconds, undo_numbers, GroupFits, Has, member_of, lists_in, Holds, means}
use Rattle.layout.specs.Written.{pop-free}
use Rattle.layout.specs.Puts.{desc-first}
use Rattle.layout.specs.Keep.{chained-keep, group-keep}
use Rattle.layout.specs.Groups.{put_at, put-here}
use Rattle.layout.specs.Places.{AtKey}
use Rattle.layout.specs.Ordering.{Rising}
use Rattle.layout.specs.Room.{Sizes}
use Rattle.members.specs.Members.{Puttable, put_member}
use Rattle.undo_log.specs.Undoing.{Loggable, log_added}
use Rattle.grouping.specs.GroupWords.{Changed, Within, within-kept, changed-wide, put-changed, put_word, first-in, put-desc, put-member-changed}
use Rattle.changing.specs.Naming.{undo_entry, named-on, not_there, lists-put, lists_back, has-mid, in_left, in_right}
use Rattle.changing.specs.Fitting.{put-fits, pop-changed, changed-both}
use Rattle.changing.specs.Logged.{Logged, Logs, logged, own-once, own-within, within-members, within-free, members-once, desc-out, group-was, mine-same}

module _ (s : List ℕ) (t : List Session) (L : Lay) (H : Holds s t L) (Z : Sizes L) (o : Rising L) (k d : ℕ) (P : AtKey L k d) (p : ℕ) (party : suc p ≤ width) (e : ℕ)
    (others : (q : ℕ) → suc q ≤ width → ¬ (suc q ≡ suc p) → All (λ u. ¬ (undo_entry u.undo ≡ e)) (L.undos (suc q)))
    (y : Session) (tenure_kept : tenure y ≡ tenure (session_at t (suc p))) (stage : y.stage ≡ 0)
    (a b : ℕ) (f : List ℕ) (fr : L.free ≡ a ∷ b ∷ f) (absent : member_of e (L.members P.leaf.num) ≡ 0) (undo : y.undo ≡ b) where
  abbrev m : ℕ
  m = M-of s

  abbrev r : ℕ
  r = R-of s

  abbrev l : Leaf
  l = P.leaf

  abbrev c : List (ℕ × ℕ)
  c = L.members l.num

  abbrev mine : List ℕ
  mine = undo_numbers (L.undos (suc p))

  abbrev first : ℕ
  first = (session_at t (suc p)).undo

  once-all : (i : ℕ) → times i (l.num ∷ []) + (times i (firsts c) + (times i mine + times i L.free)) ≤ 1
  once-all = own-once s t L H Z o k d P p party

  here : Within s m r l.num
  here = (own-within s t L H Z o k d P p party).0

  among : All (Within s m r) (firsts c)
  among = within-members s t L H Z o k d P p party

  frees : All (Within s m r) L.free
  frees = within-free s t L H Z o k d P p party

  was : GroupFits s m c l
  was = group-was s t L H Z o k d P p party

  out-d : Apart l.num (firsts c)
  out-d = desc-out s t L H Z o k d P p party

  only : Once (firsts c)
  only = members-once s t L H Z o k d P p party

  there : Has k l.num (leaves_in L)
  there = subst (Has k l.num) (sym P.was) (has-mid k (leaves_before P.around) l (leaves_behind P.around) P.key)

  ch : Chained s m (header_word s free_place) (a ∷ b ∷ f)
  ch = subst (Chained s m (header_word s free_place)) fr H.fits.free

  free-times : (i : ℕ) → times i L.free ≡ times i (a ∷ b ∷ f)
  free-times i = ap (times i) fr

  in-free : All (Within s m r) (a ∷ b ∷ f)
  in-free = subst (All (Within s m r)) fr frees

  a-members : Apart a (firsts c)
  a-members = apart-times a (firsts c) (omega (arith, once-all a, free-times a, one-is a a refl))

  a-desc : ¬ (a ≡ l.num)
  a-desc z = omega (arith, once-all a, free-times a, one-is a a refl, one-is l.num a (sym z))

  b-desc : ¬ (b ≡ l.num)
  b-desc z = omega (arith, once-all b, free-times b, one-is b b refl, one-is l.num b (sym z))

  b-a : ¬ (b ≡ a)
  b-a z = omega (arith, once-all b, free-times b, one-is b b refl, one-is a b (sym z))

  b-members : Apart b (firsts c)
  b-members = apart-times b (firsts c) (omega (arith, once-all b, free-times b, one-is b b refl))

  -- One record off the free chain.
  s1 : List ℕ
  s1 = pop_free s m

  C1 : Changed s s1 m r (free_place ∷ []) []
  unfolding s1
  C1 = pop-changed s m r ch.1

  same1 : (j : ℕ) → 1 ≤ j → SameAt s s1 m j
  same1 j h = C1.same j h tt

  free1 : header_word s1 free_place ≡ b
  unfolding s1
  free1 = pop-free s m H.fits.header ch.1 ∙ ch.2.0

  G1 : GroupFits s1 m c l
  G1 = group-keep s s1 m c l (ap (λ v. get_or v 6 0) (same1 l.num here.has.first)) (all_from (firsts c) (λ j h. same1 j (all_in (Within s m r) (firsts c) among j h).has.first)) was

  in1 : All (Within s1 m r) (l.num ∷ a ∷ firsts c)
  in1 = all-as {P = Within s m r} {Q = Within s1 m r} (λ i w. within-kept C1.long w) (l.num ∷ a ∷ firsts c) (here, (in-free.0, among))

  new-entry : Apart e (seconds c)
  new-entry = not_there e c (all-as {P = Within s m r} {Q = λ j. ¬ (j ≡ 0)} (λ j w z. omega (arith, z, w.has.first)) (firsts c) among) absent

  -- It becomes the first member.
  s2 : List ℕ
  s2 = put_member s1 m l.num a e

  l' : Leaf
  l' = record { num = l.num; desc = group_desc (with_member e) l.desc }

  C2 : Changed s1 s2 m r [] (l.num ∷ a ∷ firsts c)
  unfolding s2
  C2 = put-member-changed s1 m r l.num a e (firsts c) G1.chained out-d a-members a-desc in1

  D2 : SameWords s1 s2 m (0 ∷ 1 ∷ 2 ∷ 3 ∷ 4 ∷ 5 ∷ []) l.num
  unfolding s2
  D2 = put-desc s1 m r l.num a e (firsts c) G1.chained out-d a-members a-desc in1

  G2 : GroupFits s2 m ((a, e) ∷ c) l'
  unfolding s2 l'
  G2 = put-fits s1 m r a e c l l' refl G1 out-d a-members a-desc in1 only new-entry refl

  free2 : header_word s2 free_place ≡ b
  free2 = C2.head free_place (lit< tt) tt ∙ free1

  -- The second free record is then the first one.
  pub second : header_word (put_member (pop_free s m) m l.num a e) free_place ≡ b
  unfolding s2 s1
  second = free2

  some_b : ¬ (b ≡ 0)
  some_b z = omega (arith, z, in-free.1.0.has.first)

  -- Another record off the free chain.
  s3 : List ℕ
  s3 = pop_free s2 m

  long2 : length s2 ≡ length s
  long2 = C2.long ∙ C1.long

  C3 : Changed s2 s3 m r (free_place ∷ []) []
  unfolding s3
  C3 = pop-changed s2 m r (λ z. some_b (sym free2 ∙ z))

  free3 : header_word s3 free_place ≡ word_of s2 m b 0
  unfolding s3
  free3 = pop-free s2 m (subst (λ n. 16 ≤ n) (sym long2) H.fits.header) (λ z. some_b (sym free2 ∙ z)) ∙ ap (λ i. word_of s2 m i 0) free2

  -- It becomes the undo record.
  s4 : List ℕ
  s4 = put_record s3 m b (encode_undo (undo_added first e a l.num))

  in3 : Within s3 m r b
  in3 = within-kept (C3.long ∙ long2) in-free.1.0

  C4 : Changed s3 s4 m r [] (b ∷ [])
  unfolding s4
  C4 = put-changed s3 m r b (encode_undo (undo_added first e a l.num)) in3 (U.length-encode (undo_added first e a l.num))

  word-b : (v : ℕ) → word_of s4 m b v ≡ get_or (encode_undo (undo_added first e a l.num)) v 0
  unfolding s4
  word-b = put_word s3 m r b (encode_undo (undo_added first e a l.num)) in3 (U.length-encode (undo_added first e a l.num))

  is4 : s4 ≡ log_added (put_member (pop_free s m) m l.num a e) m e a l.num first
  unfolding s4 s3 s2 s1 log_added
  is4 = ap (λ i. put_record s3 m i (encode_undo (undo_added first e a l.num))) (sym free2)

  abbrev W : List ℕ
  W = l.num ∷ a ∷ b ∷ firsts c

  C : Changed s s4 m r (free_place ∷ []) W
  C =
      changed-both s s1 s4 m r (free_place ∷ []) W (changed-wide s s1 m r (free_place ∷ []) (free_place ∷ []) [] W C1 (λ i x. x) (λ j h x. tt))
      (changed-both s1 s2 s4 m r (free_place ∷ []) W (changed-wide s1 s2 m r [] (free_place ∷ []) (l.num ∷ a ∷ firsts c) W C2 (λ i x. tt) (λ j h x. (x.0, (x.1.0, x.1.1.1))))
      (changed-both s2 s3 s4 m r (free_place ∷ []) W (changed-wide s2 s3 m r (free_place ∷ []) (free_place ∷ []) [] W C3 (λ i x. x) (λ j h x. tt))
      (changed-wide s3 s4 m r [] (free_place ∷ []) (b ∷ []) W C4 (λ i x. tt) (λ j h x. (x.1.1.0, tt)))))

  -- Records that are none of these.
  same24 : (j : ℕ) → 1 ≤ j → ¬ (j ≡ b) → SameAt s2 s4 m j
  same24 j h n = C3.same j h tt ∙ C4.same j h (n, tt)

  desc4 : SameWords s s4 m (0 ∷ 1 ∷ 2 ∷ 3 ∷ 4 ∷ 5 ∷ []) l.num
  desc4 =
      let ks : List ℕ = 0 ∷ 1 ∷ 2 ∷ 3 ∷ 4 ∷ 5 ∷ [] in
      let x : SameWords s s2 m ks l.num =
      all_both {P = λ v. word_of s m l.num v ≡ word_of s1 m l.num v} {Q = λ v. word_of s1 m l.num v ≡ word_of s2 m l.num v} {R = λ v. word_of s m l.num v ≡ word_of s2 m l.num v}
      (λ v x y. x ∙ y) ks (same-words s s1 m ks l.num (same1 l.num here.has.first)) D2 in
      all_both {P = λ v. word_of s m l.num v ≡ word_of s2 m l.num v} {Q = λ v. word_of s2 m l.num v ≡ word_of s4 m l.num v} {R = λ v. word_of s m l.num v ≡ word_of s4 m l.num v}
      (λ v x y. x ∙ y) ks x (same-words s2 s4 m ks l.num (same24 l.num here.has.first (λ z. b-desc (sym z))))

  G4 : GroupFits s4 m ((a, e) ∷ c) l'
  unfolding l'
  G4 = group-keep s2 s4 m ((a, e) ∷ c) l' (ap (λ v. get_or v 6 0) (same24 l.num here.has.first (λ z. b-desc (sym z))))
      (same24 a in-free.0.has.first (λ z. b-a (sym z)), all_from (firsts c) (λ j h. same24 j (all_in (Within s m r) (firsts c) among j h).has.first (λ z. not_in b (firsts c) b-members (subst (λ i. In i (firsts c)) z h)))) G2

  mine-off : (j : ℕ) → In j W → times j mine ≡ 0
  mine-off j (inl z) = omega (arith, once-all j, one-is l.num j (sym z))
  mine-off j (inr (inl z)) = omega (arith, once-all j, free-times j, one-is a j (sym z))
  mine-off j (inr (inr (inl z))) = omega (arith, once-all j, free-times j, one-is b j (sym z))
  mine-off j (inr (inr (inr h))) = omega (arith, once-all j, times-in j (firsts c) h)

  free_off : (j : ℕ) → In j W → times j f ≡ 0
  free_off j (inl z) = omega (arith, once-all j, free-times j, one-is l.num j (sym z))
  free_off j (inr (inl z)) = omega (arith, once-all j, free-times j, one-is a j (sym z))
  free_off j (inr (inr (inl z))) = omega (arith, once-all j, free-times j, one-is b j (sym z))
  free_off j (inr (inr (inr h))) = omega (arith, once-all j, free-times j, times-in j (firsts c) h)

  free4 : Chained s4 m (header_word s4 free_place) f
  free4 =
      let same-b : word_of s m b 0 ≡ word_of s2 m b 0 = ap (λ v. get_or v 0 0) (same1 b in-free.1.0.has.first ∙ C2.same b in-free.1.0.has.first (b-desc, (b-a, b-members))) in
      let z : header_word s4 free_place ≡ word_of s m (word_of s m (header_word s free_place) 0) 0 =
      C4.head free_place (lit< tt) tt ∙ free3 ∙ sym same-b ∙ ap (λ i. word_of s m i 0) (sym ch.2.0) in
      subst (λ i. Chained s4 m i f) (sym z)
      (chained-keep s s4 m (word_of s m (word_of s m (header_word s free_place) 0) 0) f
      (all_from f (λ j h. C.same j (all_in (Within s m r) f in-free.1.1 j h).has.first (apart_from j W (λ i. omega (arith, free_off j i, times-in j f h))))) ch.2.2)

  new : Undone
  new = record { num = b; undo = added e k; saved = a; descriptor = l.num }

  inside4 : All (λ i. In i (l.num ∷ (firsts c ++ (mine ++ L.free)))) W
  inside4 =
      let frees-in : (j : ℕ) → In j (a ∷ b ∷ f) → In j (l.num ∷ (firsts c ++ (mine ++ L.free))) =
      λ j h. inr (in_right j (firsts c) (mine ++ L.free) (in_right j mine L.free (subst (In j) (sym fr) h))) in
      (inl refl, (frees-in a (inl refl), (frees-in b (inr (inl refl)), all_from (firsts c) (λ j h. inr (in_left j (firsts c) (mine ++ L.free) h)))))

  same-members : (h : ℕ) → ¬ (h ≡ e) → member_of h c ≡ member_of h ((a, e) ∷ c)
  unfolding member_of
  same-members h n = sym (ap (λ (z : Bool). cond z a (member_of h c)) (ne_eqb e h (λ z. n (sym z))))

  member-e : member_of e ((a, e) ∷ c) ≡ a
  unfolding member_of
  member-e = ap (λ (z : Bool). cond z a (member_of e c)) (eq-eqb e e refl)

  words4 : Logs s t L H Z o k d P p party e (with_member e) ((a, e) ∷ c) new f y s4 W
  unfolding new l' encode_undo undo_added
  words4 = record {
    changed = C;
    inside = inside4;
    desc = desc4;
    group = G4;
    undo = (word-b 1, word-b 2, word-b 3, word-b 4);
    some = some_b;
    link = word-b 0;
    older = mine-same s t L H Z o k d P p party s4 W C mine-off;
    free = free4;
    count = λ i. omega (arith, free-times i);
    tenure_kept = tenure_kept;
    stage = stage;
    head = undo;
    own_named = (
      there,
      ap (member_of e) (put-here l.num ((a, e) ∷ c) L.members) ∙ member-e,
      named-on (λ _. Unit {0}) (leaves_in L) (L.undos (suc p)) (lists_in L) (set_list l.num e 0 (λ j h. member_of h (put_at l.num ((a, e) ∷ c) L.members j)))
          (λ i h _. lists_back L.members l.num e ((a, e) ∷ c) same-members 0 absent i h) (all_of (λ u. tt) (L.undos (suc p))) (H.named p party),
    );
    lists_same = lists-put L.members l.num e ((a, e) ∷ c) same-members;
    others = others;
  }

  pub adds : Logged s t L (suc p) y (log_added (put_member (pop_free s m) m l.num a e) m e a l.num first)
      (set_hand (suc p) none (add_undo (suc p) (added e k) (with_free (length f) (on_desc k (group_desc (with_member e)) (means L t)))))
  unfolding new
  adds = subst (λ z. Logged s t L (suc p) y z (set_hand (suc p) none (add_undo (suc p) (added e k) (with_free (length f) (on_desc k (group_desc (with_member e)) (means L t)))))) is4
      (logged s t L H Z o k d P p party e (with_member e) ((a, e) ∷ c) new f y s4 W words4)

  -- ---- what the code asks for

  pub puttable : Puttable (pop_free s m) m l.num a
  unfolding s1
  puttable =
      let q = desc-first s1 m l.num in
      record {
        descriptor = in1.0.has;
        own = in1.1.0.has;
        first = λ n. subst (λ i. HasRecord s1 m i) (sym q)
            (all_in (Within s1 m r) (firsts c) in1.1.1 (word_of s1 m l.num 6) (first-in s1 m (word_of s1 m l.num 6) (firsts c) G1.chained (λ z. n (q ∙ z)))).has;
      }

  pub loggable : Loggable (put_member (pop_free s m) m l.num a e) m
  unfolding s2 s1
  loggable = record { header = subst (λ n. 16 ≤ n) (sym long2) H.fits.header; first = subst (λ i. HasRecord s2 m i) (sym free2) (has_kept in-free.1.0.has long2) }

  pub added-long : length (log_added (put_member (pop_free s m) m l.num a e) m e a l.num first) ≡ length s
  added-long = ap length (sym is4) ∙ C.long

  pub added-pins : word_of (log_added (put_member (pop_free s m) m l.num a e) m e a l.num first) m l.num 5 ≡ word_of s m l.num 5
  added-pins = ap (λ z. word_of z m l.num 5) (sym is4) ∙ sym desc4.1.1.1.1.1.0
