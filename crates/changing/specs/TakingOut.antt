-- An entry taken out: its membership leaves the group's chain, and its record becomes the undo record.
use Rattle.std.specs.Prelude.{◌≡◌, List, [], ◌∷◌, ◌++◌, ℕ, suc, ◌+◌, ◌≤◌, length}
use Rattle.std.proofs.Math.Path.{refl, ap, subst}
use Rattle.std.proofs.Common.{sym, ◌∙◌, inl, inr, arith, lit<}
use Rattle.std.proofs.lemmas.List.{map-append}
use Rattle.std.proofs.Math.Option.{none}
use Rattle.std.proofs.Math.ListN.{get_or}
use Rattle.words.specs.Store.{HasRecord, put_record, word_of}
use Rattle.words.specs.Header.{header_word, free_place}
use Rattle.undos.specs.Undo as U
use Rattle.undos.specs.Undo.{encode_undo, undo_taken}
use Rattle.sessions.specs.declared.Session.{Session}
use Rattle.sessions.specs.Sessions.{session_at, tenure}
use Rattle.machine.specs.Holders.{width}
use Rattle.machine.specs.State.{taken, on_desc, with_free, group_desc, without_member, set_hand, add_undo}
use Rattle.machine.specs.Sound.{times}
use Rattle.meaning.specs.Reading.{Chained, Leaf, M-of, R-of}
use Rattle.meaning.specs.Sound.{All, Apart, Once, Linked, set_list}
use Rattle.meaning.specs.Numbers.{In, all_of, all_both, all_from, all_in, apart_from, not_in, in-times, once-mid, times-append, times-in, one-is}
use Rattle.meaning.specs.Frame.{SameAt, SameWords, same-words}
use Rattle.meaning.specs.Grouping.{last, linked-last, chained-behind}
use Rattle.meaning.specs.Lens.{leaves_before, leaves_behind}
use Rattle.layout.specs.Layout.{Lay, Undone, leaves_in, firsts, undo_numbers, GroupFits, Has, member_of, lists_in, Holds, means}
use Rattle.layout.specs.Keep.{chained-keep, group-keep}
use Rattle.layout.specs.Groups.{put_at}
use Rattle.layout.specs.Places.{AtKey}
use Rattle.layout.specs.Ordering.{Rising}
use Rattle.layout.specs.Room.{Sizes}
use Rattle.members.specs.Members.{Takeable, take_member}
use Rattle.undo_log.specs.Undoing.{log_taken}
use Rattle.grouping.specs.GroupWords.{Changed, Within, within-kept, changed-wide, put-changed, put_word, first-in}
use Rattle.changing.specs.Links.{member-next, member-before}
use Rattle.changing.specs.Naming.{undo_entry, named-on, Split, member-other, lists-put, lists_back, has-mid, in_left, in_right}
use Rattle.changing.specs.Fitting.{take-fits, out-changed, out-words, changed-both}
use Rattle.changing.specs.Logged.{Logged, Logs, logged, own-once, own-within, within-members, within-free, members-once, desc-out, group-was, mine-same}

-- The last of some records is one of them.
last_of : (j : ℕ) (a : List ℕ) → In (last j a) (j ∷ a)
last_of j [] = inl refl
last_of j (q ∷ a) = inr (last_of q a)

last_some : (a : List ℕ) → ¬ (last 0 a ≡ 0) → In (last 0 a) a
last_some [] n = absurd (n refl)
last_some (j ∷ a) n = last_of j a

module _ (s : List ℕ) (t : List Session) (L : Lay) (H : Holds s t L) (Z : Sizes L) (o : Rising L) (k d : ℕ) (P : AtKey L k d) (p : ℕ) (party : suc p ≤ width) (e : ℕ)
    (others : (q : ℕ) → suc q ≤ width → ¬ (suc q ≡ suc p) → All (λ u. ¬ (undo_entry u.undo ≡ e)) (L.undos (suc q)))
    (y : Session) (tenure_kept : tenure y ≡ tenure (session_at t (suc p))) (stage : y.stage ≡ 0)
    (i : ℕ) (R : Split e i (L.members P.leaf.num)) (undo : y.undo ≡ i) where
  abbrev m : ℕ
  m = M-of s

  abbrev r : ℕ
  r = R-of s

  abbrev l : Leaf
  l = P.leaf

  abbrev c : List (ℕ × ℕ)
  c = L.members l.num

  abbrev mine : List ℕ
  mine = undo_numbers (L.undos (suc p))

  abbrev first : ℕ
  first = (session_at t (suc p)).undo

  once-all : (i : ℕ) → times i (l.num ∷ []) + (times i (firsts c) + (times i mine + times i L.free)) ≤ 1
  once-all = own-once s t L H Z o k d P p party

  here : Within s m r l.num
  here = (own-within s t L H Z o k d P p party).0

  among : All (Within s m r) (firsts c)
  among = within-members s t L H Z o k d P p party

  frees : All (Within s m r) L.free
  frees = within-free s t L H Z o k d P p party

  was : GroupFits s m c l
  was = group-was s t L H Z o k d P p party

  out-d : Apart l.num (firsts c)
  out-d = desc-out s t L H Z o k d P p party

  only : Once (firsts c)
  only = members-once s t L H Z o k d P p party

  there : Has k l.num (leaves_in L)
  there = subst (Has k l.num) (sym P.was) (has-mid k (leaves_before P.around) l (leaves_behind P.around) P.key)

  abbrev A : List (ℕ × ℕ)
  A = R.before

  abbrev B : List (ℕ × ℕ)
  B = R.behind

  abbrev all : List (ℕ × ℕ)
  all = A ++ (i, e) ∷ B

  was-all : GroupFits s m all l
  was-all = subst (λ z. GroupFits s m z l) R.is was

  out-all : Apart l.num (firsts all)
  out-all = subst (λ z. Apart l.num (firsts z)) R.is out-d

  once-parts : Once (firsts all)
  once-parts = subst (λ z. Once (firsts z)) R.is only

  in_all : All (Within s m r) (l.num ∷ firsts all)
  in_all = (here, subst (λ z. All (Within s m r) (firsts z)) R.is among)

  parts : firsts all ≡ firsts A ++ i ∷ firsts B
  parts = map-append (λ q. q.0) A ((i, e) ∷ B)

  left : firsts (A ++ B) ≡ firsts A ++ firsts B
  left = map-append (λ q. q.0) A B

  i-left : Apart i (firsts A ++ firsts B)
  i-left = once-mid (firsts A) i (firsts B) (subst Once parts once-parts)

  members-times : (j : ℕ) → times j (firsts c) ≡ times j (firsts A) + (times j (i ∷ []) + times j (firsts B))
  members-times j = ap (λ z. times j (firsts z)) R.is ∙ ap (times j) parts ∙ omega (arith, times-append j (firsts A) (i ∷ firsts B))

  i-desc : ¬ (i ≡ l.num)
  i-desc z = omega (arith, once-all i, members-times i, one-is i i refl, one-is l.num i (sym z))

  in-i : In i (firsts c)
  in-i = subst (λ z. In i (firsts z)) (sym R.is) (subst (In i) (sym parts) (in_right i (firsts A) (i ∷ firsts B) (inl refl)))

  at_i : Within s m r i
  at_i = all_in (Within s m r) (firsts c) among i in-i

  l' : Leaf
  l' = record { num = l.num; desc = group_desc (without_member e) l.desc }

  s1 : List ℕ
  s1 = take_member s m l.num i

  C1 : Changed s s1 m r [] (l.num ∷ (firsts A ++ firsts B))
  unfolding s1 l'
  C1 = out-changed s m r i e A B l l' refl was-all out-all in_all once-parts refl

  D1 : SameWords s s1 m (0 ∷ 1 ∷ 2 ∷ 3 ∷ 4 ∷ 5 ∷ []) l.num
  unfolding s1 l'
  D1 = out-words s m r i e A B l l' refl was-all out-all in_all once-parts refl

  G1 : GroupFits s1 m (A ++ B) l'
  unfolding s1 l'
  G1 = take-fits s m r i e A B l l' refl was-all out-all in_all once-parts refl

  s2 : List ℕ
  s2 = put_record s1 m i (encode_undo (undo_taken first e l.num))

  in1 : Within s1 m r i
  in1 = within-kept C1.long at_i

  C2 : Changed s1 s2 m r [] (i ∷ [])
  unfolding s2
  C2 = put-changed s1 m r i (encode_undo (undo_taken first e l.num)) in1 (U.length-encode (undo_taken first e l.num))

  word-i : (v : ℕ) → word_of s2 m i v ≡ get_or (encode_undo (undo_taken first e l.num)) v 0
  unfolding s2
  word-i = put_word s1 m r i (encode_undo (undo_taken first e l.num)) in1 (U.length-encode (undo_taken first e l.num))

  is2 : s2 ≡ log_taken (take_member s m l.num i) m i e l.num first
  unfolding s2 s1 log_taken
  is2 = refl

  abbrev W : List ℕ
  W = l.num ∷ i ∷ (firsts A ++ firsts B)

  C : Changed s s2 m r (free_place ∷ []) W
  C =
      changed-both s s1 s2 m r (free_place ∷ []) W (changed-wide s s1 m r [] (free_place ∷ []) (l.num ∷ (firsts A ++ firsts B)) W C1 (λ n x. tt) (λ j h x. (x.0, x.1.1)))
      (changed-wide s1 s2 m r [] (free_place ∷ []) (i ∷ []) W C2 (λ n x. tt) (λ j h x. (x.1.0, tt)))

  same12 : (j : ℕ) → 1 ≤ j → ¬ (j ≡ i) → SameAt s1 s2 m j
  same12 j h n = C2.same j h (n, tt)

  desc2 : SameWords s s2 m (0 ∷ 1 ∷ 2 ∷ 3 ∷ 4 ∷ 5 ∷ []) l.num
  desc2 =
      let ks : List ℕ = 0 ∷ 1 ∷ 2 ∷ 3 ∷ 4 ∷ 5 ∷ [] in
      all_both {P = λ v. word_of s m l.num v ≡ word_of s1 m l.num v} {Q = λ v. word_of s1 m l.num v ≡ word_of s2 m l.num v} {R = λ v. word_of s m l.num v ≡ word_of s2 m l.num v}
      (λ v x y. x ∙ y) ks D1 (same-words s1 s2 m ks l.num (same12 l.num here.has.first (λ z. i-desc (sym z))))

  -- The members that are left are among those that were there.
  left_in : (j : ℕ) → In j (firsts A ++ firsts B) → In j (firsts c)
  left_in j h = in-times j (firsts c) (omega (arith, members-times j, times-append j (firsts A) (firsts B), times-in j (firsts A ++ firsts B) h))

  G2 : GroupFits s2 m (A ++ B) l'
  unfolding l'
  G2 = group-keep s1 s2 m (A ++ B) l' (ap (λ v. get_or v 6 0) (same12 l.num here.has.first (λ z. i-desc (sym z))))
      (subst (All (SameAt s1 s2 m)) (sym left) (all_from (firsts A ++ firsts B) (λ j h. same12 j (all_in (Within s m r) (firsts c) among j (left_in j h)).has.first
      (λ z. not_in i (firsts A ++ firsts B) i-left (subst (λ x. In x (firsts A ++ firsts B)) z h))))) G1

  mine-off : (j : ℕ) → In j W → times j mine ≡ 0
  mine-off j (inl z) = omega (arith, once-all j, one-is l.num j (sym z))
  mine-off j (inr (inl z)) = omega (arith, once-all j, members-times j, one-is i j (sym z))
  mine-off j (inr (inr h)) = omega (arith, once-all j, members-times j, times-append j (firsts A) (firsts B), times-in j (firsts A ++ firsts B) h)

  free_off : (j : ℕ) → In j W → times j L.free ≡ 0
  free_off j (inl z) = omega (arith, once-all j, one-is l.num j (sym z))
  free_off j (inr (inl z)) = omega (arith, once-all j, members-times j, one-is i j (sym z))
  free_off j (inr (inr h)) = omega (arith, once-all j, members-times j, times-append j (firsts A) (firsts B), times-in j (firsts A ++ firsts B) h)

  free2 : Chained s2 m (header_word s2 free_place) L.free
  free2 =
      subst (λ n. Chained s2 m n L.free) (sym (C2.head free_place (lit< tt) tt ∙ C1.head free_place (lit< tt) tt))
      (chained-keep s s2 m (header_word s free_place) L.free
      (all_from L.free (λ j h. C.same j (all_in (Within s m r) L.free frees j h).has.first (apart_from j W (λ x. omega (arith, free_off j x, times-in j L.free h))))) H.fits.free)

  new : Undone
  new = record { num = i; undo = taken e k; saved = 0; descriptor = l.num }

  inside2 : All (λ j. In j (l.num ∷ (firsts c ++ (mine ++ L.free)))) W
  inside2 =
      (inl refl, (inr (in_left i (firsts c) (mine ++ L.free) in-i), all_from (firsts A ++ firsts B) (λ j h. inr (in_left j (firsts c) (mine ++ L.free) (left_in j h)))))

  same-members : (h : ℕ) → ¬ (h ≡ e) → member_of h c ≡ member_of h (A ++ B)
  same-members h n = ap (member_of h) R.is ∙ member-other h i e A B (λ z. n (sym z))

  words2 : member_of e c ≡ i → Logs s t L H Z o k d P p party e (without_member e) (A ++ B) new L.free y s2 W
  unfolding new l' encode_undo undo_taken
  words2 found = record {
    changed = C;
    inside = inside2;
    desc = desc2;
    group = G2;
    undo = (word-i 1, word-i 2, word-i 4);
    some = λ z. omega (arith, z, at_i.has.first);
    link = word-i 0;
    older = mine-same s t L H Z o k d P p party s2 W C mine-off;
    free = free2;
    count = λ j. omega (arith, members-times j, ap (times j) left, times-append j (firsts A) (firsts B));
    tenure_kept = tenure_kept;
    stage = stage;
    head = undo;
    own_named = (
      there,
      named-on (λ _. Unit {0}) (leaves_in L) (L.undos (suc p)) (lists_in L) (set_list l.num e i (λ j h. member_of h (put_at l.num (A ++ B) L.members j)))
          (λ j h _. lists_back L.members l.num e (A ++ B) same-members i found j h) (all_of (λ u. tt) (L.undos (suc p))) (H.named p party),
    );
    lists_same = lists-put L.members l.num e (A ++ B) same-members;
    others = others;
  }

  pub takes : member_of e c ≡ i → Logged s t L (suc p) y (log_taken (take_member s m l.num i) m i e l.num first)
      (set_hand (suc p) none (add_undo (suc p) (taken e k) (with_free (length L.free) (on_desc k (group_desc (without_member e)) (means L t)))))
  unfolding new
  takes found = subst (λ z. Logged s t L (suc p) y z (set_hand (suc p) none (add_undo (suc p) (taken e k) (with_free (length L.free) (on_desc k (group_desc (without_member e)) (means L t)))))) is2
      (logged s t L H Z o k d P p party e (without_member e) (A ++ B) new L.free y s2 W (words2 found))

  -- ---- what the code asks for

  pub takeable : Takeable s m l.num i
  takeable =
      let q = member-next s m i in
      let z = member-before s m i in
      let behind : Chained s m (word_of s m i 0) (firsts B) = chained-behind s m (word_of s m l.num 6) (firsts A) i (firsts B) (subst (Chained s m (word_of s m l.num 6)) parts was-all.chained) in
      let last-is : word_of s m i 1 ≡ last 0 (firsts A) = linked-last s m 0 (firsts A) i (firsts B) (subst (Linked s m 0) parts was-all.linked) in
      record {
        descriptor = here.has;
        own = at_i.has;
        before = λ n. subst (λ j. HasRecord s m j) (sym (z ∙ last-is))
            (all_in (Within s m r) (firsts c) among (last 0 (firsts A)) (left_in (last 0 (firsts A)) (in_left (last 0 (firsts A)) (firsts A) (firsts B) (last_some (firsts A) (λ w. n (z ∙ last-is ∙ w)))))).has;
        next = λ n. subst (λ j. HasRecord s m j) (sym q)
            (all_in (Within s m r) (firsts c) among (word_of s m i 0) (left_in (word_of s m i 0) (in_right (word_of s m i 0) (firsts A) (firsts B) (first-in s m (word_of s m i 0) (firsts B) behind (λ w. n (q ∙ w)))))).has;
      }

  pub taken-long : length (log_taken (take_member s m l.num i) m i e l.num first) ≡ length s
  taken-long = ap length (sym is2) ∙ C.long

  pub taken-pins : word_of (log_taken (take_member s m l.num i) m i e l.num first) m l.num 5 ≡ word_of s m l.num 5
  taken-pins = ap (λ z. word_of z m l.num 5) (sym is2) ∙ sym desc2.1.1.1.1.1.0
