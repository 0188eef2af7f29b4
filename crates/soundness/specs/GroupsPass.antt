-- The walk of all groups: it goes well exactly if each group's words fit, its members come in one after the other, its undo records can be undone, and
-- no member was met before.
use Rattle.std.specs.Prelude.{◌≡◌, Bool, not, ◌&&◌, ◌⊎◌, set, replicate}
use Rattle.std.proofs.Math.Path.{refl, sym, ap, subst}
use Rattle.std.proofs.Common.{◌∙◌, inl, inr, get_or-set_other}
use Rattle.std.proofs.Math.Bool.{true, false, cond}
use mathlib.Core.List.{List, [], ◌∷◌, map}
use Prim.Native.Nat.{ℕ, zero, suc, ◌+◌, ◌-◌, ◌^◌, ◌≤◌, ◌<◌}
use native.Mathlib.Omega.{arith}
use Rattle.std.proofs.Math.Dec.{eqb, leb}
use Rattle.std.proofs.Math.ListN.{length, get_or, length-append}
use Rattle.std.proofs.lemmas.List.{length-replicate, get_or-replicate}
use borrow.Author.Tests.{ne_eqb, le-leb, lt-ltb, le-ltb}
use Rattle.groups.specs.Descriptor.{descriptor_at, decode_descriptor}
use Rattle.groups.specs.Membership.{membership_at, decode_membership}
use Rattle.undos.specs.Undo.{undo_at}
use Rattle.locks.specs.Holders.{word_bits}
use Rattle.sessions.specs.declared.Session.{Session}
use Rattle.meaning.specs.Reading.{Chained, member_chain}
use Rattle.meaning.specs.Sound.{All, Apart, Once, joined}
use Rattle.marks.specs.Marks.{entry_ok, membership_mark}
use Rattle.marks.specs.Steps.{no as never}
use Rattle.marks.specs.Trail.{Turn, turn, then_turn, Trail, ends, then_trail}
use Rattle.lists.specs.Lists.{list_entry, unlist_entry, member_one, Held, holding, member_turn, members_from, undo_one, undo_from, after_members, group_lists}
use Rattle.passing.specs.declared.Asked.{Asked}
use Rattle.passing.specs.Asked.{asked_at}
use Rattle.holdings.specs.Holdings.{group_ok, key_of, key_at, descriptor_ok, group_one, groups_from, all_groups}
use Rattle.soundness.specs.Marking.{mark_all, mark-length, mark-append, Fresh, fresh-none, fresh-left, fresh-right, fresh-append, Among, all-as, once-most}
use Rattle.soundness.specs.Chains.{along-same, Turns, chained-found, chained-walks}
use Rattle.soundness.specs.HoldersTests.{and_both}
use Rattle.soundness.specs.HeldTests.{GroupHeld, group-is}
use Rattle.soundness.specs.ListsPass.{nobody, Stamps, Comes, come, members-come, come-members, Undoes, undo-found, undo-walks}
use Rattle.soundness.specs.Filing.{Lists, Record, Files}

-- ---- stamps of other groups

-- No stamp is c.
abbrev Off : ℕ → List ℕ → Type 0
Off c l = (e : ℕ) → 1 ≤ e → e ≤ 1024 → ¬ (get_or l e 0 ≡ c)

set-either : (l : List ℕ) (e v j : ℕ) → (get_or (set l e v) j 0 ≡ v) ⊎ (get_or (set l e v) j 0 ≡ get_or l j 0)
set-either [] e v j = inr refl
set-either (x ∷ l) zero v zero = inl refl
set-either (x ∷ l) zero v (suc j) = inr refl
set-either (x ∷ l) (suc e) v zero = inr refl
set-either (x ∷ l) (suc e) v (suc j) = set-either l e v j

module _ (c : ℕ) where
  off_set : (l : List ℕ) → Off c l → (e v : ℕ) → ¬ (v ≡ c) → Off c (set l e v)
  off_set l o e v n j a b h = go (set-either l e v j)
    where
      go : (get_or (set l e v) j 0 ≡ v) ⊎ (get_or (set l e v) j 0 ≡ get_or l j 0) → ⊥
      go (inl q) = n (sym q ∙ h)
      go (inr q) = o j a b (sym q ∙ h)

  off-above : (l : List ℕ) → Off c l → (e v : ℕ) → 1024 < e → Off c (set l e v)
  off-above l o e v far j a b h = o j a b (sym (get_or-set_other l e j v 0 (λ q. omega (arith, q))) ∙ h)

  module _ (d : ℕ) (nc : ¬ (c ≡ 0)) (nd : ¬ (c ≡ d)) where
    list-off : (l : List ℕ) (e i : ℕ) → Off c l → Off c (list_entry l d e i).held
    unfolding list_entry
    list-off l e i o = go (eqb (get_or l e 0) d)
      where
        go : (b : Bool) → Off c (cond b (turn false l) (turn true (set (set l e d) (1025 + e) i))).held
        go true = o
        go false = off-above (set l e d) (off_set l o e d (λ q. nd (sym q))) (1025 + e) i (omega arith)

    unlist-off : (l : List ℕ) (e i : ℕ) → Off c l → Off c (unlist_entry l d e i).held
    unfolding unlist_entry
    unlist-off l e i o = go (eqb (get_or l e 0) d && eqb (get_or l (1025 + e) 0) i)
      where
        go : (b : Bool) → Off c (cond b (turn true (set l e 0)) (turn false l)).held
        go true = off_set l o e 0 (λ q. nc (sym q))
        go false = o

    pick-off : (l : List ℕ) (b : Bool) (x : Turn (List ℕ)) → Off c x.held → Off c l → Off c (cond b x (turn false l)).held
    pick-off l true x p o = p
    pick-off l false x p o = o

    member-off : (s l : List ℕ) (m i before : ℕ) → Off c l → Off c (member_one s l m d i before).held
    unfolding member_one
    member-off s l m i before o =
        pick-off l (eqb (membership_at s m i).before before && entry_ok (membership_at s m i).entry m) (list_entry l d (membership_at s m i).entry i)
        (list-off l (membership_at s m i).entry i o) o

    -- What a group's members leave, and what undoing leaves.
    members-off : (s : List ℕ) (m kind : ℕ) (seen l : List ℕ) (before : ℕ) (ms : List ℕ) (h : Held) → Turns (member_turn s m d) kind seen (holding l before) ms h → Off c l → Off c h.list
    unfolding member_turn
    members-off s m kind seen l before [] h t o = subst (λ x. Off c x.list) t o
    members-off s m kind seen l before (i ∷ ms) h t o =
        members-off s m kind (set seen i kind) (member_one s l m d i before).held i ms h t.1 (member-off s l m i before o)

    undo-one-off : (s l : List ℕ) (m i : ℕ) → Off c l → Off c (undo_one s l m d i).held
    unfolding undo_one
    undo-one-off s l m i o =
        pick-off l (entry_ok (undo_at s m i).entry m)
        (cond (eqb (undo_at s m i).kind 2) (unlist_entry l d (undo_at s m i).entry (undo_at s m i).saved) (list_entry l d (undo_at s m i).entry i))
        (go (eqb (undo_at s m i).kind 2)) o
      where
        go : (b : Bool) → Off c (cond b (unlist_entry l d (undo_at s m i).entry (undo_at s m i).saved) (list_entry l d (undo_at s m i).entry i)).held
        go true = unlist-off l (undo_at s m i).entry (undo_at s m i).saved o
        go false = list-off l (undo_at s m i).entry i o

    then-off : (x : Turn (List ℕ)) (k : List ℕ → Turn (List ℕ)) → Off c x.held → ((l : List ℕ) → Off c l → Off c (k l).held) → Off c (then_turn x k).held
    then-off x k o f = go x.ok
      where
        go : (b : Bool) → Off c (cond b (k x.held) x).held
        go true = f x.held o
        go false = o

    undo-off : (s f : List ℕ) (m r : ℕ) (n : ℕ) (l : List ℕ) (i : ℕ) → Off c l → Off c (undo_from s f m r d l i n).held
    unfolding undo_from
    undo-off s f m r zero l i o = o
    undo-off s f m r (suc n) l i o =
        go (eqb i 0)
        (pick-off l (leb i r) (then_turn (undo_one s l m d i) (λ k. undo_from s f m r d k (get_or f (8194 + i) 0) n))
        (then-off (undo_one s l m d i) (λ k. undo_from s f m r d k (get_or f (8194 + i) 0) n) (undo-one-off s l m i o) (λ k q. undo-off s f m r n k (get_or f (8194 + i) 0) q)) o)
      where
        rest : Turn (List ℕ)
        rest = cond (leb i r) (then_turn (undo_one s l m d i) (λ k. undo_from s f m r d k (get_or f (8194 + i) 0) n)) (turn false l)

        go : (b : Bool) → Off c rest.held → Off c (cond b (turn true l) rest).held
        go true p = o
        go false p = p

off-stamps : (d : ℕ) (l : List ℕ) → length l ≡ 2050 → Off d l → Stamps d l nobody
off-stamps d l n o = record { size = n; none = λ e a b z. o e a b; some = λ e a b z. absurd (z refl) }

-- ---- one group

module _ (s : List ℕ) (m r : ℕ) (small : m ≤ 1024) (L : Lists) (tally : List ℕ) (begun : ℕ) (t : List Session) where
  -- What is asked of the group of descriptor d, where `next` is the next stored key, 0 for none.
  pub record Group (d next : ℕ) : Type 0 where
    pub some : ¬ (d ≡ 0)
    pub held : GroupHeld (descriptor_at s m d) begun (asked_at t (descriptor_at s m d).key next) (get_or tally d 0)
    pub chained : Chained s m (descriptor_at s m d).first (member_chain s m r d)
    pub comes : Comes s m d small some 0 (member_chain s m r d) nobody
    pub undoes : Undoes s m d small some (L d) (come s m d small some (member_chain s m r d) nobody)

  -- How the walk of one group ends that goes well.
  record Step (seen l : List ℕ) (left d : ℕ) (v : Trail (List ℕ)) : Type 0 where
    ok : v.ok ≡ true
    seen_is : v.seen ≡ mark_all seen (member_chain s m r d) membership_mark
    left_is : v.left + length (member_chain s m r d) ≡ left
    size : length v.held ≡ 2050
    others : (c : ℕ) → ¬ (c ≡ 0) → ¬ (c ≡ d) → Off c l → Off c v.held

  module _ (f : List ℕ) (F : Files f L) (few : r ≤ 4096) (fit : begun < 2 ^ word_bits) where
    after_is : (d : ℕ) (v : Trail Held) (k : List ℕ) → v.ok ≡ true → undo_from s f m r d v.held.list (get_or f (4097 + d) 0) r ≡ turn true k
        → after_members s f m r d v ≡ ends true v.left v.seen k
    unfolding after_members
    after_is d v k o e = simp (o, e)

    after-ok : (d : ℕ) (v : Trail Held) → (after_members s f m r d v).ok ≡ true → (v.ok ≡ true) × ((undo_from s f m r d v.held.list (get_or f (4097 + d) 0) r).ok ≡ true)
    unfolding after_members
    after-ok d v o = go v.ok refl o
      where
        u : Turn (List ℕ)
        u = undo_from s f m r d v.held.list (get_or f (4097 + d) 0) r

        go : (b : Bool) → v.ok ≡ b → (cond b (ends u.ok v.left v.seen u.held) (ends false v.left v.seen v.held.list)).ok ≡ true → (v.ok ≡ true) × (u.ok ≡ true)
        go true e p = (e, p)
        go false e p = never p

    module _ (seen : List ℕ) (long : r < length seen) (l : List ℕ) (left d next : ℕ) (among : Among r d) (S : Stamps d l nobody) where
      some-d : ¬ (d ≡ 0)
      some-d z = omega (arith, z, among.0)

      record-d : Record d
      record-d = (among.0, omega (arith, among.1))

      ms : List ℕ
      ms = member_chain s m r d

      walk : Trail Held
      walk = members_from s m r d seen l (descriptor_at s m d).first left

      not_zero : (l : List ℕ) → All (Among r) l → All (λ i. ¬ (i ≡ 0)) l
      not_zero l a = all-as (λ i b z. omega (arith, z, b.0)) l a

      turns : {h : Held} → Turns (member_turn s m d) membership_mark seen (holding l 0) ms h → (k : List ℕ) → walk.ok ≡ true → walk.left + length ms ≡ left → walk.seen ≡ mark_all seen ms membership_mark → walk.held ≡ h
          → undo_from s f m r d h.list (get_or f (4097 + d) 0) r ≡ turn true k → length k ≡ 2050 → Step seen l left d (group_lists s f m r seen l d left)
      unfolding group_lists walk ms
      turns {h} t k o n q e u z =
          let is = after_is d walk k o (ap (λ (x : Held). undo_from s f m r d x.list (get_or f (4097 + d) 0) r) e ∙ u) in
          subst (Step seen l left d) (sym is)
          (record {
            ok = refl;
            seen_is = q;
            left_is = n;
            size = z;
            others = λ c nc nd w.
                subst (λ (x : Turn (List ℕ)). Off c x.held) u
                (undo-off c d nc nd s f m r r h.list (get_or f (4097 + d) 0) (members-off c d nc nd s m membership_mark seen l 0 (member_chain s m r d) h t w));
          })

      lists-found : GroupHeld (descriptor_at s m d) begun (asked_at t (descriptor_at s m d).key next) (get_or tally d 0) → (group_lists s f m r seen l d left).ok ≡ true
          → Group d next × Fresh seen r (member_chain s m r d) × Step seen l left d (group_lists s f m r seen l d left)
      unfolding group_lists members_from decode_descriptor decode_membership walk ms
      lists-found held o =
          let p = after-ok d walk o in
          let R = chained-found s m r membership_mark (member_turn s m d) seen (holding l 0) (descriptor_at s m d).first left (λ z. omega (arith, z)) long p.0 in
          let C = members-come s m d small some-d seen l 0 nobody ms walk.held (not_zero ms R.fresh.inside) S R.turns in
          let U = undo-found s m d small some-d f r r walk.held.list (come s m d small some-d ms nobody) (get_or f (4097 + d) 0) C.1 p.1 in
          let e : U.us ≡ L d = along-same (λ j. get_or f (8194 + j) 0) (get_or f (4097 + d) 0) U.us (L d) U.along (F.first d record-d) in (
            record {
              some = some-d;
              held = held;
              chained = R.chained;
              comes = C.0;
              undoes = subst (λ us. Undoes s m d small some-d us (come s m d small some-d ms nobody)) e U.undoes;
            },
            R.fresh,
            turns R.turns U.list p.0 R.left_is R.seen_is refl U.is U.stamps.size,
          )

      few-undos : All (λ j. j ≤ r) (L d) → length (L d) ≤ r
      few-undos inside = once-most r (L d) (both-all (L d) (F.small d record-d) inside) (F.once d record-d)
        where
          both-all : (l : List ℕ) → All Record l → All (λ j. j ≤ r) l → All (Among r) l
          both-all [] a b = tt
          both-all (j ∷ l) a b = ((a.0.0, b.0), both-all l a.1 b.1)

      lists-walk : Group d next → Fresh seen r (member_chain s m r d) → length (member_chain s m r d) ≤ left → All (λ j. j ≤ r) (L d)
          → Step seen l left d (group_lists s f m r seen l d left)
      unfolding group_lists members_from decode_descriptor decode_membership walk ms
      lists-walk G fresh most inside =
          let C = come-members s m d small G.some seen l 0 nobody ms (not_zero ms fresh.inside) S G.comes in
          let w = chained-walks s m r membership_mark (member_turn s m d) seen (holding l 0) (descriptor_at s m d).first left ms C.0 G.chained fresh most C.1 in
          let U = undo-walks s m d small G.some f r r C.0.list (come s m d small G.some ms nobody) (get_or f (4097 + d) 0) (L d) C.2 (F.first d record-d) inside (few-undos inside) G.undoes in
          turns C.1 U.list (ap (λ (x : Trail Held). x.ok) w) (let n : walk.left ≡ left - length ms = ap (λ (x : Trail Held). x.left) w in omega (arith, n, most)) (ap (λ (x : Trail Held). x.seen) w)
          (ap (λ (x : Trail Held). x.held) w) U.is U.stamps.size

      asked : Asked
      asked = asked_at t (descriptor_at s m d).key next

      one : Trail (List ℕ)
      one = group_one s tally f m r begun asked seen l d left

      one-is : group_ok (descriptor_at s m d) begun asked (get_or tally d 0) ≡ true → one ≡ group_lists s f m r seen l d left
      unfolding group_one descriptor_ok one
      one-is o = simp (ne_eqb d 0 some-d, le-leb d r among.1, o)

      one_ok : one.ok ≡ true → group_ok (descriptor_at s m d) begun asked (get_or tally d 0) ≡ true
      unfolding group_one descriptor_ok one
      one_ok o = ((and_both (not (eqb d 0) && leb d r) (group_ok (descriptor_at s m d) begun asked (get_or tally d 0))).0 (go (not (eqb d 0) && leb d r && group_ok (descriptor_at s m d) begun asked (get_or tally d 0)) o)).1
        where
          go : (b : Bool) → (cond b (group_lists s f m r seen l d left) (ends false left seen l)).ok ≡ true → b ≡ true
          go true p = refl
          go false p = never p

      one_found : one.ok ≡ true → Group d next × Fresh seen r (member_chain s m r d) × Step seen l left d one
      unfolding asked
      one_found o =
          let g = one_ok o in
          let e = one-is g in
          let w = lists-found ((group-is (descriptor_at s m d) begun asked (get_or tally d 0) fit).0 g) (ap (λ (x : Trail (List ℕ)). x.ok) (sym e) ∙ o) in
          (w.0, w.1, subst (Step seen l left d) (sym e) w.2)

      one-walks : Group d next → Fresh seen r (member_chain s m r d) → length (member_chain s m r d) ≤ left → All (λ j. j ≤ r) (L d) → Step seen l left d one
      unfolding asked
      one-walks G fresh most inside =
          subst (Step seen l left d) (sym (one-is ((group-is (descriptor_at s m d) begun asked (get_or tally d 0) fit).1 G.held))) (lists-walk G fresh most inside)

-- ---- all groups

-- The key of the first of some descriptors, 0 if there is none.
abbrev pub next_key : List ℕ → ℕ → List ℕ → ℕ
next_key s m [] = 0
next_key s m (d ∷ ds) = (descriptor_at s m d).key

-- The records of all members.
abbrev pub members_of : List ℕ → ℕ → ℕ → List ℕ → List ℕ
members_of s m r ds = joined (map (member_chain s m r) ds)

key-of : (s : List ℕ) (m r d : ℕ) → Among r d → key_of s m r d ≡ (descriptor_at s m d).key
unfolding key_of
key-of s m r d b =
    let n : ¬ (d ≡ 0) = λ z. omega (arith, z, b.0) in
    simp (ne_eqb d 0 n, le-leb d r b.1)

key_here : (s order : List ℕ) (m r count k d : ℕ) → k < count → get_or order k 0 ≡ d → Among r d → key_at s order m r count k ≡ (descriptor_at s m d).key
unfolding key_at key_of
key_here s order m r count k d a e b =
    let n : ¬ (d ≡ 0) = λ z. omega (arith, z, b.0) in
    simp (lt-ltb k count a, e, ne_eqb d 0 n, le-leb d r b.1)

key-past : (s order : List ℕ) (m r count k : ℕ) → count ≤ k → key_at s order m r count k ≡ 0
unfolding key_at
key-past s order m r count k a = simp (le-ltb k count a)

module _ (s : List ℕ) (m r : ℕ) (small : m ≤ 1024) (L : Lists) (tally : List ℕ) (begun : ℕ) (t : List Session) where
  -- What is asked of the groups of some descriptors, in the order of their keys.
  abbrev pub Groups : List ℕ → Type 0
  Groups [] = Unit {0}
  Groups (d ∷ ds) = Group s m r small L tally begun t d (next_key s m ds) × Groups ds

  -- How the walk of the groups ends that goes well.
  pub record GroupsWalked (seen : List ℕ) (left : ℕ) (ds : List ℕ) (v : Trail (List ℕ)) : Type 0 where
    pub ok : v.ok ≡ true
    pub seen_is : v.seen ≡ mark_all seen (members_of s m r ds) membership_mark
    pub left_is : v.left + length (members_of s m r ds) ≡ left

  -- What a walk of the groups has found that goes well.
  pub record GroupsFound (seen : List ℕ) (left : ℕ) (ds : List ℕ) (v : Trail (List ℕ)) : Type 0 where
    pub groups : Groups ds
    pub fresh : Fresh seen r (members_of s m r ds)
    pub walked : GroupsWalked seen left ds v

  module _ (f : List ℕ) (F : Files f L) (few : r ≤ 4096) (fit : begun < 2 ^ word_bits) (order : List ℕ) (count : ℕ) where
    -- The descriptors ds stand in the order from place k on, up to the last.
    record Stand (k : ℕ) (ds : List ℕ) : Type 0 where
      at : (j : ℕ) → j < length ds → get_or order (k + j) 0 ≡ get_or ds j 0
      all : k + length ds ≡ count
      among : All (Among r) ds
      once : Once ds

    stand-on : (k d : ℕ) (ds : List ℕ) → Stand k (d ∷ ds) → Stand (k + 1) ds
    stand-on k d ds P = record {
      at = λ j h. ap (λ (x : ℕ). get_or order x 0) (omega arith) ∙ P.at (suc j) (omega arith);
      all = let e = P.all in omega arith;
      among = P.among.1;
      once = P.once.1;
    }

    first-is : (k d : ℕ) (ds : List ℕ) → Stand k (d ∷ ds) → get_or order k 0 ≡ d
    first-is k d ds P = ap (λ (x : ℕ). get_or order x 0) (omega arith) ∙ P.at 0 (omega arith)

    first_key : (k d : ℕ) (ds : List ℕ) → Stand k (d ∷ ds) → key_at s order m r count k ≡ (descriptor_at s m d).key
    first_key k d ds P = key_here s order m r count k d (omega (arith, P.all)) (first-is k d ds P) P.among.0

    after-key : (k : ℕ) (ds : List ℕ) → Stand k ds → key_at s order m r count k ≡ next_key s m ds
    after-key k [] P = key-past s order m r count k (omega (arith, P.all))
    after-key k (d ∷ ds) P = first_key k d ds P

    from : List ℕ → List ℕ → ℕ → ℕ → ℕ → Trail (List ℕ)
    from seen l left k n = groups_from s order tally f m r begun t count seen l left k n

    first : List ℕ → List ℕ → ℕ → ℕ → List ℕ → Trail (List ℕ)
    first seen l left d ds = group_one s tally f m r begun (asked_at t (descriptor_at s m d).key (next_key s m ds)) seen l d left

    from_is : (seen l : List ℕ) (left k d : ℕ) (ds : List ℕ) → Stand k (d ∷ ds)
        → from seen l left k (suc (length ds)) ≡ then_trail (first seen l left d ds) (λ v. from v.seen v.held v.left (k + 1) (length ds))
    unfolding groups_from from first
    from_is seen l left k d ds P = rw (first-is k d ds P, key-of s m r d P.among.0, after-key (k + 1) ds (stand-on k d ds P)) refl

    abbrev Stepped : List ℕ → List ℕ → ℕ → ℕ → Trail (List ℕ) → Type 0
    Stepped = Step s m r small L tally begun t

    first_found : (seen l : List ℕ) (left d : ℕ) (ds : List ℕ) → r < length seen → Among r d → Stamps d l nobody → (first seen l left d ds).ok ≡ true
        → Group s m r small L tally begun t d (next_key s m ds) × Fresh seen r (member_chain s m r d) × Stepped seen l left d (first seen l left d ds)
    unfolding first one asked
    first_found seen l left d ds h a S o = one_found s m r small L tally begun t f F few fit seen h l left d (next_key s m ds) a S o

    first_walks : (seen l : List ℕ) (left d : ℕ) (ds : List ℕ) → r < length seen → Among r d → Stamps d l nobody → Group s m r small L tally begun t d (next_key s m ds)
        → Fresh seen r (member_chain s m r d) → length (member_chain s m r d) ≤ left → All (λ j. j ≤ r) (L d) → Stepped seen l left d (first seen l left d ds)
    unfolding first one asked
    first_walks seen l left d ds h a S = one-walks s m r small L tally begun t f F few fit seen h l left d (next_key s m ds) a S

    then_is : (v : Trail (List ℕ)) (g : Trail (List ℕ) → Trail (List ℕ)) → v.ok ≡ true → then_trail v g ≡ g v
    then_is v g o = ap (λ (b : Bool). cond b (g v) v) o

    then_ok : (v : Trail (List ℕ)) (g : Trail (List ℕ) → Trail (List ℕ)) → (then_trail v g).ok ≡ true → v.ok ≡ true
    then_ok v g o = go v.ok refl o
      where
        go : (b : Bool) → v.ok ≡ b → (cond b (g v) v).ok ≡ true → v.ok ≡ true
        go true e p = e
        go false e p = p

    module _ (seen l : List ℕ) (left d : ℕ) (v : Trail (List ℕ)) (S : Stepped seen l left d v) where
      -- The stamps are as before for the groups that are still to come.
      stamps-on : (ds : List ℕ) → Apart d ds → All (Among r) ds → All (λ c. Stamps c l nobody) ds → All (λ c. Stamps c v.held nobody) ds
      stamps-on [] a b w = tt
      stamps-on (c ∷ ds) a b w =
          (off-stamps c v.held S.size (S.others c (λ z. omega (arith, z, b.0.0)) (λ e. a.0 (sym e)) (λ e x y. w.0.none e x y refl)), stamps-on ds a.1 b.1 w.1)

      long-on : r < length seen → r < length v.seen
      long-on h = omega (arith, h, ap length S.seen_is, mark-length seen (member_chain s m r d) membership_mark)

      walked_on : (ds : List ℕ) (u : Trail (List ℕ)) → GroupsWalked v.seen v.left ds u → GroupsWalked seen left (d ∷ ds) u
      walked_on ds u w = record {
        ok = w.ok;
        seen_is = w.seen_is ∙ ap (λ (x : List ℕ). mark_all x (members_of s m r ds) membership_mark) S.seen_is ∙ sym (mark-append seen (member_chain s m r d) (members_of s m r ds) membership_mark);
        left_is = omega (arith, w.left_is, S.left_is, length-append (member_chain s m r d) (members_of s m r ds));
      }

    found_from : (ds seen l : List ℕ) (left k : ℕ) → r < length seen → Stand k ds → All (λ d. Stamps d l nobody) ds → (from seen l left k (length ds)).ok ≡ true
        → GroupsFound seen left ds (from seen l left k (length ds))
    unfolding from groups_from
    found_from [] seen l left k h P W o = record { groups = tt; fresh = fresh-none seen r; walked = record { ok = refl; seen_is = refl; left_is = omega arith } }
    found_from (d ∷ ds) seen l left k h P W o =
        let e = from_is seen l left k d ds P in
        let g : Trail (List ℕ) → Trail (List ℕ) = λ v. from v.seen v.held v.left (k + 1) (length ds) in
        let p = then_ok (first seen l left d ds) g (ap (λ (x : Trail (List ℕ)). x.ok) (sym e) ∙ o) in
        let q = then_is (first seen l left d ds) g p in
        let w = first_found seen l left d ds h P.among.0 W.0 p in
        let v = first seen l left d ds in
        let i = found_from ds v.seen v.held v.left (k + 1) (long-on seen l left d v w.2 h) (stand-on k d ds P) (stamps-on seen l left d v w.2 ds P.once.0 P.among.1 W.1)
        (ap (λ (x : Trail (List ℕ)). x.ok) (sym q ∙ sym e) ∙ o) in
        subst (GroupsFound seen left (d ∷ ds)) (sym (e ∙ q))
        (record {
          groups = (w.0, i.groups);
          fresh = fresh-append seen r (member_chain s m r d) (members_of s m r ds) membership_mark (λ z. omega (arith, z)) h w.1 (subst (λ x. Fresh x r (members_of s m r ds)) w.2.seen_is i.fresh);
          walked = walked_on seen l left d v w.2 ds (g v) i.walked;
        })

    walks_from : (ds seen l : List ℕ) (left k : ℕ) → r < length seen → Stand k ds → All (λ d. Stamps d l nobody) ds → Groups ds → Fresh seen r (members_of s m r ds)
        → length (members_of s m r ds) ≤ left → All (λ d. All (λ j. j ≤ r) (L d)) ds → GroupsWalked seen left ds (from seen l left k (length ds))
    unfolding from groups_from
    walks_from [] seen l left k h P W G fresh n u = record { ok = refl; seen_is = refl; left_is = omega arith }
    walks_from (d ∷ ds) seen l left k h P W G fresh n u =
        let e = from_is seen l left k d ds P in
        let g : Trail (List ℕ) → Trail (List ℕ) = λ v. from v.seen v.held v.left (k + 1) (length ds) in
        let v = first seen l left d ds in
        let a = length-append (member_chain s m r d) (members_of s m r ds) in
        let w = first_walks seen l left d ds h P.among.0 W.0 G.0 (fresh-left seen r (member_chain s m r d) (members_of s m r ds) fresh) (omega (arith, n, a)) u.0 in
        let i = walks_from ds v.seen v.held v.left (k + 1) (long-on seen l left d v w h) (stand-on k d ds P) (stamps-on seen l left d v w ds P.once.0 P.among.1 W.1) G.1
        (subst (λ x. Fresh x r (members_of s m r ds)) (sym w.seen_is) (fresh-right seen r (member_chain s m r d) (members_of s m r ds) membership_mark fresh)) (omega (arith, n, a, w.left_is)) u.1 in
        subst (GroupsWalked seen left (d ∷ ds)) (sym (e ∙ then_is v g w.ok)) (walked_on seen l left d v w ds (g v) i)

    module _ (ds : List ℕ) (many : length ds ≡ count) (ordered : (k : ℕ) → k < count → get_or order k 0 ≡ get_or ds k 0) (among : All (Among r) ds) (once : Once ds)
        (seen : List ℕ) (long : r < length seen) (left : ℕ) where
      stand : Stand 0 ds
      stand = record { at = λ j h. ap (λ (x : ℕ). get_or order x 0) (omega arith) ∙ ordered j (omega (arith, h, many)); all = omega (arith, many); among = among; once = once }

      no-stamps : (ds : List ℕ) → All (Among r) ds → All (λ d. Stamps d (replicate 2050 0) nobody) ds
      no-stamps ds a =
          all-as (λ d b. off-stamps d (replicate 2050 0) (length-replicate {A = ℕ} 2050 0) (λ e x y z. omega (arith, sym (get_or-replicate 2050 e 0 0 (omega (arith, y))) ∙ z, b.0))) ds a

      -- A walk of all groups that goes well has found them so.
      pub groups-found : (all_groups s order tally f m r begun t count seen (replicate 2050 0) left).ok ≡ true
          → GroupsFound seen left ds (all_groups s order tally f m r begun t count seen (replicate 2050 0) left)
      unfolding all_groups from
      groups-found =
          subst (λ n. (groups_from s order tally f m r begun t count seen (replicate 2050 0) left 0 n).ok ≡ true → GroupsFound seen left ds (groups_from s order tally f m r begun t count seen (replicate 2050 0) left 0 n)) many
          (found_from ds seen (replicate 2050 0) left 0 long stand (no-stamps ds among))

      -- And groups that are so are walked.
      pub groups-walks : Groups ds → Fresh seen r (members_of s m r ds) → length (members_of s m r ds) ≤ left → All (λ d. All (λ j. j ≤ r) (L d)) ds
          → GroupsWalked seen left ds (all_groups s order tally f m r begun t count seen (replicate 2050 0) left)
      unfolding all_groups from
      groups-walks G fresh n u =
          subst (λ n. GroupsWalked seen left ds (groups_from s order tally f m r begun t count seen (replicate 2050 0) left 0 n)) many
          (walks_from ds seen (replicate 2050 0) left 0 long stand (no-stamps ds among) G fresh n u)
