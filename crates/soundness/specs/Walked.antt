-- The passes of the test one by one: each goes well exactly if its part is in order, in a store whose earlier parts are.
use Rattle.std.specs.Prelude.{◌≡◌, Bool, false, cond, ◌&&◌, ◌||◌, ◌⊎◌, ◌↔◌, ℕ, zero, suc, ◌+◌, ◌-◌, ◌≤◌, ◌<◌, eqb, replicate}
use Rattle.std.proofs.Math.Path.{refl, sym, ap, subst}
use Rattle.std.proofs.Common.{◌∙◌, inl, inr, arith, ne_eqb}
use Rattle.std.proofs.Math.Bool.{true, not}
use mathlib.Core.List.{List, [], ◌∷◌, ◌++◌, map, map-append}
use Rattle.std.proofs.Math.Decide.{dec_le}
use Rattle.std.proofs.Math.ListN.{length, length-append, get_or, get_or-eq_default}
use Rattle.std.proofs.lemmas.List.{length-replicate, get_or-replicate}
use Rattle.words.specs.Store.{word_of}
use Rattle.words.specs.Header.{header_word, free_place}
use Rattle.words.specs.Entries.{entry_word}
use Rattle.groups.specs.Descriptor.{descriptor_at}
use Rattle.undos.specs.Undo.{undo_at}
use Rattle.locks.specs.Holders.{width, holds}
use Rattle.sessions.specs.declared.Session.{Session}
use Rattle.sessions.specs.Sessions.{session_at}
use Rattle.marks.specs.Marks.{entry_ok, is_met, descriptor_mark, undo_mark, membership_mark, free_mark}
use Rattle.marks.specs.Steps.{both, met-in}
use Rattle.marks.specs.Trail.{Trail, ends}
use Rattle.undo_chains.specs.UndoChains.{undo_ok, kind_ok, group_held}
use Rattle.parties.specs.Parties.{standing_at_nodes, all_undos}
use Rattle.tree_walk.specs.TreeWalk.{Tour}
use Rattle.holders.specs.Holders.{begun_mask}
use Rattle.holdings.specs.Holdings.{all_groups}
use Rattle.sound.specs.Sound.{free_from, free_turn}
use Rattle.machine.specs.Tree.{flat, leaves}
use Rattle.machine.specs.State.{Desc, take, State, top}
use Rattle.machine.specs.Steps.{pinned}
use Rattle.machine.specs.Groups.{Rises}
use Rattle.machine.specs.Housekeeping.{lvs, Ordered}
use Rattle.machine.specs.Looks.{shaped-ordered, ordered-rises}
use Rattle.machine.specs.Sound.{times, stored_in, pins_in, total, pins_by, of_hand}
use Rattle.meaning.specs.Reading.{Leaf, Mark, Numbered, numbers, erase, desc_at, M-of, R-of, height_of, tree_of, free_chain, meaning}
use Rattle.meaning.specs.Sound.{All, Once, leaves_of, Members}
use Rattle.soundness.specs.Marking.{once-most, all_append, all-as, times-append, times-once, once-times, mark_all, Fresh, Among, Marked, marked_all, mark-length, fresh-rest, fresh-then, all_in, all_from, In}
use Rattle.soundness.specs.Chains.{chained-found, chained-walks}
use Rattle.soundness.specs.Free.{Idle, idle-turns}
use Rattle.soundness.specs.Filing.{Files}
use Rattle.soundness.specs.UndosPass.{file_all, concerns, of_group, Names, files-all, Needed, chain-of, chains_from, EachSession, undos-found, undos-walks}
use Rattle.soundness.specs.HeldTests.{EntriesHeld, begun-less}
use Rattle.soundness.specs.TreeRecords.{leaf_numbers, leaf-in, latched_many, TreeMarks, tree-marked}
use Rattle.soundness.specs.RootPass.{RootInOrder, root_toured, root-found, root-walks, root_ok, root-marks, root-order}
use Rattle.soundness.specs.TreeKnown.{TreeKnown, tree-known}
use Rattle.soundness.specs.UndoLeaves.{leaves-read}
use Rattle.soundness.specs.Leaves.{stored_records}
use Rattle.soundness.specs.PartyMeaning.{request_of, next_of, hand-some, stage-5}
use Rattle.soundness.specs.PartyPass.{pins_of}
use Rattle.soundness.specs.PartiesPass.{Parties, LatchesMatch, Tallied, parties-pinned, parties-tallied, parties-pass, latches-pass}
use Rattle.soundness.specs.PartyPins.{LeafPins, leaves-match}
use Rattle.soundness.specs.UndoNeeds.{Tells}
use Rattle.soundness.specs.UndoingPass.{Setting, each-secured, sound-sessions, sessions-sound, undoing-is}
use Rattle.soundness.specs.GroupsPass.{Groups, GroupsFound, GroupsWalked, groups-found, groups-walks}
use Rattle.soundness.specs.MembersHeld.{all_map, come-sound, sound-come}
use Rattle.soundness.specs.GroupsHeld.{Taking, GroupsSound, PinsCounted, GroupParts, groups-parts, parts-groups, groups-sound, sound-groups, leaf-pins}
use Rattle.soundness.specs.SizesPass.{Sizes}
use Rattle.soundness.specs.Tested.{toured, stood, filed, grouped, freed}
use Rattle.soundness.specs.Reach.{tree_records, leaf_records, undo_records, member_records, met, reach-many}
use Rattle.soundness.specs.Parts.{Table, Distinct, TreeInOrder, UndosInOrder, GroupsInOrder, FreeInOrder, AllReached}

abbrev pub unmet : List ℕ
unmet = replicate 4097 0

-- The undo records of a group, in the order of their sessions.
abbrev pub group_undos : List ℕ → List Session → ℕ → List ℕ
group_undos s t d = of_group s (M-of s) d (undo_records s t)

-- No record is marked at first.
zeros : (j : ℕ) → ◌≡◌ {A = ℕ} (get_or unmet j 0) 0
zeros j = go (dec_le 4097 j)
  where
    go : Dec (4097 ≤ j) → ◌≡◌ {A = ℕ} (get_or unmet j 0) 0
    go (yes h) = let l : length unmet ≤ j = omega (arith, h, length-replicate {A = ℕ} 4097 0) in get_or-eq_default unmet 0 l
    go (no n) = get_or-replicate 4097 j 0 0 (omega (arith, n))

distinct-fresh : (s l : List ℕ) → Distinct s l → Fresh unmet (R-of s) l
distinct-fresh s l a = record { inside = a.inside; unmarked = all_from l (λ j i. zeros j); once = a.once }

fresh-distinct : (s l : List ℕ) → Fresh unmet (R-of s) l → Distinct s l
fresh-distinct s l f = record { inside = f.inside; once = f.once }

-- ---- lists

leaf-times : (k h : ℕ) (t : Numbered h) → times k (leaf_numbers h t) ≤ times k (numbers h t)
unfolding leaves numbers
leaf-times k zero t = omega arith
leaf-times k (suc h) t = let q = go t.sons (leaf-times k h) in omega arith
  where
    num : Leaf → ℕ
    num l = l.num

    go : (es : List (Numbered h × ℕ)) → ((u : Numbered h) → times k (leaf_numbers h u) ≤ times k (numbers h u))
        → times k (map num (flat (leaves Leaf Mark h) es)) ≤ times k (flat (numbers h) es)
    go [] f = omega arith
    go (p ∷ es) f =
        let a = ap (times k) (map-append num (leaves Leaf Mark h p.0) (flat (leaves Leaf Mark h) es)) in
        let b = times-append k (leaf_numbers h p.0) (map num (flat (leaves Leaf Mark h) es)) in
        let c = times-append k (numbers h p.0) (flat (numbers h) es) in
        let d = f p.0 in
        let e = go es f in
        omega arith

abbrev no_files : List ℕ
no_files = replicate 12291 0

none-filed : Files no_files (λ d. [])
none-filed = record {
  size = length-replicate {A = ℕ} 12291 0;
  first = λ d e. get_or-replicate 12291 (4097 + d) 0 0 (omega (arith, e.1));
  last = λ d e. get_or-replicate 12291 d 0 0 (omega (arith, e.1));
  small = λ d e. tt;
  once = λ d e. tt;
  apart = λ d c j a b n i. tt;
  open_end = λ j e a. get_or-replicate 12291 (8194 + j) 0 0 (omega (arith, e.1));
}

grouped-in : (s : List ℕ) (m j d : ℕ) (us : List ℕ) → In j (of_group s m d us) → In j us
grouped-in s m j d [] w = w
grouped-in s m j d (i ∷ us) w = go (concerns s m d i) w (grouped-in s m j d us)
  where
    go : (b : Bool) → In j (cond b (i ∷ of_group s m d us) (of_group s m d us)) → (In j (of_group s m d us) → In j us) → In j (i ∷ us)
    go true (inl e) f = inl e
    go true (inr v) f = inr (f v)
    go false v f = inr (f v)

-- ---- what the walk of the tree leaves

module _ (s : List ℕ) (t : List Session) (Z : Sizes s) where
  abbrev m : ℕ
  m = M-of s

  abbrev r : ℕ
  r = R-of s

  abbrev few : r ≤ 4096
  few = Z.records.1

  long : r < length unmet
  long = omega (arith, few, length-replicate {A = ℕ} 4097 0)

  idle : Idle ℕ free_turn
  unfolding free_turn
  idle = record { is = λ seen a i. refl }

  module _ (K : RootInOrder s m r unmet) where
    pub tour-is : toured s ≡ root_toured s m r unmet unmet
    tour-is = root-walks s m r unmet unmet few long K

    pub tour-marks : TreeMarks (suc (height_of s)) (tree_of s) unmet (toured s).seen
    unfolding tree_of
    tour-marks = subst (λ (v : Tour). TreeMarks (suc (height_of s)) (tree_of s) unmet v.seen) (sym tour-is) (root-marks s m r unmet unmet few long K)

    pub tour-marked : Marked unmet (tree_records s t) (toured s).seen
    tour-marked = tree-marked (suc (height_of s)) (tree_of s) tour-marks

    tour-long : r < length (toured s).seen
    tour-long = omega (arith, long, tour-marks.kept)

    tour-left : (toured s).walk.left ≡ r - length (tree_records s t)
    unfolding root_toured tree_of
    tour-left = ap (λ (v : Tour). v.walk.left) tour-is

    tour-count : (toured s).walk.count ≡ length (leaf_records s t)
    unfolding root_toured tree_of
    tour-count = ap (λ (v : Tour). v.walk.count) tour-is

    tour-latches : (toured s).walk.latches ≡ latched_many (suc (height_of s)) (erase (suc (height_of s)) (tree_of s))
    unfolding root_toured tree_of
    tour-latches = ap (λ (v : Tour). v.walk.latches) tour-is

    tour-order : (k : ℕ) → k < (toured s).walk.count → get_or (toured s).order k 0 ≡ get_or (leaf_records s t) k 0
    unfolding tree_of
    tour-order k h =
        ap (λ (v : Tour). get_or v.order k 0) tour-is
        ∙ root-order s m r unmet unmet few long K (length-replicate {A = ℕ} 4097 0) k (omega (arith, h, tour-count))

    tree-fresh : Fresh unmet r (tree_records s t)
    unfolding tree_of
    tree-fresh = K.fresh

    leaf-among : All (Among r) (leaf_records s t)
    leaf-among =
        all_from (leaf_records s t) (λ j i. all_in (Among r) (tree_records s t) tree-fresh.inside j (leaf-in (suc (height_of s)) (tree_of s) j i))

    leaf-once : Once (leaf_records s t)
    leaf-once = times-once (leaf_records s t) (λ k. let a = leaf-times k (suc (height_of s)) (tree_of s) in let b = once-times (tree_records s t) tree-fresh.once k in omega arith)

    -- ---- undo records

    named : (p i : ℕ) → Needed s m r p (toured s).seen i → Names s m i
    unfolding undo_ok group_held
    named p i e n =
        let d = (undo_at s m i).descriptor in
        let a = both (entry_ok (undo_at s m i).entry m && kind_ok (undo_at s m i).kind && holds (entry_word s (undo_at s m i).entry 2) p)
        (eqb (undo_at s m i).kind 1 || group_held s (toured s).seen m r p d) e in
        let b = sym (ap (λ (x : Bool). x || group_held s (toured s).seen m r p d) (ne_eqb (undo_at s m i).kind 1 n)) ∙ a.1 in
        let c = both (is_met (toured s).seen r d descriptor_mark && not (eqb (descriptor_at s m d).key 0)) (holds (descriptor_at s m d).update p) b in
        let g = met-in (toured s).seen r d descriptor_mark (both (is_met (toured s).seen r d descriptor_mark) (not (eqb (descriptor_at s m d).key 0)) c.0).0 in
        (g.0, omega (arith, g.1, few))

    all_named : (n p : ℕ) → EachSession s m r t (toured s).seen p n → All (Names s m) (chains_from s m r t p n)
    all_named zero p e = tt
    all_named (suc n) p e = all_append (Names s m) (chain-of s m r t p) (chains_from s m r t (p + 1) n) (all-as (named p) (chain-of s m r t p) e.1) (all_named n (p + 1) e.2)

    files : EachSession s m r t (toured s).seen 1 width → All (Among r) (undo_records s t) → Once (undo_records s t)
        → Files (file_all s m no_files (undo_records s t)) (group_undos s t)
    files E a o =
        files-all s m (undo_records s t) no_files (λ d. []) none-filed (all-as (λ i b. (b.0, omega (arith, b.1, few))) (undo_records s t) a) (all_named width 1 E) o (λ c rc j w. tt)

    undos-long : r < length (mark_all (toured s).seen (undo_records s t) undo_mark)
    undos-long = omega (arith, tour-long, mark-length (toured s).seen (undo_records s t) undo_mark)

    -- The records met before the members.
    abbrev before : List ℕ
    before = mark_all (toured s).seen (undo_records s t) undo_mark

    abbrev behind : List ℕ
    behind = mark_all before (member_records s t) membership_mark

    behind-long : r < length behind
    behind-long = omega (arith, undos-long, mark-length before (member_records s t) membership_mark)

    before-marked : Marked (toured s).seen (undo_records s t) before
    before-marked = marked_all (toured s).seen (undo_records s t) undo_mark (λ z. omega (arith, z))

    behind-marked : Marked before (member_records s t) behind
    behind-marked = marked_all before (member_records s t) membership_mark (λ z. omega (arith, z))

    abbrev G : List ℕ → Type 0
    G tally = Groups s m r Z.entries.1 (group_undos s t) tally (begun_mask t) t (leaf_records s t)

    -- The walk of the groups, where the undo records are filed.
    abbrev groups_walk : List ℕ → ℕ → Trail (List ℕ)
    groups_walk tally left =
        all_groups s (toured s).order tally (file_all s m no_files (undo_records s t)) m r (begun_mask t) t (toured s).walk.count before (replicate 2050 0) left

    module _ (E : EachSession s m r t (toured s).seen 1 width) (a : All (Among r) (undo_records s t)) (o : Once (undo_records s t)) (tally : List ℕ) (left : ℕ) where
      found-groups : (groups_walk tally left).ok ≡ true
          → GroupsFound s m r Z.entries.1 (group_undos s t) tally (begun_mask t) t before left (leaf_records s t) (groups_walk tally left)
      found-groups =
          groups-found s m r Z.entries.1 (group_undos s t) tally (begun_mask t) t (file_all s m no_files (undo_records s t)) (files E a o) few (begun-less t)
          (toured s).order (toured s).walk.count (leaf_records s t) (sym tour-count) tour-order leaf-among leaf-once before undos-long left

      walks-groups : G tally → Fresh before r (member_records s t) → length (member_records s t) ≤ left
          → GroupsWalked s m r Z.entries.1 (group_undos s t) tally (begun_mask t) t before left (leaf_records s t) (groups_walk tally left)
      walks-groups g f n =
          groups-walks s m r Z.entries.1 (group_undos s t) tally (begun_mask t) t (file_all s m no_files (undo_records s t)) (files E a o) few (begun-less t)
          (toured s).order (toured s).walk.count (leaf_records s t) (sym tour-count) tour-order leaf-among leaf-once before undos-long left g f n
          (all_from (leaf_records s t) (λ d i. all_from (group_undos s t d) (λ j w. (all_in (Among r) (undo_records s t) a j (grouped-in s m j d (undo_records s t) w)).1)))

  -- ---- the passes

  module _ (T : Table t) where
    abbrev σ : State
    σ = meaning s t

    seats : length t ≤ suc width
    seats = omega (arith, T.seats)

    -- ---- the tree

    rooted : TreeInOrder s → RootInOrder s (M-of s) (R-of s) unmet
    unfolding tree_of
    rooted C = record { rooted = C.rooted; fresh = distinct-fresh s (tree_records s t) C.reached; shaped = C.shaped; top_free = C.top_free; few = C.few; chained = C.chained }

    pub tree-pass : ((toured s).walk.ok ≡ true) ↔ TreeInOrder s
    unfolding tree_of
    tree-pass = (
      λ o.
          let K = root-found s m r unmet unmet few long o in
          record { rooted = K.rooted; reached = fresh-distinct s (tree_records s t) K.fresh; shaped = K.shaped; top_free = K.top_free; few = K.few; chained = K.chained },
      λ C. root_ok s m r unmet unmet few long (rooted C),
    )

    module _ (C : TreeInOrder s) where
      abbrev K : RootInOrder s (M-of s) (R-of s) unmet
      K = rooted C

      abbrev marks : List ℕ
      marks = (toured s).seen

      pub known : TreeKnown s (toured s).seen
      unfolding tree_of
      known = tree-known s unmet marks K (tour-marks K) zeros

      pub rising : Rises 0 4294967296 (lvs (meaning s t))
      unfolding meaning Ordered
      rising = ordered-rises σ (shaped-ordered (suc (height_of s)) 1 0 top (erase (suc (height_of s)) (tree_of s)) C.shaped)

      tells : Tells s (toured s).seen
      tells = record { met = known.met; marked = known.marked }

      pub leaf-inside : All (Among (R-of s)) (stored_records s)
      leaf-inside = leaf-among K

      some-leaves : All (λ d. ¬ (d ≡ 0)) (stored_records s)
      some-leaves = all-as (λ d b z. omega (arith, z, b.0)) (stored_records s) leaf-inside

      -- ---- the requests in hand, and the latches

      pub requests-pass : ((stood s t).ok ≡ true) ↔ Parties s t
      requests-pass = parties-pass s marks t known T.seats T.words

      pub latch-pass : Parties s t → (standing_at_nodes t ≡ (toured s).walk.latches) ↔ LatchesMatch s t
      latch-pass Q =
          let i = latches-pass s marks t known T.seats T.words Q in
          (λ e. i.0 (e ∙ tour-latches K), λ L. i.1 L ∙ sym (tour-latches K))

      -- ---- the chains of undo records

      module _ (U : UndosInOrder s t) where
        each : EachSession s m r t marks 1 width
        each = (each-secured s t marks tells).1 (U.ends, U.secured)

        undos-fresh : Fresh marks r (undo_records s t)
        undos-fresh = fresh-rest unmet r (tree_records s t) (undo_records s t) (tour-marked K) (distinct-fresh s (tree_records s t ++ undo_records s t) U.reached)

        abbrev left : ℕ
        left = (toured s).walk.left - length (undo_records s t)

        filed_is : filed s t ≡ ends true ((toured s).walk.left - length (undo_records s t)) (before K) (file_all s m no_files (undo_records s t))
        unfolding all_undos
        filed_is =
            let a = length-append (tree_records s t) (undo_records s t) in
            let b = once-most r (tree_records s t ++ undo_records s t) U.reached.inside U.reached.once in
            undos-walks s m r t width 1 (toured s).walk.left marks no_files (tour-long K) each undos-fresh (omega (arith, a, b, tour-left K))

        grouped-is : grouped s t ≡ groups_walk K (stood s t).held ((toured s).walk.left - length (undo_records s t))
        grouped-is =
            ap (λ (v : Trail (List ℕ)). all_groups s (toured s).order (stood s t).held v.held m r (begun_mask t) t (toured s).walk.count v.seen (replicate 2050 0) v.left) filed_is

      pub undos-pass : ((filed s t).ok ≡ true) ↔ UndosInOrder s t
      unfolding all_undos
      undos-pass = (found, λ U. ap (λ (v : Trail (List ℕ)). v.ok) (filed_is U))
        where
          found : (filed s t).ok ≡ true → UndosInOrder s t
          found o =
              let U = undos-found s m r t width 1 (toured s).walk.left marks no_files (tour-long K) o in
              let e = (each-secured s t marks tells).0 U.each in
              record {
                ends = e.0;
                secured = e.1;
                reached = fresh-distinct s (tree_records s t ++ undo_records s t)
                    (fresh-then unmet r (tree_records s t) (undo_records s t) long (tour-marked K) (tree-fresh K) U.fresh);
              }

      -- ---- the groups

      pub leaves-few : (toured s).walk.count ≤ 4097
      leaves-few = omega (arith, tour-count K, few, once-most r (leaf_records s t) leaf-inside (leaf-once K))

      module _ (E : EntriesHeld (meaning s t)) (Q : Parties s t) (U : UndosInOrder s t) where
        abbrev small : M-of s ≤ 1024
        small = Z.entries.1

        abbrev tally : List ℕ
        tally = (stood s t).held

        tallied : Tallied s t (stood s t).held
        tallied = parties-tallied s marks t known T.seats T.words few Q

        setting : All (λ l. Members s l.num) (leaves_of s) → Setting s t (toured s).seen
        setting A = record { rises = rising; tells = tells; held = E; members = A }

        -- The groups' part says so of the descriptors, their members and their undo records,
        parts-of : GroupsInOrder s t → GroupParts s Z.entries.1 (group_undos s t) (stood s t).held (begun_mask t) t (stored_records s)
        parts-of G = record {
          held = sound-groups s t seats rising tally G.held counted;
          come = sound-come s small t some-leaves (record { listed = G.listed; members = G.members });
          undoes = (undoing-is s t marks (setting G.members) (each U) small).1 (sound-sessions s t G.undo_words G.undoable);
        }
          where
            go : (ls : List Leaf) → All (λ l. l.desc ≡ desc_at s m r l.num) ls
                → All (λ l. get_or (stood s t).held l.num 0 ≡ total (pins_by l.desc.key) σ.table) ls
                → All (λ (l : Leaf). pins_in (word_of s m l.num 1) (lvs σ) ≡ get_or (stood s t).held l.num 0) ls
            go [] a b = tt
            go (l ∷ ls) a b =
                let e : word_of s m l.num 1 ≡ l.desc.key = sym (ap (λ (d : Desc). d.key) a.0) in
                (G.pins_match (word_of s m l.num 1) ∙ ap (λ (k : ℕ). total (pins_by k) σ.table) e ∙ sym b.0, go ls a.1 b.1)

            counted : PinsCounted s t (stood s t).held
            counted = (all_map _ (λ (l : Leaf). l.num) (leaves_of s)).1 (go (leaves_of s) (leaves-read s) tallied)

        -- and their words then say it of the groups.
        module _ (P : GroupParts s Z.entries.1 (group_undos s t) (stood s t).held (begun_mask t) t (stored_records s)) where
          -- A locate that takes has pinned first.
          first-pinned : (x : Session) → x.stage ≡ 5 → All (λ k. stored_in k (lvs σ) ≡ true) (pins_of x) → stored_in x.first (lvs σ) ≡ true
          unfolding pinned
          first-pinned x e a = go (eqb x.first x.second) (subst (All (λ k. stored_in k (lvs σ) ≡ true)) pins a)
            where
              busy : ¬ (x.stage ≡ 0)
              busy z = omega (arith, z, e)

              pins : pins_of x ≡ pinned (request_of x) (take (next_of x))
              pins = ap (of_hand [] (λ q. pinned q q.stage)) (hand-some x busy) ∙ ap (pinned (request_of x)) (stage-5 x e)

              go : (b : Bool) → All (λ k. stored_in k (lvs σ) ≡ true) (cond b (x.first ∷ []) (x.first ∷ x.second ∷ [])) → stored_in x.first (lvs σ) ≡ true
              go true c = c.0
              go false c = c.0

          from_first : (p : ℕ) → Taking t p → (stored_in (session_at t p).first (lvs σ) ≡ true) × ((session_at t p).first ≤ (session_at t p).last)
          from_first p G = (first-pinned (session_at t p) G.takes (Q p G.highest).stored, go ((Q p G.highest).hand.last G.takes))
            where
              go : ((session_at t p).last ≡ 0) ⊎ ((session_at t p).first ≤ (session_at t p).last) → (session_at t p).first ≤ (session_at t p).last
              go (inl z) = absurd (G.taken z)
              go (inr h) = h

          held : GroupsSound s t × PinsCounted s t (stood s t).held
          held = groups-sound s t seats rising tally from_first P.held

          leaf-pinned : LeafPins s t
          leaf-pinned =
              go (leaves_of s) (leaves-read s) ((all_map _ (λ (l : Leaf). l.num) (leaves_of s)).0 (leaf-pins s t rising)) ((all_map _ (λ (l : Leaf). l.num) (leaves_of s)).0 held.1) tallied
            where
              go : (ls : List Leaf) → All (λ l. l.desc ≡ desc_at s m r l.num) ls
                  → All (λ (l : Leaf). pins_in (word_of s m l.num 1) (lvs σ) ≡ word_of s m l.num 5) ls
                  → All (λ (l : Leaf). pins_in (word_of s m l.num 1) (lvs σ) ≡ get_or (stood s t).held l.num 0) ls
                  → All (λ l. get_or (stood s t).held l.num 0 ≡ total (pins_by l.desc.key) σ.table) ls
                  → All (λ l. l.desc.pins ≡ total (pins_by l.desc.key) σ.table) ls
              go [] a b c d = tt
              go (l ∷ ls) a b c d = (ap (λ (e : Desc). e.pins) a.0 ∙ sym b.0 ∙ c.0 ∙ d.0, go ls a.1 b.1 c.1 d.1)

          of_parts : Distinct s (tree_records s t ++ (undo_records s t ++ member_records s t)) → GroupsInOrder s t
          of_parts R =
              let M = come-sound s small t P.come in
              let u = sessions-sound s t seats ((undoing-is s t marks (setting M.members) (each U) small).0 P.undoes) in
              record {
                listed = M.listed;
                members = M.members;
                reached = R;
                held = held.0;
                pins_match = leaves-match s marks t known leaf-pinned (parties-pinned s marks t known T.seats T.words Q);
                undo_words = u.0;
                undoable = u.1;
              }

        module _ (G : GroupsInOrder s t) where
          members-fresh : Fresh (before K) r (member_records s t)
          members-fresh =
              fresh-rest marks r (undo_records s t) (member_records s t) (before-marked K)
              (fresh-rest unmet r (tree_records s t) (undo_records s t ++ member_records s t) (tour-marked K) (distinct-fresh s (tree_records s t ++ (undo_records s t ++ member_records s t)) G.reached))

          members-few : length (member_records s t) ≤ (toured s).walk.left - length (undo_records s t)
          members-few =
              let a = length-append (tree_records s t) (undo_records s t ++ member_records s t) in
              let b = length-append (undo_records s t) (member_records s t) in
              let c = once-most r (tree_records s t ++ (undo_records s t ++ member_records s t)) G.reached.inside G.reached.once in
              omega (arith, a, b, c, tour-left K)

          walked : GroupsWalked s m r Z.entries.1 (group_undos s t) (stood s t).held (begun_mask t) t (before K) ((toured s).walk.left - length (undo_records s t)) (leaf_records s t)
              (groups_walk K (stood s t).held ((toured s).walk.left - length (undo_records s t)))
          walked =
              walks-groups K (each U) (undos-fresh U).inside (undos-fresh U).once tally (left U)
              (parts-groups s small (group_undos s t) tally (begun_mask t) t (stored_records s) (parts-of G)) members-fresh members-few

        pub groups-pass : ((grouped s t).ok ≡ true) ↔ GroupsInOrder s t
        groups-pass = (found, λ G. ap (λ (v : Trail (List ℕ)). v.ok) (grouped-is U) ∙ (walked G).ok)
          where
            found : (grouped s t).ok ≡ true → GroupsInOrder s t
            found o =
                let F = found-groups K (each U) (undos-fresh U).inside (undos-fresh U).once tally (left U) (sym (ap (λ (v : Trail (List ℕ)). v.ok) (grouped-is U)) ∙ o) in
                of_parts (groups-parts s small (group_undos s t) tally (begun_mask t) t (stored_records s) F.groups)
                (fresh-distinct s (tree_records s t ++ (undo_records s t ++ member_records s t))
                (fresh-then unmet r (tree_records s t) (undo_records s t ++ member_records s t) long (tour-marked K) (tree-fresh K)
                (fresh-then marks r (undo_records s t) (member_records s t) (tour-long K) (before-marked K) (undos-fresh U) F.fresh)))

        -- ---- the free chain

        module _ (G : GroupsInOrder s t) where
          behind-is : (grouped s t).seen ≡ behind K
          behind-is = ap (λ (v : Trail (List ℕ)). v.seen) (grouped-is U) ∙ (walked G).seen_is

          left_is : (grouped s t).left + length (member_records s t) ≡ (toured s).walk.left - length (undo_records s t)
          left_is = ap (λ (v : Trail (List ℕ)). v.left + length (member_records s t)) (grouped-is U) ∙ (walked G).left_is

          -- How many records are met, and left.
          all-many : length (met s t) + (grouped s t).left ≡ r + length (free_chain s)
          all-many =
              let a = length-append (tree_records s t) (undo_records s t ++ (member_records s t ++ free_chain s)) in
              let b = length-append (undo_records s t) (member_records s t ++ free_chain s) in
              let c = length-append (member_records s t) (free_chain s) in
              let d = length-append (tree_records s t) (undo_records s t ++ member_records s t) in
              let e = length-append (undo_records s t) (member_records s t) in
              let f = once-most r (tree_records s t ++ (undo_records s t ++ member_records s t)) G.reached.inside G.reached.once in
              omega (arith, a, b, c, d, e, f, tour-left K, left_is)

          freed-is : FreeInOrder s t → freed s t ≡ ends true ((grouped s t).left - length (free_chain s)) (mark_all (grouped s t).seen (free_chain s) free_mark) 0
          unfolding free_from
          freed-is F =
              let rest = member_records s t ++ free_chain s in
              let x = fresh-rest unmet r (tree_records s t) (undo_records s t ++ rest) (tour-marked K) (distinct-fresh s (met s t) F.reached) in
              let y = fresh-rest marks r (undo_records s t) rest (before-marked K) x in
              let z = fresh-rest (before K) r (member_records s t) (free_chain s) (behind-marked K) y in
              chained-walks s m r free_mark free_turn (grouped s t).seen 0 (header_word s free_place) (grouped s t).left (free_chain s) 0 F.ends
              (subst (λ (v : List ℕ). Fresh v r (free_chain s)) (sym behind-is) z)
              (omega (arith, all-many, once-most r (met s t) F.reached.inside F.reached.once))
              (idle-turns free_turn idle free_mark (grouped s t).seen 0 (free_chain s))

          pub free-pass : ((freed s t).ok ≡ true) ↔ FreeInOrder s t
          unfolding free_from
          free-pass = (found, λ F. ap (λ (v : Trail ℕ). v.ok) (freed-is F))
            where
              found : (freed s t).ok ≡ true → FreeInOrder s t
              found o =
                  let rest = member_records s t ++ free_chain s in
                  let R = chained-found s m r free_mark free_turn (grouped s t).seen 0 (header_word s free_place) (grouped s t).left (λ z. omega (arith, z))
                  (subst (λ (v : List ℕ). r < length v) (sym behind-is) (behind-long K)) o in
                  record {
                    ends = R.chained;
                    reached = fresh-distinct s (met s t)
                        (fresh-then unmet r (tree_records s t) (undo_records s t ++ rest) long (tour-marked K) (tree-fresh K)
                        (fresh-then marks r (undo_records s t) rest (tour-long K) (before-marked K) (undos-fresh U)
                        (fresh-then (before K) r (member_records s t) (free_chain s) (undos-long K) (behind-marked K) (members-fresh G)
                        (subst (λ (v : List ℕ). Fresh v r (free_chain s)) behind-is R.fresh))));
                  }

          -- Nothing is left exactly if every record is reached.
          pub reached-pass : FreeInOrder s t → ((freed s t).left ≡ 0) ↔ AllReached s t
          reached-pass F =
              let l : (freed s t).left ≡ (grouped s t).left - length (free_chain s) = ap (λ (v : Trail ℕ). v.left) (freed-is F) in
              let n = once-most r (met s t) F.reached.inside F.reached.once in
              let i = reach-many s t T.seats F.reached.inside F.reached.once in
              (λ e. i.0 (omega (arith, e, l, n, all-many)), λ f. omega (arith, l, all-many, i.1 f))
