-- A session that has no undo records leaves: the words after hold the layout without its holders, which means the machine's `leave`.
use Rattle.std.specs.Prelude.{◌≡◌, refl, false, List, [], ◌++◌, map, length, set}
use Rattle.std.proofs.Common.{sym, ap, subst, ◌∙◌, arith, lit<}
use Rattle.std.proofs.Math.Option.{none}
use Prim.Native.Nat.{ℕ, suc, ◌≤◌}
use Rattle.words.specs.Store.{HasRecord, word_of, has_kept}
use Rattle.words.specs.Header.{header_word, entries_place, records_place, first_place}
use Rattle.chain.specs.Walk.{Walk}
use Rattle.groups.specs.Descriptor.{descriptor_at, with_holders}
use Rattle.sessions.specs.declared.Session.{Session}
use Rattle.sessions.specs.Sessions.{session_at}
use Rattle.machine.specs.Holders.{width, left_by}
use Rattle.machine.specs.State.{top, idle, on_session, on_tree, hold_desc}
use Rattle.machine.specs.Calls.{leave, entry_left}
use Rattle.meaning.specs.Reading.{Chained, Leaf, numbers, M-of, R-of}
use Rattle.meaning.specs.Sound.{All}
use Rattle.meaning.specs.Numbers.{all_left, all-as, all_of, all_both, all_map, map-all}
use Rattle.meaning.specs.Frame.{SameAt, leaf_records, numbers-leaves}
use Rattle.layout.specs.Layout.{Lay, Undone, leaves_in, members_of, undos_from, DescFits, Holds, means, session_in, sessions_in}
use Rattle.layout.specs.Written.{Written, written_then}
use Rattle.layout.specs.Short.{short, once-of}
use Rattle.layout.specs.Asked.{set_same}
use Rattle.layout.specs.Keep.{with_entries_in, with_tree, entry_row, chained-keep}
use Rattle.layout.specs.Chains.{leaves-fit, walk-chain}
use Rattle.layout.specs.Puts.{desc-key, desc-locate, desc-update, desc-gap, desc-pins, desc-next, desc-first, desc-fits}
use Rattle.layout.specs.Places.{means-session}
use Rattle.endings.specs.Leave.{HasEntries, leave_entries, left_descriptor}
use Rattle.endings.specs.Table.{unbegun}
use Rattle.leaving.specs.Words.{leave_all, LeaveReady}
use Rattle.leaving.specs.Begun.{idle-fits, no-chain}
use Rattle.leaving.specs.Left.{EntriesLeft, entries-left, entries-map, GroupsLeft, groups-left}
use Rattle.leaving.specs.LeafRows.{each_leaf, each-erase, leaves-once, leaves-row}

-- ---- the layout without session p's holders

unfoldable pub left_leaf : ℕ → Leaf → Leaf
left_leaf p l = record { num = l.num; desc = hold_desc (left_by p) (left_by p) (left_by p) l.desc }

abbrev pub left_lay : Lay → ℕ → Lay
left_lay L p = with_tree (with_entries_in L (map (entry_left p) L.entries)) L.height (each_leaf (left_leaf p) (suc L.height) L.tree) L.free

left-fits : (s s' : List ℕ) (m p : ℕ) (l : Leaf) → DescFits s m l → descriptor_at s' m l.num ≡ left_descriptor p (descriptor_at s m l.num) → DescFits s' m (left_leaf p l)
unfolding left_leaf left_descriptor with_holders
left-fits s s' m p l F e =
    desc-fits s' m (left_leaf p l) (left_descriptor p (descriptor_at s m l.num)) e (desc-key s m l.num ∙ F.key) (ap (left_by p) (desc-locate s m l.num ∙ F.locate))
    (ap (left_by p) (desc-update s m l.num ∙ F.update)) (ap (left_by p) (desc-gap s m l.num ∙ F.gap)) (desc-pins s m l.num ∙ F.pins)

left-words : (s s' : List ℕ) (m p i : ℕ) → descriptor_at s' m i ≡ left_descriptor p (descriptor_at s m i) → (word_of s m i 0 ≡ word_of s' m i 0) × (word_of s m i 6 ≡ word_of s' m i 6)
unfolding left_descriptor with_holders
left-words s s' m p i e = (
  sym (desc-next s m i) ∙ sym (ap (λ d. d.next) e) ∙ desc-next s' m i,
  sym (desc-first s m i) ∙ sym (ap (λ d. d.first) e) ∙ desc-first s' m i,
)

-- ---- the words

module _ (s : List ℕ) (t : List Session) (L : Lay) (H : Holds s t L) (few : M-of s ≤ 1024) where
  leaves-in-range : All (λ i. (1 ≤ i) × (i ≤ L.records)) (leaf_records (leaves_in L))
  leaves-in-range =
      let N = numbers (suc L.height) L.tree in
      let P : ℕ → Type 0 = λ i. (1 ≤ i) × (i ≤ L.records) in
      map-all (λ l. l.num) P (leaves_in L)
      (numbers-leaves P (suc L.height) L.tree (all_left P N (members_of L.members (leaves_in L) ++ (undos_from L.undos 1 width ++ L.free)) H.owned.no_other))

  pub leaves-few : length (leaf_records (leaves_in L)) ≤ R-of s
  leaves-few = omega (arith, short L.records (leaf_records (leaves_in L)) leaves-in-range (leaves-once L H.owned), H.fits.records)

  pub leaves-have : All (HasRecord s (M-of s)) (leaf_records (leaves_in L))
  leaves-have =
      let F = H.fits in
      all-as {P = λ i. (1 ≤ i) × (i ≤ L.records)} {Q = HasRecord s (M-of s)}
      (λ i b. record { entries = few; first = b.0; last = omega (arith, b.1, F.sized, F.records); inside = omega (arith, b.0, b.1, F.sized, F.records) })
      (leaf_records (leaves_in L)) leaves-in-range

  some-record : 1 ≤ L.records
  unfolding numbers
  some-record = let b = H.owned.no_other.0 in omega (arith, b.0, b.1)

  pub entries-have : HasEntries s (M-of s)
  entries-have = record { entries = few; inside = omega (arith, H.fits.sized, H.fits.records, H.fits.header, few, some-record) }

  -- Session p has left the entries, and then the descriptors.
  module _ (q : ℕ) where
    left-entries : EntriesLeft s (leave_entries s (suc q) (M-of s)) (suc q) (M-of s)
    left-entries = entries-left s (suc q) (M-of s) entries-have

    entries-written : Written s (leave_entries s (suc q) (M-of s)) []
    entries-written = record {
      long = left-entries.long;
      entries = left-entries.head entries_place (lit< tt);
      records = left-entries.head records_place (lit< tt);
      same = λ j h a. left-entries.same (M-of s) j (omega arith);
      rest = left-entries.rest (M-of s) (R-of s) (omega arith);
    }

    entries-chained : Chained (leave_entries s (suc q) (M-of s)) (M-of s) (header_word s first_place) (leaf_records (leaves_in L))
    entries-chained =
        chained-keep s (leave_entries s (suc q) (M-of s)) (M-of s) (header_word s first_place) (leaf_records (leaves_in L))
        (all_of {P = SameAt s (leave_entries s (suc q) (M-of s)) (M-of s)} (λ j. left-entries.same (M-of s) j (omega arith)) (leaf_records (leaves_in L))) H.fits.chained

    entries-there : All (HasRecord (leave_entries s (suc q) (M-of s)) (M-of s)) (leaf_records (leaves_in L))
    entries-there =
        all-as {P = HasRecord s (M-of s)} {Q = HasRecord (leave_entries s (suc q) (M-of s)) (M-of s)} (λ i z. has_kept z left-entries.long) (leaf_records (leaves_in L)) leaves-have

    pub leave-walk : Walk (leave_entries s (suc q) (M-of s)) (M-of s) (R-of s) (header_word s first_place)
    leave-walk = walk-chain (leave_entries s (suc q) (M-of s)) (M-of s) (header_word s first_place) (leaf_records (leaves_in L)) entries-chained entries-there (R-of s) leaves-few

    pub leave-ready : suc q ≤ width → LeaveReady s (M-of s) (R-of s) (suc q)
    leave-ready high = record { session = record { least = omega arith; most = omega (arith, high) }; entries = entries-have; groups = leave-walk }

    left-groups : GroupsLeft (leave_entries s (suc q) (M-of s)) (leave_all s (M-of s) (R-of s) (suc q)) (M-of s) (suc q) (leaf_records (leaves_in L))
    unfolding leave_all
    left-groups =
        groups-left (leave_entries s (suc q) (M-of s)) (M-of s) (suc q) (leaf_records (leaves_in L)) (R-of s) (header_word s first_place) entries-chained entries-there
        (once-of (leaf_records (leaves_in L)) (leaves-once L H.owned)) leaves-few

    -- over M of the words in between
    between : GroupsLeft (leave_entries s (suc q) (M-of s)) (leave_all s (M-of s) (R-of s) (suc q)) (M-of (leave_entries s (suc q) (M-of s))) (suc q) (leaf_records (leaves_in L))
    between =
        subst (λ k. GroupsLeft (leave_entries s (suc q) (M-of s)) (leave_all s (M-of s) (R-of s) (suc q)) k (suc q) (leaf_records (leaves_in L))) (sym entries-written.entries) left-groups

    groups-written : Written (leave_entries s (suc q) (M-of s)) (leave_all s (M-of s) (R-of s) (suc q)) (leaf_records (leaves_in L))
    groups-written = record {
      long = between.long;
      entries = between.head entries_place (lit< tt);
      records = between.head records_place (lit< tt);
      same = between.same;
      rest = between.rest (R-of (leave_entries s (suc q) (M-of s)))
          (all-as {P = λ i. (1 ≤ i) × (i ≤ L.records)} {Q = λ i. i ≤ R-of (leave_entries s (suc q) (M-of s))}
          (λ i b. omega (arith, b.1, entries-written.records, H.fits.records)) (leaf_records (leaves_in L)) leaves-in-range);
    }

    pub leave-written : Written s (leave_all s (M-of s) (R-of s) (suc q)) (leaf_records (leaves_in L))
    leave-written = written_then s (leave_entries s (suc q) (M-of s)) (leave_all s (M-of s) (R-of s) (suc q)) [] (leaf_records (leaves_in L)) entries-written groups-written

    module _ (high : suc q ≤ width) (none : L.undos (suc q) ≡ []) where
      entries-hold : Holds (leave_entries s (suc q) (M-of s)) t (with_entries_in L (map (entry_left (suc q)) L.entries))
      entries-hold =
          let p = suc q in
          let s₁ = leave_entries s p (M-of s) in
          let E = map (entry_left p) L.entries in
          subst (λ z. Holds s₁ z (with_entries_in L E)) (set_same t p)
          (entry_row s t L H s₁ entries-written left-entries.head E
          (entries-map (entry_left p) s s₁ 1 (M-of s) (λ d a b. left-entries.left d a (omega (arith, b))) ∙ ap (map (entry_left p)) H.fits.entries)
          p (session_at t p) high refl (H.hands p high))

      pub leave-row : Holds (leave_all s (M-of s) (R-of s) (suc q)) (set t (suc q) (unbegun (session_at t (suc q)))) (left_lay L (suc q))
      unfolding unbegun left_leaf
      leave-row =
          let p = suc q in
          let s₁ = leave_entries s p (M-of s) in
          let s₂ = leave_all s (M-of s) (R-of s) p in
          let m = M-of s₁ in
          let ls = leaves_in L in
          let L₁ = with_entries_in L (map (entry_left p) L.entries) in
          let x = session_at t p in
          let fit : All (DescFits s₁ m) ls = leaves-fit s₁ m (suc L.height) top L.tree entries-hold.fits.tree in
          let left : All (λ l. descriptor_at s₂ m l.num ≡ left_descriptor p (descriptor_at s₁ m l.num)) ls =
          all_map (λ l. l.num) (λ i. descriptor_at s₂ m i ≡ left_descriptor p (descriptor_at s₁ m i)) ls between.left in
          leaves-row s₁ t L₁ entries-hold (left_leaf p) (λ l. refl) (λ l. refl) (λ l. refl) s₂ groups-written between.ents between.head
          (all_both {P = DescFits s₁ m} {Q = λ l. descriptor_at s₂ m l.num ≡ left_descriptor p (descriptor_at s₁ m l.num)} {R = λ l. DescFits s₂ m (left_leaf p l)}
          (λ l a b. left-fits s₁ s₂ m p l a b) ls fit left)
          (all-as {P = λ l. descriptor_at s₂ m l.num ≡ left_descriptor p (descriptor_at s₁ m l.num)}
          {Q = λ l. (word_of s₁ m l.num 0 ≡ word_of s₂ m l.num 0) × (word_of s₁ m l.num 6 ≡ word_of s₂ m l.num 6)} (λ l e. left-words s₁ s₂ m p l.num e) ls left)
          p (unbegun x) high (sym (no-chain s (M-of s) x.undo (L.undos p) none (H.fits.undos q high)))
          (idle-fits (left_lay L p) p (unbegun x) refl)

-- ---- what it means

table-means : (L : Lay) (t : List Session) (p : ℕ) (x : Session) → sessions_in L.undos 0 (set t p x) ≡ set (sessions_in L.undos 0 t) p (session_in L.undos p x)
unfolding means on_session
table-means L t p x = ap (λ σ. σ.table) (means-session L t p x)

idle-record : (u : ℕ → List Undone) (q : ℕ) (x : Session) → u (suc q) ≡ [] → session_in u (suc q) (unbegun x) ≡ idle
unfolding unbegun
idle-record u q x e = ap (λ us. record { begun = false; order = 0; hand = none; undos = map (λ y. y.undo) us; asked = false }) e

pub leave-means : (L : Lay) (t : List Session) (q : ℕ) → L.undos (suc q) ≡ []
    → means (left_lay L (suc q)) (set t (suc q) (unbegun (session_at t (suc q)))) ≡ leave (suc q) (means L t)
unfolding means leave on_session on_tree left_leaf
leave-means L t q e =
    let p = suc q in
    let h = suc L.height in
    let tbl = table-means L t p (unbegun (session_at t p)) ∙ ap (set (sessions_in L.undos 0 t) p) (idle-record L.undos q (session_at t p) e) in
    let tree = each-erase (left_leaf p) (hold_desc (left_by p) (left_by p) (left_by p)) (λ l. refl) h L.tree in
    λ j. record { entries = map (entry_left p) L.entries; root = record { height = L.height; node = tree j }; free = length L.free; table = tbl j; records = L.records }
