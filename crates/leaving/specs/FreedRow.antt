-- A session's undo records become free: a row over any layout that the words hold.
use Rattle.std.specs.Prelude.{◌≡◌, refl, cond, List, [], ◌∷◌, ◌++◌, map, ℕ, zero, suc, ◌+◌, ◌≤◌, ◌<◌, eqb, length, get_or, set}
use Rattle.std.proofs.Common.{sym, ap, ap₂, subst, ◌∙◌, arith, lit<, eq-eqb, ne_eqb}
use Rattle.std.proofs.Math.Decide.{ℕ_discrete}
use Rattle.words.specs.Store.{HasRecord, word_of}
use Rattle.words.specs.Header.{header_word, entries_place, records_place, first_place, free_place}
use Rattle.chain.specs.Walk.{Walk}
use Rattle.sessions.specs.declared.Session.{Session}
use Rattle.sessions.specs.Sessions.{session_at}
use Rattle.machine.specs.Holders.{width}
use Rattle.machine.specs.State.{top, on_session, with_free}
use Rattle.machine.specs.Sound.{times}
use Rattle.meaning.specs.Reading.{Chained, numbers, M-of, R-of}
use Rattle.meaning.specs.Sound.{All, Apart}
use Rattle.meaning.specs.Numbers.{all_right, all-as, all_map, map-all, In, all_in, all_from, times-append, times-in, apart-times, in-times}
use Rattle.meaning.specs.Frame.{SameAt, leaf_records, numbers-leaves}
use Rattle.meaning.specs.Parts.{entries_same}
use Rattle.layout.specs.Layout.{Lay, Undone, leaves_in, undo_numbers, members_of, undos_from, all_records, UndosFit, Named, lists_in, HandFits, Holds, means, session_in, sessions_in}
use Rattle.layout.specs.Written.{Written}
use Rattle.layout.specs.Keep.{records-times, owned-most, own-rest, tree-keep, chained-keep, undos-keep, groups-row, hand-as, fits-row, holds_row, table_here, table-there}
use Rattle.layout.specs.Chains.{walk-chain}
use Rattle.undo_log.specs.Freeing.{free_chain}
use Rattle.layout.specs.Short.{short, once-of}
use Rattle.leaving.specs.Freed.{onto, onto-times, onto-length, Freed, freed}

-- ---- the undo records of all sessions but p

unfoldable pub without_undos : (ℕ → List Undone) → ℕ → ℕ → List Undone
without_undos u p q = cond (eqb q p) [] (u q)

pub undos-gone : (u : ℕ → List Undone) (p : ℕ) → without_undos u p p ≡ []
unfolding without_undos
undos-gone u p = ap (λ b. cond b [] (u p)) (eq-eqb p p refl)

pub undos-there : (u : ℕ → List Undone) (p q : ℕ) → ¬ (q ≡ p) → without_undos u p q ≡ u q
unfolding without_undos
undos-there u p q n = ap (λ b. cond b [] (u q)) (ne_eqb q p n)

above : (u : ℕ → List Undone) (p q n : ℕ) → p < q → undos_from (without_undos u p) q n ≡ undos_from u q n
above u p q zero l = refl
above u p q (suc n) l = ap₂ (λ a b. undo_numbers a ++ b) (undos-there u p q (λ e. omega (arith, e, l))) (above u p (suc q) n (omega (arith, l)))

pub undos-times : (u : ℕ → List Undone) (p q n i : ℕ) → q ≤ p → p < q + n
    → times i (undos_from u q n) ≡ times i (undo_numbers (u p)) + times i (undos_from (without_undos u p) q n)
undos-times u p q zero i a b = absurd (omega (arith, a, b))
undos-times u p q (suc n) i a b = go (ℕ_discrete q p) (λ x y. undos-times u p (suc q) n i x y)
  where
    go : Dec (q ≡ p) → (suc q ≤ p → p < suc q + n → times i (undos_from u (suc q) n) ≡ times i (undo_numbers (u p)) + times i (undos_from (without_undos u p) (suc q) n))
        → times i (undo_numbers (u q) ++ undos_from u (suc q) n) ≡ times i (undo_numbers (u p)) + times i (undo_numbers (without_undos u p q) ++ undos_from (without_undos u p) (suc q) n)
    go (yes e) ih =
        let x = ap (λ k. times i (undo_numbers (u k))) e in
        let y = ap (λ k. times i (undo_numbers k)) (ap (without_undos u p) e ∙ undos-gone u p) in
        let z = ap (times i) (above u p (suc q) n (omega (arith, e))) in
        omega (arith, x, y, z, times-append i (undo_numbers (u q)) (undos_from u (suc q) n), times-append i (undo_numbers (without_undos u p q)) (undos_from (without_undos u p) (suc q) n))
    go (no e) ih =
        let y = ap (λ k. times i (undo_numbers k)) (undos-there u p q e) in
        let z = ih (omega (arith, a, e)) (omega (arith, b)) in
        omega (arith, y, z, times-append i (undo_numbers (u q)) (undos_from u (suc q) n), times-append i (undo_numbers (without_undos u p q)) (undos_from (without_undos u p) (suc q) n))

part-times : (u : ℕ → List Undone) (p q n i : ℕ) → q ≤ p → p < q + n → times i (undo_numbers (u p)) ≤ times i (undos_from u q n)
part-times u p q n i a b = omega (arith, undos-times u p q n i a b)

-- ---- the row

abbrev pub freed_lay : Lay → ℕ → Lay
freed_lay L p = record {
  entries = L.entries;
  height = L.height;
  tree = L.tree;
  members = L.members;
  undos = without_undos L.undos p;
  free = onto (undo_numbers (L.undos p)) L.free;
  records = L.records;
}

module _ (s : List ℕ) (t : List Session) (L : Lay) (H : Holds s t L) (few : M-of s ≤ 1024) (q : ℕ) (high : suc q ≤ width) where
  abbrev gone : List ℕ
  gone = undo_numbers (L.undos (suc q))

  abbrev tree_part : List ℕ
  tree_part = numbers (suc L.height) L.tree

  abbrev members_part : List ℕ
  members_part = members_of L.members (leaves_in L)

  abbrev undos_part : List ℕ
  undos_part = undos_from L.undos 1 width

  abbrev kept_part : List ℕ
  kept_part = undos_from (without_undos L.undos (suc q)) 1 width

  gone-times : (i : ℕ) → times i undos_part ≡ times i gone + times i kept_part
  gone-times i = undos-times L.undos (suc q) 1 width i (omega arith) (omega (arith, high))

  total-most : (i : ℕ) → times i tree_part + (times i members_part + (times i gone + (times i kept_part + times i L.free))) ≤ 1
  total-most i = omega (arith, records-times L i, owned-most L H.owned i, gone-times i)

  gone-range : All (λ i. (1 ≤ i) × (i ≤ L.records)) gone
  gone-range = all_from gone (λ i h. all_in (λ j. (1 ≤ j) × (j ≤ L.records)) (all_records L) H.owned.no_other i
      (in-times i (all_records L) (omega (arith, records-times L i, gone-times i, times-in i gone h))))

  pub gone-have : All (HasRecord s (M-of s)) gone
  gone-have =
      let F = H.fits in
      all-as {P = λ i. (1 ≤ i) × (i ≤ L.records)} {Q = HasRecord s (M-of s)}
      (λ i b. record { entries = few; first = b.0; last = omega (arith, b.1, F.sized, F.records); inside = omega (arith, b.0, b.1, F.sized, F.records) }) gone gone-range

  gone-once : (i : ℕ) → times i gone ≤ 1
  gone-once i = omega (arith, total-most i)

  gone-few : length gone ≤ R-of s
  gone-few = omega (arith, short L.records gone gone-range gone-once, H.fits.records)

  pub undo-walk : Walk s (M-of s) (R-of s) (session_at t (suc q)).undo
  undo-walk = walk-chain s (M-of s) (session_at t (suc q)).undo gone (H.fits.undos q high).chained gone-have (R-of s) gone-few

  gone-apart : (X : List ℕ) → ((i : ℕ) → times i gone + times i X ≤ 1) → All (λ i. Apart i X) gone
  gone-apart X h = all_from gone (λ i k. apart-times i X (omega (arith, h i, times-in i gone k)))

  free-low : All (λ i. 1 ≤ i) L.free
  free-low = all_right (λ i. 1 ≤ i) undos_part L.free (all_right (λ i. 1 ≤ i) members_part (undos_part ++ L.free) (own-rest L H.owned))

  words-freed : Freed s (free_chain s (M-of s) (R-of s) (session_at t (suc q)).undo) (M-of s) gone L.free
  words-freed =
      freed s (M-of s) gone L.free (R-of s) (session_at t (suc q)).undo H.fits.header (H.fits.undos q high).chained H.fits.free gone-have free-low (once-of gone gone-once)
      (gone-apart L.free (λ i. omega (arith, total-most i))) gone-few

  pub freed-written : Written s (free_chain s (M-of s) (R-of s) (session_at t (suc q)).undo) gone
  freed-written = record {
    long = words-freed.long;
    entries = words-freed.head entries_place (lit< tt) (λ e. omega (arith, e));
    records = words-freed.head records_place (lit< tt) (λ e. omega (arith, e));
    same = words-freed.same;
    rest = words-freed.rest (R-of s) (all-as {P = λ i. (1 ≤ i) × (i ≤ L.records)} {Q = λ i. i ≤ R-of s} (λ i b. omega (arith, b.1, H.fits.records)) gone gone-range);
  }

  -- What is apart from them is the same.
  kept : (X : List ℕ) → ((i : ℕ) → In i X → 1 ≤ i) → ((i : ℕ) → times i gone + times i X ≤ 1) → All (SameAt s (free_chain s (M-of s) (R-of s) (session_at t (suc q)).undo) (M-of s)) X
  kept X low h = all_from X (λ i k. words-freed.same i (low i k) (apart-times i gone (omega (arith, h i, times-in i X k))))

  low-in : (X : List ℕ) → ((i : ℕ) → times i X ≤ times i (all_records L)) → (i : ℕ) → In i X → 1 ≤ i
  low-in X h i k = (all_in (λ j. (1 ≤ j) × (j ≤ L.records)) (all_records L) H.owned.no_other i (in-times i (all_records L) (omega (arith, h i, times-in i X k)))).0

  pub freed-row : (x' : Session) → x'.undo ≡ 0 → HandFits (freed_lay L (suc q)) (suc q) x'
      → Holds (free_chain s (M-of s) (R-of s) (session_at t (suc q)).undo) (set t (suc q) x') (freed_lay L (suc q))
  freed-row x' none own =
      let F = H.fits in
      let m = M-of s in
      let p = suc q in
      let s' = free_chain s m (R-of s) (session_at t p).undo in
      let h = suc L.height in
      let P = SameAt s s' m in
      let ls = leaves_in L in
      let L' = freed_lay L p in
      let head : (k : ℕ) → k < 16 → ¬ (k ≡ free_place) → header_word s' k ≡ header_word s k = words-freed.head in
      let tree : All P tree_part = kept tree_part (low-in tree_part (λ i. omega (arith, records-times L i))) (λ i. omega (arith, total-most i)) in
      let mems : All P members_part = kept members_part (low-in members_part (λ i. omega (arith, records-times L i))) (λ i. omega (arith, total-most i)) in
      let lvs : All P (leaf_records ls) = map-all (λ l. l.num) P ls (numbers-leaves P h L.tree tree) in
      holds_row s t L H s' L' p x' high
      (fits-row s t L F s' gone freed-written (set t p x') L' refl (entries_same s s' 1 m (λ d i j. words-freed.ents d i (omega (arith, j))) ∙ F.entries)
      (head 3 (lit< tt) (λ e. omega (arith, e)) ∙ F.height) (head 2 (lit< tt) (λ e. omega (arith, e)) ∙ F.root)
      (tree-keep s s' m h top L.tree tree F.tree)
      (subst (λ i. Chained s' m i (leaf_records ls)) (sym (head 4 (lit< tt) (λ e. omega (arith, e)))) (chained-keep s s' m (header_word s first_place) (leaf_records ls) lvs F.chained))
      (groups-row s s' m L.members ls
      (all-as {P = λ l. SameAt s s' m l.num} {Q = λ l. word_of s m l.num 6 ≡ word_of s' m l.num 6} (λ l e. ap (λ v. get_or v 6 0) e) ls (all_map (λ l. l.num) P ls lvs)) mems F.groups)
      words-freed.free
      (λ k b. undo_of k b (ℕ_discrete (suc k) p)))
      refl
      (λ i. omega (arith, records-times L' i, records-times L i, gone-times i, onto-times i gone L.free))
      own
      (λ k n b f. hand-as L L' k (session_at t k) (λ c d y. y) (λ e y. y) f)
      (λ k b f. named_of k (ℕ_discrete (suc k) p) f)
    where
      undo_of : (k : ℕ) → suc k ≤ width → Dec (suc k ≡ suc q)
          → UndosFit (free_chain s (M-of s) (R-of s) (session_at t (suc q)).undo) (M-of s) (session_at (set t (suc q) x') (suc k)).undo (without_undos L.undos (suc q) (suc k))
      undo_of k b (yes e) =
          let u = L.undos in
          let s' = free_chain s (M-of s) (R-of s) (session_at t (suc q)).undo in
          subst (λ j. UndosFit s' (M-of s) (session_at (set t (suc q) x') j).undo (without_undos u (suc q) j)) (sym e)
          (subst (UndosFit s' (M-of s) (session_at (set t (suc q) x') (suc q)).undo) (sym (undos-gone u (suc q)))
          (record { chained = ap (λ y. y.undo) (table_here t (suc q) x' H.seats high) ∙ none; words = tt }))
      undo_of k b (no n) =
          let u = L.undos in
          let s' = free_chain s (M-of s) (R-of s) (session_at t (suc q)).undo in
          let X = undo_numbers (u (suc k)) in
          let part : (i : ℕ) → times i X ≤ times i kept_part = λ i.
          let z = ap (λ y. times i (undo_numbers y)) (undos-there u (suc q) (suc k) n) in
          omega (arith, z, part-times (without_undos u (suc q)) (suc k) 1 width i (omega arith) (omega (arith, b))) in
          subst (λ y. UndosFit s' (M-of s) y.undo (without_undos u (suc q) (suc k))) (sym (table-there t (suc q) (suc k) x' n))
          (subst (UndosFit s' (M-of s) (session_at t (suc k)).undo) (sym (undos-there u (suc q) (suc k) n))
          (undos-keep s s' (M-of s) (session_at t (suc k)).undo (u (suc k))
          (kept X (low-in X (λ i. omega (arith, records-times L i, gone-times i, part i))) (λ i. omega (arith, total-most i, part i))) (H.fits.undos k b)))

      named_of : (k : ℕ) → Dec (suc k ≡ suc q) → Named (leaves_in L) (L.undos (suc k)) (lists_in L) → Named (leaves_in L) (without_undos L.undos (suc q) (suc k)) (lists_in L)
      named_of k (yes e) f = subst (λ us. Named (leaves_in L) us (lists_in L)) (sym (ap (without_undos L.undos (suc q)) e ∙ undos-gone L.undos (suc q))) tt
      named_of k (no n) f = subst (λ us. Named (leaves_in L) us (lists_in L)) (sym (undos-there L.undos (suc q) (suc k) n)) f

-- ---- what it means

session-else : (u : ℕ → List Undone) (p n : ℕ) (x : Session) → ¬ (n ≡ p) → session_in (without_undos u p) n x ≡ session_in u n x
session-else u p zero x ne = refl
session-else u p (suc n) x ne = ap (λ us. record { begun = (session_in u (suc n) x).begun; order = (session_in u (suc n) x).order; hand = (session_in u (suc n) x).hand; undos = map (λ y. y.undo) us; asked = (session_in u (suc n) x).asked }) (undos-there u p (suc n) ne)

sessions-past : (u : ℕ → List Undone) (p n : ℕ) (t : List Session) → p < n → sessions_in (without_undos u p) n t ≡ sessions_in u n t
sessions-past u p n [] l = refl
sessions-past u p n (x ∷ t) l = ap₂ (λ a b. a ∷ b) (session-else u p n x (λ e. omega (arith, e, l))) (sessions-past u p (suc n) t (omega (arith, l)))

sessions-put : (u : ℕ → List Undone) (p n k : ℕ) (t : List Session) (x : Session) → n + k ≡ p
    → sessions_in (without_undos u p) n (set t k x) ≡ set (sessions_in u n t) k (session_in (without_undos u p) p x)
sessions-put u p n zero [] x e = refl
sessions-put u p n (suc k) [] x e = refl
sessions-put u p n zero (y ∷ t) x e =
    let z : n ≡ p = omega (arith, e) in
    ap₂ (λ a b. session_in (without_undos u p) a x ∷ b) z (sessions-past u p (suc n) t (omega (arith, z)))
sessions-put u p n (suc k) (y ∷ t) x e =
    ap₂ (λ a b. a ∷ b) (session-else u p n y (λ z. omega (arith, e, z))) (sessions-put u p (suc n) k t x (omega (arith, e)))

pub freed-means : (L : Lay) (t : List Session) (p : ℕ) (x' : Session)
    → means (freed_lay L p) (set t p x') ≡ on_session p (λ _. session_in (without_undos L.undos p) p x') (with_free (length (undo_numbers (L.undos p)) + length L.free) (means L t))
unfolding means on_session
freed-means L t p x' =
    let tbl = sessions-put L.undos p 0 p t x' (omega arith) in
    let free = onto-length (undo_numbers (L.undos p)) L.free in
    λ j. record { entries = L.entries; root = (means L t).root; free = free j; table = tbl j; records = L.records }
