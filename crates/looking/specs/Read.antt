-- What is read of sound words is what they mean: the machine's free records, and the machine's holders of every key.
use Rattle.std.specs.Prelude.{◌≡◌, refl, Bool, true, false, cond, not, ◌&&◌, ◌⊎◌, ℕ, zero, suc, ◌-◌, ◌≤◌, ◌<◌, eqb, length}
use Rattle.std.proofs.Common.{sym, ap₂, subst, ◌∙◌, inl, inr, arith}
use Rattle.std.proofs.Math.Path.{ap}
use Rattle.std.proofs.Math.Bool.{and-false}
use mathlib.Core.List.{List, [], ◌∷◌, ◌++◌, map-append}
use Rattle.words.specs.Store.{HasRecord, word_of}
use Rattle.words.specs.Header.{header_word, free_place}
use Rattle.sessions.specs.declared.Session.{Session}
use Rattle.scans.specs.Scans.{last_upto, entries_in}
use Rattle.marks.specs.Marks.{key_ok}
use Rattle.serial.specs.Serial.{true≢false}
use Rattle.serial.specs.Rising.{Tri, less, equal, greater}
use Rattle.serial.specs.Model.{ℕ-tri}
use Rattle.serial.specs.Calls as C
use Rattle.machine.specs.Logic.{eqb_yes, eqb_no, eqb_is}
use Rattle.machine.specs.Holders.{width}
use Rattle.machine.specs.State.{Desc, State, top, fresh}
use Rattle.machine.specs.Calls.{records_for}
use Rattle.machine.specs.Gaps.{by_tri, at_less, at_greater, reads, reads-locate, reads-update}
use Rattle.machine.specs.Gaps as G
use Rattle.machine.specs.View.{seen, holder_words, locate_word, update_word}
use Rattle.machine.specs.Order.{In}
use Rattle.machine.specs.Groups.{words, Rises}
use Rattle.machine.specs.Housekeeping.{lvs, seen-words}
use Rattle.machine.specs.Looks.{sound-ordered, ordered-rises}
use Rattle.meaning.specs.Reading.{chain, numbers, Leaf, M-of, R-of, meaning}
use Rattle.meaning.specs.Sound.{All, Sound}
use Rattle.meaning.specs.Numbers.{all_right}
use Rattle.meaning.specs.Lens.{descs, leaves-erase}
use Rattle.layout.specs.Layout.{Lay, leaves_in, members_of, undos_from, DescFits, means}
use Rattle.layout.specs.Row.{Stands}
use Rattle.layout.specs.Laid.{sound-stands}
use Rattle.layout.specs.Back.{holds-means}
use Rattle.layout.specs.Short.{free-short}
use Rattle.layout.specs.Room.{sizes-of, few-entries}
use Rattle.layout.specs.Chains.{walk-chain, has-record, Upto, upto}
use Rattle.layout.specs.Walks.{descs-fit, upto-found}
use Rattle.leaving.specs.Asking.{put-ready}
use Rattle.promises.specs.Relations.{Formats}
use Rattle.promises.specs.Runs.{lending}
use Rattle.looking.specs.Halves.{halves}
use Rattle.looking.specs.Looking.{free_count, held_at, last_of, held_of, FreeReady, KeyReady}
use Rattle.looking.specs.Told.{FreeTold, holders_word, holding, KeyTold}

-- ---- free records

as_long : (s : List ℕ) (m n i : ℕ) → length (entries_in s m n i) ≡ length (chain s m n i)
unfolding entries_in chain
as_long s m zero i = refl
as_long s m (suc n) i = go (eqb i 0) (as_long s m n (word_of s m i 0))
  where
    go : (b : Bool) → length (entries_in s m n (word_of s m i 0)) ≡ length (chain s m n (word_of s m i 0))
        → length (cond b [] (word_of s m i 2 ∷ entries_in s m n (word_of s m i 0))) ≡ length (cond b [] (i ∷ chain s m n (word_of s m i 0)))
    go true e = refl
    go false e = ap suc e

free_is : (s : List ℕ) (t : List Session) → free_count s ≡ (meaning s t).free
unfolding free_count meaning
free_is s t = as_long s (M-of s) (R-of s) (header_word s free_place)

free-ready : (s : List ℕ) (t : List Session) → Stands s t → FreeReady s
free-ready s t A =
    let L = A.lay in
    let H = A.holds in
    let Z = sizes-of L t A.sound in
    let m = M-of s in
    let X = numbers (suc L.height) L.tree in
    let Y = members_of L.members (leaves_in L) in
    let U = undos_from L.undos 1 width in
    let there = has-record s t L H (few-entries s t L H Z) in
    let free : All (HasRecord s m) L.free = all_right (HasRecord s m) U L.free (all_right (HasRecord s m) Y (U ++ L.free) (all_right (HasRecord s m) X (Y ++ (U ++ L.free)) there)) in
    record {
      header = H.fits.header;
      few = omega (arith, H.fits.records, Z.most);
      walk = walk-chain s m (header_word s free_place) L.free H.fits.free free (R-of s) (omega (arith, H.fits.records, free-short L H.owned));
    }

pub free-can : (s : List ℕ) (t : List Session) → Sound s t → FreeReady s
free-can s t A = free-ready s t (sound-stands s t A)

pub free-told : (s : List ℕ) (t : List Session) (n : ℕ) → Sound s t → n ≡ free_count s → FreeTold s t (C.done (n ∷ []))
free-told s t n A e = record { counts = λ _. ap (λ k. C.done (k ∷ [])) (e ∙ free_is s t); refuses = λ f. absurd (f A) }

-- ---- the holders of a key

-- What is read of a key in a list of descriptors (machine, specs/Gaps), where d is the last one whose key is at most k.
module _ (α : G.Desc → ℕ) (γ : ℕ → ℕ) (k : ℕ) where
  reads_none : (g hi : ℕ) (B : List Desc) → In (suc k) hi B → reads α γ g (words B) k ≡ γ g
  reads_none g hi [] i = refl
  reads_none g hi (b ∷ B) i = at_less (ℕ-tri k b.key) (γ g) (α (holder_words b)) (reads α γ b.gap (words B) k) i.0.0

  reads-last : (g lo e hi : ℕ) (A : List Desc) (d : Desc) (B : List Desc) → Rises lo e (A ++ d ∷ B) → d.key ≤ k → In (suc k) hi B
      → (lo ≤ d.key) × (reads α γ g (words (A ++ d ∷ B)) k ≡ cond (eqb d.key k) (α (holder_words d)) (γ d.gap))
  reads-last g lo e hi [] d B r h b = (r.0.0, go (ℕ-tri k d.key))
    where
      go : (t : Tri ◌<◌ k d.key) → by_tri t (γ g) (α (holder_words d)) (reads α γ d.gap (words B) k) ≡ cond (eqb d.key k) (α (holder_words d)) (γ d.gap)
      go (less q) = absurd (omega (arith, q, h))
      go (equal q) = sym (ap (λ c. cond c (α (holder_words d)) (γ d.gap)) (eqb_yes d.key k (sym q)))
      go (greater q) = reads_none d.gap hi B b ∙ sym (ap (λ c. cond c (α (holder_words d)) (γ d.gap)) (eqb_no d.key k (λ z. omega (arith, z, q))))
  reads-last g lo e hi (a ∷ A) d B r h b =
      let ih = reads-last a.gap (suc a.key) e hi A d B r.1 h b in
      (omega (arith, r.0.0, ih.0), at_greater (ℕ-tri k a.key) (γ g) (α (holder_words a)) (reads α γ a.gap (words (A ++ d ∷ B)) k) (omega (arith, ih.0, h)) ∙ ih.1)

module _ (L : Lay) (t : List Session) (k : ℕ) (U : Upto (leaves_in L) k 0 (suc top)) (r : Rises 0 (suc top) (lvs (means L t))) where
  abbrev σ : State
  σ = means L t

  abbrev A : List Desc
  A = descs U.before

  abbrev d : Desc
  d = U.leaf.desc

  abbrev B : List Desc
  B = descs U.behind

  leaves-are : lvs σ ≡ A ++ d ∷ B
  unfolding means
  leaves-are = leaves-erase (suc L.height) L.tree ∙ ap descs U.is ∙ map-append (λ x. x.desc) U.before (U.leaf ∷ U.behind)

  reads-are : (α : G.Desc → ℕ) (γ : ℕ → ℕ) → reads α γ 0 (words (seen σ)) k ≡ cond (eqb d.key k) (α (holder_words d)) (γ d.gap)
  reads-are α γ =
      ap (λ w. reads α γ 0 w k) (seen-words σ ∙ ap words leaves-are)
      ∙ (reads-last α γ k 0 0 (suc top) (suc top) A d B (subst (Rises 0 (suc top)) leaves-are r) U.at_most U.above).1

  locate-is : locate_word k (seen σ) ≡ cond (eqb d.key k) d.locate d.gap
  unfolding locate_word
  locate-is = reads-locate 0 (words (seen σ)) k ∙ reads-are (λ x. x.locate) (λ w. w)

  update-is : update_word k (seen σ) ≡ cond (eqb d.key k) d.update 0
  unfolding update_word
  update-is = reads-update 0 (words (seen σ)) k ∙ reads-are (λ x. x.update) (λ w. 0)

-- The words of the descriptor say so.
at_leaf : (s : List ℕ) (m k : ℕ) (l : Leaf) → DescFits s m l
    → held_at s m l.num k ≡ halves (cond (eqb l.desc.key k) l.desc.locate l.desc.gap) (cond (eqb l.desc.key k) l.desc.update 0)
unfolding held_at
at_leaf s m k l F = rw (F.key, F.locate, F.update, F.gap) (go (eqb l.desc.key k))
  where
    go : (b : Bool) → cond b (halves l.desc.locate l.desc.update) (halves l.desc.gap 0) ≡ halves (cond b l.desc.locate l.desc.gap) (cond b l.desc.update 0)
    go true = refl
    go false = refl

held-is : (s : List ℕ) (t : List Session) → Sound s t → (k : ℕ) → held_of s k ≡ holders_word (lending s t) k
unfolding held_of holders_word last_upto
held-is s t A k =
    let W = sound-stands s t A in
    let L = W.lay in
    let H = W.holds in
    let m = M-of s in
    let σ' = means L t in
    let U = upto L t W.sound k in
    let found : last_of s k ≡ U.leaf.num = upto-found s t L H W.sound k (λ n i. last_upto s m n i k) (record { stop = λ i. refl; next = λ n i. refl }) U in
    let F : DescFits s m U.leaf = (all_right (DescFits s m) U.before (U.leaf ∷ U.behind) (subst (All (DescFits s m)) U.is (descs-fit s t L H W.sound))).0 in
    let r = ordered-rises σ' (sound-ordered W.sound) in
    ap (λ i. held_at s m i k) found
    ∙ at_leaf s m k U.leaf F
    ∙ sym (ap₂ halves (locate-is L t k U r) (update-is L t k U r))
    ∙ ap (λ v. halves (locate_word k (seen v)) (update_word k (seen v))) (sym (holds-means s t L H))

pub key-can : (s : List ℕ) (t : List Session) (k : ℕ) → Sound s t → KeyReady s k
key-can s t k A = let P = put-ready s t (sound-stands s t A) k in record { header = P.header; follow = P.follow; found = P.found }

-- ---- the ways out of a look at a key, by the test of the key

infinities : (k : ℕ) → key_ok k ≡ false → (k ≡ 0) ⊎ (k ≡ top)
unfolding key_ok
infinities k e = go (eqb k 0) refl (eqb k top) refl e
  where
    go : (b : Bool) → eqb k 0 ≡ b → (c : Bool) → eqb k top ≡ c → (not b && not c) ≡ false → (k ≡ 0) ⊎ (k ≡ top)
    go true p c q z = inl (eqb_is k 0 p)
    go false p true q z = inr (eqb_is k top q)
    go false p false q z = absurd (true≢false refl z)

no-infinity : (k : ℕ) → key_ok k ≡ true → (k ≡ 0) ⊎ (k ≡ top) → ⊥
unfolding key_ok
no-infinity k e (inl z) = true≢false e (ap (λ b. not b && not (eqb k top)) (eqb_yes k 0 z))
no-infinity k e (inr z) = true≢false e (ap (λ b. not (eqb k 0) && not b) (eqb_yes k top z) ∙ and-false (not (eqb k 0)))

pub key-told : (s : List ℕ) (t : List Session) (k : ℕ) {b : Bool} {w : ℕ} → Sound s t → b ≡ key_ok k → b ≡ true → w ≡ held_of s k → KeyTold k s t (C.done (w ∷ []))
key-told s t k A i e q = record {
  infinite = λ z. absurd (no-infinity k (sym i ∙ e) z);
  holds = λ n m. (ap (λ v. C.done (v ∷ [])) (q ∙ held-is s t A k), holding (lending s t) k);
}

pub key-refused : (s : List ℕ) (t : List Session) (k : ℕ) {b : Bool} → b ≡ key_ok k → b ≡ false → KeyTold k s t (C.refused 9 0)
key-refused s t k i e = record { infinite = λ z. refl; holds = λ n m. absurd (go (infinities k (sym i ∙ e)) n m) }
  where
    go : (k ≡ 0) ⊎ (k ≡ top) → ¬ (k ≡ 0) → ¬ (k ≡ top) → ⊥
    go (inl z) n m = n z
    go (inr z) n m = m z

-- ---- a fresh store

-- As an accepted format leaves it: all are free but the root and key 0's.
pub fresh-free : (m : ℕ) (s s' : List ℕ) (t t' : List Session) → Formats m s t C.ok s' t' → (a : C.Answer) → FreeTold s' t' a → a ≡ C.done ((records_for m (length s) - 2) ∷ [])
unfolding fresh
fresh-free m s s' t t' F a T = T.counts (F.accepts refl).0 ∙ ap (λ v. C.done (v.free ∷ [])) (F.accepts refl).1
