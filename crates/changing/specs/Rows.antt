-- The last step of an insert or remove, on words that hold a layout of a sound state, is the machine's.
use Rattle.std.specs.Prelude.{◌≡◌, Bool, cond, eqb, leb}
use Rattle.std.proofs.Math.Path.{refl, sym, ap, subst}
use Rattle.std.proofs.Common.{◌∙◌, arith}
use Rattle.std.proofs.Math.Bool.{true, false}
use mathlib.Core.List.{List, [], ◌∷◌}
use Rattle.std.proofs.Math.Option.{some}
use Prim.Native.Nat.{ℕ, zero, suc, ◌≤◌}
use Rattle.std.proofs.Math.Decide.{ℕ_discrete}
use Rattle.std.proofs.Math.ListN.{length}
use borrow.Author.Tests.{eq-eqb, ne_eqb}
use Rattle.words.specs.Store.{word_of}
use Rattle.words.specs.Header.{header_word, free_place}
use Rattle.groups.specs.Descriptor.{descriptor_at}
use Rattle.sessions.specs.declared.Session.{Session}
use Rattle.sessions.specs.Sessions.{session_at}
use Rattle.serial.specs.Serial.{true≢false}
use Rattle.serial.specs.Locks.{strong}
use Rattle.serial.specs.Locks as K
use Rattle.machine.specs.Logic.{leb_yes, leb_no}
use Rattle.machine.specs.Holders.{width}
use Rattle.machine.specs.State.{change, session_of}
use Rattle.machine.specs.Sound as S
use Rattle.meaning.specs.Reading.{Chained, Leaf, hand_of, M-of, R-of}
use Rattle.meaning.specs.Sound.{All}
use Rattle.meaning.specs.Numbers.{all_right}
use Rattle.meaning.specs.Lens.{leaves_before, leaves_behind}
use Rattle.layout.specs.Layout.{Lay, Undone, firsts, DescFits, GroupFits, member_of, means, session_in}
use Rattle.layout.specs.Row.{Stands}
use Rattle.layout.specs.Asked.{request_in, hand_in}
use Rattle.layout.specs.Places.{AtKey, at_key, session-means}
use Rattle.layout.specs.Puts.{desc-first}
use Rattle.layout.specs.Ordering.{Rising, rising-of}
use Rattle.layout.specs.Room.{Sizes, sizes-of}
use Rattle.layout.specs.Short.{members-short}
use Rattle.scans.specs.Scans.{membership_of}
use Rattle.changing.specs.Changing.{has_two}
use Rattle.changing.specs.Naming.{undo_entry, others-entries, member-walk}
use Rattle.changing.specs.Logged.{group-was, desc-was}

many-firsts : (c : List (ℕ × ℕ)) → length (firsts c) ≡ length c
many-firsts [] = refl
many-firsts (q ∷ c) = ap suc (many-firsts c)

hand-either : (u : ℕ → List Undone) (p : ℕ) (x : Session) → (session_in u p x).hand ≡ hand_of x
hand-either u zero x = refl
hand-either u (suc p) x = refl

-- Whether two records are free.
pub two-free : (s : List ℕ) (m : ℕ) (f : List ℕ) → Chained s m (header_word s free_place) f → has_two s m ≡ leb 2 (length f)
unfolding has_two
two-free s m [] c =
    ap (λ (b : Bool). cond b false (cond (eqb (word_of s m (header_word s free_place) 0) 0) false true)) (eq-eqb (header_word s free_place) 0 c) ∙ sym (leb_no 2 0 (omega arith))
two-free s m (a ∷ []) c =
    ap (λ (b : Bool). cond b false (cond (eqb (word_of s m (header_word s free_place) 0) 0) false true)) (ne_eqb (header_word s free_place) 0 c.1)
    ∙ ap (λ (b : Bool). cond b false true) (eq-eqb (word_of s m (header_word s free_place) 0) 0 c.2) ∙ sym (leb_no 2 1 (omega arith))
two-free s m (a ∷ b ∷ f) c =
    ap (λ (b : Bool). cond b false (cond (eqb (word_of s m (header_word s free_place) 0) 0) false true)) (ne_eqb (header_word s free_place) 0 c.1)
    ∙ ap (λ (b : Bool). cond b false true) (ne_eqb (word_of s m (header_word s free_place) 0) 0 c.2.1) ∙ sym (leb_yes 2 (suc (suc (length f))) (omega arith))

-- ---- the request

module _ (s : List ℕ) (t : List Session) (A : Stands s t) (p : ℕ) (party : p ≤ width) (stage : (session_at t p).stage ≡ 4) where
  abbrev own : Session
  own = session_at t p

  pub in_hand : (session_of p (means A.lay t)).hand ≡ some (request_in own)
  in_hand =
      ap (λ z. z.hand) (session-means A.lay t p (omega (arith, party, A.holds.seats))) ∙ hand-either A.lay.undos p own ∙ hand_in own (λ z. omega (arith, z, stage))

  pub in-change : (request_in own).stage ≡ change
  unfolding request_in
  in-change =
      rw (ne_eqb own.stage 1 (λ z. omega (arith, z, stage)), ne_eqb own.stage 2 (λ z. omega (arith, z, stage)), ne_eqb own.stage 3 (λ z. omega (arith, z, stage)), eq-eqb own.stage 4 stage) refl

  pub changing : S.Changing p (means A.lay t) (request_in own)
  changing = subst (λ g. S.Stands p (means A.lay t) (request_in own) g) in-change (A.sound.standing p (request_in own) in_hand)

  pub is-session : 1 ≤ p
  is-session = go (ℕ_discrete p 0)
    where
      go : Dec (p ≡ 0) → 1 ≤ p
      go (yes z) = absurd (true≢false (A.sound.only_begun K.entry strong p (request_in own).entry changing.excludes) (subst (λ q. (session_of q (means A.lay t)).begun ≡ false) (sym z) A.sound.zero_unmarked))
      go (no n) = omega (arith, n)

  pub at_low : AtKey A.lay own.first own.low
  at_low = at_key A.lay t A.sound own.first own.low ((A.holds.hands p party).low (λ z. omega (arith, z, stage)) (rw (eq-eqb own.stage 4 stage) refl))

-- ---- the rows of session p + 1

module _ (s : List ℕ) (t : List Session) (A : Stands s t) (p : ℕ) (party : suc p ≤ width) (stage : (session_at t (suc p)).stage ≡ 4) where
  abbrev pub x : Session
  x = session_at t (suc p)

  abbrev pub L : Lay
  L = A.lay

  abbrev pub m : ℕ
  m = M-of s

  abbrev pub k : ℕ
  k = x.first

  abbrev pub e : ℕ
  e = x.entry

  pub P : AtKey L k x.low
  P = at_low s t A (suc p) party stage

  abbrev pub l : Leaf
  l = P.leaf

  abbrev pub c : List (ℕ × ℕ)
  c = L.members l.num

  pub Z : Sizes L
  Z = sizes-of L t A.sound

  pub o : Rising L
  o = rising-of L t A.sound

  pub G : GroupFits s m c l
  G = group-was s t L A.holds Z o k x.low P p party

  pub D : DescFits s m l
  D = desc-was s t L A.holds Z o k x.low P p party

  pub off : (q : ℕ) → suc q ≤ width → ¬ (suc q ≡ suc p) → All (λ u. ¬ (undo_entry u.undo ≡ e)) (L.undos (suc q))
  unfolding request_in
  off = others-entries L t A.holds.seats A.sound (suc p) e (changing s t A (suc p) party stage).excludes

  short : length c ≤ R-of s
  short =
      let a = (all_right (λ z. length (firsts (L.members z.num)) ≤ L.records) (leaves_before P.around) (l ∷ leaves_behind P.around)
      (subst (All (λ z. length (firsts (L.members z.num)) ≤ L.records)) P.was (members-short L A.holds.owned))).0 in
      omega (arith, a, many-firsts c, A.holds.fits.records)

  -- The entry's membership, as it is found.
  pub found : membership_of s m (R-of s) (descriptor_at s m l.num).first e ≡ member_of e c
  found = ap (λ i. membership_of s m (R-of s) i e) (desc-first s m l.num) ∙ member-walk s m e (word_of s m l.num 6) c (R-of s) G.chained G.entries short
