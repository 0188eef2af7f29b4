-- A descriptor with no pins and no update holders is named by no session record and by no undo record.
use Rattle.std.specs.Prelude.{◌≡◌, true, false, ℕ, zero, suc, ◌≤◌, length, get_or}
use Rattle.std.proofs.Math.Path.{refl, ap, subst}
use Rattle.std.proofs.Common.{sym, ◌∙◌, arith}
use Rattle.std.proofs.Math.Bool.{cond}
use mathlib.Core.List.{List, [], ◌∷◌, ◌++◌, map, map-append}
use Rattle.std.proofs.Math.Option.{some}
use borrow.Author.Tests.{eq-eqb, ne_eqb}
use Rattle.sessions.specs.declared.Session.{Session}
use Rattle.sessions.specs.Sessions.{session_at}
use Rattle.serial.specs.Locks.{strong}
use Rattle.serial.specs.Locks as LK
use Rattle.serial.specs.Serial.{true≢false}
use Rattle.machine.specs.Bits.{holds-none}
use Rattle.machine.specs.Holders.{width, holds}
use Rattle.machine.specs.State.{Undo, value, added, taken, State, start, idle, session_of}
use Rattle.machine.specs.Steps.{pinned}
use Rattle.machine.specs.Sound as S
use Rattle.machine.specs.Sound.{times, total, pins_by, of_hand, pins_in, Undoable, Cells, set_cell}
use Rattle.machine.specs.View.{update_word, seen, holders}
use Rattle.machine.specs.Groups.{words}
use Rattle.machine.specs.Gaps.{updaters}
use Rattle.machine.specs.Order.{In}
use Rattle.machine.specs.Keys.{update-at}
use Rattle.machine.specs.Looks.{pins-at}
use Rattle.machine.specs.Housekeeping.{lvs, seen-words}
use Rattle.meaning.specs.Reading.{Leaf, stage_of}
use Rattle.meaning.specs.Sound.{Lists, set_list, pins_first}
use Rattle.meaning.specs.Numbers.{times-append, one-is}
use Rattle.meaning.specs.Lens.{descs, leaves-erase}
use Rattle.layout.specs.Layout.{Lay, Undone, leaves_in, Has, NamedAs, Named, means}
use Rattle.layout.specs.Asked.{request_in, hand-means}
use Rattle.finishing.specs.Ended.{stage_is, lows, highs, pins-are}

-- ---- the stored descriptors

pub lvs-are : (L : Lay) (t : List Session) (A : List Leaf) (l : Leaf) (B : List Leaf) → leaves_in L ≡ A ++ l ∷ B → lvs (means L t) ≡ descs A ++ l.desc ∷ descs B
unfolding means
lvs-are L t A l B e = leaves-erase (suc L.height) L.tree ∙ ap descs e ∙ map-append (λ z. z.desc) A (l ∷ B)

-- ---- update holders

-- No session holds the key in update mode.
pub unheld : (L : Lay) (t : List Session) (x : ℕ) (A : List Leaf) (l : Leaf) (B : List Leaf) → leaves_in L ≡ A ++ l ∷ B → In 0 x (descs A) → l.desc.key ≡ x → l.desc.update ≡ 0
    → (p : ℕ) → holders (means L t) LK.group strong p x ≡ true → ⊥
unfolding update_word
unheld L t x A l B e low k z p h =
    let w : updaters (words (seen (means L t))) x ≡ 0 =
    ap (λ c. updaters c x) (seen-words (means L t) ∙ ap words (lvs-are L t A l B e)) ∙ update-at x 0 l.desc k (descs A) (descs B) low ∙ z in
    true≢false h (ap (λ v. holds v p) w ∙ holds-none p)

-- What undo records name stays named, where they name only keys that their session holds.
pub named-held : (s : State) (q : ℕ) (ls ls' : List Leaf) → ((k d : ℕ) → holders s LK.group strong q k ≡ true → Has k d ls → Has k d ls')
    → (us : List Undone) (g : Lists) (c : Cells) → Undoable q s (map (λ u. u.undo) us) c → Named ls us g → Named ls' us g
named-held s q ls ls' h [] g c u f = tt
named-held s q ls ls' h (y ∷ us) g c u f = go y.undo (named-held s q ls ls' h us) u f
  where
    go : (x : Undo) → ((g : Lists) (c : Cells) → Undoable q s (map (λ u. u.undo) us) c → Named ls us g → Named ls' us g)
        → Undoable q s (x ∷ map (λ u. u.undo) us) c → NamedAs ls (Named ls us) g y.num y.saved y.descriptor x → NamedAs ls' (Named ls' us) g y.num y.saved y.descriptor x
    go (value e v) ih u f = ih g c u.2 f
    go (added e k) ih u f = (h k y.descriptor u.0.group-held f.0, f.1, ih (set_list y.descriptor e 0 g) (set_cell k e false c) u.2 f.2)
    go (taken e k) ih u f = (h k y.descriptor u.0.group-held f.0, ih (set_list y.descriptor e y.num g) (set_cell k e true c) u.2 f.1)

-- ---- pins

total-none : {A : Type 0} (f : A → ℕ) (z : A) → f z ≡ 0 → (l : List A) → total f l ≡ 0 → (q : ℕ) → f (get_or l q z) ≡ 0
total-none f z e [] n q = e
total-none f z e (y ∷ l) n zero = omega (arith, n)
total-none f z e (y ∷ l) n (suc q) = total-none f z e l (omega (arith, n)) q

-- No request in hand pins the key.
pub unpinned : (L : Lay) (t : List Session) → S.Sound (means L t) → (x : ℕ) (A : List Leaf) (l : Leaf) (B : List Leaf) → leaves_in L ≡ A ++ l ∷ B → In 0 x (descs A) → l.desc.key ≡ x
    → l.desc.pins ≡ 0 → (q : ℕ) → pins_by x (session_of q (means L t)) ≡ 0
unfolding session_of
unpinned L t S x A l B e low k z q =
    let w = sym (S.pins_match x) ∙ ap (pins_in x) (lvs-are L t A l B e) ∙ pins-at x 0 l.desc k (descs A) (descs B) low ∙ z in
    total-none (pins_by x) idle refl (means L t).table w q

module _ (L : Lay) (t : List Session) (n : length t ≡ suc width) (sound : S.Sound (means L t)) (q : ℕ) (l : q ≤ width) (live : ¬ ((session_at t q).stage ≡ 0)) (most : (session_at t q).stage ≤ 5) where
  abbrev y : Session
  y = session_at t q

  hand-now : (session_of q (means L t)).hand ≡ some (request_in (session_at t q))
  hand-now = hand-means L t q (omega (arith, n, l)) live

  first_code : y.stage ≡ 1 → ¬ (y.code ≡ 5)
  unfolding request_in
  first_code e =
      let g : stage_of y ≡ start = rw (eq-eqb y.stage 1 e) refl in
      subst (λ g. S.Stands q (means L t) (request_in y) g) g (sound.standing q (request_in y) hand-now)

  -- Its pins by the words of its session record.
  pub pins-now : (x : ℕ) → pins_by x (session_of q (means L t)) ≡ times x (lows y ++ highs y)
  unfolding request_in
  pins-now x = ap (of_hand 0 (λ r. times x (pinned r r.stage))) hand-now ∙ ap (times x) (pins-are y (stage_is y.stage live most) first_code)

  pub low-other : (x : ℕ) → pins_by x (session_of q (means L t)) ≡ 0 → pins_first y ≡ true → ¬ (x ≡ y.first)
  unfolding lows
  low-other x z e k =
      let a : lows y ≡ y.first ∷ [] = ap (λ b. cond b (y.first ∷ []) []) e in
      omega (arith, z, pins-now x, times-append x (lows y) (highs y), ap (times x) a, one-is y.first x (sym k))

  pub high-other : (x : ℕ) → pins_by x (session_of q (means L t)) ≡ 0 → y.stage ≡ 5 → ¬ (y.first ≡ y.second) → ¬ (x ≡ y.second)
  unfolding highs
  high-other x z e ne k =
      let a : highs y ≡ y.second ∷ [] = rw (eq-eqb y.stage 5 e, ne_eqb y.first y.second ne) refl in
      omega (arith, z, pins-now x, times-append x (lows y) (highs y), ap (times x) a, one-is y.second x (sym k))
