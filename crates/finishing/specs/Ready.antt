-- Where words hold a layout, a request in hand can end: the records that its session record names are in the store, pinned.
use Rattle.std.specs.Prelude.{◌≡◌, Bool, true, false, cond, List, [], ◌∷◌, ◌++◌, ℕ, suc, ◌+◌, ◌-◌, ◌≤◌, eqb}
use Rattle.std.proofs.Math.Path.{refl, sym, ap}
use Rattle.std.proofs.Common.{subst, ◌∙◌, arith, eq-eqb, ne_eqb}
use Rattle.std.proofs.lemmas.List.{map-append}
use Rattle.words.specs.Store.{word_of}
use Rattle.groups.specs.Descriptor.{descriptor_at}
use Rattle.serial.specs.Serial.{true≢false}
use Rattle.sessions.specs.declared.Session.{Session}
use Rattle.sessions.specs.Sessions.{session_at}
use Rattle.machine.specs.Logic.{eqb_yes}
use Rattle.machine.specs.Holders.{width}
use Rattle.machine.specs.State.{Request, State, idle, session_of, pin_desc}
use Rattle.machine.specs.Steps.{pinned, unpin}
use Rattle.machine.specs.Sound as S
use Rattle.machine.specs.Sound.{times, pins_in, pins_by, of_hand}
use Rattle.machine.specs.Table.{hand-seat}
use Rattle.machine.specs.Totals.{total-least}
use Rattle.machine.specs.Housekeeping.{Ordered, lvs}
use Rattle.machine.specs.Looks.{pins-at, pinned-stored, kept_at, put-pins-other}
use Rattle.meaning.specs.Reading.{M-of}
use Rattle.meaning.specs.Sound.{All, pins_first}
use Rattle.meaning.specs.Numbers.{all_right, times-append}
use Rattle.meaning.specs.Lens.{descs, leaves_before, leaves_behind, leaves-erase}
use Rattle.layout.specs.Layout.{Lay, leaves_in, DescFits, Has, Holds, means}
use Rattle.layout.specs.Back.{descs-fit}
use Rattle.layout.specs.Places.{AtKey}
use Rattle.layout.specs.Ordering.{Rising, key_in}
use Rattle.layout.specs.Puts.{desc-pins}
use Rattle.layout.specs.Room.{Sizes}
use Rattle.layout.specs.Asked.{request_in, hand-means}
use Rattle.layout.specs.DescRows.{key_has}
use Rattle.members.specs.Members.{Pinned}
use Rattle.finishing.specs.Finishing.{LowEnds, HighEnds, Endable, end_low, latch-none}
use Rattle.finishing.specs.Ended.{lows, highs, stage_is, pins-are, low-left, first_code}

-- ---- pins in a layout

-- How many pins the descriptor of a key has in a layout.
abbrev pub pins_of : Lay → ℕ → ℕ
pins_of L k = pins_in k (descs (leaves_in L))

pub pins-mean : (L : Lay) (t : List Session) (k : ℕ) → pins_in k (lvs (means L t)) ≡ pins_of L k
unfolding means
pins-mean L t k = ap (pins_in k) (leaves-erase (suc L.height) L.tree)

-- The descriptors that a session record names are there, pinned.
pub record PinsIn (L : Lay) (x : Session) : Type 0 where
  pub low : pins_first x ≡ true → Has x.first x.low (leaves_in L)
  pub low_pins : pins_first x ≡ true → 1 ≤ pins_of L x.first
  pub high : x.stage ≡ 5 → ¬ (x.first ≡ x.second) → Has x.second x.high (leaves_in L)
  pub high_pins : x.stage ≡ 5 → ¬ (x.first ≡ x.second) → 1 ≤ pins_of L x.second

-- In another layout with the same descriptors and pins.
pub pins-kept : (L L' : Lay) (x : Session) → ((k d : ℕ) → Has k d (leaves_in L) → Has k d (leaves_in L')) → ((k : ℕ) → pins_of L k ≤ pins_of L' k) → PinsIn L x → PinsIn L' x
pins-kept L L' x has same P = record {
  low = λ e. has x.first x.low (P.low e);
  low_pins = λ e. omega (arith, P.low_pins e, same x.first);
  high = λ e n. has x.second x.high (P.high e n);
  high_pins = λ e n. omega (arith, P.high_pins e n, same x.second);
}

-- The words of a descriptor that has a pin.
pub pinned-at : (s : List ℕ) (t : List Session) (L : Lay) → Holds s t L → Sizes L → Rising L → (m : ℕ) → M-of s ≡ m → (k d : ℕ) → Has k d (leaves_in L) → 1 ≤ pins_of L k → Pinned s m d
pinned-at s t L H Z o m e k d h p = subst (λ n. Pinned s n d) e record { has = key_has s t L H Z k d A; pinned = subst (λ n. 1 ≤ n) (sym word) p }
  where
    A : AtKey L k d
    A = key_in L o k d h

    fits : DescFits s (M-of s) A.leaf
    fits = (all_right (DescFits s (M-of s)) (leaves_before A.around) (A.leaf ∷ leaves_behind A.around) (subst (All (DescFits s (M-of s))) A.was (descs-fit s t L H))).0

    parts : descs (leaves_in L) ≡ descs (leaves_before A.around) ++ A.leaf.desc ∷ descs (leaves_behind A.around)
    parts = ap descs A.was ∙ map-append (λ l. l.desc) (leaves_before A.around) (A.leaf ∷ leaves_behind A.around)

    count : pins_of L k ≡ A.leaf.desc.pins
    count = ap (pins_in k) parts ∙ pins-at k 0 A.leaf.desc A.key (descs (leaves_before A.around)) (descs (leaves_behind A.around)) A.below

    word : (descriptor_at s (M-of s) d).pins ≡ pins_of L k
    word = desc-pins s (M-of s) d ∙ ap (λ i. word_of s (M-of s) i 5) (sym A.num) ∙ fits.pins ∙ sym count

-- ---- one pin less leaves those of other keys

ordered-means : (L : Lay) (t : List Session) → Rising L → Ordered (means L t)
unfolding means Ordered
ordered-means L t o = o

lows-other : (s : State) → Ordered s → (x : Session) → (pins_first x ≡ true → 1 ≤ pins_in x.first (lvs s)) → (j : ℕ) → ¬ (x.first ≡ j)
    → pins_in j (lvs (unpin (lows x) s)) ≡ pins_in j (lvs s)
unfolding lows unpin
lows-other s o x h j n = go (pins_first x) h
  where
    go : (b : Bool) → (b ≡ true → 1 ≤ pins_in x.first (lvs s)) → pins_in j (lvs (unpin (cond b (x.first ∷ []) []) s)) ≡ pins_in j (lvs s)
    go true f = put-pins-other x.first s (kept_at x.first s o (pinned-stored x.first (lvs s) (f refl))) (pin_desc (λ i. i - 1)) refl j n
    go false f = refl

-- Both pins can go, one after the other.
module _ (s : List ℕ) (t : List Session) (L : Lay) (H : Holds s t L) (Z : Sizes L) (o : Rising L) (m : ℕ) (e : M-of s ≡ m) (x : Session) (P : PinsIn L x) where
  pub low-ready : LowEnds s m x
  low-ready f = pinned-at s t L H Z o m e x.first x.low (P.low f) (P.low_pins f)

  pub high-ready : HighEnds (end_low s m x) m x
  high-ready f n =
      let A = low-left s t L H Z o m e x P.low in
      let same = lows-other (means L t) (ordered-means L t o) x (λ g. subst (λ i. 1 ≤ i) (sym (pins-mean L t x.first)) (P.low_pins g)) x.second n in
      let q : pins_of A.lay x.second ≡ pins_of L x.second = sym (pins-mean A.lay t x.second) ∙ ap (λ z. pins_in x.second (lvs z)) (A.is t) ∙ same ∙ pins-mean L t x.second in
      pinned-at (end_low s m x) t A.lay A.holds A.sizes A.rising m (A.written.entries ∙ e) x.second x.high (A.has x.second x.high (P.high f n))
      (subst (λ i. 1 ≤ i) (sym q) (P.high_pins f n))

  -- A request that has no latch can end, also after changes that leave its pins.
  pub end-ready-after : ¬ (x.stage ≡ 3) → Endable s m x
  end-ready-after n =
      let i = latch-none s m x n in
      record { node = λ f. absurd (n f); low = subst (λ z. LowEnds z m x) i low-ready; high = subst (λ z. HighEnds (end_low z m x) m x) i high-ready }

-- ---- the pins of a request in hand

lows-times : (b : Bool) (k : ℕ) (l : List ℕ) → b ≡ true → 1 ≤ times k (cond b (k ∷ []) [] ++ l)
lows-times true k l e = omega (arith, ap (λ c. cond c 1 0 + times k l) (eqb_yes k k refl))
lows-times false k l e = absurd (true≢false e refl)

highs-times : (a b : Bool) (k : ℕ) (l : List ℕ) → a ≡ true → b ≡ false → 1 ≤ times k (l ++ cond a (cond b [] (k ∷ [])) [])
highs-times true true k l e f = absurd (true≢false refl f)
highs-times true false k l e f = omega (arith, times-append k l (k ∷ []), ap (λ c. cond c 1 0 + 0) (eqb_yes k k refl))
highs-times false b k l e f = absurd (true≢false e refl)

module _ (s : List ℕ) (t : List Session) (L : Lay) (H : Holds s t L) (sound : S.Sound (means L t)) (p : ℕ) (l : p ≤ width) (n : ¬ ((session_at t p).stage ≡ 0)) where
  abbrev x : Session
  x = session_at t p

  hand-pins : (k : ℕ) → times k (lows x ++ highs x) ≤ pins_of L k
  unfolding session_of request_in
  hand-pins k =
      let r = request_in x in
      let h = hand-means L t p (omega (arith, l, H.seats)) n in
      let b = total-least (pins_by k) (means L t).table p idle (hand-seat p r (means L t) h) in
      let c = ap (of_hand 0 (λ (q : Request). times k (pinned q q.stage))) h in
      let d = ap (times k) (pins-are x (stage_is x.stage n (H.hands p l).stage) (first_code s t L H sound p l n)) in
      omega (arith, sound.pins_match k, b, c, d, pins-mean L t k)

  pub pins-in-hand : PinsIn L x
  unfolding lows highs
  pins-in-hand = record {
    low = (H.hands p l).low n;
    low_pins = λ e. omega (arith, hand-pins x.first, lows-times (pins_first x) x.first (highs x) e);
    high = (H.hands p l).high;
    high_pins = λ e d. omega (arith, hand-pins x.second, highs-times (eqb x.stage 5) (eqb x.first x.second) x.second (lows x) (eq-eqb x.stage 5 e) (ne_eqb x.first x.second d));
  }
