-- Who is in the way of a long lock, as the lock words say it and as the machine says it: the two lists are the same, where no bit beyond the sessions is set.
-- In a sound state no such bit is set.
use Rattle.std.specs.Prelude.{◌≡◌, Bool, true, false, cond, not, ◌&&◌, ◌||◌, List, [], ◌∷◌, ◌++◌, ℕ, zero, suc, ◌+◌, ◌-◌, ◌≤◌, ◌<◌, eqb, length, get_or}
use Rattle.std.proofs.Math.Path.{refl, ap}
use Rattle.std.proofs.Common.{sym, ap₂, subst, ◌∙◌, arith}
use Rattle.std.proofs.Math.Bool.{and-false}
use Rattle.std.proofs.lemmas.List.{map-append}
use Rattle.sessions.specs.declared.Session.{Session}
use Rattle.serial.specs.Serial.{true≢false}
use Rattle.serial.specs.Locks.{Kind, Mode, weak, strong}
use Rattle.serial.specs.Locks as K
use Rattle.locks.specs.Rule.{agrees_of}
use Rattle.locks.specs.Holders as W
use Rattle.locks.specs.Holders.{word_bits, first_of}
use Rattle.locks.specs.Lists.{same-passing, first-none}
use Rattle.locks.specs.Blockers.{conflicts-holders}
use Rattle.machine.specs.Holders.{width, holds, count_from, filter, in_the_way, blockers}
use Rattle.machine.specs.State.{Desc, State, idle, entry_of, session_of}
use Rattle.machine.specs.Steps.{rule}
use Rattle.machine.specs.Gaps.{locators, updaters, gaps, reads-locate, reads-gap}
use Rattle.machine.specs.View.{seen, locate_word, update_word}
use Rattle.machine.specs.Sound.{Sound, gap_word}
use Rattle.machine.specs.Order as O
use Rattle.machine.specs.Groups.{words}
use Rattle.machine.specs.Housekeeping.{lvs, seen-words}
use Rattle.machine.specs.Keys.{reads_at, update-at}
use Rattle.meaning.specs.Lens.{descs, leaves_before, leaves_behind, leaves-erase}
use Rattle.layout.specs.Layout.{Lay, leaves_in, means}
use Rattle.layout.specs.Places.{AtKey}

-- ---- the two lists

-- Kinds and modes by their numbers in the lock words.
abbrev pub kind_number : Kind → ℕ
kind_number K.entry = 0
kind_number K.group = 1

abbrev pub mode_number : Mode → ℕ
mode_number weak = 0
mode_number strong = 1

-- No party beyond the sessions holds.
abbrev pub Narrow : ℕ → Type 0
Narrow w = (t : ℕ) → width < t → holds w t ≡ false

same-rule : (k : Kind) (n m : Mode) → agrees_of (kind_number k) (mode_number n) (mode_number m) ≡ rule k n m
unfolding agrees_of
same-rule K.entry weak weak = refl
same-rule K.entry weak strong = refl
same-rule K.entry strong weak = refl
same-rule K.entry strong strong = refl
same-rule K.group weak weak = refl
same-rule K.group weak strong = refl
same-rule K.group strong weak = refl
same-rule K.group strong strong = refl

same_way : (k : Kind) (m : Mode) (p hw hs t : ℕ) → W.in_the_way (kind_number k) (mode_number m) p hw hs t ≡ in_the_way rule k m p hw hs t
same_way k m p hw hs t = ap₂ (λ a b. not (eqb t p) && ((holds hw t && not a) || (holds hs t && not b))) (same-rule k weak m) (same-rule k strong m)

nobody-from : (f : ℕ → Bool) (k n : ℕ) → ((t : ℕ) → k ≤ t → f t ≡ false) → filter f (count_from k n) ≡ []
nobody-from f k zero h = refl
nobody-from f k (suc n) h = ap (λ b. cond b (k ∷ filter f (count_from (suc k) n)) (filter f (count_from (suc k) n))) (h k (omega arith)) ∙ nobody-from f (suc k) n (λ t l. h t (omega arith))

-- The first n numbers are enough.
nobody-more : (f : ℕ → Bool) (k n m : ℕ) → ((t : ℕ) → k + n ≤ t → f t ≡ false) → filter f (count_from k (n + m)) ≡ filter f (count_from k n)
nobody-more f k zero m h = let e : 0 + m ≡ m = omega arith in ap (λ i. filter f (count_from k i)) e ∙ nobody-from f k m (λ t l. h t (omega arith))
nobody-more f k (suc n) m h =
    let e : suc n + m ≡ suc (n + m) = omega arith in
    ap (λ i. filter f (count_from k i)) e
    ∙ ap (λ l. cond (f k) (k ∷ l) l) (nobody-more f (suc k) n m (λ t l. h t (omega arith)))

pub same-blockers : (k : Kind) (m : Mode) (p hw hs : ℕ) → Narrow hw → Narrow hs → W.blockers word_bits (kind_number k) (mode_number m) p hw hs ≡ blockers rule k m p hw hs
unfolding W.blockers blockers
same-blockers k m p hw hs a b =
    same-passing (W.in_the_way (kind_number k) (mode_number m) p hw hs) (in_the_way rule k m p hw hs) 1 word_bits (λ t l. same_way k m p hw hs t)
    ∙ nobody-more (in_the_way rule k m p hw hs) 1 width (word_bits - width) (λ t l. far t (omega arith))
  where
    far : (t : ℕ) → width < t → in_the_way rule k m p hw hs t ≡ false
    far t l = ap₂ (λ x y. not (eqb t p) && ((x && not (rule k weak m)) || (y && not (rule k strong m)))) (a t l) (b t l) ∙ and-false (not (eqb t p))

-- The sessions of the word of conflicts are the machine's list.
pub same-conflicts : (k : Kind) (m : Mode) (p hw hs : ℕ) → W.holders width (W.conflicts (kind_number k) (mode_number m) p hw hs) ≡ blockers rule k m p hw hs
unfolding W.blockers blockers
same-conflicts k m p hw hs =
    conflicts-holders width (kind_number k) (mode_number m) p hw hs
    ∙ same-passing (W.in_the_way (kind_number k) (mode_number m) p hw hs) (in_the_way rule k m p hw hs) 1 width (λ t l. same_way k m p hw hs t)

-- ---- the answer of lowest_blocker

-- The lowest session in the way, 0 if none is.
unfoldable pub lowest_in : Kind → Mode → ℕ → ℕ → ℕ → ℕ
lowest_in k m p hw hs = first_of (W.blockers word_bits (kind_number k) (mode_number m) p hw hs)

module _ (k : Kind) (m : Mode) (p hw hs : ℕ) (a : Narrow hw) (b : Narrow hs) where
  -- It is the first of those in the way.
  pub lowest-same : lowest_in k m p hw hs ≡ first_of (blockers rule k m p hw hs)
  unfolding lowest_in
  lowest-same = ap first_of (same-blockers k m p hw hs a b)

  -- It is 0 exactly if nobody is in the way.
  pub lowest-none : lowest_in k m p hw hs ≡ 0 → blockers rule k m p hw hs ≡ []
  unfolding blockers
  lowest-none e = first-none (in_the_way rule k m p hw hs) 1 width (omega arith) (sym lowest-same ∙ e)

-- ---- in a sound state no bit beyond the sessions is set

get_d_beyond : {X : Type 0} (l : List X) (i : ℕ) (d : X) → length l ≤ i → get_or l i d ≡ d
get_d_beyond [] i d h = refl
get_d_beyond (x ∷ l) zero d h = absurd (omega (arith, h))
get_d_beyond (x ∷ l) (suc i) d h = get_d_beyond l i d (omega (arith, h))

beyond-idle : (s : State) → Sound s → (p : ℕ) → width < p → (session_of p s).begun ≡ false
unfolding session_of
beyond-idle s A p l = ap (λ x. x.begun) (get_d_beyond s.table p idle (omega (arith, A.seats, l)))

only-true : (b : Bool) → (b ≡ true → ⊥) → b ≡ false
only-true true f = absurd (f refl)
only-true false f = refl

module _ (s : State) (A : Sound s) where
  pub share-narrow : (e : ℕ) → Narrow (entry_of e s).share
  share-narrow e t l = only-true (holds (entry_of e s).share t) (λ h. true≢false (A.only_begun K.entry weak t e h) (beyond-idle s A t l))

  pub exclusive-narrow : (e : ℕ) → Narrow (entry_of e s).exclusive
  exclusive-narrow e t l = only-true (holds (entry_of e s).exclusive t) (λ h. true≢false (A.only_begun K.entry strong t e h) (beyond-idle s A t l))

  -- A stored descriptor, behind lower keys.
  module _ (C B : List Desc) (d : Desc) (is : lvs s ≡ C ++ d ∷ B) (low : O.In 0 d.key C) where
    is-words : words (seen s) ≡ words (C ++ d ∷ B)
    is-words = seen-words s ∙ ap words is

    locate-is : locate_word d.key (seen s) ≡ d.locate
    unfolding locate_word
    locate-is =
        ap (λ w. locators 0 w d.key) is-words ∙ reads-locate 0 (words (C ++ d ∷ B)) d.key ∙ reads_at (λ x. x.locate) (λ w. w) d.key 0 d refl 0 C B low

    update-is : update_word d.key (seen s) ≡ d.update
    unfolding update_word
    update-is = ap (λ w. updaters w d.key) is-words ∙ update-at d.key 0 d refl C B low

    gap_is : gap_word d.key (seen s) ≡ d.gap
    unfolding gap_word
    gap_is = ap (λ w. gaps 0 w d.key) is-words ∙ reads-gap 0 (words (C ++ d ∷ B)) d.key ∙ reads_at (λ x. x.gap) (λ w. w) d.key 0 d refl 0 C B low

    pub locate-narrow : Narrow d.locate
    locate-narrow t l =
        only-true (holds d.locate t)
        (λ h. true≢false (A.only_begun K.group weak t d.key (ap (λ w. holds w t) locate-is ∙ h)) (beyond-idle s A t l))

    pub update-narrow : Narrow d.update
    update-narrow t l =
        only-true (holds d.update t)
        (λ h. true≢false (A.only_begun K.group strong t d.key (ap (λ w. holds w t) update-is ∙ h)) (beyond-idle s A t l))

    pub gap-narrow : Narrow d.gap
    gap-narrow t l = only-true (holds d.gap t) (λ h. true≢false (A.only_begun_gaps t d.key (ap (λ w. holds w t) gap_is ∙ h)) (beyond-idle s A t l))

-- The holders words of a descriptor.
pub record NarrowDesc (d : Desc) : Type 0 where
  pub locate : Narrow d.locate
  pub update : Narrow d.update
  pub gap : Narrow d.gap

pub desc-narrow : (s : State) → Sound s → (C B : List Desc) (d : Desc) → lvs s ≡ C ++ d ∷ B → O.In 0 d.key C → NarrowDesc d
desc-narrow s A C B d is low = record { locate = locate-narrow s A C B d is low; update = update-narrow s A C B d is low; gap = gap-narrow s A C B d is low }

leaves-mean : (L : Lay) (t : List Session) → lvs (means L t) ≡ descs (leaves_in L)
unfolding means
leaves-mean L t = leaves-erase (suc L.height) L.tree

-- The descriptor of a key in a layout that means a sound state.
pub key-narrow : (L : Lay) (t : List Session) → Sound (means L t) → (k d : ℕ) (P : AtKey L k d) → NarrowDesc P.leaf.desc
key-narrow L t A k d P =
    let C = leaves_before P.around in
    let B = leaves_behind P.around in
    desc-narrow (means L t) A (descs C) (descs B) P.leaf.desc (leaves-mean L t ∙ ap descs P.was ∙ map-append (λ x. x.desc) C (P.leaf ∷ B))
    (subst (λ n. O.In 0 n (descs C)) (sym P.key) P.below)
