-- Where a scan stands after a step below second: behind the descriptor that the step took. So a caller who makes the next step too need not walk to it.
use Rattle.std.specs.Prelude.{◌≡◌, refl, List, [], ◌∷◌, ◌++◌, ℕ, suc, ◌≤◌, ◌<◌, set}
use Rattle.std.proofs.Math.Path.{sym, subst}
use Rattle.std.proofs.Common.{ap, ◌∙◌, inr, arith, get_or-set_same, ne_eqb}
use Rattle.words.specs.Store.{word_of}
use Rattle.words.specs.Header.{header_word, first_place}
use Rattle.groups.specs.Descriptor.{with_holders}
use Rattle.sessions.specs.declared.Session.{Session}
use Rattle.sessions.specs.Sessions.{session_at, idle_session}
use Rattle.members.specs.Members.{pass_at}
use Rattle.scans.specs.Scans.{last_upto}
use Rattle.machine.specs.Logic.{leb_yes, leb_no}
use Rattle.machine.specs.Holders.{width, held_by}
use Rattle.machine.specs.Order.{In}
use Rattle.machine.specs.State.{on_desc, hold_desc, same}
use Rattle.machine.specs.Sound as M
use Rattle.meaning.specs.Reading.{Chained, Leaf, M-of, R-of}
use Rattle.meaning.specs.Sound.{Sound}
use Rattle.meaning.specs.Lens.{descs, leaves_before, leaves_behind}
use Rattle.layout.specs.Layout.{Lay, leaves_in, Has, HandFits, Holds}
use Rattle.layout.specs.Row.{Stands}
use Rattle.layout.specs.Keep.{table-row}
use Rattle.layout.specs.Back.{holds-means}
use Rattle.layout.specs.Laid.{sound-stands}
use Rattle.layout.specs.Places.{AtKey, at_key}
use Rattle.layout.specs.Chains.{nums, chain_next}
use Rattle.layout.specs.Room.{sizes-of}
use Rattle.layout.specs.Ordering.{rising-of}
use Rattle.layout.specs.Left.{Left, left-desc}
use Rattle.taking.specs.Place.{next_taken, num_from, next-behind}
use Rattle.taking.specs.Pass.{took_key, first-proper, first-upto}
use Rattle.taking.specs.Moves.{word-key}
use Rattle.taking.specs.Found as F

-- ---- records by key

num-behind : (k lo e : ℕ) (A ls : List Leaf) → In lo e (descs A) → e ≤ k → num_from k (A ++ ls) ≡ num_from k ls
unfolding num_from
num-behind k lo e [] ls i h = refl
num-behind k lo e (a ∷ A) ls i h = rw (leb_no k a.desc.key (omega (arith, i.0.1, h))) (num-behind k lo e A ls i.1 h)

num-past : (k : ℕ) (l : Leaf) (ls : List Leaf) → l.desc.key < k → num_from k (l ∷ ls) ≡ num_from k ls
unfolding num_from
num-past k l ls h = rw (leb_no k l.desc.key h) refl

num-head : (s : List ℕ) (m i k hi : ℕ) (ls : List Leaf) → Chained s m i (nums ls) → In k hi (descs ls) → i ≡ num_from k ls
unfolding num_from
num-head s m i k hi [] c a = c
num-head s m i k hi (l ∷ ls) c a = rw (leb_yes k l.desc.key a.0.0) c.0

-- ---- behind the last key taken, if that is stored still

module _ (s : List ℕ) (t : List Session) (A : Stands s t) (p : ℕ) (party : p ≤ width) (stage : (session_at t p).stage ≡ 5) (d : ℕ)
    (taken : ¬ ((session_at t p).last ≡ 0)) (upto : (session_at t p).first ≤ (session_at t p).last) (stored : Has (session_at t p).last d (leaves_in A.lay)) where
  abbrev x : Session
  x = session_at t p

  abbrev low : AtKey A.lay x.first x.low
  low = F.at_low s t A p party stage

  place : AtKey A.lay x.last d
  place = at_key A.lay t A.sound x.last d stored

  from_low : word_of s (M-of s) (last_upto s (M-of s) (R-of s) x.low x.last) 0 ≡ num_from (suc x.last) (leaves_in A.lay)
  from_low =
      ap (λ i. word_of s (M-of s) (last_upto s (M-of s) (R-of s) i x.last) 0) (sym low.num)
      ∙ next-behind s (M-of s) (R-of s) x.last low.leaf (leaves_behind low.around) (F.low-chain s t A p party stage) (F.low_fits s t A p party stage).1 (omega (arith, F.low-short s t A p party stage))
      ∙ sym (ap (num_from (suc x.last)) (F.low-cut s t A p party stage)
      ∙ num-behind (suc x.last) 0 x.first (leaves_before low.around) (low.leaf ∷ leaves_behind low.around) low.below (omega (arith, upto))
      ∙ num-past (suc x.last) low.leaf (leaves_behind low.around) (omega (arith, low.key, upto)))

  from_last : word_of s (M-of s) d 0 ≡ num_from (suc x.last) (leaves_in A.lay)
  from_last =
      ap (λ i. word_of s (M-of s) i 0) (sym place.num)
      ∙ num-head s (M-of s) (word_of s (M-of s) place.leaf.num 0) (suc x.last) _ (leaves_behind place.around)
      (chain_next s (M-of s) (header_word s first_place) (leaves_before place.around) place.leaf (leaves_behind place.around)
      (subst (λ z. Chained s (M-of s) (header_word s first_place) (nums z)) place.was A.holds.fits.chained)) place.above
      ∙ sym (ap (num_from (suc x.last)) place.was
      ∙ num-behind (suc x.last) 0 x.last (leaves_before place.around) (place.leaf ∷ leaves_behind place.around) place.below (omega arith)
      ∙ num-past (suc x.last) place.leaf (leaves_behind place.around) (omega (arith, place.key)))

  pub next-on : word_of s (M-of s) d 0 ≡ next_taken s (M-of s) (R-of s) x
  unfolding next_taken
  next-on = rw (ne_eqb x.last 0 taken) (from_last ∙ sym from_low)

-- ---- after a step below second

pass-left : (s : List ℕ) (t : List Session) (A : Stands s t) (p k d : ℕ) → p ≤ width → Has k d (leaves_in A.lay)
    → Left s t A.lay (pass_at s (M-of s) d p) (on_desc k (hold_desc (held_by p) same (held_by p)))
unfolding pass_at with_holders
pass-left s t A p k d l h = left-desc (held_by p) (λ n. n) (held_by p) (λ n. n) s t A.lay A.holds (sizes-of A.lay t A.sound) (rising-of A.lay t A.sound) k d h p l

took-fits : (L L' : Lay) (p k : ℕ) (x : Session) → ((i d : ℕ) → Has i d (leaves_in L) → Has i d (leaves_in L')) → x.stage ≡ 5 → x.first ≤ k → HandFits L p x → HandFits L' p (took_key x k)
unfolding took_key
took-fits L L' p k x has e h H = record {
  stage = H.stage;
  at-node = λ q. absurd (omega (arith, q, e));
  low = λ n q. has x.first x.low (H.low n q);
  high = λ q n. has x.second x.high (H.high q n);
  last = λ q. inr h;
}

module _ (s : List ℕ) (t : List Session) (S : Sound s t) (p : ℕ) (party : p ≤ width) (stage : (session_at t p).stage ≡ 5) where
  abbrev X : Session
  X = session_at t p

  abbrev A : Stands s t
  A = sound-stands s t S

  abbrev d : ℕ
  d = next_taken s (M-of s) (R-of s) X

  abbrev k : ℕ
  k = word_of s (M-of s) d 1

  abbrev s' : List ℕ
  s' = pass_at s (M-of s) d p

  abbrev t' : List Session
  t' = set t p (took_key X k)

  key_is : k ≡ (F.next_desc s t A p party stage).key
  key_is = word-key s t A p party stage

  has : Has k d (leaves_in A.lay)
  has = subst (λ j. Has j d (leaves_in A.lay)) (sym key_is) (F.next-has s t A p party stage)

  upto : X.first ≤ k
  upto = subst (λ j. X.first ≤ j) (sym key_is) (first-upto s t A p party stage)

  proper : ¬ (k ≡ 0)
  proper e = first-proper s t A p party stage (let f = upto in omega arith)

  W : Left s t A.lay s' (on_desc k (hold_desc (held_by p) same (held_by p)))
  W = pass-left s t A p k d party has

  holds : Holds s' t' W.lay
  holds = table-row s' t W.lay W.holds p (took_key X k) party (unfold took_key in refl) (took-fits A.lay W.lay p k X W.has stage upto (A.holds.hands p party))

  seat : session_at t' p ≡ took_key X k
  seat = get_or-set_same t p (took_key X k) idle_session (omega (arith, A.holds.seats, party))

  pub pass_on : Sound s' t' → word_of s' (M-of s') d 0 ≡ next_taken s' (M-of s') (R-of s') (took_key X k)
  unfolding took_key
  pass_on S' =
      let A' : Stands s' t' = record { lay = W.lay; holds = holds; sound = subst M.Sound (holds-means s' t' W.lay holds) S'.state } in
      subst (λ z. word_of s' (M-of s') d 0 ≡ next_taken s' (M-of s') (R-of s') z) seat
      (next-on s' t' A' p party (ap (λ z. z.stage) seat ∙ stage) d (λ e. proper (sym (ap (λ z. z.last) seat) ∙ e))
      (subst (λ z. z.first ≤ z.last) (sym seat) upto) (subst (λ z. Has z.last d (leaves_in W.lay)) (sym seat) (W.has k d has)))
