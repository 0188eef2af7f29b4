-- Words that hold a layout of a sound state have what the step of a scan asks for.
use Rattle.std.specs.Prelude.{◌≡◌, refl, Bool, true, false, cond, ◌&&◌, List, [], ◌∷◌, ℕ, zero, suc, ◌+◌, ◌≤◌, eqb, leb, length}
use Rattle.std.proofs.Common.{sym, ap, subst, ◌∙◌, arith, eq-eqb}
use Rattle.words.specs.Store.{HasRecord, word_of}
use Rattle.chain.specs.Walk.{Walk}
use Rattle.sessions.specs.declared.Session.{Session}
use Rattle.sessions.specs.Sessions.{session_at}
use Rattle.scans.specs.Scans.{last_upto, WalkRange, CanFollow, CanCount}
use Rattle.members.specs.Members.{locate_at}
use Rattle.finishing.specs.Finishing.{Endable}
use Rattle.finishing.specs.Ready.{pins_of, pins-mean, pins-kept, pins-in-hand, end-ready-after}
use Rattle.finishing.proofs.Ready.{end-ready}
use Rattle.serial.specs.Serial.{true≢false}
use Rattle.machine.specs.Holders.{width, held_by}
use Rattle.machine.specs.State.{Desc, State, hold_desc, stored}
use Rattle.machine.specs.State as M
use Rattle.machine.specs.Steps.{memberships, pairs_of}
use Rattle.machine.specs.Calls.{bad_code}
use Rattle.machine.specs.Sound.{pins_in, members_many}
use Rattle.machine.specs.Housekeeping.{lvs}
use Rattle.machine.specs.Looks.{put-pins-kept}
use Rattle.machine.proofs.Nearest.{takes_of}
use Rattle.meaning.specs.Reading.{Chained, Leaf, M-of, R-of}
use Rattle.meaning.specs.Sound.{All}
use Rattle.meaning.specs.Numbers.{all_right}
use Rattle.meaning.specs.Lens.{leaves_before, leaves_behind}
use Rattle.layout.specs.Layout.{Lay, means}
use Rattle.layout.specs.Row.{Stands}
use Rattle.layout.specs.Room.{sizes-of}
use Rattle.layout.specs.Ordering.{rising-of}
use Rattle.layout.specs.Chains.{nums}
use Rattle.layout.specs.Walks.{leaves-there, members-walk, next-walk}
use Rattle.layout.specs.DescRows.{key_has}
use Rattle.layout.specs.Asked.{request_in}
use Rattle.taking.specs.Found as F
use Rattle.taking.specs.Found.{next_key}
use Rattle.taking.specs.Last.{last-count, locate-left}
use Rattle.taking.specs.Taking.{found_in, TakeReady}

-- ---- walks

-- Where the walk stops there is a record.
last_has : (s : List ℕ) (m n i k : ℕ) → HasRecord s m i → Walk s m n (word_of s m i 0) → HasRecord s m (last_upto s m n i k)
unfolding last_upto Walk
last_has s m zero i k h w = h
last_has s m (suc n) i k h w =
    go (word_of s m i 0) (λ ne. last_has s m n (word_of s m i 0) k (w ne).0 (w ne).1) (eqb (word_of s m i 0) 0) refl (leb (word_of s m (word_of s m i 0) 1) k)
  where
    go : (j : ℕ) → (¬ (j ≡ 0) → HasRecord s m (last_upto s m n j k)) → (b : Bool) → eqb j 0 ≡ b → (c : Bool) → HasRecord s m (cond b i (cond c (last_upto s m n j k) i))
    go j on true e c = h
    go j on false e true = on (λ z. true≢false (eq-eqb j 0 z) e)
    go j on false e false = h

range-walk : (s : List ℕ) (m r n i : ℕ) (ls : List Leaf) → Chained s m i (nums ls) → All (λ l. HasRecord s m l.num) ls → All (λ l. Walk s m r (word_of s m l.num 6)) ls → length ls ≤ n → WalkRange s m r n i
unfolding WalkRange
range-walk s m r zero i [] c a b h = c
range-walk s m r (suc n) i [] c a b h = λ ne. absurd (ne c)
range-walk s m r zero i (l ∷ ls) c a b h = absurd (omega (arith, h))
range-walk s m r (suc n) i (l ∷ ls) c a b h = λ ne.
    (subst (HasRecord s m) (sym c.0) a.0, subst (λ j. Walk s m r (word_of s m j 6)) (sym c.0) b.0, range-walk s m r n (word_of s m i 0) ls c.2 a.1 b.1 (omega (arith, h)))

-- ---- memberships are few

pairs-many : (k : ℕ) (es : List ℕ) (l : List (ℕ × ℕ)) → length (pairs_of k es l) ≡ length es + length l
unfolding pairs_of
pairs-many k [] l = omega arith
pairs-many k (e ∷ es) l = omega (arith, pairs-many k es l)

memberships-many : (lo hi : ℕ) (ds : List Desc) → length (memberships lo hi ds) ≤ members_many ds
unfolding memberships
memberships-many lo hi [] = omega arith
memberships-many lo hi (d ∷ ds) = go (leb lo d.key) (leb d.key hi) (memberships-many lo hi ds)
  where
    go : (a b : Bool) → length (memberships lo hi ds) ≤ members_many ds
        → length (cond (a && b) (pairs_of d.key d.members (memberships lo hi ds)) (memberships lo hi ds)) ≤ length d.members + members_many ds
    go true true h = omega (arith, h, pairs-many d.key d.members (memberships lo hi ds))
    go true false h = omega (arith, h)
    go false b h = omega (arith, h)

-- A party with a locate in hand is a session.
code-party : (p c : ℕ) → c ≡ 5 → bad_code p c ≡ false → 1 ≤ p
code-party zero c e b = absurd (true≢false refl (subst (λ n. bad_code 0 n ≡ false) e b))
code-party (suc p) c e b = omega arith

module _ (s : List ℕ) (t : List Session) (A : Stands s t) (p : ℕ) (party : p ≤ width) (stage : (session_at t p).stage ≡ 5) where
  abbrev x : Session
  x = session_at t p

  abbrev L : Lay
  L = A.lay

  abbrev σ : State
  σ = means A.lay t

  abbrev d : ℕ
  d = F.next_record s t A p party stage

  abbrev D : Desc
  D = F.next_desc s t A p party stage

  hand : ¬ (x.stage ≡ 0)
  hand e = omega (arith, e, stage)

  -- The lock leaves every pin.
  held-ends : Endable (locate_at s (M-of s) d p) (M-of s) x
  held-ends =
      let W = locate-left s t L A.holds (sizes-of L t A.sound) (rising-of L t A.sound) p D.key d party (F.next-has s t A p party stage) in
      let K = (takes_of A.sound p (request_in x) (next_key x) (F.in_hand s t A p party stage) (F.in_take s t A p party stage)).next.K in
      let same : (j : ℕ) → pins_of W.lay j ≡ pins_of L j =
      λ j. sym (pins-mean W.lay t j) ∙ ap (λ z. pins_in j (lvs z)) (W.is t) ∙ put-pins-kept D.key σ K (hold_desc (held_by p) M.same M.same) refl refl j ∙ pins-mean L t j in
      end-ready-after (locate_at s (M-of s) d p) t W.lay W.holds W.sizes W.rising (M-of s) W.written.entries x
      (pins-kept L W.lay x W.has (λ j. omega (arith, same j)) (pins-in-hand s t L A.holds A.sound p party hand)) (λ e. omega (arith, e, stage))

  few : found_in s (M-of s) (R-of s) x ≤ 4096
  unfolding found_in stored
  few =
      omega (arith, last-count s t A p party stage, memberships-many x.first x.second (stored σ), A.sound.counted, A.sound.sizes.3)

  next-has : HasRecord s (M-of s) (F.next_record s t A p party stage)
  next-has = key_has s t L A.holds (sizes-of L t A.sound) (F.next_desc s t A p party stage).key (F.next_record s t A p party stage) (F.take_place s t A p party stage)

  a-session : 1 ≤ p
  unfolding request_in
  a-session = code-party p x.code (F.passing s t A p party stage).code_5 (A.sound.checked p (request_in x) (F.in_hand s t A p party stage)).0

  low-follow : CanFollow s (M-of s) (R-of s) x.low
  low-follow = record {
    has = key_has s t L A.holds (sizes-of L t A.sound) x.first x.low (F.at_low s t A p party stage);
    walk = subst (λ i. Walk s (M-of s) (R-of s) (word_of s (M-of s) i 0)) (F.at_low s t A p party stage).num
        (next-walk s t L A.holds A.sound (leaves_before (F.at_low s t A p party stage).around) (F.at_low s t A p party stage).leaf (leaves_behind (F.at_low s t A p party stage).around) (F.low-cut s t A p party stage));
  }

  low_count : CanCount s (M-of s) (R-of s) x.low
  low_count = record {
    walk = range-walk s (M-of s) (R-of s) (R-of s) x.low ls
        (subst (λ i. Chained s (M-of s) i (nums ls)) (F.at_low s t A p party stage).num (F.low-chain s t A p party stage))
        (all_right (λ l. HasRecord s (M-of s) l.num) C ls (subst (All (λ l. HasRecord s (M-of s) l.num)) (F.low-cut s t A p party stage) (leaves-there s t L A.holds A.sound)))
        (all_right (λ l. Walk s (M-of s) (R-of s) (word_of s (M-of s) l.num 6)) C ls (subst (All (λ l. Walk s (M-of s) (R-of s) (word_of s (M-of s) l.num 6))) (F.low-cut s t A p party stage) (members-walk s t L A.holds A.sound)))
        (F.low-short s t A p party stage);
    few = let z = (sizes-of L t A.sound).most in let e = A.holds.fits.records in omega arith;
  }
    where
      C : List Leaf
      C = leaves_before (F.at_low s t A p party stage).around

      ls : List Leaf
      ls = (F.at_low s t A p party stage).leaf ∷ leaves_behind (F.at_low s t A p party stage).around

  pub take-ready : TakeReady s (M-of s) (R-of s) p x
  take-ready = record {
    find = record { follow = λ n. low-follow; behind = λ n. last_has s (M-of s) (R-of s) x.low x.last low-follow.has low-follow.walk };
    last = record {
      done = record {
        hold = record { has = next-has; first = a-session; last = omega (arith, party) };
        ends = held-ends;
      };
      count = low_count;
      few = few;
      ends = end-ready s t L A.holds A.sound p party hand;
    };
  }
