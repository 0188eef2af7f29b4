-- The step at second: the memberships of the range, its lock, and the request ends.
use Rattle.std.specs.Prelude.{◌≡◌, List, [], ◌∷◌, ◌++◌, ℕ, suc, ◌≤◌, ◌<◌}
use Rattle.std.proofs.Math.Path.{refl, ap, subst}
use Rattle.std.proofs.Common.{sym, ◌∙◌, arith, ne_eqb}
use Rattle.std.proofs.lemmas.List.{map-append}
use Rattle.std.proofs.Math.Option.{none}
use Rattle.std.proofs.Math.ListN.{length, set}
use Rattle.groups.specs.Descriptor.{with_holders}
use Rattle.sessions.specs.declared.Session.{Session}
use Rattle.sessions.specs.Sessions.{session_at}
use Rattle.scans.specs.Scans.{range_words, range_count}
use Rattle.members.specs.Members.{locate_at}
use Rattle.endings.specs.Table.{idled}
use Rattle.finishing.specs.Finishing.{end_latch, end_low, end_high, end_request}
use Rattle.finishing.specs.Ended.{lows, highs, is_5, pins-are, pins-left}
use Rattle.serial.specs.Model.{two_words}
use Rattle.machine.specs.Holders.{width, held_by}
use Rattle.machine.specs.State.{Desc, State, Stage, take, stored, on_desc, hold_desc, same, set_hand}
use Rattle.machine.specs.Steps.{memberships, located_state, ended, unlatch, unpin, pinned}
use Rattle.machine.specs.Groups.{Rises}
use Rattle.machine.specs.Looks.{sound-ordered, ordered-rises}
use Rattle.meaning.specs.Reading.{Chained, Leaf, stage_of, M-of, R-of}
use Rattle.meaning.specs.Sound.{All}
use Rattle.meaning.specs.Numbers.{all_right, all_both}
use Rattle.meaning.specs.Lens.{descs, leaves_before, leaves_behind}
use Rattle.layout.specs.Layout.{Lay, leaves_in, firsts, Has, DescFits, GroupFits, Holds, means}
use Rattle.layout.specs.Row.{Stands, Becomes}
use Rattle.layout.specs.Short.{members-short}
use Rattle.layout.specs.Chains.{nums}
use Rattle.layout.specs.Walks.{descs-fit}
use Rattle.layout.specs.Keep.{table-row}
use Rattle.layout.specs.Places.{means-hand}
use Rattle.layout.specs.Room.{Sizes, sizes-of}
use Rattle.layout.specs.Ordering.{Rising, rising-of}
use Rattle.layout.specs.Left.{Left, left-then, left-desc, idle-fits}
use Rattle.layout.specs.Asked.{request_in}
use Rattle.taking.specs.Found as F
use Rattle.taking.specs.Found.{stage-take, stored-means, next_key}
use Rattle.taking.specs.Range.{Listed, range-words, range-count, memberships-behind}

-- Keys rise from a descriptor on.
rises-from : (lo e : ℕ) (A : List Desc) (d : Desc) (B : List Desc) → Rises lo e (A ++ d ∷ B) → Rises d.key e (d ∷ B)
rises-from lo e [] d B r = ((omega arith, r.0.1), r.1)
rises-from lo e (a ∷ A) d B r = rises-from (suc a.key) e A d B r.1

-- The lock, whatever the session table.
pub locate-left : (s : List ℕ) (t : List Session) (L : Lay) → Holds s t L → Sizes L → Rising L → (p k d : ℕ) → p ≤ width → Has k d (leaves_in L)
    → Left s t L (locate_at s (M-of s) d p) (on_desc k (hold_desc (held_by p) same same))
unfolding locate_at with_holders
locate-left s t L H Z o p k d l h = left-desc (held_by p) (λ n. n) (λ n. n) (λ n. n) s t L H Z o k d h p l

-- A scan has no latch.
end_take : (s : List ℕ) (m : ℕ) (x : Session) → x.stage ≡ 5 → end_request s m x ≡ end_high (end_low s m x) m x
unfolding end_request end_latch
end_take s m x e = rw (ne_eqb x.stage 3 (λ q. omega (arith, q, e))) refl

no_latch : (p k : ℕ) (g : Stage) (z : State) → g ≡ take k → unlatch p g z ≡ z
unfolding unlatch
no_latch p k g z e = ap (λ h. unlatch p h z) e

module _ (s : List ℕ) (t : List Session) (A : Stands s t) (p : ℕ) (party : p ≤ width) (stage : (session_at t p).stage ≡ 5) where
  abbrev x : Session
  x = session_at t p

  abbrev d : ℕ
  d = F.next_record s t A p party stage

  abbrev k : ℕ
  k = (F.next_desc s t A p party stage).key

  abbrev l : Leaf
  l = (F.at_low s t A p party stage).leaf

  abbrev C : List Leaf
  C = leaves_before (F.at_low s t A p party stage).around

  abbrev B : List Leaf
  B = leaves_behind (F.at_low s t A p party stage).around

  -- ---- the memberships of the range

  abbrev pub found : List (ℕ × ℕ)
  found = memberships x.first x.second (stored (means A.lay t))

  listed : All (Listed s (M-of s) (R-of s) A.lay.members x.first x.second) (l ∷ B)
  listed =
      let m = M-of s in
      let g = A.lay.members in
      let P : Leaf → Type 0 = λ y. GroupFits s m (g y.num) y × (length (firsts (g y.num)) ≤ R-of s) in
      let ls = leaves_in A.lay in
      all_right (Listed s m (R-of s) g x.first x.second) C (l ∷ B) (subst (All (Listed s m (R-of s) g x.first x.second)) (F.low-cut s t A p party stage)
      (all_both {P = DescFits s m} {Q = P} {R = Listed s m (R-of s) g x.first x.second} (λ y a b. (a, b.0, b.1)) ls (descs-fit s t A.lay A.holds A.sound)
      (all_both {P = λ y. GroupFits s m (g y.num) y} {Q = λ y. length (firsts (g y.num)) ≤ A.lay.records} {R = P} (λ y a b. (a, omega (arith, b, A.holds.fits.records))) ls
      A.holds.fits.groups (members-short A.lay A.holds.owned))))

  chained : Chained s (M-of s) x.low (nums (l ∷ B))
  chained = subst (λ i. Chained s (M-of s) i (nums (l ∷ B))) (F.at_low s t A p party stage).num (F.low-chain s t A p party stage)

  cut : stored (means A.lay t) ≡ descs C ++ l.desc ∷ descs B
  cut = stored-means A.lay t ∙ ap descs (F.low-cut s t A p party stage) ∙ map-append (λ y. y.desc) C (l ∷ B)

  rises : Rises l.desc.key 4294967296 (descs (l ∷ B))
  unfolding stored
  rises = rises-from 0 4294967296 (descs C) l.desc (descs B) (subst (Rises 0 4294967296) cut (ordered-rises (means A.lay t) (sound-ordered A.sound)))

  low-key : x.first ≤ l.desc.key
  low-key = let e = (F.at_low s t A p party stage).key in omega arith

  found-is : found ≡ memberships x.first x.second (descs (l ∷ B))
  found-is =
      ap (memberships x.first x.second) cut
      ∙ memberships-behind x.first x.second 0 x.first (descs C) (descs (l ∷ B)) (F.at_low s t A p party stage).below (omega arith)

  pub last-words : range_words s (M-of s) (R-of s) (R-of s) x.low x.second ≡ two_words found
  last-words =
      range-words s (M-of s) (R-of s) A.lay.members x.first x.second (R-of s) x.low l.desc.key 4294967296 (l ∷ B) chained listed rises low-key (F.low-short s t A p party stage)
      ∙ ap two_words (sym found-is)

  pub last-count : range_count s (M-of s) (R-of s) (R-of s) x.low x.second ≡ length found
  last-count =
      range-count s (M-of s) (R-of s) A.lay.members x.first x.second (R-of s) x.low l.desc.key 4294967296 (l ∷ B) chained listed rises low-key (F.low-short s t A p party stage)
      ∙ ap length (sym found-is)

  -- ---- the lock, and the end of the request

  pub take_last : Becomes s (end_request (locate_at s (M-of s) d p) (M-of s) x) (set t p (idled x)) (ended p (request_in x) (located_state p (F.next_desc s t A p party stage) (means A.lay t)))
  unfolding ended idled request_in
  take_last =
      let L = A.lay in
      let m = M-of s in
      let y = idled x in
      let u = set t p y in
      let seat : p < length t = omega (arith, A.holds.seats, party) in
      let H = table-row s t L A.holds p y party refl (idle-fits L p y refl) in
      let W = locate-left s u L H (sizes-of L t A.sound) (rising-of L t A.sound) p k d party (F.next-has s t A p party stage) in
      let Q = pins-left (locate_at s m d p) u W.lay W.holds W.sizes W.rising m W.written.entries x
      (λ e. W.has x.first x.low (F.low-there s t A p party stage)) (λ e n. W.has x.second x.high ((A.holds.hands p party).high e n)) in
      let X = left-then s u L (locate_at s m d p) (end_high (end_low (locate_at s m d p) m x) m x) (on_desc k (hold_desc (held_by p) same same)) (unpin (lows x ++ highs x)) W Q in
      let z = located_state p (F.next_desc s t A p party stage) (means L t) in
      subst (λ w. Becomes s w u (set_hand p none (unpin (pinned (request_in x) (stage_of x)) (unlatch p (stage_of x) z)))) (sym (end_take (locate_at s m d p) m x stage))
      (record {
        lay = X.lay;
        holds = X.holds;
        means_next = means-hand X.lay t p y seat refl ∙ ap (set_hand p none) (X.is t)
            ∙ ap (λ ks. set_hand p none (unpin ks z)) (sym (pins-are x (is_5 stage) (λ e. absurd (omega (arith, e, stage)))))
            ∙ ap (λ v. set_hand p none (unpin (pinned (request_in x) (stage_of x)) v)) (sym (no_latch p (next_key x) (stage_of x) z (stage-take x stage)));
        long = X.written.long;
        entries = X.written.entries;
        records = X.written.records;
        rest = X.written.rest;
      })
