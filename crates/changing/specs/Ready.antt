-- Words that hold a layout of a sound state have what the last step of an insert or remove asks for.
use Rattle.std.specs.Prelude.{◌≡◌, true, List, [], ◌∷◌, leb}
use Rattle.std.proofs.Math.Path.{refl, sym, ap, subst}
use Rattle.std.proofs.Common.{◌∙◌, arith}
use Rattle.std.proofs.lemmas.List.{map-append}
use Prim.Native.Nat.{ℕ, zero, suc, ◌≤◌, ◌<◌}
use Rattle.std.proofs.Math.ListN.{length}
use Rattle.words.specs.Store.{HasRecord, word_of, has_kept}
use Rattle.words.specs.Header.{header_word, free_place}
use Rattle.kinds.specs.Kind.{write-length}
use Rattle.groups.specs.Descriptor.{descriptor_kind, descriptor_at, descriptor-same, grant_update, with_holders}
use Rattle.chain.specs.Free.{Poppable, pop_free}
use Rattle.chain.specs.Walk.{Walk}
use Rattle.sessions.specs.declared.Session.{Session}
use Rattle.sessions.specs.Sessions.{session_at}
use Rattle.serial.specs.Serial.{true≢false}
use Rattle.machine.specs.Logic.{leb_no}
use Rattle.machine.specs.Holders.{width, held_by}
use Rattle.machine.specs.State.{Request, State, idle, session_of}
use Rattle.machine.specs.Steps.{pinned}
use Rattle.machine.specs.Sound.{pins_in, of_hand, times, pins_by}
use Rattle.machine.specs.Totals.{total-least}
use Rattle.machine.specs.Housekeeping.{lvs}
use Rattle.machine.specs.Looks.{pins-at}
use Rattle.meaning.specs.Reading.{Chained, M-of, R-of}
use Rattle.meaning.specs.Sound.{All}
use Rattle.meaning.specs.Numbers.{all_in, all_right, one-is}
use Rattle.meaning.specs.Lens.{descs, leaves_before, leaves_behind, leaves-erase}
use Rattle.layout.specs.Layout.{Lay, leaves_in, member_of, means}
use Rattle.layout.specs.Row.{Stands}
use Rattle.layout.specs.Asked.{request_in}
use Rattle.layout.specs.Puts.{desc-pins, desc-first}
use Rattle.layout.specs.Walks.{members-walk}
use Rattle.members.specs.Members.{Pinned, update_at, put_member, take_member, Puttable}
use Rattle.undo_log.specs.Undoing.{log_added, log_taken, Loggable}
use Rattle.scans.specs.Scans.{membership_of}
use Rattle.grouping.specs.GroupWords.{Within, first-in}
use Rattle.endings.specs.Table.{logged_by}
use Rattle.changing.specs.Changing.{added_words, taken_words, Ends, AddsReady, TakesReady, RoomReady, CodeReady, ChangeReady}
use Rattle.changing.specs.Naming.{split_at}
use Rattle.changing.specs.Logged.{own-within, within-free}
use Rattle.changing.specs.Adding.{puttable, loggable, added-long, added-pins}
use Rattle.changing.specs.TakingOut.{takeable, taken-long, taken-pins}
use Rattle.changing.specs.Rows.{in_hand, in-change, is-session, P, Z, o, D, off, found, two-free}

leaves-mean : (L : Lay) (t : List Session) → lvs (means L t) ≡ descs (leaves_in L)
unfolding means
leaves-mean L t = leaves-erase (suc L.height) L.tree

-- The update lock leaves the pins.
update-long : (s : List ℕ) (m d p : ℕ) → HasRecord s m d → length (update_at s m d p) ≡ length s
unfolding update_at
update-long s m d p has = write-length descriptor_kind s m d (grant_update (descriptor_at s m d) (held_by p (descriptor_at s m d).update)) has

update-pins : (s : List ℕ) (m d p : ℕ) → HasRecord s m d → (descriptor_at (update_at s m d p) m d).pins ≡ (descriptor_at s m d).pins
unfolding update_at with_holders
update-pins s m d p has = ap (λ y. y.pins) (descriptor-same s m d (grant_update (descriptor_at s m d) (held_by p (descriptor_at s m d).update)) has)

module _ (s : List ℕ) (t : List Session) (A : Stands s t) (p : ℕ) (party : suc p ≤ width) (stage : (session_at t (suc p)).stage ≡ 4) where
  abbrev x : Session
  x = session_at t (suc p)

  abbrev L : Lay
  L = A.lay

  abbrev σ : State
  σ = means A.lay t

  abbrev m : ℕ
  m = M-of s

  abbrev d : ℕ
  d = (P s t A p party stage).leaf.num

  abbrev e : ℕ
  e = x.entry

  abbrev c : List (ℕ × ℕ)
  c = L.members d

  low-has : HasRecord s m d
  low-has = (own-within s t L A.holds (Z s t A p party stage) (o s t A p party stage) x.first x.low (P s t A p party stage) p party).0.has

  -- Its own request pins the descriptor.
  pins-some : 1 ≤ pins_in x.first (lvs σ)
  unfolding session_of pinned request_in
  pins-some =
      let k = x.first in
      let h = in_hand s t A (suc p) party stage in
      let seat : suc p < length σ.table = omega (arith, A.sound.seats, party) in
      let b = total-least (pins_by k) σ.table (suc p) idle seat in
      let q : pins_by k (session_of (suc p) σ) ≡ times k (pinned (request_in x) (request_in x).stage) = ap (of_hand 0 (λ (r : Request). times k (pinned r r.stage))) h in
      let w : times k (pinned (request_in x) (request_in x).stage) ≡ times k (k ∷ []) = ap (λ g. times k (pinned (request_in x) g)) (in-change s t A (suc p) party stage) in
      omega (arith, A.sound.pins_match k, b, q, w, one-is k k refl)

  pins-word : 1 ≤ word_of s m d 5
  pins-word =
      let Q = P s t A p party stage in
      let k = x.first in
      let a = leaves-mean L t ∙ ap descs Q.was ∙ map-append (λ y. y.desc) (leaves_before Q.around) (Q.leaf ∷ leaves_behind Q.around) in
      let b = ap (pins_in k) a ∙ pins-at k 0 Q.leaf.desc Q.key (descs (leaves_before Q.around)) (descs (leaves_behind Q.around)) Q.below in
      omega (arith, pins-some, b, (D s t A p party stage).pins)

  low-pinned : Pinned s m d
  low-pinned = record { has = low-has; pinned = subst (λ n. 1 ≤ n) (sym (desc-pins s m d)) pins-word }

  ends-in : (s' : List ℕ) → length s' ≡ length s → word_of s' m d 5 ≡ word_of s m d 5 → Ends s' m d (suc p)
  ends-in s' long same =
      let has = has_kept low-has long in
      record {
        held = record { has = has; first = omega arith; last = omega (arith, party) };
        pinned = record {
          has = has_kept has (update-long s' m d (suc p) has);
          pinned = subst (λ n. 1 ≤ n) (sym (update-pins s' m d (suc p) has ∙ desc-pins s' m d ∙ same)) pins-word;
        };
      }

  free-has : ¬ (header_word s free_place ≡ 0) → HasRecord s m (header_word s free_place)
  free-has n =
      (all_in (Within s m (R-of s)) L.free (within-free s t L A.holds (Z s t A p party stage) (o s t A p party stage) x.first x.low (P s t A p party stage) p party) (header_word s free_place)
      (first-in s m (header_word s free_place) L.free A.holds.fits.free n)).has

  pops : Poppable s m
  pops = record { header = A.holds.fits.header; first = free-has }

  adds-ready : (a b : ℕ) (f : List ℕ) → L.free ≡ a ∷ b ∷ f → member_of e c ≡ 0 → AddsReady s m (suc p) x d
  unfolding added_words logged_by
  adds-ready a b f fr z =
      let Q = P s t A p party stage in
      let Y = Z s t A p party stage in
      let O = o s t A p party stage in
      let F = off s t A p party stage in
      let y = logged_by x b in
      let head : a ≡ header_word s free_place = sym (subst (Chained s m (header_word s free_place)) fr A.holds.fits.free).0 in
      record {
        add = record {
          pop = pops;
          put = subst (λ i. Puttable (pop_free s m) m d i) head (puttable s t L A.holds Y O x.first x.low Q p party e F y refl refl a b f fr z refl);
          log = subst (λ i. Loggable (put_member (pop_free s m) m d i e) m) head (loggable s t L A.holds Y O x.first x.low Q p party e F y refl refl a b f fr z refl);
        };
        ends = subst (λ i. Ends (log_added (put_member (pop_free s m) m d i e) m e i d x.undo) m d (suc p)) head
            (ends-in (log_added (put_member (pop_free s m) m d a e) m e a d x.undo) (added-long s t L A.holds Y O x.first x.low Q p party e F y refl refl a b f fr z refl)
            (added-pins s t L A.holds Y O x.first x.low Q p party e F y refl refl a b f fr z refl));
      }

  room-ready : member_of e c ≡ 0 → RoomReady s m (suc p) x d
  room-ready z = record { pop = pops; pinned = low-pinned; adds = λ h. go L.free refl (sym (two-free s m L.free A.holds.fits.free) ∙ h) }
    where
      go : (f : List ℕ) → L.free ≡ f → leb 2 (length L.free) ≡ true → AddsReady s m (suc p) x d
      go [] q h = absurd (true≢false h (ap (λ l. leb 2 (length l)) q ∙ leb_no 2 0 (omega arith)))
      go (a ∷ []) q h = absurd (true≢false h (ap (λ l. leb 2 (length l)) q ∙ leb_no 2 1 (omega arith)))
      go (a ∷ b ∷ f) q h = adds-ready a b f q z

  takes-ready : ¬ (member_of e c ≡ 0) → TakesReady s m (suc p) x d (member_of e c)
  unfolding taken_words logged_by
  takes-ready n =
      let Q = P s t A p party stage in
      let Y = Z s t A p party stage in
      let O = o s t A p party stage in
      let F = off s t A p party stage in
      let i = member_of e c in
      let y = logged_by x i in
      let R = split_at e c n in
      record {
        take = takeable s t L A.holds Y O x.first x.low Q p party e F y refl refl i R refl;
        ends = ends-in (log_taken (take_member s m d i) m i e d x.undo) (taken-long s t L A.holds Y O x.first x.low Q p party e F y refl refl i R refl)
            (taken-pins s t L A.holds Y O x.first x.low Q p party e F y refl refl i R refl);
      }

  code-ready : CodeReady s m (suc p) x d (member_of e c)
  code-ready = record {
    insert = record { ends = ends-in s refl refl; room = room-ready };
    remove = record { ends = ends-in s refl refl; takes = takes-ready };
  }

  walk-low : Walk s m (R-of s) (descriptor_at s m d).first
  walk-low =
      let Q = P s t A p party stage in
      subst (λ i. Walk s m (R-of s) i) (sym (desc-first s m d))
      (all_right (λ z. Walk s m (R-of s) (word_of s m z.num 6)) (leaves_before Q.around) (Q.leaf ∷ leaves_behind Q.around)
      (subst (All (λ z. Walk s m (R-of s) (word_of s m z.num 6))) Q.was (members-walk s t L A.holds A.sound))).0

  ready_at : (j : ℕ) → d ≡ j → HasRecord s m j × Walk s m (R-of s) (descriptor_at s m j).first × CodeReady s m (suc p) x j (membership_of s m (R-of s) (descriptor_at s m j).first e)
  ready_at j q =
      subst (λ j. HasRecord s m j × Walk s m (R-of s) (descriptor_at s m j).first × CodeReady s m (suc p) x j (membership_of s m (R-of s) (descriptor_at s m j).first e)) q
      (low-has, walk-low, subst (CodeReady s m (suc p) x d) (sym (found s t A p party stage)) code-ready)

-- What the code asks for.
pub change-ready : (s : List ℕ) (t : List Session) (A : Stands s t) (p : ℕ) → p ≤ width → (session_at t p).stage ≡ 4 → ChangeReady s (M-of s) (R-of s) p (session_at t p)
change-ready s t A zero party stage = absurd (omega (arith, is-session s t A zero party stage))
change-ready s t A (suc p) party stage =
    let R = ready_at s t A p party stage (session_at t (suc p)).low (P s t A p party stage).num in
    record { has = R.0; first = omega arith; last = omega (arith, party); walk = R.1; code = R.2 }
