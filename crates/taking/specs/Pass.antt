-- A step below second: the lock of a descriptor and its gap, and the scan goes on.
use Rattle.std.specs.Prelude.{◌≡◌, refl, false, cond, List, ℕ, suc, ◌≤◌, ◌<◌, eqb, leb, set}
use Rattle.std.proofs.Math.Path.{ap}
use Rattle.std.proofs.Common.{subst, ◌∙◌, inr, arith, ne_eqb}
use Rattle.std.proofs.Math.Option.{some}
use Rattle.std.proofs.Math.ListN.{length}
use Rattle.groups.specs.Descriptor.{with_holders}
use Rattle.sessions.specs.declared.Session.{Session}
use Rattle.sessions.specs.Sessions.{session_at}
use Rattle.members.specs.Members.{pass_at}
use Rattle.machine.specs.Logic.{neither, eqb-not}
use Rattle.machine.specs.Holders.{width, held_by}
use Rattle.machine.specs.State.{take, top, in_stage, set_hand, on_desc, hold_desc, same}
use Rattle.machine.specs.Steps.{passed_state, goes_on}
use Rattle.machine.specs.Calls.{bad_key, infinite}
use Rattle.meaning.specs.Reading.{hand_of, M-of}
use Rattle.layout.specs.Layout.{Lay, leaves_in, Has, HandFits, Holds, means}
use Rattle.layout.specs.Row.{Stands, Becomes}
use Rattle.layout.specs.Keep.{table-row}
use Rattle.layout.specs.Places.{means-hand}
use Rattle.layout.specs.Room.{Sizes, sizes-of}
use Rattle.layout.specs.Ordering.{Rising, rising-of}
use Rattle.layout.specs.Left.{Left, left-desc}
use Rattle.layout.specs.Asked.{request_in, hand_in}
use Rattle.taking.specs.Found as F
use Rattle.taking.specs.Found.{stage-take}

-- The session record of a scan that has taken key k.
unfoldable pub took_key : Session → ℕ → Session
took_key x k =
    record {
      begun = x.begun;
      code = x.code;
      entry = x.entry;
      first = x.first;
      second = x.second;
      stage = x.stage;
      target = x.target;
      at = x.at;
      level = x.level;
      low = x.low;
      high = x.high;
      last = k;
      undo = x.undo;
      order = x.order;
      asked = x.asked;
    }

-- A locate's first key is not 0.
first_key : (c f g : ℕ) → c ≡ 5 → bad_key c f g ≡ false → ¬ (f ≡ 0)
first_key c f g e b = go f g (subst (λ n. bad_key n f g ≡ false) e b)
  where
    go : (f g : ℕ) → bad_key 5 f g ≡ false → ¬ (f ≡ 0)
    go f g b = let n = neither (infinite f) (infinite g) b in eqb-not f 0 (neither (eqb f 0) (leb top f) n.0).0

took-hand : (x : Session) (k : ℕ) → x.stage ≡ 5 → ¬ (k ≡ 0) → hand_of (took_key x k) ≡ some (in_stage (take (suc k)) (request_in x))
unfolding took_key request_in
took-hand x k e n =
    hand_in (took_key x k) (λ q. omega (arith, q, e))
    ∙ ap (λ g. some (in_stage g (request_in x))) (stage-take (took_key x k) e ∙ ap (λ b. take (cond b x.first (suc k))) (ne_eqb k 0 n))

-- The lock and the gap's, whatever the session table.
pass-left : (s : List ℕ) (t : List Session) (L : Lay) → Holds s t L → Sizes L → Rising L → (p k d : ℕ) → p ≤ width → Has k d (leaves_in L)
    → Left s t L (pass_at s (M-of s) d p) (on_desc k (hold_desc (held_by p) same (held_by p)))
unfolding pass_at with_holders
pass-left s t L H Z o p k d l h = left-desc (held_by p) (λ n. n) (held_by p) (λ n. n) s t L H Z o k d h p l

took-fits : (L L' : Lay) (p k : ℕ) (x : Session) → ((i d : ℕ) → Has i d (leaves_in L) → Has i d (leaves_in L')) → x.stage ≡ 5 → x.first ≤ k → HandFits L p x → HandFits L' p (took_key x k)
unfolding took_key
took-fits L L' p k x has e h F = record {
  stage = F.stage;
  at-node = λ q. absurd (omega (arith, q, e));
  low = λ n q. has x.first x.low (F.low n q);
  high = λ q n. has x.second x.high (F.high q n);
  last = λ q. inr h;
}

module _ (s : List ℕ) (t : List Session) (A : Stands s t) (p : ℕ) (party : p ≤ width) (stage : (session_at t p).stage ≡ 5) where
  abbrev x : Session
  x = session_at t p

  abbrev d : ℕ
  d = F.next_record s t A p party stage

  abbrev k : ℕ
  k = (F.next_desc s t A p party stage).key

  pub first-proper : ¬ (x.first ≡ 0)
  unfolding request_in
  first-proper =
      first_key x.code x.first x.second (F.passing s t A p party stage).code_5
      (A.sound.checked p (request_in x) (F.in_hand s t A p party stage)).1.1.0

  pub first-upto : x.first ≤ k
  unfolding request_in
  first-upto = omega (arith, (F.passing s t A p party stage).from_first, F.next-from s t A p party stage)

  pub take-pass : Becomes s (pass_at s (M-of s) d p) (set t p (took_key x k)) (goes_on p (request_in x) (take (suc k)) (passed_state p (F.next_desc s t A p party stage) (means A.lay t))).next
  unfolding goes_on
  take-pass =
      let L = A.lay in
      let W = pass-left s t L A.holds (sizes-of L t A.sound) (rising-of L t A.sound) p k d party (F.next-has s t A p party stage) in
      let y = took_key x k in
      let seat : p < length t = omega (arith, A.holds.seats, party) in
      record {
        lay = W.lay;
        holds = table-row (pass_at s (M-of s) d p) t W.lay W.holds p y party (unfold took_key in refl) (took-fits L W.lay p k x W.has stage first-upto (A.holds.hands p party));
        means_next = means-hand W.lay t p y seat (unfold took_key in refl) ∙ ap (λ z. set_hand p z (means W.lay t)) (took-hand x k stage (λ e. first-proper (let f = first-upto in omega arith)))
            ∙ ap (set_hand p (some (in_stage (take (suc k)) (request_in x)))) (W.is t);
        long = W.written.long;
        entries = W.written.entries;
        records = W.written.records;
        rest = W.written.rest;
      }
