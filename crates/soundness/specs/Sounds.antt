-- From the parts to Sound: a store and a table of which every part holds are sound.
use Rattle.std.specs.Prelude.{◌≡◌, refl, true, false, List, [], ◌∷◌, map, ℕ, zero, suc, ◌-◌, ◌≤◌, length}
use Rattle.std.proofs.Common.{sym, subst, ◌∙◌, arith}
use Rattle.std.proofs.Math.Path.{ap}
use Rattle.std.proofs.Math.Option.{Option, none, some}
use Rattle.std.proofs.Math.Decide.{dec_le}
use Rattle.std.proofs.Math.ListN.{get_or-eq_default}
use Rattle.sessions.specs.declared.Session.{Session}
use Rattle.sessions.specs.Sessions.{session_at, idle_session}
use Rattle.marks.specs.Steps.{no as never}
use Rattle.serial.specs.Locks.{Kind, Mode, strong}
use Rattle.serial.specs.Locks as L
use Rattle.machine.specs.Holders.{width, holds}
use Rattle.machine.specs.State.{Stage, start, enter, at, change, take, Request, State, session_of}
use Rattle.machine.specs.Steps.{rule}
use Rattle.machine.specs.Calls.{request_checks}
use Rattle.machine.specs.View.{holders, group_in, seen}
use Rattle.machine.specs.Sound as M
use Rattle.machine.specs.Sound.{stored_in, of_hand, Stands, gap_word, Passes}
use Rattle.meaning.specs.Reading.{Leaf, undo_at, hand_of, stage_of, M-of, R-of, tree_of, meaning}
use Rattle.meaning.specs.Sound.{All, leaves_of, Members}
use Rattle.meaning.specs.Sound as S
use Rattle.meaning.specs.Table.{sessions-many}
use Rattle.soundness.specs.Marking.{all-as}
use Rattle.soundness.specs.HeldTests.{zero-meaning}
use Rattle.soundness.specs.UndosPass.{chain-of}
use Rattle.soundness.specs.UndoLeaves.{leaves-meant, leaves-read}
use Rattle.soundness.specs.Counted.{met-many}
use Rattle.soundness.specs.Leaves.{entries-meaning}
use Rattle.soundness.specs.GroupsHeld.{sound-locate}
use Rattle.soundness.specs.PartyMeaning.{meaning-hand, request_of, next_of, hand-some, hand-none, stage-1, stage-2, stage-3, stage-4, stage-5, Staged, staged_1, staged_2, staged_3, staged_4, staged_5, staged, argued, StandsBut, HoldsPassed, stands_from}
use Rattle.soundness.specs.PartiesPass.{Requests, parties-requests}
use Rattle.soundness.specs.UndoNeeds.{Secured, range-meant}
use Rattle.soundness.specs.UndoCells.{entry-of}
use Rattle.soundness.specs.UndoingPass.{undos-meant, undos-none}
use Rattle.soundness.specs.Lowest.{lowest-found}
use Rattle.soundness.specs.SizesPass.{Sizes}
use Rattle.soundness.specs.Tested.{toured}
use Rattle.soundness.specs.Reach.{reach-once, reach-inside, reach-many}
use Rattle.soundness.specs.Parts.{Table, Parts}
use Rattle.soundness.specs.Walked.{known}

abbrev σ : List ℕ → List Session → State
σ s t = meaning s t

-- ---- stages

abbrev stage_tag : Stage → ℕ
stage_tag start = 1
stage_tag (enter x) = 2
stage_tag (at x) = 3
stage_tag change = 4
stage_tag (take x) = 5

abbrev place_of : Stage → ℕ
place_of start = 0
place_of (enter x) = 0
place_of (at x) = 0
place_of change = 0
place_of (take x) = x

pub taking-stage : (x : Session) (k : ℕ) → ¬ (x.stage ≡ 0) → x.stage ≤ 5 → stage_of x ≡ take k → (x.stage ≡ 5) × (next_of x ≡ k)
taking-stage x k n h e = go (staged x n h)
  where
    go : Staged x → (x.stage ≡ 5) × (next_of x ≡ k)
    go (staged_1 q) = absurd (omega (arith, ap stage_tag (sym (stage-1 x q) ∙ e)))
    go (staged_2 q) = absurd (omega (arith, ap stage_tag (sym (stage-2 x q) ∙ e)))
    go (staged_3 q) = absurd (omega (arith, ap stage_tag (sym (stage-3 x q) ∙ e)))
    go (staged_4 q) = absurd (omega (arith, ap stage_tag (sym (stage-4 x q) ∙ e)))
    go (staged_5 q) = (q, ap place_of (sym (stage-5 x q) ∙ e))

-- A request in hand is that of the party's record.
pub record InHand (t : List Session) (p : ℕ) (r : Request) : Type 0 where
  pub seat : p ≤ width
  pub busy : ¬ ((session_at t p).stage ≡ 0)
  pub is : request_of (session_at t p) ≡ r

pub in_hand : (s : List ℕ) (t : List Session) → length t ≡ suc width → (p : ℕ) (r : Request) → (session_of p (meaning s t)).hand ≡ some r → InHand t p r
in_hand s t table p r e = record { seat = seat (dec_le p width); busy = busy; is = ap (of_hand (request_of (session_at t p)) (λ q. q)) (sym (hand-some (session_at t p) busy) ∙ h) }
  where
    h : hand_of (session_at t p) ≡ some r
    h = sym (meaning-hand s t p) ∙ e

    full : (o : Option Request) → o ≡ some r → o ≡ none → ⊥
    full o a b = omega (arith, ap (of_hand {B = ℕ} 0 (λ q. 1)) (sym a ∙ b))

    busy : ¬ ((session_at t p).stage ≡ 0)
    busy z = full (hand_of (session_at t p)) h (hand-none (session_at t p) z)

    seat : Dec (p ≤ width) → p ≤ width
    seat (yes l) = l
    seat (no n) = absurd (busy (ap (λ (x : Session). x.stage) (get_or-eq_default t idle_session (omega (arith, n, table)))))

-- ---- the direction

module _ (s : List ℕ) (t : List Session) (T : Table t) (P : Parts s t) where
  abbrev m : ℕ
  m = M-of s

  abbrev r : ℕ
  r = R-of s

  abbrev Z : Sizes s
  Z = P.sizes

  seats : length t ≤ suc width
  seats = omega (arith, T.seats)

  requests : Requests s t
  requests = parties-requests s (toured s).seen t (known s t Z T P.tree) T.seats T.words P.requests P.latches

  only_begun : (k : Kind) (n : Mode) (p z : ℕ) → holders (σ s t) k n p z ≡ true → (session_of p (σ s t)).begun ≡ true
  only_begun L.entry n p z h = P.entries.only_begun n p z h
  only_begun L.group n p z h = P.groups.held.only_begun n p z h

  unbegun_undos : (p : ℕ) → (session_of p (σ s t)).begun ≡ false → (session_of p (σ s t)).undos ≡ []
  unbegun_undos zero e = undos-none s t seats 0 (λ a b. omega (arith, a))
  unbegun_undos (suc k) e = go (dec_le (suc k) width)
    where
      none_in : (l : List ℕ) → All (Secured s (suc k)) l → l ≡ []
      none_in [] a = refl
      none_in (i ∷ l) a =
          let h = (range-meant s t (suc k) (entry-of s m i) a.0.entry a.0.excluded).1 in
          never (sym e ∙ P.entries.only_begun strong (suc k) (entry-of s m i) h)

      go : Dec (suc k ≤ width) → (session_of (suc k) (σ s t)).undos ≡ []
      go (yes h) =
          undos-meant s t k ∙ ap (map (undo_at s m)) (none_in (chain-of s m r t (suc k)) (P.undos.secured k h))
      go (no n) = undos-none s t seats (suc k) (λ a b. n b)

  standing : (p : ℕ) (q : Request) → (session_of p (σ s t)).hand ≡ some q → Stands p (σ s t) q q.stage
  standing p q e = stands_from p (σ s t) q q.stage (requests.standing p q e) passed
    where
      x : Session
      x = session_at t p

      I : InHand t p q
      I = in_hand s t T.seats p q e

      passed : (k : ℕ) → q.stage ≡ take k → HoldsPassed p (σ s t) q k
      passed k g =
          let w = taking-stage x k I.busy (requests.hands p I.seat).stage (ap (λ (z : Request). z.stage) I.is ∙ g) in
          let c : StandsBut p (σ s t) q (take k) = subst (StandsBut p (σ s t) q) g (requests.standing p q e) in
          let a = argued p x (σ s t) m (entries-meaning s t) (subst (λ (z : Request). Passes (request_checks p z.code z.entry z.first z.second (σ s t))) (sym I.is) (requests.checked p q e)) in
          let f : q.first ≡ x.first = ap (λ (z : Request). z.first) (sym I.is) in
          let b : x.code ≡ 5 = ap (λ (z : Request). z.code) I.is ∙ c.code_5 in
          let n : ¬ (p ≡ 0) = a.coded.session (omega (arith, b)) in
          let H = sound-locate s t P.groups.held p (omega (arith, n)) I.seat w.0 in
          record {
            held = λ j l h. H.held j (omega (arith, f, l)) (omega (arith, w.1, h));
            ahead = λ h. ap (λ (z : ℕ). holds (gap_word z (seen (σ s t))) p) (let z : k - 1 ≡ next_of x - 1 = omega (arith, w.1) in z) ∙ H.ahead (omega (arith, f, h, w.1));
          }

  -- The state that the words mean is sound,
  state-sound : M.Sound (σ s t)
  unfolding meaning tree_of
  state-sound =
      let n = entries-meaning s t in
      let low = lowest-found s (leaves_of s) (leaves-read s) P.tree.chained P.zero_first in
      record {
        sizes = (omega (arith, n, Z.entries.0), omega (arith, n, Z.entries.1), Z.records.0, Z.records.1);
        seats = sessions-many s m r 0 t ∙ T.seats;
        counted = met-many s t T.seats (all-as (λ (l : Leaf) (c : Members s l.num). c.once) (leaves_of s) P.groups.members)
            ∙ (reach-many s t T.seats P.free.reached.inside P.free.reached.once).1 P.all_reached;
        shaped = P.tree.shaped;
        zero_stored = ap (stored_in 0) (leaves-meant s t) ∙ low.0;
        zero_empty = ap (group_in 0) (leaves-meant s t) ∙ low.1;
        top_free = P.tree.top_free;
        listed = P.groups.listed;
        only_begun = only_begun;
        only_begun_gaps = P.groups.held.only_begun_gaps;
        agree = agree;
        unbegun_hand = requests.unbegun_hand;
        unbegun_undos = unbegun_undos;
        zero_unmarked = zero-meaning s t;
        orders = P.orders;
        only_asked = P.marks;
        pins_match = P.groups.pins_match;
        latches_match = P.latches;
        placed = requests.placed;
        checked = requests.checked;
        standing = standing;
        undoable = P.groups.undoable;
      }
    where
      agree : L.Agree rule (holders (σ s t))
      agree L.entry = P.entries.agrees
      agree L.group = P.groups.held.agrees

  -- and so are the words.
  pub parts-sound : S.Sound s t
  parts-sound = record {
    header = Z.header;
    sized = Z.sized;
    rooted = P.tree.rooted;
    once = reach-once s t T.seats P.free.reached.inside P.free.reached.once P.all_reached;
    no_other = reach-inside s t T.seats P.free.reached.inside P.free.reached.once;
    free_ends = P.free.ends;
    undos_end = P.undos.ends;
    few = P.tree.few;
    chained = P.tree.chained;
    members = P.groups.members;
    state = state-sound;
    hands = requests.hands;
    undo_words = P.groups.undo_words;
  }
