-- From Sound to the parts: every part holds of a sound store and table. And both directions together: the test answers 0 exactly if Sound.
use Rattle.std.specs.Prelude.{◌≡◌, true, List, ◌++◌, ◌⊎◌, ◌↔◌, ℕ, ◌≤◌}
use Rattle.std.proofs.Common.{sym, ap, subst, ◌∙◌, append_assoc, inl, inr, arith, eq-eqb, eqb-true}
use Rattle.std.proofs.Math.Option.{some}
use Rattle.std.proofs.Math.Decide.{ℕ_discrete}
use Rattle.sessions.specs.declared.Session.{Session}
use Rattle.sessions.specs.Sessions.{session_at}
use Rattle.serial.specs.Locks as L
use Rattle.machine.specs.State.{take, State, session_of}
use Rattle.machine.specs.Groups.{Rises}
use Rattle.machine.specs.Housekeeping.{lvs}
use Rattle.machine.specs.View.{group_in}
use Rattle.machine.specs.Sound.{stored_in, Stands}
use Rattle.meaning.specs.Reading.{Leaf, M-of, R-of, free_chain, meaning}
use Rattle.meaning.specs.Sound.{leaves_of, Members}
use Rattle.meaning.specs.Sound as S
use Rattle.sound.specs.Sound.{first_fault, is_sound}
use Rattle.soundness.specs.Marking.{Among, all-as, all_left, once-left}
use Rattle.soundness.specs.HeldTests.{EntriesHeld}
use Rattle.soundness.specs.UndoLeaves.{leaves-meant, leaves-read}
use Rattle.soundness.specs.Leaves.{stored_records, entries-meaning}
use Rattle.soundness.specs.MembersHeld.{all_map}
use Rattle.soundness.specs.GroupsHeld.{Taking, GroupsSound, LocateHeld, locate-passed, locate-ahead}
use Rattle.soundness.specs.PartyMeaning.{meaning-hand, request_of, next_of, hand-some, stage-5}
use Rattle.soundness.specs.PartiesPass.{requests-parties}
use Rattle.soundness.specs.PartyPins.{requests_of}
use Rattle.soundness.specs.UndoingPass.{sound-sessions, sessions-secured}
use Rattle.soundness.specs.Lowest.{lowest-walks}
use Rattle.soundness.specs.SizesPass.{Sizes}
use Rattle.soundness.specs.Tested.{toured}
use Rattle.soundness.specs.Reach.{tree_records, undo_records, member_records, met, reach-apart}
use Rattle.soundness.specs.Parts.{Table, Distinct, ZeroFirst, TreeInOrder, UndosInOrder, GroupsInOrder, Part, Parts, parts-each}
use Rattle.soundness.specs.Walked.{known, rising, leaf-inside}
use Rattle.soundness.specs.Named.{none-broken, fault-broken}
use Rattle.soundness.specs.Sounds.{parts-sound}

abbrev σ : List ℕ → List Session → State
σ s t = meaning s t

module _ (s : List ℕ) (t : List Session) (T : Table t) (D : S.Sound s t) where
  abbrev m : ℕ
  m = M-of s

  abbrev r : ℕ
  r = R-of s

  sizes : Sizes s
  unfolding meaning
  sizes =
      let n = entries-meaning s t in
      let z = D.state.sizes in
      record { header = D.header; entries = (omega (arith, n, z.0), omega (arith, n, z.1)); records = (z.2, z.3); sized = D.sized }

  all-met : Distinct s (met s t)
  all-met = let a = reach-apart s t T.seats D.once D.no_other in record { inside = a.0; once = a.1 }

  first_of : (a b : List ℕ) → Distinct s (a ++ b) → Distinct s a
  first_of a b h = record { inside = all_left (Among r) a b h.inside; once = once-left a b h.once }

  tree : TreeInOrder s
  unfolding meaning
  tree = record {
    rooted = D.rooted;
    reached = first_of (tree_records s t) (undo_records s t ++ (member_records s t ++ free_chain s)) all-met;
    shaped = D.state.shaped;
    top_free = D.state.top_free;
    few = D.few;
    chained = D.chained;
  }

  rises : Rises 0 4294967296 (lvs (σ s t))
  rises = rising s t sizes T tree

  entries : EntriesHeld (σ s t)
  entries = record { only_begun = D.state.only_begun L.entry; agrees = D.state.agree L.entry }

  zero_first : ZeroFirst s
  zero_first =
      lowest-walks s (leaves_of s) 4294967296 (leaves-read s) D.chained
      ((all_map (λ d. d ≤ r) (λ (l : Leaf). l.num) (leaves_of s)).0 (all-as (λ d (b : Among r d). b.1) (stored_records s) (leaf-inside s t sizes T tree)))
      (subst (Rises 0 4294967296) (leaves-meant s t) rises)
      (all-as (λ (l : Leaf) (c : Members s l.num). c.ends) (leaves_of s) D.members)
      (sym (ap (stored_in 0) (leaves-meant s t)) ∙ D.state.zero_stored)
      (sym (ap (group_in 0) (leaves-meant s t)) ∙ D.state.zero_empty)

  -- ---- holders

  locate : (p : ℕ) → Taking t p → LocateHeld s t p
  locate p G =
      let x = session_at t p in
      let n : ¬ (x.stage ≡ 0) = λ z. omega (arith, z, G.takes) in
      let e : (session_of p (σ s t)).hand ≡ some (request_of x) = meaning-hand s t p ∙ hand-some x n in
      let c : Stands p (σ s t) (request_of x) (take (next_of x)) = subst (Stands p (σ s t) (request_of x)) (stage-5 x G.takes) (D.state.standing p (request_of x) e) in
      record { held = c.held; ahead = c.ahead }

  from_first : (p : ℕ) (G : Taking t p) → (session_at t p).first ≤ (session_at t p).last
  from_first p G = go ((D.hands p G.highest).last G.takes)
    where
      go : ((session_at t p).last ≡ 0) ⊎ ((session_at t p).first ≤ (session_at t p).last) → (session_at t p).first ≤ (session_at t p).last
      go (inl z) = absurd (G.taken z)
      go (inr h) = h

  held : GroupsSound s t
  held = record {
    only_begun = D.state.only_begun L.group;
    only_begun_gaps = D.state.only_begun_gaps;
    agrees = D.state.agree L.group;
    passed = λ p G. locate-passed s t p G (locate p G);
    ahead = λ p G. locate-ahead s t p G (from_first p G) (locate p G);
  }

  -- ---- undo records

  undos : UndosInOrder s t
  undos = record {
    ends = D.undos_end;
    secured = sessions-secured s t 0 4294967296 rises (sound-sessions s t D.undo_words D.state.undoable);
    reached = first_of (tree_records s t ++ undo_records s t) (member_records s t ++ free_chain s)
        (subst (Distinct s) (sym (append_assoc (tree_records s t) (undo_records s t) (member_records s t ++ free_chain s))) all-met);
  }

  groups : GroupsInOrder s t
  groups = record {
    listed = D.state.listed;
    members = D.members;
    reached = first_of (tree_records s t ++ (undo_records s t ++ member_records s t)) (free_chain s) (subst (Distinct s) regroup all-met);
    held = held;
    pins_match = D.state.pins_match;
    undo_words = D.undo_words;
    undoable = D.state.undoable;
  }
    where
      regroup : met s t ≡ (tree_records s t ++ (undo_records s t ++ member_records s t)) ++ free_chain s
      regroup =
          ap (λ (l : List ℕ). tree_records s t ++ l) (sym (append_assoc (undo_records s t) (member_records s t) (free_chain s)))
          ∙ sym (append_assoc (tree_records s t) (undo_records s t ++ member_records s t) (free_chain s))

  -- Every part holds of a sound store.
  sound-all : Parts s t
  sound-all = record {
    sizes = sizes;
    entries = entries;
    zero_first = zero_first;
    tree = tree;
    requests = requests-parties s (toured s).seen t (known s t sizes T tree) T.seats T.words (requests_of s t D.state D.hands);
    latches = D.state.latches_match;
    undos = undos;
    groups = groups;
    free = record { ends = D.free_ends; reached = all-met };
    all_reached = λ i a b. omega (arith, D.once i a b);
    seats = T.seats;
    orders = D.state.orders;
    marks = D.state.only_asked;
  }

-- ---- both

module _ (s : List ℕ) (t : List Session) (T : Table t) where
  -- A sound store breaks no part: so a part that is broken is a cause to refuse.
  pub sound-parts : S.Sound s t → (n : ℕ) → Part n s t
  sound-parts D = parts-each s t (sound-all s t T D)

  -- The test answers 0 exactly if Sound.
  pub fault-none : ((first_fault s t).fault ≡ 0) ↔ S.Sound s t
  fault-none = (λ e. parts-sound s t T (none-broken s t T e), λ D. go D (ℕ_discrete (first_fault s t).fault 0))
    where
      go : S.Sound s t → Dec ((first_fault s t).fault ≡ 0) → (first_fault s t).fault ≡ 0
      go D (yes e) = e
      go D (no n) = absurd (fault-broken s t T n (sound-parts D (first_fault s t).fault))

-- What passes the test is sound,
pub test-sound : (s : List ℕ) (t : List Session) → Table t → is_sound s t ≡ true → S.Sound s t
unfolding is_sound
test-sound s t T o = (fault-none s t T).0 (eqb-true (first_fault s t).fault 0 o)

-- and what is sound passes it.
pub sound-test : (s : List ℕ) (t : List Session) → Table t → S.Sound s t → is_sound s t ≡ true
unfolding is_sound
sound-test s t T D = eq-eqb (first_fault s t).fault 0 ((fault-none s t T).1 D)
