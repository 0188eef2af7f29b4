-- The step of a locate that takes a descriptor, on words, is the machine's.
use Rattle.std.specs.Prelude.{◌≡◌, Bool, ℕ, suc, ◌*◌, ◌≤◌, leb, ltb, set}
use Rattle.std.proofs.Math.Path.{refl, sym, ap, ap₂, subst}
use Rattle.std.proofs.Common.{◌∙◌, arith, eq-eqb, ne_eqb}
use Rattle.std.proofs.Math.Bool.{true, false, cond}
use mathlib.Core.List.{List, [], ◌∷◌}
use Rattle.std.proofs.Math.ListN.{length}
use Rattle.words.specs.Store.{word_of}
use Rattle.locks.specs.Holders.{word_bits, first_of}
use Rattle.locks.specs.Holders as H
use Rattle.sessions.specs.declared.Session.{Session}
use Rattle.sessions.specs.Sessions.{session_at}
use Rattle.outcomes.specs.declared.Answer.TheVariants.{Done, Refused}
use Rattle.outcomes.specs.Said.{said, Stepped}
use Rattle.members.specs.Members.{pass_at, locate_at}
use Rattle.endings.specs.Table.{idled}
use Rattle.finishing.specs.Finishing.{end_request}
use Rattle.finishing.proofs.Ended.{refused-moves}
use Rattle.serial.specs.Locks.{weak}
use Rattle.machine.specs.Logic.{leb_yes}
use Rattle.machine.specs.Holders.{width}
use Rattle.machine.specs.State.{Desc, State, Request, Outcome, take, done, refused}
use Rattle.machine.specs.Steps.{group_blockers, guarded, goes_on, passed_state, located_state, ended, last_take, take_desc, take_step, answer, next_step}
use Rattle.machine.proofs.Nearest.{takes_of}
use Rattle.meaning.specs.Reading.{M-of, R-of}
use Rattle.meaning.specs.Sound.{All}
use Rattle.meaning.specs.Numbers.{all_right}
use Rattle.meaning.specs.Lens.{leaves_before, leaves_behind}
use Rattle.layout.specs.Layout.{DescFits, means}
use Rattle.layout.specs.Row.{Stands, Becomes, Moves}
use Rattle.layout.specs.Walks.{descs-fit}
use Rattle.layout.specs.Asked.{request_in, wait-moves}
use Rattle.taking.specs.Found as F
use Rattle.taking.specs.Found.{next_key}
use Rattle.taking.specs.Pass.{took_key, take-pass}
use Rattle.taking.specs.Last.{found, last-count, take_last}
use Rattle.taking.specs.Blocked.{blockers-are, blocker-proper}
use Rattle.taking.specs.Taking.{in_way_of, found_in, wait_step, pass_step, done_step, short_step, last_step, free_step, take_step_of}

module _ (s : List ℕ) (t : List Session) (A : Stands s t) (p : ℕ) (party : p ≤ width) (stage : (session_at t p).stage ≡ 5) where
  abbrev pub x : Session
  x = session_at t p

  abbrev pub r : Request
  r = request_in (session_at t p)

  abbrev pub σ : State
  σ = means A.lay t

  abbrev pub d : ℕ
  d = F.next_record s t A p party stage

  abbrev pub D : Desc
  D = F.next_desc s t A p party stage

  abbrev MovesBy : Stepped → Outcome → Type 0
  MovesBy z o = Moves s t p z.words z.session (said z.answer) o

  -- ---- the words of the next descriptor

  next_fits : DescFits s (M-of s) (F.take_place s t A p party stage).leaf
  next_fits =
      let P = F.take_place s t A p party stage in
      (all_right (DescFits s (M-of s)) (leaves_before P.around) (P.leaf ∷ leaves_behind P.around) (subst (All (DescFits s (M-of s))) P.was (descs-fit s t A.lay A.holds A.sound))).0

  at-word : (j : ℕ) → word_of s (M-of s) d j ≡ word_of s (M-of s) (F.take_place s t A p party stage).leaf.num j
  at-word j = ap (λ i. word_of s (M-of s) i j) (sym (F.take_place s t A p party stage).num)

  pub word-key : word_of s (M-of s) d 1 ≡ D.key
  word-key = at-word 1 ∙ next_fits.key ∙ ap (λ y. y.key) (F.take-desc-is s t A p party stage)

  pub word-locate : word_of s (M-of s) d 2 ≡ D.locate
  word-locate = at-word 2 ∙ next_fits.locate ∙ ap (λ y. y.locate) (F.take-desc-is s t A p party stage)

  pub word-update : word_of s (M-of s) d 3 ≡ D.update
  word-update = at-word 3 ∙ next_fits.update ∙ ap (λ y. y.update) (F.take-desc-is s t A p party stage)

  pub in-way : in_way_of s (M-of s) d p ≡ first_of (group_blockers weak p D)
  unfolding in_way_of
  in-way =
      let N = (takes_of A.sound p r (next_key x) (F.in_hand s t A p party stage) (F.in_take s t A p party stage)).next in
      ap₂ (λ a b. first_of (H.blockers word_bits 1 0 p a b)) (word-locate ∙ ap (λ y. y.locate) (sym N.same)) (word-update ∙ ap (λ y. y.update) (sym N.same))
      ∙ ap first_of (blockers-are A.sound D.key p N.K) ∙ ap (λ y. first_of (group_blockers weak p y)) N.same

  -- ---- what is done when nobody is in the way

  pass-moves : MovesBy (pass_step s (M-of s) d p x) (goes_on p r (take (suc D.key)) (passed_state p D σ))
  unfolding pass_step goes_on
  pass-moves = record {
    becomes = subst (λ j. Becomes s (pass_at s (M-of s) d p) (set t p (took_key x j)) (goes_on p r (take (suc D.key)) (passed_state p D σ)).next) (sym word-key) (take-pass s t A p party stage);
    tells = refl;
  }

  abbrev pub l : List (ℕ × ℕ)
  l = found s t A p party stage

  module _ (n : ℕ) where
    abbrev done_by : ℕ → Stepped
    done_by c = record { words = end_request (locate_at s (M-of s) d p) (M-of s) x; session = idled x; answer = Done c }

    abbrev short_by : ℕ → Stepped
    short_by c = record { words = end_request s (M-of s) x; session = idled x; answer = Refused 12 c }

    abbrev pub done_out : Outcome
    done_out = record { answer = done (length l ∷ []); next = ended p r (located_state p D σ); written = l }

    abbrev pub short_out : Outcome
    short_out = answer (refused 12 (length l)) (ended p r σ)

    last-by : (b : Bool) → MovesBy (cond b (done_by (length l)) (short_by (length l))) (cond b done_out short_out)
    last-by true = record { becomes = take_last s t A p party stage; tells = refl }
    last-by false = refused-moves s t A.lay A.holds A.sound p party (λ e. omega (arith, e, stage)) 12 (length l)

    last-moves : MovesBy (last_step s (M-of s) (R-of s) n d p x) (last_take n p r l D σ)
    unfolding last_step done_step short_step found_in last_take
    last-moves =
        subst (λ c. MovesBy (cond (leb (2 * c) n) (done_by c) (short_by c)) (cond (leb (2 * length l) n) done_out short_out)) (sym (last-count s t A p party stage)) (last-by (leb (2 * length l) n))

    abbrev pub free_out : Outcome
    free_out = cond (ltb D.key x.second) (goes_on p r (take (suc D.key)) (passed_state p D σ)) (last_take n p r l D σ)

    free-moves : MovesBy (free_step s (M-of s) (R-of s) n d p x) free_out
    unfolding free_step
    free-moves =
        subst (λ k. MovesBy (cond (ltb k x.second) (pass_step s (M-of s) d p x) (last_step s (M-of s) (R-of s) n d p x)) free_out) (sym word-key) (go (ltb D.key x.second))
      where
        go : (b : Bool) → MovesBy (cond b (pass_step s (M-of s) d p x) (last_step s (M-of s) (R-of s) n d p x)) (cond b (goes_on p r (take (suc D.key)) (passed_state p D σ)) (last_take n p r l D σ))
        go true = pass-moves
        go false = last-moves

    -- ---- the whole

    guard-moves : (bs : List ℕ) → group_blockers weak p D ≡ bs → MovesBy (take_step_of s (M-of s) (R-of s) n p x) (guarded bs 0 p r σ free_out)
    unfolding take_step_of guarded wait_step
    guard-moves [] e =
        rw (eq-eqb (in_way_of s (M-of s) d p) 0 (in-way ∙ ap first_of e), leb_yes 0 σ.free (omega arith)) free-moves
    guard-moves (b ∷ bs) e =
        let q : in_way_of s (M-of s) d p ≡ b = in-way ∙ ap first_of e in
        rw (ne_eqb (in_way_of s (M-of s) d p) 0 (λ z. blocker-proper p D b bs e (sym q ∙ z)))
        (wait-moves s t A p (in_way_of s (M-of s) d p) b bs q)

    pub take-moves : MovesBy (take_step_of s (M-of s) (R-of s) n p x) (take_step n p r (next_key x) σ)
    unfolding take_step take_desc request_in
    take-moves = guard-moves (group_blockers weak p D) refl

    -- ---- the lent list

    -- As the step that is next.
    pub take_next : take_step n p r (next_key x) σ ≡ next_step n p r σ r.stage
    unfolding next_step
    take_next = sym (ap (next_step n p r σ) (F.in_take s t A p party stage))
