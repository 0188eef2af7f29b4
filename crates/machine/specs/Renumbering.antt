-- Soundness is kept where the begun sessions are numbered anew: nothing else of the state changes, and of two of them the one with the lower number keeps it.
use Rattle.std.specs.Prelude.{◌≡◌, refl, Bool, true, false, map, suc, ◌≤◌, ◌<◌, ℕ, leb, length}
use Rattle.std.proofs.Common.{sym, ◌∙◌, subst, arith}
use Rattle.std.proofs.lemmas.List.{length-map}
use Rattle.serial.specs.Locks.{Kind, Mode}
use Rattle.machine.specs.Logic.{leb-is, leb-not}
use Rattle.machine.specs.State.{State, session_of, with_table}
use Rattle.machine.specs.Calls.{earlier, begun_many, rank, ranked, renumbered}
use Rattle.machine.specs.View.{holders, frame-holders}
use Rattle.machine.specs.Sound.{pins_by, Undoable, cells, Sound, Formed, Latches, Keyed, latches-of, sound-from}
use Rattle.machine.specs.Table.{ranked-kept, renumbered-kept, renumbered-order}
use Rattle.machine.specs.Totals.{total-map}
use Rattle.machine.specs.Latch.{kept-latches}
use Rattle.machine.specs.Effects.{Remains, stands-kept, undoable-kept}
use Rattle.machine.specs.Ranks.{earlier_more, earlier-below, rank_most}

-- ---- ranks of a state's begun sessions

-- Of two numbers the lower has the lower rank, if it is a begun session's; and no other.
pub rank_less : (p q : ℕ) (s : State) → (session_of p s).begun ≡ true → (session_of p s).order < (session_of q s).order
    → earlier (session_of p s).order s.table < earlier (session_of q s).order s.table
unfolding session_of
rank_less p q s b h = let i = earlier-below s.table p (session_of q s).order b h in omega arith

pub less-rank : (p q : ℕ) (s : State) → earlier (session_of p s).order s.table < earlier (session_of q s).order s.table → (session_of p s).order < (session_of q s).order
less-rank p q s h = go (leb (suc (session_of p s).order) (session_of q s).order) refl
  where
    go : (b : Bool) → leb (suc (session_of p s).order) (session_of q s).order ≡ b → (session_of p s).order < (session_of q s).order
    go true e = leb-is (suc (session_of p s).order) (session_of q s).order e
    go false e =
        let i = leb-not (suc (session_of p s).order) (session_of q s).order e in
        absurd (omega (arith, h, earlier_more (session_of q s).order (session_of p s).order s.table (omega (arith, i))))

same_rank : (p q : ℕ) (s : State) → (session_of p s).begun ≡ true → (session_of q s).begun ≡ true
    → earlier (session_of p s).order s.table ≡ earlier (session_of q s).order s.table → (session_of p s).order ≡ (session_of q s).order
same_rank p q s u v e =
    let below : ¬ ((session_of p s).order < (session_of q s).order) = λ h. omega (arith, e, rank_less p q s u h) in
    let above : ¬ ((session_of q s).order < (session_of p s).order) = λ h. omega (arith, e, rank_less q p s v h) in
    omega (arith, below, above)

-- A begun session's number is at most how many are begun.
pub number-most : (q : ℕ) (s : State) → (session_of q s).begun ≡ true → (session_of q (renumbered s)).order ≤ begun_many s.table
unfolding session_of
number-most q s b = let e = renumbered-order q s b in let i = rank_most s.table q b in omega arith

-- ---- soundness

module _ (s : State) (S : Sound s) where
  abbrev anew : State
  anew = with_table (map (ranked s.table) s.table) s

  begun_same : (q : ℕ) → (session_of q anew).begun ≡ (session_of q s).begun
  unfolding renumbered
  begun_same q = renumbered-kept (λ x. x.begun) (λ n x. refl) q s

  hand_same : (q : ℕ) → (session_of q anew).hand ≡ (session_of q s).hand
  unfolding renumbered
  hand_same q = renumbered-kept (λ x. x.hand) (λ n x. refl) q s

  undos_same : (q : ℕ) → (session_of q anew).undos ≡ (session_of q s).undos
  unfolding renumbered
  undos_same q = renumbered-kept (λ x. x.undos) (λ n x. refl) q s

  asked-same : (q : ℕ) → (session_of q anew).asked ≡ (session_of q s).asked
  unfolding renumbered
  asked-same q = renumbered-kept (λ x. x.asked) (λ n x. refl) q s

  ranks : (q : ℕ) → (session_of q anew).begun ≡ true → (session_of q anew).order ≡ rank s.table (session_of q s)
  unfolding renumbered
  ranks q b = renumbered-order q s (sym (begun_same q) ∙ b)

  holders_same : (k : Kind) (m : Mode) (q z : ℕ) → holders anew k m q z ≡ holders s k m q z
  holders_same = frame-holders s anew refl refl

  remains : (q : ℕ) → Remains q s anew
  remains q = record { many = refl; held = λ k m z e. holders_same k m q z ∙ e; gaps = λ z e. e; chosen = λ i z e. e; updated = λ z u e. e }

  anew-orders : (p q : ℕ) → (session_of p anew).begun ≡ true → (session_of q anew).begun ≡ true → (session_of p anew).order ≡ (session_of q anew).order → p ≡ q
  anew-orders p q u v e =
      let a = sym (begun_same p) ∙ u in
      let b = sym (begun_same q) ∙ v in
      S.orders p q a b (same_rank p q s a b (omega (arith, e, ranks p u, ranks q v)))

  anew-formed : Formed anew
  anew-formed = record { shaped = S.shaped; counted = omega (arith, S.counted, total-map (λ y. length y.undos) (ranked s.table) (ranked-kept (λ y. length y.undos) (λ n x. refl) s.table) s.table) }

  anew-latches : Latches anew
  anew-latches = kept-latches s anew refl hand_same (latches-of S)

  anew-keyed : Keyed anew
  anew-keyed = record {
    sizes = S.sizes;
    seats = length-map s.table (ranked s.table) ∙ S.seats;
    zero_stored = S.zero_stored;
    zero_empty = S.zero_empty;
    top_free = S.top_free;
    listed = S.listed;
    only_begun = λ k m q z u. begun_same q ∙ S.only_begun k m q z (sym (holders_same k m q z) ∙ u);
    only_begun_gaps = λ q z u. begun_same q ∙ S.only_begun_gaps q z u;
    agree = λ k m n a b z u v. S.agree k m n a b z (sym (holders_same k m a z) ∙ u) (sym (holders_same k n b z) ∙ v);
    unbegun_hand = λ q e. hand_same (suc q) ∙ S.unbegun_hand q (sym (begun_same (suc q)) ∙ e);
    unbegun_undos = λ q e. undos_same q ∙ S.unbegun_undos q (sym (begun_same q) ∙ e);
    zero_unmarked = begun_same 0 ∙ S.zero_unmarked;
    orders = anew-orders;
    only_asked = λ q e. let o = S.only_asked q (sym (asked-same q) ∙ e) in (begun_same q ∙ o.0, hand_same q ∙ o.1);
    pins_match = λ k. S.pins_match k ∙ sym (total-map (pins_by k) (ranked s.table) (ranked-kept (pins_by k) (λ n x. refl) s.table) s.table);
    checked = λ q r e. S.checked q r (sym (hand_same q) ∙ e);
    standing = λ q r e. let o = sym (hand_same q) ∙ e in stands-kept q s anew (remains q) r r.stage (S.checked q r o).0 (S.standing q r o);
    undoable = λ q. subst (λ us. Undoable q anew us (cells s)) (sym (undos_same q)) (undoable-kept q s anew (remains q) (session_of q s).undos (cells s) (cells s) (λ k e i. refl) (S.undoable q));
  }

  pub renumbered-sound : Sound (renumbered s)
  unfolding renumbered
  renumbered-sound = sound-from anew-formed anew-latches anew-keyed
