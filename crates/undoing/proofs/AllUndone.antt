-- Theorems of specs/AllUndone: what it defines is there.
use Rattle.std.specs.Prelude.{◌≡◌, Bool, cond, ℕ, zero, suc, ◌≤◌, ◌<◌, length}
use Rattle.std.proofs.Math.Path.{refl, ap}
use Rattle.std.proofs.Common.{sym, ap₂, subst, ◌∙◌, arith, eq-eqb, ne_eqb}
use mathlib.Core.List.{List, [], ◌∷◌, ◌++◌, map}
use Rattle.std.proofs.Math.ListN.{get_or, set}
use Rattle.std.proofs.lemmas.List.{length-map}
use Rattle.std.proofs.Math.Seq.{get_or-set_same, set-set}
use Rattle.words.specs.Store.{word_of}
use Rattle.sessions.specs.declared.Session.{Session}
use Rattle.sessions.specs.Sessions.{session_at}
use Rattle.machine.specs.Holders.{width}
use Rattle.machine.specs.State.{Undo, State, idle, session_of, with_table}
use Rattle.machine.specs.State as M
use Rattle.machine.specs.Calls.{undo-all}
use Rattle.machine.specs.Calls as C
use Rattle.machine.specs.Sound as S
use Rattle.machine.specs.Undoing.{with_undos, undo-sound}
use Rattle.meaning.specs.Reading.{M-of, R-of}
use Rattle.layout.specs.Layout.{Lay, Undone, means, UndosFit, Holds}
use Rattle.layout.specs.Keep.{table_here}
use Rattle.layout.specs.Asked.{set_same}
use Rattle.layout.specs.Ordering.{rising-of}
use Rattle.layout.specs.Room.{Sizes, sizes-of}
use Rattle.layout.specs.Short.{undos-short}
use Rattle.layout.specs.Written.{written_none, written_then}
use Rattle.undo_log.specs.Undoing.{Undoing, undo_one, undo_all, Undoings}
use Rattle.undoing.specs.Rows.{with_undo, Onward, undone_state, newest, mine-fit}
use Rattle.undoing.specs.OneUndone.{undos-means, sound-off}
use Rattle.undoing.proofs.OneUndone.{undo-one-row, sound-apt}
use Rattle.undoing.specs.AllUndone.{undo-all-with, all_undone_state, AllUndone}

-- ---- undoing and the session table

set-get : (l : List M.Session) (p : ℕ) (z : M.Session) → set l p (get_or l p z) ≡ l
set-get [] zero z = refl
set-get [] (suc p) z = refl
set-get (x ∷ l) zero z = refl
set-get (x ∷ l) (suc p) z = ap (λ y. x ∷ y) (set-get l p z)

-- ---- the whole chain

undo-none : (s : List ℕ) (m n i : ℕ) → i ≡ 0 → undo_all s m n i ≡ s
unfolding undo_all
undo-none s m zero i e = refl
undo-none s m (suc n) i e = ap (λ (b : Bool). cond b s (undo_all (undo_one s m i) m n (word_of s m i 0))) (eq-eqb i 0 e)

ready-none : (s : List ℕ) (m n i : ℕ) → i ≡ 0 → Undoings s m n i
unfolding Undoings
ready-none s m zero i e = tt
ready-none s m (suc n) i e = λ ne. absurd (ne e)

undo-some : (s : List ℕ) (m n i : ℕ) → ¬ (i ≡ 0) → undo_all s m (suc n) i ≡ undo_all (undo_one s m i) m n (word_of s m i 0)
unfolding undo_all
undo-some s m n i ne = ap (λ (b : Bool). cond b s (undo_all (undo_one s m i) m n (word_of s m i 0))) (ne_eqb i 0 ne)

ready-some : (s : List ℕ) (m n i : ℕ) → Undoing s m i → Undoings (undo_one s m i) m n (word_of s m i 0) → Undoings s m (suc n) i
unfolding Undoings
ready-some s m n i a b = λ ne. (a, b)

-- No undo record is left.
module _ (n : ℕ) (s : List ℕ) (t : List Session) (L : Lay) (H : Holds s t L) (A : S.Sound (means L t)) (p : ℕ) (least : 1 ≤ p) (party : p ≤ width) (chain : L.undos p ≡ []) where
  empty : (session_at t p).undo ≡ 0
  empty = go p least party chain
    where
      go : (q : ℕ) → 1 ≤ q → q ≤ width → L.undos q ≡ [] → (session_at t q).undo ≡ 0
      go zero a b e = absurd (omega (arith, a))
      go (suc q) a b e = (subst (UndosFit s (M-of s) (session_at t (suc q)).undo) e (H.fits.undos q b)).chained

  same-record : (x : Session) → x.undo ≡ 0 → with_undo x 0 ≡ x
  same-record x e =
      let q = sym e in
      λ z. record {
        begun = x.begun;
        code = x.code;
        entry = x.entry;
        first = x.first;
        second = x.second;
        stage = x.stage;
        target = x.target;
        at = x.at;
        level = x.level;
        low = x.low;
        high = x.high;
        last = x.last;
        undo = q z;
        order = x.order;
        asked = x.asked;
      }

  same-table : set t p (with_undo (session_at t p) 0) ≡ t
  same-table = ap (set t p) (same-record (session_at t p) empty) ∙ set_same t p

  same-session : (y : M.Session) → y.undos ≡ [] → with_undos [] y ≡ y
  same-session y e = let q = sym e in λ z. record { begun = y.begun; order = y.order; hand = y.hand; undos = q z; asked = y.asked }

  no-undos : (get_or (means L t).table p idle).undos ≡ []
  unfolding session_of
  no-undos = undos-means L t p least (omega (arith, H.seats, party)) ∙ ap (map (λ u. u.undo)) chain

  same-state : all_undone_state p [] (means L t) ≡ means L t
  unfolding undo-all
  same-state =
      ap (λ l. with_table l (means L t))
      (ap (set (means L t).table p) (same-session (get_or (means L t).table p idle) no-undos) ∙ set-get (means L t).table p idle)

  none-undone : AllUndone s t L p [] n (undo_all s (M-of s) n (session_at t p).undo)
  none-undone = subst (AllUndone s t L p [] n) (sym (undo-none s (M-of s) n (session_at t p).undo empty)) (record {
    lay = L;
    holds = subst (λ y. Holds s y L) (sym same-table) H;
    mine = chain;
    others = λ q k. refl;
    means_next = ap (means L) same-table ∙ sym same-state;
    sound = subst (λ y. S.Sound (means L y)) (sym same-table) A;
    rising = rising-of L t A;
    sizes = sizes-of L t A;
    touched = [];
    written = written_none s;
    ready = ready-none s (M-of s) n (session_at t p).undo empty;
  })

-- The newest, and then the rest.
module _ (u : Undone) (us : List Undone) (n : ℕ) (s : List ℕ) (t : List Session) (L : Lay) (H : Holds s t L) (A : S.Sound (means L t)) (p : ℕ) (least : 1 ≤ p) (party : p ≤ width)
    (chain : L.undos p ≡ u ∷ us) where
  Z : Sizes L
  Z = sizes-of L t A

  abbrev m : ℕ
  m = M-of s

  abbrev σ : State
  σ = means L t

  abbrev bs : List Undo
  bs = map (λ y. y.undo) us

  abbrev x : Session
  x = session_at t p

  abbrev s1 : List ℕ
  s1 = undo_one s (M-of s) u.num

  abbrev x1 : Session
  x1 = with_undo (session_at t p) (word_of s (M-of s) u.num 0)

  abbrev t1 : List Session
  t1 = set t p (with_undo (session_at t p) (word_of s (M-of s) u.num 0))

  first-is : x.undo ≡ u.num
  first-is = newest s t L H Z p least party u us chain

  not_none : ¬ (x.undo ≡ 0)
  not_none = (mine-fit s t L H Z p least party u us chain).chained.1

  seat : p < length t
  seat = omega (arith, H.seats, party)

  here : session_at t1 p ≡ x1
  here = table_here t p x1 H.seats party

  chain-so : (session_of p σ).undos ≡ u.undo ∷ bs
  chain-so = undos-means L t p least seat ∙ ap (map (λ y. y.undo)) chain

  many : p < length σ.table
  many = omega (arith, A.seats, party)

  next-sound : S.Sound (undone_state p bs u.undo σ)
  next-sound = undo-sound p u.undo bs σ A chain-so

  table_is : set t1 p (with_undo (session_at t1 p) 0) ≡ set t p (with_undo x 0)
  table_is = ap (λ y. set t1 p (with_undo y 0)) here ∙ set-set t p x1 (with_undo x 0)

  -- The states of all that is undone.
  state_is : all_undone_state p bs (undone_state p bs u.undo σ) ≡ all_undone_state p (u.undo ∷ bs) σ
  unfolding undo-all
  state_is =
      let y = with_undos bs (get_or σ.table p idle) in
      let T = set σ.table p y in
      let g : get_or T p idle ≡ y = get_or-set_same σ.table p y idle many in
      let w : set T p (with_undos [] (get_or T p idle)) ≡ set σ.table p (with_undos [] (get_or σ.table p idle)) =
      ap (λ z. set T p (with_undos [] z)) g ∙ set-set σ.table p y (with_undos [] y) in
      ap (λ l. with_table l (undo-all bs (with_table T (C.undo u.undo σ)))) w
      ∙ ap (with_table (set σ.table p (with_undos [] (get_or σ.table p idle)))) (undo-all-with bs T (C.undo u.undo σ))

  one-undone : Onward s t L p u us s1 x1
  one-undone = undo-one-row s t L H (rising-of L t A) Z p least party u us chain (sound-apt s t L H A p least party u us chain Z) (sound-off s t L H A p least party u us chain Z)

  one-sound : S.Sound (means one-undone.lay t1)
  one-sound = subst S.Sound (sym one-undone.means_next) next-sound

  abbrev s2 : List ℕ
  s2 = undo_all s1 (M-of s1) n (session_at t1 p).undo

  then-undone : AllUndone s1 t1 one-undone.lay p us n s2 → AllUndone s t L p (u ∷ us) (suc n) (undo_all s m (suc n) x.undo)
  then-undone R =
      let W = one-undone in
      let e1 : M-of s1 ≡ m = W.written.entries in
      let e2 : (session_at t1 p).undo ≡ word_of s m u.num 0 = ap (λ y. y.undo) here in
      let whole : undo_all s m (suc n) x.undo ≡ s2 =
      undo-some s m n x.undo not_none ∙ ap (λ i. undo_all (undo_one s m i) m n (word_of s m i 0)) first-is ∙ ap₂ (λ a b. undo_all s1 a n b) (sym e1) (sym e2) in
      let r1 : Undoings s1 m n (word_of s m u.num 0) = subst (λ a. Undoings s1 a n (word_of s m u.num 0)) e1 (subst (λ b. Undoings s1 (M-of s1) n b) e2 R.ready) in
      subst (AllUndone s t L p (u ∷ us) (suc n)) (sym whole) (record {
        lay = R.lay;
        holds = subst (λ y. Holds s2 y R.lay) table_is R.holds;
        mine = R.mine;
        others = λ q k. R.others q k ∙ W.others q k;
        means_next = ap (means R.lay) (sym table_is) ∙ R.means_next ∙ ap (all_undone_state p bs) W.means_next ∙ state_is;
        sound = subst (λ y. S.Sound (means R.lay y)) table_is R.sound;
        rising = R.rising;
        sizes = R.sizes;
        touched = W.touched ++ R.touched;
        written = written_then s s1 s2 W.touched R.touched W.written R.written;
        ready = subst (λ i. Undoings s m (suc n) i) (sym first-is) (ready-some s m n u.num W.ready r1);
      })

pub undo-chain-row : (us : List Undone) (n : ℕ) (s : List ℕ) (t : List Session) (L : Lay) → Holds s t L → S.Sound (means L t) → (p : ℕ) → 1 ≤ p → p ≤ width → L.undos p ≡ us → length us ≤ n
    → AllUndone s t L p us n (undo_all s (M-of s) n (session_at t p).undo)
undo-chain-row [] n s t L H A p least party chain short = none-undone n s t L H A p least party chain
undo-chain-row (u ∷ us) zero s t L H A p least party chain short = absurd (omega (arith, short))
undo-chain-row (u ∷ us) (suc n) s t L H A p least party chain short =
    let W = one-undone u us n s t L H A p least party chain in
    then-undone u us n s t L H A p least party chain
    (undo-chain-row us n (undo_one s (M-of s) u.num) (set t p (with_undo (session_at t p) (word_of s (M-of s) u.num 0))) W.lay W.holds (one-sound u us n s t L H A p least party chain) p least party
    W.mine (omega (arith, short)))

pub undo-all-row : (s : List ℕ) (t : List Session) (L : Lay) → Holds s t L → S.Sound (means L t) → (p : ℕ) → 1 ≤ p → p ≤ width
    → AllUndone s t L p (L.undos p) (R-of s) (undo_all s (M-of s) (R-of s) (session_at t p).undo)
undo-all-row s t L H A p least party = undo-chain-row (L.undos p) (R-of s) s t L H A p least party refl (short p least party)
  where
    short : (p : ℕ) → 1 ≤ p → p ≤ width → length (L.undos p) ≤ R-of s
    short zero a b = absurd (omega (arith, a))
    short (suc p) a b = omega (arith, undos-short L H.owned p b, length-map (L.undos (suc p)) (λ u. u.num), H.fits.records)
