-- What the rows of undo records have in common: the session record, what is asked of an undo record, and what becomes of words, layout and meaning.
use Rattle.std.specs.Prelude.{◌≡◌, refl, Bool, true, false, cond, not, List, [], ◌∷◌, ◌++◌, map, ℕ, zero, suc, ◌+◌, ◌≤◌, ◌<◌, eqb, length, get_or, set}
use Rattle.std.proofs.Common.{sym, ap, ap₂, subst, ◌∙◌, arith, ne_eqb}
use Rattle.std.proofs.Math.Decide.{ℕ_discrete}
use Rattle.words.specs.Store.{word_of}
use Rattle.sessions.specs.declared.Session.{Session}
use Rattle.sessions.specs.Sessions.{session_at}
use Rattle.machine.specs.Holders.{width, latch_word}
use Rattle.machine.specs.State.{Undo, value, added, taken, State, idle, session_of, with_table}
use Rattle.machine.specs.Calls as C
use Rattle.machine.specs.Sound.{times}
use Rattle.machine.specs.Undoing.{with_undos}
use Rattle.meaning.specs.Reading.{Chained, Leaf, hand_of, M-of, R-of}
use Rattle.meaning.specs.Sound.{All, Lists, set_list}
use Rattle.meaning.specs.Numbers.{In, times-append, in-times}
use Rattle.meaning.specs.Frame.{SameAt}
use Rattle.layout.specs.Layout.{Lay, Undone, leaves_in, undo_numbers, all_records, session_in, sessions_in, means, UndosFit, Has, Marked, HandFits, member_of, lists_in, NamedAs, Named, Holds}
use Rattle.layout.specs.Keep.{records-times, owned-most, undos-keep, hand-as, named-as}
use Rattle.layout.specs.Groups.{put_at, put-here, put-there, undos-split}
use Rattle.layout.specs.Places.{session-means}
use Rattle.layout.specs.Ordering.{Rising}
use Rattle.layout.specs.Room.{Sizes, owned_in, owned-has}
use Rattle.layout.specs.Written.{Written}
use Rattle.undo_log.specs.Undoing.{Undoing}
use Rattle.grouping.specs.GroupWords.{Within}

-- ---- the session record

abbrev pub with_undo : Session → ℕ → Session
with_undo x v = record {
  begun = x.begun;
  code = x.code;
  entry = x.entry;
  first = x.first;
  second = x.second;
  stage = x.stage;
  target = x.target;
  at = x.at;
  level = x.level;
  low = x.low;
  high = x.high;
  last = x.last;
  undo = v;
  order = x.order;
  asked = x.asked;
}

-- What a layout names, it names with another undo chain.
pub hand-undo : (L L' : Lay) (p : ℕ) (x : Session) (v : ℕ) → ((k d : ℕ) → Has k d (leaves_in L) → Has k d (leaves_in L'))
    → (x.stage ≡ 3 → Marked x.level x.at (latch_word p) (suc L.height) L.tree → Marked x.level x.at (latch_word p) (suc L'.height) L'.tree)
    → HandFits L p x → HandFits L' p (with_undo x v)
hand-undo L L' p x v h k f =
    let g = hand-as L L' p x h k f in
    record { stage = g.stage; at-node = g.at-node; low = g.low; high = g.high; last = g.last }

-- ---- what is asked

-- The entry that an undo record is of.
abbrev pub entry_in : Undo → ℕ
entry_in (value e v) = e
entry_in (added e k) = e
entry_in (taken e k) = e

-- A value's entry is there; an added entry is a member, a taken one is not.
abbrev pub AptAs : Lay → ℕ → ℕ → Undo → Type 0
AptAs L saved d (value e v) = (1 ≤ e) × (e ≤ length L.entries)
AptAs L saved d (added e k) = ¬ (saved ≡ 0)
AptAs L saved d (taken e k) = member_of e (L.members d) ≡ 0

abbrev pub Apt : Lay → Undone → Type 0
Apt L u = AptAs L u.saved u.descriptor u.undo

-- An undo record that is not of a membership of entry e.
abbrev pub Off : ℕ → Undo → Type 0
Off e (value f v) = Unit {0}
Off e (added f k) = ¬ (f ≡ e)
Off e (taken f k) = ¬ (f ≡ e)

-- No other session has an undo record of a membership of entry e.
abbrev pub OthersOff : Lay → ℕ → ℕ → Type 0
OthersOff L p e = (q : ℕ) → 1 ≤ q → q ≤ width → ¬ (q ≡ p) → All (λ y. Off e y.undo) (L.undos q)

-- ---- what becomes

-- The record undone, and the session's chain the rest.
abbrev pub undone_state : ℕ → List Undo → Undo → State → State
undone_state p us b σ = with_table (set σ.table p (with_undos us (get_or σ.table p idle))) (C.undo b σ)

-- The words s' and session p's record x' hold the next layout; us are the undo records that are left. And the code may undo the record.
pub record Onward (s : List ℕ) (t : List Session) (L : Lay) (p : ℕ) (u : Undone) (us : List Undone) (s' : List ℕ) (x' : Session) : Type 0 where
  pub lay : Lay
  pub holds : Holds s' (set t p x') lay
  pub mine : lay.undos p ≡ us
  pub others : (q : ℕ) → ¬ (q ≡ p) → lay.undos q ≡ L.undos q
  pub means_next : means lay (set t p x') ≡ undone_state p (map (λ y. y.undo) us) u.undo (means L t)
  pub rising : Rising lay
  pub sizes : Sizes lay
  pub touched : List ℕ
  pub written : Written s s' touched
  pub ready : Undoing s (M-of s) u.num

-- ---- the session table

module _ (u : ℕ → List Undone) (us : List Undone) where
  session-as : (n p : ℕ) (x : Session) → ¬ (p ≡ n) → session_in (put_at n us u) p x ≡ session_in u p x
  session-as n zero x e = refl
  session-as n (suc p) x e = ap (λ l. record { begun = not (eqb x.begun 0); order = x.order; hand = hand_of x; undos = map (λ y. y.undo) l; asked = not (eqb x.asked 0) }) (put-there n us u (suc p) e)

  sessions-later : (n q : ℕ) (t : List Session) → n < q → sessions_in (put_at n us u) q t ≡ sessions_in u q t
  sessions-later n q [] l = refl
  sessions-later n q (x ∷ t) l = ap₂ (λ a b. a ∷ b) (session-as n q x (λ e. omega (arith, e, l))) (sessions-later n (suc q) t (omega (arith, l)))

  sessions-put : (n q p : ℕ) (t : List Session) (x : Session) → n ≡ q + p → sessions_in (put_at n us u) q (set t p x) ≡ set (sessions_in u q t) p (session_in (put_at n us u) n x)
  sessions-put n q zero [] x e = refl
  sessions-put n q (suc p) [] x e = refl
  sessions-put n q zero (y ∷ t) x e =
      let z : n ≡ q = omega (arith, e) in
      ap₂ (λ a b. session_in (put_at n us u) a x ∷ b) (sym z) (sessions-later n (suc q) t (omega (arith, z)))
  sessions-put n q (suc p) (y ∷ t) x e =
      ap₂ (λ a b. a ∷ b) (session-as n q y (λ z. omega (arith, e, z))) (sessions-put n (suc q) p t x (omega (arith, e)))

  session-own : (p : ℕ) (x : Session) (v : ℕ) → 1 ≤ p → session_in (put_at p us u) p (with_undo x v) ≡ with_undos (map (λ y. y.undo) us) (session_in u p x)
  session-own zero x v l = absurd (omega (arith, l))
  session-own (suc p) x v l = ap (λ l. record { begun = not (eqb x.begun 0); order = x.order; hand = hand_of x; undos = map (λ y. y.undo) l; asked = not (eqb x.asked 0) }) (put-here (suc p) us u)

pub table-undone : (L : Lay) (t : List Session) (p : ℕ) (us : List Undone) (v : ℕ) → 1 ≤ p → p < length t
    → sessions_in (put_at p us L.undos) 0 (set t p (with_undo (session_at t p) v))
    ≡ set (sessions_in L.undos 0 t) p (with_undos (map (λ y. y.undo) us) (get_or (sessions_in L.undos 0 t) p idle))
table-undone L t p us v a l =
    sessions-put L.undos us p 0 p t (with_undo (session_at t p) v) (omega arith)
    ∙ ap (λ y. set (sessions_in L.undos 0 t) p y) (session-own L.undos us p (session_at t p) v a ∙ ap (with_undos (map (λ y. y.undo) us)) (sym was))
  where
    was : get_or (sessions_in L.undos 0 t) p idle ≡ session_in L.undos p (session_at t p)
    was = unfold session_of means in (session-means L t p l)

-- ---- what undo records name

-- Records that are not of entry e do not see what becomes of it.
pub named-off : (ls : List Leaf) (e : ℕ) (us : List Undone) (g g' : Lists) → ((c f : ℕ) → ¬ (f ≡ e) → g' c f ≡ g c f) → All (λ y. Off e y.undo) us → Named ls us g → Named ls us g'
named-off ls e [] g g' k o n = tt
named-off ls e (u ∷ us) g g' k o n = go u.undo o.0 (λ h h' k. named-off ls e us h h' k o.1) n
  where
    same : (d f v : ℕ) → (c h : ℕ) → ¬ (h ≡ e) → set_list d f v g' c h ≡ set_list d f v g c h
    same d f v c h z = ap (λ x. cond (eqb c d) (cond (eqb h f) v x) x) (k c h z)

    go : (x : Undo) → Off e x → ((h h' : Lists) → ((c f : ℕ) → ¬ (f ≡ e) → h' c f ≡ h c f) → Named ls us h → Named ls us h')
        → NamedAs ls (Named ls us) g u.num u.saved u.descriptor x → NamedAs ls (Named ls us) g' u.num u.saved u.descriptor x
    go (value f v) o r n = r g g' k n
    go (added f j) o r n = (n.0, k u.descriptor f o ∙ n.1, r (set_list u.descriptor f 0 g) (set_list u.descriptor f 0 g') (same u.descriptor f 0) n.2)
    go (taken f j) o r n = (n.0, r (set_list u.descriptor f u.num g) (set_list u.descriptor f u.num g') (same u.descriptor f u.num) n.1)

set-off : (d e v : ℕ) (g : Lists) (c f : ℕ) → ¬ (f ≡ e) → set_list d e v g c f ≡ g c f
set-off d e v g c f n = ap (λ (b : Bool). cond (eqb c d) (cond b v (g c f)) (g c f)) (ne_eqb f e n) ∙ go (eqb c d)
  where
    go : (b : Bool) → cond b (g c f) (g c f) ≡ g c f
    go true = refl
    go false = refl

-- The rest of session p's records, and those of the others, where the record of entry e in the group at d is v.
pub named_put : (L : Lay) (ls : List Leaf) (p : ℕ) (us : List Undone) (d e v : ℕ) (g : Lists) → ((k c : ℕ) → Has k c (leaves_in L) → Has k c ls) → g ≡ set_list d e v (lists_in L)
    → Named (leaves_in L) us (set_list d e v (lists_in L)) → OthersOff L p e → ((q : ℕ) → suc q ≤ width → Named (leaves_in L) (L.undos (suc q)) (lists_in L))
    → (q : ℕ) → 1 ≤ q → q ≤ width → Named ls (put_at p us L.undos q) g
named_put L ls p us d e v g has is own off were q a b = go (ℕ_discrete q p)
  where
    old : (q : ℕ) → 1 ≤ q → q ≤ width → Named (leaves_in L) (L.undos q) (lists_in L)
    old zero a b = absurd (omega (arith, a))
    old (suc q) a b = were q b

    to : (ys : List Undone) → Named (leaves_in L) ys (set_list d e v (lists_in L)) → Named ls ys g
    to ys n = subst (Named ls ys) (sym is) (named-as (leaves_in L) ls has ys (set_list d e v (lists_in L)) n)

    go : Dec (q ≡ p) → Named ls (put_at p us L.undos q) g
    go (yes z) = subst (λ j. Named ls (put_at p us L.undos j) g) (sym z) (subst (λ ys. Named ls ys g) (sym (put-here p us L.undos)) (to us own))
    go (no z) = subst (λ ys. Named ls ys g) (sym (put-there p us L.undos q z))
        (to (L.undos q) (named-off (leaves_in L) e (L.undos q) (lists_in L) (set_list d e v (lists_in L)) (set-off d e v (lists_in L)) (off q a b z) (old q a b)))

-- ---- session p's undo records: u is the newest, us are the older ones

module _ (s : List ℕ) (t : List Session) (L : Lay) (H : Holds s t L) (Z : Sizes L) (p : ℕ) (least : 1 ≤ p) (party : p ≤ width) (u : Undone) (us : List Undone) (chain : L.undos p ≡ u ∷ us) where
  pub mine-fit : UndosFit s (M-of s) (session_at t p).undo (u ∷ us)
  mine-fit = subst (UndosFit s (M-of s) (session_at t p).undo) chain (go p least party)
    where
      go : (p : ℕ) → 1 ≤ p → p ≤ width → UndosFit s (M-of s) (session_at t p).undo (L.undos p)
      go zero a b = absurd (omega (arith, a))
      go (suc p) a b = H.fits.undos p b

  pub mine-named : Named (leaves_in L) (u ∷ us) (lists_in L)
  mine-named = subst (λ ys. Named (leaves_in L) ys (lists_in L)) chain (go p least party)
    where
      go : (p : ℕ) → 1 ≤ p → p ≤ width → Named (leaves_in L) (L.undos p) (lists_in L)
      go zero a b = absurd (omega (arith, a))
      go (suc p) a b = H.named p b

  -- The newest is the first of the chain, and the rest follows it.
  pub newest : (session_at t p).undo ≡ u.num
  newest = mine-fit.chained.0

  pub rest-chained : Chained s (M-of s) (word_of s (M-of s) u.num 0) (undo_numbers us)
  rest-chained = subst (λ y. Chained s (M-of s) (word_of s (M-of s) y 0) (undo_numbers us)) newest mine-fit.chained.2

  pub rest-fit : (s' : List ℕ) → All (SameAt s s' (M-of s)) (undo_numbers us) → UndosFit s' (M-of s) (word_of s (M-of s) u.num 0) us
  rest-fit s' a = undos-keep s s' (M-of s) (word_of s (M-of s) u.num 0) us a (record { chained = rest-chained; words = mine-fit.words.1 })

  pub mine-times : (j : ℕ) → times j (undo_numbers (L.undos p)) ≡ times j (u.num ∷ undo_numbers us)
  mine-times j = ap (λ ys. times j (undo_numbers ys)) chain

  -- No record is twice among the undo records and the free ones.
  pub log-bound : (j : ℕ) → times j (u.num ∷ undo_numbers us) + times j L.free ≤ 1
  log-bound j = omega (arith, records-times L j, undos-split L.undos p j least party, owned-most L H.owned j, mine-times j)

  pub log-own : (j : ℕ) → 1 ≤ times j (u.num ∷ undo_numbers us) + times j L.free → Within s (M-of s) (R-of s) j
  log-own j h =
      let one : 1 ≤ times j (all_records L) = omega (arith, records-times L j, undos-split L.undos p j least party, mine-times j, h) in
      record { has = owned-has s t L H Z j one; among = omega (arith, (owned_in s t L H Z j one).1, H.fits.records) }

  pub log-in : (j : ℕ) → 1 ≤ times j (u.num ∷ undo_numbers us) + times j L.free → In j (undo_numbers (L.undos p) ++ L.free)
  log-in j h = in-times j (undo_numbers (L.undos p) ++ L.free) (omega (arith, times-append j (undo_numbers (L.undos p)) L.free, mine-times j, h))
