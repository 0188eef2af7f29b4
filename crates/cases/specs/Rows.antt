-- The form of a table of cases. A row: its name, where it starts, lines with what each answers, and what is seen in the end.
-- `result` is what comes of a row, all of it by `call`; `expected` is what the row says.
use Rattle.std.specs.Prelude.{Bool, true, false, cond, not, ◌&&◌, ◌||◌, List, [], ◌∷◌, ◌++◌, map, ℕ, zero, suc, ◌+◌, ◌*◌, leb, eqb, length, replicate}
use Rattle.std.proofs.Math.Option.{none}
use Rattle.machine.specs.Tree.{Node, T, map_e, sum_e, leaves, leaf_at}
use Rattle.machine.specs.Holders.{width, bit_of, including, without, filter, blockers, latch_word, latch_blockers}
use Rattle.machine.specs.State.{Desc, Session, State, Answer, top, no_entry, idle, entry_of, session_of, stored, lowest_from, gap_below, desc_of, on_entry, on_session, on_tree, on_leaf, on_leaves, with_member, without_member, set_hand, add_undo, fresh}
use Rattle.machine.specs.State as State
use Rattle.machine.specs.Descent.{node, on_last, bound_of, halves, joined, moved_right, moved_left, mended, put_in, taken_out, at_latch, on_latch, unlatched}
use Rattle.machine.specs.Steps.{pinned, unpin, unlatch, ended, goes_on, finished, guarded, entry_blockers, group_blockers, read-step, written, write_step, entry-step, insert-step, remove-step, change-step, pairs_of, memberships, last_take, take_desc, take_step, arrived, enter_step, stepped, taking_part, descended, level-step, pin-step, make-step, removable, tidy-step, lowest_step, stand_step, at_step, first_step, next_step, oldest, settled}
use Rattle.machine.specs.Calls.{Call, format, begin, put, step, commit, abort, ask, recover, refusing, first_stage, accepted, leave, undo, undo-all, end_hand, earlier, begun_many, renumbered, begins, commits, aborts, asks, lapse, recovers, steps, call}

-- ---- what a line answers: the answer, and the pairs that it writes in the list

abbrev pub Told : Type 0
Told = Answer × List (ℕ × ℕ)

abbrev pub ok : Told
ok = (State.ok, [])

abbrev pub more : Told
more = (State.more, [])

-- The party that is named.
abbrev pub wait : ℕ → Told
wait p = (State.wait (p ∷ []), [])

abbrev pub done : ℕ → Told
done n = (State.done (n ∷ []), [])

-- A locate's pairs, and their count.
abbrev pub found : List (ℕ × ℕ) → Told
found l = (State.done (length l ∷ []), l)

-- A tidy's key, and 1 if it was removed.
abbrev pub tidied : ℕ → ℕ → Told
tidied k n = (State.done (k ∷ n ∷ []), [])

abbrev pub refused : ℕ → Told
refused n = (State.refused n 0, [])

-- 12, with the count.
abbrev pub short : ℕ → Told
short n = (State.refused 12 n, [])

-- ---- lines

pub data Line : Type 0 where
  does : Call → Line
  -- Steps of a party, with so many words of list, until one does not answer more.
  goes : ℕ → ℕ → Line
  -- A request put and, if it is accepted, stepped so with 1,024 words.
  whole : (p code entry first second : ℕ) → Line

infix 70 ◌⇒◌
abbrev pub ◌⇒◌ : Line → Told → Line × Told
l ⇒ t = (l, t)

-- The letters of document 01's trace program: b begin, r w i d l t the six requests in code order, s step, g step until not more, c commit,
-- a abort; then the party and the arguments its code uses. A request's line also steps it until not more; `puts` leaves it at the put.
abbrev pub puts : Line → Line
puts (does c) = does c
puts (goes p n) = goes p n
puts (whole p c e f g) = does (put p c e f g)

abbrev pub b : ℕ → Line
b p = does (begin p)

abbrev pub r : ℕ → ℕ → Line
r p e = whole p 1 e 0 0

abbrev pub w : ℕ → ℕ → ℕ → Line
w p e v = whole p 2 e v 0

abbrev pub i : ℕ → ℕ → ℕ → Line
i p e k = whole p 3 e k 0

abbrev pub d : ℕ → ℕ → ℕ → Line
d p e k = whole p 4 e k 0

abbrev pub l : ℕ → ℕ → ℕ → Line
l p j k = whole p 5 0 j k

abbrev pub t : ℕ → ℕ → Line
t p k = whole p 6 0 k 0

abbrev pub s : ℕ → Line
s p = does (step p 1024)

abbrev pub g : ℕ → Line
g p = goes p 1024

abbrev pub c : ℕ → Line
c p = does (commit p)

abbrev pub a : ℕ → Line
a p = does (abort p)

-- M-105: k ask, v recover.
abbrev pub k : ℕ → Line
k p = does (ask p)

abbrev pub v : Line
v = does recover

-- ---- trees of keys, to write a tree down

-- A lowest node with these keys, up to u; a node over others. Each is given its latch word: 0, or that of a party.
abbrev pub by : ℕ → ℕ
by p = latch_word p

abbrev pub low : ℕ → List ℕ → ℕ → Node ℕ ℕ × ℕ
low v ks u = (node v (on_last (λ _ _. u) (map (λ k. (k, k)) ks)), u)

abbrev pub over : {A : Type 0} → ℕ → List (A × ℕ) → Node ℕ A × ℕ
over v es = (node v es, bound_of 0 es)

-- n keys from 10 k on, by tens.
abbrev pub tens : ℕ → ℕ → List ℕ
tens k zero = []
tens k (suc n) = 10 * k ∷ tens (suc k) n

abbrev pub on_all : {D E : Type 0} → (D → E) → (h : ℕ) → T D ℕ h → T E ℕ h
on_all f zero x = f x
on_all f (suc h) x = node x.latch (map_e (on_all f h) x.sons)

abbrev pub keys_of : (x : State) → T ℕ ℕ (suc x.root.height)
keys_of x = on_all (λ y. y.key) (suc x.root.height) x.root.node

-- How many records a tree takes.
abbrev pub size : (h : ℕ) → T ℕ ℕ h → ℕ
size zero x = 1
size (suc h) x = suc (sum_e (size h) x.sons)

-- k begun sessions that hold nothing, with numbers from n on in the order of begins.
abbrev pub begun_from : ℕ → ℕ → List Session
begun_from n zero = []
begun_from n (suc k) = record { begun = true; order = n; hand = none; undos = []; asked = false } ∷ begun_from (suc n) k

-- M entries without value, n free records, a tree of empty groups, all sessions begun in turn and holding nothing.
abbrev pub planted : ℕ → ℕ → (h : ℕ) → (T ℕ ℕ (suc h) × ℕ) → State
planted m n h x = record {
  entries = replicate m no_entry;
  root = record { height = h; node = on_all (λ k. record { key = k; locate = 0; update = 0; gap = 0; pins = 0; members = [] }) (suc h) x.0 };
  free = n;
  table = idle ∷ begun_from 1 width;
  records = n + size (suc h) x.0;
}

-- A state so written is as document 01 asks: at least 8 records, boundaries that separate, 3 to 8 sons at a node, 1 to 8 at the root; and no two begun
-- sessions share a number.
abbrev pub in_turn : {A : Type 0} → (ℕ → ℕ → A → Bool) → ℕ → ℕ → List (A × ℕ) → Bool
in_turn q lo hi [] = eqb lo (suc hi)
in_turn q lo hi (x ∷ xs) = let rest = in_turn q (suc x.1) hi xs in q lo x.1 x.0 && rest

abbrev pub shaped : (h least lo hi : ℕ) → T ℕ ℕ h → Bool
shaped zero least lo hi k = leb lo k && leb k hi
shaped (suc h) least lo hi x = leb least (length x.sons) && leb (length x.sons) 8 && in_turn (shaped h 3) lo hi x.sons

abbrev pub shared : ℕ → List Session → Bool
shared n [] = false
shared n (x ∷ xs) = let rest = shared n xs in (x.begun && eqb x.order n) || rest

abbrev pub distinct : List Session → Bool
distinct [] = true
distinct (x ∷ xs) = let rest = distinct xs in not (x.begun && shared x.order xs) && rest

abbrev pub well : State → Bool
well x = leb 8 x.records && shaped (suc x.root.height) 1 0 top (keys_of x) && distinct x.table

-- ---- what is seen of a state

pub data Seen : Type 0 where
  numbers : List ℕ → Seen
  shape : (h : ℕ) → T ℕ ℕ (suc h) → Seen

abbrev pub Fact : Type 0
Fact = (State → Seen) × Seen

abbrev pub free : ℕ → Fact
free n = ((λ x. numbers (x.free ∷ [])), numbers (n ∷ []))

abbrev pub records : ℕ → Fact
records n = ((λ x. numbers (x.records ∷ [])), numbers (n ∷ []))

abbrev pub entry : (e value share exclusive : ℕ) → Fact
entry e v p q = ((λ x. numbers ((entry_of e x).value ∷ (entry_of e x).share ∷ (entry_of e x).exclusive ∷ [])), numbers (v ∷ p ∷ q ∷ []))

-- Of the stored descriptors of a key (one or none): locate, update and gap holders, pins (document 01: seize count), members.
abbrev pub words_of : List Desc → List ℕ
words_of [] = []
words_of (y ∷ ys) = y.locate ∷ y.update ∷ y.gap ∷ y.pins ∷ (y.members ++ words_of ys)

abbrev pub at_key : ℕ → List ℕ → Fact
at_key k ns = ((λ x. numbers (words_of (filter (λ y. eqb y.key k) (stored x)))), numbers ns)

abbrev pub group : (key locate update gap pins : ℕ) → List ℕ → Fact
group k p q v n es = at_key k (p ∷ q ∷ v ∷ n ∷ es)

abbrev pub gone : ℕ → Fact
gone k = at_key k []

-- The whole tree: latch words, keys, boundaries.
abbrev pub tree : (h : ℕ) → (T ℕ ℕ (suc h) × ℕ) → Fact
tree h y = ((λ x. shape x.root.height (keys_of x)), shape h y.0)

-- The begun sessions by party, each with its number in the order of begins.
abbrev pub begun_in_table : ℕ → List Session → List ℕ
begun_in_table p [] = []
begun_in_table p (x ∷ xs) = let rest = begun_in_table (suc p) xs in cond x.begun (p ∷ x.order ∷ rest) rest

abbrev pub begun : List ℕ → Fact
begun ns = ((λ x. numbers (begun_in_table 0 x.table)), numbers ns)

-- ---- rows

pub data Start : Type 0 where
  -- The call format with M and the number of words of the store, and what it answers.
  formats : (m words : ℕ) → Told → Start
  -- A state.
  from : State → Start

pub record Row (N : Type 0) : Type 0 where
  pub name : N
  pub start : Start
  pub lines : List (Line × Told)
  pub facts : List Fact

abbrev pub row : {N : Type 0} → N → Start → List (Line × Told) → List Fact → Row N
row n x ls fs = record { name = n; start = x; lines = ls; facts = fs }

-- ---- what comes of a row

abbrev pub is-more : Answer → Bool
is-more State.ok = false
is-more State.more = true
is-more (State.wait ps) = false
is-more (State.done ns) = false
is-more (State.refused n k) = false

abbrev pub is_ok : Answer → Bool
is_ok State.ok = true
is_ok State.more = false
is_ok (State.wait ps) = false
is_ok (State.done ns) = false
is_ok (State.refused n k) = false

-- At most so many steps.
unfoldable pub until : ℕ → ℕ → ℕ → State → Told × State
until zero p n x = (more, x)
until (suc fuel) p n x =
    let o = call (step p n) x in
    let rest = until fuel p n o.next in
    cond (is-more o.answer) rest ((o.answer, o.written), o.next)

unfoldable pub perform : Line → State → Told × State
perform (does k) x = let o = call k x in ((o.answer, o.written), o.next)
perform (goes p n) x = until 100 p n x
perform (whole p k e f h) x =
    let o = call (put p k e f h) x in
    let rest = until 100 p 1024 o.next in
    cond (is_ok o.answer) rest ((o.answer, o.written), o.next)

unfoldable pub perform_all : List (Line × Told) → State → List Told × State
perform_all [] x = ([], x)
perform_all (k ∷ ks) x =
    let o = perform k.0 x in
    let rest = perform_all ks o.1 in
    (o.0 ∷ rest.0, rest.1)

unfoldable pub started : Start → List Told × State
started (formats m n k) = let o = call (format m n) (fresh 1 8) in ((o.answer, o.written) ∷ [], o.next)
started (from x) = ([], x)

abbrev pub told_at : Start → List Told
told_at (formats m n k) = k ∷ []
told_at (from x) = []

-- To unfold it is to unfold the whole machine.
unfoldable pub result : {N : Type 0} → Row N → N × List Told × List Seen
unfolding until perform perform_all started leaves leaf_at bit_of including without blockers latch_blockers entry_of session_of stored lowest_from gap_below desc_of on_entry on_session on_tree on_leaf on_leaves with_member without_member set_hand add_undo fresh halves joined moved_right moved_left mended put_in taken_out at_latch on_latch unlatched pinned unpin unlatch ended goes_on finished guarded entry_blockers group_blockers read-step written write_step entry-step insert-step remove-step change-step pairs_of memberships last_take take_desc take_step arrived enter_step stepped taking_part descended level-step pin-step make-step removable tidy-step lowest_step stand_step at_step first_step next_step oldest settled refusing first_stage accepted leave undo undo-all end_hand earlier begun_many renumbered begins commits aborts asks lapse recovers steps call
result y =
    let o = started y.start in
    let q = perform_all y.lines o.1 in
    (y.name, o.0 ++ q.0, map (λ f. f.0 q.1) y.facts)

abbrev pub expected : {N : Type 0} → Row N → N × List Told × List Seen
expected y = (y.name, told_at y.start ++ map (λ k. k.1) y.lines, map (λ f. f.1) y.facts)
