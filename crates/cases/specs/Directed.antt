-- Cases beside document 01's own: each kind of step, wait and refusal where it turns. One table of rows (Rows.antt), checked by one theorem.
use Rattle.std.specs.Prelude.{◌≡◌, refl, Bool, true, List, [], ◌∷◌, ◌++◌, map, ℕ, zero, suc, ◌+◌, ◌-◌, ◌*◌, replicate}
use Rattle.std.proofs.Math.Option.{some}
use Prim.Native.String.{String}
use Rattle.machine.specs.Tree.{Node}
use Rattle.machine.specs.Holders.{width}
use Rattle.machine.specs.State.{State, at, top, idle, with_table, set_hand}
use Rattle.machine.specs.Calls.{format, begin, put, step}
use Rattle.cases.specs.Rows.{Told, ok, more, wait, done, found, tidied, refused, short, Line, does, goes, ◌⇒◌, puts, b, r, w, i, d, l, t, s, g, c, a, k, v, by, low, over, tens, begun_from, planted, well, begun, free, records, entry, group, gone, tree, Start, formats, from, Row, row, result, expected}

-- ---- starting states, all with 3 entries; n records are free

-- A lone lowest node.
abbrev one : ℕ → List ℕ → Start
one n ks = from (planted 3 n 0 (low 0 ks top))

-- One with 0, 10, 20, 30 and records enough.
abbrev store : Start
store = one 9 (tens 0 4)

-- A root over lowest nodes; over nodes over lowest nodes.
abbrev two : ℕ → List (Node ℕ ℕ × ℕ) → Start
two n es = from (planted 3 n 1 (over 0 es))

abbrev three : ℕ → List (Node ℕ (Node ℕ ℕ) × ℕ) → Start
three n es = from (planted 3 n 2 (over 0 es))

-- Lowest nodes, with their latch words: one of m keys and the last, of 3; one of m, one of n and the last. Boundaries are no keys.
abbrev last : ℕ → List (Node ℕ ℕ × ℕ)
last k = low 0 (tens k 3) top ∷ []

abbrev duo : ℕ → ℕ → List (Node ℕ ℕ × ℕ)
duo v m = low v (tens 0 m) (10 * m - 5) ∷ last m

abbrev trio : (v m w n : ℕ) → List (Node ℕ ℕ × ℕ)
trio v m w n = low v (tens 0 m) (10 * m - 5) ∷ low w (tens m n) (10 * (m + n) - 5) ∷ last (m + n)

-- n lowest nodes of 3 keys, from the one with 30 j on.
abbrev lows : (j n : ℕ) → List (Node ℕ ℕ × ℕ)
lows j zero = []
lows j (suc n) = low 0 (tens (3 * j) 3) (30 * j + 25) ∷ lows (suc j) n

-- Nodes over such ones: the last, of 3; one of m, one of n and the last.
abbrev upper_last : ℕ → List (Node ℕ (Node ℕ ℕ) × ℕ)
upper_last j = over 0 (lows j 2 ++ last (3 * j + 6)) ∷ []

abbrev uppers : (v m w n : ℕ) → List (Node ℕ (Node ℕ ℕ) × ℕ)
uppers v m w n = over v (lows 0 m) ∷ over w (lows m n) ∷ upper_last (m + n)

-- A request put, and n steps that answer more.
abbrev along : ℕ → ℕ → Line → List (Line × Told)
along n p x = puts x ⇒ ok ∷ replicate n (s p ⇒ more)

-- ---- the root: dropped, split

abbrev roots : List (Row String)
roots =
    row "dropped and split, with just enough records" (two 1 (low 0 (tens 0 8) top ∷ [])) (along 1 1 (l 1 35 35))
    (tree 1 (over 0 (low 0 (tens 0 4) 30 ∷ low (by 1) (tens 4 4) top ∷ [])) ∷ free 0 ∷ [])
    ∷ row "dropped and split, with one record too few: nothing is dropped" (two 0 (low 0 (tens 0 8) top ∷ [])) (l 1 35 35 ⇒ refused 11 ∷ s 1 ⇒ refused 7 ∷ [])
    (tree 1 (over 0 (low 0 (tens 0 8) top ∷ [])) ∷ free 0 ∷ [])
    ∷ row "dropped, by a session" (two 0 (low 0 (tens 0 6) top ∷ [])) (along 1 1 (l 1 10 10)) (tree 0 (low (by 1) (tens 0 6) top) ∷ free 1 ∷ [])
    ∷ row "dropped, by the housekeeper, who does not split" (two 0 (low 0 (tens 0 8) top ∷ [])) (along 1 0 (t 0 0)) (tree 0 (low (by 0) (tens 0 8) top) ∷ free 1 ∷ [])
    ∷ row "dropped and split, over nodes" (three 1 (over 0 (lows 0 7 ++ last 21) ∷ [])) (along 1 1 (l 1 35 35))
    (tree 2 (over 0 (over (by 1) (lows 0 4) ∷ over 0 (lows 4 3 ++ last 21) ∷ [])) ∷ free 0 ∷ [])
    ∷ row "split, with just enough records; the boundary lies to the left" (one 2 (tens 0 8)) (along 1 1 (l 1 30 30))
    (tree 1 (over 0 (low (by 1) (tens 0 4) 30 ∷ low 0 (tens 4 4) top ∷ [])) ∷ free 0 ∷ [])
    ∷ row "split; what is above the boundary lies to the right" (one 2 (tens 0 8)) (along 1 1 (l 1 31 31))
    (tree 1 (over 0 (low 0 (tens 0 4) 30 ∷ low (by 1) (tens 4 4) top ∷ [])) ∷ free 0 ∷ [])
    ∷ row "split, with one record too few" (one 1 (tens 0 8)) (l 1 35 35 ⇒ refused 11 ∷ s 1 ⇒ refused 7 ∷ []) (tree 0 (low 0 (tens 0 8) top) ∷ free 1 ∷ [])
    ∷ row "not split by the housekeeper" (one 2 (tens 0 8)) (along 1 0 (t 0 0)) (tree 0 (low (by 0) (tens 0 8) top) ∷ free 2 ∷ [])
    ∷ row "not split with 7 sons" (one 2 (tens 0 7)) (along 1 1 (l 1 35 35)) (tree 0 (low (by 1) (tens 0 7) top) ∷ free 2 ∷ [])
    ∷ []

-- ---- one level down: plain, split

abbrev levels : List (Row String)
levels =
    row "a level: the son is latched, the parent released" (two 0 (duo 0 7)) (along 2 1 (l 1 65 65)) (tree 1 (over 0 (duo (by 1) 7)) ∷ free 0 ∷ [])
    ∷ row "a full son split, with just enough records: the left half" (two 1 (duo 0 8)) (along 2 1 (l 1 30 30))
    (tree 1 (over 0 (low (by 1) (tens 0 4) 30 ∷ low 0 (tens 4 4) 75 ∷ last 8)) ∷ free 0 ∷ [])
    ∷ row "a full son split: the right half" (two 1 (duo 0 8)) (along 2 1 (l 1 31 31))
    (tree 1 (over 0 (low 0 (tens 0 4) 30 ∷ low (by 1) (tens 4 4) 75 ∷ last 8)) ∷ free 0 ∷ [])
    ∷ row "a full son, with one record too few" (two 0 (duo 0 8)) (l 1 30 30 ⇒ refused 11 ∷ s 1 ⇒ refused 7 ∷ []) (tree 1 (over 0 (duo 0 8)) ∷ free 0 ∷ [])
    ∷ row "a full upper son split" (three 1 (over 0 (lows 0 8) ∷ upper_last 8)) (along 2 1 (l 1 115 115)) (tree 2 (over 0 (uppers (by 1) 4 0 4)) ∷ free 0 ∷ [])
    ∷ row "a full upper son, with one record too few" (three 0 (over 0 (lows 0 8) ∷ upper_last 8)) (l 1 115 115 ⇒ refused 11 ∷ s 1 ⇒ refused 7 ∷ [])
    (tree 2 (over 0 (over 0 (lows 0 8) ∷ upper_last 8)) ∷ free 0 ∷ [])
    ∷ row "a full son not split by the housekeeper" (two 1 (duo 0 8)) (along 2 0 (t 0 0)) (tree 1 (over 0 (duo (by 0) 8)) ∷ free 1 ∷ [])
    ∷ []

-- ---- the housekeeper at a node of 3 sons

abbrev mends : List (Row String)
mends =
    row "joined with the left one of 5: a key comes down" (two 0 (trio 0 5 0 3)) (along 2 0 (t 0 59)) (tree 1 (over 0 (duo (by 0) 8)) ∷ free 1 ∷ [])
    ∷ row "the first joined with the right one of 5: a key comes down" (two 0 (trio 0 3 0 5)) (along 2 0 (t 0 9)) (tree 1 (over 0 (duo (by 0) 8)) ∷ free 1 ∷ [])
    ∷ row "one moved from the left one of 6: a key comes down" (two 0 (trio 0 6 0 3)) (along 2 0 (t 0 69))
    (tree 1 (over 0 (low 0 (tens 0 5) 40 ∷ low (by 0) (tens 5 4) 85 ∷ last 9)) ∷ free 0 ∷ [])
    ∷ row "one moved to the first from the right one of 6: a key comes down" (two 0 (trio 0 3 0 6)) (along 2 0 (t 0 9))
    (tree 1 (over 0 (low (by 0) (tens 0 4) 30 ∷ low 0 (tens 4 5) 85 ∷ last 9)) ∷ free 0 ∷ [])
    ∷ row "the last joined with the one before it" (two 0 (trio 0 4 0 4)) (along 2 0 (t 0 89))
    (tree 1 (over 0 (low 0 (tens 0 4) 35 ∷ low (by 0) (tens 4 7) top ∷ [])) ∷ free 1 ∷ [])
    ∷ row "upper: joined with the left one of 5" (three 0 (uppers 0 5 0 3)) (along 2 0 (t 0 189))
    (tree 2 (over 0 (over (by 0) (lows 0 8) ∷ upper_last 8)) ∷ free 1 ∷ [])
    ∷ row "upper: the first joined with the right one of 5" (three 0 (uppers 0 3 0 5)) (along 2 0 (t 0 9))
    (tree 2 (over 0 (over (by 0) (lows 0 8) ∷ upper_last 8)) ∷ free 1 ∷ [])
    ∷ row "upper: one moved from the left one of 6" (three 0 (uppers 0 6 0 3)) (along 2 0 (t 0 189)) (tree 2 (over 0 (uppers 0 5 (by 0) 4)) ∷ free 0 ∷ [])
    ∷ row "upper: one moved to the first from the right one of 6" (three 0 (uppers 0 3 0 6)) (along 2 0 (t 0 9)) (tree 2 (over 0 (uppers (by 0) 4 0 5)) ∷ free 0 ∷ [])
    ∷ row "a node of 4 sons stays" (two 0 (trio 0 5 0 4)) (along 2 0 (t 0 59)) (tree 1 (over 0 (trio 0 5 (by 0) 4)) ∷ free 0 ∷ [])
    ∷ row "a session passes a node of 3 sons" (two 0 (trio 0 5 0 3)) (along 2 1 (l 1 60 60)) (tree 1 (over 0 (trio 0 5 (by 1) 3)) ∷ free 0 ∷ [])
    ∷ row "all the way down, mending at both levels, to the tidied key" (three 0 (uppers 0 3 0 5)) (t 0 39 ⇒ tidied 40 1 ∷ [])
    (tree 2 (over 0 (over 0 (low 0 (0 ∷ 10 ∷ 20 ∷ 30 ∷ 50 ∷ []) 55 ∷ lows 2 6) ∷ upper_last 8)) ∷ free 3 ∷ [])
    ∷ []

-- ---- at the lowest node: pinned (document 01: seized), made

abbrev makes : List (Row String)
makes =
    row "made as the first of its node, with the gap holders of a descriptor under another" (two 1 (duo 0 3)) (l 1 20 30 ⇒ done 0 ∷ along 3 2 (l 2 27 27))
    (group 27 1 0 1 1 [] ∷ tree 1 (over 0 (low 0 (tens 0 3) 25 ∷ low 0 (27 ∷ tens 3 3) top ∷ [])) ∷ free 0 ∷ [])
    ∷ row "made as the last of its node, which keeps its boundary" (two 1 (duo 0 3)) (l 1 20 30 ⇒ done 0 ∷ along 3 2 (l 2 22 22))
    (group 22 1 0 1 1 [] ∷ tree 1 (over 0 (low 0 (0 ∷ 10 ∷ 20 ∷ 22 ∷ []) 25 ∷ last 3)) ∷ free 0 ∷ [])
    ∷ row "made at the boundary: it lies to the left" (two 1 (duo 0 3))
    (along 3 1 (l 1 25 25)) (group 25 0 0 0 1 [] ∷ tree 1 (over 0 (low 0 (0 ∷ 10 ∷ 20 ∷ 25 ∷ []) 25 ∷ last 3)) ∷ free 0 ∷ [])
    ∷ row "made beside a located range" (one 1 (tens 0 6)) (l 1 20 30 ⇒ done 0 ∷ along 2 2 (l 2 15 15))
    (group 15 0 0 0 1 [] ∷ tree 0 (low 0 (0 ∷ 10 ∷ 15 ∷ tens 2 4) top) ∷ free 0 ∷ [])
    ∷ row "none free to make it: the latch is released" (one 0 (tens 0 7)) (l 1 15 15 ⇒ refused 11 ∷ s 1 ⇒ refused 7 ∷ [])
    (tree 0 (low 0 (tens 0 7) top) ∷ free 0 ∷ [])
    ∷ row "none free to make a locate's second: first stays, not pinned, not held" (one 1 (tens 0 6)) (l 1 15 25 ⇒ refused 11 ∷ s 1 ⇒ refused 7 ∷ [])
    (group 15 0 0 0 0 [] ∷ tree 0 (low 0 (0 ∷ 10 ∷ 15 ∷ tens 2 4) top) ∷ free 0 ∷ [])
    ∷ row "a stored one is pinned by each, and takes no record" (one 0 (tens 0 7)) (along 2 1 (l 1 20 20) ++ along 3 2 (i 2 1 20))
    (group 20 0 0 0 2 [] ∷ tree 0 (low 0 (tens 0 7) top) ∷ free 0 ∷ [])
    ∷ row "one of two pins ends" (one 0 (tens 0 7)) (along 2 1 (l 1 20 20) ++ along 3 2 (i 2 1 20) ++ s 1 ⇒ done 0 ∷ []) (group 20 1 0 0 1 [] ∷ free 0 ∷ [])
    ∷ []

-- ---- long locks: what agrees, what waits, and what a change takes

-- Document 02, M-104: sessions 1 and 2 insert different entries at one key.
abbrev two_desks : List (Line × Told)
two_desks = i 1 1 10 ⇒ done 1 ∷ i 2 2 10 ⇒ done 1 ∷ []

abbrev locks : List (Row String)
locks =
    row "share asked, exclusive held" store (w 1 1 7 ⇒ done 0 ∷ r 2 1 ⇒ wait 1 ∷ []) (entry 1 7 0 1 ∷ [])
    ∷ row "exclusive asked, share held" store (r 1 1 ⇒ done 0 ∷ w 2 1 7 ⇒ wait 1 ∷ i 3 1 10 ⇒ wait 1 ∷ d 4 1 10 ⇒ wait 1 ∷ []) (entry 1 0 1 0 ∷ free 9 ∷ [])
    ∷ row "exclusive asked, exclusive held" store (i 1 1 10 ⇒ done 1 ∷ w 2 1 7 ⇒ wait 1 ∷ i 3 1 20 ⇒ wait 1 ∷ d 4 1 20 ⇒ wait 1 ∷ []) (entry 1 0 0 1 ∷ free 7 ∷ [])
    ∷ row "share asked, share held" store (r 1 1 ⇒ done 0 ∷ r 2 1 ⇒ done 0 ∷ []) (entry 1 0 3 0 ∷ [])
    ∷ row "other entries are not in the way" store (w 1 1 7 ⇒ done 0 ∷ w 2 2 8 ⇒ done 0 ∷ r 1 1 ⇒ done 7 ∷ []) (entry 1 7 1 1 ∷ entry 2 8 0 2 ∷ free 7 ∷ [])
    ∷ row "update asked, locate held" store (l 1 10 10 ⇒ done 0 ∷ i 2 1 10 ⇒ wait 1 ∷ d 3 2 10 ⇒ wait 1 ∷ []) (group 10 1 0 0 2 [] ∷ entry 1 0 0 2 ∷ [])
    ∷ row "locate asked, update held; keys before it are taken" store (i 1 1 20 ⇒ done 1 ∷ l 2 10 30 ⇒ wait 1 ∷ [])
    (group 10 2 0 2 1 [] ∷ group 20 0 1 0 0 (1 ∷ []) ∷ group 30 0 0 0 1 [] ∷ [])
    ∷ row "update asked, update held" store (two_desks ++ d 3 3 10 ⇒ done 0 ∷ []) (group 10 0 7 0 0 (1 ∷ 2 ∷ []) ∷ free 5 ∷ [])
    ∷ row "update asked, update held: not for the same entry" store (two_desks ++ d 3 1 10 ⇒ wait 1 ∷ i 4 2 10 ⇒ wait 2 ∷ []) (group 10 0 3 0 0 (1 ∷ 2 ∷ []) ∷ entry 1 0 0 1 ∷ entry 2 0 0 2 ∷ [])
    ∷ row "locate asked, update held by two: it waits for both" store (two_desks ++ l 3 10 10 ⇒ wait 1 ∷ c 1 ⇒ ok ∷ s 3 ⇒ wait 2 ∷ a 2 ⇒ ok ∷ s 3 ⇒ found ((10, 1) ∷ []) ∷ [])
    (group 10 4 0 0 0 (1 ∷ []) ∷ free 8 ∷ [])
    ∷ row "locate asked by one of two that update: it waits for the other" store (two_desks ++ l 1 10 10 ⇒ wait 2 ∷ l 2 10 10 ⇒ wait 1 ∷ a 2 ⇒ ok ∷ s 1 ⇒ found ((10, 1) ∷ []) ∷ [])
    (group 10 1 1 0 0 (1 ∷ []) ∷ free 7 ∷ [])
    ∷ row "update asked, update and locate held by one: it waits" store (i 1 1 10 ⇒ done 1 ∷ l 1 10 10 ⇒ found ((10, 1) ∷ []) ∷ i 2 2 10 ⇒ wait 1 ∷ []) (group 10 1 1 0 1 (1 ∷ []) ∷ [])
    ∷ row "a 0-answer waits and takes its lock too" store (i 1 1 10 ⇒ done 1 ∷ c 1 ⇒ ok ∷ l 2 10 10 ⇒ found ((10, 1) ∷ []) ∷ i 3 1 10 ⇒ wait 2 ∷ c 2 ⇒ ok ∷ g 3 ⇒ done 0 ∷ [])
    (group 10 0 4 0 0 (1 ∷ []) ∷ free 8 ∷ [])
    ∷ row "locate asked, locate held" store (l 1 10 20 ⇒ done 0 ∷ l 2 10 20 ⇒ done 0 ∷ []) (group 10 3 0 3 0 [] ∷ group 20 3 0 0 0 [] ∷ [])
    ∷ row "a session's own locks are not in its way" store
    (r 1 1 ⇒ done 0 ∷ w 1 1 7 ⇒ done 0 ∷ r 1 1 ⇒ done 7 ∷ l 1 10 10 ⇒ done 0 ∷ i 1 1 10 ⇒ done 1 ∷ l 1 10 10 ⇒ found ((10, 1) ∷ []) ∷ [])
    (entry 1 7 1 1 ∷ group 10 1 1 0 0 (1 ∷ []) ∷ free 6 ∷ [])
    ∷ row "two in the way, of a write" store (r 1 1 ⇒ done 0 ∷ r 2 1 ⇒ done 0 ∷ r 16 1 ⇒ done 0 ∷ w 2 1 7 ⇒ wait 1 ∷ []) (entry 1 0 32771 0 ∷ [])
    ∷ row "two in the way, of an insert" store (l 1 10 10 ⇒ done 0 ∷ l 3 10 10 ⇒ done 0 ∷ i 2 1 10 ⇒ wait 1 ∷ []) (group 10 5 0 0 1 [] ∷ [])
    ∷ row "the one who waits goes on after a commit" store (l 1 10 20 ⇒ done 0 ∷ i 2 1 10 ⇒ wait 1 ∷ s 2 ⇒ wait 1 ∷ c 1 ⇒ ok ∷ s 2 ⇒ done 1 ∷ [])
    (group 10 0 2 0 0 (1 ∷ []) ∷ group 20 0 0 0 0 [] ∷ [])
    ∷ []

-- ---- records that a change takes

abbrev changes : List (Row String)
changes =
    row "a write, with its record, and with none" (one 1 (tens 0 6)) (w 1 1 7 ⇒ done 0 ∷ w 1 2 8 ⇒ refused 11 ∷ s 1 ⇒ refused 7 ∷ [])
    (entry 1 7 0 1 ∷ entry 2 0 0 0 ∷ free 0 ∷ [])
    ∷ row "an insert's change, with two records" (one 2 (tens 0 5)) (i 1 1 10 ⇒ done 1 ∷ []) (group 10 0 1 0 0 (1 ∷ []) ∷ free 0 ∷ [])
    ∷ row "an insert's change, with one: the entry's lock stays" (one 2 (tens 0 5)) (i 1 1 15 ⇒ refused 11 ∷ s 1 ⇒ refused 7 ∷ [])
    (group 15 0 0 0 0 [] ∷ entry 1 0 0 1 ∷ free 1 ∷ [])
    ∷ row "taking out and 0-answers take none" (one 2 (tens 0 5))
    (i 1 1 10 ⇒ done 1 ∷ i 1 1 10 ⇒ done 0 ∷ d 1 1 10 ⇒ done 1 ∷ d 1 1 10 ⇒ done 0 ∷ i 1 1 10 ⇒ refused 11 ∷ [])
    (group 10 0 1 0 0 [] ∷ free 0 ∷ [])
    ∷ row "what is taken out is locked, and its record kept for the abort" store (i 1 1 10 ⇒ done 1 ∷ c 1 ⇒ ok ∷ d 2 1 10 ⇒ done 1 ∷ [])
    (group 10 0 2 0 0 [] ∷ entry 1 0 0 2 ∷ free 8 ∷ [])
    ∷ row "wait before 11: a write" (one 0 (tens 0 7)) (r 1 1 ⇒ done 0 ∷ w 2 1 7 ⇒ wait 1 ∷ c 1 ⇒ ok ∷ g 2 ⇒ refused 11 ∷ []) (entry 1 0 0 0 ∷ free 0 ∷ [])
    ∷ row "wait before 11: an insert's change" (one 1 (tens 0 6)) (l 1 10 10 ⇒ done 0 ∷ i 2 1 10 ⇒ wait 1 ∷ c 1 ⇒ ok ∷ g 2 ⇒ refused 11 ∷ [])
    (group 10 0 0 0 0 [] ∷ entry 1 0 0 2 ∷ free 1 ∷ [])
    ∷ row "members rise" store (i 1 2 10 ⇒ done 1 ∷ i 1 3 10 ⇒ done 1 ∷ i 1 1 10 ⇒ done 1 ∷ d 1 2 10 ⇒ done 1 ∷ []) (group 10 0 1 0 0 (1 ∷ 3 ∷ []) ∷ free 3 ∷ [])
    ∷ []

-- ---- locates: the scan, the list

-- Entries 1 and 3 are in 10, 2 is in 20.
abbrev filled : List (Line × Told)
filled = i 1 3 10 ⇒ done 1 ∷ i 1 2 20 ⇒ done 1 ∷ i 1 1 10 ⇒ done 1 ∷ c 1 ⇒ ok ∷ []

abbrev locates : List (Row String)
locates =
    row "a list just long enough" store (filled ++ puts (l 2 10 20) ⇒ ok ∷ goes 2 6 ⇒ found ((10, 1) ∷ (10, 3) ∷ (20, 2) ∷ []) ∷ [])
    (group 10 2 0 2 0 (1 ∷ 3 ∷ []) ∷ group 20 2 0 0 0 (2 ∷ []) ∷ [])
    ∷ row "12, with the count: the request ends, its last lock is not taken, earlier ones stay" store
    (filled ++ puts (l 2 10 20) ⇒ ok ∷ goes 2 5 ⇒ short 3 ∷ s 2 ⇒ refused 7 ∷ [])
    (group 10 2 0 2 0 (1 ∷ 3 ∷ []) ∷ group 20 0 0 0 0 (2 ∷ []) ∷ [])
    ∷ row "12 counts the session's own, and only the range" store
    (filled ++ i 2 1 30 ⇒ done 1 ∷ puts (l 2 11 30) ⇒ ok ∷ goes 2 3 ⇒ short 2 ∷ []) (group 20 2 0 2 0 (2 ∷ []) ∷ group 30 0 2 0 0 (1 ∷ []) ∷ [])
    ∷ row "wait before 12" store (i 1 2 20 ⇒ done 1 ∷ puts (l 2 20 20) ⇒ ok ∷ goes 2 0 ⇒ wait 1 ∷ c 1 ⇒ ok ∷ goes 2 0 ⇒ short 1 ∷ []) (group 20 0 0 0 0 (2 ∷ []) ∷ [])
    ∷ row "nothing found needs no list" store (puts (l 1 10 20) ⇒ ok ∷ goes 1 0 ⇒ done 0 ∷ []) (group 10 1 0 1 0 [] ∷ group 20 1 0 0 0 [] ∷ [])
    ∷ row "two descents and a step a descriptor" store (along 6 1 (l 1 10 30) ++ s 1 ⇒ done 0 ∷ [])
    (group 10 1 0 1 0 [] ∷ group 20 1 0 1 0 [] ∷ group 30 1 0 0 0 [] ∷ group 0 0 0 0 0 [] ∷ free 9 ∷ [])
    ∷ row "first is pinned on the second descent" store (along 3 1 (l 1 10 30)) (group 10 0 0 0 1 [] ∷ tree 0 (low (by 1) (tens 0 4) top) ∷ [])
    ∷ row "the last one taken is tidied behind the scan" store (along 6 1 (l 1 10 30) ++ t 0 15 ⇒ tidied 20 1 ∷ s 1 ⇒ done 0 ∷ [])
    (gone 20 ∷ group 10 1 0 1 0 [] ∷ group 30 1 0 0 0 [] ∷ [])
    ∷ row "one made ahead of the scan is taken" store (along 5 1 (l 1 10 30) ++ l 2 15 15 ⇒ done 0 ∷ s 1 ⇒ more ∷ s 1 ⇒ more ∷ s 1 ⇒ done 0 ∷ [])
    (group 15 3 0 1 0 [] ∷ group 20 1 0 1 0 [] ∷ [])
    ∷ row "one made behind the scan is held, not taken" store (along 6 1 (l 1 10 30) ++ l 2 15 15 ⇒ done 0 ∷ s 1 ⇒ done 0 ∷ []) (group 15 3 0 1 0 [] ∷ [])
    ∷ row "a scan over two nodes" (two 0 (duo 0 3)) (l 1 10 40 ⇒ done 0 ∷ [])
    (group 20 1 0 1 0 [] ∷ group 30 1 0 1 0 [] ∷ group 40 1 0 0 0 [] ∷ group 50 0 0 0 0 [] ∷ [])
    ∷ []

-- ---- tidy

abbrev tidies : List (Row String)
tidies =
    row "key 0 is never chosen: nothing above it, one step" (one 9 (tens 0 1)) (puts (t 0 0) ⇒ ok ∷ s 0 ⇒ tidied 0 0 ∷ s 0 ⇒ refused 7 ∷ []) (group 0 0 0 0 0 [] ∷ free 9 ∷ [])
    ∷ row "first may be any word" store (t 0 top ⇒ tidied 0 0 ∷ t 0 30 ⇒ tidied 0 0 ∷ t 0 29 ⇒ tidied 30 1 ∷ []) (tree 0 (low 0 (tens 0 3) top) ∷ free 10 ∷ [])
    ∷ row "the choice is fixed at the put" store (puts (t 0 0) ⇒ ok ∷ l 1 5 5 ⇒ done 0 ∷ g 0 ⇒ tidied 10 1 ∷ []) (tree 0 (low 0 (0 ∷ 5 ∷ tens 2 2) top) ∷ free 9 ∷ [])
    ∷ row "that there is none is fixed at the put" (one 9 (tens 0 1)) (puts (t 0 0) ⇒ ok ∷ l 1 5 5 ⇒ done 0 ∷ g 0 ⇒ tidied 0 0 ∷ []) (group 5 1 0 0 0 [] ∷ [])
    ∷ row "removed, the last of its node: the node keeps its bound" (two 0 (low 0 (tens 0 4) 35 ∷ low 0 (tens 4 4) top ∷ [])) (t 0 29 ⇒ tidied 30 1 ∷ [])
    (tree 1 (over 0 (low 0 (tens 0 3) 35 ∷ low 0 (tens 4 4) top ∷ [])) ∷ free 1 ∷ [])
    ∷ row "removed, the first of its node, in a located range" (two 0 (low 0 (tens 0 4) 35 ∷ low 0 (tens 4 4) top ∷ []))
    (l 1 30 50 ⇒ done 0 ∷ t 0 39 ⇒ tidied 40 1 ∷ [])
    (tree 1 (over 0 (low 0 (tens 0 4) 35 ∷ low 0 (tens 5 3) top ∷ [])) ∷ group 30 1 0 1 0 [] ∷ group 50 1 0 0 0 [] ∷ free 1 ∷ [])
    ∷ row "declined: pinned" store (along 2 1 (l 1 10 10) ++ t 0 0 ⇒ tidied 10 0 ∷ []) (group 10 0 0 0 1 [] ∷ tree 0 (low 0 (tens 0 4) top) ∷ free 9 ∷ [])
    ∷ row "no longer pinned" store (along 2 1 (l 1 10 10) ++ a 1 ⇒ ok ∷ t 0 0 ⇒ tidied 10 1 ∷ []) (gone 10 ∷ free 10 ∷ [])
    ∷ row "declined: members" store (i 1 1 10 ⇒ done 1 ∷ c 1 ⇒ ok ∷ t 0 0 ⇒ tidied 10 0 ∷ []) (group 10 0 0 0 0 (1 ∷ []) ∷ free 8 ∷ [])
    ∷ row "declined: update holders" store (d 1 1 10 ⇒ done 0 ∷ t 0 0 ⇒ tidied 10 0 ∷ []) (group 10 0 1 0 0 [] ∷ free 9 ∷ [])
    ∷ row "declined: one of two update holders left" store (d 1 1 10 ⇒ done 0 ∷ d 2 2 10 ⇒ done 0 ∷ c 1 ⇒ ok ∷ t 0 0 ⇒ tidied 10 0 ∷ a 2 ⇒ ok ∷ t 0 0 ⇒ tidied 10 1 ∷ [])
    (gone 10 ∷ free 10 ∷ [])
    ∷ row "declined: locate holders unlike the gap's before" store (l 1 10 10 ⇒ done 0 ∷ t 0 0 ⇒ tidied 10 0 ∷ []) (group 0 0 0 0 0 [] ∷ group 10 1 0 0 0 [] ∷ free 9 ∷ [])
    ∷ row "declined: gap holders unlike the gap's before" store (l 1 10 20 ⇒ done 0 ∷ t 0 19 ⇒ tidied 20 0 ∷ []) (group 10 1 0 1 0 [] ∷ group 20 1 0 0 0 [] ∷ free 9 ∷ [])
    ∷ row "all held by two alike" store (l 1 10 30 ⇒ done 0 ∷ l 2 10 30 ⇒ done 0 ∷ t 0 19 ⇒ tidied 20 1 ∷ []) (gone 20 ∷ group 10 3 0 3 0 [] ∷ free 10 ∷ [])
    ∷ row "declined: held by one more" store (l 1 10 30 ⇒ done 0 ∷ l 2 20 20 ⇒ done 0 ∷ t 0 19 ⇒ tidied 20 0 ∷ []) (group 20 3 0 1 0 [] ∷ free 9 ∷ [])
    ∷ []

-- ---- latches (document 01: short locks)

-- Session p's locate of k stands at a node; p's at a root over a lone node, with latch word v. No call leads to a latched root over a lone node, but it is sound.
abbrev standing : ℕ → ℕ → State → State
standing p k x = set_hand p (some (record { code = 5; entry = 0; first = k; second = k; stage = at k })) x

abbrev latched : ℕ → ℕ → State
latched p v = standing p 10 (planted 3 2 1 (over (by p) (low v (tens 0 4) top ∷ [])))

abbrev latches : List (Row String)
latches =
    row "the root, latched by a session" store (along 1 1 (l 1 15 15) ++ l 2 5 5 ⇒ wait 1 ∷ t 0 0 ⇒ wait 1 ∷ []) (tree 0 (low (by 1) (tens 0 4) top) ∷ free 9 ∷ [])
    ∷ row "the root, latched by the housekeeper" store (along 1 0 (t 0 0) ++ l 1 5 5 ⇒ wait 0 ∷ []) (tree 0 (low (by 0) (tens 0 4) top) ∷ free 9 ∷ [])
    ∷ row "the root, released" store (along 1 1 (l 1 15 15) ++ l 2 5 5 ⇒ wait 1 ∷ s 1 ⇒ more ∷ g 2 ⇒ done 0 ∷ [])
    (tree 0 (low 0 (0 ∷ 5 ∷ 10 ∷ 15 ∷ tens 2 2) top) ∷ free 7 ∷ [])
    ∷ row "a son; the one who waits keeps its own" (two 0 (trio 0 4 0 4)) (along 2 1 (l 1 10 10) ++ l 2 20 20 ⇒ wait 1 ∷ l 3 50 50 ⇒ wait 2 ∷ [])
    (tree 1 (over (by 2) (trio (by 1) 4 0 4)) ∷ [])
    ∷ row "another son" (two 0 (trio 0 4 0 4)) (along 2 1 (l 1 10 10) ++ l 2 50 50 ⇒ done 0 ∷ []) (tree 1 (over 0 (trio (by 1) 4 0 4)) ∷ group 50 2 0 0 0 [] ∷ [])
    ∷ row "the housekeeper's son" (two 0 (trio 0 4 0 3)) (along 2 1 (l 1 50 50) ++ along 1 0 (t 0 49) ++ s 0 ⇒ wait 1 ∷ [])
    (tree 1 (over (by 0) (trio 0 4 (by 1) 3)) ∷ free 0 ∷ [])
    ∷ row "the housekeeper's left neighbour, to be joined" (two 0 (trio 0 4 0 3)) (along 2 1 (l 1 10 10) ++ along 1 0 (t 0 49) ++ s 0 ⇒ wait 1 ∷ [])
    (tree 1 (over (by 0) (trio (by 1) 4 0 3)) ∷ free 0 ∷ [])
    ∷ row "the neighbour, released" (two 0 (trio 0 4 0 3)) (along 2 1 (l 1 10 10) ++ along 1 0 (t 0 49) ++ s 0 ⇒ wait 1 ∷ s 1 ⇒ more ∷ s 0 ⇒ more ∷ [])
    (tree 1 (over 0 (duo (by 0) 7)) ∷ free 1 ∷ [])
    ∷ row "the housekeeper's left neighbour, to be taken from" (two 0 (trio 0 6 0 3)) (along 2 1 (l 1 10 10) ++ along 1 0 (t 0 69) ++ s 0 ⇒ wait 1 ∷ [])
    (tree 1 (over (by 0) (trio (by 1) 6 0 3)) ∷ free 0 ∷ [])
    ∷ row "the right neighbour of the first son" (two 0 (trio 0 3 0 4)) (along 2 1 (l 1 40 40) ++ along 1 0 (t 0 9) ++ s 0 ⇒ wait 1 ∷ [])
    (tree 1 (over (by 0) (trio 0 3 (by 1) 4)) ∷ free 0 ∷ [])
    ∷ row "the neighbour of a node of 4 is not in the way" (two 0 (trio 0 4 0 4)) (along 2 1 (l 1 10 10) ++ along 2 0 (t 0 49))
    (tree 1 (over 0 (trio (by 1) 4 (by 0) 4)) ∷ free 0 ∷ [])
    ∷ row "left neighbour and son: the left one's is named, whoever began first" (two 0 (trio 0 4 0 3)) (along 2 2 (l 2 10 10) ++ along 2 1 (l 1 50 50) ++ along 1 0 (t 0 49) ++ s 0 ⇒ wait 2 ∷ [])
    (tree 1 (over (by 0) (trio (by 2) 4 (by 1) 3)) ∷ free 0 ∷ [])
    ∷ row "son and right neighbour: the left one's is named, whoever began first" (two 0 (trio 0 3 0 4)) (along 2 2 (l 2 10 10) ++ along 2 1 (l 1 40 40) ++ along 1 0 (t 0 9) ++ s 0 ⇒ wait 2 ∷ [])
    (tree 1 (over (by 0) (trio (by 2) 3 (by 1) 4)) ∷ free 0 ∷ [])
    ∷ row "a son that is moved is not in the way" (three 0 (uppers 0 6 0 3)) (along 3 1 (l 1 160 160) ++ along 2 0 (t 0 189))
    (tree 2 (over 0 (over 0 (lows 0 5) ∷ over (by 0) (low (by 1) (tens 15 3) 175 ∷ lows 6 3) ∷ upper_last 9)) ∷ free 0 ∷ [])
    ∷ row "a root to be dropped" (from (latched 1 0)) (l 2 20 20 ⇒ wait 1 ∷ []) (tree 1 (over (by 1) (low 0 (tens 0 4) top ∷ [])) ∷ free 2 ∷ [])
    ∷ row "the son of a root to be dropped" (from (latched 1 0)) (l 2 20 20 ⇒ wait 1 ∷ s 1 ⇒ more ∷ s 2 ⇒ wait 1 ∷ []) (tree 1 (over 0 (low (by 1) (tens 0 4) top ∷ [])) ∷ free 2 ∷ [])
    ∷ row "root and son released, and the root dropped" (from (latched 1 0)) (l 2 20 20 ⇒ wait 1 ∷ s 1 ⇒ more ∷ s 1 ⇒ more ∷ s 2 ⇒ more ∷ []) (tree 0 (low (by 2) (tens 0 4) top) ∷ free 3 ∷ [])
    ∷ row "a root to be dropped and its son: the root's is named, whoever began first" (from (standing 1 20 (latched 3 (by 1))))
    (l 2 20 20 ⇒ wait 3 ∷ []) (tree 1 (over (by 3) (low (by 1) (tens 0 4) top ∷ [])) ∷ free 2 ∷ [])
    ∷ row "a lone son that the housekeeper has just joined" (two 0 (low 0 (tens 0 4) 35 ∷ low 0 (tens 4 3) top ∷ [])) (along 2 0 (t 0 49) ++ l 1 10 10 ⇒ wait 0 ∷ [])
    (tree 1 (over 0 (low (by 0) (tens 0 7) top ∷ [])) ∷ free 1 ∷ [])
    ∷ row "wait before 11: a full root" (one 1 (tens 0 8)) (along 1 0 (t 0 0) ++ l 1 35 35 ⇒ wait 0 ∷ []) (tree 0 (low (by 0) (tens 0 8) top) ∷ free 1 ∷ [])
    ∷ row "wait before 11: a full son" (two 0 (duo 0 8)) (along 2 0 (t 0 0) ++ l 1 35 35 ⇒ wait 0 ∷ []) (tree 1 (over (by 1) (duo (by 0) 8)) ∷ free 0 ∷ [])
    ∷ []

-- ---- commit and abort

-- Value 5 and entry 3 in 10 stand; session 1 writes twice, takes 3 out and adds it again, and adds 2.
abbrev changed : List (Line × Told)
changed =
    w 2 1 5 ⇒ done 0 ∷ i 2 3 10 ⇒ done 1 ∷ c 2 ⇒ ok
    ∷ w 1 1 7 ⇒ done 0 ∷ w 1 1 8 ⇒ done 0 ∷ d 1 3 10 ⇒ done 1 ∷ i 1 3 10 ⇒ done 1 ∷ i 1 2 10 ⇒ done 1 ∷ []

abbrev ends : List (Row String)
ends =
    row "before the end" store changed (entry 1 8 0 1 ∷ group 10 0 1 0 0 (2 ∷ 3 ∷ []) ∷ free 2 ∷ [])
    ∷ row "commit keeps the changes" store (changed ++ c 1 ⇒ ok ∷ s 1 ⇒ refused 5 ∷ []) (entry 1 8 0 0 ∷ group 10 0 0 0 0 (2 ∷ 3 ∷ []) ∷ free 7 ∷ [])
    ∷ row "abort undoes them, newest first" store (changed ++ a 1 ⇒ ok ∷ s 1 ⇒ refused 5 ∷ []) (entry 1 5 0 0 ∷ group 10 0 0 0 0 (3 ∷ []) ∷ free 8 ∷ [])
    ∷ row "two at one key: the first aborts, the second commits" store (two_desks ++ a 1 ⇒ ok ∷ c 2 ⇒ ok ∷ []) (group 10 0 0 0 0 (2 ∷ []) ∷ entry 1 0 0 0 ∷ free 8 ∷ [])
    ∷ row "two at one key: the second aborts, the first commits" store (two_desks ++ a 2 ⇒ ok ∷ c 1 ⇒ ok ∷ []) (group 10 0 0 0 0 (1 ∷ []) ∷ entry 2 0 0 0 ∷ free 8 ∷ [])
    ∷ row "two at one key: the first commits, the second aborts" store (two_desks ++ c 1 ⇒ ok ∷ a 2 ⇒ ok ∷ []) (group 10 0 0 0 0 (1 ∷ []) ∷ free 8 ∷ [])
    ∷ row "two at one key: the second commits, the first aborts" store (two_desks ++ c 2 ⇒ ok ∷ a 1 ⇒ ok ∷ []) (group 10 0 0 0 0 (2 ∷ []) ∷ free 8 ∷ [])
    ∷ row "two at one key: both abort, the first first" store (two_desks ++ a 1 ⇒ ok ∷ a 2 ⇒ ok ∷ []) (group 10 0 0 0 0 [] ∷ free 9 ∷ [])
    ∷ row "two at one key: both abort, the second first" store (two_desks ++ a 2 ⇒ ok ∷ a 1 ⇒ ok ∷ []) (group 10 0 0 0 0 [] ∷ free 9 ∷ [])
    ∷ row "three at one key take out and add, and abort in another sequence" store (i 1 1 10 ⇒ done 1 ∷ i 1 3 10 ⇒ done 1 ∷ c 1 ⇒ ok ∷ d 2 3 10 ⇒ done 1 ∷ d 3 1 10 ⇒ done 1 ∷ i 4 2 10 ⇒ done 1 ∷ a 2 ⇒ ok ∷ a 4 ⇒ ok ∷ a 3 ⇒ ok ∷ [])
    (group 10 0 0 0 0 (1 ∷ 3 ∷ []) ∷ free 7 ∷ [])
    ∷ row "abort ends a descent" (two 0 (trio 0 4 0 4)) (along 2 1 (l 1 10 10) ++ a 1 ⇒ ok ∷ []) (tree 1 (over 0 (trio 0 4 0 4)) ∷ [])
    ∷ row "abort ends pins, and descriptors stay" store (along 5 1 (l 1 5 15) ++ a 1 ⇒ ok ∷ []) (group 5 0 0 0 0 [] ∷ group 15 0 0 0 0 [] ∷ free 7 ∷ [])
    ∷ row "abort between a locate's two descents" store (along 2 1 (l 1 5 15) ++ a 1 ⇒ ok ∷ []) (group 5 0 0 0 0 [] ∷ gone 15 ∷ free 8 ∷ [])
    ∷ row "the others' locks stay" store (l 1 10 20 ⇒ done 0 ∷ l 2 10 20 ⇒ done 0 ∷ r 1 1 ⇒ done 0 ∷ r 2 1 ⇒ done 0 ∷ c 1 ⇒ ok ∷ [])
    (group 10 2 0 2 0 [] ∷ group 20 2 0 0 0 [] ∷ entry 1 0 2 0 ∷ [])
    ∷ []

-- ---- the order of begins

-- Sessions 3, 1 and 2 begin in this order.
abbrev order : String → List (Line × Told) → List ℕ → Row String
order n ls ns = row n (formats 3 225 ok) (b 3 ⇒ ok ∷ b 1 ⇒ ok ∷ b 2 ⇒ ok ∷ ls) (begun ns ∷ [])

-- Sessions 1, 2 and 4 are begun, with these numbers.
abbrev numbered : ℕ → ℕ → ℕ → Start
numbered x y z =
    let rest = begun_from z 1 ++ replicate (width - 4) idle in
    from (with_table (idle ∷ (begun_from x 1 ++ begun_from y 1 ++ idle ∷ rest)) (planted 3 9 0 (low 0 (tens 0 4) top)))

abbrev begins : List (Row String)
begins =
    order "begun in turn" [] (1 ∷ 2 ∷ 2 ∷ 3 ∷ 3 ∷ 1 ∷ [])
    ∷ order "a request, a step and a commit number nobody" (r 2 1 ⇒ done 0 ∷ c 3 ⇒ ok ∷ []) (1 ∷ 2 ∷ 2 ∷ 3 ∷ [])
    ∷ order "who commits and begins again is the last" (c 3 ⇒ ok ∷ b 3 ⇒ ok ∷ []) (1 ∷ 1 ∷ 2 ∷ 2 ∷ 3 ∷ 3 ∷ [])
    ∷ order "who aborts and begins again is the last" (a 1 ⇒ ok ∷ b 1 ⇒ ok ∷ []) (1 ∷ 3 ∷ 2 ∷ 2 ∷ 3 ∷ 1 ∷ [])
    ∷ order "one ends, another begins" (c 1 ⇒ ok ∷ b 16 ⇒ ok ∷ []) (2 ∷ 2 ∷ 3 ∷ 1 ∷ 16 ∷ 3 ∷ [])
    ∷ order "a refused begin numbers nobody" (c 3 ⇒ ok ∷ b 1 ⇒ refused 5 ∷ b 0 ⇒ refused 4 ∷ b 17 ⇒ refused 4 ∷ []) (1 ∷ 2 ∷ 2 ∷ 3 ∷ [])
    ∷ order "format ends all" (does (format 2 182) ⇒ ok ∷ b 4 ⇒ ok ∷ []) (4 ∷ 1 ∷ [])
    ∷ order "of two sharers the one that began first is named" (r 1 1 ⇒ done 0 ∷ r 3 1 ⇒ done 0 ∷ w 2 1 7 ⇒ wait 3 ∷ []) (1 ∷ 2 ∷ 2 ∷ 3 ∷ 3 ∷ 1 ∷ [])
    ∷ order "of two locators too" (l 1 10 10 ⇒ done 0 ∷ l 3 10 10 ⇒ done 0 ∷ i 2 1 10 ⇒ wait 3 ∷ []) (1 ∷ 2 ∷ 2 ∷ 3 ∷ 3 ∷ 1 ∷ [])
    ∷ order "who began first, committed and began again is no longer named" (c 3 ⇒ ok ∷ b 3 ⇒ ok ∷ r 3 1 ⇒ done 0 ∷ r 1 1 ⇒ done 0 ∷ w 2 1 7 ⇒ wait 1 ∷ []) (1 ∷ 1 ∷ 2 ∷ 2 ∷ 3 ∷ 3 ∷ [])
    ∷ order "when the one named ends, the next is named" (r 1 1 ⇒ done 0 ∷ r 3 1 ⇒ done 0 ∷ w 2 1 7 ⇒ wait 3 ∷ c 3 ⇒ ok ∷ g 2 ⇒ wait 1 ∷ []) (1 ∷ 2 ∷ 2 ∷ 3 ∷ [])
    ∷ order "the asker's own number plays no part" (r 1 1 ⇒ done 0 ∷ r 2 1 ⇒ done 0 ∷ r 3 1 ⇒ done 0 ∷ w 3 1 7 ⇒ wait 1 ∷ []) (1 ∷ 2 ∷ 2 ∷ 3 ∷ 3 ∷ 1 ∷ [])
    ∷ row "any numbers are sound" (numbered top 0 7) (r 1 1 ⇒ done 0 ∷ []) (begun (1 ∷ top ∷ 2 ∷ 0 ∷ 4 ∷ 7 ∷ []) ∷ [])
    ∷ row "the lowest number is named, whatever it is" (numbered top 0 7) (r 1 1 ⇒ done 0 ∷ r 4 1 ⇒ done 0 ∷ w 2 1 7 ⇒ wait 4 ∷ []) (entry 1 0 9 0 ∷ [])
    ∷ row "any numbers become ranks" (numbered top 0 7) (b 3 ⇒ ok ∷ []) (begun (1 ∷ 3 ∷ 2 ∷ 1 ∷ 3 ∷ 4 ∷ 4 ∷ 2 ∷ []) ∷ [])
    ∷ []

-- ---- ask and recover

abbrev asked : List (Row String)
asked =
    row "asked: only commit and abort remain" store (changed ++ k 1 ⇒ ok ∷ k 1 ⇒ refused 21 ∷ r 1 1 ⇒ refused 21 ∷ does (put 1 9 9 0 0) ⇒ refused 21 ∷ s 1 ⇒ refused 7 ∷ b 1 ⇒ refused 5 ∷ [])
    (entry 1 8 0 1 ∷ group 10 0 1 0 0 (2 ∷ 3 ∷ []) ∷ free 2 ∷ [])
    ∷ row "asked, then commit" store (changed ++ k 1 ⇒ ok ∷ c 1 ⇒ ok ∷ b 1 ⇒ ok ∷ r 1 1 ⇒ done 8 ∷ []) (entry 1 8 1 0 ∷ group 10 0 0 0 0 (2 ∷ 3 ∷ []) ∷ free 7 ∷ [])
    ∷ row "asked, then abort" store (changed ++ k 1 ⇒ ok ∷ a 1 ⇒ ok ∷ s 1 ⇒ refused 5 ∷ k 1 ⇒ refused 5 ∷ []) (entry 1 5 0 0 ∷ group 10 0 0 0 0 (3 ∷ []) ∷ free 8 ∷ [])
    ∷ row "ask has the checks of commit" store (k 0 ⇒ refused 4 ∷ k 17 ⇒ refused 4 ∷ a 2 ⇒ ok ∷ k 2 ⇒ refused 5 ∷ puts (r 1 1) ⇒ ok ∷ k 1 ⇒ refused 7 ∷ g 1 ⇒ done 0 ∷ k 1 ⇒ ok ∷ []) (entry 1 0 1 0 ∷ [])
    ∷ row "recover aborts who is not asked, and ends a descent" (two 0 (trio 0 4 0 4)) (along 2 1 (l 1 10 10) ++ v ⇒ ok ∷ s 1 ⇒ refused 5 ∷ b 1 ⇒ ok ∷ []) (tree 1 (over 0 (trio 0 4 0 4)) ∷ [])
    ∷ row "recover undoes, newest first" store (changed ++ v ⇒ ok ∷ s 1 ⇒ refused 5 ∷ []) (entry 1 5 0 0 ∷ group 10 0 0 0 0 (3 ∷ []) ∷ free 8 ∷ [])
    ∷ row "recover leaves who is asked, with all that he holds" store
    (changed ++ k 1 ⇒ ok ∷ b 2 ⇒ ok ∷ l 2 20 20 ⇒ done 0 ∷ r 2 1 ⇒ wait 1 ∷ v ⇒ ok ∷ s 2 ⇒ refused 5 ∷ b 2 ⇒ ok ∷ r 2 1 ⇒ wait 1 ∷ v ⇒ ok ∷ k 1 ⇒ refused 21 ∷ [])
    (entry 1 8 0 1 ∷ group 10 0 1 0 0 (2 ∷ 3 ∷ []) ∷ group 20 0 0 0 0 [] ∷ free 2 ∷ [])
    ∷ row "recover ends housekeeping: the latch is off, the join stays" (two 0 (trio 0 4 0 3)) (along 2 0 (t 0 49) ++ v ⇒ ok ∷ s 0 ⇒ refused 7 ∷ puts (t 0 0) ⇒ ok ∷ [])
    (tree 1 (over 0 (duo 0 7)) ∷ free 1 ∷ [])
    ∷ row "recover with nothing to do" (formats 3 225 ok) (v ⇒ ok ∷ v ⇒ ok ∷ []) (records 10 ∷ free 8 ∷ tree 0 (low 0 (tens 0 1) top) ∷ [])
    ∷ []

-- ---- refusals by number, with the calls as they come

-- M = 3, R = 10, and session 1 begun; the refused ones leave all as it is.
abbrev refusals : String → List (Line × Told) → Row String
refusals n ls = row n (formats 3 225 ok) (b 1 ⇒ ok ∷ ls) (records 10 ∷ free 8 ∷ tree 0 (low 0 (tens 0 1) top) ∷ [])

abbrev all : ℕ → List Line → List (Line × Told)
all n ls = map (λ x. x ⇒ refused n) ls

abbrev refusing : List (Row String)
refusing =
    refusals "4" (all 4 (does (begin 0) ∷ does (begin 17) ∷ does (begin top) ∷ does (put 17 1 1 0 0) ∷ does (step 17 0) ∷ c 0 ∷ c 17 ∷ a 0 ∷ a 17 ∷ []))
    ∷ refusals "5" (all 5 (b 1 ∷ r 2 1 ∷ s 2 ∷ c 2 ∷ a 2 ∷ []) ++ c 1 ⇒ ok ∷ all 5 (c 1 ∷ a 1 ∷ s 1 ∷ []) ++ b 1 ⇒ ok ∷ a 1 ⇒ ok ∷ a 1 ⇒ refused 5 ∷ t 0 0 ⇒ tidied 0 0 ∷ [])
    ∷ refusals "7" (all 7 (s 1 ∷ s 0 ∷ []) ++ puts (r 1 1) ⇒ ok ∷ all 7 (r 1 1 ∷ c 1 ∷ []) ++ g 1 ⇒ done 0 ∷ puts (r 1 1) ⇒ ok ∷ a 1 ⇒ ok ∷ puts (t 0 0) ⇒ ok ∷ t 0 0 ⇒ refused 7 ∷ [])
    ∷ refusals "6, from a session" (all 6 (map (λ k. does (put 1 k 1 1 1)) (0 ∷ 6 ∷ 7 ∷ top ∷ [])))
    ∷ refusals "6, from the housekeeper" (all 6 (map (λ k. does (put 0 k 1 1 1)) (0 ∷ 1 ∷ 2 ∷ 3 ∷ 4 ∷ 5 ∷ 7 ∷ top ∷ [])))
    ∷ refusals "8" (all 8 (r 1 0 ∷ w 1 0 7 ∷ i 1 0 7 ∷ d 1 0 7 ∷ r 1 4 ∷ w 1 4 7 ∷ i 1 4 7 ∷ d 1 4 7 ∷ r 1 top ∷ []) ++ r 1 3 ⇒ done 0 ∷ puts (l 1 7 7) ⇒ ok ∷ [])
    ∷ refusals "9" (all 9 (i 1 1 0 ∷ d 1 1 0 ∷ l 1 0 7 ∷ l 1 0 0 ∷ i 1 1 top ∷ d 1 1 top ∷ l 1 7 top ∷ l 1 top top ∷ []) ++ puts (w 1 1 top) ⇒ ok ∷ [])
    ∷ refusals "10" (all 10 (l 1 7 6 ∷ l 1 4294967294 1 ∷ []) ++ does (put 1 3 1 7 6) ⇒ ok ∷ [])
    ∷ refusals "the first of several" (does (put 17 9 9 0 0) ⇒ refused 4 ∷ does (put 2 9 9 0 0) ⇒ refused 5 ∷ all 6 (does (put 1 9 9 0 0) ∷ does (put 1 0 9 0 0) ∷ [])
    ++ does (put 1 3 9 0 0) ⇒ refused 8 ∷ all 9 (does (put 1 3 1 0 0) ∷ does (put 1 5 9 top 7) ∷ does (put 1 5 9 7 0) ∷ []) ++ does (put 1 5 9 7 6) ⇒ refused 10
    ∷ puts (r 1 1) ⇒ ok ∷ does (put 1 9 9 0 0) ⇒ refused 7 ∷ [])
    ∷ []

-- ---- format

abbrev formatting : List (Row String)
formatting =
    row "as many entries as may be" (formats 1024 3248 ok) [] (records 8 ∷ free 6 ∷ [])
    ∷ row "one word less" (formats 1024 3247 (refused 3)) [] []
    ∷ row "words beyond the last record" (formats 2 201 ok) [] (records 8 ∷ free 6 ∷ [])
    ∷ row "one record less than may be" (formats 1 81938 ok) [] (records 4095 ∷ free 4093 ∷ [])
    ∷ row "more records than may be" (formats 1 81959 ok) [] (records 4096 ∷ free 4094 ∷ [])
    ∷ row "no words" (formats 1 0 (refused 3)) [] []
    ∷ row "format begins anew" store (w 1 1 7 ⇒ done 0 ∷ l 1 10 20 ⇒ done 0 ∷ does (format 2 182) ⇒ ok ∷ s 1 ⇒ refused 5 ∷ b 2 ⇒ ok ∷ r 2 1 ⇒ done 0 ∷ [])
    (records 8 ∷ free 6 ∷ tree 0 (low 0 (tens 0 1) top) ∷ entry 1 0 2 0 ∷ [])
    ∷ row "a refused format changes nothing" store (w 1 1 7 ⇒ done 0 ∷ does (format 0 182) ⇒ refused 3 ∷ r 1 1 ⇒ done 7 ∷ []) (free 8 ∷ tree 0 (low 0 (tens 0 4) top) ∷ entry 1 7 1 1 ∷ [])
    ∷ []

abbrev pub directed : List (Row String)
directed = roots ++ levels ++ mends ++ makes ++ locks ++ changes ++ locates ++ tidies ++ latches ++ ends ++ begins ++ asked ++ refusing ++ formatting

pub directed-cases : map result directed ≡ map expected directed
unfolding result
directed-cases = refl

-- The starting states written out are well formed.
abbrev starts_well : Start → Bool
starts_well (formats m n k) = true
starts_well (from x) = well x

pub starts : map (λ x. starts_well x.start) directed ≡ map (λ _. true) directed
unfolding result
starts = refl
