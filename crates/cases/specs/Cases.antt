-- The cases P1 to P10 of document 01 ("Traces") and its own trace, as one table checked by one theorem.
use Rattle.std.specs.Prelude.{◌≡◌, refl, List, [], ◌∷◌, ◌++◌, map, ℕ}
use Rattle.machine.specs.State.{top}
use Rattle.cases.specs.Rows.{Told, ok, more, wait, done, tidied, refused, Line, ◌⇒◌, puts, b, r, w, i, d, l, t, s, g, c, a, by, low, over, tens, Fact, free, records, group, gone, tree, Start, formats, Row, row, result, expected}

pub data Case : Type 0 where
  P1 P2 P3 P4 P5 P6 P7 P8 P9 P10 trace : Case

-- M = 16, R = 700.
abbrev usual : Start
usual = formats 16 14064 ok

-- P3: session 1 located 400 to 600; 2 inserts at k.
abbrev inserting : ℕ → Told → Row Case
inserting k x = row P3 usual (b 1 ⇒ ok ∷ b 2 ⇒ ok ∷ l 1 400 600 ⇒ done 0 ∷ i 2 5 k ⇒ x ∷ []) []

-- P7: session 1 located 100 to 300 with 200 stored and empty; the lowest key above k is tidied.
abbrev tidying : ℕ → Told → Fact → Row Case
tidying k x f = row P7 usual (b 2 ⇒ ok ∷ l 2 200 200 ⇒ done 0 ∷ c 2 ⇒ ok ∷ b 1 ⇒ ok ∷ l 1 100 300 ⇒ done 0 ∷ t 0 k ⇒ x ∷ []) (f ∷ [])

-- P8: R = 8, and two inserts at new keys.
abbrev filling : List (Line × Told) → ℕ → Row Case
filling ls n = row P8 (formats 2 182 ok) (b 1 ⇒ ok ∷ i 1 1 10 ⇒ done 1 ∷ i 1 2 20 ⇒ done 1 ∷ ls) (free n ∷ [])

-- P9: a root with 8 descriptors, 10 to 70 beside key 0.
abbrev eight : List (Line × Told) → List Fact → Row Case
eight ls fs = row P9 usual (b 1 ⇒ ok ∷ b 2 ⇒ ok ∷ (map (λ k. l 1 k k ⇒ done 0) (tens 1 7) ++ ls)) fs

abbrev pub table : List (Row Case)
table =
    row P1 (formats 2 182 ok) [] (records 8 ∷ free 6 ∷ [])
    ∷ row P1 (formats 2 181 (refused 3)) [] []
    ∷ row P2 (formats 0 14064 (refused 3)) [] []
    ∷ row P2 (formats 1025 14064 (refused 3)) [] []
    ∷ inserting 400 (wait 1)
    ∷ inserting 500 (wait 1)
    ∷ inserting 600 (wait 1)
    ∷ inserting 399 (done 1)
    ∷ inserting 601 (done 1)
    ∷ row P4 usual (b 1 ⇒ ok ∷ l 1 400 600 ⇒ done 0 ∷ i 1 5 500 ⇒ done 1 ∷ i 1 5 500 ⇒ done 0 ∷ []) (group 500 1 1 1 0 (5 ∷ []) ∷ [])
    ∷ row P5 usual (b 1 ⇒ ok ∷ b 2 ⇒ ok ∷ r 1 5 ⇒ done 0 ∷ r 2 5 ⇒ done 0 ∷ w 1 5 9 ⇒ wait 2 ∷ w 2 5 9 ⇒ wait 1 ∷ []) []
    ∷ row P6 usual (b 1 ⇒ ok ∷ i 1 5 500 ⇒ done 1 ∷ a 1 ⇒ ok ∷ b 2 ⇒ ok ∷ l 2 1 4294967294 ⇒ done 0 ∷ []) []
    ∷ tidying 199 (tidied 200 1) (gone 200)
    ∷ tidying 99 (tidied 100 0) (group 100 1 0 1 0 [])
    ∷ tidying 299 (tidied 300 0) (group 300 1 0 0 0 [])
    ∷ filling [] 0
    ∷ filling (i 1 1 30 ⇒ refused 11 ∷ []) 0
    ∷ filling (i 1 1 30 ⇒ refused 11 ∷ c 1 ⇒ ok ∷ []) 2
    ∷ filling (i 1 1 30 ⇒ refused 11 ∷ a 1 ⇒ ok ∷ []) 4
    ∷ eight [] (tree 0 (low 0 (tens 0 8) top) ∷ free 691 ∷ [])
    ∷ eight (puts (l 2 35 35) ⇒ ok ∷ s 2 ⇒ more ∷ []) (tree 1 (over 0 (low 0 (tens 0 4) 30 ∷ low (by 2) (tens 4 4) top ∷ [])) ∷ free 689 ∷ [])
    ∷ row P10 usual (b 1 ⇒ ok ∷ puts (l 1 7 7) ⇒ ok ∷ s 1 ⇒ more ∷ s 1 ⇒ more ∷ s 1 ⇒ done 0 ∷ []) []
    ∷ row P10 usual (b 1 ⇒ ok ∷ l 1 7 6 ⇒ refused 10 ∷ []) []
    ∷ row P10 usual (b 1 ⇒ ok ∷ l 1 0 6 ⇒ refused 9 ∷ l 1 7 0 ⇒ refused 9 ∷ i 1 5 0 ⇒ refused 9 ∷ d 1 5 0 ⇒ refused 9 ∷ []) []
    ∷ row trace usual
    (b 1 ⇒ ok ∷ b 2 ⇒ ok ∷ puts (l 1 400 600) ⇒ ok ∷ g 1 ⇒ done 0 ∷ puts (i 2 5 500) ⇒ ok ∷ g 2 ⇒ wait 1 ∷ c 1 ⇒ ok ∷ g 2 ⇒ done 1 ∷ c 2 ⇒ ok ∷ []) []
    ∷ []

pub cases : map result table ≡ map expected table
unfolding result
cases = refl
