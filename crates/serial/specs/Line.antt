-- The begun sessions in a line, read off calls and answers alone: the one whose begin was accepted first stands in front.
use Rattle.std.specs.Prelude.{◌≡◌, Bool, cond, not, List, [], ◌∷◌, ◌++◌, ◌⊎◌, ℕ, eqb}
use Rattle.serial.specs.Serial.{In}
use Rattle.serial.specs.Calls.{Call, Answer, Turn, Told, tell, format, begin, commit, abort, ask, recover, put, step, ok, more, wait, done, refused}

-- Those of a line of whom f says so, in their places.
unfoldable pub those : (ℕ → Bool) → List ℕ → List ℕ
those f [] = []
those f (q ∷ l) = let rest = those f l in cond (f q) (q ∷ rest) rest

-- A session taken out of the line.
abbrev pub out_of : ℕ → List ℕ → List ℕ
out_of p l = those (λ q. not (eqb p q)) l

-- An accepted begin stands at the end, an accepted commit or abort steps out, after an accepted recover those stand there still that were asked, and an
-- accepted format empties the line. t is what was told before.
abbrev pub line_ok : Told → Call → List ℕ → List ℕ
line_ok t (format m) l = []
line_ok t (begin p) l = l ++ p ∷ []
line_ok t (commit p) l = out_of p l
line_ok t (abort p) l = out_of p l
line_ok t (put p code entry first second) l = l
line_ok t (step p words) l = l
line_ok t (ask p) l = l
line_ok t recover l = those t.asked l

abbrev pub line_answer : Told → Call → Answer → List ℕ → List ℕ
line_answer t c ok l = line_ok t c l
line_answer t c more l = l
line_answer t c (wait p) l = l
line_answer t c (done ns) l = l
line_answer t c (refused n k) l = l

-- The line l after one call, and after a list of calls.
abbrev pub in_line : Told → List ℕ → Turn → List ℕ
in_line t l k = line_answer t k.call k.answer l

abbrev pub line : Told → List ℕ → List Turn → List ℕ
line t l [] = l
line t l (k ∷ ks) = line (tell k t) (in_line t l k) ks

-- p stands before q.
abbrev pub Before : ℕ → ℕ → List ℕ → Type 0
Before p q [] = ⊥
Before p q (x ∷ l) = ((p ≡ x) × In q l) ⊎ Before p q l
