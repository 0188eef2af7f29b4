-- What is proved of a row of the step tables on words: from words that hold a layout which means a sound state, the words after hold a layout that means the
-- machine's next state; and then they are sound and mean it.
use Rattle.std.specs.Prelude.{◌≡◌, List, [], ◌∷◌, ℕ, length, set}
use Rattle.std.proofs.Common.{subst, ◌∙◌}
use Rattle.words.specs.Store.{beyond}
use Rattle.sessions.specs.declared.Session.{Session}
use Rattle.serial.specs.Calls as C
use Rattle.machine.specs.State.{State, Answer, ok, more, wait, done, refused, Outcome}
use Rattle.machine.specs.Sound as M
use Rattle.meaning.specs.Reading.{M-of, R-of}
use Rattle.layout.specs.Layout.{Lay, Holds, means}

-- Words and table hold a layout that means a sound state.
pub record Stands (s : List ℕ) (t : List Session) : Type 0 where
  pub lay : Lay
  pub holds : Holds s t lay
  pub sound : M.Sound (means lay t)

-- The words and table after, s' and t', hold a layout that means the state next; the length is the same, and so are M, R and the words beyond the records.
pub record Becomes (s s' : List ℕ) (t' : List Session) (next : State) : Type 0 where
  pub lay : Lay
  pub holds : Holds s' t' lay
  pub means_next : means lay t' ≡ next
  pub long : length s' ≡ length s
  pub entries : M-of s' ≡ M-of s
  pub records : R-of s' ≡ R-of s
  pub rest : beyond s' (M-of s) (R-of s) ≡ beyond s (M-of s) (R-of s)

-- One change after another.
pub becomes-then : (s s' s'' : List ℕ) (t' t'' : List Session) (a b : State) → Becomes s s' t' a → Becomes s' s'' t'' b → Becomes s s'' t'' b
becomes-then s s' s'' t' t'' a b A B = record {
  lay = B.lay;
  holds = B.holds;
  means_next = B.means_next;
  long = B.long ∙ A.long;
  entries = B.entries ∙ A.entries;
  records = B.records ∙ A.records;
  rest = subst (λ m. beyond s'' m (R-of s) ≡ beyond s' m (R-of s)) A.entries (subst (λ r. beyond s'' (M-of s') r ≡ beyond s' (M-of s') r) A.records B.rest) ∙ A.rest;
}

-- A row's answer is the machine's; a wait names the first of the parties in the way.
abbrev pub Heads : Answer → C.Answer → Type 0
Heads ok a = a ≡ C.ok
Heads more a = a ≡ C.more
Heads (wait []) a = ⊥
Heads (wait (b ∷ bs)) a = a ≡ C.wait b
Heads (done ns) a = a ≡ C.done ns
Heads (refused n k) a = a ≡ C.refused n k

-- A step of party p: the words s', its session record x' and the answer a are the machine's outcome o.
pub record Moves (s : List ℕ) (t : List Session) (p : ℕ) (s' : List ℕ) (x' : Session) (a : C.Answer) (o : Outcome) : Type 0 where
  pub becomes : Becomes s s' (set t p x') o.next
  pub tells : Heads o.answer a
