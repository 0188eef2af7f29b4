-- Lists, member by member.
use Rattle.std.specs.Prelude.{List, [], ◌∷◌, ◌++◌}

-- What every member has.
abbrev pub All : {A : Type 0} → (A → Type 0) → List A → Type 0
All P [] = Unit {0}
All P (x ∷ l) = P x × All P l

pub all_append : {A : Type 0} (P : A → Type 0) (a b : List A) → All P a → All P b → All P (a ++ b)
all_append P [] b p q = q
all_append P (x ∷ a) b p q = (p.0, all_append P a b p.1 q)

pub all-as : {A : Type 0} {P Q : A → Type 0} → ((x : A) → P x → Q x) → (l : List A) → All P l → All Q l
all-as f [] p = tt
all-as f (x ∷ l) p = (f x p.0, all-as f l p.1)

-- What the members of two lists have, one for one.
abbrev pub Each : {A B : Type 0} → (A → B → Type 0) → List A → List B → Type 0
Each R [] [] = Unit {0}
Each R [] (y ∷ m) = ⊥
Each R (x ∷ l) [] = ⊥
Each R (x ∷ l) (y ∷ m) = R x y × Each R l m
