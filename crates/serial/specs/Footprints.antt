-- What each request of the logical model depends on and changes, item by item, and the model as one that the serial-run theorem speaks of.
use Rattle.std.specs.Prelude.{[], ◌∷◌, ◌≡◌, refl, ℕ, ◌-◌, length}
use Rattle.std.proofs.Common.{sym, ◌∙◌, ap, subst}
use Rattle.std.proofs.Math.Decide.{ℕ_discrete}
use Rattle.serial.specs.Serial.{Model, pick_no}
use Rattle.serial.specs.Rising.{Rising, has-ins, has-ins-other, has-del, has-del-other, rising-ins, rising-del, only-ext}
use Rattle.serial.specs.Model.{Pair, by_key, Db, Req, read, write, insert, remove, locate, Ans, just, InRange, in_range, located, two_words, ans, eff, Item, value, cell, Item-discrete, get}

-- The footprints. A value is read by its read and changed by its write; a cell is read and changed by its insert and remove; a locate reads the cells of its range.
abbrev pub CellIn : ℕ → ℕ → Item → Type 0
CellIn lo hi (value e) = ⊥
CellIn lo hi (cell k e) = InRange lo hi (k, e)

abbrev pub Rd : Req → Item → Type 0
Rd (read e) i = i ≡ value e
Rd (write e v) i = ⊥
Rd (insert e k) i = i ≡ cell k e
Rd (remove e k) i = i ≡ cell k e
Rd (locate lo hi) i = CellIn lo hi i

abbrev pub Wr : Req → Item → Type 0
Wr (read e) i = ⊥
Wr (write e v) i = i ≡ value e
Wr (insert e k) i = i ≡ cell k e
Wr (remove e k) i = i ≡ cell k e
Wr (locate lo hi) i = ⊥

abbrev pub Good : Db → Type 0
Good d = Rising by_key d.members

pub eff_good : (r : Req) (d : Db) → Good d → Good (eff r d)
eff_good (read e) d g = g
eff_good (write e v) d g = g
eff_good (insert e k) d g = rising-ins by_key (k, e) d.members g
eff_good (remove e k) d g = rising-del by_key (k, e) d.members g
eff_good (locate lo hi) d g = g

pub located-local : (lo hi : ℕ) (d e : Db) → Good d → Good e → ((i : Item) → CellIn lo hi i → get d i ≡ get e i) → located lo hi d ≡ located lo hi e
located-local lo hi d e gd ge h = only-ext by_key (in_range lo hi) d.members e.members gd ge (λ p q. h (cell p.0 p.1) q)

pub ans-local : (r : Req) (d e : Db) → Good d → Good e → ((i : Item) → Rd r i → get d i ≡ get e i) → ans r d ≡ ans r e
ans-local (read x) d e gd ge h = ap just (h (value x) refl)
ans-local (write x v) d e gd ge h = refl
ans-local (insert x k) d e gd ge h = ap (λ n. just (1 - n)) (h (cell k x) refl)
ans-local (remove x k) d e gd ge h = ap just (h (cell k x) refl)
ans-local (locate lo hi) d e gd ge h = ap (λ l. record { numbers = length l ∷ []; words = two_words l }) (located-local lo hi d e gd ge h)

cell-pair : {k x k' x' : ℕ} → ◌≡◌ {A = Pair} (k, x) (k', x') → cell k x ≡ cell k' x'
cell-pair e = ap (λ p. cell p.0 p.1) e

pub frame : (r : Req) (d : Db) → Good d → (i : Item) → ¬ (Wr r i) → get (eff r d) i ≡ get d i
frame (read x) d g i n = refl
frame (write x v) d g (value y) n = pick_no (ℕ_discrete x y) v (d.values y) (λ e. n (ap value (sym e)))
frame (write x v) d g (cell k y) n = refl
frame (insert x k) d g (value y) n = refl
frame (insert x k) d g (cell l y) n = has-ins-other by_key (k, x) (l, y) d.members (λ e. n (cell-pair e))
frame (remove x k) d g (value y) n = refl
frame (remove x k) d g (cell l y) n = has-del-other by_key (k, x) (l, y) d.members (λ e. n (cell-pair e))
frame (locate lo hi) d g i n = refl

-- After an insert or a remove the cell is what the request made it, whatever it was.
pub cell-inserted : (x k : ℕ) (d : Db) → get (eff (insert x k) d) (cell k x) ≡ 1
cell-inserted x k d = has-ins by_key (k, x) d.members

pub cell-removed : (x k : ℕ) (d : Db) → get (eff (remove x k) d) (cell k x) ≡ 0
cell-removed x k d = has-del by_key (k, x) d.members

-- A request either keeps an item, or makes it the same in any two databases.
pub eff-local : (r : Req) (d e : Db) → Good d → Good e → ((i : Item) → Rd r i → get d i ≡ get e i)
    → (i : Item) → get d i ≡ get e i → get (eff r d) i ≡ get (eff r e) i
eff-local (read x) d e gd ge h i q = q
eff-local (write x v) d e gd ge h (value y) q = rw q refl
eff-local (write x v) d e gd ge h (cell k y) q = q
eff-local (insert x k) d e gd ge h i q = at (Item-discrete ℕ_discrete i (cell k x))
  where
    at : Dec (i ≡ cell k x) → get (eff (insert x k) d) i ≡ get (eff (insert x k) e) i
    at (yes p) = subst (λ j. get (eff (insert x k) d) j ≡ get (eff (insert x k) e) j) (sym p) (cell-inserted x k d ∙ sym (cell-inserted x k e))
    at (no n) = frame (insert x k) d gd i n ∙ q ∙ sym (frame (insert x k) e ge i n)
eff-local (remove x k) d e gd ge h i q = at (Item-discrete ℕ_discrete i (cell k x))
  where
    at : Dec (i ≡ cell k x) → get (eff (remove x k) d) i ≡ get (eff (remove x k) e) i
    at (yes p) = subst (λ j. get (eff (remove x k) d) j ≡ get (eff (remove x k) e) j) (sym p) (cell-removed x k d ∙ sym (cell-removed x k e))
    at (no n) = frame (remove x k) d gd i n ∙ q ∙ sym (frame (remove x k) e ge i n)
eff-local (locate lo hi) d e gd ge h i q = q

-- The entry store's model.
abbrev pub store : Model
store = record {
  Item = Item;
  Val = ℕ;
  Db = Db;
  Req = Req;
  Ans = Ans;
  get = get;
  eff = eff;
  ans = ans;
  item? = Item-discrete ℕ_discrete;
  Good = Good;
  eff_good = eff_good;
}
