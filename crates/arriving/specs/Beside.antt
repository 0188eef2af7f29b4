-- A new descriptor beside the one on the path, under the lowest node: before it, or behind it.
use Rattle.std.specs.Prelude.{◌≡◌, refl, Bool, leb, length}
use Rattle.std.proofs.Math.Path.{sym, ap, subst}
use Rattle.std.proofs.Common.{◌∙◌}
use Rattle.std.proofs.Math.Bool.{true, false, cond}
use mathlib.Core.List.{List, [], ◌∷◌, ◌++◌, map-append, append_assoc}
use Prim.Native.Nat.{ℕ, suc, ◌+◌, ◌<◌}
use native.Mathlib.Omega.{arith}
use Rattle.nodes.specs.declared.Node.{Node}
use Rattle.nodes.specs.Live.{Usable}
use Rattle.reshaping.specs.Live.{insert-usable}
use Rattle.nodes.specs.Entries as N
use Rattle.reshaping.specs.Entries.{before-entries, behind-entries}
use Rattle.sessions.specs.declared.Session.{Session}
use Rattle.sessions.specs.Sessions.{session_at}
use Rattle.machine.specs.Logic.{leb-is, leb-not}
use Rattle.machine.specs.Tree.{onp, onp-hit, map_e, map_e-append}
use Rattle.machine.specs.State.{Desc, top}
use Rattle.machine.specs.Descent.{Sons, put_in}
use Rattle.machine.specs.Steps.{made}
use Rattle.machine.specs.Order.{In, in-append}
use Rattle.meaning.specs.Reading.{Leaf, erase}
use Rattle.meaning.specs.Around.{below-erase}
use Rattle.meaning.specs.Lens.{descs, leaves_before, leaves_behind}
use Rattle.layout.specs.Layout.{Lay}
use Rattle.descents.specs.Descents.{beside}
use Rattle.arriving.specs.Lowest.{Lowest, leaves_of}
use Rattle.arriving.specs.Site.{nums_of}
use Rattle.arriving.specs.Lists.{snoc}

-- The descriptor made at record a for key x, with the holders g of the gap.
abbrev pub made_leaf : ℕ → ℕ → ℕ → Leaf
made_leaf a x g = record { num = a; desc = made x g }

pub record Beside (L : Lay) (t : List Session) (p : ℕ) (P : Lowest L t p) (a g : ℕ) : Type 0 where
  pub sons : List (Leaf × ℕ)
  pub X : List Leaf
  pub Y : List Leaf
  pub was : leaves_of (P.pre ++ (P.leaf, P.bound) ∷ P.post) ≡ X ++ Y
  pub is : leaves_of sons ≡ X ++ made_leaf a (session_at t p).target g ∷ Y
  pub low : In 0 (session_at t p).target (descs (leaves_before P.around ++ X))
  pub high : In (suc (session_at t p).target) (suc top) (descs (Y ++ leaves_behind P.around))
  pub erased : map_e (erase 0) sons ≡ put_in (made (session_at t p).target g) (map_e (erase 0) (P.pre ++ (P.leaf, P.bound) ∷ P.post))
  pub entries : (q : Node) (u : ℕ) → Usable q → N.entries q u ≡ nums_of P.pre ++ (P.leaf.num, P.bound) ∷ nums_of P.post → q.count < 8
      → (N.entries (beside q (length (nums_of P.pre)) (session_at t p).target P.leaf.desc.key a) u ≡ nums_of sons)
      × Usable (beside q (length (nums_of P.pre)) (session_at t p).target P.leaf.desc.key a)

module _ (L : Lay) (t : List Session) (p : ℕ) (P : Lowest L t p) (a g : ℕ) (ne : ¬ (P.leaf.desc.key ≡ (session_at t p).target)) where
  abbrev x : ℕ
  x = (session_at t p).target

  abbrev k : ℕ
  k = P.leaf.desc.key

  abbrev new : Leaf
  new = made_leaf a (session_at t p).target g

  before-sons : List (Leaf × ℕ)
  before-sons = P.pre ++ (new, x) ∷ (P.leaf, P.bound) ∷ P.post

  behind-sons : List (Leaf × ℕ)
  behind-sons = P.pre ++ (P.leaf, k) ∷ (new, P.bound) ∷ P.post

  put-sons : (c : Bool) → leb x k ≡ c → put_in (made x g) (map_e (erase 0) (P.pre ++ (P.leaf, P.bound) ∷ P.post))
      ≡ map_e (erase 0) P.pre ++ (cond c ((made x g, x) ∷ (P.leaf.desc, P.bound) ∷ []) ((P.leaf.desc, k) ∷ (made x g, P.bound) ∷ []) ++ map_e (erase 0) P.post)
  unfolding put_in erase
  put-sons c e =
      let n : Desc = made x g in
      let f : Desc → ℕ → Sons 0 = λ d v. cond (leb x d.key) ((n, x) ∷ (d, v) ∷ []) ((d, d.key) ∷ (n, v) ∷ []) in
      ap (onp x f) (map_e-append (λ l. l.desc) P.pre ((P.leaf, P.bound) ∷ P.post))
      ∙ onp-hit x f (map_e (λ l. l.desc) P.pre) P.leaf.desc P.bound (map_e (λ l. l.desc) P.post) (below-erase (λ l. l.desc) x P.pre P.below) P.upto
      ∙ ap (λ b. map_e (λ l. l.desc) P.pre ++ (cond b ((n, x) ∷ (P.leaf.desc, P.bound) ∷ []) ((P.leaf.desc, k) ∷ (n, P.bound) ∷ []) ++ map_e (λ l. l.desc) P.post)) e

  module _ (q : Node) (u : ℕ) (ok : Usable q) (is : N.entries q u ≡ nums_of P.pre ++ (P.leaf.num, P.bound) ∷ nums_of P.post) (room : q.count < 8) where
    here : length (nums_of P.pre) < q.count
    here = N.place-in ok u (nums_of P.pre) P.leaf.num P.bound (nums_of P.post) is

    entries-before : leb x k ≡ true → (N.entries (beside q (length (nums_of P.pre)) x k a) u ≡ nums_of before-sons) × Usable (beside q (length (nums_of P.pre)) x k a)
    unfolding beside before-sons
    entries-before e = rw e (
      before-entries ok u (nums_of P.pre) P.leaf.num P.bound (nums_of P.post) is room x a ∙ sym (map_e-append (λ l. l.num) P.pre ((new, x) ∷ (P.leaf, P.bound) ∷ P.post)),
      insert-usable ok (length (nums_of P.pre)) x (length (nums_of P.pre)) a room here (omega (arith, here)),
    )

    entries-behind : leb x k ≡ false → (N.entries (beside q (length (nums_of P.pre)) x k a) u ≡ nums_of behind-sons) × Usable (beside q (length (nums_of P.pre)) x k a)
    unfolding beside behind-sons
    entries-behind e = rw e (
      behind-entries ok u (nums_of P.pre) P.leaf.num P.bound (nums_of P.post) is room k a ∙ sym (map_e-append (λ l. l.num) P.pre ((P.leaf, k) ∷ (new, P.bound) ∷ P.post)),
      insert-usable ok (length (nums_of P.pre)) k (length (nums_of P.pre) + 1) a room here (omega (arith, here)),
    )

  stands-before : leb x k ≡ true → Beside L t p P a g
  unfolding before-sons erase
  stands-before e = record {
    sons = before-sons;
    X = leaves_of P.pre;
    Y = P.leaf ∷ leaves_of P.post;
    was = map-append (λ z. z.0) P.pre ((P.leaf, P.bound) ∷ P.post);
    is = map-append (λ z. z.0) P.pre ((new, x) ∷ (P.leaf, P.bound) ∷ P.post);
    low = P.keys_low;
    high = ((omega (arith, leb-is x k e, ne), omega (arith, P.key_most)), P.keys_high);
    erased = map_e-append (λ l. l.desc) P.pre ((new, x) ∷ (P.leaf, P.bound) ∷ P.post) ∙ sym (put-sons true e);
    entries = λ q u ok is room. entries-before q u ok is room e;
  }

  stands-behind : leb x k ≡ false → Beside L t p P a g
  unfolding behind-sons erase
  stands-behind e = record {
    sons = behind-sons;
    X = leaves_of P.pre ++ P.leaf ∷ [];
    Y = leaves_of P.post;
    was = map-append (λ z. z.0) P.pre ((P.leaf, P.bound) ∷ P.post) ∙ snoc (leaves_of P.pre) P.leaf (leaves_of P.post);
    is = map-append (λ z. z.0) P.pre ((P.leaf, k) ∷ (new, P.bound) ∷ P.post) ∙ snoc (leaves_of P.pre) P.leaf (new ∷ leaves_of P.post);
    low = subst (λ l. In 0 x (descs l)) (append_assoc (leaves_before P.around) (leaves_of P.pre) (P.leaf ∷ []))
        (subst (In 0 x) (sym (map-append (λ z. z.desc) (leaves_before P.around ++ leaves_of P.pre) (P.leaf ∷ [])))
        (in-append 0 x (descs (leaves_before P.around ++ leaves_of P.pre)) (P.leaf.desc ∷ []) P.keys_low ((omega arith, leb-not x k e), tt)));
    high = P.keys_high;
    erased = map_e-append (λ l. l.desc) P.pre ((P.leaf, k) ∷ (new, P.bound) ∷ P.post) ∙ sym (put-sons false e);
    entries = λ q u ok is room. entries-behind q u ok is room e;
  }

  pub stands-beside : Beside L t p P a g
  stands-beside = go (leb x k) refl
    where
      go : (c : Bool) → leb x k ≡ c → Beside L t p P a g
      go true e = stands-before e
      go false e = stands-behind e
