-- The order of keys in a layout's tree: it stays where a node or descriptor is replaced by one of the same keys.
use Rattle.std.specs.Prelude.{◌≡◌, List, ◌∷◌, ℕ, suc, ◌≤◌}
use Rattle.std.proofs.Common.{sym, subst, arith}
use Rattle.sessions.specs.declared.Session.{Session}
use Rattle.machine.specs.Tree.{map_e, map_e-append, Seg, seg_cut, seg-append}
use Rattle.machine.specs.State.{top}
use Rattle.machine.specs.Sound as S
use Rattle.machine.specs.Order.{Ord, In, ord-in}
use Rattle.meaning.specs.Reading.{Leaf, Numbered, erase}
use Rattle.meaning.specs.Around.{NCtx, here, under, fill}
use Rattle.meaning.specs.Lens.{leaves-erase}
use Rattle.layout.specs.Layout.{Lay, leaves_in, Has, means}
use Rattle.layout.specs.Places.{AtKey, has_in, key_at, ordered_of}

-- The keys of a layout's tree rise.
abbrev pub Rising : Lay → Type 0
Rising L = Ord (suc L.height) 0 top (erase (suc L.height) L.tree)

pub rising-of : (L : Lay) (t : List Session) → S.Sound (means L t) → Rising L
rising-of = ordered_of

-- The descriptor of a key is on the path to it.
pub key_in : (L : Lay) → Rising L → (k d : ℕ) → Has k d (leaves_in L) → AtKey L k d
key_in L o k d has =
    let h = suc L.height in
    let i = subst (In 0 (suc top)) (leaves-erase h L.tree) (ord-in h 0 top (erase h L.tree) o) in
    key_at L k d o has (omega (arith, (has_in k d 0 (suc top) (leaves_in L) i has).1))

-- What is in the hole may be replaced.
pub ord-fill : {k h : ℕ} (c : NCtx k h) (u u' : Numbered k) → ((lo hi : ℕ) → Ord k lo hi (erase k u) → Ord k lo hi (erase k u'))
    → (lo hi : ℕ) → Ord h lo hi (erase h (fill c u)) → Ord h lo hi (erase h (fill c u'))
unfolding Ord erase
ord-fill here u u' f lo hi o = f lo hi o
ord-fill (under {h = h} w pre c b post) u u' f lo hi o =
    let z = seg_cut (Ord h) lo (suc hi) (map_e (erase h) pre) ((erase h (fill c u), b) ∷ map_e (erase h) post) (subst (Seg (Ord h) lo (suc hi)) (map_e-append (erase h) pre ((fill c u, b) ∷ post)) o) in
    subst (Seg (Ord h) lo (suc hi)) (sym (map_e-append (erase h) pre ((fill c u', b) ∷ post)))
    (seg-append (Ord h) lo z.0 (suc hi) (map_e (erase h) pre) ((erase h (fill c u'), b) ∷ map_e (erase h) post) z.1 (ord-fill c u u' f z.0 b z.2.0, z.2.1))

-- A descriptor with the same key; a node with the same sons.
pub ord-leaf : {h : ℕ} (c : NCtx 0 h) (l l' : Leaf) → l'.desc.key ≡ l.desc.key → (lo hi : ℕ) → Ord h lo hi (erase h (fill c l)) → Ord h lo hi (erase h (fill c l'))
unfolding Ord erase
ord-leaf c l l' e = ord-fill c l l' (λ lo hi o. (subst (λ k. lo ≤ k) (sym e) o.0, subst (λ k. k ≤ hi) (sym e) o.1))

pub ord-sons : {k h : ℕ} (c : NCtx (suc k) h) (u u' : Numbered (suc k)) → u'.sons ≡ u.sons → (lo hi : ℕ) → Ord h lo hi (erase h (fill c u)) → Ord h lo hi (erase h (fill c u'))
unfolding Ord erase
ord-sons {k} c u u' e = ord-fill c u u' (λ lo hi o. subst (λ es. Seg (Ord k) lo (suc hi) (map_e (erase k) es)) (sym e) o)
