-- "Every record is reached exactly once": the owners of Sound, and the order in which the test meets the records.
use Rattle.std.specs.Prelude.{◌≡◌, refl, List, [], ◌∷◌, ◌++◌, map, ◌↔◌, ℕ, suc, ◌+◌, ◌≤◌, ◌<◌, length}
use Rattle.std.proofs.Common.{sym, ap, ◌∙◌, arith}
use Rattle.sessions.specs.declared.Session.{Session}
use Rattle.sessions.specs.Sessions.{session_at, parties}
use Rattle.machine.specs.Holders.{width}
use Rattle.machine.specs.Sound.{times}
use Rattle.meaning.specs.Reading.{chain, member_chain, Leaf, numbers, M-of, R-of, height_of, tree_of, free_chain}
use Rattle.meaning.specs.Sound.{All, Once, leaves_of, joined, undo_chains, owners}
use Rattle.soundness.specs.Marking.{Among, all_in, all_from, in-times, times-in, times-append, once-times, once-each, each-many, each-once}
use Rattle.soundness.specs.UndosPass.{chains_from}
use Rattle.soundness.specs.GroupsPass.{members_of}

pub joined-append : (a b : List (List ℕ)) → joined (a ++ b) ≡ joined a ++ joined b
joined-append [] b = refl
joined-append (l ∷ a) b = ap (λ (x : List ℕ). l ++ x) (joined-append a b) ∙ sym (assoc l (joined a) (joined b))
  where
    assoc : (x y z : List ℕ) → (x ++ y) ++ z ≡ x ++ (y ++ z)
    assoc [] y z = refl
    assoc (i ∷ x) y z = ap (λ (w : List ℕ). i ∷ w) (assoc x y z)

module _ (s : List ℕ) (t : List Session) where
  abbrev m : ℕ
  m = M-of s

  abbrev r : ℕ
  r = R-of s

  -- The records of the tree, of the undo chains, of the members, and free ones.
  abbrev pub tree_records : List ℕ
  tree_records = numbers (suc (height_of s)) (tree_of s)

  abbrev pub leaf_records : List ℕ
  leaf_records = map (λ l. l.num) (leaves_of s)

  abbrev pub undo_records : List ℕ
  undo_records = chains_from s m r t 1 width

  abbrev pub member_records : List ℕ
  member_records = members_of s m r leaf_records

  -- In the order of the test.
  abbrev pub met : List ℕ
  met = tree_records ++ (undo_records ++ (member_records ++ free_chain s))

  members-same : (ls : List Leaf) → joined (map (λ l. member_chain s m r l.num) ls) ≡ members_of s m r (map (λ l. l.num) ls)
  members-same [] = refl
  members-same (l ∷ ls) = ap (λ (x : List ℕ). member_chain s m r l.num ++ x) (members-same ls)

  chains-same : (p : ℕ) (u : List Session) → ((k : ℕ) → k < length u → session_at t (p + k) ≡ session_at u k)
      → joined (map (λ y. chain s m r y.undo) u) ≡ chains_from s m r t p (length u)
  chains-same p [] h = refl
  chains-same p (y ∷ u) h =
      let z : p ≡ p + 0 = omega arith in
      let a : session_at t p ≡ y = ap (session_at t) z ∙ h 0 (omega arith) in
      ap (λ (x : Session). chain s m r x.undo ++ joined (map (λ y. chain s m r y.undo) u)) (sym a)
      ∙ ap (λ (x : List ℕ). chain s m r (session_at t p).undo ++ x) (chains-same (p + 1) u (λ k l. ap (session_at t) (let e : p + 1 + k ≡ p + suc k = omega arith in e) ∙ h (suc k) (omega (arith, l))))

pub undos-joined : (s : List ℕ) (t : List Session) → length t ≡ parties → joined (undo_chains s t) ≡ undo_records s t
undos-joined s [] e = absurd (omega (arith, e))
undos-joined s (x ∷ t) e =
    let n : length t ≡ width = omega (arith, e) in
    chains-same s (x ∷ t) 1 t (λ k l. ap (session_at (x ∷ t)) (let e : 1 + k ≡ suc k = omega arith in e)) ∙ ap (chains_from s (M-of s) (R-of s) (x ∷ t) 1) n

module _ (s : List ℕ) (t : List Session) (table : length t ≡ parties) where
  abbrev owned : List ℕ
  owned = joined (owners s t)

  owned-is : owned ≡ tree_records s t ++ (member_records s t ++ (undo_records s t ++ (free_chain s ++ [])))
  owned-is =
      ap (λ (x : List ℕ). tree_records s t ++ x)
      (joined-append (map (λ l. member_chain s (M-of s) (R-of s) l.num) (leaves_of s)) (undo_chains s t ++ (free_chain s ∷ []))
      ∙ ap (λ (x : List ℕ). x ++ joined (undo_chains s t ++ (free_chain s ∷ []))) (members-same s t (leaves_of s))
      ∙ ap (λ (x : List ℕ). member_records s t ++ x)
      (joined-append (undo_chains s t) (free_chain s ∷ []) ∙ ap (λ (x : List ℕ). x ++ (free_chain s ++ [])) (undos-joined s t table)))

  same-times : (k : ℕ) → times k owned ≡ times k (met s t)
  same-times k =
      let q = ap (times k) owned-is in
      let a = times-append k (tree_records s t) (member_records s t ++ (undo_records s t ++ (free_chain s ++ []))) in
      let b = times-append k (member_records s t) (undo_records s t ++ (free_chain s ++ [])) in
      let c = times-append k (undo_records s t) (free_chain s ++ []) in
      let d = times-append k (free_chain s) [] in
      let e = times-append k (tree_records s t) (undo_records s t ++ (member_records s t ++ free_chain s)) in
      let f = times-append k (undo_records s t) (member_records s t ++ free_chain s) in
      let g = times-append k (member_records s t) (free_chain s) in
      omega arith

  in-across : (a b : List ℕ) → ((k : ℕ) → times k a ≡ times k b) → (P : ℕ → Type 0) → All P a → All P b
  in-across a b e P h = all_from b (λ j i. all_in P a h j (in-times j a (omega (arith, e j, times-in j b i))))

  -- From Sound to the test.
  pub reach-apart : ((i : ℕ) → 1 ≤ i → i ≤ R-of s → times i owned ≡ 1) → All (Among (R-of s)) owned → All (Among (R-of s)) (met s t) × Once (met s t)
  reach-apart o a =
      let b = in-across owned (met s t) same-times (Among (R-of s)) a in
      (b, each-once (R-of s) (met s t) b (λ k x y. sym (same-times k) ∙ o k x y))

  -- From the test to Sound.
  module _ (inside : All (Among (R-of s)) (met s t)) (once : Once (met s t)) where
    pub reach-inside : All (Among (R-of s)) (joined (owners s t))
    reach-inside = in-across (met s t) (joined (owners s t)) (λ k. sym (same-times k)) (Among (R-of s)) inside

    pub reach-once : ((i : ℕ) → 1 ≤ i → i ≤ R-of s → 1 ≤ times i (joined (owners s t))) → (i : ℕ) → 1 ≤ i → i ≤ R-of s → times i (joined (owners s t)) ≡ 1
    reach-once f i a b = omega (arith, f i a b, same-times i, once-times (met s t) once i)

    -- No record is met twice: so every record is met exactly if they are R.
    pub reach-many : (length (met s t) ≡ R-of s) ↔ ((i : ℕ) → 1 ≤ i → i ≤ R-of s → 1 ≤ times i (joined (owners s t)))
    reach-many = (
      λ e i a b. omega (arith, same-times i, once-each (R-of s) (met s t) inside once e i a b),
      λ f. each-many (R-of s) (met s t) inside (λ k a b. sym (same-times k) ∙ reach-once f k a b),
    )
