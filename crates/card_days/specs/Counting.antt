-- Which words of a day count, said of the words alone: exactly those after which none has the same minute, each up to the next word's minute or to 1,440.
use Rattle.std.specs.Prelude.{◌≡◌, refl, Bool, true, false, cond, List, [], ◌∷◌, ◌++◌, ◌⊎◌, ℕ, ◌<◌, eqb}
use Rattle.std.proofs.Common.{sym, ap, inl, inr, arith, ne_eqb}
use Rattle.std.proofs.lemmas.Bool.{eqb-false}
use Rattle.card_days.specs.declared.Stretch.{Stretch}
use Rattle.card_days.specs.Day.{minute, proper, stretch, stretches_from, stretches}
use Rattle.card_days.specs.Laws.{Steady, proper_is}

-- No later word has the word's minute.
abbrev pub Counts : ℕ → List ℕ → Type 0
Counts w [] = Unit {0}
Counts w (v ∷ ws) = ¬ (minute v ≡ minute w) × Counts w ws

-- Where the stretch of a word ends: at the minute of the next word, or at 1,440.
abbrev pub end_before : List ℕ → ℕ
end_before [] = 1440
end_before (v ∷ ws) = minute v

abbrev pub OneOf : Stretch → List Stretch → Type 0
OneOf st [] = ⊥
OneOf st (s ∷ ss) = (st ≡ s) ⊎ OneOf st ss

-- ---- each word that counts has its stretch

later : (w v : ℕ) (ws : List ℕ) (st : Stretch) → OneOf st (stretches_from v ws) → OneOf st (stretches_from w (v ∷ ws))
unfolding stretches_from
later w v ws st o = go (eqb (minute w) (minute v))
  where
    go : (b : Bool) → OneOf st (cond b (stretches_from v ws) (stretch w (minute v) ∷ stretches_from v ws))
    go true = o
    go false = inr o

counting : (w : ℕ) (ws : List ℕ) → Counts w ws → OneOf (stretch w (end_before ws)) (stretches_from w ws)
unfolding stretches_from
counting w [] c = inl refl
counting w (v ∷ ws) c = rw (ne_eqb (minute w) (minute v) (λ e. c.0 (sym e))) (inl refl)

pub word_counts : (bs : List ℕ) (w : ℕ) (ws : List ℕ) → Counts w ws → OneOf (stretch w (end_before ws)) (stretches (bs ++ w ∷ ws))
unfolding stretches
word_counts [] w ws c = counting w ws c
word_counts (a ∷ bs) w ws c = from a bs
  where
    from : (a : ℕ) (bs : List ℕ) → OneOf (stretch w (end_before ws)) (stretches_from a (bs ++ w ∷ ws))
    from a [] = later a w ws (stretch w (end_before ws)) (counting w ws c)
    from a (b ∷ bs) = later a b (bs ++ w ∷ ws) (stretch w (end_before ws)) (from b bs)

-- ---- and each stretch is that of a word that counts

pub record OfWord (ws : List ℕ) (st : Stretch) : Type 0 where
  pub before : List ℕ
  pub word : ℕ
  pub after : List ℕ
  pub there : ws ≡ before ++ word ∷ after
  pub counts : Counts word after
  pub is : st ≡ stretch word (end_before after)

above-counts : (w lo : ℕ) (ws : List ℕ) → minute w < lo → Steady lo ws → Counts w ws
above-counts w lo [] l s = tt
above-counts w lo (v ∷ ws) l s = ((λ e. omega (arith, e, l, s.0)), above-counts w (minute v) ws (omega (arith, l, s.0)) s.2)

of-word-from : (w : ℕ) (ws : List ℕ) → Steady (minute w) ws → (st : Stretch) → OneOf st (stretches_from w ws) → OfWord (w ∷ ws) st
unfolding stretches_from
of-word-from w [] s st (inl e) = record { before = []; word = w; after = []; there = refl; counts = tt; is = e }
of-word-from w [] s st (inr o) = absurd o
of-word-from w (v ∷ ws) s st o = go (eqb (minute w) (minute v)) refl (λ m. of-word-from v ws s.2 st m) o
  where
    next : OfWord (v ∷ ws) st → OfWord (w ∷ v ∷ ws) st
    next q = record { before = w ∷ q.before; word = q.word; after = q.after; there = ap (λ z. w ∷ z) q.there; counts = q.counts; is = q.is }

    go : (b : Bool) → eqb (minute w) (minute v) ≡ b → (OneOf st (stretches_from v ws) → OfWord (v ∷ ws) st)
        → OneOf st (cond b (stretches_from v ws) (stretch w (minute v) ∷ stretches_from v ws)) → OfWord (w ∷ v ∷ ws) st
    go true e later o = next (later o)
    go false e later (inl i) =
        let n : ¬ (minute w ≡ minute v) = eqb-false (minute w) (minute v) e in
        let l : minute w < minute v = omega (arith, s.0, n) in
        record { before = []; word = w; after = v ∷ ws; there = refl; counts = ((λ q. n (sym q)), above-counts w (minute v) ws l s.2); is = i }
    go false e later (inr o) = next (later o)

pub stretch-counts : (ws : List ℕ) → proper ws ≡ true → (st : Stretch) → OneOf st (stretches ws) → OfWord ws st
unfolding stretches
stretch-counts [] p st o = absurd o
stretch-counts (w ∷ ws) p st o = let q = proper_is (w ∷ ws) p in of-word-from w ws (rw q.0 q.1) st o
