-- Whatever was told, the unfinished sessions can be listed; so what demand 3 says of their aborts is said of every list of calls.
use Rattle.std.specs.Prelude.{◌≡◌, refl, Bool, true, false, cond, ◌&&◌, List, [], ◌∷◌, ℕ}
use Rattle.std.proofs.Common.{sym, ◌∙◌, ap, subst, inl, inr}
use Rattle.std.proofs.Math.Option.{none}
use Rattle.std.proofs.Math.Decide.{ℕ_discrete}
use Rattle.serial.specs.Serial.{pick, put_same, put_other, true≢false, In, Distinct}
use Rattle.serial.specs.Serial as S
use Rattle.serial.specs.Calls.{Call, format, begin, commit, abort, ask, recover, put, step, Answer, ok, more, wait, done, refused, Turn, Told, nothing, take_in_hand, tell_ok, tell_done, ends_request, tell_refused, tell_answer, tell, told, Unfinished}

and-true : (b : Bool) → (b && true) ≡ b
and-true true = refl
and-true false = refl

and-false : (b : Bool) → (b && false) ≡ false
and-false true = refl
and-false false = refl

abbrev Listed : Told → Type 0
Listed t = (ss : List ℕ) × Unfinished t ss

begin-listed : (s : ℕ) (t : Told) → Listed t → Listed (tell_ok (begin s) t)
begin-listed s t l = go (t.unfinished s) refl
  where
    now : ℕ → Bool
    now = S.put t.unfinished s true

    go : (b : Bool) → t.unfinished s ≡ b → Listed (tell_ok (begin s) t)
    go true e = (l.0, record { once = l.1.once; each = λ v i. kept v (l.1.each v i) (ℕ_discrete s v); all = λ v h. l.1.all v (was v h (ℕ_discrete s v)) })
      where
        kept : (v : ℕ) → t.unfinished v ≡ true → Dec (s ≡ v) → now v ≡ true
        kept v h (yes q) = subst (λ z. now z ≡ true) q (put_same t.unfinished s true)
        kept v h (no n) = put_other t.unfinished s true v n ∙ h

        was : (v : ℕ) → now v ≡ true → Dec (s ≡ v) → t.unfinished v ≡ true
        was v h (yes q) = subst (λ z. t.unfinished z ≡ true) q e
        was v h (no n) = sym (put_other t.unfinished s true v n) ∙ h
    go false e = (
      s ∷ l.0,
      record {
        once = ((λ i. true≢false (l.1.each s i) e), l.1.once);
        each = each;
        all = λ v h. all v h (ℕ_discrete s v);
      },
    )
      where
        other : (v : ℕ) → t.unfinished v ≡ true → ¬ (s ≡ v)
        other v h q = true≢false h (subst (λ z. t.unfinished z ≡ false) q e)

        each : (v : ℕ) → In v (s ∷ l.0) → now v ≡ true
        each v (inl q) = subst (λ z. now z ≡ true) (sym q) (put_same t.unfinished s true)
        each v (inr i) = put_other t.unfinished s true v (other v (l.1.each v i)) ∙ l.1.each v i

        all : (v : ℕ) → now v ≡ true → Dec (s ≡ v) → In v (s ∷ l.0)
        all v h (yes q) = inl (sym q)
        all v h (no n) = inr (l.1.all v (sym (put_other t.unfinished s true v n) ∙ h))

-- Of a list those of whom f says so.
record Some (f : ℕ → Bool) (ss : List ℕ) : Type 0 where
  left : List ℕ
  once : Distinct left
  among : (v : ℕ) → In v left → In v ss × (f v ≡ true)
  others : (v : ℕ) → In v ss → f v ≡ true → In v left

some_of : (f : ℕ → Bool) (ss : List ℕ) → Distinct ss → Some f ss
some_of f [] d = record { left = []; once = tt; among = λ v i. absurd i; others = λ v i n. i }
some_of f (x ∷ ss) d = go (f x) refl (some_of f ss d.1)
  where
    go : (b : Bool) → f x ≡ b → Some f ss → Some f (x ∷ ss)
    go false q L = record { left = L.left; once = L.once; among = λ v i. (inr (L.among v i).0, (L.among v i).1); others = others }
      where
        others : (v : ℕ) → In v (x ∷ ss) → f v ≡ true → In v L.left
        others v (inl w) n = absurd (true≢false n (ap f w ∙ q))
        others v (inr i) n = L.others v i n
    go true q L = record { left = x ∷ L.left; once = ((λ i. d.0 (L.among x i).0), L.once); among = among; others = others }
      where
        among : (v : ℕ) → In v (x ∷ L.left) → In v (x ∷ ss) × (f v ≡ true)
        among v (inl w) = (inl w, ap f w ∙ q)
        among v (inr i) = (inr (L.among v i).0, (L.among v i).1)

        others : (v : ℕ) → In v (x ∷ ss) → f v ≡ true → In v (x ∷ L.left)
        others v (inl w) n = inl w
        others v (inr i) n = inr (L.others v i n)

-- The unfinished sessions after a call are those of before of whom f says so.
some-listed : (f : ℕ → Bool) (t u : Told) → ((v : ℕ) → u.unfinished v ≡ (t.unfinished v && f v)) → Listed t → Listed u
some-listed f t u q l = let L = some_of f l.0 l.1.once in (L.left, record { once = L.once; each = λ v i. each v (L.among v i); all = λ v h. all L v (sym (q v) ∙ h) })
  where
    each : (v : ℕ) → In v l.0 × (f v ≡ true) → u.unfinished v ≡ true
    each v i = q v ∙ ap (λ b. b && f v) (l.1.each v i.0) ∙ i.1

    all : (L : Some f l.0) (v : ℕ) → (t.unfinished v && f v) ≡ true → In v L.left
    all L v h = go (t.unfinished v) refl h
      where
        go : (b : Bool) → t.unfinished v ≡ b → (b && f v) ≡ true → In v L.left
        go true e r = L.others v (l.1.all v e) r
        go false e r = absurd (true≢false r refl)

-- A commit or an abort.
end-listed : (s : ℕ) (t u : Told) → u.unfinished ≡ S.put t.unfinished s false → Listed t → Listed u
end-listed s t u q l = some-listed (λ v. pick (ℕ_discrete s v) false true) t u (λ v. ap (λ f. f v) q ∙ ended v (ℕ_discrete s v)) l
  where
    ended : (v : ℕ) (e : Dec (s ≡ v)) → pick e false (t.unfinished v) ≡ (t.unfinished v && pick e false true)
    ended v (yes e) = sym (and-false (t.unfinished v))
    ended v (no n) = sym (and-true (t.unfinished v))

recover-listed : (t : Told) → Listed t → Listed (tell_ok recover t)
recover-listed t l = some-listed t.asked t (tell_ok recover t) (λ v. refl) l

same-listed : (t u : Told) → u.unfinished ≡ t.unfinished → Listed t → Listed u
same-listed t u q l = (l.0, record { once = l.1.once; each = λ v i. ap (λ f. f v) q ∙ l.1.each v i; all = λ v h. l.1.all v (ap (λ f. f v) (sym q) ∙ h) })

nothing-listed : Listed nothing
nothing-listed = ([], record { once = tt; each = λ v i. absurd i; all = λ v h. absurd (true≢false h refl) })

ok-listed : (c : Call) (t : Told) → Listed t → Listed (tell_ok c t)
ok-listed (format m) t l = nothing-listed
ok-listed (begin s) t l = begin-listed s t l
ok-listed (commit s) t l = end-listed s t (tell_ok (commit s) t) refl l
ok-listed (abort s) t l = end-listed s t (tell_ok (abort s) t) refl l
ok-listed (ask s) t l = same-listed t (tell_ok (ask s) t) refl l
ok-listed recover t l = recover-listed t l
ok-listed (put p c e f g) t l = same-listed t (tell_ok (put p c e f g) t) refl l
ok-listed (step p ws) t l = l

done-listed : (c : Call) (ns ws : List ℕ) (t : Told) → (tell_done c ns ws t).unfinished ≡ t.unfinished
done-listed (format m) ns ws t = refl
done-listed (begin s) ns ws t = refl
done-listed (commit s) ns ws t = refl
done-listed (abort s) ns ws t = refl
done-listed (ask s) ns ws t = refl
done-listed recover ns ws t = refl
done-listed (put p c e f g) ns ws t = refl
done-listed (step p l) ns ws t = refl

refused-listed : (c : Call) (n : ℕ) (t : Told) → (tell_refused c n t).unfinished ≡ t.unfinished
refused-listed (format m) n t = refl
refused-listed (begin s) n t = refl
refused-listed (commit s) n t = refl
refused-listed (abort s) n t = refl
refused-listed (ask s) n t = refl
refused-listed recover n t = refl
refused-listed (put p c e f g) n t = refl
refused-listed (step p l) n t = at (ends_request n)
  where
    at : (b : Bool) → (cond b (take_in_hand p none t) t).unfinished ≡ t.unfinished
    at true = refl
    at false = refl

tell-listed : (c : Call) (a : Answer) (ws : List ℕ) (t : Told) → Listed t → Listed (tell_answer c a ws t)
tell-listed c ok ws t l = ok-listed c t l
tell-listed c more ws t l = l
tell-listed c (wait p) ws t l = l
tell-listed c (done ns) ws t l = same-listed t (tell_done c ns ws t) (done-listed c ns ws t) l
tell-listed c (refused n k) ws t l = same-listed t (tell_refused c n t) (refused-listed c n t) l

told-listed : (ks : List Turn) (t : Told) → Listed t → Listed (told t ks)
told-listed [] t l = l
told-listed (k ∷ ks) t l = told-listed ks (tell k t) (tell-listed k.call k.answer k.list t l)

-- For every list of turns there is a list of the sessions that are unfinished after them, each once.
pub unfinished-told : (ks : List Turn) → (ss : List ℕ) × Unfinished (told nothing ks) ss
unfinished-told ks = told-listed ks nothing nothing-listed
