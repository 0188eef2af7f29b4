-- Strict two-phase locking gives one run by order of commit: over any model and any footprints.
use Rattle.std.specs.Prelude.{◌≡◌, refl, Bool, true, false, ◌⊎◌, ℕ}
use Rattle.std.proofs.Common.{sym, ◌∙◌, ap, subst}
use mathlib.Core.List.{List, [], ◌∷◌, ◌++◌, map, head-eq_of_cons-eq, tail-eq_of_cons-eq}
use Rattle.std.proofs.Math.Decide.{ℕ_discrete}

-- A logical model: databases read item by item, and requests with an effect and an answer.
pub record Model : Type 1 where
  pub Item : Type 0
  pub Val : Type 0
  pub Db : Type 0
  pub Req : Type 0
  pub Ans : Type 0
  pub get : Db → Item → Val
  pub eff : Req → Db → Db
  pub ans : Req → Db → Ans
  pub item? : Discrete Item
  -- Which databases are well formed.
  pub Good : Db → Type 0
  pub eff_good : (r : Req) (d : Db) → Good d → Good (eff r d)

-- True is not false.
pub true≢false : {b : Bool} → b ≡ true → b ≡ false → ⊥
true≢false {b} p q = let z : true ≡ false = cc in Bool-code z
  where
    code : Bool → Type 0
    code true = Unit {0}
    code false = ⊥

    Bool-code : true ≡ false → ⊥
    Bool-code e = subst code e tt

pub not-true : (b : Bool) → (b ≡ true → ⊥) → b ≡ false
not-true true h = absurd (h refl)
not-true false h = refl

abbrev pub pick : {A B : Type 0} → Dec A → B → B → B
pick (yes _) a b = a
pick (no _) a b = b

pub pick_yes : {A B : Type 0} (x : Dec A) (a b : B) → A → pick x a b ≡ a
pick_yes (yes _) a b h = refl
pick_yes (no n) a b h = absurd (n h)

pub pick_no : {A B : Type 0} (x : Dec A) (a b : B) → ¬ A → pick x a b ≡ b
pick_no (yes y) a b h = absurd (h y)
pick_no (no _) a b h = refl

-- A function of sessions, changed at one.
abbrev pub put : {B : Type 0} → (ℕ → B) → ℕ → B → ℕ → B
put f s x t = pick (ℕ_discrete s t) x (f t)

pub put_same : {B : Type 0} (f : ℕ → B) (s : ℕ) (x : B) → put f s x s ≡ x
put_same f s x = pick_yes (ℕ_discrete s s) x (f s) refl

pub put_other : {B : Type 0} (f : ℕ → B) (s : ℕ) (x : B) (t : ℕ) → ¬ (s ≡ t) → put f s x t ≡ f t
put_other f s x t n = pick_no (ℕ_discrete s t) x (f t) n

pub put-cases : {B : Type 0} (P : ℕ → B → Type 0) (f : ℕ → B) (s : ℕ) (x : B) → P s x → ((t : ℕ) → ¬ (s ≡ t) → P t (f t)) → (t : ℕ) → P t (put f s x t)
put-cases P f s x hs ho t = go (ℕ_discrete s t)
  where
    go : (d : Dec (s ≡ t)) → P t (pick d x (f t))
    go (yes e) = subst (λ u. P u x) e hs
    go (no n) = ho t n

-- By cases on a Boolean, with the equation.
pub by_bool : {P : Type 0} (b : Bool) → (b ≡ true → P) → (b ≡ false → P) → P
by_bool true y n = y refl
by_bool false y n = n refl

-- Lists of sessions.
abbrev pub In : ℕ → List ℕ → Type 0
In s [] = ⊥
In s (x ∷ l) = (s ≡ x) ⊎ In s l

abbrev pub Distinct : List ℕ → Type 0
Distinct [] = Unit {0}
Distinct (x ∷ l) = (¬ In x l) × Distinct l

module _ (𝓜 : Model) where
  open 𝓜 use {Item, Val, Db, Req, Ans, get, eff, ans, item?, Good, eff_good}

  -- What abort needs, newest first: items and the values to put back.
  abbrev pub Log : Type 0
  Log = List (Item × Val)

  abbrev pub set : (Item → Val) → Item → Val → Item → Val
  set f i v j = pick (item? i j) v (f j)

  abbrev pub undo : Log → (Item → Val) → Item → Val
  undo [] f = f
  undo (u ∷ l) f = undo l (set f u.0 u.1)

  abbrev pub Within : (Item → Bool) → Log → Type 0
  Within w [] = Unit {0}
  Within w (u ∷ l) = (w u.0 ≡ true) × Within w l

  set-cong : (f g : Item → Val) (j : Item) (v : Val) (i : Item) → f i ≡ g i → set f j v i ≡ set g j v i
  set-cong f g j v i h = rw h refl

  pub undo-cong : (l : Log) (f g : Item → Val) (i : Item) → f i ≡ g i → undo l f i ≡ undo l g i
  undo-cong [] f g i h = h
  undo-cong (u ∷ l) f g i h = undo-cong l (set f u.0 u.1) (set g u.0 u.1) i (set-cong f g u.0 u.1 i h)

  pub undo-append : (a b : Log) (f : Item → Val) (i : Item) → undo (a ++ b) f i ≡ undo b (undo a f) i
  undo-append [] b f i = refl
  undo-append (u ∷ a) b f i = undo-append a b (set f u.0 u.1) i

  pub undo-frame : (w : Item → Bool) (l : Log) → Within w l → (f : Item → Val) (i : Item) → w i ≡ false → undo l f i ≡ f i
  undo-frame w [] h f i n = refl
  undo-frame w (u ∷ l) h f i n =
      undo-frame w l h.1 (set f u.0 u.1) i n
      ∙ pick_no (item? u.0 i) u.1 (f i) (λ e. true≢false h.0 (ap w e ∙ n))

  pub within-mono : (w v : Item → Bool) (l : Log) → ((i : Item) → w i ≡ true → v i ≡ true) → Within w l → Within v l
  within-mono w v [] m h = tt
  within-mono w v (u ∷ l) m h = (m u.0 h.0, within-mono w v l m h.1)

  pub within-append : (w : Item → Bool) (a b : Log) → Within w a → Within w b → Within w (a ++ b)
  within-append w [] b h k = k
  within-append w (u ∷ a) b h k = (h.0, within-append w a b h.1 k)

  -- A finished request and the answer that it got.
  abbrev pub Done : Type 0
  Done = Req × Ans

  -- The model's run of a session's requests.
  abbrev pub after : List Done → Db → Db
  after [] d = d
  after (x ∷ l) d = after l (eff x.0 d)

  -- The answers are the model's.
  abbrev pub Fits : List Done → Db → Type 0
  Fits [] d = Unit {0}
  Fits (x ∷ l) d = (x.1 ≡ ans x.0 d) × Fits l (eff x.0 d)

  abbrev pub AgreeOn : (Item → Bool) → Db → Db → Type 0
  AgreeOn touched d e = (i : Item) → touched i ≡ true → get d i ≡ get e i

  -- Request r, run on d, depends on nothing but touched and changes nothing but changed: the same holds of any database that agrees with d on touched.
  -- touched may depend on d, so a request may go on to read what it found.
  pub record Covered (touched changed : Item → Bool) (r : Req) (d : Db) : Type 0 where
    pub answers : (e : Db) → Good e → AgreeOn touched d e → ans r d ≡ ans r e
    pub effects : (e : Db) → Good e → AgreeOn touched d e → (i : Item) → get d i ≡ get e i → get (eff r d) i ≡ get (eff r e) i
    pub frames : (e : Db) → Good e → AgreeOn touched d e → (i : Item) → changed i ≡ false → get (eff r e) i ≡ get e i

  -- So for each request of a session, in turn.
  abbrev pub Covers : (touched changed : Item → Bool) → List Done → Db → Type 0
  Covers touched changed [] d = Unit {0}
  Covers touched changed (x ∷ l) d = Covered touched changed x.0 d × Covers touched changed l (eff x.0 d)

  agree_refl : (touched : Item → Bool) (d : Db) → AgreeOn touched d d
  agree_refl touched d i t = refl

  agree_trans : (touched : Item → Bool) (d e f : Db) → AgreeOn touched d e → AgreeOn touched e f → AgreeOn touched d f
  agree_trans touched d e f h k i t = h i t ∙ k i t

  -- A cover at one database is one at any other that agrees on what is held.
  pub covered-agree : (touched changed : Item → Bool) → ((i : Item) → changed i ≡ true → touched i ≡ true) → (r : Req) (d e : Db) → Good e → AgreeOn touched d e
      → Covered touched changed r d → Covered touched changed r e
  covered-agree touched changed o r d e ge h c = record {
    answers = λ f gf k. sym (c.answers e ge h) ∙ c.answers f gf (agree_trans touched d e f h k);
    effects = λ f gf k i q. by_bool (changed i)
        (λ w. sym (c.effects e ge h i (h i (o i w))) ∙ c.effects f gf (agree_trans touched d e f h k) i (h i (o i w) ∙ k i (o i w)))
        (λ n. c.frames e ge h i n ∙ q ∙ sym (c.frames f gf (agree_trans touched d e f h k) i n));
    frames = λ f gf k. c.frames f gf (agree_trans touched d e f h k);
  }

  pub covered-mono : (touched changed touched' changed' : Item → Bool) (r : Req) (d : Db) → ((i : Item) → touched i ≡ true → touched' i ≡ true) → ((i : Item) → changed i ≡ true → changed' i ≡ true)
      → Covered touched changed r d → Covered touched' changed' r d
  covered-mono touched changed touched' changed' r d m n c = record {
    answers = λ e ge h. c.answers e ge (λ i t. h i (m i t));
    effects = λ e ge h. c.effects e ge (λ i t. h i (m i t));
    frames = λ e ge h i f. c.frames e ge (λ j t. h j (m j t)) i (not-true (changed i) (λ w. true≢false (n i w) f));
  }

  pub agree-eff : (touched changed : Item → Bool) (r : Req) (d e : Db) → Covered touched changed r d → Good e → AgreeOn touched d e → AgreeOn touched (eff r d) (eff r e)
  agree-eff touched changed r d e c ge h i t = c.effects e ge h i (h i t)

  pub after-good : (l : List Done) (d : Db) → Good d → Good (after l d)
  after-good [] d g = g
  after-good (x ∷ l) d g = after-good l (eff x.0 d) (eff_good x.0 d g)

  pub after-agree : (touched changed : Item → Bool) (l : List Done) (d e : Db) → Covers touched changed l d → Good e → AgreeOn touched d e → AgreeOn touched (after l d) (after l e)
  after-agree touched changed [] d e c ge h = h
  after-agree touched changed (x ∷ l) d e c ge h =
      after-agree touched changed l (eff x.0 d) (eff x.0 e) c.1 (eff_good x.0 e ge) (agree-eff touched changed x.0 d e c.0 ge h)

  pub fits-agree : (touched changed : Item → Bool) (l : List Done) (d e : Db) → Covers touched changed l d → Good e → AgreeOn touched d e → Fits l d → Fits l e
  fits-agree touched changed [] d e c ge h f = tt
  fits-agree touched changed (x ∷ l) d e c ge h f = (
    f.0 ∙ c.0.answers e ge h,
    fits-agree touched changed l (eff x.0 d) (eff x.0 e) c.1 (eff_good x.0 e ge) (agree-eff touched changed x.0 d e c.0 ge h) f.1,
  )

  pub covers-agree : (touched changed : Item → Bool) → ((i : Item) → changed i ≡ true → touched i ≡ true) → (l : List Done) (d e : Db) → Covers touched changed l d → Good e → AgreeOn touched d e → Covers touched changed l e
  covers-agree touched changed o [] d e c ge h = tt
  covers-agree touched changed o (x ∷ l) d e c ge h = (
    covered-agree touched changed o x.0 d e ge h c.0,
    covers-agree touched changed o l (eff x.0 d) (eff x.0 e) c.1 (eff_good x.0 e ge) (agree-eff touched changed x.0 d e c.0 ge h),
  )

  pub after_frame : (touched changed : Item → Bool) (l : List Done) (d : Db) → Good d → Covers touched changed l d → (i : Item) → changed i ≡ false → get (after l d) i ≡ get d i
  after_frame touched changed [] d g c i n = refl
  after_frame touched changed (x ∷ l) d g c i n =
      after_frame touched changed l (eff x.0 d) (eff_good x.0 d g) c.1 i n ∙ c.0.frames d g (agree_refl touched d) i n

  pub covers-mono : (touched changed touched' changed' : Item → Bool) (l : List Done) (d : Db) → ((i : Item) → touched i ≡ true → touched' i ≡ true) → ((i : Item) → changed i ≡ true → changed' i ≡ true)
      → Covers touched changed l d → Covers touched' changed' l d
  covers-mono touched changed touched' changed' [] d m n c = tt
  covers-mono touched changed touched' changed' (x ∷ l) d m n c = (covered-mono touched changed touched' changed' x.0 d m n c.0, covers-mono touched changed touched' changed' l (eff x.0 d) m n c.1)

  pub covers_snoc : (touched changed : Item → Bool) (l : List Done) (x : Done) (d : Db) → Covers touched changed l d → Covered touched changed x.0 (after l d) → Covers touched changed (l ++ (x ∷ [])) d
  covers_snoc touched changed [] x d c k = (k, tt)
  covers_snoc touched changed (y ∷ l) x d c k = (c.0, covers_snoc touched changed l x (eff y.0 d) c.1 k)

  pub after-append : (l m : List Done) (d : Db) → after (l ++ m) d ≡ after m (after l d)
  after-append [] m d = refl
  after-append (x ∷ l) m d = after-append l m (eff x.0 d)

  pub after-snoc : (l : List Done) (x : Done) (d : Db) → after (l ++ (x ∷ [])) d ≡ eff x.0 (after l d)
  after-snoc l x d = after-append l (x ∷ []) d

  pub fits_snoc : (l : List Done) (x : Done) (d : Db) → Fits l d → x.1 ≡ ans x.0 (after l d) → Fits (l ++ (x ∷ [])) d
  fits_snoc [] x d f h = (h, tt)
  fits_snoc (y ∷ l) x d f h = (f.0, fits_snoc l x (eff y.0 d) f.1 h)

  -- The committed sessions, one after another.
  abbrev pub serial : List (List Done) → Db → Db
  serial [] d = d
  serial (l ∷ ls) d = serial ls (after l d)

  abbrev pub FitsAll : List (List Done) → Db → Type 0
  FitsAll [] d = Unit {0}
  FitsAll (l ∷ ls) d = Fits l d × FitsAll ls (after l d)

  pub serial-snoc : (ls : List (List Done)) (l : List Done) (d : Db) → serial (ls ++ (l ∷ [])) d ≡ after l (serial ls d)
  serial-snoc [] l d = refl
  serial-snoc (k ∷ ls) l d = serial-snoc ls l (after k d)

  pub fitsall-snoc : (ls : List (List Done)) (l : List Done) (d : Db) → FitsAll ls d → Fits l (serial ls d) → FitsAll (ls ++ (l ∷ [])) d
  fitsall-snoc [] l d f g = (g, tt)
  fitsall-snoc (k ∷ ls) l d f g = (f.0, fitsall-snoc ls l (after k d) f.1 g)

  -- The lock machine. db: what is stored now. begun: sessions that are unfinished. touches s i: session s may depend on item i.
  -- changes s i: session s may change item i. log s: what abort of s puts back.
  pub record State : Type 0 where
    pub db : Item → Val
    pub begun : ℕ → Bool
    pub touches : ℕ → Item → Bool
    pub changes : ℕ → Item → Bool
    pub log : ℕ → Log

  -- No two different sessions hold in conflict.
  pub record Locks (σ : State) : Type 0 where
    pub alone : (s t : ℕ) (i : Item) → σ.changes s i ≡ true → σ.touches t i ≡ true → s ≡ t
    pub owns : (s : ℕ) (i : Item) → σ.changes s i ≡ true → σ.touches s i ≡ true

  -- What one session holds stays.
  pub record Held (t : ℕ) (σ τ : State) : Type 0 where
    pub touches_kept : (i : Item) → τ.touches t i ≡ σ.touches t i
    pub changes_kept : (i : Item) → τ.changes t i ≡ σ.changes t i
    pub log_kept : τ.log t ≡ σ.log t

  pub record Begins (s : ℕ) (σ τ : State) : Type 0 where
    pub was : σ.begun s ≡ false
    pub now : τ.begun s ≡ true
    pub begun_others : (t : ℕ) → ¬ (s ≡ t) → τ.begun t ≡ σ.begun t
    pub held : (t : ℕ) → Held t σ τ
    pub db_kept : (i : Item) → τ.db i ≡ σ.db i

  pub record Finishes (s : ℕ) (r : Req) (a : Ans) (σ τ : State) : Type 0 where
    pub was : σ.begun s ≡ true
    -- Some database of the model that holds what the store holds.
    pub model : Db
    pub model_good : Good model
    pub is_model : (i : Item) → get model i ≡ σ.db i
    pub covered : Covered (σ.touches s) (σ.changes s) r model
    pub answer : a ≡ ans r model
    pub change : (i : Item) → τ.db i ≡ get (eff r model) i
    pub extra : Log
    pub extra_within : Within (σ.changes s) extra
    pub extra_undoes : (i : Item) → undo extra τ.db i ≡ σ.db i
    pub log_now : τ.log s ≡ extra ++ σ.log s
    pub log_others : (t : ℕ) → ¬ (s ≡ t) → τ.log t ≡ σ.log t
    pub touches_same : (t : ℕ) (i : Item) → τ.touches t i ≡ σ.touches t i
    pub changes_same : (t : ℕ) (i : Item) → τ.changes t i ≡ σ.changes t i
    pub begun_same : (t : ℕ) → τ.begun t ≡ σ.begun t

  pub record Grows (s : ℕ) (σ τ : State) : Type 0 where
    pub was : σ.begun s ≡ true
    pub touches_grows : (i : Item) → σ.touches s i ≡ true → τ.touches s i ≡ true
    pub changes_grows : (i : Item) → σ.changes s i ≡ true → τ.changes s i ≡ true
    pub log_same : τ.log s ≡ σ.log s
    pub others : (t : ℕ) → ¬ (s ≡ t) → Held t σ τ
    pub begun_same : (t : ℕ) → τ.begun t ≡ σ.begun t
    pub db_kept : (i : Item) → τ.db i ≡ σ.db i
    pub locks : Locks τ

  pub record Quiets (σ τ : State) : Type 0 where
    pub held : (t : ℕ) → Held t σ τ
    pub begun_same : (t : ℕ) → τ.begun t ≡ σ.begun t
    pub db_kept : (i : Item) → τ.db i ≡ σ.db i

  pub record Ends (s : ℕ) (σ τ : State) : Type 0 where
    pub was : σ.begun s ≡ true
    pub now : τ.begun s ≡ false
    pub touches_off : (i : Item) → τ.touches s i ≡ false
    pub changes_off : (i : Item) → τ.changes s i ≡ false
    pub log_off : τ.log s ≡ []
    pub others : (t : ℕ) → ¬ (s ≡ t) → Held t σ τ
    pub begun_others : (t : ℕ) → ¬ (s ≡ t) → τ.begun t ≡ σ.begun t

  pub record Commits (s : ℕ) (σ τ : State) : Type 0 where
    pub ends : Ends s σ τ
    pub db_kept : (i : Item) → τ.db i ≡ σ.db i

  pub record Aborts (s : ℕ) (σ τ : State) : Type 0 where
    pub ends : Ends s σ τ
    pub db_undone : (i : Item) → τ.db i ≡ undo (σ.log s) σ.db i

  pub data Event : Type 0 where
    begin grow commit abort : ℕ → Event
    finish : ℕ → Req → Ans → Event
    quiet : Event

  abbrev pub Step : Event → State → State → Type 0
  Step (begin s) = Begins s
  Step (grow s) = Grows s
  Step (commit s) = Commits s
  Step (abort s) = Aborts s
  Step (finish s r a) = Finishes s r a
  Step quiet = Quiets

  -- The part of the invariant that speaks of one session: c is the database after the committed sessions, l what the session did.
  pub record Part (c : Db) (σ : State) (t : ℕ) (l : List Done) : Type 0 where
    pub fits : Fits l c
    pub covers : Covers (σ.touches t) (σ.changes t) l c
    pub own : (i : Item) → σ.changes t i ≡ true → σ.db i ≡ get (after l c) i
    pub within : Within (σ.changes t) (σ.log t)
    pub undoes : (i : Item) → σ.changes t i ≡ true → undo (σ.log t) σ.db i ≡ get c i
    pub idle : σ.begun t ≡ false → (i : Item) → σ.touches t i ≡ false

  pub record Core (c : Db) (op : ℕ → List Done) (σ : State) : Type 0 where
    pub good : Good c
    pub part : (t : ℕ) → Part c σ t (op t)
    pub locks : Locks σ
    pub free : (i : Item) → ((t : ℕ) → σ.changes t i ≡ false) → σ.db i ≡ get c i

  locks-held : (σ τ : State) → Locks σ → ((t : ℕ) → Held t σ τ) → Locks τ
  locks-held σ τ L h = record {
    alone = λ s t i w r. L.alone s t i (sym ((h s).changes_kept i) ∙ w) (sym ((h t).touches_kept i) ∙ r);
    owns = λ s i w. (h s).touches_kept i ∙ L.owns s i (sym ((h s).changes_kept i) ∙ w);
  }

  -- A session that keeps what it holds, where the others change nothing that it holds for change, and the committed database keeps all that it holds.
  part-other : (c c' : Db) → Good c' → (σ τ : State) (t : ℕ) (l : List Done) → Locks σ → Held t σ τ → (τ.begun t ≡ σ.begun t)
      → ((i : Item) → σ.changes t i ≡ true → τ.db i ≡ σ.db i) → AgreeOn (σ.touches t) c c' → Part c σ t l → Part c' τ t l
  part-other c c' G' σ τ t l L h b k g p = record {
    fits = fits-agree (σ.touches t) (σ.changes t) l c c' p.covers G' g p.fits;
    covers = covers-mono (σ.touches t) (σ.changes t) (τ.touches t) (τ.changes t) l c' (λ i e. h.touches_kept i ∙ e) (λ i e. h.changes_kept i ∙ e)
        (covers-agree (σ.touches t) (σ.changes t) (L.owns t) l c c' p.covers G' g);
    own = λ i w. let w' = sym (h.changes_kept i) ∙ w in
        k i w' ∙ p.own i w' ∙ after-agree (σ.touches t) (σ.changes t) l c c' p.covers G' g i (L.owns t i w');
    within = subst (λ x. Within (τ.changes t) x) (sym h.log_kept) (within-mono (σ.changes t) (τ.changes t) (σ.log t) (λ i e. h.changes_kept i ∙ e) p.within);
    undoes = λ i w. let w' = sym (h.changes_kept i) ∙ w in
        ap (λ x. undo x τ.db i) h.log_kept ∙ undo-cong (σ.log t) τ.db σ.db i (k i w') ∙ p.undoes i w' ∙ g i (L.owns t i w');
    idle = λ n i. h.touches_kept i ∙ p.idle (sym b ∙ n) i;
  }

  -- What a session holds is stored as its own run has it.
  reads-own : (c : Db) (op : ℕ → List Done) (σ : State) → Core c op σ → (s : ℕ) (i : Item) → σ.touches s i ≡ true → σ.db i ≡ get (after (op s) c) i
  reads-own c op σ K s i r = by_bool (σ.changes s i) ((K.part s).own i) λ n.
      K.free i (λ t. not-true (σ.changes t i) (λ w. true≢false (subst (λ u. σ.changes u i ≡ true) (K.locks.alone t s i w r) w) n))
      ∙ sym (after_frame (σ.touches s) (σ.changes s) (op s) c K.good (K.part s).covers i n)

  module _ (c : Db) (op : ℕ → List Done) (σ τ : State) (K : Core c op σ) where
    quiet-core : Quiets σ τ → Core c op τ
    quiet-core q = record {
      good = K.good;
      part = λ t. part-other c c K.good σ τ t (op t) K.locks (q.held t) (q.begun_same t) (λ i w. q.db_kept i) (λ i r. refl) (K.part t);
      locks = locks-held σ τ K.locks q.held;
      free = λ i n. q.db_kept i ∙ K.free i (λ t. sym ((q.held t).changes_kept i) ∙ n t);
    }

    begin-core : (s : ℕ) → Begins s σ τ → Core c (put op s []) τ
    begin-core s b = record {
      good = K.good;
      part = put-cases (λ t l. Part c τ t l) op s []
          (record {
            fits = tt;
            covers = tt;
            own = λ i w. absurd (none i w);
            within = subst (λ x. Within (τ.changes s) x) (sym (b.held s).log_kept)
                (within-mono (σ.changes s) (τ.changes s) (σ.log s) (λ i e. (b.held s).changes_kept i ∙ e) (K.part s).within);
            undoes = λ i w. absurd (none i w);
            idle = λ n i. absurd (true≢false b.now n);
          })
          (λ t n. part-other c c K.good σ τ t (op t) K.locks (b.held t) (b.begun_others t n) (λ i w. b.db_kept i) (λ i r. refl) (K.part t));
      locks = locks-held σ τ K.locks b.held;
      free = λ i n. b.db_kept i ∙ K.free i (λ t. sym ((b.held t).changes_kept i) ∙ n t);
    }
      where
        none : (i : Item) → τ.changes s i ≡ true → ⊥
        none i w = true≢false (K.locks.owns s i (sym ((b.held s).changes_kept i) ∙ w)) ((K.part s).idle b.was i)

    module _ (s : ℕ) (r : Req) (a : Ans) (f : Finishes s r a σ τ) where
      -- The model's database of the store, and the session's own run, agree on all that the session holds.
      model-agrees : AgreeOn (σ.touches s) f.model (after (op s) c)
      model-agrees i t = f.is_model i ∙ reads-own c op σ K s i t

      finish-held : (t : ℕ) → ¬ (s ≡ t) → Held t σ τ
      finish-held t n = record { touches_kept = f.touches_same t; changes_kept = f.changes_same t; log_kept = f.log_others t n }

      finish-locks : Locks τ
      finish-locks = record {
        alone = λ u t i w q. K.locks.alone u t i (sym (f.changes_same u i) ∙ w) (sym (f.touches_same t i) ∙ q);
        owns = λ u i w. f.touches_same u i ∙ K.locks.owns u i (sym (f.changes_same u i) ∙ w);
      }

      -- Outside what the session holds for change nothing changes.
      finish-frame : (i : Item) → (σ.changes s i ≡ true → ⊥) → τ.db i ≡ σ.db i
      finish-frame i n = f.change i ∙ f.covered.frames f.model f.model_good (agree_refl (σ.touches s) f.model) i (not-true (σ.changes s i) n) ∙ f.is_model i

      finish-part : Part c τ s (op s ++ ((r, a) ∷ []))
      finish-part = record {
        fits = fits_snoc (op s) (r, a) c p.fits (f.answer ∙ f.covered.answers (after (op s) c) G model-agrees);
        covers = covers-mono (σ.touches s) (σ.changes s) (τ.touches s) (τ.changes s) (op s ++ ((r, a) ∷ [])) c (λ i e. f.touches_same s i ∙ e) changes-up
            (covers_snoc (σ.touches s) (σ.changes s) (op s) (r, a) c p.covers
            (covered-agree (σ.touches s) (σ.changes s) (K.locks.owns s) r f.model (after (op s) c) G model-agrees f.covered));
        own = λ i w. f.change i
            ∙ agree-eff (σ.touches s) (σ.changes s) r f.model (after (op s) c) f.covered G model-agrees i (K.locks.owns s i (sym (f.changes_same s i) ∙ w))
            ∙ ap (λ d. get d i) (sym (after-snoc (op s) (r, a) c));
        within = subst (λ x. Within (τ.changes s) x) (sym f.log_now)
            (within-mono (σ.changes s) (τ.changes s) (f.extra ++ σ.log s) changes-up (within-append (σ.changes s) f.extra (σ.log s) f.extra_within p.within));
        undoes = λ i w. ap (λ x. undo x τ.db i) f.log_now
            ∙ undo-append f.extra (σ.log s) τ.db i
            ∙ undo-cong (σ.log s) (undo f.extra τ.db) σ.db i (f.extra_undoes i)
            ∙ p.undoes i (sym (f.changes_same s i) ∙ w);
        idle = λ n i. f.touches_same s i ∙ p.idle (sym (f.begun_same s) ∙ n) i;
      }
        where
          p : Part c σ s (op s)
          p = K.part s

          G : Good (after (op s) c)
          G = after-good (op s) c K.good

          changes-up : (i : Item) → σ.changes s i ≡ true → τ.changes s i ≡ true
          changes-up i e = f.changes_same s i ∙ e

      finish-core : Core c (put op s (op s ++ ((r, a) ∷ []))) τ
      finish-core = record {
        good = K.good;
        part = put-cases (λ t l. Part c τ t l) op s (op s ++ ((r, a) ∷ [])) finish-part
            (λ t n. part-other c c K.good σ τ t (op t) K.locks (finish-held t n) (f.begun_same t)
            (λ i w. finish-frame i (λ v. n (K.locks.alone s t i v (K.locks.owns t i w)))) (λ i q. refl) (K.part t));
        locks = finish-locks;
        free = λ i n. finish-frame i (λ v. true≢false (f.changes_same s i ∙ v) (n s)) ∙ K.free i (λ t. sym (f.changes_same t i) ∙ n t);
      }

    module _ (s : ℕ) (g : Grows s σ τ) where
      changes-mono : (t : ℕ) (i : Item) → σ.changes t i ≡ true → τ.changes t i ≡ true
      changes-mono t i w = go (ℕ_discrete s t)
        where
          go : Dec (s ≡ t) → τ.changes t i ≡ true
          go (yes e) = subst (λ u. τ.changes u i ≡ true) e (g.changes_grows i (subst (λ u. σ.changes u i ≡ true) (sym e) w))
          go (no n) = (g.others t n).changes_kept i ∙ w

      -- An item that is newly held for change was nobody's.
      grow-new : (i : Item) → τ.changes s i ≡ true → σ.changes s i ≡ false → σ.db i ≡ get c i
      grow-new i w n = K.free i λ t. not-true (σ.changes t i) λ v.
          true≢false (subst (λ u. σ.changes u i ≡ true) (g.locks.alone t s i (changes-mono t i v) (g.locks.owns s i w)) v) n

      grow-part : Part c τ s (op s)
      grow-part = record {
        fits = p.fits;
        covers = covers-mono (σ.touches s) (σ.changes s) (τ.touches s) (τ.changes s) (op s) c g.touches_grows g.changes_grows p.covers;
        own = λ i w. by_bool (σ.changes s i) (λ v. g.db_kept i ∙ p.own i v)
            (λ n. g.db_kept i ∙ grow-new i w n ∙ sym (after_frame (σ.touches s) (σ.changes s) (op s) c K.good p.covers i n));
        within = subst (λ x. Within (τ.changes s) x) (sym g.log_same) (within-mono (σ.changes s) (τ.changes s) (σ.log s) g.changes_grows p.within);
        undoes = λ i w. ap (λ x. undo x τ.db i) g.log_same ∙ undo-cong (σ.log s) τ.db σ.db i (g.db_kept i)
            ∙ by_bool (σ.changes s i) (λ v. p.undoes i v)
            (λ n. undo-frame (σ.changes s) (σ.log s) p.within σ.db i n ∙ grow-new i w n);
        idle = λ n i. absurd (true≢false g.was (sym (g.begun_same s) ∙ n));
      }
        where
          p : Part c σ s (op s)
          p = K.part s

      grow-core : Core c op τ
      grow-core = record {
        good = K.good;
        part = λ t. go t (ℕ_discrete s t);
        locks = g.locks;
        free = λ i n. g.db_kept i ∙ K.free i (λ t. not-true (σ.changes t i) (λ w. true≢false (changes-mono t i w) (n t)));
      }
        where
          go : (t : ℕ) → Dec (s ≡ t) → Part c τ t (op t)
          go t (yes e) = subst (λ u. Part c τ u (op u)) e grow-part
          go t (no n) = part-other c c K.good σ τ t (op t) K.locks (g.others t n) (g.begun_same t) (λ i w. g.db_kept i) (λ i r. refl) (K.part t)

    module _ (s : ℕ) (e : Ends s σ τ) where
      ends-part : (d : Db) → Part d τ s []
      ends-part d = record {
        fits = tt;
        covers = tt;
        own = λ i w. absurd (true≢false w (e.changes_off i));
        within = subst (λ x. Within (τ.changes s) x) (sym e.log_off) tt;
        undoes = λ i w. absurd (true≢false w (e.changes_off i));
        idle = λ n i. e.touches_off i;
      }

      changes-down : (t : ℕ) (i : Item) → τ.changes t i ≡ true → σ.changes t i ≡ true
      changes-down t i w = go (ℕ_discrete s t)
        where
          go : Dec (s ≡ t) → σ.changes t i ≡ true
          go (yes q) = absurd (true≢false w (subst (λ u. τ.changes u i ≡ false) q (e.changes_off i)))
          go (no n) = sym ((e.others t n).changes_kept i) ∙ w

      touches-down : (t : ℕ) (i : Item) → τ.touches t i ≡ true → σ.touches t i ≡ true
      touches-down t i w = go (ℕ_discrete s t)
        where
          go : Dec (s ≡ t) → σ.touches t i ≡ true
          go (yes q) = absurd (true≢false w (subst (λ u. τ.touches u i ≡ false) q (e.touches_off i)))
          go (no n) = sym ((e.others t n).touches_kept i) ∙ w

      ends-locks : Locks τ
      ends-locks = record {
        alone = λ u t i w r. K.locks.alone u t i (changes-down u i w) (touches-down t i r);
        owns = λ u i w. go u i w (ℕ_discrete s u);
      }
        where
          go : (u : ℕ) (i : Item) → τ.changes u i ≡ true → Dec (s ≡ u) → τ.touches u i ≡ true
          go u i w (yes q) = absurd (true≢false w (subst (λ v. τ.changes v i ≡ false) q (e.changes_off i)))
          go u i w (no n) = (e.others u n).touches_kept i ∙ K.locks.owns u i (changes-down u i w)

      -- An item that nobody holds afterwards was held by the session that ended, or by nobody.
      ends-free : (i : Item) → ((t : ℕ) → τ.changes t i ≡ false) → σ.changes s i ≡ false → (t : ℕ) → σ.changes t i ≡ false
      ends-free i n v t = go (ℕ_discrete s t)
        where
          go : Dec (s ≡ t) → σ.changes t i ≡ false
          go (yes q) = subst (λ u. σ.changes u i ≡ false) q v
          go (no m) = sym ((e.others t m).changes_kept i) ∙ n t

      not-mine : (t : ℕ) → ¬ (s ≡ t) → (i : Item) → σ.touches t i ≡ true → σ.changes s i ≡ false
      not-mine t n i r = not-true (σ.changes s i) (λ w. n (K.locks.alone s t i w r))

    commit-core : (s : ℕ) → Commits s σ τ → Core (after (op s) c) (put op s []) τ
    commit-core s m = record {
      good = after-good (op s) c K.good;
      part = put-cases (λ t l. Part (after (op s) c) τ t l) op s [] (ends-part s m.ends (after (op s) c))
          (λ t n. part-other c (after (op s) c) (after-good (op s) c K.good) σ τ t (op t) K.locks (m.ends.others t n) (m.ends.begun_others t n) (λ i w. m.db_kept i)
          (λ i r. sym (after_frame (σ.touches s) (σ.changes s) (op s) c K.good (K.part s).covers i (not-mine s m.ends t n i r))) (K.part t));
      locks = ends-locks s m.ends;
      free = λ i n. m.db_kept i ∙ by_bool (σ.changes s i) (λ w. (K.part s).own i w)
          (λ v. K.free i (ends-free s m.ends i n v) ∙ sym (after_frame (σ.touches s) (σ.changes s) (op s) c K.good (K.part s).covers i v));
    }

    abort-core : (s : ℕ) → Aborts s σ τ → Core c (put op s []) τ
    abort-core s m = record {
      good = K.good;
      part = put-cases (λ t l. Part c τ t l) op s [] (ends-part s m.ends c)
          (λ t n. part-other c c K.good σ τ t (op t) K.locks (m.ends.others t n) (m.ends.begun_others t n)
          (λ i w. m.db_undone i ∙ undo-frame (σ.changes s) (σ.log s) (K.part s).within σ.db i (not-mine s m.ends t n i (K.locks.owns t i w)))
          (λ i r. refl) (K.part t));
      locks = ends-locks s m.ends;
      free = λ i n. m.db_undone i ∙ by_bool (σ.changes s i) (λ w. (K.part s).undoes i w)
          (λ v. undo-frame (σ.changes s) (σ.log s) (K.part s).within σ.db i v ∙ K.free i (ends-free s m.ends i n v));
    }

  -- What is read off the calls and their answers alone: committed sessions in order of commit, and each unfinished session, with its finished requests in turn.
  pub record Hist : Type 0 where
    pub closed : List (List Done)
    pub current : ℕ → List Done

  abbrev pub none_yet : Hist
  none_yet = record { closed = []; current = λ s. [] }

  abbrev pub hstep : Event → Hist → Hist
  hstep (begin s) h = record { closed = h.closed; current = put h.current s [] }
  hstep (grow s) h = h
  hstep (commit s) h = record { closed = h.closed ++ (h.current s ∷ []); current = put h.current s [] }
  hstep (abort s) h = record { closed = h.closed; current = put h.current s [] }
  hstep (finish s r a) h = record { closed = h.closed; current = put h.current s (h.current s ++ ((r, a) ∷ [])) }
  hstep quiet h = h

  abbrev pub hist : Hist → List Event → Hist
  hist h [] = h
  hist h (e ∷ es) = hist (hstep e h) es

  pub data Run : State → List Event → State → Type 0 where
    stop : {σ : State} → Run σ [] σ
    next : {σ ρ τ : State} {e : Event} {es : List Event} → Step e σ ρ → Run ρ es τ → Run σ (e ∷ es) τ

  pub record Inv (d₀ : Db) (h : Hist) (σ : State) : Type 0 where
    pub fits_closed : FitsAll h.closed d₀
    pub core : Core (serial h.closed d₀) h.current σ

  pub inv-step : (d₀ : Db) (h : Hist) (σ τ : State) (e : Event) → Step e σ τ → Inv d₀ h σ → Inv d₀ (hstep e h) τ
  inv-step d₀ h σ τ (begin s) p v = record
      { fits_closed = v.fits_closed; core = begin-core (serial h.closed d₀) h.current σ τ v.core s p }
  inv-step d₀ h σ τ (grow s) p v = record
      { fits_closed = v.fits_closed; core = grow-core (serial h.closed d₀) h.current σ τ v.core s p }
  inv-step d₀ h σ τ (commit s) p v = record {
    fits_closed = fitsall-snoc h.closed (h.current s) d₀ v.fits_closed (v.core.part s).fits;
    core = subst (λ d. Core d (put h.current s []) τ) (sym (serial-snoc h.closed (h.current s) d₀))
        (commit-core (serial h.closed d₀) h.current σ τ v.core s p);
  }
  inv-step d₀ h σ τ (abort s) p v = record
      { fits_closed = v.fits_closed; core = abort-core (serial h.closed d₀) h.current σ τ v.core s p }
  inv-step d₀ h σ τ (finish s r a) p v = record
      { fits_closed = v.fits_closed; core = finish-core (serial h.closed d₀) h.current σ τ v.core s r a p }
  inv-step d₀ h σ τ quiet p v = record
      { fits_closed = v.fits_closed; core = quiet-core (serial h.closed d₀) h.current σ τ v.core p }

  -- As format leaves it.
  pub record Fresh (d₀ : Db) (σ : State) : Type 0 where
    pub stored : (i : Item) → σ.db i ≡ get d₀ i
    pub no_touches : (s : ℕ) (i : Item) → σ.touches s i ≡ false
    pub no_changes : (s : ℕ) (i : Item) → σ.changes s i ≡ false
    pub no_log : (s : ℕ) → σ.log s ≡ []

  pub inv-fresh : (d₀ : Db) → Good d₀ → (σ : State) → Fresh d₀ σ → Inv d₀ none_yet σ
  inv-fresh d₀ g σ f = record {
    fits_closed = tt;
    core = record {
      good = g;
      part = λ t. record {
        fits = tt;
        covers = tt;
        own = λ i w. absurd (true≢false w (f.no_changes t i));
        within = subst (λ x. Within (σ.changes t) x) (sym (f.no_log t)) tt;
        undoes = λ i w. absurd (true≢false w (f.no_changes t i));
        idle = λ n i. f.no_touches t i;
      };
      locks = record {
        alone = λ s t i w r. absurd (true≢false w (f.no_changes s i));
        owns = λ s i w. absurd (true≢false w (f.no_changes s i));
      };
      free = λ i n. f.stored i;
    };
  }

  -- The logical model, fed requests and no answers.
  abbrev pub run_db : List Req → Db → Db
  run_db [] d = d
  run_db (r ∷ l) d = run_db l (eff r d)

  abbrev pub run_answers : List Req → Db → List Ans
  run_answers [] d = []
  run_answers (r ∷ l) d = ans r d ∷ run_answers l (eff r d)

  abbrev pub serial_db : List (List Req) → Db → Db
  serial_db [] d = d
  serial_db (l ∷ ls) d = serial_db ls (run_db l d)

  abbrev pub serial_answers : List (List Req) → Db → List (List Ans)
  serial_answers [] d = []
  serial_answers (l ∷ ls) d = run_answers l d ∷ serial_answers ls (run_db l d)

  abbrev pub requests : List Done → List Req
  requests l = map (λ x. x.0) l

  abbrev pub results : List Done → List Ans
  results l = map (λ x. x.1) l

  pub after_run : (l : List Done) (d : Db) → after l d ≡ run_db (requests l) d
  after_run [] d = refl
  after_run (x ∷ l) d = after_run l (eff x.0 d)

  pub fits-run : (l : List Done) (d : Db) → Fits l d → results l ≡ run_answers (requests l) d
  fits-run [] d f = refl
  fits-run (x ∷ l) d f = let q = fits-run l (eff x.0 d) f.1 in let p = f.0 in cc

  pub run_fits : (l : List Done) (d : Db) → results l ≡ run_answers (requests l) d → Fits l d
  run_fits [] d e = tt
  run_fits (x ∷ l) d e = (head-eq_of_cons-eq e, run_fits l (eff x.0 d) (tail-eq_of_cons-eq e))

  pub serial-run : (ls : List (List Done)) (d : Db) → serial ls d ≡ serial_db (map requests ls) d
  serial-run [] d = refl
  serial-run (l ∷ ls) d = serial-run ls (after l d) ∙ ap (λ e. serial_db (map requests ls) e) (after_run l d)

  pub fitsall-run : (ls : List (List Done)) (d : Db) → FitsAll ls d → map results ls ≡ serial_answers (map requests ls) d
  fitsall-run [] d f = refl
  fitsall-run (l ∷ ls) d f =
      let p : results l ≡ run_answers (requests l) d = fits-run l d f.0 in
      let q : map results ls ≡ serial_answers (map requests ls) (run_db (requests l) d)
      = fitsall-run ls (after l d) f.1 ∙ ap (λ e. serial_answers (map requests ls) e) (after_run l d) in
      cc

  pub run-fitsall : (ls : List (List Done)) (d : Db) → map results ls ≡ serial_answers (map requests ls) d → FitsAll ls d
  run-fitsall [] d e = tt
  run-fitsall (l ∷ ls) d e = (
    run_fits l d (head-eq_of_cons-eq e),
    run-fitsall ls (after l d) (tail-eq_of_cons-eq e ∙ ap (λ x. serial_answers (map requests ls) x) (sym (after_run l d))),
  )

  -- Demand 3, of the history h and the state σ that it led to, from the database d₀.
  pub record Demand (d₀ : Db) (h : Hist) (σ : State) : Type 0 where
    pub committed : map results h.closed ≡ serial_answers (map requests h.closed) d₀
    pub unfinished : (s : ℕ) → results (h.current s) ≡ run_answers (requests (h.current s)) (serial_db (map requests h.closed) d₀)
    pub restored : (ss : List ℕ) (τ : State) → Run σ (map abort ss) τ → ((t : ℕ) → τ.begun t ≡ false)
        → (i : Item) → τ.db i ≡ get (serial_db (map requests h.closed) d₀) i

  pub closed-aborts : (h : Hist) (ss : List ℕ) → (hist h (map abort ss)).closed ≡ h.closed
  closed-aborts h [] = refl
  closed-aborts h (s ∷ ss) = closed-aborts (hstep (abort s) h) ss

  pub inv-idle : (d₀ : Db) (h : Hist) (σ : State) → Inv d₀ h σ → ((t : ℕ) → σ.begun t ≡ false) → (i : Item) → σ.db i ≡ get (serial h.closed d₀) i
  inv-idle d₀ h σ v n i = v.core.free i λ t. not-true (σ.changes t i) λ w.
      true≢false (v.core.locks.owns t i w) ((v.core.part t).idle (n t) i)
