-- A property of numbers that 0 has, and each number that is written: every value of the store has it, after every list of calls.
use Rattle.std.specs.Prelude.{◌≡◌, Bool, true, false, cond, List, [], ◌∷◌, ◌++◌, ℕ, eqb}
use Rattle.std.proofs.Common.{sym, subst}
use Rattle.std.proofs.Math.Option.{Option, none, some}
use Rattle.std.proofs.Math.Decide.{ℕ_discrete}
use Rattle.serial.specs.Serial.{not-true, put-cases, pick, Event, Done, Hist, hstep, after, serial, Inv, inv-fresh}
use Rattle.serial.specs.Serial as S
use Rattle.serial.specs.Model.{Db, Req, read, write, insert, remove, locate, empty, eff, value, request_of}
use Rattle.serial.specs.Footprints.{store}
use Rattle.serial.specs.LockMachine.{view, Formatted, formatted-fresh}
use Rattle.serial.specs.Calls.{Call, format, begin, commit, abort, ask, recover, put, step, Asked, Told, nothing, take_in_hand, without, ends_request, tell_refused, Machine, Knows, Serial}

-- One of two, whichever is picked.
either : {A : Type 0} (F : A → Type 0) (b : Bool) (x y : A) → F x → F y → F (cond b x y)
either F true x y f g = f
either F false x y f g = g

module _ (P : ℕ → Type 0) where
  -- What a put hands over to be written fits.
  abbrev pub FitCall : Call → Type 0
  FitCall (format m) = Unit {0}
  FitCall (begin p) = Unit {0}
  FitCall (put p c e f g) = P f
  FitCall (step p l) = Unit {0}
  FitCall (commit p) = Unit {0}
  FitCall (abort p) = Unit {0}
  FitCall (ask p) = Unit {0}
  FitCall recover = Unit {0}

  abbrev pub FitCalls : List Call → Type 0
  FitCalls [] = Unit {0}
  FitCalls (c ∷ cs) = FitCall c × FitCalls cs

  abbrev pub FitRequest : Req → Type 0
  FitRequest (read e) = Unit {0}
  FitRequest (write e v) = P v
  FitRequest (insert e k) = Unit {0}
  FitRequest (remove e k) = Unit {0}
  FitRequest (locate lo hi) = Unit {0}

  abbrev pub FitRequests : List (Done store) → Type 0
  FitRequests [] = Unit {0}
  FitRequests (x ∷ l) = FitRequest x.0 × FitRequests l

  abbrev pub FitSessions : List (List (Done store)) → Type 0
  FitSessions [] = Unit {0}
  FitSessions (l ∷ ls) = FitRequests l × FitSessions ls

  abbrev pub FitHand : Option Asked → Type 0
  FitHand none = Unit {0}
  FitHand (some a) = P a.first

  pub record FitHist (h : Hist store) : Type 0 where
    pub closed : FitSessions h.closed
    pub current : (s : ℕ) → FitRequests (h.current s)

  pub record FitTold (t : Told) : Type 0 where
    pub past : FitHist t.past
    pub hands : (p : ℕ) → FitHand (t.hands p)

  requests-append : (l m : List (Done store)) → FitRequests l → FitRequests m → FitRequests (l ++ m)
  requests-append [] m a b = b
  requests-append (x ∷ l) m a b = (a.0, requests-append l m a.1 b)

  sessions-append : (ls ms : List (List (Done store))) → FitSessions ls → FitSessions ms → FitSessions (ls ++ ms)
  sessions-append [] ms a b = b
  sessions-append (l ∷ ls) ms a b = (a.0, sessions-append ls ms a.1 b)

  abbrev FitEvent : Event store → Type 0
  FitEvent (S.begin s) = Unit {0}
  FitEvent (S.grow s) = Unit {0}
  FitEvent (S.commit s) = Unit {0}
  FitEvent (S.abort s) = Unit {0}
  FitEvent (S.finish s r a) = FitRequest r
  FitEvent S.quiet = Unit {0}

  current-put : (h : Hist store) (s : ℕ) (l : List (Done store)) → FitHist h → FitRequests l → (t : ℕ) → FitRequests (S.put h.current s l t)
  current-put h s l W w = put-cases (λ t z. FitRequests z) h.current s l w (λ t n. W.current t)

  pub hist-fits : (e : Event store) (h : Hist store) → FitEvent e → FitHist h → FitHist (hstep store e h)
  hist-fits (S.begin s) h w W = record { closed = W.closed; current = current-put h s [] W tt }
  hist-fits (S.grow s) h w W = W
  hist-fits (S.commit s) h w W = record { closed = sessions-append h.closed (h.current s ∷ []) W.closed (W.current s, tt); current = current-put h s [] W tt }
  hist-fits (S.abort s) h w W = record { closed = W.closed; current = current-put h s [] W tt }
  hist-fits (S.finish s r a) h w W =
      record { closed = W.closed; current = current-put h s (h.current s ++ ((r, a) ∷ [])) W (requests-append (h.current s) ((r, a) ∷ []) (W.current s) (w, tt)) }
  hist-fits S.quiet h w W = W

  abbrev pub FitOption : Option Req → Type 0
  FitOption none = Unit {0}
  FitOption (some r) = FitRequest r

  pub request-fits : (c e f g : ℕ) → P f → FitOption (request_of c e f g)
  request-fits c e f g w =
      either FitOption (eqb c 1) (some (read e)) _ tt (either FitOption (eqb c 2) (some (write e f)) _ w (either FitOption (eqb c 3) (some (insert e f)) _ tt
      (either FitOption (eqb c 4) (some (remove e f)) _ tt (either FitOption (eqb c 5) (some (locate f g)) none tt tt))))

  pub hands-put : (t : Told) (p : ℕ) (a : Option Asked) → FitTold t → FitHand a → (q : ℕ) → FitHand (S.put t.hands p a q)
  hands-put t p a W w = put-cases (λ q z. FitHand z) t.hands p a w (λ q n. W.hands q)

  pub without-fits : (f : ℕ → Bool) (h : Hist store) → FitHist h → FitHist (without f h)
  without-fits f h W = record { closed = W.closed; current = λ s. either FitRequests (f s) [] (h.current s) tt (W.current s) }

  pub nothing-fits : FitTold nothing
  nothing-fits = record { past = record { closed = tt; current = λ s. tt }; hands = λ p. tt }

  pub refused-fits : (c : Call) (n : ℕ) (t : Told) → FitTold t → FitTold (tell_refused c n t)
  refused-fits (format m) n t W = W
  refused-fits (begin s) n t W = W
  refused-fits (commit s) n t W = W
  refused-fits (abort s) n t W = W
  refused-fits (ask s) n t W = W
  refused-fits recover n t W = W
  refused-fits (put p c e f g) n t W = W
  refused-fits (step p l) n t W = either FitTold (ends_request n) (take_in_hand p none t) t (record { past = W.past; hands = hands-put t p none W tt }) W

  -- So every value has it, of the model and of the store.

  abbrev Fit : Db → Type 0
  Fit d = (e : ℕ) → P (d.values e)

  eff-fits : (r : Req) (d : Db) → FitRequest r → Fit d → Fit (eff r d)
  eff-fits (read e) d w h = h
  eff-fits (write e v) d w h = λ x. go x (ℕ_discrete e x)
    where
      go : (x : ℕ) (k : Dec (e ≡ x)) → P (pick k v (d.values x))
      go x (yes i) = w
      go x (no i) = h x
  eff-fits (insert e k) d w h = h
  eff-fits (remove e k) d w h = h
  eff-fits (locate lo hi) d w h = h

  after-fits : (l : List (Done store)) (d : Db) → FitRequests l → Fit d → Fit (after store l d)
  after-fits [] d w h = h
  after-fits (x ∷ l) d w h = after-fits l (eff x.0 d) w.1 (eff-fits x.0 d w.0 h)

  serial-fits : (ls : List (List (Done store))) (d : Db) → FitSessions ls → Fit d → Fit (serial store ls d)
  serial-fits [] d w h = h
  serial-fits (l ∷ ls) d w h = serial-fits ls (after store l d) w.1 (after-fits l d w.0 h)

  -- ---- along a list of calls

  -- What is known of a store after calls that told t, where what was written fits.
  pub record Fitting (𝓢 : Machine) (t : Told) (x : 𝓢.X) : Type 0 where
    pub knows : Knows 𝓢 t x
    pub serial : Serial 𝓢 t x
    pub written : FitTold t

  pub fitting-fresh : (𝓢 : Machine) (x : 𝓢.X) → Knows 𝓢 nothing x → Formatted (𝓢.meaning x) → Fitting 𝓢 nothing x
  fitting-fresh 𝓢 x w f = record { knows = w; serial = inv-fresh store empty tt (view (𝓢.meaning x)) (formatted-fresh (𝓢.meaning x) f); written = nothing-fits }

  module _ (zero-fits : P 0) (dec : (n : ℕ) → Dec (P n)) where
    values-fit : (h : Hist store) (σ : S.State store) → Inv store empty h σ → FitHist h → (e : ℕ) → P (σ.db (value e))
    values-fit h σ v W e = go (dec (σ.db (value e)))
      where
        base : Fit (serial store h.closed empty)
        base = serial-fits h.closed empty W.closed (λ x. zero-fits)

        go : Dec (P (σ.db (value e))) → P (σ.db (value e))
        go (yes l) = l
        go (no n) = subst P (sym (v.core.free (value e) (λ t. not-true (σ.changes t (value e)) λ w. n (subst P (sym ((v.core.part t).own (value e) w)) (after-fits (h.current t) (serial store h.closed empty) (W.current t) base e))))) (base e)

    -- Every value fits.
    pub fitting-values : (𝓢 : Machine) (t : Told) (x : 𝓢.X) → Fitting 𝓢 t x → (e : ℕ) → P ((𝓢.meaning x).db (value e))
    fitting-values 𝓢 t x F e = values-fit t.past (view (𝓢.meaning x)) F.serial F.written.past e
