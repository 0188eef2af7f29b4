-- Numbers in the order of begins: a table in which only they are others holds the same layout, and means the state with its table mapped.
use Rattle.std.specs.Prelude.{◌≡◌, refl, List, [], ◌∷◌, map, ℕ, zero, suc, length}
use Rattle.std.proofs.Common.{sym, ap, ap₂, subst, ◌∙◌}
use Rattle.sessions.specs.declared.Session.{Session}
use Rattle.sessions.specs.Sessions.{session_at, numbered}
use Rattle.machine.specs.State.{with_table}
use Rattle.machine.specs.State as M
use Rattle.meaning.specs.Reading.{M-of}
use Rattle.layout.specs.Layout.{Lay, Undone, UndosFit, HandFits, Holds, means, session_in, sessions_in}

-- Of each record only the number may be another.
pub record Renumbers (t t' : List Session) : Type 0 where
  pub long : length t' ≡ length t
  pub same : (q : ℕ) → session_at t' q ≡ numbered (session_at t' q).order (session_at t q)

numbered-fits : (L : Lay) (p n : ℕ) (x : Session) → HandFits L p x → HandFits L p (numbered n x)
numbered-fits L p n x f = record { stage = f.stage; at-node = f.at-node; low = f.low; high = f.high; last = f.last }

pub renumbers-holds : (s : List ℕ) (t t' : List Session) (L : Lay) → Holds s t L → Renumbers t t' → Holds s t' L
renumbers-holds s t t' L H R = record {
  seats = R.long ∙ H.seats;
  fits = record {
    header = H.fits.header;
    sized = H.fits.sized;
    records = H.fits.records;
    entries = H.fits.entries;
    height = H.fits.height;
    root = H.fits.root;
    tree = H.fits.tree;
    chained = H.fits.chained;
    groups = H.fits.groups;
    free = H.fits.free;
    undos = λ p l. subst (λ i. UndosFit s (M-of s) i (L.undos (suc p))) (sym (ap (λ x. x.undo) (R.same (suc p)))) (H.fits.undos p l);
  };
  owned = H.owned;
  hands = λ p l. subst (HandFits L p) (sym (R.same p)) (numbered-fits L p (session_at t' p).order (session_at t p) (H.hands p l));
  named = H.named;
}

-- Each session's record is changed, and its meaning with it.
module _ (u : ℕ → List Undone) (f : Session → Session) (g : M.Session → M.Session) (same : (p : ℕ) (x : Session) → session_in u (suc p) (f x) ≡ g (session_in u (suc p) x)) where
  sessions-map : (p : ℕ) (t : List Session) → sessions_in u (suc p) (map f t) ≡ map g (sessions_in u (suc p) t)
  sessions-map p [] = refl
  sessions-map p (x ∷ t) = ap₂ (λ a b. a ∷ b) (same p x) (sessions-map (suc p) t)

pub means-map : (L : Lay) (f : Session → Session) (g : M.Session → M.Session) → ((p : ℕ) (x : Session) → session_in L.undos (suc p) (f x) ≡ g (session_in L.undos (suc p) x))
    → (x : Session) (t : List Session) → g (session_in L.undos 0 x) ≡ session_in L.undos 0 x
    → means L (x ∷ map f t) ≡ with_table (map g (means L (x ∷ t)).table) (means L (x ∷ t))
unfolding means
means-map L f g same x t keeper = ap (λ l. with_table l (means L (x ∷ t))) (ap₂ (λ a b. a ∷ b) (sym keeper) (sessions-map L.undos f g same 0 t))
