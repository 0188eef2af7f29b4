-- The update lock and the end of the request, and the states that they make.
use Rattle.std.specs.Prelude.{◌≡◌, List, ℕ, ◌-◌, ◌≤◌, set}
use Rattle.std.proofs.Math.Path.{refl, subst}
use Rattle.std.proofs.Common.{ap, ◌∙◌, arith}
use Rattle.std.proofs.Math.Option.{none}
use Rattle.groups.specs.Descriptor.{descriptor_at, put_descriptor, with_holders, grant_update}
use Rattle.sessions.specs.declared.Session.{Session}
use Rattle.sessions.specs.Sessions.{session_at}
use Rattle.machine.specs.Holders.{width, held_by}
use Rattle.machine.specs.State.{Desc, change, Request, Undo, State, session_of, on_session, on_tree, on_desc, with_free, hold_desc, pin_desc, same, set_hand, add_undo}
use Rattle.machine.specs.Steps.{pinned, unpin, unlatch, ended}
use Rattle.meaning.specs.Reading.{M-of}
use Rattle.layout.specs.Layout.{Lay, leaves_in, Has, Holds, means}
use Rattle.layout.specs.Row.{Becomes}
use Rattle.layout.specs.Written.{written_then}
use Rattle.layout.specs.Keep.{table-row}
use Rattle.layout.specs.Places.{means-hand}
use Rattle.layout.specs.Ordering.{Rising}
use Rattle.layout.specs.Room.{Sizes}
use Rattle.layout.specs.Left.{Left, idle-fits, left-then, left-desc, left-pins, left-becomes}
use Rattle.members.specs.Members.{update_at, unpin_at}
use Rattle.endings.specs.Table.{idled}
use Rattle.changing.specs.Changing.{hold_and_end}
use Rattle.changing.specs.Logs.{desc-twice}
use Rattle.changing.specs.Logged.{Logged}

-- ---- one descriptor

abbrev pub lets_go : Desc → Desc
lets_go = pin_desc (λ n. n - 1)

abbrev pub updates : ℕ → Desc → Desc
updates p = hold_desc same (held_by p) same

module _ (s : List ℕ) (t : List Session) (L : Lay) (H : Holds s t L) (Z : Sizes L) (o : Rising L) (m : ℕ) (e : M-of s ≡ m) (k d : ℕ) (h : Has k d (leaves_in L)) where
  pub pin-left : Left s t L (unpin_at s m d) (on_desc k lets_go)
  unfolding unpin_at
  pin-left = left-pins (λ n. n - 1) s t L H Z o m e k d h

  hold-left : (p : ℕ) → Left s t L (update_at s m d p) (on_desc k (updates p))
  unfolding update_at with_holders
  hold-left p =
      subst (λ n. Left s t L (put_descriptor s n d (grant_update (descriptor_at s n d) (held_by p (descriptor_at s n d).update))) (on_desc k (updates p))) e
      (left-desc (λ n. n) (held_by p) (λ n. n) (λ n. n) s t L H Z o k d h 0 (omega arith))

pub end-left : (s : List ℕ) (t : List Session) (L : Lay) → Holds s t L → Sizes L → Rising L → (m : ℕ) → M-of s ≡ m → (k d : ℕ) → Has k d (leaves_in L) → (p : ℕ)
    → Left s t L (hold_and_end s m d p) (λ z. on_desc k lets_go (on_desc k (updates p) z))
unfolding hold_and_end
end-left s t L H Z o m e k d h p =
    let A = hold-left s t L H Z o m e k d h p in
    left-then s t L (update_at s m d p) (unpin_at (update_at s m d p) m d) (on_desc k (updates p)) (on_desc k lets_go) A
    (pin-left (update_at s m d p) t A.lay A.holds A.sizes A.rising m (A.written.entries ∙ e) k d (A.has k d h))

-- ---- states

pub ended-change : (p : ℕ) (r : Request) (σ : State) → r.stage ≡ change → ended p r σ ≡ set_hand p none (on_desc r.first lets_go σ)
unfolding ended pinned unpin unlatch
ended-change p r σ e = ap (λ g. set_hand p none (unpin (pinned r g) (unlatch p g σ))) e

-- The request ends whenever.
hand-last : (p k : ℕ) (f g : Desc → Desc) (σ : State) → on_desc k f (on_desc k g (set_hand p none σ)) ≡ set_hand p none (on_desc k f (on_desc k g σ))
unfolding set_hand on_session session_of on_tree
hand-last p k f g σ = refl

hand-late : (p k : ℕ) (f : Desc → Desc) (σ : State) → on_desc k f (set_hand p none σ) ≡ set_hand p none (on_desc k f σ)
unfolding set_hand on_session session_of on_tree
hand-late p k f σ = refl

log-last : (p k n : ℕ) (u : Undo) (f g h : Desc → Desc) (σ : State)
    → on_desc k f (on_desc k g (set_hand p none (add_undo p u (with_free n (on_desc k h σ))))) ≡ set_hand p none (on_desc k f (add_undo p u (with_free n (on_desc k g (on_desc k h σ)))))
unfolding set_hand add_undo on_session session_of on_tree
log-last p k n u f g h σ = refl

pub logged-last : (p k n : ℕ) (u : Undo) (f g h : Desc → Desc) (σ : State)
    → on_desc k f (on_desc k g (set_hand p none (add_undo p u (with_free n (on_desc k h σ))))) ≡ set_hand p none (on_desc k f (add_undo p u (with_free n (on_desc k (λ d. g (h d)) σ))))
logged-last p k n u f g h σ = log-last p k n u f g h σ ∙ ap (λ z. set_hand p none (on_desc k f (add_undo p u (with_free n z)))) (desc-twice k g h σ)

-- ---- what the words become

-- Only the request ends, with or without the update lock.
module _ (s : List ℕ) (t : List Session) (L : Lay) (H : Holds s t L) (Z : Sizes L) (o : Rising L) (k d : ℕ) (h : Has k d (leaves_in L)) (p : ℕ) (party : p ≤ width) where
  abbrev y : Session
  y = idled (session_at t p)

  idle-holds : Holds s (set t p y) L
  unfolding idled
  idle-holds = table-row s t L H p y party refl (idle-fits L p y refl)

  idle-means : means L (set t p y) ≡ set_hand p none (means L t)
  unfolding idled
  idle-means = means-hand L t p y (omega (arith, party, H.seats)) refl

  pub lets-become : Becomes s (unpin_at s (M-of s) d) (set t p y) (set_hand p none (on_desc k lets_go (means L t)))
  lets-become =
      left-becomes s (set t p y) L (unpin_at s (M-of s) d) (on_desc k lets_go) (pin-left s (set t p y) L idle-holds Z o (M-of s) refl k d h)
      (set_hand p none (on_desc k lets_go (means L t))) (ap (on_desc k lets_go) idle-means ∙ hand-late p k lets_go (means L t))

  pub keeps-become : Becomes s (hold_and_end s (M-of s) d p) (set t p y) (set_hand p none (on_desc k lets_go (on_desc k (updates p) (means L t))))
  keeps-become =
      left-becomes s (set t p y) L (hold_and_end s (M-of s) d p) (λ z. on_desc k lets_go (on_desc k (updates p) z)) (end-left s (set t p y) L idle-holds Z o (M-of s) refl k d h p)
      (set_hand p none (on_desc k lets_go (on_desc k (updates p) (means L t)))) (ap (λ z. on_desc k lets_go (on_desc k (updates p) z)) idle-means ∙ hand-last p k lets_go (updates p) (means L t))

-- After a change that is logged.
pub logs-become : (s : List ℕ) (t : List Session) (L : Lay) (p : ℕ) (y : Session) (s' : List ℕ) (next : State) (A : Logged s t L p y s' next) (k d : ℕ) → Has k d (leaves_in L)
    → Becomes s (hold_and_end s' (M-of s) d p) (set t p y) (on_desc k lets_go (on_desc k (updates p) next))
logs-become s t L p y s' next A k d h =
    let B = end-left s' (set t p y) A.lay A.holds A.sizes A.rising (M-of s) A.written.entries k d (A.has k d h) p in
    let W = written_then s s' (hold_and_end s' (M-of s) d p) A.among B.among A.written B.written in
    record {
      lay = B.lay;
      holds = B.holds;
      means_next = B.is (set t p y) ∙ ap (λ z. on_desc k lets_go (on_desc k (updates p) z)) A.is;
      long = W.long;
      entries = W.entries;
      records = W.records;
      rest = W.rest;
    }
