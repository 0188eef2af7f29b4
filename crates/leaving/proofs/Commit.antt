-- Theorems of specs/Commit: what it defines is there.
use Rattle.std.specs.Prelude.{◌≡◌, refl, List, set}
use Rattle.std.proofs.Common.{sym, subst, ◌∙◌, arith, set-set}
use Rattle.std.proofs.Math.Path.{ap, ap₂}
use Prim.Native.Nat.{ℕ, suc, ◌+◌, ◌≤◌, ◌<◌}
use Rattle.std.proofs.Math.ListN.{length}
use Rattle.std.proofs.lemmas.List.{length-map}
use Rattle.sessions.specs.declared.Session.{Session}
use Rattle.sessions.specs.Sessions.{session_at}
use Rattle.machine.specs.Holders.{width}
use Rattle.machine.specs.State.{State, session_of, on_session, on_tree, with_free, with_table, idle}
use Rattle.machine.specs.State as M
use Rattle.machine.specs.Calls.{leave, commits}
use Rattle.meaning.specs.Reading.{M-of, R-of}
use Rattle.meaning.specs.Frame.{leaf_records}
use Rattle.layout.specs.Layout.{Lay, leaves_in, undo_numbers, Holds, means, session_in}
use Rattle.layout.specs.Row.{Stands, Becomes}
use Rattle.layout.specs.Written.{Written, written_then}
use Rattle.layout.specs.Keep.{table_here}
use Rattle.layout.specs.Places.{session-means}
use Rattle.endings.specs.Table.{unbegun}
use Rattle.leaving.specs.Words.{leave_all, commit_words}
use Rattle.leaving.specs.LeaveRow.{left_lay, leave-row, leave-means, leave-written}
use Rattle.leaving.specs.FreedRow.{without_undos, undos-gone, freed_lay, freed-means}
use Rattle.leaving.specs.Commit.{rid, after, rid-written, rid-holds, rid-few}

-- Whatever the session's record is, it is idle then.
leave-over : (σ : State) (p : ℕ) (y : M.Session) → leave p (on_session p (λ _. y) σ) ≡ leave p σ
unfolding leave on_session on_tree
leave-over σ p y = ap (λ l. with_table l (leave p σ)) (set-set σ.table p y idle)

unbegun-twice : (x : Session) → unbegun (unbegun x) ≡ unbegun x
unfolding unbegun
unbegun-twice x = refl

free_is : (L : Lay) (t : List Session) → (means L t).free ≡ length L.free
unfolding means
free_is L t = refl

undos_many : (L : Lay) (t : List Session) (q : ℕ) → suc q < length t → length (session_of (suc q) (means L t)).undos ≡ length (undo_numbers (L.undos (suc q)))
undos_many L t q l =
    ap (λ y. length y.undos) (session-means L t (suc q) l) ∙ length-map (L.undos (suc q)) (λ y. y.undo) ∙ sym (length-map (L.undos (suc q)) (λ y. y.num))

module _ (s : List ℕ) (t : List Session) (A : Stands s t) (q : ℕ) (high : suc q ≤ width) where
  same-words : leave_all (rid s t A q high) (M-of (rid s t A q high)) (R-of (rid s t A q high)) (suc q) ≡ commit_words s (M-of s) (R-of s) (suc q)
      (session_at t (suc q)).undo
  unfolding commit_words
  same-words = ap₂ (λ m r. leave_all (rid s t A q high) m r (suc q)) (rid-written s t A q high).entries (rid-written s t A q high).records

  after-twice : set (after s t A q high) (suc q) (unbegun (session_at (after s t A q high) (suc q))) ≡ after s t A q high
  after-twice =
      let x = session_at t (suc q) in
      ap (λ y. set (after s t A q high) (suc q) (unbegun y)) (table_here t (suc q) (unbegun x) A.holds.seats high)
      ∙ ap (set (after s t A q high) (suc q)) (unbegun-twice x) ∙ set-set t (suc q) (unbegun x) (unbegun x)

  last-holds : Holds (commit_words s (M-of s) (R-of s) (suc q) (session_at t (suc q)).undo) (after s t A q high) (left_lay (freed_lay A.lay (suc q)) (suc q))
  last-holds =
      let L₁ = freed_lay A.lay (suc q) in
      subst (λ w. Holds w (after s t A q high) (left_lay L₁ (suc q))) same-words
      (subst (λ z. Holds (leave_all (rid s t A q high) (M-of (rid s t A q high)) (R-of (rid s t A q high)) (suc q)) z (left_lay L₁ (suc q))) after-twice
      (leave-row (rid s t A q high) (after s t A q high) L₁ (rid-holds s t A q high) (rid-few s t A q high) q high (undos-gone A.lay.undos (suc q))))

  last_written : Written (rid s t A q high) (commit_words s (M-of s) (R-of s) (suc q) (session_at t (suc q)).undo) (leaf_records (leaves_in A.lay))
  last_written =
      subst (λ w. Written (rid s t A q high) w (leaf_records (leaves_in A.lay))) same-words
      (leave-written (rid s t A q high) (after s t A q high) (freed_lay A.lay (suc q)) (rid-holds s t A q high) (rid-few s t A q high) q)

  last-means : means (left_lay (freed_lay A.lay (suc q)) (suc q)) (after s t A q high) ≡ commits (suc q) (means A.lay t)
  unfolding commits
  last-means =
      let L = A.lay in
      let p = suc q in
      let L₁ = freed_lay L p in
      let σ = means L t in
      let many : length (undo_numbers (L.undos p)) + length L.free ≡ σ.free + length (session_of p σ).undos =
      omega (arith, free_is L t, undos_many L t q (omega (arith, high, A.holds.seats))) in
      ap (means (left_lay L₁ p)) (sym after-twice) ∙ leave-means L₁ (after s t A q high) q (undos-gone L.undos p)
      ∙ ap (leave p) (freed-means L t p (unbegun (session_at t p)))
      ∙ leave-over (with_free (length (undo_numbers (L.undos p)) + length L.free) σ) p (session_in (without_undos L.undos p) p (unbegun (session_at t p)))
      ∙ ap (λ n. leave p (with_free n σ)) many

  pub commit-becomes : Becomes s (commit_words s (M-of s) (R-of s) (suc q) (session_at t (suc q)).undo) (after s t A q high) (commits (suc q) (means A.lay t))
  commit-becomes =
      let W = written_then s (rid s t A q high) (commit_words s (M-of s) (R-of s) (suc q) (session_at t (suc q)).undo) (undo_numbers (A.lay.undos (suc q)))
      (leaf_records (leaves_in A.lay)) (rid-written s t A q high) last_written in
      record {
        lay = left_lay (freed_lay A.lay (suc q)) (suc q);
        holds = last-holds;
        means_next = last-means;
        long = W.long;
        entries = W.entries;
        records = W.records;
        rest = W.rest;
      }
