-- Insert and remove, as the change step does them.
use Rattle.std.specs.Prelude.{◌≡◌, Bool, true, false, cond, suc, ◌≤◌, ℕ}
use Rattle.std.proofs.Math.Path.{refl, sym, ap}
use Rattle.std.proofs.Common.{◌∙◌, subst, arith}
use mathlib.Core.List.{List, [], ◌∷◌, ◌++◌, map}
use Rattle.std.proofs.Math.Decide.{ℕ_discrete}
use Rattle.serial.specs.Serial.{pick_yes, pick_no, pick}
use Rattle.serial.specs.Rising.{has}
use Rattle.serial.specs.Model.{Item, Item-discrete, Req, get, eff, by_key}
use Rattle.serial.specs.Model as R
use Rattle.serial.specs.Footprints.{Good}
use Rattle.serial.specs.Locks.{Kind, Mode, strong, Needs, undo_of}
use Rattle.serial.specs.Locks as L
use Rattle.machine.specs.Holders.{width, holds, elem}
use Rattle.machine.specs.State.{Desc, Undo, State, entry_of, session_of, desc_of, with_free, on_tree, on_desc, group_desc, on_session, add_undo}
use Rattle.machine.specs.View.{seen, group_in, log_entry, items, holders, Same, same-items, same-holders, frame-holders, entry-same, entry-holders, frame-items}
use Rattle.machine.specs.Model.{model, model_good, model_is, Listed, items-set, Up}
use Rattle.machine.specs.Bits.{held_same}
use Rattle.machine.specs.Table.{undo-put, undo-other, session-kept, with_undo}
use Rattle.machine.specs.Keys.{Kept, put-update, put-group, put-group-other, was-group, listed_at, put-words}
use Rattle.machine.specs.Entries.{Fit}
use Rattle.machine.specs.Changes.{hold_update, held_state, up-group, held-rises, held-listed, Follows}

-- The group changed with the lock.
module _ (p k : ℕ) (s : State) (K : Kept k s) (F : Fit s) (M : List ℕ → List ℕ) where
  abbrev g : Desc → Desc
  g d = group_desc M (hold_update p d)

  abbrev pub changed : State
  changed = on_desc k g s

  abbrev pub held : State
  held = held_state p k s K

  pub changed-holders : (l : Kind) (n : Mode) (q z : ℕ) → holders changed l n q z ≡ holders held l n q z
  unfolding on_tree
  changed-holders = frame-holders held changed refl (put-words k s K g (hold_update p) refl)

  pub changed-here : group_in k (seen changed) ≡ M (group_in k (seen held))
  changed-here = put-group k s K g refl ∙ ap M (sym (put-group k s K (hold_update p) refl))

  pub changed-there : (j : ℕ) → ¬ (k ≡ j) → group_in j (seen changed) ≡ group_in j (seen held)
  changed-there j n = put-group-other k s K g refl j n ∙ sym (put-group-other k s K (hold_update p) refl j n)

  pub changed-value : (z : ℕ) → (entry_of z changed).value ≡ (entry_of z held).value
  unfolding on_tree
  changed-value z = ap (λ x. x.value) (entry-same held changed refl z)

  pub held_up : Up 1 (group_in k (seen held))
  held_up = subst (Up 1) (sym (up-group p k s K k ∙ was-group k s K)) (listed_at K.d K.A K.B (subst Listed K.was F.listed))

-- ---- what the model does, where request q sets the membership of e under k to b

module _ (k e : ℕ) (t : State) (q : Req) (b : Bool) (here : get (eff q (model t)) (R.cell k e) ≡ cond b 1 0) (there : (x : Item) → ¬ (x ≡ R.cell k e) → get (eff q (model t)) x ≡ items t x) where
  at-cell : (x : Item) → R.cell k e ≡ x → get (eff q (model t)) x ≡ cond b 1 0
  at-cell x w = subst (λ y. get (eff q (model t)) y ≡ cond b 1 0) w here

  -- It was so.
  pub set-none : elem e (group_in k (seen t)) ≡ b → (x : Item) → get (eff q (model t)) x ≡ items t x
  set-none h x = at (Item-discrete ℕ_discrete (R.cell k e) x)
    where
      at : Dec (R.cell k e ≡ x) → get (eff q (model t)) x ≡ items t x
      at (yes w) = at-cell x w ∙ subst (λ y. cond b 1 0 ≡ items t y) w (sym (ap (λ c. cond c 1 0) h))
      at (no n) = there x (λ w. n (sym w))

  -- It becomes so in u.
  pub set-one : (u : State) → ((z : ℕ) → (entry_of z u).value ≡ (entry_of z t).value) → elem e (group_in k (seen u)) ≡ b
      → ((x : ℕ) → ¬ (x ≡ e) → elem x (group_in k (seen u)) ≡ elem x (group_in k (seen t))) → ((j : ℕ) → ¬ (k ≡ j) → group_in j (seen u) ≡ group_in j (seen t))
      → (x : Item) → items u x ≡ get (eff q (model t)) x
  set-one u v i o w x = at (Item-discrete ℕ_discrete (R.cell k e) x)
    where
      at : Dec (R.cell k e ≡ x) → items u x ≡ get (eff q (model t)) x
      at (yes y) = items-set k e b t u v i o w x (yes y) ∙ sym (at-cell x y)
      at (no n) = items-set k e b t u v i o w x (no n) ∙ sym (there x (λ y. n (sym y)))

-- Whether e is a member, as the model counts.
pub by-member : (k e : ℕ) (t : State) → ((x : Item) → get (model t) x ≡ items t x) → {A : Type 0} (b : Bool) → elem e (group_in k (seen t)) ≡ b → (x y : A)
    → pick (ℕ_discrete (has by_key (k, e) (model t).members) 0) x y ≡ cond b y x
by-member k e t is true h x y = pick_no (ℕ_discrete (has by_key (k, e) (model t).members) 0) x y
    (λ z. let q : has by_key (k, e) (model t).members ≡ 1 = is (R.cell k e) ∙ ap (λ b. cond b 1 0) h in omega (arith, z, q))
by-member k e t is false h x y = pick_yes (ℕ_discrete (has by_key (k, e) (model t).members) 0) x y (is (R.cell k e) ∙ ap (λ b. cond b 1 0) h)

-- ---- the step

module _ (n k e : ℕ) (s : State) (F : Fit s) (K : Kept k s) (b : (session_of (suc n) s).begun ≡ true) (le : suc n ≤ width) (x : holders s L.entry strong (suc n) e ≡ true) where
  abbrev pub p : ℕ
  p = suc n

  abbrev pub ht : State
  ht = held_state p k s K

  ht-entry : (q z : ℕ) → holders ht L.entry strong q z ≡ holders s L.entry strong q z
  unfolding on_tree
  ht-entry = entry-holders s ht refl strong

  pub ht-needs : (holders ht L.group strong p k ≡ true) × (holders ht L.entry strong p e ≡ true)
  ht-needs = (ap (λ w. holds w p) (put-update k s K (hold_update p) refl) ∙ held_same n K.d.update, ht-entry p e ∙ x)

  pub ht-begun : (session_of p ht).begun ≡ true
  unfolding on_tree session_of
  ht-begun = b

  pub ht-elem : elem e (group_in k (seen ht)) ≡ elem e (desc_of k s).members
  ht-elem = ap (elem e) (up-group p k s K k ∙ was-group k s K ∙ ap (λ d. d.members) (sym K.desc))

  pub ht-good : Good (model ht)
  ht-good = model_good 0 4294967296 ht (held-rises p k s K F) (held-listed p k s K F)

  pub ht-is : (y : Item) → get (model ht) y ≡ items ht y
  ht-is = model_is 0 4294967296 ht (held-rises p k s K F)

  -- Nothing more than the lock.
  pub none-follows : (q : Req) (u : State) → Same ht u → Needs (holders ht) p q → ((y : Item) → get (eff q (model ht)) y ≡ items ht y) → undo_of q (model ht) ≡ [] → Follows p k s K F q u
  none-follows q u h nd ch bk = record {
    needs = nd;
    change = λ y. same-items ht u h y ∙ sym (ch y);
    log_now = ap (map log_entry) (h.undos_same p) ∙ sym (ap (λ l. l ++ map log_entry (session_of p ht).undos) bk);
    log_others = λ t ne. h.undos_same t;
    holders_same = same-holders ht u h;
    begun_same = h.begun_same;
  }

  -- The group changed, and an undo record.
  abbrev pub cu : (List ℕ → List ℕ) → Undo → ℕ → State
  cu M w f = add_undo p w (with_free f (changed p k s K F M))

  pub one_follows : (q : Req) (M : List ℕ → List ℕ) (w : Undo) (f : ℕ) (u : State) → Same (cu M w f) u → Needs (holders ht) p q
      → ((y : Item) → items (changed p k s K F M) y ≡ get (eff q (model ht)) y) → undo_of q (model ht) ≡ log_entry w ∷ [] → Follows p k s K F q u
  unfolding add_undo on_session on_tree session_of
  one_follows q M w f u h nd ch bk = record {
    needs = nd;
    change = λ y. same-items (cu M w f) u h y ∙ frame-items (changed p k s K F M) (cu M w f) refl refl y ∙ ch y;
    log_now = ap (map log_entry) (h.undos_same p ∙ ap (λ x. x.undos) (undo-put p w (with_free f (changed p k s K F M)) (let z = F.seats in omega arith))) ∙ sym (ap (λ l. l ++ map log_entry (session_of p ht).undos) bk);
    log_others = λ t ne. h.undos_same t ∙ ap (λ x. x.undos) (undo-other p t w (with_free f (changed p k s K F M)) ne);
    holders_same = λ l m t z. same-holders (cu M w f) u h l m t z ∙ frame-holders (changed p k s K F M) (cu M w f) refl refl l m t z ∙ changed-holders p k s K F M l m t z;
    begun_same = λ t. h.begun_same t ∙ session-kept (λ x. x.begun) p (with_undo w) (with_free f (changed p k s K F M)) (λ x. refl) t;
  }

  -- The model's change of another item, and its answer.
  pub ht-frame : (q : Req) → ((y : Item) → ¬ (y ≡ R.cell k e) → get (eff q (model ht)) y ≡ get (model ht) y) → (y : Item) → ¬ (y ≡ R.cell k e) → get (eff q (model ht)) y ≡ items ht y
  ht-frame q f y ne = f y ne ∙ ht-is y

  pub ht-count : (o : Bool) → elem e (desc_of k s).members ≡ o → get (model ht) (R.cell k e) ≡ cond o 1 0
  ht-count o h = ht-is (R.cell k e) ∙ ap (λ v. cond v 1 0) (ht-elem ∙ h)

  -- The group of k becomes as M says, and e a member or not by o.
  pub ht-one : (q : Req) (M : List ℕ → List ℕ) (o : Bool) → get (eff q (model ht)) (R.cell k e) ≡ cond o 1 0 → ((y : Item) → ¬ (y ≡ R.cell k e) → get (eff q (model ht)) y ≡ get (model ht) y)
      → elem e (M (group_in k (seen ht))) ≡ o → ((y : ℕ) → ¬ (y ≡ e) → elem y (M (group_in k (seen ht))) ≡ elem y (group_in k (seen ht)))
      → (y : Item) → items (changed p k s K F M) y ≡ get (eff q (model ht)) y
  ht-one q M o here f i j = set-one k e ht q o here (ht-frame q f) (changed p k s K F M) (changed-value p k s K F M) (ap (elem e) (changed-here p k s K F M) ∙ i)
      (λ y ne. ap (elem y) (changed-here p k s K F M) ∙ j y ne) (changed-there p k s K F M)
