-- Terms over the variables of a candidate: those of the goal, and behind them its own.
use Rattle.std.proofs.Common.{◌≡◌, ℕ, zero, suc, ◌+◌, true, false, ◌||◌, List, Option, Some, None, refl, sym, ◌∙◌, ap}
use Rattle.std.specs.Prelude.{IfSome}
use Rattle.std.specs.List.{slice_get}
use Rattle.type_terms.specs.Promised.Label.{Label, Sort, of_type, of_const, of_lifetime, infer, param, placeholder, canonical, bound, fn_ptr, principal, dynamic, inside, shift_label, bool, char}
use Rattle.type_terms.specs.Promised.Trees.{Trees, none, tree, ◌+++◌, erase_label, shift, nth, instantiate, some_node}
use Rattle.type_terms.specs.Promised.Worlds.{Reference}
use Rattle.type_terms.specs.Made.{terms, is_leaf_label, is_made}
use Rattle.type_terms.proofs.Made.{false-true, left}
use Rattle.infer_table.specs.declared.canonical.CanonicalVarKind.{CanonicalVarKind}
use Rattle.goal_evaluator.specs.Lists.{Every}
use Rattle.goal_evaluator.specs.FrameTables.{Equation}
use Rattle.goal_evaluator.specs.Instances.{put_in}
use Rattle.goal_evaluator.proofs.Labels.{IsGoodLabel, made-labels}
use Rattle.goal_evaluator.proofs.Reading.{EachLabel}
use Rattle.goal_evaluator.specs.Fitting.{is_of_sort, is_slot, AreOver}
use Rattle.goal_evaluator.specs.Variables.{is_variable_over}
use Rattle.goal_evaluator.proofs.Readings.{HasLeaves, made-leaves}
use Rattle.goal_frames.specs.RuleFitting.{slots_of}
use Rattle.candidate_model.specs.Asking.{with_plain_head, next_of}
use Rattle.candidate_model.specs.Candidates.{all_equal, moved, is_this_param, last_of, lifetime_of, outlives, unsizing_outlives}
use Rattle.candidate_model.specs.Declared.{is_declared_leaf, are_terms}
use Rattle.candidate_model.specs.Facts.{tree_of_reference}
use Rattle.candidate_model.proofs.Headers.{child-some, next-some}
use Rattle.goal_frames.proofs.RuleFitting.{goal-slots, over-labels}
use Rattle.candidate_assembly.proofs.WellDeclared.{itself}

-- ---- the goal's terms
pub goal-over : (kinds own : List CanonicalVarKind) (t : Trees) → is_made (is_variable_over kinds) terms t ≡ true → AreOver (slots_of kinds own) t
goal-over kinds own t h = over-labels kinds (slots_of kinds own) (goal-slots kinds own) t (made-labels (is_variable_over kinds) terms t h) (made-leaves (is_variable_over kinds) terms t h)

-- ---- what is declared
-- of open places but bound ones only parameters stand in it, and nothing below a leaf
abbrev pub ArePlain : Trees → Type 0
ArePlain t = EachLabel (IsGoodLabel is_declared_leaf) t × HasLeaves t

pub declared-plain : (t : Trees) → are_terms t ≡ true → ArePlain t
declared-plain t h = let made = left (is_made is_declared_leaf terms t) _ h in (made-labels is_declared_leaf terms t made, made-leaves is_declared_leaf terms t made)

module _ (ls : List Label) where
  pub over-head : (l : Label) (c o : Trees) → AreOver ls (tree l c o) → AreOver ls (tree l c none)
  over-head l c o h = (h.0, h.1, h.2, tt)

  pub over-append : (s t : Trees) → AreOver ls s → AreOver ls t → AreOver ls (s +++ t)
  over-append none t h g = g
  over-append (tree l c o) t h g = (h.0, h.1, h.2, over-append o t h.3 g)

  over-nth : (t : Trees) (i : ℕ) → AreOver ls t → AreOver ls (nth t i)
  over-nth none i h = (refl, λ e. absurd (false-true e), tt, tt)
  over-nth (tree l c o) zero h = over-head l c o h
  over-nth (tree l c o) (suc i) h = over-nth o i h.3

  shift-slot : (d a : ℕ) (l : Label) → is_slot ls (shift_label d a l) ≡ is_slot ls l
  shift-slot d a (bound s k v) = refl
  shift-slot d a l = refl

  shift-leaf : (d a : ℕ) (l : Label) → is_leaf_label (shift_label d a l) ≡ is_leaf_label l
  shift-leaf d a (bound s k v) = refl
  shift-leaf d a l = refl

  over-shift : (d a : ℕ) (t : Trees) → AreOver ls t → AreOver ls (shift d a t)
  over-shift d a none h = tt
  over-shift d a (tree l c o) h = (shift-slot d a l ∙ h.0, λ e. ap (shift (inside l d) a) (h.1 (sym (shift-leaf d a l) ∙ e)), over-shift (inside l d) a c h.2, over-shift d a o h.3)

  -- with arguments in the place of parameters
  over-put : (A : Trees) → AreOver ls A → (d : ℕ) (t : Trees) → EachLabel (IsGoodLabel is_declared_leaf) t → HasLeaves t → AreOver ls (instantiate d A t)
  over-put A h d none e g = tt
  over-put A h d (tree (param s i) c o) e g = over-append (shift zero d (nth A i)) (instantiate d A o) (over-shift zero d (nth A i) (over-nth A i h)) (over-put A h d o e.2 g.2)
  over-put A h d (tree (infer k v) c o) e g = absurd (false-true (e.0 refl))
  over-put A h d (tree (placeholder k v) c o) e g = absurd (false-true (e.0 refl))
  over-put A h d (tree (canonical k v) c o) e g = absurd (false-true (e.0 refl))
  over-put A h d (tree l c o) e g = (refl, λ x. ap (instantiate (inside l d) A) (g.0 x), over-put A h (inside l d) c e.1 g.1, over-put A h d o e.2 g.2)

  pub over-instance : (A t : Trees) → AreOver ls A → ArePlain t → AreOver ls (instantiate zero A t)
  over-instance A t h p = over-put A h zero t p.0 p.1

  -- with variables in the place of parameters, each of its parameter's sort
  over-moved : (n : ℕ) (t : Trees) → ((s : Sort) (j : ℕ) → some_node (is_this_param s j) t ≡ true → is_of_sort s (slice_get ls (n + j)) ≡ true) → EachLabel (IsGoodLabel is_declared_leaf) t → HasLeaves t → AreOver ls (put_in (moved n) t)
  over-moved n none f e g = tt
  over-moved n (tree (param s i) c o) f e g = (f s i (ap (λ b. b || some_node (is_this_param s i) c || some_node (is_this_param s i) o) (itself s i)), λ x. refl, tt, over-moved n o (λ r j h. f r j (next-some (is_this_param r j) (param s i) c o h)) e.2 g.2)
  over-moved n (tree (infer k v) c o) f e g = absurd (false-true (e.0 refl))
  over-moved n (tree (placeholder k v) c o) f e g = absurd (false-true (e.0 refl))
  over-moved n (tree (canonical k v) c o) f e g = absurd (false-true (e.0 refl))
  over-moved n (tree l c o) f e g =
      (refl, λ x. ap (put_in (moved n)) (g.0 x), over-moved n c (λ r j h. f r j (child-some (is_this_param r j) l c o h)) e.1 g.1, over-moved n o (λ r j h. f r j (next-some (is_this_param r j) l c o h)) e.2 g.2)

  pub over-behind : (n : ℕ) (t : Trees) → ((s : Sort) (j : ℕ) → some_node (is_this_param s j) t ≡ true → is_of_sort s (slice_get ls (n + j)) ≡ true) → ArePlain t → AreOver ls (put_in (moved n) t)
  over-behind n t f p = over-moved n t f p.0 p.1

  -- up to lifetimes
  erased-slot : (l : Label) → is_slot ls l ≡ true → is_slot ls (erase_label l) ≡ true
  erased-slot (fn_ptr n) h = refl
  erased-slot (principal n i) h = refl
  erased-slot (param of_lifetime i) h = refl
  erased-slot (placeholder of_lifetime i) h = refl
  erased-slot (infer of_lifetime i) h = refl
  erased-slot (canonical of_lifetime i) h = refl
  erased-slot (bound of_lifetime k i) h = refl
  erased-slot (param of_type i) h = h
  erased-slot (param of_const i) h = h
  erased-slot (placeholder of_type i) h = h
  erased-slot (placeholder of_const i) h = h
  erased-slot (infer of_type i) h = h
  erased-slot (infer of_const i) h = h
  erased-slot (canonical of_type i) h = h
  erased-slot (canonical of_const i) h = h
  erased-slot (bound of_type k i) h = h
  erased-slot (bound of_const k i) h = h
  erased-slot l h = h

  erased-leaf : (l : Label) → is_leaf_label (erase_label l) ≡ is_leaf_label l
  erased-leaf (fn_ptr n) = refl
  erased-leaf (principal n i) = refl
  erased-leaf (param of_lifetime i) = refl
  erased-leaf (placeholder of_lifetime i) = refl
  erased-leaf (infer of_lifetime i) = refl
  erased-leaf (canonical of_lifetime i) = refl
  erased-leaf (bound of_lifetime k i) = refl
  erased-leaf (param of_type i) = refl
  erased-leaf (param of_const i) = refl
  erased-leaf (placeholder of_type i) = refl
  erased-leaf (placeholder of_const i) = refl
  erased-leaf (infer of_type i) = refl
  erased-leaf (infer of_const i) = refl
  erased-leaf (canonical of_type i) = refl
  erased-leaf (canonical of_const i) = refl
  erased-leaf (bound of_type k i) = refl
  erased-leaf (bound of_const k i) = refl
  erased-leaf l = refl

  pub over-plain-head : (t : Trees) → AreOver ls t → AreOver ls (with_plain_head t)
  over-plain-head none h = tt
  over-plain-head (tree l c o) h = (erased-slot l h.0, λ e. h.1 (sym (erased-leaf l) ∙ e), h.2, h.3)

  -- ---- what is recorded of lifetimes
  over-last : (t : Trees) → AreOver ls t → AreOver ls (last_of t)
  over-last none h = tt
  over-last (tree l c none) h = h
  over-last (tree l c (tree m d o)) h = over-last (tree m d o) h.3

  over-lifetime : (t : Trees) → AreOver ls t → IfSome (lifetime_of t) (AreOver ls)
  over-lifetime none h = tt
  over-lifetime (tree dynamic b o) h = over-last b h.2
  over-lifetime (tree l c o) h = tt

  over-next : (t : Trees) → AreOver ls t → AreOver ls (next_of t)
  over-next none h = tt
  over-next (tree l c o) h = h.3

  over-outlives : (t : Trees) (a b : Option Trees) → AreOver ls t → IfSome a (AreOver ls) → IfSome b (AreOver ls) → AreOver ls (outlives t a b)
  over-outlives t None None h f g = tt
  over-outlives t (Some a) None h f g = tt
  over-outlives t (Some a) (Some b) h f g = (refl, λ e. absurd (false-true e), over-append a b f g, tt)
  over-outlives t None (Some b) h f g = (refl, λ e. absurd (false-true e), over-append t b h g, tt)

  pub over-unsizing : (t : Trees) → AreOver ls t → AreOver ls (unsizing_outlives t)
  over-unsizing t h = over-outlives (nth t 0) (lifetime_of t) (lifetime_of (next_of t)) (over-nth t 0 h) (over-lifetime t h) (over-lifetime (next_of t) (over-next t h))

  -- ---- equations and references
  abbrev pub AreOverSides : List Equation → Type 0
  AreOverSides es = Every (λ (e : Equation). AreOver ls e.left.trees × AreOver ls e.right.trees) es

  single : (l : Label) (x : is_slot ls l ≡ true) → (is_leaf_label l ≡ false) → AreOver ls (tree l none none)
  single l x y = (x, λ e. refl, tt, tt)

  pub over-equal : (x y : Trees) → AreOver ls x → AreOver ls y → AreOverSides (all_equal x y)
  over-equal none none h g = tt
  over-equal none (tree m d p) h g = ((single bool refl refl, single char refl refl), tt)
  over-equal (tree l c o) none h g = ((single bool refl refl, single char refl refl), tt)
  over-equal (tree l c o) (tree m d p) h g = ((over-head l c o h, over-head m d p g), over-equal o p h.3 g.3)

  pub over-reference : (r : Reference) → AreOver ls r.args → AreOver ls (tree_of_reference r none)
  over-reference r h = (refl, λ e. absurd (false-true e), h, tt)
