-- A call of a fn pointer is a sound candidate, where its arguments are equated with the tuple of the inputs.
use Rattle.std.proofs.Common.{◌≡◌, zero, Bool, true, false, not, ◌&&◌, ◌||◌, if◌then◌else◌, [], ◌++◌, map, ◌⊎◌, inl, inr, refl, sym, ◌∙◌, ap, subst, Some}
use Rattle.type_terms.specs.Promised.Label.{Label, of_type, tuple, dynamic, fn_ptr, auto_trait, principal, param, placeholder, infer, canonical, bound, predicate}
use Rattle.type_terms.specs.Promised.Trees.{Trees, none, tree, ◌+++◌, erase_label, is_sort}
use Rattle.type_terms.specs.Trees.{is_no_tree}
use Rattle.type_terms.specs.Promised.Worlds.{World}
use Rattle.type_terms.specs.Promised.Rules.{Rule, Way, built_in, row, fn_ptr_call, built_in_rules, is_fn_trait, call_rules, but_last, last_asked, sized}
use Rattle.type_terms.specs.Promised.Proofs.{In}
use Rattle.type_terms.proofs.Members.{here}
use Rattle.type_terms.proofs.Fitting.{child-shut}
use Rattle.type_terms.proofs.Walking.{left, right}
use Rattle.type_terms.specs.Made.{terms}
use Rattle.type_terms.specs.Made.{bounds}
use Rattle.type_terms.specs.Made.{is_leaf_label, is_made}
use Rattle.infer_table.specs.Canonical.{CanonicalForm}
use Rattle.goal_evaluator.specs.Lists.{Every}
use Rattle.goal_evaluator.specs.Instances.{read_with}
use Rattle.goal_evaluator.specs.Content.{given, ChosenTerms}
use Rattle.goal_evaluator.specs.FrameTables.{EquationIsMet, is_open_label}
use Rattle.goal_evaluator.proofs.Labels.{made-more}
use Rattle.candidate_model.specs.Facts.{is_unerased}
use Rattle.candidate_model.specs.Meaning.{ViewMeaning}
use Rattle.candidate_model.specs.Declared.{is_declared_view}
use Rattle.candidate_model.specs.Asking.{GoalOverKinds, goal_over_kinds, is_rigid, self_of, with_plain_head}
use Rattle.goal_evaluator.specs.Variables.{is_variable_over}
use Rattle.candidate_model.specs.Candidates.{all_equal, misc, if_so, call_of, by_sized, by_copy, by_auto, by_tuple, by_fn_ptr, by_call}
use Rattle.candidate_model.specs.Cover.{read_reference}
use Rattle.candidate_model.specs.Lawful.{IsSoundFor, row_candidates, RowsAreSound}
use Rattle.candidate_model.proofs.Facts.{same-self}
use Rattle.candidate_model.proofs.Reading.{Begins, begins, read-last-asked}
use Rattle.candidate_model.proofs.ByView.{rigid-read}
use Rattle.candidate_model.proofs.Calls.{but-last-read}
use Rattle.candidate_model.proofs.Moving.{met-reads, and-true as both}
use Rattle.candidate_model.proofs.PlainRules.{Plain, IsPlainReference, plain-last}
use Rattle.candidate_model.proofs.SoundRows.{Unknown, Rigid, unknown-or-rigid, Held, IsPlainAt, is, rule-sound, plain-back, in-calls, each-row-sound}
use Rattle.type_terms.proofs.BooleanBasics.{true-false}
use Rattle.goal_evaluator.proofs.Basics.{every-append}

-- ---- made terms before others
other-rest : (g r m n p : Bool) → g && (r && (m && n)) ≡ true → p ≡ true → g && (r && (m && p)) ≡ true
other-rest true true true n p e f = f
other-rest true true false n p e f = absurd (true-false (sym e))
other-rest true false m n p e f = absurd (true-false (sym e))
other-rest false r m n p e f = absurd (true-false (sym e))

pub first-before : (good : Label → Bool) (l : Label) (c o p : Trees) → is_made good terms (tree l c o) ≡ true → is_made good terms p ≡ true → is_made good terms (tree l c p) ≡ true
first-before good dynamic c o p m e = other-rest true true (is_made good bounds c) (is_made good terms o) (is_made good terms p) m e
first-before good (principal n i) c o p m e = absurd (true-false (sym m))
first-before good (auto_trait i) c o p m e = absurd (true-false (sym m))
first-before good (predicate k) c o p m e = absurd (true-false (sym m))
first-before good l c o p m e = other-rest (good l) (not (is_leaf_label l) || is_no_tree c) (is_made good terms c) (is_made good terms o) (is_made good terms p) m e

last-part : (g r m n : Bool) → g && (r && (m && n)) ≡ true → n ≡ true
last-part g r m n e = right m n (right r (m && n) (right g (r && (m && n)) e))

pub made-rest : (good : Label → Bool) (l : Label) (c o : Trees) → is_made good terms (tree l c o) ≡ true → is_made good terms o ≡ true
made-rest good dynamic c o m = right (is_made good bounds c) (is_made good terms o) m
made-rest good (principal n i) c o m = absurd (true-false (sym m))
made-rest good (auto_trait i) c o m = absurd (true-false (sym m))
made-rest good (predicate k) c o m = absurd (true-false (sym m))
made-rest good l c o m = last-part (good l) (not (is_leaf_label l) || is_no_tree c) (is_made good terms c) (is_made good terms o) m

pub made-but-last : (good : Label → Bool) (t : Trees) → is_made good terms t ≡ true → is_made good terms (but_last t) ≡ true
made-but-last good none m = refl
made-but-last good (tree l c none) m = refl
made-but-last good (tree l c (tree k d o)) m = first-before good l c (tree k d o) (but_last (tree k d o)) m (made-but-last good (tree k d o) (made-rest good l c (tree k d o) m))

-- ---- the rule of a call
call-rule : (b : Bool) → b ≡ true → (c o args : Trees) → args ≡ tree (fn_ptr zero) c (tree tuple (but_last c) o) → In (record { way = built_in fn_ptr_call; premises = last_asked sized c }) (if b then call_rules args else [])
call-rule true q c o args e =
    subst (λ z. In u (call_rules z)) (sym e) (subst (λ (b : Bool). In u (if b then row fn_ptr_call (last_asked sized c) else [])) (sym (same-self (but_last c))) (here u []))
  where
    u : Rule
    u = record { way = built_in fn_ptr_call; premises = last_asked sized c }
call-rule false q c o args e = absurd (true-false (sym q))

module _ (m : ViewMeaning) (declared : is_declared_view m.view ≡ true) (f : CanonicalForm) (a : GoalOverKinds) (is_asked : goal_over_kinds m.view f ≡ Some a) where
  abbrev V : World
  V = m.view

  abbrev Read : ChosenTerms → Trees → Trees
  Read s t = read_with (given s.slots) t

  -- the goal's arguments are terms over variables of frames
  pub open-made : is_made is_open_label terms a.reference.args ≡ true
  open-made = made-more (is_variable_over a.kinds) is_open_label by terms a.reference.args (is m declared f a is_asked).over
    where
      by : (l : Label) → is_variable_over a.kinds l ≡ true → is_open_label l ≡ true
      by (infer k v) g = absurd (true-false (sym g))
      by (param k v) g = absurd (true-false (sym g))
      by (placeholder k v) g = absurd (true-false (sym g))
      by l g = refl

  module _ (is_call : is_fn_trait a.reference.trait ≡ true) where
    at-call : (c : Trees) (k : Label) (d p : Trees) → is_made is_open_label terms c ≡ true → is_made is_open_label terms (tree k d none) ≡ true → ((s : ChosenTerms) → Read s a.reference.args ≡ tree (fn_ptr zero) (Read s c) (Read s (tree k d p)))
        → (s : ChosenTerms) → Held m declared f a is_asked s → Every (λ e. EquationIsMet e s) (all_equal (tree tuple (but_last c) none) (tree k d none))
        → (w : Way) × In (record { way = w; premises = map (read_reference s.slots) (last_asked sized c) }) (built_in_rules V (read_reference s.slots a.reference)) × Every (IsPlainAt m declared f a is_asked s) (last_asked sized c)
    at-call c k d p inputs tuple_made read-is s h e = (
      built_in fn_ptr_call,
      in-calls m declared f a is_asked s (record { way = built_in fn_ptr_call; premises = map (read_reference s.slots) (last_asked sized c) })
          (subst (λ ps. In (record { way = built_in fn_ptr_call; premises = ps }) (if is_fn_trait a.reference.trait then call_rules (Read s a.reference.args) else [])) (read-last-asked s.slots sized c)
          (call-rule (is_fn_trait a.reference.trait) is_call (Read s c) (Read s p) (Read s a.reference.args) args-are)),
      plain-back m declared f a is_asked s (last_asked sized c)
          (subst (Every IsPlainReference) (read-last-asked s.slots sized c)
          (plain-last sized (Read s c) (child-shut is_unerased (fn_ptr zero) (Read s c) (Read s (tree k d p)) (subst Plain (read-is s) h.plain)))),
    )
      where
        b : Begins s.slots k d p
        b = begins s.slots k d p

        inputs-are : tree tuple (but_last (Read s c)) none ≡ tree b.label b.children none
        inputs-are =
            ap (λ z. tree tuple z none) (sym (but-last-read s.slots c))
            ∙ met-reads s.slots (tree tuple (but_last c) none) (tree k d none) (both (is_made is_open_label terms (but_last c)) true (made-but-last is_open_label c inputs) refl) tuple_made e
            ∙ b.alone

        args-are : Read s a.reference.args ≡ tree (fn_ptr zero) (Read s c) (tree tuple (but_last (Read s c)) (Read s p))
        args-are = read-is s ∙ ap (λ z. tree (fn_ptr zero) (Read s c) z) (b.before ∙ ap (λ z. z +++ Read s p) (sym inputs-are))

    calls-at : (l : Label) (c o : Trees) → is_rigid l ≡ true → is_made is_open_label terms (tree l c o) ≡ true → ((s : ChosenTerms) → Read s a.reference.args ≡ tree (erase_label l) (Read s c) (Read s o))
        → Every (IsSoundFor m f a) (call_of V a (tree (erase_label l) c o))
    calls-at (fn_ptr n) c none r g q = tt
    calls-at (fn_ptr n) c (tree k d p) r g q = (
      rule-sound m declared f a is_asked misc (all_equal (tree tuple (but_last c) none) (tree k d none)) (last_asked sized c)
          (at-call c k d p (left (is_made is_open_label terms c) (is_made is_open_label terms (tree k d p)) g) (first-before is_open_label k d p none (right (is_made is_open_label terms c) (is_made is_open_label terms (tree k d p)) g) refl) q),
      tt,
    )
    calls-at (param s i) c o r g q = absurd (true-false (sym (right (is_sort s of_type) false r)))
    calls-at (placeholder s i) c o r g q = absurd (true-false (sym (right (is_sort s of_type) false r)))
    calls-at (infer s i) c o r g q = absurd (true-false (sym (right (is_sort s of_type) false r)))
    calls-at (canonical s i) c o r g q = absurd (true-false (sym (right (is_sort s of_type) false r)))
    calls-at (bound s k i) c o r g q = absurd (true-false (sym (right (is_sort s of_type) false r)))
    calls-at l c o r g q = tt

    of-call : Unknown a.reference.args ⊎ Rigid a.reference.args → Every (IsSoundFor m f a) (call_of V a (self_of a))
    of-call (inl x) = subst (λ t. Every (IsSoundFor m f a) (call_of V a (with_plain_head t))) (sym x.is) tt
    of-call (inr x) =
        subst (λ t. Every (IsSoundFor m f a) (call_of V a (with_plain_head t))) (sym x.is)
        (calls-at x.label x.children x.others x.rigid (subst (λ t. is_made is_open_label terms t ≡ true) x.is open-made) (λ s. ap (Read s) x.is ∙ rigid-read s.slots x.label x.children x.others x.rigid))

  pub call-sound : Every (IsSoundFor m f a) (by_call V a)
  call-sound = by (is_fn_trait a.reference.trait) refl
    where
      by : (b : Bool) → is_fn_trait a.reference.trait ≡ b → Every (IsSoundFor m f a) (if_so b (call_of V a (self_of a)))
      by true q = of-call q (unknown-or-rigid a.reference.args (is m declared f a is_asked).begins)
      by false q = tt

  each-sound : Every (IsSoundFor m f a) (row_candidates m a)
  each-sound = every-append (IsSoundFor m f a) (by_sized V a ++ (by_copy V a ++ (by_auto V a ++ (by_tuple V a ++ by_fn_ptr V a)))) (by_call V a) (each-row-sound m declared f a is_asked) call-sound

pub rows-are-sound : RowsAreSound
rows-are-sound m declared f a e = each-sound m declared f a e
