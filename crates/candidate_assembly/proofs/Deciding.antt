-- When a goal is decided.
use Rattle.std.proofs.Common.{◌≡◌, refl, sym, ap, ◌∙◌, Bool, true, false, ◌&&◌, ◌||◌, not, List, [], ◌∷◌, map, Some, None, if◌then◌else◌}
use Rattle.std.specs.Prelude.{◌==◌}
use Rattle.type_terms.specs.Promised.Trees.{Trees}
use Rattle.type_terms.specs.Promised.Worlds.{World, Reference}
use Rattle.type_terms.specs.Promised.Rules.{unsize}
use Rattle.type_terms.specs.Promised.Answers.{written_in}
use Rattle.type_terms.specs.Promised.Handles.{Entry, trees_at}
use Rattle.type_terms.specs.Made.{terms, is_made}
use Rattle.type_terms.proofs.Made.{left, right, both}
use Rattle.infer_table.specs.Canonical.{CanonicalForm}
use Rattle.infer_table.specs.declared.canonical.CanonicalVarKind.{CanonicalVarKind}
use Rattle.infer_table.specs.declared.input.CanonicalInput.{CanonicalInput}
use Rattle.infer_table.specs.Goals.{environment_trees, predicate_trees}
use Rattle.infer_table.specs.Inputs.{form_of}
use Rattle.goal_evaluator.specs.Variables.{is_variable_over}
use Rattle.declarations.specs.Items.{Items, reference_in, written}
use Rattle.candidate_model.specs.Asking.{GoalOverKinds, goal_over_kinds, asked_if, asked_with, all_known, with_first, are_clauses, begins_with_type, begins_unknown, next_of, self_of}
use Rattle.candidate_model.specs.DeclaredWell.{is_declared_well}
use Rattle.candidate_model.specs.Lifetimes.{gives_lifetimes, given_by, form_gives_lifetimes}
use Rattle.candidate_model.proofs.DeclaredWell.{tests-tell}
use Rattle.built_in_candidates.specs.Goals.{asked_of}
use Rattle.structural_traits.specs.Constituents.{HaveFields}
use Rattle.candidate_assembly.specs.Fitting.{reference_fits, fits_declared, solving_of, GoalFits}
use Rattle.candidate_assembly.specs.Sections.{decided}
use Rattle.candidate_assembly.specs.Solving.{meaning_for}
use Rattle.candidate_assembly.proofs.Fitting.{goal-fits}
use Rattle.candidate_assembly.proofs.GivenLifetimes.{first-given, target-given}

all-known : (ks : List CanonicalVarKind) → all_known (map Some ks) ≡ Some ks
all-known [] = refl
all-known (k ∷ ks) = ap (with_first (Some k)) (all-known ks)

unless : (b x : Bool) → (b ≡ true → x ≡ true) → (not b || x) ≡ true
unless true x f = f refl
unless false x f = refl

otherwise : (r : Bool) (a : GoalOverKinds) → (if r then None else Some a) ≡ (if not r then Some a else None)
otherwise true a = refl
otherwise false a = refl

module _ (es : List Entry) (d : Items) (g : CanonicalInput) where
  abbrev V : World
  V = written es d

  abbrev f : CanonicalForm
  f = form_of es g

  abbrev a : GoalOverKinds
  a = asked_of es g

  abbrev own : Reference
  own = reference_in es g.goal.predicate.trait_ref

  abbrev T : Trees
  T = trees_at es g.goal.predicate.trait_ref.args.0

  abbrev types : Bool
  types = begins_with_type T && (not (own.trait == unsize) || begins_with_type (next_of T))

  abbrev clauses : Bool
  clauses = are_clauses g.variables.items (environment_trees es g.goal.param_env.items)

  abbrev pub tests : Bool
  tests = written_in V own && (is_made (is_variable_over g.variables.items) terms T && (types && clauses))

  abbrev over : Bool
  over = is_made (is_variable_over g.variables.items) terms T

  pub not-over : written_in V own ≡ true → over ≡ false → false ≡ tests
  not-over e h = sym (ap (λ z. z && (over && (types && clauses))) e ∙ ap (λ z. z && (types && clauses)) h)

  pub all-over : written_in V own ≡ true → over ≡ true → types ≡ true → (r : Bool) → r ≡ clauses → r ≡ tests
  all-over e h k r q = q ∙ sym (ap (λ z. z && (over && (types && clauses))) e ∙ ap (λ z. z && (types && clauses)) h ∙ ap (λ z. z && clauses) k)

  pub asked-tests : goal_over_kinds V f ≡ asked_if tests a
  asked-tests = ap (asked_with V (environment_trees es g.goal.param_env.items) (predicate_trees es g.goal.predicate)) (all-known g.variables.items)

  asked-if : (b : Bool) → asked_if b a ≡ (if b then Some a else None)
  asked-if true = refl
  asked-if false = refl

  -- what the four tests answer
  pub asked-by : (r : Bool) → r ≡ tests → goal_over_kinds V f ≡ (if r then Some a else None)
  asked-by r e = asked-tests ∙ asked-if tests ∙ ap (λ b. if b then Some a else None) (sym e)

  pub tests-hold : goal_over_kinds V f ≡ Some a → tests ≡ true
  tests-hold e = by tests (sym asked-tests ∙ e)
    where
      by : (b : Bool) → asked_if b a ≡ Some a → b ≡ true
      by true e = refl
      by false e = absurd cc

  -- what the candidates ask of it holds
  pub decided-fits : goal_over_kinds V f ≡ Some a → reference_fits d own ≡ true → GoalFits es d g
  decided-fits e fits =
      let h = tests-hold e in
      goal-fits es d g (left (written_in V own) _ h) (left types clauses (right (is_made (is_variable_over g.variables.items) terms T) _ (right (written_in V own) _ h))) fits

  -- and its structs are given the lifetimes that their fields name
  gives-lifetimes : goal_over_kinds V f ≡ Some a → HaveFields es d → is_declared_well V ≡ true → GoalFits es d g → form_gives_lifetimes V f ≡ true
  gives-lifetimes e fields well fits =
      let made = left over _ (right (written_in V own) _ (tests-hold e)) in
      let good = is_variable_over g.variables.items in
      ap (given_by V) e
      ∙ both (gives_lifetimes V (self_of a)) _ (first-given es d fields (tests-tell V well) good T made fits.struct)
      (unless (own.trait == unsize) (gives_lifetimes V (next_of (self_of a))) (λ u. target-given es d fields (tests-tell V well) good T made (fits.unsizing u).applied))

  -- so it is decided, if its self type is no unknown
  pub decided-is : goal_over_kinds V f ≡ Some a → HaveFields es d → is_declared_well V ≡ true → reference_fits d own ≡ true → (r : Bool) → r ≡ begins_unknown a.kinds (self_of a)
      → decided (meaning_for (solving_of es d) f) (goal_over_kinds V f) ≡ (if not r then Some a else None)
  decided-is e fields well fits r u =
      let gives = gives-lifetimes e fields well (decided-fits e fits) in
      ap (decided (meaning_for (solving_of es d) f)) e
      ∙ ap (λ b. if not b || begins_unknown a.kinds (self_of a) then None else Some a) (both (is_declared_well V) _ well (both (fits_declared d f) _ fits gives))
      ∙ ap (λ b. if b then None else Some a) (sym u) ∙ otherwise r a
