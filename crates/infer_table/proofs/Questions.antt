-- Canonical goals are equal exactly if their forms are.
use Rattle.std.proofs.Common.{rules, ◌≡◌, ◌↔◌, ℕ, refl, ap, sym, ◌∙◌, List, [], ◌∷◌, map, Option, Some}
use Rattle.std.specs.Bool.{Decides}
use Rattle.std.proofs.lemmas.Slice.Eq.{slice_eq-Decides}
use Rattle.type_terms.specs.Promised.Label.{Label, of_trait, predicate}
use Rattle.type_terms.specs.Promised.Trees.{Trees, none, tree, ◌+++◌, leaf}
use Rattle.type_terms.specs.Trees.{Single}
use Rattle.type_terms.specs.Promised.Handles.{Entry, Has, types, trees_at}
use Rattle.type_terms.specs.Terms.{Lawful, args_lists}
use Rattle.type_terms.specs.Promised.Handles.{region_label}
use Rattle.type_terms.specs.declared.TraitId.{TraitId}
use Rattle.type_terms.specs.declared.region.Region.{Region}
use Rattle.type_terms.specs.declared.kinds.Ty as ty-module
use Rattle.type_terms.specs.declared.kinds.GenericArgs.{GenericArgs}
use Rattle.type_terms.specs.contracts.kinds.GenericArgsPartialEq.TheImpl.{ghosts as args}
use Rattle.type_terms.proofs.Labels.{trait-back, region-back}
use Rattle.type_terms.proofs.Equal.{both, through, trait-eq}
use Rattle.type_terms.proofs.Sorts.{type-single}
use Rattle.term_folds.specs.Clauses.{ClauseHeld}
use Rattle.term_folds.specs.declared.predicate.TraitRef.{TraitRef}
use Rattle.term_folds.specs.declared.predicate.TraitPredicate.{TraitPredicate}
use Rattle.term_folds.specs.declared.predicate.Clause.{Clause}
use Rattle.term_folds.specs.declared.predicate.Clause.TheVariants.{Trait, RegionOutlives, TypeOutlives}
use Rattle.term_folds.specs.contracts.predicate.TraitRefPartialEq.TheImpl.{ghosts as trait-ref}
use Rattle.term_folds.specs.contracts.predicate.TraitPredicatePartialEq.TheImpl.{ghosts as trait-predicate}
use Rattle.term_folds.specs.contracts.predicate.ClausePartialEq.TheImpl.{ghosts as clause}
use Rattle.infer_table.specs.declared.canonical.CanonicalVarKind.{CanonicalVarKind}
use Rattle.infer_table.specs.declared.certainty.TypingMode.{TypingMode}
use Rattle.infer_table.specs.contracts.canonical.CanonicalVarKindPartialEq.TheImpl.{ghosts as kind}
use Rattle.infer_table.specs.contracts.certainty.TypingModePartialEq.TheImpl.{ghosts as mode}
use Rattle.infer_table.specs.Canonical.{GoalTrees, CanonicalForm, AreRenamings, HasNoCanonical}
use Rattle.infer_table.proofs.CanonicalLaws.{canonical_form-renamed, canonical_form-equal}
use Rattle.infer_table.specs.declared.goal.Goal.{Goal}
use Rattle.infer_table.specs.declared.input.CanonicalInput.{CanonicalInput}
use Rattle.infer_table.specs.contracts.goal.GoalPartialEq.TheImpl.{ghosts as goal}
use Rattle.infer_table.specs.contracts.input.CanonicalInputPartialEq.TheImpl.{ghosts as input}
use Rattle.infer_table.specs.Goals.{GoalHeld, ClausesHeld, PredicateHeld, clause_label, clause_terms, environment_trees, predicate_trees}
use Rattle.infer_table.specs.Inputs.{form_of, IsCanonicalInput, AreEqual}
use Rattle.infer_table.proofs.LeafFacts.{region-eq, ty-eq, same-handle}
use Rattle.type_terms.proofs.TypeBasics.{args-eq}
use Rattle.type_terms.proofs.ListBasics.{next}
use Rattle.infer_table.proofs.TypeBasics.{kind-eq}
use Rattle.type_terms.proofs.TermBasics.{tree-parts as node-parts}

-- ---- the derived `==`

reference-cong : (a b : TraitRef) → a.def_id ≡ b.def_id → a.args ≡ b.args → a ≡ b
reference-cong a b p q = two (λ (t : TraitId) (g : GenericArgs). record { def_id = t; args = g }) _ _ _ _ p q
  where
    two : {A B C : Type 0} (f : A → B → C) (x x' : A) (y y' : B) → x ≡ x' → y ≡ y' → f x y ≡ f x' y'
    two f x x' y y' p q = cc

trait-ref-eq : (a b : TraitRef) → Decides (trait-ref.eq a b) (a ≡ b)
trait-ref-eq a b = through _ _ _ (both _ _ _ _ (trait-eq a.def_id b.def_id) (args-eq a.args b.args)) (λ p. reference-cong a b p.0 p.1) (λ e. (ap (λ q. q.def_id) e, ap (λ q. q.args) e))

predicate-eq : (a b : TraitPredicate) → Decides (trait-predicate.eq a b) (a ≡ b)
predicate-eq a b = through _ _ _ (trait-ref-eq a.trait_ref b.trait_ref) (λ p. ap (λ r. record { trait_ref = r }) p) (λ e. ap (λ q. q.trait_ref) e)

clause-eq : (a b : Clause) → Decides (clause.eq a b) (a ≡ b)
clause-eq (Trait p) (Trait q) = through _ _ _ (predicate-eq p q) (λ e. ap Trait e) (λ e. cc)
clause-eq (RegionOutlives a b) (RegionOutlives x y) = through _ _ _ (both _ _ _ _ (region-eq a x) (region-eq b y)) (λ p. cc) (λ e. (cc, cc))
clause-eq (TypeOutlives t r) (TypeOutlives u s) = through _ _ _ (both _ _ _ _ (ty-eq t u) (region-eq r s)) (λ p. cc) (λ e. (cc, cc))
clause-eq _ _ = (λ e. cc, λ e. cc)

mode-eq : (a b : TypingMode) → Decides (mode.eq a b) (a ≡ b)
mode-eq a b = search rules

abbrev SameGoal : Goal → Goal → Type 0
SameGoal a b = (a.param_env.items ≡ b.param_env.items) × (a.predicate ≡ b.predicate)

goal-eq : (a b : Goal) → Decides (goal.eq a b) (SameGoal a b)
goal-eq a b = both _ _ _ _ (slice_eq-Decides clause-eq a.param_env.items b.param_env.items _ refl) (predicate-eq a.predicate b.predicate)

pub input-eq : (a b : CanonicalInput) → Decides (input.eq a b) (AreEqual a b)
input-eq a b =
    through _ _ _ (both _ _ _ _ (mode-eq a.mode b.mode) (both _ _ _ _ (goal-eq a.goal b.goal) (slice_eq-Decides kind-eq a.variables.items b.variables.items _ refl)))
    (λ p. record { mode = p.0; environment = p.1.0.0; predicate = p.1.0.1; variables = p.1.1 })
    (λ e. (e.mode, ((e.environment, e.predicate), e.variables)))

-- ---- handles are told apart by their trees
pub first-of-two : (t u : Trees) (l m : Label) → Single t → Single u → t +++ leaf l ≡ u +++ leaf m → (t ≡ u) × (l ≡ m)
first-of-two none u l m s z e = absurd s
first-of-two (tree x c o) none l m s z e = absurd z
first-of-two (tree x c o) (tree y d p) l m s z e = rw (s, z) (parts x y c d l m (rw (s, z) at e))
  where
    parts : (x y : Label) (c d : Trees) (l m : Label) → tree x c (leaf l) ≡ tree y d (leaf m) → (tree x c none ≡ tree y d none) × (l ≡ m)
    parts x y c d l m e = (cc, cc)

pub region-is : (r s : Region) → region_label r.kind ≡ region_label s.kind → r ≡ s
region-is r s e = ap (λ k. record { kind = k }) (region-back r.kind s.kind e)

args-are : (es : List Entry) → Lawful es → (a b : TraitRef) → Has es args_lists a.args.0 → Has es args_lists b.args.0 → a.def_id.index ≡ b.def_id.index → trees_at es a.args.0 ≡ trees_at es b.args.0 → a ≡ b
args-are es law a b h g p q = reference-cong a b (trait-back a.def_id b.def_id p) (ap (λ i. record { 0 = i }) (same-handle es law args_lists a.args.0 b.args.0 h g q))

pub outlives : (a b x y : Region) → a ≡ x → b ≡ y → RegionOutlives a b ≡ RegionOutlives x y
outlives a b x y p q = cc

pub type-outlives : (t u : ty-module.Ty) (r s : Region) → t ≡ u → r ≡ s → TypeOutlives t r ≡ TypeOutlives u s
type-outlives t u r s p q = cc

clause-is : (es : List Entry) → Lawful es → (x y : Clause) → ClauseHeld es x → ClauseHeld es y → clause_label x ≡ clause_label y → clause_terms es x ≡ clause_terms es y → x ≡ y
clause-is es law (Trait p) (Trait q) h g l e =
    let index : p.trait_ref.def_id.index ≡ q.trait_ref.def_id.index = cc in
    ap (λ r. Trait (record { trait_ref = r })) (args-are es law p.trait_ref q.trait_ref h g index e)
clause-is es law (RegionOutlives a b) (RegionOutlives x y) h g l e =
    let first : region_label a.kind ≡ region_label x.kind = cc in
    let second : region_label b.kind ≡ region_label y.kind = cc in
    outlives a b x y (region-is a x first) (region-is b y second)
clause-is es law (TypeOutlives t r) (TypeOutlives u s) h g l e =
    let parts = first-of-two (trees_at es t.0) (trees_at es u.0) (region_label r.kind) (region_label s.kind) (type-single es law.sorted t.0 h.0) (type-single es law.sorted u.0 g.0) e in
    type-outlives t u r s (ap (λ i. record { 0 = i }) (same-handle es law types t.0 u.0 h.0 g.0 parts.0)) (region-is r s parts.1)
clause-is es law x y h g l e = cc

environment-is : (es : List Entry) → Lawful es → (xs ys : List Clause) → ClausesHeld es xs → ClausesHeld es ys → environment_trees es xs ≡ environment_trees es ys → xs ≡ ys
environment-is es law [] [] h g e = refl
environment-is es law [] (y ∷ ys) h g e = cc
environment-is es law (x ∷ xs) [] h g e = cc
environment-is es law (x ∷ xs) (y ∷ ys) h g e =
    let parts = node-parts _ _ _ _ _ _ e in
    next x y xs ys (clause-is es law x y h.0 g.0 parts.0 parts.1) (environment-is es law xs ys h.1 g.1 parts.2)

predicate-is : (es : List Entry) → Lawful es → (p q : TraitPredicate) → PredicateHeld es p → PredicateHeld es q → predicate_trees es p ≡ predicate_trees es q → p ≡ q
predicate-is es law p q h g e =
    let parts = node-parts _ _ _ _ _ _ e in
    let index : p.trait_ref.def_id.index ≡ q.trait_ref.def_id.index = same _ _ parts.0 in
    ap (λ r. record { trait_ref = r }) (args-are es law p.trait_ref q.trait_ref h g index parts.1)
  where
    same : (i j : ℕ) → predicate (of_trait i) ≡ predicate (of_trait j) → i ≡ j
    same i j e = cc

kinds-are : (xs ys : List CanonicalVarKind) → map Some xs ≡ map Some ys → xs ≡ ys
kinds-are [] [] e = refl
kinds-are [] (y ∷ ys) e = cc
kinds-are (x ∷ xs) [] e = cc
kinds-are (x ∷ xs) (y ∷ ys) e = let first : x ≡ y = cc in let rest : map Some xs ≡ map Some ys = cc in next x y xs ys first (kinds-are xs ys rest)

-- ---- forms
pub forms-equal : (es : List Entry) → Lawful es → (a b : CanonicalInput) → GoalHeld es a.goal → GoalHeld es b.goal → a.mode ≡ b.mode → form_of es a ≡ form_of es b → AreEqual a b
forms-equal es law a b h g m e = record {
  mode = m;
  environment = environment-is es law a.goal.param_env.items b.goal.param_env.items h.environment g.environment (ap (λ f. f.goal.environment) e);
  predicate = predicate-is es law a.goal.predicate b.goal.predicate h.predicate g.predicate (ap (λ f. f.goal.predicate) e);
  variables = kinds-are a.variables.items b.variables.items (ap (λ f. f.kinds) e);
}

form-cong : (e e' p p' : Trees) (ks ks' : List (Option CanonicalVarKind)) → e ≡ e' → p ≡ p' → ks ≡ ks'
    → ◌≡◌ {A = CanonicalForm} (record { goal = record { environment = e; predicate = p }; kinds = ks }) (record { goal = record { environment = e'; predicate = p' }; kinds = ks' })
form-cong e e' p p' ks ks' a b c = cc

pub equal-forms : (es : List Entry) (a b : CanonicalInput) → AreEqual a b → form_of es a ≡ form_of es b
equal-forms es a b q = form-cong _ _ _ _ _ _ (ap (environment_trees es) q.environment) (ap (predicate_trees es) q.predicate) (ap (map Some) q.variables)

-- equal exactly if renamings
pub equal-renamings : (es : List Entry) → Lawful es → (g h : GoalTrees) (a b : CanonicalInput) → HasNoCanonical g.environment → HasNoCanonical g.predicate → HasNoCanonical h.environment → HasNoCanonical h.predicate
    → IsCanonicalInput es g a → IsCanonicalInput es h b → AreEqual a b ↔ ((a.mode ≡ b.mode) × AreRenamings g h)
equal-renamings es law g h a b ge gp he hp ia ib = (
  λ q. (q.mode, canonical_form-equal g h ge gp he hp (sym ia.form ∙ equal-forms es a b q ∙ ib.form)),
  λ r. forms-equal es law a b ia.held ib.held r.0 (ia.form ∙ canonical_form-renamed g h r.1 ∙ sym ib.form),
)
