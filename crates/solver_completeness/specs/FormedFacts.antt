-- Facts whose terms are well-formed: all names are declared, and arguments have the declared number and kinds. A view does not
-- contain the kinds, so they are given in addition.
use Rattle.std.specs.Prelude.{◌≡◌, ℕ, zero, suc, true, false, List, [], ◌∷◌, Some}
use Rattle.type_terms.specs.Promised.Label.{Label, Sort, of_type, adt, tuple, fn_ptr, raw_pointer, ref, array, slice, dynamic, principal, auto_trait, of_trait, predicate, param}
use Rattle.type_terms.specs.Promised.Trees.{Trees, none, tree, some_node}
use Rattle.type_terms.specs.Promised.Worlds.{World, Reference, StructDecl, TraitDecl, ImplDecl}
use Rattle.type_terms.specs.Promised.Rules.{sized, clone, copy, unsize, is_auto}
use Rattle.type_terms.specs.Promised.Proofs.{In}
use Rattle.type_terms.specs.Promised.Walks.{struct_is, trait_is}
use Rattle.type_terms.specs.Made.{terms, is_made}
use Rattle.infer_table.specs.declared.certainty.TypingMode.{TypingMode}
use Rattle.goal_evaluator.specs.Content.{Values, Fact, NestedQuestion, fact_of}
use Rattle.declarations.specs.Applied.{sorts_of}
use Rattle.candidate_model.specs.Facts.{is_unerased, is_plain, clauses_of, reference_in}
use Rattle.candidate_model.specs.Asking.{GoalOverKinds, goal_over_kinds, next_of}
use Rattle.candidate_model.specs.DeclaredWell.{IsDeclaredWell}
use Rattle.candidate_model.specs.Meaning.{ViewMeaning}
use Rattle.solver_completeness.specs.RowWays.{autos_stand_once}
use Rattle.solver_completeness.specs.SolverChoices.{IsElaborated}
use Rattle.solver_completeness.specs.GoalSets.{begins_typed, any_label, IsGoalSet}

-- The kinds of the parameters of structs and traits, by name. Those of a trait begin with Self.
pub record Sorts : Type 0 where
  pub of_struct : ℕ → List Sort
  pub of_trait : ℕ → List Sort

-- for each node with its children
abbrev pub EachNode : (Label → Trees → Type 0) → Trees → Type 0
EachNode P none = Unit {0}
EachNode P (tree l c o) = P l c × EachNode P c × EachNode P o

abbrev pub AreTypeSorts : List Sort → Type 0
AreTypeSorts [] = Unit {0}
AreTypeSorts (s ∷ ss) = (s ≡ of_type) × AreTypeSorts ss

-- the parameter is one of these, with its kind
abbrev pub IsParamOf : List Sort → ℕ → Sort → Type 0
IsParamOf [] i s = ⊥
IsParamOf (t ∷ ts) zero s = t ≡ s
IsParamOf (t ∷ ts) (suc i) s = IsParamOf ts i s

abbrev pub HasParams : List Sort → Label → Trees → Type 0
HasParams ss (param s i) c = IsParamOf ss i s
HasParams ss l c = Unit {0}

module _ (V : World) (sorts : Sorts) where
  abbrev pub IsTraitOf : ℕ → List Sort → Type 0
  IsTraitOf t ss = (trait_is (λ x. true) V t ≡ true) × (ss ≡ sorts.of_trait t)

  -- structs and traits are declared and have their arguments, the arguments of built-in types are types, and no auto trait occurs
  -- twice in a `dyn`
  abbrev pub FitsNode : Label → Trees → Type 0
  FitsNode (adt s) c = (struct_is (λ x. true) V s ≡ true) × (sorts_of c ≡ sorts.of_struct s)
  FitsNode (principal n t) c = IsTraitOf t (of_type ∷ sorts_of c)
  FitsNode (auto_trait t) c = IsTraitOf t (of_type ∷ [])
  FitsNode (predicate (of_trait t)) c = IsTraitOf t (sorts_of c)
  FitsNode tuple c = AreTypeSorts (sorts_of c)
  FitsNode (fn_ptr n) c = AreTypeSorts (sorts_of c)
  FitsNode (raw_pointer b) c = begins_typed c ≡ true
  FitsNode array c = begins_typed c ≡ true
  FitsNode slice c = begins_typed c ≡ true
  FitsNode (ref b) c = begins_typed (next_of c) ≡ true
  FitsNode dynamic c = autos_stand_once (tree dynamic c none) ≡ true
  FitsNode l c = Unit {0}

  abbrev pub NodesFit : Trees → Type 0
  NodesFit t = EachNode FitsNode t

  -- terms without lifetimes
  pub record AreFormed (t : Trees) : Type 0 where
    pub made : is_made any_label terms t ≡ true
    pub plain : some_node is_unerased t ≡ false
    pub nodes : NodesFit t

  -- a trait reference of a declared trait with its arguments
  pub record IsFormed (r : Reference) : Type 0 where
    pub args : AreFormed r.args
    pub trait : IsTraitOf r.trait (sorts_of r.args)

  -- a fact of such a trait reference, whose where-clauses are elaborated
  pub record IsFormedFact (f : Fact) : Type 0 where
    pub plain : is_plain f ≡ true
    pub reference : IsFormed (reference_in f)
    pub elaborated : IsElaborated V (clauses_of f.goal.environment)

  -- ---- declarations
  -- a field or a supertrait contains only the parameters of its declaration
  pub record IsField (ss : List Sort) (t : Trees) : Type 0 where
    pub nodes : NodesFit t
    pub sort : sorts_of t ≡ of_type ∷ []
    pub params : EachNode (HasParams ss) t

  pub record IsFormedBound (ss : List Sort) (r : Reference) : Type 0 where
    pub nodes : NodesFit r.args
    pub trait : IsTraitOf r.trait (sorts_of r.args)
    pub params : EachNode (HasParams ss) r.args

  -- all declarations are well-formed, Self is a type, and the traits of core have their parameters
  pub record IsFormedView : Type 0 where
    pub fields : (x : StructDecl) (t : Trees) → In x V.structs → In t x.fields → IsField (sorts.of_struct x.name) t
    pub bounds : (x : TraitDecl) (b : Reference) → In x V.traits → In b x.bounds → IsFormedBound (sorts.of_trait x.name) b
    pub clause_nodes : (i : ImplDecl) (c : Reference) → In i V.impls → In c i.clauses → NodesFit c.args
    pub clause_traits : (i : ImplDecl) (c : Reference) → In i V.impls → In c i.clauses → IsTraitOf c.trait (sorts_of c.args)
    pub self_first : (t : ℕ) → trait_is (λ x. true) V t ≡ true → (ss : List Sort) × (sorts.of_trait t ≡ of_type ∷ ss)
    pub autos : (t : ℕ) → is_auto V t ≡ true → sorts.of_trait t ≡ of_type ∷ []
    pub copies : sorts.of_trait copy ≡ of_type ∷ []
    pub clones : sorts.of_trait clone ≡ of_type ∷ []
    pub sizes : IsTraitOf sized (of_type ∷ [])
    pub unsizes : sorts.of_trait unsize ≡ of_type ∷ of_type ∷ []

-- the terms of a trait reference, which may contain variables, have declared names with their arguments
pub record FitsSorts (V : World) (sorts : Sorts) (r : Reference) : Type 0 where
  pub nodes : NodesFit V sorts r.args
  pub trait : IsTraitOf V sorts r.trait (sorts_of r.args)

-- so do those of a decided goal, if its fact is well-formed, for all values of its variables
abbrev pub FormedGoalsFit : Type 0
FormedGoalsFit =
    (V : World) (sorts : Sorts) (q : NestedQuestion) (v : Values) (a : GoalOverKinds) → goal_over_kinds V q.form ≡ Some a → IsFormedFact V sorts (fact_of q v) → FitsSorts V sorts a.reference

-- a well-formed view preserves such facts in both typing modes
abbrev pub FormedAreKept : Type 0
FormedAreKept = (m : ViewMeaning) (mode : TypingMode) (sorts : Sorts) → IsDeclaredWell m.view → IsFormedView m.view sorts → IsGoalSet m mode (IsFormedFact m.view sorts)
