-- The entries of a proof that steps state, over the terms of an interner and without lifetimes.
use Rattle.std.specs.Prelude.{◌≡◌, ℕ, List, [], ◌∷◌, ◌++◌, map, Option, None, Some}
use Rattle.std.specs.List.{slice_get, flat_map}
use Rattle.type_terms.specs.Promised.Erased.{erased_reference, erased_impl}
use Rattle.type_terms.specs.Erased.{IsCovered}
use Rattle.type_terms.specs.Promised.Worlds.{World, Reference, ImplDecl}
use Rattle.type_terms.specs.Promised.Rules.{BuiltIn, by_impl, by_clause, by_super, built_in}
use Rattle.type_terms.specs.Promised.Rules as rule
use Rattle.type_terms.specs.Promised.Proofs.{ProofEntry, In, Stands, IsProof}
use Rattle.type_terms.specs.Promised.Handles as terms
use Rattle.type_terms.specs.Promised.Handles.{Has}
use Rattle.type_terms.specs.Terms.{args_lists}
use Rattle.term_folds.specs.declared.predicate.TraitRef.{TraitRef}
use Rattle.declarations.specs.Held.{ReferenceHeld}
use Rattle.declarations.specs.Items.{Items, reference_in, written}
use Rattle.proof_checker.specs.declared.steps.Way.{Way}
use Rattle.proof_checker.specs.declared.steps.Way.TheVariants.{Impl, Clause, Supertrait, BuiltIn as ByBuiltIn, Assumed}
use Rattle.proof_checker.specs.declared.steps.Step.{Step}

-- A trait reference without lifetimes.
abbrev pub term_of : List terms.Entry → TraitRef → Reference
term_of es r = erased_reference (reference_in es r)

abbrev pub terms_of : List terms.Entry → List TraitRef → List Reference
terms_of es rs = map (term_of es) rs

-- The trait references of steps.
abbrev pub steps_say : List terms.Entry → List Step → List Reference
steps_say es ss = map (λ (s : Step). term_of es s.reference) ss

-- The element at a position, if the position exists.
abbrev pub as_list : Option Reference → List Reference
as_list None = []
as_list (Some r) = r ∷ []

-- The trait references at these positions.
abbrev pub at_places : List Reference → List ℕ → List Reference
at_places rs [] = []
at_places rs (k ∷ ks) = as_list (slice_get rs k) ++ at_places rs ks

-- The step has this rule instance. A step does not state which of a clause's supertraits its trait reference is, or which built-in
-- rule concludes it. An assumption is a where-clause after the given ones.
abbrev pub IsWayOf : Way → rule.Way → Type 0
IsWayOf (Impl i) w = w ≡ by_impl i.impl_def_id.index
IsWayOf (Clause k) w = w ≡ by_clause k
IsWayOf (Supertrait k) w = (n : ℕ) × (w ≡ by_super k n)
IsWayOf ByBuiltIn w = (b : BuiltIn) × (w ≡ built_in b)
IsWayOf Assumed w = (k : ℕ) × (w ≡ by_clause k)

-- The step states this entry. rs are the trait references of all steps.
pub record IsEntryOf (es : List terms.Entry) (rs : List Reference) (s : Step) (e : ProofEntry) : Type 0 where
  pub of : e.of ≡ term_of es s.reference
  pub way : IsWayOf s.way e.rule.way
  pub premises : e.rule.premises ≡ at_places rs s.premises.items

-- The steps state these entries, one for one.
abbrev pub AreEntriesOf : List terms.Entry → List Reference → List Step → List ProofEntry → Type 0
AreEntriesOf es rs [] [] = Unit {0}
AreEntriesOf es rs (s ∷ ss) (e ∷ ps) = IsEntryOf es rs s e × AreEntriesOf es rs ss ps
AreEntriesOf es rs ss ps = ⊥

-- The trait references that the steps assume.
abbrev pub assumed_by : List terms.Entry → TraitRef → Way → List Reference
assumed_by es r Assumed = term_of es r ∷ []
assumed_by es r w = []

abbrev pub assumed_in : List terms.Entry → List Step → List Reference
assumed_in es ss = flat_map (λ (s : Step). assumed_by es s.reference s.way) ss

-- The steps are a proof by the rules of W, the where-clauses E, and what the steps assume. If they assume nothing it is one by E.
pub record AreProof (es : List terms.Entry) (W : World) (E : List Reference) (ss : List Step) : Type 0 where
  pub entries : List ProofEntry
  pub are : AreEntriesOf es (steps_say es ss) ss entries
  pub proof : IsProof W (E ++ assumed_in es ss) entries

-- They are such a proof, and it concludes r.
pub record AreProofOf (es : List terms.Entry) (W : World) (E : List Reference) (r : Reference) (ss : List Step) : Type 0 where
  pub proof : AreProof es W E ss
  pub stands : Stands r proof.entries

-- ---- what is required of them
-- Each argument list and trait reference of a step is of this interner.
abbrev pub WayHeld : List terms.Entry → Way → Type 0
WayHeld es (Impl i) = Has es args_lists i.args.0
WayHeld es w = Unit {0}

abbrev pub StepHeld : List terms.Entry → Step → Type 0
StepHeld es s = ReferenceHeld es s.reference × WayHeld es s.way

-- The parameters of each impl occur in its header.
abbrev pub ParametersAreCovered : List terms.Entry → Items → Type 0
ParametersAreCovered es d = (i : ImplDecl) → In i (written es d).impls → IsCovered (erased_impl i)
