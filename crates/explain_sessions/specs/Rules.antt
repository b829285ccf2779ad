-- What is checked of traces: which candidates are rules, which goals no impl and no built-in rule concludes, and what two impls have in
-- common.
use Rattle.std.specs.Prelude.{◌≡◌, ℕ, Bool, true, false, List, [], Some}
use Rattle.std.specs.List.{AllZip, slice_get}
use Rattle.sessions.specs.TypeTerms.Promised.Label.{Label, tuple, fn_ptr, dynamic, infer}
use Rattle.sessions.specs.TypeTerms.Promised.Trees.{Trees, none, tree}
use Rattle.sessions.specs.TypeTerms.Promised.Proofs.{In}
use Rattle.sessions.specs.TypeTerms.Promised.Rules.{Way, BuiltIn, by_impl, built_in, built_in_rules, impl_rules}
use Rattle.sessions.specs.TypeTerms.Promised.Handles.{Entry}
use Rattle.sessions.specs.TypeTerms.Promised.Worlds.{World, Reference, ImplDecl}
use Rattle.sessions.specs.TypeTerms.declared.ImplId.{ImplId}
use Rattle.sessions.specs.TermFolds.declared.predicate.TraitRef.{TraitRef}
use Rattle.sessions.specs.InferTable.Solutions.{Assignment, IsSorted, instance}
use Rattle.sessions.specs.GoalEvaluator.declared.candidate.CandidateSource.{CandidateSource}
use Rattle.sessions.specs.GoalEvaluator.declared.candidate.CandidateSource.TheVariants.{Impl, BuiltinImpl}
use Rattle.explain_traces.specs.declared.nodes.CandidateNode.{CandidateNode}
use Rattle.explain_traces.specs.declared.nodes.Node.{Node}
use Rattle.explain_traces.specs.declared.nodes.GoalWalk.{GoalWalk}
use Rattle.sessions.specs.Declarations.Promised.Elaboration.{Each}
use Rattle.sessions.specs.ProofChecker.Checked.{IsConcludedFrom}
use Rattle.sessions.specs.ProofChecker.Steps.{term_of, terms_of}
use Rattle.explain_sessions.specs.declared.walks.CheckedCandidates.{CheckedCandidates}

-- The source is this rule instance. It does not say which built-in rule it is.
abbrev pub IsSourceOf : CandidateSource → Way → Type 0
IsSourceOf (Impl i) w = w ≡ by_impl i.index
IsSourceOf (BuiltinImpl s) w = (b : BuiltIn) × (w ≡ built_in b)
IsSourceOf s w = ⊥

-- By the rules of W, whatever the where-clauses are, the source concludes the trait reference from these premises, and maybe further ones
-- after them.
abbrev pub Concludes : List Entry → World → CandidateSource → TraitRef → List TraitRef → Type 0
Concludes es W s r ps = (E : List Reference) → (w : Way) × IsSourceOf s w × IsConcludedFrom W E (term_of es r) w (terms_of es ps)

-- The candidate's source concludes the goal at index p of rs like this, and the premises are the candidate's nested goals.
pub record IsRuleCandidate (es : List Entry) (W : World) (rs : List TraitRef) (p : ℕ) (c : CandidateNode) : Type 0 where
  pub reference : TraitRef
  pub goal : slice_get rs p ≡ Some reference
  pub premises : List TraitRef
  pub asked : AllZip (λ k r. slice_get rs k ≡ Some r) c.premises.items premises
  pub concludes : Concludes es W c.source reference premises

-- The same for the candidate with this number, counted from 0, of the goal at this index.
abbrev pub IsRuleAt : List Entry → World → GoalWalk → ℕ × ℕ → Type 0
IsRuleAt es W w x =
    (n : Node) × (slice_get w.nodes.items x.0 ≡ Some n) × (c : CandidateNode) × (slice_get n.candidates.items x.1 ≡ Some c)
    × IsRuleCandidate es W w.references.items x.0 c

-- The trait reference with terms for its type and constant variables.
abbrev pub assigned : Assignment → Reference → Reference
assigned s r = record r { args = instance s r.args }

-- It is the trait reference with terms of their kinds for its variables.
abbrev pub IsInstanceOf : Reference → Reference → Type 0
IsInstanceOf r q = (s : Assignment) × IsSorted s × (assigned s r ≡ q)

-- The impl has no rule for any instance of r.
abbrev pub HasNoRuleBy : Reference → ImplDecl → Type 0
HasNoRuleBy r i = (q : Reference) → IsInstanceOf r q → impl_rules q i ≡ []

-- Whatever its variables stand for, no impl of W has a rule for r.
abbrev pub HasNoImpl : World → Reference → Type 0
HasNoImpl W r = (i : ImplDecl) → In i W.impls → HasNoRuleBy r i

-- The impl of W with this number has no rule for any instance of r.
abbrev pub HasNoRuleByImpl : World → Reference → ℕ → Type 0
HasNoRuleByImpl W r n = (i : ImplDecl) → In i W.impls → i.name ≡ n → HasNoRuleBy r i

-- No impl of W has a rule for the goal at index p of rs, whatever its variables stand for.
abbrev pub HasNoImplAt : List Entry → World → List TraitRef → ℕ → Type 0
HasNoImplAt es W rs p = (r : TraitRef) × (slice_get rs p ≡ Some r) × HasNoImpl W (term_of es r)

-- Whatever its variables stand for, no built-in rule of W concludes r.
abbrev pub HasNoRow : World → Reference → Type 0
HasNoRow W r = (s : Assignment) → built_in_rules W (assigned s r) ≡ []

-- No built-in rule of W concludes the goal at index p of rs.
abbrev pub HasNoRowAt : List Entry → World → List TraitRef → ℕ → Type 0
HasNoRowAt es W rs p = (r : TraitRef) × (slice_get rs p ≡ Some r) × HasNoRow W (term_of es r)

-- The first type is no variable.
abbrev pub begins_known : Trees → Bool
begins_known none = false
begins_known (tree (infer s i) c o) = false
begins_known (tree l c o) = true

-- A type with this label is no tuple, no fn pointer and no `dyn`.
abbrev pub is_bare : Label → Bool
is_bare tuple = false
is_bare (fn_ptr n) = false
is_bare dynamic = false
is_bare l = true

-- The impl of W with this number has a rule for r, whatever its where-clauses are.
abbrev pub HasRuleByImpl : World → Reference → ℕ → Type 0
HasRuleByImpl W r i = (E : List Reference) → IsConcludedFrom W E r (by_impl i) []

-- Both impls have a rule for r.
abbrev pub HasRulesByBoth : World → Reference → ℕ → ℕ → Type 0
HasRulesByBoth W r i j = HasRuleByImpl W r i × HasRuleByImpl W r j

-- The impl of W with this number has a rule for an instance of r, whatever its where-clauses are.
abbrev pub MayHaveRule : World → Reference → ℕ → Type 0
MayHaveRule W r i = (q : Reference) × IsInstanceOf r q × HasRuleByImpl W q i

-- The candidate is by an impl that has a rule for an instance of the goal at index p of rs.
pub record MayApply (es : List Entry) (W : World) (rs : List TraitRef) (p : ℕ) (c : CandidateNode) : Type 0 where
  pub reference : TraitRef
  pub goal : slice_get rs p ≡ Some reference
  pub number : ImplId
  pub source : c.source ≡ Impl number
  pub rule : MayHaveRule W (term_of es reference) number.index

-- The same for the candidate with this number, counted from 0, of the goal at this index.
abbrev pub MayApplyAt : List Entry → World → GoalWalk → ℕ × ℕ → Type 0
MayApplyAt es W w x =
    (n : Node) × (slice_get w.nodes.items x.0 ≡ Some n) × (c : CandidateNode) × (slice_get n.candidates.items x.1 ≡ Some c) × MayApply es W w.references.items x.0 c

-- Each candidate that is named as a rule is one, and each that is named as a chance may apply.
pub record AreChecked (es : List Entry) (W : World) (w : GoalWalk) (c : CheckedCandidates) : Type 0 where
  pub rules : Each (IsRuleAt es W w) c.rules.items
  pub chances : Each (MayApplyAt es W w) c.chances.items
