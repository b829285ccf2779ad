-- Responses over one interner are equal in code exactly if their terms are equal.
use Rattle.std.proofs.Common.{◌≡◌, true, List, [], ◌∷◌, refl, subst}
use Rattle.std.proofs.lemmas.Bool.Decides.{same_from_decides}
use Rattle.type_terms.specs.Promised.Trees.{is_sort}
use Rattle.type_terms.specs.Codes.{same}
use Rattle.type_terms.specs.Promised.Handles.{Entry}
use Rattle.type_terms.specs.Terms.{Lawful}
use Rattle.infer_table.specs.declared.canonical.CanonicalVarKind.{CanonicalVarKind}
use Rattle.infer_table.specs.declared.canonical.CanonicalVarKind.TheVariants.{Ty as TyVariable, PlaceholderTy, Const as ConstVariable, PlaceholderConst, Region as RegionVariable}
use Rattle.infer_table.specs.declared.certainty.Certainty.{Certainty}
use Rattle.infer_table.specs.declared.certainty.Certainty.TheVariants.{Yes, Maybe}
use Rattle.infer_table.specs.declared.certainty.MaybeCause.TheVariants.{Ambiguity, Overflow}
use Rattle.infer_table.specs.Constraints.{constraints_trees}
use Rattle.infer_table.specs.declared.response.CanonicalResponse.{CanonicalResponse}
use Rattle.infer_table.specs.contracts.response.CanonicalResponsePartialEq.TheImpl.{ghosts as response}
use Rattle.infer_table.specs.Values.{Value, values_of}
use Rattle.infer_table.specs.Responses.{AnswerTrees, ResponseHeld, answer_trees}
use Rattle.infer_table.proofs.UnifyFacts.{same-self}
use Rattle.goal_evaluator.specs.Merge.{same_certainty}
use Rattle.goal_evaluator.specs.Responses.{Content, content}
use Rattle.goal_evaluator.proofs.SameResponses.{content-cong, response-eq}
use Rattle.type_terms.proofs.Made.{both}
use Rattle.goal_frames.specs.Handlers.{same_kind, same_kinds, same_values, same_answer}
use Rattle.goal_frames.proofs.Same.{answers-are}
use Rattle.goal_frames.proofs.Answers as Kept
use Rattle.type_terms.proofs.TermBasics.{is_sort-self as sort-self}

content-is : (es : List Entry) → Lawful es → (r s : CanonicalResponse) → ResponseHeld es r → ResponseHeld es s → answer_trees es r ≡ answer_trees es s → content r ≡ content s
content-is es law r s h g e = let x = Kept.answers-are es law r s h g e in content-cong _ _ _ _ _ _ _ _ x.variables x.certainty x.values x.constraints

-- ---- what is one is found to be the same
kind-self : (k : CanonicalVarKind) → same_kind k k ≡ true
kind-self TyVariable = refl
kind-self ConstVariable = refl
kind-self PlaceholderTy = refl
kind-self PlaceholderConst = refl
kind-self RegionVariable = refl

kinds-self : (ks : List CanonicalVarKind) → same_kinds ks ks ≡ true
kinds-self [] = refl
kinds-self (k ∷ ks) = both (same_kind k k) (same_kinds ks ks) (kind-self k) (kinds-self ks)

certainty-self : (c : Certainty) → same_certainty c c ≡ true
certainty-self Yes = refl
certainty-self (Maybe Ambiguity) = refl
certainty-self (Maybe Overflow) = refl

values-self : (vs : List Value) → same_values vs vs ≡ true
values-self [] = refl
values-self (v ∷ vs) = both (is_sort v.sort v.sort) _ (sort-self v.sort) (both (same v.trees v.trees) (same_values vs vs) (same-self v.trees) (values-self vs))

answer-self : (a : AnswerTrees) → same_answer a a ≡ true
answer-self a =
    both (same_kinds a.kinds a.kinds) _ (kinds-self a.kinds)
    (both (same_certainty a.certainty a.certainty) _ (certainty-self a.certainty) (both (same_values a.values a.values) (same a.constraints a.constraints) (values-self a.values) (same-self a.constraints)))

-- ---- what a response says, as trees
abbrev pub content_trees : List Entry → Content → AnswerTrees
content_trees es c = record { kinds = c.variables; certainty = c.certainty; values = values_of es c.values; constraints = constraints_trees es c.constraints }

pub equal-is : (es : List Entry) → Lawful es → (r s : CanonicalResponse) → ResponseHeld es r → ResponseHeld es s → response.eq r s ≡ same_answer (answer_trees es r) (answer_trees es s)
equal-is es law r s h g =
    same_from_decides _ _ (response-eq r s)
    (λ e. content-is es law r s h g (answers-are (answer_trees es r) (answer_trees es s) e), λ e. subst (λ (z : Content). same_answer (answer_trees es r) (content_trees es z) ≡ true) e (answer-self (answer_trees es r)))
