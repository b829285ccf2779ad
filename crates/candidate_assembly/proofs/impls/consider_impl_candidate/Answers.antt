use Rattle.std.proofs.Common.{◌≡◌, List, length, map, ap, subst, sym, ◌∙◌, arith}
use Rattle.type_terms.specs.Promised.Trees.{Trees, none}
use Rattle.type_terms.specs.Promised.Worlds.{Reference}
use Rattle.type_terms.specs.Promised.Rules.{is_coinductive}
use Rattle.type_terms.specs.Promised.Handles.{Keeps, trees_at}
use Rattle.type_terms.specs.Terms.{args_lists}
use Rattle.type_terms.specs.Kept.{trees-later}
use Rattle.term_folds.specs.declared.predicate.TraitRef.{TraitRef}
use Rattle.infer_table.specs.Constraints.{constraints_trees}
use Rattle.infer_table.specs.Content.{AllConstraintsHeld}
use Rattle.infer_table.specs.declared.canonical.CanonicalVarKind.{CanonicalVarKind}
use Rattle.infer_table.specs.declared.certainty.Certainty.TheVariants.{Yes}
use Rattle.infer_table.proofs.Numbers.{goal-held-later}
use Rattle.infer_table.proofs.StepFacts.{keeps-trans}
use Rattle.goal_evaluator.specs.declared.candidate.CandidateSource.{CandidateSource}
use Rattle.goal_evaluator.specs.declared.candidate.CandidateSource.TheVariants.{Impl}
use Rattle.goal_evaluator.specs.FrameTables.{Nested, Equation}
use Rattle.declarations.specs.Items.{reference_in}
use Rattle.declarations.specs.Applied.{references_in, TraitRefsHeld}
use Rattle.candidate_model.specs.Candidates.{Candidate, all_equal, rules_behind, premise}
use Rattle.built_in_candidates.specs.Goals.{asked_of}
use Rattle.built_in_candidates.proofs.Asking.{asked-later}
use Rattle.declarations.proofs.Bounded.{all-same}
use Rattle.declarations.proofs.Growth.{references-kept}
use Rattle.candidate_assembly.proofs.Behind.{same-impl}
use Rattle.candidate_assembly.proofs.impls.consider_impl_candidate.Goals as goal

pub returns-clause-held : goal.returns-clause-held
returns-clause-held c =
    let old = c.args.cx.now.entries in
    let mid = c.instance_behind.new.cx.entries in
    let new = c.relate_args.new.cx.entries in
    let kept : Keeps old new = keeps-trans old mid new c.in_ok-instance.ensures.terms.grew.keeps c.in_ok-equations.ensures.terms.grew.keeps in
    let later = references-kept mid new c.in_ok-equations.ensures.terms.grew.keeps c.in_ok-instance.instance.clauses.items c.in_ok-instance.ensures.clauses_held in
    record {
      equations = c.in_ok-equations.ensures.held;
      constraints = subst (AllConstraintsHeld new) (sym c.new.ensures.items) tt;
      nested = c.in_ok-nested_goals.ensures.held new (goal-held-later old new kept c.args.goal.now.goal c.requires.goal)
          (subst (λ (rs : List TraitRef). TraitRefsHeld new rs) (sym c.deref.ensures.value) later);
    }

same : (r s : CandidateSource) (ks js : List CanonicalVarKind) (ds es : List Equation) (regions : Trees) (ns ms : List Nested) → r ≡ s → ks ≡ js → ds ≡ es → regions ≡ none → ns ≡ ms
    → ◌≡◌ {A = Candidate} (record { source = r; kinds = ks; equations = ds; regions = regions; nested = ns; certainty = Yes })
    (record { source = s; kinds = js; equations = es; regions = none; nested = ms; certainty = Yes })
same r s ks js ds es regions ns ms a b d e f = cc

pub returns-clause-is : goal.returns-clause-is
returns-clause-is c = λ V.
    let old = c.args.cx.now.entries in
    let mid = c.instance_behind.new.cx.entries in
    let new = c.relate_args.new.cx.entries in
    let g = c.args.goal.now in
    let a = asked_of old g in
    let kind = is_coinductive V g.goal.predicate.trait_ref.def_id.index in
    let def = c.args.def.now in
    let instance = c.in_ok-instance.instance in
    let made = c.in_ok-instance.ensures in
    let further = c.in_ok-equations.ensures.terms.grew.keeps in
    let kept : Keeps old new = keeps-trans old mid new made.terms.grew.keeps further in
    let count : c.len.result ≡ length g.variables.items = let e = c.len.ensures in omega (arith, e) in
    let asked = trees-later old mid made.terms.grew.keeps args_lists g.goal.predicate.trait_ref.args.0 c.requires.goal.predicate in
    let header = made.header ∙ ap (λ m. rules_behind m (reference_in old def.header)) count in
    let clauses = all-same mid new further instance.clauses.items made.clauses_held ∙ made.clauses ∙ ap (λ m. map (rules_behind m) (references_in old def.clauses.items)) count in
    same _ _ _ _ _ _ _ _ _ (ap Impl (sym (same-impl c.args.id))) (made.variables ∙ c.requires.params)
    (c.in_ok-equations.ensures.are ∙ ap (λ z. all_equal z (trees_at mid instance.header.args.0)) asked ∙ ap (λ (r : Reference). all_equal a.reference.args r.args) header)
    (ap (constraints_trees new) c.new.ensures.items)
    (c.in_ok-nested_goals.ensures.are new kind
    ∙ ap (λ x. map (premise x kind) (references_in new c.deref.result.now)) (asked-later old new kept g c.requires.goal)
    ∙ ap (λ rs. map (premise a kind) (references_in new rs)) c.deref.ensures.value
    ∙ ap (map (premise a kind)) clauses)
