use Rattle.std.proofs.Common.{◌≡◌, sym, subst}
use Rattle.std.specs.Prelude.{Result, Ok, Err, IfErr}
use Rattle.type_terms.specs.declared.Fault.{Fault}
use Rattle.type_terms.specs.declared.Fault.TheVariants.{Full, Memory}
use Rattle.type_terms.specs.Promised.Rules.{sized, copy, clone, tuple_trait, fn_ptr_trait}
use Rattle.type_terms.specs.Promised.Handles.{trees_at}
use Rattle.type_terms.specs.Promised.Trees.{erase}
use Rattle.type_terms.proofs.Grown.{grew-none}
use Rattle.declarations.specs.Items.{declared}
use Rattle.structural_traits.specs.Constituents.{each_asked_of}
use Rattle.proof_checker.specs.Rows.{HasRow}
use Rattle.proof_checker.proofs.Results.{mapped-some, mapped-if}
use Rattle.proof_checker.proofs.TypeRows.{sized-row, auto-row, copy-row, clone-row, tuple-row, fn-ptr-row}
use Rattle.proof_checker.proofs.rows.constituents.Goals as goal
use Rattle.proof_checker.proofs.rows.constituents.Goals.{then-id-eq-COPY-via-then-id-eq-COPY, then-id-eq-COPY-via-else-id-eq-COPY+then-id-eq-CLONE}

never-full : {T : Type 0} (A : Type 0) (r : Result T Fault) → IfErr r (λ f. f ≡ Memory) → IfErr r (λ f. f ≡ Full → A)
never-full A (Ok v) h = tt
never-full A (Err e) h = λ q. absurd cc

pub returns-then-id-eq-COPY-clause-terms : goal.returns-then-id-eq-COPY-clause-terms
returns-then-id-eq-COPY-clause-terms c = record {
  grew = grew-none;
  full = never-full _ c.instantiate_constituent_tys_for_copy_clone_trait.result c.instantiate_constituent_tys_for_copy_clone_trait.ensures.memory;
}

pub returns-then-id-eq-SIZED-clause-row : goal.returns-then-id-eq-SIZED-clause-row
returns-then-id-eq-SIZED-clause-row c =
    let es = c.args.cx.now.entries in
    let new = c.instantiate_constituent_tys_for_sized_trait.new.cx.entries in
    let V = declared es c.args.declarations.now in
    let s = erase (trees_at es c.args.self_ty.0) in
    mapped-some _ _ c.instantiate_constituent_tys_for_sized_trait.result
    (λ v asks. subst (λ t. HasRow V t s (each_asked_of new t v.items)) (sym c.if-id-eq-SIZED.true) (sized-row V s (each_asked_of new sized v.items) asks))
    c.instantiate_constituent_tys_for_sized_trait.ensures.erased

pub returns-then-id-eq-COPY-clause-row : goal.returns-then-id-eq-COPY-clause-row
returns-then-id-eq-COPY-clause-row c =
    let es = c.args.cx.now.entries in
    let V = declared es c.args.declarations.now in
    let s = erase (trees_at es c.args.self_ty.0) in
    mapped-some _ _ c.instantiate_constituent_tys_for_copy_clone_trait.result
    (λ v asks.
    elim c.then-id-eq-COPY.branch [
      | then-id-eq-COPY-via-then-id-eq-COPY w ↦ subst (λ k. HasRow V k s (each_asked_of es k v.items)) (sym w.if-id-eq-COPY.true) (copy-row V s (each_asked_of es copy v.items) (asks copy))
      | then-id-eq-COPY-via-else-id-eq-COPY+then-id-eq-CLONE w ↦ subst (λ k. HasRow V k s (each_asked_of es k v.items)) (sym w.if-id-eq-CLONE.true) (clone-row V s (each_asked_of es clone v.items) (asks clone))
    ])
    c.instantiate_constituent_tys_for_copy_clone_trait.ensures.erased

pub returns-then-id-eq-TUPLE-clause-row : goal.returns-then-id-eq-TUPLE-clause-row
returns-then-id-eq-TUPLE-clause-row c =
    let es = c.args.cx.now.entries in
    let V = declared es c.args.declarations.now in
    let s = erase (trees_at es c.args.self_ty.0) in
    mapped-if _ _ c.constituents_for_tuple_trait.result
    (λ v asks. subst (λ t. HasRow V t s (each_asked_of es t v.items)) (sym c.if-id-eq-TUPLE.true) (tuple-row V s (each_asked_of es tuple_trait v.items) (asks tuple_trait)))
    c.constituents_for_tuple_trait.ensures.erased

pub returns-then-id-eq-FN_PTR-clause-row : goal.returns-then-id-eq-FN_PTR-clause-row
returns-then-id-eq-FN_PTR-clause-row c =
    let es = c.args.cx.now.entries in
    let V = declared es c.args.declarations.now in
    let s = erase (trees_at es c.args.self_ty.0) in
    mapped-if _ _ c.constituents_for_fn_ptr_trait.result
    (λ v asks. subst (λ t. HasRow V t s (each_asked_of es t v.items)) (sym c.if-id-eq-FN_PTR.true) (fn-ptr-row V s (each_asked_of es fn_ptr_trait v.items) (asks fn_ptr_trait)))
    c.constituents_for_fn_ptr_trait.ensures.erased

pub returns-then-has_own_rule-clause-row : goal.returns-then-has_own_rule-clause-row
returns-then-has_own_rule-clause-row c =
    let es = c.args.cx.now.entries in
    let new = c.instantiate_constituent_tys_for_auto_trait.new.cx.entries in
    let V = declared es c.args.declarations.now in
    let s = erase (trees_at es c.args.self_ty.0) in
    let t = c.args.id.index in
    mapped-some _ _ c.instantiate_constituent_tys_for_auto_trait.result
    (λ v asks. auto-row V s (each_asked_of new t v.items) t (c.has_own_rule.ensures c.if-has_own_rule.true) (asks t))
    c.instantiate_constituent_tys_for_auto_trait.ensures.erased
