use Rattle.std.proofs.Common.{◌≡◌, [], ◌∷◌, length, ap, sym, ◌∙◌, subst, None}
use Rattle.std.proofs.lemmas.List.{length-map}
use Rattle.type_terms.specs.Promised.Rules.{some_unsizing, last_unsizes}
use Rattle.type_terms.specs.Promised.Handles.{Has, types, trees_at}
use Rattle.type_terms.specs.declared.kinds.Ty.{Ty}
use Rattle.term_folds.specs.Arguments.{first_misfit}
use Rattle.declarations.specs.Applied.{sort_of_param}
use Rattle.declarations.specs.Promised.Elaboration.{Each}
use Rattle.declarations.specs.Unsizing.{field_trees}
use Rattle.built_in_candidates.specs.Goals.{asked_of}
use Rattle.built_in_candidates.specs.Unsizing.{tail_asked}
use Rattle.built_in_candidates.proofs.StructRows.{some-told, tail-unsizes, none-unsizing, no-candidate, one-candidate, fields-end}
use Rattle.built_in_candidates.proofs.unsize_struct.unsize_struct.Goals as goal
use Rattle.declarations.proofs.Basics.{each-end}
use Rattle.type_terms.proofs.ListBasics.{empty-is}

pub struct_candidate-requires-clause-tail : goal.struct_candidate-requires-clause-tail
struct_candidate-requires-clause-tail c =
    let es = c.args.cx.now.entries in
    let back = sym c.deref.ensures.value ∙ c.in-Some.ensures.cases.0 in
    each-end (λ (t : Ty). Has es types t.0) c.in-Some.field-0-1.now c.in-Some.tail.now (subst (Each (λ (t : Ty). Has es types t.0)) back c.requires.def.0)

pub struct_candidate-requires-clause-tail_fits : goal.struct_candidate-requires-clause-tail_fits
struct_candidate-requires-clause-tail_fits c =
    let es = c.args.cx.now.entries in
    let A = trees_at es c.args.args.own.0 in
    let back = sym c.deref.ensures.value ∙ c.in-Some.ensures.cases.0 in
    each-end (λ (f : Ty). first_misfit A (trees_at es f.0) ≡ None) c.in-Some.field-0-1.now c.in-Some.tail.now (subst (Each (λ (f : Ty). first_misfit A (trees_at es f.0) ≡ None)) back c.requires.fields_fit)

pub struct_candidate-requires-clause-target_tail_fits : goal.struct_candidate-requires-clause-target_tail_fits
struct_candidate-requires-clause-target_tail_fits c =
    let es = c.args.cx.now.entries in
    let A = trees_at es c.args.args.target.0 in
    let back = sym c.deref.ensures.value ∙ c.in-Some.ensures.cases.0 in
    each-end (λ (f : Ty). first_misfit A (trees_at es f.0) ≡ None) c.in-Some.field-0-1.now c.in-Some.tail.now (subst (Each (λ (f : Ty). first_misfit A (trees_at es f.0) ≡ None)) back c.requires.target_fields_fit)

pub returns-in_ok-candidate-in-Some-clause-is : goal.returns-in_ok-candidate-in-Some-clause-is
returns-in_ok-candidate-in-Some-clause-is c = λ V x e.
    let es = c.args.cx.now.entries in
    let g = c.args.goal.now in
    let fs = field_trees es c.args.def.now.fields.items in
    let b = trees_at es c.args.args.own.0 in
    let d = trees_at es c.args.args.target.0 in
    let f = trees_at es c.in-Some.tail.now.0 in
    let back = sym c.deref.ensures.value ∙ c.in-Some.ensures.cases.0 in
    let told = some-told fs c.deref-in-Some.result.now (length c.args.def.now.params.items) b (c.deref-in-Some.ensures.value ∙ c.requires.def.1) (ap length c.requires.fit.sorts ∙ length-map c.args.def.now.params.items sort_of_param) in
    let some = sym told ∙ sym c.has_unsizing.ensures ∙ c.if-has_unsizing.true in
    let last = ap (λ l. last_unsizes l b d) (ap (field_trees es) back ∙ fields-end es c.in-Some.field-0-1.now c.in-Some.tail.now) ∙ tail-unsizes (field_trees es c.in-Some.field-0-1.now) f b d in
    ap (λ s. s ∷ []) (c.in_ok-candidate-in-Some.ensures.is V) ∙ one-candidate V (asked_of es g) b d x fs (tail_asked b d f) e some last

pub returns-else-has_unsizing-clause-is : goal.returns-else-has_unsizing-clause-is
returns-else-has_unsizing-clause-is c = λ V x e.
    let es = c.args.cx.now.entries in
    let fs = field_trees es c.args.def.now.fields.items in
    let b = trees_at es c.args.args.own.0 in
    let d = trees_at es c.args.args.target.0 in
    let told = some-told fs c.deref-in-Some.result.now (length c.args.def.now.params.items) b (c.deref-in-Some.ensures.value ∙ c.requires.def.1) (ap length c.requires.fit.sorts ∙ length-map c.args.def.now.params.items sort_of_param) in
    no-candidate V (asked_of es c.args.goal.now) b d x (ap (λ l. some_unsizing l 0 b) e ∙ sym told ∙ sym c.has_unsizing.ensures ∙ c.if-has_unsizing.false)

pub returns-in-None-clause-is : goal.returns-in-None-clause-is
returns-in-None-clause-is c = λ V x e.
    let es = c.args.cx.now.entries in
    let b = trees_at es c.args.args.own.0 in
    let d = trees_at es c.args.args.target.0 in
    let none_there = sym c.deref.ensures.value ∙ empty-is c.deref.result.now c.in-None.ensures.cases in
    no-candidate V (asked_of es c.args.goal.now) b d x (ap (λ l. some_unsizing l 0 b) (e ∙ ap (field_trees es) none_there) ∙ none-unsizing 0 b)
