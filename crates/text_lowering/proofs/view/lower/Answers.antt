use Rattle.std.proofs.Common.{◌++◌, map, ap, ◌∙◌, arith}
use Rattle.declarations.specs.Items.{Items, struct_in, trait_in}
use Rattle.type_terms.proofs.Grown.{grew-on}
use Rattle.type_terms.proofs.FailFacts.{at-limit}
use Rattle.text_lowering.specs.Behind.{is_new, new_structs, new_traits, new_impls, new_struct_sorts, new_trait_sorts, new_impl_sorts}
use Rattle.text_lowering.specs.Seen.{struct_sorts, trait_sorts, impl_sorts}
use Rattle.text_lowering.proofs.BehindViews.{all-structs, all-traits, all-impls, all-struct-sorts, all-trait-sorts, all-impl-sorts, all-struct-terms, all-trait-terms, all-impl-terms}
use Rattle.text_lowering.proofs.Rows.{nothing-before}
use Rattle.text_lowering.proofs.Views.{held_in, view-written, view-rules}
use Rattle.text_lowering.proofs.view.lower.Goals as goal

pub lower_structs-requires-clause-before : goal.lower_structs-requires-clause-before
lower_structs-requires-clause-before c =
    nothing-before (λ s. is_new c.args.workspace.now c.args.crate_id.index 0 s.item.home s.item.name) c.args.workspace.now.structs (λ x. x.0.index) c.reserve_seen.new.decls.structs
    (ap (λ (l : Items). l.structs) (c.reserve_seen.ensures.same ∙ c.new-decls.ensures))

pub lower_traits-requires-clause-before : goal.lower_traits-requires-clause-before
lower_traits-requires-clause-before c =
    nothing-before (λ t. is_new c.args.workspace.now c.args.crate_id.index 0 t.item.home t.item.name) c.args.workspace.now.traits (λ x. x.0.index) c.lower_structs.new.decls.traits
    (ap (λ (l : Items). l.traits) (c.in_ok-lower_structs.ensures.others) ∙ ap (λ (l : Items). l.traits) (c.reserve_seen.ensures.same ∙ c.new-decls.ensures))

pub lower_impls-requires-clause-before : goal.lower_impls-requires-clause-before
lower_impls-requires-clause-before c =
    nothing-before (λ i. is_new c.args.workspace.now c.args.crate_id.index 0 i.item.home i.item.name) c.args.workspace.now.impls (λ x. x.id.index) c.lower_traits.new.decls.impls
    (ap (λ (l : Items). l.impls) (c.in_ok-lower_traits.ensures.others) ∙ ap (λ (l : Items). l.impls) (c.in_ok-lower_structs.ensures.others)
    ∙ ap (λ (l : Items). l.impls) (c.reserve_seen.ensures.same ∙ c.new-decls.ensures))

pub returns-clause-written : goal.returns-clause-written
returns-clause-written c =
    let d = c.args.workspace.now in
    let n = c.args.crate_id.index in
    let first = c.in_ok-lower_structs.ensures in
    let second = c.in_ok-lower_traits.ensures in
    let last = c.in_ok-lower_impls.ensures in
    let none = c.reserve_seen.ensures.same ∙ c.new-decls.ensures in
    view-written c.lower_structs.new.cx.entries c.lower_traits.new.cx.entries c.lower_impls.new.cx.entries c.lower_traits.ensures.terms.grew.keeps c.lower_impls.ensures.terms.grew.keeps c.lower_structs.new.decls c.lower_traits.new.decls
    c.lower_impls.new.decls second.others last.others first.held second.held _ _ _
    (first.structs ∙ ap (λ (l : Items). map (struct_in c.args.cx.now.entries) l.structs ++ new_structs d n 0) none ∙ all-structs d n)
    (second.traits ∙ ap (λ (l : Items). map (trait_in c.lower_structs.new.cx.entries) l.traits ++ new_traits d n 0) first.others
    ∙ ap (λ (l : Items). map (trait_in c.lower_structs.new.cx.entries) l.traits ++ new_traits d n 0) none ∙ all-traits d n)
    (last.impls ∙ ap (λ (l : Items). map (held_in c.lower_traits.new.cx.entries) l.impls ++ new_impls d n 0) second.others
    ∙ ap (λ (l : Items). map (held_in c.lower_traits.new.cx.entries) l.impls ++ new_impls d n 0) first.others
    ∙ ap (λ (l : Items). map (held_in c.lower_traits.new.cx.entries) l.impls ++ new_impls d n 0) none ∙ all-impls d n)

pub returns-clause-rules : goal.returns-clause-rules
returns-clause-rules c = view-rules c.lower_impls.new.cx.entries c.lower_impls.new.decls c.args.workspace.now c.args.crate_id.index (returns-clause-written c)

pub returns-clause-struct_sorts : goal.returns-clause-struct_sorts
returns-clause-struct_sorts c =
    ap (λ (l : Items). map struct_sorts l.structs) c.in_ok-lower_impls.ensures.others ∙ ap (λ (l : Items). map struct_sorts l.structs) c.in_ok-lower_traits.ensures.others ∙ c.in_ok-lower_structs.ensures.sorts
    ∙ ap (λ (l : Items). map struct_sorts l.structs ++ new_struct_sorts c.args.workspace.now c.args.crate_id.index 0) (c.reserve_seen.ensures.same ∙ c.new-decls.ensures)
    ∙ all-struct-sorts c.args.workspace.now c.args.crate_id.index

pub returns-clause-trait_sorts : goal.returns-clause-trait_sorts
returns-clause-trait_sorts c =
    ap (λ (l : Items). map trait_sorts l.traits) c.in_ok-lower_impls.ensures.others ∙ c.in_ok-lower_traits.ensures.sorts
    ∙ ap (λ (l : Items). map trait_sorts l.traits ++ new_trait_sorts c.args.workspace.now c.args.crate_id.index 0) c.in_ok-lower_structs.ensures.others
    ∙ ap (λ (l : Items). map trait_sorts l.traits ++ new_trait_sorts c.args.workspace.now c.args.crate_id.index 0) (c.reserve_seen.ensures.same ∙ c.new-decls.ensures)
    ∙ all-trait-sorts c.args.workspace.now c.args.crate_id.index

pub returns-clause-impl_sorts : goal.returns-clause-impl_sorts
returns-clause-impl_sorts c =
    c.in_ok-lower_impls.ensures.sorts ∙ ap (λ (l : Items). map impl_sorts l.impls ++ new_impl_sorts c.args.workspace.now c.args.crate_id.index 0) c.in_ok-lower_traits.ensures.others
    ∙ ap (λ (l : Items). map impl_sorts l.impls ++ new_impl_sorts c.args.workspace.now c.args.crate_id.index 0) c.in_ok-lower_structs.ensures.others
    ∙ ap (λ (l : Items). map impl_sorts l.impls ++ new_impl_sorts c.args.workspace.now c.args.crate_id.index 0) (c.reserve_seen.ensures.same ∙ c.new-decls.ensures)
    ∙ all-impl-sorts c.args.workspace.now c.args.crate_id.index

pub returns-in_err-lower_structs-clause-few : goal.returns-in_err-lower_structs-clause-few
returns-in_err-lower_structs-clause-few c =
    let structs = all-struct-terms c.args.workspace.now c.args.crate_id.index in
    let traits = all-trait-terms c.args.workspace.now c.args.crate_id.index in
    let impls = all-impl-terms c.args.workspace.now c.args.crate_id.index in
    omega (arith, structs, traits, impls, c.lower_structs.ensures.few)

pub returns-in_err-lower_traits-clause-few : goal.returns-in_err-lower_traits-clause-few
returns-in_err-lower_traits-clause-few c =
    let structs = all-struct-terms c.args.workspace.now c.args.crate_id.index in
    let traits = all-trait-terms c.args.workspace.now c.args.crate_id.index in
    let impls = all-impl-terms c.args.workspace.now c.args.crate_id.index in
    omega (arith, structs, traits, impls, c.lower_structs.ensures.few, c.lower_traits.ensures.few)

pub returns-in_err-lower_impls-clause-few : goal.returns-in_err-lower_impls-clause-few
returns-in_err-lower_impls-clause-few c =
    let structs = all-struct-terms c.args.workspace.now c.args.crate_id.index in
    let traits = all-trait-terms c.args.workspace.now c.args.crate_id.index in
    let impls = all-impl-terms c.args.workspace.now c.args.crate_id.index in
    omega (arith, structs, traits, impls, c.lower_structs.ensures.few, c.lower_traits.ensures.few, c.lower_impls.ensures.few)

pub returns-clause-few : goal.returns-clause-few
returns-clause-few c =
    let structs = all-struct-terms c.args.workspace.now c.args.crate_id.index in
    let traits = all-trait-terms c.args.workspace.now c.args.crate_id.index in
    let impls = all-impl-terms c.args.workspace.now c.args.crate_id.index in
    omega (arith, structs, traits, impls, c.lower_structs.ensures.few, c.lower_traits.ensures.few, c.lower_impls.ensures.few)

pub returns-in_err-lower_traits-clause-terms : goal.returns-in_err-lower_traits-clause-terms
returns-in_err-lower_traits-clause-terms c = record {
  grew = grew-on c.lower_structs.ensures.terms.grew c.lower_traits.ensures.terms.grew;
  full =
      at-limit c.from_residual-in_err-lower_traits.result c.from_residual-in_err-lower_traits.ensures.1 c.in_err-lower_traits.ensures.terms.full;
}

pub returns-in_err-lower_impls-clause-terms : goal.returns-in_err-lower_impls-clause-terms
returns-in_err-lower_impls-clause-terms c = record {
  grew = grew-on (grew-on c.lower_structs.ensures.terms.grew c.lower_traits.ensures.terms.grew) c.lower_impls.ensures.terms.grew;
  full =
      at-limit c.from_residual-in_err-lower_impls.result c.from_residual-in_err-lower_impls.ensures.1 c.in_err-lower_impls.ensures.terms.full;
}
