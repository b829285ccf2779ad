use Rattle.std.proofs.Common.{◌≡◌, ◌∙◌, ap, map, sym, subst}
use Rattle.type_terms.specs.Trees.{outer_binder}
use Rattle.type_terms.specs.Promised.Worlds.{with_args, all_with_args}
use Rattle.type_terms.specs.Kept.{has-later, trees-later}
use Rattle.type_terms.specs.Terms.{args_lists}
use Rattle.type_terms.specs.Promised.Handles.{trees_at}
use Rattle.type_terms.proofs.Grown.{grew-on}
use Rattle.declarations.specs.Applied.{TraitRefsHeld, references_in, sort_of_param}
use Rattle.declarations.specs.Items.{reference_in}
use Rattle.declarations.proofs.Bounded.{all-same}
use Rattle.declarations.proofs.Growth.{reference-kept, references-kept, reference-same}
use Rattle.sessions.specs.Placeholders.{placeholders_from}
use Rattle.sessions.proofs.OpaqueTerms.{placeholders-closed}
use Rattle.sessions.proofs.OpaqueFound.{header-fits, clauses-fit, header-is, clauses-are}
use Rattle.sessions.proofs.placeholders.opaque_impl.Goals as goal

pub instantiate_trait_ref-requires-clause-held : goal.instantiate_trait_ref-requires-clause-held
instantiate_trait_ref-requires-clause-held c =
    reference-kept c.args.cx.now.entries c.placeholders_for_item.new.cx.entries c.placeholders_for_item.ensures.terms.grew.keeps c.args.def.now.header c.requires.held.header

pub instantiate_trait_ref-requires-clause-args : goal.instantiate_trait_ref-requires-clause-args
instantiate_trait_ref-requires-clause-args c = c.in_ok-args.ensures.held

pub instantiate_trait_ref-requires-clause-closed : goal.instantiate_trait_ref-requires-clause-closed
instantiate_trait_ref-requires-clause-closed c = ap outer_binder c.in_ok-args.ensures.are ∙ placeholders-closed 0 (map sort_of_param c.deref.result.now)

pub instantiate_trait_ref-requires-clause-fits : goal.instantiate_trait_ref-requires-clause-fits
instantiate_trait_ref-requires-clause-fits c =
    header-fits c.args.cx.now.entries c.placeholders_for_item.new.cx.entries c.placeholders_for_item.ensures.terms.grew.keeps c.args.def.now c.requires.held c.requires.written c.in_ok-args.args.0
    (c.in_ok-args.ensures.are ∙ ap (λ ps. placeholders_from 0 (map sort_of_param ps)) c.deref.ensures.value)

pub instantiate_clauses-requires-clause-held : goal.instantiate_clauses-requires-clause-held
instantiate_clauses-requires-clause-held c =
    let old = c.args.cx.now.entries in
    let two = c.instantiate_trait_ref.new.cx.entries in
    subst (TraitRefsHeld two) (sym c.deref-2.ensures.value)
    (references-kept old two (λ i e h. c.instantiate_trait_ref.ensures.terms.grew.keeps i e (c.placeholders_for_item.ensures.terms.grew.keeps i e h)) c.args.def.now.clauses.items c.requires.held.clauses)

pub instantiate_clauses-requires-clause-args : goal.instantiate_clauses-requires-clause-args
instantiate_clauses-requires-clause-args c =
    has-later c.placeholders_for_item.new.cx.entries c.instantiate_trait_ref.new.cx.entries c.instantiate_trait_ref.ensures.terms.grew.keeps args_lists c.in_ok-args.args.0 c.in_ok-args.ensures.held

pub instantiate_clauses-requires-clause-closed : goal.instantiate_clauses-requires-clause-closed
instantiate_clauses-requires-clause-closed c =
    ap outer_binder (trees-later c.placeholders_for_item.new.cx.entries c.instantiate_trait_ref.new.cx.entries c.instantiate_trait_ref.ensures.terms.grew.keeps args_lists c.in_ok-args.args.0 c.in_ok-args.ensures.held ∙ c.in_ok-args.ensures.are)
    ∙ placeholders-closed 0 (map sort_of_param c.deref.result.now)

pub instantiate_clauses-requires-clause-fits : goal.instantiate_clauses-requires-clause-fits
instantiate_clauses-requires-clause-fits c =
    let one = c.placeholders_for_item.new.cx.entries in
    let two = c.instantiate_trait_ref.new.cx.entries in
    let k = c.instantiate_trait_ref.ensures.terms.grew.keeps in
    let A = c.in_ok-args.args.0 in
    clauses-fit c.args.cx.now.entries two (λ i e h. k i e (c.placeholders_for_item.ensures.terms.grew.keeps i e h)) c.args.def.now c.requires.held c.requires.written A
    (trees-later one two k args_lists A c.in_ok-args.ensures.held ∙ c.in_ok-args.ensures.are ∙ ap (λ ps. placeholders_from 0 (map sort_of_param ps)) c.deref.ensures.value)
    c.deref-2.result.now c.deref-2.ensures.value

pub returns-clause-terms : goal.returns-clause-terms
returns-clause-terms c = record {
  grew = grew-on c.placeholders_for_item.ensures.terms.grew (grew-on c.instantiate_trait_ref.ensures.terms.grew c.instantiate_clauses.ensures.terms.grew);
  full = tt;
}

pub returns-clause-is : goal.returns-clause-is
returns-clause-is c =
    let old = c.args.cx.now.entries in
    let one = c.placeholders_for_item.new.cx.entries in
    let two = c.instantiate_trait_ref.new.cx.entries in
    let new = c.instantiate_clauses.new.cx.entries in
    let def = c.args.def.now in
    let k1 = c.placeholders_for_item.ensures.terms.grew.keeps in
    let k2 = c.instantiate_trait_ref.ensures.terms.grew.keeps in
    let k3 = c.instantiate_clauses.ensures.terms.grew.keeps in
    let A = c.in_ok-args.args.0 in
    let P = placeholders_from 0 (map sort_of_param def.params.items) in
    let are : trees_at one A ≡ P = c.in_ok-args.ensures.are ∙ ap (λ ps. placeholders_from 0 (map sort_of_param ps)) c.deref.ensures.value in
    let r = c.in_ok-header.header in
    let held = c.in_ok-header.ensures.held in
    record {
      header = reference-same two new k3 r held ∙ c.in_ok-header.ensures.is ∙ ap (λ z. with_args z (reference_in one def.header)) are
          ∙ ap (with_args P) (reference-same old one k1 def.header c.requires.held.header) ∙ header-is old c.lawful.ensures def c.requires.held c.requires.written;
      clauses = c.in_ok-clauses.ensures.are ∙ ap (λ z. all_with_args z (references_in two c.deref-2.result.now)) (trees-later one two k2 args_lists A c.in_ok-args.ensures.held ∙ are)
          ∙ ap (λ rs. all_with_args P (references_in two rs)) c.deref-2.ensures.value
          ∙ ap (all_with_args P) (all-same old two (λ i e h. k2 i e (k1 i e h)) def.clauses.items c.requires.held.clauses) ∙ clauses-are old c.lawful.ensures def c.requires.held c.requires.written;
      header_held = reference-kept two new k3 r held;
      clauses_held = c.in_ok-clauses.ensures.held;
    }
