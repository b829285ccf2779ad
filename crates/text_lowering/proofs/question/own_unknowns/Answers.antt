use Rattle.std.proofs.Common.{◌∙◌, ◌+◌, ◌++◌, ◌∷◌, ap, sym, subst, map, drop, ◌≡◌, refl}
use Rattle.text_language.specs.Names.{own_from}
use Rattle.type_terms.specs.Promised.Handles.{arg_trees, ArgsHeld}
use Rattle.type_terms.proofs.Grown.{grew-on}
use Rattle.text_tables.specs.Views.{variable_of}
use Rattle.text_lowering.proofs.Unknowns.{unknowns-further, args-more, next-left}
use Rattle.text_lowering.proofs.question.own_unknowns.Goals as goal

pub loop-variable-preserved : goal.loop-variable-preserved
loop-variable-preserved c =
    let i = c.loop-variable.variable-index in
    let x = c.variable-item.result in
    let vs = c.args.variables.now in
    let old = c.loop-variable.cx.entries in
    let new = c.next_unknown.new.cx.entries in
    let k = c.next_unknown.ensures.terms.grew.keeps in
    let inv = c.loop-variable.invariant in
    let before = c.loop-variable.counts in
    let behind = c.next_unknown.new.counts in
    let us = c.loop-variable.unknowns.items in
    let u = c.in_ok-unknown.unknown in
    let put = c.in_ok-push.ensures.items in
    let left = own_from before.types before.consts (map variable_of (drop i vs)) in
    let rest = own_from behind.types behind.consts (map variable_of (drop (i + 1) vs)) in
    let cut : left ≡ arg_trees new u ∷ rest =
    ap (λ l. own_from before.types before.consts (map variable_of l)) (next-left vs i x c.loop-variable-test.true c.variable-item.is)
    ∙ c.in_ok-unknown.ensures.is (variable_of x) (map variable_of (drop (i + 1) vs)) refl in
    record {
      grew = grew-on inv.grew c.next_unknown.ensures.terms.grew;
      are = ap (λ l. map (arg_trees new) l ++ rest) put ∙ unknowns-further old new k us u left rest (own_from 0 0 (map variable_of vs)) inv.held inv.are cut;
      held = subst (ArgsHeld new) (sym put) (args-more old new k us u inv.held c.in_ok-unknown.ensures.held);
    }
