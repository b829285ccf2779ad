use Rattle.std.proofs.Common.{◌∙◌, ap, sym}
use Rattle.type_terms.specs.Kept.{trees-is}
use Rattle.type_terms.specs.Kinds.{args_trees}
use Rattle.type_terms.specs.Promised.Worlds.{Reference}
use Rattle.type_terms.specs.Terms.{args_lists}
use Rattle.session_inference.proofs.Assumed.{terms-found, there-held}
use Rattle.session_inference.proofs.assuming.reference_at.Goals as goal

pub args_in-requires-clause-held : goal.args_in-requires-clause-held
args_in-requires-clause-held c = there-held c.args.cx.now.interner.entries c.args.terms.now c.requires.terms c.args.ids.now c.in_ok-list.list.items c.in_ok-list.ensures.there

pub returns-clause-is : goal.returns-clause-is
returns-clause-is c =
    let es = c.args.cx.now.interner.entries in
    let xs = c.in_ok-list.list.items in
    ap (λ z. (let r : Reference = record { trait = c.args.trait_id.index; args = z } in r))
    (trees-is c.args_in.new.cx.interner.entries args_lists c.in_ok-args.args.0 (args_trees es xs) c.in_ok-args.ensures.is ∙ sym (terms-found es c.args.terms.now c.args.ids.now xs c.in_ok-list.ensures.there))
