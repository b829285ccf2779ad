use Rattle.std.proofs.Common.{Some, sym, subst}
use Rattle.type_terms.specs.Promised.Handles.{trees_at}
use Rattle.declarations.specs.Items.{reference_in}
use Rattle.declarations.specs.Relevant.{is_match, matches_in}
use Rattle.pair_checks.proofs.Matching.{AreFound, fewer-left, one-found, all-found, names-ascend}
use Rattle.pair_checks.proofs.by_trait.matching_impls.Goals as goal

pub impls-smaller : goal.impls-smaller
impls-smaller c =
    let es = c.args.cx.now.entries in
    fewer-left (matches_in es c.args.declarations.now (reference_in es c.args.reference)) c.impls.last c.in-Some.id c.in-Some.ensures.is

pub impls-preserved : goal.impls-preserved
impls-preserved c =
    let es = c.args.cx.now.entries in
    let d = c.args.declarations.now in
    let names = matches_in es d (reference_in es c.args.reference) in
    subst (AreFound names (Some c.in-Some.id)) (sym c.in_ok-push.ensures.items)
    (one-found names (names-ascend (is_match c.args.reference.def_id.index (trees_at es c.args.reference.args.0)) es d.impls c.in-Some.ensures.rises) c.impls.last c.impls.found.items c.in-Some.id
    c.in-Some.ensures.is c.impls.invariant)

pub returns : goal.returns
returns c =
    let es = c.args.cx.now.entries in
    all-found (matches_in es c.args.declarations.now (reference_in es c.args.reference)) c.impls.last c.impls.found.items c.in_default.ensures.is c.impls.invariant
