use Rattle.std.proofs.Common.{◌≡◌, ◌∙◌, true, ap, sym, subst}
use Rattle.sessions.specs.TypeTerms.Promised.Handles.{trees_at}
use Rattle.sessions.proofs.TypeTerms.Grown.{grew-on}
use Rattle.sessions.specs.TermFolds.Signatures.{StartsWithType}
use Rattle.sessions.specs.Declarations.Items.{declared, reference_in}
use Rattle.sessions.specs.Declarations.Relevant.{matches_in, next_above}
use Rattle.sessions.proofs.Declarations.Growth.{args-same, reference-kept, reference-same}
use Rattle.sessions.specs.InferTable.Content.{Table, Ready, variables_of}
use Rattle.sessions.specs.InferTable.Kept.{ready-later}
use Rattle.sessions.specs.CandidateAssembly.Kept.{ready-kept}
use Rattle.sessions.specs.ProofChecker.Steps.{term_of}
use Rattle.sessions.proofs.ProofChecker.Later.{term-same}
use Rattle.explain_sessions.specs.Unknowns.{speaks_of_known}
use Rattle.explain_sessions.proofs.PassedImpls.{one-more, all-considered, same-matches, no-rule-before, fewer-left}
use Rattle.explain_sessions.proofs.Unmatched.{instance-of}
use Rattle.explain_sessions.proofs.apart.all_are_apart.Goals as goal

pub next_matching_impl-requires-clause-held : goal.next_matching_impl-requires-clause-held
next_matching_impl-requires-clause-held c = c.declarations_are_kept.ensures.held c.args.cx.now.entries c.impls.cx.entries c.args.declarations.now c.impls.invariant.grew.keeps c.requires.ready.held

pub next_matching_impl-requires-clause-reference : goal.next_matching_impl-requires-clause-reference
next_matching_impl-requires-clause-reference c = reference-kept c.args.cx.now.entries c.impls.cx.entries c.impls.invariant.grew.keeps c.args.reference c.requires.reference

pub next_matching_impl-requires-clause-first : goal.next_matching_impl-requires-clause-first
next_matching_impl-requires-clause-first c =
    subst StartsWithType (sym (args-same c.args.cx.now.entries c.impls.cx.entries c.impls.invariant.grew.keeps c.args.reference c.requires.reference)) c.requires.first

pub impl_is_apart-requires-clause-table : goal.impl_is_apart-requires-clause-table
impl_is_apart-requires-clause-table c = c.impls.invariant.ready

pub impl_is_apart-requires-clause-no_values : goal.impl_is_apart-requires-clause-no_values
impl_is_apart-requires-clause-no_values c = ap (λ (t : Table). t.values) c.impls.invariant.table ∙ c.requires.no_values

pub impl_is_apart-requires-clause-reference : goal.impl_is_apart-requires-clause-reference
impl_is_apart-requires-clause-reference c = reference-kept c.args.cx.now.entries c.impls.cx.entries c.impls.invariant.grew.keeps c.args.reference c.requires.reference

pub impl_is_apart-requires-clause-own : goal.impl_is_apart-requires-clause-own
impl_is_apart-requires-clause-own c =
    let es = c.args.cx.now.entries in
    let now = c.impls.cx.entries in
    let r = c.args.reference in
    subst (λ (t : Table). speaks_of_known (variables_of t) (trees_at now r.args.0) ≡ true) (sym c.impls.invariant.table)
    (subst (λ x. speaks_of_known (variables_of c.args.table.now) x ≡ true) (sym (args-same es now c.impls.invariant.grew.keeps r c.requires.reference)) c.requires.own)

pub impl_is_apart-requires-clause-ready : goal.impl_is_apart-requires-clause-ready
impl_is_apart-requires-clause-ready c = ready-kept c.args.declarations.now c.args.cx.now.entries c.impls.cx.entries c.impls.invariant.grew.keeps c.requires.ready

pub impls-smaller : goal.impls-smaller
impls-smaller c =
    let now = c.impls.cx.entries in
    fewer-left c.impls.last c.in-Some.id (matches_in now c.args.declarations.now (reference_in now c.args.reference)) c.in-Some.ensures.is

pub impls-preserved : goal.impls-preserved
impls-preserved c =
    let es = c.args.cx.now.entries in
    let now = c.impls.cx.entries in
    let new = c.impl_is_apart.new.cx.entries in
    let inv = c.impls.invariant in
    let k = inv.grew.keeps in
    let d = c.args.declarations.now in
    let r = c.args.reference in
    let held = c.requires.ready.held in
    let found = c.in_ok-impl_is_apart.ensures in
    record {
      grew = grew-on inv.grew found.grew;
      ready = subst (Ready new) (sym found.table) (ready-later now new c.impls.table found.grew.keeps inv.ready);
      table = found.table ∙ inv.table;
      none =
          one-more es d (reference_in es r) c.requires.known (instance-of c.impl_rules_are_instances.ensures) c.impls.last inv.none c.next_matching_impl.ensures.rises c.in-Some.id
          (c.in-Some.ensures.is ∙ ap (next_above c.impls.last) (same-matches es now d r (c.declarations_are_kept.ensures.written es now d k held) (reference-same es now k r c.requires.reference)))
          (no-rule-before (declared now d) (declared es d) (term_of now r) (term_of es r) c.in-Some.id.index (c.declarations_are_kept.ensures.declares es now d k held) (term-same es now k r c.requires.reference) (found.apart c.if-not-branch.false));
    }

pub returns-clause-none : goal.returns-clause-none
returns-clause-none c = λ q.
    let es = c.args.cx.now.entries in
    let now = c.impls.cx.entries in
    let inv = c.impls.invariant in
    let k = inv.grew.keeps in
    let d = c.args.declarations.now in
    let r = c.args.reference in
    let held = c.requires.ready.held in
    all-considered es d (reference_in es r) c.requires.known (instance-of c.impl_rules_are_instances.ensures) c.impls.last inv.none
    (c.in_default.ensures.is ∙ ap (next_above c.impls.last) (same-matches es now d r (c.declarations_are_kept.ensures.written es now d k held) (reference-same es now k r c.requires.reference)))
