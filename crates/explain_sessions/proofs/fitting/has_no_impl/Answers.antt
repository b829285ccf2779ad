use Rattle.std.proofs.Common.{◌≡◌, ◌∙◌, true, None, sym, subst}
use Rattle.sessions.specs.TermFolds.Signatures.{StartsWithType}
use Rattle.sessions.specs.Declarations.Items.{declared, reference_in}
use Rattle.sessions.proofs.Declarations.Growth.{args-same, reference-kept}
use Rattle.sessions.specs.CandidateAssembly.Kept.{ready-kept}
use Rattle.sessions.specs.ProofChecker.Steps.{term_of}
use Rattle.sessions.proofs.ProofChecker.Later.{term-same}
use Rattle.sessions.proofs.ProofChecker.Results.{mapped}
use Rattle.explain_sessions.specs.Rules.{begins_known}
use Rattle.explain_sessions.proofs.PassedImpls.{all-considered, none-considered, no-impl-before, nothing-next}
use Rattle.explain_sessions.proofs.Unmatched.{instance-of}
use Rattle.explain_sessions.proofs.fitting.has_no_impl.Goals as goal

pub next_matching_impl-matching-requires-clause-first : goal.next_matching_impl-matching-requires-clause-first
next_matching_impl-matching-requires-clause-first c = c.in-Some.ensures.first

pub returns-then-is_none-clause-none : goal.returns-then-is_none-clause-none
returns-then-is_none-clause-none c = λ q.
    let es = c.args.cx.now.entries in
    let d = c.args.declarations.now in
    let r = c.args.reference in
    all-considered es d (reference_in es r) (c.in-Some.ensures.known ∙ sym c.is_known.ensures ∙ c.if-not-is_known.false) (instance-of c.impl_rules_are_instances.ensures) None
    (none-considered (declared es d) (term_of es r))
    (nothing-next c.next_matching_impl-matching.result c.is_none.result c.is_none.ensures c.if-is_none.true ∙ c.next_matching_impl-matching.ensures.is)

pub is_of_table-requires : goal.is_of_table-requires
is_of_table-requires c = reference-kept c.args.cx.now.entries c.table_for_goals.new.cx.entries c.table_for_goals.ensures.grew.keeps c.args.reference c.requires.reference

pub all_are_apart-requires-clause-ready : goal.all_are_apart-requires-clause-ready
all_are_apart-requires-clause-ready c = ready-kept c.args.declarations.now c.args.cx.now.entries c.table_for_goals.new.cx.entries c.table_for_goals.ensures.grew.keeps c.requires.ready

pub all_are_apart-requires-clause-first : goal.all_are_apart-requires-clause-first
all_are_apart-requires-clause-first c =
    subst StartsWithType (sym (args-same c.args.cx.now.entries c.table_for_goals.new.cx.entries c.table_for_goals.ensures.grew.keeps c.args.reference c.requires.reference)) c.in-Some.ensures.first

pub all_are_apart-requires-clause-table : goal.all_are_apart-requires-clause-table
all_are_apart-requires-clause-table c = c.in_ok-table.ensures.ready

pub all_are_apart-requires-clause-no_values : goal.all_are_apart-requires-clause-no_values
all_are_apart-requires-clause-no_values c = c.in_ok-table.ensures.no_values

pub all_are_apart-requires-clause-reference : goal.all_are_apart-requires-clause-reference
all_are_apart-requires-clause-reference c = reference-kept c.args.cx.now.entries c.table_for_goals.new.cx.entries c.table_for_goals.ensures.grew.keeps c.args.reference c.requires.reference

pub all_are_apart-requires-clause-own : goal.all_are_apart-requires-clause-own
all_are_apart-requires-clause-own c = sym c.is_of_table.ensures ∙ c.if-not-is_of_table.false

pub all_are_apart-requires-clause-known : goal.all_are_apart-requires-clause-known
all_are_apart-requires-clause-known c =
    subst (λ x. begins_known x ≡ true) (sym (args-same c.args.cx.now.entries c.table_for_goals.new.cx.entries c.table_for_goals.ensures.grew.keeps c.args.reference c.requires.reference))
    (c.in-Some.ensures.known ∙ sym c.is_known.ensures ∙ c.if-not-is_known.false)

pub returns-clause-none : goal.returns-clause-none
returns-clause-none c =
    let es = c.args.cx.now.entries in
    let now = c.table_for_goals.new.cx.entries in
    let k = c.table_for_goals.ensures.grew.keeps in
    let d = c.args.declarations.now in
    let r = c.args.reference in
    mapped _ _ c.all_are_apart.result
    (λ b f q. no-impl-before (declared now d) (declared es d) (term_of now r) (term_of es r) (c.declarations_are_kept.ensures.declares es now d k c.requires.ready.held) (term-same es now k r c.requires.reference) (f q))
    c.all_are_apart.ensures.none
