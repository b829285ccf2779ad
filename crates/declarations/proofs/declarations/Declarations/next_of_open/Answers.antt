use Rattle.std.proofs.Common.{None, sym, ap, ◌∙◌, subst}
use Rattle.std.specs.Option.{option_map}
use Rattle.type_terms.specs.Promised.Handles.{trees_at}
use Rattle.type_terms.specs.declared.ImplId.{ImplId}
use Rattle.declarations.specs.Heads.{head_of}
use Rattle.declarations.specs.Index.{ids_of}
use Rattle.declarations.specs.Items.{HeldImpl, ids_with, ids_headed}
use Rattle.declarations.specs.Merges.{IsMerge, Rises}
use Rattle.declarations.specs.Relevant.{next_above}
use Rattle.declarations.proofs.Above.{rises-with, rises-headed}
use Rattle.declarations.proofs.Matched.{open-matching}
use Rattle.declarations.proofs.Merging.{rises-filtered}
use Rattle.declarations.proofs.Relevance.{rel, two-keys}
use Rattle.declarations.proofs.Walking.{walk-finds}
use Rattle.declarations.proofs.declarations.Declarations.next_of_open.Goals as goal

pub next_meeting-requires-clause-first : goal.next_meeting-requires-clause-first
next_meeting-requires-clause-first c =
    subst Rises (sym c.impls_with-blanket.ensures.is) (rises-with c.args.trait_ref.def_id.index None c.args.self.now.impls c.impls_with-blanket.ensures.rises)

pub next_meeting-requires-clause-second : goal.next_meeting-requires-clause-second
next_meeting-requires-clause-second c =
    subst Rises (sym c.with_head-same_head.ensures) (rises-headed c.args.trait_ref.def_id.index _ c.args.self.now.impls c.impls_with-blanket.ensures.rises)

pub returns-clause-is : goal.returns-clause-is
returns-clause-is c =
    let es = c.args.cx.now.entries in
    let d = c.args.self.now in
    let t = c.args.trait_ref.def_id.index in
    let args = trees_at es c.args.trait_ref.args.0 in
    let h = head_of args in
    let rises = c.impls_with-blanket.ensures.rises in
    let all = ids_of (rel t h) d.impls in
    let headed = c.with_head-same_head.ensures ∙ ap (λ k. ids_headed t k d.impls) c.requires.head in
    let second = subst (λ l. IsMerge (ids_with t None d.impls) l all) (sym headed) (two-keys t h d.impls) in
    let merged = subst (λ l. IsMerge l c.with_head-same_head.result.now all) (sym c.impls_with-blanket.ensures.is) second in
    ap (option_map (λ (i : ImplId). i.index)) (c.next_meeting.ensures all merged (rises-filtered (λ (i : HeldImpl). i.id) (rel t h) d.impls rises))
    ∙ walk-finds c.args.last es d args (rel t h) rises
    ∙ ap (next_above c.args.last) (open-matching es d t args c.requires.first c.requires.held)
