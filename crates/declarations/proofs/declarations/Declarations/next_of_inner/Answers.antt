use Rattle.std.proofs.Common.{sym, ap, ◌∙◌, subst}
use Rattle.std.specs.Option.{option_map}
use Rattle.type_terms.specs.Promised.Handles.{trees_at}
use Rattle.type_terms.specs.declared.ImplId.{ImplId}
use Rattle.declarations.specs.declared.heads.ImplHead.{ImplHead}
use Rattle.declarations.specs.declared.heads.ImplKey.TheVariants.{Shallow, Inner}
use Rattle.declarations.specs.Index.{has_key, has_inner_key, ids_of}
use Rattle.declarations.specs.Items.{HeldImpl}
use Rattle.declarations.specs.Merges.{IsMerge, Rises}
use Rattle.declarations.specs.Relevant.{next_above}
use Rattle.declarations.proofs.InnerHeads.{inner-lists, inner-matching}
use Rattle.declarations.proofs.Merging.{rises-filtered}
use Rattle.declarations.proofs.Walking.{walk-finds}
use Rattle.declarations.proofs.declarations.Declarations.next_of_inner.Goals as goal

pub next_meeting-requires-clause-first : goal.next_meeting-requires-clause-first
next_meeting-requires-clause-first c =
    subst Rises (sym c.with_key-shallow.ensures.is)
    (rises-filtered (λ (i : HeldImpl). i.id) (has_key (Shallow c.args.trait_ref.def_id)) c.args.self.now.impls c.with_key-shallow.ensures.rises)

pub next_meeting-requires-clause-second : goal.next_meeting-requires-clause-second
next_meeting-requires-clause-second c =
    subst Rises (sym c.with_key-same_inner.ensures.is)
    (rises-filtered (λ (i : HeldImpl). i.id) (has_key (Inner (record { trait_id = c.args.trait_ref.def_id; self_ty = c.args.self_ty }) c.args.inner)) c.args.self.now.impls c.with_key-shallow.ensures.rises)

pub returns-clause-is : goal.returns-clause-is
returns-clause-is c =
    let es = c.args.cx.now.entries in
    let d = c.args.self.now in
    let t = c.args.trait_ref.def_id in
    let s = c.args.self_ty in
    let u = c.args.inner in
    let h : ImplHead = record { trait_id = t; self_ty = s } in
    let args = trees_at es c.args.trait_ref.args.0 in
    let rises = c.with_key-shallow.ensures.rises in
    let all = ids_of (has_inner_key h u) d.impls in
    let second = subst (λ l. IsMerge (ids_of (has_key (Shallow t)) d.impls) l all) (sym c.with_key-same_inner.ensures.is) (inner-lists t s u d.impls) in
    let merged = subst (λ l. IsMerge l c.with_key-same_inner.result.now all) (sym c.with_key-shallow.ensures.is) second in
    ap (option_map (λ (i : ImplId). i.index)) (c.next_meeting.ensures all merged (rises-filtered (λ (i : HeldImpl). i.id) (has_inner_key h u) d.impls rises))
    ∙ walk-finds c.args.last es d args (has_inner_key h u) rises
    ∙ ap (next_above c.args.last) (inner-matching t s u es args c.requires.first c.requires.head c.requires.inner d c.requires.held)
