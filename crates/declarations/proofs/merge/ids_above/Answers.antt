use Rattle.std.proofs.Common.{drop, take, length-drop, leb, ap, sym, ◌∙◌, rules}
use Rattle.std.proofs.Math.Seq.{take-length}
use Rattle.std.specs.Prelude.{filter}
use Rattle.std.proofs.lemmas.List.Sorted.{IsPartitionPoint-from_clause, IsPartitionedBy-leb}
use Rattle.type_terms.specs.declared.ImplId.{ImplId}
use Rattle.declarations.specs.Relevant.{is_above}
use Rattle.declarations.proofs.Above.{rises-up, searched, all-above}
use Rattle.declarations.proofs.merge.ids_above.Goals as goal

pub returns-in-Some : goal.returns-in-Some
returns-in-Some c =
    let ids = c.args.ids.now in
    let last = c.in-Some.last in
    let n = c.partition_point-considered.result in
    let parted = IsPartitionedBy-leb (λ (i : ImplId). i.index) ids last.index (rises-up ids c.requires) in
    let point = IsPartitionPoint-from_clause (λ (i : ImplId). leb i.index last.index) ids n c.partition_point-considered.ensures.partitioned parted (λ a r q k. search rules) in
    let rest = ap (λ k. take k (drop n ids)) (sym (length-drop n ids)) ∙ take-length (drop n ids) in
    rest ∙ searched last ids n c.partition_point-considered.ensures.bound point
    ∙ ap (λ o. filter (λ (i : ImplId). is_above o i.index) ids) (sym c.in-Some.is)

pub returns-in-None : goal.returns-in-None
returns-in-None c = all-above c.args.ids.now ∙ ap (λ o. filter (λ (i : ImplId). is_above o i.index) c.args.ids.now) (sym c.in-None.is)
