use Rattle.std.proofs.Common.{◌≡◌, ◌-◌, drop, take, length, length-drop, leb, ltb, subst, ap, sym, ◌∙◌, rules}
use Rattle.std.proofs.Math.Seq.{take-length}
use Rattle.std.proofs.lemmas.List.Sorted.{IsPartitionPoint-from_clause, IsPartitionedBy-leb, IsPartitionedBy-ltb, IsNonDecreasingBy-drop}
use Rattle.std.specs.List.Sorted.{IsNonDecreasingBy}
use Rattle.text_tables.specs.declared.declared.LaterEntry.{LaterEntry}
use Rattle.text_tables.proofs.InSection.{stand-together}
use Rattle.text_tables.proofs.workspace.impls_of_section.Goals as goal

pub returns : goal.returns
returns c =
    let xs = c.args.entries.now in
    let n = c.args.section in
    let first = c.partition_point-first.result in
    let section = λ (x : LaterEntry). x.section in
    let rest = take (length xs - first) (drop first xs) in
    let left : rest ≡ drop first xs = ap (λ k. take k (drop first xs)) (sym (length-drop first xs)) ∙ take-length (drop first xs) in
    let smaller = IsPartitionPoint-from_clause (λ (x : LaterEntry). ltb x.section n) xs first c.partition_point-first.ensures.partitioned (IsPartitionedBy-ltb section xs n c.requires) (λ a r q k. search rules) in
    let rises = subst (IsNonDecreasingBy section) (sym left) (IsNonDecreasingBy-drop section first xs c.requires) in
    let ones = IsPartitionPoint-from_clause (λ (x : LaterEntry). leb x.section n) rest c.partition_point-count.result c.partition_point-count.ensures.partitioned (IsPartitionedBy-leb section rest n rises) (λ a r q k. search rules) in
    stand-together section n xs rest first c.partition_point-count.result left c.partition_point-first.ensures.bound smaller c.partition_point-count.ensures.bound ones
