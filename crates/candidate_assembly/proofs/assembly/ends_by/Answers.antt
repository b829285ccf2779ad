use Rattle.std.proofs.Common.{sym, ◌∙◌, ap, false}
use Rattle.candidate_assembly.specs.Counted.{ends_by, is_of}
use Rattle.candidate_assembly.proofs.Counted.{ends-behind}
use Rattle.candidate_assembly.proofs.assembly.ends_by.Goals as goal

pub returns-in-Some : goal.returns-in-Some
returns-in-Some c =
    let p = is_of false c.args.section in
    c.has.ensures ∙ sym (ap (ends_by p false) c.in-Some.ensures.cases.0 ∙ ends-behind p false c.in-Some.field-0-1.now c.in-Some.newest.now)
