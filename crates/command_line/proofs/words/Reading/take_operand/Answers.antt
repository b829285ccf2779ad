use Rattle.command_line.proofs.words.Reading.take_operand.Goals as goal

pub invariant_of-self-then-is_number : goal.invariant_of-self-then-is_number
invariant_of-self-then-is_number c =
    let word = (c.parse_depth.ensures c.in-Some.depth).0 c.in-Some.is in
    record { deep = word.positive; limited = word.small }
