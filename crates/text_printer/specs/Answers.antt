-- What the answers of the code stand for among the definitions.
use Rattle.std.specs.Prelude.{ℕ, List, [], ◌∷◌, ◌++◌, map, codes}
use Rattle.std.specs.Borrow.{Bor}
use Rattle.std.specs.Fmt.{decimal}
use Rattle.std.specs.Option.{option_map}
use Rattle.text_language.specs.Output as output
use Rattle.text_printer.specs.declared.answer.ValueText.{ValueText}
use Rattle.text_printer.specs.declared.answer.Answer.{Answer}
use Rattle.text_printer.specs.declared.answer.Answer.TheVariants.{Fault, Accepted, Nonlocal, Uncovered, Overlap, Compatible, Breaking, Held, Missing, Undecided, Yes, Maybe, Unproved, No, Open}

abbrev pub value_of : ValueText → output.ValueText
value_of v = record { variable = v.variable.items; term = v.term.items }

-- the bytes behind a reference
abbrev pub text_of : Bor (List ℕ) → List ℕ
text_of t = t.now

abbrev pub answer_of : Answer → output.Answer
answer_of (Fault l n) = output.fault l n
answer_of (Accepted n) = output.accepted n.now
answer_of (Nonlocal n k) = output.nonlocal n.now k
answer_of (Uncovered n k p b) = output.uncovered n.now k p.now (option_map text_of b)
answer_of (Overlap n k o j) = output.overlap n.now k o.now j
answer_of (Compatible n) = output.compatible n.now
answer_of (Breaking n k) = output.breaking n.now k
answer_of (Held n) = output.held n.now
answer_of (Missing n k j) = output.missing n.now k j
answer_of (Undecided n k j) = output.undecided n.now k j
answer_of (Yes q vs) = output.yes q (map value_of vs.now)
answer_of (Maybe q vs) = output.maybe q (map value_of vs.now)
answer_of (Unproved q) = output.unproved q
answer_of (No q) = output.no q
answer_of (Open q) = output.unrefuted q

-- how the line of a crate with an orphan impl begins
abbrev pub orphan_start : List ℕ → ℕ → List ℕ
orphan_start n k = output.crate_start n ++ codes "orphan impl " ++ decimal k

-- values after the first one
abbrev pub more_values : List output.ValueText → List ℕ
more_values [] = []
more_values (v ∷ vs) = codes ", " ++ (output.value_text v ++ more_values vs)
