-- The texts of all values.
use Rattle.std.proofs.Common.{◌≡◌, ℕ, List, [], map, ap, ◌∙◌}
use Rattle.type_terms.specs.Promised.Label.{Sort}
use Rattle.type_terms.specs.Promised.Trees.{Trees}
use Rattle.text_language.specs.Promised.Declarations.{Declarations, Question, Variable}
use Rattle.text_language.specs.Names.{question_names, free_unknowns, value_texts, valued, own_unknowns, answer_values}
use Rattle.text_printer.specs.Valued.{text_by}

pub all-texts : (d : Declarations) (q : Question) (ls : List (Variable × Trees)) (us : List (Sort × ℕ)) (ts : List Trees)
    → ls ≡ valued q.variables (own_unknowns q) ts → us ≡ free_unknowns q ls [] → map (text_by (question_names d q us)) ls ≡ answer_values d q ts
all-texts d q ls us ts e f = ap (λ vs. map (text_by (question_names d q vs)) ls) f ∙ ap (value_texts d q) e
