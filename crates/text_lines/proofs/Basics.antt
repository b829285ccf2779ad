-- Small facts that the proofs of several files cite.
use Rattle.std.proofs.Common.{List, ◌≡◌, [], refl, ◌∷◌, append_assoc, ◌∙◌, ap, ◌++◌}
use Rattle.std.specs.List.{flat_map}
use Rattle.text_lines.specs.LineParts.{part_uses, clause_parts}
use Rattle.text_language.specs.Promised.Declarations.{Declarations}
use Rattle.text_language.specs.Promised.Syntax.{Clause}
use Rattle.text_language.specs.Uses.{clause_uses, type_uses, bound_uses}
use Rattle.type_terms.specs.Promised.Label.{of_type}

pub clauses-use : (d : Declarations) (ks : List Clause) → flat_map (clause_uses d) ks ≡ flat_map (part_uses d) (flat_map clause_parts ks)
clauses-use d [] = refl
clauses-use d (k ∷ ks) =
    append_assoc (type_uses d [] of_type k.subject) (bound_uses d k.bound) (flat_map (clause_uses d) ks)
    ∙ ap (λ x. type_uses d [] of_type k.subject ++ (bound_uses d k.bound ++ x)) (clauses-use d ks)
