-- Impls whose where-clauses have no type or const parameters except those that occur in the header with the same kind.
use Rattle.std.specs.Prelude.{◌≡◌, ℕ, true}
use Rattle.type_terms.specs.Promised.Label.{Sort}
use Rattle.type_terms.specs.Promised.Trees.{some_node}
use Rattle.type_terms.specs.Promised.Worlds.{World, Reference, ImplDecl}
use Rattle.type_terms.specs.Promised.Proofs.{In}
use Rattle.candidate_model.specs.Candidates.{is_this_param}

abbrev pub ImplsAreDetermined : World → Type 0
ImplsAreDetermined V =
    (i : ImplDecl) (r : Reference) → In i V.impls → In r i.clauses → (s : Sort) (j : ℕ) → some_node (is_this_param s j) r.args ≡ true → some_node (is_this_param s j) i.header.args ≡ true
