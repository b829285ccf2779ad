-- What a declared view says of its impls and of the bounds of its traits.
use Rattle.std.proofs.Common.{◌≡◌, true, ◌&&◌}
use Rattle.std.specs.List.{list_all}
use Rattle.type_terms.specs.Promised.Worlds.{World, Reference, StructDecl, TraitDecl, ImplDecl}
use Rattle.type_terms.specs.Promised.Proofs.{In}
use Rattle.type_terms.proofs.NoHolds.{member-each}
use Rattle.type_terms.proofs.Walking.{left, right}
use Rattle.candidate_model.specs.Declared.{are_terms, are_references, is_declared_view}

module _ (V : World) (declared : is_declared_view V ≡ true) where
  later : list_all (λ (x : TraitDecl). are_references x.bounds) V.traits && list_all (λ (i : ImplDecl). are_terms i.header.args && are_references i.clauses) V.impls ≡ true
  later = right (list_all (λ (x : StructDecl). list_all are_terms x.fields) V.structs) _ declared

  impl-declared : (i : ImplDecl) → In i V.impls → are_terms i.header.args && are_references i.clauses ≡ true
  impl-declared i j = member-each (λ (x : ImplDecl). are_terms x.header.args && are_references x.clauses) V.impls i (right (list_all (λ (x : TraitDecl). are_references x.bounds) V.traits) _ later) j

  pub header-declared : (i : ImplDecl) → In i V.impls → are_terms i.header.args ≡ true
  header-declared i j = left (are_terms i.header.args) (are_references i.clauses) (impl-declared i j)

  pub clause-declared : (i : ImplDecl) (c : Reference) → In i V.impls → In c i.clauses → are_terms c.args ≡ true
  clause-declared i c j k = member-each (λ (r : Reference). are_terms r.args) i.clauses c (right (are_terms i.header.args) (are_references i.clauses) (impl-declared i j)) k

  pub bound-declared : (x : TraitDecl) (b : Reference) → In x V.traits → In b x.bounds → are_terms b.args ≡ true
  bound-declared x b i j =
      member-each (λ (r : Reference). are_terms r.args) x.bounds b (member-each (λ (y : TraitDecl). are_references y.bounds) V.traits x (left (list_all (λ (x : TraitDecl). are_references x.bounds) V.traits) _ later) i) j
