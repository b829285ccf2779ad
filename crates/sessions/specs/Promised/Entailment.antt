-- What where-clauses entail: a trait reference with parameters, and each closed instance of it for which they have proofs.
use Rattle.std.specs.Prelude.{ℕ, IsTrue, List, [], map}
use Rattle.type_terms.specs.Promised.Label.{Sort, dynamic, placeholder}
use Rattle.type_terms.specs.Promised.Trees.{Trees, none, tree, ◌+++◌, IsA}
use Rattle.type_terms.specs.Promised.Worlds.{World, Reference}
use Rattle.type_terms.specs.Promised.Proofs.{Every, HasProof}
use Rattle.type_terms.specs.Promised.Answers.{is_closed}
use Rattle.type_terms.specs.Promised.Renumbering.{View, HoldsView, renumbered_reference}
use Rattle.type_terms.specs.Promised.Questions.{yes}
use Rattle.sessions.specs.Promised.Together.{filled_references, AreProved}

-- A closed term for each parameter, of its kind.
pub record ClosedArguments : Type 0 where
  pub term : Sort → ℕ → Trees
  pub of_kind : (s : Sort) (i : ℕ) → IsA s (term s i)
  pub closed : (s : Sort) (i : ℕ) → IsTrue (is_closed (term s i))

abbrev mutual
  -- The terms of a query with the arguments for its parameters. For example, `V<T>` with T = u8 is `V<u8>`.
  pub closed_instance : ClosedArguments → Trees → Trees
  closed_instance A none = none
  closed_instance A (tree (placeholder s i) c o) = A.term s i +++ closed_instance A o
  closed_instance A (tree dynamic c o) = tree dynamic (closed_bounds A c) (closed_instance A o)
  closed_instance A (tree l c o) = tree l (closed_instance A c) (closed_instance A o)

  -- The same for the bounds of a `dyn`, none of which is a parameter.
  pub closed_bounds : ClosedArguments → Trees → Trees
  closed_bounds A none = none
  closed_bounds A (tree dynamic c o) = tree dynamic (closed_bounds A c) (closed_bounds A o)
  closed_bounds A (tree l c o) = tree l (closed_instance A c) (closed_bounds A o)

-- The trait reference with the arguments for its parameters.
abbrev pub closed_reference : ClosedArguments → Reference → Reference
closed_reference A r = record { trait = r.trait; args = closed_instance A r.args }

-- r is closed and has a proof.
abbrev pub HasClosedProof : World → Reference → Type 0
HasClosedProof W r = IsTrue (is_closed r.args) × HasProof W [] r

-- In W, the where-clauses E entail r:
-- - r has a proof from E, and
-- - whatever closed terms the parameters are, if all of E have proofs, so has r.
-- For example, with `impl<T> Show for V<T> where T: Show`, the clause `T: Show` entails `V<T>: Show`, and so `V<u8>: Show` if
-- `u8: Show` has a proof. Unknowns stand for themselves.
pub record Entails (W : World) (E : List Reference) (r : Reference) : Type 0 where
  pub generic : HasProof W E r
  pub instances : (A : ClosedArguments) → Every (HasClosedProof W) (map (closed_reference A) E) → HasProof W [] (closed_reference A r)

-- In W, each `yes` by a view that W holds is right: the query's where-clauses entail each of its trait references with the values.
abbrev pub YesHolds : World → List View → Type 0
YesHolds W vs =
    (v : View) → HoldsView W v → (ks : List Sort) (ts : List Trees) (E rs : List Reference) → AreProved v.world ks E rs (yes ts)
    → Every (λ r. Entails W (map (renumbered_reference v.numbers) E) (renumbered_reference v.numbers r)) (filled_references ks ts rs)
