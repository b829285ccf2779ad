-- What the unknowns of a question resolve to, in their place.
use Rattle.std.proofs.Common.{◌≡◌, ℕ, List, refl, sym, ap, ◌∙◌}
use Rattle.type_terms.specs.Promised.Label.{Sort, of_type, of_const, of_lifetime, infer, static}
use Rattle.type_terms.specs.Promised.Trees.{Trees, leaf, erase}
use Rattle.type_terms.specs.Promised.Handles.{Entry}
use Rattle.infer_table.specs.Content.{Table, content, Ready}
use Rattle.infer_table.specs.Solutions.{HasValues, IsSorted, tree_of, resolved}
use Rattle.infer_table.proofs.ContentFacts.{valued}
use Rattle.infer_table.proofs.EquationFacts.{solved-sorted}
use Rattle.infer_table.proofs.OccurFacts.{lifetime-unbound}
use Rattle.infer_table.proofs.SolutionLaws.{resolved-unbound}
use Rattle.sessions.specs.Laws.{ValuesFill}
use Rattle.sessions.proofs.Filling.{values-fit-kinds, filled-is}
use Rattle.sessions.proofs.Itself.{themselves, themselves-solve, themselves-read}

module _ (es : List Entry) (t : Table) (ready : Ready es t) where
  abbrev value : Trees → Trees
  value u = erase (resolved (content es t.values) u)

  sorted : IsSorted (themselves es t ready)
  sorted = solved-sorted (themselves es t ready) (content es t.values) (themselves-solve es t ready)

  gives : (k : Sort) (v : ℕ) → HasValues k → value (leaf (infer k v)) ≡ tree_of (themselves es t ready k v)
  gives of_type v h = sym (themselves-read es t ready (leaf (infer of_type v)) (refl, tt))
  gives of_const v h = sym (themselves-read es t ready (leaf (infer of_const v)) (refl, tt))
  gives of_lifetime v h = absurd h

  lifetime-is : (v : ℕ) → value (leaf (infer of_lifetime v)) ≡ leaf static
  lifetime-is v = ap erase (resolved-unbound (content es t.values) of_lifetime v (lifetime-unbound (content es t.values) v (valued es t.values)))

pub values-fill : ValuesFill
values-fill es t ready ks = (
  values-fit-kinds (value es t ready) (themselves es t ready) (sorted es t ready) (gives es t ready) (lifetime-is es t ready) ks,
  λ x p h. filled-is (value es t ready) (themselves es t ready) (sorted es t ready) (gives es t ready) (lifetime-is es t ready) ks x p h ∙ themselves-read es t ready x p,
)
