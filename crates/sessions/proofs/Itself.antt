-- Each unknown without value stands for itself.
use Rattle.std.proofs.Common.{◌≡◌, List, refl, ◌∙◌}
use Rattle.type_terms.specs.Promised.Trees.{Trees, erase}
use Rattle.type_terms.specs.Promised.Handles.{Entry}
use Rattle.infer_table.specs.Content.{Table, content, variables_of, Ready, IsProper}
use Rattle.infer_table.specs.Solutions.{Assignment, Solves, IsSorted, instance, resolved}
use Rattle.infer_table.proofs.ContentFacts.{older-sorted}
use Rattle.infer_table.proofs.SolvableLaws.{IsTidy, completed, itself, instance-itself, instance-completed, resolved-proper, sound, tidy-completion}

itself-sorted : IsSorted itself
itself-sorted k v = refl

module _ (es : List Entry) (t : Table) (ready : Ready es t) where
  pub tidied : IsTidy (content es t.values)
  tidied =
      let s = sound es t ready in
      record { valued = s.valued; acyclic = s.acyclic; sorted = older-sorted (variables_of t) (content es t.values) s.older; proper = s.proper }

  -- the solution
  abbrev pub themselves : Assignment
  themselves = completed (content es t.values) itself

  pub themselves-solve : Solves themselves (content es t.values)
  themselves-solve = (tidy-completion (content es t.values) itself tidied itself-sorted).solves

  pub themselves-read : (x : Trees) → IsProper x → instance themselves x ≡ erase (resolved (content es t.values) x)
  themselves-read x p =
      instance-completed (content es t.values) itself tidied itself-sorted x p ∙ instance-itself (resolved (content es t.values) x) (resolved-proper (content es t.values) x ready.proper p)
