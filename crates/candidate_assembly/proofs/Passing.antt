-- The impls that can match a goal's reference, by heads and handles, are those that are considered for the goal.
use Rattle.std.proofs.Common.{◌≡◌, Bool, true, false, cond, ◌&&◌, not, List, [], ◌∷◌, refl, ap}
use Rattle.std.specs.Prelude.{◌==◌, filter, map}
use Rattle.type_terms.specs.Promised.Trees.{Trees, none, tree, erase, erase_label}
use Rattle.type_terms.specs.Promised.Worlds.{ImplDecl}
use Rattle.type_terms.specs.Promised.Handles.{Entry, trees_at}
use Rattle.term_folds.specs.Signatures.{StartsWithType}
use Rattle.declarations.specs.Apart.{are_apart}
use Rattle.declarations.specs.Items.{Items, HeldImpl, impl_in}
use Rattle.declarations.specs.Promised.Elaboration.{Each}
use Rattle.declarations.specs.Relevant as declared
use Rattle.candidate_model.specs.Asking.{GoalOverKinds, with_plain_head}
use Rattle.candidate_model.specs.Candidates.{is_relevant_to, can_match}
use Rattle.candidate_assembly.specs.Headers.{matching_in}
use Rattle.candidate_model.proofs.Basics.{plain-head}

same-relevance : (A H : Trees) → StartsWithType A → with_plain_head H ≡ H → declared.is_relevant_to (erase A) (erase H) ≡ is_relevant_to (with_plain_head A) H
same-relevance none H s h = absurd s
same-relevance (tree l c o) H s h = plain-head (erase_label l) H h

one-name : (p q : Bool) (i : ImplDecl) (xs ys : List ImplDecl) → p ≡ q → map (λ (j : ImplDecl). j.name) xs ≡ map (λ (j : ImplDecl). j.name) ys
    → map (λ (j : ImplDecl). j.name) (cond p (i ∷ xs) xs) ≡ map (λ (j : ImplDecl). j.name) (cond q (i ∷ ys) ys)
one-name true true i xs ys e r = ap (λ ns. i.name ∷ ns) r
one-name true false i xs ys e r = absurd cc
one-name false true i xs ys e r = absurd cc
one-name false false i xs ys e r = r

module _ (es : List Entry) (a : GoalOverKinds) (starts : StartsWithType a.reference.args) where
  abbrev matches : ImplDecl → Bool
  matches i = (i.header.trait == a.reference.trait) && can_match a.reference.args i.header.args

  same-test : (i : ImplDecl) → with_plain_head i.header.args ≡ i.header.args → declared.is_match a.reference.trait a.reference.args i ≡ matches i
  same-test i h = ap (λ b. (i.header.trait == a.reference.trait) && (b && not (are_apart a.reference.args i.header.args))) (same-relevance a.reference.args i.header.args starts h)

  same-names : (is : List HeldImpl) → Each (λ i. with_plain_head (trees_at es i.def.header.args.0) ≡ trees_at es i.def.header.args.0) is
      → map (λ (j : ImplDecl). j.name) (filter (declared.is_match a.reference.trait a.reference.args) (map (λ i. impl_in es i.id i.def) is))
      ≡ map (λ (j : ImplDecl). j.name) (filter matches (map (λ i. impl_in es i.id i.def) is))
  same-names [] h = refl
  same-names (i ∷ is) h =
      one-name (declared.is_match a.reference.trait a.reference.args (impl_in es i.id i.def)) (matches (impl_in es i.id i.def)) (impl_in es i.id i.def)
      (filter (declared.is_match a.reference.trait a.reference.args) (map (λ i. impl_in es i.id i.def) is)) (filter matches (map (λ i. impl_in es i.id i.def) is))
      (same-test (impl_in es i.id i.def) h.0) (same-names is h.1)

  pub same-matching : (d : Items) → Each (λ (i : HeldImpl). with_plain_head (trees_at es i.def.header.args.0) ≡ trees_at es i.def.header.args.0) d.impls
      → declared.matches_in es d a.reference ≡ matching_in es d a
  same-matching d h = same-names d.impls h
