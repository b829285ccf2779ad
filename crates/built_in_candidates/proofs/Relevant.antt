-- The impls that can match a goal, by the heads of their self types, are those that do.
use Rattle.std.proofs.Common.{◌≡◌, ℕ, Bool, true, false, cond, ◌&&◌, List, [], ◌∷◌, refl, ap, ◌∙◌}
use Rattle.std.specs.Prelude.{◌==◌, map, filter}
use Rattle.type_terms.specs.Promised.Label.{Label}
use Rattle.type_terms.specs.Promised.Trees.{Trees, none, tree, nth, erase, erase_label}
use Rattle.type_terms.specs.Promised.Worlds.{ImplDecl}
use Rattle.type_terms.specs.Promised.Erased.{erased_impl}
use Rattle.type_terms.specs.Promised.Handles.{Entry, trees_at}
use Rattle.term_folds.specs.Signatures.{StartsWithType}
use Rattle.declarations.specs.Items.{Items, HeldImpl, impl_in, written}
use Rattle.declarations.specs.Promised.Elaboration.{Each}
use Rattle.declarations.specs.Relevant.{relevant_in}
use Rattle.candidate_model.specs.Asking.{GoalOverKinds, self_of, with_plain_head}
use Rattle.candidate_model.specs.Candidates.{is_relevant_to}
use Rattle.built_in_candidates.specs.BuiltIn.{HavePlainHeads}
use Rattle.candidate_model.proofs.Basics.{plain-head}

abbrev pub names : List ImplDecl → List ℕ
names is = map (λ (i : ImplDecl). i.name) is

-- ---- impls match by their heads, with lifetimes or without

module _ (t : ℕ) (l : Label) (c o : Trees) where
  abbrev relevant : ImplDecl → Bool
  relevant i = (i.header.trait == t) && is_relevant_to (tree (erase_label l) c o) i.header.args

  abbrev erased-relevant : ImplDecl → Bool
  erased-relevant i = (i.header.trait == t) && is_relevant_to (tree (erase_label l) (erase c) none) i.header.args

  one-name : (p q : Bool) (i : ImplDecl) (es fs : List ImplDecl) → p ≡ q → names es ≡ names fs → names (cond p (erased_impl i ∷ es) es) ≡ names (cond q (i ∷ fs) fs)
  one-name true true i es fs e r = ap (λ ns. i.name ∷ ns) r
  one-name true false i es fs e r = absurd cc
  one-name false true i es fs e r = absurd cc
  one-name false false i es fs e r = r

  names-written : (es : List Entry) (is : List HeldImpl) → Each (λ i. with_plain_head (trees_at es i.def.header.args.0) ≡ trees_at es i.def.header.args.0) is
      → names (filter erased-relevant (map erased_impl (map (λ i. impl_in es i.id i.def) is))) ≡ names (filter relevant (map (λ i. impl_in es i.id i.def) is))
  names-written es [] h = refl
  names-written es (i ∷ is) h =
      one-name (erased-relevant (erased_impl (impl_in es i.id i.def))) (relevant (impl_in es i.id i.def)) (impl_in es i.id i.def)
      (filter erased-relevant (map erased_impl (map (λ i. impl_in es i.id i.def) is))) (filter relevant (map (λ i. impl_in es i.id i.def) is))
      (ap (λ b. (i.def.header.def_id.index == t) && b) (plain-head (erase_label l) (trees_at es i.def.header.args.0) h.0)) (names-written es is h.1)

-- ---- over declarations
module _ (es : List Entry) (d : Items) (a : GoalOverKinds) (S : Trees) (starts : StartsWithType a.reference.args) (self : S ≡ nth a.reference.args 0)
    (plain : HavePlainHeads es d) where
  names-at : (T : Trees) → StartsWithType T → S ≡ nth T 0
      → relevant_in es d a.reference.trait S ≡ names (filter (λ i. (i.header.trait == a.reference.trait) && is_relevant_to (with_plain_head T) i.header.args) (written es d).impls)
  names-at none s e = absurd s
  names-at (tree l c o) s e = ap (relevant_in es d a.reference.trait) e ∙ names-written a.reference.trait l c o es d.impls plain

  pub relevant-names : relevant_in es d a.reference.trait S ≡ names (filter (λ i. (i.header.trait == a.reference.trait) && is_relevant_to (self_of a) i.header.args) (written es d).impls)
  relevant-names = names-at a.reference.args starts self
