-- Supertraits with the arguments of a reference.
use Rattle.std.proofs.Common.{◌≡◌, ℕ, zero, suc, List, [], ◌∷◌, ◌++◌, refl, ap, ◌∙◌, sym, subst, None}
use Rattle.std.specs.Option.{option_or}
use Rattle.type_terms.specs.Promised.Label.{of_type, param}
use Rattle.type_terms.specs.Promised.Trees.{Trees, none, tree, leaf, ◌+++◌, shift, instantiate}
use Rattle.type_terms.specs.Trees.{Single}
use Rattle.type_terms.specs.Promised.Worlds.{Reference, with_args}
use Rattle.type_terms.specs.Promised.Handles.{Entry, Is, Keeps, types, trees_at, ArgHeld, arg_trees}
use Rattle.type_terms.specs.Terms.{Lawful}
use Rattle.type_terms.specs.declared.kinds.GenericArgKind.{GenericArgKind}
use Rattle.type_terms.specs.Kept.{trees-is}
use Rattle.type_terms.proofs.TreeLaws.{append-none, shift-zero}
use Rattle.term_folds.specs.Arguments.{first_misfit, misfit, sort_at}
use Rattle.term_folds.proofs.ParamFacts.{arg-single}
use Rattle.term_folds.specs.declared.predicate.TraitRef.{TraitRef}
use Rattle.type_terms.specs.Pieces.{Piece, one_piece, each_piece}
use Rattle.declarations.specs.Items.{reference_in}
use Rattle.declarations.specs.Held.{ReferenceHeld}
use Rattle.declarations.specs.Applied.{references_in, TraitRefsHeld}
use Rattle.declarations.proofs.Growth.{references-kept, reference-same}

abbrev refer : ℕ → Trees → Reference
refer t a = record { trait = t; args = a }

same-refer : (s t : ℕ) (a b : Trees) → s ≡ t → a ≡ b → refer s a ≡ refer t b
same-refer s t a b p q = ap (λ x. refer x a) p ∙ ap (refer t) q

pub first-trees : List Piece → Trees
first-trees [] = none
first-trees (p ∷ ps) = p.trees

pub first-number : List ℕ → ℕ
first-number [] = 0
first-number (n ∷ ns) = n

pub one-instantiated : (old new : List Entry) (A : Trees) (b r : TraitRef) → r.def_id.index ∷ [] ≡ b.def_id.index ∷ []
    → one_piece (trees_at new r.args.0) ≡ each_piece (λ d t. instantiate d A t) (one_piece (trees_at old b.args.0))
    → reference_in new r ≡ with_args A (reference_in old b)
unfolding first-number first-trees
one-instantiated old new A b r o p =
    same-refer r.def_id.index b.def_id.index (trees_at new r.args.0) (instantiate 0 A (trees_at old b.args.0)) (ap first-number o) (ap first-trees p)

-- one argument is put for a parameter that stands alone
only-argument : (A : Trees) (i : ℕ) → Single A → first_misfit (A +++ none) (leaf (param of_type i)) ≡ None → instantiate 0 (A +++ none) (leaf (param of_type i)) ≡ A +++ none
only-argument none i s h = absurd s
only-argument (tree l c o) zero s h =
    append-none (shift zero zero (tree l c none)) ∙ shift-zero zero (tree l c none) ∙ ap (tree l c) (sym s ∙ sym (append-none o))
only-argument (tree l c o) (suc i) s h = absurd (no-other i (subst (λ (z : Trees). first_misfit (tree l c (z +++ none)) (leaf (param of_type (suc i))) ≡ None) s h))
  where
    no-other : (j : ℕ) → option_or (misfit of_type (sort_at none j)) None ≡ None → ⊥
    no-other j e = cc

pub put-for-itself : (es : List Entry) → Lawful es → (a : GenericArgKind) → ArgHeld es a → (ty args bound i : ℕ) → Is es types ty (leaf (param of_type i))
    → trees_at es bound ≡ trees_at es ty +++ none → trees_at es args ≡ arg_trees es a +++ none
    → first_misfit (trees_at es args) (trees_at es bound) ≡ None → instantiate 0 (trees_at es args) (trees_at es bound) ≡ trees_at es args
put-for-itself es law a held ty args bound i kind list A fits =
    let B : trees_at es bound ≡ leaf (param of_type i) = list ∙ append-none (trees_at es ty) ∙ trees-is es types ty (leaf (param of_type i)) kind in
    ap (instantiate 0 (trees_at es args)) B ∙ ap (λ z. instantiate 0 z (leaf (param of_type i))) A
    ∙ only-argument (arg_trees es a) i (arg-single es law a held) (sym (ap (λ z. first_misfit z (leaf (param of_type i))) A) ∙ sym (ap (first_misfit (trees_at es args)) B) ∙ fits)
    ∙ sym A

pub all-same : (old new : List Entry) → Keeps old new → (rs : List TraitRef) → TraitRefsHeld old rs → references_in new rs ≡ references_in old rs
all-same old new k [] h = refl
all-same old new k (r ∷ rs) h = ap (λ x. x ∷ references_in new rs) (reference-same old new k r h.0) ∙ ap (λ l. reference_in old r ∷ l) (all-same old new k rs h.1)

pub all-put : (es : List Entry) (rs : List TraitRef) (r : TraitRef) → TraitRefsHeld es rs → ReferenceHeld es r → TraitRefsHeld es (rs ++ r ∷ [])
all-put es [] r h g = (g, tt)
all-put es (s ∷ rs) r h g = (h.0, all-put es rs r h.1 g)

pub held-more : (now new : List Entry) → Keeps now new → (rs : List TraitRef) (r : TraitRef) → TraitRefsHeld now rs → ReferenceHeld new r → TraitRefsHeld new (rs ++ r ∷ [])
held-more now new k rs r h g = all-put new rs r (references-kept now new k rs h) g

one-behind : (es : List Entry) (rs : List TraitRef) (r : TraitRef) (ys : List Reference) → references_in es (rs ++ r ∷ []) ++ ys ≡ references_in es rs ++ reference_in es r ∷ ys
one-behind es [] r ys = refl
one-behind es (s ∷ rs) r ys = ap (λ l. reference_in es s ∷ l) (one-behind es rs r ys)

pub one-more : (now new : List Entry) → Keeps now new → (rs : List TraitRef) (r : TraitRef) (y : Reference) (ys all : List Reference) → TraitRefsHeld now rs
    → reference_in new r ≡ y → references_in now rs ++ y ∷ ys ≡ all → references_in new (rs ++ r ∷ []) ++ ys ≡ all
one-more now new k rs r y ys all h e f =
    one-behind new rs r ys ∙ ap (λ x. references_in new rs ++ x ∷ ys) e ∙ ap (λ l. l ++ y ∷ ys) (all-same now new k rs h) ∙ f
