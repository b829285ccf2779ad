-- What could be instantiated has its arguments.
use Rattle.std.proofs.Common.{◌≡◌, ◌∷◌, [], ◌∙◌, ℕ, List, refl, ap, get_or, Option, Some, None}
use Rattle.std.specs.Prelude.{Ok}
use Rattle.std.specs.Option.{option_or}
use Rattle.type_terms.specs.Promised.Trees.{Trees, none}
use Rattle.type_terms.specs.Pieces.{Piece, one_piece}
use Rattle.type_terms.specs.Promised.Worlds.{Reference}
use Rattle.term_folds.specs.Arguments.{first_misfit, IsTheMisfit}
use Rattle.term_folds.specs.declared.instantiate.InstantiateError.{InstantiateError}
use Rattle.term_folds.specs.declared.instantiate.InstantiateError.TheVariants.{ParamOutOfRange, ParamKind, Fault}
use Rattle.term_folds.proofs.NoFault.{misfit-is-no-fault}

pub no-misfit : {T : Type 0} (v : T) (A t : Trees) → IsTheMisfit {T = T} ParamOutOfRange (Ok v) A (one_piece t) → IsTheMisfit {T = T} ParamKind (Ok v) A (one_piece t) → first_misfit A t ≡ None
no-misfit v A t out kind = by (first_misfit A t) refl
  where
    by : (m : Option InstantiateError) → first_misfit A t ≡ m → first_misfit A t ≡ None
    by None e = e
    by (Some ParamOutOfRange) e = absurd (let z = out.1 (ap (λ n. option_or n None) e) in cc)
    by (Some ParamKind) e = absurd (let z = kind.1 (ap (λ n. option_or n None) e) in cc)
    by (Some (Fault f)) e = absurd (misfit-is-no-fault f A (one_piece t) (ap (λ n. option_or n None) e))

first-trees : List Piece → Trees
first-trees [] = none
first-trees (p ∷ ps) = p.trees

pub one-same : (s t : Trees) → one_piece s ≡ one_piece t → s ≡ t
unfolding first-trees
one-same s t e = ap first-trees e

reference : ℕ → Trees → Reference
reference n t = record { trait = n; args = t }

-- references with one trait and one part are one
pub one-reference : (m n : ℕ) (s t : Trees) → m ∷ [] ≡ n ∷ [] → one_piece s ≡ one_piece t → (let r : Reference = record { trait = m; args = s } in r) ≡ (let r : Reference = record { trait = n; args = t } in r)
unfolding reference
one-reference m n s t p q = ap (λ k. reference k s) (ap (λ l. get_or l 0 0) p) ∙ ap (reference n) (one-same s t q)
