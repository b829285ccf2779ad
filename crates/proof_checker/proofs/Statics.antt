-- Lifetimes replaced by `'static` are erased to the same tree.
use Rattle.std.proofs.Common.{◌≡◌, ℕ, Bool, true, false, cond, refl, ap, ◌∙◌, List, [], ◌∷◌}
use Rattle.std.specs.Prelude.{Result, Ok, Err, IfOk}
use Rattle.type_terms.specs.declared.Fault.{Fault}
use Rattle.type_terms.specs.Promised.Label.{Label, static, param, placeholder, infer, canonical, bound, of_type, of_const, of_lifetime, inside}
use Rattle.type_terms.specs.Promised.Trees.{Trees, none, tree, erase, erase_label}
use Rattle.term_folds.specs.Regions.{is_free_lifetime, region_replaced, regions_replaced}
use Rattle.type_terms.specs.Promised.Worlds.{Reference}
use Rattle.type_terms.specs.Promised.Erased.{erased_reference}
use Rattle.type_terms.specs.Promised.Handles.{Entry, trees_at}
use Rattle.type_terms.specs.Pieces.{one_piece, each_piece}
use Rattle.term_folds.specs.declared.predicate.TraitRef.{TraitRef}
use Rattle.declarations.specs.Items.{reference_in}
use Rattle.structural_traits.proofs.Misfits.{one-reference}

label-erased : (d : ℕ) (l : Label) → erase_label (region_replaced (λ _. static) d l) ≡ erase_label l
label-erased d (param of_lifetime i) = refl
label-erased d (placeholder of_lifetime i) = refl
label-erased d (infer of_lifetime i) = refl
label-erased d (canonical of_lifetime i) = refl
label-erased d (bound of_lifetime k i) = by (is_free_lifetime d (bound of_lifetime k i))
  where
    by : (b : Bool) → erase_label (cond b static (bound of_lifetime k i)) ≡ static
    by true = refl
    by false = refl
label-erased d (param of_type i) = refl
label-erased d (placeholder of_type i) = refl
label-erased d (infer of_type i) = refl
label-erased d (canonical of_type i) = refl
label-erased d (bound of_type k i) = refl
label-erased d (param of_const i) = refl
label-erased d (placeholder of_const i) = refl
label-erased d (infer of_const i) = refl
label-erased d (canonical of_const i) = refl
label-erased d (bound of_const k i) = refl
label-erased d l = refl

pub replaced-erased : (d : ℕ) (t : Trees) → erase (regions_replaced (λ _. static) d t) ≡ erase t
replaced-erased d none = refl
replaced-erased d (tree l c o) = same (label-erased d l) (replaced-erased (inside l d) c) (replaced-erased d o)
  where
    same : {a b : Label} {x y z w : Trees} → a ≡ b → x ≡ y → z ≡ w → tree a x z ≡ tree b y w
    same p q r = cc

-- a reference whose lifetimes were replaced is the same up to lifetimes
one-static : (old new : List Entry) (b r : TraitRef) → r.def_id.index ∷ [] ≡ b.def_id.index ∷ []
    → one_piece (trees_at new r.args.0) ≡ each_piece (λ d t. regions_replaced (λ _. static) d t) (one_piece (trees_at old b.args.0))
    → erased_reference (reference_in new r) ≡ erased_reference (reference_in old b)
one-static old new b r o p =
    ap erased_reference (one-reference r.def_id.index b.def_id.index (trees_at new r.args.0) (regions_replaced (λ _. static) 0 (trees_at old b.args.0)) o p)
    ∙ ap (λ t. let x : Reference = record { trait = b.def_id.index; args = t } in x) (replaced-erased 0 (trees_at old b.args.0))

pub static-ok : (old new : List Entry) (b : TraitRef) (o : Result TraitRef Fault) → IfOk o (λ r. r.def_id.index ∷ [] ≡ b.def_id.index ∷ [])
    → IfOk o (λ r. one_piece (trees_at new r.args.0) ≡ each_piece (λ d t. regions_replaced (λ _. static) d t) (one_piece (trees_at old b.args.0)))
    → IfOk o (λ r. erased_reference (reference_in new r) ≡ erased_reference (reference_in old b))
static-ok old new b (Ok r) o p = one-static old new b r o p
static-ok old new b (Err e) o p = tt
