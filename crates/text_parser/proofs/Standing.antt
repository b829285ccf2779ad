-- The trees that kept cells stand for.
use Rattle.std.proofs.Common.{◌≡◌, ℕ, zero, suc, ◌+◌, true, List, [], ◌∷◌, ◌++◌, map, refl, sym, ap, ◌∙◌, append_assoc, append-nil}
use Rattle.std.proofs.lemmas.List.{reverse-reverse}
use Rattle.std.specs.Prelude.{reverse}
use Rattle.type_terms.specs.Promised.Label.{Sort}
use Rattle.type_terms.specs.Promised.Trees.{Trees, none, tree, ◌+++◌}
use Rattle.text_language.specs.Promised.Syntax.{Args, no_args, and_arg}
use Rattle.text_language.specs.Uses.{next_kind, other_kinds}
use Rattle.text_language.specs.Lowering.{Meanings, arg_tree, args_trees}
use Rattle.text_names.specs.Resolved.{ResolvedCell, node_cell, param_cell, variable_cell, lifetime_cell, reference_cell, args_before}
use Rattle.text_names.specs.Standing as standing
use Rattle.text_names.specs.Standing.{trees_behind, standing}
use Rattle.text_names.proofs.StandingLaws.{args_list, at-arg}
use Rattle.text_tables.specs.TermCells as term
use Rattle.text_tables.specs.TermCells.{behind_cell, behind_cells, joined}
use Rattle.text_tables.specs.Made.{StackPart, is_arg}
use Rattle.text_parser.specs.Making.{term_of}
use Rattle.text_parser.specs.Keeping.{pushed_on}
use Rattle.text_tables.proofs.Each.{Every}
use Rattle.text_parser.proofs.Stacks.{arg_part, args_parts, arg-is}
use Rattle.type_terms.proofs.ListBasics.{rev-cons}

-- ---- the same stack in both machines
gathered-same : (k : ℕ) (S : List Trees) (o : Trees) → term.gathered k S o ≡ standing.gathered k S o
gathered-same zero S o = refl
gathered-same (suc k) [] o = refl
gathered-same (suc k) (t ∷ S) o = gathered-same k S (t +++ o)

below-same : (k : ℕ) (S : List Trees) → term.below k S ≡ standing.below k S
below-same zero S = refl
below-same (suc k) [] = refl
below-same (suc k) (t ∷ S) = below-same k S

cell-same : (e : Meanings) (c : ResolvedCell) (S : List Trees) → behind_cell (term_of e c) S ≡ trees_behind e c S
cell-same e (node_cell l k) S = ap (λ x. tree l x none ∷ term.below k S) (gathered-same k S none) ∙ ap (λ R. tree l (standing.gathered k S none) none ∷ R) (below-same k S)
cell-same e (param_cell p i k) S =
    let l = e.parameter p (standing.first_of_sort e p + i) in
    ap (λ x. tree l x none ∷ term.below k S) (gathered-same k S none) ∙ ap (λ R. tree l (standing.gathered k S none) none ∷ R) (below-same k S)
cell-same e (variable_cell p n) S = refl
cell-same e (lifetime_cell r) S = refl
cell-same e (reference_cell r m) [] = refl
cell-same e (reference_cell r m) (t ∷ S) = refl

pub cells-same : (e : Meanings) (cs : List ResolvedCell) (S : List Trees) → behind_cells (map (term_of e) cs) S ≡ standing e cs S
cells-same e [] S = refl
cells-same e (c ∷ cs) S = ap (behind_cells (map (term_of e) cs)) (cell-same e c S) ∙ cells-same e cs (trees_behind e c S)

-- ---- arguments
pub args-stand : (e : Meanings) (s : List (List (List ℕ))) (ks : List Sort) (args : Args) (cs : List ResolvedCell) (S : List Trees)
    → standing e (args_before e.items e.params s ks args cs) S ≡ standing e cs (pushed_on (args_list e s ks args) S)
args-stand e s ks no_args cs S = refl
args-stand e s ks (and_arg a args) cs S =
    at-arg e s (next_kind ks) a (args_before e.items e.params s (other_kinds ks) args cs) S ∙ args-stand e s (other_kinds ks) args cs (arg_tree e s (next_kind ks) a ∷ S)

pub args-joined : (e : Meanings) (s : List (List (List ℕ))) (ks : List Sort) (args : Args) → joined (args_list e s ks args) ≡ args_trees e s ks args
args-joined e s ks no_args = refl
args-joined e s ks (and_arg a args) = ap (λ o. arg_tree e s (next_kind ks) a +++ o) (args-joined e s (other_kinds ks) args)

pub arg_kinds : List Sort → Args → List StackPart
arg_kinds ks no_args = []
arg_kinds ks (and_arg a args) = arg_part (next_kind ks) a ∷ arg_kinds (other_kinds ks) args

pub kinds-pushed : (ks : List Sort) (args : Args) (S : List StackPart) → args_parts ks args S ≡ pushed_on (arg_kinds ks args) S
unfolding arg_kinds
kinds-pushed ks no_args S = refl
kinds-pushed ks (and_arg a args) S = kinds-pushed (other_kinds ks) args (arg_part (next_kind ks) a ∷ S)

pub kinds-args : (ks : List Sort) (args : Args) → Every (λ x. is_arg x ≡ true) (arg_kinds ks args)
unfolding arg_kinds
kinds-args ks no_args = tt
kinds-args ks (and_arg a args) = (arg-is (next_kind ks) a, kinds-args (other_kinds ks) args)

-- ---- pushed_on one after the other
pub pushed-append : {A : Type 0} (xs ys S : List A) → pushed_on (xs ++ ys) S ≡ pushed_on ys (pushed_on xs S)
pushed-append [] ys S = refl
pushed-append (x ∷ xs) ys S = pushed-append xs ys (x ∷ S)

pushed-on : {A : Type 0} (xs S : List A) → pushed_on xs S ≡ reverse xs ++ S
pushed-on [] S = refl
pushed-on (x ∷ xs) S = pushed-on xs (x ∷ S) ∙ sym (append_assoc (reverse xs) (x ∷ []) S) ∙ sym (ap (λ z. z ++ S) (rev-cons x xs))

pub pushed-back : {A : Type 0} (xs : List A) → reverse (pushed_on xs []) ≡ xs
pushed-back xs = ap reverse (pushed-on xs [] ∙ append-nil (reverse xs)) ∙ reverse-reverse xs
