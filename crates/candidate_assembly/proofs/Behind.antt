-- An impl's terms with variables in the place of its parameters.
use Rattle.std.proofs.Math.Bridge.{le_prop}
use Rattle.std.proofs.Common.{◌≡◌, ℕ, zero, suc, ◌+◌, ◌≤◌, subst, arith, Bool, true, false, List, [], ◌∷◌, map, refl, sym, ap, ◌∙◌, Some, None}
use Rattle.std.specs.Prelude.{cond}
use Rattle.type_terms.specs.Promised.Label.{Sort, canonical, param, inside}
use Rattle.type_terms.specs.Promised.Trees.{Trees, none, tree, leaf, nth, shift, instantiate, is_sort}
use Rattle.type_terms.specs.Trees.{outer_binder}
use Rattle.type_terms.specs.Promised.Worlds.{Reference, with_args, all_with_args}
use Rattle.type_terms.specs.Promised.Handles.{Entry, Is, Keeps, trees_at}
use Rattle.type_terms.specs.Terms.{args_lists}
use Rattle.type_terms.specs.declared.ImplId.{ImplId}
use Rattle.type_terms.specs.declared.TheConstants.{MAX_INDEX}
use Rattle.type_terms.specs.Kept.{trees-is, trees-later}
use Rattle.declarations.specs.Applied.{TraitRefsHeld, sort_of_param, sorts_of, SpeaksOf, references_in}
use Rattle.type_terms.specs.Kinds.{args_trees}
use Rattle.type_terms.specs.declared.kinds.GenericArgKind.{GenericArgKind}
use Rattle.term_folds.specs.Arguments.{sort_at, misfit, first_misfit}
use Rattle.term_folds.specs.declared.instantiate.InstantiateError.TheVariants.{ParamKind}
use Rattle.infer_table.specs.declared.canonical.CanonicalVarKind.{CanonicalVarKind}
use Rattle.infer_table.specs.Raw.{sort_of_kind, variables_from}
use Rattle.infer_table.specs.Values.{values_of}
use Rattle.infer_table.proofs.SolutionLaws.{is_sort-equal as is-sort}
use Rattle.declarations.specs.declared.items.GenericParamKind.{GenericParamKind}
use Rattle.declarations.specs.declared.items.GenericParamKind.TheVariants.{Lifetime, «Type» as TypeParam, Const}
use Rattle.declarations.specs.Items.{reference_in}
use Rattle.declarations.specs.Promised.Elaboration.{Each}
use Rattle.term_folds.specs.declared.predicate.TraitRef.{TraitRef}
use Rattle.goal_evaluator.specs.Instances.{put_in}
use Rattle.candidate_model.specs.Candidates.{moved, rules_behind, impl_id}
use Rattle.candidate_assembly.specs.Headers.{var_kind}
use Rattle.type_terms.proofs.TermBasics.{below-node as tree-cong, two}
use Rattle.term_folds.proofs.TypeBasics.{left-none, right-none}
use Rattle.type_terms.proofs.NumberBasics.{place-here}
use Rattle.infer_table.specs.Applied.{trees_of}
use Rattle.infer_table.proofs.InTurn.{row-of}

-- the variables of these kinds as arguments
abbrev pub variables : ℕ → List CanonicalVarKind → Trees
variables n ks = trees_of (variables_from n ks)

args-variables : (es : List Entry) (xs : List GenericArgKind) (n : ℕ) (ks : List CanonicalVarKind) → values_of es xs ≡ variables_from n ks → args_trees es xs ≡ variables n ks
args-variables es xs n ks e = sym (row-of es xs) ∙ ap trees_of e

pub variables-closed : (n : ℕ) (ks : List CanonicalVarKind) → outer_binder (variables n ks) ≡ 0
variables-closed n [] = refl
variables-closed n (k ∷ ks) = let h = variables-closed (n + 1) ks in omega (arith, h)

same-sort : (p : GenericParamKind) → sort_of_kind (var_kind p) ≡ sort_of_param p
same-sort Lifetime = refl
same-sort TypeParam = refl
same-sort Const = refl

pub variables-sorts : (n : ℕ) (ps : List GenericParamKind) → sorts_of (variables n (map var_kind ps)) ≡ map sort_of_param ps
variables-sorts n [] = refl
variables-sorts n (p ∷ ps) = ap (λ s. s ∷ sorts_of (variables (n + 1) (map var_kind ps))) (same-sort p) ∙ ap (λ l. sort_of_param p ∷ l) (variables-sorts (n + 1) ps)

plus-next : (n i : ℕ) → (n + 1) + i ≡ n + suc i
plus-next n i = omega arith

fits-sort : (s r : Sort) → misfit s (Some r) ≡ None → r ≡ s
fits-sort s r h = by (is_sort s r) refl h
  where
    by : (b : Bool) → is_sort s r ≡ b → cond b None (Some ParamKind) ≡ None → r ≡ s
    by true e h = sym (is-sort s r e)
    by false e h = absurd cc

-- the argument of a parameter is its variable
variable-at : (d n i : ℕ) (ks : List CanonicalVarKind) (s : Sort) → misfit s (sort_at (variables n ks) i) ≡ None → shift zero d (nth (variables n ks) i) ≡ leaf (canonical s (n + i))
variable-at d n i [] s h = absurd cc
variable-at d n zero (k ∷ ks) s h = ap (λ z. leaf (canonical z n)) (fits-sort s (sort_of_kind k) h) ∙ ap (λ m. leaf (canonical s m)) (place-here n)
variable-at d n (suc i) (k ∷ ks) s h = variable-at d (n + 1) i ks s h ∙ ap (λ m. leaf (canonical s m)) (plus-next n i)

-- to put the variables in is to move the parameters behind the others
pub put-behind : (d n : ℕ) (ks : List CanonicalVarKind) (t : Trees) → first_misfit (variables n ks) t ≡ None → instantiate d (variables n ks) t ≡ put_in (moved n) t
put-behind d n ks none h = refl
put-behind d n ks (tree (param s i) c o) h =
    let A = variables n ks in
    two (shift zero d (nth A i)) (leaf (canonical s (n + i))) (instantiate d A o) (put_in (moved n) o)
    (variable-at d n i ks s (left-none (misfit s (sort_at A i)) (first_misfit A o) h))
    (put-behind d n ks o (right-none (misfit s (sort_at A i)) (first_misfit A o) h))
put-behind d n ks (tree l c o) h =
    let A = variables n ks in
    tree-cong l (instantiate (inside l d) A c) (put_in (moved n) c) (instantiate d A o) (put_in (moved n) o)
    (put-behind (inside l d) n ks c (left-none (first_misfit A c) (first_misfit A o) h))
    (put-behind d n ks o (right-none (first_misfit A c) (first_misfit A o) h))

pub reference-behind : (n : ℕ) (ks : List CanonicalVarKind) (r : Reference) → first_misfit (variables n ks) r.args ≡ None → with_args (variables n ks) r ≡ rules_behind n r
reference-behind n ks r h = ap (λ (t : Trees). let q : Reference = record { trait = r.trait; args = t } in q) (put-behind 0 n ks r.args h)

pub all-behind : (es : List Entry) (n : ℕ) (ks : List CanonicalVarKind) (rs : List TraitRef) → Each (λ (r : TraitRef). first_misfit (variables n ks) (trees_at es r.args.0) ≡ None) rs
    → all_with_args (variables n ks) (references_in es rs) ≡ map (rules_behind n) (references_in es rs)
all-behind es n ks [] h = refl
all-behind es n ks (r ∷ rs) h =
    ap (λ x. x ∷ all_with_args (variables n ks) (references_in es rs)) (reference-behind n ks (reference_in es r) h.0) ∙ ap (λ l. rules_behind n (reference_in es r) ∷ l) (all-behind es n ks rs h.1)

pub all-fit : (es : List Entry) (sorts : List Sort) (A : Trees) → sorts_of A ≡ sorts → (rs : List TraitRef) → Each (λ (r : TraitRef). SpeaksOf sorts (trees_at es r.args.0)) rs
    → Each (λ (r : TraitRef). first_misfit A (trees_at es r.args.0) ≡ None) rs
all-fit es sorts A e [] h = tt
all-fit es sorts A e (r ∷ rs) h = (h.0 A e, all-fit es sorts A e rs h.1)

-- ---- while the interner grows
module _ (es fs : List Entry) (kept : Keeps es fs) where
  pub fits-later : (A : Trees) (rs : List TraitRef) → TraitRefsHeld es rs → Each (λ (r : TraitRef). first_misfit A (trees_at es r.args.0) ≡ None) rs → Each (λ (r : TraitRef). first_misfit A (trees_at fs r.args.0) ≡ None) rs
  fits-later A [] h g = tt
  fits-later A (r ∷ rs) h g = (subst (λ (t : Trees). first_misfit A t ≡ None) (sym (trees-later es fs kept args_lists r.args.0 h.0)) g.0, fits-later A rs h.1 g.1)

-- ---- the arguments of an impl's instance
pub arguments-are : (es fs : List Entry) (i n : ℕ) (xs : List GenericArgKind) (ks : List CanonicalVarKind) → Is fs args_lists i (args_trees es xs) → values_of es xs ≡ variables_from n ks → trees_at fs i ≡ variables n ks
arguments-are es fs i n xs ks is e = trees-is fs args_lists i (args_trees es xs) is ∙ args-variables es xs n ks e

impl-back : (a b : ImplId) → a.index ≡ b.index → a ≡ b
impl-back a b h = subst (λ (m : ℕ). (p : m ≤ MAX_INDEX) → a ≡ record { index = m; in_range = p }) h (λ p. ap (λ (q : a.index ≤ MAX_INDEX). record { index = a.index; in_range = q }) (le_prop a.in_range p)) b.in_range

pub same-impl : (i : ImplId) → impl_id i.index ≡ i
same-impl i = impl-back (impl_id i.index) i (let r = i.in_range in omega (arith, r))
