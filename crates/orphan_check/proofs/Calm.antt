-- Where a normalizer answers its input, no step is refused, and none lies too deep but where the limit is below the depth.
use Rattle.std.proofs.Common.{if◌then◌else◌, ◌≡◌, ℕ, ◌<◌, max, zero, suc, refl, sym, ap, subst, ◌∙◌, arith, Bool, true, false, List, [], ◌∷◌, ◌++◌, Some, Ok}
use Rattle.type_terms.specs.Promised.Label.{of_type, infer}
use Rattle.type_terms.specs.Promised.Trees.{Trees, none, tree, ◌+++◌, is_sort, sort_of}
use Rattle.type_terms.specs.Trees.{Single, depth}
use Rattle.infer_table.specs.Solutions.{resolved, Acyclic, AllValued}
use Rattle.infer_table.specs.Resolving.{followed}
use Rattle.infer_table.specs.WellFormed.{is_numbered}
use Rattle.infer_table.proofs.ContentFacts.{AllSorted}
use Rattle.infer_table.proofs.SolutionLaws.{resolved-append, resolved-rigid}
use Rattle.infer_table.proofs.ResolveFacts.{resolved-followed}
use Rattle.infer_table.proofs.Places.{in_terms, AreTrees, IsOneTree, AllTrees}
use Rattle.declarations.specs.Promised.Elaboration.{Each}
use Rattle.type_terms.specs.Promised.OrphanErrors.{Look, local_type, open_type, leaf_type, passage, look}
use Rattle.orphan_check.specs.Steps.{Reading, Step, refused, too_deep, entered, met_local, met_open, met_foreign, steps_in, step_of, steps_at, steps_to, steps, first_end, second_end}
use Rattle.orphan_check.proofs.Reading.{read-is, read-one, resolved-one, inner-terms, head-and-rest}
use Rattle.declarations.proofs.Basics.{each-append}
use Rattle.type_terms.proofs.TypeBasics.{some-is}

-- nothing is refused, and where a type lies too deep, P holds
abbrev pub IsCalm : {E : Type 0} → Type 0 → Step E → Type 0
IsCalm P (refused e) = ⊥
IsCalm P (too_deep t first) = P
IsCalm P s = Unit {0}

pub depth-append : (x y : Trees) → depth (x +++ y) ≡ max (depth x) (depth y)
depth-append none y = omega arith
depth-append (tree l c o) y = let e = depth-append o y in omega (arith, e)

single-deep : (t : Trees) → Single t → 0 < depth t
single-deep none h = absurd h
single-deep (tree l c o) h = omega arith

module _ {E : Type 0} (P : Type 0) (r : Reading E) (same : (t : Trees) → r.answers t ≡ Ok t) (valued : AllValued r.values) (acyclic : Acyclic r.values) (sorted : AllSorted r.values) (terms : AllTrees is_numbered r.values) where
  calm-look : (k : Look) (u : Trees) (first : Bool) (inner : List (Step E)) → (k ≡ passage → Each (IsCalm P) inner) → Each (IsCalm P) (step_of k u first inner)
  calm-look local_type u first inner h = (tt, tt)
  calm-look open_type u first inner h = (tt, tt)
  calm-look leaf_type u first inner h = (tt, tt)
  calm-look passage u first inner h = (tt, h refl)

  calm-read : (n : ℕ) (first : Bool) (u : Trees) → IsOneTree is_numbered u → (suc n < depth (resolved r.values u) → P)
      → ((c : Trees) → AreTrees is_numbered in_terms c → (n < depth (resolved r.values c) → P) → Each (IsCalm P) (steps_in (λ f t. steps_to r n f t) first c))
      → Each (IsCalm P) (steps_at (λ f t. steps_to r n f t) r first (Ok u))
  calm-read n first none h p inner = absurd h.0
  calm-read n first (tree (infer k v) c o) h p inner = (tt, tt)
  calm-read n first (tree l c o) h p inner =
      let deep : n < depth (resolved r.values c) → suc n < depth (resolved r.values (tree l c o)) = λ q. let e = ap depth (resolved-rigid r.values l c o refl) in omega (arith, e, q) in
      calm-look (look r.view r.home l c) (tree l c o) first (steps_in (λ f t. steps_to r n f t) first c) (λ k. inner c (inner-terms r.values valued acyclic sorted terms r.view r.home l c o h.1 k) (λ q. p (deep q)))

  types-calm : (n : ℕ) → ((first : Bool) (t : Trees) → IsOneTree is_numbered t → (n < depth (resolved r.values t) → P) → Each (IsCalm P) (steps_to r n first t))
      → (first : Bool) (c : Trees) → AreTrees is_numbered in_terms c → (n < depth (resolved r.values c) → P) → Each (IsCalm P) (steps_in (λ f t. steps_to r n f t) first c)
  types-calm n each first none h p = tt
  types-calm n each first (tree l c o) h p = by (is_sort (sort_of l) of_type) (λ f q. types-calm n each f o parts.1 q)
    where
      parts : AreTrees is_numbered in_terms (tree l c none) × AreTrees is_numbered in_terms o
      parts = head-and-rest r.values valued acyclic sorted terms l c o h

      whole : depth (resolved r.values (tree l c o)) ≡ max (depth (resolved r.values (tree l c none))) (depth (resolved r.values o))
      whole = ap depth (resolved-append r.values (tree l c none) o) ∙ depth-append (resolved r.values (tree l c none)) (resolved r.values o)

      left : n < depth (resolved r.values (tree l c none)) → P
      left q = let w = whole in p (omega (arith, w, q))

      right : n < depth (resolved r.values o) → P
      right q = let w = whole in p (omega (arith, w, q))

      by : (x : Bool) → ((f : Bool) → (n < depth (resolved r.values o) → P) → Each (IsCalm P) (steps_in (λ f t. steps_to r n f t) f o))
          → Each (IsCalm P) (if x then steps_to r n first (tree l c none) ++ steps_in (λ f t. steps_to r n f t) false o else steps_in (λ f t. steps_to r n f t) first o)
      by true rest = each-append (IsCalm P) (steps_to r n first (tree l c none)) (steps_in (λ f t. steps_to r n f t) false o) (each first (tree l c none) (refl, parts.0) left) (rest false right)
      by false rest = rest first right

  type-calm : (n : ℕ) (first : Bool) (t : Trees) → IsOneTree is_numbered t → (n < depth (resolved r.values t) → P) → Each (IsCalm P) (steps_to r n first t)
  type-calm zero first t h p = (p (single-deep (resolved r.values t) (resolved-one r.values valued acyclic sorted terms t h).0), tt)
  type-calm (suc n) first t h p =
      subst (λ z. Each (IsCalm P) (steps_at (λ f u. steps_to r n f u) r first z)) (sym (read-is r same valued acyclic sorted terms t))
      (calm-read n first (followed r.values t) (read-one r.values valued acyclic sorted terms t h) (λ q. p (subst (λ z. suc n < depth z) (resolved-followed r.values t acyclic) q)) (types-calm n (λ f u. type-calm n f u) first))

  pub steps-calm : (limit : ℕ) (args : Trees) → AreTrees is_numbered in_terms args → (limit < depth (resolved r.values args) → P) → Each (IsCalm P) (steps r limit args)
  steps-calm limit args h p = types-calm limit (λ f u. type-calm limit f u) true args h p

-- ---- the ends of calm walks
pub calm-first : {E : Type 0} (P : Type 0) (ss : List (Step E)) (s : Step E) → Each (IsCalm P) ss → first_end ss ≡ Some s → IsCalm P s
calm-first P [] s h e = cc
calm-first P (entered ∷ ss) s h e = calm-first P ss s h.1 e
calm-first P (met_foreign t first ∷ ss) s h e = calm-first P ss s h.1 e
calm-first P (refused x ∷ ss) s h e = absurd h.0
calm-first P (too_deep t first ∷ ss) s h e = subst (λ z. IsCalm P z) (some-is _ _ e) h.0
calm-first P (met_local t ∷ ss) s h e = subst (λ z. IsCalm P z) (some-is _ _ e) h.0
calm-first P (met_open t ∷ ss) s h e = subst (λ z. IsCalm P z) (some-is _ _ e) h.0

pub calm-second : {E : Type 0} (P : Type 0) (ss : List (Step E)) (s : Step E) → Each (IsCalm P) ss → second_end ss ≡ Some s → IsCalm P s
calm-second P [] s h e = cc
calm-second P (entered ∷ ss) s h e = calm-second P ss s h.1 e
calm-second P (met_foreign t first ∷ ss) s h e = calm-second P ss s h.1 e
calm-second P (met_open t ∷ ss) s h e = calm-second P ss s h.1 e
calm-second P (refused x ∷ ss) s h e = absurd h.0
calm-second P (too_deep t first ∷ ss) s h e = subst (λ z. IsCalm P z) (some-is _ _ e) h.0
calm-second P (met_local t ∷ ss) s h e = subst (λ z. IsCalm P z) (some-is _ _ e) h.0
