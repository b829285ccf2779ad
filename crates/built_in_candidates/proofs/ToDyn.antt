-- Types that unsize to a `dyn`: what is read off the two types, and what is asked.
use Rattle.std.proofs.Common.{◌≡◌, Bool, true, false, not, ◌&&◌, if◌then◌else◌, List, [], ◌∷◌, ◌++◌, refl, sym, ap, ◌∙◌, subst, None}
use Rattle.type_terms.specs.Promised.Label.{Label, of_type, of_lifetime, dynamic, param, placeholder, infer, canonical, bound, principal}
use Rattle.type_terms.specs.Promised.Trees.{Trees, none, tree, leaf, ◌+++◌, IsA, sort_of, erase_label}
use Rattle.type_terms.specs.Promised.Worlds.{World, Reference}
use Rattle.type_terms.specs.Promised.Rules.{asked, sized, is_dyn, row, unsize_to_dyn, unsize_to_dyn_rules, are_dyn_compatible, principal_with, autos_with}
use Rattle.type_terms.specs.Promised.Handles.{Entry}
use Rattle.term_folds.specs.declared.predicate.TraitRef.{TraitRef}
use Rattle.declarations.specs.Items.{Items, reference_in}
use Rattle.declarations.specs.Promised.Elaboration.{Each}
use Rattle.declarations.specs.Applied.{references_in}
use Rattle.candidate_model.specs.Asking.{GoalOverKinds, with_plain_head}
use Rattle.candidate_model.specs.Candidates.{as_written, by_rule, misc, if_so}
use Rattle.built_in_candidates.specs.Objects.{bounds_of, AreArgumentsOf}
use Rattle.built_in_candidates.specs.Unsizing.{to_dyn, TargetIsApplied}
use Rattle.built_in_candidates.proofs.Objects.{lifetime-no-principal}

-- ---- the head
pub no-dyn : (l : Label) (c o : Trees) → bounds_of (tree l c o) ≡ None → is_dyn (erase_label l) ≡ false
no-dyn dynamic c o e = absurd cc
no-dyn (param of_lifetime i) c o e = refl
no-dyn (param s i) c o e = refl
no-dyn (placeholder of_lifetime i) c o e = refl
no-dyn (placeholder s i) c o e = refl
no-dyn (infer of_lifetime i) c o e = refl
no-dyn (infer s i) c o e = refl
no-dyn (canonical of_lifetime i) c o e = refl
no-dyn (canonical s i) c o e = refl
no-dyn (bound of_lifetime k i) c o e = refl
no-dyn (bound s k i) c o e = refl
no-dyn l c o e = refl

-- ---- lists of references
pub pushed-last : (es : List Entry) (rs : List TraitRef) (r : TraitRef) → references_in es (rs ++ r ∷ []) ≡ references_in es rs ++ reference_in es r ∷ []
pushed-last es [] r = refl
pushed-last es (s ∷ rs) r = ap (λ l. reference_in es s ∷ l) (pushed-last es rs r)

-- ---- the candidate
module _ (V : World) (a : GoalOverKinds) where
  pub compatible : (self b : Trees) (x : Bool) → x ≡ are_dyn_compatible V (principal_with self b) → x ≡ true
      → by_rule V a misc [] (principal_with self b ++ (autos_with self b ++ asked sized self ∷ [])) ∷ [] ≡ to_dyn V a self b
  compatible self b x e t = ap (λ z. if_so z (by_rule V a misc [] (principal_with self b ++ (autos_with self b ++ asked sized self ∷ [])) ∷ [])) (sym t ∙ e)

  pub incompatible : (self b : Trees) (x : Bool) → x ≡ are_dyn_compatible V (principal_with self b) → x ≡ false → [] ≡ to_dyn V a self b
  incompatible self b x e f = ap (λ z. if_so z (by_rule V a misc [] (principal_with self b ++ (autos_with self b ++ asked sized self ∷ [])) ∷ [])) (sym f ∙ e)

  rule-is : (x : Bool) (ps : List Reference) → if_so x (by_rule V a misc [] ps ∷ []) ≡ as_written V a misc (if x then row unsize_to_dyn ps else [])
  rule-is true ps = refl
  rule-is false ps = refl

  to-dyn-is : (l : Label) (c b o : Trees) → is_dyn l ≡ false → to_dyn V a (tree l c none) b ≡ as_written V a misc (unsize_to_dyn_rules V (tree l c (tree dynamic b o)))
  to-dyn-is l c b o e =
      let self = tree l c none in
      let ps = principal_with self b ++ (autos_with self b ++ asked sized self ∷ []) in
      rule-is (are_dyn_compatible V (principal_with self b)) ps
      ∙ ap (λ z. as_written V a misc (if not z && are_dyn_compatible V (principal_with self b) then row unsize_to_dyn ps else [])) (sym e)

  pub row-to-dyn : (S T b : Trees) → IsA of_type S → bounds_of S ≡ None → T ≡ tree dynamic b none
      → to_dyn V a (with_plain_head S) b ≡ as_written V a misc (unsize_to_dyn_rules V (with_plain_head S +++ T))
  row-to-dyn none T b h e q = absurd h
  row-to-dyn (tree l c o) T b h e q =
      ap (λ z. to_dyn V a (tree (erase_label l) c z) b) h.1 ∙ to-dyn-is (erase_label l) c b none (no-dyn l c o e)
      ∙ ap (λ t. as_written V a misc (unsize_to_dyn_rules V (tree (erase_label l) c t))) (sym q)
      ∙ ap (λ z. as_written V a misc (unsize_to_dyn_rules V (tree (erase_label l) c (z +++ T)))) (sym h.1)

  -- a `dyn` has other rules
  pub from-dyn : (c : Trees) (t : Trees) → [] ≡ as_written V a misc (unsize_to_dyn_rules V (tree dynamic c t))
  from-dyn c none = refl
  from-dyn c (tree dynamic d o) = refl
  from-dyn c (tree m d o) = refl

  pub row-from-dyn : (S T b : Trees) → S ≡ tree dynamic b none → [] ≡ as_written V a misc (unsize_to_dyn_rules V (with_plain_head S +++ T))
  row-from-dyn S T b e = from-dyn b T ∙ ap (λ s. as_written V a misc (unsize_to_dyn_rules V (with_plain_head s +++ T))) (sym e)

  pub to-other : (l : Label) (c : Trees) (m : Label) (d o : Trees) → bounds_of (tree m d o) ≡ None → [] ≡ as_written V a misc (unsize_to_dyn_rules V (tree l c (tree m d o)))
  to-other l c dynamic d o e = absurd cc
  to-other l c m d o e = refl

  pub row-to-other : (S T : Trees) → IsA of_type S → IsA of_type T → bounds_of T ≡ None → [] ≡ as_written V a misc (unsize_to_dyn_rules V (with_plain_head S +++ T))
  row-to-other none T h g e = absurd h
  row-to-other (tree l c o) none h g e = absurd g
  row-to-other (tree l c o) (tree m d p) h g e =
      subst (λ z. [] ≡ as_written V a misc (unsize_to_dyn_rules V (tree (erase_label l) c (z +++ tree m d p)))) (sym h.1) (to-other (erase_label l) c m d p e)

-- ---- what is asked of the goal
-- a lifetime stands behind the bounds, and it doesn't matter which
lifetime-alike : (d : Items) (self b : Trees) (l m : Label) → sort_of l ≡ of_lifetime → sort_of m ≡ of_lifetime → Each (AreArgumentsOf d) (principal_with self (b +++ leaf l))
    → Each (AreArgumentsOf d) (principal_with self (b +++ leaf m))
lifetime-alike d self (tree (principal n t) c o) l m e f h = h
lifetime-alike d self (tree k c o) l m e f h = tt
lifetime-alike d self none l m e f h = subst (Each (AreArgumentsOf d)) (sym (lifetime-no-principal self m f)) tt

pub principal-applied : (d : Items) (S T B : Trees) (l m : Label) → IsA of_type S → sort_of l ≡ of_lifetime → sort_of m ≡ of_lifetime → T ≡ tree dynamic (B +++ leaf l) none
    → TargetIsApplied d (with_plain_head S +++ T) → Each (AreArgumentsOf d) (principal_with (with_plain_head S) (B +++ leaf m))
principal-applied d none T B l m h e f q t = absurd h
principal-applied d (tree k c o) T B l m h e f q t =
    subst (λ z. Each (AreArgumentsOf d) (principal_with (tree (erase_label k) c z) (B +++ leaf m))) (sym h.1)
    (lifetime-alike d (tree (erase_label k) c none) B l m e f
    (subst (λ x. TargetIsApplied d (tree (erase_label k) c x)) q (subst (λ z. TargetIsApplied d (tree (erase_label k) c (z +++ T))) h.1 t)))
