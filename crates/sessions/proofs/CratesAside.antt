-- Which crates a world lists makes no difference to the orphan rule, nor to what a later version may add.
use Rattle.std.proofs.Common.{◌≡◌, ℕ, Bool, true, false, ◌||◌, ◌&&◌, ◌==◌, List, [], ◌∷◌, ◌++◌, Option, Some, None, Result, Ok, Err, refl, sym, ap, ◌∙◌, subst}
use Rattle.std.specs.Prelude.{if◌then◌else◌, not, IfOk}
use Rattle.std.specs.List.{list_any}
use Rattle.type_terms.specs.Promised.Label.{Label, of_type, of_const, of_lifetime, ref, adt, dynamic, principal, param, placeholder, infer, canonical, bound, value, static}
use Rattle.type_terms.specs.Promised.Trees.{Trees, none, tree, is_sort, sort_of}
use Rattle.type_terms.specs.Promised.Versions.{is_open_place, is_addable}
use Rattle.type_terms.specs.Promised.Worlds.{World, CrateDecl, Reference}
use Rattle.type_terms.specs.Promised.Walks.{Met, local, entered, struct_leaf, open_place, other_leaf, visited, dyn_met, is_home, struct_is, until_decisive, ends_local, trait_is, keeps_orphan_rule}
use Rattle.type_terms.specs.Promised.Handles.{Entry}
use Rattle.type_terms.specs.declared.Fault.{Fault}
use Rattle.type_terms.specs.declared.ImplId.{ImplId}
use Rattle.type_terms.specs.declared.kinds.Ty.{Ty}
use Rattle.type_terms.specs.Promised.OrphanErrors.{WalkItem, items, item_of, decisive, error_at, orphan_error, OrphanError}
use Rattle.type_terms.specs.Promised.OrphanErrors.{Look, look, dyn_look}
use Rattle.orphan_check.specs.declared.errors.OrphanCheckErr.{OrphanCheckErr}
use Rattle.type_terms.specs.Promised.OpenedHeaders.{opened}
use Rattle.overlap_check.specs.Orphans.{IsFirstError}
use Rattle.overlap_check.specs.Promised.Errors.{error_in}
use Rattle.type_terms.specs.Promised.Verdicts.{KeepsOrphanRule, IsFirstOrphan}
use Rattle.text_language.specs.Promised.Declarations.{Declarations}
use Rattle.text_lowering.specs.Seen.{rules_seen_from}
use Rattle.sessions.specs.Promised.Promises.{view_in}

module _ (V : World) (cs : List CrateDecl) where
  abbrev W : World
  W = record V { crates = cs }

  dyn-same : (d : Option ℕ) (t : Trees) → dyn_met W d t ≡ dyn_met V d t
  dyn-same d none = refl
  dyn-same d (tree (principal n t) c o) = refl
  dyn-same d (tree l c o) = refl

  same-visits : (d : Option ℕ) (t : Trees) → visited W d t ≡ visited V d t
  same-visits d none = refl
  same-visits d (tree (ref b) c o) = both (same-visits d c) (same-visits d o)
    where
      both : {xs ys us vs : List Met} → xs ≡ ys → us ≡ vs → xs ++ us ≡ ys ++ vs
      both e f = cc
  same-visits d (tree (adt s) c o) =
      both (struct_is (λ x. is_home d x.home) V s) (struct_is (λ x. x.is_fundamental) V s) s (visited W d c) (visited V d c) (visited W d o) (visited V d o) (same-visits d c) (same-visits d o)
    where
      both : (p q : Bool) (s : ℕ) (xs ys us vs : List Met) → xs ≡ ys → us ≡ vs
          → (if p then local ∷ [] else if q then entered s ∷ xs else struct_leaf s ∷ []) ++ us ≡ (if p then local ∷ [] else if q then entered s ∷ ys else struct_leaf s ∷ []) ++ vs
      both p q s xs ys us vs e f = cc
  same-visits d (tree dynamic c o) = both (dyn-same d c) (same-visits d o)
    where
      both : {xs ys us vs : List Met} → xs ≡ ys → us ≡ vs → xs ++ us ≡ ys ++ vs
      both e f = cc
  same-visits d (tree (param of_type i) c o) = ap (λ l. open_place ∷ l) (same-visits d o)
  same-visits d (tree (placeholder of_type i) c o) = ap (λ l. open_place ∷ l) (same-visits d o)
  same-visits d (tree (infer of_type i) c o) = ap (λ l. open_place ∷ l) (same-visits d o)
  same-visits d (tree (canonical of_type i) c o) = ap (λ l. open_place ∷ l) (same-visits d o)
  same-visits d (tree (bound of_type k i) c o) = ap (λ l. open_place ∷ l) (same-visits d o)
  same-visits d (tree (param of_const i) c o) = same-visits d o
  same-visits d (tree (param of_lifetime i) c o) = same-visits d o
  same-visits d (tree (placeholder of_const i) c o) = same-visits d o
  same-visits d (tree (placeholder of_lifetime i) c o) = same-visits d o
  same-visits d (tree (infer of_const i) c o) = same-visits d o
  same-visits d (tree (infer of_lifetime i) c o) = same-visits d o
  same-visits d (tree (canonical of_const i) c o) = same-visits d o
  same-visits d (tree (canonical of_lifetime i) c o) = same-visits d o
  same-visits d (tree (bound of_const k i) c o) = same-visits d o
  same-visits d (tree (bound of_lifetime k i) c o) = same-visits d o
  same-visits d (tree (value n) c o) = same-visits d o
  same-visits d (tree static c o) = same-visits d o
  same-visits d (tree l c o) = ap (λ ms. other_leaf ∷ ms) (same-visits d o)

  keeps-same : (c : ℕ) (r : Reference) → keeps_orphan_rule W c r ≡ keeps_orphan_rule V c r
  keeps-same c r = ap (λ ms. trait_is (λ x. x.home == c) V r.trait || ends_local (until_decisive ms)) (same-visits (Some c) r.args)

  pub addable-aside : (c : ℕ) (r : Reference) → is_addable W c r ≡ is_addable V c r
  addable-aside c r =
      ap (λ b. b && (not (list_any is_open_place (until_decisive (visited W None r.args))) && (not (trait_is (λ x. x.is_fundamental) V r.trait) && not (trait_is (λ x. x.is_auto) V r.trait)))) (keeps-same c r)
      ∙ ap (λ ms. keeps_orphan_rule V c r && (not (list_any is_open_place (until_decisive ms)) && (not (trait_is (λ x. x.is_fundamental) V r.trait) && not (trait_is (λ x. x.is_auto) V r.trait)))) (same-visits None r.args)

  -- ---- the error
  dyn-look-same : (d : Option ℕ) (t : Trees) → dyn_look W d t ≡ dyn_look V d t
  dyn-look-same d none = refl
  dyn-look-same d (tree (principal n t) c o) = refl
  dyn-look-same d (tree l c o) = refl

  look-same : (d : Option ℕ) (l : Label) (c : Trees) → look W d l c ≡ look V d l c
  look-same d (adt s) c = refl
  look-same d dynamic c = dyn-look-same d c
  look-same d l c = refl

  same-items : (d : Option ℕ) (first : Bool) (t : Trees) → items W d first t ≡ items V d first t
  same-items d first none = refl
  same-items d first (tree l c o) = all (is_sort (sort_of l) of_type) (look-same d l c) (same-items d first c) (same-items d false o) (same-items d first o)
    where
      all : (b : Bool) {k m : Look} {xs ys us vs ks ls : List WalkItem} → k ≡ m → xs ≡ ys → us ≡ vs → ks ≡ ls
          → (if b then item_of k (tree l c none) first xs ++ us else ks) ≡ (if b then item_of m (tree l c none) first ys ++ vs else ls)
      all b e f g h = cc

  error-same : (c : ℕ) (t : Trees) → orphan_error W c t ≡ orphan_error V c t
  error-same c t = ap (λ is. error_at (decisive is) is) (same-items (Some c) true t)

  -- ---- what is said of a crate
  pub keeps-aside : (c : ℕ) → KeepsOrphanRule V c → KeepsOrphanRule W c
  keeps-aside c h i s own = keeps-same c i.header ∙ h i s own

  pub first-aside : (c k : ℕ) (e : OrphanError) → IsFirstOrphan V c k e → IsFirstOrphan W c k e
  first-aside c k e f = record {
    found = f.found;
    number = f.number;
    broken = record { stands = f.broken.stands; own = f.broken.own; breaks = keeps-same c f.found.header ∙ f.broken.breaks };
    first = λ i b. f.first i (record { stands = b.stands; own = b.own; breaks = sym (keeps-same c i.header) ∙ b.breaks });
    error = error-same c (opened f.found.header).args ∙ f.error;
  }

-- ---- by what a crate sees of a text
pub orphan-here : (d : Declarations) (c : ℕ) (U : World) (l : ℕ) → U ≡ rules_seen_from d c → l ≡ c → (es : List Entry) (o : Option (ImplId × OrphanCheckErr Ty)) → IsFirstError U l es o → IsFirstError (view_in d c) c es o
orphan-here d c U l e f es o h = by o (subst (λ k. IsFirstError (rules_seen_from d c) k es o) f (subst (λ V. IsFirstError V l es o) e h))
  where
    by : (o : Option (ImplId × OrphanCheckErr Ty)) → IsFirstError (rules_seen_from d c) c es o → IsFirstError (view_in d c) c es o
    by None g = keeps-aside (rules_seen_from d c) (view_in d c).crates c g
    by (Some x) g = first-aside (rules_seen_from d c) (view_in d c).crates c x.0.index (error_in es x.1) g

pub orphan-ok : (d : Declarations) (c : ℕ) (U : World) (l : ℕ) → U ≡ rules_seen_from d c → l ≡ c → (es : List Entry) (r : Result (Option (ImplId × OrphanCheckErr Ty)) Fault) → IfOk r (IsFirstError U l es) → IfOk r (IsFirstError (view_in d c) c es)
orphan-ok d c U l e f es (Ok o) h = orphan-here d c U l e f es o h
orphan-ok d c U l e f es (Err x) h = h
