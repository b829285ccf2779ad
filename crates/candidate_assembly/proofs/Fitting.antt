-- What follows for a goal that fits declarations.
use Rattle.std.proofs.Common.{◌≡◌, ℕ, refl, sym, ap, ◌∙◌, subst, arith, Bool, true, false, ◌&&◌, ◌||◌, not, max, List, [], ◌∷◌, map, Option, Some, None}
use Rattle.std.specs.Prelude.{◌==◌, IfSome}
use Rattle.std.specs.Option.{option_map_or}
use Rattle.std.specs.List.{list_any}
use Rattle.std.proofs.lemmas.Bool.{eqb-true}
use Rattle.type_terms.specs.Promised.Label.{Label, Sort, of_type, of_const, of_lifetime, adt, dynamic, principal, auto_trait, param, placeholder, infer, canonical, bound}
use Rattle.type_terms.specs.Promised.Trees.{Trees, none, tree, leaf, ◌+++◌, sort_of, is_sort, erase_label}
use Rattle.type_terms.specs.Trees.{own_binder, outside, outer_binder}
use Rattle.type_terms.specs.Promised.Worlds.{Reference}
use Rattle.type_terms.specs.Promised.Rules.{unsize, principal_with, autos_with}
use Rattle.type_terms.specs.Promised.Answers.{written_in}
use Rattle.type_terms.specs.Promised.Handles.{Entry, trees_at}
use Rattle.type_terms.specs.Terms.{Lawful}
use Rattle.type_terms.specs.Promised.Handles.{ArgsHeld, region_label, region_trees}
use Rattle.type_terms.specs.Kinds.{args_trees, autos_trees, principal_trees, bounds_trees}
use Rattle.type_terms.specs.declared.TraitId.{TraitId}
use Rattle.type_terms.specs.declared.kinds.GenericArgKind.{GenericArgKind}
use Rattle.type_terms.specs.declared.kinds.Principal.{Principal}
use Rattle.type_terms.specs.declared.kinds.BoundsData.{BoundsData}
use Rattle.type_terms.specs.declared.region.Region.{Region}
use Rattle.type_terms.specs.declared.region.RegionKind.{RegionKind}
use Rattle.type_terms.specs.declared.region.RegionKind.TheVariants.{ReStatic, ReEarlyParam, RePlaceholder, ReBound, ReVar}
use Rattle.type_terms.specs.declared.number.BoundVarIndexKind.TheVariants.{Bound as KBinder, Canonical as KCanonical}
use Rattle.type_terms.proofs.Made.{false-true, left, right}
use Rattle.term_folds.specs.Signatures.{StartsWithType}
use Rattle.infer_table.specs.declared.input.CanonicalInput.{CanonicalInput}
use Rattle.infer_table.specs.Values.{sort_of_arg}
use Rattle.declarations.specs.declared.items.AdtDef.{AdtDef}
use Rattle.declarations.specs.declared.items.TraitDef.{TraitDef}
use Rattle.declarations.specs.Items.{Items, reference_in, struct_at, trait_at, written}
use Rattle.declarations.specs.Promised.Elaboration.{Each}
use Rattle.declarations.specs.Applied.{sort_of_param, sorts_of, sorts_of_params}
use Rattle.candidate_model.specs.Asking.{next_of, with_plain_head, begins_with_type, is_rigid}
use Rattle.infer_table.proofs.SolutionLaws.{is_sort-equal}
use Rattle.infer_table.proofs.EquationFacts.{erase-sort}
use Rattle.structural_traits.specs.Constituents.{AreArguments, StructIsApplied}
use Rattle.candidate_assembly.specs.Sections.{autos_of}
use Rattle.candidate_assembly.specs.Fitting.{same_sorts, are_of_trait, are_of_struct, is_shut, names_unsize, principal_fits, type_fits, reference_fits, GoalFits}
use Rattle.built_in_candidates.specs.Objects.{AreArgumentsOf, ObjectIsApplied}
use Rattle.built_in_candidates.specs.Unsizing.{TargetIsApplied, CanUnsize}
use Rattle.built_in_candidates.proofs.Pairs.{arg-tree}

-- ---- sorts
sorts-are : (ss ts : List Sort) → same_sorts ss ts ≡ true → ss ≡ ts
sorts-are [] [] e = refl
sorts-are [] (t ∷ ts) e = absurd (false-true e)
sorts-are (s ∷ ss) [] e = absurd (false-true e)
sorts-are (s ∷ ss) (t ∷ ts) e = ap (λ z. z ∷ ss) (is_sort-equal s t (left (is_sort s t) _ e)) ∙ ap (λ z. t ∷ z) (sorts-are ss ts (right (is_sort s t) _ e))

-- each argument is one tree of its sort
pub args-sorts : (es : List Entry) → Lawful es → (xs : List GenericArgKind) → ArgsHeld es xs → sorts_of (args_trees es xs) ≡ map sort_of_arg xs
args-sorts es law [] h = refl
args-sorts es law (x ∷ xs) h =
    let one = arg-tree es law x h.0 in
    ap (λ t. sorts_of (t +++ args_trees es xs)) one.is ∙ ap (λ s. s ∷ sorts_of (args_trees es xs)) one.sort ∙ ap (λ l. sort_of_arg x ∷ l) (args-sorts es law xs h.1)

-- ---- what is declared
module _ (d : Items) where
  pub trait-found : (t : ℕ) (ss : List Sort) (def : TraitDef) → Some def ≡ trait_at t d.traits → same_sorts ss (sorts_of_params def) ≡ are_of_trait d t ss
  trait-found t ss def e = ap (λ o. option_map_or (λ x. same_sorts ss (sorts_of_params x)) o true) e

  pub struct-found : (s : ℕ) (ss : List Sort) (def : AdtDef) → Some def ≡ struct_at s d.structs → same_sorts ss (map sort_of_param def.params.items) ≡ are_of_struct d s ss
  struct-found s ss def e = ap (λ o. option_map_or (λ x. same_sorts ss (map sort_of_param x.params.items)) o true) e

-- ---- what tests tell
pub of-trait : (ss : List Sort) (o : Option TraitDef) → option_map_or (λ def. same_sorts ss (sorts_of_params def)) o true ≡ true → IfSome o (λ def. ss ≡ sorts_of_params def)
of-trait ss None e = tt
of-trait ss (Some def) e = sorts-are ss (sorts_of_params def) e

of-struct : (ss : List Sort) (o : Option AdtDef) → option_map_or (λ def. same_sorts ss (map sort_of_param def.params.items)) o true ≡ true → IfSome o (λ def. ss ≡ map sort_of_param def.params.items)
of-struct ss None e = tt
of-struct ss (Some def) e = sorts-are ss (map sort_of_param def.params.items) e

pub shut-is : (t : Trees) → is_shut t ≡ true → outer_binder t ≡ 0
shut-is t e = eqb-true (outer_binder t) 0 e

pub is-true : (b : Bool) → not b ≡ true → b ≡ false
is-true true e = absurd (false-true e)
is-true false e = refl

pub second-part : (b x : Bool) → b ≡ true → (not b || x) ≡ true → x ≡ true
second-part true x e f = f
second-part false x e f = absurd (false-true e)

-- ---- the first type
rigid-type : (l : Label) → is_rigid l ≡ true → sort_of l ≡ of_type
rigid-type l e = is_sort-equal (sort_of l) of_type (left (is_sort (sort_of l) of_type) _ e)

type-first : (t : Trees) → begins_with_type t ≡ true → StartsWithType t
type-first none e = absurd (false-true e)
type-first (tree (canonical of_type i) c o) e = refl
type-first (tree (canonical of_const i) c o) e = absurd (false-true e)
type-first (tree (canonical of_lifetime i) c o) e = absurd (false-true e)
type-first (tree l c o) e = rigid-type l e

-- no binder number leads out of a label that is read up to lifetimes, where none did before
plain-shut : (l : Label) (n : ℕ) → max (own_binder l) (outside l n) ≡ 0 → max (own_binder (erase_label l)) (outside (erase_label l) n) ≡ 0
plain-shut (param of_type i) n e = e
plain-shut (param of_const i) n e = e
plain-shut (param of_lifetime i) n e = e
plain-shut (placeholder of_type i) n e = e
plain-shut (placeholder of_const i) n e = e
plain-shut (placeholder of_lifetime i) n e = e
plain-shut (infer of_type i) n e = e
plain-shut (infer of_const i) n e = e
plain-shut (infer of_lifetime i) n e = e
plain-shut (canonical of_type i) n e = e
plain-shut (canonical of_const i) n e = e
plain-shut (canonical of_lifetime i) n e = e
plain-shut (bound of_type i j) n e = e
plain-shut (bound of_const i j) n e = e
plain-shut (bound of_lifetime i j) n e = omega (arith, e)
plain-shut l n e = e

greater-first : (a b : ℕ) → max a b ≡ 0 → a ≡ 0
greater-first a b e = omega (arith, e)

greater-second : (a b : ℕ) → max a b ≡ 0 → b ≡ 0
greater-second a b e = omega (arith, e)

greatest : (a b : ℕ) → a ≡ 0 → b ≡ 0 → max a b ≡ 0
greatest a b e f = omega (arith, e, f)

-- ---- structs and `dyn` types
module _ (d : Items) where
  struct-arguments : (s : ℕ) (args o : Trees) → are_of_struct d s (sorts_of args) ≡ true → outer_binder (tree (adt s) args o) ≡ 0 → AreArguments d s args
  struct-arguments s args o e h = record {
    sorts = of-struct (sorts_of args) (struct_at s d.structs) e;
    closed = greater-second 0 (outer_binder args) (greater-first (max 0 (outer_binder args)) (outer_binder o) h);
  }

  struct-applied : (t : Trees) → type_fits d t ≡ true → outer_binder t ≡ 0 → StructIsApplied d t
  struct-applied none e h = tt
  struct-applied (tree (adt s) args o) e h = struct-arguments s args o e h
  struct-applied (tree l c o) e h = tt

  -- the principal of these bounds, with a type for Self
  principal-applied : (l : Label) (c b : Trees) → sort_of l ≡ of_type → outer_binder (tree l c none) ≡ 0 → principal_fits d b ≡ true → Each (AreArgumentsOf d) (principal_with (tree l c none) b)
  principal-applied l c none s h e = tt
  principal-applied l c (tree (principal n t) args o) s h e =
      let sorts = of-trait (of_type ∷ sorts_of args) (trait_at t d.traits) (left (are_of_trait d t (of_type ∷ sorts_of args)) _ e) in
      let shut = shut-is args (right (are_of_trait d t (of_type ∷ sorts_of args)) _ e) in (
        record {
          sorts = subst (λ k. IfSome (trait_at t d.traits) (λ def. k ∷ sorts_of args ≡ sorts_of_params def)) (sym s) sorts;
          closed = greatest (max (own_binder l) (outside l (outer_binder c))) (outer_binder args) (greater-first (max (own_binder l) (outside l (outer_binder c))) 0 h) shut;
        },
        tt,
      )
  principal-applied l c (tree m x o) s h e = tt

  alone : (l : Label) (c o : Trees) → outer_binder (tree l c o) ≡ 0 → outer_binder (tree l c none) ≡ 0
  alone l c o h =
      greatest (max (own_binder l) (outside l (outer_binder c))) 0 (greater-first (max (own_binder l) (outside l (outer_binder c))) (outer_binder o) h) refl

  object-applied : (t : Trees) → type_fits d t ≡ true → outer_binder t ≡ 0 → ObjectIsApplied d t
  object-applied none e h = tt
  object-applied (tree dynamic b o) e h = principal-applied dynamic b b refl (alone dynamic b o h) (left (principal_fits d b) _ e)
  object-applied (tree l c o) e h = tt

  target-applied : (l : Label) (c o : Trees) → sort_of l ≡ of_type → outer_binder (tree l c none) ≡ 0 → type_fits d o ≡ true → outer_binder o ≡ 0 → TargetIsApplied d (tree l c o)
  target-applied l c none s h e g = tt
  target-applied l c (tree dynamic b p) s h e g = principal-applied l c b s h (left (principal_fits d b) _ e)
  target-applied l c (tree (adt k) args p) s h e g = struct-arguments k args p e g
  target-applied l c (tree m x p) s h e g = tt

  plain-alone : (l : Label) (c o : Trees) → outer_binder (tree l c o) ≡ 0 → outer_binder (tree (erase_label l) c none) ≡ 0
  plain-alone l c o h =
      greatest (max (own_binder (erase_label l)) (outside (erase_label l) (outer_binder c))) 0
      (plain-shut l (outer_binder c) (greater-first (max (own_binder l) (outside l (outer_binder c))) (outer_binder o) h)) refl

  unsizing-fits : (t : Trees) → StartsWithType t → outer_binder t ≡ 0 → begins_with_type (next_of t) ≡ true → type_fits d (next_of t) ≡ true → CanUnsize d (with_plain_head t)
  unsizing-fits none s h b e = absurd s
  unsizing-fits (tree l c o) s h b e = record {
    target = type-first o b;
    applied = target-applied (erase_label l) c o (erase-sort l ∙ s) (plain-alone l c o h) e (greater-second (max (own_binder l) (outside l (outer_binder c))) (outer_binder o) h);
  }

-- ---- the auto traits of a `dyn`
abbrev is_unsize : Reference → Bool
is_unsize r = r.trait == unsize

-- whatever stands for Self
autos-alike : (x y b : Trees) → list_any is_unsize (autos_with x b) ≡ list_any is_unsize (autos_with y b)
autos-alike x y none = refl
autos-alike x y (tree (auto_trait t) c o) = ap (λ z. (t == unsize) || z) (autos-alike x y o)
autos-alike x y (tree l c o) = autos-alike x y o

region-autos : (k : RegionKind) → list_any is_unsize (autos_with none (leaf (region_label k))) ≡ false
region-autos ReStatic = refl
region-autos (ReEarlyParam i) = refl
region-autos (RePlaceholder i) = refl
region-autos (ReBound (KBinder j) v) = refl
region-autos (ReBound KCanonical v) = refl
region-autos (ReVar v) = refl

-- the auto traits as they are listed
listed-autos : (ids : List TraitId) (r : Region) → list_any (λ (x : TraitId). x.index == unsize) ids ≡ names_unsize (autos_trees ids +++ region_trees r)
listed-autos [] r = sym (region-autos r.kind)
listed-autos (x ∷ ids) r = ap (λ b. (x.index == unsize) || b) (listed-autos ids r)

region-principal : (d : Items) (k : RegionKind) → principal_fits d (leaf (region_label k)) ≡ true
region-principal d ReStatic = refl
region-principal d (ReEarlyParam i) = refl
region-principal d (RePlaceholder i) = refl
region-principal d (ReBound (KBinder j) v) = refl
region-principal d (ReBound KCanonical v) = refl
region-principal d (ReVar v) = refl

-- without a principal
pub autos-fit : (d : Items) (ids : List TraitId) (r : Region) → principal_fits d (autos_trees ids +++ region_trees r) ≡ true
autos-fit d [] r = region-principal d r.kind
autos-fit d (x ∷ ids) r = refl

-- the bounds of a `dyn`, with a principal that fits or without one
module _ (d : Items) where
  abbrev pub bounds_both : Trees → Bool
  bounds_both bs = principal_fits d bs && not (names_unsize bs)

  pub bounds-with : (es : List Entry) (b : BoundsData) (p : Principal) (r : Region) → b.principal ≡ Some p
      → (are_of_trait d p.def_id.index (of_type ∷ sorts_of (trees_at es p.args.0)) && is_shut (trees_at es p.args.0)) ≡ true
      → not (list_any (λ (x : TraitId). x.index == unsize) b.autos.items) ≡ bounds_both (bounds_trees es b +++ region_trees r)
  bounds-with es b p r e h =
      ap not (listed-autos b.autos.items r)
      ∙ sym (ap (λ z. z && not (names_unsize (autos_trees b.autos.items +++ region_trees r))) h)
      ∙ sym (ap (λ o. bounds_both ((principal_trees es o +++ autos_trees b.autos.items) +++ region_trees r)) e)

  pub bounds-without : (es : List Entry) (b : BoundsData) (r : Region) → b.principal ≡ None
      → not (list_any (λ (x : TraitId). x.index == unsize) b.autos.items) ≡ bounds_both (bounds_trees es b +++ region_trees r)
  bounds-without es b r e =
      ap not (listed-autos b.autos.items r)
      ∙ sym (ap (λ z. z && not (names_unsize (autos_trees b.autos.items +++ region_trees r))) (autos-fit d b.autos.items r))
      ∙ sym (ap (λ o. bounds_both ((principal_trees es o +++ autos_trees b.autos.items) +++ region_trees r)) e)

no-autos : (d : Items) (t : Trees) → type_fits d t ≡ true → list_any is_unsize (autos_of (with_plain_head t)) ≡ false
no-autos d none e = refl
no-autos d (tree dynamic b o) e = autos-alike (tree dynamic b none) none b ∙ is-true (names_unsize b) (right (principal_fits d b) _ e)
no-autos d (tree (param of_type i) c o) e = refl
no-autos d (tree (param of_const i) c o) e = refl
no-autos d (tree (param of_lifetime i) c o) e = refl
no-autos d (tree (placeholder of_type i) c o) e = refl
no-autos d (tree (placeholder of_const i) c o) e = refl
no-autos d (tree (placeholder of_lifetime i) c o) e = refl
no-autos d (tree (infer of_type i) c o) e = refl
no-autos d (tree (infer of_const i) c o) e = refl
no-autos d (tree (infer of_lifetime i) c o) e = refl
no-autos d (tree (canonical of_type i) c o) e = refl
no-autos d (tree (canonical of_const i) c o) e = refl
no-autos d (tree (canonical of_lifetime i) c o) e = refl
no-autos d (tree (bound of_type i j) c o) e = refl
no-autos d (tree (bound of_const i j) c o) e = refl
no-autos d (tree (bound of_lifetime i j) c o) e = refl
no-autos d (tree l c o) e = refl

told : (b x : Bool) → x ≡ false → (not b || not x) ≡ true
told true x e = ap not e
told false x e = refl

-- ---- a goal that fits
module _ (es : List Entry) (d : Items) (g : CanonicalInput) where
  abbrev T : Trees
  T = trees_at es g.goal.predicate.trait_ref.args.0

  abbrev t : ℕ
  t = g.goal.predicate.trait_ref.def_id.index

  abbrev own : Reference
  own = reference_in es g.goal.predicate.trait_ref

  pub goal-fits : written_in (written es d) own ≡ true → (begins_with_type T && (not (t == unsize) || begins_with_type (next_of T))) ≡ true → reference_fits d own ≡ true → GoalFits es d g
  goal-fits names begins fits =
      let a = left (are_of_trait d t (sorts_of T)) _ fits in
      let rest = right (are_of_trait d t (sorts_of T)) _ fits in
      let shut = shut-is T (left (is_shut T) _ rest) in
      let types = right (is_shut T) _ rest in
      let self = left (type_fits d T) _ types in
      let first = type-first T (left (begins_with_type T) _ begins) in
      record {
        written = names;
        applied = record { sorts = of-trait (sorts_of T) (trait_at t d.traits) a; closed = shut };
        first = first;
        struct = struct-applied d T self shut;
        object = object-applied d T self shut;
        unsizing = λ u. unsizing-fits d T first shut (second-part (t == unsize) _ u (right (begins_with_type T) _ begins)) (second-part (t == unsize) _ u (right (type_fits d T) _ types));
        tells = told (t == unsize) (list_any is_unsize (autos_of (with_plain_head T))) (no-autos d T self);
      }
