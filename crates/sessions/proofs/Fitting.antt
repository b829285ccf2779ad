-- Decided goals whose terms have the sorts that are declared fit the declarations.
use Rattle.std.proofs.Common.{◌≡◌, ◌==◌, ℕ, zero, suc, max, Bool, true, false, ◌&&◌, ◌||◌, not, List, [], ◌∷◌, map, Option, Some, None, refl, sym, ◌∙◌, ap, subst}
use Rattle.std.specs.List.{list_all}
use Rattle.std.specs.Option.{option_map_or}
use Rattle.type_terms.specs.Promised.Label.{Label, Sort, of_type, of_const, of_lifetime, adt, dynamic, principal, auto_trait, of_trait, predicate, param, placeholder, infer, canonical, bound, value, static}
use Rattle.type_terms.specs.Promised.Trees.{Trees, none, tree, nth, sort_of, is_sort, some_node}
use Rattle.type_terms.specs.Trees.{is_a, is_no_tree, own_binder, outside, outer_binder}
use Rattle.type_terms.specs.Promised.Worlds.{World, Reference, StructDecl, structs_named}
use Rattle.type_terms.specs.Promised.Rules.{unsize}
use Rattle.type_terms.specs.Promised.Proofs.{In}
use Rattle.type_terms.proofs.Fitting.{child-shut, next-shut}
use Rattle.type_terms.proofs.Members.{here, there, in-filter, same-number}
use Rattle.type_terms.proofs.Walking.{both, or-right}
use Rattle.type_terms.specs.Made.{terms, is_leaf_label, is_made}
use Rattle.type_terms.proofs.Made.{is_ordinary, made-ordinary, made-rest}
use Rattle.type_terms.specs.Promised.Handles.{Entry}
use Rattle.infer_table.specs.Canonical.{CanonicalForm}
use Rattle.goal_evaluator.specs.Variables.{is_variable_over}
use Rattle.declarations.specs.declared.items.AdtDef.{AdtDef}
use Rattle.declarations.specs.declared.items.TraitDef.{TraitDef}
use Rattle.declarations.specs.Applied.{sort_of_param, sorts_of, sorts_of_params}
use Rattle.declarations.specs.Items.{Items, struct_at, trait_at, written}
use Rattle.candidate_model.specs.Asking.{GoalOverKinds, goal_over_kinds, all_known, next_of, with_plain_head, self_of}
use Rattle.candidate_model.specs.Lifetimes.{lacks_lifetime, are_given, gives_lifetimes, given_by, form_gives_lifetimes}
use Rattle.candidate_model.proofs.Cover.{asked-by}
use Rattle.candidate_model.proofs.Instances.{is_bound, Unbound}
use Rattle.candidate_assembly.specs.Fitting.{same_sorts, are_of_trait, is_shut, names_unsize, principal_fits, type_fits, reference_fits, predicate_fits, fits_declared, solving_of}
use Rattle.solver_completeness.specs.FormedFacts.{Sorts, EachNode, IsParamOf, HasParams, IsTraitOf, NodesFit, FitsSorts, IsFormedView}
use Rattle.solver_completeness.specs.UnboundGoals.{is_unbound}
use Rattle.sessions.specs.Fitting.{sorts_in, fits_in, SortsTellFits}
use Rattle.type_terms.proofs.TermBasics.{sort-self as same-sort}
use Rattle.type_terms.proofs.BooleanBasics.{none-of}

-- ---- sorts
pub same-ones : (ss : List Sort) → same_sorts ss ss ≡ true
same-ones [] = refl
same-ones (s ∷ ss) = both (is_sort s s) (same_sorts ss ss) (same-sort s) (same-ones ss)

of-trait : (ss : List Sort) (o : Option TraitDef) → ss ≡ option_map_or sorts_of_params o [] → option_map_or (λ def. same_sorts ss (sorts_of_params def)) o true ≡ true
of-trait ss None e = refl
of-trait ss (Some def) e = subst (λ z. same_sorts ss z ≡ true) e (same-ones ss)

of-struct : (ss : List Sort) (o : Option AdtDef) → ss ≡ option_map_or (λ def. map sort_of_param def.params.items) o [] → option_map_or (λ def. same_sorts ss (map sort_of_param def.params.items)) o true ≡ true
of-struct ss None e = refl
of-struct ss (Some def) e = subst (λ z. same_sorts ss z ≡ true) e (same-ones ss)

-- ---- no binder number leads out of terms in which nothing is bound
label-shut : (l : Label) → is_bound l ≡ false → max (own_binder l) (outside l 0) ≡ 0
label-shut (bound s k i) h = cc
label-shut l h = refl

pub shut : (t : Trees) → Unbound t → outer_binder t ≡ 0
shut none h = refl
shut (tree l c o) h =
    ap (λ n. max (max (own_binder l) (outside l n)) (outer_binder o)) (shut c (child-shut is_bound l c o h))
    ∙ ap (λ n. max (max (own_binder l) (outside l 0)) n) (shut o (next-shut is_bound l c o h))
    ∙ ap (λ n. max n 0) (label-shut l (own l c o h))
  where
    own : (l : Label) (c o : Trees) → Unbound (tree l c o) → is_bound l ≡ false
    own (bound s k i) c o h = h
    own l c o h = refl

-- ---- lifetimes
lifetime-leaf : (l : Label) → sort_of l ≡ of_lifetime → is_leaf_label l ≡ true
lifetime-leaf static e = refl
lifetime-leaf (param s i) e = refl
lifetime-leaf (placeholder s i) e = refl
lifetime-leaf (infer s i) e = refl
lifetime-leaf (canonical s i) e = refl
lifetime-leaf (bound s k i) e = refl
lifetime-leaf (value n) e = refl
lifetime-leaf l e = absurd cc

lifetime-ordinary : (l : Label) → sort_of l ≡ of_lifetime → is_ordinary l ≡ true
lifetime-ordinary dynamic e = absurd cc
lifetime-ordinary (principal n t) e = absurd cc
lifetime-ordinary (auto_trait t) e = absurd cc
lifetime-ordinary (predicate k) e = absurd cc
lifetime-ordinary l e = refl

second : (b c : Bool) → b ≡ true → (not b || c) ≡ true → c ≡ true
second true c e h = h
second false c e h = absurd cc

all-of : {A : Type 0} (p : A → Bool) (xs : List A) → ((x : A) → In x xs → p x ≡ true) → list_all p xs ≡ true
all-of p [] f = refl
all-of p (x ∷ xs) f = both (p x) (list_all p xs) (f x (here x xs)) (all-of p xs (λ y i. f y (there y x xs i)))

module _ (good : Label → Bool) where
  -- an argument for a lifetime is one
  nth-is : (A : Trees) (i : ℕ) → is_made good terms A ≡ true → IsParamOf (sorts_of A) i of_lifetime → is_a of_lifetime (nth A i) ≡ true
  nth-is none i m h = absurd h
  nth-is (tree l c o) zero m h =
      let x = made-ordinary good l c o (lifetime-ordinary l h) m in
      both (is_sort (sort_of l) of_lifetime) (is_no_tree c && true) (ap (λ s. is_sort s of_lifetime) h) (both (is_no_tree c) true (second (is_leaf_label l) (is_no_tree c) (lifetime-leaf l h) x.1) refl)
  nth-is (tree l c o) (suc i) m h = nth-is o i (made-rest good l c o m) h

  module _ (A : Trees) (made : is_made good terms A ≡ true) where
    label-lacks : (l : Label) (c : Trees) → HasParams (sorts_of A) l c → lacks_lifetime A l ≡ false
    label-lacks (param of_lifetime i) c h = ap not (nth-is A i made h)
    label-lacks (param of_type i) c h = refl
    label-lacks (param of_const i) c h = refl
    label-lacks l c h = refl

    lacks-none : (t : Trees) → EachNode (HasParams (sorts_of A)) t → some_node (lacks_lifetime A) t ≡ false
    lacks-none none h = refl
    lacks-none (tree l c o) h = none-of (lacks_lifetime A l) (some_node (lacks_lifetime A) c) (some_node (lacks_lifetime A) o) (label-lacks l c h.0) (lacks-none c h.1) (lacks-none o h.2)

-- ---- goals
module _ (es : List Entry) (d : Items) (formed : IsFormedView (written es d) (sorts_in d)) where
  abbrev V : World
  V = written es d

  abbrev sorts : Sorts
  sorts = sorts_in d

  trait-fits : (t : ℕ) (ss : List Sort) → IsTraitOf V sorts t ss → are_of_trait d t ss ≡ true
  trait-fits t ss h = of-trait ss (trait_at t d.traits) h.1

  auto-apart : (t : ℕ) → IsTraitOf V sorts t (of_type ∷ []) → (t == unsize) ≡ false
  auto-apart t h = by (t == unsize) refl
    where
      by : (b : Bool) → (t == unsize) ≡ b → (t == unsize) ≡ false
      by false e = e
      by true e = absurd (differ (h.1 ∙ ap sorts.of_trait (same-number t unsize e) ∙ formed.unsizes))
        where
          differ : (of_type ∷ []) ≡ of_type ∷ of_type ∷ [] → ⊥
          differ q = cc

  names : (b : Trees) → NodesFit V sorts b → names_unsize b ≡ false
  names none h = refl
  names (tree (auto_trait t) c o) h = or-false (t == unsize) (names_unsize o) (auto-apart t h.0) (names o h.2)
    where
      or-false : (a b : Bool) → a ≡ false → b ≡ false → (a || b) ≡ false
      or-false a b e f = rw (e, f) refl
  names (tree l c o) h = names o h.2

  closes : (t : Trees) → Unbound t → is_shut t ≡ true
  closes t u = ap (λ n. n == 0) (shut t u)

  principal-told : (b : Trees) → Unbound b → NodesFit V sorts b → principal_fits d b ≡ true
  principal-told none u h = refl
  principal-told (tree (principal n t) args o) u h = both (are_of_trait d t (of_type ∷ sorts_of args)) (is_shut args) (trait-fits t (of_type ∷ sorts_of args) h.0) (closes args (child-shut is_bound (principal n t) args o u))
  principal-told (tree l c o) u h = refl

  type-told : (t : Trees) → Unbound t → NodesFit V sorts t → type_fits d t ≡ true
  type-told none u h = refl
  type-told (tree (adt s) args o) u h = of-struct (sorts_of args) (struct_at s d.structs) h.0.1
  type-told (tree dynamic b o) u h = both (principal_fits d b) (not (names_unsize b)) (principal-told b (child-shut is_bound dynamic b o u) h.1) (ap not (names b h.1))
  type-told (tree l c o) u h = refl

  next-unbound : (t : Trees) → Unbound t → Unbound (next_of t)
  next-unbound none u = refl
  next-unbound (tree l c o) u = next-shut is_bound l c o u

  next-fit : (t : Trees) → NodesFit V sorts t → NodesFit V sorts (next_of t)
  next-fit none h = tt
  next-fit (tree l c o) h = h.2

  reference-told : (r : Reference) → Unbound r.args → FitsSorts V sorts r → reference_fits d r ≡ true
  reference-told r u h =
      both (are_of_trait d r.trait (sorts_of r.args)) _ (trait-fits r.trait (sorts_of r.args) h.trait)
      (both (is_shut r.args) _ (closes r.args u)
      (both (type_fits d r.args) _ (type-told r.args u h.nodes)
      (or-right (not (r.trait == unsize)) (type_fits d (next_of r.args)) (type-told (next_of r.args) (next-unbound r.args u) (next-fit r.args h.nodes)))))

  -- ---- the lifetimes of structs
  named : (s : ℕ) (x : StructDecl) → In x (structs_named V s) → (In x V.structs) × (x.name ≡ s)
  named s x i = let m = in-filter (λ (y : StructDecl). y.name == s) V.structs x i in (m.0, same-number x.name s m.1)

  struct-given : (good : Label → Bool) (s : ℕ) (A : Trees) → is_made good terms A ≡ true → sorts_of A ≡ sorts.of_struct s → list_all (are_given A) (structs_named V s) ≡ true
  struct-given good s A made e =
      all-of (are_given A) (structs_named V s)
      (λ x i.
      let n = named s x i in
      all-of (λ t. not (some_node (lacks_lifetime A) t)) x.fields
      (λ t j.
      ap not
      (lacks-none good A made t
      (subst (λ ss. EachNode (HasParams ss) t) (ap sorts.of_struct n.1 ∙ sym e) (formed.fields x t n.0 j).params))))

  gives : (good : Label → Bool) (t : Trees) → is_made good terms t ≡ true → NodesFit V sorts t → gives_lifetimes V t ≡ true
  gives good none m h = refl
  gives good (tree (adt s) A o) m h = struct-given good s A (made-ordinary good (adt s) A o refl m).2 h.0.1
  gives good (tree l c o) m h = refl

  -- the head is read up to lifetimes
  plain-gives : (t : Trees) → gives_lifetimes V (with_plain_head t) ≡ gives_lifetimes V t
  plain-gives none = refl
  plain-gives (tree (param of_type i) c o) = refl
  plain-gives (tree (param of_const i) c o) = refl
  plain-gives (tree (param of_lifetime i) c o) = refl
  plain-gives (tree (placeholder of_type i) c o) = refl
  plain-gives (tree (placeholder of_const i) c o) = refl
  plain-gives (tree (placeholder of_lifetime i) c o) = refl
  plain-gives (tree (infer of_type i) c o) = refl
  plain-gives (tree (infer of_const i) c o) = refl
  plain-gives (tree (infer of_lifetime i) c o) = refl
  plain-gives (tree (canonical of_type i) c o) = refl
  plain-gives (tree (canonical of_const i) c o) = refl
  plain-gives (tree (canonical of_lifetime i) c o) = refl
  plain-gives (tree (bound of_type i j) c o) = refl
  plain-gives (tree (bound of_const i j) c o) = refl
  plain-gives (tree (bound of_lifetime i j) c o) = refl
  plain-gives (tree l c o) = refl

  same-next : (t : Trees) → next_of (with_plain_head t) ≡ next_of t
  same-next none = refl
  same-next (tree l c o) = refl

  made-next : (good : Label → Bool) (t : Trees) → is_made good terms t ≡ true → is_made good terms (next_of t) ≡ true
  made-next good none m = refl
  made-next good (tree l c o) m = made-rest good l c o m

  pub sorts-tell : (f : CanonicalForm) (a : GoalOverKinds) → goal_over_kinds V f ≡ Some a → is_unbound f ≡ true → FitsSorts V sorts a.reference → fits_in (solving_of es d) f ≡ true
  sorts-tell f a e u h =
      let is = asked-by V f.goal.environment f.goal.predicate (all_known f.kinds) a e in
      let args = a.reference.args in
      let good = is_variable_over a.kinds in
      let unbound = child-shut is_bound (predicate (of_trait a.reference.trait)) args none (subst Unbound is.predicate_is (not-so (some_node is_bound f.goal.predicate) u)) in
      both (fits_declared d f) (form_gives_lifetimes V f) (ap (predicate_fits d) is.predicate_is ∙ reference-told a.reference unbound h)
      (ap (given_by V) e
      ∙ both (gives_lifetimes V (self_of a)) _ (plain-gives args ∙ gives good args is.over h.nodes)
      (or-right (not (a.reference.trait == unsize)) (gives_lifetimes V (next_of (self_of a)))
      (ap (gives_lifetimes V) (same-next args) ∙ gives good (next_of args) (made-next good args is.over) (next-fit args h.nodes))))
    where
      not-so : (b : Bool) → not b ≡ true → b ≡ false
      not-so false q = refl
      not-so true q = absurd cc

pub sorts-tell-fits : SortsTellFits
sorts-tell-fits es d formed = sorts-tell es d formed
