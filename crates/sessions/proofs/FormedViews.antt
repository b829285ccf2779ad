-- What a crate sees of a text without a fault is formed.
use Rattle.std.proofs.Common.{◌≡◌, ◌==◌, ◌<◌, ◌⊎◌, ℕ, zero, suc, Bool, true, false, ◌&&◌, ◌||◌, not, List, [], ◌∷◌, map, length, Some, refl, sym, ap, ◌∙◌, subst, inl, inr}
use Rattle.std.proofs.lemmas.Bool.{eqb-true}
use Rattle.std.proofs.lemmas.Option.{same_Some, slice_get_within}
use Rattle.std.specs.Prelude.{slice_get, filter, if◌then◌else◌, nat_lt}
use Rattle.std.specs.List.{list_any}
use Rattle.std.specs.Option.{option_map_or}
use Rattle.type_terms.specs.Promised.Label.{Label, Sort, of_type, of_const, of_lifetime, adt, tuple, fn_ptr, raw_pointer, ref, array, slice, dynamic, static, principal, auto_trait, param, bound, predicate}
use Rattle.type_terms.specs.Promised.Trees.{Trees, none, tree, sort_of, is_sort, some_node}
use Rattle.type_terms.specs.Promised.Worlds.{World, Reference, CrateDecl, StructDecl, TraitDecl, ImplDecl, core, crates_named, structs_named, traits_named, sees_within, sees}
use Rattle.type_terms.specs.Promised.Rules.{autos_with, sized, clone, copy, unsize}
use Rattle.type_terms.specs.Promised.Proofs.{In}
use Rattle.type_terms.specs.Promised.Walks.{struct_is}
use Rattle.type_terms.proofs.Fitting.{child-shut, next-shut}
use Rattle.type_terms.proofs.Members.{here, there, in-cases, in-nothing, in-filter, filter-in, in-map, some-member, member-some, same-number, self-number, not-both}
use Rattle.type_terms.proofs.NoHolds.{member-each}
use Rattle.type_terms.specs.Promised.Handles.{Entry}
use Rattle.type_terms.specs.declared.AdtId.{AdtId}
use Rattle.type_terms.specs.declared.TraitId.{TraitId}
use Rattle.declarations.specs.declared.items.AdtDef.{AdtDef}
use Rattle.declarations.specs.declared.items.TraitDef.{TraitDef}
use Rattle.declarations.specs.Applied.{sort_of_param, sorts_of, sorts_of_params}
use Rattle.declarations.specs.Items.{Items, struct_in, trait_in, struct_at, trait_at, written}
use Rattle.declarations.specs.Promised.Elaboration.{Each}
use Rattle.text_language.specs.Promised.Declarations as text
use Rattle.text_language.specs.Promised.Declarations.{NamedCrate, NamedStruct, NamedTrait, NamedImpl, world_of}
use Rattle.text_language.specs.Declarations.{nothing_declared}
use Rattle.text_lowering.specs.Promised.SeenWorlds.{plain_label, plain, plain_reference, plain_struct, plain_trait, plain_impl, all_kept, none_kept, stands_in, unbound_reference}
use Rattle.text_lowering.specs.Seen.{struct_sorts, trait_sorts}
use Rattle.candidate_model.specs.Asking.{next_of}
use Rattle.candidate_model.specs.DeclaredWell.{are_distinct, is_single}
use Rattle.text_lowering.specs.Ready.{AreSeen, OfTexts}
use Rattle.text_lowering.proofs.Matched.{IsItem, each-placed, items-matched}
use Rattle.text_lowering.proofs.Sorts.{is_bad}
use Rattle.text_lowering.proofs.Spoken.{plain-sorts}
use Rattle.text_lowering.proofs.Tests.{is_good, is_good_struct, is_good_trait}
use Rattle.text_lowering.proofs.Texts.{Well, is_bare, is_nil}
use Rattle.text_lowering.proofs.Trees.{and-left, or-left}
use Rattle.text_lowering.proofs.SeenViews.{good-fits, sort-there}
use Rattle.solver_completeness.specs.GoalSets.{begins_typed}
use Rattle.solver_completeness.specs.FormedFacts.{Sorts, EachNode, AreTypeSorts, IsParamOf, HasParams, IsTraitOf, FitsNode, NodesFit, IsField, IsFormedBound, IsFormedView, FitsSorts}
use Rattle.sessions.specs.Fitting.{sorts_in}
use Rattle.sessions.specs.Views.{TextsAreFormed}
use Rattle.sessions.proofs.FormedTexts.{scope, IsFormedField, IsFormedReference, StructFormed, TraitFormed, ImplFormed, Formed, core_trait, texts-are-formed}
use Rattle.sessions.proofs.Seeing.{AreOrdered, core-seen, seen-through}
use Rattle.sessions.proofs.TextTerms.{Scope, IsStructAt, IsTraitAt, TextNode, TextNodes}

-- ---- lists
pub each-in : {A : Type 0} (P : A → Type 0) (xs : List A) → Each P xs → (x : A) → In x xs → P x
each-in P [] h x i = absurd (in-nothing x i)
each-in P (y ∷ ys) h x i = elim (in-cases x y ys i) [ inl e ↦ subst P e h.0 | inr j ↦ each-in P ys h.1 x j ]

pub map-in : {A B : Type 0} (f : A → B) (xs : List A) (y : B) → In y (map f xs) → (x : A) × In x xs × (y ≡ f x)
map-in f [] y i = absurd (in-nothing y i)
map-in {A = A} f (x ∷ xs) y i = by (in-cases y (f x) (map f xs) i) (map-in f xs y)
  where
    by : (f x ≡ y) ⊎ In y (map f xs) → (In y (map f xs) → (z : A) × In z xs × (y ≡ f z)) → (z : A) × In z (x ∷ xs) × (y ≡ f z)
    by (inl e) r = (x, here x xs, sym e)
    by (inr j) r = let q = r j in (q.0, there q.0 x xs q.1, q.2)

module _ {N D : Type 0} (item : N → D) (plainly : D → D) (see : D → Bool) where
  pub in-seen : (ns : List N) (y : D) → In y (map plainly (filter see (map item ns))) → (n : N) × In n ns × (see (item n) ≡ true) × (y ≡ plainly (item n))
  in-seen ns y i =
      let a = map-in plainly (filter see (map item ns)) y i in
      let b = in-filter see (map item ns) a.0 a.1 in
      let c = map-in item ns a.0 b.0 in
      (c.0, c.1, ap see (sym c.2) ∙ b.1, a.2 ∙ ap plainly c.2)

  shown-in : (ns : List N) (n : N) → In n ns → see (item n) ≡ true → In (plainly (item n)) (map plainly (filter see (map item ns)))
  shown-in ns n i s = in-map plainly (filter see (map item ns)) (item n) (filter-in see (map item ns) (item n) (in-map item ns n i) s)

-- ---- terms without binders
module _ (e : Scope) (kept : ℕ → Bool) where
  the-head : (s t : Sort) → s ∷ [] ≡ t ∷ [] → s ≡ t
  the-head s t q = cc

  begins-plain : (t : Trees) → begins_typed (plain kept t) ≡ begins_typed t
  begins-plain none = refl
  begins-plain (tree l c o) = ap (λ s. is_sort s of_type) (the-head (sort_of (plain_label kept l)) (sort_of l) (plain-sorts kept (tree l none none)))

  next-plain : (t : Trees) → next_of (plain kept t) ≡ plain kept (next_of t)
  next-plain none = refl
  next-plain (tree l c o) = refl

  abbrev autos_named : Trees → List ℕ
  autos_named t = map (λ (r : Reference). r.trait) (autos_with none t)

  autos-plain : (t : Trees) → autos_named (plain kept t) ≡ autos_named t
  autos-plain none = refl
  autos-plain (tree (auto_trait n) c o) = ap (λ z. n ∷ z) (autos-plain o)
  autos-plain (tree (param of_lifetime i) c o) = by (kept i) ∙ autos-plain o
    where
      by : (b : Bool) → autos_named (tree (if b then param of_lifetime i else static) (plain kept c) (plain kept o)) ≡ autos_named (plain kept o)
      by true = refl
      by false = refl
  autos-plain (tree (param of_type i) c o) = autos-plain o
  autos-plain (tree (param of_const i) c o) = autos-plain o
  autos-plain (tree (bound of_lifetime j i) c o) = autos-plain o
  autos-plain (tree (bound of_type j i) c o) = autos-plain o
  autos-plain (tree (bound of_const j i) c o) = autos-plain o
  autos-plain (tree (fn_ptr n) c o) = autos-plain o
  autos-plain (tree (principal n t) c o) = autos-plain o
  autos-plain (tree l c o) = autos-plain o

  node-plain : (l : Label) (c : Trees) → TextNode e l c → TextNode e (plain_label kept l) (plain kept c)
  node-plain (adt s) c h = subst (IsStructAt e s) (sym (plain-sorts kept c)) h
  node-plain (principal n t) c h = subst (λ ss. IsTraitAt e t (of_type ∷ ss)) (sym (plain-sorts kept c)) h
  node-plain (auto_trait t) c h = h
  node-plain (predicate k) c h = absurd h
  node-plain tuple c h = subst AreTypeSorts (sym (plain-sorts kept c)) h
  node-plain (fn_ptr n) c h = subst AreTypeSorts (sym (plain-sorts kept c)) h
  node-plain (raw_pointer b) c h = begins-plain c ∙ h
  node-plain array c h = begins-plain c ∙ h
  node-plain slice c h = begins-plain c ∙ h
  node-plain (ref b) c h = ap begins_typed (next-plain c) ∙ begins-plain (next_of c) ∙ h
  node-plain dynamic c h = ap are_distinct (autos-plain c) ∙ h
  node-plain (param of_lifetime i) c h = by (kept i)
    where
      by : (b : Bool) → TextNode e (if b then param of_lifetime i else static) (plain kept c)
      by true = tt
      by false = tt
  node-plain (param of_type i) c h = tt
  node-plain (param of_const i) c h = tt
  node-plain (bound of_lifetime j i) c h = tt
  node-plain (bound of_type j i) c h = tt
  node-plain (bound of_const j i) c h = tt
  node-plain l c h = tt

  pub nodes-plain : (t : Trees) → TextNodes e t → TextNodes e (plain kept t)
  nodes-plain none h = tt
  nodes-plain (tree l c o) h = (node-plain l c h.0, nodes-plain c h.1, nodes-plain o h.2)

-- ---- parameters
param-at : (ss : List Sort) (i : ℕ) (s : Sort) → slice_get ss i ≡ Some s → IsParamOf ss i s
param-at [] i s e = absurd cc
param-at (t ∷ ts) zero s e = same_Some t s e
param-at (t ∷ ts) (suc i) s e = param-at ts i s e

params-of : (ss : List Sort) (t : Trees) → some_node (is_bad ss) t ≡ false → EachNode (HasParams ss) t
params-of ss none h = tt
params-of ss (tree (param s i) c o) h = (
  param-at ss i s (sort-there ss s i (or-left (is_bad ss (param s i)) (some_node (is_bad ss) c) (or-left (is_bad ss (param s i) || some_node (is_bad ss) c) (some_node (is_bad ss) o) h))),
  params-of ss c (child-shut (is_bad ss) (param s i) c o h),
  params-of ss o (next-shut (is_bad ss) (param s i) c o h),
)
params-of ss (tree l c o) h = (tt, params-of ss c (child-shut (is_bad ss) l c o h), params-of ss o (next-shut (is_bad ss) l c o h))

-- ---- what crate c sees
module _ (d : text.Declarations) (c : ℕ) (w : Well d) (f : Formed d) (es : List Entry) (decls : Items) (seen : AreSeen es decls d c) where
  abbrev W : World
  W = world_of d

  abbrev V : World
  V = written es decls

  abbrev sorts : Sorts
  sorts = sorts_in decls

  abbrev sees_struct : StructDecl → Bool
  sees_struct x = sees W c x.home

  abbrev sees_trait : TraitDecl → Bool
  sees_trait x = sees W c x.home

  abbrev sees_impl : ImplDecl → Bool
  sees_impl x = sees W c x.home

  structs-are : V.structs ≡ map plain_struct (filter sees_struct (map (λ (n : NamedStruct). n.item) d.structs))
  structs-are = ap (λ (U : World). U.structs) seen.written

  traits-are : V.traits ≡ map plain_trait (filter sees_trait (map (λ (n : NamedTrait). n.item) d.traits))
  traits-are = ap (λ (U : World). U.traits) seen.written

  impls-are : V.impls ≡ map plain_impl (filter sees_impl (map (λ (n : NamedImpl). n.item) d.impls))
  impls-are = ap (λ (U : World). U.impls) seen.written

  ordered : AreOrdered W
  ordered x i =
      let n = map-in (λ (m : NamedCrate). m.item) d.crates x i in
      let p = f.crates n.1.0 n.0 n.1.1 in
      let name : x.name ≡ n.1.0 = ap (λ (y : CrateDecl). y.name) n.2 ∙ p.0 in
      (subst (λ k. k < length W.crates) (sym name) (subst (λ k. n.1.0 < k) (sym (as-long d.crates)) (slice_get_within d.crates n.1.0 n.0 n.1.1)), λ u j. subst (λ k. u < k) (sym name) (p.1 u (subst (λ (y : CrateDecl). In u y.uses) n.2 j)))
    where
      as-long : (xs : List NamedCrate) → length (map (λ (z : NamedCrate). z.item) xs) ≡ length xs
      as-long [] = refl
      as-long (z ∷ zs) = ap suc (as-long zs)

  -- ---- structs by number
  abbrev StructPlaced : NamedStruct → Type 0
  StructPlaced n = slice_get d.structs n.item.name ≡ Some n

  struct-placed : (k : ℕ) (n : NamedStruct) → slice_get d.structs k ≡ Some n → StructPlaced n
  struct-placed k n e = subst (λ i. slice_get d.structs i ≡ Some n) (sym (w.struct_numbers k n e)) e

  abbrev IsStruct : AdtId × AdtDef → Type 0
  IsStruct = IsItem (λ (n : NamedStruct). n.item) plain_struct sees_struct (λ (n : NamedStruct). n.kinds) (struct_in es) struct_sorts StructPlaced

  structs-matched : Each IsStruct decls.structs
  structs-matched =
      items-matched (λ (n : NamedStruct). n.item) plain_struct sees_struct (λ (n : NamedStruct). n.kinds) (struct_in es) struct_sorts StructPlaced d.structs decls.structs (each-placed StructPlaced d.structs struct-placed) structs-are seen.structs

  struct-at : (n : NamedStruct) → StructPlaced n → (zs : List (AdtId × AdtDef)) → Each IsStruct zs → In (plain_struct n.item) (map (struct_in es) zs)
      → option_map_or (λ def. map sort_of_param def.params.items) (struct_at n.item.name zs) [] ≡ n.kinds
  struct-at n p [] h i = absurd (in-nothing _ i)
  struct-at n p (z ∷ zs) h i = by (n.item.name == z.0.index) refl (struct-at n p zs h.1)
    where
      by : (b : Bool) → (n.item.name == z.0.index) ≡ b → (In (plain_struct n.item) (map (struct_in es) zs) → option_map_or (λ def. map sort_of_param def.params.items) (struct_at n.item.name zs) [] ≡ n.kinds)
          → option_map_or (λ (def : AdtDef). map sort_of_param def.params.items) (if b then Some z.1 else struct_at n.item.name zs) [] ≡ n.kinds
      by true e r =
          let m = h.0 in
          let name : m.0.item.name ≡ n.item.name = sym (ap (λ (x : StructDecl). x.name) m.2) ∙ sym (eqb-true n.item.name z.0.index e) in
          m.3 ∙ ap (λ (x : NamedStruct). x.kinds) (same_Some m.0 n (sym m.1 ∙ ap (slice_get d.structs) name ∙ p))
      by false e r =
          elim (in-cases (plain_struct n.item) (struct_in es z) (map (struct_in es) zs) i) [
            | inl q ↦ absurd (not-both (n.item.name == z.0.index) (subst (λ k. (n.item.name == k) ≡ true) (sym (ap (λ (x : StructDecl). x.name) q)) (self-number n.item.name)) e)
            | inr j ↦ r j
          ]

  struct-shown : (s : ℕ) (n : NamedStruct) → slice_get d.structs s ≡ Some n → sees W c n.item.home ≡ true → (struct_is (λ x. true) V s ≡ true) × (n.kinds ≡ sorts.of_struct s)
  struct-shown s n e g =
      let name = w.struct_numbers s n e in
      let i : In (plain_struct n.item) V.structs = subst (λ xs. In (plain_struct n.item) xs) (sym structs-are) (shown-in (λ (m : NamedStruct). m.item) plain_struct sees_struct d.structs n (s, e) g) in (
        member-some (λ (x : StructDecl). true) (structs_named V s) (plain_struct n.item) (filter-in (λ (x : StructDecl). x.name == s) V.structs (plain_struct n.item) i (subst (λ k. (n.item.name == k) ≡ true) name (self-number n.item.name))) refl,
        sym (subst (λ k. sorts.of_struct k ≡ n.kinds) name (struct-at n (struct-placed s n e) decls.structs structs-matched i)),
      )

  -- ---- traits by number
  abbrev TraitPlaced : NamedTrait → Type 0
  TraitPlaced n = slice_get d.traits n.item.name ≡ Some n

  trait-placed : (k : ℕ) (n : NamedTrait) → slice_get d.traits k ≡ Some n → TraitPlaced n
  trait-placed k n e = subst (λ i. slice_get d.traits i ≡ Some n) (sym (w.trait_numbers k n e)) e

  abbrev IsTrait : TraitId × TraitDef → Type 0
  IsTrait = IsItem (λ (n : NamedTrait). n.item) plain_trait sees_trait (λ (n : NamedTrait). of_type ∷ n.kinds) (trait_in es) trait_sorts TraitPlaced

  traits-matched : Each IsTrait decls.traits
  traits-matched =
      items-matched (λ (n : NamedTrait). n.item) plain_trait sees_trait (λ (n : NamedTrait). of_type ∷ n.kinds) (trait_in es) trait_sorts TraitPlaced d.traits decls.traits (each-placed TraitPlaced d.traits trait-placed) traits-are seen.traits

  trait-at : (n : NamedTrait) → TraitPlaced n → (zs : List (TraitId × TraitDef)) → Each IsTrait zs → In (plain_trait n.item) (map (trait_in es) zs) → option_map_or sorts_of_params (trait_at n.item.name zs) [] ≡ of_type ∷ n.kinds
  trait-at n p [] h i = absurd (in-nothing _ i)
  trait-at n p (z ∷ zs) h i = by (n.item.name == z.0.index) refl (trait-at n p zs h.1)
    where
      by : (b : Bool) → (n.item.name == z.0.index) ≡ b → (In (plain_trait n.item) (map (trait_in es) zs) → option_map_or sorts_of_params (trait_at n.item.name zs) [] ≡ of_type ∷ n.kinds)
          → option_map_or sorts_of_params (if b then Some z.1 else trait_at n.item.name zs) [] ≡ of_type ∷ n.kinds
      by true e r =
          let m = h.0 in
          let name : m.0.item.name ≡ n.item.name = sym (ap (λ (x : TraitDecl). x.name) m.2) ∙ sym (eqb-true n.item.name z.0.index e) in
          m.3 ∙ ap (λ (x : NamedTrait). of_type ∷ x.kinds) (same_Some m.0 n (sym m.1 ∙ ap (slice_get d.traits) name ∙ p))
      by false e r =
          elim (in-cases (plain_trait n.item) (trait_in es z) (map (trait_in es) zs) i) [
            | inl q ↦ absurd (not-both (n.item.name == z.0.index) (subst (λ k. (n.item.name == k) ≡ true) (sym (ap (λ (x : TraitDecl). x.name) q)) (self-number n.item.name)) e)
            | inr j ↦ r j
          ]

  trait-shown : (t : ℕ) (n : NamedTrait) → slice_get d.traits t ≡ Some n → sees W c n.item.home ≡ true → IsTraitOf V sorts t (of_type ∷ n.kinds)
  trait-shown t n e g =
      let name = w.trait_numbers t n e in
      let i : In (plain_trait n.item) V.traits = subst (λ xs. In (plain_trait n.item) xs) (sym traits-are) (shown-in (λ (m : NamedTrait). m.item) plain_trait sees_trait d.traits n (t, e) g) in (
        member-some (λ (x : TraitDecl). true) (traits_named V t) (plain_trait n.item) (filter-in (λ (x : TraitDecl). x.name == t) V.traits (plain_trait n.item) i (subst (λ k. (n.item.name == k) ≡ true) name (self-number n.item.name))) refl,
        sym (subst (λ k. sorts.of_trait k ≡ of_type ∷ n.kinds) name (trait-at n (trait-placed t n e) decls.traits traits-matched i)),
      )

  -- ---- nodes of an item that is seen
  module _ (h : ℕ) (sees_home : sees W c h ≡ true) where
    struct-seen : (s : ℕ) (ss : List Sort) → IsStructAt (scope d h) s ss → (struct_is (λ x. true) V s ≡ true) × (ss ≡ sorts.of_struct s)
    struct-seen s ss q =
        let r = struct-shown s q.0 q.1 (seen-through W ordered c h q.0.item.home sees_home q.3) in (r.0, q.2 ∙ r.1)

    trait-seen : (t : ℕ) (ss : List Sort) → IsTraitAt (scope d h) t ss → IsTraitOf V sorts t ss
    trait-seen t ss q =
        let r = trait-shown t q.0 q.1 (seen-through W ordered c h q.0.item.home sees_home q.3) in (r.0, q.2 ∙ r.1)

    node-seen : (l : Label) (k : Trees) → TextNode (scope d h) l k → FitsNode V sorts l k
    node-seen (adt s) k q = struct-seen s (sorts_of k) q
    node-seen (principal n t) k q = trait-seen t (of_type ∷ sorts_of k) q
    node-seen (auto_trait t) k q = trait-seen t (of_type ∷ []) q
    node-seen (predicate p) k q = absurd q
    node-seen tuple k q = q
    node-seen (fn_ptr n) k q = q
    node-seen (raw_pointer b) k q = q
    node-seen array k q = q
    node-seen slice k q = q
    node-seen (ref b) k q = q
    node-seen dynamic k q = q
    node-seen l k q = tt

    nodes-seen : (t : Trees) → TextNodes (scope d h) t → NodesFit V sorts t
    nodes-seen none q = tt
    nodes-seen (tree l k o) q = (node-seen l k q.0, nodes-seen k q.1, nodes-seen o q.2)

  -- ---- items
  field-of : (n : NamedStruct) → In n d.structs → sees W c n.item.home ≡ true → (u : Trees) → In u n.item.fields → IsField V sorts (sorts.of_struct n.item.name) (plain none_kept u)
  field-of n i g u j =
      let field = each-in (IsFormedField (scope d n.item.home)) n.item.fields (each-in (StructFormed d) d.structs f.structs n i) u j in
      let good = and-left (is_good none_kept n.kinds u) _ (member-each (λ t. is_good none_kept n.kinds t && is_single t) n.item.fields u (member-each is_good_struct d.structs n w.structs i) j) in
      let at = (struct-shown n.item.name n (struct-placed i.0 n i.1) g).1 in
      record {
        nodes = nodes-seen n.item.home g (plain none_kept u) (nodes-plain (scope d n.item.home) none_kept u field.nodes);
        sort = plain-sorts none_kept u ∙ field.sort;
        params = subst (λ ss. EachNode (HasParams ss) (plain none_kept u)) at (params-of n.kinds (plain none_kept u) (good-fits none_kept n.kinds u good));
      }

  bound-of : (n : NamedTrait) → In n d.traits → sees W c n.item.home ≡ true → (r : Reference) → In r n.item.bounds → IsFormedBound V sorts (sorts.of_trait n.item.name) (plain_reference none_kept r)
  bound-of n i g r j =
      let one = each-in (IsFormedReference (scope d n.item.home)) n.item.bounds (each-in (TraitFormed d) d.traits f.traits n i) r j in
      let good = and-left (is_good none_kept (of_type ∷ n.kinds) r.args) _
      (member-each (λ (b : Reference). is_good none_kept (of_type ∷ n.kinds) b.args && nat_lt b.trait n.item.name) n.item.bounds r (member-each is_good_trait d.traits n w.traits i) j) in
      let at = (trait-shown n.item.name n (trait-placed i.0 n i.1) g).1 in
      record {
        nodes = nodes-seen n.item.home g (plain none_kept r.args) (nodes-plain (scope d n.item.home) none_kept r.args one.nodes);
        trait = subst (IsTraitOf V sorts r.trait) (sym (plain-sorts none_kept r.args)) (trait-seen n.item.home g r.trait (sorts_of r.args) one.trait);
        params = subst (λ ss. EachNode (HasParams ss) (plain none_kept r.args)) at (params-of (of_type ∷ n.kinds) (plain none_kept r.args) (good-fits none_kept (of_type ∷ n.kinds) r.args good));
      }

  module _ (i : ImplDecl) (k : Reference) (a : In i V.impls) (b : In k i.clauses) where
    abbrev from : (n : NamedImpl) × In n d.impls × (sees W c n.item.home ≡ true) × (i ≡ plain_impl n.item)
    from = in-seen (λ (n : NamedImpl). n.item) plain_impl sees_impl d.impls i (subst (λ xs. In i xs) impls-are a)

    abbrev kept : ℕ → Bool
    kept = stands_in from.0.item.header.args

    abbrev written_clause : (r : Reference) × In r from.0.item.clauses × (k ≡ plain_reference kept r)
    written_clause = map-in (plain_reference kept) from.0.item.clauses k (subst (λ (x : ImplDecl). In k x.clauses) from.3 b)

    one-clause : IsFormedReference (scope d from.0.item.home) written_clause.0
    one-clause = each-in (IsFormedReference (scope d from.0.item.home)) from.0.item.clauses (each-in (ImplFormed d) d.impls f.impls from.0 from.1).1 written_clause.0 written_clause.1

    clause-nodes : NodesFit V sorts k.args
    clause-nodes =
        subst (λ (x : Reference). NodesFit V sorts x.args) (sym written_clause.2)
        (nodes-seen from.0.item.home from.2 (plain kept written_clause.0.args) (nodes-plain (scope d from.0.item.home) kept written_clause.0.args one-clause.nodes))

    clause-trait : IsTraitOf V sorts k.trait (sorts_of k.args)
    clause-trait =
        subst (λ (x : Reference). IsTraitOf V sorts x.trait (sorts_of x.args)) (sym written_clause.2)
        (subst (IsTraitOf V sorts written_clause.0.trait) (sym (plain-sorts kept written_clause.0.args)) (trait-seen from.0.item.home from.2 written_clause.0.trait (sorts_of written_clause.0.args) one-clause.trait))

  -- the header of an impl
  pub header-nodes : (i : ImplDecl) → In i V.impls → NodesFit V sorts i.header.args
  header-nodes i a =
      let n = in-seen (λ (m : NamedImpl). m.item) plain_impl sees_impl d.impls i (subst (λ xs. In i xs) impls-are a) in
      let args = n.0.item.header.args in
      subst (λ (x : ImplDecl). NodesFit V sorts x.header.args) (sym n.3)
      (nodes-seen n.0.item.home n.2 (plain all_kept args) (nodes-plain (scope d n.0.item.home) all_kept args (each-in (ImplFormed d) d.impls f.impls n.0 n.1).0.nodes))

  pub header-trait : (i : ImplDecl) → In i V.impls → IsTraitOf V sorts i.header.trait (sorts_of i.header.args)
  header-trait i a =
      let n = in-seen (λ (m : NamedImpl). m.item) plain_impl sees_impl d.impls i (subst (λ xs. In i xs) impls-are a) in
      let r = n.0.item.header in
      subst (λ (x : ImplDecl). IsTraitOf V sorts x.header.trait (sorts_of x.header.args)) (sym n.3)
      (subst (IsTraitOf V sorts r.trait) (sym (plain-sorts all_kept r.args)) (trait-seen n.0.item.home n.2 r.trait (sorts_of r.args) (each-in (ImplFormed d) d.impls f.impls n.0 n.1).0.trait))

  -- a trait of this number that passes the test is one of the text
  some-trait : (p : TraitDecl → Bool) (t : ℕ) → list_any p (traits_named V t) ≡ true → (n : NamedTrait) × In n d.traits × (p (plain_trait n.item) ≡ true) × (sorts.of_trait t ≡ of_type ∷ n.kinds)
  some-trait p t h =
      let x = some-member p (traits_named V t) h in
      let y = in-filter (λ (z : TraitDecl). z.name == t) V.traits x.0 x.1 in
      let n = in-seen (λ (m : NamedTrait). m.item) plain_trait sees_trait d.traits x.0 (subst (λ xs. In x.0 xs) traits-are y.0) in
      let name : n.0.item.name ≡ t = sym (ap (λ (z : TraitDecl). z.name) n.3) ∙ same-number x.0.name t y.1 in
      (n.0, n.1, ap p (sym n.3) ∙ x.2, subst (λ k. sorts.of_trait k ≡ of_type ∷ n.0.kinds) name (sym (trait-shown n.0.item.name n.0 (trait-placed n.1.0 n.0 n.1.1) n.2).1))

  bare-of : (n : NamedTrait) → In n d.traits → n.item.is_auto ≡ true → n.kinds ≡ []
  bare-of n i e = by n.item.is_auto n.kinds (member-each is_bare d.traits n w.bare i) e
    where
      by : (b : Bool) (ks : List Sort) → not b || is_nil ks ≡ true → b ≡ true → ks ≡ []
      by true [] g q = refl
      by true (k ∷ ks) g q = absurd cc
      by false ks g q = absurd cc

  -- the traits of core are there
  core-shown : (k : ℕ) → slice_get nothing_declared.traits k ≡ Some (core_trait k) → (core_trait k).item.home ≡ core → IsTraitOf V sorts k (of_type ∷ (core_trait k).kinds)
  core-shown k e h = trait-shown k (core_trait k) (f.core k (core_trait k) e) (subst (λ x. sees W c x ≡ true) (sym h) (core-seen W c))

  pub view-formed : IsFormedView V sorts
  view-formed = record {
    fields = λ x t i j.
        let n = in-seen (λ (m : NamedStruct). m.item) plain_struct sees_struct d.structs x (subst (λ xs. In x xs) structs-are i) in
        let u = map-in (plain none_kept) n.0.item.fields t (subst (λ (y : StructDecl). In t y.fields) n.3 j) in
        subst (λ (y : StructDecl). IsField V sorts (sorts.of_struct y.name) t) (sym n.3) (subst (IsField V sorts (sorts.of_struct n.0.item.name)) (sym u.2) (field-of n.0 n.1 n.2 u.0 u.1));
    bounds = λ x b i j.
        let n = in-seen (λ (m : NamedTrait). m.item) plain_trait sees_trait d.traits x (subst (λ xs. In x xs) traits-are i) in
        let u = map-in (plain_reference none_kept) n.0.item.bounds b (subst (λ (y : TraitDecl). In b y.bounds) n.3 j) in
        subst (λ (y : TraitDecl). IsFormedBound V sorts (sorts.of_trait y.name) b) (sym n.3) (subst (IsFormedBound V sorts (sorts.of_trait n.0.item.name)) (sym u.2) (bound-of n.0 n.1 n.2 u.0 u.1));
    clause_nodes = clause-nodes;
    clause_traits = clause-trait;
    self_first = λ t h. let n = some-trait (λ x. true) t h in (n.0.kinds, n.3);
    autos = λ t h. let n = some-trait (λ (x : TraitDecl). x.is_auto) t h in n.3 ∙ ap (λ ks. of_type ∷ ks) (bare-of n.0 n.1 n.2);
    copies = sym (core-shown copy refl refl).1;
    clones = sym (core-shown clone refl refl).1;
    sizes = core-shown sized refl refl;
    unsizes = sym (core-shown unsize refl refl).1;
  }

  -- ---- references that it asks for
  self-seen : sees W c c ≡ true
  self-seen = by (length W.crates)
    where
      by : (n : ℕ) → sees_within n W c c ≡ true
      by zero = ap (λ b. b || (c == core)) (self-number c)
      by (suc n) = ap (λ b. b || (c == core) || list_any (λ x. list_any (λ u. sees_within n W u c) x.uses) (crates_named W c)) (self-number c)

  pub reference-seen : (r : Reference) → IsFormedReference (scope d c) r → FitsSorts V sorts (unbound_reference r)
  reference-seen r one = record {
    nodes = nodes-seen c self-seen (plain all_kept r.args) (nodes-plain (scope d c) all_kept r.args one.nodes);
    trait = subst (IsTraitOf V sorts r.trait) (sym (plain-sorts all_kept r.args)) (trait-seen c self-seen r.trait (sorts_of r.args) one.trait);
  }

pub texts-views-are-formed : TextsAreFormed
texts-views-are-formed bytes d h c es decls seen = let x = texts-are-formed bytes d h in view-formed d c x.0 x.1 es decls seen

-- the names in the headers of its impls are declared, and have the arguments that they take
abbrev pub HaveFormedHeaders : List Entry → Items → Type 0
HaveFormedHeaders es d = (i : ImplDecl) → In i (written es d).impls → NodesFit (written es d) (sorts_in d) i.header.args

pub texts-headers-are-formed : OfTexts HaveFormedHeaders
texts-headers-are-formed bytes d h c es decls seen = let x = texts-are-formed bytes d h in header-nodes d c x.0 x.1 es decls seen

-- so have their headers
abbrev pub HaveFormedImpls : List Entry → Items → Type 0
HaveFormedImpls es d = (i : ImplDecl) → In i (written es d).impls → FitsSorts (written es d) (sorts_in d) i.header

pub texts-impls-are-formed : OfTexts HaveFormedImpls
texts-impls-are-formed bytes d h c es decls seen i a = let x = texts-are-formed bytes d h in record { nodes = header-nodes d c x.0 x.1 es decls seen i a; trait = header-trait d c x.0 x.1 es decls seen i a }
