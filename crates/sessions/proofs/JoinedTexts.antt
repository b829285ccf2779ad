-- The crates of a text without a fault are a joined set.
use Rattle.std.proofs.Common.{◌≡◌, ◌<◌, ◌⊎◌, inl, inr, ℕ, zero, suc, Bool, true, false, cond, ◌&&◌, ◌==◌, List, [], ◌∷◌, ◌++◌, map, length, filter, Some, refl, sym, ap, ◌∙◌, subst, arith, Ok}
use Rattle.std.proofs.lemmas.Bool.Decides.{Decides-ltb}
use Rattle.std.proofs.lemmas.Option.{same_Some, slice_get_within}
use Rattle.std.specs.Prelude.{slice_get, nat_lt}
use Rattle.std.specs.List.{list_all, list_any}
use Rattle.type_terms.specs.Promised.Label.{Sort, of_type, adt}
use Rattle.type_terms.specs.Promised.Trees.{Trees, none, tree, erase, some_node}
use Rattle.type_terms.specs.Promised.Worlds.{World, CrateDecl, StructDecl, TraitDecl, ImplDecl, Reference, core, structs_named, traits_named, sees, view_of}
use Rattle.type_terms.specs.Promised.Erased.{erased_reference, erased_struct, erased_trait, erased_impl}
use Rattle.type_terms.specs.Promised.Core.{core_world}
use Rattle.type_terms.specs.Promised.Proofs.{In}
use Rattle.type_terms.specs.Promised.Walks.{struct_is, keeps_orphan_rule}
use Rattle.type_terms.specs.Renumbering.{view_at}
use Rattle.type_terms.specs.Promised.LinkedSet.{JoinedSet, AutoAtHome, is_stray, dyns_rise, IsPlainTerm, ObeysTextRules, OrderedCrates}
use Rattle.type_terms.specs.LinkedSet.{all_args, all_written}
use Rattle.type_terms.specs.Promised.Versions.{sees_struct, sees_trait, well_written, in_scope}
use Rattle.type_terms.proofs.Members.{in-filter, filter-in, in-map, some-member, member-some, same-number, self-number, so-false}
use Rattle.type_terms.proofs.NoHolds.{member-each, each-member}
use Rattle.type_terms.proofs.TermRules.{erased-is-terms, sees-same}
use Rattle.type_terms.proofs.CoreApart.{core-coherent}
use Rattle.type_terms.proofs.CoreThere.{whole-there, whole-later}
use Rattle.type_terms.proofs.ArrangedTwice.{rising-in-order}
use Rattle.type_terms.proofs.AddedByView.{keeps-in-set}
use Rattle.type_terms.proofs.ViewLaws.{sees-itself}
use Rattle.type_terms.proofs.SameNumbers.{hold-views}
use Rattle.declarations.specs.Promised.Elaboration.{Each}
use Rattle.candidate_model.specs.Declared.{is_declared_leaf}
use Rattle.candidate_model.specs.DeclaredWell.{is_single}
use Rattle.type_terms.specs.Made.{terms, is_made}
use Rattle.text_language.specs.Promised.Declarations.{Declarations, NamedCrate, NamedStruct, NamedTrait, NamedImpl, world_of}
use Rattle.text_language.specs.Declarations.{nothing_declared}
use Rattle.text_lowering.specs.Promised.SeenWorlds.{plain, all_kept, none_kept, stands_in}
use Rattle.text_lowering.specs.Seen.{param_sorts}
use Rattle.text_lowering.proofs.Tests.{is_good, is_good_struct, is_good_trait, is_good_impl, all_stand}
use Rattle.text_lowering.proofs.Trees.{and, and-left, and-right}
use Rattle.type_terms.specs.Promised.Supers.{dyns_of_bounds, mentions_as}
use Rattle.type_terms.proofs.JoinedParts.{TraitObeys, ImplObeys, all-obey}
use Rattle.sessions.specs.Promised.CoherentTexts.{text_world}
use Rattle.sessions.specs.JoinedTexts.{CratesKeepOrphanRule, TextsAreJoined, TextsListInOrder}
use Rattle.sessions.proofs.Seeing.{AreOrdered, core-seen, from-core}
use Rattle.sessions.proofs.TextTerms.{IsStructAt, IsTraitAt, TextNodes, IsPlaced}
use Rattle.sessions.proofs.FormedViews.{each-in, map-in}
use Rattle.sessions.proofs.FormedTexts.{scope, IsFormedReference, TraitFormed, ImplFormed}
use Rattle.sessions.proofs.DeclaredTrees.{made-plain, made-dyns, nodes-written}
use Rattle.sessions.proofs.CoveredClauses.{covered}
use Rattle.sessions.proofs.SeenPlainly.{plain-erased}
use Rattle.sessions.proofs.RisingBounds.{Rises}
use Rattle.sessions.proofs.KeptTexts.{AtHome, HeaderKept, ImplRises, AllKept, texts-are-kept}
use Rattle.text_language.proofs.SameTexts.{text-gives}
use Rattle.declarations.proofs.Growth.{each-kept as each-map}
use Rattle.text_tables.proofs.Each.{slice_get-there as within}

-- ---- lists
pub map-at : {A B : Type 0} (f : A → B) (xs : List A) (y : B) → In y (map f xs) → (k : ℕ) × (x : A) × (slice_get xs k ≡ Some x) × (y ≡ f x)
map-at f xs y i = let q = map-in f xs y i in (q.1.0, q.0, q.1.1, q.2)

each-at : {A : Type 0} (P : A → Type 0) (xs : List A) → Each P xs → (k : ℕ) (x : A) → slice_get xs k ≡ Some x → P x
each-at P xs h k x e = each-in P xs h x (k, e)

all-at : {A : Type 0} (p : A → Bool) (xs : List A) → list_all p xs ≡ true → (k : ℕ) (x : A) → slice_get xs k ≡ Some x → p x ≡ true
all-at p xs h k x e = member-each p xs x h (k, e)

-- an item of the erased world, in the text
item-at : {N D : Type 0} (er : D → D) (item : N → D) (ns : List N) (y : D) → In y (map er (map item ns)) → (k : ℕ) × (n : N) × (slice_get ns k ≡ Some n) × (y ≡ er (item n))
item-at er item ns y i =
    let a = map-at er (map item ns) y i in
    let b = map-at item ns a.1 (a.0, a.2) in
    (b.0, b.1, b.2, a.3 ∙ ap er b.3)

item-in : {N D : Type 0} (er : D → D) (item : N → D) (ns : List N) (k : ℕ) (n : N) → slice_get ns k ≡ Some n → In (er (item n)) (map er (map item ns))
item-in er item ns k n e = in-map er (map item ns) (item n) (in-map item ns n (k, e))

same-place : {N D : Type 0} (number : N → ℕ) (read : N → D) (ns : List N) → IsPlaced number ns → (j k : ℕ) (n m : N) (x y : D) → slice_get ns j ≡ Some n → slice_get ns k ≡ Some m → x ≡ read n → y ≡ read m → number n ≡ number m → x ≡ y
same-place number read ns p j k n m x y e f g h q =
    g ∙ ap read (same_Some n m (sym e ∙ ap (slice_get ns) (sym (p j n e) ∙ q ∙ p k m f) ∙ f)) ∙ sym h

map-erased : (kept : ℕ → Bool) (sorts : List Sort) (t : Trees) → is_good kept sorts t ≡ true → is_made is_declared_leaf terms (plain kept t) ≡ true
map-erased kept sorts t h = and-left (is_made is_declared_leaf terms (plain kept t)) _ h

good-plain : (kept : ℕ → Bool) (sorts : List Sort) (t : Trees) → is_good kept sorts t ≡ true → some_node is_stray (erase t) ≡ false
good-plain kept sorts t h = ap (some_node is_stray) (sym (plain-erased kept t)) ∙ made-plain (plain kept t) (map-erased kept sorts t h)

good-dyns : (kept : ℕ → Bool) (sorts : List Sort) (t : Trees) → is_good kept sorts t ≡ true → dyns_of_bounds (erase t) ≡ true
good-dyns kept sorts t h = ap dyns_of_bounds (sym (plain-erased kept t)) ∙ made-dyns (plain kept t) (map-erased kept sorts t h)

-- what is without lifetimes has none to lose: it stands in an erased world, as a struct's field
erase-twice : (t : Trees) → erase (erase t) ≡ erase t
erase-twice t =
    ap (λ (V : World). only (fields-of V.structs)) (erased-is-terms (record { crates = []; structs = record { name = 0; home = 0; is_fundamental = false; fields = t ∷ [] } ∷ []; traits = []; impls = [] }))
  where
    fields-of : List StructDecl → List Trees
    fields-of [] = []
    fields-of (x ∷ xs) = x.fields

    only : List Trees → Trees
    only [] = none
    only (u ∷ us) = u

good-term : (kept : ℕ → Bool) (sorts : List Sort) (t : Trees) → is_good kept sorts t ≡ true → IsPlainTerm (erase t)
good-term kept sorts t h = record { term = erase-twice t; open_places = good-plain kept sorts t h; dyns = good-dyns kept sorts t h }

-- what is seen of the items of `core` and others behind them
core-alone : {N D : Type 0} (er : D → D) (item : N → D) (p : D → Bool) (first ys : List N) → Each (λ n. p (er (item n)) ≡ true) first → Each (λ n. p (er (item n)) ≡ false) ys → filter p (map er (map item (first ++ ys))) ≡ map er (map item first)
core-alone er item p [] [] h g = refl
core-alone er item p [] (y ∷ ys) h g = ap (λ b. cond b (er (item y) ∷ filter p (map er (map item ys))) (filter p (map er (map item ys)))) g.0 ∙ core-alone er item p [] ys h g.1
core-alone er item p (x ∷ xs) ys h g = ap (λ b. cond b (er (item x) ∷ filter p (map er (map item (xs ++ ys)))) (filter p (map er (map item (xs ++ ys))))) h.0 ∙ ap (λ z. er (item x) ∷ z) (core-alone er item p xs ys h.1 g)

pub core-or-later : (n : ℕ) → (n ≡ core) ⊎ (core < n)
core-or-later zero = inl refl
core-or-later (suc n) = inr (omega arith)

module _ (d : Declarations) (a : AllKept d) where
  abbrev W : World
  W = text_world d

  seen-so : (c h : ℕ) → sees (world_of d) c h ≡ true → sees W c h ≡ true
  seen-so c h e = sees-same (length (world_of d).crates) (world_of d) c h ∙ e

  struct-at : (y : StructDecl) → In y W.structs → (k : ℕ) × (n : NamedStruct) × (slice_get d.structs k ≡ Some n) × (y ≡ erased_struct n.item)
  struct-at y i = item-at erased_struct (λ (n : NamedStruct). n.item) d.structs y i

  trait-at : (y : TraitDecl) → In y W.traits → (k : ℕ) × (n : NamedTrait) × (slice_get d.traits k ≡ Some n) × (y ≡ erased_trait n.item)
  trait-at y i = item-at erased_trait (λ (n : NamedTrait). n.item) d.traits y i

  impl-at : (y : ImplDecl) → In y W.impls → (k : ℕ) × (n : NamedImpl) × (slice_get d.impls k ≡ Some n) × (y ≡ erased_impl n.item)
  impl-at y i = item-at erased_impl (λ (n : NamedImpl). n.item) d.impls y i

  -- ---- names
  pub one-struct : (x y : StructDecl) → In x W.structs → In y W.structs → x.name ≡ y.name → x ≡ y
  one-struct x y i j e =
      let p = struct-at x i in
      let q = struct-at y j in
      same-place (λ (n : NamedStruct). n.item.name) (λ (n : NamedStruct). erased_struct n.item) d.structs a.well.struct_numbers p.0 q.0 p.1 q.1 x y p.2 q.2 p.3 q.3
      (ap (λ (z : StructDecl). z.name) (sym p.3) ∙ e ∙ ap (λ (z : StructDecl). z.name) q.3)

  pub one-trait : (x y : TraitDecl) → In x W.traits → In y W.traits → x.name ≡ y.name → x ≡ y
  one-trait x y i j e =
      let p = trait-at x i in
      let q = trait-at y j in
      same-place (λ (n : NamedTrait). n.item.name) (λ (n : NamedTrait). erased_trait n.item) d.traits a.well.trait_numbers p.0 q.0 p.1 q.1 x y p.2 q.2 p.3 q.3
      (ap (λ (z : TraitDecl). z.name) (sym p.3) ∙ e ∙ ap (λ (z : TraitDecl). z.name) q.3)

  one-impl : (x y : ImplDecl) → In x W.impls → In y W.impls → x.name ≡ y.name → x ≡ y
  one-impl x y i j e =
      let p = impl-at x i in
      let q = impl-at y j in
      same-place (λ (n : NamedImpl). n.item.name) (λ (n : NamedImpl). erased_impl n.item) d.impls a.kept.impl_numbers p.0 q.0 p.1 q.1 x y p.2 q.2 p.3 q.3
      (ap (λ (z : ImplDecl). z.name) (sym p.3) ∙ e ∙ ap (λ (z : ImplDecl). z.name) q.3)

  -- ---- scope
  module _ (c : ℕ) where
    struct-seen : (s : ℕ) (ss : List Sort) → IsStructAt (scope d c) s ss → sees_struct W c s ≡ true
    struct-seen s ss h =
        member-some (λ (x : StructDecl). sees W c x.home) (structs_named W s) (erased_struct h.0.item)
        (filter-in (λ (x : StructDecl). x.name == s) W.structs (erased_struct h.0.item) (item-in erased_struct (λ (n : NamedStruct). n.item) d.structs s h.0 h.1) (ap (λ k. k == s) (a.well.struct_numbers s h.0 h.1) ∙ self-number s))
        (seen-so c h.0.item.home h.3)

    trait-shown : (t : ℕ) (n : NamedTrait) → slice_get d.traits t ≡ Some n → sees (world_of d) c n.item.home ≡ true → sees_trait W c t ≡ true
    trait-shown t n e s =
        member-some (λ (x : TraitDecl). sees W c x.home) (traits_named W t) (erased_trait n.item)
        (filter-in (λ (x : TraitDecl). x.name == t) W.traits (erased_trait n.item) (item-in erased_trait (λ (m : NamedTrait). m.item) d.traits t n e) (ap (λ k. k == t) (a.well.trait_numbers t n e) ∙ self-number t)) (seen-so c n.item.home s)

    trait-seen : (t : ℕ) (ss : List Sort) → IsTraitAt (scope d c) t ss → sees_trait W c t ≡ true
    trait-seen t ss h = trait-shown t h.0 h.1 h.3

    written-so : (t : Trees) → TextNodes (scope d c) t → dyns_of_bounds (erase t) ≡ true → well_written (sees_struct W c) (sees_trait W c) (erase t) ≡ true
    written-so t h g = nodes-written (scope d c) (sees_struct W c) (sees_trait W c) struct-seen trait-seen t h g

  -- the header of an impl is in scope of its crate, that of an impl that a later version adds too
  pub scope-of : (n : NamedImpl) → is_good_impl n ≡ true → HeaderKept d n → ImplFormed d n → in_scope W n.item.home (erased_reference n.item.header) ≡ true
  scope-of n g h f =
      and (sees_trait W n.item.home n.item.header.trait) _ (trait-shown n.item.home n.item.header.trait h.of h.there h.seen)
      (written-so n.item.home n.item.header.args f.0.nodes (good-dyns all_kept (param_sorts n) n.item.header.args (and-left (is_good all_kept (param_sorts n) n.item.header.args) _ g)))

  -- and so are its where-clauses
  pub clause-scope-of : (n : NamedImpl) → is_good_impl n ≡ true → ImplFormed d n → (r : Reference) → In r n.item.clauses → in_scope W n.item.home (erased_reference r) ≡ true
  clause-scope-of n g f r i =
      let formed : IsFormedReference (scope d n.item.home) r = each-in (IsFormedReference (scope d n.item.home)) n.item.clauses f.1 r i in
      let more = and-right (is_good all_kept (param_sorts n) n.item.header.args) _ g in
      let rest = and-right (n.item.params == length (param_sorts n)) _ more in
      let clauses = and-right (all_stand n.item.header.args 0 (param_sorts n)) _ rest in
      let good : is_good (stands_in n.item.header.args) (param_sorts n) r.args ≡ true = member-each (λ (c : Reference). is_good (stands_in n.item.header.args) (param_sorts n) c.args) n.item.clauses r clauses i in
      and (sees_trait W n.item.home r.trait) _ (trait-seen n.item.home r.trait _ formed.trait) (written-so n.item.home r.args formed.nodes (good-dyns (stands_in n.item.header.args) (param_sorts n) r.args good))

  -- ---- what is good
  module _ (k : ℕ) (n : NamedImpl) (e : slice_get d.impls k ≡ Some n) where
    good : is_good_impl n ≡ true
    good = all-at is_good_impl d.impls a.well.impls k n e

    good-header : is_good all_kept (param_sorts n) n.item.header.args ≡ true
    good-header = and-left (is_good all_kept (param_sorts n) n.item.header.args) _ good

    good-more : (all_stand n.item.header.args 0 (param_sorts n) && list_all (λ (c : Reference). is_good (stands_in n.item.header.args) (param_sorts n) c.args) n.item.clauses) ≡ true
    good-more = and-right (n.item.params == length (param_sorts n)) _ (and-right (is_good all_kept (param_sorts n) n.item.header.args) _ good)

    good-clause : (r : Reference) (j : ℕ) → slice_get n.item.clauses j ≡ Some r → is_good (stands_in n.item.header.args) (param_sorts n) r.args ≡ true
    good-clause r j f = all-at (λ (c : Reference). is_good (stands_in n.item.header.args) (param_sorts n) c.args) n.item.clauses (and-right (all_stand n.item.header.args 0 (param_sorts n)) _ good-more) j r f

    header : HeaderKept d n
    header = each-at (HeaderKept d) d.impls a.kept.headers k n e

    header-scope : in_scope W n.item.home (erased_reference n.item.header) ≡ true
    header-scope = scope-of n good header (each-at (ImplFormed d) d.impls a.formed.impls k n e)

  module _ (k : ℕ) (n : NamedTrait) (e : slice_get d.traits k ≡ Some n) (j : ℕ) (b : Reference) (f : slice_get n.item.bounds j ≡ Some b) where
    good-bound-test : (is_good none_kept (of_type ∷ n.kinds) b.args && nat_lt b.trait n.item.name) ≡ true
    good-bound-test = all-at (λ (r : Reference). is_good none_kept (of_type ∷ n.kinds) r.args && nat_lt r.trait n.item.name) n.item.bounds (all-at is_good_trait d.traits a.well.traits k n e) j b f

    good-bound : is_good none_kept (of_type ∷ n.kinds) b.args ≡ true
    good-bound = and-left (is_good none_kept (of_type ∷ n.kinds) b.args) _ good-bound-test

    bound-below : b.trait < n.item.name
    bound-below = (Decides-ltb b.trait n.item.name).0 (and-right (is_good none_kept (of_type ∷ n.kinds) b.args) _ good-bound-test)

    bound-scope : in_scope W n.item.home (erased_reference b) ≡ true
    bound-scope =
        let g = each-at (IsFormedReference (scope d n.item.home)) n.item.bounds (each-at (TraitFormed d) d.traits a.formed.traits k n e) j b f in
        and (sees_trait W n.item.home b.trait) _ (trait-seen n.item.home b.trait _ g.trait) (written-so n.item.home b.args g.nodes (good-dyns none_kept (of_type ∷ n.kinds) b.args good-bound))

  good-field : (k : ℕ) (n : NamedStruct) → slice_get d.structs k ≡ Some n → (j : ℕ) (t : Trees) → slice_get n.item.fields j ≡ Some t → is_good none_kept n.kinds t ≡ true
  good-field k n e j t f = and-left (is_good none_kept n.kinds t) _ (all-at (λ (x : Trees). is_good none_kept n.kinds x && is_single x) n.item.fields (all-at is_good_struct d.structs a.well.structs k n e) j t f)

  -- ---- what passes of all that is written
  module _ (p : Trees → Bool) (fields : (k : ℕ) (n : NamedStruct) → slice_get d.structs k ≡ Some n → (j : ℕ) (t : Trees) → slice_get n.item.fields j ≡ Some t → p (erase t) ≡ true)
      (bounds : (k : ℕ) (n : NamedTrait) → slice_get d.traits k ≡ Some n → (j : ℕ) (b : Reference) → slice_get n.item.bounds j ≡ Some b → p (erase b.args) ≡ true)
      (headers : (k : ℕ) (n : NamedImpl) → slice_get d.impls k ≡ Some n → p (erase n.item.header.args) ≡ true)
      (clauses : (k : ℕ) (n : NamedImpl) → slice_get d.impls k ≡ Some n → (j : ℕ) (b : Reference) → slice_get n.item.clauses j ≡ Some b → p (erase b.args) ≡ true) where
    args-pass : (rs : List Reference) → ((j : ℕ) (b : Reference) → slice_get rs j ≡ Some b → p (erase b.args) ≡ true) → all_args p (map erased_reference rs) ≡ true
    args-pass rs h = each-member (λ (r : Reference). p r.args) (map erased_reference rs) (λ r i. let q = map-at erased_reference rs r i in subst (λ (z : Reference). p z.args ≡ true) (sym q.3) (h q.0 q.1 q.2))

    trees-pass : (ts : List Trees) → ((j : ℕ) (t : Trees) → slice_get ts j ≡ Some t → p (erase t) ≡ true) → list_all p (map erase ts) ≡ true
    trees-pass ts h = each-member p (map erase ts) (λ t i. let q = map-at erase ts t i in subst (λ z. p z ≡ true) (sym q.3) (h q.0 q.1 q.2))

    written-pass : all_written p W ≡ true
    written-pass =
        and (list_all (λ (x : StructDecl). list_all p x.fields) W.structs) _
        (each-member (λ (x : StructDecl). list_all p x.fields) W.structs (λ x i. let q = struct-at x i in subst (λ (z : StructDecl). list_all p z.fields ≡ true) (sym q.3) (trees-pass q.1.item.fields (fields q.0 q.1 q.2))))
        (and (list_all (λ (x : TraitDecl). all_args p x.bounds) W.traits) _
        (each-member (λ (x : TraitDecl). all_args p x.bounds) W.traits (λ x i. let q = trait-at x i in subst (λ (z : TraitDecl). all_args p z.bounds ≡ true) (sym q.3) (args-pass q.1.item.bounds (bounds q.0 q.1 q.2))))
        (each-member (λ (x : ImplDecl). p x.header.args && all_args p x.clauses) W.impls
        (λ x i. let q = impl-at x i in
        subst (λ (z : ImplDecl). (p z.header.args && all_args p z.clauses) ≡ true) (sym q.3) (and (p (erase q.1.item.header.args)) _ (headers q.0 q.1 q.2) (args-pass q.1.item.clauses (clauses q.0 q.1 q.2))))))

  -- ---- crates
  crate-at : (y : CrateDecl) → In y W.crates → (k : ℕ) × (n : NamedCrate) × (slice_get d.crates k ≡ Some n) × (y ≡ n.item)
  crate-at y i = map-at (λ (n : NamedCrate). n.item) d.crates y i

  map-long : (xs : List NamedCrate) → length (map (λ (n : NamedCrate). n.item) xs) ≡ length xs
  map-long [] = refl
  map-long (x ∷ xs) = ap suc (map-long xs)

  uses-below : (x : CrateDecl) (u : ℕ) → In x W.crates → In u x.uses → u < x.name
  uses-below x u i j =
      let q = crate-at x i in
      let c = a.formed.crates q.0 q.1 q.2 in
      subst (λ (z : CrateDecl). u < z.name) (sym q.3) (subst (λ n. u < n) (sym c.0) (c.1 u (subst (λ (z : CrateDecl). In u z.uses) q.3 j)))

  name-below : (x : CrateDecl) → In x W.crates → x.name < length d.crates
  name-below x i =
      let q = crate-at x i in
      subst (λ (z : CrateDecl). z.name < length d.crates) (sym q.3) (subst (λ n. n < length d.crates) (sym (a.formed.crates q.0 q.1 q.2).0) (slice_get_within d.crates q.0 q.1 q.2))

  pub ordered : AreOrdered W
  ordered x i = (subst (λ n. x.name < n) (sym (map-long d.crates)) (name-below x i), λ u j. uses-below x u i j)

  pub uses-there : (x : CrateDecl) (u : ℕ) → In x W.crates → In u x.uses → list_any (λ (y : CrateDecl). y.name == u) W.crates ≡ true
  uses-there x u i j =
      let b = name-below x i in
      let l = uses-below x u i j in
      let q = within d.crates u (omega (arith, b, l)) in
      member-some (λ (y : CrateDecl). y.name == u) W.crates q.0.item (in-map (λ (n : NamedCrate). n.item) d.crates q.0 (u, q.1)) (ap (λ k. k == u) (a.formed.crates u q.0 q.1).0 ∙ self-number u)

  -- ---- `core`
  not-core : (h : ℕ) → core < h → sees W core h ≡ false
  not-core h l = so-false (sees W core h) (λ e. never h l (from-core W ordered (length W.crates) h e))
    where
      never : (n : ℕ) → core < n → n ≡ core → ⊥
      never n p q = omega (arith, p, q)

  structs-of-core : filter (λ (x : StructDecl). sees W core x.home) W.structs ≡ core_world.structs
  structs-of-core =
      let b = a.kept.structs in
      ap (λ ns. filter (λ (x : StructDecl). sees W core x.home) (map erased_struct (map (λ (n : NamedStruct). n.item) ns))) b.1
      ∙ core-alone erased_struct (λ (n : NamedStruct). n.item) (λ (x : StructDecl). sees W core x.home) nothing_declared.structs b.0 (core-seen W core, (core-seen W core, tt))
      (each-map (λ (n : NamedStruct). core < n.item.home) (λ (n : NamedStruct). sees W core n.item.home ≡ false) (λ n h. not-core n.item.home h) b.0 b.2)

  all-core : {A : Type 0} (home : A → ℕ) (xs : List A) → list_all (λ x. home x == core) xs ≡ true → Each (λ x. sees W core (home x) ≡ true) xs
  all-core home [] h = tt
  all-core home (x ∷ xs) h = (subst (λ c. sees W core c ≡ true) (sym (same-number (home x) core (and-left (home x == core) _ h))) (core-seen W core), all-core home xs (and-right (home x == core) _ h))

  traits-of-core : filter (λ (x : TraitDecl). sees W core x.home) W.traits ≡ core_world.traits
  traits-of-core =
      let b = a.kept.traits in
      ap (λ ns. filter (λ (x : TraitDecl). sees W core x.home) (map erased_trait (map (λ (n : NamedTrait). n.item) ns))) b.1
      ∙ core-alone erased_trait (λ (n : NamedTrait). n.item) (λ (x : TraitDecl). sees W core x.home) nothing_declared.traits b.0 (all-core (λ (n : NamedTrait). n.item.home) nothing_declared.traits refl)
      (each-map (λ (n : NamedTrait). core < n.item.home) (λ (n : NamedTrait). sees W core n.item.home ≡ false) (λ n h. not-core n.item.home h) b.0 b.2)

  impls-of-core : filter (λ (x : ImplDecl). sees W core x.home) W.impls ≡ core_world.impls
  impls-of-core =
      let b = a.kept.impls in
      ap (λ ns. filter (λ (x : ImplDecl). sees W core x.home) (map erased_impl (map (λ (n : NamedImpl). n.item) ns))) b.1
      ∙ core-alone erased_impl (λ (n : NamedImpl). n.item) (λ (x : ImplDecl). sees W core x.home) nothing_declared.impls b.0 (all-core (λ (n : NamedImpl). n.item.home) nothing_declared.impls refl)
      (each-map (λ (n : NamedImpl). core < n.item.home) (λ (n : NamedImpl). sees W core n.item.home ≡ false) (λ n h. not-core n.item.home h) b.0 b.2)

  crate-later : (n : NamedCrate) (k : ℕ) → slice_get a.kept.crates.0 k ≡ Some n → core < n.item.name
  crate-later n k e = subst (λ m. core < m) (sym (a.formed.crates (suc k) n (ap (λ ns. slice_get ns (suc k)) a.kept.crates.1 ∙ e)).0) (positive k)
    where
      positive : (m : ℕ) → core < suc m
      positive m = omega arith

  each-from : {A : Type 0} (P : A → Type 0) (xs : List A) → ((k : ℕ) (x : A) → slice_get xs k ≡ Some x → P x) → Each P xs
  each-from P [] h = tt
  each-from P (x ∷ xs) h = (h zero x refl, each-from P xs (λ k y e. h (suc k) y e))

  crates-of-core : filter (λ (x : CrateDecl). sees W core x.name) W.crates ≡ core_world.crates
  crates-of-core =
      let b = a.kept.crates in
      ap (λ cs. filter (λ (x : CrateDecl). sees W core x.name) cs) (sym (as-is W.crates) ∙ ap (λ ns. map (λ (x : CrateDecl). x) (map (λ (n : NamedCrate). n.item) ns)) b.1)
      ∙ core-alone (λ (x : CrateDecl). x) (λ (n : NamedCrate). n.item) (λ (x : CrateDecl). sees W core x.name) nothing_declared.crates b.0 (core-seen W core, tt)
      (each-from (λ (n : NamedCrate). sees W core n.item.name ≡ false) b.0 (λ k n e. not-core n.item.name (crate-later n k e)))
    where
      as-is : (xs : List CrateDecl) → map (λ (x : CrateDecl). x) xs ≡ xs
      as-is [] = refl
      as-is (x ∷ xs) = ap (λ z. x ∷ z) (as-is xs)

  pub core-there : view_of W core ≡ core_world
  core-there = by crates-of-core structs-of-core traits-of-core impls-of-core
    where
      by : {cs : List CrateDecl} {ss : List StructDecl} {ts : List TraitDecl} {is : List ImplDecl} → cs ≡ core_world.crates → ss ≡ core_world.structs → ts ≡ core_world.traits → is ≡ core_world.impls
          → (let V : World = record { crates = cs; structs = ss; traits = ts; impls = is } in V) ≡ core_world
      by {ss = ss} {ts = ts} {is = is} p q r s =
          ap (λ z. (let V : World = record { crates = z; structs = ss; traits = ts; impls = is } in V)) p
          ∙ ap (λ z. (let V : World = record { crates = core_world.crates; structs = z; traits = ts; impls = is } in V)) q
          ∙ ap (λ z. (let V : World = record { crates = core_world.crates; structs = core_world.structs; traits = z; impls = is } in V)) r
          ∙ ap (λ z. (let V : World = record { crates = core_world.crates; structs = core_world.structs; traits = core_world.traits; impls = z } in V)) s

  -- ---- auto traits
  at-home : (i : ImplDecl) (n : NamedImpl) → i ≡ erased_impl n.item → AtHome d n
      → (s : ℕ) × (ks : Trees) × (os : Trees) × (i.header.args ≡ tree (adt s) ks os) × (struct_is (λ x. x.home == i.home) W s ≡ true)
  at-home i n e own = (
    own.0,
    erase own.1,
    erase own.2,
    ap (λ (y : ImplDecl). y.header.args) e ∙ ap erase own.3,
    member-some (λ (y : StructDecl). y.home == i.home) (structs_named W own.0) (erased_struct own.4.0.item)
        (filter-in (λ (y : StructDecl). y.name == own.0) W.structs (erased_struct own.4.0.item) (item-in erased_struct (λ (m : NamedStruct). m.item) d.structs own.0 own.4.0 own.4.1) (ap (λ z. z == own.0) (a.well.struct_numbers own.0 own.4.0 own.4.1) ∙ self-number own.0))
        (ap (λ z. z == i.home) (own.4.2 ∙ ap (λ (y : ImplDecl). y.home) (sym e)) ∙ self-number i.home),
  )

  autos-at-home : AutoAtHome W
  autos-at-home i m h =
      let q = impl-at i m in
      let k = header q.0 q.1 q.2 in
      let x = some-member (λ (y : TraitDecl). y.is_auto) (traits_named W i.header.trait) h in
      let s = in-filter (λ (y : TraitDecl). y.name == i.header.trait) W.traits x.0 x.1 in
      let t = trait-at x.0 s.0 in
      let same : t.0 ≡ q.1.item.header.trait = sym (a.well.trait_numbers t.0 t.1 t.2) ∙ ap (λ (y : TraitDecl). y.name) (sym t.3) ∙ same-number x.0.name i.header.trait s.1 ∙ ap (λ (y : ImplDecl). y.header.trait) q.3 in
      let of : t.1 ≡ k.of = same_Some t.1 k.of (sym t.2 ∙ ap (slice_get d.traits) same ∙ k.there) in
      at-home i q.1 q.3 (k.at_home (ap (λ (y : NamedTrait). y.item.is_auto) (sym of) ∙ ap (λ (y : TraitDecl). y.is_auto) (sym t.3) ∙ x.2))

  -- ---- the orphan rule
  in-scope : (i : ImplDecl) → In i W.impls → in_scope W i.home i.header ≡ true
  in-scope i m = let q = impl-at i m in subst (λ (y : ImplDecl). in_scope W y.home y.header ≡ true) (sym q.3) (header-scope q.0 q.1 q.2)

  keeps-own : (i : ImplDecl) → In i W.impls → keeps_orphan_rule (view_of W i.home) i.home i.header ≡ true → keeps_orphan_rule W i.home i.header ≡ true
  keeps-own i m h = sym (keeps-in-set W (one-struct, one-trait) i.home (view_of W i.home).impls i.header (in-scope i m)) ∙ h

  pub home-below : (i : ImplDecl) → In i W.impls → i.home < length d.crates
  home-below i m = let q = impl-at i m in subst (λ (y : ImplDecl). y.home < length d.crates) (sym q.3) (header q.0 q.1 q.2).home

  pub of-core : (i : ImplDecl) → In i W.impls → i.home ≡ core → In i core_world.impls
  of-core i m e = subst (In i) impls-of-core (filter-in (λ (x : ImplDecl). sees W core x.home) W.impls i m (ap (sees W core) e ∙ core-seen W core))

  core-keeps : (i : ImplDecl) → In i W.impls → i.home ≡ core → keeps_orphan_rule (view_of W i.home) i.home i.header ≡ true
  core-keeps i m e =
      let there = of-core i m e in
      subst (λ c. keeps_orphan_rule (view_of W c) c i.header ≡ true) (sym e)
      (ap (λ V. keeps_orphan_rule V core i.header) core-there ∙ all-at (λ (x : ImplDecl). keeps_orphan_rule core_world core x.header) core_world.impls core-coherent.0 there.0 i there.1)

  orphan-rule : CratesKeepOrphanRule d → (i : ImplDecl) → In i W.impls → keeps_orphan_rule W i.home i.header ≡ true
  orphan-rule h i m = keeps-own i m (by (core-or-later i.home))
    where
      by : (i.home ≡ core) ⊎ (core < i.home) → keeps_orphan_rule (view_of W i.home) i.home i.header ≡ true
      by (inl e) = core-keeps i m e
      by (inr l) = h i.home l (home-below i m) i (filter-in (λ (x : ImplDecl). sees W i.home x.home) W.impls i m (sees-itself (length W.crates) W i.home)) refl

  -- each `dyn` lists its auto traits by their numbers
  pub dyns-rise : all_written dyns_rise W ≡ true
  dyns-rise =
      written-pass dyns_rise (λ k n e j t f. each-at Rises n.item.fields (each-at (λ (x : NamedStruct). Each Rises x.item.fields) d.structs a.kept.fields_rise k n e) j t f)
      (λ k n e j b f. each-at (λ (r : Reference). Rises r.args) n.item.bounds (each-at (λ (x : NamedTrait). Each (λ (r : Reference). Rises r.args) x.item.bounds) d.traits a.kept.bounds_rise k n e) j b f)
      (λ k n e. (each-at ImplRises d.impls a.kept.impls_rise k n e).0) (λ k n e j b f. each-at (λ (r : Reference). Rises r.args) n.item.clauses (each-at ImplRises d.impls a.kept.impls_rise k n e).1 j b f)

  -- ---- the rules of the text
  pub text-obeys : ObeysTextRules W
  text-obeys =
      all-obey W
      (λ x i t j.
      let q = struct-at x i in
      let r = map-at erase q.1.item.fields t (subst (λ (z : StructDecl). In t z.fields) q.3 j) in
      subst IsPlainTerm (sym r.3) (good-term none_kept q.1.kinds r.1 (good-field q.0 q.1 q.2 r.0 r.1 r.2)))
      (λ x i. let q = trait-at x i in subst (TraitObeys W) (sym q.3) (trait-obeys q.0 q.1 q.2)) (λ x i. let q = impl-at x i in subst (ImplObeys W) (sym q.3) (impl-obeys q.0 q.1 q.2)) autos-at-home (λ n. n)
      (λ x b i j.
      let q = trait-at x i in
      let r = map-at erased_reference q.1.item.bounds b (subst (λ (z : TraitDecl). In b z.bounds) q.3 j) in
      subst (λ (z : TraitDecl). b.trait < z.name) (sym q.3) (subst (λ (z : Reference). z.trait < q.1.item.name) (sym r.3) (bound-below q.0 q.1 q.2 r.0 r.1 r.2)))
    where
      trait-obeys : (k : ℕ) (n : NamedTrait) → slice_get d.traits k ≡ Some n → TraitObeys W (erased_trait n.item)
      trait-obeys k n e = record {
        plain = λ b j. let r = map-at erased_reference n.item.bounds b j in
            subst (λ (z : Reference). IsPlainTerm z.args) (sym r.3) (good-term none_kept (of_type ∷ n.kinds) r.1.args (good-bound k n e r.0 r.1 r.2));
        names = λ b j. let r = map-at erased_reference n.item.bounds b j in subst (λ z. in_scope W n.item.home z ≡ true) (sym r.3) (bound-scope k n e r.0 r.1 r.2);
        autos_bare = λ h. ap (map erased_reference) (each-at (λ (m : NamedTrait). m.item.is_auto ≡ true → m.item.bounds ≡ []) d.traits a.kept.autos k n e h);
      }

      impl-obeys : (k : ℕ) (n : NamedImpl) → slice_get d.impls k ≡ Some n → ImplObeys W (erased_impl n.item)
      impl-obeys k n e = record {
        plain_header = good-term all_kept (param_sorts n) n.item.header.args (good-header k n e);
        plain_clauses = λ c j. let r = map-at erased_reference n.item.clauses c j in
            subst (λ (z : Reference). IsPlainTerm z.args) (sym r.3) (good-term (stands_in n.item.header.args) (param_sorts n) r.1.args (good-clause k n e r.1 r.0 r.2));
        names = header-scope k n e;
        covered = λ c j s m h.
            let r = map-at erased_reference n.item.clauses c j in
            covered (stands_in n.item.header.args) (param_sorts n) n.item.header.args r.1.args (good-header k n e) (and-left (all_stand n.item.header.args 0 (param_sorts n)) _ (good-more k n e)) (good-clause k n e r.1 r.0 r.2) s m
            (ap (λ (z : Reference). mentions_as s m z.args) (sym r.3) ∙ h);
        not_sized = (header k n e).not_sized;
      }

  -- ---- its crates fit together
  pub text-is-ordered : OrderedCrates W (λ n. n)
  text-is-ordered = record {
    core_there = whole-there W core-there;
    core_later = whole-later W core-there;
    core_first = refl;
    uses_before = λ x u i j. uses-below x u i j;
    uses_stand = uses-there;
    one_struct = one-struct;
    one_trait = one-trait;
    one_impl = one-impl;
    dyns_in_order = rising-in-order W dyns-rise;
  }

  -- ---- all of it
  pub joined : CratesKeepOrphanRule d → (cs : List ℕ) → JoinedSet W (map (view_at W) cs) (λ n. n)
  joined orphan cs = record { rules = text-obeys; fits = text-is-ordered; orphan_rule = orphan-rule orphan; as_answered = hold-views W cs }

pub texts-are-joined : TextsAreJoined
texts-are-joined d (bytes, t) h cs = joined d (texts-are-kept bytes d (text-gives bytes (Ok d) t)) h cs

pub texts-list-in-order : TextsListInOrder
texts-list-in-order d (bytes, t) = dyns-rise d (texts-are-kept bytes d (text-gives bytes (Ok d) t))
