-- What a text without a fault declares is formed: its terms name what is declared and seen, with the arguments that it takes.
use Rattle.std.proofs.Common.{◌≡◌, ◌<◌, ◌≤◌, ◌-◌, ℕ, zero, suc, Bool, true, false, ◌&&◌, List, [], ◌∷◌, ◌++◌, map, length, Option, Some, None, Ok, refl, sym, ap, ◌∙◌, subst, arith, inl, inr}
use Rattle.std.proofs.lemmas.List.Folds.{list_all-append}
use Rattle.std.proofs.lemmas.Option.{same_Some, slice_get_within}
use Rattle.std.specs.Prelude.{slice_get, find, if◌then◌else◌, option_and_then}
use Rattle.std.specs.List.{list_all, list_any, flat_map}
use Rattle.std.specs.Option.{option_map, option_map_or, option_or}
use Rattle.std.specs.Str.{bytes_eq}
use Rattle.type_terms.specs.Promised.Label.{Label, Sort, of_type, param, adt, tuple, fn_ptr, raw_pointer, ref, array, slice, dynamic, principal, auto_trait, predicate, placeholder}
use Rattle.type_terms.specs.Promised.Trees.{Trees, none, tree, leaf, ◌+++◌, sort_of}
use Rattle.type_terms.specs.Promised.Worlds.{Reference, sees}
use Rattle.type_terms.specs.Promised.Proofs.{In}
use Rattle.type_terms.proofs.Members.{in-cases, in-nothing, in-left}
use Rattle.declarations.specs.Applied.{sorts_of}
use Rattle.declarations.specs.Promised.Elaboration.{Each}
use Rattle.text_language.specs.Promised.Syntax.{Types, no_types, and_type, Bound, Clause, Line, crate_line, struct_line, trait_line, impl_line, prove_line, refute_line, later_line, supers_line}
use Rattle.text_language.specs.Promised.Declarations.{Declarations, NamedCrate, NamedStruct, NamedTrait, NamedImpl, LaterImpl, Known, a_crate, a_struct, a_trait, world_of, known, last_crate, last_changed, impl_owner, Question}
use Rattle.text_language.specs.Declarations.{nothing_declared}
use Rattle.text_language.specs.Uses.{Use, crate_use, trait_use, args_count, kinds_of_trait, type_uses, types_uses, args_uses, bound_uses, clause_uses, header_uses, uses, params_of}
use Rattle.text_language.specs.Faults.{fault_of, belongs_to_crate, is_impl, is_hidden_use, is_crate, number_of_crate, once, variables_in}
use Rattle.text_language.specs.Promised.Faults.{with_own, own_struct, own_trait}
use Rattle.text_language.specs.Lowering.{crate_number, trait_number, field_trees, type_tree, args_trees, bound_with_self, clause_reference, Meanings}
use Rattle.text_language.specs.Adding.{added, item_meanings, crate_of, struct_of, trait_of, impl_of, question_of, question_meanings}
use Rattle.text_language.specs.Syntax.{spelling}
use Rattle.text_language.specs.Text.{TextGives}
use Rattle.text_lines.specs.Faultless.{UsesFit, names_crate}
use Rattle.text_lines.proofs.NoFault.{passes-tests, belongs-to-crate, uses-crates}
use Rattle.text_lines.proofs.FittingUses.{faultless-uses}
use Rattle.text_lowering.proofs.Applied.{each-more, still-there}
use Rattle.text_lowering.proofs.EachLine.{text-keeps}
use Rattle.text_lowering.proofs.ScalarTokens.{AllFine, ScalarBounds, ScalarClause, ScalarClauses, struct-scalars, trait-scalars, impl-scalars, prove-scalars, refute-scalars}
use Rattle.text_lowering.proofs.Scalars.{ScalarTypes, ScalarArgs}
use Rattle.text_lowering.proofs.Standing.{AutosAreBare}
use Rattle.text_lowering.proofs.Texts.{Well, is_bare, autos-bare, line-added, core-well}
use Rattle.sessions.proofs.Seeing.{seen-more}
use Rattle.sessions.proofs.TextTerms.{Scope, IsStructAt, IsTraitAt, TextNode, TextNodes, IsPlaced, scope_of, nodes-append, FitSeen, first-seen, rest-seen, tail-seen, trait-used, type-sorts, args-sorts, type-nodes, args-nodes}
use Rattle.declarations.proofs.Growth.{each-kept as each-map}

-- ---- what is kept from line to line
-- what is declared, as crate h sees it
abbrev pub scope : Declarations → ℕ → Scope
scope d h = record { structs = d.structs; traits = d.traits; sees = sees (world_of d) h }

pub record IsFormedField (e : Scope) (t : Trees) : Type 0 where
  pub nodes : TextNodes e t
  pub sort : sorts_of t ≡ of_type ∷ []

pub record IsFormedReference (e : Scope) (r : Reference) : Type 0 where
  pub nodes : TextNodes e r.args
  pub trait : IsTraitAt e r.trait (sorts_of r.args)

abbrev pub StructFormed : Declarations → NamedStruct → Type 0
StructFormed d n = Each (IsFormedField (scope d n.item.home)) n.item.fields

abbrev pub TraitFormed : Declarations → NamedTrait → Type 0
TraitFormed d n = Each (IsFormedReference (scope d n.item.home)) n.item.bounds

abbrev pub ImplFormed : Declarations → NamedImpl → Type 0
ImplFormed d n = IsFormedReference (scope d n.item.home) n.item.header × Each (IsFormedReference (scope d n.item.home)) n.item.clauses

abbrev pub QuestionFormed : Declarations → Question → Type 0
QuestionFormed d q = IsFormedReference (scope d q.asker) q.asked × Each (IsFormedReference (scope d q.asker)) q.clauses

-- a crate's number is its place, and it uses earlier crates alone
abbrev pub IsCrate : ℕ → NamedCrate → Type 0
IsCrate k x = (x.item.name ≡ k) × ((u : ℕ) → In u x.item.uses → u < k)

pub record Formed (d : Declarations) : Type 0 where
  pub crates : (k : ℕ) (x : NamedCrate) → slice_get d.crates k ≡ Some x → IsCrate k x
  pub structs : Each (StructFormed d) d.structs
  pub traits : Each (TraitFormed d) d.traits
  pub impls : Each (ImplFormed d) d.impls
  pub questions : Each (QuestionFormed d) d.questions
  pub later_impls : Each (λ i. ImplFormed d i.added) d.later_impls
  pub core : (k : ℕ) (n : NamedTrait) → slice_get nothing_declared.traits k ≡ Some n → slice_get d.traits k ≡ Some n

-- ---- more is declared
pub record Grows (e f : Scope) : Type 0 where
  pub structs : (s : ℕ) (n : NamedStruct) → slice_get e.structs s ≡ Some n → (m : NamedStruct) × (slice_get f.structs s ≡ Some m) × (m.kinds ≡ n.kinds) × (m.item.home ≡ n.item.home)
  pub traits : (t : ℕ) (n : NamedTrait) → slice_get e.traits t ≡ Some n → (m : NamedTrait) × (slice_get f.traits t ≡ Some m) × (m.kinds ≡ n.kinds) × (m.item.home ≡ n.item.home)
  pub sees : (h : ℕ) → e.sees h ≡ true → f.sees h ≡ true

module _ (e f : Scope) (g : Grows e f) where
  struct-grows : (s : ℕ) (ss : List Sort) → IsStructAt e s ss → IsStructAt f s ss
  struct-grows s ss h = let m = g.structs s h.0 h.1 in (m.0, m.1, h.2 ∙ sym m.2, ap f.sees m.3 ∙ g.sees h.0.item.home h.3)

  trait-grows : (t : ℕ) (ss : List Sort) → IsTraitAt e t ss → IsTraitAt f t ss
  trait-grows t ss h = let m = g.traits t h.0 h.1 in (m.0, m.1, h.2 ∙ ap (λ ks. of_type ∷ ks) (sym m.2), ap f.sees m.3 ∙ g.sees h.0.item.home h.3)

  node-grows : (l : Label) (c : Trees) → TextNode e l c → TextNode f l c
  node-grows (adt s) c h = struct-grows s (sorts_of c) h
  node-grows (principal n t) c h = trait-grows t (of_type ∷ sorts_of c) h
  node-grows (auto_trait t) c h = trait-grows t (of_type ∷ []) h
  node-grows (predicate k) c h = absurd h
  node-grows tuple c h = h
  node-grows (fn_ptr n) c h = h
  node-grows (raw_pointer b) c h = h
  node-grows array c h = h
  node-grows slice c h = h
  node-grows (ref b) c h = h
  node-grows dynamic c h = h
  node-grows l c h = tt

  nodes-grow : (t : Trees) → TextNodes e t → TextNodes f t
  nodes-grow none h = tt
  nodes-grow (tree l c o) h = (node-grows l c h.0, nodes-grow c h.1, nodes-grow o h.2)

  pub field-grows : (t : Trees) → IsFormedField e t → IsFormedField f t
  field-grows t h = record { nodes = nodes-grow t h.nodes; sort = h.sort }

  pub reference-grows : (r : Reference) → IsFormedReference e r → IsFormedReference f r
  reference-grows r h = record { nodes = nodes-grow r.args h.nodes; trait = trait-grows r.trait (sorts_of r.args) h.trait }

same-there : {A : Type 0} (xs : List A) (k : ℕ) (x : A) (K : A → List Sort) (H : A → ℕ) → slice_get xs k ≡ Some x → (m : A) × (slice_get xs k ≡ Some m) × (K m ≡ K x) × (H m ≡ H x)
same-there xs k x K H e = (x, e, refl, refl)

-- the last of a list with another in its place that takes as much
last-there-too : {A : Type 0} (K : A → List Sort) (H : A → ℕ) (a b : A) → K b ≡ K a → H b ≡ H a → (xs : List A) (k : ℕ) (x : A) → slice_get (xs ++ a ∷ []) k ≡ Some x → (m : A) × (slice_get (xs ++ b ∷ []) k ≡ Some m) × (K m ≡ K x) × (H m ≡ H x)
last-there-too K H a b p q [] zero x e = let s = same_Some a x e in (b, refl, p ∙ ap K s, q ∙ ap H s)
last-there-too K H a b p q [] (suc k) x e = absurd cc
last-there-too K H a b p q (y ∷ ys) zero x e = (x, e, refl, refl)
last-there-too K H a b p q (y ∷ ys) (suc k) x e = last-there-too K H a b p q ys k x e

abbrev struct_kinds : NamedStruct → List Sort
struct_kinds n = n.kinds

abbrev struct_home : NamedStruct → ℕ
struct_home n = n.item.home

abbrev trait_kinds : NamedTrait → List Sort
trait_kinds n = n.kinds

abbrev trait_home : NamedTrait → ℕ
trait_home n = n.item.home

-- the same crates see the same
pub seen-still : (d e : Declarations) → (world_of d).crates ≡ (world_of e).crates → (c x : ℕ) → sees (world_of d) c x ≡ true → sees (world_of e) c x ≡ true
seen-still d e s c x h = seen-more (world_of d) (world_of e) (λ y i. subst (In y) s i) (subst (λ cs. length (world_of d).crates ≤ length cs) s (same (length (world_of d).crates))) c x h
  where
    same : (n : ℕ) → n ≤ n
    same n = omega arith

-- with an impl of a section, or of the last crate
abbrev pub with_impl_at : Declarations → NamedImpl → Bool → Declarations
with_impl_at d x b = if b then record d { later_impls = d.later_impls ++ record { section = length d.sections - 1; added = x } ∷ [] } else record d { impls = d.impls ++ x ∷ [] }

-- what the line's own scope shows, the declarations with it show
own-grows : (d : Declarations) (l : Line) (c : ℕ) → (world_of d).crates ≡ (world_of (added d l)).crates → Grows (scope_of d l c) (scope (added d l) c)
own-grows d (crate_line n us) c s = record {
  structs = λ k n. same-there d.structs k n struct_kinds struct_home;
  traits = λ k n. same-there d.traits k n trait_kinds trait_home;
  sees = seen-still d (added d (crate_line n us)) s c;
}
own-grows d (struct_line f n ps fs) c s = let l = struct_line f n ps fs in record {
  structs = last-there-too struct_kinds struct_home (own_struct d f n ps) (struct_of d (item_meanings d l 0) f n ps fs) refl refl d.structs;
  traits = λ k n. same-there d.traits k n trait_kinds trait_home;
  sees = seen-still d (added d l) s c;
}
own-grows d (trait_line f a n ps bs) c s = let l = trait_line f a n ps bs in record {
  structs = λ k n. same-there d.structs k n struct_kinds struct_home;
  traits = last-there-too trait_kinds trait_home (own_trait d f a n ps) (trait_of d (item_meanings d l 1) f a n ps bs) refl refl d.traits;
  sees = seen-still d (added d l) s c;
}
own-grows d (impl_line ps k ks) c s = by d.in_section s
  where
    x : NamedImpl
    x = impl_of d (item_meanings d (impl_line ps k ks) 0) ps k ks

    by : (b : Bool) → (world_of d).crates ≡ (world_of (with_impl_at d x b)).crates → Grows (scope_of d (impl_line ps k ks) c) (scope (with_impl_at d x b) c)
    by true q = record { structs = λ k n. same-there d.structs k n struct_kinds struct_home; traits = λ k n. same-there d.traits k n trait_kinds trait_home; sees = seen-still d (with_impl_at d x true) q c }
    by false q = record { structs = λ k n. same-there d.structs k n struct_kinds struct_home; traits = λ k n. same-there d.traits k n trait_kinds trait_home; sees = seen-still d (with_impl_at d x false) q c }
own-grows d (prove_line n ps a bs ks) c s = record {
  structs = λ k n. same-there d.structs k n struct_kinds struct_home;
  traits = λ k n. same-there d.traits k n trait_kinds trait_home;
  sees = seen-still d (added d (prove_line n ps a bs ks)) s c;
}
own-grows d (refute_line n ps a bs) c s = record {
  structs = λ k n. same-there d.structs k n struct_kinds struct_home;
  traits = λ k n. same-there d.traits k n trait_kinds trait_home;
  sees = seen-still d (added d (refute_line n ps a bs)) s c;
}
own-grows d (later_line n) c s = record {
  structs = λ k n. same-there d.structs k n struct_kinds struct_home;
  traits = λ k n. same-there d.traits k n trait_kinds trait_home;
  sees = seen-still d (added d (later_line n)) s c;
}
own-grows d (supers_line n) c s = record {
  structs = λ k n. same-there d.structs k n struct_kinds struct_home;
  traits = λ k n. same-there d.traits k n trait_kinds trait_home;
  sees = seen-still d (added d (supers_line n)) s c;
}

-- so do declarations with one more item, where it is no crate
item-grows : (d e : Declarations) (xs : List NamedStruct) (ys : List NamedTrait) → e.structs ≡ d.structs ++ xs → e.traits ≡ d.traits ++ ys → (h : ℕ) → ((x : ℕ) → sees (world_of d) h x ≡ true → sees (world_of e) h x ≡ true) → Grows (scope d h) (scope e h)
item-grows d e xs ys p q h s = record {
  structs = λ k n g. (n, ap (λ z. slice_get z k) p ∙ still-there d.structs xs k n g, refl, refl);
  traits = λ k n g. (n, ap (λ z. slice_get z k) q ∙ still-there d.traits ys k n g, refl, refl);
  sees = s;
}

nothing-behind : {A : Type 0} (xs : List A) → xs ≡ xs ++ []
nothing-behind [] = refl
nothing-behind (x ∷ xs) = ap (λ r. x ∷ r) (nothing-behind xs)

-- ---- places
pub pushed : {A : Type 0} (P : ℕ → A → Type 0) (xs : List A) (x : A) → ((k : ℕ) (y : A) → slice_get xs k ≡ Some y → P k y) → P (length xs) x → (k : ℕ) (y : A) → slice_get (xs ++ x ∷ []) k ≡ Some y → P k y
pushed P [] x h p zero y e = subst (P zero) (same_Some x y e) p
pushed P [] x h p (suc k) y e = absurd cc
pushed P (z ∷ zs) x h p zero y e = h zero y e
pushed P (z ∷ zs) x h p (suc k) y e = pushed (λ j. P (suc j)) zs x (λ j w q. h (suc j) w q) p k y e

-- parameters of items, and of questions
pub param-sorted : (s : Sort) (i : ℕ) → sort_of (param s i) ≡ s
param-sorted s i = refl

pub param-free : (e : Scope) (s : Sort) (i : ℕ) (x : Trees) → TextNode e (param s i) x
param-free e s i x = tt

placeholder-sorted : (s : Sort) (i : ℕ) → sort_of (placeholder s i) ≡ s
placeholder-sorted s i = refl

placeholder-free : (e : Scope) (s : Sort) (i : ℕ) (x : Trees) → TextNode e (placeholder s i) x
placeholder-free e s i x = tt

-- ---- a line
module _ (d : Declarations) (l : Line) (first c : ℕ) (parameter : Sort → ℕ → Label) (variables : List (List ℕ × Sort)) (sorted : (s : Sort) (i : ℕ) → sort_of (parameter s i) ≡ s)
    (free : (s : Sort) (i : ℕ) (x : Trees) → TextNode (scope_of d l c) (parameter s i) x)
    (structs : IsPlaced (λ (x : NamedStruct). x.item.name) (with_own d l).structs) (traits : IsPlaced (λ (x : NamedTrait). x.item.name) (with_own d l).traits) (bare : AutosAreBare (with_own d l)) where
  abbrev M : Meanings
  M = record { items = with_own d l; params = params_of l; first = first; parameter = parameter; variables = variables }

  abbrev S : List Use → Type 0
  S us = FitSeen d l first c parameter variables sorted free structs traits bare us

  abbrev head-of : (us vs : List Use) → S (us ++ vs) → S us
  head-of us vs h = first-seen d l first c parameter variables sorted free structs traits bare us vs h

  abbrev rest-of : (us vs : List Use) → S (us ++ vs) → S vs
  rest-of us vs h = rest-seen d l first c parameter variables sorted free structs traits bare us vs h

  fields-formed : (fs : Types) → ScalarTypes fs → S (types_uses (with_own d l) [] fs) → Each (IsFormedField (scope_of d l c)) (field_trees M fs)
  fields-formed no_types f h = tt
  fields-formed (and_type t ts) f h = (
    record { nodes = type-nodes d l first c parameter variables sorted free structs traits bare [] t f.0 (head-of (type_uses (with_own d l) [] of_type t) (types_uses (with_own d l) [] ts) h); sort = type-sorts d l first c parameter variables sorted free structs traits bare [] t f.0 },
    fields-formed ts f.1 (rest-of (type_uses (with_own d l) [] of_type t) (types_uses (with_own d l) [] ts) h),
  )

  self-formed : (self : Trees) → TextNodes (scope_of d l c) self → sorts_of self ≡ of_type ∷ [] → (b : Bound) → ScalarArgs b.args → S (bound_uses (with_own d l) b)
      → IsFormedReference (scope_of d l c) (bound_with_self M self b)
  self-formed self n s b f h =
      let ks = kinds_of_trait (known (with_own d l) b.trait) in
      let q = trait-used d l first c parameter variables sorted free structs traits bare b.trait (args_count b.args) (args_uses (with_own d l) [] ks b.args) h in
      let more = tail-seen d l first c parameter variables sorted free structs traits bare (trait_use b.trait (args_count b.args)) (args_uses (with_own d l) [] ks b.args) h in
      let args = args_trees M [] ks b.args in
      record {
        nodes = nodes-append (TextNode (scope_of d l c)) self args n (args-nodes d l first c parameter variables sorted free structs traits bare [] ks b.args f more);
        trait = subst (IsTraitAt (scope_of d l c) (trait_number (known (with_own d l) b.trait))) (sym (behind self args s ∙ ap (λ z. of_type ∷ z) (args-sorts d l first c parameter variables sorted free structs traits bare [] ks b.args f q.1 more))) q.0;
      }
    where
      behind : (x y : Trees) → sorts_of x ≡ of_type ∷ [] → sorts_of (x +++ y) ≡ of_type ∷ sorts_of y
      behind none y e = absurd cc
      behind (tree m k none) y e = ap (λ z. z ∷ sorts_of y) (the-head (sort_of m) e)
        where
          the-head : (z : Sort) → z ∷ [] ≡ of_type ∷ [] → z ≡ of_type
          the-head z g = cc
      behind (tree m k (tree n i o)) y e = absurd cc

  clause-formed : (k : Clause) → ScalarClause k → S (clause_uses (with_own d l) k) → IsFormedReference (scope_of d l c) (clause_reference M k)
  clause-formed k f h =
      self-formed (type_tree M [] of_type k.subject)
      (type-nodes d l first c parameter variables sorted free structs traits bare [] k.subject f.0 (head-of (type_uses (with_own d l) [] of_type k.subject) (bound_uses (with_own d l) k.bound) h))
      (type-sorts d l first c parameter variables sorted free structs traits bare [] k.subject f.0) k.bound f.1 (rest-of (type_uses (with_own d l) [] of_type k.subject) (bound_uses (with_own d l) k.bound) h)

  -- the header of an impl, whose uses are those of its trait and then those of its self type
  header-formed : (k : Clause) → ScalarClause k → S (header_uses (with_own d l) k) → IsFormedReference (scope_of d l c) (clause_reference M k)
  header-formed k f h =
      self-formed (type_tree M [] of_type k.subject)
      (type-nodes d l first c parameter variables sorted free structs traits bare [] k.subject f.0 (rest-of (bound_uses (with_own d l) k.bound) (type_uses (with_own d l) [] of_type k.subject) h))
      (type-sorts d l first c parameter variables sorted free structs traits bare [] k.subject f.0) k.bound f.1 (head-of (bound_uses (with_own d l) k.bound) (type_uses (with_own d l) [] of_type k.subject) h)

  bounds-formed : (bs : List Bound) → ScalarBounds bs → S (flat_map (bound_uses (with_own d l)) bs) → Each (IsFormedReference (scope_of d l c)) (map (bound_with_self M (leaf (param of_type 0))) bs)
  bounds-formed [] f h = tt
  bounds-formed (b ∷ bs) f h = (
    self-formed (leaf (param of_type 0)) (tt, tt, tt) refl b f.0 (head-of (bound_uses (with_own d l) b) (flat_map (bound_uses (with_own d l)) bs) h),
    bounds-formed bs f.1 (rest-of (bound_uses (with_own d l) b) (flat_map (bound_uses (with_own d l)) bs) h),
  )

  clauses-formed : (ks : List Clause) → ScalarClauses ks → S (flat_map (clause_uses (with_own d l)) ks) → Each (IsFormedReference (scope_of d l c)) (map (clause_reference M) ks)
  clauses-formed [] f h = tt
  clauses-formed (k ∷ ks) f h = (
    clause-formed k f.0 (head-of (clause_uses (with_own d l) k) (flat_map (clause_uses (with_own d l)) ks) h),
    clauses-formed ks f.1 (rest-of (clause_uses (with_own d l) k) (flat_map (clause_uses (with_own d l)) ks) h),
  )

-- ---- all items, with one more
module _ (d e : Declarations) (grows : (h : ℕ) → Grows (scope d h) (scope e h)) (h : Formed d) where
  structs-still : Each (StructFormed e) d.structs
  structs-still = each-map (StructFormed d) (StructFormed e) (λ x p. each-map (IsFormedField (scope d x.item.home)) (IsFormedField (scope e x.item.home)) (field-grows (scope d x.item.home) (scope e x.item.home) (grows x.item.home)) x.item.fields p) d.structs h.structs

  traits-still : Each (TraitFormed e) d.traits
  traits-still = each-map (TraitFormed d) (TraitFormed e) (λ x p. each-map (IsFormedReference (scope d x.item.home)) (IsFormedReference (scope e x.item.home)) (reference-grows (scope d x.item.home) (scope e x.item.home) (grows x.item.home)) x.item.bounds p) d.traits h.traits

  impl-grown : (x : NamedImpl) → ImplFormed d x → ImplFormed e x
  impl-grown x p =
      (reference-grows (scope d x.item.home) (scope e x.item.home) (grows x.item.home) x.item.header p.0, each-map (IsFormedReference (scope d x.item.home)) (IsFormedReference (scope e x.item.home)) (reference-grows (scope d x.item.home) (scope e x.item.home) (grows x.item.home)) x.item.clauses p.1)

  impls-still : Each (ImplFormed e) d.impls
  impls-still = each-map (ImplFormed d) (ImplFormed e) impl-grown d.impls h.impls

  later-still : Each (λ i. ImplFormed e i.added) d.later_impls
  later-still = each-map (λ (i : LaterImpl). ImplFormed d i.added) (λ (i : LaterImpl). ImplFormed e i.added) (λ i p. impl-grown i.added p) d.later_impls h.later_impls

  questions-still : Each (QuestionFormed e) d.questions
  questions-still =
      each-map (QuestionFormed d) (QuestionFormed e) (λ x p.
      (reference-grows (scope d x.asker) (scope e x.asker) (grows x.asker) x.asked p.0, each-map (IsFormedReference (scope d x.asker)) (IsFormedReference (scope e x.asker)) (reference-grows (scope d x.asker) (scope e x.asker) (grows x.asker)) x.clauses p.1))
      d.questions h.questions

-- ---- lines
-- a known crate has a number
pub crate-there : (d : Declarations) (n : List ℕ) → Formed d → names_crate d n ≡ true → crate_number (known d n) < length d.crates
crate-there d n i h = by (find (λ (x : NamedCrate). bytes_eq x.text n) d.crates) (find (λ (x : NamedStruct). bytes_eq x.text n) d.structs) (find (λ (x : NamedTrait). bytes_eq x.text n) d.traits) refl h
  where
    all : Option NamedCrate → Option NamedStruct → Option NamedTrait → Option Known
    all co so to = option_or (option_map (λ (x : NamedCrate). a_crate x.item.name) co) (option_or (option_map (λ (x : NamedStruct). a_struct x.item.name x.item.home x.kinds) so) (option_map (λ (x : NamedTrait). a_trait x.item.name x.item.home x.item.is_auto x.kinds) to))

    at : (xs : List NamedCrate) (x : NamedCrate) → find (λ (y : NamedCrate). bytes_eq y.text n) xs ≡ Some x → (k : ℕ) × (slice_get xs k ≡ Some x)
    at [] x e = absurd cc
    at (y ∷ ys) x e = step (bytes_eq y.text n) e (at ys x)
      where
        step : (b : Bool) → (if b then Some y else find (λ (z : NamedCrate). bytes_eq z.text n) ys) ≡ Some x → (find (λ (z : NamedCrate). bytes_eq z.text n) ys ≡ Some x → (k : ℕ) × (slice_get ys k ≡ Some x)) → (k : ℕ) × (slice_get (y ∷ ys) k ≡ Some x)
        step true g r = (zero, g)
        step false g r = let q = r g in (suc q.0, q.1)

    by : (co : Option NamedCrate) (so : Option NamedStruct) (to : Option NamedTrait) → find (λ (x : NamedCrate). bytes_eq x.text n) d.crates ≡ co
        → option_map_or (λ k. elim k [ a_crate i ↦ true | a_struct i x ks ↦ false | a_trait i x a ks ↦ false ]) (all co so to) false ≡ true → crate_number (all co so to) < length d.crates
    by (Some x) so to e g = let q = at d.crates x e in subst (λ k. k < length d.crates) (sym (i.crates q.0 x q.1).0) (slice_get_within d.crates q.0 x q.1)
    by None (Some x) to e g = absurd cc
    by None None (Some x) e g = absurd cc
    by None None None e g = absurd cc

-- the uses of an item's line fit and are seen
abbrev SeenUses : Declarations → Line → ℕ → Type 0
SeenUses d l c = UsesFit d l (uses (with_own d l) l) × (list_any (is_hidden_use d l c) (uses (with_own d l) l) ≡ false)

bare-there : (d : Declarations) (own x : NamedTrait) → is_bare own ≡ is_bare x → list_all is_bare (d.traits ++ x ∷ []) ≡ true → list_all is_bare (d.traits ++ own ∷ []) ≡ true
bare-there d own x e h = list_all-append is_bare d.traits (own ∷ []) ∙ ap (λ b. list_all is_bare d.traits && (b && true)) e ∙ sym (list_all-append is_bare d.traits (x ∷ [])) ∙ h

-- the crate that asks sees what its question uses
asker-sees : (d : Declarations) (l : Line) (c : List ℕ) → names_crate d c ≡ true → option_map_or (λ k. list_any (is_hidden_use d l k) (uses (with_own d l) l)) (option_and_then number_of_crate (known d c)) false ≡ false
    → list_any (is_hidden_use d l (crate_number (known d c))) (uses (with_own d l) l) ≡ false
asker-sees d l c n h = by (known d c) n h
  where
    by : (o : Option Known) → option_map_or is_crate o false ≡ true → option_map_or (λ k. list_any (is_hidden_use d l k) (uses (with_own d l) l)) (option_and_then number_of_crate o) false ≡ false
        → list_any (is_hidden_use d l (crate_number o)) (uses (with_own d l) l) ≡ false
    by None m g = absurd cc
    by (Some (a_crate k)) m g = g
    by (Some (a_struct k x ks)) m g = absurd cc
    by (Some (a_trait k x b ks)) m g = absurd cc

-- a struct or a trait stands in no section, and behind a crate of its own
pub no-section : (d : Declarations) (l : Line) → fault_of d l ≡ None → belongs_to_crate l ≡ true → is_impl l ≡ false → d.in_section ≡ false
no-section d l f b n = by d.in_section refl
  where
    by : (s : Bool) → d.in_section ≡ s → s ≡ false
    by false q = refl
    by true q = absurd (clash (sym n ∙ (belongs-to-crate d l f b).1 q))
      where
        clash : false ≡ true → ⊥
        clash e = cc

own-seen : (d : Declarations) (l : Line) → fault_of d l ≡ None → belongs_to_crate l ≡ true → is_impl l ≡ false → list_any (is_hidden_use d l (impl_owner d)) (uses (with_own d l) l) ≡ false → list_any (is_hidden_use d l (last_crate d)) (uses (with_own d l) l) ≡ false
own-seen d l f b n h = subst (λ s. list_any (is_hidden_use d l (if s then last_changed d else last_crate d)) (uses (with_own d l) l) ≡ false) (no-section d l f b n) h

-- an impl of a section, or of the last crate, that is formed in its line's scope
impl-added : (d : Declarations) (x : NamedImpl) → Formed d → (b : Bool)
    → IsFormedReference (scope d x.item.home) x.item.header × Each (IsFormedReference (scope d x.item.home)) x.item.clauses → Formed (with_impl_at d x b)
impl-added d x h true formed =
    let f = with_impl_at d x true in
    let goes = λ (c : ℕ). item-grows d f [] [] (nothing-behind d.structs) (nothing-behind d.traits) c (seen-still d f refl c) in
    record {
      crates = h.crates;
      structs = structs-still d f goes h;
      traits = traits-still d f goes h;
      impls = impls-still d f goes h;
      questions = questions-still d f goes h;
      later_impls = each-more (λ (i : LaterImpl). ImplFormed f i.added) d.later_impls (record { section = length d.sections - 1; added = x }) (later-still d f goes h) (impl-grown d f goes h x formed);
      core = h.core;
    }
impl-added d x h false formed =
    let f = with_impl_at d x false in
    let goes = λ (c : ℕ). item-grows d f [] [] (nothing-behind d.structs) (nothing-behind d.traits) c (seen-still d f refl c) in
    record {
      crates = h.crates;
      structs = structs-still d f goes h;
      traits = traits-still d f goes h;
      impls = each-more (ImplFormed f) d.impls x (impls-still d f goes h) (impl-grown d f goes h x formed);
      questions = questions-still d f goes h;
      later_impls = later-still d f goes h;
      core = h.core;
    }

pub line-formed : (d : Declarations) (l : Line) → AllFine (spelling l) → fault_of d l ≡ None → Well d → Formed d → Formed (added d l)
line-formed d (crate_line n us) w f well h =
    let l = crate_line n us in
    let e = added d l in
    let x = crate_of d n us in
    let goes = λ (c : ℕ). item-grows d e [] [] (nothing-behind d.structs) (nothing-behind d.traits) c (seen-more (world_of d) (world_of e) (λ y i. subst (In y) (sym (map-more d.crates x)) (in-left y (world_of d).crates (x.item ∷ []) i)) (longer d.crates x) c) in
    record {
      crates = pushed IsCrate d.crates x h.crates (refl, crates-there us (faultless-uses d l f));
      structs = structs-still d e goes h;
      traits = traits-still d e goes h;
      impls = impls-still d e goes h;
      questions = questions-still d e goes h;
      later_impls = later-still d e goes h;
      core = h.core;
    }
  where
    map-more : (xs : List NamedCrate) (y : NamedCrate) → map (λ (z : NamedCrate). z.item) (xs ++ y ∷ []) ≡ map (λ (z : NamedCrate). z.item) xs ++ y.item ∷ []
    map-more [] y = refl
    map-more (z ∷ zs) y = ap (λ r. z.item ∷ r) (map-more zs y)

    longer : (xs : List NamedCrate) (y : NamedCrate) → length (map (λ (z : NamedCrate). z.item) xs) ≤ length (map (λ (z : NamedCrate). z.item) (xs ++ y ∷ []))
    longer [] y = omega arith
    longer (z ∷ zs) y = omega (arith, longer zs y)

    crates-there : (vs : List (List ℕ)) → UsesFit d (crate_line n us) (map crate_use vs) → (u : ℕ) → In u (map (λ v. crate_number (known d v)) vs) → u < length d.crates
    crates-there [] g u i = absurd (in-nothing u i)
    crates-there (v ∷ vs) g u i = elim (in-cases u (crate_number (known d v)) (map (λ z. crate_number (known d z)) vs) i) [ inl q ↦ subst (λ k. k < length d.crates) q (crate-there d v h g.0) | inr j ↦ crates-there vs g.1 u j ]
line-formed d (prove_line c ps a bs ks) w f well h =
    let l = prove_line c ps a bs ks in
    let e = added d l in
    let k = crate_number (known d c) in
    let vs = once (variables_in (flat_map (clause_uses d) (a ∷ bs))) in
    let goes = λ (x : ℕ). item-grows d e [] [] (nothing-behind d.structs) (nothing-behind d.traits) x (seen-still d e refl x) in
    let bare = autos-bare d well.bare in
    let free = placeholder-free (scope_of d l k) in
    let scalar = prove-scalars c ps a bs ks w in
    let grown = reference-grows (scope_of d l k) (scope e k) (own-grows d l k refl) in
    let seen : SeenUses d l k = (faultless-uses d l f, asker-sees d l c (uses-crates d l f) (passes-tests d l f).has_seen_names) in
    let all = tail-seen d l 0 k placeholder vs placeholder-sorted free well.struct_numbers well.trait_numbers bare (crate_use c) (flat_map (clause_uses d) (a ∷ bs) ++ flat_map (clause_uses d) ks) seen in
    let asked = clause-formed d l 0 k placeholder vs placeholder-sorted free well.struct_numbers well.trait_numbers bare a scalar.0.0
    (head-of d l 0 k placeholder vs placeholder-sorted free well.struct_numbers well.trait_numbers bare (clause_uses d a) (flat_map (clause_uses d) bs) (head-of d l 0 k placeholder vs placeholder-sorted free well.struct_numbers well.trait_numbers bare (flat_map (clause_uses d) (a ∷ bs)) (flat_map (clause_uses d) ks) all)) in
    let others = clauses-formed d l 0 k placeholder vs placeholder-sorted free well.struct_numbers well.trait_numbers bare ks scalar.1 (rest-of d l 0 k placeholder vs placeholder-sorted free well.struct_numbers well.trait_numbers bare (flat_map (clause_uses d) (a ∷ bs)) (flat_map (clause_uses d) ks) all) in
    record {
      crates = h.crates;
      structs = structs-still d e goes h;
      traits = traits-still d e goes h;
      impls = impls-still d e goes h;
      questions = each-more (QuestionFormed e) d.questions (question_of d (question_meanings d l) false c ps a bs ks) (questions-still d e goes h)
          (grown (clause_reference (question_meanings d l) a) asked, each-map (IsFormedReference (scope_of d l k)) (IsFormedReference (scope e k)) grown (map (clause_reference (question_meanings d l)) ks) others);
      later_impls = later-still d e goes h;
      core = h.core;
    }
line-formed d (refute_line c ps a bs) w f well h =
    let l = refute_line c ps a bs in
    let e = added d l in
    let k = crate_number (known d c) in
    let vs = once (variables_in (flat_map (clause_uses d) (a ∷ bs))) in
    let goes = λ (x : ℕ). item-grows d e [] [] (nothing-behind d.structs) (nothing-behind d.traits) x (seen-still d e refl x) in
    let bare = autos-bare d well.bare in
    let free = placeholder-free (scope_of d l k) in
    let scalar = refute-scalars c ps a bs w in
    let grown = reference-grows (scope_of d l k) (scope e k) (own-grows d l k refl) in
    let seen : SeenUses d l k = (faultless-uses d l f, asker-sees d l c (uses-crates d l f) (passes-tests d l f).has_seen_names) in
    let all = tail-seen d l 0 k placeholder vs placeholder-sorted free well.struct_numbers well.trait_numbers bare (crate_use c) (flat_map (clause_uses d) (a ∷ bs)) seen in
    let asked = clause-formed d l 0 k placeholder vs placeholder-sorted free well.struct_numbers well.trait_numbers bare a scalar.0 (head-of d l 0 k placeholder vs placeholder-sorted free well.struct_numbers well.trait_numbers bare (clause_uses d a) (flat_map (clause_uses d) bs) all) in
    record {
      crates = h.crates;
      structs = structs-still d e goes h;
      traits = traits-still d e goes h;
      impls = impls-still d e goes h;
      questions = each-more (QuestionFormed e) d.questions (question_of d (question_meanings d l) true c ps a bs []) (questions-still d e goes h)
          (grown (clause_reference (question_meanings d l) a) asked, tt);
      later_impls = later-still d e goes h;
      core = h.core;
    }
line-formed d (struct_line g n ps fs) w f well h =
    let l = struct_line g n ps fs in
    let e = added d l in
    let x = struct_of d (item_meanings d l 0) g n ps fs in
    let p = passes-tests d l f in
    let goes = λ (c : ℕ). item-grows d e (x ∷ []) [] refl (nothing-behind d.traits) c (seen-still d e refl c) in
    let at = pushed (λ k (y : NamedStruct). y.item.name ≡ k) d.structs (own_struct d g n ps) well.struct_numbers refl in
    record {
      crates = h.crates;
      structs = each-more (StructFormed e) d.structs x (structs-still d e goes h)
          (each-map (IsFormedField (scope_of d l (last_crate d))) (IsFormedField (scope e (last_crate d))) (field-grows (scope_of d l (last_crate d)) (scope e (last_crate d)) (own-grows d l (last_crate d) refl)) (field_trees (item_meanings d l 0) fs)
          (fields-formed d l 0 (last_crate d) param [] param-sorted (param-free (scope_of d l (last_crate d))) at well.trait_numbers (autos-bare (with_own d l) well.bare) fs (struct-scalars g n ps fs w) (faultless-uses d l f, own-seen d l f refl refl p.has_seen_names)));
      traits = traits-still d e goes h;
      impls = impls-still d e goes h;
      questions = questions-still d e goes h;
      later_impls = later-still d e goes h;
      core = h.core;
    }
line-formed d (trait_line g a n ps bs) w f well h =
    let l = trait_line g a n ps bs in
    let e = added d l in
    let x = trait_of d (item_meanings d l 1) g a n ps bs in
    let p = passes-tests d l f in
    let goes = λ (c : ℕ). item-grows d e [] (x ∷ []) (nothing-behind d.structs) refl c (seen-still d e refl c) in
    let at = pushed (λ k (y : NamedTrait). y.item.name ≡ k) d.traits (own_trait d g a n ps) well.trait_numbers refl in
    let bare = autos-bare (with_own d l) (bare-there d (own_trait d g a n ps) x refl (line-added d l w f well).bare) in
    record {
      crates = h.crates;
      structs = structs-still d e goes h;
      traits = each-more (TraitFormed e) d.traits x (traits-still d e goes h)
          (each-map (IsFormedReference (scope_of d l (last_crate d))) (IsFormedReference (scope e (last_crate d))) (reference-grows (scope_of d l (last_crate d)) (scope e (last_crate d)) (own-grows d l (last_crate d) refl))
          (map (bound_with_self (item_meanings d l 1) (leaf (param of_type 0))) bs)
          (bounds-formed d l 1 (last_crate d) param [] param-sorted (param-free (scope_of d l (last_crate d))) well.struct_numbers at bare bs (trait-scalars g a n ps bs w) (faultless-uses d l f, own-seen d l f refl refl p.has_seen_names)));
      impls = impls-still d e goes h;
      questions = questions-still d e goes h;
      later_impls = later-still d e goes h;
      core = λ k m q. still-there d.traits (x ∷ []) k m (h.core k m q);
    }
line-formed d (impl_line ps k ks) w f well h = impl-added d x h d.in_section formed
  where
    l : Line
    l = impl_line ps k ks

    x : NamedImpl
    x = impl_of d (item_meanings d l 0) ps k ks

    home : ℕ
    home = impl_owner d

    bare : AutosAreBare d
    bare = autos-bare d well.bare

    free : (s : Sort) (i : ℕ) (z : Trees) → TextNode (scope_of d l home) (param s i) z
    free = param-free (scope_of d l home)

    seen : SeenUses d l home
    seen = (faultless-uses d l f, (passes-tests d l f).has_seen_names)

    scalar : ScalarClause k × ScalarClauses ks
    scalar = impl-scalars ps k ks w

    formed : IsFormedReference (scope_of d l home) x.item.header × Each (IsFormedReference (scope_of d l home)) x.item.clauses
    formed =
        let header = head-of d l 0 home param [] param-sorted free well.struct_numbers well.trait_numbers bare (header_uses d k) (flat_map (clause_uses d) ks) seen in
        let all = rest-of d l 0 home param [] param-sorted free well.struct_numbers well.trait_numbers bare (header_uses d k) (flat_map (clause_uses d) ks) seen in (
          header-formed d l 0 home param [] param-sorted free well.struct_numbers well.trait_numbers bare k scalar.0 header,
          clauses-formed d l 0 home param [] param-sorted free well.struct_numbers well.trait_numbers bare ks scalar.1 all,
        )
line-formed d (later_line n) w f well h =
    let e = added d (later_line n) in
    let goes = λ (x : ℕ). item-grows d e [] [] (nothing-behind d.structs) (nothing-behind d.traits) x (seen-still d e refl x) in
    record { crates = h.crates; structs = structs-still d e goes h; traits = traits-still d e goes h; impls = impls-still d e goes h; questions = questions-still d e goes h; later_impls = later-still d e goes h; core = h.core }
line-formed d (supers_line n) w f well h =
    let e = added d (supers_line n) in
    let goes = λ (x : ℕ). item-grows d e [] [] (nothing-behind d.structs) (nothing-behind d.traits) x (seen-still d e refl x) in
    record { crates = h.crates; structs = structs-still d e goes h; traits = traits-still d e goes h; impls = impls-still d e goes h; questions = questions-still d e goes h; later_impls = later-still d e goes h; core = h.core }

-- ---- `core`
abbrev pub core_trait : ℕ → NamedTrait
core_trait k = option_map_or (λ t. t) (slice_get nothing_declared.traits k) (record { text = []; kinds = []; item = record { name = 0; home = 0; is_fundamental = false; is_auto = false; bounds = [] } })

abbrev core_box : NamedStruct
core_box = option_map_or (λ s. s) (slice_get nothing_declared.structs 0) (record { text = []; kinds = []; item = record { name = 0; home = 0; is_fundamental = false; fields = [] } })

core-crates : (k : ℕ) (x : NamedCrate) → slice_get nothing_declared.crates k ≡ Some x → IsCrate k x
core-crates zero x e = let s = same_Some _ x e in (ap (λ (z : NamedCrate). z.item.name) (sym s), λ u i. absurd (in-nothing u (subst (λ (z : NamedCrate). In u z.item.uses) (sym s) i)))
core-crates (suc k) x e = absurd cc

pub core-formed : Formed nothing_declared
core-formed = record {
  crates = core-crates;
  structs = ((record { nodes = (refl, (tt, tt, tt), tt); sort = refl }, tt), (tt, tt));
  traits = (tt, ((record { nodes = (tt, tt, tt); trait = (core_trait 0, refl, refl, refl) }, tt), ((record { nodes = (tt, tt, tt); trait = (core_trait 1, refl, refl, refl) }, tt), (tt, (tt, (tt, ((record { nodes = (tt, tt, (tt, tt, tt)); trait = (core_trait 5, refl, refl, refl) }, tt), ((record { nodes = (tt, tt, (tt, tt, tt)); trait = (core_trait 6, refl, refl, refl) }, tt), (tt, tt)))))))));
  impls = ((record { nodes = (tt, tt, tt); trait = (core_trait 1, refl, refl, refl) }, tt), ((record { nodes = (tt, tt, tt); trait = (core_trait 1, refl, refl, refl) }, tt), ((record { nodes = (tt, tt, tt); trait = (core_trait 1, refl, refl, refl) }, tt), ((record { nodes = (tt, tt, tt); trait = (core_trait 1, refl, refl, refl) }, tt), ((record { nodes = (tt, tt, tt); trait = (core_trait 1, refl, refl, refl) }, tt), ((record { nodes = (tt, tt, tt); trait = (core_trait 1, refl, refl, refl) }, tt), ((record { nodes = (tt, tt, tt); trait = (core_trait 1, refl, refl, refl) }, tt), ((record { nodes = (tt, tt, tt); trait = (core_trait 1, refl, refl, refl) }, tt), ((record { nodes = (tt, tt, tt); trait = (core_trait 1, refl, refl, refl) }, tt), ((record { nodes = (tt, tt, tt); trait = (core_trait 1, refl, refl, refl) }, tt), ((record { nodes = (tt, tt, tt); trait = (core_trait 1, refl, refl, refl) }, tt), ((record { nodes = (tt, tt, tt); trait = (core_trait 1, refl, refl, refl) }, tt), ((record { nodes = (tt, tt, tt); trait = (core_trait 1, refl, refl, refl) }, tt), ((record { nodes = (tt, tt, tt); trait = (core_trait 1, refl, refl, refl) }, tt), ((record { nodes = (tt, tt, tt); trait = (core_trait 1, refl, refl, refl) }, tt), ((record { nodes = (refl, (tt, tt, (tt, tt, tt)), tt); trait = (core_trait 1, refl, refl, refl) }, tt), ((record { nodes = (refl, (tt, tt, tt), tt); trait = (core_trait 1, refl, refl, refl) }, tt), ((record { nodes = (refl, (tt, tt, tt), tt); trait = (core_trait 1, refl, refl, refl) }, tt), ((record { nodes = (refl, (tt, tt, (tt, tt, tt)), tt); trait = (core_trait 1, refl, refl, refl) }, (record { nodes = (tt, tt, tt); trait = (core_trait 1, refl, refl, refl) }, tt)), ((record { nodes = ((core_box, refl, refl, refl), (tt, tt, tt), tt); trait = (core_trait 1, refl, refl, refl) }, (record { nodes = (tt, tt, tt); trait = (core_trait 1, refl, refl, refl) }, tt)), ((record { nodes = (tt, tt, tt); trait = (core_trait 2, refl, refl, refl) }, tt), ((record { nodes = (tt, tt, tt); trait = (core_trait 2, refl, refl, refl) }, tt), ((record { nodes = (tt, tt, tt); trait = (core_trait 2, refl, refl, refl) }, tt), ((record { nodes = (tt, tt, tt); trait = (core_trait 2, refl, refl, refl) }, tt), ((record { nodes = (tt, tt, tt); trait = (core_trait 2, refl, refl, refl) }, tt), ((record { nodes = (tt, tt, tt); trait = (core_trait 2, refl, refl, refl) }, tt), ((record { nodes = (tt, tt, tt); trait = (core_trait 2, refl, refl, refl) }, tt), ((record { nodes = (tt, tt, tt); trait = (core_trait 2, refl, refl, refl) }, tt), ((record { nodes = (tt, tt, tt); trait = (core_trait 2, refl, refl, refl) }, tt), ((record { nodes = (tt, tt, tt); trait = (core_trait 2, refl, refl, refl) }, tt), ((record { nodes = (tt, tt, tt); trait = (core_trait 2, refl, refl, refl) }, tt), ((record { nodes = (tt, tt, tt); trait = (core_trait 2, refl, refl, refl) }, tt), ((record { nodes = (tt, tt, tt); trait = (core_trait 2, refl, refl, refl) }, tt), ((record { nodes = (tt, tt, tt); trait = (core_trait 2, refl, refl, refl) }, tt), ((record { nodes = (tt, tt, tt); trait = (core_trait 2, refl, refl, refl) }, tt), ((record { nodes = (refl, (tt, tt, (tt, tt, tt)), tt); trait = (core_trait 2, refl, refl, refl) }, tt), ((record { nodes = (refl, (tt, tt, tt), tt); trait = (core_trait 2, refl, refl, refl) }, tt), ((record { nodes = (refl, (tt, tt, tt), tt); trait = (core_trait 2, refl, refl, refl) }, tt), ((record { nodes = (refl, (tt, tt, (tt, tt, tt)), tt); trait = (core_trait 2, refl, refl, refl) }, (record { nodes = (tt, tt, tt); trait = (core_trait 2, refl, refl, refl) }, tt)), tt)))))))))))))))))))))))))))))))))))))));
  questions = tt;
  later_impls = tt;
  core = λ k n e. e;
}

-- ---- texts
pub texts-are-formed : (bytes : List ℕ) (d : Declarations) → TextGives bytes (Ok d) → Well d × Formed d
texts-are-formed bytes d t =
    text-keeps (λ e. Well e × Formed e) (λ e l w f h. (line-added e l w f h.0, line-formed e l w f h.0 h.1)) (core-well, core-formed) bytes d t
