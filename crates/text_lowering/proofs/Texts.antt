-- What a text without a fault declares is declared well.
use Rattle.std.proofs.Common.{◌≡◌, ℕ, zero, suc, ◌+◌, ◌-◌, Bool, true, false, ◌&&◌, ◌||◌, List, [], ◌∷◌, ◌++◌, length, map, Option, Some, None, Ok, refl, sym, ap, ◌∙◌, subst, arith}
use Rattle.std.proofs.lemmas.Bool.{ne_eqb}
use Rattle.std.proofs.lemmas.List.Folds.{list_all-append}
use Rattle.std.proofs.lemmas.List.{map_push}
use Rattle.std.proofs.lemmas.Option.{same_Some}
use Rattle.std.specs.Prelude.{not, if◌then◌else◌, ◌==◌, slice_get, find}
use Rattle.std.specs.List.{list_all}
use Rattle.std.specs.Option.{option_map, option_map_or, option_or}
use Rattle.std.specs.Str.{bytes_eq}
use Rattle.type_terms.specs.Promised.Label.{Sort}
use Rattle.text_language.specs.Promised.Syntax.{Params, Bound, Line, crate_line, struct_line, trait_line, impl_line, prove_line, refute_line, later_line, supers_line}
use Rattle.text_language.specs.Promised.Declarations.{Declarations, NamedCrate, NamedStruct, NamedTrait, NamedImpl, LaterImpl, Known, a_crate, a_struct, a_trait, kinds_of}
use Rattle.text_language.specs.Declarations.{nothing_declared}
use Rattle.text_language.specs.Uses.{uses, params_of}
use Rattle.text_language.specs.Faults.{fault_of, takes_names, is_loaded_auto}
use Rattle.text_language.specs.Promised.Faults.{with_own, repeats}
use Rattle.text_language.specs.Adding.{added, with_impl, struct_of, trait_of, impl_of, item_meanings}
use Rattle.text_language.specs.Syntax.{spelling}
use Rattle.text_language.specs.Text.{TextGives}
use Rattle.declarations.specs.Promised.Elaboration.{Each}
use Rattle.text_lines.proofs.NoFault.{passes-tests}
use Rattle.text_lines.proofs.FittingUses.{faultless-uses}
use Rattle.text_lowering.proofs.Tests.{is_good_struct, is_good_trait, is_good_impl}
use Rattle.text_lowering.proofs.Trees.{and-left, and-right, or-left, or-right}
use Rattle.text_lowering.proofs.ScalarTokens.{AllFine, struct-scalars, trait-scalars, impl-scalars}
use Rattle.text_lowering.proofs.Standing.{AutosAreBare}
use Rattle.text_lowering.proofs.Applied.{BoundsFit, each-more, still-fit, bounds-still-fit, bounds-fit}
use Rattle.text_lowering.proofs.EachLine.{text-keeps}
use Rattle.text_lowering.proofs.DeclaredItems.{TraitsNumbered, all-fit, good-struct, good-trait, good-impl}

-- ---- what is kept from line to line
abbrev pub is_nil : List Sort → Bool
is_nil [] = true
is_nil (s ∷ ss) = false

-- an auto trait has no parameters
abbrev pub is_bare : NamedTrait → Bool
is_bare t = not t.item.is_auto || is_nil t.kinds

pub record Well (d : Declarations) : Type 0 where
  pub structs : list_all is_good_struct d.structs ≡ true
  pub traits : list_all is_good_trait d.traits ≡ true
  pub impls : list_all is_good_impl d.impls ≡ true
  pub later_impls : list_all is_good_impl (map (λ i. i.added) d.later_impls) ≡ true
  pub struct_numbers : (k : ℕ) (x : NamedStruct) → slice_get d.structs k ≡ Some x → x.item.name ≡ k
  pub trait_numbers : TraitsNumbered d
  pub bare : list_all is_bare d.traits ≡ true
  pub bounds : Each (BoundsFit d.traits) d.traits

-- ---- lists
one-more : {A : Type 0} (p : A → Bool) (xs : List A) (x : A) → list_all p xs ≡ true → p x ≡ true → list_all p (xs ++ x ∷ []) ≡ true
one-more p xs x h g = list_all-append p xs (x ∷ []) ∙ by (list_all p xs) (p x) h g
  where
    by : (a b : Bool) → a ≡ true → b ≡ true → a && (b && true) ≡ true
    by true true e f = refl
    by true false e f = absurd cc
    by false b e f = absurd cc

at-place : {A : Type 0} (number : A → ℕ) (xs : List A) (x : A) → ((k : ℕ) (y : A) → slice_get xs k ≡ Some y → number y ≡ k) → number x ≡ length xs → (k : ℕ) (y : A) → slice_get (xs ++ x ∷ []) k ≡ Some y → number y ≡ k
at-place number xs x h e k y g = by xs 0 (λ j z q. h j z q ∙ plus-zero j) (e ∙ plus-zero (length xs)) k g ∙ sym (plus-zero k)
  where
    plus-zero : (n : ℕ) → n ≡ 0 + n
    plus-zero n = omega arith

    more : (a i : ℕ) → a + suc i ≡ suc a + i
    more a i = omega arith

    by : (zs : List _) (b : ℕ) → ((j : ℕ) (z : _) → slice_get zs j ≡ Some z → number z ≡ b + j) → number x ≡ b + length zs → (j : ℕ) → slice_get (zs ++ x ∷ []) j ≡ Some y → number y ≡ b + j
    by [] b f n zero q = ap number (sym (same_Some x y q)) ∙ n
    by [] b f n (suc j) q = absurd cc
    by (z ∷ zs) b f n zero q = f zero y q
    by (z ∷ zs) b f n (suc j) q = by zs (suc b) (λ i w r. f (suc i) w r ∙ more b i) (n ∙ more b (length zs)) j q ∙ sym (more b j)

-- ---- auto traits
found-passes : {A : Type 0} (p f : A → Bool) (xs : List A) (x : A) → list_all p xs ≡ true → find f xs ≡ Some x → p x ≡ true
found-passes p f [] x h e = absurd cc
found-passes p f (y ∷ ys) x h e = by (f y) e (λ g. found-passes p f ys x (and-right (p y) _ h) g)
  where
    by : (b : Bool) → (if b then Some y else find f ys) ≡ Some x → (find f ys ≡ Some x → p x ≡ true) → p x ≡ true
    by true g r = subst (λ z. p z ≡ true) (same_Some y x g) (and-left (p y) _ h)
    by false g r = r g

abbrev kinds-in : Known → List Sort
kinds-in (a_trait i j a xs) = xs
kinds-in (a_crate i) = []
kinds-in (a_struct i j xs) = []

abbrev auto-in : Known → Bool
auto-in (a_trait i j a xs) = a
auto-in (a_crate i) = false
auto-in (a_struct i j xs) = false

pub autos-bare : (d : Declarations) → list_all is_bare d.traits ≡ true → AutosAreBare d
autos-bare d h n k home ks e = by (find (λ (c : NamedCrate). bytes_eq c.text n) d.crates) (find (λ (x : NamedStruct). bytes_eq x.text n) d.structs) (find (λ (t : NamedTrait). bytes_eq t.text n) d.traits) refl e
  where
    nil : (a : Bool) (xs : List Sort) → not a || is_nil xs ≡ true → a ≡ true → xs ≡ []
    nil true [] g q = refl
    nil true (s ∷ xs) g q = absurd cc
    nil false xs g q = absurd cc

    by : (c : Option NamedCrate) (s : Option NamedStruct) (t : Option NamedTrait) → find (λ (x : NamedTrait). bytes_eq x.text n) d.traits ≡ t
        → option_or (option_map (λ (x : NamedCrate). a_crate x.item.name) c) (option_or (option_map (λ (x : NamedStruct). a_struct x.item.name x.item.home x.kinds) s) (option_map (λ (x : NamedTrait). a_trait x.item.name x.item.home x.item.is_auto x.kinds) t))
        ≡ Some (a_trait k home true ks) → ks ≡ []
    by (Some c) s t f g = absurd cc
    by None (Some s) t f g = absurd cc
    by None None None f g = absurd cc
    by None None (Some t) f g =
        let q = same_Some (a_trait t.item.name t.item.home t.item.is_auto t.kinds) (a_trait k home true ks) g in
        sym (ap kinds-in q) ∙ nil t.item.is_auto t.kinds (found-passes is_bare (λ (x : NamedTrait). bytes_eq x.text n) d.traits t h f) (ap auto-in q)

-- ---- lines
-- no parameter's name is repeated
no-repeats : (d : Declarations) (l : Line) → takes_names d l ≡ false → repeats ((params_of l).types ++ (params_of l).consts) ≡ false
no-repeats d l h = or-left _ _ (or-right _ _ (or-right _ _ (or-left _ _ (or-right _ _ h))))

bare-auto : (a : Bool) (f : Bool) (n : List ℕ) (ps : Params) (bs : List Bound) → is_loaded_auto (trait_line f a n ps bs) ≡ false → not a || is_nil (kinds_of ps) ≡ true
bare-auto false f n ps bs h = refl
bare-auto true f n ps bs h = by (kinds_of ps) h
  where
    clash : (x y : Bool) → x ≡ false → not (x && y) ≡ false → {A : Type 0} → A
    clash false y e q = absurd cc
    clash true y e q = absurd cc

    by : (ks : List Sort) → not ((length ks == 0) && (length bs == 0)) ≡ false → is_nil ks ≡ true
    by [] g = refl
    by (k ∷ ks) g = clash (length (k ∷ ks) == 0) (length bs == 0) (ne_eqb (suc (length ks)) 0 (λ e. omega (arith, e))) g

-- an impl of a section, or of the last crate
impl-well : (d : Declarations) (x : NamedImpl) → is_good_impl x ≡ true → Well d → Well (with_impl d x)
impl-well d x g h = by d.in_section
  where
    by : (b : Bool) → Well (if b then record d { later_impls = d.later_impls ++ record { section = length d.sections - 1; added = x } ∷ [] } else record d { impls = d.impls ++ x ∷ [] })
    by true = record {
      structs = h.structs;
      traits = h.traits;
      impls = h.impls;
      later_impls =
          ap (list_all is_good_impl) (map_push (λ (i : LaterImpl). i.added) d.later_impls (record { section = length d.sections - 1; added = x }))
          ∙ one-more is_good_impl (map (λ i. i.added) d.later_impls) x h.later_impls g;
      struct_numbers = h.struct_numbers;
      trait_numbers = h.trait_numbers;
      bare = h.bare;
      bounds = h.bounds;
    }
    by false = record {
      structs = h.structs;
      traits = h.traits;
      impls = one-more is_good_impl d.impls x h.impls g;
      later_impls = h.later_impls;
      struct_numbers = h.struct_numbers;
      trait_numbers = h.trait_numbers;
      bare = h.bare;
      bounds = h.bounds;
    }

pub line-added : (d : Declarations) (l : Line) → AllFine (spelling l) → fault_of d l ≡ None → Well d → Well (added d l)
line-added d (crate_line n us) w f h =
    record { structs = h.structs; traits = h.traits; impls = h.impls; later_impls = h.later_impls; struct_numbers = h.struct_numbers; trait_numbers = h.trait_numbers; bare = h.bare; bounds = h.bounds }
line-added d (prove_line c ps a bs ks) w f h =
    record { structs = h.structs; traits = h.traits; impls = h.impls; later_impls = h.later_impls; struct_numbers = h.struct_numbers; trait_numbers = h.trait_numbers; bare = h.bare; bounds = h.bounds }
line-added d (refute_line c ps a bs) w f h =
    record { structs = h.structs; traits = h.traits; impls = h.impls; later_impls = h.later_impls; struct_numbers = h.struct_numbers; trait_numbers = h.trait_numbers; bare = h.bare; bounds = h.bounds }
line-added d (struct_line g n ps fs) w f h =
    let l = struct_line g n ps fs in
    let p = passes-tests d l f in
    let x = struct_of d (item_meanings d l 0) g n ps fs in
    let fit = all-fit d l (uses (with_own d l) l) (faultless-uses d l f) (or-left _ _ p.has_asked_variables) in
    record {
      structs = one-more is_good_struct d.structs x h.structs (good-struct d g n ps fs (struct-scalars g n ps fs w) fit);
      traits = h.traits;
      impls = h.impls;
      later_impls = h.later_impls;
      struct_numbers = at-place (λ (y : NamedStruct). y.item.name) d.structs x h.struct_numbers refl;
      trait_numbers = h.trait_numbers;
      bare = h.bare;
      bounds = h.bounds;
    }
line-added d (trait_line g a n ps bs) w f h =
    let l = trait_line g a n ps bs in
    let p = passes-tests d l f in
    let x = trait_of d (item_meanings d l 1) g a n ps bs in
    let fit = all-fit d l (uses (with_own d l) l) (faultless-uses d l f) (or-left _ _ p.has_asked_variables) in
    record {
      structs = h.structs;
      traits = one-more is_good_trait d.traits x h.traits (good-trait d g a n ps bs h.trait_numbers (trait-scalars g a n ps bs w) fit p.has_other_bounds);
      impls = h.impls;
      later_impls = h.later_impls;
      struct_numbers = h.struct_numbers;
      trait_numbers = at-place (λ (y : NamedTrait). y.item.name) d.traits x h.trait_numbers refl;
      bare = one-more is_bare d.traits x h.bare (bare-auto a g n ps bs p.is_bare_auto);
      bounds = each-more (BoundsFit (d.traits ++ x ∷ [])) d.traits x (bounds-still-fit d.traits (x ∷ []) d.traits h.bounds)
          (still-fit d.traits (x ∷ []) x.item.bounds (bounds-fit d g a n ps bs bs h.trait_numbers (trait-scalars g a n ps bs w) fit p.has_other_bounds));
    }
line-added d (impl_line ps k ks) w f h =
    let l = impl_line ps k ks in
    let p = passes-tests d l f in
    let x = impl_of d (item_meanings d l 0) ps k ks in
    let fit = all-fit d l (uses (with_own d l) l) (faultless-uses d l f) (or-left _ _ p.has_asked_variables) in
    impl-well d x (good-impl d ps k ks (autos-bare d h.bare) (impl-scalars ps k ks w) fit (no-repeats d l p.has_free_names) p.has_bound_params) h
line-added d (later_line n) w f h =
    record { structs = h.structs; traits = h.traits; impls = h.impls; later_impls = h.later_impls; struct_numbers = h.struct_numbers; trait_numbers = h.trait_numbers; bare = h.bare; bounds = h.bounds }
line-added d (supers_line n) w f h =
    record { structs = h.structs; traits = h.traits; impls = h.impls; later_impls = h.later_impls; struct_numbers = h.struct_numbers; trait_numbers = h.trait_numbers; bare = h.bare; bounds = h.bounds }

-- ---- texts
abbrev pub AtPlaces : {A : Type 0} → (A → ℕ) → ℕ → List A → Type 0
AtPlaces number b [] = Unit {0}
AtPlaces number b (x ∷ xs) = (number x ≡ b) × AtPlaces number (suc b) xs

places : {A : Type 0} (number : A → ℕ) (xs : List A) → AtPlaces number 0 xs → (k : ℕ) (x : A) → slice_get xs k ≡ Some x → number x ≡ k
places {A = A} number xs h k x e = by xs 0 h k e ∙ plus-zero k
  where
    plus-zero : (n : ℕ) → 0 + n ≡ n
    plus-zero n = omega arith

    more : (a i : ℕ) → suc a + i ≡ a + suc i
    more a i = omega arith

    by : (zs : List A) (b : ℕ) → AtPlaces number b zs → (j : ℕ) → slice_get zs j ≡ Some x → number x ≡ b + j
    by [] b f j q = absurd cc
    by (z ∷ zs) b f zero q = ap number (sym (same_Some z x q)) ∙ f.0 ∙ sym (no-more b)
      where
        no-more : (n : ℕ) → n + 0 ≡ n
        no-more n = omega arith
    by (z ∷ zs) b f (suc j) q = by zs (suc b) f.1 j q ∙ more b j

abbrev core_trait_named : ℕ → NamedTrait
core_trait_named k = option_map_or (λ t. t) (slice_get nothing_declared.traits k) (record { text = []; kinds = []; item = record { name = 0; home = 0; is_fundamental = false; is_auto = false; bounds = [] } })

pub core-well : Well nothing_declared
core-well =
    record {
      structs = refl;
      traits = refl;
      impls = refl;
      later_impls = refl;
      struct_numbers = places (λ (y : NamedStruct). y.item.name) nothing_declared.structs (refl, (refl, tt));
      trait_numbers = places (λ (y : NamedTrait). y.item.name) nothing_declared.traits (refl, (refl, (refl, (refl, (refl, (refl, (refl, (refl, (refl, tt)))))))));
      bare = refl;
      bounds = (tt, (((core_trait_named 0, refl, refl), tt), (((core_trait_named 1, refl, refl), tt), (tt, (tt, (tt, (((core_trait_named 5, refl, refl), tt), (((core_trait_named 6, refl, refl), tt), (tt, tt)))))))));
    }

pub texts-are-well : (bytes : List ℕ) (d : Declarations) → TextGives bytes (Ok d) → Well d
texts-are-well bytes d t = text-keeps Well line-added core-well bytes d t
