-- The item of a line without a fault is declared well.
use Rattle.std.proofs.Common.{◌≡◌, ℕ, zero, suc, ◌+◌, ◌<◌, Bool, true, false, ◌&&◌, ◌||◌, List, [], ◌∷◌, ◌++◌, map, length, length-append, Option, Some, None, refl, sym, ap, ◌∙◌, subst, arith, inl, inr, ◌⊎◌}
use Rattle.std.proofs.lemmas.Bool.{eq-eqb}
use Rattle.std.proofs.lemmas.Bool.Decides.{Decides-ltb}
use Rattle.std.proofs.lemmas.List.{map-append}
use Rattle.std.proofs.lemmas.Option.{same_Some, slice_get_within}
use Rattle.std.specs.Prelude.{not, if◌then◌else◌, ◌==◌, slice_get, nat_lt, find}
use Rattle.std.specs.List.{list_any, list_all, flat_map}
use Rattle.std.specs.Option.{option_map, option_map_or, option_or}
use Rattle.std.specs.Str.{bytes_eq}
use Rattle.type_terms.specs.Promised.Label.{Sort, of_lifetime, of_type, of_const, param}
use Rattle.type_terms.specs.Promised.Trees.{Trees, leaf, some_node}
use Rattle.type_terms.specs.Promised.Worlds.{Reference}
use Rattle.text_language.specs.Promised.Syntax.{Types, Params, Bound, Clause, Line, struct_line, trait_line, impl_line}
use Rattle.text_language.specs.Promised.Declarations.{Declarations, NamedCrate, NamedStruct, NamedTrait, Known, a_crate, a_struct, a_trait, known, kinds_of}
use Rattle.text_language.specs.Declarations.{sorted_names, with_sort}
use Rattle.text_language.specs.Uses.{Use, variable_use, kinds_of_trait, args_count, type_uses, types_uses, bound_uses, clause_uses, header_uses}
use Rattle.text_language.specs.Promised.Faults.{with_own, own_trait, is_among, repeats}
use Rattle.text_language.specs.Faults.{is_any, variables_in, has_free_param, bounds_use_own, is_use_of, is_name_use, is_trait_of}
use Rattle.text_language.specs.Lowering.{trait_number, type_tree, args_trees, bound_with_self, clause_reference}
use Rattle.text_language.specs.Adding.{item_meanings, struct_of, trait_of, impl_of}
use Rattle.text_lines.specs.Faultless.{UsesFit}
use Rattle.text_lowering.specs.Promised.SeenWorlds.{all_kept, none_kept, stands_in}
use Rattle.candidate_model.specs.Candidates.{is_this_param as is_label_of}
use Rattle.text_lowering.proofs.Tests.{is_good, is_good_struct, is_good_trait, is_good_impl, all_stand}
use Rattle.text_lowering.proofs.Trees.{good-append, good-param, and, or-left, or-right}
use Rattle.text_lowering.proofs.Types.{AllFit, first-fit, rest-fit, good-type, good-args}
use Rattle.text_lowering.proofs.Scalars.{ScalarTypes}
use Rattle.text_lowering.proofs.ScalarTokens.{ScalarBounds, ScalarClause, ScalarClauses}
use Rattle.text_lowering.proofs.Standing.{AutosAreBare, is_use_as, this, that, any-split, some-append, type-stands, args-stand, number_as, IsNamed}
use Rattle.text_lowering.proofs.Params.{turned, params-stand, types-used, consts-used, among-second}
use Rattle.text_lowering.proofs.Lines.{kinds-numbered, trait-numbered, good-test, fields-good}
use Rattle.type_terms.proofs.ListBasics.{same-name as same-names}
use Rattle.text_language.proofs.Basics.{among-first}

-- ---- all uses fit, and none is a variable
pub all-fit : (d : Declarations) (l : Line) (us : List Use) → UsesFit d l us → is_any (variables_in us) ≡ false → AllFit d l us
all-fit d l [] f h = tt
all-fit d l (variable_use p n ∷ us) f h = absurd cc
all-fit d l (u ∷ us) f h = ((f.0, tt), all-fit d l us f.1 h)

-- ---- a struct
pub good-struct : (d : Declarations) (f : Bool) (n : List ℕ) (ps : Params) (fs : Types) → let l = struct_line f n ps fs in
    ScalarTypes fs → AllFit d l (types_uses (with_own d l) [] fs) → is_good_struct (struct_of d (item_meanings d l 0) f n ps fs) ≡ true
good-struct d f n ps fs s h = fields-good d (struct_line f n ps fs) fs s h

-- ---- a trait
-- traits are numbered by their places
abbrev pub TraitsNumbered : Declarations → Type 0
TraitsNumbered d = (k : ℕ) (x : NamedTrait) → slice_get d.traits k ≡ Some x → x.item.name ≡ k

found-at : {A : Type 0} (f : A → Bool) (xs : List A) (x : A) → find f xs ≡ Some x → (i : ℕ) × (slice_get xs i ≡ Some x) × (i < length xs) × (f x ≡ true)
found-at f [] x h = absurd cc
found-at f (y ∷ ys) x h = by (f y) refl h (found-at f ys x)
  where
    by : (b : Bool) → f y ≡ b → (if b then Some y else find f ys) ≡ Some x → (find f ys ≡ Some x → (i : ℕ) × (slice_get ys i ≡ Some x) × (i < length ys) × (f x ≡ true))
        → (i : ℕ) × (slice_get (y ∷ ys) i ≡ Some x) × (i < suc (length ys)) × (f x ≡ true)
    by true e g r = (zero, g, omega arith, subst (λ z. f z ≡ true) (same_Some y x g) e)
    by false e g r = (let q = r g in (suc q.0, q.1, omega (arith, q.2), q.3))

-- the trait that a name stands for beside the line's own
abbrev pub TraitAt : Declarations → Option Known → Type 0
TraitAt d o = (t : NamedTrait) × (slice_get d.traits (trait_number o) ≡ Some t) × (kinds_of_trait o ≡ t.kinds)

pub known-at : (d : Declarations) (own : NamedTrait) (m : List ℕ) (k : ℕ) → TraitsNumbered d → bytes_eq own.text m ≡ false
    → option_map_or (is_trait_of k) (known (record d { traits = d.traits ++ own ∷ [] }) m) false ≡ true → TraitAt d (known (record d { traits = d.traits ++ own ∷ [] }) m)
known-at d own m k numbered apart h = by (find (λ c. bytes_eq c.text m) d.crates) (find (λ x. bytes_eq x.text m) d.structs) (find (λ t. bytes_eq t.text m) (d.traits ++ own ∷ [])) refl h
  where
    place-below : (i : ℕ) (x : NamedTrait) (xs : List NamedTrait) → slice_get (xs ++ own ∷ []) i ≡ Some x → i < suc (length xs) → (slice_get xs i ≡ Some x) ⊎ (x ≡ own)
    place-below zero x [] e h = inr (sym (same_Some own x e))
    place-below (suc i) x [] e h = absurd (omega (arith, h))
    place-below zero x (y ∷ ys) e h = inl e
    place-below (suc i) x (y ∷ ys) e h = elim (place-below i x ys e (omega (arith, h))) [ inl q ↦ inl q | inr q ↦ inr q ]

    not-both : (b : Bool) → b ≡ true → b ≡ false → ⊥
    not-both true p q = absurd cc
    not-both false p q = absurd cc

    by : (c : Option NamedCrate) (s : Option NamedStruct) (t : Option NamedTrait) → find (λ (x : NamedTrait). bytes_eq x.text m) (d.traits ++ own ∷ []) ≡ t
        → option_map_or (is_trait_of k) (option_or (option_map (λ (x : NamedCrate). a_crate x.item.name) c) (option_or (option_map (λ (x : NamedStruct). a_struct x.item.name x.item.home x.kinds) s) (option_map (λ (x : NamedTrait). a_trait x.item.name x.item.home x.item.is_auto x.kinds) t))) false ≡ true
        → TraitAt d (option_or (option_map (λ (x : NamedCrate). a_crate x.item.name) c) (option_or (option_map (λ (x : NamedStruct). a_struct x.item.name x.item.home x.kinds) s) (option_map (λ (x : NamedTrait). a_trait x.item.name x.item.home x.item.is_auto x.kinds) t)))
    by (Some c) s t e g = absurd cc
    by None (Some s) t e g = absurd cc
    by None None None e g = absurd cc
    by None None (Some t) e g =
        let q = found-at (λ (x : NamedTrait). bytes_eq x.text m) (d.traits ++ own ∷ []) t e in
        elim (place-below q.0 t d.traits q.1 (subst (λ n. q.0 < n) (length-append d.traits (own ∷ []) ∙ more (length d.traits)) q.2)) [
          | inl w ↦ (t, subst (λ n. slice_get d.traits n ≡ Some t) (sym (numbered q.0 t w)) w, refl)
          | inr w ↦ absurd (not-both (bytes_eq own.text m) (subst (λ (x : NamedTrait). bytes_eq x.text m ≡ true) w q.3) apart)
        ]
      where
        more : (n : ℕ) → n + 1 ≡ suc n
        more n = omega arith

known-below : (d : Declarations) (own : NamedTrait) (m : List ℕ) (k : ℕ) → TraitsNumbered d → bytes_eq own.text m ≡ false
    → option_map_or (is_trait_of k) (known (record d { traits = d.traits ++ own ∷ [] }) m) false ≡ true → trait_number (known (record d { traits = d.traits ++ own ∷ [] }) m) < length d.traits
known-below d own m k numbered apart h = let t = known-at d own m k numbered apart h in slice_get_within d.traits (trait_number (known (record d { traits = d.traits ++ own ∷ [] }) m)) t.0 t.1

bounds-good : (d : Declarations) (f a : Bool) (n : List ℕ) (ps : Params) (all bs : List Bound) → let l = trait_line f a n ps all in TraitsNumbered d → ScalarBounds bs → AllFit d l (flat_map (bound_uses (with_own d l)) bs)
    → list_any (is_use_of n) (flat_map (bound_uses d) bs) ≡ false
    → list_all (λ (b : Reference). is_good none_kept (of_type ∷ kinds_of ps) b.args && nat_lt b.trait (length d.traits)) (map (bound_with_self (item_meanings d l 1) (leaf (param of_type 0))) bs) ≡ true
bounds-good d f a n ps all [] k s h u = refl
bounds-good d f a n ps all (b ∷ bs) k s h u =
    let l = trait_line f a n ps all in
    let one = first-fit d l (bound_uses (with_own d l) b) (flat_map (bound_uses (with_own d l)) bs) h in
    and _ _
    (and _ _
    (good-test none_kept (of_type ∷ kinds_of ps) _
    (good-append none_kept (of_type ∷ kinds_of ps) (leaf (param of_type 0)) (args_trees (item_meanings d l 1) [] (kinds_of_trait (known (with_own d l) b.trait)) b.args) (good-param none_kept (of_type ∷ kinds_of ps) of_type 0 refl)
    (good-args none_kept (of_type ∷ kinds_of ps) d l 1 (trait-numbered l) [] (kinds_of_trait (known (with_own d l) b.trait)) b.args s.0 one.1)))
    ((Decides-ltb _ _).1 (known-below d (own_trait d f a n ps) b.trait (args_count b.args) k (apart b.trait (or-left _ _ u)) one.0.0.1)))
    (bounds-good d f a n ps all bs k s.1 (rest-fit d l (bound_uses (with_own d l) b) (flat_map (bound_uses (with_own d l)) bs) h) (later (bound_uses d b) (flat_map (bound_uses d) bs) u))
  where
    apart : (m : List ℕ) → bytes_eq m n ≡ false → bytes_eq n m ≡ false
    apart m e = turned n m e

    later : (xs ys : List Use) → list_any (is_use_of n) (xs ++ ys) ≡ false → list_any (is_use_of n) ys ≡ false
    later [] ys e = e
    later (x ∷ xs) ys e = later xs ys (or-right (is_use_of n x) _ e)

pub good-trait : (d : Declarations) (f a : Bool) (n : List ℕ) (ps : Params) (bs : List Bound) → let l = trait_line f a n ps bs in TraitsNumbered d → ScalarBounds bs → AllFit d l (flat_map (bound_uses (with_own d l)) bs)
    → bounds_use_own d l ≡ false → is_good_trait (trait_of d (item_meanings d l 1) f a n ps bs) ≡ true
good-trait d f a n ps bs k s h u = bounds-good d f a n ps bs bs k s h u

-- ---- an impl
sorts-are : (ps : Params) → map (λ p. p.1) (sorted_names ps) ≡ kinds_of ps
sorts-are ps =
    map-append (λ (p : List ℕ × Sort). p.1) (with_sort of_lifetime ps.lifetimes ++ with_sort of_type ps.types) (with_sort of_const ps.consts)
    ∙ two (map-append (λ (p : List ℕ × Sort). p.1) (with_sort of_lifetime ps.lifetimes) (with_sort of_type ps.types) ∙ two (one of_lifetime ps.lifetimes) (one of_type ps.types)) (one of_const ps.consts)
  where
    one : (s : Sort) (ns : List (List ℕ)) → map (λ (p : List ℕ × Sort). p.1) (with_sort s ns) ≡ map (λ (n : List ℕ). s) ns
    one s [] = refl
    one s (n ∷ ns) = ap (λ l. s ∷ l) (one s ns)

    two : {a b c d : List Sort} → a ≡ b → c ≡ d → a ++ c ≡ b ++ d
    two p q = cc

clauses-good : (d : Declarations) (ps : Params) (h : Clause) (all ks : List Clause) (t : Trees) → let l = impl_line ps h all in ScalarClauses ks → AllFit d l (flat_map (clause_uses (with_own d l)) ks)
    → list_all (λ (c : Reference). is_good (stands_in t) (kinds_of ps) c.args) (map (clause_reference (item_meanings d l 0)) ks) ≡ true
clauses-good d ps h all [] t s f = refl
clauses-good d ps h all (k ∷ ks) t s f =
    let l = impl_line ps h all in
    let one = first-fit d l (clause_uses (with_own d l) k) (flat_map (clause_uses (with_own d l)) ks) f in
    let subject = first-fit d l (type_uses (with_own d l) [] of_type k.subject) (bound_uses (with_own d l) k.bound) one in
    let bound = rest-fit d l (type_uses (with_own d l) [] of_type k.subject) (bound_uses (with_own d l) k.bound) one in
    and _ _
    (good-test (stands_in t) (kinds_of ps) _
    (good-append (stands_in t) (kinds_of ps) (type_tree (item_meanings d l 0) [] of_type k.subject) (args_trees (item_meanings d l 0) [] (kinds_of_trait (known (with_own d l) k.bound.trait)) k.bound.args)
    (good-type (stands_in t) (kinds_of ps) d l 0 (kinds-numbered l) [] k.subject s.0.0 subject) (good-args (stands_in t) (kinds_of ps) d l 0 (kinds-numbered l) [] (kinds_of_trait (known (with_own d l) k.bound.trait)) k.bound.args s.0.1 bound.1)))
    (clauses-good d ps h all ks t s.1 (rest-fit d l (clause_uses (with_own d l) k) (flat_map (clause_uses (with_own d l)) ks) f))

module _ (d : Declarations) (ps : Params) (h : Clause) (ks : List Clause) (bare : AutosAreBare d) where
  abbrev l : Line
  l = impl_line ps h ks

  abbrev header : Trees
  header = (clause_reference (item_meanings d l 0) h).args

  -- a parameter that the header uses stands in it
  uses-stand : (p : Sort) (n : List ℕ) → IsNamed l p n → AllFit d l (header_uses d h) → list_any (is_use_as p n) (header_uses d h) ≡ true → some_node (is_label_of p (number_as l 0 p n)) header ≡ true
  uses-stand p n named f u =
      some-append (is_label_of p (number_as l 0 p n)) (type_tree (item_meanings d l 0) [] of_type h.subject) (args_trees (item_meanings d l 0) [] (kinds_of_trait (known d h.bound.trait)) h.bound.args)
      (elim (any-split (is_use_as p n) (bound_uses d h.bound) (type_uses d [] of_type h.subject) u) [
        | this g ↦ that (args-stand d l 0 bare p n (λ m e. same-names m n e) named [] (kinds_of_trait (known d h.bound.trait)) h.bound.args (first-fit d l (bound_uses d h.bound) (type_uses d [] of_type h.subject) f).1 g)
        | that g ↦ this (type-stands d l 0 bare p n (λ m e. same-names m n e) named [] h.subject (rest-fit d l (bound_uses d h.bound) (type_uses d [] of_type h.subject) f) g)
      ])

  named-use : (n : List ℕ) (ns : List (List ℕ)) → list_any (λ m. not (list_any (is_name_use m) (header_uses d h))) ns ≡ false → is_among n ns ≡ true → list_any (is_name_use n) (header_uses d h) ≡ true
  named-use n [] f g = absurd cc
  named-use n (m ∷ ms) f g = by (bytes_eq m n) refl g (named-use n ms (or-right _ _ f))
    where
      not-not : (b : Bool) → not b ≡ false → b ≡ true
      not-not true q = refl
      not-not false q = absurd cc

      by : (b : Bool) → bytes_eq m n ≡ b → b || is_among n ms ≡ true → (is_among n ms ≡ true → list_any (is_name_use n) (header_uses d h) ≡ true) → list_any (is_name_use n) (header_uses d h) ≡ true
      by true e q r = subst (λ z. list_any (is_name_use z) (header_uses d h) ≡ true) (same-names m n e) (not-not _ (or-left _ _ f))
      by false e q r = r q

  all-stand : repeats (ps.types ++ ps.consts) ≡ false → has_free_param d l ≡ false → AllFit d l (header_uses d h) → all_stand header 0 (kinds_of ps) ≡ true
  all-stand r f a =
      params-stand header ps r
      (λ n e. uses-stand of_type n e a (types-used d l r n e (header_uses d h) a (named-use n (ps.types ++ ps.consts) f (among-first n ps.types ps.consts e))))
      (λ n e. uses-stand of_const n tt a (consts-used d l r n e (header_uses d h) a (named-use n (ps.types ++ ps.consts) f (among-second n ps.types ps.consts e))))

  header-good : ScalarClause h → AllFit d l (header_uses d h) → is_good all_kept (kinds_of ps) header ≡ true
  header-good s f =
      good-test all_kept (kinds_of ps) header
      (good-append all_kept (kinds_of ps) (type_tree (item_meanings d l 0) [] of_type h.subject) (args_trees (item_meanings d l 0) [] (kinds_of_trait (known d h.bound.trait)) h.bound.args)
      (good-type all_kept (kinds_of ps) d l 0 (kinds-numbered l) [] h.subject s.0 (rest-fit d l (bound_uses d h.bound) (type_uses d [] of_type h.subject) f))
      (good-args all_kept (kinds_of ps) d l 0 (kinds-numbered l) [] (kinds_of_trait (known d h.bound.trait)) h.bound.args s.1 (first-fit d l (bound_uses d h.bound) (type_uses d [] of_type h.subject) f).1))

  pub good-impl : ScalarClause h × ScalarClauses ks → AllFit d l (header_uses d h ++ flat_map (clause_uses d) ks) → repeats (ps.types ++ ps.consts) ≡ false → has_free_param d l ≡ false
      → is_good_impl (impl_of d (item_meanings d l 0) ps h ks) ≡ true
  good-impl s f r p =
      let one = first-fit d l (header_uses d h) (flat_map (clause_uses d) ks) f in
      let more = rest-fit d l (header_uses d h) (flat_map (clause_uses d) ks) f in
      subst
      (λ z. is_good all_kept z header && ((length (kinds_of ps) == length z) && (all_stand header 0 z && list_all (λ (c : Reference). is_good (stands_in header) z c.args) (map (clause_reference (item_meanings d l 0)) ks))) ≡ true)
      (sym (sorts-are ps))
      (and _ _ (header-good s.0 one) (and _ _ (eq-eqb (length (kinds_of ps)) (length (kinds_of ps)) refl) (and _ _ (all-stand r p one) (clauses-good d ps h ks ks header s.1 more))))
