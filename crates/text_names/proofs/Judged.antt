-- What is wrong with one use.
use Rattle.std.proofs.Common.{◌≡◌, ℕ, suc, ◌+◌, Bool, true, false, List, [], ◌∷◌, ◌++◌, length, Option, Some, None, refl, sym, ap, ◌∙◌, cond, arith}
use Rattle.std.specs.Prelude.{◌==◌, ◌^◌, nat_le, ◌||◌, ◌&&◌, not, is_some, nat_lt, if◌then◌else◌}
use Rattle.std.specs.List.{list_any, position_from}
use Rattle.std.specs.Option.{option_map_or}
use Rattle.type_terms.specs.Promised.Label.{Sort}
use Rattle.std.specs.Str.{bytes_eq}
use Rattle.text_language.specs.Promised.Syntax.{Params, Line}
use Rattle.text_language.specs.Uses.{Use, crate_use, name_use, trait_use, lifetime_use, variable_use, misfit_use, items_use, number_use, binder_use, binder_uses, declared_name, params_of}
use Rattle.text_language.specs.Promised.Faults.{is_among, repeats}
use Rattle.text_language.specs.Faults.{is_taken_binder, is_unknown_use, is_hidden_use, looking_crate, is_other_sort, is_use_of, is_bad_dyn, passes_in, static_name, is_line_param, is_hidden_name, is_long, is_in_scope}
use Rattle.text_language.specs.Lowering.{place_among}
use Rattle.text_names.specs.declared.findings.Findings.{Findings}
use Rattle.text_names.specs.Machine.{Sight, seen_items, params, findings, either}
use Rattle.text_names.proofs.Uses.{findings-append}
use Rattle.text_names.specs.LookUps.{place_in, scope_place, is_own_name}
use Rattle.text_names.specs.Resolved.{static_region, region_of, param_region, bound_region, region_under}
use Rattle.type_terms.proofs.BooleanBasics.{no-more as or-false}
use Rattle.text_language.proofs.SamePrintedUnknowns.{and-true}

option-false : {A : Type 0} (o : Option A) → option_map_or (λ c. false) o false ≡ false
option-false None = refl
option-false (Some c) = refl

option-or : {A : Type 0} (o : Option A) (p : A → Bool) → option_map_or (λ c. p c || false) o false ≡ option_map_or p o false
option-or None p = refl
option-or (Some c) p = or-false (p c)

abbrev pub made : Bool → Bool → Bool → Bool → Bool → Bool → Bool → Findings
made a b c d e f g = record { takes_names = a; uses_unknown = b; uses_hidden = c; uses_other_sort = d; uses_own = e; has_bad_dyn = f; passes_limit = g }

-- the findings of one use, test by test
pub one-use : (v : Sight) (u : Use) (a b c d e f g : Bool) → a ≡ is_taken_binder v.line u → b ≡ is_unknown_use v.before v.line u → c ≡ option_map_or (λ k. is_hidden_use v.before v.line k u) (looking_crate v.before v.line) false
    → d ≡ is_other_sort v.before v.line u → e ≡ option_map_or (λ n. is_use_of n u) (declared_name v.line) false → f ≡ is_bad_dyn (seen_items v) u → g ≡ passes_in u
    → made a b c d e f g ≡ findings v (u ∷ [])
one-use v u a b c d e f g ha hb hc hd he hf hg =
    ap (λ z. made z b c d e f g) (ha ∙ sym (or-false (is_taken_binder v.line u)))
    ∙ ap (λ z. made (is_taken_binder v.line u || false) z c d e f g) (hb ∙ sym (or-false (is_unknown_use v.before v.line u)))
    ∙ ap (λ z. made (is_taken_binder v.line u || false) (is_unknown_use v.before v.line u || false) z d e f g) (hc ∙ sym (option-or (looking_crate v.before v.line) (λ k. is_hidden_use v.before v.line k u)))
    ∙ ap (λ z. made (findings v (u ∷ [])).takes_names (findings v (u ∷ [])).uses_unknown (findings v (u ∷ [])).uses_hidden z e f g) (hd ∙ sym (or-false (is_other_sort v.before v.line u)))
    ∙ ap (λ z. made (findings v (u ∷ [])).takes_names (findings v (u ∷ [])).uses_unknown (findings v (u ∷ [])).uses_hidden (findings v (u ∷ [])).uses_other_sort z f g) (he ∙ sym (option-or (declared_name v.line) (λ n. is_use_of n u)))
    ∙ ap (λ z. made (findings v (u ∷ [])).takes_names (findings v (u ∷ [])).uses_unknown (findings v (u ∷ [])).uses_hidden (findings v (u ∷ [])).uses_other_sort (findings v (u ∷ [])).uses_own z g) (hf ∙ sym (or-false (is_bad_dyn (seen_items v) u)))
    ∙ ap (λ z. made (findings v (u ∷ [])).takes_names (findings v (u ∷ [])).uses_unknown (findings v (u ∷ [])).uses_hidden (findings v (u ∷ [])).uses_other_sort (findings v (u ∷ [])).uses_own (findings v (u ∷ [])).has_bad_dyn z) (hg ∙ sym (or-false (passes_in u)))

pub no-look : (v : Sight) → false ≡ option_map_or (λ k. false) (looking_crate v.before v.line) false
no-look v = sym (option-false (looking_crate v.before v.line))

pub no-own : (v : Sight) → false ≡ option_map_or (λ n. false) (declared_name v.line) false
no-own v = sym (option-false (declared_name v.line))

pub no-uses : (v : Sight) → made false false false false false false false ≡ findings v []
no-uses v = ap (λ z. made false false z false false false false) (no-look v) ∙ ap (λ z. made false false (option_map_or (λ k. false) (looking_crate v.before v.line) false) false z false false) (no-own v)

pub one-misfit : (v : Sight) → made false false false true false false false ≡ findings v (misfit_use ∷ [])
one-misfit v = one-use v misfit_use false false false true false false false refl refl (no-look v) refl (no-own v) refl refl

-- the name of a crate
pub one_crate : (v : Sight) (n : List ℕ) (b d : Bool) → b ≡ is_unknown_use v.before v.line (crate_use n) → d ≡ is_other_sort v.before v.line (crate_use n) → made false b false d false false false ≡ findings v (crate_use n ∷ [])
one_crate v n b d hb hd = one-use v (crate_use n) false b false d false false false refl hb (no-look v) hd (no-own v) refl refl

-- ---- places
pub among-place : (k : ℕ) (n : List ℕ) (ns : List (List ℕ)) → is_some (position_from (λ m. bytes_eq m n) k ns) ≡ is_among n ns
among-place k n [] = refl
among-place k n (m ∷ ns) = by (bytes_eq m n) (among-place (k + 1) n ns)
  where
    by : (b : Bool) → is_some (position_from (λ m. bytes_eq m n) (k + 1) ns) ≡ is_among n ns → is_some (cond b (Some k) (position_from (λ m. bytes_eq m n) (k + 1) ns)) ≡ b || is_among n ns
    by true e = refl
    by false e = e

pub among-scope : (k : ℕ) (n : List ℕ) (s : List (List (List ℕ))) → is_some (scope_place k s n) ≡ list_any (is_among n) s
among-scope k n [] = refl
among-scope k n (b ∷ s) = by (place_in n b) (among-place 0 n b) (among-scope (suc k) n s)
  where
    by : (o : Option ℕ) → is_some o ≡ is_among n b → is_some (scope_place (suc k) s n) ≡ list_any (is_among n) s → is_some (option_map_or (λ i. Some (k, i)) o (scope_place (suc k) s n)) ≡ is_among n b || list_any (is_among n) s
    by None e f = f ∙ ap (λ x. x || list_any (is_among n) s) e
    by (Some i) e f = ap (λ x. x || list_any (is_among n) s) e

-- the place that is found, or the number of names where none is
pub place-found : (k : ℕ) (n : List ℕ) (ns : List (List ℕ)) → option_map_or (λ i. i) (position_from (λ m. bytes_eq m n) k ns) (k + length ns) ≡ k + place_among n ns
place-found k n [] = refl
place-found k n (m ∷ ns) = by (bytes_eq m n) (place-found (k + 1) n ns)
  where
    by : (b : Bool) → option_map_or (λ i. i) (position_from (λ m. bytes_eq m n) (k + 1) ns) (k + 1 + length ns) ≡ k + 1 + place_among n ns
        → option_map_or (λ i. i) (cond b (Some k) (position_from (λ m. bytes_eq m n) (k + 1) ns)) (k + suc (length ns)) ≡ k + (if b then 0 else suc (place_among n ns))
    by true e = let z : k ≡ k + 0 = omega arith in z
    by false e =
        let z : k + suc (length ns) ≡ k + 1 + length ns = omega arith in
        let w : k + 1 + place_among n ns ≡ k + suc (place_among n ns) = omega arith in
        ap (option_map_or (λ i. i) (position_from (λ m. bytes_eq m n) (k + 1) ns)) z ∙ e ∙ w

pub region-found : (ps : Params) (k : ℕ) (s : List (List (List ℕ))) (n : List ℕ) → region_under ps k s n ≡ option_map_or (λ x. bound_region x.0 x.1) (scope_place k s n) (param_region (place_among n ps.lifetimes))
region-found ps k [] n = refl
region-found ps k (b ∷ s) n = by (place_in n b) refl (among-place 0 n b) (place-found 0 n b) (region-found ps (suc k) s n)
  where
    by : (o : Option ℕ) → place_in n b ≡ o → is_some o ≡ is_among n b → option_map_or (λ i. i) o (0 + length b) ≡ 0 + place_among n b
        → region_under ps (suc k) s n ≡ option_map_or (λ x. bound_region x.0 x.1) (scope_place (suc k) s n) (param_region (place_among n ps.lifetimes))
        → (if is_among n b then bound_region k (place_among n b) else region_under ps (suc k) s n) ≡ option_map_or (λ x. bound_region x.0 x.1) (option_map_or (λ i. Some (k, i)) o (scope_place (suc k) s n)) (param_region (place_among n ps.lifetimes))
    by None h e f g = ap (λ z. if z then bound_region k (place_among n b) else region_under ps (suc k) s n) (sym e) ∙ g
    by (Some i) h e f g = let z : place_among n b ≡ i = omega arith in ap (λ z. if z then bound_region k (place_among n b) else region_under ps (suc k) s n) (sym e) ∙ ap (bound_region k) z

-- ---- for the methods
pub place-is : (i : ℕ) (n : List ℕ) (ns : List (List ℕ)) → Some i ≡ place_in n ns → i ≡ place_among n ns
place-is i n ns e = let z : i ≡ 0 + place_among n ns = ap (λ o. option_map_or (λ j. j) o (0 + length ns)) e ∙ place-found 0 n ns in omega arith

pub place-none : (n : List ℕ) (ns : List (List ℕ)) → None ≡ place_in n ns → length ns ≡ place_among n ns
place-none n ns e = let z : 0 + length ns ≡ 0 + place_among n ns = ap (λ o. option_map_or (λ j. j) o (0 + length ns)) e ∙ place-found 0 n ns in omega arith

pub unknown-by : (v : Sight) (s : List (List (List ℕ))) (n : List ℕ) (o : Option ℕ) (q : Option (ℕ × ℕ)) → bytes_eq n static_name ≡ false → o ≡ place_in n (params v).lifetimes → q ≡ scope_place 0 s n
    → not (is_some o || is_some q) ≡ is_unknown_use v.before v.line (lifetime_use s n)
unknown-by v s n o q a e f =
    ap (λ x. not (is_some x || is_some q)) e ∙ ap (λ x. not (x || is_some q)) (among-place 0 n (params v).lifetimes)
    ∙ ap (λ x. not (is_among n (params v).lifetimes || is_some x)) f ∙ ap (λ x. not (is_among n (params v).lifetimes || x)) (among-scope 0 n s)
    ∙ ap (λ b. not (b || (is_among n (params v).lifetimes || list_any (is_among n) s))) (sym a)

pub region-by : (ps : Params) (s : List (List (List ℕ))) (n : List ℕ) (q : Option (ℕ × ℕ)) → bytes_eq n static_name ≡ false → q ≡ scope_place 0 s n
    → region_of ps s n ≡ option_map_or (λ x. bound_region x.0 x.1) q (param_region (place_among n ps.lifetimes))
region-by ps s n q a e =
    ap (λ b. if b then static_region else region_under ps 0 s n) a ∙ region-found ps 0 s n ∙ ap (λ x. option_map_or (λ x. bound_region x.0 x.1) x (param_region (place_among n ps.lifetimes))) (sym e)

pub one_variable : (v : Sight) (p : Sort) (n : List ℕ) (b : Bool) → b ≡ nat_lt 64 (length n) → made false false false false false false b ≡ findings v (variable_use p n ∷ [])
one_variable v p n b e = one-use v (variable_use p n) false false false false false false b refl refl (no-look v) refl (no-own v) refl e

pub one_items : (v : Sight) (k : ℕ) (b : Bool) → b ≡ nat_lt 12 k → made false false false false false false b ≡ findings v (items_use k ∷ [])
one_items v k b e = one-use v (items_use k) false false false false false false b refl refl (no-look v) refl (no-own v) refl e

pub one_lifetime : (v : Sight) (s : List (List (List ℕ))) (n : List ℕ) (b : Bool) → b ≡ is_unknown_use v.before v.line (lifetime_use s n) → made false b false false false false false ≡ findings v (lifetime_use s n ∷ [])
one_lifetime v s n b e = one-use v (lifetime_use s n) false b false false false false false refl e (no-look v) refl (no-own v) refl refl

among-append : (n : List ℕ) (xs ys : List (List ℕ)) → is_among n (xs ++ ys) ≡ is_among n xs || is_among n ys
among-append n [] ys = refl
among-append n (x ∷ xs) ys = by (bytes_eq x n) (among-append n xs ys)
  where
    by : (b : Bool) → is_among n (xs ++ ys) ≡ is_among n xs || is_among n ys → b || is_among n (xs ++ ys) ≡ (b || is_among n xs) || is_among n ys
    by true e = refl
    by false e = e

-- a parameter of either sort
pub param-by : (l : Line) (n : List ℕ) (o q : Option ℕ) → o ≡ place_in n (params_of l).types → q ≡ place_in n (params_of l).consts → is_some o || is_some q ≡ is_line_param l n
param-by l n o q e f =
    ap (λ x. is_some x || is_some q) e ∙ ap (λ b. b || is_some q) (among-place 0 n (params_of l).types) ∙ ap (λ x. is_among n (params_of l).types || is_some x) f
    ∙ ap (λ b. is_among n (params_of l).types || b) (among-place 0 n (params_of l).consts) ∙ sym (among-append n (params_of l).types (params_of l).consts)

-- what is wrong with a name, test by test
pub one_name : (v : Sight) (p : Sort) (n : List ℕ) (k : ℕ) (b c d e : Bool) → b ≡ is_unknown_use v.before v.line (name_use p n k)
    → c ≡ option_map_or (λ j. is_hidden_name v.before v.line j n) (looking_crate v.before v.line) false → d ≡ is_other_sort v.before v.line (name_use p n k) → e ≡ is_own_name v n
    → made false b c d e false false ≡ findings v (name_use p n k ∷ [])
one_name v p n k b c d e hb hc hd he = one-use v (name_use p n k) false b c d e false false refl hb hc hd he refl refl

pub one_trait : (v : Sight) (n : List ℕ) (k : ℕ) (b c d e : Bool) → b ≡ is_unknown_use v.before v.line (trait_use n k)
    → c ≡ option_map_or (λ j. is_hidden_name v.before v.line j n) (looking_crate v.before v.line) false → d ≡ is_other_sort v.before v.line (trait_use n k) → e ≡ is_own_name v n
    → made false b c d e false false ≡ findings v (trait_use n k ∷ [])
one_trait v n k b c d e hb hc hd he = one-use v (trait_use n k) false b c d e false false refl hb hc hd he refl refl

pub fits-place : (n : List ℕ) (ns : List (List ℕ)) (o : Option ℕ) (k : ℕ) → o ≡ place_in n ns → k ≡ 0 → is_some o ≡ (is_among n ns && (k == 0))
fits-place n ns o k e z = ap is_some e ∙ among-place 0 n ns ∙ sym (and-true (is_among n ns)) ∙ ap (λ j. is_among n ns && (j == 0)) (sym z)

pub one_number : (v : Sight) (n : ℕ) (b : Bool) → b ≡ nat_le (2 ^ 64) n → made false false false false false false b ≡ findings v (number_use n ∷ [])
one_number v n b e = one-use v (number_use n) false false false false false false b refl refl (no-look v) refl (no-own v) refl e

-- a binder of no lifetime is no use, and nothing is wrong with it
pub one_binder : (v : Sight) (s : List (List (List ℕ))) (ns : List (List ℕ)) (a b c d : Bool) → a ≡ repeats ns → b ≡ is_among static_name ns → c ≡ list_any (is_in_scope v.line s) ns → d ≡ list_any is_long ns
    → made (a || (b || c)) false false false false false d ≡ findings v (binder_uses s ns)
one_binder v s [] a b c d e f g h =
    ap (λ z. made (z || (b || c)) false false false false false d) e ∙ ap (λ z. made (z || c) false false false false false d) f ∙ ap (λ z. made z false false false false false d) g ∙ ap (made false false false false false false) h ∙ no-uses v
one_binder v s (n ∷ ns) a b c d e f g h =
    one-use v (binder_use s (n ∷ ns)) (a || (b || c)) false false false false false d
    (ap (λ z. z || (b || c)) e ∙ ap (λ z. repeats (n ∷ ns) || (z || c)) f ∙ ap (λ z. repeats (n ∷ ns) || (is_among static_name (n ∷ ns) || z)) g) refl (no-look v) refl (no-own v) refl h

pub in-scope : (l : Line) (s : List (List (List ℕ))) (n : List ℕ) (o : Option ℕ) (q : Option (ℕ × ℕ)) → o ≡ place_in n (params_of l).lifetimes → q ≡ scope_place 0 s n → is_some o || is_some q ≡ is_in_scope l s n
in-scope l s n o q e f =
    ap (λ x. is_some x || is_some q) e ∙ ap (λ b. b || is_some q) (among-place 0 n (params_of l).lifetimes)
    ∙ ap (λ x. is_among n (params_of l).lifetimes || is_some x) f ∙ ap (λ b. is_among n (params_of l).lifetimes || b) (among-scope 0 n s)

-- a number where no const stands
pub misfit_number : (v : Sight) (n : ℕ) (f g : Findings) → f ≡ findings v (number_use n ∷ []) → g ≡ either f (made false false false true false false false) → g ≡ findings v (number_use n ∷ misfit_use ∷ [])
misfit_number v n f g e h =
    h ∙ ap (λ x. either x (made false false false true false false false)) e ∙ ap (either (findings v (number_use n ∷ []))) (one-misfit v) ∙ sym (findings-append v (number_use n ∷ []) (misfit_use ∷ []))
