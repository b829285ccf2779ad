-- The fault of a line by the smallest number of a true test is the fault by the first true test.
use Rattle.std.proofs.Common.{◌≡◌, ℕ, Bool, true, false, cond, List, [], ◌∷◌, ◌++◌, Option, Some, None, refl, ap, ◌∙◌}
use Rattle.std.specs.Prelude.{◌||◌, ◌&&◌, ◌==◌}
use Rattle.std.specs.List.{list_any, list_all, flat_map}
use Rattle.std.proofs.lemmas.List.Folds.{list_any-append, list_all-append}
use Rattle.text_language.specs.Promised.Syntax.{Line, crate_line, struct_line, trait_line, impl_line, prove_line, refute_line, later_line, supers_line, bound_item, lifetime_item}
use Rattle.text_language.specs.Promised.Declarations.{Declarations}
use Rattle.text_language.specs.Promised.Faults.{with_own}
use Rattle.text_language.specs.Faults.{is_misplaced, takes_names, uses_unknown, uses_hidden, uses_other_sort, has_free_param, bounds_use_own, is_loaded_auto, is_foreign_auto, implements_built_in, has_stray_variable, refutes_params, has_bad_dyn, passes_limit, fault_of}
use Rattle.text_language.specs.Promised.Mentions.{Mention, crate_mention, name_mention, trait_mention, lifetime_mention, binder_mention, variable_mention, misfit_mention, dyn_mention, list_mention, number_mention, type_mention, line_mentions}
use Rattle.text_language.specs.Promised.LineFaults.{faults_by_kind, mention_faults, line_fault}
use Rattle.text_language.proofs.SameFaultsOrder.{has, is-eq, holds, is_a_number, first_number, smallest-is}
use Rattle.text_language.proofs.SameFaultsNames.{any-flat, any-none, misplaced-is, takes_param, takes-is, unknowns-are, unseen-are, other-sorts-are}
use Rattle.text_language.proofs.SameFaultsKinds.{free-param-is, own-name-is, loaded-is, foreign-auto-is, built-in-is, asked-variables, of_two_kinds, has_other, stray-is, refutes-is}
use Rattle.text_language.proofs.SameFaultsLimits.{dyns-are, passes_params, passes_variables, passes-is}
use Rattle.type_terms.proofs.BooleanBasics.{no-more as or-false}

abbrev Tests : Type 0
Tests = List (ℕ × Bool)

-- ---- the tests of a line
abbrev line_tests : Declarations → Line → Tests
line_tests d l = (4, takes_param (with_own d l) l) ∷ (13, has_other d l) ∷ (13, of_two_kinds (asked-variables d l)) ∷ (16, passes_params l) ∷ (16, passes_variables d l) ∷ []

abbrev all_tests : Declarations → Line → Tests
all_tests d l = faults_by_kind d l ++ (flat_map (mention_faults (with_own d l) l) (line_mentions (with_own d l) l) ++ line_tests d l)

-- each has one of the numbers
kinds-numbered : (d : Declarations) (l : Line) → list_all is_a_number (faults_by_kind d l) ≡ true
kinds-numbered d (crate_line n us) = refl
kinds-numbered d (struct_line f n ps fs) = refl
kinds-numbered d (trait_line f a n ps bs) = refl
kinds-numbered d (impl_line ps h ks) = refl
kinds-numbered d (prove_line c ps a bs ks) = refl
kinds-numbered d (refute_line c ps a bs) = refl
kinds-numbered d (later_line n) = refl
kinds-numbered d (supers_line n) = refl

mention-numbered : (d : Declarations) (l : Line) (m : Mention) → list_all is_a_number (mention_faults d l m) ≡ true
mention-numbered d l (crate_mention n) = refl
mention-numbered d l (name_mention p n k) = refl
mention-numbered d l (trait_mention n k) = refl
mention-numbered d l (lifetime_mention s n) = refl
mention-numbered d l (binder_mention s ns) = refl
mention-numbered d l (variable_mention p n) = refl
mention-numbered d l misfit_mention = refl
mention-numbered d l (dyn_mention []) = refl
mention-numbered d l (dyn_mention (bound_item b n args ∷ is)) = refl
mention-numbered d l (dyn_mention (lifetime_item n ∷ is)) = refl
mention-numbered d l (list_mention k) = refl
mention-numbered d l (number_mention k) = refl
mention-numbered d l (type_mention k) = refl

both-numbered : (ts us : Tests) → list_all is_a_number ts ≡ true → list_all is_a_number us ≡ true → list_all is_a_number (ts ++ us) ≡ true
both-numbered ts us e f = list_all-append is_a_number ts us ∙ ap (λ b. b && list_all is_a_number us) e ∙ f

mentions-numbered : (d : Declarations) (l : Line) (ms : List Mention) → list_all is_a_number (flat_map (mention_faults d l) ms) ≡ true
mentions-numbered d l [] = refl
mentions-numbered d l (m ∷ ms) = both-numbered (mention_faults d l m) (flat_map (mention_faults d l) ms) (mention-numbered d l m) (mentions-numbered d l ms)

all-numbered : (d : Declarations) (l : Line) → list_all is_a_number (all_tests d l) ≡ true
all-numbered d l =
    let e : Declarations = with_own d l in
    let ms : Tests = flat_map (mention_faults e l) (line_mentions e l) in
    both-numbered (faults_by_kind d l) (ms ++ line_tests d l) (kinds-numbered d l) (both-numbered ms (line_tests d l) (mentions-numbered e l (line_mentions e l)) refl)

-- ---- one number
-- a test of the number is among those of the kind of line, of its mentions, or of the line
abbrev of_mentions : ℕ → Declarations → Line → Bool
of_mentions n d l = list_any (λ m. holds n (mention_faults (with_own d l) l m)) (line_mentions (with_own d l) l)

split : (n : ℕ) (d : Declarations) (l : Line) → holds n (all_tests d l) ≡ holds n (faults_by_kind d l) || (of_mentions n d l || holds n (line_tests d l))
split n d l =
    let e : Declarations = with_own d l in
    let ms : Tests = flat_map (mention_faults e l) (line_mentions e l) in
    let t : ℕ × Bool → Bool = λ t. (t.0 == n) && t.1 in
    list_any-append t (faults_by_kind d l) (ms ++ line_tests d l)
    ∙ ap (λ b. holds n (faults_by_kind d l) || b) (list_any-append t ms (line_tests d l) ∙ ap (λ b. b || holds n (line_tests d l)) (any-flat t (mention_faults e l) (line_mentions e l)))

-- a number that none of the tests has
absent : (ks : List ℕ) (n : ℕ) (ts : Tests) → has n ks ≡ false → list_all (λ t. has t.0 ks) ts ≡ true → holds n ts ≡ false
absent ks n [] h e = refl
absent ks n ((m, b) ∷ ts) h e = by (m == n) refl (has m ks) refl e (absent ks n ts h)
  where
    by : (c : Bool) → (m == n) ≡ c → (k : Bool) → has m ks ≡ k → k && list_all (λ t. has t.0 ks) ts ≡ true → (list_all (λ t. has t.0 ks) ts ≡ true → holds n ts ≡ false) → (c && b) || holds n ts ≡ false
    by true f true g e r = let same : has m ks ≡ has n ks = ap (λ x. has x ks) (is-eq n m f) in absurd cc
    by true f false g e r = absurd cc
    by false f true g e r = r e
    by false f false g e r = absurd cc

abbrev kind_numbers : List ℕ
kind_numbers = 3 ∷ 4 ∷ 8 ∷ 9 ∷ 10 ∷ 11 ∷ 12 ∷ 14 ∷ 16 ∷ []

kinds-among : (d : Declarations) (l : Line) → list_all (λ t. has t.0 kind_numbers) (faults_by_kind d l) ≡ true
kinds-among d (crate_line n us) = refl
kinds-among d (struct_line f n ps fs) = refl
kinds-among d (trait_line f a n ps bs) = refl
kinds-among d (impl_line ps h ks) = refl
kinds-among d (prove_line c ps a bs ks) = refl
kinds-among d (refute_line c ps a bs) = refl
kinds-among d (later_line n) = refl
kinds-among d (supers_line n) = refl

abbrev mention_numbers : List ℕ
mention_numbers = 4 ∷ 5 ∷ 6 ∷ 7 ∷ 15 ∷ 16 ∷ []

mention-among : (d : Declarations) (l : Line) (m : Mention) → list_all (λ t. has t.0 mention_numbers) (mention_faults d l m) ≡ true
mention-among d l (crate_mention n) = refl
mention-among d l (name_mention p n k) = refl
mention-among d l (trait_mention n k) = refl
mention-among d l (lifetime_mention s n) = refl
mention-among d l (binder_mention s ns) = refl
mention-among d l (variable_mention p n) = refl
mention-among d l misfit_mention = refl
mention-among d l (dyn_mention []) = refl
mention-among d l (dyn_mention (bound_item b n args ∷ is)) = refl
mention-among d l (dyn_mention (lifetime_item n ∷ is)) = refl
mention-among d l (list_mention k) = refl
mention-among d l (number_mention k) = refl
mention-among d l (type_mention k) = refl

-- a test of one kind of line, a test of its mentions, and one of the line
by-kind : (n : ℕ) (d : Declarations) (l : Line) (t : Bool) → has n mention_numbers ≡ false → holds n (line_tests d l) ≡ false → holds n (faults_by_kind d l) ≡ t → holds n (all_tests d l) ≡ t
by-kind n d l t m x e =
    split n d l
    ∙ ap (λ b. holds n (faults_by_kind d l) || (b || holds n (line_tests d l)))
    (any-none (λ m. holds n (mention_faults (with_own d l) l m)) (λ y. absent mention_numbers n (mention_faults (with_own d l) l y) m (mention-among (with_own d l) l y)) (line_mentions (with_own d l) l))
    ∙ ap (λ b. holds n (faults_by_kind d l) || b) x ∙ or-false (holds n (faults_by_kind d l)) ∙ e

by-mention : (n : ℕ) (d : Declarations) (l : Line) (t : Bool) → has n kind_numbers ≡ false → holds n (line_tests d l) ≡ false → of_mentions n d l ≡ t → holds n (all_tests d l) ≡ t
by-mention n d l t k x e =
    split n d l ∙ ap (λ b. b || (of_mentions n d l || holds n (line_tests d l))) (absent kind_numbers n (faults_by_kind d l) k (kinds-among d l))
    ∙ ap (λ b. of_mentions n d l || b) x ∙ or-false (of_mentions n d l) ∙ e

by-line : (n : ℕ) (d : Declarations) (l : Line) (t : Bool) → has n kind_numbers ≡ false → has n mention_numbers ≡ false → holds n (line_tests d l) ≡ t → holds n (all_tests d l) ≡ t
by-line n d l t k m x =
    split n d l ∙ ap (λ b. b || (of_mentions n d l || holds n (line_tests d l))) (absent kind_numbers n (faults_by_kind d l) k (kinds-among d l))
    ∙ ap (λ b. b || holds n (line_tests d l))
    (any-none (λ m. holds n (mention_faults (with_own d l) l m)) (λ y. absent mention_numbers n (mention_faults (with_own d l) l y) m (mention-among (with_own d l) l y)) (line_mentions (with_own d l) l))
    ∙ x

-- ---- all numbers, one after the other
link : (n : ℕ) {x y : Option ℕ} (a b : Bool) → a ≡ b → (b ≡ false → x ≡ y) → cond a (Some n) x ≡ cond b (Some n) y
link n {x} {y} a true e f = ap (λ c. cond c (Some n) x) e
link n {x} {y} a false e f = ap (λ c. cond c (Some n) x) e ∙ f refl

in-order : (h : ℕ → Bool) (t3 t4 t5 t6 t7 t8 t9 t10 t11 t12 t13 t14 t15 t16 : Bool)
    → h 3 ≡ t3 → h 4 ≡ t4 → h 5 ≡ t5 → (t4 ≡ false → h 6 ≡ t6) → (t4 ≡ false → h 7 ≡ t7) → (t7 ≡ false → h 8 ≡ t8) → h 9 ≡ t9 → h 10 ≡ t10 → (t4 ≡ false → h 11 ≡ t11) → h 12 ≡ t12 → h 13 ≡ t13 → h 14 ≡ t14 → h 15 ≡ t15
    → (t7 ≡ false → t15 ≡ false → h 16 ≡ t16)
    → first_number h
    ≡ cond t3 (Some 3) (cond t4 (Some 4) (cond t5 (Some 5) (cond t6 (Some 6) (cond t7 (Some 7) (cond t8 (Some 8) (cond t9 (Some 9) (cond t10 (Some 10) (cond t11 (Some 11) (cond t12 (Some 12) (cond t13 (Some 13) (cond t14 (Some 14) (cond t15 (Some 15) (cond t16 (Some 16) None)))))))))))))
in-order h t3 t4 t5 t6 t7 t8 t9 t10 t11 t12 t13 t14 t15 t16 e3 e4 e5 e6 e7 e8 e9 e10 e11 e12 e13 e14 e15 e16 =
    link 3 (h 3) t3 e3 (λ f3. link 4 (h 4) t4 e4 (λ f4. link 5 (h 5) t5 e5 (λ f5. link 6 (h 6) t6 (e6 f4) (λ f6. link 7 (h 7) t7 (e7 f4) (λ f7. link 8 (h 8) t8 (e8 f7) (λ f8. link 9 (h 9) t9 e9 (λ f9. link 10 (h 10) t10 e10 (λ f10.
    link 11 (h 11) t11 (e11 f4) (λ f11. link 12 (h 12) t12 e12 (λ f12. link 13 (h 13) t13 e13 (λ f13. link 14 (h 14) t14 e14 (λ f14. link 15 (h 15) t15 e15 (λ f15. link 16 (h 16) t16 (e16 f7 f15) (λ f16. refl))))))))))))))

pub line-fault-is : (d : Declarations) (l : Line) → line_fault d l ≡ fault_of d l
line-fault-is d l =
    smallest-is (all_tests d l) (all-numbered d l)
    ∙ in-order (λ n. holds n (all_tests d l)) (is_misplaced d l) (takes_names d l) (uses_unknown d l) (uses_hidden d l) (uses_other_sort d l) (has_free_param d l) (bounds_use_own d l) (is_loaded_auto l) (is_foreign_auto d l)
    (implements_built_in d l) (has_stray_variable d l) (refutes_params l) (has_bad_dyn d l) (passes_limit d l)
    (by-kind 3 d l (is_misplaced d l) refl refl (misplaced-is d l))
    (split 4 d l ∙ takes-is d l)
    (by-mention 5 d l (uses_unknown d l) refl refl (unknowns-are d l))
    (λ f. by-mention 6 d l (uses_hidden d l) refl refl (unseen-are d l f))
    (λ f. by-mention 7 d l (uses_other_sort d l) refl refl (other-sorts-are d l f))
    (λ f. by-kind 8 d l (has_free_param d l) refl refl (free-param-is d l f))
    (by-kind 9 d l (bounds_use_own d l) refl refl (own-name-is d l))
    (by-kind 10 d l (is_loaded_auto l) refl refl (loaded-is d l))
    (λ f. by-kind 11 d l (is_foreign_auto d l) refl refl (foreign-auto-is d l f))
    (by-kind 12 d l (implements_built_in d l) refl refl (built-in-is d l))
    (by-line 13 d l (has_stray_variable d l) refl refl (stray-is d l))
    (by-kind 14 d l (refutes_params l) refl refl (refutes-is d l))
    (by-mention 15 d l (has_bad_dyn d l) refl refl (dyns-are d l))
    (λ f g. split 16 d l ∙ passes-is d l f g)
