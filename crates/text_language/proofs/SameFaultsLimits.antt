-- The tests for a `dyn` and for limits: faults 15 and 16.
use Rattle.std.proofs.Common.{◌≡◌, ℕ, suc, ◌+◌, Bool, true, false, cond, List, [], ◌∷◌, ◌++◌, map, filter, fold, count_by, length, bytes_eq, refl, sym, ap, ◌∙◌, arith, max}
use Rattle.std.specs.Prelude.{◌||◌, ◌&&◌, not, ◌^◌, nat_le, nat_lt, if◌then◌else◌}
use Rattle.std.specs.Option.{option_map_or}
use Rattle.std.specs.List.{list_any}
use Rattle.std.proofs.lemmas.Bool.Decides.{nat_tests}
use Rattle.std.proofs.lemmas.Cmp.{nat_list_eq_equiv}
use Rattle.std.proofs.lemmas.Slice.Eq.{bytes_eq-Decides}
use Rattle.type_terms.specs.Promised.Label.{of_type, of_const, of_lifetime}
use Rattle.text_language.specs.Promised.Syntax.{Params, Line, crate_line, struct_line, trait_line, impl_line, prove_line, refute_line, later_line, supers_line, Item, bound_item, lifetime_item}
use Rattle.text_language.specs.Promised.Declarations.{Declarations, kinds_of, names_of, last_later}
use Rattle.text_language.specs.Uses.{ItemShape, bound_shape, item_shape, has_names, uses, asked_uses, params_of, declared_name, types_count, line_depth}
use Rattle.text_language.specs.Promised.Faults.{is_among, with_own, is_auto_name, last_items}
use Rattle.text_language.specs.Faults.{uses_other_sort, variables_in, is_bound, is_late, binds_auto, has_early_lifetime, is_bad_dyn, has_bad_dyn, is_long, passes_in, once, is_full, parts, passes_limit}
use Rattle.text_language.specs.Promised.Mentions.{Mention, crate_mention, name_mention, trait_mention, lifetime_mention, binder_mention, variable_mention, misfit_mention, dyn_mention, list_mention, number_mention, type_mention, line_mentions, line_params}
use Rattle.text_language.specs.Promised.LineFaults.{faults_by_kind, can_follow, mention_faults}
use Rattle.text_language.proofs.SameMentions.{as_uses, types-counted, params-same}
use Rattle.text_language.proofs.SameMentionsDepth.{is_deeper, depth-agrees}
use Rattle.text_language.proofs.SameFaultsOrder.{or-true, holds}
use Rattle.text_language.proofs.SameFaultsNames.{any-given, any-or, of-line}
use Rattle.text_language.proofs.SameFaultsKinds.{Named, asked-variables, asked-are}
use Rattle.type_terms.proofs.BooleanBasics.{not-either, no-more as or-false}

-- ---- 15
has-some : (b : List (List ℕ)) → nat_lt 0 (length b) ≡ has_names b
has-some [] = refl
has-some (n ∷ ns) = grind (arith, nat_tests)

module _ (d : Declarations) where
  abbrev bad : List ItemShape → Bool
  bad is = list_any (is_late d) is || (list_any (binds_auto d) is || has_early_lifetime is)

  behind-bound : (b : Bool) (n : List ℕ) (is : List ItemShape) → has_early_lifetime (bound_shape b n ∷ is) ≡ has_early_lifetime is
  behind-bound b n [] = refl
  behind-bound b n (i ∷ is) = refl

  end-true : (a b : Bool) → a || (b || true) ≡ true
  end-true true b = refl
  end-true false b = or-true b

  follow : (is : List Item) → not (can_follow d is) ≡ bad (map item_shape is)
  follow [] = refl
  follow (bound_item [] n args ∷ is) = by (is_auto_name d n) (follow is ∙ sym (ap (λ b. list_any (is_late d) (map item_shape is) || (list_any (binds_auto d) (map item_shape is) || b)) (behind-bound false n (map item_shape is))))
    where
      by : (a : Bool) → not (can_follow d is) ≡ list_any (is_late d) (map item_shape is) || (list_any (binds_auto d) (map item_shape is) || has_early_lifetime (bound_shape false n ∷ map item_shape is))
          → not (a && can_follow d is) ≡ (not a || list_any (is_late d) (map item_shape is)) || ((false && a || list_any (binds_auto d) (map item_shape is)) || has_early_lifetime (bound_shape false n ∷ map item_shape is))
      by true e = e
      by false e = refl
  follow (bound_item (m ∷ ms) n args ∷ is) = by (is_auto_name d n)
    where
      by : (a : Bool) → true ≡ (not a || list_any (is_late d) (map item_shape is)) || ((true && a || list_any (binds_auto d) (map item_shape is)) || has_early_lifetime (bound_shape true n ∷ map item_shape is))
      by true = sym (or-true (list_any (is_late d) (map item_shape is)))
      by false = refl
  follow (lifetime_item n ∷ []) = refl
  follow (lifetime_item n ∷ i ∷ is) = sym (end-true (list_any (is_late d) (map item_shape (i ∷ is))) (list_any (binds_auto d) (map item_shape (i ∷ is))))

  order : (x a l b e : Bool) → x && a || (l || (b || e)) ≡ l || ((x && a || b) || e)
  order x a true b e = by (x && a)
    where
      by : (y : Bool) → y || true ≡ true
      by y = or-true y
  order x a false b e = by (x && a) b
    where
      by : (y b : Bool) → y || (b || e) ≡ (y || b) || e
      by true b = refl
      by false b = refl

  dyn-is : (l : Line) (m : Mention) → holds 15 (mention_faults d l m) ≡ list_any (is_bad_dyn d) (as_uses m)
  dyn-is l (crate_mention n) = refl
  dyn-is l (name_mention p n k) = refl
  dyn-is l (trait_mention n k) = refl
  dyn-is l (lifetime_mention s n) = refl
  dyn-is l (binder_mention s []) = refl
  dyn-is l (binder_mention s (n ∷ ns)) = refl
  dyn-is l (variable_mention p n) = refl
  dyn-is l misfit_mention = refl
  dyn-is l (dyn_mention []) = refl
  dyn-is l (dyn_mention (bound_item b n args ∷ is)) =
      ap (λ x. (x && is_auto_name d n || not (can_follow d is)) || false) (has-some b)
      ∙ ap (λ x. (has_names b && is_auto_name d n || x) || false) (follow is)
      ∙ ap (λ x. x || false)
      (order (has_names b) (is_auto_name d n) (list_any (is_late d) (map item_shape is)) (list_any (binds_auto d) (map item_shape is)) (has_early_lifetime (map item_shape is))
      ∙ ap (λ x. list_any (is_late d) (map item_shape is) || ((has_names b && is_auto_name d n || list_any (binds_auto d) (map item_shape is)) || x)) (sym (behind-bound (has_names b) n (map item_shape is))))
  dyn-is l (dyn_mention (lifetime_item n ∷ [])) = refl
  dyn-is l (dyn_mention (lifetime_item n ∷ i ∷ is)) =
      sym (ap (λ x. x || false) (last (list_any is_bound (map item_shape (i ∷ is))) (list_any (is_late d) (map item_shape (i ∷ is))) (list_any (binds_auto d) (map item_shape (i ∷ is)))))
    where
      last : (a b c : Bool) → not a || (b || (c || true)) ≡ true
      last false b c = refl
      last true true c = refl
      last true false true = refl
      last true false false = refl
  dyn-is l (list_mention k) = refl
  dyn-is l (number_mention n) = refl
  dyn-is l (type_mention k) = refl

pub dyns-are : (d : Declarations) (l : Line) → list_any (λ m. holds 15 (mention_faults (with_own d l) l m)) (line_mentions (with_own d l) l) ≡ has_bad_dyn d l
dyns-are d l = of-line (with_own d l) l (λ m. holds 15 (mention_faults (with_own d l) l m)) (is_bad_dyn (with_own d l)) (dyn-is (with_own d l) l)

-- ---- 16: of mentions
abbrev is_bound_item : Item → Bool
is_bound_item i = elim i [ bound_item c m others ↦ true | lifetime_item m ↦ false ]

counting : ℕ → List Item → ℕ
counting k is = fold (λ a i. a + cond (is_bound_item i) 1 0) k is

same-count : (k : ℕ) (is : List Item) → fold (λ a x. a + cond (is_bound x) 1 0) k (map item_shape is) ≡ counting k is
unfolding counting
same-count k [] = refl
same-count k (bound_item b n args ∷ is) = same-count (k + 1) is
same-count k (lifetime_item n ∷ is) = same-count (k + 0) is

count-on : (is : List Item) (k j m : ℕ) → m ≡ k + j → counting m is ≡ k + counting j is
unfolding counting
count-on [] k j m e = e
count-on (i ∷ is) k j m e = count-on is k (j + cond (is_bound_item i) 1 0) (m + cond (is_bound_item i) 1 0) (omega arith)

one-more : (is : List Item) → counting 1 is ≡ suc (count_by is_bound_item is)
unfolding counting
one-more is = let e : counting 1 is ≡ 1 + counting 0 is = count-on is 1 0 1 (omega arith) in let f : 1 + counting 0 is ≡ suc (counting 0 is) = omega arith in e ∙ f

bounds-passed : (b : Bool) (n : List ℕ) (is : List Item) → nat_le 64 (count_by is_bound_item is) ≡ nat_lt 64 (count_by is_bound (bound_shape b n ∷ map item_shape is))
unfolding counting
bounds-passed b n is =
    let e : fold (λ a x. a + cond (is_bound x) 1 0) 1 (map item_shape is) ≡ suc (count_by is_bound_item is) = same-count 1 is ∙ one-more is in
    by (count_by is_bound_item is) ∙ sym (ap (nat_lt 64) e)
  where
    by : (c : ℕ) → nat_le 64 c ≡ nat_lt 64 (suc c)
    by c = grind (arith, nat_tests)

-- where no `dyn` has fault 15
limit-is : (d : Declarations) (l : Line) (m : Mention) → holds 15 (mention_faults d l m) ≡ false → holds 16 (mention_faults d l m) ≡ list_any passes_in (as_uses m) || is_deeper 64 m
limit-is d l (crate_mention n) e = refl
limit-is d l (name_mention p n k) e = refl
limit-is d l (trait_mention n k) e = refl
limit-is d l (lifetime_mention s n) e = refl
limit-is d l (binder_mention s []) e = refl
limit-is d l (binder_mention s (n ∷ ns)) e = sym (or-false (list_any is_long (n ∷ ns) || false))
limit-is d l (variable_mention p n) e = sym (or-false (is_long n || false))
limit-is d l misfit_mention e = refl
limit-is d l (dyn_mention []) e = absurd cc
limit-is d l (dyn_mention (bound_item b n args ∷ is)) e =
    ap (λ x. x || false) (bounds-passed (has_names b) n is) ∙ sym (or-false (nat_lt 64 (count_by is_bound (bound_shape (has_names b) n ∷ map item_shape is)) || false))
limit-is d l (dyn_mention (lifetime_item n ∷ is)) e = absurd cc
limit-is d l (list_mention k) e = sym (or-false (nat_lt 12 k || false))
limit-is d l (number_mention n) e = sym (or-false (nat_le (2 ^ 64) n || false))
limit-is d l (type_mention k) e = or-false (nat_lt 64 k)

pub mentions-pass : (d : Declarations) (l : Line) → uses_other_sort d l ≡ false → has_bad_dyn d l ≡ false
    → list_any (λ m. holds 16 (mention_faults (with_own d l) l m)) (line_mentions (with_own d l) l) ≡ list_any passes_in (uses (with_own d l) l) || nat_lt 64 (line_depth (with_own d l) l)
mentions-pass d l s b =
    let e : Declarations = with_own d l in
    let ms : List Mention = line_mentions e l in
    any-given (λ m. holds 15 (mention_faults e l m)) (λ m. holds 16 (mention_faults e l m)) (λ m. list_any passes_in (as_uses m) || is_deeper 64 m) (limit-is e l) ms (dyns-are d l ∙ b)
    ∙ any-or (λ m. list_any passes_in (as_uses m)) (is_deeper 64) ms
    ∙ ap (λ b. b || list_any (is_deeper 64) ms) (of-line e l (λ m. list_any passes_in (as_uses m)) passes_in (λ m. refl))
    ∙ ap (λ b. list_any passes_in (uses e l) || b) (depth-agrees 64 d e l s)

-- ---- 16: of the kind of line
three : (a b c : Bool) → (a || b) || (c || false) ≡ b || (a || c)
three true true c = refl
three true false c = refl
three false true c = refl
three false false c = or-false c

two : (a b : Bool) → (a || b) || false ≡ b || (a || false)
two true true = refl
two true false = refl
two false true = refl
two false false = refl

abbrev kind_passes : Declarations → Line → Bool
kind_passes d l = is_full d l || (option_map_or is_long (declared_name l) false || nat_lt 64 (parts l))

kind-passes : (d : Declarations) (l : Line) → holds 16 (faults_by_kind d l) ≡ kind_passes d l
kind-passes d (crate_line n us) = two (is_long n) (nat_lt 4095 (length d.crates))
kind-passes d (struct_line f n ps fs) = ap (λ k. (is_long n || nat_le 65535 (last_items d)) || (nat_lt 64 k || false)) (types-counted d [] 1 fs) ∙ three (is_long n) (nat_le 65535 (last_items d)) (nat_lt 64 (types_count fs))
kind-passes d (trait_line f a n ps bs) = three (is_long n) (nat_le 65535 (last_items d)) (nat_lt 64 (length bs))
kind-passes d (impl_line ps h ks) = or-false (nat_le 65535 (if d.in_section then last_later d else last_items d) || nat_lt 64 (length ks))
kind-passes d (prove_line c ps a bs ks) = or-false (nat_le 65536 (length d.questions) || nat_lt 64 (max (length (a ∷ bs)) (length ks)))
kind-passes d (refute_line c ps a bs) = or-false (nat_le 65536 (length d.questions) || nat_lt 64 (length (a ∷ bs)))
kind-passes d (later_line n) = refl
kind-passes d (supers_line n) = refl

-- ---- 16: of parameters and variables
-- those whose names weren't seen, with the names that are seen on the way
abbrev unseen_ones : List (List ℕ) → List Named → List Named
unseen_ones seen [] = []
unseen_ones seen (v ∷ vs) = if is_among v.0 seen then unseen_ones seen vs else v ∷ unseen_ones (v.0 ∷ seen) vs

abbrev with_name : List (List ℕ) → Named → List (List ℕ)
with_name ns v = if is_among v.0 ns then ns else v.0 ∷ ns

names-counted : (seen : List (List ℕ)) (vs : List Named) → length (fold with_name seen vs) ≡ length seen + length (unseen_ones seen vs)
names-counted seen [] = omega arith
names-counted seen (v ∷ vs) = by (is_among v.0 seen) (names-counted seen vs) (names-counted (v.0 ∷ seen) vs)
  where
    by : (b : Bool) → length (fold with_name seen vs) ≡ length seen + length (unseen_ones seen vs) → length (fold with_name (v.0 ∷ seen) vs) ≡ suc (length seen) + length (unseen_ones (v.0 ∷ seen) vs)
        → length (fold with_name (if b then seen else v.0 ∷ seen) vs) ≡ length seen + length (if b then unseen_ones seen vs else v ∷ unseen_ones (v.0 ∷ seen) vs)
    by true e f = e
    by false e f = let g : suc (length seen) + length (unseen_ones (v.0 ∷ seen) vs) ≡ length seen + suc (length (unseen_ones (v.0 ∷ seen) vs)) = omega arith in f ∙ g

pub filter-both : (p q r : Named → Bool) → ((x : Named) → r x ≡ q x && p x) → (xs : List Named) → filter p (filter q xs) ≡ filter r xs
filter-both p q r h [] = refl
filter-both p q r h (x ∷ xs) = by (q x) (h x) (filter-both p q r h xs)
  where
    by : (a : Bool) → r x ≡ a && p x → filter p (filter q xs) ≡ filter r xs → filter p (cond a (x ∷ filter q xs) (filter q xs)) ≡ cond (r x) (x ∷ filter r xs) (filter r xs)
    by true e f = ap (λ c. cond c (x ∷ filter p (filter q xs)) (filter p (filter q xs))) (sym e) ∙ ap (λ z. cond (r x) (x ∷ z) z) f
    by false e f = f ∙ ap (λ c. cond c (x ∷ filter r xs) (filter r xs)) (sym e)

pub filter-all : (xs : List Named) → filter (λ w. true) xs ≡ xs
filter-all [] = refl
filter-all (x ∷ xs) = ap (λ z. x ∷ z) (filter-all xs)

among-same : (n m : List ℕ) (ns : List (List ℕ)) → bytes_eq n m ≡ true → is_among n ns ≡ is_among m ns
among-same n m ns e = ap (λ x. is_among x ns) ((bytes_eq-Decides n m).0 e)

pub seen-stays : (n m : List ℕ) (seen : List (List ℕ)) → is_among m seen ≡ true → not (is_among n seen) ≡ not (bytes_eq n m) && not (is_among n seen)
seen-stays n m seen h = by (bytes_eq n m) (λ e. among-same n m seen e ∙ h)
  where
    by : (b : Bool) → (b ≡ true → is_among n seen ≡ true) → not (is_among n seen) ≡ not b && not (is_among n seen)
    by true f = ap not (f refl)
    by false f = refl

abbrev is_unseen : List (List ℕ) → Named → Bool
is_unseen seen w = not (is_among w.0 seen)

unseen-once : (seen : List (List ℕ)) (vs : List Named) → unseen_ones seen vs ≡ filter (is_unseen seen) (once vs)
unseen-once seen [] = refl
unseen-once seen (v ∷ vs) = by (is_among v.0 seen) refl (unseen-once seen vs) (unseen-once (v.0 ∷ seen) vs)
  where
    by : (b : Bool) → is_among v.0 seen ≡ b → unseen_ones seen vs ≡ filter (is_unseen seen) (once vs) → unseen_ones (v.0 ∷ seen) vs ≡ filter (is_unseen (v.0 ∷ seen)) (once vs)
        → (if b then unseen_ones seen vs else v ∷ unseen_ones (v.0 ∷ seen) vs) ≡ cond (not b) (v ∷ filter (is_unseen seen) (filter (λ w. not (bytes_eq w.0 v.0)) (once vs))) (filter (is_unseen seen) (filter (λ w. not (bytes_eq w.0 v.0)) (once vs)))
    by true e f g = f ∙ sym (filter-both (is_unseen seen) (λ w. not (bytes_eq w.0 v.0)) (is_unseen seen) (λ w. seen-stays w.0 v.0 seen e) (once vs))
    by false e f g =
        ap (λ z. v ∷ z)
        (g ∙ sym (filter-both (is_unseen seen) (λ w. not (bytes_eq w.0 v.0)) (is_unseen (v.0 ∷ seen)) (λ w. not-either (bytes_eq v.0 w.0) (is_among w.0 seen) ∙ ap (λ b. not b && not (is_among w.0 seen)) (nat_list_eq_equiv.symm v.0 w.0)) (once vs)))

-- each variable counted once
once-counted : (vs : List Named) → length (fold with_name [] vs) ≡ length (once vs)
once-counted vs =
    let e : length (fold with_name [] vs) ≡ 0 + length (unseen_ones [] vs) = names-counted [] vs in
    let f : length (unseen_ones [] vs) ≡ length (once vs) = ap length (unseen-once [] vs ∙ filter-all (once vs)) in
    omega arith

same-length : (ls ts cs : List (List ℕ)) → length (ls ++ ts ++ cs) ≡ length (map (λ _. of_lifetime) ls ++ map (λ _. of_type) ts ++ map (λ _. of_const) cs)
same-length [] [] [] = refl
same-length [] [] (c ∷ cs) = ap suc (same-length [] [] cs)
same-length [] (t ∷ ts) cs = ap suc (same-length [] ts cs)
same-length (l ∷ ls) ts cs = ap suc (same-length ls ts cs)

abbrev pub passes_params : Line → Bool
passes_params l = list_any (λ n. nat_lt 64 (length n)) (names_of (line_params l)) || nat_lt 64 (length (names_of (line_params l)))

abbrev pub passes_variables : Declarations → Line → Bool
passes_variables d l = nat_lt 16 (length (fold with_name [] (asked-variables d l)))

abbrev passes_line : Declarations → Line → Bool
passes_line d l = passes_params l || (passes_variables d l || false)

line-passes : (d : Declarations) (l : Line) → passes_line d l ≡ (list_any is_long (names_of (params_of l)) || nat_lt 64 (length (kinds_of (params_of l)))) || (nat_lt 16 (length (once (variables_in (asked_uses d l)))) || false)
line-passes d l =
    let ps : Params = params_of l in
    let v : Bool = nat_lt 16 (length (fold with_name [] (asked-variables d l))) in
    ap (λ ps. (list_any is_long (names_of ps) || nat_lt 64 (length (names_of ps))) || (v || false)) (params-same l)
    ∙ ap (λ n. (list_any is_long (names_of ps) || nat_lt 64 n) || (v || false)) (same-length ps.lifetimes ps.types ps.consts)
    ∙ ap (λ n. (list_any is_long (names_of ps) || nat_lt 64 (length (kinds_of ps))) || (nat_lt 16 n || false)) (ap (λ vs. length (fold with_name [] vs)) (asked-are d l) ∙ once-counted (variables_in (asked_uses d l)))

-- the same tests in another order
other-order : (f n p u dp m k v : Bool) → (f || (n || p)) || ((u || dp) || ((m || k) || (v || false))) ≡ f || ((n || m) || (k || (p || (dp || (v || u)))))
other-order true n p u dp m k v = refl
other-order false true p u dp m k v = refl
other-order false false true u dp true k v = refl
other-order false false true u dp false true v = refl
other-order false false true u dp false false v = refl
other-order false false false true dp true k v = refl
other-order false false false true dp false true v = refl
other-order false false false true true false false v = refl
other-order false false false true false false false true = refl
other-order false false false true false false false false = refl
other-order false false false false true true k v = refl
other-order false false false false true false true v = refl
other-order false false false false true false false v = refl
other-order false false false false false true k v = refl
other-order false false false false false false true v = refl
other-order false false false false false false false v = refl

pub passes-is : (d : Declarations) (l : Line) → uses_other_sort d l ≡ false → has_bad_dyn d l ≡ false
    → holds 16 (faults_by_kind d l) || (list_any (λ m. holds 16 (mention_faults (with_own d l) l m)) (line_mentions (with_own d l) l) || passes_line d l) ≡ passes_limit d l
passes-is d l s b =
    let e : Declarations = with_own d l in
    let ms : Bool = list_any (λ m. holds 16 (mention_faults e l m)) (line_mentions e l) in
    let us : Bool = list_any passes_in (uses e l) in
    let dp : Bool = nat_lt 64 (line_depth e l) in
    ap (λ x. x || (ms || passes_line d l)) (kind-passes d l)
    ∙ ap (λ x. kind_passes d l || (x || passes_line d l)) (mentions-pass d l s b)
    ∙ ap (λ x. kind_passes d l || ((us || dp) || x)) (line-passes d l)
    ∙ other-order (is_full d l) (option_map_or is_long (declared_name l) false) (nat_lt 64 (parts l)) us dp (list_any is_long (names_of (params_of l)))
    (nat_lt 64 (length (kinds_of (params_of l)))) (nat_lt 16 (length (once (variables_in (asked_uses d l)))))
