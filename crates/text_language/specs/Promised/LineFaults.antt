-- The fault of a line that follows the grammar, with the declarations of the lines before it. It is the smallest number
-- whose test is true.
use Rattle.std.specs.Prelude.{ℕ, ◌+◌, ◌^◌, min, max, Bool, true, false, ◌||◌, ◌&&◌, not, List, [], ◌∷◌, ◌++◌, length, map, filter, find, fold, count_by, Option, is_some, nat_le, nat_lt, ◌==◌, if◌then◌else◌, codes}
use Rattle.std.specs.List.{list_any, flat_map, reduce}
use Rattle.std.specs.Option.{option_map_or}
use Rattle.std.specs.Str.{bytes_eq}
use Rattle.type_terms.specs.Promised.Label.{Sort, of_type}
use Rattle.type_terms.specs.Promised.Trees.{is_sort}
use Rattle.type_terms.specs.Promised.Worlds.{sees}
use Rattle.text_language.specs.Promised.Syntax.{TypeTree, named, Item, bound_item, lifetime_item, Params, Line, crate_line, struct_line, trait_line, impl_line, prove_line, refute_line}
use Rattle.text_language.specs.Promised.Declarations.{Declarations, world_of, Known, a_struct, a_trait, known, kinds_of, names_of, last_later, impl_owner}
use Rattle.text_language.specs.Promised.Faults.{is_among, repeats, is_auto_name, built_in_traits, last_items, with_own}
use Rattle.text_language.specs.Promised.Mentions.{Mention, crate_mention, name_mention, trait_mention, lifetime_mention, binder_mention, variable_mention, misfit_mention, dyn_mention, list_mention, number_mention, type_mention, types_mentions, bound_mentions, header_mentions, line_mentions, asked_mentions, line_params}

-- The numbers of the faults, as the user's guide has them:
--   3   a struct, trait or impl before any crate, or a struct or trait in a section of a later version
--   4   a declared name that is declared already, or a name of a parameter or of a binder that is in scope already, is
--       `'static`, or is declared
--   5   a name or a lifetime that is not declared
--   6   a declared struct or trait that the crate does not see
--   7   a declared name of another kind than is needed, or arguments of the wrong number or kind
--   8   a type or const parameter of an impl that is not in its header
--   9   a trait whose bounds use the trait's own name
--   10  an auto trait with parameters or bounds
--   11  an impl of an auto trait whose self type is not a struct of the impl's crate
--   12  an impl of a trait that has built-in rules alone
--   13  a variable that is not in the bounds of a query, or that is of two kinds
--   14  parameters in `refute`
--   15  a `dyn` without a bound, with two bounds that are not auto traits, with one that is not first, with a binder
--       before an auto trait, or with a lifetime that is not last
--   16  a limit is exceeded
-- Faults 1 and 2 are found before there is a line. A test may assume that no fault with a smaller number applies. For
-- example, the name of a parameter means nothing else, because that is fault 4. Lifetimes have names of their own.

-- The name is that of a crate, struct or trait that passes the test.
abbrev pub stands_for : Declarations → List ℕ → (Known → Bool) → Bool
stands_for d n test = option_map_or test (known d n) false

-- ---- tests by the kind of line
-- The names that are mentioned as types, constants or traits.
abbrev pub names_among : List Mention → List (List ℕ)
names_among ms = flat_map (λ m. elim m [ name_mention _ n _ ↦ n ∷ [] | trait_mention n _ ↦ n ∷ [] | _ ↦ [] ]) ms

-- The type is a struct of the crate to which an impl on the next line belongs.
abbrev pub heads_own_struct : Declarations → TypeTree → Bool
heads_own_struct d (named n args) = stands_for d n (λ k. elim k [ a_struct _ home _ ↦ home == impl_owner d | _ ↦ false ])
heads_own_struct d _ = false

-- The tests for a struct or trait with this name. Limits: 64 bytes for a name; 65535 structs, traits and impls of a
-- crate together.
abbrev pub item_faults : Declarations → List ℕ → List (ℕ × Bool)
item_faults d n = (3, d.in_section || nat_le (length d.crates) 1) ∷ (4, is_some (known d n)) ∷ (16, nat_lt 64 (length n) || nat_le 65535 (last_items d)) ∷ []

-- The tests that depend on the kind of line. Limits:
-- - 4095 crates without `core`
-- - 65535 impls of a section
-- - 65536 queries
-- - 64 fields of a struct, 64 bounds of a trait or of a query, 64 where-clauses
-- A section may precede all crates. For example, `later core` followed by `impl Clone for str`.
abbrev pub faults_by_kind : Declarations → Line → List (ℕ × Bool)
faults_by_kind d (crate_line n us) = (4, is_some (known d n)) ∷ (16, nat_lt 64 (length n) || nat_lt 4095 (length d.crates)) ∷ []
faults_by_kind d (struct_line f n ps fs) = item_faults d n ++ (16, nat_lt 64 (length (types_mentions d [] 1 fs))) ∷ []
faults_by_kind d (trait_line f a n ps bs) =
    item_faults d n ++ (9, is_among n (names_among (flat_map (bound_mentions d) bs)))
    ∷ (10, a && nat_lt 0 (length (kinds_of ps) + length bs)) ∷ (16, nat_lt 64 (length bs)) ∷ []
faults_by_kind d (impl_line ps h ks) =
    (3, not d.in_section && nat_le (length d.crates) 1) ∷ (8, list_any (λ n. not (is_among n (names_among (header_mentions d h)))) (ps.types ++ ps.consts))
    ∷ (11, is_auto_name d h.bound.trait && not (heads_own_struct d h.subject))
    ∷ (12, stands_for d h.bound.trait (λ k. elim k [ a_trait i _ _ _ ↦ list_any (λ t. t == i) built_in_traits | _ ↦ false ]))
    ∷ (16, nat_le 65535 (if d.in_section then last_later d else last_items d) || nat_lt 64 (length ks)) ∷ []
faults_by_kind d (prove_line c ps a bs ks) = (16, nat_le 65536 (length d.questions) || nat_lt 64 (max (length (a ∷ bs)) (length ks))) ∷ []
faults_by_kind d (refute_line c ps a bs) = (14, nat_lt 0 (length (kinds_of ps))) ∷ (16, nat_le 65536 (length d.questions) || nat_lt 64 (length (a ∷ bs))) ∷ []
faults_by_kind d _ = []

-- ---- tests by what the line mentions: d also has the struct or trait of the line itself
-- The lifetimes in scope: `'static`, those of the line's parameters, and those of the binders around.
abbrev pub lifetimes_in_scope : Line → List (List (List ℕ)) → List (List ℕ)
lifetimes_in_scope l s = codes "static" ∷ ((line_params l).lifetimes ++ flat_map (λ b. b) s)

-- The name is neither a parameter of the line nor declared.
abbrev pub is_unknown_name : Declarations → Line → List ℕ → Bool
is_unknown_name d l n = not (is_among n ((line_params l).types ++ (line_params l).consts) || is_some (known d n))

-- Crate h is not visible to the crate of the line:
-- - of a query: the crate in which it is asked
-- - of an impl in a section: the crate of the section
-- - of another item: its own crate
-- Other lines mention only crates.
abbrev pub is_out_of_sight : Declarations → Line → ℕ → Bool
is_out_of_sight d (prove_line c ps a bs ks) h = option_map_or (λ k. not (sees (world_of d) k.item.name h)) (find (λ k. bytes_eq k.text c) d.crates) false
is_out_of_sight d (refute_line c ps a bs) h = option_map_or (λ k. not (sees (world_of d) k.item.name h)) (find (λ k. bytes_eq k.text c) d.crates) false
is_out_of_sight d l h = not (sees (world_of d) (impl_owner d) h)

-- The name is declared in a crate that the line's crate does not see.
abbrev pub is_unseen_name : Declarations → Line → List ℕ → Bool
is_unseen_name d l n = stands_for d n (λ k. elim k [ a_struct _ h _ ↦ is_out_of_sight d l h | a_trait _ h _ _ ↦ is_out_of_sight d l h | _ ↦ false ])

-- The name with k arguments is of the kind that its position needs. Parameters have no arguments. At the position of a
-- lifetime a name is fault 7 by itself, so the result is irrelevant there.
abbrev pub fits_place : Declarations → Params → Sort → List ℕ → ℕ → Bool
fits_place d ps of_type n k = is_among n ps.types && (k == 0) || stands_for d n (λ w. elim w [ a_struct _ _ ks ↦ length ks == k | _ ↦ false ])
fits_place d ps _ n k = is_among n ps.consts && (k == 0)

-- The bounds of a `dyn` after its first: auto traits without a binder, then possibly a lifetime.
abbrev pub can_follow : Declarations → List Item → Bool
can_follow d [] = true
can_follow d (bound_item [] n args ∷ is) = is_auto_name d n && can_follow d is
can_follow d (lifetime_item n ∷ []) = true
can_follow d _ = false

-- The tests for what the line mentions. Limits:
-- - 64 bytes for a name
-- - 64 bounds of a `dyn`
-- - 12 items of a tuple or inputs of a fn
-- - 64 bits for a number
-- - 64 types inside each other
abbrev pub mention_faults : Declarations → Line → Mention → List (ℕ × Bool)
mention_faults d l (crate_mention n) = (5, is_unknown_name d l n) ∷ (7, not (list_any (λ c. bytes_eq c.text n) d.crates)) ∷ []
mention_faults d l (name_mention p n k) = (5, is_unknown_name d l n) ∷ (6, is_unseen_name d l n) ∷ (7, not (fits_place d (line_params l) p n k)) ∷ []
mention_faults d l (trait_mention n k) =
    (5, is_unknown_name d l n) ∷ (6, is_unseen_name d l n) ∷ (7, not (stands_for d n (λ w. elim w [ a_trait _ _ _ ks ↦ length ks == k | _ ↦ false ]))) ∷ []
mention_faults d l (lifetime_mention s n) = (5, not (is_among n (lifetimes_in_scope l s))) ∷ []
mention_faults d l (binder_mention s ns) =
    (4, repeats ns || list_any (λ n. is_among n (lifetimes_in_scope l s)) ns) ∷ (16, list_any (λ n. nat_lt 64 (length n)) ns) ∷ []
mention_faults d l (variable_mention p n) = (16, nat_lt 64 (length n)) ∷ []
mention_faults d l misfit_mention = (7, true) ∷ []
mention_faults d l (dyn_mention (bound_item b n args ∷ is)) =
    (15, nat_lt 0 (length b) && is_auto_name d n || not (can_follow d is))
    ∷ (16, nat_le 64 (count_by (λ i. elim i [ bound_item _ _ _ ↦ true | _ ↦ false ]) is)) ∷ []
mention_faults d l (dyn_mention _) = (15, true) ∷ []
mention_faults d l (list_mention k) = (16, nat_lt 12 k) ∷ []
mention_faults d l (number_mention n) = (16, nat_le (2 ^ 64) n) ∷ []
mention_faults d l (type_mention k) = (16, nat_lt 64 k) ∷ []

-- ---- all tests
-- The variables that are mentioned, each with the kind that its position needs.
abbrev pub variables_among : List Mention → List (List ℕ × Sort)
variables_among ms = flat_map (λ m. elim m [ variable_mention p n ↦ (n, p) ∷ [] | _ ↦ [] ]) ms

-- The smallest number of a test that is true. Limits: 64 bytes for a name, 64 parameters, and 16 variables, each of
-- which is counted once.
abbrev pub line_fault : Declarations → Line → Option ℕ
line_fault d l =
    let e = with_own d l in
    let ps = line_params l in
    let asked = variables_among (asked_mentions d l) in
    reduce min (map (λ t. t.0) (filter (λ t. t.1) (faults_by_kind d l ++ (flat_map (mention_faults e l) (line_mentions e l)
    ++ (4, repeats (lifetimes_in_scope l []) || repeats (ps.types ++ ps.consts) || list_any (λ n. is_some (known e n)) (ps.types ++ ps.consts))
    ∷ (13, nat_lt (length asked) (length (variables_among (line_mentions e l))))
    ∷ (13, list_any (λ v. list_any (λ w. bytes_eq v.0 w.0 && not (is_sort v.1 w.1)) asked) asked)
    ∷ (16, list_any (λ n. nat_lt 64 (length n)) (names_of ps) || nat_lt 64 (length (names_of ps)))
    ∷ (16, nat_lt 16 (length (fold (λ ns v. if is_among v.0 ns then ns else v.0 ∷ ns) [] asked))) ∷ []))))
