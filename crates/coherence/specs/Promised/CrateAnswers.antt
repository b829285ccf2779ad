-- The line of a crate, and what it promises. V is the view of the crate c, without lifetimes.
use Rattle.std.specs.Prelude.{◌≡◌, ℕ, true, Bool, ◌&&◌, ◌==◌, not, if◌then◌else◌, List, [], ◌∷◌, ◌++◌, map, find, Option, Some, None, slice_get, codes, suc, take, count_by}
use Rattle.std.specs.Fmt.{decimal}
use Rattle.std.specs.List.{list_any}
use Rattle.std.specs.Option.{option_map_or}
use Rattle.sessions.specs.TypeTerms.Promised.Answers.{IsRealOverlap}
use Rattle.sessions.specs.TypeTerms.Promised.Label.{adt, ref}
use Rattle.sessions.specs.TypeTerms.Promised.LinkedSet.{IsPair}
use Rattle.sessions.specs.TypeTerms.Promised.Supers.{opaque}
use Rattle.sessions.specs.TypeTerms.Promised.Trees.{Trees, none, tree}
use Rattle.sessions.specs.TypeTerms.Promised.Versions.{is_open_place}
use Rattle.sessions.specs.TypeTerms.Promised.Walks.{Met, struct_is, visited, ends_local, keeps_orphan_rule}
use Rattle.sessions.specs.TypeTerms.Promised.Worlds.{World, ImplDecl, core}
use Rattle.sessions.specs.TextLanguage.Promised.Declarations.{Declarations, NamedImpl}
use Rattle.sessions.specs.TextLanguage.Promised.Desugared.{is_companion}
use Rattle.sessions.specs.TextLanguage.Promised.PrintedTypes.{final_text, printed_trees}
use Rattle.sessions.specs.TypeTerms.Promised.Verdicts.{IsCleared}
use Rattle.sessions.specs.Promised.Promises.{view_in}

-- ---- an orphan
-- The arguments that the orphan rule looks at, in order. It looks through a reference, and through a fundamental struct of another crate
-- (RFC 1023). For `Box<V<u8>>, bool` it looks at `V<u8>` and `bool`.
abbrev pub types_met : World → ℕ → Trees → List Trees
types_met V c none = []
types_met V c (tree (ref _) k o) = types_met V c k ++ types_met V c o
types_met V c (tree (adt s) k o) =
    (if not (struct_is (λ x. c == x.home) V s) && struct_is (λ x. x.is_fundamental) V s then types_met V c k else tree (adt s) k none ∷ []) ++ types_met V c o
types_met V c (tree l k o) = tree l k none ∷ types_met V c o

-- A type in the header of impl number k, in which its parameters have their names.
abbrev pub impl_type_text : Declarations → ℕ → Trees → List ℕ
impl_type_text d k t = final_text (printed_trees d (map (λ p. p.0) (option_map_or (λ i. i.params) (slice_get d.impls k) [])) [] (opaque t))

-- Why crate c may not write the impl, whose header breaks the orphan rule. Either no type that the rule looks at is a parameter, and none
-- is local. Or this is the first parameter, and this is the first local type after it, if there is one. With a foreign Show and a local B,
-- `impl<T> Show<B> for Box<T>` has `uncovered T before B`.
abbrev pub orphan_reason : Declarations → ℕ → ImplDecl → List ℕ
orphan_reason d c i =
    let first : (List Met → Bool) → Option Trees = λ p. find (λ t. p (visited (view_in d c) (Some c) t)) (types_met (view_in d c) c i.header.args) in
    option_map_or (λ t. codes " uncovered " ++ impl_type_text d i.name t ++ option_map_or (λ u. codes " before " ++ impl_type_text d i.name u)
    (first ends_local) []) (first (list_any is_open_place)) (codes " nonlocal")

-- ---- the line
-- The first impl of the crate whose header breaks the orphan rule (RFC 2451).
abbrev pub first_orphan : World → ℕ → Option ImplDecl
first_orphan V c = find (λ i. (i.home == c) && not (keeps_orphan_rule V c i.header)) V.impls

-- ---- the line of a crate
abbrev pub crate_text : Declarations → ℕ → List ℕ
crate_text d c = option_map_or (λ n. n.text) (slice_get d.crates c) []

-- The crate of impl number k.
abbrev pub impl_home : Declarations → ℕ → ℕ
impl_home d k = option_map_or (λ i. i.item.home) (slice_get d.impls k) core

-- Whether the text has the impl as it stands here. An impl that gives types stands for several: for itself, and behind that for one of
-- each companion.
abbrev pub is_written : Declarations → NamedImpl → Bool
is_written d i = not (is_companion d i.item.header.trait)

-- Its number among those of its crate that the text has, from 1. An impl of a companion has the number of the impl that gives the type.
abbrev pub number_in_crate : Declarations → ℕ → ℕ
number_in_crate d k = count_by (λ i. (i.item.home == impl_home d k) && is_written d i) (take (suc k) d.impls)

-- What comes after `crate N: `, and what it promises. All headers are judged before any pair that the crate brings together.
pub data CrateAnswer (limit : ℕ) (d : Declarations) (c : ℕ) : List ℕ → Type 0 where
  is_accepted : first_orphan (view_in d c) c ≡ None → ((i j : ImplDecl) → IsPair (view_in d c) c i j → IsCleared (view_in d c) c i j)
      → CrateAnswer limit d c (codes "accepted")
  is_orphan : (i : ImplDecl) → first_orphan (view_in d c) c ≡ Some i → CrateAnswer limit d c (codes "orphan impl " ++ decimal (number_in_crate d i.name) ++ orphan_reason d c i)
  is_overlap : (i j : ImplDecl) → first_orphan (view_in d c) c ≡ None → IsPair (view_in d c) c i j → IsRealOverlap limit (view_in d c) c i j
      → CrateAnswer limit d c (codes "overlap impl " ++ decimal (number_in_crate d i.name) ++ codes " with " ++ crate_text d j.home ++ codes " " ++ decimal (number_in_crate d j.name))
