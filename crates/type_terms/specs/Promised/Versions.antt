-- Later versions of crates: the same crates with further impls. Then, which impls a later version may add.
use Rattle.std.specs.Prelude.{◌≡◌, ◌⊎◌, ℕ, Bool, true, false, IsTrue, ◌&&◌, not, List}
use Rattle.std.specs.List.{list_any}
use Rattle.type_terms.specs.Promised.Label.{Label, dynamic, principal, auto_trait, adt, param, of_trait, predicate}
use Rattle.type_terms.specs.Promised.Trees.{Trees, none, tree}
use Rattle.type_terms.specs.Promised.Worlds.{World, Reference, ImplDecl, sees, view_of}
use Rattle.type_terms.specs.Promised.Proofs.{In}
use Rattle.type_terms.specs.Promised.Walks.{Met, open_place, struct_is, trait_is, open_walk, keeps_orphan_rule}

-- The first bound of a `dyn` is not a parameter.
abbrev pub begins_with_bound : Trees → Bool
begins_with_bound (tree (param _ _) c o) = false
begins_with_bound _ = true

-- The struct or trait that the label names, if any, passes the test: S for structs, P for traits.
abbrev pub label_allowed : (ℕ → Bool) → (ℕ → Bool) → Label → Bool
label_allowed S P (adt s) = S s
label_allowed S P (principal _ t) = P t
label_allowed S P (auto_trait t) = P t
label_allowed S P (predicate (of_trait t)) = P t
label_allowed S P _ = true

-- If the label is that of a `dyn`, its children are as the grammar has them.
abbrev pub label_shaped : Label → Trees → Bool
label_shaped dynamic c = begins_with_bound c
label_shaped _ c = true

-- All structs that the terms name pass S, all traits pass P, and each `dyn` is as the grammar has it.
abbrev pub well_written : (ℕ → Bool) → (ℕ → Bool) → Trees → Bool
well_written S P none = true
well_written S P (tree l c o) = label_allowed S P l && (label_shaped l c && (well_written S P c && well_written S P o))

-- Crate c sees the struct with this name.
abbrev pub sees_struct : World → ℕ → ℕ → Bool
sees_struct W c s = struct_is (λ x. sees W c x.home) W s

-- Crate c sees the trait with this name.
abbrev pub sees_trait : World → ℕ → ℕ → Bool
sees_trait W c t = trait_is (λ x. sees W c x.home) W t

-- Crate c sees everything that the trait reference names, and each `dyn` in it is as the grammar has it.
abbrev pub in_scope : World → ℕ → Reference → Bool
in_scope W c r = sees_trait W c r.trait && well_written (sees_struct W c) (sees_trait W c) r.args

-- The step of an orphan walk is at a parameter, placeholder, variable or bound type.
abbrev pub is_open_place : Met → Bool
is_open_place open_place = true
is_open_place _ = false

-- The open walk of the header ends at a parameter.
abbrev pub open_walk_meets_param : World → Reference → Bool
open_walk_meets_param W r = list_any is_open_place (open_walk W r)

-- A later version of crate d may add an impl with this header without a breaking change (RFC 1105, RFC 2451), if:
-- - the header keeps the orphan rule of d,
-- - its open walk has no parameter, so that it is no blanket impl, and
-- - its trait is neither fundamental nor auto.
-- For example, a crate with `trait Show; struct V<T>` may add impls with the headers `u8: Show` and `V<T>: Show`, but
-- not `T: Show` or `&T: Show`.
abbrev pub is_addable : World → ℕ → Reference → Bool
is_addable W d h =
    keeps_orphan_rule W d h
    && (not (open_walk_meets_param W h)
    && (not (trait_is (λ x. x.is_fundamental) W h.trait) && not (trait_is (λ x. x.is_auto) W h.trait)))

-- A later version of crate d may add impl i, whose header names only what d sees.
pub record Added (W : World) (d : ℕ) (i : ImplDecl) : Type 0 where
  pub addable : IsTrue (is_addable W d i.header)
  pub scope : IsTrue (in_scope W d i.header)

-- The same world with these impls.
abbrev pub with_impls : World → List ImplDecl → World
with_impls W is = record W { impls = is }

-- Crate c sees, in W, the impls of the list. All other impls that it sees were added by later versions of their crates.
pub record HasLaterImpls (W : World) (c : ℕ) (before : List ImplDecl) : Type 0 where
  pub stand : (i : ImplDecl) → In i before → In i (view_of W c).impls
  pub added : (i : ImplDecl) → In i (view_of W c).impls → In i before ⊎ Added W i.home i

-- In addition, the impls of c itself are all in the list. Ruled out: an impl that c itself has added since then, for
-- example `trait Show; impl Show for u8`, if the answer for c was that nothing implements `Show` for `u8`.
pub record SeesLaterVersions (W : World) (c : ℕ) (before : List ImplDecl) : Type 0 where
  pub later : HasLaterImpls W c before
  pub own : (i : ImplDecl) → In i (view_of W c).impls → i.home ≡ c → In i before
