-- Impls by number, and those that can match a self type.
use Rattle.std.specs.Prelude.{◌≡◌, ℕ, Bool, true, false, ◌==◌, ◌&&◌, nat_lt, not, if◌then◌else◌, List, [], ◌∷◌, map, filter, Option, Some, None}
use Rattle.type_terms.specs.Promised.Trees.{Trees, none, tree, erase}
use Rattle.type_terms.specs.Promised.Worlds.{World, Reference, ImplDecl}
use Rattle.type_terms.specs.Promised.Rules.{same_head}
use Rattle.std.specs.List.{FoldsTo}
use Rattle.type_terms.specs.Promised.Handles.{Entry}
use Rattle.type_terms.specs.declared.ImplId.{ImplId}
use Rattle.declarations.specs.Apart.{are_apart}
use Rattle.declarations.specs.Items.{Items, declared, written}

-- The impls with a number.
abbrev pub impls_named : World → ℕ → List ImplDecl
impls_named W n = filter (λ i. i.name == n) W.impls

-- The impl's self type is a parameter, or has the head of the first type. `impl Show for V<u8>` can match `V<bool>`.
abbrev pub is_relevant_to : Trees → Trees → Bool
is_relevant_to none header = false
is_relevant_to (tree l c o) header = same_head l header

-- The impls of the trait that can match the self type, in the order of the world.
abbrev pub relevant_impls : World → ℕ → Trees → List ImplDecl
relevant_impls W t self = filter (λ i. (i.header.trait == t) && is_relevant_to self i.header.args) W.impls

-- The numbers of impls.
abbrev pub impl_indices : List ImplId → List ℕ
impl_indices ids = map (λ i. i.index) ids

-- The numbers of the impls of the trait that can match the type S, over the terms of an interner.
abbrev pub relevant_in : List Entry → Items → ℕ → Trees → List ℕ
relevant_in es d t S = map (λ i. i.name) (relevant_impls (declared es d) t (erase S))

-- The impl is of the trait, its self type can match the first argument, and its arguments are not disjoint from these.
abbrev pub is_match : ℕ → Trees → ImplDecl → Bool
is_match t args i = (i.header.trait == t) && (is_relevant_to (erase args) (erase i.header.args) && not (are_apart args i.header.args))

-- The numbers of the impls that can match the trait reference, as far as heads and the first levels of the arguments tell.
abbrev pub matches_in : List Entry → Items → Reference → List ℕ
matches_in es d r = map (λ i. i.name) (filter (is_match r.trait r.args) (written es d).impls)

-- The number is above the last one that was considered, if there is one.
abbrev pub is_above : Option ImplId → ℕ → Bool
is_above None n = true
is_above (Some last) n = nat_lt last.index n

-- The first of the numbers that is above the last one that was considered.
abbrev pub next_above : Option ImplId → List ℕ → Option ℕ
next_above last [] = None
next_above last (n ∷ ns) = if is_above last n then Some n else next_above last ns

-- The smaller of two numbers. If only one exists, that one.
abbrev pub smaller_of : Option ℕ → Option ℕ → Option ℕ
smaller_of None n = n
smaller_of (Some m) None = Some m
smaller_of (Some m) (Some n) = if nat_lt m n then Some m else Some n

-- Steps of a closure, one for each impl with these numbers, in their order.
abbrev pub CallsAtEach : {F : Type 0} → (F → ImplId → F → Type 0) → F → List ℕ → Type 0
CallsAtEach {F} step f names = (ids : List ImplId) × (last : F) × (impl_indices ids ≡ names) × FoldsTo step f ids last
