-- The impls that a crate sees, by their traits. V is the world of what the crate c sees.
use Rattle.std.specs.Prelude.{◌≡◌, ℕ, ◌==◌, Bool, List, [], map, None}
use Rattle.std.specs.HashMap.{get_by}
use Rattle.std.specs.Option.{option_map_or}
use Rattle.type_terms.specs.Promised.Answers.{CommonInstance}
use Rattle.type_terms.specs.Promised.Proofs.{In}
use Rattle.type_terms.specs.Promised.Worlds.{World, ImplDecl}
use Rattle.type_terms.specs.Promised.Handles.{Entry, trees_at}
use Rattle.type_terms.specs.declared.ImplId.{ImplId}
use Rattle.type_terms.specs.declared.TraitId.{TraitId}
use Rattle.type_terms.specs.Promised.LinkedSet.{IsPair}
use Rattle.declarations.specs.Heads.{head_of}
use Rattle.declarations.specs.declared.items.ImplDef.{ImplDef}
use Rattle.pair_checks.specs.declared.by_trait.ImplsByTrait.{ImplsByTrait}

-- Two traits are one.
abbrev pub is_trait : TraitId → TraitId → Bool
is_trait t u = t.index == u.index

-- The impls that are listed under a trait.
abbrev pub listed : ImplsByTrait → TraitId → List ImplId
listed m t = option_map_or (λ v. v.items) (get_by (is_trait t) m.traits) []

-- One of the impls has this number.
abbrev pub HasNumber : ℕ → List ImplId → Type 0
HasNumber n ids = In n (map (λ (i : ImplId). i.index) ids)

-- Each of the numbers is that of one of the impls.
abbrev pub HaveNumbers : List ℕ → List ImplId → Type 0
HaveNumbers ns ids = (n : ℕ) → In n ns → HasNumber n ids

-- The impl is listed under its trait.
abbrev pub IsListed : ImplsByTrait → ImplDecl → Type 0
IsListed m y = (t : TraitId) → t.index ≡ y.header.trait → HasNumber y.name (listed m t)

-- Each impl of the world is listed.
abbrev pub ListsAll : World → ImplsByTrait → Type 0
ListsAll V m = (y : ImplDecl) → In y V.impls → IsListed m y

-- The impl is one of c, and its self type is a parameter.
abbrev pub IsOwnBlanket : ℕ → ImplDecl → Type 0
IsOwnBlanket c x = (x.home ≡ c) × (head_of x.header.args ≡ None)

-- The same for an impl of declarations, over the terms of an interner.
abbrev pub DeclaresOwnBlanket : List Entry → ℕ → ImplDef → Type 0
DeclaresOwnBlanket es c def = (def.home.index ≡ c) × (head_of (trees_at es def.header.args.0) ≡ None)

-- The crate c writes no such impl.
abbrev pub HasNoOwnBlanket : World → ℕ → Type 0
HasNoOwnBlanket V c = (x : ImplDecl) → In x V.impls → IsOwnBlanket c x → ⊥

-- Each impl is listed, if c writes an impl whose self type is a parameter.
abbrev pub ListsImpls : World → ℕ → ImplsByTrait → Type 0
ListsImpls V c m = (x : ImplDecl) → In x V.impls → IsOwnBlanket c x → ListsAll V m

-- Each impl that c brings together with impl number k, and that has a common instance with it, is one of these.
abbrev pub HavePartners : World → ℕ → ℕ → List ImplId → Type 0
HavePartners V c k ids = (x y : ImplDecl) → IsPair V c x y → x.name ≡ k → CommonInstance x y → HasNumber y.name ids
