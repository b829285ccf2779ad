-- The pairs of impls of one trait that a crate has to check for overlap, by index.
use Rattle.std.specs.Prelude.{◌≡◌, ◌≢◌, ℕ, ◌<◌, Bool, ◌==◌, ◌&&◌, ◌||◌, not, nat_lt, List, Some}
use Rattle.type_terms.specs.Promised.Erased.{erased_impl}
use Rattle.type_terms.specs.Promised.Worlds.{World, ImplDecl}
use Rattle.type_terms.specs.Promised.Handles.{Entry}
use Rattle.type_terms.specs.declared.ImplId.{ImplId}
use Rattle.type_terms.specs.Promised.LinkedSet.{IsPair}
use Rattle.declarations.specs.Items.{Items, IsAbove, declared, impl_at, impl_in}
use Rattle.declarations.specs.declared.items.ImplDef.{ImplDef}

-- The impl with index k is of crate c. The impl with index j is of the same trait, and it is of another crate or has a smaller index.
abbrev pub are_partners : ℕ → ImplId → ImplDef → ImplId → ImplDef → Bool
are_partners c k w j x = (w.home.index == c) && ((w.header.def_id.index == x.header.def_id.index) && (not (x.home.index == c) || nat_lt j.index k.index))

-- The impls with these indices are of one trait, and a pair that this crate has to check.
pub record IsPairAt (es : List Entry) (d : Items) (k j : ImplId) (w x : ImplDef) : Type 0 where
  pub later : Some w ≡ impl_at k.index d.impls
  pub earlier : Some x ≡ impl_at j.index d.impls
  pub pair : IsPair (declared es d) d.local (erased_impl (impl_in es k w)) (erased_impl (impl_in es j x))
  pub one_trait : w.header.def_id.index ≡ x.header.def_id.index

-- No pair of one trait that c has to check has these indices.
abbrev pub NoPairAt : World → ℕ → ℕ → ℕ → Type 0
NoPairAt V c k j = (x y : ImplDecl) → IsPair V c x y → x.name ≡ k → y.name ≡ j → x.header.trait ≢ y.header.trait

-- If the indices of all impls are below `end`, so are those of each pair.
abbrev pub PairsAreBelow : Type 0
PairsAreBelow =
    (es : List Entry) (d : Items) (end : ℕ) → IsAbove end d → (x y : ImplDecl) → IsPair (declared es d) d.local x y
    → (x.name < end) × (y.name < end)
