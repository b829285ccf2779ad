-- A summary of the items of a `dyn`, made from the last one on.
use Rattle.std.specs.Prelude.{ℕ, suc, Bool, true, false, ◌==◌, not, ◌||◌, List, [], ◌∷◌, if◌then◌else◌}
use Rattle.text_language.specs.Promised.Declarations.{Declarations, known}
use Rattle.text_language.specs.Promised.Faults.{is_auto_name}
use Rattle.text_language.specs.Lowering.{trait_number, inserted}
use Rattle.text_language.specs.Uses.{ItemShape, bound_shape, lifetime_shape}
use Rattle.text_names.specs.Resolved.{ResolvedCell, Region, node_cell, lifetime_cell, autos_before}
use Rattle.type_terms.specs.Promised.Label.{dynamic}

pub record Summary : Type 0 where
  pub is_empty : Bool
  pub bounds : ℕ
  -- those that aren't auto traits
  pub principals : ℕ
  -- one of them is no auto trait; one after the first is none
  pub has_principal : Bool
  pub has_late : Bool
  pub binds_auto : Bool
  pub has_early_lifetime : Bool
  -- the numbers of the auto traits, rising
  pub autos : List ℕ

abbrev pub no_items : Summary
no_items = record { is_empty = true; bounds = 0; principals = 0; has_principal = false; has_late = false; binds_auto = false; has_early_lifetime = false; autos = [] }

-- with a lifetime before them
abbrev pub with_lifetime : Summary → Summary
with_lifetime x = record x { is_empty = false; has_late = x.has_principal; has_early_lifetime = not x.is_empty }

-- With an auto trait of this number before them, which may have a binder.
abbrev pub with_auto_trait : Bool → ℕ → Summary → Summary
with_auto_trait b n x = record x { is_empty = false; bounds = suc x.bounds; has_late = x.has_principal; binds_auto = b || x.binds_auto; autos = inserted n x.autos }

-- with another trait before them
abbrev pub with_principal : Summary → Summary
with_principal x = record x { is_empty = false; bounds = suc x.bounds; principals = suc x.principals; has_principal = true; has_late = x.has_principal }

abbrev pub with_shape : Declarations → ItemShape → Summary → Summary
with_shape d (bound_shape b n) x = if is_auto_name d n then with_auto_trait b (trait_number (known d n)) x else with_principal x
with_shape d lifetime_shape x = with_lifetime x

abbrev pub summary : Declarations → List ItemShape → Summary
summary d [] = no_items
summary d (i ∷ is) = with_shape d i (summary d is)

-- They do not fit one another.
abbrev pub is_bad : Summary → Bool
is_bad x = (x.bounds == 0) || (x.has_late || (x.binds_auto || x.has_early_lifetime))

-- The lifetime and the auto traits of a `dyn` with this many types, constants and lifetimes.
abbrev pub dyn_cells : Region → List ℕ → ℕ → List ResolvedCell → List ResolvedCell
dyn_cells r ns k cs = autos_before ns (lifetime_cell r ∷ node_cell dynamic k ∷ cs)
