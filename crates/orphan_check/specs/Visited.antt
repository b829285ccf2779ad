-- The entries of the set of visited types.
use Rattle.std.specs.Prelude.{◌&&◌, ℕ, Bool, nat_eq}
use Rattle.type_terms.specs.declared.kinds.Ty.{Ty}
use Rattle.orphan_check.specs.declared.visited.Visit.{Visit}

-- Two visits are equal: of the same handle, with the same limit.
abbrev pub visit_eq : Visit → Visit → Bool
visit_eq v w = nat_eq v.ty w.ty && nat_eq v.limit w.limit

-- The visit of a type with this limit.
abbrev pub visit_at : Ty → ℕ → Visit
visit_at t n = record { ty = t.0; limit = n }
