-- What names stand for among the resolved cells.
use Rattle.std.proofs.Common.{◌≡◌, ℕ, Bool, false, List, Option, Some, None, ap, ◌∙◌}
use Rattle.std.specs.Prelude.{is_some, if◌then◌else◌}
use Rattle.std.specs.Option.{option_map_or}
use Rattle.type_terms.specs.Promised.Label.{Label, of_type}
use Rattle.text_language.specs.Promised.Declarations.{Declarations, Known, a_crate, a_struct, a_trait, known}
use Rattle.text_language.specs.Promised.Faults.{is_auto_name}
use Rattle.text_language.specs.Lowering.{place_among, struct_label}
use Rattle.text_language.specs.Promised.Syntax.{Params}
use Rattle.text_names.specs.LookUps.{place_in}
use Rattle.text_names.specs.Resolved.{named_cell, param_cell, node_cell}
use Rattle.text_names.proofs.Judged.{among-place, place-is}

abbrev pub auto_of : Option Known → Bool
auto_of o = option_map_or (λ k. elim k [ a_crate i ↦ false | a_struct i h kinds ↦ false | a_trait i h a kinds ↦ a ]) o false

pub auto_by : (d : Declarations) (n : List ℕ) (o : Option Known) → o ≡ known d n → auto_of o ≡ is_auto_name d n
auto_by d n o e = ap auto_of e

-- a parameter, or what is known
pub type-param : (d : Declarations) (ps : Params) (n : List ℕ) (k i : ℕ) → Some i ≡ place_in n ps.types → param_cell of_type i k ≡ named_cell d ps n k
type-param d ps n k i e =
    ap (λ j. param_cell of_type j k) (place-is i n ps.types e)
    ∙ ap (λ b. if b then param_cell of_type (place_among n ps.types) k else node_cell (struct_label (known d n)) k) (ap is_some e ∙ among-place 0 n ps.types)

pub type-item : (d : Declarations) (ps : Params) (n : List ℕ) (k : ℕ) (o : Option Known) (l : Label) → None ≡ place_in n ps.types → l ≡ struct_label o → o ≡ known d n → node_cell l k ≡ named_cell d ps n k
type-item d ps n k o l e f g =
    ap (λ x. node_cell x k) (f ∙ ap struct_label g)
    ∙ ap (λ b. if b then param_cell of_type (place_among n ps.types) k else node_cell (struct_label (known d n)) k) (ap is_some e ∙ among-place 0 n ps.types)
