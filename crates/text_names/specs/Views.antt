-- What the values of the code stand for among the definitions.
use Rattle.std.specs.Prelude.{ℕ, List, [], ◌∷◌, map}
use Rattle.std.specs.Borrow.{Bor}
use Rattle.std.specs.declared.vec.Vec.{Vec}
use Rattle.type_terms.specs.Promised.Label as label
use Rattle.text_language.specs.Tokens.{number_from}
use Rattle.text_lines.specs.TokenViews.{primitive_label, text_of}
use Rattle.text_tables.specs.Views.{sort_of_kind}
use Rattle.text_names.specs.Resolved as resolved
use Rattle.text_names.specs.declared.resolved.Region.{Region}
use Rattle.text_names.specs.declared.resolved.Region.TheVariants as regions
use Rattle.text_names.specs.declared.resolved.NodeLabel.{NodeLabel}
use Rattle.text_names.specs.declared.resolved.NodeLabel.TheVariants as labels
use Rattle.text_names.specs.declared.resolved.ResolvedCell.{ResolvedCell}
use Rattle.text_names.specs.declared.resolved.ResolvedCell.TheVariants as cells
use Rattle.text_names.specs.declared.resolved.Variable.{Variable}

abbrev pub region_in : Region → resolved.Region
region_in regions.Static = resolved.static_region
region_in (regions.Param i) = resolved.param_region i
region_in (regions.Bound k i) = resolved.bound_region k i

abbrev pub label_in : NodeLabel → label.Label
label_in (labels.Primitive p) = primitive_label p
label_in labels.Never = label.never
label_in labels.Array = label.array
label_in labels.Slice = label.slice
label_in labels.Tuple = label.tuple
label_in labels.Dynamic = label.dynamic
label_in (labels.Struct n) = label.adt n
label_in (labels.Fn n) = label.fn_ptr n
label_in (labels.Auto n) = label.auto_trait n
label_in (labels.Principal k n) = label.principal k n
label_in (labels.Pointer m) = label.raw_pointer m
label_in (labels.Value d) = label.value (number_from 0 d.now)

abbrev pub resolved_in : ResolvedCell → resolved.ResolvedCell
resolved_in (cells.Node l k) = resolved.node_cell (label_in l) k
resolved_in (cells.Param p i k) = resolved.param_cell (sort_of_kind p) i k
resolved_in (cells.Variable p n) = resolved.variable_cell (sort_of_kind p) n.now
resolved_in (cells.Lifetime r) = resolved.lifetime_cell (region_in r)
resolved_in (cells.Reference r m) = resolved.reference_cell (region_in r) m

abbrev pub variable_in : Variable → List ℕ × label.Sort
variable_in v = (v.name.now, sort_of_kind v.sort)

-- What was stored last comes first.
abbrev pub resolved_onto : List ResolvedCell → List resolved.ResolvedCell → List resolved.ResolvedCell
resolved_onto [] cs = cs
resolved_onto (x ∷ xs) cs = resolved_onto xs (resolved_in x ∷ cs)

abbrev pub variables_onto : List Variable → List (List ℕ × label.Sort) → List (List ℕ × label.Sort)
variables_onto [] vs = vs
variables_onto (x ∷ xs) vs = variables_onto xs (variable_in x ∷ vs)

-- the binders of a stack, the last in the vector innermost
abbrev pub scope_onto : {A : Type 0} → List (Vec (Bor (List ℕ)) A) → List (List (List ℕ)) → List (List (List ℕ))
scope_onto [] s = s
scope_onto (b ∷ bs) s = scope_onto bs (map text_of b.items ∷ s)
