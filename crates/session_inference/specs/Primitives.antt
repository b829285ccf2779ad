-- Types without parts, as terms.
use Rattle.type_terms.specs.Kinds.{int_number, uint_number}
use Rattle.type_terms.specs.Promised.Label.{bool, char, int, never, str, uint}
use Rattle.type_terms.specs.Promised.Trees.{Trees, leaf}
use Rattle.session_inference.specs.declared.primitive.Primitive.{Primitive}
use Rattle.session_inference.specs.declared.primitive.Primitive.TheVariants.{Bool, Char, Int, Uint, Str, Never}

abbrev pub primitive_trees : Primitive → Trees
primitive_trees Bool = leaf bool
primitive_trees Char = leaf char
primitive_trees (Int w) = leaf (int (int_number w))
primitive_trees (Uint w) = leaf (uint (uint_number w))
primitive_trees Str = leaf str
primitive_trees Never = leaf never
