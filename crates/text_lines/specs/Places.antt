-- The spans of the types of a line in its cells.
use Rattle.std.specs.Prelude.{◌≡◌, ◌<◌, ◌≤◌, List, [], ◌∷◌, length, take}
use Rattle.text_language.specs.Promised.Syntax.{TypeTree, named, Bound, Clause, Line, crate_line, struct_line, trait_line, impl_line, prove_line, refute_line, later_line, supers_line}
use Rattle.text_lines.specs.Cells.{Cell, type_onto}
use Rattle.text_lines.specs.Statement.{Statement, crate_statement, struct_statement, trait_statement, impl_statement, prove_statement, refute_statement, later_statement, supers_statement, type_list, line_cells, line_statement}
use Rattle.text_lines.specs.declared.statement.Span.{Span}
use Rattle.text_lines.specs.declared.statement.ClauseSpans.{ClauseSpans}

-- The span holds the cells of the type, at least one, appended to the cells that precede the span.
abbrev pub TypeStands : List Cell → TypeTree → Span → Type 0
TypeStands cells t s = (s.start < s.end) × (s.end ≤ length cells) × (take s.end cells ≡ type_onto t (take s.start cells))

abbrev pub BoundStands : List Cell → Bound → Span → Type 0
BoundStands cells b s = TypeStands cells (named b.trait b.args) s

abbrev pub ClauseStands : List Cell → Clause → ClauseSpans → Type 0
ClauseStands cells k s = TypeStands cells k.subject s.subject × BoundStands cells k.bound s.bound

-- both lists have the same length, and P holds of each two elements with the same index
abbrev pub EachOf : {T Y : Type 0} → (T → Y → Type 0) → List T → List Y → Type 0
EachOf P [] [] = Unit {0}
EachOf P (t ∷ ts) (y ∷ ys) = P t y × EachOf P ts ys
EachOf P _ _ = ⊥

-- each type and bound of the line is at its span in the statement
abbrev pub LineStands : List Cell → Line → Statement → Type 0
LineStands cells (crate_line n us) (crate_statement m vs) = Unit {0}
LineStands cells (struct_line f n ps ts) (struct_statement g m qs ss) = EachOf (TypeStands cells) (type_list ts) ss
LineStands cells (trait_line f a n ps bs) (trait_statement g b m qs ss) = EachOf (BoundStands cells) bs ss
LineStands cells (impl_line ps h ks) (impl_statement qs i ss) = ClauseStands cells h i × EachOf (ClauseStands cells) ks ss
LineStands cells (prove_line c ps k bs ks) (prove_statement d qs i js ss) = EachOf (ClauseStands cells) (k ∷ bs) (i ∷ js) × EachOf (ClauseStands cells) ks ss
LineStands cells (refute_line c ps k bs) (refute_statement d qs i js) = EachOf (ClauseStands cells) (k ∷ bs) (i ∷ js)
LineStands cells (later_line n) (later_statement m) = Unit {0}
LineStands cells (supers_line n) (supers_statement m) = Unit {0}
LineStands cells _ _ = ⊥

abbrev pub SpansStand : Type 0
SpansStand = (l : Line) → LineStands (line_cells l) l (line_statement l)
