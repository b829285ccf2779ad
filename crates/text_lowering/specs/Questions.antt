-- Queries of a text, and their terms.
use Rattle.std.specs.Prelude.{◌≡◌, List, ◌∷◌, map}
use Rattle.text_language.specs.Promised.Declarations.{Question, Variable}
use Rattle.text_language.specs.Names.{own_from, own_unknowns}
use Rattle.type_terms.specs.Promised.Handles.{arg_trees, ArgsHeld, Entry}
use Rattle.type_terms.specs.declared.kinds.GenericArgKind.{GenericArgKind}
use Rattle.declarations.specs.Applied.{references_in, TraitRefsHeld}
use Rattle.declarations.specs.Held.{ReferenceHeld}
use Rattle.declarations.specs.Items.{reference_in}
use Rattle.text_tables.specs.Views.{sort_of_kind}
use Rattle.text_tables.specs.declared.cell.ParamKind.{ParamKind}
use Rattle.text_lowering.specs.Promised.SeenWorlds.{unbound_reference}
use Rattle.text_lowering.specs.Plain.{unbound_references}
use Rattle.text_lowering.specs.declared.question.LoweredQuestion.{LoweredQuestion}
use Rattle.text_lowering.specs.declared.question.Counts.{Counts}

-- The terms are the query's, without binders. Its parameters are placeholders, and its variables are inference variables. These are listed
-- in the order of the query's variables.
pub record IsLowered (es : List Entry) (q : Question) (l : LoweredQuestion) : Type 0 where
  pub asked : reference_in es l.asked ≡ unbound_reference q.asked
  pub further : references_in es l.further.items ≡ unbound_references q.further
  pub clauses : references_in es l.clauses.items ≡ unbound_references q.clauses
  pub unknowns : map (arg_trees es) l.unknowns.items ≡ own_unknowns q
  pub asked_held : ReferenceHeld es l.asked
  pub further_held : TraitRefsHeld es l.further.items
  pub clauses_held : TraitRefsHeld es l.clauses.items
  pub unknowns_held : ArgsHeld es l.unknowns.items

-- The inference variable for the first of these variables, of this kind, after as many of each kind as were counted.
abbrev pub IsNextUnknown : List Entry → ParamKind → Counts → GenericArgKind → Counts → Type 0
IsNextUnknown es kind before arg behind =
    (v : Variable) (vs : List Variable) → v.kind ≡ sort_of_kind kind → own_from before.types before.consts (v ∷ vs) ≡ arg_trees es arg ∷ own_from behind.types behind.consts vs
