-- The tables of frames, with all their operations.
use Rattle.std.specs.Prelude.{List, not}
use Rattle.type_terms.specs.Promised.Trees.{Trees}
use Rattle.type_terms.specs.Trees.{is_no_tree}
use Rattle.infer_table.specs.declared.canonical.CanonicalVarKind.{CanonicalVarKind}
use Rattle.infer_table.specs.Responses.{AnswerTrees}
use Rattle.goal_evaluator.specs.Table.{Tables}
use Rattle.goal_evaluator.specs.Content.{Values, Fact, NestedQuestion, fact_of, ChosenTerms}
use Rattle.goal_evaluator.specs.FrameTables.{FrameTable, IsMadeFrame, Allows, AllowsApart, Nested, question, fact, values_at, Equation, EquationIsMet}
use Rattle.goal_evaluator.specs.TableAnswers.{has_values, IsInstanceOfAnswer, respond}
use Rattle.goal_evaluator.specs.Finite.{made_of}
use Rattle.goal_evaluator.specs.Widths.{number_of, number_of_values, TableWithin, NestedWithin, EquationWithin}
use Rattle.goal_evaluator.specs.TableOperations.{equate, fresh, recorded, apply}

-- Assignments are terms for all inference variables. Trait references have their where-clauses. Numbers are widths.
abbrev pub frame_tables : Tables NestedQuestion AnswerTrees
frame_tables = record {
  Assignment = ChosenTerms;
  Values = Values;
  Fact = Fact;
  Table = FrameTable;
  Nested = Nested;
  Equation = Equation;
  Kinds = List CanonicalVarKind;
  Regions = Trees;
  Made = IsMadeFrame;
  Allows = Allows;
  AllowsApart = AllowsApart;
  Knows = λ t n. Unit {0};
  fact = fact;
  Meets = EquationIsMet;
  question = question;
  fact_of = fact_of;
  at = values_at;
  own = λ s. s.own;
  made_of = made_of;
  is_coinductive = λ q. q.coinductive;
  Agrees = IsInstanceOfAnswer;
  certainty = λ a. a.certainty;
  has_values = has_values;
  has_regions = λ a. not (is_no_tree a.constraints);
  fresh = fresh;
  equate = equate;
  recorded = recorded;
  apply = apply;
  respond = respond;
  number_of = number_of;
  number_in = λ a. number_of_values a.values;
  TableWithin = TableWithin;
  NestedWithin = NestedWithin;
  EquationWithin = EquationWithin;
}
