-- The tables of frames are lawful.
use Rattle.goal_evaluator.specs.Table.{IsTable}
use Rattle.goal_evaluator.specs.Tables.{frame_tables}
use Rattle.goal_evaluator.proofs.Questions.{instance_of_question}
use Rattle.goal_evaluator.proofs.OperationLaws.{equate_narrows, equate_meets, equate_keeps, apply_narrows, apply_keeps, recorded_narrows, recorded_keeps}
use Rattle.goal_evaluator.proofs.Answering.{respond_keeps, respond_certainty, overflow_is_bare, bare-agrees}
use Rattle.goal_evaluator.proofs.Freedom.{respond_free}
use Rattle.goal_evaluator.proofs.Fresh.{fresh-made}
use Rattle.goal_evaluator.proofs.Determined.{own-determine}
use Rattle.goal_evaluator.proofs.WidthLaws.{fresh_within, equate_within, recorded_within, apply_within, question_within, respond_within}

pub tables_are_lawful : IsTable frame_tables
tables_are_lawful = record {
  instance = instance_of_question;
  made_of_own = own-determine;
  fresh_made = λ t kinds m. fresh-made t m kinds;
  equate_narrows = equate_narrows;
  equate_meets = equate_meets;
  apply_narrows = apply_narrows;
  recorded_narrows = recorded_narrows;
  apart = λ t s h. h.allowed;
  equate_keeps = equate_keeps;
  apply_keeps = λ t n a s h k g. apply_keeps t n a s h g;
  recorded_keeps = recorded_keeps;
  respond_keeps = respond_keeps;
  respond_certainty = respond_certainty;
  respond_free = respond_free;
  respond_overflow = overflow_is_bare;
  agrees = bare-agrees;
  within_made = λ n t h. h.made;
  fresh_within = fresh_within;
  equate_within = equate_within;
  recorded_within = recorded_within;
  apply_within = apply_within;
  question_within = question_within;
  respond_within = respond_within;
}
