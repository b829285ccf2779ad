use Rattle.std.proofs.Common.{◌∷◌, length, Ok, Err, sym, ap, ◌∙◌, subst, add-one, arith}
use Rattle.text_language.specs.Text.{LinesGive, ends, fails, goes_on}
use Rattle.text_names.specs.FaultNumbers.{fault_number}
use Rattle.text_tables.specs.Tables.{declared}
use Rattle.text_parser.specs.Lines.{lines_behind}
use Rattle.text_parser.proofs.Taking.{room-at-first, room-less, room-behind, few-behind}
use Rattle.text_parser.proofs.text.take_lines.Goals as goal

pub lines-init : goal.lines-init
lines-init c = record {
  agrees = c.requires.agrees;
  room = room-at-first _ _ c.requires.few c.requires.short;
  counted = omega arith;
  short = omega (arith, c.requires.short);
  so_far = λ r h. h;
}

pub take_line-requires-clause-room : goal.take_line-requires-clause-room
take_line-requires-clause-room c = room-less _ _ (length c.lines.rest.now) c.split_line.ensures.within c.lines.invariant.room

pub returns-in-Some-clause-refused : goal.returns-in-Some-clause-refused
returns-in-Some-clause-refused c =
    let given = rw c.in-Some.is at c.in_ok-kind.ensures.gives in
    c.lines.invariant.so_far _ (subst (λ ls. LinesGive (declared c.lines.tables) c.lines.place ls (Err (c.lines.place, fault_number c.in-Some.kind))) (sym c.split_line.ensures.lines) (fails _ _ _ _ _ given))

pub returns-in-None-clause-taken : goal.returns-in-None-clause-taken
returns-in-None-clause-taken c =
    let given = rw c.in_default.is at c.in_ok-kind.ensures.gives in
    let whole = c.split_line.ensures.lines ∙ ap (λ b. c.split_line.result.0.now ∷ lines_behind b) c.in-None.is in
    c.lines.invariant.so_far _ (subst (λ ls. LinesGive (declared c.lines.tables) c.lines.place ls (Ok (declared c.take_line.new.tables))) (sym whole) (goes_on _ _ _ _ _ _ given (ends _ _)))

pub returns-in-None-clause-few : goal.returns-in-None-clause-few
returns-in-None-clause-few c =
    let given = rw c.in_default.is at c.in_ok-kind.ensures.gives in
    few-behind _ _ _ given (room-less _ _ (length c.lines.rest.now) c.split_line.ensures.within c.lines.invariant.room)

pub lines-preserved : goal.lines-preserved
lines-preserved c =
    let given = rw c.in_default.is at c.in_ok-kind.ensures.gives in
    let whole = c.split_line.ensures.lines ∙ ap (λ b. c.split_line.result.0.now ∷ lines_behind b) c.in-Some-behind.is in
    let shorter = rw c.in-Some-behind.is at c.split_line.ensures.left in
    record {
      agrees = c.in_ok-kind.ensures.agrees;
      room = room-behind _ _ _ _ (length c.lines.rest.now) given (omega (arith, shorter)) c.lines.invariant.room;
      counted = omega arith;
      short = omega (arith, shorter, c.lines.invariant.short);
      so_far = λ r h. c.lines.invariant.so_far r (subst (λ ls. LinesGive (declared c.lines.tables) c.lines.place ls r) (sym whole) (goes_on _ _ _ _ _ _ given (rw add-one at h)));
    }
