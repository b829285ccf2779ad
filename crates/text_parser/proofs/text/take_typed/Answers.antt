use Rattle.std.proofs.Common.{◌∙◌, ap, sym, subst, length}
use Rattle.text_language.specs.Promised.Desugared.{desugared}
use Rattle.text_lines.specs.Pieces.{lists_in}
use Rattle.text_tables.specs.Tables.{declared}
use Rattle.text_parser.specs.Lists.{AreShortLists, HasRoom}
use Rattle.text_parser.proofs.OwnFaults.{overlong-fault, many-fault, typed-comes}
use Rattle.text_parser.proofs.TypedTaken.{typed-lists-short, typed-room}
use Rattle.text_parser.proofs.text.take_typed.Goals as goal

pub returns-then-is_overlong-clause-gives : goal.returns-then-is_overlong-clause-gives
returns-then-is_overlong-clause-gives c = λ w r. overlong-fault (declared c.args.tables.now) c.args.line.now w (sym c.is_overlong.ensures ∙ c.if-is_overlong.true)

pub returns-then-has_many_types-clause-gives : goal.returns-then-has_many_types-clause-gives
returns-then-has_many_types-clause-gives c = λ w r. many-fault (declared c.args.tables.now) c.args.line.now w (sym (c.has_many_types.ensures w r) ∙ c.if-has_many_types.true)

pub take_lists-requires-clause-room : goal.take_lists-requires-clause-room
take_lists-requires-clause-room c =
    let (w, s, typed, r) = c.requires.read in
    subst (λ vs. HasRoom (declared c.args.tables.now) (length vs)) (sym c.deref.ensures.value) (typed-room (declared c.args.tables.now) c.args.line.now w c.in_ok-lists.lists.items s (c.in_ok-lists.ensures w r) c.requires.room)

pub take_lists-requires-clause-lines : goal.take_lists-requires-clause-lines
take_lists-requires-clause-lines c =
    let (w, s, typed, r) = c.requires.read in
    let short = sym c.is_overlong.ensures ∙ c.if-is_overlong.false in
    let few = sym (c.has_many_types.ensures w r) ∙ c.if-has_many_types.false in
    subst AreShortLists (sym c.deref.ensures.value) (typed-lists-short c.args.line.now w c.in_ok-lists.lists.items s typed short few (c.in_ok-lists.ensures w r))

pub returns-clause-gives : goal.returns-clause-gives
returns-clause-gives c = λ w r.
    typed-comes (declared c.args.tables.now) (declared c.take_lists.new.tables) c.args.line.now w c.in_ok-found.found _ c.in_ok-is_ill.is_ill (sym c.is_overlong.ensures ∙ c.if-is_overlong.false) (sym (c.has_many_types.ensures w r) ∙ c.if-has_many_types.false)
    (c.in_ok-found.ensures.gives (desugared w) (ap lists_in c.deref.ensures.value ∙ c.in_ok-lists.ensures w r)) (c.in_ok-is_ill.ensures w r) c.with_own_fault.ensures
