use Rattle.std.proofs.Common.{◌∙◌, ap, sym, subst}
use Rattle.text_language.specs.Promised.Desugared.{desugared}
use Rattle.text_lines.specs.Pieces.{lists_in}
use Rattle.text_tables.specs.Tables.{declared}
use Rattle.text_parser.specs.Lists.{AreShortLists}
use Rattle.text_parser.proofs.OwnFaults.{overlong-fault, many-fault}
use Rattle.text_parser.proofs.Queried.{typed-query, query-alone}
use Rattle.text_parser.proofs.TypedTaken.{typed-lists-short}
use Rattle.text_parser.proofs.query_line.read_typed_behind.Goals as goal

pub returns-then-is_overlong : goal.returns-then-is_overlong
returns-then-is_overlong c = λ w r. overlong-fault (declared c.args.tables.now) c.args.line.now w (sym c.is_overlong.ensures ∙ c.if-is_overlong.true)

pub returns-then-has_many_types : goal.returns-then-has_many_types
returns-then-has_many_types c = λ w r. many-fault (declared c.args.tables.now) c.args.line.now w (sym (c.has_many_types.ensures w r) ∙ c.if-has_many_types.true)

pub read_lists_behind-requires-clause-lines : goal.read_lists_behind-requires-clause-lines
read_lists_behind-requires-clause-lines c =
    let (w, s, typed, r) = c.requires.read in
    let short = sym c.is_overlong.ensures ∙ c.if-is_overlong.false in
    let few = sym (c.has_many_types.ensures w r) ∙ c.if-has_many_types.false in
    subst AreShortLists (sym c.deref.ensures.value) (typed-lists-short c.args.line.now w c.in_ok-lists.lists.items s typed short few (c.in_ok-lists.ensures w r))

pub returns : goal.returns
returns c = λ w r.
    typed-query (declared c.args.tables.now) c.args.line.now w c.in_ok-query.query _ c.in_ok-is_ill.is_ill (sym c.is_overlong.ensures ∙ c.if-is_overlong.false) (sym (c.has_many_types.ensures w r) ∙ c.if-has_many_types.false)
    (c.in_ok-query.ensures (desugared w) (ap lists_in c.deref.ensures.value ∙ c.in_ok-lists.ensures w r) (query-alone w (c.requires.query w r))) (c.in_ok-is_ill.ensures w r) (c.with_own_fault.ensures (declared c.args.tables.now))
