use Rattle.std.proofs.Common.{◌≤◌, length, map, reverse, [], sym, ap, ◌∙◌, arith}
use Rattle.text_lines.specs.TokenViews.{text_of}
use Rattle.text_lines.specs.Back.{down_to, names_before}
use Rattle.text_lines.proofs.Counting.{names-jump, names-none, length-down-to}
use Rattle.text_lines.proofs.cell_cursor.CellCursor.names_between.Goals as goal

pub loop-rest-init : goal.loop-rest-init
loop-rest-init c =
    let s = c.args.start in
    let i = c.args.inner in
    record {
      so_far = ap (λ xs. names_before s i c.down_to.new.self (map text_of (reverse xs))) c.new-names.ensures.items
          ∙ ap (λ x. names_before s i x []) (c.down_to.ensures ∙ ap (down_to i) c.fork-rest.ensures) ∙ sym (names-jump s i c.args.self.now []);
      within = rw c.down_to.ensures (length-down-to i c.fork-rest.result);
    }

pub returns : goal.returns
returns c =
    let none : length c.loop-rest.rest ≤ c.args.start = omega arith in
    ap (map text_of) c.reverse.ensures.items ∙ sym (names-none c.args.start c.args.inner c.loop-rest.rest (map text_of (reverse c.loop-rest.names.items)) none) ∙ c.loop-rest.invariant.so_far
