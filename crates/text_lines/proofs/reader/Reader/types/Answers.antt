use Rattle.std.proofs.Common.{◌≡◌, ◌∷◌, [], ◌++◌}
use Rattle.text_lines.specs.Marks.{after_comma}
use Rattle.text_lines.specs.Parts.{type_at}
use Rattle.text_lines.specs.Steps.{progress_of}
use Rattle.text_lines.proofs.EachMark.{comma-mark}
use Rattle.text_lines.proofs.Going.{begin, go_on, shorter}
use Rattle.text_lines.proofs.Types.{type-part}
use Rattle.text_lines.proofs.reader.Reader.types.Goals as goal

pub types-init : goal.types-init
types-init c = rw c.new-types.ensures.items (begin type_at after_comma (progress_of c.args.self.now))

pub types-smaller : goal.types-smaller
types-smaller c = shorter type-part comma-mark (progress_of c.types.self) (progress_of c.read_type.new.self) c.in_ok-span.span c.take_comma.new.self c.in_ok-span.ensures (c.if-not-take_comma.ensures)

pub types-preserved : goal.types-preserved
types-preserved c =
    let pushed : c.push.new.self.items ≡ c.types.types.items ++ c.in_ok-span.span ∷ [] = c.in_ok-push.ensures.items in
    let less = shorter type-part comma-mark (progress_of c.types.self) (progress_of c.read_type.new.self) c.in_ok-span.span c.take_comma.new.self c.in_ok-span.ensures (c.if-not-take_comma.ensures) in
    rw pushed (go_on type_at after_comma _ (progress_of c.types.self) (progress_of c.read_type.new.self) c.types.types.items c.in_ok-span.span c.take_comma.new.self c.in_ok-span.ensures (c.if-not-take_comma.ensures) less c.types.invariant)
