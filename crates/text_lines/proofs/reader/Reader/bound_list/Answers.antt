use Rattle.std.proofs.Common.{◌≡◌, ◌∷◌, [], ◌++◌, ap}
use Rattle.text_lines.specs.Marks.{after_plus}
use Rattle.text_lines.specs.Parts.{bound_at}
use Rattle.text_lines.specs.Steps.{progress_of}
use Rattle.text_lines.proofs.EachMark.{plus-mark}
use Rattle.text_lines.proofs.Going.{begin, go_on, shorter}
use Rattle.text_lines.proofs.Types.{bound-part}
use Rattle.text_lines.proofs.reader.Reader.bound_list.Goals as goal

pub bounds-init : goal.bounds-init
bounds-init c = rw c.new-bounds.ensures.items (begin bound_at after_plus (progress_of c.args.self.now))

pub bounds-smaller : goal.bounds-smaller
bounds-smaller c = shorter bound-part plus-mark (progress_of c.bounds.self) (progress_of c.bound.new.self) c.in_ok-bound.bound c.take_plus.new.self c.in_ok-bound.ensures (ap after_plus c.if-not-take_plus.ensures)

pub bounds-preserved : goal.bounds-preserved
bounds-preserved c =
    let pushed : c.push.new.self.items ≡ c.bounds.bounds.items ++ c.in_ok-bound.bound ∷ [] = c.in_ok-push.ensures.items in
    let less = shorter bound-part plus-mark (progress_of c.bounds.self) (progress_of c.bound.new.self) c.in_ok-bound.bound c.take_plus.new.self c.in_ok-bound.ensures (ap after_plus c.if-not-take_plus.ensures) in
    rw pushed (go_on bound_at after_plus _ (progress_of c.bounds.self) (progress_of c.bound.new.self) c.bounds.bounds.items c.in_ok-bound.bound c.take_plus.new.self c.in_ok-bound.ensures (ap after_plus c.if-not-take_plus.ensures) less c.bounds.invariant)
