use Rattle.std.proofs.Common.{◌≡◌, ◌∷◌, [], ◌++◌, Some, sym, ap, ◌∙◌}
use Rattle.std.proofs.lemmas.List.{map_push}
use Rattle.text_lines.specs.Marks.{after_plus}
use Rattle.text_lines.specs.WrittenParts.{bound_tokens_at}
use Rattle.text_lines.specs.Steps.{progress_of}
use Rattle.text_lines.specs.WrittenViews.{bound_of, bounds_in}
use Rattle.text_lines.proofs.EachMark.{plus-mark, no-plus}
use Rattle.text_lines.proofs.Going.{begin, go_on, stop, shorter}
use Rattle.text_lines.proofs.WrittenTypes.{bound-tokens-part}
use Rattle.text_lines.proofs.reader.Reader.bound_tokens_list.Goals as goal

pub bounds-init : goal.bounds-init
bounds-init c = rw c.new-bounds.ensures.items (begin bound_tokens_at after_plus (progress_of c.args.self.now))

pub bounds-smaller : goal.bounds-smaller
bounds-smaller c = shorter bound-tokens-part plus-mark (progress_of c.bounds.self) (progress_of c.bound_tokens.new.self) (bound_of c.in_ok-bound.bound) c.take_plus.new.self c.in_ok-bound.ensures (ap after_plus c.if-not-take_plus.ensures)

pub bounds-preserved : goal.bounds-preserved
bounds-preserved c =
    let pushed : bounds_in c.push.new.self.items ≡ bounds_in c.bounds.bounds.items ++ (bound_of c.in_ok-bound.bound) ∷ [] = rw c.in_ok-push.ensures.items (map_push bound_of c.bounds.bounds.items c.in_ok-bound.bound) in
    let less = shorter bound-tokens-part plus-mark (progress_of c.bounds.self) (progress_of c.bound_tokens.new.self) (bound_of c.in_ok-bound.bound) c.take_plus.new.self c.in_ok-bound.ensures (ap after_plus c.if-not-take_plus.ensures) in
    rw pushed (go_on bound_tokens_at after_plus _ (progress_of c.bounds.self) (progress_of c.bound_tokens.new.self) (bounds_in c.bounds.bounds.items) (bound_of c.in_ok-bound.bound) c.take_plus.new.self c.in_ok-bound.ensures (ap after_plus c.if-not-take_plus.ensures) less c.bounds.invariant)

pub returns-then-not-take_plus : goal.returns-then-not-take_plus
returns-then-not-take_plus c =
    let pushed : bounds_in c.push.new.self.items ≡ bounds_in c.bounds.bounds.items ++ (bound_of c.in_ok-bound.bound) ∷ [] = rw c.in_ok-push.ensures.items (map_push bound_of c.bounds.bounds.items c.in_ok-bound.bound) in
    stop bound_tokens_at after_plus (progress_of c.args.self.now) (progress_of c.bounds.self) (progress_of c.bound_tokens.new.self) (bounds_in c.bounds.bounds.items) (bound_of c.in_ok-bound.bound) c.in_ok-bound.ensures (no-plus (progress_of c.bound_tokens.new.self).1 c.if-not-take_plus.ensures.1) c.bounds.invariant
    ∙ ap (λ z. Some (z, progress_of c.bound_tokens.new.self)) (sym pushed)
    ∙ ap (λ z. Some (bounds_in c.push.new.self.items, ((progress_of c.bound_tokens.new.self).0, z))) (sym c.if-not-take_plus.ensures.0)
