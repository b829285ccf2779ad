use Rattle.std.proofs.Common.{◌≡◌, ◌∷◌, [], ◌++◌, Some, sym, ap, ◌∙◌}
use Rattle.std.proofs.lemmas.List.{map_push}
use Rattle.text_lines.specs.Marks.{after_type, after_semicolon}
use Rattle.text_lines.specs.Parts.{before_mark}
use Rattle.text_lines.specs.WrittenParts.{binding_at}
use Rattle.text_lines.specs.Steps.{progress_of}
use Rattle.text_lines.specs.WrittenViews.{binding_of, bindings_in}
use Rattle.text_lines.proofs.EachMark.{type-mark}
use Rattle.text_lines.proofs.Going.{begin, go_on, stop, shorter}
use Rattle.text_lines.proofs.WrittenLists.{ended-binding-part}
use Rattle.text_lines.proofs.reader.Reader.given_list.Goals as goal

pub given-init : goal.given-init
given-init c = rw c.new-given.ensures.items (begin (before_mark binding_at after_semicolon) after_type (progress_of c.args.self.now))

pub given-smaller : goal.given-smaller
given-smaller c = shorter ended-binding-part type-mark (progress_of c.given.self) (progress_of c.ended_binding.new.self) (binding_of c.in_ok-binding.binding) c.take_type.new.self c.in_ok-binding.ensures c.if-not-take_type.ensures

pub given-preserved : goal.given-preserved
given-preserved c =
    let pushed : bindings_in c.push.new.self.items ≡ bindings_in c.given.given.items ++ (binding_of c.in_ok-binding.binding) ∷ [] = rw c.in_ok-push.ensures.items (map_push binding_of c.given.given.items c.in_ok-binding.binding) in
    let less = shorter ended-binding-part type-mark (progress_of c.given.self) (progress_of c.ended_binding.new.self) (binding_of c.in_ok-binding.binding) c.take_type.new.self c.in_ok-binding.ensures c.if-not-take_type.ensures in
    rw pushed (go_on (before_mark binding_at after_semicolon) after_type _ (progress_of c.given.self) (progress_of c.ended_binding.new.self) (bindings_in c.given.given.items) (binding_of c.in_ok-binding.binding) c.take_type.new.self c.in_ok-binding.ensures c.if-not-take_type.ensures less c.given.invariant)

pub returns-then-not-take_type : goal.returns-then-not-take_type
returns-then-not-take_type c =
    let pushed : bindings_in c.push.new.self.items ≡ bindings_in c.given.given.items ++ (binding_of c.in_ok-binding.binding) ∷ [] = rw c.in_ok-push.ensures.items (map_push binding_of c.given.given.items c.in_ok-binding.binding) in
    stop (before_mark binding_at after_semicolon) after_type (progress_of c.args.self.now) (progress_of c.given.self) (progress_of c.ended_binding.new.self) (bindings_in c.given.given.items) (binding_of c.in_ok-binding.binding) c.in_ok-binding.ensures c.if-not-take_type.ensures.0 c.given.invariant
    ∙ ap (λ z. Some (z, progress_of c.ended_binding.new.self)) (sym pushed)
    ∙ ap (λ z. Some (bindings_in c.push.new.self.items, ((progress_of c.ended_binding.new.self).0, z))) (sym c.if-not-take_type.ensures.1)
