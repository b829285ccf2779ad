use Rattle.std.proofs.Common.{◌≡◌, ◌∷◌, [], ◌++◌, Some, sym, ap, ◌∙◌}
use Rattle.std.proofs.lemmas.List.{map_push}
use Rattle.text_lines.specs.Marks.{after_type, after_semicolon}
use Rattle.text_lines.specs.Parts.{before_mark, name_at}
use Rattle.text_lines.specs.Steps.{progress_of}
use Rattle.text_lines.specs.TokenViews.{text_of}
use Rattle.text_lines.specs.Views.{texts_in}
use Rattle.text_lines.proofs.EachMark.{type-mark}
use Rattle.text_lines.proofs.Going.{begin, go_on, stop, shorter}
use Rattle.text_lines.proofs.WrittenLists.{ended-name-part}
use Rattle.text_lines.proofs.reader.Reader.type_list.Goals as goal

pub types-init : goal.types-init
types-init c = rw c.new-types.ensures.items (begin (before_mark name_at after_semicolon) after_type (progress_of c.args.self.now))

pub types-smaller : goal.types-smaller
types-smaller c = shorter ended-name-part type-mark (progress_of c.types.self) (progress_of c.ended_name.new.self) c.in_ok-name.name.now c.take_type.new.self c.in_ok-name.ensures c.if-not-take_type.ensures

pub types-preserved : goal.types-preserved
types-preserved c =
    let pushed : texts_in c.push.new.self.items ≡ texts_in c.types.types.items ++ c.in_ok-name.name.now ∷ [] = rw c.in_ok-push.ensures.items (map_push text_of c.types.types.items c.in_ok-name.name) in
    let less = shorter ended-name-part type-mark (progress_of c.types.self) (progress_of c.ended_name.new.self) c.in_ok-name.name.now c.take_type.new.self c.in_ok-name.ensures c.if-not-take_type.ensures in
    rw pushed (go_on (before_mark name_at after_semicolon) after_type _ (progress_of c.types.self) (progress_of c.ended_name.new.self) (texts_in c.types.types.items) c.in_ok-name.name.now c.take_type.new.self c.in_ok-name.ensures c.if-not-take_type.ensures less c.types.invariant)

pub returns-then-not-take_type : goal.returns-then-not-take_type
returns-then-not-take_type c =
    let pushed : texts_in c.push.new.self.items ≡ texts_in c.types.types.items ++ c.in_ok-name.name.now ∷ [] = rw c.in_ok-push.ensures.items (map_push text_of c.types.types.items c.in_ok-name.name) in
    stop (before_mark name_at after_semicolon) after_type (progress_of c.args.self.now) (progress_of c.types.self) (progress_of c.ended_name.new.self) (texts_in c.types.types.items) c.in_ok-name.name.now c.in_ok-name.ensures c.if-not-take_type.ensures.0 c.types.invariant
    ∙ ap (λ z. Some (z, progress_of c.ended_name.new.self)) (sym pushed)
    ∙ ap (λ z. Some (texts_in c.push.new.self.items, ((progress_of c.ended_name.new.self).0, z))) (sym c.if-not-take_type.ensures.1)
