use Rattle.std.proofs.Common.{◌≡◌, ◌∷◌, [], ◌++◌, Some, sym, ap, ◌∙◌}
use Rattle.std.proofs.lemmas.List.{map_push}
use Rattle.text_lines.specs.Marks.{after_comma}
use Rattle.text_lines.specs.Parts.{name_at}
use Rattle.text_lines.specs.Steps.{progress_of}
use Rattle.text_lines.specs.TokenViews.{text_of}
use Rattle.text_lines.specs.Views.{texts_in}
use Rattle.text_lines.proofs.EachMark.{comma-mark}
use Rattle.text_lines.proofs.Going.{begin, go_on, stop, shorter}
use Rattle.text_lines.proofs.Types.{name-part}
use Rattle.text_lines.proofs.reader.Reader.names.Goals as goal

pub names-init : goal.names-init
names-init c = rw c.new-names.ensures.items (begin name_at after_comma (progress_of c.args.self.now))

pub names-smaller : goal.names-smaller
names-smaller c = shorter name-part comma-mark (progress_of c.names.self) (progress_of c.name.new.self) c.in_ok-name.name.now c.take_comma.new.self c.in_ok-name.ensures (c.if-not-take_comma.ensures)

pub names-preserved : goal.names-preserved
names-preserved c =
    let pushed : texts_in c.push.new.self.items ≡ texts_in c.names.names.items ++ c.in_ok-name.name.now ∷ [] = rw c.in_ok-push.ensures.items (map_push text_of c.names.names.items c.in_ok-name.name) in
    let less = shorter name-part comma-mark (progress_of c.names.self) (progress_of c.name.new.self) c.in_ok-name.name.now c.take_comma.new.self c.in_ok-name.ensures (c.if-not-take_comma.ensures) in
    rw pushed (go_on name_at after_comma _ (progress_of c.names.self) (progress_of c.name.new.self) (texts_in c.names.names.items) c.in_ok-name.name.now c.take_comma.new.self c.in_ok-name.ensures (c.if-not-take_comma.ensures) less c.names.invariant)

pub returns-then-not-take_comma : goal.returns-then-not-take_comma
returns-then-not-take_comma c =
    let pushed : texts_in c.push.new.self.items ≡ texts_in c.names.names.items ++ c.in_ok-name.name.now ∷ [] = rw c.in_ok-push.ensures.items (map_push text_of c.names.names.items c.in_ok-name.name) in
    stop name_at after_comma (progress_of c.args.self.now) (progress_of c.names.self) (progress_of c.name.new.self) (texts_in c.names.names.items) c.in_ok-name.name.now c.in_ok-name.ensures c.if-not-take_comma.ensures.0 c.names.invariant
    ∙ ap (λ z. Some (z, progress_of c.name.new.self)) (sym pushed)
    ∙ ap (λ z. Some (texts_in c.push.new.self.items, ((progress_of c.name.new.self).0, z))) (sym c.if-not-take_comma.ensures.1)
