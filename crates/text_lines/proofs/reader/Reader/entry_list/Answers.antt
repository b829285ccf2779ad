use Rattle.std.proofs.Common.{◌≡◌, ◌∷◌, [], ◌++◌, Some, sym, ap, ◌∙◌}
use Rattle.std.proofs.lemmas.List.{map_push}
use Rattle.text_lines.specs.Marks.{after_comma}
use Rattle.text_lines.specs.WrittenParts.{entry_at}
use Rattle.text_lines.specs.Steps.{progress_of}
use Rattle.text_lines.specs.WrittenViews.{entry_of, entries_in}
use Rattle.text_lines.proofs.EachMark.{comma-mark}
use Rattle.text_lines.proofs.Going.{begin, go_on, stop, shorter}
use Rattle.text_lines.proofs.WrittenTypes.{entry-part}
use Rattle.text_lines.proofs.reader.Reader.entry_list.Goals as goal

pub entries-init : goal.entries-init
entries-init c = rw c.new-entries.ensures.items (begin entry_at after_comma (progress_of c.args.self.now))

pub entries-smaller : goal.entries-smaller
entries-smaller c = shorter entry-part comma-mark (progress_of c.entries.self) (progress_of c.entry.new.self) (entry_of c.in_ok-entry.entry) c.take_comma.new.self c.in_ok-entry.ensures c.if-not-take_comma.ensures

pub entries-preserved : goal.entries-preserved
entries-preserved c =
    let pushed : entries_in c.push.new.self.items ≡ entries_in c.entries.entries.items ++ (entry_of c.in_ok-entry.entry) ∷ [] = rw c.in_ok-push.ensures.items (map_push entry_of c.entries.entries.items c.in_ok-entry.entry) in
    let less = shorter entry-part comma-mark (progress_of c.entries.self) (progress_of c.entry.new.self) (entry_of c.in_ok-entry.entry) c.take_comma.new.self c.in_ok-entry.ensures c.if-not-take_comma.ensures in
    rw pushed (go_on entry_at after_comma _ (progress_of c.entries.self) (progress_of c.entry.new.self) (entries_in c.entries.entries.items) (entry_of c.in_ok-entry.entry) c.take_comma.new.self c.in_ok-entry.ensures c.if-not-take_comma.ensures less c.entries.invariant)

pub returns-then-not-take_comma : goal.returns-then-not-take_comma
returns-then-not-take_comma c =
    let pushed : entries_in c.push.new.self.items ≡ entries_in c.entries.entries.items ++ (entry_of c.in_ok-entry.entry) ∷ [] = rw c.in_ok-push.ensures.items (map_push entry_of c.entries.entries.items c.in_ok-entry.entry) in
    stop entry_at after_comma (progress_of c.args.self.now) (progress_of c.entries.self) (progress_of c.entry.new.self) (entries_in c.entries.entries.items) (entry_of c.in_ok-entry.entry) c.in_ok-entry.ensures c.if-not-take_comma.ensures.0 c.entries.invariant
    ∙ ap (λ z. Some (z, progress_of c.entry.new.self)) (sym pushed)
    ∙ ap (λ z. Some (entries_in c.push.new.self.items, ((progress_of c.entry.new.self).0, z))) (sym c.if-not-take_comma.ensures.1)
