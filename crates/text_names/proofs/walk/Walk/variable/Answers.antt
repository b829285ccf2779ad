use Rattle.std.proofs.Common.{◌∷◌, [], ap}
use Rattle.text_language.specs.Uses.{variable_use}
use Rattle.text_tables.specs.Views.{sort_of_kind}
use Rattle.text_names.specs.Resolved as resolved
use Rattle.text_names.specs.Machine.{Found, going, keeping, deepening, name_misfits}
use Rattle.text_names.specs.WalkViews.{frames_in}
use Rattle.text_names.proofs.Walking.{noted-variable, together}
use Rattle.text_names.proofs.walk.Walk.variable.Goals as goal

pub returns : goal.returns
returns c v =
    let p = sort_of_kind c.args.place.sort in
    let n = c.args.name.now in
    let w = c.args.self.now in
    let x : Found = deepening c.args.place.room (keeping c.args.place.is_kept (λ cs. resolved.variable_cell p n ∷ cs) w.found) in
    let both = together v (name_misfits p) (variable_use p n ∷ []) c.named_misfits.result c.variable.result c.either-faults.result (c.named_misfits.ensures v) (c.variable.ensures v p) c.either-faults.ensures in
    ap (going (frames_in w.frames.items) w.binders w.rest) (noted-variable v p n c.either-faults.result x c.add.new.self c.note_variable.new.self both c.in_ok-add.ensures c.in_ok-note_variable.ensures)
