use Rattle.std.proofs.Common.{◌≡◌, ◌∷◌, [], ◌++◌, Some, sym, ap, ◌∙◌}
use Rattle.std.proofs.lemmas.List.{map_push}
use Rattle.text_lines.specs.Marks.{after_comma}
use Rattle.text_lines.specs.Parts.{param_at}
use Rattle.text_lines.specs.Steps.{progress_of}
use Rattle.text_lines.specs.Views.{param_of, params_in}
use Rattle.text_lines.proofs.EachMark.{comma-mark}
use Rattle.text_lines.proofs.Going.{begin, go_on, stop, shorter}
use Rattle.text_lines.proofs.ParamOrder.{param-part}
use Rattle.text_lines.proofs.reader.Reader.param_list.Goals as goal

pub params-init : goal.params-init
params-init c = rw c.new-params.ensures.items (begin param_at after_comma (progress_of c.args.self.now))

pub params-smaller : goal.params-smaller
params-smaller c = shorter param-part comma-mark (progress_of c.params.self) (progress_of c.param.new.self) (param_of c.in_ok-param.param) c.take_comma.new.self c.in_ok-param.ensures (c.if-not-take_comma.ensures)

pub params-preserved : goal.params-preserved
params-preserved c =
    let pushed : params_in c.push.new.self.items ≡ params_in c.params.params.items ++ param_of c.in_ok-param.param ∷ [] = rw c.in_ok-push.ensures.items (map_push param_of c.params.params.items c.in_ok-param.param) in
    let less = shorter param-part comma-mark (progress_of c.params.self) (progress_of c.param.new.self) (param_of c.in_ok-param.param) c.take_comma.new.self c.in_ok-param.ensures (c.if-not-take_comma.ensures) in
    rw pushed (go_on param_at after_comma _ (progress_of c.params.self) (progress_of c.param.new.self) (params_in c.params.params.items) (param_of c.in_ok-param.param) c.take_comma.new.self c.in_ok-param.ensures (c.if-not-take_comma.ensures) less c.params.invariant)

pub returns-then-not-take_comma : goal.returns-then-not-take_comma
returns-then-not-take_comma c =
    let pushed : params_in c.push.new.self.items ≡ params_in c.params.params.items ++ param_of c.in_ok-param.param ∷ [] = rw c.in_ok-push.ensures.items (map_push param_of c.params.params.items c.in_ok-param.param) in
    stop param_at after_comma (progress_of c.args.self.now) (progress_of c.params.self) (progress_of c.param.new.self) (params_in c.params.params.items) (param_of c.in_ok-param.param) c.in_ok-param.ensures c.if-not-take_comma.ensures.0 c.params.invariant
    ∙ ap (λ z. Some (z, progress_of c.param.new.self)) (sym pushed)
    ∙ ap (λ z. Some (params_in c.push.new.self.items, ((progress_of c.param.new.self).0, z))) (sym c.if-not-take_comma.ensures.1)
