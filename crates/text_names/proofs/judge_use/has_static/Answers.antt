use Rattle.std.proofs.Common.{ap, ◌∙◌, map}
use Rattle.std.specs.Prelude.{is_some}
use Rattle.text_lines.specs.TokenViews.{text_of}
use Rattle.text_language.specs.Faults.{static_name}
use Rattle.text_names.specs.LookUps.{place_in}
use Rattle.text_names.proofs.Judged.{among-place}
use Rattle.text_names.proofs.judge_use.has_static.Goals as goal

pub returns-in-Some : goal.returns-in-Some
returns-in-Some c =
    let ns = map text_of c.args.names.now in
    ap is_some (c.in-Some.ensures {u = tt}) ∙ ap (λ x. is_some (place_in x ns)) c.as_slice.ensures ∙ among-place 0 static_name ns

pub returns-in-None : goal.returns-in-None
returns-in-None c =
    let ns = map text_of c.args.names.now in
    ap is_some (c.in-None.ensures {u = tt}) ∙ ap (λ x. is_some (place_in x ns)) c.as_slice.ensures ∙ among-place 0 static_name ns
