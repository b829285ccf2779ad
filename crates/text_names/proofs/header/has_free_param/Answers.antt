use Rattle.std.proofs.Common.{◌≡◌, ap, ◌∙◌, map, subst}
use Rattle.text_lines.specs.TokenViews.{text_of}
use Rattle.text_lines.specs.TypeViews.{cells_in}
use Rattle.text_names.specs.UsedNames.{Holds}
use Rattle.text_names.specs.Params.{others_said}
use Rattle.text_names.specs.Header.{names_in_header}
use Rattle.text_names.proofs.Headers.{read-impl, free-is}
use Rattle.text_names.proofs.header.has_free_param.Goals as goal

pub returns-in_ok-own-in-Some : goal.returns-in_ok-own-in-Some
returns-in_ok-own-in-Some c d l h =
    let r = c.args.read.now in
    let k = c.in-Some.header in
    let held : Holds c.in_ok-used-in-Some.used (names_in_header (cells_in r.cells.items) k) = subst (λ z. Holds c.in_ok-used-in-Some.used (names_in_header (cells_in z) k)) c.deref.ensures.value c.in_ok-used-in-Some.ensures in
    let names : map text_of c.deref-in-Some.result.now ≡ _ = ap (map text_of) c.deref-in-Some.ensures.value ∙ c.in_ok-own-in-Some.ensures.others ∙ ap others_said c.params.ensures in
    c.any_unused.ensures (names_in_header (cells_in r.cells.items) k) held ∙ free-is d l r k (map text_of c.deref-in-Some.result.now) h (read-impl l r k h c.in-Some.ensures) names
