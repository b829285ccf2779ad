use Rattle.std.proofs.Common.{sym, ap, ◌∙◌, []}
use Rattle.std.specs.Option.{option_map_or}
use Rattle.declarations.specs.Index.{ids_in}
use Rattle.declarations.proofs.Keys.{listed-by}
use Rattle.declarations.proofs.heads.impls_with_key.Goals as goal

pub returns-in-Some : goal.returns-in-Some
returns-in-Some c =
    let listed = listed-by c.args.keys.now c.args.key ∙ ap (λ o. option_map_or ids_in o []) (sym c.in-Some.ensures.value) in
    c.as_slice.ensures ∙ sym listed

pub returns-in-None : goal.returns-in-None
returns-in-None c = sym (listed-by c.args.keys.now c.args.key ∙ ap (λ o. option_map_or ids_in o []) (sym c.in-None.ensures.value))
