use Rattle.std.proofs.Common.{◌≡◌, true, false, ap, ◌∙◌, map}
use Rattle.std.specs.Prelude.{◌||◌, is_some}
use Rattle.std.specs.HashSet as set
use Rattle.std.specs.Str.{bytes_eq}
use Rattle.text_language.specs.Promised.Faults.{is_among}
use Rattle.text_lines.specs.TokenViews.{text_of}
use Rattle.text_names.specs.LookUps.{place_in}
use Rattle.text_names.proofs.Judged.{among-place}
use Rattle.text_names.proofs.name_set.NameSet.contains.Goals as goal

pub returns-in-Some : goal.returns-in-Some
returns-in-Some c ns h =
    let n = c.args.name.now in
    let few = map text_of c.args.self.now.few.items in
    let e : true ≡ is_among n few = ap is_some (c.in-Some.ensures {u = tt}) ∙ ap (λ x. is_some (place_in n (map text_of x))) c.deref.ensures.value ∙ among-place 0 n few in
    ap (λ x. x || set.contains (λ a b. bytes_eq a.now b.now) c.args.self.now.names c.args.name) e ∙ h c.args.name

pub returns-in-None : goal.returns-in-None
returns-in-None c ns h =
    let n = c.args.name.now in
    let few = map text_of c.args.self.now.few.items in
    let e : false ≡ is_among n few = ap is_some (c.in-None.ensures {u = tt}) ∙ ap (λ x. is_some (place_in n (map text_of x))) c.deref.ensures.value ∙ among-place 0 n few in
    c.hashes.ensures ∙ ap (λ x. x || set.contains (λ a b. bytes_eq a.now b.now) c.args.self.now.names c.args.name) e ∙ h c.args.name
