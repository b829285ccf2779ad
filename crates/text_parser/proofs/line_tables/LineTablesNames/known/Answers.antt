use Rattle.std.proofs.Common.{◌≡◌, ap, sym, ◌∙◌, rules}
use Rattle.std.specs.Str.{bytes_eq}
use Rattle.text_language.specs.Promised.Declarations.{known, kinds_of}
use Rattle.text_language.specs.Uses.{params_of}
use Rattle.text_language.specs.Promised.Faults.{with_own}
use Rattle.text_lines.specs.Views.{statement_of, params_in}
use Rattle.text_tables.specs.Views.{sorts_of}
use Rattle.text_parser.specs.BareLines.{bare_line, params_from}
use Rattle.text_parser.proofs.OwnKnown.{struct-known, trait-known}
use Rattle.text_parser.proofs.line_tables.LineTablesNames.known.Goals as goal

pub returns-in-Struct : goal.returns-in-Struct
returns-in-Struct c =
    let d = c.args.self.now.before in
    let n = c.args.name.now in
    let q : c.eq.result ≡ bytes_eq c.in-Struct.own.now n = search rules in
    struct-known d c.in-Struct.is_fundamental c.in-Struct.own.now n (params_from (params_in c.in-Struct.params.items)) (sorts_of c.args.self.now.kinds.items)
    (c.args.self.now.kinds_said ∙ ap (λ s. kinds_of (params_of (bare_line (statement_of s)))) c.in-Struct.is) _ _ _ c.eq.result q c.known-before.ensures c.own_struct.ensures c.with_struct.ensures
    ∙ ap (λ s. known (with_own d (bare_line (statement_of s))) n) (sym c.in-Struct.is)

pub returns-in-Trait : goal.returns-in-Trait
returns-in-Trait c =
    let d = c.args.self.now.before in
    let n = c.args.name.now in
    let q : c.eq-in-Trait.result ≡ bytes_eq c.in-Trait.own.now n = search rules in
    trait-known d c.in-Trait.is_fundamental c.in-Trait.is_auto c.in-Trait.own.now n (params_from (params_in c.in-Trait.params.items)) (sorts_of c.args.self.now.kinds.items)
    (c.args.self.now.kinds_said ∙ ap (λ s. kinds_of (params_of (bare_line (statement_of s)))) c.in-Trait.is) _ _ _ c.eq-in-Trait.result q c.known-before.ensures c.own_trait.ensures c.with_trait.ensures
    ∙ ap (λ s. known (with_own d (bare_line (statement_of s))) n) (sym c.in-Trait.is)
