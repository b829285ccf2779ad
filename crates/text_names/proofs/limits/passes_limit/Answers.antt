use Rattle.std.proofs.Common.{◌≡◌, ◌<◌, ◌≤◌, ℕ, true, false, refl, sym, ap, ◌∙◌, map, length, arith, subst}
use Rattle.std.specs.Prelude.{◌||◌, nat_lt}
use Rattle.std.proofs.lemmas.Bool.Decides.{nat_tests}
use Rattle.std.proofs.lemmas.List.{length-map}
use Rattle.text_language.specs.Faults.{once, variables_in, variable_limit}
use Rattle.text_language.specs.Uses.{asked_uses}
use Rattle.text_lines.specs.Views.{statement_of}
use Rattle.text_names.specs.Views.{variable_in}
use Rattle.text_names.specs.Speaks.{Speaks}
use Rattle.text_names.proofs.LineTests.{line-findings, line-deep, asked-variables}
use Rattle.text_names.proofs.Passing.{limits-are}
use Rattle.text_names.proofs.limits.passes_limit.Goals as goal

lt-true : (a b : ℕ) → a < b → true ≡ nat_lt a b
lt-true a b h = grind (arith, nat_tests)

lt-false : (a b : ℕ) → b ≤ a → false ≡ nat_lt a b
lt-false a b h = grind (arith, nat_tests)

pub returns-then-is_large : goal.returns-then-is_large
returns-then-is_large g c l h i = limits-are (g.N.Names.sight c.args.names.now).before l (statement_of c.args.read.now.statement) true _ _ _ h.0 (sym c.if-is_large.true ∙ c.is_large.ensures) refl refl refl

pub returns-then-found : goal.returns-then-found
returns-then-found g c l h i =
    let v = g.N.Names.sight c.args.names.now in
    let sp = subst (Speaks v.line) h.0 c.requires in
    let f = c.args.found.now in
    limits-are v.before l (statement_of c.args.read.now.statement) false true _ _ h.0 (sym c.if-is_large.false ∙ c.is_large.ensures) (ap (λ z. z || f.others.is_deep) (sym c.if-found.true) ∙ line-deep v l f sp i) refl refl

pub returns-then-found-2 : goal.returns-then-found-2
returns-then-found-2 g c l h i =
    let v = g.N.Names.sight c.args.names.now in
    let sp = subst (Speaks v.line) h.0 c.requires in
    let f = c.args.found.now in
    limits-are v.before l (statement_of c.args.read.now.statement) false true _ _ h.0 (sym c.if-is_large.false ∙ c.is_large.ensures)
    (ap (λ z. z || true) (sym c.if-found.false) ∙ ap (λ z. f.asked.is_deep || z) (sym c.if-found-2.true) ∙ line-deep v l f sp i) refl refl

pub returns-then-len-gt-VARIABLE_LIMIT : goal.returns-then-len-gt-VARIABLE_LIMIT
returns-then-len-gt-VARIABLE_LIMIT g c l h i =
    let v = g.N.Names.sight c.args.names.now in
    let sp = subst (Speaks v.line) h.0 c.requires in
    let f = c.args.found.now in
    let found = c.in_ok-variables.variables in
    let many : length found.items ≡ length (once (variables_in (asked_uses v.before l))) =
    sym (length-map found.items variable_in) ∙ ap length (c.in_ok-variables.ensures ∙ ap (λ z. once (map variable_in z)) c.deref.ensures.value ∙ ap once (asked-variables v l f sp i)) in
    let count : variable_limit < length found.items = omega (arith, c.len.ensures, c.if-len-gt-VARIABLE_LIMIT.true) in
    limits-are v.before l (statement_of c.args.read.now.statement) false false true _ h.0 (sym c.if-is_large.false ∙ c.is_large.ensures)
    (ap (λ z. z || false) (sym c.if-found.false) ∙ ap (λ z. f.asked.is_deep || z) (sym c.if-found-2.false) ∙ line-deep v l f sp i) (lt-true variable_limit (length found.items) count ∙ ap (nat_lt variable_limit) many) refl

pub returns : goal.returns
returns g c l h i =
    let v = g.N.Names.sight c.args.names.now in
    let sp = subst (Speaks v.line) h.0 c.requires in
    let f = c.args.found.now in
    let found = c.in_ok-variables.variables in
    let many : length found.items ≡ length (once (variables_in (asked_uses v.before l))) =
    sym (length-map found.items variable_in) ∙ ap length (c.in_ok-variables.ensures ∙ ap (λ z. once (map variable_in z)) c.deref.ensures.value ∙ ap once (asked-variables v l f sp i)) in
    let count : length found.items ≤ variable_limit = omega (arith, c.len.ensures, c.if-len-gt-VARIABLE_LIMIT.false) in
    limits-are v.before l (statement_of c.args.read.now.statement) false false false c.faults.result.passes_limit h.0 (sym c.if-is_large.false ∙ c.is_large.ensures)
    (ap (λ z. z || false) (sym c.if-found.false) ∙ ap (λ z. f.asked.is_deep || z) (sym c.if-found-2.false) ∙ line-deep v l f sp i) (lt-false variable_limit (length found.items) count ∙ ap (nat_lt variable_limit) many)
    (ap (λ z. z.passes_limit) (c.faults.ensures ∙ line-findings v l f sp i))
