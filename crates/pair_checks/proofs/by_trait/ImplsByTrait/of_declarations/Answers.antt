use Rattle.declarations.specs.Items.{declared}
use Rattle.pair_checks.specs.ByTrait.{ListsImpls}
use Rattle.pair_checks.proofs.by_trait.ImplsByTrait.of_declarations.Goals as goal
use Rattle.type_terms.proofs.TypeBasics.{ok-after}

pub returns-then-not-has_own_blanket : goal.returns-then-not-has_own_blanket
returns-then-not-has_own_blanket c = λ x i b. absurd (c.has_own_blanket.ensures c.if-not-has_own_blanket.true x i b)

pub returns : goal.returns
returns c =
    let es = c.args.cx.now.entries in
    let d = c.args.declarations.now in
    ok-after _ (ListsImpls (declared es d) d.local) c.of_all.result (λ m all x i b. all es) c.of_all.ensures
