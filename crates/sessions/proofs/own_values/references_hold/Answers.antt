use Rattle.std.proofs.Common.{sym, ◌∙◌}
use Rattle.declarations.specs.Applied.{references_in}
use Rattle.sessions.specs.Foreign.{label_of}
use Rattle.sessions.specs.Promised.OwnValues.{occurs_among}
use Rattle.sessions.proofs.Foreign.{held-first, param-found, param-next, param-none}
use Rattle.sessions.proofs.own_values.references_hold.Goals as goal
use Rattle.type_terms.proofs.ListBasics.{empty-is}

pub args_hold-requires : goal.args_hold-requires
args_hold-requires c =
    let es = c.args.cx.now.entries in
    (held-first es (label_of c.args.param) c.references.left.now (occurs_among (references_in es c.args.references.now) (label_of c.args.param)) c.in-Some.reference.now c.in-Some.others.now c.in-Some.ensures.cases.0 c.references.invariant.0).0

pub returns-then-args_hold : goal.returns-then-args_hold
returns-then-args_hold c =
    let es = c.args.cx.now.entries in
    param-found es (label_of c.args.param) c.references.left.now (occurs_among (references_in es c.args.references.now) (label_of c.args.param)) c.in-Some.reference.now c.in-Some.others.now c.in-Some.ensures.cases.0 c.references.invariant.1
    (sym c.args_hold.ensures ∙ c.if-args_hold.true)

pub references-preserved : goal.references-preserved
references-preserved c =
    let es = c.args.cx.now.entries in
    let b = occurs_among (references_in es c.args.references.now) (label_of c.args.param) in (
      (held-first es (label_of c.args.param) c.references.left.now b c.in-Some.reference.now c.in-Some.others.now c.in-Some.ensures.cases.0 c.references.invariant.0).1,
      param-next es (label_of c.args.param) c.references.left.now b c.in-Some.reference.now c.in-Some.others.now c.in-Some.ensures.cases.0 c.references.invariant.1 (sym c.args_hold.ensures ∙ c.if-args_hold.false),
    )

pub returns : goal.returns
returns c =
    let es = c.args.cx.now.entries in
    param-none es (label_of c.args.param) c.references.left.now (occurs_among (references_in es c.args.references.now) (label_of c.args.param)) (empty-is c.references.left.now c.in_default.ensures.cases) c.references.invariant.1
