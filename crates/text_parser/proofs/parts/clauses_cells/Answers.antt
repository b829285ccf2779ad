use Rattle.std.proofs.Common.{◌-◌, length, take, drop, subst}
use Rattle.text_parser.specs.Numbering.{meanings}
use Rattle.text_parser.proofs.KeptTypes.{Clauses, clauses-start, clauses-on, clauses-end, two-first, line-ready}
use Rattle.text_parser.proofs.parts.clauses_cells.Goals as goal

pub loop-rest-init : goal.loop-rest-init
loop-rest-init g c line ks s st u =
    let v = g.N.Names.sight c.args.names.now in
    clauses-start v (meanings v c.args.numbering) line ks c.args.parts.now st u c.in_ok-references.references.items c.in_ok-references.ensures.items

pub loop-rest-preserved : goal.loop-rest-preserved
loop-rest-preserved g c line ks s st u =
    let v = g.N.Names.sight c.args.names.now in
    let e = meanings v c.args.numbering in
    let rest = c.loop-rest.rest.now in
    let two = two-first rest c.subject-item.result c.bound-item.result _ _ c.in-len2-up.len_at_least c.subject-item.is c.bound-item.is in
    clauses-on v e line ks c.subject-item.result c.bound-item.result (take (length rest - 2) (drop 2 rest)) c.loop-rest.references.items _ c.in_ok-made.made
    (line-ready v c.args.numbering line c.requires s) (c.in_ok-made.ensures v e c.of-numbers.ensures) c.in_ok-push.ensures.items
    (subst (λ z. Clauses v e line ks z c.loop-rest.references.items) two (c.loop-rest.invariant line ks s st u))

pub returns : goal.returns
returns g c line ks s st u =
    let v = g.N.Names.sight c.args.names.now in
    clauses-end v (meanings v c.args.numbering) line ks c.loop-rest.rest.now c.loop-rest.references.items c.in_default.len_below (c.loop-rest.invariant line ks s st u)
