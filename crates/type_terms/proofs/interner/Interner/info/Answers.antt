use Rattle.std.proofs.Common.{sym, ap, arith}
use Rattle.indexmap.specs.IndexMap.{keys}
use Rattle.std.proofs.lemmas.Option.{slice_get_within}
use Rattle.type_terms.specs.Inner.{entries_of}
use Rattle.type_terms.proofs.Bounded.{fits-index}
use Rattle.type_terms.proofs.Entries.{info-at, key-at}
use Rattle.type_terms.proofs.interner.Interner.info.Goals as goal

pub returns-clause-is : goal.returns-clause-is
returns-clause-is c =
    rw (← c.self.view_is)
    (info-at (entries_of c.self.inside) c.self.inside.nodes.entries c.args.index _ _ c.self.invariant.infos (sym c.in-Some.ensures.entry))

pub returns-clause-shallow : goal.returns-clause-shallow
returns-clause-shallow c =
    let key = key-at c.self.inside.nodes.entries c.args.index _ _ (sym c.in-Some.ensures.entry) in
    let below = slice_get_within (keys c.self.inside.nodes) c.args.index _ key in
    let fits = fits-index (keys c.self.inside.nodes) c.self.invariant.older c.args.index _ key in
    let same = info-at (entries_of c.self.inside) c.self.inside.nodes.entries c.args.index _ _ c.self.invariant.infos (sym c.in-Some.ensures.entry) in
    let within = c.self.invariant.within in
    omega (arith, below, ap (λ f. f.depth) same, fits.shallow, c.self.invariant.in_all, within.0, within.1, within.2, within.3, within.4, c.self.invariant.limit_fits)

pub returns-clause-bounded : goal.returns-clause-bounded
returns-clause-bounded c =
    let key = key-at c.self.inside.nodes.entries c.args.index _ _ (sym c.in-Some.ensures.entry) in
    let fits = fits-index (keys c.self.inside.nodes) c.self.invariant.older c.args.index _ key in
    let same = info-at (entries_of c.self.inside) c.self.inside.nodes.entries c.args.index _ _ c.self.invariant.infos (sym c.in-Some.ensures.entry) in
    omega (arith, ap (λ f. f.outer_binder) same, fits.outer)
