use Rattle.std.proofs.Common.{[], sym, ap, ◌∙◌}
use Rattle.indexmap.proofs.CallerLemmas.{insert_entry-new}
use Rattle.declarations.specs.Inside.{items_of}
use Rattle.declarations.proofs.Pushed.{more-structs, struct-declared, struct-held}
use Rattle.declarations.proofs.Named.{struct-absent}
use Rattle.declarations.proofs.declarations.Declarations.add_struct.Goals as goal

pub returns-clause-added : goal.returns-clause-added
returns-clause-added c =
    let a = c.self.inside in
    let new = struct-absent [] a.adts.entries c.args.self.now (ap (λ d. d.structs) (sym c.self.view_is)) c.args.id c.requires in
    let more = c.in_ok-insert.ensures.entries ∙ insert_entry-new _ a.adts c.args.id c.args.def new in
    more-structs (items_of a) c.args.self.now (c.args.id, c.args.def) c.insert.new.self.entries c.self.view_is more

pub returns-clause-declares : goal.returns-clause-declares
returns-clause-declares c es = struct-declared es c.args.self.now _ _ (returns-clause-added c)

pub returns-clause-held : goal.returns-clause-held
returns-clause-held c es h x = struct-held es c.args.self.now _ c.args.id c.args.def h x (returns-clause-added c)
