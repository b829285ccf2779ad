use Rattle.std.proofs.Common.{sym, ap, ◌∙◌}
use Rattle.declarations.specs.Items.{struct_at}
use Rattle.declarations.proofs.Named.{struct-got, struct-got-held}
use Rattle.declarations.proofs.Written.{struct-looked, struct-written}
use Rattle.declarations.proofs.declarations.Declarations.adt_def.Goals as goal

pub returns-clause-is : goal.returns-clause-is
returns-clause-is c = c.get.ensures.value ∙ struct-looked c.args.id c.self.inside.adts.entries ∙ ap (λ d. struct_at c.args.id.index d.structs) c.self.view_is

pub returns-clause-written : goal.returns-clause-written
returns-clause-written c es = struct-written es c.self.inside.adts.entries c.args.self.now (ap (λ d. d.structs) (sym c.self.view_is)) c.args.id (λ x. x.now) c.get.result c.len.ensures.unique c.get.ensures.value

pub returns-clause-found : goal.returns-clause-found
returns-clause-found c es = struct-got es c.self.inside.adts.entries c.args.self.now (ap (λ d. d.structs) (sym c.self.view_is)) c.args.id (λ x. x.now) c.get.result c.len.ensures.unique c.get.ensures.value

pub returns-clause-held : goal.returns-clause-held
returns-clause-held c es h = struct-got-held es c.self.inside.adts.entries c.args.self.now (ap (λ d. d.structs) (sym c.self.view_is)) c.args.id (λ x. x.now) c.get.result c.get.ensures.value h
