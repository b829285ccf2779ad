use Rattle.std.proofs.Common.{sym, ap, ◌∙◌}
use Rattle.declarations.specs.Items.{trait_at}
use Rattle.declarations.proofs.Named.{trait-got, trait-got-held}
use Rattle.declarations.proofs.Written.{trait-looked, trait-written}
use Rattle.declarations.proofs.declarations.Declarations.trait_def.Goals as goal

pub returns-clause-is : goal.returns-clause-is
returns-clause-is c = c.get.ensures.value ∙ trait-looked c.args.id c.self.inside.traits.entries ∙ ap (λ d. trait_at c.args.id.index d.traits) c.self.view_is

pub returns-clause-written : goal.returns-clause-written
returns-clause-written c es = trait-written es c.self.inside.traits.entries c.args.self.now (ap (λ d. d.traits) (sym c.self.view_is)) c.args.id (λ x. x.now) c.get.result c.len.ensures.unique c.get.ensures.value

pub returns-clause-found : goal.returns-clause-found
returns-clause-found c es = trait-got es c.self.inside.traits.entries c.args.self.now (ap (λ d. d.traits) (sym c.self.view_is)) c.args.id (λ x. x.now) c.get.result c.len.ensures.unique c.get.ensures.value

pub returns-clause-held : goal.returns-clause-held
returns-clause-held c es h = trait-got-held es c.self.inside.traits.entries c.args.self.now (ap (λ d. d.traits) (sym c.self.view_is)) c.args.id (λ x. x.now) c.get.result c.get.ensures.value h
