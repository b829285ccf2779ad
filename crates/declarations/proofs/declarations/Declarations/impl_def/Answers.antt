use Rattle.std.proofs.Common.{sym, ap, ◌∙◌}
use Rattle.std.specs.Option.{option_map}
use Rattle.declarations.specs.declared.declarations.ImplEntry.{ImplEntry}
use Rattle.declarations.specs.Items.{impl_at}
use Rattle.declarations.proofs.Named.{impl-none, impl-one, impl-got-held}
use Rattle.declarations.proofs.Written.{impl-looked, impl-not-written, impl-written}
use Rattle.declarations.proofs.declarations.Declarations.impl_def.Goals as goal

pub returns-in-Some-clause-is : goal.returns-in-Some-clause-is
returns-in-Some-clause-is c =
    ap (option_map (λ (x : ImplEntry). x.def)) c.in-Some.ensures.value ∙ impl-looked c.args.id c.self.inside.impls.entries ∙ ap (λ d. impl_at c.args.id.index d.impls) c.self.view_is

pub returns-in-None-clause-is : goal.returns-in-None-clause-is
returns-in-None-clause-is c =
    ap (option_map (λ (x : ImplEntry). x.def)) c.in-None.ensures.value ∙ impl-looked c.args.id c.self.inside.impls.entries ∙ ap (λ d. impl_at c.args.id.index d.impls) c.self.view_is

pub returns-in-Some-clause-found : goal.returns-in-Some-clause-found
returns-in-Some-clause-found c es =
    impl-one es c.self.inside.impls.entries c.args.self.now (ap (λ d. d.impls) (sym c.self.view_is)) c.args.id c.in-Some.entry.now c.len.ensures.unique (sym c.in-Some.ensures.value)

pub returns-in-None-clause-found : goal.returns-in-None-clause-found
returns-in-None-clause-found c es = impl-none es c.self.inside.impls.entries c.args.self.now (ap (λ d. d.impls) (sym c.self.view_is)) c.args.id (sym c.in-None.ensures.value)

pub returns-in-Some-clause-written : goal.returns-in-Some-clause-written
returns-in-Some-clause-written c es =
    impl-written es c.self.inside.impls.entries c.args.self.now (ap (λ d. d.impls) (sym c.self.view_is)) c.args.id c.in-Some.entry.now c.len.ensures.unique (sym c.in-Some.ensures.value)

pub returns-in-None-clause-written : goal.returns-in-None-clause-written
returns-in-None-clause-written c es = impl-not-written es c.self.inside.impls.entries c.args.self.now (ap (λ d. d.impls) (sym c.self.view_is)) c.args.id (sym c.in-None.ensures.value)

pub returns-in-Some-clause-held : goal.returns-in-Some-clause-held
returns-in-Some-clause-held c es h =
    impl-got-held es c.self.inside.impls.entries c.args.self.now (ap (λ d. d.impls) (sym c.self.view_is)) c.args.id c.in-Some.entry.now (sym c.in-Some.ensures.value) h
