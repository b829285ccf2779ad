use Rattle.std.proofs.Common.{refl, sym, ap, ◌∙◌, ◌++◌, ◌∷◌, [], Some, if◌then◌else◌}
use Rattle.std.proofs.lemmas.List.Quantifiers.{position-Some}
use Rattle.std.proofs.lemmas.Option.{slice_get_read}
use Rattle.indexmap.specs.IndexSet.{insert_key}
use Rattle.search_graph.proofs.Numbers.{numbers_after}
use Rattle.search_graph.proofs.cache.CachedResults.number_of.Goals as goal

pub returns-in-Some-clause-number : goal.returns-in-Some-clause-number
returns-in-Some-clause-number g c =
    let found = position-Some _ _ c.in-Some.number c.args.input.now (sym c.in-Some.ensures.index) in
    slice_get_read _ _ _ _ refl found.0 (g.met.D.Cx.Cx.same_input _ _ found.1)

pub invariant_of-self-clause-numbered : goal.invariant_of-self-clause-numbered
invariant_of-self-clause-numbered g c = λ place e at.
    numbers_after g.D.Cx.Input.PartialEq.eq c.insert_full.result c.args.self.now.goals.keys c.insert_full.new.self.keys c.in_ok-key.key c.insert_full.ensures.keys c.insert_full.ensures.err e.input e.number (c.args.self.now.numbered place e at)

pub returns-in-Some-clause-place : goal.returns-in-Some-clause-place
returns-in-Some-clause-place g c = sym c.in-Some.ensures.index

pub returns-in-Some-clause-goals : goal.returns-in-Some-clause-goals
returns-in-Some-clause-goals g c = ap (λ known. if known then c.args.self.now.goals.keys else c.args.self.now.goals.keys ++ c.args.input.now ∷ []) c.in-Some.ensures.found

pub returns-clause-number : goal.returns-clause-number
returns-clause-number g c =
    let stored = c.in_ok-number.ensures.stored in
    stored.1 ∙ ap Some (sym (g.met.D.Cx.Cx.same_input _ _ stored.2) ∙ c.in_ok-key.ensures.copy)

pub returns-clause-others : goal.returns-clause-others
returns-clause-others g c = numbers_after g.D.Cx.Input.PartialEq.eq c.insert_full.result c.args.self.now.goals.keys c.insert_full.new.self.keys c.in_ok-key.key c.insert_full.ensures.keys c.insert_full.ensures.err

pub returns-clause-goals : goal.returns-clause-goals
returns-clause-goals g c = c.in_ok-number.ensures.keys ∙ ap (insert_key g.D.Cx.Input.PartialEq.eq c.args.self.now.goals.keys) c.in_ok-key.ensures.copy

pub returns-in_err-number-clause-others : goal.returns-in_err-number-clause-others
returns-in_err-number-clause-others g c = numbers_after g.D.Cx.Input.PartialEq.eq c.insert_full.result c.args.self.now.goals.keys c.insert_full.new.self.keys c.in_ok-key.key c.insert_full.ensures.keys c.insert_full.ensures.err
