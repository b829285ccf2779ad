use Rattle.std.proofs.Common.{◌≡◌, sym, subst, List}
use Rattle.type_terms.specs.Promised.Trees.{Trees}
use Rattle.type_terms.specs.Kinds.{args_trees}
use Rattle.infer_table.specs.Solutions.{Binding, Solves, instance}
use Rattle.infer_table.specs.Content.{content, variables_of}
use Rattle.infer_table.specs.Kept.{content-kept}
use Rattle.infer_table.proofs.EquationFacts.{solved-sorted}
use Rattle.type_terms.specs.Kept.{args-held-later, args-trees-later}
use Rattle.infer_table.specs.Covers.{Agrees, AreKnown, IsOfKnown}
use Rattle.infer_table.proofs.SolvableLaws.{completed, completion, closed-terms, closed-sorted, sound}
use Rattle.infer_table.proofs.Covers.{applies, refuses}
use Rattle.infer_table.proofs.laws.returning_laws.Goals as goal

pub returns-clause-kept : goal.returns-clause-kept
returns-clause-kept c = λ before es t values r new k law ready held hv n known own agrees e.
    let table : content es t.values ≡ content before t.values = content-kept before es t.values k ready.held in
    let same : args_trees es values ≡ args_trees before values = args-trees-later before es k values held in
    let own2 : IsOfKnown (variables_of t) (content es t.values) = subst (λ (bs : List Binding). IsOfKnown (variables_of t) bs) (sym table) own in
    let known2 : AreKnown (variables_of t) (args_trees es values) = subst (AreKnown (variables_of t)) (sym same) known in
    record {
      forth = λ s h.
          let h2 : Solves s (content es t.values) = subst (Solves s) (sym table) h in
          applies es law t values r s (solved-sorted s (content es t.values) h2) (args-held-later before es k values held) hv n known2 new (content es t.values) own2 h2 e
          (subst (λ (z : Trees). Agrees (args_trees es r.var_values.items) (instance s z)) (sym same) (agrees s h));
      back = λ s h. subst (Solves s) table (e.only s h).0;
    }

pub returns-clause-accepted : goal.returns-clause-accepted
returns-clause-accepted c = λ before es t values r k law ready held hv n known own agrees e.
    let table : content es t.values ≡ content before t.values = content-kept before es t.values k ready.held in
    let same : args_trees es values ≡ args_trees before values = args-trees-later before es k values held in
    let own2 : IsOfKnown (variables_of t) (content es t.values) = subst (λ (bs : List Binding). IsOfKnown (variables_of t) bs) (sym table) own in
    let known2 : AreKnown (variables_of t) (args_trees es values) = subst (AreKnown (variables_of t)) (sym same) known in
    let s = completed (content before t.values) closed-terms in
    let h : Solves s (content before t.values) = (completion (variables_of t) (content before t.values) closed-terms (sound before t ready) closed-sorted).solves in
    let h2 : Solves s (content es t.values) = subst (Solves s) (sym table) h in
    refuses es law t values r s (solved-sorted s (content es t.values) h2) (args-held-later before es k values held) hv n known2 (content es t.values) own2 h2 e
    (subst (λ (z : Trees). Agrees (args_trees es r.var_values.items) (instance s z)) (sym same) (agrees s h))
