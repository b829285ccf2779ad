use Rattle.std.proofs.Common.{◌≡◌, ◌≤◌, ℕ, length, arith, ◌+◌, ◌∙◌, ap, sym, subst, refl, true}
use Rattle.std.proofs.lemmas.List.{length-map}
use Rattle.std.proofs.lemmas.Option.{slice_get_read, slice_get-map}
use Rattle.std.specs.Prelude.{◌==◌, slice_get}
use Rattle.std.specs.Option.{option_map}
use Rattle.text_language.specs.Promised.Declarations.{LaterImpl}
use Rattle.declarations.specs.Heads.{begins_declared}
use Rattle.text_tables.specs.Views.{later_impl_of}
use Rattle.text_lowering.proofs.LaterImpls.{LaterAdded, each-kept, later-all, later-sorted, later-taken}
use Rattle.text_lowering.proofs.later.lower_later.Goals as goal

pub lower_impl-requires-clause-header : goal.lower_impl-requires-clause-header
lower_impl-requires-clause-header c =
    let i = c.loop-entry.entry-index in
    c.later_impls_of-entries.ensures.headers i c.entry-item.result (slice_get_read c.later_impls_of-entries.result.now _ i c.entry-item.result refl c.loop-entry-test.true c.entry-item.is)

pub lower_impl-requires-clause-clauses : goal.lower_impl-requires-clause-clauses
lower_impl-requires-clause-clauses c =
    let i = c.loop-entry.entry-index in
    c.later_impls_of-entries.ensures.clauses i c.entry-item.result (slice_get_read c.later_impls_of-entries.result.now _ i c.entry-item.result refl c.loop-entry-test.true c.entry-item.is)

pub lower_impl-requires-clause-begins : goal.lower_impl-requires-clause-begins
lower_impl-requires-clause-begins c =
    let i = c.loop-entry.entry-index in
    let x = c.entry-item.result in
    let there = slice_get_read c.later_impls_of-entries.result.now _ i x refl c.loop-entry-test.true c.entry-item.is in
    let at = sym (ap (λ l. slice_get l i) (c.later_impls_of-entries.ensures.items)) ∙ slice_get-map later_impl_of c.later_impls_of-entries.result.now i ∙ ap (option_map later_impl_of) there in
    each-kept (λ (j : LaterImpl). begins_declared j.added.item.header.args ≡ true) (λ (j : LaterImpl). j.section == c.args.section) c.args.workspace.now.later_impls c.requires i (later_impl_of x) at

pub loop-entry-preserved : goal.loop-entry-preserved
loop-entry-preserved c =
    let d = c.args.workspace.now in
    let k = c.args.section in
    let old = c.args.cx.now in
    let i = c.loop-entry.entry-index in
    let x = c.entry-item.result in
    let es = c.loop-entry.cx in
    let now = c.loop-entry.defs.items in
    let inv = c.loop-entry.invariant in
    let there = slice_get_read c.later_impls_of-entries.result.now _ i x refl c.loop-entry-test.true c.entry-item.is in
    let at = sym (ap (λ l. slice_get l i) (c.later_impls_of-entries.ensures.items)) ∙ slice_get-map later_impl_of c.later_impls_of-entries.result.now i ∙ ap (option_map later_impl_of) there in
    let new = c.lower_impl.new.cx in
    let lowered = c.in_ok-def.ensures in
    subst (λ ds. LaterAdded d k old.entries old.limit (i + 1) new.entries new.limit ds) (sym c.in_ok-push.ensures.items)
    (later-taken d k old.entries old.limit i es.entries es.limit now (later_impl_of x) new.entries new.limit x.entry.id c.in_ok-def.def at c.lower_impl.ensures.terms.grew.keeps c.lower_impl.ensures.terms.grew.limit lowered.is lowered.sorts lowered.held inv)

pub returns-clause-impls : goal.returns-clause-impls
returns-clause-impls c =
    let l = c.loop-entry in
    let rows = c.later_impls_of-entries.result.now in
    later-all c.args.workspace.now c.args.section c.args.cx.now.entries c.args.cx.now.limit l.entry-index l.cx.entries l.cx.limit l.defs.items
    (sym (ap length c.later_impls_of-entries.ensures.items) ∙ length-map rows later_impl_of ∙ at-end (length rows) l.entry-index c.loop-entry-test.false l.auto.entry-index-end) l.invariant
  where
    at-end : (n i : ℕ) → n ≤ i → i ≤ n → n ≡ i
    at-end n i h g = omega (arith, h, g)

pub returns-clause-sorts : goal.returns-clause-sorts
returns-clause-sorts c =
    let l = c.loop-entry in
    let rows = c.later_impls_of-entries.result.now in
    later-sorted c.args.workspace.now c.args.section c.args.cx.now.entries c.args.cx.now.limit l.entry-index l.cx.entries l.cx.limit l.defs.items
    (sym (ap length c.later_impls_of-entries.ensures.items) ∙ length-map rows later_impl_of ∙ at-end (length rows) l.entry-index c.loop-entry-test.false l.auto.entry-index-end) l.invariant
  where
    at-end : (n i : ℕ) → n ≤ i → i ≤ n → n ≡ i
    at-end n i h g = omega (arith, h, g)
