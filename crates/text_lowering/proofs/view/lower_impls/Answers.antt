use Rattle.std.proofs.Common.{◌≡◌, ◌≤◌, ℕ, length, arith, ◌+◌, ◌∙◌, ap, sym, subst, refl}
use Rattle.std.proofs.lemmas.List.{length-map}
use Rattle.std.proofs.lemmas.Option.{slice_get_read, slice_get-map}
use Rattle.std.specs.Prelude.{slice_get, ◌<◌}
use Rattle.std.specs.Option.{option_map}
use Rattle.declarations.specs.Items.{held_impl}
use Rattle.declarations.specs.Promised.Elaboration.{Each}
use Rattle.declarations.proofs.Growth.{all-held}
use Rattle.text_tables.specs.Views.{impl_of}
use Rattle.text_lowering.proofs.Views.{ImplsAdded, impls-first, impls-passed, impls-all, impls-few, impls-fewer, impls-sorted, impls-taken}
use Rattle.text_lowering.proofs.view.lower_impls.Goals.{then-is_new+in_ok-def+in_ok-add_impl, else-is_new}
use Rattle.text_lowering.proofs.view.lower_impls.Goals as goal

pub lower_impl-requires-clause-header : goal.lower_impl-requires-clause-header
lower_impl-requires-clause-header c =
    let i = c.loop-entry.entry-index in
    c.impls-entries.ensures.headers i c.entry-item.result (slice_get_read c.impls-entries.result.now _ i c.entry-item.result refl c.loop-entry-test.true c.entry-item.is)

pub lower_impl-requires-clause-clauses : goal.lower_impl-requires-clause-clauses
lower_impl-requires-clause-clauses c =
    let i = c.loop-entry.entry-index in
    c.impls-entries.ensures.clauses i c.entry-item.result (slice_get_read c.impls-entries.result.now _ i c.entry-item.result refl c.loop-entry-test.true c.entry-item.is)

pub lower_impl-requires-clause-begins : goal.lower_impl-requires-clause-begins
lower_impl-requires-clause-begins c =
    let i = c.loop-entry.entry-index in
    let x = c.entry-item.result in
    let there = slice_get_read c.impls-entries.result.now _ i x refl c.loop-entry-test.true c.entry-item.is in
    let at = sym (ap (λ l. slice_get l i) (c.impls-entries.ensures.items)) ∙ slice_get-map impl_of c.impls-entries.result.now i ∙ ap (option_map impl_of) there in
    c.requires.begin i (impl_of x) at

pub add_impl-requires-clause-above : goal.add_impl-requires-clause-above
add_impl-requires-clause-above c =
    let i = c.loop-entry.entry-index in
    let x = c.entry-item.result in
    let there = slice_get_read c.impls-entries.result.now _ i x refl c.loop-entry-test.true c.entry-item.is in
    let at = sym (ap (λ l. slice_get l i) (c.impls-entries.ensures.items)) ∙ slice_get-map impl_of c.impls-entries.result.now i ∙ ap (option_map impl_of) there in
    subst (λ j. Each (λ h. h.id.index < j) c.loop-entry.decls.impls) (sym (c.crates.ensures.numbered.impls i (impl_of x) at).0) (c.loop-entry.invariant.gone.below i (impl_of x) (omega arith) at (sym c.is_new.ensures ∙ c.if-is_new.true))

pub loop-entry-init : goal.loop-entry-init
loop-entry-init c = impls-first c.args.workspace.now c.args.crate_id.index c.args.from c.args.cx.now.entries c.args.cx.now.limit c.args.decls.now c.requires.before c.requires.held

pub loop-entry-preserved : goal.loop-entry-preserved
loop-entry-preserved c =
    let d = c.args.workspace.now in
    let n = c.args.crate_id.index in
    let e = c.args.from in
    let old = c.args.cx.now in
    let i = c.loop-entry.entry-index in
    let x = c.entry-item.result in
    let es = c.loop-entry.cx in
    let now = c.loop-entry.decls in
    let inv = c.loop-entry.invariant in
    let there = slice_get_read c.impls-entries.result.now _ i x refl c.loop-entry-test.true c.entry-item.is in
    let at = sym (ap (λ l. slice_get l i) (c.impls-entries.ensures.items)) ∙ slice_get-map impl_of c.impls-entries.result.now i ∙ ap (option_map impl_of) there in
    elim c.if-is_new.branch [
      | then-is_new+in_ok-def+in_ok-add_impl w ↦
          let new = w.lower_impl.new.cx in
          let next = w.add_impl.new.self in
          let k = w.lower_impl.ensures.terms.grew.keeps in
          let held = w.in_ok-add_impl.ensures.held (all-held es.entries new.entries k now inv.held) in
          subst (λ y. ImplsAdded d n e old.entries old.limit c.args.decls.now (i + 1) y.entries y.limit c.if-is_new.decls) (sym w.cx-is)
          (subst (λ ds. ImplsAdded d n e old.entries old.limit c.args.decls.now (i + 1) new.entries new.limit ds) (sym w.decls-is)
          (impls-taken d n e old.entries old.limit c.args.decls.now i es.entries es.limit now (impl_of x) new.entries new.limit (held_impl new.entries x.id w.in_ok-def.def) next at (sym c.is_new.ensures ∙ w.if-is_new.true)
          (c.crates.ensures.numbered.impls i (impl_of x) at).0 k w.lower_impl.ensures.terms.grew.limit w.in_ok-def.ensures.is w.in_ok-def.ensures.sorts w.in_ok-add_impl.ensures.added held w.lower_impl.ensures.few inv))
      | else-is_new w ↦
          subst (λ y. ImplsAdded d n e old.entries old.limit c.args.decls.now (i + 1) y.entries y.limit c.if-is_new.decls) (sym w.cx-is)
          (subst (λ ds. ImplsAdded d n e old.entries old.limit c.args.decls.now (i + 1) es.entries es.limit ds) (sym w.decls-is)
          (impls-passed d n e old.entries old.limit c.args.decls.now i es.entries es.limit now (impl_of x) at (sym c.is_new.ensures ∙ w.if-is_new.false) inv))
    ]

pub returns-clause-impls : goal.returns-clause-impls
returns-clause-impls c =
    let l = c.loop-entry in
    let rows = c.impls-entries.result.now in
    impls-all c.args.workspace.now c.args.crate_id.index c.args.from c.args.cx.now.entries c.args.cx.now.limit c.args.decls.now l.entry-index l.cx.entries l.cx.limit l.decls
    (sym (ap length c.impls-entries.ensures.items) ∙ length-map rows impl_of ∙ at-end (length rows) l.entry-index c.loop-entry-test.false l.auto.entry-index-end) l.invariant
  where
    at-end : (n i : ℕ) → n ≤ i → i ≤ n → n ≡ i
    at-end n i h g = omega (arith, h, g)

pub returns-in_err-def-clause-few : goal.returns-in_err-def-clause-few
returns-in_err-def-clause-few c =
    let d = c.args.workspace.now in
    let old = c.args.cx.now in
    let i = c.loop-entry.entry-index in
    let x = c.entry-item.result in
    let es = c.loop-entry.cx in
    let there = slice_get_read c.impls-entries.result.now _ i x refl c.loop-entry-test.true c.entry-item.is in
    let at = sym (ap (λ l. slice_get l i) (c.impls-entries.ensures.items)) ∙ slice_get-map impl_of c.impls-entries.result.now i ∙ ap (option_map impl_of) there in
    impls-fewer d c.args.crate_id.index c.args.from old.entries old.limit c.args.decls.now i es.entries es.limit c.loop-entry.decls (impl_of x) c.lower_impl.new.cx.entries at (sym c.is_new.ensures ∙ c.if-is_new.true) c.lower_impl.ensures.few c.loop-entry.invariant

pub returns-in_err-add_impl-clause-few : goal.returns-in_err-add_impl-clause-few
returns-in_err-add_impl-clause-few c =
    let d = c.args.workspace.now in
    let old = c.args.cx.now in
    let i = c.loop-entry.entry-index in
    let x = c.entry-item.result in
    let es = c.loop-entry.cx in
    let there = slice_get_read c.impls-entries.result.now _ i x refl c.loop-entry-test.true c.entry-item.is in
    let at = sym (ap (λ l. slice_get l i) (c.impls-entries.ensures.items)) ∙ slice_get-map impl_of c.impls-entries.result.now i ∙ ap (option_map impl_of) there in
    impls-fewer d c.args.crate_id.index c.args.from old.entries old.limit c.args.decls.now i es.entries es.limit c.loop-entry.decls (impl_of x) c.lower_impl.new.cx.entries at (sym c.is_new.ensures ∙ c.if-is_new.true) c.lower_impl.ensures.few c.loop-entry.invariant

pub returns-clause-few : goal.returns-clause-few
returns-clause-few c = impls-few c.args.workspace.now c.args.crate_id.index c.args.from c.args.cx.now.entries c.args.cx.now.limit c.args.decls.now c.loop-entry.entry-index c.loop-entry.cx.entries c.loop-entry.cx.limit c.loop-entry.decls c.loop-entry.invariant

pub returns-clause-sorts : goal.returns-clause-sorts
returns-clause-sorts c =
    let l = c.loop-entry in
    let rows = c.impls-entries.result.now in
    impls-sorted c.args.workspace.now c.args.crate_id.index c.args.from c.args.cx.now.entries c.args.cx.now.limit c.args.decls.now l.entry-index l.cx.entries l.cx.limit l.decls
    (sym (ap length c.impls-entries.ensures.items) ∙ length-map rows impl_of ∙ at-end (length rows) l.entry-index c.loop-entry-test.false l.auto.entry-index-end) l.invariant
  where
    at-end : (n i : ℕ) → n ≤ i → i ≤ n → n ≡ i
    at-end n i h g = omega (arith, h, g)
