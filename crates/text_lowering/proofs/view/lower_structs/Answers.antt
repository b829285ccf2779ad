use Rattle.std.proofs.Common.{◌≡◌, ◌≤◌, ℕ, length, arith, ◌+◌, ◌∙◌, ap, sym, subst, refl}
use Rattle.std.proofs.lemmas.List.{length-map}
use Rattle.std.proofs.lemmas.Option.{slice_get_read, slice_get-map}
use Rattle.std.specs.Prelude.{slice_get}
use Rattle.std.specs.Option.{option_map}
use Rattle.declarations.proofs.Growth.{all-held}
use Rattle.text_tables.specs.Views.{struct_of}
use Rattle.text_lowering.proofs.Views.{StructsAdded, structs-first, structs-passed, structs-all, structs-few, structs-fewer, structs-sorted, structs-taken, structs-absent}
use Rattle.text_lowering.proofs.view.lower_structs.Goals.{then-is_new+in_ok-def+in_ok-add_struct, else-is_new}
use Rattle.text_lowering.proofs.view.lower_structs.Goals as goal

pub lower_struct-requires : goal.lower_struct-requires
lower_struct-requires c =
    let i = c.loop-entry.entry-index in
    c.structs-entries.ensures.made i c.entry-item.result (slice_get_read c.structs-entries.result.now _ i c.entry-item.result refl c.loop-entry-test.true c.entry-item.is)

pub add_struct-requires : goal.add_struct-requires
add_struct-requires c =
    let i = c.loop-entry.entry-index in
    let x = c.entry-item.result in
    let there = slice_get_read c.structs-entries.result.now _ i x refl c.loop-entry-test.true c.entry-item.is in
    let at = sym (ap (λ l. slice_get l i) (c.structs-entries.ensures.items)) ∙ slice_get-map struct_of c.structs-entries.result.now i ∙ ap (option_map struct_of) there in
    structs-absent c.args.workspace.now c.args.crate_id.index c.args.from c.args.cx.now.entries c.args.cx.now.limit c.args.decls.now i c.loop-entry.cx.entries c.loop-entry.cx.limit c.loop-entry.decls (struct_of x) x.id.index at (sym c.is_new.ensures ∙ c.if-is_new.true)
    (c.crates.ensures.numbered.structs i (struct_of x) at).0 c.loop-entry.invariant

pub loop-entry-init : goal.loop-entry-init
loop-entry-init c = structs-first c.args.workspace.now c.args.crate_id.index c.args.from c.args.cx.now.entries c.args.cx.now.limit c.args.decls.now c.requires.before c.requires.held

pub loop-entry-preserved : goal.loop-entry-preserved
loop-entry-preserved c =
    let d = c.args.workspace.now in
    let n = c.args.crate_id.index in
    let e = c.args.from in
    let old = c.args.cx.now in
    let i = c.loop-entry.entry-index in
    let x = c.entry-item.result in
    let es = c.loop-entry.cx in
    let now = c.loop-entry.decls in
    let inv = c.loop-entry.invariant in
    let there = slice_get_read c.structs-entries.result.now _ i x refl c.loop-entry-test.true c.entry-item.is in
    let at = sym (ap (λ l. slice_get l i) (c.structs-entries.ensures.items)) ∙ slice_get-map struct_of c.structs-entries.result.now i ∙ ap (option_map struct_of) there in
    elim c.if-is_new.branch [
      | then-is_new+in_ok-def+in_ok-add_struct w ↦
          let new = w.lower_struct.new.cx in
          let next = w.add_struct.new.self in
          let k = w.lower_struct.ensures.terms.grew.keeps in
          let held = w.in_ok-add_struct.ensures.held new.entries (all-held es.entries new.entries k now inv.held) w.in_ok-def.ensures.held in
          subst (λ y. StructsAdded d n e old.entries old.limit c.args.decls.now (i + 1) y.entries y.limit c.if-is_new.decls) (sym w.cx-is)
          (subst (λ ds. StructsAdded d n e old.entries old.limit c.args.decls.now (i + 1) new.entries new.limit ds) (sym w.decls-is)
          (structs-taken d n e old.entries old.limit c.args.decls.now i es.entries es.limit now (struct_of x) new.entries new.limit x.id w.in_ok-def.def next at (sym c.is_new.ensures ∙ w.if-is_new.true) (c.crates.ensures.numbered.structs i (struct_of x) at).0 k
          w.lower_struct.ensures.terms.grew.limit w.in_ok-def.ensures.is w.in_ok-def.ensures.sorts w.in_ok-add_struct.ensures.added held w.lower_struct.ensures.few inv))
      | else-is_new w ↦
          subst (λ y. StructsAdded d n e old.entries old.limit c.args.decls.now (i + 1) y.entries y.limit c.if-is_new.decls) (sym w.cx-is)
          (subst (λ ds. StructsAdded d n e old.entries old.limit c.args.decls.now (i + 1) es.entries es.limit ds) (sym w.decls-is)
          (structs-passed d n e old.entries old.limit c.args.decls.now i es.entries es.limit now (struct_of x) at (sym c.is_new.ensures ∙ w.if-is_new.false) inv))
    ]

pub returns-clause-structs : goal.returns-clause-structs
returns-clause-structs c =
    let l = c.loop-entry in
    let rows = c.structs-entries.result.now in
    structs-all c.args.workspace.now c.args.crate_id.index c.args.from c.args.cx.now.entries c.args.cx.now.limit c.args.decls.now l.entry-index l.cx.entries l.cx.limit l.decls
    (sym (ap length c.structs-entries.ensures.items) ∙ length-map rows struct_of ∙ at-end (length rows) l.entry-index c.loop-entry-test.false l.auto.entry-index-end) l.invariant
  where
    at-end : (n i : ℕ) → n ≤ i → i ≤ n → n ≡ i
    at-end n i h g = omega (arith, h, g)

pub returns-in_err-def-clause-few : goal.returns-in_err-def-clause-few
returns-in_err-def-clause-few c =
    let d = c.args.workspace.now in
    let old = c.args.cx.now in
    let i = c.loop-entry.entry-index in
    let x = c.entry-item.result in
    let es = c.loop-entry.cx in
    let there = slice_get_read c.structs-entries.result.now _ i x refl c.loop-entry-test.true c.entry-item.is in
    let at = sym (ap (λ l. slice_get l i) (c.structs-entries.ensures.items)) ∙ slice_get-map struct_of c.structs-entries.result.now i ∙ ap (option_map struct_of) there in
    structs-fewer d c.args.crate_id.index c.args.from old.entries old.limit c.args.decls.now i es.entries es.limit c.loop-entry.decls (struct_of x) c.lower_struct.new.cx.entries at (sym c.is_new.ensures ∙ c.if-is_new.true) c.lower_struct.ensures.few c.loop-entry.invariant

pub returns-in_err-add_struct-clause-few : goal.returns-in_err-add_struct-clause-few
returns-in_err-add_struct-clause-few c =
    let d = c.args.workspace.now in
    let old = c.args.cx.now in
    let i = c.loop-entry.entry-index in
    let x = c.entry-item.result in
    let es = c.loop-entry.cx in
    let there = slice_get_read c.structs-entries.result.now _ i x refl c.loop-entry-test.true c.entry-item.is in
    let at = sym (ap (λ l. slice_get l i) (c.structs-entries.ensures.items)) ∙ slice_get-map struct_of c.structs-entries.result.now i ∙ ap (option_map struct_of) there in
    structs-fewer d c.args.crate_id.index c.args.from old.entries old.limit c.args.decls.now i es.entries es.limit c.loop-entry.decls (struct_of x) c.lower_struct.new.cx.entries at (sym c.is_new.ensures ∙ c.if-is_new.true) c.lower_struct.ensures.few c.loop-entry.invariant

pub returns-clause-few : goal.returns-clause-few
returns-clause-few c = structs-few c.args.workspace.now c.args.crate_id.index c.args.from c.args.cx.now.entries c.args.cx.now.limit c.args.decls.now c.loop-entry.entry-index c.loop-entry.cx.entries c.loop-entry.cx.limit c.loop-entry.decls c.loop-entry.invariant

pub returns-clause-sorts : goal.returns-clause-sorts
returns-clause-sorts c =
    let l = c.loop-entry in
    let rows = c.structs-entries.result.now in
    structs-sorted c.args.workspace.now c.args.crate_id.index c.args.from c.args.cx.now.entries c.args.cx.now.limit c.args.decls.now l.entry-index l.cx.entries l.cx.limit l.decls
    (sym (ap length c.structs-entries.ensures.items) ∙ length-map rows struct_of ∙ at-end (length rows) l.entry-index c.loop-entry-test.false l.auto.entry-index-end) l.invariant
  where
    at-end : (n i : ℕ) → n ≤ i → i ≤ n → n ≡ i
    at-end n i h g = omega (arith, h, g)
