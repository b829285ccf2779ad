use Rattle.std.proofs.Common.{◌≡◌, ◌≤◌, ℕ, Bool, ◌+◌, length, arith, ◌∙◌, ap, sym, subst, refl}
use Rattle.std.proofs.lemmas.List.{length-map}
use Rattle.std.proofs.lemmas.Option.{slice_get_read, slice_get-map}
use Rattle.std.specs.Prelude.{slice_get}
use Rattle.std.specs.Option.{option_map}
use Rattle.type_terms.specs.Promised.Worlds.{sees}
use Rattle.text_language.specs.Promised.Declarations.{NamedImpl, world_of}
use Rattle.text_tables.specs.Views.{impl_of}
use Rattle.text_lowering.specs.Behind.{AreSeenAlike, EndAtDifference}
use Rattle.text_lowering.proofs.Rows.{Together, together-first, together-told, together-passed, together-alike, ends-there, ends-last}
use Rattle.text_lowering.proofs.view.impls_alike.Goals.{then-is_seen, else-is_seen}
use Rattle.text_lowering.proofs.view.impls_alike.Goals as goal

pub loop-entry-init : goal.loop-entry-init
loop-entry-init c = record { together = together-first _ _ _; few = omega arith }

pub loop-entry-preserved : goal.loop-entry-preserved
loop-entry-preserved c =
    let p : NamedImpl → Bool = λ x. sees (world_of c.args.workspace.now) c.args.crate_id.index x.item.home in
    let q : NamedImpl → Bool = λ x. sees (world_of c.args.workspace.now) c.args.earlier.index x.item.home in
    let rows = c.args.workspace.now.impls in
    let i = c.loop-entry.entry-index in
    let n = c.loop-entry.seen in
    let x = c.entry-item.result in
    let inv = c.loop-entry.invariant in
    let both = c.in-Some.ensures.both in
    let there = slice_get_read c.impls-entries.result.now _ i x refl c.loop-entry-test.true c.entry-item.is in
    let at = sym (ap (λ l. slice_get l i) (c.impls-entries.ensures.items)) ∙ slice_get-map impl_of c.impls-entries.result.now i ∙ ap (option_map impl_of) there in
    elim c.if-is_seen.branch [
      | then-is_seen w ↦ record {
        together = subst (λ m. Together p q rows (i + 1) m) (sym w.seen-is) (together-told p q rows i n (impl_of x) at (both.0 ∙ w.if-is_seen.true) (both.1 ∙ w.if-is_seen.true) inv.together);
        few = subst (λ m. m ≤ i + 1) (sym w.seen-is) (omega (arith, inv.few));
      }
      | else-is_seen w ↦ record {
        together = subst (λ m. Together p q rows (i + 1) m) (sym w.seen-is) (together-passed p q rows i n (impl_of x) at (both.0 ∙ w.if-is_seen.false) (both.1 ∙ w.if-is_seen.false) inv.together);
        few = subst (λ m. m ≤ i + 1) (sym w.seen-is) (omega (arith, inv.few));
      }
    ]

pub returns-in_default-clause-alike : goal.returns-in_default-clause-alike
returns-in_default-clause-alike c =
    let p : NamedImpl → Bool = λ x. sees (world_of c.args.workspace.now) c.args.crate_id.index x.item.home in
    let q : NamedImpl → Bool = λ x. sees (world_of c.args.workspace.now) c.args.earlier.index x.item.home in
    let i = c.loop-entry.entry-index in
    let x = c.entry-item.result in
    let there = slice_get_read c.impls-entries.result.now _ i x refl c.loop-entry-test.true c.entry-item.is in
    let at = sym (ap (λ l. slice_get l i) (c.impls-entries.ensures.items)) ∙ slice_get-map impl_of c.impls-entries.result.now i ∙ ap (option_map impl_of) there in
    subst (λ m. AreSeenAlike p q c.args.workspace.now.impls m c.loop-entry.seen) (sym (c.crates.ensures.numbered.impls i (impl_of x) at).0) (together-alike p q c.args.workspace.now.impls i c.loop-entry.seen c.loop-entry.invariant.together)

pub returns-in_default-clause-most : goal.returns-in_default-clause-most
returns-in_default-clause-most c =
    let p : NamedImpl → Bool = λ x. sees (world_of c.args.workspace.now) c.args.crate_id.index x.item.home in
    let q : NamedImpl → Bool = λ x. sees (world_of c.args.workspace.now) c.args.earlier.index x.item.home in
    let i = c.loop-entry.entry-index in
    let x = c.entry-item.result in
    let there = slice_get_read c.impls-entries.result.now _ i x refl c.loop-entry-test.true c.entry-item.is in
    let at = sym (ap (λ l. slice_get l i) (c.impls-entries.ensures.items)) ∙ slice_get-map impl_of c.impls-entries.result.now i ∙ ap (option_map impl_of) there in
    subst (λ m. EndAtDifference p q c.args.workspace.now.impls m) (sym (c.crates.ensures.numbered.impls i (impl_of x) at).0)
    (ends-there p q c.args.workspace.now.impls i c.loop-entry.seen (impl_of x) at c.in_default.ensures.one c.loop-entry.invariant.together)

at-end : (n i : ℕ) → n ≤ i → i ≤ n → i ≡ n
at-end n i h g = omega (arith, h, g)

pub returns-clause-alike : goal.returns-clause-alike
returns-clause-alike c =
    let p : NamedImpl → Bool = λ x. sees (world_of c.args.workspace.now) c.args.crate_id.index x.item.home in
    let q : NamedImpl → Bool = λ x. sees (world_of c.args.workspace.now) c.args.earlier.index x.item.home in
    let rows = c.impls-entries.result.now in
    subst (λ m. AreSeenAlike p q c.args.workspace.now.impls m c.loop-entry.seen) (at-end (length rows) c.loop-entry.entry-index c.loop-entry-test.false c.loop-entry.auto.entry-index-end)
    (together-alike p q c.args.workspace.now.impls c.loop-entry.entry-index c.loop-entry.seen c.loop-entry.invariant.together)

pub returns-clause-most : goal.returns-clause-most
returns-clause-most c =
    let p : NamedImpl → Bool = λ x. sees (world_of c.args.workspace.now) c.args.crate_id.index x.item.home in
    let q : NamedImpl → Bool = λ x. sees (world_of c.args.workspace.now) c.args.earlier.index x.item.home in
    let rows = c.impls-entries.result.now in
    let end = at-end (length rows) c.loop-entry.entry-index c.loop-entry-test.false c.loop-entry.auto.entry-index-end in
    subst (λ m. EndAtDifference p q c.args.workspace.now.impls m) end
    (ends-last p q c.args.workspace.now.impls c.loop-entry.entry-index c.loop-entry.seen (end ∙ sym (sym (ap length c.impls-entries.ensures.items) ∙ length-map rows impl_of)) c.loop-entry.invariant.together)
