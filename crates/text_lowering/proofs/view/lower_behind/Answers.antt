use Rattle.std.proofs.Common.{◌≡◌, ℕ, ◌++◌, map, take, sym, ap, ◌∙◌, arith}
use Rattle.std.proofs.lemmas.List.{take-map}
use Rattle.declarations.specs.Items.{Items, written}
use Rattle.text_lowering.specs.Behind.{new_struct_sorts, new_trait_sorts, new_impl_sorts}
use Rattle.text_lowering.specs.Seen.{struct_sorts, trait_sorts, impl_sorts}
use Rattle.text_lowering.proofs.BehindViews.{structs-before, traits-before, impls-before, structs-behind, traits-behind, impls-behind, struct-sorts-behind, trait-sorts-behind, impl-sorts-behind, written-behind, most-new}
use Rattle.text_lowering.proofs.Views.{view-rules}
use Rattle.text_lowering.proofs.view.lower_behind.Goals as goal

-- what stays
structs-stay : (a t old : Items) (n : ℕ) (s i : ℕ) (l : ℕ) → a ≡ record t { local = l } → t ≡ record old { structs = take n old.structs; traits = take s old.traits; impls = take i old.impls } → a.structs ≡ take n old.structs
structs-stay a t old n s i l asked cut = ap (λ (x : Items). x.structs) asked ∙ ap (λ (x : Items). x.structs) cut

traits-stay : (a t old : Items) (n : ℕ) (s i : ℕ) (l : ℕ) → a ≡ record t { local = l } → t ≡ record old { structs = take n old.structs; traits = take s old.traits; impls = take i old.impls } → a.traits ≡ take s old.traits
traits-stay a t old n s i l asked cut = ap (λ (x : Items). x.traits) asked ∙ ap (λ (x : Items). x.traits) cut

impls-stay : (a t old : Items) (n : ℕ) (s i : ℕ) (l : ℕ) → a ≡ record t { local = l } → t ≡ record old { structs = take n old.structs; traits = take s old.traits; impls = take i old.impls } → a.impls ≡ take i old.impls
impls-stay a t old n s i l asked cut = ap (λ (x : Items). x.impls) asked ∙ ap (λ (x : Items). x.impls) cut

pub lower_structs-requires-clause-before : goal.lower_structs-requires-clause-before
lower_structs-requires-clause-before c =
    let old = c.args.decls.now in
    structs-before c.args.workspace.now c.args.crate_id.index c.args.earlier.index c.crates.ensures.numbered c.args.cx.now.entries c.structs_alike-structs.result.end c.structs_alike-structs.result.seen c.structs_alike-structs.ensures.alike
    c.ask_in.new.self.structs old.structs (ap (λ w. w.structs) c.requires.written) (structs-stay c.ask_in.new.self c.truncate.new.self old _ _ _ _ c.ask_in.ensures.asked c.truncate.ensures.kept)

pub lower_traits-requires-clause-before : goal.lower_traits-requires-clause-before
lower_traits-requires-clause-before c =
    let old = c.args.decls.now in
    traits-before c.args.workspace.now c.args.crate_id.index c.args.earlier.index c.crates.ensures.numbered c.args.cx.now.entries c.traits_alike-traits.result.end c.traits_alike-traits.result.seen c.traits_alike-traits.ensures.alike
    c.lower_structs.new.decls.traits old.traits (ap (λ w. w.traits) c.requires.written)
    (ap (λ (l : Items). l.traits) c.in_ok-lower_structs.ensures.others ∙ traits-stay c.ask_in.new.self c.truncate.new.self old _ _ _ _ c.ask_in.ensures.asked c.truncate.ensures.kept)

pub lower_impls-requires-clause-before : goal.lower_impls-requires-clause-before
lower_impls-requires-clause-before c =
    let old = c.args.decls.now in
    impls-before c.args.workspace.now c.args.crate_id.index c.args.earlier.index c.crates.ensures.numbered c.args.cx.now.entries c.impls_alike-impls.result.end c.impls_alike-impls.result.seen c.impls_alike-impls.ensures.alike
    c.lower_traits.new.decls.impls old.impls (ap (λ w. w.impls) c.requires.written)
    (ap (λ (l : Items). l.impls) c.in_ok-lower_traits.ensures.others ∙ ap (λ (l : Items). l.impls) c.in_ok-lower_structs.ensures.others
    ∙ impls-stay c.ask_in.new.self c.truncate.new.self old _ _ _ _ c.ask_in.ensures.asked c.truncate.ensures.kept)

pub returns-clause-written : goal.returns-clause-written
returns-clause-written c =
    let first = c.in_ok-lower_structs.ensures in
    let second = c.in_ok-lower_traits.ensures in
    let last = c.in_ok-lower_impls.ensures in
    let d = c.args.workspace.now in
    let n = c.args.crate_id.index in
    let e = c.args.earlier.index in
    let es = c.args.cx.now.entries in
    let old = c.args.decls.now in
    let a = c.ask_in.new.self in
    let numbered = c.crates.ensures.numbered in
    let s = c.structs_alike-structs in
    let t = c.traits_alike-traits in
    let i = c.impls_alike-impls in
    written-behind d n es c.lower_structs.new.cx.entries c.lower_traits.new.cx.entries c.lower_impls.new.cx.entries
    c.lower_structs.ensures.terms.grew.keeps c.lower_traits.ensures.terms.grew.keeps c.lower_impls.ensures.terms.grew.keeps a c.lower_structs.new.decls c.lower_traits.new.decls c.lower_impls.new.decls
    (c.ask_in.ensures.held es (c.truncate.ensures.held es c.requires.held)) first.held second.held s.result.end t.result.end i.result.end
    (structs-behind d n e numbered es s.result.end s.result.seen s.ensures.alike a.structs old.structs (ap (λ w. w.structs) c.requires.written) (structs-stay a c.truncate.new.self old _ _ _ _ c.ask_in.ensures.asked c.truncate.ensures.kept))
    (traits-behind d n e numbered es t.result.end t.result.seen t.ensures.alike a.traits old.traits (ap (λ w. w.traits) c.requires.written) (traits-stay a c.truncate.new.self old _ _ _ _ c.ask_in.ensures.asked c.truncate.ensures.kept))
    (impls-behind d n e numbered es i.result.end i.result.seen i.ensures.alike a.impls old.impls (ap (λ w. w.impls) c.requires.written) (impls-stay a c.truncate.new.self old _ _ _ _ c.ask_in.ensures.asked c.truncate.ensures.kept))
    first.others second.others last.others first.structs second.traits last.impls

pub returns-clause-rules : goal.returns-clause-rules
returns-clause-rules c = view-rules c.lower_impls.new.cx.entries c.lower_impls.new.decls c.args.workspace.now c.args.crate_id.index (returns-clause-written c)

pub returns-clause-struct_sorts : goal.returns-clause-struct_sorts
returns-clause-struct_sorts c =
    let old = c.args.decls.now in
    let s = c.structs_alike-structs in
    ap (λ (l : Items). map struct_sorts l.structs) c.in_ok-lower_impls.ensures.others ∙ ap (λ (l : Items). map struct_sorts l.structs) c.in_ok-lower_traits.ensures.others ∙ c.in_ok-lower_structs.ensures.sorts
    ∙ ap (λ l. l ++ new_struct_sorts c.args.workspace.now c.args.crate_id.index s.result.end)
    (ap (map struct_sorts) (structs-stay c.ask_in.new.self c.truncate.new.self old _ _ _ _ c.ask_in.ensures.asked c.truncate.ensures.kept) ∙ sym (take-map struct_sorts s.result.seen old.structs))
    ∙ struct-sorts-behind c.args.workspace.now c.args.crate_id.index c.args.earlier.index c.crates.ensures.numbered s.result.end s.result.seen s.ensures.alike (map struct_sorts old.structs) c.requires.struct_sorts

pub returns-clause-trait_sorts : goal.returns-clause-trait_sorts
returns-clause-trait_sorts c =
    let old = c.args.decls.now in
    let t = c.traits_alike-traits in
    ap (λ (l : Items). map trait_sorts l.traits) c.in_ok-lower_impls.ensures.others ∙ c.in_ok-lower_traits.ensures.sorts
    ∙ ap (λ l. l ++ new_trait_sorts c.args.workspace.now c.args.crate_id.index t.result.end)
    (ap (λ (l : Items). map trait_sorts l.traits) c.in_ok-lower_structs.ensures.others
    ∙ ap (map trait_sorts) (traits-stay c.ask_in.new.self c.truncate.new.self old _ _ _ _ c.ask_in.ensures.asked c.truncate.ensures.kept) ∙ sym (take-map trait_sorts t.result.seen old.traits))
    ∙ trait-sorts-behind c.args.workspace.now c.args.crate_id.index c.args.earlier.index c.crates.ensures.numbered t.result.end t.result.seen t.ensures.alike (map trait_sorts old.traits) c.requires.trait_sorts

pub returns-clause-impl_sorts : goal.returns-clause-impl_sorts
returns-clause-impl_sorts c =
    let old = c.args.decls.now in
    let i = c.impls_alike-impls in
    c.in_ok-lower_impls.ensures.sorts
    ∙ ap (λ l. l ++ new_impl_sorts c.args.workspace.now c.args.crate_id.index i.result.end)
    (ap (λ (l : Items). map impl_sorts l.impls) c.in_ok-lower_traits.ensures.others ∙ ap (λ (l : Items). map impl_sorts l.impls) c.in_ok-lower_structs.ensures.others
    ∙ ap (map impl_sorts) (impls-stay c.ask_in.new.self c.truncate.new.self old _ _ _ _ c.ask_in.ensures.asked c.truncate.ensures.kept) ∙ sym (take-map impl_sorts i.result.seen old.impls))
    ∙ impl-sorts-behind c.args.workspace.now c.args.crate_id.index c.args.earlier.index c.crates.ensures.numbered i.result.end i.result.seen i.ensures.alike (map impl_sorts old.impls) c.requires.impl_sorts

pub returns-clause-local : goal.returns-clause-local
returns-clause-local c =
    ap (λ (l : Items). l.local) c.in_ok-lower_impls.ensures.others ∙ ap (λ (l : Items). l.local) c.in_ok-lower_traits.ensures.others ∙ ap (λ (l : Items). l.local) c.in_ok-lower_structs.ensures.others
    ∙ ap (λ (l : Items). l.local) c.ask_in.ensures.asked

pub returns-in_err-lower_structs-clause-few : goal.returns-in_err-lower_structs-clause-few
returns-in_err-lower_structs-clause-few c =
    let most = most-new c.args.workspace.now c.args.crate_id.index c.args.earlier.index c.crates.ensures.numbered c.structs_alike-structs.result.end c.traits_alike-traits.result.end c.impls_alike-impls.result.end
    c.structs_alike-structs.ensures.most c.traits_alike-traits.ensures.most c.impls_alike-impls.ensures.most in
    omega (arith, most, c.lower_structs.ensures.few)

pub returns-in_err-lower_traits-clause-few : goal.returns-in_err-lower_traits-clause-few
returns-in_err-lower_traits-clause-few c =
    let most = most-new c.args.workspace.now c.args.crate_id.index c.args.earlier.index c.crates.ensures.numbered c.structs_alike-structs.result.end c.traits_alike-traits.result.end c.impls_alike-impls.result.end
    c.structs_alike-structs.ensures.most c.traits_alike-traits.ensures.most c.impls_alike-impls.ensures.most in
    omega (arith, most, c.lower_structs.ensures.few, c.lower_traits.ensures.few)

pub returns-in_err-lower_impls-clause-few : goal.returns-in_err-lower_impls-clause-few
returns-in_err-lower_impls-clause-few c =
    let most = most-new c.args.workspace.now c.args.crate_id.index c.args.earlier.index c.crates.ensures.numbered c.structs_alike-structs.result.end c.traits_alike-traits.result.end c.impls_alike-impls.result.end
    c.structs_alike-structs.ensures.most c.traits_alike-traits.ensures.most c.impls_alike-impls.ensures.most in
    omega (arith, most, c.lower_structs.ensures.few, c.lower_traits.ensures.few, c.lower_impls.ensures.few)

pub returns-clause-few : goal.returns-clause-few
returns-clause-few c =
    let most = most-new c.args.workspace.now c.args.crate_id.index c.args.earlier.index c.crates.ensures.numbered c.structs_alike-structs.result.end c.traits_alike-traits.result.end c.impls_alike-impls.result.end
    c.structs_alike-structs.ensures.most c.traits_alike-traits.ensures.most c.impls_alike-impls.ensures.most in
    omega (arith, most, c.lower_structs.ensures.few, c.lower_traits.ensures.few, c.lower_impls.ensures.few)
