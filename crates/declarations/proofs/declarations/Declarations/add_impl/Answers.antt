use Rattle.std.proofs.Common.{◌≡◌, ◌<◌, [], ◌∷◌, ◌++◌, sym, ap, ◌∙◌, subst, refl}
use Rattle.std.specs.Prelude.{map}
use Rattle.std.specs.Map.{lookup}
use Rattle.std.proofs.lemmas.List.{map_push}
use Rattle.indexmap.proofs.CallerLemmas.{insert_entry-new}
use Rattle.type_terms.specs.Promised.Handles.{trees_at, types}
use Rattle.type_terms.specs.Kept.{trees-is}
use Rattle.type_terms.specs.contracts.ImplIdPartialEq.TheImpl.{ghosts as impl-id}
use Rattle.declarations.specs.declared.declarations.ImplEntry.{ImplEntry}
use Rattle.declarations.specs.Heads.{head_of, inner_head_of}
use Rattle.declarations.specs.Promised.Elaboration.{Each}
use Rattle.declarations.specs.Merges.{Rises}
use Rattle.declarations.specs.Items.{HeldImpl}
use Rattle.declarations.specs.Index.{listed, has_key, ids_of}
use Rattle.declarations.specs.Inside.{items_of, impl_of}
use Rattle.declarations.proofs.Pushed.{impl-new, impl-declared, impl-held, more-impls, pushed-under, apart-keys, apart-third, rises-more, head-of-first, inner-of-first}
use Rattle.declarations.proofs.Sound.{still-sound}
use Rattle.declarations.proofs.declarations.Declarations.add_impl.Goals as goal

entry-of : goal.Joined-this → ImplEntry
entry-of c = record { def = c.args.def; self_ty = c.simplify_type-self_ty.result; inner = c.simplify_inner-inner.result; is_fixed = c.is_fixed-is_fixed.result }

above : (c : goal.Joined-this) → Each (λ i. i.id.index < c.args.id.index) (items_of c.self.inside).impls
above c = subst (λ d. Each (λ i. i.id.index < c.args.id.index) d.impls) (sym c.self.view_is) c.requires.above

items-are : (c : goal.Joined-this) → map impl_of c.insert.new.self.entries ≡ (items_of c.self.inside).impls ++ impl_of (c.args.id, entry-of c) ∷ []
unfolding entry-of
items-are c =
    let kept = c.reserve.ensures.entries in
    let new = ap (lookup (impl-id.eq c.args.id)) kept ∙ impl-new c.args.id c.self.inside.impls.entries (above c) in
    ap (map impl_of) (c.in-Ok.ensures.entries ∙ insert_entry-new _ c.reserve.new.self c.args.id (entry-of c) new ∙ ap (λ l. l ++ (c.args.id, entry-of c) ∷ []) kept)
    ∙ map_push impl_of c.self.inside.impls.entries (c.args.id, entry-of c)

pub invariant_of-self-2 : goal.invariant_of-self-2
unfolding entry-of
invariant_of-self-2 c =
    let xs = (items_of c.self.inside).impls in
    let x : HeldImpl = impl_of (c.args.id, entry-of c) in
    record {
      rises = subst (λ l. Rises (map (λ i. i.id) l)) (sym (items-are c)) (rises-more xs x c.self.invariant.rises (above c));
      indexed = λ k. subst (λ l. listed c.add_keys.new.keys k ≡ ids_of (has_key k) l) (sym (items-are c))
          (pushed-under c.args.id c.args.def c.simplify_type-self_ty.result c.simplify_inner-inner.result c.is_fixed-is_fixed.result c.own_key-own.result c.inner_key-deep.result
          c.own_key-own.ensures c.inner_key-deep.ensures xs k (listed c.self.inside.keys k) (listed c.add_keys.new.keys k)
          (c.self.invariant.indexed k) (c.in_ok-add_keys.ensures.added k));
    }

pub returns-clause-added : goal.returns-clause-added
unfolding entry-of
returns-clause-added c =
    let es = c.args.cx.now.entries in
    let first = trees-is es types c.self_ty-self_type.result.0 _ c.self_ty-self_type.ensures.is in
    let head = c.simplify_type-self_ty.ensures ∙ ap head_of first ∙ head-of-first (trees_at es c.args.def.header.args.0) c.requires.held.begins in
    let inner = c.simplify_inner-inner.ensures ∙ ap inner_head_of first ∙ inner-of-first (trees_at es c.args.def.header.args.0) c.requires.held.begins in
    more-impls (items_of c.self.inside) c.args.self.now c.args.id c.args.def _ _ _ _ _ _ (map impl_of c.insert.new.self.entries) c.self.view_is (items-are c) head inner c.is_fixed-is_fixed.ensures

pub returns-clause-declares : goal.returns-clause-declares
returns-clause-declares c es = impl-declared es c.args.self.now _ _ (returns-clause-added c)

pub returns-clause-held : goal.returns-clause-held
returns-clause-held c h = impl-held c.args.cx.now.entries c.args.self.now _ c.args.id c.args.def h c.requires.held (returns-clause-added c)

pub add_keys-requires : goal.add_keys-requires
add_keys-requires c =
    let s = c.simplify_type-self_ty.result in
    let n = c.simplify_inner-inner.result in
    let f = c.is_fixed-is_fixed.result in
    record {
      apart = apart-keys c.args.id c.args.def s n f c.own_key-own.result c.own_key-own.ensures;
      third_apart = apart-third c.args.id c.args.def s n f c.own_key-own.result c.inner_key-deep.result c.own_key-own.ensures c.inner_key-deep.ensures;
    }

pub invariant_of-self : goal.invariant_of-self
invariant_of-self c = still-sound c.self.inside _ c.reserve.ensures.entries (λ k. refl) c.self.invariant

pub invariant_of-self-in_err-add_keys : goal.invariant_of-self-in_err-add_keys
invariant_of-self-in_err-add_keys c = still-sound c.self.inside _ c.reserve.ensures.entries c.in_err-add_keys.ensures.refused c.self.invariant
