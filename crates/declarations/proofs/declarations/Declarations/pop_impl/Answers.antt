use Rattle.std.proofs.Common.{◌≡◌, [], ◌∷◌, ◌++◌, append-nil, refl, sym, ap, ◌∙◌, subst}
use Rattle.std.specs.Prelude.{map}
use Rattle.std.proofs.lemmas.List.{map_push}
use Rattle.declarations.specs.Index.{listed, has_key, ids_of}
use Rattle.declarations.specs.Inside.{impl_of}
use Rattle.declarations.specs.Merges.{Rises}
use Rattle.declarations.proofs.Merging.{rises-fewer}
use Rattle.declarations.proofs.Pushed.{apart-third, popped-under}
use Rattle.declarations.proofs.Sound.{still-sound}
use Rattle.declarations.proofs.declarations.Declarations.pop_impl.Goals as goal

pub take_last_of_keys-requires-clause-third_apart : goal.take_last_of_keys-requires-clause-third_apart
take_last_of_keys-requires-clause-third_apart c =
    let e = c.in-Some.entry in
    apart-third c.in-Some.field-0-0 e.def e.self_ty e.inner e.is_fixed c.own_key-own.result c.inner_key-deep.result c.own_key-own.ensures c.inner_key-deep.ensures

pub invariant_of-self : goal.invariant_of-self
invariant_of-self c =
    let i = c.in-Some.field-0-0 in
    let e = c.in-Some.entry in
    let rest = map impl_of c.pop.new.self.entries in
    let were : map impl_of c.self.inside.impls.entries ≡ rest ++ impl_of (i, e) ∷ [] = ap (map impl_of) c.in-Some.ensures.entries ∙ map_push impl_of c.pop.new.self.entries (i, e) in
    record {
      rises = rises-fewer (map (λ x. x.id) rest) i (subst Rises (ap (map (λ x. x.id)) were ∙ map_push (λ x. x.id) rest (impl_of (i, e))) c.self.invariant.rises);
      indexed =
          c.take_last_of_keys.ensures i (λ k. ids_of (has_key k) rest)
          (λ k. popped-under i e.def e.self_ty e.inner e.is_fixed c.own_key-own.result c.inner_key-deep.result c.own_key-own.ensures c.inner_key-deep.ensures rest k (listed c.self.inside.keys k)
          (c.self.invariant.indexed k ∙ ap (ids_of (has_key k)) were));
    }

pub invariant_of-self-in-None : goal.invariant_of-self-in-None
invariant_of-self-in-None c = still-sound c.self.inside _ (sym (c.in-None.ensures.entries ∙ append-nil c.pop.new.self.entries)) (λ k. refl) c.self.invariant
