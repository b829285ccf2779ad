-- A turn of the loop puts the mark of one more crate at the end.
use Rattle.std.proofs.Common.{◌≡◌, ℕ, ◌+◌, ◌<◌, Bool, List, [], ◌∷◌, ◌++◌, length, map, take, get_or, sym, subst, ap, ◌∙◌}
use Rattle.std.proofs.lemmas.List.{map_more}
use Rattle.type_terms.specs.declared.CrateId.{CrateId}
use Rattle.text_language.specs.Promised.Declarations.{world_of}
use Rattle.text_tables.specs.Tables.{declared, will_see}
use Rattle.text_tables.proofs.tables.Tables.seen_by.Goals as goal

-- one more value at the end, for the item at a place
one-more : {A B : Type 0} (f : A → B) (xs : List A) (i : ℕ) (x : A) (ts us : List B) (t : B) → i < length xs → x ≡ get_or xs i x → t ≡ f x → us ≡ ts ++ t ∷ [] → ts ≡ map f (take i xs) → us ≡ map f (take (i + 1) xs)
one-more f xs i x ts us t lt is e p h = p ∙ ap (λ r. r ++ t ∷ []) h ∙ ap (λ y. map f (take i xs) ++ y ∷ []) (e ∙ ap f is) ∙ sym (map_more f xs i x lt)

pub loop-id-preserved : goal.loop-id-preserved
loop-id-preserved c =
    let xs = c.args.self.now.ids.items in
    let i = c.loop-id.id-index in
    let x = c.id-item.result in
    let there : i < length xs = subst (λ ys. i < length ys) c.deref-id-items.ensures.value c.loop-id-test.true in
    let same : x ≡ get_or xs i x = subst (λ ys. x ≡ get_or ys i x) c.deref-id-items.ensures.value c.id-item.is in
    one-more {A = CrateId} {B = Bool} (λ k. will_see (world_of (declared c.args.self.now)) c.args.uses.now k.index) xs i x c.loop-id.row.items c.push.new.self.items c.will_see.result there same c.will_see.ensures c.in_ok-push.ensures.items c.loop-id.invariant
