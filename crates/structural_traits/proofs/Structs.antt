-- Structs with the arguments of a type.
use Rattle.std.proofs.Common.{◌≡◌, ℕ, Bool, true, false, cond, List, [], ◌∷◌, Some, None, sym, subst}
use Rattle.std.specs.Prelude.{◌==◌, map, IfSome}
use Rattle.std.proofs.lemmas.Option.{same_Some}
use Rattle.type_terms.specs.Promised.Trees.{Trees}
use Rattle.type_terms.specs.Promised.Handles.{Entry, trees_at}
use Rattle.type_terms.specs.declared.AdtId.{AdtId}
use Rattle.type_terms.specs.declared.kinds.Ty.{Ty}
use Rattle.term_folds.specs.Arguments.{first_misfit}
use Rattle.declarations.specs.declared.items.AdtDef.{AdtDef}
use Rattle.declarations.specs.Items.{Items, struct_at}
use Rattle.declarations.specs.Promised.Elaboration.{Each}
use Rattle.declarations.specs.Applied.{sort_of_param, sorts_of, SpeaksOf}
use Rattle.structural_traits.specs.Constituents.{AreArguments, HaveFields}

at-found : (P : AdtId × AdtDef → Type 0) (n : ℕ) (def : AdtDef) (xs : List (AdtId × AdtDef)) → Each P xs → Some def ≡ struct_at n xs → (id : AdtId) × P (id, def)
at-found P n def [] h e = absurd cc
at-found P n def (x ∷ xs) h e = by (n == x.0.index) e (at-found P n def xs h.1)
  where
    by : (b : Bool) → Some def ≡ cond b (Some x.1) (struct_at n xs) → (Some def ≡ struct_at n xs → (id : AdtId) × P (id, def)) → (id : AdtId) × P (id, def)
    by true f go = (x.0, subst (λ z. P (x.0, z)) (sym (same_Some def x.1 f)) h.0)
    by false f go = go f

-- each field has an argument for each of its parameters
pub fields-fit : (es : List Entry) (d : Items) (s : ℕ) (A : Trees) (def : AdtDef) → HaveFields es d → AreArguments d s A → Some def ≡ struct_at s d.structs
    → Each (λ (f : Ty). first_misfit A (trees_at es f.0) ≡ None) def.fields.items
fields-fit es d s A def h a e =
    let found = at-found (λ (x : AdtId × AdtDef). Each (λ (f : Ty). SpeaksOf (map sort_of_param x.1.params.items) (trees_at es f.0)) x.1.fields.items) s def d.structs h e in
    let sorts = subst (λ o. IfSome o (λ x. sorts_of A ≡ map sort_of_param x.params.items)) (sym e) a.sorts in
    all def.fields.items found.1 sorts
  where
    all : (fs : List Ty) → Each (λ (f : Ty). SpeaksOf (map sort_of_param def.params.items) (trees_at es f.0)) fs → sorts_of A ≡ map sort_of_param def.params.items
        → Each (λ (f : Ty). first_misfit A (trees_at es f.0) ≡ None) fs
    all [] g q = tt
    all (f ∷ fs) g q = (g.0 A q, all fs g.1 q)
