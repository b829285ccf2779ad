-- References, lowered one after the other.
use Rattle.std.proofs.Common.{◌≡◌, ℕ, ◌+◌, Bool, List, [], ◌∷◌, ◌++◌, map, take, Some, sym, ap, ◌∙◌}
use Rattle.std.proofs.lemmas.List.{map_push, take_more}
use Rattle.std.proofs.lemmas.Option.{slice_get_within, get_or_from_slice_get}
use Rattle.std.specs.Prelude.{slice_get}
use Rattle.type_terms.specs.Promised.Handles.{Entry, Keeps}
use Rattle.term_folds.specs.declared.predicate.TraitRef.{TraitRef}
use Rattle.declarations.specs.Applied.{references_in, TraitRefsHeld}
use Rattle.declarations.specs.Items.{reference_in}
use Rattle.declarations.proofs.Bounded.{all-same}
use Rattle.text_tables.specs.declared.declared.ReferenceCells.{ReferenceCells}
use Rattle.text_tables.specs.Views.{reference_of}
use Rattle.text_lowering.specs.Promised.SeenWorlds.{plain_reference}

-- one more of a list, read by f
pub one-more-read : {A B : Type 0} (f : A → B) (xs : List A) (i : ℕ) (x : A) → slice_get xs i ≡ Some x → map f (take (i + 1) xs) ≡ map f (take i xs) ++ f x ∷ []
one-more-read f xs i x e =
    ap (map f) (take_more xs i x (slice_get_within xs i x e) ∙ ap (λ y. take i xs ++ y ∷ []) (get_or_from_slice_get xs i x x e)) ∙ map_push f (take i xs) x

pub one-more-lowered : (kept : ℕ → Bool) (old new : List Entry) → Keeps old new → (rs : List TraitRef) (r : TraitRef) (cells : List ReferenceCells) (i : ℕ) (x : ReferenceCells) → TraitRefsHeld old rs
    → slice_get cells i ≡ Some x → references_in old rs ≡ map (plain_reference kept) (map reference_of (take i cells)) → reference_in new r ≡ plain_reference kept (reference_of x)
    → references_in new (rs ++ r ∷ []) ≡ map (plain_reference kept) (map reference_of (take (i + 1) cells))
one-more-lowered kept old new k rs r cells i x h e are is =
    map_push (reference_in new) rs r ∙ ap (λ l. l ++ reference_in new r ∷ []) (all-same old new k rs h ∙ are)
    ∙ ap (λ y. map (plain_reference kept) (map reference_of (take i cells)) ++ y ∷ []) is
    ∙ sym (ap (map (plain_reference kept)) (one-more-read reference_of cells i x e) ∙ map_push (plain_reference kept) (map reference_of (take i cells)) (reference_of x))
