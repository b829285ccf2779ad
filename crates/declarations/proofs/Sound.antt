-- An index stays sound where its tables only get more room.
use Rattle.std.proofs.Common.{◌≡◌, sym, ap, ◌∙◌, subst, []}
use Rattle.std.specs.Prelude.{map}
use Rattle.std.specs.HashMap.{HashMap}
use Rattle.std.specs.Map.{lookup}
use Rattle.std.specs.Option.{option_map_or}
use Rattle.declarations.specs.declared.heads.ImplIds.{ImplIds}
use Rattle.declarations.specs.declared.heads.ImplKey.{ImplKey}
use Rattle.declarations.specs.declared.declarations.Declarations.TheInside.{Inside}
use Rattle.declarations.specs.Index.{ids_in, is_key, listed, has_key, ids_of}
use Rattle.declarations.specs.Inside.{impl_of, IndexIsSound}
use Rattle.declarations.specs.Merges.{Rises}

pub still-sound : (a b : Inside) → b.impls.entries ≡ a.impls.entries → ((k : ImplKey) → listed b.keys k ≡ listed a.keys k) → IndexIsSound a → IndexIsSound b
still-sound a b e l h =
    record {
      rises = subst (λ es. Rises (map (λ i. i.id) (map impl_of es))) (sym e) h.rises;
      indexed = λ k. l k ∙ h.indexed k ∙ ap (λ es. ids_of (has_key k) (map impl_of es)) (sym e);
    }

pub same-entries : {S : Type 0} (m n : HashMap ImplKey ImplIds S) → n.entries ≡ m.entries → (k : ImplKey) → listed n k ≡ listed m k
same-entries m n e k = ap (λ es. option_map_or ids_in (lookup (is_key k) es) []) e
