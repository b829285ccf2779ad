-- The meaning of the fields of declarations.
use Rattle.std.specs.Prelude.{◌≡◌, map}
use Rattle.std.specs.Option.{option_map}
use Rattle.type_terms.specs.declared.ImplId.{ImplId}
use Rattle.declarations.specs.Heads.{label_of}
use Rattle.declarations.specs.Index.{listed, has_key, ids_of}
use Rattle.declarations.specs.Merges.{Rises}
use Rattle.declarations.specs.Items.{Items, HeldImpl}
use Rattle.declarations.specs.declared.heads.ImplKey.{ImplKey}
use Rattle.declarations.specs.declared.declarations.ImplEntry.{ImplEntry}
use Rattle.declarations.specs.declared.declarations.Declarations.TheInside.{Inside}

-- An impl of the table.
abbrev pub impl_of : ImplId × ImplEntry → HeldImpl
impl_of x =
    record {
      id = x.0;
      def = x.1.def;
      self_head = option_map label_of x.1.self_ty;
      inner_head = option_map label_of x.1.inner;
      is_fixed = x.1.is_fixed;
    }

-- The lists in the tables.
abbrev pub items_of : Inside → Items
items_of a = record { local = a.local.index; structs = a.adts.entries; traits = a.traits.entries; impls = map impl_of a.impls.entries }

-- The numbers of impls rise, and under each key are the impls that have it.
pub record IndexIsSound (a : Inside) : Type 0 where
  pub rises : Rises (map (λ i. i.id) (items_of a).impls)
  pub indexed : (k : ImplKey) → listed a.keys k ≡ ids_of (has_key k) (items_of a).impls
