-- Impls by their keys: the trait and the heads of their self type, or their header.
use Rattle.std.specs.Prelude.{Bool, false, ◌==◌, ◌&&◌, ◌||◌, not, if◌then◌else◌, List, [], ◌∷◌, map, filter, Option, None, Some}
use Rattle.std.specs.Option.{option_map, option_map_or}
use Rattle.std.specs.HashMap.{HashMap, get_by}
use Rattle.type_terms.specs.declared.ImplId.{ImplId}
use Rattle.type_terms.specs.declared.TraitId.{TraitId}
use Rattle.term_folds.specs.declared.predicate.TraitRef.{TraitRef}
use Rattle.declarations.specs.declared.heads.ImplHead.{ImplHead}
use Rattle.declarations.specs.declared.heads.ImplIds.{ImplIds}
use Rattle.declarations.specs.declared.heads.ImplIds.TheVariants.{Empty, One, More}
use Rattle.declarations.specs.declared.heads.ImplKey.{ImplKey}
use Rattle.declarations.specs.declared.heads.ImplKey.TheVariants.{Headed, Open, Fixed, Shallow, Inner}
use Rattle.declarations.specs.declared.simplify.SimplifiedType.{SimplifiedType}
use Rattle.type_terms.specs.Codes.{same_label}
use Rattle.declarations.specs.Heads.{label_of, same_self, matches_inner, is_shallow}
use Rattle.declarations.specs.Items.{HeldImpl}

-- The heads are equal.
abbrev pub is_head : ImplHead → ImplHead → Bool
is_head h k = (h.trait_id.index == k.trait_id.index) && same_self (option_map label_of h.self_ty) (option_map label_of k.self_ty)

-- The keys are equal.
abbrev pub is_key : ImplKey → ImplKey → Bool
is_key (Headed h) (Headed k) = is_head h k
is_key (Open h) (Open k) = is_head h k
is_key (Fixed r) (Fixed s) = (r.def_id.index == s.def_id.index) && (r.args.0 == s.args.0)
is_key (Shallow t) (Shallow u) = t.index == u.index
is_key (Inner h s) (Inner k u) = is_head h k && same_label (label_of s) (label_of u)
is_key _ _ = false

-- The key exists and is this one.
abbrev pub is_that_key : Option ImplKey → ImplKey → Bool
is_that_key None k = false
is_that_key (Some h) k = is_key h k

-- The impls that are stored under a key.
abbrev pub ids_in : ImplIds → List ImplId
ids_in Empty = []
ids_in (One i) = i ∷ []
ids_in (More v) = v.items

-- The impls that are listed under a key.
abbrev pub listed : {S : Type 0} → HashMap ImplKey ImplIds S → ImplKey → List ImplId
listed m k = option_map_or ids_in (get_by (is_key k) m) []

-- The impl is of this trait, and its self type has this head. No head means that it is a parameter.
abbrev pub has_head : ImplHead → HeldImpl → Bool
has_head h i = (i.def.header.def_id.index == h.trait_id.index) && same_self (option_map label_of h.self_ty) i.self_head

-- The impl has the key.
abbrev pub has_key : ImplKey → HeldImpl → Bool
has_key (Headed h) i = has_head h i
has_key (Open h) i = has_head h i && not i.is_fixed
has_key (Fixed r) i = i.is_fixed && ((i.def.header.def_id.index == r.def_id.index) && (i.def.header.args.0 == r.args.0))
has_key (Shallow t) i = (i.def.header.def_id.index == t.index) && is_shallow i.self_head i.inner_head
has_key (Inner h s) i = has_head h i && same_self (Some (label_of s)) i.inner_head

-- The key by the inner head of an impl with this head. A self type that can match no type with an inner head has none.
abbrev pub inner_key : ImplHead → Option SimplifiedType → Option ImplKey
inner_key h None = if matches_inner (option_map label_of h.self_ty) then Some (Shallow h.trait_id) else None
inner_key h (Some s) = Some (Inner h s)

-- The impl has one of the two keys by which a type with this head and inner head looks for impls.
abbrev pub has_inner_key : ImplHead → SimplifiedType → HeldImpl → Bool
has_inner_key h s i = has_key (Shallow h.trait_id) i || has_key (Inner h s) i

-- The numbers of the impls that satisfy the predicate.
abbrev pub ids_of : (HeldImpl → Bool) → List HeldImpl → List ImplId
ids_of p is = map (λ i. i.id) (filter p is)

-- The trait of a trait reference, with a head.
abbrev pub head_with : TraitRef → Option SimplifiedType → ImplHead
head_with r s = record { trait_id = r.def_id; self_ty = s }

-- The impl is of this trait, its self type has this head, and its header is not fixed. Without a head there is no such impl.
abbrev pub has_open_head : TraitId → Option SimplifiedType → HeldImpl → Bool
has_open_head t None i = false
has_open_head t (Some s) i = has_key (Open (record { trait_id = t; self_ty = Some s })) i
