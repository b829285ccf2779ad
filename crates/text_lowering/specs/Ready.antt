-- The declarations that a crate sees of a text are ready for the solver. All their terms hold the item's own parameters alone, and each
-- bound has an argument for each parameter of its trait.
use Rattle.std.specs.Prelude.{◌≡◌, ℕ, List, map, length, Ok}
use Rattle.type_terms.specs.Promised.Label.{Sort, of_type, of_const, of_lifetime}
use Rattle.type_terms.specs.Promised.Handles.{Entry, trees_at}
use Rattle.type_terms.specs.declared.AdtId.{AdtId}
use Rattle.type_terms.specs.declared.kinds.Ty.{Ty}
use Rattle.infer_table.specs.declared.canonical.CanonicalVarKind.{CanonicalVarKind}
use Rattle.infer_table.specs.declared.canonical.CanonicalVarKind.TheVariants.{Ty as TypeVar, Const as ConstVar, Region}
use Rattle.term_folds.specs.declared.predicate.TraitRef.{TraitRef}
use Rattle.declarations.specs.declared.items.AdtDef.{AdtDef}
use Rattle.declarations.specs.Applied.{SpeaksOf}
use Rattle.declarations.specs.Items.{Items, HeldImpl, written}
use Rattle.declarations.specs.Promised.Elaboration.{Each}
use Rattle.text_language.specs.Promised.Declarations as text
use Rattle.text_language.specs.Text.{TextGives}
use Rattle.candidate_model.specs.Candidates.{kinds_of_params}
use Rattle.text_lowering.specs.Promised.SeenWorlds.{plainly_seen_from}
use Rattle.text_lowering.specs.Seen.{struct_sorts, trait_sorts, impl_sorts, struct_sorts_seen, trait_sorts_seen, impl_sorts_seen}

-- The declarations are what crate c sees of the text, without binders, and their parameters have the kinds that the text gives.
pub record AreSeen (es : List Entry) (decls : Items) (d : text.Declarations) (c : ℕ) : Type 0 where
  pub written : written es decls ≡ plainly_seen_from d c
  pub structs : map struct_sorts decls.structs ≡ struct_sorts_seen d c
  pub traits : map trait_sorts decls.traits ≡ trait_sorts_seen d c
  pub impls : map impl_sorts decls.impls ≡ impl_sorts_seen d c

-- P holds for all that a crate sees of a text without a fault.
abbrev pub OfTexts : (List Entry → Items → Type 0) → Type 0
OfTexts P = (bytes : List ℕ) (d : text.Declarations) → TextGives bytes (Ok d) → (c : ℕ) (es : List Entry) (decls : Items) → AreSeen es decls d c → P es decls

-- The fields of each struct hold its own parameters alone.
abbrev pub FieldsSpeak : List Entry → Items → Type 0
FieldsSpeak es decls = Each (λ (x : AdtId × AdtDef). Each (λ (f : Ty). SpeaksOf (struct_sorts x) (trees_at es f.0)) x.1.fields.items) decls.structs

-- The kind of the inference variable for a parameter of this kind.
abbrev pub kind_of_sort : Sort → CanonicalVarKind
kind_of_sort of_type = TypeVar
kind_of_sort of_const = ConstVar
kind_of_sort of_lifetime = Region

-- The header of an impl determines the kinds of its parameters: each that is a type or a constant occurs there.
abbrev pub TellsKinds : List Entry → HeldImpl → Type 0
TellsKinds es i = map kind_of_sort (impl_sorts i) ≡ kinds_of_params (trees_at es i.def.header.args.0) 0 (length (impl_sorts i))

-- The header and the where-clauses of an impl hold its own parameters alone.
pub record ImplSpeaksOfOwn (es : List Entry) (i : HeldImpl) : Type 0 where
  pub header : SpeaksOf (impl_sorts i) (trees_at es i.def.header.args.0)
  pub clauses : Each (λ (r : TraitRef). SpeaksOf (impl_sorts i) (trees_at es r.args.0)) i.def.clauses.items

abbrev pub HeadersTell : List Entry → Items → Type 0
HeadersTell es decls = Each (TellsKinds es) decls.impls

abbrev pub ImplsSpeak : List Entry → Items → Type 0
ImplsSpeak es decls = Each (ImplSpeaksOfOwn es) decls.impls
