-- Declarations that a crate sees of a text are ready to be asked.
use Rattle.std.proofs.Common.{◌≡◌, ℕ, ◌<◌, Bool, true, false, ◌&&◌, List, [], ◌∷◌, map, length, Some, refl, sym, ap, ◌∙◌, subst}
use Rattle.std.proofs.lemmas.Bool.{eqb-true}
use Rattle.std.proofs.lemmas.Bool.Decides.{Decides-ltb}
use Rattle.std.proofs.lemmas.Option.{same_Some}
use Rattle.std.specs.Prelude.{if◌then◌else◌, ◌==◌, nat_lt, slice_get, IfSome}
use Rattle.std.specs.List.{list_all}
use Rattle.type_terms.specs.Promised.Label.{Sort, of_type}
use Rattle.type_terms.specs.Promised.Trees.{Trees}
use Rattle.type_terms.specs.Trees.{outer_binder}
use Rattle.type_terms.specs.Promised.Worlds.{World, Reference, StructDecl, TraitDecl, ImplDecl, sees}
use Rattle.type_terms.specs.Promised.Handles.{Entry, trees_at}
use Rattle.type_terms.specs.declared.AdtId.{AdtId}
use Rattle.type_terms.specs.declared.TraitId.{TraitId}
use Rattle.type_terms.specs.declared.kinds.Ty.{Ty}
use Rattle.term_folds.specs.declared.predicate.TraitRef.{TraitRef}
use Rattle.declarations.specs.declared.items.AdtDef.{AdtDef}
use Rattle.declarations.specs.declared.items.TraitDef.{TraitDef}
use Rattle.declarations.specs.Applied.{SpeaksOf, IsBoundOf, HaveBounds, sorts_of, sorts_of_params}
use Rattle.declarations.specs.Items.{Items, HeldImpl, reference_in, struct_in, trait_in, impl_in, trait_at}
use Rattle.declarations.specs.Promised.Elaboration.{Each}
use Rattle.text_language.specs.Promised.Declarations as text
use Rattle.text_language.specs.Promised.Declarations.{NamedStruct, NamedTrait, NamedImpl, world_of}
use Rattle.candidate_model.specs.Candidates.{kinds_of_params}
use Rattle.candidate_model.specs.DeclaredWell.{is_single}
use Rattle.text_lowering.specs.Promised.SeenWorlds.{plain, plain_reference, plain_struct, plain_trait, plain_impl, all_kept, none_kept, stands_in}
use Rattle.text_lowering.specs.Seen.{struct_sorts, trait_sorts, impl_sorts, param_sorts}
use Rattle.text_lowering.specs.Ready.{AreSeen, OfTexts, FieldsSpeak, kind_of_sort, TellsKinds, ImplSpeaksOfOwn, HeadersTell, ImplsSpeak}
use Rattle.text_lowering.proofs.Tests.{is_good, is_good_struct, is_good_trait, is_good_impl, all_stand}
use Rattle.text_lowering.proofs.Trees.{and-left, and-right}
use Rattle.text_lowering.proofs.SeenViews.{good-fits}
use Rattle.text_lowering.proofs.Spoken.{speaks, closed, plain-sorts}
use Rattle.text_lowering.proofs.Applied.{BoundFits, BoundsFit}
use Rattle.text_lowering.proofs.Matched.{IsItem, each-true, each-placed, parts-matched, items-matched}
use Rattle.text_lowering.proofs.Told.{kinds-told}
use Rattle.text_lowering.proofs.Texts.{Well, texts-are-well}
use Rattle.declarations.proofs.Growth.{each-kept as each-map}
use Rattle.declarations.proofs.Basics.{both as each-both}

-- trees that are good once they are plain
good-speaks : (kept : ℕ → Bool) (sorts ss : List Sort) (t u : Trees) → is_good kept sorts t ≡ true → u ≡ plain kept t → ss ≡ sorts → SpeaksOf ss u
good-speaks kept sorts ss t u g e f = subst (λ s. SpeaksOf s u) (sym f) (subst (SpeaksOf sorts) (sym e) (speaks sorts (plain kept t) (good-fits kept sorts t g)))

-- ---- a good impl
module _ (es : List Entry) (i : HeldImpl) (n : NamedImpl) (good : is_good_impl n ≡ true) (same_header : trees_at es i.def.header.args.0 ≡ plain all_kept n.item.header.args) where
  abbrev H : Trees
  H = n.item.header.args

  abbrev own : List Sort
  own = param_sorts n

  good-header : is_good all_kept own H ≡ true
  good-header = and-left (is_good all_kept own H) _ good

  good-rest : all_stand H 0 own && list_all (λ (r : Reference). is_good (stands_in H) own r.args) n.item.clauses ≡ true
  good-rest = and-right (n.item.params == length own) _ (and-right (is_good all_kept own H) _ good)

  pub header-tells : impl_sorts i ≡ own → TellsKinds es i
  header-tells sorts =
      subst (λ t. map kind_of_sort (impl_sorts i) ≡ kinds_of_params t 0 (length (impl_sorts i))) (sym same_header)
      (subst (λ z. map kind_of_sort z ≡ kinds_of_params (plain all_kept H) 0 (length z)) (sym sorts) (kinds-told H own (and-left (all_stand H 0 own) _ good-rest) (good-fits all_kept own H good-header)))

  pub impl-speaks-of-own : map (reference_in es) i.def.clauses.items ≡ map (plain_reference (stands_in H)) n.item.clauses → impl_sorts i ≡ own → ImplSpeaksOfOwn es i
  impl-speaks-of-own same_clauses sorts =
      let Q = λ (r : Reference). is_good (stands_in H) own r.args ≡ true in
      record {
        header = good-speaks all_kept own (impl_sorts i) H (trees_at es i.def.header.args.0) good-header same_header sorts;
        clauses =
            each-map (λ (y : TraitRef). (r : Reference) × Q r × (reference_in es y ≡ plain_reference (stands_in H) r)) (λ (r : TraitRef). SpeaksOf (impl_sorts i) (trees_at es r.args.0))
            (λ y m. good-speaks (stands_in H) own (impl_sorts i) m.0.args (trees_at es y.args.0) m.1 (ap (λ (r : Reference). r.args) m.2) sorts) i.def.clauses.items
            (parts-matched Q (plain_reference (stands_in H)) (reference_in es) n.item.clauses i.def.clauses.items
            (each-true (λ (r : Reference). is_good (stands_in H) own r.args) n.item.clauses (and-right (all_stand H 0 own) _ good-rest)) same_clauses);
      }

module _ (d : text.Declarations) (c : ℕ) (w : Well d) (es : List Entry) (decls : Items) (seen : AreSeen es decls d c) where
  -- ---- structs
  abbrev IsStruct : AdtId × AdtDef → Type 0
  IsStruct = IsItem (λ (n : NamedStruct). n.item) plain_struct (λ (x : StructDecl). sees (world_of d) c x.home) (λ (n : NamedStruct). n.kinds) (struct_in es) struct_sorts (λ n. is_good_struct n ≡ true)

  structs-matched : Each IsStruct decls.structs
  structs-matched =
      items-matched (λ (n : NamedStruct). n.item) plain_struct (λ (x : StructDecl). sees (world_of d) c x.home) (λ (n : NamedStruct). n.kinds) (struct_in es) struct_sorts (λ n. is_good_struct n ≡ true) d.structs decls.structs
      (each-true is_good_struct d.structs w.structs) (ap (λ (V : World). V.structs) seen.written) seen.structs

  struct-speaks : (x : AdtId × AdtDef) → IsStruct x → Each (λ (f : Ty). SpeaksOf (struct_sorts x) (trees_at es f.0)) x.1.fields.items
  struct-speaks x n =
      let Q = λ (t : Trees). is_good none_kept n.0.kinds t && is_single t ≡ true in
      each-map (λ (y : Ty). (t : Trees) × Q t × (trees_at es y.0 ≡ plain none_kept t)) (λ (f : Ty). SpeaksOf (struct_sorts x) (trees_at es f.0))
      (λ y m. good-speaks none_kept n.0.kinds (struct_sorts x) m.0 (trees_at es y.0) (and-left _ _ m.1) m.2 n.3) x.1.fields.items
      (parts-matched Q (plain none_kept) (λ (y : Ty). trees_at es y.0) n.0.item.fields x.1.fields.items (each-true (λ t. is_good none_kept n.0.kinds t && is_single t) n.0.item.fields n.1) (ap (λ (s : StructDecl). s.fields) n.2))

  pub fields-speak : FieldsSpeak es decls
  fields-speak = each-map IsStruct (λ (x : AdtId × AdtDef). Each (λ (f : Ty). SpeaksOf (struct_sorts x) (trees_at es f.0)) x.1.fields.items) struct-speaks decls.structs structs-matched

  -- ---- impls
  abbrev IsImpl : HeldImpl → Type 0
  IsImpl = IsItem (λ (n : NamedImpl). n.item) plain_impl (λ (x : ImplDecl). sees (world_of d) c x.home) param_sorts (λ (i : HeldImpl). impl_in es i.id i.def) impl_sorts (λ n. is_good_impl n ≡ true)

  impls-matched : Each IsImpl decls.impls
  impls-matched =
      items-matched (λ (n : NamedImpl). n.item) plain_impl (λ (x : ImplDecl). sees (world_of d) c x.home) param_sorts (λ (i : HeldImpl). impl_in es i.id i.def) impl_sorts (λ n. is_good_impl n ≡ true) d.impls decls.impls
      (each-true is_good_impl d.impls w.impls) (ap (λ (V : World). V.impls) seen.written) seen.impls

  impl-tells : (i : HeldImpl) → IsImpl i → TellsKinds es i
  impl-tells i n = header-tells es i n.0 n.1 (ap (λ (x : ImplDecl). x.header.args) n.2) n.3

  impl-speaks : (i : HeldImpl) → IsImpl i → ImplSpeaksOfOwn es i
  impl-speaks i n = impl-speaks-of-own es i n.0 n.1 (ap (λ (x : ImplDecl). x.header.args) n.2) (ap (λ (x : ImplDecl). x.clauses) n.2) n.3

  pub headers-tell : HeadersTell es decls
  headers-tell = each-map IsImpl (TellsKinds es) impl-tells decls.impls impls-matched

  pub impls-speak : ImplsSpeak es decls
  impls-speak = each-map IsImpl (ImplSpeaksOfOwn es) impl-speaks decls.impls impls-matched

  -- ---- traits
  -- a trait that is declared at its number, with its bounds
  abbrev IsPlaced : NamedTrait → Type 0
  IsPlaced n = (is_good_trait n ≡ true) × (BoundsFit d.traits n × (slice_get d.traits n.item.name ≡ Some n))

  placed : (k : ℕ) (x : NamedTrait) → slice_get d.traits k ≡ Some x → slice_get d.traits x.item.name ≡ Some x
  placed k x e = subst (λ n. slice_get d.traits n ≡ Some x) (sym (w.trait_numbers k x e)) e

  all-placed : Each IsPlaced d.traits
  all-placed =
      each-both (λ n. is_good_trait n ≡ true) (λ n. BoundsFit d.traits n × (slice_get d.traits n.item.name ≡ Some n)) d.traits (each-true is_good_trait d.traits w.traits)
      (each-both (BoundsFit d.traits) (λ n. slice_get d.traits n.item.name ≡ Some n) d.traits w.bounds (each-placed (λ n. slice_get d.traits n.item.name ≡ Some n) d.traits placed))

  abbrev IsTrait : TraitId × TraitDef → Type 0
  IsTrait = IsItem (λ (n : NamedTrait). n.item) plain_trait (λ (x : TraitDecl). sees (world_of d) c x.home) (λ (n : NamedTrait). of_type ∷ n.kinds) (trait_in es) trait_sorts IsPlaced

  traits-matched : Each IsTrait decls.traits
  traits-matched =
      items-matched (λ (n : NamedTrait). n.item) plain_trait (λ (x : TraitDecl). sees (world_of d) c x.home) (λ (n : NamedTrait). of_type ∷ n.kinds) (trait_in es) trait_sorts IsPlaced d.traits decls.traits all-placed
      (ap (λ (V : World). V.traits) seen.written) seen.traits

  -- what a trait of this number takes
  at-applied : (k : ℕ) (ss : List Sort) → ((n : NamedTrait) → IsPlaced n → n.item.name ≡ k → ss ≡ of_type ∷ n.kinds) → (zs : List (TraitId × TraitDef)) → Each IsTrait zs
      → IfSome (trait_at k zs) (λ def. ss ≡ sorts_of_params def)
  at-applied k ss f [] h = tt
  at-applied k ss f (z ∷ zs) h = by (k == z.0.index) refl (at-applied k ss f zs h.1)
    where
      by : (b : Bool) → (k == z.0.index) ≡ b → IfSome (trait_at k zs) (λ def. ss ≡ sorts_of_params def) → IfSome (if b then Some z.1 else trait_at k zs) (λ def. ss ≡ sorts_of_params def)
      by true e g = f h.0.0 h.0.1 (sym (ap (λ (x : TraitDecl). x.name) h.0.2) ∙ sym (eqb-true k z.0.index e)) ∙ sym h.0.3
      by false e g = g

  -- a bound as the text has it
  abbrev IsGiven : NamedTrait → Reference → Type 0
  IsGiven n r = (is_good none_kept (of_type ∷ n.kinds) r.args && nat_lt r.trait n.item.name ≡ true) × BoundFits d.traits r

  bound-holds : (x : TraitId × TraitDef) (n : NamedTrait) → trait_sorts x ≡ of_type ∷ n.kinds → x.0.index ≡ n.item.name → (y : TraitRef) → (r : Reference) × IsGiven n r × (reference_in es y ≡ plain_reference none_kept r)
      → IsBoundOf es decls (λ k. k) x.0.index x.1 y
  bound-holds x n e f y m =
      let r = m.0 in
      let fits = m.1.1 in
      let good = and-left (is_good none_kept (of_type ∷ n.kinds) r.args) _ m.1.0 in
      let args : trees_at es y.args.0 ≡ plain none_kept r.args = ap (λ (z : Reference). z.args) m.2 in
      let name : y.def_id.index ≡ r.trait = ap (λ (z : Reference). z.trait) m.2 in
      record {
        applied = record {
          sorts = at-applied y.def_id.index (sorts_of (trees_at es y.args.0))
              (λ t p q. ap sorts_of args ∙ plain-sorts none_kept r.args ∙ fits.2
              ∙ ap (λ (z : NamedTrait). of_type ∷ z.kinds) (same_Some fits.0 t (sym fits.1 ∙ ap (slice_get d.traits) (sym (q ∙ name)) ∙ p.1.1))) decls.traits traits-matched;
          closed = ap outer_binder args ∙ closed (of_type ∷ n.kinds) (plain none_kept r.args) (good-fits none_kept (of_type ∷ n.kinds) r.args good);
        };
        speaks = good-speaks none_kept (of_type ∷ n.kinds) (trait_sorts x) r.args (trees_at es y.args.0) good args e;
        lower = subst (λ k. k < x.0.index) (sym name) (subst (λ k. r.trait < k) (sym f) ((Decides-ltb r.trait n.item.name).0 (and-right (is_good none_kept (of_type ∷ n.kinds) r.args) _ m.1.0)));
      }

  trait-holds : (x : TraitId × TraitDef) → IsTrait x → Each (IsBoundOf es decls (λ k. k) x.0.index x.1) x.1.bounds.items
  trait-holds x n =
      each-map (λ (y : TraitRef). (r : Reference) × IsGiven n.0 r × (reference_in es y ≡ plain_reference none_kept r)) (IsBoundOf es decls (λ k. k) x.0.index x.1)
      (bound-holds x n.0 n.3 (ap (λ (z : TraitDecl). z.name) n.2)) x.1.bounds.items
      (parts-matched (IsGiven n.0) (plain_reference none_kept) (reference_in es) n.0.item.bounds x.1.bounds.items
      (each-both (λ (r : Reference). is_good none_kept (of_type ∷ n.0.kinds) r.args && nat_lt r.trait n.0.item.name ≡ true) (BoundFits d.traits) n.0.item.bounds
      (each-true (λ (r : Reference). is_good none_kept (of_type ∷ n.0.kinds) r.args && nat_lt r.trait n.0.item.name) n.0.item.bounds n.1.0) n.1.1.0) (ap (λ (z : TraitDecl). z.bounds) n.2))

  pub bounds-hold : Each (λ (x : TraitId × TraitDef). Each (IsBoundOf es decls (λ k. k) x.0.index x.1) x.1.bounds.items) decls.traits
  bounds-hold = each-map IsTrait (λ (x : TraitId × TraitDef). Each (IsBoundOf es decls (λ k. k) x.0.index x.1) x.1.bounds.items) trait-holds decls.traits traits-matched

pub texts-fields : OfTexts FieldsSpeak
texts-fields bytes d h c es decls seen = fields-speak d c (texts-are-well bytes d h) es decls seen

pub texts-headers : OfTexts HeadersTell
texts-headers bytes d h c es decls seen = headers-tell d c (texts-are-well bytes d h) es decls seen

pub texts-impls : OfTexts ImplsSpeak
texts-impls bytes d h c es decls seen = impls-speak d c (texts-are-well bytes d h) es decls seen

pub texts-bounds : OfTexts HaveBounds
texts-bounds bytes d h c es decls seen = record { rank = λ n. n; each = bounds-hold d c (texts-are-well bytes d h) es decls seen }
