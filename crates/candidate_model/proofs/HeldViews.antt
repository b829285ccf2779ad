-- Declarations whose terms an interner holds are declared well, but for what is left to be told of them.
use Rattle.std.proofs.Common.{◌≡◌, ℕ, Bool, true, false, not, ◌&&◌, List, [], ◌∷◌, map, ◌⊎◌, inl, inr, refl, sym, ◌∙◌, ap, subst, ◌≢◌}
use Rattle.std.specs.List.{list_all}
use Rattle.type_terms.specs.Promised.Label.{of_type}
use Rattle.type_terms.specs.Promised.Trees.{Trees, none, tree, erase, some_node, IsA}
use Rattle.type_terms.specs.Trees.{Single}
use Rattle.type_terms.specs.Promised.Worlds.{World, Reference, StructDecl, TraitDecl, ImplDecl}
use Rattle.type_terms.specs.Promised.Erased.{erased_reference, erased_struct, erased_trait, erased_impl}
use Rattle.type_terms.specs.Promised.LinkedSet.{is_stray}
use Rattle.type_terms.specs.LinkedSet.{all_args, all_written}
use Rattle.type_terms.specs.Promised.Proofs.{In}
use Rattle.type_terms.proofs.Members.{here, there, in-nothing, in-cases}
use Rattle.type_terms.proofs.ProofEntries.{map-in}
use Rattle.type_terms.proofs.NoHolds.{member-each}
use Rattle.type_terms.proofs.Fitting.{not-true}
use Rattle.type_terms.proofs.Walking.{left, right, both}
use Rattle.type_terms.specs.Made.{terms, is_made, is_in_range}
use Rattle.type_terms.specs.Promised.Handles.{Entry, Has, trees_at, types, bounds_lists}
use Rattle.type_terms.specs.Terms.{Lawful, args_lists}
use Rattle.term_folds.specs.declared.predicate.TraitRef.{TraitRef}
use Rattle.infer_table.proofs.ContentFacts.{is-trees}
use Rattle.declarations.specs.Items.{Items, HeldImpl, reference_in, struct_in, trait_in, impl_in, declared}
use Rattle.declarations.specs.Held.{ReferenceHeld, StructHeld, TraitHeld, ImplHeld, AreHeld}
use Rattle.declarations.specs.Promised.Elaboration.{Each}
use Rattle.candidate_model.specs.Declared.{are_terms, are_references, is_declared_view, is_lifetime_parameter, parameters_are_sorted}
use Rattle.candidate_model.specs.DeclaredWell.{impls_are_determined, height_in, bounds_lead_down}
use Rattle.candidate_model.specs.HeldViews.{HeldIsDeclaredWell}
use Rattle.candidate_model.proofs.ErasedTerms.{erased-terms, erased-lifetimes, erased-single}
use Rattle.candidate_model.proofs.DeclaredWell.{determined-told, down-told, one-told}

-- ---- lists
pub each-of : {A : Type 0} (P : A → Type 0) (xs : List A) (x : A) → Each P xs → In x xs → P x
each-of P [] x e i = absurd (in-nothing x i)
each-of P (y ∷ xs) x e i = by (in-cases x y xs i) (λ j. each-of P xs x e.1 j)
  where
    by : (y ≡ x) ⊎ In x xs → (In x xs → P x) → P x
    by (inl q) go = subst P q e.0
    by (inr j) go = go j

all-of : {A : Type 0} (p : A → Bool) (xs : List A) → ((x : A) → In x xs → p x ≡ true) → list_all p xs ≡ true
all-of p [] h = refl
all-of p (x ∷ xs) h = both (p x) (list_all p xs) (h x (here x xs)) (all-of p xs (λ y i. h y (there y x xs i)))

-- ---- terms that are held
module _ (es : List Entry) (lawful : Lawful es) where
  held-made : (kind i : ℕ) → kind ≢ bounds_lists → Has es kind i → is_made is_in_range terms (trees_at es i) ≡ true
  held-made kind i n h = subst (λ z. is_made is_in_range terms z ≡ true) (sym (is-trees es kind i h.0 h.1)) ((lawful.made i _ h.1).as_terms n)

  type-is : (i : ℕ) → Has es types i → IsA of_type (trees_at es i)
  type-is i h = subst (IsA of_type) (sym (is-trees es types i h.0 h.1)) ((lawful.sorted i _ h.1).as_type refl)

  one-single : (t : Trees) → IsA of_type t → Single t
  one-single none a = a
  one-single (tree l c o) a = a.1

  type-no-bounds : types ≢ bounds_lists
  type-no-bounds e = cc

  args-no-bounds : args_lists ≢ bounds_lists
  args-no-bounds e = cc

  -- a term of the world is one that is held, without its lifetimes
  FromType : Trees → Type 0
  FromType t = (i : ℕ) × Has es types i × (erase (trees_at es i) ≡ t)

  FromReference : Reference → Type 0
  FromReference r = (b : TraitRef) × ReferenceHeld es b × (erased_reference (reference_in es b) ≡ r)

  module _ (d : Items) (held : AreHeld es d) where
    abbrev V : World
    V = declared es d

    field-from : (x : StructDecl) (t : Trees) → In x V.structs → In t x.fields → FromType t
    unfolding FromType
    field-from x t i j =
        let m = map-in erased_struct (map (struct_in es) d.structs) x i in
        let n = map-in (struct_in es) d.structs m.0 m.1 in
        let k = map-in erase (struct_in es n.0).fields t (subst (λ (y : StructDecl). In t y.fields) (sym (ap erased_struct n.2 ∙ m.2)) j) in
        let u = map-in (λ y. trees_at es y.0) n.0.1.fields.items k.0 k.1 in
        (u.0.0, each-of (λ y. Has es types y.0) n.0.1.fields.items u.0 (each-of (λ y. StructHeld es y.1) d.structs n.0 held.structs n.1).0 u.1, ap erase u.2 ∙ k.2)

    reference-from : (bs : List TraitRef) → Each (ReferenceHeld es) bs → (r : Reference) → In r (map erased_reference (map (reference_in es) bs)) → FromReference r
    unfolding FromReference
    reference-from bs h r i =
        let m = map-in erased_reference (map (reference_in es) bs) r i in
        let n = map-in (reference_in es) bs m.0 m.1 in
        (n.0, each-of (ReferenceHeld es) bs n.0 h n.1, ap erased_reference n.2 ∙ m.2)

    bound-from : (x : TraitDecl) (b : Reference) → In x V.traits → In b x.bounds → FromReference b
    bound-from x b i j =
        let m = map-in erased_trait (map (trait_in es) d.traits) x i in
        let n = map-in (trait_in es) d.traits m.0 m.1 in
        reference-from n.0.1.bounds.items (each-of (λ y. TraitHeld es y.1) d.traits n.0 held.traits n.1) b (subst (λ (y : TraitDecl). In b y.bounds) (sym (ap erased_trait n.2 ∙ m.2)) j)

    -- the impl that it is
    impl-from : (x : ImplDecl) → In x V.impls → (y : HeldImpl) × ImplHeld es y.def × (erased_impl (impl_in es y.id y.def) ≡ x)
    impl-from x i =
        let m = map-in erased_impl (map (λ (y : HeldImpl). impl_in es y.id y.def) d.impls) x i in
        let n = map-in (λ (y : HeldImpl). impl_in es y.id y.def) d.impls m.0 m.1 in
        (n.0, each-of (λ (y : HeldImpl). ImplHeld es y.def) d.impls n.0 held.impls n.1, ap erased_impl n.2 ∙ m.2)

    header-from : (x : ImplDecl) → In x V.impls → FromReference x.header
    unfolding FromReference
    header-from x i = let y = impl-from x i in (y.0.def.header, y.1.header, ap (λ (z : ImplDecl). z.header) y.2)

    clause-from : (x : ImplDecl) (c : Reference) → In x V.impls → In c x.clauses → FromReference c
    clause-from x c i j = let y = impl-from x i in reference-from y.0.def.clauses.items y.1.clauses c (subst (λ (z : ImplDecl). In c z.clauses) (sym y.2) j)

    type-terms : (t : Trees) → FromType t → some_node is_stray t ≡ false → are_terms t ≡ true
    unfolding FromType
    type-terms t x e = subst (λ z. are_terms z ≡ true) x.2 (erased-terms is_in_range (trees_at es x.0) (held-made types x.0 type-no-bounds x.1) (subst (λ z. some_node is_stray z ≡ false) (sym x.2) e))

    reference-terms : (r : Reference) → FromReference r → some_node is_stray r.args ≡ false → are_terms r.args ≡ true
    unfolding FromReference
    reference-terms r x e =
        subst (λ (z : Reference). are_terms z.args ≡ true) x.2
        (erased-terms is_in_range (trees_at es x.0.args.0) (held-made args_lists x.0.args.0 args-no-bounds x.1) (subst (λ (z : Reference). some_node is_stray z.args ≡ false) (sym x.2) e))

    reference-lifetimes : (r : Reference) → FromReference r → some_node is_lifetime_parameter r.args ≡ false
    unfolding FromReference
    reference-lifetimes r x = subst (λ (z : Reference). some_node is_lifetime_parameter z.args ≡ false) x.2 (erased-lifetimes (trees_at es x.0.args.0))

    type-single : (t : Trees) → FromType t → Single t
    unfolding FromType
    type-single t x = subst Single x.2 (erased-single (trees_at es x.0) (one-single (trees_at es x.0) (type-is x.0 x.1)))

    -- ---- the view
    module _ (written : all_written (λ t. not (some_node is_stray t)) V ≡ true) where
      abbrev own : Trees → Bool
      own t = not (some_node is_stray t)

      later : list_all (λ (x : TraitDecl). all_args own x.bounds) V.traits && list_all (λ (i : ImplDecl). own i.header.args && all_args own i.clauses) V.impls ≡ true
      later = right (list_all (λ (x : StructDecl). list_all own x.fields) V.structs) _ written

      field-shut : (x : StructDecl) (t : Trees) → In x V.structs → In t x.fields → some_node is_stray t ≡ false
      field-shut x t i j =
          not-true (some_node is_stray t) (member-each own x.fields t (member-each (λ (y : StructDecl). list_all own y.fields) V.structs x (left (list_all (λ (x : StructDecl). list_all own x.fields) V.structs) _ written) i) j)

      bound-shut : (x : TraitDecl) (b : Reference) → In x V.traits → In b x.bounds → some_node is_stray b.args ≡ false
      bound-shut x b i j =
          not-true (some_node is_stray b.args)
          (member-each (λ (r : Reference). own r.args) x.bounds b (member-each (λ (y : TraitDecl). all_args own y.bounds) V.traits x (left (list_all (λ (x : TraitDecl). all_args own x.bounds) V.traits) _ later) i) j)

      impl-shut : (x : ImplDecl) → In x V.impls → own x.header.args && all_args own x.clauses ≡ true
      impl-shut x i = member-each (λ (y : ImplDecl). own y.header.args && all_args own y.clauses) V.impls x (right (list_all (λ (x : TraitDecl). all_args own x.bounds) V.traits) _ later) i

      view-terms : is_declared_view V ≡ true
      view-terms =
          both (list_all (λ (x : StructDecl). list_all are_terms x.fields) V.structs) _
          (all-of (λ (x : StructDecl). list_all are_terms x.fields) V.structs (λ x i. all-of are_terms x.fields (λ t j. type-terms t (field-from x t i j) (field-shut x t i j))))
          (both (list_all (λ (x : TraitDecl). are_references x.bounds) V.traits) _
          (all-of (λ (x : TraitDecl). are_references x.bounds) V.traits (λ x i. all-of (λ (r : Reference). are_terms r.args) x.bounds (λ b j. reference-terms b (bound-from x b i j) (bound-shut x b i j))))
          (all-of (λ (x : ImplDecl). are_terms x.header.args && are_references x.clauses) V.impls
          (λ x i. both (are_terms x.header.args) (are_references x.clauses) (reference-terms x.header (header-from x i) (not-true (some_node is_stray x.header.args) (left (own x.header.args) (all_args own x.clauses) (impl-shut x i))))
          (all-of (λ (r : Reference). are_terms r.args) x.clauses
          (λ c j. reference-terms c (clause-from x c i j) (not-true (some_node is_stray c.args) (member-each (λ (r : Reference). own r.args) x.clauses c (right (own x.header.args) (all_args own x.clauses) (impl-shut x i)) j)))))))

pub held-is-declared-well : HeldIsDeclaredWell
held-is-declared-well es lawful d held e =
    let V = declared es d in
    let a = right (all_written (λ t. not (some_node is_stray t)) V) _ e in
    let b = right (impls_are_determined V) _ a in
    let c = right (parameters_are_sorted V) _ b in
    record {
      terms = view-terms es lawful d held (left (all_written (λ t. not (some_node is_stray t)) V) _ e);
      determined = determined-told V (left (impls_are_determined V) _ a);
      sorted = left (parameters_are_sorted V) _ b;
      erased = λ x r i j. reference-lifetimes es lawful d held r (bound-from es lawful d held x r i j);
      rank = height_in V;
      acyclic = down-told V (left (bounds_lead_down V) _ c);
      one_struct = λ s. one-told s V.structs (right (bounds_lead_down V) _ c);
      one_field = λ x t i j. type-single es lawful d held t (field-from es lawful d held x t i j);
    }
