-- The supertraits of an instance are the instances of the supertraits, through all levels, also where places are open; and plain if the instance is.
use Rattle.std.proofs.Common.{◌≡◌, ℕ, zero, suc, ◌<◌, true, ◌==◌, List, [], ◌∷◌, map, length, ◌⊎◌, inl, inr, refl, sym, ◌∙◌, ap, subst, arith}
use Rattle.std.specs.List.{flat_map}
use Rattle.type_terms.specs.Promised.Label.{principal, auto_trait}
use Rattle.type_terms.specs.Promised.Trees.{Trees, none, tree}
use Rattle.type_terms.specs.Promised.Worlds.{World, Reference, TraitDecl, traits_named, with_args, all_with_args}
use Rattle.type_terms.specs.Promised.Rules.{principal_with, autos_with, elaborated, written_supertraits, strict_supertraits, strict_supertraits_within}
use Rattle.type_terms.specs.Promised.Proofs.{In}
use Rattle.type_terms.proofs.Members.{here, there, in-nothing, in-cases, in-left, in-flat, in-filter, same-number}
use Rattle.type_terms.proofs.ProofEntries.{map-in}
use Rattle.type_terms.proofs.Supertraits.{flat-same}
use Rattle.type_terms.proofs.Fitting.{child-shut, append-shut}
use Rattle.goal_evaluator.specs.Lists.{Every}
use Rattle.goal_evaluator.specs.Instances.{read_with}
use Rattle.goal_evaluator.specs.Content.{given}
use Rattle.candidate_model.specs.Facts.{is_unerased}
use Rattle.candidate_model.specs.Declared.{are_terms, is_declared_view}
use Rattle.declarations.specs.Promised.Elaboration.{supertraits}
use Rattle.candidate_model.specs.Cover.{read_reference}
use Rattle.candidate_model.proofs.Instances.{read-unbound}
use Rattle.candidate_model.proofs.Supers.{every-supertrait}
use Rattle.candidate_model.proofs.PlainRules.{Plain, IsPlainReference, plain-unbound, plain-instance}
use Rattle.candidate_model.proofs.Objects.{map-flat, flat-map}
use Rattle.candidate_model.proofs.DeclaredParts.{bound-declared}
use Rattle.candidate_model.specs.Declared.{LeadDown}
use Rattle.candidate_model.proofs.Stack.{elaborated-all}

-- ---- all levels of an instance
module _ (V : World) (declared : is_declared_view V ≡ true) (xs : List Trees) where
  abbrev read : Trees → Trees
  read t = read_with (given xs) t

  -- written up to lifetimes with these terms for its variables
  abbrev pub PlainRead : Reference → Type 0
  PlainRead r = Plain (read_with (given xs) r.args)

  named : (r : Reference) (t : TraitDecl) → In t (traits_named V r.trait) → In t V.traits
  named r t i = (in-filter (λ (y : TraitDecl). y.name == r.trait) V.traits t i).0

  bounds-read : (A : Trees) → Plain (read A) → (bs : List Reference) → ((b : Reference) → In b bs → are_terms b.args ≡ true) → all_with_args (read A) bs ≡ map (read_reference xs) (all_with_args A bs)
  bounds-read A h [] d = refl
  bounds-read A h (b ∷ bs) d =
      ap (λ z. record { trait = b.trait; args = z } ∷ all_with_args (read A) bs) (sym (read-unbound xs A (plain-unbound (read A) h) b.args (d b (here b bs))))
      ∙ ap (λ z. read_reference xs (with_args A b) ∷ z) (bounds-read A h bs (λ x i. d x (there x b bs i)))

  written-read : (r : Reference) → PlainRead r → written_supertraits V (read_reference xs r) ≡ map (read_reference xs) (written_supertraits V r)
  written-read r h =
      flat-same (λ (t : TraitDecl). all_with_args (read r.args) t.bounds) (λ (t : TraitDecl). map (read_reference xs) (all_with_args r.args t.bounds)) (traits_named V r.trait)
      (λ t i. bounds-read r.args h t.bounds (λ b j. bound-declared V declared t b (named r t i) j))
      ∙ sym (map-flat (read_reference xs) (λ (t : TraitDecl). all_with_args r.args t.bounds) (traits_named V r.trait))

  written-plain : (r s : Reference) → PlainRead r → In s (written_supertraits V r) → PlainRead s
  written-plain r s h i =
      let m = in-flat (λ (t : TraitDecl). all_with_args r.args t.bounds) (traits_named V r.trait) s i in
      let b = map-in (with_args r.args) m.0.bounds s m.2 in
      let d = bound-declared V declared m.0 b.0 (named r m.0 m.1) b.1 in
      subst (λ (q : Reference). PlainRead q) b.2 (subst Plain (sym (read-unbound xs r.args (plain-unbound (read r.args) h) b.0.args d)) (plain-instance (read r.args) b.0.args h d))

  within-read : (n : ℕ) (r : Reference) → PlainRead r → strict_supertraits_within n V (read_reference xs r) ≡ map (read_reference xs) (strict_supertraits_within n V r)
  within-read zero r h = refl
  within-read (suc n) r h =
      ap (flat_map (λ s. s ∷ strict_supertraits_within n V s)) (written-read r h)
      ∙ flat-map (λ s. s ∷ strict_supertraits_within n V s) (read_reference xs) (written_supertraits V r)
      ∙ flat-same (λ s. read_reference xs s ∷ strict_supertraits_within n V (read_reference xs s)) (λ s. map (read_reference xs) (s ∷ strict_supertraits_within n V s)) (written_supertraits V r)
      (λ s i. ap (λ z. read_reference xs s ∷ z) (within-read n s (written-plain r s h i)))
      ∙ sym (map-flat (read_reference xs) (λ s. s ∷ strict_supertraits_within n V s) (written_supertraits V r))

  pub strict-open : (r : Reference) → PlainRead r → strict_supertraits V (read_reference xs r) ≡ map (read_reference xs) (strict_supertraits V r)
  strict-open r h = within-read (length V.traits) r h

  pub elaborated-open : (ps : List Reference) → ((p : Reference) → In p ps → PlainRead p) → elaborated V (map (read_reference xs) ps) ≡ map (read_reference xs) (elaborated V ps)
  elaborated-open ps h =
      flat-map (λ s. s ∷ strict_supertraits V s) (read_reference xs) ps
      ∙ flat-same (λ s. read_reference xs s ∷ strict_supertraits V (read_reference xs s)) (λ s. map (read_reference xs) (s ∷ strict_supertraits V s)) ps (λ s i. ap (λ z. read_reference xs s ∷ z) (strict-open s (h s i)))
      ∙ sym (map-flat (read_reference xs) (λ s. s ∷ strict_supertraits V s) ps)

  each-member : (P : Reference → Type 0) (rs : List Reference) → ((r : Reference) → In r rs → P r) → Every P rs
  each-member P [] f = tt
  each-member P (r ∷ rs) f = (f r (here r rs), each-member P rs (λ s i. f s (there s r rs i)))

  pub supertraits-plain : (r : Reference) → PlainRead r → Every PlainRead (supertraits V r)
  supertraits-plain r h = every-supertrait V PlainRead (λ s q. each-member PlainRead (written_supertraits V s) (λ t i. written-plain s t q i)) r h

-- ---- supertraits by paths are among those without repeats
module _ (V : World) (rank : ℕ → ℕ) (down : LeadDown V rank) where
  pub written-lower : (r s : Reference) → In s (written_supertraits V r) → rank s.trait < rank r.trait
  written-lower r s i =
      let m = in-flat (λ (t : TraitDecl). all_with_args r.args t.bounds) (traits_named V r.trait) s i in
      let n = in-filter (λ (y : TraitDecl). y.name == r.trait) V.traits m.0 m.1 in
      let b = map-in (with_args r.args) m.0.bounds s m.2 in
      subst (λ t. rank s.trait < rank t) (same-number m.0.name r.trait n.1) (subst (λ t. rank t < rank m.0.name) (ap (λ (q : Reference). q.trait) b.2) (down m.0 b.0 n.0 b.1))

  pub within-lower : (n : ℕ) (r s : Reference) → In s (strict_supertraits_within n V r) → rank s.trait < rank r.trait
  within-lower zero r s i = absurd (in-nothing s i)
  within-lower (suc n) r s i =
      let m = in-flat (λ x. x ∷ strict_supertraits_within n V x) (written_supertraits V r) s i in
      by m.0 (written-lower r m.0 m.1) (in-cases s m.0 (strict_supertraits_within n V m.0) m.2) (λ j. within-lower n m.0 s j)
    where
      by : (q : Reference) → rank q.trait < rank r.trait → (q ≡ s) ⊎ In s (strict_supertraits_within n V q) → (In s (strict_supertraits_within n V q) → rank s.trait < rank q.trait) → rank s.trait < rank r.trait
      by q l (inl e) go = subst (λ (z : Reference). rank z.trait < rank r.trait) e l
      by q l (inr j) go = let h = go j in omega (arith, l, h)

  pub strict-in-supertraits : (r s : Reference) → In s (strict_supertraits V r) → In s (supertraits V r)
  strict-in-supertraits r s i = by (in-cases s r (supertraits V r) (elaborated-all V rank down (r ∷ []) s (in-left s (r ∷ strict_supertraits V r) [] (there s r (strict_supertraits V r) i))))
    where
      by : (r ≡ s) ⊎ In s (supertraits V r) → In s (supertraits V r)
      by (inl e) = let h : rank s.trait < rank s.trait = subst (λ (z : Reference). rank s.trait < rank z.trait) e (within-lower (length V.traits) r s i) in absurd (omega (arith, h))
      by (inr j) = j

-- ---- the bounds of a plain `dyn`
pub principal-plain : (self b : Trees) → Plain self → Plain b → Every IsPlainReference (principal_with self b)
principal-plain self none g h = tt
principal-plain self (tree (principal n t) c o) g h = (append-shut is_unerased self c g (child-shut is_unerased (principal n t) c o h), tt)
principal-plain self (tree l c o) g h = tt

pub autos-plain : (self b : Trees) → Plain self → Every IsPlainReference (autos_with self b)
autos-plain self none g = tt
autos-plain self (tree (auto_trait t) c o) g = (g, autos-plain self o g)
autos-plain self (tree l c o) g = autos-plain self o g
