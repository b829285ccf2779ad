-- Supertraits of a reference, without lifetimes.
use Rattle.std.proofs.Common.{◌≡◌, ◌==◌, ℕ, zero, ◌<◌, List, [], ◌∷◌, ap, sym, subst, map, None, true}
use Rattle.type_terms.specs.Promised.Trees.{Trees, Fits, erase}
use Rattle.type_terms.specs.Promised.Worlds.{World, Reference, TraitDecl, traits_named, with_args, all_with_args}
use Rattle.type_terms.specs.Promised.Erased.{erased_reference, erased_trait, erased_world}
use Rattle.type_terms.specs.Promised.Rules.{written_supertraits, strict_supertraits}
use Rattle.type_terms.specs.Promised.Proofs.{In, Every}
use Rattle.type_terms.proofs.Members.{here, there, filter-in, flat-in, in-filter, in-map}
use Rattle.type_terms.proofs.ProofEntries.{map-in}
use Rattle.type_terms.proofs.TreeLaws.{erase-instantiate}
use Rattle.type_terms.specs.Promised.Handles.{Entry, Keeps, trees_at}
use Rattle.type_terms.specs.Terms.{Lawful}
use Rattle.term_folds.specs.Arguments.{first_misfit}
use Rattle.term_folds.specs.declared.predicate.TraitRef.{TraitRef}
use Rattle.declarations.specs.declared.items.TraitDef.{TraitDef}
use Rattle.declarations.specs.Items.{Items, reference_in, trait_in, written, declared}
use Rattle.declarations.specs.Held.{ReferenceHeld}
use Rattle.declarations.specs.Applied.{HaveBounds, references_in, TraitRefsHeld}
use Rattle.declarations.specs.Promised.Elaboration.{Each}
use Rattle.declarations.proofs.Elaborating.{lead-down}
use Rattle.declarations.proofs.Growth.{reference-kept}
use Rattle.declarations.proofs.Levels.{LeadDown, strict-closed}
use Rattle.proof_checker.specs.Steps.{term_of}
use Rattle.structural_traits.proofs.FieldRows.{args-made}
use Rattle.proof_checker.proofs.Impls.{clauses-fit}
use Rattle.proof_checker.proofs.Later.{term-same}

erased-with : (A : Trees) (b : Reference) → Fits A b.args → erased_reference (with_args A b) ≡ with_args (erase A) (erased_reference b)
erased-with A b f = ap (λ a. (let x : Reference = record { trait = b.trait; args = a } in x)) (erase-instantiate zero A b.args f)

-- a bound of the reference's trait, with the reference's arguments, is written above the reference without lifetimes
bound-above : (V : World) (r : Reference) (x : TraitDecl) (b : Reference) → In x V.traits → (x.name == r.trait) ≡ true → In b x.bounds → Fits r.args b.args
    → In (erased_reference (with_args r.args b)) (written_supertraits (erased_world V) (erased_reference r))
bound-above V r x b i n j f =
    flat-in (λ (t : TraitDecl). all_with_args (erase r.args) t.bounds) (traits_named (erased_world V) r.trait) (erased_trait x) (erased_reference (with_args r.args b))
    (filter-in (λ (y : TraitDecl). y.name == r.trait) (map erased_trait V.traits) (erased_trait x) (in-map erased_trait V.traits x i) n)
    (subst (λ z. In z (all_with_args (erase r.args) (map erased_reference x.bounds))) (sym (erased-with r.args b f))
    (in-map (with_args (erase r.args)) (map erased_reference x.bounds) (erased_reference b) (in-map erased_reference x.bounds b j)))

-- so are all of them that are these references
pub bounds-above : (V : World) (r : Reference) (x : TraitDecl) → In x (traits_named V r.trait) → (bs : List Reference) → ((b : Reference) → In b bs → In b x.bounds) → Every (λ b. Fits r.args b.args) bs
    → (es : List Entry) (found : List TraitRef) → references_in es found ≡ all_with_args r.args bs
    → Each (λ s. In (term_of es s) (written_supertraits (erased_world V) (erased_reference r))) found
bounds-above V r x i [] among f es [] e = tt
bounds-above V r x i [] among f es (s ∷ found) e = absurd (cc)
bounds-above V r x i (b ∷ bs) among f es [] e = absurd (cc)
bounds-above V r x i (b ∷ bs) among f es (s ∷ found) e =
    let named = in-filter (λ (y : TraitDecl). y.name == r.trait) V.traits x i in (
      subst (λ z. In z (written_supertraits (erased_world V) (erased_reference r))) (ap erased_reference (sym (first (reference_in es s) (with_args r.args b) (references_in es found) (all_with_args r.args bs) e)))
          (bound-above V r x b named.0 named.1 (among b (here b bs)) f.0),
      bounds-above V r x i bs (λ c j. among c (there c b bs j)) f.1 es found (rest (reference_in es s) (with_args r.args b) (references_in es found) (all_with_args r.args bs) e),
    )
  where
    first : (x y : Reference) (xs ys : List Reference) → x ∷ xs ≡ y ∷ ys → x ≡ y
    first x y xs ys q = cc

    rest : (x y : Reference) (xs ys : List Reference) → x ∷ xs ≡ y ∷ ys → xs ≡ ys
    rest x y xs ys q = cc

-- the bounds of the only trait, with the arguments of a reference to it
pub supertraits-are : (es fs : List Entry) → Lawful es → (d : Items) (r : TraitRef) (def : TraitDef) → traits_named (written es d) r.def_id.index ≡ trait_in es (r.def_id, def) ∷ []
    → ReferenceHeld es r → TraitRefsHeld es def.bounds.items → Each (λ (b : TraitRef). first_misfit (trees_at es r.args.0) (trees_at es b.args.0) ≡ None) def.bounds.items
    → (found : List TraitRef) → references_in fs found ≡ all_with_args (trees_at es r.args.0) (references_in es def.bounds.items)
    → Each (λ s. In (term_of fs s) (written_supertraits (declared es d) (term_of es r))) found
supertraits-are es fs law d r def named h held fits found are =
    let A = trees_at es r.args.0 in
    let x = trait_in es (r.def_id, def) in
    bounds-above (written es d) (reference_in es r) x (subst (In x) (sym named) (here x [])) (references_in es def.bounds.items) (λ b j. j)
    (clauses-fit es law A (args-made es law r.args.0 h) def.bounds.items held fits) fs found are

-- ---- through any number of levels
erased-down : (V : World) (rank : ℕ → ℕ) → LeadDown V rank → LeadDown (erased_world V) rank
erased-down V rank down x b i j =
    let y = map-in erased_trait V.traits x i in
    let c = map-in erased_reference y.0.bounds b (subst (λ (t : TraitDecl). In b t.bounds) (sym y.2) j) in
    subst (λ (t : TraitDecl). rank b.trait < rank t.name) y.2 (subst (λ (s : Reference). rank s.trait < rank y.0.name) c.2 (down y.0 c.0 y.1 c.1))

-- A reference of the interner above r.
abbrev pub IsAbove : World → Reference → List Entry → TraitRef → Type 0
IsAbove W r es s = ReferenceHeld es s × In (term_of es s) (strict_supertraits W r)

module _ (es : List Entry) (d : Items) (bounds : HaveBounds es d) (r : Reference) where
  abbrev W : World
  W = declared es d

  down : LeadDown W bounds.rank
  down = erased-down (written es d) bounds.rank (lead-down es d bounds)

  -- what is written above it, or above what stands above it, stands above it
  pub first-above : (fs : List Entry) (found : List TraitRef) → TraitRefsHeld fs found → Each (λ s. In (term_of fs s) (written_supertraits W r)) found → Each (IsAbove W r fs) found
  first-above fs [] h a = tt
  first-above fs (s ∷ found) h a = ((h.0, strict-closed W bounds.rank down r r (term_of fs s) (here r (strict_supertraits W r)) a.0), first-above fs found h.1 a.1)

  pub next-above : (s : Reference) → In s (strict_supertraits W r) → (fs : List Entry) (found : List TraitRef) → TraitRefsHeld fs found → Each (λ t. In (term_of fs t) (written_supertraits W s)) found → Each (IsAbove W r fs) found
  next-above s i fs [] h a = tt
  next-above s i fs (t ∷ found) h a = ((h.0, strict-closed W bounds.rank down r s (term_of fs t) (there s r (strict_supertraits W r) i) a.0), next-above s i fs found h.1 a.1)

pub above-later : (W : World) (r : Reference) (es fs : List Entry) → Keeps es fs → (xs : List TraitRef) → Each (IsAbove W r es) xs → Each (IsAbove W r fs) xs
above-later W r es fs k [] h = tt
above-later W r es fs k (s ∷ xs) h = ((reference-kept es fs k s h.0.0, subst (λ t. In t (strict_supertraits W r)) (sym (term-same es fs k s h.0.0)) h.0.1), above-later W r es fs k xs h.1)
