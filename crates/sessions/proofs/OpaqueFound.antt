-- An impl over the terms of an interner, with placeholders in the place of its parameters, and what is asked of the impl of a number.
use Rattle.std.proofs.Common.{◌≡◌, ◌==◌, ℕ, true, false, List, [], ◌∷◌, map, None, refl, sym, ap, ◌∙◌, subst}
use Rattle.type_terms.specs.Promised.Label.{Sort}
use Rattle.type_terms.specs.Promised.Proofs.{In}
use Rattle.type_terms.specs.Promised.Supers.{opaque_reference}
use Rattle.type_terms.specs.Promised.Trees.{Trees}
use Rattle.type_terms.specs.Promised.Worlds.{World, Reference, ImplDecl, with_args, all_with_args}
use Rattle.type_terms.proofs.Members.{here, there}
use Rattle.type_terms.specs.Promised.Handles.{Entry, Keeps, trees_at}
use Rattle.type_terms.specs.Terms.{Lawful}
use Rattle.term_folds.specs.Arguments.{first_misfit}
use Rattle.term_folds.specs.declared.predicate.TraitRef.{TraitRef}
use Rattle.declarations.specs.Applied.{TraitRefsHeld, AreApplied, IsApplied, SpeaksOf, references_in, sort_of_param}
use Rattle.declarations.specs.Held.{ImplHeld}
use Rattle.declarations.specs.Items.{Items, impl_in, reference_in}
use Rattle.declarations.specs.Promised.Elaboration.{Each}
use Rattle.declarations.specs.Relevant.{impls_named}
use Rattle.declarations.specs.declared.items.ImplDef.{ImplDef}
use Rattle.declarations.proofs.Growth.{args-same}
use Rattle.overlap_check.specs.Fresh.{HasArguments, fresh_unknowns}
use Rattle.overlap_check.specs.Headers.{empty_table}
use Rattle.overlap_check.specs.Written.{IsWrittenWell}
use Rattle.overlap_check.proofs.Judged.{is-named, none-named, one-named}
use Rattle.overlap_check.proofs.Written.{fresh-sorts, held-instantiable}
use Rattle.sessions.specs.Placeholders.{placeholders_from}
use Rattle.sessions.specs.Supertraits.{AreGoalsFor, AreOfImpl, HasApplied, HasNoOwn}
use Rattle.sessions.specs.declared.supertraits.SupertraitGoals.{SupertraitGoals}
use Rattle.sessions.proofs.OpaqueTerms.{arguments-too, placeholders-sorts, put-in}
use Rattle.type_terms.proofs.TypeBasics.{first_id}
use Rattle.type_terms.proofs.NumberBasics.{is-number, other-number}

abbrev sorts_of_impl : ImplDef → List Sort
sorts_of_impl def = map sort_of_param def.params.items

abbrev own_placeholders : ImplDef → Trees
own_placeholders def = placeholders_from 0 (sorts_of_impl def)

-- ---- what stands in the impl has placeholders
module _ (old new : List Entry) (k : Keeps old new) (def : ImplDef) (h : ImplHeld old def) (w : IsWrittenWell old def) (a : ℕ) (e : trees_at new a ≡ own_placeholders def) where
  fits : (x : Trees) → SpeaksOf (sorts_of_impl def) x → first_misfit (trees_at new a) x ≡ None
  fits x s = ap (λ z. first_misfit z x) e ∙ s (own_placeholders def) (placeholders-sorts 0 (sorts_of_impl def))

  pub header-fits : first_misfit (trees_at new a) (trees_at new def.header.args.0) ≡ None
  header-fits = fits (trees_at new def.header.args.0) (subst (SpeaksOf (sorts_of_impl def)) (sym (args-same old new k def.header h.header)) w.header)

  all-fit : (rs : List TraitRef) → TraitRefsHeld old rs → Each (λ (r : TraitRef). SpeaksOf (sorts_of_impl def) (trees_at old r.args.0)) rs
      → Each (λ (r : TraitRef). first_misfit (trees_at new a) (trees_at new r.args.0) ≡ None) rs
  all-fit [] g s = tt
  all-fit (r ∷ rs) g s = (fits (trees_at new r.args.0) (subst (SpeaksOf (sorts_of_impl def)) (sym (args-same old new k r g.0)) s.0), all-fit rs g.1 s.1)

  pub clauses-fit : (rs : List TraitRef) → rs ≡ def.clauses.items → Each (λ (r : TraitRef). first_misfit (trees_at new a) (trees_at new r.args.0) ≡ None) rs
  clauses-fit rs q = subst (Each (λ (r : TraitRef). first_misfit (trees_at new a) (trees_at new r.args.0) ≡ None)) (sym q) (all-fit def.clauses.items h.clauses w.clauses)

module _ (es : List Entry) (lawful : Lawful es) (def : ImplDef) (h : ImplHeld es def) (w : IsWrittenWell es def) where
  abbrev P : Trees
  P = own_placeholders def

  abbrev decl : ImplDecl
  decl = impl_in es first_id def

  has-placeholders : (t : Trees) → HasArguments (fresh_unknowns empty_table (sorts_of_impl def)) t → HasArguments P t
  has-placeholders t g = arguments-too (fresh_unknowns empty_table (sorts_of_impl def)) P (fresh-sorts empty_table (sorts_of_impl def) ∙ sym (placeholders-sorts 0 (sorts_of_impl def))) t g

  is-opaque : (r : Reference) → HasArguments (fresh_unknowns empty_table (sorts_of_impl def)) r.args → with_args P r ≡ opaque_reference r
  is-opaque r g = ap (λ z. (let x : Reference = record { trait = r.trait; args = z } in x)) (put-in (sorts_of_impl def) 0 r.args (has-placeholders r.args g))

  pub header-is : with_args P (reference_in es def.header) ≡ opaque_reference (reference_in es def.header)
  header-is = is-opaque (reference_in es def.header) (held-instantiable es lawful first_id def h w empty_table).header

  all-opaque : (rs : List Reference) → ((r : Reference) → In r rs → HasArguments (fresh_unknowns empty_table (sorts_of_impl def)) r.args) → all_with_args P rs ≡ map opaque_reference rs
  all-opaque [] f = refl
  all-opaque (r ∷ rs) f = two (is-opaque r (f r (here r rs))) (all-opaque rs (λ x i. f x (there x r rs i)))
    where
      two : {a b : Reference} {xs ys : List Reference} → a ≡ b → xs ≡ ys → a ∷ xs ≡ b ∷ ys
      two p q = cc

  pub clauses-are : all_with_args P (references_in es def.clauses.items) ≡ map opaque_reference (references_in es def.clauses.items)
  clauses-are = all-opaque (references_in es def.clauses.items) (held-instantiable es lawful first_id def h w empty_table).clauses

-- ---- what is asked may be elaborated
module _ (d : Items) (header : Reference) (clauses : List Reference) (applied : HasApplied d header clauses) where
  pub header-applies : (es : List Entry) (r : TraitRef) → reference_in es r ≡ opaque_reference header → IsApplied es d r
  header-applies es r e = applied es r (subst (λ z. In z (opaque_reference header ∷ map opaque_reference clauses)) (sym e) (here (opaque_reference header) (map opaque_reference clauses)))

  each-applies : (es : List Entry) (rs : List TraitRef) → ((x : Reference) → In x (references_in es rs) → In x (map opaque_reference clauses)) → AreApplied es d rs
  each-applies es [] f = tt
  each-applies es (r ∷ rs) f = (
    applied es r (there (reference_in es r) (opaque_reference header) (map opaque_reference clauses) (f (reference_in es r) (here (reference_in es r) (references_in es rs)))),
    each-applies es rs (λ x i. f x (there x (reference_in es r) (references_in es rs) i)),
  )

  pub clauses-apply : (es : List Entry) (rs : List TraitRef) → references_in es rs ≡ map opaque_reference clauses → AreApplied es d rs
  clauses-apply es rs e = each-applies es rs (λ x i. subst (In x) e i)

-- ---- the impl of a number

module _ (V : World) (c k : ℕ) where
  pub none-own : impls_named V k ≡ [] → HasNoOwn V c k
  none-own e i stands own named = none-named V k e i stands named

  module _ (x : ImplDecl) (only : impls_named V k ≡ x ∷ []) where
    pub other-crates : (x.home == c) ≡ false → HasNoOwn V c k
    other-crates e i stands own named = other-number x.home c e (ap (λ (y : ImplDecl). y.home) (one-named V k x only i stands named) ∙ own)

    pub stands-there : In x V.impls
    stands-there = (is-named V k x only).0

    pub of-own : (x.home == c) ≡ true → (es : List Entry) (goals : SupertraitGoals) → AreGoalsFor V x.header x.clauses es goals → AreOfImpl V c k es goals
    of-own e es goals g = record {
      decl = x;
      stands = (is-named V k x only).0;
      named = (is-named V k x only).1;
      own = is-number x.home c e;
      alone = λ i stands named. sym (one-named V k x only i stands named);
      asked = g;
    }
