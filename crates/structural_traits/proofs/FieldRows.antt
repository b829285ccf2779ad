-- Fields with arguments put in, and what rules of structs ask of them.
use Rattle.std.proofs.Common.{◌≡◌, ℕ, true, List, [], ◌∷◌, ◌++◌, None, refl, sym, ap, ◌∙◌, subst, map}
use Rattle.std.specs.List.{flat_map}
use Rattle.type_terms.specs.Promised.Trees.{Trees, ◌+++◌, erase, instantiate}
use Rattle.type_terms.specs.Promised.Erased.{erased_reference}
use Rattle.type_terms.specs.Promised.Worlds.{StructDecl}
use Rattle.type_terms.specs.Promised.Rules.{asked, each_asked, last_asked, together, auto_struct, sized, sized_struct, row, fields_of}
use Rattle.type_terms.specs.Promised.Handles.{Entry, Keeps, Has, types, trees_at}
use Rattle.type_terms.specs.Made.{terms, is_made, is_in_range}
use Rattle.type_terms.specs.Kept.{has-later, trees-is, trees-later}
use Rattle.type_terms.specs.Kinds.{TysHeld}
use Rattle.type_terms.specs.Terms.{Lawful, args_lists}
use Rattle.type_terms.specs.declared.kinds.Ty.{Ty}
use Rattle.type_terms.proofs.TermBasics.{erase-append}
use Rattle.type_terms.proofs.TreeLaws.{erase-instantiate}
use Rattle.term_folds.specs.Arguments.{first_misfit}
use Rattle.declarations.specs.Promised.Elaboration.{Each}
use Rattle.declarations.specs.Unsizing.{field_trees}
use Rattle.structural_traits.specs.Constituents.{types_asked, each_asked_of, IsOneRow}
use Rattle.structural_traits.proofs.Fitting.{fits-of}
use Rattle.structural_traits.proofs.Trees.{type-is, one-asked, one-last, fields-last, each-erased, last-erased, asked-erased}

-- ---- types found one after the other
pub types-more : (now new : List Entry) → Keeps now new → (ts : List Ty) (t : Ty) → TysHeld now ts → Has new types t.0 → TysHeld new (ts ++ t ∷ [])
types-more now new k [] t h g = (g, tt)
types-more now new k (s ∷ ts) t h g = (has-later now new k types s.0 h.0, types-more now new k ts t h.1 g)

pub one-more-type : (now new : List Entry) → Keeps now new → (ts : List Ty) (t : Ty) (y : Trees) (ys all : List Trees) → TysHeld now ts → trees_at new t.0 ≡ y
    → field_trees now ts ++ y ∷ ys ≡ all → field_trees new (ts ++ t ∷ []) ++ ys ≡ all
one-more-type now new k [] t y ys all h e a = ap (λ x. x ∷ ys) e ∙ a
one-more-type now new k (s ∷ ts) t y ys all h e a =
    ap (λ x. x ∷ (field_trees new (ts ++ t ∷ []) ++ ys)) (trees-later now new k types s.0 h.0)
    ∙ ap (λ l. trees_at now s.0 ∷ l) (one-more-type now new k ts t y ys (field_trees now ts ++ y ∷ ys) h.1 e refl) ∙ a

pub each-held : (es : List Entry) (ts : List Ty) → Each (λ (t : Ty). Has es types t.0) ts → TysHeld es ts
each-held es [] h = tt
each-held es (t ∷ ts) h = (h.0, each-held es ts h.1)

pub fields-asked : (es : List Entry) → Lawful es → (t : ℕ) (ts : List Ty) → TysHeld es ts → each_asked t (together (field_trees es ts)) ≡ types_asked es t ts
fields-asked es law t [] h = refl
fields-asked es law t (x ∷ ts) h =
    one-asked t (trees_at es x.0) (together (field_trees es ts)) (type-is es law x.0 h.0) ∙ ap (λ l. asked t (trees_at es x.0) ∷ l) (fields-asked es law t ts h.1)

-- ---- without lifetimes
type-made : (es : List Entry) → Lawful es → (i : ℕ) → Has es types i → is_made is_in_range terms (trees_at es i) ≡ true
type-made es law i h = subst (λ t. is_made is_in_range terms t ≡ true) (sym (trees-is es types i h.0 h.1)) ((law.made i _ h.1).as_terms (λ e. cc))

pub args-made : (es : List Entry) → Lawful es → (i : ℕ) → Has es args_lists i → is_made is_in_range terms (trees_at es i) ≡ true
args-made es law i h = subst (λ t. is_made is_in_range terms t ≡ true) (sym (trees-is es args_lists i h.0 h.1)) ((law.made i _ h.1).as_terms (λ e. cc))

first-is : (x y : Trees) (xs ys : List Trees) → x ∷ xs ≡ y ∷ ys → (x ≡ y) × (xs ≡ ys)
first-is x y xs ys e = (cc, cc)

together-erased : (xs : List Trees) → together (map erase xs) ≡ erase (together xs)
together-erased [] = refl
together-erased (x ∷ xs) = ap (λ y. erase x +++ y) (together-erased xs) ∙ sym (erase-append x (together xs))

pub ended : {A B : Type 0} (g : A → B) (xs : List A) (x : A) → map g (xs ++ x ∷ []) ≡ map g xs ++ g x ∷ []
ended g [] x = refl
ended g (y ∷ xs) x = ap (λ l. g y ∷ l) (ended g xs x)

-- es are the terms of fields and arguments, and new those of the fields with arguments put in
module _ (es new : List Entry) (law : Lawful es) (newer : Lawful new) (i : ℕ) (args : Has es args_lists i) where
  abbrev A : Trees
  A = trees_at es i

  field-erased : (f v : Ty) → Has es types f.0 → first_misfit A (trees_at es f.0) ≡ None → trees_at new v.0 ≡ instantiate 0 A (trees_at es f.0)
      → erase (trees_at new v.0) ≡ instantiate 0 (erase A) (erase (trees_at es f.0))
  field-erased f v h m e = ap erase e ∙ erase-instantiate 0 A (trees_at es f.0) (fits-of A (args-made es law i args) (trees_at es f.0) (type-made es law f.0 h) m)

  fields-erased : (fs vs : List Ty) → TysHeld es fs → Each (λ (f : Ty). first_misfit A (trees_at es f.0) ≡ None) fs → field_trees new vs ≡ map (instantiate 0 A) (field_trees es fs)
      → map (instantiate 0 (erase A)) (map erase (field_trees es fs)) ≡ map erase (field_trees new vs)
  fields-erased [] [] h f e = refl
  fields-erased [] (v ∷ vs) h f e = absurd cc
  fields-erased (x ∷ fs) [] h f e = absurd cc
  fields-erased (x ∷ fs) (v ∷ vs) h f e =
      let both = first-is (trees_at new v.0) (instantiate 0 A (trees_at es x.0)) (field_trees new vs) (map (instantiate 0 A) (field_trees es fs)) e in
      ap (λ y. y ∷ map (instantiate 0 (erase A)) (map erase (field_trees es fs))) (sym (field-erased x v h.0 f.0 both.0))
      ∙ ap (λ ys. erase (trees_at new v.0) ∷ ys) (fields-erased fs vs h.1 f.1 both.1)

  -- a rule for the struct x asks all of its fields
  pub struct-row : (t : ℕ) (fs vs : List Ty) (x : StructDecl) (xs : List StructDecl) → xs ≡ x ∷ [] → x.fields ≡ map erase (field_trees es fs) → TysHeld es fs → TysHeld new vs
      → Each (λ (f : Ty). first_misfit A (trees_at es f.0) ≡ None) fs → field_trees new vs ≡ map (instantiate 0 A) (field_trees es fs)
      → IsOneRow (flat_map (λ (y : StructDecl). row auto_struct (each_asked t (fields_of y (erase A)))) xs) (each_asked_of new t vs)
  struct-row t fs vs x xs one fields h g f e =
      subst (λ l. IsOneRow (flat_map (λ (y : StructDecl). row auto_struct (each_asked t (fields_of y (erase A)))) l) (each_asked_of new t vs)) (sym one) (
        tt,
        ap (λ l. each_asked t (together (map (instantiate 0 (erase A)) l))) fields ∙ ap (λ l. each_asked t (together l)) (fields-erased fs vs h f e)
            ∙ ap (each_asked t) (together-erased (field_trees new vs)) ∙ each-erased t (together (field_trees new vs)) ∙ ap (map erased_reference) (fields-asked new newer t vs g)
            ∙ asked-erased new t vs,
      )

  -- a rule for the struct x asks the last of its fields
  pub last-row : (front : List Ty) (f v : Ty) (x : StructDecl) (xs : List StructDecl) → xs ≡ x ∷ [] → x.fields ≡ map erase (field_trees es (front ++ f ∷ [])) → Has es types f.0 → Has new types v.0
      → first_misfit A (trees_at es f.0) ≡ None → trees_at new v.0 ≡ instantiate 0 A (trees_at es f.0)
      → IsOneRow (flat_map (λ (y : StructDecl). row sized_struct (last_asked sized (fields_of y (erase A)))) xs) (each_asked_of new sized (v ∷ []))
  last-row front f v x xs one fields h g m e =
      let y = trees_at new v.0 in
      let back = fields ∙ ap (map erase) (ended (λ (t : Ty). trees_at es t.0) front f) ∙ ended erase (field_trees es front) (trees_at es f.0) in
      let alone = last-erased sized y ∙ ap (map erased_reference) (one-last sized y (type-is new newer v.0 g)) in
      subst (λ l. IsOneRow (flat_map (λ (z : StructDecl). row sized_struct (last_asked sized (fields_of z (erase A)))) l) (each_asked_of new sized (v ∷ []))) (sym one) (
        tt,
        ap (λ l. last_asked sized (together (map (instantiate 0 (erase A)) l))) back
            ∙ fields-last sized (erase A) (map erase (field_trees es front)) (erase (trees_at es f.0)) (erase y) (field-erased f v h m e) alone,
      )
