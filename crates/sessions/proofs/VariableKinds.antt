-- The unknowns that stand for the variables of a question have their kinds.
use Rattle.std.proofs.Common.{◌≡◌, ℕ, suc, List, [], ◌∷◌, map, refl, sym, ap, ◌∙◌, subst}
use Rattle.type_terms.specs.Promised.Label.{Sort, of_type, of_const, of_lifetime, infer}
use Rattle.type_terms.specs.Promised.Trees.{Trees, none, tree, leaf, IsA, sort_of}
use Rattle.type_terms.specs.Promised.Handles.{Entry, Has, types, consts, trees_at}
use Rattle.type_terms.specs.Terms.{Lawful}
use Rattle.type_terms.specs.Promised.Handles.{arg_trees, ArgsHeld, region_label, region_trees}
use Rattle.type_terms.specs.declared.number.BoundVarIndexKind.TheVariants.{Bound as KBinder, Canonical as KCanonical}
use Rattle.type_terms.specs.declared.region.Region.{Region}
use Rattle.type_terms.specs.declared.region.RegionKind.{RegionKind}
use Rattle.type_terms.specs.declared.region.RegionKind.TheVariants.{ReStatic, ReEarlyParam, RePlaceholder, ReBound, ReVar}
use Rattle.type_terms.specs.declared.kinds.GenericArgKind.{GenericArgKind}
use Rattle.type_terms.specs.declared.kinds.GenericArgKind.TheVariants.{Ty, Const, Lifetime}
use Rattle.term_folds.specs.Arguments.{arg_sort}
use Rattle.infer_table.proofs.BindFacts.{type-is, const-is}
use Rattle.text_language.specs.Promised.Declarations.{Variable}
use Rattle.text_language.specs.Names.{own_from}
use Rattle.type_terms.proofs.ListBasics.{first-same, rest-same, two}

-- what stands for a variable, by its kind
not-type : (es : List Entry) → Lawful es → (i : ℕ) → Has es types i → (s : Sort) (n : ℕ) → trees_at es i ≡ leaf (infer s n) → s ≡ of_type
not-type es law i h s n e = (subst (IsA of_type) e (type-is es law i h)).0

not-const : (es : List Entry) → Lawful es → (i : ℕ) → Has es consts i → (s : Sort) (n : ℕ) → trees_at es i ≡ leaf (infer s n) → s ≡ of_const
not-const es law i h s n e = (subst (IsA of_const) e (const-is es law i h)).0

region-sort : (r : Region) → sort_of (region_label r.kind) ≡ of_lifetime
region-sort r = by r.kind
  where
    by : (k : RegionKind) → sort_of (region_label k) ≡ of_lifetime
    by ReStatic = refl
    by (ReEarlyParam i) = refl
    by (RePlaceholder p) = refl
    by (ReBound (KBinder d) v) = refl
    by (ReBound KCanonical v) = refl
    by (ReVar v) = refl

not-region : (r : Region) (s : Sort) (n : ℕ) → region_trees r ≡ leaf (infer s n) → s ≡ of_lifetime
not-region r s n e = sym (ap first_sort e) ∙ region-sort r
  where
    first_sort : Trees → Sort
    first_sort none = of_lifetime
    first_sort (tree l c o) = sort_of l

-- the number of the next variable of a kind, and the counts behind it
abbrev place : Sort → ℕ → ℕ → ℕ
place of_type n m = n
place of_const n m = m
place of_lifetime n m = 0

abbrev next_types : Sort → ℕ → ℕ
next_types of_type n = suc n
next_types of_const n = n
next_types of_lifetime n = n

abbrev next_consts : Sort → ℕ → ℕ
next_consts of_type m = m
next_consts of_const m = suc m
next_consts of_lifetime m = m

own-next : (n m : ℕ) (v : Variable) (vs : List Variable) → own_from n m (v ∷ vs) ≡ leaf (infer v.kind (place v.kind n m)) ∷ own_from (next_types v.kind n) (next_consts v.kind m) vs
own-next n m v vs = by v.text v.kind
  where
    by : (x : List ℕ) (k : Sort) → own_from n m ((let w : Variable = record { text = x; kind = k } in w) ∷ vs) ≡ leaf (infer k (place k n m)) ∷ own_from (next_types k n) (next_consts k m) vs
    by x of_type = refl
    by x of_const = refl
    by x of_lifetime = refl

not-empty : {A : Type 0} (y : A) (ys : List A) → [] ≡ y ∷ ys → ⊥
not-empty y ys e = cc

module _ (es : List Entry) (law : Lawful es) where
  pub kinds-are : (us : List GenericArgKind) (vs : List Variable) (n m : ℕ) → ArgsHeld es us → map (arg_trees es) us ≡ own_from n m vs → map arg_sort us ≡ map (λ v. v.kind) vs
  kinds-are [] [] n m h e = refl
  kinds-are [] (v ∷ vs) n m h e = absurd (not-empty _ _ (e ∙ own-next n m v vs))
  kinds-are (u ∷ us) [] n m h e = absurd (not-empty _ _ (sym e))
  kinds-are (Ty x ∷ us) (v ∷ vs) n m h e =
      let q = e ∙ own-next n m v vs in
      two (sym (not-type es law x.0 h.0 v.kind (place v.kind n m) (first-same _ _ _ _ q))) (kinds-are us vs (next_types v.kind n) (next_consts v.kind m) h.1 (rest-same _ _ _ _ q))
  kinds-are (Const x ∷ us) (v ∷ vs) n m h e =
      let q = e ∙ own-next n m v vs in
      two (sym (not-const es law x.0 h.0 v.kind (place v.kind n m) (first-same _ _ _ _ q))) (kinds-are us vs (next_types v.kind n) (next_consts v.kind m) h.1 (rest-same _ _ _ _ q))
  kinds-are (Lifetime r ∷ us) (v ∷ vs) n m h e =
      let q = e ∙ own-next n m v vs in
      two (sym (not-region r v.kind (place v.kind n m) (first-same _ _ _ _ q))) (kinds-are us vs (next_types v.kind n) (next_consts v.kind m) h.1 (rest-same _ _ _ _ q))
