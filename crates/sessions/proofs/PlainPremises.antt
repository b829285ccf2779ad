-- By terms that are declared, what is plain is concluded from what is plain.
use Rattle.std.proofs.Common.{◌≡◌, ◌==◌, ℕ, zero, suc, Bool, true, false, not, ◌&&◌, ◌||◌, if◌then◌else◌, List, [], ◌∷◌, ◌++◌, length, subst}
use Rattle.std.specs.List.{flat_map, list_all, list_any}
use Rattle.type_terms.specs.Codes.{same}
use Rattle.type_terms.specs.Promised.Label.{array, slice, tuple, dynamic, adt, fn_ptr}
use Rattle.type_terms.specs.Promised.Proofs.{In}
use Rattle.type_terms.specs.Promised.Rules.{Rule, BuiltIn, row, rules, sized, clone, copy, tuple_trait, fn_ptr_trait, is_fn_trait, unsize, is_auto, is_dyn, is_declared, same_reference, impl_rules, plain_rules, sized_rules, copy_rules, auto_rules, tuple_rules, fn_ptr_rules, call_rules, but_last, unsize_rules, unsize_array_rules, unsize_to_dyn_rules, unsize_upcast, unsize_upcast_rules, unsize_dyn, unsize_struct, unsize_struct_rules, some_unsizing, with_unsizing, last_unsizes, upcasts_principal, upcasts_autos, object_auto, object_principal, object_bound_rules, object_rules, built_in_rules, equal_rows, elaborated, are_declared, are_dyn_compatible, principal_with, autos_with, asked, clause_rules, super_rules, strict_supertraits, strict_supertraits_within, written_supertraits}
use Rattle.type_terms.specs.Promised.Trees.{Trees, none, tree, instantiate}
use Rattle.type_terms.specs.Trees.{arguments, fits}
use Rattle.type_terms.specs.Promised.Worlds.{World, Reference, StructDecl, TraitDecl, ImplDecl, structs_named, traits_named, with_args, all_with_args}
use Rattle.type_terms.proofs.ProofEntries.{map-in}
use Rattle.type_terms.proofs.Fitting.{append-shut, head-shut, child-shut, next-shut}
use Rattle.type_terms.proofs.Members.{in-filter, in-flat}
use Rattle.type_terms.proofs.Walking.{left, right}
use Rattle.goal_evaluator.specs.Lists.{Every}
use Rattle.candidate_model.specs.Declared.{are_terms, is_declared_view}
use Rattle.candidate_model.specs.Facts.{is_unerased}
use Rattle.candidate_model.proofs.DeclaredParts.{clause-declared, bound-declared}
use Rattle.candidate_model.proofs.OpenLevels.{principal-plain, autos-plain}
use Rattle.candidate_model.proofs.PlainRules.{Plain, IsPlainReference, HavePlainPremises, plain-instance, plain-last, every-flat, plain-sized, plain-auto, plain-copy, plain-tuple, plain-fn-ptr}
use Rattle.candidate_model.proofs.ReadOff.{arguments-plain}
use Rattle.candidate_model.proofs.Rows.{fields-declared}
use Rattle.goal_evaluator.proofs.Basics.{every-append}
use Rattle.candidate_model.proofs.Elaborating.{every-in as every-of}

if-plain : (b : Bool) (us : List Rule) → HavePlainPremises us → HavePlainPremises (if b then us else [])
if-plain true us h = h
if-plain false us h = tt

both-plain : (us ws : List Rule) → HavePlainPremises us → HavePlainPremises ws → HavePlainPremises (us ++ ws)
both-plain us ws h g = every-append (λ (u : Rule). Every IsPlainReference u.premises) us ws h g

-- ---- rules that read no declarations
call-plain : (a : Trees) → Plain a → HavePlainPremises (call_rules a)
call-plain none h = tt
call-plain (tree (fn_ptr n) types none) h = tt
call-plain (tree (fn_ptr n) types (tree tuple inputs o)) h = if-plain (same (but_last types) inputs) _ (plain-last sized types (child-shut is_unerased (fn_ptr n) types (tree tuple inputs o) h), tt)
call-plain (tree (fn_ptr n) types (tree k d o)) h = tt
call-plain (tree l c o) h = tt

alone-plain : (r : Reference) → Plain r.args → HavePlainPremises (plain_rules r)
alone-plain r h =
    both-plain (if (r.trait == copy) || (r.trait == clone) then copy_rules r.trait r.args else []) _ (if-plain ((r.trait == copy) || (r.trait == clone)) (copy_rules r.trait r.args) (plain-copy r.trait r.args h))
    (both-plain (if r.trait == tuple_trait then tuple_rules r.args else []) _ (if-plain (r.trait == tuple_trait) (tuple_rules r.args) (plain-tuple r.args h))
    (both-plain (if r.trait == fn_ptr_trait then fn_ptr_rules r.args else []) (if is_fn_trait r.trait then call_rules r.args else []) (if-plain (r.trait == fn_ptr_trait) (fn_ptr_rules r.args) (plain-fn-ptr r.args h))
    (if-plain (is_fn_trait r.trait) (call_rules r.args) (call-plain r.args h))))

array-plain : (a : Trees) → HavePlainPremises (unsize_array_rules a)
array-plain none = tt
array-plain (tree array none o) = tt
array-plain (tree array (tree l c n) none) = tt
array-plain (tree array (tree l c n) (tree slice none o)) = tt
array-plain (tree array (tree l c n) (tree slice (tree m d p) o)) = if-plain (same (tree l c none) (tree m d none)) _ (tt, tt)
array-plain (tree array (tree l c n) (tree k d o)) = tt
array-plain (tree l c o) = tt

equal-plain : (b : ℕ → BuiltIn) (ps : List Reference) → Every IsPlainReference ps → (r : Reference) (k : ℕ) (ss : List Reference) → HavePlainPremises (equal_rows b ps r k ss)
equal-plain b ps h r k [] = tt
equal-plain b ps h r k (s ∷ ss) = both-plain (if same_reference r s then row (b k) ps else []) (equal_rows b ps r (suc k) ss) (if-plain (same_reference r s) (row (b k) ps) (h, tt)) (equal-plain b ps h r (suc k) ss)

unsizes-plain : (fs : List Trees) → list_all are_terms fs ≡ true → (a b : Trees) → Plain a → Plain b → Every IsPlainReference (last_unsizes fs a b)
unsizes-plain [] e a b h g = tt
unsizes-plain (f ∷ []) e a b h g = let d = left (are_terms f) true e in (append-shut is_unerased (instantiate zero a f) (instantiate zero b f) (plain-instance a f h d) (plain-instance b f g d), tt)
unsizes-plain (f ∷ k ∷ fs) e a b h g = unsizes-plain (k ∷ fs) (right (are_terms f) (list_all are_terms (k ∷ fs)) e) a b h g

module _ (V : World) (declared : is_declared_view V ≡ true) where
  -- ---- supertraits
  written-plain : (r : Reference) → Plain r.args → (s : Reference) → In s (written_supertraits V r) → Plain s.args
  written-plain r h s i =
      let m = in-flat (λ (t : TraitDecl). all_with_args r.args t.bounds) (traits_named V r.trait) s i in
      let x = in-filter (λ (t : TraitDecl). t.name == r.trait) V.traits m.0 m.1 in
      let b = map-in (with_args r.args) m.0.bounds s m.2 in
      subst (λ (z : Reference). Plain z.args) b.2 (plain-instance r.args b.0.args h (bound-declared V declared m.0 b.0 x.0 b.1))

  within-plain : (n : ℕ) (r : Reference) → Plain r.args → Every IsPlainReference (strict_supertraits_within n V r)
  within-plain zero r h = tt
  within-plain (suc n) r h =
      every-flat IsPlainReference (λ s. s ∷ strict_supertraits_within n V s) (written_supertraits V r) (λ s i. let g = written-plain r h s i in (g, within-plain n s g))

  pub supers-plain : (r : Reference) → Plain r.args → Every IsPlainReference (strict_supertraits V r)
  supers-plain r h = within-plain (length V.traits) r h

  -- ---- impls
  impl-plain : (r : Reference) → Plain r.args → (i : ImplDecl) → In i V.impls → HavePlainPremises (impl_rules r i)
  impl-plain r h i k =
      let A = arguments i.params i.header.args r.args in
      if-plain (fits A i.header.args && same_reference (with_args A i.header) r) _ (
        every-of IsPlainReference (all_with_args A i.clauses)
            (λ p j. let c = map-in (with_args A) i.clauses p j in
            subst (λ (z : Reference). Plain z.args) c.2 (plain-instance A c.0.args (arguments-plain 0 i.params i.header.args r.args h) (clause-declared V declared i c.0 k c.1))),
        tt,
      )

  -- ---- `Unsize`
  to-dyn-plain : (a : Trees) → Plain a → HavePlainPremises (unsize_to_dyn_rules V a)
  to-dyn-plain none h = tt
  to-dyn-plain (tree l c none) h = tt
  to-dyn-plain (tree l c (tree dynamic bs o)) h =
      let self = tree l c none in
      let s = head-shut is_unerased l c (tree dynamic bs o) h in
      let b = child-shut is_unerased dynamic bs o (next-shut is_unerased l c (tree dynamic bs o) h) in
      if-plain (not (is_dyn l) && are_dyn_compatible V (principal_with self bs)) _ (
        every-append IsPlainReference (principal_with self bs) _ (principal-plain self bs s b) (every-append IsPlainReference (autos_with self bs) (asked sized self ∷ []) (autos-plain self bs s) (s, tt)),
        tt,
      )
  to-dyn-plain (tree l c (tree k bs o)) h = tt

  upcasts-plain : (ps qs : List Reference) → HavePlainPremises (upcasts_principal V ps qs)
  upcasts-plain ps [] = (tt, tt)
  upcasts-plain [] (q ∷ qs) = tt
  upcasts-plain (p ∷ ps) (q ∷ qs) = by (p.trait == q.trait)
    where
      by : (b : Bool) → HavePlainPremises (if b then (if same_reference p q then row unsize_dyn [] else []) else equal_rows unsize_upcast [] q 1 (strict_supertraits V p))
      by true = if-plain (same_reference p q) (row unsize_dyn []) (tt, tt)
      by false = equal-plain unsize_upcast [] tt q 1 (strict_supertraits V p)

  upcast-plain : (a : Trees) → HavePlainPremises (unsize_upcast_rules V a)
  upcast-plain none = tt
  upcast-plain (tree dynamic a none) = tt
  upcast-plain (tree dynamic a (tree dynamic b o)) =
      let self = tree dynamic a none in
      if-plain (are_declared V (principal_with self a) && upcasts_autos V (principal_with self a) (autos_with self a) (autos_with self b)) _ (upcasts-plain (principal_with self a) (principal_with self b))
  upcast-plain (tree dynamic a (tree k b o)) = tt
  upcast-plain (tree l c o) = tt

  struct-plain : (a : Trees) → Plain a → HavePlainPremises (unsize_struct_rules V a)
  struct-plain none h = tt
  struct-plain (tree (adt s) a none) h = tt
  struct-plain (tree (adt s) a (tree (adt u) b o)) h =
      let p = child-shut is_unerased (adt s) a (tree (adt u) b o) h in
      let q = child-shut is_unerased (adt u) b o (next-shut is_unerased (adt s) a (tree (adt u) b o) h) in
      if-plain (s == u) _
      (every-flat (λ (w : Rule). Every IsPlainReference w.premises) (λ x. if some_unsizing x.fields 0 a && same (with_unsizing x.fields 0 a b) b then row unsize_struct (last_unsizes x.fields a b) else []) (structs_named V s)
      (λ x i. if-plain (some_unsizing x.fields 0 a && same (with_unsizing x.fields 0 a b) b) _
      (unsizes-plain x.fields (fields-declared V declared [] x (in-filter (λ (y : StructDecl). y.name == s) V.structs x i).0) a b p q, tt)))
  struct-plain (tree (adt s) a (tree k b o)) h = tt
  struct-plain (tree l c o) h = tt

  unsize-plain : (a : Trees) → Plain a → HavePlainPremises (unsize_rules V a)
  unsize-plain a h =
      both-plain (unsize_array_rules a) _ (array-plain a)
      (both-plain (unsize_to_dyn_rules V a) _ (to-dyn-plain a h) (both-plain (unsize_upcast_rules V a) (unsize_struct_rules V a) (upcast-plain a) (struct-plain a h)))

  -- ---- object bounds
  object-bound-plain : (r : Reference) → Plain r.args → (ps qs : List Reference) → HavePlainPremises (object_bound_rules V r ps qs)
  object-bound-plain r h ps qs =
      if-plain (is_declared V r.trait && are_dyn_compatible V ps) _
      (both-plain (if not (r.trait == sized) && list_any (same_reference r) qs then row object_auto (strict_supertraits V r) else []) _
      (if-plain (not (r.trait == sized) && list_any (same_reference r) qs) (row object_auto (strict_supertraits V r)) (supers-plain r h, tt))
      (if-plain (not (r.trait == sized)) _ (equal-plain object_principal (strict_supertraits V r) (supers-plain r h) r 0 (elaborated V ps))))

  object-plain : (r : Reference) → Plain r.args → (a : Trees) → HavePlainPremises (object_rules V r a)
  object-plain r h none = tt
  object-plain r h (tree dynamic b o) = object-bound-plain r h (principal_with (tree dynamic b none) b) (autos_with (tree dynamic b none) b)
  object-plain r h (tree l c o) = tt

  built-in-plain : (r : Reference) → Plain r.args → HavePlainPremises (built_in_rules V r)
  built-in-plain r h =
      both-plain (plain_rules r) _ (alone-plain r h)
      (both-plain (if r.trait == sized then sized_rules V r.args else []) _ (if-plain (r.trait == sized) (sized_rules V r.args) (plain-sized V declared r.args h))
      (both-plain (if is_auto V r.trait then auto_rules V r.trait r.args else []) _ (if-plain (is_auto V r.trait) (auto_rules V r.trait r.args) (plain-auto V declared r.trait r.args h))
      (both-plain (if r.trait == unsize then unsize_rules V r.args else []) (object_rules V r r.args) (if-plain (r.trait == unsize) (unsize_rules V r.args) (unsize-plain r.args h)) (object-plain r h r.args))))

  -- ---- where-clauses ask nothing
  super-plain : (r : Reference) (k n : ℕ) (ss : List Reference) → HavePlainPremises (super_rules r k n ss)
  super-plain r k n [] = tt
  super-plain r k n (s ∷ ss) = both-plain (if same_reference s r then _ ∷ [] else []) (super_rules r k (suc n) ss) (if-plain (same_reference s r) _ (tt, tt)) (super-plain r k (suc n) ss)

  clauses-plain : (r : Reference) (k : ℕ) (E : List Reference) → HavePlainPremises (clause_rules V r k E)
  clauses-plain r k [] = tt
  clauses-plain r k (s ∷ ss) =
      both-plain (if same_reference s r then _ ∷ [] else []) _ (if-plain (same_reference s r) _ (tt, tt))
      (both-plain (super_rules r k 0 (strict_supertraits V s)) (clause_rules V r (suc k) ss) (super-plain r k 0 (strict_supertraits V s)) (clauses-plain r (suc k) ss))

  -- ---- all rules
  pub rules-plain : (E : List Reference) (r : Reference) → Plain r.args → HavePlainPremises (rules V E r)
  rules-plain E r h =
      both-plain (flat_map (impl_rules r) V.impls) (built_in_rules V r ++ clause_rules V r 0 E)
      (every-flat (λ (u : Rule). Every IsPlainReference u.premises) (impl_rules r) V.impls (λ i k. impl-plain r h i k))
      (both-plain (built_in_rules V r) (clause_rules V r 0 E) (built-in-plain r h) (clauses-plain r 0 E))
