-- Properties of trait references that answers depend on: closed, bounded, possible, unambiguous and determinate. Then
-- common instances of two impls, and overlap.
use Rattle.std.specs.Prelude.{◌≡◌, ℕ, zero, suc, Bool, true, false, IsTrue, ◌||◌, ◌&&◌, ◌⊎◌, if◌then◌else◌, not, List, [], ◌++◌, Some}
use Rattle.std.specs.List.{slice_get, flat_map, list_all, list_any}
use Rattle.type_terms.specs.Promised.Label.{Label, param, placeholder, infer, canonical, bound, adt, principal, auto_trait, of_trait, predicate}
use Rattle.type_terms.specs.Promised.Trees.{Trees, some_node, Fits}
use Rattle.type_terms.specs.Promised.Worlds.{World, Reference, ImplDecl, with_args}
use Rattle.type_terms.specs.Promised.Rules.{Rule, rules, strict_supertraits}
use Rattle.type_terms.specs.Promised.Proofs.{HasProof, In, Every}
use Rattle.type_terms.specs.Promised.Walks.{is_known_in, struct_is, trait_is}

-- The label is that of an inference variable, or of a variable of a canonical form.
abbrev pub is_variable : Label → Bool
is_variable (infer _ _) = true
is_variable (canonical _ _) = true
is_variable _ = false

-- The label is that of a parameter, placeholder, inference variable, canonical variable or bound variable.
abbrev pub is_open : Label → Bool
is_open (param _ _) = true
is_open (placeholder _ _) = true
is_open (infer _ _) = true
is_open (canonical _ _) = true
is_open (bound _ _ _) = true
is_open _ = false

-- The terms are closed: none of their labels is open.
abbrev pub is_closed : Trees → Bool
is_closed t = not (some_node is_open t)

-- The label names a struct or a trait that W does not declare.
abbrev pub is_undeclared : World → Label → Bool
is_undeclared W (adt s) = not (struct_is (λ _. true) W s)
is_undeclared W (principal _ t) = not (trait_is (λ _. true) W t)
is_undeclared W (auto_trait t) = not (trait_is (λ _. true) W t)
is_undeclared W (predicate (of_trait t)) = not (trait_is (λ _. true) W t)
is_undeclared W _ = false

-- W declares the trait and everything that the arguments name.
abbrev pub written_in : World → Reference → Bool
written_in W r = trait_is (λ _. true) W r.trait && not (some_node (is_undeclared W) r.args)

-- The children of r in crate c with view V: the premises of its rule instances, and its supertraits if r is not
-- knowable to c. They depend on the view alone, and not on a linked set.
abbrev pub children : World → ℕ → Reference → List Reference
children V c r = flat_map (λ u. u.premises) (rules V [] r) ++ (if is_known_in V c r then [] else strict_supertraits V r)

-- Every chain of children from r has fewer than n steps.
abbrev pub short_chains : ℕ → World → ℕ → Reference → Bool
short_chains zero V c r = false
short_chains (suc n) V c r = list_all (λ s. short_chains n V c s) (children V c r)

-- The trait reference is bounded:
-- - it is closed,
-- - the view declares all that it names, and
-- - every chain of children from it has fewer steps than the limit.
abbrev pub is_bounded : ℕ → World → ℕ → Reference → Bool
is_bounded limit V c r = is_closed r.args && (written_in V r && short_chains limit V c r)

-- Some linked set with c may have a proof of r (RFC 1023; rustc: the candidate for unknowable trait references):
-- - some rule instance has possible premises, or
-- - r is not knowable to c, so that another crate may have an impl for it, and its supertraits are possible.
-- For example, with `trait Num` of another crate, `u8: Num` is possible even without an impl in the view.
abbrev pub is_possible : ℕ → World → ℕ → Reference → Bool
is_possible zero V c r = false
is_possible (suc n) V c r =
    list_any (λ u. list_all (λ p. is_possible n V c p) u.premises) (rules V [] r)
    || (not (is_known_in V c r) && list_all (λ p. is_possible n V c p) (strict_supertraits V r))

-- At most one rule instance of the list has premises that all have proofs.
abbrev pub AtMostOne : World → List Reference → List Rule → Type 0
AtMostOne W E us =
    (i j : ℕ) (u v : Rule) → slice_get us i ≡ Some u → slice_get us j ≡ Some v
    → Every (HasProof W E) u.premises → Every (HasProof W E) v.premises → i ≡ j

-- r, and every trait reference that chains of premises lead to, has at most one rule instance whose premises have
-- proofs. All chains have fewer than n steps.
abbrev pub SingleWay : ℕ → World → List Reference → Reference → Type 0
SingleWay zero W E r = ⊥
SingleWay (suc n) W E r = AtMostOne W E (rules W E r) × Every (λ u. Every (λ p. SingleWay n W E p) u.premises) (rules W E r)

-- r is unambiguous:
-- - it has no variables,
-- - its chains of premises have fewer steps than the limit, and
-- - each step has at most one rule instance whose premises have proofs.
abbrev pub IsUnambiguous : ℕ → World → List Reference → Reference → Type 0
IsUnambiguous limit W E r = IsTrue (not (some_node is_variable r.args)) × SingleWay limit W E r

-- r is determinate: unambiguous, and with a proof. The search must find this proof.
abbrev pub IsDeterminate : ℕ → World → List Reference → Reference → Type 0
IsDeterminate limit W E r = IsUnambiguous limit W E r × HasProof W E r

-- A common instance of two impls: closed terms for their parameters that make the two headers equal. For example,
-- `impl<T> Show for V<T>` and `impl Show for V<u8>` have the common instance `V<u8>: Show`.
pub record CommonInstance (i j : ImplDecl) : Type 0 where
  pub left : Trees
  pub right : Trees
  pub left_closed : IsTrue (is_closed left)
  pub right_closed : IsTrue (is_closed right)
  pub left_fits : Fits left i.header.args
  pub right_fits : Fits right j.header.args
  pub equal : with_args left i.header ≡ with_args right j.header

-- Two impls overlap: their headers have a common instance.
abbrev pub Overlaps : ImplDecl → ImplDecl → Type 0
Overlaps i j = CommonInstance i j

-- The where-clause k of impl i is r in all common instances of i and j. For example, for
-- `impl<T> Mine for T where T: Num` and `impl Mine for u8`, the clause `T: Num` is `u8: Num` in all of them.
abbrev pub FixedLeft : ImplDecl → ImplDecl → Reference → Reference → Type 0
FixedLeft i j k r = In k i.clauses × ((m : CommonInstance i j) → with_args m.left k ≡ r)

-- The where-clause k of impl j is r in all common instances of i and j.
abbrev pub FixedRight : ImplDecl → ImplDecl → Reference → Reference → Type 0
FixedRight i j k r = In k j.clauses × ((m : CommonInstance i j) → with_args m.right k ≡ r)

-- r is a fixed clause of the pair: some where-clause of either impl is r in all common instances.
abbrev pub IsFixedClause : ImplDecl → ImplDecl → Reference → Type 0
IsFixedClause i j r = ((k : Reference) × FixedLeft i j k r) ⊎ ((k : Reference) × FixedRight i j k r)

-- What the verdict `overlap` promises of the pair that it names: the headers have a common instance, and each fixed
-- clause that is bounded is possible.
pub record IsRealOverlap (limit : ℕ) (V : World) (c : ℕ) (i j : ImplDecl) : Type 0 where
  pub common : CommonInstance i j
  pub no_impossible : (r : Reference) → IsFixedClause i j r → is_bounded limit V c r ≡ true → is_possible limit V c r ≡ true
