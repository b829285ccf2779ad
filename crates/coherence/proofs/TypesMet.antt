-- The types that the orphan rule looks at, against the items of the code's walk.
use Rattle.std.proofs.Common.{◌≡◌, ℕ, refl, sym, ◌∙◌, Bool, true, false, not, ◌&&◌, if◌then◌else◌, List, [], ◌∷◌, ◌++◌, Option, Some, None}
use Rattle.std.specs.Prelude.{find}
use Rattle.std.specs.List.{list_any}
use Rattle.std.specs.Option.{option_or}
use Rattle.std.proofs.lemmas.List.Folds.{find-append}
use Rattle.sessions.specs.TypeTerms.Promised.Label.{of_type, of_const, of_lifetime, adt, ref, dynamic, principal, param, placeholder, infer, canonical, bound, value, static}
use Rattle.sessions.specs.TypeTerms.Promised.Trees.{Trees, none, tree}
use Rattle.sessions.specs.TypeTerms.Promised.Worlds.{World}
use Rattle.sessions.specs.TypeTerms.Promised.Walks.{struct_is, trait_is, is_home, visited, ends_local}
use Rattle.sessions.specs.TypeTerms.Promised.Versions.{is_open_place}
use Rattle.sessions.specs.TypeTerms.Promised.OrphanErrors.{local_type, leaf_type, passage, dyn_look}
use Rattle.sessions.specs.TypeTerms.Promised.OrphanErrors.{WalkItem, local_item, open_item, foreign_item, item_of, items, decisive, first_local, OrphanError, nonlocal, uncovered, error_at, orphan_error}
use Rattle.coherence.specs.Promised.CrateAnswers.{types_met}

-- the first open place
abbrev pub first_open : List WalkItem → Option Trees
first_open [] = None
first_open (open_item t ∷ is) = Some t
first_open (i ∷ is) = first_open is

local-append : (is js : List WalkItem) → first_local (is ++ js) ≡ option_or (first_local is) (first_local js)
local-append [] js = refl
local-append (local_item t ∷ is) js = refl
local-append (open_item t ∷ is) js = local-append is js
local-append (foreign_item t f ∷ is) js = local-append is js

open-append : (is js : List WalkItem) → first_open (is ++ js) ≡ option_or (first_open is) (first_open js)
open-append [] js = refl
open-append (open_item t ∷ is) js = refl
open-append (local_item t ∷ is) js = open-append is js
open-append (foreign_item t f ∷ is) js = open-append is js

either : (a b x y : Option Trees) → a ≡ x → b ≡ y → option_or a b ≡ option_or x y
either a b x y p q = cc

-- where the first item that decides is no local type, the error names the first open place, if there is one
no-open : (is js : List WalkItem) (e : OrphanError) (ts : List (Trees × Bool)) → error_at (decisive is) js ≡ Some (nonlocal ts) → first_open is ≡ None
no-open [] js e ts h = refl
no-open (local_item t ∷ is) js e ts h = absurd cc
no-open (open_item t ∷ is) js e ts h = absurd cc
no-open (foreign_item t f ∷ is) js e ts h = no-open is js e ts h

some-open : (is js : List WalkItem) (t : Trees) (u : Option Trees) → error_at (decisive is) js ≡ Some (uncovered t u) → (first_open is ≡ Some t) × (first_local js ≡ u)
some-open [] js t u h = absurd cc
some-open (local_item s ∷ is) js t u h = absurd cc
some-open (open_item s ∷ is) js t u h = (cc, cc)
some-open (foreign_item s f ∷ is) js t u h = some-open is js t u h

module _ (V : World) (c : ℕ) where
  abbrev pub meets_local : Trees → Bool
  meets_local t = ends_local (visited V (Some c) t)

  abbrev pub meets_open : Trees → Bool
  meets_open t = list_any is_open_place (visited V (Some c) t)

  record Agree (is : List WalkItem) (xs : List Trees) : Type 0 where
    locals : find meets_local xs ≡ first_local is
    opens : find meets_open xs ≡ first_open is

  both : {is js : List WalkItem} {xs ys : List Trees} → Agree is xs → Agree js ys → Agree (is ++ js) (xs ++ ys)
  both {is} {js} {xs} {ys} a b = record {
    locals = find-append meets_local xs ys ∙ either _ _ _ _ a.locals b.locals ∙ sym (local-append is js);
    opens = find-append meets_open xs ys ∙ either _ _ _ _ a.opens b.opens ∙ sym (open-append is js);
  }

  struct-agrees : (s : ℕ) (k : Trees) (first : Bool) (is : List WalkItem) (a b : Bool) → struct_is (λ x. is_home (Some c) x.home) V s ≡ a → struct_is (λ x. x.is_fundamental) V s ≡ b
      → Agree is (types_met V c k)
      → Agree (item_of (if a then local_type else if b then passage else leaf_type) (tree (adt s) k none) first is) (if not a && b then types_met V c k else tree (adt s) k none ∷ [])
  struct-agrees s k first is true b p q h = record {
    locals = rw p refl;
    opens = rw p refl;
  }
  struct-agrees s k first is false true p q h = h
  struct-agrees s k first is false false p q h = record {
    locals = rw (p, q) refl;
    opens = rw (p, q) refl;
  }

  dyn-agrees : (first : Bool) (k : Trees) → Agree (item_of (dyn_look V (Some c) k) (tree dynamic k none) first (items V (Some c) first k)) (tree dynamic k none ∷ [])
  dyn-agrees first none = record { locals = refl; opens = refl }
  dyn-agrees first (tree (principal n i) k o) = by (trait_is (λ x. is_home (Some c) x.home) V i) refl
    where
      by : (a : Bool) → trait_is (λ x. is_home (Some c) x.home) V i ≡ a
          → Agree (item_of (if a then local_type else leaf_type) (tree dynamic (tree (principal n i) k o) none) first (items V (Some c) first (tree (principal n i) k o))) (tree dynamic (tree (principal n i) k o) none ∷ [])
      by true e = record { locals = rw e refl; opens = rw e refl }
      by false e = record { locals = rw e refl; opens = rw e refl }
  dyn-agrees first (tree l k o) = record { locals = refl; opens = refl }

  agrees : (first : Bool) (t : Trees) → Agree (items V (Some c) first t) (types_met V c t)
  agrees first none = record { locals = refl; opens = refl }
  agrees first (tree (ref m) k o) = both (agrees first k) (agrees false o)
  agrees first (tree (adt s) k o) = both (struct-agrees s k first (items V (Some c) first k) (struct_is (λ x. is_home (Some c) x.home) V s) (struct_is (λ x. x.is_fundamental) V s) refl refl (agrees first k)) (agrees false o)
  agrees first (tree dynamic k o) = both (dyn-agrees first k) (agrees false o)
  agrees first (tree (param of_const i) k o) = both {is = []} {xs = tree (param of_const i) k none ∷ []} (record { locals = refl; opens = refl }) (agrees first o)
  agrees first (tree (placeholder of_const i) k o) = both {is = []} {xs = tree (placeholder of_const i) k none ∷ []} (record { locals = refl; opens = refl }) (agrees first o)
  agrees first (tree (infer of_const i) k o) = both {is = []} {xs = tree (infer of_const i) k none ∷ []} (record { locals = refl; opens = refl }) (agrees first o)
  agrees first (tree (canonical of_const i) k o) = both {is = []} {xs = tree (canonical of_const i) k none ∷ []} (record { locals = refl; opens = refl }) (agrees first o)
  agrees first (tree (bound of_const n i) k o) = both {is = []} {xs = tree (bound of_const n i) k none ∷ []} (record { locals = refl; opens = refl }) (agrees first o)
  agrees first (tree (param of_lifetime i) k o) = both {is = []} {xs = tree (param of_lifetime i) k none ∷ []} (record { locals = refl; opens = refl }) (agrees first o)
  agrees first (tree (placeholder of_lifetime i) k o) = both {is = []} {xs = tree (placeholder of_lifetime i) k none ∷ []} (record { locals = refl; opens = refl }) (agrees first o)
  agrees first (tree (infer of_lifetime i) k o) = both {is = []} {xs = tree (infer of_lifetime i) k none ∷ []} (record { locals = refl; opens = refl }) (agrees first o)
  agrees first (tree (canonical of_lifetime i) k o) = both {is = []} {xs = tree (canonical of_lifetime i) k none ∷ []} (record { locals = refl; opens = refl }) (agrees first o)
  agrees first (tree (bound of_lifetime n i) k o) = both {is = []} {xs = tree (bound of_lifetime n i) k none ∷ []} (record { locals = refl; opens = refl }) (agrees first o)
  agrees first (tree (value n) k o) = both {is = []} {xs = tree (value n) k none ∷ []} (record { locals = refl; opens = refl }) (agrees first o)
  agrees first (tree static k o) = both {is = []} {xs = tree static k none ∷ []} (record { locals = refl; opens = refl }) (agrees first o)
  agrees first (tree (param of_type i) k o) = both {is = open_item (tree (param of_type i) k none) ∷ []} {xs = tree (param of_type i) k none ∷ []} (record { locals = refl; opens = refl }) (agrees false o)
  agrees first (tree (placeholder of_type i) k o) = both {is = open_item (tree (placeholder of_type i) k none) ∷ []} {xs = tree (placeholder of_type i) k none ∷ []} (record { locals = refl; opens = refl }) (agrees false o)
  agrees first (tree (infer of_type i) k o) = both {is = open_item (tree (infer of_type i) k none) ∷ []} {xs = tree (infer of_type i) k none ∷ []} (record { locals = refl; opens = refl }) (agrees false o)
  agrees first (tree (canonical of_type i) k o) = both {is = open_item (tree (canonical of_type i) k none) ∷ []} {xs = tree (canonical of_type i) k none ∷ []} (record { locals = refl; opens = refl }) (agrees false o)
  agrees first (tree (bound of_type n i) k o) = both {is = open_item (tree (bound of_type n i) k none) ∷ []} {xs = tree (bound of_type n i) k none ∷ []} (record { locals = refl; opens = refl }) (agrees false o)
  agrees first (tree l k o) = both {is = foreign_item (tree l k none) first ∷ []} {xs = tree l k none ∷ []} (record { locals = refl; opens = refl }) (agrees false o)

  -- the error names no type exactly where none is open
  pub nonlocal-met : (t : Trees) (ts : List (Trees × Bool)) → orphan_error V c t ≡ Some (nonlocal ts) → find meets_open (types_met V c t) ≡ None
  nonlocal-met t ts h = (agrees true t).opens ∙ no-open (items V (Some c) true t) (items V (Some c) true t) (nonlocal ts) ts h

  pub uncovered-met : (t s : Trees) (u : Option Trees) → orphan_error V c t ≡ Some (uncovered s u) → (find meets_open (types_met V c t) ≡ Some s) × (find meets_local (types_met V c t) ≡ u)
  uncovered-met t s u h =
      let k = some-open (items V (Some c) true t) (items V (Some c) true t) s u h in
      ((agrees true t).opens ∙ k.0, (agrees true t).locals ∙ k.1)
