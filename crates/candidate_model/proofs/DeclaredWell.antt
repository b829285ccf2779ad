-- Views that pass the tests are declared well.
use Rattle.std.proofs.Common.{◌≡◌, ℕ, ◌<◌, ◌≤◌, Bool, true, false, not, ◌||◌, ◌==◌, if◌then◌else◌, List, [], ◌∷◌, map, filter, length, refl, sym, subst, arith}
use Rattle.std.specs.Prelude.{nat_lt}
use Rattle.std.specs.List.{list_all, list_any}
use Rattle.std.proofs.lemmas.Bool.Decides.{nat_tests}
use Rattle.type_terms.specs.Promised.Trees.{Trees, none, tree, some_node}
use Rattle.type_terms.specs.Trees.{Single}
use Rattle.type_terms.specs.Promised.Worlds.{World, Reference, StructDecl, TraitDecl, ImplDecl}
use Rattle.type_terms.proofs.Members.{same-number}
use Rattle.type_terms.proofs.NoHolds.{member-each}
use Rattle.type_terms.proofs.Fitting.{not-true}
use Rattle.type_terms.proofs.Walking.{left, right}
use Rattle.candidate_model.specs.Candidates.{is_this_param}
use Rattle.candidate_model.specs.Declared.{is_declared_view, BoundsAreErased, is_lifetime_parameter, parameters_are_sorted, LeadDown}
use Rattle.candidate_model.specs.Determined.{ImplsAreDetermined}
use Rattle.candidate_model.specs.DeclaredWell.{is_loose, impls_are_determined, bounds_are_erased, height_in, bounds_lead_down, are_distinct, is_single, TestsTell, CoreIsDeclaredWell}
use Rattle.candidate_model.proofs.ReadOff.{none-passes}
use Rattle.type_terms.proofs.BooleanBasics.{true-false}
use Rattle.candidate_model.proofs.ErasedReading.{not-no as not-not}

pub determined-told : (V : World) → impls_are_determined V ≡ true → ImplsAreDetermined V
determined-told V e i r j k s n st =
    not-not (some_node (is_this_param s n) i.header.args)
    (none-passes (is_loose i.header.args) s n r.args st
    (not-true (some_node (is_loose i.header.args) r.args)
    (member-each (λ (c : Reference). not (some_node (is_loose i.header.args) c.args)) i.clauses r
    (member-each (λ (x : ImplDecl). list_all (λ (c : Reference). not (some_node (is_loose x.header.args) c.args)) x.clauses) V.impls i e j) k)))

erased-told : (V : World) → bounds_are_erased V ≡ true → BoundsAreErased V
erased-told V e x r i j =
    not-true (some_node is_lifetime_parameter r.args)
    (member-each (λ (b : Reference). not (some_node is_lifetime_parameter b.args)) x.bounds r (member-each (λ (y : TraitDecl). list_all (λ (b : Reference). not (some_node is_lifetime_parameter b.args)) y.bounds) V.traits x e i) j)

pub down-told : (V : World) → bounds_lead_down V ≡ true → LeadDown V (height_in V)
down-told V e x b i j =
    less (height_in V b.trait) (height_in V x.name)
    (member-each (λ (r : Reference). nat_lt (height_in V r.trait) (height_in V x.name)) x.bounds b
    (member-each (λ (y : TraitDecl). list_all (λ (r : Reference). nat_lt (height_in V r.trait) (height_in V y.name)) y.bounds) V.traits x e i) j)
  where
    less : (m n : ℕ) → nat_lt m n ≡ true → m < n
    less m n h = grind (arith, nat_tests, h)

-- ---- names that stand once
none-named : (s : ℕ) (xs : List StructDecl) → list_any (λ k. k == s) (map (λ (x : StructDecl). x.name) xs) ≡ false → length (filter (λ (x : StructDecl). x.name == s) xs) ≡ 0
none-named s [] e = refl
none-named s (x ∷ xs) e = by (x.name == s) e (λ f. none-named s xs f)
  where
    by : (b : Bool) → b || list_any (λ k. k == s) (map (λ (x : StructDecl). x.name) xs) ≡ false
        → (list_any (λ k. k == s) (map (λ (x : StructDecl). x.name) xs) ≡ false → length (filter (λ (x : StructDecl). x.name == s) xs) ≡ 0)
        → length (if b then x ∷ filter (λ (x : StructDecl). x.name == s) xs else filter (λ (x : StructDecl). x.name == s) xs) ≡ 0
    by true f go = absurd (true-false f)
    by false f go = go f

pub one-told : (s : ℕ) (xs : List StructDecl) → are_distinct (map (λ (x : StructDecl). x.name) xs) ≡ true → length (filter (λ (x : StructDecl). x.name == s) xs) ≤ 1
one-told s [] e = omega arith
one-told s (x ∷ xs) e =
    by (x.name == s) refl (left (not (list_any (λ k. k == x.name) names)) (are_distinct names) e) (one-told s xs (right (not (list_any (λ k. k == x.name) names)) (are_distinct names) e))
  where
    names : List ℕ
    names = map (λ (x : StructDecl). x.name) xs

    by : (b : Bool) → (x.name == s) ≡ b → not (list_any (λ k. k == x.name) names) ≡ true → length (filter (λ (x : StructDecl). x.name == s) xs) ≤ 1
        → length (if b then x ∷ filter (λ (x : StructDecl). x.name == s) xs else filter (λ (x : StructDecl). x.name == s) xs) ≤ 1
    by true q f h =
        let n = none-named s xs (not-true (list_any (λ k. k == s) names) (subst (λ t. not (list_any (λ k. k == t) names) ≡ true) (same-number x.name s q) f)) in
        omega (arith, n)
    by false q f h = h

single-told : (t : Trees) → is_single t ≡ true → Single t
single-told none e = absurd (true-false (sym e))
single-told (tree l c none) e = refl
single-told (tree l c (tree m d o)) e = absurd (true-false (sym e))

pub tests-tell : TestsTell
tests-tell V e =
    let a = right (is_declared_view V) _ e in
    let b = right (impls_are_determined V) _ a in
    let c = right (parameters_are_sorted V) _ b in
    let d = right (bounds_are_erased V) _ c in
    let g = right (bounds_lead_down V) _ d in
    let names = are_distinct (map (λ (x : StructDecl). x.name) V.structs) in
    let singles = list_all (λ (x : StructDecl). list_all is_single x.fields) V.structs in
    record {
      terms = left (is_declared_view V) _ e;
      determined = determined-told V (left (impls_are_determined V) _ a);
      sorted = left (parameters_are_sorted V) _ b;
      erased = erased-told V (left (bounds_are_erased V) _ c);
      rank = height_in V;
      acyclic = down-told V (left (bounds_lead_down V) _ d);
      one_struct = λ s. one-told s V.structs (left names singles g);
      one_field = λ x t i j. single-told t (member-each is_single x.fields t (member-each (λ (y : StructDecl). list_all is_single y.fields) V.structs x (right names singles g) i) j);
    }

pub core-is-declared-well : CoreIsDeclaredWell
core-is-declared-well = refl
