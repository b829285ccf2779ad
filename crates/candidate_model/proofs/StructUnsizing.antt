-- `S<..>: Unsize<S<..>>`: a rule of an instance is a candidate.
use Rattle.std.proofs.Common.{◌≡◌, ℕ, zero, suc, Bool, true, false, ◌&&◌, ◌||◌, ◌==◌, if◌then◌else◌, List, [], ◌∷◌, ◌++◌, map, ◌⊎◌, inl, inr, refl, sym, ◌∙◌, ap, subst}
use Rattle.std.specs.List.{flat_map, list_all}
use Rattle.type_terms.specs.Promised.Label.{Label, adt}
use Rattle.type_terms.specs.Promised.Trees.{Trees, none, tree, ◌+++◌, some_node, instantiate}
use Rattle.type_terms.specs.Promised.Worlds.{World, Reference, StructDecl, ImplDecl, structs_named}
use Rattle.type_terms.specs.Codes.{same}
use Rattle.type_terms.specs.Promised.Rules.{Rule, row, unsize, unsize_struct, is_unsizing, some_unsizing, with_unsizing, last_unsizes, unsize_struct_rules}
use Rattle.type_terms.specs.Promised.Proofs.{In}
use Rattle.type_terms.specs.Promised.Answers.{is_open}
use Rattle.type_terms.proofs.Members.{in-nothing, in-cases, in-filter, in-flat}
use Rattle.type_terms.proofs.Matching.{same-sound}
use Rattle.type_terms.proofs.NoHolds.{member-each}
use Rattle.type_terms.proofs.OpenWorld.{was-true}
use Rattle.type_terms.proofs.Walking.{left, right}
use Rattle.goal_evaluator.specs.Lists.{Every, SomeOf}
use Rattle.goal_evaluator.specs.Instances.{read_with}
use Rattle.goal_evaluator.specs.Content.{Values, given}
use Rattle.candidate_model.specs.Declared.{are_terms, are_references, is_declared_view}
use Rattle.candidate_model.specs.Asking.{GoalOverKinds}
use Rattle.candidate_model.specs.Candidates.{Candidate, by_rule, all_equal, misc, if_so, unsize_by_struct, unsize_struct_of}
use Rattle.candidate_model.specs.Cover.{slots, SolvesEquations, Proved, read_reference}
use Rattle.candidate_model.proofs.Reading.{begins, read-append}
use Rattle.candidate_model.proofs.Instances.{is_bound, shut-unbound, read-unbound}
use Rattle.candidate_model.proofs.Impls.{pairwise}
use Rattle.candidate_model.proofs.Calls.{gives-equal, the-one}
use Rattle.candidate_model.proofs.ByView.{some-left, some-right}

module _ (xs : List Trees) where
  abbrev read : Trees → Trees
  read t = read_with (given xs) t

  -- which parameters are unsizing depends on the number of arguments alone
  pub some-read : (fs : List Trees) (k : ℕ) (t : Trees) → some_unsizing fs k (read t) ≡ some_unsizing fs k t
  some-read fs k none = refl
  some-read fs k (tree l c o) = let b = begins xs l c o in ap (some_unsizing fs k) b.before ∙ ap (λ z. is_unsizing fs k || z) (some-read fs (suc k) o)

  pub with-read : (fs : List Trees) (k : ℕ) (t s : Trees) → with_unsizing fs k (read t) (read s) ≡ read (with_unsizing fs k t s)
  with-read fs k none s = refl
  with-read fs k (tree l c o) none = let b = begins xs l c o in ap (λ z. with_unsizing fs k z none) b.before ∙ sym b.before
  with-read fs k (tree l c o) (tree m d p) =
      let b = begins xs l c o in
      let g = begins xs m d p in
      ap (λ z. with_unsizing fs k z (read (tree m d p))) b.before ∙ ap (λ z. with_unsizing fs k (tree b.label b.children (read o)) z) g.before ∙ by (is_unsizing fs k) (with-read fs (suc k) o p)
    where
      keep : (i : Label) (e q : Trees) → tree i e none +++ read q ≡ read (tree i e none +++ q) → tree i e none +++ read q ≡ read (tree i e none +++ q)
      keep i e q h = h

      one : (i : Label) (e q r : Trees) → (read q ≡ r) → let x = begins xs i e o in tree x.label x.children r ≡ read (tree i e q)
      one i e q r h =
          let x = begins xs i e o in
          let y = begins xs i e q in
          ap (λ z. tree x.label x.children z) (sym h) ∙ ap (λ z. z +++ read q) (sym x.alone ∙ y.alone) ∙ sym y.before

      two : (i : Label) (e q r : Trees) → (read q ≡ r) → let x = begins xs i e p in tree x.label x.children r ≡ read (tree i e q)
      two i e q r h =
          let x = begins xs i e p in
          let y = begins xs i e q in
          ap (λ z. tree x.label x.children z) (sym h) ∙ ap (λ z. z +++ read q) (sym x.alone ∙ y.alone) ∙ sym y.before

      by : (q : Bool) → with_unsizing fs (suc k) (read o) (read p) ≡ read (with_unsizing fs (suc k) o p)
          → (let b = begins xs l c o in let g = begins xs m d p in
          if q then tree g.label g.children (with_unsizing fs (suc k) (read o) (read p)) else tree b.label b.children (with_unsizing fs (suc k) (read o) (read p)))
          ≡ read (if q then tree m d (with_unsizing fs (suc k) o p) else tree l c (with_unsizing fs (suc k) o p))
      by true h = two m d (with_unsizing fs (suc k) o p) (with_unsizing fs (suc k) (read o) (read p)) (sym h)
      by false h = one l c (with_unsizing fs (suc k) o p) (with_unsizing fs (suc k) (read o) (read p)) (sym h)

  pub last-unbound : (fs : List Trees) → list_all are_terms fs ≡ true → (t s : Trees) → some_node is_bound (read t) ≡ false → some_node is_bound (read s) ≡ false → last_unsizes fs (read t) (read s) ≡ map (read_reference xs) (last_unsizes fs t s)
  last-unbound [] e t s h g = refl
  last-unbound (f ∷ []) e t s h g =
      let d = left (are_terms f) true e in
      ap (λ z. record { trait = unsize; args = z +++ instantiate zero (read s) f } ∷ []) (sym (read-unbound xs t h f d))
      ∙ ap (λ z. record { trait = unsize; args = read (instantiate zero t f) +++ z } ∷ []) (sym (read-unbound xs s g f d))
      ∙ ap (λ z. record { trait = unsize; args = z } ∷ []) (sym (read-append xs (instantiate zero t f) (instantiate zero s f)))
  last-unbound (f ∷ f' ∷ fs) e t s h g = last-unbound (f' ∷ fs) (right (are_terms f) (list_all are_terms (f' ∷ fs)) e) t s h g

  last-read : (fs : List Trees) → list_all are_terms fs ≡ true → (t s : Trees) → some_node is_open (read t) ≡ false → some_node is_open (read s) ≡ false → last_unsizes fs (read t) (read s) ≡ map (read_reference xs) (last_unsizes fs t s)
  last-read fs e t s h g = last-unbound fs e t s (shut-unbound (read t) h) (shut-unbound (read s) g)

module _ (H : Reference → Type 0) (V : World) (declared : is_declared_view V ≡ true) (a : GoalOverKinds) (v : Values) where
  abbrev ys : List Trees
  ys = slots a.kinds v []

  fields-declared : (x : StructDecl) → In x V.structs → list_all are_terms x.fields ≡ true
  fields-declared x i =
      member-each (λ (y : StructDecl). list_all are_terms y.fields) V.structs x
      (left (list_all (λ (y : StructDecl). list_all are_terms y.fields) V.structs)
      (list_all (λ y. are_references y.bounds) V.traits && list_all (λ (j : ImplDecl). are_terms j.header.args && are_references j.clauses) V.impls) declared) i

  some-flat : (f : StructDecl → List Candidate) (zs : List StructDecl) (x : StructDecl) → In x zs → SomeOf (SolvesEquations H a.kinds v) (f x) → SomeOf (SolvesEquations H a.kinds v) (flat_map f zs)
  some-flat f [] x i s = absurd (in-nothing x i)
  some-flat f (z ∷ zs) x i s = by (in-cases x z zs i) (λ j. some-flat f zs x j s)
    where
      by : (z ≡ x) ⊎ In x zs → (In x zs → SomeOf (SolvesEquations H a.kinds v) (flat_map f zs)) → SomeOf (SolvesEquations H a.kinds v) (f z ++ flat_map f zs)
      by (inl e) go = some-left (SolvesEquations H a.kinds v) (f z) (flat_map f zs) (subst (λ w. SomeOf (SolvesEquations H a.kinds v) (f w)) (sym e) s)
      by (inr j) go = some-right (SolvesEquations H a.kinds v) (f z) (flat_map f zs) (go j)

  by-struct : (x : StructDecl) → In x V.structs → (c d : Trees) → some_node is_open (read_with (given ys) c) ≡ false → some_node is_open (read_with (given ys) d) ≡ false → (u : Rule)
      → In u (if some_unsizing x.fields 0 (read_with (given ys) c) && same (with_unsizing x.fields 0 (read_with (given ys) c) (read_with (given ys) d)) (read_with (given ys) d) then row unsize_struct (last_unsizes x.fields (read_with (given ys) c) (read_with (given ys) d)) else [])
      → Every (Proved H) u.premises → SomeOf (SolvesEquations H a.kinds v) (unsize_by_struct V a c d x)
  by-struct x j c d h g u i e =
      subst (λ b. SomeOf (SolvesEquations H a.kinds v) (if_so b (by_rule V a misc (all_equal (with_unsizing x.fields 0 c d) d) (last_unsizes x.fields c d) ∷ []))) (sym some)
      (inl (gives-equal H V a v misc (all_equal (with_unsizing x.fields 0 c d) d) (last_unsizes x.fields c d) (pairwise ys (with_unsizing x.fields 0 c d) d equal)
      (subst (Every (Proved H)) (sym (ap (λ (z : Rule). z.premises) (the-one H V a v _ u w.1)) ∙ last-read ys x.fields (fields-declared x j) c d h g) e)))
    where
      w : (some_unsizing x.fields 0 (read_with (given ys) c) && same (with_unsizing x.fields 0 (read_with (given ys) c) (read_with (given ys) d)) (read_with (given ys) d) ≡ true)
          × In u (row unsize_struct (last_unsizes x.fields (read_with (given ys) c) (read_with (given ys) d)))
      w = was-true _ _ u i

      some : some_unsizing x.fields 0 c ≡ true
      some = sym (some-read ys x.fields 0 c) ∙ left (some_unsizing x.fields 0 (read_with (given ys) c)) _ w.0

      equal : read_with (given ys) (with_unsizing x.fields 0 c d) ≡ read_with (given ys) d
      equal =
          sym (with-read ys x.fields 0 c d)
          ∙ same-sound (with_unsizing x.fields 0 (read_with (given ys) c) (read_with (given ys) d)) (read_with (given ys) d) (right (some_unsizing x.fields 0 (read_with (given ys) c)) _ w.0)

  -- the row of structs
  pub structs-at : (k : Label) (c : Trees) (s : ℕ) (d o : Trees) → some_node is_open (read_with (given ys) c) ≡ false → some_node is_open (read_with (given ys) d) ≡ false → (u : Rule)
      → In u (unsize_struct_rules V (tree k (read_with (given ys) c) (tree (adt s) (read_with (given ys) d) (read_with (given ys) o)))) → Every (Proved H) u.premises
      → SomeOf (SolvesEquations H a.kinds v) (unsize_struct_of V a (tree k c (tree (adt s) d o)))
  structs-at (adt r) c s d o h g u i e = by (r == s) i
    where
      make : StructDecl → List Rule
      make x = if some_unsizing x.fields 0 (read_with (given ys) c) && same (with_unsizing x.fields 0 (read_with (given ys) c) (read_with (given ys) d)) (read_with (given ys) d) then row unsize_struct (last_unsizes x.fields (read_with (given ys) c) (read_with (given ys) d)) else []

      by : (b : Bool) → In u (if b then flat_map make (structs_named V r) else []) → SomeOf (SolvesEquations H a.kinds v) (if_so b (flat_map (unsize_by_struct V a c d) (structs_named V r)))
      by false j = absurd (in-nothing u j)
      by true j =
          let m = in-flat make (structs_named V r) u j in
          some-flat (unsize_by_struct V a c d) (structs_named V r) m.0 m.1 (by-struct m.0 (in-filter (λ (y : StructDecl). y.name == r) V.structs m.0 m.1).0 c d h g u m.2 e)
  structs-at k c s d o h g u i e = absurd (in-nothing u i)

  -- another target has no such rule
  pub structs-other : (k : Label) (c : Trees) (m : Label) (d p : Trees) (u : Rule) → In u (unsize_struct_rules V (tree k c (tree m d p))) → (s : ℕ) × (m ≡ adt s)
  structs-other (adt r) c (adt s) d p u i = (s, refl)
  structs-other (adt r) c m d p u i = absurd (in-nothing u i)
  structs-other k c m d p u i = absurd (in-nothing u i)
