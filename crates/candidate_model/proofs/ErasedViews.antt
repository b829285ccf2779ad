-- By the view alone, and in every linked set that holds it, up to lifetimes, each solution of a goal is one by a candidate.
use Rattle.std.proofs.Common.{◌≡◌, ℕ, Bool, true, false, not, ◌&&◌, ◌||◌, ◌==◌, if◌then◌else◌, List, [], ◌∷◌, ◌++◌, map, refl, sym, ◌∙◌, ap, subst, Option, Some, None}
use Rattle.std.specs.List.{list_all, list_any}
use Rattle.type_terms.specs.Promised.Label.{Label, Sort, of_type, of_const, of_lifetime, dynamic, adt, ref, of_trait, principal, param, placeholder, infer, canonical, bound, predicate}
use Rattle.type_terms.specs.Promised.Label.{value}
use Rattle.type_terms.specs.Promised.Label.{static}
use Rattle.type_terms.specs.Promised.Trees.{Trees, none, tree, some_node, erase, erase_label}
use Rattle.type_terms.specs.Promised.Worlds.{World, CrateDecl, Reference, StructDecl, TraitDecl, ImplDecl, structs_named}
use Rattle.type_terms.specs.Promised.Erased.{erased_reference, erased_struct, erased_trait, erased_impl, erased_world}
use Rattle.type_terms.specs.Promised.Rules.{unsize, rules}
use Rattle.type_terms.specs.Promised.Proofs.{In}
use Rattle.type_terms.specs.Promised.Proofs.{HasElaboratedProof}
use Rattle.type_terms.specs.Promised.Answers.{written_in, is_undeclared}
use Rattle.type_terms.specs.Promised.Versions.{is_open_place}
use Rattle.type_terms.specs.Promised.Walks.{Met, local, entered, struct_leaf, open_place, other_leaf, struct_is, trait_is, is_home, dyn_met, visited, until_decisive, item_in, ends_local, is_known_in}
use Rattle.type_terms.proofs.Members.{here, there, in-map}
use Rattle.type_terms.proofs.ProofEntries.{map-in}
use Rattle.type_terms.proofs.NoHolds.{each-member}
use Rattle.type_terms.proofs.WorkedProofs.{needs-rule}
use Rattle.type_terms.proofs.Fitting.{child-shut, next-shut}
use Rattle.type_terms.proofs.Walking.{left, right, both}
use Rattle.type_terms.proofs.RenumberedRules.{any-over}
use Rattle.type_terms.proofs.TermRules.{filter-map}
use Rattle.infer_table.specs.Canonical.{CanonicalForm}
use Rattle.infer_table.specs.declared.canonical.CanonicalVarKind.{CanonicalVarKind}
use Rattle.type_terms.specs.Made.{terms, is_made}
use Rattle.goal_evaluator.specs.Lists.{SomeOf}
use Rattle.goal_evaluator.specs.Content.{Values}
use Rattle.goal_evaluator.specs.FrameTables.{kinds_known}
use Rattle.goal_evaluator.specs.Variables.{is_variable_over}
use Rattle.candidate_model.specs.Declared.{are_terms, are_references, is_declared_view, is_lifetime_parameter, BoundsAreErased, LeadDown}
use Rattle.candidate_model.specs.Facts.{reference_in}
use Rattle.candidate_model.specs.Determined.{ImplsAreDetermined}
use Rattle.candidate_model.specs.Meaning.{ViewMeaning, SolutionPlace, by_view, in_set, proved_in, proved_at, proved_alone}
use Rattle.candidate_model.specs.Knowing.{is_knowable}
use Rattle.candidate_model.specs.Lifetimes.{goal_gives_lifetimes}
use Rattle.candidate_model.specs.Solver.{has_placeholder, IsSolution}
use Rattle.candidate_model.specs.Asking.{GoalOverKinds, goal_over_kinds, asked_if, asked_with, all_known, are_clauses, begins_with_type, next_of, self_of, begins_unknown}
use Rattle.candidate_model.specs.Candidates.{is_this_param, unknowable}
use Rattle.candidate_model.specs.Cover.{SolutionsAreCandidates, SolutionsAloneAreCandidates, SolutionsAreByCandidates, SolvesEquations, all_candidates, goal_fact}
use Rattle.candidate_model.proofs.DeclaredParts.{header-declared, bound-declared}
use Rattle.candidate_model.proofs.Instances.{none-either}
use Rattle.candidate_model.proofs.ErasedTerms.{declared-stays, erased-lifetimes}
use Rattle.candidate_model.proofs.PlainRules.{is_wild, tame}
use Rattle.candidate_model.proofs.ErasedCandidates.{without_lifetimes, types-same, consts-same, unknowable-gives}
use Rattle.candidate_model.proofs.ErasedRows.{HeadsStay, struct-head, declared-head, label-stays, candidates-so}
use Rattle.candidate_model.proofs.HavingViews.{ProvesBy, SearchedThere}
use Rattle.candidate_model.proofs.NumberedViews.{proves-by, auto-of-struct}
use Rattle.candidate_model.proofs.ViewProofs.{leads-on, view-proves}
use Rattle.type_terms.specs.Promised.Renumbering.{HoldsView}
use Rattle.candidate_model.proofs.Solver.{view-rules, solutions-by-candidates}
use Rattle.type_terms.proofs.Matching.{or-false-left as no-left}
use Rattle.type_terms.proofs.BooleanBasics.{true-false}
use Rattle.type_terms.proofs.TermBasics.{if-same}

-- ---- the bounds of traits are up to lifetimes
stays : (t : Trees) → some_node is_wild t ≡ false → some_node is_lifetime_parameter t ≡ false → erase t ≡ t
stays none w p = refl
stays (tree l c o) w p =
    join (label-stays l (no-left (is_wild l) (some_node is_wild c) (no-left (is_wild l || some_node is_wild c) (some_node is_wild o) w))
    (no-left (is_lifetime_parameter l) (some_node is_lifetime_parameter c) (no-left (is_lifetime_parameter l || some_node is_lifetime_parameter c) (some_node is_lifetime_parameter o) p)))
    (stays c (child-shut is_wild l c o w) (child-shut is_lifetime_parameter l c o p)) (stays o (next-shut is_wild l c o w) (next-shut is_lifetime_parameter l c o p))
  where
    join : erase_label l ≡ l → erase c ≡ c → erase o ≡ o → tree (erase_label l) (erase c) (erase o) ≡ tree l c o
    join e f g = cc

map-stays : {A : Type 0} (f : A → A) (xs : List A) → ((x : A) → In x xs → f x ≡ x) → map f xs ≡ xs
map-stays f [] h = refl
map-stays f (x ∷ xs) h = join (h x (here x xs)) (map-stays f xs (λ y i. h y (there y x xs i)))
  where
    join : f x ≡ x → map f xs ≡ xs → f x ∷ map f xs ≡ x ∷ xs
    join e g = cc

module _ (V : World) (declared : is_declared_view V ≡ true) (erased : BoundsAreErased V) where
  reference-stays : (x : TraitDecl) → In x V.traits → (r : Reference) → In r x.bounds → erased_reference r ≡ r
  reference-stays x i r j = ap (λ t. record { trait = r.trait; args = t }) (stays r.args (tame r.args (bound-declared V declared x r i j)) (erased x r i j))

  trait-stays : (x : TraitDecl) → In x V.traits → erased_trait x ≡ x
  trait-stays x i =
      ap (λ bs. record { name = x.name; home = x.home; is_fundamental = x.is_fundamental; is_auto = x.is_auto; bounds = bs }) (map-stays erased_reference x.bounds (reference-stays x i))

  traits-stay : map erased_trait V.traits ≡ V.traits
  traits-stay = map-stays erased_trait V.traits trait-stays

  erased-is : (cs : List CrateDecl) → record (erased_world V) { crates = cs } ≡ without_lifetimes V cs
  erased-is cs = ap (λ ts. world ts) traits-stay
    where
      world : List TraitDecl → World
      world ts = record { crates = cs; structs = map erased_struct V.structs; traits = ts; impls = map erased_impl V.impls }

-- ---- what is read of names alone
module _ (V : World) (cs : List CrateDecl) where
  abbrev U : World
  U = without_lifetimes V cs

  struct-same : (p : StructDecl → Bool) → ((x : StructDecl) → p (erased_struct x) ≡ p x) → (s : ℕ) → struct_is p U s ≡ struct_is p V s
  struct-same p e s = ap (list_any p) (filter-map erased_struct (λ (x : StructDecl). x.name == s) (λ (x : StructDecl). x.name == s) (λ x. refl) V.structs) ∙ any-over erased_struct p p e (structs_named V s)

  undeclared-same : (l : Label) → is_undeclared U l ≡ is_undeclared V l
  undeclared-same (adt s) = ap not (struct-same (λ x. true) (λ x. refl) s)
  undeclared-same (predicate (of_trait t)) = refl
  undeclared-same l = refl

  nodes-undeclared : (t : Trees) → some_node (is_undeclared U) t ≡ some_node (is_undeclared V) t
  nodes-undeclared none = refl
  nodes-undeclared (tree l c o) =
      ap (λ b. b || some_node (is_undeclared U) c || some_node (is_undeclared U) o) (undeclared-same l) ∙ ap (λ b. is_undeclared V l || b || some_node (is_undeclared U) o) (nodes-undeclared c)
      ∙ ap (λ b. is_undeclared V l || some_node (is_undeclared V) c || b) (nodes-undeclared o)

  written-same : (r : Reference) → written_in U r ≡ written_in V r
  written-same r = ap (λ b. trait_is (λ _. true) V r.trait && not b) (nodes-undeclared r.args)

  with-same : (environment asks : Trees) (kinds : Option (List CanonicalVarKind)) → asked_with U environment asks kinds ≡ asked_with V environment asks kinds
  with-same environment (tree (predicate (of_trait t)) args none) (Some ks) =
      let own : GoalOverKinds = record { kinds = ks; environment = environment; reference = record { trait = t; args = args } } in
      ap (λ b. asked_if (b && (is_made (is_variable_over ks) terms args && ((begins_with_type args && (not (t == unsize) || begins_with_type (next_of args))) && are_clauses ks environment))) own) (written-same own.reference)
  with-same environment (tree (predicate (of_trait t)) args none) None = refl
  with-same environment asks kinds = refl

  asked-same : (f : CanonicalForm) → goal_over_kinds U f ≡ goal_over_kinds V f
  asked-same f = with-same f.goal.environment f.goal.predicate (all_known f.kinds)

  dyn-same : (d : Option ℕ) (c : Trees) → dyn_met U d c ≡ dyn_met V d c
  dyn-same d (tree (principal n t) c o) = refl
  dyn-same d none = refl
  dyn-same d (tree l c o) = refl

  visited-same : (d : Option ℕ) (t : Trees) → visited U d t ≡ visited V d t
  visited-same d none = refl
  visited-same d (tree (ref b) c o) = ap (λ z. z ++ visited U d o) (visited-same d c) ∙ ap (λ z. visited V d c ++ z) (visited-same d o)
  visited-same d (tree (adt s) c o) =
      ap (λ z. z ++ visited U d o)
      (if-same (struct_is (λ x. is_home d x.home) U s) (struct_is (λ x. is_home d x.home) V s) (struct_is (λ x. x.is_fundamental) U s) (struct_is (λ x. x.is_fundamental) V s) (visited U d c) (visited V d c) s
      (struct-same (λ x. is_home d x.home) (λ x. refl) s) (struct-same (λ x. x.is_fundamental) (λ x. refl) s) (visited-same d c))
      ∙ ap (λ z. (if struct_is (λ x. is_home d x.home) V s then local ∷ [] else if struct_is (λ x. x.is_fundamental) V s then entered s ∷ visited V d c else struct_leaf s ∷ []) ++ z) (visited-same d o)
  visited-same d (tree dynamic c o) = ap (λ z. z ++ visited U d o) (dyn-same d c) ∙ ap (λ z. dyn_met V d c ++ z) (visited-same d o)
  visited-same d (tree (param of_type i) c o) = ap (λ z. open_place ∷ z) (visited-same d o)
  visited-same d (tree (param of_const i) c o) = visited-same d o
  visited-same d (tree (param of_lifetime i) c o) = visited-same d o
  visited-same d (tree (placeholder of_type i) c o) = ap (λ z. open_place ∷ z) (visited-same d o)
  visited-same d (tree (placeholder of_const i) c o) = visited-same d o
  visited-same d (tree (placeholder of_lifetime i) c o) = visited-same d o
  visited-same d (tree (infer of_type i) c o) = ap (λ z. open_place ∷ z) (visited-same d o)
  visited-same d (tree (infer of_const i) c o) = visited-same d o
  visited-same d (tree (infer of_lifetime i) c o) = visited-same d o
  visited-same d (tree (canonical of_type i) c o) = ap (λ z. open_place ∷ z) (visited-same d o)
  visited-same d (tree (canonical of_const i) c o) = visited-same d o
  visited-same d (tree (canonical of_lifetime i) c o) = visited-same d o
  visited-same d (tree (bound of_type k i) c o) = ap (λ z. open_place ∷ z) (visited-same d o)
  visited-same d (tree (bound of_const k i) c o) = visited-same d o
  visited-same d (tree (bound of_lifetime k i) c o) = visited-same d o
  visited-same d (tree (value n) c o) = visited-same d o
  visited-same d (tree static c o) = visited-same d o
  visited-same d (tree l c o) = ap (λ z. other_leaf ∷ z) (visited-same d o)

  item-same : (x : Met) → item_in U x ≡ item_in V x
  item-same (struct_leaf s) = struct-same (λ x. true) (λ x. refl) s
  item-same (entered s) = struct-same (λ x. true) (λ x. refl) s
  item-same x = refl

  items-same : (xs : List Met) → list_all (item_in U) xs ≡ list_all (item_in V) xs
  items-same [] = refl
  items-same (x ∷ xs) = ap (λ b. b && list_all (item_in U) xs) (item-same x) ∙ ap (λ b. item_in V x && b) (items-same xs)

  known-same : (c : ℕ) (r : Reference) → is_known_in U c r ≡ is_known_in V c r
  known-same c r =
      ap (λ b. trait_is (λ _. true) V r.trait && (b && (trait_is (λ x. (x.home == c) || x.is_fundamental) V r.trait || ends_local (until_decisive (visited U (Some c) r.args)))))
      (items-same (until_decisive (visited U None r.args)) ∙ ap (λ z. list_all (item_in V) (until_decisive z)) (visited-same None r.args))
      ∙ ap (λ z. trait_is (λ _. true) V r.trait && (list_all (item_in V) (until_decisive (visited V None r.args)) && (trait_is (λ x. (x.home == c) || x.is_fundamental) V r.trait || ends_local (until_decisive z)))) (visited-same (Some c) r.args)

  knowable-same : (c : ℕ) (r : Reference) → is_knowable U c r ≡ is_knowable V c r
  knowable-same c r = ap (λ b. b && not (list_any is_open_place (visited U None r.args))) (known-same c r) ∙ ap (λ z. is_known_in V c r && not (list_any is_open_place z)) (visited-same None r.args)

  -- ---- what is declared
  module _ (declared : is_declared_view V ≡ true) where
    all-so : (ts : List Trees) → list_all are_terms ts ≡ true → list_all are_terms (map erase ts) ≡ true
    all-so [] h = refl
    all-so (t ∷ ts) h = both (are_terms (erase t)) (list_all are_terms (map erase ts)) (declared-stays t (left (are_terms t) (list_all are_terms ts) h)) (all-so ts (right (are_terms t) (list_all are_terms ts) h))

    references-so : (rs : List Reference) → are_references rs ≡ true → are_references (map erased_reference rs) ≡ true
    references-so [] h = refl
    references-so (r ∷ rs) h =
        both (are_terms (erase r.args)) (are_references (map erased_reference rs)) (declared-stays r.args (left (are_terms r.args) (are_references rs) h)) (references-so rs (right (are_terms r.args) (are_references rs) h))

    structs-so : (xs : List StructDecl) → list_all (λ (x : StructDecl). list_all are_terms x.fields) xs ≡ true → list_all (λ (x : StructDecl). list_all are_terms x.fields) (map erased_struct xs) ≡ true
    structs-so [] h = refl
    structs-so (x ∷ xs) h =
        both (list_all are_terms (map erase x.fields)) _ (all-so x.fields (left (list_all are_terms x.fields) (list_all (λ (y : StructDecl). list_all are_terms y.fields) xs) h))
        (structs-so xs (right (list_all are_terms x.fields) (list_all (λ (y : StructDecl). list_all are_terms y.fields) xs) h))

    impls-so : (xs : List ImplDecl) → list_all (λ (i : ImplDecl). are_terms i.header.args && are_references i.clauses) xs ≡ true
        → list_all (λ (i : ImplDecl). are_terms i.header.args && are_references i.clauses) (map erased_impl xs) ≡ true
    impls-so [] h = refl
    impls-so (x ∷ xs) h =
        let one = left (are_terms x.header.args && are_references x.clauses) (list_all (λ (i : ImplDecl). are_terms i.header.args && are_references i.clauses) xs) h in
        both (are_terms (erase x.header.args) && are_references (map erased_reference x.clauses)) _
        (both (are_terms (erase x.header.args)) (are_references (map erased_reference x.clauses)) (declared-stays x.header.args (left (are_terms x.header.args) (are_references x.clauses) one))
        (references-so x.clauses (right (are_terms x.header.args) (are_references x.clauses) one)))
        (impls-so xs (right (are_terms x.header.args && are_references x.clauses) (list_all (λ (i : ImplDecl). are_terms i.header.args && are_references i.clauses) xs) h))

    declared-so : is_declared_view U ≡ true
    declared-so =
        let later = right (list_all (λ (x : StructDecl). list_all are_terms x.fields) V.structs) (list_all (λ (x : TraitDecl). are_references x.bounds) V.traits && list_all (λ (i : ImplDecl). are_terms i.header.args && are_references i.clauses) V.impls) declared in
        both (list_all (λ (x : StructDecl). list_all are_terms x.fields) U.structs) _ (structs-so V.structs (left (list_all (λ (x : StructDecl). list_all are_terms x.fields) V.structs) _ declared))
        (both (list_all (λ (x : TraitDecl). are_references x.bounds) V.traits) _ (left (list_all (λ (x : TraitDecl). are_references x.bounds) V.traits) _ later) (impls-so V.impls (right (list_all (λ (x : TraitDecl). are_references x.bounds) V.traits) _ later)))

    headers-so : list_all (λ (i : ImplDecl). are_terms i.header.args) V.impls ≡ true
    headers-so = each-member (λ (i : ImplDecl). are_terms i.header.args) V.impls (λ i j. header-declared V declared i j)

  lifetime-param : (j : ℕ) (l : Label) → is_lifetime_parameter l ≡ false → is_this_param of_lifetime j l ≡ false
  lifetime-param j (param of_lifetime i) e = absurd (true-false e)
  lifetime-param j (param of_type i) e = refl
  lifetime-param j (param of_const i) e = refl
  lifetime-param j l e = refl

  no-lifetime : (j : ℕ) (t : Trees) → some_node is_lifetime_parameter t ≡ false → some_node (is_this_param of_lifetime j) t ≡ false
  no-lifetime j t e = none-either is_lifetime_parameter (is_this_param of_lifetime j) (lifetime-param j) t e

  determined-so : ImplsAreDetermined V → ImplsAreDetermined U
  determined-so determined i' r' j' k' s n e =
      let i = map-in erased_impl V.impls i' j' in
      let r = map-in erased_reference i.0.clauses r' (subst (λ (z : ImplDecl). In r' z.clauses) (sym i.2) k') in
      subst (λ (z : ImplDecl). some_node (is_this_param s n) z.header.args ≡ true) i.2 (one i.0 r.0 i.1 r.1 s (subst (λ (z : Reference). some_node (is_this_param s n) z.args ≡ true) (sym r.2) e))
    where
      one : (i : ImplDecl) (r : Reference) → In i V.impls → In r i.clauses → (s : Sort) → some_node (is_this_param s n) (erase r.args) ≡ true → some_node (is_this_param s n) (erase i.header.args) ≡ true
      one i r j k of_type f = types-same n i.header.args ∙ determined i r j k of_type n (sym (types-same n r.args) ∙ f)
      one i r j k of_const f = consts-same n i.header.args ∙ determined i r j k of_const n (sym (consts-same n r.args) ∙ f)
      one i r j k of_lifetime f = absurd (true-false (sym f ∙ no-lifetime n (erase r.args) (erased-lifetimes r.args)))

-- the same meaning without lifetimes
abbrev meaning_there : ViewMeaning → List CrateDecl → ViewMeaning
meaning_there m cs = record { view = without_lifetimes m.view cs; crate = m.crate; is_sound = m.is_sound }

-- where what has a proof follows by the view up to lifetimes
module _ (m : ViewMeaning) (declared : is_declared_view m.view ≡ true) (determined : ImplsAreDetermined m.view) (cs : List CrateDecl) (H : Reference → Type 0)
    (proves : ProvesBy (without_lifetimes m.view cs) m.crate H) (heads : HeadsStay m.view)
    (f : CanonicalForm) (a : GoalOverKinds) (e : goal_over_kinds m.view f ≡ Some a) (known : begins_unknown a.kinds (self_of a) ≡ false) (fits : goal_gives_lifetimes m.view a ≡ true) where
  abbrev Given : Values → Type 0
  Given v = (is_knowable m.view m.crate a.reference ≡ true → SomeOf (SolvesEquations H a.kinds v) (all_candidates m.view a)) × SolvesEquations H a.kinds v (unknowable m.view a)

  given-by : f.goal.environment ≡ none → has_placeholder (kinds_known f.kinds) ≡ false → (v : Values) → IsSolution H (goal_fact f v) → Given v
  given-by no_clauses no_placeholders v s =
      let searched : SearchedThere (meaning_there m cs) H f = record { linked = proves; no_clauses = no_clauses; no_placeholders = no_placeholders } in
      let found = solutions-by-candidates (meaning_there m cs) (declared-so m.view cs declared) (determined-so m.view cs determined) H f a (asked-same m.view cs f ∙ e) known searched v s in (
        λ k. candidates-so H m.view cs a v heads (headers-so m.view cs declared) fits (found.0 (knowable-same m.view cs m.crate a.reference ∙ k)),
        unknowable-gives H m.view cs a v found.1,
      )

-- ---- what has a proof by the view alone
module _ (m : ViewMeaning) (declared : is_declared_view m.view ≡ true) (determined : ImplsAreDetermined m.view) (erased : BoundsAreErased m.view) (rank : ℕ → ℕ) (down : LeadDown m.view rank) where
  -- each rule of the view is a candidate, also of a goal that is not knowable
  solutions-alone : SolutionsAloneAreCandidates m
  solutions-alone f a e known fits w v s =
      let cs = w.crates in
      let Alone = proved_alone m cs in
      let u = needs-rule (record (erased_world m.view) { crates = cs }) [] (reference_in (goal_fact f v)) s.proof in
      candidates-so Alone m.view cs a v (λ i j auto l. declared-head l i.header.args (header-declared m.view declared i j) (w.begin i j)) (headers-so m.view cs declared) fits
      (view-rules (meaning_there m cs) (declared-so m.view cs declared) (determined-so m.view cs determined) Alone f a (asked-same m.view cs f ∙ e) known
      (leads-on (without_lifetimes m.view cs) m.crate (declared-so m.view cs declared) rank down) w.no_placeholders v s u.0
      (subst (λ (X : World). In u.0 (rules X [] (reference_in (goal_fact f v)))) (erased-is m.view declared erased cs) u.1) u.2)

solutions-at : (m : ViewMeaning) → is_declared_view m.view ≡ true → ImplsAreDetermined m.view → BoundsAreErased m.view → (rank : ℕ → ℕ) → LeadDown m.view rank → SolutionsAreCandidates m
solutions-at m declared determined erased rank down f a e known fits w v s = by w.place s
  where
    by : (p : SolutionPlace m) → IsSolution (proved_at p) (goal_fact f v)
        → (is_knowable m.view m.crate a.reference ≡ true → SomeOf (SolvesEquations (proved_at p) a.kinds v) (all_candidates m.view a)) × SolvesEquations (proved_at p) a.kinds v (unknowable m.view a)
    by (by_view cs begin) s =
        let V = without_lifetimes m.view cs in
        given-by m declared determined cs (HasElaboratedProof (record (erased_world m.view) { crates = cs }) [])
        (subst (λ (X : World). ProvesBy V m.crate (HasElaboratedProof X [])) (sym (erased-is m.view declared erased cs)) (view-proves V m.crate (declared-so m.view cs declared) rank down))
        (λ i j auto l. declared-head l i.header.args (header-declared m.view declared i j) (begin i j))
        f a e known fits w.no_clauses w.no_placeholders v s
    by (in_set x) s =
        let cs = x.crates in
        let V = without_lifetimes m.view cs in
        let holds : HoldsView x.set (record { numbers = x.numbers; asker = m.crate; world = V })
        = subst (λ (X : World). HoldsView x.set (record { numbers = x.numbers; asker = m.crate; world = X })) (erased-is m.view declared erased cs) x.holds in
        given-by m declared determined cs (proved_in x) (proves-by m x V holds)
        (λ i j auto l. let y = auto-of-struct m x V holds (erased_impl i) (in-map erased_impl m.view.impls i j) auto in struct-head l i.header.args y.0 y.1 y.2 y.3)
        f a e known fits w.no_clauses w.no_placeholders v s

pub solutions-by : SolutionsAreByCandidates
solutions-by m declared determined erased rank down = (solutions-at m declared determined erased rank down, solutions-alone m declared determined erased rank down)
