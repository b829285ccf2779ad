-- Goals under what is assumed hold the variables of the context alone.
use Rattle.std.proofs.Common.{◌≡◌, ◌∙◌, ◌<◌, ◌≤◌, ◌+◌, ◌==◌, ℕ, zero, suc, Bool, true, false, if◌then◌else◌, cond, refl, sym, ap, subst, List, [], ◌∷◌, ◌++◌, map, filter, get_or, length, take, Some, slice_get, Result, Ok, Err}
use Rattle.std.specs.List.{flat_map, list_all}
use Rattle.std.specs.Prelude.{IfErr}
use Rattle.type_terms.specs.Made.{Standing, terms, bounds, traits, is_made}
use Rattle.type_terms.specs.Promised.Answers.{is_variable}
use Rattle.type_terms.specs.Promised.Handles.{ArgHeld, ArgsHeld, Entry, Keeps, arg_trees}
use Rattle.type_terms.specs.Promised.Label.{Sort, dynamic, principal, auto_trait, of_trait, predicate, infer, canonical}
use Rattle.type_terms.specs.Promised.Rules.{written_supertraits}
use Rattle.type_terms.specs.Promised.Trees.{Trees, none, tree, some_node, ◌+++◌}
use Rattle.type_terms.specs.Promised.Worlds.{World, Reference, StructDecl, TraitDecl, all_with_args}
use Rattle.type_terms.specs.Trees.{is_no_tree}
use Rattle.type_terms.specs.declared.kinds.GenericArgKind.{GenericArgKind}
use Rattle.term_folds.specs.declared.predicate.TraitRef.{TraitRef}
use Rattle.type_terms.specs.Kept.{arg-trees-later}
use Rattle.type_terms.specs.Kinds.{args_trees}
use Rattle.declarations.specs.Applied.{TraitRefsHeld, references_in}
use Rattle.declarations.specs.Held.{ReferenceHeld}
use Rattle.declarations.specs.Items.{reference_in, written}
use Rattle.sessions.proofs.HandedOn.{reference-later}
use Rattle.session_inference.proofs.Lists.{map-push, take-all}
use Rattle.type_terms.proofs.Items.{take-push}
use Rattle.type_terms.proofs.BooleanBasics.{none-of}
use Rattle.type_terms.proofs.ListBasics.{first-same, rest-same}
use Rattle.type_terms.proofs.Made.{false-true, last-bound, last-trait, left, made-ordinary, never-dynamic, never-dynamic-bound, never-principal, no-tree, right}
use Rattle.declarations.specs.Promised.Elaboration.{Each, elaborate, is_put, new_of, off_stack, pushed}
use Rattle.candidate_model.specs.Declared.{are_references, are_terms, is_declared_leaf, is_declared_view}
use Rattle.candidate_model.specs.Facts.{trees_of_clauses}
use Rattle.overlap_check.proofs.Owning.{AreOwn, own-append}
use Rattle.overlap_check.proofs.Posed.{put-own}
use Rattle.inference.specs.Inferring.{GoalIsOver}
use Rattle.inference.proofs.Owned.{over, own}
use Rattle.candidate_assembly.specs.declared.solver.Solver.{Solver}
use Rattle.candidate_model.specs.DeclaredWell.{is_declared_well}
use Rattle.sessions.proofs.ShortCalls.{HoldsAs}
use Rattle.sessions.specs.Proving.{SolverAdvances, SolverIsReady}
use Rattle.sessions.specs.Promised.Subjects.{Subject}
use Rattle.solver_graph.specs.Contexts.{entries_of}
use Rattle.candidate_assembly.specs.Kept.{solving-kept}
use Rattle.candidate_assembly.specs.Solving.{Solving}
use Rattle.solver_graph.specs.declared.context.SolverCx.{SolverCx}
use Rattle.type_terms.specs.declared.Fault.TheVariants.{Full}
use Rattle.session_inference.specs.Assuming.{FullInGoal, bound_over, bounds_over, goal_by, terms_over, trees_of_term}
use Rattle.session_inference.specs.Contexts.{AreTermsOver, FailsAtLimit}
use Rattle.session_inference.specs.declared.error.InferenceError.{InferenceError}
use Rattle.session_inference.specs.declared.error.InferenceError.TheVariants as error
use Rattle.session_inference.proofs.Contexts.{full-of}
use Rattle.session_inference.specs.declared.assumption.Assumption.{Assumption}
use Rattle.session_inference.specs.declared.term_id.TermId.{TermId}

-- ---- nothing that is declared holds variables
nothing-below : (t : Trees) → t ≡ none → some_node is_variable t ≡ false
nothing-below t e = subst (λ (x : Trees). some_node is_variable x ≡ false) (sym e) refl

none-varies : (m : Standing) (t : Trees) → is_made is_declared_leaf m t ≡ true → some_node is_variable t ≡ false
none-varies m none h = refl
none-varies terms (tree dynamic c o) h =
    none-of false (some_node is_variable c) (some_node is_variable o) refl
    (none-varies bounds c (left (is_made is_declared_leaf bounds c) _ h)) (none-varies terms o (right (is_made is_declared_leaf bounds c) _ h))
none-varies terms (tree (principal n t) c o) h = absurd (false-true h)
none-varies terms (tree (auto_trait n) c o) h = absurd (false-true h)
none-varies terms (tree (predicate k) c o) h = absurd (false-true h)
none-varies terms (tree (infer s i) c o) h = absurd (false-true h)
none-varies terms (tree (canonical s i) c o) h = absurd (false-true h)
none-varies terms (tree l c o) h =
    let x = made-ordinary is_declared_leaf l c o refl h in
    none-of (is_variable l) (some_node is_variable c) (some_node is_variable o) refl (none-varies terms c x.2) (none-varies terms o x.3)
none-varies bounds (tree (principal n t) c o) h =
    none-of false (some_node is_variable c) (some_node is_variable o) refl
    (none-varies terms c (left (is_made is_declared_leaf terms c) _ h)) (none-varies traits o (right (is_made is_declared_leaf terms c) _ h))
none-varies bounds (tree (auto_trait n) c o) h =
    none-of false (some_node is_variable c) (some_node is_variable o) refl (nothing-below c (no-tree c (left (is_no_tree c) _ h))) (none-varies traits o (right (is_no_tree c) _ h))
none-varies bounds (tree (predicate k) c o) h = absurd (false-true h)
none-varies bounds (tree (infer s i) c o) h = absurd (false-true h)
none-varies bounds (tree (canonical s i) c o) h = absurd (false-true h)
none-varies bounds (tree dynamic c o) h = absurd (never-dynamic-bound is_declared_leaf c o h)
none-varies bounds (tree l c o) h =
    let x = last-bound is_declared_leaf l c o refl h in none-of (is_variable l) (some_node is_variable c) (some_node is_variable o) refl (nothing-below c x.children) (nothing-below o x.rest)
none-varies traits (tree (auto_trait n) c o) h =
    none-of false (some_node is_variable c) (some_node is_variable o) refl (nothing-below c (no-tree c (left (is_no_tree c) _ h))) (none-varies traits o (right (is_no_tree c) _ h))
none-varies traits (tree (predicate k) c o) h = absurd (false-true h)
none-varies traits (tree (infer s i) c o) h = absurd (false-true h)
none-varies traits (tree (canonical s i) c o) h = absurd (false-true h)
none-varies traits (tree (principal n t) c o) h = absurd (never-principal is_declared_leaf n t c o h)
none-varies traits (tree dynamic c o) h = absurd (never-dynamic is_declared_leaf c o h)
none-varies traits (tree l c o) h =
    let x = last-trait is_declared_leaf l c o refl h in none-of (is_variable l) (some_node is_variable c) (some_node is_variable o) refl (nothing-below c x.children) (nothing-below o x.rest)

module _ (n : Sort → ℕ) where
  -- ---- lists of trait references
  abbrev AllOwn : List Reference → Type 0
  AllOwn rs = Each (λ (r : Reference). AreOwn n r.args) rs

  all-append : (xs ys : List Reference) → AllOwn xs → AllOwn ys → AllOwn (xs ++ ys)
  all-append [] ys h g = g
  all-append (x ∷ xs) ys h g = (h.0, all-append xs ys h.1 g)

  new-own : (before rs : List Reference) → AllOwn rs → AllOwn (new_of before rs)
  new-own before [] h = tt
  new-own before (r ∷ rs) h = by (is_put r before) (new-own before rs h.1) (new-own (r ∷ before) rs h.1)
    where
      by : (b : Bool) → AllOwn (new_of before rs) → AllOwn (new_of (r ∷ before) rs) → AllOwn (if b then new_of before rs else r ∷ new_of (r ∷ before) rs)
      by true x y = x
      by false x y = (h.0, y)

  pushed-own : (rs stack : List Reference) → AllOwn rs → AllOwn stack → AllOwn (pushed rs stack)
  pushed-own [] stack h g = g
  pushed-own (r ∷ rs) stack h g = pushed-own rs (r ∷ stack) h.1 (h.0, g)

  clauses-own : (rs : List Reference) → AllOwn rs → AreOwn n (trees_of_clauses rs)
  clauses-own [] h = tt
  clauses-own (r ∷ rs) h = (tt, h.0, clauses-own rs h.1)

  -- ---- their supertraits
  bounds-own : (A : Trees) → AreOwn n A → (bs : List Reference) → are_references bs ≡ true → AllOwn (all_with_args A bs)
  bounds-own A h [] e = tt
  bounds-own A h (b ∷ bs) e = (
    put-own n A h zero b.args (none-varies terms b.args (left (is_made is_declared_leaf terms b.args) _ (left (are_terms b.args) (are_references bs) e))),
    bounds-own A h bs (right (are_terms b.args) (are_references bs) e),
  )

  named-own : (A : Trees) → AreOwn n A → (t : ℕ) (xs : List TraitDecl) → list_all (λ (x : TraitDecl). are_references x.bounds) xs ≡ true
      → AllOwn (flat_map (λ (x : TraitDecl). all_with_args A x.bounds) (filter (λ (x : TraitDecl). x.name == t) xs))
  named-own A h t [] e = tt
  named-own A h t (x ∷ xs) e = by (x.name == t) (named-own A h t xs (right (are_references x.bounds) (list_all (λ (y : TraitDecl). are_references y.bounds) xs) e))
    where
      by : (b : Bool) → AllOwn (flat_map (λ (y : TraitDecl). all_with_args A y.bounds) (filter (λ (y : TraitDecl). y.name == t) xs))
          → AllOwn (flat_map (λ (y : TraitDecl). all_with_args A y.bounds) (cond b (x ∷ filter (λ (y : TraitDecl). y.name == t) xs) (filter (λ (y : TraitDecl). y.name == t) xs)))
      by true later =
          all-append (all_with_args A x.bounds) (flat_map (λ (y : TraitDecl). all_with_args A y.bounds) (filter (λ (y : TraitDecl). y.name == t) xs))
          (bounds-own A h x.bounds (left (are_references x.bounds) (list_all (λ (y : TraitDecl). are_references y.bounds) xs) e)) later
      by false later = later

  module _ (V : World) (declared : is_declared_view V ≡ true) where
    written-own : (r : Reference) → AreOwn n r.args → AllOwn (written_supertraits V r)
    written-own r h =
        named-own r.args h r.trait V.traits
        (left (list_all (λ (x : TraitDecl). are_references x.bounds) V.traits) _ (right (list_all (λ (x : StructDecl). list_all are_terms x.fields) V.structs) _ declared))

    off-own : (k : ℕ) (before stack : List Reference) → AllOwn stack → AllOwn (off_stack k V before stack)
    off-own zero before stack h = tt
    off-own (suc k) before [] h = tt
    off-own (suc k) before (r ∷ stack) h =
        let next = new_of before (written_supertraits V r) in
        (h.0, off-own k (next ++ before) (pushed next stack) (pushed-own next stack (new-own before (written_supertraits V r) (written-own r h.0)) h.1))

    elaborated-own : (rs : List Reference) → AllOwn rs → AllOwn (elaborate V rs)
    elaborated-own rs h = off-own _ (new_of [] rs) (pushed (new_of [] rs) []) (pushed-own (new_of [] rs) [] (new-own [] rs h) tt)

    -- ---- terms by their numbers
    module _ (es : List Entry) (ts : List GenericArgKind) (all : AreTermsOver es n ts) where
      place-own : (xs : List GenericArgKind) → AreTermsOver es n xs → (i : ℕ) → AreOwn n (trees_of_term es (slice_get xs i))
      place-own [] h i = tt
      place-own (a ∷ xs) h zero = own n (arg_trees es a) h.0.1.0 h.0.1.1
      place-own (a ∷ xs) h (suc i) = place-own xs h.1 i

      terms-own : (ids : List TermId) → AreOwn n (terms_over es ts ids)
      terms-own [] = tt
      terms-own (id ∷ ids) = own-append n (trees_of_term es (slice_get ts id.index)) (terms_over es ts ids) (place-own ts all id.index) (terms-own ids)

      assumed-own : (qs : List Assumption) → AllOwn (bounds_over es ts qs)
      assumed-own [] = tt
      assumed-own (a ∷ qs) = (terms-own a.args.items, assumed-own qs)

      pub goal-over : (qs : List Assumption) (t : ℕ) (ids : List TermId) → GoalIsOver n (goal_by V es ts qs t ids)
      goal-over qs t ids = record {
        environment = over n (trees_of_clauses (elaborate V (bounds_over es ts qs))) (clauses-own (elaborate V (bounds_over es ts qs)) (elaborated-own (bounds_over es ts qs) (assumed-own qs)));
        predicate = over n (tree (predicate (of_trait t)) (terms_over es ts ids) none) (tt, terms-own ids, tt);
      }

-- ---- terms that are found are held
pub there-held : (es : List Entry) (ts : List GenericArgKind) → ArgsHeld es ts → (ids : List TermId) (xs : List GenericArgKind) → map (λ (id : TermId). slice_get ts id.index) ids ≡ map Some xs → ArgsHeld es xs
there-held es ts h [] [] e = tt
there-held es ts h [] (x ∷ xs) e = absurd cc
there-held es ts h (id ∷ ids) [] e = absurd cc
there-held es ts h (id ∷ ids) (x ∷ xs) e = (found ts h id.index (first-same _ _ _ _ e), there-held es ts h ids xs (rest-same _ _ _ _ e))
  where
    found : (ys : List GenericArgKind) → ArgsHeld es ys → (i : ℕ) → slice_get ys i ≡ Some x → ArgHeld es x
    found [] g i q = absurd cc
    found (y ∷ ys) g zero q = let same : y ≡ x = cc in subst (ArgHeld es) same g.0
    found (y ∷ ys) g (suc i) q = found ys g.1 i q

pub terms-found : (es : List Entry) (ts : List GenericArgKind) (ids : List TermId) (xs : List GenericArgKind) → map (λ (id : TermId). slice_get ts id.index) ids ≡ map Some xs → terms_over es ts ids ≡ args_trees es xs
terms-found es ts [] [] e = refl
terms-found es ts [] (x ∷ xs) e = absurd cc
terms-found es ts (id ∷ ids) [] e = absurd cc
terms-found es ts (id ∷ ids) (x ∷ xs) e = both (ap (trees_of_term es) (first-same _ _ _ _ e)) (terms-found es ts ids xs (rest-same _ _ _ _ e))
  where
    both : {a b c d : Trees} → a ≡ b → c ≡ d → a +++ c ≡ b +++ d
    both p q = cc

-- ---- as the interner grows
module _ (old new : List Entry) (k : Keeps old new) where
  term-later : (ts : List GenericArgKind) → ArgsHeld old ts → (i : ℕ) → trees_of_term new (slice_get ts i) ≡ trees_of_term old (slice_get ts i)
  term-later [] h i = refl
  term-later (a ∷ ts) h zero = arg-trees-later old new k a h.0
  term-later (a ∷ ts) h (suc i) = term-later ts h.1 i

  terms-later : (ts : List GenericArgKind) → ArgsHeld old ts → (ids : List TermId) → terms_over new ts ids ≡ terms_over old ts ids
  terms-later ts h [] = refl
  terms-later ts h (id ∷ ids) = both (term-later ts h id.index) (terms-later ts h ids)
    where
      both : {a b c d : Trees} → a ≡ b → c ≡ d → a +++ c ≡ b +++ d
      both p q = cc

  pub bound-later : (ts : List GenericArgKind) → ArgsHeld old ts → (t : ℕ) (ids : List TermId) → bound_over new ts t ids ≡ bound_over old ts t ids
  bound-later ts h t ids = ap (λ z. (let r : Reference = record { trait = t; args = z } in r)) (terms-later ts h ids)

  references-same : (rs : List TraitRef) → TraitRefsHeld old rs → references_in new rs ≡ references_in old rs
  references-same [] h = refl
  references-same (r ∷ rs) h = both (reference-later old new k r h.0) (references-same rs h.1)
    where
      both : {a b : Reference} {xs ys : List Reference} → a ≡ b → xs ≡ ys → a ∷ xs ≡ b ∷ ys
      both p q = cc

  pub bounds-later : (ts : List GenericArgKind) → ArgsHeld old ts → (qs : List Assumption) → bounds_over new ts qs ≡ bounds_over old ts qs
  bounds-later ts h [] = refl
  bounds-later ts h (q ∷ qs) = both (bound-later ts h q.trait_id.index q.args.items) (bounds-later ts h qs)
    where
      both : {a b : Reference} {xs ys : List Reference} → a ≡ b → xs ≡ ys → a ∷ xs ≡ b ∷ ys
      both p q = cc

-- what is declared stays
pub written-same : (x y : SolverCx Solver) → SolverIsReady x → SolverAdvances x y → written (entries_of y) y.handler.declarations ≡ written (entries_of x) x.handler.declarations
written-same x y ready a =
    subst (λ (h : Solver). written (entries_of y) h.declarations ≡ written (entries_of x) x.handler.declarations) (sym a.handler)
    (ap (λ (s : Solving). s.view) (solving-kept x.handler.declarations (entries_of x) (entries_of y) a.entries ready.handler))

-- a context advances to itself
pub advances-itself : (x : SolverCx Solver) → SolverIsReady x → SolverAdvances x x
advances-itself x ready = record {
  handler = refl;
  entries = λ i e h. h;
  store = record { inputs = λ i a e. e; responses = λ i r e. e };
  ready = ready;
  limits = record { terms = refl; kept = refl };
}

-- ---- one assumption after the other
pub refs-added : (es : List Entry) (rs : List TraitRef) (r : TraitRef) → TraitRefsHeld es rs → ReferenceHeld es r → TraitRefsHeld es (rs ++ r ∷ [])
refs-added es [] r h x = (x, tt)
refs-added es (s ∷ rs) r h x = (h.0, refs-added es rs r h.1 x)

pub assumed-more : (first now new : List Entry) → Keeps first now → Keeps now new → (ts : List GenericArgKind) → ArgsHeld first ts → (rs : List TraitRef) → TraitRefsHeld now rs → (r : TraitRef) (qs : List Assumption) (i : ℕ) (d : Assumption)
    → i < length qs → references_in now rs ≡ bounds_over first ts (take i qs) → reference_in new r ≡ bound_over now ts (get_or qs i d).trait_id.index (get_or qs i d).args.items
    → references_in new (rs ++ r ∷ []) ≡ bounds_over first ts (take (i + 1) qs)
assumed-more first now new a b ts h rs held r qs i d lt inv at =
    map-push (reference_in new) rs r
    ∙ both (references-same now new b rs held ∙ inv) (at ∙ bound-later first now a ts h (get_or qs i d).trait_id.index (get_or qs i d).args.items)
    ∙ sym (map-push (λ (q : Assumption). bound_over first ts q.trait_id.index q.args.items) (take i qs) (get_or qs i d))
    ∙ sym (ap (bounds_over first ts) (take-push qs i d lt))
  where
    both : {xs ys : List Reference} {x y : Reference} → xs ≡ ys → x ≡ y → xs ++ x ∷ [] ≡ ys ++ y ∷ []
    both p q = cc

pub assumed-all : (es fs : List Entry) (ts : List GenericArgKind) (rs : List TraitRef) (qs : List Assumption) (i : ℕ) → length qs ≤ i → references_in fs rs ≡ bounds_over es ts (take i qs) → references_in fs rs ≡ bounds_over es ts qs
assumed-all es fs ts rs qs i le inv = inv ∙ ap (bounds_over es ts) (take-all i qs le)

-- ---- what a session says
pub view-declared : (V : World) → is_declared_well V ≡ true → is_declared_view V ≡ true
view-declared V h = left (is_declared_view V) _ h

pub goal-at-limit : {T : Type 0} (s : Subject) (x : SolverCx Solver) → HoldsAs x s → (r : Result T InferenceError) → IfErr r (FullInGoal x.interner) → IfErr r (FailsAtLimit s)
goal-at-limit s x h (Ok y) p = tt
goal-at-limit s x h (Err (error.Fault f)) p = λ q. let same : f ≡ Full = cc in full-of s x h (p same)
goal-at-limit s x h (Err error.NoSuchTerm) p = λ q. absurd cc
goal-at-limit s x h (Err error.WrongParts) p = λ q. absurd cc
goal-at-limit s x h (Err error.NoSolution) p = λ q. absurd cc
