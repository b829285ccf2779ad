-- The rule instances of facts are those of their trait references.
use Rattle.std.proofs.Common.{◌≡◌, ℕ, Bool, true, false, not, ◌&&◌, ◌||◌, if◌then◌else◌, List, [], ◌∷◌, ◌++◌, map, refl, sym, ◌∙◌, ap, None}
use Rattle.std.specs.List.{list_any}
use Rattle.type_terms.specs.Promised.Label.{adt, ref, dynamic, principal, param, placeholder, infer, canonical, bound}
use Rattle.type_terms.specs.Promised.Trees.{Trees, none, tree, some_node}
use Rattle.type_terms.specs.Promised.Worlds.{World, Reference}
use Rattle.type_terms.specs.Promised.Walks.{Met, local, struct_leaf, entered, visited, dyn_met, struct_is, trait_is, is_home, is_known_in, dyn_leaf}
use Rattle.type_terms.specs.Promised.Rules.{strict_supertraits}
use Rattle.type_terms.specs.Promised.Answers.{is_open, is_closed}
use Rattle.type_terms.specs.Promised.Versions.{is_open_place}
use Rattle.type_terms.proofs.Fitting.{child-shut, next-shut}
use Rattle.type_terms.proofs.Made.{false-true}
use Rattle.goal_evaluator.specs.Content.{Fact}
use Rattle.candidate_model.specs.Facts.{clauses_of, reference_in, beside}
use Rattle.candidate_model.specs.Knowing.{is_knowable}
use Rattle.candidate_model.proofs.Supers.{open-none}
use Rattle.solver_completeness.specs.ModelWays.{ways_under}
use Rattle.solver_completeness.specs.SolverWays.{facts_beside}
use Rattle.solver_completeness.specs.ReadBack.{read_back, OutsideComesBack, CoherenceComesBack}

-- ---- what stands beside a fact is read back
references-back : (f : Fact) (ps : List Reference) → map reference_in (map (beside f) ps) ≡ ps
references-back f [] = refl
references-back f (p ∷ ps) = ap (λ z. p ∷ z) (references-back f ps)

cons : (x y : List Reference) (xs ys : List (List Reference)) → x ≡ y → xs ≡ ys → x ∷ xs ≡ y ∷ ys
cons x y xs ys e g = cc

pub ways-back : (f : Fact) (ways : List (List Reference)) → read_back (facts_beside f ways) ≡ ways
ways-back f [] = refl
ways-back f (ps ∷ ways) = cons _ _ _ _ (references-back f ps) (ways-back f ways)

pub outside-comes-back : OutsideComesBack
outside-comes-back V f = ways-back f (ways_under V (clauses_of f.goal.environment) (reference_in f))

-- ---- a walk of closed terms visits no open place
abbrev NoneOpen : List Met → Type 0
NoneOpen ms = list_any is_open_place ms ≡ false

both-none : (ms ns : List Met) → NoneOpen ms → NoneOpen ns → NoneOpen (ms ++ ns)
both-none [] ns h g = g
both-none (m ∷ ms) ns h g = by (is_open_place m) h (λ q. both-none ms ns q g)
  where
    by : (b : Bool) → (b || list_any is_open_place ms) ≡ false → (NoneOpen ms → NoneOpen (ms ++ ns)) → (b || list_any is_open_place (ms ++ ns)) ≡ false
    by true q go = absurd (cc)
    by false q go = go q

dyn-none : (V : World) (t : Trees) → NoneOpen (dyn_met V None t)
dyn-none V (tree (principal n t) c o) = by (trait_is (λ x. is_home None x.home) V t)
  where
    by : (b : Bool) → NoneOpen ((if b then local else dyn_leaf t) ∷ [])
    by true = refl
    by false = refl
dyn-none V none = refl
dyn-none V (tree l c o) = refl

adt-none : (s : ℕ) (ms : List Met) (b d : Bool) → NoneOpen ms → NoneOpen (if b then local ∷ [] else if d then entered s ∷ ms else struct_leaf s ∷ [])
adt-none s ms true d h = refl
adt-none s ms false true h = h
adt-none s ms false false h = refl

closed-visit : (V : World) (t : Trees) → some_node is_open t ≡ false → NoneOpen (visited V None t)
closed-visit V none h = refl
closed-visit V (tree (ref b) c o) h = both-none (visited V None c) (visited V None o) (closed-visit V c (child-shut is_open (ref b) c o h)) (closed-visit V o (next-shut is_open (ref b) c o h))
closed-visit V (tree (adt s) c o) h =
    both-none (if struct_is (λ x. is_home None x.home) V s then local ∷ [] else if struct_is (λ x. x.is_fundamental) V s then entered s ∷ visited V None c else struct_leaf s ∷ []) (visited V None o)
    (adt-none s (visited V None c) (struct_is (λ x. is_home None x.home) V s) (struct_is (λ x. x.is_fundamental) V s) (closed-visit V c (child-shut is_open (adt s) c o h)))
    (closed-visit V o (next-shut is_open (adt s) c o h))
closed-visit V (tree dynamic c o) h = both-none (dyn_met V None c) (visited V None o) (dyn-none V c) (closed-visit V o (next-shut is_open dynamic c o h))
closed-visit V (tree (param k i) c o) h = absurd (false-true (sym h))
closed-visit V (tree (placeholder k i) c o) h = absurd (false-true (sym h))
closed-visit V (tree (infer k i) c o) h = absurd (false-true (sym h))
closed-visit V (tree (canonical k i) c o) h = absurd (false-true (sym h))
closed-visit V (tree (bound k i j) c o) h = absurd (false-true (sym h))
closed-visit V (tree l c o) h = closed-visit V o (next-shut is_open l c o h)

-- so what is known of it is known whatever stands in open places
and-true : (b c : Bool) → c ≡ false → (b && not c) ≡ b
and-true true c e = ap not e
and-true false c e = refl

known-is : (V : World) (c : ℕ) (r : Reference) → is_closed r.args ≡ true → is_knowable V c r ≡ is_known_in V c r
known-is V c r h = and-true (is_known_in V c r) (list_any is_open_place (visited V None r.args)) (closed-visit V r.args (open-none r.args h))

pub coherence-comes-back : CoherenceComesBack
coherence-comes-back m f no_clauses closed =
    let r = reference_in f in
    ways-back f (ways_under m.view (clauses_of f.goal.environment) r ++ (if is_knowable m.view m.crate r then [] else strict_supertraits m.view r ∷ []))
    ∙ ap (λ E. ways_under m.view E r ++ (if is_knowable m.view m.crate r then [] else strict_supertraits m.view r ∷ [])) no_clauses
    ∙ ap (λ b. ways_under m.view [] r ++ (if b then [] else strict_supertraits m.view r ∷ [])) (known-is m.view m.crate r closed)
