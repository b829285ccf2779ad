-- Tables and goals over their own variables, by handles and by trees.
use Rattle.std.proofs.Common.{◌≡◌, ℕ, refl, sym, ap, subst, List, [], ◌∷◌, Some}
use Rattle.std.specs.Prelude.{option_and_then}
use Rattle.type_terms.specs.Promised.Label.{Sort, infer, canonical, of_trait, predicate}
use Rattle.type_terms.specs.Promised.Trees.{Trees, none, tree}
use Rattle.type_terms.specs.Promised.Handles.{Entry, Has, ArgHeld, arg_trees, region_trees, trees_at}
use Rattle.type_terms.specs.Terms.{Lawful, args_lists}
use Rattle.type_terms.specs.Trees.{Single}
use Rattle.type_terms.specs.Made.{terms}
use Rattle.type_terms.specs.declared.kinds.GenericArgKind.{GenericArgKind}
use Rattle.type_terms.proofs.Made.{made-weaker}
use Rattle.term_folds.specs.Clauses.{ClauseHeld}
use Rattle.term_folds.specs.declared.predicate.Clause.{Clause}
use Rattle.term_folds.specs.declared.predicate.Clause.TheVariants.{Trait, RegionOutlives, TypeOutlives}
use Rattle.infer_table.specs.Applied.{solved_in_turn}
use Rattle.infer_table.specs.Applying.{unknowns_of}
use Rattle.infer_table.specs.Canonical.{GoalTrees, HasNoCanonical}
use Rattle.infer_table.specs.Content.{AreOlder, IsProper, Ready, Table, content, variables_of}
use Rattle.infer_table.specs.Covers.{AreKnown}
use Rattle.infer_table.specs.Goals.{ClausesHeld, GoalHeld, clause_terms, environment_trees, goal_trees}
use Rattle.infer_table.specs.Solutions.{AllValued, Binding, resolved}
use Rattle.infer_table.specs.Unification.{TableTrees, table_trees, unified}
use Rattle.infer_table.specs.WellFormed.{AllTerms, is_numbered}
use Rattle.infer_table.specs.declared.goal.Goal.{Goal}
use Rattle.infer_table.proofs.Covers.{same-unknowns}
use Rattle.infer_table.proofs.Kept.{turns-keep}
use Rattle.infer_table.proofs.Places.{in_terms, AllTrees, AreTrees, arg-term, ready-terms, trees-of, trees-proper, type-proper}
use Rattle.infer_table.proofs.ResolveFacts.{proper-append, region-proper}
use Rattle.infer_table.proofs.SolutionLaws.{resolved-rigid}
use Rattle.goal_evaluator.specs.Content.{trait_of}
use Rattle.overlap_check.proofs.Owning.{AllOwn, AreOwn, IsTerm, own-clean, own-known, turns-own}
use Rattle.overlap_check.proofs.Posed.{made}
use Rattle.inference.specs.Inferring.{GoalIsOver, IsOverVariables, ValuesAreOver}
use Rattle.fulfillment.proofs.OwnTables.{AreBelow, Below, IsOwnInTrees, Stays, any, below-keeps, opens}

-- ---- terms
pub own : (n : Sort → ℕ) (t : Trees) → AreKnown n t → HasNoCanonical t → AreOwn n t
own n none k h = tt
own n (tree (infer s v) c o) k h = (k.0, own n c k.1 h.0, own n o k.2 h.1)
own n (tree (canonical s i) c o) k h = absurd h
own n (tree l c o) k h = (tt, own n c k.0 h.0, own n o k.1 h.1)

pub over : (n : Sort → ℕ) (t : Trees) → AreOwn n t → IsOverVariables n t
over n t h = (own-known n t h, own-clean n t h)

all-own : (n : Sort → ℕ) (bs : List Binding) → ValuesAreOver n bs → AllOwn n bs
all-own n [] h = tt
all-own n (b ∷ older) h = (own n b.value h.0.0 h.0.1, all-own n older h.1)

all-over : (n : Sort → ℕ) (bs : List Binding) → AllOwn n bs → ValuesAreOver n bs
all-over n [] h = tt
all-over n (b ∷ older) h = (over n b.value h.0, all-over n older h.1)

-- ---- tables
all-any : (bs : List Binding) → AllTerms bs → AllTrees any bs
all-any [] h = tt
all-any (b ∷ older) h = (trees-of any terms b.value (made-weaker is_numbered any (λ l e. refl) terms b.value h.0), all-any older h.1)

all-below : (n : Sort → ℕ) (bs : List Binding) → AreOlder n bs → AllValued bs → AreBelow n bs
all-below n [] h v = tt
all-below n (b ∷ older) h v = (h.0, v.0, all-below n older h.3 v.1)

module _ (es : List Entry) (law : Lawful es) where
  -- by trees
  pub in-trees : (t : Table) → Ready es t → ValuesAreOver (variables_of t) (content es t.values) → IsOwnInTrees (table_trees es t)
  in-trees t ready values =
      let are = ready-terms es law t ready in
      let same = sym (same-unknowns es t) in
      record {
        own = (subst (λ (n : Sort → ℕ). AllOwn n (content es t.values)) same (all-own (variables_of t) (content es t.values) values), all-any (content es t.values) are.terms);
        below = subst (λ (n : Sort → ℕ). AreBelow n (content es t.values)) same (all-below (variables_of t) (content es t.values) ready.older are.valued);
      }

  arg-any : (a : GenericArgKind) → ArgHeld es a → AreTrees any in_terms (arg_trees es a)
  arg-any a held = trees-of any terms (arg_trees es a) (made-weaker is_numbered any (λ l e. refl) terms (arg_trees es a) (arg-term es law a held).1)

  pub arg-own : (n : Sort → ℕ) (a : GenericArgKind) → ArgHeld es a → IsOverVariables n (arg_trees es a) → IsTerm any opens n (arg_trees es a)
  arg-own n a held h = (own n (arg_trees es a) h.0 h.1, arg-any a held)

-- and by handles
pub of-trees : (es : List Entry) (t : Table) → IsOwnInTrees (table_trees es t) → ValuesAreOver (variables_of t) (content es t.values)
of-trees es t is = all-over (variables_of t) (content es t.values) (subst (λ (n : Sort → ℕ). AllOwn n (content es t.values)) (same-unknowns es t) is.own.0)

-- ---- an equation
one-turn : (t u : TableTrees) (a b : Trees) → Single a → Single b → unified t ((a, b) ∷ []) ≡ Some u → solved_in_turn t a b ≡ Some u
one-turn t u none b s r e = absurd s
one-turn t u (tree l c o) none s r e = absurd r
one-turn t u (tree l c none) (tree m d none) s r e = ap (option_and_then (λ w. solved_in_turn w none none)) e
one-turn t u (tree l c none) (tree m d (tree k f p)) s r e = absurd cc
one-turn t u (tree l c (tree k f p)) (tree m d o) s r e = absurd cc

-- it leaves such a table
pub equated-own : (t u : TableTrees) (a b : Trees) → Single a → Single b → IsOwnInTrees t → IsTerm any opens (unknowns_of t) a → IsTerm any opens (unknowns_of t) b
    → unified t ((a, b) ∷ []) ≡ Some u → Stays t u
equated-own t u a b s r is p q e =
    let turn = one-turn t u a b s r e in
    let x = turns-own any opens t u a b is.own p q turn in
    let y = turns-keep (λ z. Unit {0}) Below below-keeps t u a b is.below tt tt turn in
    (record { own = x.0; below = y }, x.1)

-- ---- goals
-- The goal holds these variables alone, each variable in it is a leaf, and its trait stays when values are put in.
pub record IsOwnGoal (n : Sort → ℕ) (g : GoalTrees) : Type 0 where
  pub environment : AreOwn n g.environment
  pub predicate : AreOwn n g.predicate
  pub environment_proper : IsProper g.environment
  pub predicate_proper : IsProper g.predicate
  pub trait : (bs : List Binding) → trait_of (resolved bs g.predicate) ≡ trait_of g.predicate

module _ (es : List Entry) (law : Lawful es) where
  args-proper : (i : ℕ) → Has es args_lists i → IsProper (trees_at es i)
  args-proper i h = trees-proper is_numbered in_terms (trees_at es i) (made es law i h)

  clause-proper : (x : Clause) → ClauseHeld es x → IsProper (clause_terms es x)
  clause-proper (Trait p) h = args-proper p.trait_ref.args.0 h
  clause-proper (RegionOutlives a b) h = proper-append (region_trees a) (region_trees b) (region-proper a.kind) (region-proper b.kind)
  clause-proper (TypeOutlives t r) h = proper-append (trees_at es t.0) (region_trees r) (type-proper es law t.0 h.0) (region-proper r.kind)

  clauses-proper : (xs : List Clause) → ClausesHeld es xs → IsProper (environment_trees es xs)
  clauses-proper [] h = tt
  clauses-proper (Trait p ∷ xs) h = (clause-proper (Trait p) h.0, clauses-proper xs h.1)
  clauses-proper (RegionOutlives a b ∷ xs) h = (clause-proper (RegionOutlives a b) h.0, clauses-proper xs h.1)
  clauses-proper (TypeOutlives t r ∷ xs) h = (clause-proper (TypeOutlives t r) h.0, clauses-proper xs h.1)

  pub goal-own : (n : Sort → ℕ) (g : Goal) → GoalHeld es g → GoalIsOver n (goal_trees es g) → IsOwnGoal n (goal_trees es g)
  goal-own n g held h = record {
    environment = own n (goal_trees es g).environment h.environment.0 h.environment.1;
    predicate = own n (goal_trees es g).predicate h.predicate.0 h.predicate.1;
    environment_proper = clauses-proper g.param_env.items held.environment;
    predicate_proper = (args-proper g.predicate.trait_ref.args.0 held.predicate, tt);
    trait = λ bs. ap trait_of (resolved-rigid bs (predicate (of_trait g.predicate.trait_ref.def_id.index)) (trees_at es g.predicate.trait_ref.args.0) none refl);
  }
