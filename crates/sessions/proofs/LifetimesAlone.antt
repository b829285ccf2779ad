-- A table without values refuses no answer to a goal whose variables are lifetimes alone.
use Rattle.std.proofs.Common.{◌≡◌, ℕ, Bool, true, false, ◌&&◌, ◌||◌, if◌then◌else◌, List, [], ◌∷◌, map, Option, Some, None, inl, inr, refl, sym, ◌∙◌, ap, subst}
use Rattle.std.specs.Prelude.{IsSome, option_map}
use Rattle.type_terms.specs.Promised.Label.{Label, of_type, of_const, of_lifetime, static, param, placeholder, infer}
use Rattle.type_terms.specs.Promised.Trees.{Trees, none, tree, leaf, erase, erase_label, sort_of, is_sort, some_node}
use Rattle.type_terms.specs.Promised.Worlds.{Reference}
use Rattle.type_terms.specs.Promised.Answers.{is_open}
use Rattle.type_terms.proofs.Fitting.{child-shut, next-shut}
use Rattle.type_terms.specs.Made.{terms, is_made}
use Rattle.type_terms.proofs.Made.{left, false-true}
use Rattle.infer_table.specs.Applied.{applied, with_constraints}
use Rattle.infer_table.specs.Applying.{known_value, values_for, table_for}
use Rattle.infer_table.specs.Answers.{is_answer_to, have_same_sorts}
use Rattle.infer_table.specs.Canonical.{StandsIn, kind_of_leaf, goal_leaves}
use Rattle.infer_table.specs.Responses.{AnswerTrees}
use Rattle.infer_table.specs.Solutions.{Assignment, IsSorted}
use Rattle.infer_table.specs.Unification.{TableTrees}
use Rattle.infer_table.specs.Values.{Value, filled_values}
use Rattle.goal_evaluator.specs.Lists.{Every}
use Rattle.goal_evaluator.specs.Content.{ChosenTerms, reading_of, UnknownStands}
use Rattle.goal_evaluator.specs.Equations.{Hold}
use Rattle.goal_evaluator.specs.FrameTables.{FrameTable, IsMadeFrame, AllowsApart, TellsApart, is_good}
use Rattle.goal_evaluator.specs.Instances.{default_label, first_term, other_terms}
use Rattle.goal_evaluator.specs.TableAnswers.{ArePicked, IsPicked, is_fitting_answer, put_into, leaf_value}
use Rattle.goal_evaluator.proofs.Applying.{AreTheirs, all-agree, extended-sorted, for-bindings, further, grown-made, pairs-made, pairs-one, turns}
use Rattle.goal_evaluator.proofs.Equating.{in-turn-keeps, lifetimes-good, further-apart}
use Rattle.goal_evaluator.proofs.Nodes.{every-leaf}
use Rattle.goal_evaluator.proofs.TableBeginning.{below-is}
use Rattle.candidate_model.proofs.Plain.{is-sort}
use Rattle.solver_graph.specs.Roots.{left_by, values_in}
use Rattle.sessions.specs.Asking.{goal_alone}
use Rattle.type_terms.proofs.Matching.{or-false-left as no-left}
use Rattle.type_terms.proofs.NumberBasics.{zero-first as zero-plus}

-- ---- lifetimes as leaves
abbrev is_lifetime : Label → Bool
is_lifetime static = true
is_lifetime (param of_lifetime i) = true
is_lifetime (placeholder of_lifetime i) = true
is_lifetime (infer of_lifetime i) = true
is_lifetime l = false

abbrev AreLifetimes : List Label → Type 0
AreLifetimes ls = Every (λ l. is_lifetime l ≡ true) ls

lifetime-sort : (l : Label) → is_lifetime l ≡ true → sort_of l ≡ of_lifetime
lifetime-sort static h = refl
lifetime-sort (param of_lifetime i) h = refl
lifetime-sort (placeholder of_lifetime i) h = refl
lifetime-sort (infer of_lifetime i) h = refl
lifetime-sort (param of_type i) h = absurd (false-true h)
lifetime-sort (param of_const i) h = absurd (false-true h)
lifetime-sort (placeholder of_type i) h = absurd (false-true h)
lifetime-sort (placeholder of_const i) h = absurd (false-true h)
lifetime-sort (infer of_type i) h = absurd (false-true h)
lifetime-sort (infer of_const i) h = absurd (false-true h)
lifetime-sort l h = absurd (false-true h)

lifetime-made : (n m : ℕ) (l : Label) → is_lifetime l ≡ true → is_made (is_good [] n m) terms (leaf l) ≡ true
lifetime-made n m static h = refl
lifetime-made n m (param of_lifetime i) h = refl
lifetime-made n m (placeholder of_lifetime i) h = refl
lifetime-made n m (infer of_lifetime i) h = refl
lifetime-made n m (param of_type i) h = absurd (false-true h)
lifetime-made n m (param of_const i) h = absurd (false-true h)
lifetime-made n m (placeholder of_type i) h = absurd (false-true h)
lifetime-made n m (placeholder of_const i) h = absurd (false-true h)
lifetime-made n m (infer of_type i) h = absurd (false-true h)
lifetime-made n m (infer of_const i) h = absurd (false-true h)
lifetime-made n m l h = absurd (false-true h)

all-made : (n m : ℕ) (ls : List Label) → AreLifetimes ls → AreTheirs (is_good [] n m) ls
all-made n m [] h = tt
all-made n m (l ∷ ls) h = (lifetime-made n m l h.0, all-made n m ls h.1)

-- the values of an answer for lifetimes are lifetimes: these agree with all
picks-all : (q : Assignment) (ls : List Label) → AreLifetimes ls → (vs : List Value) → have_same_sorts (map leaf_value ls) vs ≡ true → (ts : List Trees) → ArePicked q vs ts
picks-all q [] h [] e ts = tt
picks-all q [] h (v ∷ vs) e ts = absurd (false-true e)
picks-all q (l ∷ ls) h [] e ts = absurd (false-true e)
picks-all q (l ∷ ls) h (v ∷ vs) e ts =
    let s : of_lifetime ≡ v.sort = sym (lifetime-sort l h.0) ∙ is-sort (sort_of l) v.sort (left (is_sort (sort_of l) v.sort) _ e) in
    (subst (λ k. IsPicked q k v.trees (first_term ts)) s tt, picks-all q ls h.1 vs (second (is_sort (sort_of l) v.sort) _ e) (other_terms ts))
  where
    second : (a b : Bool) → a && b ≡ true → b ≡ true
    second true b x = x
    second false b x = absurd (false-true x)

-- ---- a table without values
some-terms : Assignment
some-terms k v = (default_label k, none)

are-sorted : IsSorted some-terms
unfolding some-terms
are-sorted of_type v = refl
are-sorted of_const v = refl
are-sorted of_lifetime v = refl

module _ (types consts regions : ℕ) (constraints : Trees) (ls : List Label) (lifetimes : AreLifetimes ls) (a : AnswerTrees) where
  abbrev T : TableTrees
  T = record { ty_vars = types; const_vars = consts; region_vars = regions; bindings = []; constraints = constraints }

  abbrev t : FrameTable
  t = record { kinds = []; labels = []; content = T }

  abbrev s : ChosenTerms
  s = record { own = record { proper = true; terms = [] }; slots = []; unknowns = some-terms; proper = true }

  made : IsMadeFrame t
  made = record {
    table = record { acyclic = tt; values = tt; counted = record { types = λ v h. below-is v types h; consts = λ v h. below-is v consts h } };
    leaves = tt;
    own = tt;
  }

  tells : TellsApart t s
  tells of_type i j h g e n = absurd (false-true h)
  tells of_const i j h g e n = absurd (false-true h)
  tells of_lifetime i j h g e n = absurd (false-true (sym n))

  allows : AllowsApart t s
  allows = record { allowed = record { made = made; sorted = are-sorted; hold = tt; slots = refl; own = tt; proper = refl }; apart = tells; fit = tt }

  theirs : AreTheirs (is_good [] types consts) ls
  theirs = all-made types consts ls lifetimes

  module _ (fitting : is_fitting_answer (map leaf_value ls) a ≡ true) where
    abbrev known : ℕ → Option Value
    known i = known_value a (map leaf_value ls) i

    abbrev values : List Value
    values = values_for known T 0 a.kinds

    abbrev grown : TableTrees
    grown = table_for known T 0 a.kinds

    abbrev r : ChosenTerms
    r = further t s some-terms known a.kinds

    sorted : IsSorted r.unknowns
    sorted = extended-sorted some-terms some-terms known T 0 a.kinds are-sorted are-sorted

    pub goes-in : (u : TableTrees) × (put_into T (map leaf_value ls) a ≡ Some u)
    goes-in =
        let picks = picks-all some-terms ls lifetimes a.values (left (is_answer_to (map leaf_value ls) a) _ fitting) (map (reading_of r) ls) in
        let ones = pairs-one [] T ls theirs a fitting r some-terms sorted (all-agree r some-terms ls a.values picks) (λ k i x. x.stands some-terms some-terms ∙ ap (some-terms k) (zero-plus i)) in
        let hold : Hold r grown = subst (Every (UnknownStands r)) (sym (for-bindings known T 0 a.kinds)) tt in
        let x =
        in-turn-keeps (is_good [] grown.ty_vars grown.const_vars) (lifetimes-good [] grown.ty_vars grown.const_vars) _ grown r (grown-made [] T ls theirs a fitting made.table) (pairs-made [] T ls theirs a fitting)
        (further-apart t s r grown.ty_vars grown.const_vars allows refl sorted) hold ones in (
          with_constraints (filled_values values a.constraints) x.0,
          ap (λ b. if b then applied T (map leaf_value ls) a else Some T) fitting ∙ ap (option_map (with_constraints (filled_values values a.constraints))) (turns [] T ls theirs a fitting grown ∙ x.1),
        )

  not-refused : put_into T (map leaf_value ls) a ≡ None → ⊥
  not-refused e = by (is_fitting_answer (map leaf_value ls) a) refl
    where
      some-none : (u : TableTrees) → Some u ≡ None → ⊥
      some-none u q = cc

      by : (b : Bool) → is_fitting_answer (map leaf_value ls) a ≡ b → ⊥
      by true f = let x = goes-in f in some-none x.0 (sym x.1 ∙ e)
      by false f = some-none T (sym (ap (λ b. if b then applied T (map leaf_value ls) a else Some T) f) ∙ e)

-- ---- closed references
closed-leaf : (l : Label) → is_open (erase_label l) ≡ false → IsSome (kind_of_leaf l) → is_lifetime l ≡ true
closed-leaf static e h = refl
closed-leaf (param of_lifetime i) e h = refl
closed-leaf (placeholder of_lifetime i) e h = refl
closed-leaf (infer of_lifetime i) e h = refl
closed-leaf (param of_type i) e h = absurd (false-true (sym e))
closed-leaf (param of_const i) e h = absurd (false-true (sym e))
closed-leaf (placeholder of_type i) e h = absurd (false-true (sym e))
closed-leaf (placeholder of_const i) e h = absurd (false-true (sym e))
closed-leaf (infer of_type i) e h = absurd (false-true (sym e))
closed-leaf (infer of_const i) e h = absurd (false-true (sym e))
closed-leaf l e h = absurd (false-true h)

stands-lifetime : (t : Trees) → some_node is_open (erase t) ≡ false → (l : Label) → StandsIn kind_of_leaf t l → is_lifetime l ≡ true
stands-lifetime none e l h = absurd h
stands-lifetime (tree m c o) e l (inl h) =
    subst (λ z. is_lifetime z ≡ true) h.0
    (closed-leaf m (no-left (is_open (erase_label m)) (some_node is_open (erase c)) (no-left (is_open (erase_label m) || some_node is_open (erase c)) (some_node is_open (erase o)) e)) h.1)
stands-lifetime (tree m c o) e l (inr (inl h)) = stands-lifetime c (child-shut is_open (erase_label m) (erase c) (erase o) e) l h
stands-lifetime (tree m c o) e l (inr (inr h)) = stands-lifetime o (next-shut is_open (erase_label m) (erase c) (erase o) e) l h

leaves-alone : (r : Reference) → some_node is_open (erase r.args) ≡ false → AreLifetimes (goal_leaves (goal_alone r))
leaves-alone r e = every-leaf kind_of_leaf (λ l. is_lifetime l ≡ true) [] (goal_alone r).predicate tt by
  where
    by : (l : Label) → StandsIn kind_of_leaf (goal_alone r).predicate l → is_lifetime l ≡ true
    by l (inl h) = absurd (false-true h.1)
    by l (inr (inl h)) = stands-lifetime r.args e l h
    by l (inr (inr h)) = absurd h

-- what a table without values refuses of a closed reference is a refusal
pub refusal-is : (T : TableTrees) → T.bindings ≡ [] → (r : Reference) → some_node is_open (erase r.args) ≡ false → (a : Option AnswerTrees) → left_by T (goal_alone r) a ≡ None → a ≡ None
refusal-is T e r closed None h = refl
refusal-is T e r closed (Some a) h =
    absurd
    (not-refused T.ty_vars T.const_vars T.region_vars T.constraints (goal_leaves (goal_alone r)) (leaves-alone r closed) a
    (subst (λ bs. put_into (record T { bindings = bs }) (values_in (goal_alone r)) a ≡ None) e h))
