-- Values that are equated in order, and the table after a response is applied.
use Rattle.std.proofs.Common.{◌≡◌, ℕ, suc, ◌+◌, ◌<◌, List, [], ◌∷◌, length, drop, get_or, Option, Some, None, refl, ap, sym, ◌∙◌}
use Rattle.std.specs.Prelude.{option_map, option_and_then}
use Rattle.type_terms.specs.Promised.Trees.{Trees, none, tree, ◌+++◌}
use Rattle.type_terms.specs.Trees.{Single}
use Rattle.type_terms.specs.Promised.Handles.{Entry, Keeps}
use Rattle.type_terms.specs.Terms.{Lawful}
use Rattle.type_terms.specs.Promised.Handles.{ArgHeld, ArgsHeld, arg_trees}
use Rattle.type_terms.specs.Kinds.{args_trees}
use Rattle.type_terms.specs.declared.kinds.GenericArgKind.{GenericArgKind}
use Rattle.type_terms.proofs.Sorts.{arg-single}
use Rattle.type_terms.specs.Kept.{arg-trees-later}
use Rattle.infer_table.specs.Content.{Table, Ready, content}
use Rattle.infer_table.specs.Constraints.{constraints_trees}
use Rattle.infer_table.specs.Kept.{content-kept}
use Rattle.infer_table.specs.Unification.{TableTrees, table_trees, unified}
use Rattle.infer_table.specs.Values.{Value, values_of, filled_values}
use Rattle.infer_table.specs.Responses.{AnswerTrees}
use Rattle.infer_table.specs.Applying.{applied_values, applied_table}
use Rattle.infer_table.specs.Applied.{trees_of, solved_in_turn, with_constraints, applied}
use Rattle.infer_table.proofs.ConstraintLists.{constraints-later}
use Rattle.infer_table.proofs.Values.{cut-at}

-- ---- rows
pub row-of : (es : List Entry) (xs : List GenericArgKind) → trees_of (values_of es xs) ≡ args_trees es xs
row-of es [] = refl
row-of es (x ∷ xs) = ap (λ z. arg_trees es x +++ z) (row-of es xs)

-- after the first pair the rest is solved in what that left
first-in-turn : (t : TableTrees) (a b x y : Trees) → Single a → Single b → solved_in_turn t (a +++ x) (b +++ y) ≡ option_and_then (λ u. solved_in_turn u x y) (unified t ((a, b) ∷ []))
first-in-turn t none b x y h g = absurd h
first-in-turn t (tree l c o) none x y h g = absurd g
first-in-turn t (tree l c o) (tree m d p) x y h g =
    ap (λ z. option_and_then (λ u. solved_in_turn u (z +++ x) (p +++ y)) (unified t ((tree l c none, tree m d none) ∷ []))) h
    ∙ ap (λ z. option_and_then (λ u. solved_in_turn u x (z +++ y)) (unified t ((tree l c none, tree m d none) ∷ []))) g
    ∙ ap (λ z. option_and_then (λ u. solved_in_turn u x y) (unified t ((tree l c z, tree m d none) ∷ []))) (sym h)
    ∙ ap (λ z. option_and_then (λ u. solved_in_turn u x y) (unified t ((tree l c o, tree m d z) ∷ []))) (sym g)

longer-left : (t : TableTrees) (a x : Trees) → Single a → solved_in_turn t (a +++ x) none ≡ None
longer-left t none x h = absurd h
longer-left t (tree l c o) x h = refl

longer-right : (t : TableTrees) (b y : Trees) → Single b → solved_in_turn t none (b +++ y) ≡ None
longer-right t none y h = absurd h
longer-right t (tree l c o) y h = refl

module _ (es : List Entry) (law : Lawful es) where
  -- rows of two lengths are refused
  pub refused-of-lengths : (t : TableTrees) (xs ys : List GenericArgKind) → (length xs ≡ length ys → ⊥) → ArgsHeld es xs → ArgsHeld es ys → solved_in_turn t (args_trees es xs) (args_trees es ys) ≡ None
  refused-of-lengths t [] [] n h g = absurd (n refl)
  refused-of-lengths t (x ∷ xs) [] n h g = longer-left t (arg_trees es x) (args_trees es xs) (arg-single es law.sorted x h.0)
  refused-of-lengths t [] (y ∷ ys) n h g = longer-right t (arg_trees es y) (args_trees es ys) (arg-single es law.sorted y g.0)
  refused-of-lengths t (x ∷ xs) (y ∷ ys) n h g =
      first-in-turn t (arg_trees es x) (arg_trees es y) (args_trees es xs) (args_trees es ys) (arg-single es law.sorted x h.0) (arg-single es law.sorted y g.0)
      ∙ by (unified t ((arg_trees es x, arg_trees es y) ∷ [])) (λ u. refused-of-lengths u xs ys (λ e. n (ap suc e)) h.1 g.1)
    where
      by : (o : Option TableTrees) → ((u : TableTrees) → solved_in_turn u (args_trees es xs) (args_trees es ys) ≡ None) → option_and_then (λ u. solved_in_turn u (args_trees es xs) (args_trees es ys)) o ≡ None
      by None rest = refl
      by (Some u) rest = rest u

module _ (es : List Entry) (law : Lawful es) (now : List Entry) (k : Keeps es now) (xs ys : List GenericArgKind) (i : ℕ) (x y : GenericArgKind) (l : i < length xs) (m : i < length ys) (p : x ≡ get_or xs i x) (q : y ≡ get_or ys i y) (hx : ArgHeld es x) (hy : ArgHeld es y) where
  turn-at : (t : TableTrees) → solved_in_turn t (args_trees es (drop i xs)) (args_trees es (drop i ys))
      ≡ option_and_then (λ u. solved_in_turn u (args_trees es (drop (i + 1) xs)) (args_trees es (drop (i + 1) ys))) (unified t ((arg_trees now x, arg_trees now y) ∷ []))
  turn-at t =
      let rest : Option TableTrees → Option TableTrees = option_and_then (λ u. solved_in_turn u (args_trees es (drop (i + 1) xs)) (args_trees es (drop (i + 1) ys))) in
      ap (λ z. solved_in_turn t (args_trees es z) (args_trees es (drop i ys))) (cut-at xs i x l ∙ ap (λ z. z ∷ drop (i + 1) xs) (sym p))
      ∙ ap (λ z. solved_in_turn t (args_trees es (x ∷ drop (i + 1) xs)) (args_trees es z)) (cut-at ys i y m ∙ ap (λ z. z ∷ drop (i + 1) ys) (sym q))
      ∙ first-in-turn t (arg_trees es x) (arg_trees es y) (args_trees es (drop (i + 1) xs)) (args_trees es (drop (i + 1) ys)) (arg-single es law.sorted x hx) (arg-single es law.sorted y hy)
      ∙ ap (λ z. rest (unified t ((z, arg_trees es y) ∷ []))) (sym (arg-trees-later es now k x hx))
      ∙ ap (λ z. rest (unified t ((arg_trees now x, z) ∷ []))) (sym (arg-trees-later es now k y hy))

  -- one pair is solved, and those after it are left
  pub next-turn : (t u : TableTrees) (all : Option TableTrees) → unified t ((arg_trees now x, arg_trees now y) ∷ []) ≡ Some u
      → solved_in_turn t (args_trees es (drop i xs)) (args_trees es (drop i ys)) ≡ all → solved_in_turn u (args_trees es (drop (i + 1) xs)) (args_trees es (drop (i + 1) ys)) ≡ all
  next-turn t u all e h =
      sym (ap (option_and_then (λ w. solved_in_turn w (args_trees es (drop (i + 1) xs)) (args_trees es (drop (i + 1) ys)))) e) ∙ sym (turn-at t) ∙ h

  -- one that is refused refuses all
  pub refused-turn : (t : TableTrees) (all : Option TableTrees) → unified t ((arg_trees now x, arg_trees now y) ∷ []) ≡ None
      → solved_in_turn t (args_trees es (drop i xs)) (args_trees es (drop i ys)) ≡ all → all ≡ None
  refused-turn t all e h = sym h ∙ turn-at t ∙ ap (option_and_then (λ w. solved_in_turn w (args_trees es (drop (i + 1) xs)) (args_trees es (drop (i + 1) ys)))) e

-- ---- tables
-- a table with the values and constraints of one that is ready has the same trees while the interner grows
pub same-trees : (old new : List Entry) → Keeps old new → (t u : Table) → Ready old t → u.values ≡ t.values → u.constraints ≡ t.constraints → table_trees new u ≡ table_trees old u
same-trees old new k t u r e f =
    ap (λ bs. record (table_trees new u) { bindings = bs }) (ap (content new) e ∙ content-kept old new t.values k r.held ∙ ap (content old) (sym e))
    ∙ ap (λ cs. record (table_trees old u) { constraints = cs }) (ap (constraints_trees new) f ∙ constraints-later old new k t.constraints r.constraints_held ∙ ap (constraints_trees old) (sym f))

-- ---- an answer
module _ (t : TableTrees) (originals : List Value) (a : AnswerTrees) (start : TableTrees) (left right : Trees)
    (taken : start ≡ applied_table t originals a) (own : left ≡ trees_of originals) (put : right ≡ filled_values (applied_values t originals a) (trees_of a.values)) where
  solved-so : solved_in_turn (applied_table t originals a) (trees_of originals) (filled_values (applied_values t originals a) (trees_of a.values)) ≡ solved_in_turn start left right
  solved-so =
      ap (λ z. solved_in_turn z (trees_of originals) (filled_values (applied_values t originals a) (trees_of a.values))) (sym taken)
      ∙ ap (λ z. solved_in_turn start z (filled_values (applied_values t originals a) (trees_of a.values))) (sym own) ∙ ap (solved_in_turn start left) (sym put)

  pub applied-leaves : (solved end : TableTrees) → solved_in_turn start left right ≡ Some solved → with_constraints (filled_values (applied_values t originals a) a.constraints) solved ≡ end → applied t originals a ≡ Some end
  applied-leaves solved end e f = ap (option_map (with_constraints (filled_values (applied_values t originals a) a.constraints))) (solved-so ∙ e) ∙ ap Some f

  pub applied-refused : solved_in_turn start left right ≡ None → applied t originals a ≡ None
  applied-refused e = ap (option_map (with_constraints (filled_values (applied_values t originals a) a.constraints))) (solved-so ∙ e)
