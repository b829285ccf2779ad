-- Arguments as values, and equations between them.
use Rattle.std.proofs.Common.{◌≡◌, true, false, List, [], ◌∷◌, ◌++◌, refl, sym, ap, subst, ◌∙◌, map}
use Rattle.type_terms.specs.Promised.Label.{Label, Sort, of_type, of_const}
use Rattle.type_terms.specs.Promised.Trees.{Trees, none, tree, ◌+++◌, IsA, sort_of}
use Rattle.type_terms.specs.Promised.Handles.{Entry, Keeps, consts, trees_at}
use Rattle.type_terms.specs.Terms.{Lawful}
use Rattle.type_terms.specs.Promised.Handles.{ArgHeld, ArgsHeld, arg_trees, region_label}
use Rattle.type_terms.specs.Kinds.{args_trees}
use Rattle.type_terms.specs.declared.kinds.GenericArgKind.{GenericArgKind}
use Rattle.type_terms.specs.declared.kinds.GenericArgKind.TheVariants.{Lifetime, Ty, Const}
use Rattle.type_terms.specs.Kept.{trees-is, arg-trees-later, arg-held-later}
use Rattle.infer_table.specs.declared.terms.Equation as Code
use Rattle.infer_table.specs.Values.{Value, value_of, sort_of_arg}
use Rattle.goal_evaluator.specs.Lists.{Every}
use Rattle.goal_evaluator.specs.Readings.{EquationHeld}
use Rattle.goal_evaluator.specs.FrameTables.{Equation}
use Rattle.goal_evaluator.specs.StepReadings.{equation_read}
use Rattle.candidate_model.specs.Candidates.{all_equal, never_met, first_value}
use Rattle.goal_evaluator.proofs.Contexts.{every-more}
use Rattle.infer_table.proofs.BindFacts.{type-is}
use Rattle.built_in_candidates.specs.Equations.{ArePaired}
use Rattle.built_in_candidates.proofs.Lists.{map-push}
use Rattle.type_terms.proofs.TypeBasics.{region-sort}

-- an argument is one tree of its sort
pub record IsOneTree (s : Sort) (t : Trees) : Type 0 where
  pub label : Label
  pub children : Trees
  pub is : t ≡ tree label children none
  pub sort : sort_of label ≡ s

pub type-tree : (t : Trees) → IsA of_type t → IsOneTree of_type t
type-tree none h = absurd h
type-tree (tree l c o) h = record { label = l; children = c; is = ap (λ z. tree l c z) h.1; sort = h.0 }

const-tree : (t : Trees) → IsA of_const t → IsOneTree of_const t
const-tree none h = absurd h
const-tree (tree l c o) h = record { label = l; children = c; is = ap (λ z. tree l c z) h.1; sort = h.0 }

pub arg-tree : (es : List Entry) → Lawful es → (a : GenericArgKind) → ArgHeld es a → IsOneTree (sort_of_arg a) (arg_trees es a)
arg-tree es law (Lifetime r) h = record { label = region_label r.kind; children = none; is = refl; sort = region-sort r.kind }
arg-tree es law (Ty t) h = type-tree (trees_at es t.0) (type-is es law t.0 h)
arg-tree es law (Const n) h = const-tree (trees_at es n.0) (subst (IsA of_const) (sym (trees-is es consts n.0 h.0 h.1)) ((law.sorted n.0 _ h.1).as_const refl))

abbrev pub as_value : Sort → Trees → Value
as_value s t = record { sort = s; trees = t }

pub value-is : (s : Sort) (t : Trees) (h : IsOneTree s t) → first_value h.label h.children ≡ as_value s t
value-is s t h = ap (λ x. as_value x (tree h.label h.children none)) h.sort ∙ ap (as_value s) (sym h.is)

abbrev pub equate : Value → Value → Equation
equate v w = record { left = v; right = w }

pub pair-first : (s r : Sort) (t u x y : Trees) → IsOneTree s t → IsOneTree r u → all_equal (t +++ x) (u +++ y) ≡ equate (as_value s t) (as_value r u) ∷ all_equal x y
pair-first s r t u x y h g =
    ap (λ z. all_equal (z +++ x) (u +++ y)) h.is ∙ ap (λ z. all_equal (tree h.label h.children x) (z +++ y)) g.is
    ∙ ap (λ v. equate v (first_value g.label g.children) ∷ all_equal x y) (value-is s t h)
    ∙ ap (λ w. equate (as_value s t) w ∷ all_equal x y) (value-is r u g)

left-longer : (s : Sort) (t x : Trees) → IsOneTree s t → all_equal (t +++ x) none ≡ never_met ∷ []
left-longer s t x h = ap (λ z. all_equal (z +++ x) none) h.is

right-longer : (s : Sort) (t x : Trees) → IsOneTree s t → all_equal none (t +++ x) ≡ never_met ∷ []
right-longer s t x h = ap (λ z. all_equal none (z +++ x)) h.is

-- so many equations were found, and these are left
abbrev pub Pairs : List GenericArgKind → List GenericArgKind → List GenericArgKind → List GenericArgKind → List Code.Equation → Type 0
Pairs first second xs ys found =
    (es : List Entry) → Lawful es → ArgsHeld es first → ArgsHeld es second
    → ArgsHeld es xs × ArgsHeld es ys × Every (EquationHeld es) found
    × (map (equation_read es) found ++ all_equal (args_trees es xs) (args_trees es ys) ≡ all_equal (args_trees es first) (args_trees es second))

pub pairs-first : (first second : List GenericArgKind) (found : List Code.Equation) → found ≡ [] → Pairs first second first second found
pairs-first first second found e es law h g =
    (h, g, subst (Every (EquationHeld es)) (sym e) tt, ap (λ l. map (equation_read es) l ++ all_equal (args_trees es first) (args_trees es second)) e)

pub pairs-next : (first second xs ys : List GenericArgKind) (found more : List Code.Equation) (x y : GenericArgKind) → more ≡ found ++ record { left = x; right = y } ∷ []
    → Pairs first second (x ∷ xs) (y ∷ ys) found → Pairs first second xs ys more
pairs-next first second xs ys found more x y e p es law h g =
    let now = p es law h g in
    let one = pair-first (sort_of_arg x) (sort_of_arg y) (arg_trees es x) (arg_trees es y) (args_trees es xs) (args_trees es ys) (arg-tree es law x now.0.0) (arg-tree es law y now.1.0) in
    let eq : Code.Equation = record { left = x; right = y } in (
      now.0.1,
      now.1.1,
      subst (Every (EquationHeld es)) (sym e) (every-more (EquationHeld es) found eq now.2 (now.0.0, now.1.0)),
      ap (λ l. map (equation_read es) l ++ all_equal (args_trees es xs) (args_trees es ys)) e
          ∙ map-push (equation_read es) found eq (all_equal (args_trees es xs) (args_trees es ys))
          ∙ ap (λ l. map (equation_read es) found ++ l) (sym one) ∙ now.3,
    )

pub pairs-both : (first second xs ys : List GenericArgKind) (found : List Code.Equation) → xs ≡ [] → ys ≡ [] → Pairs first second xs ys found → ArePaired first second (found, false)
pairs-both first second xs ys found d e p es law h g =
    let now = p es law h g in
    (now.2, ap (λ l. map (equation_read es) found ++ all_equal (args_trees es l) none) (sym d) ∙ ap (λ l. map (equation_read es) found ++ all_equal (args_trees es xs) (args_trees es l)) (sym e) ∙ now.3)

pub pairs-left : (first second xs ys : List GenericArgKind) (found : List Code.Equation) (x : GenericArgKind) (rest : List GenericArgKind) → xs ≡ x ∷ rest → ys ≡ [] → Pairs first second xs ys found
    → ArePaired first second (found, true)
pairs-left first second xs ys found x rest d e p es law h g =
    let now = p es law h g in
    let held = subst (ArgsHeld es) d now.0 in (
      now.2,
      ap (λ l. map (equation_read es) found ++ l) (sym (left-longer (sort_of_arg x) (arg_trees es x) (args_trees es rest) (arg-tree es law x held.0)))
          ∙ ap (λ l. map (equation_read es) found ++ all_equal (args_trees es l) none) (sym d) ∙ ap (λ l. map (equation_read es) found ++ all_equal (args_trees es xs) (args_trees es l)) (sym e) ∙ now.3,
    )

pub pairs-right : (first second xs ys : List GenericArgKind) (found : List Code.Equation) (y : GenericArgKind) (rest : List GenericArgKind) → xs ≡ [] → ys ≡ y ∷ rest → Pairs first second xs ys found
    → ArePaired first second (found, true)
pairs-right first second xs ys found y rest d e p es law h g =
    let now = p es law h g in
    let held = subst (ArgsHeld es) e now.1 in (
      now.2,
      ap (λ l. map (equation_read es) found ++ l) (sym (right-longer (sort_of_arg y) (arg_trees es y) (args_trees es rest) (arg-tree es law y held.0)))
          ∙ ap (λ l. map (equation_read es) found ++ all_equal none (args_trees es l)) (sym e) ∙ ap (λ l. map (equation_read es) found ++ all_equal (args_trees es l) (args_trees es ys)) (sym d) ∙ now.3,
    )

-- ---- as the interner grows
module _ (old new : List Entry) (k : Keeps old new) where
  equation-later : (e : Code.Equation) → EquationHeld old e → equation_read new e ≡ equation_read old e
  equation-later e h =
      ap (λ t. equate (as_value (sort_of_arg e.left) t) (value_of new e.right)) (arg-trees-later old new k e.left h.0)
      ∙ ap (λ t. equate (value_of old e.left) (as_value (sort_of_arg e.right) t)) (arg-trees-later old new k e.right h.1)

  pub equations-later : (es : List Code.Equation) → Every (EquationHeld old) es → map (equation_read new) es ≡ map (equation_read old) es
  equations-later [] h = refl
  equations-later (e ∷ es) h = ap (λ x. x ∷ map (equation_read new) es) (equation-later e h.0) ∙ ap (λ l. equation_read old e ∷ l) (equations-later es h.1)

  pub equations-held-later : (es : List Code.Equation) → Every (EquationHeld old) es → Every (EquationHeld new) es
  equations-held-later [] h = tt
  equations-held-later (e ∷ es) h = ((arg-held-later old new k e.left h.0.0, arg-held-later old new k e.right h.0.1), equations-held-later es h.1)
