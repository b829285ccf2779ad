-- Responses are equal exactly if they state the same, and over a lawful interner exactly if their terms are equal.
use Rattle.std.proofs.Common.{◌≡◌, List, [], ◌∷◌, refl, ap, sym}
use Rattle.std.specs.Bool.{Decides}
use Rattle.type_terms.specs.Promised.Handles.{Entry, Keeps, types, consts, trees_at}
use Rattle.type_terms.specs.Terms.{Lawful}
use Rattle.type_terms.specs.Promised.Handles.{ArgHeld, ArgsHeld, region_label, region_trees}
use Rattle.type_terms.specs.declared.region.Region.{Region}
use Rattle.type_terms.specs.declared.kinds.Ty as ty-module
use Rattle.type_terms.specs.declared.kinds.GenericArgKind.{GenericArgKind}
use Rattle.type_terms.specs.declared.kinds.GenericArgKind.TheVariants.{Lifetime, Ty, Const}
use Rattle.type_terms.proofs.Equal.{through}
use Rattle.type_terms.proofs.Sorts.{type-single}
use Rattle.type_terms.specs.Kept.{args-held-later}
use Rattle.infer_table.specs.declared.terms.RegionConstraint.{RegionConstraint}
use Rattle.infer_table.specs.declared.terms.RegionConstraint.TheVariants.{Equal, RegionOutlives, TypeOutlives}
use Rattle.infer_table.specs.Content.{IsHeldConstraint, AllConstraintsHeld}
use Rattle.infer_table.specs.Constraints.{constraint_label, constraint_terms, constraints_trees}
use Rattle.infer_table.specs.Kept.{constraints-kept}
use Rattle.infer_table.specs.declared.response.CanonicalResponse.{CanonicalResponse}
use Rattle.infer_table.specs.contracts.response.CanonicalResponsePartialEq.TheImpl.{ghosts as response}
use Rattle.infer_table.specs.Values.{sort_of_arg, value_of, values_of, values-later}
use Rattle.infer_table.proofs.LeafFacts.{same-handle}
use Rattle.infer_table.specs.Responses.{ResponseHeld, answer_trees, SayTheSame}
use Rattle.infer_table.proofs.PairFacts.{constraints-later}
use Rattle.infer_table.proofs.Questions.{first-of-two, region-is}
use Rattle.goal_evaluator.proofs.SameResponses.{content-cong, response-eq as contents-equal}
use Rattle.type_terms.proofs.ListBasics.{next}
use Rattle.type_terms.proofs.TermBasics.{tree-parts as node-parts}
use Rattle.infer_table.proofs.TypeBasics.{answer-cong}

-- ---- the derived `==`
pub response-eq : (a b : CanonicalResponse) → Decides (response.eq a b) (SayTheSame a b)
response-eq a b =
    through _ _ _ (contents-equal a b)
    (λ e. record { variables = ap (λ x. x.variables) e; certainty = ap (λ x. x.certainty) e; values = ap (λ x. x.values) e; constraints = ap (λ x. x.constraints) e })
    (λ e. content-cong _ _ _ _ _ _ _ _ e.variables e.certainty e.values e.constraints)

pub response-back : (a b : CanonicalResponse) → SayTheSame a b → SayTheSame b a
response-back a b e = record { variables = sym e.variables; certainty = sym e.certainty; values = sym e.values; constraints = sym e.constraints }

-- ---- handles are told apart by their trees
arg-is : (es : List Entry) → Lawful es → (a b : GenericArgKind) → ArgHeld es a → ArgHeld es b → value_of es a ≡ value_of es b → a ≡ b
arg-is es law (Lifetime r) (Lifetime s) h g e =
    let trees : region_trees r ≡ region_trees s = ap (λ v. v.trees) e in
    let labels : region_label r.kind ≡ region_label s.kind = cc in
    ap Lifetime (region-is r s labels)
arg-is es law (Ty t) (Ty u) h g e = ap (λ i. Ty (record { 0 = i })) (same-handle es law types t.0 u.0 h g (ap (λ v. v.trees) e))
arg-is es law (Const t) (Const u) h g e = ap (λ i. Const (record { 0 = i })) (same-handle es law consts t.0 u.0 h g (ap (λ v. v.trees) e))
arg-is es law a b h g e = let sorts : sort_of_arg a ≡ sort_of_arg b = ap (λ v. v.sort) e in cc

args-are : (es : List Entry) → Lawful es → (xs ys : List GenericArgKind) → ArgsHeld es xs → ArgsHeld es ys → values_of es xs ≡ values_of es ys → xs ≡ ys
args-are es law [] [] h g e = refl
args-are es law [] (y ∷ ys) h g e = cc
args-are es law (x ∷ xs) [] h g e = cc
args-are es law (x ∷ xs) (y ∷ ys) h g e =
    let first : value_of es x ≡ value_of es y = cc in
    let rest : values_of es xs ≡ values_of es ys = cc in
    next x y xs ys (arg-is es law x y h.0 g.0 first) (args-are es law xs ys h.1 g.1 rest)

equal : (a b x y : Region) → a ≡ x → b ≡ y → Equal a b ≡ Equal x y
equal a b x y p q = cc

outlives : (a b x y : Region) → a ≡ x → b ≡ y → RegionOutlives a b ≡ RegionOutlives x y
outlives a b x y p q = cc

type-outlives : (t u : ty-module.Ty) (r s : Region) → t ≡ u → r ≡ s → TypeOutlives t r ≡ TypeOutlives u s
type-outlives t u r s p q = cc

constraint-is : (es : List Entry) → Lawful es → (x y : RegionConstraint) → IsHeldConstraint es x → IsHeldConstraint es y → constraint_label x ≡ constraint_label y → constraint_terms es x ≡ constraint_terms es y → x ≡ y
constraint-is es law (Equal a b) (Equal x y) h g l e =
    let first : region_label a.kind ≡ region_label x.kind = cc in
    let second : region_label b.kind ≡ region_label y.kind = cc in
    equal a b x y (region-is a x first) (region-is b y second)
constraint-is es law (RegionOutlives a b) (RegionOutlives x y) h g l e =
    let first : region_label a.kind ≡ region_label x.kind = cc in
    let second : region_label b.kind ≡ region_label y.kind = cc in
    outlives a b x y (region-is a x first) (region-is b y second)
constraint-is es law (TypeOutlives t r) (TypeOutlives u s) h g l e =
    let parts = first-of-two (trees_at es t.0) (trees_at es u.0) (region_label r.kind) (region_label s.kind) (type-single es law.sorted t.0 h.0) (type-single es law.sorted u.0 g.0) e in
    type-outlives t u r s (ap (λ i. record { 0 = i }) (same-handle es law types t.0 u.0 h.0 g.0 parts.0)) (region-is r s parts.1)
constraint-is es law x y h g l e = cc

constraints-are : (es : List Entry) → Lawful es → (xs ys : List RegionConstraint) → AllConstraintsHeld es xs → AllConstraintsHeld es ys → constraints_trees es xs ≡ constraints_trees es ys → xs ≡ ys
constraints-are es law [] [] h g e = refl
constraints-are es law [] (y ∷ ys) h g e = cc
constraints-are es law (x ∷ xs) [] h g e = cc
constraints-are es law (x ∷ xs) (y ∷ ys) h g e =
    let parts = node-parts _ _ _ _ _ _ e in
    next x y xs ys (constraint-is es law x y h.0 g.0 parts.0 parts.1) (constraints-are es law xs ys h.1 g.1 parts.2)

pub answers-are : (es : List Entry) → Lawful es → (r s : CanonicalResponse) → ResponseHeld es r → ResponseHeld es s → answer_trees es r ≡ answer_trees es s → SayTheSame r s
answers-are es law r s h g e =
    record {
      variables = ap (λ a. a.kinds) e;
      certainty = ap (λ a. a.certainty) e;
      values = args-are es law r.var_values.items s.var_values.items h.values g.values (ap (λ a. a.values) e);
      constraints = constraints-are es law r.region_constraints.items s.region_constraints.items h.constraints g.constraints (ap (λ a. a.constraints) e);
    }

pub same-answers : (es : List Entry) (r s : CanonicalResponse) → SayTheSame r s → answer_trees es r ≡ answer_trees es s
same-answers es r s e = answer-cong _ _ _ _ _ _ _ _ e.variables e.certainty (ap (values_of es) e.values) (ap (constraints_trees es) e.constraints)

-- ---- while the interner grows
module _ (old new : List Entry) (k : Keeps old new) where
  pub response-held-later : (r : CanonicalResponse) → ResponseHeld old r → ResponseHeld new r
  response-held-later r h =
      record {
        values = args-held-later old new k r.var_values.items h.values;
        constraints = constraints-kept old new r.region_constraints.items k h.constraints;
      }

  pub answer-later : (r : CanonicalResponse) → ResponseHeld old r → answer_trees new r ≡ answer_trees old r
  answer-later r h = answer-cong _ _ _ _ _ _ _ _ refl refl (values-later old new k r.var_values.items h.values) (constraints-later old new k r.region_constraints.items h.constraints)
