-- Responses are equal exactly if they state the same.
use Rattle.std.proofs.Common.{rules, ◌≡◌, List, refl, ap}
use Rattle.std.specs.Bool.{Decides}
use Rattle.std.proofs.lemmas.Slice.Eq.{slice_eq-Decides}
use Rattle.type_terms.specs.declared.kinds.GenericArgKind.{GenericArgKind}
use Rattle.type_terms.proofs.Equal.{both, through}
use Rattle.infer_table.specs.declared.canonical.CanonicalVarKind.{CanonicalVarKind}
use Rattle.infer_table.specs.declared.certainty.Certainty.{Certainty}
use Rattle.infer_table.specs.declared.certainty.Certainty.TheVariants.{Yes, Maybe}
use Rattle.infer_table.specs.declared.certainty.MaybeCause.{MaybeCause}
use Rattle.infer_table.specs.declared.terms.RegionConstraint.{RegionConstraint}
use Rattle.infer_table.specs.declared.terms.RegionConstraint.TheVariants.{Equal, RegionOutlives, TypeOutlives}
use Rattle.infer_table.specs.contracts.certainty.CertaintyPartialEq.TheImpl.{ghosts as certainty}
use Rattle.infer_table.specs.contracts.certainty.MaybeCausePartialEq.TheImpl.{ghosts as cause}
use Rattle.infer_table.specs.contracts.terms.RegionConstraintPartialEq.TheImpl.{ghosts as constraint}
use Rattle.infer_table.specs.declared.response.CanonicalResponse.{CanonicalResponse}
use Rattle.infer_table.specs.contracts.response.CanonicalResponsePartialEq.TheImpl.{ghosts as response}
use Rattle.infer_table.proofs.LeafFacts.{region-eq, ty-eq, arg-eq}
use Rattle.goal_evaluator.specs.Responses.{Content, content}
use Rattle.infer_table.proofs.TypeBasics.{kind-eq}

cause-eq : (a b : MaybeCause) → Decides (cause.eq a b) (a ≡ b)
cause-eq a b = search rules

pub certainty-eq : (a b : Certainty) → Decides (certainty.eq a b) (a ≡ b)
certainty-eq Yes Yes = (λ e. refl, λ e. refl)
certainty-eq (Maybe a) (Maybe b) = through _ _ _ (cause-eq a b) (λ p. ap Maybe p) (λ e. cc)
certainty-eq _ _ = (λ e. cc, λ e. cc)

constraint-eq : (a b : RegionConstraint) → Decides (constraint.eq a b) (a ≡ b)
constraint-eq (Equal a b) (Equal x y) = through _ _ _ (both _ _ _ _ (region-eq a x) (region-eq b y)) (λ p. cc) (λ e. (cc, cc))
constraint-eq (RegionOutlives a b) (RegionOutlives x y) = through _ _ _ (both _ _ _ _ (region-eq a x) (region-eq b y)) (λ p. cc) (λ e. (cc, cc))
constraint-eq (TypeOutlives t r) (TypeOutlives u s) = through _ _ _ (both _ _ _ _ (ty-eq t u) (region-eq r s)) (λ p. cc) (λ e. (cc, cc))
constraint-eq _ _ = (λ e. cc, λ e. cc)

pub content-cong : (a b : List CanonicalVarKind) (c d : Certainty) (v w : List GenericArgKind) (r s : List RegionConstraint) → a ≡ b → c ≡ d → v ≡ w → r ≡ s
    → ◌≡◌ {A = Content} (record { variables = a; certainty = c; values = v; constraints = r }) (record { variables = b; certainty = d; values = w; constraints = s })
content-cong a b c d v w r s p q x y = cc

pub response-eq : (a b : CanonicalResponse) → Decides (response.eq a b) (content a ≡ content b)
response-eq a b =
    through _ _ _
    (both _ _ _ _ (slice_eq-Decides kind-eq a.variables.items b.variables.items _ refl)
    (both _ _ _ _ (certainty-eq a.certainty b.certainty)
    (both _ _ _ _ (slice_eq-Decides arg-eq a.var_values.items b.var_values.items _ refl) (slice_eq-Decides constraint-eq a.region_constraints.items b.region_constraints.items _ refl))))
    (λ p. content-cong _ _ _ _ _ _ _ _ p.0 p.1.0 p.1.1.0 p.1.1.1)
    (λ e. (ap (λ x. x.variables) e, (ap (λ x. x.certainty) e, (ap (λ x. x.values) e, ap (λ x. x.constraints) e))))
