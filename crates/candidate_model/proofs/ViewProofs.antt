-- What has a proof by a view, together with its supertraits, follows by a rule of the view.
use Rattle.std.proofs.Common.{◌≡◌, ℕ, true, if◌then◌else◌, []}
use Rattle.std.specs.List.{flat_map}
use Rattle.type_terms.specs.Promised.Worlds.{World, Reference}
use Rattle.type_terms.specs.Promised.Rules.{Rule, rules, strict_supertraits}
use Rattle.type_terms.specs.Promised.Proofs.{In}
use Rattle.type_terms.specs.Promised.Proofs.{HasElaboratedProof}
use Rattle.type_terms.specs.Promised.Answers.{is_closed}
use Rattle.type_terms.specs.Promised.Walks.{is_known_in}
use Rattle.type_terms.proofs.Members.{in-left, flat-in}
use Rattle.type_terms.proofs.NoHolds.{every-member}
use Rattle.type_terms.proofs.ElaboratedProofs.{elaborated-rule, elaborated-supers}
use Rattle.candidate_model.specs.Declared.{is_declared_view, LeadDown}
use Rattle.candidate_model.proofs.DeclaredParts.{bound-declared}
use Rattle.candidate_model.proofs.HavingViews.{LeadsOn, ProvesBy}
use Rattle.candidate_model.proofs.ClosedPremises.{plain, leads-to-closed}

module _ (V : World) (crate : ℕ) (declared : is_declared_view V ≡ true) where
  by-shut : (r : Reference) (u : Rule) → is_closed r.args ≡ true → In u (rules V [] r) → (p : Reference) → In p u.premises → is_closed p.args ≡ true
  by-shut r u closed i p j =
      leads-to-closed V declared crate r p closed
      (in-left p (flat_map (λ (x : Rule). x.premises) (rules V [] r)) (if is_known_in V crate r then [] else strict_supertraits V r) (flat-in (λ (x : Rule). x.premises) (rules V [] r) u p i j))

  pub leads-on : (rank : ℕ → ℕ) → LeadDown V rank → LeadsOn V
  leads-on rank down = record { shut = by-shut; trait_rank = rank; down = down; plain = λ x b i j. plain b.args (bound-declared V declared x b i j) }

  pub view-proves : (rank : ℕ → ℕ) → LeadDown V rank → ProvesBy V crate (HasElaboratedProof V [])
  view-proves rank down = record {
    rule = λ r closed known h. elaborated-rule V [] r h;
    supers = λ r closed h s i. every-member (HasElaboratedProof V []) (strict_supertraits V r) s (elaborated-supers V [] r h) i;
    leads = leads-on rank down;
  }
