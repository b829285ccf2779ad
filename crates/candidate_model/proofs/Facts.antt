-- Proofs of facts are proofs of the model.
use Rattle.std.proofs.Common.{◌≡◌, ℕ, Bool, true, false, ◌&&◌, if◌then◌else◌, List, [], ◌∷◌, filter, map, inl, inr, refl, sym, ◌∙◌, ap, subst}
use Rattle.type_terms.specs.Promised.Trees.{Trees, none, tree}
use Rattle.type_terms.specs.Codes.{same, same_label, same_numbers, numbers}
use Rattle.type_terms.specs.Promised.Worlds.{World, Reference}
use Rattle.type_terms.specs.Promised.Rules.{rules, is_coinductive}
use Rattle.type_terms.specs.Promised.Proofs.{In}
use Rattle.goal_evaluator.specs.Lists.{Every, IsAmong}
use Rattle.goal_evaluator.specs.Proof.{FactHasProof, facts, EntriesContinue}
use Rattle.goal_evaluator.proofs.ListLaws.{Every-mono, Every-at, both-right}
use Rattle.type_terms.proofs.Matching.{same-sound}
use Rattle.type_terms.proofs.Members.{self-number}
use Rattle.goal_evaluator.specs.ByRules.{HasRule, HasProofByRules}
use Rattle.goal_evaluator.proofs.ByRules.{proofs_are_proofs}
use Rattle.goal_evaluator.specs.Content.{Fact}
use Rattle.candidate_model.specs.Facts.{clauses_of, reference_in, beside, is_plain, FollowsByView, is_coinductive_trait, is_coinductive_fact, ProofsOfFactsAreProofs, ReferencesComeBack}
use Rattle.type_terms.proofs.BooleanBasics.{true-false, both-left}
pub use Rattle.declarations.proofs.Stacks.{same-numbers-self, same-self}

pub references-come-back : ReferencesComeBack
references-come-back [] = refl
references-come-back (r ∷ rs) = ap (λ z. r ∷ z) (references-come-back rs)

module _ (V : World) (E : Trees) where
  -- the facts that count
  abbrev counts : Fact → Bool
  counts f = f.proper && (is_plain f && same f.goal.environment E)

  abbrev Entry : Type 0
  Entry = Fact × List Fact

  abbrev references : List Fact → List Reference
  references fs = map reference_in (filter counts fs)

  abbrev Goes : List Reference → List Reference → List (Reference × List Reference) → Type 0
  Goes all earlier es = EntriesContinue Reference (HasRule V (clauses_of E)) (λ s. is_coinductive V s.trait) all earlier es

  parts : (p : Fact) → counts p ≡ true → (p.proper ≡ true) × (is_plain p ≡ true) × (p.goal.environment ≡ E)
  parts p c =
      let r = both-right p.proper (is_plain p && same p.goal.environment E) c in
      (both-left p.proper (is_plain p && same p.goal.environment E) c, both-left (is_plain p) (same p.goal.environment E) r, same-sound p.goal.environment E (both-right (is_plain p) (same p.goal.environment E) r))

  both : (a b c : Bool) → a ≡ true → b ≡ true → c ≡ true → a && (b && c) ≡ true
  both a b c p q r = rw (p, q, r) refl

  -- what counts among facts stands among the references
  kept : (p : Fact) (fs : List Fact) → IsAmong p fs → counts p ≡ true → IsAmong (reference_in p) (references fs)
  kept p [] i c = absurd i
  kept p (f ∷ fs) i c = by (counts f) refl i (λ j. kept p fs j c)
    where
      by : (b : Bool) → counts f ≡ b → IsAmong p (f ∷ fs) → (IsAmong p fs → IsAmong (reference_in p) (references fs)) → IsAmong (reference_in p) (map reference_in (if b then f ∷ filter counts fs else filter counts fs))
      by true e (inl q) go = inl (ap reference_in q)
      by true e (inr j) go = inr (go j)
      by false e (inl q) go = absurd (true-false (sym c ∙ ap counts q ∙ e))
      by false e (inr j) go = go j

  kept-in : (b : Bool) (p : Fact) (all earlier : List Fact) → IsAmong p (if b then all else earlier) → counts p ≡ true → IsAmong (reference_in p) (if b then references all else references earlier)
  kept-in true p all earlier i c = kept p all i c
  kept-in false p all earlier i c = kept p earlier i c

  kind : (f : Fact) → beside f (reference_in f) ≡ f → is_coinductive_fact V f ≡ is_coinductive V (reference_in f).trait
  kind f e = ap (is_coinductive_trait V) (sym (ap (λ (g : Fact). g.trait) e))

  -- an entry of a fact that counts is one of its reference, with the rule's own premises
  abbrev entry-at : (f : Fact) (ps : List Fact) → FollowsByView V f ps → (b : Bool) → counts f ≡ b → List (Reference × List Reference) → List (Reference × List Reference)
  entry-at f ps law true q rest = let p = parts f q in (reference_in f, (law p.0 p.1).references) ∷ rest
  entry-at f ps law false q rest = rest

  abbrev entries : (all earlier : List Fact) (es : List Entry) → EntriesContinue Fact (FollowsByView V) (is_coinductive_fact V) all earlier es → List (Reference × List Reference)
  entries all earlier [] c = []
  entries all earlier (e ∷ es) c = entry-at e.0 e.1 c.0 (counts e.0) refl (entries all (e.0 ∷ earlier) es c.2)

  -- a premise among these stands where they stand
  premise-stands : (all earlier : List Fact) (f : Fact) (ps : List Fact) → counts f ≡ true → (b : Bool) → Every (λ p. IsAmong p (if b then all else earlier)) ps → Every (λ p. is_plain p ≡ true) ps → (r : Reference) → IsAmong (beside f r) ps
      → IsAmong r (if b then references all else references earlier)
  premise-stands all earlier f ps c b among plain r i =
      let p = parts f c in
      let is_so = Every-at (λ q. is_plain q ≡ true) (λ q. beside f r ≡ q) (is_plain (beside f r) ≡ true) (λ q x e. subst (λ z. is_plain z ≡ true) (sym e) x) ps plain i in
      let stands = Every-at (λ q. IsAmong q (if b then all else earlier)) (λ q. beside f r ≡ q) (IsAmong (beside f r) (if b then all else earlier)) (λ q x e. subst (λ z. IsAmong z (if b then all else earlier)) (sym e) x) ps among i in
      kept-in b (beside f r) all earlier stands
      (both f.proper (is_plain (beside f r)) (same f.goal.environment E) p.0 is_so (both-right (is_plain f) (same f.goal.environment E) (both-right f.proper (is_plain f && same f.goal.environment E) c)))

  goes-at : (all earlier : List Fact) (f : Fact) (ps : List Fact) (law : FollowsByView V f ps) (b : Bool) (q : counts f ≡ b) (rest : List (Reference × List Reference))
      → Every (λ p. IsAmong p (if is_coinductive_fact V f then all else earlier)) ps → Goes (references all) (map reference_in (if b then f ∷ filter counts earlier else filter counts earlier)) rest
      → Goes (references all) (references earlier) (entry-at f ps law b q rest)
  goes-at all earlier f ps law false q rest among g = g
  goes-at all earlier f ps law true q rest among g =
      let p = parts f q in
      let x = law p.0 p.1 in (
        (x.way, subst (λ e. In (record { way = x.way; premises = x.references }) (rules V (clauses_of e) (reference_in f))) p.2 x.rule),
        Every-mono (λ r. IsAmong (beside f r) ps) (λ r. IsAmong r (if is_coinductive V (reference_in f).trait then references all else references earlier))
            (λ r i. subst (λ b. IsAmong r (if b then references all else references earlier)) (kind f x.asks) (premise-stands all earlier f ps q (is_coinductive_fact V f) among x.plain r i)) x.references x.among,
        g,
      )

  continues : (all earlier : List Fact) (es : List Entry) (c : EntriesContinue Fact (FollowsByView V) (is_coinductive_fact V) all earlier es) → Goes (references all) (references earlier) (entries all earlier es c)
  continues all earlier [] c = tt
  continues all earlier (e ∷ es) c = goes-at all earlier e.0 e.1 c.0 (counts e.0) refl (entries all (e.0 ∷ earlier) es c.2) c.1 (continues all (e.0 ∷ earlier) es c.2)

  concluded-at : (f : Fact) (ps : List Fact) (law : FollowsByView V f ps) (b : Bool) (q : counts f ≡ b) (rest : List (Reference × List Reference)) (fs : List Fact) → map (λ (x : Reference × List Reference). x.0) rest ≡ references fs
      → map (λ (x : Reference × List Reference). x.0) (entry-at f ps law b q rest) ≡ map reference_in (if b then f ∷ filter counts fs else filter counts fs)
  concluded-at f ps law true q rest fs e = ap (λ z. reference_in f ∷ z) e
  concluded-at f ps law false q rest fs e = e

  concluded : (all earlier : List Fact) (es : List Entry) (c : EntriesContinue Fact (FollowsByView V) (is_coinductive_fact V) all earlier es)
      → map (λ (x : Reference × List Reference). x.0) (entries all earlier es c) ≡ references (map (λ (e : Entry). e.0) es)
  concluded all earlier [] c = refl
  concluded all earlier (e ∷ es) c = concluded-at e.0 e.1 c.0 (counts e.0) refl (entries all (e.0 ∷ earlier) es c.2) (map (λ (x : Entry). x.0) es) (concluded all (e.0 ∷ earlier) es c.2)

  pub proof-of-references : (f : Fact) → counts f ≡ true → FactHasProof Fact (FollowsByView V) (is_coinductive_fact V) f → HasProofByRules V (clauses_of E) (reference_in f)
  proof-of-references f c p =
      let all = facts Fact (FollowsByView V) (is_coinductive_fact V) p.0 in (
        entries all [] p.0 p.1,
        subst (λ z. Goes z [] (entries all [] p.0 p.1)) (sym (concluded all [] p.0 p.1)) (continues all [] p.0 p.1),
        subst (IsAmong (reference_in f)) (sym (concluded all [] p.0 p.1)) (kept f all p.2 c),
      )

pub proofs-of-facts : ProofsOfFactsAreProofs
proofs-of-facts V f proper plain p =
    proofs_are_proofs V (clauses_of f.goal.environment) (reference_in f)
    (proof-of-references V f.goal.environment f (rw (proper, plain, same-self f.goal.environment) refl) p)
