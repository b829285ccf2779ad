-- Candidates that are rules, while the interner grows.
use Rattle.std.proofs.Common.{◌≡◌, ◌+◌, ℕ, zero, suc, Bool, true, false, if◌then◌else◌, List, [], ◌∷◌, ◌++◌, take, refl, sym, subst, Some, arith}
use Rattle.std.specs.List.{AllZip, slice_get}
use Rattle.sessions.specs.TypeTerms.Promised.Rules.{by_impl}
use Rattle.sessions.specs.TypeTerms.Promised.Rules as rule
use Rattle.sessions.specs.TypeTerms.Promised.Proofs.{In}
use Rattle.sessions.specs.TypeTerms.Promised.Handles.{Entry, Keeps}
use Rattle.sessions.specs.TypeTerms.Promised.Worlds.{World, Reference, CrateDecl}
use Rattle.sessions.specs.TermFolds.declared.predicate.TraitRef.{TraitRef}
use Rattle.sessions.specs.Declarations.Applied.{TraitRefsHeld}
use Rattle.sessions.specs.Declarations.Held.{ReferenceHeld}
use Rattle.sessions.specs.Declarations.Promised.Elaboration.{Each}
use Rattle.sessions.specs.GoalEvaluator.declared.candidate.CandidateSource.{CandidateSource}
use Rattle.explain_traces.specs.Walking.{ReferencesHeld}
use Rattle.explain_traces.specs.declared.nodes.CandidateNode.{CandidateNode}
use Rattle.explain_traces.specs.declared.nodes.GoalWalk.{GoalWalk}
use Rattle.sessions.specs.ProofChecker.Checked.{IsConcludedFrom}
use Rattle.sessions.specs.ProofChecker.Steps.{term_of, terms_of}
use Rattle.sessions.proofs.ProofChecker.Later.{term-same, terms-same}
use Rattle.sessions.proofs.ProofsAside.{rules-aside}
use Rattle.explain_sessions.specs.Rules.{AreChecked, Concludes, IsRuleCandidate, IsRuleAt, MayApplyAt, MayHaveRule, HasRulesByBoth}
use Rattle.explain_sessions.specs.declared.walks.CheckedCandidates.{CheckedCandidates}
use Rattle.explain_sessions.proofs.ShownSteps.{every-there}
use Rattle.sessions.proofs.Declarations.Basics.{each-push as each-put}

-- one more item stands beside its own
pub zip-push : {A B : Type 0} (R : A → B → Type 0) (xs : List A) (i j : ℕ) (x : A) (ys : List B) (y : B) → j ≡ i + 1 → AllZip R (take i xs) ys → slice_get xs i ≡ Some x → R x y → AllZip R (take j xs) (ys ++ y ∷ [])
zip-push R [] i j x ys y q h e p = absurd cc
zip-push R (z ∷ xs) i zero x ys y q h e p = absurd (omega (arith, q))
zip-push R (z ∷ xs) zero (suc j) x [] y q h e p =
    let same : z ≡ x = cc in
    let none : j ≡ 0 = omega (arith, q) in
    subst (λ k. AllZip R (z ∷ take k xs) (y ∷ [])) (sym none) (subst (λ w. R w y) (sym same) p, tt)
zip-push R (z ∷ xs) zero (suc j) x (w ∷ ys) y q h e p = absurd h
zip-push R (z ∷ xs) (suc i) (suc j) x [] y q h e p = absurd h
zip-push R (z ∷ xs) (suc i) (suc j) x (w ∷ ys) y q h e p = (h.0, zip-push R xs i j x ys y (omega (arith, q)) h.1 e p)

pub put-if : {A : Type 0} (P : A → Type 0) (xs : List A) (x : A) (b : Bool) → Each P xs → (b ≡ true → P x) → Each P (if b then xs ++ x ∷ [] else xs)
put-if P xs x true h p = each-put P xs x h (p refl)
put-if P xs x false h p = h

-- references of a walk are the interner's
pub there-held : (es : List Entry) (rs : List TraitRef) (k : ℕ) (r : TraitRef) → ReferencesHeld es rs → slice_get rs k ≡ Some r → ReferenceHeld es r
there-held es rs k r h e = every-there (ReferenceHeld es) rs k r h e

pub all-held : (es : List Entry) (rs : List TraitRef) (ks : List ℕ) (vs : List TraitRef) → ReferencesHeld es rs → AllZip (λ k r. slice_get rs k ≡ Some r) ks vs → TraitRefsHeld es vs
all-held es rs [] [] h z = tt
all-held es rs [] (v ∷ vs) h z = absurd z
all-held es rs (k ∷ ks) [] h z = absurd z
all-held es rs (k ∷ ks) (v ∷ vs) h z = (there-held es rs k v h z.0, all-held es rs ks vs h z.1)

-- what is a rule later was one before
pub follows-before : (es now : List Entry) → Keeps es now → (V W : World) → V ≡ W → (E : List Reference) (r : TraitRef) → ReferenceHeld es r → (w : rule.Way) (ps : List TraitRef) → TraitRefsHeld es ps
    → IsConcludedFrom V E (term_of now r) w (terms_of now ps) → IsConcludedFrom W E (term_of es r) w (terms_of es ps)
follows-before es now k V W e E r h w ps g f =
    subst (λ (U : World). IsConcludedFrom U E (term_of es r) w (terms_of es ps)) e
    (subst (λ t. IsConcludedFrom V E t w (terms_of es ps)) (term-same es now k r h)
    (subst (λ ts. IsConcludedFrom V E (term_of now r) w ts) (terms-same es now k ps g) f))

pub concludes-before : (es now : List Entry) → Keeps es now → (V W : World) → V ≡ W → (s : CandidateSource) (r : TraitRef) → ReferenceHeld es r → (ps : List TraitRef) → TraitRefsHeld es ps
    → Concludes now V s r ps → Concludes es W s r ps
concludes-before es now k V W e s r h ps g f = λ E. let x = f E in (x.0, x.1, follows-before es now k V W e E r h x.0 ps g x.2)

pub rule-before : (es now : List Entry) → Keeps es now → (V W : World) → V ≡ W → (rs : List TraitRef) → ReferencesHeld es rs → (p : ℕ) (c : CandidateNode) → IsRuleCandidate now V rs p c → IsRuleCandidate es W rs p c
rule-before es now k V W e rs h p c x = record {
  reference = x.reference;
  goal = x.goal;
  premises = x.premises;
  asked = x.asked;
  concludes = concludes-before es now k V W e c.source x.reference (there-held es rs p x.reference h x.goal) x.premises (all-held es rs c.premises.items x.premises h x.asked) x.concludes;
}

pub at-before : (es now : List Entry) → Keeps es now → (V W : World) → V ≡ W → (w : GoalWalk) → ReferencesHeld es w.references.items → (x : ℕ × ℕ) → IsRuleAt now V w x → IsRuleAt es W w x
at-before es now k V W e w h x i = (i.0, i.1, i.2, i.3, rule-before es now k V W e w.references.items h x.0 i.2 i.4)

-- what may apply later might before
pub may-have-before : (V W : World) → V ≡ W → (r s : Reference) → r ≡ s → (i : ℕ) → MayHaveRule V r i → MayHaveRule W s i
may-have-before V W e r s q i x = subst (λ (U : World). MayHaveRule U s i) e (subst (λ (t : Reference). MayHaveRule V t i) q x)

pub may-before : (es now : List Entry) → Keeps es now → (V W : World) → V ≡ W → (w : GoalWalk) → ReferencesHeld es w.references.items → (x : ℕ × ℕ) → MayApplyAt now V w x → MayApplyAt es W w x
may-before es now k V W e w h x i = (
  i.0,
  i.1,
  i.2,
  i.3,
  (let m = i.4 in record {
    reference = m.reference;
    goal = m.goal;
    number = m.number;
    source = m.source;
    rule = may-have-before V W e (term_of now m.reference) (term_of es m.reference) (term-same es now k m.reference (there-held es w.references.items x.0 m.reference h m.goal)) m.number.index m.rule;
  }),
)

-- Which crates a world lists makes no difference.
pub concluded-aside : (V : World) (cs : List CrateDecl) (E : List Reference) (r : Reference) (w : rule.Way) (ps : List Reference) → IsConcludedFrom V E r w ps → IsConcludedFrom (record V { crates = cs }) E r w ps
concluded-aside V cs E r w ps f = (f.0, subst (In (let u : rule.Rule = record { way = w; premises = ps ++ f.0 } in u)) (sym (rules-aside V cs E r)) f.1)

pub at-aside : (V : World) (cs : List CrateDecl) (es : List Entry) (w : GoalWalk) (x : ℕ × ℕ) → IsRuleAt es V w x → IsRuleAt es (record V { crates = cs }) w x
at-aside V cs es w x i = (
  i.0,
  i.1,
  i.2,
  i.3,
  (let r = i.4 in record {
    reference = r.reference;
    goal = r.goal;
    premises = r.premises;
    asked = r.asked;
    concludes = λ E. let y = r.concludes E in (y.0, y.1, concluded-aside V cs E (term_of es r.reference) y.0 (terms_of es r.premises) y.2);
  }),
)

each-at-aside : (V : World) (cs : List CrateDecl) (es : List Entry) (w : GoalWalk) (xs : List (ℕ × ℕ)) → Each (IsRuleAt es V w) xs → Each (IsRuleAt es (record V { crates = cs }) w) xs
each-at-aside V cs es w [] h = tt
each-at-aside V cs es w (x ∷ xs) h = (at-aside V cs es w x h.0, each-at-aside V cs es w xs h.1)

may-aside : (V : World) (cs : List CrateDecl) (es : List Entry) (w : GoalWalk) (x : ℕ × ℕ) → MayApplyAt es V w x → MayApplyAt es (record V { crates = cs }) w x
may-aside V cs es w x i = (
  i.0,
  i.1,
  i.2,
  i.3,
  (let m = i.4 in record {
    reference = m.reference;
    goal = m.goal;
    number = m.number;
    source = m.source;
    rule = (m.rule.0, m.rule.1, λ E. concluded-aside V cs E m.rule.0 (by_impl m.number.index) [] (m.rule.2 E));
  }),
)

each-may-aside : (V : World) (cs : List CrateDecl) (es : List Entry) (w : GoalWalk) (xs : List (ℕ × ℕ)) → Each (MayApplyAt es V w) xs → Each (MayApplyAt es (record V { crates = cs }) w) xs
each-may-aside V cs es w [] h = tt
each-may-aside V cs es w (x ∷ xs) h = (may-aside V cs es w x h.0, each-may-aside V cs es w xs h.1)

pub checked-aside : (V : World) (cs : List CrateDecl) (es : List Entry) (w : GoalWalk) (c : CheckedCandidates) → AreChecked es V w c → AreChecked es (record V { crates = cs }) w c
checked-aside V cs es w c h = record { rules = each-at-aside V cs es w c.rules.items h.rules; chances = each-may-aside V cs es w c.chances.items h.chances }

-- ---- what two impls have in common
pub both-aside : (V : World) (cs : List CrateDecl) (r : Reference) (i j : ℕ) → HasRulesByBoth V r i j → HasRulesByBoth (record V { crates = cs }) r i j
both-aside V cs r i j h = (λ E. concluded-aside V cs E r (by_impl i) [] (h.0 E), λ E. concluded-aside V cs E r (by_impl j) [] (h.1 E))

pub both-moved : (V W : World) → V ≡ W → (r s : Reference) → r ≡ s → (i j : ℕ) → HasRulesByBoth V r i j → HasRulesByBoth W s i j
both-moved V W e r s q i j h = subst (λ (U : World). HasRulesByBoth U s i j) e (subst (λ t. HasRulesByBoth V t i j) q h)
