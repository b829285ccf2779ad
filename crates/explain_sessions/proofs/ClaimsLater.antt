-- What is claimed of a walk, while a session goes on.
use Rattle.std.proofs.Common.{◌≡◌, ℕ, Bool, true, false, List, [], ◌∷◌, ◌++◌, Option, Some, sym, ◌∙◌, subst}
use Rattle.std.specs.List.{slice_get}
use Rattle.sessions.specs.TypeTerms.Promised.Proofs.{HasProof}
use Rattle.sessions.specs.TypeTerms.Promised.Handles.{Entry, Keeps}
use Rattle.sessions.specs.TypeTerms.Promised.Worlds.{World, Reference}
use Rattle.sessions.specs.TermFolds.declared.predicate.TraitRef.{TraitRef}
use Rattle.sessions.specs.TextLanguage.Promised.Declarations.{Declarations}
use Rattle.sessions.specs.Declarations.Promised.Elaboration.{Each}
use Rattle.sessions.specs.OrphanCheck.declared.errors.Conflict.{Conflict}
use Rattle.explain_traces.specs.Walking.{ReferencesHeld}
use Rattle.explain_traces.specs.declared.nodes.GoalWalk.{GoalWalk}
use Rattle.sessions.specs.ProofChecker.Checked.{IsConcludedFrom}
use Rattle.sessions.specs.ProofChecker.Steps.{term_of, terms_of}
use Rattle.sessions.proofs.ProofChecker.Later.{term-same, terms-same}
use Rattle.sessions.specs.Promised.Promises.{view_in}
use Rattle.sessions.specs.Promised.Subjects.{Subject, StaysOn}
use Rattle.explain_sessions.specs.Adding.{HasFreeInstance}
use Rattle.explain_sessions.specs.Claims.{AddersHold, ClaimsHold, FreeHold, IsFreeAt, IsUnseenAt, MayAddAt, UnseenHold}
use Rattle.explain_sessions.specs.Refusals.{HoldsAt, IsRefusedAt, IsRefusedGoal}
use Rattle.explain_sessions.specs.Rules.{AreChecked, IsRuleAt, MayApplyAt, HasNoImplAt, HasNoImpl, MayHaveRule}
use Rattle.explain_sessions.specs.declared.walks.CheckedCandidates.{CheckedCandidates}
use Rattle.explain_sessions.specs.declared.adding.Adder.{Adder}
use Rattle.explain_sessions.specs.declared.claims.Claims.{Claims}
use Rattle.explain_sessions.proofs.RuleCandidates.{there-held, all-held}
use Rattle.sessions.proofs.Declarations.Growth.{each-kept as each-map}
use Rattle.sessions.proofs.Declarations.Basics.{each-push as each-put}

-- ---- while the interner grows
module _ (es now : List Entry) (k : Keeps es now) (V : World) (c : ℕ) (w : GoalWalk) (held : ReferencesHeld es w.references.items) where
  abbrev rs : List TraitRef
  rs = w.references.items

  same : (p : ℕ) (r : TraitRef) → slice_get rs p ≡ Some r → term_of es r ≡ term_of now r
  same p r e = sym (term-same es now k r (there-held es rs p r held e))

  rule-later : (x : ℕ × ℕ) → IsRuleAt es V w x → IsRuleAt now V w x
  rule-later x i = (
    i.0,
    i.1,
    i.2,
    i.3,
    (let r = i.4 in record {
      reference = r.reference;
      goal = r.goal;
      premises = r.premises;
      asked = r.asked;
      concludes = λ E. let y = r.concludes E in (
        y.0,
        y.1,
        subst (λ (t : Reference). IsConcludedFrom V E t y.0 (terms_of now r.premises)) (same x.0 r.reference r.goal)
            (subst (λ (ts : List Reference). IsConcludedFrom V E (term_of es r.reference) y.0 ts) (sym (terms-same es now k r.premises (all-held es rs i.2.premises.items r.premises held r.asked))) y.2),
      );
    }),
  )

  may-later : (x : ℕ × ℕ) → MayApplyAt es V w x → MayApplyAt now V w x
  may-later x i = (
    i.0,
    i.1,
    i.2,
    i.3,
    (let m = i.4 in record {
      reference = m.reference;
      goal = m.goal;
      number = m.number;
      source = m.source;
      rule = subst (λ (t : Reference). MayHaveRule V t m.number.index) (same x.0 m.reference m.goal) m.rule;
    }),
  )

  checked-later : (x : CheckedCandidates) → AreChecked es V w x → AreChecked now V w x
  checked-later x h = record { rules = each-map _ _ rule-later x.rules.items h.rules; chances = each-map _ _ may-later x.chances.items h.chances }

  refused-later : (p : ℕ) → IsRefusedAt es V c rs p → IsRefusedAt now V c rs p
  refused-later p x = (x.0, x.1, subst (IsRefusedGoal V c) (same p x.0 x.1) x.2)

  holds-later : (p : ℕ) → HoldsAt es V rs p → HoldsAt now V rs p
  holds-later p x = (x.0, x.1, subst (HasProof V []) (same p x.0 x.1) x.2)

  free-later : (p : ℕ) → IsFreeAt es V rs p → IsFreeAt now V rs p
  free-later p x = (x.0, x.1, subst (HasFreeInstance V) (same p x.0 x.1) x.2)

  no-impl-later : HasNoImplAt es V rs 0 → HasNoImplAt now V rs 0
  no-impl-later x = (x.0, x.1, subst (HasNoImpl V) (same 0 x.0 x.1) x.2)

-- ---- while a session stays on
module _ (s t : Subject) (on : StaysOn s t) (w : GoalWalk) (held : ReferencesHeld s.terms w.references.items) where
  moved : (P : Declarations → ℕ → Type 0) → P s.declarations s.of_crate → P t.declarations t.of_crate
  moved P h = subst (λ d. P d t.of_crate) (sym on.declarations) (subst (λ k. P s.declarations k) (sym on.of_crate) h)

  abbrev V : World
  V = view_in s.declarations s.of_crate

  pub checked-on : (x : CheckedCandidates) → AreChecked s.terms V w x → AreChecked t.terms (view_in t.declarations t.of_crate) w x
  checked-on x h = moved (λ d k. AreChecked t.terms (view_in d k) w x) (checked-later s.terms t.terms on.terms V s.of_crate w held x h)

  pub refused-on : (ps : List ℕ) → Each (IsRefusedAt s.terms V s.of_crate w.references.items) ps → Each (IsRefusedAt t.terms (view_in t.declarations t.of_crate) t.of_crate w.references.items) ps
  refused-on ps h = moved (λ d k. Each (IsRefusedAt t.terms (view_in d k) k w.references.items) ps) (each-map _ _ (refused-later s.terms t.terms on.terms V s.of_crate w held) ps h)

  pub holds-on : (ps : List ℕ) → Each (HoldsAt s.terms V w.references.items) ps → Each (HoldsAt t.terms (view_in t.declarations t.of_crate) w.references.items) ps
  holds-on ps h = moved (λ d k. Each (HoldsAt t.terms (view_in d k) w.references.items) ps) (each-map _ _ (holds-later s.terms t.terms on.terms V s.of_crate w held) ps h)

  pub free-on : (ps : List ℕ) → FreeHold s w ps → FreeHold t w ps
  free-on ps h = moved (λ d k. Each (IsFreeAt t.terms (view_in d k) w.references.items) ps) (each-map _ _ (free-later s.terms t.terms on.terms V s.of_crate w held) ps h)

  pub no-impl-on : HasNoImplAt s.terms V w.references.items 0 → HasNoImplAt t.terms (view_in t.declarations t.of_crate) w.references.items 0
  no-impl-on h = moved (λ d k. HasNoImplAt t.terms (view_in d k) w.references.items 0) (no-impl-later s.terms t.terms on.terms V s.of_crate w held h)

-- ---- few claims
pub none-held : {A : Type 0} (P : A → Type 0) (xs : List A) → xs ≡ [] → Each P xs
none-held P xs e = subst (Each P) (sym e) tt

not-both : {A : Type 0} (b : Bool) → b ≡ false → b ≡ true → A
not-both b e f = absurd (never (sym e ∙ f))
  where
    never : false ≡ true → ⊥
    never g = cc

pub of-candidates : (s : Subject) (w : GoalWalk) (x : Claims) → AreChecked s.terms (view_in s.declarations s.of_crate) w x.candidates → x.refused.items ≡ [] → x.held.items ≡ [] → x.unseen.items ≡ []
    → x.adders.items ≡ [] → x.no_impl ≡ false → x.no_built_in_rule ≡ false → ClaimsHold s w x
of-candidates s w x h a b d q e f = record {
  candidates = h;
  refused = none-held _ _ a;
  held = none-held _ _ b;
  unseen = none-held _ _ d;
  adders = none-held _ _ q;
  no_impl = λ y. not-both _ e y;
  no_built_in_rule = λ y. not-both _ f y;
}

-- no candidates at all
pub no-candidates : (es : List Entry) (V : World) (w : GoalWalk) (x : CheckedCandidates) → x.rules.items ≡ [] → x.chances.items ≡ [] → AreChecked es V w x
no-candidates es V w x a b = record { rules = none-held _ _ a; chances = none-held _ _ b }

pub one-more : (s : Subject) (w : GoalWalk) (xs : List (ℕ × Option Conflict)) (x : ℕ × Option Conflict) → UnseenHold s w xs → IsUnseenAt s.terms (view_in s.declarations s.of_crate) s.of_crate w.references.items x → UnseenHold s w (xs ++ x ∷ [])
one-more s w xs x h p = each-put (IsUnseenAt s.terms (view_in s.declarations s.of_crate) s.of_crate w.references.items) xs x h p

pub one-adder : (s : Subject) (w : GoalWalk) (xs : List (ℕ × Adder)) (x : ℕ × Adder) → AddersHold s w xs → MayAddAt s.terms (view_in s.declarations s.of_crate) s.of_crate w.references.items x → AddersHold s w (xs ++ x ∷ [])
one-adder s w xs x h p = each-put (MayAddAt s.terms (view_in s.declarations s.of_crate) s.of_crate w.references.items) xs x h p
