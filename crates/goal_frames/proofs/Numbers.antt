-- What the numbers of a store represent.
use Rattle.std.proofs.Common.{rules, ◌≡◌, ◌∙◌, List, refl, ap, sym, subst, Option, Some, None, option_map, true}
use Rattle.std.specs.Bool.{Decides}
use Rattle.std.proofs.lemmas.Option.{same_Some}
use Rattle.type_terms.specs.Promised.Handles.{Entry, Keeps}
use Rattle.type_terms.specs.Terms.{Lawful}
use Rattle.type_terms.specs.Promised.Handles.{ArgsHeld}
use Rattle.infer_table.specs.Content.{AllConstraintsHeld}
use Rattle.infer_table.specs.Canonical.{GoalTrees, CanonicalForm, canonical_form, AreRenamings}
use Rattle.infer_table.specs.declared.certainty.TypingMode.{TypingMode}
use Rattle.infer_table.specs.declared.canonical.CanonicalVarKind.{CanonicalVarKind}
use Rattle.infer_table.specs.declared.input.CanonicalInput.{CanonicalInput}
use Rattle.infer_table.specs.declared.response.CanonicalResponse.{CanonicalResponse}
use Rattle.infer_table.specs.contracts.input.CanonicalInputPartialEq.TheImpl.{ghosts as input}
use Rattle.infer_table.specs.contracts.response.CanonicalResponsePartialEq.TheImpl.{ghosts as response}
use Rattle.infer_table.specs.Goals.{GoalHeld, ClausesHeld, PredicateHeld}
use Rattle.infer_table.specs.Inputs.{AreEqual, IsCanonicalInput}
use Rattle.infer_table.proofs.Numbers.{goal-trees-later}
use Rattle.infer_table.proofs.CanonicalLaws.{canonical_form-renamed, canonical_form-equal}
use Rattle.infer_table.proofs.Questions.{input-eq, forms-equal, equal-forms}
use Rattle.infer_table.specs.Responses.{AnswerTrees, ResponseHeld, answer_trees, SayTheSame}
use Rattle.goal_frames.specs.declared.store.GoalStore.{GoalStore}
use Rattle.goal_frames.specs.declared.store.InputId.{InputId}
use Rattle.goal_frames.specs.declared.store.ResponseId.{ResponseId}
use Rattle.goal_frames.specs.contracts.store.InputIdPartialEq.TheImpl.{ghosts as input-id}
use Rattle.goal_frames.specs.contracts.store.ResponseIdPartialEq.TheImpl.{ghosts as response-id}
use Rattle.goal_frames.specs.Stores.{input_at, response_at, AskedGoal, asked_goal, goal_at, answer_at, StoreIsHeld, StandsForGoal, NumbersTellQuestions}
use Rattle.goal_frames.proofs.Places.{one-place}
use Rattle.goal_frames.proofs.Answers.{response-eq, response-back, answers-are}

-- ---- goals
pub input-back : (a b : CanonicalInput) → AreEqual a b → AreEqual b a
input-back a b e = record { mode = sym e.mode; environment = sym e.environment; predicate = sym e.predicate; variables = sym e.variables }

pub input-chain : (a b c : CanonicalInput) → AreEqual a b → AreEqual b c → AreEqual a c
input-chain a b c e f = record { mode = e.mode ∙ f.mode; environment = e.environment ∙ f.environment; predicate = e.predicate ∙ f.predicate; variables = e.variables ∙ f.variables }

pub response-chain : (a b c : CanonicalResponse) → SayTheSame a b → SayTheSame b c → SayTheSame a c
response-chain a b c e f = record { variables = e.variables ∙ f.variables; certainty = e.certainty ∙ f.certainty; values = e.values ∙ f.values; constraints = e.constraints ∙ f.constraints }

goal-cong : (m n : TypingMode) (f g : CanonicalForm) → m ≡ n → f ≡ g → ◌≡◌ {A = AskedGoal} (record { mode = m; form = f }) (record { mode = n; form = g })
goal-cong m n f g p q = cc

pub same-goals : (es : List Entry) (a b : CanonicalInput) → AreEqual a b → asked_goal es a ≡ asked_goal es b
same-goals es a b e = goal-cong _ _ _ _ e.mode (equal-forms es a b e)

pub goals-are : (es : List Entry) → Lawful es → (a b : CanonicalInput) → GoalHeld es a.goal → GoalHeld es b.goal → asked_goal es a ≡ asked_goal es b → AreEqual a b
goals-are es law a b h g e = forms-equal es law a b h g (ap (λ q. q.mode) e) (ap (λ q. q.form) e)

form-cong : (g h : GoalTrees) (ks : List (Option CanonicalVarKind)) → g ≡ h → ◌≡◌ {A = CanonicalForm} (record { goal = g; kinds = ks }) (record { goal = h; kinds = ks })
form-cong g h ks e = cc

pub goal-later : (old new : List Entry) → Keeps old new → (a : CanonicalInput) → GoalHeld old a.goal → asked_goal new a ≡ asked_goal old a
goal-later old new k a h = goal-cong _ _ _ _ refl (form-cong _ _ _ (goal-trees-later old new k a.goal h))

-- ---- numbers
pub input-id-eq : (i j : InputId) → Decides (input-id.eq i j) (i ≡ j)
input-id-eq i j = search rules

pub response-id-eq : (i j : ResponseId) → Decides (response-id.eq i j) (i ≡ j)
response-id-eq i j = search rules

pub equal-input-ids : (i j : InputId) → input-id.eq i j ≡ true → i ≡ j
equal-input-ids i j e = (input-id-eq i j).0 e

pub equal-response-ids : (i j : ResponseId) → response-id.eq i j ≡ true → i ≡ j
equal-response-ids i j e = (response-id-eq i j).0 e

pub some-of : {A B : Type 0} (f : A → B) (o : Option A) (b : B) → option_map f o ≡ Some b → (a : A) × (o ≡ Some a) × (f a ≡ b)
some-of f None b h = cc
some-of f (Some a) b h = (a, refl, same_Some _ _ h)

pub one-input : (s : GoalStore) (i j : InputId) (a b : CanonicalInput) → input_at s i ≡ Some a → input_at s j ≡ Some b → AreEqual a b → i ≡ j
one-input s i j a b h g e = ap (λ n. record { 0 = n }) (one-place input.eq AreEqual input-eq input-back s.inputs.keys s.inputs_distinct i.0 j.0 a b h g e)

pub one-response : (s : GoalStore) (i j : ResponseId) (a b : CanonicalResponse) → response_at s i ≡ Some a → response_at s j ≡ Some b → SayTheSame a b → i ≡ j
one-response s i j a b h g e = ap (λ n. record { 0 = n }) (one-place response.eq SayTheSame response-eq response-back s.responses.keys s.responses_distinct i.0 j.0 a b h g e)

pub one-goal : (es : List Entry) (s : GoalStore) (i j : InputId) (q : AskedGoal) → Lawful es → StoreIsHeld es s → goal_at es s i ≡ Some q → goal_at es s j ≡ Some q → i ≡ j
one-goal es s i j q law held h g =
    let a = some-of (asked_goal es) (input_at s i) q h in
    let b = some-of (asked_goal es) (input_at s j) q g in
    one-input s i j a.0 b.0 a.1 b.1 (goals-are es law a.0 b.0 (held.inputs i a.0 a.1) (held.inputs j b.0 b.1) (a.2 ∙ sym b.2))

pub one-answer : (es : List Entry) (s : GoalStore) (i j : ResponseId) (q : AnswerTrees) → Lawful es → StoreIsHeld es s → answer_at es s i ≡ Some q → answer_at es s j ≡ Some q → i ≡ j
one-answer es s i j q law held h g =
    let a = some-of (answer_trees es) (response_at s i) q h in
    let b = some-of (answer_trees es) (response_at s j) q g in
    one-response s i j a.0 b.0 a.1 b.1 (answers-are es law a.0 b.0 (held.responses i a.0 a.1) (held.responses j b.0 b.1) (a.2 ∙ sym b.2))

-- what stands for a goal stands for each that a renaming carries it to
pub asks-renamed : (es : List Entry) (s : GoalStore) (i : InputId) (g h : GoalTrees) (a : CanonicalInput) → IsCanonicalInput es h a → StandsForGoal es s i a.mode g → AreRenamings g h → goal_at es s i ≡ Some (asked_goal es a)
asks-renamed es s i g h a is q r = q ∙ ap Some (goal-cong _ _ _ _ refl (canonical_form-renamed g h r ∙ sym is.form))

asked-parts : (m n : TypingMode) (f g : CanonicalForm) → ◌≡◌ {A = Option AskedGoal} (Some (record { mode = m; form = f })) (Some (record { mode = n; form = g })) → (m ≡ n) × (f ≡ g)
asked-parts m n f g e = let q : ◌≡◌ {A = AskedGoal} (record { mode = m; form = f }) (record { mode = n; form = g }) = same_Some _ _ e in (ap (λ (a : AskedGoal). a.mode) q, ap (λ (a : AskedGoal). a.form) q)

pub numbers-tell-questions : NumbersTellQuestions
numbers-tell-questions es s i j m n g h law held p q a b = (
  λ e.
      let parts = asked-parts m n (canonical_form g) (canonical_form h) (sym a ∙ ap (goal_at es s) e ∙ b) in
      (parts.0, canonical_form-equal g h p.environment p.predicate q.environment q.predicate parts.1),
  λ r. one-goal es s i j (record { mode = m; form = canonical_form g }) law held a (b ∙ ap Some (sym (goal-cong m n (canonical_form g) (canonical_form h) r.0 (canonical_form-renamed g h r.1)))),
)

-- what stands at a place stays the same where it does for what stands there
pub same-at : {A B : Type 0} (f g : A → B) (o : Option A) → ((a : A) → o ≡ Some a → f a ≡ g a) → option_map f o ≡ option_map g o
same-at f g None h = refl
same-at f g (Some a) h = ap Some (h a refl)

-- ---- copies
pub copied-goal-held : (es : List Entry) (a b : CanonicalInput) → AreEqual a b → GoalHeld es b.goal → GoalHeld es a.goal
copied-goal-held es a b e h = record { environment = subst (ClausesHeld es) (sym e.environment) h.environment; predicate = subst (PredicateHeld es) (sym e.predicate) h.predicate }

pub copied-response-held : (es : List Entry) (r s : CanonicalResponse) → SayTheSame r s → ResponseHeld es s → ResponseHeld es r
copied-response-held es r s e h = record { values = subst (ArgsHeld es) (sym e.values) h.values; constraints = subst (AllConstraintsHeld es) (sym e.constraints) h.constraints }
