-- The merge of responses in code is the merge of their terms.
use Rattle.std.proofs.Common.{◌≡◌, ◌↔◌, ℕ, suc, ◌+◌, arith, ◌==◌, Bool, true, false, ◌&&◌, if◌then◌else◌, List, [], ◌∷◌, map, length, refl, sym, ◌∙◌, ap, subst, Option, Some, None, find, option_map, Result, Ok, Err, IfOk}
use Rattle.std.specs.Prelude.{IfSome}
use Rattle.std.specs.List.{list_all}
use Rattle.type_terms.specs.Trees.{is_no_tree}
use Rattle.type_terms.specs.Promised.Handles.{Entry}
use Rattle.type_terms.specs.Terms.{Lawful}
use Rattle.type_terms.specs.Promised.Handles.{ArgsHeld}
use Rattle.type_terms.specs.declared.kinds.GenericArgKind.{GenericArgKind}
use Rattle.infer_table.specs.Certainties.{all_joined, unsettled, is_certain}
use Rattle.infer_table.specs.Constraints.{constraints_trees}
use Rattle.infer_table.specs.Content.{AllConstraintsHeld}
use Rattle.infer_table.specs.declared.canonical.CanonicalVarKind.{CanonicalVarKind}
use Rattle.infer_table.specs.declared.terms.RegionConstraint.{RegionConstraint}
use Rattle.infer_table.specs.declared.response.CanonicalResponse.{CanonicalResponse}
use Rattle.infer_table.specs.contracts.response.CanonicalResponsePartialEq.TheImpl.{ghosts as response}
use Rattle.infer_table.specs.Values.{value_of, values_of}
use Rattle.infer_table.specs.Raw.{variables_from}
use Rattle.infer_table.specs.Responses.{AnswerTrees, ResponseHeld, answer_trees}
use Rattle.goal_evaluator.specs.declared.merge.MergeCandidateInfo.{MergeCandidateInfo}
use Rattle.goal_evaluator.specs.Lists.{Every}
use Rattle.goal_evaluator.specs.Merge.{or_else, common, merge_by, flounder}
use Rattle.goal_evaluator.specs.Responses.{Content, content, are_variables, is_always_applicable}
use Rattle.goal_evaluator.specs.TableAnswers.{is_variable_itself, is_fitting, IsWellFormed, respond}
use Rattle.goal_evaluator.specs.TableOperations.{begin}
use Rattle.goal_evaluator.proofs.TableBeginning.{begin-made}
use Rattle.goal_evaluator.proofs.WellFormed.{answers_well_formed}
use Rattle.goal_evaluator.specs.Tables.{frame_tables}
use Rattle.goal_evaluator.proofs.Filling.{itself-root}
use Rattle.goal_frames.specs.Handlers.{same_answer, are_own_variables, applies_always}
use Rattle.goal_evaluator.specs.StepReadings.{result_read}
use Rattle.goal_frames.specs.Merges.{merge_of}
use Rattle.goal_frames.proofs.Responses.{content_trees, equal-is}
use Rattle.goal_frames.proofs.Silences.{silent-is}
use Rattle.type_terms.proofs.NumberBasics.{some-length}
use Rattle.goal_evaluator.proofs.ListLaws.{Every-map as every-map}
use Rattle.infer_table.proofs.TypeBasics.{answer-cong}
use Rattle.goal_evaluator.proofs.TypeBasics.{map-else as else-map}

abbrev pub Trees_fit : List Entry → CanonicalResponse → Type 0
Trees_fit es r = IsWellFormed (answer_trees es r)

-- ---- lists, and what is chosen of them
find-map : {A B : Type 0} (p : A → Bool) (q : B → Bool) (f : A → B) (xs : List A) → Every (λ x. p x ≡ q (f x)) xs → option_map f (find p xs) ≡ find q (map f xs)
find-map p q f [] h = refl
find-map p q f (x ∷ xs) h = ap (λ b. option_map f (if b then Some x else find p xs)) h.0 ∙ by (q (f x)) (find-map p q f xs h.1)
  where
    by : (b : Bool) → option_map f (find p xs) ≡ find q (map f xs) → option_map f (if b then Some x else find p xs) ≡ (if b then Some (f x) else find q (map f xs))
    by true e = refl
    by false e = e

all-map : {A B : Type 0} (p : A → Bool) (q : B → Bool) (f : A → B) (xs : List A) → Every (λ x. p x ≡ q (f x)) xs → list_all p xs ≡ list_all q (map f xs)
all-map p q f [] h = refl
all-map p q f (x ∷ xs) h = ap (λ b. b && list_all p xs) h.0 ∙ ap (λ b. q (f x) && b) (all-map p q f xs h.1)

common-map : {A B : Type 0} (s : A → A → Bool) (r : B → B → Bool) (f : A → B) (xs : List A) → Every (λ x. Every (λ y. s x y ≡ r (f x) (f y)) xs) xs → option_map f (common s xs) ≡ common r (map f xs)
common-map s r f [] h = refl
common-map s r f (x ∷ xs) h = ap (λ b. option_map f (if b then Some x else None)) (all-map (s x) (r (f x)) f xs h.0.1) ∙ by (list_all (r (f x)) (map f xs))
  where
    by : (b : Bool) → option_map f (if b then Some x else None) ≡ (if b then Some (f x) else None)
    by true = refl
    by false = refl

merge-map : {A B : Type 0} (p : A → Bool) (q : B → Bool) (s : A → A → Bool) (r : B → B → Bool) (f : A → B) (xs : List A) → Every (λ x. p x ≡ q (f x)) xs → Every (λ x. Every (λ y. s x y ≡ r (f x) (f y)) xs) xs
    → option_map f (merge_by p s xs) ≡ merge_by q r (map f xs)
merge-map p q s r f xs h g = else-map f (find p xs) (common s xs) ∙ ap (λ z. or_else z (option_map f (common s xs))) (find-map p q f xs h) ∙ ap (or_else (find q (map f xs))) (common-map s r f xs g)

find-some : {A : Type 0} (P : A → Type 0) (p : A → Bool) (xs : List A) → Every P xs → IfSome (find p xs) P
find-some P p [] h = tt
find-some P p (x ∷ xs) h = by (p x) (find-some P p xs h.1)
  where
    by : (b : Bool) → IfSome (find p xs) P → IfSome (if b then Some x else find p xs) P
    by true e = h.0
    by false e = e

common-some : {A : Type 0} (P : A → Type 0) (s : A → A → Bool) (xs : List A) → Every P xs → IfSome (common s xs) P
common-some P s [] h = tt
common-some P s (x ∷ xs) h = by (list_all (s x) xs)
  where
    by : (b : Bool) → IfSome (if b then Some x else None) P
    by true = h.0
    by false = tt

else-some : {A : Type 0} (P : A → Type 0) (a b : Option A) → IfSome a P → IfSome b P → IfSome (or_else a b) P
else-some P None b h g = g
else-some P (Some x) b h g = h

pub merge-some : {A : Type 0} (P : A → Type 0) (p : A → Bool) (s : A → A → Bool) (xs : List A) → Every P xs → IfSome (merge_by p s xs) P
merge-some P p s xs h = else-some P (find p xs) (common s xs) (find-some P p xs h) (common-some P s xs h)

-- ---- a yes that says nothing
no-constraint : (es : List Entry) (cs : List RegionConstraint) → (length cs == 0) ≡ is_no_tree (constraints_trees es cs)
no-constraint es [] = refl
no-constraint es (c ∷ cs) = some-length (length cs)

own-variables : (es : List Entry) (own : List CanonicalVarKind) (i : ℕ) (xs : List GenericArgKind) → Every (λ v. is_fitting own v ≡ true) (values_of es xs) → are_variables es i xs ≡ are_own_variables i (values_of es xs)
own-variables es own i [] h = refl
own-variables es own i (x ∷ xs) h =
    ap (λ b. b && are_variables es (i + 1) xs) (sym (itself-root own i (value_of es x) h.0))
    ∙ ap (λ b. is_variable_itself i (value_of es x).sort (value_of es x).trees && b) (ap (λ n. are_variables es n xs) (next i) ∙ own-variables es own (suc i) xs h.1)
  where
    next : (i : ℕ) → i + 1 ≡ suc i
    next i = omega arith

pub always-is : (es : List Entry) (r : CanonicalResponse) → Trees_fit es r → is_always_applicable es r ≡ applies_always (answer_trees es r)
always-is es r h =
    ap (λ z. is_certain r.certainty && (z && (length r.region_constraints.items == 0))) (own-variables es r.variables.items 0 r.var_values.items h)
    ∙ ap (λ z. is_certain r.certainty && (are_own_variables 0 (values_of es r.var_values.items) && z)) (no-constraint es r.region_constraints.items)

-- ---- the merge
every-of : {A : Type 0} (P R : A → Type 0) → ((x : A) → P x → R x) → (xs : List A) → Every P xs → Every R xs
every-of P R f [] h = tt
every-of P R f (x ∷ xs) h = (f x h.0, every-of P R f xs h.1)

-- the response alone, of a response and how it came about
abbrev pub response_of : Option (CanonicalResponse × MergeCandidateInfo) → Option CanonicalResponse
response_of o = option_map (λ (x : CanonicalResponse × MergeCandidateInfo). x.0) o

pub response-content : (o : Option (CanonicalResponse × MergeCandidateInfo)) → option_map content (response_of o) ≡ option_map (λ (x : CanonicalResponse × MergeCandidateInfo). content x.0) o
response-content None = refl
response-content (Some x) = refl

module _ (es : List Entry) (law : Lawful es) (rs : List CanonicalResponse) (held : Every (ResponseHeld es) rs) (fit : Every (Trees_fit es) rs) where
  merge-trees : option_map (answer_trees es) (merge_by (is_always_applicable es) response.eq rs) ≡ merge_by applies_always same_answer (map (answer_trees es) rs)
  merge-trees =
      merge-map (is_always_applicable es) applies_always response.eq same_answer (answer_trees es) rs
      (every-of (Trees_fit es) (λ (r : CanonicalResponse). is_always_applicable es r ≡ applies_always (answer_trees es r)) (λ r h. always-is es r h) rs fit)
      (every-of (ResponseHeld es) (λ (r : CanonicalResponse). Every (λ (s : CanonicalResponse). response.eq r s ≡ same_answer (answer_trees es r) (answer_trees es s)) rs)
      (λ r h. every-of (ResponseHeld es) (λ (s : CanonicalResponse). response.eq r s ≡ same_answer (answer_trees es r) (answer_trees es s)) (λ s g. equal-is es law r s h g) rs held) rs held)

  by-content : (o : Option CanonicalResponse) → option_map (answer_trees es) o ≡ option_map (content_trees es) (option_map content o)
  by-content None = refl
  by-content (Some r) = refl

  -- what is merged in code
  pub merged-trees : (o : Option CanonicalResponse) → option_map content o ≡ option_map content (merge_by (is_always_applicable es) response.eq rs)
      → result_read es o ≡ merge_by applies_always same_answer (map (answer_trees es) rs)
  merged-trees o e = by-content o ∙ ap (option_map (content_trees es)) e ∙ sym (by-content (merge_by (is_always_applicable es) response.eq rs)) ∙ merge-trees

  abbrev ContentHeld : Content → Type 0
  ContentHeld c = ArgsHeld es c.values × AllConstraintsHeld es c.constraints

  some-held : (o : Option CanonicalResponse) → IfSome o (ResponseHeld es) → IfSome (option_map content o) ContentHeld
  some-held None h = tt
  some-held (Some r) h = (h.values, h.constraints)

  pub merged-held : (r : CanonicalResponse) → Some (content r) ≡ option_map content (merge_by (is_always_applicable es) response.eq rs) → ResponseHeld es r
  merged-held r e =
      let h : IfSome (Some (content r)) ContentHeld = subst (λ (z : Option Content). IfSome z ContentHeld) (sym e) (some-held (merge_by (is_always_applicable es) response.eq rs) (merge-some (ResponseHeld es) (is_always_applicable es) response.eq rs held)) in
      record { values = h.0; constraints = h.1 }

-- ---- what stands for responses without a merge
certainties : (es : List Entry) (rs : List CanonicalResponse) → map frame_tables.certainty (map (answer_trees es) rs) ≡ map (λ (r : CanonicalResponse). r.certainty) rs
certainties es [] = refl
certainties es (r ∷ rs) = ap (λ z. r.certainty ∷ z) (certainties es rs)

pub floundered-trees : (es new : List Entry) (ks : List CanonicalVarKind) (r : CanonicalResponse) (first : CanonicalResponse) (rest : List CanonicalResponse) → r.variables.items ≡ ks
    → r.certainty ≡ unsettled (all_joined (map (λ (x : CanonicalResponse). x.certainty) (first ∷ rest))) → r.region_constraints.items ≡ [] → values_of new r.var_values.items ≡ variables_from 0 ks
    → Some (answer_trees new r) ≡ flounder frame_tables (begin ks) (map (answer_trees es) (first ∷ rest))
floundered-trees es new ks r first rest v c d w =
    ap Some (answer-cong _ _ _ _ _ _ _ _ v c w (ap (constraints_trees new) d)
    ∙ sym (silent-is ks (unsettled (all_joined (map (λ (x : CanonicalResponse). x.certainty) (first ∷ rest))))))
    ∙ ap (λ z. Some (respond (begin ks) (unsettled (all_joined z)))) (sym (certainties es (first ∷ rest)))

-- ---- answers are well-formed
flounder-fits : (ks : List CanonicalVarKind) (rs : List AnswerTrees) → IfSome (flounder frame_tables (begin ks) rs) IsWellFormed
flounder-fits ks [] = tt
flounder-fits ks (r ∷ rs) = answers_well_formed (begin ks) (begin-made ks) (unsettled (all_joined (map frame_tables.certainty (r ∷ rs))))

pub answer-fits : (es : List Entry) (ks : List CanonicalVarKind) (rs : List CanonicalResponse) → Every (Trees_fit es) rs → IfSome (merge_of es ks rs) IsWellFormed
answer-fits es ks rs fit =
    let xs = map (answer_trees es) rs in
    else-some IsWellFormed (merge_by applies_always same_answer xs) (flounder frame_tables (begin ks) xs)
    (merge-some IsWellFormed applies_always same_answer xs (every-map IsWellFormed (answer_trees es) rs fit)) (flounder-fits ks xs)

-- ---- the merge, or what stands for it
pub taken : {A : Type 0} (m other : Option A) (x : A) → Some x ≡ m → Some x ≡ or_else m other
taken m other x e = ap (λ z. or_else z other) e

pub passed-on : {A : Type 0} (m other a : Option A) → None ≡ m → a ≡ other → a ≡ or_else m other
passed-on m other a e f = f ∙ ap (λ z. or_else z other) e

pub floundered : (es new : List Entry) (ks : List CanonicalVarKind) (rs : List CanonicalResponse) (a : Option CanonicalResponse) → (a ≡ None ↔ (rs ≡ [])) → IfSome a (λ r. r.variables.items ≡ ks)
    → IfSome a (λ r. r.certainty ≡ unsettled (all_joined (map (λ (x : CanonicalResponse). x.certainty) rs))) → IfSome a (λ r. r.region_constraints.items ≡ []) → IfSome a (λ r. values_of new r.var_values.items ≡ variables_from 0 ks)
    → result_read new a ≡ flounder frame_tables (begin ks) (map (answer_trees es) rs)
floundered es new ks [] None n v c d w = refl
floundered es new ks [] (Some r) n v c d w = absurd (some-none r (n.1 refl))
  where
    some-none : (r : CanonicalResponse) → Some r ≡ None → ⊥
    some-none r e = cc
floundered es new ks (x ∷ rs) None n v c d w = absurd (none-some x rs (n.0 refl))
  where
    none-some : (x : CanonicalResponse) (rs : List CanonicalResponse) → x ∷ rs ≡ [] → ⊥
    none-some x rs e = cc
floundered es new ks (x ∷ rs) (Some r) n v c d w = floundered-trees es new ks r x rs v c d w

pub floundered-result : (es new : List Entry) → Lawful es → (ks : List CanonicalVarKind) (rs : List CanonicalResponse) → Every (ResponseHeld es) rs → Every (Trees_fit es) rs
    → (o : Option CanonicalResponse) → option_map content o ≡ option_map content (merge_by (is_always_applicable es) response.eq rs) → o ≡ None → {E : Type 0} (x : Result (Option CanonicalResponse) E)
    → IfOk x (λ a. a ≡ None ↔ (rs ≡ [])) → IfOk x (λ a. IfSome a (λ r. r.variables.items ≡ ks))
    → IfOk x (λ a. IfSome a (λ r. r.certainty ≡ unsettled (all_joined (map (λ (y : CanonicalResponse). y.certainty) rs)))) → IfOk x (λ a. IfSome a (λ r. r.region_constraints.items ≡ []))
    → IfOk x (λ a. IfSome a (λ r. values_of new r.var_values.items ≡ variables_from 0 ks))
    → IfOk x (λ a. result_read new a ≡ merge_of es ks rs)
floundered-result es new law ks rs held fit o e nothing (Ok a) n v c d w =
    let xs = map (answer_trees es) rs in
    passed-on (merge_by applies_always same_answer xs) (flounder frame_tables (begin ks) xs) (result_read new a)
    (ap (result_read es) (sym nothing) ∙ merged-trees es law rs held fit o e) (floundered es new ks rs a n v c d w)
floundered-result es new law ks rs held fit o e nothing (Err y) n v c d w = tt
