-- Each solution of a goal in a linked set is one by a candidate.
use Rattle.std.proofs.Common.{◌≡◌, ℕ, zero, suc, Bool, true, false, not, ◌&&◌, ◌||◌, ◌==◌, if◌then◌else◌, List, [], ◌∷◌, ◌++◌, map, ◌⊎◌, inl, inr, refl, sym, ◌∙◌, ap, subst, Some}
use Rattle.type_terms.specs.Promised.Label.{Label, of_type, of_const, of_lifetime, dynamic, slice, adt, principal, auto_trait, fn_ptr, param, placeholder, infer, canonical, bound, predicate}
use Rattle.type_terms.specs.Promised.Trees.{Trees, none, tree, erase_label, some_node}
use Rattle.type_terms.specs.Trees.{is_no_tree}
use Rattle.type_terms.specs.Promised.Worlds.{World, Reference}
use Rattle.type_terms.specs.Promised.Rules.{Rule, rules, is_fn_trait, call_rules, unsize, unsize_rules, unsize_array_rules, unsize_to_dyn_rules, unsize_upcast_rules, unsize_struct_rules, object_rules}
use Rattle.type_terms.specs.Promised.Proofs.{In}
use Rattle.type_terms.specs.Promised.Answers.{is_closed, is_open}
use Rattle.type_terms.proofs.Fitting.{child-shut, next-shut}
use Rattle.type_terms.proofs.Walking.{left, right}
use Rattle.type_terms.specs.Made.{terms}
use Rattle.type_terms.specs.Made.{bounds}
use Rattle.type_terms.specs.Made.{is_leaf_label, is_made}
use Rattle.infer_table.specs.declared.canonical.CanonicalVarKind.{CanonicalVarKind}
use Rattle.infer_table.specs.declared.canonical.CanonicalVarKind.TheVariants.{Ty, PlaceholderTy, Const, PlaceholderConst, Region}
use Rattle.goal_evaluator.specs.Lists.{Every, SomeOf}
use Rattle.goal_evaluator.specs.Instances.{read_with}
use Rattle.goal_evaluator.specs.Content.{given, trait_of}
use Rattle.goal_evaluator.specs.FrameTables.{kind_at}
use Rattle.goal_evaluator.specs.TableAnswers.{is_kind_of}
use Rattle.candidate_model.specs.Facts.{reference_in, children_of, trait_or_first}
use Rattle.candidate_model.specs.Meaning.{ViewMeaning}
use Rattle.candidate_model.specs.Declared.{is_declared_view}
use Rattle.candidate_model.specs.Determined.{ImplsAreDetermined}
use Rattle.candidate_model.specs.Asking.{all_known, is_rigid, begins_with_type, with_plain_head, next_of, self_of, begins_unknown}
use Rattle.goal_evaluator.specs.Variables.{is_variable_over}
use Rattle.candidate_model.specs.Candidates.{Candidate, by_unsize, call_of, unsize_array_of, upcasts_of, unsize_struct_of, unsize_known, recording, unsizing_outlives, unsize_recording, as_written, misc, unsure, if_so, by_objects, objects_of}
use Rattle.candidate_model.specs.Solver.{has_placeholder}
use Rattle.candidate_model.specs.Cover.{slots, SolvesEquations, goal_fact}
use Rattle.candidate_model.proofs.HavingViews.{ViewRulesAreCandidates, ThereAreCandidates}
use Rattle.candidate_model.proofs.Reading.{read_reference}
use Rattle.candidate_model.proofs.Agreeing.{own-read}
use Rattle.candidate_model.proofs.Supers.{Proved, open-none}
use Rattle.candidate_model.proofs.Cover.{IsAsked, asked-by, known-kinds, solutions-are-candidates}
use Rattle.candidate_model.proofs.Recording.{some-recorded, gives-recorded}
use Rattle.candidate_model.proofs.ByView.{OtherRows, rigid-read, rigid-head, premises-proved, by-view, some-left, some-right, written, unsure-gives}
use Rattle.candidate_model.proofs.Rows.{read_rule}
use Rattle.candidate_model.proofs.Unsizing.{unsize-natural}
use Rattle.candidate_model.proofs.Calls.{arrays-at, arrays-other, call-under}
use Rattle.candidate_model.proofs.ErasedHeads.{erased-dynamic, erased-struct}
use Rattle.candidate_model.proofs.Objects.{object-premises, supers-proved, objects-at}
use Rattle.candidate_model.proofs.Upcasts.{upcasts-at, upcasts-other}
use Rattle.candidate_model.proofs.StructUnsizing.{structs-at, structs-other}
use Rattle.type_terms.proofs.Members.{in-nothing, in-append}
use Rattle.candidate_model.proofs.Impls.{impl-row}
use Rattle.type_terms.proofs.BooleanBasics.{true-false}
use Rattle.candidate_model.proofs.SoundToDyn.{unknown-or-place}

-- ---- the self type is known
-- its outermost constructor
pub record Head (t : Trees) : Type 0 where
  pub label : Label
  pub children : Trees
  pub others : Trees
  pub is : t ≡ tree label children others
  pub rigid : is_rigid label ≡ true

placeholder-there : (ks : List CanonicalVarKind) (i : ℕ) → kind_at ks i ≡ Some PlaceholderTy → has_placeholder ks ≡ true
placeholder-there [] i e = absurd (cc)
placeholder-there (PlaceholderTy ∷ ks) i e = refl
placeholder-there (PlaceholderConst ∷ ks) i e = refl
placeholder-there (Ty ∷ ks) zero e = absurd (cc)
placeholder-there (Ty ∷ ks) (suc i) e = placeholder-there ks i e
placeholder-there (Const ∷ ks) zero e = absurd (cc)
placeholder-there (Const ∷ ks) (suc i) e = placeholder-there ks i e
placeholder-there (Region ∷ ks) zero e = absurd (cc)
placeholder-there (Region ∷ ks) (suc i) e = placeholder-there ks i e

head-of : (ks : List CanonicalVarKind) (t : Trees) → begins_with_type t ≡ true → is_made (is_variable_over ks) terms t ≡ true → begins_unknown ks (with_plain_head t) ≡ false → has_placeholder ks ≡ false → Head t
head-of ks none b m u p = absurd (true-false (sym b))
head-of ks (tree (canonical of_type i) c o) b m u p =
    absurd (true-false (sym (placeholder-there ks i
    (unknown-or-place (kind_at ks i)
    (left (is_kind_of of_type (kind_at ks i)) ((not true || is_no_tree c) && (is_made (is_variable_over ks) terms c && is_made (is_variable_over ks) terms o)) m) u)) ∙ p))
head-of ks (tree l c o) b m u p = record { label = l; children = c; others = o; is = refl; rigid = b }

target-of : (ks : List CanonicalVarKind) (t : Trees) → begins_with_type t ≡ true → is_made (is_variable_over ks) terms t ≡ true → begins_unknown ks t ≡ false → has_placeholder ks ≡ false → Head t
target-of ks none b m u p = absurd (true-false (sym b))
target-of ks (tree (canonical of_type i) c o) b m u p = head-of ks (tree (canonical of_type i) c o) b m u p
target-of ks (tree l c o) b m u p = record { label = l; children = c; others = o; is = refl; rigid = b }

when : (b c : Bool) → b ≡ true → (not b || c) ≡ true → c ≡ true
when true c e f = f
when false c e f = absurd (true-false (sym e))

others-made : (good : Label → Bool) (l : Label) (c o : Trees) → is_rigid l ≡ true → is_made good terms (tree l c o) ≡ true → is_made good terms o ≡ true
others-made good dynamic c o r m = right (is_made good bounds c) (is_made good terms o) m
others-made good (principal n i) c o r m = absurd (true-false (sym m))
others-made good (auto_trait i) c o r m = absurd (true-false (sym m))
others-made good (predicate i) c o r m = absurd (true-false (sym m))
others-made good l c o r m =
    right (is_made good terms c) (is_made good terms o) (right (not (is_leaf_label l) || is_no_tree c) (is_made good terms c && is_made good terms o) (right (good l) ((not (is_leaf_label l) || is_no_tree c) && (is_made good terms c && is_made good terms o)) m))

erased-twice : (l : Label) → erase_label (erase_label l) ≡ erase_label l
erased-twice (fn_ptr n) = refl
erased-twice (principal n i) = refl
erased-twice (param of_lifetime i) = refl
erased-twice (placeholder of_lifetime i) = refl
erased-twice (infer of_lifetime i) = refl
erased-twice (canonical of_lifetime i) = refl
erased-twice (bound of_lifetime i j) = refl
erased-twice (param of_type i) = refl
erased-twice (placeholder of_type i) = refl
erased-twice (infer of_type i) = refl
erased-twice (canonical of_type i) = refl
erased-twice (bound of_type i j) = refl
erased-twice (param of_const i) = refl
erased-twice (placeholder of_const i) = refl
erased-twice (infer of_const i) = refl
erased-twice (canonical of_const i) = refl
erased-twice (bound of_const i j) = refl
erased-twice l = refl

erased-slice : (l : Label) → erase_label l ≡ slice → l ≡ slice
erased-slice slice e = refl
erased-slice (param of_type i) e = cc
erased-slice (param of_const i) e = cc
erased-slice (param of_lifetime i) e = absurd (cc)
erased-slice (placeholder of_type i) e = cc
erased-slice (placeholder of_const i) e = cc
erased-slice (placeholder of_lifetime i) e = absurd (cc)
erased-slice (infer of_type i) e = cc
erased-slice (infer of_const i) e = cc
erased-slice (infer of_lifetime i) e = absurd (cc)
erased-slice (canonical of_type i) e = cc
erased-slice (canonical of_const i) e = cc
erased-slice (canonical of_lifetime i) e = absurd (cc)
erased-slice (bound of_type i j) e = cc
erased-slice (bound of_const i j) e = cc
erased-slice (bound of_lifetime i j) e = absurd (cc)
erased-slice (fn_ptr n) e = absurd (cc)
erased-slice (principal n i) e = absurd (cc)
erased-slice l e = cc

-- no `dyn` is read where another type stands
natural-target : (V : World) (d : is_declared_view V ≡ true) (xs : List Trees) (good : Label → Bool) (l : Label) (c o : Trees) → is_rigid l ≡ true → is_made good terms o ≡ true → Head o
    → unsize_to_dyn_rules V (tree (erase_label l) (read_with (given xs) c) (read_with (given xs) o)) ≡ map (read_rule V d xs) (unsize_to_dyn_rules V (tree (erase_label l) c o))
natural-target V d xs good l c o r m h =
    subst (λ t. unsize_to_dyn_rules V (tree (erase_label l) (read_with (given xs) c) (read_with (given xs) t)) ≡ map (read_rule V d xs) (unsize_to_dyn_rules V (tree (erase_label l) c t))) (sym h.is)
    (ap (λ t. unsize_to_dyn_rules V (tree (erase_label l) (read_with (given xs) c) t)) (rigid-read xs h.label h.children h.others h.rigid) ∙ by h.label h.children h.others (subst (λ t. is_made good terms t ≡ true) h.is m))
  where
    self : read_with (given xs) (tree (erase_label l) c none) ≡ tree (erase_label l) (read_with (given xs) c) none
    self = rigid-read xs (erase_label l) c none (rigid-head l r) ∙ ap (λ k. tree k (read_with (given xs) c) none) (erased-twice l)

    by : (k : Label) (b p : Trees) → is_made good terms (tree k b p) ≡ true
        → unsize_to_dyn_rules V (tree (erase_label l) (read_with (given xs) c) (tree (erase_label k) (read_with (given xs) b) (read_with (given xs) p))) ≡ map (read_rule V d xs) (unsize_to_dyn_rules V (tree (erase_label l) c (tree k b p)))
    by dynamic b p n = unsize-natural V d xs good (erase_label l) c b p self (left (is_made good bounds b) (is_made good terms p) n)
    by (param of_lifetime i) b p n = refl
    by (param of_type i) b p n = refl
    by (param of_const i) b p n = refl
    by (placeholder of_lifetime i) b p n = refl
    by (placeholder of_type i) b p n = refl
    by (placeholder of_const i) b p n = refl
    by (infer of_lifetime i) b p n = refl
    by (infer of_type i) b p n = refl
    by (infer of_const i) b p n = refl
    by (canonical of_lifetime i) b p n = refl
    by (canonical of_type i) b p n = refl
    by (canonical of_const i) b p n = refl
    by (bound of_lifetime i j) b p n = refl
    by (bound of_type i j) b p n = refl
    by (bound of_const i j) b p n = refl
    by k b p n = refl

module _ (m : ViewMeaning) (declared : is_declared_view m.view ≡ true) (determined : ImplsAreDetermined m.view) where
  pub view-rules : ViewRulesAreCandidates m
  view-rules H f a e known leads no_placeholders v s u i ps = by-view H m.view declared a v head.label head.children head.others head.is head.rigid closed other u in_rules proved
    where
      is : IsAsked m.view f.goal.environment f.goal.predicate (all_known f.kinds) a
      is = asked-by m.view f.goal.environment f.goal.predicate (all_known f.kinds) a e

      no_place : has_placeholder a.kinds ≡ false
      no_place = ap has_placeholder (sym (known-kinds f.kinds a.kinds is.kinds_are)) ∙ no_placeholders

      head : Head a.reference.args
      head = head-of a.kinds a.reference.args is.begins is.over known no_place

      xs : List Trees
      xs = slots a.kinds v []

      reference-is : reference_in (goal_fact f v) ≡ read_reference xs a.reference
      reference-is =
          ap (λ p. record { trait = trait_or_first (trait_of p); args = children_of (read_with (given v.terms) p) }) is.predicate_is
          ∙ ap (λ z. record { trait = a.reference.trait; args = z }) (sym (own-read a.kinds v.terms [] a.reference.args is.over))

      closed : is_closed (read_with (given xs) a.reference.args) ≡ true
      closed = subst (λ (r : Reference). is_closed r.args ≡ true) reference-is s.closed

      in_rules : In u (rules m.view [] (read_reference xs a.reference))
      in_rules = subst (λ r. In u (rules m.view [] r)) reference-is i

      proved : Every (Proved H) u.premises
      proved =
          premises-proved m.view H leads (read_reference xs a.reference) u closed in_rules u.premises (λ p j. j) ps

      read : Trees → Trees
      read t = read_with (given xs) t

      read-is : read a.reference.args ≡ tree (erase_label head.label) (read head.children) (read head.others)
      read-is = ap (read_with (given xs)) head.is ∙ rigid-read xs head.label head.children head.others head.rigid

      self-is : self_of a ≡ tree (erase_label head.label) head.children head.others
      self-is = ap with_plain_head head.is

      over-others : is_made (is_variable_over a.kinds) terms head.others ≡ true
      over-others = others-made (is_variable_over a.kinds) head.label head.children head.others head.rigid (subst (λ t. is_made (is_variable_over a.kinds) terms t ≡ true) head.is is.over)

      target-begins : (a.reference.trait == unsize) ≡ true → begins_with_type head.others ≡ true
      target-begins q = when (a.reference.trait == unsize) (begins_with_type head.others) q (subst (λ t. (not (a.reference.trait == unsize) || begins_with_type (next_of t)) ≡ true) head.is is.target)

      shut : some_node is_open (tree (erase_label head.label) (read head.children) (read head.others)) ≡ false
      shut = subst (λ t. some_node is_open t ≡ false) read-is (open-none (read a.reference.args) closed)

      -- the bounds of a `dyn` that stands as Self
      bounds-made : erase_label head.label ≡ dynamic → is_made (is_variable_over a.kinds) bounds head.children ≡ true
      bounds-made q =
          left (is_made (is_variable_over a.kinds) bounds head.children) (is_made (is_variable_over a.kinds) terms head.others)
          (subst (λ t. is_made (is_variable_over a.kinds) terms t ≡ true) (head.is ∙ ap (λ l. tree l head.children head.others) (erased-dynamic head.label q)) is.over)

      plain : Trees
      plain = tree (erase_label head.label) head.children head.others

      -- the four kinds of candidates of `Unsize`, where the target is known
      all-dyns : List Candidate
      all-dyns = as_written m.view a misc (unsize_to_dyn_rules m.view plain)

      array-given : SomeOf (SolvesEquations H a.kinds v) (unsize_array_of m.view a plain) → SomeOf (SolvesEquations H a.kinds v) (unsize_known m.view a plain)
      array-given g = some-left (SolvesEquations H a.kinds v) (unsize_array_of m.view a plain) (all-dyns ++ (upcasts_of m.view a plain ++ unsize_struct_of m.view a plain)) g

      dyn-given : SomeOf (SolvesEquations H a.kinds v) all-dyns → SomeOf (SolvesEquations H a.kinds v) (unsize_known m.view a plain)
      dyn-given g =
          some-right (SolvesEquations H a.kinds v) (unsize_array_of m.view a plain) (all-dyns ++ (upcasts_of m.view a plain ++ unsize_struct_of m.view a plain))
          (some-left (SolvesEquations H a.kinds v) all-dyns (upcasts_of m.view a plain ++ unsize_struct_of m.view a plain) g)

      upcast-given : SomeOf (SolvesEquations H a.kinds v) (upcasts_of m.view a plain) → SomeOf (SolvesEquations H a.kinds v) (unsize_known m.view a plain)
      upcast-given g =
          some-right (SolvesEquations H a.kinds v) (unsize_array_of m.view a plain) (all-dyns ++ (upcasts_of m.view a plain ++ unsize_struct_of m.view a plain))
          (some-right (SolvesEquations H a.kinds v) all-dyns (upcasts_of m.view a plain ++ unsize_struct_of m.view a plain)
          (some-left (SolvesEquations H a.kinds v) (upcasts_of m.view a plain) (unsize_struct_of m.view a plain) g))

      struct-given : SomeOf (SolvesEquations H a.kinds v) (unsize_struct_of m.view a plain) → SomeOf (SolvesEquations H a.kinds v) (unsize_known m.view a plain)
      struct-given g =
          some-right (SolvesEquations H a.kinds v) (unsize_array_of m.view a plain) (all-dyns ++ (upcasts_of m.view a plain ++ unsize_struct_of m.view a plain))
          (some-right (SolvesEquations H a.kinds v) all-dyns (upcasts_of m.view a plain ++ unsize_struct_of m.view a plain)
          (some-right (SolvesEquations H a.kinds v) (upcasts_of m.view a plain) (unsize_struct_of m.view a plain) g))

      -- a row whose target is known
      to-dyn : (target : Head head.others) (x : Rule) → In x (unsize_to_dyn_rules m.view (tree (erase_label head.label) (read head.children) (read head.others))) → Every (Proved H) x.premises → SomeOf (SolvesEquations H a.kinds v) (unsize_known m.view a plain)
      to-dyn target x j y =
          dyn-given (written H m.view declared a v misc (unsize_to_dyn_rules m.view plain) x
          (subst (In x) (natural-target m.view declared xs (is_variable_over a.kinds) head.label head.children head.others head.rigid over-others target) j) y)

      others-read : (target : Head head.others) → read head.others ≡ tree (erase_label target.label) (read target.children) (read target.others)
      others-read target = ap (read_with (given xs)) target.is ∙ rigid-read xs target.label target.children target.others target.rigid

      to-array : (target : Head head.others) (x : Rule) → In x (unsize_array_rules (tree (erase_label head.label) (read head.children) (read head.others))) → SomeOf (SolvesEquations H a.kinds v) (unsize_known m.view a plain)
      to-array target x j =
          let k = subst (λ t. In x (unsize_array_rules (tree (erase_label head.label) (read head.children) t))) (others-read target) j in
          let same : erase_label target.label ≡ slice = arrays-other H m.view a v (erase_label head.label) (read head.children) (erase_label target.label) (read target.children) (read target.others) x k in
          let o_is : head.others ≡ tree slice target.children target.others = target.is ∙ ap (λ l. tree l target.children target.others) (erased-slice target.label same) in
          array-given (subst (λ o. SomeOf (SolvesEquations H a.kinds v) (unsize_array_of m.view a (tree (erase_label head.label) head.children o))) (sym o_is)
          (arrays-at H m.view a v (erase_label head.label) head.children none target.children target.others x (subst (λ l. In x (unsize_array_rules (tree (erase_label head.label) (read head.children) (tree l (read target.children) (read target.others))))) same k)))

      to-upcast : (target : Head head.others) (x : Rule) → In x (unsize_upcast_rules m.view (tree (erase_label head.label) (read head.children) (read head.others))) → SomeOf (SolvesEquations H a.kinds v) (unsize_known m.view a plain)
      to-upcast target x j =
          let k = subst (λ t. In x (unsize_upcast_rules m.view (tree (erase_label head.label) (read head.children) t))) (others-read target) j in
          let same : erase_label target.label ≡ dynamic = upcasts-other H m.view declared leads.plain leads.trait_rank leads.down a v (erase_label head.label) (read head.children) (erase_label target.label) (read target.children) (read target.others) x k in
          let o_is : head.others ≡ tree dynamic target.children target.others = target.is ∙ ap (λ l. tree l target.children target.others) (erased-dynamic target.label same) in
          let made = left (is_made (is_variable_over a.kinds) bounds target.children) (is_made (is_variable_over a.kinds) terms target.others) (subst (λ t. is_made (is_variable_over a.kinds) terms t ≡ true) o_is over-others) in
          upcast-given (subst (λ o. SomeOf (SolvesEquations H a.kinds v) (upcasts_of m.view a (tree (erase_label head.label) head.children o))) (sym o_is)
          (upcasts-at H m.view declared leads.plain leads.trait_rank leads.down a v (is_variable_over a.kinds) (erase_label head.label) head.children target.children target.others
          bounds-made made (subst (λ t. some_node is_open (tree (erase_label head.label) (read head.children) (read t)) ≡ false) o_is shut) x
          (subst (λ l. In x (unsize_upcast_rules m.view (tree (erase_label head.label) (read head.children) (tree l (read target.children) (read target.others))))) same k)))

      to-struct : (target : Head head.others) (x : Rule) → In x (unsize_struct_rules m.view (tree (erase_label head.label) (read head.children) (read head.others))) → Every (Proved H) x.premises → SomeOf (SolvesEquations H a.kinds v) (unsize_known m.view a plain)
      to-struct target x j y =
          let k = subst (λ t. In x (unsize_struct_rules m.view (tree (erase_label head.label) (read head.children) t))) (others-read target) j in
          let same = structs-other H m.view declared a v (erase_label head.label) (read head.children) (erase_label target.label) (read target.children) (read target.others) x k in
          let o_is : head.others ≡ tree (adt same.0) target.children target.others = target.is ∙ ap (λ l. tree l target.children target.others) (erased-struct target.label same.0 same.1) in
          let others_shut : some_node is_open (read (tree (adt same.0) target.children target.others)) ≡ false = subst (λ t. some_node is_open (read t) ≡ false) o_is (next-shut is_open (erase_label head.label) (read head.children) (read head.others) shut) in
          struct-given (subst (λ o. SomeOf (SolvesEquations H a.kinds v) (unsize_struct_of m.view a (tree (erase_label head.label) head.children o))) (sym o_is)
          (structs-at H m.view declared a v (erase_label head.label) head.children same.0 target.children target.others
          (child-shut is_open (erase_label head.label) (read head.children) (read head.others) shut) (child-shut is_open (adt same.0) (read target.children) (read target.others) others_shut) x
          (subst (λ l. In x (unsize_struct_rules m.view (tree (erase_label head.label) (read head.children) (tree l (read target.children) (read target.others))))) same.1 k) y))

      known-row : (x : Rule) → Head head.others → In x (unsize_rules m.view (tree (erase_label head.label) (read head.children) (read head.others))) → Every (Proved H) x.premises → SomeOf (SolvesEquations H a.kinds v) (unsize_known m.view a plain)
      known-row x target j y = first (in-append x arrays (dyns ++ (upcasts ++ structs)) j)
        where
          at : Trees
          at = tree (erase_label head.label) (read head.children) (read head.others)

          arrays : List Rule
          arrays = unsize_array_rules at

          dyns : List Rule
          dyns = unsize_to_dyn_rules m.view at

          upcasts : List Rule
          upcasts = unsize_upcast_rules m.view at

          structs : List Rule
          structs = unsize_struct_rules m.view at

          third : In x upcasts ⊎ In x structs → SomeOf (SolvesEquations H a.kinds v) (unsize_known m.view a plain)
          third (inl k) = to-upcast target x k
          third (inr k) = to-struct target x k y

          second : In x dyns ⊎ In x (upcasts ++ structs) → SomeOf (SolvesEquations H a.kinds v) (unsize_known m.view a plain)
          second (inl k) = to-dyn target x k y
          second (inr k) = third (in-append x upcasts structs k)

          first : In x arrays ⊎ In x (dyns ++ (upcasts ++ structs)) → SomeOf (SolvesEquations H a.kinds v) (unsize_known m.view a plain)
          first (inl k) = to-array target x k
          first (inr k) = second (in-append x dyns (upcasts ++ structs) k)

      known-or-not : (x : Rule) → (a.reference.trait == unsize) ≡ true → (b : Bool) → begins_unknown a.kinds head.others ≡ b → In x (unsize_rules m.view (tree (erase_label head.label) (read head.children) (read head.others))) → Every (Proved H) x.premises
          → SomeOf (SolvesEquations H a.kinds v) (if b then unsure ∷ [] else map (recording (unsizing_outlives a.reference.args)) (unsize_known m.view a plain))
      known-or-not x q true e j y = inl (unsure-gives H m.view declared a v)
      known-or-not x q false e j y =
          let r = unsizing_outlives a.reference.args in
          some-recorded r (SolvesEquations H a.kinds v) (gives-recorded r H a.kinds v) (unsize_known m.view a plain) (known-row x (target-of a.kinds head.others (target-begins q) over-others e no_place) j y)

      unsizes-at : (x : Rule) (b : Bool) → (a.reference.trait == unsize) ≡ b → In x (if b then unsize_rules m.view (read a.reference.args) else []) → Every (Proved H) x.premises → SomeOf (SolvesEquations H a.kinds v) (by_unsize m.view a)
      unsizes-at x false q j y = absurd (in-nothing x j)
      unsizes-at x true q j y =
          subst (λ b. SomeOf (SolvesEquations H a.kinds v) (if_so b (if begins_unknown a.kinds (next_of (self_of a)) then unsure ∷ [] else unsize_recording m.view a))) (sym q)
          (subst (λ t. SomeOf (SolvesEquations H a.kinds v) (if begins_unknown a.kinds (next_of t) then unsure ∷ [] else map (recording (unsizing_outlives a.reference.args)) (unsize_known m.view a t))) (sym self-is)
          (known-or-not x q (begins_unknown a.kinds head.others) refl (subst (λ t. In x (unsize_rules m.view t)) read-is j) y))

      -- the rules of object bounds ask the goal's supertraits
      objects-row : (x : Rule) → In x (object_rules m.view (read_reference xs a.reference) (read a.reference.args)) → Every (Proved H) x.premises → SomeOf (SolvesEquations H a.kinds v) (by_objects m.view a)
      objects-row x j q =
          subst (λ t. SomeOf (SolvesEquations H a.kinds v) (objects_of m.view a t)) (sym self-is)
          (objects-at H m.view declared leads.plain leads.trait_rank leads.down a v
          (supers-proved H m.view declared leads.plain leads.trait_rank leads.down xs a.reference (open-none (read a.reference.args) closed)
          (subst (Every (Proved H)) (object-premises m.view (read_reference xs a.reference) (read a.reference.args) x j) q))
          (is_variable_over a.kinds)
          (erase_label head.label) head.children head.others bounds-made shut x (subst (λ t. In x (object_rules m.view (read_reference xs a.reference) t)) read-is j))

      other : OtherRows H m.view declared a v
      other = record {
        impls = λ x j q.
            impl-row H m.view declared determined a v is.over head.label head.children head.others (ap with_plain_head head.is)
            (ap (read_with (given xs)) head.is ∙ rigid-read xs head.label head.children head.others head.rigid) closed x j q;
        calls = λ x j q.
            subst (λ t. SomeOf (SolvesEquations H a.kinds v) (if_so (is_fn_trait a.reference.trait) (call_of m.view a t))) (sym self-is)
            (call-under H m.view a v (is_fn_trait a.reference.trait) (erase_label head.label) head.children head.others x
            (subst (λ t. In x (if is_fn_trait a.reference.trait then call_rules t else [])) read-is j) q);
        unsizes = λ x j q. unsizes-at x (a.reference.trait == unsize) refl j q;
        objects = λ x j q. objects-row x j q;
      }

  -- each solution in a linked set is one by a considered candidate
  pub solutions-by-candidates : ThereAreCandidates m
  solutions-by-candidates = solutions-are-candidates m declared view-rules
