-- The nested goals of a list of rules are decided.
use Rattle.std.proofs.Common.{◌≡◌, ℕ, Bool, true, List, length, refl, ◌∙◌, ap, Option, Some, None}
use Rattle.type_terms.specs.Promised.Label.{Label, canonical}
use Rattle.type_terms.specs.Made.{terms, is_made}
use Rattle.infer_table.specs.Canonical.{CanonicalForm, canonical_form}
use Rattle.infer_table.specs.Solutions.{resolved}
use Rattle.infer_table.proofs.SolutionLaws.{resolved-none}
use Rattle.infer_table.specs.declared.canonical.CanonicalVarKind.{CanonicalVarKind}
use Rattle.infer_table.specs.declared.certainty.TypingMode.{TypingMode}
use Rattle.goal_evaluator.specs.Lists.{Every}
use Rattle.goal_evaluator.specs.Table.{workings}
use Rattle.goal_evaluator.specs.Candidate.{Spec}
use Rattle.goal_evaluator.specs.History.{evaluate, asks, CameInOrder}
use Rattle.goal_evaluator.specs.Promises.{frame_of_goal, Anything, History}
use Rattle.goal_evaluator.proofs.Kept.{AreSo, questions_so, made_kept}
use Rattle.goal_evaluator.proofs.ListLaws.{Every-mono, Every-map}
use Rattle.goal_evaluator.specs.Instances.{put_in}
use Rattle.goal_evaluator.specs.Content.{NestedQuestion}
use Rattle.goal_evaluator.specs.FrameTables.{kinds_known, good_in, FrameTable, IsMadeFrame, slot_at, goal_in, question}
use Rattle.type_terms.proofs.Made.{false-true}
use Rattle.goal_evaluator.proofs.Labels.{made-more}
use Rattle.goal_evaluator.proofs.Equating.{made-put, slots-of}
use Rattle.goal_evaluator.proofs.Resolved.{made-resolved}
use Rattle.goal_evaluator.proofs.TableBeginning.{begin-made}
use Rattle.goal_evaluator.specs.Tables.{frame_tables}
use Rattle.goal_evaluator.proofs.FrameTableLaws.{tables_are_lawful}
use Rattle.goal_frames.specs.Rules.{TraitBound, goal_of, FrameRule, RuleBook, BoundIsOver, IsRule, AreRules}
use Rattle.goal_frames.specs.Handlers.{BareGoal, bare_goal, bound_behind, nested_of_bound, spec_of, candidates_of, handled_by, listing_of, same_answer, applies_always}
use Rattle.goal_frames.specs.Forms.{is_unnumbered}
use Rattle.goal_frames.proofs.Listings.{listed-each}
use Rattle.goal_frames.proofs.Behind.{made-behind}
use Rattle.goal_frames.proofs.Handlers.{each-spec}
use Rattle.goal_frames.proofs.Forms.{canonical-goals-are-asked}
use Rattle.infer_table.proofs.Basics.{resolved-trait, same-goal}

abbrev pub IsDecided : NestedQuestion → Type 0
IsDecided q = (a : BareGoal) × (bare_goal q.form ≡ Some a)

-- ---- a nested goal over the table's unknowns

module _ (T : FrameTable) (made : IsMadeFrame T) (kind : Bool) (n : ℕ) (kinds : List CanonicalVarKind) (b : TraitBound) (over : BoundIsOver kinds b) where
  abbrev inside : TraitBound
  inside = record { trait = b.trait; arguments = resolved T.content.bindings (put_in (slot_at T.labels) (bound_behind n b).arguments) }

  goal-inside : goal_in T (nested_of_bound kind (bound_behind n b)) ≡ goal_of inside
  goal-inside = same-goal _ _ _ _ (resolved-none T.content.bindings) (resolved-trait T.content.bindings b.trait (put_in (slot_at T.labels) (bound_behind n b).arguments))

  unnumbered : (l : Label) → good_in T l ≡ true → is_unnumbered l ≡ true
  unnumbered (canonical k i) g = absurd (false-true g)
  unnumbered l g = refl

  made-inside : is_made is_unnumbered terms inside.arguments ≡ true
  made-inside =
      made-more (good_in T) is_unnumbered unnumbered terms inside.arguments
      (made-resolved (good_in T) T.content.bindings made.table.values terms (put_in (slot_at T.labels) (bound_behind n b).arguments)
      (made-put (good_in T) T.labels (slots-of T made) terms (bound_behind n b).arguments (made-behind kinds n terms b.arguments over)))

  question-decided : IsDecided (question T (nested_of_bound kind (bound_behind n b)))
  question-decided = let x = canonical-goals-are-asked inside made-inside in (x.0, ap (λ g. bare_goal (canonical_form g)) goal-inside ∙ x.1)

-- ---- the candidates
each-decided : (book : RuleBook) → AreRules book → (o : Option BareGoal) → Every (λ (c : Spec (workings frame_tables)). Every (AreSo frame_tables IsDecided IsMadeFrame) c.nested) (candidates_of book o)
each-decided book rules_are None = (tt, tt)
each-decided book rules_are (Some a) =
    each-spec (book.coinductive a.bound.trait) a (λ (c : Spec (workings frame_tables)). Every (AreSo frame_tables IsDecided IsMadeFrame) c.nested) book.rules
    (Every-mono IsRule (λ (r : FrameRule). r.head.trait ≡ a.bound.trait → Every (AreSo frame_tables IsDecided IsMadeFrame) (spec_of (book.coinductive a.bound.trait) a r).nested) one book.rules rules_are)
  where
    one : (r : FrameRule) → IsRule r → r.head.trait ≡ a.bound.trait → Every (AreSo frame_tables IsDecided IsMadeFrame) (spec_of (book.coinductive a.bound.trait) a r).nested
    one r good e =
        Every-map (AreSo frame_tables IsDecided IsMadeFrame) (λ b. nested_of_bound (book.coinductive a.bound.trait) (bound_behind (length a.kinds) b)) r.premises
        (Every-mono (BoundIsOver r.kinds) (λ b. AreSo frame_tables IsDecided IsMadeFrame (nested_of_bound (book.coinductive a.bound.trait) (bound_behind (length a.kinds) b)))
        (λ b over T made. question-decided T made (book.coinductive a.bound.trait) (length a.kinds) r.kinds b over) r.premises good.premises)

pub questions-decided : (book : RuleBook) → AreRules book → (mode : TypingMode) (f : CanonicalForm) (heard : History frame_tables (handled_by book mode f)) (q : NestedQuestion)
    → CameInOrder (Anything frame_tables (handled_by book mode f)) (frame_of_goal frame_tables (handled_by book mode f)) heard
    → asks (frame_of_goal frame_tables (handled_by book mode f)) heard ≡ evaluate q → IsDecided q
questions-decided book rules_are mode f =
    questions_so frame_tables IsDecided IsMadeFrame (made_kept frame_tables tables_are_lawful IsDecided) (handled_by book mode f) (begin-made (kinds_known f.kinds))
    (λ seen c e. listed-each frame_tables applies_always same_answer (λ (c : Spec (workings frame_tables)). Every (AreSo frame_tables IsDecided IsMadeFrame) c.nested) (listing_of book mode f (kinds_known f.kinds) (bare_goal f))
    (each-decided book rules_are (bare_goal f)) seen c e)
