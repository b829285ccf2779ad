-- What is asked of declarations and goals stays true as the interner grows.
use Rattle.std.proofs.Common.{◌≡◌, List, map, sym, subst, true}
use Rattle.std.specs.Prelude.{◌==◌}
use Rattle.type_terms.specs.Promised.Trees.{Trees}
use Rattle.type_terms.specs.Promised.Rules.{unsize}
use Rattle.type_terms.specs.Promised.Handles.{Entry, Keeps, Has, types, trees_at}
use Rattle.type_terms.specs.Terms.{args_lists}
use Rattle.type_terms.specs.declared.AdtId.{AdtId}
use Rattle.type_terms.specs.declared.kinds.Ty.{Ty}
use Rattle.type_terms.specs.Kept.{trees-later}
use Rattle.term_folds.specs.Signatures.{StartsWithType}
use Rattle.infer_table.specs.declared.input.CanonicalInput.{CanonicalInput}
use Rattle.infer_table.specs.Goals.{GoalHeld}
use Rattle.infer_table.proofs.Numbers.{goal-held-later}
use Rattle.declarations.specs.declared.items.AdtDef.{AdtDef}
use Rattle.declarations.specs.Applied.{sort_of_param, SpeaksOf}
use Rattle.declarations.specs.Held.{AreHeld, StructHeld, ImplHeld}
use Rattle.declarations.specs.Items.{Items, HeldImpl}
use Rattle.declarations.specs.Promised.Elaboration.{Each}
use Rattle.declarations.proofs.Growth.{each-kept, all-held}
use Rattle.candidate_model.specs.Asking.{self_of, with_plain_head}
use Rattle.built_in_candidates.specs.Goals.{asked_of}
use Rattle.structural_traits.specs.Constituents.{HaveFields, StructIsApplied}
use Rattle.built_in_candidates.specs.Constituents.{CanBeConsidered}
use Rattle.built_in_candidates.specs.BuiltIn.{HavePlainHeads}
use Rattle.built_in_candidates.specs.Objects.{ObjectIsApplied}
use Rattle.built_in_candidates.specs.Unsizing.{CanUnsize}
use Rattle.built_in_candidates.proofs.Asking.{asked-later}
use Rattle.declarations.proofs.Basics.{both}

module _ (old new : List Entry) (k : Keeps old new) where
  fields-speak : (x : AdtId × AdtDef) → StructHeld old x.1 → Each (λ (f : Ty). SpeaksOf (map sort_of_param x.1.params.items) (trees_at old f.0)) x.1.fields.items
      → Each (λ (f : Ty). SpeaksOf (map sort_of_param x.1.params.items) (trees_at new f.0)) x.1.fields.items
  fields-speak x h s =
      each-kept (λ (f : Ty). Has old types f.0 × SpeaksOf (map sort_of_param x.1.params.items) (trees_at old f.0))
      (λ (f : Ty). SpeaksOf (map sort_of_param x.1.params.items) (trees_at new f.0))
      (λ f g. subst (SpeaksOf (map sort_of_param x.1.params.items)) (sym (trees-later old new k types f.0 g.0)) g.1)
      x.1.fields.items
      (both (λ (f : Ty). Has old types f.0) (λ (f : Ty). SpeaksOf (map sort_of_param x.1.params.items) (trees_at old f.0)) x.1.fields.items h.0 s)

  pub fields-later : (d : Items) → AreHeld old d → HaveFields old d → HaveFields new d
  fields-later d h f =
      each-kept
      (λ (x : AdtId × AdtDef). StructHeld old x.1 × Each (λ (f : Ty). SpeaksOf (map sort_of_param x.1.params.items) (trees_at old f.0)) x.1.fields.items)
      (λ (x : AdtId × AdtDef). Each (λ (f : Ty). SpeaksOf (map sort_of_param x.1.params.items) (trees_at new f.0)) x.1.fields.items)
      (λ x g. fields-speak x g.0 g.1)
      d.structs
      (both (λ (x : AdtId × AdtDef). StructHeld old x.1) (λ (x : AdtId × AdtDef). Each (λ (f : Ty). SpeaksOf (map sort_of_param x.1.params.items) (trees_at old f.0)) x.1.fields.items) d.structs h.structs f)

  pub plain-later : (d : Items) → AreHeld old d → HavePlainHeads old d → HavePlainHeads new d
  plain-later d h p =
      each-kept (λ (i : HeldImpl). ImplHeld old i.def × (with_plain_head (trees_at old i.def.header.args.0) ≡ trees_at old i.def.header.args.0))
      (λ (i : HeldImpl). with_plain_head (trees_at new i.def.header.args.0) ≡ trees_at new i.def.header.args.0)
      (λ i g. subst (λ t. with_plain_head t ≡ t) (sym (trees-later old new k args_lists i.def.header.args.0 g.0.header)) g.1) d.impls
      (both (λ (i : HeldImpl). ImplHeld old i.def) (λ (i : HeldImpl). with_plain_head (trees_at old i.def.header.args.0) ≡ trees_at old i.def.header.args.0) d.impls h.impls p)

  module _ (d : Items) (g : CanonicalInput) (held : GoalHeld old g.goal) where
    abbrev args : List Entry → Trees
    args es = trees_at es g.goal.predicate.trait_ref.args.0

    same : args old ≡ args new
    same = sym (trees-later old new k args_lists g.goal.predicate.trait_ref.args.0 held.predicate)

    pub considered-later : CanBeConsidered old d g → CanBeConsidered new d g
    considered-later c = record {
      goal = goal-held-later old new k g.goal c.goal;
      first = subst StartsWithType same c.first;
      declared = all-held old new k d c.declared;
      fields = fields-later d c.declared c.fields;
      applied = subst (StructIsApplied d) same c.applied;
    }

    pub object-later : ObjectIsApplied d (args old) → ObjectIsApplied d (args new)
    object-later h = subst (ObjectIsApplied d) same h

    pub unsizing-later : ((g.goal.predicate.trait_ref.def_id.index == unsize) ≡ true → CanUnsize d (self_of (asked_of old g)))
        → (g.goal.predicate.trait_ref.def_id.index == unsize) ≡ true → CanUnsize d (self_of (asked_of new g))
    unsizing-later h e = subst (λ a. CanUnsize d (self_of a)) (sym (asked-later old new k g held)) (h e)
