-- Types that unsize to a `dyn` are sound candidates where the self type is known: it is no `dyn`, or a placeholder, for which none stands.
use Rattle.std.proofs.Common.{◌≡◌, ℕ, ◌==◌, Bool, true, false, not, ◌&&◌, ◌||◌, if◌then◌else◌, List, [], ◌∷◌, ◌++◌, map, ◌⊎◌, inl, inr, refl, sym, ◌∙◌, ap, subst, Option, Some, None}
use Rattle.type_terms.specs.Promised.Label.{never}
use Rattle.type_terms.specs.Promised.Label.{Label, of_type, dynamic, param, placeholder, infer, canonical, bound}
use Rattle.type_terms.specs.Promised.Trees.{Trees, none, tree, leaf, erase_label, is_sort}
use Rattle.type_terms.specs.Trees.{is_a, is_no_tree}
use Rattle.type_terms.specs.Promised.Worlds.{World, Reference}
use Rattle.type_terms.specs.Promised.Rules.{Rule, built_in, row, unsize, unsize_to_dyn, asked as asks_for, sized, is_dyn, built_in_rules, unsize_rules, unsize_array_rules, unsize_to_dyn_rules, unsize_upcast_rules, unsize_struct_rules, are_dyn_compatible, principal_with, autos_with}
use Rattle.type_terms.specs.Promised.Proofs.{In}
use Rattle.type_terms.proofs.Members.{here, in-left, in-right}
use Rattle.type_terms.proofs.Fitting.{head-shut, child-shut, next-shut}
use Rattle.type_terms.proofs.Walking.{left, right, both}
use Rattle.type_terms.specs.Made.{terms, bounds, is_made}
use Rattle.infer_table.specs.Canonical.{CanonicalForm}
use Rattle.infer_table.specs.declared.canonical.CanonicalVarKind.{CanonicalVarKind}
use Rattle.infer_table.specs.declared.canonical.CanonicalVarKind.TheVariants.{Ty, PlaceholderTy, Const, PlaceholderConst, Region}
use Rattle.goal_evaluator.specs.Lists.{Every}
use Rattle.goal_evaluator.specs.Instances.{read_with, of_sort, is_place, as_place, term_at}
use Rattle.goal_evaluator.specs.Content.{given, ChosenTerms}
use Rattle.goal_evaluator.specs.FrameTables.{kind_at, is_open_label}
use Rattle.goal_evaluator.specs.TableAnswers.{is_kind_of}
use Rattle.goal_evaluator.specs.TableOperations.{begin}
use Rattle.goal_evaluator.specs.TableOperations.{fresh}
use Rattle.candidate_model.specs.Facts.{is_unerased}
use Rattle.candidate_model.specs.Meaning.{ViewMeaning}
use Rattle.candidate_model.specs.Declared.{is_declared_view}
use Rattle.goal_evaluator.specs.Variables.{is_variable_over}
use Rattle.candidate_model.specs.Asking.{GoalOverKinds, goal_over_kinds, is_rigid, self_of, with_plain_head, is_unknown_kind, begins_unknown}
use Rattle.candidate_model.specs.Candidates.{as_written, misc, if_so}
use Rattle.candidate_model.specs.Cover.{read_reference}
use Rattle.candidate_model.specs.Lawful.{IsSoundFor, ToDynIsSound}
use Rattle.candidate_model.proofs.Reading.{begins}
use Rattle.candidate_model.proofs.ByView.{rigid-read, rigid-head}
use Rattle.goal_evaluator.proofs.Slots.{slot-is}
use Rattle.candidate_model.proofs.Unsizing.{map-append, compatible-same, principal-read, autos-read, traits-stay}
use Rattle.candidate_model.proofs.PlainRules.{Plain, IsPlainReference}
use Rattle.candidate_model.proofs.SoundRows.{Unknown, Rigid, unknown-or-rigid, Held, is, rule-sound, plain-back, in-unsizes}
use Rattle.candidate_model.proofs.SoundCalls.{open-made, made-rest}
use Rattle.candidate_model.proofs.OpenLevels.{principal-plain, autos-plain}
use Rattle.type_terms.proofs.BooleanBasics.{true-false}
use Rattle.type_terms.proofs.TermBasics.{append-none}
use Rattle.goal_evaluator.proofs.Basics.{every-append}

-- ---- what stands for a placeholder is no `dyn`
starts_dyn : Trees → Bool
starts_dyn none = false
starts_dyn (tree l c o) = is_dyn l

place-starts : (x : Trees) → is_place of_type x ≡ true → starts_dyn x ≡ false
unfolding starts_dyn
place-starts none e = refl
place-starts (tree dynamic c o) e = absurd (true-false (sym e))
place-starts (tree l c o) e = refl

as-place-starts : (x : Trees) → starts_dyn (as_place of_type x) ≡ false
unfolding starts_dyn
as-place-starts x = by (is_place of_type x) refl
  where
    by : (b : Bool) → is_place of_type x ≡ b → starts_dyn (if b then x else leaf (placeholder of_type 0)) ≡ false
    by true e = place-starts x e
    by false e = refl

of-sort-starts : (x : Trees) → starts_dyn x ≡ false → starts_dyn (of_sort of_type x) ≡ false
unfolding starts_dyn
of-sort-starts x h = by (is_a of_type x)
  where
    by : (b : Bool) → starts_dyn (if b then x else leaf never) ≡ false
    by true = h
    by false = refl

head-not-dyn : (l : Label) (c t : Trees) → t ≡ tree l c none → starts_dyn t ≡ false → is_dyn l ≡ false
unfolding starts_dyn
head-not-dyn l c t e h = sym (ap starts_dyn e) ∙ h

pub unknown-or-place : (o : Option CanonicalVarKind) → is_kind_of of_type o ≡ true → is_unknown_kind o ≡ false → o ≡ Some PlaceholderTy
unknown-or-place None e f = absurd (true-false (sym e))
unknown-or-place (Some Ty) e f = absurd (true-false f)
unknown-or-place (Some PlaceholderTy) e f = refl
unknown-or-place (Some Const) e f = absurd (true-false (sym e))
unknown-or-place (Some PlaceholderConst) e f = absurd (true-false (sym e))
unknown-or-place (Some Region) e f = absurd (true-false (sym e))

pub erased-twice : (l : Label) → is_rigid l ≡ true → erase_label (erase_label l) ≡ erase_label l
erased-twice (param s i) r = absurd (true-false (sym (right (is_sort s of_type) false r)))
erased-twice (placeholder s i) r = absurd (true-false (sym (right (is_sort s of_type) false r)))
erased-twice (infer s i) r = absurd (true-false (sym (right (is_sort s of_type) false r)))
erased-twice (canonical s i) r = absurd (true-false (sym (right (is_sort s of_type) false r)))
erased-twice (bound s k i) r = absurd (true-false (sym (right (is_sort s of_type) false r)))
erased-twice l r = refl

module _ (m : ViewMeaning) (declared : is_declared_view m.view ≡ true) (f : CanonicalForm) (a : GoalOverKinds) (is_asked : goal_over_kinds m.view f ≡ Some a) where
  abbrev V : World
  V = m.view

  abbrev Read : ChosenTerms → Trees → Trees
  Read s t = read_with (given s.slots) t

  module _ (is_unsize : (a.reference.trait == unsize) ≡ true) where
    of-dyn : (s : ChosenTerms) (u : Rule) → In u (unsize_to_dyn_rules V (Read s a.reference.args)) → In u (built_in_rules V (read_reference s.slots a.reference))
    of-dyn s u i =
        let t = Read s a.reference.args in
        in-unsizes m declared f a is_asked s u (subst (λ (b : Bool). In u (if b then unsize_rules V t else [])) (sym is_unsize)
        (in-right u (unsize_array_rules t) (unsize_to_dyn_rules V t ++ (unsize_upcast_rules V t ++ unsize_struct_rules V t))
        (in-left u (unsize_to_dyn_rules V t) (unsize_upcast_rules V t ++ unsize_struct_rules V t) i)))

    module _ (l : Label) (c b o : Trees) (target_made : is_made is_open_label bounds b ≡ true) where
      abbrev self : Trees
      self = tree l c none

      abbrev asks_of : Trees → Trees → List Reference
      asks_of x y = principal_with x y ++ (autos_with x y ++ asks_for sized x ∷ [])

      -- the type with terms for the goal's variables
      record Instance (s : ChosenTerms) : Type 0 where
        label : Label
        children : Trees
        alone : Read s self ≡ tree label children none
        whole : Read s a.reference.args ≡ tree label children (tree dynamic (Read s b) (Read s o))
        other : is_dyn label ≡ false

      read-asks : (s : ChosenTerms) → asks_of (Read s self) (Read s b) ≡ map (read_reference s.slots) (asks_of self b)
      read-asks s =
          ap (λ z. z ++ (autos_with (Read s self) (Read s b) ++ asks_for sized (Read s self) ∷ [])) (principal-read V declared s.slots is_open_label self b target_made)
          ∙ ap (λ z. map (read_reference s.slots) (principal_with self b) ++ (z ++ asks_for sized (Read s self) ∷ [])) (autos-read V declared s.slots is_open_label self b target_made)
          ∙ ap (λ z. map (read_reference s.slots) (principal_with self b) ++ z) (sym (map-append (read_reference s.slots) (autos_with self b) (asks_for sized self ∷ [])))
          ∙ sym (map-append (read_reference s.slots) (principal_with self b) (autos_with self b ++ asks_for sized self ∷ []))

      module _ (compatible : are_dyn_compatible V (principal_with self b) ≡ true) (instance : (s : ChosenTerms) → Held m declared f a is_asked s → Instance s) where
        abbrev Of : List Reference → Rule
        Of ps = record { way = built_in unsize_to_dyn; premises = ps }

        tests : (s : ChosenTerms) (k : Label) → is_dyn k ≡ false → not (is_dyn k) && are_dyn_compatible V (principal_with (Read s self) (Read s b)) ≡ true
        tests s k h =
            both (not (is_dyn k)) (are_dyn_compatible V (principal_with (Read s self) (Read s b))) (ap not h)
            (ap (are_dyn_compatible V) (principal-read V declared s.slots is_open_label self b target_made)
            ∙ compatible-same V (map (read_reference s.slots) (principal_with self b)) (principal_with self b) (traits-stay V declared s.slots (principal_with self b)) ∙ compatible)

        rule : (s : ChosenTerms) → Held m declared f a is_asked s → In (Of (map (read_reference s.slots) (asks_of self b))) (unsize_to_dyn_rules V (Read s a.reference.args))
        rule s h =
            let x = instance s h in
            subst (λ t. In (Of (map (read_reference s.slots) (asks_of self b))) (unsize_to_dyn_rules V t)) (sym x.whole)
            (subst (λ t. In (Of (map (read_reference s.slots) (asks_of self b))) (if not (is_dyn x.label) && are_dyn_compatible V (principal_with t (Read s b)) then row unsize_to_dyn (asks_of t (Read s b)) else [])) x.alone
            (subst (λ (y : Bool). In (Of (map (read_reference s.slots) (asks_of self b))) (if y then row unsize_to_dyn (asks_of (Read s self) (Read s b)) else [])) (sym (tests s x.label x.other))
            (subst (λ ps. In (Of ps) (row unsize_to_dyn (asks_of (Read s self) (Read s b)))) (read-asks s) (here (Of (asks_of (Read s self) (Read s b))) []))))

        plain : (s : ChosenTerms) → Held m declared f a is_asked s → Every IsPlainReference (asks_of (Read s self) (Read s b))
        plain s h =
            let x = instance s h in
            let whole = subst Plain x.whole h.plain in
            let own : Plain (Read s self) = subst Plain (sym x.alone) (head-shut is_unerased x.label x.children (tree dynamic (Read s b) (Read s o)) whole) in
            let target : Plain (Read s b) = child-shut is_unerased dynamic (Read s b) (Read s o) (next-shut is_unerased x.label x.children (tree dynamic (Read s b) (Read s o)) whole) in
            every-append IsPlainReference (principal_with (Read s self) (Read s b)) (autos_with (Read s self) (Read s b) ++ asks_for sized (Read s self) ∷ []) (principal-plain (Read s self) (Read s b) own target)
            (every-append IsPlainReference (autos_with (Read s self) (Read s b)) (asks_for sized (Read s self) ∷ []) (autos-plain (Read s self) (Read s b) own) (own, tt))

        one-sound : Every (IsSoundFor m f a) (as_written V a misc (row unsize_to_dyn (asks_of self b)))
        one-sound = (
          rule-sound m declared f a is_asked misc [] (asks_of self b)
              (λ s h e. (built_in unsize_to_dyn, of-dyn s (Of (map (read_reference s.slots) (asks_of self b))) (rule s h), plain-back m declared f a is_asked s (asks_of self b) (subst (Every IsPlainReference) (read-asks s) (plain s h)))),
          tt,
        )

      dyn-target : (is_dyn l ≡ false → (s : ChosenTerms) → Held m declared f a is_asked s → Instance s) → Every (IsSoundFor m f a) (as_written V a misc (unsize_to_dyn_rules V (tree l c (tree dynamic b o))))
      dyn-target go = by (is_dyn l) refl (are_dyn_compatible V (principal_with self b)) refl
        where
          by : (x : Bool) → is_dyn l ≡ x → (y : Bool) → are_dyn_compatible V (principal_with self b) ≡ y → Every (IsSoundFor m f a) (as_written V a misc (if not x && y then row unsize_to_dyn (asks_of self b) else []))
          by true p y q = tt
          by false p true q = one-sound q (go p)
          by false p false q = tt

    -- ---- the self type
    rigid-target : (l : Label) (c rest : Trees) → a.reference.args ≡ tree l c rest → is_rigid l ≡ true → is_made is_open_label terms (tree l c rest) ≡ true
        → Every (IsSoundFor m f a) (as_written V a misc (unsize_to_dyn_rules V (tree (erase_label l) c rest)))
    rigid-target l c none e r g = tt
    rigid-target l c (tree dynamic b o) e r g =
        dyn-target (erase_label l) c b o (left (is_made is_open_label bounds b) (is_made is_open_label terms o) (made-rest is_open_label l c (tree dynamic b o) g))
        (λ n s h. record {
          label = erase_label l;
          children = Read s c;
          alone = rigid-read s.slots (erase_label l) c none (rigid-head l r) ∙ ap (λ k. tree k (Read s c) none) (erased-twice l r);
          whole = ap (Read s) e ∙ rigid-read s.slots l c (tree dynamic b o) r;
          other = n;
        })
    rigid-target l c (tree k d o) e r g = tt

    place-target : (i : ℕ) (c rest : Trees) → a.reference.args ≡ tree (canonical of_type i) c rest → kind_at a.kinds i ≡ Some PlaceholderTy → is_made is_open_label terms (tree (canonical of_type i) c rest) ≡ true
        → Every (IsSoundFor m f a) (as_written V a misc (unsize_to_dyn_rules V (tree (canonical of_type i) c rest)))
    place-target i c none e p g = tt
    place-target i c (tree dynamic b o) e p g =
        dyn-target (canonical of_type i) c b o (left (is_made is_open_label bounds b) (is_made is_open_label terms o) (made-rest is_open_label (canonical of_type i) c (tree dynamic b o) g)) (λ n s h. at s h)
      where
        at : (s : ChosenTerms) → Held m declared f a is_asked s → Instance (canonical of_type i) c b o (left (is_made is_open_label bounds b) (is_made is_open_label terms o) (made-rest is_open_label (canonical of_type i) c (tree dynamic b o) g)) s
        at s h =
            let x = begins s.slots (canonical of_type i) c (tree dynamic b o) in
            record {
              label = x.label;
              children = x.children;
              alone = x.alone;
              whole = ap (Read s) e ∙ x.before;
              other =
                  head-not-dyn x.label x.children (of_sort of_type (term_at s.slots i)) (sym (append-none (of_sort of_type (term_at s.slots i))) ∙ x.alone)
                  (of-sort-starts (term_at s.slots i) (ap starts_dyn (slot-is (fresh (begin a.kinds) []) s h.allowed i PlaceholderTy p ∙ append-none (as_place of_type (term_at s.own.terms i))) ∙ as-place-starts (term_at s.own.terms i)));
            }
    place-target i c (tree k d o) e p g = tt

    to-dyn-at : Unknown a.reference.args ⊎ Rigid a.reference.args → begins_unknown a.kinds (self_of a) ≡ false → Every (IsSoundFor m f a) (as_written V a misc (unsize_to_dyn_rules V (self_of a)))
    to-dyn-at (inl x) known =
        let over = subst (λ t. is_made (is_variable_over a.kinds) terms t ≡ true) x.is (is m declared f a is_asked).over in
        let g = subst (λ t. is_made is_open_label terms t ≡ true) x.is (open-made m declared f a is_asked) in
        subst (λ t. Every (IsSoundFor m f a) (as_written V a misc (unsize_to_dyn_rules V (with_plain_head t)))) (sym x.is)
        (place-target x.number x.children x.others x.is
        (unknown-or-place (kind_at a.kinds x.number)
        (left (is_kind_of of_type (kind_at a.kinds x.number)) ((not true || is_no_tree x.children) && (is_made (is_variable_over a.kinds) terms x.children && is_made (is_variable_over a.kinds) terms x.others)) over)
        (subst (λ t. begins_unknown a.kinds (with_plain_head t) ≡ false) x.is known)) g)
    to-dyn-at (inr x) known =
        let g = subst (λ t. is_made is_open_label terms t ≡ true) x.is (open-made m declared f a is_asked) in
        subst (λ t. Every (IsSoundFor m f a) (as_written V a misc (unsize_to_dyn_rules V (with_plain_head t)))) (sym x.is) (rigid-target x.label x.children x.others x.is x.rigid g)

    pub to-dyn-sound : begins_unknown a.kinds (self_of a) ≡ false → Every (IsSoundFor m f a) (as_written V a misc (unsize_to_dyn_rules V (self_of a)))
    to-dyn-sound known = to-dyn-at (unknown-or-rigid a.reference.args (is m declared f a is_asked).begins) known

  each-to-dyn : begins_unknown a.kinds (self_of a) ≡ false → Every (IsSoundFor m f a) (if_so (a.reference.trait == unsize) (as_written V a misc (unsize_to_dyn_rules V (self_of a))))
  each-to-dyn known = by (a.reference.trait == unsize) refl
    where
      by : (b : Bool) → (a.reference.trait == unsize) ≡ b → Every (IsSoundFor m f a) (if_so b (as_written V a misc (unsize_to_dyn_rules V (self_of a))))
      by true q = to-dyn-sound q known
      by false q = tt

pub to-dyn-is-sound : ToDynIsSound
to-dyn-is-sound m declared f a is known = each-to-dyn m declared f a is known
