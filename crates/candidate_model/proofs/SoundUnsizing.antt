-- Arrays and structs that unsize are sound candidates, where what is compared is equated.
use Rattle.std.proofs.Common.{◌≡◌, ℕ, zero, suc, ◌==◌, Bool, true, false, ◌&&◌, if◌then◌else◌, List, [], ◌∷◌, ◌++◌, map, ◌⊎◌, inl, inr, refl, sym, ◌∙◌, ap, subst, Some}
use Rattle.std.specs.List.{flat_map, list_all}
use Rattle.type_terms.specs.Promised.Label.{Label, of_type, array, slice, adt, param, placeholder, infer, canonical, bound}
use Rattle.type_terms.specs.Promised.Trees.{Trees, none, tree, erase_label, instantiate, is_sort}
use Rattle.type_terms.specs.Codes.{same}
use Rattle.type_terms.specs.Promised.Worlds.{World, StructDecl, structs_named}
use Rattle.type_terms.specs.Promised.Rules.{Rule, Way, built_in, row, unsize, unsize_array, unsize_struct, built_in_rules, unsize_rules, unsize_array_rules, unsize_to_dyn_rules, unsize_upcast_rules, unsize_struct_rules, is_unsizing, some_unsizing, with_unsizing, last_unsizes}
use Rattle.type_terms.specs.Promised.Proofs.{In}
use Rattle.type_terms.proofs.Members.{here, in-left, in-right, in-filter, flat-in}
use Rattle.type_terms.proofs.Fitting.{append-shut, child-shut, next-shut}
use Rattle.type_terms.proofs.Walking.{left, right}
use Rattle.type_terms.specs.Made.{terms}
use Rattle.type_terms.specs.Made.{is_made}
use Rattle.infer_table.specs.Canonical.{CanonicalForm}
use Rattle.goal_evaluator.specs.Lists.{Every}
use Rattle.goal_evaluator.specs.Instances.{read_with}
use Rattle.goal_evaluator.specs.Content.{given, ChosenTerms}
use Rattle.goal_evaluator.specs.FrameTables.{EquationIsMet, is_open_label}
use Rattle.candidate_model.specs.Facts.{is_unerased}
use Rattle.candidate_model.specs.Meaning.{ViewMeaning}
use Rattle.candidate_model.specs.Declared.{are_terms, is_declared_view}
use Rattle.candidate_model.specs.Asking.{GoalOverKinds, goal_over_kinds, is_rigid, self_of, with_plain_head}
use Rattle.candidate_model.specs.Candidates.{by_rule, all_equal, misc, if_so, unsize_array_of, unsize_by_struct, unsize_struct_of}
use Rattle.candidate_model.specs.Cover.{read_reference}
use Rattle.candidate_model.specs.Lawful.{IsSoundFor, unsizing_candidates, UnsizingIsSound}
use Rattle.candidate_model.proofs.Facts.{same-self}
use Rattle.candidate_model.proofs.Reading.{begins}
use Rattle.candidate_model.proofs.ByView.{rigid-read}
use Rattle.candidate_model.proofs.Rows.{fields-declared}
use Rattle.candidate_model.proofs.StructUnsizing.{some-read, with-read, last-unbound}
use Rattle.candidate_model.proofs.Moving.{met-reads}
use Rattle.candidate_model.proofs.PlainRules.{Plain, IsPlainReference, plain-unbound, plain-instance, every-flat}
use Rattle.candidate_model.proofs.SoundRows.{Unknown, Rigid, unknown-or-rigid, Held, IsPlainAt, is, rule-sound, plain-back, in-unsizes}
use Rattle.candidate_model.proofs.SoundCalls.{first-before, made-rest, open-made}
use Rattle.type_terms.proofs.BooleanBasics.{true-false}
use Rattle.goal_evaluator.proofs.Basics.{every-append}

-- ---- terms
pub made-unsizing : (fs : List Trees) (k : ℕ) (t s : Trees) → is_made is_open_label terms t ≡ true → is_made is_open_label terms s ≡ true → is_made is_open_label terms (with_unsizing fs k t s) ≡ true
made-unsizing fs k none s m n = refl
made-unsizing fs k (tree l c o) none m n = m
made-unsizing fs k (tree l c o) (tree i d p) m n = by (is_unsizing fs k) (made-unsizing fs (suc k) o p (made-rest is_open_label l c o m) (made-rest is_open_label i d p n))
  where
    by : (b : Bool) → is_made is_open_label terms (with_unsizing fs (suc k) o p) ≡ true → is_made is_open_label terms (if b then tree i d (with_unsizing fs (suc k) o p) else tree l c (with_unsizing fs (suc k) o p)) ≡ true
    by true h = first-before is_open_label i d p (with_unsizing fs (suc k) o p) n h
    by false h = first-before is_open_label l c o (with_unsizing fs (suc k) o p) m h

plain-unsizes : (fs : List Trees) → list_all are_terms fs ≡ true → (t s : Trees) → Plain t → Plain s → Every IsPlainReference (last_unsizes fs t s)
plain-unsizes [] e t s h g = tt
plain-unsizes (f ∷ []) e t s h g = let d = left (are_terms f) true e in (append-shut is_unerased (instantiate zero t f) (instantiate zero s f) (plain-instance t f h d) (plain-instance s f g d), tt)
plain-unsizes (f ∷ f' ∷ fs) e t s h g = plain-unsizes (f' ∷ fs) (right (are_terms f) (list_all are_terms (f' ∷ fs)) e) t s h g

-- the children of a tree of made terms that is no `dyn`
pub adt-made : (s : ℕ) (c o : Trees) → is_made is_open_label terms (tree (adt s) c o) ≡ true → (is_made is_open_label terms c ≡ true) × (is_made is_open_label terms o ≡ true)
adt-made s c o m = (left (is_made is_open_label terms c) (is_made is_open_label terms o) m, right (is_made is_open_label terms c) (is_made is_open_label terms o) m)

-- ---- rules
array-rule : (x y n p q : Trees) (k l : Label) (c d : Trees) → x ≡ tree k c n → y ≡ tree l d p → tree k c none ≡ tree l d none → In (record { way = built_in unsize_array; premises = [] }) (unsize_array_rules (tree array x (tree slice y q)))
array-rule x y n p q k l c d e g h =
    subst (λ z. In u (unsize_array_rules (tree array z (tree slice y q)))) (sym e)
    (subst (λ z. In u (unsize_array_rules (tree array (tree k c n) (tree slice z q)))) (sym g)
    (subst (λ (b : Bool). In u (if b then row unsize_array [] else [])) (sym (ap (λ z. same z (tree l d none)) h ∙ same-self (tree l d none))) (here u [])))
  where
    u : Rule
    u = record { way = built_in unsize_array; premises = [] }

struct-rule : (V : World) (r s : ℕ) → (r == s) ≡ true → (x : StructDecl) → In x (structs_named V r) → (c d o : Trees) → some_unsizing x.fields 0 c ≡ true → with_unsizing x.fields 0 c d ≡ d
    → In (record { way = built_in unsize_struct; premises = last_unsizes x.fields c d }) (unsize_struct_rules V (tree (adt r) c (tree (adt s) d o)))
struct-rule V r s e x i c d o some equal =
    subst (λ (b : Bool). In u (if b then flat_map make (structs_named V r) else [])) (sym e)
    (flat-in make (structs_named V r) x u i (subst (λ (b : Bool). In u (if b then row unsize_struct (last_unsizes x.fields c d) else [])) (sym tests) (here u [])))
  where
    make : StructDecl → List Rule
    make y = if some_unsizing y.fields 0 c && same (with_unsizing y.fields 0 c d) d then row unsize_struct (last_unsizes y.fields c d) else []

    u : Rule
    u = record { way = built_in unsize_struct; premises = last_unsizes x.fields c d }

    tests : (some_unsizing x.fields 0 c && same (with_unsizing x.fields 0 c d) d) ≡ true
    tests = ap (λ b. b && same (with_unsizing x.fields 0 c d) d) some ∙ ap (λ z. same z d) equal ∙ same-self d

module _ (m : ViewMeaning) (declared : is_declared_view m.view ≡ true) (f : CanonicalForm) (a : GoalOverKinds) (is_asked : goal_over_kinds m.view f ≡ Some a) where
  abbrev V : World
  V = m.view

  abbrev Read : ChosenTerms → Trees → Trees
  Read s t = read_with (given s.slots) t

  module _ (is_unsize : (a.reference.trait == unsize) ≡ true) where
    -- ---- where the rules stand
    at-unsize : (s : ChosenTerms) (u : Rule) → In u (unsize_rules V (Read s a.reference.args)) → In u (built_in_rules V (read_reference s.slots a.reference))
    at-unsize s u i = in-unsizes m declared f a is_asked s u (subst (λ (b : Bool). In u (if b then unsize_rules V (Read s a.reference.args) else [])) (sym is_unsize) i)

    of-arrays : (s : ChosenTerms) (u : Rule) → In u (unsize_array_rules (Read s a.reference.args)) → In u (built_in_rules V (read_reference s.slots a.reference))
    of-arrays s u i = let t = Read s a.reference.args in at-unsize s u (in-left u (unsize_array_rules t) (unsize_to_dyn_rules V t ++ (unsize_upcast_rules V t ++ unsize_struct_rules V t)) i)

    of-structs : (s : ChosenTerms) (u : Rule) → In u (unsize_struct_rules V (Read s a.reference.args)) → In u (built_in_rules V (read_reference s.slots a.reference))
    of-structs s u i =
        let t = Read s a.reference.args in
        at-unsize s u (in-right u (unsize_array_rules t) (unsize_to_dyn_rules V t ++ (unsize_upcast_rules V t ++ unsize_struct_rules V t))
        (in-right u (unsize_to_dyn_rules V t) (unsize_upcast_rules V t ++ unsize_struct_rules V t) (in-right u (unsize_upcast_rules V t) (unsize_struct_rules V t) i)))

    -- ---- arrays
    at-array : (t : Label) (e n : Trees) (k : Label) (d p q : Trees) → is_made is_open_label terms (tree t e n) ≡ true → is_made is_open_label terms (tree k d p) ≡ true
        → ((s : ChosenTerms) → Read s a.reference.args ≡ tree array (Read s (tree t e n)) (tree slice (Read s (tree k d p)) (Read s q))) → (s : ChosenTerms) → Held m declared f a is_asked s → Every (λ x. EquationIsMet x s) (all_equal (tree t e none) (tree k d none))
        → (w : Way) × In (record { way = w; premises = [] }) (built_in_rules V (read_reference s.slots a.reference)) × Every (IsPlainAt m declared f a is_asked s) []
    at-array t e n k d p q g i read-is s h x =
        let b = begins s.slots t e n in
        let c = begins s.slots k d p in
        let met = met-reads s.slots (tree t e none) (tree k d none) (first-before is_open_label t e n none g refl) (first-before is_open_label k d p none i refl) x in (
          built_in unsize_array,
          of-arrays s (record { way = built_in unsize_array; premises = [] })
              (subst (λ z. In (record { way = built_in unsize_array; premises = [] }) (unsize_array_rules z)) (sym (read-is s))
              (array-rule (Read s (tree t e n)) (Read s (tree k d p)) (Read s n) (Read s p) (Read s q) b.label c.label b.children c.children b.before c.before (sym b.alone ∙ met ∙ c.alone))),
          tt,
        )

    arrays-at : (l : Label) (c o : Trees) → is_rigid l ≡ true → is_made is_open_label terms (tree l c o) ≡ true → ((s : ChosenTerms) → Read s a.reference.args ≡ tree (erase_label l) (Read s c) (Read s o))
        → Every (IsSoundFor m f a) (unsize_array_of V a (tree (erase_label l) c o))
    arrays-at array none o r g q = tt
    arrays-at array (tree t e n) none r g q = tt
    arrays-at array (tree t e n) (tree slice none p) r g q = tt
    arrays-at array (tree t e n) (tree slice (tree k d p) o) r g q =
        let i = right (is_made is_open_label terms (tree t e n)) (is_made is_open_label terms (tree slice (tree k d p) o)) g in (
          rule-sound m declared f a is_asked misc (all_equal (tree t e none) (tree k d none)) []
              (at-array t e n k d p o (left (is_made is_open_label terms (tree t e n)) (is_made is_open_label terms (tree slice (tree k d p) o)) g) (left (is_made is_open_label terms (tree k d p)) (is_made is_open_label terms o) i) q),
          tt,
        )
    arrays-at array (tree t e n) (tree k d o) r g q = tt
    arrays-at (param s i) c o r g q = absurd (true-false (sym (right (is_sort s of_type) false r)))
    arrays-at (placeholder s i) c o r g q = absurd (true-false (sym (right (is_sort s of_type) false r)))
    arrays-at (infer s i) c o r g q = absurd (true-false (sym (right (is_sort s of_type) false r)))
    arrays-at (canonical s i) c o r g q = absurd (true-false (sym (right (is_sort s of_type) false r)))
    arrays-at (bound s k i) c o r g q = absurd (true-false (sym (right (is_sort s of_type) false r)))
    arrays-at l c o r g q = tt

    -- ---- structs
    module _ (r t : ℕ) (c d o : Trees) (one_name : (r == t) ≡ true) (from_made : is_made is_open_label terms c ≡ true) (to_made : is_made is_open_label terms d ≡ true)
        (read_is : (s : ChosenTerms) → Read s a.reference.args ≡ tree (adt r) (Read s c) (tree (adt t) (Read s d) (Read s o))) where
      at-struct : (x : StructDecl) → In x (structs_named V r) → some_unsizing x.fields 0 c ≡ true → (s : ChosenTerms) → Held m declared f a is_asked s → Every (λ e. EquationIsMet e s) (all_equal (with_unsizing x.fields 0 c d) d)
          → (w : Way) × In (record { way = w; premises = map (read_reference s.slots) (last_unsizes x.fields c d) }) (built_in_rules V (read_reference s.slots a.reference)) × Every (IsPlainAt m declared f a is_asked s) (last_unsizes x.fields c d)
      at-struct x i some s h e = (
        built_in unsize_struct,
        of-structs s (record { way = built_in unsize_struct; premises = map (read_reference s.slots) (last_unsizes x.fields c d) })
            (subst (λ z. In (record { way = built_in unsize_struct; premises = map (read_reference s.slots) (last_unsizes x.fields c d) }) (unsize_struct_rules V z)) (sym (read_is s))
            (subst (λ ps. In (record { way = built_in unsize_struct; premises = ps }) (unsize_struct_rules V (tree (adt r) (Read s c) (tree (adt t) (Read s d) (Read s o))))) unsizes
            (struct-rule V r t one_name x i (Read s c) (Read s d) (Read s o) (some-read s.slots x.fields 0 c ∙ some) (with-read s.slots x.fields 0 c d ∙ met)))),
        plain-back m declared f a is_asked s (last_unsizes x.fields c d) (subst (Every IsPlainReference) unsizes (plain-unsizes x.fields made (Read s c) (Read s d) from-plain to-plain)),
      )
        where
          made : list_all are_terms x.fields ≡ true
          made = fields-declared V declared [] x (in-filter (λ (y : StructDecl). y.name == r) V.structs x i).0

          all-plain : Plain (tree (adt r) (Read s c) (tree (adt t) (Read s d) (Read s o)))
          all-plain = subst Plain (read_is s) h.plain

          from-plain : Plain (Read s c)
          from-plain = child-shut is_unerased (adt r) (Read s c) (tree (adt t) (Read s d) (Read s o)) all-plain

          to-plain : Plain (Read s d)
          to-plain = child-shut is_unerased (adt t) (Read s d) (Read s o) (next-shut is_unerased (adt r) (Read s c) (tree (adt t) (Read s d) (Read s o)) all-plain)

          unsizes : last_unsizes x.fields (Read s c) (Read s d) ≡ map (read_reference s.slots) (last_unsizes x.fields c d)
          unsizes = last-unbound s.slots x.fields made c d (plain-unbound (Read s c) from-plain) (plain-unbound (Read s d) to-plain)

          met : Read s (with_unsizing x.fields 0 c d) ≡ Read s d
          met = met-reads s.slots (with_unsizing x.fields 0 c d) d (made-unsizing x.fields 0 c d from_made to_made) to_made e

      struct-sound : (x : StructDecl) → In x (structs_named V r) → Every (IsSoundFor m f a) (unsize_by_struct V a c d x)
      struct-sound x i = by (some_unsizing x.fields 0 c) refl
        where
          by : (b : Bool) → some_unsizing x.fields 0 c ≡ b → Every (IsSoundFor m f a) (if_so b (by_rule V a misc (all_equal (with_unsizing x.fields 0 c d) d) (last_unsizes x.fields c d) ∷ []))
          by true q = (rule-sound m declared f a is_asked misc (all_equal (with_unsizing x.fields 0 c d) d) (last_unsizes x.fields c d) (at-struct x i q), tt)
          by false q = tt

    structs-at : (l : Label) (c o : Trees) → is_rigid l ≡ true → is_made is_open_label terms (tree l c o) ≡ true → ((s : ChosenTerms) → Read s a.reference.args ≡ tree (erase_label l) (Read s c) (Read s o))
        → Every (IsSoundFor m f a) (unsize_struct_of V a (tree (erase_label l) c o))
    structs-at (adt r) c none y g q = tt
    structs-at (adt r) c (tree (adt t) d o) y g q = by (r == t) refl
      where
        by : (b : Bool) → (r == t) ≡ b → Every (IsSoundFor m f a) (if_so b (flat_map (unsize_by_struct V a c d) (structs_named V r)))
        by true e =
            let p = adt-made r c (tree (adt t) d o) g in every-flat (IsSoundFor m f a) (unsize_by_struct V a c d) (structs_named V r) (λ x i. struct-sound r t c d o e p.0 (adt-made t d o p.1).0 q x i)
        by false e = tt
    structs-at (adt r) c (tree k d o) y g q = tt
    structs-at (param s i) c o r g q = absurd (true-false (sym (right (is_sort s of_type) false r)))
    structs-at (placeholder s i) c o r g q = absurd (true-false (sym (right (is_sort s of_type) false r)))
    structs-at (infer s i) c o r g q = absurd (true-false (sym (right (is_sort s of_type) false r)))
    structs-at (canonical s i) c o r g q = absurd (true-false (sym (right (is_sort s of_type) false r)))
    structs-at (bound s k i) c o r g q = absurd (true-false (sym (right (is_sort s of_type) false r)))
    structs-at l c o r g q = tt

    abbrev both_of : Trees → Type 0
    both_of t = Every (IsSoundFor m f a) (unsize_array_of V a (with_plain_head t) ++ unsize_struct_of V a (with_plain_head t))

    of-both : Unknown a.reference.args ⊎ Rigid a.reference.args → both_of a.reference.args
    of-both (inl x) = subst both_of (sym x.is) tt
    of-both (inr x) =
        let g = subst (λ t. is_made is_open_label terms t ≡ true) x.is (open-made m declared f a is_asked) in
        subst both_of (sym x.is)
        (every-append (IsSoundFor m f a) (unsize_array_of V a (tree (erase_label x.label) x.children x.others)) (unsize_struct_of V a (tree (erase_label x.label) x.children x.others))
        (arrays-at x.label x.children x.others x.rigid g (λ s. ap (Read s) x.is ∙ rigid-read s.slots x.label x.children x.others x.rigid))
        (structs-at x.label x.children x.others x.rigid g (λ s. ap (Read s) x.is ∙ rigid-read s.slots x.label x.children x.others x.rigid)))

  each-unsizing : Every (IsSoundFor m f a) (unsizing_candidates m a)
  each-unsizing = by (a.reference.trait == unsize) refl
    where
      by : (b : Bool) → (a.reference.trait == unsize) ≡ b → Every (IsSoundFor m f a) (if_so b (unsize_array_of V a (self_of a) ++ unsize_struct_of V a (self_of a)))
      by true e = of-both e (unknown-or-rigid a.reference.args (is m declared f a is_asked).begins)
      by false e = tt

pub unsizing-is-sound : UnsizingIsSound
unsizing-is-sound m declared f a e = each-unsizing m declared f a e
