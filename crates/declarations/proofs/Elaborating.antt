-- References that are elaborated: what is declared of traits is read off handles.
use Rattle.std.proofs.Common.{◌≡◌, ℕ, ◌<◌, ◌+◌, Bool, true, false, cond, List, [], ◌∷◌, ◌++◌, length, Some, None, refl, sym, ap, ◌∙◌, subst, ◌⊎◌, inl, inr}
use Rattle.std.specs.Prelude.{◌==◌, map, IfSome}
use Rattle.std.proofs.lemmas.Option.{same_Some}
use Rattle.type_terms.specs.Promised.Trees.{Trees, instantiate}
use Rattle.type_terms.specs.Trees.{outer_binder}
use Rattle.type_terms.specs.Promised.Proofs.{In}
use Rattle.type_terms.specs.Promised.Worlds.{World, Reference, TraitDecl, with_args, all_with_args}
use Rattle.type_terms.specs.Promised.Rules.{written_supertraits, strict_supertraits}
use Rattle.type_terms.proofs.Members.{here, there, in-cases, in-nothing, flat-in}
use Rattle.type_terms.proofs.ProofEntries.{map-in}
use Rattle.type_terms.specs.Promised.Handles.{Entry, Keeps, trees_at}
use Rattle.type_terms.specs.declared.TraitId.{TraitId}
use Rattle.term_folds.specs.Arguments.{first_misfit}
use Rattle.term_folds.specs.declared.predicate.TraitRef.{TraitRef}
use Rattle.declarations.specs.declared.items.TraitDef.{TraitDef}
use Rattle.declarations.specs.declared.elaborate.Elaborator.{Elaborator}
use Rattle.declarations.specs.Items.{Items, reference_in, trait_in, trait_at, written}
use Rattle.declarations.specs.Held.{ReferenceHeld, AreHeld}
use Rattle.declarations.specs.Promised.Elaboration.{Each}
use Rattle.declarations.specs.Promised.Elaboration.{pushed, new_of, all_levels, elaborate}
use Rattle.declarations.specs.Applied.{references_in, TraitRefsHeld, IsApplied, AreApplied, IsBoundOf, HaveBounds, sorts_of, sorts_of_params}
use Rattle.declarations.specs.Stacked.{StacksUnseen}
use Rattle.declarations.proofs.Growth.{each-kept, references-kept, args-same, all-written}
use Rattle.declarations.proofs.Bounded.{all-same, all-put}
use Rattle.declarations.proofs.Instances.{instance-closed, instance-sorts}
use Rattle.declarations.proofs.Levels.{LeadDown, all-closed}
use Rattle.declarations.proofs.Stacks.{missing, IsLeft, left-at-first, left-next, left-falls, left-nothing, pushed-append}
use Rattle.declarations.proofs.Basics.{each-append, each-end, each-front}

pub each-in : {A : Type 0} (P : A → Type 0) (xs : List A) → Each P xs → (x : A) → In x xs → P x
each-in P [] h x i = absurd (in-nothing x i)
each-in P (y ∷ xs) h x i = by (in-cases x y xs i) (each-in P xs h.1 x)
  where
    by : (y ≡ x) ⊎ In x xs → (In x xs → P x) → P x
    by (inl e) go = subst P e h.0
    by (inr j) go = go j

all-in : {A : Type 0} (P : A → Type 0) (xs : List A) → ((x : A) → In x xs → P x) → Each P xs
all-in P [] h = tt
all-in P (x ∷ xs) h = (h x (here x xs), all-in P xs (λ y i. h y (there y x xs i)))

-- ---- one trait
-- what holds of each trait holds of the one that is found
at-found : (P : TraitId × TraitDef → Type 0) (n : ℕ) (def : TraitDef) (xs : List (TraitId × TraitDef)) → Each P xs → Some def ≡ trait_at n xs → (id : TraitId) × P (id, def)
at-found P n def [] h e = absurd cc
at-found P n def (x ∷ xs) h e = by (n == x.0.index) e (at-found P n def xs h.1)
  where
    by : (b : Bool) → Some def ≡ cond b (Some x.1) (trait_at n xs) → (Some def ≡ trait_at n xs → (id : TraitId) × P (id, def)) → (id : TraitId) × P (id, def)
    by true f go = (x.0, subst (λ z. P (x.0, z)) (sym (same_Some def x.1 f)) h.0)
    by false f go = go f

found-bounds : (es : List Entry) (d : Items) (b : HaveBounds es d) (n : ℕ) (def : TraitDef) → Some def ≡ trait_at n d.traits
    → (id : TraitId) × Each (IsBoundOf es d b.rank id.index def) def.bounds.items
found-bounds es d b n def e = at-found (λ (x : TraitId × TraitDef). Each (IsBoundOf es d b.rank x.0.index x.1) x.1.bounds.items) n def d.traits b.each e

sorts-there : (es : List Entry) (d : Items) (r : TraitRef) (def : TraitDef) → Some def ≡ trait_at r.def_id.index d.traits → IsApplied es d r → sorts_of (trees_at es r.args.0) ≡ sorts_of_params def
sorts-there es d r def e h = subst (λ o. IfSome o (λ x. sorts_of (trees_at es r.args.0) ≡ sorts_of_params x)) (sym e) h.sorts

pub bounds-fit : (es : List Entry) (d : Items) → HaveBounds es d → (r : TraitRef) → IsApplied es d r → (def : TraitDef) → Some def ≡ trait_at r.def_id.index d.traits
    → Each (λ (b : TraitRef). first_misfit (trees_at es r.args.0) (trees_at es b.args.0) ≡ None) def.bounds.items
bounds-fit es d h r a def e =
    let found = found-bounds es d h r.def_id.index def e in
    each-kept (IsBoundOf es d h.rank found.0.index def) (λ (b : TraitRef). first_misfit (trees_at es r.args.0) (trees_at es b.args.0) ≡ None) (λ b g. g.speaks (trees_at es r.args.0) (sorts-there es d r def e a)) def.bounds.items
    found.1

instance-applied : (old new : List Entry) (d : Items) (A : Trees) (b r : TraitRef) → outer_binder A ≡ 0 → first_misfit A (trees_at old b.args.0) ≡ None → IsApplied old d b
    → reference_in new r ≡ with_args A (reference_in old b) → IsApplied new d r
instance-applied old new d A b r z f h e =
    let number : r.def_id.index ≡ b.def_id.index = ap (λ (s : Reference). s.trait) e in
    let trees : trees_at new r.args.0 ≡ instantiate 0 A (trees_at old b.args.0) = ap (λ (s : Reference). s.args) e in
    let sorts : sorts_of (trees_at new r.args.0) ≡ sorts_of (trees_at old b.args.0) = ap sorts_of trees ∙ instance-sorts 0 A (trees_at old b.args.0) f in
    record {
      sorts = subst (λ n. IfSome (trait_at n d.traits) (λ def. sorts_of (trees_at new r.args.0) ≡ sorts_of_params def)) (sym number)
          (subst (λ s. IfSome (trait_at b.def_id.index d.traits) (λ def. s ≡ sorts_of_params def)) (sym sorts) h.sorts);
      closed = ap outer_binder trees ∙ instance-closed A (trees_at old b.args.0) z h.closed;
    }

head-is : (x y : Reference) (xs ys : List Reference) → x ∷ xs ≡ y ∷ ys → x ≡ y
head-is x y xs ys e = cc

tail-is : (x y : Reference) (xs ys : List Reference) → x ∷ xs ≡ y ∷ ys → xs ≡ ys
tail-is x y xs ys e = cc

instances-applied : (old new : List Entry) (d : Items) (A : Trees) (bs rs : List TraitRef) → outer_binder A ≡ 0 → Each (λ (b : TraitRef). first_misfit A (trees_at old b.args.0) ≡ None) bs
    → Each (IsApplied old d) bs → references_in new rs ≡ all_with_args A (references_in old bs) → AreApplied new d rs
instances-applied old new d A bs [] z f h e = tt
instances-applied old new d A [] (r ∷ rs) z f h e = absurd cc
instances-applied old new d A (b ∷ bs) (r ∷ rs) z f h e =
    let first = head-is (reference_in new r) (with_args A (reference_in old b)) (references_in new rs) (all_with_args A (references_in old bs)) e in
    let rest = tail-is (reference_in new r) (with_args A (reference_in old b)) (references_in new rs) (all_with_args A (references_in old bs)) e in
    (instance-applied old new d A b r z f.0 h.0 first, instances-applied old new d A bs rs z f.1 h.1 rest)

pub bounds-applied : (old new : List Entry) (d : Items) → HaveBounds old d → (r : TraitRef) → IsApplied old d r → (def : TraitDef) → Some def ≡ trait_at r.def_id.index d.traits
    → (rs : List TraitRef) → references_in new rs ≡ all_with_args (trees_at old r.args.0) (references_in old def.bounds.items) → AreApplied new d rs
bounds-applied old new d h r a def e rs are =
    let found = found-bounds old d h r.def_id.index def e in
    instances-applied old new d (trees_at old r.args.0) def.bounds.items rs a.closed (bounds-fit old d h r a def e)
    (each-kept (IsBoundOf old d h.rank found.0.index def) (IsApplied old d) (λ b g. g.applied) def.bounds.items found.1) are

-- ---- bounds lead down
pub lead-down : (es : List Entry) (d : Items) (h : HaveBounds es d) → LeadDown (written es d) h.rank
lead-down es d h x b i j =
    let y = map-in (trait_in es) d.traits x i in
    let bounds_are : map (reference_in es) y.0.1.bounds.items ≡ x.bounds = ap (λ (t : TraitDecl). t.bounds) y.2 in
    let name_is : y.0.0.index ≡ x.name = ap (λ (t : TraitDecl). t.name) y.2 in
    let c = map-in (reference_in es) y.0.1.bounds.items b (subst (In b) (sym bounds_are) j) in
    let bounds = each-in (λ (z : TraitId × TraitDef). Each (IsBoundOf es d h.rank z.0.index z.1) z.1.bounds.items) d.traits h.each y.0 y.1 in
    let bound = each-in (IsBoundOf es d h.rank y.0.0.index y.0.1) y.0.1.bounds.items bounds c.0 c.1 in
    subst (λ n. h.rank b.trait < h.rank n) name_is (subst (λ (s : Reference). h.rank s.trait < h.rank y.0.0.index) c.2 bound.lower)

-- ---- what was declared stays so as the interner grows
pub applied-later : (old new : List Entry) → Keeps old new → (d : Items) (r : TraitRef) → ReferenceHeld old r → IsApplied old d r → IsApplied new d r
applied-later old new k d r h a =
    let same = args-same old new k r h in
    record {
      sorts = subst (λ t. IfSome (trait_at r.def_id.index d.traits) (λ def. sorts_of t ≡ sorts_of_params def)) (sym same) a.sorts;
      closed = ap outer_binder same ∙ a.closed;
    }

pub all-applied-later : (old new : List Entry) → Keeps old new → (d : Items) (rs : List TraitRef) → TraitRefsHeld old rs → AreApplied old d rs → AreApplied new d rs
all-applied-later old new k d [] h a = tt
all-applied-later old new k d (r ∷ rs) h a = (applied-later old new k d r h.0 a.0, all-applied-later old new k d rs h.1 a.1)

bound-later : (old new : List Entry) → Keeps old new → (d : Items) (rank : ℕ → ℕ) (t : ℕ) (def : TraitDef) (bs : List TraitRef) → TraitRefsHeld old bs → Each (IsBoundOf old d rank t def) bs
    → Each (IsBoundOf new d rank t def) bs
bound-later old new k d rank t def [] h a = tt
bound-later old new k d rank t def (b ∷ bs) h a = (
  record {
    applied = applied-later old new k d b h.0 a.0.applied;
    speaks = λ A e. ap (first_misfit A) (args-same old new k b h.0) ∙ a.0.speaks A e;
    lower = a.0.lower;
  },
  bound-later old new k d rank t def bs h.1 a.1,
)

bounds-later : (old new : List Entry) → Keeps old new → (d : Items) (rank : ℕ → ℕ) (xs : List (TraitId × TraitDef)) → Each (λ (x : TraitId × TraitDef). TraitRefsHeld old x.1.bounds.items) xs
    → Each (λ (x : TraitId × TraitDef). Each (IsBoundOf old d rank x.0.index x.1) x.1.bounds.items) xs → Each (λ (x : TraitId × TraitDef). Each (IsBoundOf new d rank x.0.index x.1) x.1.bounds.items) xs
bounds-later old new k d rank [] h a = tt
bounds-later old new k d rank (x ∷ xs) h a = (bound-later old new k d rank x.0.index x.1 x.1.bounds.items h.0 a.0, bounds-later old new k d rank xs h.1 a.1)

pub have-bounds-later : (old new : List Entry) → Keeps old new → (d : Items) → AreHeld old d → HaveBounds old d → HaveBounds new d
have-bounds-later old new k d h b = record { rank = b.rank; each = bounds-later old new k d b.rank d.traits h.traits b.each }

-- ---- the loop
module _ (es0 : List Entry) (d : Items) (references : List TraitRef) where
  abbrev V : World
  V = written es0 d

  abbrev pub levels : List Reference
  levels = all_levels V (references_in es0 references)

  -- what stands on the stack, what was put there, and what was taken off
  pub record Elaborates (es : List Entry) (e : Elaborator) (found : List TraitRef) : Type 0 where
    pub keeps : Keeps es0 es
    pub stack_held : TraitRefsHeld es e.stack.items
    pub visited_held : TraitRefsHeld es e.visited.keys
    pub found_held : TraitRefsHeld es found
    pub stack_applied : AreApplied es d e.stack.items
    pub found_applied : AreApplied es d found
    pub left : IsLeft V levels (references_in es e.visited.keys) (pushed (references_in es e.stack.items) []) (references_in es found) (elaborate V (references_in es0 references))

  -- the number that falls
  abbrev pub to_come : List Entry → Elaborator → ℕ
  to_come es e = length (pushed (references_in es e.stack.items) []) + missing levels (references_in es e.visited.keys)

  pub elaborates-first : (old new : Elaborator) → TraitRefsHeld es0 references → AreApplied es0 d references → old.stack.items ≡ [] → old.visited.keys ≡ []
      → StacksUnseen es0 references old new → Elaborates es0 new []
  elaborates-first old new held applied s v x =
      let stack_is : new.stack.items ≡ x.added = x.stack ∙ ap (λ l. l ++ x.added) s in
      let visited_is : new.visited.keys ≡ x.added = x.visited ∙ ap (λ l. l ++ x.added) v in
      let new_is : references_in es0 x.added ≡ new_of [] (references_in es0 references) = x.are_new ∙ ap (λ l. new_of (references_in es0 l) (references_in es0 references)) v in
      let added_held = all-in (ReferenceHeld es0) x.added (λ r i. each-in (ReferenceHeld es0) references held r (x.among r i)) in
      let added_applied = all-in (IsApplied es0 d) x.added (λ r i. each-in (IsApplied es0 d) references applied r (x.among r i)) in
      record {
        keeps = λ i e h. h;
        stack_held = subst (TraitRefsHeld es0) (sym stack_is) added_held;
        visited_held = subst (TraitRefsHeld es0) (sym visited_is) added_held;
        found_held = tt;
        stack_applied = subst (AreApplied es0 d) (sym stack_is) added_applied;
        found_applied = tt;
        left = subst (λ l. IsLeft V levels (references_in es0 l) (pushed (references_in es0 new.stack.items) []) [] (elaborate V (references_in es0 references))) (sym visited_is)
            (subst (λ l. IsLeft V levels (references_in es0 x.added) (pushed (references_in es0 l) []) [] (elaborate V (references_in es0 references))) (sym stack_is)
            (left-at-first V (references_in es0 references) (references_in es0 x.added) new_is own));
      }
    where
      own : (z : Reference) → In z (references_in es0 references) → In z levels
      own z i = flat-in (λ r. r ∷ strict_supertraits V r) (references_in es0 references) z z i (here z (strict_supertraits V z))

  -- a step, in which next is taken off the stack, and its written supertraits ws are put there
  module _ (bounds : HaveBounds es0 d) (are_held : AreHeld es0 d) (es1 es2 : List Entry) (old mid new : Elaborator) (next : TraitRef) (found ws : List TraitRef)
      (h : Elaborates es1 old found) (popped : old.stack.items ≡ mid.stack.items ++ next ∷ []) (visited_stays : mid.visited.keys ≡ old.visited.keys)
      (k : Keeps es1 es2) (ws_held : TraitRefsHeld es2 ws) (ws_applied : AreApplied es2 d ws)
      (ws_are : references_in es2 ws ≡ written_supertraits (written es1 d) (reference_in es1 next)) (x : StacksUnseen es2 ws mid new) where
    closed : (s t : Reference) → In s levels → In t (written_supertraits V s) → In t levels
    closed s t i j = all-closed V bounds.rank (lead-down es0 d bounds) (references_in es0 references) s t i j

    stack1 : List Reference
    stack1 = references_in es1 mid.stack.items

    old_held : TraitRefsHeld es1 (mid.stack.items ++ next ∷ [])
    old_held = subst (TraitRefsHeld es1) popped h.stack_held

    old_applied : AreApplied es1 d (mid.stack.items ++ next ∷ [])
    old_applied = subst (AreApplied es1 d) popped h.stack_applied

    mid_held : TraitRefsHeld es1 mid.stack.items
    mid_held = each-front (ReferenceHeld es1) mid.stack.items next old_held

    next_held : ReferenceHeld es1 next
    next_held = each-end (ReferenceHeld es1) mid.stack.items next old_held

    references-append : (es : List Entry) (xs ys : List TraitRef) → references_in es (xs ++ ys) ≡ references_in es xs ++ references_in es ys
    references-append es [] ys = refl
    references-append es (y ∷ xs) ys = ap (λ l. reference_in es y ∷ l) (references-append es xs ys)

    top : pushed (references_in es1 old.stack.items) [] ≡ reference_in es1 next ∷ pushed stack1 []
    unfolding stack1
    top = ap (λ l. pushed (references_in es1 l) []) popped ∙ ap (λ l. pushed l []) (references-append es1 mid.stack.items (next ∷ [])) ∙ pushed-append stack1 (reference_in es1 next ∷ []) []

    put1 : List Reference
    put1 = references_in es1 old.visited.keys

    added : List Reference
    added = references_in es2 x.added

    visited2 : references_in es2 mid.visited.keys ≡ put1
    unfolding put1
    visited2 = ap (references_in es2) visited_stays ∙ all-same es1 es2 k old.visited.keys h.visited_held

    added_is : added ≡ new_of put1 (written_supertraits V (reference_in es1 next))
    unfolding put1 added
    added_is =
        x.are_new ∙ ap (λ l. new_of l (references_in es2 ws)) visited2
        ∙ ap (new_of put1) (ws_are ∙ ap (λ W. written_supertraits W (reference_in es1 next)) (all-written es0 es1 h.keeps d are_held))

    new-stack : pushed (references_in es2 new.stack.items) [] ≡ pushed added (pushed stack1 [])
    unfolding stack1 added
    new-stack =
        ap (λ l. pushed (references_in es2 l) []) x.stack ∙ ap (λ l. pushed l []) (references-append es2 mid.stack.items x.added)
        ∙ pushed-append (references_in es2 mid.stack.items) (references_in es2 x.added) []
        ∙ ap (λ l. pushed (references_in es2 x.added) (pushed l [])) (all-same es1 es2 k mid.stack.items mid_held)

    new-visited : references_in es2 new.visited.keys ≡ put1 ++ added
    unfolding put1 added
    new-visited = ap (references_in es2) x.visited ∙ references-append es2 mid.visited.keys x.added ∙ ap (λ l. l ++ references_in es2 x.added) visited2

    new-found : references_in es2 (found ++ next ∷ []) ≡ references_in es1 found ++ reference_in es1 next ∷ []
    new-found = all-same es1 es2 k (found ++ next ∷ []) (all-put es1 found next h.found_held next_held) ∙ references-append es1 found (next ∷ [])

    left1 : IsLeft V levels put1 (reference_in es1 next ∷ pushed stack1 []) (references_in es1 found) (elaborate V (references_in es0 references))
    unfolding put1
    left1 = subst (λ l. IsLeft V levels (references_in es1 old.visited.keys) l (references_in es1 found) (elaborate V (references_in es0 references))) top h.left

    left2 : IsLeft V levels (put1 ++ added) (pushed added (pushed stack1 [])) (references_in es1 found ++ reference_in es1 next ∷ []) (elaborate V (references_in es0 references))
    left2 = left-next V levels put1 (pushed stack1 []) (references_in es1 found) (elaborate V (references_in es0 references)) (reference_in es1 next) added closed left1 added_is

    added_held : TraitRefsHeld es2 x.added
    added_held = all-in (ReferenceHeld es2) x.added (λ r i. each-in (ReferenceHeld es2) ws ws_held r (x.among r i))

    added_applied : AreApplied es2 d x.added
    added_applied = all-in (IsApplied es2 d) x.added (λ r i. each-in (IsApplied es2 d) ws ws_applied r (x.among r i))

    pub elaborates-next : Elaborates es2 new (found ++ next ∷ [])
    elaborates-next = record {
      keeps = λ i e g. k i e (h.keeps i e g);
      stack_held = subst (TraitRefsHeld es2) (sym x.stack) (each-append (ReferenceHeld es2) mid.stack.items x.added (references-kept es1 es2 k mid.stack.items mid_held) added_held);
      visited_held = subst (TraitRefsHeld es2) (sym x.visited)
          (each-append (ReferenceHeld es2) mid.visited.keys x.added (subst (TraitRefsHeld es2) (sym visited_stays) (references-kept es1 es2 k old.visited.keys h.visited_held)) added_held);
      found_held = references-kept es1 es2 k (found ++ next ∷ []) (all-put es1 found next h.found_held next_held);
      stack_applied = subst (AreApplied es2 d) (sym x.stack)
          (each-append (IsApplied es2 d) mid.stack.items x.added (all-applied-later es1 es2 k d mid.stack.items mid_held (each-front (IsApplied es1 d) mid.stack.items next old_applied)) added_applied);
      found_applied = all-applied-later es1 es2 k d (found ++ next ∷ []) (all-put es1 found next h.found_held next_held)
          (each-append (IsApplied es1 d) found (next ∷ []) h.found_applied (each-end (IsApplied es1 d) mid.stack.items next old_applied, tt));
      left = subst (λ l. IsLeft V levels l (pushed (references_in es2 new.stack.items) []) (references_in es2 (found ++ next ∷ [])) (elaborate V (references_in es0 references))) (sym new-visited)
          (subst (λ l. IsLeft V levels (put1 ++ added) l (references_in es2 (found ++ next ∷ [])) (elaborate V (references_in es0 references))) (sym new-stack)
          (subst (λ l. IsLeft V levels (put1 ++ added) (pushed added (pushed stack1 [])) l (elaborate V (references_in es0 references))) (sym new-found) left2));
    }

    pub elaborates-falls : to_come es2 new < to_come es1 old
    unfolding put1
    elaborates-falls =
        subst (λ l. to_come es2 new < length l + missing levels put1) (sym top)
        (subst (λ l. length (pushed (references_in es2 new.stack.items) []) + missing levels l < length (reference_in es1 next ∷ pushed stack1 []) + missing levels put1) (sym new-visited)
        (subst (λ l. length l + missing levels (put1 ++ added) < length (reference_in es1 next ∷ pushed stack1 []) + missing levels put1) (sym new-stack)
        (left-falls V levels put1 (pushed stack1 []) (reference_in es1 next) added closed (left1.among (reference_in es1 next) (here (reference_in es1 next) (pushed stack1 []))) added_is)))

  pub popped-held : (es : List Entry) (e : Elaborator) (found rest : List TraitRef) (next : TraitRef) → Elaborates es e found → e.stack.items ≡ rest ++ next ∷ [] → ReferenceHeld es next
  popped-held es e found rest next h p = each-end (ReferenceHeld es) rest next (subst (TraitRefsHeld es) p h.stack_held)

  pub popped-applied : (es : List Entry) (e : Elaborator) (found rest : List TraitRef) (next : TraitRef) → Elaborates es e found → e.stack.items ≡ rest ++ next ∷ [] → IsApplied es d next
  popped-applied es e found rest next h p = each-end (IsApplied es d) rest next (subst (AreApplied es d) p h.stack_applied)

  pub elaborates-last : (es : List Entry) (e : Elaborator) (found : List TraitRef) → Elaborates es e found → e.stack.items ≡ []
      → references_in es found ≡ elaborate V (references_in es0 references)
  elaborates-last es e found h s =
      left-nothing V levels (references_in es e.visited.keys) (references_in es found) (elaborate V (references_in es0 references))
      (subst (λ l. IsLeft V levels (references_in es e.visited.keys) (pushed (references_in es l) []) (references_in es found) (elaborate V (references_in es0 references))) s h.left)
