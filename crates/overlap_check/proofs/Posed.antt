-- What is asked over the table of a pair speaks of the table's own unknowns.
use Rattle.std.proofs.Common.{◌≡◌, ℕ, zero, suc, ◌<◌, ◌≤◌, arith, Bool, true, false, List, [], ◌∷◌, refl, sym, ap, subst, ◌||◌}
use Rattle.type_terms.specs.Promised.Label.{Label, Sort, infer, canonical, param, inside, principal, auto_trait, predicate, dynamic}
use Rattle.type_terms.specs.Promised.Trees.{Trees, none, tree, ◌+++◌, nth, shift, instantiate, some_node}
use Rattle.type_terms.specs.Promised.Worlds.{Reference, with_args, all_with_args}
use Rattle.type_terms.specs.Promised.Answers.{is_variable}
use Rattle.type_terms.proofs.Fitting.{child-shut, next-shut, or-no}
use Rattle.type_terms.specs.Promised.Handles.{Entry, Keeps, Has, ArgsHeld, arg_trees, trees_at}
use Rattle.type_terms.specs.Terms.{Lawful, args_lists}
use Rattle.type_terms.specs.Kinds.{args_trees}
use Rattle.type_terms.specs.declared.kinds.GenericArgs.{GenericArgs}
use Rattle.type_terms.specs.declared.kinds.GenericArgKind.{GenericArgKind}
use Rattle.type_terms.specs.Made.{terms, is_made, is_in_range}
use Rattle.type_terms.proofs.Made.{made-weaker}
use Rattle.term_folds.specs.declared.predicate.TraitRef.{TraitRef}
use Rattle.infer_table.specs.Applying.{unknowns_of}
use Rattle.infer_table.specs.Content.{Table, content, variables_of}
use Rattle.infer_table.specs.Growth.{counts-kept}
use Rattle.infer_table.specs.Covers.{AreKnown, IsOfKnown}
use Rattle.infer_table.specs.Kept.{content-kept}
use Rattle.infer_table.specs.Solutions.{occurs, is_same_variable as is_unknown, resolved}
use Rattle.infer_table.specs.Unification.{table_trees}
use Rattle.infer_table.specs.WellFormed.{is_numbered}
use Rattle.infer_table.proofs.ContentFacts.{is-trees}
use Rattle.infer_table.proofs.Covers.{same-unknowns, known-equates}
use Rattle.infer_table.proofs.Places.{in_terms, AreTrees, AllTrees, trees-of, trees-proper, numbered, one-tree, arg-term}
use Rattle.infer_table.proofs.SolutionLaws.{is_variable-equal}
use Rattle.declarations.specs.Applied.{references_in}
use Rattle.declarations.specs.Items.{reference_in}
use Rattle.declarations.specs.Promised.Elaboration.{Each}
use Rattle.declarations.specs.declared.items.ImplDef.{ImplDef}
use Rattle.overlap_check.specs.Fresh.{with_unknown, with_unknowns, fresh_unknowns}
use Rattle.overlap_check.specs.Headers.{sorts_of_impl, unknowns_for, with_unknowns_for, empty_table, pair_table, left_args, right_args, AreArguments, AreEqualHeaders, IsWithoutVariables, IsOfTable}
use Rattle.overlap_check.specs.Laws.{ValuesAreOfSolutions}
use Rattle.overlap_check.proofs.Owning.{IsOwn, AreOwn, AllOwn, NoFewer, own-known, own-clean, own-more, own-append, own-resolved, Ends, turns-own}
use Rattle.overlap_check.proofs.Headers.{pair-values}
use Rattle.overlap_check.proofs.Solved.{ready-facts}
use Rattle.overlap_check.proofs.Standing.{one-more, all-no-fewer}
use Rattle.overlap_check.proofs.Values.{solution}
use Rattle.type_terms.proofs.Matching.{or-false-left as no-left}
use Rattle.infer_table.proofs.Basics.{opens}

-- ---- unknowns in the place of parameters
plain-label : (n : Sort → ℕ) (l : Label) → is_variable l ≡ false → IsOwn n l
plain-label n (infer s v) e = absurd cc
plain-label n (canonical s i) e = absurd cc
plain-label n l e = tt

shift-own : (n : Sort → ℕ) (d a : ℕ) (t : Trees) → AreOwn n t → AreOwn n (shift d a t)
shift-own n d a none h = tt
shift-own n d a (tree (infer s v) c o) h = (h.0, shift-own n d a c h.1, shift-own n d a o h.2)
shift-own n d a (tree (canonical s i) c o) h = absurd h.0
shift-own n d a (tree l c o) h = (tt, shift-own n (inside l d) a c h.1, shift-own n d a o h.2)

nth-own : (n : Sort → ℕ) (t : Trees) (i : ℕ) → AreOwn n t → AreOwn n (nth t i)
nth-own n none i h = (tt, tt, tt)
nth-own n (tree l c o) zero h = (h.0, h.1, tt)
nth-own n (tree l c o) (suc i) h = nth-own n o i h.2

pub put-own : (n : Sort → ℕ) (I : Trees) → AreOwn n I → (d : ℕ) (x : Trees) → some_node is_variable x ≡ false → AreOwn n (instantiate d I x)
put-own n I h d none e = tt
put-own n I h d (tree (param s i) c o) e =
    own-append n (shift zero d (nth I i)) (instantiate d I o) (shift-own n zero d (nth I i) (nth-own n I i h)) (put-own n I h d o (next-shut is_variable (param s i) c o e))
put-own n I h d (tree l c o) e = (
  plain-label n l (no-left (is_variable l) (some_node is_variable c) (no-left (is_variable l || some_node is_variable c) (some_node is_variable o) e)),
  put-own n I h (inside l d) c (child-shut is_variable l c o e),
  put-own n I h d o (next-shut is_variable l c o e),
)

fresh-own : (t : Table) (ks : List Sort) → AreOwn (variables_of (with_unknowns t ks)) (fresh_unknowns t ks)
fresh-own t [] = tt
fresh-own t (k ∷ ks) =
    let a = one-more t k in
    let b = all-no-fewer (with_unknown t k) ks k in
    (omega (arith, a, b), tt, fresh-own (with_unknown t k) ks)

-- ---- terms of an interner
pub made : (es : List Entry) → Lawful es → (i : ℕ) → Has es args_lists i → AreTrees is_numbered in_terms (trees_at es i)
made es lawful i h =
    trees-of is_numbered terms (trees_at es i)
    (made-weaker is_in_range is_numbered numbered terms (trees_at es i) (subst (λ t. is_made is_in_range terms t ≡ true) (sym (is-trees es args_lists i h.0 h.1)) ((lawful.made i _ h.1).as_terms (λ e. cc))))

both-made : (x y : Trees) → AreTrees is_numbered in_terms x → AreTrees is_numbered in_terms y → AreTrees is_numbered in_terms (x +++ y)
both-made none y h g = g
both-made (tree (infer k v) c o) y h g = (h.0, h.1, both-made o y h.2 g)
both-made (tree (principal n t) c o) y h g = absurd h
both-made (tree (auto_trait i) c o) y h g = absurd h
both-made (tree (predicate k) c o) y h g = absurd h
both-made (tree dynamic c o) y h g = (h.0, both-made o y h.1 g)
both-made (tree l c o) y h g = (h.0, h.1, both-made o y h.2 g, h.3)

all-made : (es : List Entry) → Lawful es → (xs : List GenericArgKind) → ArgsHeld es xs → AreTrees is_numbered in_terms (args_trees es xs)
all-made es lawful [] h = tt
all-made es lawful (x ∷ xs) h = both-made (arg_trees es x) (args_trees es xs) (one-tree (arg_trees es x) (arg-term es lawful x h.0)).1 (all-made es lawful xs h.1)

made-arguments : (es : List Entry) → Lawful es → (ts : Trees) → AreArguments es ts → AreTrees is_numbered in_terms ts
made-arguments es lawful ts is = subst (AreTrees is_numbered in_terms) is.are (all-made es lawful is.args is.held)

-- ---- the table of a pair
module _ (w x : ImplDef) where
  abbrev pub counts : Sort → ℕ
  counts = variables_of (pair_table w x)

  pub left-own : AreOwn counts (unknowns_for empty_table w)
  left-own =
      own-more (variables_of (with_unknowns_for empty_table w)) counts (all-no-fewer (with_unknowns_for empty_table w) (sorts_of_impl x)) (unknowns_for empty_table w) (fresh-own empty_table (sorts_of_impl w))

  pub right-own : AreOwn counts (unknowns_for (with_unknowns_for empty_table w) x)
  right-own = fresh-own (with_unknowns_for empty_table w) (sorts_of_impl x)

asked-own : (n : Sort → ℕ) (es new : List Entry) (I : Trees) → AreOwn n I → (ks : List TraitRef) → Each (λ (r : TraitRef). some_node is_variable (trees_at es r.args.0) ≡ false) ks
    → (rs : List TraitRef) → references_in new rs ≡ all_with_args I (references_in es ks) → Each (λ (r : TraitRef). AreOwn n (trees_at new r.args.0)) rs
asked-own n es new I h [] e [] q = tt
asked-own n es new I h [] e (r ∷ rs) q = cc
asked-own n es new I h (k ∷ ks) e [] q = cc
asked-own n es new I h (k ∷ ks) e (r ∷ rs) q =
    let head : reference_in new r ≡ with_args I (reference_in es k) = cc in
    let tail : references_in new rs ≡ all_with_args I (references_in es ks) = cc in
    (subst (AreOwn n) (sym (ap (λ (z : Reference). z.args) head)) (put-own n I h zero (trees_at es k.args.0) e.0), asked-own n es new I h ks e.1 rs tail)

each-of : (es : List Entry) (u : Table) → AllOwn (variables_of u) (content es u.values) → (rs : List TraitRef) → Each (λ (r : TraitRef). AreOwn (variables_of u) (trees_at es r.args.0)) rs → Each (IsOfTable es u) rs
each-of es u h [] g = tt
each-of es u h (r ∷ rs) g =
    let o = own-resolved (variables_of u) (content es u.values) (trees_at es r.args.0) h g.0 in
    (record { known = own-known (variables_of u) (resolved (content es u.values) (trees_at es r.args.0)) o; clean = own-clean (variables_of u) (resolved (content es u.values) (trees_at es r.args.0)) o }, each-of es u h rs g.1)

module _ (es : List Entry) (w x : ImplDef) (vw : IsWithoutVariables es w) (vx : IsWithoutVariables es x) (three new : List Entry) (lawful : Lawful three) (u : Table) (h1 h2 : GenericArgs)
    (equal : AreEqualHeaders es w x three u h1 h2) (k : Keeps three new) where
  abbrev n : Sort → ℕ
  n = variables_of (pair_table w x)

  left-terms : AreOwn n (left_args es w)
  left-terms = (put-own n (unknowns_for empty_table w) (left-own w x) zero (trees_at es w.header.args.0) vw.header)

  right-terms : AreOwn n (right_args es w x)
  right-terms = (put-own n (unknowns_for (with_unknowns_for empty_table w) x) (right-own w x) zero (trees_at es x.header.args.0) vx.header)

  no-values : content three (pair_table w x).values ≡ []
  no-values = ap (content three) (pair-values w x)

  ends : Ends is_numbered opens (table_trees three (pair_table w x)) (table_trees three u)
  ends =
      turns-own is_numbered opens (table_trees three (pair_table w x)) (table_trees three u) (left_args es w) (right_args es w x)
      (subst (AllOwn (unknowns_of (table_trees three (pair_table w x)))) (sym no-values) tt, subst (AllTrees is_numbered) (sym no-values) tt)
      (subst (λ (c : Sort → ℕ). AreOwn c (left_args es w)) (sym (same-unknowns three (pair_table w x))) left-terms, made-arguments three lawful (left_args es w) equal.left_made)
      (subst (λ (c : Sort → ℕ). AreOwn c (right_args es w x)) (sym (same-unknowns three (pair_table w x))) right-terms, made-arguments three lawful (right_args es w x) equal.right_made)
      equal.exact

  kept : content new u.values ≡ content three u.values
  kept = content-kept three new u.values k equal.ready.held

  all-own : AllOwn (variables_of u) (content new u.values)
  all-own = subst (AllOwn (variables_of u)) (sym kept) (subst (λ (c : Sort → ℕ). AllOwn c (content three u.values)) (same-unknowns three u) ends.0.0)

  more : NoFewer n (variables_of u)
  more = counts-kept (pair_table w x) u equal.grows

  pub table-known : IsOfKnown (variables_of u) (content new u.values)
  table-known =
      subst (IsOfKnown (variables_of u)) (sym kept)
      (known-equates (variables_of u) [] (content three u.values) (left_args es w) (right_args es w x) equal.equates
      (own-known (variables_of u) (left_args es w) (own-more n (variables_of u) more (left_args es w) left-terms)) (own-known (variables_of u) (right_args es w x) (own-more n (variables_of u) more (right_args es w x) right-terms))
      (λ s r h g c. g))

  pub left-of-table : (rs : List TraitRef) → references_in new rs ≡ all_with_args (unknowns_for empty_table w) (references_in es w.clauses.items) → Each (IsOfTable new u) rs
  left-of-table rs q = each-of new u all-own rs (asked-own (variables_of u) es new (unknowns_for empty_table w) (own-more n (variables_of u) more (unknowns_for empty_table w) (left-own w x)) w.clauses.items vw.clauses rs q)

  pub right-of-table : (rs : List TraitRef) → references_in new rs ≡ all_with_args (unknowns_for (with_unknowns_for empty_table w) x) (references_in es x.clauses.items) → Each (IsOfTable new u) rs
  right-of-table rs q =
      each-of new u all-own rs
      (asked-own (variables_of u) es new (unknowns_for (with_unknowns_for empty_table w) x) (own-more n (variables_of u) more (unknowns_for (with_unknowns_for empty_table w) x) (right-own w x)) x.clauses.items vx.clauses rs q)

-- ---- values for unknowns
known-away : (n : Sort → ℕ) (x : Trees) → AreKnown n x → (k : Sort) (v : ℕ) → n k ≤ v → occurs k v x ≡ false
known-away n none h k v le = refl
known-away n (tree (infer j w) c o) h k v le = or-no (is_unknown j w k v) (occurs k v o) (apart (is_unknown j w k v) refl) (known-away n o h.2 k v le)
  where
    apart : (b : Bool) → is_unknown j w k v ≡ b → is_unknown j w k v ≡ false
    apart true e =
        let same = is_variable-equal j k w v e in
        let low : w < n k = subst (λ (z : Sort). w < n z) same.0 h.0 in
        let at : w ≡ v = same.1 in
        absurd (omega (arith, le, low, at))
    apart false e = e
known-away n (tree l c o) h k v le = or-no (occurs k v c) (occurs k v o) (known-away n c h.0 k v le) (known-away n o h.1 k v le)

pub values-are-of-solutions : ValuesAreOfSolutions
values-are-of-solutions es lawful t ready ts fit =
    let s = solution t (content es t.values) (ready-facts es t ready) ts fit in (
      s.0,
      s.1,
      λ r held is. ap (reference r.def_id.index)
          (s.2 (trees_at es r.args.0) (trees-proper is_numbered in_terms (trees_at es r.args.0) (made es lawful r.args.0 held)) (λ k v h le. known-away (variables_of t) (resolved (content es t.values) (trees_at es r.args.0)) is.known k v le)),
    )
  where
    reference : ℕ → Trees → Reference
    reference t a = record { trait = t; args = a }
