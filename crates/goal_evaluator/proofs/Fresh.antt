-- New inference variables and recorded constraints in the tables of frames.
use Rattle.std.proofs.Common.{◌≡◌, ℕ, zero, suc, ◌+◌, ◌<◌, ◌≤◌, arith, Bool, true, List, [], ◌∷◌, ◌++◌, sym, subst, None}
use Rattle.type_terms.specs.Promised.Label.{Label, Sort, of_type, of_const, infer}
use Rattle.type_terms.specs.Promised.Trees.{Trees, leaf}
use Rattle.infer_table.specs.Solutions.{Binding, Acyclic}
use Rattle.infer_table.specs.Unification.{TableTrees}
use Rattle.infer_table.specs.declared.canonical.CanonicalVarKind.{CanonicalVarKind}
use Rattle.infer_table.specs.Leaves.{root_label}
use Rattle.infer_table.specs.Values.{Value}
use Rattle.infer_table.specs.Raw.{sort_of_kind}
use Rattle.infer_table.specs.Applying.{unknowns_of, table_after, table_for}
use Rattle.goal_evaluator.specs.Lists.{Every}
use Rattle.goal_evaluator.specs.Instances.{put_in}
use Rattle.type_terms.specs.Made.{terms, is_made}
use Rattle.goal_evaluator.specs.Equations.{IsValue}
use Rattle.goal_evaluator.specs.FrameTables.{is_good, AreOwn, FrameTable, IsMadeFrame, slot_at, labels_for, unknown}
use Rattle.goal_evaluator.specs.TableOperations.{fresh, recorded}
use Rattle.goal_evaluator.proofs.TableBeginning.{below-is}
use Rattle.goal_evaluator.proofs.Labels.{made-more}
use Rattle.goal_evaluator.proofs.Applying.{AreTheirs, for-bindings, for-more, after-own, new-value, good-grows, infer-leaf, with-constraints-made}
use Rattle.type_terms.proofs.NumberBasics.{itself}

new-leaves : (kinds : List CanonicalVarKind) (u t : TableTrees) (i : ℕ) (ks : List CanonicalVarKind) → ((s : Sort) → unknowns_of (table_for unknown t i ks) s ≤ unknowns_of u s)
    → AreTheirs (is_good kinds u.ty_vars u.const_vars) (labels_for t i ks)
new-leaves kinds u t i [] h = tt
new-leaves kinds u t i (k ∷ ks) h = (
  subst (λ (v : Value). is_made (is_good kinds u.ty_vars u.const_vars) terms (leaf (root_label v.trees)) ≡ true) (sym (new-value t k))
      (infer-leaf kinds u (sort_of_kind k) (unknowns_of t (sort_of_kind k))
      (less (unknowns_of t (sort_of_kind k)) _ _ _ (after-own t k) (for-more unknown (table_after None t k) (i + 1) ks (sort_of_kind k)) (h (sort_of_kind k)))),
  new-leaves kinds u (table_after None t k) (i + 1) ks h,
)
  where
    less : (a b c d : ℕ) → a < b → b ≤ c → c ≤ d → a < d
    less a b c d p q r = omega (arith, p, q, r)

own-more : (place : ℕ) (ks : List CanonicalVarKind) (ls more : List Label) → AreOwn place ks ls → AreOwn place ks (ls ++ more)
own-more place [] ls more h = tt
own-more place (k ∷ ks) [] more h = absurd h
own-more place (k ∷ ks) (l ∷ ls) more h = (h.0, own-more (suc place) ks ls more h.1)

every-both : (good : Label → Bool) (ls more : List Label) → AreTheirs good ls → AreTheirs good more → AreTheirs good (ls ++ more)
every-both good [] more h g = g
every-both good (l ∷ ls) more h g = (h.0, every-both good ls more h.1 g)

module _ (t : FrameTable) (made : IsMadeFrame t) (ks : List CanonicalVarKind) where
  abbrev grown : TableTrees
  grown = table_for unknown t.content 0 ks

  abbrev good : Label → Bool
  good l = is_good t.kinds t.content.ty_vars t.content.const_vars l

  abbrev better : Label → Bool
  better l = is_good t.kinds grown.ty_vars grown.const_vars l

  better-too : (l : Label) → good l ≡ true → better l ≡ true
  better-too l h = good-grows t.kinds t.content.ty_vars t.content.const_vars grown.ty_vars grown.const_vars (for-more unknown t.content 0 ks of_type) (for-more unknown t.content 0 ks of_const) l h

  labels-made : (ls : List Label) → AreTheirs good ls → AreTheirs better ls
  labels-made [] h = tt
  labels-made (l ∷ ls) h = (made-more good better better-too terms (leaf l) h.0, labels-made ls h.1)

  each-value : (bs : List Binding) → Every (IsValue good) bs → Every (IsValue better) bs
  each-value [] h = tt
  each-value (b ∷ bs) h = (
    record { sort = h.0.sort; known = better-too (infer b.sort b.var) h.0.known; single = h.0.single; same_sort = h.0.same_sort; made = made-more good better better-too terms b.value h.0.made },
    each-value bs h.1,
  )

  pub fresh-made : IsMadeFrame (fresh t ks)
  fresh-made =
      record {
        table = record {
          acyclic = subst Acyclic (sym (for-bindings unknown t.content 0 ks)) made.table.acyclic;
          values = subst (Every (IsValue better)) (sym (for-bindings unknown t.content 0 ks)) (each-value t.content.bindings made.table.values);
          counted = record { types = λ v h. below-is v grown.ty_vars h; consts = λ v h. below-is v grown.const_vars h };
        };
        leaves = every-both better t.labels (labels_for t.content 0 ks) (labels-made t.labels made.leaves) (new-leaves t.kinds grown t.content 0 ks (λ s. itself (unknowns_of grown s)));
        own = own-more zero t.kinds t.labels (labels_for t.content 0 ks) made.own;
      }

-- ---- constraints on lifetimes
pub recorded-made : (t : FrameTable) → IsMadeFrame t → (c : Trees) → IsMadeFrame (recorded t c)
recorded-made t made c = record {
  table = with-constraints-made (is_good t.kinds t.content.ty_vars t.content.const_vars) (put_in (slot_at t.labels) c) t.content made.table;
  leaves = made.leaves;
  own = made.own;
}
