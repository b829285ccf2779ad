-- Built-in rows of types without lifetimes.
use Rattle.std.proofs.Common.{◌≡◌, ℕ, Bool, true, false, cond, ◌||◌, ◌&&◌, ◌==◌, List, [], ◌∷◌, ◌++◌, None, refl, sym, ap, subst, ◌∙◌, if◌then◌else◌, map}
use Rattle.std.specs.Prelude.{filter}
use Rattle.std.specs.List.{flat_map, list_any}
use Rattle.type_terms.specs.Promised.Trees.{Trees, none, tree}
use Rattle.type_terms.specs.Promised.Worlds.{World, Reference, ImplDecl}
use Rattle.type_terms.specs.Promised.Proofs.{In}
use Rattle.type_terms.specs.Promised.Rules.{Rule, Way, BuiltIn, built_in, by_impl, by_clause, by_super, asked, same_head, sized, copy, clone, tuple_trait, fn_ptr_trait, is_fn_trait, unsize, is_auto, sized_rules, copy_rules, tuple_rules, fn_ptr_rules, call_rules, plain_rules, auto_rules, auto_rules_plain, unsize_rules, object_rules, built_in_rules, clause_rules, impl_rules}
use Rattle.type_terms.proofs.Members.{here, in-left, in-right}
use Rattle.declarations.specs.Relevant.{next_above, relevant_impls}
use Rattle.structural_traits.specs.Constituents.{IsBuiltInWay, IsOneRow}
use Rattle.proof_checker.specs.Checked.{IsBuiltInRule}
use Rattle.proof_checker.specs.Rows.{HasOwnRule, HasRow}

-- ---- rows
abbrev rule_of : Way → List Reference → Rule
rule_of w ps = record { way = w; premises = ps }

with-way : (ps : List Reference) (w : Way) (qs : List Reference) → IsBuiltInWay w × (qs ≡ ps) → (b : BuiltIn) × In (rule_of (built_in b) ps) (rule_of w qs ∷ [])
with-way ps (built_in b) qs h = (b, subst (λ rs. In (rule_of (built_in b) ps) (rule_of (built_in b) rs ∷ [])) (sym h.1) (here (rule_of (built_in b) ps) []))
with-way ps (by_impl i) qs h = absurd h.0
with-way ps (by_clause k) qs h = absurd h.0
with-way ps (by_super k n) qs h = absurd h.0

one-row : (us : List Rule) (ps : List Reference) → IsOneRow us ps → (b : BuiltIn) × In (rule_of (built_in b) ps) us
one-row [] ps h = absurd h
one-row (u ∷ []) ps h = with-way ps u.way u.premises h
one-row (u ∷ v ∷ us) ps h = absurd h

abbrev of_copy : World → Reference → List Rule
of_copy V r = if (r.trait == copy) || (r.trait == clone) then copy_rules r.trait r.args else []

abbrev of_tuple : World → Reference → List Rule
of_tuple V r = if r.trait == tuple_trait then tuple_rules r.args else []

abbrev of_fn_ptr : World → Reference → List Rule
of_fn_ptr V r = if r.trait == fn_ptr_trait then fn_ptr_rules r.args else []

abbrev of_calls : World → Reference → List Rule
of_calls V r = if is_fn_trait r.trait then call_rules r.args else []

abbrev of_sized : World → Reference → List Rule
of_sized V r = if r.trait == sized then sized_rules V r.args else []

abbrev of_auto : World → Reference → List Rule
of_auto V r = if is_auto V r.trait then auto_rules V r.trait r.args else []

abbrev of_unsize : World → Reference → List Rule
of_unsize V r = if r.trait == unsize then unsize_rules V r.args else []

module _ (V : World) (s : Trees) (ps : List Reference) where
  pub sized-row : IsOneRow (sized_rules V s) ps → HasRow V sized s ps
  sized-row h =
      let r = asked sized s in
      let u = one-row (sized_rules V s) ps h in (
        u.0,
        in-right (rule_of (built_in u.0) ps) (plain_rules r) (of_sized V r ++ (of_auto V r ++ (of_unsize V r ++ object_rules V r s)))
            (in-left (rule_of (built_in u.0) ps) (of_sized V r) (of_auto V r ++ (of_unsize V r ++ object_rules V r s)) u.1),
      )

  -- the trait is an auto trait, and its own rule stands
  pub auto-row : (t : ℕ) → HasOwnRule V t s → IsOneRow (auto_rules_plain V t s) ps → HasRow V t s ps
  auto-row t own h =
      let r = asked t s in
      let stands : of_auto V r ≡ auto_rules_plain V t s = ap (λ b. if b then auto_rules V t s else []) own.0 ∙ own.1 in
      let u = one-row (of_auto V r) ps (subst (λ us. IsOneRow us ps) (sym stands) h) in (
        u.0,
        in-right (rule_of (built_in u.0) ps) (plain_rules r) (of_sized V r ++ (of_auto V r ++ (of_unsize V r ++ object_rules V r s)))
            (in-right (rule_of (built_in u.0) ps) (of_sized V r) (of_auto V r ++ (of_unsize V r ++ object_rules V r s))
            (in-left (rule_of (built_in u.0) ps) (of_auto V r) (of_unsize V r ++ object_rules V r s) u.1)),
      )

  plain-row : (r : Reference) → r.args ≡ s → (b : BuiltIn) × In (rule_of (built_in b) ps) (plain_rules r) → (b : BuiltIn) × In (rule_of (built_in b) ps) (built_in_rules V r)
  plain-row r e u = (u.0, in-left (rule_of (built_in u.0) ps) (plain_rules r) (of_sized V r ++ (of_auto V r ++ (of_unsize V r ++ object_rules V r r.args))) u.1)

  pub copy-row : IsOneRow (copy_rules copy s) ps → HasRow V copy s ps
  copy-row h =
      let r = asked copy s in
      let u = one-row (copy_rules copy s) ps h in
      plain-row r refl (u.0, in-left (rule_of (built_in u.0) ps) (of_copy V r) (of_tuple V r ++ (of_fn_ptr V r ++ of_calls V r)) u.1)

  pub clone-row : IsOneRow (copy_rules clone s) ps → HasRow V clone s ps
  clone-row h =
      let r = asked clone s in
      let u = one-row (copy_rules clone s) ps h in
      plain-row r refl (u.0, in-left (rule_of (built_in u.0) ps) (of_copy V r) (of_tuple V r ++ (of_fn_ptr V r ++ of_calls V r)) u.1)

  pub tuple-row : IsOneRow (tuple_rules s) ps → HasRow V tuple_trait s ps
  tuple-row h =
      let r = asked tuple_trait s in
      let u = one-row (tuple_rules s) ps h in
      plain-row r refl
      (u.0, in-right (rule_of (built_in u.0) ps) (of_copy V r) (of_tuple V r ++ (of_fn_ptr V r ++ of_calls V r)) (in-left (rule_of (built_in u.0) ps) (of_tuple V r) (of_fn_ptr V r ++ of_calls V r) u.1))

  pub fn-ptr-row : IsOneRow (fn_ptr_rules s) ps → HasRow V fn_ptr_trait s ps
  fn-ptr-row h =
      let r = asked fn_ptr_trait s in
      let u = one-row (fn_ptr_rules s) ps h in
      plain-row r refl (
        u.0,
        in-right (rule_of (built_in u.0) ps) (of_copy V r) (of_tuple V r ++ (of_fn_ptr V r ++ of_calls V r))
            (in-right (rule_of (built_in u.0) ps) (of_tuple V r) (of_fn_ptr V r ++ of_calls V r) (in-left (rule_of (built_in u.0) ps) (of_fn_ptr V r) (of_calls V r) u.1)),
      )

pub built-in-rule : (V : World) (E : List Reference) (t : ℕ) (s : Trees) (ps : List Reference) → HasRow V t s ps → IsBuiltInRule V E (asked t s) ps
built-in-rule V E t s ps u =
    let r = asked t s in (
      u.0,
      in-right (rule_of (built_in u.0) ps) (flat_map (impl_rules r) V.impls) (built_in_rules V r ++ clause_rules V r 0 E)
          (in-left (rule_of (built_in u.0) ps) (built_in_rules V r) (clause_rules V r 0 E) u.1),
    )

-- ---- where no impl is written for the type
abbrev names : List ImplDecl → List ℕ
names is = map (λ (i : ImplDecl). i.name) is

none-is : (p : ImplDecl → Bool) (is : List ImplDecl) → None ≡ next_above None (names (filter p is)) → list_any p is ≡ false
none-is p [] h = refl
none-is p (i ∷ is) h = by (p i) h (none-is p is)
  where
    by : (b : Bool) → None ≡ next_above None (names (cond b (i ∷ filter p is) (filter p is))) → (None ≡ next_above None (names (filter p is)) → list_any p is ≡ false) → (b || list_any p is) ≡ false
    by true h rest = absurd cc
    by false h rest = rest h

pub own-rule : (V : World) (t : ℕ) (s : Trees) → None ≡ next_above None (names (relevant_impls V t s)) → auto_rules V t s ≡ auto_rules_plain V t s
own-rule V t none h = refl
own-rule V t (tree l c o) h = ap (λ b. if b then [] else auto_rules_plain V t (tree l c o)) (none-is (λ i. (i.header.trait == t) && same_head l i.header.args) V.impls h)
