-- Lists of values: those of variables, and those that are equated.
use Rattle.std.proofs.Common.{◌≡◌, ℕ, zero, suc, Bool, true, false, ◌+◌, ◌<◌, ◌≤◌, List, [], ◌∷◌, ◌++◌, length, take, drop, get_or, min, refl, ap, sym, ◌∙◌, subst, arith, append_assoc, Option, Some, None, if◌then◌else◌, ◌==◌, ◌⊎◌, inl, inr}
use Rattle.std.specs.Prelude.{unwrap_or, option_map, IfSome}
use Rattle.std.specs.Option.{option_or}
use Rattle.std.proofs.lemmas.Grind.{common_steps}
use Rattle.std.proofs.lemmas.Bool.{cases_lt}
use Rattle.type_terms.specs.Promised.Label.{Label, of_type, of_const, infer, canonical}
use Rattle.type_terms.specs.Promised.Trees.{Trees, none, tree, ◌+++◌}
use Rattle.type_terms.specs.Trees.{Single}
use Rattle.type_terms.specs.Promised.Handles.{Entry, Keeps}
use Rattle.type_terms.specs.Terms.{Lawful}
use Rattle.type_terms.specs.Promised.Handles.{ArgHeld, ArgsHeld, arg_trees}
use Rattle.type_terms.specs.Kinds.{args_trees}
use Rattle.type_terms.specs.declared.kinds.GenericArgKind.{GenericArgKind}
use Rattle.type_terms.specs.Kept.{arg-held-later, arg-trees-later}
use Rattle.type_terms.proofs.Sorts.{arg-single}
use Rattle.infer_table.specs.Solutions.{Assignment, Binding, instance, Equates, HasNoSolution}
use Rattle.infer_table.specs.Unification.{TableTrees}
use Rattle.infer_table.specs.declared.canonical.CanonicalVarKind.{CanonicalVarKind}
use Rattle.infer_table.specs.Leaves.{leaf_label}
use Rattle.infer_table.proofs.SolutionLaws.{items-parts, parts-items}
use Rattle.infer_table.specs.Values.{Value, value_of, values_of, sort_of_arg}
use Rattle.infer_table.specs.Raw.{variables_from, variable_value}
use Rattle.infer_table.specs.Applying.{root_labels, next_unknown, table_after, values_for, is_numbered, canonical_number, original_of}

pub values-push : (es : List Entry) (xs : List GenericArgKind) (y : GenericArgKind) → values_of es (xs ++ y ∷ []) ≡ values_of es xs ++ value_of es y ∷ []
values-push es [] y = refl
values-push es (x ∷ xs) y = ap (λ z. value_of es x ∷ z) (values-push es xs y)

pub value-later : (old new : List Entry) → Keeps old new → (a : GenericArgKind) → ArgHeld old a → value_of new a ≡ value_of old a
value-later old new k a h = ap (λ (t : Trees). record { sort = sort_of_arg a; trees = t }) (arg-trees-later old new k a h)

-- a list from a place on begins with the item there
pub cut-at : {X : Type 0} (xs : List X) (i : ℕ) (d : X) → i < length xs → drop i xs ≡ get_or xs i d ∷ drop (i + 1) xs
cut-at xs i d h = grind (arith, common_steps)

pub past-end : {X : Type 0} (xs : List X) (i : ℕ) → length xs ≤ i → drop i xs ≡ []
past-end xs i h = grind (arith, common_steps)

-- one more variable stands for itself
pub one-more-variable : (vs : List Value) (v : Value) (all : List Value) (ks : List CanonicalVarKind) (i : ℕ) (k d : CanonicalVarKind) → i < length ks → k ≡ get_or ks i d → v ≡ variable_value k i
    → vs ++ variables_from i (drop i ks) ≡ all → (vs ++ v ∷ []) ++ variables_from (i + 1) (drop (i + 1) ks) ≡ all
one-more-variable vs v all ks i k d lt is e h =
    let cut : drop i ks ≡ k ∷ drop (i + 1) ks = cut-at ks i d lt ∙ ap (λ z. z ∷ drop (i + 1) ks) (sym is) in
    append_assoc vs (v ∷ []) (variables_from (i + 1) (drop (i + 1) ks)) ∙ ap (λ z. vs ++ z ∷ variables_from (i + 1) (drop (i + 1) ks)) e ∙ ap (λ z. vs ++ variables_from i z) (sym cut) ∙ h

values-none : (vs : List Value) → vs ++ [] ≡ vs
values-none vs = grind (arith, common_steps)

-- all variables stand for themselves
pub all-variables : (vs all : List Value) (ks : List CanonicalVarKind) (i : ℕ) → length ks ≤ i → vs ++ variables_from i (drop i ks) ≡ all → vs ≡ all
all-variables vs all ks i h e = sym (values-none vs) ∙ ap (λ z. vs ++ variables_from i z) (sym (past-end ks i h)) ∙ e

-- one more variable has its value
pub one-more-value : (known : ℕ → Option Value) (t u : TableTrees) (vs : List Value) (v : Value) (all : List Value) (ks : List CanonicalVarKind) (i : ℕ) (k d : CanonicalVarKind) → i < length ks → k ≡ get_or ks i d
    → v ≡ unwrap_or (known i) (next_unknown t k) → u ≡ table_after (known i) t k → vs ++ values_for known t i (drop i ks) ≡ all → (vs ++ v ∷ []) ++ values_for known u (i + 1) (drop (i + 1) ks) ≡ all
one-more-value known t u vs v all ks i k d lt is e f h =
    let cut : drop i ks ≡ k ∷ drop (i + 1) ks = cut-at ks i d lt ∙ ap (λ z. z ∷ drop (i + 1) ks) (sym is) in
    append_assoc vs (v ∷ []) (values_for known u (i + 1) (drop (i + 1) ks))
    ∙ ap (λ z. vs ++ z ∷ values_for known u (i + 1) (drop (i + 1) ks)) e
    ∙ ap (λ (z : TableTrees). vs ++ unwrap_or (known i) (next_unknown t k) ∷ values_for known z (i + 1) (drop (i + 1) ks)) f
    ∙ ap (λ z. vs ++ values_for known t i z) (sym cut) ∙ h

-- ---- equations one after the other
pub equates-both : (bs cs ds : List Binding) (a b x y : Trees) → Single a → Single b → Equates bs cs a b → Equates cs ds x y → Equates bs ds (a +++ x) (b +++ y)
equates-both bs cs ds a b x y sa sb p q = record {
  only = λ s h. let u = q.only s h in let v = p.only s u.0 in (v.0, parts-items s a b x y v.1 u.1);
  all = λ s h e. let parts = items-parts s a b x y sa sb e in q.all s (p.all s h parts.0) parts.1;
}

pub never-first : (bs : List Binding) (a b x y : Trees) → Single a → Single b → HasNoSolution bs a b → HasNoSolution bs (a +++ x) (b +++ y)
never-first bs a b x y sa sb n = λ s h e. n s h (items-parts s a b x y sa sb e).0

never-rest : (bs cs : List Binding) (a b x y : Trees) → Single a → Single b → Equates bs cs a b → HasNoSolution cs x y → HasNoSolution bs (a +++ x) (b +++ y)
never-rest bs cs a b x y sa sb p n = λ s h e. let parts = items-parts s a b x y sa sb e in n s (p.all s h parts.0) parts.1

some-instance : (s : Assignment) (t x : Trees) → Single t → none ≡ instance s (t +++ x) → ⊥
some-instance s none x h e = h
some-instance s (tree (infer of_type v) c o) x h e = cc
some-instance s (tree (infer of_const v) c o) x h e = cc
some-instance s (tree l c o) x h e = cc

pub never-left : (bs : List Binding) (t x : Trees) → Single t → HasNoSolution bs (t +++ x) none
never-left bs t x h = λ s k e. some-instance s t x h (sym e)

pub never-right : (bs : List Binding) (t x : Trees) → Single t → HasNoSolution bs none (t +++ x)
never-right bs t x h = λ s k e. some-instance s t x h e

-- ---- two lists from a place on
module _ (es : List Entry) (law : Lawful es) where
  equates-next : (bs cs ds : List Binding) (x y : GenericArgKind) (xs ys : List GenericArgKind) → ArgHeld es x → ArgHeld es y
      → Equates bs cs (arg_trees es x) (arg_trees es y) → Equates cs ds (args_trees es xs) (args_trees es ys) → Equates bs ds (args_trees es (x ∷ xs)) (args_trees es (y ∷ ys))
  equates-next bs cs ds x y xs ys h g e f =
      equates-both bs cs ds (arg_trees es x) (arg_trees es y) (args_trees es xs) (args_trees es ys) (arg-single es law.sorted x h) (arg-single es law.sorted y g) e f

  -- two lists are made equal by making equal their items at a place and then what comes after it
  pub equates-from : (now : List Entry) → Keeps es now → (bs cs ds : List Binding) (xs ys : List GenericArgKind) (i : ℕ) (x y : GenericArgKind) → i < length xs → i < length ys → x ≡ get_or xs i x → y ≡ get_or ys i y → ArgHeld es x → ArgHeld es y
      → Equates bs cs (arg_trees now x) (arg_trees now y) → Equates cs ds (args_trees es (drop (i + 1) xs)) (args_trees es (drop (i + 1) ys)) → Equates bs ds (args_trees es (drop i xs)) (args_trees es (drop i ys))
  equates-from now k bs cs ds xs ys i x y l m p q h g e f =
      let left : drop i xs ≡ x ∷ drop (i + 1) xs = cut-at xs i x l ∙ ap (λ z. z ∷ drop (i + 1) xs) (sym p) in
      let right : drop i ys ≡ y ∷ drop (i + 1) ys = cut-at ys i y m ∙ ap (λ z. z ∷ drop (i + 1) ys) (sym q) in
      let here : Equates bs cs (arg_trees es x) (arg_trees es y) = subst (λ z. Equates bs cs z (arg_trees es y)) (arg-trees-later es now k x h) (subst (λ z. Equates bs cs (arg_trees now x) z) (arg-trees-later es now k y g) e) in
      subst (λ z. Equates bs ds (args_trees es z) (args_trees es (drop i ys))) (sym left) (subst (λ z. Equates bs ds (args_trees es (x ∷ drop (i + 1) xs)) (args_trees es z)) (sym right)
      (equates-next bs cs ds x y (drop (i + 1) xs) (drop (i + 1) ys) h g here f))

  -- nor have they a solution where the items at a place have none
  pub never-from : (now : List Entry) → Keeps es now → (bs : List Binding) (xs ys : List GenericArgKind) (i : ℕ) (x y : GenericArgKind) → i < length xs → i < length ys → x ≡ get_or xs i x → y ≡ get_or ys i y → ArgHeld es x → ArgHeld es y
      → HasNoSolution bs (arg_trees now x) (arg_trees now y) → HasNoSolution bs (args_trees es (drop i xs)) (args_trees es (drop i ys))
  never-from now k bs xs ys i x y l m p q h g n =
      let left : drop i xs ≡ x ∷ drop (i + 1) xs = cut-at xs i x l ∙ ap (λ z. z ∷ drop (i + 1) xs) (sym p) in
      let right : drop i ys ≡ y ∷ drop (i + 1) ys = cut-at ys i y m ∙ ap (λ z. z ∷ drop (i + 1) ys) (sym q) in
      let here : HasNoSolution bs (arg_trees es x) (arg_trees es y) = subst (λ z. HasNoSolution bs z (arg_trees es y)) (arg-trees-later es now k x h) (subst (λ z. HasNoSolution bs (arg_trees now x) z) (arg-trees-later es now k y g) n) in
      subst (λ z. HasNoSolution bs (args_trees es z) (args_trees es (drop i ys))) (sym left) (subst (λ z. HasNoSolution bs (args_trees es (x ∷ drop (i + 1) xs)) (args_trees es z)) (sym right)
      (never-first bs (arg_trees es x) (arg_trees es y) (args_trees es (drop (i + 1) xs)) (args_trees es (drop (i + 1) ys)) (arg-single es law.sorted x h) (arg-single es law.sorted y g) here))

  -- nor where what comes after them has none
  pub never-after : (now : List Entry) → Keeps es now → (bs cs : List Binding) (xs ys : List GenericArgKind) (i : ℕ) (x y : GenericArgKind) → i < length xs → i < length ys → x ≡ get_or xs i x → y ≡ get_or ys i y → ArgHeld es x → ArgHeld es y
      → Equates bs cs (arg_trees now x) (arg_trees now y) → HasNoSolution cs (args_trees es (drop (i + 1) xs)) (args_trees es (drop (i + 1) ys)) → HasNoSolution bs (args_trees es (drop i xs)) (args_trees es (drop i ys))
  never-after now k bs cs xs ys i x y l m p q h g e n =
      let left : drop i xs ≡ x ∷ drop (i + 1) xs = cut-at xs i x l ∙ ap (λ z. z ∷ drop (i + 1) xs) (sym p) in
      let right : drop i ys ≡ y ∷ drop (i + 1) ys = cut-at ys i y m ∙ ap (λ z. z ∷ drop (i + 1) ys) (sym q) in
      let here : Equates bs cs (arg_trees es x) (arg_trees es y) = subst (λ z. Equates bs cs z (arg_trees es y)) (arg-trees-later es now k x h) (subst (λ z. Equates bs cs (arg_trees now x) z) (arg-trees-later es now k y g) e) in
      subst (λ z. HasNoSolution bs (args_trees es z) (args_trees es (drop i ys))) (sym left) (subst (λ z. HasNoSolution bs (args_trees es (x ∷ drop (i + 1) xs)) (args_trees es z)) (sym right)
      (never-rest bs cs (arg_trees es x) (arg_trees es y) (args_trees es (drop (i + 1) xs)) (args_trees es (drop (i + 1) ys)) (arg-single es law.sorted x h) (arg-single es law.sorted y g) here n))

  -- lists of two lengths have no solution
  pub never-of-lengths : (bs : List Binding) (xs ys : List GenericArgKind) → (length xs ≡ length ys → ⊥) → ArgsHeld es xs → ArgsHeld es ys → HasNoSolution bs (args_trees es xs) (args_trees es ys)
  never-of-lengths bs [] [] n h g = absurd (n refl)
  never-of-lengths bs (x ∷ xs) [] n h g = never-left bs (arg_trees es x) (args_trees es xs) (arg-single es law.sorted x h.0)
  never-of-lengths bs [] (y ∷ ys) n h g = never-right bs (arg_trees es y) (args_trees es ys) (arg-single es law.sorted y g.0)
  never-of-lengths bs (x ∷ xs) (y ∷ ys) n h g = λ s k e.
      never-of-lengths bs xs ys (λ p. n (ap suc p)) h.1 g.1 s k (items-parts s (arg_trees es x) (arg_trees es y) (args_trees es xs) (args_trees es ys) (arg-single es law.sorted x h.0) (arg-single es law.sorted y g.0) e).1

-- what a part of a list of the same length was changed to is the list
pub written : {X : Type 0} (n : ℕ) (new old : List X) → length new ≡ length old → n ≡ length old → take n (new ++ drop (length new) old) ≡ new
written n new old e f = grind (arith, common_steps)

-- ---- values of the goal
abbrev pub own_of : List Entry → ℕ → List GenericArgKind → List GenericArgKind → Option GenericArgKind
own_of es i vs os = original_of i (root_labels (values_of es vs)) os

-- an own value as trees is the one among the own values as trees
pub own-value : (es : List Entry) (i : ℕ) (vs os : List GenericArgKind) → option_map (value_of es) (own_of es i vs os) ≡ original_of i (root_labels (values_of es vs)) (values_of es os)
own-value es i [] os = refl
own-value es i (v ∷ vs) [] = refl
own-value es i (v ∷ vs) (o ∷ os) = by (is_numbered i (leaf_label es v)) (own-value es i vs os)
  where
    by : (b : Bool) → option_map (value_of es) (own_of es i vs os) ≡ original_of i (root_labels (values_of es vs)) (values_of es os)
        → option_map (value_of es) (if b then Some o else own_of es i vs os) ≡ (if b then Some (value_of es o) else original_of i (root_labels (values_of es vs)) (values_of es os))
    by true p = refl
    by false p = p

pub original-held : (es : List Entry) (i : ℕ) (vs os : List GenericArgKind) → ArgsHeld es os → IfSome (own_of es i vs os) (λ a. ArgHeld es a)
original-held es i [] os h = tt
original-held es i (v ∷ vs) [] h = tt
original-held es i (v ∷ vs) (o ∷ os) h = by (is_numbered i (leaf_label es v)) (original-held es i vs os h.1)
  where
    by : (b : Bool) → IfSome (own_of es i vs os) (λ a. ArgHeld es a) → IfSome (if b then Some o else own_of es i vs os) (λ a. ArgHeld es a)
    by true p = h.0
    by false p = p

known-later : (es now : List Entry) → Keeps es now → (found : Option GenericArgKind) → IfSome found (λ a. ArgHeld es a) → option_map (value_of now) found ≡ option_map (value_of es) found
known-later es now k None h = refl
known-later es now k (Some a) h = ap Some (value-later es now k a h)

pub original-held-later : (es now : List Entry) → Keeps es now → (i : ℕ) (vs os : List GenericArgKind) → ArgsHeld es os → IfSome (own_of es i vs os) (λ a. ArgHeld now a)
original-held-later es now k i vs os h = by (own_of es i vs os) (original-held es i vs os h)
  where
    by : (found : Option GenericArgKind) → IfSome found (λ a. ArgHeld es a) → IfSome found (λ a. ArgHeld now a)
    by None g = tt
    by (Some a) g = arg-held-later es now k a g

-- what is found is what it was
pub found-later : (es now : List Entry) → Keeps es now → (i : ℕ) (vs os : List GenericArgKind) (found : Option GenericArgKind) → ArgsHeld es os → found ≡ own_of es i vs os
    → option_map (value_of now) found ≡ original_of i (root_labels (values_of es vs)) (values_of es os)
found-later es now k i vs os found g e = ap (option_map (value_of now)) e ∙ known-later es now k (own_of es i vs os) (original-held es i vs os g) ∙ own-value es i vs os

-- an item is the one in its place, whatever stands for none
pub same-slot : (xs : List (Option GenericArgKind)) (i : ℕ) (x : Option GenericArgKind) → i < length xs → x ≡ get_or xs i x → x ≡ get_or xs i None
same-slot [] i x h e = absurd (omega arith)
same-slot (y ∷ ys) zero x h e = e
same-slot (y ∷ ys) (suc i) x h e = same-slot ys i x (omega arith) e

-- ---- the goal's own values under the numbers of the answer's variables
find-no-goal : (es : List Entry) (i : ℕ) (vs : List GenericArgKind) → own_of es i vs [] ≡ None
find-no-goal es i [] = refl
find-no-goal es i (v ∷ vs) = refl

-- at the end of one of the lists nothing is found
pub found-end : (es : List Entry) (i : ℕ) (vs os : List GenericArgKind) (j : ℕ) → j ≡ min (length vs) (length os) → own_of es i (drop j vs) (drop j os) ≡ None
found-end es i vs os j e = by (cases_lt j (length vs))
  where
    by : (j < length vs) ⊎ (length vs ≤ j) → own_of es i (drop j vs) (drop j os) ≡ None
    by (inl h) = let past : length os ≤ j = omega arith in ap (own_of es i (drop j vs)) (past-end os j past) ∙ find-no-goal es i (drop j vs)
    by (inr h) = ap (λ z. own_of es i z (drop j os)) (past-end vs j h)

some-is : {X : Type 0} (x y : X) → Some x ≡ Some y → x ≡ y
some-is x y e = cc

number-test : (i : ℕ) (l : Label) (n : ℕ) → canonical_number l ≡ Some n → is_numbered i l ≡ (n == i)
number-test i (canonical s j) n e = ap (λ m. m == i) (some-is j n e)
number-test i l n e = cc

no-number : (i : ℕ) (l : Label) → canonical_number l ≡ None → is_numbered i l ≡ false
no-number i (canonical s j) e = cc
no-number i l e = refl

or-first : (a : Option GenericArgKind) (o : GenericArgKind) (b : Bool) (rest : Option GenericArgKind) → option_or (option_or a (if b then Some o else None)) rest ≡ option_or a (if b then Some o else rest)
or-first None o true rest = refl
or-first None o false rest = refl
or-first (Some x) o b rest = refl

pub or-none : (a : Option GenericArgKind) → option_or a None ≡ a
or-none None = refl
or-none (Some x) = refl

module _ (es : List Entry) (i : ℕ) (vs os : List GenericArgKind) (j : ℕ) (v o : GenericArgKind) (l : j < length vs) (m : j < length os) (p : v ≡ get_or vs j v) (q : o ≡ get_or os j o) where
  found-cut : own_of es i (drop j vs) (drop j os) ≡ (if is_numbered i (leaf_label es v) then Some o else own_of es i (drop (j + 1) vs) (drop (j + 1) os))
  found-cut =
      ap (λ z. own_of es i z (drop j os)) (cut-at vs j v l ∙ ap (λ z. z ∷ drop (j + 1) vs) (sym p))
      ∙ ap (own_of es i (v ∷ drop (j + 1) vs)) (cut-at os j o m ∙ ap (λ z. z ∷ drop (j + 1) os) (sym q))

  -- a value that is a variable is noted under its number
  pub found-noted : (n : ℕ) (old new all : Option GenericArgKind) → canonical_number (leaf_label es v) ≡ Some n → new ≡ option_or old (if n == i then Some o else None)
      → option_or old (own_of es i (drop j vs) (drop j os)) ≡ all → option_or new (own_of es i (drop (j + 1) vs) (drop (j + 1) os)) ≡ all
  found-noted n old new all e f h =
      let rest = own_of es i (drop (j + 1) vs) (drop (j + 1) os) in
      ap (λ z. option_or z rest) f ∙ or-first old o (n == i) rest ∙ ap (λ (b : Bool). option_or old (if b then Some o else rest)) (sym (number-test i (leaf_label es v) n e)) ∙ ap (option_or old) (sym found-cut) ∙ h

  -- another value says nothing
  pub found-passed : (old all : Option GenericArgKind) → canonical_number (leaf_label es v) ≡ None
      → option_or old (own_of es i (drop j vs) (drop j os)) ≡ all → option_or old (own_of es i (drop (j + 1) vs) (drop (j + 1) os)) ≡ all
  found-passed old all e h =
      let rest = own_of es i (drop (j + 1) vs) (drop (j + 1) os) in
      ap (λ (b : Bool). option_or old (if b then Some o else rest)) (sym (no-number i (leaf_label es v) e)) ∙ ap (option_or old) (sym found-cut) ∙ h

-- ---- equations over equal parts
pub equates-at : (bs bs' cs cs' : List Binding) (a a' b b' : Trees) → bs ≡ bs' → cs ≡ cs' → a ≡ a' → b ≡ b' → Equates bs cs a b → Equates bs' cs' a' b'
equates-at bs bs' cs cs' a a' b b' p q r s e =
    subst (λ z. Equates z cs' a' b') p (subst (λ z. Equates bs z a' b') q (subst (λ z. Equates bs cs z b') r (subst (λ z. Equates bs cs a z) s e)))

pub never-at : (bs bs' : List Binding) (a a' b b' : Trees) → bs ≡ bs' → a ≡ a' → b ≡ b' → HasNoSolution bs a b → HasNoSolution bs' a' b'
never-at bs bs' a a' b b' p r s e = subst (λ z. HasNoSolution z a' b') p (subst (λ z. HasNoSolution bs z b') r (subst (λ z. HasNoSolution bs a z) s e))
