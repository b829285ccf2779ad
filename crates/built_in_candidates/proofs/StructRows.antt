-- Structs that unsize to themselves: which parameters are unsizing, the arguments with the target's in their places, and the last field.
use Rattle.std.proofs.Common.{◌≡◌, ◌+◌, ℕ, zero, suc, Bool, true, false, ◌||◌, if◌then◌else◌, List, [], ◌∷◌, ◌++◌, map, length, refl, sym, ap, ◌∙◌, subst, arith, Some}
use Rattle.std.specs.Prelude.{◌==◌, IfSome}
use Rattle.std.specs.List.{flat_map, list_any}
use Rattle.type_terms.specs.Promised.Label.{Label, adt, of_type}
use Rattle.type_terms.specs.Promised.Trees.{Trees, none, tree, ◌+++◌, IsA}
use Rattle.type_terms.specs.Promised.Worlds.{World, Reference, StructDecl, structs_named}
use Rattle.type_terms.specs.Promised.Rules.{is_unsizing, some_unsizing, with_unsizing, last_unsizes}
use Rattle.type_terms.proofs.Members.{self-number}
use Rattle.type_terms.specs.Promised.Handles.{Entry, trees_at}
use Rattle.type_terms.specs.Terms.{Lawful}
use Rattle.type_terms.specs.Promised.Handles.{ArgHeld, ArgsHeld, arg_trees}
use Rattle.type_terms.specs.Kinds.{args_trees}
use Rattle.type_terms.specs.declared.kinds.GenericArgKind.{GenericArgKind}
use Rattle.type_terms.specs.declared.kinds.Ty.{Ty}
use Rattle.declarations.specs.declared.items.AdtDef.{AdtDef}
use Rattle.declarations.specs.Applied.{sort_of_param, sorts_of}
use Rattle.declarations.specs.Items.{Items, struct_at}
use Rattle.declarations.specs.Unsizing.{unsizing_flags, field_trees}
use Rattle.candidate_model.specs.Asking.{GoalOverKinds}
use Rattle.candidate_model.specs.Candidates.{by_rule, misc, all_equal, if_so, unsize_by_struct, unsize_struct_of}
use Rattle.structural_traits.specs.Constituents.{AreArguments}
use Rattle.built_in_candidates.specs.Unsizing.{begins_struct, replaced, tail_asked, FitsStruct}
use Rattle.built_in_candidates.proofs.Objects.{differ}
use Rattle.built_in_candidates.proofs.Pairs.{arg-tree}
use Rattle.type_terms.proofs.ListBasics.{append-none}

-- ---- which parameters are unsizing
-- from number k on, of n
abbrev flags_from : List Trees → ℕ → ℕ → List Bool
flags_from fs k zero = []
flags_from fs k (suc n) = is_unsizing fs k ∷ flags_from fs (suc k) n

flags-end : (fs : List Trees) (n k m : ℕ) → m ≡ k + n → flags_from fs k n ++ is_unsizing fs m ∷ [] ≡ flags_from fs k (suc n)
flags-end fs zero k m e = let q : m ≡ k = omega (arith, e) in ap (λ i. is_unsizing fs i ∷ []) q
flags-end fs (suc n) k m e = ap (λ l. is_unsizing fs k ∷ l) (flags-end fs n (suc k) m (omega (arith, e)))

flags-same : (fs : List Trees) (n : ℕ) → unsizing_flags fs n ≡ flags_from fs 0 n
flags-same fs zero = refl
flags-same fs (suc n) = ap (λ l. l ++ is_unsizing fs n ∷ []) (flags-same fs n) ∙ flags-end fs n 0 n (omega arith)

some-from : (fs : List Trees) (k : ℕ) (t : Trees) → some_unsizing fs k t ≡ list_any (λ flag. flag) (flags_from fs k (length (sorts_of t)))
some-from fs k none = refl
some-from fs k (tree l c o) = ap (λ b. is_unsizing fs k || b) (some-from fs (suc k) o)

-- the flags tell whether some parameter is
pub some-told : (fs : List Trees) (bs : List Bool) (n : ℕ) (t : Trees) → bs ≡ unsizing_flags fs n → length (sorts_of t) ≡ n → list_any (λ flag. flag) bs ≡ some_unsizing fs 0 t
some-told fs bs n t e h =
    ap (list_any (λ flag. flag)) (e ∙ flags-same fs n) ∙ ap (λ m. list_any (λ flag. flag) (flags_from fs 0 m)) (sym h) ∙ sym (some-from fs 0 t)

-- ---- the arguments with the target's in their places
chosen : (b : Bool) (t u x : Trees) → (if b then u else t) +++ x ≡ (if b then u +++ x else t +++ x)
chosen true t u x = refl
chosen false t u x = refl

one-replaced : (fs : List Trees) (k : ℕ) (t u x y : Trees) (l : Label) (c : Trees) (m : Label) (d : Trees) → t ≡ tree l c none → u ≡ tree m d none
    → with_unsizing fs k (t +++ x) (u +++ y) ≡ (if is_unsizing fs k then u else t) +++ with_unsizing fs (suc k) x y
one-replaced fs k t u x y l c m d p q =
    ap (λ z. with_unsizing fs k (z +++ x) (u +++ y)) p ∙ ap (λ z. with_unsizing fs k (tree l c x) (z +++ y)) q
    ∙ sym (chosen (is_unsizing fs k) (tree l c none) (tree m d none) (with_unsizing fs (suc k) x y))
    ∙ ap (λ z. (if is_unsizing fs k then z else tree l c none) +++ with_unsizing fs (suc k) x y) (sym q)
    ∙ ap (λ z. (if is_unsizing fs k then u else z) +++ with_unsizing fs (suc k) x y) (sym p)

arg-chosen : (es : List Entry) (b : Bool) (x y : GenericArgKind) → arg_trees es (if b then y else x) ≡ (if b then arg_trees es y else arg_trees es x)
arg-chosen es true x y = refl
arg-chosen es false x y = refl

module _ (es : List Entry) (law : Lawful es) (fs : List Trees) where
  replaced-from : (n k : ℕ) (xs ys : List GenericArgKind) → ArgsHeld es xs → ArgsHeld es ys → length xs ≡ n → length ys ≡ n
      → args_trees es (replaced (flags_from fs k n) xs ys) ≡ with_unsizing fs k (args_trees es xs) (args_trees es ys)
  replaced-from zero k [] ys h g p q = refl
  replaced-from zero k (x ∷ xs) ys h g p q = absurd (omega (arith, p))
  replaced-from (suc n) k [] ys h g p q = absurd (omega (arith, p))
  replaced-from (suc n) k (x ∷ xs) [] h g p q = absurd (omega (arith, q))
  replaced-from (suc n) k (x ∷ xs) (y ∷ ys) h g p q =
      let t = arg-tree es law x h.0 in
      let u = arg-tree es law y g.0 in
      ap (λ z. z +++ args_trees es (replaced (flags_from fs (suc k) n) xs ys)) (arg-chosen es (is_unsizing fs k) x y)
      ∙ ap (λ z. (if is_unsizing fs k then arg_trees es y else arg_trees es x) +++ z) (replaced-from n (suc k) xs ys h.1 g.1 (omega (arith, p)) (omega (arith, q)))
      ∙ sym (one-replaced fs k (arg_trees es x) (arg_trees es y) (args_trees es xs) (args_trees es ys) t.label t.children u.label u.children t.is u.is)

  sorts-many : (xs : List GenericArgKind) → ArgsHeld es xs → length (sorts_of (args_trees es xs)) ≡ length xs
  sorts-many [] h = refl
  sorts-many (x ∷ xs) h =
      let t = arg-tree es law x h.0 in
      let rest = sorts-many xs h.1 in
      ap (λ z. length (sorts_of (z +++ args_trees es xs))) t.is ∙ omega (arith, rest)

  pub replaced-are : (bs : List Bool) (n : ℕ) (xs ys : List GenericArgKind) (b d : Trees) → bs ≡ unsizing_flags fs n → ArgsHeld es xs → ArgsHeld es ys
      → b ≡ args_trees es xs → d ≡ args_trees es ys → length (sorts_of b) ≡ n → length (sorts_of d) ≡ n
      → args_trees es (replaced bs xs ys) ≡ with_unsizing fs 0 b d
  replaced-are bs n xs ys b d e h g p q i j =
      ap (λ l. args_trees es (replaced l xs ys)) (e ∙ flags-same fs n)
      ∙ replaced-from n 0 xs ys h g (sym (sorts-many xs h) ∙ ap (λ t. length (sorts_of t)) (sym p) ∙ i) (sym (sorts-many ys g) ∙ ap (λ t. length (sorts_of t)) (sym q) ∙ j)
      ∙ ap (λ t. with_unsizing fs 0 t (args_trees es ys)) (sym p) ∙ ap (with_unsizing fs 0 b) (sym q)

pub replaced-held : (es : List Entry) (bs : List Bool) (xs ys : List GenericArgKind) → ArgsHeld es xs → ArgsHeld es ys → ArgsHeld es (replaced bs xs ys)
replaced-held es [] xs ys h g = tt
replaced-held es (b ∷ bs) [] ys h g = tt
replaced-held es (b ∷ bs) (x ∷ xs) [] h g = tt
replaced-held es (b ∷ bs) (x ∷ xs) (y ∷ ys) h g = (by b, replaced-held es bs xs ys h.1 g.1)
  where
    by : (q : Bool) → ArgHeld es (if q then y else x)
    by true = g.0
    by false = h.0

pub fits-struct : (d : Items) (s : ℕ) (def : AdtDef) (args : Trees) → AreArguments d s args → Some def ≡ struct_at s d.structs → FitsStruct def args
fits-struct d s def args h e = record { sorts = subst (λ o. IfSome o (λ x. sorts_of args ≡ map sort_of_param x.params.items)) (sym e) h.sorts; closed = h.closed }

-- ---- the last field
pub tail-unsizes : (fs : List Trees) (f b d : Trees) → last_unsizes (fs ++ f ∷ []) b d ≡ tail_asked b d f ∷ []
tail-unsizes [] f b d = refl
tail-unsizes (g ∷ []) f b d = refl
tail-unsizes (g ∷ h ∷ fs) f b d = tail-unsizes (h ∷ fs) f b d

pub fields-end : (es : List Entry) (ts : List Ty) (t : Ty) → field_trees es (ts ++ t ∷ []) ≡ field_trees es ts ++ trees_at es t.0 ∷ []
fields-end es [] t = refl
fields-end es (s ∷ ts) t = ap (λ l. trees_at es s.0 ∷ l) (fields-end es ts t)

pub none-unsizing : (k : ℕ) (t : Trees) → some_unsizing [] k t ≡ false
none-unsizing k none = refl
none-unsizing k (tree l c o) = none-unsizing (suc k) o

module _ (V : World) (a : GoalOverKinds) where
  pub no-candidate : (b d : Trees) (x : StructDecl) → some_unsizing x.fields 0 b ≡ false → [] ≡ unsize_by_struct V a b d x
  no-candidate b d x e = ap (λ z. if_so z (by_rule V a misc (all_equal (with_unsizing x.fields 0 b d) d) (last_unsizes x.fields b d) ∷ [])) (sym e)

  pub one-candidate : (b d : Trees) (x : StructDecl) (fs : List Trees) (r : Reference) → x.fields ≡ fs → some_unsizing fs 0 b ≡ true → last_unsizes fs b d ≡ r ∷ []
      → by_rule V a misc (all_equal (with_unsizing fs 0 b d) d) (r ∷ []) ∷ [] ≡ unsize_by_struct V a b d x
  one-candidate b d x fs r e h q =
      ap (λ ps. by_rule V a misc (all_equal (with_unsizing fs 0 b d) d) ps ∷ []) (sym q)
      ∙ ap (λ z. if_so z (by_rule V a misc (all_equal (with_unsizing fs 0 b d) d) (last_unsizes fs b d) ∷ [])) (sym h)
      ∙ ap (λ l. if_so (some_unsizing l 0 b) (by_rule V a misc (all_equal (with_unsizing l 0 b d) d) (last_unsizes l b d) ∷ [])) (sym e)

  pub one-struct : (b d : Trees) (xs : List StructDecl) (x : StructDecl) → xs ≡ x ∷ [] → unsize_by_struct V a b d x ≡ flat_map (unsize_by_struct V a b d) xs
  one-struct b d xs x e = sym (append-none (unsize_by_struct V a b d x)) ∙ ap (flat_map (unsize_by_struct V a b d)) (sym e)

  -- ---- by the two types
  pub two-structs : (s u : ℕ) (b d S T : Trees) → S ≡ tree (adt s) b none → T ≡ tree (adt u) d none → s ≡ u
      → flat_map (unsize_by_struct V a b d) (structs_named V s) ≡ unsize_struct_of V a (S +++ T)
  two-structs s u b d S T p q e =
      ap (λ z. if_so z (flat_map (unsize_by_struct V a b d) (structs_named V s))) (sym (subst (λ v. (s == v) ≡ true) e (self-number s)))
      ∙ ap (λ t. unsize_struct_of V a (tree (adt s) b t)) (sym q) ∙ ap (λ t. unsize_struct_of V a (t +++ T)) (sym p)

  pub other-structs : (s u : ℕ) (b d S T : Trees) → S ≡ tree (adt s) b none → T ≡ tree (adt u) d none → (s ≡ u → ⊥) → [] ≡ unsize_struct_of V a (S +++ T)
  other-structs s u b d S T p q n =
      ap (λ z. if_so z (flat_map (unsize_by_struct V a b d) (structs_named V s))) (sym (differ s u n))
      ∙ ap (λ t. unsize_struct_of V a (tree (adt s) b t)) (sym q) ∙ ap (λ t. unsize_struct_of V a (t +++ T)) (sym p)

  no-struct : (l : Label) (c o : Trees) → begins_struct (tree l c o) ≡ false → [] ≡ unsize_struct_of V a (tree l c o)
  no-struct (adt s) c o e = absurd cc
  no-struct l c o e = refl

  pub first-no-struct : (S T : Trees) → IsA of_type S → begins_struct S ≡ false → [] ≡ unsize_struct_of V a (S +++ T)
  first-no-struct none T h e = absurd h
  first-no-struct (tree l c o) T h e = no-struct l c (o +++ T) (apart l e)
    where
      apart : (m : Label) → begins_struct (tree m c o) ≡ false → begins_struct (tree m c (o +++ T)) ≡ false
      apart (adt s) f = f
      apart m f = refl

  no-target : (l : Label) (c : Trees) (m : Label) (d o : Trees) → begins_struct (tree m d o) ≡ false → [] ≡ unsize_struct_of V a (tree l c (tree m d o))
  no-target (adt s) c (adt u) d o e = absurd cc
  no-target (adt s) c m d o e = refl
  no-target l c m d o e = refl

  pub second-no-struct : (S T : Trees) → IsA of_type S → IsA of_type T → begins_struct T ≡ false → [] ≡ unsize_struct_of V a (S +++ T)
  second-no-struct none T h g e = absurd h
  second-no-struct (tree l c o) none h g e = absurd g
  second-no-struct (tree l c o) (tree m d p) h g e = subst (λ z. [] ≡ unsize_struct_of V a (tree l c (z +++ tree m d p))) (sym h.1) (no-target l c m d p e)
