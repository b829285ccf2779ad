-- Row by row: what gives a solution among the candidates of a view's declarations up to lifetimes gives it among those of the declarations
-- as they are written.
use Rattle.std.proofs.Common.{◌≡◌, ℕ, zero, suc, ◌==◌, Bool, true, false, not, ◌&&◌, ◌||◌, if◌then◌else◌, List, [], ◌∷◌, ◌++◌, map, length, inl, inr, refl, sym, ◌∙◌, ap, subst}
use Rattle.std.specs.List.{flat_map, list_all, list_any}
use Rattle.type_terms.specs.Promised.Label.{Label, of_type, of_const, of_lifetime, array, slice, adt, fn_ptr, raw_pointer, ref, principal, param, placeholder, infer, canonical, bound, bool, char}
use Rattle.type_terms.specs.Promised.Trees.{Trees, none, tree, leaf, some_node, erase, erase_label}
use Rattle.type_terms.specs.Promised.Worlds.{World, CrateDecl, Reference, ImplDecl, structs_named}
use Rattle.type_terms.specs.Promised.Erased.{erased_reference, erased_impl}
use Rattle.type_terms.specs.Promised.Rules.{same_head, sized, sized_struct, auto_struct, copy, clone, tuple_trait, fn_ptr_trait, is_fn_trait, unsize, is_auto, is_coinductive, is_written, sized_rules, copy_rules, auto_rules, auto_rules_plain, tuple_rules, fn_ptr_rules, unsize_to_dyn_rules, last_asked, each_asked}
use Rattle.type_terms.specs.Promised.Proofs.{In}
use Rattle.type_terms.proofs.Members.{here, there, same-number}
use Rattle.type_terms.proofs.Walking.{left, right}
use Rattle.declarations.specs.Heads.{begins_declared}
use Rattle.declarations.specs.Apart.{are_apart}
use Rattle.goal_evaluator.specs.Lists.{Every, SomeOf}
use Rattle.goal_evaluator.specs.declared.candidate.CandidateSource.{CandidateSource}
use Rattle.goal_evaluator.specs.declared.candidate.CandidateSource.TheVariants.{BuiltinImpl}
use Rattle.goal_evaluator.specs.declared.candidate.BuiltinImplSource.TheVariants.{Trivial}
use Rattle.goal_evaluator.specs.Instances.{read_with}
use Rattle.goal_evaluator.specs.Content.{Values, given}
use Rattle.goal_evaluator.specs.FrameTables.{Equation}
use Rattle.candidate_model.specs.Declared.{are_terms, is_lifetime_parameter}
use Rattle.candidate_model.specs.Lifetimes.{are_given, gives_lifetimes, goal_gives_lifetimes}
use Rattle.candidate_model.specs.Asking.{GoalOverKinds, clauses, self_of, next_of, begins_unknown, with_plain_head}
use Rattle.candidate_model.specs.Candidates.{Candidate, by_clauses, by_the_impl, by_impls, as_written, misc, if_so, unsure, is_relevant_to, can_match, all_equal, rules_behind, by_sized, by_copy, by_auto, by_tuple, by_fn_ptr, by_call, by_unsize, unsize_known, unsizing_outlives, unsize_recording, unsize_array_of, upcasts_of, unsize_struct_of, unsize_by_struct, built_in, by_objects}
use Rattle.candidate_model.specs.Slots.{as_slots}
use Rattle.candidate_model.specs.Cover.{slots, SolvesEquations, all_candidates}
use Rattle.candidate_model.proofs.Reading.{begins, read_reference, read-each-asked, read-last-asked}
use Rattle.candidate_model.proofs.Impls.{pairwise}
use Rattle.candidate_model.proofs.Apart.{erased-apart}
use Rattle.candidate_model.proofs.ErasedHeads.{erased-struct}
use Rattle.candidate_model.proofs.PlainRules.{is_wild, tame}
use Rattle.candidate_model.proofs.ErasedReading.{moved-erased}
use Rattle.candidate_model.proofs.Recording.{some-recorded, some-unrecorded, gives-recorded, gives-unrecorded}
use Rattle.candidate_model.proofs.ErasedCandidates.{without_lifetimes, some-map, kinds-same, solved, written-same, clauses-same, call-same, array-same, to-dyn-same, upcasts-same, objects-same, by-same, struct-rows, struct-unsizes}
use Rattle.type_terms.proofs.Matching.{or-false-left as no-left}
use Rattle.type_terms.proofs.BooleanBasics.{true-false}

where-so : (b x : Bool) → b ≡ true → (not b || x) ≡ true → x ≡ true
where-so true x e f = f
where-so false x e f = absurd (true-false (sym e))

-- ---- labels
-- what stands in declarations keeps its label, but for lifetime parameters
pub label-stays : (l : Label) → is_wild l ≡ false → is_lifetime_parameter l ≡ false → erase_label l ≡ l
label-stays (fn_ptr zero) w p = refl
label-stays (fn_ptr (suc n)) w p = absurd (true-false w)
label-stays (principal zero t) w p = refl
label-stays (principal (suc n) t) w p = absurd (true-false w)
label-stays (param of_type i) w p = refl
label-stays (param of_const i) w p = refl
label-stays (param of_lifetime i) w p = absurd (true-false p)
label-stays (placeholder of_type i) w p = refl
label-stays (placeholder of_const i) w p = refl
label-stays (placeholder of_lifetime i) w p = absurd (true-false w)
label-stays (infer of_type i) w p = refl
label-stays (infer of_const i) w p = refl
label-stays (infer of_lifetime i) w p = absurd (true-false w)
label-stays (canonical of_type i) w p = refl
label-stays (canonical of_const i) w p = refl
label-stays (canonical of_lifetime i) w p = absurd (true-false w)
label-stays (bound s k i) w p = absurd (true-false w)
label-stays l w p = refl

-- a header up to lifetimes has no head that the header has not, if it is no parameter
head-stays : (l : Label) (h : Trees) → are_terms h ≡ true → same_head l (erase h) ≡ true → same_head l h ≡ true
head-stays l none d e = e
head-stays l (tree (param s i) c o) d e = refl
head-stays l (tree m c o) d e = by m (no-left (is_wild m) (some_node is_wild c) (no-left (is_wild m || some_node is_wild c) (some_node is_wild o) (tame (tree m c o) d))) e
  where
    by : (k : Label) → is_wild k ≡ false → same_head l (tree (erase_label k) (erase c) (erase o)) ≡ true → same_head l (tree k c o) ≡ true
    by (param s i) w f = refl
    by (fn_ptr zero) w f = f
    by (fn_ptr (suc n)) w f = absurd (true-false w)
    by (principal zero t) w f = f
    by (principal (suc n) t) w f = absurd (true-false w)
    by (placeholder of_type i) w f = f
    by (placeholder of_const i) w f = f
    by (placeholder of_lifetime i) w f = absurd (true-false w)
    by (infer of_type i) w f = f
    by (infer of_const i) w f = f
    by (infer of_lifetime i) w f = absurd (true-false w)
    by (canonical of_type i) w f = f
    by (canonical of_const i) w f = f
    by (canonical of_lifetime i) w f = absurd (true-false w)
    by (bound s k i) w f = absurd (true-false w)
    by k w f = f

-- the head of a struct is kept
pub struct-head : (l : Label) (t : Trees) (s : ℕ) (ks os : Trees) → erase t ≡ tree (adt s) ks os → same_head l (erase t) ≡ same_head l t
struct-head l none s ks os e = refl
struct-head l (tree m c o) s ks os e = subst (λ z. same_head l (erase (tree z c o)) ≡ same_head l (tree z c o)) (sym (erased-struct m s (label e))) refl
  where
    label : tree (erase_label m) (erase c) (erase o) ≡ tree (adt s) ks os → erase_label m ≡ adt s
    label f = cc

-- and so is that of a type that is a parameter or rigid
pub declared-head : (l : Label) (h : Trees) → are_terms h ≡ true → begins_declared h ≡ true → same_head l (erase h) ≡ same_head l h
declared-head l none d b = refl
declared-head l (tree m c o) d b = by m (no-left (is_wild m) (some_node is_wild c) (no-left (is_wild m || some_node is_wild c) (some_node is_wild o) (tame (tree m c o) d))) b
  where
    by : (k : Label) → is_wild k ≡ false → begins_declared (tree k c o) ≡ true → same_head l (tree (erase_label k) (erase c) (erase o)) ≡ same_head l (tree k c o)
    by (param of_type i) w f = refl
    by (param of_const i) w f = refl
    by (param of_lifetime i) w f = absurd (true-false (sym f))
    by (fn_ptr zero) w f = refl
    by (fn_ptr (suc n)) w f = absurd (true-false w)
    by (principal zero t) w f = refl
    by (principal (suc n) t) w f = absurd (true-false w)
    by (placeholder of_type i) w f = refl
    by (placeholder of_const i) w f = refl
    by (placeholder of_lifetime i) w f = absurd (true-false w)
    by (infer of_type i) w f = refl
    by (infer of_const i) w f = refl
    by (infer of_lifetime i) w f = absurd (true-false w)
    by (canonical of_type i) w f = refl
    by (canonical of_const i) w f = refl
    by (canonical of_lifetime i) w f = absurd (true-false w)
    by (bound s k i) w f = absurd (true-false w)
    by k w f = refl

any-map : {A : Type 0} (f : A → A) (p q : A → Bool) (xs : List A) → ((x : A) → In x xs → p (f x) ≡ q x) → list_any p (map f xs) ≡ list_any q xs
any-map f p q [] h = refl
any-map f p q (x ∷ xs) h = ap (λ b. b || list_any p (map f xs)) (h x (here x xs)) ∙ ap (λ b. q x || b) (any-map f p q xs (λ y i. h y (there y x xs i)))

-- ---- equations
-- lists whose trees are read as one, one by one, are read as one
joined : (ts : List Trees) (x y : Trees) → Every (λ (e : Equation). read_with (given ts) e.left.trees ≡ read_with (given ts) e.right.trees) (all_equal x y) → read_with (given ts) x ≡ read_with (given ts) y
joined ts none none e = refl
joined ts none (tree m d p) e = absurd (no e.0)
  where
    no : leaf bool ≡ leaf char → ⊥
    no f = cc
joined ts (tree l c o) none e = absurd (no e.0)
  where
    no : leaf bool ≡ leaf char → ⊥
    no f = cc
joined ts (tree l c o) (tree m d p) e =
    let a = begins ts l c o in
    let b = begins ts m d p in
    a.before ∙ together a.label a.children b.label b.children (read_with (given ts) o) (read_with (given ts) p) (sym a.alone ∙ e.0 ∙ b.alone) (joined ts o p e.1) ∙ sym b.before
  where
    together : (i : Label) (u : Trees) (j : Label) (w : Trees) (x y : Trees) → tree i u none ≡ tree j w none → x ≡ y → tree i u x ≡ tree j w y
    together i u j w x y f g = cc

-- the headers of auto traits' impls have the heads up to lifetimes that they have as they are written
abbrev pub HeadsStay : World → Type 0
HeadsStay V = (i : ImplDecl) → In i V.impls → is_auto V i.header.trait ≡ true → (l : Label) → same_head l (erase i.header.args) ≡ same_head l i.header.args

module _ (H : Reference → Type 0) (V : World) (cs : List CrateDecl) (a : GoalOverKinds) (v : Values) where
  abbrev U : World
  U = without_lifetimes V cs

  abbrev P : Candidate → Type 0
  P c = SolvesEquations H a.kinds v c

  under : (b : Bool) (xs ys : List Candidate) → (b ≡ true → SomeOf P xs → SomeOf P ys) → SomeOf P (if_so b xs) → SomeOf P (if_so b ys)
  under true xs ys f s = f refl s
  under false xs ys f s = s

  -- ---- `Sized`
  sized-so : (source : CandidateSource) (t : Trees) → gives_lifetimes V t ≡ true → SomeOf P (as_written U a source (sized_rules U t)) → SomeOf P (as_written V a source (sized_rules V t))
  sized-so source (tree (adt s) A o) h p = struct-rows H V cs a v source sized_struct (last_asked sized) (λ ts t. read-last-asked ts sized t) s A V.structs h p
  sized-so source none h p = by-same H V cs a v _ _ (written-same H V cs a v source (sized_rules V none)) p
  sized-so source (tree l c o) h p = by-same H V cs a v _ _ (written-same H V cs a v source (sized_rules V (tree l c o))) p

  -- ---- auto traits
  auto-plain : (t : ℕ) (x : Trees) → gives_lifetimes V x ≡ true → SomeOf P (as_written U a misc (auto_rules_plain U t x)) → SomeOf P (as_written V a misc (auto_rules_plain V t x))
  auto-plain t (tree (adt s) A o) h p = struct-rows H V cs a v misc auto_struct (each_asked t) (λ ts z. read-each-asked ts t z) s A V.structs h p
  auto-plain t none h p = p
  auto-plain t (tree (raw_pointer b) none o) h p = p
  auto-plain t (tree (raw_pointer b) (tree l c q) o) h p = p
  auto-plain t (tree array none o) h p = p
  auto-plain t (tree array (tree l c q) o) h p = p
  auto-plain t (tree slice none o) h p = p
  auto-plain t (tree slice (tree l c q) o) h p = p
  auto-plain t (tree (ref b) none o) h p = p
  auto-plain t (tree (ref b) (tree r d none) o) h p = p
  auto-plain t (tree (ref b) (tree r d (tree l c q)) o) h p = p
  auto-plain t (tree l c o) h p = by-same H V cs a v _ _ (written-same H V cs a v misc (auto_rules_plain V t (tree l c o))) p

  module _ (heads : HeadsStay V) where
    written-for : (t : ℕ) (l : Label) → is_auto V t ≡ true → is_written U t l ≡ is_written V t l
    written-for t l auto = any-map erased_impl (λ i. (i.header.trait == t) && same_head l i.header.args) (λ i. (i.header.trait == t) && same_head l i.header.args) V.impls one
      where
        one : (i : ImplDecl) → In i V.impls → ((i.header.trait == t) && same_head l (erase i.header.args)) ≡ ((i.header.trait == t) && same_head l i.header.args)
        one i j = by (i.header.trait == t) refl
          where
            by : (b : Bool) → (i.header.trait == t) ≡ b → (b && same_head l (erase i.header.args)) ≡ (b && same_head l i.header.args)
            by false e = refl
            by true e = heads i j (ap (is_auto V) (same-number i.header.trait t e) ∙ auto) l

    auto-so : (t : ℕ) (x : Trees) → is_auto V t ≡ true → gives_lifetimes V x ≡ true → SomeOf P (as_written U a misc (auto_rules U t x)) → SomeOf P (as_written V a misc (auto_rules V t x))
    auto-so t none e h p = p
    auto-so t (tree l c o) e h p = by (is_written V t l) (subst (λ b. SomeOf P (as_written U a misc (if b then [] else auto_rules_plain U t (tree l c o)))) (written-for t l e) p)
      where
        by : (b : Bool) → SomeOf P (as_written U a misc (if b then [] else auto_rules_plain U t (tree l c o))) → SomeOf P (as_written V a misc (if b then [] else auto_rules_plain V t (tree l c o)))
        by true q = q
        by false q = auto-plain t (tree l c o) h q

  -- ---- `Unsize`
  struct-so : (t : Trees) → gives_lifetimes V t ≡ true → gives_lifetimes V (next_of t) ≡ true → SomeOf P (unsize_struct_of U a t) → SomeOf P (unsize_struct_of V a t)
  struct-so (tree (adt s) b (tree (adt u) d o)) h g p =
      under (s == u) (flat_map (unsize_by_struct U a b d) (structs_named U s)) (flat_map (unsize_by_struct V a b d) (structs_named V s))
      (λ e. struct-unsizes H V cs a v b d s V.structs h (subst (λ z. list_all (are_given d) (structs_named V z) ≡ true) (sym (same-number s u e)) g)) p
  struct-so t h g p = p

  known-so : (t : Trees) → gives_lifetimes V t ≡ true → gives_lifetimes V (next_of t) ≡ true → SomeOf P (unsize_known U a t) → SomeOf P (unsize_known V a t)
  known-so t h g p =
      some-map P (unsize_array_of U a t) (as_written U a misc (unsize_to_dyn_rules U t) ++ (upcasts_of U a t ++ unsize_struct_of U a t)) (unsize_array_of V a t) (as_written V a misc (unsize_to_dyn_rules V t) ++ (upcasts_of V a t ++ unsize_struct_of V a t))
      (by-same H V cs a v _ _ (array-same H V cs a v t))
      (some-map P (as_written U a misc (unsize_to_dyn_rules U t)) (upcasts_of U a t ++ unsize_struct_of U a t) (as_written V a misc (unsize_to_dyn_rules V t)) (upcasts_of V a t ++ unsize_struct_of V a t)
      (by-same H V cs a v _ _ (written-same H V cs a v misc (unsize_to_dyn_rules U t) ∙ ap (as_written V a misc) (to-dyn-same H V cs a v t)))
      (some-map P (upcasts_of U a t) (unsize_struct_of U a t) (upcasts_of V a t) (unsize_struct_of V a t) (by-same H V cs a v _ _ (upcasts-same H V cs a v t)) (struct-so t h g))) p

  unsize-so : gives_lifetimes V (self_of a) ≡ true → gives_lifetimes V (next_of (self_of a)) ≡ true → (b : Bool) → SomeOf P (if b then unsure ∷ [] else unsize_recording U a) → SomeOf P (if b then unsure ∷ [] else unsize_recording V a)
  unsize-so h g true p = p
  unsize-so h g false p =
      let r = unsizing_outlives a.reference.args in
      some-recorded r P (gives-recorded r H a.kinds v) (unsize_known V a (self_of a))
      (known-so (self_of a) h g (some-unrecorded r P (gives-unrecorded r H a.kinds v) (unsize_known U a (self_of a)) p))

  -- ---- impls
  impl-so : (i : ImplDecl) → P (by_the_impl U a (erased_impl i)) → P (by_the_impl V a i)
  impl-so i g = record {
    own = g.own;
    sorted = subst (λ ks. as_slots ks g.own ≡ g.own) (kinds-same i.header.args zero i.params) g.sorted;
    equal = pairwise ts a.reference.args (rules_behind n i.header).args (joined ts a.reference.args (rules_behind n (erased_reference i.header)).args g.equal ∙ moved-erased ts n i.header.args);
    solves = solved H V cs a v (is_coinductive V a.reference.trait) ts (map (rules_behind n) (map erased_reference i.clauses)) (map (rules_behind n) i.clauses) (clauses-read i.clauses) g.solves;
  }
    where
      ts : List Trees
      ts = slots a.kinds v g.own

      n : ℕ
      n = length a.kinds

      clauses-read : (rs : List Reference) → map (read_reference ts) (map (rules_behind n) (map erased_reference rs)) ≡ map (read_reference ts) (map (rules_behind n) rs)
      clauses-read [] = refl
      clauses-read (r ∷ rs) =
          ap (λ z. record { trait = r.trait; args = z } ∷ map (read_reference ts) (map (rules_behind n) (map erased_reference rs))) (moved-erased ts n r.args)
          ∙ ap (λ z. read_reference ts (rules_behind n r) ∷ z) (clauses-read rs)

  relevant-so : (t h : Trees) → are_terms h ≡ true → is_relevant_to t (erase h) ≡ true → is_relevant_to t h ≡ true
  relevant-so none h d e = e
  relevant-so (tree l c o) h d e = head-stays l h d e

  match-so : (t h : Trees) → are_terms h ≡ true → can_match t (erase h) ≡ true → can_match t h ≡ true
  match-so t h d e =
      both-true (is_relevant_to (with_plain_head t) h) (not (are_apart t h))
      (relevant-so (with_plain_head t) h d (left (is_relevant_to (with_plain_head t) (erase h)) (not (are_apart t (erase h))) e))
      (erased-apart t h (right (is_relevant_to (with_plain_head t) (erase h)) (not (are_apart t (erase h))) e))
    where
      both-true : (x y : Bool) → x ≡ true → y ≡ true → (x && y) ≡ true
      both-true x y p q = rw (p, q) refl

  impls-so : (is : List ImplDecl) → list_all (λ (i : ImplDecl). are_terms i.header.args) is ≡ true → SomeOf P (by_impls U a (map erased_impl is)) → SomeOf P (by_impls V a is)
  impls-so [] h p = p
  impls-so (i ∷ is) h p =
      by (i.header.trait == a.reference.trait) (can_match a.reference.args (erase i.header.args)) (can_match a.reference.args i.header.args)
      (match-so a.reference.args i.header.args (left (are_terms i.header.args) (list_all (λ (j : ImplDecl). are_terms j.header.args) is) h)) p
      (impls-so is (right (are_terms i.header.args) (list_all (λ (j : ImplDecl). are_terms j.header.args) is) h))
    where
      by : (b x y : Bool) → (x ≡ true → y ≡ true) → SomeOf P (if b && x then by_the_impl U a (erased_impl i) ∷ by_impls U a (map erased_impl is) else by_impls U a (map erased_impl is))
          → (SomeOf P (by_impls U a (map erased_impl is)) → SomeOf P (by_impls V a is)) → SomeOf P (if b && y then by_the_impl V a i ∷ by_impls V a is else by_impls V a is)
      by false x y f q go = go q
      by true true true f (inl q) go = inl (impl-so i q)
      by true true true f (inr q) go = inr (go q)
      by true true false f q go = absurd (true-false (sym (f refl)))
      by true false true f q go = inr (go q)
      by true false false f q go = go q

  -- ---- all
  module _ (heads : HeadsStay V) (headers : list_all (λ (i : ImplDecl). are_terms i.header.args) V.impls ≡ true) (fits : goal_gives_lifetimes V a ≡ true) where
    self-given : gives_lifetimes V (self_of a) ≡ true
    self-given = left (gives_lifetimes V (self_of a)) (not (a.reference.trait == unsize) || gives_lifetimes V (next_of (self_of a))) fits

    next-given : (a.reference.trait == unsize) ≡ true → gives_lifetimes V (next_of (self_of a)) ≡ true
    next-given u = where-so (a.reference.trait == unsize) (gives_lifetimes V (next_of (self_of a))) u (right (gives_lifetimes V (self_of a)) _ fits)

    built-in-so : SomeOf P (built_in U a) → SomeOf P (built_in V a)
    built-in-so p =
        some-map P (by_sized U a) (by_copy U a ++ (by_auto U a ++ (by_tuple U a ++ (by_fn_ptr U a ++ (by_call U a ++ by_unsize U a))))) (by_sized V a) (by_copy V a ++ (by_auto V a ++ (by_tuple V a ++ (by_fn_ptr V a ++ (by_call V a ++ by_unsize V a)))))
        (under (a.reference.trait == sized) _ _ (λ e. sized-so (BuiltinImpl Trivial) (self_of a) self-given))
        (some-map P (by_copy U a) (by_auto U a ++ (by_tuple U a ++ (by_fn_ptr U a ++ (by_call U a ++ by_unsize U a)))) (by_copy V a) (by_auto V a ++ (by_tuple V a ++ (by_fn_ptr V a ++ (by_call V a ++ by_unsize V a))))
        (under ((a.reference.trait == copy) || (a.reference.trait == clone)) _ _ (λ e. by-same H V cs a v _ _ (written-same H V cs a v misc (copy_rules a.reference.trait (self_of a)))))
        (some-map P (by_auto U a) (by_tuple U a ++ (by_fn_ptr U a ++ (by_call U a ++ by_unsize U a))) (by_auto V a) (by_tuple V a ++ (by_fn_ptr V a ++ (by_call V a ++ by_unsize V a)))
        (under (is_auto V a.reference.trait) _ _ (λ e. auto-so heads a.reference.trait (self_of a) e self-given))
        (some-map P (by_tuple U a) (by_fn_ptr U a ++ (by_call U a ++ by_unsize U a)) (by_tuple V a) (by_fn_ptr V a ++ (by_call V a ++ by_unsize V a))
        (under (a.reference.trait == tuple_trait) _ _ (λ e. by-same H V cs a v _ _ (written-same H V cs a v misc (tuple_rules (self_of a)))))
        (some-map P (by_fn_ptr U a) (by_call U a ++ by_unsize U a) (by_fn_ptr V a) (by_call V a ++ by_unsize V a)
        (under (a.reference.trait == fn_ptr_trait) _ _ (λ e. by-same H V cs a v _ _ (written-same H V cs a v misc (fn_ptr_rules (self_of a)))))
        (some-map P (by_call U a) (by_unsize U a) (by_call V a) (by_unsize V a)
        (under (is_fn_trait a.reference.trait) _ _ (λ e. by-same H V cs a v _ _ (call-same H V cs a v (self_of a))))
        (under (a.reference.trait == unsize) _ _ (λ e. unsize-so self-given (next-given e) (begins_unknown a.kinds (next_of (self_of a)))))))))) p

    pub candidates-so : SomeOf P (all_candidates U a) → SomeOf P (all_candidates V a)
    candidates-so p =
        some-map P (by_clauses U a (clauses a)) (built_in U a ++ (by_impls U a U.impls ++ by_objects U a)) (by_clauses V a (clauses a)) (built_in V a ++ (by_impls V a V.impls ++ by_objects V a))
        (by-same H V cs a v _ _ (clauses-same H V cs a v (clauses a)))
        (some-map P (built_in U a) (by_impls U a U.impls ++ by_objects U a) (built_in V a) (by_impls V a V.impls ++ by_objects V a) built-in-so
        (some-map P (by_impls U a U.impls) (by_objects U a) (by_impls V a V.impls) (by_objects V a) (impls-so V.impls headers) (by-same H V cs a v _ _ (objects-same H V cs a v (self_of a))))) p
