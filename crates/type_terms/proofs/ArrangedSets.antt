-- An arranged linked set is a linked set.
use Rattle.std.proofs.Common.{◌≡◌, ℕ, zero, suc, ◌<◌, Bool, true, false, List, [], ◌∷◌, refl, ap, sym, ◌∙◌, ◌||◌, ◌==◌, not, if◌then◌else◌, subst, ◌⊎◌, inl, inr, map, filter, length, Some, None}
use Rattle.std.specs.List.{list_any}
use Rattle.type_terms.specs.Promised.Label.{Label, Sort, dynamic, auto_trait, adt, principal, of_trait, predicate, param}
use Rattle.type_terms.specs.Promised.Trees.{Trees, none, tree, Fits, erase, erase_label}
use Rattle.type_terms.specs.Trees.{fits}
use Rattle.type_terms.specs.Promised.Worlds.{World, CrateDecl, Reference, StructDecl, TraitDecl, ImplDecl, core, crates_named, structs_named, traits_named, sees, sees_within, view_of, with_args, all_with_args}
use Rattle.type_terms.specs.Promised.Rules.{is_auto, strict_supertraits}
use Rattle.type_terms.specs.Promised.Proofs.{In, Every, HasProof}
use Rattle.type_terms.specs.Promised.Walks.{struct_is, trait_is, until_decisive, ends_local, keeps_orphan_rule}
use Rattle.type_terms.specs.Promised.Answers.{is_closed}
use Rattle.type_terms.specs.Promised.Core.{core_world}
use Rattle.type_terms.specs.Promised.Supers.{mentions_as}
use Rattle.type_terms.specs.Promised.Versions.{begins_with_bound, label_allowed, label_shaped, well_written, sees_struct, sees_trait, in_scope, is_open_place, is_addable, Added, with_impls, HasLaterImpls}
use Rattle.type_terms.specs.Promised.LinkedSet.{JoinedSet, LinkedSet, IsPlainTerm, AutoAtHome, is_stray}
use Rattle.type_terms.specs.Promised.Renumbering.{View}
use Rattle.type_terms.specs.Promised.Arranging.{Arrangement, autos_in, next_auto, autos_left, with_autos, children_in_order, arranged, arranged_reference, arranged_struct, arranged_trait, arranged_impl, arranged_world}
use Rattle.type_terms.specs.Arranging.{turned_back}
use Rattle.type_terms.proofs.Members.{here, there, in-cases, in-nothing, in-map}
use Rattle.type_terms.proofs.Walking.{left, right, both}
use Rattle.type_terms.proofs.ProofEntries.{map-in}
use Rattle.type_terms.proofs.Fitting.{fits-sound}
use Rattle.type_terms.proofs.Applies.{fits-complete}
use Rattle.type_terms.proofs.RenumberedTrees.{and-same}
use Rattle.type_terms.proofs.RenumberedRules.{or-same, any-over}
use Rattle.type_terms.proofs.ArrangedTrees.{back-to, dyns-stay, reference-at, over-instantiate, over-fits}
use Rattle.type_terms.proofs.ArrangedRules.{BoundWorld, filter-map, structs-there, traits-there, auto-same, over-supers, with-there}
use Rattle.type_terms.proofs.ArrangedProofs.{bound-world, proof-arranged, proof-unarranged}
use Rattle.type_terms.proofs.ArrangedTwice.{order-stays}
use Rattle.type_terms.proofs.ArrangedAnswers.{some-same, over-closed, over-visited}
use Rattle.type_terms.proofs.TermBasics.{node}
use Rattle.type_terms.proofs.JoinedParts.{dyns-hold-bounds, StructObeys, TraitObeys, ImplObeys, struct-rules, trait-rules, impl-rules, all-obey}

filter-same : {A : Type 0} (p q : A → Bool) → ((x : A) → p x ≡ q x) → (xs : List A) → filter p xs ≡ filter q xs
filter-same p q h [] = refl
filter-same p q h (x ∷ xs) = by (p x) (q x) (h x) (filter-same p q h xs)
  where
    by : (b c : Bool) → b ≡ c → filter p xs ≡ filter q xs → (if b then x ∷ filter p xs else filter p xs) ≡ (if c then x ∷ filter q xs else filter q xs)
    by true true e g = ap (λ z. x ∷ z) g
    by true false e g = cc
    by false true e g = cc
    by false false e g = g

any-same : {A : Type 0} (p q : A → Bool) → ((x : A) → p x ≡ q x) → (xs : List A) → list_any p xs ≡ list_any q xs
any-same p q h [] = refl
any-same p q h (x ∷ xs) = or-same (h x) (any-same p q h xs)

-- Lifetimes are erased alike
pub term-there : (α : Arrangement) (t : Trees) → erase t ≡ t → erase (arranged α t) ≡ arranged α t
term-there α none h = refl
term-there α (tree l c o) h =
    node (label-of h) (inner l (term-there α c (child-of h))) (term-there α o (next-of h))
  where
    label-of : tree (erase_label l) (erase c) (erase o) ≡ tree l c o → erase_label l ≡ l
    label-of e = cc

    child-of : tree (erase_label l) (erase c) (erase o) ≡ tree l c o → erase c ≡ c
    child-of e = cc

    next-of : tree (erase_label l) (erase c) (erase o) ≡ tree l c o → erase o ≡ o
    next-of e = cc

    filled : (ns : List ℕ) (t : Trees) → erase t ≡ t → erase (with_autos ns t) ≡ with_autos ns t
    filled ns none e = refl
    filled ns (tree m d p) e = node (kept m ns (label-at e)) (child-at e) (filled (autos_left m ns) p (next-at e))
      where
        label-at : tree (erase_label m) (erase d) (erase p) ≡ tree m d p → erase_label m ≡ m
        label-at k = cc

        child-at : tree (erase_label m) (erase d) (erase p) ≡ tree m d p → erase d ≡ d
        child-at k = cc

        next-at : tree (erase_label m) (erase d) (erase p) ≡ tree m d p → erase p ≡ p
        next-at k = cc

        kept : (m : Label) (ns : List ℕ) → erase_label m ≡ m → erase_label (next_auto m ns) ≡ next_auto m ns
        kept (auto_trait t) [] k = refl
        kept (auto_trait t) (n ∷ ns) k = refl
        kept m ns k = k

    inner : (l : Label) → erase (arranged α c) ≡ arranged α c → erase (children_in_order α l c (arranged α c)) ≡ children_in_order α l c (arranged α c)
    inner dynamic e = filled (α.to (autos_in c)) (arranged α c) e
    inner l e = e

-- Which parameters are mentioned
pub mentions-filled : (s : Sort) (i : ℕ) (ns : List ℕ) (t : Trees) → mentions_as s i (with_autos ns t) ≡ mentions_as s i t
mentions-filled s i ns none = refl
mentions-filled s i [] (tree (auto_trait t) c o) = or-same refl (mentions-filled s i [] o)
mentions-filled s i (n ∷ ns) (tree (auto_trait t) c o) = or-same refl (mentions-filled s i ns o)
mentions-filled s i ns (tree (param r j) c o) = or-same refl (mentions-filled s i ns o)
mentions-filled s i ns (tree l c o) = or-same refl (mentions-filled s i ns o)

pub mentions-stay : (α : Arrangement) (s : Sort) (i : ℕ) (t : Trees) → mentions_as s i (arranged α t) ≡ mentions_as s i t
mentions-stay α s i none = refl
mentions-stay α s i (tree (param r j) c o) = or-same refl (mentions-stay α s i o)
mentions-stay α s i (tree dynamic c o) = or-same (mentions-filled s i (α.to (autos_in c)) (arranged α c) ∙ mentions-stay α s i c) (mentions-stay α s i o)
mentions-stay α s i (tree l c o) = or-same (mentions-stay α s i c) (mentions-stay α s i o)

-- What is well written
module _ (α : Arrangement) (S P S' P' : ℕ → Bool) (structs : (s : ℕ) → S s ≡ true → S' s ≡ true) (traits : (t : ℕ) → P t ≡ true → P' t ≡ true) where
  allowed : (l : Label) → label_allowed S P l ≡ true → label_allowed S' P' l ≡ true
  allowed (adt s) h = structs s h
  allowed (principal n t) h = traits t h
  allowed (auto_trait t) h = traits t h
  allowed (predicate (of_trait t)) h = traits t h
  allowed l h = refl

  begins-filled : (ns : List ℕ) (c : Trees) → begins_with_bound c ≡ true → begins_with_bound (with_autos ns c) ≡ true
  begins-filled ns none h = refl
  begins-filled [] (tree (auto_trait t) c o) h = refl
  begins-filled (n ∷ ns) (tree (auto_trait t) c o) h = refl
  begins-filled ns (tree (param s i) c o) h = cc
  begins-filled ns (tree l c o) h = refl

  begins-stay : (c : Trees) → begins_with_bound c ≡ true → begins_with_bound (arranged α c) ≡ true
  begins-stay none h = refl
  begins-stay (tree (param s i) c o) h = cc
  begins-stay (tree l c o) h = refl

  shaped : (l : Label) (c : Trees) → label_shaped l c ≡ true → label_shaped l (children_in_order α l c (arranged α c)) ≡ true
  shaped dynamic c h = begins-filled (α.to (autos_in c)) (arranged α c) (begins-stay c h)
  shaped l c h = refl

  -- the auto traits of what is well written pass
  autos-pass : (t : Trees) (n : ℕ) → well_written S P t ≡ true → In n (autos_in t) → P n ≡ true
  autos-pass none n h m = absurd (in-nothing n m)
  autos-pass (tree (auto_trait t) c o) n h m = by (in-cases n t (autos_in o) m) (autos-pass o n (right (well_written S P c) _ (right true _ (right (P t) _ h))))
    where
      by : (t ≡ n) ⊎ In n (autos_in o) → (In n (autos_in o) → P n ≡ true) → P n ≡ true
      by (inl e) f = subst (λ k. P k ≡ true) e (left (P t) _ h)
      by (inr k) f = f k
  autos-pass (tree l c o) n h m = autos-pass o n (right (well_written S P c) _ (right (label_shaped l c) _ (right (label_allowed S P l) _ h))) m

  filled-written : (ns : List ℕ) → ((n : ℕ) → In n ns → P' n ≡ true) → (t : Trees) → well_written S' P' t ≡ true → well_written S' P' (with_autos ns t) ≡ true
  filled-written ns f none h = refl
  filled-written [] f (tree (auto_trait t) c o) h =
      both (P' t) _ (left (P' t) _ h) (both true _ refl (both (well_written S' P' c) _ (left (well_written S' P' c) _ (right true _ (right (P' t) _ h))) (filled-written [] f o (right (well_written S' P' c) _ (right true _ (right (P' t) _ h))))))
  filled-written (n ∷ ns) f (tree (auto_trait t) c o) h =
      both (P' n) _ (f n (here n ns))
      (both true _ refl (both (well_written S' P' c) _ (left (well_written S' P' c) _ (right true _ (right (P' t) _ h))) (filled-written ns (λ k m. f k (there k n ns m)) o (right (well_written S' P' c) _ (right true _ (right (P' t) _ h))))))
  filled-written ns f (tree l c o) h =
      let h1 = right (label_allowed S' P' l) _ h in
      let h2 = right (label_shaped l c) _ h1 in
      both (label_allowed S' P' l) _ (left (label_allowed S' P' l) _ h)
      (both (label_shaped l c) _ (left (label_shaped l c) _ h1) (both (well_written S' P' c) _ (left (well_written S' P' c) _ h2) (filled-written ns f o (right (well_written S' P' c) _ h2))))

  children-written : (l : Label) (c : Trees) → well_written S P c ≡ true → well_written S' P' (arranged α c) ≡ true → well_written S' P' (children_in_order α l c (arranged α c)) ≡ true
  children-written dynamic c h g = filled-written (α.to (autos_in c)) (λ n m. traits n (autos-pass c n h ((α.same_traits (autos_in c)).1 n m))) (arranged α c) g
  children-written l c h g = g

  pub written-there : (t : Trees) → well_written S P t ≡ true → well_written S' P' (arranged α t) ≡ true
  written-there none h = refl
  written-there (tree l c o) h =
      let h1 = right (label_allowed S P l) _ h in
      let h2 = right (label_shaped l c) _ h1 in
      let c1 = left (well_written S P c) _ h2 in
      both (label_allowed S' P' l) _ (allowed l (left (label_allowed S P l) _ h))
      (both (label_shaped l (children_in_order α l c (arranged α c))) _ (shaped l c (left (label_shaped l c) _ h1))
      (both (well_written S' P' (children_in_order α l c (arranged α c))) _ (children-written l c c1 (written-there c c1)) (written-there o (right (well_written S P c) _ h2))))

module _ (α : Arrangement) (W : World) where
  abbrev U : World
  U = arranged_world α W

  abbrev Q : Reference → Reference
  Q r = arranged_reference α r

  sees-same-within : (n c d : ℕ) → sees_within n U c d ≡ sees_within n W c d
  sees-same-within zero c d = refl
  sees-same-within (suc n) c d =
      ap (λ b. (c == d) || (d == core) || b)
      (any-same (λ (x : CrateDecl). list_any (λ u. sees_within n U u d) x.uses) (λ (x : CrateDecl). list_any (λ u. sees_within n W u d) x.uses) (λ x. any-same (λ u. sees_within n U u d) (λ u. sees_within n W u d) (λ u. sees-same-within n u d) x.uses)
      (crates_named W c))

  pub sees-same : (c d : ℕ) → sees U c d ≡ sees W c d
  sees-same c d = sees-same-within (length W.crates) c d

  -- the view of a crate
  pub view-there : (c : ℕ) → view_of U c ≡ arranged_world α (view_of W c)
  view-there c =
      join _ _ _ _ _ _ _ _ (filter-same (λ (x : CrateDecl). sees U c x.name) (λ (x : CrateDecl). sees W c x.name) (λ x. sees-same c x.name) W.crates)
      (filter-map (λ (x : StructDecl). sees U c x.home) (arranged_struct α) W.structs ∙ ap (map (arranged_struct α)) (filter-same (λ (x : StructDecl). sees U c x.home) (λ (x : StructDecl). sees W c x.home) (λ x. sees-same c x.home) W.structs))
      (filter-map (λ (x : TraitDecl). sees U c x.home) (arranged_trait α) W.traits ∙ ap (map (arranged_trait α)) (filter-same (λ (x : TraitDecl). sees U c x.home) (λ (x : TraitDecl). sees W c x.home) (λ x. sees-same c x.home) W.traits))
      (filter-map (λ (x : ImplDecl). sees U c x.home) (arranged_impl α) W.impls ∙ ap (map (arranged_impl α)) (filter-same (λ (x : ImplDecl). sees U c x.home) (λ (x : ImplDecl). sees W c x.home) (λ x. sees-same c x.home) W.impls))
    where
      join : (cs cs' : List CrateDecl) (ss ss' : List StructDecl) (ts ts' : List TraitDecl) (is is' : List ImplDecl) → cs ≡ cs' → ss ≡ ss' → ts ≡ ts' → is ≡ is'
          → (let V : World = record { crates = cs; structs = ss; traits = ts; impls = is } in V) ≡ record { crates = cs'; structs = ss'; traits = ts'; impls = is' }
      join cs cs' ss ss' ts ts' is is' p q r s = cc

module _ (α : Arrangement) (W : World) (w : BoundWorld W) where
  abbrev Y : World
  Y = arranged_world α W

  pub struct-so : (p q : StructDecl → Bool) → ((x : StructDecl) → p (arranged_struct α x) ≡ q x) → (s : ℕ) → struct_is p Y s ≡ struct_is q W s
  struct-so p q e s = ap (list_any p) (structs-there α W w s) ∙ any-over (arranged_struct α) p q e (structs_named W s)

  pub trait-so : (p q : TraitDecl → Bool) → ((x : TraitDecl) → p (arranged_trait α x) ≡ q x) → (t : ℕ) → trait_is p Y t ≡ trait_is q W t
  trait-so p q e t = ap (list_any p) (traits-there α W w t) ∙ any-over (arranged_trait α) p q e (traits_named W t)

  pub scope-there : (c : ℕ) (r : Reference) → in_scope W c r ≡ true → in_scope Y c (arranged_reference α r) ≡ true
  scope-there c r h =
      both (sees_trait Y c r.trait) _ (trait-so (λ x. sees Y c x.home) (λ x. sees W c x.home) (λ x. sees-same α W c x.home) r.trait ∙ left (sees_trait W c r.trait) _ h)
      (written-there α (sees_struct W c) (sees_trait W c) (sees_struct Y c) (sees_trait Y c)
      (λ s e. struct-so (λ x. sees Y c x.home) (λ x. sees W c x.home) (λ x. sees-same α W c x.home) s ∙ e)
      (λ t e. trait-so (λ x. sees Y c x.home) (λ x. sees W c x.home) (λ x. sees-same α W c x.home) t ∙ e) r.args (right (sees_trait W c r.trait) _ h))

  pub keeps-there : (c : ℕ) (r : Reference) → keeps_orphan_rule Y c (arranged_reference α r) ≡ keeps_orphan_rule W c r
  keeps-there c r = or-same (trait-so (λ x. x.home == c) (λ x. x.home == c) (λ x. refl) r.trait) (ap (λ ms. ends_local (until_decisive ms)) (over-visited α W w (Some c) r.args))

  pub addable-there : (c : ℕ) (r : Reference) → is_addable Y c (arranged_reference α r) ≡ is_addable W c r
  addable-there c r =
      and-same (keeps-there c r)
      (and-same (ap (λ ms. not (list_any is_open_place (until_decisive ms))) (over-visited α W w None r.args))
      (and-same (ap not (trait-so (λ x. x.is_fundamental) (λ x. x.is_fundamental) (λ x. refl) r.trait)) (ap not (trait-so (λ x. x.is_auto) (λ x. x.is_auto) (λ x. refl) r.trait))))

  pub added-there : (d : ℕ) (i : ImplDecl) → Added W d i → Added Y d (arranged_impl α i)
  added-there d i a = record { addable = addable-there d i.header ∙ a.addable; scope = scope-there d i.header a.scope }

-- The set
module _ (α : Arrangement) (W : World) (vs : List View) (rank : ℕ → ℕ) (l : JoinedSet W vs rank) where
  abbrev Z : World
  Z = arranged_world α W

  w : BoundWorld W
  w = bound-world W (dyns-hold-bounds W l.rules)

  plain-there : (t : Trees) → IsPlainTerm t → IsPlainTerm (arranged α t)
  plain-there t p = record { term = term-there α t p.term; open_places = some-same α is_stray t ∙ p.open_places; dyns = dyns-stay α t ∙ p.dyns }

  plain-references : (rs : List Reference) → ((r : Reference) → In r rs → IsPlainTerm r.args) → (q : Reference) → In q (map (arranged_reference α) rs) → IsPlainTerm q.args
  plain-references rs h q m = let r = map-in (arranged_reference α) rs q m in subst (λ (z : Reference). IsPlainTerm z.args) r.2 (plain-there r.0.args (h r.0 r.1))

  core-impl-stays : (i : ImplDecl) → In i core_world.impls → arranged_impl α i ≡ i
  core-impl-stays i m = stays core_world.impls refl i m
    where
      stays : (is : List ImplDecl) → map (arranged_impl α) is ≡ is → (i : ImplDecl) → In i is → arranged_impl α i ≡ i
      stays [] e i m = absurd (in-nothing i m)
      stays (x ∷ is) e i m = by (in-cases i x is m) (stays is (tail-of e) i)
        where
          head-of : arranged_impl α x ∷ map (arranged_impl α) is ≡ x ∷ is → arranged_impl α x ≡ x
          head-of k = cc

          tail-of : arranged_impl α x ∷ map (arranged_impl α) is ≡ x ∷ is → map (arranged_impl α) is ≡ is
          tail-of k = cc

          by : (x ≡ i) ⊎ In i is → (In i is → arranged_impl α i ≡ i) → arranged_impl α i ≡ i
          by (inl k) f = subst (λ (y : ImplDecl). arranged_impl α y ≡ y) k (head-of e)
          by (inr k) f = f k

  -- what stands in the set in the other order stood in it
  impl-of : (i : ImplDecl) → In i Z.impls → (x : ImplDecl) × In x W.impls × (arranged_impl α x ≡ i)
  impl-of i m = map-in (arranged_impl α) W.impls i m

  trait-of : (y : TraitDecl) → In y Z.traits → (x : TraitDecl) × In x W.traits × (arranged_trait α x ≡ y)
  trait-of y m = map-in (arranged_trait α) W.traits y m

  struct-there : (x : StructDecl) → StructObeys x → StructObeys (arranged_struct α x)
  struct-there x o t m = let q = map-in (arranged α) x.fields t m in subst IsPlainTerm q.2 (plain-there q.0 (o q.0 q.1))

  trait-there : (x : TraitDecl) → TraitObeys W x → TraitObeys Z (arranged_trait α x)
  trait-there x o = record {
    plain = plain-references x.bounds o.plain;
    names = λ b m. let q = map-in (arranged_reference α) x.bounds b m in subst (λ r. in_scope Z x.home r ≡ true) q.2 (scope-there α W w x.home q.0 (o.names q.0 q.1));
    autos_bare = λ e. ap (map (arranged_reference α)) (o.autos_bare e);
  }

  impl-there : (i : ImplDecl) → ImplObeys W i → ImplObeys Z (arranged_impl α i)
  impl-there i o = record {
    plain_header = plain-there i.header.args o.plain_header;
    plain_clauses = plain-references i.clauses o.plain_clauses;
    names = scope-there α W w i.home i.header o.names;
    covered = λ k m s n e. let q = map-in (arranged_reference α) i.clauses k m in
        mentions-stay α s n i.header.args ∙ o.covered q.0 q.1 s n (sym (mentions-stay α s n q.0.args) ∙ ap (λ (r : Reference). mentions_as s n r.args) q.2 ∙ e);
    not_sized = o.not_sized;
  }

  core-there : with_impls (view_of Z core) core_world.impls ≡ core_world
  core-there = ap (λ (V : World). with_impls V core_world.impls) (view-there α W core) ∙ ap (λ (V : World). with_impls (arranged_world α V) core_world.impls) l.fits.core_there

  core-later : HasLaterImpls Z core core_world.impls
  core-later = record {
    stand = λ i m. subst (λ (V : World). In i V.impls) (sym (view-there α W core)) (subst (λ (x : ImplDecl). In x (arranged_world α (view_of W core)).impls) (core-impl-stays i m) (in-map (arranged_impl α) (view_of W core).impls i (l.fits.core_later.stand i m)));
    added = λ i m. by i (map-in (arranged_impl α) (view_of W core).impls i (subst (λ (V : World). In i V.impls) (view-there α W core) m));
  }
    where
      by : (i : ImplDecl) → (x : ImplDecl) × In x (view_of W core).impls × (arranged_impl α x ≡ i) → In i core_world.impls ⊎ Added Z i.home i
      by i x = or (l.fits.core_later.added x.0 x.1)
        where
          or : In x.0 core_world.impls ⊎ Added W x.0.home x.0 → In i core_world.impls ⊎ Added Z i.home i
          or (inl m) = inl (subst (λ (y : ImplDecl). In y core_world.impls) (sym (core-impl-stays x.0 m) ∙ x.2) m)
          or (inr a) = inr (subst (λ (y : ImplDecl). Added Z y.home y) x.2 (added-there α W w x.0.home x.0 a))

  one-of : {A : Type 0} (f : A → A) (name : A → ℕ) → ((x : A) → name (f x) ≡ name x) → (xs : List A) → ((x y : A) → In x xs → In y xs → name x ≡ name y → x ≡ y)
      → (x y : A) → In x (map f xs) → In y (map f xs) → name x ≡ name y → x ≡ y
  one-of f name h xs one x y mx my e =
      let a = map-in f xs x mx in
      let b = map-in f xs y my in
      sym a.2 ∙ ap f (one a.0 b.0 a.1 b.1 (sym (h a.0) ∙ ap name a.2 ∙ e ∙ sym (ap name b.2) ∙ h b.0)) ∙ b.2

  pub arranged-joined : JoinedSet Z [] rank
  arranged-joined = record {
    rules = all-obey Z (λ y m. let x = map-in (arranged_struct α) W.structs y m in subst StructObeys x.2 (struct-there x.0 (struct-rules W l.rules x.0 x.1)))
        (λ y m. let x = trait-of y m in subst (TraitObeys Z) x.2 (trait-there x.0 (trait-rules W l.rules x.0 x.1)))
        (λ i m. let x = impl-of i m in subst (ImplObeys Z) x.2 (impl-there x.0 (impl-rules W l.rules x.0 x.1))) at-home l.rules.trait_rank
        (λ y b m n. let x = trait-of y m in
        let q = map-in (arranged_reference α) x.0.bounds b (subst (λ (z : TraitDecl). In b z.bounds) (sym x.2) n) in
        subst (λ (z : TraitDecl). l.rules.trait_rank b.trait < l.rules.trait_rank z.name) x.2
        (subst (λ (r : Reference). l.rules.trait_rank r.trait < l.rules.trait_rank x.0.name) q.2 (l.rules.supers_before x.0 q.0 x.1 q.1)));
    fits = record {
      core_there = core-there;
      core_later = core-later;
      core_first = l.fits.core_first;
      uses_before = l.fits.uses_before;
      uses_stand = l.fits.uses_stand;
      one_struct = one-of (arranged_struct α) (λ (x : StructDecl). x.name) (λ x. refl) W.structs l.fits.one_struct;
      one_trait = one-of (arranged_trait α) (λ (x : TraitDecl). x.name) (λ x. refl) W.traits l.fits.one_trait;
      one_impl = one-of (arranged_impl α) (λ (x : ImplDecl). x.name) (λ x. refl) W.impls l.fits.one_impl;
      dyns_in_order = order-stays α W l.fits.dyns_in_order;
    };
    orphan_rule = λ i m. let x = impl-of i m in subst (λ (y : ImplDecl). keeps_orphan_rule Z y.home y.header ≡ true) x.2 (keeps-there α W w x.0.home x.0.header ∙ l.orphan_rule x.0 x.1);
    as_answered = tt;
  }
    where
      at-home : AutoAtHome Z
      at-home i m e = by (impl-of i m)
        where
          by : (x : ImplDecl) × In x W.impls × (arranged_impl α x ≡ i)
              → (s : ℕ) × (ks : Trees) × (os : Trees) × (i.header.args ≡ tree (adt s) ks os) × (struct_is (λ x. x.home == i.home) Z s ≡ true)
          by x =
              let h = l.rules.autos_at_home x.0 x.1 (sym (auto-same α W w x.0.header.trait) ∙ ap (λ (y : ImplDecl). is_auto Z y.header.trait) x.2 ∙ e) in (
                h.0,
                children_in_order α (adt h.0) h.1 (arranged α h.1),
                arranged α h.2,
                ap (λ (y : ImplDecl). y.header.args) (sym x.2) ∙ ap (arranged α) h.3,
                struct-so α W w (λ y. y.home == i.home) (λ y. y.home == i.home) (λ y. refl) h.0 ∙ ap (λ (y : ImplDecl). struct_is (λ z. z.home == y.home) W h.0) (sym x.2) ∙ h.4,
              )

module _ (α : Arrangement) (W : World) (vs : List View) (rank : ℕ → ℕ) (l : LinkedSet W vs rank) where
  each-there : (ks : List Reference) → Every (HasProof (arranged_world α W) []) (map (arranged_reference α) ks) → Every (HasProof W []) ks
  each-there [] h = tt
  each-there (k ∷ ks) h = (proof-unarranged α W (dyns-hold-bounds W l.joined.rules) [] k h.0, each-there ks h.1)

  each-back : (ks : List Reference) → Every (HasProof W []) ks → Every (HasProof (arranged_world α W) []) (map (arranged_reference α) ks)
  each-back [] h = tt
  each-back (k ∷ ks) h = (proof-arranged α W (bound-world W (dyns-hold-bounds W l.joined.rules)) [] k h.0, each-back ks h.1)

  -- what a linked set is, it is in the other order too
  pub arranged-linked : LinkedSet (arranged_world α W) [] rank
  arranged-linked = record { joined = arranged-joined α W vs rank l.joined; supers_proved = λ i m B c f p. by i m B c f p (map-in (arranged_impl α) W.impls i m) }
    where
      w : BoundWorld W
      w = bound-world W (dyns-hold-bounds W l.joined.rules)

      by : (i : ImplDecl) → In i (arranged_world α W).impls → (B : Trees) → is_closed B ≡ true → Fits B i.header.args → Every (HasProof (arranged_world α W) []) (all_with_args B i.clauses)
          → (x : ImplDecl) × In x W.impls × (arranged_impl α x ≡ i) → Every (HasProof (arranged_world α W) []) (strict_supertraits (arranged_world α W) (with_args B i.header))
      by i m B c f p x =
          subst (λ (y : ImplDecl). Every (HasProof (arranged_world α W) []) (strict_supertraits (arranged_world α W) (with_args B y.header))) x.2
          (subst (λ r. Every (HasProof (arranged_world α W) []) (strict_supertraits (arranged_world α W) r)) header-is
          (subst (Every (HasProof (arranged_world α W) [])) (over-supers α W w (with_args B' x.0.header))
          (each-back (strict_supertraits W (with_args B' x.0.header))
          (l.supers_proved x.0 x.1 B' (over-closed (turned_back α) B ∙ c) fit (each-there (all_with_args B' x.0.clauses) (subst (Every (HasProof (arranged_world α W) [])) clauses-are (subst (λ (y : ImplDecl). Every (HasProof (arranged_world α W) []) (all_with_args B y.clauses)) (sym x.2) p)))))))
        where
          B' : Trees
          B' = arranged (turned_back α) B

          forth : arranged α B' ≡ B
          forth = back-to (turned_back α) B

          header-is : arranged_reference α (with_args B' x.0.header) ≡ with_args B (arranged_reference α x.0.header)
          header-is = reference-at x.0.header.trait (over-instantiate α 0 B' x.0.header.args (w.headers x.0 x.1)) ∙ ap (λ z. with_args z (arranged_reference α x.0.header)) forth

          clauses-are : all_with_args B (map (arranged_reference α) x.0.clauses) ≡ map (arranged_reference α) (all_with_args B' x.0.clauses)
          clauses-are = ap (λ z. all_with_args z (map (arranged_reference α) x.0.clauses)) (sym forth) ∙ sym (with-there α W w B' x.0.clauses (λ k g. w.clauses x.0 k x.1 g))

          fit : Fits B' x.0.header.args
          fit =
              fits-sound B' x.0.header.args
              (sym (over-fits α B' x.0.header.args) ∙ ap (λ z. fits z (arranged α x.0.header.args)) forth ∙ ap (λ (y : ImplDecl). fits B y.header.args) x.2 ∙ fits-complete B i.header.args f)
