-- Rules that read the outermost types alone: those of an instance are the instances of those of what is asked.
use Rattle.std.proofs.Common.{◌≡◌, ℕ, zero, Bool, true, false, ◌&&◌, ◌==◌, if◌then◌else◌, List, [], ◌∷◌, ◌++◌, map, refl, sym, ◌∙◌, ap}
use Rattle.std.specs.List.{flat_map, list_all}
use Rattle.type_terms.specs.Promised.Label.{Label, array, slice, tuple, adt, fn_ptr, raw_pointer, param, placeholder, infer, canonical}
use Rattle.type_terms.specs.Promised.Label.{ref}
use Rattle.type_terms.specs.Promised.Trees.{Trees, none, tree, ◌+++◌, some_node, instantiate}
use Rattle.type_terms.specs.Promised.Worlds.{World, Reference, StructDecl, ImplDecl, structs_named}
use Rattle.type_terms.specs.Promised.Rules.{Rule, BuiltIn, sized, row, sized_struct, sized_tuple, auto_struct, auto_element, auto_tuple, copy_tuple, sized_rules, copy_rules, auto_rules, auto_rules_plain, is_written, tuple_rules, fn_ptr_rules, last_asked, each_asked, asked, fields_of, together}
use Rattle.type_terms.specs.Promised.Proofs.{In}
use Rattle.type_terms.proofs.Members.{in-filter}
use Rattle.type_terms.proofs.Supertraits.{flat-same}
use Rattle.type_terms.proofs.NoHolds.{member-each}
use Rattle.type_terms.proofs.Walking.{left, right}
use Rattle.type_terms.specs.Promised.Answers.{is_open}
use Rattle.goal_evaluator.specs.Instances.{read_with}
use Rattle.goal_evaluator.specs.Content.{given}
use Rattle.candidate_model.specs.Declared.{are_terms, are_references, is_declared_view}
use Rattle.candidate_model.specs.Asking.{is_rigid}
use Rattle.candidate_model.proofs.Reading.{begins, read-append, read-each-asked, read-last-asked, read_reference}
use Rattle.candidate_model.proofs.Instances.{is_bound, shut-unbound, read-unbound}

module _ (V : World) (declared : is_declared_view V ≡ true) (xs : List Trees) where
  abbrev read : Trees → Trees
  read t = read_with (given xs) t

  abbrev pub read_rule : Rule → Rule
  read_rule u = record { way = u.way; premises = map (read_reference xs) u.premises }

  -- ---- fields
  pub fields-declared : (x : StructDecl) → In x V.structs → list_all are_terms x.fields ≡ true
  fields-declared x i =
      member-each (λ (y : StructDecl). list_all are_terms y.fields) V.structs x
      (left (list_all (λ (y : StructDecl). list_all are_terms y.fields) V.structs)
      (list_all (λ y. are_references y.bounds) V.traits && list_all (λ (j : ImplDecl). are_terms j.header.args && are_references j.clauses) V.impls) declared) i

  together-read : (A : Trees) → some_node is_bound (read A) ≡ false → (fs : List Trees) → list_all are_terms fs ≡ true → together (map (instantiate zero (read A)) fs) ≡ read (together (map (instantiate zero A) fs))
  together-read A h [] d = refl
  together-read A h (f ∷ fs) d =
      ap (λ z. z +++ together (map (instantiate zero (read A)) fs)) (sym (read-unbound xs A h f (left (are_terms f) (list_all are_terms fs) d)))
      ∙ ap (λ z. read (instantiate zero A f) +++ z) (together-read A h fs (right (are_terms f) (list_all are_terms fs) d))
      ∙ sym (read-append xs (instantiate zero A f) (together (map (instantiate zero A) fs)))

  fields-read : (x : StructDecl) → In x V.structs → (A : Trees) → some_node is_bound (read A) ≡ false → fields_of x (read A) ≡ read (fields_of x A)
  fields-read x i A h = together-read A h x.fields (fields-declared x i)

  map-append : {A B : Type 0} (f : A → B) (ys zs : List A) → map f (ys ++ zs) ≡ map f ys ++ map f zs
  map-append f [] zs = refl
  map-append f (y ∷ ys) zs = ap (λ w. f y ∷ w) (map-append f ys zs)

  map-flat : {A B C : Type 0} (g : B → C) (f : A → List B) (ys : List A) → map g (flat_map f ys) ≡ flat_map (λ y. map g (f y)) ys
  map-flat g f [] = refl
  map-flat g f (y ∷ ys) = map-append g (f y) (flat_map f ys) ∙ ap (λ w. map g (f y) ++ w) (map-flat g f ys)

  -- a row of a struct, by what its fields make
  by-fields : (b : BuiltIn) (make : Trees → List Reference) → ((t : Trees) → make (read t) ≡ map (read_reference xs) (make t)) → (s : ℕ) (A : Trees) → some_node is_bound (read A) ≡ false
      → flat_map (λ x. row b (make (fields_of x (read A)))) (structs_named V s) ≡ map read_rule (flat_map (λ x. row b (make (fields_of x A))) (structs_named V s))
  by-fields b make natural s A h =
      flat-same (λ x. row b (make (fields_of x (read A)))) (λ x. map read_rule (row b (make (fields_of x A)))) (structs_named V s)
      (λ x i. ap (λ z. row b (make z)) (fields-read x (in-filter (λ (y : StructDecl). y.name == s) V.structs x i).0 A h) ∙ ap (λ z. row b z) (natural (fields_of x A)))
      ∙ sym (map-flat read_rule (λ x. row b (make (fields_of x A))) (structs_named V s))

  -- ---- rows
  abbrev Natural : (Trees → List Rule) → Label → Trees → Trees → Type 0
  Natural F l c o = F (tree l (read c) (read o)) ≡ map read_rule (F (tree l c o))

  pub sized-unbound : (l : Label) (c o : Trees) → is_rigid l ≡ true → some_node is_bound (read c) ≡ false → Natural (sized_rules V) l c o
  sized-unbound tuple c o r h = ap (λ ps. row sized_tuple ps) (read-last-asked xs sized c)
  sized-unbound (adt s) c o r h = by-fields sized_struct (last_asked sized) (λ t. read-last-asked xs sized t) s c h
  sized-unbound (param k i) c o r h = refl
  sized-unbound (placeholder k i) c o r h = refl
  sized-unbound (infer k i) c o r h = refl
  sized-unbound (canonical k i) c o r h = refl
  sized-unbound l c o r h = refl

  pub copy-natural : (t : ℕ) (l : Label) (c o : Trees) → Natural (copy_rules t) l c o
  copy-natural t tuple c o = ap (λ ps. row copy_tuple ps) (read-each-asked xs t c)
  copy-natural t l c o = refl

  pub tuple-natural : (l : Label) (c o : Trees) → Natural tuple_rules l c o
  tuple-natural tuple c o = refl
  tuple-natural l c o = refl

  pub fn-ptr-natural : (l : Label) (c o : Trees) → Natural fn_ptr_rules l c o
  fn-ptr-natural (fn_ptr n) c o = refl
  fn-ptr-natural l c o = refl

  auto-plain : (t : ℕ) (l : Label) (c o : Trees) → is_rigid l ≡ true → some_node is_bound (read c) ≡ false → Natural (auto_rules_plain V t) l c o
  auto-plain t tuple c o r h = ap (λ ps. row auto_tuple ps) (read-each-asked xs t c)
  auto-plain t (adt s) c o r h = by-fields auto_struct (each_asked t) (λ z. read-each-asked xs t z) s c h
  auto-plain t (raw_pointer b) none o r h = refl
  auto-plain t (raw_pointer b) (tree l c p) o r h =
      let b1 = begins xs l c p in ap (λ z. auto_rules_plain V t (tree (raw_pointer b) z (read o))) b1.before ∙ ap (λ z. row auto_element (asked t z ∷ [])) (sym b1.alone)
  auto-plain t array none o r h = refl
  auto-plain t array (tree l c p) o r h = let b1 = begins xs l c p in ap (λ z. auto_rules_plain V t (tree array z (read o))) b1.before ∙ ap (λ z. row auto_element (asked t z ∷ [])) (sym b1.alone)
  auto-plain t slice none o r h = refl
  auto-plain t slice (tree l c p) o r h = let b1 = begins xs l c p in ap (λ z. auto_rules_plain V t (tree slice z (read o))) b1.before ∙ ap (λ z. row auto_element (asked t z ∷ [])) (sym b1.alone)
  auto-plain t (ref b) none o r h = refl
  auto-plain t (ref b) (tree q d none) o r h = let b1 = begins xs q d none in ap (λ z. auto_rules_plain V t (tree (ref b) z (read o))) b1.before
  auto-plain t (ref b) (tree q d (tree l c p)) o r h =
      let b1 = begins xs q d (tree l c p) in
      let b2 = begins xs l c p in
      ap (λ z. auto_rules_plain V t (tree (ref b) z (read o))) b1.before ∙ ap (λ z. auto_rules_plain V t (tree (ref b) (tree b1.label b1.children z) (read o))) b2.before ∙ ap (λ z. row auto_element (asked t z ∷ [])) (sym b2.alone)
  auto-plain t (param k i) c o r h = refl
  auto-plain t (placeholder k i) c o r h = refl
  auto-plain t (infer k i) c o r h = refl
  auto-plain t (canonical k i) c o r h = refl
  auto-plain t l c o r h = refl

  pub auto-unbound : (t : ℕ) (l : Label) (c o : Trees) → is_rigid l ≡ true → some_node is_bound (read c) ≡ false → Natural (auto_rules V t) l c o
  auto-unbound t l c o r h = by (is_written V t l)
    where
      by : (b : Bool) → (if b then [] else auto_rules_plain V t (tree l (read c) (read o))) ≡ map read_rule (if b then [] else auto_rules_plain V t (tree l c o))
      by true = refl
      by false = auto-plain t l c o r h

  -- ---- where no place is open
  pub sized-natural : (l : Label) (c o : Trees) → is_rigid l ≡ true → some_node is_open (read c) ≡ false → Natural (sized_rules V) l c o
  sized-natural l c o r h = sized-unbound l c o r (shut-unbound (read c) h)

  pub auto-natural : (t : ℕ) (l : Label) (c o : Trees) → is_rigid l ≡ true → some_node is_open (read c) ≡ false → Natural (auto_rules V t) l c o
  auto-natural t l c o r h = auto-unbound t l c o r (shut-unbound (read c) h)
