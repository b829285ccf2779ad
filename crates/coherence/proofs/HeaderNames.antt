-- Types of a header, printed with variables for parameters and as they stand.
use Rattle.std.proofs.Common.{◌≡◌, ℕ, zero, suc, refl, sym, ap, ◌∙◌, Bool, true, false, if◌then◌else◌, List, [], ◌∷◌, ◌++◌, map, filter, Option, Some, None}
use Rattle.std.specs.Prelude.{cond, slice_get, codes}
use Rattle.std.specs.Option.{option_map_or}
use Rattle.std.proofs.lemmas.Option.{same_Some}
use Rattle.sessions.proofs.TypeTerms.Members.{so-false}
use Rattle.sessions.specs.TypeTerms.Promised.Label.{Label, Sort, of_type, of_const, of_lifetime, placeholder, tuple, fn_ptr, ref, raw_pointer, param, infer}
use Rattle.sessions.specs.TypeTerms.Promised.Supers.{opaque}
use Rattle.sessions.specs.TypeTerms.Promised.Trees.{Trees, none, tree, sort_of, is_sort, some_node}
use Rattle.sessions.specs.TypeTerms.Trees.{is_no_tree}
use Rattle.sessions.specs.TextLanguage.Promised.Declarations.{Declarations}
use Rattle.sessions.specs.TextLanguage.Names.{struct_text, trait_text, text_at, param_texts, header_names}
use Rattle.sessions.specs.TextLanguage.Output.{Names, texts, type_text, node_text, last_text, inputs, between, ends_in_unit}
use Rattle.sessions.specs.TypeTerms.Promised.OpenedHeaders.{is_param, params_below, with_variables}
use Rattle.sessions.proofs.TypeTerms.Made.{false-true as no-true}
use Rattle.sessions.proofs.TypeTerms.TermBasics.{sort-self, sort-equal}

-- ---- places in a filtered list
abbrev passes : {A : Type 0} → (A → Bool) → Option A → Bool
passes q None = false
passes q (Some x) = q x

-- how many of the first n pass
abbrev passing : {A : Type 0} → (A → Bool) → List A → ℕ → ℕ
passing q xs zero = zero
passing q xs (suc n) = if passes q (slice_get xs n) then suc (passing q xs n) else passing q xs n

passing-first : {A : Type 0} (q : A → Bool) (x : A) (xs : List A) (n : ℕ) → passing q (x ∷ xs) (suc n) ≡ (if q x then suc (passing q xs n) else passing q xs n)
passing-first q x xs zero = refl
passing-first q x xs (suc n) = by (passes q (slice_get xs n)) (q x) (passing q (x ∷ xs) (suc n)) (passing q xs n) (passing-first q x xs n)
  where
    by : (a b : Bool) (y z : ℕ) → y ≡ (if b then suc z else z) → (if a then suc y else y) ≡ (if b then suc (if a then suc z else z) else (if a then suc z else z))
    by true true y z e = ap suc e
    by true false y z e = ap suc e
    by false true y z e = e
    by false false y z e = e

filter-at : {A : Type 0} (q : A → Bool) (xs : List A) (i : ℕ) (x : A) → slice_get xs i ≡ Some x → q x ≡ true → slice_get (filter q xs) (passing q xs i) ≡ Some x
filter-at q [] i x e t = absurd cc
filter-at q (y ∷ ys) zero x e t = ap (λ b. slice_get (cond b (y ∷ filter q ys) (filter q ys)) zero) (ap q (same_Some y x e) ∙ t) ∙ e
filter-at q (y ∷ ys) (suc i) x e t = ap (slice_get (cond (q y) (y ∷ filter q ys) (filter q ys))) (passing-first q y ys i) ∙ by (q y) (filter-at q ys i x e t)
  where
    by : (b : Bool) → slice_get (filter q ys) (passing q ys i) ≡ Some x → slice_get (cond b (y ∷ filter q ys) (filter q ys)) (if b then suc (passing q ys i) else passing q ys i) ≡ Some x
    by true h = h
    by false h = h

pub mapped-at : {A B : Type 0} (f : A → B) (xs : List A) (i : ℕ) (x : A) → slice_get xs i ≡ Some x → slice_get (map f xs) i ≡ Some (f x)
mapped-at f [] i x e = absurd cc
mapped-at f (y ∷ ys) zero x e = ap Some (ap f (same_Some y x e))
mapped-at f (y ∷ ys) (suc i) x e = mapped-at f ys i x e

-- ---- parameters that stand in a header
-- a type or const parameter stands there exactly where it is of the sort
pub record KnowsParams (ps : List (List ℕ × Sort)) (h : Trees) : Type 0 where
  pub there : (s : Sort) (i : ℕ) → some_node (is_param s i) h ≡ true → (n : List ℕ) × (slice_get ps i ≡ Some (n, s))
  pub stands : (s : Sort) (i : ℕ) (n : List ℕ) → slice_get ps i ≡ Some (n, s) → is_sort s of_lifetime ≡ false → some_node (is_param s i) h ≡ true

module _ (ps : List (List ℕ × Sort)) (h : Trees) (knows : KnowsParams ps h) where
  stands-as : (s : Sort) → is_sort s of_lifetime ≡ false → (n : ℕ) → some_node (is_param s n) h ≡ passes (λ (p : List ℕ × Sort). is_sort p.1 s) (slice_get ps n)
  stands-as s v n = by (slice_get ps n) refl
    where
      by : (o : Option (List ℕ × Sort)) → slice_get ps n ≡ o → some_node (is_param s n) h ≡ passes (λ (p : List ℕ × Sort). is_sort p.1 s) o
      by None e = so-false (some_node (is_param s n) h) (λ g. let k = knows.there s n g in let f = sym e ∙ k.1 in clash k.0 f)
        where
          clash : (m : List ℕ) → ◌≡◌ {A = Option (List ℕ × Sort)} None (Some (m, s)) → ⊥
          clash m f = cc
      by (Some p) e = either (is_sort p.1 s) refl
        where
          either : (b : Bool) → is_sort p.1 s ≡ b → some_node (is_param s n) h ≡ b
          either true f = let same : p.1 ≡ s = sort-equal p.1 s f in knows.stands s n p.0 (e ∙ ap (λ r. Some (p.0, r)) same) v
          either false f = so-false (some_node (is_param s n) h) (λ g. let k = knows.there s n g in no-true (sym f ∙ ap (λ q. is_sort q.1 s) (same_Some p (k.0, s) (sym e ∙ k.1)) ∙ sort-self s))

  below-is : (s : Sort) → is_sort s of_lifetime ≡ false → (n : ℕ) → params_below h s n ≡ passing (λ (p : List ℕ × Sort). is_sort p.1 s) ps n
  below-is s v zero = refl
  below-is s v (suc n) =
      ap (λ b. if b then suc (params_below h s n) else params_below h s n) (stands-as s v n)
      ∙ ap (λ m. if passes (λ (p : List ℕ × Sort). is_sort p.1 s) (slice_get ps n) then suc m else m) (below-is s v n)

  -- the name of a parameter that stands there
  name-same : (s : Sort) (i : ℕ) → is_sort s of_lifetime ≡ false → some_node (is_param s i) h ≡ true → text_at (param_texts ps s) (params_below h s i) ≡ text_at (map (λ p. p.0) ps) i
  name-same s i v e =
      let k = knows.there s i e in
      let below : slice_get (param_texts ps s) (params_below h s i) ≡ Some k.0 =
      ap (slice_get (param_texts ps s)) (below-is s v i)
      ∙ mapped-at (λ (p : List ℕ × Sort). p.0) (filter (λ p. is_sort p.1 s) ps) _ (k.0, s) (filter-at (λ (p : List ℕ × Sort). is_sort p.1 s) ps i (k.0, s) k.1 (sort-self s)) in
      ap (λ o. option_map_or (λ n. n) o []) (below ∙ sym (mapped-at (λ (p : List ℕ × Sort). p.0) ps i (k.0, s) k.1))

  -- ---- texts of what stands in the header
  abbrev NodeOk : Label → Type 0
  NodeOk (param s i) = is_sort s of_lifetime ≡ false → some_node (is_param s i) h ≡ true
  NodeOk (infer s i) = ⊥
  NodeOk (placeholder s i) = ⊥
  NodeOk l = Unit {0}

  -- each parameter in the trees stands in the header, and no unknown and no placeholder is there
  abbrev pub AllOk : Trees → Type 0
  AllOk none = Unit {0}
  AllOk (tree l c o) = NodeOk l × AllOk c × AllOk o

  abbrev w : Trees → Trees
  w t = with_variables h t

  opened-none : (t : Trees) → is_no_tree (w t) ≡ is_no_tree (opaque t)
  opened-none none = refl
  opened-none (tree (param s i) c o) = refl
  opened-none (tree l c o) = refl

  if-same : (b e x y z k : Bool) → b ≡ e → x ≡ y → z ≡ k → (if b then x else z) ≡ (if e then y else k)
  if-same b e x y z k p q r = cc

  opened-end : (t : Trees) → ends_in_unit (w t) ≡ ends_in_unit (opaque t)
  opened-end none = refl
  opened-end (tree tuple c o) = if-same _ _ _ _ _ _ (opened-none o) (opened-none c) (opened-end o)
  opened-end (tree (param s i) c o) = if-same _ _ _ _ _ _ (opened-none o) refl (opened-end o)
  opened-end (tree l c o) = if-same _ _ _ _ _ _ (opened-none o) refl (opened-end o)

  two : (x y : List ℕ) (xs ys : List (List ℕ)) → x ≡ y → xs ≡ ys → x ∷ xs ≡ y ∷ ys
  two x y xs ys p q = cc

  module _ (d : Declarations) where
    abbrev N : Names
    N = header_names d ps

    abbrev M : Names
    M = record {
      of_struct = struct_text d;
      of_trait = trait_text d;
      of_param = λ s i. [];
      of_placeholder = λ s i. text_at (map (λ p. p.0) ps) i;
      of_unknown = λ s i. [];
    }

    before : (l : Label) (c o : Trees) → node_text N l (w c) (texts N (w c)) ≡ node_text M l (opaque c) (texts M (opaque c)) → texts N (w o) ≡ texts M (opaque o)
        → (if is_sort (sort_of l) of_lifetime then texts N (w o) else node_text N l (w c) (texts N (w c)) ∷ texts N (w o)) ≡ texts M (tree l (opaque c) (opaque o))
    before l c o p q = by (is_sort (sort_of l) of_lifetime)
      where
        by : (b : Bool) → (if b then texts N (w o) else node_text N l (w c) (texts N (w c)) ∷ texts N (w o)) ≡ (if b then texts M (opaque o) else node_text M l (opaque c) (texts M (opaque c)) ∷ texts M (opaque o))
        by true = q
        by false = two _ _ _ _ p q

    texts-opened : (t : Trees) → AllOk t → texts N (w t) ≡ texts M (opaque t)
    texts-opened none a = refl
    texts-opened (tree (param of_type i) c o) a = two _ _ _ _ (name-same of_type i refl (a.0 refl)) (texts-opened o a.2)
    texts-opened (tree (param of_const i) c o) a = two _ _ _ _ (name-same of_const i refl (a.0 refl)) (texts-opened o a.2)
    texts-opened (tree (param of_lifetime i) c o) a = texts-opened o a.2
    texts-opened (tree (infer s i) c o) a = absurd a.0
    texts-opened (tree (placeholder s i) c o) a = absurd a.0
    texts-opened (tree (fn_ptr n) c o) a =
        before (fn_ptr n) c o
        (ap (λ b. codes "fn(" ++ between (codes ", ") (inputs (texts N (w c))) ++ codes ")" ++ (if b then [] else codes " -> " ++ last_text (texts N (w c)))) (opened-end c)
        ∙ ap (λ ts. codes "fn(" ++ between (codes ", ") (inputs ts) ++ codes ")" ++ (if ends_in_unit (opaque c) then [] else codes " -> " ++ last_text ts)) (texts-opened c a.1))
        (texts-opened o a.2)
    texts-opened (tree (ref true) c o) a = before (ref true) c o (ap (node_text M (ref true) (opaque c)) (texts-opened c a.1)) (texts-opened o a.2)
    texts-opened (tree (ref false) c o) a = before (ref false) c o (ap (node_text M (ref false) (opaque c)) (texts-opened c a.1)) (texts-opened o a.2)
    texts-opened (tree (raw_pointer true) c o) a = before (raw_pointer true) c o (ap (node_text M (raw_pointer true) (opaque c)) (texts-opened c a.1)) (texts-opened o a.2)
    texts-opened (tree (raw_pointer false) c o) a = before (raw_pointer false) c o (ap (node_text M (raw_pointer false) (opaque c)) (texts-opened c a.1)) (texts-opened o a.2)
    texts-opened (tree l c o) a = before l c o (ap (node_text M l (opaque c)) (texts-opened c a.1)) (texts-opened o a.2)

    pub text-opened : (t : Trees) → AllOk t → type_text N (w t) ≡ type_text M (opaque t)
    text-opened t a = ap last_text (texts-opened t a)
