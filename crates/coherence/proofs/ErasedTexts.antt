-- Texts of types without their lifetimes.
use Rattle.std.proofs.Common.{◌≡◌, ℕ, Bool, true, false, List, [], ◌∷◌, ◌++◌, refl, ap, ◌∙◌, codes}
use Rattle.std.specs.Prelude.{if◌then◌else◌}
use Rattle.sessions.specs.TypeTerms.Promised.Label.{Label, of_lifetime, fn_ptr, principal, param, placeholder, infer, canonical, bound, tuple, ref, raw_pointer}
use Rattle.sessions.specs.TypeTerms.Promised.Trees.{Trees, none, tree, erase, erase_label, sort_of, is_sort}
use Rattle.sessions.specs.TextLanguage.Output.{Names, texts, type_text, node_text, last_text, inputs, between, ends_in_unit, is_unit}
use Rattle.sessions.proofs.TypeTerms.TermBasics.{erased-empty as erased-none}

erased-sort : (l : Label) → sort_of (erase_label l) ≡ sort_of l
erased-sort (fn_ptr n) = refl
erased-sort (principal n i) = refl
erased-sort (param of_lifetime i) = refl
erased-sort (placeholder of_lifetime i) = refl
erased-sort (infer of_lifetime i) = refl
erased-sort (canonical of_lifetime i) = refl
erased-sort (bound of_lifetime i j) = refl
erased-sort l = refl

erased-unit : (l : Label) (c : Trees) → is_unit (erase_label l) (erase c) ≡ is_unit l c
erased-unit tuple c = erased-none c
erased-unit (fn_ptr n) c = refl
erased-unit (principal n i) c = refl
erased-unit (param of_lifetime i) c = refl
erased-unit (placeholder of_lifetime i) c = refl
erased-unit (infer of_lifetime i) c = refl
erased-unit (canonical of_lifetime i) c = refl
erased-unit (bound of_lifetime i j) c = refl
erased-unit l c = refl

same-if : (b e : Bool) (x y z w : Bool) → b ≡ e → x ≡ y → z ≡ w → (if b then x else z) ≡ (if e then y else w)
same-if b e x y z w p q r = cc

erased-end : (t : Trees) → ends_in_unit (erase t) ≡ ends_in_unit t
erased-end none = refl
erased-end (tree l c o) = same-if _ _ _ _ _ _ (erased-none o) (erased-unit l c) (erased-end o)

-- a node's text, where it is no lifetime
node-same : (N : Names) (l : Label) (c : Trees) (ts : List (List ℕ)) → is_sort (sort_of l) of_lifetime ≡ false → node_text N (erase_label l) (erase c) ts ≡ node_text N l c ts
node-same N (fn_ptr n) c ts h = ap (λ b. codes "fn(" ++ between (codes ", ") (inputs ts) ++ codes ")" ++ (if b then [] else codes " -> " ++ last_text ts)) (erased-end c)
node-same N (principal n i) c ts h = refl
node-same N (param of_lifetime i) c ts h = absurd cc
node-same N (placeholder of_lifetime i) c ts h = absurd cc
node-same N (infer of_lifetime i) c ts h = absurd cc
node-same N (canonical of_lifetime i) c ts h = absurd cc
node-same N (bound of_lifetime i j) c ts h = absurd cc
node-same N (ref true) c ts h = refl
node-same N (ref false) c ts h = refl
node-same N (raw_pointer true) c ts h = refl
node-same N (raw_pointer false) c ts h = refl
node-same N l c ts h = refl

choose : (b e : Bool) (x y z w : List (List ℕ)) → b ≡ e → x ≡ y → z ≡ w → (if b then x else z) ≡ (if e then y else w)
choose b e x y z w p q r = cc

two : (x y : List ℕ) (xs ys : List (List ℕ)) → x ≡ y → xs ≡ ys → x ∷ xs ≡ y ∷ ys
two x y xs ys p q = cc

-- a node before others
before : (N : Names) (l : Label) (c o : Trees) → texts N (erase c) ≡ texts N c → texts N (erase o) ≡ texts N o → texts N (erase (tree l c o)) ≡ texts N (tree l c o)
before N l c o below behind = by (is_sort (sort_of l) of_lifetime) refl
  where
    sort-same : is_sort (sort_of (erase_label l)) of_lifetime ≡ is_sort (sort_of l) of_lifetime
    sort-same = ap (λ s. is_sort s of_lifetime) (erased-sort l)

    by : (b : Bool) → is_sort (sort_of l) of_lifetime ≡ b → texts N (erase (tree l c o)) ≡ texts N (tree l c o)
    by true e = rw sort-same (rw e behind)
    by false e =
        let here : node_text N (erase_label l) (erase c) (texts N (erase c)) ≡ node_text N l c (texts N c) = ap (node_text N (erase_label l) (erase c)) below ∙ node-same N l c (texts N c) e in
        choose _ _ _ _ _ _ sort-same behind (two _ _ _ _ here behind)

texts-same : (N : Names) (t : Trees) → texts N (erase t) ≡ texts N t
texts-same N none = refl
texts-same N (tree l c o) = before N l c o (texts-same N c) (texts-same N o)

pub text-same : (N : Names) (t : Trees) → type_text N (erase t) ≡ type_text N t
text-same N t = ap last_text (texts-same N t)
