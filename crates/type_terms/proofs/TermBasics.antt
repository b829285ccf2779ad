-- Small facts on terms, labels and the items of a world.
use Rattle.std.proofs.Common.{◌≡◌, refl, ap, ℕ, true, pred, List, ◌∷◌, suc, [], subst, sym, Bool, if◌then◌else◌, ◌≤◌}
use Rattle.type_terms.specs.Promised.Answers.{is_open}
use Rattle.type_terms.specs.Kept.{is-at}
use Rattle.type_terms.specs.Promised.Label.{Label, shift_label, bound, Sort, of_type, of_const, of_lifetime, fn_ptr, principal, predicate, of_trait, param, inside}
use Rattle.type_terms.specs.Promised.Proofs.{ProofEntry, Stands}
use Rattle.type_terms.specs.Promised.Rules.{last_asked, same_head}
use Rattle.type_terms.specs.Promised.Handles.{Entry, Has, types, trees_at, Is}
use Rattle.type_terms.specs.Terms.{Lawful}
use Rattle.type_terms.specs.Promised.Trees.{Trees, erase, ◌+++◌, none, tree, erase_label, is_sort, IsA}
use Rattle.type_terms.specs.Trees.{is_no_tree, outside, Single}
use Rattle.type_terms.specs.Promised.Walks.{Met, local, entered, struct_leaf}
use Rattle.type_terms.specs.Promised.Worlds.{Reference}
use Rattle.type_terms.proofs.NumberBasics.{pred-le}

pub erase-append : (x y : Trees) → erase (x +++ y) ≡ erase x +++ erase y
erase-append none y = refl
erase-append (tree l c o) y = ap (λ z. tree (erase_label l) (erase c) z) (erase-append o y)

pub joined : {a b c d : Trees} → a ≡ b → c ≡ d → a +++ c ≡ b +++ d
joined p q = cc

pub label-kept : (d a : ℕ) (l : Label) → is_open (shift_label d a l) ≡ is_open l
label-kept d a (bound s k v) = refl
label-kept d a l = refl

pub node : {l l' : Label} {c c' o o' : Trees} → l ≡ l' → c ≡ c' → o ≡ o' → tree l c o ≡ tree l' c' o'
node p q r = cc

pub none-sound : (t : Trees) → is_no_tree t ≡ true → t ≡ none
none-sound none h = refl
none-sound (tree l c o) h = cc

pub sort-self : (s : Sort) → is_sort s s ≡ true
sort-self of_type = refl
sort-self of_const = refl
sort-self of_lifetime = refl

pub outside-zero : (l : Label) (n : ℕ) → n ≡ 0 → outside l n ≡ 0
outside-zero (fn_ptr k) n e = ap pred e
outside-zero (principal k t) n e = ap pred e
outside-zero l n e = e

pub stands-later : (p : Reference) (e : ProofEntry) (es : List ProofEntry) → Stands p es → Stands p (e ∷ es)
stands-later p e es h = (suc h.0, h.1)

pub tree-cong : (l m : Label) (c c' o o' : Trees) → l ≡ m → c ≡ c' → o ≡ o' → tree l c o ≡ tree m c' o'
tree-cong l m c c' o o' p q r = cc

pub two : (a a' b b' : Trees) → a ≡ a' → b ≡ b' → a +++ b ≡ a' +++ b'
two a a' b b' p q = cc

pub below-node : (l : Label) (c c' o o' : Trees) → c ≡ c' → o ≡ o' → tree l c o ≡ tree l c' o'
below-node l c c' o o' p q = cc

pub node-same : (l m : Label) (c d o p : Trees) → l ≡ m → c ≡ d → o ≡ p → tree l c o ≡ tree m d p
node-same l m c d o p x y z = cc

pub same-sorts : (s r : Sort) → is_sort s r ≡ true → r ≡ s
same-sorts of_type of_type h = refl
same-sorts of_const of_const h = refl
same-sorts of_lifetime of_lifetime h = refl
same-sorts of_type of_const h = cc
same-sorts of_type of_lifetime h = cc
same-sorts of_const of_type h = cc
same-sorts of_const of_lifetime h = cc
same-sorts of_lifetime of_type h = cc
same-sorts of_lifetime of_const h = cc

pub three : {l m : Label} {c d o p : Trees} → l ≡ m → c ≡ d → o ≡ p → tree l c o ≡ tree m d p
three e f g = cc

pub more : (t u : Reference) (ts us : List Reference) → t ≡ u → ts ≡ us → t ∷ ts ≡ u ∷ us
more t u ts us q p = cc

-- what stands before others does not count
pub skipped : (t : ℕ) (x y : Trees) (r : Reference) → last_asked t y ≡ r ∷ [] → last_asked t (x +++ y) ≡ r ∷ []
skipped t x none r e = absurd cc
skipped t none (tree m d p) r e = e
skipped t (tree l c none) (tree m d p) r e = e
skipped t (tree l c (tree n b o)) (tree m d p) r e = skipped t (tree n b o) (tree m d p) r e

pub at-single : (P : Trees → Type 0) → ((l : Label) (c : Trees) → P (tree l c none)) → (t : Trees) → Single t → P t
at-single P f none s = absurd s
at-single P f (tree l c o) s = subst (λ z. P (tree l c z)) (sym s) (f l c)

pub is_sort-self : (k : Sort) → is_sort k k ≡ true
is_sort-self of_type = refl
is_sort-self of_const = refl
is_sort-self of_lifetime = refl

pub tree-parts : (l m : Label) (c d o p : Trees) → tree l c o ≡ tree m d p → (l ≡ m) × (c ≡ d) × (o ≡ p)
tree-parts l m c d o p e = (cc, cc, cc)

pub append-none : (t : Trees) → t +++ none ≡ t
append-none none = refl
append-none (tree l c o) = ap (λ z. tree l c z) (append-none o)

pub type-is : (es : List Entry) → Lawful es → (i : ℕ) → Has es types i → IsA of_type (trees_at es i)
type-is es law i h = (law.sorted i _ (is-at es types i h)).as_type refl

pub predicate-parts : (i j : ℕ) (x y : Trees) → tree (predicate (of_trait i)) x none ≡ tree (predicate (of_trait j)) y none → (i ≡ j) × (x ≡ y)
predicate-parts i j x y e = (cc, cc)

pub erased-empty : (t : Trees) → is_no_tree (erase t) ≡ is_no_tree t
erased-empty none = refl
erased-empty (tree l c o) = refl

pub gone : (f : Trees → Trees) → f none ≡ none → (c : Trees) → c ≡ none → is_no_tree (f c) ≡ true
gone f e c h = subst (λ z. is_no_tree (f z) ≡ true) (sym h) (ap is_no_tree e)

pub if-same : (p q x y : Bool) (u w : List Met) (s : ℕ) → p ≡ q → x ≡ y → u ≡ w
    → (if p then local ∷ [] else if x then entered s ∷ u else struct_leaf s ∷ []) ≡ (if q then local ∷ [] else if y then entered s ∷ w else struct_leaf s ∷ [])
if-same p q x y u w s e f g = cc

pub same-references : (t u : ℕ) (x y : Trees) → t ≡ u → x ≡ y → ◌≡◌ {A = Reference} (record { trait = t; args = x }) (record { trait = u; args = y })
same-references t u x y e g = cc

pub head-alone : (k m : Label) (c o d q : Trees) → same_head k (tree m c o) ≡ same_head k (tree m d q)
head-alone k (param s i) c o d q = refl
head-alone k m c o d q = refl

pub label-is : (m n : Label) (c o d q : Trees) → tree m c o ≡ tree n d q → m ≡ n
label-is m n c o d q h = cc

pub and-none : (x : Trees) → x +++ none ≡ x
and-none none = refl
and-none (tree l c o) = ap (tree l c) (and-none o)

pub assoc : (x y z : Trees) → (x +++ y) +++ z ≡ x +++ (y +++ z)
assoc none y z = refl
assoc (tree l c o) y z = ap (tree l c) (assoc o y z)

pub sort-equal : (s r : Sort) → is_sort s r ≡ true → s ≡ r
sort-equal of_type of_type h = refl
sort-equal of_const of_const h = refl
sort-equal of_lifetime of_lifetime h = refl
sort-equal of_type of_const h = absurd cc
sort-equal of_type of_lifetime h = absurd cc
sort-equal of_const of_type h = absurd cc
sort-equal of_const of_lifetime h = absurd cc
sort-equal of_lifetime of_type h = absurd cc
sort-equal of_lifetime of_const h = absurd cc

pub trees-of : (es : List Entry) (k i : ℕ) (t : Trees) → Is es k i t → trees_at es i ≡ t
trees-of es k i t h = rw h refl

pub inside-binder : (l : Label) (n d : ℕ) → outside l n ≤ d → n ≤ inside l d
inside-binder (fn_ptr k) n d h = pred-le n d h
inside-binder (principal k t) n d h = pred-le n d h
inside-binder l n d h = h
