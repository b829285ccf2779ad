-- What a crate sees of declarations that are good is declared well.
use Rattle.std.proofs.Common.{◌≡◌, ℕ, zero, suc, ◌+◌, Bool, true, false, cond, ◌&&◌, ◌||◌, List, [], ◌∷◌, map, length, Option, Some, None, refl, sym, ap, ◌∙◌, subst, arith}
use Rattle.std.proofs.lemmas.Option.{same_Some}
use Rattle.std.specs.Prelude.{not, ◌==◌, slice_get, nat_lt, filter}
use Rattle.std.specs.List.{list_all}
use Rattle.std.specs.Option.{option_map_or}
use Rattle.type_terms.specs.Promised.Label.{Label, Sort, of_lifetime, of_type, of_const, fn_ptr, principal, param, bound}
use Rattle.type_terms.specs.Promised.Trees.{Trees, none, tree, some_node, is_sort}
use Rattle.type_terms.specs.Promised.Worlds.{Reference}
use Rattle.type_terms.specs.Made.{terms, is_made}
use Rattle.text_language.specs.Promised.Declarations.{NamedStruct, NamedTrait, NamedImpl}
use Rattle.candidate_model.specs.Candidates.{is_this_param}
use Rattle.candidate_model.specs.Declared.{is_declared_leaf, is_counted, are_terms, are_references, is_lifetime_parameter}
use Rattle.candidate_model.specs.DeclaredWell.{is_single}
use Rattle.text_lowering.specs.Promised.SeenWorlds.{plain_label, plain, plain_reference, plain_struct, plain_trait, plain_impl, all_kept, none_kept, stands_in}
use Rattle.text_lowering.specs.Seen.{param_sorts}
use Rattle.text_lowering.proofs.Sorts.{is_bad}
use Rattle.text_lowering.proofs.Tests.{is_good, is_good_struct, is_good_trait, is_good_impl, all_stand}
use Rattle.text_lowering.proofs.Trees.{and, and-left, and-right, or, or-left, or-right}
use Rattle.type_terms.proofs.BooleanBasics.{not-false}
use Rattle.type_terms.proofs.TermBasics.{sort-equal as sort-same}

-- ---- what passes of a list that is seen in part
pub seen-all : {N D : Type 0} (item : N → D) (plain : D → D) (sees : D → Bool) (p : D → Bool) (q : N → Bool) → ((n : N) → q n ≡ true → p (plain (item n)) ≡ true) → (ns : List N) → list_all q ns ≡ true
    → list_all p (map plain (filter sees (map item ns))) ≡ true
seen-all item plain sees p q f [] h = refl
seen-all item plain sees p q f (n ∷ ns) h = by (sees (item n)) (seen-all item plain sees p q f ns (and-right (q n) _ h))
  where
    by : (b : Bool) → list_all p (map plain (filter sees (map item ns))) ≡ true → list_all p (map plain (cond b (item n ∷ filter sees (map item ns)) (filter sees (map item ns)))) ≡ true
    by true g = and _ _ (f n (and-left (q n) _ h)) g
    by false g = g

pub all-mapped : {A B : Type 0} (f : A → B) (p : B → Bool) (q : A → Bool) → ((x : A) → q x ≡ true → p (f x) ≡ true) → (xs : List A) → list_all q xs ≡ true → list_all p (map f xs) ≡ true
all-mapped f p q h [] g = refl
all-mapped f p q h (x ∷ xs) g = and _ _ (h x (and-left (q x) _ g)) (all-mapped f p q h xs (and-right (q x) _ g))

pub not-true : (b : Bool) → b ≡ false → not b ≡ true
not-true false h = refl
not-true true h = absurd cc

-- a test that is false of each label of the tree by another
pub some-weaker : (p q : Label → Bool) → ((l : Label) → p l ≡ false → q l ≡ false) → (t : Trees) → some_node p t ≡ false → some_node q t ≡ false
some-weaker p q f none h = refl
some-weaker p q f (tree l c o) h =
    or _ _ (or _ _ (f l (or-left (p l) _ (or-left (p l || some_node p c) _ h))) (some-weaker p q f c (or-right (p l) _ (or-left (p l || some_node p c) _ h)))) (some-weaker p q f o (or-right (p l || some_node p c) _ h))

-- ---- terms
good-terms : (kept : ℕ → Bool) (sorts : List Sort) (t : Trees) → is_good kept sorts t ≡ true → are_terms (plain kept t) ≡ true
good-terms kept sorts t h =
    and _ _ (and-left _ _ h) (not-true _ (some-weaker (is_bad sorts) is_counted (λ l e. or-left (is_counted l) _ e) (plain kept t) (not-false _ (and-right (is_made is_declared_leaf terms (plain kept t)) _ h))))

pub good-fits : (kept : ℕ → Bool) (sorts : List Sort) (t : Trees) → is_good kept sorts t ≡ true → some_node (is_bad sorts) (plain kept t) ≡ false
good-fits kept sorts t h = not-false _ (and-right (is_made is_declared_leaf terms (plain kept t)) _ h)

pub struct-terms : (x : NamedStruct) → is_good_struct x ≡ true → list_all are_terms (plain_struct x.item).fields ≡ true
struct-terms x h = all-mapped (plain none_kept) are_terms (λ t. is_good none_kept x.kinds t && is_single t) (λ t g. good-terms none_kept x.kinds t (and-left _ _ g)) x.item.fields h

pub trait-terms : (x : NamedTrait) → is_good_trait x ≡ true → are_references (plain_trait x.item).bounds ≡ true
trait-terms x h =
    all-mapped (plain_reference none_kept) (λ (r : Reference). are_terms r.args) (λ (b : Reference). is_good none_kept (of_type ∷ x.kinds) b.args && nat_lt b.trait x.item.name) (λ b g. good-terms none_kept (of_type ∷ x.kinds) b.args (and-left _ _ g)) x.item.bounds h

pub impl-terms : (x : NamedImpl) → is_good_impl x ≡ true → are_terms (plain_impl x.item).header.args && are_references (plain_impl x.item).clauses ≡ true
impl-terms x h =
    let i = x.item in
    let rest = and-right (is_good all_kept (param_sorts x) i.header.args) _ h in
    let more = and-right (all_stand i.header.args 0 (param_sorts x)) _ (and-right (i.params == length (param_sorts x)) _ rest) in
    and _ _ (good-terms all_kept (param_sorts x) i.header.args (and-left _ _ h))
    (all-mapped (plain_reference (stands_in i.header.args)) (λ (r : Reference). are_terms r.args) (λ (c : Reference). is_good (stands_in i.header.args) (param_sorts x) c.args) (λ c g. good-terms (stands_in i.header.args) (param_sorts x) c.args g) i.clauses more)

-- ---- fields are single
single-plain : (k : ℕ → Bool) (t : Trees) → is_single t ≡ true → is_single (plain k t) ≡ true
single-plain k none h = h
single-plain k (tree l c none) h = refl
single-plain k (tree l c (tree m d o)) h = h

pub struct-single : (x : NamedStruct) → is_good_struct x ≡ true → list_all is_single (plain_struct x.item).fields ≡ true
struct-single x h = all-mapped (plain none_kept) is_single (λ t. is_good none_kept x.kinds t && is_single t) (λ t g. single-plain none_kept t (and-right (is_good none_kept x.kinds t) _ g)) x.item.fields h

-- ---- bounds hold no lifetime parameters
erased-label : (l : Label) → is_lifetime_parameter (plain_label none_kept l) ≡ false
erased-label (param of_lifetime i) = refl
erased-label (param of_type i) = refl
erased-label (param of_const i) = refl
erased-label (bound of_lifetime j i) = refl
erased-label (bound of_type j i) = refl
erased-label (bound of_const j i) = refl
erased-label (fn_ptr n) = refl
erased-label (principal n t) = refl
erased-label l = refl

pub none-left : (t : Trees) → some_node is_lifetime_parameter (plain none_kept t) ≡ false
none-left none = refl
none-left (tree l c o) = or _ _ (or _ _ (erased-label l) (none-left c)) (none-left o)

pub trait-erased : (x : NamedTrait) → is_good_trait x ≡ true → list_all (λ (b : Reference). not (some_node is_lifetime_parameter b.args)) (plain_trait x.item).bounds ≡ true
trait-erased x h =
    all-mapped (plain_reference none_kept) (λ (b : Reference). not (some_node is_lifetime_parameter b.args)) (λ (b : Reference). is_good none_kept (of_type ∷ x.kinds) b.args && nat_lt b.trait x.item.name) (λ b g. not-true _ (none-left b.args)) x.item.bounds h

-- ---- parameters of clauses stand in the header
-- the parameter of a good label is one of its sort
pub sort-there : (sorts : List Sort) (s : Sort) (i : ℕ) → is_bad sorts (param s i) ≡ false → slice_get sorts i ≡ Some s
sort-there sorts s i h = by (slice_get sorts i) refl (drop h)
  where
    drop : false || not (option_map_or (is_sort s) (slice_get sorts i) false) ≡ false → option_map_or (is_sort s) (slice_get sorts i) false ≡ true
    drop g = not-not _ g
      where
        not-not : (b : Bool) → false || not b ≡ false → b ≡ true
        not-not true e = refl
        not-not false e = absurd cc

    by : (o : Option Sort) → slice_get sorts i ≡ o → option_map_or (is_sort s) o false ≡ true → slice_get sorts i ≡ Some s
    by None e g = absurd cc
    by (Some r) e g = e ∙ ap Some (sym (sort-same s r g))

pub stands-by : (t : Trees) (first : ℕ) (sorts : List Sort) (s : Sort) (i : ℕ) → all_stand t first sorts ≡ true → slice_get sorts i ≡ Some s → (s ≡ of_lifetime → ⊥) → some_node (is_this_param s (first + i)) t ≡ true
stands-by t first [] s i h e n = absurd cc
stands-by t first (of_lifetime ∷ ss) s zero h e n = absurd (n (sym (same_Some of_lifetime s e)))
stands-by t first (of_type ∷ ss) s zero h e n = subst (λ r. some_node (is_this_param r (first + zero)) t ≡ true) (same_Some of_type s e) (subst (λ k. some_node (is_this_param of_type k) t ≡ true) (no-more first) (and-left _ _ h))
  where
    no-more : (k : ℕ) → k ≡ k + zero
    no-more k = omega arith
stands-by t first (of_const ∷ ss) s zero h e n = subst (λ r. some_node (is_this_param r (first + zero)) t ≡ true) (same_Some of_const s e) (subst (λ k. some_node (is_this_param of_const k) t ≡ true) (no-more first) (and-left _ _ h))
  where
    no-more : (k : ℕ) → k ≡ k + zero
    no-more k = omega arith
stands-by t first (of_lifetime ∷ ss) s (suc i) h e n = subst (λ k. some_node (is_this_param s k) t ≡ true) (more first i) (stands-by t (suc first) ss s i h e n)
  where
    more : (a b : ℕ) → suc a + b ≡ a + suc b
    more a b = omega arith
stands-by t first (of_type ∷ ss) s (suc i) h e n = subst (λ k. some_node (is_this_param s k) t ≡ true) (more first i) (stands-by t (suc first) ss s i (and-right (some_node (is_this_param of_type first) t) _ h) e n)
  where
    more : (a b : ℕ) → suc a + b ≡ a + suc b
    more a b = omega arith
stands-by t first (of_const ∷ ss) s (suc i) h e n = subst (λ k. some_node (is_this_param s k) t ≡ true) (more first i) (stands-by t (suc first) ss s i (and-right (some_node (is_this_param of_const first) t) _ h) e n)
  where
    more : (a b : ℕ) → suc a + b ≡ a + suc b
    more a b = omega arith
