-- The values of a question without their lifetimes print as they are.
use Rattle.std.proofs.Common.{◌≡◌, ℕ, suc, Bool, true, false, ◌&&◌, List, [], ◌∷◌, map, refl, sym, ap, ◌∙◌}
use Rattle.std.specs.Prelude.{if◌then◌else◌, nat_lt, length}
use Rattle.sessions.specs.TypeTerms.Codes.{same, same_label}
use Rattle.sessions.specs.TypeTerms.Promised.Label.{Label, Sort, of_type, of_const, of_lifetime, infer, param, placeholder, canonical, bound, principal, auto_trait, predicate, dynamic}
use Rattle.sessions.specs.TypeTerms.Promised.Trees.{Trees, none, tree, leaf, erase, erase_label, sort_of, is_sort}
use Rattle.sessions.specs.TypeTerms.Trees.{is_no_tree}
use Rattle.sessions.specs.TypeTerms.Promised.Handles.{arg_trees, ArgsHeld}
use Rattle.sessions.specs.TypeTerms.Made.{terms, bounds, traits, is_made, is_in_range}
use Rattle.sessions.specs.TypeTerms.Promised.Handles.{Entry}
use Rattle.sessions.specs.TypeTerms.Terms.{Lawful}
use Rattle.sessions.specs.TypeTerms.declared.kinds.GenericArgKind.{GenericArgKind}
use Rattle.sessions.proofs.TypeTerms.Made.{left, right, false-true, no-tree, made-ordinary}
use Rattle.sessions.proofs.TypeTerms.MadeFacts.{arg-made}
use Rattle.sessions.specs.TextLanguage.Promised.Declarations.{Declarations, Question, Variable}
use Rattle.sessions.specs.TextLanguage.Names.{variables_of_kind, own_from, own_unknowns, valued, with_free, free_unknowns, question_names, value_texts, answer_values}
use Rattle.sessions.specs.TextLanguage.Output.{Names, ValueText, type_text}
use Rattle.coherence.proofs.ErasedTexts.{text-same}
use Rattle.coherence.proofs.TermVariables.{IsTerm, AreTermVariables}

-- ---- unknowns
none-same : (t : Trees) → same none (erase t) ≡ same none t
none-same none = refl
none-same (tree l c o) = refl

type-label : (i : ℕ) (l : Label) → same_label (infer of_type i) (erase_label l) ≡ same_label (infer of_type i) l
type-label i (param of_lifetime j) = refl
type-label i (placeholder of_lifetime j) = refl
type-label i (infer of_lifetime j) = refl
type-label i (canonical of_lifetime j) = refl
type-label i (bound of_lifetime j k) = refl
type-label i l = refl

const-label : (i : ℕ) (l : Label) → same_label (infer of_const i) (erase_label l) ≡ same_label (infer of_const i) l
const-label i (param of_lifetime j) = refl
const-label i (placeholder of_lifetime j) = refl
const-label i (infer of_lifetime j) = refl
const-label i (canonical of_lifetime j) = refl
const-label i (bound of_lifetime j k) = refl
const-label i l = refl

three : (x y z a b e : Bool) → x ≡ a → y ≡ b → z ≡ e → x && (y && z) ≡ a && (b && e)
three x y z a b e p q r = cc

type-own : (i : ℕ) (t : Trees) → same (leaf (infer of_type i)) (erase t) ≡ same (leaf (infer of_type i)) t
type-own i none = refl
type-own i (tree l c o) = three _ _ _ _ _ _ (type-label i l) (none-same c) (none-same o)

const-own : (i : ℕ) (t : Trees) → same (leaf (infer of_const i)) (erase t) ≡ same (leaf (infer of_const i)) t
const-own i none = refl
const-own i (tree l c o) = three _ _ _ _ _ _ (const-label i l) (none-same c) (none-same o)

-- ---- which variables have a value of their own
abbrev erased_pair : Variable × Trees → Variable × Trees
erased_pair p = (p.0, erase p.1)

one-more : (b e : Bool) → b ≡ e → (v : Variable) (t : Trees) (xs ys : List (Variable × Trees)) → xs ≡ map erased_pair ys
    → (if b then xs else (v, erase t) ∷ xs) ≡ map erased_pair (if e then ys else (v, t) ∷ ys)
one-more true true h v t xs ys g = g
one-more false false h v t xs ys g = ap (λ (zs : List (Variable × Trees)). (v, erase t) ∷ zs) g
one-more true false h v t xs ys g = absurd cc
one-more false true h v t xs ys g = absurd cc

abbrev IsSame : List Variable → List Trees → ℕ → ℕ → Type 0
IsSame vs ts t c = valued vs (own_from t c vs) (map erase ts) ≡ map erased_pair (valued vs (own_from t c vs) ts)

no-values : (v : Variable) (vs : List Variable) (t c : ℕ) → IsSame (v ∷ vs) [] t c
no-values v vs t c = by v.kind refl
  where
    by : (k : Sort) → v.kind ≡ k → IsSame (v ∷ vs) [] t c
    by of_type e = rw e refl
    by of_const e = rw e refl
    by of_lifetime e = rw e refl

abbrev variable : List ℕ → Sort → Variable
variable n k = record { text = n; kind = k }

value-more : (n : List ℕ) (k : Sort) (vs : List Variable) (t c : ℕ) (x : Trees) (xs : List Trees) → IsTerm k → ((a b : ℕ) → IsSame vs xs a b) → IsSame (variable n k ∷ vs) (x ∷ xs) t c
value-more n of_type vs t c x xs i f = one-more _ _ (type-own t x) (variable n of_type) x _ _ (f (suc t) c)
value-more n of_const vs t c x xs i f = one-more _ _ (const-own c x) (variable n of_const) x _ _ (f t (suc c))
value-more n of_lifetime vs t c x xs i f = absurd i

valued-same : (vs : List Variable) (ts : List Trees) → AreTermVariables vs → (t c : ℕ) → IsSame vs ts t c
valued-same [] ts h t c = refl
valued-same (v ∷ vs) [] h t c = no-values v vs t c
valued-same (v ∷ vs) (x ∷ xs) h t c = value-more v.text v.kind vs t c x xs h.0 (valued-same vs xs h.1)

-- ---- the other unknowns
same-if : (b : Bool) (us : List (Sort × ℕ)) → (if b then us else us) ≡ us
same-if true us = refl
same-if false us = refl

-- the lifetime of a `dyn` type
last-made : (l : Label) (c o : Trees) → (is_in_range l && (is_sort (sort_of l) of_lifetime && (is_no_tree c && is_no_tree o))) ≡ true → (is_sort (sort_of l) of_lifetime ≡ true) × (c ≡ none) × (o ≡ none)
last-made l c o h =
    let a = right (is_in_range l) (is_sort (sort_of l) of_lifetime && (is_no_tree c && is_no_tree o)) h in
    let b = right (is_sort (sort_of l) of_lifetime) (is_no_tree c && is_no_tree o) a in
    (left (is_sort (sort_of l) of_lifetime) (is_no_tree c && is_no_tree o) a, no-tree c (left (is_no_tree c) (is_no_tree o) b), no-tree o (right (is_no_tree c) (is_no_tree o) b))

abbrev AllMade : List Trees → Type 0
AllMade [] = Unit {0}
AllMade (t ∷ ts) = (is_made is_in_range terms t ≡ true) × AllMade ts

abbrev PairsMade : List (Variable × Trees) → Type 0
PairsMade [] = Unit {0}
PairsMade (p ∷ ps) = (is_made is_in_range terms p.1 ≡ true) × PairsMade ps

made-if : (b : Bool) (v : Variable) (t : Trees) (ps : List (Variable × Trees)) → is_made is_in_range terms t ≡ true → PairsMade ps → PairsMade (if b then ps else (v, t) ∷ ps)
made-if true v t ps m h = h
made-if false v t ps m h = (m, h)

valued-made : (vs : List Variable) (us ts : List Trees) → AllMade ts → PairsMade (valued vs us ts)
valued-made [] us ts h = tt
valued-made (v ∷ vs) [] ts h = tt
valued-made (v ∷ vs) (u ∷ us) [] h = tt
valued-made (v ∷ vs) (u ∷ us) (t ∷ ts) h = made-if (same u t) v t (valued vs us ts) h.0 (valued-made vs us ts h.1)

module _ (q : Question) where
  lifetime-leaf : (l : Label) → is_sort (sort_of l) of_lifetime ≡ true → (us : List (Sort × ℕ)) → with_free q (erase (leaf l)) us ≡ with_free q (leaf l) us
  lifetime-leaf (infer of_lifetime i) h us = sym (same-if (nat_lt i (length (variables_of_kind of_lifetime q.variables))) us)
  lifetime-leaf (infer of_type i) h us = absurd (false-true h)
  lifetime-leaf (infer of_const i) h us = absurd (false-true h)
  lifetime-leaf (param of_lifetime i) h us = refl
  lifetime-leaf (placeholder of_lifetime i) h us = refl
  lifetime-leaf (canonical of_lifetime i) h us = refl
  lifetime-leaf (bound of_lifetime i j) h us = refl
  lifetime-leaf l h us = refl

  last-same : (l : Label) (c o : Trees) → is_sort (sort_of l) of_lifetime ≡ true → c ≡ none → o ≡ none → (us : List (Sort × ℕ)) → with_free q (erase (tree l c o)) us ≡ with_free q (tree l c o) us
  last-same l c o h p r us = rw p (rw r (lifetime-leaf l h us))

  mutual
    free-terms : (t : Trees) → is_made is_in_range terms t ≡ true → (us : List (Sort × ℕ)) → with_free q (erase t) us ≡ with_free q t us
    free-terms none m us = refl
    free-terms (tree (infer of_lifetime i) c o) m us =
        let x = made-ordinary is_in_range (infer of_lifetime i) c o refl m in
        let e : c ≡ none = no-tree c x.1 in
        let leaves : with_free q (erase c) us ≡ us = ap (λ (z : Trees). with_free q (erase z) us) e in
        ap (with_free q (erase o)) (leaves ∙ sym (same-if (nat_lt i (length (variables_of_kind of_lifetime q.variables))) us)) ∙ free-terms o x.3 _
    free-terms (tree (infer of_type i) c o) m us = free-terms o (made-ordinary is_in_range (infer of_type i) c o refl m).3 _
    free-terms (tree (infer of_const i) c o) m us = free-terms o (made-ordinary is_in_range (infer of_const i) c o refl m).3 _
    free-terms (tree dynamic c o) m us =
        ap (with_free q (erase o)) (free-bounds c (left (is_made is_in_range bounds c) _ m) us) ∙ free-terms o (right (is_made is_in_range bounds c) _ m) _
    free-terms (tree (principal n t) c o) m us = absurd (false-true m)
    free-terms (tree (auto_trait i) c o) m us = absurd (false-true m)
    free-terms (tree (predicate k) c o) m us = absurd (false-true m)
    free-terms (tree (param of_lifetime i) c o) m us = let x = made-ordinary is_in_range (param of_lifetime i) c o refl m in ap (with_free q (erase o)) (free-terms c x.2 us) ∙ free-terms o x.3 _
    free-terms (tree (placeholder of_lifetime i) c o) m us = let x = made-ordinary is_in_range (placeholder of_lifetime i) c o refl m in ap (with_free q (erase o)) (free-terms c x.2 us) ∙ free-terms o x.3 _
    free-terms (tree (canonical of_lifetime i) c o) m us = let x = made-ordinary is_in_range (canonical of_lifetime i) c o refl m in ap (with_free q (erase o)) (free-terms c x.2 us) ∙ free-terms o x.3 _
    free-terms (tree (bound of_lifetime i j) c o) m us = let x = made-ordinary is_in_range (bound of_lifetime i j) c o refl m in ap (with_free q (erase o)) (free-terms c x.2 us) ∙ free-terms o x.3 _
    free-terms (tree l c o) m us = let x = made-ordinary is_in_range l c o refl m in ap (with_free q (erase o)) (free-terms c x.2 us) ∙ free-terms o x.3 _

    free-bounds : (t : Trees) → is_made is_in_range bounds t ≡ true → (us : List (Sort × ℕ)) → with_free q (erase t) us ≡ with_free q t us
    free-bounds none m us = refl
    free-bounds (tree (principal n t) c o) m us =
        ap (with_free q (erase o)) (free-terms c (left (is_made is_in_range terms c) _ m) us) ∙ free-traits o (right (is_made is_in_range terms c) _ m) _
    free-bounds (tree (auto_trait i) c o) m us =
        let e : c ≡ none = no-tree c (left (is_no_tree c) _ m) in
        ap (with_free q (erase o)) (ap (λ (z : Trees). with_free q (erase z) us) e ∙ sym (ap (λ (z : Trees). with_free q z us) e)) ∙ free-traits o (right (is_no_tree c) _ m) _
    free-bounds (tree (predicate k) c o) m us = absurd (false-true m)
    free-bounds (tree l c o) m us =
        let x = last-made l c o m in
        last-same l c o x.0 x.1 x.2 us

    free-traits : (t : Trees) → is_made is_in_range traits t ≡ true → (us : List (Sort × ℕ)) → with_free q (erase t) us ≡ with_free q t us
    free-traits none m us = refl
    free-traits (tree (auto_trait i) c o) m us =
        let e : c ≡ none = no-tree c (left (is_no_tree c) _ m) in
        ap (with_free q (erase o)) (ap (λ (z : Trees). with_free q (erase z) us) e ∙ sym (ap (λ (z : Trees). with_free q z us) e)) ∙ free-traits o (right (is_no_tree c) _ m) _
    free-traits (tree (predicate k) c o) m us = absurd (false-true m)
    free-traits (tree l c o) m us =
        let x = last-made l c o m in
        last-same l c o x.0 x.1 x.2 us

  free-pairs : (ps : List (Variable × Trees)) → PairsMade ps → (us : List (Sort × ℕ)) → free_unknowns q (map erased_pair ps) us ≡ free_unknowns q ps us
  free-pairs [] h us = refl
  free-pairs (p ∷ ps) h us = ap (free_unknowns q (map erased_pair ps)) (free-terms p.1 h.0 us) ∙ free-pairs ps h.1 _

abbrev text_of : Names → Variable × Trees → ValueText
text_of N v = record { variable = v.0.text; term = type_text N v.1 }

texts-same : (N : Names) (ps : List (Variable × Trees)) → map (text_of N) (map erased_pair ps) ≡ map (text_of N) ps
texts-same N [] = refl
texts-same N (p ∷ ps) = two _ _ _ _ (ap (λ (t : List ℕ). (let v : ValueText = record { variable = p.0.text; term = t } in v)) (text-same N p.1)) (texts-same N ps)
  where
    two : (x y : ValueText) (xs ys : List ValueText) → x ≡ y → xs ≡ ys → x ∷ xs ≡ y ∷ ys
    two x y xs ys p q = cc

pairs-same : (d : Declarations) (q : Question) (ps : List (Variable × Trees)) → PairsMade ps → value_texts d q (map erased_pair ps) ≡ value_texts d q ps
pairs-same d q ps h =
    ap (λ (us : List (Sort × ℕ)). map (text_of (question_names d q us)) (map erased_pair ps)) (free-pairs q ps h []) ∙ texts-same (question_names d q (free_unknowns q ps [])) ps

trees-made : (es : List Entry) (law : Lawful es) (vs : List GenericArgKind) → ArgsHeld es vs → AllMade (map (arg_trees es) vs)
trees-made es law [] h = tt
trees-made es law (v ∷ vs) h = (arg-made es law.made v h.0, trees-made es law vs h.1)

erased-map : (es : List Entry) (vs : List GenericArgKind) → map (λ v. erase (arg_trees es v)) vs ≡ map erase (map (arg_trees es) vs)
erased-map es [] = refl
erased-map es (v ∷ vs) = ap (λ (ts : List Trees). erase (arg_trees es v) ∷ ts) (erased-map es vs)

pub values-same : (d : Declarations) (q : Question) (es : List Entry) (vs : List GenericArgKind) → Lawful es → ArgsHeld es vs → AreTermVariables q.variables
    → answer_values d q (map (λ v. erase (arg_trees es v)) vs) ≡ answer_values d q (map (arg_trees es) vs)
values-same d q es vs law held kinds =
    let ts = map (arg_trees es) vs in
    ap (answer_values d q) (erased-map es vs) ∙ ap (value_texts d q) (valued-same q.variables ts kinds 0 0)
    ∙ pairs-same d q (valued q.variables (own_unknowns q) ts) (valued-made q.variables (own_unknowns q) ts (trees-made es law vs held))
