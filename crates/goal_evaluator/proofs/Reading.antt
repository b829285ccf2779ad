-- Terms in place of open leaves: how readings commute with other operations.
use Rattle.std.proofs.Common.{◌≡◌, ℕ, Bool, true, false, List, [], ◌∷◌, map, refl, sym, ◌∙◌, ap, subst, Option, Some, None, if◌then◌else◌, is_some}
use Rattle.type_terms.specs.Promised.Label.{Label, Sort, of_type, of_const, of_lifetime, infer, param, placeholder, canonical, bound, static}
use Rattle.type_terms.specs.Promised.Trees.{Trees, none, tree, leaf, ◌+++◌, erase_label, sort_of, is_sort}
use Rattle.type_terms.specs.Trees.{put_at_node}
pub use Rattle.type_terms.proofs.TreeLaws.{append-none, append-assoc}
use Rattle.infer_table.specs.Canonical.{OpenKinds, relabeled}
use Rattle.infer_table.specs.Solutions.{Assignment, Binding, tree_of, replace, is_same_variable}
use Rattle.infer_table.proofs.SolutionLaws.{is_variable-equal}
use Rattle.type_terms.proofs.Made.{false-true}
use Rattle.goal_evaluator.specs.Lists.{Every}
use Rattle.goal_evaluator.specs.Instances.{read_with, put_in, as_place, term_at}
use Rattle.goal_evaluator.specs.Content.{Values, ChosenTerms, standing, reading_of, UnknownStands}
use Rattle.type_terms.proofs.ListBasics.{cons}

pub read-append : (s : Label → Option Trees) (x y : Trees) → read_with s (x +++ y) ≡ read_with s x +++ read_with s y
read-append s none y = refl
read-append s (tree l c o) y =
    ap (λ z. put_at_node (s l) (tree (erase_label l) (read_with s c) none) +++ z) (read-append s o y)
    ∙ sym (append-assoc (put_at_node (s l) (tree (erase_label l) (read_with s c) none)) (read_with s o) (read_with s y))

-- a leaf that stands for a term
pub read-leaf : (s : Label → Option Trees) (l : Label) (x : Trees) → s l ≡ Some x → read_with s (leaf l) ≡ x
read-leaf s l x e = ap (λ z. put_at_node z (tree (erase_label l) none none) +++ none) e ∙ append-none x

-- lifetimes are read as one
pub lifetime-stands : (s : ChosenTerms) (l : Label) → is_sort (sort_of l) of_lifetime ≡ true → standing s l ≡ Some (leaf static)
lifetime-stands s (param of_lifetime i) h = refl
lifetime-stands s (placeholder of_lifetime i) h = refl
lifetime-stands s (infer of_lifetime i) h = refl
lifetime-stands s (canonical of_lifetime i) h = refl
lifetime-stands s (bound of_lifetime i j) h = refl
lifetime-stands s static h = refl
lifetime-stands s l h = absurd (false-true h)

pub read-lifetime : (s : ChosenTerms) (l : Label) (c : Trees) → is_sort (sort_of l) of_lifetime ≡ true → read_with (standing s) (tree l c none) ≡ leaf static
read-lifetime s l c h = ap (λ z. put_at_node z (tree (erase_label l) (read_with (standing s) c) none) +++ none) (lifetime-stands s l h)

-- ---- replacing a variable by what it stands for
replace-at : (s : Label → Option Trees) (k : Sort) (v : ℕ) (r : Trees) (j : Sort) (w : ℕ) (c o o' : Trees) (b : Bool)
    → is_same_variable j w k v ≡ b → s (infer k v) ≡ Some (read_with s r) → read_with s o' ≡ read_with s o
    → read_with s (if b then r +++ o' else tree (infer j w) c o') ≡ read_with s (tree (infer j w) c o)
replace-at s k v r j w c o o' true e h i =
    let same = is_variable-equal j k w v e in
    let here : s (infer j w) ≡ Some (read_with s r) = ap (λ z. s (infer z w)) same.0 ∙ ap (λ z. s (infer k z)) same.1 ∙ h in
    read-append s r o' ∙ ap (λ z. read_with s r +++ z) i ∙ ap (λ z. put_at_node z (tree (erase_label (infer j w)) (read_with s c) none) +++ read_with s o) (sym here)
replace-at s k v r j w c o o' false e h i = ap (λ z. put_at_node (s (infer j w)) (tree (erase_label (infer j w)) (read_with s c) none) +++ z) i

node-at : (s : Label → Option Trees) (l : Label) (c o c' o' : Trees) → read_with s c' ≡ read_with s c → read_with s o' ≡ read_with s o
    → read_with s (tree l c' o') ≡ read_with s (tree l c o)
node-at s l c o c' o' p q =
    ap (λ z. put_at_node (s l) (tree (erase_label l) z none) +++ read_with s o') p
    ∙ ap (λ z. put_at_node (s l) (tree (erase_label l) (read_with s c) none) +++ z) q

pub read-replace : (s : Label → Option Trees) (k : Sort) (v : ℕ) (r : Trees) → s (infer k v) ≡ Some (read_with s r)
    → (t : Trees) → read_with s (replace k v r t) ≡ read_with s t
read-replace s k v r h none = refl
read-replace s k v r h (tree (infer j w) c o) = replace-at s k v r j w c o (replace k v r o) (is_same_variable j w k v) refl h (read-replace s k v r h o)
read-replace s k v r h (tree l c o) = node-at s l c o (replace k v r c) (replace k v r o) (read-replace s k v r h c) (read-replace s k v r h o)

-- ---- labels in the place of others
abbrev pub EachLabel : (Label → Type 0) → Trees → Type 0
EachLabel P none = Unit {0}
EachLabel P (tree l c o) = P l × EachLabel P c × EachLabel P o

-- what stands for the second label is what stands for the first one, and where nothing does both erase to one label
pub record Carries (q s : Label → Option Trees) (l m : Label) : Type 0 where
  pub stands : q m ≡ s l
  pub erased : s l ≡ None → erase_label m ≡ erase_label l

pub carried-at : (q s : Label → Option Trees) (l m : Label) (c d o p : Trees) (x : Option Trees) → s l ≡ x → Carries q s l m → d ≡ c → p ≡ o
    → put_at_node (q m) (tree (erase_label m) d none) +++ p ≡ put_at_node (s l) (tree (erase_label l) c none) +++ o
carried-at q s l m c d o p None e k a b =
    ap (λ z. put_at_node z (tree (erase_label m) d none) +++ p) (k.stands ∙ e)
    ∙ ap (λ z. tree z d p) (k.erased e) ∙ ap (λ z. tree (erase_label l) z p) a ∙ ap (λ z. tree (erase_label l) c z) b
    ∙ ap (λ z. put_at_node z (tree (erase_label l) c none) +++ o) (sym e)
carried-at q s l m c d o p (Some x) e k a b =
    ap (λ z. put_at_node z (tree (erase_label m) d none) +++ p) (k.stands ∙ e)
    ∙ ap (λ z. x +++ z) b
    ∙ ap (λ z. put_at_node z (tree (erase_label l) c none) +++ o) (sym e)

pub read-relabeled : (q s : Label → Option Trees) (kind : OpenKinds) (f : Label → Label) (t : Trees)
    → EachLabel (λ l. Carries q s l (if is_some (kind l) then f l else l)) t → read_with q (relabeled kind f t) ≡ read_with s t
read-relabeled q s kind f none h = refl
read-relabeled q s kind f (tree l c o) h =
    carried-at q s l (if is_some (kind l) then f l else l) (read_with s c) (read_with q (relabeled kind f c)) (read_with s o) (read_with q (relabeled kind f o)) (s l) refl h.0
    (read-relabeled q s kind f c h.1) (read-relabeled q s kind f o h.2)

-- ---- terms put in
-- what is put in for the label is read as what stands for it
abbrev pub IsPutIn : (q s : Label → Option Trees) → Label → Option Trees → Type 0
IsPutIn q s l None = q l ≡ s l
IsPutIn q s l (Some r) = s l ≡ Some (read_with q r)

pub put-at : (q s : Label → Option Trees) (l : Label) (c d o p : Trees) (x : Option Trees) → IsPutIn q s l x → read_with q d ≡ read_with s c → read_with q p ≡ read_with s o
    → read_with q (put_at_node x (tree l d none) +++ p) ≡ put_at_node (s l) (tree (erase_label l) (read_with s c) none) +++ read_with s o
put-at q s l c d o p None h a b =
    ap (λ z. put_at_node (q l) (tree (erase_label l) z none) +++ read_with q p) a
    ∙ ap (λ z. put_at_node z (tree (erase_label l) (read_with s c) none) +++ read_with q p) h
    ∙ ap (λ z. put_at_node (s l) (tree (erase_label l) (read_with s c) none) +++ z) b
put-at q s l c d o p (Some r) h a b =
    read-append q r p ∙ ap (λ z. read_with q r +++ z) b
    ∙ ap (λ z. put_at_node z (tree (erase_label l) (read_with s c) none) +++ read_with s o) (sym h)

pub read-put : (q s : Label → Option Trees) (put : Label → Option Trees) → ((l : Label) → IsPutIn q s l (put l))
    → (t : Trees) → read_with q (put_in put t) ≡ read_with s t
read-put q s put h none = refl
read-put q s put h (tree l c o) = put-at q s l c (put_in put c) o (put_in put o) (put l) (h l) (read-put q s put h c) (read-put q s put h o)

-- ---- reading looks at the own values and the unknowns alone
-- if the label is an unknown, both give it one term
abbrev pub GiveOne : Assignment → Assignment → Label → Type 0
GiveOne u w (infer of_type v) = u of_type v ≡ w of_type v
GiveOne u w (infer of_const v) = u of_const v ≡ w of_const v
GiveOne u w l = Unit {0}

pub same-standing : (a b : ChosenTerms) → a.own ≡ b.own → (l : Label) → GiveOne a.unknowns b.unknowns l → standing a l ≡ standing b l
same-standing a b e (infer of_type v) f = ap (λ z. Some (tree_of z)) f
same-standing a b e (infer of_const v) f = ap (λ z. Some (tree_of z)) f
same-standing a b e (infer of_lifetime v) f = refl
same-standing a b e (placeholder of_type i) f = ap (λ (o : Values). Some (as_place of_type (term_at o.terms i))) e
same-standing a b e (placeholder of_const i) f = ap (λ (o : Values). Some (as_place of_const (term_at o.terms i))) e
same-standing a b e (placeholder of_lifetime i) f = refl
same-standing a b e (param of_type i) f = refl
same-standing a b e (param of_const i) f = refl
same-standing a b e (param of_lifetime i) f = refl
same-standing a b e (canonical of_type i) f = refl
same-standing a b e (canonical of_const i) f = refl
same-standing a b e (canonical of_lifetime i) f = refl
same-standing a b e (bound of_type i j) f = refl
same-standing a b e (bound of_const i j) f = refl
same-standing a b e (bound of_lifetime i j) f = refl
same-standing a b e l f = refl

pub same-read : (a b : ChosenTerms) → a.own ≡ b.own → (x : Trees) → EachLabel (GiveOne a.unknowns b.unknowns) x → read_with (standing a) x ≡ read_with (standing b) x
same-read a b e none h = refl
same-read a b e (tree l c o) h =
    ap (λ z. put_at_node z (tree (erase_label l) (read_with (standing a) c) none) +++ read_with (standing a) o) (same-standing a b e l h.0)
    ∙ ap (λ z. put_at_node (standing b l) (tree (erase_label l) z none) +++ read_with (standing a) o) (same-read a b e c h.1)
    ∙ ap (λ z. put_at_node (standing b l) (tree (erase_label l) (read_with (standing b) c) none) +++ z) (same-read a b e o h.2)

-- the same assignment gives each one term
give-one : (u w : Assignment) → u ≡ w → (l : Label) → GiveOne u w l
give-one u w e l = subst (λ x. GiveOne u x l) e (by l)
  where
    by : (l : Label) → GiveOne u u l
    by (infer of_type v) = refl
    by (infer of_const v) = refl
    by l = tt

give-each : (u w : Assignment) → u ≡ w → (x : Trees) → EachLabel (GiveOne u w) x
give-each u w e none = tt
give-each u w e (tree l c o) = (give-one u w e l, give-each u w e c, give-each u w e o)

pub reads-same : (a b : ChosenTerms) → a.own ≡ b.own → a.unknowns ≡ b.unknowns → (x : Trees) → read_with (standing a) x ≡ read_with (standing b) x
reads-same a b e f x = same-read a b e x (give-each a.unknowns b.unknowns f x)

pub same-map : (a b : ChosenTerms) → a.own ≡ b.own → a.unknowns ≡ b.unknowns → (ls : List Label) → map (reading_of a) ls ≡ map (reading_of b) ls
same-map a b e f [] = refl
same-map a b e f (l ∷ ls) = cons _ _ _ _ (reads-same a b e f (leaf l)) (same-map a b e f ls)

pub same-hold : (a b : ChosenTerms) → a.own ≡ b.own → a.unknowns ≡ b.unknowns → (bs : List Binding) → Every (UnknownStands a) bs → Every (UnknownStands b) bs
same-hold a b e f [] h = tt
same-hold a b e f (x ∷ bs) h = (sym (ap (λ (u : Assignment). tree_of (u x.sort x.var)) f) ∙ h.0 ∙ reads-same a b e f x.value, same-hold a b e f bs h.1)
