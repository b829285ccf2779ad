-- What visits are made of.
use Rattle.std.proofs.Common.{◌≡◌, ℕ, zero, suc, ◌<◌, List, [], ◌∷◌, ◌++◌, length, take, get_or, refl, ap, sym, ◌∙◌, arith, Option, Some, None, subst, append_assoc}
use Rattle.type_terms.specs.Promised.Label.{Label, principal}
use Rattle.type_terms.specs.Promised.Trees.{Trees, none, tree, ◌+++◌, leaf}
use Rattle.type_terms.specs.Trees.{Single}
use Rattle.type_terms.proofs.TreeLaws.{append-assoc}
use Rattle.type_terms.specs.Promised.Handles.{Entry, trees_at}
use Rattle.type_terms.specs.Kinds.{tys_trees, args_trees, autos_trees}
use Rattle.type_terms.specs.Promised.Handles.{arg_trees}
use Rattle.type_terms.specs.declared.kinds.Ty as of_ty
use Rattle.type_terms.specs.declared.kinds.GenericArgKind.{GenericArgKind}
use Rattle.type_terms.specs.declared.TraitId.{TraitId}
use Rattle.type_terms.specs.declared.visit.Seen.{Seen}
use Rattle.type_terms.specs.declared.visit.Seen.TheVariants.{Break, Enter, Pass}
use Rattle.type_terms.specs.Visits.{IsBound, Visits, ended, passed, broken, entered, broken_below, VisitsBelow, below, VisitsEach, ended_each, next_each, broken_each}
use Rattle.type_terms.specs.Pieces.{Piece, one_piece, under}

-- one visit after the other
pub visits-append : {V B : Type 0} {sees : List ℕ → Trees → V → V → Seen B → Type 0} {bs : List ℕ} {x : Trees} {u v : V} {q : Option B} → Visits sees bs x u v q
    → q ≡ None → {y : Trees} {w : V} {r : Option B} → Visits sees bs y v w r → Visits sees bs (x +++ y) u w r
visits-append ended n b = b
visits-append (passed s o) n b = passed s (visits-append o n b)
visits-append (broken s) n b = cc
visits-append (entered s a o) n b = entered s a (visits-append o n b)
visits-append (broken_below s a) n b = cc

-- nothing is visited after a break
pub visits-broken : {V B : Type 0} {sees : List ℕ → Trees → V → V → Seen B → Type 0} {bs : List ℕ} {x : Trees} {u v : V} {q : Option B} → Visits sees bs x u v q
    → {b : B} → q ≡ Some b → (y : Trees) → Visits sees bs (x +++ y) u v (Some b)
visits-broken ended e y = cc
visits-broken (passed s o) e y = passed s (visits-broken o e y)
visits-broken {sees = sees} {bs = bs} (broken {l = l} {c = c} {o = o} {v = v} {w = w} {b = b} s) {b = b'} e y =
    let p : b ≡ b' = cc in subst (λ z. Visits sees bs (tree l c (o +++ y)) v w (Some z)) p (broken s)
visits-broken (entered s a o) e y = entered s a (visits-broken o e y)
visits-broken {sees = sees} {bs = bs} (broken_below {l = l} {c = c} {o = o} {v = v} {w = w} {b = b} s a) {b = b'} e y =
    let p : b ≡ b' = cc in subst (λ z. Visits sees bs (tree l c (o +++ y)) v w (Some z)) p (broken_below s a)

module _ {V B : Type 0} (sees : List ℕ → Trees → V → V → Seen B → Type 0) (bs : List ℕ) where
  pub break-at : (t : Trees) (v w : V) (b : B) → Single t → sees bs t v w (Break b) → Visits sees bs t v w (Some b)
  break-at none v w b s h = absurd s
  break-at (tree l c o) v w b s h = broken (subst (λ z. sees bs (tree l c z) v w (Break b)) s h)

  pub pass-at : (t : Trees) (v w : V) → Single t → sees bs t v w Pass → Visits sees bs t v w None
  pass-at none v w s h = absurd s
  pass-at (tree l c o) v w s h =
      subst (λ z. Visits sees bs (tree l c z) v w None) (sym s) (passed (subst (λ z. sees bs (tree l c z) v w Pass) s h) ended)

  pub enter-leaf : (l : Label) (v w : V) → sees bs (leaf l) v w Enter → Visits sees bs (leaf l) v w None
  enter-leaf l v w h = entered h ended ended

  pub enter-below : (t : Trees) (u v w : V) (r : Option B) → sees bs t u v Enter → VisitsBelow sees bs t v w r → Visits sees bs t u w r
  enter-below t u v w None h (below a) = entered h a ended
  enter-below t u v w (Some b) h (below a) = broken_below h a

  -- auto traits are entered, and have nothing below
  pub autos-visited : (v : V) → ((t : Trees) → IsBound t → sees bs t v v Enter) → (xs : List TraitId) → Visits sees bs (autos_trees xs) v v None
  autos-visited v law [] = ended
  autos-visited v law (x ∷ xs) = entered (law _ tt) ended (autos-visited v law xs)

-- bounds with a principal trait, whose arguments are visited under its binder
pub bounds-visited : {V B : Type 0} (sees : List ℕ → Trees → V → V → Seen B → Type 0) (bs : List ℕ) (n d : ℕ) (c autos : Trees) (u w : V) (r : Option B)
    → ((v : V) (t : Trees) → IsBound t → sees bs t v v Enter) → Visits sees bs autos w w None → Visits sees (n ∷ bs) c u w r → Visits sees bs (tree (principal n d) c none +++ autos) u w r
bounds-visited sees bs n d c autos u w None law a h = entered (law u _ tt) h a
bounds-visited sees bs n d c autos u w (Some b) law a h = broken_below (law u _ tt) h

-- a list cut at an item
pub tys-cut : (es : List Entry) (xs : List of_ty.Ty) (i : ℕ) (d : of_ty.Ty) → i < length xs
    → (rest : Trees) × (tys_trees es xs ≡ (tys_trees es (take i xs) +++ trees_at es (get_or xs i d).0) +++ rest)
tys-cut es [] i d h = absurd (omega arith)
tys-cut es (x ∷ xs) zero d h = (tys_trees es xs, refl)
tys-cut es (x ∷ xs) (suc i) d h =
    let r = tys-cut es xs i d (omega arith) in
    (r.0, ap (λ z. trees_at es x.0 +++ z) r.1 ∙ regroup (trees_at es x.0) (tys_trees es (take i xs)) (trees_at es (get_or xs i d).0) r.0)
  where
    regroup : (a b c e : Trees) → a +++ ((b +++ c) +++ e) ≡ ((a +++ b) +++ c) +++ e
    regroup a b c e = sym (ap (λ z. z +++ e) (append-assoc a b c) ∙ append-assoc a (b +++ c) e)

pub args-cut : (es : List Entry) (xs : List GenericArgKind) (i : ℕ) (d : GenericArgKind) → i < length xs
    → (rest : Trees) × (args_trees es xs ≡ (args_trees es (take i xs) +++ arg_trees es (get_or xs i d)) +++ rest)
args-cut es [] i d h = absurd (omega arith)
args-cut es (x ∷ xs) zero d h = (args_trees es xs, refl)
args-cut es (x ∷ xs) (suc i) d h =
    let r = args-cut es xs i d (omega arith) in
    (r.0, ap (λ z. arg_trees es x +++ z) r.1 ∙ regroup (arg_trees es x) (args_trees es (take i xs)) (arg_trees es (get_or xs i d)) r.0)
  where
    regroup : (a b c e : Trees) → a +++ ((b +++ c) +++ e) ≡ ((a +++ b) +++ c) +++ e
    regroup a b c e = sym (ap (λ z. z +++ e) (append-assoc a b c) ∙ append-assoc a (b +++ c) e)

-- ---- values
pub visits-one : {V B : Type 0} {sees : List ℕ → Trees → V → V → Seen B → Type 0} {bs : List ℕ} {t : Trees} {v w : V} {r : Option B} → Visits sees bs t v w r → VisitsEach sees bs (one_piece t) v w r
visits-one {r = None} h = next_each h ended_each
visits-one {r = Some b} h = broken_each h

pub visits-both : {V B : Type 0} {sees : List ℕ → Trees → V → V → Seen B → Type 0} {bs : List ℕ} {ps qs : List Piece} {u v w : V} {q r : Option B} → VisitsEach sees bs ps u v q → q ≡ None
    → VisitsEach sees bs qs v w r → VisitsEach sees bs (ps ++ qs) u w r
visits-both ended_each e b = b
visits-both (next_each a h) e b = next_each a (visits-both h e b)
visits-both (broken_each a) e b = cc

pub visits-stop : {V B : Type 0} {sees : List ℕ → Trees → V → V → Seen B → Type 0} {bs : List ℕ} {ps : List Piece} {u v : V} {q : Option B} → VisitsEach sees bs ps u v q → {b : B} → q ≡ Some b
    → (qs : List Piece) → VisitsEach sees bs (ps ++ qs) u v (Some b)
visits-stop ended_each e qs = cc
visits-stop (next_each a h) e qs = next_each a (visits-stop h e qs)
visits-stop {sees = sees} {bs = bs} {u = u} {v = v} (broken_each {p = p} {ps = ps} {b = b} a) {b = b'} e qs =
    let same : b ≡ b' = cc in subst (λ z. VisitsEach sees bs (p ∷ ps ++ qs) u v (Some z)) same (broken_each a)

pub visits-under : {V B : Type 0} {sees : List ℕ → Trees → V → V → Seen B → Type 0} {bs : List ℕ} (n : ℕ) {ps : List Piece} {u v : V} {r : Option B} → VisitsEach sees (n ∷ bs) ps u v r → VisitsEach sees bs (under n ps) u v r
visits-under n ended_each = ended_each
visits-under {sees = sees} {bs = bs} n (next_each {p = p} {v = v} {w = w} a h) = next_each (subst (λ c. Visits sees c p.trees v w None) (sym (append_assoc p.counts (n ∷ []) bs)) a) (visits-under n h)
visits-under {sees = sees} {bs = bs} n (broken_each {p = p} {v = v} {w = w} {b = b} a) = broken_each (subst (λ c. Visits sees c p.trees v w (Some b)) (sym (append_assoc p.counts (n ∷ []) bs)) a)
