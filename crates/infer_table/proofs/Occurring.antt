-- The search for a variable: each step leaves what is still to be looked at.
use Rattle.std.proofs.Common.{◌≡◌, ℕ, ◌+◌, ◌<◌, ◌≤◌, Bool, true, false, refl, ap, sym, ◌∙◌, arith, List, [], ◌∷◌, ◌++◌, subst, nat_eq, inl, inr, ◌||◌, length, get_or, take}
use Rattle.std.specs.Prelude.{◌⊎◌}
use Rattle.std.specs.HashSet.{contains}
use Rattle.type_terms.specs.Promised.Label.{of_type, Sort}
use Rattle.type_terms.specs.Promised.Trees.{Trees, none, ◌+++◌}
use Rattle.type_terms.specs.Promised.Handles.{Entry, Has, types, trees_at, Is}
use Rattle.type_terms.specs.Terms.{Lawful}
use Rattle.type_terms.specs.declared.kinds.Ty.{Ty}
use Rattle.type_terms.specs.declared.entered.Entered.{Entered}
use Rattle.infer_table.specs.Solutions.{Binding, resolved, occurs, size, AllValued}
use Rattle.infer_table.specs.Content.{IsProper, AreOlder}
use Rattle.infer_table.specs.Occurring.{IsWithout, AreTypes, AreWithout, StandIn, weight, Pushes, LooksAt}
use Rattle.infer_table.proofs.SolutionLaws.{occurs-append, resolved-append, resolved-none, size-append}
use Rattle.infer_table.proofs.ResolveFacts.{proper-append, region-proper, kind-proper}
use Rattle.infer_table.proofs.ContentFacts.{is-trees}
use Rattle.infer_table.proofs.EquationFacts.{arg-single}
use Rattle.infer_table.proofs.OccurFacts.{filled, rigid-kind, region-occurs}
use Rattle.infer_table.proofs.PartFacts.{parts-size, parts-occurs}
use Rattle.type_terms.proofs.Items.{take-push, args-push}
use Rattle.type_terms.specs.Promised.Handles.{arg_trees}
use Rattle.type_terms.specs.Kinds.{args_trees, kind_trees}
use Rattle.type_terms.specs.declared.region.Region.{Region}
use Rattle.type_terms.specs.declared.number.TyVid.{TyVid}
use Rattle.type_terms.specs.declared.kinds.TyKind.{TyKind}
use Rattle.type_terms.specs.declared.kinds.TyKind.TheVariants.{Infer as KInfer}
use Rattle.type_terms.specs.declared.kinds.GenericArgKind.{GenericArgKind}
use Rattle.type_terms.specs.declared.kinds.GenericArgKind.TheVariants.{Lifetime, Ty as AType}
use Rattle.infer_table.specs.Parts.{HasBounds, parts_trees}
use Rattle.type_terms.proofs.BooleanBasics.{or-right as right-of}

module _ (es : List Entry) (bs : List Binding) (v : ℕ) where
  abbrev Stands : Trees → Type 0
  Stands t = occurs of_type v (resolved bs t) ≡ true

  abbrev Lacks : Ty → Type 0
  Lacks x = IsWithout bs v (trees_at es x.0)

  abbrev nodes : ℕ → ℕ
  nodes i = size (resolved bs (trees_at es i))

  -- ---- lists one behind the other
  types-append : (xs ys : List Ty) → AreTypes es xs → AreTypes es ys → AreTypes es (xs ++ ys)
  types-append [] ys h g = g
  types-append (x ∷ xs) ys h g = (h.0, types-append xs ys h.1 g)

  types-first : (xs ys : List Ty) → AreTypes es (xs ++ ys) → AreTypes es xs
  types-first [] ys h = tt
  types-first (x ∷ xs) ys h = (h.0, types-first xs ys h.1)

  types-last : (xs ys : List Ty) → AreTypes es (xs ++ ys) → AreTypes es ys
  types-last [] ys h = h
  types-last (x ∷ xs) ys h = types-last xs ys h.1

  without-append : (xs ys : List Ty) → AreWithout es bs v xs → AreWithout es bs v ys → AreWithout es bs v (xs ++ ys)
  without-append [] ys h g = g
  without-append (x ∷ xs) ys h g = (h.0, without-append xs ys h.1 g)

  without-first : (xs ys : List Ty) → AreWithout es bs v (xs ++ ys) → AreWithout es bs v xs
  without-first [] ys h = tt
  without-first (x ∷ xs) ys h = (h.0, without-first xs ys h.1)

  without-last : (xs ys : List Ty) → AreWithout es bs v (xs ++ ys) → AreWithout es bs v ys
  without-last [] ys h = h
  without-last (x ∷ xs) ys h = without-last xs ys h.1

  stand-append : (t : Trees) (xs ys : List Ty) → StandIn es bs v t xs → StandIn es bs v t ys → StandIn es bs v t (xs ++ ys)
  stand-append t [] ys h g = g
  stand-append t (x ∷ xs) ys h g = (h.0, stand-append t xs ys h.1 g)

  stand-first : (t : Trees) (xs ys : List Ty) → StandIn es bs v t (xs ++ ys) → StandIn es bs v t xs
  stand-first t [] ys h = tt
  stand-first t (x ∷ xs) ys h = (h.0, stand-first t xs ys h.1)

  stand-last : (t : Trees) (xs ys : List Ty) → StandIn es bs v t (xs ++ ys) → StandIn es bs v t ys
  stand-last t [] ys h = h
  stand-last t (x ∷ xs) ys h = stand-last t xs ys h.1

  stand-through : (t u : Trees) (xs : List Ty) → (Stands t → Stands u) → StandIn es bs v t xs → StandIn es bs v u xs
  stand-through t u [] f h = tt
  stand-through t u (x ∷ xs) f h = (λ e. f (h.0 e), stand-through t u xs f h.1)

  weight-append : (xs ys : List Ty) → weight es bs (xs ++ ys) ≡ weight es bs xs + weight es bs ys
  weight-append [] ys = omega arith
  weight-append (x ∷ xs) ys = let e = weight-append xs ys in omega (arith, e)

  -- ---- the arguments of a type, one after the other
  left-of : (a b : Bool) → a ≡ true → (a || b) ≡ true
  left-of true b e = refl
  left-of false b e = cc

  neither : (a b : Bool) → a ≡ false → b ≡ false → (a || b) ≡ false
  neither true b p q = cc
  neither false b p q = q

  both : (t a : Trees) → occurs of_type v (resolved bs (t +++ a)) ≡ (occurs of_type v (resolved bs t) || occurs of_type v (resolved bs a))
  both t a = ap (occurs of_type v) (resolved-append bs t a) ∙ occurs-append of_type v (resolved bs t) (resolved bs a)

  in-left : (t a : Trees) → Stands t → Stands (t +++ a)
  in-left t a h = both t a ∙ left-of (occurs of_type v (resolved bs t)) (occurs of_type v (resolved bs a)) h

  in-right : (t a : Trees) → Stands a → Stands (t +++ a)
  in-right t a h = both t a ∙ right-of (occurs of_type v (resolved bs t)) (occurs of_type v (resolved bs a)) h

  in-neither : (t a : Trees) → IsWithout bs v t → IsWithout bs v a → IsWithout bs v (t +++ a)
  in-neither t a h g = (both t a ∙ neither (occurs of_type v (resolved bs t)) (occurs of_type v (resolved bs a)) h.0 g.0, proper-append t a h.1 g.1)

  size-both : (t a : Trees) → size (resolved bs (t +++ a)) ≡ size (resolved bs t) + size (resolved bs a)
  size-both t a = ap size (resolved-append bs t a) ∙ size-append (resolved bs t) (resolved bs a)

  append-assoc-types : (xs ys zs : List Ty) → (xs ++ ys) ++ zs ≡ xs ++ (ys ++ zs)
  append-assoc-types [] ys zs = refl
  append-assoc-types (x ∷ xs) ys zs = ap (λ z. x ∷ z) (append-assoc-types xs ys zs)

  append-none : (xs : List Ty) → xs ++ [] ≡ xs
  append-none [] = refl
  append-none (x ∷ xs) = ap (λ z. x ∷ z) (append-none xs)

  pub pushes-none : (old : List Ty) → Pushes es bs v none old old
  pushes-none old = record {
    pushed = [];
    is = sym (append-none old);
    held = tt;
    stand = tt;
    lighter = omega arith;
    without = λ h. (ap (occurs of_type v) (resolved-none bs), tt);
  }

  -- a type more
  pub pushes-type : (t : Trees) (x : Ty) (old new : List Ty) → Has es types x.0 → Pushes es bs v t old new → Pushes es bs v (t +++ trees_at es x.0) old (new ++ x ∷ [])
  pushes-type t x old new has h =
      let a = trees_at es x.0 in
      let w = weight-append h.pushed (x ∷ []) in
      let s = size-both t a in
      let less = h.lighter in
      record {
        pushed = h.pushed ++ x ∷ [];
        is = ap (λ z. z ++ x ∷ []) h.is ∙ append-assoc-types old h.pushed (x ∷ []);
        held = types-append h.pushed (x ∷ []) h.held (has, tt);
        stand = stand-append (t +++ a) h.pushed (x ∷ []) (stand-through t (t +++ a) h.pushed (in-left t a) h.stand) (in-right t a, tt);
        lighter = omega (arith, w, s, less);
        without = λ g. in-neither t a (h.without (without-first h.pushed (x ∷ []) g)) (without-last h.pushed (x ∷ []) g).0;
      }

  -- a constant or a lifetime more
  pub pushes-other : (t a : Trees) (old new : List Ty) → IsWithout bs v a → Pushes es bs v t old new → Pushes es bs v (t +++ a) old new
  pushes-other t a old new g h =
      let s = size-both t a in
      let less = h.lighter in
      record {
        pushed = h.pushed;
        is = h.is;
        held = h.held;
        stand = stand-through t (t +++ a) h.pushed (in-left t a) h.stand;
        lighter = omega (arith, s, less);
        without = λ p. in-neither t a (h.without p) g;
      }

  -- ---- the work that is left
  -- those of fewer than n nodes lack the variable
  abbrev Smaller : ℕ → List Ty → Type 0
  Smaller n [] = Unit {0}
  Smaller n (x ∷ xs) = (nodes x.0 < n → Lacks x) × Smaller n xs

  -- what was listed lacks it if what is smaller and still to be looked at does; and so does the type that was asked of
  pub record Searches (root : ℕ) (e : Entered) (todo : List Ty) : Type 0 where
    pub held : AreTypes es todo
    pub stand : StandIn es bs v (trees_at es root) todo
    pub asked : AreWithout es bs v todo → IsWithout bs v (trees_at es root)
    pub known : (i : ℕ) → contains nat_eq e.types i ≡ true → Smaller (nodes i) todo → IsWithout bs v (trees_at es i)

  smaller-all : (n : ℕ) (xs : List Ty) → AreWithout es bs v xs → Smaller n xs
  smaller-all n [] h = tt
  smaller-all n (x ∷ xs) h = (λ q. h.0, smaller-all n xs h.1)

  smaller-less : (n m : ℕ) (xs : List Ty) → m ≤ n → Smaller n xs → Smaller m xs
  smaller-less n m [] le h = tt
  smaller-less n m (x ∷ xs) le h = (λ q. h.0 (omega (arith, q, le)), smaller-less n m xs le h.1)

  smaller-first : (n : ℕ) (xs ys : List Ty) → Smaller n (xs ++ ys) → Smaller n xs
  smaller-first n [] ys h = tt
  smaller-first n (x ∷ xs) ys h = (h.0, smaller-first n xs ys h.1)

  smaller-last : (n : ℕ) (xs ys : List Ty) → Smaller n (xs ++ ys) → Smaller n ys
  smaller-last n [] ys h = h
  smaller-last n (x ∷ xs) ys h = smaller-last n xs ys h.1

  smaller-append : (n : ℕ) (xs ys : List Ty) → Smaller n xs → Smaller n ys → Smaller n (xs ++ ys)
  smaller-append n [] ys h g = g
  smaller-append n (x ∷ xs) ys h g = (h.0, smaller-append n xs ys h.1 g)

  -- all of them have fewer
  lighter-lack : (n : ℕ) (xs : List Ty) → weight es bs xs < n → Smaller n xs → AreWithout es bs v xs
  lighter-lack n [] w h = tt
  lighter-lack n (x ∷ xs) w h = (h.0 (omega (arith, w)), lighter-lack n xs (omega (arith, w)) h.1)

  pub searches-on : (root : ℕ) (x : Ty) (before after : Entered) (old new : List Ty) → Searches root before (old ++ x ∷ []) → LooksAt es bs v x before after old new
      → Searches root after new × (weight es bs new < weight es bs (old ++ x ∷ []))
  searches-on root x before after old new s l =
      let we = weight-append old (x ∷ []) in
      let wn = ap (weight es bs) l.is ∙ weight-append old l.pushed in
      let less = l.lighter in (
        subst (Searches root after) (sym l.is) (record {
          held = types-append old l.pushed (types-first old (x ∷ []) s.held) l.held;
          stand = stand-append (trees_at es root) old l.pushed (stand-first (trees_at es root) old (x ∷ []) s.stand)
              (stand-through (trees_at es x.0) (trees_at es root) l.pushed (stand-last (trees_at es root) old (x ∷ []) s.stand).0 l.stand);
          asked = λ h. s.asked (without-append old (x ∷ []) (without-first old l.pushed h) (here (smaller-all (nodes x.0) old (without-first old l.pushed h)) (without-last old l.pushed h), tt));
          known = λ i c h. listed i (l.listed i c) h;
        }),
        omega (arith, we, wn, less),
      )
    where
      mine : Smaller (nodes x.0) (x ∷ [])
      mine = (λ q. absurd (omega (arith, q)), tt)

      -- the type itself, where the smaller ones before it and those that were put behind them lack the variable
      here : Smaller (nodes x.0) old → AreWithout es bs v l.pushed → Lacks x
      here h g = go l.way
        where
          go : (contains nat_eq before.types x.0 ≡ true) ⊎ (AreWithout es bs v l.pushed → Lacks x) → Lacks x
          go (inl c) = s.known x.0 c (smaller-append (nodes x.0) old (x ∷ []) h mine)
          go (inr f) = f g

      of-smaller : (n : ℕ) → Smaller n (old ++ l.pushed) → nodes x.0 ≤ n → Lacks x
      of-smaller n h le =
          let less = l.lighter in
          here (smaller-less n (nodes x.0) old le (smaller-first n old l.pushed h)) (lighter-lack n l.pushed (omega (arith, less, le)) (smaller-last n old l.pushed h))

      listed : (i : ℕ) → (contains nat_eq before.types i ≡ true) ⊎ (i ≡ x.0) → Smaller (nodes i) (old ++ l.pushed) → IsWithout bs v (trees_at es i)
      listed i (inl c) h = s.known i c (smaller-append (nodes i) old (x ∷ []) (smaller-first (nodes i) old l.pushed h) (λ q. of-smaller (nodes i) h (omega (arith, q)), tt))
      listed i (inr e) h = subst (λ j. IsWithout bs v (trees_at es j)) (sym e) (of-smaller (nodes x.0) (subst (λ j. Smaller (nodes j) (old ++ l.pushed)) e h) (omega arith))

  -- the variable stands in what was looked at
  pub searches-found : (root : ℕ) (e : Entered) (old : List Ty) (x : Ty) → Searches root e (old ++ x ∷ []) → Stands (trees_at es x.0) → Stands (trees_at es root)
  searches-found root e old x s h = (stand-last (trees_at es root) old (x ∷ []) s.stand).0 h

-- one argument more
pub args-step : (es : List Entry) (xs : List GenericArgKind) (i : ℕ) (d x : GenericArgKind) → i < length xs → x ≡ get_or xs i d → args_trees es (take (i + 1) xs) ≡ args_trees es (take i xs) +++ arg_trees es x
args-step es xs i d x lt is = ap (args_trees es) (take-push xs i d lt) ∙ args-push es (take i xs) (get_or xs i d) ∙ ap (λ z. args_trees es (take i xs) +++ arg_trees es z) (sym is)

pub region-without : (es : List Entry) (bs : List Binding) (v : ℕ) (r : Region) → AllValued bs → IsWithout bs v (arg_trees es (Lifetime r))
region-without es bs v r h = (region-occurs bs v r.kind h, region-proper r.kind)

-- what stands in a type, once it is followed, is what was put on the list
pub looked-at : (es : List Entry) (bs : List Binding) (v : ℕ) (x f : Ty) (k : TyKind) (before after : Entered) (old new : List Ty) → ((w : TyVid) → k ≡ KInfer w → ⊥) → HasBounds es k → Is es types f.0 (kind_trees es k)
    → resolved bs (trees_at es f.0) ≡ resolved bs (trees_at es x.0) → (IsProper (trees_at es f.0) → IsProper (trees_at es x.0)) → ((i : ℕ) → contains nat_eq after.types i ≡ true → (contains nat_eq before.types i ≡ true) ⊎ (i ≡ x.0))
    → Pushes es bs v (parts_trees es k) old new → LooksAt es bs v x before after old new
looked-at es bs v x f k before after old new rigid b is same proper listed p =
    let e : resolved bs (kind_trees es k) ≡ resolved bs (trees_at es x.0) = ap (resolved bs) (sym (is-trees es types f.0 (kind_trees es k) is)) ∙ same in
    let rk = rigid-kind k rigid in
    let stands : occurs of_type v (resolved bs (parts_trees es k)) ≡ occurs of_type v (resolved bs (trees_at es x.0)) = parts-occurs bs of_type v es k rk b ∙ ap (occurs of_type v) e in
    let less = parts-size bs es k rk b in
    let sizes = ap size e in
    let lighter = p.lighter in
    record {
      pushed = p.pushed;
      is = p.is;
      held = p.held;
      stand = stand-through es bs v (parts_trees es k) (trees_at es x.0) p.pushed (λ q. sym stands ∙ q) p.stand;
      lighter = omega (arith, less, sizes, lighter);
      way = inr (λ h. let w = p.without h in (sym stands ∙ w.0, proper (subst IsProper (sym (is-trees es types f.0 (kind_trees es k) is)) (kind-proper es k b w.1))));
      listed = listed;
    }

-- nothing was put on the list
pub looked-past : (es : List Entry) (bs : List Binding) (v : ℕ) (x : Ty) (before after : Entered) (old : List Ty) → 1 ≤ size (resolved bs (trees_at es x.0))
    → ((contains nat_eq before.types x.0 ≡ true) ⊎ (Unit {0} → IsWithout bs v (trees_at es x.0))) → ((i : ℕ) → contains nat_eq after.types i ≡ true → (contains nat_eq before.types i ≡ true) ⊎ (i ≡ x.0)) → LooksAt es bs v x before after old old
looked-past es bs v x before after old some way listed = record {
  pushed = [];
  is = sym (append-none es bs v old);
  held = tt;
  stand = tt;
  lighter = some;
  way = way;
  listed = listed;
}

pub type-filled : (es : List Entry) (counts : Sort → ℕ) (bs : List Binding) (x : Ty) → Lawful es → AreOlder counts bs → Has es types x.0 → 1 ≤ size (resolved bs (trees_at es x.0))
type-filled es counts bs x law older h = filled counts bs (trees_at es x.0) older (arg-single es law (AType x) h)

-- the last type of the list is held
pub searches-next : (es : List Entry) (bs : List Binding) (v root : ℕ) (e : Entered) (old : List Ty) (x : Ty) → Searches es bs v root e (old ++ x ∷ []) → Has es types x.0
searches-next es bs v root e old x s = (types-last es bs v old (x ∷ []) s.held).0
