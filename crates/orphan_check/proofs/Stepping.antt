-- Steps of a walk, and the types that wait on its stack.
use Rattle.std.proofs.Common.{if◌then◌else◌, arith, length, ◌-◌, ◌≡◌, ℕ, suc, refl, sym, ap, subst, ◌∙◌, Bool, true, false, List, [], ◌∷◌, ◌++◌, append_assoc, Result, Ok, Err}
use Rattle.type_terms.specs.Promised.Label.{Label, of_type, of_const, of_lifetime}
use Rattle.type_terms.specs.Promised.Trees.{Trees, none, tree, ◌+++◌, is_sort, sort_of, IsA}
use Rattle.type_terms.specs.Promised.Handles.{Entry, Has, types, consts, trees_at}
use Rattle.type_terms.specs.Terms.{Lawful}
use Rattle.type_terms.specs.Promised.Handles.{region_label, region_trees, arg_trees, ArgHeld, ArgsHeld}
use Rattle.type_terms.specs.Kinds.{args_trees}
use Rattle.type_terms.specs.declared.kinds.GenericArgKind.{GenericArgKind}
use Rattle.type_terms.specs.declared.kinds.GenericArgKind.TheVariants.{Lifetime, Ty, Const}
use Rattle.type_terms.specs.declared.region.Region.{Region}
use Rattle.type_terms.specs.declared.region.RegionKind.{RegionKind}
use Rattle.type_terms.specs.declared.region.RegionKind.TheVariants.{ReStatic, ReEarlyParam, RePlaceholder, ReBound, ReVar}
use Rattle.type_terms.specs.declared.number.BoundVarIndexKind.TheVariants.{Bound as KBinder, Canonical as KCanonical}
use Rattle.type_terms.specs.declared.kinds.Ty as of-ty
use Rattle.type_terms.specs.declared.kinds.GenericArgs as of-args
use Rattle.type_terms.specs.Kept.{is-at}
use Rattle.declarations.specs.Promised.Elaboration.{Each}
use Rattle.orphan_check.specs.declared.walk.Pending.{Pending}
use Rattle.orphan_check.specs.declared.look.Taken.TheVariants as taken
use Rattle.orphan_check.specs.Promised.Errors.{is_first}
use Rattle.orphan_check.specs.Steps.{Reading, Step, entered, met_local, met_open, met_foreign, read, steps_in, step_of, steps_at, steps_to}
use Rattle.orphan_check.specs.declared.errors.WalkError.{WalkError}
use Rattle.orphan_check.specs.declared.errors.WalkError.TheVariants.{Normalize, Deep, Memory}
use Rattle.orphan_check.specs.declared.walk.Met.{Met}
use Rattle.orphan_check.specs.Walks.{IsTaken, TypeIsRead, IsFirstStep, IsVisit, IsStep, ArePending, AreOnTop, steps_before, pending_steps}
use Rattle.type_terms.proofs.ListBasics.{append-empty}
use Rattle.type_terms.proofs.TermBasics.{append-none, type-is}
use Rattle.declarations.proofs.Basics.{each-push}
use Rattle.type_terms.proofs.BooleanBasics.{if-false, if-true}

pub region-sort : (k : RegionKind) → sort_of (region_label k) ≡ of_lifetime
region-sort ReStatic = refl
region-sort (ReEarlyParam i) = refl
region-sort (RePlaceholder i) = refl
region-sort (ReBound (KBinder b) v) = refl
region-sort (ReBound KCanonical v) = refl
region-sort (ReVar v) = refl

pub const-is : (es : List Entry) → Lawful es → (i : ℕ) → Has es consts i → IsA of_const (trees_at es i)
const-is es law i h = (law.sorted i _ (is-at es consts i h)).as_const refl

-- ---- lists of types
module _ {E : Type 0} (go : Bool → Trees → List (Step E)) where
  -- a type comes before what stands behind it
  pub steps-type : (first : Bool) (t rest : Trees) → IsA of_type t → steps_in go first (t +++ rest) ≡ go first t ++ steps_in go false rest
  steps-type first none rest h = absurd h
  steps-type first (tree l c o) rest h =
      if-true (is_sort (sort_of l) of_type) (go first (tree l c none) ++ steps_in go false (o +++ rest)) (steps_in go first (o +++ rest)) (ap (λ z. is_sort z of_type) h.0)
      ∙ ap (λ z. go first (tree l c none) ++ steps_in go false (z +++ rest)) h.1
      ∙ ap (λ z. go first (tree l c z) ++ steps_in go false rest) (sym h.1)

  -- a lifetime or a constant is passed over
  steps-over : (first : Bool) (l : Label) (c o rest : Trees) → is_sort (sort_of l) of_type ≡ false → o ≡ none → steps_in go first (tree l c o +++ rest) ≡ steps_in go first rest
  steps-over first l c o rest h e =
      if-false (is_sort (sort_of l) of_type) (go first (tree l c none) ++ steps_in go false (o +++ rest)) (steps_in go first (o +++ rest)) h
      ∙ ap (λ z. steps_in go first (z +++ rest)) e

  pub steps-region : (first : Bool) (r : Region) (rest : Trees) → steps_in go first (region_trees r +++ rest) ≡ steps_in go first rest
  steps-region first r rest = steps-over first (region_label r.kind) none none rest (ap (λ z. is_sort z of_type) (region-sort r.kind)) refl

  pub steps-const : (first : Bool) (t rest : Trees) → IsA of_const t → steps_in go first (t +++ rest) ≡ steps_in go first rest
  steps-const first none rest h = absurd h
  steps-const first (tree l c o) rest h = steps-over first l c o rest (ap (λ z. is_sort z of_type) h.0) h.1

  pub steps-append : (x y : Trees) → steps_in go false (x +++ y) ≡ steps_in go false x ++ steps_in go false y
  steps-append none y = refl
  steps-append (tree l c o) y = by (is_sort (sort_of l) of_type) (steps-append o y)
    where
      by : (x : Bool) → steps_in go false (o +++ y) ≡ steps_in go false o ++ steps_in go false y → (if x then go false (tree l c none) ++ steps_in go false (o +++ y) else steps_in go false (o +++ y))
          ≡ (if x then go false (tree l c none) ++ steps_in go false o else steps_in go false o) ++ steps_in go false y
      by true h = ap (λ z. go false (tree l c none) ++ z) h ∙ sym (append_assoc (go false (tree l c none)) (steps_in go false o) (steps_in go false y))
      by false h = h

  module _ (es : List Entry) (law : Lawful es) where
    pub steps-of-type : (first : Bool) (i : ℕ) (rest : Trees) → Has es types i → steps_in go first (trees_at es i +++ rest) ≡ go first (trees_at es i) ++ steps_in go false rest
    steps-of-type first i rest h = steps-type first (trees_at es i) rest (type-is es law i h)

    pub steps-of-const : (first : Bool) (i : ℕ) (rest : Trees) → Has es consts i → steps_in go first (trees_at es i +++ rest) ≡ steps_in go first rest
    steps-of-const first i rest h = steps-const first (trees_at es i) rest (const-is es law i h)

-- ---- the stack
push-before : {E : Type 0} (es : List Entry) (r : Reading E) (ps : List Pending) (p : Pending) (ss : List (Step E))
    → steps_before es r (ps ++ p ∷ []) ss ≡ steps_to r p.limit (is_first p.first) (trees_at es p.ty.0) ++ steps_before es r ps ss
push-before es r [] p ss = refl
push-before es r (q ∷ ps) p ss = push-before es r ps p (steps_to r q.limit (is_first q.first) (trees_at es q.ty.0) ++ ss)

-- a type that was pushed comes first
pub push-steps : {E : Type 0} (es : List Entry) (r : Reading E) (ps qs : List Pending) (p : Pending) → qs ≡ ps ++ p ∷ []
    → pending_steps es r qs ≡ steps_to r p.limit (is_first p.first) (trees_at es p.ty.0) ++ pending_steps es r ps
push-steps es r ps qs p e = ap (pending_steps es r) e ∙ push-before es r ps p []

pub pending-push : (es : List Entry) (ps qs : List Pending) (p : Pending) → qs ≡ ps ++ p ∷ [] → ArePending es ps → Has es types p.ty.0 → ArePending es qs
pending-push es ps qs p e h k = subst (ArePending es) (sym e) (each-push (λ x. Has es types x.ty.0) ps p h k)

pub each-pop : {A : Type 0} (P : A → Type 0) (xs : List A) (x : A) → Each P (xs ++ x ∷ []) → Each P xs × P x
each-pop P [] x h = (tt, h.0)
each-pop P (y ∷ xs) x h = let e = each-pop P xs x h.1 in ((h.0, e.0), e.1)

-- what lies on top of a stack
pub on-top-none : (n : ℕ) (ps : List Pending) → AreOnTop n ps ps
on-top-none n ps = ([], sym (append-empty ps), tt)

pub on-top-push : (n : ℕ) (old mid new : List Pending) (p : Pending) → AreOnTop n old mid → new ≡ mid ++ p ∷ [] → p.limit ≡ n → AreOnTop n old new
on-top-push n old mid new p h e l = (h.0 ++ p ∷ [], e ∙ ap (λ z. z ++ p ∷ []) h.1 ∙ append_assoc old h.0 (p ∷ []), each-push (λ (q : Pending). q.limit ≡ n) h.0 p h.2 l)

-- ---- arguments
pub args-append : (es : List Entry) (xs : List GenericArgKind) (x : GenericArgKind) → args_trees es (xs ++ x ∷ []) ≡ args_trees es xs +++ (arg_trees es x +++ none)
args-append es [] x = refl
args-append es (y ∷ xs) x = ap (λ z. arg_trees es y +++ z) (args-append es xs x) ∙ sym (append-assoc (arg_trees es y) (args_trees es xs) (arg_trees es x +++ none))
  where
    append-assoc : (a b d : Trees) → (a +++ b) +++ d ≡ a +++ (b +++ d)
    append-assoc none b d = refl
    append-assoc (tree l c o) b d = ap (λ z. tree l c z) (append-assoc o b d)

pub args-held-append : (es : List Entry) (xs : List GenericArgKind) (x : GenericArgKind) → ArgsHeld es (xs ++ x ∷ []) → ArgsHeld es xs × ArgHeld es x
args-held-append es [] x h = (tt, h.0)
args-held-append es (y ∷ xs) x h = let e = args-held-append es xs x h.1 in ((h.0, e.0), e.1)

module _ {E : Type 0} (es : List Entry) (law : Lawful es) (r : Reading E) (n : ℕ) where
  -- the last of the arguments, put on the stack if it is a type
  last-type : (xs : List GenericArgKind) (t : of-ty.Ty) → ArgsHeld es (xs ++ Ty t ∷ [])
      → steps_in (λ f u. steps_to r n f u) false (args_trees es (xs ++ Ty t ∷ [])) ≡ steps_in (λ f u. steps_to r n f u) false (args_trees es xs) ++ steps_to r n false (trees_at es t.0)
  last-type xs t h =
      ap (steps_in (λ f u. steps_to r n f u) false) (args-append es xs (Ty t)) ∙ steps-append (λ f u. steps_to r n f u) (args_trees es xs) (trees_at es t.0 +++ none)
      ∙ ap (λ z. steps_in (λ f u. steps_to r n f u) false (args_trees es xs) ++ z)
      (steps-of-type (λ f u. steps_to r n f u) es law false t.0 none (args-held-append es xs (Ty t) h).1 ∙ append-empty (steps_to r n false (trees_at es t.0)))

  -- what an invariant says of the arguments before the last one, a type that was pushed, or another argument
  pub push-last : (all left others : List GenericArgKind) (t : of-ty.Ty) (old ps qs : List Pending) (p : Pending) → left ≡ others ++ Ty t ∷ [] → ArgsHeld es left
      → qs ≡ ps ++ p ∷ [] → p.ty ≡ t → p.limit ≡ n → is_first p.first ≡ false
      → steps_in (λ f u. steps_to r n f u) false (args_trees es all) ++ pending_steps es r old ≡ steps_in (λ f u. steps_to r n f u) false (args_trees es left) ++ pending_steps es r ps
      → steps_in (λ f u. steps_to r n f u) false (args_trees es all) ++ pending_steps es r old ≡ steps_in (λ f u. steps_to r n f u) false (args_trees es others) ++ pending_steps es r qs
  push-last all left others t old ps qs p is h pushed type-is limit-is first-is inv =
      inv ∙ ap (λ z. steps_in (λ f u. steps_to r n f u) false (args_trees es z) ++ pending_steps es r ps) is
      ∙ ap (λ z. z ++ pending_steps es r ps) (last-type others t (subst (ArgsHeld es) is h))
      ∙ append_assoc (steps_in (λ f u. steps_to r n f u) false (args_trees es others)) (steps_to r n false (trees_at es t.0)) (pending_steps es r ps)
      ∙ ap (λ z. steps_in (λ f u. steps_to r n f u) false (args_trees es others) ++ z)
      (sym (push-steps es r ps qs p pushed ∙ ap (λ m. steps_to r m (is_first p.first) (trees_at es p.ty.0) ++ pending_steps es r ps) limit-is
      ∙ ap (λ f. steps_to r n f (trees_at es p.ty.0) ++ pending_steps es r ps) first-is ∙ ap (λ u. steps_to r n false (trees_at es u.0) ++ pending_steps es r ps) type-is))

  pub skip-last : (left others : List GenericArgKind) (a : GenericArgKind) → left ≡ others ++ a ∷ [] → ArgsHeld es left → ((t : of-ty.Ty) → a ≡ Ty t → ⊥)
      → steps_in (λ f u. steps_to r n f u) false (args_trees es left) ≡ steps_in (λ f u. steps_to r n f u) false (args_trees es others)
  skip-last left others a is h apart =
      ap (λ z. steps_in (λ f u. steps_to r n f u) false (args_trees es z)) is ∙ ap (steps_in (λ f u. steps_to r n f u) false) (args-append es others a)
      ∙ steps-append (λ f u. steps_to r n f u) (args_trees es others) (arg_trees es a +++ none)
      ∙ ap (λ z. steps_in (λ f u. steps_to r n f u) false (args_trees es others) ++ z) (by a (args-held-append es others a (subst (ArgsHeld es) is h)).1 apart)
      ∙ append-empty (steps_in (λ f u. steps_to r n f u) false (args_trees es others))
    where
      by : (a : GenericArgKind) → ArgHeld es a → ((t : of-ty.Ty) → a ≡ Ty t → ⊥) → steps_in (λ f u. steps_to r n f u) false (arg_trees es a +++ none) ≡ []
      by (Lifetime q) h apart = steps-region (λ f u. steps_to r n f u) false q none
      by (Ty t) h apart = absurd (apart t refl)
      by (Const k) h apart = steps-of-const (λ f u. steps_to r n f u) es law false k.0 none h

-- ---- from the first argument on
module _ {E : Type 0} (es : List Entry) (law : Lawful es) (go : Bool → Trees → List (Step E)) (first : Bool) where
  pub first-type : (left others : List GenericArgKind) (t : of-ty.Ty) → left ≡ Ty t ∷ others → ArgsHeld es left → steps_in go first (args_trees es left) ≡ go first (trees_at es t.0) ++ steps_in go false (args_trees es others)
  first-type left others t is h = ap (λ z. steps_in go first (args_trees es z)) is ∙ steps-of-type go es law first t.0 (args_trees es others) (subst (ArgsHeld es) is h).0

  pub skip-first : (left others : List GenericArgKind) (a : GenericArgKind) → left ≡ a ∷ others → ArgsHeld es left → ((t : of-ty.Ty) → a ≡ Ty t → ⊥) → steps_in go first (args_trees es left) ≡ steps_in go first (args_trees es others)
  skip-first left others a is h apart = ap (λ z. steps_in go first (args_trees es z)) is ∙ by a (subst (ArgsHeld es) is h).0 apart
    where
      by : (a : GenericArgKind) → ArgHeld es a → ((t : of-ty.Ty) → a ≡ Ty t → ⊥) → steps_in go first (arg_trees es a +++ args_trees es others) ≡ steps_in go first (args_trees es others)
      by (Lifetime q) h apart = steps-region go first q (args_trees es others)
      by (Ty t) h apart = absurd (apart t refl)
      by (Const k) h apart = steps-of-const go es law first k.0 (args_trees es others) h

module _ {E : Type 0} (es : List Entry) (law : Lawful es) (r : Reading E) (n : ℕ) (first : Bool) (t : Trees) where
  at-read : (x : Result Trees E) → read r t ≡ x → steps_to r (suc n) first t ≡ steps_at (λ f u. steps_to r n f u) r first x
  at-read x e = ap (steps_at (λ f u. steps_to r n f u) r first) e

  pub step-local : (u : Trees) → read r t ≡ Ok u → IsTaken es r.view r.home u taken.Local → steps_to r (suc n) first t ≡ met_local u ∷ []
  step-local none h k = absurd k
  step-local (tree l c o) h k = at-read (Ok (tree l c o)) h ∙ ap (λ z. step_of z (tree l c o) first (steps_in (λ f u. steps_to r n f u) first c)) k

  pub step-open : (u : Trees) → read r t ≡ Ok u → IsTaken es r.view r.home u taken.Uncovered → steps_to r (suc n) first t ≡ met_open u ∷ []
  step-open none h k = absurd k
  step-open (tree l c o) h k = at-read (Ok (tree l c o)) h ∙ ap (λ z. step_of z (tree l c o) first (steps_in (λ f u. steps_to r n f u) first c)) k

  pub step-foreign : (u : Trees) → read r t ≡ Ok u → IsTaken es r.view r.home u taken.NonLocal → steps_to r (suc n) first t ≡ met_foreign u first ∷ []
  step-foreign none h k = absurd k
  step-foreign (tree l c o) h k = at-read (Ok (tree l c o)) h ∙ ap (λ z. step_of z (tree l c o) first (steps_in (λ f u. steps_to r n f u) first c)) k

  pub step-reference : (u : Trees) (to : of-ty.Ty) → read r t ≡ Ok u → IsTaken es r.view r.home u (taken.Reference to) → steps_to r (suc n) first t ≡ entered ∷ steps_to r n first (trees_at es to.0)
  step-reference none to h k = absurd k
  step-reference (tree l c o) to h k =
      at-read (Ok (tree l c o)) h ∙ ap (λ z. step_of z (tree l c o) first (steps_in (λ f u. steps_to r n f u) first c)) k.0
      ∙ ap (λ z. entered ∷ z)
      (ap (steps_in (λ f u. steps_to r n f u) first) k.2.1 ∙ steps-region (λ f u. steps_to r n f u) first k.2.0 (trees_at es to.0)
      ∙ ap (steps_in (λ f u. steps_to r n f u) first) (sym (append-none (trees_at es to.0)))
      ∙ steps-of-type (λ f u. steps_to r n f u) es law first to.0 none k.1 ∙ append-empty (steps_to r n first (trees_at es to.0)))

  pub step-fundamental : (u : Trees) (args : of-args.GenericArgs) → read r t ≡ Ok u → IsTaken es r.view r.home u (taken.Fundamental args) → steps_to r (suc n) first t ≡ entered ∷ steps_in (λ f u. steps_to r n f u) first (trees_at es args.0)
  step-fundamental none args h k = absurd k
  step-fundamental (tree l c o) args h k =
      at-read (Ok (tree l c o)) h ∙ ap (λ z. step_of z (tree l c o) first (steps_in (λ f u. steps_to r n f u) first c)) k.0
      ∙ ap (λ z. entered ∷ steps_in (λ f u. steps_to r n f u) first z) k.2

-- what a type steps to, before the others
pub first-steps : {E : Type 0} (es : List Entry) (r : Reading E) (rest : List Pending) (p : Pending) (m : ℕ) (ss : List (Step E)) → p.limit ≡ m → steps_to r m (is_first p.first) (trees_at es p.ty.0) ≡ ss
    → steps_to r p.limit (is_first p.first) (trees_at es p.ty.0) ++ pending_steps es r rest ≡ ss ++ pending_steps es r rest
first-steps es r rest p m ss l h = ap (λ z. steps_to r z (is_first p.first) (trees_at es p.ty.0) ++ pending_steps es r rest) l ∙ ap (λ z. z ++ pending_steps es r rest) h

-- a type that was not read ends the steps
pub read-refused : {E : Type 0} (es : List Entry) (r : Reading E) (rest after : List Pending) (p : Pending) (m : ℕ) (e : WalkError E) → p.limit ≡ suc m → TypeIsRead es (read r (trees_at es p.ty.0)) (Err e) → IsVisit es r p rest (Err e) after
read-refused es r rest after p m (Normalize e) l h = (pending_steps es r rest, first-steps es r rest p (suc m) _ l (ap (steps_at (λ f u. steps_to r m f u) r (is_first p.first)) h))
read-refused es r rest after p m Deep l h = absurd h
read-refused es r rest after p m Memory l h = absurd h

-- the visit of the type that waited last is a step
pub visit-steps : {E : Type 0} (es : List Entry) (r : Reading E) (old rest new : List Pending) (p : Pending) (x : Result Met (WalkError E)) → old ≡ rest ++ p ∷ [] → IsVisit es r p rest x new
    → IsFirstStep es (pending_steps es r old) x (pending_steps es r new)
visit-steps es r old rest new p x e h = subst (λ z. IsFirstStep es z x (pending_steps es r new)) (sym (push-steps es r rest old p e)) h

pub error-steps : {E : Type 0} (es : List Entry) (before after : List (Step E)) (x : WalkError E) → IsFirstStep es before (Err x) after → IsStep es before (Err x) after
error-steps es before after (Normalize e) h = h
error-steps es before after Deep h = h
error-steps es before after Memory h = tt

pub positive : (n : ℕ) → (n ≡ 0 → ⊥) → n ≡ suc (n - 1)
positive n h = omega arith

pub no-arguments : {E : Type 0} (es : List Entry) (go : Bool → Trees → List (Step E)) (first : Bool) (left : List GenericArgKind) → length left ≡ 0 → steps_in go first (args_trees es left) ≡ []
no-arguments es go first [] h = refl
no-arguments es go first (a ∷ left) h = absurd (omega arith)
