-- A walk that passes over what it has visited.
use Rattle.std.proofs.Common.{if◌then◌else◌, arith, length, ◌≡◌, ◌<◌, ◌≤◌, ◌-◌, ◌⊎◌, inl, inr, ℕ, zero, suc, refl, sym, ap, subst, ◌∙◌, Bool, true, false, ◌&&◌, ◌||◌, List, [], ◌∷◌, ◌++◌, append_assoc, length-append, Some, Result, Ok, Err, nat_lt, eqb-true, cond}
use Rattle.std.proofs.lemmas.Bool.{lt-ltb, le-ltb, ltb-true, ltb-false}
use Rattle.std.proofs.lemmas.List.{append_cancel_right, append-nil}
use Rattle.std.specs.Prelude.{OnOk, OnErr, nat_eq}
use Rattle.std.specs.List.{list_any}
use Rattle.std.specs.HashSet.{HashSet, contains, Updates, IsUnchanged}
use Rattle.type_terms.specs.Promised.Label.{of_type}
use Rattle.type_terms.specs.Promised.Trees.{Trees, none, tree, is_sort, sort_of}
use Rattle.type_terms.specs.Promised.Handles.{Entry, Has, types, trees_at}
use Rattle.type_terms.specs.declared.kinds.Ty.{Ty}
use Rattle.declarations.specs.Promised.Elaboration.{Each}
use Rattle.orphan_check.specs.declared.errors.IsFirstInputType.{IsFirstInputType}
use Rattle.orphan_check.specs.declared.errors.WalkError.{WalkError}
use Rattle.orphan_check.specs.declared.errors.WalkError.TheVariants.{Normalize, Deep, Memory}
use Rattle.orphan_check.specs.declared.visited.Visit.{Visit}
use Rattle.orphan_check.specs.declared.walk.Met.{Met}
use Rattle.orphan_check.specs.declared.walk.Met.TheVariants.{Entered, Local, NonLocal, Uncovered}
use Rattle.orphan_check.specs.declared.walk.Pending.{Pending}
use Rattle.orphan_check.specs.Promised.Errors.{is_first}
use Rattle.type_terms.specs.Promised.OrphanErrors.{Look, local_type, open_type, leaf_type, passage, look}
use Rattle.orphan_check.specs.Steps.{Reading, Step, refused, too_deep, entered, met_local, met_open, met_foreign, read, steps_in, step_of, steps_at, steps_to, first_end}
use Rattle.orphan_check.specs.Visited.{visit_eq, visit_at}
use Rattle.orphan_check.specs.Walks.{ArePending, AreOnTop, IsVisit, IsDecisive, steps_before, pending_steps, step_met}
use Rattle.orphan_check.proofs.Stepping.{push-steps, each-pop}
use Rattle.declarations.proofs.Growth.{each-kept}
use Rattle.infer_table.proofs.SolutionLaws.{or-false}

-- ---- a visit that is kept in a set
pub entered-one : {S E : Type 0} (old new : HashSet Visit S) (w : Visit) (r : Result Bool E) → OnOk r (Updates visit_eq old new w true) → OnErr r (IsUnchanged old new) → (v : Visit) → contains visit_eq new v ≡ true
    → (contains visit_eq old v ≡ true) ⊎ (v ≡ w)
entered-one old new w (Ok ok) u e v h = by (nat_eq w.ty v.ty) refl (nat_eq w.limit v.limit) refl
  where
    by : (a : Bool) → nat_eq w.ty v.ty ≡ a → (b : Bool) → nat_eq w.limit v.limit ≡ b → (contains visit_eq old v ≡ true) ⊎ (v ≡ w)
    by true x true y = inr (sym (ap (λ (n : ℕ). record { ty = n; limit = w.limit }) (eqb-true w.ty v.ty x) ∙ ap (λ (n : ℕ). record { ty = v.ty; limit = n }) (eqb-true w.limit v.limit y)))
    by true x false y = inl (sym (u.0 v ∙ ap (λ z. cond (z && nat_eq w.limit v.limit) true (contains visit_eq old v)) x ∙ ap (λ z. cond z true (contains visit_eq old v)) y) ∙ h)
    by false x b y = inl (sym (u.0 v ∙ ap (λ z. cond (z && nat_eq w.limit v.limit) true (contains visit_eq old v)) x) ∙ h)
entered-one old new w (Err x) u e v h = inl (subst (λ ks. list_any (visit_eq v) ks ≡ true) e h)

-- ---- whether a walk ends
abbrev pub ends : {E : Type 0} → List (Step E) → Bool
ends [] = false
ends (entered ∷ ss) = ends ss
ends (met_foreign t first ∷ ss) = ends ss
ends (s ∷ ss) = true

ends-append : {E : Type 0} (xs ys : List (Step E)) → ends (xs ++ ys) ≡ (ends xs || ends ys)
ends-append [] ys = refl
ends-append (refused e ∷ xs) ys = refl
ends-append (too_deep t first ∷ xs) ys = refl
ends-append (entered ∷ xs) ys = ends-append xs ys
ends-append (met_local t ∷ xs) ys = refl
ends-append (met_open t ∷ xs) ys = refl
ends-append (met_foreign t first ∷ xs) ys = ends-append xs ys

-- steps that do not end come before
end-behind : {E : Type 0} (xs ys : List (Step E)) → ends xs ≡ false → first_end (xs ++ ys) ≡ first_end ys
end-behind [] ys h = refl
end-behind (refused e ∷ xs) ys h = cc
end-behind (too_deep t first ∷ xs) ys h = cc
end-behind (entered ∷ xs) ys h = end-behind xs ys h
end-behind (met_local t ∷ xs) ys h = cc
end-behind (met_open t ∷ xs) ys h = cc
end-behind (met_foreign t first ∷ xs) ys h = end-behind xs ys h

-- ---- flags change neither
abbrev AreAlike : {E : Type 0} → List (Step E) → List (Step E) → Type 0
AreAlike xs ys = (ends xs ≡ ends ys) × (length xs ≡ length ys)

alike-append : {E : Type 0} (cs ds xs ys : List (Step E)) → AreAlike cs ds → AreAlike xs ys → AreAlike (cs ++ xs) (ds ++ ys)
alike-append cs ds xs ys h k = (
  ends-append cs xs ∙ ap (λ z. z || ends xs) h.0 ∙ ap (λ z. ends ds || z) k.0 ∙ sym (ends-append ds ys),
  omega (arith, length-append cs xs, length-append ds ys, h.1, k.1),
)

module _ {E : Type 0} (go : Bool → Trees → List (Step E)) (same : (f g : Bool) (t : Trees) → AreAlike (go f t) (go g t)) where
  types-alike : (f g : Bool) (t : Trees) → AreAlike (steps_in go f t) (steps_in go g t)
  types-alike f g none = (refl, refl)
  types-alike f g (tree l c o) = by (is_sort (sort_of l) of_type) (types-alike f g o)
    where
      by : (x : Bool) → AreAlike (steps_in go f o) (steps_in go g o)
          → AreAlike (if x then go f (tree l c none) ++ steps_in go false o else steps_in go f o) (if x then go g (tree l c none) ++ steps_in go false o else steps_in go g o)
      by true h = alike-append (go f (tree l c none)) (go g (tree l c none)) (steps_in go false o) (steps_in go false o) (same f g (tree l c none)) (refl, refl)
      by false h = h

  look-alike : (k : Look) (t : Trees) (f g : Bool) (xs ys : List (Step E)) → AreAlike xs ys → AreAlike (step_of k t f xs) (step_of k t g ys)
  look-alike local_type t f g xs ys h = (refl, refl)
  look-alike open_type t f g xs ys h = (refl, refl)
  look-alike leaf_type t f g xs ys h = (refl, refl)
  look-alike passage t f g xs ys h = (h.0, ap suc h.1)

  read-alike : (r : Reading E) (f g : Bool) (x : Result Trees E) → AreAlike (steps_at go r f x) (steps_at go r g x)
  read-alike r f g (Ok none) = (refl, refl)
  read-alike r f g (Ok (tree l c o)) = look-alike (look r.view r.home l c) (tree l c o) f g (steps_in go f c) (steps_in go g c) (types-alike f g c)
  read-alike r f g (Err e) = (refl, refl)

alike : {E : Type 0} (r : Reading E) (n : ℕ) (f g : Bool) (t : Trees) → AreAlike (steps_to r n f t) (steps_to r n g t)
alike r zero f g t = (refl, refl)
alike r (suc n) f g t = read-alike (λ f u. steps_to r n f u) (λ f g u. alike r n f g u) r f g (read r t)

-- ---- lists
each-append : {A : Type 0} (P : A → Type 0) (xs ys : List A) → Each P xs → Each P ys → Each P (xs ++ ys)
each-append P [] ys h k = k
each-append P (x ∷ xs) ys h k = (h.0, each-append P xs ys h.1 k)

-- limits fall, or stay, from the ground of the stack upwards
abbrev pub Falls : List Pending → Type 0
Falls [] = Unit {0}
Falls (p ∷ ps) = Each (λ q. q.limit ≤ p.limit) ps × Falls ps

falls-last : (ps : List Pending) (p : Pending) → Falls (ps ++ p ∷ []) → Falls ps × Each (λ q. p.limit ≤ q.limit) ps
falls-last [] p h = (tt, tt)
falls-last (q ∷ ps) p h =
    let rest = falls-last ps p h.1 in
    let here = each-pop (λ (x : Pending). x.limit ≤ q.limit) ps p h.0 in
    ((here.0, rest.0), (here.1, rest.1))

falls-same : (n : ℕ) (ps : List Pending) → Each (λ p. p.limit ≡ n) ps → Falls ps
falls-same n [] h = tt
falls-same n (p ∷ ps) h =
    let is = h.0 in
    (each-kept (λ (q : Pending). q.limit ≡ n) (λ q. q.limit ≤ p.limit) (λ q e. omega (arith, e, is)) ps h.1, falls-same n ps h.1)

falls-on-top : (n : ℕ) (ps above : List Pending) → Falls ps → Each (λ p. n ≤ p.limit) ps → Each (λ p. p.limit ≡ n) above → Falls (ps ++ above)
falls-on-top n [] above f h k = falls-same n above k
falls-on-top n (p ∷ ps) above f h k =
    let le = h.0 in (
      each-append (λ (q : Pending). q.limit ≤ p.limit) ps above f.0 (each-kept (λ (q : Pending). q.limit ≡ n) (λ q. q.limit ≤ p.limit) (λ q e. omega (arith, e, le)) above k),
      falls-on-top n ps above f.1 h.1 k,
    )

-- ---- what waits below a limit
or-assoc : (a b d : Bool) → (a || (b || d)) ≡ ((a || b) || d)
or-assoc true b d = refl
or-assoc false b d = refl

or-swap : (a b d : Bool) → (a || (b || d)) ≡ ((b || a) || d)
or-swap true true d = refl
or-swap true false d = refl
or-swap false true d = refl
or-swap false false d = refl

nothing : (a b : Bool) → (a || ((b && false) || false)) ≡ a
nothing true true = refl
nothing true false = refl
nothing false true = refl
nothing false false = refl

-- ---- a visit
-- what was met decides nothing
abbrev pub GoesOn : Met → Type 0
GoesOn Entered = Unit {0}
GoesOn (NonLocal t first) = Unit {0}
GoesOn m = ⊥

pub goes-on : (m : Met) → (m ≡ Entered) ⊎ ((t : Ty) × (first : IsFirstInputType) × (m ≡ NonLocal t first)) → GoesOn m
goes-on m (inl e) = subst GoesOn (sym e) tt
goes-on m (inr h) = subst GoesOn (sym h.2) tt

step-over : {E : Type 0} (es : List Entry) (m : Met) → GoesOn m → (ss : List (Step E)) → (ends (step_met es m ∷ ss) ≡ ends ss) × (first_end (step_met es m ∷ ss) ≡ first_end ss)
step-over es Entered h ss = (refl, refl)
step-over es (NonLocal t first) h ss = (refl, refl)
step-over es (Local t) h ss = absurd h
step-over es (Uncovered t) h ss = absurd h

not-deep : {E : Type 0} (es : List Entry) (r : Reading E) (n : ℕ) (first : Bool) (t : Trees) (m : Met) (ss : List (Step E)) → steps_to r n first t ≡ step_met es m ∷ ss → 0 < n
not-deep es r zero first t Entered ss e = cc
not-deep es r zero first t (Local x) ss e = cc
not-deep es r zero first t (Uncovered x) ss e = cc
not-deep es r zero first t (NonLocal x f) ss e = cc
not-deep es r (suc n) first t m ss e = omega arith

module _ {E : Type 0} (es : List Entry) (r : Reading E) where
  abbrev pub ends_at : ℕ → ℕ → Bool
  ends_at i n = ends (steps_to r n false (trees_at es i))

  -- something that waits with less than the limit ends
  abbrev pub ends_below : ℕ → List Pending → Bool
  ends_below n [] = false
  ends_below n (p ∷ ps) = (nat_lt p.limit n && ends_at p.ty.0 p.limit) || ends_below n ps

  below-append : (n : ℕ) (ps qs : List Pending) → ends_below n (ps ++ qs) ≡ (ends_below n ps || ends_below n qs)
  below-append n [] qs = refl
  below-append n (p ∷ ps) qs = let here = nat_lt p.limit n && ends_at p.ty.0 p.limit in ap (λ z. here || z) (below-append n ps qs) ∙ or-assoc here (ends_below n ps) (ends_below n qs)

  below-none : (n : ℕ) (ps : List Pending) → Each (λ p. n ≤ p.limit) ps → ends_below n ps ≡ false
  below-none n [] h = refl
  below-none n (p ∷ ps) h = ap (λ z. (z && ends_at p.ty.0 p.limit) || ends_below n ps) (le-ltb p.limit n h.0) ∙ below-none n ps h.1

  below-before : (m n : ℕ) (ps : List Pending) (ss : List (Step E)) → Each (λ p. p.limit ≡ m) ps → m < n → ends (steps_before es r ps ss) ≡ (ends_below n ps || ends ss)
  below-before m n [] ss h lt = refl
  below-before m n (p ∷ ps) ss h lt =
      let is = h.0 in
      let here = ends_at p.ty.0 p.limit in
      below-before m n ps (steps_to r p.limit (is_first p.first) (trees_at es p.ty.0) ++ ss) h.1 lt
      ∙ ap (λ z. ends_below n ps || z) (ends-append (steps_to r p.limit (is_first p.first) (trees_at es p.ty.0)) ss ∙ ap (λ z. z || ends ss) (alike r p.limit (is_first p.first) false (trees_at es p.ty.0)).0)
      ∙ or-swap (ends_below n ps) here (ends ss)
      ∙ ap (λ z. ((z && here) || ends_below n ps) || ends ss) (sym (lt-ltb p.limit n (omega (arith, is, lt))))

  -- all that was put on the stack waits below a limit
  below-all : (m n : ℕ) (ps : List Pending) → Each (λ p. p.limit ≡ m) ps → m < n → ends (pending_steps es r ps) ≡ ends_below n ps
  below-all m n ps h lt = below-before m n ps [] h lt ∙ or-false (ends_below n ps)

  before-append : (ps qs : List Pending) (ss : List (Step E)) → steps_before es r (ps ++ qs) ss ≡ steps_before es r qs (steps_before es r ps ss)
  before-append [] qs ss = refl
  before-append (p ∷ ps) qs ss = before-append ps qs (steps_to r p.limit (is_first p.first) (trees_at es p.ty.0) ++ ss)

  before-more : (ps : List Pending) (ss ts : List (Step E)) → steps_before es r ps (ss ++ ts) ≡ steps_before es r ps ss ++ ts
  before-more [] ss ts = refl
  before-more (p ∷ ps) ss ts =
      ap (steps_before es r ps) (sym (append_assoc (steps_to r p.limit (is_first p.first) (trees_at es p.ty.0)) ss ts)) ∙ before-more ps (steps_to r p.limit (is_first p.first) (trees_at es p.ty.0) ++ ss) ts

  steps-on-top : (ps above : List Pending) → pending_steps es r (ps ++ above) ≡ pending_steps es r above ++ pending_steps es r ps
  steps-on-top ps above = before-append ps above [] ∙ before-more above [] (pending_steps es r ps)

  -- ---- the invariant
  -- a type that was visited has steps, and if they end, then so does something that waits below its limit
  pub record IsBehind (ps : List Pending) (v : Visit) : Type 0 where
    pub has_steps : 0 < length (steps_to r v.limit false (trees_at es v.ty))
    pub waits : ends_at v.ty v.limit ≡ true → ends_below v.limit ps ≡ true

  -- the stack decides as all steps do
  pub record Goes (all : List (Step E)) (seen : Visit → Bool) (ps : List Pending) : Type 0 where
    pub held : ArePending es ps
    pub falls : Falls ps
    pub same : first_end all ≡ first_end (pending_steps es r ps)
    pub behind : (v : Visit) → seen v ≡ true → IsBehind ps v

  pub goes-first : (n : ℕ) (all : List (Step E)) (seen : Visit → Bool) (ps : List Pending) → ArePending es ps → AreOnTop n [] ps → pending_steps es r ps ≡ all ++ [] → ((v : Visit) → seen v ≡ true → ⊥) → Goes all seen ps
  goes-first n all seen ps held top is fresh = record {
    held = held;
    falls = subst Falls (sym top.1) (falls-same n top.0 top.2);
    same = ap first_end (sym (append-nil all)) ∙ ap first_end (sym is);
    behind = λ v h. absurd (fresh v h);
  }

  module _ (all : List (Step E)) (old new : Visit → Bool) (ps rest : List Pending) (p : Pending) (goes : Goes all old ps) (popped : ps ≡ rest ++ p ∷ [])
      (one : (v : Visit) → new v ≡ true → (old v ≡ true) ⊎ (v ≡ visit_at p.ty p.limit)) where
    abbrev here : List (Step E)
    here = steps_to r p.limit (is_first p.first) (trees_at es p.ty.0)

    left : Falls rest × Each (λ q. p.limit ≤ q.limit) rest
    left = falls-last rest p (subst Falls popped goes.falls)

    both : pending_steps es r ps ≡ here ++ pending_steps es r rest
    both = push-steps es r rest ps p popped

    here-ends : ends here ≡ ends_at p.ty.0 p.limit
    here-ends = (alike r p.limit (is_first p.first) false (trees_at es p.ty.0)).0

    here-long : length here ≡ length (steps_to r p.limit false (trees_at es p.ty.0))
    here-long = (alike r p.limit (is_first p.first) false (trees_at es p.ty.0)).1

    -- below a limit that is not above that of the last one nothing waits
    none-below : (n : ℕ) → n ≤ p.limit → ends_below n ps ≡ false
    none-below n le =
        ap (ends_below n) popped ∙ below-append n rest (p ∷ [])
        ∙ ap (λ z. z || ends_below n (p ∷ [])) (below-none n rest (each-kept (λ (q : Pending). p.limit ≤ q.limit) (λ q. n ≤ q.limit) (λ q e. omega (arith, e, le)) rest left.1))
        ∙ below-none n (p ∷ []) (le, tt)

    -- below another the last one waits last
    last-below : (n : ℕ) → p.limit < n → ends_below n ps ≡ (ends_below n rest || ends here)
    last-below n lt =
        ap (ends_below n) popped ∙ below-append n rest (p ∷ [])
        ∙ ap (λ z. ends_below n rest || z) (or-false (nat_lt p.limit n && ends_at p.ty.0 p.limit) ∙ ap (λ z. z && ends_at p.ty.0 p.limit) (lt-ltb p.limit n lt) ∙ sym here-ends)

    -- ---- it was visited before
    module _ (before : old (visit_at p.ty p.limit) ≡ true) where
      quiet : ends_at p.ty.0 p.limit ≡ false
      quiet = by (ends_at p.ty.0 p.limit) refl
        where
          by : (x : Bool) → ends_at p.ty.0 p.limit ≡ x → x ≡ false
          by true e = let w = (goes.behind (visit_at p.ty p.limit) before).waits e in let n = none-below p.limit (omega arith) in sym w ∙ n
          by false e = refl

      same-below : (n : ℕ) → ends_below n ps ≡ ends_below n rest
      same-below n =
          ap (ends_below n) popped ∙ below-append n rest (p ∷ []) ∙ ap (λ z. ends_below n rest || ((nat_lt p.limit n && z) || false)) quiet ∙ nothing (ends_below n rest) (nat_lt p.limit n)

      still : (v : Visit) → old v ≡ true → IsBehind rest v
      still v h = record { has_steps = (goes.behind v h).has_steps; waits = λ e. sym (same-below v.limit) ∙ (goes.behind v h).waits e }

      pub passed : Goes all new rest
      passed = record {
        held = (each-pop (λ (q : Pending). Has es types q.ty.0) rest p (subst (ArePending es) popped goes.held)).0;
        falls = left.0;
        same = goes.same ∙ ap first_end both ∙ end-behind here (pending_steps es r rest) (here-ends ∙ quiet);
        behind = λ v h. by v (one v h);
      }
        where
          by : (v : Visit) → (old v ≡ true) ⊎ (v ≡ visit_at p.ty p.limit) → IsBehind rest v
          by v (inl h) = still v h
          by v (inr e) = subst (IsBehind rest) (sym e) (still (visit_at p.ty p.limit) before)

      pub passed-fewer : length (pending_steps es r rest) < length (pending_steps es r ps)
      passed-fewer =
          let steps = (goes.behind (visit_at p.ty p.limit) before).has_steps in
          omega (arith, ap length both, length-append here (pending_steps es r rest), here-long, steps)

    -- ---- it is visited now
    pub visit-fewer : (m : Met) (now : List Pending) → IsVisit es r p rest (Ok m) now → length (pending_steps es r now) < length (pending_steps es r ps)
    visit-fewer m now h = let e = ap length (both ∙ h) in omega (arith, e)

    pub decided-local : (t : Ty) (now : List Pending) → IsVisit es r p rest (Ok (Local t)) now → first_end all ≡ Some (met_local (trees_at es t.0))
    decided-local t now h = goes.same ∙ ap first_end (both ∙ h)

    pub decided-open : (t : Ty) (now : List Pending) → IsVisit es r p rest (Ok (Uncovered t)) now → first_end all ≡ Some (met_open (trees_at es t.0))
    decided-open t now h = goes.same ∙ ap first_end (both ∙ h)

    pub visit-refused : (x : WalkError E) (now : List Pending) → IsVisit es r p rest (Err x) now → IsDecisive all (Err x)
    visit-refused (Normalize e) now h = goes.same ∙ ap first_end (both ∙ h.1)
    visit-refused Deep now h = (h.0, h.1, goes.same ∙ ap first_end (both ∙ h.3))
    visit-refused Memory now h = tt

    module _ (m : Met) (on : GoesOn m) (now : List Pending) (visit : IsVisit es r p rest (Ok m) now) (top : AreOnTop (p.limit - 1) rest now) where
      inner : here ≡ step_met es m ∷ pending_steps es r top.0
      inner =
          append_cancel_right here (step_met es m ∷ pending_steps es r top.0) (pending_steps es r rest)
          (visit ∙ ap (λ z. step_met es m ∷ z) (ap (pending_steps es r) top.1 ∙ steps-on-top rest top.0))

      inner-ends : ends here ≡ ends (pending_steps es r top.0)
      inner-ends = ap ends inner ∙ (step-over es m on (pending_steps es r top.0)).0

      positive-limit : 0 < p.limit
      positive-limit = not-deep es r p.limit (is_first p.first) (trees_at es p.ty.0) m (pending_steps es r top.0) inner

      now-below : (n : ℕ) → p.limit < n → ends_below n ps ≡ ends_below n now
      now-below n lt =
          last-below n lt ∙ ap (λ z. ends_below n rest || z) (inner-ends ∙ below-all (p.limit - 1) n top.0 top.2 (omega (arith, lt)))
          ∙ sym (below-append n rest top.0) ∙ ap (ends_below n) (sym top.1)

      still-behind : (v : Visit) → old v ≡ true → IsBehind now v
      still-behind v h = record { has_steps = (goes.behind v h).has_steps; waits = λ e. by (nat_lt p.limit v.limit) refl ((goes.behind v h).waits e) }
        where
          by : (x : Bool) → nat_lt p.limit v.limit ≡ x → ends_below v.limit ps ≡ true → ends_below v.limit now ≡ true
          by true e w = sym (now-below v.limit (ltb-true p.limit v.limit e)) ∙ w
          by false e w = let n = none-below v.limit (ltb-false p.limit v.limit e) in cc

      this-behind : IsBehind now (visit_at p.ty p.limit)
      this-behind = record {
        has_steps = let e = ap length inner in omega (arith, here-long, e);
        waits = λ k.
            ap (ends_below p.limit) top.1 ∙ below-append p.limit rest top.0 ∙ ap (λ z. z || ends_below p.limit top.0) (below-none p.limit rest left.1)
            ∙ sym (below-all (p.limit - 1) p.limit top.0 top.2 (omega (arith, positive-limit))) ∙ sym inner-ends ∙ here-ends ∙ k;
      }

      pub visited : ArePending es now → Goes all new now
      visited held = record {
        held = held;
        falls = subst Falls (sym top.1)
            (falls-on-top (p.limit - 1) rest top.0 left.0 (each-kept (λ (q : Pending). p.limit ≤ q.limit) (λ q. p.limit - 1 ≤ q.limit) (λ q e. omega (arith, e)) rest left.1) top.2);
        same = goes.same ∙ ap first_end (both ∙ visit) ∙ (step-over es m on (pending_steps es r now)).1;
        behind = λ v h. by v (one v h);
      }
        where
          by : (v : Visit) → (old v ≡ true) ⊎ (v ≡ visit_at p.ty p.limit) → IsBehind now v
          by v (inl h) = still-behind v h
          by v (inr e) = subst (IsBehind now) (sym e) this-behind
