-- The tests for names, lifetimes and their meanings: faults 3 to 7.
use Rattle.std.proofs.Common.{◌≡◌, ℕ, zero, suc, Bool, true, false, cond, List, [], ◌∷◌, ◌++◌, map, filter, find, length, Option, Some, None, is_some, option_map, option_and_then, bytes_eq, refl, sym, ap, subst, ◌∙◌}
use Rattle.std.specs.Prelude.{◌||◌, ◌&&◌, not, ◌==◌, nat_le}
use Rattle.std.specs.Option.{option_map_or, option_or}
use Rattle.std.specs.List.{list_any, flat_map}
use Rattle.std.proofs.lemmas.Cmp.{nat_list_eq_equiv}
use Rattle.std.proofs.lemmas.List.{append-nil}
use Rattle.std.proofs.lemmas.List.Folds.{list_any-append}
use Rattle.std.proofs.lemmas.Slice.Eq.{bytes_eq-Decides}
use Rattle.type_terms.specs.Promised.Label.{Sort, of_type, of_const, of_lifetime}
use Rattle.type_terms.specs.Promised.Worlds.{World, CrateDecl, sees, sees_within}
use Rattle.text_language.specs.Promised.Syntax.{Line, crate_line, struct_line, trait_line, impl_line, prove_line, refute_line, later_line, supers_line, bound_item, lifetime_item}
use Rattle.text_language.specs.Promised.Declarations.{Declarations, NamedCrate, NamedStruct, NamedTrait, Known, a_crate, a_struct, a_trait, known, world_of, impl_owner}
use Rattle.text_language.specs.Uses.{Use, uses, params_of}
use Rattle.text_language.specs.Promised.Faults.{is_among, repeats, with_own}
use Rattle.text_language.specs.Faults.{static_name, is_misplaced, declares_taken, is_taken_param, is_in_scope, is_taken_binder, takes_names, is_line_param, is_known_name, is_unknown_use, uses_unknown, number_of_crate, looking_crate, home_of, is_hidden_name, is_hidden_use, uses_hidden, is_crate, is_type_of, is_trait_of, is_param_of, is_other_sort, uses_other_sort}
use Rattle.text_language.specs.Promised.Mentions.{Mention, crate_mention, name_mention, trait_mention, lifetime_mention, binder_mention, variable_mention, misfit_mention, dyn_mention, list_mention, number_mention, type_mention, line_mentions, line_params}
use Rattle.text_language.specs.Promised.LineFaults.{faults_by_kind, mention_faults, lifetimes_in_scope, is_unknown_name, is_out_of_sight, is_unseen_name, fits_place}
use Rattle.text_language.proofs.SameMentions.{as_uses, mentions-are, params-same}
use Rattle.text_language.proofs.SameFaultsPlaces.{at_lifetime, is_misfit, Covered, line-covered}
use Rattle.text_language.proofs.SameFaultsOrder.{or-true, holds}
use Rattle.type_terms.proofs.BooleanBasics.{or-assoc, left-false, no-more as or-false, or-swap, right-false}

-- ---- lists
pub any-same : {X : Type 0} (p q : X → Bool) → ((x : X) → p x ≡ q x) → (xs : List X) → list_any p xs ≡ list_any q xs
any-same p q h [] = refl
any-same p q h (x ∷ xs) = ap (λ b. b || list_any p xs) (h x) ∙ ap (λ b. q x || b) (any-same p q h xs)

pub any-none : {X : Type 0} (p : X → Bool) → ((x : X) → p x ≡ false) → (xs : List X) → list_any p xs ≡ false
any-none p h [] = refl
any-none p h (x ∷ xs) = ap (λ b. b || list_any p xs) (h x) ∙ any-none p h xs

pub any-flat : {X Y : Type 0} (p : Y → Bool) (f : X → List Y) (xs : List X) → list_any p (flat_map f xs) ≡ list_any (λ x. list_any p (f x)) xs
any-flat p f [] = refl
any-flat p f (x ∷ xs) = list_any-append p (f x) (flat_map f xs) ∙ ap (λ b. list_any p (f x) || b) (any-flat p f xs)

pub any-or : {X : Type 0} (p q : X → Bool) (xs : List X) → list_any (λ x. p x || q x) xs ≡ list_any p xs || list_any q xs
any-or p q [] = refl
any-or p q (x ∷ xs) = ap (λ b. (p x || q x) || b) (any-or p q xs) ∙ or-swap (p x) (q x) (list_any p xs) (list_any q xs)

-- where a test that includes no element is the same for two
pub any-given : {X : Type 0} (f p q : X → Bool) → ((x : X) → f x ≡ false → p x ≡ q x) → (xs : List X) → list_any f xs ≡ false → list_any p xs ≡ list_any q xs
any-given f p q h [] e = refl
any-given f p q h (x ∷ xs) e =
    ap (λ b. b || list_any p xs) (h x (left-false (f x) (list_any f xs) e)) ∙ ap (λ b. q x || b) (any-given f p q h xs (right-false (f x) (list_any f xs) e))

-- a test of what is mentioned and a test of what is used
pub lifted : (p : Mention → Bool) (f : Use → Bool) → ((m : Mention) → p m ≡ list_any f (as_uses m)) → (ms : List Mention) → list_any p ms ≡ list_any f (flat_map as_uses ms)
lifted p f h ms = any-same p (λ m. list_any f (as_uses m)) h ms ∙ sym (any-flat f as_uses ms)

pub of-line : (d : Declarations) (l : Line) (p : Mention → Bool) (f : Use → Bool) → ((m : Mention) → p m ≡ list_any f (as_uses m)) → list_any p (line_mentions d l) ≡ list_any f (uses d l)
of-line d l p f h = lifted p f h (line_mentions d l) ∙ ap (list_any f) (mentions-are d l)

-- ---- 3
misplaced : (s x : Bool) → cond s true x ≡ (s || x) || false
misplaced true x = refl
misplaced false x = sym (or-false x)

impl-misplaced : (s x : Bool) → cond s false x ≡ (not s && x) || false
impl-misplaced true x = refl
impl-misplaced false x = sym (or-false x)

pub misplaced-is : (d : Declarations) (l : Line) → holds 3 (faults_by_kind d l) ≡ is_misplaced d l
misplaced-is d (crate_line n us) = refl
misplaced-is d (struct_line f n ps fs) = sym (misplaced d.in_section (nat_le (length d.crates) 1))
misplaced-is d (trait_line f a n ps bs) = sym (misplaced d.in_section (nat_le (length d.crates) 1))
misplaced-is d (impl_line ps h ks) = sym (impl-misplaced d.in_section (nat_le (length d.crates) 1))
misplaced-is d (prove_line c ps a bs ks) = refl
misplaced-is d (refute_line c ps a bs) = refl
misplaced-is d (later_line n) = refl
misplaced-is d (supers_line n) = refl

-- ---- 4
pub declared-is : (d : Declarations) (l : Line) → holds 4 (faults_by_kind d l) ≡ declares_taken d l
declared-is d (crate_line n us) = or-false (is_some (known d n))
declared-is d (struct_line f n ps fs) = or-false (is_some (known d n))
declared-is d (trait_line f a n ps bs) = or-false (is_some (known d n))
declared-is d (impl_line ps h ks) = refl
declared-is d (prove_line c ps a bs ks) = refl
declared-is d (refute_line c ps a bs) = refl
declared-is d (later_line n) = refl
declared-is d (supers_line n) = refl

same-text : (n m : List ℕ) → bytes_eq n m ≡ bytes_eq m n
same-text n m = nat_list_eq_equiv.symm n m

module _ (l : Line) where
  scope-is : (s : List (List (List ℕ))) (n : List ℕ) → is_among n (lifetimes_in_scope l s) ≡ bytes_eq n static_name || is_in_scope l s n
  scope-is s n =
      ap (λ b. b || is_among n ((line_params l).lifetimes ++ flat_map (λ b. b) s)) (same-text static_name n)
      ∙ ap (λ b. bytes_eq n static_name || b)
      (list_any-append (λ m. bytes_eq m n) (line_params l).lifetimes (flat_map (λ b. b) s)
      ∙ ap (λ b. is_among n (line_params l).lifetimes || b) (any-flat (λ m. bytes_eq m n) (λ b. b) s)
      ∙ ap (λ ps. is_among n ps.lifetimes || list_any (is_among n) s) (params-same l))

  taken-in-scope : (s : List (List (List ℕ))) (ns : List (List ℕ)) → list_any (λ n. is_among n (lifetimes_in_scope l s)) ns ≡ is_among static_name ns || list_any (is_in_scope l s) ns
  taken-in-scope s ns =
      any-same (λ n. is_among n (lifetimes_in_scope l s)) (λ n. bytes_eq n static_name || is_in_scope l s n) (scope-is s) ns
      ∙ any-or (λ n. bytes_eq n static_name) (is_in_scope l s) ns

  pub binder-is : (d : Declarations) (m : Mention) → holds 4 (mention_faults d l m) ≡ list_any (is_taken_binder l) (as_uses m)
  binder-is d (crate_mention n) = refl
  binder-is d (name_mention p n k) = refl
  binder-is d (trait_mention n k) = refl
  binder-is d (lifetime_mention s n) = refl
  binder-is d (binder_mention s []) = refl
  binder-is d (binder_mention s (n ∷ ns)) = ap (λ b. (repeats (n ∷ ns) || b) || false) (taken-in-scope s (n ∷ ns))
  binder-is d (variable_mention p n) = refl
  binder-is d misfit_mention = refl
  binder-is d (dyn_mention []) = refl
  binder-is d (dyn_mention (bound_item b n args ∷ is)) = refl
  binder-is d (dyn_mention (lifetime_item n ∷ is)) = refl
  binder-is d (list_mention k) = refl
  binder-is d (number_mention n) = refl
  binder-is d (type_mention k) = refl

-- the test of the line's own parameters
abbrev pub takes_param : Declarations → Line → Bool
takes_param e l =
    repeats (lifetimes_in_scope l []) || repeats ((line_params l).types ++ (line_params l).consts) || list_any (λ n. is_some (known e n)) ((line_params l).types ++ (line_params l).consts)

taken-param-is : (d : Declarations) (l : Line) → takes_param (with_own d l) l ≡ is_taken_param d l
taken-param-is d l =
    let e : Declarations = with_own d l in
    ap (λ ps. repeats (static_name ∷ (ps.lifetimes ++ [])) || repeats (ps.types ++ ps.consts) || list_any (λ n. is_some (known e n)) (ps.types ++ ps.consts)) (params-same l)
    ∙ by (params_of l).lifetimes (repeats ((params_of l).types ++ (params_of l).consts)) (list_any (λ n. is_some (known e n)) ((params_of l).types ++ (params_of l).consts))
  where
    order : (a b c x : Bool) → ((a || b) || c) || x ≡ b || (a || (c || x))
    order true true c x = refl
    order true false c x = refl
    order false b c x = ap (λ z. z || x) refl ∙ or-assoc b c x

    by : (ls : List (List ℕ)) (c x : Bool) → (repeats (static_name ∷ (ls ++ [])) || c) || x ≡ repeats ls || (is_among static_name ls || (c || x))
    by ls c x = ap (λ z. (repeats (static_name ∷ z) || c) || x) (append-nil ls) ∙ order (is_among static_name ls) (repeats ls) c x

-- what it adds to a list of tests
pub takes-is : (d : Declarations) (l : Line)
    → holds 4 (faults_by_kind d l) || (list_any (λ m. holds 4 (mention_faults (with_own d l) l m)) (line_mentions (with_own d l) l) || (takes_param (with_own d l) l || false)) ≡ takes_names d l
takes-is d l =
    let e : Declarations = with_own d l in
    let bs : Bool = list_any (is_taken_binder l) (uses e l) in
    ap (λ b. b || (list_any (λ m. holds 4 (mention_faults e l m)) (line_mentions e l) || (takes_param e l || false))) (declared-is d l)
    ∙ ap (λ b. declares_taken d l || (b || (takes_param e l || false))) (of-line e l (λ m. holds 4 (mention_faults e l m)) (is_taken_binder l) (binder-is l e))
    ∙ ap (λ b. declares_taken d l || (bs || b)) (or-false (takes_param e l) ∙ taken-param-is d l)
    ∙ ap (λ b. declares_taken d l || b) (swap bs (is_taken_param d l))
  where
    swap : (a b : Bool) → a || b ≡ b || a
    swap true b = sym (or-true b)
    swap false b = sym (or-false b)

-- then no parameter stands for anything else
none : {X : Type 0} (o : Option X) → is_some o ≡ false → o ≡ None
none None e = refl
none (Some x) e = absurd cc

among-none : (d : Declarations) (n : List ℕ) (ns : List (List ℕ)) → list_any (λ m. is_some (known d m)) ns ≡ false → is_among n ns ≡ true → known d n ≡ None
among-none d n [] e h = absurd cc
among-none d n (m ∷ ns) e h =
    by (bytes_eq m n) refl h (left-false (is_some (known d m)) (list_any (λ x. is_some (known d x)) ns) e)
    (among-none d n ns (right-false (is_some (known d m)) (list_any (λ x. is_some (known d x)) ns) e))
  where
    by : (b : Bool) → bytes_eq m n ≡ b → b || is_among n ns ≡ true → is_some (known d m) ≡ false → (is_among n ns ≡ true → known d n ≡ None) → known d n ≡ None
    by true f g k r = subst (λ x. known d x ≡ None) ((bytes_eq-Decides m n).0 f) (none (known d m) k)
    by false f g k r = r g

pub param-unknown : (d : Declarations) (l : Line) → takes_names d l ≡ false → (n : List ℕ) → is_line_param l n ≡ true → known (with_own d l) n ≡ None
param-unknown d l t n h =
    let ps : Bool = is_taken_param d l in
    let bs : Bool = list_any (is_taken_binder l) (uses (with_own d l) l) in
    let os : List (List ℕ) = (params_of l).types ++ (params_of l).consts in
    let x : Bool = list_any (λ m. is_some (known (with_own d l) m)) os in
    let p : ps ≡ false = left-false ps bs (right-false (declares_taken d l) (ps || bs) t) in
    let a : Bool = repeats (params_of l).lifetimes in
    let b : Bool = is_among static_name (params_of l).lifetimes in
    let q : x ≡ false = right-false (repeats os) x (right-false b (repeats os || x) (right-false a (b || (repeats os || x)) p)) in
    among-none (with_own d l) n os q h

-- ---- 5
module _ (d : Declarations) (l : Line) where
  unknown-name : (n : List ℕ) → is_unknown_name (with_own d l) l n ≡ not (is_known_name d l n)
  unknown-name n = ap (λ ps. not (is_among n (ps.types ++ ps.consts) || is_some (known (with_own d l) n))) (params-same l)

  unknown-is : (m : Mention) → holds 5 (mention_faults (with_own d l) l m) ≡ list_any (is_unknown_use d l) (as_uses m)
  unknown-is (crate_mention n) = ap (λ b. b || false) (unknown-name n)
  unknown-is (name_mention p n k) = ap (λ b. b || false) (unknown-name n)
  unknown-is (trait_mention n k) = ap (λ b. b || false) (unknown-name n)
  unknown-is (lifetime_mention s n) = ap (λ b. not b || false) (scope-is l s n)
  unknown-is (binder_mention s []) = refl
  unknown-is (binder_mention s (n ∷ ns)) = refl
  unknown-is (variable_mention p n) = refl
  unknown-is misfit_mention = refl
  unknown-is (dyn_mention []) = refl
  unknown-is (dyn_mention (bound_item b n args ∷ is)) = refl
  unknown-is (dyn_mention (lifetime_item n ∷ is)) = refl
  unknown-is (list_mention k) = refl
  unknown-is (number_mention n) = refl
  unknown-is (type_mention k) = refl

  pub unknowns-are : list_any (λ m. holds 5 (mention_faults (with_own d l) l m)) (line_mentions (with_own d l) l) ≡ uses_unknown d l
  unknowns-are = of-line (with_own d l) l (λ m. holds 5 (mention_faults (with_own d l) l m)) (is_unknown_use d l) unknown-is

-- ---- 6
-- what a world sees depends on its crates alone
sees-by : (V W : World) → V.crates ≡ W.crates → (n c h : ℕ) → sees_within n V c h ≡ sees_within n W c h
sees-by V W e zero c h = refl
sees-by V W e (suc n) c h =
    ap (λ b. (c == h) || (h == 0) || b)
    (any-same (λ x. list_any (λ u. sees_within n V u h) x.uses) (λ x. list_any (λ u. sees_within n W u h) x.uses)
    (λ x. any-same (λ u. sees_within n V u h) (λ u. sees_within n W u h) (λ u. sees-by V W e n u h) x.uses) (filter (λ (x : CrateDecl). x.name == c) V.crates)
    ∙ ap (λ cs. list_any (λ x. list_any (λ u. sees_within n W u h) x.uses) (filter (λ (x : CrateDecl). x.name == c) cs)) e)

pub same-crates : (d : Declarations) (l : Line) → (with_own d l).crates ≡ d.crates
same-crates d (crate_line n us) = refl
same-crates d (struct_line f n ps fs) = refl
same-crates d (trait_line f a n ps bs) = refl
same-crates d (impl_line ps h ks) = refl
same-crates d (prove_line c ps a bs ks) = refl
same-crates d (refute_line c ps a bs) = refl
same-crates d (later_line n) = refl
same-crates d (supers_line n) = refl

same-sees : (d : Declarations) (l : Line) (c h : ℕ) → sees (world_of (with_own d l)) c h ≡ sees (world_of d) c h
same-sees d l c h =
    let same : (world_of (with_own d l)).crates ≡ (world_of d).crates = ap (λ cs. map (λ (c : NamedCrate). c.item) cs) (same-crates d l) in
    sees-by (world_of (with_own d l)) (world_of d) same (length (world_of (with_own d l)).crates) c h ∙ ap (λ cs. sees_within (length cs) (world_of d) c h) same

-- by what a name stands for
abbrev unseen : (ℕ → Bool) → Option Known → Bool
unseen u w = option_map_or (λ k. elim k [ a_crate i ↦ false | a_struct i h kinds ↦ u h | a_trait i h a kinds ↦ u h ]) w false

unseen-none : (u : ℕ → Bool) → ((h : ℕ) → u h ≡ false) → (w : Option Known) → unseen u w ≡ false
unseen-none u e None = refl
unseen-none u e (Some (a_crate i)) = refl
unseen-none u e (Some (a_struct i h kinds)) = e h
unseen-none u e (Some (a_trait i h a kinds)) = e h

-- the crate that looks doesn't see h
abbrev unseen_by : Declarations → Option ℕ → ℕ → Bool
unseen_by d o h = option_map_or (λ c. not (sees (world_of d) c h)) o false

-- it is the one of the test
Judges : Declarations → Line → Option ℕ → Type 0
Judges d l o = (h : ℕ) → is_out_of_sight (with_own d l) l h ≡ unseen_by d o h

module _ (d : Declarations) (l : Line) (t : takes_names d l ≡ false) where
  abbrev hidden : ℕ → Option Known → Bool
  hidden c w = option_map_or (λ h. not (sees (world_of d) c h)) (option_and_then home_of w) false

  unseen-some : (c : ℕ) → Judges d l (Some c) → (w : Option Known) → unseen (is_out_of_sight (with_own d l) l) w ≡ hidden c w
  unfolding Judges
  unseen-some c j None = refl
  unseen-some c j (Some (a_crate i)) = refl
  unseen-some c j (Some (a_struct i h kinds)) = j h
  unseen-some c j (Some (a_trait i h a kinds)) = j h

  unseen-name : (c : ℕ) → Judges d l (Some c) → (n : List ℕ) → is_unseen_name (with_own d l) l n ≡ is_hidden_name d l c n
  unseen-name c j n = unseen-some c j (known (with_own d l) n) ∙ by (is_line_param l n) (λ e. ap (hidden c) (param-unknown d l t n e))
    where
      by : (b : Bool) → (b ≡ true → hidden c (known (with_own d l) n) ≡ false) → hidden c (known (with_own d l) n) ≡ not b && hidden c (known (with_own d l) n)
      by true f = f refl
      by false f = refl

  none-unseen : Judges d l None → (n : List ℕ) → is_unseen_name (with_own d l) l n ≡ false
  unfolding Judges
  none-unseen j n = unseen-none (is_out_of_sight (with_own d l) l) j (known (with_own d l) n)

  unseen-is : (c : ℕ) → Judges d l (Some c) → (m : Mention) → holds 6 (mention_faults (with_own d l) l m) ≡ list_any (is_hidden_use d l c) (as_uses m)
  unseen-is c j (crate_mention n) = refl
  unseen-is c j (name_mention p n k) = ap (λ b. b || false) (unseen-name c j n)
  unseen-is c j (trait_mention n k) = ap (λ b. b || false) (unseen-name c j n)
  unseen-is c j (lifetime_mention s n) = refl
  unseen-is c j (binder_mention s []) = refl
  unseen-is c j (binder_mention s (n ∷ ns)) = refl
  unseen-is c j (variable_mention p n) = refl
  unseen-is c j misfit_mention = refl
  unseen-is c j (dyn_mention []) = refl
  unseen-is c j (dyn_mention (bound_item b n args ∷ is)) = refl
  unseen-is c j (dyn_mention (lifetime_item n ∷ is)) = refl
  unseen-is c j (list_mention k) = refl
  unseen-is c j (number_mention n) = refl
  unseen-is c j (type_mention k) = refl

  nothing-unseen : Judges d l None → (m : Mention) → holds 6 (mention_faults (with_own d l) l m) ≡ false
  nothing-unseen j (crate_mention n) = refl
  nothing-unseen j (name_mention p n k) = ap (λ b. b || false) (none-unseen j n)
  nothing-unseen j (trait_mention n k) = ap (λ b. b || false) (none-unseen j n)
  nothing-unseen j (lifetime_mention s n) = refl
  nothing-unseen j (binder_mention s ns) = refl
  nothing-unseen j (variable_mention p n) = refl
  nothing-unseen j misfit_mention = refl
  nothing-unseen j (dyn_mention []) = refl
  nothing-unseen j (dyn_mention (bound_item b n args ∷ is)) = refl
  nothing-unseen j (dyn_mention (lifetime_item n ∷ is)) = refl
  nothing-unseen j (list_mention k) = refl
  nothing-unseen j (number_mention n) = refl
  nothing-unseen j (type_mention k) = refl

  judged : Judges d l (looking_crate d l) → list_any (λ m. holds 6 (mention_faults (with_own d l) l m)) (line_mentions (with_own d l) l) ≡ uses_hidden d l
  judged j = by (looking_crate d l) j
    where
      by : (o : Option ℕ) → Judges d l o
          → list_any (λ m. holds 6 (mention_faults (with_own d l) l m)) (line_mentions (with_own d l) l) ≡ option_map_or (λ c. list_any (is_hidden_use d l c) (uses (with_own d l) l)) o false
      by None e = any-none (λ m. holds 6 (mention_faults (with_own d l) l m)) (nothing-unseen e) (line_mentions (with_own d l) l)
      by (Some c) e = of-line (with_own d l) l (λ m. holds 6 (mention_faults (with_own d l) l m)) (is_hidden_use d l c) (unseen-is c e)

asker : (g : ℕ → Bool) (f : Option NamedCrate) (s : Option NamedStruct) (t : Option NamedTrait)
    → option_map_or (λ k. g k.item.name) f false ≡ option_map_or g (option_and_then number_of_crate (option_or (option_map (λ c. a_crate c.item.name) f) (option_or (option_map (λ s. a_struct s.item.name s.item.home s.kinds) s) (option_map (λ t. a_trait t.item.name t.item.home t.item.is_auto t.kinds) t)))) false
asker g (Some c) s t = refl
asker g None (Some s) t = refl
asker g None None (Some t) = refl
asker g None None None = refl

asker-judges : (d : Declarations) (c : List ℕ) (h : ℕ)
    → option_map_or (λ k. not (sees (world_of d) k.item.name h)) (find (λ k. bytes_eq k.text c) d.crates) false ≡ unseen_by d (option_and_then number_of_crate (known d c)) h
asker-judges d c h =
    asker (λ c. not (sees (world_of d) c h)) (find (λ k. bytes_eq k.text c) d.crates) (find (λ s. bytes_eq s.text c) d.structs) (find (λ t. bytes_eq t.text c) d.traits)

no-crate-unseen : (d : Declarations) (l : Line) (ns : List (List ℕ)) → list_any (λ m. holds 6 (mention_faults d l m)) (map crate_mention ns) ≡ false
no-crate-unseen d l [] = refl
no-crate-unseen d l (n ∷ ns) = no-crate-unseen d l ns

pub unseen-are : (d : Declarations) (l : Line) → takes_names d l ≡ false → list_any (λ m. holds 6 (mention_faults (with_own d l) l m)) (line_mentions (with_own d l) l) ≡ uses_hidden d l
unfolding Judges
unseen-are d (crate_line n us) t = no-crate-unseen d (crate_line n us) us
unseen-are d (struct_line f n ps fs) t = let l : Line = struct_line f n ps fs in judged d l t (λ h. ap not (same-sees d l (impl_owner d) h))
unseen-are d (trait_line f a n ps bs) t = let l : Line = trait_line f a n ps bs in judged d l t (λ h. ap not (same-sees d l (impl_owner d) h))
unseen-are d (impl_line ps h ks) t = judged d (impl_line ps h ks) t (λ h. refl)
unseen-are d (prove_line c ps a bs ks) t = judged d (prove_line c ps a bs ks) t (asker-judges d c)
unseen-are d (refute_line c ps a bs) t = judged d (refute_line c ps a bs) t (asker-judges d c)
unseen-are d (later_line n) t = refl
unseen-are d (supers_line n) t = refl

-- ---- 7
crate-found : (f : Option NamedCrate) (s : Option NamedStruct) (t : Option NamedTrait)
    → is_some f ≡ option_map_or is_crate (option_or (option_map (λ c. a_crate c.item.name) f) (option_or (option_map (λ s. a_struct s.item.name s.item.home s.kinds) s) (option_map (λ t. a_trait t.item.name t.item.home t.item.is_auto t.kinds) t))) false
crate-found (Some c) s t = refl
crate-found None (Some s) t = refl
crate-found None None (Some t) = refl
crate-found None None None = refl

any-found : {X : Type 0} (p : X → Bool) (xs : List X) → list_any p xs ≡ is_some (find p xs)
any-found p [] = refl
any-found p (x ∷ xs) = by (p x) (any-found p xs)
  where
    by : (b : Bool) → list_any p xs ≡ is_some (find p xs) → b || list_any p xs ≡ is_some (cond b (Some x) (find p xs))
    by true e = refl
    by false e = e

crate-is : (d : Declarations) (n : List ℕ) → list_any (λ c. bytes_eq c.text n) d.crates ≡ option_map_or is_crate (known d n) false
crate-is d n =
    any-found (λ c. bytes_eq c.text n) d.crates
    ∙ crate-found (find (λ c. bytes_eq c.text n) d.crates) (find (λ s. bytes_eq s.text n) d.structs) (find (λ t. bytes_eq t.text n) d.traits)

trait-is : (k : ℕ) (w : Option Known) → option_map_or (λ w. elim w [ a_trait i h a kinds ↦ length kinds == k | _ ↦ false ]) w false ≡ option_map_or (is_trait_of k) w false
trait-is k None = refl
trait-is k (Some (a_crate i)) = refl
trait-is k (Some (a_struct i h kinds)) = refl
trait-is k (Some (a_trait i h a kinds)) = refl

struct-is : (k : ℕ) (w : Option Known) → option_map_or (λ w. elim w [ a_struct i h kinds ↦ length kinds == k | _ ↦ false ]) w false ≡ option_map_or (is_type_of of_type k) w false
struct-is k None = refl
struct-is k (Some (a_crate i)) = refl
struct-is k (Some (a_struct i h kinds)) = refl
struct-is k (Some (a_trait i h a kinds)) = refl

no-struct : (p : Sort) (k : ℕ) (w : Option Known) → (p ≡ of_type → ⊥) → option_map_or (is_type_of p k) w false ≡ false
no-struct p k None e = refl
no-struct p k (Some (a_crate i)) e = by p
  where
    by : (p : Sort) → is_type_of p k (a_crate i) ≡ false
    by of_type = refl
    by of_const = refl
    by of_lifetime = refl
no-struct of_type k (Some (a_struct i h kinds)) e = absurd (e refl)
no-struct of_const k (Some (a_struct i h kinds)) e = refl
no-struct of_lifetime k (Some (a_struct i h kinds)) e = refl
no-struct p k (Some (a_trait i h a kinds)) e = by p
  where
    by : (p : Sort) → is_type_of p k (a_trait i h a kinds) ≡ false
    by of_type = refl
    by of_const = refl
    by of_lifetime = refl

among-append : (n : List ℕ) (xs ys : List (List ℕ)) → is_among n (xs ++ ys) ≡ is_among n xs || is_among n ys
among-append n xs ys = list_any-append (λ m. bytes_eq m n) xs ys

module _ (d : Declarations) (l : Line) (t : takes_names d l ≡ false) where
  abbrev means : List ℕ → Option Known
  means n = known (with_own d l) n

  fits : (p : Sort) (n : List ℕ) (k : ℕ) → at_lifetime (name_mention p n k) ≡ false → fits_place (with_own d l) (params_of l) p n k ≡ cond (is_line_param l n) (is_param_of l p n k) (option_map_or (is_type_of p k) (means n) false)
  fits of_type n k x =
      ap (λ b. (is_among n (params_of l).types && (k == 0)) || b) (struct-is k (means n))
      ∙ by (is_among n (params_of l).types) (is_among n (params_of l).consts) (is_line_param l n) (k == 0) (option_map_or (is_type_of of_type k) (means n) false)
      (among-append n (params_of l).types (params_of l).consts) (λ e. ap (λ w. option_map_or (is_type_of of_type k) w false) (param-unknown d l t n e))
    where
      by : (x y z b s : Bool) → z ≡ x || y → (z ≡ true → s ≡ false) → (x && b) || s ≡ cond z (x && b) s
      by true y true b s e f = ap (λ s. b || s) (f refl) ∙ or-false b
      by true y false b s e f = absurd cc
      by false true true b s e f = f refl
      by false false true b s e f = absurd cc
      by false y false b s e f = refl
  fits of_lifetime n k x = absurd cc
  fits of_const n k x =
      by (is_among n (params_of l).types) (is_among n (params_of l).consts) (is_line_param l n) (k == 0) (option_map_or (is_type_of of_const k) (means n) false)
      (among-append n (params_of l).types (params_of l).consts) (no-struct of_const k (means n) (λ e. absurd cc))
    where
      by : (x y z b s : Bool) → z ≡ x || y → s ≡ false → y && b ≡ cond z (y && b) s
      by x y true b s e f = refl
      by true y false b s e f = absurd cc
      by false true false b s e f = absurd cc
      by false false false b s e f = sym f

  is-trait : (n : List ℕ) (k : ℕ) → not (option_map_or (λ w. elim w [ a_trait i h a kinds ↦ length kinds == k | _ ↦ false ]) (means n) false) ≡ is_line_param l n || not (option_map_or (is_trait_of k) (means n) false)
  is-trait n k = ap not (trait-is k (means n)) ∙ by (is_line_param l n) (λ e. ap (λ w. option_map_or (is_trait_of k) w false) (param-unknown d l t n e))
    where
      by : (b : Bool) → (b ≡ true → option_map_or (is_trait_of k) (means n) false ≡ false) → not (option_map_or (is_trait_of k) (means n) false) ≡ b || not (option_map_or (is_trait_of k) (means n) false)
      by true f = ap not (f refl)
      by false f = refl

  other-sort-is : (m : Mention) → at_lifetime m ≡ false → holds 7 (mention_faults (with_own d l) l m) ≡ list_any (is_other_sort d l) (as_uses m)
  other-sort-is (crate_mention n) x = ap (λ cs. not (list_any (λ (c : NamedCrate). bytes_eq c.text n) cs) || false) (same-crates d l) ∙ ap (λ b. not b || false) (crate-is d n)
  other-sort-is (name_mention p n k) x = ap (λ ps. not (fits_place (with_own d l) ps p n k) || false) (params-same l) ∙ ap (λ b. not b || false) (fits p n k x)
  other-sort-is (trait_mention n k) x = ap (λ b. b || false) (is-trait n k)
  other-sort-is (lifetime_mention s n) x = refl
  other-sort-is (binder_mention s []) x = refl
  other-sort-is (binder_mention s (n ∷ ns)) x = refl
  other-sort-is (variable_mention p n) x = refl
  other-sort-is misfit_mention x = refl
  other-sort-is (dyn_mention []) x = refl
  other-sort-is (dyn_mention (bound_item b n args ∷ is)) x = refl
  other-sort-is (dyn_mention (lifetime_item n ∷ is)) x = refl
  other-sort-is (list_mention k) x = refl
  other-sort-is (number_mention n) x = refl
  other-sort-is (type_mention k) x = refl

  -- a misfit_mention decides alone
  by-misfit : (ms : List Mention) → list_any is_misfit ms ≡ true → (list_any (λ m. holds 7 (mention_faults (with_own d l) l m)) ms ≡ true) × (list_any (λ m. list_any (is_other_sort d l) (as_uses m)) ms ≡ true)
  by-misfit [] e = absurd cc
  by-misfit (misfit_mention ∷ ms) e = (refl, refl)
  by-misfit (m ∷ ms) e =
      let r = by-misfit ms e in
      (ap (λ b. holds 7 (mention_faults (with_own d l) l m) || b) r.0 ∙ or-true (holds 7 (mention_faults (with_own d l) l m)), ap (λ b. list_any (is_other_sort d l) (as_uses m) || b) r.1 ∙ or-true (list_any (is_other_sort d l) (as_uses m)))

  either-way : (ms : List Mention) → Covered ms → list_any (λ m. holds 7 (mention_faults (with_own d l) l m)) ms ≡ list_any (λ m. list_any (is_other_sort d l) (as_uses m)) ms
  either-way ms c = by (list_any at_lifetime ms) refl
    where
      by : (b : Bool) → list_any at_lifetime ms ≡ b → list_any (λ m. holds 7 (mention_faults (with_own d l) l m)) ms ≡ list_any (λ m. list_any (is_other_sort d l) (as_uses m)) ms
      by true e = let r = by-misfit ms (c e) in r.0 ∙ sym r.1
      by false e = any-given at_lifetime (λ m. holds 7 (mention_faults (with_own d l) l m)) (λ m. list_any (is_other_sort d l) (as_uses m)) other-sort-is ms e

  pub other-sorts-are : list_any (λ m. holds 7 (mention_faults (with_own d l) l m)) (line_mentions (with_own d l) l) ≡ uses_other_sort d l
  other-sorts-are =
      either-way (line_mentions (with_own d l) l) (line-covered (with_own d l) l) ∙ sym (any-flat (is_other_sort d l) as_uses (line_mentions (with_own d l) l))
      ∙ ap (list_any (is_other_sort d l)) (mentions-are (with_own d l) l)
