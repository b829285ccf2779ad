-- What decides the walk of a type as it is written, by how the type is taken and by its flags.
use Rattle.std.proofs.Common.{if◌then◌else◌, arith, length, take, get_or, ◌≡◌, ◌+◌, ◌<◌, ◌≤◌, ◌⊎◌, inl, inr, ℕ, refl, sym, ap, subst, ◌∙◌, Bool, true, false, IsTrue, not, ◌||◌, List, [], ◌∷◌, ◌++◌, Option, Some, None}
use Rattle.std.specs.List.{list_any}
use Rattle.type_terms.specs.Promised.Label.{Label, of_type, of_const, of_lifetime, adt, ref, dynamic, principal, param, placeholder, infer, canonical, bound}
use Rattle.type_terms.specs.Promised.Trees.{Trees, none, tree, ◌+++◌, is_sort, sort_of, IsA, some_node}
use Rattle.type_terms.specs.Trees.{depth}
use Rattle.type_terms.specs.Promised.Worlds.{World, StructDecl, TraitDecl, structs_named, traits_named}
use Rattle.type_terms.specs.Promised.Walks.{Met, local, struct_leaf, dyn_leaf, entered, other_leaf, open_place, struct_is, trait_is, is_home, visited, until_decisive, ends_local}
use Rattle.type_terms.specs.Promised.Versions.{is_open_place}
use Rattle.type_terms.proofs.Walking.{visited-append}
use Rattle.type_terms.specs.Pieces.{one_piece}
use Rattle.type_terms.specs.Scans.{some_node_of, has_flag}
use Rattle.type_terms.specs.Promised.Handles.{Entry, trees_at}
use Rattle.type_terms.specs.Terms.{Lawful}
use Rattle.type_terms.specs.Promised.Handles.{region_label, region_trees, arg_trees, ArgHeld}
use Rattle.type_terms.specs.Kinds.{args_trees}
use Rattle.type_terms.specs.declared.kinds.GenericArgKind.{GenericArgKind}
use Rattle.type_terms.specs.declared.kinds.GenericArgKind.TheVariants.{Lifetime, Ty, Const}
use Rattle.type_terms.specs.declared.kinds.Const as of-const
use Rattle.type_terms.specs.declared.region.Region.{Region}
use Rattle.type_terms.proofs.Items.{args-push, take-push, fuel-of-arg}
use Rattle.type_terms.proofs.VisitFacts.{args-cut}
use Rattle.orphan_check.specs.declared.decisive.Decisive.{Decisive}
use Rattle.orphan_check.specs.declared.decisive.Decisive.TheVariants.{Local, Uncovered}
use Rattle.orphan_check.specs.declared.look.Taken.{Taken}
use Rattle.orphan_check.specs.declared.look.Taken.TheVariants as taken
use Rattle.orphan_check.specs.Decisive.{first_decisive, is_uncovered}
use Rattle.type_terms.specs.Promised.OrphanErrors.{WalkItem, item_of, items}
use Rattle.type_terms.specs.Promised.OrphanErrors.{Look, local_type, open_type, leaf_type, passage, look, dyn_look}
use Rattle.orphan_check.specs.Walks.{IsTaken, is_local}
use Rattle.orphan_check.proofs.Calm.{depth-append}
use Rattle.orphan_check.proofs.Stepping.{region-sort, const-is}
use Rattle.orphan_check.proofs.Visiting.{marks, marks-append, decided, items-decide, no-home}
use Rattle.type_terms.proofs.ListBasics.{append-empty}
use Rattle.type_terms.proofs.BooleanBasics.{or-false as no-more, if-false, if-true}

-- ---- one walk and then another
pub passes : (ms ns : List Met) → first_decisive ms ≡ None → first_decisive (ms ++ ns) ≡ first_decisive ns
passes [] ns h = refl
passes (local ∷ ms) ns h = cc
passes (open_place ∷ ms) ns h = cc
passes (struct_leaf s ∷ ms) ns h = passes ms ns h
passes (dyn_leaf s ∷ ms) ns h = passes ms ns h
passes (entered s ∷ ms) ns h = passes ms ns h
passes (other_leaf ∷ ms) ns h = passes ms ns h

pub stops : (x : Decisive) (ms ns : List Met) → first_decisive ms ≡ Some x → first_decisive (ms ++ ns) ≡ Some x
stops x [] ns h = cc
stops x (local ∷ ms) ns h = h
stops x (open_place ∷ ms) ns h = h
stops x (struct_leaf s ∷ ms) ns h = stops x ms ns h
stops x (dyn_leaf s ∷ ms) ns h = stops x ms ns h
stops x (entered s ∷ ms) ns h = stops x ms ns h
stops x (other_leaf ∷ ms) ns h = stops x ms ns h

pub not-some : (x : Option Decisive) → ((w : Decisive) → x ≡ Some w → ⊥) → x ≡ None
not-some None h = refl
not-some (Some w) h = absurd (h w refl)

-- ---- what decides, by the marks of the items
abbrev first_mark : List Bool → Option Decisive
first_mark [] = None
first_mark (true ∷ bs) = Some Local
first_mark (false ∷ bs) = Some Uncovered

by-marks : (ms : List Met) → first_decisive ms ≡ first_mark (decided ms)
by-marks [] = refl
by-marks (local ∷ ms) = refl
by-marks (open_place ∷ ms) = refl
by-marks (struct_leaf s ∷ ms) = by-marks ms
by-marks (dyn_leaf s ∷ ms) = by-marks ms
by-marks (entered s ∷ ms) = by-marks ms
by-marks (other_leaf ∷ ms) = by-marks ms

-- how a type that looks so decides, x being what decides in it
abbrev by_look : Look → Option Decisive → Option Decisive
by_look local_type x = Some Local
by_look open_type x = Some Uncovered
by_look leaf_type x = None
by_look passage x = x

marks-look : (k : Look) (t : Trees) (first : Bool) (is : List WalkItem) → first_mark (marks (item_of k t first is ++ [])) ≡ by_look k (first_mark (marks is))
marks-look local_type t first is = refl
marks-look open_type t first is = refl
marks-look leaf_type t first is = refl
marks-look passage t first is = ap (λ z. first_mark (marks z)) (append-empty is)

module _ (V : World) (d : Option ℕ) where
  decisive-is : (first : Bool) (t : Trees) → first_decisive (visited V d t) ≡ first_mark (marks (items V d first t))
  decisive-is first t = by-marks (visited V d t) ∙ ap first_mark (sym (items-decide V d first t))

  look-decides : (l : Label) (c o : Trees) → is_sort (sort_of l) of_type ≡ true → o ≡ none → first_decisive (visited V d (tree l c o)) ≡ by_look (look V d l c) (first_decisive (visited V d c))
  look-decides l c o h e =
      let here = item_of (look V d l c) (tree l c none) true (items V d true c) in
      ap (λ z. first_decisive (visited V d (tree l c z))) e ∙ decisive-is true (tree l c none)
      ∙ ap (λ z. first_mark (marks z)) (if-true (is_sort (sort_of l) of_type) (here ++ []) [] h)
      ∙ marks-look (look V d l c) (tree l c none) true (items V d true c)
      ∙ ap (by_look (look V d l c)) (sym (decisive-is true c))

  -- a lifetime or a constant is passed over
  passed-over : (l : Label) (c o : Trees) → is_sort (sort_of l) of_type ≡ false → first_decisive (visited V d (tree l c o)) ≡ first_decisive (visited V d o)
  passed-over l c o h =
      decisive-is true (tree l c o)
      ∙ ap (λ z. first_mark (marks z)) (if-false (is_sort (sort_of l) of_type) (item_of (look V d l c) (tree l c none) true (items V d true c) ++ items V d false o) (items V d true o) h)
      ∙ sym (decisive-is true o)

  behind-region : (r : Region) (t : Trees) → first_decisive (visited V d (region_trees r +++ t)) ≡ first_decisive (visited V d t)
  behind-region r t = passed-over (region_label r.kind) none t (ap (λ z. is_sort z of_type) (region-sort r.kind))

  pub no-region : (r : Region) → first_decisive (visited V d (region_trees r)) ≡ None
  no-region r = passed-over (region_label r.kind) none none (ap (λ z. is_sort z of_type) (region-sort r.kind))

  pub no-const : (t : Trees) → IsA of_const t → first_decisive (visited V d t) ≡ None
  no-const none h = absurd h
  no-const (tree l c o) h = passed-over l c o (ap (λ z. is_sort z of_type) h.0) ∙ ap (λ z. first_decisive (visited V d z)) h.1

  -- ---- a type, as it is taken
  module _ (es : List Entry) where
    abbrev pub taken_decisive : Taken → Option Decisive
    taken_decisive taken.Local = Some Local
    taken_decisive taken.NonLocal = None
    taken_decisive taken.Uncovered = Some Uncovered
    taken_decisive (taken.Reference to) = first_decisive (visited V d (trees_at es to.0))
    taken_decisive (taken.Fundamental args) = first_decisive (visited V d (trees_at es args.0))

    pub taken-decides : (t : Trees) → IsA of_type t → (k : Taken) → IsTaken es V d t k → first_decisive (visited V d t) ≡ taken_decisive k
    taken-decides none a k h = absurd a
    taken-decides (tree l c o) a k h = look-decides l c o (ap (λ z. is_sort z of_type) a.0) a.1 ∙ by k h
      where
        by : (k : Taken) → IsTaken es V d (tree l c o) k → by_look (look V d l c) (first_decisive (visited V d c)) ≡ taken_decisive k
        by taken.Local h = ap (λ z. by_look z (first_decisive (visited V d c))) h
        by taken.NonLocal h = ap (λ z. by_look z (first_decisive (visited V d c))) h
        by taken.Uncovered h = ap (λ z. by_look z (first_decisive (visited V d c))) h
        by (taken.Reference to) h =
            ap (λ z. by_look z (first_decisive (visited V d c))) h.0 ∙ ap (λ z. first_decisive (visited V d z)) h.2.1 ∙ behind-region h.2.0 (trees_at es to.0)
        by (taken.Fundamental args) h = ap (λ z. by_look z (first_decisive (visited V d c))) h.0 ∙ ap (λ z. first_decisive (visited V d z)) h.2

    -- ---- arguments
    -- nothing decides in an argument behind those in which nothing does
    pub args-go-on : (xs : List GenericArgKind) (i : ℕ) (x : GenericArgKind) → i < length xs → x ≡ get_or xs i x → first_decisive (visited V d (args_trees es (take i xs))) ≡ None
        → first_decisive (visited V d (arg_trees es x)) ≡ None → first_decisive (visited V d (args_trees es (take (i + 1) xs))) ≡ None
    args-go-on xs i x l e h g =
        ap (λ z. first_decisive (visited V d (args_trees es z))) (take-push xs i x l)
        ∙ ap (λ z. first_decisive (visited V d z)) (args-push es (take i xs) (get_or xs i x))
        ∙ ap (λ z. first_decisive (visited V d (args_trees es (take i xs) +++ arg_trees es z))) (sym e)
        ∙ ap first_decisive (visited-append V d (args_trees es (take i xs)) (arg_trees es x))
        ∙ passes (visited V d (args_trees es (take i xs))) (visited V d (arg_trees es x)) h ∙ g

    -- what decides in it decides in all
    pub args-stop : (xs : List GenericArgKind) (i : ℕ) (x : GenericArgKind) (w : Decisive) → i < length xs → x ≡ get_or xs i x → first_decisive (visited V d (args_trees es (take i xs))) ≡ None
        → first_decisive (visited V d (arg_trees es x)) ≡ Some w → first_decisive (visited V d (args_trees es xs)) ≡ Some w
    args-stop xs i x w l e h g =
        let cut = args-cut es xs i x l in
        let before = args_trees es (take i xs) in
        ap (λ z. first_decisive (visited V d z)) (cut.1 ∙ ap (λ z. (before +++ arg_trees es z) +++ cut.0) (sym e))
        ∙ ap first_decisive (visited-append V d (before +++ arg_trees es x) cut.0)
        ∙ stops w (visited V d (before +++ arg_trees es x)) (visited V d cut.0)
        (ap first_decisive (visited-append V d before (arg_trees es x)) ∙ passes (visited V d before) (visited V d (arg_trees es x)) h ∙ g)

    -- nothing decides in a lifetime or a constant
    pub no-arg : Lawful es → (a : GenericArgKind) → ArgHeld es a → ((r : Region) × (a ≡ Lifetime r)) ⊎ ((n : of-const.Const) × (a ≡ Const n)) → first_decisive (visited V d (arg_trees es a)) ≡ None
    no-arg law (Lifetime r) h e = no-region r
    no-arg law (Ty t) h (inl e) = cc
    no-arg law (Ty t) h (inr e) = cc
    no-arg law (Const n) h e = no-const (trees_at es n.0) (const-is es law n.0 h)

    pub arg-below : (xs : List GenericArgKind) (i : ℕ) (x : GenericArgKind) → i < length xs → x ≡ get_or xs i x → depth (arg_trees es x) ≤ depth (args_trees es xs)
    arg-below xs i x l e =
        subst (λ z. depth (arg_trees es z) ≤ depth (args_trees es xs)) (sym e)
        (fuel-of-arg depth (λ a b. let f = depth-append a b in omega (arith, f)) (λ a b. let f = depth-append a b in omega (arith, f)) es xs i x l)

-- ---- types in which nothing is open
struct-closed : (a b : Bool) → a ≡ false → ((if a then local_type else if b then passage else leaf_type) ≡ leaf_type) ⊎ ((if a then local_type else if b then passage else leaf_type) ≡ passage)
struct-closed true b e = cc
struct-closed false true e = inr refl
struct-closed false false e = inl refl

dyn-closed : (V : World) (c : Trees) → dyn_look V None c ≡ leaf_type
dyn-closed V none = refl
dyn-closed V (tree (principal n i) c o) = by (trait_is (λ x. is_home None x.home) V i) (no-home (λ (x : TraitDecl). x.home) (traits_named V i))
  where
    by : (a : Bool) → a ≡ false → (if a then local_type else leaf_type) ≡ leaf_type
    by true e = cc
    by false e = refl
dyn-closed V (tree l c o) = refl

closed-look : (V : World) (l : Label) (c : Trees) → is_sort (sort_of l) of_type ≡ true → has_flag 15 l ≡ false → (look V None l c ≡ leaf_type) ⊎ (look V None l c ≡ passage)
closed-look V (ref b) c e h = inr refl
closed-look V (adt s) c e h = struct-closed (struct_is (λ x. is_home None x.home) V s) (struct_is (λ x. x.is_fundamental) V s) (no-home (λ (x : StructDecl). x.home) (structs_named V s))
closed-look V dynamic c e h = inl (dyn-closed V c)
closed-look V (param of_type i) c e h = cc
closed-look V (placeholder of_type i) c e h = cc
closed-look V (infer of_type i) c e h = cc
closed-look V (canonical of_type i) c e h = cc
closed-look V (bound of_type k i) c e h = cc
closed-look V (param of_const i) c e h = cc
closed-look V (placeholder of_const i) c e h = cc
closed-look V (infer of_const i) c e h = cc
closed-look V (canonical of_const i) c e h = cc
closed-look V (bound of_const k i) c e h = cc
closed-look V (param of_lifetime i) c e h = cc
closed-look V (placeholder of_lifetime i) c e h = cc
closed-look V (infer of_lifetime i) c e h = cc
closed-look V (canonical of_lifetime i) c e h = cc
closed-look V (bound of_lifetime k i) c e h = cc
closed-look V l c e h = inl refl

none-here : (a b c : Bool) → (a || b || c) ≡ false → (a ≡ false) × (b ≡ false) × (c ≡ false)
none-here true b c h = cc
none-here false true c h = cc
none-here false false true h = cc
none-here false false false h = (refl, refl, refl)

closed-item : (k : Look) (t : Trees) (first : Bool) (is : List WalkItem) → (k ≡ leaf_type) ⊎ (k ≡ passage) → marks is ≡ [] → marks (item_of k t first is) ≡ []
closed-item k t first is (inl e) h = ap (λ z. marks (item_of z t first is)) e
closed-item k t first is (inr e) h = ap (λ z. marks (item_of z t first is)) e ∙ h

closed-marks : (V : World) (first : Bool) (t : Trees) → some_node (has_flag 15) t ≡ false → marks (items V None first t) ≡ []
closed-marks V first none h = refl
closed-marks V first (tree l c o) h =
    by (is_sort (sort_of l) of_type) refl (closed-marks V first c parts.1) (closed-marks V false o parts.2) (closed-marks V first o parts.2)
  where
    parts : (has_flag 15 l ≡ false) × (some_node (has_flag 15) c ≡ false) × (some_node (has_flag 15) o ≡ false)
    parts = none-here (has_flag 15 l) (some_node (has_flag 15) c) (some_node (has_flag 15) o) h

    by : (x : Bool) → is_sort (sort_of l) of_type ≡ x → marks (items V None first c) ≡ [] → marks (items V None false o) ≡ [] → marks (items V None first o) ≡ []
        → marks (if x then item_of (look V None l c) (tree l c none) first (items V None first c) ++ items V None false o else items V None first o) ≡ []
    by true e p q r =
        marks-append (item_of (look V None l c) (tree l c none) first (items V None first c)) (items V None false o)
        ∙ ap (λ z. z ++ marks (items V None false o)) (closed-item (look V None l c) (tree l c none) first (items V None first c) (closed-look V l c e parts.0) p) ∙ q
    by false e p q r = r

pub off : (b : Bool) → IsTrue (not b) → b ≡ false
off true h = cc
off false h = refl

-- where no type is open, nothing decides the open walk
pub closed-decides : (V : World) (t : Trees) → some_node_of (has_flag 15) (one_piece t) ≡ false → first_decisive (visited V None t) ≡ None
closed-decides V t h = decisive-is V None true t ∙ ap first_mark (closed-marks V true t (sym (no-more (some_node (has_flag 15) t)) ∙ h))

-- ---- the open walk meets an open place exactly if one decides
pub meets-open : (ms : List Met) → list_any is_open_place (until_decisive ms) ≡ is_uncovered (first_decisive ms)
meets-open [] = refl
meets-open (local ∷ ms) = refl
meets-open (open_place ∷ ms) = refl
meets-open (struct_leaf s ∷ ms) = meets-open ms
meets-open (dyn_leaf s ∷ ms) = meets-open ms
meets-open (entered s ∷ ms) = meets-open ms
meets-open (other_leaf ∷ ms) = meets-open ms

-- and a walk ends at a local type exactly if one decides
pub meets-local : (ms : List Met) → ends_local (until_decisive ms) ≡ is_local (first_decisive ms)
meets-local [] = refl
meets-local (local ∷ ms) = refl
meets-local (open_place ∷ ms) = refl
meets-local (struct_leaf s ∷ ms) = meets-local ms
meets-local (dyn_leaf s ∷ ms) = meets-local ms
meets-local (entered s ∷ ms) = meets-local ms
meets-local (other_leaf ∷ ms) = meets-local ms
