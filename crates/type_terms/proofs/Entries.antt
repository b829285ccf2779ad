-- The terms of an interner, as nodes are added.
use Rattle.std.proofs.Common.{◌≡◌, ℕ, zero, suc, ◌+◌, ◌<◌, List, [], ◌∷◌, ◌++◌, length, map, refl, ap, sym, ◌∙◌, arith, zero-add, add-zero, Option, Some, None, subst}
use Rattle.std.specs.Prelude.{position}
use Rattle.std.specs.List.{slice_get}
use Rattle.std.proofs.lemmas.Option.{slice_get_within}
use Rattle.std.proofs.lemmas.List.Sums.{sum_by-append}
use Rattle.type_terms.specs.Promised.Trees.{Trees, ◌+++◌}
use Rattle.type_terms.specs.Trees.{is_no_tree}
use Rattle.indexmap.specs.IndexMap.{keys, values}
use Rattle.type_terms.specs.Promised.Handles.{Entry, Has, Keeps, trees_at, held, types, consts, bounds_lists}
use Rattle.type_terms.specs.Terms.{args_lists, type_lists}
use Rattle.type_terms.specs.Kinds.{kind_trees, args_trees, tys_trees, principal_trees, bounds_trees, autos_trees, KindHeld, TysHeld, PrincipalHeld, BoundsHeld, KindOlder, ArgsOlder, TysOlder, PrincipalOlder}
use Rattle.type_terms.specs.Promised.Handles.{arg_trees, ArgHeld, ArgsHeld}
use Rattle.type_terms.specs.Nodes.{grow, Older, node_entry, node_trees, kind_of, Held, NodeOlder}
use Rattle.type_terms.specs.Same.{SameNode}
use Rattle.type_terms.specs.Counts.{count_of, raised}
use Rattle.type_terms.specs.Inner.{Counted, Within, Sound, entries_of}
use Rattle.type_terms.specs.Infos.{info_of}
use Rattle.type_terms.specs.declared.interner.Interner.TheInside.{Inside}
use Rattle.type_terms.specs.declared.node.Counts.{Counts}
use Rattle.type_terms.specs.declared.node.Info.{Info}
use Rattle.type_terms.specs.declared.node.Node.{Node}
use Rattle.type_terms.specs.declared.node.Node.TheVariants.{Ty, Const, Args, Tys, Bounds}
use Rattle.type_terms.specs.declared.kinds.Ty as of-ty
use Rattle.type_terms.specs.declared.kinds.TyKind.{TyKind}
use Rattle.type_terms.specs.declared.kinds.TyKind.TheVariants.{Adt, Ref, RawPtr, Array as KArray, Slice as KSlice, Tuple, FnPtr, Dynamic}
use Rattle.type_terms.specs.declared.kinds.GenericArgKind.{GenericArgKind}
use Rattle.type_terms.specs.declared.kinds.GenericArgKind.TheVariants.{Lifetime, Ty as AType, Const as AConst}
use Rattle.type_terms.specs.declared.kinds.Principal.{Principal}
use Rattle.type_terms.specs.declared.kinds.BoundsData.{BoundsData}
use Rattle.type_terms.specs.contracts.node.NodePartialEq.TheImpl.{ghosts}
use Rattle.type_terms.proofs.Equal.{node-eq}
use Rattle.type_terms.proofs.Lists.{slice_get-append, slice_get-last, slice_get-position, slice_get-map, length-push, map-push}

-- ---- one more node
pub grow-push : (es : List Entry) (ns : List Node) (n : Node) → grow es (ns ++ n ∷ []) ≡ grow es ns ++ node_entry (grow es ns) n ∷ []
grow-push es [] n = refl
grow-push es (m ∷ ns) n = grow-push (es ++ node_entry es m ∷ []) ns n

pub older-push : (es : List Entry) (ns : List Node) (n : Node) → Older es ns → Held (grow es ns) n → Older es (ns ++ n ∷ [])
older-push es [] n o h = (h, tt)
older-push es (m ∷ ns) n o h = (o.0, older-push (es ++ node_entry es m ∷ []) ns n o.1 h)

pub length-grow : (es : List Entry) (ns : List Node) → length (grow es ns) ≡ length es + length ns
length-grow es [] = omega arith
length-grow es (n ∷ ns) = length-grow (es ++ node_entry es n ∷ []) ns ∙ rw (length-push es (node_entry es n)) (omega arith)

pub keeps-push : (es : List Entry) (e : Entry) → Keeps es (es ++ e ∷ [])
keeps-push es e i f h = slice_get-append es (e ∷ []) i f h

pub keeps-grow : (es : List Entry) (ns : List Node) → Keeps es (grow es ns)
keeps-grow es [] i e h = h
keeps-grow es (n ∷ ns) i e h = keeps-grow (es ++ node_entry es n ∷ []) ns i e (keeps-push es (node_entry es n) i e h)

-- ---- what is held stays held, with its trees
module _ (old new : List Entry) (keeps : Keeps old new) where
  pub has-kept : (kind i : ℕ) → Has old kind i → Has new kind i
  has-kept kind i h = (h.0, keeps i _ h.1)

  pub trees-kept : (kind i : ℕ) → Has old kind i → trees_at new i ≡ trees_at old i
  trees-kept kind i h = rw (h.1, keeps i _ h.1) refl

  pub kind-kept : (k : TyKind) → KindHeld old k → (kind_trees new k ≡ kind_trees old k) × KindHeld new k
  kind-kept (Adt d a) h = (rw (trees-kept args_lists a.0 h) refl, has-kept args_lists a.0 h)
  kind-kept (Ref r t m) h = (rw (trees-kept types t.0 h.1) refl, (h.0, has-kept types t.0 h.1))
  kind-kept (RawPtr t m) h = (rw (trees-kept types t.0 h) refl, has-kept types t.0 h)
  kind-kept (KArray t n) h = (rw (trees-kept types t.0 h.0, trees-kept consts n.0 h.1) refl, (has-kept types t.0 h.0, has-kept consts n.0 h.1))
  kind-kept (KSlice t) h = (rw (trees-kept types t.0 h) refl, has-kept types t.0 h)
  kind-kept (Tuple ts) h = (rw (trees-kept type_lists ts.0 h) refl, has-kept type_lists ts.0 h)
  kind-kept (FnPtr n ts) h =
      let same = trees-kept type_lists ts.0 h.0 in
      (rw same refl, (has-kept type_lists ts.0 h.0, ap is_no_tree same ∙ h.1))
  kind-kept (Dynamic b r) h = (rw (trees-kept bounds_lists b.0 h.0) refl, (has-kept bounds_lists b.0 h.0, h.1))
  kind-kept k h = (refl, h)

  pub arg-kept : (a : GenericArgKind) → ArgHeld old a → (arg_trees new a ≡ arg_trees old a) × ArgHeld new a
  arg-kept (Lifetime r) h = (refl, h)
  arg-kept (AType t) h = (trees-kept types t.0 h, has-kept types t.0 h)
  arg-kept (AConst c) h = (trees-kept consts c.0 h, has-kept consts c.0 h)

  append-both : (a b c d : Trees) → a ≡ b → c ≡ d → a +++ c ≡ b +++ d
  append-both a b c d p q = cc

  pub args-kept : (xs : List GenericArgKind) → ArgsHeld old xs → (args_trees new xs ≡ args_trees old xs) × ArgsHeld new xs
  args-kept [] h = (refl, tt)
  args-kept (a ∷ xs) h =
      let x = arg-kept a h.0 in
      let y = args-kept xs h.1 in
      (append-both _ _ _ _ x.0 y.0, (x.1, y.1))

  pub tys-kept : (xs : List of-ty.Ty) → TysHeld old xs → (tys_trees new xs ≡ tys_trees old xs) × TysHeld new xs
  tys-kept [] h = (refl, tt)
  tys-kept (t ∷ xs) h =
      let y = tys-kept xs h.1 in
      (append-both _ _ _ _ (trees-kept types t.0 h.0) y.0, (has-kept types t.0 h.0, y.1))

  pub principal-kept : (p : Option Principal) → PrincipalHeld old p → (principal_trees new p ≡ principal_trees old p) × PrincipalHeld new p
  principal-kept None h = (refl, tt)
  principal-kept (Some p) h = (rw (trees-kept args_lists p.args.0 h) refl, has-kept args_lists p.args.0 h)

  pub bounds-kept : (b : BoundsData) → BoundsHeld old b → (bounds_trees new b ≡ bounds_trees old b) × BoundsHeld new b
  bounds-kept b h =
      let p = principal-kept b.principal h.0 in
      (ap (λ t. t +++ autos_trees b.autos.items) p.0, (p.1, h.1))

  pub node-kept : (n : Node) → Held old n → (node_trees new n ≡ node_trees old n) × Held new n
  node-kept (Ty k) h = kind-kept k h
  node-kept (Const k) h = (refl, h)
  node-kept (Args v) h = args-kept v.items h
  node-kept (Tys v) h = tys-kept v.items h
  node-kept (Bounds b) h = bounds-kept b h

-- of the node at an index: its entry is there, and its handles are the table's
pub entry-at : (es : List Entry) (ns : List Node) (i : ℕ) (n : Node) → Older es ns → slice_get ns i ≡ Some n
    → (slice_get (grow es ns) (length es + i) ≡ Some (node_entry (grow es ns) n)) × Held (grow es ns) n
entry-at es [] i n o h = cc
entry-at es (m ∷ ns) zero n o h =
    let same : m ≡ n = cc in
    let es' = es ++ node_entry es m ∷ [] in
    let kept = node-kept es (grow es' ns) (λ j e g. keeps-grow es' ns j e (keeps-push es (node_entry es m) j e g)) m o.0 in
    let last = keeps-grow es' ns (length es) (node_entry es m) (slice_get-last es (node_entry es m)) in
    rw (← same) (rw (kept.0, add-zero (length es)) last, kept.1)
entry-at es (m ∷ ns) (suc i) n o h =
    let rest = entry-at (es ++ node_entry es m ∷ []) ns i n o.1 h in
    (rw (shift-one es (node_entry es m) i) rest.0, rest.1)
  where
    shift-one : (xs : List Entry) (y : Entry) (i : ℕ) → length xs + suc i ≡ length (xs ++ y ∷ []) + i
    shift-one xs y i = rw (length-push xs y) (omega arith)

-- nodes that are the same have one entry
pub same-trees : (es : List Entry) (m n : Node) → SameNode m n → node_entry es m ≡ node_entry es n
same-trees es (Ty k) (Ty m) h = ap (λ x. node_entry es (Ty x)) h
same-trees es (Const k) (Const m) h = ap (λ x. node_entry es (Const x)) h
same-trees es (Args k) (Args m) h = ap (λ x. record { kind = args_lists; trees = args_trees es x }) h
same-trees es (Tys k) (Tys m) h = ap (λ x. record { kind = type_lists; trees = tys_trees es x }) h
same-trees es (Bounds a) (Bounds b) h =
    let first : principal_trees es a.principal ≡ principal_trees es b.principal = ap (principal_trees es) h.0 in
    let rest : autos_trees a.autos.items ≡ autos_trees b.autos.items = ap autos_trees h.1 in
    cc
same-trees es _ _ h = absurd h

-- ---- a node that is found has its entry at its index
pub found-entry : (ns : List Node) (n : Node) (i : ℕ) → Older [] ns → position (ghosts.eq n) ns ≡ Some i
    → slice_get (grow [] ns) i ≡ Some (node_entry (grow [] ns) n)
found-entry ns n i o h =
    let hit = slice_get-position (ghosts.eq n) ns i n h in
    let at = entry-at [] ns i hit.0 o hit.1 in
    rw (same-trees (grow [] ns) n hit.0 ((node-eq n hit.0).0 hit.2)) (rw (zero-add i) at (at.0))

-- ---- what is kept with a term
pub info-at : (es : List Entry) (pairs : List (Node × Info)) (i : ℕ) (n : Node) (f : Info)
    → map (λ p. p.1) pairs ≡ map (λ e. info_of e.trees) es → slice_get pairs i ≡ Some (n, f) → f ≡ info_of (trees_at es i)
info-at es [] i n f e h = cc
info-at [] (p ∷ pairs) i n f e h = cc
info-at (x ∷ es) (p ∷ pairs) zero n f e h =
    let first : p.1 ≡ info_of x.trees = cc in
    let same : p ≡ (n, f) = cc in
    ap (λ q. q.1) (sym same) ∙ first
info-at (x ∷ es) (p ∷ pairs) (suc i) n f e h = let rest : map (λ q. q.1) pairs ≡ map (λ y. info_of y.trees) es = cc in info-at es pairs i n f rest h

-- ---- counts
held-push : (kind : ℕ) (es : List Entry) (e : Entry) → held kind (es ++ e ∷ []) ≡ held kind es + held kind (e ∷ [])
held-push kind es e = sum_by-append _ es (e ∷ [])

counted-more : (c d : Counts) (es : List Entry) (e : Entry) → Counted c es
    → d.types ≡ c.types + held types (e ∷ []) → d.consts ≡ c.consts + held consts (e ∷ []) → d.args_lists ≡ c.args_lists + held args_lists (e ∷ [])
    → d.type_lists ≡ c.type_lists + held type_lists (e ∷ []) → d.bounds_lists ≡ c.bounds_lists + held bounds_lists (e ∷ []) → Counted d (es ++ e ∷ [])
counted-more c d es e h t k a l b = record {
  types_held = omega (arith, h.types_held, held-push types es e);
  consts_held = omega (arith, h.consts_held, held-push consts es e);
  args_lists_held = omega (arith, h.args_lists_held, held-push args_lists es e);
  type_lists_held = omega (arith, h.type_lists_held, held-push type_lists es e);
  bounds_lists_held = omega (arith, h.bounds_lists_held, held-push bounds_lists es e);
}

pub counted-push : (c : Counts) (es : List Entry) (n : Node) → Counted c es → Counted (raised (kind_of n) c) (es ++ node_entry es n ∷ [])
counted-push c es (Ty k) h = counted-more c _ es (node_entry es (Ty k)) h refl (omega arith) (omega arith) (omega arith) (omega arith)
counted-push c es (Const k) h = counted-more c _ es (node_entry es (Const k)) h (omega arith) refl (omega arith) (omega arith) (omega arith)
counted-push c es (Args v) h = counted-more c _ es (node_entry es (Args v)) h (omega arith) (omega arith) refl (omega arith) (omega arith)
counted-push c es (Tys v) h = counted-more c _ es (node_entry es (Tys v)) h (omega arith) (omega arith) (omega arith) refl (omega arith)
counted-push c es (Bounds b) h = counted-more c _ es (node_entry es (Bounds b)) h (omega arith) (omega arith) (omega arith) (omega arith) refl

abbrev total : Counts → ℕ
total c = c.types + c.consts + c.args_lists + c.type_lists + c.bounds_lists

pub in_all-push : (c : Counts) (n : Node) (k : ℕ) → k ≡ total c → k + 1 ≡ total (raised (kind_of n) c)
in_all-push c (Ty k) m h = omega arith
in_all-push c (Const k) m h = omega arith
in_all-push c (Args k) m h = omega arith
in_all-push c (Tys k) m h = omega arith
in_all-push c (Bounds k) m h = omega arith

pub within-push : (c : Counts) (n : Node) (limit : ℕ) → Within c limit → (count_of (kind_of n) c ≡ limit → ⊥) → Within (raised (kind_of n) c) limit
within-push c (Ty k) m h g = (omega arith, omega arith, omega arith, omega arith, omega arith)
within-push c (Const k) m h g = (omega arith, omega arith, omega arith, omega arith, omega arith)
within-push c (Args k) m h g = (omega arith, omega arith, omega arith, omega arith, omega arith)
within-push c (Tys k) m h g = (omega arith, omega arith, omega arith, omega arith, omega arith)
within-push c (Bounds k) m h g = (omega arith, omega arith, omega arith, omega arith, omega arith)

pub count-held : (c : Counts) (es : List Entry) (n : Node) → Counted c es → count_of (kind_of n) c ≡ held (kind_of n) es
count-held c es (Ty k) h = h.types_held
count-held c es (Const k) h = h.consts_held
count-held c es (Args k) h = h.args_lists_held
count-held c es (Tys k) h = h.type_lists_held
count-held c es (Bounds k) h = h.bounds_lists_held

-- ---- what the interner knows after a node is added
module _ (a b : Inside) (n : Node) (f : Info) (added : b.nodes.entries ≡ a.nodes.entries ++ (n, f) ∷ []) where
  keys-added : keys b.nodes ≡ keys a.nodes ++ n ∷ []
  keys-added = rw added (map-push (λ p. p.0) a.nodes.entries (n, f))

  values-added : values b.nodes ≡ values a.nodes ++ f ∷ []
  values-added = rw added (map-push (λ p. p.1) a.nodes.entries (n, f))

  pub entries-added : entries_of b ≡ entries_of a ++ node_entry (entries_of a) n ∷ []
  entries-added = rw keys-added (grow-push [] (keys a.nodes) n)

  pub keeps-added : Keeps (entries_of a) (entries_of b)
  keeps-added i e h = rw entries-added (keeps-push (entries_of a) (node_entry (entries_of a) n) i e h)

  pub last-added : (k : ℕ) → k ≡ length a.nodes.entries → slice_get (entries_of b) k ≡ Some (node_entry (entries_of a) n)
  last-added k h =
      rw (entries-added, h, ← length-keys a.nodes.entries, ← zero-add (length (keys a.nodes)), ← length-grow [] (keys a.nodes))
      (slice_get-last (entries_of a) (node_entry (entries_of a) n))
    where
      length-keys : (xs : List (Node × Info)) → length (map (λ p. p.0) xs) ≡ length xs
      length-keys [] = refl
      length-keys (x ∷ xs) = ap suc (length-keys xs)

  pub sound-added : Sound a → Held (entries_of a) n → f ≡ info_of (node_trees (entries_of a) n) → (count_of (kind_of n) a.counts ≡ a.limit → ⊥)
      → b.counts ≡ raised (kind_of n) a.counts → b.limit ≡ a.limit → Sound b
  sound-added s held fits room counts limit = record {
    older = rw keys-added (older-push [] (keys a.nodes) n s.older held);
    infos = rw (entries-added, values-added, map-push (λ e. info_of e.trees) (entries_of a) (node_entry (entries_of a) n), s.infos, fits) refl;
    counted = rw (entries-added, counts) (counted-push a.counts (entries_of a) n s.counted);
    in_all = rw (keys-added, length-push (keys a.nodes) n, counts) (in_all-push a.counts n (length (keys a.nodes)) s.in_all);
    within = rw (counts, limit) (within-push a.counts n a.limit s.within room);
    limit_fits = rw limit s.limit_fits;
  }

-- ---- the nodes before
pub has-below : (es : List Entry) (kind i n : ℕ) → length es ≡ n → Has es kind i → i < n
has-below es kind i n e h = let x = slice_get_within es i _ h.1 in omega arith

pub kind-older : (es : List Entry) (n : ℕ) → length es ≡ n → (k : TyKind) → KindHeld es k → KindOlder n k
kind-older es n e (Adt d a) h = has-below es args_lists a.0 n e h
kind-older es n e (Ref r t m) h = has-below es types t.0 n e h.1
kind-older es n e (RawPtr t m) h = has-below es types t.0 n e h
kind-older es n e (KArray t c) h = (has-below es types t.0 n e h.0, has-below es consts c.0 n e h.1)
kind-older es n e (KSlice t) h = has-below es types t.0 n e h
kind-older es n e (Tuple ts) h = has-below es type_lists ts.0 n e h
kind-older es n e (FnPtr m ts) h = has-below es type_lists ts.0 n e h.0
kind-older es n e (Dynamic b r) h = has-below es bounds_lists b.0 n e h.0
kind-older es n e k h = tt

pub args-older : (es : List Entry) (n : ℕ) → length es ≡ n → (xs : List GenericArgKind) → ArgsHeld es xs → ArgsOlder n xs
args-older es n e [] h = tt
args-older es n e (Lifetime r ∷ xs) h = (tt, args-older es n e xs h.1)
args-older es n e (AType t ∷ xs) h = (has-below es types t.0 n e h.0, args-older es n e xs h.1)
args-older es n e (AConst t ∷ xs) h = (has-below es consts t.0 n e h.0, args-older es n e xs h.1)

pub tys-older : (es : List Entry) (n : ℕ) → length es ≡ n → (xs : List of-ty.Ty) → TysHeld es xs → TysOlder n xs
tys-older es n e [] h = tt
tys-older es n e (t ∷ xs) h = (has-below es types t.0 n e h.0, tys-older es n e xs h.1)

pub principal-older : (es : List Entry) (n : ℕ) → length es ≡ n → (p : Option Principal) → PrincipalHeld es p → PrincipalOlder n p
principal-older es n e None h = tt
principal-older es n e (Some p) h = has-below es args_lists p.args.0 n e h

pub node-older : (es : List Entry) (n : ℕ) → length es ≡ n → (m : Node) → Held es m → NodeOlder n m
node-older es n e (Ty k) h = kind-older es n e k h
node-older es n e (Const k) h = tt
node-older es n e (Args v) h = args-older es n e v.items h
node-older es n e (Tys v) h = tys-older es n e v.items h
node-older es n e (Bounds b) h = principal-older es n e b.principal h.0

pub older-at : (es : List Entry) (ns : List Node) (i : ℕ) (n : Node) → Older es ns → slice_get ns i ≡ Some n → NodeOlder (length es + i) n
older-at es [] i n o h = cc
older-at es (m ∷ ns) zero n o h = let same : m ≡ n = cc in rw (← same) (node-older es (length es + 0) (omega arith) m o.0)
older-at es (m ∷ ns) (suc i) n o h = rw (shift-one es (node_entry es m) i) (older-at (es ++ node_entry es m ∷ []) ns i n o.1 h)
  where
    shift-one : (xs : List Entry) (y : Entry) (i : ℕ) → length xs + suc i ≡ length (xs ++ y ∷ []) + i
    shift-one xs y i = rw (length-push xs y) (omega arith)

pub key-at : (pairs : List (Node × Info)) (i : ℕ) (n : Node) (f : Info) → slice_get pairs i ≡ Some (n, f) → slice_get (map (λ p. p.0) pairs) i ≡ Some n
key-at pairs i n f h = slice_get-map (λ p. p.0) pairs i (n, f) h

pub entry-of-key : (ns : List Node) (i : ℕ) (n : Node) → Older [] ns → slice_get ns i ≡ Some n
    → (slice_get (grow [] ns) i ≡ Some (node_entry (grow [] ns) n)) × Held (grow [] ns) n
entry-of-key ns i n o h = let at = entry-at [] ns i n o h in (rw (zero-add i) at (at.0), at.1)

pub older-of-key : (ns : List Node) (i : ℕ) (n : Node) → Older [] ns → slice_get ns i ≡ Some n → NodeOlder i n
older-of-key ns i n o h = subst (λ (k : ℕ). NodeOlder k n) (zero-add i) (older-at [] ns i n o h)
