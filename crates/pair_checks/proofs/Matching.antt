-- The impls that can match the header of an impl: those that have a common instance with it are among them.
use Rattle.std.proofs.Common.{◌≡◌, ◌==◌, ◌<◌, ◌≤◌, ◌+◌, ◌-◌, ℕ, Bool, true, false, ◌&&◌, List, [], ◌∷◌, ◌++◌, map, cond, not, Option, Some, None, refl, sym, ap, ◌∙◌, subst, arith, ◌⊎◌, inl, inr, if◌then◌else◌}
use Rattle.std.proofs.lemmas.Bool.Decides.{nat_tests}
use Rattle.std.specs.Prelude.{filter, nat_lt}
use Rattle.type_terms.specs.Codes.{same_label}
use Rattle.type_terms.specs.Promised.Label.{Label, of_type, of_const, of_lifetime, param, placeholder, infer, canonical, bound, principal}
use Rattle.type_terms.specs.Promised.Trees.{Trees, none, tree, erase, erase_label}
use Rattle.type_terms.specs.Promised.Answers.{CommonInstance}
use Rattle.type_terms.specs.Promised.Proofs.{In}
use Rattle.type_terms.specs.Promised.Rules.{same_head}
use Rattle.type_terms.specs.Promised.Erased.{erased_impl}
use Rattle.type_terms.specs.Promised.Worlds.{Reference, ImplDecl}
use Rattle.type_terms.proofs.Applies.{same-label-itself}
use Rattle.type_terms.proofs.ProofEntries.{map-in}
use Rattle.type_terms.proofs.Members.{in-cases, in-nothing, in-map, filter-in, self-number}
use Rattle.type_terms.proofs.Walking.{both}
use Rattle.type_terms.specs.Promised.Handles.{Entry, trees_at}
use Rattle.type_terms.specs.declared.ImplId.{ImplId}
use Rattle.type_terms.specs.declared.TheConstants.{MAX_INDEX}
use Rattle.declarations.specs.Apart.{are_apart}
use Rattle.declarations.specs.Heads.{is_rigid, head_of, begins_declared}
use Rattle.declarations.specs.Held.{AreHeld, ImplHeld}
use Rattle.declarations.specs.Items.{Items, HeldImpl, declared, written, impl_in, reference_in}
use Rattle.declarations.specs.Promised.Elaboration.{Each}
use Rattle.declarations.specs.Merges.{Rises}
use Rattle.declarations.specs.Relevant.{impls_named, is_relevant_to, is_match, matches_in, is_above, next_above}
use Rattle.declarations.specs.declared.items.ImplDef.{ImplDef}
use Rattle.overlap_check.specs.Heads.{NeverMeet}
use Rattle.overlap_check.proofs.Judged.{one-named}
use Rattle.overlap_check.proofs.Tops.{heads-differ, apart-never-meet}
use Rattle.pair_checks.specs.ByTrait.{HasNumber, HaveNumbers, HavePartners}
use Rattle.pair_checks.proofs.ByTrait.{numbers-grow, number-last}

-- ---- heads
rigid-head : (m l : Label) (c o : Trees) → is_rigid m ≡ true → same_head l (tree (erase_label m) c o) ≡ same_label l (erase_label m)
rigid-head (param s i) l c o h = absurd cc
rigid-head (placeholder s i) l c o h = absurd cc
rigid-head (infer s i) l c o h = absurd cc
rigid-head (canonical s i) l c o h = absurd cc
rigid-head (bound s i j) l c o h = absurd cc
rigid-head (principal n t) l c o h = absurd cc
rigid-head m l c o h = refl

-- of two headers that meet, the one with a rigid head has that head or a parameter across
meets-relevant : (S T U : Trees) (l : Label) → Some l ≡ head_of S → Some l ≡ head_of T → begins_declared U ≡ true → (NeverMeet T U → ⊥) → is_relevant_to (erase S) (erase U) ≡ true
meets-relevant none T U l e f b n = absurd cc
meets-relevant (tree k c o) T none l e f b n = absurd cc
meets-relevant (tree k c o) T (tree (param of_type i) d q) l e f b n = refl
meets-relevant (tree k c o) T (tree (param of_const i) d q) l e f b n = refl
meets-relevant (tree k c o) T (tree (param of_lifetime i) d q) l e f b n = absurd cc
meets-relevant (tree k c o) T (tree m d q) l e f b n = rigid-head m (erase_label k) (erase d) (erase q) b ∙ by (same_label (erase_label k) (erase_label m)) refl
  where
    own : Some (erase_label m) ≡ head_of (tree m d q)
    own = ap (λ x. if x then Some (erase_label m) else None) (sym b)

    head : l ≡ erase_label k
    head = from (is_rigid k) e
      where
        from : (x : Bool) → Some l ≡ (if x then Some (erase_label k) else None) → l ≡ erase_label k
        from true h = cc
        from false h = absurd cc

    by : (x : Bool) → same_label (erase_label k) (erase_label m) ≡ x → x ≡ true
    by true h = refl
    by false h = absurd (n (heads-differ T (tree m d q) l (erase_label m) f own apart))
      where
        apart : l ≡ erase_label m → ⊥
        apart g =
            let one : same_label (erase_label k) (erase_label m) ≡ true = subst (λ z. same_label z (erase_label m) ≡ true) (sym g ∙ head) (same-label-itself (erase_label m)) in
            let clash : true ≡ false = sym one ∙ h in cc

-- ---- numbers that rise, and the first above one
abbrev pub Ascends : List ℕ → Type 0
Ascends [] = Unit {0}
Ascends (n ∷ ns) = Each (λ k. n < k) ns × Ascends ns

each-in : {A : Type 0} (P : A → Type 0) (xs : List A) (x : A) → Each P xs → In x xs → P x
each-in P [] x h i = absurd (in-nothing x i)
each-in P (y ∷ ys) x h i = by (in-cases x y ys i) (λ j. each-in P ys x h.1 j)
  where
    by : (y ≡ x) ⊎ In x ys → (In x ys → P x) → P x
    by (inl q) go = subst P q h.0
    by (inr j) go = go j

same-some : (m n : ℕ) → Some m ≡ Some n → m ≡ n
same-some m n e = cc

pub least-above : (last : Option ImplId) (ns : List ℕ) → Ascends ns → (m : ℕ) → Some m ≡ next_above last ns → (k : ℕ) → In k ns → is_above last k ≡ true → m ≤ k
least-above last [] a m e k i h = absurd cc
least-above last (n ∷ ns) a m e k i h = by (is_above last n) refl e (in-cases k n ns i) (λ f j. least-above last ns a.1 m f k j h)
  where
    by : (b : Bool) → is_above last n ≡ b → Some m ≡ (if b then Some n else next_above last ns) → (n ≡ k) ⊎ In k ns → (Some m ≡ next_above last ns → In k ns → m ≤ k) → m ≤ k
    by true q f (inl s) go = let t : m ≡ n = same-some m n f in omega (arith, t, s)
    by true q f (inr j) go = let t : m ≡ n = same-some m n f in let u : n < k = each-in (λ x. n < x) ns k a.0 j in omega (arith, t, u)
    by false q f (inl s) go = let clash : true ≡ false = sym h ∙ sym (ap (is_above last) s) ∙ q in absurd cc
    by false q f (inr j) go = go f j

pub none-left : (last : Option ImplId) (ns : List ℕ) → None ≡ next_above last ns → (k : ℕ) → In k ns → is_above last k ≡ false
none-left last [] e k i = absurd (in-nothing k i)
none-left last (n ∷ ns) e k i = by (is_above last n) refl e (in-cases k n ns i) (λ f j. none-left last ns f k j)
  where
    by : (b : Bool) → is_above last n ≡ b → None ≡ (if b then Some n else next_above last ns) → (n ≡ k) ⊎ In k ns → (None ≡ next_above last ns → In k ns → is_above last k ≡ false) → is_above last k ≡ false
    by true q f o go = absurd (differ f)
      where
        differ : (let x : Option ℕ = None in x) ≡ Some n → ⊥
        differ z = cc
    by false q f (inl s) go = ap (is_above last) (sym s) ∙ q
    by false q f (inr j) go = go f j

pub next-above : (last : Option ImplId) (ns : List ℕ) (m : ℕ) → Some m ≡ next_above last ns → is_above last m ≡ true
next-above last [] m e = absurd cc
next-above last (n ∷ ns) m e = by (is_above last n) refl e (next-above last ns m)
  where
    by : (b : Bool) → is_above last n ≡ b → Some m ≡ (if b then Some n else next_above last ns) → (Some m ≡ next_above last ns → is_above last m ≡ true) → is_above last m ≡ true
    by true q f go = ap (is_above last) (same-some m n f) ∙ q
    by false q f go = go f

-- ---- the numbers of impls rise, also of some of them
abbrev named : (ImplDecl → Bool) → List Entry → List HeldImpl → List ℕ
named p es is = map (λ (x : ImplDecl). x.name) (filter p (map (λ (i : HeldImpl). impl_in es i.id i.def) is))

each-name : (p : ImplDecl → Bool) (es : List Entry) (n : ℕ) (is : List HeldImpl) → Each (λ (j : ImplId). n < j.index) (map (λ (i : HeldImpl). i.id) is) → Each (λ k. n < k) (named p es is)
each-name p es n [] h = tt
each-name p es n (i ∷ is) h = by (p (impl_in es i.id i.def)) (each-name p es n is h.1)
  where
    by : (b : Bool) → Each (λ k. n < k) (named p es is)
        → Each (λ k. n < k) (map (λ (x : ImplDecl). x.name) (cond b (impl_in es i.id i.def ∷ filter p (map (λ (j : HeldImpl). impl_in es j.id j.def) is)) (filter p (map (λ (j : HeldImpl). impl_in es j.id j.def) is))))
    by true g = (h.0, g)
    by false g = g

pub names-ascend : (p : ImplDecl → Bool) (es : List Entry) (is : List HeldImpl) → Rises (map (λ (i : HeldImpl). i.id) is) → Ascends (named p es is)
names-ascend p es [] h = tt
names-ascend p es (i ∷ is) h = by (p (impl_in es i.id i.def)) (names-ascend p es is h.1)
  where
    by : (b : Bool) → Ascends (named p es is)
        → Ascends (map (λ (x : ImplDecl). x.name) (cond b (impl_in es i.id i.def ∷ filter p (map (λ (j : HeldImpl). impl_in es j.id j.def) is)) (filter p (map (λ (j : HeldImpl). impl_in es j.id j.def) is))))
    by true g = (each-name p es i.id.index is h.0, g)
    by false g = g

-- ---- a walk over them
-- those that are not above the last one are found
abbrev pub AreFound : List ℕ → Option ImplId → List ImplId → Type 0
AreFound ns last ids = (k : ℕ) → In k ns → is_above last k ≡ false → HasNumber k ids

pub one-found : (ns : List ℕ) → Ascends ns → (last : Option ImplId) (ids : List ImplId) (id : ImplId) → Some id.index ≡ next_above last ns → AreFound ns last ids → AreFound ns (Some id) (ids ++ id ∷ [])
one-found ns a last ids id e found k i h = by (is_above last k) refl
  where
    within : (x y : ℕ) → nat_lt x y ≡ false → y ≤ x
    within x y q = grind (arith, nat_tests)

    by : (b : Bool) → is_above last k ≡ b → HasNumber k (ids ++ id ∷ [])
    by false q = numbers-grow k ids (id ∷ []) (found k i q)
    by true q =
        let low = least-above last ns a id.index e k i q in
        let high = within id.index k h in
        let same : id.index ≡ k = omega (arith, low, high) in
        subst (λ n. HasNumber n (ids ++ id ∷ [])) same (number-last ids id)

pub all-found : (ns : List ℕ) (last : Option ImplId) (ids : List ImplId) → None ≡ next_above last ns → AreFound ns last ids → HaveNumbers ns ids
all-found ns last ids e found k i = found k i (none-left last ns e k i)

-- how many numbers are left above the last one
abbrev pub numbers_left : Option ImplId → ℕ
numbers_left None = MAX_INDEX + 2
numbers_left (Some i) = MAX_INDEX + 1 - i.index

pub fewer-left : (ns : List ℕ) (last : Option ImplId) (id : ImplId) → Some id.index ≡ next_above last ns → numbers_left (Some id) < numbers_left last
fewer-left ns None id e = omega arith
fewer-left ns (Some j) id e = fewer (above j.index id.index (next-above (Some j) ns id.index e)) id.in_range
  where
    above : (x y : ℕ) → nat_lt x y ≡ true → x < y
    above x y q = grind (arith, nat_tests)

    fewer : j.index < id.index → id.index ≤ MAX_INDEX → MAX_INDEX + 1 - id.index < MAX_INDEX + 1 - j.index
    fewer h g = omega (arith, h, g)

-- ---- what has a common instance with a header can match it
meets-match : (T U : Trees) (l : Label) → Some l ≡ head_of T → begins_declared U ≡ true → (NeverMeet T U → ⊥) → (is_relevant_to (erase T) (erase U) && not (are_apart T U)) ≡ true
meets-match T U l e b n = both (is_relevant_to (erase T) (erase U)) _ (meets-relevant T T U l e e b n) (by (are_apart T U) refl)
  where
    by : (a : Bool) → are_apart T U ≡ a → not a ≡ true
    by true q = absurd (n (apart-never-meet T U q))
    by false q = refl

-- ---- the partners of an impl
module _ (es : List Entry) (d : Items) (held : AreHeld es d) (later : ImplId) (def : ImplDef) (named_so : impls_named (declared es d) later.index ≡ erased_impl (impl_in es later def) ∷ []) where
  abbrev args : Trees
  args = trees_at es def.header.args.0

  -- those that can match its header, if its self type is rigid
  pub rigid-partners : (l : Label) → Some l ≡ head_of args → (ids : List ImplId) → HaveNumbers (matches_in es d (reference_in es def.header)) ids → HavePartners (declared es d) d.local later.index ids
  rigid-partners l e ids have x y p n m =
      have y.name
      (subst (λ k. In k (matches_in es d (reference_in es def.header))) (ap (λ (z : ImplDecl). z.name) outer.2)
      (in-map (λ (z : ImplDecl). z.name) (filter (is_match def.header.def_id.index args) (written es d).impls) outer.0
      (filter-in (is_match def.header.def_id.index args) (written es d).impls outer.0 outer.1
      (both (outer.0.header.trait == def.header.def_id.index) _ (subst (λ t. (t == def.header.def_id.index) ≡ true) trait (self-number def.header.def_id.index)) matching))))
    where
      same : erased_impl (impl_in es later def) ≡ x
      same = one-named (declared es d) later.index (erased_impl (impl_in es later def)) named_so x p.stands n

      shared : CommonInstance (erased_impl (impl_in es later def)) y
      shared = subst (λ (z : ImplDecl). CommonInstance z y) (sym same) m

      -- what y is made of
      outer : (z : ImplDecl) × In z (written es d).impls × (erased_impl z ≡ y)
      outer = map-in erased_impl (written es d).impls y p.partner

      inner : (h : HeldImpl) × In h d.impls × (impl_in es h.id h.def ≡ outer.0)
      inner = map-in (λ (h : HeldImpl). impl_in es h.id h.def) d.impls outer.0 outer.1

      meets : CommonInstance (erased_impl (impl_in es later def)) (erased_impl outer.0)
      meets = subst (CommonInstance (erased_impl (impl_in es later def))) (sym outer.2) shared

      trait : def.header.def_id.index ≡ outer.0.header.trait
      trait = ap (λ (r : Reference). r.trait) meets.equal

      begins : begins_declared outer.0.header.args ≡ true
      begins = subst (λ (z : ImplDecl). begins_declared z.header.args ≡ true) inner.2 (each-in (λ (h : HeldImpl). ImplHeld es h.def) d.impls inner.0 held.impls inner.1).begins

      matching : (is_relevant_to (erase args) (erase outer.0.header.args) && not (are_apart args outer.0.header.args)) ≡ true
      matching = meets-match args outer.0.header.args l e begins (λ never. never meets.left meets.right meets.left_fits meets.right_fits (ap (λ (r : Reference). r.args) meets.equal))
