-- An impl that cannot match a reference has no rule for any instance of it.
use Rattle.std.proofs.Common.{◌≡◌, ◌==◌, ℕ, zero, true, false, not, List, [], ◌∷◌, Some, refl, sym, ap, ◌∙◌, subst, ◌⊎◌, inl, inr}
use Rattle.sessions.specs.TypeTerms.Promised.Label.{Label, Sort, of_type, of_const, of_lifetime, param, placeholder, infer, canonical, bound}
use Rattle.sessions.specs.TypeTerms.Promised.Trees.{Trees, none, tree, ◌+++◌, IsA, Fits, erase, erase_label, instantiate}
use Rattle.sessions.specs.TypeTerms.Trees.{flags, label_flags}
use Rattle.sessions.specs.TypeTerms.Codes.{same_label}
use Rattle.sessions.specs.TypeTerms.Promised.Rules.{by_impl, impl_rules}
use Rattle.sessions.specs.TypeTerms.Promised.Handles.{Entry, Has, Is, trees_at, types}
use Rattle.sessions.specs.TypeTerms.Terms.{Lawful, args_lists}
use Rattle.sessions.specs.TypeTerms.Promised.Handles.{ArgHeld, ArgsHeld, arg_trees}
use Rattle.sessions.specs.TypeTerms.Kinds.{args_trees}
use Rattle.sessions.specs.TypeTerms.declared.kinds.Ty.{Ty}
use Rattle.sessions.specs.TypeTerms.declared.kinds.GenericArgKind.{GenericArgKind}
use Rattle.sessions.specs.TypeTerms.declared.kinds.GenericArgKind.TheVariants.{Ty as AType}
use Rattle.sessions.specs.TermFolds.Signatures.{StartsWithType}
use Rattle.std.specs.List.{slice_get}
use Rattle.sessions.specs.TypeTerms.Promised.ReadByLaws.{ImplRulesAreInstances}
use Rattle.sessions.specs.TypeTerms.Promised.Worlds.{Reference, ImplDecl, with_args, all_with_args}
use Rattle.sessions.specs.TypeTerms.Promised.Erased.{erased_reference, erased_impl}
use Rattle.sessions.proofs.TypeTerms.Applies.{same-complete, same-label-itself}
use Rattle.sessions.proofs.TypeTerms.Made.{false-true}
use Rattle.sessions.proofs.TypeTerms.Members.{self-number}
use Rattle.sessions.proofs.TypeTerms.Walking.{both}
use Rattle.sessions.specs.Declarations.Apart.{levels, are_apart}
use Rattle.sessions.specs.Declarations.Heads.{head_of}
use Rattle.sessions.specs.Declarations.Relevant.{is_relevant_to, is_match}
use Rattle.sessions.proofs.Declarations.Fixed.{no-flags, top, child, next, fixed-label, fixed-erased, fixed-instance}
use Rattle.sessions.proofs.Declarations.MeetingLaws.{Reads, ReadNode, erased-again, instantiate-reads, meet, not-apart}
use Rattle.sessions.specs.InferTable.Solutions.{Assignment, instance}
use Rattle.sessions.proofs.OverlapCheck.Tops.{erased-reads}
use Rattle.explain_sessions.specs.Rules.{HasNoRuleBy, assigned, begins_known}
use Rattle.sessions.proofs.TypeTerms.TermBasics.{three, type-is, trees-of as at-is}

-- ---- what is apart
-- an unknown is a variable of types, constants or lifetimes
no-unknown : (k : Sort) (v : ℕ) → label_flags (infer k v) ≡ 0 → ⊥
no-unknown of_type v h = cc
no-unknown of_const v h = cc
no-unknown of_lifetime v h = cc

-- what is fixed has none
instance-fixed : (s : Assignment) (t : Trees) → flags t ≡ 0 → instance s t ≡ t
instance-fixed s none h = refl
instance-fixed s (tree (infer of_type v) c o) h = absurd (no-unknown of_type v (top (infer of_type v) c o h))
instance-fixed s (tree (infer of_const v) c o) h = absurd (no-unknown of_const v (top (infer of_const v) c o h))
instance-fixed s (tree l c o) h = three (fixed-label l (top l c o h)) (instance-fixed s c (child l c o h)) (instance-fixed s o (next l c o h))

-- to put trees in the place of unknowns is a way of reading
assigned-reads : (s : Assignment) → Reads (λ d. instance s)
assigned-reads s = record { nothing = λ d. refl; node = at }
  where
    at : (d : ℕ) (l : Label) (c o : Trees) → ReadNode (λ e. instance s) d l c o
    at d (infer of_type v) c o = record { label = (s of_type v).0; children = (s of_type v).1; is = refl; labelled = λ h. absurd (false-true (sym h)); within = d; parts = λ h g. absurd (false-true (sym h)) }
    at d (infer of_const v) c o = record { label = (s of_const v).0; children = (s of_const v).1; is = refl; labelled = λ h. absurd (false-true (sym h)); within = d; parts = λ h g. absurd (false-true (sym h)) }
    at d l c o = record { label = erase_label l; children = instance s c; is = refl; labelled = λ h. erased-again l; within = d; parts = λ h g. refl }

apart-no-instance : (s : Assignment) (A x y : Trees) → instantiate zero A (erase y) ≡ instance s (erase x) → are_apart x y ≡ false
apart-no-instance s A x y e = not-apart x y record {
  one = λ f g. same-complete x y (sym (ap (instance s) (fixed-erased x (no-flags x f)) ∙ instance-fixed s x (no-flags x f)) ∙ sym e
      ∙ ap (instantiate zero A) (fixed-erased y (no-flags y g)) ∙ fixed-instance zero A y (no-flags y g));
  levels_meet =
      meet (λ d t. instance s (erase t)) (λ d t. instantiate d A (erase t)) (erased-reads (λ d. instance s) (assigned-reads s)) (erased-reads (λ d. instantiate d A) (instantiate-reads A))
      levels zero zero x y (sym e);
}

-- ---- heads
same-first : (l m : Label) (c d o p : Trees) → tree l c o ≡ tree m d p → l ≡ m
same-first l m c d o p e = cc

-- what stands first and is no unknown stays, but for lifetimes
known-first : (s : Assignment) (k : Label) (p q : Trees) → begins_known (tree k p q) ≡ true → instance s (tree k p q) ≡ tree (erase_label k) (instance s p) (instance s q)
known-first s (infer k v) p q h = absurd (false-true h)
known-first s k p q h = refl

known-erased : (k : Label) (p q : Trees) → begins_known (tree k p q) ≡ true → begins_known (tree (erase_label k) (erase p) (erase q)) ≡ true
known-erased (infer k v) p q h = absurd (false-true h)
known-erased (param of_lifetime v) p q h = refl
known-erased (placeholder of_lifetime v) p q h = refl
known-erased (canonical of_lifetime v) p q h = refl
known-erased (bound of_lifetime j v) p q h = refl
known-erased k p q h = refl

relevant-by : (s : Assignment) (A t : Trees) (k : Label) (p q x : Trees) → instantiate zero A t ≡ tree k p q → is_relevant_to (tree k x x) t ≡ true
relevant-by s A none k p q x e = cc
relevant-by s A (tree (param j i) d o) k p q x e = refl
relevant-by s A (tree l d o) k p q x e = ap (same_label k) (same-first l k _ p _ q e) ∙ same-label-itself k

instance-relevant : (s : Assignment) (A t x : Trees) → begins_known x ≡ true → instantiate zero A t ≡ instance s (erase x) → is_relevant_to (erase x) t ≡ true
instance-relevant s A t none b e = absurd (false-true b)
instance-relevant s A t (tree k p q) b e =
    relevant-by s A t (erase_label k) (instance s (erase p)) (instance s (erase q)) (erase p)
    (e ∙ known-first s (erase_label k) (erase p) (erase q) (known-erased k p q b) ∙ ap (λ l. tree l (instance s (erase p)) (instance s (erase q))) (erased-again k))

-- ---- one impl
-- what is said of an impl's rules: it has none, or its header is the reference
abbrev pub HasInstance : Reference → ImplDecl → Type 0
HasInstance r i = (impl_rules r i ≡ []) ⊎ ((A : Trees) × (with_args A i.header ≡ r))

unmatched : (s : Assignment) (r : Reference) → begins_known r.args ≡ true → (i : ImplDecl) → HasInstance (assigned s (erased_reference r)) (erased_impl i) → is_match r.trait r.args i ≡ false
    → impl_rules (assigned s (erased_reference r)) (erased_impl i) ≡ []
unmatched s r n i (inl e) m = e
unmatched s r n i (inr x) m = absurd (false-true (sym m ∙ matches))
  where
    args : instantiate zero x.0 (erase i.header.args) ≡ instance s (erase r.args)
    args = ap (λ (z : Reference). z.args) x.1

    matches : is_match r.trait r.args i ≡ true
    matches =
        both (i.header.trait == r.trait) _ (subst (λ k. (i.header.trait == k) ≡ true) (ap (λ (z : Reference). z.trait) x.1) (self-number i.header.trait))
        (both (is_relevant_to (erase r.args) (erase i.header.args)) _ (instance-relevant s x.0 (erase i.header.args) r.args n args)
        (ap not (apart-no-instance s x.0 r.args i.header.args args)))

pub no-match : ((q : Reference) (i : ImplDecl) → HasInstance q i) → (r : Reference) → begins_known r.args ≡ true → (i : ImplDecl) → is_match r.trait r.args i ≡ false → HasNoRuleBy (erased_reference r) (erased_impl i)
no-match law r n i m q x = subst (λ z. impl_rules z (erased_impl i) ≡ []) x.2 (unmatched x.0 r n i (law (assigned x.0 (erased_reference r)) (erased_impl i)) m)

-- ---- self types
begins : (t u : Trees) → IsA of_type t → StartsWithType (t +++ u)
begins none u h = absurd h
begins (tree l c o) u h = h.0

heads-first : (t u : Trees) → IsA of_type t → head_of (t +++ u) ≡ head_of t
heads-first none u h = absurd h
heads-first (tree l c o) u h = refl

pub held-type : (es : List Entry) (xs : List GenericArgKind) (t : Ty) → ArgsHeld es xs → slice_get xs 0 ≡ Some (AType t) → Has es types t.0
held-type es [] t held e = cc
held-type es (x ∷ xs) t held e = let one : x ≡ AType t = cc in subst (ArgHeld es) one held.0

-- a list of arguments that begins with a type is that, and the others
begins-with : (es : List Entry) (i : ℕ) (xs : List GenericArgKind) (t : Ty) → Is es args_lists i (args_trees es xs) → slice_get xs 0 ≡ Some (AType t) → (u : Trees) × (trees_at es i ≡ trees_at es t.0 +++ u)
begins-with es i [] t at e = cc
begins-with es i (x ∷ xs) t at e =
    let one : x ≡ AType t = cc in
    (args_trees es xs, at-is es args_lists i (args_trees es (x ∷ xs)) at ∙ ap (λ a. arg_trees es a +++ args_trees es xs) one)

pub starts-with-type : (es : List Entry) → Lawful es → (i : ℕ) (xs : List GenericArgKind) (t : Ty) → Is es args_lists i (args_trees es xs) → ArgsHeld es xs → slice_get xs 0 ≡ Some (AType t)
    → StartsWithType (trees_at es i)
starts-with-type es law i xs t at held e =
    let b = begins-with es i xs t at e in
    subst StartsWithType (sym b.1) (begins (trees_at es t.0) b.0 (type-is es law t.0 (held-type es xs t held e)))

knowns-first : (t u : Trees) → IsA of_type t → begins_known (t +++ u) ≡ begins_known t
knowns-first none u h = absurd h
knowns-first (tree (infer s i) c o) u h = refl
knowns-first (tree l c o) u h = refl

pub known-of-first : (es : List Entry) → Lawful es → (i : ℕ) (xs : List GenericArgKind) (t : Ty) → Is es args_lists i (args_trees es xs) → ArgsHeld es xs → slice_get xs 0 ≡ Some (AType t)
    → begins_known (trees_at es i) ≡ begins_known (trees_at es t.0)
known-of-first es law i xs t at held e =
    let b = begins-with es i xs t at e in
    ap begins_known b.1 ∙ knowns-first (trees_at es t.0) b.0 (type-is es law t.0 (held-type es xs t held e))

pub head-of-first : (es : List Entry) → Lawful es → (i : ℕ) (xs : List GenericArgKind) (t : Ty) → Is es args_lists i (args_trees es xs) → ArgsHeld es xs → slice_get xs 0 ≡ Some (AType t)
    → head_of (trees_at es i) ≡ head_of (trees_at es t.0)
head-of-first es law i xs t at held e =
    let b = begins-with es i xs t at e in
    ap head_of b.1 ∙ heads-first (trees_at es t.0) b.0 (type-is es law t.0 (held-type es xs t held e))

pub instance-of : ImplRulesAreInstances → (r : Reference) (i : ImplDecl) → HasInstance r i
instance-of law r i = by (law r i).0
  where
    by : (impl_rules r i ≡ []) ⊎ ((A : Trees) × Fits A i.header.args × (with_args A i.header ≡ r) × (impl_rules r i ≡ record { way = by_impl i.name; premises = all_with_args A i.clauses } ∷ [])) → HasInstance r i
    by (inl e) = inl e
    by (inr x) = inr (x.0, x.2)
