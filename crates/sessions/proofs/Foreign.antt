-- What visits find of the parameters of a question and of what is foreign to it.
use Rattle.std.proofs.Common.{◌≡◌, ℕ, zero, suc, Bool, true, false, not, ◌||◌, ◌&&◌, List, [], ◌∷◌, map, refl, sym, ap, ◌∙◌, subst}
use Rattle.type_terms.specs.Promised.Answers.{is_undeclared}
use Rattle.type_terms.specs.Promised.Handles.{ArgsHeld, arg_trees}
use Rattle.type_terms.specs.Promised.Label.{Label, of_type, of_const, of_lifetime, param, placeholder, infer, canonical, bound, fn_ptr, principal, static}
use Rattle.type_terms.specs.Scans.{has_flag, some_node_of}
use Rattle.type_terms.specs.Pieces.{one_piece}
use Rattle.type_terms.specs.Promised.Handles.{Entry, trees_at}
use Rattle.type_terms.specs.Promised.Trees.{Trees, none, tree, some_node}
use Rattle.type_terms.specs.Promised.Worlds.{World, Reference}
use Rattle.type_terms.specs.declared.kinds.GenericArgKind.{GenericArgKind}
use Rattle.term_folds.specs.declared.predicate.TraitRef.{TraitRef}
use Rattle.declarations.specs.Applied.{TraitRefsHeld, references_in}
use Rattle.sessions.specs.Foreign.{is_foreign_term, are_own_terms, is_unknown_term, strays}
use Rattle.sessions.specs.Promised.OwnValues.{is_same_param, occurs_among}
use Rattle.sessions.proofs.OwnValues.{some-either}
use Rattle.type_terms.proofs.BooleanBasics.{or-false as no-more, de-morgan}

-- ---- unknowns, by the flags of terms
label-unknown : (l : Label) → is_unknown_term l ≡ (has_flag 2 l || has_flag 512 l)
label-unknown (param of_type i) = refl
label-unknown (param of_const i) = refl
label-unknown (param of_lifetime i) = refl
label-unknown (placeholder of_type i) = refl
label-unknown (placeholder of_const i) = refl
label-unknown (placeholder of_lifetime i) = refl
label-unknown (infer of_type i) = refl
label-unknown (infer of_const i) = refl
label-unknown (infer of_lifetime i) = refl
label-unknown (canonical of_type i) = refl
label-unknown (canonical of_const i) = refl
label-unknown (canonical of_lifetime i) = refl
label-unknown (bound of_type k i) = refl
label-unknown (bound of_const k i) = refl
label-unknown (bound of_lifetime k i) = refl
label-unknown (fn_ptr zero) = refl
label-unknown (fn_ptr (suc n)) = refl
label-unknown (principal zero t) = refl
label-unknown (principal (suc n) t) = refl
label-unknown static = refl
label-unknown l = refl

same-tests : (p q : Label → Bool) → ((l : Label) → p l ≡ q l) → (t : Trees) → some_node p t ≡ some_node q t
same-tests p q e none = refl
same-tests p q e (tree l c o) =
    ap (λ b. b || some_node p c || some_node p o) (e l) ∙ ap (λ b. q l || b || some_node p o) (same-tests p q e c) ∙ ap (λ b. q l || some_node q c || b) (same-tests p q e o)

unknown-flags : (t : Trees) → some_node is_unknown_term t ≡ (some_node (has_flag 2) t || some_node (has_flag 512) t)
unknown-flags t = same-tests is_unknown_term (λ l. has_flag 2 l || has_flag 512 l) label-unknown t ∙ some-either (has_flag 2) (has_flag 512) t

one-flag : (n : ℕ) (t : Trees) → some_node_of (has_flag n) (one_piece t) ≡ some_node (has_flag n) t
one-flag n t = no-more (some_node (has_flag n) t)

pub unknown-found : (t : Trees) → some_node_of (has_flag 2) (one_piece t) ≡ true → true ≡ some_node is_unknown_term t
unknown-found t h = sym (unknown-flags t ∙ ap (λ b. b || some_node (has_flag 512) t) (sym (one-flag 2 t) ∙ h))

pub unknown-not-found : (t : Trees) → some_node_of (has_flag 2) (one_piece t) ≡ false → some_node_of (has_flag 512) (one_piece t) ≡ some_node is_unknown_term t
unknown-not-found t h = one-flag 512 t ∙ sym (unknown-flags t ∙ ap (λ b. b || some_node (has_flag 512) t) (sym (one-flag 2 t) ∙ h))

-- ---- references one after the other
module _ (es : List Entry) (m : Label) (left : List TraitRef) (b : Bool) (r : TraitRef) (others : List TraitRef) (e : left ≡ r ∷ others) where
  pub held-first : TraitRefsHeld es left → TraitRefsHeld es (r ∷ others)
  held-first h = subst (TraitRefsHeld es) e h

  module _ (k : occurs_among (references_in es left) m ≡ b) where
    whole : (some_node (λ l. is_same_param l m) (trees_at es r.args.0) || occurs_among (references_in es others) m) ≡ b
    whole = ap (λ xs. occurs_among (references_in es xs) m) (sym e) ∙ k

    pub param-found : some_node (λ l. is_same_param l m) (trees_at es r.args.0) ≡ true → true ≡ b
    param-found h = ap (λ z. z || occurs_among (references_in es others) m) (sym h) ∙ whole

    pub param-next : some_node (λ l. is_same_param l m) (trees_at es r.args.0) ≡ false → occurs_among (references_in es others) m ≡ b
    param-next h = ap (λ z. z || occurs_among (references_in es others) m) (sym h) ∙ whole

pub param-none : (es : List Entry) (m : Label) (left : List TraitRef) (b : Bool) → left ≡ [] → occurs_among (references_in es left) m ≡ b → false ≡ b
param-none es m left b e k = ap (λ xs. occurs_among (references_in es xs) m) (sym e) ∙ k

-- ---- values one after the other
module _ (es : List Entry) (V : World) (rs : List Reference) (left : List GenericArgKind) (b : Bool) (v : GenericArgKind) (others : List GenericArgKind) (e : left ≡ v ∷ others) where
  pub held-value : ArgsHeld es left → ArgsHeld es (v ∷ others)
  held-value h = subst (ArgsHeld es) e h

  module _ (k : are_own_terms V rs (map (arg_trees es) left) ≡ b) where
    whole-values : (not (some_node (is_foreign_term V rs) (arg_trees es v)) && are_own_terms V rs (map (arg_trees es) others)) ≡ b
    whole-values = ap (λ xs. are_own_terms V rs (map (arg_trees es) xs)) (sym e) ∙ k

    pub foreign-found : not (some_node (is_foreign_term V rs) (arg_trees es v)) ≡ false → false ≡ b
    foreign-found h = ap (λ z. z && are_own_terms V rs (map (arg_trees es) others)) (sym h) ∙ whole-values

    pub own-next : not (some_node (is_foreign_term V rs) (arg_trees es v)) ≡ true → are_own_terms V rs (map (arg_trees es) others) ≡ b
    own-next h = ap (λ z. z && are_own_terms V rs (map (arg_trees es) others)) (sym h) ∙ whole-values

pub own-all : (es : List Entry) (V : World) (rs : List Reference) (left : List GenericArgKind) (b : Bool) → left ≡ [] → are_own_terms V rs (map (arg_trees es) left) ≡ b → true ≡ b
own-all es V rs left b e k = ap (λ xs. are_own_terms V rs (map (arg_trees es) xs)) (sym e) ∙ k

-- ---- a type
-- its names are declared and it holds no stray place
pub type-own : (V : World) (rs : List Reference) (t : Trees) → (not (some_node (is_undeclared V) t) && not (some_node (strays rs) t)) ≡ not (some_node (is_foreign_term V rs) t)
type-own V rs t = de-morgan (some_node (is_undeclared V) t) (some_node (strays rs) t) ∙ ap not (sym (some-either (is_undeclared V) (strays rs) t))

pub type-foreign : (V : World) (rs : List Reference) (t : Trees) → not (some_node (is_undeclared V) t) ≡ false → false ≡ not (some_node (is_foreign_term V rs) t)
type-foreign V rs t h = ap (λ z. z && not (some_node (strays rs) t)) (sym h) ∙ type-own V rs t

pub type-rest : (V : World) (rs : List Reference) (t : Trees) → not (some_node (is_undeclared V) t) ≡ true → not (some_node (strays rs) t) ≡ not (some_node (is_foreign_term V rs) t)
type-rest V rs t h = ap (λ z. z && not (some_node (strays rs) t)) (sym h) ∙ type-own V rs t
