-- What is proved of a reference without lifetimes by declarations as they are written is proved by the same without their lifetimes.
use Rattle.std.proofs.Common.{◌≡◌, ◌⊎◌, Bool, true, false, if◌then◌else◌, List, [], ◌∷◌, ◌++◌, map, inl, inr, refl, sym, ◌∙◌, ap, subst}
use Rattle.type_terms.specs.Promised.Proofs.{ProofEntry, In, Every, Stands, Follows, HasProof}
use Rattle.type_terms.specs.Promised.Rules.{Rule, rules, is_coinductive}
use Rattle.type_terms.specs.Promised.Trees.{some_node}
use Rattle.type_terms.specs.Promised.Worlds.{World, CrateDecl, Reference}
use Rattle.type_terms.proofs.Members.{here, there, in-cases, in-nothing}
use Rattle.type_terms.proofs.Made.{false-true}
use Rattle.goal_evaluator.specs.Lists as Lists
use Rattle.candidate_model.specs.DeclaredWell.{IsDeclaredWell}
use Rattle.candidate_model.specs.Facts.{is_unerased}
use Rattle.candidate_model.specs.Meaning.{SelfTypesBegin}
use Rattle.candidate_model.proofs.ErasedCandidates.{without_lifetimes}
use Rattle.candidate_model.proofs.PlainRules.{Plain, IsPlainReference}
use Rattle.sessions.proofs.PlainPremises.{rules-plain}
use Rattle.sessions.proofs.WithoutLifetimes.{FieldsAreErased, rules-same}

-- ---- the entries of references without lifetimes
abbrev of : ProofEntry → Reference
of e = e.of

abbrev has_lifetime : ProofEntry → Bool
has_lifetime e = some_node is_unerased e.of.args

keep : Bool → ProofEntry → List ProofEntry → List ProofEntry
keep true e es = es
keep false e es = e ∷ es

kept : List ProofEntry → List ProofEntry
kept [] = []
kept (e ∷ es) = keep (has_lifetime e) e (kept es)

keep-append : (b : Bool) (e : ProofEntry) (xs ys : List ProofEntry) → keep b e (xs ++ ys) ≡ keep b e xs ++ ys
unfolding keep
keep-append true e xs ys = refl
keep-append false e xs ys = refl

kept-append : (xs ys : List ProofEntry) → kept (xs ++ ys) ≡ kept xs ++ kept ys
unfolding kept
kept-append [] ys = refl
kept-append (e ∷ xs) ys = ap (keep (has_lifetime e) e) (kept-append xs ys) ∙ keep-append (has_lifetime e) e (kept xs) (kept ys)

no-last : (xs : List ProofEntry) → xs ++ [] ≡ xs
no-last [] = refl
no-last (x ∷ xs) = ap (λ z. x ∷ z) (no-last xs)

stands-kept : (p : Reference) → Plain p.args → (es : List ProofEntry) → Stands p es → Stands p (kept es)
unfolding kept keep
stands-kept p g [] i = absurd (in-nothing p i)
stands-kept p g (e ∷ es) i = by (has_lifetime e) refl (in-cases p e.of (map of es) i) (λ j. stands-kept p g es j)
  where
    by : (b : Bool) → has_lifetime e ≡ b → (e.of ≡ p) ⊎ In p (map of es) → (In p (map of es) → Stands p (kept es)) → Stands p (keep b e (kept es))
    by false f (inl q) go = subst (λ z. In z (map of (e ∷ kept es))) q (here e.of (map of (kept es)))
    by false f (inr j) go = there p e.of (map of (kept es)) (go j)
    by true f (inl q) go = absurd (false-true (sym g ∙ ap (λ (z : Reference). some_node is_unerased z.args) (sym q) ∙ f))
    by true f (inr j) go = go j

stands-if : (b : Bool) (all earlier : List ProofEntry) (p : Reference) → Plain p.args → Stands p (if b then all else earlier) → Stands p (if b then kept all else kept earlier)
stands-if true all earlier p g s = stands-kept p g all s
stands-if false all earlier p g s = stands-kept p g earlier s

every-in : {A : Type 0} (P : A → Type 0) (xs : List A) → Lists.Every P xs → (x : A) → In x xs → P x
every-in P [] h x i = absurd (in-nothing x i)
every-in P (y ∷ xs) h x i = elim (in-cases x y xs i) [ inl e ↦ subst P e h.0 | inr j ↦ every-in P xs h.1 x j ]

every-plain : (P Q : Reference → Type 0) → ((p : Reference) → Plain p.args → P p → Q p) → (ps : List Reference) → Lists.Every IsPlainReference ps → Every P ps → Every Q ps
every-plain P Q f [] g h = tt
every-plain P Q f (p ∷ ps) g h = (f p g.0 h.0, every-plain P Q f ps g.1 h.1)

module _ (V : World) (well : IsDeclaredWell V) (begin : SelfTypesBegin V) (erased : FieldsAreErased V) (cs : List CrateDecl) (E : List Reference) where
  abbrev U : World
  U = without_lifetimes V cs

  follow : (all earlier left : List ProofEntry) → Follows V E all earlier left → Follows U E (kept all) (kept earlier) (kept left)
  unfolding kept keep
  follow all earlier [] f = tt
  follow all earlier (e ∷ left) f = by (has_lifetime e) refl (subst (λ z. Follows U E (kept all) z (kept left)) (kept-append earlier (e ∷ [])) (follow all (earlier ++ e ∷ []) left f.2))
    where
      by : (b : Bool) → has_lifetime e ≡ b → Follows U E (kept all) (kept earlier ++ keep b e []) (kept left) → Follows U E (kept all) (kept earlier) (keep b e (kept left))
      by false g h = (
        subst (In e.rule) (sym (rules-same V well begin erased cs E e.of g)) f.0,
        every-plain (λ p. Stands p (if is_coinductive V e.of.trait then all else earlier)) (λ p. Stands p (if is_coinductive V e.of.trait then kept all else kept earlier))
            (stands-if (is_coinductive V e.of.trait) all earlier) e.rule.premises (every-in (λ (u : Rule). Lists.Every IsPlainReference u.premises) (rules V E e.of) (rules-plain V well.terms E e.of g) e.rule f.0) f.1,
        h,
      )
      by true g h = subst (λ z. Follows U E (kept all) z (kept left)) (no-last (kept earlier)) h

  pub plain-proof : (r : Reference) → Plain r.args → HasProof V E r → HasProof U E r
  unfolding kept
  plain-proof r g p = (kept p.0, follow p.0 [] p.0 p.1, stands-kept r g p.0 p.2)
