-- References that no built-in row concludes, whatever their unknowns stand for.
use Rattle.std.proofs.Common.{◌≡◌, ◌==◌, ◌++◌, ℕ, Bool, true, false, ◌||◌, List, [], Some, None, refl, sym, ap, ◌∙◌, subst, if◌then◌else◌}
use Rattle.sessions.specs.TypeTerms.Promised.Label.{Label, tuple, fn_ptr, dynamic, infer}
use Rattle.sessions.specs.TypeTerms.Promised.Trees.{Trees, none, tree, erase, erase_label}
use Rattle.sessions.specs.TypeTerms.Promised.Rules.{Rule, sized, copy, clone, tuple_trait, fn_ptr_trait, is_fn_trait, unsize, is_auto, copy_rules, tuple_rules, fn_ptr_rules, call_rules, sized_rules, auto_rules, unsize_rules, object_rules, built_in_rules}
use Rattle.sessions.specs.TypeTerms.Promised.Handles.{Entry, trees_at}
use Rattle.sessions.specs.TypeTerms.Promised.Worlds.{World, Reference, CrateDecl}
use Rattle.sessions.proofs.TypeTerms.Members.{same-number}
use Rattle.sessions.specs.TermFolds.declared.predicate.TraitRef.{TraitRef}
use Rattle.sessions.proofs.TypeTerms.Made.{false-true}
use Rattle.sessions.specs.InferTable.Solutions.{Assignment, instance}
use Rattle.sessions.proofs.InferTable.SolutionLaws.{instance-erase}
use Rattle.sessions.specs.Declarations.Heads.{head_of, label_of, is_rigid}
use Rattle.sessions.specs.Declarations.Items.{Items, declared, written}
use Rattle.sessions.specs.Declarations.declared.simplify.SimplifiedType.{SimplifiedType}
use Rattle.sessions.proofs.CandidateAssembly.Knowing.{traits-erased}
use Rattle.sessions.specs.ProofChecker.Steps.{term_of}
use Rattle.explain_sessions.specs.Rules.{HasNoRow, is_bare}
use Rattle.sessions.proofs.TypeTerms.TypeBasics.{some-not-none}

-- ---- by the label of the self type
bare-copy : (t : ℕ) (l : Label) (c o : Trees) → is_bare l ≡ true → copy_rules t (tree l c o) ≡ []
bare-copy t tuple c o h = absurd (false-true h)
bare-copy t (fn_ptr n) c o h = absurd (false-true h)
bare-copy t l c o h = refl

bare-tuple : (l : Label) (c o : Trees) → is_bare l ≡ true → tuple_rules (tree l c o) ≡ []
bare-tuple tuple c o h = absurd (false-true h)
bare-tuple l c o h = refl

bare-fn-ptr : (l : Label) (c o : Trees) → is_bare l ≡ true → fn_ptr_rules (tree l c o) ≡ []
bare-fn-ptr (fn_ptr n) c o h = absurd (false-true h)
bare-fn-ptr l c o h = refl

bare-call : (l : Label) (c o : Trees) → is_bare l ≡ true → call_rules (tree l c o) ≡ []
bare-call (fn_ptr n) c o h = absurd (false-true h)
bare-call l c o h = refl

bare-object : (W : World) (r : Reference) (l : Label) (c o : Trees) → is_bare l ≡ true → object_rules W r (tree l c o) ≡ []
bare-object W r dynamic c o h = absurd (false-true h)
bare-object W r l c o h = refl

-- ---- all rows
left-out : (b : Bool) (us : List Rule) → us ≡ [] → (if b then us else []) ≡ []
left-out true us e = e
left-out false us e = refl

untold : (b : Bool) (us : List Rule) → b ≡ false → (if b then us else []) ≡ []
untold true us e = absurd (false-true (sym e))
untold false us e = refl

unless : (b : Bool) (us : List Rule) → (b ≡ true → us ≡ []) → (if b then us else []) ≡ []
unless true us e = e refl
unless false us e = refl

joined : (us vs : List Rule) → us ≡ [] → vs ≡ [] → us ++ vs ≡ []
joined us vs e f = ap (λ z. z ++ vs) e ∙ f

no-rows : (W : World) (t : ℕ) (l : Label) (c o : Trees) → is_bare l ≡ true → is_auto W t ≡ false → (t == unsize) ≡ false → ((t == sized) ≡ true → sized_rules W (tree l c o) ≡ [])
    → built_in_rules W (record { trait = t; args = tree l c o }) ≡ []
no-rows W t l c o bare auto uns siz =
    joined _ _
    (joined _ _ (left-out ((t == copy) || (t == clone)) (copy_rules t (tree l c o)) (bare-copy t l c o bare))
    (joined _ _ (left-out (t == tuple_trait) (tuple_rules (tree l c o)) (bare-tuple l c o bare))
    (joined _ _ (left-out (t == fn_ptr_trait) (fn_ptr_rules (tree l c o)) (bare-fn-ptr l c o bare))
    (left-out (is_fn_trait t) (call_rules (tree l c o)) (bare-call l c o bare)))))
    (joined _ _ (unless (t == sized) (sized_rules W (tree l c o)) siz)
    (joined _ _ (untold (is_auto W t) (auto_rules W t (tree l c o)) auto)
    (joined _ _ (untold (t == unsize) (unsize_rules W (tree l c o)) uns)
    (bare-object W (record { trait = t; args = tree l c o }) l c o bare))))

-- ---- a reference by its head
same-some : (l m : Label) → Some l ≡ Some m → l ≡ m
same-some l m e = cc

-- a rigid label stays, but for lifetimes, whatever unknowns stand for
rigid-instance : (s : Assignment) (m : Label) (c o : Trees) → is_rigid m ≡ true → instance s (tree m c o) ≡ tree (erase_label m) (instance s c) (instance s o)
rigid-instance s (infer k v) c o h = absurd (false-true h)
rigid-instance s m c o h = refl

by-head : (W : World) (t : ℕ) (args : Trees) (l : Label) → head_of args ≡ Some l → is_bare l ≡ true → is_auto W t ≡ false → (t == unsize) ≡ false
    → ((t == sized) ≡ true → (c o : Trees) → sized_rules W (tree l c o) ≡ []) → HasNoRow W (record { trait = t; args = erase args })
by-head W t none l e bare auto uns siz = absurd (some-not-none l (sym e))
by-head W t (tree m c o) l e bare auto uns siz = λ s. by s (is_rigid m) refl e
  where
    by : (s : Assignment) (b : Bool) → is_rigid m ≡ b → (if b then Some (erase_label m) else None) ≡ Some l → built_in_rules W (record { trait = t; args = instance s (erase (tree m c o)) }) ≡ []
    by s false r f = absurd (some-not-none l (sym f))
    by s true r f =
        let at : instance s (erase (tree m c o)) ≡ tree l (instance s c) (instance s o) =
        instance-erase s (tree m c o) ∙ rigid-instance s m c o r ∙ ap (λ k. tree k (instance s c) (instance s o)) (same-some (erase_label m) l f) in
        subst (λ x. built_in_rules W (record { trait = t; args = x }) ≡ []) (sym at) (no-rows W t l (instance s c) (instance s o) bare auto uns (λ q. siz q (instance s c) (instance s o)))

-- ---- by what a crate sees
-- the head of a self type tells that no row concludes a reference over declarations
pub rowless : (es : List Entry) (d : Items) (cs : List CrateDecl) (r : TraitRef) (s : SimplifiedType) (ty : Trees) → head_of (trees_at es r.args.0) ≡ head_of ty → Some (label_of s) ≡ head_of ty → is_bare (label_of s) ≡ true
    → is_auto (written es d) r.def_id.index ≡ false → (r.def_id.index ≡ 8 → ⊥) → ((r.def_id.index == sized) ≡ true → (c o : Trees) → sized_rules (record (declared es d) { crates = cs }) (tree (label_of s) c o) ≡ [])
    → HasNoRow (record (declared es d) { crates = cs }) (term_of es r)
rowless es d cs r s ty e f bare auto uns siz =
    by-head (record (declared es d) { crates = cs }) r.def_id.index (trees_at es r.args.0) (label_of s) (e ∙ sym f) bare
    (traits-erased (λ x. x.is_auto) (λ x. refl) r.def_id.index (written es d).traits ∙ auto) (differs r.def_id.index 8 uns) siz
  where
    differs : (m n : ℕ) → (m ≡ n → ⊥) → (m == n) ≡ false
    differs m n h = by (m == n) refl
      where
        by : (b : Bool) → (m == n) ≡ b → b ≡ false
        by true q = absurd (h (same-number m n q))
        by false q = refl

pub unlike : (m : ℕ) {A : Type 0} → (m ≡ 0 → ⊥) → (m == sized) ≡ true → A
unlike m h q = absurd (h (same-number m 0 q))
