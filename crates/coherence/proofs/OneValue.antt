-- An impl may stand behind another one: it has the same where-clauses, and one term more in its header. If a reference has a proof by it,
-- the reference without its last term has a proof by the other impl. If two such references are the same without their last terms, these are
-- the same too.
use Rattle.std.proofs.Common.{◌≡◌, ℕ, zero, List, [], ◌∷◌, ◌++◌, Bool, true, false, if◌then◌else◌, refl, sym, ap, ◌∙◌, subst}
use Rattle.std.specs.Prelude.{IsTrue}
use Rattle.std.specs.List.{flat_map}
use Rattle.sessions.specs.TypeTerms.Promised.Label.{Label, adt, param}
use Rattle.sessions.specs.TypeTerms.Promised.Trees.{Trees, none, tree, ◌+++◌, nth, instantiate, Fits, some_node}
use Rattle.sessions.specs.TypeTerms.Trees.{arguments, outer_binder}
use Rattle.sessions.specs.TypeTerms.Promised.Worlds.{World, Reference, ImplDecl, with_args, all_with_args}
use Rattle.sessions.specs.TypeTerms.Erased.{mentions, IsCovered}
use Rattle.sessions.specs.TypeTerms.Promised.Core.{wrapper}
use Rattle.sessions.specs.TypeTerms.Promised.Rules.{Rule, by_impl, rules, impl_rules, built_in_rules, is_coinductive}
use Rattle.sessions.specs.TypeTerms.Promised.Proofs.{ProofEntry, In, Every, Stands, IsProof, HasProof, HasProofByImpl}
use Rattle.sessions.specs.TypeTerms.Promised.Answers.{is_closed, is_open}
use Rattle.sessions.proofs.TypeTerms.Members.{here, in-left, in-right, flat-in}
use Rattle.sessions.proofs.TypeTerms.ProofEntries.{every-map, stands-more, entry-proved, of-an-impl}
use Rattle.sessions.proofs.TypeTerms.ProofLists.{joined, all-stand}
use Rattle.sessions.proofs.TypeTerms.Fitting.{ByImpl, impl-rule, closed-arguments, not-true}
use Rattle.sessions.proofs.TypeTerms.TreeLaws.{instantiate-append}
use Rattle.sessions.proofs.TypeTerms.Matching.{same-where-asked}
use Rattle.sessions.proofs.TypeTerms.Applies.{closed-outer, applies-in, read-off}

-- ---- the last of a list of terms
no-end : (l : Label) (o A : Trees) → o +++ tree l A none ≡ none → ⊥
no-end l none A e = cc
no-end l (tree k c o) A e = cc

next-of : {l m : Label} {c d o p : Trees} → tree l c o ≡ tree m d p → o ≡ p
next-of e = cc

child-of : {l m : Label} {c d o p : Trees} → tree l c o ≡ tree m d p → c ≡ d
child-of e = cc

label-of : {l m : Label} {c d o p : Trees} → tree l c o ≡ tree m d p → l ≡ m
label-of e = cc

same-node : {l m : Label} {c d o p : Trees} → l ≡ m → c ≡ d → o ≡ p → tree l c o ≡ tree m d p
same-node e f g = cc

pub last-alike : (l m : Label) (X Y A B : Trees) → X +++ tree l A none ≡ Y +++ tree m B none → (X ≡ Y) × (A ≡ B)
last-alike l m none none A B e = (refl, child-of e)
last-alike l m none (tree k c o) A B e = absurd (no-end m o B (sym (next-of e)))
last-alike l m (tree k c o) none A B e = absurd (no-end l o A (next-of e))
last-alike l m (tree k c o) (tree j d p) A B e =
    let q = last-alike l m o p A B (next-of e) in
    (same-node (label-of e) (child-of e) q.0, q.1)

fits-front : (A x y : Trees) → Fits A (x +++ y) → Fits A x
fits-front A none y f = tt
fits-front A (tree (param s i) c o) y f = (f.0, f.1, fits-front A o y f.2)
fits-front A (tree l c o) y f = (f.0, fits-front A o y f.1)

-- ---- a proof by an impl
-- the impl, with the arguments of its instance
record Used (W : World) (r : Reference) : Type 0 where
  which : ImplDecl
  stands : In which W.impls
  args : Trees
  outer : outer_binder args ≡ 0
  fitting : Fits args which.header.args
  is_instance : with_args args which.header ≡ r
  clauses : Every (HasProof W []) (all_with_args args which.clauses)

used : (W : World) (r : Reference) (n : ℕ) → is_closed r.args ≡ true → HasProofByImpl W [] r n → Used W r
used W r n z h = record {
  which = m.0;
  stands = m.1;
  args = arguments m.0.params m.0.header.args r.args;
  outer = closed-outer (arguments m.0.params m.0.header.args r.args) (not-true (some_node is_open (arguments m.0.params m.0.header.args r.args)) (closed-arguments m.0.params m.0.header.args r.args z));
  fitting = b.fitting;
  is_instance = b.is-instance;
  clauses = subst (λ (v : Rule). Every (HasProof W []) v.premises) (sym b.is-rule) p.1;
}
  where
    p : In h.1.rule (rules W [] h.1.of) × Every (HasProof W []) h.1.rule.premises
    p = entry-proved W [] h.0 h.2 h.1 h.3

    m : (i : ImplDecl) × In i W.impls × In h.1.rule (impl_rules r i)
    m = of-an-impl W r h.1.rule n (subst (λ (q : Reference). In h.1.rule (rules W [] q)) h.4 p.0) h.5

    b : ByImpl r m.0 h.1.rule
    b = impl-rule r m.0 h.1.rule m.2

-- a rule of an impl whose premises have proofs
by-its-rule : (W : World) (r : Reference) (u : Rule) (n : ℕ) → In u (rules W [] r) → Every (HasProof W []) u.premises → u.way ≡ by_impl n → HasProofByImpl W [] r n
by-its-rule W r u n h g w = (
  a.0 ++ e ∷ [],
  e,
  joined W [] a.0 (e ∷ []) a.1 (h, every-map (λ p. Stands p a.0) (λ p. Stands p (if is_coinductive W r.trait then a.0 ++ e ∷ [] else a.0)) u.premises (at (is_coinductive W r.trait)) a.2, tt),
  in-right e a.0 (e ∷ []) (here e []),
  refl,
  w,
)
  where
    e : ProofEntry
    e = record { of = r; rule = u }

    a : (ps : List ProofEntry) × IsProof W [] ps × Every (λ s. Stands s ps) u.premises
    a = all-stand W [] u.premises g

    at : (b : Bool) (p : Reference) → Stands p a.0 → Stands p (if b then a.0 ++ e ∷ [] else a.0)
    at true p k = stands-more p a.0 (e ∷ []) k
    at false p k = k

-- ---- an impl behind another one
pub record IsBehind (j i : ImplDecl) (v : Trees) : Type 0 where
  pub clauses : i.clauses ≡ j.clauses
  pub args : i.header.args ≡ j.header.args +++ tree (adt wrapper) v none
  pub mentioned : (n : ℕ) → mentions n v ≡ true → mentions n j.header.args ≡ true

-- The instance of the other impl, and what stands for the term.
pub record Reaches (W : World) (j : ImplDecl) (v X V : Trees) : Type 0 where
  pub args : Trees
  pub outer : outer_binder args ≡ 0
  pub is_instance : instantiate zero args j.header.args ≡ X
  pub value : instantiate zero args v ≡ V
  pub proved : HasProofByImpl W [] (record { trait = j.header.trait; args = X }) j.name

reaches : (W : World) (j : ImplDecl) (v X V : Trees) (t : ℕ) (u : Used W (record { trait = t; args = X +++ tree (adt wrapper) V none }))
    → IsBehind j u.which v → In j W.impls → IsCovered j → Reaches W j v X V
reaches W j v X V t u h stands covered = record {
  args = A;
  outer = u.outer;
  is_instance = parts.0;
  value = parts.1;
  proved = subst (λ x. HasProofByImpl W [] (record { trait = j.header.trait; args = x }) j.name) parts.0
      (by-its-rule W (with_args A j.header) rule j.name
      (in-left rule (flat_map (impl_rules (with_args A j.header)) W.impls) (built_in_rules W (with_args A j.header) ++ [])
      (flat-in (impl_rules (with_args A j.header)) W.impls j rule stands (applies-in j covered A u.outer (fits-front A j.header.args (tree (adt wrapper) v none) (subst (Fits A) h.args u.fitting)) rule refl)))
      (subst (λ ks. Every (HasProof W []) (all_with_args A ks)) h.clauses u.clauses) refl);
}
  where
    A : Trees
    A = u.args

    rule : Rule
    rule = record { way = by_impl j.name; premises = all_with_args A j.clauses }

    parts : (instantiate zero A j.header.args ≡ X) × (instantiate zero A v ≡ V)
    parts = last-alike (adt wrapper) (adt wrapper) (instantiate zero A j.header.args) X (instantiate zero A v) V
        (sym (instantiate-append zero A j.header.args (tree (adt wrapper) v none)) ∙ ap (instantiate zero A) (sym h.args) ∙ ap (λ (r : Reference). r.args) u.is_instance)

-- two instances of an impl that are alike give alike terms
pub alike : (W : World) (j : ImplDecl) (v X A B : Trees) → IsCovered j → ((n : ℕ) → mentions n v ≡ true → mentions n j.header.args ≡ true) → Reaches W j v X A → Reaches W j v X B → A ≡ B
alike W j v X A B covered mentioned x y = sym x.value ∙ same-where-asked x.args y.args zero v (λ n m. at n (mentioned n m)) ∙ y.value
  where
    at : (n : ℕ) → mentions n j.header.args ≡ true → nth x.args n ≡ nth y.args n
    at n m =
        sym (read-off x.args j.params j.header.args x.outer covered.below n m)
        ∙ ap (λ t. nth (arguments j.params j.header.args t) n) (x.is_instance ∙ sym y.is_instance)
        ∙ read-off y.args j.params j.header.args y.outer covered.below n m

-- ---- impls each of which may stand behind another one
-- What stands behind what.
pub record Behind (W : World) (i : ImplDecl) : Type 0 where
  pub base : ImplDecl
  pub value : Trees
  pub stands : In base W.impls
  pub covered : IsCovered base
  pub behind : IsBehind base i value

-- Impls of a trait t each of which stands behind another one: the other ones have one trait, and no two impls stand behind the same one.
pub one-value : (W : World) (t : ℕ) (f : (i : ImplDecl) → In i W.impls → i.header.trait ≡ t → Behind W i)
    → ((i k : ImplDecl) (m : In i W.impls) (n : In k W.impls) (e : i.header.trait ≡ t) (g : k.header.trait ≡ t) → (f i m e).base.header.trait ≡ (f k n g).base.header.trait)
    → ((i k : ImplDecl) (m : In i W.impls) (n : In k W.impls) (e : i.header.trait ≡ t) (g : k.header.trait ≡ t) → (f i m e).base.name ≡ (f k n g).base.name
    → ((f i m e).base ≡ (f k n g).base) × ((f i m e).value ≡ (f k n g).value))
    → ((r : Reference) → IsTrue (is_closed r.args) → (n k : ℕ) → HasProofByImpl W [] r n → HasProofByImpl W [] r k → n ≡ k)
    → (X A B : Trees) → is_closed X ≡ true → is_closed (X +++ tree (adt wrapper) A none) ≡ true → is_closed (X +++ tree (adt wrapper) B none) ≡ true
    → (n k : ℕ) → HasProofByImpl W [] (record { trait = t; args = X +++ tree (adt wrapper) A none }) n → HasProofByImpl W [] (record { trait = t; args = X +++ tree (adt wrapper) B none }) k → A ≡ B
one-value W t f same_trait same_behind one X A B closed closed_a closed_b n k p q =
    alike W b.base b.value X A B b.covered b.behind.mentioned x
    (subst (λ w. Reaches W b.base w X B) (sym same.1) (subst (λ w. Reaches W w c.value X B) (sym same.0) y))
  where
    u : Used W (record { trait = t; args = X +++ tree (adt wrapper) A none })
    u = used W _ n closed_a p

    v : Used W (record { trait = t; args = X +++ tree (adt wrapper) B none })
    v = used W _ k closed_b q

    of-u : u.which.header.trait ≡ t
    of-u = ap (λ (r : Reference). r.trait) u.is_instance

    of-v : v.which.header.trait ≡ t
    of-v = ap (λ (r : Reference). r.trait) v.is_instance

    b : Behind W u.which
    b = f u.which u.stands of-u

    c : Behind W v.which
    c = f v.which v.stands of-v

    x : Reaches W b.base b.value X A
    x = reaches W b.base b.value X A t u b.behind b.stands b.covered

    y : Reaches W c.base c.value X B
    y = reaches W c.base c.value X B t v c.behind c.stands c.covered

    names : b.base.name ≡ c.base.name
    names =
        one (record { trait = b.base.header.trait; args = X }) closed b.base.name c.base.name x.proved
        (subst (λ s. HasProofByImpl W [] (record { trait = s; args = X }) c.base.name) (sym (same_trait u.which v.which u.stands v.stands of-u of-v)) y.proved)

    same : (b.base ≡ c.base) × (b.value ≡ c.value)
    same = same_behind u.which v.which u.stands v.stands of-u of-v names
