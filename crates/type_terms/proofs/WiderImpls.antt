-- When an impl is wider, and what that means for common instances.
use Rattle.std.proofs.Common.{◌≡◌, ℕ, zero, Bool, true, false, not, List, [], ◌∷◌, ◌++◌, refl, ap, sym, ◌∙◌, ◌&&◌, ◌==◌, if◌then◌else◌, subst, ◌⊎◌, inl, inr, map}
use Rattle.type_terms.specs.Promised.Trees.{Trees, instantiate, Fits, some_node}
use Rattle.type_terms.specs.Trees.{fits, arguments, outer_binder}
use Rattle.type_terms.specs.Promised.Worlds.{World, Reference, ImplDecl, with_args, all_with_args}
use Rattle.type_terms.specs.Promised.Rules.{Rule, by_impl, impl_rules, same_reference, is_auto, is_written, same_head}
use Rattle.type_terms.specs.Promised.Label.{Label}
use Rattle.type_terms.specs.Promised.Proofs.{In, Every}
use Rattle.type_terms.specs.Promised.Answers.{is_closed, is_open, CommonInstance, IsFixedClause, FixedLeft, FixedRight}
use Rattle.type_terms.specs.Wider.{AsksNoMore, IsWider, IsBelow, FewerClauses, PutIn, IsPlainImpl, widened}
use Rattle.type_terms.proofs.Members.{here, in-cases, in-nothing, in-map, in-append, in-left, some-member, member-some, same-number, not-both}
use Rattle.type_terms.proofs.Walking.{left}
use Rattle.type_terms.proofs.ProofEntries.{map-in}
use Rattle.type_terms.proofs.Fitting.{ByImpl, impl-rule, closed-arguments, not-true}
use Rattle.type_terms.proofs.Applies.{applies-in, closed-outer}
use Rattle.type_terms.proofs.TreeLaws.{instantiate-twice}
use Rattle.type_terms.proofs.NoHolds.{every-member, plain-shut, all-plain-shut}

of-premises : (A : Trees) (ks js : List Reference) → Every (λ k. In k ks) js → Every (λ p. In p (all_with_args A ks)) (all_with_args A js)
of-premises A ks [] e = tt
of-premises A ks (j ∷ js) e = (in-map (with_args A) ks j e.0, of-premises A ks js e.1)

-- FEWER CLAUSES
abbrev rules-with : ℕ → Reference → ℕ → List Reference → Reference → List Rule
rules-with p h n ks r =
    let A = arguments p h.args r.args in
    if fits A h.args && same_reference (with_args A h) r then record { way = by_impl n; premises = all_with_args A ks } ∷ [] else []

with-fewer : (p : ℕ) (h : Reference) (n m : ℕ) (ks js : List Reference) (r : Reference) (u : Rule) → Every (λ k. In k ks) js → In u (rules-with p h n ks r) → AsksNoMore (rules-with p h m js r) u
with-fewer p h n m ks js r u e g = by (fits A h.args && same_reference (with_args A h) r) g
  where
    A : Trees
    A = arguments p h.args r.args

    w : Rule
    w = record { way = by_impl n; premises = all_with_args A ks }

    x : Rule
    x = record { way = by_impl m; premises = all_with_args A js }

    by : (b : Bool) → In u (if b then w ∷ [] else []) → AsksNoMore (if b then x ∷ [] else []) u
    by true k = (x, here x [], one (in-cases u w [] k))
      where
        one : (w ≡ u) ⊎ In u [] → Every (λ q. In q u.premises) x.premises
        one (inl q) = subst (λ (z : Rule). Every (λ q. In q z.premises) x.premises) q (of-premises A ks js e)
        one (inr q) = absurd (in-nothing u q)
    by false k = absurd (in-nothing u k)

pub fewer-is-wider : (t : Trees → Bool) (i j : ImplDecl) → FewerClauses i j → IsWider t i j
fewer-is-wider t i j f = record {
  home = f.home;
  concludes = λ r a u h.
      subst (λ p. AsksNoMore (rules-with p j.header j.name j.clauses r) u) (sym f.params)
      (subst (λ x. AsksNoMore (rules-with i.params x j.name j.clauses r) u) (sym f.header) (with-fewer i.params i.header i.name j.name i.clauses j.clauses r u f.clauses h));
}

-- PUT IN: a wider header
twice : (A C : Trees) (k : Reference) → with_args A (with_args C k) ≡ with_args (instantiate zero A C) k
twice A C k = ap (λ z. (let x : Reference = record { trait = k.trait; args = z } in x)) (instantiate-twice zero C A k.args)

all-twice : (A C : Trees) (ks : List Reference) → all_with_args A (all_with_args C ks) ≡ all_with_args (instantiate zero A C) ks
all-twice A C [] = refl
all-twice A C (k ∷ ks) = two (twice A C k) (all-twice A C ks)
  where
    two : {a b : Reference} {c d : List Reference} → a ≡ b → c ≡ d → a ∷ c ≡ b ∷ d
    two p q = cc

pub put-in-is-wider : (C : Trees) (i j : ImplDecl) → PutIn C i j → IsWider is_closed i j
put-in-is-wider C i j f = record { home = f.home; concludes = concludes }
  where
    concludes : (r : Reference) → is_closed r.args ≡ true → (u : Rule) → In u (impl_rules r i) → AsksNoMore (impl_rules r j) u
    concludes r closed u h = (w, subst (λ z. In w (impl_rules z j)) is (applies-in j f.covered B outer (f.sorts A b.fitting) w refl), asked)
      where
        b : ByImpl r i u
        b = impl-rule r i u h

        A : Trees
        A = arguments i.params i.header.args r.args

        B : Trees
        B = instantiate zero A C

        w : Rule
        w = record { way = by_impl j.name; premises = all_with_args B j.clauses }

        outer : outer_binder B ≡ zero
        outer = closed-outer B (plain-shut zero A C (not-true (some_node is_open A) (closed-arguments i.params i.header.args r.args closed)) f.plain)

        is : with_args B j.header ≡ r
        is = sym (twice A C j.header) ∙ ap (with_args A) f.header ∙ b.is-instance

        asked : Every (λ p. In p u.premises) w.premises
        asked =
            subst (λ ps. Every (λ p. In p u.premises) ps) (all-twice A C j.clauses)
            (subst (λ (x : Rule). Every (λ p. In p x.premises) (all_with_args A (all_with_args C j.clauses))) b.is-rule (of-premises A i.clauses (all_with_args C j.clauses) f.clauses))

-- COMMON INSTANCES
-- an instance of i is one of j, with some of the where-clauses
record Instance (i j : ImplDecl) (A : Trees) : Type 0 where
  args : Trees
  closed : is_closed args ≡ true
  fitting : Fits args j.header.args
  same : with_args args j.header ≡ with_args A i.header
  clauses : Every (λ p. In p (all_with_args A i.clauses)) (all_with_args args j.clauses)

instance-above : (i j : ImplDecl) → IsWider is_closed i j → IsPlainImpl i → (A : Trees) → is_closed A ≡ true → Fits A i.header.args → Instance i j A
instance-above i j f p A closed fits = record {
  args = arguments j.params j.header.args r.args;
  closed = closed-arguments j.params j.header.args r.args r-closed;
  fitting = b.fitting;
  same = b.is-instance;
  clauses = subst (λ (x : Rule). Every (λ q. In q (all_with_args A i.clauses)) x.premises) (sym b.is-rule) w.2;
}
  where
    r : Reference
    r = with_args A i.header

    u : Rule
    u = record { way = by_impl i.name; premises = all_with_args A i.clauses }

    A-shut : some_node is_open A ≡ false
    A-shut = not-true (some_node is_open A) closed

    r-closed : is_closed r.args ≡ true
    r-closed = ap not (plain-shut zero A i.header.args A-shut p.header)

    w : AsksNoMore (impl_rules r j) u
    w = f.concludes r r-closed u (applies-in i p.covered A (closed-outer A A-shut) fits u refl)

    b : ByImpl r j w.0
    b = impl-rule r j w.0 w.1

-- a common instance of two impls is one of two wider ones
pub record CommonAbove (i j i' j' : ImplDecl) (m : CommonInstance i j) : Type 0 where
  pub above : CommonInstance i' j'
  pub left_clauses : Every (λ p. In p (all_with_args m.left i.clauses)) (all_with_args above.left i'.clauses)
  pub right_clauses : Every (λ p. In p (all_with_args m.right j.clauses)) (all_with_args above.right j'.clauses)

pub common-above : (i j i' j' : ImplDecl) → IsWider is_closed i i' → IsWider is_closed j j' → IsPlainImpl i → IsPlainImpl j → (m : CommonInstance i j) → CommonAbove i j i' j' m
common-above i j i' j' f g p q m =
    let x = instance-above i i' f p m.left m.left_closed m.left_fits in
    let y = instance-above j j' g q m.right m.right_closed m.right_fits in
    record {
      above = record {
        left = x.args;
        right = y.args;
        left_closed = x.closed;
        right_closed = y.closed;
        left_fits = x.fitting;
        right_fits = y.fitting;
        equal = x.same ∙ m.equal ∙ sym y.same;
      };
      left_clauses = x.clauses;
      right_clauses = y.clauses;
    }

-- a clause that is fixed for two wider impls is a clause of each common instance
pub fixed-above : (i j i' j' : ImplDecl) → IsWider is_closed i i' → IsWider is_closed j j' → IsPlainImpl i → IsPlainImpl j → (r : Reference) → IsFixedClause i' j' r → (m : CommonInstance i j)
    → In r (map (with_args m.left) i.clauses) ⊎ In r (map (with_args m.right) j.clauses)
fixed-above i j i' j' f g p q r fixed m = by fixed
  where
    x : CommonAbove i j i' j' m
    x = common-above i j i' j' f g p q m

    by : ((k : Reference) × FixedLeft i' j' k r) ⊎ ((k : Reference) × FixedRight i' j' k r) → In r (map (with_args m.left) i.clauses) ⊎ In r (map (with_args m.right) j.clauses)
    by (inl k) =
        inl (subst (λ z. In z (map (with_args m.left) i.clauses)) (k.1.1 x.above)
        (every-member (λ z. In z (all_with_args m.left i.clauses)) (all_with_args x.above.left i'.clauses) (with_args x.above.left k.0) x.left_clauses (in-map (with_args x.above.left) i'.clauses k.0 k.1.0)))
    by (inr k) =
        inr (subst (λ z. In z (map (with_args m.right) j.clauses)) (k.1.1 x.above)
        (every-member (λ z. In z (all_with_args m.right j.clauses)) (all_with_args x.above.right j'.clauses) (with_args x.above.right k.0) x.right_clauses (in-map (with_args x.above.right) j'.clauses k.0 k.1.0)))

-- the clauses of a closed instance are closed
clauses-closed : (i : ImplDecl) → IsPlainImpl i → (A : Trees) → is_closed A ≡ true → (r : Reference) → In r (all_with_args A i.clauses) → is_closed r.args ≡ true
clauses-closed i p A closed r h = ap not (all-plain-shut A i.clauses (not-true (some_node is_open A) closed) p.clauses r h)

every-of : (P Q : Reference → Type 0) (ps qs : List Reference) → ((r : Reference) → In r ps → P r → Q r) → Every (λ p. In p ps) qs → Every P ps → Every Q qs
every-of P Q ps [] f e h = tt
every-of P Q ps (q ∷ qs) f e h = (f q e.0 (every-member P ps q h e.0), every-of P Q ps qs f e.1 h)

-- a pair that is cleared above is cleared
pub cleared-below : (P Q : Reference → Type 0) → ((r : Reference) → is_closed r.args ≡ true → P r → Q r) → (i j i' j' : ImplDecl) → IsWider is_closed i i' → IsWider is_closed j j' → IsPlainImpl i → IsPlainImpl j
    → ((m : CommonInstance i' j') → Every Q (map (with_args m.left) i'.clauses) → Every Q (map (with_args m.right) j'.clauses) → ⊥)
    → (m : CommonInstance i j) → Every P (map (with_args m.left) i.clauses) → Every P (map (with_args m.right) j.clauses) → ⊥
cleared-below P Q up i j i' j' f g p q clear m a b =
    let x = common-above i j i' j' f g p q m in
    clear x.above
    (every-of P Q (all_with_args m.left i.clauses) (all_with_args x.above.left i'.clauses) (λ r k. up r (clauses-closed i p m.left m.left_closed r k)) x.left_clauses a)
    (every-of P Q (all_with_args m.right j.clauses) (all_with_args x.above.right j'.clauses) (λ r k. up r (clauses-closed j q m.right m.right_closed r k)) x.right_clauses b)

-- WIDENED: one wider impl for each, and further ones of traits that are not auto
pub widened-is-above : (t : Trees → Bool) (V : World) (f : ImplDecl → ImplDecl) (js : List ImplDecl)
    → ((i : ImplDecl) → In i V.impls → IsWider t i (f i) × (is_auto V (f i).header.trait ≡ true → (f i).header ≡ i.header))
    → ((j : ImplDecl) → In j js → is_auto V j.header.trait ≡ false) → IsBelow t V (widened f js V)
widened-is-above t V f js wider plain = record {
  structs = refl;
  traits = refl;
  matched = λ i h. (f i, in-left (f i) (map f V.impls) js (in-map f V.impls i h), (wider i h).0);
  autos_stay = stay;
}
  where
    stay : (n : ℕ) (l : Label) → is_auto V n ≡ true → is_written (widened f js V) n l ≡ true → is_written V n l ≡ true
    stay n l auto h = by (in-append k.0 (map f V.impls) js k.1)
      where
        k : (x : ImplDecl) × In x (map f V.impls ++ js) × ((x.header.trait == n) && same_head l x.header.args ≡ true)
        k = some-member (λ (x : ImplDecl). (x.header.trait == n) && same_head l x.header.args) (map f V.impls ++ js) h

        of-n : k.0.header.trait ≡ n
        of-n = same-number k.0.header.trait n (left (k.0.header.trait == n) _ k.2)

        by : In k.0 (map f V.impls) ⊎ In k.0 js → is_written V n l ≡ true
        by (inr g) = absurd (not-both (is_auto V n) auto (ap (is_auto V) (sym of-n) ∙ plain k.0 g))
        by (inl g) =
            let m = map-in f V.impls k.0 g in
            let same : (f m.0).header ≡ m.0.header = (wider m.0 m.1).1 (ap (λ (x : ImplDecl). is_auto V x.header.trait) m.2 ∙ ap (is_auto V) of-n ∙ auto) in
            member-some (λ (x : ImplDecl). (x.header.trait == n) && same_head l x.header.args) V.impls m.0 m.1
            (subst (λ (z : Reference). (z.trait == n) && same_head l z.args ≡ true) (ap (λ (x : ImplDecl). x.header) (sym m.2) ∙ same)
            k.2)
