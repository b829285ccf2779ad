-- The handler of a list of rules is lawful.
use Rattle.std.proofs.Common.{◌≡◌, ℕ, suc, ◌+◌, Bool, true, false, ◌==◌, if◌then◌else◌, List, [], ◌∷◌, ◌⊎◌, map, length, inl, inr, refl, sym, ◌∙◌, ap, subst, Option, Some, None, arith}
use Rattle.std.proofs.lemmas.Bool.{eqb-true, eq-eqb}
use Rattle.infer_table.specs.declared.certainty.Certainty.{Certainty}
use Rattle.infer_table.specs.declared.certainty.Certainty.TheVariants.{Yes, Maybe}
use Rattle.infer_table.specs.declared.certainty.MaybeCause.TheVariants.{Ambiguity, Overflow}
use Rattle.goal_evaluator.specs.Lists.{Every, SomeOf, IsAmong, IsNoneOf, IsDistinct}
use Rattle.goal_evaluator.specs.Table.{workings}
use Rattle.goal_evaluator.specs.Candidate.{Spec, Considered, Next, consider, answer, used_numbers, IsHistory}
use Rattle.goal_evaluator.specs.Law.{IsYes, AgreesTo, Realizes}
use Rattle.goal_evaluator.specs.Handler.{nested_of, AnswerWithin, IsHandler}
use Rattle.goal_evaluator.specs.Merge.{if_there, responses, is_always_applicable, merge_or_flounder, same_certainty, IsMergeOfResponses}
use Rattle.test_handlers.specs.Atoms.{Argument, atom, unknown, value_at, Goal, Response, atoms, AtomRule, AtomRuleBook, AtomIsBy, put_in, goal_put_in, spec_of, specs_for, candidates_for, nested_in, without_first, remaining, same_value, same_response, if_refused, refused_numbers, next_of, AtomFollowsByRule, AtomHasProofByBook, handled_by}
use Rattle.goal_evaluator.proofs.ListLaws.{Every-mono, SomeOf-mono, SomeOf-found, SomeOf-at, Every-at, among-all, both-right}
use Rattle.test_handlers.proofs.AtomTables.{atoms_are_lawful}
use Rattle.goal_evaluator.proofs.LastRules.{last_rule}
use Rattle.goal_evaluator.proofs.Merges.{always_is_test, merge_is}
use Rattle.type_terms.proofs.BooleanBasics.{both-left}
use Rattle.goal_evaluator.proofs.Basics.{some-append as some_append, some-parts as some_parts, every-unit as all_within}

value-put_in : (argument a : Argument) (x : ℕ) → value_at (put_in argument a) x ≡ value_at a (value_at argument x)
value-put_in argument (atom b) x = refl
value-put_in argument unknown x = refl

abbrev instance_at : ℕ → Goal → ℕ × ℕ
instance_at x n = (n.predicate, value_at n.argument x)

-- the rule's premises at the goal's argument are the candidate's nested goals
premises-put_in : (k : Bool) (argument : Argument) (x : ℕ) (ns : List Goal) → map (instance_at (value_at argument x)) ns ≡ map (instance_at x) (map (goal_put_in k argument) ns)
premises-put_in k argument x [] = refl
premises-put_in k argument x (n ∷ ns) =
    ap (λ v. (n.predicate, v) ∷ map (instance_at (value_at argument x)) ns) (sym (value-put_in argument n.argument x))
    ∙ ap (λ fs. (n.predicate, value_at (put_in argument n.argument) x) ∷ fs) (premises-put_in k argument x ns)

-- ---- the candidates are the rules
from_rule_if : (k : Bool) (g : Goal) (c : Spec (workings atoms)) (r : AtomRule) (rules : List AtomRule) (b : Bool) → (r.predicate == g.predicate) ≡ b
    → (IsAmong c (specs_for k g rules) → SomeOf (λ (q : AtomRule). (q.predicate ≡ g.predicate) × (c ≡ spec_of k g.argument q)) rules)
    → IsAmong c (if b then spec_of k g.argument r ∷ specs_for k g rules else specs_for k g rules)
    → SomeOf (λ (q : AtomRule). (q.predicate ≡ g.predicate) × (c ≡ spec_of k g.argument q)) (r ∷ rules)
from_rule_if k g c r rules true e rest (inl f) = inl (eqb-true r.predicate g.predicate e, f)
from_rule_if k g c r rules true e rest (inr i) = inr (rest i)
from_rule_if k g c r rules false e rest i = inr (rest i)

from_rule : (k : Bool) (g : Goal) (c : Spec (workings atoms)) (rules : List AtomRule) → IsAmong c (specs_for k g rules) → SomeOf (λ (q : AtomRule). (q.predicate ≡ g.predicate) × (c ≡ spec_of k g.argument q)) rules
from_rule k g c [] i = absurd i
from_rule k g c (r ∷ rules) i = from_rule_if k g c r rules (r.predicate == g.predicate) refl (λ j. from_rule k g c rules j) i

spec_if : (k : Bool) (g : Goal) (P : Spec (workings atoms) → Type 0) (r : AtomRule) (rules : List AtomRule) (b : Bool) → SomeOf P (specs_for k g rules)
    → SomeOf P (if b then spec_of k g.argument r ∷ specs_for k g rules else specs_for k g rules)
spec_if k g P r rules true s = inr s
spec_if k g P r rules false s = s

from_spec : (k : Bool) (g : Goal) (P : Spec (workings atoms) → Type 0) (rules : List AtomRule) → SomeOf (λ (q : AtomRule). (q.predicate ≡ g.predicate) × P (spec_of k g.argument q)) rules → SomeOf P (specs_for k g rules)
from_spec k g P [] s = absurd s
from_spec k g P (r ∷ rules) (inl x) =
    subst (λ b. SomeOf P (if b then spec_of k g.argument r ∷ specs_for k g rules else specs_for k g rules)) (sym (eq-eqb r.predicate g.predicate x.0)) (inl x.1)
from_spec k g P (r ∷ rules) (inr s) = spec_if k g P r rules (r.predicate == g.predicate) (from_spec k g P rules s)

-- ---- equality of responses
same_value_is : (a b : Option ℕ) → same_value a b ≡ true → a ≡ b
same_value_is None None e = refl
same_value_is (Some a) (Some b) e = ap Some (eqb-true a b e)
same_value_is None (Some b) e = absurd (cc)
same_value_is (Some a) None e = absurd (cc)

same_certainty_is : (c d : Certainty) → same_certainty c d ≡ true → c ≡ d
same_certainty_is Yes Yes e = refl
same_certainty_is (Maybe Ambiguity) (Maybe Ambiguity) e = refl
same_certainty_is (Maybe Overflow) (Maybe Overflow) e = refl
same_certainty_is Yes (Maybe d) e = absurd (cc)
same_certainty_is (Maybe Ambiguity) Yes e = absurd (cc)
same_certainty_is (Maybe Overflow) Yes e = absurd (cc)
same_certainty_is (Maybe Ambiguity) (Maybe Overflow) e = absurd (cc)
same_certainty_is (Maybe Overflow) (Maybe Ambiguity) e = absurd (cc)

same_response_is : (r s : Response) → same_response r s ≡ true → r ≡ s
same_response_is r s e =
    let c = same_certainty_is r.certainty s.certainty (both-left (same_certainty r.certainty s.certainty) (same_value r.value s.value) e) in
    let v = same_value_is r.value s.value (both-right (same_certainty r.certainty s.certainty) (same_value r.value s.value) e) in
    ap (λ (d : Certainty). record { certainty = d; value = r.value }) c ∙ ap (λ (w : Option ℕ). record { certainty = s.certainty; value = w }) v

-- ---- responses of what was considered

agrees_there : (a : Option Response) (x : ℕ) → AgreesTo atoms a x → SomeOf (λ r. atoms.Agrees r x) (if_there a)
agrees_there None x h = absurd h
agrees_there (Some r) x h = inl h

agrees_responses : (seen : List (Considered (workings atoms))) (x : ℕ) → SomeOf (λ (c : Considered (workings atoms)). AgreesTo atoms c.response x) seen → SomeOf (λ r. atoms.Agrees r x) (responses atoms seen)
agrees_responses [] x s = s
agrees_responses (c ∷ seen) x (inl a) = some_append (λ r. atoms.Agrees r x) (responses atoms seen) (if_there c.response) (inr (agrees_there c.response x a))
agrees_responses (c ∷ seen) x (inr s) = some_append (λ r. atoms.Agrees r x) (responses atoms seen) (if_there c.response) (inl (agrees_responses seen x s))

there_is : (a b : Option Response) → SomeOf (λ r. a ≡ Some r) (if_there b) → a ≡ b
there_is a None s = absurd s
there_is a (Some r) (inl e) = e
there_is a (Some r) (inr s) = absurd s

from_responses : (seen : List (Considered (workings atoms))) (a : Option Response) → SomeOf (λ r. a ≡ Some r) (responses atoms seen) → SomeOf (λ (c : Considered (workings atoms)). a ≡ c.response) seen
from_responses [] a s = s
from_responses (c ∷ seen) a s = elim (some_parts (λ r. a ≡ Some r) (responses atoms seen) (if_there c.response) s) [
  | inl x ↦ inr (from_responses seen a x)
  | inr y ↦ inl (there_is a c.response y)
]

-- ---- what is ignored
module _ (next : List (Considered (workings atoms)) → Next (workings atoms)) where
  refused_if : (c : Considered (workings atoms)) (seen : List (Considered (workings atoms))) (o : Option Response) (ns : List ℕ) → Every (λ n. IsAmong n (used_numbers (workings atoms) seen)) ns
      → Every (λ n. IsAmong n (used_numbers (workings atoms) (c ∷ seen))) (if_refused o c.number ns)
  refused_if c seen None ns e = (inl refl, Every-mono (λ n. IsAmong n (used_numbers (workings atoms) seen)) (λ n. IsAmong n (used_numbers (workings atoms) (c ∷ seen))) (λ n i. inr i) ns e)
  refused_if c seen (Some r) ns e = Every-mono (λ n. IsAmong n (used_numbers (workings atoms) seen)) (λ n. IsAmong n (used_numbers (workings atoms) (c ∷ seen))) (λ n i. inr i) ns e

  refused_among : (seen : List (Considered (workings atoms))) → Every (λ n. IsAmong n (used_numbers (workings atoms) seen)) (refused_numbers seen)
  refused_among [] = tt
  refused_among (c ∷ seen) = refused_if c seen c.response (refused_numbers seen) (refused_among seen)

  -- a new number is not one of these
  new_to : (n : ℕ) (used ns : List ℕ) → IsNoneOf n used → Every (λ m. IsAmong m used) ns → IsNoneOf n ns
  new_to n used ns new e = λ i. Every-at (λ m. IsAmong m used) (λ m. n ≡ m) ⊥ (λ m a f. new (subst (λ k. IsAmong k used) (sym f) a)) ns e i

  distinct_if : (n : ℕ) (o : Option Response) (ns : List ℕ) → IsNoneOf n ns → IsDistinct ns → IsDistinct (if_refused o n ns)
  distinct_if n None ns new d = (new, d)
  distinct_if n (Some r) ns new d = d

  refused_once : (seen : List (Considered (workings atoms))) → IsHistory (workings atoms) next seen → IsDistinct (refused_numbers seen)
  refused_once [] h = tt
  refused_once (c ∷ seen) h =
      distinct_if c.number c.response (refused_numbers seen) (new_to c.number (used_numbers (workings atoms) seen) (refused_numbers seen) h.1 (refused_among seen)) (refused_once seen h.2)

  -- a candidate with a response is not one of them
  kept_first : (n : ℕ) (o : Option Response) (ns : List ℕ) → IsYes atoms o → IsNoneOf n ns → IsNoneOf n (if_refused o n ns)
  kept_first n None ns y new = absurd y
  kept_first n (Some r) ns y new = new

  kept_later : (n m : ℕ) (o : Option Response) (ns : List ℕ) → (n ≡ m → ⊥) → IsNoneOf n ns → IsNoneOf n (if_refused o m ns)
  kept_later n m None ns other new = λ i. elim i [ inl e ↦ other e | inr j ↦ new j ]
  kept_later n m (Some r) ns other new = new

  number_among : (c : Considered (workings atoms)) (seen : List (Considered (workings atoms))) → IsAmong c seen → IsAmong c.number (used_numbers (workings atoms) seen)
  number_among c [] i = absurd i
  number_among c (d ∷ seen) (inl e) = inl (ap (λ (x : Considered (workings atoms)). x.number) e)
  number_among c (d ∷ seen) (inr i) = inr (number_among c seen i)

  not_refused : (seen : List (Considered (workings atoms))) → IsHistory (workings atoms) next seen → (c : Considered (workings atoms)) → IsAmong c seen → IsYes atoms c.response → IsNoneOf c.number (refused_numbers seen)
  not_refused [] h c i y = absurd i
  not_refused (d ∷ seen) h c (inl e) y =
      subst (λ (x : Considered (workings atoms)). IsNoneOf x.number (if_refused d.response d.number (refused_numbers seen))) (sym e)
      (kept_first d.number d.response (refused_numbers seen) (subst (λ (x : Considered (workings atoms)). IsYes atoms x.response) e y)
      (new_to d.number (used_numbers (workings atoms) seen) (refused_numbers seen) h.1 (refused_among seen)))
  not_refused (d ∷ seen) h c (inr i) y =
      kept_later c.number d.number d.response (refused_numbers seen) (λ e. h.1 (subst (λ k. IsAmong k (used_numbers (workings atoms) seen)) e (number_among c seen i)))
      (not_refused seen h.2 c i y)

-- ---- what was considered
abbrev spec_in : Spec (workings atoms) → Next (workings atoms) → Spec (workings atoms)
spec_in d (consider c) = c
spec_in d (answer a ignored) = d

abbrev answer_in : Option Response → Next (workings atoms) → Option Response
answer_in d (consider c) = d
answer_in d (answer a ignored) = a

abbrev ignored_in : List ℕ → Next (workings atoms) → List ℕ
ignored_in d (consider c) = d
ignored_in d (answer a ignored) = ignored

module _ (book : AtomRuleBook) (g : Goal) where
  abbrev kind : Bool
  kind = book.coinductive g.predicate

  abbrev specs : List (Spec (workings atoms))
  specs = candidates_for book g

  abbrev next : List (Considered (workings atoms)) → Next (workings atoms)
  next seen = next_of seen (remaining seen specs)

  abbrev IsFirst : List (Spec (workings atoms)) → Spec (workings atoms) → Type 0
  IsFirst [] c = ⊥
  IsFirst (s ∷ left) c = s ≡ c

  first : (seen : List (Considered (workings atoms))) (left : List (Spec (workings atoms))) (c : Spec (workings atoms)) → next_of seen left ≡ consider c → IsFirst left c
  first seen [] c e = absurd (cc)
  first seen (s ∷ left) c e = ap (spec_in s) e

  abbrev IsEmpty : List (Spec (workings atoms)) → Type 0
  IsEmpty [] = Unit {0}
  IsEmpty (s ∷ left) = ⊥

  none_left : (seen : List (Considered (workings atoms))) (left : List (Spec (workings atoms))) (a : Option Response) (ignored : List ℕ) → next_of seen left ≡ answer a ignored
      → IsEmpty left × (merge_or_flounder atoms (is_always_applicable atoms) same_response None (responses atoms seen) ≡ a) × (refused_numbers seen ≡ ignored)
  none_left seen [] a ignored e = (tt, ap (answer_in a) e, ap (ignored_in ignored) e)
  none_left seen (s ∷ left) a ignored e = absurd (cc)

  left_on : (d : Considered (workings atoms)) (c : Spec (workings atoms)) (left : List (Spec (workings atoms))) → IsFirst left d.spec → IsAmong c left → (c ≡ d.spec) ⊎ IsAmong c (without_first left)
  left_on d c [] f i = absurd i
  left_on d c (s ∷ left) f (inl e) = inl (e ∙ f)
  left_on d c (s ∷ left) f (inr i) = inr i

  -- each candidate was considered or is left
  considered : (seen : List (Considered (workings atoms))) → IsHistory (workings atoms) next seen → (c : Spec (workings atoms)) → IsAmong c specs → SomeOf (λ (d : Considered (workings atoms)). c ≡ d.spec) seen ⊎ IsAmong c (remaining seen specs)
  considered [] h c i = inr i
  considered (d ∷ seen) h c i = elim (considered seen h.2 c i) [
    | inl s ↦ inl (inr s)
    | inr j ↦ elim (left_on d c (remaining seen specs) (first seen (remaining seen specs) d.spec h.0) j) [ inl e ↦ inl (inl e) | inr k ↦ inr k ]
  ]

  in_rest : (c : Spec (workings atoms)) (left : List (Spec (workings atoms))) → IsAmong c (without_first left) → IsAmong c left
  in_rest c [] i = i
  in_rest c (s ∷ left) i = inr i

  in_remaining : (seen : List (Considered (workings atoms))) (c : Spec (workings atoms)) → IsAmong c (remaining seen specs) → IsAmong c specs
  in_remaining [] c i = i
  in_remaining (d ∷ seen) c i = in_remaining seen c (in_rest c (remaining seen specs) i)

  among_first : (c : Spec (workings atoms)) (left : List (Spec (workings atoms))) → IsFirst left c → IsAmong c left
  among_first c [] f = absurd f
  among_first c (s ∷ left) f = inl (sym f)

  -- how many there are, and how many nested goals they have
  less_one : (c : Spec (workings atoms)) (left : List (Spec (workings atoms))) → IsFirst left c → (length left ≡ suc (length (without_first left))) × (nested_in left ≡ length c.nested + nested_in (without_first left))
  less_one c [] f = absurd f
  less_one c (s ∷ left) f = (refl, ap (λ (d : Spec (workings atoms)). length d.nested + nested_in left) f)

  counted : (seen : List (Considered (workings atoms))) → IsHistory (workings atoms) next seen
      → (length seen + length (remaining seen specs) ≡ length specs) × (nested_of atoms seen + nested_in (remaining seen specs) ≡ nested_in specs)
  counted [] h = (omega arith, omega arith)
  counted (d ∷ seen) h =
      let x = counted seen h.2 in
      let y = less_one d.spec (remaining seen specs) (first seen (remaining seen specs) d.spec h.0) in
      let a = x.0 in let b = x.1 in let p = y.0 in let q = y.1 in
      (omega (arith, a, p), omega (arith, b, q))

  -- ---- the laws
  rule_at : (x : ℕ) (r : AtomRule) → r.predicate ≡ g.predicate → value_at g.argument x ≡ value_at (put_in g.argument r.shape) x
      → AtomIsBy (g.predicate, value_at g.argument x) (map (instance_at x) (map (goal_put_in kind g.argument) r.premises)) r
  rule_at x r e m = record { concludes = e; fits = sym (m ∙ value-put_in g.argument r.shape x); needs = premises-put_in kind g.argument x r.premises }

  rule_of : (x : ℕ) (c : Spec (workings atoms)) → IsAmong c specs → Every (λ (e : Argument × Argument). value_at e.0 x ≡ value_at e.1 x) c.equations
      → AtomFollowsByRule book (g.predicate, value_at g.argument x) (map (instance_at x) c.nested)
  rule_of x c i m =
      SomeOf-mono (λ (r : AtomRule). (r.predicate ≡ g.predicate) × (c ≡ spec_of kind g.argument r)) (AtomIsBy (g.predicate, value_at g.argument x) (map (instance_at x) c.nested))
      (λ r e.
      let meets = subst (λ (d : Spec (workings atoms)). Every (λ (e : Argument × Argument). value_at e.0 x ≡ value_at e.1 x) d.equations) e.1 m in
      subst (λ (d : Spec (workings atoms)). AtomIsBy (g.predicate, value_at g.argument x) (map (instance_at x) d.nested) r) (sym e.1) (rule_at x r e.0 meets.0))
      book.rules (from_rule kind g c book.rules i)

  all_same : (x y : ℕ) → x ≡ y → (ns : List Goal) → Every (λ n. instance_at x n ≡ instance_at y n) ns
  all_same x y e [] = tt
  all_same x y e (n ∷ ns) = (ap (λ z. instance_at z n) e, all_same x y e ns)

  small : (a : Option Response) → AnswerWithin atoms (nested_in specs) a
  small None = tt
  small (Some r) = omega arith

  none : (left : List (Spec (workings atoms))) → IsEmpty left → (c : Spec (workings atoms)) → IsAmong c left → ⊥
  none [] e c i = i
  none (s ∷ left) e c i = e

  proved_all : (x : ℕ) (ns : List Goal) → Every (AtomHasProofByBook book) (map (instance_at x) ns) → Every (λ n. Unit {0} × AtomHasProofByBook book (instance_at x n)) ns
  proved_all x [] h = tt
  proved_all x (n ∷ ns) h = ((tt, h.0), proved_all x ns h.1)

  steps_in : (argument : Argument) (ns : List Goal) → Every (λ (n : Goal). n.coinductive ≡ kind) (map (goal_put_in kind argument) ns)
  steps_in argument [] = tt
  steps_in argument (n ∷ ns) = (refl, steps_in argument ns)

  -- the steps of a candidate are of the goal's kind
  steps_of : (c : Spec (workings atoms)) → IsAmong c specs → Every (λ (n : Goal). n.coinductive ≡ kind) c.nested
  steps_of c i =
      let x = SomeOf-found (λ (r : AtomRule). (r.predicate ≡ g.predicate) × (c ≡ spec_of kind g.argument r)) book.rules (from_rule kind g c book.rules i) in
      subst (λ (d : Spec (workings atoms)). Every (λ (n : Goal). n.coinductive ≡ kind) d.nested) (sym x.2.1) (steps_in g.argument x.0.premises)

  solves_all : (x : ℕ) (ns : List Goal) (ps : List (ℕ × ℕ)) → map (instance_at x) ns ≡ ps → Every (AtomHasProofByBook book) ps → Every (λ n. Unit {0} × AtomHasProofByBook book (instance_at x n)) ns
  solves_all x ns ps e h = proved_all x ns (subst (Every (AtomHasProofByBook book)) (sym e) h)

  -- a solution is one by the candidate of its last rule
  realizes : (x : ℕ) (ps : List (ℕ × ℕ)) (r : AtomRule) → AtomIsBy (g.predicate, value_at g.argument x) ps r → Every (AtomHasProofByBook book) ps
      → Realizes atoms (AtomHasProofByBook book) None x (spec_of kind g.argument r)
  realizes x ps r by h = record {
    assignment = x;
    allowed = tt;
    own = refl;
    meets = (sym by.fits ∙ sym (value-put_in g.argument r.shape x), tt);
    solves = solves_all x (map (goal_put_in kind g.argument) r.premises) ps (sym (premises-put_in kind g.argument x r.premises) ∙ by.needs) h;
  }

  realized : (x : ℕ) → AtomHasProofByBook book (g.predicate, value_at g.argument x) → SomeOf (Realizes atoms (AtomHasProofByBook book) None x) specs
  realized x h =
      let last = last_rule (ℕ × ℕ) (AtomFollowsByRule book) (λ f. book.coinductive f.0) (g.predicate, value_at g.argument x) h in
      from_spec kind g (Realizes atoms (AtomHasProofByBook book) None x) book.rules
      (SomeOf-mono (AtomIsBy (g.predicate, value_at g.argument x) last.0) (λ (r : AtomRule). (r.predicate ≡ g.predicate) × Realizes atoms (AtomHasProofByBook book) None x (spec_of kind g.argument r))
      (λ r by. (by.concludes, realizes x last.0 r by last.2)) book.rules last.1)

  -- what holds of some candidate holds of some that was considered, if none is left
  considered_all : (seen : List (Considered (workings atoms))) → IsHistory (workings atoms) next seen → IsEmpty (remaining seen specs) → (P : Spec (workings atoms) → Type 0) → SomeOf P specs
      → SomeOf (λ (d : Considered (workings atoms)). P d.spec) seen
  considered_all seen h e P s =
      let x = SomeOf-found P specs s in
      elim (considered seen h x.0 x.1) [
        | inl y ↦ SomeOf-mono (λ (d : Considered (workings atoms)). x.0 ≡ d.spec) (λ (d : Considered (workings atoms)). P d.spec) (λ d f. subst P f x.2) seen y
        | inr z ↦ absurd (none (remaining seen specs) e x.0 z)
      ]

  bare : (c : Certainty) → atoms.has_values (atoms.respond None c) ≡ false
  bare Yes = refl
  bare (Maybe Ambiguity) = refl
  bare (Maybe Overflow) = refl

  pub handler_is_lawful : IsHandler atoms (handled_by book g)
  handler_is_lawful = record {
    begins = λ x. (x, tt, refl);
    says_nothing = λ c. bare c;
    begins_within = tt;
    candidate = λ seen c h e.
        let f = first seen (remaining seen specs) c e in
        let i = in_remaining seen c (among_first c (remaining seen specs) f) in
        let n = counted seen h in
        let l = less_one c (remaining seen specs) f in
        let a = n.0 in let b = n.1 in let p = l.0 in let q = l.1 in
        record {
          lawful = record {
            sound = λ y x w m. record { premises = map (λ n. atoms.fact n x) c.nested; rule = rule_of x c i m; each = among-all (map (λ n. atoms.fact n x) c.nested) };
            steps = λ y table. steps_of c i;
            determined = λ x y w z m k same. all_same x y same c.nested;
            equations_within = all_within c.equations;
            nested_within = all_within c.nested;
          };
          ends = omega (arith, a, p);
          asks = omega (arith, b, q);
        };
    answer = λ seen a ignored h e.
        let end = none_left seen (remaining seen specs) a ignored e in
        let merge = merge_is atoms atoms_are_lawful (is_always_applicable atoms) (always_is_test atoms) same_response same_response_is None (λ c. bare c) (responses atoms seen) in
        let is : IsMergeOfResponses atoms None (responses atoms seen) a = subst (IsMergeOfResponses atoms None (responses atoms seen)) end.1 merge in
        record {
          cover = λ w x p. considered_all seen h end.0 (Realizes atoms (AtomHasProofByBook book) None x) (realized x p);
          yes = λ y.
              let x = SomeOf-found (λ (c : Considered (workings atoms)). a ≡ c.response) seen (from_responses seen a (is.yes y)) in
              let is_yes = subst (IsYes atoms) x.2 y in
              SomeOf-at (λ (c : Considered (workings atoms)). IsYes atoms c.response × IsNoneOf c.number ignored) x.0 seen x.1
              (is_yes, subst (IsNoneOf x.0.number) end.2 (not_refused next seen h x.0 x.1 is_yes));
          merged = λ w x s. is.covers x (agrees_responses seen x s);
          ignores = subst (Every (λ n. IsAmong n (used_numbers (workings atoms) seen))) end.2 (refused_among next seen);
          once = subst IsDistinct end.2 (refused_once next seen h);
          within = λ s. small a;
        };
  }
