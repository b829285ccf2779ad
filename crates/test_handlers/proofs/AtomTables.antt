-- The tables with one variable satisfy the laws of tables.
use Rattle.std.proofs.Common.{◌≡◌, ℕ, Bool, true, false, ◌==◌, if◌then◌else◌, List, [], ◌∷◌, inl, refl, sym, ◌∙◌, ap, subst, Option, Some, None, is_some, arith}
use Rattle.std.proofs.lemmas.Bool.{eqb-true, eq-eqb}
use Rattle.infer_table.specs.declared.certainty.Certainty.{Certainty}
use Rattle.infer_table.specs.declared.certainty.Certainty.TheVariants.{Yes, Maybe}
use Rattle.infer_table.specs.declared.certainty.MaybeCause.TheVariants.{Ambiguity, Overflow}
use Rattle.goal_evaluator.specs.Lists.{Every}
use Rattle.goal_evaluator.specs.Table.{IsTable, Extends}
use Rattle.test_handlers.specs.Atoms.{Argument, atom, unknown, value_at, AllowsValue, resolved, unify, then_unify, unify_all, put, answer_with, atoms}

value-resolved : (table : Option ℕ) (a : Argument) (x : ℕ) → AllowsValue table x → value_at (resolved table a) x ≡ value_at a x
value-resolved table (atom a) x h = refl
value-resolved None unknown x h = refl
value-resolved (Some b) unknown x h = sym h

abbrev some_or : {A : Type 0} → A → Option A → A
some_or d None = d
some_or d (Some u) = u

-- what a successful equation of atoms says
atoms_equal : (b : Bool) (table new : Option ℕ) → (if b then Some table else None) ≡ Some new → (b ≡ true) × (table ≡ new)
atoms_equal true table new e = (refl, ap (some_or table) e)
atoms_equal false table new e = absurd (cc)

when_equal : (a b : ℕ) (table : Option ℕ) → a ≡ b → (if a == b then Some table else None) ≡ Some table
when_equal a b table e = ap (λ t. if t then Some table else None) (eq-eqb a b e)

-- ---- nothing is gained
unify_narrows : (table new : Option ℕ) (a b : Argument) (x : ℕ) → unify table (a, b) ≡ Some new → AllowsValue new x → AllowsValue table x
unify_narrows None new a b x e h = tt
unify_narrows (Some c) new (atom a) (atom b) x e h = subst (λ t. AllowsValue t x) (sym (atoms_equal (a == b) (Some c) new e).1) h
unify_narrows (Some c) new (atom a) unknown x e h = subst (λ t. AllowsValue t x) (sym (atoms_equal (a == c) (Some c) new e).1) h
unify_narrows (Some c) new unknown (atom b) x e h = subst (λ t. AllowsValue t x) (sym (atoms_equal (c == b) (Some c) new e).1) h
unify_narrows (Some c) new unknown unknown x e h = subst (λ t. AllowsValue t x) (sym (atoms_equal (c == c) (Some c) new e).1) h

unify_meets : (table new : Option ℕ) (a b : Argument) (x : ℕ) → unify table (a, b) ≡ Some new → AllowsValue new x → value_at a x ≡ value_at b x
unify_meets None new (atom a) (atom b) x e h = eqb-true a b (atoms_equal (a == b) None new e).0
unify_meets None new (atom a) unknown x e h = sym (subst (λ t. AllowsValue t x) (sym (ap (some_or None) e)) h)
unify_meets None new unknown (atom b) x e h = subst (λ t. AllowsValue t x) (sym (ap (some_or None) e)) h
unify_meets None new unknown unknown x e h = refl
unify_meets (Some c) new (atom a) (atom b) x e h = eqb-true a b (atoms_equal (a == b) (Some c) new e).0
unify_meets (Some c) new (atom a) unknown x e h = eqb-true a c (atoms_equal (a == c) (Some c) new e).0 ∙ sym (subst (λ t. AllowsValue t x) (sym (atoms_equal (a == c) (Some c) new e).1) h)
unify_meets (Some c) new unknown (atom b) x e h = subst (λ t. AllowsValue t x) (sym (atoms_equal (c == b) (Some c) new e).1) h ∙ eqb-true c b (atoms_equal (c == b) (Some c) new e).0
unify_meets (Some c) new unknown unknown x e h = refl

then_narrows : (es : List (Argument × Argument)) (table new : Option ℕ) (a b : Argument) (x : ℕ) (o : Option (Option ℕ)) → unify table (a, b) ≡ o
    → ((middle : Option ℕ) → unify_all es middle ≡ Some new → AllowsValue middle x) → then_unify (unify_all es) o ≡ Some new → AllowsValue table x
then_narrows es table new a b x None f rest e = absurd (cc)
then_narrows es table new a b x (Some middle) f rest e = unify_narrows table middle a b x f (rest middle e)

unify_all_narrows : (es : List (Argument × Argument)) (table new : Option ℕ) (x : ℕ) → unify_all es table ≡ Some new → AllowsValue new x → AllowsValue table x
unify_all_narrows [] table new x e h = subst (λ t. AllowsValue t x) (sym (ap (some_or table) e)) h
unify_all_narrows ((a, b) ∷ es) table new x e h = then_narrows es table new a b x (unify table (a, b)) refl (λ middle f. unify_all_narrows es middle new x f h) e

then_meets : (es : List (Argument × Argument)) (table new : Option ℕ) (a b : Argument) (x : ℕ) (o : Option (Option ℕ)) → unify table (a, b) ≡ o → AllowsValue new x
    → ((middle : Option ℕ) → unify_all es middle ≡ Some new → Every (λ (e : Argument × Argument). value_at e.0 x ≡ value_at e.1 x) es)
    → then_unify (unify_all es) o ≡ Some new → (value_at a x ≡ value_at b x) × Every (λ (e : Argument × Argument). value_at e.0 x ≡ value_at e.1 x) es
then_meets es table new a b x None f h rest e = absurd (cc)
then_meets es table new a b x (Some middle) f h rest e = (unify_meets table middle a b x f (unify_all_narrows es middle new x e h), rest middle e)

unify_all_meets : (es : List (Argument × Argument)) (table new : Option ℕ) (x : ℕ) → unify_all es table ≡ Some new → AllowsValue new x → Every (λ (e : Argument × Argument). value_at e.0 x ≡ value_at e.1 x) es
unify_all_meets [] table new x e h = tt
unify_all_meets ((a, b) ∷ es) table new x e h = then_meets es table new a b x (unify table (a, b)) refl h (λ middle f. unify_all_meets es middle new x f h) e

-- ---- nothing is lost
unify_keeps : (table : Option ℕ) (a b : Argument) (x : ℕ) → AllowsValue table x → value_at a x ≡ value_at b x → (new : Option ℕ) × (unify table (a, b) ≡ Some new) × AllowsValue new x
unify_keeps None (atom a) (atom b) x h m = (None, when_equal a b None m, tt)
unify_keeps None (atom a) unknown x h m = (Some a, refl, sym m)
unify_keeps None unknown (atom b) x h m = (Some b, refl, m)
unify_keeps None unknown unknown x h m = (None, refl, tt)
unify_keeps (Some c) (atom a) (atom b) x h m = (Some c, when_equal a b (Some c) m, h)
unify_keeps (Some c) (atom a) unknown x h m = (Some c, when_equal a c (Some c) (m ∙ h), h)
unify_keeps (Some c) unknown (atom b) x h m = (Some c, when_equal c b (Some c) (sym h ∙ m), h)
unify_keeps (Some c) unknown unknown x h m = (Some c, when_equal c c (Some c) refl, h)

unify_all_keeps : (es : List (Argument × Argument)) (table : Option ℕ) (x : ℕ) → AllowsValue table x → Every (λ (e : Argument × Argument). value_at e.0 x ≡ value_at e.1 x) es
    → (new : Option ℕ) × (unify_all es table ≡ Some new) × AllowsValue new x
unify_all_keeps [] table x h m = (table, refl, h)
unify_all_keeps ((a, b) ∷ es) table x h m =
    let y = unify_keeps table a b x h m.0 in
    let z = unify_all_keeps es y.0 x y.2 m.1 in
    (z.0, ap (then_unify (unify_all es)) y.1 ∙ z.1, z.2)

put_narrows : (table : Option ℕ) (a : Argument) (value : Option ℕ) (x : ℕ) → AllowsValue (put table (resolved table a) value) x → AllowsValue table x
put_narrows None a value x h = tt
put_narrows (Some c) (atom a) value x h = h
put_narrows (Some c) unknown value x h = h

put_keeps : (table : Option ℕ) (a : Argument) (value : Option ℕ) (x : ℕ) → AllowsValue table x → AllowsValue value x → AllowsValue (put table a value) x
put_keeps table (atom a) value x h g = h
put_keeps table unknown None x h g = h
put_keeps table unknown (Some a) x h g = g

answer_keeps : (table : Option ℕ) (c : Certainty) (x : ℕ) → AllowsValue table x → AllowsValue (answer_with table c).value x
answer_keeps table Yes x h = h
answer_keeps table (Maybe Ambiguity) x h = h
answer_keeps table (Maybe Overflow) x h = tt

answer_certainty : (table : Option ℕ) (c : Certainty) → (answer_with table c).certainty ≡ c
answer_certainty table Yes = refl
answer_certainty table (Maybe Ambiguity) = refl
answer_certainty table (Maybe Overflow) = refl

free : (value : Option ℕ) (x : ℕ) → is_some value ≡ false → AllowsValue value x
free None x e = tt
free (Some a) x e = absurd (cc)

extends : (table new : Option ℕ) (x : ℕ) → Extends atoms table x new x
extends table new x = record { own = refl; known = λ n k. (tt, refl) }

pub atoms_are_lawful : IsTable atoms
atoms_are_lawful = record {
  instance = λ table n x h. ap (λ v. (n.predicate, v)) (value-resolved table n.argument x h);
  made_of_own = λ table n free is x h. inl refl;
  fresh_made = λ table kinds m. tt;
  equate_narrows = λ table new es m e. record { made = tt; allows = λ x h. unify_all_narrows es table new x e h };
  equate_meets = λ table new es m e x h. unify_all_meets es table new x e h;
  apply_narrows = λ table new n r m e. record { made = tt; allows = λ x h. put_narrows table n.argument r.value x (subst (λ t. AllowsValue t x) (sym (ap (some_or new) e)) h) };
  recorded_narrows = λ table regions m. record { made = tt; allows = λ x h. h };
  apart = λ table x h. h;
  equate_keeps = λ table es x h m. let y = unify_all_keeps es table x h m in record { table = y.0; assignment = x; is = y.1; allows = y.2; extends = extends table y.0 x };
  apply_keeps = λ table n r x h k g. record {
    table = put table (resolved table n.argument) r.value;
    assignment = x;
    is = refl;
    allows = put_keeps table (resolved table n.argument) r.value x h g;
    extends = extends table (put table (resolved table n.argument) r.value) x;
  };
  recorded_keeps = λ table regions x h. record { table = table; assignment = x; is = refl; allows = h; extends = extends table table x };
  respond_keeps = λ table c x h. answer_keeps table c x h;
  respond_certainty = λ table c. answer_certainty table c;
  respond_free = λ table m e x. (x, free table x e, refl);
  respond_overflow = λ table. refl;
  agrees = λ r e x. free r.value x e;
  within_made = λ n table h. tt;
  fresh_within = λ n table kinds h. tt;
  equate_within = λ n table new es h q e. tt;
  recorded_within = λ n table regions h. tt;
  apply_within = λ n table new g r h l e. tt;
  question_within = λ n table g h l. omega arith;
  respond_within = λ n table c h. omega arith;
}
