-- The variables of a question stand for types and constants.
use Rattle.std.proofs.Common.{◌≡◌, ℕ, Bool, true, false, List, [], ◌∷◌, ◌++◌, map, Option, Some, None, Ok, refl}
use Rattle.std.specs.Prelude.{slice_get, filter}
use Rattle.std.specs.List.{flat_map}
use Rattle.sessions.specs.TypeTerms.Promised.Label.{Sort, of_type, of_const, of_lifetime}
use Rattle.sessions.specs.TextLanguage.Promised.Syntax.{TypeTree, of_primitive, never_type, variable_type, named, reference_to, pointer_to, slice_of, array_of, tuple_of, fn_of, fn_to, dyn_of, Types, no_types, and_type, Args, no_args, and_arg, Arg, lifetime_arg, number_arg, type_arg, Item, bound_item, lifetime_item, DynBounds, no_items, and_item, Length, number_length, name_length, variable_length, Bound, Clause, Line, prove_line, refute_line}
use Rattle.sessions.specs.TextLanguage.Promised.Declarations.{Declarations, Question, Variable, known}
use Rattle.sessions.specs.TextLanguage.Uses.{Use, variable_use, misfit_use, kinds_of_struct, kinds_of_trait, next_kind, other_kinds, length_uses, lifetime_uses, binder_uses, type_uses, types_uses, args_uses, arg_uses, item_uses, items_uses, bound_uses, clause_uses}
use Rattle.sessions.specs.TextLanguage.Faults.{variables_in, once}
use Rattle.sessions.specs.TextLanguage.Text.{TextGives}
use Rattle.sessions.specs.TextLines.Faultless.{UsesFit}
use Rattle.sessions.proofs.TextLines.FittingUses.{faultless-uses}
use Rattle.sessions.proofs.TextLowering.EachLine.{question-keeps}

abbrev pub IsTerm : Sort → Type 0
IsTerm of_type = Unit {0}
IsTerm of_const = Unit {0}
IsTerm of_lifetime = ⊥

-- ---- uses
abbrev Fits : Use → Type 0
Fits misfit_use = ⊥
Fits _ = Unit {0}

abbrev AllFit : List Use → Type 0
AllFit [] = Unit {0}
AllFit (u ∷ us) = Fits u × AllFit us

abbrev IsTermUse : Use → Type 0
IsTermUse (variable_use p n) = IsTerm p
IsTermUse _ = Unit {0}

abbrev AllTerms : List Use → Type 0
AllTerms [] = Unit {0}
AllTerms (u ∷ us) = IsTermUse u × AllTerms us

-- where all of them fit, variables are of types and of constants
abbrev AreFine : List Use → Type 0
AreFine us = AllFit us → AllTerms us

all-left : (us vs : List Use) → AllFit (us ++ vs) → AllFit us
all-left [] vs h = tt
all-left (u ∷ us) vs h = (h.0, all-left us vs h.1)

all-right : (us vs : List Use) → AllFit (us ++ vs) → AllFit vs
all-right [] vs h = h
all-right (u ∷ us) vs h = all-right us vs h.1

all-terms : (us vs : List Use) → AllTerms us → AllTerms vs → AllTerms (us ++ vs)
all-terms [] vs a b = b
all-terms (u ∷ us) vs a b = (a.0, all-terms us vs a.1 b)

fine-append : (us vs : List Use) → AreFine us → AreFine vs → AreFine (us ++ vs)
fine-append us vs a b h = all-terms us vs (a (all-left us vs h)) (b (all-right us vs h))

lifetimes-fine : (s : List (List (List ℕ))) (l : Option (List ℕ)) → AreFine (lifetime_uses s l)
lifetimes-fine s None h = tt
lifetimes-fine s (Some n) h = (tt, tt)

length-fine : (n : Length) → AreFine (length_uses n)
length-fine (number_length n) h = (tt, tt)
length-fine (name_length n) h = (tt, tt)
length-fine (variable_length n) h = (tt, tt)

binder-fine : (s : List (List (List ℕ))) (b : List (List ℕ)) → AreFine (binder_uses s b)
binder-fine s [] h = tt
binder-fine s (n ∷ ns) h = (tt, tt)

mutual
  type-fine : (d : Declarations) (s : List (List (List ℕ))) (p : Sort) (t : TypeTree) → IsTerm p → AreFine (type_uses d s p t)
  type-fine d s p (of_primitive l) i h = tt
  type-fine d s p never_type i h = tt
  type-fine d s p (variable_type n) i h = (i, tt)
  type-fine d s p (named n args) i h = (tt, args-fine d s (kinds_of_struct (known d n)) args h.1)
  type-fine d s p (reference_to l m t) i h = fine-append (lifetime_uses s l) (type_uses d s of_type t) (lifetimes-fine s l) (type-fine d s of_type t tt) h
  type-fine d s p (pointer_to m t) i h = type-fine d s of_type t tt h
  type-fine d s p (slice_of t) i h = type-fine d s of_type t tt h
  type-fine d s p (array_of t n) i h = fine-append (type_uses d s of_type t) (length_uses n) (type-fine d s of_type t tt) (length-fine n) h
  type-fine d s p (tuple_of ts) i h = (tt, types-fine d s ts h.1)
  type-fine d s p (fn_of b ts) i h = fine-append (binder_uses s b) _ (binder-fine s b) (λ g. (tt, types-fine d (b ∷ s) ts g.1)) h
  type-fine d s p (fn_to b ts r) i h =
      fine-append (binder_uses s b) _ (binder-fine s b) (λ g. (tt, fine-append (types_uses d (b ∷ s) ts) (type_uses d (b ∷ s) of_type r) (types-fine d (b ∷ s) ts) (type-fine d (b ∷ s) of_type r tt) g.1)) h
  type-fine d s p (dyn_of i is) j h = (tt, fine-append (item_uses d s i) (items_uses d s is) (item-fine d s i) (items-fine d s is) h.1)

  types-fine : (d : Declarations) (s : List (List (List ℕ))) (ts : Types) → AreFine (types_uses d s ts)
  types-fine d s no_types h = tt
  types-fine d s (and_type t ts) h = fine-append (type_uses d s of_type t) (types_uses d s ts) (type-fine d s of_type t tt) (types-fine d s ts) h

  args-fine : (d : Declarations) (s : List (List (List ℕ))) (ks : List Sort) (args : Args) → AreFine (args_uses d s ks args)
  args-fine d s ks no_args h = tt
  args-fine d s ks (and_arg a args) h = fine-append (arg_uses d s (next_kind ks) a) (args_uses d s (other_kinds ks) args) (arg-fine d s (next_kind ks) a) (args-fine d s (other_kinds ks) args) h

  arg-fine : (d : Declarations) (s : List (List (List ℕ))) (p : Sort) (a : Arg) → AreFine (arg_uses d s p a)
  arg-fine d s of_lifetime (lifetime_arg n) h = (tt, tt)
  arg-fine d s of_type (lifetime_arg n) h = absurd h.1.0
  arg-fine d s of_const (lifetime_arg n) h = absurd h.1.0
  arg-fine d s of_const (number_arg n) h = (tt, tt)
  arg-fine d s of_type (number_arg n) h = absurd h.1.0
  arg-fine d s of_lifetime (number_arg n) h = absurd h.1.0
  arg-fine d s of_type (type_arg t) h = type-fine d s of_type t tt h
  arg-fine d s of_const (type_arg (named n args)) h = (tt, args-fine d s (kinds_of_struct (known d n)) args h.1)
  arg-fine d s of_const (type_arg (variable_type n)) h = (tt, tt)
  arg-fine d s of_const (type_arg t) h = absurd h.0
  arg-fine d s of_lifetime (type_arg t) h = absurd h.0

  item-fine : (d : Declarations) (s : List (List (List ℕ))) (i : Item) → AreFine (item_uses d s i)
  item-fine d s (bound_item b n args) h = fine-append (binder_uses s b) _ (binder-fine s b) (λ g. (tt, args-fine d (b ∷ s) (kinds_of_trait (known d n)) args g.1)) h
  item-fine d s (lifetime_item n) h = (tt, tt)

  items-fine : (d : Declarations) (s : List (List (List ℕ))) (is : DynBounds) → AreFine (items_uses d s is)
  items-fine d s no_items h = tt
  items-fine d s (and_item i is) h = fine-append (item_uses d s i) (items_uses d s is) (item-fine d s i) (items-fine d s is) h

bound-fine : (d : Declarations) (b : Bound) → AreFine (bound_uses d b)
bound-fine d b h = (tt, args-fine d [] (kinds_of_trait (known d b.trait)) b.args h.1)

clause-fine : (d : Declarations) (k : Clause) → AreFine (clause_uses d k)
clause-fine d k h = fine-append (type_uses d [] of_type k.subject) (bound_uses d k.bound) (type-fine d [] of_type k.subject tt) (bound-fine d k.bound) h

fit-all : (d : Declarations) (l : Line) (us : List Use) → UsesFit d l us → AllFit us
fit-all d l [] h = tt
fit-all d l (misfit_use ∷ us) h = absurd h.0
fit-all d l (u ∷ us) h = (tt, fit-all d l us h.1)

-- ---- variables
abbrev AreTerms : List (List ℕ × Sort) → Type 0
AreTerms [] = Unit {0}
AreTerms (v ∷ vs) = IsTerm v.1 × AreTerms vs

abbrev pub AreTermVariables : List Variable → Type 0
AreTermVariables [] = Unit {0}
AreTermVariables (v ∷ vs) = IsTerm v.kind × AreTermVariables vs

found : (us : List Use) → AllTerms us → AreTerms (variables_in us)
found [] h = tt
found (variable_use p n ∷ us) h = (h.0, found us h.1)
found (u ∷ us) h = found us h.1

kept-if : (p : List ℕ × Sort → Bool) (v : List ℕ × Sort) (vs : List (List ℕ × Sort)) → IsTerm v.1 → AreTerms (filter p vs) → AreTerms (filter p (v ∷ vs))
kept-if p v vs i h = by (p v) refl
  where
    by : (b : Bool) → p v ≡ b → AreTerms (filter p (v ∷ vs))
    by true e = rw e (i, h)
    by false e = rw e h

filtered : (p : List ℕ × Sort → Bool) (vs : List (List ℕ × Sort)) → AreTerms vs → AreTerms (filter p vs)
filtered p [] h = tt
filtered p (v ∷ vs) h = kept-if p v vs h.0 (filtered p vs h.1)

each-once : (vs : List (List ℕ × Sort)) → AreTerms vs → AreTerms (once vs)
each-once [] h = tt
each-once (v ∷ vs) h = (h.0, filtered _ (once vs) (each-once vs h.1))

as-variables : (vs : List (List ℕ × Sort)) → AreTerms vs → AreTermVariables (map (λ v. (let x : Variable = record { text = v.0; kind = v.1 } in x)) vs)
as-variables [] h = tt
as-variables (v ∷ vs) h = (h.0, as-variables vs h.1)

clauses-fine : (d : Declarations) (ks : List Clause) → AllFit (flat_map (clause_uses d) ks) → AllTerms (flat_map (clause_uses d) ks)
clauses-fine d [] h = tt
clauses-fine d (k ∷ ks) h = fine-append (clause_uses d k) (flat_map (clause_uses d) ks) (clause-fine d k) (clauses-fine d ks) h

of-clauses : (d : Declarations) (ks : List Clause) → AllFit (flat_map (clause_uses d) ks)
    → AreTermVariables (map (λ v. (let x : Variable = record { text = v.0; kind = v.1 } in x)) (once (variables_in (flat_map (clause_uses d) ks))))
of-clauses d ks h = as-variables _ (each-once _ (found (flat_map (clause_uses d) ks) (clauses-fine d ks h)))

-- ---- questions
pub term-variables : (bytes : List ℕ) (d : Declarations) → TextGives bytes (Ok d) → (k : ℕ) (q : Question) → slice_get d.questions k ≡ Some q → AreTermVariables q.variables
term-variables bytes d t k q at =
    question-keeps (λ (x : Question). AreTermVariables x.variables) (λ e c ps a bs ks w f.
    of-clauses e (a ∷ bs) (all-left (flat_map (clause_uses e) (a ∷ bs)) (flat_map (clause_uses e) ks) (fit-all e (prove_line c ps a bs ks) _ (faultless-uses e (prove_line c ps a bs ks) f).1)))
    (λ e c ps a bs w f. of-clauses e (a ∷ bs) (fit-all e (refute_line c ps a bs) _ (faultless-uses e (refute_line c ps a bs) f).1)) bytes d t k q at
