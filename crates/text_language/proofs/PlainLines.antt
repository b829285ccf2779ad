-- A line without types is written as before, stands for itself, and has no fault of its own but to lack types.
use Rattle.std.proofs.Common.{◌≡◌, ℕ, Bool, ◌||◌, true, false, if◌then◌else◌, List, [], ◌∷◌, ◌++◌, map, fold, min, Option, Some, None, refl, ap, ◌∙◌, append_assoc, append-nil}
use Rattle.std.specs.List.{flat_map, list_any, reduce}
use Rattle.std.specs.Option.{option_or, option_to_list}
use Rattle.std.specs.Prelude.{nat_lt, length}
use Rattle.type_terms.proofs.BooleanBasics.{no-more}
use Rattle.text_language.specs.Promised.Declarations.{Declarations}
use Rattle.text_language.specs.Promised.Written.{is_overlong}
use Rattle.text_language.specs.Faults.{fault_of}
use Rattle.text_language.specs.Adding.{added}
use Rattle.text_language.specs.Text.{first_of, fault_written}
use Rattle.text_language.specs.Words.{comma, close_angle, open_angle, colon, fundamental_word, auto_word, trait_word, for_word, prove_word, refute_word, in_word, impl_word}
use Rattle.text_language.specs.Tokens.{Token, sign, keyword, name}
use Rattle.text_language.specs.Promised.Syntax.{Args, no_args, and_arg, Bound, Clause, Line, crate_line, struct_line, trait_line, impl_line, prove_line, refute_line, later_line, supers_line}
use Rattle.text_language.specs.Promised.Desugared.{desugared, bounds_of, clauses_of, asked_of, binds_twice, types_limit, leaves_out, is_ill_bound, has_many_types, own_faults}
use Rattle.text_language.specs.Syntax.{arg_spelling, args_spelling, more_args, arg_spellings, in_angles, behind, params_spelling, type_spelling, bound_spelling, clause_spelling, bounds_spelling, where_spelling, written_bound_spelling, written_clause_spelling, spelling, written_spelling}
use Rattle.text_language.specs.Agreement.{plain_bound, plain_clause, plain, lacks_types}

-- ---- what a line stands for
bounds-alone : (bs : List Bound) → flat_map bounds_of (map plain_bound bs) ≡ bs
bounds-alone [] = refl
bounds-alone (b ∷ bs) = ap (λ w. b ∷ w) (bounds-alone bs)

clauses-alone : (ks : List Clause) → flat_map clauses_of (map plain_clause ks) ≡ ks
clauses-alone [] = refl
clauses-alone (k ∷ ks) = ap (λ w. k ∷ w) (clauses-alone ks)

asked-alone : (ks : List Clause) → flat_map asked_of (map plain_clause ks) ≡ ks
asked-alone [] = refl
asked-alone (k ∷ ks) = ap (λ w. k ∷ w) (asked-alone ks)

pub stands-alone : (l : Line) → desugared (plain l) ≡ l ∷ []
stands-alone (crate_line n us) = refl
stands-alone (struct_line f n ps fs) = refl
stands-alone (trait_line f a n ps bs) = ap (λ w. trait_line f a n ps w ∷ []) (bounds-alone bs)
stands-alone (impl_line ps h ks) = ap (λ w. impl_line ps h w ∷ []) (clauses-alone ks)
stands-alone (prove_line c ps a bs ks) = ap (λ w. prove_line c ps a w (flat_map clauses_of (map plain_clause ks)) ∷ []) (asked-alone bs) ∙ ap (λ w. prove_line c ps a bs w ∷ []) (clauses-alone ks)
stands-alone (refute_line c ps a bs) = ap (λ w. refute_line c ps a w ∷ []) (asked-alone bs)
stands-alone (later_line n) = refl
stands-alone (supers_line n) = refl

-- ---- how a line is written
more-args-are : (args : Args) → behind comma (arg_spellings args) ++ sign close_angle ∷ [] ≡ more_args args
more-args-are no_args = refl
more-args-are (and_arg a args) =
    ap (λ w. sign comma ∷ w) (append_assoc (arg_spelling a) (behind comma (arg_spellings args)) (sign close_angle ∷ []) ∙ ap (λ w. arg_spelling a ++ w) (more-args-are args))

pub args-are : (args : Args) → in_angles (arg_spellings args) ≡ args_spelling args
args-are no_args = refl
args-are (and_arg a args) = ap (λ w. sign open_angle ∷ (arg_spelling a ++ w)) (more-args-are args)

pub bound-is : (b : Bound) → written_bound_spelling (plain_bound b) ≡ bound_spelling b
bound-is b = ap (λ w. name b.trait ∷ w) (ap in_angles (append-nil (arg_spellings b.args)) ∙ args-are b.args)

bounds-are : (bs : List Bound) → map written_bound_spelling (map plain_bound bs) ≡ map bound_spelling bs
bounds-are [] = refl
bounds-are (b ∷ bs) = ap (λ w. w ∷ map written_bound_spelling (map plain_bound bs)) (bound-is b) ∙ ap (λ w. bound_spelling b ∷ w) (bounds-are bs)

clause-is : (k : Clause) → written_clause_spelling (plain_clause k) ≡ clause_spelling k
clause-is k = ap (λ w. type_spelling k.subject ++ sign colon ∷ w) (bound-is k.bound)

clauses-are : (ks : List Clause) → map written_clause_spelling (map plain_clause ks) ≡ map clause_spelling ks
clauses-are [] = refl
clauses-are (k ∷ ks) = ap (λ w. w ∷ map written_clause_spelling (map plain_clause ks)) (clause-is k) ∙ ap (λ w. clause_spelling k ∷ w) (clauses-are ks)

-- the end of a line, in place of nothing
ended : (xs ys zs : List Token) → ys ≡ zs → (xs ++ []) ++ (ys ++ []) ≡ xs ++ zs
ended xs ys zs e = ap (λ w. w ++ (ys ++ [])) (append-nil xs) ∙ ap (λ w. xs ++ w) (append-nil ys ∙ e)

asked-are : (a : Clause) (bs : List Clause) → written_clause_spelling (plain_clause a) ++ behind comma (map written_clause_spelling (map plain_clause bs)) ≡ clause_spelling a ++ behind comma (map clause_spelling bs)
asked-are a bs = ap (λ w. w ++ behind comma (map written_clause_spelling (map plain_clause bs))) (clause-is a) ∙ ap (λ w. clause_spelling a ++ behind comma w) (clauses-are bs)

pub written-alone : (l : Line) → written_spelling (plain l) ≡ spelling l
written-alone (crate_line n us) = refl
written-alone (struct_line f n ps fs) = refl
written-alone (trait_line false false n ps bs) = ap (λ w. keyword trait_word ∷ name n ∷ w) (ended (params_spelling ps) _ _ (ap bounds_spelling (bounds-are bs)))
written-alone (trait_line false true n ps bs) = ap (λ w. keyword auto_word ∷ keyword trait_word ∷ name n ∷ w) (ended (params_spelling ps) _ _ (ap bounds_spelling (bounds-are bs)))
written-alone (trait_line true false n ps bs) = ap (λ w. keyword fundamental_word ∷ keyword trait_word ∷ name n ∷ w) (ended (params_spelling ps) _ _ (ap bounds_spelling (bounds-are bs)))
written-alone (trait_line true true n ps bs) = ap (λ w. keyword fundamental_word ∷ keyword auto_word ∷ keyword trait_word ∷ name n ∷ w) (ended (params_spelling ps) _ _ (ap bounds_spelling (bounds-are bs)))
written-alone (impl_line ps h ks) =
    let W = where_spelling (map written_clause_spelling (map plain_clause ks)) in
    ap (λ w. keyword impl_word ∷ w) (append_assoc (params_spelling ps) _ (W ++ []) ∙ ap (λ w. params_spelling ps ++ w) (append_assoc (bound_spelling h.bound) _ (W ++ [])
    ∙ ap (λ w. bound_spelling h.bound ++ keyword for_word ∷ w) (ended (type_spelling h.subject) W _ (ap where_spelling (clauses-are ks)))))
written-alone (prove_line c ps a bs ks) =
    ap (λ w. keyword prove_word ∷ keyword in_word ∷ name c ∷ (params_spelling ps ++ w)) (ap (λ w. w ++ where_spelling (map written_clause_spelling (map plain_clause ks))) (asked-are a bs)
    ∙ ap (λ w. (clause_spelling a ++ behind comma (map clause_spelling bs)) ++ where_spelling w) (clauses-are ks)
    ∙ append_assoc (clause_spelling a) (behind comma (map clause_spelling bs)) (where_spelling (map clause_spelling ks)))
written-alone (refute_line c ps a bs) = ap (λ w. keyword refute_word ∷ keyword in_word ∷ name c ∷ (params_spelling ps ++ w)) (asked-are a bs)
written-alone (later_line n) = refl
written-alone (supers_line n) = refl

-- ---- faults of the written line
few-in : (bs : List Bound) → list_any (λ b. nat_lt types_limit (length b.bindings)) (map plain_bound bs) ≡ false
few-in [] = refl
few-in (b ∷ bs) = few-in bs

few-clauses : (ks : List Clause) → list_any (λ b. nat_lt types_limit (length b.bindings)) (map (λ k. k.bound) (map plain_clause ks)) ≡ false
few-clauses [] = refl
few-clauses (k ∷ ks) = few-clauses ks

few-asked : (bs ks : List Clause) → list_any (λ b. nat_lt types_limit (length b.bindings)) (map (λ k. k.bound) (map plain_clause bs ++ map plain_clause ks)) ≡ false
few-asked [] ks = few-clauses ks
few-asked (b ∷ bs) ks = few-asked bs ks

pub few-types : (l : Line) → has_many_types (plain l) ≡ false
few-types (crate_line n us) = refl
few-types (struct_line f n ps fs) = refl
few-types (trait_line f a n ps bs) = few-in bs
few-types (impl_line ps h ks) = few-clauses ks
few-types (prove_line c ps a bs ks) = few-asked bs ks
few-types (refute_line c ps a bs) = few-clauses bs
few-types (later_line n) = refl
few-types (supers_line n) = refl

once-in : (bs : List Bound) → list_any binds_twice (map plain_bound bs) ≡ false
once-in [] = refl
once-in (b ∷ bs) = once-in bs

once-clauses : (ks : List Clause) → list_any binds_twice (map (λ k. k.bound) (map plain_clause ks)) ≡ false
once-clauses [] = refl
once-clauses (k ∷ ks) = once-clauses ks

once-asked : (bs ks : List Clause) → list_any binds_twice (map (λ k. k.bound) (map plain_clause bs ++ map plain_clause ks)) ≡ false
once-asked [] ks = once-clauses ks
once-asked (b ∷ bs) ks = once-asked bs ks

pub lacks-alone : (l : Line) (d : Declarations) → is_ill_bound d (plain l) ≡ lacks_types d l
lacks-alone (crate_line n us) d = refl
lacks-alone (struct_line f n ps fs) d = refl
lacks-alone (trait_line f a n ps bs) d = once-in bs
lacks-alone (impl_line ps h ks) d = ap (λ b. leaves_out d (plain_bound h.bound) || b) (once-clauses ks) ∙ no-more (leaves_out d (plain_bound h.bound))
lacks-alone (prove_line c ps a bs ks) d = once-asked bs ks
lacks-alone (refute_line c ps a bs) d = once-clauses bs
lacks-alone (later_line n) d = refl
lacks-alone (supers_line n) d = refl

or-nothing : (o : Option ℕ) → option_or o None ≡ o
or-nothing None = refl
or-nothing (Some n) = refl

pub fault-alone : (d : Declarations) (line : List ℕ) (l : Line) → is_overlong line ≡ false
    → fault_written d line (plain l) ≡ reduce min (option_to_list (fault_of d l) ++ (if lacks_types d l then 7 ∷ [] else []))
fault-alone d line l short =
    let w = plain l in
    ap (λ (b : Bool). if b || has_many_types w then Some 16 else reduce min (option_to_list (first_of d (desugared w)) ++ own_faults d w)) short
    ∙ ap (λ (b : Bool). if b then Some 16 else reduce min (option_to_list (first_of d (desugared w)) ++ own_faults d w)) (few-types l)
    ∙ ap (λ (ls : List Line). reduce min (option_to_list (first_of d ls) ++ own_faults d w)) (stands-alone l)
    ∙ ap (λ (b : Bool). reduce min (option_to_list (option_or (fault_of d l) None) ++ (if b then 7 ∷ [] else []))) (lacks-alone l d)
    ∙ ap (λ (o : Option ℕ). reduce min (option_to_list o ++ (if lacks_types d l then 7 ∷ [] else []))) (or-nothing (fault_of d l))

pub added-alone : (d : Declarations) (l : Line) → fold added d (desugared (plain l)) ≡ added d l
added-alone d l = ap (λ (ls : List Line). fold added d ls) (stands-alone l)
