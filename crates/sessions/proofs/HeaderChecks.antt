-- The supertraits of headers, asked for one after the other, and what is said of a session's impls by rising number.
use Rattle.std.proofs.Common.{◌≡◌, ◌<◌, ◌≤◌, ◌+◌, ◌-◌, ◌++◌, ℕ, zero, suc, List, [], ◌∷◌, map, take, get_or, length, Some, None, refl, sym, ap, ◌∙◌, subst, arith}
use Rattle.std.proofs.lemmas.List.{take_more}
use Rattle.std.proofs.lemmas.Option.{slice_get-get_or}
use Rattle.std.specs.Prelude.{slice_get}
use Rattle.type_terms.specs.Promised.Proofs.{Every}
use Rattle.type_terms.specs.Promised.Supers.{IsHeld}
use Rattle.type_terms.specs.Promised.Worlds.{World, Reference}
use Rattle.type_terms.specs.Promised.Handles.{Entry}
use Rattle.term_folds.specs.declared.predicate.TraitRef.{TraitRef}
use Rattle.declarations.specs.Applied.{references_in}
use Rattle.declarations.specs.Items.{reference_in, written}
use Rattle.search_graph.specs.SearchState.{SearchState}
use Rattle.solver_graph.specs.Contexts.{entries_of}
use Rattle.solver_graph.specs.declared.context.SolverCx.{SolverCx}
use Rattle.text_language.specs.Promised.Declarations.{Declarations}
use Rattle.candidate_assembly.specs.Fitting.{solving_of}
use Rattle.candidate_assembly.specs.Solving.{Solving}
use Rattle.candidate_assembly.specs.declared.solver.Solver.{Solver}
use Rattle.text_tables.specs.Numbered.{IsNumbered}
use Rattle.sessions.specs.Promised.Promises.{view_in}
use Rattle.sessions.specs.Promised.Releases.{StopsAt, StopsIn}
use Rattle.sessions.specs.Resting.{Cached}
use Rattle.sessions.specs.Sessions.{IsSession}
use Rattle.sessions.specs.Promised.Subjects.{Subject, StaysOn}
use Rattle.sessions.specs.Supertraits.{AreOfOwn, IsCheckedAt, IsFirstTold, IsHeaderTold, IsHeldAt, SolverTells, SupertraitsAreTold}
use Rattle.solver_graph.specs.declared.settling.Outcome.{Outcome}
use Rattle.solver_graph.specs.declared.settling.Outcome.TheVariants.{Proved}
use Rattle.sessions.specs.declared.supertraits.HeaderAnswer.{HeaderAnswer}
use Rattle.sessions.specs.declared.supertraits.HeaderAnswer.TheVariants.{Held}
use Rattle.sessions.specs.declared.supertraits.SupertraitGoals.{SupertraitGoals}
use Rattle.sessions.proofs.CheckedSubjects.{one-more}
use Rattle.sessions.proofs.ImplNumbers.{names-below}
use Rattle.type_terms.proofs.ListBasics.{take-map}
use Rattle.goal_evaluator.proofs.Contexts.{every-more as every-last}

pub get-map : {A B : Type 0} (f : A → B) (xs : List A) (n : ℕ) (x : A) → slice_get xs n ≡ Some x → slice_get (map f xs) n ≡ Some (f x)
get-map f [] n x e = absurd cc
get-map f (y ∷ xs) zero x e = ap Some (ap f (the-same y x e))
  where
    the-same : {A : Type 0} (a b : A) → Some a ≡ Some b → a ≡ b
    the-same a b q = cc
get-map f (y ∷ xs) (suc n) x e = get-map f xs n x e

map-more : {A B : Type 0} (f : A → B) (xs : List A) (x : A) → map f (xs ++ x ∷ []) ≡ map f xs ++ f x ∷ []
map-more f [] x = refl
map-more f (y ∷ xs) x = ap (λ zs. f y ∷ zs) (map-more f xs x)

-- ---- one after the other
module _ (s : Solving) (depth : ℕ) (F : List Reference) (es : List Entry) (xs : List TraitRef) (i : ℕ) (x : TraitRef) (is : x ≡ get_or xs i x) (l : i < length xs) where
  abbrev rs : List Reference
  rs = references_in es xs

  abbrev IsProved : Reference → Type 0
  IsProved r = SolverTells s depth F r Proved

  -- one more is proved
  pub more-told : Every IsProved (take i rs) → SolverTells s depth F (reference_in es x) Proved → Every IsProved (take (i + 1) rs)
  more-told h p =
      subst (Every IsProved)
      (sym
      (take-map (reference_in es) (i + 1) xs ∙ ap (map (reference_in es)) (take_more xs i x l ∙ ap (λ y. take i xs ++ y ∷ []) (sym is))
      ∙ map-more (reference_in es) (take i xs) x ∙ ap (λ zs. zs ++ reference_in es x ∷ []) (sym (take-map (reference_in es) i xs))))
      (every-last IsProved (take i rs) (reference_in es x) h p)

  -- or it is the first that is not
  pub first-told : (n : ℕ) → n ≡ i + 1 → (o : Outcome) → Every IsProved (take i rs) → SolverTells s depth F (reference_in es x) o → IsFirstTold s depth F rs n o
  first-told n e o h p = subst (λ m. IsFirstTold s depth F rs m o) (sym e) (record {
    counted = omega arith;
    super = reference_in es x;
    at = subst (λ m. slice_get rs m ≡ Some (reference_in es x)) (sym (back i)) (get-map (reference_in es) xs i x (slice_get-get_or xs i x l ∙ ap Some (sym is)));
    before = subst (λ m. Every IsProved (take m rs)) (sym (back i)) h;
    told = p;
  })
    where
      back : (m : ℕ) → (m + 1) - 1 ≡ m
      back m = omega arith

-- what is told so is told of what is the same
pub told-of : (s t : Solving) (n m : ℕ) (F G : List Reference) (r q : Reference) (o : Outcome) → s ≡ t → n ≡ m → F ≡ G → r ≡ q → SolverTells s n F r o → SolverTells t m G q o
told-of s t n m F G r q o e f g h x =
    subst (λ z. SolverTells t m G z o) h (subst (λ z. SolverTells t m z r o) g (subst (λ z. SolverTells t z F r o) f (subst (λ z. SolverTells z n F r o) e x)))

-- ---- an impl of a session's crate
abbrev solved : SolverCx Solver → Solving
solved cx = solving_of (entries_of cx) cx.handler.declarations

module _ (law : SupertraitsAreTold) (d : Declarations) (c depth : ℕ) (cx : SolverCx Solver) (graph : SearchState) (cache : Cached) (is : IsSession d c depth cx graph cache) (k : ℕ) (es : List Entry) where
  abbrev V : World
  V = written (entries_of cx) cx.handler.declarations

  pub none-checked : AreOfOwn V cx.handler.declarations.local k es None → IsHeldAt d c k
  none-checked h = (law d is.text c (solved cx) is.solving depth k).0 (subst (λ n. AreOfOwn V n k es None) is.view.local h)

  pub goals-checked : (t : Solving) → t ≡ solved cx → (goals : SupertraitGoals) → AreOfOwn V cx.handler.declarations.local k es (Some goals) → (a : HeaderAnswer)
      → IsHeaderTold t graph.root_depth (references_in es goals.clauses.items) (references_in es goals.supertraits.items) a → IsCheckedAt depth d c k a
  goals-checked t e goals g a h =
      (law d is.text c (solved cx) is.solving depth k).1 es goals (subst (λ n. AreOfOwn V n k es (Some goals)) is.view.local g) a
      (subst (λ n. IsHeaderTold (solved cx) n (references_in es goals.clauses.items) (references_in es goals.supertraits.items) a) is.rest.depth
      (subst (λ z. IsHeaderTold z graph.root_depth (references_in es goals.clauses.items) (references_in es goals.supertraits.items) a) e h))

-- ---- by rising number
abbrev pub HeldHere : Subject → ℕ → Type 0
HeldHere s k = IsHeldAt s.declarations s.of_crate k

abbrev pub CheckedHere : Subject → ℕ → HeaderAnswer → Type 0
CheckedHere s k a = IsCheckedAt s.depth s.declarations s.of_crate k a

pub checked-before : (a b : Subject) → StaysOn a b → (k : ℕ) (h : HeaderAnswer) → CheckedHere b k h → CheckedHere a k h
checked-before a b f k h x =
    subst (λ n. IsCheckedAt n a.declarations a.of_crate k h) f.depth (subst (λ d. IsCheckedAt b.depth d a.of_crate k h) f.declarations (subst (λ c. IsCheckedAt b.depth b.declarations c k h) f.of_crate x))

pub held-more : (s : Subject) (n : ℕ) → ((k : ℕ) → k < n → HeldHere s k) → CheckedHere s n Held → (k : ℕ) → k < n + 1 → HeldHere s k
held-more s n f h k l = one-more (HeldHere s) n f h k l

-- all impls are held
pub all-held : (s : Subject) (n : ℕ) → IsNumbered s.declarations → length s.declarations.impls ≤ n → ((k : ℕ) → k < n → HeldHere s k) → IsHeld (view_in s.declarations s.of_crate) s.of_crate
all-held s n numbered l f i stands own = f i.name (less i.name (length s.declarations.impls) n (names-below s.declarations s.of_crate numbered i stands) l) i stands own refl
  where
    less : (a b c : ℕ) → a < b → b ≤ c → a < c
    less a b c p q = omega (arith, p, q)

-- or this one is the first that is not
pub stops-at : (s : Subject) (n j : ℕ) → ((k : ℕ) → k < n → HeldHere s k) → StopsIn s.depth s.declarations s.of_crate n j → StopsAt s.depth s.declarations s.of_crate n j
stops-at s n j f h = record { first = λ i stands own l. f i.name l i stands own refl; stops = h }
