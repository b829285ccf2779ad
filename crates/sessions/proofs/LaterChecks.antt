-- The check of a later version: what is found of the headers of a section is said of the section's impls.
use Rattle.std.proofs.Common.{◌≡◌, ◌<◌, ◌≤◌, ◌+◌, ◌-◌, ℕ, zero, suc, Bool, true, false, ◌==◌, List, [], ◌∷◌, map, length, take, Some, Result, Ok, Err, refl, sym, ap, ◌∙◌, subst, arith}
use Rattle.std.proofs.lemmas.List.{take-map}
use Rattle.std.proofs.lemmas.Option.{same_Some, slice_get-map}
use Rattle.std.specs.Prelude.{slice_get, filter, if◌then◌else◌, IfOk}
use Rattle.std.specs.Option.{option_map}
use Rattle.std.specs.declared.vec.Vec.{Vec}
use Rattle.type_terms.specs.Promised.Worlds.{World, Reference, ImplDecl}
use Rattle.type_terms.specs.Promised.Proofs.{In, Every}
use Rattle.type_terms.specs.Promised.Erased.{erased_reference, erased_impl}
use Rattle.type_terms.specs.Promised.Versions.{in_scope}
use Rattle.type_terms.specs.Promised.Versions.{is_addable}
use Rattle.type_terms.proofs.Members.{in-filter, same-number}
use Rattle.type_terms.specs.Promised.Handles.{Entry}
use Rattle.type_terms.specs.declared.Fault.{Fault}
use Rattle.declarations.specs.Items.{declared}
use Rattle.declarations.proofs.Growth.{all-declared}
use Rattle.declarations.specs.declared.items.ImplDef.{ImplDef}
use Rattle.text_language.specs.Promised.Declarations.{Declarations, NamedImpl, LaterImpl, section_impls}
use Rattle.text_lowering.specs.Later.{added_impls, added_in, unnumbered}
use Rattle.solver_graph.specs.declared.context.SolverCx.{SolverCx}
use Rattle.solver_graph.specs.Contexts.{entries_of}
use Rattle.candidate_assembly.specs.declared.solver.Solver.{Solver}
use Rattle.text_lowering.specs.Promised.SeenWorlds.{plain_impl, all_kept}
use Rattle.text_lowering.specs.Seen.{rules_seen_from}
use Rattle.sessions.specs.Checking.{IsReadySolver, SolverStaysReady, rules_in}
use Rattle.sessions.specs.Promised.Given.{later_of}
use Rattle.sessions.specs.Later.{header_in, section_headers, MayAdd, IsFirstRefused, IsAnswerOn}
use Rattle.sessions.specs.Promised.Promises.{view_in}
use Rattle.sessions.specs.Promised.Releases.{LaterAnswer as Answer, compatible, breaking, MayBeAdded, IsSectionOf, IsLaterAnswer}
use Rattle.sessions.specs.Promised.Subjects.{IsOfText}
use Rattle.sessions.specs.declared.answers.LaterAnswer.{LaterAnswer}
use Rattle.sessions.proofs.CratesAside.{addable-aside}
use Rattle.sessions.proofs.FormedViews.{each-in, map-in}
use Rattle.sessions.proofs.KeptTexts.{IsOfSection, AllKept, texts-are-kept}
use Rattle.sessions.proofs.ScopedTexts.{later-scoped}
use Rattle.sessions.proofs.SeenPlainly.{reference-erased}
use Rattle.text_language.proofs.SameTexts.{text-gives}
use Rattle.type_terms.proofs.ListBasics.{map-length as map-long}

-- ---- lists
every-more : {A : Type 0} (P : A → Type 0) (xs : List A) (n : ℕ) (x : A) → slice_get xs n ≡ Some x → Every P (take n xs) → P x → Every P (take (suc n) xs)
every-more P [] n x e h p = absurd cc
every-more P (y ∷ ys) zero x e h p = (subst P (sym (same_Some y x e)) p, tt)
every-more P (y ∷ ys) (suc n) x e h p = (h.0, every-more P ys n x e h.1 p)

-- what a function gives for the nth is that of the nth
pub map-get : {A B : Type 0} (f : A → B) (xs : List A) (n : ℕ) (y : B) → slice_get (map f xs) n ≡ Some y → (x : A) × (slice_get xs n ≡ Some x) × (f x ≡ y)
map-get f [] n y e = absurd cc
map-get f (x ∷ xs) zero y e = (x, refl, same_Some (f x) y e)
map-get f (x ∷ xs) (suc n) y e = map-get f xs n y e

map-twice : {A B C : Type 0} (f : A → B) (g : B → C) (xs : List A) → map g (map f xs) ≡ map (λ x. g (f x)) xs
map-twice f g [] = refl
map-twice f g (x ∷ xs) = ap (λ ys. g (f x) ∷ ys) (map-twice f g xs)

map-same : {A B : Type 0} (f g : A → B) → ((x : A) → f x ≡ g x) → (xs : List A) → map f xs ≡ map g xs
map-same f g h [] = refl
map-same f g h (x ∷ xs) = ap (λ y. y ∷ map f xs) (h x) ∙ ap (λ ys. g x ∷ ys) (map-same f g h xs)

filter-short : {A : Type 0} (p : A → Bool) (xs : List A) → length (filter p xs) ≤ length xs
filter-short p [] = omega arith
filter-short p (x ∷ xs) = by (p x) (filter-short p xs)
  where
    by : (b : Bool) → length (filter p xs) ≤ length xs → length (if b then x ∷ filter p xs else filter p xs) ≤ suc (length xs)
    by true h = omega (arith, h)
    by false h = omega (arith, h)

-- ---- the impls of a section, as they were lowered
pub headers-are : (es : List Entry) (defs : List ImplDef) (d : Declarations) (k : ℕ) → map (added_in es) defs ≡ added_impls d k → map (header_in es) defs ≡ section_headers d k
headers-are es defs d k e =
    sym (map-twice (added_in es) (λ (i : ImplDecl). erased_reference i.header) defs)
    ∙ ap (map (λ (i : ImplDecl). erased_reference i.header)) e
    ∙ map-twice (λ (i : NamedImpl). unnumbered (plain_impl i.item)) (λ (i : ImplDecl). erased_reference i.header) (section_impls d k)
    ∙ map-same (λ (i : NamedImpl). erased_reference (plain_impl i.item).header) (λ (i : NamedImpl). (erased_impl i.item).header) (λ i. reference-erased all_kept i.item.header) (section_impls d k)

pub few-added : (es : List Entry) (defs : List ImplDef) (d : Declarations) (k n : ℕ) → length d.later_impls < n → map (added_in es) defs ≡ added_impls d k → length defs ≤ n
few-added es defs d k n few e =
    let same : length defs ≡ length (filter (λ (i : LaterImpl). i.section == k) d.later_impls) =
    sym (map-long (added_in es) defs) ∙ ap length e ∙ map-long (λ (i : NamedImpl). unnumbered (plain_impl i.item)) (section_impls d k) ∙ map-long (λ (i : LaterImpl). i.added) (filter (λ (i : LaterImpl). i.section == k) d.later_impls) in
    omega (arith, same, few, filter-short (λ (i : LaterImpl). i.section == k) d.later_impls)

pub headers-ok : {A : Type 0} (es : List Entry) (d : Declarations) (k : ℕ) (r : Result (Vec ImplDef A) Fault) → IfOk r (λ v. map (added_in es) v.items ≡ added_impls d k) → IfOk r (λ v. map (header_in es) v.items ≡ section_headers d k)
headers-ok es d k (Ok v) h = headers-are es v.items d k h
headers-ok es d k (Err e) h = h

pub few-ok : {A : Type 0} (es : List Entry) (d : Declarations) (k n : ℕ) → length d.later_impls < n → (r : Result (Vec ImplDef A) Fault) → IfOk r (λ v. map (added_in es) v.items ≡ added_impls d k) → IfOk r (λ v. length v.items ≤ n)
few-ok es d k n few (Ok v) h = few-added es v.items d k n few h
few-ok es d k n few (Err e) h = h

-- ---- one by one
-- the first n may be added
abbrev pub AddableUpTo : World → ℕ → List Reference → ℕ → Type 0
AddableUpTo V c hs n = Every (MayAdd V c) (take n hs)

pub one-addable : (V : World) (c : ℕ) (es : List Entry) (defs : List ImplDef) (n : ℕ) (def : ImplDef) → slice_get defs n ≡ Some def → is_addable V c (header_in es def) ≡ true → AddableUpTo V c (map (header_in es) defs) n
    → AddableUpTo V c (map (header_in es) defs) (suc n)
one-addable V c es defs n def e a h = every-more (MayAdd V c) (map (header_in es) defs) n (header_in es def) (slice_get-map (header_in es) defs n ∙ ap (option_map (header_in es)) e) h a

pub first-refused : (V : World) (c : ℕ) (es : List Entry) (defs : List ImplDef) (n : ℕ) (def : ImplDef) → slice_get defs n ≡ Some def → is_addable V c (header_in es def) ≡ false → AddableUpTo V c (map (header_in es) defs) n
    → IsFirstRefused V c (map (header_in es) defs) (n + 1)
first-refused V c es defs n def e a h = record {
  counted = omega arith;
  found = header_in es def;
  there = ap (slice_get (map (header_in es) defs)) (one-less n) ∙ slice_get-map (header_in es) defs n ∙ ap (option_map (header_in es)) e;
  refused = a;
  before = subst (λ m. Every (MayAdd V c) (take m (map (header_in es) defs))) (sym (one-less n)) h;
}
  where
    one-less : (m : ℕ) → m + 1 - 1 ≡ m
    one-less m = omega arith

-- what was said once the context had grown is said of it as it was
pub answer-grown : (old new : SolverCx Solver) → IsReadySolver old → SolverStaysReady old new → (hs ks : List Reference) → hs ≡ ks → (r : Answer)
    → IsAnswerOn (rules_in new) new.handler.declarations.local hs r → IsAnswerOn (rules_in old) old.handler.declarations.local ks r
answer-grown old new ready grown hs ks e r h =
    let d = old.handler.declarations in
    subst (λ rs. IsAnswerOn (rules_in old) d.local rs r) e
    (subst (λ V. IsAnswerOn V d.local hs r) (all-declared (entries_of old) (entries_of new) grown.entries d ready.handler.held)
    (subst (λ (s : Solver). IsAnswerOn (declared (entries_of new) s.declarations) s.declarations.local hs r) grown.handler h))

-- ---- by what a crate sees of a text
module _ (d : Declarations) (a : AllKept d) (c k : ℕ) (s : IsSectionOf d c k) where
  abbrev header : NamedImpl → Reference
  header i = (erased_impl i.item).header

  -- an impl of the section is of the crate that it changes
  added-at : (i : NamedImpl) → In i (section_impls d k) → (x : LaterImpl) × In x d.later_impls × (i ≡ x.added) × (x.added.item.home ≡ c)
  added-at i m =
      let q = map-in (λ (x : LaterImpl). x.added) (filter (λ (x : LaterImpl). x.section == k) d.later_impls) i m in
      let f = in-filter (λ (x : LaterImpl). x.section == k) d.later_impls q.0 q.1 in
      let own = each-in (IsOfSection d) d.later_impls a.kept.later_homes q.0 f.0 in
      (q.0, f.0, q.2, home q.0 (same-number q.0.section k f.1) own)
    where
      home : (x : LaterImpl) → x.section ≡ k → IsOfSection d x → x.added.item.home ≡ c
      home x e own = same_Some x.added.item.home c (sym own ∙ ap (slice_get d.sections) e ∙ s)

  in-scope : (i : NamedImpl) → In i (section_impls d k) → in_scope (view_in d c) c (header i) ≡ true
  in-scope i m =
      let x = added-at i m in
      subst (λ (n : NamedImpl). in_scope (view_in d c) c (header n) ≡ true) (sym x.2)
      (subst (λ n. in_scope (view_in d n) n (header x.0.added) ≡ true) x.3 ((later-scoped d a x.0 x.1).header))

  may-be : (i : NamedImpl) → In i (section_impls d k) → MayAdd (rules_seen_from d c) c (header i) → MayBeAdded d c i
  may-be i m h = record { addable = addable-aside (rules_seen_from d c) (view_in d c).crates c (header i) ∙ h; scope = in-scope i m }

  every-may : (is : List NamedImpl) → ((i : NamedImpl) → In i is → In i (section_impls d k)) → Every (MayAdd (rules_seen_from d c) c) (map header is) → Every (MayBeAdded d c) is
  every-may [] f h = tt
  every-may (i ∷ is) f h = (may-be i (f i (zero, refl)) h.0, every-may is (λ j m. f j (suc m.0, m.1)) h.1)

  in-take : (n : ℕ) (is : List NamedImpl) (i : NamedImpl) → In i (take n is) → In i is
  in-take zero is i m = absurd (nothing i m)
    where
      nothing : (j : NamedImpl) → In j [] → ⊥
      nothing j (q, e) = cc
  in-take (suc n) [] i m = m
  in-take (suc n) (x ∷ is) i (zero, e) = (zero, e)
  in-take (suc n) (x ∷ is) i (suc q, e) = let r = in-take n is i (q, e) in (suc r.0, r.1)

  pub answered : (r : Answer) → IsAnswerOn (rules_seen_from d c) c (section_headers d k) r → IsLaterAnswer d c k r
  answered compatible h = every-may (section_impls d k) (λ i m. m) h
  answered (breaking n) h =
      let x = map-get header (section_impls d k) (n - 1) h.found h.there in
      record {
        counted = h.counted;
        found = x.0;
        there = x.1;
        breaks = addable-aside (rules_seen_from d c) (view_in d c).crates c (header x.0) ∙ subst (λ r. is_addable (rules_seen_from d c) c r ≡ false) (sym x.2) h.refused;
        before = every-may (take (n - 1) (section_impls d k)) (in-take (n - 1) (section_impls d k)) (subst (Every (MayAdd (rules_seen_from d c) c)) (take-map header (n - 1) (section_impls d k)) h.before);
      }

pub answered-here : (d : Declarations) (t : IsOfText d) (c k : ℕ) → IsSectionOf d c k → (V : World) (l : ℕ) → V ≡ rules_seen_from d c → l ≡ c
    → (r : Result LaterAnswer Fault) → IfOk r (λ x. IsAnswerOn V l (section_headers d k) (later_of x)) → IfOk r (λ x. IsLaterAnswer d c k (later_of x))
answered-here d (bytes, t) c k s V l e f (Ok x) h =
    answered d (texts-are-kept bytes d (text-gives bytes (Ok d) t)) c k s (later_of x) (subst (λ n. IsAnswerOn (rules_seen_from d c) n (section_headers d k) (later_of x)) f (subst (λ U. IsAnswerOn U l (section_headers d k) (later_of x)) e h))
answered-here d t c k s V l e f (Err x) h = h
