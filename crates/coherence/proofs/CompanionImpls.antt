-- An impl that gives types stands for an impl of its trait, and for one of each companion, which stands behind it.
use Rattle.std.proofs.Common.{◌≡◌, ◌⊎◌, inl, inr, ℕ, ◌+◌, ◌-◌, Bool, true, false, List, [], ◌∷◌, ◌++◌, map, fold, length, Option, Some, None, refl, sym, ap, ◌∙◌, subst, arith, if◌then◌else◌}
use Rattle.std.proofs.lemmas.Slice.Eq.{bytes_eq-Decides}
use Rattle.std.specs.Prelude.{slice_get, is_some, ◌||◌}
use Rattle.std.specs.List.{list_any}
use Rattle.std.specs.Option.{option_or}
use Rattle.std.specs.Str.{bytes_eq}
use Rattle.sessions.specs.TypeTerms.Promised.Label.{Sort, of_type, adt}
use Rattle.sessions.specs.TypeTerms.Promised.Trees.{none, tree, ◌+++◌}
use Rattle.sessions.specs.TypeTerms.Promised.Worlds.{Reference, core}
use Rattle.sessions.specs.TypeTerms.Promised.Core.{wrapper}
use Rattle.sessions.specs.TypeTerms.Promised.Proofs.{In}
use Rattle.sessions.proofs.TypeTerms.Members.{here, in-left, in-right, in-append, in-cases, in-nothing, not-both}
use Rattle.sessions.proofs.TypeTerms.Walking.{or-left, or-right}
use Rattle.sessions.proofs.TypeTerms.ListBasics.{same-name}
use Rattle.sessions.proofs.TypeTerms.TreeLaws.{append-none, append-assoc}
use Rattle.sessions.specs.TextLanguage.Promised.Syntax.{TypeTree, Args, no_args, and_arg, type_arg, Params, Bound, Clause, Line, impl_line, Binding}
use Rattle.sessions.specs.TextLanguage.Promised.Declarations.{Declarations, NamedTrait, NamedImpl, Known, a_struct, known, last_later}
use Rattle.sessions.specs.TextLanguage.Promised.Desugared.{companion_name, wrapper_name, and_value}
use Rattle.sessions.specs.TextLanguage.Promised.Faults.{is_among, repeats}
use Rattle.sessions.specs.TextLanguage.Declarations.{sorted_names}
use Rattle.sessions.specs.TextLanguage.Uses.{args_count, kinds_of_struct}
use Rattle.sessions.specs.TextLanguage.Faults.{fault_of, declares_taken, is_taken_param, static_name}
use Rattle.sessions.specs.TextLanguage.Lowering.{Meanings, struct_label, place_among, type_label, type_tree, args_trees, arg_tree, clause_reference}
use Rattle.sessions.specs.TextLanguage.Adding.{added, impl_of, item_meanings}
use Rattle.sessions.specs.TextLanguage.Text.{first_of}
use Rattle.sessions.proofs.TextLines.NoFault.{passes-tests, or-first, or-second}
use Rattle.sessions.proofs.TextLines.FittingUses.{faultless-uses}
use Rattle.coherence.proofs.SpelledNames.{has_colon, companion-has-colon, names-split}
use Rattle.coherence.proofs.SameTerms.{clause-same, clauses-same}
use Rattle.coherence.proofs.Found.{found-in, found-one, placed-in}
use Rattle.coherence.proofs.CompanionTraits.{trait_found, TraitStands, TraitsStand, NamesTrait, trait-named, wrapper-known}
use Rattle.coherence.proofs.CompanionPairs.{Pair, PairStands, HasPlainTrait, ImplsStand, plain-impl, AreFree, pair-added, none-yet}

-- ---- the arguments of a companion
-- The arguments, then the type in the wrapper.
value-last : (e : Meanings) (ks : List Sort) (args : Args) (t : TypeTree) → length ks ≡ args_count args
    → args_trees e [] (ks ++ of_type ∷ []) (and_value args t)
    ≡ args_trees e [] ks args +++ tree (type_label e wrapper_name) (args_trees e [] (kinds_of_struct (known e.items wrapper_name)) (and_arg (type_arg t) no_args)) none
value-last e [] no_args t h = refl
value-last e (k ∷ ks) no_args t h = absurd (omega (arith, h))
value-last e [] (and_arg a args) t h = absurd (omega (arith, h))
value-last e (k ∷ ks) (and_arg a args) t h =
    ap (λ z. arg_tree e [] k a +++ z) (value-last e ks args t (omega (arith, h)))
    ∙ sym (append-assoc (arg_tree e [] k a) (args_trees e [] ks args) _)

in-wrapper : (e : Meanings) (t : TypeTree) → known e.items wrapper_name ≡ Some (a_struct wrapper core (of_type ∷ [])) → is_among wrapper_name e.params.types ≡ false
    → tree (type_label e wrapper_name) (args_trees e [] (kinds_of_struct (known e.items wrapper_name)) (and_arg (type_arg t) no_args)) none ≡ tree (adt wrapper) (type_tree e [] of_type t) none
in-wrapper e t k a =
    ap (λ b. tree (if b then e.parameter of_type (e.first + length e.params.lifetimes + place_among wrapper_name e.params.types) else struct_label (known e.items wrapper_name))
    (args_trees e [] (kinds_of_struct (known e.items wrapper_name)) (and_arg (type_arg t) no_args)) none) a
    ∙ ap (λ o. tree (struct_label o) (args_trees e [] (kinds_of_struct o) (and_arg (type_arg t) no_args)) none) k
    ∙ ap (λ z. tree (adt wrapper) z none) (append-none (type_tree e [] of_type t))

-- ---- lines without a fault
-- the first one, and those behind it
pub first-apart : (d : Declarations) (l : Line) (ls : List Line) → first_of d (l ∷ ls) ≡ None → (fault_of d l ≡ None) × (first_of (added d l) ls ≡ None)
first-apart d l ls f = by (fault_of d l) f
  where
    by : (o : Option ℕ) → option_or o (first_of (added d l) ls) ≡ None → (o ≡ None) × (first_of (added d l) ls ≡ None)
    by None e = (refl, e)
    by (Some n) e = absurd cc

-- no parameter has the name of the wrapper
no-such-param : (d : Declarations) (ns : List (List ℕ)) (k : Known) → known d wrapper_name ≡ Some k → list_any (λ n. is_some (known d n)) ns ≡ false → is_among wrapper_name ns ≡ false
no-such-param d [] k e h = refl
no-such-param d (n ∷ ns) k e h = by (bytes_eq n wrapper_name) refl (no-such-param d ns k e (or-second (is_some (known d n)) _ h))
  where
    clash : (o : Option Known) → o ≡ Some k → is_some o ≡ false → ⊥
    clash None p q = cc
    clash (Some x) p q = cc

    by : (b : Bool) → bytes_eq n wrapper_name ≡ b → is_among wrapper_name ns ≡ false → b || is_among wrapper_name ns ≡ false
    by true f g = absurd (clash (known d n) (ap (known d) (same-name n wrapper_name f) ∙ e) (or-first (is_some (known d n)) _ h))
    by false f g = g

among-more : (n : List ℕ) (xs ys : List (List ℕ)) → is_among n (xs ++ ys) ≡ false → is_among n xs ≡ false
among-more n [] ys h = refl
among-more n (x ∷ xs) ys h = by (bytes_eq x n) h (among-more n xs ys)
  where
    by : (b : Bool) → b || is_among n (xs ++ ys) ≡ false → (is_among n (xs ++ ys) ≡ false → is_among n xs ≡ false) → b || is_among n xs ≡ false
    by true g r = absurd cc
    by false g r = r g

wrapper-free : (d : Declarations) (ps : Params) (k : Clause) (ks : List Clause) → TraitsStand d → fault_of d (impl_line ps k ks) ≡ None → is_among wrapper_name ps.types ≡ false
wrapper-free d ps k ks h f =
    let taken = or-first (is_taken_param d (impl_line ps k ks)) _ (or-second (declares_taken d (impl_line ps k ks)) _ (passes-tests d (impl_line ps k ks) f).has_free_names) in
    among-more wrapper_name ps.types ps.consts
    (no-such-param d (ps.types ++ ps.consts) (a_struct wrapper core (of_type ∷ [])) (wrapper-known d h)
    (or-second (repeats (ps.types ++ ps.consts)) _ (or-second (is_among static_name ps.lifetimes) _ (or-second (repeats ps.lifetimes) _ taken))))

-- the name of the header's trait
header-trait : (d : Declarations) (ps : Params) (k : Clause) (ks : List Clause) → fault_of d (impl_line ps k ks) ≡ None → NamesTrait d k.bound.trait (args_count k.bound.args)
header-trait d ps k ks f = trait-named d k.bound.trait (args_count k.bound.args) (faultless-uses d (impl_line ps k ks) f).0.1

-- ---- the lines of an impl
module _ (d : Declarations) (ps : Params) (subject : TypeTree) (b : Bound) (ks : List Clause) where
  abbrev pub head : Clause
  head = record { subject = subject; bound = b }

  abbrev pub companion_of : Binding → Clause
  companion_of v = record { subject = subject; bound = record { trait = companion_name b.trait v.name; args = and_value b.args v.value } }

  abbrev pub companion_lines : List Binding → List Line
  companion_lines vs = map (λ k. impl_line ps k ks) (map (λ (x : Bound). (let c : Clause = record { subject = subject; bound = x } in c)) (map (λ (v : Binding). (let x : Bound = record { trait = companion_name b.trait v.name; args = and_value b.args v.value } in x)) vs))

  -- what names mean in each of these lines
  abbrev means : Meanings
  means = item_meanings d (impl_line ps head ks) 0

  abbrev with_impls : List NamedImpl → Declarations
  with_impls is = record d { impls = is }

  abbrev impl_at : List NamedImpl → Clause → NamedImpl
  impl_at is k = impl_of (with_impls is) (item_meanings (with_impls is) (impl_line ps k ks) 0) ps k ks

  -- what is known of the impl behind which the others stand
  record IsBase (j : NamedImpl) : Type 0 where
    params : j.params ≡ sorted_names ps
    header : j.item.header ≡ clause_reference means head
    clauses : j.item.clauses ≡ map (clause_reference means) ks

  -- outside of sections
  module _ (outside : d.in_section ≡ false) (stand : TraitsStand d) (plain : has_colon b.trait ≡ false) (of : NamesTrait d b.trait (args_count b.args)) where
    added-behind : (is : List NamedImpl) (k : Clause) → added (with_impls is) (impl_line ps k ks) ≡ with_impls (is ++ impl_at is k ∷ [])
    added-behind is k =
        ap (λ (s : Bool). if s then record (with_impls is) { later_impls = d.later_impls ++ record { section = length d.sections - 1; added = impl_at is k } ∷ [] } else record (with_impls is) { impls = is ++ impl_at is k ∷ [] })
        outside

    still : (is : List NamedImpl) → TraitsStand (with_impls is)
    still is = record { numbers = stand.numbers; stand = stand.stand; no_crate = stand.no_crate; wrapped = stand.wrapped }

    module _ (is : List NamedImpl) (j : NamedImpl) (there : In j is) (base : IsBase j) (v : Binding) (f : fault_of (with_impls is) (impl_line ps (companion_of v) ks) ≡ None) where
      abbrev x : NamedImpl
      x = impl_at is (companion_of v)

      abbrev named_there : NamesTrait (with_impls is) (companion_name b.trait v.name) (args_count (and_value b.args v.value))
      named_there = header-trait (with_impls is) ps (companion_of v) ks f

      abbrev y : NamedTrait
      y = named_there.of

      y-in : In y d.traits × (bytes_eq y.text (companion_name b.trait v.name) ≡ true)
      y-in = found-in (λ (t : NamedTrait). bytes_eq t.text (companion_name b.trait v.name)) d.traits y named_there.found

      y-text : y.text ≡ companion_name b.trait v.name
      y-text = same-name y.text (companion_name b.trait v.name) y-in.1

      sorts-more : y.kinds ≡ of.of.kinds ++ of_type ∷ []
      sorts-more = by (stand.stand y y-in.0)
        where
          by : TraitStands d.traits y.text y.kinds → y.kinds ≡ of.of.kinds ++ of_type ∷ []
          by (inl p) = absurd (not-both (has_colon y.text) (ap has_colon y-text ∙ companion-has-colon b.trait v.name) p)
          by (inr c) =
              let same = names-split b.trait c.front v.name c.type plain c.plain (sym y-text ∙ c.named) in
              c.sorts ∙ ap (λ (t : NamedTrait). t.kinds ++ of_type ∷ []) (found-one (trait_found d.traits b.trait) c.of of.of (ap (trait_found d.traits) same.0 ∙ c.found) of.found)

      args-so : x.item.header.args ≡ j.item.header.args +++ tree (adt wrapper) (type_tree means [] of_type v.value) none
      args-so =
          let self = type_tree means [] of_type subject in
          let last = tree (adt wrapper) (type_tree means [] of_type v.value) none in
          ap (λ (r : Reference). r.args) (clause-same means is (companion_of v))
          ∙ ap (λ zs. self +++ args_trees means [] zs (and_value b.args v.value)) (named_there.sorts ∙ sorts-more)
          ∙ ap (λ z. self +++ z) (value-last means of.of.kinds b.args v.value of.many)
          ∙ ap (λ z. self +++ (args_trees means [] of.of.kinds b.args +++ z)) (in-wrapper means v.value (wrapper-known d stand) (wrapper-free (with_impls is) ps (companion_of v) ks (still is) f))
          ∙ sym (append-assoc self (args_trees means [] of.of.kinds b.args) last)
          ∙ ap (λ zs. (self +++ args_trees means [] zs b.args) +++ last) (sym of.sorts)
          ∙ ap (λ (r : Reference). r.args +++ last) (sym base.header)

      abbrev pair : Pair
      pair = record { base = j; own = x; value = type_tree means [] of_type v.value; front = b.trait; type = v.name; of = of.of }

      pair-stands : PairStands d.traits is pair
      pair-stands = record {
        base_there = there;
        found = of.found;
        plain = plain;
        base_trait = ap (λ (r : Reference). r.trait) base.header ∙ of.number;
        own_trait = (y, subst (λ n. slice_get d.traits n ≡ Some y) (sym named_there.number) (placed-in (λ (t : NamedTrait). t.item.name) d.traits y stand.numbers y-in.0), y-text);
        params = sym base.params;
        clauses = clauses-same means is ks ∙ sym base.clauses;
        args = args-so;
      }

    -- one companion
    companion-stands : (is : List NamedImpl) (j : NamedImpl) (there : In j is) (base : IsBase j) (v : Binding) (f : fault_of (with_impls is) (impl_line ps (companion_of v) ks) ≡ None) (ns : List (List ℕ))
        → is_among v.name ns ≡ false → (h : ImplsStand d.traits is) → AreFree h.pairs j (v.name ∷ ns) → (g : ImplsStand d.traits (is ++ impl_at is (companion_of v) ∷ [])) × AreFree g.pairs j ns
    companion-stands is j there base v f ns once h free = (now.0, λ a i. by a (in-append a h.pairs (c ∷ []) (subst (In a) now.1 i)))
      where
        c : Pair
        c = pair is j there base v f

        now : (g : ImplsStand d.traits (is ++ impl_at is (companion_of v) ∷ [])) × (g.pairs ≡ h.pairs ++ c ∷ [])
        now = pair-added d.traits is c h (ap (λ (s : Bool). if s then last_later (with_impls is) else length is) outside) (pair-stands is j there base v f)
            (λ a i e t. free a i e (or-left (bytes_eq v.name a.type) (is_among a.type ns) (ap (bytes_eq v.name) t ∙ (bytes_eq-Decides v.name v.name).1 refl)))

        by : (a : Pair) → In a h.pairs ⊎ In a (c ∷ []) → a.base.item.name ≡ j.item.name → is_among a.type ns ≡ true → ⊥
        by a (inl i) e m = free a i e (or-right (bytes_eq v.name a.type) (is_among a.type ns) m)
        by a (inr i) e m = last (in-cases a c [] i)
          where
            last : (c ≡ a) ⊎ In a [] → ⊥
            last (inl q) = not-both (is_among v.name ns) (ap (λ (z : Pair). is_among z.type ns) q ∙ m) once
            last (inr q) = in-nothing a q

    -- the companions, one after the other
    abbrev AllStand : List NamedImpl → List Binding → Type 0
    AllStand is vs = (js : List NamedImpl) × (fold added (with_impls is) (companion_lines vs) ≡ with_impls js) × ImplsStand d.traits js

    companions-stand : (vs : List Binding) (is : List NamedImpl) (j : NamedImpl) → In j is → IsBase j → first_of (with_impls is) (companion_lines vs) ≡ None → repeats (map (λ (v : Binding). v.name) vs) ≡ false
        → (h : ImplsStand d.traits is) → AreFree h.pairs j (map (λ (v : Binding). v.name) vs) → AllStand is vs
    companions-stand [] is j there base f r h free = (is, refl, h)
    companions-stand (v ∷ vs) is j there base f r h free =
        let both = first-apart (with_impls is) (impl_line ps (companion_of v) ks) (companion_lines vs) f in
        let x = impl_at is (companion_of v) in
        let behind : added (with_impls is) (impl_line ps (companion_of v) ks) ≡ with_impls (is ++ x ∷ []) = added-behind is (companion_of v) in
        let now = companion-stands is j there base v both.0 (map (λ (w : Binding). w.name) vs) (or-first (is_among v.name (map (λ (w : Binding). w.name) vs)) _ r) h free in
        let rest = companions-stand vs (is ++ x ∷ []) j (in-left j is (x ∷ []) there) base (subst (λ (e : Declarations). first_of e (companion_lines vs) ≡ None) behind both.1)
        (or-second (is_among v.name (map (λ (w : Binding). w.name) vs)) _ r) now.0 now.1 in
        (rest.0, ap (λ (e : Declarations). fold added e (companion_lines vs)) behind ∙ rest.1, rest.2)

  -- the impl of the trait, and its companions
  pub impl-stands : (vs : List Binding) → d.in_section ≡ false → has_colon b.trait ≡ false → first_of d (impl_line ps head ks ∷ companion_lines vs) ≡ None → repeats (map (λ (v : Binding). v.name) vs) ≡ false
      → TraitsStand d → ImplsStand d.traits d.impls → let e = fold added d (impl_line ps head ks ∷ companion_lines vs) in TraitsStand e × ImplsStand e.traits e.impls
  impl-stands vs outside plain f r t h =
      subst (λ (e : Declarations). TraitsStand e × ImplsStand e.traits e.impls) (sym (ap (λ (e : Declarations). fold added e (companion_lines vs)) behind ∙ all.1)) (still outside t plain of all.0, all.2)
    where
      j : NamedImpl
      j = impl_of d means ps head ks

      both : (fault_of d (impl_line ps head ks) ≡ None) × (first_of (added d (impl_line ps head ks)) (companion_lines vs) ≡ None)
      both = first-apart d (impl_line ps head ks) (companion_lines vs) f

      of : NamesTrait d b.trait (args_count b.args)
      of = header-trait d ps head ks both.0

      behind : added d (impl_line ps head ks) ≡ with_impls (d.impls ++ j ∷ [])
      behind =
          ap (λ (s : Bool). if s then record d { later_impls = d.later_impls ++ record { section = length d.sections - 1; added = j } ∷ [] } else record d { impls = d.impls ++ j ∷ [] }) outside

      number : j.item.name ≡ length d.impls
      number = ap (λ (s : Bool). if s then last_later d else length d.impls) outside

      own : HasPlainTrait d.traits j.item.header.trait
      own =
          let found = found-in (λ (s : NamedTrait). bytes_eq s.text b.trait) d.traits of.of of.found in (
            of.of,
            subst (λ n. slice_get d.traits n ≡ Some of.of) (sym of.number) (placed-in (λ (s : NamedTrait). s.item.name) d.traits of.of t.numbers found.0),
            ap has_colon (same-name of.of.text b.trait found.1) ∙ plain,
          )

      first : (g : ImplsStand d.traits (d.impls ++ j ∷ [])) × (g.pairs ≡ h.pairs)
      first = plain-impl d.traits d.impls j h number own

      all : AllStand outside t plain of (d.impls ++ j ∷ []) vs
      all =
          companions-stand outside t plain of vs (d.impls ++ j ∷ []) j (in-right j d.impls (j ∷ []) (here j [])) (record { params = refl; header = refl; clauses = refl })
          (subst (λ (e : Declarations). first_of e (companion_lines vs) ≡ None) behind both.1) r first.0
          (subst (λ cs. AreFree cs j (map (λ (v : Binding). v.name) vs)) (sym first.1) (none-yet d.traits d.impls h j number (map (λ (v : Binding). v.name) vs)))
