-- What a crate sees of a text, without binders: up to lifetimes it is what rules are read from, no lifetime parameter stands in fields, and
-- each impl begins with a parameter or a rigid type.
use Rattle.std.proofs.Common.{◌≡◌, ◌⊎◌, ℕ, zero, suc, Bool, true, false, List, [], ◌∷◌, Some, Ok, inl, inr, refl, sym, ap, ◌∙◌, subst}
use Rattle.std.specs.Prelude.{filter, slice_get}
use Rattle.type_terms.specs.Promised.Trees.{Trees, none, tree, erase, some_node}
use Rattle.type_terms.specs.Promised.Erased.{erased_reference, erased_struct, erased_trait, erased_impl, erased_world}
use Rattle.type_terms.specs.Promised.Worlds.{World, Reference, StructDecl, TraitDecl, ImplDecl, sees}
use Rattle.type_terms.specs.Promised.Proofs.{In}
use Rattle.type_terms.proofs.Members.{in-cases, in-nothing, in-filter}
use Rattle.type_terms.proofs.TermRules.{erased-views}
use Rattle.type_terms.specs.Promised.Handles.{Entry}
use Rattle.declarations.specs.Heads.{begins_declared}
use Rattle.declarations.specs.Items.{Items, written}
use Rattle.text_language.specs.Promised.Declarations as text
use Rattle.text_language.specs.Promised.Declarations.{NamedImpl, world_of}
use Rattle.text_language.specs.Text.{TextGives}
use Rattle.candidate_model.specs.Declared.{is_lifetime_parameter}
use Rattle.candidate_model.specs.Meaning.{SelfTypesBegin}
use Rattle.text_lowering.specs.Promised.SeenWorlds.{plain, plain_reference, plain_struct, plain_trait, plain_impl, plain_world, plainly_seen_from, all_kept, none_kept, stands_in}
use Rattle.text_lowering.specs.Promised.SeenWorlds.{seen_from}
use Rattle.text_lowering.specs.Seen.{rules_seen_from}
use Rattle.text_lowering.proofs.Begins.{texts-begin}
use Rattle.text_lowering.proofs.SeenViews.{none-left}
use Rattle.sessions.proofs.FormedViews.{map-in}
use Rattle.sessions.proofs.WithoutLifetimes.{FieldsAreErased}
use Rattle.type_terms.proofs.TermBasics.{three as node}
use Rattle.text_lowering.proofs.Plainly.{begins-plain, struct-erased, trait-erased}
use Rattle.text_lowering.proofs.Basics.{label-erased}
pub use Rattle.text_lowering.proofs.Plainly.{map-again, reference-erased}

-- ---- up to lifetimes nothing changes
pub plain-erased : (k : ℕ → Bool) (t : Trees) → erase (plain k t) ≡ erase t
plain-erased k none = refl
plain-erased k (tree l c o) = node (label-erased k l) (plain-erased k c) (plain-erased k o)

impl-erased : (x : ImplDecl) → erased_impl (plain_impl x) ≡ erased_impl x
impl-erased x = join _ _ _ _ (reference-erased all_kept x.header) (map-again (plain_reference (stands_in x.header.args)) erased_reference (reference-erased (stands_in x.header.args)) x.clauses)
  where
    join : (r q : Reference) (ks js : List Reference) → r ≡ q → ks ≡ js
        → (let y : ImplDecl = record { name = x.name; home = x.home; params = x.params; header = r; clauses = ks } in y) ≡ record { name = x.name; home = x.home; params = x.params; header = q; clauses = js }
    join r q ks js e f = cc

world-erased : (W : World) → erased_world (plain_world W) ≡ erased_world W
world-erased W = join _ _ _ _ _ _ (map-again plain_struct erased_struct struct-erased W.structs) (map-again plain_trait erased_trait trait-erased W.traits) (map-again plain_impl erased_impl impl-erased W.impls)
  where
    join : (ss rs : List StructDecl) (ts us : List TraitDecl) (is js : List ImplDecl) → ss ≡ rs → ts ≡ us → is ≡ js
        → (let V : World = record { crates = W.crates; structs = ss; traits = ts; impls = is } in V) ≡ record { crates = W.crates; structs = rs; traits = us; impls = js }
    join ss rs ts us is js p q r = cc

pub rules-are : (es : List Entry) (items : Items) (d : text.Declarations) (c : ℕ) → written es items ≡ plainly_seen_from d c → erased_world (written es items) ≡ rules_seen_from d c
rules-are es items d c e = ap erased_world e ∙ world-erased (seen_from d c) ∙ ap (λ (V : World). record V { crates = [] }) (sym (erased-views (world_of d) c))

-- ---- fields
pub seen-erased : (d : text.Declarations) (c : ℕ) → FieldsAreErased (plainly_seen_from d c)
seen-erased d c x f i j =
    let a = map-in plain_struct (filter (λ (y : StructDecl). sees (world_of d) c y.home) (world_of d).structs) x i in
    let b = map-in (plain none_kept) a.0.fields f (subst (λ (y : StructDecl). In f y.fields) a.2 j) in
    subst (λ t. some_node is_lifetime_parameter t ≡ false) (sym b.2) (none-left b.0)

-- ---- how impls begin
-- what holds of each at its place holds of all that are there
placed : {A : Type 0} (P : A → Type 0) (xs : List A) → ((k : ℕ) (x : A) → slice_get xs k ≡ Some x → P x) → (x : A) → In x xs → P x
placed P [] f x i = absurd (in-nothing x i)
placed P (y ∷ xs) f x i = by (in-cases x y xs i) (placed P xs (λ k z e. f (suc k) z e) x)
  where
    by : (y ≡ x) ⊎ In x xs → (In x xs → P x) → P x
    by (inl e) g = subst P e (f zero y refl)
    by (inr j) g = g j

pub seen-begin : (bytes : List ℕ) (d : text.Declarations) → TextGives bytes (Ok d) → (c : ℕ) → SelfTypesBegin (plainly_seen_from d c)
seen-begin bytes d h c i stands =
    let a = map-in plain_impl (filter (λ (x : ImplDecl). sees (world_of d) c x.home) (world_of d).impls) i stands in
    let b = in-filter (λ (x : ImplDecl). sees (world_of d) c x.home) (world_of d).impls a.0 a.1 in
    let n = map-in (λ (x : NamedImpl). x.item) d.impls a.0 b.0 in
    subst (λ (z : ImplDecl). begins_declared z.header.args ≡ true) (sym a.2)
    (begins-plain all_kept a.0.header.args
    ∙ subst (λ (z : ImplDecl). begins_declared z.header.args ≡ true) (sym n.2) (placed (λ (x : NamedImpl). begins_declared x.item.header.args ≡ true) d.impls (λ k x e. texts-begin bytes d h k x e) n.0 n.1))
