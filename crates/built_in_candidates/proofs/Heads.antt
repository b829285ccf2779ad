-- Rules that read the first of the arguments alone.
use Rattle.std.proofs.Common.{◌≡◌, ℕ, zero, List, refl, sym, ap, subst, ◌∙◌}
use Rattle.type_terms.specs.Promised.Label.{Label, of_type, of_const, of_lifetime, bool, array, slice, ref, raw_pointer, fn_ptr, adt, principal, param, placeholder, infer, canonical, bound}
use Rattle.type_terms.specs.Promised.Trees.{Trees, none, tree, nth, sort_of, erase_label}
use Rattle.type_terms.specs.Promised.Worlds.{World}
use Rattle.type_terms.specs.Promised.Rules.{Rule, sized_rules, copy_rules, auto_rules_plain, tuple_rules, fn_ptr_rules}
use Rattle.term_folds.specs.Signatures.{StartsWithType}
use Rattle.declarations.specs.Items.{Items}
use Rattle.candidate_model.specs.Asking.{with_plain_head}
use Rattle.structural_traits.specs.Constituents.{StructIsApplied}

-- without lifetimes the head of a type is the same, but that of a `fn` pointer and of a principal, which have numbers of them
abbrev IsPlain : (Trees → List Rule) → Type 0
IsPlain f = ((n : ℕ) (c : Trees) → f (tree (fn_ptr n) c none) ≡ f (tree (fn_ptr zero) c none)) × ((n t : ℕ) (c : Trees) → f (tree (principal n t) c none) ≡ f (tree (principal zero t) c none))

plain : (f : Trees → List Rule) → IsPlain f → (l : Label) (c : Trees) → sort_of l ≡ of_type → f (tree l c none) ≡ f (tree (erase_label l) c none)
plain f p (fn_ptr n) c e = p.0 n c
plain f p (principal n t) c e = p.1 n t c
plain f p (param of_type i) c e = refl
plain f p (param of_const i) c e = absurd cc
plain f p (param of_lifetime i) c e = absurd cc
plain f p (placeholder of_type i) c e = refl
plain f p (placeholder of_const i) c e = absurd cc
plain f p (placeholder of_lifetime i) c e = absurd cc
plain f p (infer of_type i) c e = refl
plain f p (infer of_const i) c e = absurd cc
plain f p (infer of_lifetime i) c e = absurd cc
plain f p (canonical of_type i) c e = refl
plain f p (canonical of_const i) c e = absurd cc
plain f p (canonical of_lifetime i) c e = absurd cc
plain f p (bound of_type k i) c e = refl
plain f p (bound of_const k i) c e = absurd cc
plain f p (bound of_lifetime k i) c e = absurd cc
plain f p l c e = refl

sized-alone : (V : World) (l : Label) (c o : Trees) → sized_rules V (tree l c none) ≡ sized_rules V (tree l c o)
sized-alone V bool c o = refl
sized-alone V l c o = refl

copy-alone : (t : ℕ) (l : Label) (c o : Trees) → copy_rules t (tree l c none) ≡ copy_rules t (tree l c o)
copy-alone t bool c o = refl
copy-alone t l c o = refl

tuple-alone : (l : Label) (c o : Trees) → tuple_rules (tree l c none) ≡ tuple_rules (tree l c o)
tuple-alone bool c o = refl
tuple-alone l c o = refl

fn-ptr-alone : (l : Label) (c o : Trees) → fn_ptr_rules (tree l c none) ≡ fn_ptr_rules (tree l c o)
fn-ptr-alone bool c o = refl
fn-ptr-alone l c o = refl

auto-alone : (V : World) (t : ℕ) (l : Label) (c o : Trees) → auto_rules_plain V t (tree l c none) ≡ auto_rules_plain V t (tree l c o)
auto-alone V t (raw_pointer b) none o = refl
auto-alone V t (raw_pointer b) (tree m d p) o = refl
auto-alone V t array none o = refl
auto-alone V t array (tree m d p) o = refl
auto-alone V t slice none o = refl
auto-alone V t slice (tree m d p) o = refl
auto-alone V t (ref b) none o = refl
auto-alone V t (ref b) (tree m d none) o = refl
auto-alone V t (ref b) (tree m d (tree k e p)) o = refl
auto-alone V t l c o = refl

first-alone : (f : Trees → List Rule) → IsPlain f → ((l : Label) (c o : Trees) → f (tree l c none) ≡ f (tree l c o))
    → (T S : Trees) → StartsWithType T → S ≡ nth T 0 → f S ≡ f (with_plain_head T)
first-alone f p h none S s e = absurd s
first-alone f p h (tree l c o) S s e = ap f e ∙ plain f p l c s ∙ h (erase_label l) c o

module _ (T S : Trees) (s : StartsWithType T) (e : S ≡ nth T 0) where
  pub sized-first : (V : World) → sized_rules V S ≡ sized_rules V (with_plain_head T)
  sized-first V = first-alone (sized_rules V) ((λ n c. refl), (λ n t c. refl)) (sized-alone V) T S s e

  pub copy-first : (t : ℕ) → copy_rules t S ≡ copy_rules t (with_plain_head T)
  copy-first t = first-alone (copy_rules t) ((λ n c. refl), (λ n t c. refl)) (copy-alone t) T S s e

  pub tuple-first : tuple_rules S ≡ tuple_rules (with_plain_head T)
  tuple-first = first-alone tuple_rules ((λ n c. refl), (λ n t c. refl)) tuple-alone T S s e

  pub fn-ptr-first : fn_ptr_rules S ≡ fn_ptr_rules (with_plain_head T)
  fn-ptr-first = first-alone fn_ptr_rules ((λ n c. refl), (λ n t c. refl)) fn-ptr-alone T S s e

  pub auto-first : (V : World) (t : ℕ) → auto_rules_plain V t S ≡ auto_rules_plain V t (with_plain_head T)
  auto-first V t = first-alone (auto_rules_plain V t) ((λ n c. refl), (λ n t c. refl)) (auto-alone V t) T S s e

applied-alone : (d : Items) (l : Label) (c o : Trees) → StructIsApplied d (tree l c o) → StructIsApplied d (tree l c none)
applied-alone d (adt s) c o h = h
applied-alone d l c o h = tt

pub applied-first : (d : Items) (T S : Trees) → StartsWithType T → S ≡ nth T 0 → StructIsApplied d T → StructIsApplied d S
applied-first d none S s e h = absurd s
applied-first d (tree l c o) S s e h = subst (StructIsApplied d) (sym e) (applied-alone d l c o h)
