-- The head of a type is the same without lifetimes.
use Rattle.std.proofs.Common.{◌≡◌, refl}
use Rattle.type_terms.specs.Promised.Label.{of_type, of_const, of_lifetime, fn_ptr, principal, param, placeholder, infer, canonical, bound}
use Rattle.type_terms.specs.Promised.Trees.{Trees, none, tree, erase}
use Rattle.declarations.specs.Heads.{head_of}

pub erased-head : (t : Trees) → head_of (erase t) ≡ head_of t
erased-head none = refl
erased-head (tree (fn_ptr n) c o) = refl
erased-head (tree (principal n i) c o) = refl
erased-head (tree (param of_type i) c o) = refl
erased-head (tree (param of_const i) c o) = refl
erased-head (tree (param of_lifetime i) c o) = refl
erased-head (tree (placeholder of_type i) c o) = refl
erased-head (tree (placeholder of_const i) c o) = refl
erased-head (tree (placeholder of_lifetime i) c o) = refl
erased-head (tree (infer of_type i) c o) = refl
erased-head (tree (infer of_const i) c o) = refl
erased-head (tree (infer of_lifetime i) c o) = refl
erased-head (tree (canonical of_type i) c o) = refl
erased-head (tree (canonical of_const i) c o) = refl
erased-head (tree (canonical of_lifetime i) c o) = refl
erased-head (tree (bound of_type k i) c o) = refl
erased-head (tree (bound of_const k i) c o) = refl
erased-head (tree (bound of_lifetime k i) c o) = refl
erased-head (tree l c o) = refl
