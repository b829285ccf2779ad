-- A struct whose fields were lowered.
use Rattle.std.proofs.Common.{◌≡◌, ℕ, Bool, List, map, Result, Ok, Err, IfOk, ap, ◌∙◌, Vec, Global}
use Rattle.type_terms.specs.Promised.Trees.{Trees}
use Rattle.type_terms.specs.Promised.Worlds.{StructDecl}
use Rattle.type_terms.specs.Promised.Handles.{Entry, trees_at}
use Rattle.type_terms.specs.declared.AdtId.{AdtId}
use Rattle.type_terms.specs.declared.CrateId.{CrateId}
use Rattle.type_terms.specs.declared.Fault.{Fault}
use Rattle.type_terms.specs.declared.kinds.Ty.{Ty}
use Rattle.declarations.specs.declared.items.AdtDef.{AdtDef}
use Rattle.declarations.specs.Items.{struct_in}

abbrev struct : ℕ → ℕ → Bool → List Trees → StructDecl
struct n h f ts = record { name = n; home = h; is_fundamental = f; fields = ts }

pub struct-lowered : (es : List Entry) (id : AdtId) (r : Result AdtDef Fault) (home : CrateId) (f : Bool) (fields : Vec Ty Global) (ts : List Trees) → IfOk r (λ def. def.home ≡ home) → IfOk r (λ def. def.is_fundamental ≡ f)
    → IfOk r (λ def. def.fields ≡ fields) → map (λ t. trees_at es t.0) fields.items ≡ ts → IfOk r (λ def. struct_in es (id, def) ≡ struct id.index home.index f ts)
struct-lowered es id (Err e) home f fields ts h g k is = h
struct-lowered es id (Ok def) home f fields ts h g k is =
    ap (λ o. struct id.index o.index def.is_fundamental (map (λ t. trees_at es t.0) def.fields.items)) h ∙ ap (λ b. struct id.index home.index b (map (λ t. trees_at es t.0) def.fields.items)) g
    ∙ ap (struct id.index home.index f) (ap (λ v. map (λ t. trees_at es t.0) v.items) k ∙ is)
