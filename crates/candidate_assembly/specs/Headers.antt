-- Impls whose parameters can become variables of a candidate.
use Rattle.std.specs.Prelude.{◌≡◌, ◌==◌, ◌&&◌, ℕ, List, length, map, filter, Option}
use Rattle.type_terms.specs.Promised.Worlds.{ImplDecl}
use Rattle.type_terms.specs.Promised.Handles.{Entry, trees_at}
use Rattle.type_terms.specs.declared.ImplId.{ImplId}
use Rattle.infer_table.specs.declared.canonical.CanonicalVarKind.{CanonicalVarKind}
use Rattle.infer_table.specs.declared.canonical.CanonicalVarKind.TheVariants.{Ty, Const as ConstVar, Region}
use Rattle.declarations.specs.declared.items.GenericParamKind.{GenericParamKind}
use Rattle.declarations.specs.declared.items.GenericParamKind.TheVariants.{Lifetime, «Type» as TypeParam, Const}
use Rattle.declarations.specs.declared.items.ImplDef.{ImplDef}
use Rattle.term_folds.specs.declared.predicate.TraitRef.{TraitRef}
use Rattle.declarations.specs.Applied.{sort_of_param, SpeaksOf}
use Rattle.declarations.specs.Held.{AreHeld}
use Rattle.declarations.specs.Items.{Items, written}
use Rattle.declarations.specs.Promised.Elaboration.{Each}
use Rattle.declarations.specs.Relevant.{is_above}
use Rattle.candidate_model.specs.Asking.{GoalOverKinds, with_plain_head}
use Rattle.candidate_model.specs.Candidates.{can_match, kinds_of_params}
use Rattle.candidate_model.specs.DeclaredWell.{IsDeclaredWell}

-- The kind of the variable for a parameter.
abbrev pub var_kind : GenericParamKind → CanonicalVarKind
var_kind Lifetime = Region
var_kind TypeParam = Ty
var_kind Const = ConstVar

-- Each parameter that is a type or a constant occurs in the header, so the header determines its kind. `impl<T> Show for u8` is refused.
abbrev pub StandInHeader : List Entry → ImplDef → Type 0
StandInHeader es def = map var_kind def.params.items ≡ kinds_of_params (trees_at es def.header.args.0) 0 (length def.params.items)

-- The header and the where-clauses hold the impl's own parameters alone.
pub record SpeaksOfParameters (es : List Entry) (def : ImplDef) : Type 0 where
  pub header : SpeaksOf (map sort_of_param def.params.items) (trees_at es def.header.args.0)
  pub clauses : Each (λ (r : TraitRef). SpeaksOf (map sort_of_param def.params.items) (trees_at es r.args.0)) def.clauses.items

-- An impl that can be a candidate: its parameters can become variables, and its self type binds no lifetimes outermost.
pub record CanBeCandidate (es : List Entry) (def : ImplDef) : Type 0 where
  pub params : StandInHeader es def
  pub speaks : SpeaksOfParameters es def
  pub plain : with_plain_head (trees_at es def.header.args.0) ≡ trees_at es def.header.args.0

-- Each impl can be a candidate.
abbrev pub HaveCandidates : List Entry → Items → Type 0
HaveCandidates es d = Each (λ i. CanBeCandidate es i.def) d.impls

-- Each impl of declarations that are declared well can be a candidate, if each of its type and constant parameters occurs in its header.
abbrev pub WellDeclaredHaveCandidates : Type 0
WellDeclaredHaveCandidates =
    (es : List Entry) (d : Items) → AreHeld es d → IsDeclaredWell (written es d) → Each (λ i. StandInHeader es i.def) d.impls → HaveCandidates es d

-- The impls above the last one considered, or all if none was.
abbrev pub impls_above : Option ImplId → List ImplDecl → List ImplDecl
impls_above last is = filter (λ i. is_above last i.name) is

-- The numbers of the impls that can match.
abbrev pub matching_in : List Entry → Items → GoalOverKinds → List ℕ
matching_in es d a = map (λ (i : ImplDecl). i.name) (filter (λ (i : ImplDecl). (i.header.trait == a.reference.trait) && can_match a.reference.args i.header.args) (written es d).impls)
