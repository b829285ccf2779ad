-- Declarations that a crate sees of a text are ready for the solver.
use Rattle.std.proofs.Common.{◌≡◌, true, List, [], ◌∷◌, map, refl, ap, ◌∙◌}
use Rattle.type_terms.specs.Promised.Handles.{Entry, trees_at}
use Rattle.declarations.specs.declared.items.GenericParamKind.{GenericParamKind}
use Rattle.declarations.specs.declared.items.GenericParamKind.TheVariants.{Lifetime, «Type» as TypeParam, Const}
use Rattle.declarations.specs.Applied.{sort_of_param}
use Rattle.declarations.specs.Items.{HeldImpl, written}
use Rattle.candidate_model.specs.Candidates.{kinds_of_params}
use Rattle.candidate_model.specs.DeclaredWell.{is_declared_well}
use Rattle.candidate_model.proofs.DeclaredWell.{tests-tell}
use Rattle.candidate_assembly.specs.Headers.{var_kind, StandInHeader}
use Rattle.candidate_assembly.proofs.WellDeclared.{well-declared-have-candidates}
use Rattle.declarations.specs.Applied.{HaveBounds}
use Rattle.text_lowering.specs.TextLaws.{TextsAreDeclaredWell}
use Rattle.text_lowering.specs.Ready.{OfTexts, FieldsSpeak, HeadersTell, kind_of_sort, TellsKinds}
use Rattle.sessions.specs.Readying.{AreReady}
use Rattle.declarations.proofs.Growth.{each-kept as each-map}
use Rattle.declarations.proofs.TypeBasics.{as-long}

one-kind : (p : GenericParamKind) → var_kind p ≡ kind_of_sort (sort_of_param p)
one-kind Lifetime = refl
one-kind TypeParam = refl
one-kind Const = refl

all-kinds : (ps : List GenericParamKind) → map var_kind ps ≡ map kind_of_sort (map sort_of_param ps)
all-kinds [] = refl
all-kinds (p ∷ ps) = ap (λ k. k ∷ map var_kind ps) (one-kind p) ∙ ap (λ ks. kind_of_sort (sort_of_param p) ∷ ks) (all-kinds ps)

stands : (es : List Entry) (i : HeldImpl) → TellsKinds es i → StandInHeader es i.def
stands es i h = all-kinds i.def.params.items ∙ h ∙ ap (kinds_of_params (trees_at es i.def.header.args.0) 0) (as-long i.def.params.items)

pub texts-ready : TextsAreDeclaredWell → OfTexts FieldsSpeak → OfTexts HeadersTell → OfTexts HaveBounds → OfTexts AreReady
texts-ready all-well fields headers bounds bytes d h c es decls seen held =
    let well : is_declared_well (written es decls) ≡ true = ap is_declared_well seen.written ∙ all-well bytes d h c in
    record {
      held = held;
      well = well;
      impls = well-declared-have-candidates es decls held (tests-tell (written es decls) well) (each-map (TellsKinds es) (λ (i : HeldImpl). StandInHeader es i.def) (stands es) decls.impls (headers bytes d h c es decls seen));
      fields = fields bytes d h c es decls seen;
      bounds = bounds bytes d h c es decls seen;
    }
