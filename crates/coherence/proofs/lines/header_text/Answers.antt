use Rattle.std.proofs.Common.{◌≡◌, ◌++◌, List, [], ℕ, length, refl, sym, ap, ◌∙◌, arith}
use Rattle.std.proofs.lemmas.List.{length-map}
use Rattle.std.proofs.lemmas.Option.{slice_get_read}
use Rattle.std.specs.List.{slice_get}
use Rattle.std.specs.Option.{option_map_or}
use Rattle.sessions.specs.TypeTerms.Promised.Label.{Sort}
use Rattle.sessions.specs.TextLanguage.Promised.Declarations.{NamedImpl}
use Rattle.sessions.specs.TextLanguage.Names.{header_names}
use Rattle.sessions.specs.TextLanguage.Output.{type_text}
use Rattle.sessions.specs.TypeTerms.Promised.Handles.{trees_at}
use Rattle.sessions.specs.TextTables.declared.declared.ImplEntry.{ImplEntry}
use Rattle.sessions.specs.TextTables.Views.{impl_of, sorted_params}
use Rattle.coherence.proofs.ErasedTexts.{text-same}
use Rattle.coherence.proofs.Places.{entry-of}
use Rattle.coherence.proofs.lines.header_text.Goals as goal

pub returns : goal.returns
returns c =
    let d = c.args.workspace.now in
    let impls = c.impls.result.now in
    let entry = c.index-impls-id.result in
    let t = trees_at c.args.cx.now.entries c.args.ty.0 in
    let many : length impls ≡ length d.impls = sym (length-map impls impl_of) ∙ ap length c.impls.ensures.items in
    let at = slice_get_read impls (length impls) c.args.id.index entry refl (omega (arith, c.requires.number)) c.index-impls-id.is in
    let there = entry-of impl_of impls d.impls c.impls.ensures.items c.args.id.index entry at in
    let params : sorted_params c.deref.result.now ≡ option_map_or (λ (i : NamedImpl). i.params) (slice_get d.impls c.args.id.index) [] = ap sorted_params c.deref.ensures.value ∙ ap (λ (e : ImplEntry). sorted_params e.params.items) (sym c.index-impls-id.is) ∙ sym (ap (λ o. option_map_or (λ (i : NamedImpl). i.params) o []) there) in
    c.in_ok-print_type.ensures ∙ ap (λ (old : List ℕ). old ++ type_text (header_names d (sorted_params c.deref.result.now)) t) c.new-text.ensures.items
    ∙ ap (λ (ps : List (List ℕ × Sort)). type_text (header_names d ps) t) params ∙ sym (text-same _ t)
