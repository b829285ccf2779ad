use Rattle.std.proofs.Common.{ap, ◌∙◌, not, ◌||◌}
use Rattle.type_terms.specs.Promised.Handles.{types, trees_at}
use Rattle.type_terms.specs.Kept.{trees-is}
use Rattle.declarations.specs.Apart.{may_meet}
use Rattle.declarations.proofs.Meeting.{type-node, below, top_has_parts}
use Rattle.declarations.proofs.MeetingKinds.{no-parts, parts-tell, refs-tell, dyns-tell}
use Rattle.declarations.proofs.apart.parts_of.Goals as goal

pub returns-in-Ref-kind-clause-tell : goal.returns-in-Ref-kind-clause-tell
returns-in-Ref-kind-clause-tell c =
    let es = c.args.cx.now.entries in
    let x = trees_at es c.args.left.0 in
    let y = trees_at es c.args.right.0 in
    refs-tell es x y (type-node es c.lawful.ensures c.args.left.0 c.requires.left) (type-node es c.lawful.ensures c.args.right.0 c.requires.right) c.requires.heads c.requires.head
    c.in-Ref.field-0 c.in-Ref-kind.field-0 c.in-Ref.first c.in-Ref-kind.second c.in-Ref.field-2 c.in-Ref-kind.field-2
    (trees-is es types c.args.left.0 _ c.in-Ref.ensures.is) (trees-is es types c.args.right.0 _ c.in-Ref-kind.ensures.is)

pub returns-in-Dynamic-kind-clause-tell : goal.returns-in-Dynamic-kind-clause-tell
returns-in-Dynamic-kind-clause-tell c =
    let es = c.args.cx.now.entries in
    let x = trees_at es c.args.left.0 in
    let y = trees_at es c.args.right.0 in
    dyns-tell es x y (type-node es c.lawful.ensures c.args.left.0 c.requires.left) (type-node es c.lawful.ensures c.args.right.0 c.requires.right) c.requires.heads c.requires.head
    c.in-Dynamic.first c.in-Dynamic-kind.second c.in-Dynamic.field-1 c.in-Dynamic-kind.field-1
    (trees-is es types c.args.left.0 _ c.in-Dynamic.ensures.is) (trees-is es types c.args.right.0 _ c.in-Dynamic-kind.ensures.is)

pub returns-in_default : goal.returns-in_default
returns-in_default c =
    let es = c.args.cx.now.entries in
    let x = trees_at es c.args.left.0 in
    let y = trees_at es c.args.right.0 in
    let none = no-parts es c.kind.result c.in_default.not-Adt c.in_default.not-Ref c.in_default.not-RawPtr c.in_default.not-Slice c.in_default.not-Array c.in_default.not-Tuple c.in_default.not-FnPtr
    c.in_default.not-Dynamic in
    record {
      held = tt;
      tell = λ n. parts-tell es x y (type-node es c.lawful.ensures c.args.left.0 c.requires.left) (type-node es c.lawful.ensures c.args.right.0 c.requires.right) c.requires.heads c.requires.head n
          ∙ ap (λ z. not z || may_meet n (below x) (below y)) (ap top_has_parts (trees-is es types c.args.left.0 _ c.kind.ensures.is) ∙ none);
    }
