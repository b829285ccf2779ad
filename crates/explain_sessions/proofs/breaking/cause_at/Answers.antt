use Rattle.std.proofs.Common.{◌-◌, ◌∙◌, ap, Some, get_or, map}
use Rattle.sessions.specs.Declarations.Held.{ImplHeld}
use Rattle.sessions.specs.Declarations.Items.{declared}
use Rattle.sessions.specs.Later.{header_in}
use Rattle.sessions.proofs.ProofChecker.Places.{each-at}
use Rattle.sessions.proofs.ProofChecker.Ways.{get-at, get-map}
use Rattle.explain_sessions.proofs.LaterImpls.{cause-there}
use Rattle.explain_sessions.proofs.breaking.cause_at.Goals as goal

pub cause_of-requires : goal.cause_of-requires
cause_of-requires c =
    let es = c.args.cx.now.entries in
    let impls = c.args.impls.now in
    let k = c.args.number - 1 in
    let def = c.index-impls-place.result in
    let cell = get_or impls k def in
    let at = get-at impls k def c.if-place-impls.true c.index-impls-place.is ∙ ap Some c.index-impls-place.is in
    (each-at (ImplHeld es) impls k cell c.requires at).header

pub returns-then-place-impls : goal.returns-then-place-impls
returns-then-place-impls c =
    let es = c.args.cx.now.entries in
    let impls = c.args.impls.now in
    let k = c.args.number - 1 in
    let def = c.index-impls-place.result in
    let cell = get_or impls k def in
    let at = get-at impls k def c.if-place-impls.true c.index-impls-place.is ∙ ap Some c.index-impls-place.is in
    let d = c.args.declarations.now in
    cause-there (declared es d) d.local (map (header_in es) impls) c.args.number (header_in es cell) c.cause_of.result (get-map (header_in es) impls k cell at) c.cause_of.ensures
