use Rattle.std.proofs.Common.{◌≡◌, ℕ, List, ◌∷◌, ◌++◌, [], map, ap, sym, ◌∙◌, subst, Ok, Err, arith}
use Rattle.std.specs.Prelude.{Result, IfErr, OnErr}
use Rattle.type_terms.specs.Promised.Trees.{◌+++◌}
use Rattle.type_terms.proofs.TreeLaws.{append-none}
use Rattle.type_terms.specs.Promised.Handles.{Entry, Is, held, trees_at}
use Rattle.type_terms.specs.Terms.{args_lists}
use Rattle.type_terms.specs.Promised.Handles.{SomeKindIsFull}
use Rattle.type_terms.specs.declared.Fault.{Fault}
use Rattle.type_terms.specs.declared.Fault.TheVariants.{Full}
use Rattle.type_terms.proofs.FailFacts.{refused-term}
use Rattle.type_terms.specs.Promised.Handles.{ArgsHeld}
use Rattle.type_terms.specs.Kinds.{args_trees}
use Rattle.type_terms.specs.declared.kinds.GenericArgs.{GenericArgs}
use Rattle.type_terms.specs.Kept.{args-held-later, trees-is}
use Rattle.type_terms.proofs.Grown.{grew-on}
use Rattle.infer_table.specs.Kept.{ready-later}
use Rattle.declarations.specs.Applied.{sort_of_param}
use Rattle.overlap_check.specs.Fresh.{with_unknown, with_unknowns, fresh_unknowns}
use Rattle.overlap_check.proofs.Unknowns.{one-more-arg}
use Rattle.overlap_check.proofs.fresh.fresh_args_for_item.Goals as goal
use Rattle.type_terms.proofs.Items.{args-held-push}
use Rattle.type_terms.proofs.TypeBasics.{ok-after as if-ok}
use Rattle.type_terms.proofs.ListBasics.{nothing}

pub params-preserved : goal.params-preserved
params-preserved c =
    let now = c.params.cx.entries in
    let next = c.var_for_param.new.cx.entries in
    let inv = c.params.invariant in
    let k = c.var_for_param.ensures.terms.grew.keeps in
    let kind = c.in-Some.kind.now in
    let rest = c.in-Some.others.now in
    let t = c.params.table in
    let u = c.var_for_param.new.table in
    let ks = map sort_of_param rest in
    let a = c.in_ok-arg.arg in
    let xs = c.params.unknowns.items in
    let start = c.args.table.now in
    let all = map sort_of_param c.args.params.now in
    let back = c.in-Some.ensures.cases.0 in
    let made : u ≡ with_unknown t (sort_of_param kind) = c.in_ok-arg.ensures.made in
    let put = c.in_ok-push.ensures.items in
    record {
      ready = c.var_for_param.ensures.ready;
      grew = grew-on inv.grew c.var_for_param.ensures.terms.grew;
      held = subst (ArgsHeld next) (sym put) (args-held-push next xs a (args-held-later now next k xs inv.held) c.in_ok-arg.ensures.held);
      are = subst (λ l. args_trees next l +++ fresh_unknowns u ks ≡ fresh_unknowns start all) (sym put)
          (subst (λ w. args_trees next (xs ++ a ∷ []) +++ fresh_unknowns w ks ≡ fresh_unknowns start all) (sym made)
          (one-more-arg now next k xs a t (sort_of_param kind) ks (fresh_unknowns start all) inv.held c.in_ok-arg.ensures.is
          (subst (λ l. args_trees now xs +++ fresh_unknowns t (map sort_of_param l) ≡ fresh_unknowns start all) back inv.are)));
      made = ap (λ w. with_unknowns w ks) made ∙ subst (λ l. with_unknowns t (map sort_of_param l) ≡ with_unknowns start all) back inv.made;
    }

pub returns-clause-ready : goal.returns-clause-ready
returns-clause-ready c = ready-later c.params.cx.entries c.mk_args.new.self.entries c.params.table c.mk_args.ensures.grew.keeps c.params.invariant.ready

pub returns-clause-are : goal.returns-clause-are
returns-clause-are c =
    let now = c.params.cx.entries in
    let new = c.mk_args.new.self.entries in
    let xs = c.params.unknowns.items in
    let all = fresh_unknowns c.args.table.now (map sort_of_param c.args.params.now) in
    let done = subst (λ l. args_trees now xs +++ fresh_unknowns c.params.table (map sort_of_param l) ≡ all) (nothing c.params.left.now c.in_default.ensures.cases) c.params.invariant.are in
    if-ok (λ (a : GenericArgs). Is new args_lists a.0 (args_trees now xs)) (λ a. trees_at new a.0 ≡ all) c.mk_args.result
    (λ a h. trees-is new args_lists a.0 (args_trees now xs) h ∙ sym (append-none (args_trees now xs)) ∙ done) c.mk_args.ensures.is

args-at-limit : {A : Type 0} (r : Result A Fault) (old new : List Entry) {limit before : ℕ} → (r ≡ Err Full → held args_lists old ≡ before) → limit ≡ before → OnErr r (new ≡ old)
    → IfErr r (λ e. e ≡ Full → SomeKindIsFull new limit)
args-at-limit (Ok x) old new f l same = tt
args-at-limit (Err e) old new f l same = λ q. refused-term args_lists (omega arith) (f (ap Err q)) l same

pub returns-clause-terms : goal.returns-clause-terms
returns-clause-terms c = record {
  grew = grew-on c.params.invariant.grew c.mk_args.ensures.grew;
  full =
      args-at-limit c.mk_args.result c.params.cx.entries c.mk_args.new.self.entries c.mk_args.ensures.full c.mk_args.ensures.grew.limit c.mk_args.ensures.refused;
}
