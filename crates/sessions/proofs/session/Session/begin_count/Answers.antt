use Rattle.std.proofs.Common.{◌∙◌, ap, length}
use Rattle.search_graph.specs.SearchState.{SearchState}
use Rattle.goal_frames.specs.Stores.{kept_inputs, kept_responses}
use Rattle.sessions.specs.Promised.Subjects.{Subject}
use Rattle.sessions.proofs.session.Session.begin_count.Goals as goal

pub invariant_of-self : goal.invariant_of-self
invariant_of-self c =
    let is = c.self.invariant.session in
    let same = c.count_from.ensures in
    record {
      session = record {
        text = is.text;
        declared = is.declared;
        view = is.view;
        solving = is.solving;
        rest = record {
          empty = ap (λ (s : SearchState). s.current_depth) same ∙ is.rest.empty;
          depth = ap (λ (s : SearchState). s.root_depth) same ∙ is.rest.depth;
          cached = is.rest.cached;
          ready = is.rest.ready;
        };
      };
      limits = c.self.invariant.limits;
    }

pub returns : goal.returns
returns c =
    let i = c.self.inside in
    let of_graph : SearchState → Subject = λ s. record {
      declarations = i.workspace.now;
      of_crate = i.crate_id.index;
      depth = i.limits.depth;
      handles = i.limits.handles;
      terms = i.search.cx.interner.entries;
      goals = length (kept_inputs i.search.cx.store);
      answers = length (kept_responses i.search.cx.store);
      frames = s.frames;
    } in
    ap of_graph c.count_from.ensures ∙ c.self.view_is
