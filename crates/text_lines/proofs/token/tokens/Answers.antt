use Rattle.std.proofs.Common.{◌≡◌, ◌∷◌, [], ◌++◌, ap, sym, ◌∙◌, arith}
use Rattle.std.proofs.lemmas.List.{map_push, nil_from_length}
use Rattle.text_lines.specs.TokenViews.{token_of, tokens_in}
use Rattle.text_lines.proofs.TokenReading.{after, ends, space_goes, token_goes, token_stops}
use Rattle.text_lines.proofs.token.tokens.Goals as goal

pub loop-rest-preserved-then-first-eq32 : goal.loop-rest-preserved-then-first-eq32
loop-rest-preserved-then-first-eq32 c = ap (after (tokens_in c.loop-rest.found.items)) (space_goes c.loop-rest.rest.now c.in-len1-up.len_at_least c.if-first-eq32.true) ∙ c.loop-rest.invariant

pub returns-in-None : goal.returns-in-None
returns-in-None c = token_stops (tokens_in c.loop-rest.found.items) c.loop-rest.rest.now _ c.in-len1-up.len_at_least c.if-first-eq32.false (sym c.in-None.ensures) c.loop-rest.invariant

pub loop-rest-smaller : goal.loop-rest-smaller
loop-rest-smaller c = (token_goes (tokens_in c.loop-rest.found.items) c.loop-rest.rest.now (token_of c.in-Some.token) c.in-Some.after.now _ c.in-len1-up.len_at_least c.if-first-eq32.false (sym c.in-Some.ensures) c.loop-rest.invariant).1

pub loop-rest-preserved : goal.loop-rest-preserved
loop-rest-preserved c =
    let e : tokens_in c.push.new.self.items ≡ tokens_in c.loop-rest.found.items ++ token_of c.in-Some.token ∷ [] = rw c.in_ok-push-in-Some.ensures.items (map_push token_of c.loop-rest.found.items c.in-Some.token) in
    rw e (token_goes (tokens_in c.loop-rest.found.items) c.loop-rest.rest.now (token_of c.in-Some.token) c.in-Some.after.now _ c.in-len1-up.len_at_least c.if-first-eq32.false (sym c.in-Some.ensures) c.loop-rest.invariant).0

pub returns : goal.returns
returns c = ends (tokens_in c.loop-rest.found.items) _ (rw (nil_from_length c.loop-rest.rest.now (omega (arith, c.in_default.len_below))) at c.loop-rest.invariant)
