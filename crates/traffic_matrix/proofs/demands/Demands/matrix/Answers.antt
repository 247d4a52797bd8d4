use Rattle.std.proofs.Common.{◌≡◌, ℕ, ◌∙◌, Option, get_or, unwrap_or, ap, sym}
use Rattle.std.proofs.lemmas.List.{map_more}
use Rattle.te_model.specs.Pairs.{no_pair}
use Rattle.traffic_matrix.specs.Series.{demand_in}
use Rattle.traffic_matrix.proofs.demands.Demands.matrix.Goals as goal

pub loop-pair-preserved : goal.loop-pair-preserved
loop-pair-preserved c = λ entries s.
    let pairs = c.args.pairs.now in
    let step = c.args.step in
    let i = c.loop-pair.pair-index in
    let pair = get_or pairs i no_pair in
    let is : c.unwrap_or.result ≡ unwrap_or (demand_in entries step pair) 0 =
    c.unwrap_or.ensures ∙ ap (λ (o : Option ℕ). unwrap_or o 0) (c.demand.ensures ∙ s.demands pair (c.requires i no_pair c.loop-pair-test.true)) in
    c.in_ok-push.ensures.items ∙ rw (c.loop-pair.invariant entries s, is) (sym (map_more (λ p. unwrap_or (demand_in entries step p) 0) pairs i no_pair c.loop-pair-test.true))
