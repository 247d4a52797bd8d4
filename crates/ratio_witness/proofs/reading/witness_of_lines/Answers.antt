use Rattle.std.proofs.Common.{◌∙◌, ℕ, List, ap, slice_index}
use Rattle.std.proofs.lemmas.Result.{err_from_is_err_and}
use Rattle.ratio_witness.proofs.SpelledLines.{behind_demand, behind_scale, bound_fails, demand_fails, end_fails, rival_fails, scale_fails, witness_read}
use Rattle.ratio_witness.proofs.reading.witness_of_lines.Goals as goal

pub returns-in_err-bound : goal.returns-in_err-bound
returns-in_err-bound c = λ ls is.
    let p = err_from_is_err_and c.from_residual.result c.from_residual.ensures.1 in
    rw (p.1, p.2) (bound_fails c.args.pairs c.in_err-bound.field-0.0 c.args.lines.now c.number.new.self ls (c.in_err-bound.ensures ls is))

pub returns-in_err-scale : goal.returns-in_err-scale
returns-in_err-scale c = λ ls is.
    let p = err_from_is_err_and c.from_residual-in_err-scale.result c.from_residual-in_err-scale.ensures.1 in
    rw (p.1, p.2) (scale_fails c.args.pairs c.in_ok-bound.bound c.in_err-scale.field-0.0 c.args.lines.now c.number.new.self c.numbers.new.self ls
    (c.in_ok-bound.ensures ls is) c.in_err-scale.ensures.takes)

pub returns-in_err-demand : goal.returns-in_err-demand
returns-in_err-demand c = λ ls is.
    let p = err_from_is_err_and c.from_residual-in_err-demand.result c.from_residual-in_err-demand.ensures.1 in
    let b = behind_scale c.in_ok-bound.bound c.in_ok-scale.scale c.args.lines.now c.number.new.self c.numbers.new.self ls (c.in_ok-bound.ensures ls is) c.in_ok-scale.ensures.takes in
    rw (p.1, p.2) (demand_fails c.args.pairs c.in_ok-bound.bound c.in_ok-scale.scale c.in_err-demand.field-0.0 c.args.lines.now c.numbers.new.self c.numbers-2.new.self
    ls b.0 b.1 (c.in_err-demand.ensures.takes b.0 b.1.is))

pub returns-in_err-rival : goal.returns-in_err-rival
returns-in_err-rival c = λ ls is.
    let p = err_from_is_err_and c.from_residual-in_err-rival.result c.from_residual-in_err-rival.ensures.1 in
    let b = behind_scale c.in_ok-bound.bound c.in_ok-scale.scale c.args.lines.now c.number.new.self c.numbers.new.self ls (c.in_ok-bound.ensures ls is) c.in_ok-scale.ensures.takes in
    let d = behind_demand c.args.pairs c.in_ok-bound.bound c.in_ok-scale.scale c.in_ok-demand.demand c.args.lines.now c.numbers.new.self c.numbers-2.new.self ls b.0 b.1
    (c.in_ok-demand.ensures.takes b.0 b.1.is)
    in
    rw (p.1, p.2) (rival_fails c.args.pairs c.in_ok-bound.bound c.in_ok-scale.scale c.in_ok-demand.demand c.in_err-rival.field-0.0 c.args.lines.now c.numbers-2.new.self
    c.rival.new.lines ls d.0 d.1 (c.in_err-rival.ensures d.0 d.1.is))

pub returns-in_err-end : goal.returns-in_err-end
returns-in_err-end c = λ ls is.
    let p = err_from_is_err_and c.from_residual-in_err-end.result c.from_residual-in_err-end.ensures.1 in
    let b = behind_scale c.in_ok-bound.bound c.in_ok-scale.scale c.args.lines.now c.number.new.self c.numbers.new.self ls (c.in_ok-bound.ensures ls is) c.in_ok-scale.ensures.takes in
    let d = behind_demand c.args.pairs c.in_ok-bound.bound c.in_ok-scale.scale c.in_ok-demand.demand c.args.lines.now c.numbers.new.self c.numbers-2.new.self ls b.0 b.1
    (c.in_ok-demand.ensures.takes b.0 b.1.is)
    in
    rw (p.1, p.2) (end_fails c.args.pairs c.in_ok-bound.bound c.in_ok-scale.scale c.in_ok-demand.demand c.in_ok-rival.rival c.in_err-end.field-0.0 c.args.lines.now
    c.numbers-2.new.self c.rival.new.lines c.end.new.self ls d.0 d.1 (c.in_ok-rival.ensures d.0 d.1.is) c.in_err-end.ensures)

pub returns : goal.returns
returns c = λ ls is.
    let b = behind_scale c.in_ok-bound.bound c.in_ok-scale.scale c.args.lines.now c.number.new.self c.numbers.new.self ls (c.in_ok-bound.ensures ls is) c.in_ok-scale.ensures.takes in
    let d = behind_demand c.args.pairs c.in_ok-bound.bound c.in_ok-scale.scale c.in_ok-demand.demand c.args.lines.now c.numbers.new.self c.numbers-2.new.self ls b.0 b.1
    (c.in_ok-demand.ensures.takes b.0 b.1.is)
    in
    witness_read c.args.pairs c.in_ok-bound.bound c.number_at.result c.number_at-2.result c.in_ok-scale.scale c.in_ok-demand.demand c.in_ok-rival.rival c.args.lines.now
    c.numbers-2.new.self c.rival.new.lines c.end.new.self ls d.0 (c.number_at.ensures ∙ ap (λ (ns : List ℕ). slice_index ns 0) c.as_slice.ensures)
    (c.number_at-2.ensures ∙ ap (λ (ns : List ℕ). slice_index ns 1) c.as_slice-2.ensures) is d.1 (c.in_ok-rival.ensures d.0 d.1.is) c.in_ok-end.ensures
