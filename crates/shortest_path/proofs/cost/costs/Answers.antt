use Rattle.std.proofs.Common.{◌≡◌, List, map, ap, sym, ◌∙◌, subst}
use Rattle.te_model.specs.declared.network.Link.{Link}
use Rattle.shortest_path.specs.Costs.{HasCosts, costs_of}
use Rattle.shortest_path.proofs.Sound.{has_costs}
use Rattle.shortest_path.proofs.cost.costs.Goals as goal

pub returns : goal.returns
returns c =
    let are : c.in_ok-costs.costs.items ≡ costs_of c.args.net.now =
    c.in_ok-costs.ensures ∙ ap (λ (ls : List Link). map (λ (l : Link). l.cost) ls) c.as_slice.ensures
    in
    subst (λ l. HasCosts c.args.net.now l) (sym are) (has_costs c.args.net.now c.requires)
