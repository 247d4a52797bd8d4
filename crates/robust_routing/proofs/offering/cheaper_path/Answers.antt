use Rattle.std.proofs.Common.{◌≡◌, ◌∙◌, ℕ, true, false, List, Option, None, length, get_or, arith, ap, sym}
use Rattle.std.specs.Prelude.{IfSome, IsTrue}
use Rattle.std.proofs.lemmas.List.{get_or_default}
use Rattle.std.proofs.lemmas.Result.{IfOk-weaker}
use Rattle.te_model.specs.declared.route.Path.{Path}
use Rattle.te_model.specs.Path.{is_path}
use Rattle.te_model.proofs.Lists.{written_whole}
use Rattle.shortest_path.specs.Graph.{distance_at}
use Rattle.shortest_path.proofs.Sound.{sound}
use Rattle.shortest_path.specs.Least.{IsLeastWalk, links_of}
use Rattle.robust_routing.specs.Offers.{cheaper_of, is_cheaper}
use Rattle.robust_routing.proofs.Cheaper.{cheaper_walk, no_cheaper_walk}
use Rattle.robust_routing.proofs.LeastPaths.{path_of_least}
use Rattle.robust_routing.proofs.offering.cheaper_path.Goals as goal

pub toward-requires-clause-sound : goal.toward-requires-clause-sound
toward-requires-clause-sound c = sound c.args.net.now c.requires.network

pub follow-requires-clause-sound : goal.follow-requires-clause-sound
follow-requires-clause-sound c = sound c.args.net.now c.requires.network

pub returns-clause-path : goal.returns-clause-path
returns-clause-path c =
    let net = c.args.net.now in
    let lengths = c.args.lengths.now in
    let marks = c.args.open.now in
    let pair = c.args.pair in
    IfOk-weaker c.follow.result (λ (o : Option Path). IsLeastWalk net lengths marks pair.src pair.dst (links_of o))
    (λ (o : Option Path). IfSome o (λ (p : Path). IsTrue (is_path net pair.src pair.dst p.links)))
    (λ o is. path_of_least net lengths marks pair.src pair.dst o c.requires.every c.requires.lengths is) c.follow.ensures

-- the sums of the search stand in the list that it was lent
pub returns-then-not-is_cheaper-clause-least : goal.returns-then-not-is_cheaper-clause-least
returns-then-not-is_cheaper-clause-least c =
    let net = c.args.net.now in
    let sums = c.in_ok-sums.sums in
    let pair = c.args.pair in
    let whole = written_whole sums.len c.toward.new.sums sums.items (c.toward.auto.sums ∙ ap (λ (l : List (Option ℕ)). length l) c.deref_mut.ensures.value) sums.ok.0 in
    let at : distance_at c.toward.new.sums pair.src ≡ c.index.result.now =
    get_or_default c.toward.new.sums pair.src None c.index.result.now (omega (arith, c.requires.pair.src_inside, c.toward.ensures.sums.count))
    ∙ (ap (λ (l : List (Option ℕ)). get_or l pair.src c.index.result.now) (sym whole) ∙ sym c.index.ensures)
    in
    let is : is_cheaper (distance_at c.toward.new.sums pair.src) c.args.mean ≡ false =
    ap (λ (o : Option ℕ). is_cheaper o c.args.mean) at ∙ (sym c.is_cheaper.ensures ∙ c.if-not-is_cheaper.true)
    in
    no_cheaper_walk net c.args.lengths.now c.args.open.now pair.src pair.dst c.args.mean c.toward.new.sums c.requires.network c.requires.lengths.count
    c.requires.lengths.positive c.requires.pair.src_inside c.requires.pair.dst_inside c.toward.ensures.sums is

pub returns-clause-least : goal.returns-clause-least
returns-clause-least c =
    let net = c.args.net.now in
    let lengths = c.args.lengths.now in
    let marks = c.args.open.now in
    let pair = c.args.pair in
    let sums = c.in_ok-sums.sums in
    let whole = written_whole sums.len c.toward.new.sums sums.items (c.toward.auto.sums ∙ ap (λ (l : List (Option ℕ)). length l) c.deref_mut.ensures.value) sums.ok.0 in
    let at : distance_at c.toward.new.sums pair.src ≡ c.index.result.now =
    get_or_default c.toward.new.sums pair.src None c.index.result.now (omega (arith, c.requires.pair.src_inside, c.toward.ensures.sums.count))
    ∙ (ap (λ (l : List (Option ℕ)). get_or l pair.src c.index.result.now) (sym whole) ∙ sym c.index.ensures)
    in
    let cheaper : is_cheaper (distance_at c.toward.new.sums pair.src) c.args.mean ≡ true =
    ap (λ (o : Option ℕ). is_cheaper o c.args.mean) at ∙ (sym c.is_cheaper.ensures ∙ c.if-not-is_cheaper.false)
    in
    IfOk-weaker c.follow.result (λ (o : Option Path). IsLeastWalk net lengths marks pair.src pair.dst (links_of o))
    (λ (o : Option Path).
    (walk : Option (List ℕ)) × IsLeastWalk net lengths marks pair.src pair.dst walk × (links_of o ≡ cheaper_of lengths c.args.mean walk))
    (λ o is. (links_of o, is, cheaper_walk net lengths marks pair.src pair.dst c.args.mean c.toward.new.sums (links_of o) c.toward.ensures.sums is cheaper)) c.follow.ensures
