use Rattle.std.proofs.Common.{◌≡◌, ◌∙◌, ◌<◌, ◌≤◌, slice_index, arith, ap, refl, rules}
use Rattle.cover_search.specs.Transport.{destination_at, source_at}
use Rattle.cover_search.specs.Ways.{taken_at, added_at}
use Rattle.cover_search.proofs.Improving.{goes_on, no_more, sent_to_end}
use Rattle.cover_search.proofs.search.hop.Goals as goal

pub returns-then-number_at-eq1-clause-no_more : goal.returns-then-number_at-eq1-clause-no_more
returns-then-number_at-eq1-clause-no_more c =
    let old = c.args.transport.now in
    let on = c.requires.ways.onward c.args.source c.requires.source in
    let k : c.number_at-k.result ≡ slice_index c.args.reached.now.forward c.args.source = search rules in
    let from : source_at c.args.shares.now c.number_at-k.result ≡ c.args.source = ap (source_at c.args.shares.now) k ∙ on.source in
    let enough : c.min-amount.result ≤ slice_index old.unsent c.args.source = search rules in
    let same = sent_to_end c.args.shares.now old c.send.new.transport c.args.reached.now c.args.source c.min-amount.result c.requires.ways c.requires.source c.send.ensures.moved.tails enough
    (λ i. c.send.ensures.sent i ∙ ap (λ s. taken_at (slice_index old.unsent) s c.min-amount.result i) from) in
    omega (arith, same)

pub returns-then-number_at-eq1-clause-goes : goal.returns-then-number_at-eq1-clause-goes
returns-then-number_at-eq1-clause-goes c = λ tail unsent opened.
    let old = c.args.transport.now in
    let on = c.requires.ways.onward c.args.source c.requires.source in
    let k : c.number_at-k.result ≡ slice_index c.args.reached.now.forward c.args.source = search rules in
    let from : source_at c.args.shares.now c.number_at-k.result ≡ c.args.source = ap (source_at c.args.shares.now) k ∙ on.source in
    let enough : c.min-amount.result ≤ slice_index old.unsent c.args.source = search rules in
    let same = sent_to_end c.args.shares.now old c.send.new.transport c.args.reached.now c.args.source c.min-amount.result c.requires.ways c.requires.source c.send.ensures.moved.tails enough
    (λ i. c.send.ensures.sent i ∙ ap (λ s. taken_at (slice_index old.unsent) s c.min-amount.result i) from) in
    let one : slice_index c.args.reached.now.destinations (destination_at c.args.shares.now c.number_at-k.result) ≡ 1 = search rules in
    let room = opened.room (destination_at c.args.shares.now c.number_at-k.result) one in
    let some : 0 < c.min-amount.result = search rules in
    omega (arith, same, some)

pub returns-else-number_at-eq1-clause-no_more : goal.returns-else-number_at-eq1-clause-no_more
returns-else-number_at-eq1-clause-no_more c =
    let old = c.args.transport.now in
    let r = c.args.reached.now in
    let shares = c.args.shares.now in
    let a = c.min-amount-else-number_at-eq1.result in
    let on = c.requires.ways.onward c.args.source c.requires.source in
    let k : c.number_at-k.result ≡ slice_index r.forward c.args.source = search rules in
    let from : source_at shares c.number_at-k.result ≡ c.args.source = ap (source_at shares) k ∙ on.source in
    let enough : a ≤ slice_index old.unsent c.args.source = search rules in
    no_more shares old c.exchange.new.transport r c.args.source a c.requires.ways c.requires.source c.exchange.ensures.moved.tails (source_at shares c.number_at-back.result) enough
    (λ i. c.exchange.ensures.sent i ∙ ap (λ s. added_at (taken_at (slice_index old.unsent) s a) (source_at shares c.number_at-back.result) a i) from)

pub returns-else-number_at-eq1-clause-goes : goal.returns-else-number_at-eq1-clause-goes
returns-else-number_at-eq1-clause-goes c = λ tail unsent opened.
    let old = c.args.transport.now in
    let r = c.args.reached.now in
    let shares = c.args.shares.now in
    let a = c.min-amount-else-number_at-eq1.result in
    let k' = c.number_at-k.result in
    let on = c.requires.ways.onward c.args.source c.requires.source in
    let k : k' ≡ slice_index r.forward c.args.source = search rules in
    let from : source_at shares k' ≡ c.args.source = ap (source_at shares) k ∙ on.source in
    let enough : a ≤ slice_index old.unsent c.args.source = search rules in
    let end' = ap (destination_at shares) k in
    let number = ap (slice_index r.destinations) end' in
    let apart : slice_index r.destinations (destination_at shares k') ≡ 1 → ⊥ = search rules in
    let many : 1 < slice_index r.destinations (destination_at shares k') = (let some = on.some in omega (arith, some, number, apart)) in
    let less : slice_index r.destinations (destination_at shares k') < slice_index r.sources c.args.source = (let lower = on.less in omega (arith, lower, number)) in
    let back_is : c.number_at-back.result ≡ slice_index r.backward (destination_at shares k') = search rules in
    let back = c.requires.ways.back (destination_at shares k') many in
    let next_is = ap (λ b. source_at shares b) back_is in
    let lower : slice_index r.sources (source_at shares c.number_at-back.result) < slice_index r.destinations (destination_at shares k') =
    (let below = back.less in let same = ap (slice_index r.sources) next_is in omega (arith, below, same))
    in
    let over = opened.amount (destination_at shares k') many less in
    let over_back = ap (slice_index old.demand) back_is in
    let some : 0 < a = search rules in
    goes_on shares old c.exchange.new.transport r c.args.source a c.requires.ways c.requires.source c.exchange.ensures.moved.tails (source_at shares c.number_at-back.result) enough
    (λ i. c.exchange.ensures.sent i ∙ ap (λ s. added_at (taken_at (slice_index old.unsent) s a) (source_at shares c.number_at-back.result) a i) from)
    k' c.number_at-back.result some refl (ap (destination_at shares) back_is ∙ back.destination) back_is less lower c.exchange.ensures.demand c.exchange.ensures.received opened
