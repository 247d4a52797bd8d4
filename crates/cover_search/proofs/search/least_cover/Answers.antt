use Rattle.std.proofs.Common.{◌≡◌, ◌∙◌, ℕ, ◌^◌, ◌≤◌, List, length, slice_index, replicate, arith, ap, refl, rules}
use Rattle.cover_search.specs.declared.transport.Transport.{Transport}
use Rattle.cover_search.proofs.Starting.{starts, starts_received, starts_sent, starts_small}
use Rattle.cover_search.proofs.search.least_cover.Goals as goal

pub loop-init : goal.loop-init
loop-init c =
    let shares = c.args.shares.now in
    let t : Transport = record { tails = c.args.tails; heads = c.new.result; demand = c.new-2.result; unsent = c.new-3.result; unreceived = c.new-4.result } in
    let heads : c.new.result ≡ replicate (length c.args.tails) 0 = search rules in
    let demand : c.new-2.result ≡ replicate (length shares) 0 = search rules in
    let unsent : c.new-3.result ≡ c.args.sent.now = search rules in
    let unreceived : c.new-4.result ≡ c.args.received.now = search rules in
    let sent_count : length c.new-3.result ≡ length c.args.tails = ap (λ (l : List ℕ). length l) unsent ∙ c.requires.sent in
    let received_count : length c.new-4.result ≡ length c.args.tails = ap (λ (l : List ℕ). length l) unreceived ∙ c.requires.received in
    let sent_small : (i : ℕ) → slice_index c.new-3.result i ≤ 2 ^ 32 = λ i. rw unsent (c.requires.sent_small i) in
    let received_small : (i : ℕ) → slice_index c.new-4.result i ≤ 2 ^ 32 = λ i. rw unreceived (c.requires.received_small i) in
    let small = starts_small shares t c.requires.shares c.requires.nodes c.requires.covers c.requires.small heads demand sent_count received_count sent_small received_small in
    record {
      transport = starts shares t c.requires.shares c.requires.nodes c.requires.covers c.requires.small heads demand sent_count received_count sent_small received_small;
      count = refl;
      sends = λ i.
          starts_sent shares t c.requires.shares c.requires.nodes c.requires.covers c.requires.small heads demand sent_count received_count sent_small received_small i
          ∙ ap (λ l. slice_index l i) unsent;
      receives = λ i.
          starts_received shares t c.requires.shares c.requires.nodes c.requires.covers c.requires.small heads demand sent_count received_count sent_small received_small i
          ∙ ap (λ l. slice_index l i) unreceived;
      rest = omega (arith, small);
    }
