use Rattle.std.proofs.Common.{◌≡◌, ◌≤◌, ◌^◌, ℕ, List, length, All, arith, ap, sym, ◌∙◌, subst}
use Rattle.rand_chacha.specs.ChaCha.{word_at}
use Rattle.te_model.specs.declared.name.Name.{Name}
use Rattle.te_model.specs.Network.{node_count}
use Rattle.random_words.specs.Words.{word_on}
use Rattle.random_words.proofs.Moving.{word_moved}
use Rattle.tree_embed.specs.Embedding.{Embedding, IsOrder}
use Rattle.multiplicative_lengths.specs.Growth.{length_of}
use Rattle.multiplicative_lengths.proofs.EachLink.{count_each}
use Rattle.multiplicative_lengths.proofs.LengthLimits.{lengths_limit, lengths_some}
use Rattle.racke_mix.specs.Draws.{IsOrderBy, scale_by}
use Rattle.racke_mix.proofs.round.draw_round.Goals as goal

pub embed-requires-clause-lengths : goal.embed-requires-clause-lengths
embed-requires-clause-lengths c =
    ap (λ (l : List ℕ). length l) (c.deref.ensures.value ∙ c.in_ok-lengths.ensures) ∙ count_each c.args.net.now (length_of c.args.net.now c.args.multipliers.now)

pub embed-requires-clause-limit : goal.embed-requires-clause-limit
embed-requires-clause-limit c =
    subst (All (λ (l : ℕ). l ≤ 2 ^ 28)) (sym (c.deref.ensures.value ∙ c.in_ok-lengths.ensures)) (lengths_limit c.args.net.now c.args.multipliers.now)

pub embed-requires-clause-positive : goal.embed-requires-clause-positive
embed-requires-clause-positive c =
    subst (All (λ (l : ℕ). 1 ≤ l)) (sym (c.deref.ensures.value ∙ c.in_ok-lengths.ensures))
    (lengths_some c.args.net.now c.args.multipliers.now c.requires.network c.requires.count c.requires.some)

pub embed-requires-clause-order : goal.embed-requires-clause-order
embed-requires-clause-order c =
    let order = subst (λ (n : ℕ). IsOrderBy (word_on c.args.rng.now) n c.in_ok-order.order.items) (ap (λ (l : List Name). length l) c.as_slice.ensures)
    c.in_ok-order.ensures.order in
    subst (IsOrder c.args.net.now) (sym c.deref-2.ensures.value) order.nodes

pub returns-clause-round : goal.returns-clause-round
returns-clause-round c =
    let net = c.args.net.now in
    let from = c.args.rng.now in
    let at = c.draw_order.new.rng in
    let nodes : length c.as_slice.result.now ≡ node_count net = ap (λ (l : List Name). length l) c.as_slice.ensures in
    let order = subst (λ (n : ℕ). IsOrderBy (word_on from) n c.in_ok-order.order.items) nodes c.in_ok-order.ensures.order in
    let next : word_on at 0 ≡ word_on from (length c.as_slice.result.now) =
    ap (λ (p : ℕ). word_at 4 at.key at.stream p) (omega arith) ∙ word_moved from at (length c.as_slice.result.now) c.in_ok-order.ensures.state
    in
    let made = λ (ls os : List ℕ). let e : Embedding = record { network = net; lengths = ls; order = os; scale = c.draw_scale-scale.result } in e in
    record {
      lengths = c.new.ensures ∙ c.in_ok-lengths.ensures;
      order = subst (IsOrderBy (word_on from) (node_count net)) (sym c.new-2.ensures) order;
      scale = c.draw_scale-scale.ensures.scale ∙ ap scale_by (next ∙ ap (word_on from) nodes);
      tree = c.in_ok-tree.ensures
          ∙ (ap (λ (ls : List ℕ). made ls c.deref-2.result.now) (c.deref.ensures.value ∙ sym c.new.ensures)
          ∙ ap (λ (os : List ℕ). made c.new.result os) (c.deref-2.ensures.value ∙ sym c.new-2.ensures));
    }
