use Rattle.std.proofs.Common.{◌≡◌, ◌+◌, ◌-◌, ◌<◌, length, get_or, arith, ap, sym, subst, ◌∙◌, ℕ, ◌==◌, eq-eqb, List}
use Rattle.std.proofs.lemmas.List.{get_or_read}
use Rattle.te_model.proofs.Shares.{split}
use Rattle.routing.specs.declared.shares.PairShare.{PairShare}
use Rattle.routing.specs.Shares.{IsShareList, share_in}
use Rattle.routing.proofs.Sharing.{no_share, order_pushed, order_set}
use Rattle.std.proofs.lemmas.List.Sums.{get_or-le-sum_by, sum_by-set, sum_by_push}
use Rattle.std.specs.Prelude.{if◌then◌else◌}
use Rattle.routing.proofs.shares.LinkShares.add.Goals as goal
use Rattle.routing.proofs.shares.LinkShares.add.Goals.{else-count-gt0-via-then-count-gt0+else-index-pair, else-count-gt0-via-else-count-gt0}

pub returns-then-index-pair-clause-order : goal.returns-then-index-pair-clause-order
returns-then-index-pair-clause-order c =
    let list = c.self.inside.list.items in
    let order = subst (IsShareList (c.args.pair + 1)) (sym c.self.view_is) c.requires.order in
    let i = c.len-count.result - 1 in
    let inside : i < length list = omega (arith, c.len-count.ensures, c.if-count-gt0.true, c.self.inside.list.ok.0) in
    let read = get_or_read list i c.index_mut.result.now inside c.index_mut.ensures.value no_share in
    order_set (c.args.pair + 1) list i (record { pair = c.index_mut.result.now.pair; share = c.index_mut.result.now.share + c.args.share }) order inside
    (ap (λ (s : PairShare). s.pair) read) (omega (arith, c.requires.some))

pub returns-in_ok-push-clause-order : goal.returns-in_ok-push-clause-order
returns-in_ok-push-clause-order c =
    let list = c.self.inside.list.items in
    let order = subst (IsShareList (c.args.pair + 1)) (sym c.self.view_is) c.requires.order in
    subst (IsShareList (c.args.pair + 1)) (sym c.in_ok-push.ensures.items)
    (order_pushed list (record { pair = c.args.pair; share = c.args.share }) order c.requires.some (λ k last same.
    elim c.else-count-gt0.branch [
      | else-count-gt0-via-then-count-gt0+else-index-pair w ↦
          let count : c.len-count.result - 1 ≡ k = omega (arith, c.len-count.ensures, last, c.self.inside.list.ok.0) in
          let read = get_or_read list (c.len-count.result - 1) w.index.result.now (omega (arith, last, count)) w.index.ensures no_share in
          w.if-index-pair.false (ap (λ (s : PairShare). s.pair) read ∙ (ap (λ n. (get_or list n no_share).pair) count ∙ same))
      | else-count-gt0-via-else-count-gt0 w ↦ absurd (omega (arith, w.if-count-gt0.false, c.len-count.ensures, last, c.self.inside.list.ok.0))
    ]))

-- the share of pair q in one entry
abbrev part : ℕ → PairShare → ℕ
part q s = if s.pair == q then s.share else 0

pub overflow_add-index_mut : goal.overflow_add-index_mut
overflow_add-index_mut c =
    let list = c.self.inside.list.items in
    let i = c.len-count.result - 1 in
    let inside : i < length list = omega (arith, c.len-count.ensures, c.if-count-gt0.true, c.self.inside.list.ok.0) in
    let read = get_or_read list i c.index_mut.result.now inside c.index_mut.ensures.value no_share in
    let same : (get_or list i no_share).pair ≡ c.args.pair =
    ap (λ (s : PairShare). s.pair) (sym (get_or_read list i c.index.result.now inside c.index.ensures no_share)) ∙ c.if-index-pair.true
    in
    let own : part c.args.pair (get_or list i no_share) ≡ (get_or list i no_share).share =
    ap (λ b. if b then (get_or list i no_share).share else 0) (eq-eqb (get_or list i no_share).pair c.args.pair same)
    in
    omega (
      arith,
      ap (λ (s : PairShare). s.share) read,
      own,
      get_or-le-sum_by (part c.args.pair) list i no_share inside,
      ap (λ (l : List PairShare). share_in l c.args.pair) c.self.view_is,
      c.requires.room,
    )

pub returns-then-index-pair-clause-sums : goal.returns-then-index-pair-clause-sums
returns-then-index-pair-clause-sums c q =
    let list = c.self.inside.list.items in
    let i = c.len-count.result - 1 in
    let inside : i < length list = omega (arith, c.len-count.ensures, c.if-count-gt0.true, c.self.inside.list.ok.0) in
    let was = c.index_mut.result.now in
    let read = get_or_read list i was inside c.index_mut.ensures.value no_share in
    let same : was.pair ≡ c.args.pair =
    ap (λ (s : PairShare). s.pair) (read ∙ sym (get_or_read list i c.index.result.now inside c.index.ensures no_share)) ∙ c.if-index-pair.true
    in
    omega (
      arith,
      sum_by-set (part q) list i (record { pair = was.pair; share = was.share + c.args.share }) no_share inside,
      split (was.pair == q) was.share c.args.share,
      ap (part q) read,
      ap (λ n. if n == q then c.args.share else 0) same,
      ap (λ (l : List PairShare). share_in l q) c.self.view_is,
    )

pub returns-in_ok-push-clause-sums : goal.returns-in_ok-push-clause-sums
returns-in_ok-push-clause-sums c q =
    ap (λ (l : List PairShare). share_in l q) c.in_ok-push.ensures.items
    ∙ (sum_by_push (part q) c.self.inside.list.items (record { pair = c.args.pair; share = c.args.share })
    ∙ ap (λ (l : List PairShare). share_in l q + (if c.args.pair == q then c.args.share else 0)) c.self.view_is)
