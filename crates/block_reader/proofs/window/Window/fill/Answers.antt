use Rattle.std.proofs.Common.{◌≡◌, ◌≢◌, ◌∙◌, ◌+◌, ◌-◌, ◌<◌, ◌≤◌, ◌++◌, ℕ, List, [], length, refl, sym, ap, subst, arith, rules, append_assoc, append-nil, inr, le_trans}
use Rattle.te_ports.specs.Ports.{Rose}
use Rattle.te_ports.proofs.Giving.{adds_none, adds_then}
use Rattle.block_reader.specs.declared.window.State.TheVariants.{Open, Failed}
use Rattle.block_reader.specs.declared.window.Window.{Window}
use Rattle.block_reader.specs.Standing.{ready, fetched_of, limit_of, state_of, room_of, IsStateOf, StandsIn}
use Rattle.block_reader.proofs.Going.{at_same, in_still}
use Rattle.block_reader.proofs.Reading.{at_most_itself}
use Rattle.block_reader.proofs.window.Window.fill.Goals.{then-len-self, else-len-self}
use Rattle.block_reader.proofs.window.Window.fill.Goals as goal

-- a window with the same bytes ready stands where the other one stands
module _ (w w' : Window) (passed : List ℕ) (same : ready w' ≡ ready w) (at : fetched_of w' ≡ fetched_of w) (limit : limit_of w' ≡ limit_of w) (state : state_of w' ≡ state_of w) where
  in_same : (content : List ℕ) → StandsIn content w passed → StandsIn content w' passed
  in_same content s =
      in_still content w w' passed same at
      (subst (λ k. IsStateOf content k w'.fetched w'.state) (sym limit) (subst (λ k. IsStateOf content w.limit k w'.state) (sym at) (subst (IsStateOf content w.limit w.fetched) (sym state) s.ends))) s

front_fits : (start wanted room old : ℕ) → start ≡ 0 → room ≡ old → wanted ≤ old → start + wanted ≤ room
front_fits start wanted room old first same fits = omega (arith, first, same, fits)

room_fits : (len start end wanted room : ℕ) → wanted ≤ len - start → len ≡ room → start ≤ end → end ≤ room → start + wanted ≤ room
room_fits len start end wanted room long same ordered inside = omega (arith, long, same, ordered, inside)

still_fits : (start wanted room start' room' : ℕ) → start + wanted ≤ room → start' ≡ start → room' ≡ room → start' + wanted ≤ room'
still_fits start wanted room start' room' fits front same = omega (arith, fits, front, same)

some_space : (start wanted end room : ℕ) → end < start + wanted → start + wanted ≤ room → end < room
some_space start wanted end room few fits = omega (arith, few, fits)

same_counts : (f f' n n' : ℕ) → f' ≡ f → n' ≡ n → f' + n ≡ f + n'
same_counts f f' n n' fetched count = omega (arith, fetched, count)

more_counts : (f n f' n' f'' n'' : ℕ) → f' + n ≡ f + n' → f'' + n' ≡ f' + n'' → f'' + n ≡ f + n''
more_counts f n f' n' f'' n'' first next = omega (arith, first, next)

pub pieces-init : goal.pieces-init
pieces-init g c =
    let w = c.args.self.now in
    let w' = c.if-len-self.self in
    let is_open : w.state ≡ Open = search rules in
    let moved : (ready w' ≡ ready w) × (fetched_of w' ≡ fetched_of w) × (limit_of w' ≡ limit_of w) × (state_of w' ≡ state_of w) × (room_of w' ≡ room_of w) × (w'.start + c.args.wanted ≤ room_of w') =
    elim c.if-len-self.branch [
      | then-len-self b ↦
          let e = b.compact.ensures in
          rw b.self-is (e.ready, e.fetched, e.limit, e.state, e.room, front_fits _ _ _ _ e.front e.room c.requires)
      | else-len-self b ↦ rw b.self-is (refl, refl, refl, refl, refl, room_fits _ _ _ _ _ b.if-len-self.false c.len.ensures w.ordered w.inside)
    ]
    in (
      refl,
      (λ before passed s. at_same _ w w' passed moved.0 moved.1 moved.2 moved.3 s),
      (λ told is passed s. in_same w w' passed moved.0 moved.1 moved.2 moved.3 told s),
      ([], moved.0 ∙ sym (append-nil (ready w))),
      moved.4,
      moved.2,
      moved.5,
      (λ (is : state_of w' ≡ Failed). let no : Open ≡ Failed = sym is_open ∙ sym moved.3 ∙ is in absurd cc),
      (λ is. refl),
      (λ other. at_most_itself _),
      adds_none _ _ _ refl,
      same_counts _ _ _ _ moved.1 (ap length moved.0),
    )

pub pieces-preserved : goal.pieces-preserved
pieces-preserved g c =
    let all = c.pieces.invariant in
    let next = c.fetch.ensures in
    let name = c.args.name.now in
    let is_open : c.pieces.self.state ≡ Open = c.needs.ensures.is_open c.pieces-test.true in
    let sound : c.pieces.self.state ≢ Failed = (λ (is : c.pieces.self.state ≡ Failed). cc) in (
      next.content ∙ all.0,
      (λ before passed s. next.stands before passed (all.1 before passed s)),
      (λ told is passed s. next.told told (ap (λ f. f name) all.0 ∙ is) passed (all.2 told is passed s)),
      (
        all.3.0 ++ next.behind.0,
        next.behind.1 ∙ ap (λ f. f ++ next.behind.0) all.3.1 ∙ append_assoc (ready c.args.self.now) all.3.0 next.behind.0,
      ),
      next.room ∙ all.4,
      next.limit ∙ all.5,
      still_fits _ _ _ _ _ all.6 next.front next.room,
      (λ is. subst (λ f. Rose (f name) (g.D.Depot.faults c.fetch.new.depot name)) (all.8 sound) (next.failed is)),
      (λ is. next.steady is ∙ all.8 sound),
      (λ other. le_trans (all.9 other) (next.later other)),
      adds_then _ _ _ _ _ all.0 all.10 next.added,
      more_counts _ _ _ _ _ _ all.11 next.count,
    )

pub returns-then-ne-clause-behind : goal.returns-then-ne-clause-behind
returns-then-ne-clause-behind g c = ([], sym (append-nil (ready c.args.self.now)))

pub returns-then-ne-clause-later : goal.returns-then-ne-clause-later
returns-then-ne-clause-later g c = λ other. at_most_itself _

pub returns-then-ne-clause-added : goal.returns-then-ne-clause-added
returns-then-ne-clause-added g c = adds_none _ _ _ refl

pub returns-clause-stands : goal.returns-clause-stands
returns-clause-stands g c = c.pieces.invariant.1

pub returns-clause-told : goal.returns-clause-told
returns-clause-told g c = c.pieces.invariant.2

pub returns-clause-behind : goal.returns-clause-behind
returns-clause-behind g c = c.pieces.invariant.3

pub returns-clause-count : goal.returns-clause-count
returns-clause-count g c = c.pieces.invariant.11

pub returns-clause-room : goal.returns-clause-room
returns-clause-room g c = c.pieces.invariant.4

pub returns-clause-limit : goal.returns-clause-limit
returns-clause-limit g c = c.pieces.invariant.5

pub returns-clause-failed : goal.returns-clause-failed
returns-clause-failed g c = λ is. inr (c.pieces.invariant.7 is)

pub returns-clause-later : goal.returns-clause-later
returns-clause-later g c = c.pieces.invariant.9

pub returns-clause-added : goal.returns-clause-added
returns-clause-added g c = c.pieces.invariant.10

pub returns-clause-content : goal.returns-clause-content
returns-clause-content g c = c.pieces.invariant.0

pub returns-clause-enough : goal.returns-clause-enough
returns-clause-enough g c = c.needs.ensures.enough c.pieces-test.false

pub fetch-requires-clause-space : goal.fetch-requires-clause-space
fetch-requires-clause-space g c = some_space _ _ _ _ (c.needs.ensures.few c.pieces-test.true) c.pieces.invariant.6
