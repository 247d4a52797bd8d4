use Rattle.std.proofs.Common.{◌≡◌, ◌∙◌, ℕ, ◌≤◌, [], length, refl, sym, ap, arith, inl, inr}
use Rattle.block_reader.specs.declared.window.State.TheVariants.{Open, Failed}
use Rattle.block_reader.proofs.Going.{at_new, in_new, at_raised, in_raised, not_long}
use Rattle.block_reader.proofs.window.Window.at_start.Goals as goal

within_limit : (room limit allowed room' limit' room'' limit'' : ℕ) → room' ≡ room → limit' ≡ allowed → room'' ≡ room' → limit'' ≡ limit' → allowed ≡ limit → room ≤ limit → room'' ≤ limit''
within_limit room limit allowed room' limit' room'' limit'' first large same_room same_limit least fits = omega (arith, first, large, same_room, same_limit, least, fits)

pub raise-requires-clause-within : goal.raise-requires-clause-within
raise-requires-clause-within g c =
    let new = c.in_ok-window.ensures in
    not_long _ c.fill.new.self
    (c.fill.ensures.stands _ [] (at_new _ c.in_ok-window.window refl new.ready new.fetched new.state)) (within_limit _ _ _ _ _ _ _ new.room new.limit c.fill.ensures.room c.fill.ensures.limit c.allowed.ensures c.requires.least)

pub returns-clause-stands : goal.returns-clause-stands
returns-clause-stands g c =
    let new = c.in_ok-window.ensures in
    let stands = c.fill.ensures.stands _ [] (at_new _ c.in_ok-window.window refl new.ready new.fetched new.state) in
    at_raised _ c.fill.new.self c.raise.new.self [] c.raise.ensures.ready c.raise.ensures.fetched c.raise.ensures.state
    (not_long _ c.fill.new.self stands (within_limit _ _ _ _ _ _ _ new.room new.limit c.fill.ensures.room c.fill.ensures.limit c.allowed.ensures c.requires.least)) stands

pub returns-clause-told : goal.returns-clause-told
returns-clause-told g c = λ told is.
    let new = c.in_ok-window.ensures in
    let stands = c.fill.ensures.stands _ [] (at_new _ c.in_ok-window.window refl new.ready new.fetched new.state) in
    in_raised told c.fill.new.self c.raise.new.self [] c.raise.ensures.ready c.raise.ensures.fetched c.raise.ensures.state
    (not_long _ c.fill.new.self stands (within_limit _ _ _ _ _ _ _ new.room new.limit c.fill.ensures.room c.fill.ensures.limit c.allowed.ensures c.requires.least))
    (c.fill.ensures.told told is [] (in_new told c.in_ok-window.window new.ready new.fetched new.state))

pub returns-clause-within : goal.returns-clause-within
returns-clause-within g c = λ is.
    let new = c.in_ok-window.ensures in
    let stands = c.fill.ensures.stands _ [] (at_new _ c.in_ok-window.window refl new.ready new.fetched new.state) in
    not_long _ c.fill.new.self stands (within_limit _ _ _ _ _ _ _ new.room new.limit c.fill.ensures.room c.fill.ensures.limit c.allowed.ensures c.requires.least) (sym c.raise.ensures.state ∙ is)

pub returns-clause-failed : goal.returns-clause-failed
returns-clause-failed g c = λ is.
    elim (c.fill.ensures.failed (sym c.raise.ensures.state ∙ is)) [
      | inl was ↦ let no : Open ≡ Failed = sym c.in_ok-window.ensures.state ∙ was in absurd cc
      | inr rose ↦ rose
    ]

pub returns-clause-steady : goal.returns-clause-steady
returns-clause-steady g c = λ is. c.fill.ensures.steady (inl (λ failed. is (c.raise.ensures.state ∙ failed)))

pub returns-clause-enough : goal.returns-clause-enough
returns-clause-enough g c = λ is.
    let enough = c.fill.ensures.enough (sym c.raise.ensures.state ∙ is) in
    omega (arith, enough, ap length c.raise.ensures.ready)
