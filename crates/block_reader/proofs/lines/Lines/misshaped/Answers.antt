use Rattle.std.proofs.Common.{◌∙◌, refl, sym, ap, length}
use Rattle.block_reader.proofs.Filling.{drained_of, drained_part, drained_past, drained_whole, ended_of}
use Rattle.block_reader.proofs.lines.Lines.misshaped.Goals as goal

pub returns-in-Failed-clause-drained : goal.returns-in-Failed-clause-drained
returns-in-Failed-clause-drained g c = λ before passed b.
    let pass = c.pass.ensures in
    let drain = c.drain.ensures in
    drained_part ((drained_of _ _ c.args.self.now.window c.pass.new.self c.drain.new.self passed _ pass.ready (ap length c.ready-count.ensures) pass.fetched pass.state pass.limit
    (drain.stands before) drain.none drain.limit drain.same drain.still b.stands b.limited).1) (sym c.state.ensures ∙ c.in-Failed.is)

pub returns-in-TooLong-clause-drained : goal.returns-in-TooLong-clause-drained
returns-in-TooLong-clause-drained g c = λ before passed b.
    let pass = c.pass.ensures in
    let drain = c.drain.ensures in
    drained_past ((drained_of _ _ c.args.self.now.window c.pass.new.self c.drain.new.self passed _ pass.ready (ap length c.ready-count.ensures) pass.fetched pass.state pass.limit
    (drain.stands before) drain.none drain.limit drain.same drain.still b.stands b.limited).1) (sym c.state.ensures ∙ c.in-TooLong.is)

pub returns-in-Open-clause-drained : goal.returns-in-Open-clause-drained
returns-in-Open-clause-drained g c = λ before passed b.
    let pass = c.pass.ensures in
    let drain = c.drain.ensures in (
      refl,
      drained_whole ((drained_of _ _ c.args.self.now.window c.pass.new.self c.drain.new.self passed _ pass.ready (ap length c.ready-count.ensures) pass.fetched pass.state pass.limit
          (drain.stands before) drain.none drain.limit drain.same drain.still b.stands b.limited).1) (ended_of _ c.state.result c.state.ensures drain.closed c.in-Open.is),
    )
