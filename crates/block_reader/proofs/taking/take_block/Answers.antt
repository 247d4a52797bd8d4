use Rattle.std.proofs.Common.{◌≡◌, ◌∙◌, length, sym, ap}
use Rattle.cert_text.specs.Place.{place}
use Rattle.cert_text.specs.Reading.{narrow_number}
use Rattle.cert_text.specs.Grammar.{read_block}
use Rattle.cert_text.specs.declared.cursor.Bytes.{Bytes}
use Rattle.block_reader.specs.Standing.{ready}
use Rattle.block_reader.proofs.Answering.{took_of, left_within, line_within, read_over}
use Rattle.block_reader.proofs.Steps.{block_step}
use Rattle.block_reader.proofs.taking.take_block.Goals as goal

pub pass-requires-clause-left : goal.pass-requires-clause-left
pass-requires-clause-left c =
    let room = c.args.room.now in
    let reader = c.reader-reader.result in
    let after = c.block.new.r in
    let left : c.left-left.result.now ≡ after.source.bytes.now = c.left-left.ensures ∙ ap (λ (b : Bytes). b.bytes.now) c.source.ensures in
    let took = took_of (read_block room.limits narrow_number room.counts) (block_step room.limits narrow_number room.counts) (place reader.line reader.source.bytes.now) (place after.line after.source.bytes.now) c.block.new.room.block
    (c.in_ok-block.ensures.takes.reads tt) in
    left_within _ _ took.0 c.left-left.result.now (ready c.args.lines.now.window) took.1 left c.reader-reader.ensures.bytes

pub pass-requires-clause-line : goal.pass-requires-clause-line
pass-requires-clause-line c =
    let room = c.args.room.now in
    let reader = c.reader-reader.result in
    let after = c.block.new.r in
    let left : c.left-left.result.now ≡ after.source.bytes.now = c.left-left.ensures ∙ ap (λ (b : Bytes). b.bytes.now) c.source.ensures in
    let took = took_of (read_block room.limits narrow_number room.counts) (block_step room.limits narrow_number room.counts) (place reader.line reader.source.bytes.now) (place after.line after.source.bytes.now) c.block.new.room.block
    (c.in_ok-block.ensures.takes.reads tt) in
    line_within _ _ took.0 c.left-left.result.now (ready c.args.lines.now.window) c.line-line.result c.args.lines.now.line took.1 left c.reader-reader.ensures.bytes c.line-line.ensures c.reader-reader.ensures.line

pub returns-clause-took : goal.returns-clause-took
returns-clause-took c =
    let room = c.args.room.now in
    let reader = c.reader-reader.result in
    let after = c.block.new.r in
    let left : c.left-left.result.now ≡ after.source.bytes.now = c.left-left.ensures ∙ ap (λ (b : Bytes). b.bytes.now) c.source.ensures in
    let took = took_of (read_block room.limits narrow_number room.counts) (block_step room.limits narrow_number room.counts) (place reader.line reader.source.bytes.now) (place after.line after.source.bytes.now) c.block.new.room.block
    (c.in_ok-block.ensures.takes.reads tt) in
    let passes = c.pass.ensures.passes took.0 after.source.bytes.now (sym c.reader-reader.ensures.bytes ∙ took.1.parts) (ap length (sym left)) in (
      took.0,
      passes.1,
      read_over (read_block room.limits narrow_number room.counts) c.args.lines.now c.pass.new.self (place reader.line reader.source.bytes.now) (place after.line after.source.bytes.now) c.block.new.room.block
          c.reader-reader.ensures.line c.reader-reader.ensures.bytes (c.in_ok-block.ensures.takes.reads tt) (c.pass.ensures.line ∙ c.line-line.ensures) passes.0,
    )
