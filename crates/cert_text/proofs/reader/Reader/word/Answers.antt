use Rattle.std.proofs.Common.{◌∙◌}
use Rattle.cert_text.proofs.Steps.{word_more}
use Rattle.cert_text.proofs.reader.Reader.word.Goals as goal

pub loop-b-preserved : goal.loop-b-preserved
loop-b-preserved g c = λ t.
    let so_far = c.loop-b.invariant (c.in_ok-byte.ensures.takes.told t) in
    (so_far.0, word_more c.args.wanted.now c.loop-b.b-index _ _ c.loop-b-test.true (c.in_ok-byte.ensures.takes.reads t) ∙ so_far.1)
