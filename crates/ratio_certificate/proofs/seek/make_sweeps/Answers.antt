use Rattle.ratio_certificate.proofs.seek.make_sweeps.Goals as goal

pub loop-i-init : goal.loop-i-init
loop-i-init c = (c.requires.search, c.requires.loads, c.requires.ways, c.requires.parts.0, c.requires.parts.1)

pub loop-i-preserved : goal.loop-i-preserved
loop-i-preserved c =
    (c.in_ok-advance.ensures, c.respond_to.ensures.loads, c.respond_to.ensures.ways, c.next_parts-parts.ensures.0, c.next_parts-parts.ensures.1)
