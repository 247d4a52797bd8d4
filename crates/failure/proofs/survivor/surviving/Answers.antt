use Rattle.failure.proofs.NetworkLemmas.{all-stand, well-formed}
use Rattle.failure.proofs.survivor.surviving.Goals as goal

pub links_at-requires : goal.links_at-requires
links_at-requires c = rw (c.as_slice.ensures.value, c.in_ok-origin.ensures) (all-stand c.args.net.now c.args.failed.now c.requires.marks)

pub returns-clause-well_formed : goal.returns-clause-well_formed
returns-clause-well_formed c =
    rw (c.in_ok-copy_names.ensures, c.as_slice-2.ensures, c.new.ensures, c.in_ok-links.ensures, c.as_slice.ensures.value, c.in_ok-origin.ensures)
    (well-formed c.args.net.now c.args.failed.now c.requires.marks c.requires.network)
