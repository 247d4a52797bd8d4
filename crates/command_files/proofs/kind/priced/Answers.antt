use Rattle.std.proofs.Common.{◌∙◌, sym}
use Rattle.link_bounds.proofs.SameLinks.{same_links_decided}
use Rattle.command_files.proofs.kind.priced.Goals as goal

pub has_ratio_on-requires-clause-same : goal.has_ratio_on-requires-clause-same
has_ratio_on-requires-clause-same c =
    (same_links_decided c.args.certificate.now.head.network c.args.network).0 (sym c.have_same_links.ensures ∙ c.if-not-have_same_links.false)

pub returns-then-has_ratio_on-clause-sound : goal.returns-then-has_ratio_on-clause-sound
returns-then-has_ratio_on-clause-sound c = record {
  formed = c.requires.formed;
  same = (same_links_decided c.args.certificate.now.head.network c.args.network).0 (sym c.have_same_links.ensures ∙ c.if-not-have_same_links.false);
  small = sym c.has_ratio_on.ensures ∙ c.if-has_ratio_on.true;
}
