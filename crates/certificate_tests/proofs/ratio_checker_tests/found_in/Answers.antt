use Rattle.certificate_tests.proofs.ratio_checker_tests.found_in.Goals as goal

pub found-requires : goal.found-requires
found-requires c = c.in_ok-cert.ensures.spelled.0
