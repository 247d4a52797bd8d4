use Rattle.std.proofs.Common.{length}
use Rattle.te_model.specs.Validity.{rule_fault}
use Rattle.ratio_witness.specs.Rules.{has_bound, has_scale, has_small_demand, is_carried, has_sound_rival, has_whole_rival}
use Rattle.ratio_witness.proofs.KeptRules.{first_of_six}
use Rattle.ratio_witness.proofs.rules.witness_fault.Goals as goal

pub returns : goal.returns
returns c =
    let h = c.args.head.now in
    let w = c.args.witness.now in
    let n = length h.routes in
    rw (
      c.or-5.ensures,
      c.or-4.ensures,
      c.or-3.ensures,
      c.or-2.ensures,
      c.or.ensures,
      c.fault_unless.ensures,
      c.fault_unless-2.ensures,
      c.has_bound.ensures,
      c.has_scale.ensures,
      c.demand_fault.ensures,
      c.carried_fault.ensures,
      c.path_fault.ensures,
      c.weight_fault.ensures,
      c.as_slice-pairs.ensures,
    ) (first_of_six (rule_fault 1 1 (λ place. has_bound w)) (rule_fault 2 1 (λ place. has_scale w)) (rule_fault 3 n (has_small_demand w))
    (rule_fault 4 n (is_carried w)) (rule_fault 5 n (has_sound_rival h w)) (rule_fault 6 n (has_whole_rival w)))
