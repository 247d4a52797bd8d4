use Rattle.std.proofs.Common.{arith, refl}
use Rattle.te_model.proofs.WellFormed.{few_links, few_nodes}
use Rattle.hose_bound.specs.declared.fault.HoseFault.TheVariants.{Shape, Rule, Memory}
use Rattle.hose_bound.specs.Reading.{MeansHoseCert}
use Rattle.command_files.proofs.MeantFiles.{fault_meant, value_meant}
use Rattle.command_files.proofs.kind.HoseCertsFileKind.read.Goals as goal

pub read-requires-clause-nodes : goal.read-requires-clause-nodes
read-requires-clause-nodes c = let few = few_nodes c.args.self.now.network.now c.requires.ready in omega (arith, few)

pub read-requires-clause-links : goal.read-requires-clause-links
read-requires-clause-links c = let few = few_links c.args.self.now.network.now c.requires.ready in omega (arith, few)

pub returns-in-Ok-clause-reads : goal.returns-in-Ok-clause-reads
returns-in-Ok-clause-reads c = value_meant (MeansHoseCert c.args.self.now.network.now c.args.bytes.now) Memory c.in-Ok.cert c.in-Ok.ensures.cert

pub returns-in-Err-Shape-clause-reads : goal.returns-in-Err-Shape-clause-reads
returns-in-Err-Shape-clause-reads c = (
  Shape c.in-Err-Shape.line,
  fault_meant (MeansHoseCert c.args.self.now.network.now c.args.bytes.now) Memory c.in-Err-Shape.field-0 (Shape c.in-Err-Shape.line)
      c.in-Err-Shape.field-0-is (λ e. cc) c.in-Err-Shape.ensures.cert,
  refl,
)

pub returns-in-Err-Rule-clause-reads : goal.returns-in-Err-Rule-clause-reads
returns-in-Err-Rule-clause-reads c = (
  Rule c.in-Err-Rule.rule,
  fault_meant (MeansHoseCert c.args.self.now.network.now c.args.bytes.now) Memory c.in-Err-Rule.field-0 (Rule c.in-Err-Rule.rule)
      c.in-Err-Rule.field-0-is (λ e. cc) c.in-Err-Rule.ensures.cert,
  refl,
)
