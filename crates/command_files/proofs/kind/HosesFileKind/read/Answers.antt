use Rattle.std.proofs.Common.{arith, refl}
use Rattle.te_model.proofs.WellFormed.{few_nodes}
use Rattle.hose_bound.specs.declared.fault.HoseFault.TheVariants.{Shape, Rule, Memory}
use Rattle.hose_bound.specs.Reading.{MeansHose}
use Rattle.command_files.proofs.MeantFiles.{fault_meant, value_meant}
use Rattle.command_files.proofs.kind.HosesFileKind.read.Goals as goal

pub read_bounds-requires : goal.read_bounds-requires
read_bounds-requires c = let few = few_nodes c.args.self.now.network.now c.requires.ready in omega (arith, few)

pub returns-in-Ok-clause-reads : goal.returns-in-Ok-clause-reads
returns-in-Ok-clause-reads c = value_meant (MeansHose c.args.self.now.network.now c.args.bytes.now) Memory c.in-Ok.hose c.in-Ok.ensures.hose

pub returns-in-Err-Shape-clause-reads : goal.returns-in-Err-Shape-clause-reads
returns-in-Err-Shape-clause-reads c = (
  Shape c.in-Err-Shape.line,
  fault_meant (MeansHose c.args.self.now.network.now c.args.bytes.now) Memory c.in-Err-Shape.field-0 (Shape c.in-Err-Shape.line)
      c.in-Err-Shape.field-0-is (λ e. cc) c.in-Err-Shape.ensures.hose,
  refl,
)

pub returns-in-Err-Rule-clause-reads : goal.returns-in-Err-Rule-clause-reads
returns-in-Err-Rule-clause-reads c = (
  Rule c.in-Err-Rule.rule,
  fault_meant (MeansHose c.args.self.now.network.now c.args.bytes.now) Memory c.in-Err-Rule.field-0 (Rule c.in-Err-Rule.rule)
      c.in-Err-Rule.field-0-is (λ e. cc) c.in-Err-Rule.ensures.hose,
  refl,
)
