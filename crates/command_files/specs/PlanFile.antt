-- The file of a plan.
use Rattle.std.specs.Prelude.{List, ℕ, ◌++◌, codes}
use Rattle.plan.specs.Plan.{plan_of}
use Rattle.plan.specs.Words.{key_word}
use Rattle.plan.specs.declared.experiment.Experiment.{Experiment}
use Rattle.plan.specs.declared.fault.PlanFault.{PlanFault}
use Rattle.plan.specs.declared.fault.PlanFault.TheVariants.{NotJson, UnknownKey, Missing, Kind as OfKind, Range, SchemeName, Memory}
use Rattle.command_frame.specs.Reading.{Kind}
use Rattle.command_files.specs.InputFile.{inputs}

-- the words for a fault, which name the key
abbrev pub plan_reason : PlanFault → List ℕ
plan_reason NotJson = codes "not json"
plan_reason UnknownKey = codes "unknown key"
plan_reason (Missing key) = codes "missing " ++ key_word key
plan_reason (OfKind key) = codes "kind of " ++ key_word key
plan_reason (Range key) = codes "range of " ++ key_word key
plan_reason (SchemeName key) = codes "scheme name of " ++ key_word key
plan_reason Memory = codes "memory"

-- what the plan says, or its first fault
abbrev pub plans : Kind Experiment
plans = inputs plan_reason plan_of
