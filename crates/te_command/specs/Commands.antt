-- The commands of the program: the words that ask for them, and the table of what each reads and answers.
use Rattle.std.specs.Prelude.{ℕ, List, [], ◌∷◌, codes, if◌then◌else◌, Option, Some, None}
use Rattle.std.specs.Option.{option_map}
use Rattle.std.specs.Str.{bytes_eq}
use Rattle.command_frame.specs.Reading.{Reading}
use Rattle.command_frame.specs.Table.{Entry, TableOf}
use Rattle.step_detail.specs.declared.breakdown.Breakdown.{Breakdown}
use Rattle.step_detail.specs.declared.breakdown.Breakdown.TheVariants.{Links, Pairs, Paths}
use Rattle.certificate_commands.specs.Attack.{attack_entry}
use Rattle.routing_commands.specs.BoundHose.{bound_hose_entry}
use Rattle.certificate_commands.specs.Bounds.{bounds_entry}
use Rattle.plan_commands.specs.BreakDown.{break_down_entry, step_number}
use Rattle.certificate_commands.specs.Challenge.{challenge_entry}
use Rattle.command_files.specs.Check.{check_entry, check_network_entry}
use Rattle.routing_commands.specs.CheckHose.{check_hose_entry}
use Rattle.routing_commands.specs.CheckRates.{check_rates_entry}
use Rattle.certificate_commands.specs.CheckWitness.{check_witness_entry}
use Rattle.certificate_commands.specs.Convert.{convert_entry}
use Rattle.plan_commands.specs.Generate.{drawn_of, generate_entry}
use Rattle.routing_commands.specs.Protect.{failures_of, protect_entry}
use Rattle.plan_commands.specs.Publish.{publish_entry}
use Rattle.plan_commands.specs.Report.{run_entry}
use Rattle.certificate_commands.specs.Reprice.{reprice_entry}
use Rattle.simulation_command.specs.Simulate.{simulate_entry}
use Rattle.certificate_commands.specs.Tighten.{tighten_entry}
use Rattle.routing_commands.specs.Update.{update_entry}

-- what is asked for: of `attack`, `challenge`, `check`, `check-witness` and `convert`, the name of the certificate, and of `check` that of the topology
-- where one is given, of `check-witness` that of the witness; of `publish` and `run`, the name of the plan; of `gen`, the number of nodes and
-- the seed; of `update`, the names of the older certificate, the newer one and the matrices; of `protect` and `check-rates`, the names of
-- the certificate and the matrices, and the number of links that may fail or the name of the rates; of `hose` and `check-hose`, the names of
-- the certificate and of the bounds or the hose certificate; of `bounds`, `reprice` and `tighten`, the name of the certificate, and of
-- `reprice` that of the topology; of `links`, `pairs` and `paths`, by what a step is broken down, the name of the plan and the number of the step; of `simulate`,
-- the names of the certificate and of the plan
pub data Command : Type 0 where
  attack : List ℕ → Command
  challenge : List ℕ → Command
  check : List ℕ → Command
  check_network : List ℕ → List ℕ → Command
  check_witness : List ℕ → List ℕ → Command
  convert : List ℕ → Command
  publish : List ℕ → Command
  run : List ℕ → Command
  generate : ℕ → ℕ → Command
  update : List ℕ → List ℕ → List ℕ → Command
  protect : List ℕ → List ℕ → ℕ → Command
  check_rates : List ℕ → List ℕ → List ℕ → Command
  bound_hose : List ℕ → List ℕ → Command
  check_hose : List ℕ → List ℕ → Command
  bound_links : List ℕ → Command
  reprice : List ℕ → List ℕ → Command
  tighten : List ℕ → Command
  break_down : Breakdown → List ℕ → ℕ → Command
  simulate : List ℕ → List ℕ → Command

-- the command of the words, where they are one of the forms
abbrev pub command_of : List (List ℕ) → Option Command
command_of [] = None
command_of (word ∷ []) = None
command_of (word ∷ file ∷ []) =
    if bytes_eq word (codes "attack") then Some (attack file)
    else if bytes_eq word (codes "challenge") then Some (challenge file)
    else if bytes_eq word (codes "check") then Some (check file)
    else if bytes_eq word (codes "convert") then Some (convert file)
    else if bytes_eq word (codes "publish") then Some (publish file)
    else if bytes_eq word (codes "run") then Some (run file)
    else if bytes_eq word (codes "bounds") then Some (bound_links file)
    else if bytes_eq word (codes "tighten") then Some (tighten file)
    else None
command_of (word ∷ file ∷ next ∷ []) =
    if bytes_eq word (codes "check") then Some (check_network file next)
    else if bytes_eq word (codes "check-witness") then Some (check_witness file next)
    else if bytes_eq word (codes "gen") then option_map (λ drawn. generate drawn.0 drawn.1) (drawn_of file next)
    else if bytes_eq word (codes "hose") then Some (bound_hose file next)
    else if bytes_eq word (codes "check-hose") then Some (check_hose file next)
    else if bytes_eq word (codes "reprice") then Some (reprice file next)
    else if bytes_eq word (codes "simulate") then Some (simulate file next)
    else if bytes_eq word (codes "links") then option_map (break_down Links file) (step_number next)
    else if bytes_eq word (codes "pairs") then option_map (break_down Pairs file) (step_number next)
    else if bytes_eq word (codes "paths") then option_map (break_down Paths file) (step_number next)
    else None
command_of (word ∷ file ∷ next ∷ last ∷ []) =
    if bytes_eq word (codes "update") then Some (update file next last)
    else if bytes_eq word (codes "check-rates") then Some (check_rates file next last)
    else if bytes_eq word (codes "protect") then option_map (protect file next) (failures_of last)
    else None
command_of (word ∷ file ∷ next ∷ last ∷ more ∷ words) = None

-- what each reads and answers
abbrev pub entry_of : Command → Entry
entry_of (attack certificate) = attack_entry certificate
entry_of (challenge certificate) = challenge_entry certificate
entry_of (check certificate) = check_entry certificate
entry_of (check_network certificate topology) = check_network_entry certificate topology
entry_of (check_witness certificate witness) = check_witness_entry certificate witness
entry_of (convert certificate) = convert_entry certificate
entry_of (publish plan) = publish_entry plan
entry_of (run plan) = run_entry plan
entry_of (generate nodes seed) = generate_entry nodes seed
entry_of (update old new matrices) = update_entry old new matrices
entry_of (protect certificate matrices failures) = protect_entry certificate matrices failures
entry_of (check_rates certificate matrices rates) = check_rates_entry certificate matrices rates
entry_of (bound_hose certificate bounds) = bound_hose_entry certificate bounds
entry_of (check_hose certificate file) = check_hose_entry certificate file
entry_of (bound_links certificate) = bounds_entry certificate
entry_of (reprice certificate topology) = reprice_entry certificate topology
entry_of (tighten certificate) = tighten_entry certificate
entry_of (break_down breakdown plan k) = break_down_entry breakdown plan k
entry_of (simulate certificate plan) = simulate_entry certificate plan

-- the table of commands
abbrev pub commands : TableOf Command
commands = record { command_of = command_of; entry_of = entry_of }

abbrev pub reading_of : Command → Reading
reading_of command = (entry_of command).reading

-- what a command may answer, whatever its files hold
abbrev pub MayAnswer : Command → ℕ → List ℕ → Type 0
MayAnswer command = (entry_of command).may_answer

-- what told files of the command mean has one text
abbrev pub MeansOneText : Command → Type 0
MeansOneText command = (entry_of command).has_one_text
