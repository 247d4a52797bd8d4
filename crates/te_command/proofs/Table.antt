-- The table of the commands is sound.
use Rattle.std.proofs.Common.{◌≡◌, ℕ, List, [], ◌∷◌, Bool, true, false, cond, codes, Option, Some, None, refl, subst}
use Rattle.std.specs.Prelude.{bytes_eq, nat_le, if◌then◌else◌}
use Rattle.std.specs.Option.{option_map}
use Rattle.std.proofs.lemmas.Bool.{leb-true}
use Rattle.command_frame.specs.Table.{OfWords, IsSoundEntry, IsSoundTable}
use Rattle.step_detail.specs.declared.breakdown.Breakdown.{Breakdown}
use Rattle.step_detail.specs.declared.breakdown.Breakdown.TheVariants.{Links, Pairs, Paths}
use Rattle.plan_commands.specs.BreakDown.{step_number}
use Rattle.command_files.specs.DecimalNumber.{decimal_number}
use Rattle.plan_commands.specs.Generate.{drawn_of, nodes_and_seed}
use Rattle.routing_commands.specs.Protect.{failures_of, few_failures}
use Rattle.te_command.specs.Commands.{Command, attack, bound_hose, bound_links, break_down, challenge, check, check_hose, check_network, check_rates, check_witness, convert, protect, publish, reprice, run, generate, simulate, tighten, update, command_of, entry_of, commands}
use Rattle.certificate_commands.proofs.Attacking.{attack_is_sound}
use Rattle.certificate_commands.proofs.Challenging.{challenge_is_sound}
use Rattle.certificate_commands.proofs.Checking.{check_is_sound, check_network_is_sound}
use Rattle.routing_commands.proofs.BoundingHoses.{bound_hose_is_sound}
use Rattle.certificate_commands.proofs.Bounding.{bounds_is_sound}
use Rattle.routing_commands.proofs.CheckingHoses.{check_hose_is_sound}
use Rattle.routing_commands.proofs.CheckingRates.{check_rates_is_sound}
use Rattle.certificate_commands.proofs.CheckingWitnesses.{check_witness_is_sound}
use Rattle.certificate_commands.proofs.Converting.{convert_is_sound}
use Rattle.plan_commands.proofs.Publishing.{publish_is_sound}
use Rattle.plan_commands.proofs.Reporting.{run_is_sound}
use Rattle.certificate_commands.proofs.Repricing.{reprice_is_sound}
use Rattle.plan_commands.proofs.Drawing.{generate_is_sound, nodes_drawn}
use Rattle.routing_commands.proofs.Protecting.{protect_is_sound}
use Rattle.certificate_commands.proofs.Tightening.{tighten_is_sound}
use Rattle.routing_commands.proofs.Updating.{update_is_sound}
use Rattle.plan_commands.proofs.BreakingDown.{break_down_is_sound}
use Rattle.simulation_command.proofs.Simulating.{simulate_is_sound}

entry_is_sound : (command : Command) → IsSoundEntry (entry_of command)
entry_is_sound (attack file) = attack_is_sound file
entry_is_sound (challenge file) = challenge_is_sound file
entry_is_sound (check file) = check_is_sound file
entry_is_sound (check_network file topology) = check_network_is_sound file topology
entry_is_sound (check_witness file witness) = check_witness_is_sound file witness
entry_is_sound (convert file) = convert_is_sound file
entry_is_sound (publish file) = publish_is_sound file
entry_is_sound (run file) = run_is_sound file
entry_is_sound (generate n seed) = generate_is_sound n seed
entry_is_sound (update old new file) = update_is_sound old new file
entry_is_sound (protect certificate file failures) = protect_is_sound certificate file failures
entry_is_sound (check_rates certificate file rates) = check_rates_is_sound certificate file rates
entry_is_sound (bound_hose certificate bounds) = bound_hose_is_sound certificate bounds
entry_is_sound (check_hose certificate file) = check_hose_is_sound certificate file
entry_is_sound (bound_links certificate) = bounds_is_sound certificate
entry_is_sound (reprice certificate topology) = reprice_is_sound certificate topology
entry_is_sound (tighten certificate) = tighten_is_sound certificate
entry_is_sound (break_down breakdown file k) = break_down_is_sound breakdown k file
entry_is_sound (simulate certificate plan) = simulate_is_sound certificate plan

-- the numbers of the command are in their range, where there is one
abbrev InRangeOf : Option Command → Type 0
InRangeOf None = Unit {0}
InRangeOf (Some command) = (entry_of command).in_range

where_in_range : (test : Bool) (x y : Option Command) → InRangeOf x → InRangeOf y → InRangeOf (cond test x y)
where_in_range true x y first second = first
where_in_range false x y first second = second

drawn_in_range : (nodes seed : Option ℕ) (drawn : Option (ℕ × ℕ)) → nodes_and_seed nodes seed ≡ drawn →
    InRangeOf (option_map (λ (d : ℕ × ℕ). generate d.0 d.1) drawn)
drawn_in_range nodes seed None is = tt
drawn_in_range nodes seed (Some drawn) is = nodes_drawn nodes seed drawn is

few_in_range : (certificate file : List ℕ) (n : ℕ) (b : Bool) → nat_le n 8 ≡ b →
    InRangeOf (option_map (protect certificate file) (if b then Some n else None))
few_in_range certificate file n true is = leb-true n 8 is
few_in_range certificate file n false is = tt

failures_in_range : (certificate file : List ℕ) (number : Option ℕ) → InRangeOf (option_map (protect certificate file) (few_failures number))
failures_in_range certificate file None = tt
failures_in_range certificate file (Some n) = few_in_range certificate file n (nat_le n 8) refl

step_in_range : (breakdown : Breakdown) (file : List ℕ) (step : Option ℕ) → InRangeOf (option_map (break_down breakdown file) step)
step_in_range breakdown file None = tt
step_in_range breakdown file (Some k) = tt

asked_in_range : (words : List (List ℕ)) → InRangeOf (command_of words)
asked_in_range [] = tt
asked_in_range (word ∷ []) = tt
asked_in_range (word ∷ file ∷ []) =
    where_in_range (bytes_eq word (codes "attack")) (Some (attack file)) _ tt
    (where_in_range (bytes_eq word (codes "challenge")) (Some (challenge file)) _ tt
    (where_in_range (bytes_eq word (codes "check")) (Some (check file)) _ tt
    (where_in_range (bytes_eq word (codes "convert")) (Some (convert file)) _ tt
    (where_in_range (bytes_eq word (codes "publish")) (Some (publish file)) _ tt
    (where_in_range (bytes_eq word (codes "run")) (Some (run file)) _ tt
    (where_in_range (bytes_eq word (codes "bounds")) (Some (bound_links file)) _ tt
    (where_in_range (bytes_eq word (codes "tighten")) (Some (tighten file)) None tt tt)))))))
asked_in_range (word ∷ file ∷ next ∷ []) =
    where_in_range (bytes_eq word (codes "check")) (Some (check_network file next)) _ tt
    (where_in_range (bytes_eq word (codes "check-witness")) (Some (check_witness file next)) _ tt
    (where_in_range (bytes_eq word (codes "gen")) (option_map (λ (d : ℕ × ℕ). generate d.0 d.1) (drawn_of file next)) _
    (drawn_in_range (decimal_number file) (decimal_number next) (drawn_of file next) refl)
    (where_in_range (bytes_eq word (codes "hose")) (Some (bound_hose file next)) _ tt
    (where_in_range (bytes_eq word (codes "check-hose")) (Some (check_hose file next)) _ tt
    (where_in_range (bytes_eq word (codes "reprice")) (Some (reprice file next)) _ tt
    (where_in_range (bytes_eq word (codes "simulate")) (Some (simulate file next)) _ tt
    (where_in_range (bytes_eq word (codes "links")) (option_map (break_down Links file) (step_number next)) _
    (step_in_range Links file (step_number next))
    (where_in_range (bytes_eq word (codes "pairs")) (option_map (break_down Pairs file) (step_number next)) _
    (step_in_range Pairs file (step_number next))
    (where_in_range (bytes_eq word (codes "paths")) (option_map (break_down Paths file) (step_number next)) None
    (step_in_range Paths file (step_number next)) tt)))))))))
asked_in_range (word ∷ file ∷ next ∷ last ∷ []) =
    where_in_range (bytes_eq word (codes "update")) (Some (update file next last)) _ tt
    (where_in_range (bytes_eq word (codes "check-rates")) (Some (check_rates file next last)) _ tt
    (where_in_range (bytes_eq word (codes "protect")) (option_map (protect file next) (failures_of last)) None
    (failures_in_range file next (decimal_number last)) tt))
asked_in_range (word ∷ file ∷ next ∷ last ∷ more ∷ words) = tt

words_in_range : (words : List (List ℕ)) → OfWords commands words (λ command. (entry_of command).in_range)
words_in_range words command named = subst InRangeOf named (asked_in_range words)

pub table_is_sound : IsSoundTable commands
table_is_sound = record { entries = entry_is_sound; in_range = words_in_range }
