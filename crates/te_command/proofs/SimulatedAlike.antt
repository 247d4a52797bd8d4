-- The routing of a certificate and that of the file that `convert` makes of it are simulated alike.
use Rattle.std.proofs.Common.{◌≡◌, ℕ, List, [], Option, Some}
use Rattle.command_frame.specs.Files.{told_files}
use Rattle.command_frame.specs.Reading.{Means}
use Rattle.te_command.specs.Commands.{convert, reading_of, simulate}
use Rattle.simulation_command.specs.Simulate.{simulation_reading}
use Rattle.simulation_command.proofs.UpgradedAlike.{after_upgrade, before_upgrade}
use Rattle.te_command.proofs.Alike.{after_conversion, before_conversion}

pub simulated_alike : (content : List ℕ → Option (List ℕ)) (file made plan made_text text : List ℕ) (status : ℕ) → content made ≡ Some made_text →
    Means (reading_of (convert file)) (told_files content) 0 made_text → Means (reading_of (simulate file plan)) (told_files content) status text →
    Means (reading_of (simulate made plan)) (told_files content) status text
simulated_alike content file made plan made_text text status at converted means =
    after_conversion content file made made_text (simulation_reading plan) [] status text at converted (λ c now. after_upgrade c content plan now status text) means

pub simulated_before : (content : List ℕ → Option (List ℕ)) (file made plan made_text text : List ℕ) (status : ℕ) → content made ≡ Some made_text →
    Means (reading_of (convert file)) (told_files content) 0 made_text → Means (reading_of (simulate made plan)) (told_files content) status text →
    Means (reading_of (simulate file plan)) (told_files content) status text
simulated_before content file made plan made_text text status at converted means =
    before_conversion content file made made_text (simulation_reading plan) [] status text at converted (λ c now. before_upgrade c content plan now status text) means
