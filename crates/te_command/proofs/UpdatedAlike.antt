-- What `update` says of a file and of the one that `convert` makes of it, as the older certificate and as the newer one.
use Rattle.std.proofs.Common.{◌≡◌, ℕ, List, [], Option, Some, inl, inr}
use Rattle.te_ports.specs.Record.{Read as FileRead}
use Rattle.te_model.specs.declared.certificate.Certificate.{Certificate}
use Rattle.te_model.specs.declared.certificate.Head.{Head}
use Rattle.te_model.specs.declared.route.Pair.{Pair}
use Rattle.te_model.specs.Upgrade.{upgraded_certificate}
use Rattle.traffic_matrix.specs.First.{first_matrix}
use Rattle.update_plan.specs.Answer.{IsUpdateText}
use Rattle.command_frame.specs.Files.{told_files, told_passes}
use Rattle.command_frame.specs.Reading.{Means, MeansAfter}
use Rattle.te_command.specs.Commands.{convert, reading_of, update}
use Rattle.routing_commands.specs.Update.{matrices_reading, newer_reading}
use Rattle.te_command.proofs.Alike.{after_conversion}

-- of a head no more counts than its network and its routes
older_kept : (c : Certificate) (new : Head) (pairs : List Pair) (demand : List ℕ) (status : ℕ) (text : List ℕ) →
    IsUpdateText c.head new pairs demand status text → IsUpdateText (upgraded_certificate c).head new pairs demand status text
older_kept c new pairs demand status text (inl apart) = inl apart
older_kept c new pairs demand status text (inr (inl differ)) = inr (inl differ)
older_kept c new pairs demand status text (inr (inr (same, have, inl is))) =
    inr (inr (same, have, inl (record { plan = is.plan; is_plan = is.is_plan; status_is = is.status_is; text_is = is.text_is })))
older_kept c new pairs demand status text (inr (inr (same, have, inr is))) =
    inr (inr (same, have, inr (record { link = is.link; lacks = is.lacks; status_is = is.status_is; text_is = is.text_is })))

newer_kept : (old : Head) (c : Certificate) (pairs : List Pair) (demand : List ℕ) (status : ℕ) (text : List ℕ) →
    IsUpdateText old c.head pairs demand status text → IsUpdateText old (upgraded_certificate c).head pairs demand status text
newer_kept old c pairs demand status text (inl apart) = inl apart
newer_kept old c pairs demand status text (inr (inl differ)) = inr (inl differ)
newer_kept old c pairs demand status text (inr (inr (same, have, inl is))) =
    inr (inr (same, have, inl (record { plan = is.plan; is_plan = is.is_plan; status_is = is.status_is; text_is = is.text_is })))
newer_kept old c pairs demand status text (inr (inr (same, have, inr is))) =
    inr (inr (same, have, inr (record { link = is.link; lacks = is.lacks; status_is = is.status_is; text_is = is.text_is })))

after_older : (c : Certificate) (content : List ℕ → Option (List ℕ)) (newer file : List ℕ) (before : List FileRead) (status : ℕ) (text : List ℕ) →
    MeansAfter (newer_reading newer file c.head) (told_passes content) before status text →
    MeansAfter (newer_reading newer file (upgraded_certificate c).head) (told_passes content) before status text
after_older c content newer file before status text (inl refused) = inl refused
after_older c content newer file before status text (inr (d, now, spells, inl refused)) = inr (d, now, spells, inl refused)
after_older c content newer file before status text (inr (d, now, spells, inr (series, then, makes, (is, ended)))) =
    inr (d, now, spells, inr (series, then, makes, (older_kept c d.head series.pairs.list (first_matrix series).demand status text is, ended)))

after_newer : (old : Head) (c : Certificate) (content : List ℕ → Option (List ℕ)) (file : List ℕ) (before : List FileRead) (status : ℕ) (text : List ℕ) →
    MeansAfter (matrices_reading file old c.head) (told_passes content) before status text →
    MeansAfter (matrices_reading file old (upgraded_certificate c).head) (told_passes content) before status text
after_newer old c content file before status text (inl refused) = inl refused
after_newer old c content file before status text (inr (series, now, makes, (is, ended))) =
    inr (series, now, makes, (newer_kept old c series.pairs.list (first_matrix series).demand status text is, ended))

pub older_alike : (content : List ℕ → Option (List ℕ)) (file made newer matrices made_text text : List ℕ) (status : ℕ) → content made ≡ Some made_text →
    Means (reading_of (convert file)) (told_files content) 0 made_text → Means (reading_of (update file newer matrices)) (told_files content) status text →
    Means (reading_of (update made newer matrices)) (told_files content) status text
older_alike content file made newer matrices made_text text status at converted means =
    after_conversion content file made made_text (λ spelled. newer_reading newer matrices spelled.head) [] status text at converted
    (λ c now. after_older c content newer matrices now status text) means

pub newer_alike : (content : List ℕ → Option (List ℕ)) (file made older matrices made_text text : List ℕ) (status : ℕ) → content made ≡ Some made_text →
    Means (reading_of (convert file)) (told_files content) 0 made_text → Means (reading_of (update older file matrices)) (told_files content) status text →
    Means (reading_of (update older made matrices)) (told_files content) status text
newer_alike content file made older matrices made_text text status at converted (inl refused) = inl refused
newer_alike content file made older matrices made_text text status at converted (inr (c, now, spells, rest)) =
    inr (
      c,
      now,
      spells,
      after_conversion content file made made_text (λ spelled. matrices_reading matrices c.head spelled.head) now status text at converted
          (λ d then. after_newer c.head d content matrices then status text) rest,
    )
