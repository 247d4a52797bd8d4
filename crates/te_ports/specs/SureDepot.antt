-- What a depot whose reads never fail shows: the bytes of each name.
use Rattle.std.specs.Prelude.{ℕ, List, [], unwrap_or, Some}
use Rattle.std.specs.declared.option.Option.{Option}
use Rattle.std.specs.Option.{option_map}
use Rattle.std.specs.BTreeMap.{get_by_text}
use Rattle.te_ports.specs.Calls.{reads_of}
use Rattle.te_ports.specs.Record.{Read}
use Rattle.te_ports.specs.declared.sure_depot.SureDepot.{SureDepot}

-- the bytes of a name, and none of a name that was not added
abbrev pub sure_content : SureDepot → List ℕ → List ℕ
sure_content d name = unwrap_or (option_map (λ v. v.items) (get_by_text d.files name)) []

-- every name is told
abbrev pub sure_told : SureDepot → List ℕ → Option (List ℕ)
sure_told d name = Some (sure_content d name)

-- the reads that were made
abbrev pub sure_gave : SureDepot → List Read
sure_gave d = reads_of d.log.calls
