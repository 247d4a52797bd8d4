-- Which errors of `csv` a reader over bytes in memory may meet.
use Rattle.csv.specs.declared.error.ErrorKind.{ErrorKind}
use Rattle.csv.specs.declared.error.ErrorKind.TheVariants as kind

-- memory was short, or the reader underneath failed
abbrev pub IsShortOrUnread : ErrorKind → Type 0
IsShortOrUnread (kind.Io e) = Unit {0}
IsShortOrUnread kind.OutOfMemory = Unit {0}
IsShortOrUnread (kind.UnequalLengths pos expected len) = ⊥
IsShortOrUnread (kind.Utf8 pos err) = ⊥
IsShortOrUnread (kind.Serialize why) = ⊥
IsShortOrUnread (kind.Deserialize pos err) = ⊥
