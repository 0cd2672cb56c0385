-- The kinds of the errors of options that can't be given together.
use Rattle.clap.specs.declared.error.kind.ErrorKind.{ErrorKind}
use Rattle.clap.specs.declared.error.kind.ErrorKind.TheVariants.{ArgumentConflict, MissingRequiredArgument}
use Rattle.clap.specs.declared.error.kind.ErrorKind.TheVariants.{TooManyValues}
use Rattle.nfsd_options.specs.declared.mistake.Mistake.{Mistake}
use Rattle.nfsd_options.specs.declared.mistake.Mistake.TheVariants.{HomeWithOthers, TrailOfBare, PortsOfBare}
use Rattle.nfsd_options.specs.declared.mistake.Mistake.TheVariants.{StoreOfBare, NothingToStamp}
use Rattle.nfsd_options.specs.declared.mistake.Mistake.TheVariants.{ListeningOfBare, OfficeOfBare}
use Rattle.nfsd_options.specs.declared.mistake.Mistake.TheVariants.{AnyIsPrivileged, TooMany}
use Rattle.nfsd_options.specs.declared.mistake.Mistake.TheVariants.{NobodyAllowed}

abbrev pub kind_at : Mistake → ErrorKind
kind_at HomeWithOthers = ArgumentConflict
kind_at TrailOfBare = ArgumentConflict
kind_at PortsOfBare = ArgumentConflict
kind_at StoreOfBare = ArgumentConflict
kind_at ListeningOfBare = ArgumentConflict
kind_at OfficeOfBare = ArgumentConflict
kind_at AnyIsPrivileged = ArgumentConflict
kind_at TooMany = TooManyValues
kind_at NobodyAllowed = MissingRequiredArgument
kind_at NothingToStamp = MissingRequiredArgument
