-- The profile of a command line, by its name.
use Rattle.std.specs.Prelude.{◌≡◌, ◌⊎◌, Option, Some, None, Ok, Err, Result, codes, if◌then◌else◌}
use Rattle.std.specs.Str.{bytes_eq}
use Rattle.clap.specs.Values.{kind_of}
use Rattle.clap.specs.Words.{Text}
use Rattle.clap.specs.declared.error.Error.{Error}
use Rattle.clap.specs.declared.error.kind.ErrorKind.TheVariants.{OutOfMemory, ValueValidation}
use Rattle.nfsd_options.specs.declared.profile.Profile.{Profile}
use Rattle.nfsd_options.specs.declared.profile.Profile.TheVariants.{Standard, Office}

-- the profile of a name, where one has it
unfoldable pub profile_named : Text → Option Profile
profile_named name =
    if bytes_eq name (codes "standard") then Some Standard
    else if bytes_eq name (codes "office") then Some Office
    else None

-- the profile of the name that is given, and the standard profile where none is
abbrev pub profile_of : Option Text → Option Profile
profile_of None = Some Standard
profile_of (Some name) = profile_named name

-- the profile of the name that is given; or no profile has that name, or memory ran out
abbrev pub ReadsProfile : Option Text → Result Profile Error → Type 0
ReadsProfile name (Ok profile) = profile_of name ≡ Some profile
ReadsProfile name (Err e) = (kind_of e ≡ OutOfMemory) ⊎ ((kind_of e ≡ ValueValidation) × (profile_of name ≡ None))
