-- The limits of the profile that a command line names.
use Rattle.nfs_types.specs.Limits.{Limits, standard, office}
use Rattle.nfsd_options.specs.declared.profile.Profile.{Profile}
use Rattle.nfsd_options.specs.declared.profile.Profile.TheVariants.{Standard, Office}

abbrev pub limits_by : Profile → Limits
limits_by Standard = standard
limits_by Office = office
