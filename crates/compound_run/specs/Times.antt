-- The times that an operation sets, by the time of the call (RFC 8881, sections 3.3.3 and 5.8.2).
use Rattle.std.specs.Prelude.{if◌then◌else◌, unwrap_or, ◌||◌, Bool, is_some, Option, Some, None}
use Rattle.std.specs.Option.{option_map}
use Rattle.nfs_types.specs.Sent.{Wanted}
use Rattle.nfs_types.specs.declared.moment.Moment.{Moment}
use Rattle.nfs_types.specs.declared.set_time.SetTime.{SetTime}
use Rattle.nfs_types.specs.declared.set_time.SetTime.TheVariants.{Server, Client}
use Rattle.access_rows.specs.declared.facts.Clock.{Clock}
use Rattle.access_rows.specs.declared.facts.Clock.TheVariants as clocks

-- the moment that is set: that of the call, or the client's
abbrev pub moment_by : Moment → SetTime → Moment
moment_by now Server = now
moment_by now (Client moment) = moment

abbrev pub moment_set : Moment → Option SetTime → Option Moment
moment_set now time = option_map (moment_by now) time

-- whose time is set, if one is; a client's time beside the server's is a client's
abbrev pub clock_by : (access modify : Option SetTime) → Option Clock
clock_by None None = None
clock_by None (Some Server) = Some clocks.Server
clock_by None (Some (Client moment)) = Some clocks.Client
clock_by (Some Server) None = Some clocks.Server
clock_by (Some Server) (Some Server) = Some clocks.Server
clock_by (Some Server) (Some (Client moment)) = Some clocks.Client
clock_by (Some (Client moment)) modify = Some clocks.Client

abbrev pub clock_of : Wanted → Option Clock
clock_of wanted = clock_by wanted.access wanted.modify

-- whether a time is set
abbrev pub sets_times : Wanted → Bool
sets_times wanted = is_some wanted.access || is_some wanted.modify

-- ---- the times of a new object: those that are set, else the time of the call

-- Without times in the profile, time_access is time_modify.
abbrev pub first_access : (times : Bool) → (now : Moment) → Option SetTime → Option Moment
first_access times now access = if times then Some (unwrap_or (moment_set now access) now) else None

abbrev pub first_modify : (now : Moment) → Option SetTime → Moment
first_modify now modify = unwrap_or (moment_set now modify) now
