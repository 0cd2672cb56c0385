-- The words of `nfsd`: the files, the flags and the numbers that `clap`'s reading gives for them.
use Rattle.std.specs.Prelude.{◌≡◌, ◌⊎◌, ◌&&◌, ◌||◌, ℕ, Bool, true, false, not, List, [], Option, Some, None, codes}
use Rattle.std.specs.Prelude.{if◌then◌else◌}
use Rattle.std.specs.Prelude.{Any, Ok, Err, Result, is_some, length, nat_lt, option_map, pos, unwrap_or}
use Rattle.std.specs.List.{list_any}
use Rattle.std.specs.Net.Grammar.{IsIpText}
use Rattle.std.specs.Str.{bytes_eq}
use Rattle.std.specs.Str.Parse.{signed_digits_value}
use Rattle.std.specs.declared.net.ip_addr.IpAddr.{IpAddr}
use Rattle.clap.specs.Kinds.{HasKind}
use Rattle.clap.specs.Values.{kind_of}
use Rattle.clap.specs.Words.{IsSignedIn, Text, all_of, fault_of, first_of, matches_of}
use Rattle.clap.specs.declared.error.Error.{Error}
use Rattle.clap.specs.declared.error.kind.ErrorKind.{ErrorKind}
use Rattle.clap.specs.declared.error.kind.ErrorKind.TheVariants.{ArgumentConflict, MissingRequiredArgument}
use Rattle.clap.specs.declared.error.kind.ErrorKind.TheVariants.{OutOfMemory, TooManyValues, ValueValidation}
use Rattle.networks.specs.Address.{is_loopback}
use Rattle.networks.specs.Text.{HasFault, Writes}
use Rattle.networks.specs.declared.reading.NetworkError.{NetworkError}
use Rattle.nfsd_options.specs.Lists.{WriteEach}
use Rattle.nfsd_options.specs.Profiles.{profile_of}
use Rattle.nfsd_options.specs.Simple.{nfsd}
use Rattle.nfsd_options.specs.declared.options.Options.{Options}
use Rattle.nfsd_options.specs.declared.profile.Profile.{Profile}
use Rattle.nfsd_options.specs.declared.profile.Profile.TheVariants.{Standard, Office}

-- the text that `clap`'s reading of the words gives for an option; the text of a flag is `true` or `false`
abbrev pub given : Text → List Text → Option Text
given option words = first_of option (matches_of nfsd words)

-- the texts that it gives for an option that may be given more than once
abbrev pub listed : Text → List Text → List Text
listed option words = unwrap_or (all_of option (matches_of nfsd words)) []

-- whether the text of a flag sets it
abbrev pub is_set : Option Text → Bool
is_set None = false
is_set (Some text) = bytes_eq text (codes "true")

-- n is the number that the text spells, from low to high; where no text is given, n is the default
abbrev pub IsNumber : ℕ → ℕ → ℕ → Option Text → ℕ → Type 0
IsNumber default low high None n = n ≡ default
IsNumber default low high (Some text) n = IsSignedIn (pos low) (pos high) text × (signed_digits_value 10 text ≡ pos n)

-- how many connections are served where the words have no number
abbrev pub default_connections : Bool → ℕ
default_connections concurrent = if concurrent then 4294967295 else 1

-- o are the options of the words
pub record OptionsOf (words : List Text) (o : Options) : Type 0 where
  pub book : option_map (λ file. file.now) o.book ≡ given (codes "book") words
  pub bare : o.bare ≡ is_set (given (codes "bare") words)
  pub port : IsNumber 2049 1 65535 (given (codes "port") words) o.port
  pub connections : IsNumber (default_connections (o.concurrent || is_some o.home)) 0 4294967295
      (given (codes "connections") words) o.connections
  pub concurrent : o.concurrent ≡ is_set (given (codes "concurrent") words)
  pub trail : option_map (λ file. file.now) o.trail ≡ given (codes "trail") words
  pub stamped : o.stamped ≡ is_set (given (codes "stamped") words)
  pub privileged_ports : o.privileged_ports ≡ is_set (given (codes "privileged-ports") words)
  pub store : option_map (λ folder. folder.now) o.store ≡ given (codes "store") words
  pub leases : o.leases ≡ is_set (given (codes "leases") words)
  pub home : option_map (λ folder. folder.now) o.home ≡ given (codes "home") words
  pub profile : profile_of (given (codes "profile") words) ≡ Some o.profile
  pub listen : WriteEach IsIpText (listed (codes "listen") words) o.listen.items
  pub allow : WriteEach Writes (listed (codes "allow") words) o.allow.items
  pub any_port : o.any_port ≡ is_set (given (codes "any-port") words)

-- the options that were given, of those that can't all be given together
pub record Together : Type 0 where
  pub bare : Bool
  pub trail : Bool
  pub stamped : Bool
  pub ports : Bool
  pub store : Bool
  pub book : Bool
  pub concurrent : Bool
  pub leases : Bool
  pub home : Bool
  pub office : Bool
  pub listen : Bool
  pub allow : Bool
  pub any_port : Bool
  -- more addresses or networks than there may be
  pub many : Bool
  -- an address that isn't loopback
  pub beyond : Bool

-- a home means these options
abbrev pub is_meant : Together → Bool
is_meant t = t.book || (t.concurrent || (t.trail || (t.stamped || (t.store || t.leases))))

-- these options say where it listens, and to whom
abbrev pub is_for_listening : Together → Bool
is_for_listening t = t.listen || (t.allow || t.any_port)

-- whether it is the office profile
abbrev pub is_office : Profile → Bool
is_office Standard = false
is_office Office = true

-- Any port is no privileged one. There are at most 8 addresses and 64 networks. Where other machines
-- reach an address, somebody must be allowed. The lines of a trail that goes to no file have no moments.
abbrev pub listening_mistake : Together → Option ErrorKind
listening_mistake t =
    if t.any_port && t.ports then Some ArgumentConflict
    else if t.many then Some TooManyValues
    else if t.beyond && not t.allow then Some MissingRequiredArgument
    else if t.stamped && not t.trail then Some MissingRequiredArgument
    else None

-- Options that can't be given together. A home isn't that of the sample tree, and goes with none of
-- the options that it means. The sample tree has no file of the trail, listens nowhere, has no store,
-- and has the limits of the standard profile.
abbrev pub mistake : Together → Option ErrorKind
mistake t =
    if t.home && (t.bare || is_meant t) then Some ArgumentConflict
    else if t.bare && (t.trail || (t.ports || (is_for_listening t || (t.store || t.office)))) then Some ArgumentConflict
    else listening_mistake t

abbrev pub together : Options → Together
together o = record {
  bare = o.bare;
  trail = is_some o.trail;
  stamped = o.stamped;
  ports = o.privileged_ports;
  store = is_some o.store;
  book = is_some o.book;
  concurrent = o.concurrent;
  leases = o.leases;
  home = is_some o.home;
  office = is_office o.profile;
  listen = nat_lt 0 (length o.listen.items);
  allow = nat_lt 0 (length o.allow.items);
  any_port = o.any_port;
  many = nat_lt 8 (length o.listen.items) || nat_lt 64 (length o.allow.items);
  beyond = list_any (λ a. not (is_loopback a)) o.listen.items;
}

-- a text of `--listen` writes no address, or one of `--allow` no network, or no profile has the name of `--profile`
abbrev pub HasUnreadText : List Text → Type 0
HasUnreadText words =
    Any (λ text. (a : IpAddr) → ¬ (IsIpText text a)) (listed (codes "listen") words)
    ⊎ Any (λ text. (fault : NetworkError) × HasFault text fault) (listed (codes "allow") words)
    ⊎ (profile_of (given (codes "profile") words) ≡ None)

-- the words have this fault: one of `clap`'s reading; and else a text that writes no value
abbrev pub FailsToRead : List Text → Error → Type 0
FailsToRead words e = HasKind (fault_of nfsd words) e
    ⊎ ((fault_of nfsd words ≡ []) × (kind_of e ≡ ValueValidation) × HasUnreadText words)

-- the words are read, or have such a fault
abbrev pub AreReadOr : {T : Type 0} → List Text → Result T Error → Type 0
AreReadOr words (Ok o) = fault_of nfsd words ≡ []
AreReadOr words (Err e) = FailsToRead words e

-- the options of the words can't be given together, which is an error of this kind
abbrev pub IsMistaken : List Text → ErrorKind → Type 0
IsMistaken words kind = (o : Options) × OptionsOf words o × (mistake (together o) ≡ Some kind)

-- The words are taken where they have no fault and their options no mistake. Where they are refused, they have a
-- fault; or they have none, and their options have a mistake of the error's kind; or memory ran out.
abbrev pub IsTakenOr : List Text → Result Options Error → Type 0
IsTakenOr words (Ok o) = (fault_of nfsd words ≡ []) × (mistake (together o) ≡ None)
IsTakenOr words (Err e) = FailsToRead words e
    ⊎ ((fault_of nfsd words ≡ []) × ((kind_of e ≡ OutOfMemory) ⊎ IsMistaken words (kind_of e)))
