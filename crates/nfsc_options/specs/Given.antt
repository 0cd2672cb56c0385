-- The options of the client's command lines: the numbers and the texts that `clap`'s reading gives for them.
use Rattle.std.specs.Prelude.{◌≡◌, ◌⊎◌, ℕ, List, [], ◌∷◌, Option, Some, None, codes, map, option_map, pos}
use Rattle.std.specs.Prelude.{Ok, Err, Result, IsSomeAnd}
use Rattle.std.specs.Net.Addr.{IsV4And, ipv4_octets}
use Rattle.std.specs.Net.Grammar.{IsIpText}
use Rattle.std.specs.declared.net.ip_addr.IpAddr.{IpAddr}
use Rattle.std.specs.Str.Parse.{signed_digits_value}
use Rattle.clap.specs.Kinds.{HasKind}
use Rattle.clap.specs.Values.{kind_of}
use Rattle.clap.specs.Words.{App, IsSignedIn, Text, all_of, fault_of, first_of, matches_of}
use Rattle.clap.specs.declared.error.Error.{Error}
use Rattle.clap.specs.declared.error.kind.ErrorKind.TheVariants.{OutOfMemory, ValueValidation}
use Rattle.nfsc_options.specs.Simple.{nfsc, nfslab}
use Rattle.nfsc_options.specs.declared.lab.LabOptions.{LabOptions}
use Rattle.nfsc_options.specs.declared.options.Options.{Options}

-- the text that `clap`'s reading of the words gives for an option
abbrev pub given : App → Text → List Text → Option Text
given app option words = first_of option (matches_of app words)

-- a text is given, and n is the number that it spells, from low to high
abbrev pub IsNumber : ℕ → ℕ → ℕ → Option Text → Type 0
IsNumber low high n None = ⊥
IsNumber low high n (Some text) = IsSignedIn (pos low) (pos high) text × (signed_digits_value 10 text ≡ pos n)

-- n is the number that the text spells, from low to high; if no text is given, n is the default
abbrev pub IsNumberOr : ℕ → ℕ → ℕ → ℕ → Option Text → Type 0
IsNumberOr default low high n None = n ≡ default
IsNumberOr default low high n (Some text) = IsNumber low high n (Some text)

-- a is the address that the text writes; if no text is given, 127.0.0.1
abbrev pub IsHost : IpAddr → Option Text → Type 0
IsHost a None = IsV4And a (λ ip. ipv4_octets ip ≡ 127 ∷ 0 ∷ 0 ∷ 1 ∷ [])
IsHost a (Some text) = IsIpText text a

-- a text is given, and it writes no address
abbrev pub IsNoHost : Option Text → Type 0
IsNoHost given = IsSomeAnd given (λ text. (a : IpAddr) → ¬ (IsIpText text a))

-- the address; or an allocation failed, or the text writes no address
abbrev pub ReadsHost : Option Text → Result IpAddr Error → Type 0
ReadsHost given (Ok a) = IsHost a given
ReadsHost given (Err e) = (kind_of e ≡ OutOfMemory) ⊎ ((kind_of e ≡ ValueValidation) × IsNoHost given)

-- o are the options of a command line of `nfsc`
pub record OptionsOf (words : List Text) (o : Options) : Type 0 where
  pub port : IsNumber 1 65535 o.port (given nfsc (codes "port") words)
  pub uid : IsNumber 0 4294967295 o.uid (given nfsc (codes "uid") words)
  pub gid : IsNumber 0 4294967295 o.gid (given nfsc (codes "gid") words)
  pub timeout : IsNumberOr 30 1 86400 o.timeout (given nfsc (codes "timeout") words)
  pub groups : option_map (λ text. text.now) o.groups ≡ given nfsc (codes "groups") words
  pub person : option_map (λ name. name.now) o.person ≡ given nfsc (codes "as") words
  pub book : option_map (λ file. file.now) o.book ≡ given nfsc (codes "book") words
  pub host : IsHost o.host (given nfsc (codes "host") words)
  pub command : all_of (codes "command") (matches_of nfsc words) ≡ Some (map (λ word. word.now) o.words.items)

-- Words are accepted only if they have no fault. If they are refused, the error has the kind of one of their faults, or
-- an allocation failed. Or they have no fault, and the text of `--host` writes no address.
abbrev pub AreTakenOr : {T : Type 0} → List Text → Result T Error → Type 0
AreTakenOr words (Ok o) = fault_of nfsc words ≡ []
AreTakenOr words (Err e) = HasKind (fault_of nfsc words) e
    ⊎ ((fault_of nfsc words ≡ []) × (kind_of e ≡ ValueValidation) × IsNoHost (given nfsc (codes "host") words))

-- o are the options of a command line of `nfslab`
abbrev pub LabOptionsOf : List Text → LabOptions → Type 0
LabOptionsOf words o = option_map (λ file. file.now) o.book ≡ given nfslab (codes "book") words
