-- The command of `nfsd` as `clap` sees a simple command:
-- `nfsd [--book FILE] [--bare] [--port N] [--connections N] [--concurrent] [--trail FILE]
-- [--stamped] [--privileged-ports] [--store FOLDER] [--leases] [--home FOLDER] [--profile NAME]
-- [--listen ADDRESS].. [--allow NETWORK].. [--any-port]`, or `nfsd --version`.
use Rattle.std.specs.Prelude.{codes, Some, pos, true}
use Rattle.clap.specs.Words.{App, Rule, Text, new_app, new_rule, with_rule}
use Rattle.clap.specs.declared.builder.action.ArgAction.TheVariants.{Append, SetTrue}
use Rattle.clap.specs.declared.builder.value_parser.ValueParser.TheVariants as vp

-- an option with any text but the empty one
abbrev pub file_rule : Text → Rule
file_rule name = record (new_rule name) { long = Some name; value_names = 1; parser = Some vp.NonEmptyString }

abbrev pub flag_rule : Text → Rule
flag_rule name = record (new_rule name) { long = Some name; action = Some SetTrue; parser = Some vp.Bool }

-- an option that may be given more than once
abbrev pub list_rule : Text → Rule
list_rule name = record (new_rule name) { long = Some name; value_names = 1; action = Some Append }

-- `--book FILE`
abbrev pub book_rule : Rule
book_rule = file_rule (codes "book")

-- `--bare`
abbrev pub bare_rule : Rule
bare_rule = flag_rule (codes "bare")

-- `--port N`: a number from 1 to 65535
abbrev pub port_rule : Rule
port_rule =
    record (new_rule (codes "port")) {
      long = Some (codes "port");
      value_names = 1;
      parser = Some (vp.Signed (pos 1) (pos 65535));
    }

-- `--connections N`: a number from 0 to 4294967295
abbrev pub connections_rule : Rule
connections_rule = record (new_rule (codes "connections")) {
  long = Some (codes "connections");
  value_names = 1;
  parser = Some (vp.Signed (pos 0) (pos 4294967295));
}

-- `--concurrent`
abbrev pub concurrent_rule : Rule
concurrent_rule = flag_rule (codes "concurrent")

-- `--trail FILE`
abbrev pub trail_rule : Rule
trail_rule = file_rule (codes "trail")

-- `--stamped`
abbrev pub stamped_rule : Rule
stamped_rule = flag_rule (codes "stamped")

-- `--privileged-ports`
abbrev pub privileged_rule : Rule
privileged_rule = flag_rule (codes "privileged-ports")

-- `--store FOLDER`
abbrev pub store_rule : Rule
store_rule = file_rule (codes "store")

-- `--leases`
abbrev pub leases_rule : Rule
leases_rule = flag_rule (codes "leases")

-- `--home FOLDER`
abbrev pub home_rule : Rule
home_rule = file_rule (codes "home")

-- `--profile NAME`
abbrev pub profile_rule : Rule
profile_rule = record (new_rule (codes "profile")) { long = Some (codes "profile"); value_names = 1 }

-- `--listen ADDRESS`
abbrev pub listen_rule : Rule
listen_rule = list_rule (codes "listen")

-- `--allow NETWORK`
abbrev pub allow_rule : Rule
allow_rule = list_rule (codes "allow")

-- `--any-port`
abbrev pub any_port_rule : Rule
any_port_rule = flag_rule (codes "any-port")

-- the command has a version, so `-V` and `--version` ask for it
abbrev pub with_version : App → App
with_version app = record app { top = record app.top { has_version = true } }

abbrev pub nfsd : App
nfsd =
    let prefix = with_rule (with_rule (with_version (new_app (codes "nfsd"))) book_rule) bare_rule in
    let numbers = with_rule (with_rule prefix port_rule) connections_rule in
    let serving = with_rule (with_rule numbers concurrent_rule) trail_rule in
    let keeping = with_rule (with_rule (with_rule serving stamped_rule) privileged_rule) store_rule in
    let housed = with_rule (with_rule keeping leases_rule) home_rule in
    let limited = with_rule housed profile_rule in
    with_rule (with_rule (with_rule limited listen_rule) allow_rule) any_port_rule
