-- The command lines of the client's programs, as simple commands of `clap`:
-- `nfsc --port N --uid N --gid N [--timeout SECONDS] [--groups N,N] [--as NAME] [--book FILE]
-- [--host ADDRESS] COMMAND ..`, and `nfslab [--book FILE]`.
use Rattle.std.specs.Prelude.{codes, Some, pos, true}
use Rattle.clap.specs.Lexer.{usize_max}
use Rattle.clap.specs.Words.{App, Rule, Text, new_app, new_rule, with_rule}
use Rattle.clap.specs.declared.builder.action.ArgAction.TheVariants.{Set}
use Rattle.clap.specs.declared.builder.value_parser.ValueParser.TheVariants as vp

-- `--port N`: a number from 1 to 65535
abbrev pub port_rule : Rule
port_rule = record (new_rule (codes "port")) {
  long = Some (codes "port");
  value_names = 1;
  required = true;
  action = Some Set;
  parser = Some (vp.Signed (pos 1) (pos 65535));
}

-- `--uid N`: a number from 0 to 4294967295
abbrev pub uid_rule : Rule
uid_rule = record (new_rule (codes "uid")) {
  long = Some (codes "uid");
  value_names = 1;
  required = true;
  action = Some Set;
  parser = Some (vp.Signed (pos 0) (pos 4294967295));
}

-- `--gid N`: a number from 0 to 4294967295
abbrev pub gid_rule : Rule
gid_rule = record (new_rule (codes "gid")) {
  long = Some (codes "gid");
  value_names = 1;
  required = true;
  action = Some Set;
  parser = Some (vp.Signed (pos 0) (pos 4294967295));
}

-- `COMMAND ..`: one word or more, to the end of the words
abbrev pub command_rule : Rule
command_rule = record (new_rule (codes "command")) {
  value_names = 1;
  required = true;
  action = Some Set;
  range = Some (record { start_inclusive = 1; end_inclusive = usize_max });
  trailing_var_arg = true;
}

-- `--timeout SECONDS`: a number from 1 to 86400; optional
abbrev pub timeout_rule : Rule
timeout_rule = record (new_rule (codes "timeout")) {
  long = Some (codes "timeout");
  value_names = 1;
  action = Some Set;
  parser = Some (vp.Signed (pos 1) (pos 86400));
}

-- an option with any text; optional
abbrev pub text_rule : Text → Rule
text_rule name = record (new_rule name) { long = Some name; value_names = 1 }

-- `--groups N,N`
abbrev pub groups_rule : Rule
groups_rule = text_rule (codes "groups")

-- `--as NAME`
abbrev pub as_rule : Rule
as_rule = text_rule (codes "as")

-- `--book FILE`, of `nfsc` and of `nfslab`
abbrev pub book_rule : Rule
book_rule = text_rule (codes "book")

-- `--host ADDRESS`
abbrev pub host_rule : Rule
host_rule = text_rule (codes "host")

abbrev pub nfsc : App
nfsc =
    let asked =
    with_rule (with_rule (with_rule (with_rule (new_app (codes "nfsc")) port_rule) uid_rule) gid_rule) command_rule in
    let served = with_rule (with_rule (with_rule (with_rule asked timeout_rule) groups_rule) as_rule) book_rule in
    with_rule served host_rule

abbrev pub nfslab : App
nfslab = with_rule (new_app (codes "nfslab")) book_rule
