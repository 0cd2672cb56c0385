-- The values that a client writes.
use Rattle.std.specs.Prelude.{map, option_map}
use Rattle.nfs_types.specs.AceView.{ace_value}
use Rattle.nfs_types.specs.Seen.{Seen}
use Rattle.nfs_types.specs.Times.{sent_time}
use Rattle.nfs_types.specs.declared.client_attributes.ClientAttributes.{ClientAttributes}

abbrev pub client_value : ClientAttributes → Seen
client_value s = record {
  kind = s.kind;
  size = s.size;
  error = s.error;
  entries = option_map (λ a. map ace_value a.entries.now) s.entries;
  mode = s.mode;
  owner = option_map (λ t. t.bytes.now) s.owner;
  group = option_map (λ t. t.bytes.now) s.group;
  access = option_map sent_time s.access;
  modify = option_map sent_time s.modify;
  dacl = option_map (λ a. (a.flags, map ace_value a.entries.entries.now)) s.dacl;
  sacl = option_map (λ a. (a.flags, map ace_value a.entries.entries.now)) s.sacl;
}
