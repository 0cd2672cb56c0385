-- The values that an operation sets, as they are sent.
use Rattle.std.specs.Prelude.{None, option_map}
use Rattle.xdr_wire.specs.Wire.{array_values}
use Rattle.nfs_types.specs.Attributes as attributes
use Rattle.nfs_types.specs.Sent as specs
use Rattle.nfs_types.specs.Times.{sent_time}
use Rattle.nfs_types.specs.declared.sent.Sent.{Sent}

abbrev pub sent_value : Sent → specs.Sent
sent_value s = record {
  size = s.size;
  entries = option_map (λ a. array_values attributes.ace None a.count a.bytes.now) s.entries;
  mode = s.mode;
  owner = option_map (λ t. t.bytes.now) s.owner;
  group = option_map (λ t. t.bytes.now) s.group;
  access = option_map sent_time s.access;
  modify = option_map sent_time s.modify;
  dacl = option_map (λ a. (a.flags, array_values attributes.ace None a.entries.count a.entries.bytes.now)) s.dacl;
  sacl = option_map (λ a. (a.flags, array_values attributes.ace None a.entries.count a.entries.bytes.now)) s.sacl;
}
