-- The values that a client reads.
use Rattle.std.specs.Prelude.{None, option_map}
use Rattle.xdr_wire.specs.Wire.{array_values}
use Rattle.nfs_types.specs.Attributes as attributes
use Rattle.nfs_types.specs.Seen as specs
use Rattle.nfs_types.specs.Times.{sent_time}
use Rattle.nfs_types.specs.declared.seen.SeenAttributes.{SeenAttributes}

abbrev pub seen_value : SeenAttributes → specs.Seen
seen_value s = record {
  kind = s.kind;
  size = s.size;
  error = s.error;
  entries = option_map (λ a. array_values attributes.ace None a.count a.bytes.now) s.entries;
  mode = s.mode;
  owner = option_map (λ t. t.bytes.now) s.owner;
  group = option_map (λ t. t.bytes.now) s.group;
  access = option_map sent_time s.access;
  modify = option_map sent_time s.modify;
  dacl = option_map (λ a. (a.flags, array_values attributes.ace None a.entries.count a.entries.bytes.now)) s.dacl;
  sacl = option_map (λ a. (a.flags, array_values attributes.ace None a.entries.count a.entries.bytes.now)) s.sacl;
}
