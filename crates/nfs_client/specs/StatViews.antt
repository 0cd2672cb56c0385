-- Some attributes of an object, as a client has them.
use Rattle.std.specs.Prelude.{option_map}
use Rattle.nfs_client.specs.Stat.{StatValues}
use Rattle.nfs_client.specs.declared.stat.Stat.{Stat}

abbrev pub stat_value : Stat → StatValues
stat_value s = record {
  kind = s.kind;
  change = s.change;
  size = s.size;
  number = s.number;
  mode = s.mode;
  links = s.links;
  owner = option_map (λ t. t.bytes.now) s.owner;
  group = option_map (λ t. t.bytes.now) s.group;
  changed = s.changed;
  modified = s.modified;
}
