-- The facts about an object, with borrowed parts by value.
use Rattle.nfs_types.specs.Attributes.{Facts}
use Rattle.nfs_types.specs.declared.attribute.ObjectFacts.{ObjectFacts}

abbrev pub facts_value : ObjectFacts → Facts
facts_value f = record {
  kind = f.kind;
  number = f.number;
  change = f.change;
  size = f.size;
  error = f.error;
  list = f.entries.now;
  mode = f.mode;
  numlinks = f.numlinks;
  owner = f.owner;
  group = f.group;
  metadata = f.metadata;
  modify = f.modify;
  access = f.access;
  most_bytes = f.most_bytes;
  times = f.times;
}
