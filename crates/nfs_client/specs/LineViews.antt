-- The known attributes of an entry, without their place in memory.
use Rattle.std.specs.Prelude.{option_map}
use Rattle.nfs_client.specs.Lines as specs
use Rattle.nfs_client.specs.declared.listing.Listed.{Listed}

abbrev pub listed : Listed → specs.Listed
listed l =
    record {
      kind = l.kind;
      mode = l.mode;
      owner = option_map (λ t. t.now) l.owner;
      group = option_map (λ t. t.now) l.group;
      size = l.size;
      name = l.name.now;
    }
