-- The entry of the definitions that an entry of the program represents.
use Rattle.std.specs.Prelude.{ℕ, List, Option}
use Rattle.std.specs.Option.{option_map}
use Rattle.xdr_wire.specs.declared.opaque.Opaque.{Opaque}
use Rattle.log_entries.specs.Entries.{Called, Entry}
use Rattle.log_entries.specs.Entries as entries
use Rattle.log_entries.specs.declared.entry.CallEntry.{CallEntry}
use Rattle.log_entries.specs.declared.entry.Entry.{Entry as Lent}
use Rattle.log_entries.specs.declared.entry.Entry.TheVariants as lent

abbrev pub called_of : CallEntry → Called
called_of c = record { now = c.now; bytes = c.bytes.bytes.now; delayed = c.delayed; checksum = c.checksum }

abbrev pub text_of : Option (Opaque 0xffff_ffff) → Option (List ℕ)
text_of text = option_map (λ t. t.bytes.now) text

abbrev pub entry_of : Lent → Entry
entry_of (lent.Call c) = entries.Call (called_of c)
entry_of (lent.ClientExpired client) = entries.ClientExpired client
entry_of (lent.Book text) = entries.Loaded (text_of text)
