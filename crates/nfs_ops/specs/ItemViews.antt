-- The items of arrays and chains, as values of their forms.
use Rattle.std.specs.Prelude.{None}
use Rattle.std.proofs.Common.{inl, inr}
use Rattle.xdr_wire.specs.Xdr.{Value, uint}
use Rattle.xdr_wire.specs.Wire.{array_values}
use Rattle.nfs_types.specs.FactsView.{facts_value}
use Rattle.nfs_types.specs.Forms.{attributes}
use Rattle.nfs_types.specs.Given.{given_set, given_values}
use Rattle.nfs_types.specs.Views.{bitmap_value, attributes_value}
use Rattle.nfs_types.specs.declared.given.GivenAttributes.{GivenAttributes}
use Rattle.nfs_ops.specs.Forms.{authsys, gss_handles, callback_security, entry}
use Rattle.nfs_ops.specs.declared.callback_security.AuthSys.{AuthSys}
use Rattle.nfs_ops.specs.declared.callback_security.GssHandles.{GssHandles}
use Rattle.nfs_ops.specs.declared.callback_security.CallbackSecurity.{CallbackSecurity}
use Rattle.nfs_ops.specs.declared.callback_security.CallbackSecurity.TheVariants as credentials
use Rattle.nfs_ops.specs.declared.readdir.Entry.{Entry}
use Rattle.nfs_ops.specs.declared.readdir.GivenEntry.{GivenEntry}

abbrev pub authsys_value : AuthSys → Value authsys
authsys_value s =
    (s.stamp, (s.machine.bytes.now, (s.uid, (s.gid, array_values uint None s.gids.count s.gids.bytes.now))))

abbrev pub gss_handles_value : GssHandles → Value gss_handles
gss_handles_value h = (h.service, (h.server.bytes.now, h.client.bytes.now))

abbrev pub callback_security_value : CallbackSecurity → Value callback_security
callback_security_value credentials.Nobody = inl tt
callback_security_value (credentials.Sys sys) = inr (inl (authsys_value sys))
callback_security_value (credentials.Gss gss) = inr (inr (inl (gss_handles_value gss)))

abbrev pub entry_value : Entry → Value entry
entry_value e = (e.cookie, (e.name.bytes.now, attributes_value e.attributes))

-- the attributes that are returned for an object
abbrev pub given_value : GivenAttributes → Value attributes
given_value g =
    (given_set (bitmap_value g.asked), given_values g.book.now (facts_value g.facts.now) (bitmap_value g.asked))

abbrev pub given_entry_value : GivenEntry → Value entry
given_entry_value e = (e.cookie, (e.name.bytes.now, given_value e.attributes))
