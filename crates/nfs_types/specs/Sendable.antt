-- Values that a client can send.
use Rattle.std.specs.Prelude.{Option, Some, None}
use Rattle.xdr_wire.specs.Xdr.{Xdr, Value, uint, hyper, HasSpelling}
use Rattle.nfs_types.specs.Attributes.{text, acl, acl41}
use Rattle.nfs_types.specs.Seen.{Seen}
use Rattle.nfs_types.specs.Times.{settime}

abbrev pub CanBeSent : (t : Xdr) → Option (Value t) → Type 0
CanBeSent t None = Unit {0}
CanBeSent t (Some v) = HasSpelling t v

pub record IsSendable (s : Seen) : Type 0 where
  pub kind : CanBeSent uint s.kind
  pub size : CanBeSent hyper s.size
  pub error : CanBeSent uint s.error
  pub entries : CanBeSent acl s.entries
  pub mode : CanBeSent uint s.mode
  pub owner : CanBeSent text s.owner
  pub group : CanBeSent text s.group
  pub access : CanBeSent settime s.access
  pub modify : CanBeSent settime s.modify
  pub dacl : CanBeSent acl41 s.dacl
  pub sacl : CanBeSent acl41 s.sacl
