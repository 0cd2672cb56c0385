-- How the code opens a file.
use Rattle.std.specs.Prelude.{◌≡◌, ◌≤◌, ◌<◌, ◌+◌, ◌^◌, ℕ, Bool, List, [], ◌∷◌, ◌++◌, length}
use Rattle.std.specs.Prelude.{unwrap_or, Option, Some, None}
use Rattle.xdr_wire.specs.Xdr.{Value}
use Rattle.rpc_record.specs.Identity.{Identity}
use Rattle.acl_list.specs.declared.entry.Entry.{Entry}
use Rattle.acl_list.specs.declared.entry.Kind.TheVariants.{File}
use Rattle.acl_shape.specs.Bounds.{IsBounded}
use Rattle.acl_shape.specs.Permissions.{created_high}
use Rattle.nfs_types.specs.Sent.{Wanted}
use Rattle.nfs_types.specs.declared.moment.Moment.{Moment}
use Rattle.compound_run.specs.Times.{first_access, first_modify}
use Rattle.nfs_ops.specs.Parts.{Claim, ByName, ByHandle}
use Rattle.node_tree.specs.declared.node.NewObject.{NewObject}
use Rattle.node_tree.specs.Changes.{resized}
use Rattle.nfs_types.specs.Limits.{Limits}
use Rattle.node_tree.specs.Sound.{most_bytes}
use Rattle.compound_run.specs.declared.filehandles.FileHandles.{FileHandles}
use Rattle.compound_run.specs.Sight.{Sight}
use Rattle.compound_run.specs.Lists.{new_list}
use Rattle.compound_run.specs.Meaning.{here}
use Rattle.nfs_types.specs.Forms.{stateid}
use Rattle.nfs_types.specs.StateIds.{open_stateid}
use Rattle.compound_run.specs.declared.opens.Place.{Place}
use Rattle.compound_run.specs.declared.opens.Place.TheVariants as places
use Rattle.compound_run.specs.Realm.{Realm, Opened}
use Rattle.compound_run.specs.Context.{Context}
use Rattle.compound_run.specs.Stateids.{client_of}
use Rattle.compound_run.specs.Operations.Open.{risen, with_reopened}

-- the place of an open by the owner with these bytes: the open that it joins, or a new one
abbrev pub IsPlace : {A : Type 0} → List ℕ → Option Opened → Place A → Type 0
IsPlace owner (Some o) (places.Again number seqid) = (number ≡ o.number) × (seqid ≡ o.seqid)
IsPlace owner (Some o) (places.New bytes) = ⊥
IsPlace owner None (places.Again number seqid) = ⊥
IsPlace owner None (places.New bytes) = bytes.items ≡ owner

-- the open has memory, beside `len` opens and with a capacity of `capacity`, with this next number
abbrev pub HasPlace : {A : Type 0} → (next len capacity : ℕ) → Place A → Type 0
HasPlace next len capacity (places.Again number seqid) = Unit {0}
HasPlace next len capacity (places.New bytes) = (next < 2 ^ 63) × (len + 1 ≤ capacity)

-- the realm with the open at its place
abbrev pub placed : {A : Type 0} → Context → ℕ → ℕ → Place A → Realm → Realm
placed c access file (places.Again number seqid) r = record r { opens = with_reopened number access r.opens }
placed c access file (places.New bytes) r = record r {
  opens =
      r.opens
      ++ record {
        number = r.next_open;
        client = client_of c;
        owner = bytes.items;
        object = file;
        access = access;
        seqid = 1;
      }
      ∷ [];
  next_open = r.next_open + 1;
}

abbrev pub placed_stateid : {A : Type 0} → Place A → ℕ → Value stateid
placed_stateid (places.Again number seqid) next = open_stateid (risen seqid) number
placed_stateid (places.New bytes) next = open_stateid 1 next

-- ---- the file

-- a new file
pub record MakesFile {A : Type 0} (times : Bool) (now : Moment) (caller : Identity) (limits : Limits)
    (parent : List Entry) (wanted : Wanted) (new : NewObject A) : Type 0 where
  pub kind : new.kind ≡ File
  pub bytes : new.bytes.items ≡ resized [] (unwrap_or wanted.size 0)
  pub owner : new.owner ≡ caller.uid
  pub group : new.group ≡ unwrap_or wanted.group caller.gid
  pub list : new.list ≡ new_list wanted File parent
  pub high : new.high ≡ created_high wanted.mode
  pub access : new.time_access ≡ first_access times now wanted.access
  pub modify : new.time_modify ≡ first_modify now wanted.modify
  pub bounded : IsBounded new.list
  pub short : length new.bytes.items ≤ most_bytes limits File

-- by name the change attribute is the directory's, by filehandle it is 0
abbrev pub IsBefore : Claim → Sight → FileHandles → ℕ → Type 0
IsBefore (ByName name) s h before = s.changes (here h) ≡ before
IsBefore ByHandle s h before = 0 ≡ before
