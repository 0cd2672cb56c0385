-- The stateid of an operation on the current object. A special stateid is valid for every file (RFC 8881, section
-- 8.2.3). The stateid of an open is valid for the client and the object of that open alone.
use Rattle.std.specs.Prelude.{ℕ, Bool, true, false, ◌==◌, ◌&&◌, not, nat_lt, if◌then◌else◌, List, find, filter}
use Rattle.std.specs.Prelude.{Option, Some, None}
use Rattle.std.specs.Option.{option_map_or}
use Rattle.xdr_wire.specs.Xdr.{Value}
use Rattle.nfs_types.specs.Forms.{stateid}
use Rattle.nfs_types.specs.StateIds.{is_special, open_of}
use Rattle.nfs_types.specs.declared.status.Status.{Status}
use Rattle.nfs_types.specs.declared.status.Status.TheVariants as statuses
use Rattle.access_rows.specs.Rows.{is_to_read, is_to_write}
use Rattle.compound_run.specs.declared.context.Calling.{Calling}
use Rattle.compound_run.specs.declared.stateids.Purpose.{Purpose}
use Rattle.compound_run.specs.declared.stateids.Purpose.TheVariants.{ToRead, ToWrite, ToClose}
use Rattle.compound_run.specs.Realm.{Opened}
use Rattle.compound_run.specs.Context.{Context}
use Rattle.compound_run.specs.Sight.{Sight}
use Rattle.compound_run.specs.Faults.{MayFault, first_fault, first_may}
use Rattle.compound_run.specs.Questions.{Question, Valid}

-- the client whose opens an operation uses; without a session all are of client 0
abbrev pub client_in : Option Calling → ℕ
client_in calling = option_map_or (λ calling. calling.client) calling 0

abbrev pub client_of : Context → ℕ
client_of c = client_in c.calling

-- ---- the open of a stateid

-- the open of this number, client and object
abbrev pub is_open : ℕ → ℕ → ℕ → Opened → Bool
is_open number client object o = (o.number == number) && (o.client == client) && (o.object == object)

abbrev pub named : List Opened → ℕ → ℕ → Option ℕ → Option Opened
named opens client object None = None
named opens client object (Some number) = find (is_open number client object) opens

abbrev pub open_at : Context → ℕ → Value stateid → Sight → Option Opened
open_at c object id s = named s.opens (client_of c) object (open_of id)

-- ---- the fault of a stateid

-- Seqid 0 means the newest one. A lower seqid is old, and a higher one was never returned.
abbrev pub seqid_fault : ℕ → Opened → Option Status
seqid_fault seqid o =
    if seqid == 0 then None
    else if nat_lt seqid o.seqid then Some statuses.OldStateId
    else if nat_lt o.seqid seqid then Some statuses.BadStateId
    else None

-- the file was opened for this access
abbrev pub mode_fault : (ℕ → Bool) → Opened → Option Status
mode_fault serves o = if serves o.access then None else Some statuses.OpenMode

-- the fault of an open's stateid: the open doesn't exist, the seqid isn't its current one, or the file isn't open for
-- this access
abbrev pub open_fault : (ℕ → Bool) → ℕ → Option Opened → Option Status
open_fault serves seqid None = Some statuses.BadStateId
open_fault serves seqid (Some o) = first_fault (seqid_fault seqid o) (mode_fault serves o)

abbrev pub opened_fault : (ℕ → Bool) → Context → ℕ → Value stateid → Sight → Option Status
opened_fault serves c object id s = open_fault serves id.0 (open_at c object id s)

-- whether an open with this access permits the operation's purpose
abbrev pub serves_for : Purpose → ℕ → Bool
serves_for ToRead access = is_to_read access
serves_for ToWrite access = is_to_write access
serves_for ToClose access = true

-- A special stateid has no fault, except for CLOSE: it belongs to no open.
abbrev pub special_fault : Purpose → Option Status
special_fault ToRead = None
special_fault ToWrite = None
special_fault ToClose = Some statuses.BadStateId

abbrev pub stateid_fault : Purpose → Context → ℕ → Value stateid → Sight → Option Status
stateid_fault purpose c object id s =
    if is_special id then special_fault purpose else opened_fault (serves_for purpose) c object id s

-- ---- these faults are neither ACCESS nor DELAY

seqid_may : (seqid : ℕ) (o : Opened) → MayFault (seqid_fault seqid o)
seqid_may seqid o = of (seqid == 0) (nat_lt seqid o.seqid) (nat_lt o.seqid seqid)
  where
    of : (a b c : Bool)
        → MayFault
        (if a then None else if b then Some statuses.OldStateId else if c then Some statuses.BadStateId else None)
    of true b c = tt
    of false true c = tt
    of false false true = tt
    of false false false = tt

mode_may : (serves : ℕ → Bool) (o : Opened) → MayFault (mode_fault serves o)
mode_may serves o = of (serves o.access)
  where
    of : (b : Bool) → MayFault (if b then None else Some statuses.OpenMode)
    of true = tt
    of false = tt

open_may : (serves : ℕ → Bool) (seqid : ℕ) (o : Option Opened) → MayFault (open_fault serves seqid o)
open_may serves seqid None = tt
open_may serves seqid (Some o) =
    first_may (seqid_fault seqid o) (mode_fault serves o) (seqid_may seqid o) (mode_may serves o)

special_may : (purpose : Purpose) → MayFault (special_fault purpose)
special_may ToRead = tt
special_may ToWrite = tt
special_may ToClose = tt

pub stateid_may : (purpose : Purpose) (c : Context) (object : ℕ) (id : Value stateid) (s : Sight)
    → MayFault (stateid_fault purpose c object id s)
stateid_may purpose c object id s =
    of (is_special id) _ _ (special_may purpose) (open_may (serves_for purpose) id.0 (open_at c object id s))
  where
    of : (b : Bool) (first second : Option Status) → MayFault first → MayFault second
        → MayFault (if b then first else second)
    of true first second f s = f
    of false first second f s = s

-- ---- the question

abbrev pub has_stateid : Purpose → Context → ℕ → Value stateid → Question
has_stateid purpose c object id = Valid (stateid_fault purpose c object id) (stateid_may purpose c object id)

-- ---- opens that end

-- the opens except that of a number
abbrev pub without_open : ℕ → List Opened → List Opened
without_open number opens = filter (λ o. not (o.number == number)) opens
