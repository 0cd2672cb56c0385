-- The line of each operation: its checks in order, each with the status with which it fails, and the places of its rows
-- among them (RFC 8881, sections 15 and 18).
use Rattle.std.specs.Prelude.{ℕ, Bool, true, List, [], ◌∷◌, map, Option, Some, None, if◌then◌else◌}
use Rattle.std.specs.Option.{option_map}
use Rattle.xdr_wire.specs.Xdr.{Value}
use Rattle.nfs_types.specs.Forms.{stateid}
use Rattle.nfs_types.specs.declared.status.Status.{Status}
use Rattle.nfs_types.specs.declared.status.Status.TheVariants as statuses
use Rattle.nfs_types.specs.Handles.{object_of}
use Rattle.nfs_types.specs.Name.{name_fault}
use Rattle.nfs_types.specs.StateIds.{is_special}
use Rattle.nfs_ops.specs.Operations.{Operation, Known, Unsupported, Illegal, Bad}
use Rattle.nfs_ops.specs.Parts.{claim_of, closed_stateid, created_name, created_type, how_of, new_name, old_name}
use Rattle.nfs_ops.specs.Parts.{listed_attributes, read_stateid, set_of, set_stateid, write_stateid}
use Rattle.nfs_ops.specs.declared.OpKind.TheVariants as kinds
use Rattle.session_slots.specs.Destroying.{complete_already}
use Rattle.access_rows.specs.Rows.{Demands, is_to_read, is_to_write}
use Rattle.compound_run.specs.Context.{Context, Handles}
use Rattle.compound_run.specs.Faults.{fault_in}
use Rattle.compound_run.specs.Sight.{Sight, client_in, kind_at}
use Rattle.compound_run.specs.Questions.{Question, Holds, Valid, Row, Suffices}
use Rattle.compound_run.specs.Stateids.{client_of, opened_fault}
use Rattle.compound_run.specs.Meaning.{here, too_big_for}
use Rattle.compound_run.specs.Operations.{entry_fault}
use Rattle.compound_run.specs.Operations.Create as creations
use Rattle.compound_run.specs.Operations.Open as opens
use Rattle.compound_run.specs.Operations.Setattr as settings
use Rattle.compound_run.specs.Operations.Verify.{set_fault}
use Rattle.compound_run.specs.Requested.{requested, set_only_fault}
use Rattle.compound_laws.specs.RowsAsked.{first_of, second_of}

-- ---- steps

pub data Step : Type 0 where
  -- a test; if it fails, the answer is this status
  Tests : Status → Step
  -- a check that has several statuses; the answer is its fault, if any
  Checks : (Sight → Option Status) → Step
  -- a row of demands; if it isn't granted, the answer is ACCESS
  Asks : (Sight → Demands) → Step
  -- a test; if it holds, the answer is OK, and nothing more is evaluated
  Ends : Step

abbrev pub step_of : Question → Step
step_of (Holds test status is) = Tests status
step_of (Valid fault may) = Checks fault
step_of (Row demands) = Asks demands
step_of (Suffices test) = Ends

abbrev pub steps_of : List Question → List Step
steps_of questions = map step_of questions

-- ---- checks

-- a filehandle is set, the current or the saved one, and its object exists
abbrev pub with_object : List Step → List Step
with_object steps = Tests statuses.NoFileHandle ∷ Tests statuses.Stale ∷ steps

-- the name is valid: INVAL, NAMETOOLONG, BADCHAR, BADNAME
abbrev pub names : List ℕ → Step
names name = Checks (λ s. name_fault name)

-- The stateid is special, or that of an open of the current file with a sufficient access: BAD_STATEID, OLD_STATEID,
-- OPENMODE. The fault of a special stateid is given.
abbrev pub stateids : Option Status → (ℕ → Bool) → Context → Handles → Value stateid → Step
stateids special serves c h id =
    Checks (λ s. if is_special id then special else opened_fault serves c (here h) id s)

-- the answer is this status in any realm
abbrev pub refuses : Status → List Step
refuses status = Checks (λ s. Some status) ∷ []

-- the place in the COMPOUND, then the room for the least result
abbrev pub enters : Context → Operation → Step
enters c op = Checks (λ s. entry_fault c op)

-- ---- the lines

-- after place and room, with the two rows of the operation
abbrev pub line_with : (first second : Step) → Context → Handles → Operation → List Step
line_with first second c h (Known kinds.Access v) = with_object []
line_with first second c h (Known kinds.Close v) =
    with_object (stateids (Some statuses.BadStateId) (λ access. true) c h (closed_stateid v) ∷ [])
line_with first second c h (Known kinds.Commit v) =
    with_object (Tests statuses.IsDir ∷ Tests statuses.Symlink ∷ [])
line_with first second c h (Known kinds.Create v) =
    with_object
    (Tests statuses.NotDir
    -- BADTYPE
    ∷ Checks (λ s. creations.type_fault (creations.draft_of (created_type v)))
    ∷ names (created_name v)
    -- of the text of a symbolic link: INVAL, NAMETOOLONG
    ∷ Checks (λ s. creations.text_fault (creations.draft v))
    -- of the attributes
    ∷ Checks (λ s. fault_in (creations.sent c v))
    -- of a size: INVAL
    ∷ Checks (λ s. creations.size_fault (creations.wanted c v))
    ∷ first
    ∷ Tests statuses.Exist
    ∷ Tests statuses.Perm
    ∷ Tests statuses.NoSpc
    ∷ [])
line_with first second c h (Known kinds.GetAttr v) =
    -- of the requested attributes: INVAL
    with_object (Checks (λ s. set_only_fault (requested c v)) ∷ first ∷ Tests (too_big_for c.calling) ∷ [])
line_with first second c h (Known kinds.GetFh v) = with_object []
line_with first second c h (Known kinds.Link name) =
    with_object (with_object
    (Tests statuses.NotDir
    ∷ Tests statuses.IsDir
    ∷ names name
    ∷ first
    ∷ Tests statuses.Exist
    ∷ Tests statuses.MLink
    ∷ Tests statuses.NoSpc
    ∷ []))
line_with first second c h (Known kinds.Lookup name) =
    with_object
    (Tests statuses.Symlink ∷ Tests statuses.NotDir ∷ names name ∷ first ∷ Tests statuses.NoEnt ∷ [])
line_with first second c h (Known kinds.LookupP v) =
    with_object (Tests statuses.Symlink ∷ Tests statuses.NotDir ∷ first ∷ Tests statuses.NoEnt ∷ [])
line_with first second c h (Known kinds.NVerify v) =
    -- of the attributes: ATTRNOTSUPP, INVAL
    with_object (Checks (λ s. set_fault c.times (set_of v)) ∷ first ∷ Tests statuses.Same ∷ [])
line_with first second c h (Known kinds.Open v) =
    with_object
    -- of the current object: by name NOTDIR, by filehandle ISDIR, SYMLINK
    (Checks (λ s. opens.current_fault (claim_of v) (kind_at s (here h)))
    -- access INVAL; deny NOTSUPP, INVAL; creation by filehandle INVAL; the name
    ∷ Checks (λ s. opens.arguments_fault v)
    -- of the attributes
    ∷ Checks (λ s. fault_in (opens.sent c (how_of v)))
    ∷ first
    -- of the name's object: NOENT, EXIST, ISDIR, SYMLINK
    ∷ Checks (λ s. opens.found_fault (how_of v) (option_map (kind_at s) (opens.found v h s)))
    ∷ second
    ∷ Tests statuses.Perm
    ∷ Tests statuses.FBig
    ∷ Tests statuses.NoSpc
    ∷ [])
line_with first second c h (Known kinds.PutFh handle) =
    -- of the filehandle: BADHANDLE
    Checks (λ s. fault_in (object_of handle)) ∷ Tests statuses.Stale ∷ []
line_with first second c h (Known kinds.PutRootFh v) = []
line_with first second c h (Known kinds.Read v) =
    with_object
    (Tests statuses.IsDir
    ∷ Tests statuses.Symlink
    ∷ stateids None is_to_read c h (read_stateid v)
    ∷ first
    ∷ [])
line_with first second c h (Known kinds.ReadDir v) =
    with_object
    (Tests statuses.NotDir
    ∷ Tests statuses.BadCookie
    -- of the requested attributes: INVAL
    ∷ Checks (λ s. set_only_fault (requested c (listed_attributes v)))
    ∷ first
    ∷ second
    ∷ Tests statuses.TooSmall
    ∷ [])
line_with first second c h (Known kinds.ReadLink v) =
    with_object (Tests statuses.WrongType ∷ first ∷ Tests (too_big_for c.calling) ∷ [])
line_with first second c h (Known kinds.Remove name) =
    with_object
    (Tests statuses.NotDir
    ∷ names name
    ∷ first
    ∷ Tests statuses.NoEnt
    ∷ second
    ∷ Tests statuses.NotEmpty
    ∷ Tests statuses.NoSpc
    ∷ [])
line_with first second c h (Known kinds.Rename v) =
    with_object (with_object
    -- the current directory, then the saved one
    (Tests statuses.NotDir
    ∷ Tests statuses.NotDir
    ∷ names (old_name v)
    ∷ names (new_name v)
    ∷ first
    ∷ Tests statuses.NoEnt
    -- both names belong to one object
    ∷ Ends
    ∷ Tests statuses.Inval
    ∷ Tests statuses.Exist
    ∷ second
    ∷ Tests statuses.NoSpc
    ∷ []))
line_with first second c h (Known kinds.RestoreFh v) = with_object []
line_with first second c h (Known kinds.SaveFh v) = with_object []
line_with first second c h (Known kinds.SetAttr v) =
    with_object
    -- of the attributes
    (Checks (settings.attributes_fault c v (here h))
    -- of a size: INVAL if the object isn't a file, else of the stateid
    ∷ Checks (λ s. settings.size_fault (settings.wanted_on c v (here h) s).size c (here h) (set_stateid v) s)
    ∷ first
    ∷ Tests statuses.FBig
    ∷ Tests statuses.NoSpc
    ∷ [])
line_with first second c h (Known kinds.Verify v) =
    with_object (Checks (λ s. set_fault c.times (set_of v)) ∷ first ∷ Tests statuses.NotSame ∷ [])
line_with first second c h (Known kinds.Write v) =
    with_object
    (Tests statuses.IsDir
    ∷ Tests statuses.Symlink
    ∷ stateids None is_to_write c h (write_stateid v)
    ∷ first
    ∷ Tests statuses.FBig
    ∷ Tests statuses.NoSpc
    ∷ [])
line_with first second c h (Known kinds.ReclaimComplete one_fs) =
    -- for all file systems: COMPLETE_ALREADY
    if one_fs then with_object [] else Checks (λ s. complete_already (client_in s (client_of c))) ∷ []
-- the operations of sessions, which have no place here
line_with first second c h (Known kind v) = refuses statuses.NotSupp
line_with first second c h (Unsupported n) = refuses statuses.NotSupp
line_with first second c h Illegal = refuses statuses.OpIllegal
line_with first second c h (Bad n) = refuses statuses.BadXdr

abbrev pub line_of : Context → Handles → Operation → List Step
line_of c h op = enters c op ∷ line_with (Asks (first_of c h op)) (Asks (second_of c h op)) c h op
