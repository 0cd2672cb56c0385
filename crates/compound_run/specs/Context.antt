-- The context of an operation of a COMPOUND (RFC 8881, sections 2.10 and 16.2).
use Rattle.std.specs.Prelude.{ℕ, ◌+◌, ◌-◌, Bool, Option, None}
use Rattle.rpc_record.specs.Identity.{Identity}
use Rattle.who_book.specs.Content.{Content}
use Rattle.nfs_types.specs.declared.moment.Moment.{Moment}
use Rattle.compound_run.specs.declared.context.Calling.{Calling}
use Rattle.compound_run.specs.declared.filehandles.FileHandles.{FileHandles}

pub record Context : Type 0 where
  -- the caller by the book, for whom access control lists (ACLs) are evaluated, and the time of the call
  pub caller : Identity
  pub now : Moment
  -- the book of names
  pub book : Content
  -- whether times can be set, by the profile
  pub times : Bool
  -- the client of the session, and whether the reply is to be cached; none without a session
  pub calling : Option Calling
  -- the number of operations before it, and the number of all operations of the COMPOUND
  pub position : ℕ
  pub count : ℕ
  -- the most bytes of its result
  pub room : ℕ

-- the context after an operation whose result has `taken` bytes
abbrev pub context_after : Context → ℕ → Context
context_after c taken = record c { position = c.position + 1; room = c.room - taken }

-- the current and the saved filehandle of a COMPOUND
abbrev pub Handles : Type 0
Handles = FileHandles

-- a COMPOUND begins without filehandles
abbrev pub no_handles : FileHandles
no_handles = record { current = None; saved = None }
