-- A command as words.
use Rattle.std.specs.Prelude.{ℕ, ◌==◌, length, if◌then◌else◌, List, [], ◌∷◌, Option, Some, None, codes}
use Rattle.std.specs.Str.{bytes_eq}
use Rattle.nfs_client.specs.declared.acl_part.AclPart.{AclPart}
use Rattle.nfs_client.specs.declared.acl_part.AclPart.TheVariants.{Acl, Dacl, Sacl}

pub data CommandLine : Type 0 where
  Ls : List ℕ → CommandLine
  Cat : List ℕ → CommandLine
  -- the path and the text
  Put : List ℕ → List ℕ → CommandLine
  MkDir : List ℕ → CommandLine
  -- the old path and the new path
  Ln : List ℕ → List ℕ → CommandLine
  Mv : List ℕ → List ℕ → CommandLine
  Rm : List ℕ → CommandLine
  -- the mode and the path
  ChMod : List ℕ → List ℕ → CommandLine
  -- the ACL (access control list) or its part, and the path
  GetAcl : AclPart → List ℕ → CommandLine
  -- the ACL or its part, the path, and at least one ACE
  SetAcl : AclPart → List ℕ → List (List ℕ) → CommandLine
  Access : List ℕ → CommandLine

-- a command of one path
abbrev pub of_one : List ℕ → List ℕ → Option CommandLine
of_one name path =
    if bytes_eq name (codes "ls") then Some (Ls path)
    else if bytes_eq name (codes "cat") then Some (Cat path)
    else if bytes_eq name (codes "mkdir") then Some (MkDir path)
    else if bytes_eq name (codes "rm") then Some (Rm path)
    else if bytes_eq name (codes "getacl") then Some (GetAcl Acl path)
    else if bytes_eq name (codes "getdacl") then Some (GetAcl Dacl path)
    else if bytes_eq name (codes "getsacl") then Some (GetAcl Sacl path)
    else if bytes_eq name (codes "access") then Some (Access path)
    else None

-- a command of two words that doesn't set an ACL
abbrev pub of_two : List ℕ → List ℕ → List ℕ → Option CommandLine
of_two name first second =
    if bytes_eq name (codes "put") then Some (Put first second)
    else if bytes_eq name (codes "ln") then Some (Ln first second)
    else if bytes_eq name (codes "mv") then Some (Mv first second)
    else if bytes_eq name (codes "chmod") then Some (ChMod first second)
    else None

abbrev pub exactly_two : List ℕ → List ℕ → List (List ℕ) → Option CommandLine
exactly_two name first (second ∷ []) = of_two name first second
exactly_two name first _ = None

-- the ACL or part that a command sets, if it sets one
abbrev pub set_by : List ℕ → Option AclPart
set_by name =
    if bytes_eq name (codes "setacl") then Some Acl
    else if bytes_eq name (codes "setdacl") then Some Dacl
    else if bytes_eq name (codes "setsacl") then Some Sacl
    else None

-- a command that sets an ACL takes at least one ACE, any other command exactly two words
abbrev pub setting_or_two : Option AclPart → List ℕ → List ℕ → List (List ℕ) → Option CommandLine
setting_or_two (Some part) name first others = if length others == 0 then None else Some (SetAcl part first others)
setting_or_two None name first others = exactly_two name first others

abbrev pub of_more : List ℕ → List ℕ → List (List ℕ) → Option CommandLine
of_more name first others = setting_or_two (set_by name) name first others

-- the command of words, by their count
abbrev pub command_in : List (List ℕ) → Option CommandLine
command_in (name ∷ path ∷ []) = of_one name path
command_in (name ∷ first ∷ second ∷ others) = of_more name first (second ∷ others)
command_in _ = None
