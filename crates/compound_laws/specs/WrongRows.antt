-- Three operations that the law on rows refuses: two demand more than their rows, and one evaluates a row too late (RFC
-- 8881, sections 6.2.1.3, 18.8, 18.13 and 18.25).
use Rattle.std.specs.Prelude.{ℕ, not, List, [], ◌∷◌, None}
use Rattle.acl_list.specs.declared.mask.TheConstants.{READ_ATTRIBUTES, READ_DATA}
use Rattle.nfs_types.specs.declared.status.Status.TheVariants as statuses
use Rattle.nfs_ops.specs.Operations.{Operation, Known}
use Rattle.nfs_ops.specs.declared.OpKind.TheVariants as kinds
use Rattle.access_rows.specs.Rows.{bits}
use Rattle.compound_run.specs.Context.{Context, Handles}
use Rattle.compound_run.specs.Sight.{child}
use Rattle.compound_run.specs.Questions.{Question, Holds, Row, is_valid}
use Rattle.compound_run.specs.Rows.{first_row, second_row, object_of}
use Rattle.compound_run.specs.Meaning.{with_handle, here, number_in, is_no_link, is_directory, is_name, has_child}
use Rattle.compound_run.specs.Meaning.{has_tick}
use Rattle.compound_run.specs.Operations.{entry_fault, entry_may}

-- the questions of the current object, after those of place and room
abbrev pub entered_with : Context → Handles → Operation → List Question → List Question
entered_with c h op questions = is_valid (entry_fault c op) (entry_may c op) ∷ with_handle h.current questions

-- a demand of these mask bits of the current object
abbrev pub asks_also : Handles → ℕ → Question
asks_also h mask = Row (λ s. bits (object_of s h.current) mask ∷ [])

-- LOOKUP, which also demands READ_DATA
abbrev pub reading_lookup : List ℕ → Context → Handles → List Question
reading_lookup name c h =
    entered_with c h (Known kinds.Lookup name)
    (is_no_link (here h)
    ∷ is_directory (here h)
    ∷ is_name name
    ∷ first_row h (Known kinds.Lookup name)
    ∷ asks_also h READ_DATA
    ∷ has_child (here h) name
    ∷ [])

-- GETFH, which demands READ_ATTRIBUTES
abbrev pub asking_getfh : Context → Handles → List Question
asking_getfh c h = entered_with c h (Known kinds.GetFh tt) (asks_also h READ_ATTRIBUTES ∷ [])

-- REMOVE, which reveals that a directory isn't empty before its second row is evaluated
abbrev pub disclosing_remove : List ℕ → Context → Handles → List Question
disclosing_remove name c h =
    entered_with c h (Known kinds.Remove name)
    (is_directory (here h)
    ∷ is_name name
    ∷ first_row h (Known kinds.Remove name)
    ∷ has_child (here h) name
    ∷ Holds (λ s. not (s.has_entries (number_in (child s (here h) name)))) statuses.NotEmpty tt
    ∷ second_row h (Known kinds.Remove name) (λ s. child s (here h) name) (λ s. None)
    ∷ has_tick
    ∷ [])
