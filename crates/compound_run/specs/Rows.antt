-- The facts of the realm for the table of demands, and from them the demands of an operation at its place (RFC 8881,
-- sections 6.2.1.3 and 18).
use Rattle.std.specs.Prelude.{ℕ, ◌*◌, Option, Some, None}
use Rattle.std.specs.Option.{option_map}
use Rattle.acl_shape.specs.declared.bounds.TheConstants.{MAX_ENTRIES}
use Rattle.nfs_ops.specs.Operations.{Operation}
use Rattle.access_rows.specs.declared.facts.Clock.{Clock}
use Rattle.access_rows.specs.declared.facts.Object.{Object}
use Rattle.access_rows.specs.declared.facts.First.{First}
use Rattle.access_rows.specs.declared.facts.Second.{Second}
use Rattle.access_rows.specs.Rows.{first_demands, second_demands, most_first}
use Rattle.compound_run.specs.declared.filehandles.FileHandles.{FileHandles}
use Rattle.compound_run.specs.Sight.{Sight}
use Rattle.compound_run.specs.Questions.{Question, Row}

-- the object of a number, if it exists
abbrev pub object_of : Sight → Option ℕ → Option Object
object_of s None = None
object_of s (Some number) = option_map (λ kind. record { number = number; kind = kind }) (s.kinds number)

-- the facts that are known before a name is looked up
abbrev pub first_facts : Sight → FileHandles → First
first_facts s h = record {
  current = object_of s h.current;
  saved = object_of s h.saved;
  size = None;
  new_size = None;
  clock = None;
}

-- the facts with the size of the current object, the size to be set, and whose time is set
abbrev pub sized_facts : Sight → FileHandles → Option ℕ → Option Clock → First
sized_facts s h new_size clock = record (first_facts s h) {
  size = option_map s.sizes h.current;
  new_size = new_size;
  clock = clock;
}

-- The facts that are known after the names are looked up. They are the child of the name, and the target of the new
-- name of a RENAME.
abbrev pub second_facts : Sight → FileHandles → Option ℕ → Option ℕ → Second
second_facts s h child replaced = record {
  current = object_of s h.current;
  saved = object_of s h.saved;
  child = object_of s child;
  replaced = object_of s replaced;
  new_size = None;
}

-- the facts of OPEN: the existing file, if any, and the size to be set
abbrev pub opening_facts : Sight → FileHandles → Option ℕ → Option ℕ → Second
opening_facts s h file new_size = record (second_facts s h file None) { new_size = new_size }

-- the first demands of an operation, and its demands after its names are looked up
abbrev pub first_row : FileHandles → Operation → Question
first_row h op = Row (λ s. first_demands op (first_facts s h))

abbrev pub sized_row : FileHandles → Operation → (Sight → Option ℕ) → (Sight → Option Clock) → Question
sized_row h op new_size clock = Row (λ s. first_demands op (sized_facts s h (new_size s) (clock s)))

abbrev pub second_row : FileHandles → Operation → (Sight → Option ℕ) → (Sight → Option ℕ) → Question
second_row h op child replaced = Row (λ s. second_demands op (second_facts s h (child s) (replaced s)))

abbrev pub opening_row : FileHandles → Operation → (Sight → Option ℕ) → Option ℕ → Question
opening_row h op file new_size = Row (λ s. second_demands op (opening_facts s h (file s) new_size))

-- the most lines of a first row that is granted
abbrev pub MAX_FIRST_LINES : ℕ
MAX_FIRST_LINES = MAX_ENTRIES * most_first
