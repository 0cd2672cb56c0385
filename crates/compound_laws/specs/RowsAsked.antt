-- The rows of each operation: its questions evaluate these and no others (RFC 8881, sections 6.2.1.3 and 18). They are
-- those of the table of demands, given the facts at the operation's place.
use Rattle.std.specs.Prelude.{◌≡◌, ◌⊎◌, List, [], ◌∷◌, Some, None, true}
use Rattle.nfs_ops.specs.Operations.{Operation, Known}
use Rattle.nfs_ops.specs.declared.OpKind.{OpKind}
use Rattle.nfs_ops.specs.declared.OpKind.TheVariants as kinds
use Rattle.access_rows.specs.Rows.{Demands, first_demands, second_demands}
use Rattle.access_rows.specs.declared.facts.First.{First}
use Rattle.access_rows.specs.declared.facts.Second.{Second}
use Rattle.compound_run.specs.Context.{Context, Handles}
use Rattle.compound_run.specs.Sight.{Sight, child}
use Rattle.compound_run.specs.Questions.{Question, Holds, Valid, Row, Suffices}
use Rattle.compound_run.specs.Rows.{first_facts, sized_facts, second_facts, opening_facts}
use Rattle.compound_run.specs.Meaning.{here}
use Rattle.compound_run.specs.Operations.Open as opens
use Rattle.compound_run.specs.Operations.Readdir as listings
use Rattle.compound_run.specs.Operations.Rename as renames
use Rattle.compound_run.specs.Operations.Setattr.{wanted_on}
use Rattle.compound_run.specs.Requested.{requested}
use Rattle.compound_run.specs.Times.{clock_of}

-- ---- the rows of the table

-- The first row: of SETATTR with the sizes of the file before and after it and whose time it sets, of WRITE with the
-- size before it, of GETATTR with the requested attributes that the profile supports.
abbrev pub first_of : Context → Handles → Operation → Sight → Demands
first_of c h (Known kinds.SetAttr v) s =
    first_demands (Known kinds.SetAttr v)
    (sized_facts s h (wanted_on c v (here h) s).size (clock_of (wanted_on c v (here h) s)))
first_of c h (Known kinds.Write v) s = first_demands (Known kinds.Write v) (sized_facts s h None None)
first_of c h (Known kinds.GetAttr asked) s = first_demands (Known kinds.GetAttr (requested c asked)) (first_facts s h)
first_of c h op s = first_demands op (first_facts s h)

-- The second row, by the objects of the names: OPEN's file, REMOVE's child, RENAME's child and
-- target. READDIR's is the demand by which an entry refuses it, if any.
abbrev pub second_of : Context → Handles → Operation → Sight → Demands
second_of c h (Known kinds.Open v) s =
    second_demands (Known kinds.Open v) (opening_facts s h (opens.found v h s) (opens.wanted c v).size)
second_of c h (Known kinds.ReadDir v) s = listings.refused_in (listings.listed c v (here h) s) ∷ []
second_of c h (Known kinds.Remove name) s =
    second_demands (Known kinds.Remove name) (second_facts s h (child s (here h) name) None)
second_of c h (Known kinds.Rename v) s =
    second_demands (Known kinds.Rename v) (second_facts s h (renames.moved h v s) (renames.replaced h v s))
second_of c h op s = second_demands op (second_facts s h None None)

-- the rows of an operation by its number, of its two, in order; all others have none
abbrev pub rows_at : OpKind → (first second : Sight → Demands) → List (Sight → Demands)
rows_at kinds.Create first second = first ∷ []
rows_at kinds.GetAttr first second = first ∷ []
rows_at kinds.Link first second = first ∷ []
rows_at kinds.Lookup first second = first ∷ []
rows_at kinds.LookupP first second = first ∷ []
rows_at kinds.NVerify first second = first ∷ []
rows_at kinds.Open first second = first ∷ second ∷ []
rows_at kinds.Read first second = first ∷ []
rows_at kinds.ReadDir first second = first ∷ second ∷ []
rows_at kinds.ReadLink first second = first ∷ []
rows_at kinds.Remove first second = first ∷ second ∷ []
rows_at kinds.Rename first second = first ∷ second ∷ []
rows_at kinds.SetAttr first second = first ∷ []
rows_at kinds.Verify first second = first ∷ []
rows_at kinds.Write first second = first ∷ []
rows_at kind first second = []

abbrev pub table_rows : Context → Handles → Operation → List (Sight → Demands)
table_rows c h (Known kind v) = rows_at kind (first_of c h (Known kind v)) (second_of c h (Known kind v))
table_rows c h op = []

-- nothing is demanded
abbrev pub IsEmpty : Demands → Type 0
IsEmpty [] = Unit {0}
IsEmpty (None ∷ demands) = IsEmpty demands
IsEmpty (Some demand ∷ demands) = ⊥

-- the table has no first row, or no second one, for an operation, whatever the facts are
abbrev pub HasNoFirst : Operation → Type 0
HasNoFirst op = (facts : First) → IsEmpty (first_demands op facts)

abbrev pub HasNoSecond : Operation → Type 0
HasNoSecond op = (facts : Second) → IsEmpty (second_demands op facts)

-- ---- the rows of questions

-- all of them, in order
abbrev pub rows_of : List Question → List (Sight → Demands)
rows_of [] = []
rows_of (Row demands ∷ questions) = demands ∷ rows_of questions
rows_of (Holds test status is ∷ questions) = rows_of questions
rows_of (Valid fault may ∷ questions) = rows_of questions
rows_of (Suffices test ∷ questions) = rows_of questions

-- the row is one of these
abbrev pub IsAmong : (Sight → Demands) → List (Sight → Demands) → Type 0
IsAmong row [] = ⊥
IsAmong row (r ∷ rows) = (r ≡ row) ⊎ IsAmong row rows

-- one of the questions suffices: those after it aren't evaluated
abbrev pub SomeSuffices : Sight → List Question → Type 0
SomeSuffices s [] = ⊥
SomeSuffices s (Suffices test ∷ questions) = (test s ≡ true) ⊎ SomeSuffices s questions
SomeSuffices s (Holds test status is ∷ questions) = SomeSuffices s questions
SomeSuffices s (Valid fault may ∷ questions) = SomeSuffices s questions
SomeSuffices s (Row demands ∷ questions) = SomeSuffices s questions

-- a RENAME whose two names belong to one object
abbrev pub IsOntoItself : Handles → Operation → Sight → Type 0
IsOntoItself h (Known kinds.Rename v) s = renames.is_same h v s ≡ true
IsOntoItself h op s = ⊥
