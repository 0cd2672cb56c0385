-- The demands on the realm's access control lists (ACLs), and their answers.
use Rattle.std.specs.Prelude.{ℕ, Bool, Option}
use Rattle.rpc_record.specs.Identity.{Identity}
use Rattle.who_book.specs.Members.{member}
use Rattle.nfs_ops.specs.declared.Op.{Op}
use Rattle.nfs_ops.specs.OpViews.{op_view}
use Rattle.nfs_ops.specs.Operations.{number_of}
use Rattle.node_tree.specs.Judged.{judged_of}
use Rattle.access_rows.specs.declared.facts.Clock.{Clock}
use Rattle.access_rows.specs.Rows.{Demands, first_demands, second_demands}
use Rattle.compound_run.specs.declared.realm.Realm as realms
use Rattle.compound_run.specs.declared.filehandles.FileHandles.{FileHandles}
use Rattle.compound_run.specs.Sight.{Sight, whole}
use Rattle.compound_run.specs.Questions.{all_granted, demand_lines}
use Rattle.compound_run.specs.Rows.{first_facts, sized_facts, second_facts, opening_facts}
use Rattle.compound_run.specs.Views.{holding, realm_of}

-- the whole realm
abbrev pub sight_of : {A : Type 0} → realms.Realm A → Sight
sight_of e = whole (realm_of e)

-- whether the ACLs grant these demands to the caller by the book
abbrev pub grants_all : {A : Type 0} → realms.Realm A → Identity → Demands → Bool
grants_all e caller demands = all_granted (judged_of e.tree.world) (member e.tree.book caller) demands

-- the lines of the demands are held
abbrev pub asked : {A : Type 0} → realms.Realm A → Identity → ℕ → Demands → realms.Realm A
asked e caller op demands = holding (demand_lines (judged_of e.tree.world) (member e.tree.book caller) op demands) e

abbrev pub op_number : Op → ℕ
op_number op = number_of (op_view op)

-- the first demands of an operation
abbrev pub first_of : {A : Type 0} → realms.Realm A → Op → FileHandles → Demands
first_of e op h = first_demands (op_view op) (first_facts (sight_of e) h)

-- the first demands of an operation, which depend on a size and on whose time is set
abbrev pub sized_of : {A : Type 0} → realms.Realm A → Op → FileHandles → Option ℕ → Option Clock → Demands
sized_of e op h new_size clock = first_demands (op_view op) (sized_facts (sight_of e) h new_size clock)

-- the demands of an operation after its names are looked up
abbrev pub second_of : {A : Type 0} → realms.Realm A → Op → FileHandles → Option ℕ → Option ℕ → Demands
second_of e op h child replaced = second_demands (op_view op) (second_facts (sight_of e) h child replaced)

-- the demands of OPEN after its name is looked up
abbrev pub opening_of : {A : Type 0} → realms.Realm A → Op → FileHandles → Option ℕ → Option ℕ → Demands
opening_of e op h child new_size = second_demands (op_view op) (opening_facts (sight_of e) h child new_size)
