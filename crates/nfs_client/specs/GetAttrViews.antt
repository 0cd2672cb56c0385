-- The returned attributes, as they are answered.
use Rattle.std.specs.Prelude.{ℕ, List}
use Rattle.nfs_types.specs.Views.{bitmap_value}
use Rattle.nfs_client.specs.declared.attributes.Given.{Given}

abbrev pub given_value : {A : Type 0} → Given A → List ℕ × List ℕ
given_value g = (bitmap_value g.set, g.values.items)
