-- The content of an object, by its type: the type, and the bytes of a file or the text of a symbolic link.
use Rattle.std.specs.Prelude.{ℕ, ◌^◌, List, []}
use Rattle.acl_list.specs.declared.entry.Kind.{Kind}
use Rattle.acl_list.specs.declared.entry.Kind.TheVariants as kinds
use Rattle.node_tree.specs.declared.contents.Contents.{Contents}
use Rattle.node_tree.specs.declared.contents.Contents.TheVariants.{File, Directory, Link}

abbrev pub kind_held : {A : Type 0} → Contents A → Kind
kind_held (File blocks) = kinds.File
kind_held Directory = kinds.Directory
kind_held (Link text) = kinds.Link

-- The most bytes that the content of a new object has in memory, whatever the limits are. A directory has none.
abbrev pub most_held : Kind → ℕ
most_held kinds.File = 2 ^ 62
most_held kinds.Directory = 0
most_held kinds.Link = 2 ^ 62

abbrev pub bytes_held : {A : Type 0} → Contents A → List ℕ
bytes_held (File blocks) = blocks
bytes_held Directory = []
bytes_held (Link text) = text.items
