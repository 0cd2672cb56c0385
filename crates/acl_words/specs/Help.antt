-- The help on a field: the texts that are valid in it.
use Rattle.std.specs.Prelude.{ℕ, List, codes}
use Rattle.acl_words.specs.declared.field.Field.{Field}
use Rattle.acl_words.specs.declared.field.Field.TheVariants.{Form, EntryType, Flags, Permissions, Principal}

abbrev pub help_text : Field → List ℕ
help_text Form = codes "an entry is TYPE:FLAGS:PRINCIPAL:PERMISSIONS, as in A:fd:alice@lab.example:rxtncy"
help_text EntryType = codes "TYPE is A (allow), D (deny), U (audit) or L (alarm)"
help_text Flags = codes "FLAGS are some of f d n i S F g h, or none"
help_text Permissions = codes "PERMISSIONS are some of r w a D d x t T n N c C o y, R W X, +200 and +400, or none"
help_text Principal =
    codes "PRINCIPAL is OWNER@, GROUP@, EVERYONE@, a name of the book, NAME@DOMAIN or a number; with g a group's"
