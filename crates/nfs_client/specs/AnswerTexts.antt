-- The answer of a command, as it is printed.
use Rattle.std.specs.Prelude.{◌≡◌, ℕ, List, [], ◌∷◌, ◌++◌, codes, Vec, Result, Ok, Err}
use Rattle.nfs_ops.specs.declared.access.AccessResult.{AccessResult}
use Rattle.nfs_client.specs.Digits.{hex_word}
use Rattle.nfs_client.specs.declared.running.Answer.{Answer}
use Rattle.nfs_client.specs.declared.running.Answer.TheVariants.{Done, Rights, Text}
use Rattle.nfs_client.specs.declared.fault.ToolFault.{ToolFault}
use Rattle.nfs_client.specs.declared.fault.ToolFault.TheVariants.{Memory}

abbrev pub ok_line : List ℕ
ok_line = codes "ok" ++ 10 ∷ []

-- the text of an answer
abbrev pub answer_text : {A : Type 0} → Answer A → List ℕ
answer_text Done = ok_line
answer_text (Rights line) = line
answer_text (Text text) = text.items

-- the supported permissions, and the granted ones, by eight digits each
abbrev pub rights_line : AccessResult → List ℕ
rights_line r = codes "access " ++ hex_word r.supported ++ codes " " ++ hex_word r.granted ++ 10 ∷ []

-- ---- the text of a command's answer

abbrev pub ok_text : Unit {0} → List ℕ
ok_text done = ok_line

abbrev pub rights_text : AccessResult → List ℕ
rights_text r = rights_line r

abbrev pub text_of_bytes : {A : Type 0} → Vec ℕ A → List ℕ
text_of_bytes v = v.items

abbrev pub line_text : {A : Type 0} → Vec ℕ A → List ℕ
line_text v = v.items ++ 10 ∷ []

-- The answer is this text of the value. A fault is unchanged.
abbrev pub PrintsAs : {A V : Type 0} → (V → List ℕ) → Result V ToolFault → Result (Answer A) ToolFault → Type 0
PrintsAs text (Ok v) (Ok answer) = answer_text answer ≡ text v
PrintsAs text (Err fault) (Err fault') = fault' ≡ fault
PrintsAs text (Ok v) (Err fault') = ⊥
PrintsAs text (Err fault) (Ok answer) = ⊥

-- a newline is appended to the bytes, or an allocation fails
abbrev pub NewlineGives : {A : Type 0} → List ℕ → Result (Answer A) ToolFault → Type 0
NewlineGives bytes (Ok answer) = answer_text answer ≡ bytes ++ 10 ∷ []
NewlineGives bytes (Err fault) = fault ≡ Memory
