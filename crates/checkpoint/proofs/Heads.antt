-- The limits and the book that the head of a checkpoint encodes.
use Rattle.std.proofs.Common.{◌≡◌, ℕ, [], ◌++◌, Option, Some, None, Ok, Err, sym, ◌∙◌, ap, subst}
use Rattle.std.proofs.lemmas.List.{append-nil}
use Rattle.xdr_wire.specs.Buffer.{Buffer, Appends}
use Rattle.xdr_wire.specs.Xdr.{Value, HasSpelling, spelling}
use Rattle.xdr_wire.specs.Reading.{read_at}
use Rattle.xdr_wire.proofs.Spelling.{again, spelled}
use Rattle.nfs_types.specs.Limits.{Limits, IsAllowed, limits_of}
use Rattle.store_journal.specs.Disk.{Bytes}
use Rattle.who_book.specs.Content.{Content}
use Rattle.who_book.specs.Document.{book_from}
use Rattle.checkpoint.specs.declared.fault.CheckpointFault.{CheckpointFault}
use Rattle.checkpoint.specs.declared.fault.CheckpointFault.TheVariants.{Profile, Corrupt, Memory}
use Rattle.checkpoint.specs.Head.{head, HeadStates, IsHead, IsText, NamesOther}
use Rattle.checkpoint.specs.internal.Reading.{HeadGives, BookGives}
use Rattle.checkpoint.proofs.One.{head_one}

-- a head was read
module _ (bytes : Bytes) (profile : ℕ) (text : Option Bytes) (whole : IsHead bytes profile text) where
  -- its profile doesn't exist here
  pub head_other : limits_of profile ≡ None → NamesOther bytes
  head_other none = record { profile = profile; text = text; whole = whole; other = none }

  -- its profile has these limits, and then its book is read
  module _ (limits : Limits) (known : limits_of profile ≡ Some limits) where
    not_other : NamesOther bytes → ⊥
    not_other n = never (sym known ∙ ap limits_of (sym (head_one bytes n.profile profile n.text text n.whole whole).0) ∙ n.other)
      where
        never : Some limits ≡ None → ⊥
        never e = cc

    same_text : (other : Limits) (book : Content) (s : HeadStates bytes other book) → s.text ≡ text
    same_text other book s = (head_one bytes s.profile profile s.text text s.whole whole).1

    pub head_read : (book : Content) → IsText text × (book_from text ≡ Ok book) → HeadStates bytes limits book
    head_read book it = record { profile = profile; text = text; whole = whole; limits_are = known; is_text = it.0; book_is = it.1 }

    pub head_unread : (fault : CheckpointFault) → BookGives text (Err fault) → HeadGives bytes (Err fault)
    head_unread Profile it = absurd it
    head_unread Corrupt it = (
      λ other book s. it book (subst IsText (same_text other book s) s.is_text) (ap book_from (sym (same_text other book s)) ∙ s.book_is),
      not_other,
    )
    head_unread Memory it = not_other

-- a head that was written is read again
pub head_written : (limits : Limits) (profile : ℕ) (book : Content) (text : Option Bytes) (old new : Buffer) (bytes : Bytes) → profile ≡ limits.profile → IsAllowed limits → IsText text → book_from text ≡ Ok book → old.bytes ≡ [] → HasSpelling head (profile, text) → Appends old new (spelling head (profile, text)) → bytes ≡ new.bytes → HeadStates bytes limits book
head_written limits profile book text old new bytes is allowed is_text book_is empty has appended same =
    let v : Value head = (profile, text) in
    let are : bytes ≡ spelling head v = same ∙ appended.appended ∙ ap (λ (l : Bytes). l ++ spelling head v) empty in
    record {
      profile = profile;
      text = text;
      whole = ap (read_at head) (are ∙ sym (append-nil (spelling head v))) ∙ again head v (spelling head v) [] (spelled head v has);
      limits_are = ap limits_of is ∙ allowed.known;
      is_text = is_text;
      book_is = book_is;
    }
