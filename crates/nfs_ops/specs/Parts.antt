-- The parts of arguments and of results by name, re-exported for the crates above: each is defined beside its form.
pub use Rattle.nfs_ops.specs.Forms.{set_of, values_of, closed_stateid, committed_offset, committed_count, Created}
pub use Rattle.nfs_ops.specs.Forms.{File, Directory, Block, Character, Link, Socket, Fifo, AttributeDirectory}
pub use Rattle.nfs_ops.specs.Forms.{NamedAttribute, created, created_type, created_name, created_attributes, How}
pub use Rattle.nfs_ops.specs.Forms.{NoCreate, Unchecked, Guarded, how, Claim, ByName, ByHandle, claim, open_access}
pub use Rattle.nfs_ops.specs.Forms.{open_deny, open_client, open_owner, how_of, claim_of, read_stateid, read_offset}
pub use Rattle.nfs_ops.specs.Forms.{read_count, read_gives, listed_after, listed_at_most, listed_attributes}
pub use Rattle.nfs_ops.specs.Forms.{entry_cookie, entry_name, entry_attributes, old_name, new_name, set_stateid}
pub use Rattle.nfs_ops.specs.Forms.{set_attributes, Reach, Unstable, DataOnly, FileToo, reach, write_stateid}
pub use Rattle.nfs_ops.specs.Forms.{write_offset, write_reach, written_bytes, client_verifier, client_owner}
pub use Rattle.nfs_ops.specs.Forms.{exchange_id_flags, session_client, session_sequence, session_flags, fore_channel}
pub use Rattle.nfs_ops.specs.Forms.{back_channel, request_size, reply_size, cached_size, operations, slots}
pub use Rattle.nfs_ops.specs.Forms.{sequence_session, sequence_number, sequence_slot, highest_slot, keeps_reply}
