use Rattle.std.proofs.Common.{◌≡◌, ℕ, List, subst}
use Rattle.std.specs.Prelude.{Err, IfErr, OnOk}
use Rattle.nfs_ops.specs.Listing.{listing, readdir_limit}
use Rattle.nfs_ops.specs.ListingSteps.{Lists}
use Rattle.nfs_ops.specs.Parts.{listed_after, listed_at_most}
use Rattle.nfs_ops.specs.Views.{readdir_args_value}
use Rattle.compound_run.specs.Asking.{sight_of}
use Rattle.compound_run.specs.Operations.Readdir.{judged_above, listed}
use Rattle.compound_run.specs.Views.{context_at}
use Rattle.compound_run.proofs.realm.Realm.put_listing.Goals as goal

pub returns-clause-ok : goal.returns-clause-ok
unfolding listed
returns-clause-ok g c =
    let e = c.args.self.now in
    let v = readdir_args_value c.args.args.now in
    let room = c.args.context.room in
    subst (λ (set : List ℕ). OnOk c.write_readdir.result (Lists (listing (readdir_limit (listed_at_most v) room) (judged_above (context_at e c.args.context) set c.args.directory (listed_after v) (sight_of e))) room c.args.out.now c.write_readdir.new.writer))
    c.requested.ensures c.write_readdir.ensures.ok

pub returns-clause-err : goal.returns-clause-err
unfolding listed
returns-clause-err g c =
    let e = c.args.self.now in
    let v = readdir_args_value c.args.args.now in
    let room = c.args.context.room in
    subst (λ (set : List ℕ). IfErr c.write_readdir.result (λ fault. (listing (readdir_limit (listed_at_most v) room) (judged_above (context_at e c.args.context) set c.args.directory (listed_after v) (sight_of e)) ≡ Err fault) × (c.write_readdir.new.writer ≡ c.args.out.now)))
    c.requested.ensures c.write_readdir.ensures.err
