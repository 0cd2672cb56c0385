use Rattle.std.proofs.Common.{rules}
use Rattle.node_tree.specs.World.{bytes_of}
use Rattle.compound_run.specs.Operations.Read.{most_of}
use Rattle.compound_run.specs.Runs.{spelled}
use Rattle.compound_run.proofs.Bytes.{end_is}
use Rattle.compound_run.proofs.realm.Realm.put_data.Goals as goal

pub returns-clause-written : goal.returns-clause-written
unfolding spelled
returns-clause-written g c =
    let bytes = bytes_of c.args.self.now.tree.world c.args.file in
    let most = most_of c.args.args.now.count c.args.context.room in
    let ends = end_is bytes c.args.args.now.offset most in
    search (rules, ends)
