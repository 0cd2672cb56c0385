use Rattle.nfs_streams.proofs.Storing.{marks}
use Rattle.nfs_streams.proofs.serving.mark.Goals as goal

pub returns-clause-marks : goal.returns-clause-marks
returns-clause-marks g c = λ n limits hub places o same st.
    marks g.S.Streams.acts g.S.Disk.adds g.met.S.Streams.disk_acts _ _ st _ c.mark_store.result c.mark_store.ensures
