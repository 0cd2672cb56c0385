-- The figures of a text of metrics.
use Rattle.std.specs.Prelude.{◌≡◌, ◌==◌, ℕ, Bool, List, Option, Some, None, IsNone}
use Rattle.server_metrics.specs.Reading.{ReadsMetric, ReadsSeconds}
use Rattle.server_metrics.specs.declared.metric.Metric.{Metric}
use Rattle.server_metrics.specs.declared.metric.Metric.TheVariants as metric
use Rattle.server_metrics.specs.declared.metrics.Usage.{Usage}
use Rattle.nfstat.specs.declared.figures.Limits.{Limits}
use Rattle.nfstat.specs.declared.figures.Work.{Work}
use Rattle.nfstat.specs.declared.figures.Store.{Store}

-- the number of a metric in a text
abbrev pub Reads : List ℕ → Metric → ℕ → Type 0
Reads text m n = ReadsMetric text m (Some n)

-- how many there are of something, and the most that there may be
abbrev pub ReadsUsage : List ℕ → Metric → Metric → Usage → Type 0
ReadsUsage text used limit u = Reads text used u.used × Reads text limit u.limit

-- each limit is that of its metrics; the text may have no limit of bytes
pub record ReadsLimits (text : List ℕ) (l : Limits) : Type 0 where
  pub connections : ReadsUsage text metric.Connections metric.ConnectionsLimit l.connections
  pub clients : ReadsUsage text metric.Clients metric.ClientsLimit l.clients
  pub sessions : ReadsUsage text metric.Sessions metric.SessionsLimit l.sessions
  pub opens : ReadsUsage text metric.Opens metric.OpensLimit l.opens
  pub objects : ReadsUsage text metric.Objects metric.ObjectsLimit l.objects
  pub content : Reads text metric.Content l.content
  pub capacity : ReadsMetric text metric.ContentLimit l.capacity

-- each figure is that of its metric
pub record ReadsWork (text : List ℕ) (w : Work) : Type 0 where
  pub acl_refusals : Reads text metric.AclRefusals w.acl_refusals
  pub read_bytes : Reads text metric.ReadBytes w.read_bytes
  pub written_bytes : Reads text metric.WrittenBytes w.written_bytes
  pub syncs : Reads text metric.Syncs w.syncs
  pub slowest_sync : ReadsSeconds text metric.SlowestSync (Some w.slowest_sync)

pub record ReadsStore (text : List ℕ) (s : Store) : Type 0 where
  pub start_time : Reads text metric.StartTime s.start_time
  pub generation : Reads text metric.Generation s.generation
  pub log_bytes : Reads text metric.LogBytes s.log_bytes
  pub checkpoint_age : Reads text metric.CheckpointAge s.checkpoint_age
  pub full : Reads text metric.Full s.full
  pub book_epoch : Reads text metric.BookEpoch s.book_epoch
