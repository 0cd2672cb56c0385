-- The metrics of a server: their names, types and helps.
use Rattle.std.specs.Prelude.{ℕ, List, codes}
use Rattle.server_metrics.specs.declared.metric.Kind.{Kind}
use Rattle.server_metrics.specs.declared.metric.Kind.TheVariants.{Counter, Gauge}
use Rattle.server_metrics.specs.declared.metric.Metric.{Metric}
use Rattle.server_metrics.specs.declared.metric.Metric.TheVariants.{BuildInfo, StartTime, Connections}
use Rattle.server_metrics.specs.declared.metric.Metric.TheVariants.{ConnectionsLimit, Clients, ClientsLimit, Sessions}
use Rattle.server_metrics.specs.declared.metric.Metric.TheVariants.{SessionsLimit, Opens}
use Rattle.server_metrics.specs.declared.metric.Metric.TheVariants.{OpensLimit, Objects, ObjectsLimit, Content}
use Rattle.server_metrics.specs.declared.metric.Metric.TheVariants.{ContentLimit, Calls, AclRefusals, ReadBytes}
use Rattle.server_metrics.specs.declared.metric.Metric.TheVariants.{WrittenBytes}
use Rattle.server_metrics.specs.declared.metric.Metric.TheVariants.{Syncs, SlowestSync, Generation, LogBytes}
use Rattle.server_metrics.specs.declared.metric.Metric.TheVariants.{CheckpointAge, Full, BookEpoch}

-- A name ends in the unit. That of a counter ends in `_total`.
unfoldable pub name_of : Metric → List ℕ
name_of BuildInfo = codes "zoclesavory_build_info"
name_of StartTime = codes "zoclesavory_start_time_seconds"
name_of Connections = codes "zoclesavory_connections"
name_of ConnectionsLimit = codes "zoclesavory_connections_limit"
name_of Clients = codes "zoclesavory_clients"
name_of ClientsLimit = codes "zoclesavory_clients_limit"
name_of Sessions = codes "zoclesavory_sessions"
name_of SessionsLimit = codes "zoclesavory_sessions_limit"
name_of Opens = codes "zoclesavory_opens"
name_of OpensLimit = codes "zoclesavory_opens_limit"
name_of Objects = codes "zoclesavory_objects"
name_of ObjectsLimit = codes "zoclesavory_objects_limit"
name_of Content = codes "zoclesavory_content_bytes"
name_of ContentLimit = codes "zoclesavory_content_limit_bytes"
name_of Calls = codes "zoclesavory_calls_total"
name_of AclRefusals = codes "zoclesavory_acl_refusals_total"
name_of ReadBytes = codes "zoclesavory_read_bytes_total"
name_of WrittenBytes = codes "zoclesavory_written_bytes_total"
name_of Syncs = codes "zoclesavory_syncs_total"
name_of SlowestSync = codes "zoclesavory_slowest_sync_seconds"
name_of Generation = codes "zoclesavory_generation"
name_of LogBytes = codes "zoclesavory_log_bytes"
name_of CheckpointAge = codes "zoclesavory_checkpoint_age_seconds"
name_of Full = codes "zoclesavory_full"
name_of BookEpoch = codes "zoclesavory_book_epoch"

-- one line, without a backslash
unfoldable pub help_of : Metric → List ℕ
help_of BuildInfo = codes "The version of the server."
help_of StartTime = codes "When the server started, in seconds since 1970."
help_of Connections = codes "Connections."
help_of ConnectionsLimit = codes "The most connections at a time."
help_of Clients = codes "Clients that the server knows."
help_of ClientsLimit = codes "The most clients."
help_of Sessions = codes "Sessions of clients."
help_of SessionsLimit = codes "The most sessions."
help_of Opens = codes "Opens of files."
help_of OpensLimit = codes "The most opens."
help_of Objects = codes "Objects of the store."
help_of ObjectsLimit = codes "The most objects."
help_of Content = codes "Bytes of all files."
help_of ContentLimit = codes "The most bytes of all files."
help_of Calls = codes "Calls by operation and status."
help_of AclRefusals = codes "Operations that an ACL refused."
help_of ReadBytes = codes "Bytes that READ gave."
help_of WrittenBytes = codes "Bytes that WRITE took."
help_of Syncs = codes "Syncs of the store."
help_of SlowestSync = codes "How long the slowest sync took."
help_of Generation = codes "The generation of the store."
help_of LogBytes = codes "Bytes of the store's active file: the last checkpoint and the calls after it."
help_of CheckpointAge = codes "Seconds since the last checkpoint."
help_of Full = codes "1 if the store is full, else 0."
help_of BookEpoch = codes "The epoch of the book of names."

-- a counter only grows, while the server runs
unfoldable pub kind_of : Metric → Kind
kind_of BuildInfo = Gauge
kind_of StartTime = Gauge
kind_of Connections = Gauge
kind_of ConnectionsLimit = Gauge
kind_of Clients = Gauge
kind_of ClientsLimit = Gauge
kind_of Sessions = Gauge
kind_of SessionsLimit = Gauge
kind_of Opens = Gauge
kind_of OpensLimit = Gauge
kind_of Objects = Gauge
kind_of ObjectsLimit = Gauge
kind_of Content = Gauge
kind_of ContentLimit = Gauge
kind_of Calls = Counter
kind_of AclRefusals = Counter
kind_of ReadBytes = Counter
kind_of WrittenBytes = Counter
kind_of Syncs = Counter
kind_of SlowestSync = Gauge
kind_of Generation = Gauge
kind_of LogBytes = Gauge
kind_of CheckpointAge = Gauge
kind_of Full = Gauge
kind_of BookEpoch = Gauge

unfoldable pub kind_word : Kind → List ℕ
kind_word Counter = codes "counter"
kind_word Gauge = codes "gauge"
