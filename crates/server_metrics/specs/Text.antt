-- The text of a server's metrics, in Prometheus' text exposition format, version 0.0.4.
use Rattle.std.specs.Prelude.{ℕ, ◌+◌, ◌/◌, ◌%◌, ◌==◌, if◌then◌else◌, Bool, List, [], ◌∷◌, ◌++◌, Option, Some, None}
use Rattle.std.specs.Prelude.{codes, decimal}
use Rattle.std.specs.List.{flat_map}
use Rattle.server_metrics.specs.Names.{help_of, kind_of, kind_word, name_of}
use Rattle.server_metrics.specs.declared.metric.Metric.{Metric}
use Rattle.server_metrics.specs.declared.metric.Metric.TheVariants as metric
use Rattle.server_metrics.specs.declared.metrics.CallCount.{CallCount}
use Rattle.server_metrics.specs.declared.metrics.Metrics.{Metrics}
use Rattle.server_metrics.specs.declared.metrics.Usage.{Usage}

-- the two lines before the samples of a metric
unfoldable pub head : Metric → List ℕ
head metric =
    codes "# HELP " ++ name_of metric ++ codes " " ++ help_of metric
    ++ codes "\n# TYPE " ++ name_of metric ++ codes " " ++ kind_word (kind_of metric) ++ codes "\n"

-- a metric of one sample
unfoldable pub single : Metric → List ℕ → List ℕ
single metric value = head metric ++ name_of metric ++ codes " " ++ value ++ codes "\n"

-- a metric of one whole number
unfoldable pub count : Metric → ℕ → List ℕ
count metric n = single metric (decimal n)

-- a number of six digits, with the zeros before it
unfoldable pub six_digits : ℕ → List ℕ
six_digits n =
    (48 + n / 100000 % 10) ∷ (48 + n / 10000 % 10) ∷ (48 + n / 1000 % 10) ∷ (48 + n / 100 % 10) ∷ (48 + n / 10 % 10)
    ∷ (48 + n % 10) ∷ []

-- microseconds as seconds, as in 0.000250
unfoldable pub seconds : ℕ → List ℕ
seconds micros = decimal (micros / 1000000) ++ codes "." ++ six_digits (micros % 1000000)

-- a byte of a label's value: a backslash, a quote and a newline are escaped
abbrev pub escaped_byte : ℕ → List ℕ
escaped_byte b =
    if b == 92 then codes "\\\\" else if b == 34 then codes "\\\"" else if b == 10 then codes "\\n" else b ∷ []

unfoldable pub escaped : List ℕ → List ℕ
escaped text = flat_map escaped_byte text

-- a label's value after the text before it
unfoldable pub label : List ℕ → List ℕ → List ℕ
label before text = before ++ escaped text

-- which server it is
unfoldable pub server_text : Metrics → List ℕ
server_text m =
    head metric.BuildInfo
    ++ name_of metric.BuildInfo ++ label (codes "{version=\"") m.version.now ++ codes "\"} 1\n"
    ++ count metric.StartTime m.start_time

-- what clients use, with the limits
unfoldable pub clients_text : Metrics → List ℕ
clients_text m =
    count metric.Connections m.connections.used
    ++ count metric.ConnectionsLimit m.connections.limit
    ++ count metric.Clients m.clients.used
    ++ count metric.ClientsLimit m.clients.limit
    ++ count metric.Sessions m.sessions.used
    ++ count metric.SessionsLimit m.sessions.limit
    ++ count metric.Opens m.opens.used
    ++ count metric.OpensLimit m.opens.limit

-- the most bytes of all files, if there is a limit
unfoldable pub capacity_text : Option ℕ → List ℕ
capacity_text None = []
capacity_text (Some most) = count metric.ContentLimit most

-- what the store holds, with the limits
unfoldable pub contents_text : Metrics → List ℕ
contents_text m =
    count metric.Objects m.objects.used
    ++ count metric.ObjectsLimit m.objects.limit
    ++ count metric.Content m.content
    ++ capacity_text m.capacity

-- the labels of the calls of an operation with a status
unfoldable pub labels : CallCount → List ℕ
labels c = label (codes "{operation=\"") c.operation.now ++ label (codes "\",status=\"") c.status.now ++ codes "\"} "

-- the calls of an operation with a status, in a line
unfoldable pub call_sample : CallCount → List ℕ
call_sample c = name_of metric.Calls ++ labels c ++ decimal c.count

abbrev pub call_line : CallCount → List ℕ
call_line c = call_sample c ++ codes "\n"

-- the calls, a line for each operation and status
unfoldable pub calls_text : List CallCount → List ℕ
calls_text calls = head metric.Calls ++ flat_map call_line calls

-- what was refused, read, written and synced
unfoldable pub work_text : Metrics → List ℕ
work_text m =
    count metric.AclRefusals m.acl_refusals
    ++ count metric.ReadBytes m.read_bytes
    ++ count metric.WrittenBytes m.written_bytes
    ++ count metric.Syncs m.syncs
    ++ single metric.SlowestSync (seconds m.slowest_sync)

-- the log, the checkpoint and the book
unfoldable pub store_text : Metrics → List ℕ
store_text m =
    count metric.Generation m.generation
    ++ count metric.LogBytes m.log_bytes
    ++ count metric.CheckpointAge m.checkpoint_age
    ++ count metric.Full (if m.is_full then 1 else 0)
    ++ count metric.BookEpoch m.book_epoch

-- the whole text
abbrev pub metrics_text : Metrics → List ℕ
metrics_text m =
    server_text m ++ clients_text m ++ contents_text m ++ calls_text m.calls.now ++ work_text m ++ store_text m
