-- A route, without the place of its names and its filehandle in memory.
use Rattle.std.specs.Prelude.{ℕ, List, map}
use Rattle.std.specs.Borrow.{Bor}
use Rattle.nfs_client.specs.Routes as specs
use Rattle.nfs_client.specs.declared.route.Route.{Route}
use Rattle.nfs_client.specs.declared.route.Start.{Start}
use Rattle.nfs_client.specs.declared.route.Start.TheVariants as code

abbrev pub start_value : {A : Type 0} → Start A → specs.Start
start_value code.Root = specs.Root
start_value (code.Object handle) = specs.Object handle.items

-- a route from its start along borrowed names
abbrev pub route_from : {A : Type 0} → Start A → List (Bor (List ℕ)) → specs.Route
route_from start names = record { start = start_value start; names = map (λ n. n.now) names }

abbrev pub route_value : {A : Type 0} → Route A → specs.Route
route_value route = route_from route.start route.names.now
