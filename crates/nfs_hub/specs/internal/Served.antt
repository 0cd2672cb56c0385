-- The bytes that serving one connection reads and writes.
use Rattle.std.specs.Prelude.{◌≡◌, ℕ, true, false, List, Option, Some}
use Rattle.std.specs.Prelude.{None, IsSome}
use Rattle.std.specs.Io.KnownBytes.{Appends}
use Rattle.nfs_hub.specs.declared.hub.Hub.{Hub}
use Rattle.nfs_hub.specs.declared.serving.ServeEnd.{ServeEnd}
use Rattle.nfs_hub.specs.declared.serving.ServeEnd.TheVariants.{Ended, Inside, Broken, Memory, TooMany, Read, Write}
use Rattle.nfs_hub.specs.declared.serving.ServeEnd.TheVariants.{Turns as TurnsUsedUp}
use Rattle.nfs_hub.specs.Connection.{Read_at}
use Rattle.nfs_hub.specs.Machine.{State}
use Rattle.nfs_hub.specs.Hub.{IsHub, broken_at}
use Rattle.nfs_hub.specs.declared.fault.HubFault.{HubFault}
use Rattle.nfs_hub.specs.declared.fault.HubFault.TheVariants as fault
use Rattle.nfs_hub.specs.Served.{BreaksIn, EndsFor, IsLeft, Serving, Turn, TurnsRun, Writes, Writing}

-- a turn is a transition of the hub, and these bytes are taken
abbrev pub Passes : {A : Type 0} → ℕ → Read_at → Hub A → Hub A → List ℕ → Type 0
Passes id piece old new out = (s : State) → IsHub old s → (t : State) × Turn id piece s out t × IsHub new t

-- the end of a turn: the connection can continue, or it is broken, or the writer failed
abbrev pub PassGives : {A : Type 0} → Option ServeEnd → ℕ → Read_at → Writing A → Writing A → Type 0
PassGives None id piece old new =
    (out : List ℕ) × Passes id piece old.hub new.hub out × Appends old.held new.held out
    × (broken_at new.hub id ≡ Some false)
PassGives (Some Broken) id piece old new =
    (out : List ℕ) × Passes id piece old.hub new.hub out × Appends old.held new.held out
    × (broken_at new.hub id ≡ Some true)
    × ((s : State) → IsHub old.hub s → BreaksIn piece s id new.hub.service out)
PassGives (Some Memory) id piece old new =
    (out : List ℕ) × Passes id piece old.hub new.hub out × Appends old.held new.held out
    × (broken_at new.hub id ≡ Some true)
PassGives (Some Write) id piece old new =
    (out : List ℕ) × Passes id piece old.hub new.hub out × Writes Write old.held new.held out
    × IsSome (broken_at new.hub id)
PassGives (Some Ended) id piece old new = ⊥
PassGives (Some Inside) id piece old new = ⊥
PassGives (Some TooMany) id piece old new = ⊥
PassGives (Some Read) id piece old new = ⊥
PassGives (Some TurnsUsedUp) id piece old new = ⊥

-- the end of serving a connection that a piece broke
abbrev pub broken_end : HubFault → ServeEnd
broken_end fault.Broken = Broken
broken_end fault.Memory = Memory
broken_end fault.NoSuch = Memory
broken_end fault.TooMany = Memory
broken_end fault.Exhausted = Memory

-- from a state of the hub at most this number of turns, the bytes that they write, and why they ended
abbrev pub TurnsEnd : {A : Type 0} → ℕ → ℕ → ServeEnd → State → Serving A → Serving A → Type 0
TurnsEnd id most end start old new =
    (run : TurnsRun id most start new.hub old.left new.left) × Writes end old.held new.held run.written
    × IsLeft end (run.state.connection id)
    × EndsFor end id most new.left
    (record { old = start; pieces = run.pieces; written = run.written; new = run.state })

-- the end of serving, by the fault that refused the connection
abbrev pub refused_end : HubFault → ServeEnd
refused_end fault.Memory = Memory
refused_end fault.TooMany = TooMany
refused_end fault.Exhausted = TooMany
refused_end fault.NoSuch = TooMany
refused_end fault.Broken = TooMany
