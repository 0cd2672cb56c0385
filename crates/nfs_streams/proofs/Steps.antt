-- Each act of serving, as a step from one stage to the next.
use Rattle.std.proofs.Common.{◌≡◌, ◌≢◌, ◌≤◌, ◌<◌, ℕ, ◌+◌, ◌-◌, Bool, true, false, List, [], ◌∷◌, ◌++◌, length, take, Option, Some, None, refl, sym, ap, subst, ◌∙◌, option_map, inl, inr, arith}
use Rattle.std.specs.Ordering.{nat_cmp}
use Rattle.std.specs.BTreeMap.{get}
use Rattle.std.specs.Prelude.{Result, ◌⊎◌, MatchOption, IfSome, IsNone, IfOk, Err, Ok, min, set, drop, is_some, is_err, not}
use Rattle.std.proofs.lemmas.List.{set-set, length-append, length-take-le, take-append-le, take-append-drop}
use Rattle.std.proofs.Math.Seq.{take-length}
use Rattle.std.proofs.lemmas.Bool.{cases_eq}
use Rattle.who_book.specs.Content.{Content}
use Rattle.call_store.specs.declared.store.Store.{Store as CallStore}
use Rattle.compound_run.specs.State.{State as ServerState}
use Rattle.nfs_types.specs.declared.moment.Moment.{Moment}
use Rattle.nfs_hub.specs.declared.connection.Connection.{Connection}
use Rattle.nfs_hub.specs.declared.hub.Hub.{Hub}
use Rattle.nfs_hub.specs.declared.fault.HubFault.{HubFault}
use Rattle.nfs_hub.specs.declared.fault.HubFault.TheVariants as fault
use Rattle.nfs_hub.specs.Answer.{Served as ServedState, expiring}
use Rattle.nfs_hub.specs.Connection.{TakesPrefix, taken_of}
use Rattle.nfs_hub.specs.Machine.{Connected, State, Connect, Piece, Take, Close, Reload, ClientExpired, Step, PieceOn, TakeOn, ChangesConnection, ReachedBreak, fresh}
use Rattle.nfs_hub.specs.Hub.{IsHub, Goes, PrefixGives, BreaksInPiece, ConnectGives, ConsumeGives, IsUnchanged, SameConnection, pending_at, broken_at}
use Rattle.nfs_streams.specs.declared.peer.Peer.{Peer}
use Rattle.nfs_streams.specs.declared.streams.Moved.{Moved}
use Rattle.nfs_streams.specs.declared.streams.Moved.TheVariants as moved
use Rattle.nfs_streams.specs.declared.streams.StreamEnd.{StreamEnd}
use Rattle.nfs_streams.specs.declared.streams.StreamEnd.TheVariants as end
use Rattle.nfs_streams.specs.declared.serving.AllEnd.TheVariants.{Served, Turns, Wait, Keep}
use Rattle.nfs_streams.specs.Acts.{Act, Just, IsAsked, IsSettled, IsStored, book_waiting, Waited, Arrived, Admitted, Closed, Received, Ended, Unread, Looked, Brought, Loaded, Begun, Given, Kept, Lost, Expired, Sent, Unwritten, Adds, conn_at, open_in, ahead, fault_at, of_streams, write_acts}
use Rattle.nfs_streams.specs.Runs.{Runs, HasKept, On, StepAt, AnswersOne, FaultIs, CanBegin, CanReceive, IsSpent, IsWaiting, MayReceive, MayClose, MOST_PLACES, most_open}
use Rattle.nfs_streams.specs.Seats.{AreSeats, AreWaiting, FewAreWaiting, Knows, IsSeated, IsFresh, place_at, taken}
use Rattle.nfs_streams.specs.Stages.{Origin, Left, Keeping, Stage, Listening, Arriving, Full, Trailing, Looking, Giving, Piecing, Unkept, Answering, Stopped, Ending, Way, AtStage, StreamEnds, IsClosing, BookLoads, ends_at, broken_end, closed_stage, looked_stage, kept_stage, given_all_stage}
use Rattle.nfs_streams.proofs.Lists.{none_some, set_here, set_there, set_back, taken_swap, adds_on, closed_here, closed_there, admitted_here, admitted_there, ahead_received, turns_received, ahead_received_there, turns_received_there, ahead_given, fault_given, left_given, ahead_given_there, fault_given_there, left_begun, ahead_admitted, turns_admitted, fault_admitted, ahead_admitted_there, turns_admitted_there, fault_admitted_there}
use Rattle.nfs_streams.proofs.Hubs.{pending_of, broken_of, stepped}
use Rattle.nfs_streams.proofs.Keeping.{still_kept, now_kept, goes_on, goes_as, replies_survive, stops, stops_by}
use Rattle.nfs_streams.proofs.Changing.{Here, Same, changed, some_peer, here_at, one_place, stays_at, seats_as, seats_in}

-- ---- a stream is read

-- the waiting bytes are pending on the connection of the place
waiting_at : {A : Type 0} {start : ℕ} {hub : Hub A} {places : List (Option (Peer A))} {acts : List Act} {s : State} (st : AreSeats start hub places acts s) (i : ℕ) (p : Peer A) (h : Here i p acts s) (bytes : List ℕ) → AreWaiting hub p.conn bytes → h.connected.pending ≡ bytes
waiting_at {hub = hub} {s = s} st i p h bytes waiting = waiting h.connected.pending (pending_of hub s st.is p.conn h.connected h.opened)

-- a connection without a fault isn't broken
whole_at : {A : Type 0} {i : ℕ} {p : Peer A} {acts : List Act} {s : State} (h : Here i p acts s) → p.fault ≡ None → h.connected.broken ≡ false
whole_at h none = h.sound ∙ ap (λ (f : Option HubFault). is_some f) none

nothing : List ℕ
nothing = []

module _ {A : Type 0} {start : ℕ} {hub : Hub A} {acts : List Act} {s : State} (ps : List (Option (Peer A))) (i : ℕ) (p : Peer A) (lt : i < length ps) (st : AreSeats start hub (set ps i (Some p)) acts s) where
  abbrev here : Here i p acts s
  here = here_at st i p (set_here ps i (Some p) lt)

  -- the connection can receive
  can_receive : AreWaiting hub p.conn [] → p.fault ≡ None → On acts i s CanReceive
  can_receive drained none = (p.conn, here.connected, here.conn, here.opened, (whole_at here none, waiting_at st i p here [] drained))

  -- a piece may begin
  can_begin : FewAreWaiting hub p.conn → p.fault ≡ None → On acts i s CanBegin
  can_begin few none = (p.conn, here.connected, here.conn, here.opened, (whole_at here none, few here.connected.pending (pending_of hub s st.is p.conn here.connected here.opened)))

  -- the stream may be read
  may_receive : IsSettled acts → AreWaiting hub p.conn [] → p.fault ≡ None → p.ahead ≡ [] → MayReceive acts i s
  may_receive settled drained none given = (settled, here.knows.0 ∙ given, can_receive drained none)

received_knows : {A : Type 0} (acts : List Act) (i : ℕ) (bytes : List ℕ) (p p' : Peer A) → Knows acts i p → p.ahead ≡ [] → p'.ahead ≡ bytes → p'.turns ≡ p.turns + 1 → p'.fault ≡ p.fault → Knows (Received i bytes ∷ acts) i p'
received_knows acts i bytes p p' k none is turns fault = (
  ahead_received acts i bytes ∙ ap (λ (l : List ℕ). l ++ bytes) (k.0 ∙ none) ∙ sym is,
  turns_received acts i bytes ∙ ap (λ (n : ℕ). n + 1) k.1 ∙ sym turns,
  k.2 ∙ sym fault,
)

module _ {A : Type 0} {n : ℕ} {o : Origin} {hub : Hub A} {left : Left} {before : Option (List Act)} (ps : List (Option (Peer A))) (i : ℕ) (p : Peer A) (lt : i < length ps) (st : AtStage (Listening n) o hub (set ps i (Some p)) left before) where
  pub received_bytes : (bytes : List ℕ) (p' : Peer A) (after : Option (List Act)) → AreWaiting hub p.conn [] → p.fault ≡ None → p.ahead ≡ [] → length bytes ≤ 131072 → p.turns < o.limits.reads → Adds before after (Received i bytes ∷ [])
      → p'.conn ≡ p.conn → p'.ahead ≡ bytes → p'.turns ≡ p.turns + 1 → p'.fault ≡ p.fault → AtStage (Listening n) o hub (set ps i (Some p')) left after
  received_bytes bytes p' after drained none given short few added conn is turns fault =
      let h = here ps i p lt st.seats in
      let acts' = Received i bytes ∷ st.acts in
      let run : Runs o.limits acts' o.start st.machine = (st.machine, st.way.0, (may_receive ps i p lt st.seats st.way.2 drained none given, short, omega (arith, few, h.knows.1)), refl) in
      record {
        acts = acts';
        machine = st.machine;
        way = (run, st.way.1, tt);
        keeping = goes_as o.store left.store o (Received i bytes) st.acts st.machine run tt (refl, λ state stored. stored) refl st.keeping;
        seats = stays_at ps i p p' st.seats lt conn hub acts' st.machine st.seats.is (λ k ne. refl) refl
            (inl (record { peer = p'; connected = h.connected; here = refl; numbered = conn; opened = h.opened; sound = h.sound ∙ ap (λ (f : Option HubFault). is_some f) (sym fault) })) (λ j. refl) refl
            (received_knows st.acts i bytes p p' h.knows given is turns fault)
            (λ j ne. (ahead_received_there st.acts i j bytes ne, turns_received_there st.acts i j bytes ne, refl));
        adds = adds_on o.first before after (of_streams st.acts) (Received i bytes ∷ []) st.adds added;
        fewer = st.fewer;
        book = st.book;
      }

  -- nothing was read
  pub unheard : (bytes : List ℕ) (after : Option (List Act)) → p.ahead ≡ [] → bytes ≡ [] → Adds before after [] → AtStage (Listening n) o hub (set ps i (Some (record p { ahead = bytes }))) left after
  unheard bytes after given none added =
      subst (λ (l : List ℕ). AtStage (Listening n) o hub (set ps i (Some (record p { ahead = l }))) left after) (given ∙ sym none)
      (record { acts = st.acts; machine = st.machine; way = st.way; keeping = st.keeping; seats = st.seats; adds = adds_on o.first before after (of_streams st.acts) [] st.adds added; fewer = st.fewer; book = st.book })

-- ---- bytes are given

-- a piece begins if few bytes wait
pub begins : {A : Type 0} {n m : ℕ} {o : Origin} {hub : Hub A} {left : Left} {now : Option (List Act)} (ps : List (Option (Peer A))) (i : ℕ) (p : Peer A) → i < length ps → (most : ℕ) → p.fault ≡ None → (most ≡ m) ⊎ ((most ≡ 4096) × FewAreWaiting hub p.conn)
    → AtStage (Piecing n i m) o hub (set ps i (Some p)) left now → AtStage (Piecing n i most) o hub (set ps i (Some p)) left now
begins {n = n} {o = o} {hub = hub} {left = left} {now = now} ps i p lt most none (inl same) st = subst (λ (k : ℕ). AtStage (Piecing n i k) o hub (set ps i (Some p)) left now) (sym same) st
begins {o = o} {left = left} ps i p lt most none (inr new) st =
    let run : Runs o.limits (Begun i ∷ st.acts) o.start st.machine = (st.machine, st.way.0, (st.way.2, can_begin ps i p lt st.seats new.1 none), refl) in
    record {
      acts = Begun i ∷ st.acts;
      machine = st.machine;
      way = (run, st.way.1, tt, still_kept st.way.3, st.way.4, omega (arith, new.0, left_begun st.acts i));
      keeping = goes_as o.store left.store o (Begun i) st.acts st.machine run tt (refl, λ state stored. stored) refl st.keeping;
      seats = seats_as (Begun i ∷ st.acts) (λ j. refl) (λ j. (refl, refl, refl)) refl st.seats;
      adds = st.adds;
      fewer = st.fewer;
      book = st.book;
    }

-- the fault of the hub
abbrev pub fault_of : Result ℕ HubFault → Option HubFault
fault_of (Ok k) = None
fault_of (Err why) = Some why

some_same : (x y : Bool) → Some x ≡ Some y → x ≡ y
some_same x y e = cc

take_shorter : (k m : ℕ) (l : List ℕ) → k ≤ length (take m l) → take k (take m l) ≡ take k l
take_shorter k m l le = sym (take-append-le k (take m l) (drop m l) le) ∙ ap (λ (t : List ℕ). take k t) (take-append-drop m l)

-- at most one record is answered
answers_one : (r : Result ℕ HubFault) (c : Connected) (prefix : List ℕ) (old new : State) (pending : List ℕ) → TakesPrefix r c prefix old.served new.served pending → AnswersOne c.rest (take (taken_of r prefix) prefix) old new
answers_one (Ok k) c prefix old new pending (inl record_ends) = inr record_ends
answers_one (Ok k) c prefix old new pending (inr none) = inl none.2
answers_one (Err why) c prefix old new pending none = inl none.0

-- the machine has the same fault
fault_is : (r : Result ℕ HubFault) (acts : List Act) (i id : ℕ) (prefix : List ℕ) (now : Moment) (old new : State) (c d : Connected) → conn_at acts i ≡ Some id → old.connection id ≡ Some c → new.connection id ≡ Some d → d.broken ≡ is_err r
    → (r ≡ Err fault.Broken → ReachedBreak now old.served c.pending (c.rest ++ prefix) new.served d.pending) → FaultIs (fault_of r) acts i (take (taken_of r prefix) prefix) now old new
fault_is (Ok k) acts i id prefix now old new c d conn was is broken breaks = (id, d, conn, is, broken)
fault_is (Err fault.Broken) acts i id prefix now old new c d conn was is broken breaks =
    (id, d, conn, is, (broken, (id, c, conn, was, subst (λ (l : List ℕ). ReachedBreak now old.served c.pending (c.rest ++ l) new.served d.pending) (sym (take-length prefix)) (breaks refl))))
fault_is (Err fault.Memory) acts i id prefix now old new c d conn was is broken breaks = (id, d, conn, is, broken)
fault_is (Err fault.NoSuch) acts i id prefix now old new c d conn was is broken breaks = (id, d, conn, is, broken)
fault_is (Err fault.TooMany) acts i id prefix now old new c d conn was is broken breaks = (id, d, conn, is, broken)
fault_is (Err fault.Exhausted) acts i id prefix now old new c d conn was is broken breaks = (id, d, conn, is, broken)

some_fault : (r : Result ℕ HubFault) → is_some (fault_of r) ≡ is_err r
some_fault (Ok k) = refl
some_fault (Err why) = refl

given_knows : {A : Type 0} (acts : List Act) (i : ℕ) (bytes : List ℕ) (why : Option HubFault) (p p' : Peer A) → Knows acts i p → p'.ahead ≡ drop (length bytes) p.ahead → p'.turns ≡ p.turns → p'.fault ≡ why → Knows (Given i bytes why ∷ acts) i p'
given_knows acts i bytes why p p' k is turns fault = (
  ahead_given acts i bytes why ∙ ap (λ (l : List ℕ). drop (length bytes) l) k.0 ∙ sym is,
  k.1 ∙ sym turns,
  fault_given acts i bytes why ∙ sym fault,
)

module _ {A : Type 0} {n most : ℕ} {o : Origin} {hub : Hub A} {left : Left} {now : Option (List Act)} (ps : List (Option (Peer A))) (i : ℕ) (p : Peer A) (lt : i < length ps) (st : AtStage (Piecing n i most) o hub (set ps i (Some p)) left now) where
  pub gave : (hub' : Hub A) (r : Result ℕ HubFault) (prefix : List ℕ) (moment : Moment) (p' : Peer A) → p.fault ≡ None → prefix ≡ take most p.ahead → length prefix ≤ most → taken_of r prefix ≤ length prefix
      → Goes (Piece p.conn (take (taken_of r prefix) prefix) moment) hub hub' → PrefixGives p.conn prefix r hub hub' → broken_at hub' p.conn ≡ option_map (λ was. is_err r) (broken_at hub p.conn)
      → (r ≡ Err fault.Broken → broken_at hub p.conn ≡ Some false → BreaksInPiece p.conn prefix moment hub hub')
      → p'.conn ≡ p.conn → p'.turns ≡ p.turns → p'.fault ≡ fault_of r → p'.ahead ≡ drop (taken_of r prefix) p.ahead → AtStage (Unkept n i (most - taken_of r prefix)) o hub' (set ps i (Some p')) left now
  gave hub' r prefix moment p' none is_prefix within few goes gives broken breaks conn turns why is =
      let h = here ps i p lt st.seats in
      let id = p.conn in
      let c = h.connected in
      let s = st.machine in
      let k = taken_of r prefix in
      let bytes = take k prefix in
      let len : length bytes ≡ k = length-take-le k prefix few in
      let whole : c.broken ≡ false = whole_at h none in
      let was : broken_at hub id ≡ Some false = broken_of hub s st.seats.is id c h.opened ∙ ap (λ (b : Bool). Some b) whole in
      let g = goes s st.seats.is in
      let u = stepped id (PieceOn bytes moment) s c g.0 h.opened g.1 in
      let d = u.after in
      let sent : broken_at hub' id ≡ Some (is_err r) = broken ∙ ap (λ (x : Option Bool). option_map (λ was. is_err r) x) was in
      let is_broken : d.broken ≡ is_err r = some_same d.broken (is_err r) (sym (broken_of hub' g.0 g.2 id d u.changed) ∙ sent) in
      let now_pending : pending_at hub' id ≡ Some d.pending = pending_of hub' g.0 g.2 id d u.changed in
      let same_served : hub'.service ≡ g.0.served = sym g.2.served in
      let takes : TakesPrefix r c prefix s.served g.0.served d.pending =
      subst (λ (w : ServedState). TakesPrefix r c prefix s.served w d.pending) same_served
      (subst (λ (x : Option (List ℕ)). IfSome x (λ pending. TakesPrefix r c prefix s.served hub'.service pending)) now_pending
      (subst (λ (x : Option Connected). IfSome x (λ e. e.broken ≡ false → IfSome (pending_at hub' id) (λ pending. TakesPrefix r e prefix s.served hub'.service pending))) h.opened (gives s st.seats.is) whole)) in
      let reached : r ≡ Err fault.Broken → ReachedBreak moment s.served c.pending (c.rest ++ prefix) g.0.served d.pending = λ sent.
      subst (λ (w : ServedState). ReachedBreak moment s.served c.pending (c.rest ++ prefix) w d.pending) same_served
      (subst (λ (x : Option (List ℕ)). IfSome x (λ pending. ReachedBreak moment s.served c.pending (c.rest ++ prefix) hub'.service pending)) now_pending
      (subst (λ (x : Option Connected). IfSome x (λ e. IfSome (pending_at hub' id) (λ pending. ReachedBreak moment s.served e.pending (e.rest ++ prefix) hub'.service pending))) h.opened (breaks sent was s st.seats.is))) in
      let acts' = Given i bytes (fault_of r) ∷ st.acts in
      let prefix_of : bytes ≡ take (length bytes) (ahead st.acts i) =
      ap (λ (l : List ℕ). take k l) is_prefix ∙ take_shorter k most p.ahead (omega (arith, few, ap (λ (l : List ℕ). length l) is_prefix)) ∙ ap (λ (m : ℕ). take m p.ahead) (sym len) ∙ ap (λ (l : List ℕ). take (length bytes) l) (sym h.knows.0) in
      let run : Runs o.limits acts' o.start g.0 = (s, st.way.0, (st.way.2, st.way.4, st.way.3, (id, c, h.conn, h.opened, whole), omega (arith, len, few, within, st.way.5), prefix_of), (moment, (id, h.conn, g.1), (id, c, h.conn, h.opened, answers_one r c prefix s g.0 d.pending takes), fault_is r st.acts i id prefix moment s g.0 c d h.conn h.opened u.changed is_broken reached)) in
      record {
        acts = acts';
        machine = g.0;
        way = (run, st.way.1, tt, st.way.4, omega (arith, len, st.way.5, left_given st.acts i bytes (fault_of r)));
        keeping = goes_on o.store left.store o (Given i bytes (fault_of r)) st.acts g.0 run tt (refl, λ state stored. stored) (inr (Piece id bytes moment, tt, g.1)) st.keeping;
        seats = stays_at ps i p p' st.seats lt conn hub' acts' g.0 g.2 u.others u.next
            (inl (record { peer = p'; connected = d; here = refl; numbered = conn; opened = u.changed; sound = is_broken ∙ sym (some_fault r) ∙ ap (λ (f : Option HubFault). is_some f) (sym why) })) (λ j. refl) refl
            (given_knows st.acts i bytes (fault_of r) p p' h.knows (is ∙ ap (λ (m : ℕ). drop m p.ahead) (sym len)) turns why)
            (λ j ne. (ahead_given_there st.acts i j bytes (fault_of r) ne, refl, fault_given_there st.acts i j bytes (fault_of r) ne));
        adds = st.adds;
        fewer = st.fewer;
        book = st.book;
      }

-- ---- bytes are written

-- bytes wait to be written
abbrev is_waiting : {A : Type 0} {start : ℕ} {hub : Hub A} {acts : List Act} {s : State} (ps : List (Option (Peer A))) (i : ℕ) (p : Peer A) (st : AreSeats start hub (set ps i (Some p)) acts s) → i < length ps → (bytes : List ℕ) → AreWaiting hub p.conn bytes → 0 < length bytes → On acts i s IsWaiting
is_waiting {acts = acts} ps i p st lt bytes waiting some =
    let h = here_at st i p (set_here ps i (Some p) lt) in
    (p.conn, h.connected, h.conn, h.opened, λ none. let len : length bytes ≡ 0 = ap (λ (l : List ℕ). length l) (sym (waiting_at st i p h bytes waiting) ∙ none) in absurd (omega (arith, len, some)))

-- the written bytes, a prefix of those that were lent, are consumed
module _ {A : Type 0} (id k : ℕ) (hub hub' : Hub A) (result : Result ℕ HubFault) (bytes prefix rest : List ℕ) (at : pending_at hub id ≡ Some bytes) (parts : bytes ≡ prefix ++ rest) (le : k ≤ length prefix) where
  consumed : ConsumeGives id k result hub hub' → IfOk result (λ n. Goes (Take id n) hub hub') → Goes (Take id (length (take k prefix))) hub hub'
  consumed gives goes =
      let h = subst (λ (o : Option (List ℕ)). MatchOption o ((result ≡ Err fault.NoSuch) × IsUnchanged hub hub') (λ pending. (n : ℕ) × (result ≡ Ok n) × (n ≡ min k (length pending)) × (pending_at hub' id ≡ Some (drop n pending)) × (broken_at hub' id ≡ broken_at hub id) × (hub'.service ≡ hub.service))) at gives in
      let all : length bytes ≡ length prefix + length rest = ap (λ (l : List ℕ). length l) parts ∙ length-append prefix rest in
      let n : h.0 ≡ length (take k prefix) = omega (arith, h.2, all, le, length-take-le k prefix le) in
      subst (λ (n : ℕ). Goes (Take id n) hub hub') n (subst (λ (r : Result ℕ HubFault). IfOk r (λ n. Goes (Take id n) hub hub')) h.1 goes)

  prefix_of : take k prefix ≡ take (length (take k prefix)) bytes
  prefix_of = sym (take-append-le k prefix rest le) ∙ ap (λ (l : List ℕ). take k l) (sym parts) ∙ ap (λ (m : ℕ). take m bytes) (sym (length-take-le k prefix le))

module _ {A : Type 0} {n : ℕ} {o : Origin} {hub : Hub A} {left : Left} {before : Option (List Act)} (ps : List (Option (Peer A))) (i : ℕ) (p : Peer A) (lt : i < length ps) (st : AtStage (Answering n) o hub (set ps i (Some p)) left before) (bytes : List ℕ) (waiting : AreWaiting hub p.conn bytes) (some : 0 < length bytes) where
  pub sent : (prefix rest : List ℕ) (k z : ℕ) (hub' : Hub A) (result : Result ℕ HubFault) (after : Option (List Act)) → bytes ≡ prefix ++ rest → length prefix ≤ 131072 → k ≤ length prefix → ConsumeGives p.conn k result hub hub' → IfOk result (λ n. Goes (Take p.conn n) hub hub')
      → Adds before after (Sent i (take k prefix) ∷ []) → AtStage (Answering n) o hub' (set ps i (Some (record p { since = z }))) left after
  sent prefix rest k z hub' result after parts short le gives goes added =
      let h = here_at st.seats i p (set_here ps i (Some p) lt) in
      let c = h.connected in
      let is : c.pending ≡ bytes = waiting_at st.seats i p h bytes waiting in
      let at : pending_at hub p.conn ≡ Some bytes = pending_of hub st.machine st.seats.is p.conn c h.opened ∙ ap (λ (l : List ℕ). Some l) is in
      let written = take k prefix in
      let few : length written ≤ 131072 = omega (arith, short, le, length-take-le k prefix le) in
      let is_prefix : written ≡ take (length written) c.pending = subst (λ (l : List ℕ). written ≡ take (length written) l) (sym is) (prefix_of p.conn k hub hub' result bytes prefix rest at parts le) in
      let g = consumed p.conn k hub hub' result bytes prefix rest at parts le gives goes st.machine st.seats.is in
      let u = stepped p.conn (TakeOn (length written)) st.machine c g.0 h.opened g.1 in
      let acts' = Sent i written ∷ st.acts in
      let all : IsStored st.acts g.0.served.state = subst (λ (w : ServedState). IsStored st.acts w.state) (sym u.does.0) st.way.4 in
      let run : Runs o.limits acts' o.start g.0 = (st.machine, st.way.0, (st.way.2, few, st.way.3, is_waiting ps i p st.seats lt bytes waiting some, st.way.4), ((p.conn, c, h.conn, h.opened, is_prefix), (p.conn, h.conn, g.1))) in
      record {
        acts = acts';
        machine = g.0;
        way = (run, st.way.1, tt, still_kept (subst (λ (w : ServedState). HasKept w.state.trail w.state.total st.acts) (sym u.does.0) st.way.3), all);
        keeping = replies_survive o.store left.store o (Sent i written) st.acts g.0 run (refl, λ state stored. stored) u.does.0 all st.keeping;
        seats = stays_at ps i p (record p { since = z }) st.seats lt refl hub' acts' g.0 g.2 u.others u.next
            (inl (record { peer = record p { since = z }; connected = u.after; here = refl; numbered = refl; opened = u.changed; sound = ap (λ (d : Connected). d.broken) u.does.2 ∙ h.sound })) (λ j. refl) refl
            h.knows (λ j ne. (refl, refl, refl));
        adds = adds_on o.first before after (of_streams st.acts) (Sent i written ∷ []) st.adds added;
        fewer = st.fewer;
        book = st.book;
      }

-- ---- a connection is closed

-- after the same acts and others that admit and close no stream, a connection is closed
pub record Shut {A : Type 0} (start : ℕ) (hub' : Hub A) (places' : List (Option (Peer A))) (place : ℕ) (why : StreamEnd) (acts : List Act) (s : State) : Type 0 where
  pub machine : State
  pub step : StepAt acts place Close s machine
  pub seats : AreSeats start hub' places' (Closed place why ∷ acts) machine
  pub served : machine.served ≡ s.served

shut : {A : Type 0} {start : ℕ} {hub : Hub A} {acts : List Act} {s : State} (ps : List (Option (Peer A))) (i : ℕ) (p : Peer A) (why : StreamEnd) (st : AreSeats start hub (set ps i (Some p)) acts s) → i < length ps → (hub' : Hub A) → Goes (Close p.conn) hub hub' → Shut start hub' (set ps i None) i why acts s
shut {acts = acts} {s = s} ps i p why st lt hub' goes =
    let at = set_here ps i (Some p) lt in
    let h = here_at st i p at in
    let g = goes s st.is in
    let removed : g.0.connection p.conn ≡ None = g.1.2.changed in
    record {
      machine = g.0;
      step = (p.conn, h.conn, g.1);
      seats = changed st lt (record {
        was = λ q e. ap (λ (r : Peer _). r.conn) (sym (some_peer p q e));
        alone = λ j q ne there same. ne (one_place st i j p q at (set_there ps i j (Some p) ne ∙ there) same);
        is = g.2;
        fresh = λ k le. elim (cases_eq k p.conn) [
          | inl e ↦ ap (λ (j : ℕ). g.0.connection j) e ∙ removed
          | inr ne ↦ g.1.2.others k ne ∙ st.fresh k (subst (λ (m : ℕ). m ≤ k) g.1.1 le)
        ];
        others = g.1.2.others;
        seat = inr (record { not_here = λ q e. absurd (none_some q e); closed = λ le. removed });
        now = λ q e. absurd (none_some q e);
        knows = λ q e. absurd (none_some q e);
        closed = λ e. closed_here acts i why;
        conns = λ j ne. closed_there acts i j why ne;
        same = λ j ne. (refl, refl, refl);
        count = omega (arith, st.count, taken_swap ps i (Some p) None lt);
      });
      served = g.1.0;
    }

module _ {A : Type 0} {n : ℕ} {o : Origin} {hub : Hub A} {left : Left} {before : Option (List Act)} (ps : List (Option (Peer A))) (i : ℕ) (p : Peer A) (lt : i < length ps) (st : AtStage (Listening n) o hub (set ps i (Some p)) left before) (hub' : Hub A) (after : Option (List Act)) (goes : Goes (Close p.conn) hub hub') where
  -- the stream has ended
  pub ended : (why : StreamEnd) (mid : Option (List Act)) → AreWaiting hub p.conn [] → p.fault ≡ None → p.ahead ≡ [] → StreamEnds why hub p.conn → Adds before mid (Ended i ∷ []) → Adds mid after (Closed i why ∷ []) → AtStage (Listening n) o hub' (set ps i None) left after
  ended why mid drained none given ends added closed =
      let over = Ended i ∷ st.acts in
      let h = here ps i p lt st.seats in
      let x = shut ps i p why (seats_as over (λ j. refl) (λ j. (refl, refl, refl)) refl st.seats) lt hub' goes in
      let inner : Runs o.limits over o.start st.machine = (st.machine, st.way.0, may_receive ps i p lt st.seats st.way.2 drained none given, refl) in
      let run : Runs o.limits (Closed i why ∷ over) o.start x.machine = (st.machine, inner, may_end why over st.machine p.conn h.connected refl h.conn h.opened (ends st.machine st.seats.is h.connected h.opened (whole_at h none)), x.step) in
      record {
        acts = Closed i why ∷ over;
        machine = x.machine;
        way = (run, st.way.1, tt);
        keeping = goes_on o.store left.store o (Closed i why) over x.machine run tt (refl, λ state stored. stored) (inl x.served) (goes_as o.store left.store o (Ended i) st.acts st.machine inner tt (refl, λ state stored. stored) refl st.keeping);
        seats = x.seats;
        adds = adds_on o.first mid after (of_streams over) (Closed i why ∷ []) (adds_on o.first before mid (of_streams st.acts) (Ended i ∷ []) st.adds added) closed;
        fewer = st.fewer;
        book = st.book;
      }
    where
      may_end : (why : StreamEnd) (acts : List Act) (s : State) (id : ℕ) (c : Connected) → Just (Ended i) acts → conn_at acts i ≡ Some id → s.connection id ≡ Some c → ends_at why c → MayClose o.limits acts i why s
      may_end end.Ended acts s id c just conn opened at = (just, (id, c, conn, opened, at))
      may_end end.Inside acts s id c just conn opened at = (just, (id, c, conn, opened, at))
      may_end end.Broken acts s id c just conn opened at = absurd at
      may_end end.Memory acts s id c just conn opened at = absurd at
      may_end end.Read acts s id c just conn opened at = absurd at
      may_end end.Write acts s id c just conn opened at = absurd at
      may_end end.Turns acts s id c just conn opened at = absurd at
      may_end end.Quiet acts s id c just conn opened at = absurd at
      may_end end.Stopped acts s id c just conn opened at = absurd at

  -- a read has failed
  pub unread : (mid : Option (List Act)) → AreWaiting hub p.conn [] → p.fault ≡ None → p.ahead ≡ [] → Adds before mid (Unread i ∷ []) → Adds mid after (Closed i end.Read ∷ []) → AtStage (Listening n) o hub' (set ps i None) left after
  unread mid drained none given added closed =
      let over = Unread i ∷ st.acts in
      let x = shut ps i p end.Read (seats_as over (λ j. refl) (λ j. (refl, refl, refl)) refl st.seats) lt hub' goes in
      let inner : Runs o.limits over o.start st.machine = (st.machine, st.way.0, may_receive ps i p lt st.seats st.way.2 drained none given, refl) in
      let run : Runs o.limits (Closed i end.Read ∷ over) o.start x.machine = (st.machine, inner, refl, x.step) in
      record {
        acts = Closed i end.Read ∷ over;
        machine = x.machine;
        way = (run, st.way.1, tt);
        keeping = goes_on o.store left.store o (Closed i end.Read) over x.machine run tt (refl, λ state stored. stored) (inl x.served) (goes_as o.store left.store o (Unread i) st.acts st.machine inner tt (refl, λ state stored. stored) refl st.keeping);
        seats = x.seats;
        adds = adds_on o.first mid after (of_streams over) (Closed i end.Read ∷ []) (adds_on o.first before mid (of_streams st.acts) (Unread i ∷ []) st.adds added) closed;
        fewer = st.fewer;
        book = st.book;
      }

  -- the turns are used up
  pub worn : AreWaiting hub p.conn [] → p.fault ≡ None → p.ahead ≡ [] → o.limits.reads ≤ p.turns → Adds before after (Closed i end.Turns ∷ []) → AtStage (Listening n) o hub' (set ps i None) left after
  worn drained none given many closed =
      let h = here ps i p lt st.seats in
      let x = shut ps i p end.Turns st.seats lt hub' goes in
      let run : Runs o.limits (Closed i end.Turns ∷ st.acts) o.start x.machine = (st.machine, st.way.0, (st.way.2, omega (arith, many, h.knows.1), h.knows.0 ∙ given, can_receive ps i p lt st.seats drained none), x.step) in
      record {
        acts = Closed i end.Turns ∷ st.acts;
        machine = x.machine;
        way = (run, st.way.1, tt);
        keeping = goes_on o.store left.store o (Closed i end.Turns) st.acts x.machine run tt (refl, λ state stored. stored) (inl x.served) st.keeping;
        seats = x.seats;
        adds = adds_on o.first before after (of_streams st.acts) (Closed i end.Turns ∷ []) st.adds closed;
        fewer = st.fewer;
        book = st.book;
      }

  -- the connection is broken
  pub spent : (f : HubFault) → AreWaiting hub p.conn [] → p.fault ≡ Some f → Adds before after (Closed i (broken_end f) ∷ []) → AtStage (Listening n) o hub' (set ps i None) left after
  spent f drained broken closed =
      let h = here ps i p lt st.seats in
      let is_spent : On st.acts i st.machine IsSpent =
      (p.conn, h.connected, h.conn, h.opened, (h.sound ∙ ap (λ (x : Option HubFault). is_some x) broken, waiting_at st.seats i p h [] drained)) in
      let x = shut ps i p (broken_end f) st.seats lt hub' goes in
      let run : Runs o.limits (Closed i (broken_end f) ∷ st.acts) o.start x.machine = (st.machine, st.way.0, may_spend f st.acts st.machine st.way.2 (h.knows.2 ∙ broken) is_spent, x.step) in
      record {
        acts = Closed i (broken_end f) ∷ st.acts;
        machine = x.machine;
        way = (run, st.way.1, tt);
        keeping = goes_on o.store left.store o (Closed i (broken_end f)) st.acts x.machine run tt (refl, λ state stored. stored) (inl x.served) st.keeping;
        seats = x.seats;
        adds = adds_on o.first before after (of_streams st.acts) (Closed i (broken_end f) ∷ []) st.adds closed;
        fewer = st.fewer;
        book = st.book;
      }
    where
      may_spend : (f : HubFault) (acts : List Act) (s : State) → IsSettled acts → fault_at acts i ≡ Some f → On acts i s IsSpent → MayClose o.limits acts i (broken_end f) s
      may_spend fault.Broken acts s settled why spent = (settled, why, spent)
      may_spend fault.Memory acts s settled why spent = (settled, (fault.Memory, why, λ e. cc), spent)
      may_spend fault.NoSuch acts s settled why spent = (settled, (fault.NoSuch, why, λ e. cc), spent)
      may_spend fault.TooMany acts s settled why spent = (settled, (fault.TooMany, why, λ e. cc), spent)
      may_spend fault.Exhausted acts s settled why spent = (settled, (fault.Exhausted, why, λ e. cc), spent)

-- a write to the stream has failed
pub failed : {A : Type 0} {n : ℕ} {o : Origin} {hub : Hub A} {left : Left} {before : Option (List Act)} (ps : List (Option (Peer A))) (i : ℕ) (p : Peer A) → i < length ps → AtStage (Answering n) o hub (set ps i (Some p)) left before → (bytes : List ℕ) → AreWaiting hub p.conn bytes → 0 < length bytes
    → (hub' : Hub A) (mid after : Option (List Act)) → Goes (Close p.conn) hub hub' → Adds before mid (Unwritten i ∷ []) → Adds mid after (Closed i end.Write ∷ []) → AtStage (Answering n) o hub' (set ps i None) left after
failed {o = o} {left = left} {before = before} ps i p lt st bytes waiting some hub' mid after goes added closed =
    let over = Unwritten i ∷ st.acts in
    let x = shut ps i p end.Write (seats_as over (λ j. refl) (λ j. (refl, refl, refl)) refl st.seats) lt hub' goes in
    let inner : Runs o.limits over o.start st.machine = (st.machine, st.way.0, (st.way.2, st.way.3, is_waiting ps i p st.seats lt bytes waiting some, st.way.4), refl) in
    let run : Runs o.limits (Closed i end.Write ∷ over) o.start x.machine = (st.machine, inner, refl, x.step) in
    record {
      acts = Closed i end.Write ∷ over;
      machine = x.machine;
      way = (run, st.way.1, tt, still_kept (still_kept (subst (λ (w : ServedState). HasKept w.state.trail w.state.total st.acts) (sym x.served) st.way.3)), subst (λ (w : ServedState). IsStored st.acts w.state) (sym x.served) st.way.4);
      keeping = goes_on o.store left.store o (Closed i end.Write) over x.machine run tt (refl, λ state stored. stored) (inl x.served) (replies_survive o.store left.store o (Unwritten i) st.acts st.machine inner (refl, λ state stored. stored) refl st.way.4 st.keeping);
      seats = x.seats;
      adds = adds_on o.first mid after (of_streams over) (Closed i end.Write ∷ []) (adds_on o.first before mid (of_streams st.acts) (Unwritten i ∷ []) st.adds added) closed;
      fewer = st.fewer;
      book = st.book;
    }

-- a write that took nothing or failed
pub unwritten : (r : Moved) (i : ℕ) (bytes : List ℕ) (before after : Option (List Act)) → (r ≡ moved.Over) ⊎ (r ≡ moved.Failed) → Adds before after (write_acts i r bytes) → Adds before after (Unwritten i ∷ [])
unwritten r i bytes before after (inl is) added = subst (λ (m : Moved). Adds before after (write_acts i m bytes)) is added
unwritten r i bytes before after (inr is) added = subst (λ (m : Moved). Adds before after (write_acts i m bytes)) is added

pub not_some : {X : Type 0} (o : Option X) → is_some o ≡ false → o ≡ None
not_some None e = refl
not_some (Some x) e = absurd (cc)

-- another stream has just arrived while the limit of open connections is reached, or serving has stopped
abbrev closed_way : (stage : Stage) (o : Origin) (place : ℕ) (why : StreamEnd) (acts : List Act) (s s' : State) → IsClosing stage why → Way stage o acts s → StepAt acts place Close s s' → Way (closed_stage stage) o (Closed place why ∷ acts) s'
closed_way (Listening n) o place why acts s s' may way step = absurd may
closed_way (Arriving n) o place why acts s s' may way step = absurd may
closed_way (Full n) o place why acts s s' may way step =
    ((s, way.0, subst (λ (e : StreamEnd). MayClose o.limits acts place e s) (sym may) (way.2, way.3, way.4), step), way.1, tt)
closed_way (Trailing n) o place why acts s s' may way step = absurd may
closed_way (Looking n) o place why acts s s' may way step = absurd may
closed_way (Giving n) o place why acts s s' may way step = absurd may
closed_way (Piecing n at left) o place why acts s s' may way step = absurd may
closed_way (Unkept n at left) o place why acts s s' may way step = absurd may
closed_way (Answering n) o place why acts s s' may way step = absurd may
closed_way (Stopped end n) o place why acts s s' may way step = absurd may
closed_way (Ending served at) o place why acts s s' may way step =
    (Closed place why ∷ way.0, ap (λ (l : List Act). Closed place why ∷ l) way.1, (place, s, ap (λ (e : StreamEnd). Closed place e) may, way.2, subst (λ (l : List Act). StepAt l place Close s s') way.1 step))

closed_keeping : (stage : Stage) (o : Origin) (place : ℕ) (why : StreamEnd) (acts : List Act) (s s' : State) (store : Option CallStore) (may : IsClosing stage why) (way : Way stage o acts s) (step : StepAt acts place Close s s') → Keeping stage o acts s way store
    → Keeping (closed_stage stage) o (Closed place why ∷ acts) s' (closed_way stage o place why acts s s' may way step) store
closed_keeping (Listening n) o place why acts s s' store may way step was = absurd may
closed_keeping (Arriving n) o place why acts s s' store may way step was = absurd may
closed_keeping (Full n) o place why acts s s' store may way step was =
    let run : Runs o.limits (Closed place why ∷ acts) o.start s' = (s, way.0, subst (λ (e : StreamEnd). MayClose o.limits acts place e s) (sym may) (way.2, way.3, way.4), step) in
    goes_on o.store store o (Closed place why) acts s' run tt (refl, λ state stored. stored) (inr (Close step.0, tt, step.2)) was
closed_keeping (Trailing n) o place why acts s s' store may way step was = absurd may
closed_keeping (Looking n) o place why acts s s' store may way step was = absurd may
closed_keeping (Giving n) o place why acts s s' store may way step was = absurd may
closed_keeping (Piecing n at left) o place why acts s s' store may way step was = absurd may
closed_keeping (Unkept n at left) o place why acts s s' store may way step was = absurd may
closed_keeping (Answering n) o place why acts s s' store may way step was = absurd may
closed_keeping (Stopped end n) o place why acts s s' store may way step was = absurd may
closed_keeping (Ending served at) o place why acts s s' store may way step was = tt

pub closes : {A : Type 0} {stage : Stage} {o : Origin} {hub : Hub A} {left : Left} {before : Option (List Act)} (ps : List (Option (Peer A))) (i : ℕ) (p : Peer A) (why : StreamEnd) → i < length ps → IsClosing stage why → AtStage stage o hub (set ps i (Some p)) left before → (hub' : Hub A) (after : Option (List Act)) → Goes (Close p.conn) hub hub'
    → Adds before after (Closed i why ∷ []) → AtStage (closed_stage stage) o hub' (set ps i None) left after
closes {stage = stage} {o = o} {left = left} {before = before} ps i p why lt may st hub' after goes closed =
    let x = shut ps i p why st.seats lt hub' goes in
    record {
      acts = Closed i why ∷ st.acts;
      machine = x.machine;
      way = closed_way stage o i why st.acts st.machine x.machine may st.way x.step;
      keeping = closed_keeping stage o i why st.acts st.machine x.machine left.store may st.way x.step st.keeping;
      seats = x.seats;
      adds = adds_on o.first before after (of_streams st.acts) (Closed i why ∷ []) st.adds closed;
      fewer = st.fewer;
      book = st.book;
    }

settled_arrival : (acts : List Act) → Just Arrived acts → IsSettled acts
settled_arrival [] arrived = absurd arrived
settled_arrival (act ∷ acts) arrived = subst (λ (a : Act). IsSettled (a ∷ acts)) (sym arrived) tt

-- a stage at which no connection is closed stays unchanged
pub unclosed : {A : Type 0} (stage : Stage) (o : Origin) (hub : Hub A) (places : List (Option (Peer A))) (left : Left) (why : StreamEnd) (now : Option (List Act)) → IsClosing stage why → AtStage stage o hub places left now → AtStage (closed_stage stage) o hub places left now
unclosed (Listening n) o hub places left why now may st = absurd may
unclosed (Arriving n) o hub places left why now may st = absurd may
unclosed (Full n) o hub places left why now may st = record { acts = st.acts; machine = st.machine; way = (st.way.0, st.way.1, settled_arrival st.acts st.way.2); keeping = st.keeping; seats = st.seats; adds = st.adds; fewer = st.fewer; book = st.book }
unclosed (Trailing n) o hub places left why now may st = absurd may
unclosed (Looking n) o hub places left why now may st = absurd may
unclosed (Giving n) o hub places left why now may st = absurd may
unclosed (Piecing n at k) o hub places left why now may st = absurd may
unclosed (Unkept n at k) o hub places left why now may st = absurd may
unclosed (Answering n) o hub places left why now may st = absurd may
unclosed (Stopped end n) o hub places left why now may st = absurd may
unclosed (Ending served at) o hub places left why now may st = st

-- no act was added
pub quiet : {A : Type 0} {stage : Stage} {o : Origin} {hub : Hub A} {places : List (Option (Peer A))} {left : Left} {before : Option (List Act)} (after : Option (List Act)) → Adds before after [] → AtStage stage o hub places left before → AtStage stage o hub places left after
quiet {o = o} {before = before} after added st = record { acts = st.acts; machine = st.machine; way = st.way; keeping = st.keeping; seats = st.seats; adds = adds_on o.first before after (of_streams st.acts) [] st.adds added; fewer = st.fewer; book = st.book }

-- ---- a stream arrives

module _ {A : Type 0} {n : ℕ} {o : Origin} {hub : Hub A} {places : List (Option (Peer A))} {left : Left} {before : Option (List Act)} (after : Option (List Act)) (added : Adds before after (Arrived ∷ [])) (st : AtStage (Listening n) o hub places left before) where
  pub arrival : AtStage (Arriving n) o hub places left after
  arrival =
      let run : Runs o.limits (Arrived ∷ st.acts) o.start st.machine = (st.machine, st.way.0, st.way.2, refl) in
      record {
        acts = Arrived ∷ st.acts;
        machine = st.machine;
        way = (run, st.way.1, refl);
        keeping = goes_as o.store left.store o Arrived st.acts st.machine run tt (refl, λ state stored. stored) refl st.keeping;
        seats = seats_as (Arrived ∷ st.acts) (λ j. refl) (λ j. (refl, refl, refl)) refl st.seats;
        adds = adds_on o.first before after (of_streams st.acts) (Arrived ∷ []) st.adds added;
        fewer = st.fewer;
        book = st.book;
      }

  pub arrives_full : o.limits.makes_room ≡ true → most_open o.limits ≤ taken places → AtStage (Full n) o hub places left after
  arrives_full makes many =
      let run : Runs o.limits (Arrived ∷ st.acts) o.start st.machine = (st.machine, st.way.0, st.way.2, refl) in
      record {
        acts = Arrived ∷ st.acts;
        machine = st.machine;
        way = (run, st.way.1, refl, makes, omega (arith, many, st.seats.count));
        keeping = goes_as o.store left.store o Arrived st.acts st.machine run tt (refl, λ state stored. stored) refl st.keeping;
        seats = seats_as (Arrived ∷ st.acts) (λ j. refl) (λ j. (refl, refl, refl)) refl st.seats;
        adds = adds_on o.first before after (of_streams st.acts) (Arrived ∷ []) st.adds added;
        fewer = st.fewer;
        book = st.book;
      }

-- the stream isn't admitted
pub put_off : {A : Type 0} {n : ℕ} {o : Origin} {hub : Hub A} {places : List (Option (Peer A))} {left : Left} {now : Option (List Act)} → AtStage (Arriving n) o hub places left now → AtStage (Listening n) o hub places left now
put_off st = record { acts = st.acts; machine = st.machine; way = (st.way.0, st.way.1, settled_arrival st.acts st.way.2); keeping = st.keeping; seats = st.seats; adds = st.adds; fewer = st.fewer; book = st.book }

pub put_off_full : {A : Type 0} {n : ℕ} {o : Origin} {hub : Hub A} {places : List (Option (Peer A))} {left : Left} {now : Option (List Act)} → AtStage (Full n) o hub places left now → AtStage (Listening n) o hub places left now
put_off_full st = record { acts = st.acts; machine = st.machine; way = (st.way.0, st.way.1, settled_arrival st.acts st.way.2); keeping = st.keeping; seats = st.seats; adds = st.adds; fewer = st.fewer; book = st.book }

-- ---- a stream is admitted

none_both : {A : Type 0} (x : Option (Connection A)) (p : Option Connected) → SameConnection x p → p ≡ None → option_map (λ (c : Connection A). c.pending.bytes) x ≡ None
none_both None p same e = refl
none_both (Some x) None same e = absurd same
none_both (Some x) (Some c) same e = absurd (none_some c (sym e))

none_pending : {A : Type 0} (hub : Hub A) (t : State) (id : ℕ) → IsHub hub t → t.connection id ≡ None → pending_at hub id ≡ None
none_pending hub t id is none = none_both (get nat_cmp hub.connections id) (t.connection id) (is.connections id) none

-- the hub's next connection is open then
opened : {A : Type 0} (hub hub' : Hub A) (t : State) (id : ℕ) → IsHub hub t → IsFresh t → ConnectGives (Ok id) hub hub' → (g : (t' : State) × Step Connect t t' × IsHub hub' t')
    → (id ≡ t.next) × (g.0.served ≡ t.served) × (g.0.next ≡ t.next + 1) × ChangesConnection t.next (Some fresh) t g.0
opened hub hub' t id is is_fresh gives g =
    let next : id ≡ t.next = gives.2 ∙ sym is.next in
    elim g.1 [
      | inl same ↦
          let is' : IsHub hub' t = subst (λ (w : State). IsHub hub' w) same g.2 in
          let none : t.connection id ≡ None = is_fresh id (omega (arith, next)) in
          absurd (none_some [] (sym (none_pending hub' t id is' none) ∙ gives.3))
      | inr new ↦ (next, new.0, new.1, new.2)
    ]

pub admits : {A : Type 0} {n : ℕ} {o : Origin} {hub : Hub A} {left : Left} {before : Option (List Act)} (ps : List (Option (Peer A))) (i id more : ℕ) (peer : Peer A) (hub' : Hub A) (after : Option (List Act)) → i < length ps → i < MOST_PLACES → AtStage (Arriving n) o hub (set ps i None) left before → taken (set ps i None) < most_open o.limits → left.more ≡ more + 1
    → peer.conn ≡ id → peer.turns ≡ 0 → peer.fault ≡ None → peer.ahead ≡ []
    → Goes Connect hub hub' → ConnectGives (Ok id) hub hub' → Adds before after (Admitted i id ∷ []) → AtStage (Listening n) o hub' (set ps i (Some peer)) (record left { more = more }) after
admits {o = o} {hub = hub} {left = left} {before = before} ps i id more peer hub' after lt below st few less conn turns fault is goes gives admit_next =
    let at = set_here ps i None lt in
    let was = st.seats in
    let s = st.machine in
    let g = goes s was.is in
    let w = opened hub hub' s id was.is was.fresh gives g in
    let acts' = Admitted i id ∷ st.acts in
    let free : conn_at st.acts i ≡ None = subst (λ (x : Option (Peer _)). IsSeated was.owner st.acts i x) at (was.seated i) in
    let now : g.0.connection id ≡ Some fresh = ap (λ (k : ℕ). g.0.connection k) w.0 ∙ w.3.changed in
    let others : (k : ℕ) → k ≢ id → g.0.connection k ≡ s.connection k = λ k ne. w.3.others k (λ e. ne (e ∙ sym w.0)) in
    let run : Runs o.limits acts' o.start g.0 = (s, st.way.0, (st.way.2, free, omega (arith, few, was.count), below), (w.0, g.1, now)) in
    record {
      acts = acts';
      machine = g.0;
      way = (run, st.way.1, tt);
      keeping = goes_on o.store left.store o (Admitted i id) st.acts g.0 run tt (refl, λ state stored. stored) (inr (Connect, tt, g.1)) st.keeping;
      seats = changed was lt (record {
        was = λ q e. absurd (none_some q e);
        alone = λ j q ne there same.
            let h = here_at was j q (set_there ps i j None ne ∙ there) in
            none_some h.connected (sym (was.fresh q.conn (omega (arith, same, w.0))) ∙ h.opened);
        is = g.2;
        fresh = λ k le.
            let ne : k ≢ id = λ e. absurd (omega (arith, e, w.0, w.2)) in
            others k ne ∙ was.fresh k (omega (arith, w.2));
        others = others;
        seat = inl (record { peer = peer; connected = fresh; here = refl; numbered = conn; opened = now; sound = ap (λ (f : Option HubFault). is_some f) (sym fault) });
        now = λ q e. let same : q ≡ peer = sym (some_peer peer q e) in (ap (λ (r : Peer _). r.conn) same ∙ conn, admitted_here st.acts i id);
        knows = λ q e. subst (λ (r : Peer _). Knows acts' i r) (some_peer peer q e) (ahead_admitted st.acts i id ∙ sym is, turns_admitted st.acts i id ∙ sym turns, fault_admitted st.acts i id ∙ sym fault);
        closed = λ e. absurd (none_some peer (sym e));
        conns = λ j ne. admitted_there st.acts i id j ne;
        same = λ j ne. (ahead_admitted_there st.acts i id j ne, turns_admitted_there st.acts i id j ne, fault_admitted_there st.acts i id j ne);
        count = omega (arith, was.count, taken_swap ps i None (Some peer) lt);
      });
      adds = adds_on o.first before after (of_streams st.acts) (Admitted i id ∷ []) st.adds admit_next;
      fewer = omega (arith, st.fewer, less);
      book = st.book;
    }

-- if the hub refuses, nothing changes
refused_is : {A : Type 0} (hub hub' : Hub A) (why : HubFault) → ConnectGives (Err why) hub hub' → IsUnchanged hub hub'
refused_is hub hub' fault.TooMany gives = gives.1
refused_is hub hub' fault.Exhausted gives = gives.2
refused_is hub hub' fault.Memory gives = gives.2
refused_is hub hub' fault.NoSuch gives = absurd gives
refused_is hub hub' fault.Broken gives = absurd gives

pub refused : {A : Type 0} {stage : Stage} {o : Origin} {hub : Hub A} {places : List (Option (Peer A))} {left : Left} {now : Option (List Act)} (hub' : Hub A) (why : HubFault) → ConnectGives (Err why) hub hub' → AtStage stage o hub places left now → AtStage stage o hub' places left now
refused {hub = hub} hub' why gives st = record {
  acts = st.acts;
  machine = st.machine;
  way = st.way;
  keeping = st.keeping;
  seats = seats_in hub' (refused_is hub hub' why gives) st.seats;
  adds = st.adds;
  fewer = st.fewer;
  book = st.book;
}

-- ---- another book is asked for

-- another book is loaded, and the connections stay
module _ {A : Type 0} {start : ℕ} {hub : Hub A} {places : List (Option (Peer A))} {acts : List Act} {s : State} (st : AreSeats start hub places acts s) (hub' : Hub A) (book : Content) (goes : Goes (Reload book) hub hub') where
  abbrev with_book : State
  with_book = record s { served = (goes s st.is).0.served }

  seats_with_book : (acts' : List Act) → ((j : ℕ) → conn_at acts' j ≡ conn_at acts j) → ((j : ℕ) → Same acts acts' j) → open_in acts' ≡ open_in acts → AreSeats start hub' places acts' with_book
  seats_with_book acts' conns same count =
      let g = goes s st.is in
      let now : AreSeats start hub' places acts with_book = record {
        is = subst (λ (w : State). IsHub hub' w) g.1.1 g.2;
        fresh = st.fresh;
        owner = st.owner;
        each = st.each;
        seated = st.seated;
        count = st.count;
      } in
      seats_as acts' conns same count now

module _ {A : Type 0} {n : ℕ} {o : Origin} {hub : Hub A} {places : List (Option (Peer A))} {left : Left} {before : Option (List Act)} (st : AtStage (Listening n) o hub places left before) where
  -- none has arrived
  pub looks : (after : Option (List Act)) → left.book ≡ None → Adds before after (Looked ∷ []) → AtStage (Looking n) o hub places left after
  looks after none added =
      let waits : book_waiting st.acts ≡ None = st.book ∙ none in
      let run : Runs o.limits (Looked ∷ st.acts) o.start st.machine = (st.machine, st.way.0, (st.way.2, waits), refl) in
      record {
        acts = Looked ∷ st.acts;
        machine = st.machine;
        way = (run, st.way.1, tt, (tt, waits));
        keeping = goes_as o.store left.store o Looked st.acts st.machine run tt (refl, λ state stored. stored) refl st.keeping;
        seats = seats_as (Looked ∷ st.acts) (λ j. refl) (λ j. (refl, refl, refl)) refl st.seats;
        adds = adds_on o.first before after (of_streams st.acts) (Looked ∷ []) st.adds added;
        fewer = st.fewer;
        book = st.book;
      }

  -- one has arrived
  abbrev brings : (after : Option (List Act)) (book : Content) → left.book ≡ None → Adds before after (Brought book ∷ []) → AtStage (Listening n) o hub places (record left { book = Some book }) after
  brings after book none added =
      let run : Runs o.limits (Brought book ∷ st.acts) o.start st.machine = (st.machine, st.way.0, (st.way.2, st.book ∙ none), refl) in
      record {
        acts = Brought book ∷ st.acts;
        machine = st.machine;
        way = (run, st.way.1, tt);
        keeping = goes_as o.store left.store o (Brought book) st.acts st.machine run tt (refl, λ state stored. stored) refl st.keeping;
        seats = seats_as (Brought book ∷ st.acts) (λ j. refl) (λ j. (refl, refl, refl)) refl st.seats;
        adds = adds_on o.first before after (of_streams st.acts) (Brought book ∷ []) st.adds added;
        fewer = st.fewer;
        book = refl;
      }

  -- the one that waits is loaded
  abbrev loads : (hub' : Hub A) (book : Content) → left.book ≡ Some book → Goes (Reload book) hub hub' → AtStage (Listening n) o hub' places (record left { book = None }) before
  loads hub' book waits goes =
      let g = goes st.machine st.seats.is in
      let s' = with_book st.seats hub' book goes in
      let run : Runs o.limits (Loaded book ∷ st.acts) o.start s' = (st.machine, st.way.0, (st.way.2, st.book ∙ waits), (g.1.0, refl)) in
      record {
        acts = Loaded book ∷ st.acts;
        machine = s';
        way = (run, st.way.1, tt);
        keeping = goes_on o.store left.store o (Loaded book) st.acts s' run tt (refl, λ state stored. stored) (inr (Reload book, tt, (g.1.0, refl))) st.keeping;
        seats = seats_with_book st.seats hub' book goes (Loaded book ∷ st.acts) (λ j. refl) (λ j. (refl, refl, refl)) refl;
        adds = st.adds;
        fewer = st.fewer;
        book = refl;
      }

  -- or it still waits
  pub waits_on : (hub' : Hub A) (book : Content) (result : Option Content) → left.book ≡ Some book → BookLoads book result hub hub' → AtStage (Listening n) o hub' places (record left { book = result }) before
  waits_on hub' book None waits (goes, given) = loads hub' book waits goes
  waits_on hub' book (Some rest) waits (same, stays) = record {
    acts = st.acts;
    machine = st.machine;
    way = st.way;
    keeping = st.keeping;
    seats = seats_in hub' stays st.seats;
    adds = st.adds;
    fewer = st.fewer;
    book = st.book ∙ waits ∙ ap (λ (b : Content). Some b) (sym same);
  }

-- each that had arrived is loaded
looking_of : {A : Type 0} {n : ℕ} {o : Origin} {hub : Hub A} {places : List (Option (Peer A))} {left : Left} {now : Option (List Act)} → (st : AtStage (Listening n) o hub places left now) → IsAsked st.acts → left.book ≡ None → AtStage (Looking n) o hub places left now
looking_of st asked none = record {
  acts = st.acts;
  machine = st.machine;
  way = (st.way.0, st.way.1, st.way.2, (asked, st.book ∙ none));
  keeping = st.keeping;
  seats = st.seats;
  adds = st.adds;
  fewer = st.fewer;
  book = st.book;
}

-- one that has arrived is loaded at once, or waits
pub after_steps : {A : Type 0} {n : ℕ} {o : Origin} {hub : Hub A} {places : List (Option (Peer A))} {left : Left} {before : Option (List Act)} → AtStage (Listening n) o hub places left before → (after : Option (List Act)) (hub' : Hub A) (book : Content) (result : Option Content) (well : Bool) → is_some result ≡ not well → left.book ≡ None → Adds before after (Brought book ∷ []) → BookLoads book result hub hub'
    → AtStage (looked_stage well n) o hub' places (record left { book = result }) after
after_steps st after hub' book None true is none added (goes, given) = looking_of (loads (brings st after book none added) hub' book refl goes) tt refl
after_steps st after hub' book None false is none added loads_is = absurd (cc)
after_steps st after hub' book (Some rest) true is none added loads_is = absurd (cc)
after_steps st after hub' book (Some rest) false is none added loads_is = waits_on (brings st after book none added) hub' book (Some rest) refl loads_is

-- ---- serving has waited, and the trail is kept

module _ {A : Type 0} {n : ℕ} {o : Origin} {hub : Hub A} {places : List (Option (Peer A))} {left : Left} {before : Option (List Act)} (st : AtStage (Listening n) o hub places left before) (after : Option (List Act)) where
  pub waited : Adds before after (Waited true ∷ []) → AtStage (Listening (n + 1)) o hub places left after
  waited added =
      let run : Runs o.limits (Waited true ∷ st.acts) o.start st.machine = (st.machine, st.way.0, st.way.2, refl) in
      record {
        acts = Waited true ∷ st.acts;
        machine = st.machine;
        way = (run, ap (λ (k : ℕ). k + 1) st.way.1, tt);
        keeping = goes_as o.store left.store o (Waited true) st.acts st.machine run tt (refl, λ state stored. stored) refl st.keeping;
        seats = seats_as (Waited true ∷ st.acts) (λ j. refl) (λ j. (refl, refl, refl)) refl st.seats;
        adds = adds_on o.first before after (of_streams st.acts) (Waited true ∷ []) st.adds added;
        fewer = st.fewer;
        book = st.book;
      }

  pub unwaited : Adds before after (Waited false ∷ []) → AtStage (Stopped Wait (n + 1)) o hub places left after
  unwaited added =
      let run : Runs o.limits (Waited false ∷ st.acts) o.start st.machine = (st.machine, st.way.0, st.way.2, refl) in
      record {
        acts = Waited false ∷ st.acts;
        machine = st.machine;
        way = (run, ap (λ (k : ℕ). k + 1) st.way.1, refl);
        keeping = stops_by o.store left.store o (Waited false) st.acts st.machine run tt refl st.keeping;
        seats = seats_as (Waited false ∷ st.acts) (λ j. refl) (λ j. (refl, refl, refl)) refl st.seats;
        adds = adds_on o.first before after (of_streams st.acts) (Waited false ∷ []) st.adds added;
        fewer = st.fewer;
        book = st.book;
      }

module _ {A : Type 0} {n : ℕ} {o : Origin} {hub : Hub A} {places : List (Option (Peer A))} {left : Left} {before : Option (List Act)} (st : AtStage (Looking n) o hub places left before) (after : Option (List Act)) where
  pub keeps : (state : ServerState) → ((t : State) → IsHub hub t → t.served.state ≡ state) → Adds before after (Kept state ∷ []) → AtStage (Giving n) o hub places left after
  keeps state serves added =
      let is : st.machine.served.state ≡ state = serves st.machine st.seats.is in
      let run : Runs o.limits (Kept state ∷ st.acts) o.start st.machine = (st.machine, st.way.0, (st.way.2, sym is), refl) in
      record {
        acts = Kept state ∷ st.acts;
        machine = st.machine;
        way = (run, st.way.1, tt, now_kept st.acts state st.machine.served.state (sym is), st.way.3);
        keeping = goes_as o.store left.store o (Kept state) st.acts st.machine run tt (refl, λ state stored. stored) refl st.keeping;
        seats = seats_as (Kept state ∷ st.acts) (λ j. refl) (λ j. (refl, refl, refl)) refl st.seats;
        adds = adds_on o.first before after (of_streams st.acts) (Kept state ∷ []) st.adds added;
        fewer = st.fewer;
        book = st.book;
      }

  pub loses : Adds before after (Lost ∷ []) → AtStage (Stopped Keep n) o hub places left after
  loses added =
      let run : Runs o.limits (Lost ∷ st.acts) o.start st.machine = (st.machine, st.way.0, st.way.2, refl) in
      record {
        acts = Lost ∷ st.acts;
        machine = st.machine;
        way = (run, st.way.1, refl);
        keeping = stops_by o.store left.store o Lost st.acts st.machine run tt refl st.keeping;
        seats = seats_as (Lost ∷ st.acts) (λ j. refl) (λ j. (refl, refl, refl)) refl st.seats;
        adds = adds_on o.first before after (of_streams st.acts) (Lost ∷ []) st.adds added;
        fewer = st.fewer;
        book = st.book;
      }

-- while a book waits
module _ {A : Type 0} {n : ℕ} {o : Origin} {hub : Hub A} {places : List (Option (Peer A))} {left : Left} {before : Option (List Act)} (st : AtStage (Listening n) o hub places left before) (after : Option (List Act)) where
  keeps_waiting : (state : ServerState) → ((t : State) → IsHub hub t → t.served.state ≡ state) → Adds before after (Kept state ∷ []) → AtStage (Trailing n) o hub places left after
  keeps_waiting state serves added =
      let is : st.machine.served.state ≡ state = serves st.machine st.seats.is in
      let run : Runs o.limits (Kept state ∷ st.acts) o.start st.machine = (st.machine, st.way.0, (st.way.2, sym is), refl) in
      record {
        acts = Kept state ∷ st.acts;
        machine = st.machine;
        way = (run, st.way.1, tt, now_kept st.acts state st.machine.served.state (sym is));
        keeping = goes_as o.store left.store o (Kept state) st.acts st.machine run tt (refl, λ state stored. stored) refl st.keeping;
        seats = seats_as (Kept state ∷ st.acts) (λ j. refl) (λ j. (refl, refl, refl)) refl st.seats;
        adds = adds_on o.first before after (of_streams st.acts) (Kept state ∷ []) st.adds added;
        fewer = st.fewer;
        book = st.book;
      }

  loses_waiting : Adds before after (Lost ∷ []) → AtStage (Stopped Keep n) o hub places left after
  loses_waiting added =
      let run : Runs o.limits (Lost ∷ st.acts) o.start st.machine = (st.machine, st.way.0, st.way.2, refl) in
      record {
        acts = Lost ∷ st.acts;
        machine = st.machine;
        way = (run, st.way.1, refl);
        keeping = stops_by o.store left.store o Lost st.acts st.machine run tt refl st.keeping;
        seats = seats_as (Lost ∷ st.acts) (λ j. refl) (λ j. (refl, refl, refl)) refl st.seats;
        adds = adds_on o.first before after (of_streams st.acts) (Lost ∷ []) st.adds added;
        fewer = st.fewer;
        book = st.book;
      }

-- the trail is kept after books were asked for, whether one waits or not
pub keeps_loaded : {A : Type 0} (n : ℕ) {o : Origin} {hub : Hub A} {places : List (Option (Peer A))} {left : Left} {before : Option (List Act)} (loaded : Bool) → loaded ≡ true → AtStage (looked_stage loaded n) o hub places left before → (after : Option (List Act)) (state : ServerState) → ((t : State) → IsHub hub t → t.served.state ≡ state) → Adds before after (Kept state ∷ [])
    → AtStage (Giving n) o hub places left after
keeps_loaded n true is st after state serves added = keeps st after state serves added
keeps_loaded n false is st after state serves added = absurd (cc)

pub keeps_unloaded : {A : Type 0} (n : ℕ) {o : Origin} {hub : Hub A} {places : List (Option (Peer A))} {left : Left} {before : Option (List Act)} (loaded : Bool) → loaded ≡ false → AtStage (looked_stage loaded n) o hub places left before → (after : Option (List Act)) (state : ServerState) → ((t : State) → IsHub hub t → t.served.state ≡ state) → Adds before after (Kept state ∷ [])
    → AtStage (Trailing n) o hub places left after
keeps_unloaded n true is st after state serves added = absurd (cc)
keeps_unloaded n false is st after state serves added = keeps_waiting st after state serves added

pub loses_after : {A : Type 0} (n : ℕ) {o : Origin} {hub : Hub A} {places : List (Option (Peer A))} {left : Left} {before : Option (List Act)} (loaded : Bool) → AtStage (looked_stage loaded n) o hub places left before → (after : Option (List Act)) → Adds before after (Lost ∷ []) → AtStage (Stopped Keep n) o hub places left after
loses_after n true st after added = loses st after added
loses_after n false st after added = loses_waiting st after added

-- what was read is given at all places, or the trail couldn't be kept
pub trailed : {A : Type 0} (n : ℕ) {o : Origin} {hub : Hub A} {places : List (Option (Peer A))} {left : Left} {now : Option (List Act)} (well : Bool) → AtStage (kept_stage well n) o hub places left now → AtStage (given_all_stage well n) o hub places left now
trailed n true st = record { acts = st.acts; machine = st.machine; way = (st.way.0, st.way.1, st.way.2, st.way.3); keeping = st.keeping; seats = st.seats; adds = st.adds; fewer = st.fewer; book = st.book }
trailed n false st = st

module _ {A : Type 0} {n i m : ℕ} {o : Origin} {hub : Hub A} {places : List (Option (Peer A))} {left : Left} {before : Option (List Act)} (st : AtStage (Unkept n i m) o hub places left before) (after : Option (List Act)) where
  pub keeps_given : (state : ServerState) → ((t : State) → IsHub hub t → t.served.state ≡ state) → Adds before after (Kept state ∷ []) → AtStage (Piecing n i m) o hub places left after
  keeps_given state serves added =
      let is : st.machine.served.state ≡ state = serves st.machine st.seats.is in
      let run : Runs o.limits (Kept state ∷ st.acts) o.start st.machine = (st.machine, st.way.0, (st.way.2, sym is), refl) in
      record {
        acts = Kept state ∷ st.acts;
        machine = st.machine;
        way = (run, st.way.1, tt, now_kept st.acts state st.machine.served.state (sym is), st.way.3, st.way.4);
        keeping = goes_as o.store left.store o (Kept state) st.acts st.machine run tt (refl, λ state stored. stored) refl st.keeping;
        seats = seats_as (Kept state ∷ st.acts) (λ j. refl) (λ j. (refl, refl, refl)) refl st.seats;
        adds = adds_on o.first before after (of_streams st.acts) (Kept state ∷ []) st.adds added;
        fewer = st.fewer;
        book = st.book;
      }

  pub loses_given : Adds before after (Lost ∷ []) → AtStage (Stopped Keep n) o hub places left after
  loses_given added =
      let run : Runs o.limits (Lost ∷ st.acts) o.start st.machine = (st.machine, st.way.0, st.way.2, refl) in
      record {
        acts = Lost ∷ st.acts;
        machine = st.machine;
        way = (run, st.way.1, refl);
        keeping = stops_by o.store left.store o Lost st.acts st.machine run tt refl st.keeping;
        seats = seats_as (Lost ∷ st.acts) (λ j. refl) (λ j. (refl, refl, refl)) refl st.seats;
        adds = adds_on o.first before after (of_streams st.acts) (Lost ∷ []) st.adds added;
        fewer = st.fewer;
        book = st.book;
      }

-- ---- a client is expired

-- the hub's state is unchanged
pub unexpired : {A : Type 0} {stage : Stage} {o : Origin} {hub : Hub A} {places : List (Option (Peer A))} {left : Left} {now : Option (List Act)} → AtStage stage o hub places left now → (hub' : Hub A) → IsUnchanged hub hub' → AtStage stage o hub' places left now
unexpired st hub' same = record {
  acts = st.acts;
  machine = st.machine;
  way = st.way;
  keeping = st.keeping;
  seats = seats_in hub' same st.seats;
  adds = st.adds;
  fewer = st.fewer;
  book = st.book;
}

module _ {A : Type 0} {n : ℕ} {o : Origin} {hub : Hub A} {places : List (Option (Peer A))} {left : Left} {now : Option (List Act)} (st : AtStage (Trailing n) o hub places left now) where
  expires : (hub' : Hub A) (client : ℕ) → o.limits.leases ≡ true → Goes (ClientExpired client) hub hub' → AtStage (Trailing n) o hub' places left now
  expires hub' client leases goes =
      let was = st.seats in
      let g = goes st.machine was.is in
      let s' : State = record st.machine { served = expiring client st.machine.served } in
      let after : AreSeats o.start.next hub' places st.acts s' = record {
        is = subst (λ (w : State). IsHub hub' w) g.1.2 g.2;
        fresh = was.fresh;
        owner = was.owner;
        each = was.each;
        seated = was.seated;
        count = was.count;
      } in
      let run : Runs o.limits (Expired client ∷ st.acts) o.start s' = (st.machine, st.way.0, (st.way.2, leases), (g.1.0, g.1.1, refl)) in
      record {
        acts = Expired client ∷ st.acts;
        machine = s';
        way = (run, st.way.1, tt, still_kept st.way.3);
        keeping = goes_on o.store left.store o (Expired client) st.acts s' run tt (refl, λ state stored. stored) (inr (ClientExpired client, tt, (g.1.0, g.1.1, refl))) st.keeping;
        seats = seats_as (Expired client ∷ st.acts) (λ j. refl) (λ j. (refl, refl, refl)) refl after;
        adds = st.adds;
        fewer = st.fewer;
        book = st.book;
      }

  pub lets_go : (hub' : Hub A) (result : Option ℕ) → o.limits.leases ≡ true → IfSome result (λ client. Goes (ClientExpired client) hub hub') → (IsNone result → IsUnchanged hub hub') → AtStage (Trailing n) o hub' places left now
  lets_go hub' None leases goes none = unexpired st hub' (none refl)
  lets_go hub' (Some client) leases goes none = expires hub' client leases goes

-- ---- from one stage to the next without an act

module _ {A : Type 0} {n : ℕ} {o : Origin} {hub : Hub A} {places : List (Option (Peer A))} {left : Left} {now : Option (List Act)} where
  pub unbegun : (i : ℕ) → AtStage (Giving n) o hub places left now → AtStage (Piecing n i 0) o hub places left now
  unbegun i st = record { acts = st.acts; machine = st.machine; way = (st.way.0, st.way.1, st.way.2, st.way.3, st.way.4, omega arith); keeping = st.keeping; seats = st.seats; adds = st.adds; fewer = st.fewer; book = st.book }

  pub given : (i m : ℕ) → AtStage (Piecing n i m) o hub places left now → AtStage (Giving n) o hub places left now
  given i m st = record { acts = st.acts; machine = st.machine; way = (st.way.0, st.way.1, st.way.2, st.way.3, st.way.4); keeping = st.keeping; seats = st.seats; adds = st.adds; fewer = st.fewer; book = st.book }

  pub answered : AtStage (Answering n) o hub places left now → AtStage (Listening n) o hub places left now
  answered st = record { acts = st.acts; machine = st.machine; way = (st.way.0, st.way.1, st.way.2); keeping = st.keeping; seats = st.seats; adds = st.adds; fewer = st.fewer; book = st.book }

-- ---- at one of the places

-- a step at a place
pub at_place : {A : Type 0} (stage stage' : Stage) (o : Origin) (hub new : Hub A) (ps : List (Option (Peer A))) (i : ℕ) (left : Left) (x y : Option (Peer A)) (before after : Option (List Act)) → i < length ps → place_at ps i ≡ x → (AtStage stage o hub (set ps i x) left before → AtStage stage' o new (set ps i y) left after)
    → AtStage stage o hub ps left before → AtStage stage' o new (set ps i y) left after
at_place stage stage' o hub new ps i left x y before after lt at does st = does (subst (λ (l : List (Option (Peer _))). AtStage stage o hub l left before) (sym (set_back ps i x at)) st)

-- a step at a place whose connection has changed in the meantime
pub closed_at : {A : Type 0} (stage : Stage) (o : Origin) (new : Hub A) (ps : List (Option (Peer A))) (i : ℕ) (left : Left) (x y : Option (Peer A)) (after : Option (List Act)) → AtStage stage o new (set ps i y) left after → AtStage stage o new (set (set ps i x) i y) left after
closed_at stage o new ps i left x y after st = subst (λ (l : List (Option (Peer _))). AtStage stage o new l left after) (sym (set-set ps i x y)) st

-- a stream is admitted at a free place
pub admits_at : {A : Type 0} {n : ℕ} {o : Origin} {hub : Hub A} {left : Left} {before : Option (List Act)} (ps : List (Option (Peer A))) (i id more : ℕ) (peer : Peer A) (hub' : Hub A) (after : Option (List Act)) → i < length ps → i < MOST_PLACES → place_at ps i ≡ None → AtStage (Arriving n) o hub ps left before → taken ps < most_open o.limits → left.more ≡ more + 1
    → peer.conn ≡ id → peer.turns ≡ 0 → peer.fault ≡ None → peer.ahead ≡ []
    → Goes Connect hub hub' → ConnectGives (Ok id) hub hub' → Adds before after (Admitted i id ∷ []) → AtStage (Listening n) o hub' (set ps i (Some peer)) (record left { more = more }) after
admits_at {n = n} {o = o} {hub = hub} {left = left} {before = before} ps i id more peer hub' after lt below free st few less conn turns fault is goes gives admit_next =
    let same = sym (set_back ps i None free) in
    admits ps i id more peer hub' after lt below (subst (λ (l : List (Option (Peer _))). AtStage (Arriving n) o hub l left before) same st) (subst (λ (l : List (Option (Peer _))). taken l < most_open o.limits) same few) less conn turns fault is goes gives admit_next

-- serving stops at its stage
pub stops_served : {A : Type 0} {n : ℕ} {o : Origin} {hub : Hub A} {places : List (Option (Peer A))} {left : Left} {now : Option (List Act)} → AtStage (Listening n) o hub places left now → AtStage (Stopped Served n) o hub places left now
stops_served {o = o} {left = left} st = record { acts = st.acts; machine = st.machine; way = (st.way.0, st.way.1, tt); keeping = stops o.store left.store o st.acts st.machine st.way.0 st.keeping; seats = st.seats; adds = st.adds; fewer = st.fewer; book = st.book }

pub stops_turned : {A : Type 0} {n : ℕ} {o : Origin} {hub : Hub A} {places : List (Option (Peer A))} {left : Left} {now : Option (List Act)} → AtStage (Listening n) o hub places left now → AtStage (Stopped Turns n) o hub places left now
stops_turned {o = o} {left = left} st = record { acts = st.acts; machine = st.machine; way = (st.way.0, st.way.1, tt); keeping = stops o.store left.store o st.acts st.machine st.way.0 st.keeping; seats = st.seats; adds = st.adds; fewer = st.fewer; book = st.book }
