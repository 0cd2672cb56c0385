-- A call with sessions is answered by its fate.
use Rattle.std.proofs.Common.{◌≡◌, ℕ, zero, suc, ◌-◌, ◌≤◌, ◌||◌, Bool, true, false, List, refl, sym, ap, ◌∙◌, subst, length, arith}
use Rattle.std.specs.Prelude.{[], ◌==◌, if◌then◌else◌, is_some, Option, Some, None, Result}
use Rattle.std.specs.List.{list_any}
use Rattle.xdr_wire.specs.Buffer.{Buffer}
use Rattle.xdr_wire.specs.Xdr.{Value}
use Rattle.xdr_wire.specs.Reading.{read_at}
use Rattle.nfs_types.specs.declared.status.Status.{Status}
use Rattle.nfs_types.specs.declared.status.Status.TheVariants as statuses
use Rattle.nfs_ops.specs.Forms.{sequence_args, create_session_args}
use Rattle.nfs_ops.specs.Operations.{Operation, Known}
use Rattle.nfs_ops.specs.Parts.{sequence_session, sequence_slot, sequence_number, session_client, session_sequence}
use Rattle.nfs_ops.specs.Views.{create_session_args_value}
use Rattle.nfs_ops.specs.Rows.{row}
use Rattle.nfs_ops.specs.declared.OpKind.TheVariants as kinds
use Rattle.session_slots.specs.declared.client.Created.{Created}
use Rattle.session_slots.specs.declared.creating.Create.{Create}
use Rattle.session_slots.specs.declared.creating.Made.{Made}
use Rattle.session_slots.specs.declared.session.Begin.{Begin}
use Rattle.session_slots.specs.declared.session.Begin.TheVariants as begins
use Rattle.session_slots.specs.declared.session.NewCall.{NewCall}
use Rattle.session_slots.specs.Keeping.{is_created_of, last_at, passes}
use Rattle.session_slots.specs.Registry.{Client, Registry, client_at}
use Rattle.session_slots.specs.Creating.{CreatesBy, judged_for, judged_unless, cached_result}
use Rattle.session_slots.specs.Retrying.{Fate, Runs, Retries, Fails, AnswersBy}
use Rattle.compound_run.specs.declared.first_operation.Lone.{Lone}
use Rattle.compound_run.specs.declared.first_operation.Lone.TheVariants as lones
use Rattle.compound_run.specs.declared.realm.Realm as realms
use Rattle.compound_run.specs.declared.compound.Ended.{Ended}
use Rattle.compound_run.specs.declared.in_session.IncomingCall.{IncomingCall}
use Rattle.compound_run.specs.declared.kept.Ran.{Ran}
use Rattle.compound_run.specs.Limits.{MAX_RESULTS, MINOR_VERSION}
use Rattle.compound_run.specs.Context.{no_handles}
use Rattle.compound_run.specs.Compound.{Series, args_form, args_in, series}
use Rattle.compound_run.specs.State.{State, Call, RunsBare, start}
use Rattle.compound_run.specs.declared.server.RunEnd.TheVariants.{Replied, Garbage}
use Rattle.compound_run.specs.Views.{point_at, realm_of, settings_of, state_of}
use Rattle.compound_run.specs.Beginning.{Beginning, Ends, Follows, beginning}
use Rattle.compound_run.specs.CreateSession.{kept_for, created_before, create_of, session_made}
use Rattle.compound_run.specs.Sequence.{sequence_done}
use Rattle.compound_run.specs.Sessions.{session_of, outcome_from, opens_without, with_registry}
use Rattle.compound_run.specs.InSession.{Reply, ActsTo, RunsTo, RunsAlone, RunsOnSlot, RunsCall, RunsOf, AnswersInSession, begun_in, in_registry, fate, fate_of, fate_begun, fate_alone, fate_by, given_alone, again, sequenced}
use Rattle.compound_run.specs.SessionViews.{AloneGives, AnswersAs, IsOfClients, IsRanUnless, SequencedCached}
use Rattle.compound_run.specs.SessionViews.{WritesWithin, call_of, lone_view}
use Rattle.compound_run.specs.internal.SessionViews.{Writes, context_after_sequence}
use Rattle.compound_run.specs.Keeping.{is_change, keeps, keeps_of, keeps_only}
use Rattle.compound_run.specs.Delayed.{delayed_only}
use Rattle.compound_run.specs.Delayed.{delayed, delayed_of}
use Rattle.compound_run.specs.Delaying.{Delays, DelaysAnswer, DelaysIn, DelaysOf, DelaysOnSlot, RanBegunDelaying}
use Rattle.compound_run.specs.Delaying.{RunsDelaying}
use Rattle.compound_run.specs.internal.Delaying.{RanByDelaying}
use Rattle.compound_run.specs.Recorded.{IsRan, RunsRecorded}
use Rattle.compound_run.specs.Replaying.{ready, ready_of}
use Rattle.compound_run.specs.Recorded.{Answers as Recorded, AnswersBy as RecordedBy}
use Rattle.compound_run.specs.Runs.{Given, Point}
use Rattle.compound_run.specs.Written.{IsEndOf}

-- ---- a new call of a slot

begins_frames : {A : Type 0} (e : realms.Realm A) (registry : Registry) → e.tree.log.held ≡ []
    → point_at (record e { clients = registry }) no_handles ≡ start (in_registry registry (state_of e))
begins_frames e registry settled = λ i. record {
  realm = with_registry registry (realm_of e);
  log = record { held = settled i; trail = e.tree.log.trail; total = e.tree.log.total };
  settings = settings_of e;
  handles = no_handles;
}

-- the operations ran from this point to that one, and had this end
abbrev RunEnds : Option ℕ → Series → Given → Point → List ℕ → Ended → Point → Type 0
RunEnds refused s done old bytes ended new = (to : RunsTo s done old bytes new) × IsEndOf ended to.0 × DelaysIn refused s.context s.operations to.0

abbrev SlotRuns : {A : Type 0} → IncomingCall → Value sequence_args → List ℕ → NewCall → realms.Realm A → List ℕ → Ended → realms.Realm A → Type 0
SlotRuns call v operations new e bytes ended f =
    (runs : RunsOnSlot (state_of e) (sequenced (call_of call) call.compound.tag.now call.compound.count v operations) new bytes (state_of f)) × IsEndOf ended runs.1.0
    × DelaysOnSlot call.refused (state_of e) (sequenced (call_of call) call.compound.tag.now call.compound.count v operations) new bytes (state_of f) runs

on_slot : {A : Type 0} (call : IncomingCall) (v : Value sequence_args) (operations : List ℕ) (new : NewCall) (e begun f : realms.Realm A) (bytes : List ℕ) → e.tree.log.held ≡ []
    → begun ≡ record e { clients = begun_in (realm_of e) (call_of call) call.compound.count v operations } → length bytes ≤ new.reply_size - 24
    → (ended : Ended) → SequencedCached call.refused (series call.compound.tag.now (context_after_sequence e.tree.book e.tree.world.limits.times call v new) operations) v (sequence_done v new.highest_slot) begun bytes ended f
    → SlotRuns call v operations new e bytes ended f
on_slot call v operations new e begun f bytes settled is few ended kept =
    let context = context_after_sequence e.tree.book e.tree.world.limits.times call v new in
    let tag = call.compound.tag.now in
    let done = sequence_done v new.highest_slot in
    let registry = begun_in (realm_of e) (call_of call) call.compound.count v operations in
    let end = point_at kept.0 kept.1.0.0 in
    let from : point_at begun no_handles ≡ start (in_registry registry (state_of e)) = ap (λ x. point_at x no_handles) is ∙ begins_frames e registry settled in
    let both = subst (λ p. RunEnds call.refused (series tag context operations) done p bytes ended end) from (kept.1.0.1, kept.1.1, kept.1.2) in
    ((end, both.0, ap state_of kept.2, few), both.1, both.2)

pub answers_new : {A : Type 0} (call : IncomingCall) (v : Value sequence_args) (operations : List ℕ) (new : NewCall) (b : Begin) (e begun f : realms.Realm A) (ended : Ended) (passed : Bool) (ran : Ran) (before after : Buffer) → e.tree.log.held ≡ []
    → begins.New new ≡ b → begun ≡ record e { clients = begun_in (realm_of e) (call_of call) call.compound.count v operations } → new.reply_size ≤ 65536
    → WritesWithin (new.reply_size - 24) (λ bytes. SequencedCached call.refused (series call.compound.tag.now (context_after_sequence e.tree.book e.tree.world.limits.times call v new) operations) v (sequence_done v new.highest_slot) begun bytes ended f) before after
    → passed ≡ passes (last_at e.clients (session_of (sequence_session v)) (sequence_slot v)) (sequence_number v)
    → ran.kept ≡ (ended.changed || passed) → ran.delayed ≡ ended.delayed
    → WritesWithin MAX_RESULTS (λ bytes. AnswersAs (fate_by call.compound.tag.now v e.clients b) (RanByDelaying call.refused b (sequenced (call_of call) call.compound.tag.now call.compound.count v operations) (state_of e)) (state_of e) bytes ran (state_of f)) before after
answers_new {A} call v operations new b e begun f ended passed ran before after settled outcome is most w passing kept delayed =
    let s = state_of e in
    let t = state_of f in
    let tag = call.compound.tag.now in
    let runs = on_slot call v operations new e begun f w.0 settled is w.3 ended w.1 in (
      w.0,
      subst (λ x. AnswersAs (fate_by tag v e.clients x) (RanByDelaying call.refused x (sequenced (call_of call) tag call.compound.count v operations) s) s w.0 ran t) outcome (
        (
          runs.0,
          record {
            kept = kept ∙ (ap (λ c. c || passed) runs.1.changed ∙ ap (λ p. list_any is_change runs.0.1.0 || p) passing);
            delayed = delayed ∙ runs.1.delayed;
          },
        ),
        runs.2,
      ),
      w.2,
      omega (arith, w.3, most),
    )

-- ---- the fates that are known before any operation runs

pub is_nothing : (ran : Ran) → ran ≡ record { kept = false; delayed = None } → IsRan ran false None
is_nothing ran is = record { kept = ap (λ (r : Ran). r.kept) is; delayed = ap (λ (r : Ran). r.delayed) is }

pub answers_known : (f : Fate Reply) (run : List ℕ → Ran → State → Type 0) (old new : State) (bytes : List ℕ) (ran : Ran) (before after : Buffer) → f ≡ Retries (Some bytes) → new ≡ old → IsRan ran false None → Writes MAX_RESULTS bytes before after
    → WritesWithin MAX_RESULTS (λ results. AnswersAs f run old results ran new) before after
answers_known f run old new bytes ran before after is same nothing w = (bytes, subst (λ x. AnswersAs x run old bytes ran new) (sym is) (refl, same, nothing), w.0, w.1)

pub answers_refused : (f : Fate Reply) (run : List ℕ → Ran → State → Type 0) (old new : State) (bytes : List ℕ) (ran : Ran) (before after : Buffer) → f ≡ Fails (Some bytes) → new ≡ old → IsRan ran false None → Writes MAX_RESULTS bytes before after
    → WritesWithin MAX_RESULTS (λ results. AnswersAs f run old results ran new) before after
answers_refused f run old new bytes ran before after is same nothing w = (bytes, subst (λ x. AnswersAs x run old bytes ran new) (sym is) (refl, same, nothing), w.0, w.1)

-- ---- an operation that is the only one

-- if only clients and opens change, only these parts of the realm change
of_clients : {A : Type 0} (e f : realms.Realm A) → IsOfClients e f → state_of f ≡ record (state_of e) { realm = realm_of f }
of_clients e f others = ap state_of others ∙ ap (λ r. record (state_of e) { realm = r }) (sym (ap realm_of others))

some_same : (a b : Result Created Status) → Some a ≡ Some b → a ≡ b
some_same a b e = cc

-- a retry of the last CREATE_SESSION of a client
again_by : (o : Option (Result Created Status)) (kept : Result Created Status) (c : Client) (r : Registry) (a : Create) (made : Made) (new : Registry) → o ≡ Some kept
    → CreatesBy (judged_unless o c r a) r a made new → (made ≡ record { result = kept; removed = None }) × (new ≡ r)
again_by None kept c r a made new is creates = cc
again_by (Some k) kept c r a made new is creates = (creates.0 ∙ ap (λ x. let m : Made = record { result = x; removed = None } in m) (some_same k kept is), creates.1)

again_for : (o : Option Client) (kept : Result Created Status) (r : Registry) (a : Create) (made : Made) (new : Registry) → kept_for a.sequence o ≡ Some kept
    → CreatesBy (judged_for o r a) r a made new → (made ≡ record { result = kept; removed = None }) × (new ≡ r)
again_for None kept r a made new is creates = cc
again_for (Some c) kept r a made new is creates = again_by (cached_result c.created a.sequence) kept c r a made new is creates

-- whether a CREATE_SESSION is a retry, by the record of its client
again_is : (o : Option Client) (sequence : ℕ) → is_created_of o sequence ≡ is_some (kept_for sequence o)
again_is None sequence = refl
again_is (Some c) sequence = refl

-- the facts of an operation that ran; no other is made to fail its allocation
abbrev RunAlone : Call → List ℕ → Operation → State → List ℕ → Ran → State → Type 0
RunAlone call tag op old bytes ran new =
    (runs : RunsAlone call tag op old bytes new) × IsRan ran (keeps_only call tag op old bytes new runs) (delayed_only call tag op old bytes new runs)

abbrev RanAlone : Call → List ℕ → Operation → State → List ℕ → Ran → State → Type 0
RanAlone call tag op old bytes ran new = (outcome : RunAlone call tag op old bytes ran new) × Unit {0}

created_alone : {A : Type 0} (o : Option (Result Created Status)) (call : Call) (v : Value create_session_args) (tag : List ℕ) (e f : realms.Realm A) (bytes : List ℕ) (ran : Ran) → created_before v (realm_of e) ≡ o → IsOfClients e f
    → (acts : ActsTo call.caller (Known kinds.CreateSession v) tag (realm_of e) bytes (realm_of f)) → IsRanUnless (is_some o) ran (Known kinds.CreateSession v) acts.0
    → AnswersAs (again tag o) (RanAlone call tag (Known kinds.CreateSession v) (state_of e)) (state_of e) bytes ran (state_of f)
created_alone None call v tag e f bytes ran is others acts kept = (((acts, of_clients e f others), kept), tt)
created_alone (Some kept) call v tag e f bytes ran is others acts nothing =
    let a = acts.1 in
    let same = again_for (client_at e.clients v.0) kept e.clients (create_of e.lasting call.caller v) a.made f.clients is a.creates in
    let outcome = a.outcome_is ∙ ap (λ (m : Made). outcome_from session_made m.result) same.0 in
    let realm = a.others ∙ λ i. record (realm_of e) { registry = same.1 i; opens = opens_without (same.0 i).removed (realm_of e).opens } in (
      ap Some (acts.2 ∙ ap (given_alone tag (row kinds.CreateSession).number) outcome),
      of_clients e f others ∙ ap (λ r. record (state_of e) { realm = r }) realm,
      nothing,
    )

alone_as : {A : Type 0} (lone : Lone) (call : Call) (tag : List ℕ) (e f : realms.Realm A) (bytes : List ℕ) (ran : Ran) → IsOfClients e f → AloneGives call.caller (lone_view lone) tag (realm_of e) bytes ran (realm_of f)
    → AnswersAs (fate_alone tag (lone_view lone) (realm_of e)) (RanAlone call tag (lone_view lone) (state_of e)) (state_of e) bytes ran (state_of f)
alone_as (lones.ExchangeId a) call tag e f bytes ran others acts = (((acts.0, of_clients e f others), acts.1), tt)
alone_as (lones.CreateSession a) call tag e f bytes ran others acts =
    let v = create_session_args_value a in
    created_alone (created_before v (realm_of e)) call v tag e f bytes ran refl others acts.0
    (subst (λ b. IsRanUnless b ran (Known kinds.CreateSession v) acts.0.0) (again_is (client_at e.clients (session_client v)) (session_sequence v)) acts.1)
alone_as (lones.DestroySession a) call tag e f bytes ran others acts = (((acts.0, of_clients e f others), acts.1), tt)
alone_as (lones.DestroyClientId a) call tag e f bytes ran others acts = (((acts.0, of_clients e f others), acts.1), tt)

pub answers_alone : {A : Type 0} (lone : Lone) (call : Call) (tag : List ℕ) (e f : realms.Realm A) (ran : Ran) (before after : Buffer) → IsOfClients e f
    → WritesWithin MAX_RESULTS (λ bytes. AloneGives call.caller (lone_view lone) tag (realm_of e) bytes ran (realm_of f)) before after
    → WritesWithin MAX_RESULTS (λ bytes. AnswersAs (fate_alone tag (lone_view lone) (realm_of e)) (RanAlone call tag (lone_view lone) (state_of e)) (state_of e) bytes ran (state_of f)) before after
answers_alone lone call tag e f ran before after others w = (w.0, alone_as lone call tag e f w.0 ran others w.1, w.2, w.3)

-- ---- a call

-- the call begins as it was decoded
pub begun_as : (b c : Beginning) (call : Call) (tag : List ℕ) (count : ℕ) (refused : Option ℕ) (old new : State) (ran : Ran) (before after : Buffer) → b ≡ c
    → WritesWithin MAX_RESULTS (λ bytes. AnswersAs (fate_begun old call tag count b) (RanBegunDelaying call tag count b refused old) old bytes ran new) before after
    → WritesWithin MAX_RESULTS (λ bytes. AnswersAs (fate_begun old call tag count c) (RanBegunDelaying call tag count c refused old) old bytes ran new) before after
begun_as b c call tag count refused old new ran before after is w =
    (w.0, subst (λ x. AnswersAs (fate_begun old call tag count x) (RanBegunDelaying call tag count x refused old) old w.0 ran new) is w.1, w.2, w.3)

-- the facts of a call of these arguments
abbrev RanOf : Call → Option (Value args_form × List ℕ) → State → Reply → Ran → State → Type 0
RanOf call a old reply ran new = (runs : RunsOf call a old reply new) × IsRan ran (keeps_of call a old reply new runs) (delayed_of call a old reply new runs)

abbrev RanOfDelaying : Option ℕ → Call → Option (Value args_form × List ℕ) → State → Reply → Ran → State → Type 0
RanOfDelaying refused call a old reply ran new = (outcome : RanOf call a old reply ran new) × DelaysOf refused call a old reply new outcome.0

-- the facts of a call of this fate, on replay
abbrev pub RepliesBy : Option ℕ → Fate Reply → Call → State → Reply → Ran → State → Type 0
RepliesBy refused f call old reply ran new = (answers : RecordedBy f call old reply ran new) × DelaysAnswer refused f call old reply ran new answers

answered_by : (refused : Option ℕ) (f : Fate Reply) (call : Call) (tag : List ℕ) (minor count : ℕ) (operations bytes : List ℕ) (old : State) (ran : Ran) (new : State) → args_in (read_at args_form call.arguments) ≡ Some ((tag, (minor, count)), operations)
    → AnswersAs f (RanBegunDelaying call tag count (beginning minor count operations) refused old) old bytes ran new → RepliesBy refused f call old (Some bytes) ran new
unfolding RunsCall keeps delayed Delays
answered_by refused Runs call tag minor count operations bytes old ran new read runs = subst (λ a. RanOfDelaying refused call a old (Some bytes) ran new) (sym read) runs
answered_by refused (Retries reply) call tag minor count operations bytes old ran new read known = (known, tt)
answered_by refused (Fails reply) call tag minor count operations bytes old ran new read known = (known, tt)

pub answers_call : (refused : Option ℕ) (s old : State) (ran : Ran) (new : State) (call : Call) (v : Value args_form) (operations bytes : List ℕ) → s ≡ old → args_in (read_at args_form call.arguments) ≡ Some (v, operations)
    → AnswersAs (fate_begun old call v.0 v.1.1 (beginning v.1.0 v.1.1 operations)) (RanBegunDelaying call v.0 v.1.1 (beginning v.1.0 v.1.1 operations) refused old) old bytes ran new
    → RepliesBy refused (fate s call) call s (Some bytes) ran new
unfolding fate
answers_call refused s old ran new call v operations bytes is read answer =
    subst (λ x. RepliesBy refused (fate x call) call x (Some bytes) ran new) (sym is)
    (subst (λ a. RepliesBy refused (fate_of old call a) call old (Some bytes) ran new) (sym read)
    (answered_by refused (fate_begun old call v.0 v.1.1 (beginning v.1.0 v.1.1 operations)) call v.0 v.1.0 v.1.1 operations bytes old ran new read answer))

-- a call whose operation is made to fail its allocation is answered as any other
pub recorded_by : (refused : Option ℕ) (old : State) (call : Call) (ran : Option Ran) (before after : Buffer) (new : State) → RunsDelaying refused old call ran before after new → RunsRecorded old call ran before after new
recorded_by refused old call (Some ran) before after new runs = (runs.0, runs.1.0, runs.2, runs.3)
recorded_by refused old call None before after new runs = runs

-- the slot of the call lags before the call runs
pub replayed_by : (refused : Option ℕ) (old lagged : State) (call : Call) (ran : Option Ran) (before after : Buffer) (new : State) → lagged ≡ ready_of (args_in (read_at args_form call.arguments)) old
    → RunsDelaying refused lagged call ran before after new → RunsDelaying refused (ready call old) call ran before after new
unfolding ready
replayed_by refused old lagged call ran before after new is runs = subst (λ s. RunsDelaying refused s call ran before after new) is runs

-- the facts of a call don't affect its answer
pub answered_in_session : (old : State) (call : Call) (reply : Reply) (ran : Ran) (new : State) → Recorded old call reply ran new → AnswersInSession old call reply new
answered_in_session old call reply ran new answers = of (fate old call) answers
  where
    of : (f : Fate Reply) → RecordedBy f call old reply ran new → AnswersBy RunsCall f call old reply new
    of Runs a = a.0
    of (Retries kept) a = (a.0, a.1)
    of (Fails refusal) a = (a.0, a.1)

pub recorded_some : (old : State) (call : Call) (ran : Ran) (before after : Buffer) (new : State) → RunsRecorded old call (Some ran) before after new → RunsBare (AnswersInSession old call) Replied before after new
recorded_some old call ran before after new runs = (runs.0, answered_in_session old call (Some runs.0) ran new runs.1, runs.2, runs.3)

pub recorded_none : (old : State) (call : Call) (before after : Buffer) (new : State) → RunsRecorded old call None before after new → RunsBare (AnswersInSession old call) Garbage before after new
recorded_none old call before after new runs = (answered_in_session old call None (record { kept = false; delayed = None }) new runs.0, runs.1)

-- ---- a COMPOUND that begins with a SEQUENCE has an operation

pub has_some : (minor count : ℕ) (operations : List ℕ) (v : Value sequence_args) (rest : List ℕ) → Follows v rest ≡ beginning minor count operations → 1 ≤ count
has_some minor zero operations v rest is = of (minor == MINOR_VERSION) is
  where
    of : (a : Bool) → Follows v rest ≡ (if a then Ends statuses.Ok else Ends statuses.MinorVersMismatch) → 1 ≤ 0
    of true is = cc
    of false is = cc
has_some minor (suc n) operations v rest is = omega arith
