-- A run that is interrupted after some of its acts.
use Rattle.std.proofs.Common.{◌≡◌, List, [], ◌∷◌, ◌++◌, Option, Some, None, inl, inr, refl, sym, subst}
use Rattle.store_journal.specs.Disk.{Act as DiskAct}
use Rattle.compound_run.specs.State.{State as ServerState}
use Rattle.compound_run.specs.Covering.{Covers}
use Rattle.who_book.specs.Content.{Content}
use Rattle.nfs_hub.specs.Answer.{Served}
use Rattle.nfs_hub.specs.Machine.{State}
use Rattle.nfs_streams.specs.declared.serving.Limits.{Limits}
use Rattle.nfs_streams.specs.Acts.{Act}
use Rattle.nfs_streams.specs.Keeping.{AlwaysSurvives, CoversReplies, Survives, disk_of}
use Rattle.nfs_streams.specs.Runs.{Runs}
use Rattle.call_store.specs.Crash.{RepresentAfter}
use Rattle.kept_server.specs.Beginning.{AlwaysRepresent, Before, BeginsWith}
use Rattle.kept_server.specs.Law.{CutOffLaw, GoesOnLaw, Leaves}

module _ (history : List DiskAct) (limits : Limits) (start : State) where
  record Cut (prefix : List Act) : Type 0 where
    s : State
    run : Runs limits prefix start s
    survives : Survives history limits prefix start s run

  at_once : (prefix : List Act) (s : State) (run : Runs limits prefix start s) → AlwaysSurvives history limits prefix start s run → Cut prefix
  at_once [] s run always = record { s = s; run = run; survives = always }
  at_once (act ∷ prefix) s run always = record { s = s; run = run; survives = always.0 }

  at_front : (later prefix : List Act) (s : State) (run : Runs limits (later ++ prefix) start s) → AlwaysSurvives history limits (later ++ prefix) start s run → Cut prefix
  at_front [] prefix s run always = at_once prefix s run always
  at_front (act ∷ later) prefix s run always = at_front later prefix run.0 run.1 always.1

  cut_of : (acts later prefix : List Act) → acts ≡ later ++ prefix → (s : State) (run : Runs limits acts start s) → AlwaysSurvives history limits acts start s run → Cut prefix
  cut_of acts later prefix is = subst (λ (l : List Act). (s : State) (run : Runs limits l start s) → AlwaysSurvives history limits l start s run → Cut prefix) (sym is) (at_front later prefix)

  leaves : (prefix : List Act) → Cut prefix → Leaves limits start prefix history
  leaves prefix c =
      let v = c.survives in
      record {
        s = c.s;
        run = c.run;
        next = record { states = v.states; logs = v.represents.0; history = disk_of prefix ++ history; holds = v.represents.1 };
        history_is = refl;
        covers_replies = v.covers_replies;
        goes_on = λ profile book first begins. elim begins [
          | inl old ↦ (old.0, v.covers_replies old.0 old.1, old.2)
          | inr new ↦ absurd (v.represents.2 new.0)
        ];
      }

pub goes_on_law : (A : Type 0) → GoesOnLaw A
goes_on_law A before profile book limits end acts mid new run later prefix is =
    leaves (acts ++ before.history) limits run.serves.start prefix
    (cut_of (acts ++ before.history) limits run.serves.start run.serves.acts later prefix is run.serves.served run.serves.run run.serves.kept)

-- ---- a start that is interrupted

front_stands : (b : Before) (states : List ServerState) (later prefix : List DiskAct) → AlwaysRepresent b states (later ++ prefix) → RepresentAfter b.logs states (prefix ++ b.history)
front_stands b states [] [] always = always
front_stands b states [] (act ∷ prefix) always = always.0
front_stands b states (act ∷ later) prefix always = front_stands b states later prefix always.1

pub cut_off_law : CutOffLaw
cut_off_law before profile book acts meanwhile later prefix is =
    let st = front_stands before meanwhile.states later prefix (subst (AlwaysRepresent before meanwhile.states) is meanwhile.always) in
    record {
      next = record { states = meanwhile.states; logs = st.0; history = prefix ++ before.history; holds = st.1 };
      history_is = refl;
      each = meanwhile.each;
      finished = st.2;
    }
