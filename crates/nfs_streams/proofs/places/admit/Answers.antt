use Rattle.std.proofs.Common.{◌-◌, refl, arith}
use Rattle.nfs_streams.proofs.Steps.{put_off, refused, admits_at}
use Rattle.nfs_streams.proofs.places.admit.Goals as goal

pub returns-in_default-connect-clause-moves : goal.returns-in_default-connect-clause-moves
returns-in_default-connect-clause-moves g c = λ n o same st. refused c.connect.new.self c.in_default-connect.field-0 c.in_default-connect.ensures.gives (put_off st)

pub returns-clause-moves : goal.returns-clause-moves
returns-clause-moves g c = λ n o same st.
    admits_at c.args.places.now c.args.index c.in-Ok-connect.conn (c.args.accept.now.left - 1) _ c.connect.new.self _ c.requires.within (omega (arith, c.requires.within, c.requires.few_places)) c.requires.free st (rw same c.requires.few) (omega (arith, c.requires.some)) refl refl refl c.in-Ok.ensures c.connect.ensures.goes c.in-Ok-connect.ensures.gives c.admit.ensures

pub returns-in_default-clause-moves : goal.returns-in_default-clause-moves
returns-in_default-clause-moves g c = λ n o same st. put_off st
