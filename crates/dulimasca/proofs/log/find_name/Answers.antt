-- `log::find_name` meets its contract: no definition, no such kind, no room for the numbers, a name, none. Assumes nothing.
use Rattle.dulimasca.proofs.Naming.{name_no_definition, name_no_kind, name_untold, name_there, name_none}
use Rattle.dulimasca.proofs.Replying.{long_enough}
use Rattle.dulimasca.proofs.Taken.{handed_on}
use Rattle.dulimasca.proofs.log.find_name.Goals as goal

pub returns-in_err-d : goal.returns-in_err-d
returns-in_err-d c = rw (handed_on c.from_residual.ensures.1) (name_no_definition _ _ _ _ _ _ c.in_err-d.ensures)

pub returns-in_err-of : goal.returns-in_err-of
returns-in_err-of c = rw (handed_on c.from_residual-in_err-of.ensures.1) (name_no_kind _ _ _ _ _ _ c.in_ok-d.ensures c.in_err-of.ensures)

pub returns-in_err-room : goal.returns-in_err-room
returns-in_err-room c =
    rw (handed_on c.from_residual-in_err-room.ensures.1) (name_untold _ _ _ _ _ _ c.in_ok-d.ensures c.in_ok-of.ensures c.in_err-room.ensures)

pub tell-requires : goal.tell-requires
tell-requires c = long_enough _ _ c.in_ok-room.ensures

pub tell-requires-in-None : goal.tell-requires-in-None
tell-requires-in-None c = long_enough _ _ c.in_ok-room.ensures

pub returns-in-Some : goal.returns-in-Some
returns-in-Some c =
    name_there _ _ _ _ _ _ c.in_ok-d.ensures c.in_ok-of.ensures c.in_ok-room.ensures c.in-Some.name c.in-Some.ensures c.tell.ensures

pub returns-in-None : goal.returns-in-None
returns-in-None c =
    name_none _ _ _ _ _ _ c.in_ok-d.ensures c.in_ok-of.ensures c.in_ok-room.ensures c.in-None.ensures c.tell-in-None.ensures
