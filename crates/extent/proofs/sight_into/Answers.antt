-- `extent::sight_into` meets its contract: nothing there, a trial by the kind of the byte, or a search behind it. It requires a flag that is right.
use Rattle.extent.proofs.Flag.{barren_point}
use Rattle.extent.proofs.First.{barren_behind, sight_kind, sight_other, sight_nothing}
use Rattle.extent.proofs.sight_into.Goals as goal

pub try_kind-requires : goal.try_kind-requires
try_kind-requires c = barren_behind _ _ c.read_u8.ensures c.in-Some.is c.requires

pub search-found-requires : goal.search-found-requires
search-found-requires c = barren_point c.get_restore_point.ensures (barren_behind _ _ c.read_u8.ensures c.in-Some.is c.requires)

pub returns-in-Some-from_byte : goal.returns-in-Some-from_byte
returns-in-Some-from_byte c =
    sight_kind _ _ c.read_u8.ensures _ c.in-Some.is c.from_byte.ensures c.in-Some-from_byte.is c.try_kind.ensures

pub returns-in-None-from_byte : goal.returns-in-None-from_byte
returns-in-None-from_byte c =
    sight_other _ _ c.read_u8.ensures _ c.in-Some.is c.from_byte.ensures c.in-None-from_byte.is
    c.get_restore_point.ensures c.search-found.ensures c.without_numbers.ensures

pub returns-in-None : goal.returns-in-None
returns-in-None c = sight_nothing _ _ c.read_u8.ensures _ c.in-None.is c.without_numbers-in-None.ensures
