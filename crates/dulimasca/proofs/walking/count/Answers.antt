-- `walking::count` meets its contract: no definition, one that is not sound, no room for the numbers, a count. Assumes nothing.
use borrow.Author.Tests.{not-true, not-false}
use Rattle.dulimasca.proofs.Counting.{count_no_definition, count_unsound, count_untold, count_told}
use Rattle.dulimasca.proofs.Replying.{long_enough}
use Rattle.dulimasca.proofs.Taken.{handed_on}
use Rattle.dulimasca.proofs.walking.count.Goals as goal

pub returns-in_err-d : goal.returns-in_err-d
returns-in_err-d c = rw (handed_on c.from_residual.ensures.1) (count_no_definition _ _ _ c.in_err-d.ensures)

pub returns-then-not-is_sound : goal.returns-then-not-is_sound
returns-then-not-is_sound c = count_unsound _ _ _ c.in_ok-d.ensures c.is_sound.ensures (not-true _ c.if-not-is_sound.true-raw)

pub returns-in_err-room : goal.returns-in_err-room
returns-in_err-room c =
    rw (handed_on c.from_residual-in_err-room.ensures.1)
    (count_untold _ _ _ c.in_ok-d.ensures c.is_sound.ensures (not-false _ c.if-not-is_sound.false-raw) c.in_err-room.ensures)

pub tell-requires : goal.tell-requires
tell-requires c = long_enough _ _ c.in_ok-room.ensures

pub returns : goal.returns
returns c =
    count_told _ _ _ c.in_ok-d.ensures c.is_sound.ensures (not-false _ c.if-not-is_sound.false-raw) c.in_ok-room.ensures
    c.count.result c.count.ensures c.tally_numbers.ensures c.tell.ensures c.status_by.ensures
