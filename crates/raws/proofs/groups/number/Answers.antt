-- `raws::groups::number` meets its contract: what encoding 9 promises whatever the section holds, it promises of this one. Assumes nothing.
use Rattle.raws.proofs.Encodings.{of_9}
use Rattle.raws.proofs.groups.number.Goals as goal

pub returns-in-9 : goal.returns-in-9
returns-in-9 c = search of_9
