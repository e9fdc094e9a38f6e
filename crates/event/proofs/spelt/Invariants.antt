-- `event::spelt` meets its contract. The invariant: what is left of the text, read at the current place, is the whole text, read from the start.
-- Assumes nothing.
use Rattle.event.proofs.Texts.{Come}
use Rattle.event.proofs.spelt.Given as goal

abbrev pub invariant-loop-letter : goal.invariant-loop-letter
invariant-loop-letter l = Come l.text l.s l.initial.at l.event l.letter-index l.at
